use Rattle.std.proofs.Common.{◌≡◌, ◌<◌, List, length, get_or, refl, sym, ap, ◌∙◌, subst, arith}
use Rattle.std.proofs.lemmas.Option.{slice_get_read}
use Rattle.vlog_text.specs.declared.raw.RawReg.{RawReg}
use Rattle.vlog_text.specs.Standing.{pin_wire}
use Rattle.vlog_names.specs.Numbers.{capped}
use Rattle.vlog_names.proofs.Standings.{always_within}
use Rattle.vlog_elaborate.proofs.Parts.{driven, undriven}
use Rattle.vlog_elaborate.proofs.registers.register_wire.Goals as goal

pub bounds-as_slice-n : goal.bounds-as_slice-n
bounds-as_slice-n c =
    subst (λ (rs : List RawReg). c.in-Some.n < length rs) (sym c.as_slice.ensures)
    (always_within c.args.raw.now c.args.checked.now.numbers c.requires.checked.numbers c.args.name.now.word c.in-Some.n
    c.in-Some.ensures)

pub offset_bounds-as_slice-n : goal.offset_bounds-as_slice-n
offset_bounds-as_slice-n c =
    let same : c.in-Some.n < length c.as_slice.result.now =
    subst (λ (rs : List RawReg). c.in-Some.n < length rs) (sym c.as_slice.ensures)
    (always_within c.args.raw.now c.args.checked.now.numbers c.requires.checked.numbers c.args.name.now.word c.in-Some.n
    c.in-Some.ensures) in
    record { fits = omega (arith, c.as_slice.type_inv) }

pub pin-requires : goal.pin-requires
pin-requires c = c.requires.checked.numbers.few

pub returns-in-Some : goal.returns-in-Some
returns-in-Some c =
    let raw = c.args.raw.now in
    let numbers = c.args.checked.now.numbers in
    let n = c.in-Some.n in
    let x = c.index-as_slice-n.result in
    let within = always_within raw numbers c.requires.checked.numbers c.args.name.now.word n c.in-Some.ensures in
    let is : x ≡ get_or raw.regs n x =
    c.index-as_slice-n.is ∙ ap (λ (rs : List RawReg). get_or rs n x) c.as_slice.ensures in
    driven raw numbers c.requires.checked.numbers c.args.name.now c.args.places.now n x c.pin.result
    c.renumber.result c.in-Some.ensures (slice_get_read raw.regs (length raw.regs) n x refl within is)
    c.requires.few c.requires.places
    (c.pin.ensures raw c.requires.checked.numbers
    ∙ ap (λ (y : RawReg). capped (pin_wire raw y.wire)) (sym c.index-as_slice-n.is)) c.renumber.ensures

pub returns-in-None : goal.returns-in-None
returns-in-None c =
    undriven c.args.raw.now c.args.checked.now.numbers c.requires.checked.numbers c.args.name.now c.in-None.ensures
