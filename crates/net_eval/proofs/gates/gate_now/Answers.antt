use Rattle.std.proofs.Common.{length, refl, sym, ap, subst, ◌∙◌, arith, List}
use Rattle.net_core.specs.declared.gate.Wire.{Wire}
use Rattle.net_core.specs.declared.gate.GateKind.{GateKind}
use Rattle.net_core.specs.Circuits.{AllThere}
use Rattle.net_core.specs.Rows.{output_of}
use Rattle.net_eval.specs.States.{begun_row}
use Rattle.net_eval.proofs.Agreeing.{some_at}
use Rattle.net_eval.proofs.Assigning.{all_there_more, ordered_at}
use Rattle.net_eval.proofs.gates.gate_now.Goals as goal

pub gate_output-requires : goal.gate_output-requires
gate_output-requires c =
    let net = c.args.net.now in
    let r = length c.args.row.now.registers.now in
    let here = some_at net.gates c.args.n c.requires.there in
    let ordered = ordered_at net r net.gates c.requires.circuit c.requires.registers refl in
    subst (λ (ps : List Wire). AllThere 64 r (length c.args.gates.now) ps) (sym (c.pins.ensures here.0 here.1))
    (all_there_more 64 r c.args.n (length c.args.gates.now) here.0.pins (omega arith)
    (ordered.earlier c.args.n here.0 here.1))

pub returns : goal.returns
returns c = λ g e.
    let row = begun_row c.args.row.now c.args.gates.now in
    c.gate_output.ensures
    ∙ ap (λ (k : GateKind). output_of row k c.pins.result.now) (c.kind.ensures g e)
    ∙ ap (λ (ps : List Wire). output_of row g.kind ps) (c.pins.ensures g e)
