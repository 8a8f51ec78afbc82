use Rattle.std.proofs.Common.{arith, sym, ◌∙◌}
use Rattle.pbs_names.proofs.NameLemmas.{bus_within}
use Rattle.pbs_expand.proofs.TermRows.{equal_over}
use Rattle.pbs_expand.proofs.terms.write_equal.Goals as goal

pub write_literals-requires : goal.write_literals-requires
write_literals-requires c =
    let within = bus_within 0 c.args.inputs.now c.args.name.now c.in-Some.bus (sym c.find_bus.ensures ∙ c.in-Some.is) in
    omega (arith, within, c.requires.few)

pub returns-then-many-room : goal.returns-then-many-room
returns-then-many-room c =
    equal_over c.args.inputs.now c.args.name.now c.in-Some.bus c.args.number c.args.room c.in_ok-many.many
    (sym c.find_bus.ensures ∙ c.in-Some.is) c.in_ok-many.ensures c.if-many-room.true
