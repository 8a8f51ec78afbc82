use Rattle.std.proofs.Common.{List, length, sym, ap, ◌∙◌, subst}
use Rattle.std.proofs.lemmas.List.{length-map}
use Rattle.net_core.specs.declared.gate.Gate as gate
use Rattle.vlog_text.specs.declared.raw.RawGate.{RawGate}
use Rattle.vlog_text.specs.Standing.{resolved}
use Rattle.vlog_order.specs.Named.{AllNamed}
use Rattle.vlog_names.specs.Numbers.{capped_gate}
use Rattle.vlog_elaborate.proofs.TextGates.{all_named, order_is, order_below}
use Rattle.vlog_elaborate.proofs.check.order_text.Goals as goal

pub order_gates-requires : goal.order_gates-requires
order_gates-requires c =
    subst (λ (gs : List gate.Gate). AllNamed (length c.args.gates.now) gs) (sym c.requires.gates)
    (all_named c.args.raw.now c.requires.raw (length c.args.gates.now)
    (ap length c.requires.gates
    ∙ length-map c.args.raw.now.gates (λ (g : RawGate). capped_gate (resolved c.args.raw.now g))))

pub returns-clause-order : goal.returns-clause-order
returns-clause-order c =
    order_is c.args.raw.now c.args.gates.now c.in_ok-order_gates.field-0.items c.requires.gates
    c.in_ok-order_gates.ensures

pub returns-clause-there : goal.returns-clause-there
returns-clause-there c = order_below c.args.gates.now c.in_ok-order_gates.field-0.items c.in_ok-order_gates.ensures
