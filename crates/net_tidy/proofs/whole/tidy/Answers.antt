use Rattle.std.proofs.Common.{[], ap, ◌∙◌}
use Rattle.net_core.specs.Circuits.{circuit_of}
use Rattle.net_tidy.proofs.Shrinking.{shrunk_circuit}
use Rattle.net_tidy.proofs.Following.{each_there, follows_built}
use Rattle.net_tidy.proofs.Tidying.{tidy_built, tidy_pins, tidy_whole}
use Rattle.net_tidy.proofs.whole.tidy.Goals as goal

pub new-draft-requires : goal.new-draft-requires
new-draft-requires c =
    let made = c.in_ok-gates.field-0 in
    rw (c.in_ok-inputs.ensures, c.inputs.ensures)
    (shrunk_circuit c.args.net.now made.gates made.shown made.next c.gates.ensures.right c.in_ok-gates.ensures)

pub add_outputs-requires-clause-there : goal.add_outputs-requires-clause-there
add_outputs-requires-clause-there c =
    let made = c.in_ok-gates.field-0 in
    each_there c.args.net.now c.new-draft.result made.gates made.shown made.next c.in_ok-gates.ensures
    (c.new-draft.ensures
    ∙ ap (λ names. circuit_of names made.gates made.next []) (c.in_ok-inputs.ensures ∙ c.inputs.ensures))

pub returns-clause-follows : goal.returns-clause-follows
returns-clause-follows c =
    let made = c.in_ok-gates.field-0 in
    let added = c.in_ok-add_outputs.ensures in
    follows_built c.args.net.now c.new-draft.result c.add_outputs.new.d c.finish.result made.gates made.shown made.next
    c.gates.ensures.right c.finish.ensures.right c.in_ok-gates.ensures
    (c.new-draft.ensures
    ∙ ap (λ names. circuit_of names made.gates made.next []) (c.in_ok-inputs.ensures ∙ c.inputs.ensures))
    c.finish.ensures.netlist added.keeps added.inputs added.registers added.names added.shows added.gates

pub returns-clause-tidy : goal.returns-clause-tidy
returns-clause-tidy c =
    let made = c.in_ok-gates.field-0 in
    let added = c.in_ok-add_outputs.ensures in
    tidy_whole c.args.net.now c.new-draft.result c.add_outputs.new.d c.finish.result made.gates made.shown made.next
    c.in_ok-gates.ensures
    (c.new-draft.ensures
    ∙ ap (λ names. circuit_of names made.gates made.next []) (c.in_ok-inputs.ensures ∙ c.inputs.ensures))
    c.finish.ensures.netlist added.registers added.shows added.last

pub returns-clause-built : goal.returns-clause-built
returns-clause-built c =
    let made = c.in_ok-gates.field-0 in
    let added = c.in_ok-add_outputs.ensures in
    tidy_built c.args.net.now c.new-draft.result c.add_outputs.new.d c.finish.result made.gates made.shown made.next
    c.in_ok-gates.ensures
    (c.new-draft.ensures
    ∙ ap (λ names. circuit_of names made.gates made.next []) (c.in_ok-inputs.ensures ∙ c.inputs.ensures))
    c.finish.ensures.netlist added.last

pub returns-clause-pins : goal.returns-clause-pins
returns-clause-pins c =
    let made = c.in_ok-gates.field-0 in
    let added = c.in_ok-add_outputs.ensures in
    tidy_pins c.args.net.now c.new-draft.result c.add_outputs.new.d c.finish.result made.gates made.shown made.next
    c.in_ok-gates.ensures
    (c.new-draft.ensures
    ∙ ap (λ names. circuit_of names made.gates made.next []) (c.in_ok-inputs.ensures ∙ c.inputs.ensures))
    c.finish.ensures.netlist added.registers added.last
