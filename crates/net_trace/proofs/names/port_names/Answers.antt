use Rattle.std.proofs.Common.{subst, sym, ap, ◌∙◌, map}
use Rattle.pbs_base.specs.Words.{AreDifferent}
use Rattle.net_core.specs.declared.netlist.Output.{Output}
use Rattle.net_trace.proofs.WordLists.{outputs_differ, few_found}
use Rattle.net_trace.proofs.names.port_names.Goals as goal

pub from_words-requires : goal.from_words-requires
from_words-requires c =
    let words = c.as_slice.ensures.value
    ∙ (c.in_ok-words.ensures ∙ ap (map (λ (o : Output). o.name)) c.outputs.ensures) in
    subst AreDifferent (sym words) (outputs_differ c.args.net.now c.gates.ensures.right)

pub returns-clause-few : goal.returns-clause-few
returns-clause-few c =
    let words = c.as_slice.ensures.value
    ∙ (c.in_ok-words.ensures ∙ ap (map (λ (o : Output). o.name)) c.outputs.ensures) in
    few_found c.args.net.now _ c.from_words.result c.gates.ensures.right words c.from_words.ensures
