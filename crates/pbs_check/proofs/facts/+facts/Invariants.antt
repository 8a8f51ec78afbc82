use Rattle.std.proofs.Common.{◌≡◌, drop}
use Rattle.pbs_check.specs.inner.Facts.{after, either, known_of, all_facts, any_facts}
use Rattle.pbs_check.proofs.facts.+facts.Given as goal

abbrev pub invariant-all_facts-loop-item : goal.invariant-all_facts-loop-item
invariant-all_facts-loop-item l = after l.facts (all_facts (known_of l.known) (drop l.item-index l.item-items)) ≡
    all_facts (known_of l.known) l.item-items

abbrev pub invariant-any_facts-loop-item : goal.invariant-any_facts-loop-item
invariant-any_facts-loop-item l = either l.facts (any_facts (known_of l.known) (drop l.item-index l.item-items)) ≡
    any_facts (known_of l.known) l.item-items
