use Rattle.std.proofs.Common.{◌≡◌, ℕ, ◌==◌, List, cond, Some, None, sym, ap, ◌∙◌}
use Rattle.std.specs.Cmp.Lexicographic.{pointwise}
use Rattle.pbs_check.specs.inner.Facts.{known_of}
use Rattle.pbs_check.proofs.SettleLemmas.{learnt}
use Rattle.pbs_check.proofs.LearnLemmas.{none_from, fewer_unknown}
use Rattle.pbs_check.proofs.settling.learn.Goals as goal

updates : (c : goal.In_ok-insert-in-Some) (name : List ℕ)
    → known_of (record { facts = c.insert.new.self }) name
    ≡ cond (pointwise ◌==◌ c.args.prod.now.name name) (Some c.in-Some.facts) (known_of c.args.known.now name)
updates c name =
    c.in_ok-insert-in-Some.ensures.updates.0 name
    ∙ ap (λ w. cond (pointwise ◌==◌ w name) (Some c.in-Some.facts) (known_of c.args.known.now name))
    (c.in_ok-name-in-Some.ensures ∙ c.bytes.ensures)

pub returns-in_ok-insert-in-Some-clause-settles : goal.returns-in_ok-insert-in-Some-clause-settles
returns-in_ok-insert-in-Some-clause-settles c =
    learnt c.args.prods.now c.args.prod.now c.in-Some.facts (known_of c.args.known.now)
    (known_of (record { facts = c.insert.new.self })) c.requires.first c.requires.there c.requires.settles
    (sym c.expr_facts.ensures ∙ c.in-Some.is) (updates c)

pub returns-in_ok-insert-in-Some-clause-fewer : goal.returns-in_ok-insert-in-Some-clause-fewer
returns-in_ok-insert-in-Some-clause-fewer c is =
    let none : known_of c.args.known.now c.args.prod.now.name ≡ None = none_from
    (known_of c.args.known.now c.args.prod.now.name) (sym c.contains_key.ensures ∙ c.if-contains_key.false) in
    fewer_unknown c.args.prods.now c.args.prod.now c.in-Some.facts (known_of c.args.known.now)
    (known_of (record { facts = c.insert.new.self })) c.requires.there none (updates c)
