use Rattle.std.proofs.Common.{false, true, [], ◌∷◌, ◌++◌, ap, ◌∙◌}
use Rattle.pbs_text.specs.declared.token.TokenKind.TheVariants.{Ampersand, Bar}
use Rattle.pbs_descent.proofs.TermExits.{unit_bit, negated, bracketed, begins, all_one, all_first, all_more, all_whole}
use Rattle.pbs_descent.proofs.TermExits.{term_one, term_first, term_more, term_whole}
use Rattle.pbs_descent.proofs.terms.+terms.Goals as goal

pub negation-returns-clause-ok : goal.negation-returns-clause-ok
negation-returns-clause-ok t c =
    negated _ _ _ _ _ _ _ _ _ c.in_ok-not_of.ensures.value c.if-depth-eq-MAX_NESTING.false c.requires
    c.in_ok-operand.ensures.ok

pub bracket-returns-clause-ok : goal.bracket-returns-clause-ok
bracket-returns-clause-ok t c =
    bracketed _ _ _ _ _ c.in-Some.field-0-0 _ _ _ _ c.if-depth-eq-MAX_NESTING.false c.requires c.in-Some.ensures
    c.in_ok-inner.ensures.ok

pub all-returns-in_default-clause-ok : goal.all-returns-in_default-clause-ok
all-returns-in_default-clause-ok t c = all_one _ _ _ _ _ _ _ c.in_ok-first.ensures.ok

pub all-loop-after-init : goal.all-loop-after-init
all-loop-after-init t c =
    all_first _ _ _ _ _ _ _ _ (c.in_ok-push.ensures.ok ∙ ap (λ l. l ++ c.in_ok-first.first ∷ []) c.new-items.ensures)
    (begins Ampersand _ _ c.in-Some.field-0.0 c.in-Some.ensures) c.in_ok-first.ensures.ok

pub all-loop-after-preserved : goal.all-loop-after-preserved
all-loop-after-preserved t c =
    all_more _ _ _ _ _ _ _ _ c.in-Some-behind.field-0-0 c.in_ok-next.next _ _ c.in-Some-behind.ensures
    c.in_ok-push-2.ensures.ok c.loop-after.invariant c.in_ok-next.ensures.ok

pub all-returns-clause-ok : goal.all-returns-clause-ok
all-returns-clause-ok t c = all_whole _ _ _ _ _ _ _ c.loop-after.invariant c.in_default-behind.ensures

pub term-returns-in_default-clause-ok : goal.term-returns-in_default-clause-ok
term-returns-in_default-clause-ok t c = term_one _ _ _ _ _ _ _ c.in_ok-first.ensures.ok

pub term-loop-after-init : goal.term-loop-after-init
term-loop-after-init t c =
    term_first _ _ _ _ _ _ _ _ (c.in_ok-push.ensures.ok ∙ ap (λ l. l ++ c.in_ok-first.first ∷ []) c.new-items.ensures)
    (begins Bar _ _ c.in-Some.field-0.0 c.in-Some.ensures) c.in_ok-first.ensures.no_more c.in_ok-first.ensures.ok

pub term-loop-after-preserved : goal.term-loop-after-preserved
term-loop-after-preserved t c =
    term_more _ _ _ _ _ _ _ _ c.in-Some-behind.field-0-0 c.in_ok-next.next _ _ c.in-Some-behind.ensures
    c.in_ok-push-2.ensures.ok c.loop-after.invariant c.in_ok-next.ensures.ok c.in_ok-next.ensures.no_more

pub term-returns-clause-ok : goal.term-returns-clause-ok
term-returns-clause-ok t c = term_whole _ _ _ _ _ _ _ c.loop-after.invariant c.in_default-behind.ensures

pub unit-returns-in-Zero-clause-ok : goal.unit-returns-in-Zero-clause-ok
unit-returns-in-Zero-clause-ok t c = unit_bit _ _ _ _ _ _ c.in-Some.first false c.in-Some.ensures c.in-Zero.is

pub unit-returns-in-One-clause-ok : goal.unit-returns-in-One-clause-ok
unit-returns-in-One-clause-ok t c = unit_bit _ _ _ _ _ _ c.in-Some.first true c.in-Some.ensures c.in-One.is
