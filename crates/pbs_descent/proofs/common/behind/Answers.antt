use Rattle.std.proofs.Common.{sym, ◌∙◌, rules}
use denote.Enum.Bare.{same_true}
use Rattle.pbs_descent.specs.contracts.mark.Mark.{the_type}
use Rattle.pbs_descent.proofs.MarkLemmas.{marked}
use Rattle.pbs_descent.proofs.common.behind.Goals as goal

pub returns-in-Some-mark_of : goal.returns-in-Some-mark_of
returns-in-Some-mark_of c =
    marked _ _ c.in-Some.first c.in-Some-mark_of.found c.args.mark c.in-Some.ensures c.in-Some-mark_of.ensures
    (same_true the_type (search rules) _ _ (sym c.eq.ensures ∙ c.if-eq.true))
