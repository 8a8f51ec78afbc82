use Rattle.std.proofs.Common.{Some, sym, ap, ◌∙◌}
use Rattle.std.proofs.lemmas.Bool.{false≢true}
use Rattle.net_tidy.proofs.Reducing.{left_means, left_there}
use Rattle.net_tidy.proofs.pool.Pool.reduced.Goals as goal

pub returns-else-is_same_joint-clause-meaning : goal.returns-else-is_same_joint-clause-meaning
returns-else-is_same_joint-clause-meaning c = λ row is.
    left_means c.args.self.now c.args.j c.in-Some-Join.k c.args.a c.in-Some-Join.first c.in-Some-Join.second c.args.b
    c.left_over.result row (sym c.form_at.ensures ∙ (c.in-Some-Join.is ∙ ap Some c.in-Some-Join.field-0-is))
    (λ e. absurd (false≢true (c.if-is_same_joint.ensures.no e))) c.left_over.ensures is

pub returns-else-is_same_joint-clause-there : goal.returns-else-is_same_joint-clause-there
returns-else-is_same_joint-clause-there c = λ i r fit there.
    left_there c.args.self.now c.in-Some-Join.k c.args.a c.in-Some-Join.first c.in-Some-Join.second c.args.b
    c.left_over.result i r (sym c.form_at.ensures ∙ (c.in-Some-Join.is ∙ ap Some c.in-Some-Join.field-0-is))
    c.left_over.ensures fit there
