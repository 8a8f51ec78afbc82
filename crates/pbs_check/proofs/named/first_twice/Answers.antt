use Rattle.std.proofs.Common.{◌==◌, ap, ◌∙◌}
use Rattle.std.specs.HashMap.{get}
use Rattle.std.specs.Cmp.Lexicographic.{pointwise}
use Rattle.pbs_check.specs.Least.{least_of}
use Rattle.pbs_check.proofs.TwiceLemmas.{twice_more}
use Rattle.pbs_check.proofs.named.first_twice.Goals as goal

pub loop-named-preserved : goal.loop-named-preserved
loop-named-preserved c =
    twice_more c.args.names.items c.pop.new.self.items c.loop-named.names.items c.in-Some.named
    (λ name. get (pointwise ◌==◌) c.loop-named.firsts name) (λ name. get (pointwise ◌==◌) c.insert.new.self name)
    c.copied-known.result c.first_of.result c.loop-named.found c.least_of-found.result
    c.in-Some.ensures.items c.loop-named.invariant (c.copied-known.ensures
    ∙ c.get.ensures.value) c.first_of.ensures (λ name. c.in_ok-insert.ensures.updates.0 name)
    (c.least_of-found.ensures ∙ ap (λ o. least_of o c.loop-named.found) c.later_of.ensures)
