use Rattle.std.proofs.Common.{◌≡◌, ◌++◌, drop}
use Rattle.pbs_names.specs.Naming.{prod_names}
use Rattle.pbs_names.proofs.names.prod_words.Given as goal

abbrev pub invariant-loop-prod : goal.invariant-loop-prod
invariant-loop-prod l = l.words.items ++ prod_names (drop l.prod-index l.prod-items) ≡ prod_names l.prods
