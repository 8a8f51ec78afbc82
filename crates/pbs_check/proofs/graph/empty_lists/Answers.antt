use Rattle.std.proofs.Common.{ℕ, List, [], ◌∷◌, length, sym, ap, subst, ◌∙◌, arith, length-append}
use Rattle.std.specs.Global.{Vec}
use Rattle.pbs_check.specs.inner.Links.{HasNext}
use Rattle.pbs_check.proofs.UserLemmas.{no_lists, nothing_more}
use Rattle.pbs_check.proofs.graph.empty_lists.Goals as goal

abbrev IsEmpty : List (Vec ℕ) → Type 0
IsEmpty lists = (k u : ℕ) → HasNext lists k u → ⊥

pub loop-number-init : goal.loop-number-init
loop-number-init c = record {
  size = ap length c.new-lists.ensures.items;
  none = subst IsEmpty
      (sym c.new-lists.ensures.items) no_lists;
}

pub loop-number-preserved : goal.loop-number-preserved
loop-number-preserved c = record {
  size = let grown = ap length c.in_ok-push.ensures.items ∙ length-append c.loop-number.lists.items
      (c.new.result ∷ []) in omega (arith, grown, c.loop-number.invariant.size);
  none = subst IsEmpty (sym c.in_ok-push.ensures.items) (nothing_more c.loop-number.lists.items c.new.result
      c.new.ensures.items c.loop-number.invariant.none);
}
