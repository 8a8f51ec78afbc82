-- Whole plans by numbers of groups and of members.
use Rattle.std.proofs.Common.{◌≡◌, ℕ, zero, suc, ◌<◌, inl, inr, List, [], ◌∷◌, length, map, Some, refl, ap, arith}
use Rattle.std.specs.Prelude.{slice_get, slice_index_or}
use Rattle.std.proofs.lemmas.Option.{same_Some}
use Rattle.net_core.specs.declared.codes.Code.{Code}
use Rattle.net_core.specs.declared.codes.CodePlan.{CodePlan}
use Rattle.net_core.specs.Plans.{IsGrouped, IsWhole}
use Rattle.net_encode.specs.Codes.{code_in, codes_of}
use Rattle.net_encode.specs.inner.Plans.{IsIn, AreOnce, IsPlan}
use Rattle.net_encode.specs.inner.Sharing.{AreGroups}

get_held : {X : Type 0} (xs : List X) (k : ℕ) (x : X) → k < length xs → slice_index_or xs k x ≡ x
    → slice_get xs k ≡ Some x
get_held [] k x low is = absurd (omega arith)
get_held (y ∷ xs) zero x low is = ap Some is
get_held (y ∷ xs) (suc k) x low is = get_held xs k x (omega arith) is

held : {X : Type 0} (xs : List X) (k : ℕ) (x : X) → slice_get xs k ≡ Some x
    → (k < length xs) × (slice_index_or xs k x ≡ x)
held [] k x at = absurd (cc)
held (y ∷ xs) zero x at = (omega arith, same_Some y x at)
held (y ∷ xs) (suc k) x at = let rest = held xs k x at in (omega (arith, rest.0), rest.1)

grouped : (plan : CodePlan) (p : ℕ) → IsIn plan.groups p → IsGrouped plan p
grouped plan p seat =
    let group = held plan.groups seat.number seat.group seat.at in
    let member = held seat.group seat.position p seat.there in
    (seat.group, (seat.number, group.0, group.1), (seat.position, member.0, member.1))

seated : (plan : CodePlan) (p : ℕ) → IsGrouped plan p → IsIn plan.groups p
seated plan p (group, (n, low, at), (k, below, there)) = record {
  group = group;
  number = n;
  at = get_held plan.groups n group low at;
  position = k;
  there = get_held group k p below there;
}

groups_once : (plan : CodePlan) → IsWhole plan → AreOnce plan.groups
groups_once plan whole = record {
  once = λ m n i j g h p at at' there there'. whole.once m n i j p g h at there at' there';
}

pub plan_of : (plan : CodePlan) → IsWhole plan → IsPlan (length plan.leaders) plan
plan_of plan whole = record {
  count = refl;
  each = λ p low. elim (whole.each p low) [
    | inl never ↦ inl never
    | inr seat ↦ inr (seated plan _ seat)
  ];
  never = λ p is. let own = whole.never p is in (own.1, λ seat. own.2 (grouped plan p seat));
  leaders = λ p seat. whole.members p (grouped plan p seat);
  once = groups_once plan whole;
  sizes = λ n g at. let group = held plan.groups n g at in whole.sizes g (n, group.0, group.1);
}

pub length_codes : (plan : CodePlan) → length (codes_of plan) ≡ length plan.leaders
length_codes plan = mapped (λ leader. code_in 0 plan.groups leader) plan.leaders
  where
    mapped : (f : ℕ → Code) (xs : List ℕ) → length (map f xs) ≡ length xs
    mapped f [] = refl
    mapped f (x ∷ xs) = ap suc (mapped f xs)

pub groups_right : (places : ℕ) (plan : CodePlan) → IsPlan places plan → AreGroups places plan.groups
groups_right places plan ok = record {
  each = λ n g at. record {
    few = (ok.sizes n g at).1;
    below = λ i p there.
        (ok.leaders p (record { group = g; number = n; at = at; position = i; there = there })).0;
  };
}
