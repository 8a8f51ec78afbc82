-- The uses in the circles of their users.
use Rattle.std.proofs.Common.{◌≡◌, ◌≤◌, ◌<◌, ◌+◌, ℕ, Bool, true, false, ◌⊎◌, inl, inr, List, length, get_or, Option}
use Rattle.std.proofs.Common.{Some, None, refl, sym, ap, subst, ◌∙◌, arith}
use Rattle.std.specs.Global.{Vec}
use Rattle.std.specs.Prelude.{slice_get, if◌then◌else◌, nat_eq}
use Rattle.std.specs.Option.{option_eq}
use Rattle.std.proofs.lemmas.Option.{slice_get_within}
use Rattle.pbs_base.specs.declared.refusal.Span.{Span}
use Rattle.pbs_check.specs.declared.graph.Link.{Link}
use Rattle.pbs_check.specs.inner.Circles.{AreRound, HasRoot, Rooted, AreAllRoots, round_span}
use Rattle.pbs_check.specs.Least.{span_le, IsLeast, least_of, least_by}
use Rattle.pbs_check.specs.inner.Links as links
use Rattle.pbs_check.specs.inner.Links.{At, Leads, IsRecursive, Round, HasRecursion, HasRecursionTo}
use Rattle.pbs_check.proofs.CircleLemmas.{one_use, round_back, round_on}
use Rattle.pbs_check.proofs.LeastLemmas.{span_refl, least_either, least_same, least_by_is, OneOf, ByItem, below_cases}
use Rattle.pbs_check.proofs.SearchLemmas.{same_mark, mark_same}
use Rattle.pbs_check.proofs.UserLemmas.{at_number}

data LinkRound (roots : List (Option ℕ)) (root : Option ℕ) (l : Link) (s : Span) : Type 0 where
  InCircle : option_eq nat_eq (get_or roots l.to None) root ≡ true → l.span ≡ s → LinkRound roots root l s

link_least : (roots : List (Option ℕ)) (root : Option ℕ) (l : Link)
    → IsLeast (LinkRound roots root l) (round_span roots root l)
link_least roots root l = chosen (option_eq nat_eq (get_or roots l.to None) root) refl
  where
    only : {s : Span} → LinkRound roots root l s → span_le l.span s ≡ true
    only (InCircle is same) = let P : Span → Type 0 = λ t. span_le l.span t ≡ true in subst P same (span_refl l.span)

    none : {s : Span} → option_eq nat_eq (get_or roots l.to None) root ≡ false → LinkRound roots root l s → ⊥
    none other (InCircle is same) = let clash : true ≡ false = sym is ∙ other in cc

    chosen : (b : Bool) → option_eq nat_eq (get_or roots l.to None) root ≡ b
        → IsLeast (LinkRound roots root l) (if b then Some l.span else None)
    chosen true is = (InCircle is refl, λ s p. only p)
    chosen false is = λ s p. none is p

pub recursion_is : (uses : List (Vec Link)) (roots : List (Option ℕ)) (n : ℕ) (v : Vec Link) → AreAllRoots uses roots
    → slice_get uses n ≡ Some v
    → IsLeast (IsRecursive uses n) (least_by (round_span roots (get_or roots n None)) v.items)
recursion_is uses roots n v are there =
    least_same (OneOf (LinkRound roots (get_or roots n None)) v.items) (IsRecursive uses n)
    (least_by (round_span roots (get_or roots n None)) v.items) (λ s p. to p) (λ s p. from p)
    (least_by_is (LinkRound roots (get_or roots n None)) (round_span roots (get_or roots n None))
    (link_least roots (get_or roots n None)) v.items)
  where
    rooted : HasRoot roots n
    rooted = are.all n (slice_get_within uses n v there)

    leads_back : (k : ℕ) → get_or roots k None ≡ get_or roots n None → HasRoot roots n → Leads uses n k
    leads_back k same (Rooted {root = c} is) =
        (round_on (round_back (are.known.sound c n is)) (are.known.sound c k (same ∙ is))).back

    same_circle : (k : ℕ) → AreRound uses n k → HasRoot roots n → get_or roots k None ≡ get_or roots n None
    same_circle k round (Rooted {root = c} is) =
        are.known.whole c n k is (round_on (are.known.sound c n is) round) ∙ sym is

    to : {s : Span} → OneOf (LinkRound roots (get_or roots n None)) v.items s → IsRecursive uses n s
    to {s = s} (ByItem {x = l} here (InCircle is same)) =
        let P : Span → Type 0 = IsRecursive uses n in
        let e = same_mark (get_or roots l.to None) (get_or roots n None) is in
        subst P same (Round (At there here) (leads_back l.to e rooted))

    from : {s : Span} → IsRecursive uses n s → OneOf (LinkRound roots (get_or roots n None)) v.items s
    from {s = s} (Round {used = used} uses_it leads) =
        let e = same_circle used (record { forth = one_use uses_it; back = leads }) rooted in
        ByItem (at_number uses n used s v there uses_it)
        (InCircle (ap (λ o. option_eq nat_eq o (get_or roots n None)) e ∙ mark_same (get_or roots n None)) refl)

-- ---- one production after another
later_one : {uses : List (Vec Link)} {n : ℕ} {s : Span} → HasRecursionTo uses n s → HasRecursionTo uses (n + 1) s
later_one (links.Of few round) = links.Of (omega (arith, few)) round

pub below_more : (uses : List (Vec Link)) (n : ℕ) (a b : Option Span) → IsLeast (HasRecursionTo uses n) a
    → IsLeast (IsRecursive uses n) b → IsLeast (HasRecursionTo uses (n + 1)) (least_of a b)
below_more uses n a b p q = least_either (HasRecursionTo uses n) (IsRecursive uses n) (HasRecursionTo uses (n + 1)) a b
    p q (λ s r. later_one r) (λ s r. links.Of (omega arith) r) (λ s r. split r)
  where
    split : {s : Span} → HasRecursionTo uses (n + 1) s → HasRecursionTo uses n s ⊎ IsRecursive uses n s
    split {s = s} (links.Of {user = u} few round) = elim (below_cases u n few) [
      | inl earlier ↦ inl (links.Of earlier round)
      | inr same ↦ let P : ℕ → Type 0 = λ k. IsRecursive uses k s in inr (subst P same round)
    ]

pub below_all : (uses : List (Vec Link)) (n : ℕ) (a : Option Span) → length uses ≤ n → IsLeast (HasRecursionTo uses n) a
    → IsLeast (HasRecursion uses) a
below_all uses n a all = least_same (HasRecursionTo uses n) (HasRecursion uses) a (λ s p. to p) (λ s p. from p)
  where
    to : {s : Span} → HasRecursionTo uses n s → HasRecursion uses s
    to (links.Of few round) = links.Of round

    within : {u : ℕ} {s : Span} → IsRecursive uses u s → u < n
    within {u = u} (Round (At {v = v} at here) leads) = let h = slice_get_within uses u v at in omega (arith, h, all)

    from : {s : Span} → HasRecursion uses s → HasRecursionTo uses n s
    from (links.Of round) = links.Of (within round) round
