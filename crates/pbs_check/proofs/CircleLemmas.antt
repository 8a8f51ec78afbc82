-- The circles in which productions use each other.
use Rattle.std.proofs.Common.{◌≡◌, ◌<◌, ◌+◌, ℕ, zero, suc, inl, inr, List, [], ◌∷◌, length, get_or, Option, Some, None}
use Rattle.std.proofs.Common.{refl, sym, ap, subst, ◌∙◌, arith}
use Rattle.std.specs.Global.{Vec}
use Rattle.std.specs.Prelude.{slice_get}
use Rattle.std.proofs.lemmas.Option.{slice_get_within, slice_get-get_or, get_or_from_slice_get}
use Rattle.std.proofs.lemmas.Bool.Decides.{eqb_tells}
use Rattle.pbs_base.specs.declared.refusal.Span.{Span}
use Rattle.pbs_check.specs.declared.circles.Circles.{Circles}
use Rattle.pbs_check.specs.declared.graph.Link.{Link}
use Rattle.pbs_check.specs.inner.Circles.{AreRound, HasRoot, Rooted, AreRoots, AreCircles, KeepsRoots}
use Rattle.pbs_check.specs.inner.Links as links
use Rattle.pbs_check.specs.inner.Links.{HasUse, At, AreTargets, AreUsers, IsClosed, Leads, Step}
use Rattle.pbs_check.specs.inner.Searching as searching
use Rattle.pbs_check.specs.inner.Searching.{LeadsBy, Onward, IsMarked, Spreads}
use Rattle.pbs_check.proofs.TargetLemmas.{use_target, target_use}

-- ---- ways along uses
pub leads_on : {uses : List (Vec Link)} {b c a : ℕ} → Leads uses b a → Leads uses c b → Leads uses c a
leads_on links.Stay more = more
leads_on (Step uses_it first) more = Step uses_it (leads_on first more)

pub one_use : {uses : List (Vec Link)} {a b : ℕ} {s : Span} → HasUse uses a b s → Leads uses b a
one_use uses_it = Step uses_it links.Stay

pub round_same : (uses : List (Vec Link)) (a : ℕ) → AreRound uses a a
round_same uses a = record { forth = links.Stay; back = links.Stay }

pub round_back : {uses : List (Vec Link)} {a b : ℕ} → AreRound uses a b → AreRound uses b a
round_back r = record { forth = r.back; back = r.forth }

pub round_on : {uses : List (Vec Link)} {a b c : ℕ} → AreRound uses a b → AreRound uses b c → AreRound uses a c
round_on r s = record { forth = leads_on r.forth s.forth; back = leads_on s.back r.back }

use_within : {uses : List (Vec Link)} {a b : ℕ} {s : Span} → HasUse uses a b s → a < length uses
use_within {uses = uses} {a = a} (At {v = v} at here) = slice_get_within uses a v at

-- ---- marks
marked_within : (marks : List (Option ℕ)) (root k : ℕ) → IsMarked marks root k → k < length marks
marked_within [] root k is = cc
marked_within (m ∷ marks) root zero is = omega arith
marked_within (m ∷ marks) root (suc k) is = let h = marked_within marks root k is in omega (arith, h)

marked_at : (marks : List (Option ℕ)) (root k : ℕ) → IsMarked marks root k → slice_get marks k ≡ Some (Some root)
marked_at marks root k is = slice_get-get_or marks k None (marked_within marks root k is) ∙ ap Some is

pub unmarked : (marks : List (Option ℕ)) (root k : ℕ) → slice_get marks k ≡ Some None → IsMarked marks root k → ⊥
unmarked marks root k none is =
    let clash : None ≡ Some root = sym (get_or_from_slice_get marks k None None none) ∙ is in cc

same_root : (marks : List (Option ℕ)) (a b k : ℕ) → IsMarked marks a k → IsMarked marks b k → a ≡ b
same_root marks a b k p q = let both : Some a ≡ Some b = sym p ∙ q in cc

-- a production in the circle of one whose circle isn't known isn't in one that is
free : (uses : List (Vec Link)) (roots : List (Option ℕ)) (root k : ℕ) → AreRoots uses roots
    → slice_get roots root ≡ Some None → k < length uses → AreRound uses root k → slice_get roots k ≡ Some None
free uses roots root k are none within round = chosen (get_or roots k None) refl
  where
    chosen : (o : Option ℕ) → get_or roots k None ≡ o → slice_get roots k ≡ Some None
    chosen None is = slice_get-get_or roots k None (omega (arith, within, are.size)) ∙ ap Some is
    chosen (Some c) is = absurd (unmarked roots c root none
        (are.whole c k root is (round_on (are.sound c k is) (round_back round))))

pub not_searched : (uses : List (Vec Link)) (circles : Circles) (root : ℕ) → AreCircles uses circles
    → slice_get circles.roots.items root ≡ Some None → (k : ℕ) → IsMarked circles.back.items root k → ⊥
not_searched uses circles root are none k is = never (are.searched root k is)
  where
    never : HasRoot circles.roots.items root → ⊥
    never (Rooted {root = c} is) = unmarked circles.roots.items c root none is

module _ (uses : List (Vec Link)) (users targets : List (Vec ℕ)) (closed : IsClosed uses) (are : AreUsers uses users)
    (ends : AreTargets uses targets) where
  -- ---- what the two searches find
  back_leads : {labels : List (Option ℕ)} {label : Option ℕ} {root k : ℕ} → LeadsBy users labels label root k
      → Leads uses root k
  back_leads searching.Stay = links.Stay
  back_leads (Onward {via = v} {to = u} used labelled more) = let uses_it = are.sound v u used in
      Step uses_it.1 (back_leads more)

  forth_leads : {labels : List (Option ℕ)} {label : Option ℕ} {root k : ℕ} → LeadsBy targets labels label root k
      → Leads uses k root
  forth_leads searching.Stay = links.Stay
  forth_leads (Onward {via = v} {to = u} used labelled more) = let uses_it = target_use uses targets ends v u used in
      leads_on (forth_leads more) (one_use uses_it.1)

  last_label : {lists : List (Vec ℕ)} {labels : List (Option ℕ)} {label : Option ℕ} {root k : ℕ}
      → LeadsBy lists labels label root k → slice_get labels root ≡ Some label → slice_get labels k ≡ Some label
  last_label searching.Stay first = first
  last_label (Onward used labelled more) first = labelled

  went_back : (roots : List (Option ℕ)) (root : ℕ) → AreRoots uses roots → slice_get roots root ≡ Some None → (from : ℕ)
      → Leads uses root from → Leads uses from root → LeadsBy users roots None root from
  went_back roots root known none from links.Stay home = searching.Stay
  went_back roots root known none from (Step {via = via} {span = s} uses_it more) home =
      Onward (are.complete via from s uses_it (closed from via s uses_it))
      (free uses roots root from known none (use_within uses_it) (record { forth = home; back = Step uses_it more }))
      (went_back roots root known none via more (leads_on home (one_use uses_it)))

  went_forth : (back : List (Option ℕ)) (root k : ℕ) → ((n : ℕ) → AreRound uses root n → IsMarked back root n)
      → Leads uses root k → (x : ℕ) → Leads uses k x → LeadsBy targets back (Some root) root x → Leads uses x root
      → LeadsBy targets back (Some root) root k
  went_forth back root k marked home x links.Stay found reach = found
  went_forth back root k marked home x (Step {via = via} {span = s} uses_it more) found reach =
      let on = leads_on reach (one_use uses_it) in
      went_forth back root k marked home via more
      (Onward (use_target uses targets ends x via s uses_it)
      (marked_at back root via (marked via (record { forth = on; back = leads_on more home }))) found)
      on

  -- ---- one circle more
  module _ (root : ℕ) (old : Circles) (back roots : List (Option ℕ)) (known : AreCircles uses old)
      (none : slice_get old.roots.items root ≡ Some None)
      (went : Spreads users old.roots.items None root old.back.items back)
      (found : Spreads targets back (Some root) root old.roots.items roots) where
    in_back : (k : ℕ) → AreRound uses root k → IsMarked back root k
    in_back k round = went.marked k (went_back old.roots.items root known.roots none k round.back round.forth)

    in_circle : (k : ℕ) → AreRound uses root k → IsMarked roots root k
    in_circle k round =
        found.marked k (went_forth back root k in_back round.back root round.forth searching.Stay links.Stay)

    came_back : (k : ℕ) → IsMarked back root k → LeadsBy users old.roots.items None root k
    came_back k is = elim (went.only k) [
      | inl same ↦ absurd (not_searched uses old root known none k (sym same ∙ is))
      | inr (leads, here) ↦ leads
    ]

    back_from : (k : ℕ) → LeadsBy targets back (Some root) root k → LeadsBy users old.roots.items None root k
    back_from k leads =
        let start = marked_at back root root (went.marked root searching.Stay) in
        came_back k (get_or_from_slice_get back k (Some root) None (last_label leads start))

    only_round : (k : ℕ) → LeadsBy targets back (Some root) root k → AreRound uses root k
    only_round k leads = record { forth = forth_leads leads; back = back_leads (back_from k leads) }

    only_free : (k : ℕ) → LeadsBy targets back (Some root) root k → slice_get old.roots.items k ≡ Some None
    only_free k leads = last_label (back_from k leads) none

    stays : (c k : ℕ) → IsMarked old.roots.items c k → IsMarked roots c k
    stays c k is = elim (found.only k) [
      | inl same ↦ same ∙ is
      | inr (leads, here) ↦ absurd (unmarked old.roots.items c k (only_free k leads) is)
    ]

    is_sound : (c k : ℕ) → IsMarked roots c k → AreRound uses c k
    is_sound c k is = elim (found.only k) [
      | inl same ↦ known.roots.sound c k (sym same ∙ is)
      | inr (leads, here) ↦ let P : ℕ → Type 0 = λ n. AreRound uses n k in
          subst P (same_root roots root c k here is) (only_round k leads)
    ]

    is_whole : (c j k : ℕ) → IsMarked roots c j → AreRound uses c k → IsMarked roots c k
    is_whole c j k is round = elim (found.only j) [
      | inl same ↦ stays c k (known.roots.whole c j k (sym same ∙ is) round)
      | inr (leads, here) ↦
          let e = same_root roots root c j here is in
          let P : ℕ → Type 0 = λ n. AreRound uses n k in let Q : ℕ → Type 0 = λ n. IsMarked roots n k in
          subst Q e (in_circle k (subst P (sym e) round))
    ]

    pub keeps_roots : KeepsRoots old.roots.items roots
    keeps_roots k (Rooted {root = c} is) = Rooted (stays c k is)

    pub has_root : HasRoot roots root
    has_root = Rooted (found.marked root searching.Stay)

    pub circles_more : (new : Circles) → new.roots.items ≡ roots → new.back.items ≡ back → AreCircles uses new
    circles_more new rs bs =
        let P : List (Option ℕ) → Type 0 = AreRoots uses in
        record {
          roots = subst P (sym rs) (record {
            size = found.size ∙ known.roots.size;
            sound = is_sound;
            whole = is_whole;
          });
          size = ap length bs ∙ went.size ∙ known.size;
          searched = λ c k is.
              (let Q : List (Option ℕ) → Type 0 = λ ms. HasRoot ms c in
              let e : get_or back k None ≡ get_or new.back.items k None = ap (λ ms. get_or ms k None) (sym bs) in
              subst Q (sym rs) (seen c k (e ∙ is)));
        }
      where
        seen : (c k : ℕ) → IsMarked back c k → HasRoot roots c
        seen c k is = elim (went.only k) [
          | inl same ↦ keeps_roots c (known.searched c k (sym same ∙ is))
          | inr (leads, here) ↦ let P : ℕ → Type 0 = HasRoot roots in
              subst P (same_root back root c k here is) has_root
        ]

-- ---- every production
-- a production that isn't to be looked at has a circle
pub rooted_at : (roots : List (Option ℕ)) (k : ℕ) → k < length roots → (slice_get roots k ≡ Some None → ⊥)
    → HasRoot roots k
rooted_at roots k within some = chosen (get_or roots k None) refl
  where
    chosen : (o : Option ℕ) → get_or roots k None ≡ o → HasRoot roots k
    chosen None is = absurd (some (slice_get-get_or roots k None within ∙ ap Some is))
    chosen (Some c) is = Rooted is

-- and none bears the mark of one that is to be looked at
pub no_circle : (uses : List (Vec Link)) (roots : List (Option ℕ)) (root : ℕ) → AreRoots uses roots
    → slice_get roots root ≡ Some None → (k : ℕ) → IsMarked roots root k → ⊥
no_circle uses roots root are none k is = unmarked roots root root none
    (are.whole root k root is (round_same uses root))

pub all_more : (roots more : List (Option ℕ)) (n : ℕ) → ((k : ℕ) → k < n → HasRoot roots k) → KeepsRoots roots more
    → HasRoot more n → (k : ℕ) → k < n + 1 → HasRoot more k
all_more roots more n so_far keeps last k few = elim (eqb_tells k n) [
  | inl (_, same) ↦ let P : ℕ → Type 0 = HasRoot more in subst P (sym same) last
  | inr (_, other) ↦ keeps k (so_far k (omega (arith, few, other)))
]
