-- The uses without their places.
use Rattle.std.proofs.Common.{◌≡◌, ℕ, List, [], ◌∷◌, Option, Some, None, refl, sym, ap, subst, ◌∙◌, inl, inr}
use Rattle.std.specs.Global.{Vec}
use Rattle.std.specs.Prelude.{Contains, slice_get}
use Rattle.std.specs.Option.{option_map}
use Rattle.std.proofs.lemmas.Option.{slice_get-map}
use Rattle.pbs_ast.proofs.Items.{first_item, later_item, no_item, item_cases}
use Rattle.pbs_base.specs.declared.refusal.Span.{Span}
use Rattle.pbs_check.specs.declared.graph.Link.{Link}
use Rattle.pbs_check.specs.inner.Links.{link, targets_of, AreTargets, HasUse, At, HasNext, By}

link_target : (ls : List Link) (l : Link) → Contains ls l → Contains (targets_of ls) l.to
link_target [] l here = absurd (no_item here)
link_target (m ∷ ls) l here = elim (item_cases m ls here) [
  | inl same ↦ let P : Link → Type 0 = λ x. Contains (targets_of (m ∷ ls)) x.to in
      subst P same (first_item m.to (targets_of ls))
  | inr more ↦ later_item m.to (targets_of ls) (link_target ls l more)
]

target_link : (ls : List Link) (k : ℕ) → Contains (targets_of ls) k → (s : Span) × Contains ls (link k s)
target_link [] k here = absurd (no_item here)
target_link (m ∷ ls) k here = elim (item_cases m.to (targets_of ls) here) [
  | inl same ↦ let P : ℕ → Type 0 = λ n. Contains (m ∷ ls) (link n m.span) in
      (m.span, subst P same (first_item m ls))
  | inr more ↦ let rest = target_link ls k more in (rest.0, later_item m ls rest.1)
]

mapped : {X Y : Type 0} (f : X → Y) (o : Option X) (y : Y) → option_map f o ≡ Some y → (x : X) × (o ≡ Some x)
    × (f x ≡ y)
mapped f None y is = cc
mapped f (Some x) y is = (x, refl, cc)

-- the two tables at one number
same_at : (uses : List (Vec Link)) (targets : List (Vec ℕ)) (n : ℕ) → AreTargets uses targets
    → option_map (λ (v : Vec ℕ). v.items) (slice_get targets n)
    ≡ option_map (λ (v : Vec Link). targets_of v.items) (slice_get uses n)
same_at uses targets n are =
    sym (slice_get-map (λ (v : Vec ℕ). v.items) targets n) ∙ ap (λ xs. slice_get xs n) are
    ∙ slice_get-map (λ (v : Vec Link). targets_of v.items) uses n

pub use_target : (uses : List (Vec Link)) (targets : List (Vec ℕ)) → AreTargets uses targets → (user used : ℕ)
    (span : Span) → HasUse uses user used span → HasNext targets user used
use_target uses targets are user used span (At {v = v} at here) =
    let both = same_at uses targets user are
    ∙ ap (option_map (λ (w : Vec Link). targets_of w.items)) at in
    let t = mapped (λ (w : Vec ℕ). w.items) (slice_get targets user) (targets_of v.items) both in
    let P : List ℕ → Type 0 = λ xs. Contains xs used in
    By t.1 (subst P (sym t.2) (link_target v.items (link used span) here))

pub target_use : (uses : List (Vec Link)) (targets : List (Vec ℕ)) → AreTargets uses targets → (user used : ℕ)
    → HasNext targets user used → (span : Span) × HasUse uses user used span
target_use uses targets are user used (By {v = v} at here) =
    let both = sym (same_at uses targets user are) ∙ ap (option_map (λ (w : Vec ℕ). w.items)) at in
    let u = mapped (λ (w : Vec Link). targets_of w.items) (slice_get uses user) v.items both in
    let P : List ℕ → Type 0 = λ xs. Contains xs used in
    let l = target_link u.0.items used (subst P (sym u.2) here) in
    (l.0, At u.1 l.1)
