-- Rules 5 and 11 are broken where the code finds it.
use Rattle.std.proofs.Common.{◌≡◌, ◌≤◌, ◌<◌, ◌+◌, ℕ, zero, suc, Bool, true, false, ◌⊎◌, inl, inr, List, [], ◌∷◌, length}
use Rattle.std.proofs.Common.{take, Option, Some, None, nat_lt, refl, ap, subst, ◌∙◌, arith, length-append}
use Rattle.std.specs.Prelude.{if◌then◌else◌, slice_get}
use Rattle.std.specs.Option.{option_map}
use Rattle.std.proofs.lemmas.Bool.Decides.{nat_tests}
use Rattle.pbs_base.specs.declared.refusal.Span.{Span}
use Rattle.pbs_ast.specs.declared.syntax.Decl.{Decl}
use Rattle.pbs_ast.specs.declared.syntax.Level.{Level}
use Rattle.pbs_ast.specs.declared.syntax.Spec.{Spec}
use Rattle.pbs_names.specs.Naming.{inputs_of, input_names}
use Rattle.pbs_check.specs.Declaring.{Twice, declared_names, listed, Rule5, DeclaredTwice, ListedTwice, Rule11}
use Rattle.pbs_check.specs.Declaring.{TooManyInputs, TooManyActions, TooManyLevels}
use Rattle.pbs_check.specs.Least.{span_le, IsLeast, least_of, least_by}
use Rattle.pbs_check.specs.inner.Twices.{first_twice}
use Rattle.pbs_check.specs.inner.Stages.{level_twice, found_twice, over_inputs, found_over}
use Rattle.pbs_check.proofs.LeastLemmas.{span_refl, least_either, least_same, least_by_is, OneOf, ByItem}
use Rattle.pbs_check.proofs.TwicePlaces.{first_twice_is}

abbrev TwiceIn : Level → Span → Type 0
TwiceIn l s = Twice (listed l.sets) s

pub rule_5_is : (spec : Spec) → IsLeast (Rule5 spec) (found_twice spec)
rule_5_is spec =
    least_either (Twice (declared_names spec)) (OneOf TwiceIn spec.levels) (Rule5 spec)
    (first_twice (declared_names spec)) (least_by level_twice spec.levels)
    (first_twice_is (declared_names spec)) (least_by_is TwiceIn level_twice (λ l. first_twice_is (listed l.sets))
    spec.levels)
    (λ s t. DeclaredTwice t) (λ s o. in_level o) (λ s r. split r)
  where
    in_level : {s : Span} → OneOf TwiceIn spec.levels s → Rule5 spec s
    in_level (ByItem here t) = ListedTwice here t

    split : {s : Span} → Rule5 spec s → Twice (declared_names spec) s ⊎ OneOf TwiceIn spec.levels s
    split (DeclaredTwice t) = inl t
    split (ListedTwice here t) = inr (ByItem here t)

-- the count of inputs, which stands at n, passes 64
data Passes (n : ℕ) (ds : List Decl) (s : Span) : Type 0 where
  At : (i : ℕ) {d : Decl} → slice_get ds i ≡ Some d → n + length (input_names (take i ds)) ≤ 64
      → 64 < n + length (input_names (take (suc i) ds)) → d.span ≡ s → Passes n ds s

pub head_count : (d : Decl) (ds : List Decl) → length (input_names (d ∷ ds)) ≡ length (inputs_of d) + length
    (input_names ds)
head_count d ds = length-append (inputs_of d) (input_names ds)

below_test : (k : ℕ) (b : Bool) → nat_lt 64 k ≡ b → b ≡ true → 64 < k
below_test k b is set = let h : nat_lt 64 k ≡ true = is ∙ set in grind (arith, nat_tests)

above_test : (k : ℕ) (b : Bool) → nat_lt 64 k ≡ b → b ≡ false → k ≤ 64
above_test k b is unset = let h : nat_lt 64 k ≡ false = is ∙ unset in grind (arith, nat_tests)

passes_here : (n : ℕ) (d : Decl) (ds : List Decl) → n ≤ 64 → 64 < n + length (inputs_of d)
    → IsLeast (Passes n (d ∷ ds)) (Some d.span)
passes_here n d ds few over = (
  At zero refl (omega (arith, few)) (omega (arith, over, head_count d [])) refl,
  λ s p.
      only p,
)
  where
    only : {s : Span} → Passes n (d ∷ ds) s → span_le d.span s ≡ true
    only (At zero {d = x} here few' over' is) =
        let P : Span → Type 0 = λ t. span_le d.span t ≡ true in let same : d ≡ x = cc in subst P
        (ap (λ (x : Decl). x.span) same ∙ is) (span_refl d.span)
    only (At (suc i) here few' over' is) = absurd (omega (arith, few', over, head_count d (take i ds)))

passes_later : (n : ℕ) (d : Decl) (ds : List Decl) (found : Option Span) → n + length (inputs_of d) ≤ 64
    → IsLeast (Passes (n + length (inputs_of d)) ds) found → IsLeast (Passes n (d ∷ ds)) found
passes_later n d ds found few least = least_same (Passes (n + length (inputs_of d)) ds) (Passes n (d ∷ ds)) found
    (λ s p. up p) (λ s p. down p) least
  where
    up : {s : Span} → Passes (n + length (inputs_of d)) ds s → Passes n (d ∷ ds) s
    up (At i here few' over' is) = At (suc i) here (omega (arith, few', head_count d (take i ds)))
        (omega (arith, over', head_count d (take (suc i) ds))) is

    down : {s : Span} → Passes n (d ∷ ds) s → Passes (n + length (inputs_of d)) ds s
    down (At zero here few' over' is) = absurd (omega (arith, few, over', head_count d []))
    down (At (suc i) here few' over' is) = At i here (omega (arith, few', head_count d (take i ds)))
        (omega (arith, over', head_count d (take (suc i) ds))) is

passes_is : (n : ℕ) (ds : List Decl) → n ≤ 64 → IsLeast (Passes n ds) (over_inputs n ds)
passes_is n [] few = λ s p. none p
  where
    none : {s : Span} → Passes n [] s → ⊥
    none (At i here few' over' is) = cc
passes_is n (d ∷ ds) few =
    let m = n + length (inputs_of d) in chosen (nat_lt 64 m) refl (λ fits. passes_is m ds fits)
  where
    chosen : (b : Bool) → nat_lt 64 (n + length (inputs_of d)) ≡ b
        → (n + length (inputs_of d) ≤ 64 → IsLeast (Passes (n + length (inputs_of d)) ds)
        (over_inputs (n + length (inputs_of d)) ds))
        → IsLeast (Passes n (d ∷ ds)) (if b then Some d.span else over_inputs (n + length (inputs_of d)) ds)
    chosen true is rest = passes_here n d ds few (below_test (n + length (inputs_of d)) true is refl)
    chosen false is rest =
        let fits = above_test (n + length (inputs_of d)) false is refl in passes_later n d ds
        (over_inputs (n + length (inputs_of d)) ds) fits (rest fits)

-- the place of an item that is there
data PlaceAt {X : Type 0} (place : X → Span) (o : Option X) (s : Span) : Type 0 where
  Its : {x : X} → o ≡ Some x → place x ≡ s → PlaceAt place o s

place_is : {X : Type 0} (place : X → Span) (o : Option X) → IsLeast (PlaceAt place o) (option_map place o)
place_is place None = λ s p. none p
  where
    none : {s : Span} → PlaceAt place None s → ⊥
    none (Its there is) = cc
place_is place (Some x) = (Its refl refl, λ s p. only p)
  where
    only : {s : Span} → PlaceAt place (Some x) s → span_le (place x) s ≡ true
    only (Its {x = y} there is) =
        let P : Span → Type 0 = λ t. span_le (place x) t ≡ true in let same : x ≡ y = cc in subst P (ap place same
        ∙ is) (span_refl (place x))

abbrev decl_span : Decl → Span
decl_span d = d.span

abbrev level_span : Level → Span
level_span l = l.span

data TooMany (spec : Spec) (s : Span) : Type 0 where
  Actions : PlaceAt decl_span (slice_get spec.actions 64) s → TooMany spec s
  Levels : PlaceAt level_span (slice_get spec.levels 64) s → TooMany spec s

pub rule_11_is : (spec : Spec) → IsLeast (Rule11 spec) (found_over spec)
rule_11_is spec =
    least_either (Passes 0 spec.inputs) (TooMany spec) (Rule11 spec) (over_inputs 0 spec.inputs)
    (least_of (option_map decl_span (slice_get spec.actions 64)) (option_map level_span (slice_get spec.levels 64)))
    (passes_is 0 spec.inputs (omega arith))
    (least_either (PlaceAt decl_span (slice_get spec.actions 64)) (PlaceAt level_span (slice_get spec.levels 64))
    (TooMany spec) (option_map decl_span (slice_get spec.actions 64))
    (option_map level_span (slice_get spec.levels 64))
    (place_is decl_span (slice_get spec.actions 64)) (place_is level_span (slice_get spec.levels 64))
    (λ s p. Actions p) (λ s p. Levels p) (λ s t. either t))
    (λ s p. of_inputs p) (λ s t. of_others t) (λ s r. split r)
  where
    either : {s : Span} → TooMany spec s → PlaceAt decl_span (slice_get spec.actions 64) s ⊎ PlaceAt level_span
        (slice_get spec.levels 64) s
    either (Actions p) = inl p
    either (Levels p) = inr p

    of_inputs : {s : Span} → Passes 0 spec.inputs s → Rule11 spec s
    of_inputs (At i here few over is) =
        let P : Span → Type 0 = Rule11 spec in let next : suc i ≡ i + 1 = omega arith in
        subst P is (TooManyInputs i here (omega (arith, few))
        (omega (arith, over, ap (λ k. length (input_names (take k spec.inputs))) next)))

    of_others : {s : Span} → TooMany spec s → Rule11 spec s
    of_others (Actions (Its there is)) = let P : Span → Type 0 = Rule11 spec in subst P is (TooManyActions there)
    of_others (Levels (Its there is)) = let P : Span → Type 0 = Rule11 spec in subst P is (TooManyLevels there)

    split : {s : Span} → Rule11 spec s → Passes 0 spec.inputs s ⊎ TooMany spec s
    split (TooManyInputs i here few over) =
        let next : suc i ≡ i + 1 = omega arith in
        inl (At i here (omega (arith, few)) (omega
        (arith, over, ap (λ k. length (input_names (take k spec.inputs))) next)) refl)
    split (TooManyActions there) = inr (Actions (Its there refl))
    split (TooManyLevels there) = inr (Levels (Its there refl))
