-- What holds of a specification that breaks none of the rules.
use Rattle.std.proofs.Common.{◌≡◌, ◌≤◌, ◌<◌, ◌+◌, ℕ, zero, suc, Bool, true, false, ◌⊎◌, inl, inr, List, [], ◌∷◌, ◌++◌}
use Rattle.std.proofs.Common.{map, length, Option, Some, None, nat_lt, nat_eq, refl, sym, ap, subst, ◌∙◌, arith}
use Rattle.std.specs.Prelude.{if◌then◌else◌, slice_get, Contains}
use Rattle.std.specs.Option.{option_map}
use Rattle.std.proofs.lemmas.Bool.Decides.{nat_tests}
use Rattle.pbs_ast.proofs.Items.{first_item, later_item, item_cases}
use Rattle.pbs_base.specs.declared.refusal.Span.{Span}
use Rattle.pbs_base.specs.declared.refusal.Refusal.{Refusal}
use Rattle.pbs_base.specs.declared.refusal.Subject.{Subject}
use Rattle.pbs_base.specs.Words.{AreDifferent}
use Rattle.pbs_ast.specs.declared.syntax.Decl.{Decl}
use Rattle.pbs_ast.specs.declared.syntax.Level.{Level}
use Rattle.pbs_ast.specs.declared.syntax.Prod.{Prod}
use Rattle.pbs_ast.specs.declared.syntax.Spec.{Spec}
use Rattle.pbs_names.specs.Naming.{inputs_of, input_names, action_names, level_names, prod_names, bit_names}
use Rattle.pbs_check.specs.declared.named.Named.{Named}
use Rattle.pbs_check.specs.Checked.{IsBroken, By5, By11, IsFirst, IsUnbroken}
use Rattle.pbs_check.specs.Declaring.{named, declared_by, declared_inputs, declared_actions, declared_levels}
use Rattle.pbs_check.specs.Declaring.{declared_prods, declared_names, Twice, First, Further, DeclaredTwice, Rule5}
use Rattle.pbs_check.specs.Declaring.{Rule11, TooManyActions, TooManyLevels}
use Rattle.pbs_check.specs.Least.{span_le, later_span, IsLeast, least_of}
use Rattle.pbs_check.specs.inner.Stages.{over_inputs, found_over}
use Rattle.pbs_check.proofs.DeclaringRules.{rule_11_is, head_count}

-- ---- at most 64
past : {X : Type 0} (xs : List X) → ((x : X) → slice_get xs 64 ≡ Some x → ⊥) → length xs ≤ 64
past {X = X} xs none = chosen (nat_lt 64 (length xs)) refl
  where
    there : (xs : List X) (k : ℕ) → k < length xs → (x : X) × (slice_get xs k ≡ Some x)
    there [] k h = absurd (omega (arith, h))
    there (x ∷ xs) zero h = (x, refl)
    there (x ∷ xs) (suc k) h = there xs k (omega (arith, h))

    over : (n : ℕ) → nat_lt 64 n ≡ true → 64 < n
    over n h = grind (arith, nat_tests)

    few : (n : ℕ) → nat_lt 64 n ≡ false → n ≤ 64
    few n h = grind (arith, nat_tests)

    chosen : (b : Bool) → nat_lt 64 (length xs) ≡ b → length xs ≤ 64
    chosen true h = let x = there xs 64 (over (length xs) h) in absurd (none x.0 x.1)
    chosen false h = few (length xs) h

counted : (n : ℕ) (ds : List Decl) → n ≤ 64 → over_inputs n ds ≡ None → n + length (input_names ds) ≤ 64
counted n [] few is = omega (arith, few)
counted n (d ∷ ds) few is = chosen (nat_lt 64 (n + length (inputs_of d))) refl
    (λ fits h. counted (n + length (inputs_of d)) ds fits h) is
  where
    small : (k : ℕ) → nat_lt 64 k ≡ false → k ≤ 64
    small k h = grind (arith, nat_tests)

    chosen : (b : Bool) → nat_lt 64 (n + length (inputs_of d)) ≡ b
        → (n + length (inputs_of d) ≤ 64 → over_inputs (n + length (inputs_of d)) ds ≡ None
        → n + length (inputs_of d) + length (input_names ds) ≤ 64)
        → (if b then Some d.span else over_inputs (n + length (inputs_of d)) ds) ≡ None
        → n + length (input_names (d ∷ ds)) ≤ 64
    chosen true h rest is = cc
    chosen false h rest is = let k = rest (small (n + length (inputs_of d)) h) is in omega (arith, k, head_count d ds)

none_found : (spec : Spec) (o : Option Span) → IsLeast (Rule11 spec) o → IsUnbroken spec → o ≡ None
none_found spec None least kept = refl
none_found spec (Some s) least kept = absurd (kept.unbroken 11 s (By11 least.0))

first_none : (a b : Option Span) → least_of a b ≡ None → a ≡ None
first_none None b is = refl
first_none (Some s) None is = cc
first_none (Some s) (Some t) is = cc

pub few_inputs : (spec : Spec) → IsUnbroken spec → length (input_names spec.inputs) ≤ 64
few_inputs spec kept =
    let rest = least_of (option_map (λ (d : Decl). d.span) (slice_get spec.actions 64))
    (option_map (λ l. l.span) (slice_get spec.levels 64)) in
    let few = counted 0 spec.inputs (omega arith) (first_none (over_inputs 0 spec.inputs) rest
    (none_found spec (found_over spec) (rule_11_is spec) kept)) in
    omega (arith, few)

pub few_actions : (spec : Spec) → IsUnbroken spec → length spec.actions ≤ 64
few_actions spec kept = past spec.actions (λ d there. kept.unbroken 11 d.span (By11 (TooManyActions there)))

pub few_levels : (spec : Spec) → IsUnbroken spec → length spec.levels ≤ 64
few_levels spec kept = past spec.levels (λ l there. kept.unbroken 11 l.span (By11 (TooManyLevels there)))

-- ---- no name twice
-- the first list is the second with some left out
data IsPart : List Named → List Named → Type 0 where
  End : IsPart [] []
  Keep : {x : Named} {xs ys : List Named} → IsPart xs ys → IsPart (x ∷ xs) (x ∷ ys)
  Skip : {y : Named} {xs ys : List Named} → IsPart xs ys → IsPart xs (y ∷ ys)

whole_part : (xs : List Named) → IsPart xs xs
whole_part [] = End
whole_part (x ∷ xs) = Keep (whole_part xs)

none_part : (xs : List Named) → IsPart [] xs
none_part [] = End
none_part (x ∷ xs) = Skip (none_part xs)

parts_append : {xs ys zs ws : List Named} → IsPart xs ys → IsPart zs ws → IsPart (xs ++ zs) (ys ++ ws)
parts_append End q = q
parts_append (Keep p) q = Keep (parts_append p q)
parts_append (Skip p) q = Skip (parts_append p q)

part_item : {xs ys : List Named} {x : Named} → IsPart xs ys → Contains xs x → Contains ys x
part_item End here = here
part_item (Keep {x = y} {xs = xs} {ys = ys} p) here = elim (item_cases y xs here) [
  | inl same ↦ let P : Named → Type 0 = Contains (y ∷ ys) in subst P same (first_item y ys)
  | inr more ↦ later_item y ys (part_item p more)
]
part_item (Skip {y = y} {ys = ys} p) here = later_item y ys (part_item p here)

part_twice : {xs ys : List Named} {s : Span} → IsPart xs ys → Twice xs s → Twice ys s
part_twice End t = t
part_twice (Keep p) (First here is) = First (part_item p here) is
part_twice (Keep p) (Further t) = Further (part_twice p t)
part_twice (Skip p) t = Further (part_twice p t)

name_item : (xs : List Named) (n : ℕ) (word : List ℕ) → slice_get (map (λ (x : Named). x.name) xs) n ≡ Some word
    → (x : Named) × Contains xs x × (x.name ≡ word)
name_item [] n word is = cc
name_item (x ∷ xs) zero word is = (x, first_item x xs, cc)
name_item (x ∷ xs) (suc n) word is = let more = name_item xs n word is in (more.0, later_item x xs more.1, more.2)

once_in : (xs : List Named) → ((s : Span) → Twice xs s → ⊥) → (m n : ℕ) (word : List ℕ)
    → slice_get (map (λ (x : Named). x.name) xs) m ≡ Some word
    → slice_get (map (λ (x : Named). x.name) xs) n ≡ Some word → m ≡ n
once_in [] none m n word p q = cc
once_in (x ∷ xs) none zero zero word p q = refl
once_in (x ∷ xs) none zero (suc n) word p q =
    let y = name_item xs n word q in let same : y.0.name ≡ x.name = cc in
    absurd (none (later_span y.0.span x.span) (First y.1 same))
once_in (x ∷ xs) none (suc m) zero word p q =
    let y = name_item xs m word p in let same : y.0.name ≡ x.name = cc in
    absurd (none (later_span y.0.span x.span) (First y.1 same))
once_in (x ∷ xs) none (suc m) (suc n) word p q = ap suc (once_in xs (λ s t. none s (Further t)) m n word p q)

different : (words : List (List ℕ)) (xs : List Named) (spec : Spec) → ((s : Span) → Rule5 spec s → ⊥)
    → IsPart xs (declared_names spec) → map (λ (x : Named). x.name) xs ≡ words → AreDifferent words
different words xs spec none part is =
    let P : List (List ℕ) → Type 0 = AreDifferent in
    subst P is (record { once = once_in xs (λ s t. none s (DeclaredTwice (part_twice part t))) })

-- the inputs with their declarations' places
abbrev inputs_by : Decl → List Named
inputs_by d = map (named d.span) (inputs_of d)

abbrev all_inputs : List Decl → List Named
all_inputs [] = []
all_inputs (d ∷ ds) = inputs_by d ++ all_inputs ds

by_part : (d : Decl) → IsPart (inputs_by d) (declared_by d)
by_part d = chosen (nat_eq d.width 0) refl
  where
    chosen : (b : Bool) → nat_eq d.width 0 ≡ b → IsPart (map (named d.span)
        (if b then d.name ∷ [] else bit_names d.name 0 d.width)) (declared_by d)
    chosen true h = Keep (none_part (map (named d.span) (bit_names d.name 0 d.width)))
    chosen false h = Skip (whole_part (map (named d.span) (bit_names d.name 0 d.width)))

inputs_part : (ds : List Decl) → IsPart (all_inputs ds) (declared_inputs ds)
inputs_part [] = End
inputs_part (d ∷ ds) = parts_append (by_part d) (inputs_part ds)

names_back : (s : Span) (ws : List (List ℕ)) → map (λ (x : Named). x.name) (map (named s) ws) ≡ ws
names_back s [] = refl
names_back s (w ∷ ws) = ap (λ xs. w ∷ xs) (names_back s ws)

map_append : (xs ys : List Named) → map (λ (x : Named). x.name) (xs ++ ys) ≡ map (λ (x : Named). x.name) xs ++ map
    (λ (x : Named). x.name) ys
map_append [] ys = refl
map_append (x ∷ xs) ys = ap (λ ws. x.name ∷ ws) (map_append xs ys)

input_words : (ds : List Decl) → map (λ (x : Named). x.name) (all_inputs ds) ≡ input_names ds
input_words [] = refl
input_words (d ∷ ds) =
    map_append (inputs_by d) (all_inputs ds) ∙ ap (λ ws. ws ++ map (λ (x : Named). x.name) (all_inputs ds))
    (names_back d.span (inputs_of d)) ∙ ap (λ ws. inputs_of d ++ ws) (input_words ds)

action_words : (ds : List Decl) → map (λ (x : Named). x.name) (declared_actions ds) ≡ action_names ds
action_words [] = refl
action_words (d ∷ ds) = ap (λ ws. d.name ∷ ws) (action_words ds)

nil_append : (xs : List Named) → xs ++ [] ≡ xs
nil_append [] = refl
nil_append (x ∷ xs) = ap (λ ys. x ∷ ys) (nil_append xs)

pub different_inputs : (spec : Spec) → IsUnbroken spec → AreDifferent (input_names spec.inputs)
different_inputs spec kept =
    let rest = declared_actions spec.actions ++ (declared_levels spec.levels ++ declared_prods spec.prods) in
    let P : List Named → Type 0 = λ xs. IsPart xs (declared_names spec) in
    different (input_names spec.inputs) (all_inputs spec.inputs) spec (λ s r. kept.unbroken 5 s (By5 r))
    (subst P (nil_append (all_inputs spec.inputs)) (parts_append (inputs_part spec.inputs) (none_part rest)))
    (input_words spec.inputs)

pub different_actions : (spec : Spec) → IsUnbroken spec → AreDifferent (action_names spec.actions)
different_actions spec kept =
    let actions = declared_actions spec.actions in
    let rest = declared_levels spec.levels ++ declared_prods spec.prods in
    let P : List Named → Type 0 = λ xs. IsPart xs (declared_names spec) in
    different (action_names spec.actions) actions spec (λ s r. kept.unbroken 5 s (By5 r))
    (subst P (nil_append actions) (parts_append (none_part (declared_inputs spec.inputs))
    (parts_append (whole_part actions) (none_part rest)))) (action_words spec.actions)

level_words : (ls : List Level) → map (λ (x : Named). x.name) (declared_levels ls) ≡ level_names ls
level_words [] = refl
level_words (l ∷ ls) = ap (λ ws. l.name ∷ ws) (level_words ls)

pub different_levels : (spec : Spec) → IsUnbroken spec → AreDifferent (level_names spec.levels)
different_levels spec kept =
    let levels = declared_levels spec.levels in
    let prods = declared_prods spec.prods in
    let P : List Named → Type 0 = λ xs. IsPart xs (declared_names spec) in
    different (level_names spec.levels) levels spec (λ s r. kept.unbroken 5 s (By5 r))
    (subst P (nil_append levels) (parts_append (none_part (declared_inputs spec.inputs))
    (parts_append (none_part (declared_actions spec.actions)) (parts_append (whole_part levels) (none_part prods)))))
    (level_words spec.levels)

prod_words : (ps : List Prod) → map (λ (x : Named). x.name) (declared_prods ps) ≡ prod_names ps
prod_words [] = refl
prod_words (p ∷ ps) = ap (λ ws. p.name ∷ ws) (prod_words ps)

pub different_prods : (spec : Spec) → ((s : Span) → Rule5 spec s → ⊥) → AreDifferent (prod_names spec.prods)
different_prods spec none =
    different (prod_names spec.prods) (declared_prods spec.prods) spec none
    (parts_append (none_part (declared_inputs spec.inputs)) (parts_append (none_part (declared_actions spec.actions))
    (parts_append (none_part (declared_levels spec.levels)) (whole_part (declared_prods spec.prods)))))
    (prod_words spec.prods)

-- ---- one refusal
abbrev span_of : ℕ → ℕ → Span
span_of start end = record { start = start; end = end }

same_span : (a b : Span) → span_le a b ≡ true → span_le b a ≡ true → a ≡ b
same_span a b p q =
    let start : a.start ≡ b.start = grind (arith, nat_tests) in let end : a.end ≡ b.end = grind (arith, nat_tests) in
    ap (λ n. span_of n a.end) start ∙ ap (λ n. span_of b.start n) end

order : (m n : ℕ) → (m < n) ⊎ ((n < m) ⊎ (m ≡ n))
order zero zero = inr (inr refl)
order zero (suc n) = inl (omega arith)
order (suc m) zero = inr (inl (omega arith))
order (suc m) (suc n) = elim (order m n) [
  | inl less ↦ inl (omega (arith, less))
  | inr (inl more) ↦ inr (inl (omega (arith, more)))
  | inr (inr same) ↦ inr (inr (ap suc same))
]

abbrev refusal_of : Subject → ℕ → Span → Refusal
refusal_of subject rule span = record { subject = subject; rule = rule; span = span }

same_parts : (r s : Refusal) → r.subject ≡ s.subject → r.rule ≡ s.rule → r.span ≡ s.span → r ≡ s
same_parts r s p q t = ap (λ x. refusal_of x r.rule r.span) p ∙ ap (λ n. refusal_of s.subject n r.span) q
    ∙ ap (λ x. refusal_of s.subject s.rule x) t

pub same_refusal : (spec : Spec) (r s : Refusal) → IsFirst spec r → IsFirst spec s → r ≡ s
same_refusal spec r s a b = elim (order r.rule s.rule) [
  | inl less ↦ absurd (b.first r.rule r.span less a.broken)
  | inr (inl more) ↦ absurd (a.first s.rule s.span more b.broken)
  | inr (inr same) ↦
      let P : ℕ → Type 0 = λ n. IsBroken spec n s.span in let Q : ℕ → Type 0 = λ n. IsBroken spec n r.span in
      same_parts r s (a.subject ∙ sym b.subject) same
      (same_span r.span s.span (a.least s.span (subst P (sym same) b.broken)) (b.least r.span (subst Q same a.broken)))
]

pub never_both : (spec : Spec) (r : Refusal) → IsFirst spec r → IsUnbroken spec → ⊥
never_both spec r a kept = kept.unbroken r.rule r.span a.broken
