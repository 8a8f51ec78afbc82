-- Numbers that are given one by one.
use Rattle.std.proofs.Common.{◌≡◌, ℕ, suc, ◌+◌, ◌<◌, ◌≤◌, Bool, true, false, cond, List, [], ◌∷◌, ◌++◌, length}
use Rattle.std.proofs.Common.{map}
use Rattle.std.proofs.Common.{take, Option, Some, None, get_or, refl, sym, ap, ◌∙◌, subst, append-nil, add-one}
use Rattle.std.proofs.Common.{arith}
use Rattle.std.proofs.Common.{length-append}
use Rattle.std.specs.Prelude.{is_some}
use Rattle.std.specs.List.{filter_map, position_from}
use Rattle.vlog_text.specs.declared.raw.RawName.{RawName}
use Rattle.vlog_text.specs.Words.{has_word}
use Rattle.vlog_text.specs.Standing.{drives}
use Rattle.vlog_names.specs.declared.firsts.Firsts.{Firsts}
use Rattle.vlog_names.specs.Names.{first_in, IsFirsts}
use Rattle.vlog_names.specs.inner.Steps.{or_else, Learns}
use Rattle.vlog_names.specs.inner.Rows.{one_or_none}
use Rattle.vlog_names.proofs.Entries.{position_both, take_named, take_all}

module _ {X : Type 0} (f : X → Option RawName) where
  pub record Numbered (xs : List X) (i : ℕ) (firsts : Firsts) (count : ℕ) : Type 0 where
    pub firsts_are : IsFirsts (map (λ (n : RawName). Some n) (filter_map f (take i xs))) firsts
    pub counted : count ≡ length (filter_map f (take i xs))
    pub few : count ≤ i

  learnt : (names : List RawName) (o : Option RawName) (firsts new : Firsts) (count : ℕ)
      → IsFirsts (map (λ (n : RawName). Some n) names) firsts → count ≡ length names → Learns firsts new o count
      → (w : List ℕ)
      → first_in new w ≡ position_from (drives w) 0 (map (λ (n : RawName). Some n) (names ++ one_or_none o))
  learnt names None firsts new count old e learns w =
      learns.finds w ∙ keeps (first_in firsts w) ∙ old.finds w
      ∙ ap (λ ns. position_from (drives w) 0 (map (λ (n : RawName). Some n) ns)) (sym (append-nil names))
    where
      keeps : (o : Option ℕ) → or_else o None ≡ o
      keeps None = refl
      keeps (Some n) = refl
  learnt names (Some name) firsts new count old e learns w =
      learns.finds w ∙ ap (λ o. or_else o (cond (has_word w name) (Some count) None)) (old.finds w)
      ∙ ap (λ n. or_else (position_from (drives w) 0 (map (λ (n : RawName). Some n) names))
      (cond (has_word w name) (Some n) None))
      (omega (arith, e, long names))
      ∙ sym (position_both (drives w) 0 (map (λ (n : RawName). Some n) names) (Some name ∷ []))
      ∙ ap (λ ns. position_from (drives w) 0 ns) (sym (both names))
    where
      long : (ns : List RawName) → length (map (λ (n : RawName). Some n) ns) ≡ length ns
      long [] = refl
      long (n ∷ ns) = ap suc (long ns)

      both : (ns : List RawName)
          → map (λ (n : RawName). Some n) (ns ++ name ∷ []) ≡ map (λ (n : RawName). Some n) ns ++ Some name ∷ []
      both [] = refl
      both (n ∷ ns) = ap (λ xs. Some n ∷ xs) (both ns)

  one_long : (o : Option RawName) → length (one_or_none o) ≡ cond (is_some o) 1 0
  one_long None = refl
  one_long (Some n) = refl

  pub numbered_more : (xs : List X) (i : ℕ) (x : X) (firsts new : Firsts) (count count' : ℕ) → i < length xs
      → x ≡ get_or xs i x → Numbered xs i firsts count → Learns firsts new (f x) count
      → count' ≡ count + cond (is_some (f x)) 1 0 → Numbered xs (i + 1) new count'
  numbered_more xs i x firsts new count count' within at old learns more = record {
    firsts_are = record {
      finds = λ w.
          learnt (filter_map f (take i xs)) (f x) firsts new count old.firsts_are old.counted learns w
          ∙ ap (λ ns. position_from (drives w) 0 (map (λ (n : RawName). Some n) ns)) (sym grown);
    };
    counted =
        more ∙ omega (arith, old.counted, one_long (f x), length-append (filter_map f (take i xs)) (one_or_none (f x)))
        ∙ sym (ap length grown);
    few = omega (arith, more, old.few, short (is_some (f x)));
  }
    where
      grown : filter_map f (take (i + 1) xs) ≡ filter_map f (take i xs) ++ one_or_none (f x)
      grown = ap (λ n. filter_map f (take n xs)) (add-one i) ∙ take_named f xs i x within at

      short : (b : Bool) → cond b 1 0 ≤ 1
      short true = omega arith
      short false = omega arith

  pub numbered_all : (xs : List X) (i : ℕ) (firsts : Firsts) (count : ℕ) → Numbered xs i firsts count → i ≡ length xs
      → IsFirsts (map (λ (n : RawName). Some n) (filter_map f xs)) firsts
  numbered_all xs i firsts count old all =
      subst (λ ys. IsFirsts (map (λ (n : RawName). Some n) (filter_map f ys)) firsts)
      (take_all f xs i all) old.firsts_are

  pub numbered_count : (xs : List X) (i : ℕ) (firsts : Firsts) (count : ℕ) → Numbered xs i firsts count → i ≡ length xs
      → count ≡ length (filter_map f xs)
  numbered_count xs i firsts count old all =
      old.counted ∙ ap (λ ys. length (filter_map f ys)) (take_all f xs i all)

pub some_if : (b : Bool) (n : RawName) → is_some (cond b (Some n) None) ≡ b
some_if true n = refl
some_if false n = refl
