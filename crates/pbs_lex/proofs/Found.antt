-- What the tokens of a text are: its names are words that aren't reserved, and its numbers are small.
use Rattle.std.proofs.Common.{◌≡◌, ℕ, zero, suc, ◌+◌, ◌-◌, ◌<◌, ◌≤◌, List, [], ◌∷◌, ◌++◌, length, take, drop, Bool}
use Rattle.std.proofs.Common.{true, false, nat_lt, Option, Some, None, Result, Ok, Err, refl, sym, subst, arith, ap}
use Rattle.std.proofs.Common.{◌∙◌}
use Rattle.std.specs.Prelude.{if◌then◌else◌, ◌==◌, codes}
use Rattle.std.specs.List.{prefix_len, list_all}
use Rattle.std.specs.Str.{bytes_eq}
use Rattle.std.proofs.lemmas.Bool.Decides.{nat_tests}
use Rattle.std.proofs.lemmas.List.Folds.{length-prefix_len}
use Rattle.std.proofs.lemmas.Str.Parse.{digits_value_short, IsNumeralModel, IsDigitsTest, FoldsDigits, numerals_by_fold}
use Rattle.pbs_base.specs.declared.refusal.Span.{Span}
use Rattle.pbs_text.specs.declared.token.Token.{Token}
use Rattle.pbs_text.specs.declared.token.TokenKind.{TokenKind}
use Rattle.pbs_text.specs.declared.token.Piece.{Piece}
use Rattle.pbs_text.specs.Grammar.{token}
use Rattle.pbs_text.specs.Trees.{word_at}
use Rattle.pbs_text.specs.Lexing.{is_space, is_digit, is_letter, is_word_byte, late_kind, word_kind, digit_kind}
use Rattle.pbs_text.specs.Lexing.{number_kind, limited, bracket_piece, sign_piece, block_end, block_piece, slash_piece}
use Rattle.pbs_text.specs.Lexing.{word_piece, number_piece, first_piece, with_token, with_piece, lex, decimal_from}
use Rattle.std.specs.Int.{IsInRange}
use Rattle.std.proofs.lemmas.Bool.{and_parts}
use Rattle.pbs_text.specs.declared.token.TokenKind.TheVariants as kind
use Rattle.pbs_text.specs.declared.token.Piece.TheVariants as piece

-- ---- tests

pub chosen : {A : Type 0} (S : A → Type 0) (c : Bool) (x y : A) → (c ≡ true → S x) → (c ≡ false → S y)
    → S (if c then x else y)
chosen S true x y f g = f refl
chosen S false x y f g = g refl

pub pick : {A : Type 0} (S : A → Type 0) (c : Bool) (x y : A) → S x → S y → S (if c then x else y)
pick S true x y f g = f
pick S false x y f g = g

-- ---- words and numbers

-- a word of this kind
abbrev pub IsWord : List ℕ → TokenKind → Type 0
IsWord [] k = ⊥
IsWord (b ∷ w) k = (is_letter b ≡ true) × (list_all is_word_byte w ≡ true) × (length w < 64) × (word_kind (b ∷ w) ≡ k)

pub word_byte : (b : ℕ) → is_letter b ≡ true → is_word_byte b ≡ true
word_byte b e = rw e refl

in_range : (c : ℕ) → is_digit c ≡ true → IsInRange 48 57 c
in_range c e = grind (arith, nat_tests)

from_range : (c : ℕ) → IsInRange 48 57 c → is_digit c ≡ true
from_range c r = grind (arith, nat_tests)

pub all_digits : IsNumeralModel (λ ds. list_all is_digit ds ≡ true) (decimal_from 0)
all_digits = numerals_by_fold _ test decimal_from folds
  where
    test : IsDigitsTest (λ ds. list_all is_digit ds ≡ true)
    test = record {
      empty = refl;
      parts = λ c cs h. let p = and_parts (is_digit c) (list_all is_digit cs) h in (in_range c p.0, p.1);
      more = λ c cs r h. rw (from_range c r, h) refl;
    }

    folds : FoldsDigits decimal_from
    folds = record { empty = λ n. refl; more = λ n c cs h. refl }

abbrev pub IsSmall : ℕ → Type 0
IsSmall n = n < 1000000000

-- ---- what a token may be

abbrev pub FoundAs : List ℕ → TokenKind → Type 0
FoundAs w kind.Name = IsWord w kind.Name
FoundAs w (kind.Digit n) = (2 < n) × (n < 9)
FoundAs w (kind.Number n) = IsSmall n
FoundAs w _ = Unit {0}

abbrev pub AreFound : List ℕ → List Token → Type 0
AreFound bytes [] = Unit {0}
AreFound bytes (t ∷ ts) = FoundAs (word_at bytes t.span) t.kind × AreFound bytes ts

pub found_parts : (bytes : List ℕ) (xs ys : List Token) → AreFound bytes (xs ++ ys)
    → AreFound bytes xs × AreFound bytes ys
found_parts bytes [] ys h = (tt, h)
found_parts bytes (x ∷ xs) ys h = let more = found_parts bytes xs ys h.1 in ((h.0, more.0), more.1)

-- a piece at the front of a text is
abbrev PieceFound : List ℕ → Piece → Type 0
PieceFound l (piece.Gap n) = Unit {0}
PieceFound l (piece.Whole k n) = FoundAs (take n l) k
PieceFound l (piece.Fault n) = Unit {0}

bracket-found : (l : List ℕ) (b : ℕ) → PieceFound l (bracket_piece b)
bracket-found l b =
    pick (PieceFound l) (b == 40) _ _ tt (pick (PieceFound l) (b == 41) _ _ tt (pick (PieceFound l) (b == 91) _ _ tt
    (pick (PieceFound l) (b == 93) _ _ tt (pick (PieceFound l) (b == 123) _ _ tt
    (pick (PieceFound l) (b == 125) _ _ tt tt)))))

sign-found : (l : List ℕ) (b : ℕ) → PieceFound l (sign_piece b)
sign-found l b =
    pick (PieceFound l) (b == 59) _ _ tt (pick (PieceFound l) (b == 44) _ _ tt (pick (PieceFound l) (b == 61) _ _ tt
    (pick (PieceFound l) (b == 124) _ _ tt (pick (PieceFound l) (b == 42) _ _ tt
    (pick (PieceFound l) (b == 43) _ _ tt (pick (PieceFound l) (b == 63) _ _ tt
    (pick (PieceFound l) (b == 126) _ _ tt (pick (PieceFound l) (b == 38) _ _ tt
    (pick (PieceFound l) (b == 58) _ _ tt (bracket-found l b))))))))))

slash-found : (l bs : List ℕ) → PieceFound l (slash_piece bs)
slash-found l [] = tt
slash-found l (b ∷ bs) = pick (PieceFound l) (b == 47) _ _ tt
    (pick (PieceFound l) (b == 42) _ _ (block (block_end bs)) tt)
  where
    block : (o : Option ℕ) → PieceFound l (block_piece (length bs) o)
    block None = tt
    block (Some n) = tt

-- ---- words

abbrev NoNumber : TokenKind → Type 0
NoNumber (kind.Digit n) = ⊥
NoNumber (kind.Number n) = ⊥
NoNumber _ = Unit {0}

late-number : (w : List ℕ) → NoNumber (late_kind w)
late-number w =
    pick NoNumber (bytes_eq w (codes "main")) _ _ tt (pick NoNumber (bytes_eq w (codes "hold")) _ _ tt
    (pick NoNumber (bytes_eq w (codes "try")) _ _ tt (pick NoNumber (bytes_eq w (codes "abort")) _ _ tt
    (pick NoNumber (bytes_eq w (codes "then")) _ _ tt tt))))

word-number : (w : List ℕ) → NoNumber (word_kind w)
word-number w =
    pick NoNumber (bytes_eq w (codes "spec")) _ _ tt (pick NoNumber (bytes_eq w (codes "input")) _ _ tt
    (pick NoNumber (bytes_eq w (codes "action")) _ _ tt (pick NoNumber (bytes_eq w (codes "level")) _ _ tt
    (pick NoNumber (bytes_eq w (codes "prod")) _ _ tt (late-number w)))))

longer : (p : ℕ → Bool) (b : ℕ) (bs : List ℕ) → p b ≡ true → prefix_len p (b ∷ bs) ≡ suc (prefix_len p bs)
longer p b bs e = rw e (omega arith)

passed : (p : ℕ → Bool) (bs : List ℕ) → list_all p (take (prefix_len p bs) bs) ≡ true
passed p [] = refl
passed p (b ∷ bs) = by (p b) refl (passed p bs)
  where
    by : (c : Bool) → p b ≡ c → list_all p (take (prefix_len p bs) bs) ≡ true
        → list_all p (take (prefix_len p (b ∷ bs)) (b ∷ bs)) ≡ true
    by true e more = subst (λ n. list_all p (take n (b ∷ bs)) ≡ true) (sym (longer p b bs e)) (rw e more)
    by false e more = rw e refl

word-found : (b : ℕ) (w : List ℕ) → is_letter b ≡ true → list_all is_word_byte w ≡ true → length w < 64
    → FoundAs (b ∷ w) (word_kind (b ∷ w))
word-found b w letter more short = by (word_kind (b ∷ w)) refl (word-number (b ∷ w))
  where
    by : (k : TokenKind) → word_kind (b ∷ w) ≡ k → NoNumber k → FoundAs (b ∷ w) k
    by kind.Name e = λ no. (letter, more, short, e)
    by (kind.Digit n) e = λ no. absurd no
    by (kind.Number n) e = λ no. absurd no
    by _ e = λ no. tt

found-word : (b : ℕ) (bs : List ℕ) → is_letter b ≡ true → PieceFound (b ∷ bs) (word_piece (b ∷ bs))
found-word b bs letter =
    let m : ℕ = prefix_len is_word_byte bs in
    let n : prefix_len is_word_byte (b ∷ bs) ≡ suc m = longer is_word_byte b bs (word_byte b letter) in
    let len : length (take m bs) ≡ m = length-prefix_len is_word_byte bs in
    subst (λ k. PieceFound (b ∷ bs) (limited 64 (word_kind (take k (b ∷ bs))) k)) (sym n)
    (chosen (PieceFound (b ∷ bs)) (nat_lt 64 (suc m)) (piece.Fault (suc m))
    (piece.Whole (word_kind (b ∷ take m bs)) (suc m)) (λ _. tt)
    (λ few. word-found b (take m bs) letter (passed is_word_byte bs) (small m (length (take m bs)) len few)))
  where
    small : (m k : ℕ) → k ≡ m → nat_lt 64 (suc m) ≡ false → k < 64
    small m k e h = grind (arith, nat_tests)

-- ---- numbers

digit-found : (ds : List ℕ) (d : ℕ) → d ≤ 9 → FoundAs ds (digit_kind d)
digit-found ds d low =
    chosen (FoundAs ds) (d == 0) _ _ (λ _. tt) (λ a. chosen (FoundAs ds) (d == 1) _ _ (λ _. tt)
    (λ b. chosen (FoundAs ds) (d == 2) _ _ (λ _. tt) (λ c. chosen (FoundAs ds) (nat_lt d 9) _ _
    (λ e. middle d a b c e) (λ e. omega arith))))
  where
    middle : (d : ℕ) → (d == 0) ≡ false → (d == 1) ≡ false → (d == 2) ≡ false → nat_lt d 9 ≡ true → (2 < d) × (d < 9)
    middle d a b c e = (grind (arith, nat_tests), grind (arith, nat_tests))

one_low : (b : ℕ) → is_digit b ≡ true → b - 48 ≤ 9
one_low b e = grind (arith, nat_tests)

number-found : (ds : List ℕ) → list_all is_digit ds ≡ true → length ds ≤ 9 → FoundAs ds (number_kind ds)
number-found [] all few = omega arith
number-found (b ∷ []) all few = digit-found (b ∷ []) (b - 48) (one_low b (and_parts (is_digit b) true all).0)
number-found (a ∷ b ∷ ds) all few = digits_value_short all_digits (a ∷ b ∷ ds) 9 all few

found-number : (bs : List ℕ) → PieceFound bs (number_piece bs)
found-number bs =
    let n : ℕ = prefix_len is_digit bs in
    let len : length (take n bs) ≡ n = length-prefix_len is_digit bs in
    chosen (PieceFound bs) (nat_lt 9 n) (piece.Fault n) (piece.Whole (number_kind (take n bs)) n) (λ _. tt)
    (λ few. number-found (take n bs) (passed is_digit bs) (small n (length (take n bs)) len few))
  where
    small : (m k : ℕ) → k ≡ m → nat_lt 9 m ≡ false → k ≤ 9
    small m k e h = grind (arith, nat_tests)

piece-found : (b : ℕ) (bs : List ℕ) → PieceFound (b ∷ bs) (first_piece (b ∷ bs))
piece-found b bs =
    let S : Piece → Type 0 = PieceFound (b ∷ bs) in
    pick S (is_space b) _ _ tt (chosen S (is_letter b) _ _ (λ letter. found-word b bs letter)
    (λ _. pick S (is_digit b) _ _ (found-number (b ∷ bs)) (pick S (b == 47) _ _ (slash-found (b ∷ bs) bs)
    (sign-found (b ∷ bs) b))))

-- ---- all tokens

next : (bytes : List ℕ) (at b : ℕ) (bs : List ℕ) → drop at bytes ≡ b ∷ bs → drop (at + 1) bytes ≡ bs
next [] zero b bs e = absurd cc
next [] (suc at) b bs e = absurd cc
next (x ∷ xs) zero b bs e = cc
next (x ∷ xs) (suc at) b bs e =
    let one : suc at + 1 ≡ suc (at + 1) = omega arith in
    ap (λ n. drop n (x ∷ xs)) one ∙ next xs at b bs e

lex_found : (bytes bs : List ℕ) (skip at : ℕ) (ts : List Token) → drop at bytes ≡ bs → lex skip at bs ≡ Ok ts
    → AreFound bytes ts
unfolding lex
lex_found bytes [] skip at ts e h = let none : [] ≡ ts = cc in subst (AreFound bytes) none tt
lex_found bytes (b ∷ bs) zero at ts e h =
    by (λ n us. lex_found bytes bs (n - 1) (at + 1) us (next bytes at b bs e)) (first_piece (b ∷ bs))
    (piece-found b bs) h
  where
    there : (n : ℕ) → word_at bytes (record { start = at; end = at + n }) ≡ take n (b ∷ bs)
    there n = let m : at + n - at ≡ n = omega arith in rw (m, e) refl

    taken : (k : TokenKind) (n : ℕ) (r : Result (List Token) Span) → FoundAs (take n (b ∷ bs)) k
        → ((us : List Token) → r ≡ Ok us → AreFound bytes us)
        → with_token (token k (record { start = at; end = at + n })) r ≡ Ok ts → AreFound bytes ts
    taken k n (Ok us) f on g =
        let same : token k (record { start = at; end = at + n }) ∷ us ≡ ts = cc in
        subst (AreFound bytes) same (subst (λ w. FoundAs w k) (sym (there n)) f, on us refl)
    taken k n (Err x) f on g = absurd cc

    by : ((n : ℕ) (us : List Token) → lex (n - 1) (at + 1) bs ≡ Ok us → AreFound bytes us) → (p : Piece)
        → PieceFound (b ∷ bs) p → with_piece at p (λ n. lex (n - 1) (at + 1) bs) ≡ Ok ts → AreFound bytes ts
    by on (piece.Gap n) f g = on n ts g
    by on (piece.Whole k n) f g = taken k n (lex (n - 1) (at + 1) bs) f (on n) g
    by on (piece.Fault n) f g = absurd cc
lex_found bytes (b ∷ bs) (suc skip) at ts e h = lex_found bytes bs skip (at + 1) ts (next bytes at b bs e) h

pub tokens_found : (bytes : List ℕ) (ts : List Token) → lex 0 0 bytes ≡ Ok ts → AreFound bytes ts
tokens_found bytes ts h = lex_found bytes bytes 0 0 ts refl h
