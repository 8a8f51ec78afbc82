-- A text in pieces, and its tokens.
use Rattle.std.proofs.Common.{◌≡◌, ℕ, suc, ◌+◌, ◌-◌, ◌/◌, ◌%◌, ◌<◌, ◌≤◌, ◌^◌, List, [], ◌∷◌, ◌++◌, length, take, drop}
use Rattle.std.proofs.Common.{Bool, true, false, nat_lt, Ok, refl, sym, ap, subst, ◌∙◌, append_assoc, length-append}
use Rattle.std.proofs.Common.{arith}
use Rattle.std.specs.Prelude.{◌||◌, ◌==◌, decimal}
use Rattle.std.specs.List.{prefix_len, list_all}
use Rattle.std.proofs.lemmas.Bool.Decides.{nat_tests}
use Rattle.std.proofs.lemmas.Fmt.{decimal_digit, length-decimal-le, decimal_nonempty, digits_decimal}
use Rattle.std.proofs.lemmas.Fmt.{digits_value-decimal, decimal_step}
use Rattle.std.proofs.lemmas.Bool.{and_parts}
use Rattle.std.proofs.lemmas.List.{drop-drop}
use Rattle.std.proofs.Math.Seq.{drop-append_seam}
use Rattle.pbs_base.specs.declared.refusal.Span.{Span}
use Rattle.pbs_text.specs.declared.token.Token.{Token}
use Rattle.pbs_text.specs.declared.token.TokenKind.{TokenKind}
use Rattle.pbs_text.specs.Grammar.{token, Numeral, ZeroNumeral, OneNumeral, TwoNumeral, DigitNumeral, LongNumeral}
use Rattle.pbs_text.specs.Grammar.{numeral_kind}
use Rattle.pbs_text.specs.Trees.{word_at, numeral_value}
use Rattle.pbs_text.specs.Lexing.{is_space, is_digit, is_letter, is_word_byte, word_kind, decimal_from, digit_kind}
use Rattle.pbs_text.specs.Lexing.{number_kind, limited, word_piece, number_piece, first_piece, with_token, with_piece}
use Rattle.pbs_text.specs.Lexing.{lex}
use Rattle.pbs_lex.proofs.Lexes.{lex-piece, lex-end}
use Rattle.pbs_print.specs.Canonical.{bracketed}
use Rattle.pbs_text.specs.Nesting.{Opened, Round, closed, behind}
use Rattle.pbs_grammar.proofs.Nesting.{is_over, Shallow}
use Rattle.pbs_lex.proofs.Found.{chosen, IsWord, word_byte, all_digits, IsSmall}
use Rattle.pbs_text.specs.declared.token.TokenKind.TheVariants as kind
use Rattle.pbs_text.specs.declared.token.Piece.TheVariants as piece

-- ---- pieces

-- space, a sign, a word, or a number as it is written
pub data Piece : Type 0 where
  Blank : (b : ℕ) → Piece
  Sign : (b : ℕ) (k : TokenKind) → Piece
  Word : (w : List ℕ) (k : TokenKind) → Piece
  Digits : (n : ℕ) → Piece

abbrev pub bytes_of : Piece → List ℕ
bytes_of (Blank b) = b ∷ []
bytes_of (Sign b k) = b ∷ []
bytes_of (Word w k) = w
bytes_of (Digits n) = decimal n

abbrev pub text : List Piece → List ℕ
text [] = []
text (p ∷ ps) = bytes_of p ++ text ps

-- ---- bytes that pass a test

abbrev pub Stops : (ℕ → Bool) → List ℕ → Type 0
Stops p [] = Unit {0}
Stops p (b ∷ bs) = p b ≡ false

prefix-all : (p : ℕ → Bool) (w rest : List ℕ) → list_all p w ≡ true → Stops p rest → prefix_len p (w ++ rest) ≡ length w
prefix-all p [] [] h s = refl
prefix-all p [] (b ∷ bs) h s = rw s refl
prefix-all p (x ∷ w) rest h s =
    let parts = and_parts (p x) (list_all p w) h in
    let more : prefix_len p (w ++ rest) ≡ length w = prefix-all p w rest parts.1 s in
    rw (parts.0, more) (omega arith)

take-front : (w rest : List ℕ) → take (length w) (w ++ rest) ≡ w
take-front [] rest = refl
take-front (x ∷ w) rest = ap (λ l. x ∷ l) (take-front w rest)

-- ---- words

no_space : (b : ℕ) → is_letter b ≡ true → is_space b ≡ false
no_space b e = grind (arith, nat_tests)

within : (most n : ℕ) → n ≤ most → nat_lt most n ≡ false
within most n h = grind (arith, nat_tests)

limited-short : (most n : ℕ) (k : TokenKind) → n ≤ most → limited most k n ≡ piece.Whole k n
limited-short most n k h = rw (within most n h) refl

word-first : (w : List ℕ) (k : TokenKind) (rest : List ℕ) → IsWord w k → Stops is_word_byte rest
    → first_piece (w ++ rest) ≡ piece.Whole k (length w)
word-first [] k rest h s = absurd h
word-first (b ∷ w) k rest h s =
    let all : list_all is_word_byte (b ∷ w) ≡ true = rw (word_byte b h.0) h.1 in
    let n : prefix_len is_word_byte ((b ∷ w) ++ rest) ≡ length (b ∷ w) = prefix-all is_word_byte (b ∷ w) rest all s in
    let front : take (length (b ∷ w)) ((b ∷ w) ++ rest) ≡ b ∷ w = take-front (b ∷ w) rest in
    let l : List ℕ = b ∷ (w ++ rest) in
    let start : first_piece l ≡ word_piece l = rw (no_space b h.0, h.0) refl in
    let few : length (b ∷ w) ≤ 64 = let small = h.2 in omega arith in
    start
    ∙ (ap (λ m. limited 64 (word_kind (take m l)) m) n
    ∙ (ap (λ v. limited 64 (word_kind v) (length (b ∷ w))) front
    ∙ (ap (λ j. limited 64 j (length (b ∷ w))) h.3 ∙ limited-short 64 (length (b ∷ w)) k few)))

-- ---- numbers

digit-first : (b : ℕ) → is_digit b ≡ true → (is_space b ≡ false) × (is_letter b ≡ false)
digit-first b e = (grind (arith, nat_tests), grind (arith, nat_tests))

digits-first : (ds rest : List ℕ) → list_all is_digit ds ≡ true → 0 < length ds → length ds ≤ 9 → Stops is_digit rest
    → first_piece (ds ++ rest) ≡ piece.Whole (number_kind ds) (length ds)
digits-first [] rest all some few s = absurd (omega arith)
digits-first (b ∷ ds) rest all some few s =
    let n : prefix_len is_digit ((b ∷ ds) ++ rest) ≡ length (b ∷ ds) = prefix-all is_digit (b ∷ ds) rest all s in
    let front : take (length (b ∷ ds)) ((b ∷ ds) ++ rest) ≡ b ∷ ds = take-front (b ∷ ds) rest in
    let is = (and_parts (is_digit b) (list_all is_digit ds) all).0 in
    let not = digit-first b is in
    let l : List ℕ = b ∷ (ds ++ rest) in
    let start : first_piece l ≡ number_piece l = rw (not.0, not.1, is) refl in
    start
    ∙ (ap (λ m. limited 9 (number_kind (take m l)) m) n
    ∙ (ap (λ v. limited 9 (number_kind v) (length (b ∷ ds))) front
    ∙ limited-short 9 (length (b ∷ ds)) (number_kind (b ∷ ds)) few))

machine : (n : ℕ) → IsSmall n → n < 2 ^ 64
machine n h = omega arith

number-first : (n : ℕ) (rest : List ℕ) → IsSmall n → Stops is_digit rest
    → first_piece (decimal n ++ rest) ≡ piece.Whole (number_kind (decimal n)) (length (decimal n))
number-first n rest h s =
    digits-first (decimal n) rest (digits_decimal all_digits n (machine n h)) (decimal_nonempty n (machine n h))
    (length-decimal-le 9 n (omega arith) h (machine n h)) s

-- the number token that a number is written as
pub record Written (n : ℕ) : Type 0 where
  pub numeral : Numeral
  pub kind_is : numeral_kind numeral ≡ number_kind (decimal n)
  pub value_is : numeral_value numeral ≡ n

pub long : (ds : List ℕ) → 2 ≤ length ds → number_kind ds ≡ kind.Number (decimal_from 0 ds)
long [] h = absurd (omega arith)
long (b ∷ []) h = absurd (omega arith)
long (a ∷ b ∷ ds) h = refl

pub one_digit : (n : ℕ) → n < 10 → number_kind (decimal n) ≡ digit_kind n
one_digit n h = let e : 48 + n - 48 ≡ n = omega arith in rw (decimal_digit n h) (ap digit_kind e)

many_digits : (n : ℕ) → IsSmall n → 10 ≤ n → Written n
many_digits n h big =
    let small : n < 2 ^ 64 = machine n h in
    let front : n / 10 < 2 ^ 64 = omega arith in
    let some = decimal_nonempty (n / 10) front in
    let step = ap length (decimal_step n big small) ∙ length-append (decimal (n / 10)) ((48 + n % 10) ∷ []) in
    let two : 2 ≤ length (decimal n) = omega arith in
    record {
      numeral = LongNumeral n;
      kind_is = sym (long (decimal n) two ∙ ap kind.Number (digits_value-decimal all_digits n small));
      value_is = refl;
    }

-- a number token of this kind has this value
abbrev HasNumeral : ℕ → TokenKind → Type 0
HasNumeral d k = (m : Numeral) × (numeral_kind m ≡ k) × (numeral_value m ≡ d)

digit_numeral : (d : ℕ) → HasNumeral d (digit_kind d)
digit_numeral d =
    chosen (HasNumeral d) (d == 0) _ _ (λ e. (ZeroNumeral, refl, same 0 e))
    (λ _. chosen (HasNumeral d) (d == 1) _ _ (λ e. (OneNumeral, refl, same 1 e))
    (λ _. chosen (HasNumeral d) (d == 2) _ _ (λ e. (TwoNumeral, refl, same 2 e))
    (λ _. chosen (HasNumeral d) (nat_lt d 9) _ _ (λ _. (DigitNumeral d, refl, refl))
    (λ _. (LongNumeral d, refl, refl)))))
  where
    same : (n : ℕ) → (d == n) ≡ true → n ≡ d
    same n e = grind (arith, nat_tests)

pub written : (n : ℕ) → IsSmall n → Written n
written n h = by (nat_lt n 10) refl
  where
    by : (b : Bool) → nat_lt n 10 ≡ b → Written n
    by true e =
        let x = digit_numeral n in
        record { numeral = x.0; kind_is = x.1 ∙ sym (one_digit n (grind (arith, nat_tests))); value_is = x.2 }
    by false e = many_digits n h (grind (arith, nat_tests))

-- ---- the tokens

abbrev pub span_of : ℕ → Piece → Span
span_of at p = record { start = at; end = at + length (bytes_of p) }

abbrev pub placed : ℕ → List Piece → List Token
placed at [] = []
placed at (Blank b ∷ ps) = placed (at + 1) ps
placed at (Sign b k ∷ ps) = token k (span_of at (Sign b k)) ∷ placed (at + 1) ps
placed at (Word w k ∷ ps) = token k (span_of at (Word w k)) ∷ placed (at + length w) ps
placed at (Digits n ∷ ps) =
    token (number_kind (decimal n)) (span_of at (Digits n)) ∷ placed (at + length (decimal n)) ps

-- no word or number goes on there
abbrev pub IsParted : List Piece → Type 0
IsParted [] = Unit {0}
IsParted (Blank b ∷ ps) = is_word_byte b ≡ false
IsParted (Sign b k ∷ ps) = is_word_byte b ≡ false
IsParted _ = ⊥

-- each piece is one, and no word or number goes on behind itself
abbrev pub IsReadable : List Piece → Type 0
IsReadable [] = Unit {0}
IsReadable (Blank b ∷ ps) = (is_space b ≡ true) × IsReadable ps
IsReadable (Sign b k ∷ ps) = ((rest : List ℕ) → first_piece (b ∷ rest) ≡ piece.Whole k 1) × IsReadable ps
IsReadable (Word w k ∷ ps) = IsWord w k × IsParted ps × IsReadable ps
IsReadable (Digits n ∷ ps) = IsSmall n × IsParted ps × IsReadable ps

no_digit : (b : ℕ) → is_word_byte b ≡ false → is_digit b ≡ false
no_digit b e = by (is_letter b) (is_digit b) e
  where
    by : (x y : Bool) → (x || y) ≡ false → y ≡ false
    by false y h = h
    by true y h = absurd cc

parted-word : (ps : List Piece) → IsParted ps → Stops is_word_byte (text ps)
parted-word [] h = tt
parted-word (Blank b ∷ ps) h = h
parted-word (Sign b k ∷ ps) h = h
parted-word (Word w k ∷ ps) h = absurd h
parted-word (Digits n ∷ ps) h = absurd h

parted-digit : (ps : List Piece) → IsParted ps → Stops is_digit (text ps)
parted-digit [] h = tt
parted-digit (Blank b ∷ ps) h = no_digit b h
parted-digit (Sign b k ∷ ps) h = no_digit b h
parted-digit (Word w k ∷ ps) h = absurd h
parted-digit (Digits n ∷ ps) h = absurd h

-- passing over bytes
lex-skip : (w rest : List ℕ) (at : ℕ) → lex (length w) at (w ++ rest) ≡ lex 0 (at + length w) rest
unfolding lex
lex-skip [] rest at = ap (λ a. lex 0 a rest) (omega arith)
lex-skip (b ∷ w) rest at = lex-skip w rest (at + 1) ∙ ap (λ a. lex 0 a rest) (omega arith)

behind-piece : (w rest : List ℕ) (b at : ℕ)
    → lex (suc (length w) - 1) (at + 1) (w ++ rest) ≡ lex 0 (at + suc (length w)) rest
behind-piece w rest b at =
    let m : suc (length w) - 1 ≡ length w = omega arith in
    rw m (lex-skip w rest (at + 1) ∙ ap (λ a. lex 0 a rest) (omega arith))

-- a token at the front
lex-token : (w rest : List ℕ) (k : TokenKind) (at : ℕ) → 0 < length w
    → first_piece (w ++ rest) ≡ piece.Whole k (length w)
    → lex 0 at (w ++ rest)
    ≡ with_token (token k (record { start = at; end = at + length w })) (lex 0 (at + length w) rest)
lex-token [] rest k at some h = absurd (omega arith)
lex-token (b ∷ w) rest k at some h =
    lex-piece at b (w ++ rest)
    ∙ (ap (λ p. with_piece at p (λ n. lex (n - 1) (at + 1) (w ++ rest))) h
    ∙ ap (with_token (token k (record { start = at; end = at + length (b ∷ w) }))) (behind-piece w rest b at))

lex-blank : (b : ℕ) (rest : List ℕ) (at : ℕ) → is_space b ≡ true → lex 0 at (b ∷ rest) ≡ lex 0 (at + 1) rest
lex-blank b rest at h =
    lex-piece at b rest
    ∙ (ap (λ s. with_piece at s (λ n. lex (n - 1) (at + 1) rest)) (gap b h) ∙ behind-piece [] rest b at)
  where
    gap : (b : ℕ) → is_space b ≡ true → first_piece (b ∷ rest) ≡ piece.Gap 1
    gap b h = rw h refl

word-some : (w : List ℕ) (k : TokenKind) → IsWord w k → 0 < length w
word-some [] k h = absurd h
word-some (b ∷ w) k h = omega arith

-- the tokens of a readable text are those of its pieces
pub lex-text : (ps : List Piece) (at : ℕ) → IsReadable ps → lex 0 at (text ps) ≡ Ok (placed at ps)
lex-text [] at h = lex-end 0 at
lex-text (Blank b ∷ ps) at h = lex-blank b (text ps) at h.0 ∙ lex-text ps (at + 1) h.1
lex-text (Sign b k ∷ ps) at h =
    lex-token (b ∷ []) (text ps) k at (omega arith) (h.0 (text ps))
    ∙ ap (with_token (token k (span_of at (Sign b k)))) (lex-text ps (at + 1) h.1)
lex-text (Word w k ∷ ps) at h =
    lex-token w (text ps) k at (word-some w k h.0) (word-first w k (text ps) h.0 (parted-word ps h.1))
    ∙ ap (with_token (token k (span_of at (Word w k)))) (lex-text ps (at + length w) h.2)
lex-text (Digits n ∷ ps) at h =
    lex-token (decimal n) (text ps) (number_kind (decimal n)) at (decimal_nonempty n (machine n h.0))
    (number-first n (text ps) h.0 (parted-digit ps h.1))
    ∙ ap (with_token (token (number_kind (decimal n)) (span_of at (Digits n))))
    (lex-text ps (at + length (decimal n)) h.2)

-- ---- what the tokens stand for

-- these tokens, with these words in the bytes
abbrev pub Stands : List ℕ → List Piece → List Token → Type 0
Stands bytes [] ts = ts ≡ []
Stands bytes (Blank b ∷ ps) ts = Stands bytes ps ts
Stands bytes (Sign b k ∷ ps) ts = (at : Span) × (rest : List Token) × (ts ≡ token k at ∷ rest) × Stands bytes ps rest
Stands bytes (Word w k ∷ ps) ts = (at : Span) × (rest : List Token) × (ts ≡ token k at ∷ rest) × (word_at bytes at ≡ w)
    × Stands bytes ps rest
Stands bytes (Digits n ∷ ps) ts = (at : Span) × (rest : List Token) × (w : Written n)
    × (ts ≡ token (numeral_kind w.numeral) at ∷ rest) × Stands bytes ps rest

word-there : (w rest bytes : List ℕ) (at : ℕ) → drop at bytes ≡ w ++ rest
    → word_at bytes (record { start = at; end = at + length w }) ≡ w
word-there w rest bytes at e =
    let n : at + length w - at ≡ length w = omega arith in
    rw (n, e) (take-front w rest)

pub onward : (w rest bytes : List ℕ) (at : ℕ) → drop at bytes ≡ w ++ rest → drop (at + length w) bytes ≡ rest
onward w rest bytes at e = sym (drop-drop (length w) at bytes) ∙ (ap (drop (length w)) e ∙ drop-append_seam w rest)

pub stands : (bytes : List ℕ) (ps : List Piece) (at : ℕ) → IsReadable ps → drop at bytes ≡ text ps
    → Stands bytes ps (placed at ps)
stands bytes [] at h e = refl
stands bytes (Blank b ∷ ps) at h e = stands bytes ps (at + 1) h.1 (onward (b ∷ []) (text ps) bytes at e)
stands bytes (Sign b k ∷ ps) at h e = (_, _, refl, stands bytes ps (at + 1) h.1 (onward (b ∷ []) (text ps) bytes at e))
stands bytes (Word w k ∷ ps) at h e =
    (_, _, refl, word-there w (text ps) bytes at e, stands bytes ps (at + length w) h.2 (onward w (text ps) bytes at e))
stands bytes (Digits n ∷ ps) at h e =
    let w : Written n = written n h.0 in
    let more = stands bytes ps (at + length (decimal n)) h.2 (onward (decimal n) (text ps) bytes at e) in
    (_, _, w, ap (λ k. token k (span_of at (Digits n)) ∷ placed (at + length (decimal n)) ps) (sym w.kind_is), more)

-- ---- what is open

-- no piece opens a 65th construct
abbrev pub Flat : List Opened → List Piece → Type 0
Flat s [] = Unit {0}
Flat s (Blank b ∷ ps) = Flat s ps
Flat s (Sign b k ∷ ps) = (is_over k s ≡ false) × Flat (behind k s) ps
Flat s (Word w k ∷ ps) = (is_over k s ≡ false) × Flat (behind k s) ps
Flat s (Digits n ∷ ps) = Flat (closed s) ps

number-flat : (m : Numeral) (at : Span) (ts : List Token) (s : List Opened) → Shallow (closed s) ts
    → Shallow s (token (numeral_kind m) at ∷ ts)
number-flat ZeroNumeral at ts s h = (refl, h)
number-flat OneNumeral at ts s h = (refl, h)
number-flat TwoNumeral at ts s h = (refl, h)
number-flat (DigitNumeral n) at ts s h = (refl, h)
number-flat (LongNumeral n) at ts s h = (refl, h)

pub flat_shallow : (bytes : List ℕ) (ps : List Piece) (ts : List Token) (s : List Opened) → Stands bytes ps ts
    → Flat s ps
    → Shallow s ts
flat_shallow bytes [] ts s h f = subst (λ l. Shallow s l) (sym h) tt
flat_shallow bytes (Blank b ∷ ps) ts s h f = flat_shallow bytes ps ts s h f
flat_shallow bytes (Sign b k ∷ ps) ts s h f =
    subst (λ l. Shallow s l) (sym h.2) (f.0, flat_shallow bytes ps h.1 (behind k s) h.3 f.1)
flat_shallow bytes (Word w k ∷ ps) ts s h f =
    subst (λ l. Shallow s l) (sym h.2) (f.0, flat_shallow bytes ps h.1 (behind k s) h.4 f.1)
flat_shallow bytes (Digits n ∷ ps) ts s h f =
    subst (λ l. Shallow s l) (sym h.3) (number-flat h.2.numeral h.0 h.1 s (flat_shallow bytes ps h.1 (closed s) h.4 f))

-- ---- joining pieces

pub text-append : (a b : List Piece) → text (a ++ b) ≡ text a ++ text b
text-append [] b = refl
text-append (p ∷ a) b = ap (λ l. bytes_of p ++ l) (text-append a b) ∙ sym (append_assoc (bytes_of p) (text a) (text b))

-- in round brackets, where that is so
abbrev pub wrapped : Bool → List Piece → List Piece
wrapped true ps = Sign 40 kind.OpenRound ∷ (ps ++ Sign 41 kind.CloseRound ∷ [])
wrapped false ps = ps

pub text-wrapped : (b : Bool) (ps : List Piece) → text (wrapped b ps) ≡ bracketed b (text ps)
text-wrapped true ps = ap (λ l. 40 ∷ l) (text-append ps (Sign 41 kind.CloseRound ∷ []))
text-wrapped false ps = refl

-- what holds of something at a nesting, or one deeper in brackets
abbrev pub InBrackets : Bool → ℕ → Type 0 → Type 0 → Type 0
InBrackets true n P Q = (n < 64) × Q
InBrackets false n P Q = P

-- pieces that can be read before what is parted from them
abbrev pub ReadsOn : List Piece → Type 0
ReadsOn ps = (z : List Piece) → IsParted z → IsReadable z → IsReadable (ps ++ z)

pub wrapped-reads : (b : Bool) (n : ℕ) (P Q : Type 0) (ps : List Piece) → (P → ReadsOn ps) → (Q → ReadsOn ps)
    → InBrackets b n P Q → ReadsOn (wrapped b ps)
wrapped-reads true n P Q ps f g h z parted more = (
  (λ rest. refl),
  rw (append_assoc ps (Sign 41 kind.CloseRound ∷ []) z)
      (g h.1 (Sign 41 kind.CloseRound ∷ z) refl ((λ rest. refl), more)),
)
wrapped-reads false n P Q ps f g h z parted more = f h z parted more

pub not_over : (n : ℕ) (s : List Opened) → n < 64 → length s ≤ n → nat_lt 63 (length s) ≡ false
not_over n s h k = grind (arith, nat_tests)

-- pieces that keep to the nesting, and end what waits
abbrev pub FlatAt : ℕ → List Piece → Type 0
FlatAt n ps = (s : List Opened) (z : List Piece) → length s ≤ n → Flat (closed s) z → Flat s (ps ++ z)

pub wrapped-flat : (b : Bool) (n : ℕ) (P Q : Type 0) (ps : List Piece) → (P → FlatAt n ps) → (Q → FlatAt (suc n) ps)
    → InBrackets b n P Q → FlatAt n (wrapped b ps)
wrapped-flat true n P Q ps f g h s z low more = (
  not_over n s h.0 low,
  rw (append_assoc ps (Sign 41 kind.CloseRound ∷ []) z)
      (g h.1 (Round ∷ s) (Sign 41 kind.CloseRound ∷ z) (omega arith) (refl, more)),
)
wrapped-flat false n P Q ps f g h s z low more = f h s z low more
