-- A text in pieces, and its tokens.
use Rattle.std.proofs.Common.{◌≡◌, ℕ, zero, suc, ◌+◌, ◌-◌, ◌<◌, ◌≤◌, List, [], ◌∷◌, ◌++◌, length, take, drop}
use Rattle.std.proofs.Common.{Bool, true, false, nat_lt, Ok, refl, sym, ap, ◌∙◌, arith}
use Rattle.std.specs.Prelude.{if◌then◌else◌}
use Rattle.std.specs.List.{prefix_len, list_all}
use Rattle.std.proofs.lemmas.Bool.{and_parts}
use Rattle.std.proofs.lemmas.Bool.Decides.{nat_tests}
use Rattle.pbs_base.specs.declared.refusal.Span.{Span}
use Rattle.vlog_text.specs.declared.token.Token.{Token}
use Rattle.vlog_text.specs.declared.token.TokenKind.{TokenKind}
use Rattle.vlog_text.specs.declared.token.Piece.TheVariants as piece
use Rattle.vlog_text.specs.Grammar.{token}
use Rattle.vlog_text.specs.Trees.{word_at}
use Rattle.vlog_text.specs.Lexing.{is_space, is_letter, is_name_byte, words, kind_in, word_piece, first_piece}
use Rattle.vlog_text.specs.Lexing.{with_token, with_piece, lex}

-- ---- pieces

-- space, a sign or a constant, or a word
pub data Piece : Type 0 where
  Blank : (b : ℕ) → Piece
  Sign : (b : ℕ) (w : List ℕ) (k : TokenKind) → Piece
  Word : (w : List ℕ) (k : TokenKind) → Piece

abbrev pub bytes_of : Piece → List ℕ
bytes_of (Blank b) = b ∷ []
bytes_of (Sign b w k) = b ∷ w
bytes_of (Word w k) = w

abbrev pub text : List Piece → List ℕ
text [] = []
text (p ∷ ps) = bytes_of p ++ text ps

-- ---- bytes that pass a test

abbrev Stops : (ℕ → Bool) → List ℕ → Type 0
Stops p [] = Unit {0}
Stops p (b ∷ bs) = p b ≡ false

prefix-all : (p : ℕ → Bool) (w rest : List ℕ) → list_all p w ≡ true → Stops p rest → prefix_len p (w ++ rest) ≡ length w
prefix-all p [] [] h s = refl
prefix-all p [] (b ∷ bs) h s = rw s refl
prefix-all p (x ∷ w) rest h s =
    let parts = and_parts (p x) (list_all p w) h in
    let more : prefix_len p (w ++ rest) ≡ length w = prefix-all p w rest parts.1 s in
    rw (parts.0, more) (omega arith)

take-front : (w rest : List ℕ) → take (length w) (w ++ rest) ≡ w
take-front [] rest = refl
take-front (x ∷ w) rest = ap (λ l. x ∷ l) (take-front w rest)

drop-front : (w rest : List ℕ) → drop (length w) (w ++ rest) ≡ rest
drop-front [] rest = refl
drop-front (x ∷ w) rest = drop-front w rest

-- ---- words

-- a word of this kind
abbrev pub IsWord : List ℕ → TokenKind → Type 0
IsWord [] k = ⊥
IsWord (b ∷ w) k =
    (is_letter b ≡ true) × (list_all is_name_byte w ≡ true) × (length w < 255) × (kind_in words (b ∷ w) ≡ k)

name_byte : (b : ℕ) → is_letter b ≡ true → is_name_byte b ≡ true
name_byte b e = rw e refl

no_space : (b : ℕ) → is_letter b ≡ true → is_space b ≡ false
no_space b e = grind (arith, nat_tests)

within : (most n : ℕ) → n ≤ most → nat_lt most n ≡ false
within most n h = grind (arith, nat_tests)

word-first : (w : List ℕ) (k : TokenKind) (rest : List ℕ) → IsWord w k → Stops is_name_byte rest
    → first_piece (w ++ rest) ≡ piece.Whole k (length w)
word-first [] k rest h s = absurd h
word-first (b ∷ w) k rest h s =
    let all : list_all is_name_byte (b ∷ w) ≡ true = rw (name_byte b h.0) h.1 in
    let n : prefix_len is_name_byte ((b ∷ w) ++ rest) ≡ length (b ∷ w) = prefix-all is_name_byte (b ∷ w) rest all s in
    let front : take (length (b ∷ w)) ((b ∷ w) ++ rest) ≡ b ∷ w = take-front (b ∷ w) rest in
    let l : List ℕ = b ∷ (w ++ rest) in
    let start : first_piece l ≡ word_piece l = rw (no_space b h.0, h.0) refl in
    let few : nat_lt 255 (length (b ∷ w)) ≡ false =
    let small = h.2 in within 255 (length (b ∷ w)) (omega arith) in
    start
    ∙ (ap (λ m. if nat_lt 255 m then piece.Fault m else piece.Whole (kind_in words (take m l)) m) n
    ∙ (ap (λ v. if nat_lt 255 (length (b ∷ w)) then piece.Fault (length (b ∷ w)) else piece.Whole (kind_in words v)
    (length (b ∷ w))) front
    ∙ (ap (λ t. if t then piece.Fault (length (b ∷ w)) else piece.Whole (kind_in words (b ∷ w)) (length (b ∷ w))) few
    ∙ ap (λ j. piece.Whole j (length (b ∷ w))) h.3)))

-- ---- the tokens

abbrev span_of : ℕ → List ℕ → Span
span_of at w = record { start = at; end = at + length w }

abbrev pub placed : ℕ → List Piece → List Token
placed at [] = []
placed at (Blank b ∷ ps) = placed (at + 1) ps
placed at (Sign b w k ∷ ps) = token k (span_of at (b ∷ w)) ∷ placed (at + length (b ∷ w)) ps
placed at (Word w k ∷ ps) = token k (span_of at w) ∷ placed (at + length w) ps

-- no word goes on there
abbrev pub IsParted : List Piece → Type 0
IsParted [] = Unit {0}
IsParted (Blank b ∷ ps) = is_name_byte b ≡ false
IsParted (Sign b w k ∷ ps) = is_name_byte b ≡ false
IsParted (Word w k ∷ ps) = ⊥

-- each piece is one, and no word goes on behind itself
abbrev pub IsReadable : List Piece → Type 0
IsReadable [] = Unit {0}
IsReadable (Blank b ∷ ps) = (is_space b ≡ true) × IsReadable ps
IsReadable (Sign b w k ∷ ps) =
    ((rest : List ℕ) → first_piece (b ∷ (w ++ rest)) ≡ piece.Whole k (length (b ∷ w))) × IsReadable ps
IsReadable (Word w k ∷ ps) = IsWord w k × IsParted ps × IsReadable ps

parted-word : (ps : List Piece) → IsParted ps → Stops is_name_byte (text ps)
parted-word [] h = tt
parted-word (Blank b ∷ ps) h = h
parted-word (Sign b w k ∷ ps) h = h
parted-word (Word w k ∷ ps) h = absurd h

lex-piece : (at b : ℕ) (bs : List ℕ) → lex 0 at (b ∷ bs) ≡ with_piece at (first_piece (b ∷ bs))
    (λ n. lex (n - 1) (at + 1) bs)
unfolding lex
lex-piece at b bs = refl

lex-end : (at : ℕ) → lex 0 at [] ≡ Ok []
unfolding lex
lex-end at = refl

-- passing over bytes
lex-skip : (w rest : List ℕ) (at : ℕ) → lex (length w) at (w ++ rest) ≡ lex 0 (at + length w) rest
unfolding lex
lex-skip [] rest at = ap (λ a. lex 0 a rest) (omega arith)
lex-skip (b ∷ w) rest at = lex-skip w rest (at + 1) ∙ ap (λ a. lex 0 a rest) (omega arith)

behind-piece : (w rest : List ℕ) (b at : ℕ)
    → lex (suc (length w) - 1) (at + 1) (w ++ rest) ≡ lex 0 (at + suc (length w)) rest
behind-piece w rest b at =
    let m : suc (length w) - 1 ≡ length w = omega arith in
    rw m (lex-skip w rest (at + 1) ∙ ap (λ a. lex 0 a rest) (omega arith))

-- a token at the front
lex-token : (w rest : List ℕ) (k : TokenKind) (at : ℕ) → 0 < length w
    → first_piece (w ++ rest) ≡ piece.Whole k (length w)
    → lex 0 at (w ++ rest)
    ≡ with_token (token k (record { start = at; end = at + length w })) (lex 0 (at + length w) rest)
lex-token [] rest k at some h = absurd (omega arith)
lex-token (b ∷ w) rest k at some h =
    lex-piece at b (w ++ rest)
    ∙ (ap (λ p. with_piece at p (λ n. lex (n - 1) (at + 1) (w ++ rest))) h
    ∙ ap (with_token (token k (record { start = at; end = at + length (b ∷ w) }))) (behind-piece w rest b at))

lex-blank : (b : ℕ) (rest : List ℕ) (at : ℕ) → is_space b ≡ true → lex 0 at (b ∷ rest) ≡ lex 0 (at + 1) rest
lex-blank b rest at h =
    lex-piece at b rest
    ∙ (ap (λ s. with_piece at s (λ n. lex (n - 1) (at + 1) rest)) (gap b h) ∙ behind-piece [] rest b at)
  where
    gap : (b : ℕ) → is_space b ≡ true → first_piece (b ∷ rest) ≡ piece.Gap 1
    gap b h = rw h refl

word-some : (w : List ℕ) (k : TokenKind) → IsWord w k → 0 < length w
word-some [] k h = absurd h
word-some (b ∷ w) k h = omega arith

-- the tokens of a readable text are those of its pieces
pub lex-text : (ps : List Piece) (at : ℕ) → IsReadable ps → lex 0 at (text ps) ≡ Ok (placed at ps)
lex-text [] at h = lex-end at
lex-text (Blank b ∷ ps) at h = lex-blank b (text ps) at h.0 ∙ lex-text ps (at + 1) h.1
lex-text (Sign b w k ∷ ps) at h =
    lex-token (b ∷ w) (text ps) k at (omega arith) (h.0 (text ps))
    ∙ ap (with_token (token k (span_of at (b ∷ w)))) (lex-text ps (at + length (b ∷ w)) h.1)
lex-text (Word w k ∷ ps) at h =
    lex-token w (text ps) k at (word-some w k h.0) (word-first w k (text ps) h.0 (parted-word ps h.1))
    ∙ ap (with_token (token k (span_of at w))) (lex-text ps (at + length w) h.2)

-- ---- what the tokens stand for

-- these tokens, with these words in the bytes
abbrev pub Stands : List ℕ → List Piece → List Token → Type 0
Stands bytes [] ts = ts ≡ []
Stands bytes (Blank b ∷ ps) ts = Stands bytes ps ts
Stands bytes (Sign b w k ∷ ps) ts = (at : Span) × (rest : List Token) × (ts ≡ token k at ∷ rest) × Stands bytes ps rest
Stands bytes (Word w k ∷ ps) ts = (at : Span) × (rest : List Token) × (ts ≡ token k at ∷ rest) × (word_at bytes at ≡ w)
    × Stands bytes ps rest

word-there : (w rest bytes : List ℕ) (at : ℕ) → drop at bytes ≡ w ++ rest
    → word_at bytes (record { start = at; end = at + length w }) ≡ w
word-there w rest bytes at e =
    let n : at + length w - at ≡ length w = omega arith in
    rw (n, e) (take-front w rest)

drop-none : (n : ℕ) → drop {A = ℕ} n [] ≡ []
drop-none zero = refl
drop-none (suc n) = refl

drop-more : (m n : ℕ) (bytes : List ℕ) → drop (m + n) bytes ≡ drop n (drop m bytes)
drop-more zero n bytes = ap (λ k. drop k bytes) (let e : zero + n ≡ n = omega arith in e)
drop-more (suc m) n [] = let e : suc m + n ≡ suc (m + n) = omega arith in rw e (sym (drop-none n))
drop-more (suc m) n (b ∷ bytes) = let e : suc m + n ≡ suc (m + n) = omega arith in rw e (drop-more m n bytes)

onward : (w rest bytes : List ℕ) (at : ℕ) → drop at bytes ≡ w ++ rest → drop (at + length w) bytes ≡ rest
onward w rest bytes at e = drop-more at (length w) bytes ∙ (ap (drop (length w)) e ∙ drop-front w rest)

pub stands : (bytes : List ℕ) (ps : List Piece) (at : ℕ) → drop at bytes ≡ text ps → Stands bytes ps (placed at ps)
stands bytes [] at e = refl
stands bytes (Blank b ∷ ps) at e = stands bytes ps (at + 1) (onward (b ∷ []) (text ps) bytes at e)
stands bytes (Sign b w k ∷ ps) at e =
    (_, _, refl, stands bytes ps (at + length (b ∷ w)) (onward (b ∷ w) (text ps) bytes at e))
stands bytes (Word w k ∷ ps) at e =
    (_, _, refl, word-there w (text ps) bytes at e, stands bytes ps (at + length w) (onward w (text ps) bytes at e))
