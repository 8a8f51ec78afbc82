-- Going over a text piece by piece.
use Rattle.std.proofs.Common.{◌≡◌, ℕ, zero, suc, ◌+◌, ◌-◌, ◌<◌, ◌≤◌, List, [], ◌∷◌, ◌++◌, length, drop, Result, Ok, Err}
use Rattle.std.proofs.Common.{refl, sym, ap, ◌∙◌, append_assoc, append-nil, length-drop, arith}
use Rattle.pbs_base.specs.declared.refusal.Span.{Span}
use Rattle.vlog_text.specs.declared.token.Token.{Token}
use Rattle.vlog_text.specs.declared.token.TokenKind.{TokenKind}
use Rattle.vlog_text.specs.declared.token.Piece.TheVariants.{Gap, Whole, Fault}
use Rattle.vlog_text.specs.Grammar.{token}
use Rattle.vlog_text.specs.Lexing.{first_piece, lex, with_token, with_piece}
use Rattle.vlog_lex.specs.inner.Lexing.{with_front, IsWithin}

-- passing over bytes
lex-skip : (n at : ℕ) (bs : List ℕ) → n ≤ length bs → lex n at bs ≡ lex 0 (at + n) (drop n bs)
unfolding lex
lex-skip zero at bs h = ap (λ a. lex 0 a bs) (omega arith)
lex-skip (suc n) at [] h = absurd (omega arith)
lex-skip (suc n) at (b ∷ bs) h = lex-skip n (at + 1) bs (omega arith) ∙ ap (λ a. lex 0 a (drop n bs)) (omega arith)

-- behind a piece
lex-behind : (n at b : ℕ) (bs : List ℕ) → 0 < n → n ≤ length (b ∷ bs)
    → lex (n - 1) (at + 1) bs ≡ lex 0 (at + n) (drop n (b ∷ bs))
lex-behind zero at b bs h k = absurd (omega arith)
lex-behind (suc n) at b bs h k =
    let m : suc n - 1 ≡ n = omega arith in
    rw m (lex-skip n (at + 1) bs (omega arith) ∙ ap (λ a. lex 0 a (drop n bs)) (omega arith))

pub lex-piece : (at b : ℕ) (bs : List ℕ) → lex 0 at (b ∷ bs) ≡ with_piece at (first_piece (b ∷ bs))
    (λ n. lex (n - 1) (at + 1) bs)
unfolding lex
lex-piece at b bs = refl

pub lex-end : (skip at : ℕ) → lex skip at [] ≡ Ok []
unfolding lex
lex-end skip at = refl

-- ---- one turn of the loop

-- what the loop keeps
pub record LexedTo (bytes : List ℕ) (found : List Token) (at : ℕ) (rest : List ℕ) : Type 0 where
  pub goes_on : with_front found (lex 0 at rest) ≡ lex 0 0 bytes
  pub lengths : at + length rest ≡ length bytes

shorter : (n : ℕ) (at : ℕ) (rest bytes : List ℕ) → n ≤ length rest → at + length rest ≡ length bytes
    → at + n + length (drop n rest) ≡ length bytes
shorter n at rest bytes h e = let d = length-drop n rest in omega arith

-- a gap is passed over
pub lexed_gap : (bytes rest : List ℕ) (found : List Token) (at n : ℕ) → LexedTo bytes found at rest → 0 < length rest
    → Gap n ≡ first_piece rest → IsWithin (length rest) (Gap n)
    → LexedTo bytes found (at + n) (drop n rest)
lexed_gap bytes [] found at n so some is within = absurd (omega arith)
lexed_gap bytes (b ∷ bs) found at n so some is within =
    let step : lex 0 at (b ∷ bs) ≡ lex 0 (at + n) (drop n (b ∷ bs)) = lex-piece at b bs
    ∙ rw (sym is) (lex-behind n at b bs within.0 within.1) in
    record { goes_on = rw (sym step) so.goes_on; lengths = shorter n at (b ∷ bs) bytes within.1 so.lengths }

front-more : (found : List Token) (t : Token) (r : Result (List Token) Span)
    → with_front (found ++ t ∷ []) r ≡ with_front found (with_token t r)
front-more found t (Ok ts) = ap Ok (append_assoc found (t ∷ []) ts)
front-more found t (Err at) = refl

-- a token is taken
pub lexed_token : (bytes rest : List ℕ) (found more : List Token) (at n : ℕ) (k : TokenKind)
    → LexedTo bytes found at rest → 0 < length rest → Whole k n ≡ first_piece rest → IsWithin (length rest) (Whole k n)
    → more ≡ found ++ token k (record { start = at; end = at + n }) ∷ []
    → LexedTo bytes more (at + n) (drop n rest)
lexed_token bytes [] found more at n k so some is within e = absurd (omega arith)
lexed_token bytes (b ∷ bs) found more at n k so some is within e =
    let t : Token = token k (record { start = at; end = at + n }) in
    let step : lex 0 at (b ∷ bs) ≡ with_token t (lex 0 (at + n) (drop n (b ∷ bs))) = lex-piece at b bs
    ∙ rw (sym is) (ap (with_token t) (lex-behind n at b bs within.0 within.1)) in
    record {
      goes_on = rw e (front-more found t (lex 0 (at + n) (drop n (b ∷ bs)))
          ∙ (ap (with_front found) (sym step) ∙ so.goes_on));
      lengths = shorter n at (b ∷ bs) bytes within.1 so.lengths;
    }

-- a fault is the text's
pub lexed_fault : (bytes rest : List ℕ) (found : List Token) (at n : ℕ) → LexedTo bytes found at rest → 0 < length rest
    → Fault n ≡ first_piece rest
    → lex 0 0 bytes ≡ Err (record { start = at; end = at + n })
lexed_fault bytes [] found at n so some is = absurd (omega arith)
lexed_fault bytes (b ∷ bs) found at n so some is =
    let step : lex 0 at (b ∷ bs) ≡ Err (record { start = at; end = at + n }) = lex-piece at b bs ∙ rw (sym is) refl in
    sym so.goes_on ∙ ap (with_front found) step

-- at the end all tokens are found
pub lexed_whole : (bytes rest : List ℕ) (found : List Token) (at : ℕ) → LexedTo bytes found at rest → length rest ≡ 0
    → lex 0 0 bytes ≡ Ok found
lexed_whole bytes [] found at so none = sym so.goes_on ∙ (ap (with_front found) (lex-end 0 at)
    ∙ ap Ok (append-nil found))
lexed_whole bytes (b ∷ bs) found at so none = absurd (omega arith)
