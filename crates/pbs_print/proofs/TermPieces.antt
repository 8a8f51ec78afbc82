-- The canonical text of a term in pieces, and that it reads back.
use Rattle.std.proofs.Common.{◌≡◌, ℕ, suc, ◌<◌, ◌≤◌, List, [], ◌∷◌, ◌++◌, length, Bool, true, false, refl, sym, ap}
use Rattle.std.proofs.Common.{subst, ◌∙◌, append_assoc, append-nil, arith}
use Rattle.std.specs.Prelude.{codes, decimal}
use Rattle.std.proofs.lemmas.Fmt.{decimal_digit}
use Rattle.pbs_ast.specs.declared.syntax.SpecTerm.{SpecTerm, Row_of-SpecTerm, end_of-SpecTerm, more_of-SpecTerm}
use Rattle.pbs_text.specs.Grammar.{Second}
use Rattle.pbs_print.specs.Canonical.{followed, joined, bracketed, is_any, is_joined, bit_text, term_text, all_members}
use Rattle.pbs_print.specs.Canonical.{any_members}
use Rattle.pbs_print.specs.Unspanned.{unspanned_terms}
use Rattle.pbs_text.specs.Nesting.{Opened, Waiting, closed}
use Rattle.pbs_grammar.proofs.Nesting.{closed-twice, length-closed}
use Rattle.pbs_print.proofs.TextPieces.{Piece, Blank, Sign, Word, Digits, text, text-append, IsParted, IsReadable, Flat}
use Rattle.pbs_print.proofs.TextPieces.{wrapped, text-wrapped, InBrackets, ReadsOn, wrapped-reads, not_over, FlatAt}
use Rattle.pbs_print.proofs.TextPieces.{wrapped-flat}
use Rattle.pbs_lex.proofs.Found.{IsWord, IsSmall}
use Rattle.pbs_ast.specs.declared.syntax.SpecTerm as node
use Rattle.pbs_text.specs.declared.token.TokenKind.TheVariants as kind

-- ---- pieces

-- the two kinds of lists
pub data TermList : Type 0 where
  AllOf : TermList
  AnyOf : TermList

abbrev pub wraps : TermList → SpecTerm → Bool
wraps AllOf t = is_joined t
wraps AnyOf t = is_any t

abbrev pub between : TermList → List Piece
between AllOf = Blank 32 ∷ Sign 38 kind.Ampersand ∷ Blank 32 ∷ []
between AnyOf = Blank 32 ∷ Sign 124 kind.Bar ∷ Blank 32 ∷ []

abbrev pub bit_pieces : Bool → List Piece
bit_pieces false = Digits 0 ∷ []
bit_pieces true = Digits 1 ∷ []

abbrev mutual
  pub term_pieces : SpecTerm → List Piece
  term_pieces (node.Const b) = bit_pieces b
  term_pieces (node.Name word at) = Word word kind.Name ∷ []
  term_pieces (node.Not' _ t) = Sign 126 kind.Tilde ∷ wrapped (is_joined t) (term_pieces t)
  term_pieces (node.All' n row) = list_pieces AllOf row
  term_pieces (node.Any' n row) = list_pieces AnyOf row
  term_pieces (node.Equal word at n to) =
      Word word kind.Name ∷ Blank 32 ∷ Sign 61 kind.Equals ∷ Blank 32 ∷ Digits n ∷ []

  pub list_pieces : TermList → {n : _} → Row_of-SpecTerm n → List Piece
  list_pieces l end_of-SpecTerm = []
  list_pieces l (more_of-SpecTerm t rest) = wrapped (wraps l t) (term_pieces t) ++ rest_pieces l rest

  pub rest_pieces : TermList → {n : _} → Row_of-SpecTerm n → List Piece
  rest_pieces l end_of-SpecTerm = []
  rest_pieces l (more_of-SpecTerm t rest) = between l ++ (wrapped (wraps l t) (term_pieces t) ++ rest_pieces l rest)

-- ---- they make the text

abbrev members : TermList → {n : _} → Row_of-SpecTerm n → List (List ℕ)
members AllOf row = all_members row
members AnyOf row = any_members row

abbrev separator : TermList → List ℕ
separator AllOf = codes " & "
separator AnyOf = codes " | "

pub text-bit : (b : Bool) → text (bit_pieces b) ≡ bit_text b
text-bit false = ap (λ l. l ++ []) (decimal_digit 0 (omega arith))
text-bit true = ap (λ l. l ++ []) (decimal_digit 1 (omega arith))

member : (l : TermList) (t : SpecTerm) {n : _} (rest : Row_of-SpecTerm n)
    → members l (more_of-SpecTerm t rest) ≡ bracketed (wraps l t) (term_text t) ∷ members l rest
member AllOf t rest = refl
member AnyOf t rest = refl

between-text : (l : TermList) → text (between l) ≡ separator l
between-text AllOf = refl
between-text AnyOf = refl

text-member : (l : TermList) (t : SpecTerm) (z : List Piece) → text (term_pieces t) ≡ term_text t
    → text (wrapped (wraps l t) (term_pieces t) ++ z) ≡ bracketed (wraps l t) (term_text t) ++ text z
text-member l t z e =
    text-append (wrapped (wraps l t) (term_pieces t)) z
    ∙ ap (λ x. x ++ text z) (text-wrapped (wraps l t) (term_pieces t) ∙ ap (bracketed (wraps l t)) e)

mutual
  pub text-term : (t : SpecTerm) → text (term_pieces t) ≡ term_text t
  text-term (node.Const b) = text-bit b
  text-term (node.Name word at) = append-nil word
  text-term (node.Not' _ t) =
      ap (λ l. 126 ∷ l) (text-wrapped (is_joined t) (term_pieces t) ∙ ap (bracketed (is_joined t)) (text-term t))
  text-term (node.All' n row) = text-list AllOf row
  text-term (node.Any' n row) = text-list AnyOf row
  text-term (node.Equal word at n to) = ap (λ l. word ++ 32 ∷ 61 ∷ 32 ∷ l) (append-nil (decimal n))

  text-list : (l : TermList) {n : _} (row : Row_of-SpecTerm n)
      → text (list_pieces l row) ≡ joined (separator l) (members l row)
  text-list AllOf end_of-SpecTerm = refl
  text-list AnyOf end_of-SpecTerm = refl
  text-list l (more_of-SpecTerm t rest) =
      text-member l t (rest_pieces l rest) (text-term t)
      ∙ (ap (λ x. bracketed (wraps l t) (term_text t) ++ x) (text-rest l rest)
      ∙ ap (joined (separator l)) (sym (member l t rest)))

  text-rest : (l : TermList) {n : _} (row : Row_of-SpecTerm n)
      → text (rest_pieces l row) ≡ followed (separator l) (members l row)
  text-rest AllOf end_of-SpecTerm = refl
  text-rest AnyOf end_of-SpecTerm = refl
  text-rest l (more_of-SpecTerm t rest) =
      text-append (between l) (wrapped (wraps l t) (term_pieces t) ++ rest_pieces l rest)
      ∙ (ap (λ x. x ++ text (wrapped (wraps l t) (term_pieces t) ++ rest_pieces l rest)) (between-text l)
      ∙ (ap (λ x. separator l ++ x) (text-member l t (rest_pieces l rest) (text-term t)
      ∙ ap (λ x. bracketed (wraps l t) (term_text t) ++ x) (text-rest l rest))
      ∙ ap (followed (separator l)) (sym (member l t rest))))

-- ---- terms that can be written at a nesting

abbrev mutual
  pub TermIs : Bool → ℕ → SpecTerm → Type 0
  TermIs two n (node.Const b) = Unit {0}
  TermIs two n (node.Name word at) = IsWord word kind.Name
  TermIs two n (node.Not' _ t) =
      (n < 64) × InBrackets (is_joined t) (suc n) (TermIs two (suc n) t) (TermIs two (suc (suc n)) t)
  TermIs two n (node.All' k row) = (2 ≤ length (unspanned_terms row)) × TermsAre two n AllOf row
  TermIs two n (node.Any' k row) = (2 ≤ length (unspanned_terms row)) × TermsAre two n AnyOf row
  TermIs two n (node.Equal word at m to) = Second two × IsWord word kind.Name × IsSmall m

  pub TermsAre : Bool → ℕ → TermList → {k : _} → Row_of-SpecTerm k → Type 0
  TermsAre two n l end_of-SpecTerm = Unit {0}
  TermsAre two n l (more_of-SpecTerm t rest) =
      InBrackets (wraps l t) n (TermIs two n t) (TermIs two (suc n) t) × TermsAre two n l rest

-- ---- they can be read

between-reads : (l : TermList) (z : List Piece) → IsReadable z → IsParted (between l ++ z) × IsReadable (between l ++ z)
between-reads AllOf z h = (refl, (refl, ((λ rest. refl), (refl, h))))
between-reads AnyOf z h = (refl, (refl, ((λ rest. refl), (refl, h))))

pub bit-reads : (b : Bool) → ReadsOn (bit_pieces b)
bit-reads false z parted h = (omega arith, parted, h)
bit-reads true z parted h = (omega arith, parted, h)

mutual
  pub term-reads : (two : Bool) (n : ℕ) (t : SpecTerm) → TermIs two n t → ReadsOn (term_pieces t)
  term-reads two n (node.Const b) h z parted more = bit-reads b z parted more
  term-reads two n (node.Name word at) h z parted more = (h, parted, more)
  term-reads two n (node.Not' _ t) h z parted more = (
    (λ rest. refl),
    wrapped-reads (is_joined t) (suc n) _ _ (term_pieces t) (term-reads two (suc n) t)
        (term-reads two (suc (suc n)) t) h.1 z parted more,
  )
  term-reads two n (node.All' k row) h z parted more = list-reads two n AllOf row h.1 z parted more
  term-reads two n (node.Any' k row) h z parted more = list-reads two n AnyOf row h.1 z parted more
  term-reads two n (node.Equal word at m to) h z parted more =
      (h.1, refl, (refl, ((λ rest. refl), (refl, (h.2, parted, more)))))

  list-reads : (two : Bool) (n : ℕ) (l : TermList) {k : _} (row : Row_of-SpecTerm k) → TermsAre two n l row
      → ReadsOn (list_pieces l row)
  list-reads two n l end_of-SpecTerm h z parted more = more
  list-reads two n l (more_of-SpecTerm t rest) h z parted more =
      let on = rest-reads two n l rest h.1 z parted more in
      rw (append_assoc (wrapped (wraps l t) (term_pieces t)) (rest_pieces l rest) z)
      (wrapped-reads (wraps l t) n _ _ (term_pieces t) (term-reads two n t) (term-reads two (suc n) t) h.0
      (rest_pieces l rest ++ z) on.0 on.1)

  rest-reads : (two : Bool) (n : ℕ) (l : TermList) {k : _} (row : Row_of-SpecTerm k) → TermsAre two n l row
      → (z : List Piece) → IsParted z → IsReadable z
      → IsParted (rest_pieces l row ++ z) × IsReadable (rest_pieces l row ++ z)
  rest-reads two n l end_of-SpecTerm h z parted more = (parted, more)
  rest-reads two n l (more_of-SpecTerm t rest) h z parted more =
      let on = rest-reads two n l rest h.1 z parted more in
      rw (
        append_assoc (between l) (wrapped (wraps l t) (term_pieces t) ++ rest_pieces l rest) z,
        append_assoc (wrapped (wraps l t) (term_pieces t)) (rest_pieces l rest) z,
      )
      (between-reads l _
      (wrapped-reads (wraps l t) n _ _ (term_pieces t) (term-reads two n t) (term-reads two (suc n) t) h.0
      (rest_pieces l rest ++ z) on.0 on.1))

-- ---- they keep to the nesting

between-flat : (l : TermList) (s : List Opened) (z : List Piece) → Flat s z → Flat s (between l ++ z)
between-flat AllOf s z h = (refl, h)
between-flat AnyOf s z h = (refl, h)

pub bit-flat : (n : ℕ) (b : Bool) → FlatAt n (bit_pieces b)
bit-flat n false s z low h = h
bit-flat n true s z low h = h

mutual
  pub term-flat : (two : Bool) (n : ℕ) (t : SpecTerm) → TermIs two n t → FlatAt n (term_pieces t)
  term-flat two n (node.Const b) h s z low more = bit-flat n b s z low more
  term-flat two n (node.Name word at) h s z low more = (refl, more)
  term-flat two n (node.Not' _ t) h s z low more = (
    not_over n s h.0 low,
    wrapped-flat (is_joined t) (suc n) _ _ (term_pieces t) (term-flat two (suc n) t)
        (term-flat two (suc (suc n)) t) h.1 (Waiting ∷ s) z (omega arith) more,
  )
  term-flat two n (node.All' k row) h s z low more = list-flat two n AllOf row h.0 h.1 s z low more
  term-flat two n (node.Any' k row) h s z low more = list-flat two n AnyOf row h.0 h.1 s z low more
  term-flat two n (node.Equal word at m to) h s z low more =
      (refl, (refl, subst (λ x. Flat x z) (sym (closed-twice s)) more))

  list-flat : (two : Bool) (n : ℕ) (l : TermList) {k : _} (row : Row_of-SpecTerm k) → 2 ≤ length (unspanned_terms row)
      → TermsAre two n l row → FlatAt n (list_pieces l row)
  list-flat two n l end_of-SpecTerm some h s z low more = absurd (omega arith)
  list-flat two n l (more_of-SpecTerm t rest) some h s z low more =
      let shorter = length-closed s in
      rw (append_assoc (wrapped (wraps l t) (term_pieces t)) (rest_pieces l rest) z)
      (wrapped-flat (wraps l t) n _ _ (term_pieces t) (term-flat two n t) (term-flat two (suc n) t) h.0 s
      (rest_pieces l rest ++ z) low (rest-flat two n l rest h.1 (closed s) z (omega arith) (closed-twice s) more))

  rest-flat : (two : Bool) (n : ℕ) (l : TermList) {k : _} (row : Row_of-SpecTerm k) → TermsAre two n l row
      → (s : List Opened) (z : List Piece) → length s ≤ n → closed s ≡ s → Flat s z → Flat s (rest_pieces l row ++ z)
  rest-flat two n l end_of-SpecTerm h s z low e more = more
  rest-flat two n l (more_of-SpecTerm t rest) h s z low e more =
      rw (
        append_assoc (between l) (wrapped (wraps l t) (term_pieces t) ++ rest_pieces l rest) z,
        append_assoc (wrapped (wraps l t) (term_pieces t)) (rest_pieces l rest) z,
      )
      (between-flat l s _
      (wrapped-flat (wraps l t) n _ _ (term_pieces t) (term-flat two n t) (term-flat two (suc n) t) h.0 s
      (rest_pieces l rest ++ z) low (rw e (rest-flat two n l rest h.1 s z low e more))))
