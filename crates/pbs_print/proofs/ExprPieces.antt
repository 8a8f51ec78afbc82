-- The canonical text of an expression in pieces, and that it can be read.
use Rattle.std.proofs.Common.{◌≡◌, ℕ, suc, ◌<◌, ◌≤◌, List, [], ◌∷◌, ◌++◌, length, Bool, refl, sym, ap, ◌∙◌}
use Rattle.std.proofs.Common.{append_assoc, append-nil, arith, lit<}
use Rattle.std.specs.Prelude.{codes, not}
use Rattle.pbs_base.specs.declared.refusal.Span.{Span}
use Rattle.pbs_ast.specs.declared.syntax.Kind.{Kind, Row_of-Expr, end_of-Expr, more_of-Expr}
use Rattle.pbs_text.specs.Grammar.{Second}
use Rattle.pbs_print.specs.Canonical.{followed, joined, bracketed, is_empty, is_choice, is_list, is_wide, term_text}
use Rattle.pbs_print.specs.Canonical.{kind_text, seq_members, choice_members}
use Rattle.pbs_print.specs.Unspanned.{unspanned_exprs}
use Rattle.pbs_text.specs.Nesting.{Opened, closed}
use Rattle.pbs_grammar.proofs.Nesting.{closed-twice, length-closed}
use Rattle.pbs_print.proofs.TextPieces.{Piece, Blank, Sign, Word, Digits, text, text-append, IsParted, IsReadable, Flat}
use Rattle.pbs_print.proofs.TextPieces.{wrapped, text-wrapped, InBrackets, ReadsOn, wrapped-reads, not_over, FlatAt}
use Rattle.pbs_print.proofs.TextPieces.{wrapped-flat}
use Rattle.pbs_print.proofs.TermPieces.{term_pieces, text-term, TermIs, term-reads, term-flat}
use Rattle.pbs_lex.proofs.Found.{IsWord, IsSmall}
use Rattle.pbs_ast.specs.declared.syntax.Kind as node
use Rattle.pbs_text.specs.declared.token.TokenKind.TheVariants as kind

-- ---- pieces

pub data ExprList : Type 0 where
  SeqOf : ExprList
  ChoiceOf : ExprList

abbrev pub wraps : ExprList → Kind → Bool
wraps SeqOf e = is_list e
wraps ChoiceOf e = is_choice e

abbrev pub between : ExprList → List Piece
between SeqOf = Sign 44 kind.Comma ∷ Blank 32 ∷ []
between ChoiceOf = Blank 32 ∷ Sign 124 kind.Bar ∷ Blank 32 ∷ []

abbrev pub bounds_pieces : ℕ → ℕ → List Piece
bounds_pieces m n = Sign 123 kind.OpenCurly ∷ Digits m ∷ Sign 44 kind.Comma ∷ Digits n ∷ Sign 125 kind.CloseCurly ∷ []

abbrev pub hold_word : Piece
hold_word = Word (codes "hold") kind.HoldWord

abbrev pub try_word : Piece
try_word = Word (codes "try") kind.TryWord

abbrev pub abort_word : Piece
abort_word = Word (codes "abort") kind.AbortWord

abbrev pub then_word : Piece
then_word = Word (codes "then") kind.ThenWord

abbrev mutual
  pub kind_pieces : Kind → List Piece
  kind_pieces node.Empty = Sign 40 kind.OpenRound ∷ Sign 41 kind.CloseRound ∷ []
  kind_pieces (node.Terminal t) = Sign 91 kind.OpenSquare ∷ (term_pieces t ++ Sign 93 kind.CloseSquare ∷ [])
  kind_pieces (node.Action word at) = Sign 123 kind.OpenCurly ∷ Word word kind.Name ∷ Sign 125 kind.CloseCurly ∷ []
  kind_pieces (node.Seq' n row) = list_pieces SeqOf row
  kind_pieces (node.Choice' n row) = list_pieces ChoiceOf row
  kind_pieces (node.Star' _ at e) = wrapped (is_wide e) (kind_pieces e) ++ Sign 42 kind.Star ∷ []
  kind_pieces (node.Plus' _ at e) = wrapped (is_wide e) (kind_pieces e) ++ Sign 43 kind.Plus ∷ []
  kind_pieces (node.Opt' _ at e) = wrapped (is_wide e) (kind_pieces e) ++ Sign 63 kind.Question ∷ []
  kind_pieces (node.Hold' t _ at e) =
      hold_word ∷ Blank 32 ∷ Sign 91 kind.OpenSquare ∷ (term_pieces t ++ Sign 93 kind.CloseSquare ∷ Blank 32 ∷
      Sign 58 kind.Colon ∷ Blank 32 ∷ wrapped (not (is_empty e)) (kind_pieces e))
  kind_pieces (node.Scope' _ at e _ at' x _ at'' h) =
      try_word ∷ Blank 32 ∷ (wrapped (not (is_empty e)) (kind_pieces e) ++ Blank 32 ∷ abort_word ∷ Blank 32 ∷
      (wrapped (not (is_empty x)) (kind_pieces x) ++ Blank 32 ∷ then_word ∷ Blank 32 ∷
      wrapped (not (is_empty h)) (kind_pieces h)))
  kind_pieces (node.Name word) = Word word kind.Name ∷ []
  kind_pieces (node.Repeat' _ at e m n) = wrapped (is_wide e) (kind_pieces e) ++ bounds_pieces m n

  pub list_pieces : ExprList → {n : _} → Row_of-Expr n → List Piece
  list_pieces l end_of-Expr = []
  list_pieces l (more_of-Expr at e rest) = wrapped (wraps l e) (kind_pieces e) ++ rest_pieces l rest

  pub rest_pieces : ExprList → {n : _} → Row_of-Expr n → List Piece
  rest_pieces l end_of-Expr = []
  rest_pieces l (more_of-Expr at e rest) = between l ++ (wrapped (wraps l e) (kind_pieces e) ++ rest_pieces l rest)

-- ---- they make the text

abbrev members : ExprList → {n : _} → Row_of-Expr n → List (List ℕ)
members SeqOf row = seq_members row
members ChoiceOf row = choice_members row

abbrev separator : ExprList → List ℕ
separator SeqOf = codes ", "
separator ChoiceOf = codes " | "

member : (l : ExprList) (at : Span) (e : Kind) {n : _} (rest : Row_of-Expr n)
    → members l (more_of-Expr at e rest) ≡ bracketed (wraps l e) (kind_text e) ∷ members l rest
member SeqOf at e rest = refl
member ChoiceOf at e rest = refl

between-text : (l : ExprList) → text (between l) ≡ separator l
between-text SeqOf = refl
between-text ChoiceOf = refl

-- an operand and what follows it
text-operand : (b : Bool) (e : Kind) (z : List Piece) → text (kind_pieces e) ≡ kind_text e
    → text (wrapped b (kind_pieces e) ++ z) ≡ bracketed b (kind_text e) ++ text z
text-operand b e z h =
    text-append (wrapped b (kind_pieces e)) z
    ∙ ap (λ x. x ++ text z) (text-wrapped b (kind_pieces e) ∙ ap (bracketed b) h)

text-group : (e : Kind) → text (kind_pieces e) ≡ kind_text e
    → text (wrapped (not (is_empty e)) (kind_pieces e)) ≡ bracketed (not (is_empty e)) (kind_text e)
text-group e h = text-wrapped (not (is_empty e)) (kind_pieces e) ∙ ap (bracketed (not (is_empty e))) h

mutual
  pub text-kind : (e : Kind) → text (kind_pieces e) ≡ kind_text e
  text-kind node.Empty = refl
  text-kind (node.Terminal t) =
      ap (λ l. 91 ∷ l) (text-append (term_pieces t) (Sign 93 kind.CloseSquare ∷ [])
      ∙ ap (λ l. l ++ 93 ∷ []) (text-term t))
  text-kind (node.Action word at) = refl
  text-kind (node.Seq' n row) = text-list SeqOf row
  text-kind (node.Choice' n row) = text-list ChoiceOf row
  text-kind (node.Star' _ at e) = text-operand (is_wide e) e (Sign 42 kind.Star ∷ []) (text-kind e)
  text-kind (node.Plus' _ at e) = text-operand (is_wide e) e (Sign 43 kind.Plus ∷ []) (text-kind e)
  text-kind (node.Opt' _ at e) = text-operand (is_wide e) e (Sign 63 kind.Question ∷ []) (text-kind e)
  text-kind (node.Hold' t _ at e) =
      ap (λ l. codes "hold [" ++ l)
      (text-append (term_pieces t) (Sign 93 kind.CloseSquare ∷ Blank 32 ∷ Sign 58 kind.Colon ∷ Blank 32 ∷
      wrapped (not (is_empty e)) (kind_pieces e))
      ∙ (ap (λ l. l ++ 93 ∷ 32 ∷ 58 ∷ 32 ∷ text (wrapped (not (is_empty e)) (kind_pieces e))) (text-term t)
      ∙ ap (λ l. term_text t ++ (codes "] : " ++ l)) (text-group e (text-kind e))))
  text-kind (node.Scope' _ at e _ at' x _ at'' h) =
      ap (λ l. codes "try " ++ l)
      (text-operand (not (is_empty e)) e _ (text-kind e)
      ∙ ap (λ l. bracketed (not (is_empty e)) (kind_text e) ++ (codes " abort " ++ l))
      (text-operand (not (is_empty x)) x _ (text-kind x)
      ∙ ap (λ l. bracketed (not (is_empty x)) (kind_text x) ++ (codes " then " ++ l)) (text-group h (text-kind h))))
  text-kind (node.Name word) = append-nil word
  text-kind (node.Repeat' _ at e m n) = text-operand (is_wide e) e (bounds_pieces m n) (text-kind e)

  text-list : (l : ExprList) {n : _} (row : Row_of-Expr n)
      → text (list_pieces l row) ≡ joined (separator l) (members l row)
  text-list SeqOf end_of-Expr = refl
  text-list ChoiceOf end_of-Expr = refl
  text-list l (more_of-Expr at e rest) =
      text-operand (wraps l e) e (rest_pieces l rest) (text-kind e)
      ∙ (ap (λ x. bracketed (wraps l e) (kind_text e) ++ x) (text-rest l rest)
      ∙ ap (joined (separator l)) (sym (member l at e rest)))

  text-rest : (l : ExprList) {n : _} (row : Row_of-Expr n)
      → text (rest_pieces l row) ≡ followed (separator l) (members l row)
  text-rest SeqOf end_of-Expr = refl
  text-rest ChoiceOf end_of-Expr = refl
  text-rest l (more_of-Expr at e rest) =
      text-append (between l) (wrapped (wraps l e) (kind_pieces e) ++ rest_pieces l rest)
      ∙ (ap (λ x. x ++ text (wrapped (wraps l e) (kind_pieces e) ++ rest_pieces l rest)) (between-text l)
      ∙ (ap (λ x. separator l ++ x) (text-operand (wraps l e) e (rest_pieces l rest) (text-kind e)
      ∙ ap (λ x. bracketed (wraps l e) (kind_text e) ++ x) (text-rest l rest))
      ∙ ap (followed (separator l)) (sym (member l at e rest))))

-- ---- expressions that can be written at a nesting

abbrev mutual
  pub KindIs : Bool → ℕ → Kind → Type 0
  KindIs two n node.Empty = n < 64
  KindIs two n (node.Terminal t) = TermIs two n t
  KindIs two n (node.Action word at) = IsWord word kind.Name
  KindIs two n (node.Seq' k row) = (2 ≤ length (unspanned_exprs row)) × KindsAre two n SeqOf row
  KindIs two n (node.Choice' k row) = (2 ≤ length (unspanned_exprs row)) × KindsAre two n ChoiceOf row
  KindIs two n (node.Star' _ at e) = InBrackets (is_wide e) n (KindIs two n e) (KindIs two (suc n) e)
  KindIs two n (node.Plus' _ at e) = InBrackets (is_wide e) n (KindIs two n e) (KindIs two (suc n) e)
  KindIs two n (node.Opt' _ at e) = InBrackets (is_wide e) n (KindIs two n e) (KindIs two (suc n) e)
  KindIs two n (node.Hold' t _ at e) =
      TermIs two n t × InBrackets (not (is_empty e)) n (KindIs two n e) (KindIs two (suc n) e)
  KindIs two n (node.Scope' _ at e _ at' x _ at'' h) =
      InBrackets (not (is_empty e)) n (KindIs two n e) (KindIs two (suc n) e)
      × InBrackets (not (is_empty x)) n (KindIs two n x) (KindIs two (suc n) x)
      × InBrackets (not (is_empty h)) n (KindIs two n h) (KindIs two (suc n) h)
  KindIs two n (node.Name word) = IsWord word kind.Name
  KindIs two n (node.Repeat' _ at e i j) =
      Second two × InBrackets (is_wide e) n (KindIs two n e) (KindIs two (suc n) e) × IsSmall i × IsSmall j

  pub KindsAre : Bool → ℕ → ExprList → {k : _} → Row_of-Expr k → Type 0
  KindsAre two n l end_of-Expr = Unit {0}
  KindsAre two n l (more_of-Expr at e rest) =
      InBrackets (wraps l e) n (KindIs two n e) (KindIs two (suc n) e) × KindsAre two n l rest

-- ---- they can be read

between-reads : (l : ExprList) (z : List Piece) → IsReadable z → IsParted (between l ++ z) × IsReadable (between l ++ z)
between-reads SeqOf z h = (refl, ((λ rest. refl), (refl, h)))
between-reads ChoiceOf z h = (refl, (refl, ((λ rest. refl), (refl, h))))

bounds-reads : (m n : ℕ) → IsSmall m → IsSmall n → (z : List Piece) → IsReadable z → IsReadable (bounds_pieces m n ++ z)
bounds-reads m n h k z more = ((λ rest. refl), (h, refl, ((λ rest. refl), (k, refl, ((λ rest. refl), more)))))

mutual
  pub kind-reads : (two : Bool) (n : ℕ) (e : Kind) → KindIs two n e → ReadsOn (kind_pieces e)
  kind-reads two n node.Empty h z parted more = ((λ rest. refl), ((λ rest. refl), more))
  kind-reads two n (node.Terminal t) h z parted more = (
    (λ rest. refl),
    rw (append_assoc (term_pieces t) (Sign 93 kind.CloseSquare ∷ []) z)
        (term-reads two n t h (Sign 93 kind.CloseSquare ∷ z) refl ((λ rest. refl), more)),
  )
  kind-reads two n (node.Action word at) h z parted more =
      ((λ rest. refl), (h, refl, ((λ rest. refl), more)))
  kind-reads two n (node.Seq' k row) h z parted more = list-reads two n SeqOf row h.1 z parted more
  kind-reads two n (node.Choice' k row) h z parted more = list-reads two n ChoiceOf row h.1 z parted more
  kind-reads two n (node.Star' _ at e) h z parted more =
      rw (append_assoc (wrapped (is_wide e) (kind_pieces e)) (Sign 42 kind.Star ∷ []) z)
      (wrapped-reads (is_wide e) n _ _ (kind_pieces e) (kind-reads two n e)
      (kind-reads two (suc n) e) h (Sign 42 kind.Star ∷ z) refl ((λ rest. refl), more))
  kind-reads two n (node.Plus' _ at e) h z parted more =
      rw (append_assoc (wrapped (is_wide e) (kind_pieces e)) (Sign 43 kind.Plus ∷ []) z)
      (wrapped-reads (is_wide e) n _ _ (kind_pieces e) (kind-reads two n e)
      (kind-reads two (suc n) e) h (Sign 43 kind.Plus ∷ z) refl ((λ rest. refl), more))
  kind-reads two n (node.Opt' _ at e) h z parted more =
      rw (append_assoc (wrapped (is_wide e) (kind_pieces e)) (Sign 63 kind.Question ∷ []) z)
      (wrapped-reads (is_wide e) n _ _ (kind_pieces e) (kind-reads two n e)
      (kind-reads two (suc n) e) h (Sign 63 kind.Question ∷ z) refl ((λ rest. refl), more))
  kind-reads two n (node.Hold' t _ at e) h z parted more = (
    (refl, refl, lit< tt, refl),
    refl,
    (
      refl,
      (
        (λ rest. refl),
        rw (append_assoc (term_pieces t) (Sign 93 kind.CloseSquare ∷ Blank 32 ∷ Sign 58 kind.Colon ∷ Blank 32 ∷
            wrapped (not (is_empty e)) (kind_pieces e)) z)
            (term-reads two n t h.0 _ refl (
              (λ rest. refl),
              (
                refl,
                (
                  (λ rest. refl),
                  (
                    refl,
                    wrapped-reads (not (is_empty e)) n _ _ (kind_pieces e) (kind-reads two n e)
                        (kind-reads two (suc n) e) h.1 z parted more,
                  ),
                ),
              ),
            )),
      ),
    ),
  )
  kind-reads two n (node.Scope' _ at e _ at' x _ at'' y) h z parted more = (
    (refl, refl, lit< tt, refl),
    refl,
    (
      refl,
      rw (
        append_assoc (wrapped (not (is_empty e)) (kind_pieces e)) (Blank 32 ∷ abort_word ∷ Blank 32 ∷
            (wrapped (not (is_empty x)) (kind_pieces x) ++ Blank 32 ∷ then_word ∷ Blank 32 ∷
            wrapped (not (is_empty y)) (kind_pieces y))) z,
        append_assoc (wrapped (not (is_empty x)) (kind_pieces x)) (Blank 32 ∷ then_word ∷ Blank 32 ∷
            wrapped (not (is_empty y)) (kind_pieces y)) z,
      )
          (wrapped-reads (not (is_empty e)) n _ _ (kind_pieces e) (kind-reads two n e)
          (kind-reads two (suc n) e) h.0 _ refl (
            refl,
            (
              (refl, refl, lit< tt, refl),
              refl,
              (
                refl,
                wrapped-reads (not (is_empty x)) n _ _ (kind_pieces x) (kind-reads two n x)
                    (kind-reads two (suc n) x) h.1 _ refl (
                      refl,
                      (
                        (refl, refl, lit< tt, refl),
                        refl,
                        (
                          refl,
                          wrapped-reads (not (is_empty y)) n _ _ (kind_pieces y) (kind-reads two n y)
                              (kind-reads two (suc n) y) h.2 z parted more,
                        ),
                      ),
                    ),
              ),
            ),
          )),
    ),
  )
  kind-reads two n (node.Name word) h z parted more = (h, parted, more)
  kind-reads two n (node.Repeat' _ at e i j) h z parted more =
      rw (append_assoc (wrapped (is_wide e) (kind_pieces e)) (bounds_pieces i j) z)
      (wrapped-reads (is_wide e) n _ _ (kind_pieces e) (kind-reads two n e)
      (kind-reads two (suc n) e) h.1 (bounds_pieces i j ++ z) refl (bounds-reads i j h.2 h.3 z more))

  list-reads : (two : Bool) (n : ℕ) (l : ExprList) {k : _} (row : Row_of-Expr k) → KindsAre two n l row
      → ReadsOn (list_pieces l row)
  list-reads two n l end_of-Expr h z parted more = more
  list-reads two n l (more_of-Expr at e rest) h z parted more =
      let on = rest-reads two n l rest h.1 z parted more in
      rw (append_assoc (wrapped (wraps l e) (kind_pieces e)) (rest_pieces l rest) z)
      (wrapped-reads (wraps l e) n _ _ (kind_pieces e) (kind-reads two n e) (kind-reads two (suc n) e) h.0
      (rest_pieces l rest ++ z) on.0 on.1)

  rest-reads : (two : Bool) (n : ℕ) (l : ExprList) {k : _} (row : Row_of-Expr k) → KindsAre two n l row
      → (z : List Piece) → IsParted z → IsReadable z
      → IsParted (rest_pieces l row ++ z) × IsReadable (rest_pieces l row ++ z)
  rest-reads two n l end_of-Expr h z parted more = (parted, more)
  rest-reads two n l (more_of-Expr at e rest) h z parted more =
      let on = rest-reads two n l rest h.1 z parted more in
      rw (
        append_assoc (between l) (wrapped (wraps l e) (kind_pieces e) ++ rest_pieces l rest) z,
        append_assoc (wrapped (wraps l e) (kind_pieces e)) (rest_pieces l rest) z,
      )
      (between-reads l _
      (wrapped-reads (wraps l e) n _ _ (kind_pieces e) (kind-reads two n e) (kind-reads two (suc n) e) h.0
      (rest_pieces l rest ++ z) on.0 on.1))

-- ---- they keep to the nesting

between-flat : (l : ExprList) (s : List Opened) (z : List Piece) → Flat s z → Flat s (between l ++ z)
between-flat SeqOf s z h = (refl, h)
between-flat ChoiceOf s z h = (refl, h)

bounds-flat : (m n : ℕ) (s : List Opened) (z : List Piece) → Flat (closed s) z
    → Flat (closed s) (bounds_pieces m n ++ z)
bounds-flat m n s z more = (refl, (refl, (refl, rw (closed-twice s, closed-twice s) more)))

lower_stack : (n : ℕ) (s : List Opened) → length s ≤ n → length (closed s) ≤ n
lower_stack n s low = let shorter = length-closed s in omega arith

mutual
  pub kind-flat : (two : Bool) (n : ℕ) (e : Kind) → KindIs two n e → FlatAt n (kind_pieces e)
  kind-flat two n node.Empty h s z low more = (not_over n s h low, (refl, more))
  kind-flat two n (node.Terminal t) h s z low more = (
    refl,
    rw (append_assoc (term_pieces t) (Sign 93 kind.CloseSquare ∷ []) z)
        (term-flat two n t h s (Sign 93 kind.CloseSquare ∷ z) low (refl, more)),
  )
  kind-flat two n (node.Action word at) h s z low more = (refl, (refl, (refl, more)))
  kind-flat two n (node.Seq' k row) h s z low more = list-flat two n SeqOf row h.0 h.1 s z low more
  kind-flat two n (node.Choice' k row) h s z low more = list-flat two n ChoiceOf row h.0 h.1 s z low more
  kind-flat two n (node.Star' _ at e) h s z low more =
      rw (append_assoc (wrapped (is_wide e) (kind_pieces e)) (Sign 42 kind.Star ∷ []) z)
      (wrapped-flat (is_wide e) n _ _ (kind_pieces e) (kind-flat two n e) (kind-flat two (suc n) e) h s
      (Sign 42 kind.Star ∷ z) low (refl, more))
  kind-flat two n (node.Plus' _ at e) h s z low more =
      rw (append_assoc (wrapped (is_wide e) (kind_pieces e)) (Sign 43 kind.Plus ∷ []) z)
      (wrapped-flat (is_wide e) n _ _ (kind_pieces e) (kind-flat two n e) (kind-flat two (suc n) e) h s
      (Sign 43 kind.Plus ∷ z) low (refl, more))
  kind-flat two n (node.Opt' _ at e) h s z low more =
      rw (append_assoc (wrapped (is_wide e) (kind_pieces e)) (Sign 63 kind.Question ∷ []) z)
      (wrapped-flat (is_wide e) n _ _ (kind_pieces e) (kind-flat two n e) (kind-flat two (suc n) e) h s
      (Sign 63 kind.Question ∷ z) low (refl, more))
  kind-flat two n (node.Hold' t _ at e) h s z low more = (
    refl,
    (
      refl,
      rw (append_assoc (term_pieces t) (Sign 93 kind.CloseSquare ∷ Blank 32 ∷ Sign 58 kind.Colon ∷ Blank 32 ∷
          wrapped (not (is_empty e)) (kind_pieces e)) z)
          (term-flat two n t h.0 s _ low (
            refl,
            (
              refl,
              wrapped-flat (not (is_empty e)) n _ _ (kind_pieces e) (kind-flat two n e) (kind-flat two (suc n) e) h.1
                  (closed s) z (lower_stack n s low) (rw (closed-twice s) more),
            ),
          )),
    ),
  )
  kind-flat two n (node.Scope' _ at e _ at' x _ at'' y) h s z low more = (
    refl,
    rw (
      append_assoc (wrapped (not (is_empty e)) (kind_pieces e)) (Blank 32 ∷ abort_word ∷ Blank 32 ∷
          (wrapped (not (is_empty x)) (kind_pieces x) ++ Blank 32 ∷ then_word ∷ Blank 32 ∷
          wrapped (not (is_empty y)) (kind_pieces y))) z,
      append_assoc (wrapped (not (is_empty x)) (kind_pieces x)) (Blank 32 ∷ then_word ∷ Blank 32 ∷
          wrapped (not (is_empty y)) (kind_pieces y)) z,
    )
        (wrapped-flat (not (is_empty e)) n _ _ (kind_pieces e) (kind-flat two n e)
        (kind-flat two (suc n) e) h.0 s _ low (
          refl,
          wrapped-flat (not (is_empty x)) n _ _ (kind_pieces x) (kind-flat two n x) (kind-flat two (suc n) x) h.1
              (closed s) _ (lower_stack n s low) (rw (closed-twice s) (
                refl,
                wrapped-flat (not (is_empty y)) n _ _ (kind_pieces y) (kind-flat two n y) (kind-flat two (suc n) y) h.2
                    (closed s) z (lower_stack n s low) (rw (closed-twice s) more),
              )),
        )),
  )
  kind-flat two n (node.Name word) h s z low more = (refl, more)
  kind-flat two n (node.Repeat' _ at e i j) h s z low more =
      rw (append_assoc (wrapped (is_wide e) (kind_pieces e)) (bounds_pieces i j) z)
      (wrapped-flat (is_wide e) n _ _ (kind_pieces e) (kind-flat two n e) (kind-flat two (suc n) e) h.1 s
      (bounds_pieces i j ++ z) low (bounds-flat i j s z more))

  list-flat : (two : Bool) (n : ℕ) (l : ExprList) {k : _} (row : Row_of-Expr k) → 2 ≤ length (unspanned_exprs row)
      → KindsAre two n l row → FlatAt n (list_pieces l row)
  list-flat two n l end_of-Expr some h s z low more = absurd (omega arith)
  list-flat two n l (more_of-Expr at e rest) some h s z low more =
      rw (append_assoc (wrapped (wraps l e) (kind_pieces e)) (rest_pieces l rest) z)
      (wrapped-flat (wraps l e) n _ _ (kind_pieces e) (kind-flat two n e) (kind-flat two (suc n) e) h.0 s
      (rest_pieces l rest ++ z) low
      (rest-flat two n l rest h.1 (closed s) z (lower_stack n s low) (closed-twice s) more))

  rest-flat : (two : Bool) (n : ℕ) (l : ExprList) {k : _} (row : Row_of-Expr k) → KindsAre two n l row
      → (s : List Opened) (z : List Piece) → length s ≤ n → closed s ≡ s → Flat s z → Flat s (rest_pieces l row ++ z)
  rest-flat two n l end_of-Expr h s z low e more = more
  rest-flat two n l (more_of-Expr at e rest) h s z low ended more =
      rw (
        append_assoc (between l) (wrapped (wraps l e) (kind_pieces e) ++ rest_pieces l rest) z,
        append_assoc (wrapped (wraps l e) (kind_pieces e)) (rest_pieces l rest) z,
      )
      (between-flat l s _
      (wrapped-flat (wraps l e) n _ _ (kind_pieces e) (kind-flat two n e) (kind-flat two (suc n) e) h.0 s
      (rest_pieces l rest ++ z) low (rw ended (rest-flat two n l rest h.1 s z low ended more))))
