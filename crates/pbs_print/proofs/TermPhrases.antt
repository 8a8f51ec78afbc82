-- The phrase of a term's canonical text.
use Rattle.std.proofs.Common.{◌≡◌, ℕ, suc, ◌≤◌, List, [], ◌∷◌, ◌++◌, length, map, Bool, true, false, refl, sym, ap}
use Rattle.std.proofs.Common.{subst, ◌∙◌, append_assoc, append-nil, arith}
use Rattle.pbs_base.specs.declared.refusal.Span.{Span}
use Rattle.pbs_ast.specs.declared.syntax.SpecTerm as node
use Rattle.pbs_ast.specs.declared.syntax.SpecTerm.{SpecTerm, Row_of-SpecTerm, end_of-SpecTerm, more_of-SpecTerm}
use Rattle.pbs_ast.specs.declared.syntax.SpecTerm.{items-the_row-SpecTerm, items_hidden-the_row-SpecTerm-0}
use Rattle.pbs_ast.specs.declared.syntax.SpecTerm.TheBlock.{hidden-the_row-SpecTerm-0}
use Rattle.pbs_text.specs.declared.token.Token.{Token}
use Rattle.pbs_text.specs.declared.token.TokenKind.TheVariants as kind
use Rattle.pbs_ast.specs.Bare.{no_place}
use Rattle.pbs_text.specs.Grammar.{token, bit_kind, numeral_kind, UnitPhrase, Negated, Bracketed, Named, Bit, Compared}
use Rattle.pbs_text.specs.Grammar.{AllPhrase, OneUnit, MoreUnits, TermPhrase, OneAll, MoreAlls, unit_tokens, all_tokens}
use Rattle.pbs_text.specs.Grammar.{term_tokens}
use Rattle.pbs_text.specs.Trees.{all_node, any_node, unit_tree, all_items, term_items, all_tree, term_tree}
use Rattle.pbs_print.specs.Canonical.{is_any, is_joined}
use Rattle.pbs_print.specs.Unspanned.{unspanned_term, unspanned_terms, no_span}
use Rattle.pbs_print.proofs.TextPieces.{Piece, Sign, Stands, one_digit, wrapped, InBrackets}
use Rattle.pbs_print.proofs.TermPieces.{AllOf, AnyOf, between, bit_pieces, term_pieces, list_pieces, rest_pieces}
use Rattle.pbs_print.proofs.TermPieces.{TermIs, TermsAre}

-- ---- a list of terms apart from spans

row-unspanned : (n : _) (row : Row_of-SpecTerm n)
    → unspanned_terms row ≡ map unspanned_term (items-the_row-SpecTerm n row)
row-unspanned n end_of-SpecTerm = refl
row-unspanned n (more_of-SpecTerm t rest) = ap (λ ts. unspanned_term t ∷ ts) (row-unspanned _ rest)

pub unspanned-row : (items : List SpecTerm)
    → unspanned_terms (hidden-the_row-SpecTerm-0 items) ≡ map unspanned_term items
unspanned-row items = row-unspanned _ (hidden-the_row-SpecTerm-0 items)
    ∙ ap (map unspanned_term) (items_hidden-the_row-SpecTerm-0 items)

pub too_few : {A B : Type 0} (f : A → B) (x : A) (us : List B) → map f (x ∷ []) ≡ us → 2 ≤ length us → ⊥
too_few f x us e h = let n : 1 ≡ length us = ap length e in omega arith

pub none : {A B : Type 0} (f : A → B) (us : List B) → map f [] ≡ us → 2 ≤ length us → ⊥
none f us e h = let n : 0 ≡ length us = ap length e in omega arith

all-node : (items us : List SpecTerm) → map unspanned_term items ≡ us → 2 ≤ length us
    → unspanned_term (all_node items) ≡ node.All us
all-node [] us e h = absurd (none unspanned_term us e h)
all-node (x ∷ []) us e h = absurd (too_few unspanned_term x us e h)
all-node (x ∷ y ∷ items) us e h = ap node.All (unspanned-row (x ∷ y ∷ items) ∙ e)

any-node : (items us : List SpecTerm) → map unspanned_term items ≡ us → 2 ≤ length us
    → unspanned_term (any_node items) ≡ node.Any us
any-node [] us e h = absurd (none unspanned_term us e h)
any-node (x ∷ []) us e h = absurd (too_few unspanned_term x us e h)
any-node (x ∷ y ∷ items) us e h = ap node.Any (unspanned-row (x ∷ y ∷ items) ∙ e)

pub map-end : {A B : Type 0} (f : A → B) (xs : List A) (x : A) (b : B) (us : List B) → f x ≡ b
    → map f (xs ++ x ∷ []) ++ us ≡ map f xs ++ b ∷ us
map-end f [] x b us e = ap (λ y. y ∷ us) e
map-end f (y ∷ xs) x b us e = ap (λ l. f y ∷ l) (map-end f xs x b us e)

-- ---- what is found at the front of some tokens

record UnitFound (two : Bool) (bytes : List ℕ) (t : SpecTerm) (z : List Piece) (ts : List Token) : Type 0 where
  phrase : UnitPhrase two
  rest : List Token
  tokens_are : ts ≡ unit_tokens phrase ++ rest
  behind : Stands bytes z rest
  same : unspanned_term (unit_tree bytes phrase) ≡ unspanned_term t

record AllFound (two : Bool) (bytes : List ℕ) (t : SpecTerm) (z : List Piece) (ts : List Token) : Type 0 where
  phrase : AllPhrase two
  rest : List Token
  tokens_are : ts ≡ all_tokens phrase ++ rest
  behind : Stands bytes z rest
  same : unspanned_term (all_tree bytes phrase) ≡ unspanned_term t

pub record TermFound (two : Bool) (bytes : List ℕ) (t : SpecTerm) (z : List Piece) (ts : List Token) : Type 0 where
  pub phrase : TermPhrase two
  pub rest : List Token
  pub tokens_are : ts ≡ term_tokens phrase ++ rest
  pub behind : Stands bytes z rest
  pub same : unspanned_term (term_tree bytes phrase) ≡ unspanned_term t

abbrev FindsUnit : Bool → List ℕ → List Piece → SpecTerm → Type 0
FindsUnit two bytes ps t = (z : List Piece) (ts : List Token) → Stands bytes (ps ++ z) ts → UnitFound two bytes t z ts

abbrev FindsAll : Bool → List ℕ → List Piece → SpecTerm → Type 0
FindsAll two bytes ps t = (z : List Piece) (ts : List Token) → Stands bytes (ps ++ z) ts → AllFound two bytes t z ts

abbrev pub FindsTerm : Bool → List ℕ → List Piece → SpecTerm → Type 0
FindsTerm two bytes ps t = (z : List Piece) (ts : List Token) → Stands bytes (ps ++ z) ts → TermFound two bytes t z ts

-- a term without brackets round it
abbrev Finds : Bool → List ℕ → SpecTerm → Type 0
Finds two bytes (node.All' n row) = FindsAll two bytes (list_pieces AllOf row) (node.All' n row)
Finds two bytes (node.Any' n row) = FindsTerm two bytes (list_pieces AnyOf row) (node.Any' n row)
Finds two bytes t = FindsUnit two bytes (term_pieces t) t

one_unit : (two : Bool) (bytes : List ℕ) (ps : List Piece) (t : SpecTerm) → FindsUnit two bytes ps t
    → FindsAll two bytes ps t
one_unit two bytes ps t f z ts h =
    let u = f z ts h in
    record { phrase = OneUnit u.phrase; rest = u.rest; tokens_are = u.tokens_are; behind = u.behind; same = u.same }

one_all : (two : Bool) (bytes : List ℕ) (ps : List Piece) (t : SpecTerm) → FindsAll two bytes ps t
    → FindsTerm two bytes ps t
one_all two bytes ps t f z ts h =
    let u = f z ts h in
    record { phrase = OneAll u.phrase; rest = u.rest; tokens_are = u.tokens_are; behind = u.behind; same = u.same }

in_brackets : (two : Bool) (bytes : List ℕ) (ps : List Piece) (t : SpecTerm) → FindsTerm two bytes ps t
    → FindsUnit two bytes (wrapped true ps) t
in_brackets two bytes ps t f z ts h =
    let u = f (Sign 41 kind.CloseRound ∷ z) h.1
    (subst (λ l. Stands bytes l h.1) (append_assoc ps (Sign 41 kind.CloseRound ∷ []) z) h.3) in
    let e = u.behind in
    record {
      phrase = Bracketed h.0 u.phrase e.0;
      rest = e.1;
      tokens_are = h.2 ∙ ap (λ l. token kind.OpenRound h.0 ∷ l)
          (u.tokens_are ∙ (ap (λ l. term_tokens u.phrase ++ l) e.2
          ∙ sym (append_assoc (term_tokens u.phrase) (token kind.CloseRound e.0 ∷ []) e.1)));
      behind = e.3;
      same = u.same;
    }

-- a term with the brackets that it needs at each of the three levels
term_of : (two : Bool) (bytes : List ℕ) (t : SpecTerm) → Finds two bytes t → FindsTerm two bytes (term_pieces t) t
term_of two bytes (node.All' n row) f = one_all two bytes (list_pieces AllOf row) (node.All' n row) f
term_of two bytes (node.Any' n row) f = f
term_of two bytes t f = one_all two bytes (term_pieces t) t (one_unit two bytes (term_pieces t) t f)

all_of : (two : Bool) (bytes : List ℕ) (t : SpecTerm) → Finds two bytes t
    → FindsAll two bytes (wrapped (is_any t) (term_pieces t)) t
all_of two bytes (node.All' n row) f = f
all_of two bytes (node.Any' n row) f =
    one_unit two bytes (wrapped true (list_pieces AnyOf row)) (node.Any' n row)
    (in_brackets two bytes (list_pieces AnyOf row) (node.Any' n row) f)
all_of two bytes t f = one_unit two bytes (term_pieces t) t f

unit_of : (two : Bool) (bytes : List ℕ) (t : SpecTerm) → Finds two bytes t
    → FindsUnit two bytes (wrapped (is_joined t) (term_pieces t)) t
unit_of two bytes (node.All' n row) f =
    in_brackets two bytes (list_pieces AllOf row) (node.All' n row)
    (one_all two bytes (list_pieces AllOf row) (node.All' n row) f)
unit_of two bytes (node.Any' n row) f = in_brackets two bytes (list_pieces AnyOf row) (node.Any' n row) f
unit_of two bytes t f = f

-- ---- lists

record AllMore (two : Bool) (bytes : List ℕ) (a : AllPhrase two) (us : List SpecTerm) (z : List Piece)
    (ts : List Token) : Type 0 where
  phrase : AllPhrase two
  rest : List Token
  tokens_are : all_tokens a ++ ts ≡ all_tokens phrase ++ rest
  behind : Stands bytes z rest
  same : map unspanned_term (all_items bytes phrase) ≡ map unspanned_term (all_items bytes a) ++ us

record TermMore (two : Bool) (bytes : List ℕ) (a : TermPhrase two) (us : List SpecTerm) (z : List Piece)
    (ts : List Token) : Type 0 where
  phrase : TermPhrase two
  rest : List Token
  tokens_are : term_tokens a ++ ts ≡ term_tokens phrase ++ rest
  behind : Stands bytes z rest
  same : map unspanned_term (term_items bytes phrase) ≡ map unspanned_term (term_items bytes a) ++ us

-- the items of a whole list
record AllItems (two : Bool) (bytes : List ℕ) (us : List SpecTerm) (z : List Piece) (ts : List Token) : Type 0 where
  phrase : AllPhrase two
  rest : List Token
  tokens_are : ts ≡ all_tokens phrase ++ rest
  behind : Stands bytes z rest
  same : map unspanned_term (all_items bytes phrase) ≡ us

record TermItems (two : Bool) (bytes : List ℕ) (us : List SpecTerm) (z : List Piece) (ts : List Token) : Type 0 where
  phrase : TermPhrase two
  rest : List Token
  tokens_are : ts ≡ term_tokens phrase ++ rest
  behind : Stands bytes z rest
  same : map unspanned_term (term_items bytes phrase) ≡ us

next_unit : (two : Bool) (bytes : List ℕ) (t : SpecTerm) (us : List SpecTerm) (more z : List Piece) (a : AllPhrase two)
    (ts : List Token) → FindsUnit two bytes (wrapped (is_joined t) (term_pieces t)) t
    → ((b : AllPhrase two) (rest : List Token) → Stands bytes (more ++ z) rest → AllMore two bytes b us z rest)
    → Stands bytes ((between AllOf ++ (wrapped (is_joined t) (term_pieces t) ++ more)) ++ z) ts
    → AllMore two bytes a (unspanned_term t ∷ us) z ts
next_unit two bytes t us more z a ts f on h =
    let w : List Piece = wrapped (is_joined t) (term_pieces t) in
    let u = f (more ++ z) h.1 (subst (λ l. Stands bytes l h.1) (append_assoc w more z) h.3) in
    let b : AllPhrase two = MoreUnits a h.0 u.phrase in
    let r = on b u.rest u.behind in
    record {
      phrase = r.phrase;
      rest = r.rest;
      tokens_are = ap (λ l. all_tokens a ++ l) (h.2 ∙ ap (λ l. token kind.Ampersand h.0 ∷ l) u.tokens_are)
          ∙ (sym (append_assoc (all_tokens a) (token kind.Ampersand h.0 ∷ unit_tokens u.phrase) u.rest) ∙ r.tokens_are);
      behind = r.behind;
      same = r.same
          ∙ map-end unspanned_term (all_items bytes a) (unit_tree bytes u.phrase) (unspanned_term t) us u.same;
    }

next_all : (two : Bool) (bytes : List ℕ) (t : SpecTerm) (us : List SpecTerm) (more z : List Piece) (a : TermPhrase two)
    (ts : List Token) → FindsAll two bytes (wrapped (is_any t) (term_pieces t)) t
    → ((b : TermPhrase two) (rest : List Token) → Stands bytes (more ++ z) rest → TermMore two bytes b us z rest)
    → Stands bytes ((between AnyOf ++ (wrapped (is_any t) (term_pieces t) ++ more)) ++ z) ts
    → TermMore two bytes a (unspanned_term t ∷ us) z ts
next_all two bytes t us more z a ts f on h =
    let w : List Piece = wrapped (is_any t) (term_pieces t) in
    let u = f (more ++ z) h.1 (subst (λ l. Stands bytes l h.1) (append_assoc w more z) h.3) in
    let b : TermPhrase two = MoreAlls a h.0 u.phrase in
    let r = on b u.rest u.behind in
    record {
      phrase = r.phrase;
      rest = r.rest;
      tokens_are = ap (λ l. term_tokens a ++ l) (h.2 ∙ ap (λ l. token kind.Bar h.0 ∷ l) u.tokens_are)
          ∙ (sym (append_assoc (term_tokens a) (token kind.Bar h.0 ∷ all_tokens u.phrase) u.rest) ∙ r.tokens_are);
      behind = r.behind;
      same = r.same
          ∙ map-end unspanned_term (term_items bytes a) (all_tree bytes u.phrase) (unspanned_term t) us u.same;
    }

-- what holds in brackets or not
pub either : (b : Bool) (n : ℕ) (P Q R : Type 0) → (P → R) → (Q → R) → InBrackets b n P Q → R
either true n P Q R f g h = g h.1
either false n P Q R f g h = f h

pub bit-token : (b : Bool) (bytes : List ℕ) (z : List Piece) (ts : List Token) → Stands bytes (bit_pieces b ++ z) ts
    → (at : Span) × (rest : List Token) × (ts ≡ token (bit_kind b) at ∷ rest) × Stands bytes z rest
bit-token false bytes z ts h =
    let e : numeral_kind h.2.numeral ≡ kind.Zero = h.2.kind_is ∙ one_digit 0 (omega arith) in
    (h.0, h.1, h.3 ∙ ap (λ k. token k h.0 ∷ h.1) e, h.4)
bit-token true bytes z ts h =
    let e : numeral_kind h.2.numeral ≡ kind.One = h.2.kind_is ∙ one_digit 1 (omega arith) in
    (h.0, h.1, h.3 ∙ ap (λ k. token k h.0 ∷ h.1) e, h.4)

mutual
  finds : (two : Bool) (bytes : List ℕ) (n : ℕ) (t : SpecTerm) → TermIs two n t → Finds two bytes t
  finds two bytes n (node.Const b) is = λ z ts h.
      let x = bit-token b bytes z ts h in
      record { phrase = Bit b x.0; rest = x.1; tokens_are = x.2; behind = x.3; same = refl }
  finds two bytes n (node.Name word at) is = λ z ts h.
      record {
        phrase = Named h.0;
        rest = h.1;
        tokens_are = h.2;
        behind = h.4;
        same = ap (λ w. node.Name w no_span) h.3;
      }
  finds two bytes n (node.Not' place t) is = λ z ts h.
      let f = either (is_joined t) (suc n) _ _ _ (finds two bytes (suc n) t) (finds two bytes (suc (suc n)) t) is.1 in
      let u = unit_of two bytes t f z h.1 h.3 in
      record {
        phrase = Negated h.0 u.phrase;
        rest = u.rest;
        tokens_are = h.2 ∙ ap (λ l. token kind.Tilde h.0 ∷ l) u.tokens_are;
        behind = u.behind;
        same = ap (λ x. node.Not' no_place x) u.same;
      }
  finds two bytes n (node.All' k row) is = λ z ts h.
      let r = finds_all two bytes n row is.0 is.1 z ts h in
      record {
        phrase = r.phrase;
        rest = r.rest;
        tokens_are = r.tokens_are;
        behind = r.behind;
        same = all-node (all_items bytes r.phrase) (unspanned_terms row) r.same is.0;
      }
  finds two bytes n (node.Any' k row) is = λ z ts h.
      let r = finds_any two bytes n row is.0 is.1 z ts h in
      record {
        phrase = r.phrase;
        rest = r.rest;
        tokens_are = r.tokens_are;
        behind = r.behind;
        same = any-node (term_items bytes r.phrase) (unspanned_terms row) r.same is.0;
      }
  finds two bytes n (node.Equal word at m to) is = λ z ts h.
      record {
        phrase = Compared is.0 h.0 h.4.0 h.4.3.2.numeral h.4.3.0;
        rest = h.4.3.1;
        tokens_are = h.2 ∙ ap (λ l. token kind.Name h.0 ∷ l)
            (h.4.2 ∙ ap (λ l. token kind.Equals h.4.0 ∷ l) h.4.3.3);
        behind = h.4.3.4;
        same = rw (h.3, h.4.3.2.value_is) refl;
      }

  finds_all : (two : Bool) (bytes : List ℕ) (n : ℕ) {k : _} (row : Row_of-SpecTerm k) → 2 ≤ length (unspanned_terms row)
      → TermsAre two n AllOf row → (z : List Piece) (ts : List Token) → Stands bytes (list_pieces AllOf row ++ z) ts
      → AllItems two bytes (unspanned_terms row) z ts
  finds_all two bytes n end_of-SpecTerm some is z ts h = absurd (omega arith)
  finds_all two bytes n (more_of-SpecTerm t rest) some is z ts h =
      let f = either (is_joined t) n _ _ _ (finds two bytes n t) (finds two bytes (suc n) t) is.0 in
      let w : List Piece = wrapped (is_joined t) (term_pieces t) in
      let u = unit_of two bytes t f (rest_pieces AllOf rest ++ z) ts
      (subst (λ l. Stands bytes l ts) (append_assoc w (rest_pieces AllOf rest) z) h) in
      let r = more_units two bytes n rest is.1 z (OneUnit u.phrase) u.rest u.behind in
      record {
        phrase = r.phrase;
        rest = r.rest;
        tokens_are = u.tokens_are ∙ r.tokens_are;
        behind = r.behind;
        same = r.same ∙ ap (λ x. x ∷ unspanned_terms rest) u.same;
      }

  more_units : (two : Bool) (bytes : List ℕ) (n : ℕ) {k : _} (row : Row_of-SpecTerm k) → TermsAre two n AllOf row
      → (z : List Piece) (a : AllPhrase two) (ts : List Token) → Stands bytes (rest_pieces AllOf row ++ z) ts
      → AllMore two bytes a (unspanned_terms row) z ts
  more_units two bytes n end_of-SpecTerm is z a ts h =
      record {
        phrase = a;
        rest = ts;
        tokens_are = refl;
        behind = h;
        same = sym (append-nil (map unspanned_term (all_items bytes a)));
      }
  more_units two bytes n (more_of-SpecTerm t rest) is z a ts h =
      let f = either (is_joined t) n _ _ _ (finds two bytes n t) (finds two bytes (suc n) t) is.0 in
      next_unit two bytes t (unspanned_terms rest) (rest_pieces AllOf rest) z a ts (unit_of two bytes t f)
      (more_units two bytes n rest is.1 z) h

  finds_any : (two : Bool) (bytes : List ℕ) (n : ℕ) {k : _} (row : Row_of-SpecTerm k) → 2 ≤ length (unspanned_terms row)
      → TermsAre two n AnyOf row → (z : List Piece) (ts : List Token) → Stands bytes (list_pieces AnyOf row ++ z) ts
      → TermItems two bytes (unspanned_terms row) z ts
  finds_any two bytes n end_of-SpecTerm some is z ts h = absurd (omega arith)
  finds_any two bytes n (more_of-SpecTerm t rest) some is z ts h =
      let f = either (is_any t) n _ _ _ (finds two bytes n t) (finds two bytes (suc n) t) is.0 in
      let w : List Piece = wrapped (is_any t) (term_pieces t) in
      let u = all_of two bytes t f (rest_pieces AnyOf rest ++ z) ts
      (subst (λ l. Stands bytes l ts) (append_assoc w (rest_pieces AnyOf rest) z) h) in
      let r = more_alls two bytes n rest is.1 z (OneAll u.phrase) u.rest u.behind in
      record {
        phrase = r.phrase;
        rest = r.rest;
        tokens_are = u.tokens_are ∙ r.tokens_are;
        behind = r.behind;
        same = r.same ∙ ap (λ x. x ∷ unspanned_terms rest) u.same;
      }

  more_alls : (two : Bool) (bytes : List ℕ) (n : ℕ) {k : _} (row : Row_of-SpecTerm k) → TermsAre two n AnyOf row
      → (z : List Piece) (a : TermPhrase two) (ts : List Token) → Stands bytes (rest_pieces AnyOf row ++ z) ts
      → TermMore two bytes a (unspanned_terms row) z ts
  more_alls two bytes n end_of-SpecTerm is z a ts h =
      record {
        phrase = a;
        rest = ts;
        tokens_are = refl;
        behind = h;
        same = sym (append-nil (map unspanned_term (term_items bytes a)));
      }
  more_alls two bytes n (more_of-SpecTerm t rest) is z a ts h =
      let f = either (is_any t) n _ _ _ (finds two bytes n t) (finds two bytes (suc n) t) is.0 in
      next_all two bytes t (unspanned_terms rest) (rest_pieces AnyOf rest) z a ts (all_of two bytes t f)
      (more_alls two bytes n rest is.1 z) h

-- the canonical text of a term is a phrase of it
pub finds_term : (two : Bool) (bytes : List ℕ) (n : ℕ) (t : SpecTerm) → TermIs two n t
    → FindsTerm two bytes (term_pieces t) t
finds_term two bytes n t is = term_of two bytes t (finds two bytes n t is)
