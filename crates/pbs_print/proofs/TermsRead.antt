-- A term that is read can be written: its canonical brackets are no deeper than those of its text.
use Rattle.std.proofs.Common.{◌≡◌, ℕ, suc, ◌<◌, ◌≤◌, List, [], ◌∷◌, ◌++◌, length, Bool, true, false, nat_lt, refl, sym}
use Rattle.std.proofs.Common.{ap, subst, ◌∙◌, append_assoc, arith}
use Rattle.std.proofs.lemmas.Bool.Decides.{nat_tests}
use Rattle.std.proofs.lemmas.List.{length-map}
use Rattle.pbs_ast.specs.declared.syntax.SpecTerm as node
use Rattle.pbs_ast.specs.declared.syntax.SpecTerm.{SpecTerm, Row_of-SpecTerm, end_of-SpecTerm, more_of-SpecTerm}
use Rattle.pbs_ast.specs.declared.syntax.SpecTerm.{items-the_row-SpecTerm, items_hidden-the_row-SpecTerm-0}
use Rattle.pbs_ast.specs.declared.syntax.SpecTerm.TheBlock.{hidden-the_row-SpecTerm-0}
use Rattle.pbs_ast.proofs.Items.{Each, each-end}
use Rattle.pbs_text.specs.declared.token.Token.{Token}
use Rattle.pbs_text.specs.declared.token.TokenKind.TheVariants as kind
use Rattle.pbs_text.specs.Grammar.{token, UnitPhrase, Negated, Bracketed, Named, Bit, Compared, AllPhrase, OneUnit}
use Rattle.pbs_text.specs.Grammar.{MoreUnits, TermPhrase, OneAll, MoreAlls, unit_tokens, all_tokens, term_tokens}
use Rattle.pbs_text.specs.Trees.{all_node, any_node, unit_tree, all_items, term_items, all_tree, term_tree}
use Rattle.pbs_print.specs.Canonical.{is_joined}
use Rattle.pbs_print.specs.Unspanned.{unspanned_term, unspanned_terms}
use Rattle.pbs_text.specs.Nesting.{Opened, Round, Waiting, closed}
use Rattle.pbs_grammar.proofs.Nesting.{closed-twice}
use Rattle.pbs_print.proofs.TextPieces.{InBrackets}
use Rattle.pbs_print.proofs.Proper.{Proper, proper-number}
use Rattle.pbs_print.proofs.TermPieces.{TermList, AllOf, AnyOf, wraps, TermIs, TermsAre}
use Rattle.pbs_print.proofs.TermPhrases.{unspanned-row}

-- ---- less nesting is no harder

pub lower-brackets : (b : Bool) (n : ℕ) (P Q R S : Type 0) → (P → R) → (Q → S) → InBrackets b (suc n) P Q
    → InBrackets b n R S
lower-brackets true n P Q R S f g h = (omega arith, g h.1)
lower-brackets false n P Q R S f g h = f h

mutual
  pub lower : (two : Bool) (n : ℕ) (t : SpecTerm) → TermIs two (suc n) t → TermIs two n t
  lower two n (node.Const b) h = tt
  lower two n (node.Name word at) h = h
  lower two n (node.Not' _ t) h =
      (omega arith, lower-brackets (is_joined t) (suc n) _ _ _ _ (lower two (suc n) t) (lower two (suc (suc n)) t) h.1)
  lower two n (node.All' k row) h = (h.0, lower_list two n AllOf row h.1)
  lower two n (node.Any' k row) h = (h.0, lower_list two n AnyOf row h.1)
  lower two n (node.Equal word at m to) h = h

  lower_list : (two : Bool) (n : ℕ) (l : TermList) {k : _} (row : Row_of-SpecTerm k) → TermsAre two (suc n) l row
      → TermsAre two n l row
  lower_list two n l end_of-SpecTerm h = tt
  lower_list two n l (more_of-SpecTerm t rest) h =
      (lower-brackets (wraps l t) n _ _ _ _ (lower two n t) (lower two (suc n) t) h.0, lower_list two n l rest h.1)

-- ---- lists

-- a member of a list
abbrev MemberIs : Bool → ℕ → TermList → SpecTerm → Type 0
MemberIs two n l t = InBrackets (wraps l t) n (TermIs two n t) (TermIs two (suc n) t)

row-is : (two : Bool) (n : ℕ) (l : TermList) (k : _) (row : Row_of-SpecTerm k)
    → Each (MemberIs two n l) (items-the_row-SpecTerm k row) → TermsAre two n l row
row-is two n l k end_of-SpecTerm h = tt
row-is two n l k (more_of-SpecTerm t rest) h = (h.0, row-is two n l _ rest h.1)

list-is : (two : Bool) (n : ℕ) (l : TermList) (items : List SpecTerm) → 2 ≤ length items → Each (MemberIs two n l) items
    → (2 ≤ length (unspanned_terms (hidden-the_row-SpecTerm-0 items)))
    × TermsAre two n l (hidden-the_row-SpecTerm-0 items)
list-is two n l items many h =
    let e : length (unspanned_terms (hidden-the_row-SpecTerm-0 items)) ≡ length items =
    ap length (unspanned-row items) ∙ length-map items unspanned_term in (
      omega arith,
      row-is two n l _ (hidden-the_row-SpecTerm-0 items)
          (subst (Each (MemberIs two n l)) (sym (items_hidden-the_row-SpecTerm-0 items)) h),
    )

-- a member of `&` as one of `|`
loose : (two : Bool) (n : ℕ) (t : SpecTerm) → MemberIs two n AllOf t → MemberIs two n AnyOf t
loose two n (node.All' k row) h = lower two n (node.All' k row) h.1
loose two n (node.Any' k row) h = h
loose two n (node.Const b) h = h
loose two n (node.Name word at) h = h
loose two n (node.Not' p t) h = h
loose two n (node.Equal word at m to) h = h

-- one of `|` without brackets
bare_is : (two : Bool) (n : ℕ) (t : SpecTerm) → MemberIs two n AnyOf t → TermIs two n t
bare_is two n (node.Any' k row) h = lower two n (node.Any' k row) h.1
bare_is two n (node.All' k row) h = h
bare_is two n (node.Const b) h = h
bare_is two n (node.Name word at) h = h
bare_is two n (node.Not' p t) h = h
bare_is two n (node.Equal word at m to) h = h

-- a whole term in brackets as a member of `&`
unit_is : (two : Bool) (n : ℕ) (t : SpecTerm) → n < 64 → TermIs two (suc n) t → MemberIs two n AllOf t
unit_is two n (node.Any' k row) low h = (low, h)
unit_is two n (node.All' k row) low h = (low, h)
unit_is two n (node.Const b) low h = h
unit_is two n (node.Name word at) low h = h
unit_is two n (node.Not' p t) low h = lower two n (node.Not' p t) h
unit_is two n (node.Equal word at m to) low h = h

all-is : (two : Bool) (n : ℕ) (items : List SpecTerm) → 0 < length items → Each (MemberIs two n AllOf) items
    → MemberIs two n AnyOf (all_node items)
all-is two n [] some h = absurd (omega arith)
all-is two n (x ∷ []) some h = loose two n x h.0
all-is two n (x ∷ y ∷ items) some h = list-is two n AllOf (x ∷ y ∷ items) (omega arith) h

any-is : (two : Bool) (n : ℕ) (items : List SpecTerm) → 0 < length items → Each (MemberIs two n AnyOf) items
    → TermIs two n (any_node items)
any-is two n [] some h = absurd (omega arith)
any-is two n (x ∷ []) some h = bare_is two n x h.0
any-is two n (x ∷ y ∷ items) some h = list-is two n AnyOf (x ∷ y ∷ items) (omega arith) h

-- ---- phrases

pub low : (n : ℕ) → nat_lt 63 n ≡ false → n < 64
low n h = grind (arith, nat_tests)

-- the items of a phrase, and what is behind it
pub record ItemsRead {A : Type 0} (bytes : List ℕ) (P : A → Type 0) (items : List A) (s : List Opened)
    (z : List Token) : Type 0 where
  pub some : 0 < length items
  pub each : Each P items
  pub behind : Proper bytes s z

pub some_more : {A : Type 0} (xs : List A) (x : A) → 0 < length (xs ++ x ∷ [])
some_more [] x = omega arith
some_more (y ∷ xs) x = omega arith

mutual
  unit_read : (two : Bool) (bytes : List ℕ) (u : UnitPhrase two) (s : List Opened) (z : List Token)
      → Proper bytes s (unit_tokens u ++ z)
      → MemberIs two (length s) AllOf (unit_tree bytes u) × Proper bytes (closed s) z
  unit_read two bytes (Negated at u) s z h =
      let r = unit_read two bytes u (Waiting ∷ s) z h.2 in
      ((low (length s) h.0, r.0), r.1)
  unit_read two bytes (Bracketed o t c) s z h =
      let r = term_read two bytes t (Round ∷ s) (token kind.CloseRound c ∷ z) refl
      (subst (Proper bytes (Round ∷ s)) (append_assoc (term_tokens t) (token kind.CloseRound c ∷ []) z) h.2) in (
        unit_is two (length s) (term_tree bytes t) (low (length s) h.0)
            (any-is two (suc (length s)) (term_items bytes t) r.some r.each),
        r.behind.2,
      )
  unit_read two bytes (Named at) s z h = (h.1, h.2)
  unit_read two bytes (Bit false at) s z h = (tt, h.2)
  unit_read two bytes (Bit true at) s z h = (tt, h.2)
  unit_read two bytes (Compared second at e n to) s z h =
      let r = proper-number bytes n to z (closed s) h.2.2 in
      ((second, h.1, r.0), subst (λ x. Proper bytes x z) (closed-twice s) r.1)

  all_read : (two : Bool) (bytes : List ℕ) (a : AllPhrase two) (s : List Opened) (z : List Token) → closed s ≡ s
      → Proper bytes s (all_tokens a ++ z) → ItemsRead bytes (MemberIs two (length s) AllOf) (all_items bytes a) s z
  all_read two bytes (OneUnit u) s z e h =
      let r = unit_read two bytes u s z h in
      record { some = omega arith; each = (r.0, tt); behind = subst (λ x. Proper bytes x z) e r.1 }
  all_read two bytes (MoreUnits a at u) s z e h =
      let r = all_read two bytes a s (token kind.Ampersand at ∷ (unit_tokens u ++ z)) e
      (subst (Proper bytes s) (append_assoc (all_tokens a) (token kind.Ampersand at ∷ unit_tokens u) z) h) in
      let x = unit_read two bytes u s z r.behind.2 in
      record {
        some = some_more (all_items bytes a) (unit_tree bytes u);
        each = each-end (MemberIs two (length s) AllOf) (all_items bytes a) (unit_tree bytes u) r.each x.0;
        behind = subst (λ x. Proper bytes x z) e x.1;
      }

  term_read : (two : Bool) (bytes : List ℕ) (t : TermPhrase two) (s : List Opened) (z : List Token) → closed s ≡ s
      → Proper bytes s (term_tokens t ++ z) → ItemsRead bytes (MemberIs two (length s) AnyOf) (term_items bytes t) s z
  term_read two bytes (OneAll a) s z e h =
      let r = all_read two bytes a s z e h in
      record {
        some = omega arith;
        each = (all-is two (length s) (all_items bytes a) r.some r.each, tt);
        behind = r.behind;
      }
  term_read two bytes (MoreAlls t at a) s z e h =
      let r = term_read two bytes t s (token kind.Bar at ∷ (all_tokens a ++ z)) e
      (subst (Proper bytes s) (append_assoc (term_tokens t) (token kind.Bar at ∷ all_tokens a) z) h) in
      let x = all_read two bytes a s z e r.behind.2 in
      record {
        some = some_more (term_items bytes t) (all_tree bytes a);
        each = each-end (MemberIs two (length s) AnyOf) (term_items bytes t) (all_tree bytes a) r.each
            (all-is two (length s) (all_items bytes a) x.some x.each);
        behind = x.behind;
      }

-- a term can be written at the nesting at which it is read
pub term_is_read : (two : Bool) (bytes : List ℕ) (t : TermPhrase two) (s : List Opened) (z : List Token) → closed s ≡ s
    → Proper bytes s (term_tokens t ++ z) → TermIs two (length s) (term_tree bytes t) × Proper bytes s z
term_is_read two bytes t s z e h =
    let r = term_read two bytes t s z e h in
    (any-is two (length s) (term_items bytes t) r.some r.each, r.behind)
