-- Spans and the places of boxes make no difference: for the canonical text, and for each other.
use Rattle.std.proofs.Common.{◌≡◌, ℕ, List, [], ◌∷◌, ◌++◌, map, Bool, refl, sym, ap, ◌∙◌}
use Rattle.std.specs.Prelude.{codes, decimal, not}
use Rattle.std.specs.List.{concat}
use Rattle.pbs_ast.specs.declared.syntax.SpecTerm as term
use Rattle.pbs_ast.specs.declared.syntax.SpecTerm.{SpecTerm, Row_of-SpecTerm, end_of-SpecTerm, more_of-SpecTerm}
use Rattle.pbs_ast.specs.declared.syntax.Kind as kind
use Rattle.pbs_ast.specs.declared.syntax.Kind.{Kind, Row_of-Expr, end_of-Expr, more_of-Expr}
use Rattle.pbs_ast.specs.declared.syntax.Decl.{Decl}
use Rattle.pbs_ast.specs.declared.syntax.Level.{Level}
use Rattle.pbs_ast.specs.declared.syntax.Prod.{Prod}
use Rattle.pbs_ast.specs.declared.syntax.Spec.{Spec}
use Rattle.pbs_ast.specs.Bare.{no_place, expr, bare_term, bare_terms, bare_kind, bare_exprs, bare_prod, bare}
use Rattle.pbs_print.specs.Canonical.{joined, bracketed, is_any, is_joined, is_empty, is_choice, is_list, is_wide}
use Rattle.pbs_print.specs.Canonical.{bit_text, bounds_text, term_text, all_members, any_members, kind_text}
use Rattle.pbs_print.specs.Canonical.{seq_members, choice_members, decl_text, decls_line, set_text, level_line}
use Rattle.pbs_print.specs.Canonical.{prod_line, canonical}
use Rattle.pbs_print.proofs.JoinedPieces.{all_member, any_member, seq_member, choice_member, text-all, text-any}
use Rattle.pbs_print.proofs.JoinedPieces.{text-seq, text-choice}
use Rattle.pbs_print.specs.Unspanned.{no_span, unspanned_term, unspanned_terms, unspanned_kind, unspanned_exprs}
use Rattle.pbs_print.specs.Unspanned.{unspanned_expr, unspanned_decl, unspanned_set, unspanned_level, unspanned_prod}
use Rattle.pbs_print.specs.Unspanned.{unspanned}
use Rattle.pbs_print.proofs.TermPhrases.{unspanned-row}
use Rattle.pbs_print.proofs.ExprPhrases as exprs
use Rattle.pbs_print.proofs.LinePhrases.{spec_same}

map-map : {A B C : Type 0} (f : B → C) (g : A → B) (h : A → C) → ((x : A) → f (g x) ≡ h x) → (xs : List A)
    → map f (map g xs) ≡ map h xs
map-map f g h same [] = refl
map-map f g h same (x ∷ xs) = ap (λ y. y ∷ map f (map g xs)) (same x) ∙ ap (λ l. h x ∷ l) (map-map f g h same xs)

-- ---- the canonical text

in-brackets : (a b : Bool) (x y : List ℕ) → a ≡ b → x ≡ y → bracketed a x ≡ bracketed b y
in-brackets a b x y e f = ap (λ c. bracketed c x) e ∙ ap (bracketed b) f

any-plain : (t : SpecTerm) → is_any (unspanned_term t) ≡ is_any t
any-plain (term.Const b) = refl
any-plain (term.Name word at) = refl
any-plain (term.Not' p t) = refl
any-plain (term.All' n row) = refl
any-plain (term.Any' n row) = refl
any-plain (term.Equal word at n to) = refl

joined-plain : (t : SpecTerm) → is_joined (unspanned_term t) ≡ is_joined t
joined-plain (term.Const b) = refl
joined-plain (term.Name word at) = refl
joined-plain (term.Not' p t) = refl
joined-plain (term.All' n row) = refl
joined-plain (term.Any' n row) = refl
joined-plain (term.Equal word at n to) = refl

mutual
  term-plain : (t : SpecTerm) → term_text (unspanned_term t) ≡ term_text t
  term-plain (term.Const b) = refl
  term-plain (term.Name word at) = refl
  term-plain (term.Not' p t) = ap (λ l. 126 ∷ l) (in-brackets _ _ _ _ (joined-plain t) (term-plain t))
  term-plain (term.All' n row) = text-all (unspanned_terms row) ∙ ap (joined (codes " & ")) (all-plain row)
  term-plain (term.Any' n row) = text-any (unspanned_terms row) ∙ ap (joined (codes " | ")) (any_all-plain row)
  term-plain (term.Equal word at n to) = refl

  all-plain : {n : _} (row : Row_of-SpecTerm n) → map all_member (unspanned_terms row) ≡ all_members row
  all-plain end_of-SpecTerm = refl
  all-plain (more_of-SpecTerm t rest) =
      ap (λ x. x ∷ map all_member (unspanned_terms rest)) (in-brackets _ _ _ _ (joined-plain t) (term-plain t))
      ∙ ap (λ l. bracketed (is_joined t) (term_text t) ∷ l) (all-plain rest)

  any_all-plain : {n : _} (row : Row_of-SpecTerm n) → map any_member (unspanned_terms row) ≡ any_members row
  any_all-plain end_of-SpecTerm = refl
  any_all-plain (more_of-SpecTerm t rest) =
      ap (λ x. x ∷ map any_member (unspanned_terms rest)) (in-brackets _ _ _ _ (any-plain t) (term-plain t))
      ∙ ap (λ l. bracketed (is_any t) (term_text t) ∷ l) (any_all-plain rest)

-- brackets are written alike
record SameBrackets (a b : Kind) : Type 0 where
  empty : is_empty a ≡ is_empty b
  choice : is_choice a ≡ is_choice b
  list : is_list a ≡ is_list b
  wide : is_wide a ≡ is_wide b

brackets-plain : (e : Kind) → SameBrackets (unspanned_kind e) e
brackets-plain kind.Empty = record { empty = refl; choice = refl; list = refl; wide = refl }
brackets-plain (kind.Terminal t) = record { empty = refl; choice = refl; list = refl; wide = refl }
brackets-plain (kind.Action word at) = record { empty = refl; choice = refl; list = refl; wide = refl }
brackets-plain (kind.Seq' n row) = record { empty = refl; choice = refl; list = refl; wide = refl }
brackets-plain (kind.Choice' n row) = record { empty = refl; choice = refl; list = refl; wide = refl }
brackets-plain (kind.Star' p at e) = record { empty = refl; choice = refl; list = refl; wide = refl }
brackets-plain (kind.Plus' p at e) = record { empty = refl; choice = refl; list = refl; wide = refl }
brackets-plain (kind.Opt' p at e) = record { empty = refl; choice = refl; list = refl; wide = refl }
brackets-plain (kind.Hold' t p at e) = record { empty = refl; choice = refl; list = refl; wide = refl }
brackets-plain (kind.Scope' p at e p' at' x p'' at'' y) =
    record { empty = refl; choice = refl; list = refl; wide = refl }
brackets-plain (kind.Name word) = record { empty = refl; choice = refl; list = refl; wide = refl }
brackets-plain (kind.Repeat' p at e m n) = record { empty = refl; choice = refl; list = refl; wide = refl }

wide-plain : (e : Kind) → kind_text (unspanned_kind e) ≡ kind_text e
    → bracketed (is_wide (unspanned_kind e)) (kind_text (unspanned_kind e)) ≡ bracketed (is_wide e) (kind_text e)
wide-plain e h = in-brackets _ _ _ _ (brackets-plain e).wide h

group-plain : (e : Kind) → kind_text (unspanned_kind e) ≡ kind_text e
    → bracketed (not (is_empty (unspanned_kind e))) (kind_text (unspanned_kind e))
    ≡ bracketed (not (is_empty e)) (kind_text e)
group-plain e h = in-brackets _ _ _ _ (ap not (brackets-plain e).empty) h

hold-plain : (t u g h : List ℕ) → t ≡ u → g ≡ h
    → codes "hold [" ++ (t ++ (codes "] : " ++ g)) ≡ codes "hold [" ++ (u ++ (codes "] : " ++ h))
hold-plain t u g h e f =
    ap (λ l. codes "hold [" ++ (l ++ (codes "] : " ++ g))) e ∙ ap (λ l. codes "hold [" ++ (u ++ (codes "] : " ++ l))) f

scope-plain : (a b c d x y : List ℕ) → a ≡ b → c ≡ d → x ≡ y
    → codes "try " ++ (a ++ (codes " abort " ++ (c ++ (codes " then " ++ x))))
    ≡ codes "try " ++ (b ++ (codes " abort " ++ (d ++ (codes " then " ++ y))))
scope-plain a b c d x y e f g =
    ap (λ l. codes "try " ++ (l ++ (codes " abort " ++ (c ++ (codes " then " ++ x))))) e
    ∙ (ap (λ l. codes "try " ++ (b ++ (codes " abort " ++ (l ++ (codes " then " ++ x))))) f
    ∙ ap (λ l. codes "try " ++ (b ++ (codes " abort " ++ (d ++ (codes " then " ++ l))))) g)

mutual
  kind-plain : (e : Kind) → kind_text (unspanned_kind e) ≡ kind_text e
  kind-plain kind.Empty = refl
  kind-plain (kind.Terminal t) = ap (λ l. codes "[" ++ (l ++ codes "]")) (term-plain t)
  kind-plain (kind.Action word at) = refl
  kind-plain (kind.Seq' n row) = text-seq (unspanned_exprs row) ∙ ap (joined (codes ", ")) (seq-plain row)
  kind-plain (kind.Choice' n row) = text-choice (unspanned_exprs row) ∙ ap (joined (codes " | ")) (choice-plain row)
  kind-plain (kind.Star' p at e) = ap (λ l. l ++ codes "*") (wide-plain e (kind-plain e))
  kind-plain (kind.Plus' p at e) = ap (λ l. l ++ codes "+") (wide-plain e (kind-plain e))
  kind-plain (kind.Opt' p at e) = ap (λ l. l ++ codes "?") (wide-plain e (kind-plain e))
  kind-plain (kind.Hold' t p at e) = hold-plain _ _ _ _ (term-plain t) (group-plain e (kind-plain e))
  kind-plain (kind.Scope' p at e p' at' x p'' at'' y) =
      scope-plain _ _ _ _ _ _ (group-plain e (kind-plain e)) (group-plain x (kind-plain x))
      (group-plain y (kind-plain y))
  kind-plain (kind.Name word) = refl
  kind-plain (kind.Repeat' p at e m n) = ap (λ l. l ++ bounds_text m n) (wide-plain e (kind-plain e))

  seq-plain : {n : _} (row : Row_of-Expr n) → map seq_member (unspanned_exprs row) ≡ seq_members row
  seq-plain end_of-Expr = refl
  seq-plain (more_of-Expr at e rest) =
      ap (λ x. x ∷ map seq_member (unspanned_exprs rest))
      (in-brackets _ _ _ _ (brackets-plain e).list (kind-plain e))
      ∙ ap (λ l. bracketed (is_list e) (kind_text e) ∷ l) (seq-plain rest)

  choice-plain : {n : _} (row : Row_of-Expr n) → map choice_member (unspanned_exprs row) ≡ choice_members row
  choice-plain end_of-Expr = refl
  choice-plain (more_of-Expr at e rest) =
      ap (λ x. x ∷ map choice_member (unspanned_exprs rest))
      (in-brackets _ _ _ _ (brackets-plain e).choice (kind-plain e))
      ∙ ap (λ l. bracketed (is_choice e) (kind_text e) ∷ l) (choice-plain rest)

decls-plain : (word : List ℕ) (ds : List Decl) → decls_line word (map unspanned_decl ds) ≡ decls_line word ds
decls-plain word [] = refl
decls-plain word (d ∷ ds) =
    ap (λ l. word ++ (joined (codes ", ") (decl_text d ∷ l) ++ codes ";\n"))
    (map-map decl_text unspanned_decl decl_text (λ x. refl) ds)

level-plain : (l : Level) → level_line (unspanned_level l) ≡ level_line l
level-plain l =
    ap (λ ss. codes "level " ++ (l.name ++ (codes " = " ++ (bit_text l.start ++ (codes " {" ++
    (concat ss ++ codes " }\n"))))))
    (map-map set_text unspanned_set set_text (λ x. refl) l.sets)

prod-plain : (p : Prod) → prod_line (unspanned_prod p) ≡ prod_line p
prod-plain p =
    ap (λ t. codes "prod " ++ (p.name ++ (codes " = " ++ (t ++ codes ";\n")))) (kind-plain p.body.kind)

abbrev lines : ℕ → List ℕ → List ℕ → List ℕ → List ℕ → List ℕ → List ℕ
lines version inputs actions levels prods main =
    codes "spec " ++ (decimal version ++ (codes ";\n" ++ (inputs ++ (actions ++ (levels ++ (prods
    ++ (codes "main = " ++ (main ++ codes ";\n"))))))))

same_lines : (v : ℕ) (i j a b l m p q x y : List ℕ) → i ≡ j → a ≡ b → l ≡ m → p ≡ q → x ≡ y
    → lines v i a l p x ≡ lines v j b m q y
same_lines v i j a b l m p q x y e f g h k =
    ap (λ z. lines v z a l p x) e ∙ (ap (λ z. lines v j z l p x) f ∙ (ap (λ z. lines v j b z p x) g
    ∙ (ap (λ z. lines v j b m z x) h ∙ ap (λ z. lines v j b m q z) k)))

pub canonical-plain : (spec : Spec) → canonical (unspanned spec) ≡ canonical spec
canonical-plain spec =
    same_lines spec.version _ _ _ _ _ _ _ _ _ _ (decls-plain (codes "input ") spec.inputs)
    (decls-plain (codes "action ") spec.actions)
    (ap concat (map-map level_line unspanned_level level_line level-plain spec.levels))
    (ap concat (map-map prod_line unspanned_prod prod_line prod-plain spec.prods)) (kind-plain spec.main.kind)

-- ---- boxes

mutual
  bare-term : (t : SpecTerm) → unspanned_term (bare_term t) ≡ unspanned_term t
  bare-term (term.Const b) = refl
  bare-term (term.Name word at) = refl
  bare-term (term.Not' p t) = ap (λ x. term.Not' no_place x) (bare-term t)
  bare-term (term.All' n row) = ap term.All (unspanned-row (bare_terms row) ∙ bare-row row)
  bare-term (term.Any' n row) = ap term.Any (unspanned-row (bare_terms row) ∙ bare-row row)
  bare-term (term.Equal word at n to) = refl

  bare-row : {n : _} (row : Row_of-SpecTerm n) → map unspanned_term (bare_terms row) ≡ unspanned_terms row
  bare-row end_of-SpecTerm = refl
  bare-row (more_of-SpecTerm t rest) =
      ap (λ x. x ∷ map unspanned_term (bare_terms rest)) (bare-term t)
      ∙ ap (λ l. unspanned_term t ∷ l) (bare-row rest)

mutual
  bare-kind : (e : Kind) → unspanned_kind (bare_kind e) ≡ unspanned_kind e
  bare-kind kind.Empty = refl
  bare-kind (kind.Terminal t) = ap kind.Terminal (bare-term t)
  bare-kind (kind.Action word at) = refl
  bare-kind (kind.Seq' n row) = ap kind.Seq (exprs.unspanned-row (bare_exprs row) ∙ bare-exprs row)
  bare-kind (kind.Choice' n row) = ap kind.Choice (exprs.unspanned-row (bare_exprs row) ∙ bare-exprs row)
  bare-kind (kind.Star' p at e) = ap (kind.Star' no_place no_span) (bare-kind e)
  bare-kind (kind.Plus' p at e) = ap (kind.Plus' no_place no_span) (bare-kind e)
  bare-kind (kind.Opt' p at e) = ap (kind.Opt' no_place no_span) (bare-kind e)
  bare-kind (kind.Hold' t p at e) = exprs.same_hold _ _ _ _ (bare-term t) (bare-kind e)
  bare-kind (kind.Scope' p at e p' at' x p'' at'' y) =
      exprs.same_scope _ _ _ _ _ _ (bare-kind e) (bare-kind x) (bare-kind y)
  bare-kind (kind.Name word) = refl
  bare-kind (kind.Repeat' p at e m n) = exprs.same_bounded _ _ m m n n (bare-kind e) refl refl

  bare-exprs : {n : _} (row : Row_of-Expr n) → map unspanned_expr (bare_exprs row) ≡ unspanned_exprs row
  bare-exprs end_of-Expr = refl
  bare-exprs (more_of-Expr at e rest) =
      ap (λ x. expr no_span x ∷ map unspanned_expr (bare_exprs rest)) (bare-kind e)
      ∙ ap (λ l. expr no_span (unspanned_kind e) ∷ l) (bare-exprs rest)

bare-prod : (p : Prod) → unspanned_prod (bare_prod p) ≡ unspanned_prod p
bare-prod p = ap (λ k. record { name = p.name; span = no_span; body = expr no_span k }) (bare-kind p.body.kind)

pub bare-plain : (spec : Spec) → unspanned (bare spec) ≡ unspanned spec
bare-plain spec =
    spec_same spec.version spec.version _ _ _ _ _ _ _ _ _ _ refl refl refl refl
    (map-map unspanned_prod bare_prod unspanned_prod bare-prod spec.prods) (bare-kind spec.main.kind)

pub canonical-bare : (spec : Spec) → canonical (bare spec) ≡ canonical spec
canonical-bare spec = sym (canonical-plain (bare spec)) ∙ (ap canonical (bare-plain spec) ∙ canonical-plain spec)
