-- The canonical text of a specification.
use Rattle.std.specs.Prelude.{ℕ, zero, suc, Bool, true, false, not, List, [], ◌∷◌, ◌++◌, map, codes, decimal}
use Rattle.std.specs.List.{concat}
use Rattle.pbs_ast.specs.declared.syntax.SpecTerm as term
use Rattle.pbs_ast.specs.declared.syntax.SpecTerm.{SpecTerm, Row_of-SpecTerm, end_of-SpecTerm, more_of-SpecTerm}
use Rattle.pbs_ast.specs.declared.syntax.Kind as kind
use Rattle.pbs_ast.specs.declared.syntax.Kind.{Kind, Row_of-Expr, end_of-Expr, more_of-Expr}
use Rattle.pbs_ast.specs.declared.syntax.Expr.{Expr}
use Rattle.pbs_ast.specs.declared.syntax.Decl.{Decl}
use Rattle.pbs_ast.specs.declared.syntax.Set.{Set}
use Rattle.pbs_ast.specs.declared.syntax.Level.{Level}
use Rattle.pbs_ast.specs.declared.syntax.Prod.{Prod}
use Rattle.pbs_ast.specs.declared.syntax.Spec.{Spec}

-- pieces, each behind the separator
abbrev pub followed : List ℕ → List (List ℕ) → List ℕ
followed separator [] = []
followed separator (x ∷ xs) = separator ++ (x ++ followed separator xs)

-- pieces with the separator between them
abbrev pub joined : List ℕ → List (List ℕ) → List ℕ
joined separator [] = []
joined separator (x ∷ xs) = x ++ followed separator xs

abbrev pub bracketed : Bool → List ℕ → List ℕ
bracketed true text = codes "(" ++ (text ++ codes ")")
bracketed false text = text

-- ---- terms

abbrev pub is_any : SpecTerm → Bool
is_any (term.Any' n row) = true
is_any _ = false

abbrev pub is_joined : SpecTerm → Bool
is_joined (term.All' n row) = true
is_joined (term.Any' n row) = true
is_joined _ = false

abbrev pub bit_text : Bool → List ℕ
bit_text false = codes "0"
bit_text true = codes "1"

abbrev mutual
  pub term_text : SpecTerm → List ℕ
  term_text (term.Const b) = bit_text b
  term_text (term.Name word at) = word
  term_text (term.Not' _ t) = codes "~" ++ bracketed (is_joined t) (term_text t)
  term_text (term.All' n row) = joined (codes " & ") (all_members row)
  term_text (term.Any' n row) = joined (codes " | ") (any_members row)
  term_text (term.Equal word at n to) = word ++ (codes " = " ++ decimal n)

  -- an `Any` or an `All` in an `All` has brackets
  pub all_members : {n : _} → Row_of-SpecTerm n → List (List ℕ)
  all_members end_of-SpecTerm = []
  all_members (more_of-SpecTerm t rest) = bracketed (is_joined t) (term_text t) ∷ all_members rest

  -- an `Any` in an `Any` has brackets
  pub any_members : {n : _} → Row_of-SpecTerm n → List (List ℕ)
  any_members end_of-SpecTerm = []
  any_members (more_of-SpecTerm t rest) = bracketed (is_any t) (term_text t) ∷ any_members rest

-- ---- expressions

abbrev pub is_empty : Kind → Bool
is_empty kind.Empty = true
is_empty _ = false

abbrev pub is_choice : Kind → Bool
is_choice (kind.Choice' n row) = true
is_choice _ = false

abbrev pub is_list : Kind → Bool
is_list (kind.Seq' n row) = true
is_list (kind.Choice' n row) = true
is_list _ = false

-- a sequence, choice or repetition
abbrev pub is_wide : Kind → Bool
is_wide (kind.Seq' n row) = true
is_wide (kind.Choice' n row) = true
is_wide (kind.Star' _ at e) = true
is_wide (kind.Plus' _ at e) = true
is_wide (kind.Opt' _ at e) = true
is_wide (kind.Repeat' _ at e m n) = true
is_wide _ = false

abbrev pub bounds_text : ℕ → ℕ → List ℕ
bounds_text m n = codes "{" ++ (decimal m ++ (codes "," ++ (decimal n ++ codes "}")))

abbrev mutual
  pub kind_text : Kind → List ℕ
  kind_text kind.Empty = codes "()"
  kind_text (kind.Terminal t) = codes "[" ++ (term_text t ++ codes "]")
  kind_text (kind.Action word at) = codes "{" ++ (word ++ codes "}")
  kind_text (kind.Seq' n row) = joined (codes ", ") (seq_members row)
  kind_text (kind.Choice' n row) = joined (codes " | ") (choice_members row)
  kind_text (kind.Star' _ at e) = bracketed (is_wide e) (kind_text e) ++ codes "*"
  kind_text (kind.Plus' _ at e) = bracketed (is_wide e) (kind_text e) ++ codes "+"
  kind_text (kind.Opt' _ at e) = bracketed (is_wide e) (kind_text e) ++ codes "?"
  kind_text (kind.Hold' t _ at e) =
      codes "hold [" ++ (term_text t ++ (codes "] : " ++ bracketed (not (is_empty e)) (kind_text e)))
  kind_text (kind.Scope' _ at e _ at' x _ at'' h) =
      codes "try " ++ (bracketed (not (is_empty e)) (kind_text e) ++ (codes " abort "
      ++ (bracketed (not (is_empty x)) (kind_text x) ++ (codes " then " ++ bracketed (not (is_empty h))
      (kind_text h)))))
  kind_text (kind.Name word) = word
  kind_text (kind.Repeat' _ at e m n) = bracketed (is_wide e) (kind_text e) ++ bounds_text m n

  -- a choice or a sequence in a sequence has brackets
  pub seq_members : {n : _} → Row_of-Expr n → List (List ℕ)
  seq_members end_of-Expr = []
  seq_members (more_of-Expr at e rest) = bracketed (is_list e) (kind_text e) ∷ seq_members rest

  -- a choice in a choice has brackets
  pub choice_members : {n : _} → Row_of-Expr n → List (List ℕ)
  choice_members end_of-Expr = []
  choice_members (more_of-Expr at e rest) = bracketed (is_choice e) (kind_text e) ∷ choice_members rest

abbrev pub expr_text : Expr → List ℕ
expr_text e = kind_text e.kind

-- ---- lines

abbrev pub width_text : ℕ → List ℕ
width_text zero = []
width_text (suc n) = codes " : " ++ decimal (suc n)

abbrev pub decl_text : Decl → List ℕ
decl_text d = d.name ++ width_text d.width

-- the line of all inputs or all actions, where there are any
abbrev pub decls_line : List ℕ → List Decl → List ℕ
decls_line word [] = []
decls_line word (d ∷ ds) = word ++ (joined (codes ", ") (map decl_text (d ∷ ds)) ++ codes ";\n")

abbrev pub set_text : Set → List ℕ
set_text s = codes " " ++ (s.action ++ (codes ": " ++ (bit_text s.value ++ codes ";")))

abbrev pub level_line : Level → List ℕ
level_line l =
    codes "level " ++
    (l.name ++
    (codes " = " ++ (bit_text l.start ++ (codes " {" ++ (concat (map set_text l.sets) ++ codes " }\n")))))

abbrev pub prod_line : Prod → List ℕ
prod_line p = codes "prod " ++ (p.name ++ (codes " = " ++ (expr_text p.body ++ codes ";\n")))

abbrev pub canonical : Spec → List ℕ
canonical spec =
    codes "spec " ++ (decimal spec.version ++ (codes ";\n"
    ++ (decls_line (codes "input ") spec.inputs ++ (decls_line (codes "action ") spec.actions
    ++ (concat (map level_line spec.levels) ++ (concat (map prod_line spec.prods)
    ++ (codes "main = " ++ (expr_text spec.main ++ codes ";\n"))))))))

-- ---- as far as a loop has come

-- what stands before piece n of joined pieces
abbrev pub lead : ℕ → List ℕ → List ℕ
lead zero separator = []
lead (suc n) separator = separator

-- the pieces that are left, of which the first is piece n
abbrev pub joined_from : ℕ → List ℕ → List (List ℕ) → List ℕ
joined_from zero separator xs = joined separator xs
joined_from (suc n) separator xs = followed separator xs
