-- Whether an expression may be empty and what lies in it, from what is known of the names in it.
use Rattle.std.specs.Prelude.{ℕ, ◌==◌, Bool, true, false, ◌&&◌, ◌||◌, nat_eq, List, [], ◌∷◌, Option, Some, None}
use Rattle.std.specs.HashMap.{get}
use Rattle.std.specs.Cmp.Lexicographic.{pointwise}
use Rattle.pbs_ast.specs.declared.syntax.Expr.{Expr}
use Rattle.pbs_ast.specs.declared.syntax.Kind as kind
use Rattle.pbs_ast.specs.declared.syntax.Kind.{Row_of-Expr, end_of-Expr, more_of-Expr, items-the_row-Expr}
use Rattle.pbs_check.specs.declared.facts.Facts.{Facts}
use Rattle.pbs_check.specs.declared.facts.Known.{Known}

abbrev pub fact : Bool → Bool → Bool → Facts
fact may has busy = record { may_be_empty = may; has_terminal = has; is_busy = busy }

abbrev pub known_of : Known → List ℕ → Option Facts
known_of known name = get (pointwise ◌==◌) known.facts name

-- one part after another, and one of two
abbrev pub after : Option Facts → Option Facts → Option Facts
after (Some a) (Some b) = Some (fact (a.may_be_empty && b.may_be_empty) (a.has_terminal || b.has_terminal)
    (a.is_busy || b.is_busy))
after _ _ = None

abbrev pub either : Option Facts → Option Facts → Option Facts
either (Some a) (Some b) = Some (fact (a.may_be_empty || b.may_be_empty) (a.has_terminal || b.has_terminal)
    (a.is_busy || b.is_busy))
either _ _ = None

-- the same, but it may be empty where this holds
abbrev pub or_empty : Bool → Option Facts → Option Facts
or_empty may (Some a) = Some (fact (may || a.may_be_empty) a.has_terminal a.is_busy)
or_empty may None = None

-- a scope with its body, trap and after part
abbrev pub scope_of : Option Facts → Option Facts → Option Facts → Option Facts
scope_of (Some a) (Some b) (Some c) = Some (fact a.may_be_empty (a.has_terminal || (b.has_terminal || c.has_terminal))
    true)
scope_of _ _ _ = None

-- a choice of none stands for `()`
abbrev pub choice_of : List Expr → Option Facts → Option Facts
choice_of [] any = Some (fact true false false)
choice_of (e ∷ es) any = any

abbrev mutual
  pub kind_facts : (List ℕ → Option Facts) → kind.Kind → Option Facts
  kind_facts known kind.Empty = Some (fact true false false)
  kind_facts known (kind.Terminal t) = Some (fact false true false)
  kind_facts known (kind.Action name at) = Some (fact true false true)
  kind_facts known (kind.Seq' n row) = row_all known row
  kind_facts known (kind.Choice' n row) = choice_of (items-the_row-Expr _ row) (row_any known row)
  kind_facts known (kind.Star' p s e) = or_empty true (kind_facts known e)
  kind_facts known (kind.Plus' p s e) = kind_facts known e
  kind_facts known (kind.Opt' p s e) = or_empty true (kind_facts known e)
  kind_facts known (kind.Hold' t p s e) = kind_facts known e
  kind_facts known (kind.Scope' p s e q s' x r s'' h) = scope_of (kind_facts known e) (kind_facts known x)
      (kind_facts known h)
  kind_facts known (kind.Name name) = known name
  kind_facts known (kind.Repeat' p s e m n) = or_empty (nat_eq m 0) (kind_facts known e)

  pub row_all : (List ℕ → Option Facts) → {n : _} → Row_of-Expr n → Option Facts
  row_all known end_of-Expr = Some (fact true false false)
  row_all known (more_of-Expr s e rest) = after (kind_facts known e) (row_all known rest)

  pub row_any : (List ℕ → Option Facts) → {n : _} → Row_of-Expr n → Option Facts
  row_any known end_of-Expr = Some (fact false false false)
  row_any known (more_of-Expr s e rest) = either (kind_facts known e) (row_any known rest)

abbrev pub expr_facts : (List ℕ → Option Facts) → Expr → Option Facts
expr_facts known e = kind_facts known e.kind

abbrev pub all_facts : (List ℕ → Option Facts) → List Expr → Option Facts
all_facts known [] = Some (fact true false false)
all_facts known (e ∷ es) = after (expr_facts known e) (all_facts known es)

abbrev pub any_facts : (List ℕ → Option Facts) → List Expr → Option Facts
any_facts known [] = Some (fact false false false)
any_facts known (e ∷ es) = either (expr_facts known e) (any_facts known es)
