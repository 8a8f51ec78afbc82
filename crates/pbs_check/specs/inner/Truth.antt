-- Facts that are true of what they are known of.
use Rattle.std.specs.Prelude.{◌≡◌, ◌⊎◌, ℕ, Bool, true, false, not, List, Option, Some, None, Contains}
use Rattle.std.specs.List.{count_by}
use Rattle.std.specs.Option.{is_some}
use Rattle.pbs_ast.specs.declared.syntax.Expr.{Expr}
use Rattle.pbs_ast.specs.declared.syntax.Prod.{Prod}
use Rattle.pbs_ast.specs.declared.syntax.Spec.{Spec}
use Rattle.pbs_names.specs.Naming.{body_of}
use Rattle.pbs_names.specs.Forms.{Form, Name, form, Stands}
use Rattle.pbs_names.specs.Reach.{HasTerminal, HasAction, HasScope, MayBeEmpty}
use Rattle.pbs_check.specs.declared.facts.Facts.{Facts}
use Rattle.pbs_check.specs.declared.uses.Tables.{Tables}
use Rattle.pbs_check.specs.inner.Facts.{known_of, expr_facts}

-- the test says whether the fact holds
abbrev pub Decided : Bool → Type 0 → Type 0
Decided true P = P
Decided false P = P → ⊥

abbrev pub IsBusy : List Prod → Form → Type 0
IsBusy prods f = HasAction prods f ⊎ HasScope prods f

pub record FactsAre (prods : List Prod) (f : Form) (facts : Facts) : Type 0 where
  pub may : Decided facts.may_be_empty (MayBeEmpty prods f)
  pub has : Decided facts.has_terminal (HasTerminal prods f)
  pub busy : Decided facts.is_busy (IsBusy prods f)

-- what is known of names is true
abbrev pub Knows : List Prod → (List ℕ → Option Facts) → Type 0
Knows prods known = (name : List ℕ) (f : Facts) → known name ≡ Some f → FactsAre prods (Name name) f

-- each production is the first of its name
pub record AreFirst (prods : List Prod) : Type 0 where
  pub first : (p : Prod) → Contains prods p → body_of prods p.name ≡ Some p.body

-- what is known of productions is true
pub record Settles (prods : List Prod) (known : List ℕ → Option Facts) : Type 0 where
  pub knows : Knows prods known

-- the facts of every expression of the specification are known and true
pub record IsKnown (spec : Spec) (tables : Tables) : Type 0 where
  pub facts : (e : Expr) → Stands spec e → Facts
  pub known : (e : Expr) (stands : Stands spec e) → expr_facts (known_of tables.known) e ≡ Some (facts e stands)
  pub true_of : (e : Expr) (stands : Stands spec e) → FactsAre spec.prods (form e) (facts e stands)

-- every production's body is known, and main
pub record AreKnown (spec : Spec) (known : List ℕ → Option Facts) : Type 0 where
  pub bodies : (p : Prod) → Contains spec.prods p → (f : Facts) × (expr_facts known p.body ≡ Some f)
  pub main : (f : Facts) × (expr_facts known spec.main ≡ Some f)

-- nothing more can be learnt
pub record IsStuck (prods : List Prod) (known : List ℕ → Option Facts) : Type 0 where
  pub stuck : (p : Prod) → Contains prods p → known p.name ≡ None → expr_facts known p.body ≡ None

-- how many productions there are of which nothing is known
abbrev pub unknown_count : List Prod → (List ℕ → Option Facts) → ℕ
unknown_count prods known = count_by (λ (p : Prod). not (is_some (known p.name))) prods
