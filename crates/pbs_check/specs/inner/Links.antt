-- Productions by their numbers, and how they use each other.
use Rattle.std.specs.Prelude.{◌≡◌, ◌<◌, ℕ, ◌⊎◌, length, Option, Some, None, List, [], ◌∷◌, ◌++◌, map, slice_get}
use Rattle.std.specs.Prelude.{Contains}
use Rattle.std.specs.Global.{Vec}
use Rattle.pbs_base.specs.declared.refusal.Span.{Span}
use Rattle.pbs_ast.specs.declared.syntax.Expr.{Expr}
use Rattle.pbs_ast.specs.declared.syntax.Prod.{Prod}
use Rattle.pbs_names.specs.Naming.{index_of, prod_names}
use Rattle.pbs_names.specs.Forms.{Form, Name, form}
use Rattle.pbs_check.specs.declared.graph.Graph.{Graph}
use Rattle.pbs_check.specs.declared.graph.Link.{Link}
use Rattle.pbs_check.specs.inner.Walking.{inside}

abbrev pub link : ℕ → Span → Link
link to span = record { to = to; span = span }

abbrev pub link_to : Span → Option ℕ → List Link
link_to span (Some to) = link to span ∷ []
link_to span None = []

-- the use that an expression is
abbrev pub own_links : (List ℕ → Option ℕ) → Span → Form → List Link
own_links number span (Name name) = link_to span (number name)
own_links number span _ = []

-- the uses among expressions
abbrev pub links_in : (List ℕ → Option ℕ) → List Expr → List Link
links_in number [] = []
links_in number (e ∷ es) = own_links number e.span (form e) ++ links_in number es

-- the uses in a production
abbrev pub links_of : (List ℕ → Option ℕ) → Prod → List Link
links_of number p = links_in number (inside p.body)

abbrev pub AreLinks : (List ℕ → Option ℕ) → List Prod → List (Vec Link) → Type 0
AreLinks number prods uses = map (λ (v : Vec Link). v.items) uses ≡ map (links_of number) prods

-- the production of one number uses that of another, and the place
pub data HasUse (uses : List (Vec Link)) (user used : ℕ) (span : Span) : Type 0 where
  At : {v : Vec Link} → slice_get uses user ≡ Some v → Contains v.items (link used span) → HasUse uses user used span

-- another number stands in the list of one
pub data HasNext (lists : List (Vec ℕ)) (number next : ℕ) : Type 0 where
  By : {v : Vec ℕ} → slice_get lists number ≡ Some v → Contains v.items next → HasNext lists number next

-- the lists have the users of each production
pub record AreUsers (uses : List (Vec Link)) (users : List (Vec ℕ)) : Type 0 where
  pub sound : (used user : ℕ) → HasNext users used user → (span : Span) × HasUse uses user used span
  pub complete : (used user : ℕ) (span : Span) → HasUse uses user used span → used < length uses
      → HasNext users used user

-- the table has the uses of the production, and what it had
pub record AddsUsers (links : List Link) (user : ℕ) (old new : List (Vec ℕ)) : Type 0 where
  pub size : length new ≡ length old
  pub kept : (k u : ℕ) → HasNext old k u → HasNext new k u
  pub added : (k : ℕ) (span : Span) → Contains links (link k span) → k < length old → HasNext new k user
  pub only : (k u : ℕ) → HasNext new k u → HasNext old k u ⊎ ((u ≡ user)
      × ((span : Span) × Contains links (link k span)))

abbrev pub targets_of : List Link → List ℕ
targets_of = map (λ (l : Link). l.to)

-- the uses without their places
abbrev pub AreTargets : List (Vec Link) → List (Vec ℕ) → Type 0
AreTargets uses targets = map (λ (v : Vec ℕ). v.items) targets ≡ map (λ (v : Vec Link). targets_of v.items) uses

-- the tables of the specification's productions
pub record IsGraph (prods : List Prod) (graph : Graph) : Type 0 where
  pub uses : AreLinks (index_of (prod_names prods)) prods graph.uses.items
  pub targets : AreTargets graph.uses.items graph.targets.items
  pub users : AreUsers graph.uses.items graph.users.items

-- from one production another can be reached by uses, in no step or more
pub data Leads (uses : List (Vec Link)) (to : ℕ) : ℕ → Type 0 where
  Stay : Leads uses to to
  Step : {from via : ℕ} {span : Span} → HasUse uses from via span → Leads uses to via → Leads uses to from

-- the place of a use, in a production, of one from which it can be reached
pub data IsRecursive (uses : List (Vec Link)) (user : ℕ) (span : Span) : Type 0 where
  Round : {used : ℕ} → HasUse uses user used span → Leads uses user used → IsRecursive uses user span

-- each use is of a production of the table
abbrev pub IsClosed : List (Vec Link) → Type 0
IsClosed uses = (user used : ℕ) (span : Span) → HasUse uses user used span → used < length uses

-- a use at which some production is part of a recursion
pub data HasRecursion (uses : List (Vec Link)) (span : Span) : Type 0 where
  Of : {user : ℕ} → IsRecursive uses user span → HasRecursion uses span

-- the same of the productions below a number
pub data HasRecursionTo (uses : List (Vec Link)) (n : ℕ) (span : Span) : Type 0 where
  Of : {user : ℕ} → user < n → IsRecursive uses user span → HasRecursionTo uses n span
