-- A tree of the program and its number.
use Rattle.std.proofs.Common.{◌≡◌, ℕ, refl}
use Rattle.pbs_base.specs.declared.refusal.Span.{Span}
use Rattle.pbs_ast.specs.declared.tree.TreeKind as kind
use Rattle.pbs_ast.specs.Trees.{tree_from}
use Rattle.pbs_overlap.specs.Ranges.{number_of}

pub number_from : (span : Span) (n : ℕ) (k : kind.TreeKind) → number_of (tree_from span n k) ≡ n
number_from span n kind.Empty = refl
number_from span n (kind.Terminal p t) = refl
number_from span n (kind.Action a) = refl
number_from span n (kind.Seq' _ s k e _ s' k' f) = refl
number_from span n (kind.Choice' _ s k e _ s' k' f) = refl
number_from span n (kind.Star' _ s k e) = refl
number_from span n (kind.Hold' t _ s k e) = refl
number_from span n (kind.Scope' p _ s k e _ s' k' x _ s'' k'' h) = refl
