-- The tree that a specification stands for, and its refusals by rules 12 and 13.
use Rattle.std.specs.Prelude.{ℕ, ◌≡◌, Option, Some, None, Result, Ok, Err}
use Rattle.pbs_base.specs.declared.refusal.Span.{Span}
use Rattle.pbs_ast.specs.Trees.{Tree, tree_of}
use Rattle.pbs_base.specs.declared.refusal.Refusal.{Refusal}
use Rattle.pbs_base.specs.declared.refusal.Subject.TheVariants as Subject
use Rattle.pbs_ast.specs.declared.syntax.Spec.{Spec}
use Rattle.pbs_ast.specs.declared.main_tree.Main.{Main}
use Rattle.pbs_expand.specs.declared.build.Counters.{Counters}
use Rattle.pbs_expand.specs.declared.fail.Expand.{Expand}
use Rattle.pbs_expand.specs.declared.fail.Expand.TheVariants as answers
use Rattle.pbs_expand.specs.Parts.{Whole}
use Rattle.pbs_expand.specs.Walks.{Walk, walk}
use Rattle.pbs_expand.specs.Visits.{visits, first_over, numbered}
use Rattle.pbs_expand.specs.Wide.{first_too_wide}

abbrev pub nothing_yet : Counters
nothing_yet = record { counts = 0; nodes = 0; places = 0; scopes = 0 }

-- the walk of main's expression, 256 levels deep
abbrev pub main_walk : Spec → Walk
main_walk spec = walk spec 256 (Whole spec.main)

-- the tree that the specification stands for
abbrev pub expanded : Spec → Tree
expanded spec = numbered (main_walk spec) nothing_yet

-- rule 12: the node visited when a limit is passed
abbrev pub over_limit : Spec → Option Span
over_limit spec = first_over nothing_yet (visits (main_walk spec))

-- rule 13: the first place in whose effective term too many inputs stand
abbrev pub over_width : Spec → Option Span
over_width spec = first_too_wide (expanded spec)

abbrev pub refused : ℕ → Span → Refusal
refused rule span = record { subject = Subject.Spec; rule = rule; span = span }

abbrev pub first_refusal : Option Span → Option Span → Option Refusal
first_refusal (Some span) wide = Some (refused 12 span)
first_refusal None (Some span) = Some (refused 13 span)
first_refusal None None = None

-- the refusal by rules 12 and 13, in this order
abbrev pub refusal : Spec → Option Refusal
refusal spec = first_refusal (over_limit spec) (over_width spec)

-- the answer for a specification
abbrev pub Gives : Spec → Result Main Expand → Type 0
Gives spec (Ok main) = (refusal spec ≡ None) × (tree_of main.tree ≡ expanded spec)
Gives spec (Err (answers.Refused r)) = refusal spec ≡ Some r
Gives spec (Err answers.Memory) = Unit {0}
