-- What the code finds for each rule.
use Rattle.std.specs.Prelude.{ℕ, ◌+◌, ◌<◌, nat_lt, if◌then◌else◌, Option, Some, None, List, [], ◌∷◌, ◌++◌, map, length}
use Rattle.std.specs.Prelude.{slice_get, Result, Ok, Err}
use Rattle.std.specs.Option.{option_map}
use Rattle.pbs_base.specs.declared.refusal.Span.{Span}
use Rattle.pbs_base.specs.declared.refusal.Subject.TheVariants as Subject
use Rattle.pbs_ast.specs.declared.syntax.Decl.{Decl}
use Rattle.pbs_ast.specs.declared.syntax.Level.{Level}
use Rattle.pbs_ast.specs.declared.syntax.Spec.{Spec}
use Rattle.pbs_names.specs.Naming.{inputs_of, input_names, action_names, prod_names}
use Rattle.pbs_names.specs.Numbers.{IsNumbering}
use Rattle.pbs_check.specs.declared.fail.Check.{Check}
use Rattle.pbs_check.specs.declared.fail.Check.TheVariants as answers
use Rattle.pbs_check.specs.declared.named.Named.{Named}
use Rattle.pbs_check.specs.declared.uses.Look.{Look}
use Rattle.pbs_check.specs.declared.uses.Tables.{Tables}
use Rattle.pbs_check.specs.Checked.{IsBroken, IsFailure}
use Rattle.pbs_check.specs.Declaring.{declared_names, listed}
use Rattle.pbs_check.specs.Least.{least_of, least_by}
use Rattle.pbs_check.specs.inner.Twices.{first_twice}
use Rattle.pbs_check.specs.Using.{bus_names}
use Rattle.pbs_check.specs.inner.Walking.{own_broken, inside, inside_prods, level_broken}

abbrev pub level_twice : Level → Option Span
level_twice l = first_twice (listed l.sets)

abbrev pub found_twice : Spec → Option Span
found_twice spec = least_of (first_twice (declared_names spec)) (least_by level_twice spec.levels)

-- the declaration with which a count that stands at n passes 64
abbrev pub over_inputs : ℕ → List Decl → Option Span
over_inputs n [] = None
over_inputs n (d ∷ ds) = if nat_lt 64 (n + length (inputs_of d)) then Some d.span else over_inputs
    (n + length (inputs_of d)) ds

abbrev pub found_over : Spec → Option Span
found_over spec =
    least_of (over_inputs 0 spec.inputs)
    (least_of (option_map (λ (d : Decl). d.span) (slice_get spec.actions 64))
    (option_map (λ (l : Level). l.span) (slice_get spec.levels 64)))

-- the tables have the names of the specification
pub record IsTables (spec : Spec) (tables : Tables) : Type 0 where
  pub declared : IsNumbering (map (λ (n : Named). n.name) (declared_names spec)) tables.declared
  pub inputs : IsNumbering (input_names spec.inputs) tables.inputs
  pub buses : IsNumbering (bus_names spec.inputs) tables.buses
  pub actions : IsNumbering (action_names spec.actions) tables.actions
  pub prods : IsNumbering (prod_names spec.prods) tables.prods

abbrev pub found_in : Look → Tables → Spec → Option Span
found_in look tables spec =
    least_of (least_by (own_broken look tables spec.inputs) (inside_prods spec.prods ++ inside spec.main))
    (least_by (level_broken look tables) spec.levels)

-- none of the rules below that one is broken
pub record KeepsBelow (spec : Spec) (n : ℕ) : Type 0 where
  pub kept : (rule : ℕ) (span : Span) → rule < n → IsBroken spec rule span → ⊥

-- an answer as to the rules below that one
abbrev pub ChecksTo : {X : Type 0} → Spec → ℕ → Result X Check → Type 0
ChecksTo spec n (Ok x) = KeepsBelow spec n
ChecksTo spec n (Err e) = IsFailure spec e

-- the answer where the rule is broken at that span
abbrev pub refuse : ℕ → Option Span → Result (Unit {0}) Check
refuse rule None = Ok tt
refuse rule (Some span) = Err (answers.Refused (record { subject = Subject.Spec; rule = rule; span = span }))
