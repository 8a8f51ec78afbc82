-- Parts of the rules' lists of names.
use Rattle.std.specs.Prelude.{ℕ, List, [], ◌∷◌, filter, Option, Some, None}
use Rattle.vlog_text.specs.declared.raw.RawName.{RawName}
use Rattle.vlog_text.specs.declared.raw.RawPin.{RawPin}
use Rattle.vlog_text.specs.declared.raw.Target.{Target}
use Rattle.vlog_text.specs.Words.{pin_name, target_name}
use Rattle.vlog_names.specs.declared.kinds.Kinds.{Kinds}
use Rattle.vlog_names.specs.declared.rows.Fault.{Fault}
use Rattle.vlog_names.specs.inner.Steps.{has_fault}

-- those of the names that have the fault
abbrev pub faulty : Fault → (List ℕ → Kinds) → List RawName → List RawName
faulty fault kinds names = filter (λ (n : RawName). has_fault fault kinds n.word) names

abbrev pub one_or_none : Option RawName → List RawName
one_or_none (Some name) = name ∷ []
one_or_none None = []

abbrev pub named_pin : RawPin → List RawName
named_pin pin = one_or_none (pin_name pin)

abbrev pub named_target : Target → List RawName
named_target target = one_or_none (target_name target)
