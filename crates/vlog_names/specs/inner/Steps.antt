-- What is learnt of names, one by one, and their faults.
use Rattle.std.specs.Prelude.{◌≡◌, ℕ, Bool, not, ◌||◌, List, [], ◌∷◌, Option, Some, None, if◌then◌else◌, is_some}
use Rattle.vlog_text.specs.declared.raw.DeclKind.{DeclKind}
use Rattle.vlog_text.specs.declared.raw.RawName.{RawName}
use Rattle.vlog_text.specs.declared.raw.RawDecl.{RawDecl}
use Rattle.vlog_text.specs.Standing.{drives, is_input, is_output, is_reg, is_clock}
use Rattle.vlog_names.specs.declared.firsts.Firsts.{Firsts}
use Rattle.vlog_names.specs.declared.kinds.Kinds.{Kinds}
use Rattle.vlog_names.specs.declared.rows.Fault.{Fault}
use Rattle.vlog_names.specs.declared.rows.Fault.TheVariants as fault
use Rattle.vlog_names.specs.Names.{first_in, is_wire, is_plain}

-- ---- first places

abbrev pub or_else : Option ℕ → Option ℕ → Option ℕ
or_else (Some n) later = Some n
or_else None later = later

-- the table learnt that the name, if it is one, stands at this place
pub record Learns (old new : Firsts) (name : Option RawName) (place : ℕ) : Type 0 where
  pub finds : (w : List ℕ) → first_in new w ≡ or_else (first_in old w) (if drives w name then Some place else None)

-- ---- kinds

abbrev pub with_kind : Kinds → DeclKind → Kinds
with_kind k kind = record {
  input = k.input || is_input kind;
  output = k.output || is_output kind;
  wire = k.wire || is_wire kind;
  reg = k.reg || is_reg kind;
}

abbrev pub is_any : Kinds → Bool
is_any k = k.input || k.output || k.wire || k.reg

-- ---- names that are numbered

abbrev pub plain_name : (List ℕ → Kinds) → RawName → Option RawName
plain_name kinds name = if is_plain (kinds name.word) name.word then Some name else None

abbrev pub reg_name : RawDecl → Option RawName
reg_name d = if is_reg d.kind then Some d.name else None

-- ---- faults of names

-- the name has the fault, where its word is declared as these things
abbrev pub has_fault : Fault → (List ℕ → Kinds) → List ℕ → Bool
has_fault fault.Undeclared kinds w = not (is_any (kinds w))
has_fault fault.NotPort kinds w = (kinds w).wire || (kinds w).reg
has_fault fault.InputOrReg kinds w = (kinds w).input || (kinds w).reg
has_fault fault.NotReg kinds w = not (kinds w).reg
has_fault fault.Clock kinds w = is_clock w

-- the name, where it is to be noted
abbrev pub when : Bool → RawName → List RawName
when is_broken name = if is_broken then name ∷ [] else []

-- the name, if it is one that has a first place already
abbrev pub again : (List ℕ → Option ℕ) → Option RawName → List RawName
again firsts None = []
again firsts (Some name) = when (is_some (firsts name.word)) name
