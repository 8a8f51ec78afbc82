-- The names of a raw netlist.
use Rattle.std.specs.Prelude.{ℕ, Bool, List, [], ◌∷◌, ◌++◌, map, Option, Some, None, if◌then◌else◌}
use Rattle.std.specs.List.{list_any, flat_map, filter_map}
use Rattle.std.specs.Str.{bytes_eq}
use Rattle.vlog_text.specs.declared.raw.RawName.{RawName}
use Rattle.vlog_text.specs.declared.raw.RawDecl.{RawDecl}
use Rattle.vlog_text.specs.declared.raw.RawGate.{RawGate}
use Rattle.vlog_text.specs.declared.raw.RawReg.{RawReg}
use Rattle.vlog_text.specs.declared.raw.RawNetlist.{RawNetlist}
use Rattle.vlog_text.specs.declared.raw.RawPin.{RawPin}
use Rattle.vlog_text.specs.declared.raw.RawPin.TheVariants as pin
use Rattle.vlog_text.specs.declared.raw.Target.{Target}
use Rattle.vlog_text.specs.declared.raw.Target.TheVariants as target

abbrev pub has_word : List ℕ → RawName → Bool
has_word word name = bytes_eq word name.word

-- one of the names is this word
abbrev pub is_named : List RawName → List ℕ → Bool
is_named names word = list_any (has_word word) names

abbrev pub pin_name : RawPin → Option RawName
pin_name (pin.Const b) = None
pin_name (pin.Name name) = Some name
pin_name (pin.Prior n) = None

abbrev pub target_name : Target → Option RawName
target_name (target.Name name) = Some name
target_name target.Inner = None

abbrev pub decl_names : RawNetlist → List RawName
decl_names raw = map (λ (d : RawDecl). d.name) raw.decls

-- what gates and assigns drive, and what each `always` drives
abbrev pub gate_targets : RawNetlist → List RawName
gate_targets raw = filter_map (λ (g : RawGate). target_name g.target) raw.gates

abbrev pub reg_targets : RawNetlist → List RawName
reg_targets raw = map (λ (r : RawReg). r.target) raw.regs

abbrev pub operands : RawNetlist → List RawName
operands raw =
    flat_map (λ (g : RawGate). filter_map pin_name g.pins) raw.gates
    ++ filter_map (λ (r : RawReg). pin_name r.wire) raw.regs

-- the names that are used or listed
abbrev pub uses : RawNetlist → List RawName
uses raw = raw.ports ++ gate_targets raw ++ reg_targets raw ++ operands raw

-- the names whose word stands before them
abbrev pub repeated : List RawName → List RawName → List RawName
repeated before [] = []
repeated before (x ∷ xs) = (if is_named before x.word then x ∷ [] else []) ++ repeated (before ++ x ∷ []) xs
