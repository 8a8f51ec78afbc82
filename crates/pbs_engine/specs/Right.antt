-- The Verilog and the map of a specification.
use Rattle.std.specs.Prelude.{◌≡◌, ℕ, List, ◌++◌, Result, Ok, Err}
use Rattle.pbs_ast.specs.declared.syntax.Spec.{Spec}
use Rattle.pbs_expand.specs.Expanded.{expanded}
use Rattle.net_core.specs.declared.codes.Code.{Code}
use Rattle.net_core.specs.Circuits.{Circuit}
use Rattle.map_text.specs.Maps.{map_text}
use Rattle.pbs_realize.specs.Realizes.{IsRight, Realizes}
use Rattle.pbs_engine.specs.declared.fail.EngineFail.{EngineFail}
use Rattle.pbs_engine.specs.declared.fail.EngineFail.TheVariants as fails
use Rattle.pbs_engine.specs.Accepted.{Breaks, IsAccepted}

-- the second text is Verilog of the specification that the first stands for
pub record IsVerilogOf (text verilog : List ℕ) : Type 0 where
  pub spec : Spec
  pub accepted : IsAccepted text spec
  pub right : IsRight spec verilog

-- what was appended is Verilog of the text's specification; nothing was where the text is refused, or no memory was
-- found
abbrev pub Compiles : List ℕ → List ℕ → List ℕ → Result (Unit {0}) EngineFail → Type 0
Compiles text before now (Ok done) = (verilog : List ℕ) × IsVerilogOf text verilog × (now ≡ before ++ verilog)
Compiles text before now (Err (fails.Refused r)) = Breaks text r × (now ≡ before)
Compiles text before now (Err fails.Memory) = now ≡ before

-- the netlist is what such Verilog stands for
pub record IsReadBack (text : List ℕ) (net : Circuit) : Type 0 where
  pub spec : Spec
  pub accepted : IsAccepted text spec
  pub place_codes : List Code
  pub realizes : Realizes spec net place_codes

abbrev pub ReadsBack : List ℕ → Result Circuit EngineFail → Type 0
ReadsBack text (Ok net) = IsReadBack text net
ReadsBack text (Err (fails.Refused r)) = Breaks text r
ReadsBack text (Err fails.Memory) = Unit {0}

-- the second text is the map of the specification that the first stands for: it has the codes by which the registers of
-- its controller tell places
pub record IsMapOf (text map : List ℕ) : Type 0 where
  pub spec : Spec
  pub accepted : IsAccepted text spec
  pub net : Circuit
  pub place_codes : List Code
  pub realizes : Realizes spec net place_codes
  pub written : map ≡ map_text (expanded spec) place_codes

-- what was appended is the map of the text's specification; nothing was where the text is refused, or no memory was
-- found
abbrev pub Maps : List ℕ → List ℕ → List ℕ → Result (Unit {0}) EngineFail → Type 0
Maps text before now (Ok done) = (map : List ℕ) × IsMapOf text map × (now ≡ before ++ map)
Maps text before now (Err (fails.Refused r)) = Breaks text r × (now ≡ before)
Maps text before now (Err fails.Memory) = now ≡ before
