-- The controller of a text.
use Rattle.std.specs.Prelude.{List, ℕ, Result, Ok, Err}
use Rattle.pbs_ast.specs.declared.syntax.Spec.{Spec}
use Rattle.vlog_text.specs.Reading.{ElaboratesTo}
use Rattle.vlog_text.specs.Emitted.{emitted}
use Rattle.pbs_controller.specs.declared.build.Controller.{Controller}
use Rattle.pbs_realize.specs.Realizes.{Realizes}
use Rattle.pbs_engine.specs.declared.fail.EngineFail.{EngineFail}
use Rattle.pbs_engine.specs.declared.fail.EngineFail.TheVariants as fails
use Rattle.pbs_engine.specs.Accepted.{Breaks, IsAccepted}

-- the text is accepted as the specification, this is its controller, and what is written for it stands for it
pub record IsControllerOf (text : List ℕ) (spec : Spec) (made : Controller) : Type 0 where
  pub accepted : IsAccepted text spec
  pub realizes : Realizes spec made.net made.map
  pub stands : ElaboratesTo (emitted made.net) made.net

-- the controller of the text as this specification
abbrev pub MakesControllerOf : List ℕ → Spec → Result Controller EngineFail → Type 0
MakesControllerOf text spec (Ok made) = IsControllerOf text spec made
MakesControllerOf text spec (Err (fails.Refused r)) = Breaks text r
MakesControllerOf text spec (Err fails.Memory) = Unit {0}

abbrev pub MakesController : List ℕ → Result Controller EngineFail → Type 0
MakesController text (Ok made) = (spec : Spec) × IsControllerOf text spec made
MakesController text (Err (fails.Refused r)) = Breaks text r
MakesController text (Err fails.Memory) = Unit {0}
