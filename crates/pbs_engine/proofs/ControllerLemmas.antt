-- The controller of a text.
use Rattle.std.proofs.Common.{ℕ, List, Result, Ok, Err, sym, subst}
use Rattle.pbs_ast.specs.declared.syntax.Spec.{Spec}
use Rattle.pbs_ast.specs.Trees.{tree_of}
use Rattle.pbs_ast.specs.Bare.{bare}
use Rattle.pbs_text.specs.Answers.{StandsFor}
use Rattle.pbs_edges.specs.Walks.{BreaksNoScope}
use Rattle.vlog_text.specs.Emitted.{emitted}
use Rattle.vlog_text.specs.Reading.{ElaboratesTo}
use Rattle.pbs_controller.specs.declared.build.Controller.{Controller}
use Rattle.pbs_realize.specs.Realizes.{Realizes}
use Rattle.pbs_engine.specs.declared.fail.EngineFail.{EngineFail}
use Rattle.pbs_engine.specs.declared.fail.EngineFail.TheVariants as engine
use Rattle.pbs_engine.specs.declared.front.Accepted.{Accepted}
use Rattle.pbs_engine.specs.inner.AcceptedAs.{IsAcceptedAs, Accepts}
use Rattle.pbs_engine.specs.inner.Controllers.{IsControllerOf, MakesController, MakesControllerOf}

pub no_scope_breaks : (text : List ℕ) (found : Accepted) → IsAcceptedAs text found
    → BreaksNoScope (tree_of found.main.tree)
no_scope_breaks text found is = subst BreaksNoScope (sym is.tree) is.accepted.clear.scopes

pub is_controller : (text : List ℕ) (found : Accepted) (made : Controller) → IsAcceptedAs text found
    → Realizes (bare found.spec) made.net made.map
    → ((t : List ℕ) → StandsFor t (bare found.spec) → ElaboratesTo (emitted made.net) made.net)
    → IsControllerOf text (bare found.spec) made
is_controller text found made is right stands = record {
  accepted = is.accepted;
  realizes = right;
  stands = stands text is.accepted.read;
}

pub made_of : (text : List ℕ) (spec : Spec) (result : Result Controller EngineFail) → MakesControllerOf text spec result
    → MakesController text result
made_of text spec (Ok made) is = (spec, is)
made_of text spec (Err (engine.Refused r)) is = is
made_of text spec (Err engine.Memory) is = tt

pub not_accepted : (text : List ℕ) (fail : EngineFail) → Accepts text (Err fail) → MakesController text (Err fail)
not_accepted text (engine.Refused r) is = is
not_accepted text engine.Memory is = tt
