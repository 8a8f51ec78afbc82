-- The map of a text.
use Rattle.std.proofs.Common.{◌≡◌, ◌∙◌, ℕ, List, ◌++◌, Ok, Err, refl, sym, ap, subst}
use Rattle.pbs_ast.specs.Trees.{Tree, tree_of}
use Rattle.pbs_ast.specs.Bare.{bare}
use Rattle.pbs_ast.specs.declared.syntax.Spec.{Spec}
use Rattle.pbs_expand.specs.Expanded.{expanded}
use Rattle.net_core.specs.declared.codes.Code.{Code}
use Rattle.map_text.specs.Maps.{map_text}
use Rattle.pbs_controller.specs.declared.build.Controller.{Controller}
use Rattle.pbs_realize.specs.Codes.{AreCodes}
use Rattle.pbs_engine.specs.declared.fail.EngineFail.{EngineFail}
use Rattle.pbs_engine.specs.declared.fail.EngineFail.TheVariants as engine
use Rattle.pbs_engine.specs.declared.front.Accepted.{Accepted}
use Rattle.pbs_engine.specs.inner.AcceptedAs.{IsAcceptedAs, Accepts}
use Rattle.pbs_engine.specs.inner.Controllers.{IsControllerOf, MakesControllerOf}
use Rattle.pbs_engine.specs.Accepted.{IsAccepted}
use Rattle.pbs_engine.specs.Right.{IsMapOf, Maps}

pub mapped : (text before now : List ℕ) (found : Accepted) (made : Controller) → IsAcceptedAs text found
    → IsControllerOf text (bare found.spec) made → now ≡ before ++ map_text (tree_of found.main.tree) made.map
    → Maps text before now (Ok tt)
mapped text before now found made is controls appended = (
  map_text (tree_of found.main.tree) made.map,
  record {
    spec = bare found.spec;
    accepted = controls.accepted;
    net = made.net;
    place_codes = made.map;
    realizes = controls.realizes;
    written = ap (λ t. map_text t made.map) is.tree;
  },
  appended,
)

pub not_read : (text before : List ℕ) (fail : EngineFail) → Accepts text (Err fail) → Maps text before before (Err fail)
not_read text before (engine.Refused r) is = (is, refl)
not_read text before engine.Memory is = refl

pub not_mapped : (text before : List ℕ) (spec : Spec) (fail : EngineFail) → MakesControllerOf text spec (Err fail)
    → Maps text before before (Err fail)
not_mapped text before spec (engine.Refused r) is = (is, refl)
not_mapped text before spec engine.Memory is = refl

-- ---- one map

abbrev pub OneSpec : Type 0
OneSpec = (text : List ℕ) (a b : Spec) → IsAccepted text a → IsAccepted text b → a ≡ b

abbrev pub OneCoding : Type 0
OneCoding =
    (main : Tree) (m n : ℕ) (cs ds : List Code) → AreCodes main m cs → AreCodes main n ds → cs ≡ ds

pub one_map : OneSpec → OneCoding → (text a b : List ℕ) → IsMapOf text a → IsMapOf text b → a ≡ b
one_map one_spec one_coding text a b first second =
    let same = one_spec text first.spec second.spec first.accepted second.accepted in
    let coded = subst (λ s. AreCodes (expanded s) first.realizes.places first.place_codes) same first.realizes.coded in
    let places = one_coding (expanded second.spec) first.realizes.places second.realizes.places first.place_codes
    second.place_codes coded second.realizes.coded in
    first.written
    ∙ (ap (λ s. map_text (expanded s) first.place_codes) same
    ∙ (ap (map_text (expanded second.spec)) places ∙ sym second.written))
