-- From the answers of the layers to those of the front.
use Rattle.std.proofs.Common.{◌≡◌, ◌≤◌, ℕ, List, length, Err, None, subst, Ok}
use Rattle.pbs_base.specs.declared.refusal.Refusal.{Refusal}
use Rattle.pbs_ast.specs.declared.syntax.Spec.{Spec}
use Rattle.pbs_ast.specs.Trees.{tree_of}
use Rattle.pbs_names.specs.Naming.{input_names}
use Rattle.pbs_text.specs.Answers.{StandsFor}
use Rattle.pbs_ast.specs.Bare.{bare}
use Rattle.pbs_check.specs.Checked.{IsUnbroken, By9, By10}
use Rattle.pbs_expand.specs.Expanded.{Gives, expanded, refusal}
use Rattle.pbs_expand.specs.Ready.{IsReady, NamesDeclared}
use Rattle.pbs_expand.specs.declared.fail.Expand.TheVariants as expands
use Rattle.pbs_overlap.specs.Rules.{IsClear, TreeRefuses}
use Rattle.pbs_engine.specs.declared.fail.EngineFail.{EngineFail}
use Rattle.pbs_engine.specs.declared.fail.EngineFail.TheVariants as fails
use Rattle.pbs_engine.specs.declared.front.Accepted.{Accepted}
use Rattle.pbs_engine.specs.Accepted.{Breaks, OnSpec, OnExpansion, OnTree, Checks}
use Rattle.pbs_engine.specs.inner.AcceptedAs.{IsAcceptedAs, Accepts}

pub is_ready : (spec : Spec) → length (input_names spec.inputs) ≤ 64 → length spec.actions ≤ 64 → IsUnbroken spec
    → IsReady spec
is_ready spec inputs actions none = record {
  inputs = inputs;
  actions = actions;
  rule_9 = λ span broken. none.unbroken 9 span (By9 broken);
  rule_10 = λ span broken. none.unbroken 10 span (By10 broken);
}

pub too_large : (text : List ℕ) (spec : Spec) (r : Refusal) → StandsFor text (bare spec) → IsUnbroken (bare spec)
    → Gives (bare spec) (Err (expands.Refused r)) → Breaks text r
too_large text spec r read none gives = OnSpec (bare spec) read (OnExpansion none gives)

-- what is known of a specification and its tree before the rules of scopes are looked at
pub record IsExpanded (text : List ℕ) (found : Accepted) : Type 0 where
  pub read : StandsFor text (bare found.spec)
  pub unbroken : IsUnbroken (bare found.spec)
  pub within : refusal (bare found.spec) ≡ None
  pub tree : tree_of found.main.tree ≡ expanded (bare found.spec)
  pub names : NamesDeclared found.spec (tree_of found.main.tree)

pub is_accepted : (text : List ℕ) (found : Accepted) → IsExpanded text found → IsClear (tree_of found.main.tree)
    → IsAcceptedAs text found
is_accepted text found is clear = record {
  accepted = record {
    read = is.read;
    unbroken = is.unbroken;
    within = is.within;
    clear = subst IsClear is.tree clear;
  };
  tree = is.tree;
  names = is.names;
}

pub tree_refused : (text : List ℕ) (found : Accepted) (r : Refusal) → IsExpanded text found
    → TreeRefuses (tree_of found.main.tree) found.spec.main.span r → Breaks text r
tree_refused text found r is refuses =
    OnSpec (bare found.spec) is.read (OnTree is.unbroken is.within
    (subst (λ t. TreeRefuses t found.spec.main.span r) is.tree refuses))

pub accepted_checks : (text : List ℕ) (found : Accepted) → Accepts text (Ok found) → Checks text (Ok tt)
accepted_checks text found is = (bare found.spec, is.accepted)

pub failed_checks : (text : List ℕ) (fail : EngineFail) → Accepts text (Err fail) → Checks text (Err fail)
failed_checks text (fails.Refused r) is = is
failed_checks text fails.Memory is = tt
