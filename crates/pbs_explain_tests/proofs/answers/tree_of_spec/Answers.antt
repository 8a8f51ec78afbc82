use Rattle.pbs_check.specs.Checked.{IsUnbroken, By9, By10}
use Rattle.pbs_explain_tests.proofs.answers.tree_of_spec.Goals as goal

pub expand-requires : goal.expand-requires
expand-requires c =
    let spec = c.args.spec.now in
    let keeps : IsUnbroken spec = c.requires in
    record {
      inputs = c.within_limits.ensures.inputs spec keeps;
      actions = c.within_limits.ensures.actions spec keeps;
      rule_9 = λ span broken. keeps.unbroken 9 span (By9 broken);
      rule_10 = λ span broken. keeps.unbroken 10 span (By10 broken);
    }
