use Rattle.pbs_realize.proofs.Declared.{inputs_are_words, actions_are_words, levels_are_words}
use Rattle.pbs_realize.proofs.laws.names_are_words.Goals as goal

pub returns : goal.returns
returns c = λ text spec stands unbroken. record {
  inputs = inputs_are_words text spec stands;
  actions = actions_are_words text spec stands;
  levels = levels_are_words text spec stands;
  inputs_once = c.declared_once.ensures.inputs spec unbroken;
  actions_once = c.declared_once.ensures.actions spec unbroken;
  levels_once = c.declared_once.ensures.levels spec unbroken;
}
