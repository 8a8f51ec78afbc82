use Rattle.pbs_names.specs.Naming.{input_names, action_names, level_names}
use Rattle.pbs_realize.proofs.Emitting.{Written, stands}
use Rattle.pbs_realize.proofs.laws.emitted_stands.Goals as goal

pub returns : goal.returns
returns c = λ text spec gates registers pins net read unbroken is few_gates few_registers few_pins.
    let words = c.names_are_words.ensures text spec read unbroken in
    let laws : Written = record { short = c.built_text_is_short.ensures; reads = c.written_reads_back.ensures } in
    stands (input_names spec.inputs) (action_names spec.actions) (level_names spec.levels) gates registers pins net laws
    few_gates few_registers few_pins is
    (record {
      inputs = is.inputs_named;
      outputs = is.outputs_named;
      in_words = words.inputs;
      action_words = words.actions;
      level_words = words.levels;
      ins_differ = words.inputs_once;
      actions_differ = words.actions_once;
      levels_differ = words.levels_once;
    })
