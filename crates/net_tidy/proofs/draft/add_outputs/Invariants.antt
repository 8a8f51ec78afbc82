use Rattle.std.proofs.Common.{◌≡◌, ◌+◌, take, length}
use Rattle.net_core.specs.Building.{Keeps}
use Rattle.net_core.specs.Circuits.{output_names}
use Rattle.net_tidy.specs.inner.Assembled.{OutputsLast, Shows}
use Rattle.net_tidy.proofs.draft.add_outputs.Given as goal

abbrev pub invariant-loop-a : goal.invariant-loop-a
invariant-loop-a l = record {
  keeps : Keeps l.fn.d l.d;
  inputs : l.d.inputs ≡ l.fn.d.inputs;
  registers : l.d.registers ≡ l.fn.d.registers;
  gates : length l.d.gates ≡ length l.fn.d.gates + l.a;
  names : output_names l.d ≡ take l.a (output_names l.net);
  shows : Shows l.d l.wires l.a;
  last : OutputsLast l.fn.d l.d l.wires l.a;
}
