-- What the texts of specifications and of netlists give on a trace.
use Rattle.std.specs.Prelude.{◌≡◌, ℕ, suc, Bool, List, length, codes, Some}
use Rattle.pbs_base.specs.declared.entry.Entry.{Entry}
use Rattle.pbs_base.specs.declared.refusal.Refusal.{Refusal}
use Rattle.pbs_ast.specs.declared.syntax.Spec.{Spec}
use Rattle.pbs_names.specs.Naming.{input_names, action_names, level_names}
use Rattle.pbs_expand.specs.Expanded.{expanded}
use Rattle.trace_text.specs.Reports.{rows_text}
use Rattle.trace_text.specs.Traces.{Rows}
use Rattle.trace_text.specs.Headers.{NoHeader, Traced, trace}
use Rattle.net_core.specs.Circuits.{Circuit}
use Rattle.vlog_text.specs.Reading as netlists
use Rattle.net_trace.specs.Outcomes.{Outcome, NetGives, refused, ended}
use Rattle.net_trace.specs.Taken.{HasRows, NetRows}
use Rattle.net_trace.specs.Endings.{Task}
use Rattle.pbs_controller.specs.Ports.{ports_of, output_ports}
use Rattle.pbs_controller.specs.Shown.{output_due}
use Rattle.pbs_realize.specs.Realizes.{level_plan}
use Rattle.pbs_engine.specs.Accepted.{Breaks, IsAccepted}

abbrev pub input_ports : Spec → List (List ℕ)
input_ports spec = ports_of (codes "i_") (input_names spec.inputs)

-- output n is 1 in row k: an action's where a derivation of main over the vectors since the last reset ends at it, and
-- a level's where its value after the row is 1
abbrev pub is_due : Spec → List Entry → ℕ → ℕ → Bool
is_due spec entries = output_due (expanded spec) (length (action_names spec.actions)) (level_plan spec) entries

-- the line of row 0 and one for each entry: in each row the actions that fire and the levels that are 1
abbrev pub due_rows : Spec → List Entry → List ℕ
due_rows spec entries =
    rows_text (output_ports (action_names spec.actions) (level_names spec.levels)) (is_due spec entries) 0
    (suc (length entries))

-- what the text of a specification gives on the text of a trace
pub data TextGives (text trace_text : List ℕ) : Outcome → Type 0 where
  OfRefused : {r : Refusal} → Breaks text r → TextGives text trace_text (refused r)
  OfHeader : (spec : Spec) {r : Refusal} → IsAccepted text spec → trace (input_ports spec) trace_text ≡ NoHeader r
      → TextGives text trace_text (refused r)
  OfRows : (spec : Spec) → IsAccepted text spec → (read : Rows) → trace (input_ports spec) trace_text ≡ Traced read
      → TextGives text trace_text (ended (due_rows spec read.entries) (length read.entries) read.ending)

-- the line of row 0 and those of the rows whose newlines were taken
pub record DueRows (text taken lines : List ℕ) : Type 0 where
  pub spec : Spec
  pub accepted : IsAccepted text spec
  pub entries : List Entry
  pub has : HasRows (input_ports spec) taken entries
  pub lines_are : lines ≡ due_rows spec entries

-- the text of a specification on the named trace
abbrev pub text_task : List ℕ → Task (List ℕ)
text_task name = record {
  trace = Some name;
  gives = TextGives;
  due = DueRows;
  opens = λ text. (spec : Spec) × IsAccepted text spec;
  leaves = λ text. (r : Refusal) × Breaks text r;
}

-- ---- netlists

-- what the text of a netlist gives on the text of a trace
pub data NetlistGives (text trace_text : List ℕ) : Outcome → Type 0 where
  OfNetlist : (net : Circuit) → netlists.ElaboratesTo text net → (outcome : Outcome) → NetGives net trace_text outcome
      → NetlistGives text trace_text outcome
  OfBadNetlist : {r : Refusal} → netlists.IsRefusedVerilog text r → NetlistGives text trace_text (refused r)

-- a netlist that the text stands for has these lines where so much of the trace was taken
pub record SimulatedRows (text taken lines : List ℕ) : Type 0 where
  pub net : Circuit
  pub stands : netlists.ElaboratesTo text net
  pub rows : NetRows net taken lines

-- the text of a netlist on the named trace
abbrev pub netlist_task : List ℕ → Task (List ℕ)
netlist_task name = record {
  trace = Some name;
  gives = NetlistGives;
  due = SimulatedRows;
  opens = λ text. (net : Circuit) × netlists.ElaboratesTo text net;
  leaves = λ text. (r : Refusal) × netlists.IsRefusedVerilog text r;
}
