-- How the run of a netlist ends that was read, or read back.
use Rattle.std.proofs.Common.{◌≡◌, ◌<◌, ◌≤◌, ◌+◌, ℕ, zero, suc, List, [], ◌++◌, length, codes, Option}
use Rattle.std.proofs.Common.{Result, Err, refl, sym, ap, subst, ◌∙◌, arith, Bool, true}
use Rattle.std.specs.Prelude.{⊤}
use Rattle.std.proofs.lemmas.List.{length-map}
use Rattle.pbs_base.specs.declared.entry.Entry.{Entry}
use Rattle.pbs_base.specs.declared.refusal.Refusal.{Refusal}
use Rattle.pbs_io.specs.Outside.{ShelfState, SinkState, NamedFile, has_file}
use Rattle.pbs_io.proofs.ReadLemmas.{GoesOn-refl}
use Rattle.pbs_io.proofs.WrittenLemmas.{append_known-nil}
use Rattle.pbs_ast.specs.declared.syntax.Level.{Level}
use Rattle.pbs_ast.specs.declared.syntax.Spec.{Spec}
use Rattle.pbs_names.specs.Naming.{action_names, level_names}
use Rattle.net_core.specs.declared.codes.Code.{Code}
use Rattle.net_core.specs.Rows.{Row}
use Rattle.net_core.specs.Circuits.{Circuit}
use Rattle.net_core.specs.Runs.{output_value}
use Rattle.net_eval.specs.Simulated.{IsZeroRun}
use Rattle.trace_text.specs.Reports.{row_line, rows_text}
use Rattle.trace_text.proofs.ReportLemmas.{row_line-same}
use Rattle.trace_text.specs.Headers.{NoHeader, Traced, trace}
use Rattle.net_trace.specs.declared.fail.RunFail.{RunFail}
use Rattle.net_trace.specs.declared.fail.RunFail.TheVariants as fails
use Rattle.net_trace.specs.Outcomes.{Outcome, NetGives, OnHeader, OnRows, refused, ended, shown_rows}
use Rattle.net_trace.specs.Taken.{HasRows, NetRows}
use Rattle.net_trace.specs.Endings.{Task, TaskEnds, net_task, trace_text}
use Rattle.net_trace.proofs.EndingLemmas.{IsPart, ends_more, took_little}
use Rattle.vlog_text.specs.Reading as netlists
use Rattle.pbs_expand.specs.Expanded.{expanded}
use Rattle.pbs_controller.specs.LevelPlans.{plan_of_level}
use Rattle.pbs_controller.specs.Ports.{output_ports}
use Rattle.pbs_controller.proofs.PortLemmas.{length-outputs}
use Rattle.pbs_controller.proofs.ShownLemmas.{shows_due}
use Rattle.pbs_engine.specs.Accepted.{IsAccepted}
use Rattle.pbs_realize.specs.Realizes.{Realizes, level_plan}
use Rattle.pbs_engine.specs.Right.{IsReadBack}
use Rattle.pbs_engine.specs.Outcomes.{TextGives, OfHeader, OfRows, DueRows, is_due, due_rows, text_task}
use Rattle.pbs_engine.specs.Outcomes.{OfNetlist, netlist_task}

-- ---- the lines

rows_same : (names : List (List ℕ)) (p q : ℕ → ℕ → Bool) (k n : ℕ)
    → ((j : ℕ) → k ≤ j → j < k + n → (a : ℕ) → a < length names → p j a ≡ q j a)
    → rows_text names p k n ≡ rows_text names q k n
rows_same names p q k zero same = refl
rows_same names p q k (suc n) same =
    ap (λ l. l ++ rows_text names p (suc k) n)
    (row_line-same names k (p k) (q k) (same k (omega arith) (omega arith)))
    ∙ ap (λ l. row_line names k (q k) ++ l)
    (rows_same names p q (suc k) n (λ j low high. same j (omega arith) (omega arith)))

-- the rows that such a netlist shows are those that are due
shows_due_rows : (spec : Spec) (net : Circuit) (place_codes : List Code) (rows : ℕ → Row) (entries : List Entry)
    → Realizes spec net place_codes → IsZeroRun net entries rows
    → shown_rows net rows (length entries) ≡ due_rows spec entries
shows_due_rows spec net place_codes rows entries right run =
    let names = output_ports (action_names spec.actions) (level_names spec.levels) in
    let m = length (action_names spec.actions) in
    ap (λ l. rows_text l (λ k n. output_value net (rows k) n) 0 (suc (length entries))) right.outputs
    ∙ rows_same names (λ k n. output_value net (rows k) n) (is_due spec entries) 0 (suc (length entries))
    (λ j low high n less.
    let row = right.shows entries rows run.run j (omega arith) in
    shows_due net (expanded spec) right.places m (level_plan spec) entries rows j row.fires row.levels n
    (let count = length-outputs (action_names spec.actions) (level_names spec.levels) in
    let names_of = length-map spec.levels (λ (l : Level). l.name) in
    let plans = length-map spec.levels (λ l. plan_of_level (action_names spec.actions) l) in
    omega (arith, less, count, names_of, plans)))

-- what the netlist gives on a trace, the text gives
text_gives : (text bytes : List ℕ) (net : Circuit) → IsReadBack text net → (o : Outcome) → NetGives net bytes o
    → TextGives text bytes o
text_gives text bytes net back o (OnHeader {r} at) =
    OfHeader back.spec back.accepted (subst (λ ports. trace ports bytes ≡ NoHeader r) back.realizes.inputs at)
text_gives text bytes net back o (OnRows read is rows run) =
    subst (λ l. TextGives text bytes (ended l (length read.entries) read.ending))
    (sym (shows_due_rows back.spec net back.place_codes rows read.entries back.realizes run))
    (OfRows back.spec back.accepted read (subst (λ ports. trace ports bytes ≡ Traced read) back.realizes.inputs is))

-- what is due of the netlist, is due of the text
text_due : (text : List ℕ) (net : Circuit) → IsReadBack text net → (taken lines : List ℕ) → NetRows net taken lines
    → DueRows text taken lines
text_due text net back taken lines rows = record {
  spec = back.spec;
  accepted = back.accepted;
  entries = rows.entries;
  has = subst (λ ports. HasRows ports taken rows.entries) back.realizes.inputs rows.has;
  lines_are = rows.lines_are
      ∙ shows_due_rows back.spec net back.place_codes rows.rows rows.entries back.realizes rows.run;
}

-- ---- how the calls end

-- a file that is needed
abbrev HasFile : List ℕ → List NamedFile → Type 0
HasFile name files = has_file files name ≡ true

read_back_part : (text name : List ℕ) (net : Circuit) (told : Option (List NamedFile)) → IsReadBack text net
    → IsPart (net_task name) (text_task name) (λ files. net) (λ files. text) (λ files. ⊤ → HasFile name files)
    (λ files. (spec : Spec) × IsAccepted text spec → HasFile name files) told
read_back_part text name net told back = record {
  trace = refl;
  gives = λ files is bytes o given. text_gives text bytes net back o given;
  due = λ files is taken lines rows. text_due text net back taken lines rows;
  has = λ files is has _. has (back.spec, back.accepted);
}

pub net_ends : (text name : List ℕ) (net : Circuit) (a b : ShelfState) (k m : SinkState)
    (result : Result (Unit {0}) RunFail) → IsReadBack text net → TaskEnds (net_task name) net a b k m result
    → TaskEnds (text_task name) text a b k m result
net_ends text name net a b k m result back ends =
    ends_more (net_task name) (text_task name) (λ files. net) (λ files. text) (λ files. ⊤ → HasFile name files)
    (λ files. (spec : Spec) × IsAccepted text spec → HasFile name files) a a b k m
    (read_back_part text name net a.files back) (GoesOn-refl a) refl result ends

netlist_part : (text name : List ℕ) (net : Circuit) (told : Option (List NamedFile)) → netlists.ElaboratesTo text net
    → IsPart (net_task name) (netlist_task name) (λ files. net) (λ files. text) (λ files. ⊤ → HasFile name files)
    (λ files. (net : Circuit) × netlists.ElaboratesTo text net → HasFile name files) told
netlist_part text name net told stands = record {
  trace = refl;
  gives = λ files is bytes o given. OfNetlist net stands o given;
  due = λ files is taken lines rows. record { net = net; stands = stands; rows = rows };
  has = λ files is has _. has (net, stands);
}

pub netlist_ends : (text name : List ℕ) (net : Circuit) (a b : ShelfState) (k m : SinkState)
    (result : Result (Unit {0}) RunFail) → netlists.ElaboratesTo text net
    → TaskEnds (net_task name) net a b k m result → TaskEnds (netlist_task name) text a b k m result
netlist_ends text name net a b k m result stands ends =
    ends_more (net_task name) (netlist_task name) (λ files. net) (λ files. text) (λ files. ⊤ → HasFile name files)
    (λ files. (net : Circuit) × netlists.ElaboratesTo text net → HasFile name files) a a b k m
    (netlist_part text name net a.files stands) (GoesOn-refl a) refl result ends

-- the text is refused, and nothing is opened
pub refused_at_once : (T : Task (List ℕ)) (text : List ℕ) (r : Refusal) (a : ShelfState) (k : SinkState)
    → ((bytes : List ℕ) → T.gives text bytes (refused r)) → TaskEnds T text a a k k (Err (fails.Refused r))
refused_at_once T text r a k gives = λ files told.
    record { text = []; defined = gives (trace_text T.trace files); written = sym (append_known-nil k.written) }

pub no_memory : (T : Task (List ℕ)) (text : List ℕ) (a : ShelfState) (k : SinkState)
    → TaskEnds T text a a k k (Err fails.Memory)
no_memory T text a k =
    (refl, λ files told. took_little (trace_text T.trace files) (a.slots 1) (a.slots 1) refl)
