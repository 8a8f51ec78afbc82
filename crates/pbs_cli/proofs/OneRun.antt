-- A netlist gives one outcome on a trace.
use Rattle.std.proofs.Common.{◌≡◌, ◌∙◌, ◌+◌, ◌<◌, ◌≤◌, ℕ, zero, suc, Bool, false, List, [], ◌∷◌, ◌++◌, length, map}
use Rattle.std.proofs.Common.{Some, get_or, refl, sym, ap, subst, arith, codes, decimal}
use Rattle.std.specs.Prelude.{slice_get, if◌then◌else◌}
use Rattle.std.proofs.lemmas.Option.{slice_get-get_or}
use Rattle.pbs_base.specs.Entries.{Reads}
use Rattle.pbs_base.specs.declared.refusal.Refusal.{Refusal}
use Rattle.pbs_base.specs.declared.entry.Entry.{Entry}
use Rattle.pbs_base.specs.declared.entry.Entry.TheVariants.{Vector, Reset}
use Rattle.net_core.specs.declared.gate.Wire.TheVariants.{Const}
use Rattle.net_core.specs.declared.netlist.Output.{Output}
use Rattle.net_core.specs.Rows.{Row}
use Rattle.net_core.specs.Circuits.{Circuit, IsCircuit, wire_at, output_names}
use Rattle.net_core.specs.Runs.{next_of, output_value}
use Rattle.net_eval.specs.Assignments.{Agree, HasOneAssignment}
use Rattle.net_eval.specs.Simulated.{IsZeroRun}
use Rattle.net_eval.proofs.Agreeing.{value_agree, some_at}
use Rattle.trace_text.specs.Reports.{names_on, or_dash, row_line, rows_text}
use Rattle.trace_text.specs.Traces.{Rows}
use Rattle.trace_text.specs.Headers.{Trace, NoHeader, Traced}
use Rattle.net_trace.specs.Outcomes.{Outcome, NetGives, OnHeader, OnRows, refused, ended, shown_rows}

-- ---- two runs in which the registers before row 0, and the inputs in row 0 and in rows of resets, are 0

reset_same : (e : Entry) (a b : Bool) (x y : ℕ) → Reads e a x → Reads e b y → a ≡ b
reset_same (Vector v) a b x y p q = p.0 ∙ sym q.0
reset_same Reset a b x y p q = p ∙ sym q

vector_same : (e : Entry) (a b : Bool) (x y : ℕ) → Reads e a x → Reads e b y → (e ≡ Reset → x ≡ 0)
    → (e ≡ Reset → y ≡ 0) → x ≡ y
vector_same (Vector v) a b x y p q r s = p.1 ∙ sym q.1
vector_same Reset a b x y p q r s = r refl ∙ sym (s refl)

module _ (net : Circuit) (ok : IsCircuit net) (one : HasOneAssignment net) (v : List Entry) (f g : ℕ → Row)
    (a : IsZeroRun net v f) (b : IsZeroRun net v g) where
  next_same : (x y : Row) → Agree (length net.registers) (length net.gates) x y → (r : ℕ)
      → r < length net.registers → next_of net x r ≡ next_of net y r
  next_same x y same r less =
      value_agree (length net.inputs) (length net.registers) (length net.gates) x y (wire_at net.registers r) same
      (ok.data_there.each r (wire_at net.registers r) (slice_get-get_or net.registers r (Const false) less))

  rows_same : (k : ℕ) → k ≤ length v → Agree (length net.registers) (length net.gates) (f k) (g k)
  rows_same zero le = one.same (f 0) (g 0) (a.run.each 0 le) (b.run.each 0 le) (record {
    registers = λ r less. a.registers r less ∙ sym (b.registers r less);
    reset = a.run.first ∙ sym b.run.first;
    vector = a.first ∙ sym b.first;
    gates = λ n less. absurd (omega arith);
  })
  rows_same (suc k) le =
      let less : k < length v = omega arith in
      let at = some_at v k less in
      let reset_at : at.0 ≡ Reset → slice_get v k ≡ Some Reset = λ is. at.1 ∙ ap (λ (x : Entry). Some x) is in
      let before = rows_same k (omega arith) in
      let p = a.run.entries k at.0 at.1 in
      let q = b.run.entries k at.0 at.1 in
      one.same (f (suc k)) (g (suc k)) (a.run.each (suc k) le) (b.run.each (suc k) le) (record {
        registers = λ r there.
            a.run.registers k less r there
            ∙ (next_same (f k) (g k) before r there ∙ sym (b.run.registers k less r there));
        reset = reset_same at.0 _ _ _ _ p q;
        vector = vector_same at.0 _ _ _ _ p q (λ is. a.resets k (reset_at is)) (λ is. b.resets k (reset_at is));
        gates = λ n none. absurd (omega arith);
      })

  output_same : (k n : ℕ) → k ≤ length v → n < length net.outputs
      → output_value net (f k) n ≡ output_value net (g k) n
  output_same k n le less =
      let o = get_or net.outputs n (record { name = []; gate = 0 }) in
      (rows_same k le).gates o.gate
      (ok.outputs_right.there n o (slice_get-get_or net.outputs n (record { name = []; gate = 0 }) less))

-- ---- their lines

names_same : (p q : ℕ → Bool) (names : List (List ℕ)) (n : ℕ)
    → ((j : ℕ) → n ≤ j → j < n + length names → p j ≡ q j) → names_on p names n ≡ names_on q names n
names_same p q [] n same = refl
names_same p q (name ∷ names) n same =
    ap (λ b. if b then (32 ∷ name) ++ names_on p names (n + 1) else names_on p names (n + 1))
    (same n (omega arith) (omega arith))
    ∙ ap (λ t. if q n then (32 ∷ name) ++ t else t)
    (names_same p q names (n + 1) (λ j le less. same j (omega arith) (omega arith)))

text_same : (names : List (List ℕ)) (p q : ℕ → ℕ → Bool) (k count : ℕ)
    → ((j : ℕ) → j < k + count → (n : ℕ) → n < length names → p j n ≡ q j n)
    → rows_text names p k count ≡ rows_text names q k count
text_same names p q k zero same = refl
text_same names p q k (suc count) same =
    ap (λ t. (decimal k ++ (or_dash t ++ codes "\n")) ++ rows_text names p (suc k) count)
    (names_same (p k) (q k) names 0 (λ n le less. same k (omega arith) n (omega arith)))
    ∙ ap (λ t. row_line names k (q k) ++ t)
    (text_same names p q (suc k) count (λ j less. same j (omega arith)))

names_many : (outputs : List Output) → length (map (λ (o : Output). o.name) outputs) ≡ length outputs
names_many [] = refl
names_many (o ∷ outputs) = ap suc (names_many outputs)

shown_same : (net : Circuit) → IsCircuit net → HasOneAssignment net → (v : List Entry) (f g : ℕ → Row)
    → IsZeroRun net v f → IsZeroRun net v g → shown_rows net f (length v) ≡ shown_rows net g (length v)
shown_same net ok one v f g a b =
    let many = names_many net.outputs in
    text_same (output_names net) (λ k n. output_value net (f k) n) (λ k n. output_value net (g k) n) 0
    (suc (length v))
    (λ k less n there. output_same net ok one v f g a b k n (omega arith) (subst (λ c. n < c) many there))

-- ---- outcomes

one_header : (t : Trace) (r s : Refusal) → t ≡ NoHeader r → t ≡ NoHeader s → r ≡ s
one_header t r s p q = cc

one_read : (t : Trace) (r s : Rows) → t ≡ Traced r → t ≡ Traced s → r ≡ s
one_read t r s p q = cc

no_header : (t : Trace) (r : Refusal) (s : Rows) → t ≡ NoHeader r → t ≡ Traced s → ⊥
no_header t r s p q = cc

pub one_outcome : (net : Circuit) → IsCircuit net → HasOneAssignment net → (text : List ℕ) (o p : Outcome)
    → NetGives net text o → NetGives net text p → o ≡ p
one_outcome net ok one text o p (OnHeader e) (OnHeader f) = ap refused (one_header _ _ _ e f)
one_outcome net ok one text o p (OnHeader e) (OnRows read f rows run) = absurd (no_header _ _ _ e f)
one_outcome net ok one text o p (OnRows read f rows run) (OnHeader e) = absurd (no_header _ _ _ e f)
one_outcome net ok one text o p (OnRows read e rows run) (OnRows read_b f rows_b run_b) =
    let same = one_read _ read read_b e f in
    let run_too = subst (λ (r : Rows). IsZeroRun net r.entries rows) same run in
    ap (λ (r : Rows). ended (shown_rows net rows (length r.entries)) (length r.entries) r.ending) same
    ∙ ap (λ l. ended l (length read_b.entries) read_b.ending)
    (shown_same net ok one read_b.entries rows rows_b run_too run_b)
