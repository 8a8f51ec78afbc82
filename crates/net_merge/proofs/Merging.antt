-- What the netlist does in which registers are read as first ones.
use Rattle.std.proofs.Common.{◌≡◌, ℕ, zero, suc, ◌<◌, false, not, List, [], ◌∷◌, length, map, Some}
use Rattle.std.proofs.Common.{refl, sym, ap, ◌∙◌, subst, arith}
use Rattle.std.specs.Prelude.{slice_get, slice_index_or}
use Rattle.std.proofs.lemmas.Option.{same_Some, slice_get_within, slice_get-get_or}
use Rattle.std.proofs.lemmas.List.{length-map}
use Rattle.pbs_base.specs.declared.entry.Entry.{Entry}
use Rattle.net_core.specs.declared.gate.Wire.{Wire}
use Rattle.net_core.specs.declared.gate.Wire.TheVariants.{Const, Reset, Input, Reg, Gate}
use Rattle.net_core.specs.declared.gate.GateKind.{GateKind}
use Rattle.net_core.specs.declared.gate.GateKind.TheVariants as kind
use Rattle.net_core.specs.declared.gate.Gate as gate
use Rattle.net_core.specs.Rows.{Row, IsRow, value, all_of, any_of, odd_of, output_of}
use Rattle.net_core.specs.Circuits.{AllThere, Circuit, FitsAfter, HasItsPins, IsBuilt, IsCircuit, IsPlain, IsThere, circuit_of}
use Rattle.net_core.specs.Circuits.{wire_at}
use Rattle.net_core.specs.Runs.{IsRun, next_of}
use Rattle.net_core.proofs.Invariant.{there_more}
use Rattle.net_tidy.specs.Follows.{ShowsSame}
use Rattle.net_merge.specs.Merges.{IsLater, Merges, ReadsFirsts}
use Rattle.net_merge.specs.inner.Firsts.{AllReadBelow, AreFirsts, GatesReadBelow, IsFirst, ReadsBelow, TakeBelow}
use Rattle.net_merge.specs.inner.Firsts.{gate_read_as, read_as}

-- ---- what the parts need

pub read_below : (i r n : ℕ) (w : Wire) → IsThere i r n w → ReadsBelow r w
read_below i r n (Const b) h = tt
read_below i r n Reset h = tt
read_below i r n (Input k) h = tt
read_below i r n (Reg k) h = h
read_below i r n (Gate k) h = tt

pub all_read_below : (i r n : ℕ) (ws : List Wire) → AllThere i r n ws → AllReadBelow r ws
all_read_below i r n ws h = record { each = λ k w at. read_below i r n w (h.each k w at) }

pub gates_read_below : (c : Circuit) → IsCircuit c → GatesReadBelow (length c.registers) c.gates
gates_read_below c ok = record {
  each = λ n g at.
      all_read_below (length c.inputs) (length c.registers) n g.pins (ok.gates_fit n g at).there;
}

pub data_read_below : (c : Circuit) → IsCircuit c → AllReadBelow (length c.registers) c.registers
data_read_below c ok = all_read_below (length c.inputs) (length c.registers) (length c.gates) c.registers ok.data_there

pub data_take_below : (c : Circuit) → IsCircuit c → TakeBelow (length c.gates) c.registers
data_take_below c ok = record { each = λ r n at. ok.data_there.each r (Gate n) at }

get_of_map : {X Y : Type 0} (f : X → Y) (xs : List X) (k : ℕ) (y : Y) → slice_get (map f xs) k ≡ Some y
    → (x : X) × (slice_get xs k ≡ Some x) × (f x ≡ y)
get_of_map f [] k y h = absurd (cc)
get_of_map f (x ∷ xs) zero y h = (x, refl, same_Some (f x) y h)
get_of_map f (x ∷ xs) (suc k) y h = get_of_map f xs k y h

get_map : {X Y : Type 0} (f : X → Y) (xs : List X) (k : ℕ) (x : X) → slice_get xs k ≡ Some x
    → slice_get (map f xs) k ≡ Some (f x)
get_map f [] k x h = absurd (cc)
get_map f (y ∷ xs) zero x h = ap (λ z. Some (f z)) (same_Some y x h)
get_map f (y ∷ xs) (suc k) x h = get_map f xs k x h

index_is : (xs : List ℕ) (k : ℕ) → k < length xs → slice_get xs k ≡ Some (slice_index_or xs k 0)
index_is [] k h = absurd (omega arith)
index_is (x ∷ xs) zero h = refl
index_is (x ∷ xs) (suc k) h = index_is xs k (omega arith)

get_is_wire_at : (ws : List Wire) (k : ℕ) (w : Wire) → slice_get ws k ≡ Some w → wire_at ws k ≡ w
get_is_wire_at [] k w h = absurd (cc)
get_is_wire_at (v ∷ ws) zero w h = same_Some v w h
get_is_wire_at (v ∷ ws) (suc k) w h = get_is_wire_at ws k w h

same_wire_at : (ws : List Wire) (j k : ℕ) → slice_get ws j ≡ slice_get ws k → k < length ws → wire_at ws j ≡ wire_at ws k
same_wire_at ws j k e h =
    get_is_wire_at ws j (wire_at ws k) (e ∙ slice_get-get_or ws k (Const false) h)

-- the wire that is read in place of a wire is a register exactly where that one is
read_as_register : (firsts : List ℕ) (w : Wire) (q : ℕ) → read_as firsts w ≡ Reg q
    → (r : ℕ) × (w ≡ Reg r) × (slice_index_or firsts r 0 ≡ q)
read_as_register firsts (Const b) q e = absurd (cc)
read_as_register firsts Reset q e = absurd (cc)
read_as_register firsts (Input n) q e = absurd (cc)
read_as_register firsts (Reg r) q e = (r, refl, cc)
read_as_register firsts (Gate n) q e = absurd (cc)

read_as_gate : (firsts : List ℕ) (w : Wire) (n : ℕ) → read_as firsts w ≡ Gate n → w ≡ Gate n
read_as_gate firsts (Const b) n e = absurd (cc)
read_as_gate firsts Reset n e = absurd (cc)
read_as_gate firsts (Input k) n e = absurd (cc)
read_as_gate firsts (Reg r) n e = absurd (cc)
read_as_gate firsts (Gate k) n e = e

-- ---- rows

-- the row of the source: a register has the value of the first one
abbrev pub source_row : List ℕ → Row → Row
source_row firsts row = record {
  registers = λ r. row.registers (slice_index_or firsts r 0);
  reset = row.reset;
  vector = row.vector;
  gates = row.gates;
}

value_is : (firsts : List ℕ) (row : Row) (w : Wire) → value row (read_as firsts w) ≡ value (source_row firsts row) w
value_is firsts row (Const b) = refl
value_is firsts row Reset = refl
value_is firsts row (Input n) = refl
value_is firsts row (Reg r) = refl
value_is firsts row (Gate n) = refl

module _ (firsts : List ℕ) (row : Row) where
  all_is : (ws : List Wire) → all_of row (map (read_as firsts) ws) ≡ all_of (source_row firsts row) ws
  all_is [] = refl
  all_is (w ∷ ws) = rw (value_is firsts row w, all_is ws) refl

  any_is : (ws : List Wire) → any_of row (map (read_as firsts) ws) ≡ any_of (source_row firsts row) ws
  any_is [] = refl
  any_is (w ∷ ws) = rw (value_is firsts row w, any_is ws) refl

  odd_is : (ws : List Wire) → odd_of row (map (read_as firsts) ws) ≡ odd_of (source_row firsts row) ws
  odd_is [] = refl
  odd_is (w ∷ ws) = rw (value_is firsts row w, odd_is ws) refl

  output_is : (k : GateKind) (ws : List Wire)
      → output_of row k (map (read_as firsts) ws) ≡ output_of (source_row firsts row) k ws
  output_is kind.Buf ws = all_is ws
  output_is kind.Not ws = ap not (all_is ws)
  output_is kind.And ws = all_is ws
  output_is kind.Or ws = any_is ws
  output_is kind.Nand ws = ap not (all_is ws)
  output_is kind.Nor ws = ap not (any_is ws)
  output_is kind.Xor ws = odd_is ws
  output_is kind.Xnor ws = ap not (odd_is ws)

source_is_row : (firsts : List ℕ) (gates : List gate.Gate) (row : Row) → IsRow (map (gate_read_as firsts) gates) row
    → IsRow gates (source_row firsts row)
source_is_row firsts gates row is = record {
  each = λ n g at.
      is.each n (gate_read_as firsts g) (get_map (gate_read_as firsts) gates n g at)
      ∙ output_is firsts row g.kind g.pins;
}

wire_at_map : (firsts : List ℕ) (ws : List Wire) (r : ℕ)
    → wire_at (map (read_as firsts) ws) r ≡ read_as firsts (wire_at ws r)
wire_at_map firsts [] r = refl
wire_at_map firsts (w ∷ ws) zero = refl
wire_at_map firsts (w ∷ ws) (suc r) = wire_at_map firsts ws r

-- ---- the whole

abbrev pub read_firsts : List ℕ → Circuit → Circuit
read_firsts firsts c =
    circuit_of c.inputs (map (gate_read_as firsts) c.gates) (map (read_as firsts) c.registers) c.outputs

module _ (c : Circuit) (ok : IsCircuit c) (firsts : List ℕ) (are : AreFirsts c.registers firsts) where
  first_of : (r : ℕ) → r < length c.registers → IsFirst c.registers r (slice_index_or firsts r 0)
  first_of r h =
      let long = are.long in
      are.each r (slice_index_or firsts r 0) (index_is firsts r (omega (arith, long, h)))

  there : (n : ℕ) (w : Wire) → IsThere (length c.inputs) (length c.registers) n w
      → IsThere (length c.inputs) (length c.registers) n (read_as firsts w)
  there n (Const b) h = tt
  there n Reset h = tt
  there n (Input k) h = h
  there n (Reg r) h = let before = (first_of r h).before in omega (arith, before, h)
  there n (Gate k) h = h

  all_there : (n : ℕ) (ws : List Wire) → AllThere (length c.inputs) (length c.registers) n ws
      → AllThere (length c.inputs) (length c.registers) n (map (read_as firsts) ws)
  all_there n ws h = record {
    each = λ k w at.
        let from = get_of_map (read_as firsts) ws k w at in
        subst (IsThere (length c.inputs) (length c.registers) n) from.2 (there n from.0 (h.each k from.0 from.1));
  }

  gate_fits : (n : ℕ) (g : gate.Gate) → FitsAfter (length c.inputs) (length c.registers) n g
      → FitsAfter (length c.inputs) (length c.registers) n (gate_read_as firsts g)
  gate_fits n g fits = record {
    there = all_there n g.pins fits.there;
    count = subst (HasItsPins g.kind) (sym (length-map g.pins (read_as firsts))) fits.count;
  }

  abbrev made : Circuit
  made = read_firsts firsts c

  gate_count : length made.gates ≡ length c.gates
  gate_count = length-map c.gates (gate_read_as firsts)

  register_count : length made.registers ≡ length c.registers
  register_count = length-map c.registers (read_as firsts)

  pub made_circuit : IsCircuit made
  made_circuit = record {
    inputs_few = ok.inputs_few;
    gates_few = subst (λ n. n < 4294967295) (sym gate_count) ok.gates_few;
    registers_few = subst (λ n. n < 4294967295) (sym register_count) ok.registers_few;
    outputs_few = ok.outputs_few;
    gates_fit = λ n g at.
        let from = get_of_map (gate_read_as firsts) c.gates n g at in
        subst (λ r. FitsAfter (length c.inputs) r n g) (sym register_count)
        (subst (FitsAfter (length c.inputs) (length c.registers) n) from.2
        (gate_fits n from.0 (ok.gates_fit n from.0 from.1)));
    data_there = rw (register_count, gate_count) (all_there (length c.gates) c.registers ok.data_there);
    outputs_right = rw gate_count ok.outputs_right;
  }

  made_built : IsBuilt c.gates → IsBuilt made.gates
  made_built built = record {
    each = λ n g at.
        let from = get_of_map (gate_read_as firsts) c.gates n g at in
        let plain = built.each n from.0 from.1 in
        let few = plain.pins in
        subst (λ (x : gate.Gate). IsPlain x) from.2 (record {
          kind = plain.kind;
          pins = omega (arith, few, length-map from.0.pins (read_as firsts));
        });
  }

  next_is : (row : Row) (r : ℕ) → next_of made row r ≡ next_of c (source_row firsts row) r
  next_is row r = ap (value row) (wire_at_map firsts c.registers r) ∙ value_is firsts row (wire_at c.registers r)

  first_next : (row : Row) (r : ℕ) → r < length c.registers
      → next_of made row (slice_index_or firsts r 0) ≡ next_of c (source_row firsts row) r
  first_next row r h =
      next_is row (slice_index_or firsts r 0)
      ∙ ap (value (source_row firsts row))
      (same_wire_at c.registers (slice_index_or firsts r 0) r (first_of r h).same h)

  source_run : (v : List Entry) (rows : ℕ → Row) → IsRun made v rows → IsRun c v (λ k. source_row firsts (rows k))
  source_run v rows run = record {
    each = λ k h. source_is_row firsts c.gates (rows k) (run.each k h);
    first = run.first;
    entries = λ k e at. run.entries k e at;
    registers = λ k h r low.
        let before = (first_of r low).before in
        run.registers k h (slice_index_or firsts r 0) (omega (arith, before, low, register_count))
        ∙ first_next (rows k) r low;
  }

  shows : (row : Row) → ShowsSame c made (source_row firsts row) row
  shows row = record {
    outputs = λ n h. refl;
    next = λ r h. next_is row r;
  }

  -- a register that is read is the first that takes its gate
  is_first : (w : Wire) → IsThere (length c.inputs) (length c.registers) (length c.gates) w
      → IsLater made.registers (read_as firsts w) → ⊥
  is_first w here later =
      let from = read_as_register firsts w later.register later.is in
      let takes = get_of_map (read_as firsts) c.registers later.register (Gate later.gate) later.takes in
      let took = get_of_map (read_as firsts) c.registers later.earlier (Gate later.gate) later.took in
      let low : from.0 < length c.registers =
      subst (IsThere (length c.inputs) (length c.registers) (length c.gates)) from.1 here in
      let first = first_of from.0 low in
      let gate_here = takes.1 ∙ ap Some (read_as_gate firsts takes.0 later.gate takes.2) in
      let gate_there = took.1 ∙ ap Some (read_as_gate firsts took.0 later.gate took.2) in
      let same : slice_get c.registers from.0 ≡ Some (Gate later.gate) =
      sym first.same ∙ (ap (slice_get c.registers) from.2 ∙ gate_here) in
      let least = first.least later.earlier later.gate same gate_there in
      let before = later.before in
      omega (arith, least, before, from.2)

  reads_firsts : ReadsFirsts made
  reads_firsts = record {
    pins = λ n g at k w pin later.
        let from = get_of_map (gate_read_as firsts) c.gates n g at in
        let mapped = subst (λ (x : gate.Gate). slice_get x.pins k ≡ Some w) (sym from.2) pin in
        let old = get_of_map (read_as firsts) from.0.pins k w mapped in
        let low = slice_get_within c.gates n from.0 from.1 in
        let here = (ok.gates_fit n from.0 from.1).there.each k old.0 old.1 in
        is_first old.0
        (there_more (length c.inputs) (length c.registers) (length c.registers) n (length c.gates) old.0 (omega arith)
        (omega (arith, low)) here)
        (subst (IsLater made.registers) (sym old.2) later);
    data_wires = λ r w at later.
        let old = get_of_map (read_as firsts) c.registers r w at in
        is_first old.0 (ok.data_there.each r old.0 old.1) (subst (IsLater made.registers) (sym old.2) later);
  }

  pub made_merges : Merges c made
  made_merges = record {
    circuit = made_circuit;
    inputs = refl;
    outputs = refl;
    gates = gate_count;
    registers = register_count;
    built = made_built;
    runs = λ v rows run. (λ k. source_row firsts (rows k), source_run v rows run, λ k h. shows (rows k));
    firsts = reads_firsts;
  }
