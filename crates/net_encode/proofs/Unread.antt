-- Gates that drive outputs are left unread.
use Rattle.std.proofs.Common.{◌≡◌, false, ℕ, zero, suc, ◌<◌, ◌≤◌, ◌⊎◌, inl, inr, Some, refl, sym, ap, subst, arith}
use Rattle.std.proofs.Common.{List, [], ◌∷◌, ◌++◌, length, length-append, map, drop, get_or, Result, Ok, Err, OnOk}
use Rattle.std.proofs.Common.{IfOk}
use Rattle.std.specs.Prelude.{slice_get}
use Rattle.std.proofs.lemmas.Option.{same_Some}
use Rattle.pbs_base.specs.declared.fail.Memory.{Memory}
use Rattle.net_core.specs.declared.gate.Wire.{Wire}
use Rattle.net_core.specs.declared.gate.Wire.TheVariants as wire
use Rattle.net_core.specs.declared.gate.Gate as gate
use Rattle.net_core.specs.declared.netlist.Output.{Output}
use Rattle.net_core.specs.Circuits.{Circuit, IsCircuit, IsThere, AllThere}
use Rattle.net_core.specs.Building.{HasAll, with_gate}
use Rattle.net_core.specs.Unread.{AreUnread, ReadsNone}
use Rattle.net_core.proofs.Pushed.{get_pushed, length_pushed}
use Rattle.net_encode.specs.inner.Moves.{gate_moved, moved, output_moved, with_gates}
use Rattle.net_encode.specs.inner.Unread.{AllReadNone, LeavesUnread, PinsReadNone}
use Rattle.net_encode.proofs.Copying.{get_of_map}
use Rattle.net_encode.proofs.Decoding.{get_it}

-- ---- lists of wires

pub none_of : (outputs : List Output) → AllReadNone outputs []
none_of outputs = record { each = λ n w at. absurd (cc) }

pub none_with : (outputs : List Output) (w : Wire) (ws : List Wire) → ReadsNone outputs w → AllReadNone outputs ws
    → AllReadNone outputs (w ∷ ws)
none_with outputs w ws first rest = record { each = λ n v at. by_place n v at }
  where
    by_place : (n : ℕ) (v : Wire) → slice_get (w ∷ ws) n ≡ Some v → ReadsNone outputs v
    by_place zero v at = subst (ReadsNone outputs) (same_Some w v at) first
    by_place (suc n) v at = rest.each n v at

pub none_rest : (outputs : List Output) (w : Wire) (ws : List Wire) → AllReadNone outputs (w ∷ ws)
    → AllReadNone outputs ws
none_rest outputs w ws all = record { each = λ n v at. all.each (suc n) v at }

pub none_both : (outputs : List Output) (xs ys : List Wire) → AllReadNone outputs xs → AllReadNone outputs ys
    → AllReadNone outputs (xs ++ ys)
none_both outputs [] ys first next = next
none_both outputs (x ∷ xs) ys first next =
    none_with outputs x (xs ++ ys) (first.each zero x refl)
    (none_both outputs xs ys (none_rest outputs x xs first) next)

pub none_front : (outputs : List Output) (xs ys : List Wire) → AllReadNone outputs (xs ++ ys)
    → AllReadNone outputs xs
none_front outputs [] ys all = none_of outputs
none_front outputs (x ∷ xs) ys all =
    none_with outputs x xs (all.each zero x refl) (none_front outputs xs ys (none_rest outputs x (xs ++ ys) all))

pub none_back : (outputs : List Output) (xs ys : List Wire) → AllReadNone outputs (xs ++ ys) → AllReadNone outputs ys
none_back outputs [] ys all = all
none_back outputs (x ∷ xs) ys all = none_back outputs xs ys (none_rest outputs x (xs ++ ys) all)

pub none_past : (outputs : List Output) (n : ℕ) (ws : List Wire) → AllReadNone outputs ws
    → AllReadNone outputs (drop n ws)
none_past outputs zero ws all = all
none_past outputs (suc n) [] all = all
none_past outputs (suc n) (w ∷ ws) all = none_past outputs n ws (none_rest outputs w ws all)

pub none_at : (outputs : List Output) (ws : List Wire) (n : ℕ) (d : Wire) → n < length ws → AllReadNone outputs ws
    → ReadsNone outputs (get_or ws n d)
none_at outputs ws n d low all = all.each n (get_or ws n d) (get_it ws n d low)

-- ---- wires that name no output's gate

abbrev gate_number : Wire → ℕ
gate_number (wire.Const b) = 0
gate_number wire.Reset = 0
gate_number (wire.Input n) = 0
gate_number (wire.Reg n) = 0
gate_number (wire.Gate n) = n

gate_below : (i r n : ℕ) (w : Wire) (g : ℕ) → IsThere i r n w → w ≡ wire.Gate g → g < n
gate_below i r n w g there is = subst (IsThere i r n) is there

low_reads_none : (outputs : List Output) (i r n : ℕ) (w : Wire) → IsThere i r n w
    → ((k : ℕ) (o : Output) → slice_get outputs k ≡ Some o → n ≤ o.gate) → ReadsNone outputs w
low_reads_none outputs i r n w there late = record {
  each = λ k o at is.
      let low = gate_below i r n w o.gate there is in
      let high = late k o at in
      omega (arith, low, high);
}

next_reads_none : (outputs : List Output) (c : Circuit) → PinsReadNone outputs c
    → ReadsNone outputs (wire.Gate (length c.gates))
next_reads_none outputs c none = record {
  each = λ k o at is.
      let low = none.there k o at in
      let same = ap gate_number is in
      omega (arith, low, same);
}

-- ---- steps

pins_with_gate : (outputs : List Output) (c : Circuit) (g : gate.Gate) → PinsReadNone outputs c
    → AllReadNone outputs g.pins → PinsReadNone outputs (with_gate c g)
pins_with_gate outputs c g none own = record {
  there = λ n o at.
      let low = none.there n o at in
      let long = length_pushed c.gates g in
      omega (arith, low, long);
  pins = λ n h at. elim (get_pushed c.gates g n h at) [
    | inl before ↦ none.pins n h before
    | inr (e, is) ↦ subst (λ (x : gate.Gate). AllReadNone outputs x.pins) (sym is) own
  ];
}

pub leaves_if_ok : (r : Result Wire Memory) (old new : Circuit) (g : gate.Gate) (given : List Wire)
    → OnOk r (new ≡ with_gate old g) → IfOk r (λ w. w ≡ wire.Gate (length old.gates)) → g.pins ≡ given
    → IfOk r (λ w. LeavesUnread old new given (w ∷ []))
leaves_if_ok (Ok w) old new g given e at same = record {
  pins = λ outputs none all.
      subst (PinsReadNone outputs) (sym e)
      (pins_with_gate outputs old g none (subst (AllReadNone outputs) (sym same) all));
  wires = λ outputs none all.
      none_with outputs w [] (subst (ReadsNone outputs) (sym at) (next_reads_none outputs old none))
      (none_of outputs);
}
leaves_if_ok (Err x) old new g given e at same = tt

-- no gate is added, and the wires are among the given ones
pub leaves_own : (c : Circuit) (given wires : List Wire)
    → ((outputs : List Output) → AllReadNone outputs given → AllReadNone outputs wires)
    → LeavesUnread c c given wires
leaves_own c given wires all = record {
  pins = λ outputs none own. none;
  wires = λ outputs none own. all outputs own;
}

-- gates are added to those that were added first, for which wires of both are given
pub leaves_on : (a b c : Circuit) (given ws between vs wires : List Wire) → LeavesUnread a b given ws
    → LeavesUnread b c between vs
    → ((outputs : List Output) → AllReadNone outputs given → AllReadNone outputs ws → AllReadNone outputs between)
    → ((outputs : List Output) → AllReadNone outputs given → AllReadNone outputs ws → AllReadNone outputs vs
    → AllReadNone outputs wires)
    → LeavesUnread a c given wires
leaves_on a b c given ws between vs wires first next into out = record {
  pins = λ outputs none all.
      next.pins outputs (first.pins outputs none all) (into outputs all (first.wires outputs none all));
  wires = λ outputs none all.
      let front = first.wires outputs none all in
      out outputs all front (next.wires outputs (first.pins outputs none all) (into outputs all front));
}

-- one wire more
pub leaves_more : (a b c : Circuit) (given ws between : List Wire) (w : Wire) (new : List Wire)
    → LeavesUnread a b given ws → LeavesUnread b c between (w ∷ [])
    → ((outputs : List Output) → AllReadNone outputs given → AllReadNone outputs between) → new ≡ ws ++ w ∷ []
    → LeavesUnread a c given new
leaves_more a b c given ws between w new first next into is =
    subst (LeavesUnread a c given) (sym is)
    (leaves_on a b c given ws between (w ∷ []) (ws ++ w ∷ []) first next (λ outputs all front. into outputs all)
    (λ outputs all front last. none_both outputs ws (w ∷ []) front last))

-- ---- copies

moved_reads_none : (d : Circuit) (table : List Wire) (outputs : List Output) (i n : ℕ) (w : Wire) → HasAll d table
    → IsThere i (length table) n w → ReadsNone outputs w
    → ReadsNone (map (output_moved (length d.gates)) outputs) (moved table (length d.gates) w)
moved_reads_none d table outputs i n w all there none =
    record { each = λ k o at is. by_wire w k o at there none is }
  where
    by_wire : (w : Wire) (k : ℕ) (o : Output) → slice_get (map (output_moved (length d.gates)) outputs) k ≡ Some o
        → IsThere i (length table) n w → ReadsNone outputs w → moved table (length d.gates) w ≡ wire.Gate o.gate → ⊥
    by_wire (wire.Const b) k o at there none is = absurd (cc)
    by_wire wire.Reset k o at there none is = absurd (cc)
    by_wire (wire.Input m) k o at there none is = absurd (cc)
    by_wire (wire.Reg r) k o at there none is =
        let from = get_of_map (output_moved (length d.gates)) outputs k o at in
        let low = gate_below (length d.inputs) (length d.registers) (length d.gates) (get_or table r (wire.Const false))
        o.gate (all.each r there) is in
        let place = ap (λ (x : Output). x.gate) from.2 in
        omega (arith, low, place)
    by_wire (wire.Gate g) k o at there none is =
        let from = get_of_map (output_moved (length d.gates)) outputs k o at in
        let same = ap gate_number is in
        let place = ap (λ (x : Output). x.gate) from.2 in
        let e : g ≡ from.0.gate = omega (arith, same, place) in
        none.each k from.0 from.1 (ap wire.Gate e)

all_moved_read_none : (d : Circuit) (table : List Wire) (outputs : List Output) (i n : ℕ) (ws : List Wire)
    → HasAll d table → AllThere i (length table) n ws → AllReadNone outputs ws
    → AllReadNone (map (output_moved (length d.gates)) outputs) (map (moved table (length d.gates)) ws)
all_moved_read_none d table outputs i n ws all there none = record {
  each = λ k w at.
      let from = get_of_map (moved table (length d.gates)) ws k w at in
      subst (ReadsNone (map (output_moved (length d.gates)) outputs)) from.2
      (moved_reads_none d table outputs i n from.0 all (there.each k from.0 from.1) (none.each k from.0 from.1));
}

get_either : {X : Type 0} (xs ys : List X) (n : ℕ) (x : X) → slice_get (xs ++ ys) n ≡ Some x
    → ((n < length xs) × (slice_get xs n ≡ Some x)) ⊎ ((m : ℕ) × (slice_get ys m ≡ Some x))
get_either [] ys n x at = inr (n, at)
get_either (y ∷ xs) ys zero x at = inl (omega arith, at)
get_either (y ∷ xs) ys (suc n) x at = elim (get_either xs ys n x at) [
  | inl (low, front) ↦ inl (omega (arith, low), front)
  | inr back ↦ inr back
]

length_moved : {X Y : Type 0} (f : X → Y) (xs : List X) → length (map f xs) ≡ length xs
length_moved f [] = refl
length_moved f (x ∷ xs) = ap suc (length_moved f xs)

pub copies_read_none : (old d : Circuit) (table : List Wire) → IsCircuit old → IsCircuit d → HasAll d table
    → length table ≡ length old.registers → AreUnread old
    → PinsReadNone (map (output_moved (length d.gates)) old.outputs)
    (with_gates d (map (gate_moved table (length d.gates)) old.gates))
copies_read_none old d table right first all many free =
    let offset = length d.gates in
    let outputs = map (output_moved offset) old.outputs in
    let copies = map (gate_moved table offset) old.gates in
    record {
      there = λ n o at.
          let from = get_of_map (output_moved offset) old.outputs n o at in
          let low = right.outputs_right.there n from.0 from.1 in
          let place = ap (λ (x : Output). x.gate) from.2 in
          let count = length_moved (gate_moved table offset) old.gates in
          omega (arith, low, place, length-append d.gates copies, count);
      pins = λ n g at. elim (get_either d.gates copies n g at) [
        | inl (low, front) ↦ record {
          each = λ k w pin.
              low_reads_none outputs (length d.inputs) (length d.registers) n w
              ((first.gates_fit n g front).there.each k w pin)
              (λ j o there.
              let from = get_of_map (output_moved offset) old.outputs j o there in
              let place = ap (λ (x : Output). x.gate) from.2 in
              omega (arith, low, place));
        }
        | inr (m, back) ↦
            let from = get_of_map (gate_moved table offset) old.gates m g back in
            let there = subst (λ r. AllThere (length old.inputs) r m from.0.pins) (sym many)
            (right.gates_fit m from.0 from.1).there in
            subst (λ (x : gate.Gate). AllReadNone outputs x.pins) from.2
            (all_moved_read_none d table old.outputs (length old.inputs) m from.0.pins all there
            (record { each = λ k w pin. free.pins m from.0 from.1 k w pin }))
      ];
    }

pub moved_data_reads_none : (old d : Circuit) (table : List Wire) → IsCircuit old → HasAll d table
    → length table ≡ length old.registers → AreUnread old
    → AllReadNone (map (output_moved (length d.gates)) old.outputs) (map (moved table (length d.gates)) old.registers)
moved_data_reads_none old d table right all many free =
    all_moved_read_none d table old.outputs (length old.inputs) (length old.gates) old.registers all
    (subst (λ r. AllThere (length old.inputs) r (length old.gates) old.registers) (sym many) right.data_there)
    (record { each = λ r w at. free.data_wires r w at })
