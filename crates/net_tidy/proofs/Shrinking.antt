-- The marked gates of the folded ones are enough.
use Rattle.std.proofs.Common.{◌≡◌, ℕ, zero, suc, ◌<◌, ◌≤◌, Bool, false, List, [], ◌∷◌, length, map, Some, refl, sym, ap}
use Rattle.std.proofs.Common.{◌∙◌}
use Rattle.std.proofs.Common.{subst, arith}
use Rattle.std.specs.Prelude.{slice_get, slice_index_or, Contains}
use Rattle.std.proofs.lemmas.Option.{get_or_from_slice_get, slice_get_within, slice_get-get_or, slice_get-map}
use Rattle.std.proofs.lemmas.Option.{same_Some}
use Rattle.std.specs.Option.{option_map}
use Rattle.std.proofs.Common.{inl, inr}
use Rattle.net_eval.proofs.Agreeing.{some_at}
use Rattle.std.proofs.lemmas.List.{length-map}
use Rattle.net_core.specs.declared.gate.Wire.{Wire}
use Rattle.net_core.specs.declared.gate.Wire.TheVariants.{Const, Gate}
use Rattle.net_core.specs.declared.gate.Gate as gate
use Rattle.net_core.specs.declared.netlist.Output.{Output}
use Rattle.net_core.specs.Rows.{Row, IsRow, value}
use Rattle.net_core.specs.Circuits.{Circuit, circuit_of, IsCircuit, AllThere, FitsAfter, IsThere, wire_at}
use Rattle.net_eval.specs.Assignments.{Agree, row_with}
use Rattle.net_eval.proofs.Assigning.{one_assignment_each}
use Rattle.net_tidy.specs.inner.Made.{AllFit}
use Rattle.net_tidy.specs.inner.Images.{IsFolded, image, row_back}
use Rattle.net_tidy.specs.inner.Marks.{AllMarked, IsAmong, IsReached, IsClosedOver, IsCut, IsMarked, SweepsTo}
use Rattle.net_tidy.specs.Tidy.{IsRead}
use Rattle.net_tidy.specs.inner.Shrunk.{IsBack, IsShrunk, output_wires}
use Rattle.net_tidy.proofs.Folding.{images_there, value_back}
use Rattle.net_tidy.proofs.Renaming.{kept_built, kept_neat}
use Rattle.net_tidy.proofs.Sweeping.{marked_value}

-- gates that fit are a circuit without outputs
pub plain_circuit : (inputs : List (List ℕ)) (r : ℕ) (gates : List gate.Gate) (next : List Wire)
    → length inputs ≤ 64 → length gates < 4294967295 → length next < 4294967295 → length next ≡ r
    → AllFit (length inputs) r gates → AllThere (length inputs) r (length gates) next
    → IsCircuit (circuit_of inputs gates next [])
plain_circuit inputs r gates next few_inputs few_gates few_next long fit there = record {
  inputs_few = few_inputs;
  gates_few = few_gates;
  registers_few = few_next;
  outputs_few = omega arith;
  gates_fit = λ n g e. subst (λ k. FitsAfter (length inputs) k n g) (sym long) (fit.each n g e);
  data_there = subst (λ k. AllThere (length inputs) k (length gates) next) (sym long) there;
  outputs_right = record {
    there = λ n o e. absurd (cc);
    names_once = λ m n o p e f same. absurd (cc);
    gates_once = λ m n o p e f same. absurd (cc);
  };
}

-- the row of a circuit with the registers, the reset and the vector of the other row
some_row : (c : Circuit) → IsCircuit c → Row → Row
some_row c ok row =
    row_with row.registers row.reset row.vector ((one_assignment_each c ok).some row.registers row.reset row.vector).0

some_row_is : (c : Circuit) (ok : IsCircuit c) (row : Row) → IsRow c.gates (some_row c ok row)
unfolding some_row
some_row_is c ok row = ((one_assignment_each c ok).some row.registers row.reset row.vector).1

some_row_agrees : (c : Circuit) (ok : IsCircuit c) (r : ℕ) (places : List Wire) (row : Row)
    → Agree r 0 (some_row c ok row) (row_back places row)
unfolding some_row
some_row_agrees c ok r places row = record {
  registers = λ k h. refl;
  reset = refl;
  vector = refl;
  gates = λ k h. absurd (omega arith);
}

back_of : (c : Circuit) → IsCircuit c → List Wire → Row → Row
back_of c ok stands row = row_back stands (some_row c ok row)

map_at : (f : Wire → Wire) (ws : List Wire) (n : ℕ) → n < length ws → wire_at (map f ws) n ≡ f (wire_at ws n)
map_at f [] n h = absurd (omega arith)
map_at f (w ∷ ws) zero h = refl
map_at f (w ∷ ws) (suc n) h = map_at f ws n (omega arith)

pub outputs_at : (outputs : List Output) (n : ℕ) → n < length outputs
    → wire_at (output_wires outputs) n ≡ Gate (slice_index_or outputs n (record { name = []; gate = 0 })).gate
outputs_at [] n h = absurd (omega arith)
outputs_at (o ∷ outputs) zero h = refl
outputs_at (o ∷ outputs) (suc n) h = outputs_at outputs n (omega arith)

outputs_long : (outputs : List Output) → length (output_wires outputs) ≡ length outputs
outputs_long [] = refl
outputs_long (o ∷ outputs) = ap suc (outputs_long outputs)

outputs_there : (i r n : ℕ) (outputs : List Output)
    → ((k : ℕ) (o : Output) → slice_get outputs k ≡ Some o → o.gate < n) → AllThere i r n (output_wires outputs)
outputs_there i r n outputs h = record { each = one outputs h }
  where
    one : (outputs : List Output) → ((k : ℕ) (o : Output) → slice_get outputs k ≡ Some o → o.gate < n)
        → (k : ℕ) (w : Wire) → slice_get (output_wires outputs) k ≡ Some w → IsThere i r n w
    one [] h k w e = absurd (cc)
    one (o ∷ outputs) h zero w e = subst (IsThere i r n) (same_Some (Gate o.gate) w e) (h 0 o refl)
    one (o ∷ outputs) h (suc k) w e = one outputs (λ j x at. h (suc j) x at) k w e

-- what stands for a wire of the source, with its value
reaches : (source : Circuit) (gates kept : List gate.Gate) (stands places : List Wire) (marks : List Bool)
    (c : Circuit) (ok : IsCircuit c) (row : Row) (wires : List Wire) (n : ℕ) → c.gates ≡ gates
    → IsFolded source gates stands
    → SweepsTo (length source.inputs) (length source.registers) gates marks (length gates) kept places
    → IsClosedOver gates marks (length gates) → IsRow kept row
    → AllThere (length source.inputs) (length source.registers) (length source.gates) wires
    → AllMarked marks (map (image stands) wires) → n < length wires
    → value row (wire_at (map (image places) (map (image stands) wires)) n)
    ≡ value (back_of c ok stands row) (wire_at wires n)
unfolding back_of
reaches source gates kept stands places marks c ok row wires n e folded swept closed is there marked low =
    let i = length source.inputs in
    let r = length source.registers in
    let w = wire_at wires n in
    let p = some_row c ok row in
    let q = row_back places row in
    let low' : n < length (map (image stands) wires) = omega (arith, length-map wires (image stands), low) in
    let here : wire_at (map (image stands) wires) n ≡ image stands w = map_at (image stands) wires n low in
    let at : slice_get (map (image stands) wires) n ≡ Some (image stands w) =
    slice_get-get_or (map (image stands) wires) n (Const false) low' ∙ ap Some here in
    let images =
    images_there i r (length source.gates) (length gates) stands wires there
    (λ k h. folded.there k (omega (arith, h, folded.long))) in
    let p_is : IsRow gates p = subst (λ gs. IsRow gs p) e (some_row_is c ok row) in
    let same : value p (image stands w) ≡ value q (image stands w) =
    marked_value i r gates marks p q (image stands w) folded.fit closed p_is (swept.rows row is)
    (some_row_agrees c ok r places row) (images.each n (image stands w) at) (marked.each n (image stands w) at) in
    ap (value row) (map_at (image places) (map (image stands) wires) n low' ∙ ap (image places) here)
    ∙ (value_back places row (image stands w) ∙ (sym same ∙ value_back stands p w))

-- ---- what is kept is read

among_images : (places ws : List Wire) (n m : ℕ) → IsAmong ws (length ws) n → wire_at places n ≡ Gate m
    → Contains (map (image places) ws) (Gate m)
among_images places ws n m among place =
    let low = among.below in (
      among.at,
      omega (arith, low, length-map ws (image places)),
      get_or_from_slice_get (map (image places) ws) among.at (Gate m) (Gate m)
          (slice_get-map (image places) ws among.at ∙ (ap (option_map (image places)) among.is ∙ ap Some place)),
    )

kept_read : (i r : ℕ) (gates kept : List gate.Gate) (marks : List Bool) (places shown next : List Wire)
    → SweepsTo i r gates marks (length gates) kept places
    → ((n : ℕ) → n < length gates → IsMarked marks (Gate n) → IsReached gates marks shown next n) → (m : ℕ)
    → m < length kept → IsRead kept (map (image places) shown) (map (image places) next) m
kept_read i r gates kept marks places shown next s reached m low =
    let x = some_at kept m low in
    let from = s.origin m x.0 x.1 in
    let n = from.number in
    elim (reached n from.below from.marked) [
      | inl among ↦ inl (among_images places shown n m among from.place)
      | inr (inl among) ↦ inr (inl (among_images places next n m among from.place))
      | inr (inr pin) ↦
          let within = slice_get_within gates pin.reader pin.gate pin.at in
          let place = s.placed pin.reader within pin.marked in
          let there : IsThere i r (length kept) (Gate place.0) =
          subst (IsThere i r (length kept)) place.1 (s.there pin.reader within) in
          let y = some_at kept place.0 there in
          let from' = s.origin place.0 y.0 y.1 in
          let same = s.once from'.number pin.reader place.0 from'.below within from'.place place.1 in
          let source : from'.source ≡ pin.gate =
          same_Some from'.source pin.gate (sym from'.at ∙ (ap (slice_get gates) same ∙ pin.at)) in
          let pins : map (image places) pin.gate.pins ≡ y.0.pins =
          ap (λ (g : gate.Gate). map (image places) g.pins) (sym source) ∙ sym from'.pins in
          inr (inr (record {
            number = place.0;
            reader = y.0;
            at = y.1;
            pin = subst (λ ps. Contains ps (Gate m)) pins
                (among_images places pin.gate.pins n m pin.among from.place);
          }))
    ]

pub shrunk_whole : (source : Circuit) (gates kept : List gate.Gate) (stands places shown next : List Wire)
    (marks : List Bool) → IsCircuit source → IsFolded source gates stands
    → SweepsTo (length source.inputs) (length source.registers) gates marks (length gates) kept places
    → IsClosedOver gates marks (length gates)
    → shown ≡ map (image stands) (output_wires source.outputs) → next ≡ map (image stands) source.registers
    → AllMarked marks shown → AllMarked marks next
    → ((n : ℕ) → n < length gates → IsMarked marks (Gate n) → IsReached gates marks shown next n)
    → IsShrunk source kept (map (image places) shown) (map (image places) next)
unfolding back_of some_row
shrunk_whole source gates kept stands places shown next marks ok folded swept closed e f marked marked' reached =
    let i = length source.inputs in
    let r = length source.registers in
    let outs = output_wires source.outputs in
    let outs_there = outputs_there i r (length source.gates) source.outputs ok.outputs_right.there in
    let there : (k : ℕ) → k < length source.gates → IsThere i r (length gates) (wire_at stands k) =
    λ k h. folded.there k (omega (arith, h, folded.long)) in
    let shown_there = images_there i r (length source.gates) (length gates) stands outs outs_there there in
    let next_there =
    images_there i r (length source.gates) (length gates) stands source.registers ok.data_there there in
    let shown_marked = subst (AllMarked marks) e marked in
    let next_marked = subst (AllMarked marks) f marked' in
    let low = ok.gates_few in
    let low' = ok.registers_few in
    let regs_long = length-map source.registers (image stands) in
    let c_ok : IsCircuit (circuit_of source.inputs gates (map (image stands) source.registers) []) =
    plain_circuit source.inputs r gates (map (image stands) source.registers) ok.inputs_few
    (omega (arith, folded.few, low)) (omega (arith, regs_long, low')) regs_long folded.fit next_there in
    let c = circuit_of source.inputs gates (map (image stands) source.registers) [] in
    rw (e, f) (record {
      few = omega (arith, swept.few, folded.few);
      fit = swept.fit;
      shown_long =
          length-map (map (image stands) outs) (image places)
          ∙ (length-map outs (image stands) ∙ outputs_long source.outputs);
      next_long = length-map (map (image stands) source.registers) (image places) ∙ regs_long;
      shown_there =
          images_there i r (length gates) (length kept) places (map (image stands) outs) shown_there swept.there;
      next_there =
          images_there i r (length gates) (length kept) places (map (image stands) source.registers) next_there
          swept.there;
      back = back_of c c_ok stands;
      rows = λ row is. back_is c c_ok refl row is shown_marked next_marked outs_there;
      neat = kept_neat i r gates marks kept places folded.fit closed swept folded.neat;
      built = λ b. kept_built i r gates marks kept places (length gates) swept (folded.built b);
      read = kept_read i r gates kept marks places (map (image stands) outs) (map (image stands) source.registers)
          swept (subst (λ ws. (n : ℕ) → n < length gates → IsMarked marks (Gate n) → IsReached gates marks
          (map (image stands) outs) ws n) f
          (subst (λ ws. (n : ℕ) → n < length gates → IsMarked marks (Gate n) → IsReached gates marks ws next n) e
          reached));
    })
  where
    back_is : (c : Circuit) (c_ok : IsCircuit c) → c.gates ≡ gates → (row : Row) → IsRow kept row
        → AllMarked marks (map (image stands) (output_wires source.outputs))
        → AllMarked marks (map (image stands) source.registers)
        → AllThere (length source.inputs) (length source.registers) (length source.gates) (output_wires source.outputs)
        → IsBack source (map (image places) (map (image stands) (output_wires source.outputs)))
        (map (image places) (map (image stands) source.registers)) (back_of c c_ok stands row) row
    back_is c c_ok gs row is shown_marked next_marked outs_there = record {
      is = folded.rows (some_row c c_ok row) (subst (λ g. IsRow g (some_row c c_ok row)) gs (some_row_is c c_ok row));
      registers = refl;
      reset = refl;
      vector = refl;
      outputs = λ n h.
          reaches source gates kept stands places marks c c_ok row (output_wires source.outputs) n gs folded swept
          closed is outs_there shown_marked (omega (arith, h, outputs_long source.outputs))
          ∙ ap (value (back_of c c_ok stands row)) (outputs_at source.outputs n h);
      nexts = λ n h.
          reaches source gates kept stands places marks c c_ok row source.registers n gs folded swept closed is
          ok.data_there next_marked h;
    }

pub shrunk_by : (source : Circuit) (gates kept : List gate.Gate) (stands shown next shown' next' : List Wire)
    → IsCircuit source → IsFolded source gates stands → IsCut gates shown next kept shown' next'
    → shown ≡ map (image stands) (output_wires source.outputs) → next ≡ map (image stands) source.registers
    → IsShrunk source kept shown' next'
shrunk_by source gates kept stands shown next shown' next' ok folded cut e f =
    let i = length source.inputs in
    let r = length source.registers in
    rw (cut.shown_is, cut.next_is)
    (shrunk_whole source gates kept stands cut.places shown next cut.marks ok folded (cut.sweeps i r folded.fit)
    (cut.closed i r folded.fit) e f cut.shown_marked cut.next_marked cut.reached)

pub shrunk_circuit : (source : Circuit) (gates : List gate.Gate) (shown next : List Wire) → IsCircuit source
    → IsShrunk source gates shown next → IsCircuit (circuit_of source.inputs gates next [])
shrunk_circuit source gates shown next ok shrunk =
    let low = ok.gates_few in
    let low' = ok.registers_few in
    let few = shrunk.few in
    let long = shrunk.next_long in
    plain_circuit source.inputs (length source.registers) gates next ok.inputs_few (omega (arith, low, few))
    (omega (arith, low', long)) long shrunk.fit shrunk.next_there
