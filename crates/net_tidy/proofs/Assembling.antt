-- One output more.
use Rattle.std.proofs.Common.{◌≡◌, ◌<◌, ◌+◌, ℕ, List, [], ◌∷◌, ◌++◌, length}
use Rattle.std.proofs.Common.{take, map, Some, sym, ap, subst, ◌∙◌, arith, get_or, length-append}
use Rattle.std.proofs.Common.{length-take, below_more, inl, inr, append_assoc, append-nil}
use Rattle.std.specs.Prelude.{slice_get}
use Rattle.std.proofs.Math.Seq.{get_or-append_seam}
use Rattle.std.proofs.lemmas.List.{map-append, take_more, get_or_append_left, get_or-take}
use Rattle.std.proofs.lemmas.Option.{slice_get_within, get_or_from_slice_get, slice_get-get_or, slice_get-map}
use Rattle.std.specs.Option.{option_map}
use Rattle.net_core.specs.declared.gate.Wire.{Wire}
use Rattle.net_core.specs.declared.netlist.Output.{Output}
use Rattle.net_core.specs.Rows.{Row, IsRow, value}
use Rattle.net_core.specs.Circuits.{Circuit, IsCircuit, IsNewName, output_gate, output_names, wire_at}
use Rattle.net_core.specs.Building.{AddsOutput, buffer_of, with_output}
use Rattle.net_tidy.specs.inner.Assembled.{OutputsLast, Shows}
use Rattle.net_core.proofs.Pushed.{get_pushed}

abbrev name_of : Output → List ℕ
name_of o = o.name

-- an output with the name of a later one
pub new_name : (source : Circuit) (outputs : List Output) (a : ℕ) (o : Output) (name : List ℕ) → IsCircuit source
    → map name_of outputs ≡ take a (output_names source) → slice_get source.outputs a ≡ Some o → name ≡ o.name
    → IsNewName outputs name
new_name source outputs a o name ok so_far at is = record {
  absent = λ n p there same.
      let names = output_names source in
      let named : slice_get (take a names) n ≡ Some p.name =
      ap (λ (l : List (List ℕ)). slice_get l n) (sym so_far)
      ∙ (slice_get-map name_of outputs n ∙ ap (option_map name_of) there) in
      let below : n < a =
      (let less = slice_get_within (take a names) n p.name named in omega (arith, length-take a names)) in
      let low = slice_get_within source.outputs a o at in
      let within : n < length source.outputs = omega (arith, low) in
      let q = get_or source.outputs n o in
      let q_at : slice_get source.outputs n ≡ Some q = slice_get-get_or source.outputs n o within in
      let named' : slice_get names n ≡ Some q.name =
      slice_get-map name_of source.outputs n ∙ ap (option_map name_of) q_at in
      let q_name : q.name ≡ name =
      sym (get_or_from_slice_get names n q.name name named')
      ∙ (sym (get_or-take a names n name below)
      ∙ (get_or_from_slice_get (take a names) n p.name name named ∙ same)) in
      let again : n ≡ a = ok.outputs_right.names_once n a q o q_at at (q_name ∙ is) in
      omega arith;
}

pub names_more : (old new source : Circuit) (a : ℕ) (o : Output) (name : List ℕ) (w : Wire)
    → AddsOutput old new name w → output_names old ≡ take a (output_names source) → slice_get source.outputs a ≡ Some o
    → name ≡ o.name → output_names new ≡ take (a + 1) (output_names source)
names_more old new source a o name w adds so_far at is =
    let names = output_names source in
    let named : slice_get names a ≡ Some name =
    slice_get-map name_of source.outputs a ∙ (ap (option_map name_of) at ∙ ap Some (sym is)) in
    ap (map name_of) adds.outputs
    ∙ (map-append name_of old.outputs ((record { name = name; gate = length old.gates }) ∷ [])
    ∙ (ap (λ l. l ++ name ∷ []) so_far
    ∙ (ap (λ x. take a names ++ x ∷ []) (sym (get_or_from_slice_get names a name name named))
    ∙ sym (take_more names a name (slice_get_within names a name named)))))

abbrev nothing : Output
nothing = record { name = []; gate = 0 }

gate_in_front : (old new : Circuit) (o : Output) (i : ℕ) → new.outputs ≡ old.outputs ++ o ∷ [] → i < length old.outputs
    → output_gate new i ≡ output_gate old i
gate_in_front old new o i added less =
    ap (λ (l : List Output). (get_or l i nothing).gate) added
    ∙ ap (λ (x : Output). x.gate) (get_or_append_left old.outputs (o ∷ []) nothing i less)

gate_at_end : (old new : Circuit) (o : Output) (a : ℕ) → new.outputs ≡ old.outputs ++ o ∷ [] → length old.outputs ≡ a
    → output_gate new a ≡ o.gate
gate_at_end old new o a added count =
    ap (λ n. output_gate new n) (sym count)
    ∙ (ap (λ (l : List Output). (get_or l (length old.outputs) nothing).gate) added
    ∙ ap (λ (x : Output). x.gate) (get_or-append_seam old.outputs o [] nothing))

pub shows_more : (old new : Circuit) (ws : List Wire) (a : ℕ) (name : List ℕ) (w : Wire) → AddsOutput old new name w
    → Shows old ws a → wire_at ws a ≡ w → Shows new ws (a + 1)
shows_more old new ws a name w adds shows at =
    let o : Output = record { name = name; gate = length old.gates } in
    record {
      count = omega (arith, ap length adds.outputs, length-append old.outputs (o ∷ []), shows.count);
      shown = below_more
          (λ i. (row : Row) → IsRow new.gates row → row.gates (output_gate new i) ≡ value row (wire_at ws i)) a
          (λ i less row is.
          ap row.gates (gate_in_front old new o i adds.outputs (omega (arith, shows.count)))
          ∙ shows.shown i less row (adds.keeps.rows row is))
          (λ row is.
          ap row.gates (gate_at_end old new o a adds.outputs shows.count)
          ∙ (adds.shows row is ∙ ap (value row) (sym at)));
    }

pub last_none : (c : Circuit) (wires : List Wire) → c.outputs ≡ [] → OutputsLast c c wires 0
last_none c wires none = record {
  gates = sym (append-nil c.gates);
  driven = λ k o at.
      let within = slice_get_within c.outputs k o at in absurd (omega (arith, within, ap length none));
}

pub last_more : (first old new : Circuit) (wires : List Wire) (a : ℕ) (name : List ℕ) (w : Wire)
    → new ≡ with_output old name w → OutputsLast first old wires a → length old.gates ≡ length first.gates + a
    → length old.outputs ≡ a → slice_get wires a ≡ Some w → OutputsLast first new wires (a + 1)
last_more first old new wires a name w e before long count at =
    let o : Output = record { name = name; gate = length old.gates } in
    let more : take (a + 1) wires ≡ take a wires ++ w ∷ [] =
    take_more wires a w (slice_get_within wires a w at)
    ∙ ap (λ x. take a wires ++ x ∷ []) (get_or_from_slice_get wires a w w at) in
    let gates : old.gates ++ buffer_of w ∷ [] ≡ first.gates ++ map buffer_of (take (a + 1) wires) =
    ap (λ gs. gs ++ buffer_of w ∷ []) before.gates
    ∙ (append_assoc first.gates (map buffer_of (take a wires)) (buffer_of w ∷ [])
    ∙ ap (λ l. first.gates ++ l) (sym (ap (map buffer_of) more ∙ map-append buffer_of (take a wires) (w ∷ [])))) in
    subst (λ (c : Circuit). OutputsLast first c wires (a + 1)) (sym e) (record {
      gates = gates;
      driven = λ k p there. elim (get_pushed old.outputs o k p there) [
        | inl was ↦ before.driven k p was
        | inr (end, same) ↦ omega (arith, long, count, end, ap (λ (x : Output). x.gate) same)
      ];
    })
