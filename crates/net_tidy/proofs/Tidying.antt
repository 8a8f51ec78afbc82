-- The whole has no gate too many.
use Rattle.std.proofs.Common.{◌≡◌, ℕ, ◌+◌, ◌<◌, List, [], ◌∷◌, ◌++◌, length, map, take}
use Rattle.std.proofs.Common.{refl, sym, ap, ◌∙◌, subst, arith, append_assoc, append-nil}
use Rattle.std.proofs.Common.{inl, inr, ◌*◌, ◌≤◌, Some}
use Rattle.std.specs.Prelude.{slice_get}
use Rattle.net_core.specs.declared.netlist.Output.{Output}
use Rattle.net_core.specs.declared.gate.Wire.{Wire}
use Rattle.net_core.specs.declared.gate.Gate as gate
use Rattle.net_core.specs.Circuits.{Circuit, circuit_of, AllThere, IsBuilt}
use Rattle.net_core.specs.Building.{buffer_of, gate_input_pins, input_pins}
use Rattle.net_core.specs.Unread.{AreUnread}
use Rattle.net_core.proofs.Invariant.{there_more}
use Rattle.std.proofs.lemmas.Option.{slice_get_within}
use Rattle.net_core.proofs.Invariant.{built_with_gate}
use Rattle.net_tidy.specs.inner.Assembled.{OutputsLast, Shows}
use Rattle.net_tidy.specs.inner.Made.{AllFit}
use Rattle.net_tidy.specs.inner.Shrunk.{IsShrunk}
use Rattle.net_tidy.specs.Tidy.{IsRead, IsTidy}
use Rattle.net_tidy.proofs.Neatness.{at_joined, buffer_pin, buffer_pins_few, gate_pins_few, gate_pins_joined}
use Rattle.net_tidy.proofs.Neatness.{neat_gates, pins_few, reads_none}

take_all : (ws : List Wire) (n : ℕ) → length ws ≡ n → take n ws ≡ ws
take_all ws n e = subst (λ k. take k ws ≡ ws) e (whole ws)
  where
    whole : (ws : List Wire) → take (length ws) ws ≡ ws
    whole [] = refl
    whole (w ∷ ws) = ap (λ (l : List Wire). w ∷ l) (whole ws)

gates_are : (source start draft : Circuit) (gates : List gate.Gate) (shown next : List Wire)
    → IsShrunk source gates shown next → start ≡ circuit_of source.inputs gates next []
    → OutputsLast start draft shown (length source.outputs) → draft.gates ≡ gates ++ map buffer_of shown
gates_are source start draft gates shown next shrunk e last =
    last.gates
    ∙ (ap (λ (c : Circuit). c.gates ++ map buffer_of (take (length source.outputs) shown)) e
    ∙ ap (λ ws. gates ++ map buffer_of ws) (take_all shown (length source.outputs) shrunk.shown_long))

unread_gates : (i r : ℕ) (c : Circuit) (gates : List gate.Gate) (shown : List Wire)
    → c.gates ≡ gates ++ map buffer_of shown
    → ((k : ℕ) (o : Output) → slice_get c.outputs k ≡ Some o → o.gate ≡ length gates + k) → AllFit i r gates
    → AllThere i r (length gates) shown → AllThere i r (length gates) c.registers → AreUnread c
unread_gates i r c gates shown is driven fit shown_there next_there = record {
  pins = λ n g at k w pin.
      reads_none i r (length gates) c.outputs w driven
      (elim (at_joined gates (map buffer_of shown) n g (ap (λ (gs : List gate.Gate). slice_get gs n) (sym is) ∙ at)) [
        | inl inner ↦
            let low = slice_get_within gates n g inner in
            there_more i r r n (length gates) w (omega arith) (omega (arith, low))
            ((fit.each n g inner).there.each k w pin)
        | inr (m, last) ↦ shown_there.each m w (buffer_pin shown m g k w last pin)
      ]);
  data_wires = λ m w at. reads_none i r (length gates) c.outputs w driven (next_there.each m w at);
}

pub tidy_whole : (source start draft result : Circuit) (gates : List gate.Gate) (shown next : List Wire)
    → IsShrunk source gates shown next → start ≡ circuit_of source.inputs gates next [] → result ≡ draft
    → draft.registers ≡ start.registers → Shows draft shown (length source.outputs)
    → OutputsLast start draft shown (length source.outputs) → IsTidy result
tidy_whole source start draft result gates shown next shrunk e f registers shows last =
    let i = length source.inputs in
    let r = length source.registers in
    let registers' : draft.registers ≡ next = registers ∙ ap (λ (c : Circuit). c.registers) e in
    let is = gates_are source start draft gates shown next shrunk e last in
    let driven : (k : ℕ) (o : Output) → slice_get draft.outputs k ≡ Some o → o.gate ≡ length gates + k =
    λ k o at. last.driven k o at ∙ ap (λ (c : Circuit). length c.gates + k) e in
    subst IsTidy (sym f) (record {
      inner = gates;
      shown = shown;
      gates = is;
      count = shrunk.shown_long ∙ sym shows.count;
      driven = driven;
      unread = unread_gates i r draft gates shown is driven shrunk.fit shrunk.shown_there
          (subst (AllThere i r (length gates)) (sym registers') shrunk.next_there);
      neat = neat_gates i r gates shrunk.fit shrunk.neat;
      read = subst (λ ws. (n : ℕ) → n < length gates → IsRead gates shown ws n) (sym registers') shrunk.read;
    })

built_buffers : (gates : List gate.Gate) (ws : List Wire) → IsBuilt gates → IsBuilt (gates ++ map buffer_of ws)
built_buffers gates [] built = subst IsBuilt (sym (append-nil gates)) built
built_buffers gates (w ∷ ws) built =
    subst IsBuilt (append_assoc gates (buffer_of w ∷ []) (map buffer_of ws))
    (built_buffers (gates ++ buffer_of w ∷ []) ws
    (built_with_gate gates (buffer_of w) built (record { kind = refl; pins = omega arith })))

pub tidy_built : (source start draft result : Circuit) (gates : List gate.Gate) (shown next : List Wire)
    → IsShrunk source gates shown next → start ≡ circuit_of source.inputs gates next [] → result ≡ draft
    → OutputsLast start draft shown (length source.outputs) → IsBuilt source.gates → IsBuilt result.gates
tidy_built source start draft result gates shown next shrunk e f last built =
    subst IsBuilt
    (sym (ap (λ (c : Circuit). c.gates) f ∙ gates_are source start draft gates shown next shrunk e last))
    (built_buffers gates shown (shrunk.built built))

pub tidy_pins : (source start draft result : Circuit) (gates : List gate.Gate) (shown next : List Wire)
    → IsShrunk source gates shown next → start ≡ circuit_of source.inputs gates next [] → result ≡ draft
    → draft.registers ≡ start.registers → OutputsLast start draft shown (length source.outputs)
    → IsBuilt source.gates
    → gate_input_pins result.gates + input_pins result.registers
    ≤ 2 * length source.gates + length source.outputs + length source.registers
tidy_pins source start draft result gates shown next shrunk e f registers last built =
    let is = ap (λ (c : Circuit). c.gates) f ∙ gates_are source start draft gates shown next shrunk e last in
    let registers' = ap (λ (c : Circuit). c.registers) f ∙ (registers ∙ ap (λ (c : Circuit). c.registers) e) in
    let joined = ap gate_input_pins is ∙ gate_pins_joined gates (map buffer_of shown) in
    let first = gate_pins_few gates (shrunk.built built) in
    let last = buffer_pins_few shown in
    let held = ap input_pins registers' in
    let most = pins_few next in
    let few = shrunk.few in
    let long = shrunk.shown_long in
    let long' = shrunk.next_long in
    omega (arith, joined, first, last, held, most, few, long, long')
