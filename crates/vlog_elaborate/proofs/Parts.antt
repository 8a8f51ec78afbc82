-- The parts of the netlist that the raw netlist stands for.
use Rattle.std.proofs.Common.{◌≡◌, ℕ, zero, suc, ◌+◌, ◌≤◌, Bool, true, false, not, ◌&&◌, cond, List, [], ◌∷◌, ◌++◌}
use Rattle.std.proofs.Common.{length, map, filter, Option, Some, None, refl, sym, ap, ◌∙◌, arith}
use Rattle.std.specs.Prelude.{slice_get, slice_index}
use Rattle.std.specs.List.{find, position_from}
use Rattle.std.proofs.lemmas.List.{length-map}
use Rattle.std.proofs.lemmas.Option.{same_Some}
use Rattle.net_core.specs.declared.gate.Wire.{Wire}
use Rattle.net_core.specs.declared.gate.Wire.TheVariants as wire
use Rattle.net_core.specs.declared.gate.Gate as gate
use Rattle.net_core.specs.declared.netlist.Output.{Output}
use Rattle.net_core.specs.Circuits.{IsCircuit, circuit_of}
use Rattle.vlog_text.specs.declared.raw.RawName.{RawName}
use Rattle.vlog_text.specs.declared.raw.RawGate.{RawGate}
use Rattle.vlog_text.specs.declared.raw.RawReg.{RawReg}
use Rattle.vlog_text.specs.declared.raw.RawNetlist.{RawNetlist}
use Rattle.vlog_text.specs.Words.{has_word, repeated, decl_names, is_named, uses}
use Rattle.vlog_text.specs.Orders.{place_in, renumbered, reordered}
use Rattle.vlog_text.specs.Refusing.{refusals, rule_4, rule_5, rule_6, rule_7, rule_8, declared, first_broken}
use Rattle.vlog_text.specs.Standing.{is_declared, is_port, inputs, outputs, output_of, net_of}
use Rattle.vlog_text.specs.Standing.{resolved, text_gates, the_order, pin_wire, data_wire, registers, register_wire}
use Rattle.vlog_elaborate.specs.declared.check.Checked.{Checked}
use Rattle.vlog_names.specs.declared.wires.Numbers.{Numbers}
use Rattle.vlog_names.specs.Numbers.{AreNumbers, capped, capped_gate, names_input, names_output}
use Rattle.vlog_names.specs.Numbers.{driver_in, always_in}
use Rattle.vlog_names.proofs.Standings.{input_is, output_is, driver_is, always_is}
use Rattle.vlog_elaborate.proofs.NameLists.{left_empty, right_empty}
use Rattle.vlog_elaborate.proofs.Earliest.{unrefused_is}
use Rattle.vlog_elaborate.specs.inner.Parts.{IsChecked, ArePlaces, output_at}
use Rattle.vlog_elaborate.proofs.Capping.{capped_pin, uncapped}

-- ---- no port is listed twice

no_refusals : (rule : ℕ) (names : List RawName) → refusals rule names ≡ [] → names ≡ []
no_refusals rule [] e = refl
no_refusals rule (x ∷ xs) e = absurd (cc)

two_empty : {X : Type 0} (a b c d e : List X) → a ++ b ++ c ++ d ++ e ≡ [] → a ++ b ≡ []
two_empty a b c d e h = left_empty (a ++ b) c (left_empty (a ++ b ++ c) d (left_empty (a ++ b ++ c ++ d) e h))

pub ports_once : (raw : RawNetlist) → first_broken raw ≡ None → repeated [] raw.ports ≡ []
ports_once raw e =
    let rules : refusals 4 (rule_4 raw) ≡ [] =
    left_empty (refusals 4 (rule_4 raw)) (refusals 5 (rule_5 raw))
    (two_empty (refusals 4 (rule_4 raw)) (refusals 5 (rule_5 raw)) (refusals 6 (rule_6 raw)) (refusals 7 (rule_7 raw))
    (refusals 8 (rule_8 raw)) (unrefused_is raw e)) in
    right_empty (repeated [] (decl_names raw)) (repeated [] raw.ports)
    (two_empty (repeated [] (decl_names raw)) (repeated [] raw.ports)
    (filter (λ (n : RawName). not (is_named (decl_names raw) n.word)) (uses raw))
    (filter (λ (n : RawName). is_declared raw (λ k. not (is_port k)) n.word) raw.ports)
    (declared raw (λ d. is_port d.kind && not (is_named raw.ports d.name.word)))
    (no_refusals 4 (rule_4 raw) rules))

-- ---- ports

module _ (raw : RawNetlist) (numbers : Numbers) (are : AreNumbers raw numbers) where
  pub inputs_are : map (λ (n : RawName). n.word) (filter (λ (n : RawName). names_input numbers n.word) raw.ports)
      ≡ map (λ (n : RawName). n.word) (inputs raw)
  inputs_are =
      ap (λ (p : RawName → Bool). map (λ (n : RawName). n.word) (filter p raw.ports))
      (λ i n. input_is raw numbers are n.word i)

  module _ (places : List ℕ) (placed : ArePlaces raw places) where
    place_is : (n : RawName) → output_at numbers places n ≡ output_of raw n
    place_is n =
        ap (λ (g : ℕ). let new : Output = record { name = n.word; gate = g } in new)
        (placed.each (driver_in numbers n.word)
        ∙ ap (λ g. place_in (the_order raw) g) (driver_is raw numbers are n.word))

    pub outputs_are : map (output_at numbers places) (filter (λ (n : RawName). names_output numbers n.word) raw.ports)
        ≡ map (output_of raw) (outputs raw)
    outputs_are =
        ap (λ (p : RawName → Bool). map (output_at numbers places) (filter p raw.ports))
        (λ i n. output_is raw numbers are n.word i)
        ∙ ap (λ (f : RawName → Output). map f (outputs raw)) (λ i n. place_is n i)

-- ---- gates

pub gates_are : (raw : RawNetlist) (gates : List gate.Gate) (order : List ℕ) → gates ≡ text_gates raw
    → order ≡ the_order raw → reordered gates order ≡ reordered (text_gates raw) (the_order raw)
gates_are raw gates order e o =
    ap (λ gs. reordered gs order) e ∙ ap (λ ns. reordered (text_gates raw) ns) o

-- ---- registers

position_find : {X : Type 0} (p : X → Bool) (k : ℕ) (xs : List X) (n : ℕ) → position_from p k xs ≡ Some n
    → (j : ℕ) × (n ≡ k + j) × (find p xs ≡ slice_get xs j)
position_find p k [] n e = cc
position_find p k (x ∷ xs) n e = go (p x) (λ h. position_find p (k + 1) xs n h) e
  where
    go : (b : Bool) → (position_from p (k + 1) xs ≡ Some n → (j : ℕ) × (n ≡ k + 1 + j) × (find p xs ≡ slice_get xs j))
        → cond b (Some k) (position_from p (k + 1) xs) ≡ Some n
        → (j : ℕ) × (n ≡ k + j) × (cond b (Some x) (find p xs) ≡ slice_get (x ∷ xs) j)
    go true more e = let same = same_Some k n e in (zero, omega arith, refl)
    go false more e = let r = more e in (suc r.0, omega (arith, r.1), r.2)

position_none : {X : Type 0} (p : X → Bool) (k : ℕ) (xs : List X) → position_from p k xs ≡ None → find p xs ≡ None
position_none p k [] e = refl
position_none p k (x ∷ xs) e = go (p x) (λ h. position_none p (k + 1) xs h) e
  where
    go : (b : Bool) → (position_from p (k + 1) xs ≡ None → find p xs ≡ None)
        → cond b (Some k) (position_from p (k + 1) xs) ≡ None → cond b (Some x) (find p xs) ≡ None
    go true more e = absurd (cc)
    go false more e = more e

renumbered_is : (raw : RawNetlist) (places : List ℕ) → ArePlaces raw places → (w : Wire)
    → renumbered (slice_index places) w ≡ renumbered (place_in (the_order raw)) w
renumbered_is raw places are (wire.Const b) = refl
renumbered_is raw places are wire.Reset = refl
renumbered_is raw places are (wire.Input n) = refl
renumbered_is raw places are (wire.Reg n) = refl
renumbered_is raw places are (wire.Gate n) = ap (λ m. wire.Gate m) (are.each n)

module _ (raw : RawNetlist) (numbers : Numbers) (are : AreNumbers raw numbers) (name : RawName) where
  position_is : (o : Option ℕ) → o ≡ always_in numbers name.word
      → position_from (λ (r : RawReg). has_word name.word r.target) 0 raw.regs ≡ o
  position_is o e = sym (e ∙ always_is raw numbers are name.word)

  pub driven : (places : List ℕ) (n : ℕ) (x : RawReg) (w new : Wire) → Some n ≡ always_in numbers name.word
      → slice_get raw.regs n ≡ Some x → length (inputs raw) ≤ 64 → ArePlaces raw places
      → w ≡ capped (pin_wire raw x.wire) → new ≡ renumbered (slice_index places) w → new ≡ register_wire raw name
  driven places n x w new e at few placed is moved =
      let r = position_find (λ (r : RawReg). has_word name.word r.target) 0 raw.regs n (position_is (Some n) e) in
      let same : r.0 ≡ n = omega (arith, r.1) in
      moved ∙ renumbered_is raw places placed w
      ∙ ap (λ (v : Wire). renumbered (place_in (the_order raw)) v) (is ∙ capped_pin raw few x.wire)
      ∙ ap (λ o. data_wire raw o) (sym (r.2 ∙ ap (λ j. slice_get raw.regs j) same ∙ at))

  pub undriven : None ≡ always_in numbers name.word → wire.Const false ≡ register_wire raw name
  undriven e =
      ap (λ o. data_wire raw o)
      (sym (position_none (λ (r : RawReg). has_word name.word r.target) 0 raw.regs (position_is None e)))

pub map_both : {X Y Z : Type 0} (f : Y → Z) (g : X → Y) (xs : List X) → map (λ x. f (g x)) xs ≡ map f (map g xs)
map_both f g [] = refl
map_both f g (x ∷ xs) = ap (λ ys. f (g x) ∷ ys) (map_both f g xs)

-- ---- the whole

pub few_inputs : (raw : RawNetlist) → IsCircuit (net_of raw) → length (inputs raw) ≤ 64
few_inputs raw is = omega (arith, is.inputs_few, length-map (inputs raw) (λ (n : RawName). n.word))

pub gate_count : (raw : RawNetlist) (gates : List gate.Gate)
    → gates ≡ map (λ (g : RawGate). capped_gate (resolved raw g)) raw.gates → length gates ≡ length raw.gates
gate_count raw gates e = ap length e ∙ length-map raw.gates (λ (g : RawGate). capped_gate (resolved raw g))

module _ (raw : RawNetlist) (checked : Checked) (is : IsChecked raw checked) where
  pub names_are : (ports : List RawName) (names : List (List ℕ)) → ports ≡ raw.ports
      → names ≡ map (λ (n : RawName). n.word)
      (filter (λ (n : RawName). names_input checked.numbers n.word) ports)
      → names ≡ map (λ (n : RawName). n.word) (inputs raw)
  names_are ports names e n =
      n ∙ ap (λ (ps : List RawName). map (λ (n : RawName). n.word)
      (filter (λ (n : RawName). names_input checked.numbers n.word) ps)) e
      ∙ inputs_are raw checked.numbers is.numbers

  pub drivers_are : (ports : List RawName) (places : List ℕ) (outs : List Output) → ports ≡ raw.ports
      → ArePlaces raw places
      → outs ≡ map (output_at checked.numbers places)
      (filter (λ (n : RawName). names_output checked.numbers n.word) ports)
      → outs ≡ map (output_of raw) (outputs raw)
  drivers_are ports places outs e placed o =
      o ∙ ap (λ (ps : List RawName). map (output_at checked.numbers places)
      (filter (λ (n : RawName). names_output checked.numbers n.word) ps)) e
      ∙ outputs_are raw checked.numbers is.numbers places placed

  pub moved_are : (gates new : List gate.Gate) (order : List ℕ) → length (inputs raw) ≤ 64 → gates ≡ checked.gates
      → order ≡ checked.order.items → new ≡ reordered gates order
      → new ≡ reordered (text_gates raw) (the_order raw)
  moved_are gates new order few e o n = n ∙ gates_are raw gates order (e ∙ is.gates ∙ uncapped raw few) (o ∙ is.order)

pub circuit_is : (raw : RawNetlist) (names : List (List ℕ)) (gates : List gate.Gate) (wires : List Wire)
    (outs : List Output) → names ≡ map (λ (n : RawName). n.word) (inputs raw)
    → gates ≡ reordered (text_gates raw) (the_order raw) → wires ≡ map (register_wire raw) (registers raw)
    → outs ≡ map (output_of raw) (outputs raw) → circuit_of names gates wires outs ≡ net_of raw
circuit_is raw names gates wires outs n g w o =
    ap (λ (ns : List (List ℕ)). circuit_of ns gates wires outs) n
    ∙ ap (λ (gs : List gate.Gate). circuit_of (map (λ (n : RawName). n.word) (inputs raw)) gs wires outs) g
    ∙ ap (λ (ws : List Wire). circuit_of (map (λ (n : RawName). n.word) (inputs raw))
    (reordered (text_gates raw) (the_order raw)) ws outs) w
    ∙ ap (λ (os : List Output). circuit_of (map (λ (n : RawName). n.word) (inputs raw))
    (reordered (text_gates raw) (the_order raw)) (map (register_wire raw) (registers raw)) os) o
