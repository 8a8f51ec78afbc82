-- What a draft's steps add.
use Rattle.std.proofs.Common.{◌≡◌, ℕ, ◌+◌, ◌≤◌, Bool, true, false, ◌&&◌}
use Rattle.std.proofs.Common.{List, [], length, Result, Ok, Err, OnOk, IfOk}
use Rattle.std.proofs.Common.{refl, sym, ◌∙◌, subst, arith}
use Rattle.pbs_base.specs.declared.fail.Memory.{Memory}
use Rattle.net_core.specs.declared.gate.Wire.{Wire}
use Rattle.net_core.specs.declared.gate.Wire.TheVariants.{Gate}
use Rattle.net_core.specs.declared.gate.Gate as gate
use Rattle.net_core.specs.declared.netlist.Output.{Output}
use Rattle.net_core.specs.Rows.{Row, IsRow, value, gate_value}
use Rattle.net_core.specs.Circuits.{Circuit, circuit_of, AllThere, AreOutputs, FitsAfter}
use Rattle.net_core.specs.Circuits.{IsCircuit, IsPlain, IsBuilt}
use Rattle.net_core.specs.Building.{with_gate, Extends, Adds, input_pins}
use Rattle.net_core.proofs.Growth.{adds_if_ok}
use Rattle.net_core.proofs.Invariant.{built_with_gate}
use Rattle.net_encode.specs.inner.Drafts.{unbound, Grows, Draws, IsInside}

grows_with_gate : (old new : Circuit) (g : gate.Gate) (w : Wire) (pins : ℕ) (f : Row → Bool) → new ≡ with_gate old g
    → IsPlain g → Adds old new w pins f → Draws old new w 1 pins f
grows_with_gate old new g w pins f e plain adds = record {
  grows = record {
    extends = adds.extends;
    plain = λ built. subst (λ (n : Circuit). IsBuilt n.gates) (sym e) (built_with_gate old.gates g built plain);
  };
  there = adds.there;
  inner = adds.inner;
  meaning = adds.meaning;
}

pub draws_if_ok : (r : Result Wire Memory) (old new : Circuit) (g : gate.Gate) (pins : ℕ) (f : Row → Bool)
    → OnOk r (new ≡ with_gate old g) → IfOk r (λ w. w ≡ Gate (length old.gates)) → IsPlain g → input_pins g.pins ≤ pins
    → ((row : Row) → gate_value row g ≡ f row) → IfOk r (λ w. Draws old new w 1 pins f)
draws_if_ok (Ok w) old new g pins f e at plain few same =
    grows_with_gate old new g w pins f e plain (adds_if_ok (Ok w) old new g pins f e at few same)
draws_if_ok (Err x) old new g pins f e at plain few same = tt

pub extends_none : (c : Circuit) → Extends c c 0 0
extends_none c = record {
  rows = λ row h. h;
  there = λ w h. h;
  inputs = refl;
  registers = refl;
  outputs = refl;
  fewest = omega arith;
  most = omega arith;
  few_pins = omega arith;
}

pub grows_none : (c : Circuit) → Grows c c 0 0
grows_none c = record { extends = extends_none c; plain = λ b. b }

pub grows_on : (a b c : Circuit) (k m i j : ℕ) → Grows a b k i → Grows b c m j → Grows a c (k + m) (i + j)
grows_on a b c k m i j e f =
    let e' = e.extends in
    let f' = f.extends in
    record {
      extends = record {
        rows = λ row h. e'.rows row (f'.rows row h);
        there = λ w h. f'.there w (e'.there w h);
        inputs = f'.inputs ∙ e'.inputs;
        registers = f'.registers ∙ e'.registers;
        outputs = f'.outputs ∙ e'.outputs;
        fewest = omega (arith, e'.fewest, f'.fewest);
        most = omega (arith, e'.most, f'.most);
        few_pins = omega (arith, e'.few_pins, f'.few_pins);
      };
      plain = λ b. f.plain (e.plain b);
    }

-- the bounds may be larger
pub grows_more : (a b : Circuit) (k m i j : ℕ) → k ≤ m → i ≤ j → Grows a b k i → Grows a b m j
grows_more a b k m i j l p e =
    let e' = e.extends in
    record {
      extends = record {
        rows = e'.rows;
        there = e'.there;
        inputs = e'.inputs;
        registers = e'.registers;
        outputs = e'.outputs;
        fewest = e'.fewest;
        most = omega (arith, e'.most, l);
        few_pins = omega (arith, e'.few_pins, p);
      };
      plain = e.plain;
    }

-- a wire that is there has its own value
pub draws_own : (c : Circuit) (w : Wire) (k i : ℕ) (f : Row → Bool) → IsInside c w
    → ((row : Row) → value row w ≡ f row) → Draws c c w k i f
draws_own c w k i f inside same = record {
  grows = grows_more c c 0 k 0 i (omega arith) (omega arith) (grows_none c);
  there = inside.there;
  inner = inside.inner;
  meaning = λ row h. same row;
}

pub draws_own_if_ok : (r : Result Wire Memory) (c : Circuit) (w : Wire) (k i : ℕ) (f : Row → Bool) → r ≡ Ok w
    → IsInside c w → ((row : Row) → value row w ≡ f row) → IfOk r (λ w. Draws c c w k i f)
draws_own_if_ok r c w k i f is inside same =
    subst (λ (r : Result Wire Memory). IfOk r (λ w. Draws c c w k i f)) (sym is) (draws_own c w k i f inside same)

-- a wire of gates that were added first, and then one of gates that were added to those
pub draws_on : (a b c : Circuit) (w w' : Wire) (k m : ℕ) (f g h : Row → Bool) → Draws a b w k 0 f → Draws b c w' m 0 g
    → ((row : Row) → (IsRow c.gates row) → (value row w ≡ f row) → g row ≡ h row) → Draws a c w' (k + m) 0 h
draws_on a b c w w' k m f g h first next same = record {
  grows = grows_on a b c k m 0 0 first.grows next.grows;
  there = next.there;
  inner = next.inner;
  meaning = λ row is.
      next.meaning row is ∙ same row is (first.meaning row (next.grows.extends.rows row is));
}

pub one_buf : (a : Bool) → (a && true) ≡ a
one_buf true = refl
one_buf false = refl

-- data wires and outputs for a draft
pub record IsEnd (draft : Circuit) (regs : List Wire) (shown : List Output) : Type 0 where
  pub count : length regs ≡ length draft.registers
  pub data_wires : AllThere (length draft.inputs) (length draft.registers) (length draft.gates) regs
  pub few : length shown ≤ 128
  pub outputs : AreOutputs (length draft.gates) shown

pub finished_circuit : (inputs : List (List ℕ)) (gates : List gate.Gate) (n : ℕ) (data_wires : List Wire)
    (outputs : List Output) → IsCircuit (circuit_of inputs gates (unbound n) [])
    → IsEnd (circuit_of inputs gates (unbound n) []) data_wires outputs
    → IsCircuit (circuit_of inputs gates data_wires outputs)
finished_circuit inputs gates n data_wires outputs ok end = record {
  inputs_few = ok.inputs_few;
  gates_few = ok.gates_few;
  registers_few = omega (arith, ok.registers_few, end.count);
  outputs_few = end.few;
  gates_fit = λ k g at.
      subst (λ r. FitsAfter (length inputs) r k g) (sym end.count) (ok.gates_fit k g at);
  data_there =
      subst (λ r. AllThere (length inputs) r (length gates) data_wires) (sym end.count) end.data_wires;
  outputs_right = end.outputs;
}
