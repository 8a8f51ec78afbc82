-- The composed circuit from its three steps.
use Rattle.std.proofs.Common.{◌≡◌, ℕ, zero, suc, ◌+◌, ◌*◌, ◌<◌, ◌≤◌, false, List, [], ◌∷◌, ◌++◌, length, take, drop}
use Rattle.std.proofs.Common.{refl, sym, ap, ◌∙◌, subst, arith}
use Rattle.std.proofs.Common.{length-append, length-take, length-drop, get_or-drop, get_or-take}
use Rattle.std.specs.Prelude.{replicate}
use Rattle.std.proofs.lemmas.List.{length-replicate}
use Rattle.pbs_ast.specs.Trees.{Tree}
use Rattle.pbs_ast.specs.Sound.{node_count, place_count, tree_input_leaves}
use Rattle.net_core.specs.declared.gate.Wire.{Wire}
use Rattle.net_core.specs.declared.gate.Wire.TheVariants.{Const, Reset, Input, Reg, Gate}
use Rattle.net_core.specs.Rows.{value}
use Rattle.net_core.specs.Circuits.{Circuit, IsThere, Exists, wire_at}
use Rattle.net_core.specs.Building.{Extends, HasAll, input_pin, input_pins}
use Rattle.frag_compose.specs.inner.Fits.{TreeFits}
use Rattle.frag_compose.specs.inner.Gains.{ReachesAll, with_registers}
use Rattle.frag_compose.specs.Composes.{Composes}
use Rattle.frag_compose.proofs.Leaves.{place_leaf, action_leaf, nodes_some}

there_in : (i r g i' r' g' : ℕ) (w : Wire) → i' ≡ i → r ≤ r' → g ≤ g' → IsThere i r g w → IsThere i' r' g' w
there_in i r g i' r' g' (Const b) e p q h = tt
there_in i r g i' r' g' Reset e p q h = tt
there_in i r g i' r' g' (Input n) e p q h = omega arith
there_in i r g i' r' g' (Reg n) e p q h = omega arith
there_in i r g i' r' g' (Gate n) e p q h = omega arith

later_there : (c d : Circuit) (w : Wire) → d.inputs ≡ c.inputs → length c.registers ≤ length d.registers
    → length c.gates ≤ length d.gates → Exists c w → Exists d w
later_there c d w i r g there =
    let e = ap (λ (ns : List (List ℕ)). length ns) i in
    there_in (length c.inputs) (length c.registers) (length c.gates)
    (length d.inputs) (length d.registers) (length d.gates) w e r g there

-- the wires of the front and of the rest are there once the registers are bound
module _ (c d : Circuit) (ws : List Wire) (n : ℕ) (h : HasAll c ws) (i : d.inputs ≡ c.inputs)
    (r : length c.registers ≤ length d.registers) (g : length c.gates ≤ length d.gates) where
  moved : (w : Wire) → Exists c w → Exists d w
  moved w there = later_there c d w i r g there

  rest_there : HasAll d (drop n ws)
  rest_there = record {
    each = λ leaf lt.
        let within : n + leaf < length ws = omega (arith, length-drop n ws) in
        subst (λ w. Exists d w) (sym (get_or-drop n ws leaf (Const false)))
        (moved (wire_at ws (n + leaf)) (h.each (n + leaf) within));
    inner = λ leaf lt.
        let within : n + leaf < length ws = omega (arith, length-drop n ws) in
        ap input_pin (get_or-drop n ws leaf (Const false)) ∙ h.inner (n + leaf) within;
  }

  front_there : HasAll d (take n ws)
  front_there = record {
    each = λ leaf lt.
        let below : leaf < n = omega (arith, length-take n ws) in
        let within : leaf < length ws = omega (arith, length-take n ws) in
        subst (λ w. Exists d w) (sym (get_or-take n ws leaf (Const false) below))
        (moved (wire_at ws leaf) (h.each leaf within));
    inner = λ leaf lt.
        let below : leaf < n = omega (arith, length-take n ws) in
        let within : leaf < length ws = omega (arith, length-take n ws) in
        ap input_pin (get_or-take n ws leaf (Const false) below) ∙ h.inner leaf within;
  }

-- so many registers more, not yet bound
abbrev with_unbound : Circuit → ℕ → Circuit
with_unbound c n = with_registers c (c.registers ++ replicate n (Const false))

-- the gates of the tree were added
abbrev Gated : Circuit → Circuit → Tree → Type 0
Gated old new tree = Extends old new (1 + 11 * node_count tree) (tree_input_leaves tree)

-- where no wire of a list is an input, none counts as one
no_pins : (ws : List Wire) → ((n : ℕ) → n < length ws → input_pin (wire_at ws n) ≡ 0) → input_pins ws ≡ 0
no_pins [] none = refl
no_pins (w ∷ ws) none =
    let first = none zero (omega arith) in
    let rest = no_pins ws (λ n h. none (suc n) (omega arith)) in
    omega (arith, first, rest)

composed_plain : (old c2 : Circuit) (i n m : ℕ) (tree : Tree) (ws : List Wire) → TreeFits i n m tree
    → n ≡ place_count tree → old.registers ≡ [] → Gated (with_unbound old n) c2 tree
    → ReachesAll c2 n m tree ws → Composes old (with_registers c2 (take n ws)) tree m (drop n ws)
composed_plain old c2 i n m tree ws fits all none x r =
    let zeros : List Wire = replicate n (Const false) in
    let longer = length-append {A = Wire} old.registers zeros in
    let long = length-replicate {A = Wire} n (Const false) in
    let made : length (old.registers ++ zeros) ≡ n = omega (arith, ap length none, longer, long) in
    let had : length c2.registers ≡ n = ap length x.registers ∙ made in
    let count : length ws ≡ n + m = r.count in
    let bound : length (take n ws) ≡ n = omega (arith, length-take n ws) in
    let none_yet : length old.registers ≡ 0 = ap length none in
    let bound_wires = take n ws in
    let new = with_registers c2 bound_wires in
    let data_there : HasAll new bound_wires = front_there c2 new ws n r.there refl (omega arith) (omega arith) in
    record {
      keeps = record {
        rows = λ row h. x.rows row h;
        there = λ w h. later_there old new w x.inputs (omega arith) x.fewest h;
        data_wires = λ r h. absurd (omega arith);
      };
      inputs = x.inputs;
      outputs = x.outputs;
      few = let some = nodes_some tree in let most = x.most in omega (arith, some, most);
      few_pins =
          let most = x.few_pins in
          let inner = no_pins bound_wires data_there.inner in
          omega (arith, most, inner);
      places = bound ∙ all;
      data_wires = data_there;
      next = λ row ok p h.
          let below : p < n = omega arith in
          ap (λ w. value row w) (get_or-take n ws p (Const false) below)
          ∙ r.meaning row ok p (omega arith) ∙ place_leaf i n m tree row p fits below;
      actions = omega (arith, length-drop n ws);
      fires_there = rest_there c2 new ws n r.there refl (omega arith) (omega arith);
      fire = λ row ok a h.
          ap (λ w. value row w) (get_or-drop n ws a (Const false))
          ∙ r.meaning row ok (n + a) (omega arith) ∙ action_leaf i n m tree row a fits;
    }

pub composed : (old c1 c2 new : Circuit) (i n m : ℕ) (tree : Tree) (ws fires : List Wire) → TreeFits i n m tree
    → n ≡ place_count tree → old.registers ≡ [] → c1 ≡ with_unbound old n → Gated c1 c2 tree
    → ReachesAll c2 n m tree ws → new ≡ with_registers c2 (take n ws) → fires ≡ drop n ws
    → Composes old new tree m fires
composed old c1 c2 new i n m tree ws fires fits all none s x r e f =
    let x' = subst (λ c. Gated c c2 tree) s x in
    subst (λ fires. Composes old new tree m fires) (sym f)
    (subst (λ new. Composes old new tree m (drop n ws)) (sym e)
    (composed_plain old c2 i n m tree ws fits all none x' r))
