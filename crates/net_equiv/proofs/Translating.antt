-- From what registers count as by lists to what they count as.
use Rattle.std.proofs.Common.{◌≡◌, ℕ, ◌<◌, ◌≤◌, Bool, true, false, List, length, Option, Some, None}
use Rattle.std.proofs.Common.{refl, sym, ap, subst, ◌∙◌, arith}
use Rattle.std.specs.Prelude.{slice_get, map}
use Rattle.std.specs.List.{range_with_len}
use Rattle.std.proofs.lemmas.Option.{same_Some}
use Rattle.std.proofs.lemmas.List.FromFn.{get_or-map-range_with_len, length-map-range_with_len}
use Rattle.pbs_base.specs.Entries.{bit}
use Rattle.net_core.specs.declared.gate.Wire.{Wire}
use Rattle.net_core.specs.declared.gate.Wire.TheVariants as wire
use Rattle.net_core.specs.declared.gate.Gate as gate
use Rattle.net_core.specs.Rows.{Row, value}
use Rattle.net_core.specs.Circuits.{Circuit, IsThere}
use Rattle.net_eval.specs.Assignments.{IsOrdered}
use Rattle.net_equiv.specs.declared.answer.RegPair.{RegPair}
use Rattle.net_equiv.specs.declared.answer.VarName.{VarName}
use Rattle.net_equiv.specs.declared.answer.VarName.TheVariants.{Input, A, B}
use Rattle.net_equiv.specs.Cones.{a_name, b_name, owned_name, variable_of, InCone, IsLeafOf, LiesIn, root_itself, pin_of}
use Rattle.net_equiv.specs.inner.Walking.{name_at}
use Rattle.net_equiv.specs.Comparing.{AreRows}
use Rattle.net_equiv.specs.Pairing.{owner_of}
use Rattle.net_equiv.specs.Told.{TakesValues}
use Rattle.net_equiv.specs.inner.Standing.{Fits}
use Rattle.net_equiv.proofs.Partners.{owner_paired}

there_more : (i r g g' : ℕ) (w : Wire) → g ≤ g' → IsThere i r g w → IsThere i r g' w
there_more i r g g' (wire.Const b) q h = tt
there_more i r g g' wire.Reset q h = tt
there_more i r g g' (wire.Input n) q h = h
there_more i r g g' (wire.Reg n) q h = h
there_more i r g g' (wire.Gate n) q h = omega arith

-- each wire of a cone is there
pub cone_there : (i r : ℕ) (gates : List gate.Gate) (root : Wire) → IsOrdered i r gates
    → IsThere i r (length gates) root → (w : Wire) → InCone gates root w → IsThere i r (length gates) w
cone_there i r gates root ordered h w root_itself = h
cone_there i r gates root ordered h w (pin_of n k g u inside at pin) =
    let gate_there : n < length gates = cone_there i r gates root ordered h (wire.Gate n) inside in
    there_more i r n (length gates) w (omega arith) ((ordered.earlier n g at).each k w pin)

pub name_listed : (f : ℕ → VarName) (count r : ℕ) → r < count → name_at (map f (range_with_len 0 count)) r ≡ f r
name_listed f count r h = get_or-map-range_with_len f 0 count r r (Input 0) h (omega arith)

-- a wire that is there is the same variable
pub variable_same : (f : ℕ → VarName) (i count g : ℕ) (w : Wire) → IsThere i count g w
    → variable_of (name_at (map f (range_with_len 0 count))) w ≡ variable_of f w
variable_same f i count g (wire.Const b) h = refl
variable_same f i count g wire.Reset h = refl
variable_same f i count g (wire.Input n) h = refl
variable_same f i count g (wire.Reg n) h = ap (λ (x : VarName). Some x) (name_listed f count n h)
variable_same f i count g (wire.Gate n) h = refl

pub lies_by_name : (f : ℕ → VarName) (i count : ℕ) (gates : List gate.Gate) (root : Wire) → IsOrdered i count gates
    → IsThere i count (length gates) root → (x : VarName)
    → IsLeafOf (name_at (map f (range_with_len 0 count))) (InCone gates root) x → LiesIn gates root f x
lies_by_name f i count gates root ordered h x leaf = record {
  leaf = leaf.leaf;
  meant = leaf.meant;
  named =
      sym (variable_same f i count (length gates) leaf.leaf
      (cone_there i count gates root ordered h leaf.leaf leaf.meant)) ∙ leaf.named;
}

pub name_by_lies : (f : ℕ → VarName) (i count : ℕ) (gates : List gate.Gate) (root : Wire) → IsOrdered i count gates
    → IsThere i count (length gates) root → (x : VarName) → LiesIn gates root f x
    → IsLeafOf (name_at (map f (range_with_len 0 count))) (InCone gates root) x
name_by_lies f i count gates root ordered h x leaf = record {
  leaf = leaf.leaf;
  meant = leaf.meant;
  named =
      variable_same f i count (length gates) leaf.leaf
      (cone_there i count gates root ordered h leaf.leaf leaf.meant) ∙ leaf.named;
}

-- ---- rows that take the values fit

there_long : (f : ℕ → VarName) (count i g : ℕ) (w : Wire)
    → IsThere i (length (map f (range_with_len 0 count))) g w → IsThere i count g w
there_long f count i g w h = subst (λ r. IsThere i r g w) (length-map-range_with_len f 0 count) h

module _ (a b : Circuit) (pairs : List RegPair) (reset : Bool) (vars : List VarName) (v : ℕ) (x y : Row)
    (rows : AreRows a b pairs reset x y) (takes : TakesValues vars v x y)
    (same_inputs : length a.inputs ≡ length b.inputs) where
  a_leaf : (t : ℕ) (w : Wire) (n : VarName) → variable_of a_name w ≡ Some n → slice_get vars t ≡ Some n
      → value x w ≡ bit t v
  a_leaf t (wire.Const c) n e at = absurd (cc)
  a_leaf t wire.Reset n e at = absurd (cc)
  a_leaf t (wire.Input k) n e at = takes.takes t (Input k) (at ∙ sym e)
  a_leaf t (wire.Reg k) n e at = takes.takes t (A k) (at ∙ sym e)
  a_leaf t (wire.Gate k) n e at = absurd (cc)

  owned_leaf : (t m : ℕ) (o : Option ℕ) → reset ≡ false → owner_of pairs m ≡ o
      → slice_get vars t ≡ Some (owned_name m o) → y.registers m ≡ bit t v
  owned_leaf t m None run e at = takes.takes t (B m) at
  owned_leaf t m (Some r) run e at =
      let paired = owner_paired pairs m r e in
      sym (ap (λ k. y.registers k) paired.b_is)
      ∙ (sym (rows.paired run paired.place paired.pair paired.at)
      ∙ (ap (λ k. x.registers k) paired.a_is ∙ takes.takes t (A r) at))

  register_leaf : (t m : ℕ) (c : Bool) → reset ≡ c → slice_get vars t ≡ Some (b_name pairs c m)
      → y.registers m ≡ bit t v
  register_leaf t m true is at = takes.takes t (B m) at
  register_leaf t m false is at = owned_leaf t m (owner_of pairs m) is refl at

  b_leaf : (t : ℕ) (w : Wire) (n : VarName)
      → ((k : ℕ) → n ≡ Input k → k < length a.inputs)
      → variable_of (b_name pairs reset) w ≡ Some n → slice_get vars t ≡ Some n → value y w ≡ bit t v
  b_leaf t (wire.Const c) n few e at = absurd (cc)
  b_leaf t wire.Reset n few e at = absurd (cc)
  b_leaf t (wire.Input k) n few e at =
      sym (rows.inputs k (few k (sym (same_Some (Input k) n e)))) ∙ takes.takes t (Input k) (at ∙ sym e)
  b_leaf t (wire.Reg m) n few e at = register_leaf t m reset refl (at ∙ sym e)
  b_leaf t (wire.Gate k) n few e at = absurd (cc)

  pub a_fits : Fits (record { gates = a.gates; names = map a_name (range_with_len 0 (length a.registers)); vars = vars; reset = reset }) v x
  a_fits = record {
    row = rows.a_row;
    reset = rows.a_reset;
    leaves = λ t w n there named at.
        a_leaf t w n
        (sym (variable_same a_name 64 (length a.registers) (length a.gates) w (there_long a_name (length a.registers) 64 (length a.gates) w there)) ∙ named) at;
  }

  pub b_fits : ((t k : ℕ) → slice_get vars t ≡ Some (Input k) → k < length a.inputs)
      → Fits (record { gates = b.gates; names = map (b_name pairs reset) (range_with_len 0 (length b.registers)); vars = vars; reset = reset }) v y
  b_fits few = record {
    row = rows.b_row;
    reset = rows.b_reset;
    leaves = λ t w n there named at.
        b_leaf t w n (λ k is. few t k (at ∙ ap (λ (u : VarName). Some u) is))
        (sym (variable_same (b_name pairs reset) 64 (length b.registers) (length b.gates) w
        (there_long (b_name pairs reset) (length b.registers) 64 (length b.gates) w there)) ∙ named) at;
  }
