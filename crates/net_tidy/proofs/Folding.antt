-- From gate to gate: each has a wire that stands for it.
use Rattle.std.proofs.Common.{◌≡◌, ℕ, zero, suc, ◌+◌, ◌<◌, ◌≤◌, inl, inr, false, not, List, [], ◌∷◌}
use Rattle.std.proofs.Common.{◌++◌, length, map, Some, refl, sym, ap, ◌∙◌, subst, arith, add-one}
use Rattle.std.specs.Prelude.{slice_get}
use Rattle.std.proofs.Math.Seq.{get_or-append_seam}
use Rattle.std.proofs.lemmas.List.{get_or_append_left}
use Rattle.std.proofs.lemmas.Bool.{cases_lt}
use Rattle.std.proofs.lemmas.Option.{same_Some, slice_get_within}
use Rattle.std.specs.Prelude.{IfOk, OnOk}
use Rattle.std.proofs.Common.{Result, Ok, Err}
use Rattle.pbs_base.specs.declared.fail.Memory.{Memory}
use Rattle.net_core.specs.declared.gate.Wire.{Wire}
use Rattle.net_core.specs.declared.gate.Wire.TheVariants.{Const, Reset, Input, Reg, Gate}
use Rattle.net_core.specs.declared.gate.GateKind.{GateKind}
use Rattle.net_core.specs.declared.gate.GateKind.TheVariants as kinds
use Rattle.net_core.specs.declared.gate.Gate as gate
use Rattle.net_core.specs.Rows.{Row, IsRow, value, all_of, any_of, odd_of, output_of, gate_value}
use Rattle.net_core.specs.Circuits.{Circuit, IsBuilt, IsCircuit, IsPlain, AllThere, HasItsPins, IsThere, wire_at}
use Rattle.net_core.proofs.Pushed.{length_pushed}
use Rattle.net_core.proofs.Invariant.{there_more}
use Rattle.net_eval.specs.Assignments.{Agree}
use Rattle.net_eval.proofs.Assigning.{HoldsBelow, holds_more, ordered_gates}
use Rattle.net_tidy.specs.inner.Made.{AllFit, HasNeatForms, Makes}
use Rattle.net_tidy.specs.inner.Images.{IsFolded, image, row_back}
use Rattle.net_tidy.proofs.Pooled.{makes_as}

-- ---- values of images

pub value_back : (stands : List Wire) (row : Row) (w : Wire)
    → value row (image stands w) ≡ value (row_back stands row) w
value_back stands row (Const b) = refl
value_back stands row Reset = refl
value_back stands row (Input n) = refl
value_back stands row (Reg n) = refl
value_back stands row (Gate n) = refl

all_back : (stands : List Wire) (row : Row) (ws : List Wire)
    → all_of row (map (image stands) ws) ≡ all_of (row_back stands row) ws
all_back stands row [] = refl
all_back stands row (w ∷ ws) = rw (value_back stands row w, all_back stands row ws)

any_back : (stands : List Wire) (row : Row) (ws : List Wire)
    → any_of row (map (image stands) ws) ≡ any_of (row_back stands row) ws
any_back stands row [] = refl
any_back stands row (w ∷ ws) = rw (value_back stands row w, any_back stands row ws)

odd_back : (stands : List Wire) (row : Row) (ws : List Wire)
    → odd_of row (map (image stands) ws) ≡ odd_of (row_back stands row) ws
odd_back stands row [] = refl
odd_back stands row (w ∷ ws) = rw (value_back stands row w, odd_back stands row ws)

pub output_back : (stands : List Wire) (row : Row) (kind : GateKind) (ws : List Wire)
    → output_of row kind (map (image stands) ws) ≡ output_of (row_back stands row) kind ws
output_back stands row kinds.Buf ws = all_back stands row ws
output_back stands row kinds.Not ws = ap not (all_back stands row ws)
output_back stands row kinds.And ws = all_back stands row ws
output_back stands row kinds.Or ws = any_back stands row ws
output_back stands row kinds.Nand ws = ap not (all_back stands row ws)
output_back stands row kinds.Nor ws = ap not (any_back stands row ws)
output_back stands row kinds.Xor ws = odd_back stands row ws
output_back stands row kinds.Xnor ws = ap not (odd_back stands row ws)

length_images : (stands ws : List Wire) → length (map (image stands) ws) ≡ length ws
length_images stands [] = refl
length_images stands (w ∷ ws) = ap suc (length_images stands ws)

pub has_images : (stands ws images : List Wire) (kind : GateKind) → images ≡ map (image stands) ws
    → HasItsPins kind (length ws) → HasItsPins kind (length images)
has_images stands ws images kind e has =
    subst (HasItsPins kind) (sym (ap length e ∙ length_images stands ws)) has

pub makes_back : (r : Result Wire Memory) (old new : List gate.Gate) (stands images : List Wire) (g : gate.Gate)
    → images ≡ map (image stands) g.pins
    → IfOk r (λ w. Makes old new images w (λ row. output_of row g.kind images))
    → IfOk r (λ w. Makes old new (map (image stands) g.pins) w (λ row. gate_value (row_back stands row) g))
makes_back (Err x) old new stands images g e makes = tt
makes_back (Ok w) old new stands images g e makes =
    let ps = map (image stands) g.pins in
    makes_as old new ps w (λ row. output_of row g.kind ps) (λ row. gate_value (row_back stands row) g)
    (λ row. output_back stands row g.kind g.pins)
    (subst (λ images. Makes old new images w (λ row. output_of row g.kind images)) e makes)

pub built_back : (r : Result Wire Memory) (old new : List gate.Gate) (stands images : List Wire) (g : gate.Gate)
    → images ≡ map (image stands) g.pins
    → OnOk r (IsBuilt old → IsPlain (record { kind = g.kind; pins = images }) → IsBuilt new)
    → OnOk r (IsBuilt old → IsPlain g → IsBuilt new)
built_back (Err x) old new stands images g e built = tt
built_back (Ok w) old new stands images g e built = λ b plain.
    built b (record {
      kind = plain.kind;
      pins = let few = plain.pins in omega (arith, few, ap length e, length_images stands g.pins);
    })

-- ---- images are there

-- the first n gates have wires that stand for them
pub record FoldsTo (source : Circuit) (n : ℕ) (gates : List gate.Gate) (stands : List Wire) : Type 0 where
  pub long : length stands ≡ n
  pub few : length gates ≤ n
  pub fit : AllFit (length source.inputs) (length source.registers) gates
  pub there : (k : ℕ) → k < n
      → IsThere (length source.inputs) (length source.registers) (length gates) (wire_at stands k)
  pub rows : (row : Row) → IsRow gates row → HoldsBelow n source.gates (row_back stands row)
  pub built : IsBuilt source.gates → IsBuilt gates

pub image_there : (i r n m : ℕ) (stands : List Wire) (w : Wire) → IsThere i r n w
    → ((k : ℕ) → k < n → IsThere i r m (wire_at stands k)) → IsThere i r m (image stands w)
image_there i r n m stands (Const b) there each = tt
image_there i r n m stands Reset there each = tt
image_there i r n m stands (Input k) there each = there
image_there i r n m stands (Reg k) there each = there
image_there i r n m stands (Gate k) there each = each k there

pub images_there : (i r n m : ℕ) (stands ws : List Wire) → AllThere i r n ws
    → ((k : ℕ) → k < n → IsThere i r m (wire_at stands k)) → AllThere i r m (map (image stands) ws)
images_there i r n m stands ws there each = record { each = one ws there.each }
  where
    one : (ws : List Wire) → ((k : ℕ) (w : Wire) → slice_get ws k ≡ Some w → IsThere i r n w) → (k : ℕ) (v : Wire)
        → slice_get (map (image stands) ws) k ≡ Some v → IsThere i r m v
    one [] h k v e = absurd (cc)
    one (w ∷ ws) h zero v e =
        subst (IsThere i r m) (same_Some (image stands w) v e) (image_there i r n m stands w (h 0 w refl) each)
    one (w ∷ ws) h (suc k) v e = one ws (λ j x at. h (suc j) x at) k v e

pub agree_pushed : (r n : ℕ) (stands : List Wire) (w : Wire) (row : Row) → length stands ≡ n
    → Agree r n (row_back stands row) (row_back (stands ++ w ∷ []) row)
agree_pushed r n stands w row long = record {
  registers = λ k h. refl;
  reset = refl;
  vector = refl;
  gates = λ k h. ap (value row) (sym (get_or_append_left stands (w ∷ []) (Const false) k (omega (arith, long))));
}

pub wire_at_end : (stands : List Wire) (w : Wire) (n : ℕ) → length stands ≡ n → wire_at (stands ++ w ∷ []) n ≡ w
wire_at_end stands w n long =
    ap (wire_at (stands ++ w ∷ [])) (sym long) ∙ get_or-append_seam stands w [] (Const false)

pub folds_none : (source : Circuit) → FoldsTo source 0 [] []
folds_none source = record {
  long = refl;
  few = omega arith;
  fit = record { each = λ n g e. absurd (cc) };
  there = λ k h. absurd (omega arith);
  rows = λ row is. record { each = λ k g h e. absurd (omega arith) };
  built = λ b. record { each = λ n g e. absurd (cc) };
}

pub folds_more : (source : Circuit) (n : ℕ) (x : gate.Gate) (gates gates' : List gate.Gate) (stands : List Wire)
    (w : Wire) → IsCircuit source → slice_get source.gates n ≡ Some x → FoldsTo source n gates stands
    → Makes gates gates' (map (image stands) x.pins) w (λ row. gate_value (row_back stands row) x)
    → (IsBuilt gates → IsPlain x → IsBuilt gates')
    → FoldsTo source (n + 1) gates' (stands ++ w ∷ [])
folds_more source n x gates gates' stands w ok at before makes built =
    let i = length source.inputs in
    let r = length source.registers in
    let longer = length_pushed stands w in
    let pins = images_there i r n (length gates) stands x.pins ((ok.gates_fit n x at).there) before.there in
    record {
      long = omega (arith, longer, before.long);
      few = omega (arith, makes.most, before.few);
      fit = makes.fit i r before.fit pins;
      there = λ k h. elim (cases_lt k n) [
        | inl lt ↦
            subst (IsThere i r (length gates'))
            (sym (get_or_append_left stands (w ∷ []) (Const false) k (omega (arith, lt, before.long))))
            (there_more i r r (length gates) (length gates') (wire_at stands k) (omega arith) makes.fewest
            (before.there k lt))
        | inr ge ↦
            let same : k ≡ n = omega arith in
            subst (IsThere i r (length gates'))
            (sym (ap (wire_at (stands ++ w ∷ [])) same ∙ wire_at_end stands w n before.long))
            (makes.there i r before.fit pins)
      ];
      rows = λ row is.
          subst (λ j. HoldsBelow j source.gates (row_back (stands ++ w ∷ []) row)) (sym (add-one n))
          (holds_more i r n source.gates x (row_back stands row) (row_back (stands ++ w ∷ []) row)
          (ordered_gates source ok) at (agree_pushed r n stands w row before.long)
          (ap (value row) (wire_at_end stands w n before.long) ∙ makes.meaning row is)
          (before.rows row (makes.rows row is)));
      built = λ b. built (before.built b) (b.each n x at);
    }

pub folded_whole : (source : Circuit) (n : ℕ) (gates : List gate.Gate) (stands : List Wire)
    → n ≡ length source.gates → FoldsTo source n gates stands → HasNeatForms gates → IsFolded source gates stands
folded_whole source n gates stands e folds neat = record {
  long = folds.long ∙ e;
  few = omega (arith, folds.few, e);
  fit = folds.fit;
  there = λ k h. folds.there k (omega (arith, folds.long));
  rows = λ row is. record {
    each = λ k g at.
        let low = slice_get_within source.gates k g at in (folds.rows row is).each k g (omega (arith, low, e)) at;
  };
  neat = neat;
  built = folds.built;
}
