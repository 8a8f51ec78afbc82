-- Copies of gates behind other gates.
use Rattle.std.proofs.Common.{◌≡◌, ℕ, zero, suc, ◌+◌, ◌<◌, ◌≤◌, not}
use Rattle.std.proofs.Common.{List, [], ◌∷◌, ◌++◌, length, length-append, length-take, map, take, get_or, Some, refl}
use Rattle.std.proofs.Common.{sym, ap, ◌∙◌, subst, arith}
use Rattle.std.specs.Prelude.{slice_get}
use Rattle.std.proofs.lemmas.Option.{same_Some}
use Rattle.net_core.specs.declared.gate.Wire.{Wire}
use Rattle.net_core.specs.declared.gate.Wire.TheVariants.{Const, Reset, Input, Reg, Gate}
use Rattle.net_core.specs.declared.gate.GateKind.{GateKind}
use Rattle.net_core.specs.declared.gate.GateKind.TheVariants as kind
use Rattle.net_core.specs.declared.gate.Gate as gate
use Rattle.net_core.specs.Rows.{Row, IsRow, value, all_of, any_of, odd_of, output_of}
use Rattle.net_core.specs.Circuits.{Circuit, IsCircuit, IsThere, AllThere, FitsAfter, FitsIn, HasItsPins}
use Rattle.net_core.specs.Circuits.{wire_at}
use Rattle.net_core.specs.Building.{HasAll}
use Rattle.net_core.proofs.Invariant.{there_more}
use Rattle.net_encode.specs.inner.Moves.{moved, gate_moved, with_gates, AllFit, ReadsBelow, AllReadBelow}
use Rattle.net_encode.proofs.Running.{old_row}
use Rattle.net_encode.proofs.Decoding.{get_it}

pub reads_below : (i r n : ℕ) (w : Wire) → IsThere i r n w → ReadsBelow r w
reads_below i r n (Const b) h = tt
reads_below i r n Reset h = tt
reads_below i r n (Input k) h = tt
reads_below i r n (Reg k) h = h
reads_below i r n (Gate k) h = tt

pub all_read_below : (i r n : ℕ) (ws : List Wire) → AllThere i r n ws → AllReadBelow r ws
all_read_below i r n ws h = record { each = λ k w at. reads_below i r n w (h.each k w at) }

-- ---- where moved gates may stand

length_map : {X Y : Type 0} (f : X → Y) (xs : List X) → length (map f xs) ≡ length xs
length_map f [] = refl
length_map f (x ∷ xs) = ap suc (length_map f xs)

pub get_of_map : {X Y : Type 0} (f : X → Y) (xs : List X) (k : ℕ) (y : Y) → slice_get (map f xs) k ≡ Some y
    → (x : X) × (slice_get xs k ≡ Some x) × (f x ≡ y)
get_of_map f [] k y h = absurd (cc)
get_of_map f (x ∷ xs) zero y h = (x, refl, same_Some (f x) y h)
get_of_map f (x ∷ xs) (suc k) y h = get_of_map f xs k y h

pub moved_there : (first : Circuit) (table : List Wire) (n m : ℕ) (w : Wire) → HasAll first table
    → length first.gates + n ≤ m → IsThere (length first.inputs) (length table) n w
    → IsThere (length first.inputs) (length first.registers) m (moved table (length first.gates) w)
moved_there first table n m (Const b) all low h = tt
moved_there first table n m Reset all low h = tt
moved_there first table n m (Input k) all low h = h
moved_there first table n m (Reg r) all low h =
    there_more (length first.inputs) (length first.registers) (length first.registers) (length first.gates) m
    (wire_at table r) (omega arith) (omega arith) (all.each r h)
moved_there first table n m (Gate k) all low h = omega arith

fits_moved : (first : Circuit) (table : List Wire) (n m : ℕ) (g : gate.Gate) → HasAll first table
    → length first.gates + n ≤ m → FitsAfter (length first.inputs) (length table) n g
    → FitsAfter (length first.inputs) (length first.registers) m (gate_moved table (length first.gates) g)
fits_moved first table n m g all low fits = record {
  there = record {
    each = λ k w at.
        let from = get_of_map (moved table (length first.gates)) g.pins k w at in
        subst (IsThere (length first.inputs) (length first.registers) m) from.2
        (moved_there first table n m from.0 all low (fits.there.each k from.0 from.1));
  };
  count = subst (HasItsPins g.kind) (sym (length_map (moved table (length first.gates)) g.pins)) fits.count;
}

pub next_fits : (first draft : Circuit) (table : List Wire) (gates : List gate.Gate) (n : ℕ) (d : gate.Gate)
    → HasAll first table → AllFit (length first.inputs) (length table) gates → n < length gates
    → draft ≡ with_gates first (map (gate_moved table (length first.gates)) (take n gates))
    → FitsIn draft (gate_moved table (length first.gates) (get_or gates n d))
next_fits first draft table gates n d all fit low is =
    let g = get_or gates n d in
    let front = map (gate_moved table (length first.gates)) (take n gates) in
    let long : length first.gates + n ≤ length (first.gates ++ front) =
    omega (
      arith,
      length-append first.gates front,
      length_map (gate_moved table (length first.gates)) (take n gates),
      length-take n gates,
      low,
    ) in
    subst (λ (c : Circuit). FitsIn c (gate_moved table (length first.gates) g)) (sym is)
    (fits_moved first table n (length (first.gates ++ front)) g all long (fit.each n g (get_it gates n d low)))

-- ---- what moved wires and gates show

moved_value : (table : List Wire) (offset : ℕ) (row : Row) (w : Wire)
    → value row (moved table offset w) ≡ value (old_row table offset row) w
moved_value table offset row (Const b) = refl
moved_value table offset row Reset = refl
moved_value table offset row (Input n) = refl
moved_value table offset row (Reg r) = refl
moved_value table offset row (Gate n) = refl

module _ (table : List Wire) (offset : ℕ) (row : Row) where
  all_moved : (ws : List Wire) → all_of row (map (moved table offset) ws) ≡ all_of (old_row table offset row) ws
  all_moved [] = refl
  all_moved (w ∷ ws) = rw (moved_value table offset row w, all_moved ws) refl

  any_moved : (ws : List Wire) → any_of row (map (moved table offset) ws) ≡ any_of (old_row table offset row) ws
  any_moved [] = refl
  any_moved (w ∷ ws) = rw (moved_value table offset row w, any_moved ws) refl

  odd_moved : (ws : List Wire) → odd_of row (map (moved table offset) ws) ≡ odd_of (old_row table offset row) ws
  odd_moved [] = refl
  odd_moved (w ∷ ws) = rw (moved_value table offset row w, odd_moved ws) refl

  output_is : (k : GateKind) (ws : List Wire)
      → output_of row k (map (moved table offset) ws) ≡ output_of (old_row table offset row) k ws
  output_is kind.Buf ws = all_moved ws
  output_is kind.Not ws = ap not (all_moved ws)
  output_is kind.And ws = all_moved ws
  output_is kind.Or ws = any_moved ws
  output_is kind.Nand ws = ap not (all_moved ws)
  output_is kind.Nor ws = ap not (any_moved ws)
  output_is kind.Xor ws = odd_moved ws
  output_is kind.Xnor ws = ap not (odd_moved ws)

  pub value_is : (w : Wire) → value row (moved table offset w) ≡ value (old_row table offset row) w
  value_is w = moved_value table offset row w

get_behind : {X : Type 0} (xs ys : List X) (n : ℕ) (y : X) → slice_get ys n ≡ Some y
    → slice_get (xs ++ ys) (length xs + n) ≡ Some y
get_behind [] ys n y h = let e : 0 + n ≡ n = omega arith in ap (slice_get ys) e ∙ h
get_behind (x ∷ xs) ys n y h =
    let e : suc (length xs) + n ≡ suc (length xs + n) = omega arith in
    ap (slice_get (x ∷ (xs ++ ys))) e ∙ get_behind xs ys n y h

pub get_mapped_gate : {X Y : Type 0} (f : X → Y) (xs : List X) (n : ℕ) (x : X) → slice_get xs n ≡ Some x
    → slice_get (map f xs) n ≡ Some (f x)
get_mapped_gate f [] n x h = absurd (cc)
get_mapped_gate f (y ∷ xs) zero x h = ap (λ z. Some (f z)) (same_Some y x h)
get_mapped_gate f (y ∷ xs) (suc n) x h = get_mapped_gate f xs n x h

-- a row of the copies is a row of the old gates
pub old_is_row : (front gates : List gate.Gate) (table : List Wire) (row : Row)
    → IsRow (front ++ map (gate_moved table (length front)) gates) row
    → IsRow gates (old_row table (length front) row)
old_is_row front gates table row is = record {
  each = λ n g at.
      is.each (length front + n) (gate_moved table (length front) g)
      (get_behind front (map (gate_moved table (length front)) gates) n (gate_moved table (length front) g)
      (get_mapped_gate (gate_moved table (length front)) gates n g at))
      ∙ output_is table (length front) row g.kind g.pins;
}

pub front_is_row : (front more : List gate.Gate) (row : Row) → IsRow (front ++ more) row → IsRow front row
front_is_row front more row is = record { each = λ n g at. is.each n g (get_front front more n g at) }
  where
    get_front : (xs ys : List gate.Gate) (n : ℕ) (x : gate.Gate) → slice_get xs n ≡ Some x
        → slice_get (xs ++ ys) n ≡ Some x
    get_front [] ys n x h = absurd (cc)
    get_front (y ∷ xs) ys zero x h = h
    get_front (y ∷ xs) ys (suc n) x h = get_front xs ys n x h

pub all_fit : (net : Circuit) (gates : List gate.Gate) (i r : ℕ) → IsCircuit net → gates ≡ net.gates
    → i ≡ length net.inputs → r ≡ length net.registers → AllFit i r gates
all_fit net gates i r ok is at many = record {
  each = λ n g here.
      subst (λ i. FitsAfter i r n g) (sym at) (subst (λ r. FitsAfter (length net.inputs) r n g) (sym many)
      (ok.gates_fit n g (ap (λ l. slice_get l n) (sym is) ∙ here)));
}

pub all_data : (net : Circuit) (ws : List Wire) (r : ℕ) → IsCircuit net → ws ≡ net.registers
    → r ≡ length net.registers → AllReadBelow r ws
all_data net ws r ok is many = record {
  each = λ k w at.
      subst (λ r. ReadsBelow r w) (sym many)
      (reads_below (length net.inputs) (length net.registers) (length net.gates) w
      (ok.data_there.each k w (ap (λ l. slice_get l k) (sym is) ∙ at)));
}
