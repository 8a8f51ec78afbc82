-- The readers of each wire, as they are found: nodes that name a gate and the node before, and for each wire its last.
use Rattle.std.specs.Prelude.{◌≡◌, ℕ, ◌+◌, ◌-◌, ◌<◌, ◌≤◌, Bool, false, nat_eq, cond}
use Rattle.std.specs.Prelude.{List, [], ◌∷◌, length, slice_index_or}
use Rattle.net_core.specs.declared.gate.Wire.{Wire}
use Rattle.net_eval.specs.declared.chains.Chains.{Chains}
use Rattle.net_core.specs.Circuits.{IsThere}
use Rattle.net_eval.specs.Readers.{Readers, gate_count, readers_at, wire_number}

-- from this node on the gates are these; 0 is no node, and h the node before place h
abbrev pub IsChain : List ℕ → List ℕ → ℕ → List ℕ → Type 0
IsChain gates nexts h [] = h ≡ 0
IsChain gates nexts h (x ∷ xs) =
    (0 < h) × (h ≤ length gates) × (slice_index_or gates (h - 1) 0 ≡ x)
    × IsChain gates nexts (slice_index_or nexts (h - 1) 0) xs

-- the gate is the first of the list
abbrev pub is_first : ℕ → List ℕ → Bool
is_first g [] = false
is_first g (x ∷ xs) = nat_eq x g

-- the list with the gate in front, unless it is there
abbrev pub with_first : ℕ → List ℕ → List ℕ
with_first g xs = cond (is_first g xs) xs (g ∷ xs)

-- the list of the wire in place k
abbrev pub IsList : Chains → ℕ → List ℕ → Type 0
IsList c k xs = IsChain c.gates.items c.nexts.items (slice_index_or c.heads.items k 0) xs

-- each node names an earlier one, and each wire a node or none
pub record AreSound (c : Chains) : Type 0 where
  pub long : length c.gates.items ≡ length c.nexts.items
  pub earlier : (k : ℕ) → k < length c.nexts.items → slice_index_or c.nexts.items k 0 ≤ k
  pub within : (k : ℕ) → slice_index_or c.heads.items k 0 ≤ length c.nexts.items

-- each wire has its list
pub record Holds (c : Chains) (registers gates : ℕ) (of : Wire → List ℕ) : Type 0 where
  pub heads : length c.heads.items ≡ 67 + registers + gates
  pub sound : AreSound c
  pub each : (w : Wire) → IsThere 64 registers gates w → IsList c (wire_number registers w) (of w)

-- the lists are these
pub record HasLists (f : Readers) (registers gates : ℕ) (of : Wire → List ℕ) : Type 0 where
  pub registers_are : f.registers ≡ registers
  pub gates_are : gate_count f ≡ gates
  pub lists : (w : Wire) → IsThere 64 registers gates w → readers_at f w ≡ of w
