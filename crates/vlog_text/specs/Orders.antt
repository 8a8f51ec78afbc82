-- The order of gates: of the gates not yet taken, in the order of the text, the first whose pins are all settled is
-- taken next.
use Rattle.std.specs.Prelude.{ℕ, zero, suc, Bool, true, not, ◌&&◌, nat_eq, List, [], ◌∷◌, ◌++◌, map, length, Option}
use Rattle.std.specs.Prelude.{Some, None, option_map, if◌then◌else◌, slice_get, unwrap_or}
use Rattle.std.specs.List.{list_any, filter_map, position_from}
use Rattle.net_core.specs.declared.gate.Wire.{Wire}
use Rattle.net_core.specs.declared.gate.Wire.TheVariants as wire
use Rattle.net_core.specs.declared.gate.Gate as gate

abbrev pub is_among : List ℕ → ℕ → Bool
is_among taken n = list_any (nat_eq n) taken

-- the wire is a constant, the reset, an input, a register or a taken gate
abbrev pub is_settled : (ℕ → Bool) → Wire → Bool
is_settled taken (wire.Gate n) = taken n
is_settled taken _ = true

abbrev pub all_settled : (ℕ → Bool) → List Wire → Bool
all_settled taken [] = true
all_settled taken (w ∷ ws) = is_settled taken w && all_settled taken ws

-- gate n, with these pins, can be taken next
abbrev pub can_be_taken : (ℕ → Bool) → ℕ → List Wire → Bool
can_be_taken taken n pins = not (taken n) && all_settled taken pins

-- the first gate that can be taken, of those from number n on
abbrev pub first_from : (ℕ → Bool) → ℕ → List gate.Gate → Option ℕ
first_from taken n [] = None
first_from taken n (g ∷ gs) = if can_be_taken taken n g.pins then Some n else first_from taken (suc n) gs

abbrev pub then_on : Option ℕ → List ℕ → (ℕ → List ℕ) → List ℕ
then_on None taken more = taken
then_on (Some n) taken more = more n

-- the numbers of the gates that are taken, behind those of `taken`: at most `left` more
abbrev pub order_from : List gate.Gate → ℕ → List ℕ → List ℕ
order_from gates zero taken = taken
order_from gates (suc left) taken =
    then_on (first_from (is_among taken) zero gates) taken (λ n. order_from gates left (taken ++ n ∷ []))

-- the numbers of the gates that are ever taken, in order
abbrev pub order_of : List gate.Gate → List ℕ
order_of gates = order_from gates (length gates) []

-- ---- gates in another order

-- the place of gate n in the order
abbrev pub place_in : List ℕ → ℕ → ℕ
place_in order n = unwrap_or (position_from (nat_eq n) 0 order) 0

-- the wire, a gate by its place
abbrev pub renumbered : (ℕ → ℕ) → Wire → Wire
renumbered place (wire.Gate n) = wire.Gate (place n)
renumbered place w = w

abbrev pub moved : (ℕ → ℕ) → gate.Gate → gate.Gate
moved place g = record { kind = g.kind; pins = map (renumbered place) g.pins }

-- the gates of the order, each pin with its gate's place in it
abbrev pub reordered : List gate.Gate → List ℕ → List gate.Gate
reordered gates order = filter_map (λ n. option_map (moved (place_in order)) (slice_get gates n)) order
