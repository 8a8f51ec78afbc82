-- Where gates come to stand.
use Rattle.std.proofs.Common.{◌≡◌, ℕ, zero, suc, ◌+◌, ◌<◌, inl, inr, Bool, true, false, not, cond, List, []}
use Rattle.std.proofs.Common.{◌∷◌, ◌++◌, length, map, take, Option, Some, None, get_or, refl, sym, ap, ◌∙◌, subst}
use Rattle.std.proofs.Common.{arith, append_assoc, length-append}
use Rattle.std.specs.Prelude.{slice_get, nat_eq, ◌||◌, unwrap_or}
use Rattle.std.specs.List.{position_from, filter_map, cons_option}
use Rattle.std.specs.Option.{option_map}
use Rattle.std.proofs.lemmas.Bool.{and_parts, cases_Bool}
use Rattle.std.proofs.lemmas.List.Elements.{filter_map-append}
use Rattle.std.proofs.lemmas.Grind.{common_steps}
use Rattle.std.proofs.lemmas.List.{append-nil}
use Rattle.std.proofs.lemmas.Option.{same_Some, slice_get_within}
use Rattle.net_core.specs.declared.gate.Wire.{Wire}
use Rattle.net_core.specs.declared.gate.Wire.TheVariants.{Const, Reset, Input, Reg, Gate}
use Rattle.net_core.specs.declared.gate as netlist
use Rattle.vlog_text.specs.Orders.{is_among, then_on}
use Rattle.vlog_text.specs.Orders.{all_settled, can_be_taken, first_from, order_from, order_of, place_in}
use Rattle.vlog_text.specs.Orders.{renumbered, moved, reordered}
use Rattle.vlog_text.proofs.OrderLemmas.{AreEarlier, each_settled}

-- each of the numbers is the first gate that can be taken after those before it
abbrev pub GoesOn : List netlist.Gate.Gate → List ℕ → List ℕ → Type 0
GoesOn gates taken [] = Unit {0}
GoesOn gates taken (n ∷ rest) =
    (first_from (is_among taken) zero gates ≡ Some n) × GoesOn gates (taken ++ n ∷ []) rest

-- the place of gate n in the order, from place k on
abbrev pub place_from : ℕ → List ℕ → ℕ → ℕ
place_from k order n = unwrap_or (position_from (nat_eq n) k order) 0

-- the pins that are gates are below a number
pub record PinsBelow (count : ℕ) (pins : List Wire) : Type 0 where
  pub each : (i m : ℕ) → slice_get pins i ≡ Some (Gate m) → m < count

pins_after : (count : ℕ) (w : Wire) (ws : List Wire) → PinsBelow count (w ∷ ws) → PinsBelow count ws
pins_after count w ws h = record { each = λ i m e. h.each (suc i) m e }

renumbered_same : (f g : ℕ → ℕ) (count : ℕ) (w : Wire) → ((n : ℕ) → n < count → f n ≡ g n)
    → ((m : ℕ) → w ≡ Gate m → m < count) → renumbered f w ≡ renumbered g w
renumbered_same f g count (Const b) h below = refl
renumbered_same f g count Reset h below = refl
renumbered_same f g count (Input n) h below = refl
renumbered_same f g count (Reg n) h below = refl
renumbered_same f g count (Gate n) h below = ap (λ m. Gate m) (h n (below n refl))

pins_same : (f g : ℕ → ℕ) (count : ℕ) (ws : List Wire) → ((n : ℕ) → n < count → f n ≡ g n) → PinsBelow count ws
    → map (renumbered f) ws ≡ map (renumbered g) ws
pins_same f g count [] h below = refl
pins_same f g count (w ∷ ws) h below =
    ap (λ x. x ∷ map (renumbered f) ws) (renumbered_same f g count w h (λ m e. below.each zero m (ap (λ y. Some y) e)))
    ∙ ap (λ xs. renumbered g w ∷ xs) (pins_same f g count ws h (pins_after count w ws below))

-- two numberings that agree on what the gate names
pub moved_same : (f g : ℕ → ℕ) (count : ℕ) (x : netlist.Gate.Gate) → ((n : ℕ) → n < count → f n ≡ g n)
    → PinsBelow count x.pins → moved f x ≡ moved g x
moved_same f g count x h below =
    ap (λ (pins : List Wire). let new : netlist.Gate.Gate = record { kind = x.kind; pins = pins } in new)
    (pins_same f g count x.pins h below)

-- one gate more
pub moved_more : (gates : List netlist.Gate.Gate) (place : ℕ → ℕ) (order : List ℕ) (k n : ℕ) (x new : netlist.Gate.Gate)
    → k < length order → n ≡ get_or order k 0 → slice_get gates n ≡ Some x → new ≡ moved place x
    → filter_map (λ n. option_map (moved place) (slice_get gates n)) (take k order) ++ new ∷ []
    ≡ filter_map (λ n. option_map (moved place) (slice_get gates n)) (take (k + 1) order)
moved_more gates place order k n x new within at there e =
    sym (ap (λ xs. filter_map f xs) (take_more order k within)
    ∙ filter_map-append f (take k order) (get_or order k 0 ∷ [])
    ∙ ap (λ j. filter_map f (take k order) ++ filter_map f (j ∷ [])) (sym at)
    ∙ ap (λ o. filter_map f (take k order) ++ one (option_map (moved place) o)) there
    ∙ ap (λ y. filter_map f (take k order) ++ y ∷ []) (sym e))
  where
    f : ℕ → Option netlist.Gate.Gate
    f = λ n. option_map (moved place) (slice_get gates n)

    one : Option netlist.Gate.Gate → List netlist.Gate.Gate
    one o = filter_map (λ _. o) (zero ∷ [])

    take_more : (xs : List ℕ) (k : ℕ) → k < length xs → take (k + 1) xs ≡ take k xs ++ get_or xs k 0 ∷ []
    take_more xs k h = grind (arith, common_steps)

-- where a gate stands that is among the first
place_among : (k m : ℕ) (taken more : List ℕ) → is_among taken m ≡ true
    → place_from k (taken ++ more) m < k + length taken
place_among k m [] more h = absurd (λ_no h)
  where
    λ_no : false ≡ true → ⊥
    λ_no e = cc
place_among k m (t ∷ ts) more h = elim (cases_Bool (nat_eq m t)) [
  | inl e ↦ let here : place_from k (t ∷ ts ++ more) m ≡ k =
      ap (λ b. unwrap_or (cond b (Some k) (position_from (nat_eq m) (k + 1) (ts ++ more))) 0) e in omega arith
  | inr e ↦
      let there : place_from k (t ∷ ts ++ more) m ≡ place_from (k + 1) (ts ++ more) m
      = ap (λ b. unwrap_or (cond b (Some k) (position_from (nat_eq m) (k + 1) (ts ++ more))) 0) e in
      let rest = place_among (k + 1) m ts more (ap (λ b. b || is_among ts m) (sym e) ∙ h) in
      omega arith
]

-- the first that can be taken is there, and can be taken
pub first_is : (taken : ℕ → Bool) (n : ℕ) (gs : List netlist.Gate.Gate) (m : ℕ) → first_from taken n gs ≡ Some m
    → (k : ℕ) × (g : netlist.Gate.Gate) × (m ≡ n + k) × (slice_get gs k ≡ Some g) × (can_be_taken taken m g.pins ≡ true)
first_is taken n [] m h = cc
first_is taken n (g ∷ gs) m h = elim (cases_Bool (can_be_taken taken n g.pins)) [
  | inl can ↦
      let same : n ≡ m = same_Some n m (ap (λ b. cond b (Some n) (first_from taken (suc n) gs)) (sym can) ∙ h) in
      (zero, g, omega arith, refl, subst (λ j. can_be_taken taken j g.pins ≡ true) same can)
  | inr cannot ↦
      let r = first_is taken (suc n) gs m (ap (λ b. cond b (Some n) (first_from taken (suc n) gs)) (sym cannot) ∙ h) in
      (suc r.0, r.1, omega (arith, r.2), r.3, r.4)
]

-- the order goes on by what can be taken
pub order_goes_on : (gates : List netlist.Gate.Gate) (left : ℕ) (taken : List ℕ)
    → (rest : List ℕ) × ((order_from gates left taken ≡ taken ++ rest) × GoesOn gates taken rest)
order_goes_on gates zero taken = ([], (sym (append-nil taken), tt))
order_goes_on gates (suc left) taken =
    go (λ n. order_goes_on gates left (taken ++ n ∷ [])) (first_from (is_among taken) zero gates) refl
  where
    go :
        ((n : ℕ) → (rest : List ℕ) ×
        ((order_from gates left (taken ++ n ∷ []) ≡ taken ++ n ∷ [] ++ rest) × GoesOn gates (taken ++ n ∷ []) rest))
        → (o : Option ℕ) → first_from (is_among taken) zero gates ≡ o
        → (rest : List ℕ) × ((order_from gates (suc left) taken ≡ taken ++ rest) × GoesOn gates taken rest)
    go more None e =
        ([], (ap (λ o. then_on o taken (λ n. order_from gates left (taken ++ n ∷ []))) e ∙ sym (append-nil taken), tt))
    go more (Some n) e =
        let r = more n in (
          n ∷ r.0,
          (
            ap (λ o. then_on o taken (λ n. order_from gates left (taken ++ n ∷ []))) e ∙ r.1.0
                ∙ append_assoc taken (n ∷ []) r.0,
            (e, r.1.1),
          ),
        )

-- what is in the order is there
pub ordered_there : (gates : List netlist.Gate.Gate) (taken rest : List ℕ) → GoesOn gates taken rest → (i n : ℕ)
    → slice_get rest i ≡ Some n → n < length gates
ordered_there gates taken [] h i n e = cc
ordered_there gates taken (x ∷ rest) h zero n e =
    let r = first_is (is_among taken) zero gates x h.0 in
    let within = slice_get_within gates r.0 r.1 r.3 in
    let same = same_Some x n e in
    omega (arith, r.2)
ordered_there gates taken (x ∷ rest) h (suc i) n e = ordered_there gates (taken ++ x ∷ []) rest h.1 i n e

pub order_there : (gates : List netlist.Gate.Gate) (i n : ℕ) → slice_get (order_of gates) i ≡ Some n → n < length gates
order_there gates i n e =
    let r = order_goes_on gates (length gates) [] in
    ordered_there gates [] r.0 r.1.1 i n (ap (λ xs. slice_get xs i) (sym r.1.0) ∙ e)

-- a renumbered pin that is a gate
pin_was : (place : ℕ → ℕ) (pins : List Wire) (i m : ℕ) → slice_get (map (renumbered place) pins) i ≡ Some (Gate m)
    → (n : ℕ) × ((slice_get pins i ≡ Some (Gate n)) × (m ≡ place n))
pin_was place [] i m e = cc
pin_was place (Const b ∷ pins) zero m e = cc
pin_was place (Reset ∷ pins) zero m e = cc
pin_was place (Input n ∷ pins) zero m e = cc
pin_was place (Reg n ∷ pins) zero m e = cc
pin_was place (Gate n ∷ pins) zero m e = (n, (refl, cc))
pin_was place (w ∷ pins) (suc i) m e = pin_was place pins i m e

-- gates of these numbers, with the places that they have in the whole order
abbrev placed : List netlist.Gate.Gate → List ℕ → List ℕ → List netlist.Gate.Gate
placed gates order numbers = filter_map (λ n. option_map (moved (place_in order)) (slice_get gates n)) numbers

first_or_later : (gates : List netlist.Gate.Gate) (order taken : List ℕ) (x : ℕ) (rest : List ℕ)
    → order ≡ taken ++ x ∷ rest → (old : netlist.Gate.Gate) → all_settled (is_among taken) old.pins ≡ true
    → (j : ℕ) (g : netlist.Gate.Gate) (i m : ℕ)
    → slice_get (moved (place_in order) old ∷ placed gates order rest) j ≡ Some g
    → slice_get g.pins i ≡ Some (Gate m)
    → ((k : ℕ) → slice_get (placed gates order rest) k ≡ Some g → m < suc (length taken) + k)
    → m < length taken + j
first_or_later gates order taken x rest e old settled zero g i m at pin later =
    let same = same_Some (moved (place_in order) old) g at in
    let was = pin_was (place_in order) old.pins i m
    (subst (λ (y : netlist.Gate.Gate). slice_get y.pins i ≡ Some (Gate m)) (sym same) pin) in
    let among = each_settled (is_among taken) old.pins i (Gate was.0) settled was.1.0 in
    let below = place_among 0 was.0 taken (x ∷ rest) among in
    let place : place_in order was.0 ≡ place_in (taken ++ x ∷ rest) was.0 = ap (λ o. place_in o was.0) e in
    omega (arith, was.1.1)
first_or_later gates order taken x rest e old settled (suc j) g i m at pin later = omega (arith, later j at)

-- each gate's pins name gates before it
earlier_from : (gates : List netlist.Gate.Gate) (order taken rest : List ℕ) → order ≡ taken ++ rest
    → GoesOn gates taken rest → (j : ℕ) (g : netlist.Gate.Gate) (i m : ℕ)
    → slice_get (placed gates order rest) j ≡ Some g → slice_get g.pins i ≡ Some (Gate m) → m < length taken + j
earlier_from gates order taken [] e h j g i m at pin = cc
earlier_from gates order taken (x ∷ rest) e h j g i m at pin =
    let r = first_is (is_among taken) zero gates x h.0 in
    let there : slice_get gates x ≡ Some r.1 = subst (λ k. slice_get gates k ≡ Some r.1) (omega (arith, r.2)) r.3 in
    let settled = (and_parts (not (is_among taken x)) (all_settled (is_among taken) r.1.pins) r.4).1 in
    let behind : List netlist.Gate.Gate = placed gates order rest in
    let next = ap (λ o. slice_get (cons_option (option_map (moved (place_in order)) o) behind) j) (sym there) in
    let split = e ∙ sym (append_assoc taken (x ∷ []) rest) in
    first_or_later gates order taken x rest e r.1 settled j g i m (next ∙ at) pin
    (λ k at_k. omega (
      arith,
      earlier_from gates order (taken ++ x ∷ []) rest split h.1 k g i m at_k pin,
      length-append taken (x ∷ []),
    ))

pub reordered_earlier : (gates : List netlist.Gate.Gate) → AreEarlier (reordered gates (order_of gates))
reordered_earlier gates =
    let order : List ℕ = order_of gates in
    let r = order_goes_on gates (length gates) [] in
    record {
      each = λ j g i m at pin.
          let same = ap (λ xs. slice_get (placed gates order xs) j) (sym r.1.0) in
          omega (arith, earlier_from gates order [] r.0 r.1.0 r.1.1 j g i m (same ∙ at) pin);
    }
