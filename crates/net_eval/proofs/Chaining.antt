-- Chains that grow.
use Rattle.std.proofs.Common.{◌≡◌, ℕ, zero, suc, ◌+◌, ◌-◌, ◌<◌, Bool, true, false, ◌||◌}
use Rattle.std.proofs.Common.{List, [], ◌∷◌, ◌++◌, length, get_or, take, drop}
use Rattle.std.proofs.Common.{inl, inr, refl, sym, ap, subst, ◌∙◌, cond, arith, length-append}
use Rattle.std.specs.Prelude.{nat_eq, slice_set, slice_get, Some}
use Rattle.std.proofs.lemmas.Bool.{cases_Bool, cases_lt, cases_eq}
use Rattle.std.proofs.lemmas.Bool.Decides.{nat_tests}
use Rattle.std.proofs.lemmas.Option.{same_Some}
use Rattle.std.proofs.Math.Seq.{get_or-append_seam}
use Rattle.std.proofs.lemmas.List.{get_or-set_same, get_or-set_other, get_or_append_left}
use Rattle.net_core.specs.declared.gate.Wire.{Wire}
use Rattle.net_core.specs.declared.gate.Wire.TheVariants.{Const, Reset, Input, Reg, Gate}
use Rattle.net_core.specs.declared.gate.Gate as gate
use Rattle.net_eval.specs.declared.chains.Chains.{Chains}
use Rattle.net_core.specs.Circuits.{IsThere}
use Rattle.net_eval.specs.Readers.{has_pin, is_wire, readers_from, wire_number}
use Rattle.net_eval.specs.inner.Chains.{AreSound, Holds, IsChain, is_first, with_first}

-- ---- wires and their numbers

same_const : (a b : Bool) → is_wire (Const a) (Const b) ≡ true → Const a ≡ Const b
same_const true true h = refl
same_const true false h = absurd (cc)
same_const false true h = absurd (cc)
same_const false false h = refl

same_numbers : (m n : ℕ) → nat_eq m n ≡ true → m ≡ n
same_numbers m n h = grind (arith, nat_tests)

pub same_wire : (v w : Wire) → is_wire v w ≡ true → v ≡ w
same_wire (Const a) (Const b) h = same_const a b h
same_wire (Const a) Reset h = absurd (cc)
same_wire (Const a) (Input n) h = absurd (cc)
same_wire (Const a) (Reg n) h = absurd (cc)
same_wire (Const a) (Gate n) h = absurd (cc)
same_wire Reset (Const b) h = absurd (cc)
same_wire Reset Reset h = refl
same_wire Reset (Input n) h = absurd (cc)
same_wire Reset (Reg n) h = absurd (cc)
same_wire Reset (Gate n) h = absurd (cc)
same_wire (Input m) (Const b) h = absurd (cc)
same_wire (Input m) Reset h = absurd (cc)
same_wire (Input m) (Input n) h = ap (λ k. Input k) (same_numbers m n h)
same_wire (Input m) (Reg n) h = absurd (cc)
same_wire (Input m) (Gate n) h = absurd (cc)
same_wire (Reg m) (Const b) h = absurd (cc)
same_wire (Reg m) Reset h = absurd (cc)
same_wire (Reg m) (Input n) h = absurd (cc)
same_wire (Reg m) (Reg n) h = ap (λ k. Reg k) (same_numbers m n h)
same_wire (Reg m) (Gate n) h = absurd (cc)
same_wire (Gate m) (Const b) h = absurd (cc)
same_wire (Gate m) Reset h = absurd (cc)
same_wire (Gate m) (Input n) h = absurd (cc)
same_wire (Gate m) (Reg n) h = absurd (cc)
same_wire (Gate m) (Gate n) h = ap (λ k. Gate k) (same_numbers m n h)

other_numbers : (m n : ℕ) → nat_eq m n ≡ false → m ≡ n → ⊥
other_numbers m n h e = grind (arith, nat_tests)

-- wires that are there have different numbers
pub other_wire : (r g : ℕ) (v w : Wire) → IsThere 64 r g v → IsThere 64 r g w → is_wire v w ≡ false
    → wire_number r v ≡ wire_number r w → ⊥
other_wire r g (Const true) (Const true) p q h e = absurd (cc)
other_wire r g (Const true) (Const false) p q h e = omega arith
other_wire r g (Const false) (Const true) p q h e = omega arith
other_wire r g (Const false) (Const false) p q h e = absurd (cc)
other_wire r g (Const true) Reset p q h e = omega arith
other_wire r g (Const false) Reset p q h e = omega arith
other_wire r g (Const true) (Input n) p q h e = omega arith
other_wire r g (Const false) (Input n) p q h e = omega arith
other_wire r g (Const true) (Reg n) p q h e = omega arith
other_wire r g (Const false) (Reg n) p q h e = omega arith
other_wire r g (Const true) (Gate n) p q h e = omega arith
other_wire r g (Const false) (Gate n) p q h e = omega arith
other_wire r g Reset (Const true) p q h e = omega arith
other_wire r g Reset (Const false) p q h e = omega arith
other_wire r g Reset Reset p q h e = absurd (cc)
other_wire r g Reset (Input n) p q h e = omega arith
other_wire r g Reset (Reg n) p q h e = omega arith
other_wire r g Reset (Gate n) p q h e = omega arith
other_wire r g (Input m) (Const true) p q h e = omega arith
other_wire r g (Input m) (Const false) p q h e = omega arith
other_wire r g (Input m) Reset p q h e = omega arith
other_wire r g (Input m) (Input n) p q h e = other_numbers m n h (omega arith)
other_wire r g (Input m) (Reg n) p q h e = omega arith
other_wire r g (Input m) (Gate n) p q h e = omega arith
other_wire r g (Reg m) (Const true) p q h e = omega arith
other_wire r g (Reg m) (Const false) p q h e = omega arith
other_wire r g (Reg m) Reset p q h e = omega arith
other_wire r g (Reg m) (Input n) p q h e = omega arith
other_wire r g (Reg m) (Reg n) p q h e = other_numbers m n h (omega arith)
other_wire r g (Reg m) (Gate n) p q h e = omega arith
other_wire r g (Gate m) (Const true) p q h e = omega arith
other_wire r g (Gate m) (Const false) p q h e = omega arith
other_wire r g (Gate m) Reset p q h e = omega arith
other_wire r g (Gate m) (Input n) p q h e = omega arith
other_wire r g (Gate m) (Reg n) p q h e = omega arith
other_wire r g (Gate m) (Gate n) p q h e = other_numbers m n h (omega arith)

pub number_below : (r g : ℕ) (w : Wire) → IsThere 64 r g w → wire_number r w < 67 + r + g
number_below r g (Const true) h = omega arith
number_below r g (Const false) h = omega arith
number_below r g Reset h = omega arith
number_below r g (Input n) h = omega arith
number_below r g (Reg n) h = omega arith
number_below r g (Gate n) h = omega arith

-- ---- one chain

pub get_end : (xs : List ℕ) (y k : ℕ) → k ≡ length xs → get_or (xs ++ y ∷ []) k 0 ≡ y
get_end xs y k h = ap (λ j. get_or (xs ++ y ∷ []) j 0) h ∙ get_or-append_seam xs y [] 0

chain_grown : (gates nexts ys zs : List ℕ) (h : ℕ) (xs : List ℕ) → length gates ≡ length nexts
    → IsChain gates nexts h xs → IsChain (gates ++ ys) (nexts ++ zs) h xs
chain_grown gates nexts ys zs h [] long c = c
chain_grown gates nexts ys zs h (x ∷ xs) long c =
    let low : h - 1 < length gates = let some = c.0 in let most = c.1 in omega arith in
    let longer = length-append gates ys in (
      c.0,
      let most = c.1 in omega (arith, longer),
      get_or_append_left gates ys 0 (h - 1) low ∙ c.2,
      subst (λ j. IsChain (gates ++ ys) (nexts ++ zs) j xs) (sym (get_or_append_left nexts zs 0 (h - 1) (omega arith)))
          (chain_grown gates nexts ys zs (get_or nexts (h - 1) 0) xs long c.3),
    )

pub first_is : (gates nexts : List ℕ) (h g : ℕ) (xs : List ℕ) → IsChain gates nexts h xs → 0 < h
    → is_first g xs ≡ nat_eq (get_or gates (h - 1) 0) g
first_is gates nexts h g [] c some = absurd (omega arith)
first_is gates nexts h g (x ∷ xs) c some = ap (λ y. nat_eq y g) (sym c.2)

pub first_none : (gates nexts : List ℕ) (h g : ℕ) (xs : List ℕ) → IsChain gates nexts h xs → h ≡ 0
    → is_first g xs ≡ false
first_none gates nexts h g [] c none = refl
first_none gates nexts h g (x ∷ xs) c none = absurd (let some = c.0 in omega arith)

-- ---- all chains

pub holds_same : (c : Chains) (r n : ℕ) (p q : Wire → List ℕ) → ((w : Wire) → p w ≡ q w) → Holds c r n p → Holds c r n q
holds_same c r n p q same h = record {
  heads = h.heads;
  sound = h.sound;
  each = λ w there.
      subst (λ xs. IsChain c.gates.items c.nexts.items (get_or c.heads.items (wire_number r w) 0) xs) (same w)
      (h.each w there);
}

-- the gate is the first already
pub stays : (wire : Wire) (g : ℕ) (of : Wire → List ℕ) → is_first g (of wire) ≡ true → (w : Wire)
    → of w ≡ cond (is_wire w wire) (with_first g (of w)) (of w)
stays wire g of first w = elim (cases_Bool (is_wire w wire)) [
  | inl e ↦
      let there : is_first g (of w) ≡ true = ap (λ v. is_first g (of v)) (same_wire w wire e) ∙ first in
      sym (ap (λ b. cond b (with_first g (of w)) (of w)) e ∙ ap (λ b. cond b (of w) (g ∷ of w)) there)
  | inr e ↦ sym (ap (λ b. cond b (with_first g (of w)) (of w)) e)
]

pub sound_added : (c new : Chains) (k g : ℕ) → AreSound c
    → new.heads.items ≡ slice_set c.heads.items k (length c.gates.items + 1) → k < length c.heads.items
    → new.gates.items ≡ c.gates.items ++ g ∷ [] → new.nexts.items ≡ c.nexts.items ++ get_or c.heads.items k 0 ∷ []
    → AreSound new
sound_added c new k g sound heads within gates nexts =
    let head = get_or c.heads.items k 0 in
    let long_g = ap (λ xs. length xs) gates ∙ length-append c.gates.items (g ∷ []) in
    let long_n = ap (λ xs. length xs) nexts ∙ length-append c.nexts.items (head ∷ []) in
    let same = sound.long in
    record {
      long = omega arith;
      earlier = λ j h. elim (cases_lt j (length c.nexts.items)) [
        | inl lt ↦
            let low = sound.earlier j lt in
            let e : get_or new.nexts.items j 0 ≡ get_or c.nexts.items j 0 =
            ap (λ xs. get_or xs j 0) nexts ∙ get_or_append_left c.nexts.items (head ∷ []) 0 j lt in
            omega arith
        | inr ge ↦
            let at : j ≡ length c.nexts.items = omega arith in
            let low = sound.within k in
            let e : get_or new.nexts.items j 0 ≡ head =
            ap (λ xs. get_or xs j 0) nexts ∙ get_end c.nexts.items head j at in
            omega arith
      ];
      within = λ j. elim (cases_eq j k) [
        | inl at ↦
            let e : get_or new.heads.items j 0 ≡ length c.gates.items + 1 =
            ap (λ xs. get_or xs j 0) heads
            ∙ ap (λ i. get_or (slice_set c.heads.items k (length c.gates.items + 1)) i 0) at
            ∙ get_or-set_same c.heads.items k (length c.gates.items + 1) 0 within in
            omega arith
        | inr ne ↦
            let low = sound.within j in
            let e : get_or new.heads.items j 0 ≡ get_or c.heads.items j 0 =
            ap (λ xs. get_or xs j 0) heads
            ∙ get_or-set_other c.heads.items k j (length c.gates.items + 1) 0 ne in
            omega arith
      ];
    }

pub holds_added : (c new : Chains) (r n : ℕ) (of : Wire → List ℕ) (wire : Wire) (g : ℕ) → IsThere 64 r n wire
    → Holds c r n of → new.heads.items ≡ slice_set c.heads.items (wire_number r wire) (length c.gates.items + 1)
    → length new.heads.items ≡ length c.heads.items
    → new.gates.items ≡ c.gates.items ++ g ∷ []
    → new.nexts.items ≡ c.nexts.items ++ get_or c.heads.items (wire_number r wire) 0 ∷ []
    → is_first g (of wire) ≡ false
    → Holds new r n (λ w. cond (is_wire w wire) (with_first g (of w)) (of w))
holds_added c new r n of wire g there h heads long gates nexts fresh =
    let k = wire_number r wire in
    let head = get_or c.heads.items k 0 in
    let below = number_below r n wire there in
    let size = h.heads in
    let sound = sound_added c new k g h.sound heads (omega arith) gates nexts in
    let grown : (j : ℕ) (xs : List ℕ) → IsChain c.gates.items c.nexts.items j xs
    → IsChain new.gates.items new.nexts.items j xs =
    λ j xs chain.
    subst (λ gs. IsChain gs new.nexts.items j xs) (sym gates)
    (subst (λ ns. IsChain (c.gates.items ++ g ∷ []) ns j xs) (sym nexts)
    (chain_grown c.gates.items c.nexts.items (g ∷ []) (head ∷ []) j xs h.sound.long chain)) in
    record {
      heads = long ∙ h.heads;
      sound = sound;
      each = λ w t. elim (cases_Bool (is_wire w wire)) [
        | inl e ↦
            let is = same_wire w wire e in
            let not_yet : is_first g (of w) ≡ false = ap (λ v. is_first g (of v)) is ∙ fresh in
            let place : get_or new.heads.items (wire_number r w) 0 ≡ length c.gates.items + 1 =
            ap (λ xs. get_or xs (wire_number r w) 0) heads
            ∙ ap (λ v. get_or (slice_set c.heads.items k (length c.gates.items + 1)) (wire_number r v) 0) is
            ∙ get_or-set_same c.heads.items k (length c.gates.items + 1) 0 (omega arith) in
            let list : g ∷ of w ≡ cond (is_wire w wire) (with_first g (of w)) (of w) =
            sym (ap (λ b. cond b (with_first g (of w)) (of w)) e ∙ ap (λ b. cond b (of w) (g ∷ of w)) not_yet) in
            let long_g = ap (λ xs. length xs) gates ∙ length-append c.gates.items (g ∷ []) in
            let same = h.sound.long in
            let last : length c.gates.items + 1 - 1 ≡ length c.gates.items = omega arith in
            let before : get_or new.nexts.items (length c.gates.items + 1 - 1) 0 ≡ head =
            ap (λ xs. get_or xs (length c.gates.items + 1 - 1) 0) nexts
            ∙ get_end c.nexts.items head (length c.gates.items + 1 - 1) (omega arith) in
            subst (λ xs. IsChain new.gates.items new.nexts.items (get_or new.heads.items (wire_number r w) 0) xs) list
            (subst (λ j. IsChain new.gates.items new.nexts.items j (g ∷ of w)) (sym place) (
              omega arith,
              omega arith,
              ap (λ xs. get_or xs (length c.gates.items + 1 - 1) 0) gates
                  ∙ get_end c.gates.items g (length c.gates.items + 1 - 1) last,
              subst (λ j. IsChain new.gates.items new.nexts.items j (of w)) (sym before)
                  (grown head (of w)
                  (subst (λ v. IsChain c.gates.items c.nexts.items (get_or c.heads.items (wire_number r v) 0) (of w)) is
                  (h.each w t))),
            ))
        | inr e ↦
            let ne : wire_number r w ≡ k → ⊥ = other_wire r n w wire t there e in
            let place : get_or new.heads.items (wire_number r w) 0 ≡ get_or c.heads.items (wire_number r w) 0 =
            ap (λ xs. get_or xs (wire_number r w) 0) heads
            ∙ get_or-set_other c.heads.items k (wire_number r w) (length c.gates.items + 1) 0 ne in
            let list : of w ≡ cond (is_wire w wire) (with_first g (of w)) (of w) =
            sym (ap (λ b. cond b (with_first g (of w)) (of w)) e) in
            subst (λ xs. IsChain new.gates.items new.nexts.items (get_or new.heads.items (wire_number r w) 0) xs) list
            (subst (λ j. IsChain new.gates.items new.nexts.items j (of w)) (sym place)
            (grown (get_or c.heads.items (wire_number r w) 0) (of w) (h.each w t)))
      ];
    }

-- ---- one gate

-- the pins so far have the gate in front
pub pins_more : (g : ℕ) (of : Wire → List ℕ) (pins : List Wire) (j : ℕ) (pin : Wire)
    → ((w : Wire) → is_first g (of w) ≡ false) → (w : Wire)
    → has_pin w (take (j + 1) pins) ≡ (has_pin w (take j pins) || is_wire w pin)
    → cond (is_wire w pin) (with_first g (cond (has_pin w (take j pins)) (g ∷ of w) (of w)))
    (cond (has_pin w (take j pins)) (g ∷ of w) (of w))
    ≡ cond (has_pin w (take (j + 1) pins)) (g ∷ of w) (of w)
pins_more g of pins j pin fresh w more =
    two (has_pin w (take j pins)) (is_wire w pin) (of w) (fresh w)
    ∙ ap (λ b. cond b (g ∷ of w) (of w)) (sym more)
  where
    two : (a b : Bool) (xs : List ℕ) → is_first g xs ≡ false
        → cond b (with_first g (cond a (g ∷ xs) xs)) (cond a (g ∷ xs) xs) ≡ cond (a || b) (g ∷ xs) xs
    two true true xs h =
        let is : nat_eq g g ≡ true = grind (arith, nat_tests) in ap (λ c. cond c (g ∷ xs) (g ∷ g ∷ xs)) is
    two true false xs h = refl
    two false true xs h = ap (λ c. cond c xs (g ∷ xs)) h
    two false false xs h = refl

first_later : (g n : ℕ) (gs : List gate.Gate) (w : Wire) → g < n → is_first g (readers_from n gs w) ≡ false
first_later g n [] w h = refl
first_later g n (x ∷ gs) w h =
    in_front (has_pin w x.pins) (readers_from (suc n) gs w) (first_later g (suc n) gs w (omega arith))
  where
    in_front : (b : Bool) (rest : List ℕ) → is_first g rest ≡ false → is_first g (cond b (n ∷ rest) rest) ≡ false
    in_front true rest later = let other : nat_eq n g ≡ false = grind (arith, nat_tests) in other
    in_front false rest later = later

-- from a gate on, its readers are those behind it, and the gate itself
pub readers_step : (gates : List gate.Gate) (n : ℕ) (g : gate.Gate) (w : Wire) → slice_get gates n ≡ Some g
    → cond (has_pin w g.pins) (n ∷ readers_from (suc n) (drop (suc n) gates) w)
    (readers_from (suc n) (drop (suc n) gates) w)
    ≡ readers_from n (drop n gates) w
readers_step gates n g w at = ap (λ gs. readers_from n gs w) (sym (drop_at gates n g at))
  where
    drop_at : (xs : List gate.Gate) (n : ℕ) (x : gate.Gate) → slice_get xs n ≡ Some x → drop n xs ≡ x ∷ drop (suc n) xs
    drop_at [] n x h = absurd (cc)
    drop_at (y ∷ xs) zero x h = ap (λ (z : gate.Gate). z ∷ xs) (same_Some y x h)
    drop_at (y ∷ xs) (suc n) x h = drop_at xs n x h

pub fresh_behind : (gates : List gate.Gate) (n : ℕ) (w : Wire)
    → is_first n (readers_from (suc n) (drop (suc n) gates) w) ≡ false
fresh_behind gates n w = first_later n (suc n) (drop (suc n) gates) w (omega arith)

pub readers_next : (gates : List gate.Gate) (n m l : ℕ) (g : gate.Gate) (pins : List Wire) (w : Wire) → m ≡ suc n
    → l ≡ n → slice_get gates n ≡ Some g → pins ≡ g.pins
    → cond (has_pin w pins) (n ∷ readers_from m (drop m gates) w) (readers_from m (drop m gates) w)
    ≡ readers_from l (drop l gates) w
readers_next gates n m l g pins w e f at is =
    ap (λ ps. cond (has_pin w ps) (n ∷ readers_from m (drop m gates) w) (readers_from m (drop m gates) w)) is
    ∙ ap (λ j. cond (has_pin w g.pins) (n ∷ readers_from j (drop j gates) w) (readers_from j (drop j gates) w)) e
    ∙ readers_step gates n g w at ∙ ap (λ j. readers_from j (drop j gates) w) (sym f)

pub fresh_next : (gates : List gate.Gate) (n m : ℕ) (w : Wire) → m ≡ suc n
    → is_first n (readers_from m (drop m gates) w) ≡ false
fresh_next gates n m w e = ap (λ j. is_first n (readers_from j (drop j gates) w)) e ∙ fresh_behind gates n w
