-- The wires that tell places.
use Rattle.std.proofs.Common.{◌≡◌, ℕ, zero, suc, ◌+◌, ◌<◌, ◌≤◌, Bool, true, false, ◌&&◌, inl, inr}
use Rattle.std.proofs.Common.{List, [], ◌∷◌, ◌++◌, length, take, get_or, Some, refl, sym, ap, ◌∙◌, subst, arith}
use Rattle.std.specs.Prelude.{slice_get}
use Rattle.std.proofs.lemmas.Bool.{cases_lt}
use Rattle.std.proofs.lemmas.List.{take_more, get_or_append_left}
use Rattle.std.proofs.Math.Seq.{get_or-append_seam}
use Rattle.net_core.specs.declared.codes.Literal.{Literal}
use Rattle.net_core.specs.declared.codes.Code.{Code}
use Rattle.net_core.specs.declared.gate.Wire.{Wire}
use Rattle.net_core.specs.declared.gate.Wire.TheVariants as wire
use Rattle.net_core.specs.Rows.{Row, IsRow, value}
use Rattle.net_core.specs.Circuits.{Circuit, Exists, wire_at}
use Rattle.net_core.specs.Building.{HasAll, input_pin}
use Rattle.net_core.proofs.Pushed.{get_pushed, length_pushed}
use Rattle.net_encode.specs.Codes.{agrees, all_hold, tells}
use Rattle.net_encode.specs.inner.Drafts.{Grows, Draws, IsInside, HasInverters, AreFew, TellsAll}
use Rattle.net_encode.specs.inner.Drafts.{told_wire, literal_wire_of}
use Rattle.net_encode.proofs.Growing.{grows_on, draws_on}

-- ---- literals

hold_pushed : (r : ℕ → Bool) (ls : List Literal) (l : Literal)
    → all_hold r (ls ++ l ∷ []) ≡ (all_hold r ls && agrees l.value (r l.reg))
hold_pushed r [] l = and_true (agrees l.value (r l.reg))
  where
    and_true : (b : Bool) → (b && true) ≡ b
    and_true true = refl
    and_true false = refl
hold_pushed r (k ∷ ls) l =
    ap (λ b. agrees k.value (r k.reg) && b) (hold_pushed r ls l)
    ∙ regroup (agrees k.value (r k.reg)) (all_hold r ls) (agrees l.value (r l.reg))
  where
    regroup : (a b c : Bool) → (a && (b && c)) ≡ ((a && b) && c)
    regroup true b c = refl
    regroup false b c = refl

pub inverters_later : (a b : Circuit) (k i count : ℕ) → Grows a b k i → HasInverters a count → HasInverters b count
inverters_later a b k i count g h =
    let e = g.extends in
    record {
      gates = omega (arith, h.gates, e.fewest);
      registers = omega (arith, h.registers, ap length e.registers);
      inverts = λ row is r l. h.inverts row (e.rows row is) r l;
    }

pub literal_inside : (c : Circuit) (count : ℕ) (l : Literal) → HasInverters c count → l.reg < count
    → IsInside c (literal_wire_of l)
literal_inside c count l h low = by_value l.value
  where
    by_value : (b : Bool) → IsInside c (told_wire b l.reg)
    by_value true = record { there = omega (arith, low, h.registers); inner = refl }
    by_value false = record { there = omega (arith, low, h.gates); inner = refl }

literal_value : (c : Circuit) (count : ℕ) (l : Literal) (row : Row) → HasInverters c count → l.reg < count
    → IsRow c.gates row → value row (literal_wire_of l) ≡ agrees l.value (row.registers l.reg)
literal_value c count l row h low is = by_value l.value
  where
    by_value : (b : Bool) → value row (told_wire b l.reg) ≡ agrees b (row.registers l.reg)
    by_value true = refl
    by_value false = h.inverts row is l.reg low

pub get_it : {X : Type 0} (xs : List X) (n : ℕ) (d : X) → n < length xs → slice_get xs n ≡ Some (get_or xs n d)
get_it [] n d h = absurd (omega arith)
get_it (x ∷ xs) zero d h = refl
get_it (x ∷ xs) (suc n) d h = get_it xs n d (omega arith)

-- one literal more
pub literal_more : (a b c : Circuit) (count n : ℕ) (ls : List Literal) (d : Literal) (w lw w' : Wire)
    → HasInverters a count → AreFew count ls → n < length ls → lw ≡ literal_wire_of (get_or ls n d)
    → Draws a b w n 0 (λ row. all_hold row.registers (take n ls))
    → Draws b c w' 1 0 (λ row. value row w && value row lw)
    → Draws a c w' (n + 1) 0 (λ row. all_hold row.registers (take (n + 1) ls))
literal_more a b c count n ls d w lw w' h few low is first next =
    let l = get_or ls n d in
    draws_on a b c w w' n 1 (λ row. all_hold row.registers (take n ls))
    (λ row. value row w && value row lw)
    (λ row. all_hold row.registers (take (n + 1) ls)) first next
    (λ row ok so_far.
    let below : l.reg < count = few.below n l (get_it ls n d low) in
    let later = inverters_later b c 1 0 count next.grows (inverters_later a b n 0 count first.grows h) in
    ap (λ b. b && value row lw) so_far
    ∙ ap (λ b. all_hold row.registers (take n ls) && b)
    (ap (value row) is ∙ literal_value c count l row later below ok)
    ∙ sym (hold_pushed row.registers (take n ls) l)
    ∙ ap (all_hold row.registers) (sym (take_more ls n d low)))

-- ---- inverters

-- ---- a wire for each code

pub has_one_more : (a b : Circuit) (k i : ℕ) (ws : List Wire) (w : Wire) → Grows a b k i → HasAll a ws → IsInside b w
    → HasAll b (ws ++ w ∷ [])
has_one_more a b k i ws w g all inside = record {
  each = λ n h. at n h (λ v. Exists b v) (λ v. g.extends.there v) inside.there;
  inner = λ n h. at' n h;
}
  where
    last : (n : ℕ) → n < length (ws ++ w ∷ []) → length ws ≤ n → wire_at (ws ++ w ∷ []) n ≡ w
    last n h high =
        let e : n ≡ length ws = let long = length_pushed ws w in omega (arith, long) in
        ap (λ n. wire_at (ws ++ w ∷ []) n) e ∙ get_or-append_seam ws w [] (wire.Const false)

    at : (n : ℕ) → n < length (ws ++ w ∷ []) → (P : Wire → Type 0) → ((v : Wire) → Exists a v → P v) → P w
        → P (wire_at (ws ++ w ∷ []) n)
    at n h P old new = elim (cases_lt n (length ws)) [
      | inl low ↦
          subst P (sym (get_or_append_left ws (w ∷ []) (wire.Const false) n low))
          (old (wire_at ws n) (all.each n low))
      | inr high ↦ subst P (sym (last n h high)) new
    ]

    at' : (n : ℕ) → n < length (ws ++ w ∷ []) → input_pin (wire_at (ws ++ w ∷ []) n) ≡ 0
    at' n h = elim (cases_lt n (length ws)) [
      | inl low ↦
          ap input_pin (get_or_append_left ws (w ∷ []) (wire.Const false) n low) ∙ all.inner n low
      | inr high ↦ ap input_pin (last n h high) ∙ inside.inner
    ]

pub code_more : (a b c : Circuit) (p k : ℕ) (codes : List Code) (code : Code) (ws : List Wire) (w : Wire)
    → p < length codes → code ≡ get_or codes p code → Grows a b k 0 → TellsAll b (take p codes) ws
    → Draws b c w 3 0 (λ row. tells row.registers code)
    → Grows a c (k + 3) 0 × TellsAll c (take (p + 1) codes) (ws ++ w ∷ [])
code_more a b c p k codes code ws w low is grown told d =
    let more : take (p + 1) codes ≡ take p codes ++ code ∷ [] =
    take_more codes p code low ∙ ap (λ x. take p codes ++ x ∷ []) (sym is) in
    let e = d.grows.extends in (
      grows_on a b c k 3 0 0 grown d.grows,
      subst (λ l. TellsAll c l (ws ++ w ∷ [])) (sym more) (record {
        there = has_one_more b c 3 0 ws w d.grows told.there (record { there = d.there; inner = d.inner });
        count =
            let one = length_pushed ws w in
            let other = length_pushed (take p codes) code in
            omega (arith, one, other, told.count);
        meaning = λ row ok q x at. elim (get_pushed (take p codes) code q x at) [
          | inl old ↦
              let within : q < length ws = omega (arith, below (take p codes) q x old, told.count) in
              ap (value row) (get_or_append_left ws (w ∷ []) (wire.Const false) q within)
              ∙ told.meaning row (e.rows row ok) q x old
          | inr (end, same) ↦
              let q_is : q ≡ length ws = omega (arith, end, told.count) in
              ap (λ n. value row (wire_at (ws ++ w ∷ []) n)) q_is
              ∙ ap (value row) (get_or-append_seam ws w [] (wire.Const false))
              ∙ d.meaning row ok ∙ ap (tells row.registers) (sym same)
        ];
      }),
    )
  where
    below : (cs : List Code) (n : ℕ) (x : Code) → slice_get cs n ≡ Some x → n < length cs
    below [] n x h = absurd (cc)
    below (c ∷ cs) zero x h = omega arith
    below (c ∷ cs) (suc n) x h = let rest = below cs n x h in omega (arith, rest)
