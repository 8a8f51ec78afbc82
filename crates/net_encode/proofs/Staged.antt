-- The stages of an encoding.
use Rattle.std.proofs.Common.{◌≡◌, ℕ, zero, suc, ◌+◌, ◌-◌, ◌<◌, ◌≤◌, Bool, false, inl, inr}
use Rattle.std.proofs.Common.{List, [], ◌∷◌, ◌++◌, length, length-append, length-drop, map, take, drop, get_or, Some}
use Rattle.std.proofs.Common.{refl, sym, ap, ◌∙◌, subst, arith}
use Rattle.std.proofs.Common.{get_or-drop}
use Rattle.std.specs.Prelude.{slice_get}
use Rattle.std.proofs.lemmas.Bool.{cases_lt}
use Rattle.std.proofs.lemmas.List.{get_or_append_left}
use Rattle.std.proofs.lemmas.Option.{get_or_from_slice_get, slice_get_within}
use Rattle.net_core.specs.declared.codes.Code.{Code}
use Rattle.net_core.specs.declared.gate.Wire.{Wire}
use Rattle.net_core.specs.declared.gate.Wire.TheVariants as wire
use Rattle.net_core.specs.Rows.{Row, value}
use Rattle.net_core.specs.Circuits.{Circuit, Exists, AllThere, wire_at}
use Rattle.net_core.specs.Building.{input_pin, input_pins}
use Rattle.net_encode.specs.Codes.{code_registers}
use Rattle.net_encode.specs.inner.Columns.{column, code_bits}
use Rattle.net_encode.specs.inner.Drafts.{Grows, TellsAll, own_wires}
use Rattle.net_encode.specs.inner.Sharing.{AreGroups, ShowsBits, ShowsFront}
use Rattle.net_encode.specs.inner.Stages.{IsTable, IsData}
use Rattle.net_encode.proofs.Decoding.{get_it}
use Rattle.net_encode.proofs.Running.{take_whole}

-- ---- the table

length_own : (from n : ℕ) → length (own_wires from n) ≡ n
length_own from zero = refl
length_own from (suc n) =
    let rest = length_own from n in
    omega (arith, length-append (own_wires from n) (wire.Reg (from + n) ∷ []), rest)

skip : {X : Type 0} (xs ys : List X) (i : ℕ) (d : X) → get_or (xs ++ ys) (length xs + i) d ≡ get_or ys i d
skip [] ys i d = let e : 0 + i ≡ i = omega arith in ap (λ n. get_or ys n d) e
skip (x ∷ xs) ys i d =
    let e : suc (length xs) + i ≡ suc (length xs + i) = omega arith in
    ap (λ n. get_or (x ∷ (xs ++ ys)) n d) e ∙ skip xs ys i d

own_at : (from n i : ℕ) → i < n → wire_at (own_wires from n) i ≡ wire.Reg (from + i)
own_at from zero i h = absurd (omega arith)
own_at from (suc n) i h = elim (cases_lt i n) [
  | inl low ↦
      get_or_append_left (own_wires from n) (wire.Reg (from + n) ∷ []) (wire.Const false) i
      (let long = length_own from n in omega (arith, low, long))
      ∙ own_at from n i low
  | inr high ↦
      let e : i ≡ n = omega (arith, high, h) in
      let e' : i ≡ length (own_wires from n) + 0 = (let long = length_own from n in omega (arith, e, long)) in
      ap (wire_at (own_wires from n ++ wire.Reg (from + n) ∷ [])) e'
      ∙ skip (own_wires from n) (wire.Reg (from + n) ∷ []) 0 (wire.Const false)
      ∙ ap (λ k. wire.Reg (from + k)) (sym e)
]

pub table_of : (c : Circuit) (codes : List Code) (shared rest : ℕ) (wires table : List Wire)
    → length c.registers ≡ shared + rest → TellsAll c codes wires → table ≡ wires ++ own_wires shared rest
    → IsTable c codes shared rest table
table_of c codes shared rest wires table regs told is = subst (IsTable c codes shared rest) (sym is) (record {
  there = record { each = λ n h. (at n h).0; inner = λ n h. (at n h).1 };
  count =
      let own = length_own shared rest in
      omega (arith, length-append wires (own_wires shared rest), own, told.count);
  told = λ row ok p code here.
      ap (value row)
      (get_or_append_left wires (own_wires shared rest) (wire.Const false) p
      (let low = slice_get_within codes p code here in omega (arith, low, told.count)))
      ∙ told.meaning row ok p code here;
  own = λ i h.
      ap (λ n. wire_at (wires ++ own_wires shared rest) (n + i)) (sym told.count)
      ∙ skip wires (own_wires shared rest) i (wire.Const false) ∙ own_at shared rest i h;
})
  where
    at : (n : ℕ) → n < length (wires ++ own_wires shared rest)
        → Exists c (wire_at (wires ++ own_wires shared rest) n)
        × (input_pin (wire_at (wires ++ own_wires shared rest) n) ≡ 0)
    at n h = elim (cases_lt n (length wires)) [
      | inl low ↦
          let e = get_or_append_left wires (own_wires shared rest) (wire.Const false) n low in
          (subst (Exists c) (sym e) (told.there.each n low), ap input_pin e ∙ told.there.inner n low)
      | inr high ↦
          let i = n - length wires in
          let own = length_own shared rest in
          let e : n ≡ length wires + i = omega (arith, high) in
          let below : i < rest = omega (arith, h, e, own, length-append wires (own_wires shared rest)) in
          let is : wire_at (wires ++ own_wires shared rest) n ≡ wire.Reg (shared + i) =
          ap (wire_at (wires ++ own_wires shared rest)) e ∙ skip wires (own_wires shared rest) i (wire.Const false)
          ∙ own_at shared rest i below in
          let there : shared + i < length c.registers = omega (arith, below, regs) in
          (subst (Exists c) (sym is) there, ap input_pin is)
    ]

-- ---- the data wires

column_same : (s r : ℕ → Bool) (n t c : ℕ) (ms : List ℕ) → ((p : ℕ) → p < n → s p ≡ r p)
    → ((i p : ℕ) → slice_get ms i ≡ Some p → p < n) → column s t c ms ≡ column r t c ms
column_same s r n t c [] same below = refl
column_same s r n t c (m ∷ ms) same below =
    rw (same m (below zero m refl), column_same s r n t (suc c) ms same (λ i p at. below (suc i) p at)) refl

pub code_bits_same : (s r : ℕ → Bool) (n : ℕ) (groups : List (List ℕ)) → ((p : ℕ) → p < n → s p ≡ r p)
    → AreGroups n groups → code_bits s groups ≡ code_bits r groups
code_bits_same s r n [] same ok = refl
code_bits_same s r n (g ∷ gs) same ok =
    let below = (ok.each zero g refl).below in
    let rest : AreGroups n gs = record { each = λ k h at. ok.each (suc k) h at } in
    rw (
      column_same s r n 0 1 g same below,
      column_same s r n 1 1 g same below,
      column_same s r n 2 1 g same below,
      code_bits_same s r n gs same rest,
    ) refl

value_in : (row : Row) (ws : List Wire) (n : ℕ) → value row (wire_at ws n) ≡ get_or (map (value row) ws) n false
value_in row [] n = refl
value_in row (w ∷ ws) zero = refl
value_in row (w ∷ ws) (suc n) = value_in row ws n

no_pins : (ws : List Wire) → ((n : ℕ) → n < length ws → input_pin (wire_at ws n) ≡ 0) → input_pins ws ≡ 0
no_pins [] none = refl
no_pins (w ∷ ws) none =
    let first = none zero (omega arith) in
    let rest = no_pins ws (λ n h. none (suc n) (omega arith)) in
    omega (arith, first, rest)

pub pins_append : (ws vs : List Wire) → input_pins (ws ++ vs) ≡ input_pins ws + input_pins vs
pins_append [] vs = omega arith
pins_append (w ∷ ws) vs = let rest = pins_append ws vs in omega (arith, rest)

-- `shown` is how many rows of a circuit have so many wires: a list of that many values
module _ (first c : Circuit) (others sources wires regs : List Wire) (places : ℕ) (groups : List (List ℕ))
    (there : AllThere (length first.inputs) (length first.registers) (length first.gates) others)
    (few : places ≤ length others) (ok : AreGroups places groups) (mid : Circuit) (k j i m : ℕ)
    (g1 : Grows first mid k i) (g2 : Grows mid c j m) (fronts : ShowsFront mid places others sources)
    (shows : ShowsBits c wires (λ row. code_bits (λ p. value row (wire_at sources p)) groups))
    (long : length wires ≡ code_registers groups) (is : regs ≡ wires ++ drop places others) where
  later : (w : Wire) → Exists first w → Exists c w
  later w h = g2.extends.there w (g1.extends.there w h)

  pub data_of : IsData c others places groups regs
  data_of = subst (IsData c others places groups) (sym is) (record {
    there = record {
      each = λ n w at. elim (cases_lt n (length wires)) [
        | inl low ↦
            let e = get_or_append_left wires (drop places others) (wire.Const false) n low in
            let is : wire_at (wires ++ drop places others) n ≡ w =
            get_or_from_slice_get (wires ++ drop places others) n w (wire.Const false) at in
            subst (Exists c) (sym e ∙ is) (shows.there.each n low)
        | inr high ↦
            let q = n - length wires in
            let e : n ≡ length wires + q = omega (arith, high) in
            let within : n < length (wires ++ drop places others) =
            slice_get_within (wires ++ drop places others) n w at in
            let low : places + q < length others =
            omega (arith, within, e, few, length-append wires (drop places others), length-drop places others) in
            let is : wire_at others (places + q) ≡ w =
            sym (get_or-drop places others q (wire.Const false))
            ∙ sym (skip wires (drop places others) q (wire.Const false))
            ∙ ap (wire_at (wires ++ drop places others)) (sym e)
            ∙ get_or_from_slice_get (wires ++ drop places others) n w (wire.Const false) at in
            later w (there.each (places + q) w (get_it others (places + q) (wire.Const false) low ∙ ap Some is))
      ];
    };
    count = omega (arith, length-append wires (drop places others), length-drop places others, long, few);
    bits = λ row here r h.
        ap (value row)
        (get_or_append_left wires (drop places others) (wire.Const false) r (omega (arith, h, long)))
        ∙ value_in row wires r ∙ ap (λ l. get_or l r false) (shows.shows row here)
        ∙ ap (λ l. get_or l r false)
        (code_bits_same (λ p. value row (wire_at sources p)) (λ p. value row (wire_at others p)) places groups
        (λ p low. fronts.meaning row (g2.extends.rows row here) p low) ok);
    rest = λ q.
        ap (λ n. wire_at (wires ++ drop places others) (n + q)) (sym long)
        ∙ skip wires (drop places others) q (wire.Const false) ∙ get_or-drop places others q (wire.Const false);
    pins =
        let none = no_pins wires shows.there.inner in
        let split = pins_append wires (drop places others) in
        omega (arith, none, split);
  })

pub rest_whole : (n : ℕ) (ws : List Wire) → take (length ws - n) (drop n ws) ≡ drop n ws
rest_whole n ws =
    let e : length ws - n ≡ length (drop n ws) = omega (arith, length-drop n ws) in
    ap (λ k. take k (drop n ws)) e ∙ take_whole (drop n ws)
