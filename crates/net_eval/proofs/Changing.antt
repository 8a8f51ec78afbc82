-- Gates of which no pin changed keep their values.
use Rattle.std.proofs.Common.{◌≡◌, ℕ, zero, suc, ◌+◌, ◌<◌, ◌≤◌, inl, inr, Bool, true, false, not, ◌&&◌, ◌||◌}
use Rattle.std.proofs.Common.{List, [], ◌∷◌, length, take, get_or, Some, refl, sym, ap, subst, ◌∙◌}
use Rattle.std.proofs.Common.{arith, cond, add-one}
use Rattle.std.specs.Prelude.{nat_eq, slice_get, slice_set}
use Rattle.std.specs.List.{list_any}
use Rattle.std.proofs.Math.Bool.{and-false, and-true, or-false}
use Rattle.std.proofs.lemmas.Bool.{cases_eq, cases_lt}
use Rattle.std.proofs.lemmas.Bool.Decides.{nat_tests}
use Rattle.std.proofs.lemmas.List.{get_or-set_same, get_or-set_other, take_all}
use Rattle.std.proofs.lemmas.List.Filters.{length-filter_more}
use Rattle.std.proofs.lemmas.Option.{slice_get_within, slice_get-get_or, same_Some}
use Rattle.net_core.specs.declared.gate.Wire.{Wire}
use Rattle.net_core.specs.declared.gate.Wire.TheVariants.{Const, Reset, Input, Reg, Gate}
use Rattle.net_core.specs.declared.gate.GateKind.{GateKind}
use Rattle.net_core.specs.declared.gate.GateKind.TheVariants.{Buf, Not, And, Or, Nand, Nor, Xor, Xnor}
use Rattle.net_core.specs.declared.gate.Gate as gate
use Rattle.net_core.specs.Rows.{Row, IsRow, value, all_of, any_of, odd_of, output_of, gate_value, differs}
use Rattle.net_core.specs.Circuits.{IsThere, AllThere}
use Rattle.net_eval.specs.Readers.{is_wire, has_pin, readers_from}
use Rattle.net_eval.specs.Assignments.{IsOrdered}
use Rattle.net_eval.specs.Counts.{is_changed, has_changed_pin, changed_count}
use Rattle.net_eval.specs.inner.Marks.{Looks, Wakes, is_listed, is_marked}
use Rattle.net_eval.specs.States.{row_of}
use Rattle.net_eval.proofs.Agreeing.{some_at}
use Rattle.net_eval.proofs.Assigning.{set_holds}

-- ---- no pin changed

same_bits : (a b : Bool) → differs a b ≡ false → a ≡ b
same_bits true true h = refl
same_bits true false h = absurd (cc)
same_bits false true h = absurd (cc)
same_bits false false h = refl

or_first : (a b : Bool) → (a || b) ≡ false → a ≡ false
or_first true b h = absurd (cc)
or_first false b h = refl

or_second : (a b : Bool) → (a || b) ≡ false → b ≡ false
or_second true b h = absurd (cc)
or_second false b h = h

head_same : (a b : Row) (w : Wire) (ws : List Wire) → list_any (is_changed a b) (w ∷ ws) ≡ false → value a w ≡ value b w
head_same a b w ws h = same_bits (value a w) (value b w) (or_first (is_changed a b w) (list_any (is_changed a b) ws) h)

tail_same : (a b : Row) (w : Wire) (ws : List Wire) → list_any (is_changed a b) (w ∷ ws) ≡ false
    → list_any (is_changed a b) ws ≡ false
tail_same a b w ws h = or_second (is_changed a b w) (list_any (is_changed a b) ws) h

all_unchanged : (a b : Row) (ws : List Wire) → list_any (is_changed a b) ws ≡ false → all_of a ws ≡ all_of b ws
all_unchanged a b [] h = refl
all_unchanged a b (w ∷ ws) h = rw (head_same a b w ws h, all_unchanged a b ws (tail_same a b w ws h))

any_unchanged : (a b : Row) (ws : List Wire) → list_any (is_changed a b) ws ≡ false → any_of a ws ≡ any_of b ws
any_unchanged a b [] h = refl
any_unchanged a b (w ∷ ws) h = rw (head_same a b w ws h, any_unchanged a b ws (tail_same a b w ws h))

odd_unchanged : (a b : Row) (ws : List Wire) → list_any (is_changed a b) ws ≡ false → odd_of a ws ≡ odd_of b ws
odd_unchanged a b [] h = refl
odd_unchanged a b (w ∷ ws) h = rw (head_same a b w ws h, odd_unchanged a b ws (tail_same a b w ws h))

output_unchanged : (a b : Row) (kind : GateKind) (ws : List Wire) → list_any (is_changed a b) ws ≡ false
    → output_of a kind ws ≡ output_of b kind ws
output_unchanged a b Buf ws h = all_unchanged a b ws h
output_unchanged a b Not ws h = ap not (all_unchanged a b ws h)
output_unchanged a b And ws h = all_unchanged a b ws h
output_unchanged a b Or ws h = any_unchanged a b ws h
output_unchanged a b Nand ws h = ap not (all_unchanged a b ws h)
output_unchanged a b Nor ws h = ap not (any_unchanged a b ws h)
output_unchanged a b Xor ws h = odd_unchanged a b ws h
output_unchanged a b Xnor ws h = ap not (odd_unchanged a b ws h)

pub gate_unchanged : (a b : Row) (g : gate.Gate) → has_changed_pin a b g ≡ false → gate_value a g ≡ gate_value b g
gate_unchanged a b g h = output_unchanged a b g.kind g.pins h

-- ---- lists of wires

pub any_or : (p q r : Wire → Bool) → ((w : Wire) → r w ≡ (p w || q w)) → (ws : List Wire)
    → list_any r ws ≡ (list_any p ws || list_any q ws)
any_or p q r each [] = refl
any_or p q r each (w ∷ ws) =
    rw (each w, any_or p q r each ws) (turn (p w) (q w) (list_any p ws) (list_any q ws))
  where
    turn : (a b c d : Bool) → ((a || b) || (c || d)) ≡ ((a || c) || (b || d))
    turn true b c d = refl
    turn false true true d = refl
    turn false true false d = refl
    turn false false true d = refl
    turn false false false d = refl

-- two tests that agree on the wires that are there
pub any_there : (i r g : ℕ) (p q : Wire → Bool) → ((w : Wire) → IsThere i r g w → p w ≡ q w) → (ws : List Wire)
    → AllThere i r g ws → list_any p ws ≡ list_any q ws
any_there i r g p q each [] there = refl
any_there i r g p q each (w ∷ ws) there =
    rw (
      each w (there.each zero w refl),
      any_there i r g p q each ws (record { each = λ k v e. there.each (suc k) v e }),
    )

pub or_and_false : (a x : Bool) → a ≡ (a || (x && false))
or_and_false a x = sym (ap (λ b. a || b) (and-false x) ∙ or-false a)

-- ---- the readers of a wire

skips : (n k : ℕ) (b : Bool) (rest : List ℕ) → (k ≡ n → ⊥) → is_listed (cond b (n ∷ rest) rest) k ≡ is_listed rest k
skips n k true rest ne =
    let other : nat_eq k n ≡ false = grind (arith, nat_tests) in ap (λ b. b || is_listed rest k) other
skips n k false rest ne = refl

listed_below : (n : ℕ) (gs : List gate.Gate) (w : Wire) (k : ℕ) → k < n → is_listed (readers_from n gs w) k ≡ false
listed_below n [] w k h = refl
listed_below n (g ∷ gs) w k h =
    skips n k (has_pin w g.pins) (readers_from (suc n) gs w) (omega arith) ∙ listed_below (suc n) gs w k (omega arith)

first_listed : (n k : ℕ) (b : Bool) (rest : List ℕ) → k ≡ n → is_listed rest k ≡ false
    → is_listed (cond b (n ∷ rest) rest) k ≡ b
first_listed n k true rest e clean =
    let equal : nat_eq k n ≡ true = grind (arith, nat_tests) in ap (λ b. b || is_listed rest k) equal
first_listed n k false rest e clean = clean

-- a gate is among the readers of a wire exactly where the wire is among its pins
pub reader_listed : (n : ℕ) (gs : List gate.Gate) (w : Wire) (k m : ℕ) (g : gate.Gate) → m ≡ n + k
    → slice_get gs k ≡ Some g → is_listed (readers_from n gs w) m ≡ has_pin w g.pins
reader_listed n [] w k m g e at = absurd (cc)
reader_listed n (x ∷ gs) w zero m g e at =
    first_listed n m (has_pin w x.pins) (readers_from (suc n) gs w) (omega arith)
    (listed_below (suc n) gs w m (omega arith))
    ∙ ap (λ (y : gate.Gate). has_pin w y.pins) (same_Some x g at)
reader_listed n (x ∷ gs) w (suc k) m g e at =
    skips n m (has_pin w x.pins) (readers_from (suc n) gs w) (omega arith)
    ∙ reader_listed (suc n) gs w k m g (omega arith) at

below_end : (n : ℕ) (b : Bool) (rest : List ℕ) (most : ℕ) → n < most
    → ((i : ℕ) → i < length rest → get_or rest i 0 < most) → (i : ℕ) → i < length (cond b (n ∷ rest) rest)
    → get_or (cond b (n ∷ rest) rest) i 0 < most
below_end n true rest most h each zero l = h
below_end n true rest most h each (suc i) l = each i (omega arith)
below_end n false rest most h each i l = each i l

pub readers_below : (n : ℕ) (gs : List gate.Gate) (w : Wire) (most : ℕ) → n + length gs ≤ most → (i : ℕ)
    → i < length (readers_from n gs w) → get_or (readers_from n gs w) i 0 < most
readers_below n [] w most h i l = absurd (omega arith)
readers_below n (g ∷ gs) w most h i l =
    below_end n (has_pin w g.pins) (readers_from (suc n) gs w) most (omega arith)
    (readers_below (suc n) gs w most (omega arith)) i l

-- ---- what a step marks

pub wakes_none : (gates : List gate.Gate) (words : List ℕ) (p : Wire → Bool) → ((w : Wire) → p w ≡ false)
    → Wakes gates words words p
wakes_none gates words p none =
    record { each = λ k g e. sym (ap (λ b. is_marked words k || b) (nowhere g.pins) ∙ or-false (is_marked words k)) }
  where
    nowhere : (ws : List Wire) → list_any p ws ≡ false
    nowhere [] = refl
    nowhere (w ∷ ws) = rw (none w) (nowhere ws)

pub wakes_same : (gates : List gate.Gate) (a b : List ℕ) (p q : Wire → Bool) → ((w : Wire) → q w ≡ p w)
    → Wakes gates a b p → Wakes gates a b q
wakes_same gates a b p q each h =
    record { each = λ k g e. h.each k g e ∙ ap (λ c. is_marked a k || c) (same g.pins) }
  where
    same : (ws : List Wire) → list_any p ws ≡ list_any q ws
    same [] = refl
    same (w ∷ ws) = rw (each w, same ws)

or_turn : (a b c : Bool) → ((a || b) || c) ≡ (a || (b || c))
or_turn true b c = refl
or_turn false b c = refl

pub wakes_more : (gates : List gate.Gate) (a b c : List ℕ) (p q r : Wire → Bool)
    → ((w : Wire) → r w ≡ (p w || q w)) → Wakes gates a b p → Wakes gates b c q → Wakes gates a c r
wakes_more gates a b c p q r each h l = record {
  each = λ k g e.
      l.each k g e ∙ ap (λ x. x || list_any q g.pins) (h.each k g e)
      ∙ or_turn (is_marked a k) (list_any p g.pins) (list_any q g.pins)
      ∙ ap (λ x. is_marked a k || x) (sym (any_or p q r each g.pins));
}

-- ---- one gate

any_gate : gate.Gate
any_gate = record { kind = Buf; pins = [] }

-- the pins of the gates so far are as they were, once gate n has a value
pins_kept : (r : ℕ) (before : Row) (regs : List Bool) (reset : Bool) (vector : ℕ) (values : List Bool) (n k : ℕ)
    (out : Bool) (pins : List Wire) → k ≤ n → AllThere 64 r k pins
    → list_any (is_changed before (row_of regs reset vector (slice_set values n out))) pins
    ≡ list_any (is_changed before (row_of regs reset vector values)) pins
pins_kept r before regs reset vector values n k out pins h there =
    any_there 64 r k (is_changed before (row_of regs reset vector (slice_set values n out)))
    (is_changed before (row_of regs reset vector values)) each pins there
  where
    each : (w : Wire) → IsThere 64 r k w
        → is_changed before (row_of regs reset vector (slice_set values n out)) w
        ≡ is_changed before (row_of regs reset vector values) w
    each (Const b) l = refl
    each Reset l = refl
    each (Input j) l = refl
    each (Reg j) l = refl
    each (Gate j) l =
        let ne : j ≡ n → ⊥ = omega arith in
        ap (λ v. differs (before.gates j) v) (get_or-set_other values n j out false ne)

count_kept : (gates : List gate.Gate) (before a b : Row) (n : ℕ) → n ≤ length gates
    → ((k : ℕ) (g : gate.Gate) → k < n → slice_get gates k ≡ Some g
    → has_changed_pin before b g ≡ has_changed_pin before a g)
    → changed_count before b (take n gates) ≡ changed_count before a (take n gates)
count_kept gates before a b zero h each = refl
count_kept gates before a b (suc n) h each =
    let lt : n < length gates = omega arith in
    let at = slice_get-get_or gates n any_gate lt in
    let g = get_or gates n any_gate in
    let here = each n g (omega arith) at in
    subst (λ j. changed_count before b (take j gates) ≡ changed_count before a (take j gates)) (add-one n)
    (length-filter_more (has_changed_pin before b) gates n any_gate lt
    ∙ ap (λ m. m + cond (has_changed_pin before b g) 1 0)
    (count_kept gates before a b n (omega arith) (λ k y l e. each k y (omega arith) e))
    ∙ ap (λ x. changed_count before a (take n gates) + cond x 1 0) here
    ∙ sym (length-filter_more (has_changed_pin before a) gates n any_gate lt))

count_more : (gates : List gate.Gate) (before a : Row) (n : ℕ) (x : gate.Gate) → n < length gates
    → slice_get gates n ≡ Some x
    → changed_count before a (take (n + 1) gates)
    ≡ changed_count before a (take n gates) + cond (has_changed_pin before a x) 1 0
count_more gates before a n x lt at =
    length-filter_more (has_changed_pin before a) gates n any_gate lt
    ∙ ap (λ (y : gate.Gate). changed_count before a (take n gates) + cond (has_changed_pin before a y) 1 0)
    (same_Some (get_or gates n any_gate) x (sym (slice_get-get_or gates n any_gate lt) ∙ at))

plus_none : (n : ℕ) → n + 0 ≡ n
plus_none n = omega arith

-- an unmarked gate keeps its value
pub look_unmarked : (gates : List gate.Gate) (before now : Row) (words : List ℕ) (n count : ℕ) → IsRow gates before
    → is_marked words n ≡ false → Looks gates before now words n count → Looks gates before now words (suc n) count
look_unmarked gates before now words n count was clean looks = elim (cases_lt n (length gates)) [
  | inl lt ↦
      let here = some_at gates n lt in
      let x = here.0 in
      let same = sym (looks.marked n x (omega arith) here.1) ∙ clean in
      let kept = looks.above n (omega arith) ∙ was.each n x here.1 ∙ gate_unchanged before now x same in
      record {
        below = λ k g l e. elim (cases_lt k n) [
          | inl less ↦ looks.below k g less e
          | inr ge ↦
              let is : k ≡ n = omega arith in
              let y_is : x ≡ g = same_Some x g (sym here.1 ∙ ap (λ j. slice_get gates j) (sym is) ∙ e) in
              ap now.gates is ∙ kept ∙ ap (λ y. gate_value now y) y_is
        ];
        above = λ k l. looks.above k (omega arith);
        marked = λ k g l e. looks.marked k g (omega arith) e;
        clear = λ k l m. elim (cases_lt k n) [
          | inl less ↦ looks.clear k less m
          | inr ge ↦ let is : k ≡ n = omega arith in ap (λ j. is_marked words j) is ∙ clean
        ];
        counted =
            subst (λ j. changed_count before now (take j gates) ≡ count) (add-one n)
            (count_more gates before now n x lt here.1
            ∙ ap (λ b. changed_count before now (take n gates) + cond b 1 0) same
            ∙ plus_none (changed_count before now (take n gates))
            ∙ looks.counted);
      }
  | inr past ↦ record {
    below = λ k g l e.
        let within = slice_get_within gates k g e in looks.below k g (omega (arith, within)) e;
    above = λ k l. looks.above k (omega arith);
    marked = λ k g l e. looks.marked k g (omega arith) e;
    clear = λ k l m. looks.clear k (omega arith) m;
    counted =
        ap (λ gs. changed_count before now gs)
        (take_all (suc n) gates (omega arith) ∙ sym (take_all n gates (omega arith)))
        ∙ looks.counted;
  }
]

-- the gates up to the next marked one keep their values
pub look_ahead : (gates : List gate.Gate) (before now : Row) (words : List ℕ) (n m d count : ℕ) → m ≡ n + d
    → IsRow gates before → ((k : ℕ) → n ≤ k → k < m → is_marked words k ≡ false)
    → Looks gates before now words n count → Looks gates before now words m count
look_ahead gates before now words n m zero count e was none looks =
    subst (λ j. Looks gates before now words j count) (let same : n ≡ m = omega arith in same) looks
look_ahead gates before now words n m (suc d) count e was none looks =
    look_ahead gates before now words (suc n) m d count (omega arith) was (λ k p q. none k (omega arith) q)
    (look_unmarked gates before now words n count was (none n (omega arith) (omega arith)) looks)

same_differ : (a b : Bool) → a ≡ b → differs a b ≡ false
same_differ true true h = refl
same_differ true false h = absurd (cc)
same_differ false true h = absurd (cc)
same_differ false false h = refl

-- what changes once gate n has a value
change_more : (before : Row) (regs : List Bool) (reset : Bool) (vector : ℕ) (values : List Bool) (n : ℕ)
    (out changed : Bool) → n < length values → changed ≡ differs (get_or values n false) out
    → get_or values n false ≡ before.gates n → (w : Wire)
    → is_changed before (row_of regs reset vector (slice_set values n out)) w
    ≡ (is_changed before (row_of regs reset vector values) w || (changed && is_wire (Gate n) w))
change_more before regs reset vector values n out changed lt is was (Const b) = or_and_false (differs b b) changed
change_more before regs reset vector values n out changed lt is was Reset =
    or_and_false (differs before.reset reset) changed
change_more before regs reset vector values n out changed lt is was (Input k) =
    or_and_false (is_changed before (row_of regs reset vector values) (Input k)) changed
change_more before regs reset vector values n out changed lt is was (Reg k) =
    or_and_false (is_changed before (row_of regs reset vector values) (Reg k)) changed
change_more before regs reset vector values n out changed lt is was (Gate k) = elim (cases_eq k n) [
  | inl e ↦
      let equal : nat_eq n k ≡ true = grind (arith, nat_tests) in
      ap (λ v. differs (before.gates k) v)
      (ap (λ j. get_or (slice_set values n out) j false) e ∙ get_or-set_same values n out false lt)
      ∙ ap (λ j. differs (before.gates j) out) e ∙ ap (λ v. differs v out) (sym was) ∙ sym is
      ∙ sym (and-true changed)
      ∙ ap (λ b. changed && b) (sym equal)
      ∙ ap (λ b. b || (changed && is_wire (Gate n) (Gate k)))
      (sym (same_differ (before.gates k) (get_or values k false)
      (ap before.gates e ∙ sym was ∙ ap (λ j. get_or values j false) (sym e))))
  | inr ne ↦
      let other : nat_eq n k ≡ false = grind (arith, nat_tests) in
      ap (λ v. differs (before.gates k) v) (get_or-set_other values n k out false ne)
      ∙ or_and_false (differs (before.gates k) (get_or values k false)) changed
      ∙ ap (λ b. differs (before.gates k) (get_or values k false) || (changed && b)) (sym other)
]

-- a marked gate takes its value, and the gates that read it are marked where that is another
pub look_marked : (gates : List gate.Gate) (before : Row) (regs : List Bool) (reset : Bool) (vector : ℕ)
    (values : List Bool) (n count : ℕ) (out changed : Bool) (x : gate.Gate) (w₀ w₁ w₂ : List ℕ)
    → IsOrdered 64 (length regs) gates → length values ≡ length gates → n < length gates → slice_get gates n ≡ Some x
    → out ≡ gate_value (row_of regs reset vector values) x
    → changed ≡ differs (get_or values n false) out
    → ((k : ℕ) → is_marked w₁ k ≡ (is_marked w₀ k && not (nat_eq k n)))
    → Wakes gates w₁ w₂ (λ w. changed && is_wire (Gate n) w) → is_marked w₀ n ≡ true
    → Looks gates before (row_of regs reset vector values) w₀ n count
    → Looks gates before (row_of regs reset vector (slice_set values n out)) w₂ (n + 1) (count + 1)
look_marked gates before regs reset vector values n count out changed x w₀ w₁ w₂ ordered long lt at made is unmarks
    wakes marked looks =
    let r = length regs in
    let old = row_of regs reset vector values in
    let new = row_of regs reset vector (slice_set values n out) in
    let holds = set_holds regs reset vector values n out gates x ordered (omega arith) at made
    (record { each = λ k g l e. looks.below k g l e }) in
    let kept : (k : ℕ) (g : gate.Gate) → k ≤ n → slice_get gates k ≡ Some g
    → has_changed_pin before new g ≡ has_changed_pin before old g =
    λ k g l e. pins_kept r before regs reset vector values n k out g.pins l (ordered.earlier k g e) in
    record {
      below = λ k g l e. holds.each k g l e;
      above = λ k l.
          let ne : k ≡ n → ⊥ = omega arith in
          get_or-set_other values n k out false ne ∙ looks.above k (omega arith);
      marked = λ k g l e.
          wakes.each k g e
          ∙ ap (λ b. b || list_any (λ w. changed && is_wire (Gate n) w) g.pins)
          (unmarks k ∙ unmarked_other (is_marked w₀ k) k n (omega arith) ∙ looks.marked k g (omega arith) e)
          ∙ sym (any_or (is_changed before old) (λ w. changed && is_wire (Gate n) w) (is_changed before new)
          (change_more before regs reset vector values n out changed (omega arith) is (looks.above n (omega arith)))
          g.pins);
      clear = λ k l m.
          let here = some_at gates k m in
          wakes.each k here.0 here.1
          ∙ ap (λ b. is_marked w₁ k || b)
          (no_reader r n k changed here.0.pins (omega arith) (ordered.earlier k here.0 here.1))
          ∙ or-false (is_marked w₁ k) ∙ unmarks k ∙ unmarked_below k l m;
      counted =
          count_more gates before new n x lt at
          ∙ ap (λ m. m + cond (has_changed_pin before new x) 1 0)
          (count_kept gates before old new n (omega arith) (λ k g l e. kept k g (omega arith) e) ∙ looks.counted)
          ∙ ap (λ b. count + cond b 1 0) (kept n x (omega arith) at ∙ sym (looks.marked n x (omega arith) at) ∙ marked);
    }
  where
    unmarked_other : (b : Bool) (k n : ℕ) → n < k → (b && not (nat_eq k n)) ≡ b
    unmarked_other true k n h = let other : nat_eq k n ≡ false = grind (arith, nat_tests) in ap not other
    unmarked_other false k n h = refl

    no_reader : (r n k : ℕ) (changed : Bool) (pins : List Wire) → k ≤ n → AllThere 64 r k pins
        → list_any (λ w. changed && is_wire (Gate n) w) pins ≡ false
    no_reader r n k changed [] h there = refl
    no_reader r n k changed (w ∷ ws) h there =
        rw (no_wire w (there.each zero w refl))
        (no_reader r n k changed ws h (record { each = λ j v e. there.each (suc j) v e }))
      where
        no_wire : (w : Wire) → IsThere 64 r k w → (changed && is_wire (Gate n) w) ≡ false
        no_wire (Const b) l = and-false changed
        no_wire Reset l = and-false changed
        no_wire (Input j) l = and-false changed
        no_wire (Reg j) l = and-false changed
        no_wire (Gate j) l =
            let other : nat_eq n j ≡ false = grind (arith, nat_tests) in
            ap (λ b. changed && b) other ∙ and-false changed

    unmarked_below : (k : ℕ) → k < n + 1 → k < length gates → (is_marked w₀ k && not (nat_eq k n)) ≡ false
    unmarked_below k l m = elim (cases_lt k n) [
      | inl less ↦ ap (λ b. b && not (nat_eq k n)) (looks.clear k less m)
      | inr ge ↦
          let same : nat_eq k n ≡ true = grind (arith, nat_tests) in
          ap (λ b. is_marked w₀ k && not b) same ∙ and-false (is_marked w₀ k)
    ]
