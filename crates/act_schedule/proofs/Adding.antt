-- The circuits of levels, from the steps of the builder.
use Rattle.std.proofs.Common.{◌≡◌, ℕ, zero, suc, ◌+◌, ◌*◌, ◌<◌, ◌≤◌, false, inl, inr}
use Rattle.std.proofs.Common.{List, [], ◌∷◌, ◌++◌, length, take, refl, sym, ap, ◌∙◌, subst, arith, length-append}
use Rattle.std.proofs.Common.{append_assoc}
use Rattle.std.specs.Prelude.{slice_get, slice_set, Some}
use Rattle.std.proofs.lemmas.List.{get_or_append_left, take_more}
use Rattle.std.proofs.Math.Seq.{get_or-append_seam}
use Rattle.std.proofs.lemmas.Option.{slice_get_within, get_or_from_slice_get}
use Rattle.net_core.specs.declared.gate.Wire.{Wire}
use Rattle.net_core.specs.declared.gate.Wire.TheVariants.{Const}
use Rattle.net_core.specs.Rows.{Row, IsRow, value}
use Rattle.net_core.specs.Circuits.{Circuit, Exists, IsThere, wire_at}
use Rattle.net_core.specs.Building.{Extends, HasAll, Keeps, Means, gate_input_pins, input_pin, input_pins}
use Rattle.net_core.specs.Building.{with_data, with_register}
use Rattle.net_core.proofs.Pushed.{get_pushed, length_pushed, length_slice_set}
use Rattle.net_core.proofs.Growth.{extends_keeps, later_keeps, register_keeps}
use Rattle.act_schedule.specs.declared.plan.PlanSet.{PlanSet}
use Rattle.act_schedule.specs.declared.plan.PlanLevel.{PlanLevel}
use Rattle.act_schedule.specs.Levels.{after_actions, set_of, set_where, step_of}
use Rattle.act_schedule.specs.Circuits.{AddsLevels, value_in_row}
use Rattle.act_schedule.specs.inner.Adding.{AddsLevel, listed_below, listed_one}
use Rattle.act_schedule.proofs.Counting.{listed_few, listed_within, no_pins, pins_more, pins_pushed, units_more}

pub extends_trans : (a b c : Circuit) (k m i j : ℕ) → Extends a b k i → Extends b c m j → Extends a c (k + m) (i + j)
extends_trans a b c k m i j e f = record {
  rows = λ row h. e.rows row (f.rows row h);
  there = λ w h. f.there w (e.there w h);
  inputs = f.inputs ∙ e.inputs;
  registers = f.registers ∙ e.registers;
  outputs = f.outputs ∙ e.outputs;
  fewest = omega arith;
  most = omega arith;
  few_pins = omega arith;
}

-- ---- the gates of one action more

-- the wire has the value once the first a actions were gone through
abbrev pub GoneThrough : Circuit → List PlanSet → List Wire → Wire → ℕ → Wire → Type 0
GoneThrough c sets fires kept a wire =
    Means c wire (λ row. after_actions sets (λ a. value row (wire_at fires a)) (value row kept) a)

module _ (old b new : Circuit) (sets : List PlanSet) (fires : List Wire) (kept was wire : Wire) (a : ℕ)
    (within : a < length fires)
    (had : Extends old b (2 * listed_below sets a) (input_pins (take a fires)))
    (meant : GoneThrough b sets fires kept a was)
    (added : Extends b new (2 * listed_one (set_of sets a)) (input_pin (wire_at fires a)))
    (means : Means new wire (λ row. step_of (set_of sets a) (value row (wire_at fires a)) (value row was))) where
  next_extends : Extends old new (2 * listed_below sets (suc a)) (input_pins (take (suc a) fires))
  next_extends =
      let both = extends_trans old b new _ _ _ _ had added in
      let gates : 2 * listed_below sets a + 2 * listed_one (set_of sets a) ≡ 2 * listed_below sets (suc a) =
      omega arith in
      subst (λ n. Extends old new n (input_pins (take (suc a) fires))) gates
      (subst (λ n. Extends old new (2 * listed_below sets a + 2 * listed_one (set_of sets a)) n)
      (sym (pins_more fires a within)) both)

  next_means : GoneThrough new sets fires kept (suc a) wire
  next_means = record {
    there = means.there;
    inner = means.inner;
    meaning = λ row h. means.meaning row h
        ∙ ap (λ x. step_of (set_of sets a) (value row (wire_at fires a)) x) (meant.meaning row (added.rows row h));
  }

  pub gone_further : (n : ℕ) → n ≡ suc a
      → (Extends old new (2 * listed_below sets n) (input_pins (take n fires)))
      × (GoneThrough new sets fires kept n wire)
  gone_further n e = (
    subst (λ n. Extends old new (2 * listed_below sets n) (input_pins (take n fires))) (sym e) next_extends,
    subst (λ n. GoneThrough new sets fires kept n wire) (sym e) next_means,
  )

-- ---- one level

set_last : (ws : List Wire) (v w : Wire) → slice_set (ws ++ v ∷ []) (length ws) w ≡ ws ++ w ∷ []
set_last [] v w = refl
set_last (x ∷ ws) v w = ap (λ l. x ∷ l) (set_last ws v w)

module _ (old made built : Circuit) (level : PlanLevel) (fires : List Wire) (kept wire : Wire)
    (begun : Extends (with_register old) made 2 0)
    (keeping : Means made kept (λ row. set_where row.reset level.start (row.registers (length old.registers))))
    (set : Extends made built (2 * listed_below level.sets (length fires)) (input_pins fires))
    (means : GoneThrough built level.sets fires kept (length fires) wire) where
  abbrev bound : Circuit
  bound = with_data built (length old.registers) wire

  keeps_all : Keeps old bound → AddsLevel old bound level fires wire
  keeps_all keeps =
      let unbound : built.registers ≡ old.registers ++ Const false ∷ [] = set.registers ∙ begun.registers in
      let few = listed_few level.sets (length fires) in
      let each = listed_within level.sets (length fires) in
      record {
        keeps = keeps;
        inputs = set.inputs ∙ begun.inputs;
        outputs = set.outputs ∙ begun.outputs;
        registers = ap (λ ws. slice_set ws (length old.registers) wire) unbound
            ∙ set_last old.registers (Const false) wire;
        few = let p = begun.most in let q = set.most in omega (arith, few, p, q);
        few_each = let p = begun.most in let q = set.most in omega (arith, each, p, q);
        few_pins = let p = begun.few_pins in let q = set.few_pins in omega (arith, p, q);
        there = subst (λ n. IsThere (length built.inputs) n (length built.gates) wire)
            (sym (length_slice_set built.registers (length old.registers) wire)) means.there;
        inner = means.inner;
        next = λ row h. means.meaning row h
            ∙ ap (λ x. after_actions level.sets (λ a. value row (wire_at fires a)) x (length fires))
            (keeping.meaning row (set.rows row h));
      }

pub level_added : (old c1 c2 c3 new : Circuit) (level : PlanLevel) (fires : List Wire) (n : ℕ) (kept wire : Wire)
    → n ≡ length old.registers → c1 ≡ with_register old → Extends c1 c2 2 0
    → Means c2 kept (λ row. set_where row.reset level.start (row.registers n))
    → Extends c2 c3 (2 * listed_below level.sets (length fires)) (input_pins fires)
    → GoneThrough c3 level.sets fires kept (length fires) wire
    → new ≡ with_data c3 n wire → (Keeps old c3 → Keeps old new) → AddsLevel old new level fires wire
level_added old c1 c2 c3 new level fires n kept wire at one begun keeping set means bound keeps =
    let all : Keeps old c3 =
    later_keeps old c1 c3 (subst (λ c. Keeps old c) (sym one) (register_keeps old))
    (later_keeps c1 c2 c3 (extends_keeps c1 c2 _ _ begun) (extends_keeps c2 c3 _ _ set)) in
    let same : new ≡ with_data c3 (length old.registers) wire = bound ∙ ap (λ r. with_data c3 r wire) at in
    subst (λ c. AddsLevel old c level fires wire) (sym same)
    (keeps_all old c2 c3 level fires kept wire (subst (λ c. Extends c c2 2 0) one begun)
    (subst (λ r. Means c2 kept (λ row. set_where row.reset level.start (row.registers r))) at keeping) set means
    (subst (λ c. Keeps old c) same (keeps all)))

-- ---- one level more

-- what holds of each wire of a list, and of one more
all_pushed : (P : Wire → Type 0) (ws : List Wire) (w : Wire) → ((n : ℕ) → n < length ws → P (wire_at ws n)) → P w
    → (n : ℕ) → n < length (ws ++ w ∷ []) → P (wire_at (ws ++ w ∷ []) n)
all_pushed P [] w each last zero h = last
all_pushed P [] w each last (suc n) h = absurd (omega arith)
all_pushed P (x ∷ ws) w each last zero h = each zero (omega arith)
all_pushed P (x ∷ ws) w each last (suc n) h =
    all_pushed P ws w (λ n h. each (suc n) (omega arith)) last n (omega arith)

module _ (old b new : Circuit) (levels : List PlanLevel) (level : PlanLevel) (fires ws : List Wire) (wire : Wire)
    (had : AddsLevels old b levels fires ws) (added : AddsLevel b new level fires wire) where
  all_there : HasAll new (ws ++ wire ∷ [])
  all_there = record {
    each = all_pushed (λ w. Exists new w) ws wire
        (λ n h. added.keeps.there (wire_at ws n) (had.wires_there.each n h)) added.there;
    inner = all_pushed (λ w. input_pin w ≡ 0) ws wire had.wires_there.inner added.inner;
  }

  -- the register of the new level has the next number
  register_number : length b.registers ≡ length old.registers + length levels
  register_number = ap length had.registers ∙ omega (arith, length-append old.registers ws, had.count)

  next_of_each : (row : Row) → IsRow new.gates row → (l : ℕ) (x : PlanLevel)
      → slice_get (levels ++ level ∷ []) l ≡ Some x
      → value row (wire_at (ws ++ wire ∷ []) l) ≡ value_in_row x fires row (row.registers (length old.registers + l))
  next_of_each row h l x e = elim (get_pushed levels level l x e) [
    | inl earlier ↦
        let within : l < length ws = omega (arith, slice_get_within levels l x earlier, had.count) in
        ap (value row) (get_or_append_left ws (wire ∷ []) (Const false) l within)
        ∙ had.next row (added.keeps.rows row h) l x earlier
    | inr (end, same) ↦
        let last : l ≡ length ws = end ∙ sym had.count in
        let number : length b.registers ≡ length old.registers + l =
        register_number ∙ ap (λ n. length old.registers + n) (sym end) in
        ap (λ n. value row (wire_at (ws ++ wire ∷ []) n)) last
        ∙ ap (value row) (get_or-append_seam ws wire [] (Const false))
        ∙ added.next row h
        ∙ ap (λ r. value_in_row level fires row (row.registers r)) number
        ∙ ap (λ (y : PlanLevel). value_in_row y fires row (row.registers (length old.registers + l))) (sym same)
  ]

  pins_kept : ((a : ℕ) → a < length fires → input_pin (wire_at fires a) ≡ 0)
      → gate_input_pins new.gates + input_pins new.registers ≤ gate_input_pins old.gates + input_pins old.registers
  pins_kept inner =
      let was = had.few_pins inner in
      let few = added.few_pins in
      let none = no_pins fires inner in
      let bound = ap input_pins added.registers ∙ pins_pushed b.registers wire in
      omega (arith, was, few, none, bound, added.inner)

  pub levels_added : AddsLevels old new (levels ++ level ∷ []) fires (ws ++ wire ∷ [])
  levels_added = record {
    keeps = later_keeps old b new had.keeps added.keeps;
    inputs = added.inputs ∙ had.inputs;
    outputs = added.outputs ∙ had.outputs;
    count = omega (arith, length_pushed ws wire, length_pushed levels level, had.count);
    registers = added.registers ∙ ap (λ rs. rs ++ wire ∷ []) had.registers
        ∙ append_assoc old.registers ws (wire ∷ []);
    few =
        let was = had.few in
        let few = added.few in
        let units = units_more levels level in
        omega (arith, was, few, units);
    few_each =
        let was = had.few_each in
        let few = added.few_each in
        let times = ap (λ n. n * (1 + length fires)) (length_pushed levels level) in
        grind (arith, was, few, times);
    few_pins = pins_kept;
    wires_there = all_there;
    next = next_of_each;
  }

pub one_level_more : (old b new : Circuit) (levels : List PlanLevel) (l : ℕ) (level : PlanLevel)
    (fires ws ws' : List Wire) (wire : Wire) → AddsLevels old b (take l levels) fires ws
    → AddsLevel b new level fires wire → slice_get levels l ≡ Some level → ws' ≡ ws ++ wire ∷ []
    → AddsLevels old new (take (l + 1) levels) fires ws'
one_level_more old b new levels l level fires ws ws' wire had added at pushed =
    let longer : take (l + 1) levels ≡ take l levels ++ level ∷ [] =
    take_more levels l level (slice_get_within levels l level at)
    ∙ ap (λ x. take l levels ++ x ∷ []) (get_or_from_slice_get levels l level level at) in
    subst (λ ls. AddsLevels old new ls fires ws') (sym longer)
    (subst (λ ws. AddsLevels old new (take l levels ++ level ∷ []) fires ws) (sym pushed)
    (levels_added old b new (take l levels) level fires ws wire had added))
