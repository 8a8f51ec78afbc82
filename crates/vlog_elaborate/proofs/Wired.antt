-- The wires of an unbroken raw netlist are there.
use Rattle.std.proofs.Common.{◌≡◌, ℕ, zero, suc, ◌+◌, ◌<◌, ◌≤◌, ◌⊎◌, inl, inr, Bool, true, false, not, cond}
use Rattle.std.proofs.Common.{List, [], ◌∷◌, ◌++◌, length, map, Option, Some, None, refl, sym, ap, ◌∙◌, subst, arith}
use Rattle.std.proofs.Common.{length-append}
use Rattle.std.specs.Prelude.{nat_eq, slice_get}
use Rattle.std.specs.List.{find}
use Rattle.std.specs.Option.{option_map}
use Rattle.std.proofs.lemmas.Bool.{eqb-true, both_ways, cases_Bool}
use Rattle.std.proofs.lemmas.List.{length-map}
use Rattle.std.proofs.lemmas.Option.{same_Some, slice_get_within}
use Rattle.net_core.specs.declared.gate.Wire.{Wire}
use Rattle.net_core.specs.declared.gate.Wire.TheVariants as wire
use Rattle.net_core.specs.declared.gate.Gate as gate
use Rattle.net_core.specs.Circuits.{IsThere}
use Rattle.vlog_text.specs.declared.raw.DeclKind.{DeclKind}
use Rattle.vlog_text.specs.declared.raw.DeclKind.TheVariants as kind
use Rattle.vlog_text.specs.declared.raw.RawName.{RawName}
use Rattle.vlog_text.specs.declared.raw.RawDecl.{RawDecl}
use Rattle.vlog_text.specs.declared.raw.RawGate.{RawGate}
use Rattle.vlog_text.specs.declared.raw.RawReg.{RawReg}
use Rattle.vlog_text.specs.declared.raw.RawNetlist.{RawNetlist}
use Rattle.vlog_text.specs.declared.raw.RawPin.{RawPin}
use Rattle.vlog_text.specs.declared.raw.RawPin.TheVariants as pin
use Rattle.vlog_text.specs.declared.raw.Target.{Target}
use Rattle.vlog_text.specs.declared.raw.Target.TheVariants as target
use Rattle.vlog_text.specs.Raw.{IsRaw, IsInner, IsOperand}
use Rattle.vlog_text.specs.Words.{has_word, is_named, decl_names, gate_targets, reg_targets, operands, uses, pin_name}
use Rattle.vlog_text.specs.Words.{target_name}
use Rattle.vlog_text.specs.Orders.{is_among, first_from, then_on, order_from, place_in, renumbered, moved, reordered}
use Rattle.vlog_text.specs.Standing.{is_input, is_output, is_reg, is_port, is_declared, is_plain_input, inputs, outputs}
use Rattle.vlog_text.specs.Standing.{registers}
use Rattle.vlog_text.specs.Standing.{number_of, drives, driver, word_wire, pin_wire, resolved, text_gates, the_order}
use Rattle.vlog_text.specs.Standing.{data_wire, register_wire}
use Rattle.vlog_text.specs.Refusing.{item_target, target_or, left_out}
use Rattle.vlog_elaborate.proofs.NameLists.{Has}
use Rattle.vlog_text.proofs.OrderLemmas.{some_at}
use Rattle.vlog_order.proofs.Placing.{order_there}
use Rattle.vlog_elaborate.proofs.NameLists.{same_word, word_is, has_any, map_at, filter_has, has_filter_map}
use Rattle.vlog_elaborate.proofs.NameLists.{filter_map_has}
use Rattle.vlog_elaborate.proofs.NameLists.{filter_map_long}
use Rattle.vlog_elaborate.proofs.NameLists.{has_right, find_has, Stands, first_place, named_has}
use Rattle.vlog_elaborate.proofs.Unbroken.{Unbroken, declared_has, has_declared, other_declared, gate_driven}
use Rattle.vlog_elaborate.proofs.Unbroken.{input_listed}
use Rattle.vlog_elaborate.proofs.Unbroken.{register_listed}

-- ---- no gate is left out

abbrev pub LastIsNamed : List RawGate → Type 0
LastIsNamed gs = (n : ℕ) (g : RawGate) → slice_get gs n ≡ Some g → length gs ≡ suc n → IsInner g.target → ⊥

names_last : (gs : List RawGate) → LastIsNamed gs → item_target gs ≡ [] → gs ≡ []
names_last [] h e = refl
names_last (g ∷ gs) h e = go g.target refl e (names_last gs (λ n x at long. h (suc n) x at (ap suc long)))
  where
    go : (t : Target) → g.target ≡ t → target_or t (item_target gs) ≡ [] → (item_target gs ≡ [] → gs ≡ []) → g ∷ gs ≡ []
    go (target.Name name) s e more = cc
    go target.Inner s e more =
        absurd (h zero g refl (ap (λ xs. suc (length xs)) (more e)) (subst IsInner (sym s) tt))

none_left : (order : List ℕ) (n : ℕ) (gs : List RawGate) → LastIsNamed gs → left_out order n gs ≡ []
    → (k : ℕ) → k < length gs → is_among order (n + k) ≡ true
none_left order n [] last e k within = absurd (omega arith)
none_left order n (g ∷ gs) last e k within =
    go (is_among order n) refl e (none_left order (suc n) gs (λ n x at long. last (suc n) x at (ap suc long))) k within
  where
    empty : g ∷ gs ≡ [] → ⊥
    empty e = cc

    go : (b : Bool) → is_among order n ≡ b → cond b (left_out order (suc n) gs) (item_target (g ∷ gs)) ≡ []
        → (left_out order (suc n) gs ≡ [] → (k : ℕ) → k < length gs → is_among order (suc n + k) ≡ true)
        → (k : ℕ) → k < suc (length gs) → is_among order (n + k) ≡ true
    go true s e more zero within = subst (λ m. is_among order m ≡ true) (omega arith) s
    go true s e more (suc k) within = subst (λ m. is_among order m ≡ true) (omega arith) (more e k (omega arith))
    go false s e more k within = absurd (empty (names_last (g ∷ gs) last e))

-- ---- the order's length

pub order_short : (gates : List gate.Gate) (left : ℕ) (taken : List ℕ)
    → length (order_from gates left taken) ≤ length taken + left
order_short gates zero taken = omega arith
order_short gates (suc left) taken =
    go (first_from (is_among taken) zero gates) (λ n. order_short gates left (taken ++ n ∷ []))
  where
    go : (o : Option ℕ) → ((n : ℕ) → length (order_from gates left (taken ++ n ∷ [])) ≤ length (taken ++ n ∷ []) + left)
        → length (then_on o taken (λ n. order_from gates left (taken ++ n ∷ []))) ≤ length taken + suc left
    go None more = omega arith
    go (Some n) more = omega (arith, more n, length-append taken (n ∷ []))

still_there : (inputs registers gates : ℕ) (place : ℕ → ℕ) (w : Wire) → IsThere inputs registers 0 w
    → IsThere inputs registers gates (renumbered place w)
still_there i r g place (wire.Const b) h = tt
still_there i r g place wire.Reset h = tt
still_there i r g place (wire.Input n) h = h
still_there i r g place (wire.Reg n) h = h
still_there i r g place (wire.Gate n) h = absurd (omega arith)

number_below : (names : List RawName) (w : List ℕ) → is_named names w ≡ true → number_of names w < length names
number_below names w h =
    let s = first_place (has_word w) names h in slice_get_within names (number_of names w) s.item s.is

-- how many things the circuit has
abbrev pub input_count : RawNetlist → ℕ
input_count raw = length (map (λ (n : RawName). n.word) (inputs raw))

abbrev pub register_count : RawNetlist → ℕ
register_count raw = length (map (register_wire raw) (registers raw))

abbrev pub gate_count : RawNetlist → ℕ
gate_count raw = length (reordered (text_gates raw) (the_order raw))

pub ordered_count : (raw : RawNetlist) → gate_count raw ≡ length (the_order raw)
ordered_count raw =
    filter_map_long (λ n. option_map (moved (place_in (the_order raw))) (slice_get (text_gates raw) n)) (the_order raw)
    (λ n has. let g = some_at (text_gates raw) n
    (order_there (text_gates raw) has.place n has.is) in
    (moved (place_in (the_order raw)) g.0, ap (λ o. option_map (moved (place_in (the_order raw))) o) g.1))

pub gates_short : (raw : RawNetlist) → gate_count raw ≤ length raw.gates
gates_short raw =
    let short = order_short (text_gates raw) (length (text_gates raw)) [] in
    omega (arith, ordered_count raw, short, length-map raw.gates (resolved raw))

-- a word that a gate drives
pub record GateWord (raw : RawNetlist) (w : List ℕ) : Type 0 where
  pub is : word_wire raw w ≡ wire.Gate (driver raw w)
  pub no_input : is_declared raw is_input w ≡ false
  pub no_register : is_declared raw is_reg w ≡ false

one_word : (o : Option RawName) (v w : List ℕ) → drives v o ≡ true → drives w o ≡ true → v ≡ w
one_word None v w p q = cc
one_word (Some n) v w p q = same_word v n.word p ∙ sym (same_word w n.word q)

module _ (raw : RawNetlist) (r : IsRaw raw) (u : Unbroken raw) where
  taken : (n : ℕ) → n < length raw.gates → is_among (the_order raw) n ≡ true
  taken n within =
      subst (λ m. is_among (the_order raw) m ≡ true) (omega arith)
      (none_left (the_order raw) 0 raw.gates r.last u.ordered n within)

  place_stands : (n : ℕ) → n < length raw.gates → Stands (nat_eq n) (the_order raw) (place_in (the_order raw) n)
  place_stands n within = first_place (nat_eq n) (the_order raw) (taken n within)

  place_below : (n : ℕ) → n < length raw.gates → place_in (the_order raw) n < gate_count raw
  place_below n within =
      let s = place_stands n within in
      let below = slice_get_within (the_order raw) (place_in (the_order raw) n) s.item s.is in
      omega (arith, ordered_count raw, below)

  place_apart : (m n : ℕ) → m < length raw.gates → n < length raw.gates
      → place_in (the_order raw) m ≡ place_in (the_order raw) n → m ≡ n
  place_apart m n p q e =
      let s = place_stands m p in
      let t = place_stands n q in
      let same : s.item ≡ t.item
      = same_Some s.item t.item (sym s.is ∙ ap (λ i. slice_get (the_order raw) i) e ∙ t.is) in
      eqb-true m s.item s.passes ∙ same ∙ sym (eqb-true n t.item t.passes)

  driver_stands : (w : List ℕ) → is_named (gate_targets raw) w ≡ true
      → Stands (λ (g : RawGate). drives w (target_name g.target)) raw.gates (driver raw w)
  driver_stands w h =
      let n = named_has (gate_targets raw) w h in
      let g = filter_map_has (λ (g : RawGate). target_name g.target) raw.gates n.0 n.1 in
      first_place (λ (g : RawGate). drives w (target_name g.target)) raw.gates
      (has_any (λ (g : RawGate). drives w (target_name g.target)) raw.gates g.0 g.1
      (ap (λ o. drives w o) g.2 ∙ word_is w n.0.word (sym n.2)))

  pub driver_there : (w : List ℕ) → is_named (gate_targets raw) w ≡ true
      → place_in (the_order raw) (driver raw w) < gate_count raw
  driver_there w h =
      let s = driver_stands w h in
      place_below (driver raw w) (slice_get_within raw.gates (driver raw w) s.item s.is)

  -- no two words have one driver
  pub drivers_apart : (v w : List ℕ) → is_named (gate_targets raw) v ≡ true → is_named (gate_targets raw) w ≡ true
      → place_in (the_order raw) (driver raw v) ≡ place_in (the_order raw) (driver raw w) → v ≡ w
  drivers_apart v w h k e =
      let s = driver_stands v h in
      let t = driver_stands w k in
      let drivers = place_apart (driver raw v) (driver raw w) (slice_get_within raw.gates (driver raw v) s.item s.is)
      (slice_get_within raw.gates (driver raw w) t.item t.is) e in
      let same : s.item ≡ t.item
      = same_Some s.item t.item (sym s.is ∙ ap (λ i. slice_get raw.gates i) drivers ∙ t.is) in
      one_word (target_name t.item.target) v w
      (subst (λ (g : RawGate). drives v (target_name g.target) ≡ true) same s.passes) t.passes

  word_there : (w : List ℕ) → IsThere (input_count raw) (register_count raw) 0 (word_wire raw w) ⊎ GateWord raw w
  word_there w = go (is_plain_input raw w) refl
    where
      as_input : Bool → Wire
      as_input a = cond a (wire.Input (number_of (inputs raw) w)) (cond (is_declared raw is_input w) wire.Reset
          (cond (is_declared raw is_reg w) (wire.Reg (number_of (registers raw) w)) (wire.Gate (driver raw w))))

      as_reset : Bool → Wire
      as_reset b = cond b wire.Reset
          (cond (is_declared raw is_reg w) (wire.Reg (number_of (registers raw) w)) (wire.Gate (driver raw w)))

      as_register : Bool → Wire
      as_register c = cond c (wire.Reg (number_of (registers raw) w)) (wire.Gate (driver raw w))

      Goal : Type 0
      Goal = IsThere (input_count raw) (register_count raw) 0 (word_wire raw w) ⊎ GateWord raw w

      there : (v : Wire) → word_wire raw w ≡ v → IsThere (input_count raw) (register_count raw) 0 v → Goal
      there v e h = inl (subst (λ x. IsThere (input_count raw) (register_count raw) 0 x) (sym e) h)

      registered : (c : Bool) → is_declared raw is_reg w ≡ c → is_declared raw is_input w ≡ false
          → word_wire raw w ≡ as_register c → Goal
      registered true s other e =
          let below = number_below (registers raw) w (register_listed raw u w s) in
          there (wire.Reg (number_of (registers raw) w)) e
          (omega (arith, below, length-map (registers raw) (register_wire raw)))
      registered false s other e = inr (record { is = e; no_input = other; no_register = s })

      reset : (b : Bool) → is_declared raw is_input w ≡ b → word_wire raw w ≡ as_reset b → Goal
      reset true s e = there wire.Reset e tt
      reset false s e = registered (is_declared raw is_reg w) refl s e

      go : (a : Bool) → is_plain_input raw w ≡ a → Goal
      go true s =
          let below = number_below (inputs raw) w (input_listed raw u w s) in
          there (wire.Input (number_of (inputs raw) w)) (ap as_input s)
          (omega (arith, below, length-map (inputs raw) (λ (n : RawName). n.word)))
      go false s = reset (is_declared raw is_input w) refl (ap as_input s)

  -- the pin of a gate that stands at this place
  pub pin_there : (n : ℕ) (p : RawPin) (v : Wire) → v ≡ renumbered (place_in (the_order raw)) (pin_wire raw p)
      → ((m : ℕ) → v ≡ wire.Gate m → m < n) → IsThere (input_count raw) (register_count raw) n v
  pin_there n (pin.Const b) v e below = subst (λ x. IsThere (input_count raw) (register_count raw) n x) (sym e) tt
  pin_there n (pin.Prior k) v e below =
      subst (λ x. IsThere (input_count raw) (register_count raw) n x) (sym e) (below (place_in (the_order raw) k) e)
  pin_there n (pin.Name name) v e below = elim (word_there name.word) [
    | inl t ↦
        subst (λ x. IsThere (input_count raw) (register_count raw) n x) (sym e)
        (still_there (input_count raw) (register_count raw) n (place_in (the_order raw)) (word_wire raw name.word) t)
    | inr g ↦
        let is : v ≡ wire.Gate (place_in (the_order raw) (driver raw name.word))
        = e ∙ ap (renumbered (place_in (the_order raw))) g.is in
        subst (λ x. IsThere (input_count raw) (register_count raw) n x) (sym is)
        (below (place_in (the_order raw) (driver raw name.word)) is)
  ]

  gate_word : (w : List ℕ) → is_named (decl_names raw) w ≡ true → GateWord raw w → is_named (gate_targets raw) w ≡ true
  gate_word w h g =
      let n = named_has (decl_names raw) w h in
      let d = map_at (λ (d : RawDecl). d.name) raw.decls n.1.place n.0 n.1.is in
      let has : Has raw.decls d.0 = record { place = n.1.place; is = d.1 } in
      let same : d.0.name.word ≡ w = ap (λ (n : RawName). n.word) (sym d.2) ∙ n.2 in
      gate_driven raw u w d.0 has same
      (elim (cases_Bool (is_input d.0.kind)) [
        | inl t ↦
            absurd (both_ways (is_declared raw is_input w) g.no_input (has_declared raw is_input w d.0 has t same))
        | inr f ↦ f
      ]) g.no_register

  operand_there : (p : RawPin) → IsOperand p → ((n : RawName) → pin_name p ≡ Some n → Has (uses raw) n)
      → IsThere (input_count raw) (register_count raw) (gate_count raw)
      (renumbered (place_in (the_order raw)) (pin_wire raw p))
  operand_there (pin.Const b) h used = tt
  operand_there (pin.Prior k) h used = absurd h
  operand_there (pin.Name name) h used = elim (word_there name.word) [
    | inl t ↦ still_there (input_count raw) (register_count raw) (gate_count raw) (place_in (the_order raw))
        (word_wire raw name.word) t
    | inr g ↦
        subst (λ x. IsThere (input_count raw) (register_count raw) (gate_count raw)
        (renumbered (place_in (the_order raw)) x))
        (sym g.is)
        (driver_there name.word (gate_word name.word (u.uses_declared name (used name refl)) g))
  ]

  -- what a register takes
  pub register_there : (n : RawName)
      → IsThere (input_count raw) (register_count raw) (gate_count raw) (register_wire raw n)
  register_there n =
      go (find (λ (r : RawReg). has_word n.word r.target) raw.regs)
      (λ x e. find_has (λ (r : RawReg). has_word n.word r.target) raw.regs x e)
    where
      go : (o : Option RawReg) → ((x : RawReg) → o ≡ Some x → Has raw.regs x)
          → IsThere (input_count raw) (register_count raw) (gate_count raw) (data_wire raw o)
      go None has = tt
      go (Some x) has =
          let at = has x refl in
          operand_there x.wire (r.operands at.place x at.is) (λ name e.
          has_right (raw.ports ++ gate_targets raw ++ reg_targets raw) (operands raw) name
          (has_right _ _ name (has_filter_map (λ (r : RawReg). pin_name r.wire) raw.regs x name at e)))

  pub output_driven : (n : RawName) → Has (outputs raw) n → is_named (gate_targets raw) n.word ≡ true
  output_driven n has =
      let port = filter_has (λ (n : RawName). is_declared raw is_output n.word) raw.ports n has in
      let d = declared_has raw is_output n.word port.1 in
      gate_driven raw u n.word d.0 d.1 d.3 (no_input d.0.kind d.2)
      (elim (cases_Bool (is_declared raw is_reg n.word)) [
        | inl t ↦
            absurd (both_ways (is_declared raw (λ k. not (is_port k)) n.word) (u.ports_are n port.0)
            (other_declared raw is_reg (λ k. not (is_port k)) no_port n.word t))
        | inr f ↦ f
      ])
    where
      no_input : (k : DeclKind) → is_output k ≡ true → is_input k ≡ false
      no_input kind.Input h = sym h
      no_input kind.Output h = refl
      no_input kind.Wire h = refl
      no_input kind.Reg h = refl

      no_port : (k : DeclKind) → is_reg k ≡ true → not (is_port k) ≡ true
      no_port kind.Input h = h
      no_port kind.Output h = h
      no_port kind.Wire h = refl
      no_port kind.Reg h = refl
