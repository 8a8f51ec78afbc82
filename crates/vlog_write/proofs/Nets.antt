-- The netlist that the raw netlist of what is written stands for.
use Rattle.std.proofs.Common.{◌≡◌, ℕ, zero, suc, ◌+◌, ◌<◌, ◌≤◌, List, [], ◌∷◌, ◌++◌, length, map, Bool, true, false}
use Rattle.std.proofs.Common.{Some, cond, refl, sym, ap, subst, ◌∙◌, append-nil, arith}
use Rattle.std.specs.Prelude.{◌&&◌, ◌||◌, not, if◌then◌else◌, codes, slice_get, slice_index_or, filter, unwrap_or}
use Rattle.std.specs.List.{find, position_from, range_with_len}
use Rattle.std.specs.Str.{bytes_eq}
use Rattle.std.proofs.lemmas.List.Elements.{filter-append}
use Rattle.std.proofs.lemmas.Option.{slice_get_within, same_Some, slice_get-get_or}
use Rattle.net_core.specs.declared.gate.Wire.{Wire}
use Rattle.net_core.specs.declared.gate.Wire.TheVariants as wire
use Rattle.net_core.specs.declared.gate.Gate as gate
use Rattle.net_core.specs.declared.netlist.Output.{Output}
use Rattle.net_core.specs.Circuits.{Circuit, circuit_of, IsCircuit, IsThere, output_names}
use Rattle.vlog_text.specs.declared.raw.DeclKind.{DeclKind}
use Rattle.vlog_text.specs.declared.raw.DeclKind.TheVariants as kind
use Rattle.vlog_text.specs.declared.raw.RawName.{RawName}
use Rattle.vlog_text.specs.declared.raw.RawDecl.{RawDecl}
use Rattle.vlog_text.specs.declared.raw.RawGate.{RawGate}
use Rattle.vlog_text.specs.declared.raw.RawReg.{RawReg}
use Rattle.vlog_text.specs.declared.raw.RawNetlist.{RawNetlist}
use Rattle.vlog_text.specs.declared.raw.RawPin.{RawPin}
use Rattle.vlog_text.specs.declared.raw.RawPin.TheVariants as pin
use Rattle.vlog_text.specs.declared.raw.Target.{Target}
use Rattle.vlog_text.specs.declared.raw.Target.TheVariants as target
use Rattle.vlog_text.specs.Emitted.{gate_name, reg_name}
use Rattle.vlog_text.specs.PortNames.{IsPortName, HasPortNames}
use Rattle.vlog_text.specs.Words.{target_name}
use Rattle.vlog_text.specs.Orders.{order_of, place_in, renumbered, reordered}
use Rattle.vlog_text.specs.Standing.{is_input, is_output, is_reg, is_clock, is_reset, is_declared, is_plain_input}
use Rattle.vlog_text.specs.Standing.{inputs, outputs, registers, number_of, drives, driver, word_wire, pin_wire}
use Rattle.vlog_text.specs.Standing.{resolved, text_gates, the_order, data_wire, register_wire, output_of, net_of}
use Rattle.vlog_text.proofs.OrderLemmas.{AreEarlier}
use Rattle.vlog_write.proofs.Lists.{Each, each-map, each_so, each_at, each_from, each_all, filter_none}
use Rattle.vlog_write.proofs.Lists.{filter_each, map-filter, map-map, map_same, map_itself, position-map, position_same}
use Rattle.vlog_write.proofs.WrittenNames.{bytes_itself, bytes_apart, reg_once, port_group, groups_apart}
use Rattle.vlog_write.proofs.Shapes.{word_of, bare_pin, bare_target, bare_gate, bare_reg, Shape, shape, named}
use Rattle.vlog_write.proofs.Shapes.{wire_names, of_kind, port_decls, inner_decls, all_decls, written_pin}
use Rattle.vlog_write.proofs.Shapes.{written_gates, written_reg, written_regs, IsRawOf}
use Rattle.vlog_write.proofs.Readable.{inputs-each}
use Rattle.vlog_write.proofs.Apart.{Apart, place_word, get-named, gates-apart, inputs-apart, regs-apart}
use Rattle.vlog_write.proofs.Apart.{output_gate_name}
use Rattle.vlog_write.proofs.Known.{HasKind, second, names-kind, pairs, both_no, clock-kind, reset-kind, input-kinds}
use Rattle.vlog_write.proofs.Known.{output-kinds, reg-kind, gate-kind, input-no_clock}
use Rattle.vlog_write.proofs.Ordered.{same_place, same_wire}

plain_true : (a b d : Bool) → a ≡ true → b ≡ false → d ≡ false → (a && not (b || d)) ≡ true
plain_true true false false p q r = refl
plain_true true false true p q r = absurd cc
plain_true true true d p q r = absurd cc
plain_true false b d p q r = absurd cc

left_no : (a b : Bool) → a ≡ false → (a && b) ≡ false
left_no false b p = refl
left_no true b p = absurd cc

map-named : {A : Type 0} (f : List ℕ → A) (name : ℕ → List ℕ) (k : ℕ) (xs : List A)
    → ((n m : ℕ) (x : A) → slice_get xs n ≡ Some x → m ≡ k + n → f (name m) ≡ x) → map f (named name k xs) ≡ xs
map-named f name k [] h = refl
map-named f name k (x ∷ xs) h =
    ap (λ y. y ∷ map f (named name (k + 1) xs)) (h 0 k x refl (omega arith))
    ∙ ap (λ l. x ∷ l) (map-named f name (k + 1) xs (λ n m y e s. h (suc n) m y e (omega arith)))

-- ---- spans make no difference

pin-bare : (raw : RawNetlist) (p : RawPin) → pin_wire raw (bare_pin p) ≡ pin_wire raw p
pin-bare raw (pin.Const b) = refl
pin-bare raw (pin.Name n) = refl
pin-bare raw (pin.Prior n) = refl

pins-bare : (raw : RawNetlist) (ps : List RawPin) → map (pin_wire raw) (map bare_pin ps) ≡ map (pin_wire raw) ps
pins-bare raw ps =
    map-map (pin_wire raw) bare_pin ps
    ∙ map_same (λ p. pin_wire raw (bare_pin p)) (pin_wire raw) ps
    (each_all (λ p. pin_wire raw (bare_pin p) ≡ pin_wire raw p) ps (pin-bare raw))

resolved-bare : (raw : RawNetlist) (g : RawGate) → resolved raw (bare_gate g) ≡ resolved raw g
resolved-bare raw g =
    ap (λ (ws : List Wire). let new : gate.Gate = record { kind = g.kind; pins = ws } in new) (pins-bare raw g.pins)

gates-bare : (raw : RawNetlist) (gs : List RawGate)
    → map (resolved raw) (map bare_gate gs) ≡ map (resolved raw) gs
gates-bare raw gs =
    map-map (resolved raw) bare_gate gs
    ∙ map_same (λ g. resolved raw (bare_gate g)) (resolved raw) gs
    (each_all (λ g. resolved raw (bare_gate g) ≡ resolved raw g) gs (resolved-bare raw))

abbrev drives_word : List ℕ → RawGate → Bool
drives_word w g = drives w (target_name g.target)

drives-bare : (w : List ℕ) (t : Target) → drives w (target_name t) ≡ drives w (target_name (bare_target t))
drives-bare w (target.Name n) = refl
drives-bare w target.Inner = refl

abbrev targets_word : List ℕ → RawReg → Bool
targets_word w r = bytes_eq w r.target.word

data-bare : (raw : RawNetlist) (w : List ℕ) (rs : List RawReg)
    → data_wire raw (find (targets_word w) rs) ≡ data_wire raw (find (targets_word w) (map bare_reg rs))
data-bare raw w [] = refl
data-bare raw w (r ∷ rs) = by (targets_word w r) (data-bare raw w rs)
  where
    by : (b : Bool) → data_wire raw (find (targets_word w) rs) ≡ data_wire raw (find (targets_word w) (map bare_reg rs))
        → data_wire raw (cond b (Some r) (find (targets_word w) rs))
        ≡ data_wire raw (cond b (Some (bare_reg r)) (find (targets_word w) (map bare_reg rs)))
    by true e = ap (renumbered (place_in (the_order raw))) (sym (pin-bare raw r.wire))
    by false e = e

-- ---- written lists

driver-written : (w : List ℕ) (c : Circuit) (k n : ℕ) (gs : List gate.Gate)
    → position_from (drives_word w) k (written_gates c n gs) ≡ position_from (bytes_eq w) k (named (gate_name c) n gs)
driver-written w c k n [] = refl
driver-written w c k n (g ∷ gs) =
    ap (λ o. cond (bytes_eq w (gate_name c n)) (Some k) o) (driver-written w c (k + 1) (n + 1) gs)

gates-written : (raw : RawNetlist) (c : Circuit) (n : ℕ) (gs : List gate.Gate)
    → Each (λ (g : gate.Gate). Each (λ w. pin_wire raw (written_pin c w) ≡ w) g.pins) gs
    → map (resolved raw) (written_gates c n gs) ≡ gs
gates-written raw c n [] h = refl
gates-written raw c n (g ∷ gs) h =
    let pins : map (pin_wire raw) (map (written_pin c) g.pins) ≡ g.pins =
    map-map (pin_wire raw) (written_pin c) g.pins
    ∙ map_itself (λ w. pin_wire raw (written_pin c w)) g.pins h.0 in
    ap (λ (ws : List Wire). record { kind = g.kind; pins = ws } ∷ map (resolved raw) (written_gates c (n + 1) gs)) pins
    ∙ ap (λ l. g ∷ l) (gates-written raw c (n + 1) gs h.1)

find-written : (c : Circuit) (k n m : ℕ) (ws : List Wire) (w : Wire) → k + length ws ≤ 4294967295
    → slice_get ws n ≡ Some w → m ≡ k + n
    → find (targets_word (reg_name m)) (written_regs c k ws) ≡ Some (written_reg c m w)
find-written c k n m [] w few e s = absurd cc
find-written c k zero m (v ∷ ws) w few e s =
    let same : v ≡ w = same_Some v w e in
    let at : k ≡ m = omega arith in
    let now : bytes_eq (reg_name m) (reg_name k) ≡ true =
    subst (λ j. bytes_eq (reg_name m) (reg_name j) ≡ true) (sym at) (bytes_itself (reg_name m)) in
    ap (λ b. cond b (Some (written_reg c k v)) (find (targets_word (reg_name m)) (written_regs c (k + 1) ws))) now
    ∙ (ap (λ j. Some (written_reg c j v)) at ∙ ap (λ x. Some (written_reg c m x)) same)
find-written c k (suc n) m (v ∷ ws) w few e s =
    let low = slice_get_within ws n w e in
    let now : bytes_eq (reg_name m) (reg_name k) ≡ false =
    bytes_apart (reg_name m) (reg_name k)
    (λ f. above (reg_once m k (omega arith) (omega arith) f)) in
    ap (λ b. cond b (Some (written_reg c k v)) (find (targets_word (reg_name m)) (written_regs c (k + 1) ws))) now
    ∙ find-written c (k + 1) n m ws w (omega arith) e (omega arith)
  where
    above : m ≡ k → ⊥
    above f = omega arith

module _ (c : Circuit) (raw : RawNetlist) (is : IsRawOf c raw) (good : IsCircuit c) (names : HasPortNames c) where
  -- ---- the lists of names

  no_clock_input : is_plain_input raw (codes "clk") ≡ false
  no_clock_input = both_no (is_declared raw is_input (codes "clk")) false refl

  no_reset_input : is_plain_input raw (codes "rst") ≡ false
  no_reset_input = both_no (is_declared raw is_input (codes "rst")) false refl

  no_reset : (w : List ℕ) → IsPortName w → is_reset w ≡ false
  no_reset w p = groups_apart w (codes "rst") 0 2 (port_group w p) refl refl

  plain-inputs : Each (λ w. is_plain_input raw w ≡ true) c.inputs
  plain-inputs =
      each_from (λ w. is_plain_input raw w ≡ true) c.inputs
      (λ n w e. plain_true (is_declared raw is_input w) (is_clock w) (is_reset w)
      ((each_at (λ w. HasKind raw w kind.Input) c.inputs n w (input-kinds c raw is good names) e).is is_input)
      (each_at (λ w. is_clock w ≡ false) c.inputs n w (input-no_clock c raw is good names) e)
      (no_reset w (each_at IsPortName c.inputs n w (inputs-each c good names) e)))

  no_plain : Each (λ w. is_plain_input raw w ≡ false) (output_names c)
  no_plain =
      each_so (λ w. HasKind raw w kind.Output) (λ w. is_plain_input raw w ≡ false) (output_names c)
      (λ w k. left_no (is_declared raw is_input w) _ (k.is is_input)) (output-kinds c raw is good names)

  -- two names that are passed over, and those of two lists
  passed : (p : List ℕ → Bool) (x y : List ℕ) (xs ys us vs : List (List ℕ)) → p x ≡ false → p y ≡ false
      → filter p xs ≡ us → filter p ys ≡ vs → filter p (x ∷ y ∷ (xs ++ ys)) ≡ us ++ vs
  passed p x y xs ys us vs a b e f =
      ap (λ t. cond t (x ∷ filter p (y ∷ (xs ++ ys))) (filter p (y ∷ (xs ++ ys)))) a
      ∙ (ap (λ t. cond t (y ∷ filter p (xs ++ ys)) (filter p (xs ++ ys))) b
      ∙ (filter-append p xs ys ∙ pairs _ _ _ _ e f))

  input-words : map word_of (inputs raw) ≡ c.inputs
  input-words =
      map-filter word_of (is_plain_input raw) raw.ports
      ∙ (ap (filter (is_plain_input raw)) is.ports_are
      ∙ (passed (is_plain_input raw) (codes "clk") (codes "rst") c.inputs (output_names c) c.inputs [] no_clock_input
      no_reset_input (filter_each (is_plain_input raw) c.inputs plain-inputs)
      (filter_none (is_plain_input raw) (output_names c) no_plain)
      ∙ append-nil c.inputs))

  output-words : map word_of (outputs raw) ≡ output_names c
  output-words =
      map-filter word_of (is_declared raw is_output) raw.ports
      ∙ (ap (filter (is_declared raw is_output)) is.ports_are
      ∙ passed (is_declared raw is_output) (codes "clk") (codes "rst") c.inputs (output_names c) [] (output_names c)
      ((clock-kind c raw is good names).is is_output) ((reset-kind c raw is good names).is is_output)
      (filter_none (is_declared raw is_output) c.inputs
      (each_so (λ w. HasKind raw w kind.Input) (λ w. is_declared raw is_output w ≡ false) c.inputs
      (λ w k. k.is is_output) (input-kinds c raw is good names)))
      (filter_each (is_declared raw is_output) (output_names c)
      (each_so (λ w. HasKind raw w kind.Output) (λ w. is_declared raw is_output w ≡ true) (output_names c)
      (λ w k. k.is is_output) (output-kinds c raw is good names))))

  abbrev reg_shape : Shape → Bool
  reg_shape s = is_reg s.0

  no_regs : (k : DeclKind) (ws : List (List ℕ)) → is_reg k ≡ false → filter reg_shape (of_kind k ws) ≡ []
  no_regs k ws e =
      filter_none reg_shape (of_kind k ws)
      (each-map (λ (s : Shape). reg_shape s ≡ false) (λ w. (k, w)) ws (each_all (λ w. is_reg k ≡ false) ws (λ w. e)))

  reg-shapes : filter reg_shape (all_decls c) ≡ of_kind kind.Reg (named reg_name 0 c.registers)
  reg-shapes =
      let regs : List Shape = of_kind kind.Reg (named reg_name 0 c.registers) in
      filter-append reg_shape (port_decls c) (inner_decls c)
      ∙ (pairs _ _ _ _
      (filter-append reg_shape (of_kind kind.Input c.inputs) (of_kind kind.Output (output_names c))
      ∙ pairs _ _ _ _ (no_regs kind.Input c.inputs refl) (no_regs kind.Output (output_names c) refl))
      (filter-append reg_shape regs (of_kind kind.Wire (wire_names c 0 c.gates))
      ∙ (pairs _ _ _ _
      (filter_each reg_shape regs (each-map (λ (s : Shape). reg_shape s ≡ true) (λ w. (kind.Reg, w))
      (named reg_name 0 c.registers) (each_all (λ w. true ≡ true) (named reg_name 0 c.registers) (λ w. refl))))
      (no_regs kind.Wire (wire_names c 0 c.gates) refl)
      ∙ append-nil regs)))

  register-words : map word_of (registers raw) ≡ named reg_name 0 c.registers
  register-words =
      map-map word_of (λ (d : RawDecl). d.name) (filter (λ (d : RawDecl). is_reg d.kind) raw.decls)
      ∙ (sym (map-map second shape (filter (λ (d : RawDecl). is_reg d.kind) raw.decls))
      ∙ (ap (map second) (map-filter shape reg_shape raw.decls ∙ (ap (filter reg_shape) is.decls_are ∙ reg-shapes))
      ∙ names-kind kind.Reg (named reg_name 0 c.registers)))

  -- ---- numbers

  number-there : (ns : List RawName) (ws : List (List ℕ)) (n : ℕ) (w : List ℕ) → map word_of ns ≡ ws → Apart ws
      → slice_get ws n ≡ Some w → number_of ns w ≡ n
  number-there ns ws n w e apart at =
      ap (λ o. unwrap_or o 0) (sym (position-map (bytes_eq w) word_of 0 ns)
      ∙ (ap (position_from (bytes_eq w) 0) e ∙ place_word ws 0 n w apart at))
      ∙ omega arith

  driver-there : (n : ℕ) → n < length c.gates → driver raw (gate_name c n) ≡ n
  driver-there n low =
      let w : List ℕ = gate_name c n in
      let e : 0 + n ≡ n = omega arith in
      ap (λ o. unwrap_or o 0)
      (position_same (drives_word w) (λ g. drives_word w (bare_gate g)) 0 raw.gates
      (each_all (λ g. drives_word w g ≡ drives_word w (bare_gate g)) raw.gates (λ g. drives-bare w g.target))
      ∙ (sym (position-map (drives_word w) bare_gate 0 raw.gates)
      ∙ (ap (position_from (drives_word w) 0) is.gates_are ∙ (driver-written w c 0 0 c.gates
      ∙ place_word (named (gate_name c) 0 c.gates) 0 n w (gates-apart c good names)
      (get-named (gate_name c) 0 c.gates n low ∙ ap (λ m. Some (gate_name c m)) e)))))
      ∙ e

  -- ---- wires

  input-wire : (n : ℕ) (w : List ℕ) → slice_get c.inputs n ≡ Some w → word_wire raw w ≡ wire.Input n
  input-wire n w e =
      ap (λ b. if b then wire.Input (number_of (inputs raw) w) else if is_declared raw is_input w then wire.Reset
      else if is_declared raw is_reg w then wire.Reg (number_of (registers raw) w) else wire.Gate (driver raw w))
      (each_at (λ w. is_plain_input raw w ≡ true) c.inputs n w plain-inputs e)
      ∙ ap wire.Input (number-there (inputs raw) c.inputs n w input-words (inputs-apart c good names) e)

  reset-wire : word_wire raw (codes "rst") ≡ wire.Reset
  reset-wire =
      let w : List ℕ = codes "rst" in
      ap (λ b. if b then wire.Input (number_of (inputs raw) w) else if is_declared raw is_input w then wire.Reset
      else if is_declared raw is_reg w then wire.Reg (number_of (registers raw) w) else wire.Gate (driver raw w))
      no_reset_input
      ∙ ap (λ b. if b then wire.Reset else if is_declared raw is_reg w then wire.Reg (number_of (registers raw) w)
      else wire.Gate (driver raw w)) ((reset-kind c raw is good names).is is_input)

  -- what is no input is a register or a gate
  inner-wire : (w : List ℕ) (k : DeclKind) → HasKind raw w k → is_input k ≡ false
      → word_wire raw w ≡ (if is_reg k then wire.Reg (number_of (registers raw) w) else wire.Gate (driver raw w))
  inner-wire w k h e =
      ap (λ b. if b then wire.Input (number_of (inputs raw) w) else if is_declared raw is_input w then wire.Reset
      else if is_declared raw is_reg w then wire.Reg (number_of (registers raw) w) else wire.Gate (driver raw w))
      (left_no (is_declared raw is_input w) _ (h.is is_input ∙ e))
      ∙ (ap (λ b. if b then wire.Reset else if is_declared raw is_reg w then wire.Reg (number_of (registers raw) w)
      else wire.Gate (driver raw w)) (h.is is_input ∙ e)
      ∙ ap (λ b. if b then wire.Reg (number_of (registers raw) w) else wire.Gate (driver raw w)) (h.is is_reg))

  reg-wire : (n : ℕ) → n < length c.registers → word_wire raw (reg_name n) ≡ wire.Reg n
  reg-wire n low =
      let e : 0 + n ≡ n = omega arith in
      inner-wire (reg_name n) kind.Reg (reg-kind c raw is good names n low) refl
      ∙ ap wire.Reg (number-there (registers raw) (named reg_name 0 c.registers) n (reg_name n) register-words
      (regs-apart c good names) (get-named reg_name 0 c.registers n low ∙ ap (λ m. Some (reg_name m)) e))

  gate-wire : (n : ℕ) → n < length c.gates → word_wire raw (gate_name c n) ≡ wire.Gate n
  gate-wire n low =
      let k = gate-kind c raw is good names n low in
      inner-wire (gate_name c n) k.0 k.1 k.2
      ∙ (ap (λ b. if b then wire.Reg (number_of (registers raw) (gate_name c n))
      else wire.Gate (driver raw (gate_name c n))) k.3
      ∙ ap wire.Gate (driver-there n low))

  same-pin : (gates : ℕ) (w : Wire) → gates ≤ length c.gates
      → IsThere (length c.inputs) (length c.registers) gates w → pin_wire raw (written_pin c w) ≡ w
  same-pin gates (wire.Const b) few h = refl
  same-pin gates wire.Reset few h = reset-wire
  same-pin gates (wire.Input n) few h = input-wire n (slice_index_or c.inputs n []) (slice_get-get_or c.inputs n [] h)
  same-pin gates (wire.Reg n) few h = reg-wire n h
  same-pin gates (wire.Gate n) few h = gate-wire n (omega arith)

  pub text-gates : text_gates raw ≡ c.gates
  text-gates =
      sym (gates-bare raw raw.gates)
      ∙ (ap (map (resolved raw)) is.gates_are ∙ gates-written raw c 0 c.gates
      (each_from (λ (g : gate.Gate). Each (λ w. pin_wire raw (written_pin c w) ≡ w) g.pins) c.gates
      (λ k g at. let fits = good.gates_fit k g at in let low = slice_get_within c.gates k g at in
      each_from (λ w. pin_wire raw (written_pin c w) ≡ w) g.pins
      (λ i w e. same-pin k w (omega arith) (fits.there.each i w e)))))

  pub are-earlier : AreEarlier c.gates
  are-earlier = record { each = λ n g i m at e. (good.gates_fit n g at).there.each i (wire.Gate m) e }

  module _ (kept : order_of c.gates ≡ range_with_len 0 (length c.gates))
      (stay : reordered c.gates (order_of c.gates) ≡ c.gates) where
    pub order-is : the_order raw ≡ range_with_len 0 (length c.gates)
    order-is = ap order_of text-gates ∙ kept

    data-is : (n m : ℕ) (w : Wire) → slice_get c.registers n ≡ Some w → m ≡ 0 + n
        → data_wire raw (find (targets_word (reg_name m)) raw.regs) ≡ w
    data-is n m w at e =
        let few = good.registers_few in
        let there = good.data_there.each n w at in
        data-bare raw (reg_name m) raw.regs
        ∙ (ap (λ rs. data_wire raw (find (targets_word (reg_name m)) rs)) is.regs_are
        ∙ (ap (data_wire raw) (find-written c 0 n m c.registers w (omega arith) at e)
        ∙ (ap (renumbered (place_in (the_order raw))) (same-pin (length c.gates) w (omega arith) there)
        ∙ (ap (λ o. renumbered (place_in o) w) order-is
        ∙ same_wire (length c.inputs) (length c.registers) (length c.gates) w there))))

    registers-are : map (register_wire raw) (registers raw) ≡ c.registers
    registers-are =
        sym (map-map (λ w. data_wire raw (find (targets_word w) raw.regs)) word_of (registers raw))
        ∙ (ap (map (λ w. data_wire raw (find (targets_word w) raw.regs))) register-words
        ∙ map-named (λ w. data_wire raw (find (targets_word w) raw.regs)) reg_name 0 c.registers data-is)

    abbrev output_at : List ℕ → Output
    output_at w = record { name = w; gate = place_in (the_order raw) (driver raw w) }

    same-output : (n : ℕ) (o : Output) → slice_get c.outputs n ≡ Some o → output_at o.name ≡ o
    same-output n o at =
        let there = good.outputs_right.there n o at in
        let drives : driver raw o.name ≡ o.gate =
        ap (driver raw) (sym (output_gate_name c good names n o at)) ∙ driver-there o.gate there in
        ap (λ (g : ℕ). let new : Output = record { name = o.name; gate = g } in new)
        (ap (place_in (the_order raw)) drives ∙ (ap (λ r. place_in r o.gate) order-is
        ∙ same_place (length c.gates) o.gate there))

    outputs-are : map (output_of raw) (outputs raw) ≡ c.outputs
    outputs-are =
        sym (map-map output_at word_of (outputs raw))
        ∙ (ap (map output_at) output-words
        ∙ (map-map output_at (λ (o : Output). o.name) c.outputs
        ∙ map_itself (λ (o : Output). output_at o.name) c.outputs
        (each_from (λ (o : Output). output_at o.name ≡ o) c.outputs same-output)))

    gates-are : reordered (text_gates raw) (the_order raw) ≡ c.gates
    gates-are = ap (λ gs. reordered gs (order_of gs)) text-gates ∙ stay

    four : (a b : List (List ℕ)) (d e : List gate.Gate) (f g : List Wire) (h i : List Output) → a ≡ b → d ≡ e → f ≡ g
        → h ≡ i → circuit_of a d f h ≡ circuit_of b e g i
    four a b d e f g h i p q r s =
        ap (λ x. circuit_of x d f h) p ∙ (ap (λ x. circuit_of b x f h) q ∙ (ap (λ x. circuit_of b e x h) r
        ∙ ap (λ x. circuit_of b e g x) s))

    pub net-is : net_of raw ≡ c
    net-is = four _ _ _ _ _ _ _ _ input-words gates-are registers-are outputs-are
