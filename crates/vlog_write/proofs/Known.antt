-- What the names of a raw netlist are declared as, and which names it uses.
use Rattle.std.proofs.Common.{◌≡◌, ℕ, zero, suc, ◌+◌, ◌<◌, ◌≤◌, List, [], ◌∷◌, ◌++◌, length, map, Bool, true, false}
use Rattle.std.proofs.Common.{Option, Some, None, refl, sym, ap, subst, ◌∙◌, arith}
use Rattle.std.specs.Prelude.{◌&&◌, ◌||◌, codes, slice_get, slice_index_or}
use Rattle.std.specs.List.{list_any, filter_map, flat_map, cons_option}
use Rattle.std.specs.Str.{bytes_eq}
use Rattle.std.proofs.lemmas.List.{map-append}
use Rattle.std.proofs.lemmas.Option.{slice_get_within, same_Some, slice_get-get_or}
use Rattle.net_core.specs.declared.gate.Wire.{Wire}
use Rattle.net_core.specs.declared.gate.Wire.TheVariants as wire
use Rattle.net_core.specs.declared.gate.Gate as gate
use Rattle.net_core.specs.declared.netlist.Output.{Output}
use Rattle.net_core.specs.Circuits.{Circuit, IsCircuit, IsThere, output_names}
use Rattle.vlog_text.specs.declared.raw.DeclKind.{DeclKind}
use Rattle.vlog_text.specs.declared.raw.DeclKind.TheVariants as kind
use Rattle.vlog_text.specs.declared.raw.RawName.{RawName}
use Rattle.vlog_text.specs.declared.raw.RawGate.{RawGate}
use Rattle.vlog_text.specs.declared.raw.RawReg.{RawReg}
use Rattle.vlog_text.specs.declared.raw.RawNetlist.{RawNetlist}
use Rattle.vlog_text.specs.declared.raw.RawPin.{RawPin}
use Rattle.vlog_text.specs.declared.raw.RawPin.TheVariants as pin
use Rattle.vlog_text.specs.declared.raw.Target.{Target}
use Rattle.vlog_text.specs.declared.raw.Target.TheVariants as target
use Rattle.vlog_text.specs.Emitted.{driven, target_text, gate_name, reg_name}
use Rattle.vlog_text.specs.PortNames.{IsPortName, HasPortNames}
use Rattle.vlog_text.specs.Words.{target_name, pin_name, gate_targets, reg_targets, operands}
use Rattle.vlog_text.specs.Standing.{is_input, is_reg, is_clock, is_declared}
use Rattle.vlog_write.proofs.Lists.{Each, each-append, each_left, each_right, each-map, each_mapped, each_so, each_at}
use Rattle.vlog_write.proofs.Lists.{each_from, map-map, any-map, any_none}
use Rattle.vlog_write.proofs.WrittenNames.{bytes_itself, apart_back, wire_name, port_group, groups_apart}
use Rattle.vlog_write.proofs.Shapes.{word_of, bare_pin, bare_gate, bare_reg, Shape, shape, named, wire_names}
use Rattle.vlog_write.proofs.Shapes.{of_kind, port_decls, inner_decls, all_decls, all_ports, written_pin}
use Rattle.vlog_write.proofs.Shapes.{written_gates, written_regs, IsRawOf}
use Rattle.vlog_write.proofs.Readable.{found-driven, inputs-each, outputs-each}
use Rattle.vlog_write.proofs.Apart.{Differs, Apart, wire_stands, all-apart, get-named}

-- the word is declared once, as this
pub record HasKind (raw : RawNetlist) (w : List ℕ) (k : DeclKind) : Type 0 where
  pub is : (such : DeclKind → Bool) → is_declared raw such w ≡ such k

abbrev pub IsKnown : RawNetlist → List ℕ → Type 0
IsKnown raw w = (k : DeclKind) × HasKind raw w k

-- declared as something that a gate drives
abbrev pub IsDriven : RawNetlist → List ℕ → Type 0
IsDriven raw w = (k : DeclKind) × HasKind raw w k × (is_input k ≡ false) × (is_reg k ≡ false)

-- an operand's word
abbrev pub IsRead : RawNetlist → List ℕ → Type 0
IsRead raw w = IsKnown raw w × (is_clock w ≡ false)

-- ---- what is declared

abbrev pub second : Shape → List ℕ
second d = d.1

-- the first declaration decides
here : (a b r : Bool) → b ≡ true → r ≡ false → ((a && b) || r) ≡ a
here true true false p q = refl
here true true true p q = absurd cc
here true false r p q = absurd cc
here false b false p q = refl
here false b true p q = absurd cc

later : (a b r : Bool) → b ≡ false → ((a && b) || r) ≡ r
later true false r p = refl
later true true r p = absurd cc
later false b r p = refl

pub both_no : (a b : Bool) → b ≡ false → (a && b) ≡ false
both_no true b p = p
both_no false b p = refl

kind_at : (ds : List Shape) (n : ℕ) (d : Shape) (such : DeclKind → Bool) → Apart (map second ds)
    → slice_get ds n ≡ Some d → list_any (λ (s : Shape). such s.0 && bytes_eq d.1 s.1) ds ≡ such d.0
kind_at [] n d such h e = absurd cc
kind_at (x ∷ ds) zero d such h e =
    let same : x ≡ d = same_Some x d e in
    subst (λ (y : Shape). list_any (λ (s : Shape). such s.0 && bytes_eq y.1 s.1) (x ∷ ds) ≡ such y.0) same
    (here (such x.0) (bytes_eq x.1 x.1) _ (bytes_itself x.1)
    (any_none (λ (s : Shape). such s.0 && bytes_eq x.1 s.1) ds
    (each_so (λ (s : Shape). Differs x.1 s.1) (λ (s : Shape). (such s.0 && bytes_eq x.1 s.1) ≡ false) ds
    (λ s f. both_no (such s.0) (bytes_eq x.1 s.1) f) (each_mapped (Differs x.1) second ds h.0))))
kind_at (x ∷ ds) (suc n) d such h e =
    let apart = each_at (λ (s : Shape). Differs x.1 s.1) ds n d (each_mapped (Differs x.1) second ds h.0) e in
    later (such x.0) (bytes_eq d.1 x.1) _ (apart_back x.1 d.1 apart) ∙ kind_at ds n d such h.1 e

pub names-kind : (k : DeclKind) (ws : List (List ℕ)) → map second (of_kind k ws) ≡ ws
names-kind k [] = refl
names-kind k (w ∷ ws) = ap (λ l. w ∷ l) (names-kind k ws)

pub pairs : {A : Type 0} (a b x y : List A) → a ≡ x → b ≡ y → a ++ b ≡ x ++ y
pairs a b x y e f = ap (λ l. l ++ b) e ∙ ap (λ l. x ++ l) f

pub names-decls : (c : Circuit) → map second (all_decls c)
    ≡ all_ports c ++ (named reg_name 0 c.registers ++ wire_names c 0 c.gates)
names-decls c =
    ap (λ l. codes "clk" ∷ codes "rst" ∷ l)
    (map-append second (port_decls c) (inner_decls c)
    ∙ pairs _ _ _ _
    (map-append second (of_kind kind.Input c.inputs) (of_kind kind.Output (output_names c))
    ∙ pairs _ _ _ _ (names-kind kind.Input c.inputs) (names-kind kind.Output (output_names c)))
    (map-append second (of_kind kind.Reg (named reg_name 0 c.registers)) (of_kind kind.Wire (wire_names c 0 c.gates))
    ∙ pairs _ _ _ _ (names-kind kind.Reg (named reg_name 0 c.registers))
    (names-kind kind.Wire (wire_names c 0 c.gates))))

-- ---- words of lists

targets-bare : (gs : List RawGate) → map word_of (filter_map (λ (g : RawGate). target_name g.target) (map bare_gate gs))
    ≡ map word_of (filter_map (λ (g : RawGate). target_name g.target) gs)
targets-bare [] = refl
targets-bare (g ∷ gs) = by g.target (targets-bare gs)
  where
    by : (t : Target) → map word_of (filter_map (λ (g : RawGate). target_name g.target) (map bare_gate gs))
        ≡ map word_of (filter_map (λ (g : RawGate). target_name g.target) gs)
        → map word_of (filter_map (λ (g : RawGate). target_name g.target)
        (map bare_gate (record { kind = g.kind; target = t; pins = g.pins } ∷ gs)))
        ≡ map word_of (filter_map (λ (g : RawGate). target_name g.target)
        (record { kind = g.kind; target = t; pins = g.pins } ∷ gs))
    by (target.Name n) e = ap (λ l. n.word ∷ l) e
    by target.Inner e = e

targets-written : (c : Circuit) (n : ℕ) (gs : List gate.Gate)
    → map word_of (filter_map (λ (g : RawGate). target_name g.target) (written_gates c n gs))
    ≡ named (gate_name c) n gs
targets-written c n [] = refl
targets-written c n (g ∷ gs) = ap (λ l. gate_name c n ∷ l) (targets-written c (n + 1) gs)

regs-written : (c : Circuit) (n : ℕ) (ws : List Wire)
    → map (λ (r : RawReg). r.target.word) (written_regs c n ws) ≡ named reg_name n ws
regs-written c n [] = refl
regs-written c n (w ∷ ws) = ap (λ l. reg_name n ∷ l) (regs-written c (n + 1) ws)

-- ---- operands

abbrev pub PinIs : (List ℕ → Type 0) → RawPin → Type 0
PinIs P (pin.Const b) = Unit {0}
PinIs P (pin.Name n) = P n.word
PinIs P (pin.Prior n) = Unit {0}

bare-pin : (P : List ℕ → Type 0) (p : RawPin) → PinIs P (bare_pin p) → PinIs P p
bare-pin P (pin.Const b) h = tt
bare-pin P (pin.Name n) h = h
bare-pin P (pin.Prior n) h = tt

pin-name : (P : List ℕ → Type 0) (p : RawPin) (ns : List RawName) → PinIs P p → Each (λ (n : RawName). P n.word) ns
    → Each (λ (n : RawName). P n.word) (cons_option (pin_name p) ns)
pin-name P (pin.Const b) ns h k = k
pin-name P (pin.Name n) ns h k = (h, k)
pin-name P (pin.Prior n) ns h k = k

each-pins : (P : List ℕ → Type 0) (ps : List RawPin) → Each (PinIs P) ps
    → Each (λ (n : RawName). P n.word) (filter_map pin_name ps)
each-pins P [] h = tt
each-pins P (p ∷ ps) h = pin-name P p (filter_map pin_name ps) h.0 (each-pins P ps h.1)

each-gates : (P : List ℕ → Type 0) (gs : List RawGate) → Each (λ (g : RawGate). Each (PinIs P) g.pins) gs
    → Each (λ (n : RawName). P n.word) (flat_map (λ (g : RawGate). filter_map pin_name g.pins) gs)
each-gates P [] h = tt
each-gates P (g ∷ gs) h =
    each-append (λ (n : RawName). P n.word) (filter_map pin_name g.pins) _ (each-pins P g.pins h.0)
    (each-gates P gs h.1)

each-regs : (P : List ℕ → Type 0) (rs : List RawReg) → Each (λ (r : RawReg). PinIs P r.wire) rs
    → Each (λ (n : RawName). P n.word) (filter_map (λ (r : RawReg). pin_name r.wire) rs)
each-regs P [] h = tt
each-regs P (r ∷ rs) h =
    pin-name P r.wire (filter_map (λ (r : RawReg). pin_name r.wire) rs) h.0 (each-regs P rs h.1)

gates-written : (P : List ℕ → Type 0) (c : Circuit) (n : ℕ) (gs : List gate.Gate)
    → Each (λ (g : gate.Gate). Each (λ w. PinIs P (written_pin c w)) g.pins) gs
    → Each (λ (g : RawGate). Each (PinIs P) g.pins) (written_gates c n gs)
gates-written P c n [] h = tt
gates-written P c n (g ∷ gs) h = (each-map (PinIs P) (written_pin c) g.pins h.0, gates-written P c (n + 1) gs h.1)

wires-written : (P : List ℕ → Type 0) (c : Circuit) (n : ℕ) (ws : List Wire)
    → Each (λ w. PinIs P (written_pin c w)) ws → Each (λ (r : RawReg). PinIs P r.wire) (written_regs c n ws)
wires-written P c n [] h = tt
wires-written P c n (w ∷ ws) h = (h.0, wires-written P c (n + 1) ws h.1)

module _ (c : Circuit) (raw : RawNetlist) (is : IsRawOf c raw) (good : IsCircuit c) (names : HasPortNames c) where
  kind-there : (n : ℕ) (d : Shape) → slice_get (all_decls c) n ≡ Some d → HasKind raw d.1 d.0
  kind-there n d e = record {
    is = λ such. sym (any-map (λ (s : Shape). such s.0 && bytes_eq d.1 s.1) shape raw.decls)
        ∙ (ap (list_any (λ (s : Shape). such s.0 && bytes_eq d.1 s.1)) is.decls_are
        ∙ kind_at (all_decls c) n d such (subst Apart (sym (names-decls c)) (all-apart c good names)) e);
  }

  pub all-kinds : Each (λ (d : Shape). HasKind raw d.1 d.0) (all_decls c)
  all-kinds = each_from (λ (d : Shape). HasKind raw d.1 d.0) (all_decls c) kind-there

  port-kinds : Each (λ (d : Shape). HasKind raw d.1 d.0) (port_decls c)
  port-kinds = each_left (λ (d : Shape). HasKind raw d.1 d.0) (port_decls c) (inner_decls c) all-kinds.1.1

  inner-kinds : Each (λ (d : Shape). HasKind raw d.1 d.0) (inner_decls c)
  inner-kinds = each_right (λ (d : Shape). HasKind raw d.1 d.0) (port_decls c) (inner_decls c) all-kinds.1.1

  of-kind : (k : DeclKind) (ws : List (List ℕ)) → Each (λ (d : Shape). HasKind raw d.1 d.0) (of_kind k ws)
      → Each (λ w. HasKind raw w k) ws
  of-kind k ws h = each_mapped (λ (d : Shape). HasKind raw d.1 d.0) (λ w. (k, w)) ws h

  pub clock-kind : HasKind raw (codes "clk") kind.Input
  clock-kind = all-kinds.0

  pub reset-kind : HasKind raw (codes "rst") kind.Input
  reset-kind = all-kinds.1.0

  pub input-kinds : Each (λ w. HasKind raw w kind.Input) c.inputs
  input-kinds =
      of-kind kind.Input c.inputs (each_left (λ (d : Shape). HasKind raw d.1 d.0) (of_kind kind.Input c.inputs)
      (of_kind kind.Output (output_names c)) port-kinds)

  pub output-kinds : Each (λ w. HasKind raw w kind.Output) (output_names c)
  output-kinds =
      of-kind kind.Output (output_names c) (each_right (λ (d : Shape). HasKind raw d.1 d.0)
      (of_kind kind.Input c.inputs) (of_kind kind.Output (output_names c)) port-kinds)

  pub reg-kinds : Each (λ w. HasKind raw w kind.Reg) (named reg_name 0 c.registers)
  reg-kinds =
      of-kind kind.Reg (named reg_name 0 c.registers) (each_left (λ (d : Shape). HasKind raw d.1 d.0)
      (of_kind kind.Reg (named reg_name 0 c.registers)) (of_kind kind.Wire (wire_names c 0 c.gates)) inner-kinds)

  pub wire-kinds : Each (λ w. HasKind raw w kind.Wire) (wire_names c 0 c.gates)
  wire-kinds =
      of-kind kind.Wire (wire_names c 0 c.gates) (each_right (λ (d : Shape). HasKind raw d.1 d.0)
      (of_kind kind.Reg (named reg_name 0 c.registers)) (of_kind kind.Wire (wire_names c 0 c.gates)) inner-kinds)

  pub gate-kind : (n : ℕ) → n < length c.gates → IsDriven raw (gate_name c n)
  gate-kind n low = by (driven c n) refl
    where
      by : (o : Option Output) → driven c n ≡ o → IsDriven raw (target_text o n)
      by (Some o) e =
          let d = found-driven c.outputs n o e in
          let k = each_at (λ (o : Output). HasKind raw o.name kind.Output) c.outputs d.place o
          (each_mapped (λ w. HasKind raw w kind.Output) (λ (o : Output). o.name) c.outputs output-kinds) d.there in
          (kind.Output, k, refl, refl)
      by None e =
          let s = wire_stands c 0 c.gates n n low (omega arith) e in
          let k = each_at (λ w. HasKind raw w kind.Wire) (wire_names c 0 c.gates) s.place (wire_name n) wire-kinds
          s.there in
          (kind.Wire, k, refl, refl)

  port-no_clock : (w : List ℕ) → IsPortName w → is_clock w ≡ false
  port-no_clock w p = groups_apart w (codes "clk") 0 1 (port_group w p) refl refl

  gate-no_clock : (n : ℕ) → is_clock (gate_name c n) ≡ false
  gate-no_clock n = by (driven c n) refl
    where
      by : (o : Option Output) → driven c n ≡ o → is_clock (target_text o n) ≡ false
      by (Some o) e =
          let d = found-driven c.outputs n o e in
          port-no_clock o.name
          (each_at (λ (o : Output). IsPortName o.name) c.outputs d.place o (outputs-each c good names) d.there)
      by None e = refl

  pub input-no_clock : Each (λ w. is_clock w ≡ false) c.inputs
  input-no_clock =
      each_so IsPortName (λ w. is_clock w ≡ false) c.inputs port-no_clock (inputs-each c good names)

  pub reg-kind : (n : ℕ) → n < length c.registers → HasKind raw (reg_name n) kind.Reg
  reg-kind n low =
      let e : 0 + n ≡ n = omega arith in
      each_at (λ w. HasKind raw w kind.Reg) (named reg_name 0 c.registers) n (reg_name n) reg-kinds
      (get-named reg_name 0 c.registers n low ∙ ap (λ m. Some (reg_name m)) e)

  operand-read : (gates : ℕ) (w : Wire) → gates ≤ length c.gates
      → IsThere (length c.inputs) (length c.registers) gates w → PinIs (IsRead raw) (written_pin c w)
  operand-read gates (wire.Const b) few h = tt
  operand-read gates wire.Reset few h = ((kind.Input, reset-kind), refl)
  operand-read gates (wire.Input n) few h =
      let at : slice_get c.inputs n ≡ Some (slice_index_or c.inputs n []) = slice_get-get_or c.inputs n [] h in
      let w : List ℕ = slice_index_or c.inputs n [] in (
        (kind.Input, each_at (λ w. HasKind raw w kind.Input) c.inputs n w input-kinds at),
        each_at (λ w. is_clock w ≡ false) c.inputs n w input-no_clock at,
      )
  operand-read gates (wire.Reg n) few h = ((kind.Reg, reg-kind n h), refl)
  operand-read gates (wire.Gate n) few h =
      let k = gate-kind n (omega arith) in ((k.0, k.1), gate-no_clock n)

  pins-read : Each (λ (g : gate.Gate). Each (λ w. PinIs (IsRead raw) (written_pin c w)) g.pins) c.gates
  pins-read =
      each_from (λ (g : gate.Gate). Each (λ w. PinIs (IsRead raw) (written_pin c w)) g.pins) c.gates
      (λ k g at. let fits = good.gates_fit k g at in let low = slice_get_within c.gates k g at in
      each_from (λ w. PinIs (IsRead raw) (written_pin c w)) g.pins
      (λ i w e. operand-read k w (omega arith) (fits.there.each i w e)))

  data-read : Each (λ w. PinIs (IsRead raw) (written_pin c w)) c.registers
  data-read =
      each_from (λ w. PinIs (IsRead raw) (written_pin c w)) c.registers
      (λ i w e. operand-read (length c.gates) w (omega arith) (good.data_there.each i w e))

  -- ---- words

  pub gate-targets : map word_of (gate_targets raw) ≡ named (gate_name c) 0 c.gates
  gate-targets =
      sym (targets-bare raw.gates)
      ∙ (ap (λ gs. map word_of (filter_map (λ (g : RawGate). target_name g.target) gs)) is.gates_are
      ∙ targets-written c 0 c.gates)

  pub reg-targets : map word_of (reg_targets raw) ≡ named reg_name 0 c.registers
  reg-targets =
      map-map word_of (λ (r : RawReg). r.target) raw.regs
      ∙ (sym (map-map (λ (r : RawReg). r.target.word) bare_reg raw.regs)
      ∙ (ap (map (λ (r : RawReg). r.target.word)) is.regs_are ∙ regs-written c 0 c.registers))

  pub operands-read : Each (λ (n : RawName). IsRead raw n.word) (operands raw)
  operands-read =
      each-append (λ (n : RawName). IsRead raw n.word)
      (flat_map (λ (g : RawGate). filter_map pin_name g.pins) raw.gates)
      (filter_map (λ (r : RawReg). pin_name r.wire) raw.regs)
      (each-gates (IsRead raw) raw.gates gates) (each-regs (IsRead raw) raw.regs regs)
    where
      gates : Each (λ (g : RawGate). Each (PinIs (IsRead raw)) g.pins) raw.gates
      gates =
          each_so (λ (g : RawGate). Each (PinIs (IsRead raw)) (map bare_pin g.pins))
          (λ (g : RawGate). Each (PinIs (IsRead raw)) g.pins) raw.gates
          (λ g h. each_so (λ p. PinIs (IsRead raw) (bare_pin p)) (PinIs (IsRead raw)) g.pins
          (λ p k. bare-pin (IsRead raw) p k) (each_mapped (PinIs (IsRead raw)) bare_pin g.pins h))
          (each_mapped (λ (g : RawGate). Each (PinIs (IsRead raw)) g.pins) bare_gate raw.gates
          (subst (Each (λ (g : RawGate). Each (PinIs (IsRead raw)) g.pins)) (sym is.gates_are)
          (gates-written (IsRead raw) c 0 c.gates pins-read)))

      regs : Each (λ (r : RawReg). PinIs (IsRead raw) r.wire) raw.regs
      regs =
          each_so (λ (r : RawReg). PinIs (IsRead raw) (bare_pin r.wire)) (λ (r : RawReg). PinIs (IsRead raw) r.wire)
          raw.regs (λ r h. bare-pin (IsRead raw) r.wire h)
          (each_mapped (λ (r : RawReg). PinIs (IsRead raw) r.wire) bare_reg raw.regs
          (subst (Each (λ (r : RawReg). PinIs (IsRead raw) r.wire)) (sym is.regs_are)
          (wires-written (IsRead raw) c 0 c.registers data-read)))
