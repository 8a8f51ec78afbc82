-- What is written breaks no rule.
use Rattle.std.proofs.Common.{◌≡◌, ℕ, zero, suc, ◌+◌, ◌<◌, ◌≤◌, List, [], ◌∷◌, ◌++◌, length, map, Bool, true, false}
use Rattle.std.proofs.Common.{Some, None, cond, refl, sym, ap, subst, ◌∙◌, length-append, arith}
use Rattle.std.specs.Prelude.{◌&&◌, ◌||◌, not, if◌then◌else◌, codes, filter}
use Rattle.std.specs.List.{list_any, range_with_len}
use Rattle.std.specs.Str.{bytes_eq}
use Rattle.std.proofs.lemmas.List.{length-map}
use Rattle.std.proofs.lemmas.List.Elements.{filter-append}
use Rattle.std.proofs.lemmas.List.Folds.{list_any-append}
use Rattle.net_core.specs.declared.gate.Gate as gate
use Rattle.net_core.specs.declared.netlist.Output.{Output}
use Rattle.net_core.specs.Circuits.{Circuit, IsCircuit, output_names}
use Rattle.vlog_text.specs.declared.raw.DeclKind.{DeclKind}
use Rattle.vlog_text.specs.declared.raw.DeclKind.TheVariants as kind
use Rattle.vlog_text.specs.declared.raw.RawName.{RawName}
use Rattle.vlog_text.specs.declared.raw.RawDecl.{RawDecl}
use Rattle.vlog_text.specs.declared.raw.RawNetlist.{RawNetlist}
use Rattle.vlog_text.specs.Emitted.{driven, gate_name, reg_name}
use Rattle.vlog_text.specs.PortNames.{HasPortNames}
use Rattle.vlog_text.specs.Words.{has_word, is_named, repeated, decl_names, gate_targets, reg_targets, operands, uses}
use Rattle.vlog_text.specs.Standing.{is_input, is_output, is_reg, is_port, is_clock, is_reset, is_declared, the_order}
use Rattle.vlog_text.specs.Refusing.{declared, rule_4, rule_5, left_out, rule_6, rule_7, at_place, rule_8, refusals}
use Rattle.vlog_text.specs.Refusing.{earliest, first_broken}
use Rattle.vlog_write.proofs.Lists.{Each, each-append, each_left, each_right, each-map, each_mapped, each_so, each_both}
use Rattle.vlog_write.proofs.Lists.{each_from, each_all, filter_none, map-filter, length-filter, map-map, any-map}
use Rattle.vlog_write.proofs.Lists.{any_at, any_left, any_right}
use Rattle.vlog_write.proofs.WrittenNames.{bytes_itself, apart_back, wire_name}
use Rattle.vlog_write.proofs.Shapes.{word_of, bare_gate, Shape, shape, named, wire_names, of_kind, port_decls}
use Rattle.vlog_write.proofs.Shapes.{inner_decls, all_decls, all_ports, written_gates, IsRawOf}
use Rattle.vlog_write.proofs.Apart.{Differs, Apart, each-named, get-named, each-wires, gates-apart, regs-apart}
use Rattle.vlog_write.proofs.Apart.{ports-apart}
use Rattle.vlog_write.proofs.Apart.{all-apart, output_gate_name}
use Rattle.vlog_write.proofs.Known.{HasKind, IsKnown, IsDriven, IsRead, second, names-decls, clock-kind, reset-kind}
use Rattle.vlog_write.proofs.Known.{input-kinds, output-kinds, reg-kinds, gate-kind, gate-targets, reg-targets}
use Rattle.vlog_write.proofs.Known.{operands-read}
use Rattle.vlog_write.proofs.Ordered.{none_left_out}

-- ---- lists

no_both : {A : Type 0} (a b : List A) → a ≡ [] → b ≡ [] → a ++ b ≡ []
no_both a b e f = ap (λ l. l ++ b) e ∙ f

-- names whose words differ are never repeated
none_repeated : (before names : List RawName) → Each (λ (n : RawName). is_named before n.word ≡ false) names
    → Apart (map word_of names) → repeated before names ≡ []
none_repeated before [] h apart = refl
none_repeated before (x ∷ xs) h apart =
    ap (λ b. (if b then x ∷ [] else []) ++ repeated (before ++ x ∷ []) xs) h.0
    ∙ none_repeated (before ++ x ∷ []) xs
    (each_so (λ (n : RawName). (is_named before n.word ≡ false) × Differs x.word n.word)
    (λ (n : RawName). is_named (before ++ x ∷ []) n.word ≡ false) xs (λ n p. further n p.0 p.1)
    (each_both (λ (n : RawName). is_named before n.word ≡ false) (λ (n : RawName). Differs x.word n.word) xs h.1
    (each_mapped (Differs x.word) word_of xs apart.0)))
    apart.1
  where
    further : (n : RawName) → is_named before n.word ≡ false → Differs x.word n.word
        → is_named (before ++ x ∷ []) n.word ≡ false
    further n p q =
        list_any-append (has_word n.word) before (x ∷ [])
        ∙ (ap (λ b. b || (bytes_eq n.word x.word || false)) p ∙ ap (λ b. b || false) (apart_back x.word n.word q))

all_different : (names : List RawName) (words : List (List ℕ)) → map word_of names ≡ words → Apart words
    → repeated [] names ≡ []
all_different names words e apart =
    none_repeated [] names (each_all (λ (n : RawName). false ≡ false) names (λ n. refl))
    (subst Apart (sym e) apart)

-- what holds of each word holds of each name
each_name : (P : List ℕ → Type 0) (names : List RawName) (words : List (List ℕ)) → map word_of names ≡ words
    → Each P words → Each (λ (n : RawName). P n.word) names
each_name P names words e h = each_mapped P word_of names (subst (Each P) (sym e) h)

named-words : (names : List RawName) (words : List (List ℕ)) (w : List ℕ) → map word_of names ≡ words
    → is_named names w ≡ list_any (bytes_eq w) words
named-words names words w e = sym (any-map (bytes_eq w) word_of names) ∙ ap (list_any (bytes_eq w)) e

members : (words : List (List ℕ)) → Each (λ w. list_any (bytes_eq w) words ≡ true) words
members words =
    each_from (λ w. list_any (bytes_eq w) words ≡ true) words
    (λ n w e. any_at (bytes_eq w) words n w e (bytes_itself w))

or_no : (a b : Bool) → a ≡ false → b ≡ false → (a || b) ≡ false
or_no false b p q = q
or_no true b p q = absurd cc

none_at : (n : ℕ) (names : List RawName) → length names ≤ n → at_place n names ≡ []
none_at n [] h = refl
none_at zero (x ∷ xs) h = absurd (omega arith)
none_at (suc n) (x ∷ xs) h = none_at n xs (omega arith)

length-written : (c : Circuit) (n : ℕ) (gs : List gate.Gate) → length (written_gates c n gs) ≡ length gs
length-written c n [] = refl
length-written c n (g ∷ gs) = ap suc (length-written c (n + 1) gs)

module _ (c : Circuit) (raw : RawNetlist) (is : IsRawOf c raw) (good : IsCircuit c) (names : HasPortNames c) where
  -- ---- declarations

  -- what holds of each declaration of the netlist
  each-decl : (Q : Shape → Type 0) → Q (kind.Input, codes "clk") → Q (kind.Input, codes "rst")
      → Each (λ w. Q (kind.Input, w)) c.inputs → Each (λ w. Q (kind.Output, w)) (output_names c)
      → Each (λ w. Q (kind.Reg, w)) (named reg_name 0 c.registers)
      → Each (λ w. Q (kind.Wire, w)) (wire_names c 0 c.gates) → Each Q (all_decls c)
  each-decl Q p q i o r w = (
    p,
    (
      q,
      each-append Q (port_decls c) (inner_decls c)
          (each-append Q (of_kind kind.Input c.inputs) (of_kind kind.Output (output_names c))
          (each-map Q (λ w. (kind.Input, w)) c.inputs i) (each-map Q (λ w. (kind.Output, w)) (output_names c) o))
          (each-append Q (of_kind kind.Reg (named reg_name 0 c.registers)) (of_kind kind.Wire (wire_names c 0 c.gates))
          (each-map Q (λ w. (kind.Reg, w)) (named reg_name 0 c.registers) r)
          (each-map Q (λ w. (kind.Wire, w)) (wire_names c 0 c.gates) w)),
    ),
  )

  -- no declaration passes the test
  none-declared : (such : Shape → Bool) → Each (λ s. such s ≡ false) (all_decls c)
      → declared raw (λ d. such (shape d)) ≡ []
  none-declared such h =
      ap (map (λ (d : RawDecl). d.name)) (filter_none (λ d. such (shape d)) raw.decls
      (each_mapped (λ s. such s ≡ false) shape raw.decls
      (subst (Each (λ s. such s ≡ false)) (sym is.decls_are) h)))

  length-declared : (such : Shape → Bool) → length (declared raw (λ d. such (shape d)))
      ≡ length (filter such (all_decls c))
  length-declared such =
      length-map (filter (λ d. such (shape d)) raw.decls) (λ (d : RawDecl). d.name)
      ∙ (sym (length-map (filter (λ d. such (shape d)) raw.decls) shape)
      ∙ ap length (map-filter shape such raw.decls ∙ ap (filter such) is.decls_are))

  no-kind : (such : Shape → Bool) (k : DeclKind) (ws : List (List ℕ)) → ((w : List ℕ) → such (k, w) ≡ false)
      → filter such (of_kind k ws) ≡ []
  no-kind such k ws h =
      filter_none such (of_kind k ws)
      (each-map (λ s. such s ≡ false) (λ w. (k, w)) ws (each_all (λ w. such (k, w) ≡ false) ws h))

  some-kind : (such : Shape → Bool) (k : DeclKind) (ws : List (List ℕ))
      → length (filter such (of_kind k ws)) ≤ length ws
  some-kind such k ws =
      let few = length-filter such (of_kind k ws) in
      let same = length-map ws (λ w. let s : Shape = (k, w) in s) in
      omega arith

  -- how many pass the test, where neither `clk` and `rst` nor a register or wire does
  count-ports : (such : Shape → Bool) → such (kind.Input, codes "clk") ≡ false → such (kind.Input, codes "rst") ≡ false
      → ((w : List ℕ) → such (kind.Reg, w) ≡ false) → ((w : List ℕ) → such (kind.Wire, w) ≡ false)
      → length (filter such (all_decls c))
      ≡ length (filter such (of_kind kind.Input c.inputs)) + length (filter such (of_kind kind.Output (output_names c)))
  count-ports such p q r w =
      let rest : List Shape = filter such (port_decls c ++ inner_decls c) in
      let x : Shape = (kind.Input, codes "clk") in
      let y : Shape = (kind.Input, codes "rst") in
      let inner : filter such (inner_decls c) ≡ [] =
      filter-append such (of_kind kind.Reg (named reg_name 0 c.registers)) (of_kind kind.Wire (wire_names c 0 c.gates))
      ∙ no_both _ _ (no-kind such kind.Reg (named reg_name 0 c.registers) r)
      (no-kind such kind.Wire (wire_names c 0 c.gates) w) in
      ap length (ap (λ b. cond b (x ∷ filter such (y ∷ (port_decls c ++ inner_decls c)))
      (filter such (y ∷ (port_decls c ++ inner_decls c)))) p ∙ ap (λ b. cond b (y ∷ rest) rest) q)
      ∙ (ap length (filter-append such (port_decls c) (inner_decls c))
      ∙ (length-append (filter such (port_decls c)) (filter such (inner_decls c))
      ∙ (ap (λ l. length (filter such (port_decls c)) + length l) inner
      ∙ (zero_more (length (filter such (port_decls c)))
      ∙ (ap length (filter-append such (of_kind kind.Input c.inputs) (of_kind kind.Output (output_names c)))
      ∙ length-append (filter such (of_kind kind.Input c.inputs))
      (filter such (of_kind kind.Output (output_names c))))))))
    where
      zero_more : (n : ℕ) → n + 0 ≡ n
      zero_more n = omega arith

  -- ---- rule 4

  decl-words : map word_of (decl_names raw) ≡ all_ports c ++ (named reg_name 0 c.registers ++ wire_names c 0 c.gates)
  decl-words =
      map-map word_of (λ (d : RawDecl). d.name) raw.decls
      ∙ (sym (map-map second shape raw.decls) ∙ (ap (map second) is.decls_are ∙ names-decls c))

  abbrev IsPort : List ℕ → Type 0
  IsPort w = (k : DeclKind) × HasKind raw w k × (is_port k ≡ true)

  ports-known : Each IsPort (all_ports c)
  ports-known = (
    (kind.Input, clock-kind c raw is good names, refl),
    (
      (kind.Input, reset-kind c raw is good names, refl),
      each-append IsPort c.inputs (output_names c)
          (each_so (λ w. HasKind raw w kind.Input) IsPort c.inputs (λ w k. (kind.Input, k, refl))
          (input-kinds c raw is good names))
          (each_so (λ w. HasKind raw w kind.Output) IsPort (output_names c) (λ w k. (kind.Output, k, refl))
          (output-kinds c raw is good names)),
    ),
  )

  targets-driven : Each (λ (n : RawName). IsDriven raw n.word) (gate_targets raw)
  targets-driven =
      each_name (IsDriven raw) (gate_targets raw) (named (gate_name c) 0 c.gates) (gate-targets c raw is good names)
      (each-named (IsDriven raw) (gate_name c) 0 c.gates
      (λ n low high. gate-kind c raw is good names n (omega arith)))

  regs-known : Each (λ (n : RawName). HasKind raw n.word kind.Reg) (reg_targets raw)
  regs-known =
      each_name (λ w. HasKind raw w kind.Reg) (reg_targets raw) (named reg_name 0 c.registers)
      (reg-targets c raw is good names) (reg-kinds c raw is good names)

  uses-known : Each (λ (n : RawName). IsKnown raw n.word) (uses raw)
  uses-known =
      each-append (λ (n : RawName). IsKnown raw n.word) (raw.ports ++ gate_targets raw ++ reg_targets raw)
      (operands raw)
      (each-append (λ (n : RawName). IsKnown raw n.word) (raw.ports ++ gate_targets raw) (reg_targets raw)
      (each-append (λ (n : RawName). IsKnown raw n.word) raw.ports (gate_targets raw)
      (each_name (IsKnown raw) raw.ports (all_ports c) is.ports_are
      (each_so IsPort (IsKnown raw) (all_ports c) (λ w p. (p.0, p.1)) ports-known))
      (each_so (λ (n : RawName). IsDriven raw n.word) (λ (n : RawName). IsKnown raw n.word) (gate_targets raw)
      (λ n d. (d.0, d.1)) targets-driven))
      (each_so (λ (n : RawName). HasKind raw n.word kind.Reg) (λ (n : RawName). IsKnown raw n.word) (reg_targets raw)
      (λ n k. (kind.Reg, k)) regs-known))
      (each_so (λ (n : RawName). IsRead raw n.word) (λ (n : RawName). IsKnown raw n.word) (operands raw) (λ n r. r.0)
      (operands-read c raw is good names))

  known-named : (w : List ℕ) → IsKnown raw w → is_named (decl_names raw) w ≡ true
  known-named w k = any-map (has_word w) (λ (d : RawDecl). d.name) raw.decls ∙ k.1.is (λ k. true)

  port-listed : Each (λ w. is_named raw.ports w ≡ true) (all_ports c)
  port-listed =
      each_so (λ w. list_any (bytes_eq w) (all_ports c) ≡ true) (λ w. is_named raw.ports w ≡ true) (all_ports c)
      (λ w e. named-words raw.ports (all_ports c) w is.ports_are ∙ e) (members (all_ports c))

  abbrev unlisted : Shape → Bool
  unlisted s = is_port s.0 && not (is_named raw.ports s.1)

  keeps-rule_4 : rule_4 raw ≡ []
  keeps-rule_4 =
      no_both _ _ (no_both _ _ (no_both _ _ (no_both _ _
      (all_different (decl_names raw) _ decl-words (all-apart c good names))
      (all_different raw.ports (all_ports c) is.ports_are (ports-apart c good names)))
      (filter_none (λ (n : RawName). not (is_named (decl_names raw) n.word)) (uses raw)
      (each_so (λ (n : RawName). IsKnown raw n.word)
      (λ (n : RawName). not (is_named (decl_names raw) n.word) ≡ false) (uses raw)
      (λ n k. ap not (known-named n.word k)) uses-known)))
      (filter_none (λ (n : RawName). is_declared raw (λ k. not (is_port k)) n.word) raw.ports
      (each_so (λ (n : RawName). IsPort n.word)
      (λ (n : RawName). is_declared raw (λ k. not (is_port k)) n.word ≡ false) raw.ports
      (λ n p. p.1.is (λ k. not (is_port k)) ∙ ap not p.2)
      (each_name IsPort raw.ports (all_ports c) is.ports_are ports-known))))
      (none-declared unlisted
      (each-decl (λ s. unlisted s ≡ false) (ap not port-listed.0) (ap not port-listed.1.0)
      (each_so (λ w. is_named raw.ports w ≡ true) (λ w. unlisted (kind.Input, w) ≡ false) c.inputs (λ w e. ap not e)
      (each_left (λ w. is_named raw.ports w ≡ true) c.inputs (output_names c) port-listed.1.1))
      (each_so (λ w. is_named raw.ports w ≡ true) (λ w. unlisted (kind.Output, w) ≡ false) (output_names c)
      (λ w e. ap not e)
      (each_right (λ w. is_named raw.ports w ≡ true) c.inputs (output_names c) port-listed.1.1))
      (each_all (λ w. false ≡ false) (named reg_name 0 c.registers) (λ w. refl))
      (each_all (λ w. false ≡ false) (wire_names c 0 c.gates) (λ w. refl))))

  -- ---- rule 5

  driver-named : (n : ℕ) (w : List ℕ) → n < length c.gates → gate_name c n ≡ w
      → is_named (gate_targets raw ++ reg_targets raw) w ≡ true
  driver-named n w low e =
      let same : 0 + n ≡ n = omega arith in
      any_left (has_word w) (gate_targets raw) (reg_targets raw)
      (named-words (gate_targets raw) (named (gate_name c) 0 c.gates) w (gate-targets c raw is good names)
      ∙ any_at (bytes_eq w) (named (gate_name c) 0 c.gates) n w
      (get-named (gate_name c) 0 c.gates n low ∙ (ap (λ m. Some (gate_name c m)) same ∙ ap (λ x. Some x) e))
      (bytes_itself w))

  outputs-named : Each (λ w. is_named (gate_targets raw ++ reg_targets raw) w ≡ true) (output_names c)
  outputs-named =
      each-map (λ w. is_named (gate_targets raw ++ reg_targets raw) w ≡ true) (λ (o : Output). o.name) c.outputs
      (each_from (λ (o : Output). is_named (gate_targets raw ++ reg_targets raw) o.name ≡ true) c.outputs
      (λ n o at. driver-named o.gate o.name (good.outputs_right.there n o at) (output_gate_name c good names n o at)))

  wires-named : Each (λ w. is_named (gate_targets raw ++ reg_targets raw) w ≡ true) (wire_names c 0 c.gates)
  wires-named =
      each-wires (λ w. is_named (gate_targets raw ++ reg_targets raw) w ≡ true) c 0 c.gates
      (λ n low high e. driver-named n (wire_name n) (omega arith) (undriven n e))
    where
      undriven : (n : ℕ) → driven c n ≡ None → gate_name c n ≡ wire_name n
      undriven n e = rw e refl

  regs-named : Each (λ w. is_named (gate_targets raw ++ reg_targets raw) w ≡ true) (named reg_name 0 c.registers)
  regs-named =
      each_so (λ w. list_any (bytes_eq w) (named reg_name 0 c.registers) ≡ true)
      (λ w. is_named (gate_targets raw ++ reg_targets raw) w ≡ true) (named reg_name 0 c.registers)
      (λ w e. any_right (has_word w) (gate_targets raw) (reg_targets raw)
      (named-words (reg_targets raw) (named reg_name 0 c.registers) w (reg-targets c raw is good names) ∙ e))
      (members (named reg_name 0 c.registers))

  abbrev undriven : Shape → Bool
  undriven s = not (is_input s.0) && not (is_named (gate_targets raw ++ reg_targets raw) s.1)

  keeps-rule_5 : rule_5 raw ≡ []
  keeps-rule_5 =
      no_both _ _ (no_both _ _ (no_both _ _ (no_both _ _
      (all_different (gate_targets raw) (named (gate_name c) 0 c.gates) (gate-targets c raw is good names)
      (gates-apart c good names))
      (all_different (reg_targets raw) (named reg_name 0 c.registers) (reg-targets c raw is good names)
      (regs-apart c good names)))
      (filter_none (λ (n : RawName). is_declared raw (λ k. is_input k || is_reg k) n.word) (gate_targets raw)
      (each_so (λ (n : RawName). IsDriven raw n.word)
      (λ (n : RawName). is_declared raw (λ k. is_input k || is_reg k) n.word ≡ false) (gate_targets raw)
      (λ n d. d.1.is (λ k. is_input k || is_reg k) ∙ or_no (is_input d.0) (is_reg d.0) d.2 d.3) targets-driven)))
      (filter_none (λ (n : RawName). not (is_declared raw is_reg n.word)) (reg_targets raw)
      (each_so (λ (n : RawName). HasKind raw n.word kind.Reg)
      (λ (n : RawName). not (is_declared raw is_reg n.word) ≡ false) (reg_targets raw) (λ n k. ap not (k.is is_reg))
      regs-known)))
      (none-declared undriven
      (each-decl (λ s. undriven s ≡ false) refl refl (each_all (λ w. false ≡ false) c.inputs (λ w. refl))
      (each_so (λ w. is_named (gate_targets raw ++ reg_targets raw) w ≡ true)
      (λ w. undriven (kind.Output, w) ≡ false) (output_names c) (λ w e. ap not e) outputs-named)
      (each_so (λ w. is_named (gate_targets raw ++ reg_targets raw) w ≡ true)
      (λ w. undriven (kind.Reg, w) ≡ false) (named reg_name 0 c.registers) (λ w e. ap not e) regs-named)
      (each_so (λ w. is_named (gate_targets raw ++ reg_targets raw) w ≡ true)
      (λ w. undriven (kind.Wire, w) ≡ false) (wire_names c 0 c.gates) (λ w e. ap not e) wires-named)))

  -- ---- rules 6 to 8

  keeps-rule_6 : the_order raw ≡ range_with_len 0 (length c.gates) → rule_6 raw ≡ []
  keeps-rule_6 order =
      let count = sym (length-map raw.gates bare_gate) ∙ (ap length is.gates_are ∙ length-written c 0 c.gates) in
      ap (λ o. left_out o 0 raw.gates) order ∙ none_left_out (length c.gates) 0 raw.gates (omega arith)

  keeps-rule_7 : rule_7 raw ≡ []
  keeps-rule_7 =
      no_both _ _
      (ap (λ b. if b && is_declared raw is_input (codes "rst") then [] else raw.name ∷ [])
      ((clock-kind c raw is good names).is is_input)
      ∙ ap (λ b. if b then [] else raw.name ∷ []) ((reset-kind c raw is good names).is is_input))
      (filter_none (λ (n : RawName). is_clock n.word) (operands raw)
      (each_so (λ (n : RawName). IsRead raw n.word) (λ (n : RawName). is_clock n.word ≡ false) (operands raw)
      (λ n r. r.1) (operands-read c raw is good names)))

  abbrev plain_input : Shape → Bool
  plain_input s = is_input s.0 && not (is_clock s.1 || is_reset s.1)

  abbrev output_shape : Shape → Bool
  output_shape s = is_output s.0

  keeps-rule_8 : rule_8 raw ≡ []
  keeps-rule_8 =
      let inputs = length-declared plain_input ∙ count-ports plain_input refl refl (λ w. refl) (λ w. refl) in
      let outputs = length-declared output_shape ∙ count-ports output_shape refl refl (λ w. refl) (λ w. refl) in
      let no_outputs = ap length (no-kind plain_input kind.Output (output_names c) (λ w. refl)) in
      let no_inputs = ap length (no-kind output_shape kind.Input c.inputs (λ w. refl)) in
      let some_inputs = some-kind plain_input kind.Input c.inputs in
      let some_outputs = some-kind output_shape kind.Output (output_names c) in
      let names_too = length-map c.outputs (λ (o : Output). o.name) in
      let few = good.inputs_few in
      let few_too = good.outputs_few in
      no_both _ _ (none_at 64 (declared raw (λ d. plain_input (shape d))) (omega arith))
      (none_at 128 (declared raw (λ d. output_shape (shape d))) (omega arith))

  pub unbroken : the_order raw ≡ range_with_len 0 (length c.gates) → first_broken raw ≡ None
  unbroken order =
      ap (earliest None) (no_both _ _ (no_both _ _ (no_both _ _ (no_both _ _
      (ap (refusals 4) keeps-rule_4) (ap (refusals 5) keeps-rule_5)) (ap (refusals 6) (keeps-rule_6 order)))
      (ap (refusals 7) keeps-rule_7)) (ap (refusals 8) keeps-rule_8))
