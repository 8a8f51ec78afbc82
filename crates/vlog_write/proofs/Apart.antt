-- All names that are declared are different, and so are the names of all gates.
use Rattle.std.proofs.Common.{◌≡◌, ℕ, zero, suc, ◌+◌, ◌<◌, ◌≤◌, List, [], ◌∷◌, ◌++◌, length, Bool, true, false}
use Rattle.std.proofs.Common.{Option, Some, None, cond, refl, sym, ap, subst, ◌∙◌, arith}
use Rattle.std.specs.Prelude.{codes, slice_get, nat_eq}
use Rattle.std.specs.List.{find, position_from}
use Rattle.std.specs.Str.{bytes_eq}
use Rattle.std.proofs.lemmas.Bool.{eq-eqb}
use Rattle.std.proofs.lemmas.Option.{same_Some}
use Rattle.net_core.specs.declared.gate.Gate as gate
use Rattle.net_core.specs.declared.netlist.Output.{Output}
use Rattle.net_core.specs.Circuits.{Circuit, IsCircuit, output_names}
use Rattle.vlog_text.specs.Emitted.{driven, target_text, gate_name, reg_name}
use Rattle.vlog_text.specs.PortNames.{IsPortName, port_names, HasPortNames}
use Rattle.vlog_write.proofs.Lists.{get_left, Each, each-append, each_from, each_at, each_so}
use Rattle.vlog_write.proofs.WrittenNames.{bytes_itself, bytes_apart, apart_back, reg_once}
use Rattle.vlog_write.proofs.WrittenNames.{wire_name, wire_once, group, port_group, groups_apart}
use Rattle.vlog_write.proofs.Shapes.{named, or_wire, wire_names, all_ports}
use Rattle.vlog_write.proofs.Readable.{found-driven, ports-each, outputs-each}

-- ---- lists of different names

abbrev pub Differs : List ℕ → List ℕ → Type 0
Differs a b = bytes_eq a b ≡ false

abbrev pub Apart : List (List ℕ) → Type 0
Apart [] = Unit {0}
Apart (w ∷ ws) = Each (Differs w) ws × Apart ws

pub apart-append : (xs ys : List (List ℕ)) → Apart xs → Apart ys → Each (λ x. Each (Differs x) ys) xs
    → Apart (xs ++ ys)
apart-append [] ys h k f = k
apart-append (x ∷ xs) ys h k f =
    (each-append (Differs x) xs ys h.0 f.0, apart-append xs ys h.1 k f.1)

apart_once : (ws : List (List ℕ))
    → ((m n : ℕ) (w : List ℕ) → slice_get ws m ≡ Some w → slice_get ws n ≡ Some w → m ≡ n) → Apart ws
apart_once [] once = tt
apart_once (w ∷ ws) once = (
  each_from (Differs w) ws (λ n v e. bytes_apart w v (λ same. never n (once 0 (suc n) v (ap (λ x. Some x) same) e))),
  apart_once ws (λ m n v e f. less m n (once (suc m) (suc n) v e f)),
)
  where
    never : (n : ℕ) → 0 ≡ suc n → ⊥
    never n e = omega arith

    less : (m n : ℕ) → suc m ≡ suc n → m ≡ n
    less m n e = omega arith

-- ---- names with numbers

pub each-named : {A : Type 0} (P : List ℕ → Type 0) (name : ℕ → List ℕ) (k : ℕ) (xs : List A)
    → ((n : ℕ) → k ≤ n → n < k + length xs → P (name n)) → Each P (named name k xs)
each-named P name k [] f = tt
each-named P name k (x ∷ xs) f =
    (f k (omega arith) (omega arith), each-named P name (k + 1) xs (λ n low high. f n (omega arith) (omega arith)))

-- below this number equal names have equal numbers
abbrev pub OnceBelow : (ℕ → List ℕ) → ℕ → Type 0
OnceBelow name most = (m n : ℕ) → m < most → n < most → name m ≡ name n → m ≡ n

pub apart-named : {A : Type 0} (name : ℕ → List ℕ) (most k : ℕ) (xs : List A) → OnceBelow name most
    → k + length xs ≤ most → Apart (named name k xs)
apart-named name most k [] once few = tt
apart-named name most k (x ∷ xs) once few = (
  each-named (Differs (name k)) name (k + 1) xs
      (λ n low high. bytes_apart (name k) (name n) (λ e. above n low (once k n (omega arith) (omega arith) e))),
  apart-named name most (k + 1) xs once (omega arith),
)
  where
    above : (n : ℕ) → k + 1 ≤ n → k ≡ n → ⊥
    above n low e = omega arith

pub get-named : {A : Type 0} (name : ℕ → List ℕ) (k : ℕ) (xs : List A) (n : ℕ) → n < length xs
    → slice_get (named name k xs) n ≡ Some (name (k + n))
get-named name k [] n h = absurd (omega arith)
get-named name k (x ∷ xs) zero h = let e : k ≡ k + zero = omega arith in ap (λ m. Some (name m)) e
get-named name k (x ∷ xs) (suc n) h =
    let e : k + 1 + n ≡ k + suc n = omega arith in
    get-named name (k + 1) xs n (omega arith) ∙ ap (λ m. Some (name m)) e

-- ---- wires

pub each-wires : (P : List ℕ → Type 0) (c : Circuit) (k : ℕ) (gs : List gate.Gate)
    → ((n : ℕ) → k ≤ n → n < k + length gs → driven c n ≡ None → P (wire_name n)) → Each P (wire_names c k gs)
each-wires P c k [] f = tt
each-wires P c k (g ∷ gs) f =
    by (driven c k) refl (each-wires P c (k + 1) gs (λ n low high e. f n (omega arith) (omega arith) e))
  where
    by : (o : Option Output) → driven c k ≡ o → Each P (wire_names c (k + 1) gs)
        → Each P (or_wire o k (wire_names c (k + 1) gs))
    by (Some o) e h = h
    by None e h = (f k (omega arith) (omega arith) e, h)

apart-wires : (c : Circuit) (k : ℕ) (gs : List gate.Gate) → k + length gs ≤ 4294967295 → Apart (wire_names c k gs)
apart-wires c k [] few = tt
apart-wires c k (g ∷ gs) few =
    by (driven c k) (each-wires (Differs (wire_name k)) c (k + 1) gs differs)
    (apart-wires c (k + 1) gs (omega arith))
  where
    above : (n : ℕ) → k + 1 ≤ n → k ≡ n → ⊥
    above n low e = omega arith

    differs : (n : ℕ) → k + 1 ≤ n → n < k + 1 + length gs → driven c n ≡ None → Differs (wire_name k) (wire_name n)
    differs n low high e =
        bytes_apart (wire_name k) (wire_name n) (λ s. above n low (wire_once k n (omega arith) (omega arith) s))

    by : (o : Option Output) → Each (Differs (wire_name k)) (wire_names c (k + 1) gs)
        → Apart (wire_names c (k + 1) gs) → Apart (or_wire o k (wire_names c (k + 1) gs))
    by (Some o) d h = h
    by None d h = (d, h)

-- where the name of a wire stands
pub record StandsIn (names : List (List ℕ)) (w : List ℕ) : Type 0 where
  pub place : ℕ
  pub there : slice_get names place ≡ Some w

pub wire_stands : (c : Circuit) (k : ℕ) (gs : List gate.Gate) (n m : ℕ) → n < length gs → m ≡ k + n
    → driven c m ≡ None → StandsIn (wire_names c k gs) (wire_name m)
wire_stands c k [] n m h e d = absurd (omega arith)
wire_stands c k (g ∷ gs) zero m h e d =
    let same : k ≡ m = omega arith in
    by (driven c k) (ap (driven c) same ∙ d)
  where
    by : (o : Option Output) → o ≡ None → StandsIn (or_wire o k (wire_names c (k + 1) gs)) (wire_name m)
    by (Some o) f = absurd cc
    by None f = let same : k ≡ m = omega arith in record { place = 0; there = ap (λ j. Some (wire_name j)) same }
wire_stands c k (g ∷ gs) (suc n) m h e d =
    by (driven c k) (wire_stands c (k + 1) gs n m (omega arith) (omega arith) d)
  where
    by : (o : Option Output) → StandsIn (wire_names c (k + 1) gs) (wire_name m)
        → StandsIn (or_wire o k (wire_names c (k + 1) gs)) (wire_name m)
    by (Some o) s = s
    by None s = record { place = suc s.place; there = s.there }

-- ---- places

pub place_word : (ws : List (List ℕ)) (k n : ℕ) (w : List ℕ) → Apart ws → slice_get ws n ≡ Some w
    → position_from (bytes_eq w) k ws ≡ Some (k + n)
place_word [] k n w h e = absurd cc
place_word (x ∷ ws) k zero w h e =
    let same : x ≡ w = same_Some x w e in
    let now : bytes_eq w x ≡ true = subst (λ y. bytes_eq w y ≡ true) (sym same) (bytes_itself w) in
    let k_is : k ≡ k + zero = omega arith in
    ap (λ b. cond b (Some k) (position_from (bytes_eq w) (k + 1) ws)) now ∙ ap (λ j. Some j) k_is
place_word (x ∷ ws) k (suc n) w h e =
    let now : bytes_eq w x ≡ false = apart_back x w (each_at (Differs x) ws n w h.0 e) in
    let k_is : k + 1 + n ≡ k + suc n = omega arith in
    ap (λ b. cond b (Some k) (position_from (bytes_eq w) (k + 1) ws)) now
    ∙ (place_word ws (k + 1) n w h.1 e ∙ ap (λ j. Some j) k_is)

-- ---- the names of a netlist

-- names of two groups are different
pub groups_differ : (xs ys : List (List ℕ)) (g h : ℕ) → nat_eq g h ≡ false → Each (λ x. group x ≡ g) xs
    → Each (λ y. group y ≡ h) ys → Each (λ x. Each (Differs x) ys) xs
groups_differ xs ys g h ne p q =
    each_so (λ x. group x ≡ g) (λ x. Each (Differs x) ys) xs
    (λ x e. each_so (λ y. group y ≡ h) (Differs x) ys (λ y f. groups_apart x y g h e f ne) q) p

finds_none : (outputs : List Output) (i : ℕ) (o : Output) (g : ℕ) → slice_get outputs i ≡ Some o → o.gate ≡ g
    → find (λ (o : Output). nat_eq o.gate g) outputs ≡ None → ⊥
finds_none [] i o g e s f = cc
finds_none (x ∷ xs) zero o g e s f =
    let same : x ≡ o = same_Some x o e in
    let now : nat_eq x.gate g ≡ true = eq-eqb x.gate g (ap (λ (y : Output). y.gate) same ∙ s) in
    no (ap (λ b. cond b (Some x) (find (λ (o : Output). nat_eq o.gate g) xs)) (sym now) ∙ f)
  where
    no : Some x ≡ None → ⊥
    no e = cc
finds_none (x ∷ xs) (suc i) o g e s f = by (nat_eq x.gate g) (finds_none xs i o g e s) f
  where
    by : (b : Bool) → (find (λ (o : Output). nat_eq o.gate g) xs ≡ None → ⊥)
        → cond b (Some x) (find (λ (o : Output). nat_eq o.gate g) xs) ≡ None → ⊥
    by true on h = cc
    by false on h = on h

module _ (c : Circuit) (is : IsCircuit c) (names : HasPortNames c) where
  pub driven_at : (i : ℕ) (o : Output) → slice_get c.outputs i ≡ Some o → driven c o.gate ≡ Some o
  driven_at i o e = by (driven c o.gate) refl
    where
      by : (d : Option Output) → driven c o.gate ≡ d → d ≡ Some o
      by None f = absurd (finds_none c.outputs i o o.gate e refl f)
      by (Some p) f =
          let d = found-driven c.outputs o.gate p f in
          let same : d.place ≡ i = is.outputs_right.gates_once d.place i p o d.there e d.gate_is in
          sym (sym e ∙ (ap (slice_get c.outputs) (sym same) ∙ d.there))

  pub output_gate_name : (i : ℕ) (o : Output) → slice_get c.outputs i ≡ Some o → gate_name c o.gate ≡ o.name
  output_gate_name i o e = ap (λ d. target_text d o.gate) (driven_at i o e)

  port_not_wire : (w : List ℕ) (n : ℕ) → IsPortName w → w ≡ wire_name n → ⊥
  port_not_wire w n p e = no 0 4 (sym (port_group w p) ∙ ap group e) refl
    where
      no : (a b : ℕ) → a ≡ b → nat_eq a b ≡ false → ⊥
      no a b f ne = wrong (nat_eq a b) (eq-eqb a b f) ne
        where
          wrong : (t : Bool) → t ≡ true → t ≡ false → ⊥
          wrong t p q = cc

  -- gates of one name are one gate
  pub gate_once : OnceBelow (gate_name c) 4294967295
  gate_once m n few low e = by (driven c m) (driven c n) refl refl e
    where
      name_at : (g : ℕ) (o : Output) → driven c g ≡ Some o → IsPortName o.name
      name_at g o f =
          let d = found-driven c.outputs g o f in
          each_at (λ (o : Output). IsPortName o.name) c.outputs d.place o (outputs-each c is names) d.there

      by : (a b : Option Output) → driven c m ≡ a → driven c n ≡ b → target_text a m ≡ target_text b n → m ≡ n
      by None None f g h = wire_once m n few low h
      by None (Some b) f g h = absurd (port_not_wire b.name m (name_at n b g) (sym h))
      by (Some a) None f g h = absurd (port_not_wire a.name n (name_at m a f) h)
      by (Some a) (Some b) f g h =
          let x = found-driven c.outputs m a f in
          let y = found-driven c.outputs n b g in
          let place : x.place ≡ y.place = is.outputs_right.names_once x.place y.place a b x.there y.there h in
          let same : a ≡ b = same_Some a b (sym x.there ∙ (ap (slice_get c.outputs) place ∙ y.there)) in
          sym x.gate_is ∙ (ap (λ (o : Output). o.gate) same ∙ y.gate_is)

  pub gates-apart : Apart (named (gate_name c) 0 c.gates)
  gates-apart = let few = is.gates_few in apart-named (gate_name c) 4294967295 0 c.gates gate_once (omega arith)

  pub regs-apart : Apart (named reg_name 0 c.registers)
  regs-apart =
      let few = is.registers_few in
      apart-named reg_name 4294967295 0 c.registers (λ m n h k e. reg_once m n h k e) (omega arith)

  ports-group : Each (λ w. group w ≡ 0) (port_names c)
  ports-group = each_so IsPortName (λ w. group w ≡ 0) (port_names c) port_group (ports-each c is names)

  regs-group : Each (λ w. group w ≡ 3) (named reg_name 0 c.registers)
  regs-group = each-named (λ w. group w ≡ 3) reg_name 0 c.registers (λ n low high. refl)

  wires-group : Each (λ w. group w ≡ 4) (wire_names c 0 c.gates)
  wires-group = each-wires (λ w. group w ≡ 4) c 0 c.gates (λ n low high e. refl)

  pub inputs-apart : Apart c.inputs
  inputs-apart = apart_once c.inputs (λ m n w e f. names.once m n w (in_ports m w e) (in_ports n w f))
    where
      in_ports : (n : ℕ) (w : List ℕ) → slice_get c.inputs n ≡ Some w → slice_get (port_names c) n ≡ Some w
      in_ports n w e = get_left c.inputs (output_names c) n w e

  pub ports-apart : Apart (all_ports c)
  ports-apart = (
    (refl, first (codes "clk") 1 refl refl),
    (first (codes "rst") 2 refl refl, apart_once (port_names c) names.once),
  )
    where
      first : (w : List ℕ) (g : ℕ) → group w ≡ g → nat_eq g 0 ≡ false → Each (Differs w) (port_names c)
      first w g e ne =
          each_so (λ y. group y ≡ 0) (Differs w) (port_names c) (λ y f. groups_apart w y g 0 e f ne) ports-group

  pub all-apart : Apart (all_ports c ++ (named reg_name 0 c.registers ++ wire_names c 0 c.gates))
  all-apart =
      let regs : List (List ℕ) = named reg_name 0 c.registers in
      let wires : List (List ℕ) = wire_names c 0 c.gates in
      let few = is.gates_few in
      apart-append (all_ports c) (regs ++ wires) ports-apart
      (apart-append regs wires regs-apart (apart-wires c 0 c.gates (omega arith))
      (groups_differ regs wires 3 4 refl regs-group wires-group))
      (first (codes "clk") 1 refl refl refl, (first (codes "rst") 2 refl refl refl, both_differ))
    where
      inner : List (List ℕ)
      inner = named reg_name 0 c.registers ++ wire_names c 0 c.gates

      first : (w : List ℕ) (g : ℕ) → group w ≡ g → nat_eq g 3 ≡ false → nat_eq g 4 ≡ false → Each (Differs w) inner
      first w g e ne nf =
          each-append (Differs w) (named reg_name 0 c.registers) (wire_names c 0 c.gates)
          (each_so (λ y. group y ≡ 3) (Differs w) (named reg_name 0 c.registers)
          (λ y f. groups_apart w y g 3 e f ne) regs-group)
          (each_so (λ y. group y ≡ 4) (Differs w) (wire_names c 0 c.gates) (λ y f. groups_apart w y g 4 e f nf)
          wires-group)

      both_differ : Each (λ x. Each (Differs x) inner) (port_names c)
      both_differ =
          each_so (λ w. group w ≡ 0) (λ x. Each (Differs x) inner) (port_names c) (λ w e. first w 0 e refl refl)
          ports-group
