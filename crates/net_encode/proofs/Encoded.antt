-- The encoded netlist from its stages.
use Rattle.std.proofs.Common.{◌≡◌, ℕ, zero, suc, ◌+◌, ◌*◌, ◌<◌, ◌≤◌, Bool, true, false}
use Rattle.std.proofs.Common.{List, [], ◌∷◌, ◌++◌, length, length-append, map, take, drop, get_or, Some, refl, sym}
use Rattle.std.proofs.Common.{ap, ◌∙◌, subst, arith}
use Rattle.std.specs.Prelude.{slice_get}
use Rattle.std.proofs.lemmas.Option.{same_Some}
use Rattle.net_core.specs.declared.codes.Code.{Code}
use Rattle.net_core.specs.declared.codes.CodePlan.{CodePlan}
use Rattle.net_core.specs.declared.gate.Wire.{Wire}
use Rattle.net_core.specs.declared.gate.Wire.TheVariants as wire
use Rattle.net_core.specs.declared.gate.Gate as gate
use Rattle.net_core.specs.declared.netlist.Output.{Output}
use Rattle.net_core.specs.Rows.{Row, IsRow, value}
use Rattle.net_core.specs.Circuits.{Circuit, circuit_of, IsCircuit, IsThere, AllThere, AreOutputs, IsPlain, IsBuilt}
use Rattle.net_core.specs.Circuits.{output_gate, wire_at}
use Rattle.net_core.specs.Building.{HasAll, input_pin, input_pins, gate_input_pins}
use Rattle.net_core.specs.Runs.{next_of}
use Rattle.net_core.specs.Unread.{AreUnread}
use Rattle.net_encode.specs.Codes.{code_registers}
use Rattle.net_encode.specs.inner.Plans.{IsPlan}
use Rattle.net_encode.specs.inner.Drafts.{Grows, unbound}
use Rattle.net_encode.specs.inner.Moves.{moved, gate_moved, output_moved, with_gates}
use Rattle.net_encode.specs.inner.Sharing.{member_count}
use Rattle.net_encode.specs.inner.Stages.{IsTable, IsData}
use Rattle.net_encode.specs.inner.Telling.{AreTelling}
use Rattle.net_encode.specs.inner.Unread.{AllReadNone, LeavesUnread, PinsReadNone}
use Rattle.net_encode.specs.Encodings.{Encodes}
use Rattle.net_encode.proofs.Copying.{get_of_map, moved_there, old_is_row, front_is_row, value_is}
use Rattle.net_encode.proofs.Bits.{width_least}
use Rattle.net_encode.proofs.Counting.{members_few}
use Rattle.net_encode.proofs.Staged.{code_bits_same}
use Rattle.net_encode.proofs.Unread.{copies_read_none, moved_data_reads_none}
use Rattle.net_encode.proofs.Wholes.{groups_right}
use Rattle.net_encode.proofs.Running.{old_row, Carries, mirrored}

pub record Made (old : Circuit) (plan : CodePlan) (codes : List Code) (shared rest : ℕ) (d0 d1 d2 d3 : Circuit)
    (table others regs : List Wire) (outputs : List Output) : Type 0 where
  pub right : IsCircuit old
  pub plan_right : IsPlan (length codes) plan
  pub telling : AreTelling plan (length codes) codes
  pub shared_is : shared ≡ code_registers plan.groups
  pub rest_is : rest + length codes ≡ length old.registers
  pub begun : d0 ≡ circuit_of old.inputs [] (unbound (shared + rest)) []
  pub tabled : Grows d0 d1 (shared + 3 * length codes) 0
  pub table_is : IsTable d1 codes shared rest table
  pub copied : d2 ≡ with_gates d1 (map (gate_moved table (length d1.gates)) old.gates)
  pub others_are : others ≡ map (moved table (length d1.gates)) old.registers
  pub added : Grows d2 d3 (length codes + 3 * member_count plan.groups) (input_pins (take (length codes) others))
  pub regs_are : IsData d3 others (length codes) plan.groups regs
  pub shown : outputs ≡ map (output_moved (length d1.gates)) old.outputs
  pub table_right : IsCircuit d1
  pub unread : LeavesUnread d2 d3 others regs

wire_moved : (table : List Wire) (offset : ℕ) (ws : List Wire) (n : ℕ)
    → wire_at (map (moved table offset) ws) n ≡ moved table offset (wire_at ws n)
wire_moved table offset [] n = refl
wire_moved table offset (w ∷ ws) zero = refl
wire_moved table offset (w ∷ ws) (suc n) = wire_moved table offset ws n

length_moved : {X Y : Type 0} (f : X → Y) (xs : List X) → length (map f xs) ≡ length xs
length_moved f [] = refl
length_moved f (x ∷ xs) = ap suc (length_moved f xs)

gate_of_moved : (offset : ℕ) (os : List Output) (n : ℕ) → n < length os
    → (get_or (map (output_moved offset) os) n (record { name = []; gate = 0 })).gate
    ≡ offset + (get_or os n (record { name = []; gate = 0 })).gate
gate_of_moved offset [] n h = absurd (omega arith)
gate_of_moved offset (o ∷ os) zero h = refl
gate_of_moved offset (o ∷ os) (suc n) h = gate_of_moved offset os n (omega arith)

names_moved : (offset : ℕ) (os : List Output)
    → map (λ (o : Output). o.name) (map (output_moved offset) os) ≡ map (λ (o : Output). o.name) os
names_moved offset [] = refl
names_moved offset (o ∷ os) = ap (λ l. o.name ∷ l) (names_moved offset os)

-- a moved wire is an input exactly where it was one
pin_moved : (c : Circuit) (table : List Wire) (offset : ℕ) (i n : ℕ) (w : Wire) → HasAll c table
    → IsThere i (length table) n w → input_pin (moved table offset w) ≡ input_pin w
pin_moved c table offset i n (wire.Const b) all h = refl
pin_moved c table offset i n wire.Reset all h = refl
pin_moved c table offset i n (wire.Input k) all h = refl
pin_moved c table offset i n (wire.Reg r) all h = all.inner r h
pin_moved c table offset i n (wire.Gate k) all h = refl

pins_moved : (c : Circuit) (table : List Wire) (offset : ℕ) (i n : ℕ) (ws : List Wire) → HasAll c table
    → AllThere i (length table) n ws → input_pins (map (moved table offset) ws) ≡ input_pins ws
pins_moved c table offset i n [] all h = refl
pins_moved c table offset i n (w ∷ ws) all h =
    let first = pin_moved c table offset i n w all (h.each zero w refl) in
    let rest = pins_moved c table offset i n ws all (record { each = λ k v e. h.each (suc k) v e }) in
    omega (arith, first, rest)

gate_pins_moved : (c : Circuit) (table : List Wire) (offset i : ℕ) (gs : List gate.Gate) → HasAll c table
    → ((k : ℕ) (g : gate.Gate) → slice_get gs k ≡ Some g → (n : ℕ) × AllThere i (length table) n g.pins)
    → gate_input_pins (map (gate_moved table offset) gs) ≡ gate_input_pins gs
gate_pins_moved c table offset i [] all h = refl
gate_pins_moved c table offset i (g ∷ gs) all h =
    let here = h zero g refl in
    let first = pins_moved c table offset i here.0 g.pins all here.1 in
    let rest = gate_pins_moved c table offset i gs all (λ k x e. h (suc k) x e) in
    omega (arith, first, rest)

gate_pins_append : (gs hs : List gate.Gate) → gate_input_pins (gs ++ hs) ≡ gate_input_pins gs + gate_input_pins hs
gate_pins_append [] hs = omega arith
gate_pins_append (g ∷ gs) hs = let rest = gate_pins_append gs hs in omega (arith, rest)

pins_split : (n : ℕ) (ws : List Wire) → input_pins (take n ws) + input_pins (drop n ws) ≡ input_pins ws
pins_split zero ws = omega arith
pins_split (suc n) [] = omega arith
pins_split (suc n) (w ∷ ws) = let rest = pins_split n ws in omega (arith, rest)

plain_moved : (table : List Wire) (offset : ℕ) (front gs : List gate.Gate) → IsBuilt front → IsBuilt gs
    → IsBuilt (front ++ map (gate_moved table offset) gs)
plain_moved table offset front gs first second = record { each = λ n g at. all front first n g at }
  where
    moved_plain : (hs : List gate.Gate) → IsBuilt hs → (n : ℕ) (g : gate.Gate)
        → slice_get (map (gate_moved table offset) hs) n ≡ Some g → IsPlain g
    moved_plain [] ok n g at = absurd (cc)
    moved_plain (h ∷ hs) ok zero g at =
        let p = ok.each zero h refl in
        subst IsPlain (same_Some (gate_moved table offset h) g at) (record {
          kind = p.kind;
          pins = let same = length_moved (moved table offset) h.pins in let few = p.pins in omega (arith, same, few);
        })
    moved_plain (h ∷ hs) ok (suc n) g at = moved_plain hs (record { each = λ k x e. ok.each (suc k) x e }) n g at

    all : (fs : List gate.Gate) → IsBuilt fs → (n : ℕ) (g : gate.Gate)
        → slice_get (fs ++ map (gate_moved table offset) gs) n ≡ Some g → IsPlain g
    all [] ok n g at = moved_plain gs second n g at
    all (f ∷ fs) ok zero g at = subst IsPlain (same_Some f g at) (ok.each zero f refl)
    all (f ∷ fs) ok (suc n) g at = all fs (record { each = λ k x e. ok.each (suc k) x e }) n g at

registers_least : (groups : List (List ℕ)) → code_registers groups ≤ member_count groups
registers_least [] = omega arith
registers_least (g ∷ gs) =
    let one = width_least (length g) in
    let rest = registers_least gs in
    omega (arith, one, rest)

-- ---- what the stages ask

-- the old data wires are there in terms of the draft
data_known : (old d1 : Circuit) (table : List Wire) → IsCircuit old → length table ≡ length old.registers
    → d1.inputs ≡ old.inputs → AllThere (length d1.inputs) (length table) (length old.gates) old.registers
data_known old d1 table ok many same =
    subst (λ (l : List (List ℕ)). AllThere (length l) (length table) (length old.gates) old.registers) (sym same)
    (subst (λ r. AllThere (length old.inputs) r (length old.gates) old.registers) (sym many) ok.data_there)

pub data_there : (old d1 d2 : Circuit) (table others : List Wire) → IsCircuit old → HasAll d1 table
    → length table ≡ length old.registers → d1.inputs ≡ old.inputs
    → d2 ≡ with_gates d1 (map (gate_moved table (length d1.gates)) old.gates)
    → others ≡ map (moved table (length d1.gates)) old.registers
    → AllThere (length d2.inputs) (length d2.registers) (length d2.gates) others
data_there old d1 d2 table others ok all many same copied is =
    let known = data_known old d1 table ok many same in
    let copies = map (gate_moved table (length d1.gates)) old.gates in
    let room : length d1.gates + length old.gates ≤ length (d1.gates ++ copies) =
    omega (arith, length-append d1.gates copies, length_moved (gate_moved table (length d1.gates)) old.gates) in
    let made : AllThere (length d1.inputs) (length d1.registers) (length (d1.gates ++ copies)) others = record {
      each = λ n w at.
          let from = get_of_map (moved table (length d1.gates)) old.registers n w
          (ap (λ l. slice_get l n) (sym is) ∙ at) in
          subst (IsThere (length d1.inputs) (length d1.registers) (length (d1.gates ++ copies))) from.2
          (moved_there d1 table (length old.gates) (length (d1.gates ++ copies)) from.0 all room
          (known.each n from.0 from.1));
    } in
    subst (λ (c : Circuit). AllThere (length c.inputs) (length c.registers) (length c.gates) others) (sym copied) made

pub output_low : (old d1 d2 d3 : Circuit) (table : List Wire) (k j : ℕ) → IsCircuit old
    → d2 ≡ with_gates d1 (map (gate_moved table (length d1.gates)) old.gates) → Grows d2 d3 k j
    → (n : ℕ) (o : Output) → slice_get old.outputs n ≡ Some o → length d1.gates + o.gate < length d3.gates
output_low old d1 d2 d3 table k j ok copied added n o at =
    let copies = map (gate_moved table (length d1.gates)) old.gates in
    let low = ok.outputs_right.there n o at in
    let long : length d2.gates ≡ length (d1.gates ++ copies) = ap (λ (c : Circuit). length c.gates) copied in
    omega (
      arith,
      low,
      long,
      length-append d1.gates copies,
      length_moved (gate_moved table (length d1.gates)) old.gates,
      added.extends.fewest,
    )

pub outputs_there : (old d1 d2 d3 : Circuit) (table : List Wire) (k j : ℕ) (outputs : List Output) → IsCircuit old
    → d2 ≡ with_gates d1 (map (gate_moved table (length d1.gates)) old.gates) → Grows d2 d3 k j
    → outputs ≡ map (output_moved (length d1.gates)) old.outputs → AreOutputs (length d3.gates) outputs
outputs_there old d1 d2 d3 table k j outputs ok copied added is =
    let f = output_moved (length d1.gates) in
    let right = ok.outputs_right in
    subst (AreOutputs (length d3.gates)) (sym is) (record {
      there = λ n o at.
          let from = get_of_map f old.outputs n o at in
          let low = output_low old d1 d2 d3 table k j ok copied added n from.0 from.1 in
          omega (arith, low, ap (λ (x : Output). x.gate) from.2);
      names_once = λ m n o p a b e.
          let from = get_of_map f old.outputs m o a in
          let from' = get_of_map f old.outputs n p b in
          right.names_once m n from.0 from'.0 from.1 from'.1
          (ap (λ (x : Output). x.name) from.2 ∙ e ∙ sym (ap (λ (x : Output). x.name) from'.2));
      gates_once = λ m n o p a b e.
          let from = get_of_map f old.outputs m o a in
          let from' = get_of_map f old.outputs n p b in
          right.gates_once m n from.0 from'.0 from.1 from'.1
          (omega (arith, ap (λ (x : Output). x.gate) from.2, e, ap (λ (x : Output). x.gate) from'.2));
    })

-- ---- the whole

module _ (old : Circuit) (plan : CodePlan) (codes : List Code) (shared rest : ℕ) (d0 d1 d2 d3 : Circuit)
    (table others regs : List Wire) (outputs : List Output)
    (made : Made old plan codes shared rest d0 d1 d2 d3 table others regs outputs) where
  begun_inputs : d1.inputs ≡ old.inputs
  begun_inputs = made.tabled.extends.inputs ∙ ap (λ (c : Circuit). c.inputs) made.begun

  copied_row : (row : Row) → IsRow d3.gates row
      → IsRow (d1.gates ++ map (gate_moved table (length d1.gates)) old.gates) row
  copied_row row is = subst (λ (c : Circuit). IsRow c.gates row) made.copied (made.added.extends.rows row is)

  other_value : (row : Row) (p : ℕ)
      → value row (wire_at others p) ≡ next_of old (old_row table (length d1.gates) row) p
  other_value row p =
      ap (λ l. value row (wire_at l p)) made.others_are
      ∙ ap (value row) (wire_moved table (length d1.gates) old.registers p)
      ∙ value_is table (length d1.gates) row (wire_at old.registers p)

  long_others : length others ≡ length old.registers
  long_others =
      ap (λ (l : List Wire). length l) made.others_are
      ∙ length_moved (moved table (length d1.gates)) old.registers

  long_table : length table ≡ length old.registers
  long_table = omega (arith, made.table_is.count, made.rest_is)

  carries : Carries old (circuit_of d3.inputs d3.gates regs outputs) (length codes) plan codes table (length d1.gates)
  carries = record {
    telling = made.telling;
    few = omega (arith, made.rest_is);
    count = omega (arith, made.regs_are.count, long_others);
    rows = λ row is. old_is_row d1.gates old.gates table row (copied_row row is);
    told = λ row is p code at.
        made.table_is.told row
        (front_is_row d1.gates (map (gate_moved table (length d1.gates)) old.gates) row (copied_row row is)) p code at;
    rest = λ i h.
        made.table_is.own i (omega (arith, h, made.rest_is)) ∙ ap (λ s. wire.Reg (s + i)) made.shared_is;
    bits = λ row is r h.
        made.regs_are.bits row is r h
        ∙ ap (λ l. get_or l r false)
        (code_bits_same (λ p. value row (wire_at others p)) (next_of old (old_row table (length d1.gates) row))
        (length codes) plan.groups (λ p low. other_value row p)
        (groups_right (length codes) plan made.plan_right));
    rest_next = λ row is i h. ap (value row) (made.regs_are.rest i) ∙ other_value row (length codes + i);
    outputs = λ n h.
        ap (λ (c : Circuit). output_gate c n)
        (ap (λ (l : List Output). circuit_of d3.inputs d3.gates regs l) made.shown)
        ∙ gate_of_moved (length d1.gates) old.outputs n h;
  }

  long_copied : length d2.gates ≡ length d1.gates + length old.gates
  long_copied =
      ap (λ (c : Circuit). length c.gates) made.copied
      ∙ omega (
        arith,
        length-append d1.gates (map (gate_moved table (length d1.gates)) old.gates),
        length_moved (gate_moved table (length d1.gates)) old.gates,
      )

  few_gates : length d3.gates ≤ length old.gates + 8 * length codes
  few_gates =
      let none : length d0.gates ≡ 0 = ap (λ (c : Circuit). length c.gates) made.begun in
      omega (
        arith,
        none,
        made.tabled.extends.most,
        made.added.extends.most,
        long_copied,
        made.shared_is,
        registers_least plan.groups,
        members_few (length codes) plan made.plan_right,
      )

  copied_pins : gate_input_pins d2.gates ≡ gate_input_pins d1.gates + gate_input_pins old.gates
  copied_pins =
      ap (λ (c : Circuit). gate_input_pins c.gates) made.copied
      ∙ gate_pins_append d1.gates (map (gate_moved table (length d1.gates)) old.gates)
      ∙ ap (λ n. gate_input_pins d1.gates + n)
      (gate_pins_moved d1 table (length d1.gates) (length old.inputs) old.gates made.table_is.there
      (λ k g at. (
        k,
        subst (λ r. AllThere (length old.inputs) r k g.pins) (sym long_table)
            (made.right.gates_fit k g at).there,
      )))

  other_pins : input_pins others ≡ input_pins old.registers
  other_pins =
      ap input_pins made.others_are
      ∙ pins_moved d1 table (length d1.gates) (length d1.inputs) (length old.gates) old.registers made.table_is.there
      (data_known old d1 table made.right long_table begun_inputs)

  few_pins : gate_input_pins d3.gates + input_pins regs ≤ gate_input_pins old.gates + input_pins old.registers
  few_pins =
      let none : gate_input_pins d0.gates ≡ 0 = ap (λ (c : Circuit). gate_input_pins c.gates) made.begun in
      let split = pins_split (length codes) others in
      omega (
        arith,
        none,
        made.tabled.extends.few_pins,
        made.added.extends.few_pins,
        copied_pins,
        other_pins,
        split,
        made.regs_are.pins,
      )

  built : IsBuilt old.gates → IsBuilt d3.gates
  built plain =
      let none : IsBuilt d0.gates =
      subst (λ (c : Circuit). IsBuilt c.gates) (sym made.begun) (record { each = λ n g at. absurd (cc) }) in
      made.added.plain (subst (λ (c : Circuit). IsBuilt c.gates) (sym made.copied)
      (plain_moved table (length d1.gates) d1.gates old.gates (made.tabled.plain none) plain))

  unread : AreUnread old → AreUnread (circuit_of d3.inputs d3.gates regs outputs)
  unread free =
      let pins : PinsReadNone outputs d2 =
      rw (made.shown, made.copied)
      (copies_read_none old d1 table made.right made.table_right made.table_is.there long_table free) in
      let wires : AllReadNone outputs others =
      rw (made.shown, made.others_are)
      (moved_data_reads_none old d1 table made.right made.table_is.there long_table free) in
      let all = made.unread.pins outputs pins wires in
      let data_wires = made.unread.wires outputs pins wires in
      record {
        pins = λ n g at k w pin. (all.pins n g at).each k w pin;
        data_wires = λ r w at. data_wires.each r w at;
      }

  whole : IsCircuit (circuit_of d3.inputs d3.gates regs outputs)
      → Encodes old (circuit_of d3.inputs d3.gates regs outputs) (length codes) plan
  whole right = record {
    circuit = right;
    inputs =
        made.added.extends.inputs ∙ ap (λ (c : Circuit). c.inputs) made.copied ∙ begun_inputs;
    outputs =
        ap (map (λ (o : Output). o.name)) made.shown ∙ names_moved (length d1.gates) old.outputs;
    registers = omega (arith, made.regs_are.count, long_others);
    few_registers =
        let least = registers_least plan.groups in
        let most = members_few (length codes) plan made.plan_right in
        omega (arith, least, most);
    few = few_gates;
    few_pins = few_pins;
    plain = built;
    unread = unread;
    runs = λ obeys v rows run.
        mirrored old (circuit_of d3.inputs d3.gates regs outputs) (length codes) plan codes table (length d1.gates)
        carries made.plan_right obeys v rows run;
  }

  pub encodes : (net : Circuit) → net ≡ circuit_of d3.inputs d3.gates regs outputs → IsCircuit net
      → Encodes old net (length codes) plan
  encodes net is right =
      subst (λ (c : Circuit). Encodes old c (length codes) plan) (sym is)
      (whole (subst (λ (c : Circuit). IsCircuit c) is right))
