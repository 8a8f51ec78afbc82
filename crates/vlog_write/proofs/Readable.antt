-- The text of a netlist can be read.
use Rattle.std.proofs.Common.{◌≡◌, ℕ, suc, ◌+◌, ◌≤◌, List, [], ◌∷◌, length, Bool, true, false}
use Rattle.std.proofs.Common.{Option, Some, None, refl, sym, ap, ◌∙◌, arith, lit<}
use Rattle.std.specs.Prelude.{codes, slice_get, slice_index_or, nat_eq, cond}
use Rattle.std.specs.List.{find}
use Rattle.std.proofs.lemmas.Option.{slice_get_within, slice_get-get_or, same_Some}
use Rattle.std.proofs.lemmas.Bool.{eqb-true}
use Rattle.net_core.specs.declared.gate.Wire.{Wire}
use Rattle.net_core.specs.declared.gate.Wire.TheVariants as wire
use Rattle.net_core.specs.declared.gate.GateKind.{GateKind}
use Rattle.net_core.specs.declared.gate.GateKind.TheVariants as gates
use Rattle.net_core.specs.declared.gate.Gate as gate
use Rattle.net_core.specs.declared.netlist.Output.{Output}
use Rattle.net_core.specs.Circuits.{Circuit, IsCircuit, IsThere, output_names}
use Rattle.vlog_text.specs.declared.raw.DeclKind.{DeclKind}
use Rattle.vlog_text.specs.declared.raw.DeclKind.TheVariants as decl
use Rattle.vlog_text.specs.declared.token.TokenKind.TheVariants as kind
use Rattle.vlog_text.specs.Emitted.{driven, target_text, gate_name, reg_name, operand_text, kind_text}
use Rattle.vlog_text.specs.PortNames.{IsPortName, port_names, HasPortNames}
use Rattle.vlog_write.proofs.Lists.{Each, each-append, each_left, each_right, each-map, each_mapped, each_from, each_at}
use Rattle.vlog_write.proofs.Lists.{each_so}
use Rattle.vlog_write.proofs.WrittenNames.{IsFew, reg_word, wire_word, port_word}
use Rattle.vlog_write.proofs.Pieces.{Piece, Sign, IsWord, IsParted, IsReadable, Word}
use Rattle.vlog_write.proofs.Shapes.{Shape, named, or_wire, wire_names, of_kind, port_decls, inner_decls}
use Rattle.vlog_write.proofs.LinePieces.{listed_pieces, decl_word, end_pieces, decls_pieces, operand_piece, pins_pieces}
use Rattle.vlog_write.proofs.LinePieces.{gates_pieces, regs_pieces, last_pieces, later_decls}
use Rattle.vlog_write.proofs.LinePieces.{items_pieces, clock_pieces, all_pieces}

-- a name that can be written
abbrev pub IsName : List ℕ → Type 0
IsName w = IsWord w kind.Name

-- ---- pieces

listed-reads : (ws : List (List ℕ)) (z : List Piece) → Each IsName ws → IsParted z → IsReadable z
    → IsParted (listed_pieces ws z) × IsReadable (listed_pieces ws z)
listed-reads [] z h p more = (p, more)
listed-reads (w ∷ ws) z h p more =
    let r = listed-reads ws z h.1 p more in
    (refl, ((λ rest. refl), (refl, (h.0, r.0, r.1))))

end-reads : (z : List Piece) → IsReadable z → IsReadable (end_pieces z)
end-reads z more = ((λ rest. refl), (refl, more))

decl-word : (k : DeclKind) → IsWord (decl_word k) (kind.DeclWord k)
decl-word decl.Input = (refl, refl, lit< tt, refl)
decl-word decl.Output = (refl, refl, lit< tt, refl)
decl-word decl.Wire = (refl, refl, lit< tt, refl)
decl-word decl.Reg = (refl, refl, lit< tt, refl)

kind-word : (k : GateKind) → IsWord (kind_text k) (kind.GateWord k)
kind-word gates.Buf = (refl, refl, lit< tt, refl)
kind-word gates.Not = (refl, refl, lit< tt, refl)
kind-word gates.And = (refl, refl, lit< tt, refl)
kind-word gates.Or = (refl, refl, lit< tt, refl)
kind-word gates.Nand = (refl, refl, lit< tt, refl)
kind-word gates.Nor = (refl, refl, lit< tt, refl)
kind-word gates.Xor = (refl, refl, lit< tt, refl)
kind-word gates.Xnor = (refl, refl, lit< tt, refl)

decls-read : (ds : List Shape) (z : List Piece) → Each (λ d. IsName d.1) ds → IsReadable z
    → IsReadable (decls_pieces ds z)
decls-read [] z h more = more
decls-read (d ∷ ds) z h more =
    (decl-word d.0, refl, (refl, (h.0, refl, end-reads (decls_pieces ds z) (decls-read ds z h.1 more))))

-- what an operand is written as
abbrev pub OperandIs : Circuit → Wire → Type 0
OperandIs c (wire.Const b) = Unit {0}
OperandIs c w = IsName (operand_text c w)

operand-reads : (c : Circuit) (w : Wire) (z : List Piece) → OperandIs c w → IsParted z → IsReadable z
    → IsReadable (operand_piece c w ∷ z)
operand-reads c (wire.Const false) z h p more = ((λ rest. refl), more)
operand-reads c (wire.Const true) z h p more = ((λ rest. refl), more)
operand-reads c wire.Reset z h p more = (h, p, more)
operand-reads c (wire.Input n) z h p more = (h, p, more)
operand-reads c (wire.Reg n) z h p more = (h, p, more)
operand-reads c (wire.Gate n) z h p more = (h, p, more)

pins-read : (c : Circuit) (ws : List Wire) (z : List Piece) → Each (OperandIs c) ws → IsParted z → IsReadable z
    → IsParted (pins_pieces c ws z) × IsReadable (pins_pieces c ws z)
pins-read c [] z h p more = (p, more)
pins-read c (w ∷ ws) z h p more =
    let r = pins-read c ws z h.1 p more in
    (refl, ((λ rest. refl), (refl, operand-reads c w (pins_pieces c ws z) h.0 r.0 r.1)))

-- gates that can be written, from this number on
abbrev pub GatesAre : Circuit → ℕ → List gate.Gate → Type 0
GatesAre c n [] = Unit {0}
GatesAre c n (g ∷ gs) = IsName (gate_name c n) × Each (OperandIs c) g.pins × GatesAre c (n + 1) gs

gates-read : (c : Circuit) (n : ℕ) (gs : List gate.Gate) (z : List Piece) → GatesAre c n gs → IsReadable z
    → IsReadable (gates_pieces c n gs z)
gates-read c n [] z h more = more
gates-read c n (g ∷ gs) z h more =
    let rest : List Piece = gates_pieces c (n + 1) gs z in
    let r = gates-read c (n + 1) gs z h.2 more in
    let pins = pins-read c g.pins (Sign 41 [] kind.CloseRound ∷ end_pieces rest) h.1 refl
    ((λ more. refl), end-reads rest r) in
    (kind-word g.kind, refl, (refl, ((λ rest. refl), (h.0, pins.0, pins.1))))

abbrev pub RegsAre : Circuit → ℕ → List Wire → Type 0
RegsAre c n [] = Unit {0}
RegsAre c n (w ∷ ws) = IsName (reg_name n) × OperandIs c w × RegsAre c (n + 1) ws

regs-read : (c : Circuit) (n : ℕ) (ws : List Wire) (z : List Piece) → RegsAre c n ws → IsReadable z
    → IsReadable (regs_pieces c n ws z)
regs-read c n [] z h more = more
regs-read c n (w ∷ ws) z h more =
    let rest : List Piece = regs_pieces c (n + 1) ws z in
    let r = operand-reads c w (end_pieces rest) h.1 refl (end-reads rest (regs-read c (n + 1) ws z h.2 more)) in (
      (refl, refl, lit< tt, refl),
      refl,
      (
        refl,
        (
          (λ rest. refl),
          (
            (λ rest. refl),
            (
              (refl, refl, lit< tt, refl),
              refl,
              (
                refl,
                (
                  (refl, refl, lit< tt, refl),
                  refl,
                  (
                    (λ rest. refl),
                    (
                      refl,
                      (
                        h.0,
                        refl,
                        (refl, ((λ rest. refl), (refl, r))),
                      ),
                    ),
                  ),
                ),
              ),
            ),
          ),
        ),
      ),
    )

-- ---- what a netlist has

-- what can be written
pub record CanBeWritten (c : Circuit) : Type 0 where
  pub ports : Each IsName (port_names c)
  pub decls : Each (λ d. IsName d.1) (later_decls c)
  pub gates : GatesAre c 0 c.gates
  pub regs : RegsAre c 0 c.registers

pub all-read : (c : Circuit) → CanBeWritten c → IsReadable (all_pieces c)
all-read c h =
    let regs = regs-read c 0 c.registers last_pieces h.regs ((refl, refl, lit< tt, refl), refl, (refl, tt)) in
    let gates = gates-read c 0 c.gates (regs_pieces c 0 c.registers last_pieces) h.gates regs in
    let items = decls-read (later_decls c) (gates_pieces c 0 c.gates (regs_pieces c 0 c.registers last_pieces)) h.decls
    gates in
    let clock : IsReadable (clock_pieces (items_pieces c last_pieces)) = (
      (refl, refl, lit< tt, refl),
      refl,
      (
        refl,
        (
          (refl, refl, lit< tt, refl),
          refl,
          end-reads (items_pieces c last_pieces) items,
        ),
      ),
    ) in
    let behind : List Piece = Sign 41 [] kind.CloseRound ∷ end_pieces (clock_pieces (items_pieces c last_pieces)) in
    let ports = listed-reads (port_names c) behind h.ports refl
    ((λ rest. refl), end-reads (clock_pieces (items_pieces c last_pieces)) clock) in
    let names : IsReadable (Word (codes "rst") kind.Name ∷ listed_pieces (port_names c) behind) =
    ((refl, refl, lit< tt, refl), ports.0, ports.1) in (
      (refl, refl, lit< tt, refl),
      refl,
      (
        refl,
        (
          (refl, refl, lit< tt, refl),
          refl,
          (
            refl,
            (
              (λ rest. refl),
              ((refl, refl, lit< tt, refl), refl, ((λ rest. refl), (refl, names))),
            ),
          ),
        ),
      ),
    )

-- the output that is found for a gate
pub record DrivenBy (outputs : List Output) (g : ℕ) (o : Output) : Type 0 where
  pub place : ℕ
  pub there : slice_get outputs place ≡ Some o
  pub gate_is : o.gate ≡ g

further : (x : Output) (xs : List Output) (g : ℕ) (o : Output) → DrivenBy xs g o → DrivenBy (x ∷ xs) g o
further x xs g o d = record { place = suc d.place; there = d.there; gate_is = d.gate_is }

pub found-driven : (outputs : List Output) (g : ℕ) (o : Output)
    → find (λ (o : Output). nat_eq o.gate g) outputs ≡ Some o → DrivenBy outputs g o
found-driven [] g o e = absurd cc
found-driven (x ∷ xs) g o e = by (nat_eq x.gate g) refl (found-driven xs g o) e
  where
    by : (b : Bool) → nat_eq x.gate g ≡ b
        → (find (λ (o : Output). nat_eq o.gate g) xs ≡ Some o → DrivenBy xs g o)
        → cond b (Some x) (find (λ (o : Output). nat_eq o.gate g) xs) ≡ Some o → DrivenBy (x ∷ xs) g o
    by true t on f =
        let same : x ≡ o = same_Some x o f in
        record { place = 0; there = f; gate_is = ap (λ (y : Output). y.gate) (sym same) ∙ eqb-true x.gate g t }
    by false t on f = further x xs g o (on f)

module _ (c : Circuit) (is : IsCircuit c) (names : HasPortNames c) where
  pub ports-each : Each IsPortName (port_names c)
  ports-each = each_from IsPortName (port_names c) names.each

  pub inputs-each : Each IsPortName c.inputs
  inputs-each = each_left IsPortName c.inputs (output_names c) ports-each

  pub outputs-each : Each (λ (o : Output). IsPortName o.name) c.outputs
  outputs-each =
      each_mapped IsPortName (λ (o : Output). o.name) c.outputs
      (each_right IsPortName c.inputs (output_names c) ports-each)

  gate-named : (n : ℕ) → IsFew n → IsName (gate_name c n)
  gate-named n few = by (driven c n) refl
    where
      by : (o : Option Output) → driven c n ≡ o → IsName (target_text o n)
      by (Some o) e =
          let d = found-driven c.outputs n o e in
          port_word o.name (each_at (λ (o : Output). IsPortName o.name) c.outputs d.place o outputs-each d.there)
      by None e = wire_word n few

  operand-is : (gates : ℕ) (w : Wire) → gates ≤ length c.gates
      → IsThere (length c.inputs) (length c.registers) gates w → OperandIs c w
  operand-is gates (wire.Const b) few h = tt
  operand-is gates wire.Reset few h = (refl, refl, lit< tt, refl)
  operand-is gates (wire.Input n) few h =
      port_word (slice_index_or c.inputs n [])
      (each_at IsPortName c.inputs n _ inputs-each (slice_get-get_or c.inputs n [] h))
  operand-is gates (wire.Reg n) few h = let most = is.registers_few in reg_word n (omega arith)
  operand-is gates (wire.Gate n) few h = let most = is.gates_few in gate-named n (omega arith)

  gates-are : (n : ℕ) (gs : List gate.Gate) → n + length gs ≡ length c.gates
      → ((k : ℕ) (g : gate.Gate) → slice_get gs k ≡ Some g → Each (OperandIs c) g.pins) → GatesAre c n gs
  gates-are n [] e f = tt
  gates-are n (g ∷ gs) e f =
      let most = is.gates_few in
      (gate-named n (omega arith), f 0 g refl, gates-are (n + 1) gs (omega arith) (λ k x at. f (suc k) x at))

  pins-are : (k : ℕ) (g : gate.Gate) → slice_get c.gates k ≡ Some g → Each (OperandIs c) g.pins
  pins-are k g at =
      let fits = is.gates_fit k g at in
      let low = slice_get_within c.gates k g at in
      each_from (OperandIs c) g.pins (λ i w e. operand-is k w (omega arith) (fits.there.each i w e))

  regs-are : (n : ℕ) (ws : List Wire) → n + length ws ≡ length c.registers → Each (OperandIs c) ws → RegsAre c n ws
  regs-are n [] e h = tt
  regs-are n (w ∷ ws) e h =
      let most = is.registers_few in (reg_word n (omega arith), h.0, regs-are (n + 1) ws (omega arith) h.1)

  named-each : (n : ℕ) (ws : List Wire) → n + length ws ≡ length c.registers → Each IsName (named reg_name n ws)
  named-each n [] e = tt
  named-each n (w ∷ ws) e =
      let most = is.registers_few in (reg_word n (omega arith), named-each (n + 1) ws (omega arith))

  wires-each : (n : ℕ) (gs : List gate.Gate) → n + length gs ≡ length c.gates → Each IsName (wire_names c n gs)
  wires-each n [] e = tt
  wires-each n (g ∷ gs) e = by (driven c n) (wires-each (n + 1) gs (omega arith))
    where
      by : (o : Option Output) → Each IsName (wire_names c (n + 1) gs)
          → Each IsName (or_wire o n (wire_names c (n + 1) gs))
      by (Some o) h = h
      by None h = let most = is.gates_few in (wire_word n (omega arith), h)

  kinds-each : (k : DeclKind) (ws : List (List ℕ)) → Each IsName ws → Each (λ d. IsName d.1) (of_kind k ws)
  kinds-each k ws h = each-map (λ (d : Shape). IsName d.1) (λ w. (k, w)) ws h

  pub can-be-written : CanBeWritten c
  can-be-written =
      let outputs : Each IsName (output_names c) =
      each-map IsName (λ (o : Output). o.name) c.outputs
      (each_so (λ (o : Output). IsPortName o.name) (λ (o : Output). IsName o.name) c.outputs (λ o p. port_word o.name p)
      outputs-each) in
      record {
        ports = each_so IsPortName IsName (port_names c) port_word ports-each;
        decls = (
          (refl, refl, lit< tt, refl),
          each-append (λ (d : Shape). IsName d.1) (port_decls c) (inner_decls c)
              (each-append (λ (d : Shape). IsName d.1) (of_kind decl.Input c.inputs)
              (of_kind decl.Output (output_names c))
              (kinds-each decl.Input c.inputs (each_so IsPortName IsName c.inputs port_word inputs-each))
              (kinds-each decl.Output (output_names c) outputs))
              (each-append (λ (d : Shape). IsName d.1) (of_kind decl.Reg (named reg_name 0 c.registers))
              (of_kind decl.Wire (wire_names c 0 c.gates))
              (kinds-each decl.Reg (named reg_name 0 c.registers) (named-each 0 c.registers (omega arith)))
              (kinds-each decl.Wire (wire_names c 0 c.gates) (wires-each 0 c.gates (omega arith)))),
        );
        gates = gates-are 0 c.gates (omega arith) pins-are;
        regs = regs-are 0 c.registers (omega arith)
            (each_from (OperandIs c) c.registers (λ i w e. operand-is (length c.gates) w (omega arith)
            (is.data_there.each i w e)));
      }
