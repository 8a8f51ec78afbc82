-- The text of a netlist in pieces, and that it can be read.
use Rattle.std.proofs.Common.{◌≡◌, ℕ, ◌+◌, List, [], ◌∷◌, ◌++◌, true, false}
use Rattle.std.proofs.Common.{Option, Some, None, refl, sym, ap, ◌∙◌, append_assoc}
use Rattle.std.specs.Prelude.{codes, decimal}
use Rattle.std.specs.List.{flat_map}
use Rattle.net_core.specs.declared.gate.Wire.{Wire}
use Rattle.net_core.specs.declared.gate.Wire.TheVariants as wire
use Rattle.net_core.specs.declared.gate.Gate as gate
use Rattle.net_core.specs.declared.netlist.Output.{Output}
use Rattle.net_core.specs.Circuits.{Circuit, output_names}
use Rattle.vlog_text.specs.declared.raw.DeclKind.{DeclKind}
use Rattle.vlog_text.specs.declared.raw.DeclKind.TheVariants as decl
use Rattle.vlog_text.specs.declared.token.TokenKind.TheVariants as kind
use Rattle.vlog_text.specs.Emitted.{driven, gate_name, reg_name, operand_text, kind_text, listed, declared, wire_line}
use Rattle.vlog_text.specs.Emitted.{gate_line, always_line, numbered, reg_lines, wire_lines, gate_lines}
use Rattle.vlog_text.specs.Emitted.{always_lines, emitted}
use Rattle.vlog_text.specs.PortNames.{port_names}
use Rattle.vlog_write.proofs.Pieces.{Piece, Blank, Sign, Word, text}
use Rattle.vlog_write.proofs.Shapes.{Shape, named, or_wire, wire_names, of_kind, port_decls, inner_decls}

-- ---- pieces, and those behind them

abbrev pub listed_pieces : List (List ℕ) → List Piece → List Piece
listed_pieces [] z = z
listed_pieces (w ∷ ws) z = Sign 44 [] kind.Comma ∷ Blank 32 ∷ Word w kind.Name ∷ listed_pieces ws z

abbrev pub decl_word : DeclKind → List ℕ
decl_word decl.Input = codes "input"
decl_word decl.Output = codes "output"
decl_word decl.Wire = codes "wire"
decl_word decl.Reg = codes "reg"

abbrev pub end_pieces : List Piece → List Piece
end_pieces z = Sign 59 [] kind.Semicolon ∷ Blank 10 ∷ z

abbrev pub decls_pieces : List Shape → List Piece → List Piece
decls_pieces [] z = z
decls_pieces (d ∷ ds) z =
    Word (decl_word d.0) (kind.DeclWord d.0) ∷ Blank 32 ∷ Word d.1 kind.Name ∷ end_pieces (decls_pieces ds z)

abbrev pub operand_piece : Circuit → Wire → Piece
operand_piece c (wire.Const false) = Sign 49 (codes "'b0") (kind.Bit false)
operand_piece c (wire.Const true) = Sign 49 (codes "'b1") (kind.Bit true)
operand_piece c w = Word (operand_text c w) kind.Name

abbrev pub pins_pieces : Circuit → List Wire → List Piece → List Piece
pins_pieces c [] z = z
pins_pieces c (w ∷ ws) z = Sign 44 [] kind.Comma ∷ Blank 32 ∷ operand_piece c w ∷ pins_pieces c ws z

abbrev pub gate_pieces : Circuit → ℕ → gate.Gate → List Piece → List Piece
gate_pieces c n g z =
    Word (kind_text g.kind) (kind.GateWord g.kind) ∷ Blank 32 ∷ Sign 40 [] kind.OpenRound ∷
    Word (gate_name c n) kind.Name ∷ pins_pieces c g.pins (Sign 41 [] kind.CloseRound ∷ end_pieces z)

abbrev pub gates_pieces : Circuit → ℕ → List gate.Gate → List Piece → List Piece
gates_pieces c n [] z = z
gates_pieces c n (g ∷ gs) z = gate_pieces c n g (gates_pieces c (n + 1) gs z)

abbrev pub always_pieces : Circuit → ℕ → Wire → List Piece → List Piece
always_pieces c n w z =
    Word (codes "always") kind.AlwaysWord ∷ Blank 32 ∷ Sign 64 [] kind.At ∷ Sign 40 [] kind.OpenRound ∷
    Word (codes "posedge") kind.PosedgeWord ∷ Blank 32 ∷ Word (codes "clk") kind.Clock ∷ Sign 41 [] kind.CloseRound ∷
    Blank 32 ∷ Word (reg_name n) kind.Name ∷ Blank 32 ∷ Sign 60 (61 ∷ []) kind.Arrow ∷ Blank 32 ∷ operand_piece c w ∷
    end_pieces z

abbrev pub regs_pieces : Circuit → ℕ → List Wire → List Piece → List Piece
regs_pieces c n [] z = z
regs_pieces c n (w ∷ ws) z = always_pieces c n w (regs_pieces c (n + 1) ws z)

abbrev pub last_pieces : List Piece
last_pieces = Word (codes "endmodule") kind.EndmoduleWord ∷ Blank 10 ∷ []

abbrev pub later_decls : Circuit → List Shape
later_decls c = (decl.Input, codes "rst") ∷ (port_decls c ++ inner_decls c)

abbrev pub items_pieces : Circuit → List Piece → List Piece
items_pieces c z = decls_pieces (later_decls c) (gates_pieces c 0 c.gates (regs_pieces c 0 c.registers z))

abbrev pub clock_pieces : List Piece → List Piece
clock_pieces z =
    Word (codes "input") (kind.DeclWord decl.Input) ∷ Blank 32 ∷ Word (codes "clk") kind.Clock ∷ end_pieces z

abbrev pub all_pieces : Circuit → List Piece
all_pieces c =
    Word (codes "module") kind.ModuleWord ∷ Blank 32 ∷ Word (codes "pbs") kind.Name ∷ Blank 32 ∷
    Sign 40 [] kind.OpenRound ∷ Word (codes "clk") kind.Clock ∷ Sign 44 [] kind.Comma ∷ Blank 32 ∷
    Word (codes "rst") kind.Name ∷ listed_pieces (port_names c) (Sign 41 [] kind.CloseRound ∷
    end_pieces (clock_pieces (items_pieces c last_pieces)))

-- ---- they make the text

text-listed : (ws : List (List ℕ)) (z : List Piece) → text (listed_pieces ws z) ≡ flat_map listed ws ++ text z
text-listed [] z = refl
text-listed (w ∷ ws) z =
    ap (λ l. 44 ∷ 32 ∷ l)
    (ap (λ l. w ++ l) (text-listed ws z) ∙ sym (append_assoc w (flat_map listed ws) (text z)))

abbrev decl_line : Shape → List ℕ
decl_line d = declared (decl_word d.0) d.1

decl_joined : (k w r z : List ℕ)
    → k ++ 32 ∷ (w ++ 59 ∷ 10 ∷ (r ++ z)) ≡ ((((k ++ 32 ∷ []) ++ w) ++ 59 ∷ 10 ∷ []) ++ r) ++ z
decl_joined k w r z = simp append_assoc

text-decls : (ds : List Shape) (z : List Piece) → text (decls_pieces ds z) ≡ flat_map decl_line ds ++ text z
text-decls [] z = refl
text-decls (d ∷ ds) z =
    ap (λ l. decl_word d.0 ++ 32 ∷ (d.1 ++ 59 ∷ 10 ∷ l)) (text-decls ds z)
    ∙ decl_joined (decl_word d.0) d.1 (flat_map decl_line ds) (text z)

text-operand : (c : Circuit) (w : Wire) (z : List Piece) → text (operand_piece c w ∷ z) ≡ operand_text c w ++ text z
text-operand c (wire.Const false) z = refl
text-operand c (wire.Const true) z = refl
text-operand c wire.Reset z = refl
text-operand c (wire.Input n) z = refl
text-operand c (wire.Reg n) z = refl
text-operand c (wire.Gate n) z = refl

abbrev pin_text : Circuit → Wire → List ℕ
pin_text c w = listed (operand_text c w)

text-pins : (c : Circuit) (ws : List Wire) (z : List Piece)
    → text (pins_pieces c ws z) ≡ flat_map (pin_text c) ws ++ text z
text-pins c [] z = refl
text-pins c (w ∷ ws) z =
    ap (λ l. 44 ∷ 32 ∷ l)
    (text-operand c w (pins_pieces c ws z) ∙ (ap (λ l. operand_text c w ++ l) (text-pins c ws z)
    ∙ sym (append_assoc (operand_text c w) (flat_map (pin_text c) ws) (text z))))

gate_joined : (k n f r z : List ℕ)
    → k ++ 32 ∷ 40 ∷ (n ++ (f ++ 41 ∷ 59 ∷ 10 ∷ (r ++ z)))
    ≡ (((((k ++ 32 ∷ 40 ∷ []) ++ n) ++ f) ++ 41 ∷ 59 ∷ 10 ∷ []) ++ r) ++ z
gate_joined k n f r z = simp append_assoc

text-gates : (c : Circuit) (n : ℕ) (gs : List gate.Gate) (z : List Piece)
    → text (gates_pieces c n gs z) ≡ numbered (gate_line c) n gs ++ text z
text-gates c n [] z = refl
text-gates c n (g ∷ gs) z =
    let k : List ℕ = kind_text g.kind in
    let more : List Piece = gates_pieces c (n + 1) gs z in
    ap (λ l. k ++ 32 ∷ 40 ∷ (gate_name c n ++ l)) (text-pins c g.pins (Sign 41 [] kind.CloseRound ∷ end_pieces more))
    ∙ (ap (λ l. k ++ 32 ∷ 40 ∷ (gate_name c n ++ (flat_map (pin_text c) g.pins ++ 41 ∷ 59 ∷ 10 ∷ l)))
    (text-gates c (n + 1) gs z)
    ∙ gate_joined k (gate_name c n) (flat_map (pin_text c) g.pins) (numbered (gate_line c) (n + 1) gs) (text z))

always_joined : (a q o r z : List ℕ)
    → a ++ (q ++ 32 ∷ 60 ∷ 61 ∷ 32 ∷ (o ++ 59 ∷ 10 ∷ (r ++ z)))
    ≡ (((((a ++ q) ++ 32 ∷ 60 ∷ 61 ∷ 32 ∷ []) ++ o) ++ 59 ∷ 10 ∷ []) ++ r) ++ z
always_joined a q o r z = simp append_assoc

text-regs : (c : Circuit) (n : ℕ) (ws : List Wire) (z : List Piece)
    → text (regs_pieces c n ws z) ≡ numbered (always_line c) n ws ++ text z
text-regs c n [] z = refl
text-regs c n (w ∷ ws) z =
    let front : List ℕ = codes "always @(posedge clk) " in
    let more : List Piece = regs_pieces c (n + 1) ws z in
    ap (λ l. front ++ (reg_name n ++ 32 ∷ 60 ∷ 61 ∷ 32 ∷ l)) (text-operand c w (end_pieces more))
    ∙ (ap (λ l. front ++ (reg_name n ++ 32 ∷ 60 ∷ 61 ∷ 32 ∷ (operand_text c w ++ 59 ∷ 10 ∷ l)))
    (text-regs c (n + 1) ws z)
    ∙ always_joined front (reg_name n) (operand_text c w) (numbered (always_line c) (n + 1) ws) (text z))

-- ---- lines of declarations

flat-append : (xs ys : List Shape) → flat_map decl_line (xs ++ ys) ≡ flat_map decl_line xs ++ flat_map decl_line ys
flat-append [] ys = refl
flat-append (x ∷ xs) ys =
    ap (λ l. decl_line x ++ l) (flat-append xs ys)
    ∙ sym (append_assoc (decl_line x) (flat_map decl_line xs) (flat_map decl_line ys))

flat-kind : (k : DeclKind) (ws : List (List ℕ))
    → flat_map decl_line (of_kind k ws) ≡ flat_map (declared (decl_word k)) ws
flat-kind k [] = refl
flat-kind k (w ∷ ws) = ap (λ l. declared (decl_word k) w ++ l) (flat-kind k ws)

abbrev reg_line : ℕ → Wire → List ℕ
reg_line n w = declared (codes "reg") (reg_name n)

flat-regs : (n : ℕ) (ws : List Wire) → flat_map (declared (codes "reg")) (named reg_name n ws) ≡ numbered reg_line n ws
flat-regs n [] = refl
flat-regs n (w ∷ ws) = ap (λ l. declared (codes "reg") (reg_name n) ++ l) (flat-regs (n + 1) ws)

flat-wires : (c : Circuit) (n : ℕ) (gs : List gate.Gate)
    → flat_map (declared (codes "wire")) (wire_names c n gs)
    ≡ numbered (λ n (g : gate.Gate). wire_line (driven c n) n) n gs
flat-wires c n [] = refl
flat-wires c n (g ∷ gs) = by (driven c n) (flat-wires c (n + 1) gs)
  where
    by : (o : Option Output) → flat_map (declared (codes "wire")) (wire_names c (n + 1) gs)
        ≡ numbered (λ n (g : gate.Gate). wire_line (driven c n) n) (n + 1) gs
        → flat_map (declared (codes "wire")) (or_wire o n (wire_names c (n + 1) gs))
        ≡ wire_line o n ++ numbered (λ n (g : gate.Gate). wire_line (driven c n) n) (n + 1) gs
    by (Some o) e = e
    by None e = ap (λ l. declared (codes "wire") (119 ∷ decimal n) ++ l) e

flat-listed : (xs ys : List (List ℕ)) → flat_map listed (xs ++ ys) ≡ flat_map listed xs ++ flat_map listed ys
flat-listed [] ys = refl
flat-listed (x ∷ xs) ys =
    ap (λ l. listed x ++ l) (flat-listed xs ys)
    ∙ sym (append_assoc (listed x) (flat_map listed xs) (flat_map listed ys))

text-items : (c : Circuit) (z : List Piece) → text (items_pieces c z) ≡ codes "input rst;\n"
    ++ ((flat_map (declared (codes "input")) c.inputs ++ flat_map (declared (codes "output")) (output_names c))
    ++ (reg_lines c ++ wire_lines c)) ++ (gate_lines c ++ (always_lines c ++ text z))
text-items c z =
    text-decls (later_decls c) (gates_pieces c 0 c.gates (regs_pieces c 0 c.registers z))
    ∙ (ap (λ l. (codes "input rst;\n" ++ l) ++ text (gates_pieces c 0 c.gates (regs_pieces c 0 c.registers z))) decls
    ∙ ap (λ l. (codes "input rst;\n" ++ (((flat_map (declared (codes "input")) c.inputs
    ++ flat_map (declared (codes "output")) (output_names c))
    ++ (reg_lines c ++ wire_lines c)))) ++ l)
    (text-gates c 0 c.gates (regs_pieces c 0 c.registers z)
    ∙ ap (λ l. gate_lines c ++ l) (text-regs c 0 c.registers z)))
  where
    pairs : (a b x y : List ℕ) → a ≡ x → b ≡ y → a ++ b ≡ x ++ y
    pairs a b x y e f = ap (λ l. l ++ b) e ∙ ap (λ l. x ++ l) f

    decls : flat_map decl_line (port_decls c ++ inner_decls c)
        ≡ (flat_map (declared (codes "input")) c.inputs ++ flat_map (declared (codes "output")) (output_names c))
        ++ (reg_lines c ++ wire_lines c)
    decls =
        flat-append (port_decls c) (inner_decls c)
        ∙ pairs _ _ _ _
        (flat-append (of_kind decl.Input c.inputs) (of_kind decl.Output (output_names c))
        ∙ pairs _ _ _ _ (flat-kind decl.Input c.inputs) (flat-kind decl.Output (output_names c)))
        (flat-append (of_kind decl.Reg (named reg_name 0 c.registers)) (of_kind decl.Wire (wire_names c 0 c.gates))
        ∙ pairs _ _ _ _ (flat-kind decl.Reg (named reg_name 0 c.registers) ∙ flat-regs 0 c.registers)
        (flat-kind decl.Wire (wire_names c 0 c.gates) ∙ flat-wires c 0 c.gates))

whole : (m i o e p r d q g w a b z : List ℕ)
    → m ++ ((i ++ o) ++ (e ++ (p ++ ((r ++ ((d ++ q) ++ (g ++ w))) ++ (a ++ (b ++ z))))))
    ≡ ((((((((m ++ i) ++ o) ++ e) ++ ((p ++ r) ++ d)) ++ q) ++ g) ++ w) ++ a) ++ b ++ z
whole m i o e p r d q g w a b z = simp append_assoc

pub text-all : (c : Circuit) → text (all_pieces c) ≡ emitted c
text-all c =
    let behind : List Piece = Sign 41 [] kind.CloseRound ∷ end_pieces (clock_pieces (items_pieces c last_pieces)) in
    ap (λ l. codes "module pbs (clk, rst" ++ l)
    (text-listed (port_names c) behind
    ∙ (ap (λ l. l ++ text behind) (flat-listed c.inputs (output_names c))
    ∙ ap (λ l. (flat_map listed c.inputs ++ flat_map listed (output_names c)) ++ (codes ");\ninput clk;\n" ++ l))
    (text-items c last_pieces)))
    ∙ whole (codes "module pbs (clk, rst") (flat_map listed c.inputs) (flat_map listed (output_names c)) (codes ");\n")
    (codes "input clk;\n") (codes "input rst;\n") (flat_map (declared (codes "input")) c.inputs)
    (flat_map (declared (codes "output")) (output_names c)) (reg_lines c) (wire_lines c) (gate_lines c) (always_lines c)
    (codes "endmodule\n")
