-- The phrase of a text that is written, and what its raw netlist has.
use Rattle.std.proofs.Common.{◌≡◌, ℕ, ◌+◌, ◌<◌, List, [], ◌∷◌, ◌++◌, length, map, max, true, false}
use Rattle.std.proofs.Common.{refl, sym, ap, ◌∙◌, append_assoc, append-nil, arith}
use Rattle.std.specs.Prelude.{codes, not, IsTrue}
use Rattle.pbs_base.specs.declared.refusal.Span.{Span}
use Rattle.net_core.specs.declared.gate.Wire.{Wire}
use Rattle.net_core.specs.declared.gate.Wire.TheVariants as wire
use Rattle.net_core.specs.declared.gate.GateKind.{GateKind}
use Rattle.net_core.specs.declared.gate.GateKind.TheVariants as gates
use Rattle.net_core.specs.declared.gate.Gate as gate
use Rattle.net_core.specs.Circuits.{Circuit, HasItsPins}
use Rattle.vlog_text.specs.declared.raw.DeclKind.{DeclKind}
use Rattle.vlog_text.specs.declared.raw.DeclKind.TheVariants as decl
use Rattle.vlog_text.specs.declared.raw.RawName.{RawName}
use Rattle.vlog_text.specs.declared.raw.RawGate.{RawGate}
use Rattle.vlog_text.specs.declared.raw.RawReg.{RawReg}
use Rattle.vlog_text.specs.declared.raw.RawPin.{RawPin}
use Rattle.vlog_text.specs.declared.raw.RawPin.TheVariants as pin
use Rattle.vlog_text.specs.declared.raw.Target.TheVariants as target
use Rattle.vlog_text.specs.declared.token.Token.{Token}
use Rattle.vlog_text.specs.declared.token.TokenKind.TheVariants as kind
use Rattle.vlog_text.specs.Emitted.{gate_name, reg_name, operand_text}
use Rattle.vlog_text.specs.PortNames.{port_names}
use Rattle.vlog_text.specs.Grammar.{token, NamePhrase, name_token, OperandPhrase, Named, Constant, operand_token}
use Rattle.vlog_text.specs.Grammar.{NamesPhrase, OneName, MoreNames, OperandsPhrase, OneOperand, MoreOperands, Unnamed}
use Rattle.vlog_text.specs.Grammar.{is_single, ItemPhrase, Declare, ManyGate, SingleGate, Always, ItemsPhrase, NoItems}
use Rattle.vlog_text.specs.Grammar.{MoreItems, TextPhrase, names_tokens, operands_tokens, item_tokens}
use Rattle.vlog_text.specs.Grammar.{items_tokens, text_tokens, items_depth}
use Rattle.vlog_text.specs.Trees.{word_at, name_of, operand_of, names_of, operands_of, found_in, raw_of}
use Rattle.vlog_write.proofs.Lists.{Each}
use Rattle.vlog_write.proofs.Pieces.{Piece, Sign, Word, Stands}
use Rattle.vlog_write.proofs.Shapes.{plain, word_of, bare_pin, bare_gate, bare_reg, Shape, shape, written_pin}
use Rattle.vlog_write.proofs.Shapes.{written_gate, written_gates, written_reg, written_regs}
use Rattle.vlog_write.proofs.Shapes.{all_decls, IsRawOf}
use Rattle.vlog_write.proofs.LinePieces.{listed_pieces, end_pieces, decls_pieces, operand_piece, pins_pieces}
use Rattle.vlog_write.proofs.LinePieces.{gate_pieces, gates_pieces, always_pieces, regs_pieces, last_pieces}
use Rattle.vlog_write.proofs.LinePieces.{later_decls}
use Rattle.vlog_write.proofs.LinePieces.{items_pieces}
use Rattle.vlog_write.proofs.LinePieces.{clock_pieces, all_pieces}

abbrev named_at : Span → NamePhrase
named_at at = record { clock = false; at = at }

abbrev clock_at : Span → NamePhrase
clock_at at = record { clock = true; at = at }

map_end : {A B : Type 0} (f : A → B) (xs : List A) (x : A) (y : B) (us : List B) → f x ≡ y
    → map f (xs ++ x ∷ []) ++ us ≡ map f xs ++ y ∷ us
map_end f [] x y us e = ap (λ z. z ∷ us) e
map_end f (z ∷ xs) x y us e = ap (λ l. f z ∷ l) (map_end f xs x y us e)

-- ---- names

record NamesMore (bytes : List ℕ) (a : NamesPhrase) (us : List (List ℕ)) (z : List Piece) (ts : List Token)
    : Type 0 where
  phrase : NamesPhrase
  rest : List Token
  tokens_are : names_tokens a ++ ts ≡ names_tokens phrase ++ rest
  behind : Stands bytes z rest
  same : map word_of (names_of bytes phrase) ≡ map word_of (names_of bytes a) ++ us

more_names : (bytes : List ℕ) (ws : List (List ℕ)) (z : List Piece) (a : NamesPhrase) (ts : List Token)
    → Stands bytes (listed_pieces ws z) ts → NamesMore bytes a ws z ts
more_names bytes [] z a ts h =
    record {
      phrase = a;
      rest = ts;
      tokens_are = refl;
      behind = h;
      same = sym (append-nil (map word_of (names_of bytes a)));
    }
more_names bytes (w ∷ ws) z a ts h =
    let n = h.3 in
    let r = more_names bytes ws z (MoreNames a h.0 (named_at n.0)) n.1 n.4 in
    record {
      phrase = r.phrase;
      rest = r.rest;
      tokens_are = ap (λ l. names_tokens a ++ l) (h.2 ∙ ap (λ l. token kind.Comma h.0 ∷ l) n.2)
          ∙ (sym (append_assoc (names_tokens a) (token kind.Comma h.0 ∷ token kind.Name n.0 ∷ []) n.1) ∙ r.tokens_are);
      behind = r.behind;
      same = r.same ∙ map_end word_of (names_of bytes a) (name_of bytes (named_at n.0)) w ws n.3;
    }

-- ---- operands

record OperandFound (bytes : List ℕ) (c : Circuit) (w : Wire) (z : List Piece) (ts : List Token) : Type 0 where
  phrase : OperandPhrase
  rest : List Token
  tokens_are : ts ≡ operand_token phrase ∷ rest
  behind : Stands bytes z rest
  same : bare_pin (operand_of bytes phrase) ≡ written_pin c w

name_found : (bytes word : List ℕ) (c : Circuit) (w : Wire) (z : List Piece) (ts : List Token)
    → written_pin c w ≡ pin.Name (plain word) → Stands bytes (Word word kind.Name ∷ z) ts → OperandFound bytes c w z ts
name_found bytes word c w z ts e h =
    record {
      phrase = Named (named_at h.0);
      rest = h.1;
      tokens_are = h.2;
      behind = h.4;
      same = ap (λ x. pin.Name (plain x)) h.3 ∙ sym e;
    }

finds_operand : (bytes : List ℕ) (c : Circuit) (w : Wire) (z : List Piece) (ts : List Token)
    → Stands bytes (operand_piece c w ∷ z) ts → OperandFound bytes c w z ts
finds_operand bytes c (wire.Const false) z ts h =
    record { phrase = Constant false h.0; rest = h.1; tokens_are = h.2; behind = h.3; same = refl }
finds_operand bytes c (wire.Const true) z ts h =
    record { phrase = Constant true h.0; rest = h.1; tokens_are = h.2; behind = h.3; same = refl }
finds_operand bytes c wire.Reset z ts h = name_found bytes (operand_text c wire.Reset) c wire.Reset z ts refl h
finds_operand bytes c (wire.Input n) z ts h =
    name_found bytes (operand_text c (wire.Input n)) c (wire.Input n) z ts refl h
finds_operand bytes c (wire.Reg n) z ts h = name_found bytes (operand_text c (wire.Reg n)) c (wire.Reg n) z ts refl h
finds_operand bytes c (wire.Gate n) z ts h = name_found bytes (operand_text c (wire.Gate n)) c (wire.Gate n) z ts refl h

record OperandsMore (bytes : List ℕ) (a : OperandsPhrase) (us : List RawPin) (z : List Piece) (ts : List Token)
    : Type 0 where
  phrase : OperandsPhrase
  rest : List Token
  tokens_are : operands_tokens a ++ ts ≡ operands_tokens phrase ++ rest
  behind : Stands bytes z rest
  same : map bare_pin (operands_of bytes phrase) ≡ map bare_pin (operands_of bytes a) ++ us

more_operands : (bytes : List ℕ) (c : Circuit) (ws : List Wire) (z : List Piece) (a : OperandsPhrase) (ts : List Token)
    → Stands bytes (pins_pieces c ws z) ts → OperandsMore bytes a (map (written_pin c) ws) z ts
more_operands bytes c [] z a ts h =
    record {
      phrase = a;
      rest = ts;
      tokens_are = refl;
      behind = h;
      same = sym (append-nil (map bare_pin (operands_of bytes a)));
    }
more_operands bytes c (w ∷ ws) z a ts h =
    let x = finds_operand bytes c w (pins_pieces c ws z) h.1 h.3 in
    let r = more_operands bytes c ws z (MoreOperands a h.0 x.phrase) x.rest x.behind in
    record {
      phrase = r.phrase;
      rest = r.rest;
      tokens_are = ap (λ l. operands_tokens a ++ l) (h.2 ∙ ap (λ l. token kind.Comma h.0 ∷ l) x.tokens_are)
          ∙ (sym (append_assoc (operands_tokens a) (token kind.Comma h.0 ∷ operand_token x.phrase ∷ []) x.rest)
          ∙ r.tokens_are);
      behind = r.behind;
      same = r.same ∙ map_end bare_pin (operands_of bytes a) (operand_of bytes x.phrase) (written_pin c w)
          (map (written_pin c) ws) x.same;
    }

-- ---- items

-- some items behind others
record Adds (bytes : List ℕ) (a : ItemsPhrase) (decls : List Shape) (gates : List RawGate) (regs : List RawReg)
    (z : List Piece) (ts : List Token) : Type 0 where
  phrase : ItemsPhrase
  rest : List Token
  tokens_are : items_tokens a ++ ts ≡ items_tokens phrase ++ rest
  behind : Stands bytes z rest
  depth_is : items_depth phrase ≡ items_depth a
  decls_are : map shape (found_in bytes phrase).decls ≡ map shape (found_in bytes a).decls ++ decls
  gates_are : map bare_gate (found_in bytes phrase).gates ≡ map bare_gate (found_in bytes a).gates ++ gates
  regs_are : map bare_reg (found_in bytes phrase).regs ≡ map bare_reg (found_in bytes a).regs ++ regs

abbrev Finds : List ℕ → (List Piece → List Piece) → List Shape → List RawGate → List RawReg → Type 0
Finds bytes ps d g r = (z : List Piece) (before : ItemsPhrase) (ts : List Token) → Stands bytes (ps z) ts
    → Adds bytes before d g r z ts

nothing : (bytes : List ℕ) → Finds bytes (λ z. z) [] [] []
nothing bytes z before ts h =
    record {
      phrase = before;
      rest = ts;
      tokens_are = refl;
      behind = h;
      depth_is = refl;
      decls_are = sym (append-nil _);
      gates_are = sym (append-nil _);
      regs_are = sym (append-nil _);
    }

joined : {A : Type 0} (x y z u v : List A) → z ≡ y ++ v → y ≡ x ++ u → z ≡ x ++ (u ++ v)
joined x y z u v e f = e ∙ (ap (λ l. l ++ v) f ∙ append_assoc x u v)

in_turn : (bytes : List ℕ) (ps qs : List Piece → List Piece) (d e : List Shape) (g h : List RawGate) (r s : List RawReg)
    → Finds bytes ps d g r → Finds bytes qs e h s → Finds bytes (λ z. ps (qs z)) (d ++ e) (g ++ h) (r ++ s)
in_turn bytes ps qs d e g h r s first second z before ts at =
    let x = first (qs z) before ts at in
    let y = second z x.phrase x.rest x.behind in
    record {
      phrase = y.phrase;
      rest = y.rest;
      tokens_are = x.tokens_are ∙ y.tokens_are;
      behind = y.behind;
      depth_is = y.depth_is ∙ x.depth_is;
      decls_are = joined _ _ _ d e y.decls_are x.decls_are;
      gates_are = joined _ _ _ g h y.gates_are x.gates_are;
      regs_are = joined _ _ _ r s y.regs_are x.regs_are;
    }

-- one more item
one_more : (before : ItemsPhrase) (i : ItemPhrase) (ts rest : List Token) → ts ≡ item_tokens i ++ rest
    → items_tokens before ++ ts ≡ items_tokens (MoreItems before i) ++ rest
one_more before i ts rest e = ap (λ l. items_tokens before ++ l) e
    ∙ sym (append_assoc (items_tokens before) (item_tokens i) rest)

map_last : {A B : Type 0} (f : A → B) (xs : List A) (x : A) (y : B) → f x ≡ y
    → map f (xs ++ x ∷ []) ≡ map f xs ++ y ∷ []
map_last f [] x y e = ap (λ z. z ∷ []) e
map_last f (z ∷ xs) x y e = ap (λ l. f z ∷ l) (map_last f xs x y e)

as_deep : (n : ℕ) → max n 0 ≡ n
as_deep n = omega arith

declares : (bytes : List ℕ) (k : DeclKind) (w : List ℕ) (before : ItemsPhrase) (z : List Piece) (ts rest : List Token)
    (at end : Span) (n : NamePhrase)
    → ts ≡ token (kind.DeclWord k) at ∷ name_token n ∷ token kind.Semicolon end ∷ rest → word_at bytes n.at ≡ w
    → Stands bytes z rest → Adds bytes before ((k, w) ∷ []) [] [] z ts
declares bytes k w before z ts rest at end n e is behind =
    record {
      phrase = MoreItems before (Declare k at (OneName n) end);
      rest = rest;
      tokens_are = one_more before (Declare k at (OneName n) end) ts rest e;
      behind = behind;
      depth_is = as_deep (items_depth before);
      decls_are = map_last shape (found_in bytes before).decls (record { kind = k; name = name_of bytes n }) (k, w)
          (ap (λ x. (k, x)) is);
      gates_are = sym (append-nil _);
      regs_are = sym (append-nil _);
    }

finds_decls : (bytes : List ℕ) (ds : List Shape) → Finds bytes (decls_pieces ds) ds [] []
finds_decls bytes [] z before ts h = nothing bytes z before ts h
finds_decls bytes (d ∷ ds) z before ts h =
    let n = h.4 in
    let e = n.4 in
    let x = declares bytes d.0 d.1 before (decls_pieces ds z) ts e.1 h.0 e.0 (named_at n.0)
    (h.2 ∙ ap (λ l. token (kind.DeclWord d.0) h.0 ∷ l) (n.2 ∙ ap (λ l. token kind.Name n.0 ∷ l) e.2)) n.3 e.3 in
    let y = finds_decls bytes ds z x.phrase x.rest x.behind in
    record {
      phrase = y.phrase;
      rest = y.rest;
      tokens_are = x.tokens_are ∙ y.tokens_are;
      behind = y.behind;
      depth_is = y.depth_is ∙ x.depth_is;
      decls_are = joined _ _ _ (d ∷ []) ds y.decls_are x.decls_are;
      gates_are = joined _ _ _ [] [] y.gates_are x.gates_are;
      regs_are = joined _ _ _ [] [] y.regs_are x.regs_are;
    }

finds_clock : (bytes : List ℕ) → Finds bytes clock_pieces ((decl.Input, codes "clk") ∷ []) [] []
finds_clock bytes z before ts h =
    let n = h.4 in
    let e = n.4 in
    declares bytes decl.Input (codes "clk") before z ts e.1 h.0 e.0 (clock_at n.0)
    (h.2 ∙ ap (λ l. token (kind.DeclWord decl.Input) h.0 ∷ l) (n.2 ∙ ap (λ l. token kind.Clock n.0 ∷ l) e.2)) n.3 e.3

-- ---- gates

gate_same : (k : GateKind) (t : RawName) (word : List ℕ) (ps qs : List RawPin) → t.word ≡ word → map bare_pin ps ≡ qs
    → bare_gate (record { kind = k; target = target.Name t; pins = ps })
    ≡ record { kind = k; target = target.Name (plain word); pins = qs }
gate_same k t word ps qs e f =
    ap (λ w. record { kind = k; target = target.Name (plain w); pins = map bare_pin ps }) e
    ∙ ap (λ l. record { kind = k; target = target.Name (plain word); pins = l }) f

-- a gate of several pins
many_found : (bytes : List ℕ) (c : Circuit) (n : ℕ) (k : GateKind) (many : IsTrue (not (is_single k))) (w : Wire)
    (ws : List Wire) → Finds bytes (gate_pieces c n (record { kind = k; pins = w ∷ ws })) []
    (written_gate c n (record { kind = k; pins = w ∷ ws }) ∷ []) []
many_found bytes c n k many w ws z before ts h =
    let o = h.4 in
    let t = o.3 in
    let m = t.4 in
    let x = finds_operand bytes c w (pins_pieces c ws (Sign 41 [] kind.CloseRound ∷ end_pieces z)) m.1 m.3 in
    let r = more_operands bytes c ws (Sign 41 [] kind.CloseRound ∷ end_pieces z) (OneOperand x.phrase) x.rest
    x.behind in
    let b = r.behind in
    let e = b.3 in
    let end : List Token = token kind.CloseRound b.0 ∷ token kind.Semicolon e.0 ∷ [] in
    let item : ItemPhrase = ManyGate k many h.0 Unnamed o.0 (named_at t.0) m.0 r.phrase b.0 e.0 in
    record {
      phrase = MoreItems before item;
      rest = e.1;
      tokens_are = one_more before item ts e.1
          (h.2 ∙ ap (λ l. token (kind.GateWord k) h.0 ∷ l) (o.2 ∙ ap (λ l. token kind.OpenRound o.0 ∷ l)
          (t.2 ∙ ap (λ l. token kind.Name t.0 ∷ l) (m.2 ∙ ap (λ l. token kind.Comma m.0 ∷ l)
          (x.tokens_are ∙ (r.tokens_are
          ∙ (ap (λ l. operands_tokens r.phrase ++ l) (b.2 ∙ ap (λ l. token kind.CloseRound b.0 ∷ l) e.2)
          ∙ sym (append_assoc (operands_tokens r.phrase) end e.1))))))));
      behind = e.3;
      depth_is = as_deep (items_depth before);
      decls_are = sym (append-nil _);
      gates_are = map_last bare_gate (found_in bytes before).gates
          (record { kind = k; target = target.Name (name_of bytes (named_at t.0)); pins = operands_of bytes r.phrase })
          (written_gate c n (record { kind = k; pins = w ∷ ws }))
          (gate_same k (name_of bytes (named_at t.0)) (gate_name c n) (operands_of bytes r.phrase) _ t.3
          (r.same ∙ ap (λ p. p ∷ map (written_pin c) ws) x.same));
      regs_are = sym (append-nil _);
    }

-- a gate of one pin
single_found : (bytes : List ℕ) (c : Circuit) (n : ℕ) (k : GateKind) (single : IsTrue (is_single k)) (w : Wire)
    → Finds bytes (gate_pieces c n (record { kind = k; pins = w ∷ [] })) []
    (written_gate c n (record { kind = k; pins = w ∷ [] }) ∷ []) []
single_found bytes c n k single w z before ts h =
    let o = h.4 in
    let t = o.3 in
    let m = t.4 in
    let x = finds_operand bytes c w (Sign 41 [] kind.CloseRound ∷ end_pieces z) m.1 m.3 in
    let b = x.behind in
    let e = b.3 in
    let pins : List RawPin = operand_of bytes x.phrase ∷ [] in
    let item : ItemPhrase = SingleGate k single h.0 Unnamed o.0 (named_at t.0) m.0 x.phrase b.0 e.0 in
    record {
      phrase = MoreItems before item;
      rest = e.1;
      tokens_are = one_more before item ts e.1
          (h.2 ∙ ap (λ l. token (kind.GateWord k) h.0 ∷ l) (o.2 ∙ ap (λ l. token kind.OpenRound o.0 ∷ l)
          (t.2 ∙ ap (λ l. token kind.Name t.0 ∷ l) (m.2 ∙ ap (λ l. token kind.Comma m.0 ∷ l)
          (x.tokens_are ∙ ap (λ l. operand_token x.phrase ∷ l)
          (b.2 ∙ ap (λ l. token kind.CloseRound b.0 ∷ l) e.2))))));
      behind = e.3;
      depth_is = as_deep (items_depth before);
      decls_are = sym (append-nil _);
      gates_are = map_last bare_gate (found_in bytes before).gates
          (record { kind = k; target = target.Name (name_of bytes (named_at t.0)); pins = pins })
          (written_gate c n (record { kind = k; pins = w ∷ [] }))
          (gate_same k (name_of bytes (named_at t.0)) (gate_name c n) pins _ t.3
          (ap (λ p. p ∷ []) x.same));
      regs_are = sym (append-nil _);
    }

-- a single pin
one_pin : (bytes : List ℕ) (c : Circuit) (n : ℕ) (k : GateKind) (single : IsTrue (is_single k)) (ws : List Wire)
    → length ws ≡ 1 → Finds bytes (gate_pieces c n (record { kind = k; pins = ws })) []
    (written_gate c n (record { kind = k; pins = ws }) ∷ []) []
one_pin bytes c n k single [] e = absurd (omega arith)
one_pin bytes c n k single (w ∷ []) e = single_found bytes c n k single w
one_pin bytes c n k single (w ∷ v ∷ ws) e = absurd (omega arith)

some_pins : (bytes : List ℕ) (c : Circuit) (n : ℕ) (k : GateKind) (many : IsTrue (not (is_single k))) (ws : List Wire)
    → 0 < length ws → Finds bytes (gate_pieces c n (record { kind = k; pins = ws })) []
    (written_gate c n (record { kind = k; pins = ws }) ∷ []) []
some_pins bytes c n k many [] e = absurd (omega arith)
some_pins bytes c n k many (w ∷ ws) e = many_found bytes c n k many w ws

finds_gate : (bytes : List ℕ) (c : Circuit) (n : ℕ) (k : GateKind) (ws : List Wire) → HasItsPins k (length ws)
    → Finds bytes (gate_pieces c n (record { kind = k; pins = ws })) []
    (written_gate c n (record { kind = k; pins = ws }) ∷ []) []
finds_gate bytes c n gates.Buf ws h = one_pin bytes c n gates.Buf refl ws h
finds_gate bytes c n gates.Not ws h = one_pin bytes c n gates.Not refl ws h
finds_gate bytes c n gates.And ws h = some_pins bytes c n gates.And refl ws h
finds_gate bytes c n gates.Or ws h = some_pins bytes c n gates.Or refl ws h
finds_gate bytes c n gates.Nand ws h = some_pins bytes c n gates.Nand refl ws h
finds_gate bytes c n gates.Nor ws h = some_pins bytes c n gates.Nor refl ws h
finds_gate bytes c n gates.Xor ws h = some_pins bytes c n gates.Xor refl ws h
finds_gate bytes c n gates.Xnor ws h = some_pins bytes c n gates.Xnor refl ws h

finds_gates : (bytes : List ℕ) (c : Circuit) (n : ℕ) (gs : List gate.Gate)
    → Each (λ (g : gate.Gate). HasItsPins g.kind (length g.pins)) gs
    → Finds bytes (gates_pieces c n gs) [] (written_gates c n gs) []
finds_gates bytes c n [] h = nothing bytes
finds_gates bytes c n (g ∷ gs) h =
    in_turn bytes (gate_pieces c n g) (gates_pieces c (n + 1) gs) [] [] (written_gate c n g ∷ [])
    (written_gates c (n + 1) gs) [] [] (finds_gate bytes c n g.kind g.pins h.0) (finds_gates bytes c (n + 1) gs h.1)

-- ---- registers

reg_same : (t : RawName) (word : List ℕ) (p q : RawPin) → t.word ≡ word → bare_pin p ≡ q
    → bare_reg (record { target = t; wire = p }) ≡ record { target = plain word; wire = q }
reg_same t word p q e f =
    ap (λ w. record { target = plain w; wire = bare_pin p }) e ∙ ap (λ x. record { target = plain word; wire = x }) f

finds_reg : (bytes : List ℕ) (c : Circuit) (n : ℕ) (w : Wire)
    → Finds bytes (always_pieces c n w) [] [] (written_reg c n w ∷ [])
finds_reg bytes c n w z before ts h =
    let a = h.4 in
    let o = a.3 in
    let p = o.3 in
    let k = p.4 in
    let b = k.4 in
    let t = b.3 in
    let r = t.4 in
    let x = finds_operand bytes c w (end_pieces z) r.1 r.3 in
    let e = x.behind in
    let item : ItemPhrase = Always h.0 a.0 o.0 p.0 k.0 b.0 (named_at t.0) r.0 x.phrase e.0 in
    record {
      phrase = MoreItems before item;
      rest = e.1;
      tokens_are = one_more before item ts e.1
          (h.2 ∙ ap (λ l. token kind.AlwaysWord h.0 ∷ l) (a.2 ∙ ap (λ l. token kind.At a.0 ∷ l)
          (o.2 ∙ ap (λ l. token kind.OpenRound o.0 ∷ l) (p.2 ∙ ap (λ l. token kind.PosedgeWord p.0 ∷ l)
          (k.2 ∙ ap (λ l. token kind.Clock k.0 ∷ l) (b.2 ∙ ap (λ l. token kind.CloseRound b.0 ∷ l)
          (t.2 ∙ ap (λ l. token kind.Name t.0 ∷ l) (r.2 ∙ ap (λ l. token kind.Arrow r.0 ∷ l)
          (x.tokens_are ∙ ap (λ l. operand_token x.phrase ∷ l) e.2)))))))));
      behind = e.3;
      depth_is = as_deep (items_depth before);
      decls_are = sym (append-nil _);
      gates_are = sym (append-nil _);
      regs_are = map_last bare_reg (found_in bytes before).regs
          (record { target = name_of bytes (named_at t.0); wire = operand_of bytes x.phrase }) (written_reg c n w)
          (reg_same (name_of bytes (named_at t.0)) (reg_name n) (operand_of bytes x.phrase) (written_pin c w) t.3
          x.same);
    }

finds_regs : (bytes : List ℕ) (c : Circuit) (n : ℕ) (ws : List Wire)
    → Finds bytes (regs_pieces c n ws) [] [] (written_regs c n ws)
finds_regs bytes c n [] = nothing bytes
finds_regs bytes c n (w ∷ ws) =
    in_turn bytes (always_pieces c n w) (regs_pieces c (n + 1) ws) [] [] [] [] (written_reg c n w ∷ [])
    (written_regs c (n + 1) ws) (finds_reg bytes c n w) (finds_regs bytes c (n + 1) ws)

-- ---- the text

abbrev AllHavePins : Circuit → Type 0
AllHavePins c = Each (λ (g : gate.Gate). HasItsPins g.kind (length g.pins)) c.gates

finds_items : (bytes : List ℕ) (c : Circuit) → AllHavePins c
    → Finds bytes (λ z. clock_pieces (items_pieces c z)) (all_decls c) (written_gates c 0 c.gates)
    (written_regs c 0 c.registers)
finds_items bytes c h z before ts at =
    let x = in_turn bytes clock_pieces (decls_pieces (later_decls c)) ((decl.Input, codes "clk") ∷ []) (later_decls c)
    [] [] [] [] (finds_clock bytes) (finds_decls bytes (later_decls c))
    (gates_pieces c 0 c.gates (regs_pieces c 0 c.registers z)) before ts at in
    let y = in_turn bytes (gates_pieces c 0 c.gates) (regs_pieces c 0 c.registers) [] [] (written_gates c 0 c.gates) []
    [] (written_regs c 0 c.registers) (finds_gates bytes c 0 c.gates h) (finds_regs bytes c 0 c.registers) z x.phrase
    x.rest x.behind in
    record {
      phrase = y.phrase;
      rest = y.rest;
      tokens_are = x.tokens_are ∙ y.tokens_are;
      behind = y.behind;
      depth_is = y.depth_is ∙ x.depth_is;
      decls_are = y.decls_are ∙ (append-nil _ ∙ x.decls_are);
      gates_are = y.gates_are ∙ (ap (λ l. l ++ (written_gates c 0 c.gates ++ [])) (x.gates_are ∙ append-nil _)
          ∙ ap (λ l. map bare_gate (found_in bytes before).gates ++ l) (append-nil (written_gates c 0 c.gates)));
      regs_are = y.regs_are ∙ ap (λ l. l ++ written_regs c 0 c.registers) (x.regs_are ∙ append-nil _);
    }

-- the phrase of the whole text
pub record TextFound (bytes : List ℕ) (c : Circuit) (ts : List Token) : Type 0 where
  pub phrase : TextPhrase
  pub tokens_are : text_tokens phrase ≡ ts
  pub depth_is : items_depth phrase.items ≡ 0
  pub raw_is : IsRawOf c (raw_of bytes phrase)

pub finds_text : (bytes : List ℕ) (c : Circuit) → AllHavePins c → (ts : List Token) → Stands bytes (all_pieces c) ts
    → TextFound bytes c ts
finds_text bytes c pins ts h =
    let n = h.4 in
    let o = n.4 in
    let k = o.3 in
    let m = k.4 in
    let r = m.3 in
    let first : NamesPhrase = MoreNames (OneName (clock_at k.0)) m.0 (named_at r.0) in
    let behind : List Piece = Sign 41 [] kind.CloseRound ∷ end_pieces (clock_pieces (items_pieces c last_pieces)) in
    let ports = more_names bytes (port_names c) behind first r.1 r.4 in
    let b = ports.behind in
    let s = b.3 in
    let x = finds_items bytes c pins last_pieces NoItems s.1 s.3 in
    let e = x.behind in
    record {
      phrase = record {
        module_at = h.0;
        name = named_at n.0;
        open_at = o.0;
        ports = ports.phrase;
        close_at = b.0;
        start_at = s.0;
        items = x.phrase;
        end_at = e.0;
      };
      tokens_are = sym (h.2 ∙ ap (λ l. token kind.ModuleWord h.0 ∷ l) (n.2 ∙ ap (λ l. token kind.Name n.0 ∷ l)
          (o.2 ∙ ap (λ l. token kind.OpenRound o.0 ∷ l)
          (k.2 ∙ (ap (λ l. token kind.Clock k.0 ∷ l) (m.2 ∙ ap (λ l. token kind.Comma m.0 ∷ l) r.2)
          ∙ (ports.tokens_are ∙ ap (λ l. names_tokens ports.phrase ++ l)
          (b.2 ∙ ap (λ l. token kind.CloseRound b.0 ∷ l) (s.2 ∙ ap (λ l. token kind.Semicolon s.0 ∷ l)
          (x.tokens_are ∙ ap (λ l. items_tokens x.phrase ++ l)
          (e.2 ∙ ap (λ l. token kind.EndmoduleWord e.0 ∷ l) e.4))))))))));
      depth_is = x.depth_is;
      raw_is = record {
        ports_are = ports.same ∙ ap (λ w. w ∷ word_at bytes r.0 ∷ port_names c) k.3
            ∙ ap (λ w. codes "clk" ∷ w ∷ port_names c) r.3;
        decls_are = x.decls_are;
        gates_are = x.gates_are;
        regs_are = x.regs_are;
      };
    }
