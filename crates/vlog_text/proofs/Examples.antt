-- Texts with what they stand for or break, worked out by hand and computed by the definitions.
use Rattle.std.proofs.Common.{◌≡◌, ℕ, true, false, List, [], ◌∷◌, ◌++◌, codes, refl, arith}
use Rattle.std.specs.Prelude.{Err}
use Rattle.std.specs.Fmt.{digits}
use Rattle.pbs_base.specs.declared.refusal.Span.{Span}
use Rattle.net_core.specs.declared.gate.Wire.TheVariants as wire
use Rattle.net_core.specs.declared.gate.GateKind.TheVariants as gate
use Rattle.net_core.specs.Circuits.{Circuit, circuit_of}
use Rattle.vlog_text.specs.declared.raw.DeclKind.TheVariants.{Input, Output, Wire, Reg}
use Rattle.vlog_text.specs.Emitted.{emitted}
use Rattle.vlog_text.specs.Lexing.{lex, block_end, tokens}
use Rattle.vlog_text.specs.Grammar.{NamePhrase, Named, Constant, Negated, Bracketed, Lone, OneUnit, MoreUnits, OneAnd}
use Rattle.vlog_text.specs.Grammar.{OneXor, MoreXors, OneName, MoreNames, OneOperand, MoreOperands, Unnamed, Instance}
use Rattle.vlog_text.specs.Grammar.{ItemPhrase, Declare, ManyGate, SingleGate, Assign, Always, ItemsPhrase, NoItems}
use Rattle.vlog_text.specs.Grammar.{MoreItems, TextPhrase, text_tokens}
use Rattle.vlog_text.specs.Refusing.{refusal}
use Rattle.vlog_text.specs.Reading.{IsRead, ElaboratesTo, IsRefusedVerilog, ByNames}

abbrev at : ℕ → ℕ → Span
at a b = record { start = a; end = b }

abbrev name : ℕ → ℕ → NamePhrase
name a b = record { clock = false; at = at a b }

abbrev clock : ℕ → ℕ → NamePhrase
clock a b = record { clock = true; at = at a b }

abbrev behind : ItemsPhrase → List ItemPhrase → ItemsPhrase
behind is [] = is
behind is (i ∷ rest) = behind (MoreItems is i) rest

abbrev items_of : List ItemPhrase → ItemsPhrase
items_of items = behind NoItems items

-- ---- a second driver

abbrev driven_twice_text : List ℕ
driven_twice_text =
    codes "module m (clk, rst, y); input clk, rst; output y; wire w; buf (w, rst); buf (w, rst); buf "
    ++ codes "(y, w); endmodule"

abbrev driven_twice_phrase : TextPhrase
driven_twice_phrase = record {
  module_at = at 0 6;
  name = name 7 8;
  open_at = at 9 10;
  ports =
      MoreNames (MoreNames (OneName (clock 10 13)) (at 13 14) (name 15 18)) (at 18 19) (name 20 21);
  close_at = at 21 22;
  start_at = at 22 23;
  items = items_of (
      Declare Input (at 24 29) (MoreNames (OneName (clock 30 33)) (at 33 34) (name 35 38)) (at 38 39) ∷
      Declare Output (at 40 46) (OneName (name 47 48)) (at 48 49) ∷
      Declare Wire (at 50 54) (OneName (name 55 56)) (at 56 57) ∷
      SingleGate gate.Buf refl (at 58 61) Unnamed (at 62 63) (name 63 64) (at 64 65) (Named (name 66 69)) (at
      69 70) (at 70 71) ∷
      SingleGate gate.Buf refl (at 72 75) Unnamed (at 76 77) (name 77 78) (at 78 79) (Named (name 80 83)) (at
      83 84) (at 84 85) ∷
      SingleGate gate.Buf refl (at 86 89) Unnamed (at 90 91) (name 91 92) (at 92 93) (Named (name 94 95)) (at
      95 96) (at 96 97) ∷
      []);
  end_at = at 98 107;
}

driven_twice_read : IsRead driven_twice_text driven_twice_phrase
unfolding lex
driven_twice_read = record {
  short = omega arith;
  found = text_tokens driven_twice_phrase;
  found_is = refl;
  text = record { tokens = refl; shallow = omega arith };
}

driven_twice_refused : IsRefusedVerilog driven_twice_text (refusal 5 (at 77 78))
driven_twice_refused = ByNames driven_twice_phrase driven_twice_read (refusal 5 (at 77 78)) refl

-- ---- a cycle

abbrev in_a_circle_text : List ℕ
in_a_circle_text =
    codes "module m (clk, rst, y); input clk, rst; output y; wire w; buf (w, y); buf (y, w); endmodul"
    ++ codes "e"

abbrev in_a_circle_phrase : TextPhrase
in_a_circle_phrase = record {
  module_at = at 0 6;
  name = name 7 8;
  open_at = at 9 10;
  ports =
      MoreNames (MoreNames (OneName (clock 10 13)) (at 13 14) (name 15 18)) (at 18 19) (name 20 21);
  close_at = at 21 22;
  start_at = at 22 23;
  items = items_of (
      Declare Input (at 24 29) (MoreNames (OneName (clock 30 33)) (at 33 34) (name 35 38)) (at 38 39) ∷
      Declare Output (at 40 46) (OneName (name 47 48)) (at 48 49) ∷
      Declare Wire (at 50 54) (OneName (name 55 56)) (at 56 57) ∷
      SingleGate gate.Buf refl (at 58 61) Unnamed (at 62 63) (name 63 64) (at 64 65) (Named (name 66 67)) (at
      67 68) (at 68 69) ∷
      SingleGate gate.Buf refl (at 70 73) Unnamed (at 74 75) (name 75 76) (at 76 77) (Named (name 78 79)) (at
      79 80) (at 80 81) ∷
      []);
  end_at = at 82 91;
}

in_a_circle_read : IsRead in_a_circle_text in_a_circle_phrase
unfolding lex
in_a_circle_read = record {
  short = omega arith;
  found = text_tokens in_a_circle_phrase;
  found_is = refl;
  text = record { tokens = refl; shallow = omega arith };
}

in_a_circle_refused : IsRefusedVerilog in_a_circle_text (refusal 6 (at 63 64))
in_a_circle_refused = ByNames in_a_circle_phrase in_a_circle_read (refusal 6 (at 63 64)) refl

-- ---- the clock as an operand

abbrev clocked_text : List ℕ
clocked_text =
    codes "module m (clk, rst, y); input clk, rst; output y; buf (y, clk); endmodule"

abbrev clocked_phrase : TextPhrase
clocked_phrase = record {
  module_at = at 0 6;
  name = name 7 8;
  open_at = at 9 10;
  ports =
      MoreNames (MoreNames (OneName (clock 10 13)) (at 13 14) (name 15 18)) (at 18 19) (name 20 21);
  close_at = at 21 22;
  start_at = at 22 23;
  items = items_of (
      Declare Input (at 24 29) (MoreNames (OneName (clock 30 33)) (at 33 34) (name 35 38)) (at 38 39) ∷
      Declare Output (at 40 46) (OneName (name 47 48)) (at 48 49) ∷
      SingleGate gate.Buf refl (at 50 53) Unnamed (at 54 55) (name 55 56) (at 56 57) (Named (clock 58 61))
      (at 61 62) (at 62 63) ∷
      []);
  end_at = at 64 73;
}

clocked_read : IsRead clocked_text clocked_phrase
unfolding lex
clocked_read = record {
  short = omega arith;
  found = text_tokens clocked_phrase;
  found_is = refl;
  text = record { tokens = refl; shallow = omega arith };
}

clocked_refused : IsRefusedVerilog clocked_text (refusal 7 (at 58 61))
clocked_refused = ByNames clocked_phrase clocked_read (refusal 7 (at 58 61)) refl

-- ---- a second driver, and behind it a name that isn't declared

abbrev two_faults_text : List ℕ
two_faults_text =
    codes "module m (clk, rst, y); input clk, rst; output y; buf (y, rst); buf (y, x); endmodule"

abbrev two_faults_phrase : TextPhrase
two_faults_phrase = record {
  module_at = at 0 6;
  name = name 7 8;
  open_at = at 9 10;
  ports =
      MoreNames (MoreNames (OneName (clock 10 13)) (at 13 14) (name 15 18)) (at 18 19) (name 20 21);
  close_at = at 21 22;
  start_at = at 22 23;
  items = items_of (
      Declare Input (at 24 29) (MoreNames (OneName (clock 30 33)) (at 33 34) (name 35 38)) (at 38 39) ∷
      Declare Output (at 40 46) (OneName (name 47 48)) (at 48 49) ∷
      SingleGate gate.Buf refl (at 50 53) Unnamed (at 54 55) (name 55 56) (at 56 57) (Named (name 58 61)) (at
      61 62) (at 62 63) ∷
      SingleGate gate.Buf refl (at 64 67) Unnamed (at 68 69) (name 69 70) (at 70 71) (Named (name 72 73)) (at
      73 74) (at 74 75) ∷
      []);
  end_at = at 76 85;
}

two_faults_read : IsRead two_faults_text two_faults_phrase
unfolding lex
two_faults_read = record {
  short = omega arith;
  found = text_tokens two_faults_phrase;
  found_is = refl;
  text = record { tokens = refl; shallow = omega arith };
}

two_faults_refused : IsRefusedVerilog two_faults_text (refusal 4 (at 72 73))
two_faults_refused = ByNames two_faults_phrase two_faults_read (refusal 4 (at 72 73)) refl

-- ---- gates that stand in another order than they are taken

abbrev held_text : List ℕ
held_text =
    codes "module m (clk, rst, i_a, y); input clk, rst, i_a; output y; reg q; wire w; and g (y, w, q)"
    ++ codes "; assign w = ~(i_a & rst) | 1'b0; always @(posedge clk) q <= y; endmodule"

abbrev held_phrase : TextPhrase
held_phrase = record {
  module_at = at 0 6;
  name = name 7 8;
  open_at = at 9 10;
  ports =
      MoreNames (MoreNames (MoreNames (OneName (clock 10 13)) (at 13 14) (name 15 18)) (at 18 19) (name 20
      23)) (at 23 24) (name 25 26);
  close_at = at 26 27;
  start_at = at 27 28;
  items = items_of (
      Declare Input (at 29 34) (MoreNames (MoreNames (OneName (clock 35 38)) (at 38 39) (name 40 43)) (at 43
      44) (name 45 48)) (at 48 49) ∷
      Declare Output (at 50 56) (OneName (name 57 58)) (at 58 59) ∷
      Declare Reg (at 60 63) (OneName (name 64 65)) (at 65 66) ∷
      Declare Wire (at 67 71) (OneName (name 72 73)) (at 73 74) ∷
      ManyGate gate.And refl (at 75 78) (Instance (name 79 80)) (at 81 82) (name 82 83) (at 83 84)
      (MoreOperands (OneOperand (Named (name 85 86))) (at 86 87) (Named (name 88 89))) (at 89 90) (at 90 91) ∷
      Assign (at 92 98) (name 99 100) (at 101 102) (MoreXors (OneXor (OneAnd (OneUnit (Negated (at 103 104)
      (Bracketed (at 104 105) (OneXor (OneAnd (MoreUnits (OneUnit (Lone (Named (name 105 108)))) (at 109 110)
      (Lone (Named (name 111 114)))))) (at 114 115)))))) (at 116 117) (OneAnd (OneUnit (Lone (Constant false
      (at 118 122)))))) (at 122 123) ∷
      Always (at 124 130) (at 131 132) (at 132 133) (at 133 140) (at 141 144) (at 144 145) (name 146 147) (at
      148 150) (Named (name 151 152)) (at 152 153) ∷
      []);
  end_at = at 154 163;
}

held_read : IsRead held_text held_phrase
unfolding lex
held_read = record {
  short = omega arith;
  found = text_tokens held_phrase;
  found_is = refl;
  text = record { tokens = refl; shallow = omega arith };
}

abbrev held_net : Circuit
held_net =
    circuit_of (codes "i_a" ∷ [])
    (record { kind = gate.And; pins = wire.Input 0 ∷ wire.Reset ∷ [] }
    ∷ record { kind = gate.Not; pins = wire.Gate 0 ∷ [] }
    ∷ record { kind = gate.Or; pins = wire.Gate 1 ∷ wire.Const false ∷ [] }
    ∷ record { kind = gate.And; pins = wire.Gate 2 ∷ wire.Reg 0 ∷ [] } ∷ [])
    (wire.Gate 3 ∷ []) ((record { name = codes "y"; gate = 3 }) ∷ [])

held_stands : ElaboratesTo held_text held_net
held_stands = record { phrase = held_phrase; is_read = held_read; unbroken = refl; net_is = refl }

held_emitted : emitted held_net
    ≡ codes "module pbs (clk, rst, i_a, y);\ninput clk;\ninput rst;\ninput i_a;\noutput y;\n"
    ++ codes "reg q0;\nwire w0;\nwire w1;\nwire w2;\nand (w0, i_a, rst);\nnot (w1, w0);\n"
    ++ codes "or (w2, w1, 1'b0);\nand (y, w2, q0);\nalways @(posedge clk) q0 <= y;\nendmodule\n"
unfolding digits
held_emitted = refl

-- ---- bytes at which no token begins

lone_less : tokens (codes "wire w<x") ≡ Err (at 6 7)
unfolding lex
lone_less = refl

other_constant : tokens (codes "1'b2") ≡ Err (at 0 1)
unfolding lex
other_constant = refl

open_comment : tokens (codes ";/*/ x") ≡ Err (at 1 6)
unfolding lex block_end
open_comment = refl
