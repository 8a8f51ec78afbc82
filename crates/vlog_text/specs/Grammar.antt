-- The grammar: phrases with the spans of their tokens, the tokens that they are, and how deep they nest.
use Rattle.std.specs.Prelude.{◌≡◌, ℕ, zero, suc, ◌≤◌, max, Bool, true, false, not, IsTrue, List, [], ◌∷◌, ◌++◌}
use Rattle.pbs_base.specs.declared.refusal.Span.{Span}
use Rattle.net_core.specs.declared.gate.GateKind.{GateKind}
use Rattle.net_core.specs.declared.gate.GateKind.TheVariants.{Buf, Not}
use Rattle.vlog_text.specs.declared.raw.DeclKind.{DeclKind}
use Rattle.vlog_text.specs.declared.token.Token.{Token}
use Rattle.vlog_text.specs.declared.token.TokenKind.{TokenKind}
use Rattle.vlog_text.specs.declared.token.TokenKind.TheVariants.{Name, Clock, Bit, DeclWord, GateWord, ModuleWord}
use Rattle.vlog_text.specs.declared.token.TokenKind.TheVariants.{EndmoduleWord, AssignWord, AlwaysWord, PosedgeWord}
use Rattle.vlog_text.specs.declared.token.TokenKind.TheVariants.{OpenRound, CloseRound, Comma, Semicolon, Equals, Tilde}
use Rattle.vlog_text.specs.declared.token.TokenKind.TheVariants.{Ampersand, Caret, Bar, At, Arrow}

abbrev pub token : TokenKind → Span → Token
token k at = record { kind = k; span = at }

-- name: any identifier that isn't reserved, `clk` too
pub record NamePhrase : Type 0 where
  pub clock : Bool
  pub at : Span

abbrev pub name_kind : Bool → TokenKind
name_kind true = Clock
name_kind false = Name

abbrev pub name_token : NamePhrase → Token
name_token n = token (name_kind n.clock) n.at

-- operand := name | constant
pub data OperandPhrase : Type 0 where
  Named : (n : NamePhrase) → OperandPhrase
  Constant : (b : Bool) (at : Span) → OperandPhrase

abbrev pub operand_token : OperandPhrase → Token
operand_token (Named n) = name_token n
operand_token (Constant b at) = token (Bit b) at

-- ---- what is assigned

mutual
  -- unit := '~' unit | '(' or ')' | operand
  pub data UnitPhrase : Type 0 where
    Negated : (at : Span) (u : UnitPhrase) → UnitPhrase
    Bracketed : (open_at : Span) (o : OrPhrase) (close_at : Span) → UnitPhrase
    Lone : (p : OperandPhrase) → UnitPhrase

  -- and := unit {{ '&' unit }}
  pub data AndPhrase : Type 0 where
    OneUnit : (u : UnitPhrase) → AndPhrase
    MoreUnits : (a : AndPhrase) (at : Span) (u : UnitPhrase) → AndPhrase

  -- xor := and {{ '^' and }}
  pub data XorPhrase : Type 0 where
    OneAnd : (a : AndPhrase) → XorPhrase
    MoreAnds : (x : XorPhrase) (at : Span) (a : AndPhrase) → XorPhrase

  -- or := xor {{ '|' xor }}
  pub data OrPhrase : Type 0 where
    OneXor : (x : XorPhrase) → OrPhrase
    MoreXors : (o : OrPhrase) (at : Span) (x : XorPhrase) → OrPhrase

abbrev mutual
  pub unit_tokens : UnitPhrase → List Token
  unit_tokens (Negated at u) = token Tilde at ∷ unit_tokens u
  unit_tokens (Bracketed o t c) = token OpenRound o ∷ (or_tokens t ++ token CloseRound c ∷ [])
  unit_tokens (Lone p) = operand_token p ∷ []

  pub and_tokens : AndPhrase → List Token
  and_tokens (OneUnit u) = unit_tokens u
  and_tokens (MoreUnits a at u) = and_tokens a ++ token Ampersand at ∷ unit_tokens u

  pub xor_tokens : XorPhrase → List Token
  xor_tokens (OneAnd a) = and_tokens a
  xor_tokens (MoreAnds x at a) = xor_tokens x ++ token Caret at ∷ and_tokens a

  pub or_tokens : OrPhrase → List Token
  or_tokens (OneXor x) = xor_tokens x
  or_tokens (MoreXors o at x) = or_tokens o ++ token Bar at ∷ xor_tokens x

-- how deep `(` and `~` nest
abbrev mutual
  pub unit_depth : UnitPhrase → ℕ
  unit_depth (Negated at u) = suc (unit_depth u)
  unit_depth (Bracketed o t c) = suc (or_depth t)
  unit_depth (Lone p) = zero

  pub and_depth : AndPhrase → ℕ
  and_depth (OneUnit u) = unit_depth u
  and_depth (MoreUnits a at u) = max (and_depth a) (unit_depth u)

  pub xor_depth : XorPhrase → ℕ
  xor_depth (OneAnd a) = and_depth a
  xor_depth (MoreAnds x at a) = max (xor_depth x) (and_depth a)

  pub or_depth : OrPhrase → ℕ
  or_depth (OneXor x) = xor_depth x
  or_depth (MoreXors o at x) = max (or_depth o) (xor_depth x)

-- ---- items

-- name {{ ',' name }}
pub data NamesPhrase : Type 0 where
  OneName : (n : NamePhrase) → NamesPhrase
  MoreNames : (ns : NamesPhrase) (comma_at : Span) (n : NamePhrase) → NamesPhrase

-- operand {{ ',' operand }}
pub data OperandsPhrase : Type 0 where
  OneOperand : (p : OperandPhrase) → OperandsPhrase
  MoreOperands : (ps : OperandsPhrase) (comma_at : Span) (p : OperandPhrase) → OperandsPhrase

-- [[ name ]]: the name of an instance, which means nothing
pub data InstancePhrase : Type 0 where
  Unnamed : InstancePhrase
  Instance : (n : NamePhrase) → InstancePhrase

-- the gates of one pin
abbrev pub is_single : GateKind → Bool
is_single Buf = true
is_single Not = true
is_single _ = false

-- item := ( 'input' | 'output' | 'wire' | 'reg' ) name {{ ',' name }} ';'
--       | many [[ name ]] '(' name ',' operand {{ ',' operand }} ')' ';'
--       | ( 'not' | 'buf' ) [[ name ]] '(' name ',' operand ')' ';'
--       | 'assign' name '=' or ';'
--       | 'always' '@' '(' 'posedge' 'clk' ')' name '<=' operand ';'
-- many := 'and' | 'or' | 'nand' | 'nor' | 'xor' | 'xnor'
pub data ItemPhrase : Type 0 where
  Declare : (kind : DeclKind) (at : Span) (ns : NamesPhrase) (end_at : Span) → ItemPhrase
  ManyGate : (kind : GateKind) (many : IsTrue (not (is_single kind))) (at : Span) (i : InstancePhrase) (open_at : Span)
      (target : NamePhrase) (comma_at : Span) (ps : OperandsPhrase) (close_at end_at : Span) → ItemPhrase
  SingleGate : (kind : GateKind) (single : IsTrue (is_single kind)) (at : Span) (i : InstancePhrase) (open_at : Span)
      (target : NamePhrase) (comma_at : Span) (p : OperandPhrase) (close_at end_at : Span) → ItemPhrase
  Assign : (at : Span) (target : NamePhrase) (equals_at : Span) (o : OrPhrase) (end_at : Span) → ItemPhrase
  Always : (at at_at open_at posedge_at clock_at close_at : Span) (target : NamePhrase) (arrow_at : Span)
      (p : OperandPhrase) (end_at : Span) → ItemPhrase

-- {{ item }}
pub data ItemsPhrase : Type 0 where
  NoItems : ItemsPhrase
  MoreItems : (is : ItemsPhrase) (i : ItemPhrase) → ItemsPhrase

-- netlist := 'module' name '(' name {{ ',' name }} ')' ';' {{ item }} 'endmodule' end-of-text
pub record TextPhrase : Type 0 where
  pub module_at : Span
  pub name : NamePhrase
  pub open_at : Span
  pub ports : NamesPhrase
  pub close_at : Span
  pub start_at : Span
  pub items : ItemsPhrase
  pub end_at : Span

abbrev pub names_tokens : NamesPhrase → List Token
names_tokens (OneName n) = name_token n ∷ []
names_tokens (MoreNames ns c n) = names_tokens ns ++ token Comma c ∷ name_token n ∷ []

abbrev pub operands_tokens : OperandsPhrase → List Token
operands_tokens (OneOperand p) = operand_token p ∷ []
operands_tokens (MoreOperands ps c p) = operands_tokens ps ++ token Comma c ∷ operand_token p ∷ []

abbrev pub instance_tokens : InstancePhrase → List Token
instance_tokens Unnamed = []
instance_tokens (Instance n) = name_token n ∷ []

-- the tokens of a gate with these pins
abbrev pub gate_tokens : GateKind → Span → InstancePhrase → Span → NamePhrase → Span → List Token → Span → Span
    → List Token
gate_tokens k at i o target c pins close end =
    token (GateWord k) at ∷ (instance_tokens i ++ token OpenRound o ∷ name_token target ∷ token Comma c ∷
    (pins ++ token CloseRound close ∷ token Semicolon end ∷ []))

abbrev pub item_tokens : ItemPhrase → List Token
item_tokens (Declare k at ns end) = token (DeclWord k) at ∷ (names_tokens ns ++ token Semicolon end ∷ [])
item_tokens (ManyGate k many at i o t c ps close end) = gate_tokens k at i o t c (operands_tokens ps) close end
item_tokens (SingleGate k single at i o t c p close end) = gate_tokens k at i o t c (operand_token p ∷ []) close end
item_tokens (Assign at t q o end) =
    token AssignWord at ∷ name_token t ∷ token Equals q ∷ (or_tokens o ++ token Semicolon end ∷ [])
item_tokens (Always at a o p ck c t arrow pin end) =
    token AlwaysWord at ∷ token At a ∷ token OpenRound o ∷ token PosedgeWord p ∷ token Clock ck ∷ token CloseRound c ∷
    name_token t ∷ token Arrow arrow ∷ operand_token pin ∷ token Semicolon end ∷ []

abbrev pub items_tokens : ItemsPhrase → List Token
items_tokens NoItems = []
items_tokens (MoreItems is i) = items_tokens is ++ item_tokens i

abbrev pub text_tokens : TextPhrase → List Token
text_tokens p =
    token ModuleWord p.module_at ∷ name_token p.name ∷ token OpenRound p.open_at ∷
    (names_tokens p.ports ++ token CloseRound p.close_at ∷ token Semicolon p.start_at ∷
    (items_tokens p.items ++ token EndmoduleWord p.end_at ∷ []))

abbrev pub item_depth : ItemPhrase → ℕ
item_depth (Assign at t q o end) = or_depth o
item_depth _ = zero

abbrev pub items_depth : ItemsPhrase → ℕ
items_depth NoItems = zero
items_depth (MoreItems is i) = max (items_depth is) (item_depth i)

-- the tokens are a text of the grammar in which nothing nests deeper than 64
pub record IsText (ts : List Token) (p : TextPhrase) : Type 0 where
  pub tokens : text_tokens p ≡ ts
  pub shallow : items_depth p.items ≤ 64

-- some such text begins with these tokens
pub record Begins (ts : List Token) : Type 0 where
  pub rest : List Token
  pub phrase : TextPhrase
  pub is : IsText (ts ++ rest) phrase
