-- Going over a text: reserved words in parts, signs of one byte, and what was found before.
use Rattle.std.specs.Prelude.{ℕ, ◌≤◌, ◌<◌, ◌==◌, if◌then◌else◌, List, [], ◌∷◌, ◌++◌, codes, Result, Ok, Err}
use Rattle.pbs_base.specs.declared.refusal.Span.{Span}
use Rattle.net_core.specs.declared.gate.GateKind.TheVariants.{Buf, Not, And, Or, Nand, Nor, Xor, Xnor}
use Rattle.vlog_text.specs.declared.raw.DeclKind.TheVariants.{Input, Output, Wire, Reg}
use Rattle.vlog_text.specs.declared.token.Token.{Token}
use Rattle.vlog_text.specs.declared.token.TokenKind.{TokenKind}
use Rattle.vlog_text.specs.declared.token.TokenKind.TheVariants as kind
use Rattle.vlog_text.specs.declared.token.Piece.{Piece}
use Rattle.vlog_text.specs.declared.token.Piece.TheVariants.{Gap, Whole, Fault}

-- the reserved words from `xor` on, and `clk`
abbrev pub odd_gates : List (List ℕ × TokenKind)
odd_gates =
    (codes "xor", kind.GateWord Xor) ∷ (codes "xnor", kind.GateWord Xnor)
    ∷ (codes "not", kind.GateWord Not) ∷ (codes "buf", kind.GateWord Buf) ∷ (codes "clk", kind.Clock) ∷ []

-- those from `and` on
abbrev pub gates : List (List ℕ × TokenKind)
gates =
    (codes "and", kind.GateWord And) ∷ (codes "or", kind.GateWord Or) ∷ (codes "nand", kind.GateWord Nand)
    ∷ (codes "nor", kind.GateWord Nor) ∷ odd_gates

-- those from `assign` on
abbrev pub driving : List (List ℕ × TokenKind)
driving =
    (codes "assign", kind.AssignWord) ∷ (codes "always", kind.AlwaysWord) ∷ (codes "posedge", kind.PosedgeWord) ∷ gates

-- those from `input` on
abbrev pub declaring : List (List ℕ × TokenKind)
declaring =
    (codes "input", kind.DeclWord Input) ∷ (codes "output", kind.DeclWord Output)
    ∷ (codes "wire", kind.DeclWord Wire) ∷ (codes "reg", kind.DeclWord Reg) ∷ driving

-- a sign of one byte
abbrev pub mark_piece : ℕ → Piece
mark_piece b =
    if b == 40 then Whole kind.OpenRound 1
    else if b == 41 then Whole kind.CloseRound 1
    else if b == 44 then Whole kind.Comma 1
    else if b == 59 then Whole kind.Semicolon 1
    else if b == 61 then Whole kind.Equals 1
    else if b == 126 then Whole kind.Tilde 1
    else if b == 38 then Whole kind.Ampersand 1
    else if b == 94 then Whole kind.Caret 1
    else if b == 124 then Whole kind.Bar 1
    else if b == 64 then Whole kind.At 1
    else Fault 1

-- tokens that were found before
abbrev pub with_front : List Token → Result (List Token) Span → Result (List Token) Span
with_front front (Ok ts) = Ok (front ++ ts)
with_front front (Err at) = Err at

-- a piece has at least one byte, and no more than there are
abbrev pub IsWithin : ℕ → Piece → Type 0
IsWithin len (Gap n) = (0 < n) × (n ≤ len)
IsWithin len (Whole k n) = (0 < n) × (n ≤ len)
IsWithin len (Fault n) = (0 < n) × (n ≤ len)
