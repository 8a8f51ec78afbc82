-- Tokens from bytes: at each place the longest piece that begins there.
use Rattle.std.specs.Prelude.{ℕ, zero, suc, ◌+◌, ◌-◌, Bool, true, false, not, ◌&&◌, ◌||◌, ◌==◌, nat_lt, nat_le}
use Rattle.std.specs.Prelude.{if◌then◌else◌, List, [], ◌∷◌, length, take, codes, Option, Some, None, option_map, Result}
use Rattle.std.specs.Prelude.{Ok, Err}
use Rattle.std.specs.List.{prefix_len}
use Rattle.std.specs.Str.{bytes_eq}
use Rattle.pbs_base.specs.declared.refusal.Span.{Span}
use Rattle.net_core.specs.declared.gate.GateKind.TheVariants.{Buf, Not, And, Or, Nand, Nor, Xor, Xnor}
use Rattle.vlog_text.specs.declared.raw.DeclKind.TheVariants.{Input, Output, Wire, Reg}
use Rattle.vlog_text.specs.declared.token.Token.{Token}
use Rattle.vlog_text.specs.declared.token.TokenKind.{TokenKind}
use Rattle.vlog_text.specs.declared.token.TokenKind.TheVariants as kind
use Rattle.vlog_text.specs.declared.token.Piece.{Piece}
use Rattle.vlog_text.specs.declared.token.Piece.TheVariants.{Gap, Whole, Fault}
use Rattle.vlog_text.specs.Grammar.{token}

abbrev pub is_space : ℕ → Bool
is_space b = b == 9 || b == 10 || b == 12 || b == 13 || b == 32

abbrev pub is_letter : ℕ → Bool
is_letter b = nat_le 97 b && nat_le b 122 || nat_le 65 b && nat_le b 90 || b == 95

-- a letter, a digit, `_` or `$`
abbrev pub is_name_byte : ℕ → Bool
is_name_byte b = is_letter b || nat_le 48 b && nat_le b 57 || b == 36

-- the reserved words, and `clk`
abbrev pub words : List (List ℕ × TokenKind)
words =
    (codes "module", kind.ModuleWord) ∷ (codes "endmodule", kind.EndmoduleWord)
    ∷ (codes "input", kind.DeclWord Input) ∷ (codes "output", kind.DeclWord Output)
    ∷ (codes "wire", kind.DeclWord Wire) ∷ (codes "reg", kind.DeclWord Reg)
    ∷ (codes "assign", kind.AssignWord) ∷ (codes "always", kind.AlwaysWord) ∷ (codes "posedge", kind.PosedgeWord)
    ∷ (codes "and", kind.GateWord And) ∷ (codes "or", kind.GateWord Or) ∷ (codes "nand", kind.GateWord Nand)
    ∷ (codes "nor", kind.GateWord Nor) ∷ (codes "xor", kind.GateWord Xor) ∷ (codes "xnor", kind.GateWord Xnor)
    ∷ (codes "not", kind.GateWord Not) ∷ (codes "buf", kind.GateWord Buf) ∷ (codes "clk", kind.Clock) ∷ []

abbrev pub kind_in : List (List ℕ × TokenKind) → List ℕ → TokenKind
kind_in [] w = kind.Name
kind_in (x ∷ xs) w = if bytes_eq w x.0 then x.1 else kind_in xs w

-- an identifier, of at most 255 bytes
abbrev pub word_piece : List ℕ → Piece
word_piece bs =
    let n = prefix_len is_name_byte bs in
    if nat_lt 255 n then Fault n else Whole (kind_in words (take n bs)) n

-- `1'b0` or `1'b1`, behind the 1
abbrev pub constant_piece : List ℕ → Piece
constant_piece bs =
    if bytes_eq (take 3 bs) (codes "'b0") then Whole (kind.Bit false) 4
    else if bytes_eq (take 3 bs) (codes "'b1") then Whole (kind.Bit true) 4
    else Fault 1

abbrev pub starts : ℕ → List ℕ → Bool
starts sign [] = false
starts sign (b ∷ bs) = b == sign

-- how many bytes there are up to the end of the next `*/`
unfoldable pub block_end : List ℕ → Option ℕ
block_end [] = None
block_end (b ∷ bs) = if b == 42 && starts 47 bs then Some 2 else option_map suc (block_end bs)

abbrev pub block_piece : ℕ → Option ℕ → Piece
block_piece rest (Some n) = Gap (n + 2)
block_piece rest None = Fault (rest + 2)

-- what begins with a `/`: a comment up to the next newline or the text's end, or one up to the next `*/`
abbrev pub slash_piece : List ℕ → Piece
slash_piece [] = Fault 1
slash_piece (b ∷ bs) =
    if b == 47 then Gap (prefix_len (λ c. not (c == 10)) bs + 2)
    else if b == 42 then block_piece (length bs) (block_end bs)
    else Fault 1

-- a sign: `(`, `)`, `,`, `;`, `=`, `~`, `&`, `^`, `|`, `@` or `<=`
abbrev pub sign_piece : ℕ → List ℕ → Piece
sign_piece b bs =
    if b == 40 then Whole kind.OpenRound 1
    else if b == 41 then Whole kind.CloseRound 1
    else if b == 44 then Whole kind.Comma 1
    else if b == 59 then Whole kind.Semicolon 1
    else if b == 61 then Whole kind.Equals 1
    else if b == 126 then Whole kind.Tilde 1
    else if b == 38 then Whole kind.Ampersand 1
    else if b == 94 then Whole kind.Caret 1
    else if b == 124 then Whole kind.Bar 1
    else if b == 64 then Whole kind.At 1
    else if b == 60 && starts 61 bs then Whole kind.Arrow 2
    else Fault 1

-- the piece that begins with these bytes
abbrev pub first_piece : List ℕ → Piece
first_piece [] = Gap 0
first_piece (b ∷ bs) =
    if is_space b then Gap 1
    else if is_letter b then word_piece (b ∷ bs)
    else if b == 49 then constant_piece bs
    else if b == 47 then slash_piece bs
    else sign_piece b bs

abbrev pub with_token : Token → Result (List Token) Span → Result (List Token) Span
with_token t (Ok ts) = Ok (t ∷ ts)
with_token t (Err at) = Err at

-- a piece at a place, and what the bytes behind it give
abbrev pub with_piece : ℕ → Piece → (ℕ → Result (List Token) Span) → Result (List Token) Span
with_piece at (Gap n) behind = behind n
with_piece at (Whole k n) behind = with_token (token k (record { start = at; end = at + n })) (behind n)
with_piece at (Fault n) behind = Err (record { start = at; end = at + n })

-- the tokens of the bytes from a place on, the first `skip` of which are passed over; or the first fault
unfoldable pub lex : ℕ → ℕ → List ℕ → Result (List Token) Span
lex skip at [] = Ok []
lex zero at (b ∷ bs) = with_piece at (first_piece (b ∷ bs)) (λ n. lex (n - 1) (at + 1) bs)
lex (suc skip) at (b ∷ bs) = lex skip (at + 1) bs

-- the tokens of a text, or the span of the first place that breaks rule 2
abbrev pub tokens : List ℕ → Result (List Token) Span
tokens bytes = lex 0 0 bytes
