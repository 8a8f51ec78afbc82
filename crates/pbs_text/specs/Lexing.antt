-- Tokens from bytes: at each place the longest piece that begins there.
use Rattle.std.specs.Prelude.{ℕ, zero, suc, ◌+◌, ◌-◌, ◌*◌, ◌<◌, ◌≤◌, Bool, false, not, ◌&&◌, ◌||◌, ◌==◌, nat_lt, nat_le}
use Rattle.std.specs.Prelude.{if◌then◌else◌, List, [], ◌∷◌, length, take, codes, Option, Some, None, option_map}
use Rattle.std.specs.Prelude.{Result, Ok, Err}
use Rattle.std.specs.List.{prefix_len}
use Rattle.std.specs.Str.{bytes_eq}
use Rattle.pbs_base.specs.declared.refusal.Span.{Span}
use Rattle.pbs_text.specs.declared.token.Token.{Token}
use Rattle.pbs_text.specs.declared.token.TokenKind.{TokenKind}
use Rattle.pbs_text.specs.declared.token.TokenKind.TheVariants as kind
use Rattle.pbs_text.specs.declared.token.Piece.{Piece}
use Rattle.pbs_text.specs.declared.token.Piece.TheVariants.{Gap, Whole, Fault}
use Rattle.pbs_text.specs.Grammar.{token}

abbrev pub is_space : ℕ → Bool
is_space b = b == 9 || b == 10 || b == 13 || b == 32

abbrev pub is_digit : ℕ → Bool
is_digit b = nat_le 48 b && nat_le b 57

abbrev pub is_letter : ℕ → Bool
is_letter b = nat_le 97 b && nat_le b 122 || nat_le 65 b && nat_le b 90 || b == 95

abbrev pub is_word_byte : ℕ → Bool
is_word_byte b = is_letter b || is_digit b

-- the kind of a word that isn't the name of a thing
abbrev pub late_kind : List ℕ → TokenKind
late_kind w =
    if bytes_eq w (codes "main") then kind.MainWord
    else if bytes_eq w (codes "hold") then kind.HoldWord
    else if bytes_eq w (codes "try") then kind.TryWord
    else if bytes_eq w (codes "abort") then kind.AbortWord
    else if bytes_eq w (codes "then") then kind.ThenWord
    else kind.Name

-- a name is a word that isn't reserved
abbrev pub word_kind : List ℕ → TokenKind
word_kind w =
    if bytes_eq w (codes "spec") then kind.SpecWord
    else if bytes_eq w (codes "input") then kind.InputWord
    else if bytes_eq w (codes "action") then kind.ActionWord
    else if bytes_eq w (codes "level") then kind.LevelWord
    else if bytes_eq w (codes "prod") then kind.ProdWord
    else late_kind w

-- the number that digits stand for, behind those that stand for n
abbrev pub decimal_from : ℕ → List ℕ → ℕ
decimal_from n [] = n
decimal_from n (b ∷ bs) = decimal_from (n * 10 + (b - 48)) bs

abbrev pub digit_kind : ℕ → TokenKind
digit_kind d =
    if d == 0 then kind.Zero
    else if d == 1 then kind.One
    else if d == 2 then kind.Two
    else if nat_lt d 9 then kind.Digit d
    else kind.Number d

abbrev pub number_kind : List ℕ → TokenKind
number_kind [] = kind.Number 0
number_kind (b ∷ []) = digit_kind (b - 48)
number_kind bs = kind.Number (decimal_from 0 bs)

-- a bracket
abbrev pub bracket_piece : ℕ → Piece
bracket_piece b =
    if b == 40 then Whole kind.OpenRound 1
    else if b == 41 then Whole kind.CloseRound 1
    else if b == 91 then Whole kind.OpenSquare 1
    else if b == 93 then Whole kind.CloseSquare 1
    else if b == 123 then Whole kind.OpenCurly 1
    else if b == 125 then Whole kind.CloseCurly 1
    else Fault 1

-- a sign of one byte
abbrev pub sign_piece : ℕ → Piece
sign_piece b =
    if b == 59 then Whole kind.Semicolon 1
    else if b == 44 then Whole kind.Comma 1
    else if b == 61 then Whole kind.Equals 1
    else if b == 124 then Whole kind.Bar 1
    else if b == 42 then Whole kind.Star 1
    else if b == 43 then Whole kind.Plus 1
    else if b == 63 then Whole kind.Question 1
    else if b == 126 then Whole kind.Tilde 1
    else if b == 38 then Whole kind.Ampersand 1
    else if b == 58 then Whole kind.Colon 1
    else bracket_piece b

-- a word or number of n bytes, of which at most `most` are allowed
abbrev pub limited : ℕ → TokenKind → ℕ → Piece
limited most k n = if nat_lt most n then Fault n else Whole k n

abbrev pub starts_slash : List ℕ → Bool
starts_slash [] = false
starts_slash (b ∷ bs) = b == 47

-- how many bytes there are up to the end of the next `*/`
unfoldable pub block_end : List ℕ → Option ℕ
block_end [] = None
block_end (b ∷ bs) = if b == 42 && starts_slash bs then Some 2 else option_map suc (block_end bs)

abbrev pub block_piece : ℕ → Option ℕ → Piece
block_piece rest (Some n) = Gap (n + 2)
block_piece rest None = Fault (rest + 2)

abbrev pub is_not_newline : ℕ → Bool
is_not_newline b = not (b == 10)

-- what begins with a `/`: a comment up to the next newline or the text's end, or one up to the next `*/`
abbrev pub slash_piece : List ℕ → Piece
slash_piece [] = Fault 1
slash_piece (b ∷ bs) =
    if b == 47 then Gap (prefix_len is_not_newline bs + 2)
    else if b == 42 then block_piece (length bs) (block_end bs)
    else Fault 1

-- the longest word, and the longest number
abbrev pub word_piece : List ℕ → Piece
word_piece bs = let n = prefix_len is_word_byte bs in limited 64 (word_kind (take n bs)) n

abbrev pub number_piece : List ℕ → Piece
number_piece bs = let n = prefix_len is_digit bs in limited 9 (number_kind (take n bs)) n

-- the piece that begins with these bytes
abbrev pub first_piece : List ℕ → Piece
first_piece [] = Gap 0
first_piece (b ∷ bs) =
    if is_space b then Gap 1
    else if is_letter b then word_piece (b ∷ bs)
    else if is_digit b then number_piece (b ∷ bs)
    else if b == 47 then slash_piece bs
    else sign_piece b

abbrev pub with_token : Token → Result (List Token) Span → Result (List Token) Span
with_token t (Ok ts) = Ok (t ∷ ts)
with_token t (Err at) = Err at

-- a piece at a place, and what the bytes behind it give
abbrev pub with_piece : ℕ → Piece → (ℕ → Result (List Token) Span) → Result (List Token) Span
with_piece at (Gap n) behind = behind n
with_piece at (Whole k n) behind = with_token (token k (record { start = at; end = at + n })) (behind n)
with_piece at (Fault n) behind = Err (record { start = at; end = at + n })

-- the tokens of the bytes from a place on, the first `skip` of which are passed over; or the first fault
unfoldable pub lex : ℕ → ℕ → List ℕ → Result (List Token) Span
lex skip at [] = Ok []
lex zero at (b ∷ bs) = with_piece at (first_piece (b ∷ bs)) (λ n. lex (n - 1) (at + 1) bs)
lex (suc skip) at (b ∷ bs) = lex skip (at + 1) bs

-- the tokens of a text, or the span of the first place that breaks rule 2
abbrev pub tokens : List ℕ → Result (List Token) Span
tokens bytes = lex 0 0 bytes

-- a piece has at least one byte, and no more than there are
abbrev pub IsWithin : ℕ → Piece → Type 0
IsWithin len (Gap n) = (0 < n) × (n ≤ len)
IsWithin len (Whole k n) = (0 < n) × (n ≤ len)
IsWithin len (Fault n) = (0 < n) × (n ≤ len)
