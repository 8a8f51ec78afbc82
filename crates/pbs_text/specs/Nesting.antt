-- What is open behind tokens: each `(` that isn't closed, and each `~` whose operand hasn't ended.
use Rattle.std.specs.Prelude.{List, [], ◌∷◌, drop}
use Rattle.pbs_text.specs.declared.token.Token.{Token}
use Rattle.pbs_text.specs.declared.token.TokenKind.{TokenKind}
use Rattle.pbs_text.specs.declared.token.TokenKind.TheVariants.{Name, Zero, One, Two, Digit, Number, OpenRound}
use Rattle.pbs_text.specs.declared.token.TokenKind.TheVariants.{CloseRound, Tilde}

pub data Opened : Type 0 where
  Round : Opened
  Waiting : Opened

-- an operand ends: no `~` before it waits any more, up to the last `(`
abbrev pub closed : List Opened → List Opened
closed [] = []
closed (Waiting ∷ s) = closed s
closed (Round ∷ s) = Round ∷ s

-- what is open behind a token: a name, a number and what ends with a `)` are operands
abbrev pub behind : TokenKind → List Opened → List Opened
behind Tilde s = Waiting ∷ s
behind OpenRound s = Round ∷ s
behind CloseRound s = closed (drop 1 s)
behind Name s = closed s
behind Zero s = closed s
behind One s = closed s
behind Two s = closed s
behind (Digit n) s = closed s
behind (Number n) s = closed s
behind _ s = s

-- what is open behind tokens, where this was open before them
abbrev pub opened_from : List Opened → List Token → List Opened
opened_from s [] = s
opened_from s (t ∷ ts) = opened_from (behind t.kind s) ts

-- what is open behind the first tokens of a text, the last opened first
abbrev pub opened : List Token → List Opened
opened ts = opened_from [] ts
