-- The grammar: phrases with the spans of their tokens, and the tokens that they are. `two` says whether the phrase is
-- of
-- version 2 of the language; the alternatives of version 2 alone are marked (2).
use Rattle.std.specs.Prelude.{◌≡◌, ℕ, Bool, true, false, List, [], ◌∷◌, ◌++◌}
use Rattle.pbs_base.specs.declared.refusal.Span.{Span}
use Rattle.pbs_text.specs.declared.token.Token.{Token}
use Rattle.pbs_text.specs.declared.token.Operator.{Operator}
use Rattle.pbs_text.specs.declared.token.Operator.TheVariants.{StarOp, PlusOp, OptOp}
use Rattle.pbs_text.specs.declared.token.TokenKind.{TokenKind}
use Rattle.pbs_text.specs.declared.token.TokenKind.TheVariants.{Name, Zero, One, Two, Digit, Number, SpecWord}
use Rattle.pbs_text.specs.declared.token.TokenKind.TheVariants.{InputWord, ActionWord, LevelWord, ProdWord, MainWord}
use Rattle.pbs_text.specs.declared.token.TokenKind.TheVariants.{HoldWord, TryWord, AbortWord, ThenWord, Semicolon}
use Rattle.pbs_text.specs.declared.token.TokenKind.TheVariants.{Comma, Equals, OpenCurly, CloseCurly, OpenRound}
use Rattle.pbs_text.specs.declared.token.TokenKind.TheVariants.{CloseRound, OpenSquare, CloseSquare, Bar, Star, Plus}
use Rattle.pbs_text.specs.declared.token.TokenKind.TheVariants.{Question, Tilde, Ampersand, Colon}

abbrev pub token : TokenKind → Span → Token
token k at = record { kind = k; span = at }

-- the version is 2
abbrev pub Second : Bool → Type 0
Second true = Unit {0}
Second false = ⊥

-- bit := '0' | '1'
abbrev pub bit_kind : Bool → TokenKind
bit_kind false = Zero
bit_kind true = One

abbrev pub version_kind : Bool → TokenKind
version_kind false = One
version_kind true = Two

-- number: any number token
pub data Numeral : Type 0 where
  ZeroNumeral : Numeral
  OneNumeral : Numeral
  TwoNumeral : Numeral
  DigitNumeral : (n : ℕ) → Numeral
  LongNumeral : (n : ℕ) → Numeral

abbrev pub numeral_kind : Numeral → TokenKind
numeral_kind ZeroNumeral = Zero
numeral_kind OneNumeral = One
numeral_kind TwoNumeral = Two
numeral_kind (DigitNumeral n) = Digit n
numeral_kind (LongNumeral n) = Number n

-- width := '1' | '2' | '3' | '4' | '5' | '6' | '7' | '8'
pub data Width : Type 0 where
  OneBit : Width
  TwoBits : Width
  MoreBits : (n : ℕ) → Width

abbrev pub width_kind : Width → TokenKind
width_kind OneBit = One
width_kind TwoBits = Two
width_kind (MoreBits n) = Digit n

-- the operators behind an item
abbrev pub operator_kind : Operator → TokenKind
operator_kind StarOp = Star
operator_kind PlusOp = Plus
operator_kind OptOp = Question

-- ---- terms

mutual
  -- unit := '~' unit | '(' term ')' | name | bit
  --       | name '=' number                                                     (2)
  pub data UnitPhrase (two : Bool) : Type 0 where
    Negated : (at : Span) (u : UnitPhrase two) → UnitPhrase two
    Bracketed : (open_at : Span) (t : TermPhrase two) (close_at : Span) → UnitPhrase two
    Named : (at : Span) → UnitPhrase two
    Bit : (b : Bool) (at : Span) → UnitPhrase two
    Compared : (second : Second two) (at equals_at : Span) (n : Numeral) (number_at : Span) → UnitPhrase two

  -- all := unit {{ '&' unit }}
  pub data AllPhrase (two : Bool) : Type 0 where
    OneUnit : (u : UnitPhrase two) → AllPhrase two
    MoreUnits : (a : AllPhrase two) (at : Span) (u : UnitPhrase two) → AllPhrase two

  -- term := all {{ '|' all }}
  pub data TermPhrase (two : Bool) : Type 0 where
    OneAll : (a : AllPhrase two) → TermPhrase two
    MoreAlls : (t : TermPhrase two) (at : Span) (a : AllPhrase two) → TermPhrase two

abbrev mutual
  pub unit_tokens : {two : Bool} → UnitPhrase two → List Token
  unit_tokens (Negated at u) = token Tilde at ∷ unit_tokens u
  unit_tokens (Bracketed o t c) = token OpenRound o ∷ (term_tokens t ++ token CloseRound c ∷ [])
  unit_tokens (Named at) = token Name at ∷ []
  unit_tokens (Bit b at) = token (bit_kind b) at ∷ []
  unit_tokens (Compared s at e n to) = token Name at ∷ token Equals e ∷ token (numeral_kind n) to ∷ []

  pub all_tokens : {two : Bool} → AllPhrase two → List Token
  all_tokens (OneUnit u) = unit_tokens u
  all_tokens (MoreUnits a at u) = all_tokens a ++ token Ampersand at ∷ unit_tokens u

  pub term_tokens : {two : Bool} → TermPhrase two → List Token
  term_tokens (OneAll a) = all_tokens a
  term_tokens (MoreAlls t at a) = term_tokens t ++ token Bar at ∷ all_tokens a

-- ---- expressions

mutual
  -- expr := seq {{ '|' seq }}
  pub data ExprPhrase (two : Bool) : Type 0 where
    OneSeq : (s : SeqPhrase two) → ExprPhrase two
    MoreSeqs : (e : ExprPhrase two) (at : Span) (s : SeqPhrase two) → ExprPhrase two

  -- seq := item {{ ',' item }}
  pub data SeqPhrase (two : Bool) : Type 0 where
    OneItem : (i : ItemPhrase two) → SeqPhrase two
    MoreItems : (s : SeqPhrase two) (at : Span) (i : ItemPhrase two) → SeqPhrase two

  -- item := prim [[ '*' | '+' | '?' ]]
  --       | prim '{' number ',' number '}'                                      (2)
  pub data ItemPhrase (two : Bool) : Type 0 where
    Plain : (p : PrimPhrase two) → ItemPhrase two
    Repeated : (p : PrimPhrase two) (op : Operator) (at : Span) → ItemPhrase two
    Counted : (second : Second two) (p : PrimPhrase two) (open_at : Span) (m : Numeral) (least_at comma_at : Span)
        (n : Numeral) (most_at close_at : Span) → ItemPhrase two

  -- prim := '[' term ']' | '{' name '}' | name | group
  --       | 'hold' '[' term ']' ':' group
  --       | 'try' group 'abort' group 'then' group
  pub data PrimPhrase (two : Bool) : Type 0 where
    Terminal : (open_at : Span) (t : TermPhrase two) (close_at : Span) → PrimPhrase two
    Action : (open_at name_at close_at : Span) → PrimPhrase two
    Call : (at : Span) → PrimPhrase two
    Grouped : (g : GroupPhrase two) → PrimPhrase two
    Hold : (at open_at : Span) (t : TermPhrase two) (close_at colon_at : Span) (g : GroupPhrase two) → PrimPhrase two
    Try : (at : Span) (body : GroupPhrase two) (abort_at : Span) (trap : GroupPhrase two) (then_at : Span)
        (after : GroupPhrase two) → PrimPhrase two

  -- group := '(' [[ expr ]] ')'
  pub data GroupPhrase (two : Bool) : Type 0 where
    EmptyGroup : (open_at close_at : Span) → GroupPhrase two
    FullGroup : (open_at : Span) (e : ExprPhrase two) (close_at : Span) → GroupPhrase two

abbrev mutual
  pub expr_tokens : {two : Bool} → ExprPhrase two → List Token
  expr_tokens (OneSeq s) = seq_tokens s
  expr_tokens (MoreSeqs e at s) = expr_tokens e ++ token Bar at ∷ seq_tokens s

  pub seq_tokens : {two : Bool} → SeqPhrase two → List Token
  seq_tokens (OneItem i) = item_tokens i
  seq_tokens (MoreItems s at i) = seq_tokens s ++ token Comma at ∷ item_tokens i

  pub item_tokens : {two : Bool} → ItemPhrase two → List Token
  item_tokens (Plain p) = prim_tokens p
  item_tokens (Repeated p op at) = prim_tokens p ++ token (operator_kind op) at ∷ []
  item_tokens (Counted s p o m a c n b close) =
      prim_tokens p ++ token OpenCurly o ∷ token (numeral_kind m) a ∷ token Comma c ∷ token
      (numeral_kind n) b ∷ token CloseCurly close ∷ []

  pub prim_tokens : {two : Bool} → PrimPhrase two → List Token
  prim_tokens (Terminal o t c) = token OpenSquare o ∷ (term_tokens t ++ token CloseSquare c ∷ [])
  prim_tokens (Action o n c) = token OpenCurly o ∷ token Name n ∷ token CloseCurly c ∷ []
  prim_tokens (Call at) = token Name at ∷ []
  prim_tokens (Grouped g) = group_tokens g
  prim_tokens (Hold at o t c colon g) =
      token HoldWord at ∷ token OpenSquare o ∷ (term_tokens t ++ token CloseSquare c ∷ token Colon colon ∷
      group_tokens g)
  prim_tokens (Try at body a trap th after) =
      token TryWord at ∷ (group_tokens body ++ token AbortWord a ∷
      (group_tokens trap ++ token ThenWord th ∷ group_tokens after))

  pub group_tokens : {two : Bool} → GroupPhrase two → List Token
  group_tokens (EmptyGroup o c) = token OpenRound o ∷ token CloseRound c ∷ []
  group_tokens (FullGroup o e c) = token OpenRound o ∷ (expr_tokens e ++ token CloseRound c ∷ [])

-- ---- declarations

-- input := name
--        | name ':' width                                                       (2)
pub data InputPhrase (two : Bool) : Type 0 where
  OneWire : (at : Span) → InputPhrase two
  Bus : (second : Second two) (at colon_at : Span) (w : Width) (width_at : Span) → InputPhrase two

-- input {{ ',' input }}
pub data InputsPhrase (two : Bool) : Type 0 where
  OneInput : (i : InputPhrase two) → InputsPhrase two
  MoreInputs : (is : InputsPhrase two) (at : Span) (i : InputPhrase two) → InputsPhrase two

-- name {{ ',' name }}
pub data NamesPhrase : Type 0 where
  OneName : (at : Span) → NamesPhrase
  MoreNames : (ns : NamesPhrase) (comma_at at : Span) → NamesPhrase

-- {{ name ':' bit ';' }}
pub data SetsPhrase : Type 0 where
  NoSets : SetsPhrase
  MoreSets : (ss : SetsPhrase) (at colon_at : Span) (b : Bool) (bit_at end_at : Span) → SetsPhrase

-- decl := 'input' input {{ ',' input }} ';'
--       | 'action' name {{ ',' name }} ';'
--       | 'level' name '=' bit '{' {{ name ':' bit ';' }} '}'
--       | 'prod' name '=' expr ';'
pub data DeclPhrase (two : Bool) : Type 0 where
  InputDecl : (at : Span) (is : InputsPhrase two) (end_at : Span) → DeclPhrase two
  ActionDecl : (at : Span) (ns : NamesPhrase) (end_at : Span) → DeclPhrase two
  LevelDecl : (at name_at equals_at : Span) (b : Bool) (bit_at open_at : Span) (ss : SetsPhrase) (close_at : Span)
      → DeclPhrase two
  ProdDecl : (at name_at equals_at : Span) (e : ExprPhrase two) (end_at : Span) → DeclPhrase two

-- {{ decl }}
pub data DeclsPhrase (two : Bool) : Type 0 where
  NoDecls : DeclsPhrase two
  MoreDecls : (ds : DeclsPhrase two) (d : DeclPhrase two) → DeclsPhrase two

-- spec := 'spec' '1' ';' body1 | 'spec' '2' ';' body
-- body := {{ decl }} 'main' '=' expr ';' end-of-text
pub record SpecPhrase (two : Bool) : Type 0 where
  pub spec_at : Span
  pub version_at : Span
  pub start_at : Span
  pub decls : DeclsPhrase two
  pub main_at : Span
  pub equals_at : Span
  pub expr : ExprPhrase two
  pub end_at : Span

-- a text of either version
pub data TextPhrase : Type 0 where
  OfVersion : (two : Bool) (spec : SpecPhrase two) → TextPhrase

abbrev pub input_tokens : {two : Bool} → InputPhrase two → List Token
input_tokens (OneWire at) = token Name at ∷ []
input_tokens (Bus s at c w to) = token Name at ∷ token Colon c ∷ token (width_kind w) to ∷ []

abbrev pub inputs_tokens : {two : Bool} → InputsPhrase two → List Token
inputs_tokens (OneInput i) = input_tokens i
inputs_tokens (MoreInputs is at i) = inputs_tokens is ++ token Comma at ∷ input_tokens i

abbrev pub names_tokens : NamesPhrase → List Token
names_tokens (OneName at) = token Name at ∷ []
names_tokens (MoreNames ns c at) = names_tokens ns ++ token Comma c ∷ token Name at ∷ []

abbrev pub sets_tokens : SetsPhrase → List Token
sets_tokens NoSets = []
sets_tokens (MoreSets ss at c b to e) = sets_tokens ss ++ token Name at ∷ token Colon c ∷ token
    (bit_kind b) to ∷ token Semicolon e ∷ []

abbrev pub decl_tokens : {two : Bool} → DeclPhrase two → List Token
decl_tokens (InputDecl at is e) = token InputWord at ∷ (inputs_tokens is ++ token Semicolon e ∷ [])
decl_tokens (ActionDecl at ns e) = token ActionWord at ∷ (names_tokens ns ++ token Semicolon e ∷ [])
decl_tokens (LevelDecl at n q b to o ss c) =
    token LevelWord at ∷ token Name n ∷ token Equals q ∷ token (bit_kind b) to ∷ token OpenCurly o ∷
    (sets_tokens ss ++ token CloseCurly c ∷ [])
decl_tokens (ProdDecl at n q e end) = token ProdWord at ∷ token Name n ∷ token Equals q ∷
    (expr_tokens e ++ token Semicolon end ∷ [])

abbrev pub decls_tokens : {two : Bool} → DeclsPhrase two → List Token
decls_tokens NoDecls = []
decls_tokens (MoreDecls ds d) = decls_tokens ds ++ decl_tokens d

abbrev pub head_tokens : Bool → Span → Span → Span → List Token
head_tokens two a b c = token SpecWord a ∷ token (version_kind two) b ∷ token Semicolon c ∷ []

abbrev pub spec_tokens : {two : Bool} → SpecPhrase two → List Token
spec_tokens {two} p =
    head_tokens two p.spec_at p.version_at p.start_at
    ++ (decls_tokens p.decls ++ token MainWord p.main_at ∷ token Equals p.equals_at ∷
    (expr_tokens p.expr ++ token Semicolon p.end_at ∷ []))

abbrev pub text_tokens : TextPhrase → List Token
text_tokens (OfVersion two p) = spec_tokens p

-- the tokens are a text of the grammar, whatever its nesting
abbrev pub IsText : List Token → Type 0
IsText ts = (p : TextPhrase) × (text_tokens p ≡ ts)

-- some text of the grammar begins with these tokens
abbrev pub Begins : List Token → Type 0
Begins ts = (more : List Token) × IsText (ts ++ more)
