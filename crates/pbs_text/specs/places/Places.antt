-- The places of a text between two tokens, each with what stands before it.
use Rattle.std.specs.Prelude.{Bool, List, [], ◌∷◌, ◌++◌}
use Rattle.pbs_base.specs.declared.refusal.Span.{Span}
use Rattle.pbs_text.specs.declared.token.Token.{Token}
use Rattle.pbs_text.specs.declared.token.TokenKind.TheVariants.{Name, SpecWord, InputWord, ActionWord, LevelWord}
use Rattle.pbs_text.specs.declared.token.TokenKind.TheVariants.{ProdWord, MainWord, HoldWord, TryWord, AbortWord, Comma}
use Rattle.pbs_text.specs.declared.token.TokenKind.TheVariants.{Equals, OpenCurly, OpenRound, OpenSquare, CloseSquare}
use Rattle.pbs_text.specs.declared.token.TokenKind.TheVariants.{Colon}
use Rattle.pbs_text.specs.Grammar.{token, Second, bit_kind, version_kind, Numeral, numeral_kind, AllPhrase, TermPhrase}
use Rattle.pbs_text.specs.Grammar.{ItemPhrase, PrimPhrase, GroupPhrase, InputPhrase, InputsPhrase, NamesPhrase}
use Rattle.pbs_text.specs.Grammar.{SetsPhrase, TextPhrase, all_tokens, term_tokens, item_tokens, prim_tokens}
use Rattle.pbs_text.specs.Grammar.{group_tokens, input_tokens, inputs_tokens, names_tokens, sets_tokens, text_tokens}
use Rattle.pbs_text.specs.places.Holes.{Front, ItemHole, GroupHole, AllHole, UnitHole, front_tokens, before_item}
use Rattle.pbs_text.specs.places.Holes.{before_group, before_all, before_unit}

-- ---- where an input, a name or a level's part is wanted

pub data InputHole (two : Bool) : Type 0 where
  FirstInput : (f : Front two) (at : Span) → InputHole two
  NextInput : (f : Front two) (at : Span) (is : InputsPhrase two) (comma_at : Span) → InputHole two

pub data NameHole (two : Bool) : Type 0 where
  FirstName : (f : Front two) (at : Span) → NameHole two
  NextName : (f : Front two) (at : Span) (ns : NamesPhrase) (comma_at : Span) → NameHole two

-- a level up to and with its `{`
pub record LevelFront (two : Bool) : Type 0 where
  pub front : Front two
  pub at : Span
  pub name_at : Span
  pub equals_at : Span
  pub value : Bool
  pub bit_at : Span
  pub open_at : Span

-- ---- a place between two tokens

pub data Place : Type 0 where
  Start : Place
  AfterSpec : (a : Span) → Place
  AfterVersion : (two : Bool) (a b : Span) → Place
  InDecls : {two : Bool} (f : Front two) → Place
  WantsInput : {two : Bool} (h : InputHole two) → Place
  AfterInputName : {two : Bool} (at : Span) (h : InputHole two) → Place
  WantsWidth : {two : Bool} (s : Second two) (at colon_at : Span) (h : InputHole two) → Place
  AfterInput : {two : Bool} (i : InputPhrase two) (h : InputHole two) → Place
  WantsName : {two : Bool} (h : NameHole two) → Place
  AfterName : {two : Bool} (ns : NamesPhrase) (f : Front two) (at : Span) → Place
  AfterLevel : {two : Bool} (f : Front two) (at : Span) → Place
  AfterLevelName : {two : Bool} (f : Front two) (at n : Span) → Place
  AfterLevelEquals : {two : Bool} (f : Front two) (at n q : Span) → Place
  AfterLevelBit : {two : Bool} (f : Front two) (at n q : Span) (b : Bool) (to : Span) → Place
  InLevel : {two : Bool} (l : LevelFront two) (ss : SetsPhrase) → Place
  AfterSetName : {two : Bool} (l : LevelFront two) (ss : SetsPhrase) (at : Span) → Place
  AfterSetColon : {two : Bool} (l : LevelFront two) (ss : SetsPhrase) (at c : Span) → Place
  AfterSetBit : {two : Bool} (l : LevelFront two) (ss : SetsPhrase) (at c : Span) (b : Bool) (to : Span) → Place
  AfterProd : {two : Bool} (f : Front two) (at : Span) → Place
  AfterProdName : {two : Bool} (f : Front two) (at n : Span) → Place
  AfterMain : {two : Bool} (f : Front two) (at : Span) → Place
  WantsItem : {two : Bool} (h : ItemHole two) → Place
  WantsGroup : {two : Bool} (g : GroupHole two) → Place
  InGroup : {two : Bool} (at : Span) (g : GroupHole two) → Place
  InCurly : {two : Bool} (at : Span) (h : ItemHole two) → Place
  AfterActionName : {two : Bool} (at name_at : Span) (h : ItemHole two) → Place
  AfterHold : {two : Bool} (at : Span) (h : ItemHole two) → Place
  AfterGuard : {two : Bool} (at o : Span) (t : TermPhrase two) (c : Span) (h : ItemHole two) → Place
  AfterBody : {two : Bool} (at : Span) (body : GroupPhrase two) (h : ItemHole two) → Place
  AfterTrap : {two : Bool} (at : Span) (body : GroupPhrase two) (abort_at : Span) (trap : GroupPhrase two)
      (h : ItemHole two) → Place
  AfterPrim : {two : Bool} (p : PrimPhrase two) (h : ItemHole two) → Place
  WantsLeast : {two : Bool} (s : Second two) (p : PrimPhrase two) (o : Span) (h : ItemHole two) → Place
  AfterLeast : {two : Bool} (s : Second two) (p : PrimPhrase two) (o : Span) (m : Numeral) (a : Span) (h : ItemHole two)
      → Place
  WantsMost : {two : Bool} (s : Second two) (p : PrimPhrase two) (o : Span) (m : Numeral) (a c : Span)
      (h : ItemHole two) → Place
  AfterMost : {two : Bool} (s : Second two) (p : PrimPhrase two) (o : Span) (m : Numeral) (a c : Span) (n : Numeral)
      (b : Span) (h : ItemHole two) → Place
  AfterItem : {two : Bool} (i : ItemPhrase two) (h : ItemHole two) → Place
  WantsUnit : {two : Bool} (h : UnitHole two) → Place
  AfterUnitName : {two : Bool} (at : Span) (h : UnitHole two) → Place
  WantsNumber : {two : Bool} (s : Second two) (at equals_at : Span) (h : UnitHole two) → Place
  AfterUnit : {two : Bool} (a : AllPhrase two) (h : AllHole two) → Place
  Whole : (p : TextPhrase) → Place

-- ---- the tokens before a place

abbrev pub before_input : {two : Bool} → InputHole two → List Token
before_input (FirstInput f at) = front_tokens f ++ token InputWord at ∷ []
before_input (NextInput f at is c) = front_tokens f ++ token InputWord at ∷ (inputs_tokens is ++ token Comma c ∷ [])

abbrev pub before_name : {two : Bool} → NameHole two → List Token
before_name (FirstName f at) = front_tokens f ++ token ActionWord at ∷ []
before_name (NextName f at ns c) = front_tokens f ++ token ActionWord at ∷ (names_tokens ns ++ token Comma c ∷ [])

abbrev pub level_tokens : {two : Bool} → LevelFront two → List Token
level_tokens l =
    front_tokens l.front ++ token LevelWord l.at ∷ token Name l.name_at ∷ token Equals l.equals_at ∷ token
    (bit_kind l.value) l.bit_at ∷ token OpenCurly l.open_at ∷ []

abbrev pub before : Place → List Token
before Start = []
before (AfterSpec a) = token SpecWord a ∷ []
before (AfterVersion two a b) = token SpecWord a ∷ token (version_kind two) b ∷ []
before (InDecls f) = front_tokens f
before (WantsInput h) = before_input h
before (AfterInputName at h) = before_input h ++ token Name at ∷ []
before (WantsWidth s at c h) = before_input h ++ token Name at ∷ token Colon c ∷ []
before (AfterInput i h) = before_input h ++ input_tokens i
before (WantsName h) = before_name h
before (AfterName ns f at) = front_tokens f ++ token ActionWord at ∷ names_tokens ns
before (AfterLevel f at) = front_tokens f ++ token LevelWord at ∷ []
before (AfterLevelName f at n) = front_tokens f ++ token LevelWord at ∷ token Name n ∷ []
before (AfterLevelEquals f at n q) = front_tokens f ++ token LevelWord at ∷ token Name n ∷ token Equals q ∷ []
before (AfterLevelBit f at n q b to) = front_tokens f ++ token LevelWord at ∷ token Name n ∷ token Equals q ∷ token
    (bit_kind b) to ∷ []
before (InLevel l ss) = level_tokens l ++ sets_tokens ss
before (AfterSetName l ss at) = level_tokens l ++ (sets_tokens ss ++ token Name at ∷ [])
before (AfterSetColon l ss at c) = level_tokens l ++ (sets_tokens ss ++ token Name at ∷ token Colon c ∷ [])
before (AfterSetBit l ss at c b to) = level_tokens l ++ (sets_tokens ss ++ token Name at ∷ token Colon c ∷ token
    (bit_kind b) to ∷ [])
before (AfterProd f at) = front_tokens f ++ token ProdWord at ∷ []
before (AfterProdName f at n) = front_tokens f ++ token ProdWord at ∷ token Name n ∷ []
before (AfterMain f at) = front_tokens f ++ token MainWord at ∷ []
before (WantsItem h) = before_item h
before (WantsGroup g) = before_group g
before (InGroup at g) = before_group g ++ token OpenRound at ∷ []
before (InCurly at h) = before_item h ++ token OpenCurly at ∷ []
before (AfterActionName at n h) = before_item h ++ token OpenCurly at ∷ token Name n ∷ []
before (AfterHold at h) = before_item h ++ token HoldWord at ∷ []
before (AfterGuard at o t c h) = before_item h ++ token HoldWord at ∷ token OpenSquare o ∷
    (term_tokens t ++ token CloseSquare c ∷ [])
before (AfterBody at body h) = before_item h ++ token TryWord at ∷ group_tokens body
before (AfterTrap at body a trap h) = before_item h ++ token TryWord at ∷
    (group_tokens body ++ token AbortWord a ∷ group_tokens trap)
before (AfterPrim p h) = before_item h ++ prim_tokens p
before (WantsLeast s p o h) = before_item h ++ (prim_tokens p ++ token OpenCurly o ∷ [])
before (AfterLeast s p o m a h) = before_item h ++ (prim_tokens p ++ token OpenCurly o ∷ token (numeral_kind m) a ∷ [])
before (WantsMost s p o m a c h) = before_item h ++ (prim_tokens p ++ token OpenCurly o ∷ token
    (numeral_kind m) a ∷ token Comma c ∷ [])
before (AfterMost s p o m a c n b h) =
    before_item h ++ (prim_tokens p ++ token OpenCurly o ∷ token (numeral_kind m) a ∷ token Comma c ∷ token
    (numeral_kind n) b ∷ [])
before (AfterItem i h) = before_item h ++ item_tokens i
before (WantsUnit h) = before_unit h
before (AfterUnitName at h) = before_unit h ++ token Name at ∷ []
before (WantsNumber s at e h) = before_unit h ++ token Name at ∷ token Equals e ∷ []
before (AfterUnit a h) = before_all h ++ all_tokens a
before (Whole p) = text_tokens p
