-- The step over one token.
use Rattle.std.specs.Prelude.{Bool, true, false, List, [], ◌∷◌, Option, Some, None, option_map, option_and_then}
use Rattle.pbs_base.specs.declared.refusal.Span.{Span}
use Rattle.pbs_text.specs.declared.token.Token.{Token}
use Rattle.pbs_text.specs.declared.token.Operator.TheVariants.{StarOp, PlusOp, OptOp}
use Rattle.pbs_text.specs.declared.token.TokenKind.{TokenKind}
use Rattle.pbs_text.specs.declared.token.TokenKind.TheVariants.{Name, Zero, One, Two, Digit, Number, SpecWord}
use Rattle.pbs_text.specs.declared.token.TokenKind.TheVariants.{InputWord, ActionWord, LevelWord, ProdWord, MainWord}
use Rattle.pbs_text.specs.declared.token.TokenKind.TheVariants.{HoldWord, TryWord, AbortWord, ThenWord, Semicolon}
use Rattle.pbs_text.specs.declared.token.TokenKind.TheVariants.{Comma, Equals, OpenCurly, CloseCurly, OpenRound}
use Rattle.pbs_text.specs.declared.token.TokenKind.TheVariants.{CloseRound, OpenSquare, CloseSquare, Bar, Star, Plus}
use Rattle.pbs_text.specs.declared.token.TokenKind.TheVariants.{Question, Tilde, Ampersand, Colon}
use Rattle.pbs_text.specs.Grammar.{Second, Numeral, ZeroNumeral, OneNumeral, TwoNumeral, DigitNumeral, LongNumeral}
use Rattle.pbs_text.specs.Grammar.{Width, OneBit, TwoBits, MoreBits, UnitPhrase, Negated, Bracketed, Named, Bit}
use Rattle.pbs_text.specs.Grammar.{Compared, AllPhrase, OneUnit, MoreUnits, TermPhrase, OneAll, MoreAlls, ExprPhrase}
use Rattle.pbs_text.specs.Grammar.{OneSeq, MoreSeqs, SeqPhrase, OneItem, MoreItems, ItemPhrase, Plain, Repeated}
use Rattle.pbs_text.specs.Grammar.{Counted, PrimPhrase, Terminal, Action, Call, Grouped, Hold, Try, GroupPhrase}
use Rattle.pbs_text.specs.Grammar.{EmptyGroup, FullGroup, InputPhrase, OneWire, Bus, InputsPhrase, OneInput, MoreInputs}
use Rattle.pbs_text.specs.Grammar.{OneName, MoreNames, SetsPhrase, NoSets, MoreSets, DeclPhrase, InputDecl, ActionDecl}
use Rattle.pbs_text.specs.Grammar.{LevelDecl, ProdDecl, NoDecls, MoreDecls, SpecPhrase, OfVersion}
use Rattle.pbs_text.specs.places.Holes.{Front, ExprHole, OfGroup, OfProd, OfMain, SeqHole, FirstSeq, NextSeq, ItemHole}
use Rattle.pbs_text.specs.places.Holes.{FirstItem, NextItem, GroupHole, AsPrim, OfHold, OfBody, OfTrap, OfAfter}
use Rattle.pbs_text.specs.places.Holes.{TermHole, OfTerminal, OfGuard, InRound, AllHole, FirstAll, NextAll, UnitHole}
use Rattle.pbs_text.specs.places.Holes.{UnderNot, FirstUnit, NextUnit}
use Rattle.pbs_text.specs.places.Places.{InputHole, FirstInput, NextInput, NameHole, FirstName, NextName, LevelFront}
use Rattle.pbs_text.specs.places.Places.{Place, Start, AfterSpec, AfterVersion, InDecls, WantsInput, AfterInputName}
use Rattle.pbs_text.specs.places.Places.{WantsWidth, AfterInput, WantsName, AfterName, AfterLevel, AfterLevelName}
use Rattle.pbs_text.specs.places.Places.{AfterLevelEquals, AfterLevelBit, InLevel, AfterSetName, AfterSetColon}
use Rattle.pbs_text.specs.places.Places.{AfterSetBit, AfterProd, AfterProdName, AfterMain, WantsItem, WantsGroup}
use Rattle.pbs_text.specs.places.Places.{InGroup, InCurly, AfterActionName, AfterHold, AfterGuard, AfterBody, AfterTrap}
use Rattle.pbs_text.specs.places.Places.{AfterPrim, WantsLeast, AfterLeast, WantsMost, AfterMost, AfterItem, WantsUnit}
use Rattle.pbs_text.specs.places.Places.{AfterUnitName, WantsNumber, AfterUnit, Whole}

-- ---- kinds of tokens that belong together

abbrev pub second : (two : Bool) → Option (Second two)
second true = Some tt
second false = None

abbrev pub bit_of : TokenKind → Option Bool
bit_of Zero = Some false
bit_of One = Some true
bit_of _ = None

abbrev pub version_of : TokenKind → Option Bool
version_of One = Some false
version_of Two = Some true
version_of _ = None

abbrev pub numeral_of : TokenKind → Option Numeral
numeral_of Zero = Some ZeroNumeral
numeral_of One = Some OneNumeral
numeral_of Two = Some TwoNumeral
numeral_of (Digit n) = Some (DigitNumeral n)
numeral_of (Number n) = Some (LongNumeral n)
numeral_of _ = None

abbrev pub width_of : TokenKind → Option Width
width_of One = Some OneBit
width_of Two = Some TwoBits
width_of (Digit n) = Some (MoreBits n)
width_of _ = None

-- ---- the place behind a phrase that stands in a hole

abbrev pub with_next : {two : Bool} → Front two → DeclPhrase two → Front two
with_next f d = record f { decls = MoreDecls f.decls d }

abbrev pub unit_hole : {two : Bool} → UnitHole two → AllHole two
unit_hole (UnderNot at h) = unit_hole h
unit_hole (FirstUnit h) = h
unit_hole (NextUnit a at h) = h

-- what the phrases around come to, up to the end of one that stands in a hole
abbrev pub unit_all : {two : Bool} → UnitHole two → UnitPhrase two → AllPhrase two
unit_all (UnderNot at h) u = unit_all h (Negated at u)
unit_all (FirstUnit h) u = OneUnit u
unit_all (NextUnit a at h) u = MoreUnits a at u

abbrev pub with_unit : {two : Bool} → UnitHole two → UnitPhrase two → Place
with_unit h u = AfterUnit (unit_all h u) (unit_hole h)

abbrev pub with_group : {two : Bool} → GroupHole two → GroupPhrase two → Place
with_group (AsPrim h) g = AfterPrim (Grouped g) h
with_group (OfHold at o t c colon h) g = AfterPrim (Hold at o t c colon g) h
with_group (OfBody at h) g = AfterBody at g h
with_group (OfTrap at body a h) g = AfterTrap at body a g h
with_group (OfAfter at body a trap th h) g = AfterPrim (Try at body a trap th g) h

abbrev pub with_all : {two : Bool} → AllHole two → AllPhrase two → TermPhrase two
with_all (FirstAll h) a = OneAll a
with_all (NextAll t at h) a = MoreAlls t at a

abbrev pub term_hole : {two : Bool} → AllHole two → TermHole two
term_hole (FirstAll h) = h
term_hole (NextAll t at h) = h

abbrev pub with_item : {two : Bool} → ItemHole two → ItemPhrase two → SeqPhrase two
with_item (FirstItem h) i = OneItem i
with_item (NextItem s at h) i = MoreItems s at i

abbrev pub seq_hole : {two : Bool} → ItemHole two → SeqHole two
seq_hole (FirstItem h) = h
seq_hole (NextItem s at h) = h

abbrev pub with_seq : {two : Bool} → SeqHole two → SeqPhrase two → ExprPhrase two
with_seq (FirstSeq h) s = OneSeq s
with_seq (NextSeq e at h) s = MoreSeqs e at s

abbrev pub expr_hole : {two : Bool} → SeqHole two → ExprHole two
expr_hole (FirstSeq h) = h
expr_hole (NextSeq e at h) = h

abbrev pub with_input : {two : Bool} → InputHole two → InputPhrase two → InputsPhrase two
with_input (FirstInput f at) i = OneInput i
with_input (NextInput f at is c) i = MoreInputs is c i

abbrev pub input_front : {two : Bool} → InputHole two → Front two
input_front (FirstInput f at) = f
input_front (NextInput f at is c) = f

abbrev pub input_at : {two : Bool} → InputHole two → Span
input_at (FirstInput f at) = at
input_at (NextInput f at is c) = at

abbrev pub with_name : {two : Bool} → NameHole two → Span → Place
with_name (FirstName f at) n = AfterName (OneName n) f at
with_name (NextName f at ns c) n = AfterName (MoreNames ns c n) f at

-- ---- the step over a token, where it may stand

abbrev pub close_round : {two : Bool} → TermHole two → TermPhrase two → Span → Option Place
close_round (InRound o h) t at = Some (with_unit h (Bracketed o t at))
close_round _ t at = None

abbrev pub close_square : {two : Bool} → TermHole two → TermPhrase two → Span → Option Place
close_square (OfTerminal o h) t at = Some (AfterPrim (Terminal o t at) h)
close_square (OfGuard a o h) t at = Some (AfterGuard a o t at h)
close_square (InRound o h) t at = None

abbrev pub close_group : {two : Bool} → ExprHole two → ExprPhrase two → Span → Option Place
close_group (OfGroup o g) e at = Some (with_group g (FullGroup o e at))
close_group _ e at = None

abbrev pub whole_spec : {two : Bool} → Front two → Span → Span → ExprPhrase two → Span → SpecPhrase two
whole_spec f m q e end = record {
  spec_at = f.spec_at;
  version_at = f.version_at;
  start_at = f.start_at;
  decls = f.decls;
  main_at = m;
  equals_at = q;
  expr = e;
  end_at = end;
}

abbrev pub close_expr : {two : Bool} → ExprHole two → ExprPhrase two → Span → Option Place
close_expr (OfGroup o g) e at = None
close_expr (OfProd f p n q) e at = Some (InDecls (with_next f (ProdDecl p n q e at)))
close_expr {two} (OfMain f m q) e at = Some (Whole (OfVersion two (whole_spec f m q e at)))

-- the token behind a unit
abbrev pub end_unit : {two : Bool} → AllPhrase two → AllHole two → TokenKind → Span → Option Place
end_unit a h Ampersand at = Some (WantsUnit (NextUnit a at h))
end_unit a h Bar at = Some (WantsUnit (FirstUnit (NextAll (with_all h a) at (term_hole h))))
end_unit a h CloseRound at = close_round (term_hole h) (with_all h a) at
end_unit a h CloseSquare at = close_square (term_hole h) (with_all h a) at
end_unit a h _ at = None

abbrev pub compare : {two : Bool} → Span → UnitHole two → Span → Option Place
compare {two} n h at = option_map (λ s. WantsNumber s n at h) (second two)

-- the first token of an item
abbrev pub start_item : {two : Bool} → ItemHole two → TokenKind → Span → Option Place
start_item h OpenSquare at = Some (WantsUnit (FirstUnit (FirstAll (OfTerminal at h))))
start_item h OpenCurly at = Some (InCurly at h)
start_item h Name at = Some (AfterPrim (Call at) h)
start_item h OpenRound at = Some (InGroup at (AsPrim h))
start_item h HoldWord at = Some (AfterHold at h)
start_item h TryWord at = Some (WantsGroup (OfBody at h))
start_item h _ at = None

-- the token behind an item
abbrev pub end_item : {two : Bool} → ItemPhrase two → ItemHole two → TokenKind → Span → Option Place
end_item i h Comma at = Some (WantsItem (NextItem (with_item h i) at (seq_hole h)))
end_item i h Bar at = Some
    (WantsItem (FirstItem (NextSeq (with_seq (seq_hole h) (with_item h i)) at (expr_hole (seq_hole h)))))
end_item i h CloseRound at = close_group (expr_hole (seq_hole h)) (with_seq (seq_hole h) (with_item h i)) at
end_item i h Semicolon at = close_expr (expr_hole (seq_hole h)) (with_seq (seq_hole h) (with_item h i)) at
end_item i h _ at = None

abbrev pub count : {two : Bool} → PrimPhrase two → ItemHole two → Span → Option Place
count {two} p h at = option_map (λ s. WantsLeast s p at h) (second two)

-- the token behind an input
abbrev pub end_input : {two : Bool} → InputPhrase two → InputHole two → TokenKind → Span → Option Place
end_input i h Comma at = Some (WantsInput (NextInput (input_front h) (input_at h) (with_input h i) at))
end_input i h Semicolon at = Some (InDecls (with_next (input_front h) (InputDecl (input_at h) (with_input h i) at)))
end_input i h _ at = None

abbrev pub widen : {two : Bool} → Span → InputHole two → Span → Option Place
widen {two} n h at = option_map (λ s. WantsWidth s n at h) (second two)

abbrev pub first_front : (two : Bool) → Span → Span → Span → Front two
first_front two a b c = record { spec_at = a; version_at = b; start_at = c; decls = NoDecls }

abbrev pub level_front : {two : Bool} → Front two → Span → Span → Span → Bool → Span → Span → LevelFront two
level_front f at n q b to o = record {
  front = f;
  at = at;
  name_at = n;
  equals_at = q;
  value = b;
  bit_at = to;
  open_at = o;
}

abbrev pub level_decl : {two : Bool} → LevelFront two → SetsPhrase → Span → DeclPhrase two
level_decl l ss at = LevelDecl l.at l.name_at l.equals_at l.value l.bit_at l.open_at ss at

-- the first token of a declaration, or of main
abbrev pub start_decl : {two : Bool} → Front two → TokenKind → Span → Option Place
start_decl f InputWord at = Some (WantsInput (FirstInput f at))
start_decl f ActionWord at = Some (WantsName (FirstName f at))
start_decl f LevelWord at = Some (AfterLevel f at)
start_decl f ProdWord at = Some (AfterProd f at)
start_decl f MainWord at = Some (AfterMain f at)
start_decl f _ at = None

-- the place behind a token, where the token may stand
abbrev pub step : Place → TokenKind → Span → Option Place
step Start SpecWord at = Some (AfterSpec at)
step (AfterSpec a) k at = option_map (λ two. AfterVersion two a at) (version_of k)
step (AfterVersion two a b) Semicolon at = Some (InDecls (first_front two a b at))
step (InDecls f) k at = start_decl f k at
step (WantsInput h) Name at = Some (AfterInputName at h)
step (AfterInputName n h) Colon at = widen n h at
step (AfterInputName n h) k at = end_input (OneWire n) h k at
step (WantsWidth s n c h) k at = option_map (λ w. AfterInput (Bus s n c w at) h) (width_of k)
step (AfterInput i h) k at = end_input i h k at
step (WantsName h) Name at = Some (with_name h at)
step (AfterName ns f a) Comma at = Some (WantsName (NextName f a ns at))
step (AfterName ns f a) Semicolon at = Some (InDecls (with_next f (ActionDecl a ns at)))
step (AfterLevel f a) Name at = Some (AfterLevelName f a at)
step (AfterLevelName f a n) Equals at = Some (AfterLevelEquals f a n at)
step (AfterLevelEquals f a n q) k at = option_map (λ b. AfterLevelBit f a n q b at) (bit_of k)
step (AfterLevelBit f a n q b to) OpenCurly at = Some (InLevel (level_front f a n q b to at) NoSets)
step (InLevel l ss) Name at = Some (AfterSetName l ss at)
step (InLevel l ss) CloseCurly at = Some (InDecls (with_next l.front (level_decl l ss at)))
step (AfterSetName l ss n) Colon at = Some (AfterSetColon l ss n at)
step (AfterSetColon l ss n c) k at = option_map (λ b. AfterSetBit l ss n c b at) (bit_of k)
step (AfterSetBit l ss n c b to) Semicolon at = Some (InLevel l (MoreSets ss n c b to at))
step (AfterProd f a) Name at = Some (AfterProdName f a at)
step (AfterProdName f a n) Equals at = Some (WantsItem (FirstItem (FirstSeq (OfProd f a n at))))
step (AfterMain f a) Equals at = Some (WantsItem (FirstItem (FirstSeq (OfMain f a at))))
step (WantsItem h) k at = start_item h k at
step (WantsGroup g) OpenRound at = Some (InGroup at g)
step (InGroup o g) CloseRound at = Some (with_group g (EmptyGroup o at))
step (InGroup o g) k at = start_item (FirstItem (FirstSeq (OfGroup o g))) k at
step (InCurly o h) Name at = Some (AfterActionName o at h)
step (AfterActionName o n h) CloseCurly at = Some (AfterPrim (Action o n at) h)
step (AfterHold a h) OpenSquare at = Some (WantsUnit (FirstUnit (FirstAll (OfGuard a at h))))
step (AfterGuard a o t c h) Colon at = Some (WantsGroup (OfHold a o t c at h))
step (AfterBody a body h) AbortWord at = Some (WantsGroup (OfTrap a body at h))
step (AfterTrap a body b trap h) ThenWord at = Some (WantsGroup (OfAfter a body b trap at h))
step (AfterPrim p h) Star at = Some (AfterItem (Repeated p StarOp at) h)
step (AfterPrim p h) Plus at = Some (AfterItem (Repeated p PlusOp at) h)
step (AfterPrim p h) Question at = Some (AfterItem (Repeated p OptOp at) h)
step (AfterPrim p h) OpenCurly at = count p h at
step (AfterPrim p h) k at = end_item (Plain p) h k at
step (WantsLeast s p o h) k at = option_map (λ m. AfterLeast s p o m at h) (numeral_of k)
step (AfterLeast s p o m a h) Comma at = Some (WantsMost s p o m a at h)
step (WantsMost s p o m a c h) k at = option_map (λ n. AfterMost s p o m a c n at h) (numeral_of k)
step (AfterMost s p o m a c n b h) CloseCurly at = Some (AfterItem (Counted s p o m a c n b at) h)
step (AfterItem i h) k at = end_item i h k at
step (WantsUnit h) Tilde at = Some (WantsUnit (UnderNot at h))
step (WantsUnit h) OpenRound at = Some (WantsUnit (FirstUnit (FirstAll (InRound at h))))
step (WantsUnit h) Name at = Some (AfterUnitName at h)
step (WantsUnit h) Zero at = Some (with_unit h (Bit false at))
step (WantsUnit h) One at = Some (with_unit h (Bit true at))
step (AfterUnitName n h) Equals at = compare n h at
step (AfterUnitName n h) k at = end_unit (unit_all h (Named n)) (unit_hole h) k at
step (WantsNumber s n e h) k at = option_map (λ m. with_unit h (Compared s n e m at)) (numeral_of k)
step (AfterUnit a h) k at = end_unit a h k at
step _ _ _ = None

-- the place behind some tokens, whatever the nesting
abbrev pub walk : Place → List Token → Option Place
walk p [] = Some p
walk p (t ∷ ts) = option_and_then (λ q. walk q ts) (step p t.kind t.span)
