-- Every place can be completed to a whole text, by a completion that is written out.
use Rattle.std.proofs.Common.{◌≡◌, List, [], ◌∷◌, Bool, Some, refl, ap, ◌∙◌, false}
use Rattle.std.specs.Prelude.{option_and_then}
use Rattle.pbs_base.specs.declared.refusal.Span.{Span}
use Rattle.pbs_text.specs.declared.token.Token.{Token}
use Rattle.pbs_text.specs.declared.token.TokenKind.{TokenKind}
use Rattle.pbs_text.specs.declared.token.TokenKind.TheVariants.{Name, Zero, One, SpecWord, MainWord, AbortWord}
use Rattle.pbs_text.specs.declared.token.TokenKind.TheVariants.{ThenWord, Semicolon, Comma, Equals, OpenCurly}
use Rattle.pbs_text.specs.declared.token.TokenKind.TheVariants.{CloseCurly, OpenRound, CloseRound, OpenSquare}
use Rattle.pbs_text.specs.declared.token.TokenKind.TheVariants.{CloseSquare, Colon}
use Rattle.pbs_text.specs.Grammar.{token, Second, Numeral, OneNumeral, UnitPhrase, Negated, Bracketed, Named, Bit}
use Rattle.pbs_text.specs.Grammar.{Compared, AllPhrase, OneUnit, MoreUnits, TermPhrase, OneAll, MoreAlls, ItemPhrase}
use Rattle.pbs_text.specs.Grammar.{Plain, Counted, PrimPhrase, Action, Call, Grouped, Hold, Try, GroupPhrase}
use Rattle.pbs_text.specs.Grammar.{EmptyGroup, SetsPhrase, TextPhrase}
use Rattle.pbs_text.specs.places.Holes.{Front, OfGroup, OfProd, OfMain, FirstSeq, NextSeq, ItemHole, FirstItem}
use Rattle.pbs_text.specs.places.Holes.{NextItem, GroupHole, AsPrim, OfHold, OfBody, OfTrap, OfAfter, OfTerminal}
use Rattle.pbs_text.specs.places.Holes.{OfGuard, InRound, AllHole, FirstAll, NextAll, UnitHole, UnderNot, FirstUnit}
use Rattle.pbs_text.specs.places.Holes.{NextUnit}
use Rattle.pbs_text.specs.places.Places.{NameHole, FirstName, NextName, LevelFront, Place, Start, AfterSpec}
use Rattle.pbs_text.specs.places.Places.{AfterVersion, InDecls, WantsInput, AfterInputName, WantsWidth, AfterInput}
use Rattle.pbs_text.specs.places.Places.{WantsName, AfterName, AfterLevel, AfterLevelName, AfterLevelEquals}
use Rattle.pbs_text.specs.places.Places.{AfterLevelBit, InLevel, AfterSetName, AfterSetColon, AfterSetBit, AfterProd}
use Rattle.pbs_text.specs.places.Places.{AfterProdName, AfterMain, WantsItem, WantsGroup, InGroup, InCurly}
use Rattle.pbs_text.specs.places.Places.{AfterActionName, AfterHold, AfterGuard, AfterBody, AfterTrap, AfterPrim}
use Rattle.pbs_text.specs.places.Places.{WantsLeast, AfterLeast, WantsMost, AfterMost, AfterItem, WantsUnit}
use Rattle.pbs_text.specs.places.Places.{AfterUnitName, WantsNumber, AfterUnit, Whole}
use Rattle.pbs_text.specs.places.Steps.{unit_hole, unit_all, with_group, with_name, end_unit, end_item, step, walk}

-- the place can be completed to a whole text
abbrev pub Finishes : Place → Type 0
Finishes p = (more : List Token) × (w : TextPhrase) × (walk p more ≡ Some (Whole w))

-- a token that stands nowhere yet
nowhere : Span
nowhere = record { start = 0; end = 0 }

onward : (p q : Place) (k : TokenKind) → step p k nowhere ≡ Some q → Finishes q → Finishes p
onward p q k e f = (token k nowhere ∷ f.0, f.1, ap (option_and_then (λ r. walk r f.0)) e ∙ f.2)

finish_decls : {two : Bool} (f : Front two) → Finishes (InDecls f)
finish_decls f = onward _ _ MainWord refl (onward _ _ Equals refl
    (onward _ _ OpenRound refl (onward _ _ CloseRound refl (onward _ _ Semicolon refl ([], _, refl)))))

-- ---- expressions

-- a place where an item has ended
record Ended {two : Bool} (p : Place) (i : ItemPhrase two) (h : ItemHole two) : Type 0 where
  round : step p CloseRound nowhere ≡ end_item i h CloseRound nowhere
  semicolon : step p Semicolon nowhere ≡ end_item i h Semicolon nowhere

ended_prim : {two : Bool} (p : PrimPhrase two) (h : ItemHole two) → Ended (AfterPrim p h) (Plain p) h
ended_prim p h = record { round = refl; semicolon = refl }

ended_item : {two : Bool} (i : ItemPhrase two) (h : ItemHole two) → Ended (AfterItem i h) i h
ended_item i h = record { round = refl; semicolon = refl }

mutual
  finish_group : {two : Bool} (h : GroupHole two) (g : GroupPhrase two) → Finishes (with_group h g)
  finish_group (AsPrim h) g = finish_item h _ _ (ended_prim (Grouped g) h)
  finish_group (OfHold at o t c colon h) g = finish_item h _ _ (ended_prim (Hold at o t c colon g) h)
  finish_group (OfBody at h) g =
      onward _ _ AbortWord refl (onward _ _ OpenRound refl (onward _ _ CloseRound refl
      (onward _ _ ThenWord refl (onward _ _ OpenRound refl (onward _ _ CloseRound refl
      (finish_item h _ _
      (ended_prim (Try at g nowhere (EmptyGroup nowhere nowhere) nowhere (EmptyGroup nowhere nowhere)) h)))))))
  finish_group (OfTrap at body a h) g =
      onward _ _ ThenWord refl (onward _ _ OpenRound refl (onward _ _ CloseRound refl
      (finish_item h _ _ (ended_prim (Try at body a g nowhere (EmptyGroup nowhere nowhere)) h))))
  finish_group (OfAfter at body a trap th h) g = finish_item h _ _ (ended_prim (Try at body a trap th g) h)

  finish_item : {two : Bool} (h : ItemHole two) (i : ItemPhrase two) (p : Place) → Ended p i h → Finishes p
  finish_item (FirstItem (FirstSeq (OfGroup o g))) i p e = onward p _ CloseRound e.round (finish_group g _)
  finish_item (FirstItem (NextSeq x at (OfGroup o g))) i p e = onward p _ CloseRound e.round (finish_group g _)
  finish_item (NextItem s b (FirstSeq (OfGroup o g))) i p e = onward p _ CloseRound e.round (finish_group g _)
  finish_item (NextItem s b (NextSeq x at (OfGroup o g))) i p e = onward p _ CloseRound e.round (finish_group g _)
  finish_item (FirstItem (FirstSeq (OfProd f a n q))) i p e = onward p _ Semicolon e.semicolon (finish_decls _)
  finish_item (FirstItem (NextSeq x at (OfProd f a n q))) i p e = onward p _ Semicolon e.semicolon (finish_decls _)
  finish_item (NextItem s b (FirstSeq (OfProd f a n q))) i p e = onward p _ Semicolon e.semicolon (finish_decls _)
  finish_item (NextItem s b (NextSeq x at (OfProd f a n q))) i p e = onward p _ Semicolon e.semicolon (finish_decls _)
  finish_item (FirstItem (FirstSeq (OfMain f m q))) i p e = onward p _ Semicolon e.semicolon ([], _, refl)
  finish_item (FirstItem (NextSeq x at (OfMain f m q))) i p e = onward p _ Semicolon e.semicolon ([], _, refl)
  finish_item (NextItem s b (FirstSeq (OfMain f m q))) i p e = onward p _ Semicolon e.semicolon ([], _, refl)
  finish_item (NextItem s b (NextSeq x at (OfMain f m q))) i p e = onward p _ Semicolon e.semicolon ([], _, refl)

finish_wanted : {two : Bool} (h : ItemHole two) → Finishes (WantsItem h)
finish_wanted h = onward _ _ Name refl (finish_item h _ _ (ended_prim (Call nowhere) h))

finish_guard : {two : Bool} (a o : Span) (t : TermPhrase two) (c : Span) (h : ItemHole two)
    → Finishes (AfterGuard a o t c h)
finish_guard a o t c h =
    onward _ _ Colon refl
    (onward _ _ OpenRound refl (onward _ _ CloseRound refl
    (finish_group (OfHold a o t c nowhere h) (EmptyGroup nowhere nowhere))))

finish_most : {two : Bool} (s : Second two) (p : PrimPhrase two) (o : Span) (m : Numeral) (a c : Span)
    (h : ItemHole two) → Finishes (WantsMost s p o m a c h)
finish_most s p o m a c h = onward _ _ One refl (onward _ _ CloseCurly refl
    (finish_item h _ _ (ended_item (Counted s p o m a c OneNumeral nowhere nowhere) h)))

-- ---- terms

-- a place where a unit has ended
record UnitEnded {two : Bool} (p : Place) (a : AllPhrase two) (h : AllHole two) : Type 0 where
  round : step p CloseRound nowhere ≡ end_unit a h CloseRound nowhere
  square : step p CloseSquare nowhere ≡ end_unit a h CloseSquare nowhere

ended_unit : {two : Bool} (a : AllPhrase two) (h : AllHole two) → UnitEnded (AfterUnit a h) a h
ended_unit a h = record { round = refl; square = refl }

mutual
  finish_unit : {two : Bool} (h : UnitHole two) (u : UnitPhrase two) (p : Place)
      → UnitEnded p (unit_all h u) (unit_hole h) → Finishes p
  finish_unit (UnderNot at h) u p e = finish_unit h (Negated at u) p e
  finish_unit (FirstUnit h) u p e = finish_all h (OneUnit u) p e
  finish_unit (NextUnit a at h) u p e = finish_all h (MoreUnits a at u) p e

  finish_all : {two : Bool} (h : AllHole two) (a : AllPhrase two) (p : Place) → UnitEnded p a h → Finishes p
  finish_all (FirstAll (InRound o h)) a p e = onward p _ CloseRound e.round
      (finish_unit h (Bracketed o (OneAll a) nowhere) _ (ended_unit _ _))
  finish_all (NextAll t b (InRound o h)) a p e = onward p _ CloseRound e.round
      (finish_unit h (Bracketed o (MoreAlls t b a) nowhere) _ (ended_unit _ _))
  finish_all (FirstAll (OfTerminal o h)) a p e = onward p _ CloseSquare e.square (finish_item h _ _ (ended_prim _ h))
  finish_all (NextAll t b (OfTerminal o h)) a p e = onward p _ CloseSquare e.square (finish_item h _ _ (ended_prim _ h))
  finish_all (FirstAll (OfGuard k o h)) a p e = onward p _ CloseSquare e.square (finish_guard k o _ nowhere h)
  finish_all (NextAll t b (OfGuard k o h)) a p e = onward p _ CloseSquare e.square (finish_guard k o _ nowhere h)

finish_name : {two : Bool} (at : Span) (h : UnitHole two) → Finishes (AfterUnitName at h)
finish_name at h = finish_unit h (Named at) _ (record { round = refl; square = refl })

-- ---- declarations

finish_names : {two : Bool} (h : NameHole two) (n : Span) → Finishes (with_name h n)
finish_names (FirstName f at) n = onward _ _ Semicolon refl (finish_decls _)
finish_names (NextName f at ns c) n = onward _ _ Semicolon refl (finish_decls _)

finish_sets : {two : Bool} (l : LevelFront two) (ss : SetsPhrase) → Finishes (InLevel l ss)
finish_sets l ss = onward _ _ CloseCurly refl (finish_decls _)

finish_set : {two : Bool} (l : LevelFront two) (ss : SetsPhrase) (at c : Span) → Finishes (AfterSetColon l ss at c)
finish_set l ss at c = onward _ _ Zero refl (onward _ _ Semicolon refl (finish_sets l _))

finish_bit : {two : Bool} (f : Front two) (at n q : Span) (b : Bool) (to : Span)
    → Finishes (AfterLevelBit f at n q b to)
finish_bit f at n q b to = onward _ _ OpenCurly refl (finish_sets _ _)

-- every place can be completed
pub finish : (p : Place) → Finishes p
finish Start = onward _ _ SpecWord refl (onward _ _ One refl (onward _ _ Semicolon refl (finish_decls _)))
finish (AfterSpec a) = onward _ _ One refl (onward _ _ Semicolon refl (finish_decls _))
finish (AfterVersion two a b) = onward _ _ Semicolon refl (finish_decls _)
finish (InDecls f) = finish_decls f
finish (WantsInput h) = onward _ _ Name refl (onward _ _ Semicolon refl (finish_decls _))
finish (AfterInputName n h) = onward _ _ Semicolon refl (finish_decls _)
finish (WantsWidth s n c h) = onward _ _ One refl (onward _ _ Semicolon refl (finish_decls _))
finish (AfterInput i h) = onward _ _ Semicolon refl (finish_decls _)
finish (WantsName h) = onward _ _ Name refl (finish_names h nowhere)
finish (AfterName ns f a) = onward _ _ Semicolon refl (finish_decls _)
finish (AfterLevel f a) = onward _ _ Name refl (onward _ _ Equals refl
    (onward _ _ Zero refl (finish_bit f a nowhere nowhere false nowhere)))
finish (AfterLevelName f a n) = onward _ _ Equals refl (onward _ _ Zero refl (finish_bit f a n nowhere false nowhere))
finish (AfterLevelEquals f a n q) = onward _ _ Zero refl (finish_bit f a n q false nowhere)
finish (AfterLevelBit f a n q b to) = finish_bit f a n q b to
finish (InLevel l ss) = finish_sets l ss
finish (AfterSetName l ss n) = onward _ _ Colon refl (finish_set l ss n nowhere)
finish (AfterSetColon l ss n c) = finish_set l ss n c
finish (AfterSetBit l ss n c b to) = onward _ _ Semicolon refl (finish_sets l _)
finish (AfterProd f a) = onward _ _ Name refl (onward _ _ Equals refl (finish_wanted _))
finish (AfterProdName f a n) = onward _ _ Equals refl (finish_wanted _)
finish (AfterMain f a) = onward _ _ Equals refl (finish_wanted _)
finish (WantsItem h) = finish_wanted h
finish (WantsGroup g) = onward _ _ OpenRound refl (onward _ _ CloseRound refl
    (finish_group g (EmptyGroup nowhere nowhere)))
finish (InGroup o g) = onward _ _ CloseRound refl (finish_group g (EmptyGroup o nowhere))
finish (InCurly o h) = onward _ _ Name refl (onward _ _ CloseCurly refl
    (finish_item h _ _ (ended_prim (Action o nowhere nowhere) h)))
finish (AfterActionName o n h) = onward _ _ CloseCurly refl (finish_item h _ _ (ended_prim (Action o n nowhere) h))
finish (AfterHold a h) = onward _ _ OpenSquare refl (onward _ _ Zero refl
    (onward _ _ CloseSquare refl (finish_guard a nowhere (OneAll (OneUnit (Bit false nowhere))) nowhere h)))
finish (AfterGuard a o t c h) = finish_guard a o t c h
finish (AfterBody at body h) = finish_group (OfBody at h) body
finish (AfterTrap at body b trap h) = finish_group (OfTrap at body b h) trap
finish (AfterPrim p h) = finish_item h _ _ (ended_prim p h)
finish (WantsLeast s p o h) = onward _ _ One refl (onward _ _ Comma refl
    (finish_most s p o OneNumeral nowhere nowhere h))
finish (AfterLeast s p o m a h) = onward _ _ Comma refl (finish_most s p o m a nowhere h)
finish (WantsMost s p o m a c h) = finish_most s p o m a c h
finish (AfterMost s p o m a c n b h) = onward _ _ CloseCurly refl (finish_item h _ _ (ended_item _ h))
finish (AfterItem i h) = finish_item h _ _ (ended_item i h)
finish (WantsUnit h) = onward _ _ Zero refl (finish_unit h (Bit false nowhere) _ (ended_unit _ _))
finish (AfterUnitName n h) = finish_name n h
finish (WantsNumber s n e h) = onward _ _ One refl (finish_unit h (Compared s n e OneNumeral nowhere) _
    (ended_unit _ _))
finish (AfterUnit a h) = finish_all h a _ (ended_unit a h)
finish (Whole w) = ([], w, refl)
