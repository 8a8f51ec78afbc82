-- What is open at a place is what is open behind the tokens before it; so nesting is a matter of their kinds alone.
use Rattle.std.proofs.Common.{◌≡◌, ℕ, suc, ◌≤◌, List, [], ◌∷◌, length, Bool, cond, true, false, nat_lt, Option, Some}
use Rattle.std.proofs.Common.{None, Ok, Err, refl, sym, ap, subst, ◌∙◌, arith}
use Rattle.std.specs.Prelude.{IfSome, option_map, option_and_then}
use Rattle.pbs_base.specs.declared.refusal.Span.{Span}
use Rattle.pbs_text.specs.declared.token.Token.{Token}
use Rattle.pbs_text.specs.declared.token.TokenKind.{TokenKind}
use Rattle.pbs_text.specs.declared.token.TokenKind.TheVariants.{Name, Zero, One, Two, Digit, Number, SpecWord}
use Rattle.pbs_text.specs.declared.token.TokenKind.TheVariants.{InputWord, ActionWord, LevelWord, ProdWord, MainWord}
use Rattle.pbs_text.specs.declared.token.TokenKind.TheVariants.{HoldWord, TryWord, AbortWord, ThenWord, Semicolon}
use Rattle.pbs_text.specs.declared.token.TokenKind.TheVariants.{Comma, Equals, OpenCurly, CloseCurly, OpenRound}
use Rattle.pbs_text.specs.declared.token.TokenKind.TheVariants.{CloseRound, OpenSquare, CloseSquare, Bar, Star, Plus}
use Rattle.pbs_text.specs.declared.token.TokenKind.TheVariants.{Question, Tilde, Ampersand, Colon}
use Rattle.pbs_text.specs.Grammar.{ZeroNumeral, OneNumeral, TwoNumeral, DigitNumeral, LongNumeral, UnitPhrase, Negated}
use Rattle.pbs_text.specs.Grammar.{Bracketed, Named, Bit, Compared, AllPhrase, TermPhrase, ExprPhrase, ItemPhrase}
use Rattle.pbs_text.specs.Grammar.{Plain, GroupPhrase, TextPhrase}
use Rattle.pbs_text.specs.places.Holes.{ExprHole, OfGroup, OfProd, OfMain, SeqHole, FirstSeq, NextSeq, ItemHole}
use Rattle.pbs_text.specs.places.Holes.{FirstItem, NextItem, GroupHole, AsPrim, OfHold, OfBody, OfTrap, OfAfter}
use Rattle.pbs_text.specs.places.Holes.{TermHole, OfTerminal, OfGuard, InRound, AllHole, FirstAll, NextAll, UnitHole}
use Rattle.pbs_text.specs.places.Holes.{UnderNot, FirstUnit, NextUnit, expr_nesting, seq_nesting, item_nesting}
use Rattle.pbs_text.specs.places.Holes.{group_nesting, term_nesting, all_nesting, unit_nesting}
use Rattle.pbs_text.specs.places.Places.{NameHole, FirstName, NextName, Place, Start, AfterSpec, AfterVersion, InDecls}
use Rattle.pbs_text.specs.places.Places.{WantsInput, AfterInputName, WantsWidth, AfterInput, WantsName, AfterName}
use Rattle.pbs_text.specs.places.Places.{AfterLevel, AfterLevelName, AfterLevelEquals, AfterLevelBit, InLevel}
use Rattle.pbs_text.specs.places.Places.{AfterSetName, AfterSetColon, AfterSetBit, AfterProd, AfterProdName, AfterMain}
use Rattle.pbs_text.specs.places.Places.{WantsItem, WantsGroup, InGroup, InCurly, AfterActionName, AfterHold}
use Rattle.pbs_text.specs.places.Places.{AfterGuard, AfterBody, AfterTrap, AfterPrim, WantsLeast, AfterLeast, WantsMost}
use Rattle.pbs_text.specs.places.Places.{AfterMost, AfterItem, WantsUnit, AfterUnitName, WantsNumber, AfterUnit, Whole}
use Rattle.pbs_text.specs.places.Steps.{second, unit_hole, unit_all, with_unit, with_group, with_all, term_hole}
use Rattle.pbs_text.specs.places.Steps.{seq_hole, expr_hole, with_name, close_round, close_square, close_group}
use Rattle.pbs_text.specs.places.Steps.{close_expr, end_unit, start_item, end_item, step, walk}
use Rattle.pbs_text.specs.Nesting.{Opened, Round, Waiting, closed, behind, opened_from, opened}
use Rattle.pbs_text.specs.Refusals.{refusal}
use Rattle.pbs_text.specs.places.Reading.{is_too_deep, stepped, bind, read}
use Rattle.pbs_grammar.proofs.Walks.{at_some}

-- ---- what is open

-- the token opens a 65th construct
abbrev pub is_over : TokenKind → List Opened → Bool
is_over Tilde s = nat_lt 63 (length s)
is_over OpenRound s = nat_lt 63 (length s)
is_over _ s = false

-- none of the tokens does
abbrev pub Shallow : List Opened → List Token → Type 0
Shallow s [] = Unit {0}
Shallow s (t ∷ ts) = (is_over t.kind s ≡ false) × Shallow (behind t.kind s) ts

pub closed-twice : (s : List Opened) → closed (closed s) ≡ closed s
closed-twice [] = refl
closed-twice (Waiting ∷ s) = closed-twice s
closed-twice (Round ∷ s) = refl

pub length-closed : (s : List Opened) → length (closed s) ≤ length s
length-closed [] = omega arith
length-closed (Waiting ∷ s) = let h = length-closed s in omega arith
length-closed (Round ∷ s) = omega arith

-- ---- what is open at a hole

abbrev mutual
  opened_expr : {two : Bool} → ExprHole two → List Opened
  opened_expr (OfGroup at g) = Round ∷ opened_group g
  opened_expr (OfProd f at n q) = []
  opened_expr (OfMain f at q) = []

  opened_seq : {two : Bool} → SeqHole two → List Opened
  opened_seq (FirstSeq h) = opened_expr h
  opened_seq (NextSeq e at h) = opened_expr h

  opened_item : {two : Bool} → ItemHole two → List Opened
  opened_item (FirstItem h) = opened_seq h
  opened_item (NextItem s at h) = opened_seq h

  opened_group : {two : Bool} → GroupHole two → List Opened
  opened_group (AsPrim h) = opened_item h
  opened_group (OfHold at o t c colon h) = opened_item h
  opened_group (OfBody at h) = opened_item h
  opened_group (OfTrap at body a h) = opened_item h
  opened_group (OfAfter at body a trap th h) = opened_item h

abbrev mutual
  opened_term : {two : Bool} → TermHole two → List Opened
  opened_term (OfTerminal at h) = opened_item h
  opened_term (OfGuard hold_at at h) = opened_item h
  opened_term (InRound at h) = Round ∷ opened_unit h

  opened_all : {two : Bool} → AllHole two → List Opened
  opened_all (FirstAll h) = opened_term h
  opened_all (NextAll t at h) = opened_term h

  opened_unit : {two : Bool} → UnitHole two → List Opened
  opened_unit (UnderNot at h) = Waiting ∷ opened_unit h
  opened_unit (FirstUnit h) = opened_all h
  opened_unit (NextUnit a at h) = opened_all h

abbrev pub opened_at : Place → List Opened
opened_at (WantsItem h) = opened_item h
opened_at (WantsGroup g) = opened_group g
opened_at (InGroup at g) = Round ∷ opened_group g
opened_at (InCurly at h) = opened_item h
opened_at (AfterActionName at n h) = opened_item h
opened_at (AfterHold at h) = opened_item h
opened_at (AfterGuard at o t c h) = opened_item h
opened_at (AfterBody at body h) = opened_item h
opened_at (AfterTrap at body a trap h) = opened_item h
opened_at (AfterPrim p h) = opened_item h
opened_at (WantsLeast s p o h) = opened_item h
opened_at (AfterLeast s p o m a h) = opened_item h
opened_at (WantsMost s p o m a c h) = opened_item h
opened_at (AfterMost s p o m a c n b h) = opened_item h
opened_at (AfterItem i h) = opened_item h
opened_at (WantsUnit h) = opened_unit h
opened_at (AfterUnitName at h) = closed (opened_unit h)
opened_at (WantsNumber s at e h) = closed (opened_unit h)
opened_at (AfterUnit a h) = opened_all h
opened_at _ = []

-- ---- it is as deep as the nesting says

mutual
  deep_expr : {two : Bool} (h : ExprHole two) → expr_nesting h ≡ length (opened_expr h)
  deep_expr (OfGroup at g) = ap suc (deep_group g)
  deep_expr (OfProd f at n q) = refl
  deep_expr (OfMain f at q) = refl

  deep_seq : {two : Bool} (h : SeqHole two) → seq_nesting h ≡ length (opened_seq h)
  deep_seq (FirstSeq h) = deep_expr h
  deep_seq (NextSeq e at h) = deep_expr h

  deep_item : {two : Bool} (h : ItemHole two) → item_nesting h ≡ length (opened_item h)
  deep_item (FirstItem h) = deep_seq h
  deep_item (NextItem s at h) = deep_seq h

  deep_group : {two : Bool} (h : GroupHole two) → group_nesting h ≡ length (opened_group h)
  deep_group (AsPrim h) = deep_item h
  deep_group (OfHold at o t c colon h) = deep_item h
  deep_group (OfBody at h) = deep_item h
  deep_group (OfTrap at body a h) = deep_item h
  deep_group (OfAfter at body a trap th h) = deep_item h

mutual
  deep_term : {two : Bool} (h : TermHole two) → term_nesting h ≡ length (opened_term h)
  deep_term (OfTerminal at h) = deep_item h
  deep_term (OfGuard hold_at at h) = deep_item h
  deep_term (InRound at h) = ap suc (deep_unit h)

  deep_all : {two : Bool} (h : AllHole two) → all_nesting h ≡ length (opened_all h)
  deep_all (FirstAll h) = deep_term h
  deep_all (NextAll t at h) = deep_term h

  deep_unit : {two : Bool} (h : UnitHole two) → unit_nesting h ≡ length (opened_unit h)
  deep_unit (UnderNot at h) = ap suc (deep_unit h)
  deep_unit (FirstUnit h) = deep_all h
  deep_unit (NextUnit a at h) = deep_all h

-- ---- outside of units no `~` waits

ended_expr : {two : Bool} (h : ExprHole two) → opened_expr h ≡ closed (opened_expr h)
ended_expr (OfGroup at g) = refl
ended_expr (OfProd f at n q) = refl
ended_expr (OfMain f at q) = refl

ended_seq : {two : Bool} (h : SeqHole two) → opened_seq h ≡ closed (opened_seq h)
ended_seq (FirstSeq h) = ended_expr h
ended_seq (NextSeq e at h) = ended_expr h

ended_item : {two : Bool} (h : ItemHole two) → opened_item h ≡ closed (opened_item h)
ended_item (FirstItem h) = ended_seq h
ended_item (NextItem s at h) = ended_seq h

ended_group : {two : Bool} (h : GroupHole two) → opened_group h ≡ closed (opened_group h)
ended_group (AsPrim h) = ended_item h
ended_group (OfHold at o t c colon h) = ended_item h
ended_group (OfBody at h) = ended_item h
ended_group (OfTrap at body a h) = ended_item h
ended_group (OfAfter at body a trap th h) = ended_item h

ended_term : {two : Bool} (h : TermHole two) → opened_term h ≡ closed (opened_term h)
ended_term (OfTerminal at h) = ended_item h
ended_term (OfGuard hold_at at h) = ended_item h
ended_term (InRound at h) = refl

ended_all : {two : Bool} (h : AllHole two) → opened_all h ≡ closed (opened_all h)
ended_all (FirstAll h) = ended_term h
ended_all (NextAll t at h) = ended_term h

ended_unit : {two : Bool} (h : UnitHole two) → opened_all (unit_hole h) ≡ closed (opened_unit h)
ended_unit (UnderNot at h) = ended_unit h
ended_unit (FirstUnit h) = ended_all h
ended_unit (NextUnit a at h) = ended_all h

of_unit : {two : Bool} (h : UnitHole two) (u : UnitPhrase two) → opened_at (with_unit h u) ≡ closed (opened_unit h)
of_unit (UnderNot at h) u = of_unit h (Negated at u)
of_unit (FirstUnit h) u = ended_all h
of_unit (NextUnit a at h) u = ended_all h

of_group : {two : Bool} (h : GroupHole two) (g : GroupPhrase two) → opened_at (with_group h g) ≡ opened_group h
of_group (AsPrim h) g = refl
of_group (OfHold at o t c colon h) g = refl
of_group (OfBody at h) g = refl
of_group (OfTrap at body a h) g = refl
of_group (OfAfter at body a trap th h) g = refl

of_name : {two : Bool} (h : NameHole two) (n : Span) → opened_at (with_name h n) ≡ []
of_name (FirstName f at) n = refl
of_name (NextName f at ns c) n = refl

in_term : {two : Bool} (h : AllHole two) → opened_term (term_hole h) ≡ opened_all h
in_term (FirstAll h) = refl
in_term (NextAll t at h) = refl

in_seq : {two : Bool} (h : ItemHole two) → opened_seq (seq_hole h) ≡ opened_item h
in_seq (FirstItem h) = refl
in_seq (NextItem s at h) = refl

in_expr : {two : Bool} (h : SeqHole two) → opened_expr (expr_hole h) ≡ opened_seq h
in_expr (FirstSeq h) = refl
in_expr (NextSeq e at h) = refl

-- ---- a step

-- the token is too deep where it would be over, and the place has open what is open behind it
abbrev OpensBy : Bool → List Opened → TokenKind → Place → Type 0
OpensBy deep s k q = (deep ≡ is_over k s) × (opened_at q ≡ behind k s)

mapped : {A : Type 0} (o : Option A) (f : A → Place) (P : Place → Type 0) → ((x : A) → P (f x))
    → IfSome (option_map f o) P
mapped None f P g = tt
mapped (Some x) f P g = g x

close_round-opens : {two : Bool} (h : TermHole two) (t : TermPhrase two) (at : Span) (s : List Opened)
    → opened_term h ≡ s → IfSome (close_round h t at) (OpensBy false s CloseRound)
close_round-opens (InRound o h) t at s e = rw (sym e) (refl, of_unit h (Bracketed o t at))
close_round-opens _ t at s e = tt

close_square-opens : {two : Bool} (h : TermHole two) (t : TermPhrase two) (at : Span) (s : List Opened)
    → opened_term h ≡ s → IfSome (close_square h t at) (OpensBy false s CloseSquare)
close_square-opens (InRound o h) t at s e = tt
close_square-opens (OfTerminal o h) t at s e = (refl, e)
close_square-opens (OfGuard a o h) t at s e = (refl, e)

end_unit-opens : {two : Bool} (a : AllPhrase two) (h : AllHole two) (k : TokenKind) (at : Span) (s : List Opened)
    → opened_all h ≡ s → IfSome (end_unit a h k at) (OpensBy false s k)
end_unit-opens a h Ampersand at s e = (refl, e)
end_unit-opens a h Bar at s e = (refl, in_term h ∙ e)
end_unit-opens a h CloseRound at s e = close_round-opens (term_hole h) (with_all h a) at s (in_term h ∙ e)
end_unit-opens a h CloseSquare at s e = close_square-opens (term_hole h) (with_all h a) at s (in_term h ∙ e)
end_unit-opens a h _ at s e = tt

close_group-opens : {two : Bool} (h : ExprHole two) (x : ExprPhrase two) (at : Span) (s : List Opened)
    → opened_expr h ≡ s → IfSome (close_group h x at) (OpensBy false s CloseRound)
close_group-opens (OfGroup o g) x at s e = rw (sym e) (refl, of_group g _ ∙ ended_group g)
close_group-opens _ x at s e = tt

close_expr-opens : {two : Bool} (h : ExprHole two) (x : ExprPhrase two) (at : Span) (s : List Opened)
    → opened_expr h ≡ s → IfSome (close_expr h x at) (OpensBy false s Semicolon)
close_expr-opens (OfGroup o g) x at s e = tt
close_expr-opens (OfProd f p n q) x at s e = (refl, e)
close_expr-opens (OfMain f m q) x at s e = (refl, e)

start_item-opens : {two : Bool} (h : ItemHole two) (k : TokenKind) (at : Span)
    → IfSome (start_item h k at) (OpensBy (is_too_deep (WantsItem h) k) (opened_item h) k)
start_item-opens h OpenSquare at = (refl, refl)
start_item-opens h OpenCurly at = (refl, refl)
start_item-opens h Name at = (refl, ended_item h)
start_item-opens h OpenRound at = (ap (λ n. nat_lt 63 n) (deep_item h), refl)
start_item-opens h HoldWord at = (refl, refl)
start_item-opens h TryWord at = (refl, refl)
start_item-opens h _ at = tt

end_item-opens : {two : Bool} (i : ItemPhrase two) (h : ItemHole two) (k : TokenKind) (at : Span)
    → IfSome (end_item i h k at) (OpensBy false (opened_item h) k)
end_item-opens i h Comma at = (refl, in_seq h)
end_item-opens i h Bar at = (refl, in_expr (seq_hole h) ∙ in_seq h)
end_item-opens i h CloseRound at = close_group-opens (expr_hole (seq_hole h)) _ at _
    (in_expr (seq_hole h) ∙ in_seq h)
end_item-opens i h Semicolon at = close_expr-opens (expr_hole (seq_hole h)) _ at _ (in_expr (seq_hole h) ∙ in_seq h)
end_item-opens i h _ at = tt

deep_now : (m n : ℕ) → m ≡ n → nat_lt 63 m ≡ nat_lt 63 n
deep_now m n e = ap (λ k. nat_lt 63 k) e

of_number : {two : Bool} (h : UnitHole two) (u : UnitPhrase two)
    → opened_at (with_unit h u) ≡ closed (closed (opened_unit h))
of_number h u = of_unit h u ∙ sym (closed-twice (opened_unit h))

step-opens : (p : Place) (k : TokenKind) (at : Span)
    → IfSome (step p k at) (OpensBy (is_too_deep p k) (opened_at p) k)
step-opens Start SpecWord at = (refl, refl)
step-opens (AfterSpec a) One at = (refl, refl)
step-opens (AfterSpec a) Two at = (refl, refl)
step-opens (AfterVersion two a b) Semicolon at = (refl, refl)
step-opens (InDecls f) InputWord at = (refl, refl)
step-opens (InDecls f) ActionWord at = (refl, refl)
step-opens (InDecls f) LevelWord at = (refl, refl)
step-opens (InDecls f) ProdWord at = (refl, refl)
step-opens (InDecls f) MainWord at = (refl, refl)
step-opens (WantsInput h) Name at = (refl, refl)
step-opens (AfterInputName {two} n h) Colon at = mapped (second two) _ _ (λ s. (refl, refl))
step-opens (AfterInputName n h) Comma at = (refl, refl)
step-opens (AfterInputName n h) Semicolon at = (refl, refl)
step-opens (WantsWidth s n c h) One at = (refl, refl)
step-opens (WantsWidth s n c h) Two at = (refl, refl)
step-opens (WantsWidth s n c h) (Digit d) at = (refl, refl)
step-opens (AfterInput i h) Comma at = (refl, refl)
step-opens (AfterInput i h) Semicolon at = (refl, refl)
step-opens (WantsName h) Name at = (refl, of_name h at)
step-opens (AfterName ns f a) Comma at = (refl, refl)
step-opens (AfterName ns f a) Semicolon at = (refl, refl)
step-opens (AfterLevel f a) Name at = (refl, refl)
step-opens (AfterLevelName f a n) Equals at = (refl, refl)
step-opens (AfterLevelEquals f a n q) Zero at = (refl, refl)
step-opens (AfterLevelEquals f a n q) One at = (refl, refl)
step-opens (AfterLevelBit f a n q b to) OpenCurly at = (refl, refl)
step-opens (InLevel l ss) Name at = (refl, refl)
step-opens (InLevel l ss) CloseCurly at = (refl, refl)
step-opens (AfterSetName l ss n) Colon at = (refl, refl)
step-opens (AfterSetColon l ss n c) Zero at = (refl, refl)
step-opens (AfterSetColon l ss n c) One at = (refl, refl)
step-opens (AfterSetBit l ss n c b to) Semicolon at = (refl, refl)
step-opens (AfterProd f a) Name at = (refl, refl)
step-opens (AfterProdName f a n) Equals at = (refl, refl)
step-opens (AfterMain f a) Equals at = (refl, refl)
step-opens (WantsItem h) k at = start_item-opens h k at
step-opens (WantsGroup g) OpenRound at = (deep_now _ _ (deep_group g), refl)
step-opens (InGroup o g) CloseRound at = (refl, of_group g _ ∙ ended_group g)
step-opens (InGroup o g) k at = start_item-opens (FirstItem (FirstSeq (OfGroup o g))) k at
step-opens (InCurly o h) Name at = (refl, ended_item h)
step-opens (AfterActionName o n h) CloseCurly at = (refl, refl)
step-opens (AfterHold a h) OpenSquare at = (refl, refl)
step-opens (AfterGuard a o t c h) Colon at = (refl, refl)
step-opens (AfterBody a body h) AbortWord at = (refl, refl)
step-opens (AfterTrap a body b trap h) ThenWord at = (refl, refl)
step-opens (AfterPrim p h) Star at = (refl, refl)
step-opens (AfterPrim p h) Plus at = (refl, refl)
step-opens (AfterPrim p h) Question at = (refl, refl)
step-opens (AfterPrim {two} p h) OpenCurly at = mapped (second two) _ _ (λ s. (refl, refl))
step-opens (AfterPrim p h) k at = end_item-opens (Plain p) h k at
step-opens (WantsLeast s p o h) Zero at = (refl, ended_item h)
step-opens (WantsLeast s p o h) One at = (refl, ended_item h)
step-opens (WantsLeast s p o h) Two at = (refl, ended_item h)
step-opens (WantsLeast s p o h) (Digit d) at = (refl, ended_item h)
step-opens (WantsLeast s p o h) (Number d) at = (refl, ended_item h)
step-opens (AfterLeast s p o m a h) Comma at = (refl, refl)
step-opens (WantsMost s p o m a c h) Zero at = (refl, ended_item h)
step-opens (WantsMost s p o m a c h) One at = (refl, ended_item h)
step-opens (WantsMost s p o m a c h) Two at = (refl, ended_item h)
step-opens (WantsMost s p o m a c h) (Digit d) at = (refl, ended_item h)
step-opens (WantsMost s p o m a c h) (Number d) at = (refl, ended_item h)
step-opens (AfterMost s p o m a c n b h) CloseCurly at = (refl, refl)
step-opens (AfterItem i h) Comma at = end_item-opens i h Comma at
step-opens (AfterItem i h) Bar at = end_item-opens i h Bar at
step-opens (AfterItem i h) CloseRound at = end_item-opens i h CloseRound at
step-opens (AfterItem i h) Semicolon at = end_item-opens i h Semicolon at
step-opens (WantsUnit h) Tilde at = (deep_now _ _ (deep_unit h), refl)
step-opens (WantsUnit h) OpenRound at = (deep_now _ _ (deep_unit h), refl)
step-opens (WantsUnit h) Name at = (refl, refl)
step-opens (WantsUnit h) Zero at = (refl, of_unit h (Bit false at))
step-opens (WantsUnit h) One at = (refl, of_unit h (Bit true at))
step-opens (AfterUnitName {two} n h) Equals at = mapped (second two) _ _ (λ s. (refl, refl))
step-opens (AfterUnitName n h) k at = end_unit-opens (unit_all h (Named n)) (unit_hole h) k at _ (ended_unit h)
step-opens (WantsNumber s n e h) Zero at = (refl, of_number h (Compared s n e ZeroNumeral at))
step-opens (WantsNumber s n e h) One at = (refl, of_number h (Compared s n e OneNumeral at))
step-opens (WantsNumber s n e h) Two at = (refl, of_number h (Compared s n e TwoNumeral at))
step-opens (WantsNumber s n e h) (Digit d) at = (refl, of_number h (Compared s n e (DigitNumeral d) at))
step-opens (WantsNumber s n e h) (Number d) at = (refl, of_number h (Compared s n e (LongNumeral d) at))
step-opens (AfterUnit a h) Ampersand at = end_unit-opens a h Ampersand at _ refl
step-opens (AfterUnit a h) Bar at = end_unit-opens a h Bar at _ refl
step-opens (AfterUnit a h) CloseRound at = end_unit-opens a h CloseRound at _ refl
step-opens (AfterUnit a h) CloseSquare at = end_unit-opens a h CloseSquare at _ refl
step-opens _ _ _ = tt

-- ---- a walk

walk-opens : (ts : List Token) (p q : Place) → walk p ts ≡ Some q → opened_at q ≡ opened_from (opened_at p) ts
walk-opens [] p q e = let same : p ≡ q = cc in ap opened_at (sym same)
walk-opens (t ∷ ts) p q e =
    let x = at_some (step p t.kind t.span) (λ r. walk r ts) _ q (step-opens p t.kind t.span) e in
    walk-opens ts x.0 q x.2 ∙ ap (λ s. opened_from s ts) x.3.1

-- behind a walk from the start the same is open as behind its tokens
pub walk-opened : (ts : List Token) (p : Place) → walk Start ts ≡ Some p → opened_at p ≡ opened ts
walk-opened ts p e = walk-opens ts Start p e

-- so a token that may stand there is too deep exactly where it would be over
pub deep-over : (ts : List Token) (k : TokenKind) (at : Span) (p q : Place) → walk Start ts ≡ Some p
    → step p k at ≡ Some q → is_too_deep p k ≡ is_over k (opened ts)
deep-over ts k at p q e s =
    let opens = subst (λ o. IfSome o (OpensBy (is_too_deep p k) (opened_at p) k)) s (step-opens p k at) in
    opens.0 ∙ ap (is_over k) (walk-opened ts p e)

-- ---- reading

-- tokens that are read are shallow
read_shallow : (end : ℕ) (ts : List Token) (p : Place) (w : TextPhrase) → read end p ts ≡ Ok w
    → Shallow (opened_at p) ts
read_shallow end [] p w e = tt
read_shallow end (t ∷ ts) p w e =
    by (λ q. read_shallow end ts q w) (is_too_deep p t.kind) (step p t.kind t.span) refl (step-opens p t.kind t.span) e
  where
    by : ((q : Place) → read end q ts ≡ Ok w → Shallow (opened_at q) ts) → (b : Bool) (o : Option Place)
        → is_too_deep p t.kind ≡ b → IfSome o (OpensBy (is_too_deep p t.kind) (opened_at p) t.kind)
        → bind (λ q. read end q ts) (cond b (Err (refusal 4 t.span)) (stepped o t.span)) ≡ Ok w
        → Shallow (opened_at p) (t ∷ ts)
    by on true o d opens e = absurd cc
    by on false None d opens e = absurd cc
    by on false (Some q) d opens e = (sym opens.0 ∙ d, subst (λ s. Shallow s ts) opens.1 (on q e))

-- and a text whose tokens are shallow is read
shallow_read : (end : ℕ) (ts : List Token) (p : Place) (w : TextPhrase) → walk p ts ≡ Some (Whole w)
    → Shallow (opened_at p) ts → read end p ts ≡ Ok w
shallow_read end [] p w e s = let same : p ≡ Whole w = cc in rw same refl
shallow_read end (t ∷ ts) p w e s =
    by (λ q. shallow_read end ts q w) (is_too_deep p t.kind) (step p t.kind t.span) refl (step-opens p t.kind t.span) e
  where
    by : ((q : Place) → walk q ts ≡ Some (Whole w) → Shallow (opened_at q) ts → read end q ts ≡ Ok w) → (b : Bool)
        (o : Option Place)
        → is_too_deep p t.kind ≡ b → IfSome o (OpensBy (is_too_deep p t.kind) (opened_at p) t.kind)
        → option_and_then (λ q. walk q ts) o ≡ Some (Whole w)
        → bind (λ q. read end q ts) (cond b (Err (refusal 4 t.span)) (stepped o t.span)) ≡ Ok w
    by on b None d opens e = absurd cc
    by on true (Some q) d opens e = let over = sym d ∙ (opens.0 ∙ s.0) in absurd cc
    by on false (Some q) d opens e = on q e (subst (λ x. Shallow x ts) (sym opens.1) s.1)

pub text_shallow : (end : ℕ) (ts : List Token) (w : TextPhrase) → read end Start ts ≡ Ok w → Shallow [] ts
text_shallow end ts w e = read_shallow end ts Start w e

pub shallow_text : (end : ℕ) (ts : List Token) (w : TextPhrase) → walk Start ts ≡ Some (Whole w) → Shallow [] ts
    → read end Start ts ≡ Ok w
shallow_text end ts w e s = shallow_read end ts Start w e s
