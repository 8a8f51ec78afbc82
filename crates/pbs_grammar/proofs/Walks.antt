-- A step adds its token to what stood before, and so does a walk.
use Rattle.std.proofs.Common.{◌≡◌, List, [], ◌∷◌, ◌++◌, Bool, Option, Some, None, refl, sym, ap, ◌∙◌, append_assoc}
use Rattle.std.proofs.Common.{append-nil, false, true}
use Rattle.std.specs.Prelude.{IfSome, option_map, option_and_then, ⊤}
use Rattle.pbs_base.specs.declared.refusal.Span.{Span}
use Rattle.pbs_text.specs.declared.token.Token.{Token}
use Rattle.pbs_text.specs.declared.token.TokenKind.{TokenKind}
use Rattle.pbs_text.specs.declared.token.TokenKind.TheVariants.{Name, Zero, One, Two, Digit, Number, SpecWord}
use Rattle.pbs_text.specs.declared.token.TokenKind.TheVariants.{InputWord, ActionWord, LevelWord, ProdWord, MainWord}
use Rattle.pbs_text.specs.declared.token.TokenKind.TheVariants.{HoldWord, TryWord, AbortWord, ThenWord, Semicolon}
use Rattle.pbs_text.specs.declared.token.TokenKind.TheVariants.{Comma, Equals, OpenCurly, CloseCurly, OpenRound}
use Rattle.pbs_text.specs.declared.token.TokenKind.TheVariants.{CloseRound, OpenSquare, CloseSquare, Bar, Star, Plus}
use Rattle.pbs_text.specs.declared.token.TokenKind.TheVariants.{Question, Tilde, Ampersand, Colon}
use Rattle.pbs_text.specs.Grammar.{token, bit_kind, version_kind, numeral_kind, width_kind, UnitPhrase, Negated}
use Rattle.pbs_text.specs.Grammar.{Bracketed, Named, Bit, Compared, AllPhrase, TermPhrase, ExprPhrase, SeqPhrase}
use Rattle.pbs_text.specs.Grammar.{ItemPhrase, Plain, PrimPhrase, GroupPhrase, EmptyGroup, FullGroup, InputPhrase}
use Rattle.pbs_text.specs.Grammar.{OneWire, unit_tokens, all_tokens, term_tokens, expr_tokens, seq_tokens, item_tokens}
use Rattle.pbs_text.specs.Grammar.{group_tokens, input_tokens, inputs_tokens, sets_tokens}
use Rattle.pbs_text.specs.places.Holes.{Front, ExprHole, OfGroup, OfProd, OfMain, SeqHole, FirstSeq, NextSeq, ItemHole}
use Rattle.pbs_text.specs.places.Holes.{FirstItem, NextItem, GroupHole, AsPrim, OfHold, OfBody, OfTrap, OfAfter}
use Rattle.pbs_text.specs.places.Holes.{TermHole, OfTerminal, OfGuard, InRound, AllHole, FirstAll, NextAll, UnitHole}
use Rattle.pbs_text.specs.places.Holes.{UnderNot, FirstUnit, NextUnit, front_tokens, before_expr, before_seq}
use Rattle.pbs_text.specs.places.Holes.{before_item, before_group, before_term, before_all, before_unit}
use Rattle.pbs_text.specs.places.Places.{InputHole, FirstInput, NextInput, NameHole, FirstName, NextName, Place, Start}
use Rattle.pbs_text.specs.places.Places.{AfterSpec, AfterVersion, InDecls, WantsInput, AfterInputName, WantsWidth}
use Rattle.pbs_text.specs.places.Places.{AfterInput, WantsName, AfterName, AfterLevel, AfterLevelName, AfterLevelEquals}
use Rattle.pbs_text.specs.places.Places.{AfterLevelBit, InLevel, AfterSetName, AfterSetColon, AfterSetBit, AfterProd}
use Rattle.pbs_text.specs.places.Places.{AfterProdName, AfterMain, WantsItem, WantsGroup, InGroup, InCurly}
use Rattle.pbs_text.specs.places.Places.{AfterActionName, AfterHold, AfterGuard, AfterBody, AfterTrap, AfterPrim}
use Rattle.pbs_text.specs.places.Places.{WantsLeast, AfterLeast, WantsMost, AfterMost, AfterItem, WantsUnit}
use Rattle.pbs_text.specs.places.Places.{AfterUnitName, WantsNumber, AfterUnit, before_input, before_name, level_tokens}
use Rattle.pbs_text.specs.places.Places.{before}
use Rattle.pbs_text.specs.places.Steps.{second, bit_of, version_of, numeral_of, width_of, unit_hole, unit_all}
use Rattle.pbs_text.specs.places.Steps.{with_unit, with_group, with_all, term_hole, with_item, seq_hole, with_seq}
use Rattle.pbs_text.specs.places.Steps.{expr_hole, with_input, input_front, input_at, with_name, close_round}
use Rattle.pbs_text.specs.places.Steps.{close_square, close_group, close_expr, end_unit, compare, start_item, end_item}
use Rattle.pbs_text.specs.places.Steps.{count, end_input, widen, start_decl, step, walk}

-- ---- what stands before the place behind a phrase

before-with_unit : {two : Bool} (h : UnitHole two) (u : UnitPhrase two)
    → before (with_unit h u) ≡ before_unit h ++ unit_tokens u
before-with_unit (UnderNot at h) u = before-with_unit h (Negated at u)
    ∙ sym (append_assoc (before_unit h) _ (unit_tokens u))
before-with_unit (FirstUnit h) u = refl
before-with_unit (NextUnit a at h) u = simp append_assoc

before-with_group : {two : Bool} (h : GroupHole two) (g : GroupPhrase two)
    → before (with_group h g) ≡ before_group h ++ group_tokens g
before-with_group (AsPrim h) g = refl
before-with_group (OfHold at o t c colon h) g = simp append_assoc
before-with_group (OfBody at h) g = simp append_assoc
before-with_group (OfTrap at body a h) g = simp append_assoc
before-with_group (OfAfter at body a trap th h) g = simp append_assoc

before-with_all : {two : Bool} (h : AllHole two) (a : AllPhrase two)
    → before_all h ++ all_tokens a ≡ before_term (term_hole h) ++ term_tokens (with_all h a)
before-with_all (FirstAll h) a = refl
before-with_all (NextAll t at h) a = simp append_assoc

before-with_item : {two : Bool} (h : ItemHole two) (i : ItemPhrase two)
    → before_item h ++ item_tokens i ≡ before_seq (seq_hole h) ++ seq_tokens (with_item h i)
before-with_item (FirstItem h) i = refl
before-with_item (NextItem s at h) i = simp append_assoc

before-with_seq : {two : Bool} (h : SeqHole two) (s : SeqPhrase two)
    → before_seq h ++ seq_tokens s ≡ before_expr (expr_hole h) ++ expr_tokens (with_seq h s)
before-with_seq (FirstSeq h) s = refl
before-with_seq (NextSeq e at h) s = simp append_assoc

before-with_input : {two : Bool} (h : InputHole two) (i : InputPhrase two)
    → before_input h ++ input_tokens i ≡ front_tokens (input_front h) ++ token InputWord (input_at h) ∷ inputs_tokens
    (with_input h i)
before-with_input (FirstInput f at) i = simp append_assoc
before-with_input (NextInput f at is c) i = simp append_assoc

before-with_name : {two : Bool} (h : NameHole two) (n : Span)
    → before (with_name h n) ≡ before_name h ++ token Name n ∷ []
before-with_name (FirstName f at) n = simp append_assoc
before-with_name (NextName f at ns c) n = simp append_assoc

-- ---- what a kind of token stands for

pub bit_back : (k : TokenKind) → IfSome (bit_of k) (λ b. bit_kind b ≡ k)
bit_back Zero = refl
bit_back One = refl
bit_back _ = tt

pub version_back : (k : TokenKind) → IfSome (version_of k) (λ v. version_kind v ≡ k)
version_back One = refl
version_back Two = refl
version_back _ = tt

pub numeral_back : (k : TokenKind) → IfSome (numeral_of k) (λ n. numeral_kind n ≡ k)
numeral_back Zero = refl
numeral_back One = refl
numeral_back Two = refl
numeral_back (Digit n) = refl
numeral_back (Number n) = refl
numeral_back _ = tt

pub width_back : (k : TokenKind) → IfSome (width_of k) (λ w. width_kind w ≡ k)
width_back One = refl
width_back Two = refl
width_back (Digit n) = refl
width_back _ = tt

pub any : {A : Type 0} (o : Option A) → IfSome o (λ _. ⊤)
any None = tt
any (Some x) = tt

mapped : {A : Type 0} (o : Option A) (f : A → Place) (Q : A → Type 0) (P : Place → Type 0) → IfSome o Q
    → ((x : A) → Q x → P (f x)) → IfSome (option_map f o) P
mapped None f Q P h g = tt
mapped (Some x) f Q P h g = g x h

-- ---- a step adds its token

-- a place that adds a token to what stood before
abbrev Adds : List Token → TokenKind → Span → Place → Type 0
Adds front k at q = before q ≡ front ++ token k at ∷ []

close_round-before : {two : Bool} (h : TermHole two) (t : TermPhrase two) (at : Span) (front : List Token)
    → front ≡ before_term h ++ term_tokens t → IfSome (close_round h t at) (Adds front CloseRound at)
close_round-before (InRound o h) t at front e = before-with_unit h (Bracketed o t at) ∙ rw e (simp append_assoc)
close_round-before _ t at front e = tt

close_square-before : {two : Bool} (h : TermHole two) (t : TermPhrase two) (at : Span) (front : List Token)
    → front ≡ before_term h ++ term_tokens t → IfSome (close_square h t at) (Adds front CloseSquare at)
close_square-before (InRound o h) t at front e = tt
close_square-before (OfTerminal o h) t at front e = rw e (simp append_assoc)
close_square-before (OfGuard a o h) t at front e = rw e (simp append_assoc)

close_group-before : {two : Bool} (h : ExprHole two) (e : ExprPhrase two) (at : Span) (front : List Token)
    → front ≡ before_expr h ++ expr_tokens e → IfSome (close_group h e at) (Adds front CloseRound at)
close_group-before (OfGroup o g) e at front f = before-with_group g (FullGroup o e at) ∙ rw f (simp append_assoc)
close_group-before _ e at front f = tt

close_expr-before : {two : Bool} (h : ExprHole two) (e : ExprPhrase two) (at : Span) (front : List Token)
    → front ≡ before_expr h ++ expr_tokens e → IfSome (close_expr h e at) (Adds front Semicolon at)
close_expr-before (OfGroup o g) e at front f = tt
close_expr-before (OfProd r p n q) e at front f = rw f (simp append_assoc)
close_expr-before (OfMain r m q) e at front f = rw f (simp append_assoc)

end_unit-before : {two : Bool} (a : AllPhrase two) (h : AllHole two) (k : TokenKind) (at : Span) (front : List Token)
    → front ≡ before_all h ++ all_tokens a → IfSome (end_unit a h k at) (Adds front k at)
end_unit-before a h Ampersand at front e = rw e (sym (append_assoc (before_all h) _ _))
end_unit-before a h Bar at front e = rw e (rw (before-with_all h a)
    (sym (append_assoc (before_term (term_hole h)) _ _)))
end_unit-before a h CloseRound at front e = close_round-before (term_hole h) (with_all h a) at front
    (e ∙ before-with_all h a)
end_unit-before a h CloseSquare at front e = close_square-before (term_hole h) (with_all h a) at front
    (e ∙ before-with_all h a)
end_unit-before a h _ at front e = tt

start_item-before : {two : Bool} (h : ItemHole two) (k : TokenKind) (at : Span)
    → IfSome (start_item h k at) (Adds (before_item h) k at)
start_item-before h OpenSquare at = refl
start_item-before h OpenCurly at = refl
start_item-before h Name at = refl
start_item-before h OpenRound at = refl
start_item-before h HoldWord at = refl
start_item-before h TryWord at = refl
start_item-before h _ at = tt

end_item-before : {two : Bool} (i : ItemPhrase two) (h : ItemHole two) (k : TokenKind) (at : Span)
    → IfSome (end_item i h k at) (Adds (before_item h ++ item_tokens i) k at)
end_item-before i h Comma at = rw (before-with_item h i) (sym (append_assoc (before_seq (seq_hole h)) _ _))
end_item-before i h Bar at = rw (before-with_item h i, before-with_seq (seq_hole h) (with_item h i))
    (sym (append_assoc (before_expr (expr_hole (seq_hole h))) _ _))
end_item-before i h CloseRound at = close_group-before (expr_hole (seq_hole h)) _ at _
    (before-with_item h i ∙ before-with_seq (seq_hole h) (with_item h i))
end_item-before i h Semicolon at = close_expr-before (expr_hole (seq_hole h)) _ at _
    (before-with_item h i ∙ before-with_seq (seq_hole h) (with_item h i))
end_item-before i h _ at = tt

end_input-before : {two : Bool} (i : InputPhrase two) (h : InputHole two) (k : TokenKind) (at : Span)
    → IfSome (end_input i h k at) (Adds (before_input h ++ input_tokens i) k at)
end_input-before i h Comma at = rw (before-with_input h i) (simp append_assoc)
end_input-before i h Semicolon at = rw (before-with_input h i) (simp append_assoc)
end_input-before i h _ at = tt

start_decl-before : {two : Bool} (f : Front two) (k : TokenKind) (at : Span)
    → IfSome (start_decl f k at) (Adds (front_tokens f) k at)
start_decl-before f InputWord at = refl
start_decl-before f ActionWord at = refl
start_decl-before f LevelWord at = refl
start_decl-before f ProdWord at = refl
start_decl-before f MainWord at = refl
start_decl-before f _ at = tt

compare-before : {two : Bool} (n : Span) (h : UnitHole two) (at : Span)
    → IfSome (compare n h at) (Adds (before (AfterUnitName n h)) Equals at)
compare-before {two} n h at = mapped (second two) _ (λ _. ⊤) _ (any (second two)) (λ s _. simp append_assoc)

count-before : {two : Bool} (p : PrimPhrase two) (h : ItemHole two) (at : Span)
    → IfSome (count p h at) (Adds (before (AfterPrim p h)) OpenCurly at)
count-before {two} p h at = mapped (second two) _ (λ _. ⊤) _ (any (second two)) (λ s _. simp append_assoc)

widen-before : {two : Bool} (n : Span) (h : InputHole two) (at : Span)
    → IfSome (widen n h at) (Adds (before (AfterInputName n h)) Colon at)
widen-before {two} n h at = mapped (second two) _ (λ _. ⊤) _ (any (second two)) (λ s _. simp append_assoc)

inner : (a b x y : List Token) → a ++ (b ++ (x ++ y)) ≡ (a ++ (b ++ x)) ++ y
inner a b x y = simp append_assoc

step-before : (p : Place) (k : TokenKind) (at : Span) → IfSome (step p k at) (Adds (before p) k at)
step-before Start SpecWord at = refl
step-before (AfterSpec a) k at = mapped (version_of k) _ _ _ (version_back k) (λ v e. rw e refl)
step-before (AfterVersion two a b) Semicolon at = refl
step-before (InDecls f) k at = start_decl-before f k at
step-before (WantsInput h) Name at = refl
step-before (AfterInputName n h) Colon at = widen-before n h at
step-before (AfterInputName n h) k at = end_input-before (OneWire n) h k at
step-before (WantsWidth s n c h) k at = mapped (width_of k) _ _ _ (width_back k) (λ w e. rw e (simp append_assoc))
step-before (AfterInput i h) k at = end_input-before i h k at
step-before (WantsName h) Name at = before-with_name h at
step-before (AfterName ns f a) Comma at = simp append_assoc
step-before (AfterName ns f a) Semicolon at = simp append_assoc
step-before (AfterLevel f a) Name at = simp append_assoc
step-before (AfterLevelName f a n) Equals at = simp append_assoc
step-before (AfterLevelEquals f a n q) k at = mapped (bit_of k) _ _ _ (bit_back k) (λ b e. rw e (simp append_assoc))
step-before (AfterLevelBit f a n q b to) OpenCurly at = simp (append_assoc, append-nil)
step-before (InLevel l ss) Name at = sym (append_assoc (level_tokens l) (sets_tokens ss) (token Name at ∷ []))
step-before (InLevel l ss) CloseCurly at = simp append_assoc
step-before (AfterSetName l ss n) Colon at = inner (level_tokens l) (sets_tokens ss) (token Name n ∷ [])
    (token Colon at ∷ [])
step-before (AfterSetColon l ss n c) k at =
    mapped (bit_of k) _ _ _ (bit_back k)
    (λ b e. rw e (inner (level_tokens l) (sets_tokens ss) (token Name n ∷ token Colon c ∷ []) (token k at ∷ [])))
step-before (AfterSetBit l ss n c b to) Semicolon at =
    inner (level_tokens l) (sets_tokens ss) (token Name n ∷ token Colon c ∷ token (bit_kind b) to ∷ [])
    (token Semicolon at ∷ [])
step-before (AfterProd f a) Name at = simp append_assoc
step-before (AfterProdName f a n) Equals at = simp append_assoc
step-before (AfterMain f a) Equals at = simp append_assoc
step-before (WantsItem h) k at = start_item-before h k at
step-before (WantsGroup g) OpenRound at = refl
step-before (InGroup o g) CloseRound at = before-with_group g (EmptyGroup o at) ∙ simp append_assoc
step-before (InGroup o g) k at = start_item-before (FirstItem (FirstSeq (OfGroup o g))) k at
step-before (InCurly o h) Name at = simp append_assoc
step-before (AfterActionName o n h) CloseCurly at = simp append_assoc
step-before (AfterHold a h) OpenSquare at = simp append_assoc
step-before (AfterGuard a o t c h) Colon at = simp append_assoc
step-before (AfterBody a body h) AbortWord at = simp append_assoc
step-before (AfterTrap a body b trap h) ThenWord at = simp append_assoc
step-before (AfterPrim p h) Star at = simp append_assoc
step-before (AfterPrim p h) Plus at = simp append_assoc
step-before (AfterPrim p h) Question at = simp append_assoc
step-before (AfterPrim p h) OpenCurly at = count-before p h at
step-before (AfterPrim p h) k at = end_item-before (Plain p) h k at
step-before (WantsLeast s p o h) k at = mapped (numeral_of k) _ _ _ (numeral_back k) (λ m e. rw e (simp append_assoc))
step-before (AfterLeast s p o m a h) Comma at = simp append_assoc
step-before (WantsMost s p o m a c h) k at = mapped (numeral_of k) _ _ _ (numeral_back k)
    (λ n e. rw e (simp append_assoc))
step-before (AfterMost s p o m a c n b h) CloseCurly at = simp append_assoc
step-before (AfterItem i h) k at = end_item-before i h k at
step-before (WantsUnit h) Tilde at = refl
step-before (WantsUnit h) OpenRound at = refl
step-before (WantsUnit h) Name at = refl
step-before (WantsUnit h) Zero at = before-with_unit h (Bit false at)
step-before (WantsUnit h) One at = before-with_unit h (Bit true at)
step-before (AfterUnitName n h) Equals at = compare-before n h at
step-before (AfterUnitName n h) k at = end_unit-before (unit_all h (Named n)) (unit_hole h) k at _
    (sym (before-with_unit h (Named n)))
step-before (WantsNumber s n e h) k at = mapped (numeral_of k) _ _ _ (numeral_back k)
    (λ m q. before-with_unit h (Compared s n e m at) ∙ rw q (simp append_assoc))
step-before (AfterUnit a h) k at = end_unit-before a h k at _ refl
step-before _ _ _ = tt

-- ---- what a walk has taken

pub at_some : {A B : Type 0} (o : Option A) (f : A → Option B) (P : A → Type 0) (y : B) → IfSome o P
    → option_and_then f o ≡ Some y
    → (x : A) × (o ≡ Some x) × (f x ≡ Some y) × P x
at_some None f P y h e = absurd cc
at_some (Some x) f P y h e = (x, refl, e, h)

-- a walk adds its tokens
pub walk-before : (ts : List Token) (p q : Place) → walk p ts ≡ Some q → before q ≡ before p ++ ts
walk-before [] p q e = let s : p ≡ q = cc in rw (sym s) (sym (append-nil (before p)))
walk-before (t ∷ ts) p q e =
    let x = at_some (step p t.kind t.span) (λ r. walk r ts) _ q (step-before p t.kind t.span) e in
    walk-before ts x.0 q x.2 ∙ rw (x.3) (append_assoc (before p) (t ∷ []) ts)

-- a walk over two lists is two walks
pub walk-append : (a b : List Token) (p q : Place) → walk p (a ++ b) ≡ Some q
    → (r : Place) × (walk p a ≡ Some r) × (walk r b ≡ Some q)
walk-append [] b p q e = (p, refl, e)
walk-append (t ∷ ts) b p q e =
    let x = at_some (step p t.kind t.span) (λ r. walk r (ts ++ b)) (λ _. ⊤) q (any (step p t.kind t.span)) e in
    let rest = walk-append ts b x.0 q x.2 in
    (rest.0, ap (option_and_then (λ r. walk r ts)) x.1 ∙ rest.1, rest.2)
