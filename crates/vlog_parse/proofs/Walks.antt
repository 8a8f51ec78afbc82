-- A step adds its token to what stood before, and so does a walk.
use Rattle.std.proofs.Common.{◌≡◌, List, [], ◌∷◌, ◌++◌, Bool, Option, Some, None, refl, sym, ap, ◌∙◌, append_assoc}
use Rattle.std.proofs.Common.{append-nil, false, true, ltb, inl, inr}
use Rattle.std.specs.Prelude.{IfSome, IsTrue, not, option_map, option_and_then, ⊤, ◌⊎◌, if◌then◌else◌}
use Rattle.pbs_base.specs.declared.refusal.Span.{Span}
use Rattle.net_core.specs.declared.gate.GateKind.{GateKind}
use Rattle.vlog_text.specs.declared.token.Token.{Token}
use Rattle.vlog_text.specs.declared.token.TokenKind.{TokenKind}
use Rattle.vlog_text.specs.declared.token.TokenKind.TheVariants.{Name, Clock, Bit, DeclWord, GateWord, ModuleWord}
use Rattle.vlog_text.specs.declared.token.TokenKind.TheVariants.{EndmoduleWord, AssignWord, AlwaysWord, PosedgeWord}
use Rattle.vlog_text.specs.declared.token.TokenKind.TheVariants.{OpenRound, CloseRound, Comma, Semicolon, Equals, Tilde}
use Rattle.vlog_text.specs.declared.token.TokenKind.TheVariants.{Ampersand, Caret, Bar, At, Arrow}
use Rattle.vlog_text.specs.Grammar.{token, NamePhrase, name_token, OperandPhrase, operand_token, UnitPhrase, Negated}
use Rattle.vlog_text.specs.Grammar.{Bracketed, Lone, AndPhrase, XorPhrase, OrPhrase, unit_tokens, and_tokens}
use Rattle.vlog_text.specs.Grammar.{xor_tokens}
use Rattle.vlog_text.specs.Grammar.{or_tokens, is_single, operands_tokens, ItemPhrase, item_tokens, names_tokens}
use Rattle.vlog_text.specs.Grammar.{items_tokens, instance_tokens}
use Rattle.vlog_parse.specs.inner.Places.{Head, OrHole, OfAssign, InRound, XorHole, FirstXor, NextXor, AndHole}
use Rattle.vlog_parse.specs.inner.Places.{FirstAnd, NextAnd, UnitHole, FirstUnit, NextUnit, UnderNot, PortHole}
use Rattle.vlog_parse.specs.inner.Places.{FirstPort}
use Rattle.vlog_parse.specs.inner.Places.{NextPort, DeclHole, FirstDecl, NextDecl, PinFront, Place, Start}
use Rattle.vlog_parse.specs.inner.Places.{AfterModule, AfterTitle, WantsPort, AfterPort, AfterPorts, InItems, WantsName}
use Rattle.vlog_parse.specs.inner.Places.{AfterName, AfterGateWord, AfterInstance, WantsTarget, AfterTarget, WantsPin}
use Rattle.vlog_parse.specs.inner.Places.{WantsNextPin, AfterPins, AfterPin, AfterManyGate, AfterSingleGate}
use Rattle.vlog_parse.specs.inner.Places.{AfterAssign}
use Rattle.vlog_parse.specs.inner.Places.{AfterAssigned, WantsUnit, AfterUnit, AfterAlways, AfterAt, AfterClockOpen}
use Rattle.vlog_parse.specs.inner.Places.{AfterPosedge, AfterClock, AfterEdge, AfterRegister, AfterArrow, AfterTaken}
use Rattle.vlog_parse.specs.inner.Places.{before, before_or, before_xor, before_and, before_unit, before_port}
use Rattle.vlog_parse.specs.inner.Places.{before_decl}
use Rattle.vlog_parse.specs.inner.Places.{head_tokens, title_tokens, unit_nesting, pin_front_tokens, edge_tokens}
use Rattle.vlog_parse.specs.inner.Places.{gate_front_tokens}
use Rattle.vlog_parse.specs.inner.Steps.{name_at, operand_at, single_or_many, with_port, with_name, unit_hole, unit_and}
use Rattle.vlog_parse.specs.inner.Steps.{with_unit, and_hole, with_and, xor_hole, with_xor, start_item, with_arity}
use Rattle.vlog_parse.specs.inner.Steps.{with_item, always, many_gate, single_gate, start_unit, close_round}
use Rattle.vlog_parse.specs.inner.Steps.{end_assign, end_unit, step, walk}

-- the tokens before a place are these and one more
abbrev Adds : List Token → TokenKind → Span → Place → Type 0
Adds front k at q = before q ≡ front ++ token k at ∷ []

pub any : {A : Type 0} (o : Option A) → IfSome o (λ _. ⊤)
any None = tt
any (Some x) = tt

mapped : {A B : Type 0} (o : Option A) (f : A → B) (P : A → Type 0) (Q : B → Type 0) → IfSome o P
    → ((x : A) → P x → Q (f x)) → IfSome (option_map f o) Q
mapped None f P Q h g = tt
mapped (Some x) f P Q h g = g x h

name_back : (k : TokenKind) (at : Span) → IfSome (name_at k at) (λ n. name_token n ≡ token k at)
name_back Name at = refl
name_back Clock at = refl
name_back _ at = tt

operand_back : (k : TokenKind) (at : Span) → IfSome (operand_at k at) (λ p. operand_token p ≡ token k at)
operand_back Name at = refl
operand_back Clock at = refl
operand_back (Bit b) at = refl
operand_back _ at = tt

before-with_port : (h : PortHole) (n : NamePhrase) → before (with_port h n) ≡ before_port h ++ name_token n ∷ []
before-with_port (FirstPort t) n = refl
before-with_port (NextPort t ns c) n = simp append_assoc

before-with_name : (h : DeclHole) (n : NamePhrase) → before (with_name h n) ≡ before_decl h ++ name_token n ∷ []
before-with_name (FirstDecl f k at) n = simp append_assoc
before-with_name (NextDecl f k at ns c) n = simp append_assoc

pub before-with_unit : (h : UnitHole) (u : UnitPhrase)
    → before_and (unit_hole h) ++ and_tokens (unit_and h u) ≡ before_unit h ++ unit_tokens u
before-with_unit (FirstUnit h) u = refl
before-with_unit (NextUnit a at h) u = simp append_assoc
before-with_unit (UnderNot at h) u = before-with_unit h (Negated at u) ∙ sym (append_assoc (before_unit h) _ _)

before-with_and : (h : AndHole) (a : AndPhrase)
    → before_and h ++ and_tokens a ≡ before_xor (and_hole h) ++ xor_tokens (with_and h a)
before-with_and (FirstAnd h) a = refl
before-with_and (NextAnd x at h) a = simp append_assoc

before-with_xor : (h : XorHole) (x : XorPhrase)
    → before_xor h ++ xor_tokens x ≡ before_or (xor_hole h) ++ or_tokens (with_xor h x)
before-with_xor (FirstXor h) x = refl
before-with_xor (NextXor o at h) x = simp append_assoc

before-with_both : (h : AndHole) (a : AndPhrase) → before_and h ++ and_tokens a
    ≡ before_or (xor_hole (and_hole h)) ++ or_tokens (with_xor (and_hole h) (with_and h a))
before-with_both h a = before-with_and h a ∙ before-with_xor (and_hole h) (with_and h a)

close_round-before : (h : OrHole) (o : OrPhrase) (at : Span) (front : List Token)
    → front ≡ before_or h ++ or_tokens o → IfSome (close_round h o at) (Adds front CloseRound at)
close_round-before (OfAssign f a t q) o at front e = tt
close_round-before (InRound b h) o at front e = before-with_unit h (Bracketed b o at) ∙ rw e (simp append_assoc)

end_assign-before : (h : OrHole) (o : OrPhrase) (at : Span) (front : List Token)
    → front ≡ before_or h ++ or_tokens o → IfSome (end_assign h o at) (Adds front Semicolon at)
end_assign-before (OfAssign f a t q) o at front e = rw e (simp append_assoc)
end_assign-before (InRound b h) o at front e = tt

end_unit-before : (a : AndPhrase) (h : AndHole) (k : TokenKind) (at : Span)
    → IfSome (end_unit a h k at) (Adds (before_and h ++ and_tokens a) k at)
end_unit-before a h Ampersand at = sym (append_assoc (before_and h) _ _)
end_unit-before a h Caret at = rw (before-with_and h a) (sym (append_assoc (before_xor (and_hole h)) _ _))
end_unit-before a h Bar at = rw (before-with_both h a) (sym (append_assoc (before_or (xor_hole (and_hole h))) _ _))
end_unit-before a h CloseRound at = close_round-before (xor_hole (and_hole h)) _ at _ (before-with_both h a)
end_unit-before a h Semicolon at = end_assign-before (xor_hole (and_hole h)) _ at _ (before-with_both h a)
end_unit-before a h _ at = tt

chosen : {A : Type 0} (b : Bool) (o : Option A) (P : A → Type 0) → IfSome o P → IfSome (if b then o else None) P
chosen true o P h = h
chosen false o P h = tt

lone-before : (h : UnitHole) (k : TokenKind) (at : Span)
    → IfSome (option_map (λ p. with_unit h (Lone p)) (operand_at k at)) (Adds (before_unit h) k at)
lone-before h k at = mapped (operand_at k at) _ _ _ (operand_back k at)
    (λ p e. before-with_unit h (Lone p) ∙ ap (λ t. before_unit h ++ t ∷ []) e)

start_unit-before : (h : UnitHole) (k : TokenKind) (at : Span)
    → IfSome (start_unit h k at) (Adds (before_unit h) k at)
start_unit-before h Tilde at = chosen (ltb (unit_nesting h) 64) (Some (WantsUnit (UnderNot at h))) _ refl
start_unit-before h OpenRound at =
    chosen (ltb (unit_nesting h) 64) (Some (WantsUnit (FirstUnit (FirstAnd (FirstXor (InRound at h)))))) _ refl
start_unit-before h k at = lone-before h k at

start_item-before : (f : Head) (k : TokenKind) (at : Span)
    → IfSome (start_item f k at) (Adds (head_tokens f) k at)
start_item-before f (DeclWord k) at = refl
start_item-before f (GateWord k) at = refl
start_item-before f AssignWord at = refl
start_item-before f AlwaysWord at = refl
start_item-before f EndmoduleWord at = simp append_assoc
start_item-before f _ at = tt

with_arity-before : (g : PinFront) (p : OperandPhrase)
    (e : IsTrue (is_single g.gate.kind) ⊎ IsTrue (not (is_single g.gate.kind)))
    → before (with_arity g p e) ≡ pin_front_tokens g ++ operand_token p ∷ []
with_arity-before g p (inl single) = refl
with_arity-before g p (inr many) = refl

inner : (a b x y : List Token) → a ++ (b ++ (x ++ y)) ≡ (a ++ (b ++ x)) ++ y
inner a b x y = simp append_assoc

-- an item more is its tokens more
item_more : (a b c i : List Token) → a ++ (b ++ (c ++ i)) ≡ (a ++ (b ++ c)) ++ i
item_more a b c i = simp append_assoc

ended_item : (f : Head) (i : ItemPhrase) (old : List Token) (t : Token)
    → head_tokens f ++ item_tokens i ≡ old ++ t ∷ [] → head_tokens (with_item f i) ≡ old ++ t ∷ []
ended_item f i old t e =
    item_more (title_tokens f.title) (names_tokens f.ports) (token CloseRound f.close_at ∷ token Semicolon f.start_at ∷
    items_tokens f.items) (item_tokens i) ∙ e

gate_more : (h i pins : List Token) (w o t c d e : Token)
    → h ++ w ∷ (i ++ o ∷ t ∷ c ∷ (pins ++ d ∷ e ∷ []))
    ≡ (((h ++ w ∷ (i ++ o ∷ [])) ++ t ∷ c ∷ []) ++ (pins ++ d ∷ [])) ++ e ∷ []
gate_more h i pins w o t c d e = simp append_assoc

always_more : (h e p z : List Token) → h ++ (e ++ (p ++ z)) ≡ ((h ++ e) ++ p) ++ z
always_more h e p z = simp append_assoc

instance-before : (f : Head) (g : GateKind) (a : Span) (k : TokenKind) (at : Span)
    → IfSome (option_map (λ n. AfterInstance f g a n) (name_at k at)) (Adds (before (AfterGateWord f g a)) k at)
instance-before f g a k at = mapped (name_at k at) _ _ _ (name_back k at)
    (λ n e. ap (λ t. head_tokens f ++ token (GateWord g) a ∷ t ∷ []) e ∙ sym (append_assoc (head_tokens f) _ _))

step-before : (p : Place) (k : TokenKind) (at : Span) → IfSome (step p k at) (Adds (before p) k at)
step-before Start ModuleWord at = refl
step-before (AfterModule m) k at = mapped (name_at k at) _ _ _ (name_back k at) (λ n e. rw e refl)
step-before (AfterTitle m n) OpenRound at = refl
step-before (WantsPort h) k at = mapped (name_at k at) _ _ _ (name_back k at)
    (λ n e. before-with_port h n ∙ ap (λ t. before_port h ++ t ∷ []) e)
step-before (AfterPort t ns) Comma at = simp append_assoc
step-before (AfterPort t ns) CloseRound at = simp append_assoc
step-before (AfterPorts t ns c) Semicolon at = simp append_assoc
step-before (InItems f) k at = start_item-before f k at
step-before (WantsName h) k at = mapped (name_at k at) _ _ _ (name_back k at)
    (λ n e. before-with_name h n ∙ ap (λ t. before_decl h ++ t ∷ []) e)
step-before (AfterName f d a ns) Comma at = simp append_assoc
step-before (AfterName f d a ns) Semicolon at = simp append_assoc
step-before (AfterGateWord f g a) OpenRound at = simp append_assoc
step-before (AfterGateWord f g a) k at = instance-before f g a k at
step-before (AfterInstance f g a n) OpenRound at = simp append_assoc
step-before (WantsTarget g) k at = mapped (name_at k at) _ _ _ (name_back k at) (λ n e. rw e refl)
step-before (AfterTarget g t) Comma at = sym (append_assoc (gate_front_tokens g) _ _)
step-before (WantsPin g) k at = mapped (operand_at k at) _ _ _ (operand_back k at)
    (λ p e. with_arity-before g p (single_or_many g.gate.kind) ∙ ap (λ t. pin_front_tokens g ++ t ∷ []) e)
step-before (WantsNextPin g many ps c) k at = mapped (operand_at k at) _ _ _ (operand_back k at)
    (λ p e. ap (λ t. pin_front_tokens g ++ (operands_tokens ps ++ token Comma c ∷ t ∷ [])) e
    ∙ inner (pin_front_tokens g) (operands_tokens ps) (token Comma c ∷ []) _)
step-before (AfterPins g many ps) Comma at = sym (append_assoc (pin_front_tokens g) _ _)
step-before (AfterPins g many ps) CloseRound at = sym (append_assoc (pin_front_tokens g) _ _)
step-before (AfterPin g single p) CloseRound at = sym (append_assoc (pin_front_tokens g) _ _)
step-before (AfterManyGate g many ps c) Semicolon at =
    ended_item g.gate.head (many_gate g many ps c at) (before (AfterManyGate g many ps c)) (token Semicolon at)
    (gate_more (head_tokens g.gate.head) (instance_tokens g.gate.name) (operands_tokens ps) _ _ _ _ _ _)
step-before (AfterSingleGate g single p c) Semicolon at =
    ended_item g.gate.head (single_gate g single p c at) (before (AfterSingleGate g single p c)) (token Semicolon at)
    (gate_more (head_tokens g.gate.head) (instance_tokens g.gate.name) (operand_token p ∷ []) _ _ _ _ _ _)
step-before (AfterAssign f a) k at = mapped (name_at k at) _ _ _ (name_back k at)
    (λ n e. ap (λ t. head_tokens f ++ token AssignWord a ∷ t ∷ []) e ∙ sym (append_assoc (head_tokens f) _ _))
step-before (AfterAssigned f a t) Equals at = simp append_assoc
step-before (WantsUnit h) k at = start_unit-before h k at
step-before (AfterUnit a h) k at = end_unit-before a h k at
step-before (AfterAlways f a) At at = simp append_assoc
step-before (AfterAt f a b) OpenRound at = simp append_assoc
step-before (AfterClockOpen f a b c) PosedgeWord at = simp append_assoc
step-before (AfterPosedge f a b c d) Clock at = simp append_assoc
step-before (AfterClock f a b c d e) CloseRound at = simp append_assoc
step-before (AfterEdge g) k at = mapped (name_at k at) _ _ _ (name_back k at) (λ n e. rw e refl)
step-before (AfterRegister g t) Arrow at = sym (append_assoc (edge_tokens g) _ _)
step-before (AfterArrow g t r) k at = mapped (operand_at k at) _ _ _ (operand_back k at)
    (λ p e. ap (λ x. edge_tokens g ++ name_token t ∷ token Arrow r ∷ x ∷ []) e
    ∙ sym (append_assoc (edge_tokens g) _ _))
step-before (AfterTaken g t r p) Semicolon at =
    ended_item g.head (always g t r p at) (before (AfterTaken g t r p)) (token Semicolon at)
    (always_more (head_tokens g.head) (token AlwaysWord g.at ∷ token At g.at_at ∷ token OpenRound g.open_at ∷ token
    PosedgeWord g.posedge_at ∷ token Clock g.clock_at ∷ token CloseRound g.close_at ∷ [])
    (name_token t ∷ token Arrow r ∷ operand_token p ∷ []) _)
step-before _ _ _ = tt

-- ---- what a walk has taken

pub at_some : {A B : Type 0} (o : Option A) (f : A → Option B) (P : A → Type 0) (y : B) → IfSome o P
    → option_and_then f o ≡ Some y
    → (x : A) × (o ≡ Some x) × (f x ≡ Some y) × P x
at_some None f P y h e = absurd cc
at_some (Some x) f P y h e = (x, refl, e, h)

-- a walk adds its tokens
pub walk-before : (ts : List Token) (p q : Place) → walk p ts ≡ Some q → before q ≡ before p ++ ts
walk-before [] p q e = let s : p ≡ q = cc in rw (sym s) (sym (append-nil (before p)))
walk-before (t ∷ ts) p q e =
    let x = at_some (step p t.kind t.span) (λ r. walk r ts) _ q (step-before p t.kind t.span) e in
    walk-before ts x.0 q x.2 ∙ rw (x.3) (append_assoc (before p) (t ∷ []) ts)

-- a walk over two lists is two walks
pub walk-append : (a b : List Token) (p q : Place) → walk p (a ++ b) ≡ Some q
    → (r : Place) × (walk p a ≡ Some r) × (walk r b ≡ Some q)
walk-append [] b p q e = (p, refl, e)
walk-append (t ∷ ts) b p q e =
    let x = at_some (step p t.kind t.span) (λ r. walk r (ts ++ b)) (λ _. ⊤) q (any (step p t.kind t.span)) e in
    let rest = walk-append ts b x.0 q x.2 in
    (rest.0, ap (option_and_then (λ r. walk r ts)) x.1 ∙ rest.1, rest.2)

-- one more step of a walk
pub walk-then : (taken : List Token) (t : Token) (p q r : Place) → walk r taken ≡ Some p
    → step p t.kind t.span ≡ Some q → walk r (taken ++ t ∷ []) ≡ Some q
walk-then [] t p q r e s = let same : r ≡ p = cc in rw same (ap (option_and_then (λ x. Some x)) s)
walk-then (x ∷ taken) t p q r e s =
    let y = at_some (step r x.kind x.span) (λ z. walk z taken) (λ _. ⊤) p (any _) e in
    ap (option_and_then (λ z. walk z (taken ++ t ∷ []))) y.1 ∙ walk-then taken t p q y.0 y.2 s
