-- Each exit of the descent over expressions, over plain variables.
use Rattle.std.proofs.Common.{◌≡◌, ◌≢◌, ℕ, ◌+◌, ◌<◌, ◌≤◌, List, [], ◌∷◌, ◌++◌, length, map, Bool, None, Err, refl, sym}
use Rattle.std.proofs.Common.{ap, ap₂, ◌∙◌, false, true, arith, length-append}
use Rattle.std.specs.Prelude.{option_map}
use Rattle.std.proofs.lemmas.Bool.{false≢true}
use Rattle.pbs_ast.proofs.BareRows.{bare_exprs_of}
use Rattle.pbs_ast.specs.declared.syntax.SpecTerm.{SpecTerm}
use Rattle.pbs_ast.specs.declared.syntax.Expr.{Expr}
use Rattle.pbs_text.specs.declared.fail.ReadSpec.{ReadSpec}
use Rattle.pbs_text.specs.declared.fail.ReadSpec.TheVariants.{Memory, Refused}
use Rattle.pbs_ast.specs.Bare.{expr, bare_expr}
use Rattle.pbs_text.specs.Trees.{word_at, joined, term_tree, group_extent, prim_extent, seq_node, choice_node}
use Rattle.pbs_text.specs.Trees.{operator_node, repeat_node, hold_node, scope_node, expr_items, seq_items, item_tree}
use Rattle.pbs_text.specs.Trees.{prim_tree, group_tree, seq_tree}
use Rattle.pbs_text.specs.places.Holes.{item_nesting, group_nesting, ExprHole, OfGroup, SeqHole, FirstSeq, NextSeq}
use Rattle.pbs_text.specs.places.Holes.{ItemHole, FirstItem, NextItem, GroupHole, AsPrim, OfHold, OfBody, OfTrap}
use Rattle.pbs_text.specs.places.Holes.{OfAfter, OfTerminal, OfGuard}
use Rattle.pbs_text.specs.places.Reading.{stepped, move, bind, ended, read}
use Rattle.pbs_descent.specs.Descent.{BeginsWith, NoFront, front_refusal, Stops, behind_term, behind_seq, behind_expr}
use Rattle.pbs_descent.specs.Descent.{wants_expr, ReadsTerm, ReadsGroup, StopsGroup, ReadsPrim, ReadsItem, StopsItem}
use Rattle.pbs_descent.specs.Descent.{ReadsSeq, ReadsExpr, StopsExpr, SeqSoFar, ExprSoFar, TakesNumeral, ReadsBounds}
use Rattle.pbs_descent.specs.Descent.{StopsBounds, ReadsGuard, after_hold, NoOperator, ReadsTrap, StopsTrap}
use Rattle.pbs_text.specs.Grammar.{token, Second, Numeral, ZeroNumeral, OneNumeral, TwoNumeral, DigitNumeral}
use Rattle.pbs_text.specs.Grammar.{LongNumeral, numeral_kind, operator_kind, TermPhrase, OneAll, MoreAlls, ExprPhrase}
use Rattle.pbs_text.specs.Grammar.{OneSeq, MoreSeqs, SeqPhrase, OneItem, MoreItems, ItemPhrase, Plain, Repeated}
use Rattle.pbs_text.specs.Grammar.{Counted, PrimPhrase, Terminal, Action, Call, Grouped, Hold, Try, GroupPhrase}
use Rattle.pbs_text.specs.Grammar.{EmptyGroup, FullGroup}
use Rattle.pbs_text.specs.places.Places.{WantsItem, WantsGroup, InGroup, AfterGuard, AfterBody, AfterTrap, AfterPrim}
use Rattle.pbs_text.specs.places.Places.{WantsLeast, AfterLeast, WantsMost, AfterMost, AfterItem}
use Rattle.pbs_text.specs.places.Steps.{second, numeral_of, with_group, with_item, seq_hole, with_seq, expr_hole}
use Rattle.pbs_text.specs.places.Steps.{close_group, close_expr, step}
use Rattle.pbs_base.specs.declared.refusal.Span.{Span}
use Rattle.pbs_text.specs.declared.token.Token.{Token}
use Rattle.pbs_text.specs.declared.token.Operator.{Operator}
use Rattle.pbs_text.specs.declared.token.Operator.TheVariants.{StarOp, PlusOp, OptOp}
use Rattle.pbs_text.specs.declared.token.TokenKind.{TokenKind}
use Rattle.pbs_text.specs.declared.token.TokenKind.TheVariants.{Name, HoldWord, TryWord, AbortWord, ThenWord, Semicolon}
use Rattle.pbs_text.specs.declared.token.TokenKind.TheVariants.{Comma, OpenCurly, CloseCurly, OpenRound, CloseRound}
use Rattle.pbs_text.specs.declared.token.TokenKind.TheVariants.{OpenSquare, CloseSquare, Bar, Star, Plus, Question}
use Rattle.pbs_text.specs.declared.token.TokenKind.TheVariants.{Colon}
use Rattle.pbs_descent.proofs.TermExits.{shallow, none_second, one_or-many, map-more, two_now}
use Rattle.pbs_ast.specs.declared.syntax.Kind as kind

-- ---- group

pub group_empty : (two : Bool) (bytes : List ℕ) (end depth : ℕ) (at close_at whole : Span) (old rest new : List Token)
    → depth ≢ 64 → depth ≤ 64 → old ≡ token OpenRound at ∷ rest → rest ≡ token CloseRound close_at ∷ new
    → whole ≡ joined at close_at → ReadsGroup two bytes end depth old (expr whole kind.Empty) whole new
group_empty two bytes end depth at close_at whole old rest new not_full within e f g =
    let both : old ≡ token OpenRound at ∷ token CloseRound close_at ∷ new = e ∙ ap (λ l. token OpenRound at ∷ l) f in
    record {
      phrase = EmptyGroup at close_at;
      value_is = ap (λ s. expr s kind.Empty) g;
      extent_is = g;
      goes_on = λ h d. let low = shallow depth (group_nesting h) not_full within d in rw both (rw low refl);
      shorter = let lengths = ap length both in omega arith;
    }

move_in_group : {two : Bool} (o : Span) (g : GroupHole two) (k : TokenKind) (at : Span) → (k ≡ CloseRound → ⊥)
    → move (InGroup o g) (token k at) ≡ move (wants_expr (OfGroup o g)) (token k at)
move_in_group o g CloseRound at other = absurd (other refl)
move_in_group o g _ at other = refl

-- where no bracket closes the group, an expression is wanted
in_group : {two : Bool} (end : ℕ) (o : Span) (g : GroupHole two) (ts : List Token) → (BeginsWith CloseRound ts → ⊥)
    → read end (InGroup o g) ts ≡ read end (wants_expr (OfGroup o g)) ts
in_group end o g [] other = refl
in_group end o g (t ∷ ts) other = ap (bind (λ q. read end q ts)) (move_in_group o g t.kind t.span other)

closes_group : {two : Bool} (end : ℕ) (e : ExprPhrase two) (g : GroupHole two) (o c : Span) (new : List Token)
    → read end (behind_expr e (OfGroup o g)) (token CloseRound c ∷ new) ≡ read end (with_group g (FullGroup o e c)) new
closes_group end (OneSeq (OneItem i)) g o c new = refl
closes_group end (OneSeq (MoreItems s b i)) g o c new = refl
closes_group end (MoreSeqs e a (OneItem i)) g o c new = refl
closes_group end (MoreSeqs e a (MoreItems s b i)) g o c new = refl

pub group_full : (two : Bool) (bytes : List ℕ) (end depth : ℕ) (at close_at whole : Span)
    (old rest behind new : List Token) (x : Expr) (extent : Span) → depth ≢ 64 → depth ≤ 64
    → old ≡ token OpenRound at ∷ rest
    → (BeginsWith CloseRound rest → ⊥) → behind ≡ token CloseRound close_at ∷ new → whole ≡ joined at close_at
    → ReadsExpr two bytes end (depth + 1) rest x extent behind → ReadsGroup two bytes end depth old x whole new
group_full two bytes end depth at close_at whole old rest behind new x extent not_full within e other f g r =
    record {
      phrase = FullGroup at r.phrase close_at;
      value_is = r.value_is;
      extent_is = g;
      goes_on = λ h d.
          let low = shallow depth (group_nesting h) not_full within d in
          rw e (rw low (in_group end at h rest other ∙ (r.goes_on (OfGroup at h) (omega arith)
          ∙ rw f (closes_group end r.phrase h at close_at new))));
      shorter = let less = r.shorter in let one = ap length e in let two_of = ap length f in omega arith;
    }

pub group_stops : (two : Bool) (end depth : ℕ) (at : Span) (old rest : List Token) (e : ReadSpec) → depth ≢ 64
    → depth ≤ 64 → old ≡ token OpenRound at ∷ rest → (BeginsWith CloseRound rest → ⊥)
    → StopsExpr two end (depth + 1) rest e → StopsGroup two end depth old e
group_stops two end depth at old rest Memory not_full within e other stops = tt
group_stops two end depth at old rest (Refused r) not_full within e other stops =
    λ h d. let low = shallow depth (group_nesting h) not_full within d in rw e
    (rw low (in_group end at h rest other ∙ stops (OfGroup at h) (omega arith)))

stuck_item : {two : Bool} (i : ItemPhrase two) (h : ItemHole two) (k : TokenKind) (at : Span) → (k ≡ Comma → ⊥)
    → (k ≡ Bar → ⊥)
    → (k ≡ CloseRound → close_group (expr_hole (seq_hole h)) (with_seq (seq_hole h) (with_item h i)) at ≡ None)
    → (k ≡ Semicolon → close_expr (expr_hole (seq_hole h)) (with_seq (seq_hole h) (with_item h i)) at ≡ None)
    → step (AfterItem i h) k at ≡ None
stuck_item i h Comma at a b c m = absurd (a refl)
stuck_item i h Bar at a b c m = absurd (b refl)
stuck_item i h CloseRound at a b c m = c refl
stuck_item i h Semicolon at a b c m = m refl
stuck_item i h _ at a b c m = refl

unclosed_item : {two : Bool} (end : ℕ) (i : ItemPhrase two) (h : ItemHole two) (ts : List Token)
    → (BeginsWith Comma ts → ⊥) → (BeginsWith Bar ts → ⊥)
    → ((at : Span) → BeginsWith CloseRound ts → close_group (expr_hole (seq_hole h))
    (with_seq (seq_hole h) (with_item h i)) at ≡ None)
    → ((at : Span) → BeginsWith Semicolon ts → close_expr (expr_hole (seq_hole h))
    (with_seq (seq_hole h) (with_item h i)) at ≡ None) → read end (AfterItem i h) ts ≡ Err (front_refusal end ts)
unclosed_item end i h [] a b c m = refl
unclosed_item end i h (t ∷ ts) a b c m = ap (λ s. bind (λ q. read end q ts) (stepped s t.span))
    (stuck_item i h t.kind t.span a b (c t.span) (m t.span))

-- the text stops behind an expression whose hole is closed by another token
pub unclosed : {two : Bool} (end : ℕ) (e : ExprPhrase two) (h : ExprHole two) (ts : List Token)
    → (BeginsWith Comma ts → ⊥) → (BeginsWith Bar ts → ⊥)
    → ((at : Span) → BeginsWith CloseRound ts → close_group h e at ≡ None)
    → ((at : Span) → BeginsWith Semicolon ts → close_expr h e at ≡ None)
    → read end (behind_expr e h) ts ≡ Err (front_refusal end ts)
unclosed end (OneSeq (OneItem i)) h ts a b c m = unclosed_item end i (FirstItem (FirstSeq h)) ts a b c m
unclosed end (OneSeq (MoreItems s x i)) h ts a b c m = unclosed_item end i (NextItem s x (FirstSeq h)) ts a b c m
unclosed end (MoreSeqs e y (OneItem i)) h ts a b c m = unclosed_item end i (FirstItem (NextSeq e y h)) ts a b c m
unclosed end (MoreSeqs e y (MoreItems s x i)) h ts a b c m = unclosed_item end i
    (NextItem s x (NextSeq e y h)) ts a b c m

pub group_unclosed : (two : Bool) (bytes : List ℕ) (end depth : ℕ) (at : Span) (old rest behind : List Token) (x : Expr)
    (extent : Span) → depth ≢ 64 → depth ≤ 64 → old ≡ token OpenRound at ∷ rest → (BeginsWith CloseRound rest → ⊥)
    → ReadsExpr two bytes end (depth + 1) rest x extent behind → (BeginsWith Comma behind → ⊥)
    → (BeginsWith Bar behind → ⊥) → (BeginsWith CloseRound behind → ⊥)
    → StopsGroup two end depth old (Refused (front_refusal end behind))
group_unclosed two bytes end depth at old rest behind x extent not_full within e other r a b c =
    λ h d. let low = shallow depth (group_nesting h) not_full within d in
    rw e (rw low (in_group end at h rest other ∙ (r.goes_on (OfGroup at h) (omega arith)
    ∙ unclosed end r.phrase (OfGroup at h) behind a b (λ _ n. absurd (c n)) (λ _ _. refl))))

-- ---- prim

pub prim_use : (two : Bool) (bytes : List ℕ) (end depth : ℕ) (old new : List Token) (t : Token) (x : Expr)
    (extent : Span) → old ≡ t ∷ new → t.kind ≡ Name
    → (x ≡ expr t.span (kind.Name (word_at bytes t.span))) × (extent ≡ t.span)
    → ReadsPrim two bytes end depth old x extent new
prim_use two bytes end depth old new t x extent e k same =
    let is : old ≡ token Name t.span ∷ new = e ∙ ap (λ x. token x t.span ∷ new) k in
    record {
      phrase = Call t.span;
      value_is = same.0;
      extent_is = same.1;
      goes_on = λ h d. rw is refl;
      shorter = rw is
          (omega arith);
    }

group_here : {two : Bool} (end : ℕ) (old rest : List Token) (t : Token) (h : ItemHole two) → old ≡ t ∷ rest
    → t.kind ≡ OpenRound → read end (WantsItem h) old ≡ read end (WantsGroup (AsPrim h)) old
group_here end old rest t h e k = let is : old ≡ token OpenRound t.span ∷ rest = e
    ∙ ap (λ x. token x t.span ∷ rest) k in rw is refl

pub prim_group : (two : Bool) (bytes : List ℕ) (end depth : ℕ) (old rest new : List Token) (t : Token) (x : Expr)
    (extent : Span) → old ≡ t ∷ rest → t.kind ≡ OpenRound
    → ReadsGroup two bytes end depth old x extent new → ReadsPrim two bytes end depth old x extent new
prim_group two bytes end depth old rest new t x extent e k r =
    record {
      phrase = Grouped r.phrase;
      value_is = r.value_is;
      extent_is = r.extent_is;
      goes_on = λ h d. group_here end old rest t h e k ∙ r.goes_on (AsPrim h) d;
      shorter = r.shorter;
    }

pub prim_group_stops : (two : Bool) (end depth : ℕ) (old rest : List Token) (t : Token) (e : ReadSpec) → old ≡ t ∷ rest
    → t.kind ≡ OpenRound → StopsGroup two end depth old e → StopsItem two end depth old e
prim_group_stops two end depth old rest t Memory e k stops = tt
prim_group_stops two end depth old rest t (Refused r) e k stops = λ h d. group_here end old rest t h e k
    ∙ stops (AsPrim h) d

closes_terminal : {two : Bool} (end : ℕ) (t : TermPhrase two) (h : ItemHole two) (o c : Span) (new : List Token)
    → read end (behind_term t (OfTerminal o h)) (token CloseSquare c ∷ new) ≡ read end
    (AfterPrim (Terminal o t c) h) new
closes_terminal end (OneAll a) h o c new = refl
closes_terminal end (MoreAlls t b a) h o c new = refl

pub terminal_read : (two : Bool) (bytes : List ℕ) (end depth : ℕ) (at close_at whole : Span)
    (rest behind new : List Token) (x : SpecTerm) → behind ≡ token CloseSquare close_at ∷ new
    → whole ≡ joined at close_at
    → ReadsTerm two bytes end depth rest x behind → ReadsPrim two bytes end depth (token OpenSquare at ∷ rest)
    (expr whole (kind.Terminal x)) whole new
terminal_read two bytes end depth at close_at whole rest behind new x e g r =
    record {
      phrase = Terminal at r.phrase close_at;
      value_is = ap₂ (λ s t. expr s (kind.Terminal t)) g r.value_is;
      extent_is = g;
      goes_on = λ h d. r.goes_on (OfTerminal at h) d ∙ rw e (closes_terminal end r.phrase h at close_at new);
      shorter = let less = r.shorter in let one = ap length e in omega arith;
    }

pub action_read : (two : Bool) (bytes : List ℕ) (end depth : ℕ) (at name_at close_at whole : Span)
    (rest behind new : List Token) (word : List ℕ) → rest ≡ token Name name_at ∷ behind
    → behind ≡ token CloseCurly close_at ∷ new
    → whole ≡ joined at close_at → word ≡ word_at bytes name_at
    → ReadsPrim two bytes end depth (token OpenCurly at ∷ rest) (expr whole (kind.Action word name_at)) whole new
action_read two bytes end depth at name_at close_at whole rest behind new word e f g w =
    let both : rest ≡ token Name name_at ∷ token CloseCurly close_at ∷ new = e ∙ ap (λ l. token Name name_at ∷ l) f in
    record {
      phrase = Action at name_at close_at;
      value_is = ap₂ (λ s v. expr s (kind.Action v name_at)) g w;
      extent_is = g;
      goes_on = λ h d. rw both refl;
      shorter = let one = ap length both in omega arith;
    }

closes_guard : {two : Bool} (end : ℕ) (t : TermPhrase two) (h : ItemHole two) (a o c : Span) (new : List Token)
    → read end (behind_term t (OfGuard a o h)) (token CloseSquare c ∷ new) ≡ read end (AfterGuard a o t c h) new
closes_guard end (OneAll x) h a o c new = refl
closes_guard end (MoreAlls t b x) h a o c new = refl

pub guard_read : (two : Bool) (bytes : List ℕ) (end depth : ℕ) (open_at close_at colon_at : Span)
    (old rest behind next new : List Token) (x : SpecTerm) → old ≡ token OpenSquare open_at ∷ rest
    → ReadsTerm two bytes end depth rest x behind → behind ≡ token CloseSquare close_at ∷ next
    → next ≡ token Colon colon_at ∷ new → ReadsGuard two bytes end depth old x new
guard_read two bytes end depth open_at close_at colon_at old rest behind next new x e r f g =
    record {
      open_at = open_at;
      phrase = r.phrase;
      close_at = close_at;
      colon_at = colon_at;
      value_is = r.value_is;
      goes_on = λ at h d. rw e (r.goes_on (OfGuard at open_at h) d
          ∙ rw f (closes_guard end r.phrase h at open_at close_at next ∙ rw g refl));
    }

pub hold_read : (two : Bool) (bytes : List ℕ) (end depth : ℕ) (at whole : Span) (rest middle new : List Token)
    (x : SpecTerm) (y e : Expr) (extent : Span) → whole ≡ joined at extent → e ≡ expr whole (hold_node x y)
    → ReadsGuard two bytes end depth rest x middle → length middle < length rest
    → ReadsGroup two bytes end depth middle y extent new → ReadsPrim two bytes end depth
    (token HoldWord at ∷ rest) e whole new
hold_read two bytes end depth at whole rest middle new x y e extent same made g short r =
    let all : whole ≡ joined at (group_extent r.phrase) = same ∙ ap (joined at) r.extent_is in
    record {
      phrase = Hold at g.open_at g.phrase g.close_at g.colon_at r.phrase;
      value_is = made ∙ (ap₂ (λ t b. expr whole (hold_node t b)) g.value_is r.value_is
          ∙ ap (λ s. expr s (hold_node (term_tree bytes g.phrase) (group_tree bytes r.phrase))) all);
      extent_is = all;
      goes_on = λ h d. g.goes_on at h d ∙ r.goes_on (OfHold at g.open_at g.phrase g.close_at g.colon_at h) d;
      shorter = let less = r.shorter in omega arith;
    }

pub hold_stops : (two : Bool) (end depth : ℕ) (at : Span) (rest : List Token) (e : ReadSpec)
    → ((a : Span) → Stops (item_nesting {two = two}) (after_hold a) end depth rest e)
    → StopsItem two end depth (token HoldWord at ∷ rest) e
hold_stops two end depth at rest Memory stops = tt
hold_stops two end depth at rest (Refused r) stops = λ h d. stops at h d

pub trap_read : (two : Bool) (bytes : List ℕ) (end depth : ℕ) (abort_at then_at : Span)
    (old one two_of three new : List Token) (x y : Expr) (ex ey : Span) → old ≡ token AbortWord abort_at ∷ one
    → ReadsGroup two bytes end depth one x ex two_of → two_of ≡ token ThenWord then_at ∷ three
    → ReadsGroup two bytes end depth three y ey new → ReadsTrap two bytes end depth old x y ey new
trap_read two bytes end depth abort_at then_at old one two_of three new x y ex ey p b q c =
    record {
      abort_at = abort_at;
      trap = b.phrase;
      then_at = then_at;
      after = c.phrase;
      trap_is = b.value_is;
      after_is = c.value_is;
      extent_is = c.extent_is;
      goes_on = λ at body h d. rw p (b.goes_on (OfTrap at body abort_at h) d
          ∙ rw q (c.goes_on (OfAfter at body abort_at b.phrase then_at h) d));
      shorter = let l = b.shorter in let m = c.shorter in let i = ap length p in let j = ap length q in omega arith;
    }

pub scope_read : (two : Bool) (bytes : List ℕ) (end depth : ℕ) (at whole : Span) (rest middle new : List Token)
    (x y z e : Expr) (ex ez : Span) → ReadsGroup two bytes end depth rest x ex middle
    → ReadsTrap two bytes end depth middle y z ez new
    → (e ≡ expr (joined at ez) (scope_node x y z)) × (whole ≡ joined at ez)
    → ReadsPrim two bytes end depth (token TryWord at ∷ rest) e whole new
scope_read two bytes end depth at whole rest middle new x y z e ex ez a t made =
    let all : whole ≡ joined at (group_extent t.after) = made.1 ∙ ap (joined at) t.extent_is in
    record {
      phrase = Try at a.phrase t.abort_at t.trap t.then_at t.after;
      value_is = made.0 ∙ (ap₂ (λ v w. expr (joined at ez) (scope_node v w z)) a.value_is t.trap_is
          ∙ ap₂ (λ s w. expr (joined at s) (scope_node (group_tree bytes a.phrase) (group_tree bytes t.trap) w))
          t.extent_is t.after_is);
      extent_is = all;
      goes_on = λ h d. a.goes_on (OfBody at h) d ∙ t.goes_on at a.phrase h d;
      shorter = let k = a.shorter in let l = t.shorter in omega arith;
    }

stuck_body : {two : Bool} (end : ℕ) (at : Span) (body : GroupPhrase two) (h : ItemHole two) (ts : List Token)
    → (BeginsWith AbortWord ts → ⊥) → read end (AfterBody at body h) ts ≡ Err (front_refusal end ts)
stuck_body end at body h [] other = refl
stuck_body end at body h (t ∷ ts) other = ap (λ s. bind (λ q. read end q ts) (stepped s t.span)) (by t.kind other)
  where
    by : (k : TokenKind) → (k ≡ AbortWord → ⊥) → step (AfterBody at body h) k t.span ≡ None
    by AbortWord no_abort = absurd (no_abort refl)
    by _ no_abort = refl

stuck_trap : {two : Bool} (end : ℕ) (at : Span) (body : GroupPhrase two) (abort_at : Span) (trap : GroupPhrase two)
    (h : ItemHole two) (ts : List Token) → (BeginsWith ThenWord ts → ⊥)
    → read end (AfterTrap at body abort_at trap h) ts ≡ Err (front_refusal end ts)
stuck_trap end at body abort_at trap h [] other = refl
stuck_trap end at body abort_at trap h (t ∷ ts) other = ap (λ s. bind (λ q. read end q ts) (stepped s t.span))
    (by t.kind other)
  where
    by : (k : TokenKind) → (k ≡ ThenWord → ⊥) → step (AfterTrap at body abort_at trap h) k t.span ≡ None
    by ThenWord no_then = absurd (no_then refl)
    by _ no_then = refl

pub trap_no_abort : (two : Bool) (end depth : ℕ) (old : List Token) (e : ReadSpec)
    → (e ≡ Refused (front_refusal end old)) × (BeginsWith AbortWord old → ⊥) → StopsTrap two end depth old e
trap_no_abort two end depth old e stop = rw (stop.0) (λ at body h d. stuck_body end at body h old stop.1)

pub trap_stops : (two : Bool) (end depth : ℕ) (abort_at : Span) (old one : List Token) (e : ReadSpec)
    → old ≡ token AbortWord abort_at ∷ one → StopsGroup two end depth one e → StopsTrap two end depth old e
trap_stops two end depth abort_at old one Memory f stops = tt
trap_stops two end depth abort_at old one (Refused r) f stops = λ at body h d. rw f
    (stops (OfTrap at body abort_at h) d)

pub trap_no_then : (two : Bool) (bytes : List ℕ) (end depth : ℕ) (abort_at : Span) (old one two_of : List Token)
    (x : Expr) (ex : Span) (e : ReadSpec) → old ≡ token AbortWord abort_at ∷ one
    → ReadsGroup two bytes end depth one x ex two_of
    → (e ≡ Refused (front_refusal end two_of)) × (BeginsWith ThenWord two_of → ⊥) → StopsTrap two end depth old e
trap_no_then two bytes end depth abort_at old one two_of x ex e f b stop =
    rw (stop.0) (λ at body h d. rw f (b.goes_on (OfTrap at body abort_at h) d
    ∙ stuck_trap end at body abort_at b.phrase h two_of stop.1))

pub trap_after_stops : (two : Bool) (bytes : List ℕ) (end depth : ℕ) (abort_at then_at : Span)
    (old one two_of three : List Token) (x : Expr) (ex : Span) (e : ReadSpec) → old ≡ token AbortWord abort_at ∷ one
    → ReadsGroup two bytes end depth one x ex two_of → two_of ≡ token ThenWord then_at ∷ three
    → StopsGroup two end depth three e → StopsTrap two end depth old e
trap_after_stops two bytes end depth abort_at then_at old one two_of three x ex Memory f b g stops = tt
trap_after_stops two bytes end depth abort_at then_at old one two_of three x ex (Refused r) f b g stops =
    λ at body h d. rw f (b.goes_on (OfTrap at body abort_at h) d
    ∙ rw g (stops (OfAfter at body abort_at b.phrase then_at h) d))

pub scope_body_stops : (two : Bool) (end depth : ℕ) (at : Span) (rest : List Token) (e : ReadSpec)
    → StopsGroup two end depth rest e → StopsItem two end depth (token TryWord at ∷ rest) e
scope_body_stops two end depth at rest Memory stops = tt
scope_body_stops two end depth at rest (Refused r) stops = λ h d. stops (OfBody at h) d

pub scope_stops : (two : Bool) (bytes : List ℕ) (end depth : ℕ) (at : Span) (rest middle : List Token) (x : Expr)
    (ex : Span) (e : ReadSpec) → ReadsGroup two bytes end depth rest x ex middle
    → StopsTrap two end depth middle e → StopsItem two end depth (token TryWord at ∷ rest) e
scope_stops two bytes end depth at rest middle x ex Memory a stops = tt
scope_stops two bytes end depth at rest middle x ex (Refused r) a stops = λ h d. a.goes_on (OfBody at h) d
    ∙ stops at a.phrase h d

-- ---- item

no_operator : {two : Bool} (end : ℕ) (p : PrimPhrase two) (h : ItemHole two) (ts : List Token)
    → (two ≡ true → BeginsWith OpenCurly ts → ⊥) → NoOperator ts
    → read end (AfterPrim p h) ts ≡ read end (AfterItem (Plain p) h) ts
no_operator end p h [] none other = refl
no_operator {two} end p h (t ∷ ts) none other = ap (λ s. bind (λ q. read end q ts) (stepped s t.span))
    (by t.kind none other.0 other.1 other.2)
  where
    by : (k : TokenKind) → (two ≡ true → k ≡ OpenCurly → ⊥) → (k ≡ Star → ⊥) → (k ≡ Plus → ⊥) → (k ≡ Question → ⊥)
        → step (AfterPrim p h) k t.span ≡ step (AfterItem (Plain p) h) k t.span
    by Star n a b c = absurd (a refl)
    by Plus n a b c = absurd (b refl)
    by Question n a b c = absurd (c refl)
    by OpenCurly n a b c = ap (option_map (λ s. WantsLeast s p t.span h)) (none_second two (λ e. n e refl))
    by _ n a b c = refl

pub item_plain : (two : Bool) (bytes : List ℕ) (end depth : ℕ) (old new : List Token) (x : Expr) (extent : Span)
    → (two ≡ true → BeginsWith OpenCurly new → ⊥) → NoOperator new
    → ReadsPrim two bytes end depth old x extent new → ReadsItem two bytes end depth old x extent new
item_plain two bytes end depth old new x extent none other r =
    record {
      phrase = Plain r.phrase;
      value_is = r.value_is;
      extent_is = r.extent_is;
      goes_on = λ h d. r.goes_on h d
          ∙ no_operator end r.phrase h new none other;
      shorter = r.shorter;
    }

takes_operator : {two : Bool} (end : ℕ) (p : PrimPhrase two) (op : Operator) (at : Span) (h : ItemHole two)
    (z : List Token) → read end (AfterPrim p h) (token (operator_kind op) at ∷ z) ≡ read end
    (AfterItem (Repeated p op at) h) z
takes_operator end p StarOp at h z = refl
takes_operator end p PlusOp at h z = refl
takes_operator end p OptOp at h z = refl

pub item_repeated : (two : Bool) (bytes : List ℕ) (end depth : ℕ) (old behind new : List Token) (x e : Expr)
    (extent whole : Span) (op : Operator) (at : Span)
    → (e ≡ expr (joined extent at) (operator_node op x)) × (whole ≡ joined extent at)
    → behind ≡ token (operator_kind op) at ∷ new → ReadsPrim two bytes end depth old x extent behind
    → ReadsItem two bytes end depth old e whole new
item_repeated two bytes end depth old behind new x e extent whole op at made f r =
    let all : whole ≡ joined (prim_extent r.phrase) at = made.1 ∙ ap (λ s. joined s at) r.extent_is in
    record {
      phrase = Repeated r.phrase op at;
      value_is = made.0 ∙ ap₂ (λ s v. expr (joined s at) (operator_node op v)) r.extent_is r.value_is;
      extent_is = all;
      goes_on = λ h d. r.goes_on h d ∙ rw f (takes_operator end r.phrase op at h new);
      shorter = let less = r.shorter in let one = ap length f in omega arith;
    }

unfoldable pub second_here : (two : Bool) → two ≡ true → Second two
second_here false e = absurd (false≢true e)
second_here true e = tt

counts_on : (two : Bool) (end : ℕ) (p : PrimPhrase two) (o : Span) (h : ItemHole two) (z : List Token) (e : two ≡ true)
    → read end (AfterPrim p h) (token OpenCurly o ∷ z) ≡ read end (WantsLeast (second_here two e) p o h) z
unfolding second_here
counts_on false end p o h z e = absurd (false≢true e)
counts_on true end p o h z e = refl

pub item_counted : (two : Bool) (bytes : List ℕ) (end depth : ℕ) (old behind rest new : List Token) (x e : Expr)
    (extent whole : Span) (o close : Span) (least most : ℕ) → two ≡ true → behind ≡ token OpenCurly o ∷ rest
    → (e ≡ expr (joined extent close) (repeat_node x least most)) × (whole ≡ joined extent close)
    → ReadsBounds end rest least most close new → ReadsPrim two bytes end depth old x extent behind
    → ReadsItem two bytes end depth old e whole new
item_counted two bytes end depth old behind rest new x e extent whole o close least most second f made b r =
    let s : Second two = second_here two second in
    record {
      phrase = Counted s r.phrase o b.m b.least_at b.comma_at b.n b.most_at close;
      value_is = made.0 ∙ (ap₂ (λ a v. expr (joined a close) (repeat_node v least most)) r.extent_is r.value_is
          ∙ ap₂ (λ m n. expr (joined (prim_extent r.phrase) close) (repeat_node (prim_tree bytes r.phrase) m n))
          b.least_is b.most_is);
      extent_is = made.1 ∙ ap (λ a. joined a close) r.extent_is;
      goes_on = λ h d. r.goes_on h d ∙ rw f (counts_on two end r.phrase o h rest second ∙ b.goes_on two s r.phrase o h);
      shorter = let less = r.shorter in let more = b.shorter in let one = ap length f in omega arith;
    }

pub item_uncounted : (two : Bool) (bytes : List ℕ) (end depth : ℕ) (old behind rest : List Token) (x : Expr)
    (extent o : Span) (e : ReadSpec) → two ≡ true → behind ≡ token OpenCurly o ∷ rest
    → StopsBounds end rest e → ReadsPrim two bytes end depth old x extent behind → StopsItem two end depth old e
item_uncounted two bytes end depth old behind rest x extent o Memory second f stops r = tt
item_uncounted two bytes end depth old behind rest x extent o (Refused q) second f stops r =
    λ h d. r.goes_on h d ∙ rw f (counts_on two end r.phrase o h rest second
    ∙ stops two (second_here two second) r.phrase o h)

-- ---- bounds

takes_least : {two : Bool} (end : ℕ) (s : Second two) (p : PrimPhrase two) (o : Span) (m : Numeral) (at : Span)
    (h : ItemHole two) (z : List Token)
    → read end (WantsLeast s p o h) (token (numeral_kind m) at ∷ z) ≡ read end (AfterLeast s p o m at h) z
takes_least end s p o ZeroNumeral at h z = refl
takes_least end s p o OneNumeral at h z = refl
takes_least end s p o TwoNumeral at h z = refl
takes_least end s p o (DigitNumeral m) at h z = refl
takes_least end s p o (LongNumeral m) at h z = refl

takes_most : {two : Bool} (end : ℕ) (s : Second two) (p : PrimPhrase two) (o : Span) (m : Numeral) (a c : Span)
    (n : Numeral) (at : Span) (h : ItemHole two) (z : List Token)
    → read end (WantsMost s p o m a c h) (token (numeral_kind n) at ∷ z) ≡ read end (AfterMost s p o m a c n at h) z
takes_most end s p o m a c ZeroNumeral at h z = refl
takes_most end s p o m a c OneNumeral at h z = refl
takes_most end s p o m a c TwoNumeral at h z = refl
takes_most end s p o m a c (DigitNumeral n) at h z = refl
takes_most end s p o m a c (LongNumeral n) at h z = refl

pub bounds_read : (end : ℕ) (old one two_of three new : List Token) (least most : ℕ) (a c b close : Span)
    → TakesNumeral old least a one → one ≡ token Comma c ∷ two_of → TakesNumeral two_of most b three
    → three ≡ token CloseCurly close ∷ new → ReadsBounds end old least most close new
bounds_read end old one two_of three new least most a c b close p e q f =
    record {
      m = p.numeral;
      n = q.numeral;
      least_at = a;
      comma_at = c;
      most_at = b;
      least_is = p.value_is;
      most_is = q.value_is;
      goes_on = λ two s x o h. rw (p.taken) (takes_least end s x o p.numeral a h one
          ∙ rw e (rw (q.taken) (takes_most end s x o p.numeral a c q.numeral b h three ∙ rw f refl)));
      shorter = let i = ap length p.taken in let j = ap length e in let k = ap length q.taken in let l =
          ap length f in omega arith;
    }

pub no_least : {two : Bool} (end : ℕ) (s : Second two) (p : PrimPhrase two) (o : Span) (h : ItemHole two)
    (ts : List Token) → NoFront numeral_of ts → read end (WantsLeast s p o h) ts ≡ Err (front_refusal end ts)
no_least end s p o h [] none = refl
no_least end s p o h (t ∷ ts) none = ap (λ x. bind (λ q. read end q ts)
    (stepped (option_map (λ m. AfterLeast s p o m t.span h) x) t.span)) none

no_most : {two : Bool} (end : ℕ) (s : Second two) (p : PrimPhrase two) (o : Span) (m : Numeral) (a c : Span)
    (h : ItemHole two) (ts : List Token) → NoFront numeral_of ts
    → read end (WantsMost s p o m a c h) ts ≡ Err (front_refusal end ts)
no_most end s p o m a c h [] none = refl
no_most end s p o m a c h (t ∷ ts) none = ap (λ x. bind (λ q. read end q ts)
    (stepped (option_map (λ n. AfterMost s p o m a c n t.span h) x) t.span)) none

stuck_least : {two : Bool} (end : ℕ) (s : Second two) (p : PrimPhrase two) (o : Span) (m : Numeral) (a : Span)
    (h : ItemHole two) (ts : List Token) → (BeginsWith Comma ts → ⊥)
    → read end (AfterLeast s p o m a h) ts ≡ Err (front_refusal end ts)
stuck_least end s p o m a h [] other = refl
stuck_least end s p o m a h (t ∷ ts) other = ap (λ x. bind (λ q. read end q ts) (stepped x t.span)) (by t.kind other)
  where
    by : (k : TokenKind) → (k ≡ Comma → ⊥) → step (AfterLeast s p o m a h) k t.span ≡ None
    by Comma no_comma = absurd (no_comma refl)
    by _ no_comma = refl

stuck_most : {two : Bool} (end : ℕ) (s : Second two) (p : PrimPhrase two) (o : Span) (m : Numeral) (a c : Span)
    (n : Numeral) (b : Span) (h : ItemHole two) (ts : List Token) → (BeginsWith CloseCurly ts → ⊥)
    → read end (AfterMost s p o m a c n b h) ts ≡ Err (front_refusal end ts)
stuck_most end s p o m a c n b h [] other = refl
stuck_most end s p o m a c n b h (t ∷ ts) other = ap (λ x. bind (λ q. read end q ts) (stepped x t.span))
    (by t.kind other)
  where
    by : (k : TokenKind) → (k ≡ CloseCurly → ⊥) → step (AfterMost s p o m a c n b h) k t.span ≡ None
    by CloseCurly no_close = absurd (no_close refl)
    by _ no_close = refl

pub bounds_no_least : (end : ℕ) (old : List Token) → NoFront numeral_of old
    → StopsBounds end old (Refused (front_refusal end old))
bounds_no_least end old none = λ two s p o h. no_least end s p o h old none

pub bounds_no_comma : (end : ℕ) (old one : List Token) (least : ℕ) (a : Span) → TakesNumeral old least a one
    → (BeginsWith Comma one → ⊥) → StopsBounds end old (Refused (front_refusal end one))
bounds_no_comma end old one least a p other = λ two s x o h. rw (p.taken)
    (takes_least end s x o p.numeral a h one ∙ stuck_least end s x o p.numeral a h one other)

pub bounds_no_most : (end : ℕ) (old one two_of : List Token) (least : ℕ) (a c : Span) → TakesNumeral old least a one
    → one ≡ token Comma c ∷ two_of → NoFront numeral_of two_of
    → StopsBounds end old (Refused (front_refusal end two_of))
bounds_no_most end old one two_of least a c p e none =
    λ two s x o h. rw (p.taken) (takes_least end s x o p.numeral a h one
    ∙ rw e (no_most end s x o p.numeral a c h two_of none))

pub bounds_no_close : (end : ℕ) (old one two_of three : List Token) (least most : ℕ) (a c b : Span)
    → TakesNumeral old least a one → one ≡ token Comma c ∷ two_of → TakesNumeral two_of most b three
    → (BeginsWith CloseCurly three → ⊥) → StopsBounds end old (Refused (front_refusal end three))
bounds_no_close end old one two_of three least most a c b p e q other =
    λ two s x o h. rw (p.taken) (takes_least end s x o p.numeral a h one
    ∙ rw e (rw (q.taken) (takes_most end s x o p.numeral a c q.numeral b h three
    ∙ stuck_most end s x o p.numeral a c q.numeral b h three other)))

-- ---- lists

bare-seq : (at : Span) (items : List Expr) → bare_expr (expr at (kind.Seq items)) ≡ expr at
    (kind.Seq (map bare_expr items))
bare-seq at items = ap (λ es. expr at (kind.Seq es)) (bare_exprs_of items)

bare-choice : (at : Span) (items : List Expr) → bare_expr (expr at (kind.Choice items)) ≡ expr at
    (kind.Choice (map bare_expr items))
bare-choice at items = ap (λ es. expr at (kind.Choice es)) (bare_exprs_of items)

seq_items-some : {two : Bool} (bytes : List ℕ) (s : SeqPhrase two) → 0 < length (seq_items bytes s)
seq_items-some bytes (OneItem i) = omega arith
seq_items-some bytes (MoreItems s at i) = let e = length-append (seq_items bytes s) (item_tree bytes i ∷ []) in omega
    (arith, e)

expr_items-some : {two : Bool} (bytes : List ℕ) (x : ExprPhrase two) → 0 < length (expr_items bytes x)
expr_items-some bytes (OneSeq s) = omega arith
expr_items-some bytes (MoreSeqs x at s) = let e = length-append (expr_items bytes x) (seq_tree bytes s ∷ []) in omega
    (arith, e)

-- ---- seq

pub record SeqGrows (two : Bool) (bytes : List ℕ) (end depth : ℕ) (old : List Token) (items : List Expr) (extent : Span)
    (rest : List Token) : Type 0 where
  pub so_far : SeqSoFar two bytes end depth old (map bare_expr items) extent rest
  pub more : length items ≡ 1 → BeginsWith Comma rest

pub seq_one : (two : Bool) (bytes : List ℕ) (end depth : ℕ) (old new : List Token) (x : Expr) (extent : Span)
    → ReadsItem two bytes end depth old x extent new → ReadsSeq two bytes end depth old x extent new
seq_one two bytes end depth old new x extent r =
    record {
      phrase = OneItem r.phrase;
      value_is = r.value_is;
      extent_is = r.extent_is;
      goes_on = λ h d. r.goes_on
          (FirstItem h) d;
      shorter = r.shorter;
    }

pub seq_first : (two : Bool) (bytes : List ℕ) (end depth : ℕ) (old new : List Token) (x : Expr) (extent : Span)
    (items : List Expr) → items ≡ x ∷ [] → BeginsWith Comma new
    → ReadsItem two bytes end depth old (bare_expr x) extent new → SeqGrows two bytes end depth old items extent new
seq_first two bytes end depth old new x extent items e next r =
    record {
      so_far = record {
        phrase = OneItem r.phrase;
        value_is = ap (map bare_expr) e
            ∙ ap (λ t. t ∷ []) r.value_is;
        extent_is = r.extent_is;
        goes_on = λ h d. r.goes_on (FirstItem h) d;
        shorter = r.shorter;
      };
      more = λ _. next;
    }

comma_next : {two : Bool} (end : ℕ) (s : SeqPhrase two) (h : SeqHole two) (at : Span) (after : List Token)
    → read end (behind_seq s h) (token Comma at ∷ after) ≡ read end (WantsItem (NextItem s at h)) after
comma_next end (OneItem i) h at after = refl
comma_next end (MoreItems s b i) h at after = refl

pub seq_more : (two : Bool) (bytes : List ℕ) (end depth : ℕ) (old rest after more : List Token) (at : Span) (x : Expr)
    (at_x : Span) (items items' : List Expr) (extent extent' : Span)
    → rest ≡ token Comma at ∷ after → items' ≡ items ++ x ∷ [] → extent' ≡ joined extent at_x
    → SeqGrows two bytes end depth old items extent rest → ReadsItem two bytes end depth after
    (bare_expr x) at_x more
    → SeqGrows two bytes end depth old items' extent' more
seq_more two bytes end depth old rest after more at x at_x items items' extent extent' e f g grown r =
    let s = grown.so_far in
    record {
      so_far = record {
        phrase = MoreItems s.phrase at r.phrase;
        value_is = map-more bare_expr items items' x (seq_items bytes s.phrase) f s.value_is
            ∙ ap (λ t. seq_items bytes s.phrase ++ t ∷ []) r.value_is;
        extent_is = g ∙ ap₂ joined s.extent_is r.extent_is;
        goes_on = λ h d. s.goes_on h d ∙ rw e (comma_next end s.phrase h at after
            ∙ r.goes_on (NextItem s.phrase at h) d);
        shorter = let a = s.shorter in let b = r.shorter in let lengths = ap length e in omega arith;
      };
      more = λ one. absurd (two_now bare_expr items items' x (seq_items bytes s.phrase) f s.value_is
          (seq_items-some bytes s.phrase) one);
    }

pub seq_whole : (two : Bool) (bytes : List ℕ) (end depth : ℕ) (old rest : List Token) (items : List Expr)
    (extent : Span) → SeqGrows two bytes end depth old items extent rest → (BeginsWith Comma rest → ⊥)
    → ReadsSeq two bytes end depth old (bare_expr (expr extent (kind.Seq items))) extent rest
seq_whole two bytes end depth old rest items extent grown ended =
    let s = grown.so_far in
    record {
      phrase = s.phrase;
      value_is = bare-seq extent items
          ∙ (sym (one_or-many bare_expr items (expr extent (kind.Seq (map bare_expr items)))
          (λ one. ended (grown.more one))) ∙ ap₂ seq_node s.value_is s.extent_is);
      extent_is = s.extent_is;
      goes_on = s.goes_on;
      shorter = s.shorter;
    }

-- ---- expr

pub record ExprGrows (two : Bool) (bytes : List ℕ) (end depth : ℕ) (old : List Token) (items : List Expr)
    (extent : Span) (rest : List Token) : Type 0 where
  pub so_far : ExprSoFar two bytes end depth old (map bare_expr items) extent rest
  pub more : length items ≡ 1 → BeginsWith Bar rest
  pub no_comma : BeginsWith Comma rest → ⊥

pub expr_one : (two : Bool) (bytes : List ℕ) (end depth : ℕ) (old new : List Token) (x : Expr) (extent : Span)
    → ReadsSeq two bytes end depth old x extent new → ReadsExpr two bytes end depth old x extent new
expr_one two bytes end depth old new x extent r =
    record {
      phrase = OneSeq r.phrase;
      value_is = r.value_is;
      extent_is = r.extent_is;
      goes_on = λ h d. r.goes_on
          (FirstSeq h) d;
      shorter = r.shorter;
    }

pub expr_first : (two : Bool) (bytes : List ℕ) (end depth : ℕ) (old new : List Token) (x : Expr) (extent : Span)
    (items : List Expr) → items ≡ x ∷ [] → BeginsWith Bar new → (BeginsWith Comma new → ⊥)
    → ReadsSeq two bytes end depth old (bare_expr x) extent new → ExprGrows two bytes end depth old items extent new
expr_first two bytes end depth old new x extent items e next other r =
    record {
      so_far = record {
        phrase = OneSeq r.phrase;
        value_is = ap (map bare_expr) e
            ∙ ap (λ t. t ∷ []) r.value_is;
        extent_is = r.extent_is;
        goes_on = λ h d. r.goes_on (FirstSeq h) d;
        shorter = r.shorter;
      };
      more = λ _. next;
      no_comma = other;
    }

bar_next : {two : Bool} (end : ℕ) (e : ExprPhrase two) (h : ExprHole two) (at : Span) (after : List Token)
    → read end (behind_expr e h) (token Bar at ∷ after) ≡ read end (WantsItem (FirstItem (NextSeq e at h))) after
bar_next end (OneSeq (OneItem i)) h at after = refl
bar_next end (OneSeq (MoreItems s b i)) h at after = refl
bar_next end (MoreSeqs e c (OneItem i)) h at after = refl
bar_next end (MoreSeqs e c (MoreItems s b i)) h at after = refl

pub expr_more : (two : Bool) (bytes : List ℕ) (end depth : ℕ) (old rest after more : List Token) (at : Span) (x : Expr)
    (at_x : Span) (items items' : List Expr) (extent extent' : Span)
    → rest ≡ token Bar at ∷ after → items' ≡ items ++ x ∷ [] → extent' ≡ joined extent at_x
    → ExprGrows two bytes end depth old items extent rest
    → ReadsSeq two bytes end depth after (bare_expr x) at_x more → (BeginsWith Comma more → ⊥)
    → ExprGrows two bytes end depth old items' extent' more
expr_more two bytes end depth old rest after more at x at_x items items' extent extent' e f g grown r other =
    let s = grown.so_far in
    record {
      so_far = record {
        phrase = MoreSeqs s.phrase at r.phrase;
        value_is = map-more bare_expr items items' x (expr_items bytes s.phrase) f s.value_is
            ∙ ap (λ t. expr_items bytes s.phrase ++ t ∷ []) r.value_is;
        extent_is = g ∙ ap₂ joined s.extent_is r.extent_is;
        goes_on = λ h d. s.goes_on h d ∙ rw e (bar_next end s.phrase h at after ∙ r.goes_on (NextSeq s.phrase at h) d);
        shorter = let a = s.shorter in let b = r.shorter in let lengths = ap length e in omega arith;
      };
      more = λ one. absurd (two_now bare_expr items items' x (expr_items bytes s.phrase) f s.value_is
          (expr_items-some bytes s.phrase) one);
      no_comma = other;
    }

pub expr_whole : (two : Bool) (bytes : List ℕ) (end depth : ℕ) (old rest : List Token) (items : List Expr)
    (extent : Span) → ExprGrows two bytes end depth old items extent rest → (BeginsWith Bar rest → ⊥)
    → ReadsExpr two bytes end depth old (bare_expr (expr extent (kind.Choice items))) extent rest
expr_whole two bytes end depth old rest items extent grown ended =
    let s = grown.so_far in
    record {
      phrase = s.phrase;
      value_is = bare-choice extent items
          ∙ (sym (one_or-many bare_expr items (expr extent (kind.Choice (map bare_expr items)))
          (λ one. ended (grown.more one))) ∙ ap₂ choice_node s.value_is s.extent_is);
      extent_is = s.extent_is;
      goes_on = s.goes_on;
      shorter = s.shorter;
    }
