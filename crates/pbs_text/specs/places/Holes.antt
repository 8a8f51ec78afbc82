-- Where a phrase of each kind is wanted: what stands before it, and how deep it is nested.
use Rattle.std.specs.Prelude.{ℕ, zero, suc, Bool, List, [], ◌∷◌, ◌++◌}
use Rattle.pbs_base.specs.declared.refusal.Span.{Span}
use Rattle.pbs_text.specs.declared.token.Token.{Token}
use Rattle.pbs_text.specs.declared.token.TokenKind.TheVariants.{Name, ProdWord, MainWord, HoldWord, TryWord, AbortWord}
use Rattle.pbs_text.specs.declared.token.TokenKind.TheVariants.{ThenWord, Comma, Equals, OpenRound, OpenSquare}
use Rattle.pbs_text.specs.declared.token.TokenKind.TheVariants.{CloseSquare, Bar, Tilde, Ampersand, Colon}
use Rattle.pbs_text.specs.Grammar.{token, AllPhrase, TermPhrase, ExprPhrase, SeqPhrase, GroupPhrase, DeclsPhrase}
use Rattle.pbs_text.specs.Grammar.{all_tokens, term_tokens, expr_tokens, seq_tokens, group_tokens, decls_tokens}
use Rattle.pbs_text.specs.Grammar.{head_tokens}

-- what stands before a declaration
pub record Front (two : Bool) : Type 0 where
  pub spec_at : Span
  pub version_at : Span
  pub start_at : Span
  pub decls : DeclsPhrase two

mutual
  pub data ExprHole (two : Bool) : Type 0 where
    OfGroup : (at : Span) (g : GroupHole two) → ExprHole two
    OfProd : (f : Front two) (at name_at equals_at : Span) → ExprHole two
    OfMain : (f : Front two) (at equals_at : Span) → ExprHole two

  pub data SeqHole (two : Bool) : Type 0 where
    FirstSeq : (h : ExprHole two) → SeqHole two
    NextSeq : (e : ExprPhrase two) (at : Span) (h : ExprHole two) → SeqHole two

  pub data ItemHole (two : Bool) : Type 0 where
    FirstItem : (h : SeqHole two) → ItemHole two
    NextItem : (s : SeqPhrase two) (at : Span) (h : SeqHole two) → ItemHole two

  pub data GroupHole (two : Bool) : Type 0 where
    AsPrim : (h : ItemHole two) → GroupHole two
    OfHold : (at o : Span) (t : TermPhrase two) (c colon : Span) (h : ItemHole two) → GroupHole two
    OfBody : (at : Span) (h : ItemHole two) → GroupHole two
    OfTrap : (at : Span) (body : GroupPhrase two) (abort_at : Span) (h : ItemHole two) → GroupHole two
    OfAfter : (at : Span) (body : GroupPhrase two) (abort_at : Span) (trap : GroupPhrase two) (then_at : Span)
        (h : ItemHole two) → GroupHole two

mutual
  pub data TermHole (two : Bool) : Type 0 where
    OfTerminal : (at : Span) (h : ItemHole two) → TermHole two
    OfGuard : (hold_at at : Span) (h : ItemHole two) → TermHole two
    InRound : (at : Span) (h : UnitHole two) → TermHole two

  pub data AllHole (two : Bool) : Type 0 where
    FirstAll : (h : TermHole two) → AllHole two
    NextAll : (t : TermPhrase two) (at : Span) (h : TermHole two) → AllHole two

  pub data UnitHole (two : Bool) : Type 0 where
    UnderNot : (at : Span) (h : UnitHole two) → UnitHole two
    FirstUnit : (h : AllHole two) → UnitHole two
    NextUnit : (a : AllPhrase two) (at : Span) (h : AllHole two) → UnitHole two

-- ---- the tokens before it

abbrev pub front_tokens : {two : Bool} → Front two → List Token
front_tokens {two} f = head_tokens two f.spec_at f.version_at f.start_at ++ decls_tokens f.decls

abbrev mutual
  pub before_expr : {two : Bool} → ExprHole two → List Token
  before_expr (OfGroup at g) = before_group g ++ token OpenRound at ∷ []
  before_expr (OfProd f at n q) = front_tokens f ++ token ProdWord at ∷ token Name n ∷ token Equals q ∷ []
  before_expr (OfMain f at q) = front_tokens f ++ token MainWord at ∷ token Equals q ∷ []

  pub before_seq : {two : Bool} → SeqHole two → List Token
  before_seq (FirstSeq h) = before_expr h
  before_seq (NextSeq e at h) = before_expr h ++ (expr_tokens e ++ token Bar at ∷ [])

  pub before_item : {two : Bool} → ItemHole two → List Token
  before_item (FirstItem h) = before_seq h
  before_item (NextItem s at h) = before_seq h ++ (seq_tokens s ++ token Comma at ∷ [])

  pub before_group : {two : Bool} → GroupHole two → List Token
  before_group (AsPrim h) = before_item h
  before_group (OfHold at o t c colon h) =
      before_item h ++ token HoldWord at ∷ token OpenSquare o ∷
      (term_tokens t ++ token CloseSquare c ∷ token Colon colon ∷ [])
  before_group (OfBody at h) = before_item h ++ token TryWord at ∷ []
  before_group (OfTrap at body a h) = before_item h ++ token TryWord at ∷ (group_tokens body ++ token AbortWord a ∷ [])
  before_group (OfAfter at body a trap th h) =
      before_item h ++ token TryWord at ∷ (group_tokens body ++ token AbortWord a ∷
      (group_tokens trap ++ token ThenWord th ∷ []))

abbrev mutual
  pub before_term : {two : Bool} → TermHole two → List Token
  before_term (OfTerminal at h) = before_item h ++ token OpenSquare at ∷ []
  before_term (OfGuard hold_at at h) = before_item h ++ token HoldWord hold_at ∷ token OpenSquare at ∷ []
  before_term (InRound at h) = before_unit h ++ token OpenRound at ∷ []

  pub before_all : {two : Bool} → AllHole two → List Token
  before_all (FirstAll h) = before_term h
  before_all (NextAll t at h) = before_term h ++ (term_tokens t ++ token Bar at ∷ [])

  pub before_unit : {two : Bool} → UnitHole two → List Token
  before_unit (UnderNot at h) = before_unit h ++ token Tilde at ∷ []
  before_unit (FirstUnit h) = before_all h
  before_unit (NextUnit a at h) = before_all h ++ (all_tokens a ++ token Ampersand at ∷ [])

-- ---- its nesting

-- how many `(` are open and how many `~` wait for the end of their operand
abbrev mutual
  pub expr_nesting : {two : Bool} → ExprHole two → ℕ
  expr_nesting (OfGroup at g) = suc (group_nesting g)
  expr_nesting (OfProd f at n q) = zero
  expr_nesting (OfMain f at q) = zero

  pub seq_nesting : {two : Bool} → SeqHole two → ℕ
  seq_nesting (FirstSeq h) = expr_nesting h
  seq_nesting (NextSeq e at h) = expr_nesting h

  pub item_nesting : {two : Bool} → ItemHole two → ℕ
  item_nesting (FirstItem h) = seq_nesting h
  item_nesting (NextItem s at h) = seq_nesting h

  pub group_nesting : {two : Bool} → GroupHole two → ℕ
  group_nesting (AsPrim h) = item_nesting h
  group_nesting (OfHold at o t c colon h) = item_nesting h
  group_nesting (OfBody at h) = item_nesting h
  group_nesting (OfTrap at body a h) = item_nesting h
  group_nesting (OfAfter at body a trap th h) = item_nesting h

abbrev mutual
  pub term_nesting : {two : Bool} → TermHole two → ℕ
  term_nesting (OfTerminal at h) = item_nesting h
  term_nesting (OfGuard hold_at at h) = item_nesting h
  term_nesting (InRound at h) = suc (unit_nesting h)

  pub all_nesting : {two : Bool} → AllHole two → ℕ
  all_nesting (FirstAll h) = term_nesting h
  all_nesting (NextAll t at h) = term_nesting h

  pub unit_nesting : {two : Bool} → UnitHole two → ℕ
  unit_nesting (UnderNot at h) = suc (unit_nesting h)
  unit_nesting (FirstUnit h) = all_nesting h
  unit_nesting (NextUnit a at h) = all_nesting h
