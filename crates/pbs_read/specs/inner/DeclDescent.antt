-- What the functions that read declarations promise.
use Rattle.std.specs.Prelude.{ℕ, ◌<◌, ◌≤◌, Bool, List, ◌∷◌, ◌++◌, length, ◌≡◌, Err}
use Rattle.pbs_base.specs.declared.refusal.Span.{Span}
use Rattle.pbs_ast.specs.declared.syntax.Decl.{Decl}
use Rattle.pbs_ast.specs.declared.syntax.Set.{Set}
use Rattle.pbs_ast.specs.declared.syntax.Level.{Level}
use Rattle.pbs_ast.specs.declared.syntax.Prod.{Prod}
use Rattle.pbs_ast.specs.declared.syntax.Expr.{Expr}
use Rattle.pbs_text.specs.declared.fail.ReadSpec.{ReadSpec}
use Rattle.pbs_text.specs.declared.fail.ReadSpec.TheVariants.{Memory, Refused}
use Rattle.pbs_text.specs.declared.token.Token.{Token}
use Rattle.pbs_text.specs.Grammar.{token, bit_kind, InputPhrase, InputsPhrase, NamesPhrase, SetsPhrase, NoSets}
use Rattle.pbs_text.specs.Grammar.{MoreSets, InputDecl, ActionDecl, LevelDecl, ProdDecl, ExprPhrase, OfVersion}
use Rattle.pbs_text.specs.Trees.{declared, input_of, inputs_of, names_of, sets_of, expr_tree, word_at}
use Rattle.pbs_text.specs.places.Holes.{Front}
use Rattle.pbs_text.specs.places.Places.{InputHole, FirstInput, FirstName, LevelFront, InDecls, WantsInput}
use Rattle.pbs_text.specs.places.Places.{AfterInputName, AfterInput, WantsName, AfterLevel, InLevel, AfterSetName}
use Rattle.pbs_text.specs.places.Places.{AfterProd, AfterProdName, AfterMain, Whole}
use Rattle.pbs_text.specs.places.Steps.{with_next, level_front, whole_spec}
use Rattle.pbs_text.specs.places.Reading.{read}

-- a bit
pub record TakesBit (old : List Token) (b : Bool) (new : List Token) : Type 0 where
  pub at : Span
  pub taken : old ≡ token (bit_kind b) at ∷ new

-- nothing, or ':' width, behind the name of an input
pub record ReadsWidth (two : Bool) (end : ℕ) (old : List Token) (width : ℕ) (new : List Token) : Type 0 where
  pub phrase : Span → InputPhrase two
  pub value_is : (bytes : List ℕ) (at : Span) → input_of bytes (phrase at) ≡ declared bytes at width
  pub goes_on : (at : Span) (h : InputHole two) → read end (AfterInputName at h) old ≡ read end
      (AfterInput (phrase at) h) new
  pub shorter : length new ≤ length old

abbrev pub StopsWidth : Bool → ℕ → List Token → ReadSpec → Type 0
StopsWidth two end old Memory = Unit {0}
StopsWidth two end old (Refused r) = (at : Span) (h : InputHole two) → read end (AfterInputName at h) old ≡ Err r

pub record ReadsInput (two : Bool) (bytes : List ℕ) (end : ℕ) (old : List Token) (x : Decl)
    (new : List Token) : Type 0 where
  pub phrase : InputPhrase two
  pub value_is : x ≡ input_of bytes phrase
  pub goes_on : (h : InputHole two) → read end (WantsInput h) old ≡ read end (AfterInput phrase h) new
  pub shorter : length new < length old

abbrev pub StopsInput : Bool → ℕ → List Token → ReadSpec → Type 0
StopsInput two end old Memory = Unit {0}
StopsInput two end old (Refused r) = (h : InputHole two) → read end (WantsInput h) old ≡ Err r

-- input {{ ',' input }} ';'
pub record ReadsInputs (two : Bool) (bytes : List ℕ) (end : ℕ) (old : List Token) (before after : List Decl)
    (new : List Token) : Type 0 where
  pub phrase : InputsPhrase two
  pub end_at : Span
  pub value_is : after ≡ before ++ inputs_of bytes phrase
  pub goes_on : (f : Front two) (at : Span) → read end (WantsInput (FirstInput f at)) old ≡ read end
      (InDecls (with_next f (InputDecl at phrase end_at))) new
  pub shorter : length new < length old

abbrev pub StopsInputs : Bool → ℕ → List Token → ReadSpec → Type 0
StopsInputs two end old Memory = Unit {0}
StopsInputs two end old (Refused r) = (f : Front two) (at : Span) → read end (WantsInput (FirstInput f at)) old ≡ Err r

-- name {{ ',' name }} ';'
pub record ReadsNames (bytes : List ℕ) (end : ℕ) (old : List Token) (before after : List Decl)
    (new : List Token) : Type 0 where
  pub phrase : NamesPhrase
  pub end_at : Span
  pub value_is : after ≡ before ++ names_of bytes phrase
  pub goes_on : (two : Bool) (f : Front two) (at : Span) → read end (WantsName (FirstName f at)) old ≡ read end
      (InDecls (with_next f (ActionDecl at phrase end_at))) new
  pub shorter : length new < length old

abbrev pub StopsNames : ℕ → List Token → ReadSpec → Type 0
StopsNames end old Memory = Unit {0}
StopsNames end old (Refused r) = (two : Bool) (f : Front two) (at : Span)
    → read end (WantsName (FirstName f at)) old ≡ Err r

-- ':' bit ';' behind the name of an action
pub record ReadsSet (end : ℕ) (old : List Token) (b : Bool) (new : List Token) : Type 0 where
  pub colon_at : Span
  pub bit_at : Span
  pub end_at : Span
  pub goes_on : (two : Bool) (l : LevelFront two) (ss : SetsPhrase) (at : Span)
      → read end (AfterSetName l ss at) old ≡ read end (InLevel l (MoreSets ss at colon_at b bit_at end_at)) new
  pub shorter : length new < length old

abbrev pub StopsSet : ℕ → List Token → ReadSpec → Type 0
StopsSet end old Memory = Unit {0}
StopsSet end old (Refused r) = (two : Bool) (l : LevelFront two) (ss : SetsPhrase) (at : Span)
    → read end (AfterSetName l ss at) old ≡ Err r

-- {{ name ':' bit ';' }}
pub record ReadsSets (bytes : List ℕ) (end : ℕ) (old : List Token) (sets : List Set) (new : List Token) : Type 0 where
  pub phrase : SetsPhrase
  pub value_is : sets ≡ sets_of bytes phrase
  pub goes_on : (two : Bool) (l : LevelFront two) → read end (InLevel l NoSets) old ≡ read end (InLevel l phrase) new
  pub shorter : length new ≤ length old

abbrev pub StopsSets : ℕ → List Token → ReadSpec → Type 0
StopsSets end old Memory = Unit {0}
StopsSets end old (Refused r) = (two : Bool) (l : LevelFront two) → read end (InLevel l NoSets) old ≡ Err r

-- name '=' bit '{' behind 'level'
pub record ReadsLevelHead (end : ℕ) (old : List Token) (name_at : Span) (b : Bool) (new : List Token) : Type 0 where
  pub equals_at : Span
  pub bit_at : Span
  pub open_at : Span
  pub goes_on : (two : Bool) (f : Front two) (at : Span)
      → read end (AfterLevel f at) old ≡ read end (InLevel (level_front f at name_at equals_at b bit_at open_at) NoSets)
      new
  pub shorter : length new < length old

abbrev pub StopsLevel : ℕ → List Token → ReadSpec → Type 0
StopsLevel end old Memory = Unit {0}
StopsLevel end old (Refused r) = (two : Bool) (f : Front two) (at : Span) → read end (AfterLevel f at) old ≡ Err r

-- a level's line
abbrev pub level_of : List ℕ → Span → Bool → SetsPhrase → Level
level_of bytes n b ss = record { name = word_at bytes n; span = n; start = b; sets = sets_of bytes ss }

pub record ReadsLevel (bytes : List ℕ) (end : ℕ) (old : List Token) (x : Level) (new : List Token) : Type 0 where
  pub name_at : Span
  pub equals_at : Span
  pub value : Bool
  pub bit_at : Span
  pub open_at : Span
  pub sets : SetsPhrase
  pub close_at : Span
  pub value_is : x ≡ level_of bytes name_at value sets
  pub goes_on : (two : Bool) (f : Front two) (at : Span)
      → read end (AfterLevel f at) old ≡ read end
      (InDecls (with_next f (LevelDecl at name_at equals_at value bit_at open_at sets close_at))) new
  pub shorter : length new < length old

-- '=' expr ';' behind the name of a production or 'main'
pub record ReadsRightSide (two : Bool) (bytes : List ℕ) (end : ℕ) (old : List Token) (x : Expr)
    (new : List Token) : Type 0 where
  pub equals_at : Span
  pub phrase : ExprPhrase two
  pub end_at : Span
  pub value_is : x ≡ expr_tree bytes phrase
  pub after_name : (f : Front two) (at name_at : Span) → read end (AfterProdName f at name_at) old ≡ read end
      (InDecls (with_next f (ProdDecl at name_at equals_at phrase end_at))) new
  pub after_main : (f : Front two) (at : Span) → read end (AfterMain f at) old ≡ read end
      (Whole (OfVersion two (whole_spec f at equals_at phrase end_at))) new
  pub shorter : length new < length old

abbrev pub StopsRightSide : Bool → ℕ → List Token → ReadSpec → Type 0
StopsRightSide two end old Memory = Unit {0}
StopsRightSide two end old (Refused r) =
    ((f : Front two) (at name_at : Span) → read end (AfterProdName f at name_at) old ≡ Err r) ×
    ((f : Front two) (at : Span) → read end (AfterMain f at) old ≡ Err r)

-- name '=' expr ';' behind 'prod'
pub record ReadsProd (two : Bool) (bytes : List ℕ) (end : ℕ) (old : List Token) (x : Prod)
    (new : List Token) : Type 0 where
  pub name_at : Span
  pub equals_at : Span
  pub body : ExprPhrase two
  pub end_at : Span
  pub value_is : x ≡ record { name = word_at bytes name_at; span = name_at; body = expr_tree bytes body }
  pub goes_on : (f : Front two) (at : Span) → read end (AfterProd f at) old ≡ read end
      (InDecls (with_next f (ProdDecl at name_at equals_at body end_at))) new
  pub shorter : length new < length old

abbrev pub StopsProd : Bool → ℕ → List Token → ReadSpec → Type 0
StopsProd two end old Memory = Unit {0}
StopsProd two end old (Refused r) = (f : Front two) (at : Span) → read end (AfterProd f at) old ≡ Err r
