-- What the functions that read whole texts promise.
use Rattle.std.specs.Prelude.{ℕ, ◌<◌, Bool, List, ◌∷◌, length, map, ◌≡◌, Option, Some, None, Ok, Err}
use Rattle.pbs_base.specs.declared.refusal.Span.{Span}
use Rattle.pbs_ast.specs.declared.syntax.Expr.{Expr}
use Rattle.pbs_ast.specs.declared.syntax.Spec.{Spec}
use Rattle.pbs_text.specs.declared.fail.ReadSpec.{ReadSpec}
use Rattle.pbs_text.specs.declared.fail.ReadSpec.TheVariants.{Memory, Refused}
use Rattle.pbs_read.specs.declared.spec.Lists.{Lists}
use Rattle.pbs_read.specs.declared.spec.DeclWord.{DeclWord}
use Rattle.pbs_read.specs.declared.spec.DeclWord.TheVariants.{OfInput, OfAction, OfLevel, OfProd}
use Rattle.pbs_text.specs.declared.token.Token.{Token}
use Rattle.pbs_text.specs.declared.token.TokenKind.{TokenKind}
use Rattle.pbs_text.specs.declared.token.TokenKind.TheVariants.{InputWord, ActionWord, LevelWord, ProdWord}
use Rattle.pbs_ast.specs.Bare.{bare_prod}
use Rattle.pbs_text.specs.Grammar.{token, DeclPhrase, DeclsPhrase, ExprPhrase, TextPhrase, OfVersion}
use Rattle.pbs_text.specs.Trees.{Declared, nothing_declared, with_decl, declared_by, expr_tree, version_number}
use Rattle.pbs_text.specs.Trees.{text_spec}
use Rattle.pbs_text.specs.places.Holes.{Front}
use Rattle.pbs_text.specs.places.Places.{FirstInput, FirstName, Place, Start, InDecls, WantsInput, WantsName}
use Rattle.pbs_text.specs.places.Places.{AfterLevel, AfterProd}
use Rattle.pbs_text.specs.places.Steps.{with_next, first_front, whole_spec}
use Rattle.pbs_text.specs.places.Reading.{read}

abbrev pub bare_lists : Lists → Declared
bare_lists l = record { inputs = l.inputs; actions = l.actions; levels = l.levels; prods = map bare_prod l.prods }

abbrev pub nothing_yet : Declared
nothing_yet = nothing_declared

abbrev pub made_spec : Bool → Declared → Expr → Spec
made_spec two d main = record {
  version = version_number two;
  inputs = d.inputs;
  actions = d.actions;
  levels = d.levels;
  prods = d.prods;
  main = main;
}

-- 'spec' version ';'
pub record ReadsVersion (end : ℕ) (old : List Token) (two : Bool) (new : List Token) : Type 0 where
  pub spec_at : Span
  pub version_at : Span
  pub start_at : Span
  pub goes_on : read end Start old ≡ read end (InDecls (first_front two spec_at version_at start_at)) new

abbrev pub StopsVersion : ℕ → List Token → ReadSpec → Type 0
StopsVersion end old Memory = Unit {0}
StopsVersion end old (Refused r) = read end Start old ≡ Err r

abbrev pub decl_word : TokenKind → Option DeclWord
decl_word InputWord = Some OfInput
decl_word ActionWord = Some OfAction
decl_word LevelWord = Some OfLevel
decl_word ProdWord = Some OfProd
decl_word _ = None

abbrev pub decl_kind : DeclWord → TokenKind
decl_kind OfInput = InputWord
decl_kind OfAction = ActionWord
decl_kind OfLevel = LevelWord
decl_kind OfProd = ProdWord

-- the place behind a declaration's word
abbrev pub behind_word : {two : Bool} → DeclWord → Front two → Span → Place
behind_word OfInput f at = WantsInput (FirstInput f at)
behind_word OfAction f at = WantsName (FirstName f at)
behind_word OfLevel f at = AfterLevel f at
behind_word OfProd f at = AfterProd f at

pub record TakesDeclWord (old : List Token) (found : DeclWord) (new : List Token) : Type 0 where
  pub at : Span
  pub taken : old ≡ token (decl_kind found) at ∷ new

-- a declaration behind its word
pub record ReadsDecl (two : Bool) (bytes : List ℕ) (end : ℕ) (found : DeclWord) (old : List Token)
    (before after : Declared) (new : List Token) : Type 0 where
  pub phrase : Span → DeclPhrase two
  pub value_is : (at : Span) → after ≡ with_decl bytes before (phrase at)
  pub goes_on : (f : Front two) (at : Span) → read end (behind_word found f at) old ≡ read end
      (InDecls (with_next f (phrase at))) new
  pub shorter : length new < length old

abbrev pub StopsDecl : Bool → ℕ → DeclWord → List Token → ReadSpec → Type 0
StopsDecl two end found old Memory = Unit {0}
StopsDecl two end found old (Refused r) = (f : Front two) (at : Span) → read end (behind_word found f at) old ≡ Err r

-- {{ decl }} behind the version
pub record ReadsDecls (two : Bool) (bytes : List ℕ) (end : ℕ) (old : List Token) (lists : Declared)
    (new : List Token) : Type 0 where
  pub phrase : DeclsPhrase two
  pub value_is : lists ≡ declared_by bytes phrase
  pub goes_on : (a b c : Span) → read end (InDecls (first_front two a b c)) old ≡ read end
      (InDecls (record { spec_at = a; version_at = b; start_at = c; decls = phrase })) new

abbrev pub StopsDecls : Bool → ℕ → List Token → ReadSpec → Type 0
StopsDecls two end old Memory = Unit {0}
StopsDecls two end old (Refused r) = (a b c : Span) → read end (InDecls (first_front two a b c)) old ≡ Err r

-- 'main' '=' expr ';' end-of-text
pub record ReadsMain (two : Bool) (bytes : List ℕ) (end : ℕ) (old : List Token) (x : Expr) : Type 0 where
  pub main_at : Span
  pub equals_at : Span
  pub phrase : ExprPhrase two
  pub end_at : Span
  pub value_is : x ≡ expr_tree bytes phrase
  pub goes_on : (f : Front two) → read end (InDecls f) old ≡ Ok
      (OfVersion two (whole_spec f main_at equals_at phrase end_at))

abbrev pub StopsMain : Bool → ℕ → List Token → ReadSpec → Type 0
StopsMain two end old Memory = Unit {0}
StopsMain two end old (Refused r) = (f : Front two) → read end (InDecls f) old ≡ Err r

pub record ReadsText (bytes : List ℕ) (end : ℕ) (old : List Token) (spec : Spec) : Type 0 where
  pub phrase : TextPhrase
  pub is_read : read end Start old ≡ Ok phrase
  pub value_is : spec ≡ text_spec bytes phrase

abbrev pub StopsText : ℕ → List Token → ReadSpec → Type 0
StopsText end old Memory = Unit {0}
StopsText end old (Refused r) = read end Start old ≡ Err r
