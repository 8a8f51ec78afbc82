-- Each exit of the functions that read whole texts, over plain variables.
use Rattle.std.proofs.Common.{◌≡◌, ℕ, ◌<◌, List, [], ◌∷◌, ◌++◌, length, map, Bool, Some, None, Err, refl, sym, ap, ap₂}
use Rattle.std.proofs.Common.{◌∙◌, false, true, arith}
use Rattle.std.specs.Prelude.{option_map}
use Rattle.pbs_ast.specs.declared.syntax.Expr.{Expr}
use Rattle.pbs_text.specs.declared.fail.ReadSpec.{ReadSpec}
use Rattle.pbs_text.specs.declared.fail.ReadSpec.TheVariants.{Memory, Refused}
use Rattle.pbs_text.specs.places.Reading.{stepped, bind, read}
use Rattle.pbs_descent.specs.Descent.{BeginsWith, NoFront, front_refusal}
use Rattle.pbs_ast.specs.Bare.{bare_prod}
use Rattle.pbs_text.specs.Trees.{Declared, with_decl}
use Rattle.pbs_read.specs.inner.DeclDescent.{ReadsInputs, ReadsNames, ReadsLevel, ReadsRightSide, StopsRightSide}
use Rattle.pbs_read.specs.inner.DeclDescent.{ReadsProd}
use Rattle.pbs_read.specs.inner.TextDescent.{bare_lists, made_spec, decl_word, decl_kind, behind_word, ReadsVersion}
use Rattle.pbs_read.specs.inner.TextDescent.{StopsVersion, TakesDeclWord, ReadsDecl, StopsDecl, ReadsDecls, StopsDecls}
use Rattle.pbs_read.specs.inner.TextDescent.{ReadsMain, StopsMain, ReadsText}
use Rattle.pbs_text.specs.Grammar.{token, version_kind, InputDecl, ActionDecl, LevelDecl, ProdDecl, DeclsPhrase}
use Rattle.pbs_text.specs.Grammar.{MoreDecls, OfVersion}
use Rattle.pbs_text.specs.places.Holes.{Front}
use Rattle.pbs_text.specs.places.Places.{AfterSpec, AfterVersion, InDecls}
use Rattle.pbs_text.specs.places.Steps.{version_of, whole_spec, first_front, step}
use Rattle.std.proofs.lemmas.List.{map-append}
use Rattle.pbs_ast.specs.declared.syntax.Decl.{Decl}
use Rattle.pbs_ast.specs.declared.syntax.Level.{Level}
use Rattle.pbs_ast.specs.declared.syntax.Prod.{Prod}
use Rattle.pbs_ast.specs.declared.syntax.Spec.{Spec}
use Rattle.pbs_read.specs.declared.spec.Lists.{Lists}
use Rattle.pbs_read.specs.declared.spec.DeclWord.{DeclWord}
use Rattle.pbs_read.specs.declared.spec.DeclWord.TheVariants.{OfInput, OfAction, OfLevel, OfProd}
use Rattle.pbs_base.specs.declared.refusal.Span.{Span}
use Rattle.pbs_text.specs.declared.token.Token.{Token}
use Rattle.pbs_text.specs.declared.token.TokenKind.{TokenKind}
use Rattle.pbs_text.specs.declared.token.TokenKind.TheVariants.{One, Two, SpecWord, InputWord, ActionWord, LevelWord}
use Rattle.pbs_text.specs.declared.token.TokenKind.TheVariants.{ProdWord, MainWord, Semicolon}

-- ---- the version

takes_version : (end : ℕ) (a : Span) (two : Bool) (b c : Span) (new : List Token)
    → read end (AfterSpec a) (token (version_kind two) b ∷ token Semicolon c ∷ new) ≡ read end
    (InDecls (first_front two a b c)) new
takes_version end a false b c new = refl
takes_version end a true b c new = refl

version_at : (k : TokenKind) (two : Bool) → Some two ≡ version_of k → version_kind two ≡ k
version_at One two e = let same : two ≡ false = cc in ap version_kind same
version_at Two two e = let same : two ≡ true = cc in ap version_kind same
version_at _ two e = absurd (cc)

pub version_read : (end : ℕ) (old one rest new : List Token) (a c : Span) (t : Token) (two : Bool)
    → old ≡ token SpecWord a ∷ one → one ≡ t ∷ rest → Some two ≡ version_of t.kind → rest ≡ token Semicolon c ∷ new
    → ReadsVersion end old two new
version_read end old one rest new a c t two e f k g =
    let is : one ≡ token (version_kind two) t.span ∷ rest = f
    ∙ ap (λ x. token x t.span ∷ rest) (sym (version_at t.kind two k)) in
    record {
      spec_at = a;
      version_at = t.span;
      start_at = c;
      goes_on = rw e
          (rw is (rw g (takes_version end a two t.span c new)));
    }

no_version : (end : ℕ) (a : Span) (ts : List Token) → NoFront version_of ts
    → read end (AfterSpec a) ts ≡ Err (front_refusal end ts)
no_version end a [] none = refl
no_version end a (t ∷ ts) none = ap (λ o. bind (λ q. read end q ts)
    (stepped (option_map (λ two. AfterVersion two a t.span) o) t.span)) none

pub no_version_front : (ts rest : List Token) (t : Token) → ts ≡ t ∷ rest → None ≡ version_of t.kind
    → NoFront version_of ts
no_version_front ts rest t e f = rw e (sym f)

pub version_stops : (end : ℕ) (old one : List Token) (a : Span) → old ≡ token SpecWord a ∷ one → NoFront version_of one
    → StopsVersion end old (Refused (front_refusal end one))
version_stops end old one a e none = rw e (no_version end a one none)

takes_number : (end : ℕ) (a : Span) (two : Bool) (b : Span) (z : List Token)
    → read end (AfterSpec a) (token (version_kind two) b ∷ z) ≡ read end (AfterVersion two a b) z
takes_number end a false b z = refl
takes_number end a true b z = refl

stuck_version : (end : ℕ) (two : Bool) (a b : Span) (ts : List Token) → (BeginsWith Semicolon ts → ⊥)
    → read end (AfterVersion two a b) ts ≡ Err (front_refusal end ts)
stuck_version end two a b [] other = refl
stuck_version end two a b (t ∷ ts) other = ap (λ s. bind (λ q. read end q ts) (stepped s t.span)) (by t.kind other)
  where
    by : (k : TokenKind) → (k ≡ Semicolon → ⊥) → step (AfterVersion two a b) k t.span ≡ None
    by Semicolon x = absurd (x refl)
    by _ x = refl

pub version_unended : (end : ℕ) (old one rest : List Token) (a : Span) (t : Token) (two : Bool) (e : ReadSpec)
    → old ≡ token SpecWord a ∷ one → one ≡ t ∷ rest → Some two ≡ version_of t.kind
    → (e ≡ Refused (front_refusal end rest)) × (BeginsWith Semicolon rest → ⊥) → StopsVersion end old e
version_unended end old one rest a t two e f g k stop =
    let is : one ≡ token (version_kind two) t.span ∷ rest = g
    ∙ ap (λ x. token x t.span ∷ rest) (sym (version_at t.kind two k)) in
    rw (stop.0) (rw f (rw is (takes_number end a two t.span rest ∙ stuck_version end two a t.span rest stop.1)))

-- ---- declarations

word_at_kind : (k : TokenKind) (found : DeclWord) → Some found ≡ decl_word k → decl_kind found ≡ k
word_at_kind InputWord found e = let same : found ≡ OfInput = cc in ap decl_kind same
word_at_kind ActionWord found e = let same : found ≡ OfAction = cc in ap decl_kind same
word_at_kind LevelWord found e = let same : found ≡ OfLevel = cc in ap decl_kind same
word_at_kind ProdWord found e = let same : found ≡ OfProd = cc in ap decl_kind same
word_at_kind _ found e = absurd (cc)

pub word_found : (old rest : List Token) (t : Token) (found : DeclWord) → old ≡ t ∷ rest → Some found ≡ decl_word t.kind
    → TakesDeclWord old found rest
word_found old rest t found e f = record {
  at = t.span;
  taken = e
      ∙ ap (λ k. token k t.span ∷ rest) (sym (word_at_kind t.kind found f));
}

pub decl_inputs : (two : Bool) (bytes : List ℕ) (end : ℕ) (old new : List Token) (l : Lists) (xs : List Decl)
    → ReadsInputs two bytes end old l.inputs xs new
    → ReadsDecl two bytes end OfInput old (bare_lists l) (bare_lists (record l { inputs = xs })) new
decl_inputs two bytes end old new l xs r =
    record {
      phrase = λ at. InputDecl at r.phrase r.end_at;
      value_is = λ at. ap
          (λ x. bare_lists (record l { inputs = x })) r.value_is;
      goes_on = λ f at. r.goes_on f at;
      shorter = r.shorter;
    }

pub decl_names : (two : Bool) (bytes : List ℕ) (end : ℕ) (old new : List Token) (l : Lists) (xs : List Decl)
    → ReadsNames bytes end old l.actions xs new
    → ReadsDecl two bytes end OfAction old (bare_lists l) (bare_lists (record l { actions = xs })) new
decl_names two bytes end old new l xs r =
    record {
      phrase = λ at. ActionDecl at r.phrase r.end_at;
      value_is = λ at. ap
          (λ x. bare_lists (record l { actions = x })) r.value_is;
      goes_on = λ f at. r.goes_on two f at;
      shorter = r.shorter;
    }

pub decl_level : (two : Bool) (bytes : List ℕ) (end : ℕ) (old new : List Token) (l : Lists) (xs : List Level)
    (x : Level) → xs ≡ l.levels ++ x ∷ [] → ReadsLevel bytes end old x new
    → ReadsDecl two bytes end OfLevel old (bare_lists l) (bare_lists (record l { levels = xs })) new
decl_level two bytes end old new l xs x e r =
    record {
      phrase = λ at. LevelDecl at r.name_at r.equals_at r.value r.bit_at r.open_at r.sets r.close_at;
      value_is = λ at. ap (λ y. bare_lists (record l { levels = y })) (e ∙ ap (λ y. l.levels ++ y ∷ []) r.value_is);
      goes_on = λ f at. r.goes_on two f at;
      shorter = r.shorter;
    }

pub decl_prod : (two : Bool) (bytes : List ℕ) (end : ℕ) (old new : List Token) (l : Lists) (xs : List Prod) (x : Prod)
    → xs ≡ l.prods ++ x ∷ [] → ReadsProd two bytes end old (bare_prod x) new
    → ReadsDecl two bytes end OfProd old (bare_lists l) (bare_lists (record l { prods = xs })) new
decl_prod two bytes end old new l xs x e r =
    record {
      phrase = λ at. ProdDecl at r.name_at r.equals_at r.body r.end_at;
      value_is = λ at. ap with_prods (ap (map bare_prod) e ∙ (map-append bare_prod l.prods (x ∷ [])
          ∙ ap (λ y. map bare_prod l.prods ++ y ∷ []) r.value_is));
      goes_on = λ f at. r.goes_on f at;
      shorter = r.shorter;
    }
  where
    with_prods : List Prod → Declared
    with_prods y = record { inputs = l.inputs; actions = l.actions; levels = l.levels; prods = y }

starts_decl : {two : Bool} (end : ℕ) (found : DeclWord) (f : Front two) (at : Span) (z : List Token)
    → read end (InDecls f) (token (decl_kind found) at ∷ z) ≡ read end (behind_word found f at) z
starts_decl end OfInput f at z = refl
starts_decl end OfAction f at z = refl
starts_decl end OfLevel f at z = refl
starts_decl end OfProd f at z = refl

abbrev front_with : (two : Bool) → Span → Span → Span → DeclsPhrase two → Front two
front_with two a b c ds = record { spec_at = a; version_at = b; start_at = c; decls = ds }

pub decls_more : (two : Bool) (bytes : List ℕ) (end : ℕ) (old rest after more : List Token) (lists next : Declared)
    (found : DeclWord) → TakesDeclWord rest found after → ReadsDecls two bytes end old lists rest
    → ReadsDecl two bytes end found after lists next more → ReadsDecls two bytes end old next more
decls_more two bytes end old rest after more lists next found t s r =
    record {
      phrase = MoreDecls s.phrase (r.phrase t.at);
      value_is = r.value_is t.at ∙ ap (λ d. with_decl bytes d (r.phrase t.at)) s.value_is;
      goes_on = λ a b c. s.goes_on a b c ∙ rw (t.taken) (starts_decl end found
          (front_with two a b c s.phrase) t.at after ∙ r.goes_on (front_with two a b c s.phrase) t.at);
    }

pub decls_stop : (two : Bool) (bytes : List ℕ) (end : ℕ) (old rest after : List Token) (lists : Declared)
    (found : DeclWord) (e : ReadSpec) → TakesDeclWord rest found after → ReadsDecls two bytes end old lists rest
    → StopsDecl two end found after e → StopsDecls two end old e
decls_stop two bytes end old rest after lists found Memory t s stops = tt
decls_stop two bytes end old rest after lists found (Refused r) t s stops =
    λ a b c. s.goes_on a b c ∙ rw (t.taken) (starts_decl end found (front_with two a b c s.phrase) t.at after
    ∙ stops (front_with two a b c s.phrase) t.at)

-- ---- main

pub main_read : (two : Bool) (bytes : List ℕ) (end : ℕ) (old one new : List Token) (m : Span) (x : Expr)
    → old ≡ token MainWord m ∷ one → ReadsRightSide two bytes end one x new → length new ≡ 0
    → ReadsMain two bytes end old x
main_read two bytes end old one [] m x e r none =
    record {
      main_at = m;
      equals_at = r.equals_at;
      phrase = r.phrase;
      end_at = r.end_at;
      value_is = r.value_is;
      goes_on = λ h. rw e (r.after_main h m);
    }
main_read two bytes end old one (t ∷ new) m x e r none = absurd (omega arith)

pub main_stops : (two : Bool) (end : ℕ) (old one : List Token) (m : Span) (e : ReadSpec)
    → old ≡ token MainWord m ∷ one → StopsRightSide two end one e → StopsMain two end old e
main_stops two end old one m Memory f stops = tt
main_stops two end old one m (Refused r) f stops = λ h. rw f (stops.1 h m)

pub main_more : (two : Bool) (bytes : List ℕ) (end : ℕ) (old one new : List Token) (m : Span) (x : Expr)
    → old ≡ token MainWord m ∷ one → ReadsRightSide two bytes end one x new → 0 < length new
    → StopsMain two end old (Refused (front_refusal end new))
main_more two bytes end old one [] m x e r some = absurd (omega arith)
main_more two bytes end old one (t ∷ new) m x e r some = λ h. rw e (r.after_main h m)

-- ---- the text

pub text_read : (bytes : List ℕ) (end : ℕ) (two : Bool) (old one two_of : List Token) (lists : Declared) (x : Expr)
    (spec : Spec) → spec ≡ made_spec two lists x → ReadsVersion end old two one
    → ReadsDecls two bytes end one lists two_of
    → ReadsMain two bytes end two_of x → ReadsText bytes end old spec
text_read bytes end two old one two_of lists x spec e v d m =
    let f : Front two = front_with two v.spec_at v.version_at v.start_at d.phrase in
    record {
      phrase = OfVersion two (whole_spec f m.main_at m.equals_at m.phrase m.end_at);
      is_read = v.goes_on ∙ (d.goes_on v.spec_at v.version_at v.start_at ∙ m.goes_on f);
      value_is = e ∙ ap₂ (made_spec two) d.value_is m.value_is;
    }
