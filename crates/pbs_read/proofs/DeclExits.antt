-- Each exit of the functions that read declarations, over plain variables.
use Rattle.std.proofs.Common.{◌≡◌, ℕ, ◌<◌, List, [], ◌∷◌, ◌++◌, length, Bool, Option, Some, None, Err, refl, sym, ap}
use Rattle.std.proofs.Common.{ap₂, ◌∙◌, false, true, arith, append_assoc}
use Rattle.std.specs.Prelude.{option_map}
use Rattle.std.proofs.lemmas.Bool.{false≢true}
use Rattle.pbs_ast.specs.declared.syntax.Expr.{Expr}
use Rattle.pbs_text.specs.declared.fail.ReadSpec.{ReadSpec}
use Rattle.pbs_text.specs.declared.fail.ReadSpec.TheVariants.{Memory, Refused}
use Rattle.pbs_text.specs.Trees.{width_value, word_at, declared, input_of, inputs_of, names_of}
use Rattle.pbs_text.specs.places.Reading.{stepped, bind, read}
use Rattle.pbs_descent.specs.Descent.{BeginsWith, NoFront, front_refusal, behind_expr, ReadsExpr, StopsExpr}
use Rattle.pbs_read.specs.inner.DeclDescent.{TakesBit, ReadsWidth, StopsWidth, ReadsInput, ReadsSet, ReadsSets}
use Rattle.pbs_read.specs.inner.DeclDescent.{ReadsLevelHead, ReadsLevel, ReadsProd, ReadsRightSide, StopsRightSide}
use Rattle.pbs_read.specs.inner.DeclDescent.{StopsProd}
use Rattle.pbs_text.specs.Grammar.{token, Second, bit_kind, Width, OneBit, TwoBits, MoreBits, width_kind, ExprPhrase}
use Rattle.pbs_text.specs.Grammar.{OneSeq, MoreSeqs, OneItem, MoreItems, OneWire, Bus, InputsPhrase, OneInput}
use Rattle.pbs_text.specs.Grammar.{MoreInputs, NamesPhrase, OneName, MoreNames, SetsPhrase, MoreSets, ProdDecl}
use Rattle.pbs_text.specs.Grammar.{OfVersion}
use Rattle.pbs_text.specs.places.Holes.{Front, OfProd, OfMain}
use Rattle.pbs_text.specs.places.Places.{InputHole, FirstInput, NextInput, FirstName, LevelFront, Place, InDecls}
use Rattle.pbs_text.specs.places.Places.{WantsInput, AfterInputName, WantsWidth, AfterInput, WantsName, AfterName}
use Rattle.pbs_text.specs.places.Places.{AfterLevelEquals, AfterLevelBit, AfterSetColon, AfterSetBit, AfterProdName}
use Rattle.pbs_text.specs.places.Places.{AfterMain, Whole, before}
use Rattle.pbs_text.specs.places.Steps.{bit_of, width_of, with_next, level_front, whole_spec, step}
use Rattle.pbs_ast.specs.declared.syntax.Decl.{Decl}
use Rattle.pbs_ast.specs.declared.syntax.Set.{Set}
use Rattle.pbs_ast.specs.declared.syntax.Level.{Level}
use Rattle.pbs_ast.specs.declared.syntax.Prod.{Prod}
use Rattle.pbs_base.specs.declared.refusal.Span.{Span}
use Rattle.pbs_text.specs.declared.token.Token.{Token}
use Rattle.pbs_text.specs.declared.token.TokenKind.{TokenKind}
use Rattle.pbs_text.specs.declared.token.TokenKind.TheVariants.{Name, Zero, One, Two, Digit, Semicolon, Comma, Equals}
use Rattle.pbs_text.specs.declared.token.TokenKind.TheVariants.{OpenCurly, CloseCurly, Bar, Colon}
use Rattle.pbs_descent.proofs.TermExits.{none_second}
use Rattle.pbs_descent.proofs.ExprExits.{unclosed, second_here}

-- the loop over the inputs
abbrev behind_inputs : {two : Bool} → InputsPhrase two → Front two → Span → Place
behind_inputs (OneInput i) f at = AfterInput i (FirstInput f at)
behind_inputs (MoreInputs is c i) f at = AfterInput i (NextInput f at is c)

pub record InputsSoFar (two : Bool) (bytes : List ℕ) (end : ℕ) (old : List Token) (before now : List Decl)
    (rest : List Token) : Type 0 where
  pub phrase : InputsPhrase two
  pub value_is : now ≡ before ++ inputs_of bytes phrase
  pub goes_on : (f : Front two) (at : Span) → read end (WantsInput (FirstInput f at)) old ≡ read end
      (behind_inputs phrase f at) rest
  pub shorter : length rest < length old

pub inputs_first : (two : Bool) (bytes : List ℕ) (end : ℕ) (old new : List Token) (before now : List Decl) (x : Decl)
    → now ≡ before ++ x ∷ [] → ReadsInput two bytes end old x new → InputsSoFar two bytes end old before now new
inputs_first two bytes end old new before now x e r =
    record {
      phrase = OneInput r.phrase;
      value_is = e ∙ ap (λ i. before ++ i ∷ []) r.value_is;
      goes_on = λ f at. r.goes_on (FirstInput f at);
      shorter = r.shorter;
    }

comma_input : {two : Bool} (end : ℕ) (is : InputsPhrase two) (f : Front two) (at c : Span) (after : List Token)
    → read end (behind_inputs is f at) (token Comma c ∷ after) ≡ read end (WantsInput (NextInput f at is c)) after
comma_input end (OneInput i) f at c after = refl
comma_input end (MoreInputs is b i) f at c after = refl

pub inputs_more : (two : Bool) (bytes : List ℕ) (end : ℕ) (old rest after more : List Token)
    (before now next : List Decl) (c : Span) (x : Decl) → rest ≡ token Comma c ∷ after → next ≡ now ++ x ∷ []
    → InputsSoFar two bytes end old before now rest → ReadsInput two bytes end after x more
    → InputsSoFar two bytes end old before next more
inputs_more two bytes end old rest after more before now next c x e f s r =
    record {
      phrase = MoreInputs s.phrase c r.phrase;
      value_is = f ∙ (ap₂ (λ a i. a ++ i ∷ []) s.value_is r.value_is
          ∙ append_assoc before (inputs_of bytes s.phrase) (input_of bytes r.phrase ∷ []));
      goes_on = λ g at. s.goes_on g at ∙ rw e (comma_input end s.phrase g at c after
          ∙ r.goes_on (NextInput g at s.phrase c));
      shorter = let a = s.shorter in let b = r.shorter in let lengths = ap length e in omega arith;
    }

-- ---- names

pub record NamesSoFar (bytes : List ℕ) (end : ℕ) (old : List Token) (before now : List Decl)
    (rest : List Token) : Type 0 where
  pub phrase : NamesPhrase
  pub value_is : now ≡ before ++ names_of bytes phrase
  pub goes_on : (two : Bool) (f : Front two) (at : Span) → read end (WantsName (FirstName f at)) old ≡ read end
      (AfterName phrase f at) rest
  pub shorter : length rest < length old

pub names_first : (bytes : List ℕ) (end : ℕ) (old new : List Token) (before now : List Decl) (x : Decl) (n : Span)
    → old ≡ token Name n ∷ new → x ≡ declared bytes n 0 → now ≡ before ++ x ∷ []
    → NamesSoFar bytes end old before now new
names_first bytes end old new before now x n e v f =
    record {
      phrase = OneName n;
      value_is = f ∙ ap (λ d. before ++ d ∷ []) v;
      goes_on = λ two g at. rw e refl;
      shorter = rw e (omega arith);
    }

pub names_more : (bytes : List ℕ) (end : ℕ) (old rest after more : List Token) (before now next : List Decl)
    (c n : Span) (x : Decl) → rest ≡ token Comma c ∷ after → after ≡ token Name n ∷ more → x ≡ declared bytes n 0
    → next ≡ now ++ x ∷ []
    → NamesSoFar bytes end old before now rest → NamesSoFar bytes end old before next more
names_more bytes end old rest after more before now next c n x e g v f s =
    record {
      phrase = MoreNames s.phrase c n;
      value_is = f ∙ (ap₂ (λ a i. a ++ i ∷ []) s.value_is v ∙ append_assoc before (names_of bytes s.phrase)
          (declared bytes n 0 ∷ []));
      goes_on = λ two h at. s.goes_on two h at ∙ rw e (rw g refl);
      shorter = let a = s.shorter in let i = ap length e in let j = ap length g in omega arith;
    }

-- ---- an input

widens : (two : Bool) (end : ℕ) (n c : Span) (h : InputHole two) (z : List Token) (e : two ≡ true)
    → read end (AfterInputName n h) (token Colon c ∷ z) ≡ read end (WantsWidth (second_here two e) n c h) z
unfolding second_here
widens false end n c h z e = absurd (false≢true e)
widens true end n c h z e = refl

record IsWidth (k : TokenKind) (number : ℕ) : Type 0 where
  width : Width
  kind_is : width_kind width ≡ k
  value_is : width_value width ≡ number

is_width : (k : TokenKind) (number : ℕ) → Some number ≡ option_map width_value (width_of k) → IsWidth k number
is_width One number e = record { width = OneBit; kind_is = refl; value_is = cc }
is_width Two number e = record { width = TwoBits; kind_is = refl; value_is = cc }
is_width (Digit n) number e = record { width = MoreBits n; kind_is = refl; value_is = cc }
is_width _ number e = absurd (cc)

takes_width : {two : Bool} (end : ℕ) (s : Second two) (n c : Span) (w : Width) (at : Span) (h : InputHole two)
    (z : List Token)
    → read end (WantsWidth s n c h) (token (width_kind w) at ∷ z) ≡ read end (AfterInput (Bus s n c w at) h) z
takes_width end s n c OneBit at h z = refl
takes_width end s n c TwoBits at h z = refl
takes_width end s n c (MoreBits m) at h z = refl

pub width_read : (two : Bool) (end : ℕ) (old behind new : List Token) (c : Span) (t : Token) (number : ℕ) → two ≡ true
    → old ≡ token Colon c ∷ behind → behind ≡ t ∷ new → Some number ≡ option_map width_value (width_of t.kind)
    → ReadsWidth two end old number new
width_read two end old behind new c t number e f g is =
    let w = is_width t.kind number is in
    let both : behind ≡ token (width_kind w.width) t.span ∷ new = g ∙ ap (λ k. token k t.span ∷ new) (sym w.kind_is) in
    record {
      phrase = λ at. Bus (second_here two e) at c w.width t.span;
      value_is = λ bytes at. ap (declared bytes at) w.value_is;
      goes_on = λ at h. rw f (widens two end at c h behind e ∙ rw both
          (takes_width end (second_here two e) at c w.width t.span h new));
      shorter = let i = ap length f in let j = ap length g in omega arith;
    }

no_colon : {two : Bool} (end : ℕ) (n : Span) (h : InputHole two) (ts : List Token)
    → (two ≡ true → BeginsWith Colon ts → ⊥) → read end (AfterInputName n h) ts ≡ read end (AfterInput (OneWire n) h) ts
no_colon end n h [] other = refl
no_colon {two} end n h (t ∷ ts) other = ap (λ s. bind (λ q. read end q ts) (stepped s t.span)) (by t.kind other)
  where
    by : (k : TokenKind) → (two ≡ true → k ≡ Colon → ⊥) → step (AfterInputName n h) k t.span ≡ step
        (AfterInput (OneWire n) h) k t.span
    by Colon x = ap (option_map (λ s. WantsWidth s n t.span h)) (none_second two (λ e. x e refl))
    by _ x = refl

pub width_none : (two : Bool) (end : ℕ) (old : List Token) → (two ≡ true → BeginsWith Colon old → ⊥)
    → ReadsWidth two end old 0 old
width_none two end old other = record {
  phrase = λ at. OneWire at;
  value_is = λ bytes at. refl;
  goes_on = λ at h. no_colon end at h old other;
  shorter = omega arith;
}

no_width : {two : Bool} (end : ℕ) (s : Second two) (n c : Span) (h : InputHole two) (ts : List Token)
    → NoFront width_of ts → read end (WantsWidth s n c h) ts ≡ Err (front_refusal end ts)
no_width end s n c h [] none = refl
no_width end s n c h (t ∷ ts) none = ap (λ o. bind (λ q. read end q ts)
    (stepped (option_map (λ w. AfterInput (Bus s n c w t.span) h) o) t.span)) none

none_mapped : {A B : Type 0} (f : A → B) (o : Option A) → None ≡ option_map f o → o ≡ None
none_mapped f None e = refl
none_mapped f (Some x) e = absurd (cc)

pub no_width_front : (ts rest : List Token) (t : Token) → ts ≡ t ∷ rest
    → None ≡ option_map width_value (width_of t.kind) → NoFront width_of ts
no_width_front ts rest t e f = rw e (none_mapped width_value (width_of t.kind) f)

pub width_stops : (two : Bool) (end : ℕ) (old behind : List Token) (c : Span) → two ≡ true
    → old ≡ token Colon c ∷ behind → NoFront width_of behind → StopsWidth two end old
    (Refused (front_refusal end behind))
width_stops two end old behind c e f none = λ at h. rw f (widens two end at c h behind e
    ∙ no_width end (second_here two e) at c h behind none)

pub input_read : (two : Bool) (bytes : List ℕ) (end : ℕ) (old rest new : List Token) (n : Span) (word : List ℕ)
    (width : ℕ) → old ≡ token Name n ∷ rest → word ≡ word_at bytes n → ReadsWidth two end rest width new
    → ReadsInput two bytes end old (record { name = word; span = n; width = width }) new
input_read two bytes end old rest new n word width e w r =
    record {
      phrase = r.phrase n;
      value_is = ap (λ x. named x) w ∙ sym (r.value_is bytes n);
      goes_on = λ h. rw e (r.goes_on n h);
      shorter = let a = r.shorter in let i = ap length e in omega arith;
    }
  where
    named : List ℕ → Decl
    named x = record { name = x; span = n; width = width }

-- ---- levels

pub bit_found : (old rest : List Token) (t : Token) (b : Bool) → old ≡ t ∷ rest → Some b ≡ bit_of t.kind
    → TakesBit old b rest
bit_found old rest t b e f = record { at = t.span; taken = e ∙ ap (λ k. token k t.span ∷ rest) (sym (by t.kind b f)) }
  where
    by : (k : TokenKind) (b : Bool) → Some b ≡ bit_of k → bit_kind b ≡ k
    by Zero b e = let same : b ≡ false = cc in ap bit_kind same
    by One b e = let same : b ≡ true = cc in ap bit_kind same
    by _ b e = absurd (cc)

takes_set_bit : {two : Bool} (end : ℕ) (l : LevelFront two) (ss : SetsPhrase) (at c : Span) (b : Bool) (to : Span)
    (z : List Token)
    → read end (AfterSetColon l ss at c) (token (bit_kind b) to ∷ z) ≡ read end (AfterSetBit l ss at c b to) z
takes_set_bit end l ss at c false to z = refl
takes_set_bit end l ss at c true to z = refl

pub set_read : (end : ℕ) (old one two_of new : List Token) (c e : Span) (b : Bool) → old ≡ token Colon c ∷ one
    → TakesBit one b two_of → two_of ≡ token Semicolon e ∷ new → ReadsSet end old b new
set_read end old one two_of new c e b f t g =
    record {
      colon_at = c;
      bit_at = t.at;
      end_at = e;
      goes_on = λ two l ss at. rw f (rw (t.taken) (takes_set_bit end l ss at c b t.at two_of ∙ rw g refl));
      shorter = let i = ap length f in let j = ap length t.taken in let k = ap length g in omega arith;
    }

pub sets_more : (bytes : List ℕ) (end : ℕ) (old rest after more : List Token) (sets sets' : List Set) (n : Span)
    (word : List ℕ) (b : Bool) → rest ≡ token Name n ∷ after → word ≡ word_at bytes n
    → sets' ≡ sets ++ record { action = word; span = n; value = b } ∷ [] → ReadsSets bytes end old sets rest
    → ReadsSet end after b more → ReadsSets bytes end old sets' more
sets_more bytes end old rest after more sets sets' n word b e w f s r =
    record {
      phrase = MoreSets s.phrase n r.colon_at b r.bit_at r.end_at;
      value_is = f ∙ ap₂ (λ a v. a ++ one v ∷ []) s.value_is w;
      goes_on = λ two l. s.goes_on two l ∙ rw e (r.goes_on two l s.phrase n);
      shorter = let a = s.shorter in let c = r.shorter in let i = ap length e in omega arith;
    }
  where
    one : List ℕ → Set
    one v = record { action = v; span = n; value = b }

takes_level_bit : {two : Bool} (end : ℕ) (f : Front two) (at n q : Span) (b : Bool) (to : Span) (z : List Token)
    → read end (AfterLevelEquals f at n q) (token (bit_kind b) to ∷ z) ≡ read end (AfterLevelBit f at n q b to) z
takes_level_bit end f at n q false to z = refl
takes_level_bit end f at n q true to z = refl

pub level_head_read : (end : ℕ) (old one two_of three new : List Token) (n q o : Span) (b : Bool)
    → old ≡ token Name n ∷ one → one ≡ token Equals q ∷ two_of → TakesBit two_of b three
    → three ≡ token OpenCurly o ∷ new
    → ReadsLevelHead end old n b new
level_head_read end old one two_of three new n q o b e f t g =
    record {
      equals_at = q;
      bit_at = t.at;
      open_at = o;
      goes_on = λ two h at. rw e (rw f (rw (t.taken) (takes_level_bit end h at n q b t.at three ∙ rw g refl)));
      shorter = let i = ap length e in let j = ap length f in let k = ap length t.taken in let m =
          ap length g in omega arith;
    }

pub level_read : (bytes : List ℕ) (end : ℕ) (old one two_of new : List Token) (n close : Span) (word : List ℕ)
    (b : Bool) (sets : List Set) → ReadsLevelHead end old n b one → ReadsSets bytes end one sets two_of
    → two_of ≡ token CloseCurly close ∷ new → word ≡ word_at bytes n
    → ReadsLevel bytes end old (record { name = word; span = n; start = b; sets = sets }) new
level_read bytes end old one two_of new n close word b sets h s e w =
    record {
      name_at = n;
      equals_at = h.equals_at;
      value = b;
      bit_at = h.bit_at;
      open_at = h.open_at;
      sets = s.phrase;
      close_at = close;
      value_is = ap₂ made w s.value_is;
      goes_on = λ two f at. h.goes_on two f at ∙ (s.goes_on two (level_front f at n h.equals_at b h.bit_at h.open_at)
          ∙ rw e refl);
      shorter = let i = h.shorter in let j = s.shorter in let k = ap length e in omega arith;
    }
  where
    made : List ℕ → List Set → Level
    made v x = record { name = v; span = n; start = b; sets = x }

-- ---- productions

closes_prod : {two : Bool} (end : ℕ) (e : ExprPhrase two) (f : Front two) (a n q c : Span) (new : List Token)
    → read end (behind_expr e (OfProd f a n q)) (token Semicolon c ∷ new) ≡ read end
    (InDecls (with_next f (ProdDecl a n q e c))) new
closes_prod end (OneSeq (OneItem i)) f a n q c new = refl
closes_prod end (OneSeq (MoreItems s b i)) f a n q c new = refl
closes_prod end (MoreSeqs e x (OneItem i)) f a n q c new = refl
closes_prod end (MoreSeqs e x (MoreItems s b i)) f a n q c new = refl

closes_main : {two : Bool} (end : ℕ) (e : ExprPhrase two) (f : Front two) (m q c : Span) (new : List Token)
    → read end (behind_expr e (OfMain f m q)) (token Semicolon c ∷ new) ≡ read end
    (Whole (OfVersion two (whole_spec f m q e c))) new
closes_main end (OneSeq (OneItem i)) f m q c new = refl
closes_main end (OneSeq (MoreItems s b i)) f m q c new = refl
closes_main end (MoreSeqs e x (OneItem i)) f m q c new = refl
closes_main end (MoreSeqs e x (MoreItems s b i)) f m q c new = refl

stuck_name : {two : Bool} (end : ℕ) (f : Front two) (at n : Span) (ts : List Token) → (BeginsWith Equals ts → ⊥)
    → read end (AfterProdName f at n) ts ≡ Err (front_refusal end ts)
stuck_name end f at n [] other = refl
stuck_name end f at n (t ∷ ts) other = ap (λ s. bind (λ q. read end q ts) (stepped s t.span)) (by t.kind other)
  where
    by : (k : TokenKind) → (k ≡ Equals → ⊥) → step (AfterProdName f at n) k t.span ≡ None
    by Equals no_equals = absurd (no_equals refl)
    by _ no_equals = refl

stuck_main : {two : Bool} (end : ℕ) (f : Front two) (at : Span) (ts : List Token) → (BeginsWith Equals ts → ⊥)
    → read end (AfterMain f at) ts ≡ Err (front_refusal end ts)
stuck_main end f at [] other = refl
stuck_main end f at (t ∷ ts) other = ap (λ s. bind (λ q. read end q ts) (stepped s t.span)) (by t.kind other)
  where
    by : (k : TokenKind) → (k ≡ Equals → ⊥) → step (AfterMain f at) k t.span ≡ None
    by Equals no_equals = absurd (no_equals refl)
    by _ no_equals = refl

pub right_side_read : (two : Bool) (bytes : List ℕ) (end : ℕ) (old one two_of new : List Token) (q c : Span)
    (x : Expr) (extent : Span) → old ≡ token Equals q ∷ one → ReadsExpr two bytes end 0 one x extent two_of
    → two_of ≡ token Semicolon c ∷ new → ReadsRightSide two bytes end old x new
right_side_read two bytes end old one two_of new q c x extent f r g =
    record {
      equals_at = q;
      phrase = r.phrase;
      end_at = c;
      value_is = r.value_is;
      after_name = λ h at n. rw f (r.goes_on (OfProd h at n q) refl ∙ rw g (closes_prod end r.phrase h at n q c new));
      after_main = λ h m. rw f (r.goes_on (OfMain h m q) refl ∙ rw g (closes_main end r.phrase h m q c new));
      shorter = let i = ap length f in let j = r.shorter in let k = ap length g in omega arith;
    }

pub right_side_no_equals : (two : Bool) (end : ℕ) (old : List Token) (e : ReadSpec)
    → (e ≡ Refused (front_refusal end old)) × (BeginsWith Equals old → ⊥) → StopsRightSide two end old e
right_side_no_equals two end old e stop =
    rw (stop.0) ((λ h at n. stuck_name end h at n old stop.1), (λ h m. stuck_main end h m old stop.1))

pub right_side_stops : (two : Bool) (end : ℕ) (old one : List Token) (q : Span) (e : ReadSpec)
    → old ≡ token Equals q ∷ one → StopsExpr two end 0 one e → StopsRightSide two end old e
right_side_stops two end old one q Memory f stops = tt
right_side_stops two end old one q (Refused r) f stops =
    ((λ h at n. rw f (stops (OfProd h at n q) refl)), (λ h m. rw f (stops (OfMain h m q) refl)))

pub right_side_unended : (two : Bool) (bytes : List ℕ) (end : ℕ) (old one two_of : List Token) (q : Span) (x : Expr)
    (extent : Span) (e : ReadSpec) → old ≡ token Equals q ∷ one → ReadsExpr two bytes end 0 one x extent two_of
    → (BeginsWith Comma two_of → ⊥) → (BeginsWith Bar two_of → ⊥)
    → (e ≡ Refused (front_refusal end two_of)) × (BeginsWith Semicolon two_of → ⊥) → StopsRightSide two end old e
right_side_unended two bytes end old one two_of q x extent e f r a b stop =
    rw (stop.0) (
      (λ h at n. rw f (r.goes_on (OfProd h at n q) refl
          ∙ unclosed end r.phrase (OfProd h at n q) two_of a b (λ _ _. refl) (λ _ k. absurd (stop.1 k)))),
      (λ h m. rw f (r.goes_on (OfMain h m q) refl
          ∙ unclosed end r.phrase (OfMain h m q) two_of a b (λ _ _. refl) (λ _ k. absurd (stop.1 k)))),
    )

pub prod_read : (two : Bool) (bytes : List ℕ) (end : ℕ) (old one new : List Token) (n : Span) (word : List ℕ)
    (x : Expr) → old ≡ token Name n ∷ one → ReadsRightSide two bytes end one x new → word ≡ word_at bytes n
    → ReadsProd two bytes end old (record { name = word; span = n; body = x }) new
prod_read two bytes end old one new n word x e r w =
    record {
      name_at = n;
      equals_at = r.equals_at;
      body = r.phrase;
      end_at = r.end_at;
      value_is = ap₂ made w r.value_is;
      goes_on = λ h at. rw e (r.after_name h at n);
      shorter = let i = ap length e in let k = r.shorter in omega arith;
    }
  where
    made : List ℕ → Expr → Prod
    made v y = record { name = v; span = n; body = y }

pub prod_stops : (two : Bool) (end : ℕ) (old one : List Token) (n : Span) (e : ReadSpec)
    → old ≡ token Name n ∷ one → StopsRightSide two end one e → StopsProd two end old e
prod_stops two end old one n Memory f stops = tt
prod_stops two end old one n (Refused r) f stops = λ h at. rw f (stops.0 h at n)
