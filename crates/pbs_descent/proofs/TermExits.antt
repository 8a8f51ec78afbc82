-- Each exit of the descent over terms, over plain variables.
use Rattle.std.proofs.Common.{◌≡◌, ◌≢◌, ℕ, ◌+◌, ◌<◌, ◌≤◌, List, [], ◌∷◌, ◌++◌, length, map, Bool, None, Result, Ok, Err}
use Rattle.std.proofs.Common.{refl, sym, ap, ap₂, ◌∙◌, false, true, arith, length-append}
use Rattle.std.specs.Prelude.{nat_lt, option_map, IfErr}
use Rattle.std.proofs.lemmas.Bool.{false≢true}
use Rattle.std.proofs.lemmas.Bool.Decides.{nat_tests}
use Rattle.pbs_ast.specs.declared.syntax.SpecTerm.{SpecTerm}
use Rattle.pbs_text.specs.declared.fail.ReadSpec.TheVariants.{Refused}
use Rattle.pbs_ast.specs.Bare.{bare_term}
use Rattle.pbs_text.specs.Trees.{word_at, one_or, all_node, any_node, unit_tree, all_items, term_items, all_tree}
use Rattle.pbs_text.specs.places.Holes.{unit_nesting, TermHole, InRound, FirstAll, NextAll, UnitHole, UnderNot}
use Rattle.pbs_text.specs.places.Holes.{FirstUnit, NextUnit}
use Rattle.pbs_text.specs.places.Reading.{stepped, bind, ended, read}
use Rattle.pbs_descent.specs.Descent.{BeginsWith, NoFront, front_refusal, behind_term, ReadsUnit, StopsUnit, ReadsAll}
use Rattle.pbs_descent.specs.Descent.{ReadsTerm, AllSoFar, TermSoFar, negated_term, TakesNumeral}
use Rattle.pbs_text.specs.Grammar.{token, Second, bit_kind, Numeral, ZeroNumeral, OneNumeral, TwoNumeral, DigitNumeral}
use Rattle.pbs_text.specs.Grammar.{LongNumeral, numeral_kind, Negated, Bracketed, Named, Bit, Compared, AllPhrase}
use Rattle.pbs_text.specs.Grammar.{OneUnit, MoreUnits, TermPhrase, OneAll, MoreAlls}
use Rattle.pbs_text.specs.places.Places.{WantsUnit, AfterUnitName, WantsNumber}
use Rattle.pbs_text.specs.places.Steps.{second, numeral_of, with_unit, step}
use Rattle.std.proofs.lemmas.List.{map-append, length-map}
use Rattle.pbs_ast.proofs.BareRows.{bare_terms_of}
use Rattle.pbs_base.specs.declared.refusal.Span.{Span}
use Rattle.pbs_text.specs.declared.token.Token.{Token}
use Rattle.pbs_text.specs.declared.token.TokenKind.{TokenKind}
use Rattle.pbs_text.specs.declared.token.TokenKind.TheVariants.{Name, Equals, OpenRound, CloseRound, Bar, Tilde}
use Rattle.pbs_text.specs.declared.token.TokenKind.TheVariants.{Ampersand}
use Rattle.pbs_ast.specs.declared.syntax.SpecTerm as node

-- one more construct may be opened
pub shallow : (depth n : ℕ) → depth ≢ 64 → depth ≤ 64 → n ≡ depth → nat_lt 63 n ≡ false
shallow depth n not_full within d = grind (arith, nat_tests)

-- ---- unit

pub none_second : (two : Bool) → (two ≡ true → ⊥) → second two ≡ None
none_second true other = absurd (other refl)
none_second false other = refl

no_equals : {two : Bool} (end : ℕ) (n : Span) (h : UnitHole two) (ts : List Token)
    → (two ≡ true → BeginsWith Equals ts → ⊥)
    → read end (AfterUnitName n h) ts ≡ read end (with_unit h (Named n)) ts
no_equals end n h [] other = refl
no_equals {two} end n h (t ∷ ts) other = ap (λ s. bind (λ q. read end q ts) (stepped s t.span)) (by t.kind other)
  where
    by : (k : TokenKind) → (two ≡ true → k ≡ Equals → ⊥) → step (AfterUnitName n h) k t.span ≡ step
        (with_unit h (Named n)) k t.span
    by Equals no_equal = ap (option_map (λ s. WantsNumber s n t.span h)) (none_second two (λ e. no_equal e refl))
    by _ no_equal = refl

pub unit_named : (two : Bool) (bytes : List ℕ) (end depth : ℕ) (at : Span) (word : List ℕ) (rest : List Token)
    → (two ≡ true → BeginsWith Equals rest → ⊥) → word ≡ word_at bytes at
    → ReadsUnit two bytes end depth (token Name at ∷ rest) (node.Name word at) rest
unit_named two bytes end depth at word rest other same =
    record {
      phrase = Named at;
      value_is = ap (λ w. node.Name w at) same;
      goes_on = λ h d. no_equals end at h rest other;
      shorter = omega arith;
    }

pub unit_bit : (two : Bool) (bytes : List ℕ) (end depth : ℕ) (old new : List Token) (t : Token) (b : Bool)
    → old ≡ t ∷ new → t.kind ≡ bit_kind b
    → ReadsUnit two bytes end depth old (node.Const b) new
unit_bit two bytes end depth old new t b e k =
    let is : old ≡ token (bit_kind b) t.span ∷ new = e ∙ ap (λ x. token x t.span ∷ new) k in
    record { phrase = Bit b t.span; value_is = refl; goes_on = λ h d. rw is (by b h); shorter = rw is (omega arith) }
  where
    by : (c : Bool) (h : UnitHole two) → read end (WantsUnit h) (token (bit_kind c) t.span ∷ new) ≡ read end
        (with_unit h (Bit c t.span)) new
    by false h = refl
    by true h = refl

takes_number : {two : Bool} (end : ℕ) (s : Second two) (n e : Span) (m : Numeral) (at : Span) (h : UnitHole two)
    (z : List Token)
    → read end (WantsNumber s n e h) (token (numeral_kind m) at ∷ z) ≡ read end (with_unit h (Compared s n e m at)) z
takes_number end s n e ZeroNumeral at h z = refl
takes_number end s n e OneNumeral at h z = refl
takes_number end s n e TwoNumeral at h z = refl
takes_number end s n e (DigitNumeral m) at h z = refl
takes_number end s n e (LongNumeral m) at h z = refl

pub unit_compared : (two : Bool) (bytes : List ℕ) (end depth : ℕ) (name equals_at at : Span) (word : List ℕ)
    (number : ℕ) (tokens rest : List Token) → two ≡ true → word ≡ word_at bytes name
    → TakesNumeral tokens number at rest
    → ReadsUnit two bytes end depth (token Name name ∷ token Equals equals_at ∷ tokens)
    (node.Equal word name number at) rest
unit_compared false bytes end depth name equals_at at word number tokens rest second same taken = absurd
    (false≢true second)
unit_compared true bytes end depth name equals_at at word number tokens rest second same taken =
    record {
      phrase = Compared tt name equals_at taken.numeral at;
      value_is = ap₂ (λ w n. node.Equal w name n at) same taken.value_is;
      goes_on = λ h d. rw (taken.taken) (takes_number end tt name equals_at taken.numeral at h rest);
      shorter = let lengths = ap length taken.taken in omega arith;
    }

no_number : {two : Bool} (end : ℕ) (s : Second two) (n e : Span) (h : UnitHole two) (ts : List Token)
    → NoFront numeral_of ts → read end (WantsNumber s n e h) ts ≡ Err (front_refusal end ts)
no_number end s n e h [] none = refl
no_number end s n e h (t ∷ ts) none = ap (λ o. bind (λ q. read end q ts)
    (stepped (option_map (λ m. with_unit h (Compared s n e m t.span)) o) t.span)) none

pub unit_uncompared : (two : Bool) (end depth : ℕ) (name equals_at : Span) (tokens : List Token) → two ≡ true
    → NoFront numeral_of tokens
    → StopsUnit two end depth (token Name name ∷ token Equals equals_at ∷ tokens) (Refused (front_refusal end tokens))
unit_uncompared false end depth name equals_at tokens second none = absurd (false≢true second)
unit_uncompared true end depth name equals_at tokens second none = λ h d. no_number end tt name equals_at h tokens none

-- a name and a `=`, given what follows them
pub named_ok : (two : Bool) (bytes : List ℕ) (end depth : ℕ) (at equals_at : Span) (rest behind new : List Token)
    (x : SpecTerm) → rest ≡ token Equals equals_at ∷ behind
    → ReadsUnit two bytes end depth (token Name at ∷ token Equals equals_at ∷ behind) x new
    → ReadsUnit two bytes end depth (token Name at ∷ rest) x new
named_ok two bytes end depth at equals_at rest behind new x e r = rw e r

pub err_then : {T E : Type 0} (r : Result T E) {P Q : E → Type 0} → IfErr r P → ((x : E) → P x → Q x) → IfErr r Q
err_then (Ok x) h f = tt
err_then (Err e) h f = f e h

pub negated : (two : Bool) (bytes : List ℕ) (end depth : ℕ) (at : Span) (rest new : List Token) (x operand : SpecTerm)
    → x ≡ negated_term operand → depth ≢ 64 → depth ≤ 64
    → ReadsUnit two bytes end (depth + 1) rest operand new → ReadsUnit two bytes end depth (token Tilde at ∷ rest) x new
negated two bytes end depth at rest new x operand same not_full within r =
    record {
      phrase = Negated at r.phrase;
      value_is = same ∙ ap negated_term r.value_is;
      goes_on = λ h d. let low = shallow depth (unit_nesting h) not_full within d in rw low
          (r.goes_on (UnderNot at h) (omega arith));
      shorter = let less = r.shorter in omega arith;
    }

closes_round : {two : Bool} (end : ℕ) (t : TermPhrase two) (h : UnitHole two) (at close_at : Span) (new : List Token)
    → read end (behind_term t (InRound at h)) (token CloseRound close_at ∷ new) ≡ read end
    (with_unit h (Bracketed at t close_at)) new
closes_round end (OneAll a) h at close_at new = refl
closes_round end (MoreAlls t b a) h at close_at new = refl

pub bracketed : (two : Bool) (bytes : List ℕ) (end depth : ℕ) (at close_at : Span) (rest behind new : List Token)
    (x : SpecTerm) → depth ≢ 64 → depth ≤ 64
    → behind ≡ token CloseRound close_at ∷ new → ReadsTerm two bytes end (depth + 1) rest x behind
    → ReadsUnit two bytes end depth (token OpenRound at ∷ rest) x new
bracketed two bytes end depth at close_at rest behind new x not_full within e r =
    record {
      phrase = Bracketed at r.phrase close_at;
      value_is = r.value_is;
      goes_on = λ h d.
          let low = shallow depth (unit_nesting h) not_full within d in
          rw low (r.goes_on (InRound at h) (omega arith) ∙ rw e (closes_round end r.phrase h at close_at new));
      shorter = let less = r.shorter in let lengths = ap length e in omega arith;
    }

-- ---- lists

pub bare-all : (items : List SpecTerm) → bare_term (node.All items) ≡ node.All (map bare_term items)
bare-all items = ap node.All (bare_terms_of items)

pub bare-any : (items : List SpecTerm) → bare_term (node.Any items) ≡ node.Any (map bare_term items)
bare-any items = ap node.Any (bare_terms_of items)

pub one_or-many : {A B : Type 0} (f : A → B) (items : List A) (node : B) → (length items ≡ 1 → ⊥)
    → one_or (map f items) node ≡ node
one_or-many f [] node many = refl
one_or-many f (x ∷ []) node many = absurd (many refl)
one_or-many f (x ∷ y ∷ items) node many = refl

pub map-more : {A B : Type 0} (f : A → B) (xs ys : List A) (x : A) (zs : List B) → ys ≡ xs ++ x ∷ [] → map f xs ≡ zs
    → map f ys ≡ zs ++ f x ∷ []
map-more f xs ys x zs e m = ap (map f) e ∙ (map-append f xs (x ∷ []) ∙ ap (λ l. l ++ f x ∷ []) m)

pub two_now : {A B : Type 0} (f : A → B) (xs ys : List A) (x : A) (zs : List B) → ys ≡ xs ++ x ∷ [] → map f xs ≡ zs
    → 0 < length zs → length ys ≡ 1 → ⊥
two_now f xs ys x zs e m some one =
    let a : length ys ≡ length xs + 1 = ap length e ∙ length-append xs (x ∷ []) in
    let b : length xs ≡ length zs = sym (length-map xs f) ∙ ap length m in
    omega arith

all_items-some : {two : Bool} (bytes : List ℕ) (a : AllPhrase two) → 0 < length (all_items bytes a)
all_items-some bytes (OneUnit u) = omega arith
all_items-some bytes (MoreUnits a at u) = let e = length-append (all_items bytes a) (unit_tree bytes u ∷ []) in omega
    (arith, e)

term_items-some : {two : Bool} (bytes : List ℕ) (t : TermPhrase two) → 0 < length (term_items bytes t)
term_items-some bytes (OneAll a) = omega arith
term_items-some bytes (MoreAlls t at a) = let e = length-append (term_items bytes t) (all_tree bytes a ∷ []) in omega
    (arith, e)

pub begins : (k : TokenKind) (ts rest : List Token) (at : Span) → ts ≡ token k at ∷ rest → BeginsWith k ts
begins k ts rest at e = rw e refl

-- ---- all

-- as far as the loop has come; where there is one unit, another follows
pub record AllGrows (two : Bool) (bytes : List ℕ) (end depth : ℕ) (old : List Token) (items : List SpecTerm)
    (rest : List Token) : Type 0 where
  pub so_far : AllSoFar two bytes end depth old (map bare_term items) rest
  pub more : length items ≡ 1 → BeginsWith Ampersand rest

pub all_one : (two : Bool) (bytes : List ℕ) (end depth : ℕ) (old new : List Token) (x : SpecTerm)
    → ReadsUnit two bytes end depth old x new → ReadsAll two bytes end depth old x new
all_one two bytes end depth old new x r =
    record {
      phrase = OneUnit r.phrase;
      value_is = r.value_is;
      goes_on = λ h d. r.goes_on (FirstUnit h) d;
      shorter = r.shorter;
    }

pub all_first : (two : Bool) (bytes : List ℕ) (end depth : ℕ) (old new : List Token) (x : SpecTerm)
    (items : List SpecTerm) → items ≡ x ∷ [] → BeginsWith Ampersand new
    → ReadsUnit two bytes end depth old (bare_term x) new → AllGrows two bytes end depth old items new
all_first two bytes end depth old new x items e next r =
    record {
      so_far = record {
        phrase = OneUnit r.phrase;
        value_is = ap (map bare_term) e
            ∙ ap (λ t. t ∷ []) r.value_is;
        goes_on = λ h d. r.goes_on (FirstUnit h) d;
        shorter = r.shorter;
      };
      more = λ _. next;
    }

pub all_more : (two : Bool) (bytes : List ℕ) (end depth : ℕ) (old rest after more : List Token) (at : Span)
    (x : SpecTerm) (items items' : List SpecTerm)
    → rest ≡ token Ampersand at ∷ after → items' ≡ items ++ x ∷ [] → AllGrows two bytes end depth old items rest
    → ReadsUnit two bytes end depth after (bare_term x) more
    → AllGrows two bytes end depth old items' more
all_more two bytes end depth old rest after more at x items items' e f grown r =
    let s = grown.so_far in
    record {
      so_far = record {
        phrase = MoreUnits s.phrase at r.phrase;
        value_is = map-more bare_term items items' x (all_items bytes s.phrase) f s.value_is
            ∙ ap (λ t. all_items bytes s.phrase ++ t ∷ []) r.value_is;
        goes_on = λ h d. s.goes_on h d ∙ rw e (r.goes_on (NextUnit s.phrase at h) d);
        shorter = let a = s.shorter in let b = r.shorter in let lengths = ap length e in omega arith;
      };
      more = λ one. absurd (two_now bare_term items items' x (all_items bytes s.phrase) f s.value_is
          (all_items-some bytes s.phrase) one);
    }

pub all_whole : (two : Bool) (bytes : List ℕ) (end depth : ℕ) (old rest : List Token) (items : List SpecTerm)
    → AllGrows two bytes end depth old items rest → (BeginsWith Ampersand rest → ⊥)
    → ReadsAll two bytes end depth old (bare_term (node.All items)) rest
all_whole two bytes end depth old rest items grown ended =
    let s = grown.so_far in
    record {
      phrase = s.phrase;
      value_is = bare-all items
          ∙ (sym (one_or-many bare_term items (node.All (map bare_term items)) (λ one. ended (grown.more one)))
          ∙ ap all_node s.value_is);
      goes_on = s.goes_on;
      shorter = s.shorter;
    }

-- ---- term

pub record TermGrows (two : Bool) (bytes : List ℕ) (end depth : ℕ) (old : List Token) (items : List SpecTerm)
    (rest : List Token) : Type 0 where
  pub so_far : TermSoFar two bytes end depth old (map bare_term items) rest
  pub more : length items ≡ 1 → BeginsWith Bar rest
  pub no_more : BeginsWith Ampersand rest → ⊥

pub term_one : (two : Bool) (bytes : List ℕ) (end depth : ℕ) (old new : List Token) (x : SpecTerm)
    → ReadsAll two bytes end depth old x new → ReadsTerm two bytes end depth old x new
term_one two bytes end depth old new x r =
    record {
      phrase = OneAll r.phrase;
      value_is = r.value_is;
      goes_on = λ h d. r.goes_on (FirstAll h) d;
      shorter = r.shorter;
    }

pub term_first : (two : Bool) (bytes : List ℕ) (end depth : ℕ) (old new : List Token) (x : SpecTerm)
    (items : List SpecTerm) → items ≡ x ∷ [] → BeginsWith Bar new → (BeginsWith Ampersand new → ⊥)
    → ReadsAll two bytes end depth old (bare_term x) new → TermGrows two bytes end depth old items new
term_first two bytes end depth old new x items e next other r =
    record {
      so_far = record {
        phrase = OneAll r.phrase;
        value_is = ap (map bare_term) e
            ∙ ap (λ t. t ∷ []) r.value_is;
        goes_on = λ h d. r.goes_on (FirstAll h) d;
        shorter = r.shorter;
      };
      more = λ _. next;
      no_more = other;
    }

bar_next : {two : Bool} (end : ℕ) (t : TermPhrase two) (h : TermHole two) (at : Span) (after : List Token)
    → read end (behind_term t h) (token Bar at ∷ after) ≡ read end (WantsUnit (FirstUnit (NextAll t at h))) after
bar_next end (OneAll a) h at after = refl
bar_next end (MoreAlls t b a) h at after = refl

pub term_more : (two : Bool) (bytes : List ℕ) (end depth : ℕ) (old rest after more : List Token) (at : Span)
    (x : SpecTerm) (items items' : List SpecTerm)
    → rest ≡ token Bar at ∷ after → items' ≡ items ++ x ∷ [] → TermGrows two bytes end depth old items rest
    → ReadsAll two bytes end depth after (bare_term x) more → (BeginsWith Ampersand more → ⊥)
    → TermGrows two bytes end depth old items' more
term_more two bytes end depth old rest after more at x items items' e f grown r other =
    let s = grown.so_far in
    record {
      so_far = record {
        phrase = MoreAlls s.phrase at r.phrase;
        value_is = map-more bare_term items items' x (term_items bytes s.phrase) f s.value_is
            ∙ ap (λ t. term_items bytes s.phrase ++ t ∷ []) r.value_is;
        goes_on = λ h d. s.goes_on h d ∙ rw e (bar_next end s.phrase h at after ∙ r.goes_on (NextAll s.phrase at h) d);
        shorter = let a = s.shorter in let b = r.shorter in let lengths = ap length e in omega arith;
      };
      more = λ one. absurd (two_now bare_term items items' x (term_items bytes s.phrase) f s.value_is
          (term_items-some bytes s.phrase) one);
      no_more = other;
    }

pub term_whole : (two : Bool) (bytes : List ℕ) (end depth : ℕ) (old rest : List Token) (items : List SpecTerm)
    → TermGrows two bytes end depth old items rest → (BeginsWith Bar rest → ⊥)
    → ReadsTerm two bytes end depth old (bare_term (node.Any items)) rest
term_whole two bytes end depth old rest items grown ended =
    let s = grown.so_far in
    record {
      phrase = s.phrase;
      value_is = bare-any items
          ∙ (sym (one_or-many bare_term items (node.Any (map bare_term items)) (λ one. ended (grown.more one)))
          ∙ ap any_node s.value_is);
      goes_on = s.goes_on;
      shorter = s.shorter;
    }
