-- A walk over the tokens finds exactly what the grammar says of them.
use Rattle.std.proofs.Common.{◌≡◌, ℕ, ◌≤◌, ◌<◌, List, [], ◌∷◌, ◌++◌, length, Some, None, Ok, Err, refl}
use Rattle.std.proofs.Common.{sym}
use Rattle.std.proofs.Common.{ap, subst, ◌∙◌, append_assoc, append-nil, arith}
use Rattle.std.specs.Prelude.{option_and_then, ⊤}
use Rattle.pbs_base.specs.declared.refusal.Refusal.{Refusal}
use Rattle.pbs_base.specs.declared.refusal.Span.{Span}
use Rattle.vlog_text.specs.declared.token.Token.{Token}
use Rattle.vlog_text.specs.Grammar.{TextPhrase, IsText, Begins}
use Rattle.vlog_text.specs.Reading.{IsRead, LeavesGrammar, AtToken, AtEnd}
use Rattle.vlog_text.specs.Refusing.{refusal}
use Rattle.vlog_parse.specs.Parsed.{IsUnreadable, ByLength, ByToken, ByGrammar}
use Rattle.vlog_parse.specs.inner.Places.{Place, Start, Whole}
use Rattle.vlog_parse.specs.inner.Steps.{step, walk}
use Rattle.vlog_parse.proofs.Walks.{at_some, any, walk-before, walk-append}
use Rattle.vlog_parse.proofs.Finishes.{finish}
use Rattle.vlog_parse.proofs.Depths.{shallow_walk}
use Rattle.vlog_parse.proofs.Phrases.{walk-text}

walk-join : (a b : List Token) (p q r : Place) → walk p a ≡ Some q → walk q b ≡ Some r → walk p (a ++ b) ≡ Some r
walk-join [] b p q r e f = let same : p ≡ q = cc in rw same f
walk-join (t ∷ ts) b p q r e f =
    let x = at_some (step p t.kind t.span) (λ z. walk z ts) (λ _. ⊤) q (any _) e in
    ap (option_and_then (λ z. walk z (ts ++ b))) x.1 ∙ walk-join ts b x.0 q r x.2 f

-- what is walked over to the end is a text
pub walked_text : (ts : List Token) (w : TextPhrase) → walk Start ts ≡ Some (Whole w) → IsText ts w
walked_text ts w e =
    record { tokens = walk-before ts Start (Whole w) e; shallow = shallow_walk ts Start (Whole w) tt e }

pub text_walked : (ts : List Token) (w : TextPhrase) → IsText ts w → walk Start ts ≡ Some (Whole w)
text_walked ts w text = ap (walk Start) (sym text.tokens) ∙ walk-text w text.shallow

-- a text that is walked over begins one
pub walked_begins : (taken : List Token) (p : Place) → walk Start taken ≡ Some p → Begins taken
walked_begins taken p e =
    let f = finish p in
    record {
      rest = f.0;
      phrase = f.1;
      is = walked_text (taken ++ f.0) f.1 (walk-join taken f.0 Start p (Whole f.1) e f.2);
    }

-- a text that begins one is walked over
begins_walked : (taken : List Token) → Begins taken → (p : Place) × (walk Start taken ≡ Some p)
begins_walked taken b =
    let x = walk-append taken b.rest Start (Whole b.phrase) (text_walked (taken ++ b.rest) b.phrase b.is) in
    (x.0, x.1)

-- a part of a text that begins one begins one
begins_less : (taken more : List Token) → Begins (taken ++ more) → Begins taken
begins_less taken more b = record {
  rest = more ++ b.rest;
  phrase = b.phrase;
  is = subst (λ l. IsText l b.phrase) (append_assoc taken more b.rest) b.is;
}

-- a token over which no step goes can't stand
pub stuck : (taken : List Token) (t : Token) (p : Place) → walk Start taken ≡ Some p → step p t.kind t.span ≡ None
    → ¬ Begins (taken ++ t ∷ [])
stuck taken t p e s b =
    let x = begins_walked (taken ++ t ∷ []) b in
    let y = walk-append taken (t ∷ []) Start x.0 x.1 in
    let same : Some y.0 ≡ Some p = sym y.1 ∙ e in
    let there : y.0 ≡ p = cc in
    let no : option_and_then (λ z. Some z) (step p t.kind t.span) ≡ Some x.0
    = subst (λ z. option_and_then (λ q. Some q) (step z t.kind t.span) ≡ Some x.0) there y.2 in
    let none : option_and_then (λ z. Some z) (step p t.kind t.span) ≡ None = ap (option_and_then (λ z. Some z)) s in
    cc

pub leaves_at : (end : ℕ) (taken rest : List Token) (t : Token) (p : Place) → walk Start taken ≡ Some p
    → step p t.kind t.span ≡ None → LeavesGrammar end (taken ++ t ∷ rest) t.span
leaves_at end taken rest t p e s = AtToken taken rest t refl (walked_begins taken p e) (stuck taken t p e s)

pub leaves_end : (end : ℕ) (ts : List Token) (p : Place) → walk Start ts ≡ Some p
    → ((w : TextPhrase) → p ≡ Whole w → ⊥) → LeavesGrammar end ts (record { start = end; end = end })
leaves_end end ts p e not_whole = AtEnd (walked_begins ts p e) (λ w text.
    let both : Some p ≡ Some (Whole w) = sym e ∙ text_walked ts w text in
    not_whole w cc)

-- ---- one reading of a text

one_phrase : (ts : List Token) (v w : TextPhrase) → IsText ts v → IsText ts w → v ≡ w
one_phrase ts v w p q = let both : Some (Whole v) ≡ Some (Whole w) = sym (text_walked ts v p) ∙ text_walked ts w q in cc

pub one_read : (bytes : List ℕ) (v w : TextPhrase) → IsRead bytes v → IsRead bytes w → v ≡ w
one_read bytes v w p q =
    let both : Ok q.found ≡ Ok p.found = sym q.found_is ∙ p.found_is in
    let same : q.found ≡ p.found = cc in
    one_phrase p.found v w p.text (subst (λ l. IsText l w) same q.text)

-- two splits of one list
data Splits (a : List Token) (t : Token) (b : List Token) (a' : List Token) (t' : Token)
    (b' : List Token) : Type 0 where
  Same : t ≡ t' → Splits a t b a' t' b'
  Later : (c : List Token) → a' ≡ a ++ t ∷ c → Splits a t b a' t' b'
  Sooner : (c : List Token) → a ≡ a' ++ t' ∷ c → Splits a t b a' t' b'

splits_more : (x : Token) (a b a' b' : List Token) (t t' : Token) → Splits a t b a' t' b'
    → Splits (x ∷ a) t b (x ∷ a') t' b'
splits_more x a b a' b' t t' (Same q) = Same q
splits_more x a b a' b' t t' (Later c p) = Later c (ap (λ l. x ∷ l) p)
splits_more x a b a' b' t t' (Sooner c p) = Sooner c (ap (λ l. x ∷ l) p)

splits : (a b a' b' : List Token) (t t' : Token) → a ++ t ∷ b ≡ a' ++ t' ∷ b' → Splits a t b a' t' b'
splits [] b [] b' t t' e = Same (cc)
splits [] b (x ∷ a') b' t t' e = let p : t ≡ x = cc in Later a' (ap (λ y. y ∷ a') (sym p))
splits (x ∷ a) b [] b' t t' e = let p : x ≡ t' = cc in Sooner a (ap (λ y. y ∷ a) p)
splits (x ∷ a) b (y ∷ a') b' t t' e =
    let p : x ≡ y = cc in
    let q : a ++ t ∷ b ≡ a' ++ t' ∷ b' = cc in
    subst (λ z. Splits (x ∷ a) t b (z ∷ a') t' b') p (splits_more x a b a' b' t t' (splits a b a' b' t t' q))

-- a text that begins one has no token that can't stand
none_stands : (all taken rest : List Token) (t : Token) → all ≡ taken ++ t ∷ rest → Begins all
    → ¬ Begins (taken ++ t ∷ []) → ⊥
none_stands all taken rest t e b stops =
    stops (begins_less (taken ++ t ∷ []) rest (subst Begins (e ∙ sym (append_assoc taken (t ∷ []) rest)) b))

one_token : (taken rest taken' rest' : List Token) (t t' : Token) → Splits taken t rest taken' t' rest'
    → Begins taken → ¬ Begins (taken ++ t ∷ []) → Begins taken' → ¬ Begins (taken' ++ t' ∷ []) → t ≡ t'
one_token taken rest taken' rest' t t' (Same q) b stops b' stops' = q
one_token taken rest taken' rest' t t' (Later c p) b stops b' stops' = absurd (none_stands taken' taken c t p b' stops)
one_token taken rest taken' rest' t t' (Sooner c p) b stops b' stops' =
    absurd (none_stands taken taken' c t' p b stops')

one_place : (end : ℕ) (ts : List Token) (x y : Span) → LeavesGrammar end ts x → LeavesGrammar end ts y → x ≡ y
one_place end ts x y (AtToken taken rest t e b stops) (AtToken taken' rest' t' e' b' stops') =
    ap (λ u. u.span) (one_token taken rest taken' rest' t t' (splits taken rest taken' rest' t t' (sym e ∙ e'))
    b stops b' stops')
one_place end ts x y (AtToken taken rest t e b stops) (AtEnd b' none) = absurd (none_stands ts taken rest t e b' stops)
one_place end ts x y (AtEnd b' none) (AtToken taken rest t e b stops) = absurd (none_stands ts taken rest t e b' stops)
one_place end ts x y (AtEnd b none) (AtEnd b' none') = refl

text_begins : (ts : List Token) (w : TextPhrase) → IsText ts w → Begins ts
text_begins ts w text = record {
  rest = [];
  phrase = w;
  is = subst (λ l. IsText l w) (sym (append-nil ts)) text;
}

read_stays : (end : ℕ) (ts : List Token) (w : TextPhrase) (x : Span) → IsText ts w → LeavesGrammar end ts x → ⊥
read_stays end ts w x text (AtToken taken rest t e b stops) =
    none_stands ts taken rest t e (text_begins ts w text) stops
read_stays end ts w x text (AtEnd b none) = none w text

too_long : (n : ℕ) → n ≤ 67108864 → 67108864 < n → ⊥
too_long n short long = omega arith

pub never_both : (bytes : List ℕ) (w : TextPhrase) (r : Refusal) → IsRead bytes w → IsUnreadable bytes r → ⊥
never_both bytes w r s (ByLength long) = too_long (length bytes) s.short long
never_both bytes w r s (ByToken short at e) = let both : Ok s.found ≡ Err at = sym s.found_is ∙ e in cc
never_both bytes w r s (ByGrammar short ts e at leaves) =
    let both : Ok ts ≡ Ok s.found = sym e ∙ s.found_is in
    let same : ts ≡ s.found = cc in
    read_stays (length bytes) s.found w at s.text (subst (λ l. LeavesGrammar (length bytes) l at) same leaves)

pub one_refusal : (bytes : List ℕ) (q r : Refusal) → IsUnreadable bytes q → IsUnreadable bytes r → q ≡ r
one_refusal bytes q r (ByLength long) (ByLength long') = refl
one_refusal bytes q r (ByLength long) (ByToken short at e) = absurd (too_long (length bytes) short long)
one_refusal bytes q r (ByLength long) (ByGrammar short ts e x l) = absurd (too_long (length bytes) short long)
one_refusal bytes q r (ByToken short at e) (ByLength long) = absurd (too_long (length bytes) short long)
one_refusal bytes q r (ByToken short at e) (ByToken short' at' e') =
    let both : Err at ≡ Err at' = sym e ∙ e' in let same : at ≡ at' = cc in ap (refusal 2) same
one_refusal bytes q r (ByToken short at e) (ByGrammar short' ts e' x l) =
    let both : Err at ≡ Ok ts = sym e ∙ e' in absurd (cc)
one_refusal bytes q r (ByGrammar short ts e x l) (ByLength long) = absurd (too_long (length bytes) short long)
one_refusal bytes q r (ByGrammar short ts e x l) (ByToken short' at e') =
    let both : Ok ts ≡ Err at = sym e ∙ e' in absurd (cc)
one_refusal bytes q r (ByGrammar short ts e x l) (ByGrammar short' ts' e' x' l') =
    let both : Ok ts' ≡ Ok ts = sym e' ∙ e in
    let same : ts' ≡ ts = cc in
    ap (refusal 3) (one_place (length bytes) ts x x' l (subst (λ z. LeavesGrammar (length bytes) z x') same l'))
