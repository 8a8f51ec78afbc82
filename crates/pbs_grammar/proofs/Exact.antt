-- Reading answers exactly what the grammar says.
use Rattle.std.proofs.Common.{◌≡◌, ℕ, ◌≤◌, List, [], ◌∷◌, ◌++◌, length, ◌⊎◌, inl, inr, Bool, cond, Option, Some, None}
use Rattle.std.proofs.Common.{Result, Ok, Err, refl, sym, ap, subst, ◌∙◌, append_assoc, append-nil, false, true, arith}
use Rattle.std.specs.Prelude.{option_and_then, ⊤, IsTrue}
use Rattle.std.proofs.lemmas.Bool.{false≢true}
use Rattle.std.proofs.lemmas.Bool.Decides.{nat_tests}
use Rattle.pbs_base.specs.declared.refusal.Refusal.{Refusal}
use Rattle.pbs_base.specs.declared.refusal.Span.{Span}
use Rattle.pbs_text.specs.declared.token.Token.{Token}
use Rattle.pbs_text.specs.declared.token.TokenKind.{TokenKind}
use Rattle.pbs_text.specs.declared.token.TokenKind.TheVariants.{OpenRound, Tilde}
use Rattle.pbs_text.specs.Grammar.{TextPhrase, IsText, Begins}
use Rattle.pbs_text.specs.places.Places.{Place, Start, WantsItem, WantsGroup, InGroup, WantsUnit, Whole}
use Rattle.pbs_text.specs.places.Steps.{step, walk}
use Rattle.pbs_text.specs.Nesting.{Opened, opened}
use Rattle.pbs_text.specs.Refusals.{refusal, CannotStand, opens, IsTooDeep, NoneStops, IsRefused, AtToken, AtDepth}
use Rattle.pbs_text.specs.Refusals.{AtEnd, IsRead, Says}
use Rattle.pbs_text.specs.places.Reading.{is_too_deep, stepped, bind, ended, read}
use Rattle.pbs_grammar.proofs.Walks.{at_some, any, walk-append}
use Rattle.pbs_grammar.proofs.Nesting.{is_over, deep-over}
use Rattle.pbs_grammar.proofs.Phrases.{walk-text, passed_begins, begins_passed, whole_is_text, one_phrase}

-- two splits of one list
data Splits (a : List Token) (t : Token) (b : List Token) (a' : List Token) (t' : Token)
    (b' : List Token) : Type 0 where
  Same : a ≡ a' → t ≡ t' → b ≡ b' → Splits a t b a' t' b'
  Later : (c : List Token) → a' ≡ a ++ t ∷ c → b ≡ c ++ t' ∷ b' → Splits a t b a' t' b'
  Sooner : (c : List Token) → a ≡ a' ++ t' ∷ c → Splits a t b a' t' b'

splits_more : (x : Token) (a b a' b' : List Token) (t t' : Token) → Splits a t b a' t' b'
    → Splits (x ∷ a) t b (x ∷ a') t' b'
splits_more x a b a' b' t t' (Same p q r) = Same (ap (λ l. x ∷ l) p) q r
splits_more x a b a' b' t t' (Later c p q) = Later c (ap (λ l. x ∷ l) p) q
splits_more x a b a' b' t t' (Sooner c p) = Sooner c (ap (λ l. x ∷ l) p)

splits : (a b a' b' : List Token) (t t' : Token) → a ++ t ∷ b ≡ a' ++ t' ∷ b' → Splits a t b a' t' b'
splits [] b [] b' t t' e = Same refl (cc) (cc)
splits [] b (x ∷ a') b' t t' e = let p : t ≡ x = cc in let q : b ≡ a' ++ t' ∷ b' = cc in Later a'
    (ap (λ y. y ∷ a') (sym p)) q
splits (x ∷ a) b [] b' t t' e = let p : x ≡ t' = cc in Sooner a (ap (λ y. y ∷ a) p)
splits (x ∷ a) b (y ∷ a') b' t t' e =
    let p : x ≡ y = cc in
    let q : a ++ t ∷ b ≡ a' ++ t' ∷ b' = cc in
    subst (λ z. Splits (x ∷ a) t b (z ∷ a') t' b') p (splits_more x a b a' b' t t' (splits a b a' b' t t' q))

nothing_there : (c b : List Token) (t : Token) → [] ≡ c ++ t ∷ b → ⊥
nothing_there [] b t e = cc
nothing_there (x ∷ c) b t e = cc

-- one more token that is of neither kind
more_stops : (taken : List Token) (t : Token) → NoneStops taken → ¬ CannotStand taken t → ¬ IsTooDeep taken t
    → NoneStops (taken ++ t ∷ [])
more_stops taken t none can shallow a b s e = by (splits taken [] a b t s e)
  where
    by : Splits taken t [] a s b → ¬ CannotStand a s × ¬ IsTooDeep a s
    by (Same p q r) = subst (λ x. ¬ CannotStand x s × ¬ IsTooDeep x s) p
        (subst (λ y. ¬ CannotStand taken y × ¬ IsTooDeep taken y) q (can, shallow))
    by (Later c p q) = absurd (nothing_there c b s q)
    by (Sooner c p) = none a c s p

-- ---- the token at which reading stops

-- where a token is too deep it may stand
deep_stands : (p : Place) (k : TokenKind) (at : Span) → is_too_deep p k ≡ true → (q : Place) × (step p k at ≡ Some q)
deep_stands (WantsUnit h) Tilde at e = (_, refl)
deep_stands (WantsUnit h) OpenRound at e = (_, refl)
deep_stands (WantsItem h) OpenRound at e = (_, refl)
deep_stands (WantsGroup g) OpenRound at e = (_, refl)
deep_stands (InGroup o g) OpenRound at e = (_, refl)
deep_stands _ _ at e = absurd (false≢true e)

-- what a token is that is over, and that such a token is
over_opens : (k : TokenKind) (s : List Opened) → is_over k s ≡ true → IsTrue (opens k) × (64 ≤ length s)
over_opens Tilde s e = (refl, grind (arith, nat_tests))
over_opens OpenRound s e = (refl, grind (arith, nat_tests))
over_opens _ s e = absurd (false≢true e)

opens_over : (k : TokenKind) (s : List Opened) → IsTrue (opens k) → 64 ≤ length s → is_over k s ≡ true
opens_over Tilde s o deep = grind (arith, nat_tests)
opens_over OpenRound s o deep = grind (arith, nat_tests)
opens_over _ s o deep = absurd (false≢true o)

-- one more step of a walk
walk-then : (taken : List Token) (t : Token) (p q r : Place) → walk r taken ≡ Some p → step p t.kind t.span ≡ Some q
    → walk r (taken ++ t ∷ []) ≡ Some q
walk-then [] t p q r e s = let same : r ≡ p = cc in rw same (ap (option_and_then (λ x. Some x)) s)
walk-then (x ∷ taken) t p q r e s =
    let y = at_some (step r x.kind x.span) (λ z. walk z taken) (λ _. ⊤) p (any _) e in
    ap (option_and_then (λ z. walk z (taken ++ t ∷ []))) y.1 ∙ walk-then taken t p q y.0 y.2 s

-- the step over a token that goes on with a text
step_there : (taken : List Token) (t : Token) (p : Place) → walk Start taken ≡ Some p → Begins (taken ++ t ∷ [])
    → (q : Place) × (step p t.kind t.span ≡ Some q)
step_there taken t p e b =
    let x = begins_passed (taken ++ t ∷ []) b in
    let y = walk-append taken (t ∷ []) Start x.0 x.1 in
    let same : y.0 ≡ p = let both : Some y.0 ≡ Some p = sym y.1 ∙ e in cc in (
      x.0,
      by (step p t.kind t.span)
          (subst (λ z. option_and_then (λ q. Some q) (step z t.kind t.span) ≡ Some x.0) same y.2),
    )
  where
    by : {z : Place} (o : Option Place) → option_and_then (λ q. Some q) o ≡ Some z → o ≡ Some z
    by None h = absurd cc
    by (Some q) h = h

stuck : (taken : List Token) (t : Token) (p : Place) → walk Start taken ≡ Some p → step p t.kind t.span ≡ None
    → CannotStand taken t
stuck taken t p e s b = let x = step_there taken t p e b in let no : None ≡ Some x.0 = sym s ∙ x.1 in cc

too_deep : (taken : List Token) (t : Token) (p : Place) → walk Start taken ≡ Some p → is_too_deep p t.kind ≡ true
    → IsTooDeep taken t
too_deep taken t p e d =
    let x = deep_stands p t.kind t.span d in
    let over = over_opens t.kind (opened taken) (sym (deep-over taken t.kind t.span p x.0 e x.1) ∙ d) in
    record {
      begins = passed_begins (taken ++ t ∷ []) x.0 (walk-then taken t p x.0 Start e x.1);
      opens_one = over.0;
      deep = over.1;
    }

not_deep : (taken : List Token) (t : Token) (p : Place) → walk Start taken ≡ Some p → is_too_deep p t.kind ≡ false
    → ¬ IsTooDeep taken t
not_deep taken t p e d deep =
    let x = step_there taken t p e deep.begins in
    false≢true (sym d ∙ (deep-over taken t.kind t.span p x.0 e x.1
    ∙ opens_over t.kind (opened taken) deep.opens_one deep.deep))

no_text : (taken : List Token) (p : Place) → walk Start taken ≡ Some p → ((w : TextPhrase) → p ≡ Whole w → ⊥)
    → ¬ IsText taken
no_text taken p e not_whole text =
    let both : Some p ≡ Some (Whole text.0) = sym e ∙ (ap (walk Start) (sym text.1) ∙ walk-text text.0) in
    not_whole text.0 (cc)

ends : (end : ℕ) (taken : List Token) (p : Place) → walk Start taken ≡ Some p → NoneStops taken
    → Says end taken (ended p end)
ends end taken (Whole w) e none = record { text = whole_is_text taken w e; shallow = none }
ends end taken p e none = AtEnd none (passed_begins taken p e) (no_text taken p e (λ w same. cc))

-- reading on from a place says what the grammar says of all the tokens
reads : (end : ℕ) (ts taken : List Token) (p : Place) → walk Start taken ≡ Some p → NoneStops taken
    → Says end (taken ++ ts) (read end p ts)
reads end [] taken p e none = subst (λ l. Says end l (ended p end)) (sym (append-nil taken)) (ends end taken p e none)
reads end (t ∷ ts) taken p e none =
    by (λ q d s. walked q d s (reads end ts (taken ++ t ∷ []) q (walk-then taken t p q Start e s) (not_stopped q d s)))
    (is_too_deep p t.kind) (step p t.kind t.span) refl refl
  where
    not_stopped : (q : Place) → is_too_deep p t.kind ≡ false → step p t.kind t.span ≡ Some q
        → NoneStops (taken ++ t ∷ [])
    not_stopped q d s =
        more_stops taken t none (λ no. no (passed_begins (taken ++ t ∷ []) q (walk-then taken t p q Start e s)))
        (not_deep taken t p e d)

    walked : (q : Place) → is_too_deep p t.kind ≡ false → step p t.kind t.span ≡ Some q
        → Says end ((taken ++ t ∷ []) ++ ts) (read end q ts) → Says end (taken ++ t ∷ ts) (read end q ts)
    walked q d s says = subst (λ l. Says end l (read end q ts)) (append_assoc taken (t ∷ []) ts) says

    by : ((q : Place) → is_too_deep p t.kind ≡ false → step p t.kind t.span ≡ Some q
        → Says end (taken ++ t ∷ ts) (read end q ts))
        → (b : Bool) (o : Option Place) → is_too_deep p t.kind ≡ b → step p t.kind t.span ≡ o
        → Says end (taken ++ t ∷ ts) (bind (λ q. read end q ts) (cond b (Err (refusal 4 t.span)) (stepped o t.span)))
    by on true o d s = AtDepth taken ts t refl none (too_deep taken t p e d)
    by on false None d s = AtToken taken ts t refl none (stuck taken t p e s)
    by on false (Some q) d s = on q d s

none_at_start : NoneStops []
none_at_start a b t e = absurd (nothing_there a b t e)

-- what reading answers is so
pub reading_says : (end : ℕ) (ts : List Token) → Says end ts (read end Start ts)
reading_says end ts = reads end ts [] Start refl none_at_start

-- ---- and nothing else is so

refused_is_not_read : (end : ℕ) (ts : List Token) (r : Refusal) (w : TextPhrase) → IsRefused end ts r → IsRead ts w → ⊥
refused_is_not_read end ts r w (AtToken taken rest t e none can) is_read = (is_read.shallow taken rest t e).0 can
refused_is_not_read end ts r w (AtDepth taken rest t e none deep) is_read = (is_read.shallow taken rest t e).1 deep
refused_is_not_read end ts r w (AtEnd none b neither) is_read = neither (w, is_read.text)

same_token : (taken rest taken' rest' : List Token) (t t' : Token) → Splits taken t rest taken' t' rest'
    → NoneStops taken → NoneStops taken'
    → (CannotStand taken t ⊎ IsTooDeep taken t) → (CannotStand taken' t' ⊎ IsTooDeep taken' t')
    → (taken ≡ taken') × (t ≡ t')
same_token taken rest taken' rest' t t' (Same p q r) none none' x y = (p, q)
same_token taken rest taken' rest' t t' (Later c p q) none none' x y = absurd (stops (none' taken c t p) x)
  where
    stops : ¬ CannotStand taken t × ¬ IsTooDeep taken t → (CannotStand taken t ⊎ IsTooDeep taken t) → ⊥
    stops neither (inl can) = neither.0 can
    stops neither (inr deep) = neither.1 deep
same_token taken rest taken' rest' t t' (Sooner c p) none none' x y = absurd (stops (none taken' c t' p) y)
  where
    stops : ¬ CannotStand taken' t' × ¬ IsTooDeep taken' t' → (CannotStand taken' t' ⊎ IsTooDeep taken' t') → ⊥
    stops neither (inl can) = neither.0 can
    stops neither (inr deep) = neither.1 deep

both_kinds : (taken taken' : List Token) (t t' : Token) → (taken ≡ taken') × (t ≡ t') → CannotStand taken t
    → IsTooDeep taken' t' → ⊥
both_kinds taken taken' t t' same can deep = can (subst (λ x. Begins (x ++ t ∷ [])) (sym same.0)
    (subst (λ y. Begins (taken' ++ y ∷ [])) (sym same.1) deep.begins))

one_refusal : (end : ℕ) (ts : List Token) (r s : Refusal) → IsRefused end ts r → IsRefused end ts s → r ≡ s
one_refusal end ts r s (AtToken taken rest t e none can) (AtToken taken' rest' t' e' none' can') =
    ap (λ x. refusal 3 x.span) (same_token _ _ _ _ _ _ (splits taken rest taken' rest' t t' (sym e ∙ e')) none none'
    (inl can) (inl can')).1
one_refusal end ts r s (AtToken taken rest t e none can) (AtDepth taken' rest' t' e' none' deep') =
    absurd (both_kinds _ _ _ _ (same_token _ _ _ _ _ _ (splits taken rest taken' rest' t t' (sym e ∙ e')) none none'
    (inl can) (inr deep')) can deep')
one_refusal end ts r s (AtToken taken rest t e none can) (AtEnd none' b neither) = absurd ((none' taken rest t e).0 can)
one_refusal end ts r s (AtDepth taken rest t e none deep) (AtToken taken' rest' t' e' none' can') =
    absurd (both_kinds _ _ _ _ (same_token _ _ _ _ _ _ (splits taken' rest' taken rest t' t (sym e' ∙ e)) none' none
    (inl can') (inr deep)) can' deep)
one_refusal end ts r s (AtDepth taken rest t e none deep) (AtDepth taken' rest' t' e' none' deep') =
    ap (λ x. refusal 4 x.span) (same_token _ _ _ _ _ _ (splits taken rest taken' rest' t t' (sym e ∙ e')) none none'
    (inr deep) (inr deep')).1
one_refusal end ts r s (AtDepth taken rest t e none deep) (AtEnd none' b neither) = absurd
    ((none' taken rest t e).1 deep)
one_refusal end ts r s (AtEnd none b neither) (AtToken taken rest t e none' can) = absurd ((none taken rest t e).0 can)
one_refusal end ts r s (AtEnd none b neither) (AtDepth taken rest t e none' deep) = absurd
    ((none taken rest t e).1 deep)
one_refusal end ts r s (AtEnd none b neither) (AtEnd none' b' no') = refl

one_answer : (end : ℕ) (ts : List Token) (x y : Result TextPhrase Refusal) → Says end ts x → Says end ts y → x ≡ y
one_answer end ts (Ok v) (Ok w) p q = ap Ok (one_phrase v w (p.text ∙ sym q.text))
one_answer end ts (Ok v) (Err r) p q = absurd (refused_is_not_read end ts r v q p)
one_answer end ts (Err r) (Ok w) p q = absurd (refused_is_not_read end ts r w p q)
one_answer end ts (Err r) (Err s) p q = ap Err (one_refusal end ts r s p q)

-- what is so, reading answers
pub reading_is : (end : ℕ) (ts : List Token) (answer : Result TextPhrase Refusal) → Says end ts answer
    → read end Start ts ≡ answer
reading_is end ts answer says = one_answer end ts _ answer (reading_says end ts) says
