-- The earliest of some places.
use Rattle.std.proofs.Common.{◌≡◌, ℕ, ◌<◌, Bool, true, false, cond, List}
use Rattle.std.proofs.Common.{[], ◌∷◌, ◌++◌, Option, Some, None, refl, sym, ap, ◌∙◌, arith}
use Rattle.std.proofs.lemmas.Bool.Decides.{nat_tests}
use Rattle.std.proofs.lemmas.Option.{same_Some}
use Rattle.vlog_text.specs.declared.raw.RawNetlist.{RawNetlist}
use Rattle.pbs_base.specs.declared.refusal.Refusal.{Refusal}
use Rattle.vlog_text.specs.Refusing.{is_before, earlier_of, earliest, refusal, refusals, first_broken, broken, rule_4}
use Rattle.vlog_text.specs.Refusing.{rule_5, rule_6, rule_7, rule_8}
use Rattle.vlog_text.specs.declared.raw.RawName.{RawName}
use Rattle.vlog_elaborate.specs.inner.Ordered.{or_next}
use Rattle.vlog_names.proofs.Noting.{earliest_both}

still_some : (a : Refusal) (places : List Refusal) → earliest (Some a) places ≡ None → ⊥
still_some a [] h = cc
still_some a (x ∷ xs) h = still_some (earlier_of (Some a) x) xs h

none_is : (places : List Refusal) → earliest None places ≡ None → places ≡ []
none_is [] h = refl
none_is (x ∷ xs) h = absurd (still_some x xs h)

pub unrefused_is : (raw : RawNetlist) → first_broken raw ≡ None → broken raw ≡ []
unrefused_is raw h = none_is (broken raw) h

-- ---- rule by rule

later_rule : (r : Refusal) (rule : ℕ) (x : RawName) → r.rule < rule → is_before (refusal rule x.span) r ≡ false
later_rule r rule x h = grind (arith, nat_tests)

stays : (r : Refusal) (rule : ℕ) (names : List RawName) → r.rule < rule
    → earliest (Some r) (refusals rule names) ≡ Some r
stays r rule [] h = refl
stays r rule (x ∷ xs) h =
    ap (λ b. earliest (Some (cond b (refusal rule x.span) r)) (refusals rule xs)) (later_rule r rule x h)
    ∙ stays r rule xs h

rule_kept : (rule : ℕ) (names : List RawName) (f r : Refusal) → f.rule ≡ rule
    → earliest (Some f) (refusals rule names) ≡ Some r → r.rule ≡ rule
rule_kept rule [] f r h e = ap (λ (g : Refusal). g.rule) (sym (same_Some f r e)) ∙ h
rule_kept rule (x ∷ xs) f r h e =
    rule_kept rule xs (cond (is_before (refusal rule x.span) f) (refusal rule x.span) f) r
    (either (is_before (refusal rule x.span) f)) e
  where
    either : (b : Bool) → (cond b (refusal rule x.span) f).rule ≡ rule
    either true = refl
    either false = h

rule_is : (rule : ℕ) (names : List RawName) (r : Refusal) → earliest None (refusals rule names) ≡ Some r → r.rule ≡ rule
rule_is rule [] r e = cc
rule_is rule (x ∷ xs) r e = rule_kept rule xs (refusal rule x.span) r refl e

next_is : (o : Option Refusal) (rule : ℕ) (names : List RawName) → ((r : Refusal) → o ≡ Some r → r.rule < rule)
    → earliest o (refusals rule names) ≡ or_next o (earliest None (refusals rule names))
next_is None rule names h = refl
next_is (Some r) rule names h = stays r rule names (h r refl)

next_below : (o p : Option Refusal) (rule : ℕ) → ((r : Refusal) → o ≡ Some r → r.rule < rule)
    → ((r : Refusal) → p ≡ Some r → r.rule < rule) → (r : Refusal) → or_next o p ≡ Some r → r.rule < rule
next_below None p rule h k r e = k r e
next_below (Some q) p rule h k r e = h r e

module _ (raw : RawNetlist) where
  -- the rules' own refusals, the lowest rule first
  pub first_of : (found4 found5 found6 found7 found8 : Option Refusal)
      → found4 ≡ earliest None (refusals 4 (rule_4 raw)) → found5 ≡ earliest None (refusals 5 (rule_5 raw))
      → found6 ≡ earliest None (refusals 6 (rule_6 raw)) → found7 ≡ earliest None (refusals 7 (rule_7 raw))
      → found8 ≡ earliest None (refusals 8 (rule_8 raw))
      → or_next (or_next (or_next (or_next found4 found5) found6) found7) found8 ≡ first_broken raw
  first_of g4 g5 g6 g7 g8 e4 e5 e6 e7 e8 =
      let low4 : (r : Refusal) → g4 ≡ Some r → r.rule < 5 =
      λ r e. let k = rule_is 4 (rule_4 raw) r (sym e4 ∙ e) in omega arith in
      let low5 : (r : Refusal) → or_next g4 g5 ≡ Some r → r.rule < 6 =
      next_below g4 g5 6 (λ r e. let k = low4 r e in omega arith)
      (λ r e. let k = rule_is 5 (rule_5 raw) r (sym e5 ∙ e) in omega arith) in
      let low6 : (r : Refusal) → or_next (or_next g4 g5) g6 ≡ Some r → r.rule < 7 =
      next_below (or_next g4 g5) g6 7 (λ r e. let k = low5 r e in omega arith)
      (λ r e. let k = rule_is 6 (rule_6 raw) r (sym e6 ∙ e) in omega arith) in
      let low7 : (r : Refusal) → or_next (or_next (or_next g4 g5) g6) g7 ≡ Some r → r.rule < 8 =
      next_below (or_next (or_next g4 g5) g6) g7 8 (λ r e. let k = low6 r e in omega arith)
      (λ r e. let k = rule_is 7 (rule_7 raw) r (sym e7 ∙ e) in omega arith) in
      sym (
      earliest_both None (refusals 4 (rule_4 raw) ++ refusals 5 (rule_5 raw) ++ refusals 6 (rule_6 raw)
      ++ refusals 7 (rule_7 raw)) (refusals 8 (rule_8 raw))
      ∙ ap (λ o. earliest o (refusals 8 (rule_8 raw)))
      (earliest_both None (refusals 4 (rule_4 raw) ++ refusals 5 (rule_5 raw) ++ refusals 6 (rule_6 raw))
      (refusals 7 (rule_7 raw))
      ∙ ap (λ o. earliest o (refusals 7 (rule_7 raw)))
      (earliest_both None (refusals 4 (rule_4 raw) ++ refusals 5 (rule_5 raw)) (refusals 6 (rule_6 raw))
      ∙ ap (λ o. earliest o (refusals 6 (rule_6 raw)))
      (earliest_both None (refusals 4 (rule_4 raw)) (refusals 5 (rule_5 raw))
      ∙ ap (λ o. earliest o (refusals 5 (rule_5 raw))) (sym e4)
      ∙ next_is g4 5 (rule_5 raw) low4 ∙ ap (λ o. or_next g4 o) (sym e5))
      ∙ next_is (or_next g4 g5) 6 (rule_6 raw) low5 ∙ ap (λ o. or_next (or_next g4 g5) o) (sym e6))
      ∙ next_is (or_next (or_next g4 g5) g6) 7 (rule_7 raw) low6
      ∙ ap (λ o. or_next (or_next (or_next g4 g5) g6) o) (sym e7))
      ∙ next_is (or_next (or_next (or_next g4 g5) g6) g7) 8 (rule_8 raw) low7
      ∙ ap (λ o. or_next (or_next (or_next (or_next g4 g5) g6) g7) o) (sym e8))
