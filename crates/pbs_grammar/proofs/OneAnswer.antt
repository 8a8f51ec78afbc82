-- The definition gives one answer.
use Rattle.std.proofs.Common.{◌≡◌, ℕ, ◌<◌, ◌≤◌, List, length, Result, Ok, Err, refl, sym, ap, subst, ◌∙◌, arith}
use Rattle.pbs_base.specs.declared.refusal.Refusal.{Refusal}
use Rattle.pbs_ast.specs.declared.syntax.Spec.{Spec}
use Rattle.pbs_text.specs.Trees.{text_spec}
use Rattle.pbs_text.specs.Refusals.{refusal, IsRefused}
use Rattle.pbs_text.specs.Answers.{StandsFor, IsRefusedBy, ByLength, ByToken, ByGrammar, Answers}
use Rattle.pbs_grammar.proofs.Phrases.{one_phrase}
use Rattle.pbs_grammar.proofs.Exact.{reading_is}

pub one_spec : (bytes : List ℕ) (a b : Spec) → StandsFor bytes a → StandsFor bytes b → a ≡ b
one_spec bytes a b s t =
    let both : Ok s.found ≡ Ok t.found = sym s.found_is ∙ t.found_is in
    let same : s.found ≡ t.found = cc in
    s.spec_is ∙ (ap (text_spec bytes) (one_phrase s.phrase t.phrase (s.is_read.text ∙ (same ∙ sym t.is_read.text)))
    ∙ sym t.spec_is)

too_long : (n : ℕ) → n ≤ 1048576 → 1048576 < n → ⊥
too_long n short long = omega arith

pub never_both : (bytes : List ℕ) (spec : Spec) (r : Refusal) → StandsFor bytes spec → IsRefusedBy bytes r → ⊥
never_both bytes spec r s (ByLength long) = too_long (length bytes) s.short long
never_both bytes spec r s (ByToken short at e) = let both : Ok s.found ≡ Err at = sym s.found_is ∙ e in cc
never_both bytes spec r s (ByGrammar short ts e q refused) =
    let both : Ok ts ≡ Ok s.found = sym e ∙ s.found_is in
    let same : ts ≡ s.found = cc in
    let one : Ok s.phrase ≡ Err q = sym (reading_is (length bytes) s.found (Ok s.phrase) s.is_read)
    ∙ reading_is (length bytes) s.found (Err q) (subst (λ l. IsRefused (length bytes) l q) same refused) in
    cc

pub one_refusal : (bytes : List ℕ) (q r : Refusal) → IsRefusedBy bytes q → IsRefusedBy bytes r → q ≡ r
one_refusal bytes q r (ByLength long) (ByLength long') = refl
one_refusal bytes q r (ByLength long) (ByToken short at e) = absurd (too_long (length bytes) short long)
one_refusal bytes q r (ByLength long) (ByGrammar short ts e x refused) = absurd (too_long (length bytes) short long)
one_refusal bytes q r (ByToken short at e) (ByLength long) = absurd (too_long (length bytes) short long)
one_refusal bytes q r (ByToken short at e) (ByToken short' at' e') = let both : Err at ≡ Err at' = sym e
    ∙ e' in let same : at ≡ at' = cc in ap (refusal 2) same
one_refusal bytes q r (ByToken short at e) (ByGrammar short' ts e' x refused) = let both : Err at ≡ Ok ts = sym e
    ∙ e' in absurd (cc)
one_refusal bytes q r (ByGrammar short ts e x refused) (ByLength long) = absurd (too_long (length bytes) short long)
one_refusal bytes q r (ByGrammar short ts e x refused) (ByToken short' at e') = let both : Ok ts ≡ Err at = sym e
    ∙ e' in absurd (cc)
one_refusal bytes q r (ByGrammar short ts e x refused) (ByGrammar short' ts' e' x' refused') =
    let both : Ok ts' ≡ Ok ts = sym e' ∙ e in
    let same : ts' ≡ ts = cc in
    let one : Err x ≡ Err x' = sym (reading_is (length bytes) ts (Err x) refused)
    ∙ reading_is (length bytes) ts (Err x') (subst (λ l. IsRefused (length bytes) l x') same refused') in
    cc

pub one_answer : (bytes : List ℕ) (a b : Result Spec Refusal) → Answers bytes a → Answers bytes b → a ≡ b
one_answer bytes (Ok a) (Ok b) s t = ap Ok (one_spec bytes a b s t)
one_answer bytes (Ok a) (Err r) s t = absurd (never_both bytes a r s t)
one_answer bytes (Err r) (Ok b) s t = absurd (never_both bytes b r t s)
one_answer bytes (Err q) (Err r) s t = ap Err (one_refusal bytes q r s t)
