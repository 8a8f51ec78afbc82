use Rattle.std.proofs.Common.{◌≡◌, ℕ, ◌+◌, ◌<◌, Bool, Option, true, Some, List, map, length, subst, sym, ap, ◌∙◌, arith}
use Rattle.std.specs.Prelude.{◌↔◌}
use Rattle.std.specs.List.{list_all}
use Rattle.pbs_base.specs.Entries.{bit}
use Rattle.bool_terms.specs.Terms.{Term, holds}
use Rattle.pbs_names.specs.declared.buses.Bus.{Bus}
use Rattle.std.proofs.lemmas.List.Folds.{list_all-map}
use Rattle.pbs_expand.specs.Written.{equal_term, literals, written}
use Rattle.pbs_expand.proofs.TermRows.{written_all, written_any}
use Rattle.pbs_expand.proofs.Meaning.{any_mapped, joined_all, joined_any, literals_hold, hold_literals}
use Rattle.pbs_expand.proofs.laws.meaning.Goals as goal

pub returns-clause-all : goal.returns-clause-all
returns-clause-all c = λ inputs items v.
    let ts = map (written inputs) items in let p : Term → Bool = λ t. holds t v in
    ap p (written_all inputs items) ∙ joined_all (length ts) ts v (omega arith) ∙ list_all-map p (written inputs) items

pub returns-clause-any : goal.returns-clause-any
returns-clause-any c = λ inputs items v.
    let ts = map (written inputs) items in let p : Term → Bool = λ t. holds t v in
    ap p (written_any inputs items) ∙ joined_any (length ts) ts v (omega arith) ∙ any_mapped p (written inputs) items

equal_bits : (found : Option Bus) (bus : Bus) (number v : ℕ) → found ≡ Some bus
    → (holds (equal_term found number) v ≡ true)
    ↔ ((k : ℕ) → k < bus.width → bit (bus.start + k) v ≡ bit k number)
equal_bits found bus number v is = subst (λ b. (holds (equal_term b number) v ≡ true)
    ↔ ((k : ℕ) → k < bus.width → bit (bus.start + k) v ≡ bit k number)) (sym is) (to, from)
  where
    all : List Term
    all = literals bus.start number 0 bus.width

    joins : holds (equal_term (Some bus) number) v ≡ list_all (λ t. holds t v) all
    joins = joined_all (length all) all v (omega arith)

    to : holds (equal_term (Some bus) number) v ≡ true
        → (k : ℕ) → k < bus.width → bit (bus.start + k) v ≡ bit k number
    to e k below =
        let same : 0 + k ≡ k = omega arith in
        subst
        (λ m. bit (bus.start + m) v ≡ bit m number)
        same
        (literals_hold bus.start number 0 bus.width v (sym joins ∙ e) k below)

    from : ((k : ℕ) → k < bus.width → bit (bus.start + k) v ≡ bit k number)
        → holds (equal_term (Some bus) number) v ≡ true
    from bits = joins ∙ hold_literals bus.start number 0 bus.width v (λ k below.
        let same : k ≡ 0 + k = omega arith in
        subst (λ m. bit (bus.start + m) v ≡ bit m number) same (bits k below))

pub returns-clause-equal : goal.returns-clause-equal
returns-clause-equal c = λ inputs name at number number_at bus found v. equal_bits _ bus number v found
