-- The machine of main from reset.
use Rattle.std.proofs.Common.{◌≡◌, ℕ, zero, suc, ◌<◌, Bool, true, List, refl, sym, ◌∙◌, ap, arith}
use Rattle.std.proofs.lemmas.Bool.{false≢true}
use Rattle.pbs_ast.specs.Trees.{Tree}
use Rattle.pbs_derive.proofs.Shapes.{WellFormed, PlacesOnce}
use Rattle.pbs_derive.specs.Derivations.{live, NoOverlapBelow}
use Rattle.pbs_derive.proofs.Reached.{reaches}
use Rattle.pbs_machine.specs.Nodes.{ClearBelow}
use Rattle.pbs_machine.specs.Rows.{started}
use Rattle.pbs_machine.proofs.Driven.{driven, vector_in_row, main_start, main_outer, main_keep, registers_before}
use Rattle.pbs_derive.proofs.Positions.{same_test}
use Rattle.pbs_machine.proofs.Nodes.{meets}

-- main is begun in row 0 alone
only_zero : (i : ℕ) → main_start i ≡ true → i ≡ 0
only_zero zero h = refl
only_zero (suc k) h = absurd (false≢true h)

main_held : (q : ℕ) → 0 < q → main_outer q ≡ true
main_held zero lt = absurd (omega arith)
main_held (suc q) lt = refl

main_clear : (main : Tree) (v : List ℕ) (k : ℕ) → NoOverlapBelow main v k
    → ClearBelow main v main_start main_keep main_outer k
main_clear main v k none t le s j lt a b =
    none t le s j lt
    (ap (λ i. live main v i t s j) (sym (only_zero a.at a.begun)) ∙ a.reached)
    (ap (λ i. live main v i t s t) (sym (only_zero b.at b.begun)) ∙ b.reached)

pub main_reaches : (main : Tree) (mark : Tree → Bool) (v : List ℕ) (anything : ℕ → Bool) (any k : ℕ) → WellFormed main
    → PlacesOnce main → NoOverlapBelow main v k
    → started main mark (registers_before main v anything any k) (vector_in_row v any k) (main_outer k) (main_start k)
    (main_keep k) ≡ reaches main mark v 0 k
main_reaches main mark v anything any k good once none =
    let old = registers_before main v anything any in
    let input = vector_in_row v any in
    let m = meets main v old input main_outer main_start main_keep (λ k. refl) refl good
    (driven main old input main_outer main_start main_keep once (λ k p h. refl)) in
    let right = m.started_right mark k (main_clear main v k none) in
    same_test _ _
    (λ h. let u = right.0 h in ap (λ i. reaches main mark v i k) (sym (only_zero u.at u.begun)) ∙ u.reached)
    (λ h. right.1 (record {
      at = 0;
      early = omega arith;
      begun = refl;
      kept = λ q low high. refl;
      held = λ q low high. main_held q low;
      reached = h;
    }))

pub no_overlap_less : (main : Tree) (v : List ℕ) (k : ℕ) → NoOverlapBelow main v (suc k) → NoOverlapBelow main v k
no_overlap_less main v k none t lt = none t (omega arith)
