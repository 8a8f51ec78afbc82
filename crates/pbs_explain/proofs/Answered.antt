-- The answer of the check.
use Rattle.std.proofs.Common.{◌≡◌, ℕ, ◌+◌, ◌≤◌, Bool, true, false, List, length, Some, sym, ◌∙◌, arith, subst}
use Rattle.std.specs.Prelude.{◌↔◌, slice_get}
use Rattle.std.proofs.lemmas.Bool.{both_ways, false≢true}
use Rattle.pbs_ast.specs.Trees.{Tree}
use Rattle.pbs_covers.specs.Grids.{at}
use Rattle.pbs_explain.specs.declared.derivation.Item.{Item}
use Rattle.pbs_explain.specs.declared.step.Chart.{Chart}
use Rattle.pbs_explain.specs.Explained.{Ends}
use Rattle.pbs_explain.specs.inner.Checked.{leads, reached, between, Follows, Reads}
use Rattle.pbs_explain.proofs.Reached.{leads_far, ends_leads, between_all, reached_zero, reached_end, reached_order}
use Rattle.pbs_explain.proofs.Reached.{reached_rises, reached_within}

-- items that don't lead through the run are no derivation
pub never_ends : (e : Tree) (v : List ℕ) (items : List Item) (node : ℕ) → leads 0 items (length v) ≡ false
    → (false ≡ true) ↔ Ends e v 0 (length v) items node
never_ends e v items node h = (
  λ f. absurd (false≢true f),
  λ d. absurd (both_ways _ h (ends_leads e v 0 (length v) items node d)),
)

pub follows_from : (v : List ℕ) (items : List Item) (positions : List ℕ) → length v ≤ 128
    → leads 0 items (length v) ≡ true → length positions ≡ length items + 1
    → ((c : ℕ) → c ≤ length items → slice_get positions c ≡ Some (reached 0 items c)) → Follows v items positions
follows_from v items positions few right filled exact =
    let far : 0 + length items ≤ length v = leads_far 0 items (length v) right in
    record {
      few = few;
      short = omega arith;
      leads = right;
      filled = filled;
      exact = exact;
      order = λ c d le to. reached_order 0 items (length v) c d right le to;
      rising = λ c d lt to. reached_rises 0 items (length v) c d right lt to;
      within = λ c le. reached_within 0 items (length v) c right le;
    }

pub answers : (e : Tree) (v : List ℕ) (items : List Item) (node : ℕ) (chart : Chart) (answer : Bool)
    → leads 0 items (length v) ≡ true → Reads v items node e chart
    → answer ≡ at (length items) chart.fires 0 (length items)
    → (answer ≡ true) ↔ Ends e v 0 (length v) items node
answers e v items node chart answer right told is =
    let n = length items in
    let start : reached 0 items 0 ≡ 0 = reached_zero 0 items in
    let end : reached 0 items n ≡ length v = reached_end 0 items (length v) right in
    let all : between items 0 n ≡ items = between_all items in
    let both = told.ends 0 n (omega arith) (omega arith) in (
      λ h. subst (λ i. Ends e v i (length v) items node) start
          (subst (λ k. Ends e v (reached 0 items 0) k items node) end
          (subst (λ xs. Ends e v (reached 0 items 0) (reached 0 items n) xs node) all (both.0 (sym is ∙ h)))),
      λ d. is ∙ both.1 (subst (λ xs. Ends e v (reached 0 items 0) (reached 0 items n) xs node) (sym all)
          (subst (λ k. Ends e v (reached 0 items 0) k items node) (sym end)
          (subst (λ i. Ends e v i (length v) items node) (sym start) d))),
    )
