-- The central induction: each node of a driven machine keeps its contract.
use Rattle.std.proofs.Common.{◌≡◌, ℕ, suc, Bool, false, ◌&&◌, IsTrue, List, slice_index, sym, ◌∙◌, ap}
use Rattle.bool_terms.specs.Terms.{holds}
use Rattle.pbs_ast.specs.Trees.{is_place, is_action, Tree, Empty, Terminal, Action, Seq, Choice, Star, Hold, Scope}
use Rattle.pbs_derive.proofs.Shapes.{WellFormed, well_formed, places_once}
use Rattle.pbs_ast.specs.Sound.{places_from, scopes_right}
use Rattle.std.proofs.lemmas.Bool.{both_ways}
use Rattle.pbs_derive.proofs.Positions.{false_from}
use Rattle.pbs_derive.proofs.Reached.{stands_reached, fires_reached}
use Rattle.pbs_machine.specs.Nodes.{IsNodeRun, IsRight}
use Rattle.pbs_machine.proofs.Driven.{Driven, driven}
use Rattle.pbs_machine.proofs.Starts.{from_map}
use Rattle.pbs_machine.proofs.Contract.{ends_outer, stays_outer, Meets, meets_empty, meets_action, meets_terminal}
use Rattle.pbs_machine.proofs.Contract.{meets_choice, meets_hold, with_hold}
use Rattle.pbs_machine.proofs.Sequences.{second_start, meets_seq}
use Rattle.pbs_machine.proofs.Stars.{again_start, meets_star}
use Rattle.pbs_machine.proofs.Scopes.{body_keep, trap_keep, after_start}
use Rattle.pbs_machine.proofs.ScopeRuns.{meets_scope}

pub meets : (e : Tree) (v : List ℕ) (old : ℕ → ℕ → Bool) (input : ℕ → ℕ) (outer start keep : ℕ → Bool)
    → ((k : ℕ) → input (suc k) ≡ slice_index v k) → outer 0 ≡ false → WellFormed e
    → Driven e old input outer start keep → Meets e v old input outer start keep
meets (Empty spot) v old input outer start keep shows off good driven = meets_empty spot v old input outer start keep
meets (Action spot a) v old input outer start keep shows off good driven = meets_action spot a v old input outer start
    keep
meets (Terminal spot p t) v old input outer start keep shows off good driven = meets_terminal spot p t v old input
    outer start keep shows driven
meets (Seq spot e f) v old input outer start keep shows off good driven =
    meets_seq spot e f v old input outer start keep off good.1
    (meets e v old input outer start keep shows off good.0 driven.0)
    (meets f v old input outer (second_start e old input outer start keep) keep shows off good.1 driven.1)
meets (Choice spot e f) v old input outer start keep shows off good driven =
    meets_choice spot e f v old input outer start keep
    (meets e v old input outer start keep shows off good.0 driven.0)
    (meets f v old input outer start keep shows off good.1 driven.1)
meets (Star spot e) v old input outer start keep shows off good driven =
    meets_star spot e v old input outer start keep off good
    (meets e v old input outer (again_start e old input outer start keep) keep shows off good driven)
meets (Hold spot t e) v old input outer start keep shows off good driven =
    meets_hold spot t e v old input outer start keep shows
    (meets e v old input (with_hold t input outer) start keep shows (ap (λ b. b && holds t (input 0)) off) good driven)
meets (Scope spot s e x h) v old input outer start keep shows off good driven =
    meets_scope (record {
      spot = spot;
      scope = s;
      body = e;
      trap = x;
      after = h;
      v = v;
      old = old;
      input = input;
      outer = outer;
      start = start;
      keep = keep;
      off = off;
      good = good;
      body_meets = meets e v old input outer start (body_keep x old input outer keep) shows off good.0 driven.0;
      trap_meets = meets x v old input outer start (trap_keep e x old input outer keep) shows off good.1 driven.1;
      after_meets = meets h v old input outer (after_start x old input outer keep) keep shows off good.2 driven.2;
    })

-- from marked leaves to standing places and firing actions
pub each_right : (e : Tree) (first : ℕ) (v : List ℕ) (old : ℕ → ℕ → Bool) (input : ℕ → ℕ) (outer start keep : ℕ → Bool)
    → IsTrue (scopes_right e) → IsTrue (places_from e first) → IsNodeRun e v old input outer start keep
    → IsRight e v old input outer start keep
each_right e first v old input outer start keep right numbered run =
    let good = well_formed e right in
    let m = meets e v old input outer start keep run.reads run.off good
    (driven e old input outer start keep (places_once e first numbered) run.next) in
    record {
      ends_first = false_from _ (λ h. both_ways _ run.off (ends_outer e (old 0) (input 0) (outer 0) h));
      stays_first = false_from _ (λ h. both_ways _ run.off (stays_outer e (old 0) (input 0) (outer 0) h));
      ends_right = m.ends_right;
      stays_right = m.stays_right;
      registers_right = λ k c p has.
          let r = m.started_right (is_place p) k c in (
            λ h. from_map (r.0 (sym (run.next k p has) ∙ h)) (λ i _ reached. stands_reached e v i k p ∙ reached),
            λ w. run.next k p has ∙ r.1 (from_map w (λ i _ stood. sym (stands_reached e v i k p) ∙ stood)),
          );
      fires_right = λ k c a.
          let r = m.started_right (is_action a) k c in (
            λ h. from_map (r.0 h) (λ i _ reached. fires_reached e v i k a good ∙ reached),
            λ w. r.1 (from_map w (λ i _ fired. sym (fires_reached e v i k a good) ∙ fired)),
          );
    }
