-- The codes of places that share registers.
use Rattle.std.proofs.Common.{◌≡◌, ℕ, ◌<◌, ◌≤◌, ◌+◌, Bool, List, length, Some, sym, ◌∙◌, arith, inl, inr}
use Rattle.std.specs.Prelude.{slice_get, Contains}
use Rattle.std.proofs.lemmas.List.{length-map}
use Rattle.std.proofs.lemmas.Option.{slice_get_within, slice_get-get_or, same_Some}
use Rattle.pbs_base.specs.declared.entry.Entry.{Entry}
use Rattle.pbs_base.specs.Entries.{since}
use Rattle.pbs_ast.specs.Trees.{Tree}
use Rattle.pbs_ast.specs.Sound.{place_count}
use Rattle.net_core.specs.declared.codes.Code.{Code}
use Rattle.net_core.specs.declared.codes.CodePlan.{CodePlan}
use Rattle.net_core.specs.Plans.{IsGrouped, leader_of}
use Rattle.net_core.specs.Rows.{Row}
use Rattle.net_core.specs.Circuits.{Circuit}
use Rattle.net_core.specs.Runs.{next_of}
use Rattle.net_encode.specs.Codes.{Obeys, code_in, code_registers, codes_of}
use Rattle.net_encode.specs.Encodings.{Mirrors}
use Rattle.act_schedule.specs.declared.plan.PlanLevel.{PlanLevel}
use Rattle.pbs_codes.specs.Sharing.{IsSharedBy}
use Rattle.pbs_controller.specs.Controllers.{ShowsLevels}
use Rattle.pbs_realize.specs.Codes.{ShowsCodes, row_stands}

contains_at : {X : Type 0} (xs : List X) (n : ℕ) (x : X) → slice_get xs n ≡ Some x → Contains xs x
contains_at xs n x at =
    let within = slice_get_within xs n x at in
    (n, within, same_Some _ x (sym (slice_get-get_or xs n x within) ∙ at))

module _ (main : Tree) (plan : CodePlan) (shared : IsSharedBy main plan) where
  leader_below : (p : ℕ) → p < place_count main → leader_of plan p < place_count main
  leader_below p less =
      let size = shared.planned.each in
      elim (shared.whole.each p (omega (arith, less, size))) [
        | inl never ↦ let led = (shared.whole.never p never).1 in omega (arith, led, less)
        | inr grouped ↦
            let low = (shared.whole.members (leader_of plan p) grouped).0 in
            omega (arith, low, size)
      ]

  member_below : (p : ℕ) → IsGrouped plan p → p < place_count main
  member_below p grouped =
      let low = (shared.whole.members p grouped).0 in omega (arith, low, shared.planned.each)

  -- registers that tell which places stand are as the plan says
  pub obeys : (on : ℕ → Bool) (v : List Entry) (k : ℕ)
      → ((p : ℕ) → p < place_count main → on p ≡ row_stands main v k p) → Obeys (place_count main) plan on
  obeys on v k told =
      let w = since v k in
      let n = length (since v k) in
      record {
        never = λ p less c. told p less ∙ shared.fits.never w n p c;
        twins = λ p less.
            told p less
            ∙ (shared.fits.leaders w n p less ∙ sym (told (leader_of plan p) (leader_below p less)));
        apart = record {
          apart = λ a i j g p q at first second on_p on_q.
              let group = contains_at plan.groups a g at in
              let one = contains_at g i p first in
              let two = contains_at g j q second in
              shared.fits.members w n p q g group one two
              (sym (told p (member_below p (g, group, one))) ∙ on_p)
              (sym (told q (member_below q (g, group, two))) ∙ on_q);
        };
      }

  code_below : (p : ℕ) (c : Code) → slice_get (codes_of plan) p ≡ Some c → p < place_count main
  code_below p c at =
      let within = slice_get_within (codes_of plan) p c at in
      let count = length-map plan.leaders (λ leader. code_in 0 plan.groups leader) in
      omega (arith, within, count, shared.planned.each)

  module _ (old new : Circuit) (v : List Entry) (before rows : ℕ → Row)
      (mirrors : Mirrors old new (place_count main) plan v before rows) (k : ℕ) (le : k ≤ length v) where
    -- the shared registers tell which places stand
    pub shows_shared : ((p : ℕ) → p < place_count main → next_of old (before k) p ≡ row_stands main v k p)
        → ShowsCodes new main (code_registers plan.groups) (codes_of plan) v rows k
    shows_shared told = record {
      told = λ p code at. sym (mirrors.places k p code le at) ∙ told p (code_below p code at);
      due = λ r less.
          let is = mirrors.codes k r le less in
          record {
            some = λ on.
                let found = is.some on in (
                  found.0,
                  found.1,
                  found.2,
                  sym (told found.0 (code_below found.0 found.1 found.2)) ∙ found.3,
                  found.4,
                );
            one = λ p c at stood one. is.one p c at (told p (code_below p c at) ∙ stood) one;
          };
    }

    -- and the levels' registers stand behind them
    pub levels_shared : (m : ℕ) (levels : List PlanLevel) → length old.registers ≡ place_count main + length levels
        → length old.outputs ≡ m + length levels → ShowsLevels old main (place_count main) m levels v before k
        → ShowsLevels new main (code_registers plan.groups) m levels v rows k
    levels_shared m levels count outs shown = record {
      registers = λ l level at.
          let less = slice_get_within levels l level at in
          mirrors.rest k l le (omega (arith, less, count)) ∙ shown.registers l level at;
      outputs = λ l level at.
          let less = slice_get_within levels l level at in
          mirrors.outputs k (m + l) le (omega (arith, less, outs)) ∙ shown.outputs l level at;
    }
