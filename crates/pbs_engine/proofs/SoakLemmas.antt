-- The counts of a soak.
use Rattle.std.proofs.Common.{◌≡◌, ◌∙◌, ◌+◌, ◌-◌, ◌*◌, ◌<◌, ◌≤◌, ℕ, zero, suc, Bool, true, false, List, [], ◌∷◌, ◌++◌}
use Rattle.std.proofs.Common.{length, Ok, Err, None, refl, sym, ap, subst, arith}
use Rattle.std.specs.Prelude.{◌&&◌, nat_lt, slice_get, if◌then◌else◌}
use Rattle.std.proofs.lemmas.List.{length-map}
use Rattle.std.proofs.lemmas.Bool.Decides.{nat_tests}
use Rattle.pbs_base.specs.declared.entry.Entry.{Entry}
use Rattle.pbs_ast.specs.declared.syntax.Level.{Level}
use Rattle.pbs_ast.specs.declared.syntax.Spec.{Spec}
use Rattle.pbs_names.specs.Naming.{action_names, level_names}
use Rattle.pbs_expand.specs.Expanded.{expanded}
use Rattle.net_core.specs.declared.netlist.Output.{Output}
use Rattle.net_core.specs.Rows.{Row}
use Rattle.net_core.specs.Circuits.{Circuit, IsCircuit, output_names}
use Rattle.net_core.specs.Runs.{output_value}
use Rattle.net_eval.specs.Simulated.{IsZeroRun}
use Rattle.soak_run.specs.declared.counting.Counts.{Counts}
use Rattle.soak_run.specs.Soaks.{CountsRows, entries, is_shown, one_if, row_count, soak_line, spec_text}
use Rattle.soak_run.proofs.Counted.{entries_count}
use Rattle.act_schedule.specs.declared.plan.PlanLevel.{PlanLevel}
use Rattle.pbs_controller.specs.Controllers.{row_fires}
use Rattle.pbs_controller.specs.LevelPlans.{plan_of_level}
use Rattle.pbs_controller.specs.Shown.{level_due}
use Rattle.pbs_controller.proofs.PortLemmas.{length-outputs}
use Rattle.pbs_controller.proofs.ShownLemmas.{shows_due}
use Rattle.pbs_realize.specs.Realizes.{level_plan}
use Rattle.pbs_engine.specs.declared.fail.EngineFail.{EngineFail}
use Rattle.pbs_engine.specs.declared.fail.EngineFail.TheVariants as engine
use Rattle.pbs_engine.specs.Outcomes.{is_due}
use Rattle.pbs_engine.specs.Right.{IsReadBack, ReadsBack}
use Rattle.pbs_engine.specs.Soaked.{Soaks, soak_counts}

same_counts : (f g : ℕ → Bool) (n : ℕ) → ((k : ℕ) → k < n → f k ≡ g k) → row_count f n ≡ row_count g n
same_counts f g zero same = refl
same_counts f g (suc n) same =
    ap (λ m. m + one_if (f n)) (same_counts f g n (λ k less. same k (omega arith)))
    ∙ ap (λ b. row_count g n + one_if b) (same n (omega arith))

is_less : (a n : ℕ) → nat_lt a n ≡ true → a < n
is_less a n e = grind (arith, nat_tests)

not_less : (a n : ℕ) → nat_lt a n ≡ false → n ≤ a
not_less a n e = grind (arith, nat_tests)

is_above : (a n : ℕ) → n ≤ a → nat_lt a n ≡ false
is_above a n h = grind (arith, nat_tests)

none_there : {X : Type 0} (xs : List X) (n : ℕ) → length xs ≤ n → slice_get xs n ≡ None
none_there [] n h = refl
none_there (x ∷ xs) zero h = absurd (omega arith)
none_there (x ∷ xs) (suc n) h = none_there xs n (omega arith)

module _ (spec : Spec) (net : Circuit) (v : List Entry) (rows : ℕ → Row)
    (back : (k : ℕ) → k ≤ length v → (a : ℕ) → a < length net.outputs
    → output_value net (rows k) a ≡ is_due spec v k a)
    (count : length net.outputs ≡ length (action_names spec.actions) + length (level_plan spec)) where
  -- past the last output nothing is due
  none_due : (k a : ℕ) → length net.outputs ≤ a → false ≡ is_due spec v k a
  none_due k a high =
      let m = length (action_names spec.actions) in
      let main = expanded spec in
      let none : slice_get (level_plan spec) (a - m) ≡ None =
      none_there (level_plan spec) (a - m) (omega (arith, high, count)) in
      sym (ap (λ b. if b then row_fires main v k a else level_due main m v k (slice_get (level_plan spec) (a - m)))
      (is_above a m (omega (arith, high, count)))
      ∙ ap (level_due main m v k) none)

  shown_due : (k : ℕ) → k ≤ length v → (a : ℕ) → is_shown net (rows k) a ≡ is_due spec v k a
  shown_due k le a = by (nat_lt a (length net.outputs)) refl
    where
      by : (b : Bool) → nat_lt a (length net.outputs) ≡ b → b && output_value net (rows k) a ≡ is_due spec v k a
      by true e = back k le a (is_less a (length net.outputs) e)
      by false e = none_due k a (not_less a (length net.outputs) e)

-- what the outputs of a netlist that was read back show
shows_all : (text : List ℕ) (net : Circuit) (back : IsReadBack text net) (v : List Entry) (rows : ℕ → Row)
    → IsZeroRun net v rows → length net.outputs ≡ length (action_names back.spec.actions)
    + length (level_plan back.spec) → (k : ℕ) → k ≤ length v → (a : ℕ) → a < length net.outputs
    → output_value net (rows k) a ≡ is_due back.spec v k a
shows_all text net back v rows run count k le a less =
    let row = back.realizes.shows v rows run.run k le in
    shows_due net (expanded back.spec) back.realizes.places (length (action_names back.spec.actions))
    (level_plan back.spec) v rows k row.fires row.levels a (omega (arith, less, count))

output_count : (text : List ℕ) (net : Circuit) (back : IsReadBack text net)
    → length net.outputs ≡ length (action_names back.spec.actions) + length (level_plan back.spec)
output_count text net back =
    let spec = back.spec in
    let named = length-map net.outputs (λ (o : Output). o.name) in
    let same = ap length back.realizes.outputs in
    let both = length-outputs (action_names spec.actions) (level_names spec.levels) in
    let levels = length-map spec.levels (λ (l : Level). l.name) in
    let plans = length-map spec.levels (λ l. plan_of_level (action_names spec.actions) l) in
    omega (arith, named, same, both, levels, plans)

module _ (n : ℕ) (net : Circuit) (back : IsReadBack (spec_text n) net)
    (some : (rows : ℕ → Row) × IsZeroRun net (entries n (10 * n)) rows) where
  abbrev v : List Entry
  v = entries n (10 * n)

  count_due : (count a : ℕ)
      → ((rows : ℕ → Row) → IsZeroRun net v rows
      → count ≡ row_count (λ k. is_shown net (rows k) a) (suc (length v)))
      → count ≡ row_count (λ k. is_due back.spec v k a) (suc (10 * n))
  count_due count a is =
      let rows = some.0 in
      let outputs = output_count (spec_text n) net back in
      is rows some.1
      ∙ (same_counts (λ k. is_shown net (rows k) a) (λ k. is_due back.spec v k a) (suc (length v)) (λ k less.
      shown_due back.spec net v rows (shows_all (spec_text n) net back v rows some.1 outputs) outputs k (omega arith) a)
      ∙ ap (λ m. row_count (λ k. is_due back.spec v k a) (suc m)) (entries_count n (10 * n)))

  counts_are : (counts : Counts) → CountsRows net v counts → counts ≡ soak_counts back.spec n
  counts_are counts is =
      let due = soak_counts back.spec n in
      let with_hit : ℕ → Counts = λ x. record { hit = x; pass = counts.pass; lost = counts.lost } in
      let with_pass : ℕ → Counts = λ x. record { hit = due.hit; pass = x; lost = counts.lost } in
      let with_lost : ℕ → Counts = λ x. record { hit = due.hit; pass = due.pass; lost = x } in
      ap with_hit (count_due counts.hit 0 is.hit)
      ∙ (ap with_pass (count_due counts.pass 1 is.pass) ∙ ap with_lost (count_due counts.lost 2 is.lost))

  pub soaked : (counts : Counts) (before now : List ℕ) → CountsRows net v counts → now ≡ before ++ soak_line n counts
      → Soaks n before now (Ok tt)
  soaked counts before now is appended = (
    back.spec,
    back.accepted,
    appended ∙ ap (λ c. before ++ soak_line n c) (counts_are counts is),
  )

pub circuit_of_back : (text : List ℕ) (net : Circuit) → IsReadBack text net → IsCircuit net
circuit_of_back text net back = back.realizes.circuit

pub not_soaked : (n : ℕ) (before : List ℕ) (fail : EngineFail) → ReadsBack (spec_text n) (Err fail)
    → Soaks n before before (Err fail)
not_soaked n before (engine.Refused r) is = (is, refl)
not_soaked n before engine.Memory is = refl
