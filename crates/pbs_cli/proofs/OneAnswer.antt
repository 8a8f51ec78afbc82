-- Each command but `compile` has one answer.
use Rattle.std.proofs.Common.{◌≡◌, ◌≢◌, ◌≤◌, ◌∙◌, ℕ, List, length, None, refl, sym, ap, subst}
use Rattle.pbs_io.specs.Outside.{NamedFile, content_of}
use Rattle.pbs_base.specs.declared.refusal.Refusal.{Refusal}
use Rattle.pbs_ast.specs.declared.syntax.Spec.{Spec}
use Rattle.net_core.specs.Circuits.{Circuit, IsCircuit}
use Rattle.net_eval.specs.Assignments.{HasOneAssignment}
use Rattle.vlog_text.specs.Reading as vlog
use Rattle.net_trace.specs.Outcomes.{Outcome, NetGives, refused}
use Rattle.net_trace.specs.Endings.{trace_text}
use Rattle.pbs_engine.specs.Accepted.{Breaks, IsAccepted}
use Rattle.pbs_engine.specs.Right.{IsMapOf}
use Rattle.pbs_engine.specs.Migrated.{BreaksMigration, IsMigrationOf}
use Rattle.pbs_engine.specs.Outcomes.{TextGives, NetlistGives, OfNetlist, OfBadNetlist}
use Rattle.pbs_cli.specs.Words.{Job, Check, Compile, Map, Migrate, Sim, Trace, Command, Run, Soak, Usage}
use Rattle.pbs_cli.specs.Answers.{Answer, Answers, OnOutcome, Checks, OnAccepted, OnBroken, Defines, answered, task_of}
use Rattle.pbs_cli.specs.Answers.{Mapped, OnMap, OnNoMap, Migrated, OnMigration, OnNoMigration, Soaked, OnSoak, OnNoSoak}
use Rattle.pbs_engine.specs.Soaked.{soak_counts}
use Rattle.soak_run.specs.Soaks.{soak_line, spec_text}
use Rattle.pbs_cli.proofs.OneRun as run

-- the laws of what is accepted, of what a netlist stands for and of what a trace gives
pub record OneEach : Type 0 where
  pub spec : (text : List ℕ) (a b : Spec) → IsAccepted text a → IsAccepted text b → a ≡ b
  pub refusal : (text : List ℕ) (r s : Refusal) → Breaks text r → Breaks text s → r ≡ s
  pub apart : (text : List ℕ) (a : Spec) (r : Refusal) → IsAccepted text a → Breaks text r → ⊥
  pub map : (text a b : List ℕ) → IsMapOf text a → IsMapOf text b → a ≡ b
  pub migration : (text a b : List ℕ) → IsMigrationOf text a → IsMigrationOf text b → a ≡ b
  pub no_migration : (text : List ℕ) (r s : Refusal) → BreaksMigration text r → BreaksMigration text s → r ≡ s
  pub migration_apart : (text a : List ℕ) (r : Refusal) → IsMigrationOf text a → length a ≤ 1048576
      → BreaksMigration text r → ⊥
  pub outcome : (text trace : List ℕ) (o p : Outcome) → TextGives text trace o → TextGives text trace p → o ≡ p
  pub net : (text : List ℕ) (a b : Circuit) → vlog.ElaboratesTo text a → vlog.ElaboratesTo text b → a ≡ b
  pub bad_net : (text : List ℕ) (r s : Refusal) → vlog.IsRefusedVerilog text r → vlog.IsRefusedVerilog text s → r ≡ s
  pub net_apart : (text : List ℕ) (a : Circuit) (r : Refusal) → vlog.ElaboratesTo text a
      → vlog.IsRefusedVerilog text r → ⊥
  pub row : (net : Circuit) → IsCircuit net → HasOneAssignment net
  pub wired : (text : List ℕ) (net : Circuit) → vlog.ElaboratesTo text net → IsCircuit net

one_check : OneEach → (text : List ℕ) (o p : Outcome) → Checks text o → Checks text p → o ≡ p
one_check one text o p (OnAccepted spec a) (OnAccepted other b) = refl
one_check one text o p (OnAccepted spec a) (OnBroken {r} b) = absurd (one.apart text spec r a b)
one_check one text o p (OnBroken {r} a) (OnAccepted spec b) = absurd (one.apart text spec r b a)
one_check one text o p (OnBroken a) (OnBroken b) = ap refused (one.refusal text _ _ a b)

one_map : OneEach → (text : List ℕ) (o p : Outcome) → Mapped text o → Mapped text p → o ≡ p
one_map one text o p (OnMap a) (OnMap b) =
    ap (λ (l : List ℕ). record { lines = l; refusal = None }) (one.map text _ _ a b)
one_map one text o p (OnMap a) (OnNoMap {r} b) = absurd (one.apart text a.spec r a.accepted b)
one_map one text o p (OnNoMap {r} a) (OnMap b) = absurd (one.apart text b.spec r b.accepted a)
one_map one text o p (OnNoMap a) (OnNoMap b) = ap refused (one.refusal text _ _ a b)

one_migrated : OneEach → (text : List ℕ) (o p : Outcome) → Migrated text o → Migrated text p → o ≡ p
one_migrated one text o p (OnMigration a few) (OnMigration b few_too) =
    ap (λ (l : List ℕ). record { lines = l; refusal = None }) (one.migration text _ _ a b)
one_migrated one text o p (OnMigration {migrated} a few) (OnNoMigration {r} b) =
    absurd (one.migration_apart text migrated r a few b)
one_migrated one text o p (OnNoMigration {r} a) (OnMigration {migrated} b few) =
    absurd (one.migration_apart text migrated r b few a)
one_migrated one text o p (OnNoMigration a) (OnNoMigration b) = ap refused (one.no_migration text _ _ a b)

one_soak : OneEach → (n : ℕ) (o p : Outcome) → Soaked n o → Soaked n p → o ≡ p
one_soak one n o p (OnSoak spec a) (OnSoak other b) =
    ap (λ s. record { lines = soak_line n (soak_counts s n); refusal = None }) (one.spec (spec_text n) spec other a b)
one_soak one n o p (OnSoak spec a) (OnNoSoak {r} b) = absurd (one.apart (spec_text n) spec r a b)
one_soak one n o p (OnNoSoak {r} a) (OnSoak spec b) = absurd (one.apart (spec_text n) spec r b a)
one_soak one n o p (OnNoSoak a) (OnNoSoak b) = ap refused (one.refusal (spec_text n) _ _ a b)

one_soak_answer : OneEach → (n : ℕ) (a b : Answer) → Answers (Soaked n) a → Answers (Soaked n) b → a ≡ b
one_soak_answer one n a b (OnOutcome o x) (OnOutcome p y) =
    ap (λ (x : Outcome). answered x.lines x.refusal) (one_soak one n o p x y)

one_netlist : OneEach → (text trace : List ℕ) (o p : Outcome) → NetlistGives text trace o → NetlistGives text trace p
    → o ≡ p
one_netlist one text trace o p (OfNetlist net a x given) (OfNetlist other b y given_too) =
    let here = subst (λ c. NetGives c trace x) (one.net text net other a b) given in
    let ok = one.wired text other b in
    run.one_outcome other ok (one.row other ok) trace x y here given_too
one_netlist one text trace o p (OfNetlist net a x given) (OfBadNetlist {r} b) =
    absurd (one.net_apart text net r a b)
one_netlist one text trace o p (OfBadNetlist {r} a) (OfNetlist net b x given) =
    absurd (one.net_apart text net r b a)
one_netlist one text trace o p (OfBadNetlist a) (OfBadNetlist b) = ap refused (one.bad_net text _ _ a b)

one_gives : OneEach → (job : Job) (text trace : List ℕ) (o p : Outcome) → job ≢ Compile
    → (task_of job).gives text trace o → (task_of job).gives text trace p → o ≡ p
one_gives one Check text trace o p other a b = one_check one text o p a b
one_gives one Compile text trace o p other a b = absurd (other refl)
one_gives one Map text trace o p other a b = one_map one text o p a b
one_gives one Migrate text trace o p other a b = one_migrated one text o p a b
one_gives one (Sim name) text trace o p other a b = one_netlist one text trace o p a b
one_gives one (Trace name) text trace o p other a b = one.outcome text trace o p a b

one_job : OneEach → (job : Job) (text trace : List ℕ) (a b : Answer) → job ≢ Compile
    → Answers ((task_of job).gives text trace) a → Answers ((task_of job).gives text trace) b → a ≡ b
one_job one job text trace a b other (OnOutcome o x) (OnOutcome p y) =
    ap (λ (x : Outcome). answered x.lines x.refusal) (one_gives one job text trace o p other x y)

pub one_defined : OneEach → (command : Command) (files : List NamedFile) (a b : Answer)
    → ((spec : List ℕ) → command ≢ Run Compile spec) → Defines command files a
    → Defines command files b → a ≡ b
one_defined one (Run job first) files a b other p q =
    one_job one job (content_of files first) (trace_text (task_of job).trace files) a b
    (λ is. other first (ap (λ j. Run j first) is)) p q
one_defined one (Soak n) files a b other p q = one_soak_answer one n a b p q
one_defined one Usage files a b other p q = p ∙ sym q
