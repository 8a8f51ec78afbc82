use Rattle.std.proofs.Common.{List, arith, ◌∙◌}
use Rattle.std.specs.List.{filter_map}
use Rattle.vlog_text.specs.declared.raw.RawGate.{RawGate}
use Rattle.vlog_text.specs.Words.{target_name}
use Rattle.vlog_names.specs.Names.{kinds_in}
use Rattle.vlog_names.specs.inner.Rows.{faulty, named_target}
use Rattle.vlog_names.proofs.Noting.{noted_more, target_opens}
use Rattle.vlog_names.proofs.rows.note_gate_targets.Goals as goal

pub loop-gate-preserved : goal.loop-gate-preserved
loop-gate-preserved c =
    let fault = c.args.fault in
    let kinds = kinds_in c.args.kinds.now in
    let x = c.gate-item.result in
    noted_more (λ (xs : List RawGate). faulty fault kinds (filter_map (λ (g : RawGate). target_name g.target) (xs)))
    (λ (g : RawGate). faulty fault kinds (named_target g.target))
    (target_opens fault kinds) c.args.rule c.args.gates.now c.loop-gate.gate-index x c.loop-gate.found
    c.note_target-found.result
    (omega arith) c.gate-item.is c.note_target-found.ensures
    ∙ c.loop-gate.invariant
