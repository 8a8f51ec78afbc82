use Rattle.std.proofs.Common.{arith, ap, ◌∙◌}
use Rattle.vlog_names.specs.inner.Steps.{is_any}
use Rattle.vlog_names.proofs.KindLemmas.{declared_more, declared_kinds, declared_found}
use Rattle.vlog_names.proofs.naming.declare.Goals as goal

pub loop-decl-preserved : goal.loop-decl-preserved
loop-decl-preserved c =
    declared_more c.args.decls.now c.loop-decl.decl-index c.decl-item.result c.loop-decl.kinds c.add.new.self
    c.any-is_known.result c.args.found c.loop-decl.found c.note_if-found.result (omega arith) c.decl-item.is
    c.loop-decl.invariant (c.any-is_known.ensures ∙ ap (λ k. is_any k) c.of.ensures) c.note_if-found.ensures
    c.in_ok-add.ensures

pub returns-clause-kinds : goal.returns-clause-kinds
returns-clause-kinds c =
    declared_kinds c.args.decls.now c.loop-decl.decl-index c.loop-decl.kinds c.args.found c.loop-decl.found
    c.loop-decl.invariant (omega arith)

pub returns-clause-found : goal.returns-clause-found
returns-clause-found c =
    declared_found c.args.decls.now c.loop-decl.decl-index c.loop-decl.kinds c.args.found c.loop-decl.found
    c.loop-decl.invariant (omega arith)
