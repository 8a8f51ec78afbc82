-- Each node's tables are its step's.
use Rattle.bool_terms.specs.Terms.{term_of}
use Rattle.pbs_ast.specs.Trees.{spot_of, tree_of}
use Rattle.pbs_covers.proofs.Steps.{empty_finished, action_finished, terminal_finished, seq_finished, choice_finished}
use Rattle.pbs_covers.proofs.Steps.{star_finished, hold_finished, scope_finished}
use Rattle.pbs_covers.proofs.tables.+make_tables.Goals as goal

pub returns-in-Empty : goal.returns-in-Empty
returns-in-Empty t c = rw c.in-Empty.is
    (empty_finished (spot_of c.args.tree.now.span c.args.tree.now.number) c.args.run.now c.finish.result
    c.finish.ensures)

pub returns-in-Action : goal.returns-in-Action
returns-in-Action t c = rw c.in-Action.is
    (action_finished (spot_of c.args.tree.now.span c.args.tree.now.number) c.args.run.now c.in-Action.field-0
    c.finish-in-Action.result c.finish-in-Action.ensures)

pub returns-in-Terminal : goal.returns-in-Terminal
returns-in-Terminal t c =
    rw c.in-Terminal.is
    (terminal_finished (spot_of c.args.tree.now.span c.args.tree.now.number) c.args.run.now c.in-Terminal.field-0
    (term_of c.in-Terminal.term) c.truths.result c.finish-in-Terminal.result
    c.truths.ensures (rw c.terminal_step.ensures at c.finish-in-Terminal.ensures))

pub returns-in-Seq : goal.returns-in-Seq
returns-in-Seq t c =
    rw c.in-Seq.is
    (seq_finished (spot_of c.args.tree.now.span c.args.tree.now.number) c.args.run.now (tree_of c.in-Seq.e.value)
    (tree_of c.in-Seq.f.value) c.make_tables.result c.make_tables-in-Seq.result c.finish-in-Seq.result
    (rw c.deref.ensures at c.make_tables.ensures) (rw c.deref-in-Seq.ensures at c.make_tables-in-Seq.ensures)
    (rw c.seq_step-step.ensures at c.finish-in-Seq.ensures))

pub returns-in-Choice : goal.returns-in-Choice
returns-in-Choice t c =
    rw c.in-Choice.is
    (choice_finished (spot_of c.args.tree.now.span c.args.tree.now.number) c.args.run.now
    (tree_of c.in-Choice.e.value) (tree_of c.in-Choice.f.value) c.make_tables-in-Choice.result
    c.make_tables-in-Choice-2.result c.finish-in-Choice.result
    (rw c.deref-in-Choice.ensures at c.make_tables-in-Choice.ensures)
    (rw c.deref-in-Choice-2.ensures at c.make_tables-in-Choice-2.ensures)
    (rw c.choice_step-step.ensures at c.finish-in-Choice.ensures))

pub returns-in-Star : goal.returns-in-Star
returns-in-Star t c =
    rw c.in-Star.is
    (star_finished (spot_of c.args.tree.now.span c.args.tree.now.number) c.args.run.now
    (tree_of c.in-Star.e.value) c.make_tables-in-Star.result c.finish-in-Star.result
    (rw c.deref-in-Star.ensures at c.make_tables-in-Star.ensures)
    (rw c.star_step.ensures at c.finish-in-Star.ensures))

pub returns-in-Hold : goal.returns-in-Hold
returns-in-Hold t c =
    rw c.in-Hold.is
    (hold_finished (spot_of c.args.tree.now.span c.args.tree.now.number) c.args.run.now (term_of c.in-Hold.term)
    (tree_of c.in-Hold.e.value) c.truths-in-Hold.result c.make_tables-in-Hold.result c.finish-in-Hold.result
    c.truths-in-Hold.ensures (rw c.deref-in-Hold.ensures at c.make_tables-in-Hold.ensures)
    (rw c.hold_step-step.ensures at c.finish-in-Hold.ensures))

pub returns-in-Scope : goal.returns-in-Scope
returns-in-Scope t c =
    rw c.in-Scope.is
    (scope_finished (spot_of c.args.tree.now.span c.args.tree.now.number) c.args.run.now c.in-Scope.field-0
    (tree_of c.in-Scope.e.value) (tree_of c.in-Scope.x.value) (tree_of c.in-Scope.h.value)
    c.make_tables-in-Scope.result c.make_tables-in-Scope-2.result c.make_tables-in-Scope-3.result
    c.finish-in-Scope.result
    (rw c.deref-in-Scope.ensures at c.make_tables-in-Scope.ensures)
    (rw c.deref-in-Scope-2.ensures at c.make_tables-in-Scope-2.ensures)
    (rw c.deref-in-Scope-3.ensures at c.make_tables-in-Scope-3.ensures)
    (rw c.scope_step-step.ensures at c.finish-in-Scope.ensures))
