use Rattle.std.proofs.Common.{◌≡◌, ◌≤◌, [], ◌∷◌, ◌++◌, ◌∙◌, ap, arith, length, rules}
use Rattle.std.proofs.lemmas.List.{length_push}
use Rattle.pbs_ast.specs.Trees.{tree_of}
use Rattle.pbs_explain.specs.inner.Checked.{scoped}
use Rattle.pbs_explain.proofs.Following.{entry_from}
use Rattle.pbs_explain.proofs.checked.scope_row.Goals.{then-c-d, else-c-d}
use Rattle.pbs_explain.proofs.checked.scope_row.Goals as goal

pub loop-d-preserved : goal.loop-d-preserved
loop-d-preserved c =
    let a = c.args in
    let l = c.loop-d in
    let value = c.if-c-d.value in
    let cell = scoped (tree_of a.scope.now.body.now) (tree_of a.scope.now.trap.now) a.reading.now.known.run.now a.reading.now.items.now
    a.scope.now.cuts a.body.now a.after.now a.c in
    let grown : c.push.new.self ≡ l.row ++ value ∷ [] = search rules in
    let told : a.c ≤ l.d → value ≡ cell l.d = λ le. elim c.if-c-d.branch [
      | then-c-d w ↦ w.value-is ∙ w.scope_cell-value.ensures
      | else-c-d w ↦ absurd (omega (arith, w.if-c-d.false))
    ] in
    record {
      filled = omega (arith, ap length grown, length_push l.row value, l.invariant.filled);
      exact = entry_from l.row c.push.new.self value a.c l.d cell grown l.invariant.filled told l.invariant.exact;
    }
