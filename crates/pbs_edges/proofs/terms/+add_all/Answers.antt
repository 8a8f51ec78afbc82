use Rattle.std.proofs.lemmas.Result.{on_ok_weaker}
use Rattle.pbs_edges.proofs.Tables.{adds_none, adds_then, adds_hold}
use Rattle.pbs_edges.proofs.terms.+add_all.Goals as goal

pub returns-in-Empty-clause-adds : goal.returns-in-Empty-clause-adds
returns-in-Empty-clause-adds t c = rw c.in-Empty.is (adds_none _ _)

pub returns-in-Action-clause-adds : goal.returns-in-Action-clause-adds
returns-in-Action-clause-adds t c = rw c.in-Action.is (adds_none _ _)

pub returns-in-Ok-clause-adds : goal.returns-in-Ok-clause-adds
returns-in-Ok-clause-adds t c = rw (c.in-Seq.is, ← c.deref.ensures, ← c.deref-in-Ok.ensures)
    (on_ok_weaker c.add_all-in-Ok.result (adds_then _ _ _ _ _ _ c.in-Ok.ensures.adds) c.add_all-in-Ok.ensures.adds)

pub returns-in-Ok-add_all-clause-adds : goal.returns-in-Ok-add_all-clause-adds
returns-in-Ok-add_all-clause-adds t c =
    rw (c.in-Choice.is, ← c.deref-in-Choice.ensures, ← c.deref-in-Ok-add_all.ensures)
    (on_ok_weaker c.add_all-in-Ok-add_all.result (adds_then _ _ _ _ _ _ c.in-Ok-add_all.ensures.adds)
    c.add_all-in-Ok-add_all.ensures.adds)

pub returns-in-Ok-with_term-clause-adds : goal.returns-in-Ok-with_term-clause-adds
returns-in-Ok-with_term-clause-adds t c = rw (c.in-Hold.is, ← c.deref-in-Ok-with_term.ensures)
    (on_ok_weaker c.add_all-in-Ok-with_term.result (adds_hold _ _ _ _ _ _ c.in-Ok-with_term.ensures.bytes)
    c.add_all-in-Ok-with_term.ensures.adds)

pub returns-in-Ok-add_all-3-clause-adds : goal.returns-in-Ok-add_all-3-clause-adds
returns-in-Ok-add_all-3-clause-adds t c =
    let trap = c.in-Ok-add_all-3.ensures.adds in
    rw (
      c.in-Scope.is,
      ← c.deref-in-Scope.ensures,
      ← c.deref-in-Ok-add_all-2.ensures,
      ← c.deref-in-Ok-add_all-3.ensures,
    )
    (on_ok_weaker c.add_all-in-Ok-add_all-3.result (λ after. adds_then _ _ _ _ _ _ c.in-Ok-add_all-2.ensures.adds
    (adds_then _ _ _ _ _ _ c.in-Ok-add_all-3.ensures.adds after)) c.add_all-in-Ok-add_all-3.ensures.adds)
