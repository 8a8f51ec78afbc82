use Rattle.pbs_edges.proofs.Counted.{seq_counts, star_counts, scope_counts}
use Rattle.pbs_edges.proofs.counts.+count_all.Goals as goal

pub returns-in-Seq : goal.returns-in-Seq
returns-in-Seq t c = let r = c.in_turn.ensures in
    rw (c.in-Seq.is, ← c.deref.ensures, ← c.deref-in-Seq.ensures) (seq_counts _ _ _ _ _ _ c.count_all.ensures
    c.count_all-in-Seq.ensures r.nullable r.firsts r.lasts r.follows)

pub returns-in-Star : goal.returns-in-Star
returns-in-Star t c = let r = c.repeated.ensures in
    rw (c.in-Star.is, ← c.deref-in-Star.ensures) (star_counts _ _ _ _ c.count_all-in-Star.ensures r.nullable r.firsts
    r.lasts r.follows)

pub returns-in-Scope : goal.returns-in-Scope
returns-in-Scope t c = let r = c.scoped.ensures in
    rw (c.in-Scope.is, ← c.deref-in-Scope.ensures, ← c.deref-in-Scope-2.ensures, ← c.deref-in-Scope-3.ensures)
    (scope_counts _ _ _ _ _ _ _ _ _ c.count_all-in-Scope.ensures c.count_all-in-Scope-2.ensures
    c.count_all-in-Scope-3.ensures r.nullable r.firsts r.lasts r.follows)
