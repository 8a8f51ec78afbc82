use Rattle.std.proofs.Common.{◌≡◌, false, true}
use Rattle.pbs_base.proofs.WordLemmas.{contained, not_contained}
use Rattle.pbs_base.proofs.names.Names.add.Goals as goal

pub returns-clause-there : goal.returns-clause-there
returns-clause-there c = λ h.
    let old : c.in_ok-is_new.is_new ≡ false = cc in
    let e = c.in_ok-is_new.ensures.added in
    rw (← c.self.view_is) (contained c.args.word c.self.inside.held.keys c.in_ok-is_new.is_new e old)

pub returns-clause-fresh : goal.returns-clause-fresh
returns-clause-fresh c = λ h.
    let new : c.in_ok-is_new.is_new ≡ true = cc in
    let e = c.in_ok-is_new.ensures.added in
    rw (← c.self.view_is) (not_contained c.args.word c.self.inside.held.keys c.in_ok-is_new.is_new e new)
