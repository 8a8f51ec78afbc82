use Rattle.std.proofs.Common.{rules, ◌≡◌, ◌<◌, false, length, get_or, refl}
use Rattle.pbs_overlap.proofs.Work.{visits_new}
use Rattle.pbs_overlap.proofs.search.Reached.visit.Goals as goal

pub returns-in_ok-push : goal.returns-in_ok-push
returns-in_ok-push c =
    let unmarked : get_or c.args.self.now.marks.items c.args.cell false ≡ false = search rules in
    let inside : c.args.cell < length c.args.self.now.marks.items = search rules in
    visits_new c.args.self.now _ c.args.cell inside refl c.in_ok-push.ensures.items unmarked c.requires.work
