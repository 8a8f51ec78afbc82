use Rattle.std.specs.Prelude.{codes}
use Rattle.pbs_print.specs.Canonical.{decl_text}
use Rattle.pbs_print.proofs.JoinedPieces.{writing_next}
use Rattle.pbs_print.proofs.lines.put_decls.Goals as goal

pub loop-n-preserved : goal.loop-n-preserved
loop-n-preserved c =
    writing_next decl_text (codes ", ") c.args.decls.now c.args.text.now.items c.loop-n.text.items
    c.put_lead.new.text.items
    c.put_decl.new.text.items c.loop-n.n c.in-Some.decl.now c.in-Some.ensures.value c.in_ok-put_lead.ensures
    c.in_ok-put_decl.ensures c.loop-n.invariant
