use Rattle.trace_text.proofs.HeldLemmas.{held_before, piece_held, last_held, text_unheld}
use Rattle.trace_text.proofs.row.write_both.Goals as goal

pub returns-in_default : goal.returns-in_default
returns-in_default g c = text_unheld _ _ _ _ _ _ _ _ _ _ _ (held_before _ _ _) c.in_default.ensures

pub returns : goal.returns
returns g c = last_held _ _ _ _ _ _ _ _ _ (piece_held _ _ _ _ _ _ _ _ _ (held_before _ _ _) c.in-Ok.ensures)
    c.write-2.ensures
