use Rattle.map_text.proofs.LineLemmas.{lines_end}
use Rattle.map_text.proofs.lines.put_lines.Goals as goal

pub returns-in_default : goal.returns-in_default
returns-in_default c = lines_end _ _ c.loop-place.place _ c.args.codes.now c.in_default.ensures.lookup.3
    c.loop-place.invariant
