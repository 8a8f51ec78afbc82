use Rattle.std.proofs.Common.{◌≡◌, ◌++◌, drop}
use Rattle.map_text.specs.Maps.{place_lines}
use Rattle.map_text.proofs.lines.put_lines.Given as goal

abbrev pub invariant-loop-place : goal.invariant-loop-place
invariant-loop-place l =
    l.text.items ++ place_lines l.place (drop l.place l.spans) (drop l.place l.codes)
    ≡ l.fn.text.items ++ place_lines 0 l.spans l.codes
