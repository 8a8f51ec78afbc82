use Rattle.std.proofs.Common.{◌≡◌, ◌++◌, ◌≤◌, ◌+◌, ◌^◌, drop}
use Rattle.pbs_explain_text.specs.Explanations.{item_lines}
use Rattle.pbs_explain_text.proofs.lines.put_items.Given as goal

abbrev pub invariant-loop-item : goal.invariant-loop-item
invariant-loop-item l =
    (l.from ≤ l.item-index + 2 ^ 32)
    × (l.text.items ++ item_lines l.places l.scopes l.from (drop l.item-index l.items)
    ≡ l.fn.text.items ++ item_lines l.places l.scopes 0 l.items)
