use Rattle.std.proofs.Common.{◌≡◌, ◌<◌, drop}
use Rattle.std.specs.Prelude.{◌^◌}
use Rattle.pbs_text.specs.Lexing.{decimal_from}
use Rattle.pbs_lex.proofs.piece.decimal.Given as goal

abbrev pub invariant-loop-b : goal.invariant-loop-b
invariant-loop-b l = (decimal_from l.value (drop l.b-index l.digits) ≡ decimal_from 0 l.digits) ×
    (l.value < 10 ^ l.b-index)
