use Rattle.pbs_lex.proofs.Decimals.{digits_in}
use Rattle.pbs_lex.proofs.piece.number_piece.Goals as goal

pub number_kind-requires-clause-ascii : goal.number_kind-requires-clause-ascii
number_kind-requires-clause-ascii c = let same = c.number_len-n.ensures in rw same (digits_in c.args.bytes.now)
