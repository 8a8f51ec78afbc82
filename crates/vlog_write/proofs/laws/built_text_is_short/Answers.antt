use Rattle.vlog_write.proofs.Lengths.{built_is_short}
use Rattle.vlog_write.proofs.laws.built_text_is_short.Goals as goal

pub returns : goal.returns
returns c = built_is_short
