use Rattle.vlog_parse.proofs.Raws as raws
use Rattle.vlog_parse.proofs.laws.read_is_raw.Goals as goal

pub returns : goal.returns
returns c = raws.read_is_raw
