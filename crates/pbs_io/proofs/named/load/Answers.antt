use Rattle.pbs_io.proofs.LoadLemmas.{load_not_opened, load_whole, load_fails}
use Rattle.pbs_io.proofs.named.load.Goals as goal

pub returns-in_default : goal.returns-in_default
returns-in_default g c = load_not_opened c.in_default.field-0 _ _ c.args.slot _ _ c.in_default.ensures

pub returns-in-Ok-read_all : goal.returns-in-Ok-read_all
returns-in-Ok-read_all g c =
    load_whole _ _ _ _ _ c.args.slot _ _ _ c.in-Ok.ensures c.in-Ok-read_all.ensures.reads c.in-Ok-read_all.ensures.short

pub returns-in-Err : goal.returns-in-Err
returns-in-Err g c =
    load_fails _ _ _ _ c.args.slot _ _ c.read_all.new.out.items c.in-Err.fail c.in-Ok.ensures c.in-Err.ensures.reads
