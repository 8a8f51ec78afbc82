use Rattle.pbs_engine.proofs.MapLemmas.{not_read}
use Rattle.pbs_engine.proofs.mapping.map.Goals as goal

pub returns-in-Err : goal.returns-in-Err
returns-in-Err c = not_read c.args.text.now c.args.out.now.items c.in-Err.fail c.in-Err.ensures
