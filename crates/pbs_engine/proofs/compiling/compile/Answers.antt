use Rattle.pbs_engine.proofs.RightLemmas.{compiled, not_made}
use Rattle.pbs_engine.proofs.compiling.compile.Goals as goal

pub returns-in-Err : goal.returns-in-Err
returns-in-Err c = not_made c.args.text.now c.args.out.now.items c.in-Err.fail c.in-Err.ensures

pub returns-in-Ok-write_netlist : goal.returns-in-Ok-write_netlist
returns-in-Ok-write_netlist c =
    compiled c.args.text.now c.args.out.now.items c.write_netlist.new.out.items c.in-Ok.made c.in-Ok.ensures
    c.in-Ok-write_netlist.ensures.ok
