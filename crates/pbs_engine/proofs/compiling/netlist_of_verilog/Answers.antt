use Rattle.pbs_engine.proofs.RightLemmas.{was_read_back, never_refused}
use Rattle.pbs_engine.proofs.compiling.netlist_of_verilog.Goals as goal

pub returns-in-Ok : goal.returns-in-Ok
returns-in-Ok c =
    was_read_back c.one_answer.ensures.net c.args.text.now c.args.verilog.now c.in-Ok.net c.requires c.in-Ok.ensures

pub unreachable-requires : goal.unreachable-requires
unreachable-requires c =
    never_refused c.one_answer.ensures.apart c.args.text.now c.args.verilog.now _ _ c.requires
    c.in-Err-Refused.field-0-is c.in-Err-Refused.ensures
