use Rattle.std.proofs.Common.{◌++◌, ◌∙◌, ap, subst, sym}
use Rattle.pbs_engine.specs.Right.{IsVerilogOf}
use Rattle.pbs_engine.proofs.RightLemmas.{not_compiled}
use Rattle.pbs_engine.proofs.compiling.written_netlist.Goals as goal

pub netlist_of_verilog-requires : goal.netlist_of_verilog-requires
netlist_of_verilog-requires c =
    let found = c.in-Ok.ensures in
    subst (IsVerilogOf c.args.text.now)
    (sym (c.as_slice.ensures.value ∙ (found.2 ∙ ap (λ before. before ++ found.0) c.new-verilog.ensures.items))) found.1

pub returns-in-Err : goal.returns-in-Err
returns-in-Err c = not_compiled c.args.text.now _ _ c.in-Err.fail c.in-Err.ensures
