use Rattle.std.proofs.Common.{◌++◌, codes}
use Rattle.vlog_text.specs.Emitted.{always_lines, gate_lines, input_lines, module_line, output_lines, reg_lines}
use Rattle.vlog_text.specs.Emitted.{wire_lines}
use Rattle.vlog_write.proofs.Putting.{more, then}
use Rattle.vlog_write.proofs.text.put_netlist.Goals as goal

pub returns : goal.returns
returns c =
    let old = c.args.text.now.items in
    let net = c.args.net.now in
    let a = module_line net in
    let b = a ++ input_lines net in
    let d = b ++ output_lines net in
    let e = d ++ reg_lines net in
    let f = e ++ wire_lines net in
    let g = f ++ gate_lines net in
    let t1 = c.put_module_line.new.text.items in
    let t2 = c.put_input_lines.new.text.items in
    let t3 = c.put_output_lines.new.text.items in
    let t4 = c.put_reg_lines.new.text.items in
    let t5 = c.put_wire_lines.new.text.items in
    let t6 = c.put_gate_lines.new.text.items in
    let t7 = c.put_always_lines.new.text.items in
    let s2 = more old t1 t2 a (input_lines net) c.in_ok-put_module_line.ensures c.in_ok-put_input_lines.ensures in
    let s3 = more old t2 t3 b (output_lines net) s2 c.in_ok-put_output_lines.ensures in
    let s4 = more old t3 t4 d (reg_lines net) s3 c.in_ok-put_reg_lines.ensures in
    let s5 = more old t4 t5 e (wire_lines net) s4 c.in_ok-put_wire_lines.ensures in
    let s6 = more old t5 t6 f (gate_lines net) s5 c.in_ok-put_gate_lines.ensures in
    let s7 = more old t6 t7 g (always_lines net) s6 c.in_ok-put_always_lines.ensures in
    then c.put.result old t7 c.put.new.text.items (g ++ always_lines net) (codes "endmodule\n") s7 c.put.ensures.ok
