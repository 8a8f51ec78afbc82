use Rattle.std.proofs.Common.{◌++◌, codes}
use Rattle.vlog_text.specs.Emitted.{operand_text, reg_name}
use Rattle.vlog_write.proofs.Putting.{more, then}
use Rattle.vlog_write.proofs.lines.put_always_line.Goals as goal

pub returns : goal.returns
returns c =
    let old = c.args.text.now.items in
    let front = codes "always @(posedge clk) " in
    let name = reg_name c.args.reg in
    let arrow = codes " <= " in
    let wire = operand_text c.args.net.now c.args.wire in
    then c.put-3.result old c.put_operand.new.text.items c.put-3.new.text.items (front ++ name ++ arrow ++ wire)
    (codes ";\n")
    (more old c.put-2.new.text.items c.put_operand.new.text.items (front ++ name ++ arrow) wire
    (more old c.put_reg_name.new.text.items c.put-2.new.text.items (front ++ name) arrow
    (more old c.put.new.text.items c.put_reg_name.new.text.items front name c.in_ok-put.ensures.ok
    c.in_ok-put_reg_name.ensures)
    c.in_ok-put-2.ensures.ok)
    c.in_ok-put_operand.ensures)
    c.put-3.ensures.ok
