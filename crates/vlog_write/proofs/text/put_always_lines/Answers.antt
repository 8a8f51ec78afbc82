use Rattle.std.proofs.Common.{◌∙◌, false, arith}
use Rattle.net_core.specs.declared.gate.Wire.TheVariants.{Const}
use Rattle.vlog_text.specs.Emitted.{always_line}
use Rattle.vlog_write.proofs.Putting.{numbered_more}
use Rattle.vlog_write.proofs.text.put_always_lines.Goals as goal

pub loop-reg-preserved : goal.loop-reg-preserved
loop-reg-preserved c =
    numbered_more (always_line c.args.net.now) c.registers-wire-items.result.now c.args.net.now.registers
    c.loop-reg.text.items
    c.put_always_line.new.text.items c.loop-reg.reg (Const false) c.registers-wire-items.ensures
    (omega arith) c.in_ok-put_always_line.ensures
    ∙ c.loop-reg.invariant
