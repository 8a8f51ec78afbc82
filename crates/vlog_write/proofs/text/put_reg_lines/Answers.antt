use Rattle.std.proofs.Common.{◌∙◌, codes, false, arith}
use Rattle.net_core.specs.declared.gate.Wire.{Wire}
use Rattle.net_core.specs.declared.gate.Wire.TheVariants.{Const}
use Rattle.vlog_text.specs.Emitted.{declared, reg_name}
use Rattle.vlog_write.proofs.Putting.{numbered_more}
use Rattle.vlog_write.proofs.text.put_reg_lines.Goals as goal

pub loop-reg-preserved : goal.loop-reg-preserved
loop-reg-preserved c =
    numbered_more (λ n (w : Wire). declared (codes "reg") (reg_name n)) c.registers-items.result.now
    c.args.net.now.registers c.loop-reg.text.items c.put_reg_line.new.text.items c.loop-reg.reg (Const false)
    c.registers-items.ensures (omega arith) c.in_ok-put_reg_line.ensures
    ∙ c.loop-reg.invariant
