use Rattle.std.proofs.Common.{◌∙◌, ap, codes, Some}
use Rattle.vlog_text.specs.Emitted.{declared}
use Rattle.vlog_write.proofs.Putting.{item_more}
use Rattle.vlog_write.proofs.text.put_declared_inputs.Goals as goal

pub loop-n-preserved : goal.loop-n-preserved
loop-n-preserved c =
    item_more (declared (codes "input")) c.args.inputs.now c.loop-n.text.items c.put_declared.new.text.items c.loop-n.n
    c.bytes.result.now (ap Some c.bytes.ensures ∙ c.in-Some.ensures.value) c.in_ok-put_declared.ensures
    ∙ c.loop-n.invariant
