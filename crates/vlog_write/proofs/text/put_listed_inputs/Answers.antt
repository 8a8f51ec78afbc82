use Rattle.std.proofs.Common.{◌∙◌, ap, Some}
use Rattle.vlog_text.specs.Emitted.{listed}
use Rattle.vlog_write.proofs.Putting.{item_more}
use Rattle.vlog_write.proofs.text.put_listed_inputs.Goals as goal

pub loop-n-preserved : goal.loop-n-preserved
loop-n-preserved c =
    item_more listed c.args.inputs.now c.loop-n.text.items c.put_listed.new.text.items c.loop-n.n c.bytes.result.now
    (ap Some c.bytes.ensures ∙ c.in-Some.ensures.value) c.in_ok-put_listed.ensures ∙ c.loop-n.invariant
