use Rattle.std.proofs.Common.{arith, ◌∙◌}
use Rattle.vlog_text.specs.declared.raw.RawName.{RawName}
use Rattle.vlog_names.specs.Numbers.{names_output}
use Rattle.vlog_elaborate.specs.inner.Parts.{output_at}
use Rattle.vlog_elaborate.proofs.Picking.{picked_more, picked_all}
use Rattle.vlog_elaborate.proofs.ports.outputs.Goals as goal

pub loop-name-preserved : goal.loop-name-preserved
loop-name-preserved c =
    picked_more (λ (n : RawName). names_output c.args.numbers.now n.word)
    (output_at c.args.numbers.now c.args.places.now) c.args.ports.now c.loop-name.name-index c.name-item.result
    c.loop-name.outputs c.add_output.new.outputs (omega arith) c.name-item.is c.loop-name.invariant
    c.in_ok-add_output.ensures

pub returns : goal.returns
returns c =
    c.loop-name.invariant
    ∙ picked_all (λ (n : RawName). names_output c.args.numbers.now n.word)
    (output_at c.args.numbers.now c.args.places.now) c.args.ports.now c.loop-name.name-index (omega arith)
