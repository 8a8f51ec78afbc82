use Rattle.std.proofs.Common.{arith, ◌∙◌}
use Rattle.vlog_text.specs.declared.raw.RawName.{RawName}
use Rattle.vlog_names.specs.Numbers.{names_input}
use Rattle.vlog_elaborate.proofs.Picking.{picked_more, picked_all}
use Rattle.vlog_elaborate.proofs.Different.{is_new}
use Rattle.vlog_elaborate.proofs.ports.input_names.Goals as goal

pub add_input-requires : goal.add_input-requires
add_input-requires c =
    is_new (λ (n : RawName). names_input c.args.numbers.now n.word) c.args.ports.now
    c.loop-name.name-index c.name-item.result c.loop-name.names c.requires (omega arith) c.name-item.is
    c.loop-name.invariant

pub loop-name-preserved : goal.loop-name-preserved
loop-name-preserved c =
    picked_more (λ (n : RawName). names_input c.args.numbers.now n.word) (λ (n : RawName). n.word)
    c.args.ports.now c.loop-name.name-index c.name-item.result c.loop-name.names c.add_input.new.names (omega arith)
    c.name-item.is c.loop-name.invariant c.in_ok-add_input.ensures

pub returns : goal.returns
returns c =
    c.loop-name.invariant
    ∙ picked_all (λ (n : RawName). names_input c.args.numbers.now n.word) (λ (n : RawName). n.word)
    c.args.ports.now c.loop-name.name-index (omega arith)
