use Rattle.std.proofs.Common.{◌≡◌, ◌++◌, codes, subst}
use Rattle.std.specs.Prelude.{OnOk}
use Rattle.std.specs.List.{flat_map}
use Rattle.vlog_text.specs.Emitted.{declared}
use Rattle.vlog_write.proofs.Putting.{then}
use Rattle.vlog_write.proofs.text.put_input_lines.Goals as goal

pub returns : goal.returns
returns c =
    let r = c.put_declared_inputs.result in
    let old = c.args.text.now.items in
    let new = c.put_declared_inputs.new.text.items in
    let front = codes "input clk;\ninput rst;\n" in
    subst (λ xs. OnOk r (new ≡ old ++ (front ++ flat_map (declared (codes "input")) xs))) c.inputs.ensures
    (then r old c.put.new.text.items new front (flat_map (declared (codes "input")) c.inputs.result.now)
    c.in_ok-put.ensures.ok c.put_declared_inputs.ensures)
