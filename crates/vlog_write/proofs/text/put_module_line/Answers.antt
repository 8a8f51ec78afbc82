use Rattle.std.proofs.Common.{◌++◌, ◌∙◌, ap, map, codes}
use Rattle.std.specs.List.{flat_map}
use Rattle.net_core.specs.declared.netlist.Output.{Output}
use Rattle.vlog_text.specs.Emitted.{listed}
use Rattle.net_core.specs.Circuits.{output_names}
use Rattle.vlog_write.proofs.Putting.{more, then}
use Rattle.vlog_write.proofs.text.put_module_line.Goals as goal

pub returns : goal.returns
returns c =
    let old = c.args.text.now.items in
    let net = c.args.net.now in
    let front = codes "module pbs (clk, rst" in
    let first = c.put.new.text.items in
    let second = c.put_listed_inputs.new.text.items in
    let third = c.put_listed_outputs.new.text.items in
    let inputs = flat_map listed net.inputs in
    let outputs = flat_map listed (output_names net) in
    then c.put-2.result old third c.put-2.new.text.items (front ++ inputs ++ outputs) (codes ");\n")
    (more old second third (front ++ inputs) outputs
    (more old first second front inputs c.in_ok-put.ensures.ok
    (c.in_ok-put_listed_inputs.ensures ∙ ap (λ xs. first ++ flat_map listed xs) c.inputs.ensures))
    (c.in_ok-put_listed_outputs.ensures
    ∙ ap (λ xs. second ++ flat_map listed (map (λ (o : Output). o.name) xs)) c.outputs.ensures))
    c.put-2.ensures.ok
