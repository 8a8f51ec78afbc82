use Rattle.std.proofs.Common.{◌+◌, ◌*◌, ◌∙◌, ap, sym, subst, length, List, ℕ, take, map, [], arith}
use Rattle.std.specs.Prelude.{slice_get}
use Rattle.net_core.specs.declared.netlist.Output.{Output}
use Rattle.net_core.specs.Circuits.{Circuit, circuit_of}
use Rattle.net_core.specs.Building.{input_pins}
use Rattle.net_encode.specs.inner.Drafts.{Grows, unbound}
use Rattle.net_encode.specs.inner.Moves.{output_moved}
use Rattle.net_encode.specs.inner.Sharing.{AreGroups, member_count}
use Rattle.net_encode.specs.inner.Stages.{IsTable, IsData}
use Rattle.net_encode.proofs.Encoded.{Made, encodes, data_there, output_low, outputs_there}
use Rattle.net_encode.proofs.TellingLemmas.{codes_few}
use Rattle.net_encode.proofs.Wholes.{groups_right}
use Rattle.net_encode.proofs.whole.encoded.Goals as goal

pub add_table-requires-clause-codes : goal.add_table-requires-clause-codes
add_table-requires-clause-codes c =
    codes_few c.args.plan.now (length c.args.codes.now) c.args.shared c.args.codes.now c.requires.codes
    c.requires.shared

pub add_data-requires-clause-there : goal.add_data-requires-clause-there
add_data-requires-clause-there c =
    let old = c.args.net.now in
    let d1 = c.add_table.new.draft in
    let table = c.as_slice.result.now in
    let is : IsTable d1 c.args.codes.now c.args.shared c.args.rest table =
    subst (IsTable d1 c.args.codes.now c.args.shared c.args.rest) (sym c.as_slice.ensures)
    c.in_ok-table.ensures.table in
    data_there old d1 c.add_copies.new.draft table c.as_slice-2.result.now c.requires.right is.there
    (omega (arith, is.count, c.requires.rest))
    (c.in_ok-table.ensures.grows.extends.inputs ∙ ap (λ (d : Circuit). d.inputs) c.in_ok-draft.ensures
    ∙ c.in_ok-copy.ensures ∙ c.inputs.ensures)
    c.in_ok-others.ensures.copies (c.as_slice-2.ensures ∙ c.in_ok-others.ensures.wires)

pub add_data-requires-clause-groups : goal.add_data-requires-clause-groups
add_data-requires-clause-groups c =
    subst (AreGroups (length c.args.codes.now)) (sym c.as_slice-3.ensures)
    (groups_right (length c.args.codes.now) c.args.plan.now c.requires.plan)

pub moved_outputs-requires-clause-there : goal.moved_outputs-requires-clause-there
moved_outputs-requires-clause-there c = λ n o at.
    let low = output_low c.args.net.now c.add_table.new.draft c.add_copies.new.draft c.add_data.new.draft
    c.as_slice.result.now _ _ c.requires.right c.in_ok-others.ensures.copies c.in_ok-regs.ensures.grows n o
    (ap (λ (l : List Output). slice_get l n) (sym c.outputs.ensures) ∙ at) in
    omega (arith, low, c.gates-offset.ensures.count, c.gates.ensures.count)

pub finish-requires-clause-outputs : goal.finish-requires-clause-outputs
finish-requires-clause-outputs c =
    let d1 = c.add_table.new.draft in
    outputs_there c.args.net.now d1 c.add_copies.new.draft c.add_data.new.draft c.as_slice.result.now _ _
    c.in_ok-outputs.outputs c.requires.right c.in_ok-others.ensures.copies c.in_ok-regs.ensures.grows
    (c.in_ok-outputs.ensures ∙ ap (λ (l : List Output). map (output_moved c.gates-offset.result) l) c.outputs.ensures
    ∙ ap (λ n. map (output_moved n) c.args.net.now.outputs) c.gates-offset.ensures.count)

pub returns : goal.returns
returns c =
    let old = c.args.net.now in
    let plan = c.args.plan.now in
    let codes = c.args.codes.now in
    let shared = c.args.shared in
    let rest = c.args.rest in
    let d0 = c.in_ok-draft.draft in
    let d1 = c.add_table.new.draft in
    let d2 = c.add_copies.new.draft in
    let d3 = c.add_data.new.draft in
    let table = c.as_slice.result.now in
    let others = c.as_slice-2.result.now in
    let regs = c.in_ok-regs.regs in
    let outputs = c.in_ok-outputs.outputs in
    let made : Made old plan codes shared rest d0 d1 d2 d3 table others regs outputs = record {
      right = c.requires.right;
      plan_right = c.requires.plan;
      telling = c.requires.codes;
      shared_is = c.requires.shared;
      rest_is = c.requires.rest;
      begun =
          c.in_ok-draft.ensures
          ∙ ap (λ (l : List (List ℕ)). circuit_of l [] (unbound (shared + rest)) [])
          (c.in_ok-copy.ensures ∙ c.inputs.ensures);
      tabled = c.in_ok-table.ensures.grows;
      table_is = subst (IsTable d1 codes shared rest) (sym c.as_slice.ensures) c.in_ok-table.ensures.table;
      copied = c.in_ok-others.ensures.copies;
      others_are = c.as_slice-2.ensures ∙ c.in_ok-others.ensures.wires;
      added =
          subst (λ (gs : List (List ℕ)). Grows d2 d3 (length codes + 3 * member_count gs)
          (input_pins (take (length codes) others))) c.as_slice-3.ensures c.in_ok-regs.ensures.grows;
      regs_are =
          subst (λ (gs : List (List ℕ)). IsData d3 others (length codes) gs regs) c.as_slice-3.ensures
          c.in_ok-regs.ensures.regs;
      shown =
          c.in_ok-outputs.ensures
          ∙ ap (λ (l : List Output). map (output_moved c.gates-offset.result) l) c.outputs.ensures
          ∙ ap (λ n. map (output_moved n) old.outputs) c.gates-offset.ensures.count;
      table_right = c.gates-offset.ensures.right;
      unread = c.in_ok-regs.ensures.unread;
    } in
    encodes old plan codes shared rest d0 d1 d2 d3 table others regs outputs made c.finish.result
    c.finish.ensures.netlist c.finish.ensures.right
