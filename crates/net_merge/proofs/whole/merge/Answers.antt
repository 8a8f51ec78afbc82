use Rattle.std.proofs.Common.{◌≡◌, ◌∙◌, ap, subst, length, List, ℕ}
use Rattle.net_core.specs.declared.gate.Wire.{Wire}
use Rattle.net_merge.specs.inner.Firsts.{AreFirsts}
use Rattle.net_merge.proofs.Merging.{data_read_below, data_take_below, gates_read_below, made_circuit, made_merges}
use Rattle.net_merge.proofs.whole.merge.Goals as goal

pub find_firsts-requires-clause-gates : goal.find_firsts-requires-clause-gates
find_firsts-requires-clause-gates c =
    rw (c.gates-2.ensures.gates, c.registers.ensures) (data_take_below c.args.net.now c.gates.ensures.right)

pub first_gates-requires : goal.first_gates-requires
first_gates-requires c =
    let net = c.args.net.now in
    let firsts = c.in_ok-firsts.ensures in
    let long : length c.as_slice.result.now ≡ length net.registers =
    ap (λ (l : List ℕ). length l) c.as_slice.ensures.value ∙ firsts.long ∙ ap (λ (l : List Wire). length l) c.registers.ensures in
    rw (long, c.gates-3.ensures.gates) (gates_read_below net c.gates.ensures.right)

pub first_wires-requires : goal.first_wires-requires
first_wires-requires c =
    let net = c.args.net.now in
    let firsts = c.in_ok-firsts.ensures in
    let long : length c.as_slice-2.result.now ≡ length net.registers =
    ap (λ (l : List ℕ). length l) c.as_slice-2.ensures.value ∙ firsts.long ∙ ap (λ (l : List Wire). length l) c.registers.ensures in
    rw (long, c.registers-2.ensures) (data_read_below net c.gates.ensures.right)

pub from_parts-requires : goal.from_parts-requires
from_parts-requires c =
    let net = c.args.net.now in
    let firsts = c.in_ok-firsts.firsts.items in
    let are : AreFirsts net.registers firsts =
    subst (λ ws. AreFirsts ws firsts) c.registers.ensures c.in_ok-firsts.ensures in
    rw (
      c.in_ok-inputs.ensures,
      c.inputs.ensures,
      c.in_ok-gates.ensures,
      c.as_slice.ensures.value,
      c.gates-3.ensures.gates,
      c.in_ok-registers.ensures,
      c.as_slice-2.ensures.value,
      c.registers-2.ensures,
      c.in_ok-outputs.ensures,
      c.outputs.ensures,
    ) (made_circuit net c.gates.ensures.right firsts are)

pub returns : goal.returns
returns c =
    let net = c.args.net.now in
    let firsts = c.in_ok-firsts.firsts.items in
    let are : AreFirsts net.registers firsts =
    subst (λ ws. AreFirsts ws firsts) c.registers.ensures c.in_ok-firsts.ensures in
    rw (
      c.from_parts.ensures,
      c.in_ok-inputs.ensures,
      c.inputs.ensures,
      c.in_ok-gates.ensures,
      c.as_slice.ensures.value,
      c.gates-3.ensures.gates,
      c.in_ok-registers.ensures,
      c.as_slice-2.ensures.value,
      c.registers-2.ensures,
      c.in_ok-outputs.ensures,
      c.outputs.ensures,
    ) (made_merges net c.gates.ensures.right firsts are)
