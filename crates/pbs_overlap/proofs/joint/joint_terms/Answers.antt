use Rattle.std.proofs.Common.{refl, rules, sym, ap, arith, length, subst}
use Rattle.pbs_ast.specs.Trees.{tree_of}
use Rattle.pbs_overlap.specs.inner.Joints.{AllInputsBelow}
use Rattle.pbs_overlap.proofs.JointLemmas.{inputs_below, few_codes, few_nodes, all_nodes, tells_joint}
use Rattle.pbs_overlap.proofs.joint.joint_terms.Goals as goal

pub nodes_of-requires : goal.nodes_of-requires
nodes_of-requires c =
    let t = c.in_ok-terms.field-0 in
    record {
      inputs = subst (λ ts. AllInputsBelow ts) (sym c.as_slice.ensures)
          (inputs_below t.codes t.terms (c.in_ok-terms.ensures).mean);
    }

pub joint_table-requires-clause-few : goal.joint_table-requires-clause-few
joint_table-requires-clause-few c =
    let few = few_nodes (tree_of c.args.main.now.tree) c.in_ok-terms.field-0 c.in_ok-nodes.nodes.items
    c.nodes_of.new.store c.in_ok-terms.ensures c.requires
    (rw c.as_slice.ensures at c.in_ok-nodes.ensures.nodes) in
    omega (arith, few, ap length c.deref.ensures.value)

pub joint_table-requires-clause-there : goal.joint_table-requires-clause-there
joint_table-requires-clause-there c =
    rw c.deref.ensures.value
    (all_nodes c.nodes_of.new.store c.as_slice.result.now c.in_ok-nodes.nodes.items c.in_ok-nodes.ensures.nodes)

pub returns : goal.returns
returns c =
    let main = tree_of c.args.main.now.tree in
    let t = c.in_ok-terms.field-0 in
    tells_joint main (c.args.main.now.sound).counted t c.nodes_of.new.store c.in_ok-nodes.nodes.items
    c.in_ok-joint.joint.items c.in_ok-terms.ensures (few_codes main t c.in_ok-terms.ensures c.requires)
    (rw c.as_slice.ensures at c.in_ok-nodes.ensures.nodes)
    (rw c.deref.ensures.value at c.in_ok-joint.ensures.told) _ refl (search rules) refl
    (rw c.deref.ensures.value at c.in_ok-joint.ensures.size)
