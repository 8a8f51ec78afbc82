use Rattle.std.proofs.Common.{◌≡◌, ◌++◌, ◌∙◌, ap, arith, length}
use Rattle.pbs_ast.specs.Trees.{Tree, tree_of}
use Rattle.pbs_overlap.specs.Ranges.{leaves}
use Rattle.pbs_overlap.proofs.Plans.{few_ranges, few_leaves, froms_rise, edge_places, is_plan}
use Rattle.pbs_overlap.proofs.planning.make_plan.Goals as goal

pub steps_of-requires-clause-few : goal.steps_of-requires-clause-few
steps_of-requires-clause-few c =
    let main : Tree = tree_of c.args.main.now.tree in
    let few = few_ranges main (c.args.main.now.sound).counted in omega (arith, ap length c.requires.ranges)

pub steps_of-requires-clause-places : goal.steps_of-requires-clause-places
steps_of-requires-clause-places c =
    let main : Tree = tree_of c.args.main.now.tree in
    let numbers : c.deref.result.now ≡ leaves main =
    c.deref.ensures.value ∙ (c.in_ok-push_leaves.ensures ∙ ap (λ xs. xs ++ leaves main) c.new-leaves.ensures.items) in
    rw (numbers, c.as_slice-follows.ensures)
    (edge_places main c.args.edges.now (c.args.main.now.sound).counted c.requires.edges)

pub firsts_of-requires-clause-few : goal.firsts_of-requires-clause-few
firsts_of-requires-clause-few c =
    let main : Tree = tree_of c.args.main.now.tree in
    let numbers : c.deref.result.now ≡ leaves main =
    c.deref.ensures.value ∙ (c.in_ok-push_leaves.ensures ∙ ap (λ xs. xs ++ leaves main) c.new-leaves.ensures.items) in
    let few = few_leaves main (c.args.main.now.sound).counted in
    omega (arith, ap length numbers, c.deref.ensures.len, c.len-places.ensures)

pub firsts_of-requires-clause-rise : goal.firsts_of-requires-clause-rise
firsts_of-requires-clause-rise c =
    rw c.as_slice-follows.ensures (froms_rise c.args.edges.now.follows (c.requires.edges).follows_rise)

pub returns : goal.returns
returns c =
    let main : Tree = tree_of c.args.main.now.tree in
    let numbers : c.deref.result.now ≡ leaves main =
    c.deref.ensures.value ∙ (c.in_ok-push_leaves.ensures ∙ ap (λ xs. xs ++ leaves main) c.new-leaves.ensures.items) in
    let places : c.len-places.result ≡ length c.deref.result.now = omega
    (arith, c.deref.ensures.len, c.len-places.ensures) in
    is_plan main c.args.edges.now c.deref.result.now c.args.scopes.now _
    (c.args.main.now.sound).counted c.requires.edges
    numbers c.requires.ranges places (rw c.as_slice-follows.ensures at c.in_ok-steps.ensures)
    (rw c.as_slice-follows.ensures at c.in_ok-firsts.ensures) c.in_ok-terms.ensures
