use Rattle.std.proofs.Common.{◌≡◌, ◌≤◌, ◌∙◌, ◌++◌, ap, arith, length}
use Rattle.pbs_ast.specs.Trees.{Tree, tree_of}
use Rattle.pbs_edges.specs.Listed.{first_places, follow_edges}
use Rattle.pbs_edges.proofs.Sorted.{are_edges}
use Rattle.pbs_edges.proofs.finding.edges.Goals as goal

pub returns-clause-found : goal.returns-clause-found
returns-clause-found c =
    let main : Tree = tree_of c.args.main.now.tree in
    let starts : c.in_ok-listed_places.field-0 ≡ first_places main =
    c.in_ok-listed_places.ensures ∙ (c.deref.ensures.value ∙ (c.in_ok-ends.ensures.ends).firsts) in
    let sorted : c.in_ok-listed_edges.field-0 ≡ c.sort_unstable.new.self.items =
    c.in_ok-listed_edges.ensures ∙ c.deref-2.ensures.value in
    let listed : c.list_all.new.out.items ≡ follow_edges main =
    c.in_ok-ends.ensures.follows ∙ ap (λ xs. xs ++ follow_edges main) c.new-follows.ensures.items in
    let few : length (follow_edges main) ≤ 16384 = omega (arith, c.count_all.ensures.follows) in
    are_edges main _ c.list_all.new.out.items (c.args.main.now.sound).counted starts listed
    (rw sorted c.sort_unstable.ensures.permutation) (rw sorted c.sort_unstable.ensures.sorted) few
    (rw c.if-branch.false at c.in_ok-has_many_terms.ensures)
