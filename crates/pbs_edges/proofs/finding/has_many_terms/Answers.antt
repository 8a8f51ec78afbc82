use Rattle.pbs_ast.specs.Trees.{tree_of}
use Rattle.pbs_edges.proofs.FewTerms.{few_or_many}
use Rattle.pbs_edges.proofs.finding.has_many_terms.Goals as goal

pub returns : goal.returns
returns c = few_or_many (tree_of c.args.main.now.tree) c.in_ok-table.table c.len.result c.in_ok-table.ensures
    c.len.ensures.count
