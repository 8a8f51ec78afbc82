use Rattle.std.proofs.Common.{Err}
use Rattle.pbs_ast.specs.Trees.{tree_of}
use Rattle.pbs_overlap.specs.Rules.{ChecksTree}
use Rattle.pbs_overlap.specs.declared.fail.TreeFail.TheVariants as tree
use Rattle.pbs_engine.proofs.FrontLemmas.{IsExpanded, is_accepted, tree_refused}
use Rattle.pbs_engine.proofs.front.check_expanded.Goals as goal

pub returns-in-Ok : goal.returns-in-Ok
returns-in-Ok c =
    is_accepted c.args.text.now (record { spec = c.args.spec; main = c.args.main }) (record {
      read = c.requires.read;
      unbroken = c.requires.unbroken;
      within = c.requires.within;
      tree = c.requires.tree;
      names = c.requires.names;
    })
    c.in-Ok.ensures

pub returns-in-Err-Refused : goal.returns-in-Err-Refused
returns-in-Err-Refused c =
    let refuses : ChecksTree (tree_of c.args.main.tree) c.args.spec.main.span
    (Err (tree.Refused c.in-Err-Refused.refusal)) =
    rw c.in-Err-Refused.field-0-is at c.in-Err-Refused.ensures in
    tree_refused c.args.text.now (record { spec = c.args.spec; main = c.args.main }) c.in-Err-Refused.refusal
    (record {
      read = c.requires.read;
      unbroken = c.requires.unbroken;
      within = c.requires.within;
      tree = c.requires.tree;
      names = c.requires.names;
    })
    refuses
