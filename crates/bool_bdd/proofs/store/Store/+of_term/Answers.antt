use Rattle.bool_bdd.proofs.Meaning.{holds_leaf}
use Rattle.bool_bdd.proofs.store.Store.+of_term.Goals as goal

pub returns-in-Const-clause-stands : goal.returns-in-Const-clause-stands
returns-in-Const-clause-stands t c = record {
  there = tt;
  meaning = λ v. rw c.in-Const.is (holds_leaf c.args.self.now c.in-Const.value v);
}
