use Rattle.std.proofs.Common.{◌≡◌, ◌∷◌, [], ◌++◌, Ok, ap, inl, inr}
use Rattle.std.proofs.lemmas.Bool.{cases_Bool}
use Rattle.pbs_edges.proofs.Tables.{all_mean-push}
use Rattle.pbs_edges.proofs.terms.add_term.Goals as goal

pub returns-clause-table : goal.returns-clause-table
returns-clause-table c =
    let added : c.add.new.self ≡ c.args.table.now.codes ++ c.args.word ∷ [] = elim (cases_Bool c.in_ok-add.field-0) [
      | inl is_new ↦ c.in_ok-add.ensures.added (ap Ok is_new)
      | inr old ↦ absurd (c.requires.new (c.in_ok-add.ensures.there (ap Ok old)))
    ] in
    rw (added, c.in_ok-push.ensures.ok) (all_mean-push c.args.table.now.codes c.args.table.now.terms c.args.word
    c.args.term c.requires.table c.requires.word)
