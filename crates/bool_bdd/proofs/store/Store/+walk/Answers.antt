use Rattle.std.proofs.Common.{true, false, sym, ◌∙◌}
use Rattle.std.proofs.lemmas.Result.{IfOk-weaker, on_ok_weaker}
use Rattle.std.specs.HashSet.{contains}
use Rattle.bool_bdd.specs.Members.{pair_eq}
use Rattle.bool_bdd.proofs.Disjoint.{settled_right, whole_disjoint, half_refutes, noted}
use Rattle.bool_bdd.proofs.store.Store.+walk.Goals as goal

pub returns-in-Some-clause-exact : goal.returns-in-Some-clause-exact
returns-in-Some-clause-exact t c =
    settled_right c.args.self.now c.args.pair.left c.args.pair.right c.in-Some.answer
    (sym c.settled.ensures ∙ c.in-Some.is)

pub returns-in-Ok-true-walk-clause-apart : goal.returns-in-Ok-true-walk-clause-apart
returns-in-Ok-true-walk-clause-apart t c =
    let low = c.in-Ok-true.ensures.exact.0 c.in-Ok-true.field-0-test in
    let high = c.in-Ok-true-walk.ensures.exact.0 c.in-Ok-true-walk.field-0-test in
    let apart =
    whole_disjoint c.args.self.now c.first_of_pair-variable.result c.args.pair _ _
    c.first_of_pair-variable.ensures.diagram c.requires.pair
    c.halves.ensures.value c.halves-in-Ok-true.ensures.value low high in
    let has = contains pair_eq c.note.new.apart in
    let more = noted c.args.self.now _ has c.args.pair c.in-Ok-true-walk.ensures.apart apart in
    on_ok_weaker c.note.result more c.note.ensures.noted

pub returns-in-Ok-true-walk-clause-exact : goal.returns-in-Ok-true-walk-clause-exact
returns-in-Ok-true-walk-clause-exact t c =
    let low = c.in-Ok-true.ensures.exact.0 c.in-Ok-true.field-0-test in
    let high = c.in-Ok-true-walk.ensures.exact.0 c.in-Ok-true-walk.field-0-test in
    let apart =
    whole_disjoint c.args.self.now c.first_of_pair-variable.result c.args.pair _ _
    c.first_of_pair-variable.ensures.diagram c.requires.pair
    c.halves.ensures.value c.halves-in-Ok-true.ensures.value low high in
    IfOk-weaker c.note.result _ _ (λ answer is. (λ _. apart, λ _. is)) c.note.ensures.answer

pub returns-in-Ok-false-walk-clause-exact : goal.returns-in-Ok-false-walk-clause-exact
returns-in-Ok-false-walk-clause-exact t c =
    half_refutes c.args.self.now c.first_of_pair-variable.result true c.args.pair c.halves-in-Ok-true.result
    c.in-Ok-false-walk.field-0
    c.first_of_pair-variable.ensures.diagram c.requires.pair c.halves-in-Ok-true.ensures.value
    c.halves-in-Ok-true.ensures.pair
    c.halves-in-Ok-true.ensures.later c.in-Ok-false-walk.ensures.exact c.in-Ok-false-walk.field-0-test

pub returns-in-Ok-false-clause-exact : goal.returns-in-Ok-false-clause-exact
returns-in-Ok-false-clause-exact t c =
    half_refutes c.args.self.now c.first_of_pair-variable.result false c.args.pair c.halves.result c.in-Ok-false.field-0
    c.first_of_pair-variable.ensures.diagram c.requires.pair c.halves.ensures.value c.halves.ensures.pair
    c.halves.ensures.later c.in-Ok-false.ensures.exact c.in-Ok-false.field-0-test
