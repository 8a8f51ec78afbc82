use Rattle.std.proofs.Common.{sym, ◌∙◌}
use Rattle.pbs_ast.specs.Trees.{is_place, is_action}
use Rattle.pbs_derive.proofs.Shapes.{well_formed, places_once}
use Rattle.pbs_derive.proofs.Reached.{stands_reached, fires_reached}
use Rattle.pbs_machine.proofs.Resets.{reset_row, vector_row}
use Rattle.pbs_machine.proofs.one_row_is_right.Goals as goal

pub returns-clause-reset_places : goal.returns-clause-reset_places
returns-clause-reset_places c = λ main v old x p sound.
    reset_row main (is_place p) v old x (well_formed main sound.proper.scopes)
    (places_once main 0 sound.counted.places_numbered) ∙ sym (stands_reached main v 0 0 p)

pub returns-clause-reset_actions : goal.returns-clause-reset_actions
returns-clause-reset_actions c = λ main v old x a sound.
    let good = well_formed main sound.proper.scopes in
    reset_row main (is_action a) v old x good (places_once main 0 sound.counted.places_numbered)
    ∙ sym (fires_reached main v 0 0 a good)

pub returns-clause-places : goal.returns-clause-places
returns-clause-places c = λ main v k p sound none.
    vector_row main (is_place p) v k (well_formed main sound.proper.scopes)
    (places_once main 0 sound.counted.places_numbered) none ∙ sym (stands_reached main v 0 _ p)

pub returns-clause-actions : goal.returns-clause-actions
returns-clause-actions c = λ main v k a sound none.
    let good = well_formed main sound.proper.scopes in
    vector_row main (is_action a) v k good (places_once main 0 sound.counted.places_numbered) none
    ∙ sym (fires_reached main v 0 _ a good)
