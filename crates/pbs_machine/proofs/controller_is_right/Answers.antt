use Rattle.std.proofs.Common.{arith}
use Rattle.pbs_derive.proofs.Shapes.{well_formed, places_once, place_range}
use Rattle.pbs_machine.proofs.Resets.{rows_stand, rows_fire}
use Rattle.pbs_machine.proofs.controller_is_right.Goals as goal

pub returns-clause-registers : goal.returns-clause-registers
returns-clause-registers c = λ main v old reset input sound run.
    rows_stand main (well_formed main sound.proper.scopes) (places_once main 0 sound.counted.places_numbered)
    (λ p h. let r = place_range main 0 p sound.counted.places_numbered h in omega (arith, r.1)) v old reset input run

pub returns-clause-fire_bits : goal.returns-clause-fire_bits
returns-clause-fire_bits c = λ main v old reset input sound run.
    rows_fire main (well_formed main sound.proper.scopes) (places_once main 0 sound.counted.places_numbered)
    (λ p h. let r = place_range main 0 p sound.counted.places_numbered h in omega (arith, r.1)) v old reset input run

pub returns-clause-whole : goal.returns-clause-whole
returns-clause-whole c = λ main v none t lt. none t (omega arith)
