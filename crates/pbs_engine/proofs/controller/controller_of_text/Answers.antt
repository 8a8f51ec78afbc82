use Rattle.pbs_ast.specs.Bare.{bare}
use Rattle.pbs_engine.proofs.ControllerLemmas.{made_of, not_accepted}
use Rattle.pbs_engine.proofs.controller.controller_of_text.Goals as goal

pub returns-in-Ok : goal.returns-in-Ok
returns-in-Ok c =
    made_of c.args.text.now (bare c.in-Ok.accepted.spec) c.controller_of_accepted.result
    c.controller_of_accepted.ensures

pub returns-in-Err : goal.returns-in-Err
returns-in-Err c = not_accepted c.args.text.now c.in-Err.fail c.in-Err.ensures
