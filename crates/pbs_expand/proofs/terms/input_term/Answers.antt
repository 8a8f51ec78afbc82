use Rattle.std.proofs.Common.{arith}
use Rattle.pbs_names.specs.Naming.{input_names}
use Rattle.pbs_names.proofs.NameLemmas.{number_below}
use Rattle.pbs_expand.proofs.terms.input_term.Goals as goal

pub overflow_cast-result : goal.overflow_cast-result
overflow_cast-result c =
    let below = number_below (input_names c.args.inputs.now) c.args.index.now c.args.name.now c.find.result
    c.in-Some.number 64 c.requires.index c.find.ensures c.in-Some.is c.requires.few in
    omega (arith, below)
