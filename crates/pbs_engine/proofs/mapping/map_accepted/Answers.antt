use Rattle.pbs_ast.specs.Bare.{bare}
use Rattle.pbs_engine.proofs.MapLemmas.{mapped, not_mapped}
use Rattle.pbs_engine.proofs.mapping.map_accepted.Goals as goal

pub returns-in-Err : goal.returns-in-Err
returns-in-Err c =
    not_mapped c.args.text.now c.args.out.now.items (bare c.args.accepted.now.spec) c.in-Err.fail c.in-Err.ensures

pub returns-in-Ok-write_map : goal.returns-in-Ok-write_map
returns-in-Ok-write_map c =
    mapped c.args.text.now c.args.out.now.items c.write_map.new.out.items c.args.accepted.now c.in-Ok.made c.requires
    c.in-Ok.ensures c.in-Ok-write_map.ensures.ok
