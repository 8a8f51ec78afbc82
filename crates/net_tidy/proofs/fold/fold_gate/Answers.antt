use Rattle.std.proofs.Common.{map, ap, ◌∙◌}
use Rattle.net_tidy.specs.inner.Images.{image}
use Rattle.net_tidy.proofs.Folding.{built_back, has_images, makes_back}
use Rattle.net_tidy.proofs.fold.fold_gate.Goals as goal

pub add-requires : goal.add-requires
add-requires c =
    has_images c.args.stands.now c.args.gate.now.pins c.in_ok-pins.pins c.args.gate.now.kind
    (c.in_ok-pins.ensures ∙ ap (map (image c.args.stands.now)) c.as_slice.ensures) c.requires

pub returns-clause-built : goal.returns-clause-built
returns-clause-built c =
    built_back c.add.result c.args.pool.now c.add.new.self c.args.stands.now c.in_ok-pins.pins c.args.gate.now
    (c.in_ok-pins.ensures ∙ ap (map (image c.args.stands.now)) c.as_slice.ensures) c.add.ensures.built

pub returns-clause-makes : goal.returns-clause-makes
returns-clause-makes c =
    makes_back c.add.result c.args.pool.now c.add.new.self c.args.stands.now c.in_ok-pins.pins c.args.gate.now
    (c.in_ok-pins.ensures ∙ ap (map (image c.args.stands.now)) c.as_slice.ensures) c.add.ensures.makes
