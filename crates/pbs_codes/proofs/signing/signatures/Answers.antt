use Rattle.std.proofs.Common.{◌≡◌, ◌<◌, ◌∙◌, ◌++◌, ◌∷◌, [], ap, arith, get_or, length}
use Rattle.std.proofs.lemmas.List.Elements.{Contains-get_or}
use Rattle.pbs_edges.specs.declared.edge.Edge.{Edge}
use Rattle.pbs_edges.proofs.Listed.{numbers}
use Rattle.pbs_overlap.proofs.Plans.{any_default}
use Rattle.pbs_codes.proofs.Signed.{signatures_more}
use Rattle.pbs_codes.proofs.signing.signatures.Goals as goal

pub index_mut-requires : goal.index_mut-requires
index_mut-requires c =
    let d : Edge = get_or c.args.follows.now c.loop-edge.edge-index (numbers 0 0 0) in
    let within : d.to < c.args.places = c.requires.follows d
    (Contains-get_or c.args.follows.now c.loop-edge.edge-index (numbers 0 0 0) c.loop-edge-test.true) in
    let size : length c.loop-edge.all.items ≡ c.args.places = c.loop-edge.invariant.size in
    omega arith

pub loop-edge-preserved : goal.loop-edge-preserved
loop-edge-preserved c =
    let d : Edge = get_or c.args.follows.now c.loop-edge.edge-index (numbers 0 0 0) in
    let within : d.to < c.args.places = c.requires.follows d
    (Contains-get_or c.args.follows.now c.loop-edge.edge-index (numbers 0 0 0) c.loop-edge-test.true) in
    let size : length c.loop-edge.all.items ≡ c.args.places = c.loop-edge.invariant.size in
    let inside : d.to < length c.loop-edge.all.items = rw size within in
    let pushed : c.push_both.new.self ≡ get_or c.loop-edge.all.items d.to [] ++ d.from ∷ (d.node ∷ []) =
    c.in_ok-push_both.ensures ∙ ap (λ xs. xs ++ d.from ∷ (d.node ∷ [])) (c.index_mut.ensures.value
    ∙ any_default c.loop-edge.all.items d.to c.index_mut.result.now [] inside) in
    rw pushed (signatures_more c.args.starts.now c.args.follows.now c.args.places c.loop-edge.edge-index
    c.loop-edge.all.items d c.loop-edge-test.true
    (any_default c.args.follows.now c.loop-edge.edge-index (numbers 0 0 0) d c.loop-edge-test.true) within
    c.loop-edge.invariant)
