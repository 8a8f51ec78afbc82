use Rattle.std.proofs.Common.{◌≡◌, ◌<◌, Some, List, length, refl, subst, ap, ◌∙◌, arith, ℕ}
use Rattle.std.specs.Prelude.{slice_get}
use Rattle.std.proofs.lemmas.List.{length-set}
use Rattle.std.proofs.lemmas.Option.{slice_get_read}
use Rattle.net_equiv.specs.inner.Standing.{view_of}
use Rattle.net_equiv.proofs.Telling.{keeps_then, known_step, nodes_all, pins_ready}
use Rattle.net_equiv.proofs.Visiting.{marked_within}
use Rattle.net_equiv.proofs.nodes.Side.nodes.Goals as goal

pub bounds-self-n : goal.bounds-self-n
bounds-self-n c =
    let view = view_of c.args.self.now in
    let gates = c.args.self.now.gates.now in
    let marks = c.args.cone.now.marks.items in
    let f = c.args.cone.now.listed.items in
    let i = c.loop-i.i in
    let n = c.index.result.now in
    let same = ap (λ (xs : List ℕ). length xs) c.loop-i.invariant.listed in
    let below : i < length c.loop-i.cone.listed.items =
    let t = c.loop-i-test.true in let e = c.len-i-end.ensures in omega arith in
    let here : slice_get f i ≡ Some n =
    subst (λ (xs : List ℕ). slice_get xs i ≡ Some n) c.loop-i.invariant.listed
    (slice_get_read c.loop-i.cone.listed.items _ i n refl below c.index.ensures) in
    let within : n < length gates =
    let k = marked_within marks n (c.requires.filled.listed.back i n here) in
    let l = c.requires.filled.closed.long in omega arith in
    within

pub gate_node-requires-clause-ready : goal.gate_node-requires-clause-ready
gate_node-requires-clause-ready c =
    let view = view_of c.args.self.now in
    let gates = c.args.self.now.gates.now in
    let marks = c.args.cone.now.marks.items in
    let f = c.args.cone.now.listed.items in
    let i = c.loop-i.i in
    let n = c.index.result.now in
    let same = ap (λ (xs : List ℕ). length xs) c.loop-i.invariant.listed in
    let below : i < length c.loop-i.cone.listed.items =
    let t = c.loop-i-test.true in let e = c.len-i-end.ensures in omega arith in
    let here : slice_get f i ≡ Some n =
    subst (λ (xs : List ℕ). slice_get xs i ≡ Some n) c.loop-i.invariant.listed
    (slice_get_read c.loop-i.cone.listed.items _ i n refl below c.index.ensures) in
    let within : n < length gates =
    let k = marked_within marks n (c.requires.filled.listed.back i n here) in
    let l = c.requires.filled.closed.long in omega arith in
    let g = c.index-self-n.result in
    let at = slice_get_read gates _ n g refl within c.index-self-n.is in
    rw (← c.index-self-n.is, c.as_slice.ensures.value)
    (pins_ready view marks f c.loop-i.store c.loop-i.cone.known.items i n g c.requires.ordered
    c.requires.filled.closed.pins c.requires.filled.listed c.requires.filled.sorted c.loop-i.invariant.long
    c.loop-i.invariant.known here at)

pub index_mut-requires : goal.index_mut-requires
index_mut-requires c =
    let view = view_of c.args.self.now in
    let gates = c.args.self.now.gates.now in
    let marks = c.args.cone.now.marks.items in
    let f = c.args.cone.now.listed.items in
    let i = c.loop-i.i in
    let n = c.index.result.now in
    let same = ap (λ (xs : List ℕ). length xs) c.loop-i.invariant.listed in
    let below : i < length c.loop-i.cone.listed.items =
    let t = c.loop-i-test.true in let e = c.len-i-end.ensures in omega arith in
    let here : slice_get f i ≡ Some n =
    subst (λ (xs : List ℕ). slice_get xs i ≡ Some n) c.loop-i.invariant.listed
    (slice_get_read c.loop-i.cone.listed.items _ i n refl below c.index.ensures) in
    let within : n < length gates =
    let k = marked_within marks n (c.requires.filled.listed.back i n here) in
    let l = c.requires.filled.closed.long in omega arith in
    let l = c.loop-i.invariant.long in omega arith

pub loop-i-preserved : goal.loop-i-preserved
loop-i-preserved c =
    let view = view_of c.args.self.now in
    let gates = c.args.self.now.gates.now in
    let marks = c.args.cone.now.marks.items in
    let f = c.args.cone.now.listed.items in
    let i = c.loop-i.i in
    let n = c.index.result.now in
    let same = ap (λ (xs : List ℕ). length xs) c.loop-i.invariant.listed in
    let below : i < length c.loop-i.cone.listed.items =
    let t = c.loop-i-test.true in let e = c.len-i-end.ensures in omega arith in
    let here : slice_get f i ≡ Some n =
    subst (λ (xs : List ℕ). slice_get xs i ≡ Some n) c.loop-i.invariant.listed
    (slice_get_read c.loop-i.cone.listed.items _ i n refl below c.index.ensures) in
    let within : n < length gates =
    let k = marked_within marks n (c.requires.filled.listed.back i n here) in
    let l = c.requires.filled.closed.long in omega arith in
    let g = c.index-self-n.result in
    let at = slice_get_read gates _ n g refl within c.index-self-n.is in
    let room : n < length c.loop-i.cone.known.items = let l = c.loop-i.invariant.long in omega arith in
    record {
      keeps = keeps_then c.args.store.now c.loop-i.store c.gate_node.new.store c.loop-i.invariant.keeps
          c.gate_node.ensures.keeps;
      marks = c.loop-i.invariant.marks;
      listed = c.loop-i.invariant.listed;
      long = length-set c.loop-i.cone.known.items n c.in_ok-node.node ∙ c.loop-i.invariant.long;
      known = known_step view marks f c.loop-i.store c.gate_node.new.store c.loop-i.cone.known.items i n g
          c.in_ok-node.node c.loop-i.invariant.known c.gate_node.ensures.keeps here at room
          (rw c.index-self-n.is c.in_ok-node.ensures.tells);
    }

pub returns-clause-nodes : goal.returns-clause-nodes
returns-clause-nodes c =
    rw c.loop-i.invariant.marks
    (nodes_all (view_of c.args.self.now) c.args.cone.now.marks.items c.args.cone.now.listed.items c.loop-i.store
    c.loop-i.cone.known.items c.loop-i.i c.loop-i.invariant.long c.requires.filled.listed
    (let t = c.loop-i-test.false in let e = c.len-i-end.ensures in omega arith) c.loop-i.invariant.known)
