use Rattle.std.proofs.Common.{◌≡◌, ◌-◌, ◌<◌, ◌≤◌, get_or, arith}
use Rattle.std.proofs.lemmas.List.{get_or_read}
use Rattle.net_eval.proofs.Flattening.{front_more, list_done, list_next}
use Rattle.net_eval.proofs.readers.add_list.Goals as goal

pub loop-node-preserved : goal.loop-node-preserved
loop-node-preserved c =
    let chains = c.args.chains.now in
    let h = c.loop-node.node in
    let sound = c.requires.sound.long in
    let within = c.loop-node.invariant.within in
    let some : 0 < h = omega arith in
    let gate : c.index.result.now ≡ get_or chains.gates.items (h - 1) 0 =
    get_or_read chains.gates.items _ _ (omega arith) c.index.ensures 0 in
    let next : c.index-node.result.now ≡ get_or chains.nexts.items (h - 1) 0 =
    get_or_read chains.nexts.items _ _ (omega arith) c.index-node.ensures 0 in
    let early : get_or chains.nexts.items (h - 1) 0 ≤ h - 1 = c.requires.sound.earlier (h - 1) (omega arith) in
    record {
      within = omega arith;
      front = front_more c.args.gates.now.items c.loop-node.gates.items c.push.new.self.items c.index.result.now
          c.loop-node.invariant.front c.in_ok-push.ensures.items;
      list = λ list chain.
          list_next chains.gates.items chains.nexts.items h c.index.result.now c.index-node.result.now
          c.args.gates.now.items list c.loop-node.gates.items c.push.new.self.items some gate next
          c.in_ok-push.ensures.items (c.loop-node.invariant.list list chain);
    }

pub returns-clause-list : goal.returns-clause-list
returns-clause-list c = λ list chain.
    list_done c.args.chains.now.gates.items c.args.chains.now.nexts.items c.loop-node.node c.args.gates.now.items list
    c.loop-node.gates.items (omega arith) (c.loop-node.invariant.list list chain)
