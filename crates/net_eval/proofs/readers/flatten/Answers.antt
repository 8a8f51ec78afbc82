use Rattle.std.proofs.Common.{◌≡◌, get_or, length, drop, sym, subst, arith}
use Rattle.std.proofs.lemmas.List.{get_or_read}
use Rattle.net_eval.specs.inner.Chains.{IsChain, IsList}
use Rattle.net_eval.proofs.Flattening.{flat_more}
use Rattle.net_eval.proofs.readers.flatten.Goals as goal

pub loop-k-preserved : goal.loop-k-preserved
loop-k-preserved c =
    let chains = c.args.chains.now in
    let head : c.index.result.now ≡ get_or chains.heads.items c.loop-k.k 0 =
    get_or_read chains.heads.items _ _ (omega arith) c.index.ensures 0 in
    flat_more (IsList chains) c.loop-k.k c.len.result c.loop-k.starts.items c.loop-k.gates.items
    (drop (length c.loop-k.gates.items) c.add_list.new.gates.items) c.push-in-loop-k.new.self.items
    c.add_list.new.gates.items
    c.loop-k.invariant c.in_ok-add_list.ensures.front (omega arith) c.in_ok-push-2.ensures.items
    (λ xs chain. c.in_ok-add_list.ensures.list xs
    (subst (λ h. IsChain chains.gates.items chains.nexts.items h xs) (sym head) chain))
