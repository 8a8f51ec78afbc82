use Rattle.std.proofs.Common.{◌≡◌, ◌≤◌, ℕ, List, ◌++◌, length, drop}
use Rattle.net_eval.specs.inner.Chains.{IsChain}
use Rattle.net_eval.proofs.readers.add_list.Given as goal

-- what is left of the list is to follow
abbrev pub invariant-loop-node : goal.invariant-loop-node
invariant-loop-node l = record {
  within : l.node ≤ length l.chains.nexts.items;
  front : l.gates.items ≡ l.fn.gates.items ++ drop (length l.fn.gates.items) l.gates.items;
  list : (list : List ℕ) → IsChain l.chains.gates.items l.chains.nexts.items l.fn.head list
      → (rest : List ℕ) × IsChain l.chains.gates.items l.chains.nexts.items l.node rest
      × (l.gates.items ++ rest ≡ l.fn.gates.items ++ list);
}

abbrev pub decreases-loop-node : goal.decreases-loop-node
decreases-loop-node l = l.node
