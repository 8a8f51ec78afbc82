use Rattle.std.proofs.Common.{◌≡◌, ℕ, false, List, ◌∷◌, cond, take, length}
use Rattle.net_core.specs.declared.gate.Wire.{Wire}
use Rattle.net_core.specs.Circuits.{AllThere}
use Rattle.net_eval.specs.Readers.{has_pin}
use Rattle.net_eval.specs.inner.Chains.{AreSound, Holds, is_first}
use Rattle.net_eval.proofs.chains.add_gate.Given as goal

-- the gate is in front of the lists of the pins so far
abbrev pub invariant-loop-pin : goal.invariant-loop-pin
invariant-loop-pin l = record {
  sound : AreSound l.chains;
  heads : length l.chains.heads.items ≡ length l.fn.chains.heads.items;
  holds : (gates : ℕ) (of : Wire → List ℕ) → AllThere 64 l.registers gates l.pins
      → ((w : Wire) → is_first l.gate (of w) ≡ false) → Holds l.fn.chains l.registers gates of
      → Holds l.chains l.registers gates (λ w. cond (has_pin w (take l.pin-index l.pins)) (l.gate ∷ of w) (of w));
}
