use Rattle.net_tidy.proofs.Pooled.{makes_pushed, pool_other}
use Rattle.net_tidy.proofs.pool.Pool.push_other.Goals as goal

pub invariant_of-self : goal.invariant_of-self
invariant_of-self c = rw c.in_err-push.ensures.err c.self.invariant

pub invariant_of-self-2 : goal.invariant_of-self-2
invariant_of-self-2 c =
    rw c.in_ok-push.ensures.ok
    (pool_other c.self.inside.gates (record { kind = c.args.kind; pins = c.args.pins }) _ c.self.invariant
    c.requires.formless)

pub returns : goal.returns
returns c =
    rw (← c.self.view_is, c.in_ok-push.ensures.ok, c.len-number.ensures)
    (makes_pushed c.self.inside.gates (record { kind = c.args.kind; pins = c.args.pins }) c.requires.pins)
