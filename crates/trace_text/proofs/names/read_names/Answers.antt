use Rattle.std.proofs.Common.{refl}
use Rattle.trace_text.proofs.NameLemmas.{name_passed}
use Rattle.trace_text.proofs.names.read_names.Goals as goal

pub loop-behind-preserved : goal.loop-behind-preserved
loop-behind-preserved c =
    name_passed _ _ c.loop-behind.order.items _ c.loop-behind.at _ c.in-Some.text c.split_word.result.0.now
    c.split_word.result.1 c.in-Some-2.port
    (rw c.in-Some.is at c.loop-behind.invariant) c.split_word.ensures.words c.split_word.ensures.long
    (rw (c.in-Some-2.is, c.deref.ensures.value) at c.in_ok-port.ensures) c.in_ok-push.ensures.items refl
