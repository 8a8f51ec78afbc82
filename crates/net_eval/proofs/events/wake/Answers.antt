use Rattle.std.proofs.Common.{◌<◌, ◌||◌, length, get_or, ap, sym, ◌∙◌, arith, subst}
use Rattle.net_eval.specs.Readers.{readers_from}
use Rattle.net_eval.specs.inner.Marks.{is_listed, is_marked}
use Rattle.net_eval.proofs.Changing.{reader_listed, readers_below}
use Rattle.net_eval.proofs.events.wake.Goals as goal

pub mark_each-requires : goal.mark_each-requires
mark_each-requires c = λ i h.
    let gates = c.args.net.now.gates in
    let list = readers_from 0 gates c.args.wire in
    let is = c.readers.ensures in
    let low : get_or c.readers.result.now i 0 < length gates =
    subst (λ xs. i < length xs → get_or xs i 0 < length gates) (sym is)
    (λ l. readers_below 0 gates c.args.wire (length gates) (omega arith) i l) h in
    omega arith

pub returns : goal.returns
returns c = record {
  each = λ k g e.
      let is = c.readers.ensures in
      c.mark_each.ensures k
      ∙ ap (λ b. is_marked c.args.words.now k || b)
      (ap (λ xs. is_listed xs k) is ∙ reader_listed 0 c.args.net.now.gates c.args.wire k k g (omega arith) e);
}
