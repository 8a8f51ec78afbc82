use Rattle.std.proofs.Common.{None, sym, ap, ◌∙◌, arith}
use Rattle.vlog_text.specs.Orders.{is_among}
use Rattle.vlog_text.specs.Refusing.{earliest, refusals}
use Rattle.vlog_order.proofs.LeftOut.{left_out_is}
use Rattle.vlog_order.proofs.taken.check_taken.Goals as goal

pub returns : goal.returns
returns c = λ order same.
    let n = c.first_left.result in
    c.note_item.ensures
    ∙ ap (λ ns. earliest None (refusals 6 ns)) (sym (left_out_is order 0 n c.args.gates.now
    (λ k l. ap (λ j. is_among order j) (omega arith) ∙ sym (same k) ∙ c.first_left.ensures.before k l)
    (λ l. ap (λ j. is_among order j) (omega arith) ∙ sym (same n) ∙ c.first_left.ensures.at (omega arith))
    (omega arith)))
