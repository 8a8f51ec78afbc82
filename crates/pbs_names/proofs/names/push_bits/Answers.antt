use Rattle.std.proofs.Common.{◌+◌, ◌-◌, ◌++◌, [], ◌∷◌, sym, ap, ◌∙◌}
use Rattle.pbs_names.specs.Naming.{bit_name, bit_names}
use Rattle.pbs_names.proofs.NameLemmas.{bits_step, moved_on}
use Rattle.pbs_names.proofs.names.push_bits.Goals as goal

pub loop-bit-preserved : goal.loop-bit-preserved
loop-bit-preserved c =
    let bus = c.args.bus.now in let bit = c.loop-bit.bit in let old = c.loop-bit.words.items in
    moved_on old c.push.new.self.items (bit_name bus bit ∷ []) (bit_names bus (bit + 1) (c.args.width - (bit + 1)))
    (c.args.words.now.items ++ bit_names bus 0 c.args.width)
    (ap (λ xs. old ++ xs) (sym (bits_step bus bit c.args.width c.loop-bit-test.true)) ∙ c.loop-bit.invariant)
    (c.in_ok-push.ensures.items ∙ ap (λ w. old ++ w ∷ []) c.in_ok-bit_word.ensures)
