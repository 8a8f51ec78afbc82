use Rattle.std.proofs.Common.{[], ◌∷◌, ◌++◌, map, refl, ap, ◌∙◌}
use Rattle.std.proofs.lemmas.List.{map-append}
use Rattle.bool_terms.specs.Terms.{term_of}
use Rattle.pbs_expand.specs.Written.{literal}
use Rattle.pbs_expand.proofs.WritingLoop.{bit_written, literal_is}
use Rattle.pbs_expand.proofs.terms.write_literals.Goals as goal

pub loop-bit-preserved : goal.loop-bit-preserved
loop-bit-preserved c =
    let start = c.args.bus.start in let number = c.from-number.result in let bit = c.loop-bit.bit in
    let old = c.loop-bit.terms.items in let written = c.in_ok-written.written in let is = literal_is start number bit
    2 written c.in_ok-written.ensures in
    bit_written start number bit c.args.bus.width c.loop-bit.nodes written.nodes (map term_of old)
    (map term_of c.push.new.self.items) (literal start number bit)
    c.loop-bit-test.true c.loop-bit.invariant refl is.nodes is.fits
    (ap (map term_of) c.in_ok-push.ensures.items ∙ map-append term_of old (written.term ∷ [])
    ∙ ap (λ t. map term_of old ++ t ∷ []) is.term)
