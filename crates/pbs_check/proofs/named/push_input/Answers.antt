use Rattle.std.proofs.Common.{◌+◌, ◌-◌, ◌++◌, [], ◌∷◌, map, sym, ap, ◌∙◌}
use Rattle.pbs_names.specs.Naming.{bit_name, bit_names}
use Rattle.pbs_names.proofs.NameLemmas.{bits_step}
use Rattle.pbs_check.specs.Declaring.{named}
use Rattle.pbs_check.proofs.WalkLemmas.{moved_on}
use Rattle.pbs_check.proofs.named.push_input.Goals as goal

pub loop-bit-preserved : goal.loop-bit-preserved
loop-bit-preserved c =
    let decl = c.args.decl.now in let bit = c.loop-bit.bit in let old = c.loop-bit.out.items in
    moved_on old c.push-in-loop-bit.new.self.items (named decl.span (bit_name decl.name bit) ∷ [])
    (map (named decl.span) (bit_names decl.name (bit + 1) (decl.width - (bit + 1))))
    (c.push.new.self.items ++ map (named decl.span) (bit_names decl.name 0 decl.width))
    (ap (λ xs. old ++ map (named decl.span) xs) (sym (bits_step decl.name bit decl.width c.loop-bit-test.true))
    ∙ c.loop-bit.invariant)
    (c.in_ok-push-2.ensures.items ∙ ap (λ w. old ++ named decl.span w ∷ []) c.in_ok-bit_word.ensures)
