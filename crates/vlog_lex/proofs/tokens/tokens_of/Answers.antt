use Rattle.std.proofs.Common.{◌≡◌, ◌<◌, [], ◌∷◌, ◌++◌, length, Err, refl, sym, ap, ◌∙◌, arith}
use Rattle.vlog_text.specs.Grammar.{token}
use Rattle.std.proofs.lemmas.Bool.Decides.{nat_tests}
use Rattle.vlog_lex.proofs.Lexes.{lexed_gap, lexed_token, lexed_fault, lexed_whole}
use Rattle.vlog_lex.proofs.tokens.tokens_of.Goals as goal

pub returns-in-Fault-clause-err : goal.returns-in-Fault-clause-err
returns-in-Fault-clause-err c =
    let some : 0 < length c.loop-rest.rest.now = grind (arith, nat_tests) in (
      c.span_of.result,
      refl,
      lexed_fault c.args.bytes.now c.loop-rest.rest.now c.loop-rest.found.items c.loop-rest.at
          c.in-Fault.n c.loop-rest.invariant some c.in-Fault.ensures.value ∙ ap Err (sym c.span_of.ensures),
    )

pub loop-rest-preserved-in-Gap : goal.loop-rest-preserved-in-Gap
loop-rest-preserved-in-Gap c =
    let some : 0 < length c.loop-rest.rest.now = grind (arith, nat_tests) in
    rw c.split_at.ensures.back
    (lexed_gap c.args.bytes.now c.loop-rest.rest.now _ _ c.in-Gap.n c.loop-rest.invariant some c.in-Gap.ensures.value
    (c.in-Gap.ensures.within some))

pub loop-rest-preserved : goal.loop-rest-preserved
loop-rest-preserved c =
    let some : 0 < length c.loop-rest.rest.now = grind (arith, nat_tests) in
    rw c.split_at-in-Whole.ensures.back
    (lexed_token c.args.bytes.now c.loop-rest.rest.now _ _ _ c.in-Whole.n c.in-Whole.kind c.loop-rest.invariant some
    c.in-Whole.ensures.value (c.in-Whole.ensures.within some)
    (c.in_ok-push-in-Whole.ensures.items ∙ ap (λ s. c.loop-rest.found.items ++ token c.in-Whole.kind s ∷ [])
    c.span_of-span.ensures))

pub returns-clause-ok : goal.returns-clause-ok
returns-clause-ok c =
    let none : length c.loop-rest.rest.now ≡ 0 = grind (arith, nat_tests) in
    lexed_whole c.args.bytes.now c.loop-rest.rest.now c.loop-rest.found.items c.loop-rest.at c.loop-rest.invariant none
