use Rattle.std.proofs.Common.{◌≡◌, ◌+◌, ◌++◌, ◌∷◌, [], false, length, get_or, sym, ap, ◌∙◌, subst, arith}
use Rattle.std.proofs.Common.{length-set, length-append}
use Rattle.std.specs.Prelude.{slice_set}
use Rattle.std.proofs.lemmas.List.{get_or_read}
use Rattle.net_eval.specs.Readers.{wire_number}
use Rattle.net_eval.specs.inner.Chains.{IsChain, is_first}
use Rattle.net_eval.proofs.Chaining.{holds_added}
use Rattle.net_eval.proofs.chains.add_reader.Goals as goal

pub returns-clause-holds : goal.returns-clause-holds
returns-clause-holds c = λ gates of there holds.
    let old = c.args.chains.now in
    let k = wire_number c.args.registers c.args.wire in
    let place : c.place-k.result ≡ k = c.place-k.ensures in
    let head : c.index-head.result.now ≡ get_or old.heads.items k 0 =
    get_or_read old.heads.items _ _ (omega arith) c.index-head.ensures 0 ∙ ap (λ j. get_or old.heads.items j 0) place in
    let fresh : is_first c.args.gate (of c.args.wire) ≡ false =
    sym (c.is_newest.ensures (of c.args.wire)
    (subst (λ h. IsChain old.gates.items old.nexts.items h (of c.args.wire)) (sym head) (holds.each c.args.wire there)))
    ∙ c.if-is_newest.false in
    let pushed : c.push.new.self.items ≡ old.gates.items ++ c.args.gate ∷ [] = c.in_ok-push.ensures.items in
    let linked : c.push-2.new.self.items ≡ old.nexts.items ++ c.index-head.result.now ∷ [] =
    c.in_ok-push-2.ensures.items in
    let count : c.len.result ≡ length old.gates.items + 1 =
    (let long = ap (λ xs. length xs) pushed ∙ length-append old.gates.items (c.args.gate ∷ []) in
    let len = c.len.ensures in omega arith) in
    let heads : slice_set old.heads.items c.place-k.result c.len.result
    ≡ slice_set old.heads.items k (length old.gates.items + 1) =
    ap (λ j. slice_set old.heads.items j c.len.result) place ∙ ap (λ x. slice_set old.heads.items k x) count in
    holds_added old _ c.args.registers gates of c.args.wire c.args.gate there holds heads (simp length-set)
    pushed (linked ∙ ap (λ h. old.nexts.items ++ h ∷ []) head) fresh
