use Rattle.std.proofs.Common.{rules, ◌≡◌, ◌<◌, ◌∙◌, ◌++◌, ◌∷◌, [], false, true, ap, arith, sym, subst, length}
use Rattle.std.specs.Prelude.{Contains}
use Rattle.pbs_overlap.proofs.Plans.{any_default}
use Rattle.pbs_codes.specs.inner.Leading.{may_stand, signature_at}
use Rattle.pbs_codes.proofs.Leaders.{led_never, led_read, led_fresh}
use Rattle.pbs_codes.proofs.leading.Leading.take.Goals as goal

pub returns-then-not-together : goal.returns-then-not-together
returns-then-not-together c =
    let not_together : c.together.result ≡ false = search rules in
    let idle : may_stand c.args.pairs.now c.args.place ≡ false = sym c.together.ensures ∙ not_together in
    rw (c.in_ok-push.ensures.items, c.in_ok-push-2.ensures.items)
    (led_never c.args.pairs.now c.args.signatures.now c.args.place c.args.self.now.never.items
    c.args.self.now.leaders.items c.args.self.now.firsts.items c.args.self.now.seen c.requires.led idle)

pub add-requires : goal.add-requires
add-requires c = rw c.in_ok-copy-in-None.ensures c.in-None.ensures.absent

pub returns-in_ok-push-in-Some : goal.returns-in_ok-push-in-Some
returns-in_ok-push-in-Some c =
    let together : c.together.result ≡ true = search rules in
    let stands : may_stand c.args.pairs.now c.args.place ≡ true = sym c.together.ensures ∙ together in
    let within : c.args.place < length c.args.signatures.now =
    omega (arith, c.requires.place, c.requires.signatures) in
    let own : c.index-signatures-place.result ≡ signature_at c.args.signatures.now c.args.place =
    c.index-signatures-place.is ∙ any_default c.args.signatures.now c.args.place _ [] within in
    rw c.in_ok-push-in-Some.ensures.items
    (led_read c.args.pairs.now c.args.signatures.now c.args.place c.args.self.now.never.items
    c.args.self.now.leaders.items c.args.self.now.firsts.items c.args.self.now.seen
    c.index-signatures-place.result c.in-Some.n c.index-leader.result.now c.requires.led stands own
    c.in-Some.ensures.found c.index-leader.ensures)

pub returns-in_ok-push-in-None-2 : goal.returns-in_ok-push-in-None-2
returns-in_ok-push-in-None-2 c =
    let together : c.together.result ≡ true = search rules in
    let stands : may_stand c.args.pairs.now c.args.place ≡ true = sym c.together.ensures ∙ together in
    let within : c.args.place < length c.args.signatures.now =
    omega (arith, c.requires.place, c.requires.signatures) in
    let own : c.index-signatures-place.result ≡ signature_at c.args.signatures.now c.args.place =
    c.index-signatures-place.is ∙ any_default c.args.signatures.now c.args.place _ [] within in
    let added : c.add.new.self ≡ c.args.self.now.seen ++ signature_at c.args.signatures.now c.args.place ∷ [] =
    c.in_ok-add-in-None.ensures
    ∙ ap (λ s. c.args.self.now.seen ++ s ∷ []) (c.in_ok-copy-in-None.ensures ∙ own) in
    rw (c.in_ok-push-in-None-2.ensures.items, c.in_ok-push-in-None.ensures.items, added)
    (led_fresh c.args.pairs.now c.args.signatures.now c.args.place c.args.self.now.never.items
    c.args.self.now.leaders.items c.args.self.now.firsts.items c.args.self.now.seen c.requires.led stands
    (subst (λ s. Contains c.args.self.now.seen s → ⊥) own c.in-None.ensures.absent))
