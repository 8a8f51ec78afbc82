use Rattle.std.proofs.Common.{[], ◌∷◌, refl}
use Rattle.net_tidy.proofs.Pooled.{fresh_join, makes_here, makes_turned}
use Rattle.net_tidy.proofs.pool.Pool.join_reduced.Goals as goal

pub returns-in-Some-clause-makes : goal.returns-in-Some-clause-makes
returns-in-Some-clause-makes c =
    makes_here c.args.self.now (c.args.a ∷ c.args.b ∷ []) c.in-Some.wire _ c.in-Some.ensures.meaning
    (λ i r fit pins. c.in-Some.ensures.there i r _ (pins.each 0 c.args.a refl) (pins.each 1 c.args.b refl))

pub returns-in-Some-find-clause-makes : goal.returns-in-Some-find-clause-makes
returns-in-Some-find-clause-makes c =
    makes_turned c.args.self.now c.in-Some-find.number c.args.j c.args.a c.args.b c.in-Some-find.ensures.found

pub share-requires-clause-fresh : goal.share-requires-clause-fresh
share-requires-clause-fresh c = λ k x y e n at.
    fresh_join c.args.self.now c.args.j k c.args.a c.args.b x y n c.in-None.ensures.absent e at
