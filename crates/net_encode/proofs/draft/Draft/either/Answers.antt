use Rattle.std.proofs.Common.{[], ◌∷◌}
use Rattle.net_encode.proofs.Unread.{leaves_own, none_rest}
use Rattle.net_encode.proofs.draft.Draft.either.Goals as goal

pub returns-in-Const-false-clause-unread : goal.returns-in-Const-false-clause-unread
returns-in-Const-false-clause-unread c =
    leaves_own c.args.self.now (c.args.a ∷ c.args.b ∷ []) (c.args.b ∷ [])
    (λ outputs all. none_rest outputs c.args.a (c.args.b ∷ []) all)
