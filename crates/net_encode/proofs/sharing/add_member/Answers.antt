use Rattle.std.proofs.Common.{[], ◌∷◌}
use Rattle.net_encode.proofs.Unread.{leaves_own, none_front}
use Rattle.net_encode.proofs.sharing.add_member.Goals as goal

pub returns-else-counts-clause-unread : goal.returns-else-counts-clause-unread
returns-else-counts-clause-unread c =
    leaves_own c.args.draft.now (c.args.wire ∷ c.args.source ∷ []) (c.args.wire ∷ [])
    (λ outputs all. none_front outputs (c.args.wire ∷ []) (c.args.source ∷ []) all)
