use Rattle.std.proofs.Common.{◌≡◌, None, refl}
use Rattle.net_core.specs.declared.gate.GateKind.{GateKind}
use Rattle.vlog_text.specs.declared.token.TokenKind.{TokenKind}
use Rattle.vlog_text.specs.declared.token.TokenKind.TheVariants.{Name, Clock, OpenRound}
use Rattle.vlog_parse.specs.inner.Machine as machine
use Rattle.vlog_parse.proofs.step.word_next.Goals as goal

no_other : (g : GateKind) (k : TokenKind) → (k ≡ OpenRound → ⊥) → (k ≡ Name → ⊥) → (k ≡ Clock → ⊥)
    → None ≡ machine.word_next g k
no_other g OpenRound round name clock = absurd (round refl)
no_other g Name round name clock = absurd (name refl)
no_other g Clock round name clock = absurd (clock refl)
no_other g _ round name clock = refl

pub returns-in_default : goal.returns-in_default
returns-in_default c =
    no_other c.args.gate c.args.kind c.in_default.not-OpenRound c.in_default.not-Name c.in_default.not-Clock
