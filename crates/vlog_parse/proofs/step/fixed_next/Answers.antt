use Rattle.std.proofs.Common.{◌≡◌, None, refl}
use Rattle.vlog_text.specs.declared.token.TokenKind.{TokenKind}
use Rattle.vlog_text.specs.declared.token.TokenKind.TheVariants.{ModuleWord, OpenRound, Semicolon, At, PosedgeWord}
use Rattle.vlog_text.specs.declared.token.TokenKind.TheVariants.{Clock, CloseRound}
use Rattle.vlog_parse.specs.declared.state.Fixed.{Fixed}
use Rattle.vlog_parse.specs.declared.state.Fixed.TheVariants.{WantsModule, AfterTitle, AfterPorts, AfterAlways, AfterAt}
use Rattle.vlog_parse.specs.declared.state.Fixed.TheVariants.{AfterClockOpen, AfterPosedge, AfterClock, WantsEnd}
use Rattle.vlog_parse.specs.inner.Machine as machine
use Rattle.vlog_parse.proofs.step.fixed_next.Goals as goal

-- no other token can stand there
abbrev OnlyAt : Fixed → TokenKind → Type 0
OnlyAt f wanted = (k : TokenKind) → (k ≡ wanted → ⊥) → None ≡ machine.fixed_next f k

module_word : OnlyAt WantsModule ModuleWord
module_word ModuleWord other = absurd (other refl)
module_word _ other = refl

title_round : OnlyAt AfterTitle OpenRound
title_round OpenRound other = absurd (other refl)
title_round _ other = refl

ports_end : OnlyAt AfterPorts Semicolon
ports_end Semicolon other = absurd (other refl)
ports_end _ other = refl

at_sign : OnlyAt AfterAlways At
at_sign At other = absurd (other refl)
at_sign _ other = refl

edge_round : OnlyAt AfterAt OpenRound
edge_round OpenRound other = absurd (other refl)
edge_round _ other = refl

posedge_word : OnlyAt AfterClockOpen PosedgeWord
posedge_word PosedgeWord other = absurd (other refl)
posedge_word _ other = refl

clock_name : OnlyAt AfterPosedge Clock
clock_name Clock other = absurd (other refl)
clock_name _ other = refl

edge_close : OnlyAt AfterClock CloseRound
edge_close CloseRound other = absurd (other refl)
edge_close _ other = refl

item_end : OnlyAt WantsEnd Semicolon
item_end Semicolon other = absurd (other refl)
item_end _ other = refl

pub returns-in-ModuleWord : goal.returns-in-ModuleWord
returns-in-ModuleWord c = rw (c.in-WantsModule.is, c.in-ModuleWord.is) refl

pub returns-in_default : goal.returns-in_default
returns-in_default c = rw c.in-WantsModule.is (module_word c.args.kind c.in_default.not-ModuleWord)

pub returns-in-OpenRound : goal.returns-in-OpenRound
returns-in-OpenRound c = rw (c.in-AfterTitle.is, c.in-OpenRound.is) refl

pub returns-in_default-kind : goal.returns-in_default-kind
returns-in_default-kind c = rw c.in-AfterTitle.is (title_round c.args.kind c.in_default-kind.not-OpenRound)

pub returns-in-Semicolon : goal.returns-in-Semicolon
returns-in-Semicolon c = rw (c.in-AfterPorts.is, c.in-Semicolon.is) refl

pub returns-in_default-kind-2 : goal.returns-in_default-kind-2
returns-in_default-kind-2 c = rw c.in-AfterPorts.is (ports_end c.args.kind c.in_default-kind-2.not-Semicolon)

pub returns-in-At : goal.returns-in-At
returns-in-At c = rw (c.in-AfterAlways.is, c.in-At.is) refl

pub returns-in_default-kind-3 : goal.returns-in_default-kind-3
returns-in_default-kind-3 c = rw c.in-AfterAlways.is (at_sign c.args.kind c.in_default-kind-3.not-At)

pub returns-in-OpenRound-kind : goal.returns-in-OpenRound-kind
returns-in-OpenRound-kind c = rw (c.in-AfterAt.is, c.in-OpenRound-kind.is) refl

pub returns-in_default-kind-4 : goal.returns-in_default-kind-4
returns-in_default-kind-4 c = rw c.in-AfterAt.is (edge_round c.args.kind c.in_default-kind-4.not-OpenRound)

pub returns-in-PosedgeWord : goal.returns-in-PosedgeWord
returns-in-PosedgeWord c = rw (c.in-AfterClockOpen.is, c.in-PosedgeWord.is) refl

pub returns-in_default-kind-5 : goal.returns-in_default-kind-5
returns-in_default-kind-5 c = rw c.in-AfterClockOpen.is (posedge_word c.args.kind c.in_default-kind-5.not-PosedgeWord)

pub returns-in-Clock : goal.returns-in-Clock
returns-in-Clock c = rw (c.in-AfterPosedge.is, c.in-Clock.is) refl

pub returns-in_default-kind-6 : goal.returns-in_default-kind-6
returns-in_default-kind-6 c = rw c.in-AfterPosedge.is (clock_name c.args.kind c.in_default-kind-6.not-Clock)

pub returns-in-CloseRound : goal.returns-in-CloseRound
returns-in-CloseRound c = rw (c.in-AfterClock.is, c.in-CloseRound.is) refl

pub returns-in_default-kind-7 : goal.returns-in_default-kind-7
returns-in_default-kind-7 c = rw c.in-AfterClock.is (edge_close c.args.kind c.in_default-kind-7.not-CloseRound)

pub returns-in-Semicolon-kind : goal.returns-in-Semicolon-kind
returns-in-Semicolon-kind c = rw (c.in-WantsEnd.is, c.in-Semicolon-kind.is) refl

pub returns-in_default-kind-8 : goal.returns-in_default-kind-8
returns-in_default-kind-8 c = rw c.in-WantsEnd.is (item_end c.args.kind c.in_default-kind-8.not-Semicolon)
