use Rattle.std.proofs.Common.{◌++◌, ◌∙◌, ap, sym, subst, drop, List}
use Rattle.net_core.specs.declared.gate.Wire.{Wire}
use Rattle.net_core.specs.Rows.{value}
use Rattle.net_core.specs.Circuits.{wire_at}
use Rattle.net_encode.specs.inner.Columns.{code_bits}
use Rattle.net_encode.specs.inner.Sharing.{ShowsBits}
use Rattle.net_encode.specs.inner.Unread.{AllReadNone, LeavesUnread}
use Rattle.net_encode.proofs.Staged.{data_of, rest_whole}
use Rattle.net_encode.proofs.Unread.{leaves_on, none_both, none_past}
use Rattle.net_encode.proofs.stages.add_data.Goals as goal

pub returns-clause-regs : goal.returns-clause-regs
returns-clause-regs c =
    let shows = subst (λ (l : List Wire). ShowsBits c.add_groups.new.draft c.in_ok-regs.regs
    (λ row. code_bits (λ p. value row (wire_at l p)) c.args.groups.now)) c.as_slice.ensures
    c.in_ok-regs.ensures.wires in
    data_of c.args.draft.now c.add_groups.new.draft c.args.others.now c.in_ok-sources.sources c.in_ok-regs.regs
    c.add_wires.new.wires c.args.places c.args.groups.now c.requires.there c.requires.places c.requires.groups
    c.add_sources.new.draft _ _ _ _ c.in_ok-sources.ensures.grows c.in_ok-regs.ensures.grows
    c.in_ok-sources.ensures.wires shows c.in_ok-regs.ensures.count
    (c.in_ok-add_wires.ensures ∙ ap (λ (l : List Wire). c.in_ok-regs.regs ++ l)
    (rest_whole c.args.places c.args.others.now))

pub returns-clause-unread : goal.returns-clause-unread
returns-clause-unread c =
    let others = c.args.others.now in
    let sources = c.in_ok-sources.sources in
    let groups = c.in_ok-regs.regs in
    let rest = drop c.args.places others in
    subst (LeavesUnread c.args.draft.now c.add_groups.new.draft others)
    (sym (c.in_ok-add_wires.ensures ∙ ap (λ (l : List Wire). groups ++ l) (rest_whole c.args.places others)))
    (leaves_on c.args.draft.now c.add_sources.new.draft c.add_groups.new.draft others sources c.as_slice.result.now
    groups (groups ++ rest) c.in_ok-sources.ensures.unread c.in_ok-regs.ensures.unread
    (λ outputs all front. subst (AllReadNone outputs) (sym c.as_slice.ensures) front)
    (λ outputs all front last. none_both outputs groups rest last (none_past outputs c.args.places others all)))
