use Rattle.std.proofs.Common.{List, ap, ◌∙◌}
use Rattle.vlog_parse.specs.declared.state.Frame.{Frame}
use Rattle.vlog_parse.specs.declared.state.AssignState.TheVariants.{AfterUnit}
use Rattle.vlog_parse.specs.declared.state.State.TheVariants.{OfAssign}
use Rattle.vlog_parse.specs.inner.Machine as machine
use Rattle.vlog_parse.specs.inner.Machine.{Held}
use Rattle.vlog_parse.proofs.units.after_unit.Goals as goal

pub returns : goal.returns
returns c =
    let target = c.args.target in
    let level = c.args.level in
    let left = machine.unwound_frames c.args.frames in (
      ap (λ (frames : List Frame).
          OfAssign (AfterUnit (record { target = target; level = level; frames = frames }) c.in_ok-all.all))
          c.in_ok-all.ensures.frames
          ∙ ap (λ (h : Held). OfAssign (AfterUnit (record { target = target; level = level; frames = left }) h.part))
          c.in_ok-all.ensures.part,
      ap (λ (h : Held). machine.with_gates c.args.found.now h.gates) c.in_ok-all.ensures.part,
    )
