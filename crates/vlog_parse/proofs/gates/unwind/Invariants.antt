use Rattle.std.proofs.Common.{◌≡◌, length}
use Rattle.vlog_parse.specs.inner.Machine.{held, unwound, unwound_frames}
use Rattle.vlog_parse.proofs.gates.unwind.Given as goal

abbrev pub invariant-loop-frame : goal.invariant-loop-frame
invariant-loop-frame l =
    (unwound l.frames (held l.taken l.gates) ≡ unwound l.fn.frames (held l.fn.part l.fn.gates))
    × (unwound_frames l.frames ≡ unwound_frames l.fn.frames)

abbrev pub decreases-loop-frame : goal.decreases-loop-frame
decreases-loop-frame l = length l.frames
