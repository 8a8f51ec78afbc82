use Rattle.std.proofs.Common.{◌≡◌, drop}
use Rattle.std.specs.List.{filter_map}
use Rattle.vlog_text.specs.declared.raw.RawReg.{RawReg}
use Rattle.vlog_text.specs.Words.{pin_name}
use Rattle.vlog_text.specs.Refusing.{earliest, refusals}
use Rattle.vlog_names.specs.Names.{kinds_in}
use Rattle.vlog_names.specs.inner.Rows.{faulty}
use Rattle.vlog_names.proofs.rows.note_data.Given as goal

abbrev pub invariant-loop-reg : goal.invariant-loop-reg
invariant-loop-reg l =
    earliest l.found
    (refusals l.rule
    (faulty l.fault (kinds_in l.kinds) (filter_map (λ (r : RawReg). pin_name r.wire) (drop l.reg-index l.regs))))
    ≡ earliest l.initial.found
    (refusals l.rule (faulty l.fault (kinds_in l.kinds) (filter_map (λ (r : RawReg). pin_name r.wire) (l.regs))))
