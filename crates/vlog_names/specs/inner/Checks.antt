-- What rules 6 to 8 look for.
use Rattle.std.specs.Prelude.{Bool, not, ◌&&◌, ◌||◌}
use Rattle.vlog_text.specs.declared.raw.RawDecl.{RawDecl}
use Rattle.vlog_text.specs.Standing.{is_input, is_output, is_clock, is_reset}
use Rattle.vlog_names.specs.declared.checks.Counted.{Counted}
use Rattle.vlog_names.specs.declared.checks.Counted.TheVariants as counted

-- an input other than `clk` and `rst`, or an output
abbrev pub is_counted : Counted → RawDecl → Bool
is_counted counted.Inputs d = is_input d.kind && not (is_clock d.name.word || is_reset d.name.word)
is_counted counted.Outputs d = is_output d.kind
