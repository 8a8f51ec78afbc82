use Rattle.std.proofs.Common.{◌≡◌, ◌<◌, List, map, length, Some, subst, ap, ◌∙◌, arith}
use Rattle.std.specs.List.{filter_map}
use Rattle.vlog_text.specs.declared.raw.RawName.{RawName}
use Rattle.vlog_text.specs.declared.raw.RawDecl.{RawDecl}
use Rattle.vlog_text.specs.declared.raw.RawGate.{RawGate}
use Rattle.vlog_text.specs.Words.{target_name}
use Rattle.vlog_text.specs.Standing.{registers}
use Rattle.vlog_names.specs.Names.{kinds_in, IsFirsts}
use Rattle.vlog_names.specs.inner.Steps.{plain_name, reg_name}
use Rattle.vlog_names.proofs.Standings.{firsts_within, plain_names, reg_names}
use Rattle.vlog_names.proofs.resolving.number_names.Goals as goal

pub returns : goal.returns
returns c =
    let raw = c.args.raw.now in
    let kinds = kinds_in c.args.kinds in
    let names : filter_map reg_name c.as_slice-2.result.now ≡ registers raw =
    ap (λ (ds : List RawDecl). filter_map reg_name ds) c.as_slice-2.ensures ∙ reg_names raw.decls in
    let few : length (filter_map reg_name c.as_slice-2.result.now) < 4294967295 = c.in_ok-registers.ensures.few in
    record {
      kinds = c.requires.kinds;
      inputs_are = subst (λ (ns : List RawName). IsFirsts (map (λ (n : RawName). Some n) ns) c.in_ok-inputs.inputs)
          (ap (λ (ns : List RawName). filter_map (plain_name kinds) ns) c.as_slice.ensures
          ∙ plain_names raw kinds c.requires.kinds.knows raw.ports) c.in_ok-inputs.ensures;
      registers_are =
          subst (λ (ns : List RawName). IsFirsts (map (λ (n : RawName). Some n) ns) c.in_ok-registers.registers)
          names c.in_ok-registers.ensures.firsts;
      gates_are = c.requires.gates;
      regs_are = c.requires.regs;
      few = record {
        gates = λ w n e. omega (
          arith,
          firsts_within (λ (g : RawGate). target_name g.target) raw.gates c.args.driving.gates c.requires.gates w n e,
        );
        registers = λ w n e. omega (
          arith,
          firsts_within (λ (n : RawName). Some n) (filter_map reg_name c.as_slice-2.result.now)
              c.in_ok-registers.registers c.in_ok-registers.ensures.firsts w n e,
        );
      };
    }
