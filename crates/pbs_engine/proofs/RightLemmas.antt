-- What is written for a controller is right, and reads back.
use Rattle.std.proofs.Common.{◌≡◌, ℕ, List, ◌++◌, Ok, Err, refl, subst}
use Rattle.pbs_base.specs.declared.refusal.Refusal.{Refusal}
use Rattle.net_core.specs.Circuits.{Circuit}
use Rattle.vlog_text.specs.Emitted.{emitted}
use Rattle.vlog_text.specs.Reading as netlists
use Rattle.vlog_read.specs.Read.{Reads}
use Rattle.vlog_text.specs.declared.fail.VlogFail.{VlogFail}
use Rattle.vlog_text.specs.declared.fail.VlogFail.TheVariants as reads
use Rattle.pbs_ast.specs.declared.syntax.Spec.{Spec}
use Rattle.pbs_controller.specs.declared.build.Controller.{Controller}
use Rattle.pbs_realize.specs.Realizes.{Realizes}
use Rattle.pbs_engine.specs.declared.fail.EngineFail.{EngineFail}
use Rattle.pbs_engine.specs.declared.fail.EngineFail.TheVariants as engine
use Rattle.pbs_engine.specs.inner.Controllers.{IsControllerOf, MakesController}
use Rattle.pbs_engine.specs.Right.{IsVerilogOf, Compiles, IsReadBack, ReadsBack}

-- ---- writing

pub compiled : (text before now : List ℕ) (made : Controller) → (spec : Spec) × IsControllerOf text spec made
    → now ≡ before ++ emitted made.net → Compiles text before now (Ok tt)
compiled text before now made (spec, is) appended = (
  emitted made.net,
  record {
    spec = spec;
    accepted = is.accepted;
    right = record {
      net = made.net;
      place_codes = made.map;
      stands = is.stands;
      written = refl;
      realizes = is.realizes;
    };
  },
  appended,
)

pub not_made : (text before : List ℕ) (fail : EngineFail) → MakesController text (Err fail)
    → Compiles text before before (Err fail)
not_made text before (engine.Refused r) is = (is, refl)
not_made text before engine.Memory is = refl

-- ---- reading back

pub not_compiled : (text before now : List ℕ) (fail : EngineFail) → Compiles text before now (Err fail)
    → ReadsBack text (Err fail)
not_compiled text before now (engine.Refused r) is = is.0
not_compiled text before now engine.Memory is = tt

-- the text of a netlist stands for one
abbrev pub OneNet : Type 0
OneNet =
    (bytes : List ℕ) (a b : Circuit) → netlists.ElaboratesTo bytes a → netlists.ElaboratesTo bytes b → a ≡ b

pub was_read_back : OneNet → (text verilog : List ℕ) (net : Circuit) → IsVerilogOf text verilog
    → netlists.ElaboratesTo verilog net → IsReadBack text net
was_read_back one text verilog net right stands = record {
  spec = right.spec;
  accepted = right.accepted;
  place_codes = right.right.place_codes;
  realizes = subst (λ n. Realizes right.spec n right.right.place_codes)
      (one verilog right.right.net net right.right.stands stands) right.right.realizes;
}

-- a text stands for a netlist or is refused
abbrev pub NeverBoth : Type 0
NeverBoth =
    (bytes : List ℕ) (a : Circuit) (r : Refusal) → netlists.ElaboratesTo bytes a → netlists.IsRefusedVerilog bytes r → ⊥

pub never_refused : NeverBoth → (text verilog : List ℕ) (r : Refusal) (fail : VlogFail) → IsVerilogOf text verilog
    → fail ≡ reads.Refused r → Reads verilog (Err fail) → ⊥
never_refused apart text verilog r fail right is answer =
    apart verilog right.right.net r right.right.stands (subst (λ f. Reads verilog (Err f)) is answer)
