-- A controller without the gates that it doesn't need.
use Rattle.std.proofs.Common.{◌≡◌, ◌+◌, ◌*◌, ◌≤◌, ℕ, zero, suc, Bool, false, List, [], ◌∷◌, length, arith, subst, ap, ◌∙◌}
use Rattle.std.proofs.Common.{sym, refl, inl, inr}
use Rattle.std.specs.Prelude.{◌&&◌}
use Rattle.std.proofs.lemmas.Bool.{cases_lt}
use Rattle.std.proofs.lemmas.List.{length-map}
use Rattle.std.proofs.lemmas.Option.{slice_get_within}
use Rattle.pbs_base.specs.declared.entry.Entry.{Entry}
use Rattle.pbs_ast.specs.declared.syntax.Level.{Level}
use Rattle.pbs_ast.specs.declared.syntax.Spec.{Spec}
use Rattle.pbs_ast.specs.Trees.{Tree}
use Rattle.pbs_names.specs.Naming.{action_names, level_names}
use Rattle.net_core.specs.declared.gate.Wire.{Wire}
use Rattle.net_core.specs.declared.gate.Wire.TheVariants.{Const}
use Rattle.net_core.specs.declared.codes.Literal.{Literal}
use Rattle.net_core.specs.declared.codes.Code.{Code}
use Rattle.net_core.specs.declared.codes.Code.TheVariants.{Never, Bits}
use Rattle.net_core.specs.declared.netlist.Output.{Output}
use Rattle.net_core.specs.Rows.{Row, value}
use Rattle.net_core.specs.Circuits.{Circuit, wire_at}
use Rattle.net_core.specs.Building.{gate_input_pins, input_pins}
use Rattle.net_core.specs.Runs.{IsRun, next_of}
use Rattle.net_encode.specs.Codes.{IsDue, agrees, all_hold, tells}
use Rattle.net_tidy.specs.Follows.{ShowsSame}
use Rattle.pbs_controller.proofs.PortLemmas.{length-outputs}
use Rattle.pbs_realize.specs.Codes.{row_stands}
use Rattle.pbs_realize.specs.Realizes.{ShowsDue, level_plan}
use Rattle.pbs_realize.specs.inner.Coding.{IsCoded, Kept, Tidied, Tidies}
use Rattle.pbs_realize.specs.inner.Shrinking.{Shrinks}
use Rattle.pbs_realize.proofs.CodedLemmas.{plan_length}

none_there : (ws : List Wire) (r : ℕ) → length ws ≤ r → wire_at ws r ≡ Const false
none_there [] r h = refl
none_there (w ∷ ws) zero h = absurd (omega arith)
none_there (w ∷ ws) (suc r) h = none_there ws r (omega arith)

-- registers with the same values tell the same places
all_same : (f g : ℕ → Bool) → ((r : ℕ) → f r ≡ g r) → (ls : List Literal) → all_hold f ls ≡ all_hold g ls
all_same f g same [] = refl
all_same f g same (l ∷ ls) =
    ap (λ b. agrees l.value b && all_hold f ls) (same l.reg)
    ∙ ap (λ b. agrees l.value (g l.reg) && b) (all_same f g same ls)

tells_same : (f g : ℕ → Bool) → ((r : ℕ) → f r ≡ g r) → (c : Code) → tells f c ≡ tells g c
tells_same f g same Never = refl
tells_same f g same (Bits ls) = all_same f g same ls

more_gates : (new old rest each : ℕ) → new ≤ old + each → old ≤ rest + 1 * each → new ≤ rest + 2 * each
more_gates new old rest each le few = omega arith

module _ (spec : Spec) (tree : Tree) (old new : Circuit) (place_codes : List Code)
    (made : IsCoded 1 spec tree old place_codes) where
  abbrev m : ℕ
  m = length (action_names spec.actions)

  output_count : length old.outputs ≡ m + length (level_plan spec)
  output_count =
      let named = length-map old.outputs (λ (o : Output). o.name) in
      let same = ap length made.writable.outputs_named in
      let both = length-outputs (action_names spec.actions) (level_names spec.levels) in
      let levels = length-map spec.levels (λ (l : Level). l.name) in
      omega (arith, named, same, both, levels, plan_length spec)

  module _ (shrinks : Shrinks old new) where
    next_same : (of row : Row) → ShowsSame old new of row → (r : ℕ) → next_of new row r ≡ next_of old of r
    next_same of row matches r = elim (cases_lt r (length old.registers)) [
      | inl low ↦ matches.next r low
      | inr high ↦
          ap (value row) (none_there new.registers r (omega (arith, high, shrinks.registers)))
          ∙ sym (ap (value of) (none_there old.registers r high))
    ]

    shows_tidied : (v : List Entry) (rows : ℕ → Row) → IsRun new v rows → (k : ℕ) → k ≤ length v
        → ShowsDue new tree made.places place_codes m (level_plan spec) v rows k
    shows_tidied v rows run k le =
        let found = shrinks.same.runs v rows run in
        let of = found.0 in
        let row = found.2 k le in
        let same = next_same (of k) (rows k) row in
        let shown = made.shows v of found.1 k le in
        record {
          fires = λ a less. row.outputs a (omega (arith, less, output_count)) ∙ shown.fires a less;
          levels = record {
            registers = λ l level at. same (made.places + l) ∙ shown.levels.registers l level at;
            outputs = λ l level at.
                let less = slice_get_within (level_plan spec) l level at in
                row.outputs (m + l) (omega (arith, less, output_count)) ∙ shown.levels.outputs l level at;
          };
          places = record {
            told = λ p code at.
                tells_same (next_of new (rows k)) (next_of old (of k)) same code ∙ shown.places.told p code at;
            due = λ r less.
                subst (IsDue (row_stands tree v k) place_codes r) (sym (same r)) (shown.places.due r less);
          };
        }

    tidied : gate_input_pins new.gates + input_pins new.registers ≤ 32768 → IsCoded 2 spec tree new place_codes
    tidied pins = record {
      places = made.places;
      coded = made.coded;
      few_places = made.few_places;
      pins = 32768;
      few_pins = inr (omega arith);
      writable = record {
        circuit = shrinks.circuit;
        inputs_named = shrinks.inputs ∙ made.writable.inputs_named;
        outputs_named = shrinks.outputs ∙ made.writable.outputs_named;
        plain = shrinks.built made.writable.plain;
        few_gates = more_gates (length new.gates) (length old.gates) _ (m + length (level_plan spec))
            (subst (λ n. length new.gates ≤ length old.gates + n) output_count shrinks.few) made.writable.few_gates;
        few_registers = let few = made.writable.few_registers in omega (arith, few, shrinks.registers);
        few_pins = pins;
        unread = shrinks.unread;
      };
      few = more_gates (length new.gates) (length old.gates) _ (m + length (level_plan spec))
          (subst (λ n. length new.gates ≤ length old.gates + n) output_count shrinks.few) made.few;
      registers = shrinks.registers ∙ made.registers;
      shows = shows_tidied;
    }

  kept : IsCoded 2 spec tree old place_codes
  kept = record {
    places = made.places;
    coded = made.coded;
    few_places = made.few_places;
    pins = made.pins;
    few_pins = made.few_pins;
    writable = record {
      circuit = made.writable.circuit;
      inputs_named = made.writable.inputs_named;
      outputs_named = made.writable.outputs_named;
      plain = made.writable.plain;
      few_gates = more_gates (length old.gates) (length old.gates) _ (m + length (level_plan spec)) (omega arith)
          made.writable.few_gates;
      few_registers = made.writable.few_registers;
      few_pins = made.writable.few_pins;
      unread = made.writable.unread;
    };
    few = more_gates (length old.gates) (length old.gates) _ (m + length (level_plan spec)) (omega arith) made.few;
    registers = made.registers;
    shows = made.shows;
  }

  pub is_tidied : Tidies old new → IsCoded 2 spec tree new place_codes
  is_tidied (Tidied shrinks pins) = tidied shrinks pins
  is_tidied (Kept same) = subst (λ net. IsCoded 2 spec tree net place_codes) (sym same) kept
