-- A controller whose places share registers where they can.
use Rattle.std.proofs.Common.{◌≡◌, ◌+◌, ◌*◌, ◌≤◌, ℕ, List, length, arith, subst, ap, ◌∙◌, sym, inl}
use Rattle.std.specs.Prelude.{IsTrue}
use Rattle.std.proofs.lemmas.List.{length-map}
use Rattle.pbs_base.specs.declared.entry.Entry.{Entry}
use Rattle.pbs_base.specs.Entries.{since}
use Rattle.pbs_ast.specs.declared.syntax.Level.{Level}
use Rattle.pbs_ast.specs.declared.syntax.Spec.{Spec}
use Rattle.pbs_ast.specs.Trees.{Tree}
use Rattle.pbs_ast.specs.Sound.{node_count, place_count, scopes_from, tree_input_leaves}
use Rattle.pbs_names.specs.Naming.{action_names, level_names}
use Rattle.pbs_derive.specs.Derivations.{NoOverlapBelow}
use Rattle.pbs_edges.specs.Walks.{BreaksNoScope}
use Rattle.act_schedule.specs.Circuits.{level_units}
use Rattle.net_core.specs.declared.codes.Code.{Code}
use Rattle.net_core.specs.declared.codes.CodePlan.{CodePlan}
use Rattle.net_core.specs.declared.netlist.Output.{Output}
use Rattle.net_core.specs.Rows.{Row}
use Rattle.net_core.specs.Circuits.{Circuit}
use Rattle.net_core.specs.Runs.{IsRun, next_of}
use Rattle.net_encode.specs.Codes.{code_registers, codes_of}
use Rattle.net_encode.specs.Encodings.{Encodes, ObeysAlways}
use Rattle.frag_compose.specs.Composes.{own_codes}
use Rattle.pbs_codes.specs.Sharing.{IsSharedBy, KeepsRegisters}
use Rattle.pbs_controller.specs.Controllers.{ShowsRow}
use Rattle.pbs_controller.specs.LevelPlans.{plan_of_level}
use Rattle.pbs_controller.proofs.PortLemmas.{length-outputs}
use Rattle.pbs_realize.specs.Codes.{Own, Shared}
use Rattle.pbs_realize.specs.Realizes.{ShowsDue, level_plan}
use Rattle.pbs_realize.specs.inner.Coding.{AsItWas, ByPlan, ControllerOf, IsCoded, Recodes}
use Rattle.pbs_realize.proofs.OwnCodes.{shows_own}
use Rattle.pbs_realize.proofs.SharedCodes.{obeys, shows_shared, levels_shared}

-- where no scope is refused, none is begun again while it is live
abbrev pub RuleIsSound : Type 0
RuleIsSound =
    (main : Tree) (v : List ℕ) (k : ℕ) → IsTrue (scopes_from main 0) → BreaksNoScope main → NoOverlapBelow main v k

pub plan_length : (spec : Spec) → length (level_plan spec) ≡ length spec.levels
plan_length spec = length-map spec.levels (λ l. plan_of_level (action_names spec.actions) l)

more_gates : (new old nodes places product actions levels : ℕ) → new ≤ old + 8 * places
    → old ≤ 20 * nodes + 2 * product + actions + levels
    → new ≤ 20 * nodes + 8 * places + 2 * product + 1 * (actions + levels)
more_gates new old nodes places product actions levels le few = omega arith

module _ (sound : RuleIsSound) (spec : Spec) (tree : Tree) (old : Circuit) (numbered : IsTrue (scopes_from tree 0))
    (none : BreaksNoScope tree) (made : ControllerOf spec tree old) where
  abbrev m : ℕ
  m = length (action_names spec.actions)

  apart : (v : List Entry) (j : ℕ) → NoOverlapBelow tree (since v j) (length (since v j))
  apart v j = sound tree (since v j) (length (since v j)) numbered none

  shown : (v : List Entry) (rows : ℕ → Row) → IsRun old v rows → (k : ℕ) → k ≤ length v
      → ShowsRow old tree m v rows k
  shown v rows run k le = made.shows v rows run k le (apart v k)

  output_count : length old.outputs ≡ m + length (level_plan spec)
  output_count =
      let named = length-map old.outputs (λ (o : Output). o.name) in
      let same = ap length made.writable.outputs_named in
      let both = length-outputs (action_names spec.actions) (level_names spec.levels) in
      let levels = length-map spec.levels (λ (l : Level). l.name) in
      omega (arith, named, same, both, levels, plan_length spec)

  -- each place keeps its own register
  as_it_was : KeepsRegisters tree → IsCoded 1 spec tree old (own_codes (place_count tree))
  as_it_was keeps = record {
    places = place_count tree;
    coded = Own keeps;
    few_places = omega arith;
    pins = tree_input_leaves tree;
    few_pins = inl (omega arith);
    writable = record {
      circuit = made.writable.circuit;
      inputs_named = made.writable.inputs_named;
      outputs_named = made.writable.outputs_named;
      plain = made.writable.plain;
      few_gates = more_gates (length old.gates) (length old.gates) (node_count tree) (place_count tree) _ m
          (length (level_plan spec)) (omega arith) made.writable.few_gates;
      few_registers = made.writable.few_registers;
      few_pins = made.writable.few_pins;
      unread = made.writable.unread;
    };
    few = more_gates (length old.gates) (length old.gates) (node_count tree) (place_count tree)
        (level_units (level_plan spec)) m (length (level_plan spec)) (omega arith) made.few;
    registers = made.registers;
    shows = λ v rows run k le. record {
      fires = (shown v rows run k le).outputs;
      levels = made.shows_levels v rows run k le (λ j low. apart v j);
      places = shows_own old tree v rows k (shown v rows run k le).registers;
    };
  }

  -- the places share registers by the plan
  module _ (plan : CodePlan) (shared : IsSharedBy tree plan) (new : Circuit)
      (encodes : Encodes old new (place_count tree) plan) where
    always : ObeysAlways old (place_count tree) plan
    always = record {
      each = λ v rows run k le. obeys tree plan shared (next_of old (rows k)) v k (shown v rows run k le).registers;
    }

    shows_by_plan : (v : List Entry) (rows : ℕ → Row) → IsRun new v rows → (k : ℕ) → k ≤ length v
        → ShowsDue new tree (code_registers plan.groups) (codes_of plan) m (level_plan spec) v rows k
    shows_by_plan v rows run k le =
        let both = encodes.runs always v rows run in
        let before = both.0 in
        let mirrors = both.1 in
        let row = shown v before mirrors.run k le in
        record {
          fires = λ a less. mirrors.outputs k a le (omega (arith, less, output_count)) ∙ row.outputs a less;
          levels = levels_shared tree plan shared old new v before rows mirrors k le m (level_plan spec) made.registers
              output_count (made.shows_levels v before mirrors.run k le (λ j low. apart v j));
          places = shows_shared tree plan shared old new v before rows mirrors k le row.registers;
        }

    by_plan : IsCoded 1 spec tree new (codes_of plan)
    by_plan = record {
      places = code_registers plan.groups;
      coded = Shared plan shared;
      few_places = encodes.few_registers;
      pins = tree_input_leaves tree;
      few_pins = inl (omega arith);
      writable = record {
        circuit = encodes.circuit;
        inputs_named = encodes.inputs ∙ made.writable.inputs_named;
        outputs_named = encodes.outputs ∙ made.writable.outputs_named;
        plain = encodes.plain made.writable.plain;
        few_gates = more_gates (length new.gates) (length old.gates) (node_count tree) (place_count tree) _ m
            (length (level_plan spec)) encodes.few made.writable.few_gates;
        few_registers = omega (arith, encodes.registers, encodes.few_registers, made.registers);
        few_pins = let few = encodes.few_pins in let low = made.writable.few_pins in omega arith;
        unread = encodes.unread made.writable.unread;
      };
      few = more_gates (length new.gates) (length old.gates) (node_count tree) (place_count tree)
          (level_units (level_plan spec)) m (length (level_plan spec)) encodes.few made.few;
      registers = omega (arith, encodes.registers, made.registers);
      shows = shows_by_plan;
    }

  pub is_coded : (new : Circuit) (place_codes : List Code) → Recodes tree old new place_codes
      → IsCoded 1 spec tree new place_codes
  is_coded new place_codes (ByPlan plan shared encodes is) =
      subst (IsCoded 1 spec tree new) (sym is) (by_plan plan shared new encodes)
  is_coded new place_codes (AsItWas keeps same is) =
      subst (λ net. IsCoded 1 spec tree net place_codes) (sym same)
      (subst (IsCoded 1 spec tree old) (sym is) (as_it_was keeps))
