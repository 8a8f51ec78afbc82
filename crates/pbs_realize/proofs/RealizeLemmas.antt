-- What is made of a specification is right.
use Rattle.std.proofs.Common.{◌≡◌, ◌+◌, ◌*◌, ◌≤◌, ℕ, List, length, None, codes, map, sum, arith, subst, ap, ◌∙◌}
use Rattle.std.proofs.Common.{inl, inr}
use Rattle.std.proofs.lemmas.List.{length-map}
use Rattle.std.proofs.lemmas.Nat.{mul-le}
use Rattle.pbs_ast.specs.declared.syntax.Decl.{Decl}
use Rattle.pbs_ast.specs.declared.syntax.Level.{Level}
use Rattle.pbs_ast.specs.declared.syntax.Spec.{Spec}
use Rattle.pbs_ast.specs.Trees.{Tree}
use Rattle.pbs_ast.specs.Sound.{node_count, place_count}
use Rattle.pbs_text.specs.Answers.{StandsFor}
use Rattle.pbs_names.specs.Naming.{input_names, action_names, level_names}
use Rattle.pbs_check.specs.Checked.{IsUnbroken}
use Rattle.pbs_expand.specs.Expanded.{expanded, refusal}
use Rattle.act_schedule.specs.Circuits.{level_units}
use Rattle.net_core.specs.declared.codes.Code.{Code}
use Rattle.net_core.specs.Circuits.{Circuit}
use Rattle.vlog_text.specs.Emitted.{emitted}
use Rattle.vlog_text.specs.Reading.{ElaboratesTo}
use Rattle.pbs_controller.specs.Controllers.{IsWritable}
use Rattle.pbs_controller.specs.Ports.{ports_of, output_ports}
use Rattle.pbs_controller.proofs.PlanLemmas.{units_few}
use Rattle.pbs_realize.specs.Realizes.{Realizes, level_plan}
use Rattle.pbs_realize.specs.inner.Coding.{IsCoded, gate_limit}
use Rattle.pbs_realize.proofs.Counted.{places_few, small}
use Rattle.pbs_realize.proofs.CodedLemmas.{plan_length}

-- the number of assignments of the levels
abbrev set_count : Spec → ℕ
set_count spec = sum (map (λ (l : Level). length l.sets) spec.levels)

few_gates : (gates nodes places inputs actions levels sets units plans : ℕ)
    → gates ≤ 20 * nodes + 8 * places + 2 * units + 2 * (actions + plans) → places ≤ nodes → units ≤ levels + sets
    → plans ≡ levels → gates ≤ 32 * (nodes + inputs + actions + levels + sets)
few_gates gates nodes places inputs actions levels sets units plans le low few same = omega arith

pub realizes : (spec : Spec) (tree : Tree) (net : Circuit) (place_codes : List Code) → tree ≡ expanded spec
    → IsCoded 2 spec tree net place_codes → Realizes spec net place_codes
realizes spec tree net place_codes is made =
    let coded = subst (λ t. IsCoded 2 spec t net place_codes) is made in
    let main = expanded spec in record {
      circuit = coded.writable.circuit;
      inputs = coded.writable.inputs_named;
      outputs = coded.writable.outputs_named;
      places = coded.places;
      coded = coded.coded;
      few_places = coded.few_places;
      registers = coded.registers ∙ ap (λ n. coded.places + n) (plan_length spec);
      shows = coded.shows;
      plain = coded.writable.plain;
      few = few_gates (length net.gates) (node_count main) (place_count main) (length (input_names spec.inputs))
          (length (action_names spec.actions)) (length spec.levels) (set_count spec) (level_units (level_plan spec))
          (length (level_plan spec)) coded.few (places_few main) (units_few (action_names spec.actions) spec.levels)
          (plan_length spec);
    }

-- what is written for a netlist with the ports of a specification stands for it, if it is small enough
abbrev pub EmittedStands : Type 0
EmittedStands =
    (text : List ℕ) (spec : Spec) (gates registers pins : ℕ) (net : Circuit) → StandsFor text spec → IsUnbroken spec
    → IsWritable (ports_of (codes "i_") (input_names spec.inputs))
    (output_ports (action_names spec.actions) (level_names spec.levels)) gates registers pins net
    → gates ≤ 1185792 → registers ≤ 4160 → pins ≤ 32768 → ElaboratesTo (emitted net) net

-- at most 64 levels have at most two gates for each of at most 64 actions, and two more
few_products : (levels actions : ℕ) → levels ≤ 64 → actions ≤ 64 → levels * (1 + actions) ≤ 64 * 65
few_products levels actions low small_too = mul-le levels (1 + actions) 64 65 low (omega arith)

gates_fit : (nodes places product actions levels : ℕ) → nodes ≤ 32768 → places ≤ 4096 → product ≤ 64 * 65
    → actions ≤ 64 → levels ≤ 64 → 20 * nodes + 8 * places + 2 * product + 2 * (actions + levels) ≤ 1185792
gates_fit nodes places product actions levels a b c d e = omega arith

-- the controller of a specification is small enough
pub coded_stands : EmittedStands → (spec : Spec) (tree : Tree) (net : Circuit) (place_codes : List Code)
    → tree ≡ expanded spec → IsUnbroken spec → refusal spec ≡ None → length spec.actions ≤ 64
    → length spec.levels ≤ 64 → IsCoded 2 spec tree net place_codes → (text : List ℕ) → StandsFor text spec
    → ElaboratesTo (emitted net) net
coded_stands stands spec tree net place_codes is unbroken none few few_levels made text read =
    let coded = subst (λ t. IsCoded 2 spec t net place_codes) is made in
    let main = expanded spec in
    let within = small spec none in
    let nodes = within.nodes in
    let places = within.places in
    let leaves = within.leaves in
    let m = length (action_names spec.actions) in
    let l = length (level_plan spec) in
    let actions : m ≤ 64 = omega (arith, few, length-map spec.actions (λ (d : Decl). d.name)) in
    let levels : l ≤ 64 = omega (arith, few_levels, plan_length spec) in
    stands text spec (gate_limit 2 spec main) (place_count main + l) coded.pins net read unbroken
    coded.writable
    (gates_fit (node_count main) (place_count main) (l * (1 + m)) m l nodes places (few_products l m levels actions)
    actions levels) (omega arith)
    (elim coded.few_pins [ inl low ↦ omega (arith, low, leaves) | inr low ↦ low ])
