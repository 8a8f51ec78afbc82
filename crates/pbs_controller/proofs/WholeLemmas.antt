-- The controller from what was composed, what levels were added and what outputs.
use Rattle.std.proofs.Common.{◌≡◌, ◌<◌, ◌≤◌, ◌+◌, ◌*◌, Bool, false, ℕ, zero, suc, List, [], ◌∷◌, ◌++◌, length}
use Rattle.std.proofs.Common.{Some, sym, ap, subst, ◌∙◌, arith, codes, length-append}
use Rattle.std.specs.Prelude.{slice_get}
use Rattle.std.proofs.lemmas.List.{get_or_append_left, get_or-append-add}
use Rattle.std.proofs.lemmas.Option.{slice_get_within}
use Rattle.pbs_base.specs.declared.entry.Entry.{Entry}
use Rattle.pbs_ast.specs.Trees.{Tree}
use Rattle.pbs_ast.specs.Sound.{place_count}
use Rattle.net_core.specs.declared.gate.Wire.{Wire}
use Rattle.net_core.specs.declared.gate.Wire.TheVariants.{Const}
use Rattle.net_core.specs.Rows.{Row, value}
use Rattle.net_core.specs.Circuits.{Circuit, Exists, IsBuilt, IsCircuit, output_names, wire_at}
use Rattle.net_core.specs.Building.{Keeps, HasAll, gate_input_pins, input_pin, input_pins}
use Rattle.net_core.specs.Runs.{IsRun}
use Rattle.net_core.proofs.Growth.{later_keeps}
use Rattle.frag_compose.specs.Composes.{Composes, Follows, FollowsRow}
use Rattle.act_schedule.specs.declared.plan.PlanLevel.{PlanLevel}
use Rattle.act_schedule.specs.Levels.{level_value}
use Rattle.act_schedule.specs.Circuits.{AddsLevels, FollowsLevel, FollowsLevels, fired_in}
use Rattle.pbs_controller.specs.Ports.{ports_of, output_ports}
use Rattle.pbs_controller.specs.Outputs.{Shows, AddedLast}
use Rattle.pbs_controller.specs.Controllers.{IsController, ShowsLevels, ShowsRow, row_fires}
use Rattle.pbs_controller.proofs.OutputLemmas.{unread}

-- what holds of each wire of two lists, holds of each of both
all_of_both : (P : Wire → Type 0) (xs ys : List Wire) → ((n : ℕ) → n < length xs → P (wire_at xs n))
    → ((n : ℕ) → n < length ys → P (wire_at ys n)) → (n : ℕ) → n < length (xs ++ ys) → P (wire_at (xs ++ ys) n)
all_of_both P [] ys first second n h = second n h
all_of_both P (x ∷ xs) ys first second zero h = first zero (omega arith)
all_of_both P (x ∷ xs) ys first second (suc n) h =
    all_of_both P xs ys (λ n h. first (suc n) (omega arith)) second n (omega arith)

pub has_both : (c : Circuit) (xs ys : List Wire) → HasAll c xs → HasAll c ys → HasAll c (xs ++ ys)
has_both c xs ys first second = record {
  each = all_of_both (λ w. Exists c w) xs ys first.each second.each;
  inner = all_of_both (λ w. input_pin w ≡ 0) xs ys first.inner second.inner;
}

pub has_later : (c d : Circuit) (ws : List Wire) → Keeps c d → HasAll c ws → HasAll d ws
has_later c d ws keeps all = record {
  each = λ n h. keeps.there (wire_at ws n) (all.each n h);
  inner = all.inner;
}

-- the level's value depends only on which actions fire
abbrev pub FiresDecide : Type 0
FiresDecide =
    (level : PlanLevel) (m : ℕ) (v : List Entry) (fired other : ℕ → ℕ → Bool) (k : ℕ)
    → ((j : ℕ) → j ≤ k → (a : ℕ) → a < m → fired j a ≡ other j a)
    → level_value level m v fired k ≡ level_value level m v other k

-- what was composed, what levels were added to it, and what outputs
pub record Built (main : Tree) (m : ℕ) (plan : List PlanLevel) (empty composed laid net : Circuit)
    (fires values : List Wire) : Type 0 where
  pub none : empty.gates ≡ []
  pub bare : empty.registers ≡ []
  pub circuit : Composes empty composed main m fires
  pub runs : (n : Circuit) → Keeps composed n → Follows n fires main m
  pub levels : AddsLevels composed laid plan fires values
  pub level_runs : (n : Circuit) → Keeps laid n → FollowsLevels n (length composed.registers) plan fires values
  pub keeps : Keeps laid net
  pub registers : net.registers ≡ laid.registers
  pub gates : length net.gates ≡ length laid.gates + (m + length plan)
  pub shows : Shows net (fires ++ values) (m + length plan)
  pub pins : gate_input_pins net.gates ≤ gate_input_pins laid.gates
  pub last : AddedLast laid net
  pub right : IsCircuit net

module _ (decide : FiresDecide) (main : Tree) (m : ℕ) (plan : List PlanLevel) (empty composed laid net : Circuit)
    (fires values : List Wire) (built : Built main m plan empty composed laid net fires values) where
  kept : Keeps composed net
  kept = later_keeps composed laid net built.levels.keeps built.keeps

  module _ (v : List Entry) (rows : ℕ → Row) (run : IsRun net v rows) where
    shows_row : (k : ℕ) → k ≤ length v → FollowsRow net fires main m v rows k → ShowsRow net main m v rows k
    shows_row k le follows = record {
      registers = follows.registers;
      outputs = λ a less.
          built.shows.shown a (omega arith) (rows k) (run.each k le)
          ∙ ap (value (rows k))
          (get_or_append_left fires values (Const false) a (omega (arith, less, built.circuit.actions)))
          ∙ follows.fire_wires a less;
    }

    -- the value over the fire wires is that over the actions
    same_value : (k : ℕ) → ((j : ℕ) → j ≤ k → FollowsRow net fires main m v rows j) → (level : PlanLevel)
        → level_value level (length fires) v (fired_in rows fires) k ≡ level_value level m v (row_fires main v) k
    same_value k follows level =
        ap (λ n. level_value level n v (fired_in rows fires) k) built.circuit.actions
        ∙ decide level m v (fired_in rows fires) (row_fires main v) k (λ j le a less. (follows j le).fire_wires a less)

    level_follows : (k : ℕ) → k ≤ length v → (l : ℕ) (level : PlanLevel) → slice_get plan l ≡ Some level
        → FollowsLevel net (length composed.registers + l) level fires (wire_at values l) v rows k
    level_follows k le l level at = (built.level_runs net built.keeps).at_row v rows run k le l level at

    shows_levels : (k : ℕ) → k ≤ length v → ((j : ℕ) → j ≤ k → FollowsRow net fires main m v rows j)
        → ShowsLevels net main (place_count main) m plan v rows k
    shows_levels k le follows = record {
      registers = λ l level at.
          ap (λ p. value (rows k) (wire_at net.registers (p + l))) (sym built.circuit.places)
          ∙ (level_follows k le l level at).register_value ∙ same_value k follows level;
      outputs = λ l level at.
          let less = slice_get_within plan l level at in
          let behind : wire_at (fires ++ values) (m + l) ≡ wire_at values l =
          ap (λ n. wire_at (fires ++ values) (n + l)) (sym built.circuit.actions)
          ∙ get_or-append-add fires values l (Const false) in
          built.shows.shown (m + l) (omega (arith, less)) (rows k) (run.each k le)
          ∙ ap (value (rows k)) behind ∙ (level_follows k le l level at).wire_value ∙ same_value k follows level;
    }

  all_there : HasAll laid laid.registers
  all_there = subst (HasAll laid) (sym built.levels.registers)
      (has_both laid composed.registers values
      (has_later composed laid composed.registers built.levels.keeps built.circuit.data_wires)
      built.levels.wires_there)

  pins_few : gate_input_pins laid.gates + input_pins laid.registers
      ≤ gate_input_pins composed.gates + input_pins composed.registers
  pins_few = built.levels.few_pins built.circuit.fires_there.inner

  register_count : length net.registers ≡ place_count main + length plan
  register_count =
      let longer = length-append composed.registers values in
      omega (
        arith,
        ap length built.registers,
        ap length built.levels.registers,
        longer,
        built.circuit.places,
        built.levels.count,
      )

pub is_controller : (inputs actions levels : List (List ℕ)) (plan : List PlanLevel) (main : Tree)
    (empty composed laid net : Circuit) (fires values : List Wire) → FiresDecide
    → Built main (length actions) plan empty composed laid net fires values → IsBuilt net.gates
    → net.inputs ≡ ports_of (codes "i_") inputs → output_names net ≡ output_ports actions levels
    → IsController inputs actions levels plan main net
is_controller inputs actions levels plan main empty composed laid net fires values decide built plain in_names
    out_names =
    let m = length actions in
    record {
      writable = record {
        circuit = built.right;
        inputs_named = in_names;
        outputs_named = out_names;
        plain = plain;
        few_gates =
            let each = built.levels.few_each in
            let same = ap (λ n. length plan * (1 + n)) built.circuit.actions in
            omega (arith, built.gates, each, same, built.circuit.few, ap length built.none);
        few_registers = omega (
          arith,
          register_count decide main m plan empty composed laid net fires values built,
        );
        few_pins = omega (
          arith,
          built.pins,
          ap input_pins built.registers,
          pins_few decide main m plan empty composed laid net fires values built,
          built.circuit.few_pins,
          ap gate_input_pins built.none,
          ap input_pins built.bare,
        );
        unread = unread laid net built.last built.right
            (subst (HasAll laid) (sym built.registers)
            (all_there decide main m plan empty composed laid net fires values built));
      };
      few = omega (arith, built.gates, built.levels.few, built.circuit.few, ap length built.none);
      registers = register_count decide main m plan empty composed laid net fires values built;
      shows = λ v rows run k le apart.
          shows_row decide main m plan empty composed laid net fires values built v rows run k le
          ((built.runs net (kept decide main m plan empty composed laid net fires values built)).at_row
          v rows run k le apart);
      shows_levels = λ v rows run k le apart.
          shows_levels decide main m plan empty composed laid net fires values built v rows run k le (λ j low.
          (built.runs net (kept decide main m plan empty composed laid net fires values built)).at_row
          v rows run j (omega arith) (apart j low));
    }
