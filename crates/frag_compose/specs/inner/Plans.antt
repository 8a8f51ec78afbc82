-- The plan of a tree's gates: what is left once `ends` and `stays` of each node have their wires.
use Rattle.std.specs.Prelude.{◌≡◌, ℕ, ◌+◌, ◌<◌, ◌≤◌, Bool, false, not, ◌&&◌, ◌||◌, nat_eq}
use Rattle.net_core.specs.declared.gate.Wire.{Wire}
use Rattle.net_core.specs.Rows.{Row, IsRow, value}
use Rattle.net_core.specs.Circuits.{Circuit, Exists}
use Rattle.net_core.specs.Building.{Means, input_pin}
use Rattle.pbs_ast.specs.Trees.{Tree}
use Rattle.pbs_ast.specs.Sound.{node_count}
use Rattle.pbs_machine.specs.Rows.{ends, stays, started, right_start, body_start}
use Rattle.frag_scopes.specs.declared.aborts.Up.{Up}
use Rattle.frag_compose.specs.inner.Fits.{is_leaf}
use Rattle.frag_compose.specs.declared.nodes.Risen.{Risen}
use Rattle.frag_compose.specs.declared.plan.Plan.{Plan}
use Rattle.frag_compose.specs.declared.plan.Plan.TheVariants.{Nothing, Leaf, Then', Either', Again', Watch'}

-- a leaf is reached in the row, where the plan is begun where s is 1 and kept where k is 1
abbrev pub plan_reaches : Row → Plan → Bool → Bool → ℕ → Bool
plan_reaches row Nothing s k leaf = false
plan_reaches row (Leaf n) s k leaf = nat_eq leaf n && s
plan_reaches row (Then' w skip p e q f) s k leaf =
    plan_reaches row e s k leaf || plan_reaches row f (right_start s k (value row w) skip) k leaf
plan_reaches row (Either' p e q f) s k leaf = plan_reaches row e s k leaf || plan_reaches row f s k leaf
plan_reaches row (Again' w p e) s k leaf = plan_reaches row e (body_start s k (value row w)) k leaf
plan_reaches row (Watch' body trap p e q x u h) s k leaf =
    (plan_reaches row e s (k && not (value row trap.ends)) leaf
    || plan_reaches row x s ((k && not (value row trap.ends)) && value row body.stays) leaf)
    || plan_reaches row h (value row trap.ends && k) k leaf

-- the wire is there, and no input
pub record IsInner (c : Circuit) (w : Wire) : Type 0 where
  pub there : Exists c w
  pub inner : input_pin w ≡ 0

pub record AreInner (c : Circuit) (up : Up) : Type 0 where
  pub ends : IsInner c up.ends
  pub stays : IsInner c up.stays

-- its wires are there and no inputs, and its leaves are below n
abbrev pub PlanFits : Circuit → ℕ → Plan → Type 0
PlanFits c n Nothing = Unit {0}
PlanFits c n (Leaf l) = l < n
PlanFits c n (Then' w skip p e q f) = IsInner c w × PlanFits c n e × PlanFits c n f
PlanFits c n (Either' p e q f) = PlanFits c n e × PlanFits c n f
PlanFits c n (Again' w p e) = IsInner c w × PlanFits c n e
PlanFits c n (Watch' body trap p e q x u h) =
    IsInner c body.stays × IsInner c trap.ends × PlanFits c n e × PlanFits c n x × PlanFits c n h

abbrev pub plan_nodes : Plan → ℕ
plan_nodes Nothing = 1
plan_nodes (Leaf l) = 1
plan_nodes (Then' w skip p e q f) = 1 + (plan_nodes e + plan_nodes f)
plan_nodes (Either' p e q f) = 1 + (plan_nodes e + plan_nodes f)
plan_nodes (Again' w p e) = 1 + plan_nodes e
plan_nodes (Watch' body trap p e q x u h) = 1 + (plan_nodes e + (plan_nodes x + plan_nodes h))

-- ---- a plan of two or three, whatever boxes they are in

pub record IsThen (plan : Plan) (w : Wire) (skip : Bool) (e f : Plan) : Type 0 where
  pub reaches : (row : Row) (s k : Bool) (leaf : ℕ) → plan_reaches row plan s k leaf
      ≡ (plan_reaches row e s k leaf || plan_reaches row f (right_start s k (value row w) skip) k leaf)
  pub fits : (c : Circuit) (n : ℕ) → IsInner c w → PlanFits c n e → PlanFits c n f → PlanFits c n plan
  pub nodes : plan_nodes plan ≡ 1 + (plan_nodes e + plan_nodes f)

pub record IsEither (plan e f : Plan) : Type 0 where
  pub reaches : (row : Row) (s k : Bool) (leaf : ℕ) → plan_reaches row plan s k leaf
      ≡ (plan_reaches row e s k leaf || plan_reaches row f s k leaf)
  pub fits : (c : Circuit) (n : ℕ) → PlanFits c n e → PlanFits c n f → PlanFits c n plan
  pub nodes : plan_nodes plan ≡ 1 + (plan_nodes e + plan_nodes f)

pub record IsAgain (plan : Plan) (w : Wire) (e : Plan) : Type 0 where
  pub reaches : (row : Row) (s k : Bool) (leaf : ℕ) → plan_reaches row plan s k leaf
      ≡ plan_reaches row e (body_start s k (value row w)) k leaf
  pub fits : (c : Circuit) (n : ℕ) → IsInner c w → PlanFits c n e → PlanFits c n plan
  pub nodes : plan_nodes plan ≡ 1 + plan_nodes e

pub record IsWatch (plan : Plan) (body trap : Up) (e x h : Plan) : Type 0 where
  pub reaches : (row : Row) (s k : Bool) (leaf : ℕ) → plan_reaches row plan s k leaf
      ≡ ((plan_reaches row e s (k && not (value row trap.ends)) leaf
      || plan_reaches row x s ((k && not (value row trap.ends)) && value row body.stays) leaf)
      || plan_reaches row h (value row trap.ends && k) k leaf)
  pub fits : (c : Circuit) (n : ℕ) → IsInner c body.stays → IsInner c trap.ends
      → PlanFits c n e → PlanFits c n x → PlanFits c n h → PlanFits c n plan
  pub nodes : plan_nodes plan ≡ 1 + (plan_nodes e + (plan_nodes x + plan_nodes h))

-- ---- a node

-- what the nodes above and the leaves of a node are told in a row
pub record Signals : Type 0 where
  pub ends_in : Row → Bool
  pub stays_in : Row → Bool
  pub reaches_in : Row → Bool → Bool → ℕ → Bool
  pub nodes : ℕ

-- a node's wires and plan have these meanings in every row
pub record Rises (c : Circuit) (leaves : ℕ) (risen : Risen) (signals : Signals) : Type 0 where
  pub up_ends : Means c risen.up.ends signals.ends_in
  pub up_stays : Means c risen.up.stays signals.stays_in
  pub fits : PlanFits c leaves risen.plan
  pub same : (row : Row) → IsRow c.gates row → (s k : Bool) (leaf : ℕ)
      → plan_reaches row risen.plan s k leaf ≡ signals.reaches_in row s k leaf
  pub few : plan_nodes risen.plan ≤ signals.nodes

-- those of the tree's controller under this outer wire
abbrev pub signals_of : ℕ → Tree → Wire → Signals
signals_of n tree outer = record {
  ends_in = λ row. ends tree row.registers row.vector (value row outer);
  stays_in = λ row. stays tree row.registers row.vector (value row outer);
  reaches_in = λ row s k leaf. started tree (is_leaf n leaf) row.registers row.vector (value row outer) s k;
  nodes = node_count tree;
}

abbrev pub RisesTo : Circuit → ℕ → ℕ → Tree → Wire → Risen → Type 0
RisesTo c n m tree outer risen = Rises c (n + m) risen (signals_of n tree outer)
