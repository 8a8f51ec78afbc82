use Rattle.std.proofs.Common.{◌∙◌, length, sym, ap, subst, arith}
use Rattle.pbs_ast.specs.Trees.{tree_of}
use Rattle.pbs_ast.specs.Sound.{place_count}
use Rattle.net_encode.specs.Encodings.{Encodes, IsOwnMap}
use Rattle.pbs_codes.specs.Sharing.{IsSharedBy}
use Rattle.pbs_realize.specs.inner.Coding.{ByPlan}
use Rattle.pbs_realize.proofs.OwnCodes.{own_length, own_map}
use Rattle.pbs_realize.proofs.coding.coded.Goals as goal

pub encode-requires-clause-map : goal.encode-requires-clause-map
encode-requires-clause-map c =
    subst IsOwnMap (sym c.requires.map) (own_map (place_count (tree_of c.args.main.now.tree)))

pub encode-requires-clause-places : goal.encode-requires-clause-places
encode-requires-clause-places c =
    let shared : IsSharedBy (tree_of c.args.main.now.tree) c.in-Some.plan = rw c.in-Some.is at c.in_ok-plan.ensures in
    ap length c.requires.map ∙ (own_length (place_count (tree_of c.args.main.now.tree)) ∙ sym shared.planned.each)

pub encode-requires-clause-registers : goal.encode-requires-clause-registers
encode-requires-clause-registers c =
    let count = own_length (place_count (tree_of c.args.main.now.tree)) in
    let enough = c.requires.registers in
    omega (arith, ap length c.requires.map, count, enough)

pub returns-in_ok-net-in-Some : goal.returns-in_ok-net-in-Some
returns-in_ok-net-in-Some c =
    let plan = c.in-Some.plan in
    let shared : IsSharedBy (tree_of c.args.main.now.tree) plan = rw c.in-Some.is at c.in_ok-plan.ensures in
    let made = c.in_ok-net-in-Some in
    ByPlan plan shared
    (subst (λ n. Encodes c.args.own.net made.net n plan)
    (ap length c.requires.map ∙ own_length (place_count (tree_of c.args.main.now.tree))) made.ensures.netlist)
    made.ensures.map
