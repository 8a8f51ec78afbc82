-- `==` on nodes and on the keys of the tables is equality.
use Rattle.std.proofs.Common.{◌≡◌, ℕ, Bool, true, false, ◌&&◌, refl, ap, ◌∙◌}
use Rattle.std.proofs.lemmas.Bool.{eqb-true, false≢true}
use Rattle.bool_bdd.specs.declared.node.Node.{Node}
use Rattle.bool_bdd.specs.declared.node.Node.TheVariants.{Leaf, Inner}
use Rattle.bool_bdd.specs.declared.node.Branch.{Branch}
use Rattle.bool_bdd.specs.declared.node.Choice.{Choice}
use Rattle.bool_bdd.specs.declared.node.Pair.{Pair}
use Rattle.bool_bdd.specs.Members.{node_eq, branch_eq, choice_eq, pair_eq}

pub same_node : (x y : Node) → node_eq x y ≡ true → x ≡ y
same_node (Leaf true) (Leaf true) e = refl
same_node (Leaf false) (Leaf false) e = refl
same_node (Leaf true) (Leaf false) e = absurd (false≢true e)
same_node (Leaf false) (Leaf true) e = absurd (false≢true e)
same_node (Leaf a) (Inner m) e = absurd (false≢true e)
same_node (Inner m) (Leaf a) e = absurd (false≢true e)
same_node (Inner m) (Inner n) e = ap Inner (eqb-true m n e)

left_true : (a b : Bool) → (a && b) ≡ true → a ≡ true
left_true true b e = refl
left_true false b e = absurd (false≢true e)

right_true : (a b : Bool) → (a && b) ≡ true → b ≡ true
right_true true b e = e
right_true false b e = absurd (false≢true e)

abbrev branch_of : ℕ → Node → Node → Branch
branch_of k low high = record { variable = k; low = low; high = high }

pub same_branch : (x y : Branch) → branch_eq x y ≡ true → x ≡ y
same_branch x y e =
    let variable : x.variable ≡ y.variable = eqb-true x.variable y.variable (left_true _ _ e) in
    let low : x.low ≡ y.low = same_node x.low y.low (left_true _ _ (right_true _ _ e)) in
    let high : x.high ≡ y.high = same_node x.high y.high (right_true _ _ (right_true _ _ e)) in
    ap (λ k. branch_of k x.low x.high) variable
    ∙ (ap (λ n. branch_of y.variable n x.high) low ∙ ap (λ n. branch_of y.variable y.low n) high)

abbrev choice_of : Node → Node → Node → Choice
choice_of test a b = record { test = test; if_true = a; if_false = b }

pub same_choice : (x y : Choice) → choice_eq x y ≡ true → x ≡ y
same_choice x y e =
    let test : x.test ≡ y.test = same_node x.test y.test (left_true _ _ e) in
    let when_true : x.if_true ≡ y.if_true = same_node x.if_true y.if_true (left_true _ _ (right_true _ _ e)) in
    let when_false : x.if_false ≡ y.if_false = same_node x.if_false y.if_false (right_true _ _ (right_true _ _ e)) in
    ap (λ n. choice_of n x.if_true x.if_false) test
    ∙ (ap (λ n. choice_of y.test n x.if_false) when_true ∙ ap (λ n. choice_of y.test y.if_true n) when_false)

abbrev pair_of : Node → Node → Pair
pair_of left right = record { left = left; right = right }

pub same_pair : (x y : Pair) → pair_eq x y ≡ true → x ≡ y
same_pair x y e =
    let left : x.left ≡ y.left = same_node x.left y.left (left_true _ _ e) in
    let right : x.right ≡ y.right = same_node x.right y.right (right_true _ _ e) in
    ap (λ n. pair_of n x.right) left ∙ ap (λ n. pair_of y.left n) right
