-- What nodes mean, in a store and as it grows.
use Rattle.std.proofs.Common.{◌≡◌, ℕ, zero, suc, ◌<◌, ◌≤◌, Bool, true, false, nat_eq, if◌then◌else◌, List, length}
use Rattle.std.proofs.Common.{refl, sym, ap, ◌∙◌, arith}
use Rattle.std.proofs.lemmas.Bool.{eqb-true}
use Rattle.pbs_base.specs.Entries.{bit}
use Rattle.bool_bdd.specs.declared.node.Node.{Node}
use Rattle.bool_bdd.specs.declared.node.Node.TheVariants.{Leaf, Inner}
use Rattle.bool_bdd.specs.declared.node.Branch.{Branch}
use Rattle.bool_bdd.specs.Diagrams.{branch_at, child_of, next_of, comes_true, path_bound, node_holds, level, side_of}
use Rattle.bool_bdd.specs.Diagrams.{IsAmongFirst, IsNode, IsDiagram, Keeps, Grows}

pub holds_leaf : (nodes : List Branch) (b : Bool) (v : ℕ) → node_holds nodes (Leaf b) v ≡ b
unfolding node_holds
holds_leaf nodes b v = refl

pub among_more : (m n : ℕ) (c : Node) → m ≤ n → IsAmongFirst m c → IsAmongFirst n c
among_more m n (Leaf b) h p = tt
among_more m n (Inner k) h p = omega arith

bounded : (n : ℕ) (c : Node) → IsAmongFirst n c → path_bound c ≤ n
bounded n (Leaf b) p = omega arith
bounded n (Inner k) p = omega arith

child_among : (nodes : List Branch) (n : ℕ) (b : Bool) → IsDiagram nodes → n < length nodes
    → IsAmongFirst n (child_of (branch_at nodes n) b)
child_among nodes n true d h = (d.each n h).high_there
child_among nodes n false d h = (d.each n h).low_there

child_later : (nodes : List Branch) (n : ℕ) (b : Bool) → IsDiagram nodes → n < length nodes
    → (branch_at nodes n).variable < level nodes (child_of (branch_at nodes n) b)
child_later nodes n true d h = (d.each n h).high_later
child_later nodes n false d h = (d.each n h).low_later

child_there : (nodes : List Branch) (n : ℕ) (b : Bool) → IsDiagram nodes → n < length nodes
    → IsNode nodes (child_of (branch_at nodes n) b)
child_there nodes n b d h =
    among_more n (length nodes) (child_of (branch_at nodes n) b) (omega arith) (child_among nodes n b d h)

enough : (nodes : List Branch) (v : ℕ) → IsDiagram nodes → (k j : ℕ) (n : Node) → IsNode nodes n → path_bound n ≤ k
    → path_bound n ≤ j
    → comes_true k nodes n v ≡ comes_true j nodes n v
enough nodes v d k j (Leaf b) h p q = refl
enough nodes v d zero j (Inner n) h p q = absurd (omega arith)
enough nodes v d (suc k) zero (Inner n) h p q = absurd (omega arith)
enough nodes v d (suc k) (suc j) (Inner n) h p q =
    let b = bit (branch_at nodes n).variable v in
    let c = child_of (branch_at nodes n) b in
    let least : path_bound c ≤ n = bounded n c (child_among nodes n b d h) in
    enough nodes v d k j c (child_there nodes n b d h) (omega arith) (omega arith)

pub holds_inner : (nodes : List Branch) (n v : ℕ) → IsDiagram nodes → n < length nodes
    → node_holds nodes (Inner n) v ≡ node_holds nodes (next_of (branch_at nodes n) v) v
unfolding node_holds
holds_inner nodes n v d h =
    let b = bit (branch_at nodes n).variable v in
    let c = child_of (branch_at nodes n) b in
    let least : path_bound c ≤ n = bounded n c (child_among nodes n b d h) in
    enough nodes v d n (path_bound c) c (child_there nodes n b d h) least (omega arith)

-- truth asks for no input before the first one that is looked at
pub independent : (nodes : List Branch) (v w first : ℕ) → IsDiagram nodes → ((m : ℕ) → first ≤ m → bit m v ≡ bit m w)
    → (k : ℕ) (n : Node) → IsNode nodes n → first ≤ level nodes n → comes_true k nodes n v ≡ comes_true k nodes n w
independent nodes v w first d same k (Leaf b) h p = refl
independent nodes v w first d same zero (Inner n) h p = refl
independent nodes v w first d same (suc k) (Inner n) h p =
    let x = branch_at nodes n in
    let b = bit x.variable w in
    let later : first ≤ level nodes (child_of x b) = let l = child_later nodes n b d h in omega arith in
    ap (λ (y : Bool). comes_true k nodes (child_of x y) v) (same x.variable p)
    ∙ independent nodes v w first d same k (child_of x b) (child_there nodes n b d h) later

pub holds_alike : (nodes : List Branch) (v w first : ℕ) (n : Node) → IsDiagram nodes
    → ((m : ℕ) → first ≤ m → bit m v ≡ bit m w)
    → IsNode nodes n → first ≤ level nodes n → node_holds nodes n v ≡ node_holds nodes n w
unfolding node_holds
holds_alike nodes v w first n d same h p = independent nodes v w first d same (path_bound n) n h p

pub side_holds : (nodes : List Branch) (k v : ℕ) (b : Bool) (n : Node) → IsDiagram nodes → IsNode nodes n → bit k v ≡ b
    → node_holds nodes (side_of nodes k b n) v ≡ node_holds nodes n v
side_holds nodes k v b (Leaf c) d h e = refl
side_holds nodes k v b (Inner n) d h e = by (nat_eq x.variable k) refl
  where
    x : Branch
    x = branch_at nodes n

    by : (t : Bool) → nat_eq x.variable k ≡ t
        → node_holds nodes (if t then child_of x b else Inner n) v ≡ node_holds nodes (Inner n) v
    by true q =
        let value : b ≡ bit x.variable v = sym (ap (λ (m : ℕ). bit m v) (eqb-true x.variable k q) ∙ e) in
        ap (λ (y : Bool). node_holds nodes (child_of x y) v) value ∙ sym (holds_inner nodes n v d h)
    by false q = refl

-- growing

pub node_grown : (old new : List Branch) (n : Node) → Grows old new → IsNode old n → IsNode new n
node_grown old new n g h = among_more (length old) (length new) n g.longer h

pub level_grown : (old new : List Branch) (n : Node) → Grows old new → IsNode old n → level new n ≡ level old n
level_grown old new (Leaf b) g h = refl
level_grown old new (Inner n) g h = ap (λ (x : Branch). x.variable) (g.same n h)

pub side_grown : (old new : List Branch) (k : ℕ) (b : Bool) (n : Node) → Grows old new → IsNode old n
    → side_of new k b n ≡ side_of old k b n
side_grown old new k b (Leaf c) g h = refl
side_grown old new k b (Inner n) g h =
    ap (λ (x : Branch). if nat_eq x.variable k then child_of x b else Inner n) (g.same n h)

grown : (old new : List Branch) (v : ℕ) → IsDiagram old → Grows old new → (k : ℕ) (n : Node) → IsNode old n
    → comes_true k new n v ≡ comes_true k old n v
grown old new v d g k (Leaf b) h = refl
grown old new v d g zero (Inner n) h = refl
grown old new v d g (suc k) (Inner n) h =
    let b = bit (branch_at old n).variable v in
    ap (λ (x : Branch). comes_true k new (next_of x v) v) (g.same n h)
    ∙ grown old new v d g k (child_of (branch_at old n) b) (child_there old n b d h)

pub holds_grown : (old new : List Branch) (n : Node) (v : ℕ) → IsDiagram old → Grows old new → IsNode old n
    → node_holds new n v ≡ node_holds old n v
unfolding node_holds
holds_grown old new n v d g h = grown old new v d g (path_bound n) n h

pub keeps_grown : (old new : List Branch) → IsDiagram old → Grows old new → Keeps old new
keeps_grown old new d g = record {
  there = λ n h. node_grown old new n g h;
  meaning = λ n h v. holds_grown old new n v d g h;
}
