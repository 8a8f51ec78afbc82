-- Disjoint pairs, by the values of one input.
use Rattle.std.proofs.Common.{◌≡◌, ◌↔◌, ℕ, ◌<◌, ◌≤◌, ◌+◌, ◌&&◌, Bool, true, false, if◌then◌else◌, List, Some, IsTrue}
use Rattle.std.proofs.Common.{refl, sym, subst, ◌∙◌, arith}
use Rattle.std.proofs.lemmas.Bool.{true≢false, false≢true}
use Rattle.std.proofs.lemmas.Option.{same_Some}
use Rattle.pbs_base.specs.Entries.{bit}
use Rattle.bool_bdd.specs.declared.node.Node.{Node}
use Rattle.bool_bdd.specs.declared.node.Node.TheVariants.{Leaf, Inner}
use Rattle.bool_bdd.specs.declared.node.Branch.{Branch}
use Rattle.bool_bdd.specs.declared.node.Pair.{Pair}
use Rattle.bool_bdd.specs.Members.{pair_eq}
use Rattle.bool_bdd.specs.Diagrams.{node_holds, AreDisjoint, IsDiagram}
use Rattle.bool_bdd.specs.inner.Pairs.{halves_of, pair_first, settled_by, AllDisjoint, IsPair}
use Rattle.bool_bdd.proofs.Alike.{same_pair}
use Rattle.bool_bdd.proofs.Meaning.{holds_leaf, holds_alike, side_holds}
use Rattle.bool_bdd.proofs.Vectors.{with_bit, bit_here, bits_after}

both_hold : List Branch → Pair → ℕ → Bool
both_hold nodes p v = node_holds nodes p.left v && node_holds nodes p.right v

-- the half is as true in the vector as the pair is where the input has its value
half_holds : (nodes : List Branch) (k v : ℕ) (b : Bool) (p : Pair) → IsDiagram nodes → IsPair nodes p
    → IsPair nodes (halves_of nodes k b p)
    → k < pair_first nodes (halves_of nodes k b p)
    → both_hold nodes (halves_of nodes k b p) v ≡ both_hold nodes p (with_bit k b v)
unfolding both_hold
half_holds nodes k v b p d h half later =
    let w = with_bit k b v in
    let q = halves_of nodes k b p in
    let same : (m : ℕ) → k + 1 ≤ m → bit m v ≡ bit m w = λ m l. sym (bits_after k b v m (omega arith)) in
    let left : node_holds nodes q.left v ≡ node_holds nodes p.left w =
    holds_alike nodes v w (k + 1) q.left d same half.left (omega arith)
    ∙ side_holds nodes k w b p.left d h.left (bit_here k b v) in
    let right : node_holds nodes q.right v ≡ node_holds nodes p.right w =
    holds_alike nodes v w (k + 1) q.right d same half.right (omega arith)
    ∙ side_holds nodes k w b p.right d h.right (bit_here k b v) in
    rw (left, right) refl

pub half_disjoint : (nodes : List Branch) (k : ℕ) (b : Bool) (p : Pair) → IsDiagram nodes → IsPair nodes p
    → IsPair nodes (halves_of nodes k b p)
    → k < pair_first nodes (halves_of nodes k b p) → AreDisjoint nodes p.left p.right
    → AreDisjoint nodes (halves_of nodes k b p).left (halves_of nodes k b p).right
unfolding both_hold
half_disjoint nodes k b p d h half later apart = record {
  never = λ v. half_holds nodes k v b p d h half later ∙ apart.never (with_bit k b v);
}

pub join_disjoint : (nodes : List Branch) (k : ℕ) (p : Pair) → IsDiagram nodes → IsPair nodes p
    → AreDisjoint nodes (halves_of nodes k false p).left (halves_of nodes k false p).right
    → AreDisjoint nodes (halves_of nodes k true p).left (halves_of nodes k true p).right
    → AreDisjoint nodes p.left p.right
join_disjoint nodes k p d h low high = record { never = λ v. by v (bit k v) refl }
  where
    sides : (v : ℕ) (b : Bool) → bit k v ≡ b
        → AreDisjoint nodes (halves_of nodes k b p).left (halves_of nodes k b p).right
        → (node_holds nodes p.left v && node_holds nodes p.right v) ≡ false
    sides v b e apart =
        rw (← side_holds nodes k v b p.left d h.left e, ← side_holds nodes k v b p.right d h.right e) (apart.never v)

    by : (v : ℕ) (b : Bool) → bit k v ≡ b → (node_holds nodes p.left v && node_holds nodes p.right v) ≡ false
    by v true e = sides v true e high
    by v false e = sides v false e low

pub whole_disjoint : (nodes : List Branch) (k : ℕ) (p low high : Pair) → IsDiagram nodes → IsPair nodes p
    → low ≡ halves_of nodes k false p
    → high ≡ halves_of nodes k true p → AreDisjoint nodes low.left low.right → AreDisjoint nodes high.left high.right
    → AreDisjoint nodes p.left p.right
whole_disjoint nodes k p low high d h is_low is_high a b =
    join_disjoint nodes k p d h (subst (λ (q : Pair). AreDisjoint nodes q.left q.right) is_low a)
    (subst (λ (q : Pair). AreDisjoint nodes q.left q.right) is_high b)

pub half_refutes : (nodes : List Branch) (k : ℕ) (b : Bool) (p q : Pair) (answer : Bool) → IsDiagram nodes
    → IsPair nodes p → q ≡ halves_of nodes k b p
    → IsPair nodes q → k < pair_first nodes q → IsTrue answer ↔ AreDisjoint nodes q.left q.right → answer ≡ false
    → IsTrue false ↔ AreDisjoint nodes p.left p.right
half_refutes nodes k b p q answer d h is there later exact refuted =
    (λ no. absurd (false≢true no), λ apart. sym refuted ∙ exact.1 (half apart))
  where
    half : AreDisjoint nodes p.left p.right → AreDisjoint nodes q.left q.right
    half apart =
        let there_half = subst (λ (r : Pair). IsPair nodes r) is there in
        let later_half = subst (λ (r : Pair). k < pair_first nodes r) is later in
        subst (λ (r : Pair). AreDisjoint nodes r.left r.right) (sym is)
        (half_disjoint nodes k b p d h there_half later_half apart)

never_and : (b : Bool) → (b && false) ≡ false
never_and true = refl
never_and false = refl

both_true : (nodes : List Branch) → (node_holds nodes (Leaf true) 0 && node_holds nodes (Leaf true) 0) ≡ true
both_true nodes = rw (holds_leaf nodes true 0) refl

-- what constants tell is right
pub settled_right : (nodes : List Branch) (a b : Node) (answer : Bool) → settled_by a b ≡ Some answer
    → IsTrue answer ↔ AreDisjoint nodes a b
settled_right nodes (Leaf false) b answer e =
    let is : true ≡ answer = same_Some true answer e in
    (λ _. record { never = λ v. rw (holds_leaf nodes false v) refl }, λ _. sym is)
settled_right nodes (Leaf true) (Leaf true) answer e =
    let is : false ≡ answer = same_Some false answer e in
    (λ h. absurd (false≢true (is ∙ h)), λ apart. absurd (true≢false (sym (both_true nodes) ∙ apart.never 0)))
settled_right nodes (Leaf true) (Leaf false) answer e =
    let is : true ≡ answer = same_Some true answer e in
    let apart : AreDisjoint nodes (Leaf true) (Leaf false) = record {
      never = λ v. rw (holds_leaf nodes false v) (never_and (node_holds nodes (Leaf true) v));
    } in
    (λ _. apart, λ _. sym is)
settled_right nodes (Inner n) (Leaf false) answer e =
    let is : true ≡ answer = same_Some true answer e in
    (λ _. record { never = λ v. rw (holds_leaf nodes false v) (never_and (node_holds nodes (Inner n) v)) }, λ _. sym is)
settled_right nodes (Leaf true) (Inner m) answer e = absurd (cc)
settled_right nodes (Inner n) (Leaf true) answer e = absurd (cc)
settled_right nodes (Inner n) (Inner m) answer e = absurd (cc)

pub noted : (nodes : List Branch) (old new : Pair → Bool) (p : Pair) → AllDisjoint nodes old
    → AreDisjoint nodes p.left p.right
    → ((q : Pair) → new q ≡ (if pair_eq p q then true else old q)) → AllDisjoint nodes new
noted nodes old new p all apart more = record { each = λ q e. by q (pair_eq p q) refl (sym (more q) ∙ e) }
  where
    by : (q : Pair) (t : Bool) → pair_eq p q ≡ t → (if t then true else old q) ≡ true → AreDisjoint nodes q.left q.right
    by q true same e = subst (λ (y : Pair). AreDisjoint nodes y.left y.right) (same_pair p q same) apart
    by q false same e = all.each q e
