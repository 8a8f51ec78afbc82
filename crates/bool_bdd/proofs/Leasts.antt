-- The least vector of a node, from those for the two values of its first input.
use Rattle.std.proofs.Common.{◌≡◌, ◌⊎◌, inl, inr, ℕ, ◌+◌, ◌^◌, ◌<◌, ◌≤◌, min, Bool, true, false}
use Rattle.std.proofs.Common.{List, Option, Some, None, refl, sym, ap, subst, ◌∙◌, arith}
use Rattle.std.specs.Prelude.{MatchOption, bit_or}
use Rattle.std.proofs.lemmas.Bool.{true≢false, cases_lt}
use Rattle.pbs_base.specs.Entries.{bit}
use Rattle.bool_bdd.specs.declared.node.Node.{Node}
use Rattle.bool_bdd.specs.declared.node.Node.TheVariants.{Leaf}
use Rattle.bool_bdd.specs.declared.node.Branch.{Branch}
use Rattle.bool_bdd.specs.Diagrams.{node_holds, side_of, IsDiagram, IsNode, IsAfter}
use Rattle.bool_bdd.specs.Least.{set_in, smaller_of, IsNever, IsLeast, IsLeastOf}
use Rattle.bool_bdd.proofs.Meaning.{holds_alike, holds_leaf, side_holds}
use Rattle.bool_bdd.proofs.Vectors.{with_bit, bit_here, bits_after, low_with_bit, lowered, set_bit, with_bit_grows}

-- the side's truth where the input has its value
side_true : (nodes : List Branch) (k v : ℕ) (b : Bool) (n : Node) → IsDiagram nodes → IsNode nodes n
    → IsAfter nodes k (side_of nodes k b n)
    → node_holds nodes n (with_bit k b v) ≡ node_holds nodes (side_of nodes k b n) v
side_true nodes k v b n d h after =
    let w = with_bit k b v in
    let same : (m : ℕ) → k + 1 ≤ m → bit m w ≡ bit m v = λ m l. bits_after k b v m (omega arith) in
    sym (side_holds nodes k w b n d h (bit_here k b v))
    ∙ holds_alike nodes w v (k + 1) (side_of nodes k b n) d same after.there (let l = after.later in omega arith)

-- among the vectors with this value of input k, none satisfies the node; and: the vector satisfies it, and among them
-- no smaller one does
record NeverWhere (nodes : List Branch) (n : Node) (k : ℕ) (b : Bool) : Type 0 where
  never : (w : ℕ) → bit k w ≡ b → node_holds nodes n w ≡ false

record LeastWhere (nodes : List Branch) (n : Node) (k : ℕ) (b : Bool) (v : ℕ) : Type 0 where
  holds : node_holds nodes n v ≡ true
  least : (w : ℕ) → bit k w ≡ b → node_holds nodes n w ≡ true → v ≤ w

LeastOfWhere : List Branch → Node → ℕ → Bool → Option ℕ → Type 0
LeastOfWhere nodes n k b answer = MatchOption answer (NeverWhere nodes n k b) (λ v. LeastWhere nodes n k b v)

module _ (nodes : List Branch) (k : ℕ) (n : Node) (d : IsDiagram nodes) (there : IsNode nodes n) where
  side_same : (b : Bool) (w : ℕ) → bit k w ≡ b → node_holds nodes (side_of nodes k b n) w ≡ node_holds nodes n w
  side_same b w e = side_holds nodes k w b n d there e

  -- the least vector of a side has the input unset
  unset : (b : Bool) (v : ℕ) → IsAfter nodes k (side_of nodes k b n) → IsLeast nodes (side_of nodes k b n) v
      → v ≡ with_bit k false v
  unset b v after least =
      let w = with_bit k false v in
      let same : (m : ℕ) → k + 1 ≤ m → bit m w ≡ bit m v = λ m l. bits_after k false v m (omega arith) in
      let alike = holds_alike nodes w v (k + 1) (side_of nodes k b n) d same after.there
      (let l = after.later in omega arith) in
      let more : v ≤ w = least.least w (alike ∙ least.holds) in
      let less : w ≤ v = low_with_bit k v in
      omega arith

  low_least : (v : ℕ) → IsAfter nodes k (side_of nodes k false n) → IsLeast nodes (side_of nodes k false n) v
      → LeastWhere nodes n k false v
  low_least v after least = record {
    holds = ap (λ x. node_holds nodes n x) (unset false v after least)
        ∙ (side_true nodes k v false n d there after ∙ least.holds);
    least = λ w e h. least.least w (side_same false w e ∙ h);
  }

  high_least : (v : ℕ) → IsAfter nodes k (side_of nodes k true n) → IsLeast nodes (side_of nodes k true n) v
      → LeastWhere nodes n k true (bit_or v (2 ^ k))
  high_least v after least =
      subst (λ u. LeastWhere nodes n k true u) (sym (set_bit k v (unset true v after least))) (record {
        holds = side_true nodes k v true n d there after ∙ least.holds;
        least = λ w e h.
            let more : v ≤ w = least.least w (side_same true w e ∙ h) in
            let one : with_bit k true v ≤ with_bit k true w = with_bit_grows k true v w more in
            let two : with_bit k true w ≤ w = lowered k true w e in
            omega arith;
      })

  low_half : (low : Option ℕ) → IsAfter nodes k (side_of nodes k false n)
      → IsLeastOf nodes (side_of nodes k false n) low → LeastOfWhere nodes n k false low
  unfolding LeastOfWhere
  low_half None after is = record { never = λ w e. sym (side_same false w e) ∙ is.never w }
  low_half (Some v) after is = low_least v after is

  high_half : (high : Option ℕ) → IsAfter nodes k (side_of nodes k true n)
      → IsLeastOf nodes (side_of nodes k true n) high → LeastOfWhere nodes n k true (set_in k high)
  unfolding LeastOfWhere
  high_half None after is = record { never = λ w e. sym (side_same true w e) ∙ is.never w }
  high_half (Some v) after is = high_least v after is

  -- what is below every vector that satisfies the node, by the values of input k
  below_all : (v : ℕ) → ((b : Bool) (w : ℕ) → bit k w ≡ b → node_holds nodes n w ≡ true → v ≤ w)
      → (w : ℕ) → node_holds nodes n w ≡ true → v ≤ w
  below_all v by w h = by (bit k w) w refl h

  both_halves : (low high : Option ℕ) → LeastOfWhere nodes n k false low → LeastOfWhere nodes n k true high
      → IsLeastOf nodes n (smaller_of low high)
  unfolding LeastOfWhere
  both_halves None None p q = record { never = λ w. by (bit k w) w refl }
    where
      by : (b : Bool) (w : ℕ) → bit k w ≡ b → node_holds nodes n w ≡ false
      by true w e = q.never w e
      by false w e = p.never w e
  both_halves None (Some v) p q = record { holds = q.holds; least = below_all v by }
    where
      by : (b : Bool) (w : ℕ) → bit k w ≡ b → node_holds nodes n w ≡ true → v ≤ w
      by true w e h = q.least w e h
      by false w e h = absurd (true≢false (sym h ∙ p.never w e))
  both_halves (Some v) None p q = record { holds = p.holds; least = below_all v by }
    where
      by : (b : Bool) (w : ℕ) → bit k w ≡ b → node_holds nodes n w ≡ true → v ≤ w
      by true w e h = absurd (true≢false (sym h ∙ q.never w e))
      by false w e h = p.least w e h
  both_halves (Some u) (Some v) p q = record {
    holds = by_min (cases_lt u v);
    least = below_all (min u v) by;
  }
    where
      by : (b : Bool) (w : ℕ) → bit k w ≡ b → node_holds nodes n w ≡ true → min u v ≤ w
      by true w e h = let l = q.least w e h in omega arith
      by false w e h = let l = p.least w e h in omega arith

      by_min : (u < v) ⊎ (v ≤ u) → node_holds nodes n (min u v) ≡ true
      by_min (inl l) = let m : min u v ≡ u = omega arith in ap (λ x. node_holds nodes n x) m ∙ p.holds
      by_min (inr l) = let m : min u v ≡ v = omega arith in ap (λ x. node_holds nodes n x) m ∙ q.holds

  pub joined_least : (low high : Option ℕ) → IsAfter nodes k (side_of nodes k false n)
      → IsAfter nodes k (side_of nodes k true n)
      → IsLeastOf nodes (side_of nodes k false n) low → IsLeastOf nodes (side_of nodes k true n) high
      → IsLeastOf nodes n (smaller_of low (set_in k high))
  joined_least low high after_low after_high p q =
      both_halves low (set_in k high) (low_half low after_low p) (high_half high after_high q)

pub constant_true : (nodes : List Branch) (a : Node) (b : Bool) → a ≡ Leaf b → b ≡ true → IsLeast nodes a 0
constant_true nodes a b e t = record {
  holds = rw e (holds_leaf nodes b 0 ∙ t);
  least = λ w h. omega arith;
}

pub constant_false : (nodes : List Branch) (a : Node) (b : Bool) → a ≡ Leaf b → b ≡ false → IsNever nodes a
constant_false nodes a b e f = record { never = λ v. rw e (holds_leaf nodes b v ∙ f) }
