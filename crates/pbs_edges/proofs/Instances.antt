-- The live instances of scopes, those in traps too, as a relation.
use Rattle.std.proofs.Common.{◌≡◌, ℕ, ◌-◌, ◌≤◌, true, List, arith}
use Rattle.bool_terms.specs.Terms.{Term}
use Rattle.pbs_ast.specs.Trees.{Tree, Spot, Seq, Choice, Star, Hold, Scope}
use Rattle.pbs_derive.specs.Derivations.{covers, alive, trips, all_hold, repeats}
use Rattle.pbs_edges.proofs.Tests.{Quiet, IsFirstPass}

-- in a derivation of the tree from i at k, the instance of scope t that began at a, with body b and trap y, is live
pub data Lives (v : List ℕ) : Tree → (i k t a : ℕ) → (b y : Tree) → Type 0 where
  lives_here : {at : Spot} {s i k : ℕ} {e x h : Tree} → i ≤ k → Quiet (trips e x v i) i k → alive e v i k ≡ true
      → Lives v (Scope at s e x h) i k s i e x
  lives_left : {at : Spot} {i k t a : ℕ} {b y e f : Tree} → Lives v e i k t a b y → Lives v (Seq at e f) i k t a b y
  lives_right : {at : Spot} {i m k t a : ℕ} {b y e f : Tree} → i ≤ m → m ≤ k → covers e v i m ≡ true
      → Lives v f m k t a b y → Lives v (Seq at e f) i k t a b y
  lives_either : {at : Spot} {i k t a : ℕ} {b y e f : Tree} → Lives v e i k t a b y → Lives v
      (Choice at e f) i k t a b y
  lives_or : {at : Spot} {i k t a : ℕ} {b y e f : Tree} → Lives v f i k t a b y → Lives v (Choice at e f) i k t a b y
  lives_star : {at : Spot} {i m k t a : ℕ} {b y e : Tree} → i ≤ m → m ≤ k → repeats (covers e v) (m - i) i m ≡ true
      → Lives v e m k t a b y
      → Lives v (Star at e) i k t a b y
  lives_hold : {at : Spot} {i k t a : ℕ} {b y e : Tree} {c : Term} → all_hold c v i k ≡ true → Lives v e i k t a b y
      → Lives v (Hold at c e) i k t a b y
  lives_body : {at : Spot} {s i k t a : ℕ} {b y e x h : Tree} → Quiet (trips e x v i) i k → Lives v e i k t a b y
      → Lives v (Scope at s e x h) i k t a b y
  lives_trap : {at : Spot} {s i k t a : ℕ} {b y e x h : Tree} → Quiet (trips e x v i) i k → alive e v i k ≡ true
      → Lives v x i k t a b y
      → Lives v (Scope at s e x h) i k t a b y
  lives_after : {at : Spot} {s i m k t a : ℕ} {b y e x h : Tree} → m ≤ k → IsFirstPass (trips e x v i) i m
      → Lives v h m k t a b y
      → Lives v (Scope at s e x h) i k t a b y

-- an instance begins within the stretch
pub lives-within : {v : List ℕ} {e b y : Tree} {i k t a : ℕ} → Lives v e i k t a b y → (i ≤ a) × (a ≤ k)
lives-within (lives_here l q h) = (omega arith, l)
lives-within (lives_left h) = lives-within h
lives-within (lives_right l m c h) = let p = lives-within h in (omega arith, p.1)
lives-within (lives_either h) = lives-within h
lives-within (lives_or h) = lives-within h
lives-within (lives_star l m c h) = let p = lives-within h in (omega arith, p.1)
lives-within (lives_hold c h) = lives-within h
lives-within (lives_body q h) = lives-within h
lives-within (lives_trap q c h) = lives-within h
lives-within (lives_after l f h) = let p = lives-within h in (let i<m = f.after in omega arith, p.1)
