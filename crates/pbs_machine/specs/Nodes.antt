-- What a node of the controller shows in the rows of a stretch between resets, by the rows in which it is begun.
use Rattle.std.specs.Prelude.{◌≡◌, ℕ, suc, ◌<◌, ◌≤◌, ◌↔◌, Bool, true, false, List, slice_index}
use Rattle.pbs_ast.specs.Trees.{Tree, has_place, is_place, is_action}
use Rattle.pbs_derive.specs.Derivations.{covers, alive, stands, fires, live}
use Rattle.pbs_machine.specs.Rows.{ends, stays, started}

-- the signal is 1 in each row q with i < q ≤ k
abbrev pub On : (ℕ → Bool) → ℕ → ℕ → Type 0
On signal i k = (q : ℕ) → i < q → q ≤ k → signal q ≡ true

-- R holds from some begin, in row a or earlier, that is kept to row a and has the holds round the node true up to row b
pub record From (start keep outer : ℕ → Bool) (a b : ℕ) (R : ℕ → Type 0) : Type 0 where
  pub at : ℕ
  pub early : at ≤ a
  pub begun : start at ≡ true
  pub kept : On keep at a
  pub held : On outer at b
  pub reached : R at

-- in row k no scope in e is live for an earlier begin and begun again
abbrev pub Clear : Tree → List ℕ → (ℕ → Bool) → (ℕ → Bool) → (ℕ → Bool) → ℕ → Type 0
Clear e v start keep outer k = (s j : ℕ) → j < k
    → From start keep outer k k (λ i. live e v i k s j ≡ true)
    → From start keep outer k k (λ i. live e v i k s k ≡ true) → ⊥

-- nor in any row below k
abbrev pub ClearBelow : Tree → List ℕ → (ℕ → Bool) → (ℕ → Bool) → (ℕ → Bool) → ℕ → Type 0
ClearBelow e v start keep outer k = (t : ℕ) → t < k → Clear e v start keep outer t

-- row 0 is the reset row and row k + 1 reads vector k; the register of a place takes the start bit of its terminal
pub record IsNodeRun (e : Tree) (v : List ℕ) (old : ℕ → ℕ → Bool) (input : ℕ → ℕ)
    (outer start keep : ℕ → Bool) : Type 0 where
  pub off : outer 0 ≡ false
  pub reads : (k : ℕ) → input (suc k) ≡ slice_index v k
  pub next : (k p : ℕ) → has_place p e ≡ true
      → old (suc k) p ≡ started e (is_place p) (old k) (input k) (outer k) (start k) (keep k)

-- the node's bits in row 0, and in each row in whose past it was clear
pub record IsRight (e : Tree) (v : List ℕ) (old : ℕ → ℕ → Bool) (input : ℕ → ℕ)
    (outer start keep : ℕ → Bool) : Type 0 where
  pub ends_first : ends e (old 0) (input 0) (outer 0) ≡ false
  pub stays_first : stays e (old 0) (input 0) (outer 0) ≡ false
  pub ends_right : (k : ℕ) → ClearBelow e v start keep outer (suc k)
      → (ends e (old (suc k)) (input (suc k)) (outer (suc k)) ≡ true)
      ↔ From start keep outer k (suc k) (λ i. covers e v i (suc k) ≡ true)
  pub stays_right : (k : ℕ) → ClearBelow e v start keep outer (suc k)
      → (stays e (old (suc k)) (input (suc k)) (outer (suc k)) ≡ true)
      ↔ From start keep outer k (suc k) (λ i. alive e v i (suc k) ≡ true)
  pub registers_right : (k : ℕ) → ClearBelow e v start keep outer k → (p : ℕ) → has_place p e ≡ true
      → (old (suc k) p ≡ true) ↔ From start keep outer k k (λ i. stands e v i k p ≡ true)
  pub fires_right : (k : ℕ) → ClearBelow e v start keep outer k → (a : ℕ)
      → (started e (is_action a) (old k) (input k) (outer k) (start k) (keep k) ≡ true)
      ↔ From start keep outer k k (λ i. fires e v i k a ≡ true)
