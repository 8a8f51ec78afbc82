-- Terms over one-bit inputs, and their truth in a vector.
use Rattle.std.specs.Prelude.{ℕ, Bool, true, false, not, ◌&&◌, ◌||◌, ◌+◌, ◌%◌, ◌^◌, ◌*◌, bit_or, ◌<◌, ◌≡◌, nat_eq}
use Rattle.std.specs.Prelude.{nat_lt}
use Rattle.pbs_base.specs.Entries.{bit}
use Rattle.bool_terms.specs.declared.Term as declared

pub data Term : Type 0 where
  Const : (b : Bool) → Term
  Input : (n : ℕ) → Term
  Not : (t : Term) → Term
  And : (a b : Term) → Term
  Or : (a b : Term) → Term

-- the term that a program's value is
abbrev pub term_of : declared.Term → Term
term_of (declared.Const b) = Const b
term_of (declared.Input n) = Input n
term_of (declared.Not' _ t) = Not (term_of t)
term_of (declared.And' _ a _ b) = And (term_of a) (term_of b)
term_of (declared.Or' _ a _ b) = Or (term_of a) (term_of b)

-- the term is true in the vector
abbrev pub holds : Term → ℕ → Bool
holds (Const b) v = b
holds (Input n) v = bit n v
holds (Not t) v = not (holds t v)
holds (And a b) v = holds a v && holds b v
holds (Or a b) v = holds a v || holds b v

-- every input in the term is below the bound
abbrev pub term_inputs_below : ℕ → Term → Bool
term_inputs_below n (Const b) = true
term_inputs_below n (Input m) = nat_lt m n
term_inputs_below n (Not t) = term_inputs_below n t
term_inputs_below n (And a b) = term_inputs_below n a && term_inputs_below n b
term_inputs_below n (Or a b) = term_inputs_below n a && term_inputs_below n b

-- input n stands in the term
abbrev pub mentions : ℕ → Term → Bool
mentions n (Const b) = false
mentions n (Input m) = nat_eq n m
mentions n (Not t) = mentions n t
mentions n (And a b) = mentions n a || mentions n b
mentions n (Or a b) = mentions n a || mentions n b

-- the set of the term's inputs, as the bits of a number
pub record IsInputSet (t : Term) (set : ℕ) : Type 0 where
  pub exact : (n : ℕ) → n < 64 → bit n set ≡ mentions n t

-- how many nodes the term has
abbrev pub term_nodes : Term → ℕ
term_nodes (Const b) = 1
term_nodes (Input n) = 1
term_nodes (Not t) = 1 + term_nodes t
term_nodes (And a b) = 1 + term_nodes a + term_nodes b
term_nodes (Or a b) = 1 + term_nodes a + term_nodes b

-- how many of them are inputs
abbrev pub input_leaves : Term → ℕ
input_leaves (Const b) = 0
input_leaves (Input n) = 1
input_leaves (Not t) = input_leaves t
input_leaves (And a b) = input_leaves a + input_leaves b
input_leaves (Or a b) = input_leaves a + input_leaves b

-- the same set, computed
abbrev pub input_set : Term → ℕ
input_set (Const b) = 0
input_set (Input n) = 1 * 2 ^ n % 2 ^ 64
input_set (Not t) = input_set t
input_set (And a b) = bit_or (input_set a) (input_set b)
input_set (Or a b) = bit_or (input_set a) (input_set b)
