-- Lists of words.
use Rattle.std.specs.Prelude.{◌≡◌, ℕ, List, slice_get, Some}

-- no word stands at two numbers
pub record AreDifferent (words : List (List ℕ)) : Type 0 where
  pub once : (m n : ℕ) (word : List ℕ) → slice_get words m ≡ Some word → slice_get words n ≡ Some word → m ≡ n
