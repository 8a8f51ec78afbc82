-- The names that are declared, as words.
use Rattle.std.specs.Prelude.{◌≡◌, ℕ, ◌≤◌, Bool, false, IsTrue, List, [], ◌∷◌, length, slice_get, Some}
use Rattle.std.specs.List.{list_all}
use Rattle.pbs_base.specs.Words.{AreDifferent}
use Rattle.pbs_ast.specs.declared.syntax.Spec.{Spec}
use Rattle.pbs_text.specs.Lexing.{is_letter, is_word_byte}
use Rattle.pbs_names.specs.Naming.{input_names, action_names, level_names}

abbrev pub begins_word : List ℕ → Bool
begins_word [] = false
begins_word (b ∷ bs) = is_letter b

-- a letter or `_`, and then letters, digits and `_`; so many bytes at most
pub record IsWord (most : ℕ) (word : List ℕ) : Type 0 where
  pub begins : IsTrue (begins_word word)
  pub bytes : IsTrue (list_all is_word_byte word)
  pub short : length word ≤ most

pub record AreWords (most : ℕ) (words : List (List ℕ)) : Type 0 where
  pub each : (n : ℕ) (word : List ℕ) → slice_get words n ≡ Some word → IsWord most word

-- a declared name has at most 64 bytes, and a bit of a bus has `_` and a digit more
pub record HasWords (spec : Spec) : Type 0 where
  pub inputs : AreWords 66 (input_names spec.inputs)
  pub actions : AreWords 64 (action_names spec.actions)
  pub levels : AreWords 64 (level_names spec.levels)
  pub inputs_once : AreDifferent (input_names spec.inputs)
  pub actions_once : AreDifferent (action_names spec.actions)
  pub levels_once : AreDifferent (level_names spec.levels)
