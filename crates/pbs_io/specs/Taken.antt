-- How much of a text was taken from the shelf.
use Rattle.std.specs.Prelude.{◌≡◌, ℕ, ◌≤◌, true, false, List, [], ◌++◌, length, Some}
use Rattle.pbs_io.specs.Outside.{SlotState}

-- these bytes of the text were taken from the slot, none where no file stands in it
pub record Took (text : List ℕ) (slot : SlotState) (taken : List ℕ) : Type 0 where
  pub rest : List ℕ
  pub whole : taken ++ rest ≡ text
  pub left : slot.stands ≡ true → slot.left ≡ Some rest
  pub none : slot.stands ≡ false → taken ≡ []

-- the slot was left alone, or the text was opened in it and these bytes were taken
pub data TakenFrom (text : List ℕ) (slot slot_now : SlotState) : List ℕ → Type 0 where
  Untouched : slot_now ≡ slot → TakenFrom text slot slot_now []
  Opened : {taken : List ℕ} → Took text slot_now taken → TakenFrom text slot slot_now taken

-- at most so many bytes of the text were taken
pub record TakesAtMost (most : ℕ) (text : List ℕ) (slot slot_now : SlotState) : Type 0 where
  pub taken : List ℕ
  pub took : TakenFrom text slot slot_now taken
  pub few : length taken ≤ most
