-- What `read_all` gives of the bytes that were left in a slot.
use Rattle.std.specs.Prelude.{◌≡◌, ◌≢◌, ℕ, ◌+◌, ◌-◌, ◌≤◌, ◌<◌, true, List, ◌++◌, length, take, Option, Result, Ok, Err}
use Rattle.std.specs.Prelude.{OnOk}
use Rattle.std.specs.Option.{ForSome}
use Rattle.std.specs.Io.KnownBytes.{prepend_known, IsAtEnd}
use Rattle.pbs_io.specs.Outside.{ShelfState, GoesOn, Rose}
use Rattle.pbs_io.specs.declared.read.ReadFail.{ReadFail}
use Rattle.pbs_io.specs.declared.read.ReadFail.TheVariants.{Fault, TooLong, Memory}

-- these bytes are a prefix of the text
pub record IsFront (bytes text : List ℕ) : Type 0 where
  pub rest : List ℕ
  pub whole : bytes ++ rest ≡ text

-- what `out` is of the bytes that were left
abbrev pub GivesOf : {T : Type 0} → Result T ReadFail → ℕ → List ℕ → List ℕ → Type 0
GivesOf (Ok x) limit out text = (out ≡ text) × (length text ≤ limit)
GivesOf (Err TooLong) limit out text = (out ≡ take limit text) × (limit < length text)
GivesOf (Err Fault) limit out text = IsFront out text
GivesOf (Err Memory) limit out text = IsFront out text

-- at most so many bytes were moved of what was left
pub record MovesAtMost (before now : Option (List ℕ)) (most : ℕ) : Type 0 where
  pub taken : List ℕ
  pub few : length taken ≤ most
  pub left : before ≡ prepend_known taken now

pub record ReadsAll {T : Type 0} (before now : ShelfState) (slot limit : ℕ) (out : List ℕ)
    (result : Result T ReadFail) : Type 0 where
  pub goes_on : GoesOn before now
  pub other : now.slots (1 - slot) ≡ before.slots (1 - slot)
  pub stands : (now.slots slot).stands ≡ (before.slots slot).stands
  pub takes : MovesAtMost (before.slots slot).left (now.slots slot).left (limit + 1)
  pub gives : ForSome (before.slots slot).left (GivesOf result limit out)
  -- a read of no bytes told that nothing is left
  pub ended : OnOk result (IsAtEnd (now.slots slot).left)
  pub cause : result ≡ Err Fault → Rose before.faults now.faults
  pub never : before.sound ≡ true → (before.slots slot).stands ≡ true → result ≢ Err Fault
