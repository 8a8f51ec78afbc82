-- What a named file that is read whole gives.
use Rattle.std.specs.Prelude.{◌≡◌, ◌+◌, ◌-◌, ◌≤◌, ◌<◌, ℕ, true, List, length, Result, Ok, Err, OnOk, Vec, ⊤}
use Rattle.std.specs.Io.KnownBytes.{IsAtEnd}
use Rattle.std.specs.Option.{ForSome}
use Rattle.std.specs.declared.alloc.Global.{Global}
use Rattle.pbs_io.specs.Outside.{ShelfState, GoesOn, Rose, content_of, has_file}
use Rattle.pbs_io.specs.declared.read.ReadFail.{ReadFail}
use Rattle.pbs_io.specs.declared.read.ReadFail.TheVariants.{Fault, TooLong, Memory}
use Rattle.pbs_io.specs.Taken.{TakesAtMost}

-- the shelf failed, and not by itself where it is sound and has the file
pub record HasFailed (before now : ShelfState) (name : List ℕ) : Type 0 where
  pub rose : Rose before.faults now.faults
  pub never : before.sound ≡ true → ForSome before.files (λ files. has_file files name ≡ true → ⊥)

abbrev pub LoadGives : ShelfState → ShelfState → List ℕ → ℕ → Result (Vec ℕ Global) ReadFail → Type 0
LoadGives before now name limit (Ok bytes) = ForSome before.files (λ files. bytes.items ≡ content_of files name) ×
    (length bytes.items ≤ limit)
LoadGives before now name limit (Err TooLong) = ForSome before.files (λ files. limit < length (content_of files name))
LoadGives before now name limit (Err Fault) = HasFailed before now name
LoadGives before now name limit (Err Memory) = ⊤

pub record Loads (before now : ShelfState) (slot : ℕ) (name : List ℕ) (limit : ℕ)
    (result : Result (Vec ℕ Global) ReadFail) : Type 0 where
  pub goes_on : GoesOn before now
  pub other : now.slots (1 - slot) ≡ before.slots (1 - slot)
  pub gives : LoadGives before now name limit result
  pub ended : OnOk result (IsAtEnd (now.slots slot).left)
  -- of the file at most one byte more was taken than it may have
  pub few : ForSome before.files (λ files.
      TakesAtMost (limit + 1) (content_of files name) (before.slots slot) (now.slots slot))
