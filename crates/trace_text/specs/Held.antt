-- Bytes that are held back before they are written.
use Rattle.std.specs.Prelude.{◌≡◌, ℕ, ◌≤◌, List, ◌++◌, Option, Result, OnOk, OnErr}
use Rattle.std.specs.Io.KnownBytes.{append_known}
use Rattle.pbs_io.specs.Outside.{SinkState, Rose, WritesFront}

-- a front of the text was written, and the rest of it is held
pub record PassesOn (before now : Option (List ℕ)) (text held : List ℕ) : Type 0 where
  pub front : List ℕ
  pub whole : front ++ held ≡ text
  pub written : now ≡ append_known before front

-- the text came behind what was held; after a fault a prefix of both was written
pub record Holds {T E : Type 0} (before now : SinkState) (held held_now text : List ℕ) (result : Result T E) : Type 0
  where
    pub passed : OnOk result (PassesOn before.written now.written (held ++ text) held_now)
    pub front : OnErr result (WritesFront before.written now.written (held ++ text))
    pub later : before.faults ≤ now.faults
    pub cause : OnErr result (Rose before.faults now.faults)
