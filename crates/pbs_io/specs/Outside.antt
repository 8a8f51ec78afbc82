-- The outside of the program: named files that are read through two slots, and bytes that are written.
use Rattle.std.specs.Prelude.{◌≡◌, ℕ, ◌+◌, ◌-◌, ◌^◌, ◌≤◌, min, Bool, true, false, cond, List, [], ◌∷◌, ◌++◌, take}
use Rattle.std.specs.Prelude.{Option, option_map, Result, is_ok, IfOk, OnOk, OnErr, IsOk, bytes_eq}
use Rattle.std.specs.Option.{ForSome}
use Rattle.std.specs.Io.KnownBytes.{append_known, prepend_known, IsAtEnd}

-- a count of faults rose: it is greater than before, or stands at the last value of a u64
abbrev pub Rose : ℕ → ℕ → Type 0
Rose before now = min (before + 1) (2 ^ 64 - 1) ≤ now

-- ---- the shelf

pub record NamedFile : Type 0 where
  pub name : List ℕ
  pub bytes : List ℕ

-- the bytes of the file with this name, none where there is no such file
abbrev pub content_of : List NamedFile → List ℕ → List ℕ
content_of [] name = []
content_of (file ∷ files) name = cond (bytes_eq file.name name) file.bytes (content_of files name)

abbrev pub has_file : List NamedFile → List ℕ → Bool
has_file [] name = false
has_file (file ∷ files) name = cond (bytes_eq file.name name) true (has_file files name)

-- the files with these bytes under this name: in its place where the name is there, and at the end otherwise
abbrev pub with_file : List NamedFile → List ℕ → List ℕ → List NamedFile
with_file [] name bytes = record { name = name; bytes = bytes } ∷ []
with_file (file ∷ files) name bytes =
    cond (bytes_eq file.name name) (record { name = file.name; bytes = bytes } ∷ files)
    (file ∷ with_file files name bytes)

-- a slot: whether a file stands in it, and what is left to read of it, where that is told
pub record SlotState : Type 0 where
  pub stands : Bool
  pub left : Option (List ℕ)

-- what a shelf means
pub record ShelfState : Type 0 where
  -- the named files, where they are told
  pub files : Option (List NamedFile)
  pub slots : ℕ → SlotState
  -- a count that never falls
  pub faults : ℕ
  -- the device doesn't fail by itself
  pub sound : Bool

-- what every call keeps: the files, a count that doesn't fall, and that the shelf is sound
pub record GoesOn (before now : ShelfState) : Type 0 where
  pub files : now.files ≡ before.files
  pub later : before.faults ≤ now.faults
  pub sound : before.sound ≡ true → now.sound ≡ true

-- the slot was put at the beginning of the named file
pub record Opens {T E : Type 0} (before now : ShelfState) (slot : ℕ) (name : List ℕ) (result : Result T E) : Type 0
  where
    pub goes_on : GoesOn before now
    pub other : now.slots (1 - slot) ≡ before.slots (1 - slot)
    pub stands : (now.slots slot).stands ≡ is_ok result
    pub left : OnOk result ((now.slots slot).left ≡ option_map (λ files. content_of files name) before.files)
    pub cause : OnErr result (Rose before.faults now.faults)
    pub never : before.sound ≡ true → ForSome before.files (λ files. has_file files name ≡ true → IsOk result)

-- the next bytes were moved to the front of the buffer, and zero of them only at the end
pub record Reads {E : Type 0} (before now : ShelfState) (slot : ℕ) (buffer : List ℕ) (result : Result ℕ E) : Type 0
  where
    pub goes_on : GoesOn before now
    pub other : now.slots (1 - slot) ≡ before.slots (1 - slot)
    pub stands : (now.slots slot).stands ≡ (before.slots slot).stands
    pub moved : IfOk result (λ n. (before.slots slot).left ≡ prepend_known (take n buffer) (now.slots slot).left)
    pub end : IfOk result (λ n. n ≡ 0 → IsAtEnd (before.slots slot).left)
    pub kept : OnErr result ((now.slots slot).left ≡ (before.slots slot).left)
    pub cause : OnErr result (Rose before.faults now.faults)
    pub never : before.sound ≡ true → (before.slots slot).stands ≡ true → IsOk result

-- ---- the sink

-- what a sink means
pub record SinkState : Type 0 where
  -- the bytes written, where they are told
  pub written : Option (List ℕ)
  -- a count that never falls
  pub faults : ℕ

-- the first bytes of the piece were appended
pub record Puts {E : Type 0} (before now : SinkState) (piece : List ℕ) (result : Result ℕ E) : Type 0 where
  pub taken : IfOk result (λ n. now.written ≡ append_known before.written (take n piece))
  pub kept : OnErr result (now.written ≡ before.written)
  pub later : before.faults ≤ now.faults
  pub cause : OnErr result (Rose before.faults now.faults)

-- a prefix of the text was appended
pub record WritesFront (before now : Option (List ℕ)) (text : List ℕ) : Type 0 where
  pub front : List ℕ
  pub rest : List ℕ
  pub whole : front ++ rest ≡ text
  pub written : now ≡ append_known before front

-- the text was appended whole, or after a fault a prefix of it
pub record Writes {T E : Type 0} (before now : SinkState) (text : List ℕ) (result : Result T E) : Type 0 where
  pub whole : OnOk result (now.written ≡ append_known before.written text)
  pub front : OnErr result (WritesFront before.written now.written text)
  pub later : before.faults ≤ now.faults
  pub cause : OnErr result (Rose before.faults now.faults)
