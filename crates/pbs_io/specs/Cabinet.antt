-- What stands in the slots of a shelf in memory.
use Rattle.std.specs.Prelude.{ℕ, false, cond, List, [], ◌∷◌, drop, string_bytes, Some, None, slice_get, Option}
use Rattle.std.specs.Prelude.{slice_index_or}
use Rattle.pbs_io.specs.Outside.{NamedFile, SlotState}
use Rattle.pbs_io.specs.declared.cabinet.StoredFile.{StoredFile}
use Rattle.pbs_io.specs.declared.cabinet.Place.{Place}

abbrev pub entries : List StoredFile → List NamedFile
entries [] = []
entries (file ∷ files) = record { name = string_bytes file.name; bytes = file.bytes.items } ∷ entries files

abbrev pub bytes_of : Option StoredFile → List ℕ
bytes_of None = []
bytes_of (Some file) = file.bytes.items

-- the bytes of file number n, none past the last
abbrev pub bytes_at : List StoredFile → ℕ → List ℕ
bytes_at files n = bytes_of (slice_get files n)

abbrev pub empty_place : Place
empty_place = record { stands = false; file = 0; at = 0 }

abbrev pub all_empty : List Place
all_empty = empty_place ∷ empty_place ∷ []

abbrev pub place_in : List Place → ℕ → Place
place_in slots n = slice_index_or slots n empty_place

-- what is left to read from a place
abbrev pub left_at : List StoredFile → Place → List ℕ
left_at files place = cond place.stands (drop place.at (bytes_at files place.file)) []

abbrev pub slot_state : List StoredFile → Place → SlotState
slot_state files place = record { stands = place.stands; left = Some (left_at files place) }
