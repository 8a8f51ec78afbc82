-- What the shelf and the sink in memory mean, and what of them decides how a call ends.
use Rattle.std.specs.Prelude.{ℕ, ◌-◌, min, Bool, List, length, Some, nat_eq, nat_lt}
use Rattle.std.specs.List.{list_all, list_any}
use Rattle.pbs_io.specs.Outside.{ShelfState, SinkState}
use Rattle.pbs_io.specs.Cabinet.{entries, slot_state, place_in, left_at}
use Rattle.pbs_io.specs.declared.mem_shelf.MemShelf.{MemShelf}
use Rattle.pbs_io.specs.declared.mem_sink.MemSink.{MemSink}

abbrev pub is_to_fail : List ℕ → ℕ → Bool
is_to_fail fails call = list_any (λ k. nat_eq k call) fails

-- no call from this number on is to fail
abbrev pub is_calm : List ℕ → ℕ → Bool
is_calm fails next = list_all (λ k. nat_lt k next) fails

-- ---- the shelf

abbrev pub mem_shelf_state : MemShelf → ShelfState
mem_shelf_state shelf = record {
  files = Some (entries shelf.cabinet.files.items);
  slots = λ n. slot_state shelf.cabinet.files.items (place_in shelf.cabinet.slots n);
  faults = shelf.calls.faults;
  sound = is_calm shelf.calls.fails.items shelf.calls.next;
}

-- the calls that are to fail
abbrev pub shelf_fails : MemShelf → List ℕ
shelf_fails shelf = shelf.calls.fails.items

-- how many calls were made, up to the last value of a u64
abbrev pub shelf_calls : MemShelf → ℕ
shelf_calls shelf = shelf.calls.next

-- the most bytes that one call moves
abbrev pub shelf_step : MemShelf → ℕ
shelf_step shelf = shelf.step

-- how many bytes a read moves into a buffer of this length
abbrev pub shelf_moves : MemShelf → ℕ → ℕ → ℕ
shelf_moves shelf slot room =
    min shelf.step (min room (length (left_at shelf.cabinet.files.items (place_in shelf.cabinet.slots slot))))

-- ---- the sink

abbrev pub mem_sink_state : MemSink → SinkState
mem_sink_state sink = record { written = Some sink.bytes.items; faults = sink.calls.faults }

abbrev pub sink_bytes : MemSink → List ℕ
sink_bytes sink = sink.bytes.items

abbrev pub sink_fails : MemSink → List ℕ
sink_fails sink = sink.calls.fails.items

abbrev pub sink_calls : MemSink → ℕ
sink_calls sink = sink.calls.next

-- the most bytes that the sink takes in all
abbrev pub sink_room : MemSink → ℕ
sink_room sink = sink.room

abbrev pub sink_step : MemSink → ℕ
sink_step sink = sink.step

-- how many bytes of a piece of this length the sink takes
abbrev pub sink_takes : MemSink → ℕ → ℕ
sink_takes sink n = min sink.step (min n (sink.room - length sink.bytes.items))
