-- What the shelf and the sink that never fail mean.
use Rattle.std.specs.Prelude.{Some, None, true}
use Rattle.pbs_io.specs.Outside.{ShelfState, SinkState}
use Rattle.pbs_io.specs.Cabinet.{entries, slot_state, place_in}
use Rattle.pbs_io.specs.declared.calm.CalmShelf.{CalmShelf}
use Rattle.pbs_io.specs.declared.calm.CalmSink.{CalmSink}

abbrev pub calm_shelf_state : CalmShelf → ShelfState
calm_shelf_state shelf = record {
  files = Some (entries shelf.cabinet.files.items);
  slots = λ n. slot_state shelf.cabinet.files.items (place_in shelf.cabinet.slots n);
  faults = 0;
  sound = true;
}

abbrev pub calm_sink_state : CalmSink → SinkState
calm_sink_state sink = record { written = None; faults = 0 }
