-- What is held.
use Rattle.std.specs.Prelude.{ℕ, List}
use Rattle.trace_text.specs.declared.held.Held.{Held}

abbrev pub held_bytes : Held → List ℕ
held_bytes held = held.bytes.items
