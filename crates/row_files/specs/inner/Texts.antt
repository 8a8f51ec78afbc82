-- The bytes of text lines.
use Rattle.std.specs.Prelude.{ℕ, zero, suc, List, [], ◌++◌}

-- the bytes so many times
abbrev pub times : ℕ → List ℕ → List ℕ
times zero bytes = []
times (suc n) bytes = times n bytes ++ bytes
