-- How the names of a header are read.
use Rattle.std.specs.Prelude.{◌≡◌, ℕ, ◌+◌, ◌<◌, ◌≤◌, Bool, false, nat_eq, List, [], length, take, Option, Some}
use Rattle.std.specs.Prelude.{None, slice_index}
use Rattle.std.specs.Borrow.{Bor}
use Rattle.std.specs.List.{list_any}
use Rattle.trace_text.specs.Headers.{Header, Order, Refusing, is_known, port_of, words}
use Rattle.trace_text.specs.Steps.{ArePorts}
use Rattle.trace_text.specs.declared.names.Verdict.{Verdict}
use Rattle.trace_text.specs.declared.names.Verdict.TheVariants as verdict

abbrev pub has_byte : ℕ → List ℕ → Bool
has_byte byte text = list_any (λ c. nat_eq c byte) text

-- the byte stands behind the first n bytes and not among them, or nowhere
pub record IsFront (byte : ℕ) (text : List ℕ) (n : ℕ) : Type 0 where
  pub none : has_byte byte (take n text) ≡ false
  pub within : n ≤ length text
  pub there : n < length text → slice_index text n ≡ byte

-- the words behind a space, where there is one
abbrev pub words_behind : Option (Bor (List ℕ)) → List (List ℕ)
words_behind None = []
words_behind (Some text) = words text.now

-- how many bytes the space and these words have
abbrev pub length_behind : Option (Bor (List ℕ)) → ℕ
length_behind None = 0
length_behind (Some text) = 1 + length text.now

-- the number of a port that is known and not yet in the order
abbrev pub FindsPort : List (List ℕ) → List ℕ → List ℕ → Option ℕ → Type 0
FindsPort ports name order (Some port) = (port_of ports name ≡ Some port) ×
    (list_any (λ known. nat_eq known port) order ≡ false) × (port < 64)
FindsPort ports name order None = is_known order (port_of ports name) ≡ false

-- what was found of a header
abbrev pub Gives : ℕ → Header → Verdict → Type 0
Gives ports header (verdict.Order order) = (header ≡ Order order.items) × ArePorts order.items ×
    (length order.items ≤ ports)
Gives ports header (verdict.Refused refusal) = header ≡ Refusing refusal
