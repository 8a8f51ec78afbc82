-- Forms as numbers, which have an order.
use Rattle.std.specs.Prelude.{ℕ, ◌+◌, ◌*◌, Bool, true, false}
use Rattle.std.specs.declared.cmp.Ordering.{Ordering}
use Rattle.std.specs.Ordering.{is_eq}
use Rattle.net_core.specs.declared.gate.Wire.{Wire}
use Rattle.net_core.specs.declared.gate.Wire.TheVariants.{Const, Reset, Input, Reg, Gate}
use Rattle.net_tidy.specs.declared.form.Joint.TheVariants.{All, Any}
use Rattle.net_tidy.specs.declared.form.Form.{Form}
use Rattle.net_tidy.specs.declared.form.Form.TheVariants.{Same, Not, Join}
use Rattle.net_tidy.specs.declared.key.Key.{Key}
use Rattle.net_tidy.specs.contracts.key.KeyOrd.TheImpl as key_block

-- a number of its own for each wire
abbrev pub wire_number : Wire → ℕ
wire_number (Const false) = 0
wire_number (Const true) = 1
wire_number Reset = 2
wire_number (Input n) = 3 * n + 3
wire_number (Reg n) = 3 * n + 4
wire_number (Gate n) = 3 * n + 5

abbrev pub form_key : Form → Key
form_key (Same a) = record { kind = 0; first = wire_number a; second = 0 }
form_key (Not a) = record { kind = 1; first = wire_number a; second = 0 }
form_key (Join All a b) = record { kind = 2; first = wire_number a; second = wire_number b }
form_key (Join Any a b) = record { kind = 3; first = wire_number a; second = wire_number b }

abbrev pub key_cmp : Key → Key → Ordering
key_cmp = (key_block.ghosts).cmp

abbrev pub form_eq : Form → Form → Bool
form_eq f g = is_eq (key_cmp (form_key f) (form_key g))
