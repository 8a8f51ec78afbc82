-- What a plain gate makes of its pins.
use Rattle.std.specs.Prelude.{◌≢◌, Bool, true, false, not, ◌&&◌, ◌||◌, List, [], ◌∷◌, slice_get, Option, None, Some}
use Rattle.net_core.specs.declared.gate.Wire.{Wire}
use Rattle.net_core.specs.declared.gate.Wire.TheVariants as wire
use Rattle.net_core.specs.declared.gate.GateKind.{GateKind}
use Rattle.net_core.specs.declared.gate.GateKind.TheVariants as kinds
use Rattle.net_core.specs.declared.gate.Gate as gate
use Rattle.net_core.specs.Rows.{Row, value}
use Rattle.net_tidy.specs.declared.form.Joint.{Joint}
use Rattle.net_tidy.specs.declared.form.Joint.TheVariants.{All, Any}
use Rattle.net_tidy.specs.declared.form.Form.{Form}
use Rattle.net_tidy.specs.declared.form.Form.TheVariants.{Same, Not, Join}

abbrev pub joined : Joint → Bool → Bool → Bool
joined All a b = a && b
joined Any a b = a || b

-- the value with which a join is the other value
abbrev pub joint_unit : Joint → Bool
joint_unit All = true
joint_unit Any = false

-- the value of a form in a row
abbrev pub form_value : Row → Form → Bool
form_value row (Same a) = value row a
form_value row (Not a) = not (value row a)
form_value row (Join j a b) = joined j (value row a) (value row b)

-- the wires that a form reads
abbrev pub form_pins : Form → List Wire
form_pins (Same a) = a ∷ []
form_pins (Not a) = a ∷ []
form_pins (Join j a b) = a ∷ b ∷ []

abbrev pub joint_kind : Joint → GateKind
joint_kind All = kinds.And
joint_kind Any = kinds.Or

abbrev pub form_kind : Form → GateKind
form_kind (Same a) = kinds.Buf
form_kind (Not a) = kinds.Not
form_kind (Join j a b) = joint_kind j

abbrev pub form_of_one : GateKind → Wire → Option Form
form_of_one kinds.Buf a = Some (Same a)
form_of_one kinds.Not a = Some (Not a)
form_of_one kinds.And a = Some (Same a)
form_of_one kinds.Or a = Some (Same a)
form_of_one kinds.Nand a = None
form_of_one kinds.Nor a = None
form_of_one kinds.Xor a = None
form_of_one kinds.Xnor a = None

abbrev pub form_of_two : GateKind → Wire → Wire → Option Form
form_of_two kinds.Buf a b = None
form_of_two kinds.Not a b = None
form_of_two kinds.And a b = Some (Join All a b)
form_of_two kinds.Or a b = Some (Join Any a b)
form_of_two kinds.Nand a b = None
form_of_two kinds.Nor a b = None
form_of_two kinds.Xor a b = None
form_of_two kinds.Xnor a b = None

-- the form of a gate of this kind with these pins
abbrev pub form_of : GateKind → List Wire → Option Form
form_of kind [] = None
form_of kind (a ∷ []) = form_of_one kind a
form_of kind (a ∷ b ∷ []) = form_of_two kind a b
form_of kind (a ∷ b ∷ c ∷ rest) = None

abbrev pub gate_form : Option gate.Gate → Option Form
gate_form None = None
gate_form (Some g) = form_of g.kind g.pins

-- the form of the wire's gate
abbrev pub form_at : List gate.Gate → Wire → Option Form
form_at gates (wire.Const b) = None
form_at gates wire.Reset = None
form_at gates (wire.Input n) = None
form_at gates (wire.Reg n) = None
form_at gates (wire.Gate n) = gate_form (slice_get gates n)

abbrev pub IsConst : Wire → Type 0
IsConst (wire.Const b) = Unit {0}
IsConst wire.Reset = ⊥
IsConst (wire.Input n) = ⊥
IsConst (wire.Reg n) = ⊥
IsConst (wire.Gate n) = ⊥

-- the form is no wire itself, reads no constant, and joins no wire with itself
abbrev pub IsTight : Form → Type 0
IsTight (Same a) = ⊥
IsTight (Not a) = IsConst a → ⊥
IsTight (Join j a b) = (IsConst a → ⊥) × (IsConst b → ⊥) × (a ≢ b)
