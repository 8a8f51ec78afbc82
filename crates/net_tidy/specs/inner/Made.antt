-- Gates that were made.
use Rattle.std.specs.Prelude.{◌≡◌, ℕ, ◌+◌, ◌≤◌, Bool, List, length, slice_get, Some}
use Rattle.net_core.specs.declared.gate.Wire.{Wire}
use Rattle.net_core.specs.declared.gate.Wire.TheVariants as wire
use Rattle.net_core.specs.declared.gate.Gate as gate
use Rattle.net_core.specs.Rows.{Row, IsRow, value}
use Rattle.net_core.specs.Circuits.{AllThere, FitsAfter, IsThere}
use Rattle.net_tidy.specs.declared.form.Joint.{Joint}
use Rattle.net_tidy.specs.declared.form.Form.{Form}
use Rattle.net_tidy.specs.declared.form.Form.TheVariants.{Join}
use Rattle.net_tidy.specs.Forms.{form_at, IsTight}

-- the gates with a form read no constant, and no two have one form, in either order of the pins
pub record HasNeatForms (gates : List gate.Gate) : Type 0 where
  pub tight : (f : Form) (n : ℕ) → form_at gates (wire.Gate n) ≡ Some f → IsTight f
  pub once : (f : Form) (m n : ℕ) → form_at gates (wire.Gate m) ≡ Some f → form_at gates (wire.Gate n) ≡ Some f → m ≡ n
  pub turned : (j : Joint) (a b : Wire) (m n : ℕ) → form_at gates (wire.Gate m) ≡ Some (Join j a b)
      → form_at gates (wire.Gate n) ≡ Some (Join j b a) → m ≡ n

-- each gate has its pins, which name earlier gates
pub record AllFit (inputs registers : ℕ) (gates : List gate.Gate) : Type 0 where
  pub each : (n : ℕ) (g : gate.Gate) → slice_get gates n ≡ Some g → FitsAfter inputs registers n g

-- no gate was added or one, which reads some of these wires, and the wire has this meaning in every row
pub record Makes (old new : List gate.Gate) (pins : List Wire) (made : Wire) (meaning_of : Row → Bool) : Type 0 where
  pub rows : (row : Row) → IsRow new row → IsRow old row
  pub fewest : length old ≤ length new
  pub most : length new ≤ length old + 1
  pub meaning : (row : Row) → IsRow new row → value row made ≡ meaning_of row
  pub fit : (i r : ℕ) → AllFit i r old → AllThere i r (length old) pins → AllFit i r new
  pub there : (i r : ℕ) → AllFit i r old → AllThere i r (length old) pins → IsThere i r (length new) made
