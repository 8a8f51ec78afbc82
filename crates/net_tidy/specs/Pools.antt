-- Gates that grow, of which those of equal form are shared.
use Rattle.std.specs.Prelude.{◌≡◌, ℕ, List, Option, Some}
use Rattle.net_core.specs.declared.gate.Wire.{Wire}
use Rattle.net_core.specs.declared.gate.Wire.TheVariants as wire
use Rattle.net_core.specs.declared.gate.Gate as gate
use Rattle.net_tidy.specs.declared.form.Joint.{Joint}
use Rattle.net_tidy.specs.declared.form.Form.{Form}
use Rattle.net_tidy.specs.declared.form.Form.TheVariants.{Join}
use Rattle.net_tidy.specs.Forms.{form_at, IsTight}

-- what holds of every pool: the gates that are known have these forms, and each gate with a form is known
pub record IsPool (gates : List gate.Gate) (known : Form → Option ℕ) : Type 0 where
  pub sound : (f : Form) (n : ℕ) → known f ≡ Some n → form_at gates (wire.Gate n) ≡ Some f
  pub complete : (f : Form) (n : ℕ) → form_at gates (wire.Gate n) ≡ Some f → known f ≡ Some n
  pub tight : (f : Form) (n : ℕ) → form_at gates (wire.Gate n) ≡ Some f → IsTight f
  pub turned : (j : Joint) (a b : Wire) (m n : ℕ) → form_at gates (wire.Gate m) ≡ Some (Join j a b)
      → form_at gates (wire.Gate n) ≡ Some (Join j b a) → m ≡ n
