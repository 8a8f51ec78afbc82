-- The names of ports with which a netlist is written such that its text is read as the same netlist.
use Rattle.std.specs.Prelude.{◌≡◌, ℕ, ◌≤◌, Bool, ◌||◌, IsTrue, List, ◌++◌, length, take, codes, slice_get, Some}
use Rattle.std.specs.List.{list_all}
use Rattle.std.specs.Str.{bytes_eq}
use Rattle.net_core.specs.Circuits.{Circuit, output_names}
use Rattle.vlog_text.specs.Lexing.{is_name_byte}

abbrev pub begins_with : List ℕ → List ℕ → Bool
begins_with front name = bytes_eq (take (length front) name) front

-- an identifier that begins with `i_`, `a_` or `o_`
pub record IsPortName (name : List ℕ) : Type 0 where
  pub short : length name ≤ 255
  pub bytes : IsTrue (list_all is_name_byte name)
  pub prefix : IsTrue (begins_with (codes "i_") name || begins_with (codes "a_") name || begins_with (codes "o_") name)

abbrev pub port_names : Circuit → List (List ℕ)
port_names c = c.inputs ++ output_names c

-- the inputs and the outputs have such names, all different
pub record HasPortNames (c : Circuit) : Type 0 where
  pub each : (n : ℕ) (name : List ℕ) → slice_get (port_names c) n ≡ Some name → IsPortName name
  pub once : (m n : ℕ) (name : List ℕ) → slice_get (port_names c) m ≡ Some name → slice_get (port_names c) n ≡ Some name
      → m ≡ n
