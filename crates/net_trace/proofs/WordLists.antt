-- The names of a netlist's outputs.
use Rattle.std.proofs.Common.{◌≡◌, ◌≤◌, ℕ, zero, suc, List, [], ◌∷◌, length, map, Some, refl, sym, ap, ◌∙◌, arith}
use Rattle.std.specs.Prelude.{slice_get, Result, Ok, Err, IfOk}
use Rattle.pbs_base.specs.declared.fail.Memory.{Memory}
use Rattle.std.proofs.lemmas.Option.{same_Some}
use Rattle.pbs_base.specs.Words.{AreDifferent}
use Rattle.net_core.specs.declared.netlist.Output.{Output}
use Rattle.net_core.specs.Circuits.{Circuit, IsCircuit, output_names}

-- the output whose name stands there
named : (outputs : List Output) (n : ℕ) (word : List ℕ) → slice_get (map (λ (o : Output). o.name) outputs) n ≡ Some word
    → (o : Output) × (slice_get outputs n ≡ Some o) × (o.name ≡ word)
named [] n word at = absurd (cc)
named (o ∷ outputs) zero word at = (o, refl, same_Some o.name word at)
named (o ∷ outputs) (suc n) word at = named outputs n word at

pub outputs_differ : (net : Circuit) → IsCircuit net → AreDifferent (output_names net)
outputs_differ net right = record {
  once = λ m n word p q.
      let first = named net.outputs m word p in
      let second = named net.outputs n word q in
      right.outputs_right.names_once m n first.0 second.0 first.1 second.1 (first.2 ∙ sym second.2);
}

names_long : (outputs : List Output) → length (map (λ (o : Output). o.name) outputs) ≡ length outputs
names_long [] = refl
names_long (o ∷ outputs) = ap suc (names_long outputs)

pub few_names : (net : Circuit) (names : List (List ℕ)) → IsCircuit net → names ≡ output_names net → length names ≤ 128
few_names net names right is =
    let few = right.outputs_few in omega (arith, ap length is, names_long net.outputs)

pub few_found : (net : Circuit) (words : List (List ℕ)) (r : Result (List (List ℕ)) Memory) → IsCircuit net
    → words ≡ output_names net → IfOk r (λ names. names ≡ words) → IfOk r (λ names. length names ≤ 128)
few_found net words (Ok names) right is found = few_names net names right (found ∙ is)
few_found net words (Err e) right is found = tt
