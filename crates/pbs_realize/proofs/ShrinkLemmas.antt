-- Rounds in which a netlist is made smaller.
use Rattle.std.proofs.Common.{◌≡◌, ℕ, ◌+◌, ◌<◌, ◌≤◌, length, map, ap, ◌∙◌, arith}
use Rattle.std.proofs.Common.{Result, Ok, Err, IfOk}
use Rattle.std.proofs.lemmas.List.{length-map}
use Rattle.net_core.specs.declared.netlist.Output.{Output}
use Rattle.net_core.specs.Rows.{Row}
use Rattle.net_core.specs.Circuits.{Circuit, IsBuilt, output_names}
use Rattle.net_tidy.specs.Follows.{Follows, ShowsSame}
use Rattle.net_tidy.specs.Tidy.{IsTidy}
use Rattle.net_merge.specs.Merges.{Merges}
use Rattle.pbs_realize.specs.inner.Shrinking.{DoesSame, Shrinks}

follows_same : (old new : Circuit) → Follows old new → DoesSame old new
follows_same old new follows = record {
  runs = λ v rows run.
      let found = follows.runs v rows run in
      (found.0, found.1, λ k h. (found.2 k h).shows);
}

merges_same : (old new : Circuit) → Merges old new → DoesSame old new
merges_same old new merges = record { runs = merges.runs }

-- ---- one after the other

shown_through : (old mid new : Circuit) (a b c : Row) → length mid.outputs ≡ length old.outputs
    → length mid.registers ≡ length old.registers → ShowsSame old mid a b → ShowsSame mid new b c
    → ShowsSame old new a c
shown_through old mid new a b c outputs registers first second = record {
  outputs = λ n h. second.outputs n (omega (arith, h, outputs)) ∙ first.outputs n h;
  next = λ r h. second.next r (omega (arith, h, registers)) ∙ first.next r h;
}

same_through : (old mid new : Circuit) → length mid.outputs ≡ length old.outputs
    → length mid.registers ≡ length old.registers → DoesSame old mid → DoesSame mid new → DoesSame old new
same_through old mid new outputs registers first second = record {
  runs = λ v rows run.
      let later = second.runs v rows run in
      let earlier = first.runs v later.0 later.1 in (
        earlier.0,
        earlier.1,
        λ k h.
            shown_through old mid new (earlier.0 k) (later.0 k) (rows k) outputs registers (earlier.2 k h)
            (later.2 k h),
      );
}

same_count : (old new : Circuit) → output_names new ≡ output_names old → length new.outputs ≡ length old.outputs
same_count old new names =
    let left = length-map new.outputs (λ (o : Output). o.name) in
    let right = length-map old.outputs (λ (o : Output). o.name) in
    let both = ap length names in
    omega (arith, left, right, both)

pub shrinks_tidied : (old new : Circuit) → Follows old new → IsTidy new → (IsBuilt old.gates → IsBuilt new.gates)
    → Shrinks old new
shrinks_tidied old new follows tidy built = record {
  circuit = follows.circuit;
  inputs = follows.inputs;
  outputs = follows.outputs;
  registers = follows.registers;
  built = built;
  unread = tidy.unread;
  few = follows.few;
  same = follows_same old new follows;
}

pub shrinks_further : (old mid new : Circuit) → Shrinks old mid → Shrinks mid new → length new.gates ≤ length mid.gates
    → Shrinks old new
shrinks_further old mid new first second fewer = record {
  circuit = second.circuit;
  inputs = second.inputs ∙ first.inputs;
  outputs = second.outputs ∙ first.outputs;
  registers = second.registers ∙ first.registers;
  built = λ plain. second.built (first.built plain);
  unread = second.unread;
  few = let few = first.few in omega (arith, few, fewer);
  same = same_through old mid new (same_count old mid first.outputs) first.registers first.same second.same;
}

pub shrinks_merged : (old mid new : Circuit) → Merges old mid → Follows mid new → IsTidy new
    → (IsBuilt mid.gates → IsBuilt new.gates) → Shrinks old new
shrinks_merged old mid new merges follows tidy built = record {
  circuit = follows.circuit;
  inputs = follows.inputs ∙ merges.inputs;
  outputs = follows.outputs ∙ ap (map (λ (o : Output). o.name)) merges.outputs;
  registers = follows.registers ∙ merges.registers;
  built = λ plain. built (merges.built plain);
  unread = tidy.unread;
  few =
      let few = follows.few in
      let gates = merges.gates in
      let outputs : length mid.outputs ≡ length old.outputs = ap length merges.outputs in
      omega (arith, few, gates, outputs);
  same =
      same_through old mid new (ap length merges.outputs) merges.registers (merges_same old mid merges)
      (follows_same mid new follows);
}

-- ---- answers of calls

pub tidied_shrinks : {E : Type 0} (net : Circuit) (r : Result Circuit E) → IfOk r (λ made. Follows net made)
    → IfOk r (λ made. IsTidy made) → IfOk r (λ made. IsBuilt net.gates → IsBuilt made.gates)
    → IfOk r (λ made. Shrinks net made)
tidied_shrinks net (Ok made) follows tidy built = shrinks_tidied net made follows tidy built
tidied_shrinks net (Err e) follows tidy built = tt

pub merged_shrinks : {E : Type 0} (net merged : Circuit) (r : Result Circuit E) → Merges net merged
    → IfOk r (λ made. Follows merged made) → IfOk r (λ made. IsTidy made)
    → IfOk r (λ made. IsBuilt merged.gates → IsBuilt made.gates) → IfOk r (λ made. Shrinks net made)
merged_shrinks net merged (Ok made) merges follows tidy built =
    shrinks_merged net merged made merges follows tidy built
merged_shrinks net merged (Err e) merges follows tidy built = tt
