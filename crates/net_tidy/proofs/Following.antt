-- What the gates that are enough, with outputs added, make of a circuit.
use Rattle.std.proofs.Common.{◌≡◌, ℕ, suc, ◌+◌, ◌<◌, ◌≤◌, Bool, false, List, [], length, sym, ap, ◌∙◌}
use Rattle.std.proofs.Common.{subst, arith, get_or}
use Rattle.std.proofs.lemmas.Option.{slice_get_within, slice_get-get_or}
use Rattle.pbs_base.specs.declared.entry.Entry.{Entry}
use Rattle.net_core.specs.declared.gate.Wire.{Wire}
use Rattle.net_core.specs.declared.gate.Wire.TheVariants.{Const}
use Rattle.net_core.specs.declared.gate.Gate as gate
use Rattle.net_core.specs.declared.netlist.Output.{Output}
use Rattle.net_core.specs.Rows.{Row, IsRow, value}
use Rattle.net_core.specs.Circuits.{Circuit, circuit_of, IsCircuit, IsThere, output_gate, output_names, wire_at}
use Rattle.net_core.specs.Building.{Keeps}
use Rattle.net_core.specs.Runs.{IsRun, next_of, output_value}
use Rattle.net_eval.specs.Assignments.{Agree}
use Rattle.net_eval.proofs.Agreeing.{value_agree}
use Rattle.net_eval.proofs.Assigning.{one_assignment_each}
use Rattle.net_tidy.specs.inner.Assembled.{HasEach, Shows}
use Rattle.net_tidy.specs.Follows.{Follows, MatchesRow, ShowsSame}
use Rattle.net_tidy.specs.inner.Shrunk.{IsBack, IsShrunk}

-- ---- two rows of one circuit

same_outputs : (c : Circuit) (a b : Row) → IsCircuit c → Agree (length c.registers) (length c.gates) a b → (n : ℕ)
    → n < length c.outputs → output_value c a n ≡ output_value c b n
same_outputs c a b ok agree n h =
    let nothing : Output = record { name = []; gate = 0 } in
    let o = get_or c.outputs n nothing in
    agree.gates (output_gate c n) (ok.outputs_right.there n o (slice_get-get_or c.outputs n nothing h))

same_next : (c : Circuit) (a b : Row) → IsCircuit c → Agree (length c.registers) (length c.gates) a b → (r : ℕ)
    → r < length c.registers → next_of c a r ≡ next_of c b r
same_next c a b ok agree r h =
    let at = slice_get-get_or c.registers r (Const false) h in
    value_agree (length c.inputs) (length c.registers) (length c.gates) a b (wire_at c.registers r) agree
    (ok.data_there.each r (wire_at c.registers r) at)

-- ---- rows of the result

-- the row of the source that a row of the result shows
back_matches : (source result : Circuit) (gates : List gate.Gate) (shown next : List Wire) (of row : Row)
    → Keeps (circuit_of source.inputs gates next []) result → result.registers ≡ next
    → Shows result shown (length source.outputs) → IsRow result.gates row → IsBack source shown next of row
    → MatchesRow source result of row
back_matches source result gates shown next of row keeps registers shows is back = record {
  agree = record {
    registers = λ k h. ap (λ (f : ℕ → Bool). f k) back.registers;
    reset = back.reset;
    vector = back.vector;
    gates = λ k h. absurd (omega arith);
  };
  shows = record {
    outputs = λ n h. shows.shown n h row is ∙ back.outputs n h;
    next = λ r h. ap (λ (ws : List Wire). value row (wire_at ws r)) registers ∙ back.nexts r h;
  };
}

turned : (r : ℕ) (a b : Row) → Agree r 0 a b → Agree r 0 b a
turned r a b s = record {
  registers = λ k h. sym (s.registers k h);
  reset = sym s.reset;
  vector = sym s.vector;
  gates = λ k h. absurd (omega arith);
}

after : (r : ℕ) (a b c : Row) → Agree r 0 a b → Agree r 0 b c → Agree r 0 a c
after r a b c s t = record {
  registers = λ k h. s.registers k h ∙ t.registers k h;
  reset = s.reset ∙ t.reset;
  vector = s.vector ∙ t.vector;
  gates = λ k h. absurd (omega arith);
}

-- any row of the source that begins alike shows the same
any_row : (source result : Circuit) (of back made : Row) → IsCircuit source → IsRow source.gates of
    → IsRow source.gates back → MatchesRow source result back made → Agree (length source.registers) 0 of made
    → ShowsSame source result of made
any_row source result of back made ok is is' matches agree =
    let r = length source.registers in
    let same = (one_assignment_each source ok).same back of is' is
    (after r back made of matches.agree (turned r of made agree)) in
    record {
      outputs = λ n h. matches.shows.outputs n h ∙ same_outputs source back of ok same n h;
      next = λ n h. matches.shows.next n h ∙ same_next source back of ok same n h;
    }

run_back : (source result : Circuit) (gates : List gate.Gate) (shown next : List Wire) (v : List Entry) (rows : ℕ → Row)
    → (shrunk : IsShrunk source gates shown next) → Keeps (circuit_of source.inputs gates next []) result
    → result.registers ≡ next → Shows result shown (length source.outputs) → IsRun result v rows
    → IsRun source v (λ k. shrunk.back (rows k))
run_back source result gates shown next v rows shrunk keeps registers shows run =
    let back = λ (k : ℕ) (h : k ≤ length v). shrunk.rows (rows k) (keeps.rows (rows k) (run.each k h)) in
    let back_of = λ (k : ℕ) (h : k ≤ length v).
    back_matches source result gates shown next (shrunk.back (rows k)) (rows k)
    keeps registers shows (run.each k h) (back k h) in
    let same_length : length result.registers ≡ length source.registers = ap length registers ∙ shrunk.next_long in
    record {
      each = λ k h. (back k h).is;
      first = (back 0 (omega arith)).reset ∙ run.first;
      entries = λ k e at.
          let low = slice_get_within v k e at in
          let b = back (suc k) (omega (arith, low)) in
          rw (b.reset, b.vector) (run.entries k e at);
      registers = λ k h r l.
          let b = back (suc k) (omega arith) in
          ap (λ (f : ℕ → Bool). f r) b.registers
          ∙ (run.registers k h r (omega (arith, l, same_length)) ∙ (back_of k (omega arith)).shows.next r l);
    }

pub follows_whole : (source result : Circuit) (gates : List gate.Gate) (shown next : List Wire) → IsCircuit source
    → IsCircuit result → IsShrunk source gates shown next → Keeps (circuit_of source.inputs gates next []) result
    → result.inputs ≡ source.inputs → result.registers ≡ next → output_names result ≡ output_names source
    → Shows result shown (length source.outputs) → length result.gates ≡ length gates + length source.outputs
    → Follows source result
follows_whole source result gates shown next ok right shrunk keeps inputs registers names shows count = record {
  circuit = right;
  inputs = inputs;
  outputs = names;
  registers = ap length registers ∙ shrunk.next_long;
  rows = λ of made is is' agree.
      let b = shrunk.rows made (keeps.rows made is') in
      any_row source result of (shrunk.back made) made ok is b.is
      (back_matches source result gates shown next (shrunk.back made) made keeps registers shows is' b) agree;
  runs = λ v rows run. (
    λ k. shrunk.back (rows k),
    run_back source result gates shown next v rows shrunk keeps registers shows run,
    λ k h.
        back_matches source result gates shown next (shrunk.back (rows k)) (rows k) keeps registers shows (run.each k h)
        (shrunk.rows (rows k) (keeps.rows (rows k) (run.each k h))),
  );
  few = omega (arith, count, shrunk.few);
}

pub each_there : (source c : Circuit) (gates : List gate.Gate) (shown next : List Wire)
    → IsShrunk source gates shown next → c ≡ circuit_of source.inputs gates next [] → HasEach c shown
each_there source c gates shown next shrunk e =
    subst (λ (x : Circuit). HasEach x shown) (sym e) (record {
      each = λ n h.
          subst (λ k. IsThere (length source.inputs) k (length gates) (wire_at shown n)) (sym shrunk.next_long)
          (shrunk.shown_there.each n (wire_at shown n) (slice_get-get_or shown n (Const false) h));
    })

pub follows_built : (source start draft result : Circuit) (gates : List gate.Gate) (shown next : List Wire)
    → IsCircuit source → IsCircuit result → IsShrunk source gates shown next
    → start ≡ circuit_of source.inputs gates next [] → result ≡ draft → Keeps start draft → draft.inputs ≡ start.inputs
    → draft.registers ≡ start.registers → output_names draft ≡ output_names source
    → Shows draft shown (length source.outputs) → length draft.gates ≡ length start.gates + length source.outputs
    → Follows source result
follows_built source start draft result gates shown next ok right shrunk e f keeps inputs registers names shows count =
    let right' = subst (λ (x : Circuit). IsCircuit x) f right in
    subst (λ (x : Circuit). Follows source x) (sym f)
    (follows_whole source draft gates shown next ok right' shrunk (subst (λ (x : Circuit). Keeps x draft) e keeps)
    (inputs ∙ ap (λ (x : Circuit). x.inputs) e) (registers ∙ ap (λ (x : Circuit). x.registers) e) names shows
    (count ∙ ap (λ (x : Circuit). length x.gates + length source.outputs) e))
