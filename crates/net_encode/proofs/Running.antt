-- Runs of an encoded netlist are runs of the netlist that it was made from.
use Rattle.std.proofs.Common.{◌≡◌, ℕ, zero, suc, ◌+◌, ◌-◌, ◌<◌, ◌≤◌, Bool, true, false, inl, inr}
use Rattle.std.proofs.Common.{List, [], ◌∷◌, length, map, take, get_or, Some, refl, sym, ap, ◌∙◌, subst, arith}
use Rattle.std.proofs.Common.{length-take}
use Rattle.std.specs.Prelude.{slice_get}
use Rattle.std.proofs.lemmas.Bool.{cases_lt}
use Rattle.std.proofs.lemmas.Option.{same_Some, slice_get-get_or}
use Rattle.pbs_base.specs.declared.entry.Entry.{Entry}
use Rattle.net_core.specs.declared.codes.Code.{Code}
use Rattle.net_core.specs.declared.codes.Code.TheVariants.{Never}
use Rattle.net_core.specs.declared.codes.CodePlan.{CodePlan}
use Rattle.net_core.specs.declared.gate.Wire.{Wire}
use Rattle.net_core.specs.declared.gate.Wire.TheVariants as wire
use Rattle.net_core.specs.Rows.{Row, IsRow, value}
use Rattle.net_core.specs.Circuits.{Circuit, output_gate, wire_at}
use Rattle.net_core.specs.Runs.{IsRun, next_of}
use Rattle.net_encode.specs.Codes.{code_registers, code_in, codes_of, tells, code_has_one}
use Rattle.net_core.specs.Plans.{leader_of}
use Rattle.net_encode.specs.Codes.{Obeys, IsDue}
use Rattle.net_encode.specs.inner.Plans.{IsPlan}
use Rattle.net_encode.specs.inner.Columns.{code_bits}
use Rattle.net_encode.specs.Encodings.{ObeysAlways, Mirrors}
use Rattle.net_encode.specs.inner.Telling.{AreTelling}
use Rattle.net_encode.proofs.Coding.{told, shown, on_where, in_no_group}
use Rattle.net_encode.proofs.Seated.{are_small, one_each}
use Rattle.net_encode.proofs.TellingLemmas.{place_told}

-- ---- one row

get_mapped : (f : ℕ → Code) (xs : List ℕ) (p : ℕ) (c : Code) → slice_get (map f xs) p ≡ Some c
    → (p < length xs) × (f (get_or xs p 0) ≡ c)
get_mapped f [] p c at = absurd (cc)
get_mapped f (x ∷ xs) zero c at = (omega arith, same_Some (f x) c at)
get_mapped f (x ∷ xs) (suc p) c at = let rest = get_mapped f xs p c at in (omega (arith, rest.0), rest.1)

get_map : (f : ℕ → Code) (xs : List ℕ) (p : ℕ) → p < length xs → slice_get (map f xs) p ≡ Some (f (get_or xs p 0))
get_map f [] p h = absurd (omega arith)
get_map f (x ∷ xs) zero h = refl
get_map f (x ∷ xs) (suc p) h = get_map f xs p (omega arith)

-- registers that hold the bits of the places that stand tell each place
pub tells_place : (places : ℕ) (plan : CodePlan) (s r : ℕ → Bool) → IsPlan places plan → Obeys places plan s
    → ((i : ℕ) → i < code_registers plan.groups → r i ≡ get_or (code_bits s plan.groups) i false)
    → (p : ℕ) (code : Code) → slice_get (codes_of plan) p ≡ Some code → tells r code ≡ s p
tells_place places plan s r ok obeys bits p code at =
    let found = get_mapped (λ leader. code_in 0 plan.groups leader) plan.leaders p code at in
    let within : p < places = omega (arith, found.0, ok.count) in
    let leader = leader_of plan p in
    ap (tells r) (sym found.1) ∙ (elim (ok.each p within) [
      | inl never ↦
          let own = ok.never p never in
          ap (λ l. tells r (code_in 0 plan.groups l)) own.0
          ∙ ap (tells r) (in_no_group 0 plan.groups p own.1)
          ∙ sym (obeys.never p within never)
      | inr seat ↦
          told s r plan.groups 0 (are_small places plan ok) (one_each places plan s ok obeys) ok.once
          (λ i h. let e : 0 + i ≡ i = omega arith in ap r e ∙ bits i h)
          seat.number seat.position leader seat.group seat.at seat.there
          ∙ sym (obeys.twins p within)
    ])

due : (places : ℕ) (plan : CodePlan) (s : ℕ → Bool) → IsPlan places plan → Obeys places plan s → (r : ℕ)
    → IsDue s (codes_of plan) r (get_or (code_bits s plan.groups) r false)
due places plan s ok obeys r = record {
  some = λ on.
      let seen = shown s plan.groups 0 r ok.once on in
      let p = seen.place in
      let own = ok.leaders p seen.within in
      let within : p < length plan.leaders = omega (arith, own.0, ok.count) in
      let e : 0 + r ≡ r = omega arith in (
        p,
        code_in 0 plan.groups p,
        get_map (λ leader. code_in 0 plan.groups leader) plan.leaders p within
            ∙ ap (λ l. Some (code_in 0 plan.groups l)) own.1,
        seen.stands,
        ap (λ n. code_has_one n (code_in 0 plan.groups p)) (sym e) ∙ seen.one,
      );
  one = λ p c at on one.
      let found = get_mapped (λ leader. code_in 0 plan.groups leader) plan.leaders p c at in
      let within : p < places = omega (arith, found.0, ok.count) in
      let leader = leader_of plan p in
      elim (ok.each p within) [
        | inl never ↦
            let own = ok.never p never in
            let none : false ≡ true =
            sym (ap (code_has_one r) (in_no_group 0 plan.groups p own.1))
            ∙ ap (λ l. code_has_one r (code_in 0 plan.groups l)) (sym own.0)
            ∙ ap (code_has_one r) found.1 ∙ one in
            absurd (cc none)
        | inr seat ↦
            let where_on = on_where s plan.groups 0 r ok.once seat.number seat.position leader seat.group seat.at
            seat.there (sym (obeys.twins p within) ∙ on) (ap (code_has_one r) found.1 ∙ one) in
            let e : r ≡ where_on.0 = let q = where_on.1 in omega (arith, q) in
            ap (λ n. get_or (code_bits s plan.groups) n false) e ∙ where_on.2
      ];
}

-- ---- all rows

-- what the old netlist shows in a row of the new one
abbrev pub old_row : List Wire → ℕ → Row → Row
old_row table offset row = record {
  registers = λ r. value row (wire_at table r);
  reset = row.reset;
  vector = row.vector;
  gates = λ g. row.gates (offset + g);
}

-- the new netlist has the old one's gates behind the first `offset` gates; `table` has a wire for each old register
pub record Carries (old new : Circuit) (places : ℕ) (plan : CodePlan) (codes : List Code) (table : List Wire)
    (offset : ℕ) : Type 0 where
  pub telling : AreTelling plan places codes
  pub few : places ≤ length old.registers
  pub count : length new.registers + places ≡ code_registers plan.groups + length old.registers
  pub rows : (row : Row) → IsRow new.gates row → IsRow old.gates (old_row table offset row)
  pub told : (row : Row) → IsRow new.gates row → (p : ℕ) (code : Code) → slice_get codes p ≡ Some code
      → value row (wire_at table p) ≡ tells row.registers code
  pub rest : (i : ℕ) → places + i < length old.registers
      → wire_at table (places + i) ≡ wire.Reg (code_registers plan.groups + i)
  pub bits : (row : Row) → IsRow new.gates row → (r : ℕ) → r < code_registers plan.groups
      → next_of new row r ≡ get_or (code_bits (next_of old (old_row table offset row)) plan.groups) r false
  pub rest_next : (row : Row) → IsRow new.gates row → (i : ℕ) → places + i < length old.registers
      → next_of new row (code_registers plan.groups + i) ≡ next_of old (old_row table offset row) (places + i)
  pub outputs : (n : ℕ) → n < length old.outputs → output_gate new n ≡ offset + output_gate old n

pub get_taken : {X : Type 0} (n : ℕ) (xs : List X) (k : ℕ) (x : X) → slice_get (take n xs) k ≡ Some x
    → slice_get xs k ≡ Some x
get_taken zero xs k x h = absurd (cc)
get_taken (suc n) [] k x h = absurd (cc)
get_taken (suc n) (y ∷ xs) zero x h = h
get_taken (suc n) (y ∷ xs) (suc k) x h = get_taken n xs k x h

pub take_whole : {X : Type 0} (xs : List X) → take (length xs) xs ≡ xs
take_whole [] = refl
take_whole (x ∷ xs) = ap (λ l. x ∷ l) (take_whole xs)

module _ (old new : Circuit) (places : ℕ) (plan : CodePlan) (codes : List Code) (table : List Wire) (offset : ℕ)
    (carries : Carries old new places plan codes table offset) (ok : IsPlan places plan)
    (obeys : ObeysAlways old places plan) (v : List Entry) (rows : ℕ → Row) (run : IsRun new v rows) where
  next_registers : (k : ℕ) → k < length v → Obeys places plan (next_of old (old_row table offset (rows k))) → (r : ℕ)
      → r < length old.registers
      → value (rows (suc k)) (wire_at table r) ≡ next_of old (old_row table offset (rows k)) r
  next_registers k below is r h =
      let here = run.each k (omega arith) in
      let after = run.each (suc k) (omega arith) in
      let count = carries.count in
      let few = carries.few in
      elim (cases_lt r places) [
        | inl low ↦
            let long = carries.telling.long in
            let code = get_or codes r Never in
            let at = slice_get-get_or codes r Never (omega (arith, low, long)) in
            carries.told (rows (suc k)) after r code at
            ∙ place_told places plan (next_of old (old_row table offset (rows k))) (rows (suc k)).registers ok is
            (λ i l. run.registers k below i (omega (arith, l, count, few)) ∙ carries.bits (rows k) here i l) r code low
            (carries.telling.each r code at)
        | inr high ↦
            let i = r - places in
            let e : places + i ≡ r = omega (arith, high) in
            let within : places + i < length old.registers = omega (arith, h, e) in
            ap (λ n. value (rows (suc k)) (wire_at table n)) (sym e)
            ∙ ap (value (rows (suc k))) (carries.rest i within)
            ∙ run.registers k below (code_registers plan.groups + i) (omega (arith, within, count))
            ∙ carries.rest_next (rows k) here i within
            ∙ ap (next_of old (old_row table offset (rows k))) e
      ]

  prefix_run : (n : ℕ) → n ≤ length v → IsRun old (take n v) (λ k. old_row table offset (rows k))
  prefix_run zero h = record {
    each = λ k l. carries.rows (rows k) (run.each k (omega (arith, l)));
    first = run.first;
    entries = λ k e at. absurd (cc);
    registers = λ k l r b. absurd (omega arith);
  }
  prefix_run (suc n) h =
      let earlier = prefix_run n (omega arith) in
      let long = length-take n v in
      let long' = length-take (suc n) v in
      let is = obeys.each (take n v) (λ k. old_row table offset (rows k)) earlier n (omega (arith, long, h)) in
      record {
        each = λ k l. carries.rows (rows k) (run.each k (omega (arith, l, long', h)));
        first = run.first;
        entries = λ k e at. run.entries k e (get_taken (suc n) v k e at);
        registers = λ k l r b. elim (cases_lt k n) [
          | inl low ↦ earlier.registers k (omega (arith, low, long, h)) r b
          | inr high ↦
              let same : k ≡ n = omega (arith, high, l, long') in
              let is' = subst (λ n. Obeys places plan (next_of old (old_row table offset (rows n)))) (sym same) is in
              next_registers k (omega (arith, same, h)) is' r b
        ];
      }

  pub mirrored : (before : ℕ → Row) × Mirrors old new places plan v before rows
  mirrored =
      let whole : IsRun old v (λ k. old_row table offset (rows k)) =
      subst (λ l. IsRun old l (λ k. old_row table offset (rows k))) (take_whole v) (prefix_run (length v) (omega arith))
      in (
        λ k. old_row table offset (rows k),
        record {
          run = whole;
          resets = λ k. refl;
          vectors = λ k. refl;
          outputs = λ k n h l. ap (rows k).gates (carries.outputs n l);
          places = λ k p code h at.
              sym (tells_place places plan (next_of old (old_row table offset (rows k))) (next_of new (rows k)) ok
              (obeys.each v (λ k. old_row table offset (rows k)) whole k h)
              (λ i l. carries.bits (rows k) (run.each k h) i l) p code at);
          codes = λ k r h l.
              subst (λ b. IsDue (next_of old (old_row table offset (rows k))) (codes_of plan) r b)
              (sym (carries.bits (rows k) (run.each k h) r l))
              (due places plan (next_of old (old_row table offset (rows k))) ok
              (obeys.each v (λ k. old_row table offset (rows k)) whole k h) r);
          rest = λ k i h l. carries.rest_next (rows k) (run.each k h) i l;
        },
      )
