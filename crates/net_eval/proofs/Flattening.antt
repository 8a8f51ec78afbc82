-- Lists that stand one behind the other.
use Rattle.std.proofs.Common.{◌≡◌, ℕ, ◌+◌, ◌-◌, ◌<◌, ◌≤◌, inl, inr, List, [], ◌∷◌, ◌++◌, length, get_or, take, drop}
use Rattle.std.proofs.Common.{Result, Ok, Err, refl, sym, ap, subst, ◌∙◌, arith}
use Rattle.std.proofs.Common.{append_assoc, append-nil, length-append, length-drop, map}
use Rattle.std.specs.Prelude.{IfOk}
use Rattle.std.proofs.lemmas.Bool.{cases_lt}
use Rattle.std.proofs.lemmas.List.{drop-append-le, get_or_append_left, map-append, take-append-le, take_all, take_more}
use Rattle.std.proofs.lemmas.Option.{get_or_from_slice_get, slice_get-get_or}
use Rattle.std.proofs.Math.Seq.{drop-append_seam}
use Rattle.net_core.specs.declared.gate.Wire.{Wire}
use Rattle.net_core.specs.declared.gate.GateKind.{GateKind}
use Rattle.net_core.specs.declared.gate.GateKind.TheVariants.{Buf}
use Rattle.net_core.specs.declared.gate.Gate as gate
use Rattle.net_core.specs.Circuits.{Circuit, IsThere}
use Rattle.net_eval.specs.Readers.{IsFanout, Readers, readers_from}
use Rattle.net_eval.specs.inner.Chains.{HasLists, IsChain}
use Rattle.net_eval.specs.inner.Flat.{AreFlat, ArePins, kind_of}
use Rattle.net_eval.proofs.Chaining.{get_end}

part_kept : {X : Type 0} (all ys : List X) (a b : ℕ) → a ≤ b → b ≤ length all
    → take (b - a) (drop a (all ++ ys)) ≡ take (b - a) (drop a all)
part_kept all ys a b p q =
    let long = length-drop a all in
    ap (λ xs. take (b - a) xs) (drop-append-le a all ys (omega arith))
    ∙ take-append-le (b - a) (drop a all) ys (omega arith)

part_last : {X : Type 0} (all xs : List X) (a b : ℕ) → a ≡ length all → b ≡ length all + length xs
    → take (b - a) (drop a (all ++ xs)) ≡ xs
part_last all xs a b p q =
    ap (λ k. take (b - a) (drop k (all ++ xs))) p ∙ ap (λ l. take (b - a) l) (drop-append_seam all xs)
    ∙ take_all (b - a) xs (omega arith)

pub flat_more : {X : Type 0} (is : ℕ → List X → Type 0) (k e : ℕ) (starts : List ℕ) (all ys : List X)
    (starts' : List ℕ) (all' : List X) → AreFlat is k starts all
    → all' ≡ all ++ ys → e ≡ length all' → starts' ≡ starts ++ e ∷ []
    → ((xs : List X) → is k xs → all' ≡ all ++ xs)
    → AreFlat is (k + 1) starts' all'
flat_more is k e starts all ys starts' all' flat longer end more list =
    let long = flat.long in
    let long_all = ap (λ xs. length xs) longer ∙ length-append all ys in
    let long_starts = ap (λ xs. length xs) more ∙ length-append starts (e ∷ []) in
    let front : (j : ℕ) → j < k + 1 → get_or starts' j 0 ≡ get_or starts j 0 =
    λ j h. ap (λ xs. get_or xs j 0) more ∙ get_or_append_left starts (e ∷ []) 0 j (omega arith) in
    let back : (j : ℕ) → j ≡ k + 1 → get_or starts' j 0 ≡ e =
    λ j h. ap (λ xs. get_or xs j 0) more ∙ get_end starts e j (omega arith) in
    record {
      long = omega arith;
      last = back (k + 1) refl ∙ end;
      rising = λ j h. elim (cases_lt j k) [
        | inl lt ↦
            let one = front j (omega arith) in
            let two = front (j + 1) (omega arith) in
            let low = flat.rising j lt in
            omega arith
        | inr ge ↦
            let one = front j (omega arith) in
            let two = back (j + 1) (omega arith) in
            let low = flat.within j (omega arith) in
            omega arith
      ];
      within = λ j h. elim (cases_lt j (k + 1)) [
        | inl lt ↦ let one = front j lt in let low = flat.within j lt in omega arith
        | inr ge ↦ let one = back j (omega arith) in omega arith
      ];
      lists = λ j xs h of. elim (cases_lt j k) [
        | inl lt ↦
            ap (λ a. take (get_or starts' (j + 1) 0 - a) (drop a all')) (front j (omega arith))
            ∙ ap (λ b. take (b - get_or starts j 0) (drop (get_or starts j 0) all')) (front (j + 1) (omega arith))
            ∙ ap (λ l. take (get_or starts (j + 1) 0 - get_or starts j 0) (drop (get_or starts j 0) l)) longer
            ∙ part_kept all ys (get_or starts j 0) (get_or starts (j + 1) 0) (flat.rising j lt)
            (flat.within (j + 1) (omega arith))
            ∙ flat.lists j xs lt of
        | inr ge ↦
            let at : j ≡ k = omega arith in
            let same = list xs (subst (λ i. is i xs) at of) in
            let long_xs = ap (λ l. length l) same ∙ length-append all xs in
            let one = front j (omega arith) in
            let two = back (j + 1) (omega arith) in
            let last = ap (λ i. get_or starts i 0) at ∙ flat.last in
            ap (λ l. take (get_or starts' (j + 1) 0 - get_or starts' j 0) (drop (get_or starts' j 0) l)) same
            ∙ part_last all xs (get_or starts' j 0) (get_or starts' (j + 1) 0) (omega arith) (omega arith)
      ];
    }

-- ---- gates

pub kinds_more : (gates : List gate.Gate) (n : ℕ) (d : gate.Gate) (kinds kinds' : List GateKind) → n < length gates
    → kinds ≡ map kind_of (take n gates) → kinds' ≡ kinds ++ (get_or gates n d).kind ∷ []
    → kinds' ≡ map kind_of (take (n + 1) gates)
kinds_more gates n d kinds kinds' lt before pushed =
    pushed ∙ ap (λ ks. ks ++ (get_or gates n d).kind ∷ []) before
    ∙ sym (ap (λ gs. map kind_of gs) (take_more gates n d lt)
    ∙ map-append kind_of (take n gates) (get_or gates n d ∷ []))

pub pins_read : (gates : List gate.Gate) (n : ℕ) (d : gate.Gate) (pins : List Wire) → n < length gates
    → pins ≡ (get_or gates n d).pins → ArePins gates n pins
pins_read gates n d pins lt same =
    same
    ∙ sym (ap (λ (y : gate.Gate). y.pins)
    (get_or_from_slice_get gates n (get_or gates n d) (record { kind = Buf; pins = [] })
    (slice_get-get_or gates n d lt)))

-- ---- one list

pub seam_front : (front ys all : List ℕ) → all ≡ front ++ ys → all ≡ front ++ drop (length front) all
seam_front front ys all e =
    e ∙ ap (λ l. front ++ l) (sym (ap (λ l. drop (length front) l) e ∙ drop-append_seam front ys))

pub front_more : (front all more : List ℕ) (x : ℕ) → all ≡ front ++ drop (length front) all → more ≡ all ++ x ∷ []
    → more ≡ front ++ drop (length front) more
front_more front all more x e f =
    seam_front front (drop (length front) all ++ x ∷ []) more
    (f ∙ ap (λ l. l ++ x ∷ []) e ∙ append_assoc front (drop (length front) all) (x ∷ []))

pub chain_next : (gates nexts : List ℕ) (h : ℕ) (xs : List ℕ) → 0 < h → IsChain gates nexts h xs
    → (rest : List ℕ) × (xs ≡ get_or gates (h - 1) 0 ∷ rest) × IsChain gates nexts (get_or nexts (h - 1) 0) rest
chain_next gates nexts h [] some c = absurd (omega arith)
chain_next gates nexts h (x ∷ xs) some c = (xs, ap (λ y. y ∷ xs) (sym c.2), c.3)

pub list_next : (gates nexts : List ℕ) (h x m : ℕ) (front list all more : List ℕ) → 0 < h
    → x ≡ get_or gates (h - 1) 0 → m ≡ get_or nexts (h - 1) 0 → more ≡ all ++ x ∷ []
    → (rest : List ℕ) × IsChain gates nexts h rest × (all ++ rest ≡ front ++ list)
    → (rest : List ℕ) × IsChain gates nexts m rest × (more ++ rest ≡ front ++ list)
list_next gates nexts h x m front list all more some is after pushed before =
    let next = chain_next gates nexts h before.0 some before.1 in (
      next.0,
      subst (λ j. IsChain gates nexts j next.0) (sym after) next.2,
      ap (λ l. l ++ next.0) pushed ∙ append_assoc all (x ∷ []) next.0
          ∙ ap (λ y. all ++ y ∷ next.0) is ∙ ap (λ l. all ++ l) (sym next.1) ∙ before.2,
    )

pub list_done : (gates nexts : List ℕ) (h : ℕ) (front list all : List ℕ) → h ≡ 0
    → (rest : List ℕ) × IsChain gates nexts h rest × (all ++ rest ≡ front ++ list) → all ≡ front ++ list
list_done gates nexts h front list all none before =
    sym (append-nil all) ∙ ap (λ l. all ++ l) (sym (empty before.0 before.1)) ∙ before.2
  where
    empty : (xs : List ℕ) → IsChain gates nexts h xs → xs ≡ []
    empty [] c = refl
    empty (x ∷ xs) c = absurd (let some = c.0 in omega arith)

-- ---- the lists of a netlist

pub fanout_is : (net : Circuit) (lists : Readers) (r : ℕ) (gates : List gate.Gate) → r ≡ length net.registers
    → gates ≡ net.gates → HasLists lists r (length gates) (λ w. readers_from 0 gates w) → IsFanout net lists
fanout_is net lists r gates e f h = record {
  registers = h.registers_are ∙ e;
  gates = h.gates_are ∙ ap (λ gs. length gs) f;
  readers = λ w t.
      h.lists w
      (subst (λ r. IsThere 64 r (length gates) w) (sym e)
      (subst (λ (gs : List gate.Gate). IsThere 64 (length net.registers) (length gs) w) (sym f) t))
      ∙ ap (λ gs. readers_from 0 gs w) f;
}

pub if_ok_map : {T E : Type 0} (r : Result T E) (P Q : T → Type 0) → ((x : T) → P x → Q x) → IfOk r P → IfOk r Q
if_ok_map (Ok x) P Q each h = each x h
if_ok_map (Err e) P Q each h = h
