-- From gate to gate: the marked ones are kept.
use Rattle.std.proofs.Common.{◌≡◌, ℕ, zero, suc, ◌+◌, ◌<◌, ◌≤◌, inl, inr, Bool, true, false, not, List, [], ◌∷◌}
use Rattle.std.proofs.Common.{◌++◌, length, map, Some, refl, sym, ap, ◌∙◌, subst, arith}
use Rattle.std.specs.Prelude.{slice_get, slice_index_or}
use Rattle.std.proofs.lemmas.List.{get_or_append_left}
use Rattle.std.proofs.lemmas.Bool.{cases_lt, false≢true}
use Rattle.std.proofs.lemmas.Option.{same_Some}
use Rattle.pbs_base.specs.Entries.{bit}
use Rattle.net_core.specs.declared.gate.Wire.{Wire}
use Rattle.net_core.specs.declared.gate.Wire.TheVariants.{Const, Reset, Input, Reg, Gate}
use Rattle.net_core.specs.declared.gate.GateKind.{GateKind}
use Rattle.net_core.specs.declared.gate.GateKind.TheVariants as kinds
use Rattle.net_core.specs.declared.gate.Gate as gate
use Rattle.net_core.specs.Rows.{Row, IsRow, value, all_of, any_of, odd_of, output_of, gate_value}
use Rattle.net_core.specs.Circuits.{AllThere, IsThere, wire_at}
use Rattle.net_core.proofs.Pushed.{get_pushed, length_pushed}
use Rattle.net_core.proofs.Invariant.{there_more}
use Rattle.net_eval.specs.Assignments.{Agree}
use Rattle.net_eval.proofs.Agreeing.{agree_fewer, gate_agree, some_at}
use Rattle.net_tidy.specs.inner.Made.{AllFit}
use Rattle.net_tidy.specs.inner.Images.{image, row_back}
use Rattle.net_tidy.specs.inner.Marks.{HoldsMarked, IsClosedOver, IsFrom, IsKept, IsMarked, SweepsTo}
use Rattle.net_tidy.proofs.Pooled.{makes_pushed}
use Rattle.net_tidy.proofs.Folding.{agree_pushed, has_images, images_there, output_back, wire_at_end}

pub sweeps_none : (i r : ℕ) (gates : List gate.Gate) (marks : List Bool) → SweepsTo i r gates marks 0 [] []
sweeps_none i r gates marks = record {
  long = refl;
  few = omega arith;
  fit = record { each = λ n g e. absurd (cc) };
  there = λ k h. absurd (omega arith);
  rows = λ row is. record { each = λ k g h m e. absurd (omega arith) };
  once = λ j k m low low' e f. absurd (omega arith);
  placed = λ k low marked. absurd (omega arith);
  origin = λ m x e. absurd (cc);
}

-- ---- places stay

fit_earlier : (i r : ℕ) (gates : List gate.Gate) (n : ℕ) (g : gate.Gate) → AllFit i r gates → slice_get gates n ≡ Some g
    → AllThere i r n g.pins
fit_earlier i r gates n g fit e = (fit.each n g e).there

place_stays : (places : List Wire) (w : Wire) (n k : ℕ) → length places ≡ n → k < n
    → wire_at (places ++ w ∷ []) k ≡ wire_at places k
place_stays places w n k long low = get_or_append_left places (w ∷ []) (Const false) k (omega (arith, long, low))

image_stays : (i r n : ℕ) (places : List Wire) (v w : Wire) → length places ≡ n → IsThere i r n w
    → image (places ++ v ∷ []) w ≡ image places w
image_stays i r n places v (Const b) long there = refl
image_stays i r n places v Reset long there = refl
image_stays i r n places v (Input k) long there = refl
image_stays i r n places v (Reg k) long there = refl
image_stays i r n places v (Gate k) long there = place_stays places v n k long there

tail_there : (i r n : ℕ) (w : Wire) (ws : List Wire) → AllThere i r n (w ∷ ws) → AllThere i r n ws
tail_there i r n w ws h = record { each = λ k v e. h.each (suc k) v e }

images_stay : (i r n : ℕ) (places : List Wire) (v : Wire) (ws : List Wire) → length places ≡ n → AllThere i r n ws
    → map (image (places ++ v ∷ [])) ws ≡ map (image places) ws
images_stay i r n places v [] long there = refl
images_stay i r n places v (w ∷ ws) long there =
    rw (
      image_stays i r n places v w long (there.each 0 w refl),
      images_stay i r n places v ws long (tail_there i r n w ws there),
    )

there_later : (i r n m : ℕ) (ws : List Wire) → n ≤ m → AllThere i r n ws → AllThere i r m ws
there_later i r n m ws low there = record {
  each = λ k w e. there_more i r r n m w (omega arith) low (there.each k w e);
}

from_stays : (i r : ℕ) (gates : List gate.Gate) (marks : List Bool) (n : ℕ) (places : List Wire) (v : Wire) (m : ℕ)
    (x : gate.Gate) → AllFit i r gates → length places ≡ n → IsFrom gates marks n places m x
    → IsFrom gates marks (n + 1) (places ++ v ∷ []) m x
from_stays i r gates marks n places v m x fit long from =
    let low = from.below in
    record {
      number = from.number;
      below = omega (arith, low);
      marked = from.marked;
      source = from.source;
      at = from.at;
      place = place_stays places v n from.number long low ∙ from.place;
      kind = from.kind;
      pins = from.pins ∙ sym (images_stay i r n places v from.source.pins long
          (there_later i r from.number n from.source.pins (omega (arith, low))
          (fit_earlier i r gates from.number from.source fit from.at)));
    }

placed_stays : (places : List Wire) (v : Wire) (n k : ℕ) → length places ≡ n → k < n
    → (m : ℕ) × (wire_at places k ≡ Gate m) → (m : ℕ) × (wire_at (places ++ v ∷ []) k ≡ Gate m)
placed_stays places v n k long low placed = (placed.0, place_stays places v n k long low ∙ placed.1)

-- a place that is new, or none, is no earlier one
once_more : (i r : ℕ) (gates : List gate.Gate) (marks : List Bool) (n : ℕ) (kept : List gate.Gate) (places : List Wire)
    (v : Wire) → SweepsTo i r gates marks n kept places → ((m : ℕ) → m < length kept → v ≡ Gate m → ⊥) → (j k m : ℕ)
    → j < n + 1 → k < n + 1 → wire_at (places ++ v ∷ []) j ≡ Gate m → wire_at (places ++ v ∷ []) k ≡ Gate m → j ≡ k
once_more i r gates marks n kept places v before new j k m low low' e f = elim (cases_lt j n) [
  | inl lt ↦ elim (cases_lt k n) [
    | inl lt' ↦ before.once j k m lt lt' (old j lt ∙ e) (old k lt' ∙ f)
    | inr ge ↦ absurd (new m (early j lt e) (last k ge low' ∙ f))
  ]
  | inr ge ↦ elim (cases_lt k n) [
    | inl lt' ↦ absurd (new m (early k lt' f) (last j ge low ∙ e))
    | inr ge' ↦ omega arith
  ]
]
  where
    old : (k : ℕ) → k < n → wire_at places k ≡ wire_at (places ++ v ∷ []) k
    old k lt = sym (place_stays places v n k before.long lt)

    last : (k : ℕ) → n ≤ k → k < n + 1 → v ≡ wire_at (places ++ v ∷ []) k
    last k ge lt =
        let same : k ≡ n = omega arith in
        sym (ap (wire_at (places ++ v ∷ [])) same ∙ wire_at_end places v n before.long)

    early : (k : ℕ) → k < n → wire_at (places ++ v ∷ []) k ≡ Gate m → m < length kept
    early k lt e = subst (IsThere i r (length kept)) (old k lt ∙ e) (before.there k lt)

-- one equation more holds, if its gate has a mark
holds_marked : (i r n : ℕ) (marks : List Bool) (net : List gate.Gate) (x : gate.Gate) (a b : Row) → AllFit i r net
    → slice_get net n ≡ Some x → Agree r n a b → (IsMarked marks (Gate n) → b.gates n ≡ gate_value a x)
    → HoldsMarked n net marks a → HoldsMarked (n + 1) net marks b
holds_marked i r n marks net x a b fit at s made before = record {
  each = λ k g h marked e. elim (cases_lt k n) [
    | inl lt ↦
        sym (s.gates k lt) ∙ before.each k g lt marked e
        ∙ gate_agree i r k a b g (agree_fewer r n k a b (omega arith) s) (fit_earlier i r net k g fit e)
    | inr ge ↦
        let same : k ≡ n = omega arith in
        let e' = ap (λ j. slice_get net j) (sym same) ∙ e in
        let g_is : x ≡ g = same_Some x g (sym at ∙ e') in
        ap b.gates same ∙ made (subst (λ j. IsMarked marks (Gate j)) same marked) ∙ ap (λ y. gate_value a y) g_is
        ∙ gate_agree i r n a b g s (fit_earlier i r net n g fit e')
  ];
}

-- the gate was kept
sweeps_kept : (i r : ℕ) (gates : List gate.Gate) (marks : List Bool) (n : ℕ) (x : gate.Gate) (kept : List gate.Gate)
    (places : List Wire) → AllFit i r gates → slice_get gates n ≡ Some x → IsMarked marks (Gate n)
    → SweepsTo i r gates marks n kept places → SweepsTo i r gates marks (n + 1)
    (kept ++ (record { kind = x.kind; pins = map (image places) x.pins }) ∷ []) (places ++ Gate (length kept) ∷ [])
sweeps_kept i r gates marks n x kept places fit at marked before =
    let g : gate.Gate = record { kind = x.kind; pins = map (image places) x.pins } in
    let w = Gate (length kept) in
    let kept' = kept ++ g ∷ [] in
    let longer = length_pushed places w in
    let grown = length_pushed kept g in
    let pins = images_there i r n (length kept) places x.pins (fit_earlier i r gates n x fit at) before.there in
    let makes = makes_pushed kept g
    (has_images places x.pins (map (image places) x.pins) x.kind refl (fit.each n x at).count) in
    record {
      long = omega (arith, longer, before.long);
      few = omega (arith, grown, before.few);
      fit = makes.fit i r before.fit pins;
      there = λ k h. elim (cases_lt k n) [
        | inl lt ↦
            subst (IsThere i r (length kept'))
            (sym (get_or_append_left places (w ∷ []) (Const false) k (omega (arith, lt, before.long))))
            (there_more i r r (length kept) (length kept') (wire_at places k) (omega arith) makes.fewest
            (before.there k lt))
        | inr ge ↦
            let same : k ≡ n = omega arith in
            subst (IsThere i r (length kept'))
            (sym (ap (wire_at (places ++ w ∷ [])) same ∙ wire_at_end places w n before.long))
            (makes.there i r before.fit pins)
      ];
      rows = λ row is.
          holds_marked i r n marks gates x (row_back places row) (row_back (places ++ w ∷ []) row) fit at
          (agree_pushed r n places w row before.long)
          (λ mark.
          ap (value row) (wire_at_end places w n before.long)
          ∙ (makes.meaning row is ∙ output_back places row x.kind x.pins))
          (before.rows row (makes.rows row is));
      once = once_more i r gates marks n kept places w before
          (λ m low e. let same : length kept ≡ m = cc in absurd (omega (arith, same, low)));
      placed = λ k low marked. elim (cases_lt k n) [
        | inl lt ↦ placed_stays places w n k before.long lt (before.placed k lt marked)
        | inr ge ↦
            let same : k ≡ n = omega arith in
            (length kept, ap (wire_at (places ++ w ∷ [])) same ∙ wire_at_end places w n before.long)
      ];
      origin = λ m y e. elim (get_pushed kept g m y e) [
        | inl old ↦ from_stays i r gates marks n places w m y fit before.long (before.origin m y old)
        | inr (end, same) ↦ record {
          number = n;
          below = omega arith;
          marked = marked;
          source = x;
          at = at;
          place = wire_at_end places w n before.long ∙ ap Gate (sym end);
          kind = ap (λ (z : gate.Gate). z.kind) same;
          pins = ap (λ (z : gate.Gate). z.pins) same
              ∙ sym (images_stay i r n places w x.pins before.long (fit_earlier i r gates n x fit at));
        }
      ];
    }

-- the gate was left out
sweeps_left : (i r : ℕ) (gates : List gate.Gate) (marks : List Bool) (n : ℕ) (x : gate.Gate) (kept : List gate.Gate)
    (places : List Wire) → AllFit i r gates → slice_get gates n ≡ Some x → (IsMarked marks (Gate n) → ⊥)
    → SweepsTo i r gates marks n kept places → SweepsTo i r gates marks (n + 1) kept (places ++ Const false ∷ [])
sweeps_left i r gates marks n x kept places fit at unmarked before =
    let w = Const false in
    let longer = length_pushed places w in
    record {
      long = omega (arith, longer, before.long);
      few = omega (arith, before.few);
      fit = before.fit;
      there = λ k h. elim (cases_lt k n) [
        | inl lt ↦
            subst (IsThere i r (length kept))
            (sym (get_or_append_left places (w ∷ []) (Const false) k (omega (arith, lt, before.long))))
            (before.there k lt)
        | inr ge ↦
            let same : k ≡ n = omega arith in
            subst (IsThere i r (length kept))
            (sym (ap (wire_at (places ++ w ∷ [])) same ∙ wire_at_end places w n before.long)) tt
      ];
      rows = λ row is.
          holds_marked i r n marks gates x (row_back places row) (row_back (places ++ w ∷ []) row) fit at
          (agree_pushed r n places w row before.long) (λ marked. absurd (unmarked marked)) (before.rows row is);
      once = once_more i r gates marks n kept places w before (λ m low e. absurd (cc));
      placed = λ k low marked. elim (cases_lt k n) [
        | inl lt ↦ placed_stays places w n k before.long lt (before.placed k lt marked)
        | inr ge ↦
            let same : k ≡ n = omega arith in absurd (unmarked (subst (λ j. IsMarked marks (Gate j)) same marked))
      ];
      origin = λ m y e. from_stays i r gates marks n places w m y fit before.long (before.origin m y e);
    }

pub sweeps_more : (i r : ℕ) (gates : List gate.Gate) (marks : List Bool) (n : ℕ) (x : gate.Gate)
    (kept kept' : List gate.Gate) (places places' : List Wire) (marked : Bool) (w : Wire) → AllFit i r gates
    → slice_get gates n ≡ Some x → marked ≡ slice_index_or marks n true → IsKept marked kept kept' places x w
    → places' ≡ places ++ w ∷ [] → SweepsTo i r gates marks n kept places
    → SweepsTo i r gates marks (n + 1) kept' places'
sweeps_more i r gates marks n x kept kept' places places' true w fit at mark is e before =
    rw (is.1, e, is.0) (sweeps_kept i r gates marks n x kept places fit at (sym mark) before)
sweeps_more i r gates marks n x kept kept' places places' false w fit at mark is e before =
    rw (is.1, e, is.0)
    (sweeps_left i r gates marks n x kept places fit at (λ h. false≢true (mark ∙ h)) before)

pub few_more : (marked : Bool) (kept kept' : List gate.Gate) (places : List Wire) (x : gate.Gate) (w : Wire) (n : ℕ)
    → IsKept marked kept kept' places x w → length kept ≤ n → length kept' ≤ n + 1
few_more true kept kept' places x w n is low =
    let g : gate.Gate = record { kind = x.kind; pins = map (image places) x.pins } in
    omega (arith, low, ap length is.1, length_pushed kept g)
few_more false kept kept' places x w n is low = omega (arith, low, ap length is.1)

-- ---- rows that agree on what has marks

wire_same : (i r n : ℕ) (marks : List Bool) (p q : Row) (w : Wire) → IsThere i r n w → IsMarked marks w → Agree r 0 p q
    → ((k : ℕ) → k < n → IsMarked marks (Gate k) → p.gates k ≡ q.gates k) → value p w ≡ value q w
wire_same i r n marks p q (Const b) there marked agree each = refl
wire_same i r n marks p q Reset there marked agree each = agree.reset
wire_same i r n marks p q (Input k) there marked agree each = ap (λ v. bit k v) agree.vector
wire_same i r n marks p q (Reg k) there marked agree each = agree.registers k there
wire_same i r n marks p q (Gate k) there marked agree each = each k there marked

all_same : (p q : Row) (ws : List Wire) → ((k : ℕ) (w : Wire) → slice_get ws k ≡ Some w → value p w ≡ value q w)
    → all_of p ws ≡ all_of q ws
all_same p q [] h = refl
all_same p q (w ∷ ws) h = rw (h 0 w refl, all_same p q ws (λ k v e. h (suc k) v e))

any_same : (p q : Row) (ws : List Wire) → ((k : ℕ) (w : Wire) → slice_get ws k ≡ Some w → value p w ≡ value q w)
    → any_of p ws ≡ any_of q ws
any_same p q [] h = refl
any_same p q (w ∷ ws) h = rw (h 0 w refl, any_same p q ws (λ k v e. h (suc k) v e))

odd_same : (p q : Row) (ws : List Wire) → ((k : ℕ) (w : Wire) → slice_get ws k ≡ Some w → value p w ≡ value q w)
    → odd_of p ws ≡ odd_of q ws
odd_same p q [] h = refl
odd_same p q (w ∷ ws) h = rw (h 0 w refl, odd_same p q ws (λ k v e. h (suc k) v e))

output_same : (p q : Row) (kind : GateKind) (ws : List Wire)
    → ((k : ℕ) (w : Wire) → slice_get ws k ≡ Some w → value p w ≡ value q w) → output_of p kind ws ≡ output_of q kind ws
output_same p q kinds.Buf ws h = all_same p q ws h
output_same p q kinds.Not ws h = ap not (all_same p q ws h)
output_same p q kinds.And ws h = all_same p q ws h
output_same p q kinds.Or ws h = any_same p q ws h
output_same p q kinds.Nand ws h = ap not (all_same p q ws h)
output_same p q kinds.Nor ws h = ap not (any_same p q ws h)
output_same p q kinds.Xor ws h = odd_same p q ws h
output_same p q kinds.Xnor ws h = ap not (odd_same p q ws h)

marked_same : (i r : ℕ) (gates : List gate.Gate) (marks : List Bool) (p q : Row) → AllFit i r gates
    → IsClosedOver gates marks (length gates) → IsRow gates p → HoldsMarked (length gates) gates marks q → Agree r 0 p q
    → (m n : ℕ) → n < m → n < length gates → IsMarked marks (Gate n) → p.gates n ≡ q.gates n
marked_same i r gates marks p q fit closed is holds agree zero n low within marked = absurd (omega arith)
marked_same i r gates marks p q fit closed is holds agree (suc m) n low within marked =
    let here = some_at gates n within in
    let g = here.0 in
    is.each n g here.1
    ∙ (output_same p q g.kind g.pins (λ k w at.
    wire_same i r n marks p q w ((fit.each n g here.1).there.each k w at)
    (closed.each n g (omega arith) here.1 marked k w at) agree
    (λ j less mark.
    marked_same i r gates marks p q fit closed is holds agree m j (omega arith) (omega arith) mark))
    ∙ sym (holds.each n g within marked here.1))

-- a wire with a mark has the same value in both
pub marked_value : (i r : ℕ) (gates : List gate.Gate) (marks : List Bool) (p q : Row) (w : Wire) → AllFit i r gates
    → IsClosedOver gates marks (length gates) → IsRow gates p → HoldsMarked (length gates) gates marks q → Agree r 0 p q
    → IsThere i r (length gates) w → IsMarked marks w → value p w ≡ value q w
marked_value i r gates marks p q w fit closed is holds agree there marked =
    wire_same i r (length gates) marks p q w there marked agree
    (λ k less mark. marked_same i r gates marks p q fit closed is holds agree (suc k) k (omega arith) less mark)

pub same_default : (xs : List Bool) (n : ℕ) → n < length xs → slice_index_or xs n false ≡ slice_index_or xs n true
same_default [] n h = absurd (omega arith)
same_default (x ∷ xs) zero h = refl
same_default (x ∷ xs) (suc n) h = same_default xs n (omega arith)
