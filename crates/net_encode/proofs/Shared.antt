-- The wires that registers of groups take.
use Rattle.std.proofs.Common.{◌≡◌, ℕ, zero, suc, ◌+◌, ◌*◌, ◌<◌, ◌≤◌, Bool, true, false, ◌&&◌, ◌||◌, inl, inr}
use Rattle.std.proofs.Common.{List, [], ◌∷◌, ◌++◌, length, length-take, take, get_or, refl, sym, ap, ◌∙◌, subst, arith}
use Rattle.std.proofs.Common.{append_assoc}
use Rattle.std.proofs.lemmas.Bool.{cases_lt}
use Rattle.std.proofs.lemmas.List.{take_more, map-append, get_or_append_left}
use Rattle.std.proofs.Math.Seq.{get_or-append_seam}
use Rattle.pbs_base.specs.Entries.{bit}
use Rattle.net_core.specs.declared.gate.Wire.{Wire}
use Rattle.net_core.specs.declared.gate.Wire.TheVariants as wire
use Rattle.net_core.specs.Rows.{Row, value}
use Rattle.net_core.specs.Circuits.{Circuit, wire_at}
use Rattle.net_core.specs.Building.{input_pin, input_pins}
use Rattle.net_core.proofs.Pushed.{length_pushed}
use Rattle.net_encode.specs.inner.Columns.{column, group_bits, code_bits}
use Rattle.net_encode.specs.inner.Drafts.{Grows, Draws}
use Rattle.net_encode.specs.inner.Sharing.{member_count, ShowsFront, ShowsBits}
use Rattle.net_encode.proofs.Growing.{grows_on, grows_more, draws_on}
use Rattle.net_encode.proofs.Decoding.{has_one_more}

pub any_default : (ws : List Wire) (n : ℕ) (d e : Wire) → n < length ws → get_or ws n d ≡ get_or ws n e
any_default [] n d e h = absurd (omega arith)
any_default (w ∷ ws) zero d e h = refl
any_default (w ∷ ws) (suc n) d e h = any_default ws n d e (omega arith)

pins_pushed : (ws : List Wire) (w : Wire) → input_pins (ws ++ w ∷ []) ≡ input_pins ws + input_pin w
pins_pushed [] w = omega arith
pins_pushed (v ∷ ws) w = let rest = pins_pushed ws w in omega (arith, rest)

pub source_more : (a b c : Circuit) (n : ℕ) (others ws new : List Wire) (w d : Wire) → n < length others
    → Grows a b n (input_pins (take n others)) → ShowsFront b n others ws
    → Draws b c w 1 (input_pin (get_or others n d)) (λ row. value row (get_or others n d)) → new ≡ ws ++ w ∷ []
    → Grows a c (n + 1) (input_pins (take (n + 1) others)) × ShowsFront c (n + 1) others new
source_more a b c n others ws new w d low grown shows made is =
    let v = get_or others n d in
    let pins : input_pins (take (n + 1) others) ≡ input_pins (take n others) + input_pin v =
    ap input_pins (take_more others n d low) ∙ pins_pushed (take n others) v in
    let e = made.grows.extends in (
      subst (λ k. Grows a c (n + 1) k) (sym pins)
          (grows_on a b c n 1 (input_pins (take n others)) (input_pin v) grown made.grows),
      subst (λ l. ShowsFront c (n + 1) others l) (sym is) (record {
        there = has_one_more b c 1 (input_pin v) ws w made.grows shows.there
            (record { there = made.there; inner = made.inner });
        count = let long = length_pushed ws w in omega (arith, long, shows.count);
        meaning = λ row ok k l. elim (cases_lt k n) [
          | inl before ↦
              ap (value row)
              (get_or_append_left ws (w ∷ []) (wire.Const false) k (omega (arith, before, shows.count)))
              ∙ shows.meaning row (e.rows row ok) k before
          | inr here ↦
              let same : k ≡ length ws = omega (arith, here, l, shows.count) in
              let same' : n ≡ k = omega (arith, here, l) in
              ap (λ j. value row (wire_at (ws ++ w ∷ []) j)) same
              ∙ ap (value row) (get_or-append_seam ws w [] (wire.Const false))
              ∙ made.meaning row ok ∙ ap (value row) (any_default others n d (wire.Const false) low)
              ∙ ap (λ j. value row (wire_at others j)) same'
        ];
      }),
    )

-- ---- columns

column_pushed : (s : ℕ → Bool) (t c : ℕ) (ms : List ℕ) (m : ℕ)
    → column s t c (ms ++ m ∷ []) ≡ (column s t c ms || (bit t (c + length ms) && s m))
column_pushed s t c [] m =
    let e : c + 0 ≡ c = omega arith in
    or_false (bit t c && s m) ∙ ap (λ k. bit t k && s m) (sym e)
  where
    or_false : (b : Bool) → (b || false) ≡ b
    or_false true = refl
    or_false false = refl
column_pushed s t c (k ∷ ms) m =
    let e : suc c + length ms ≡ c + suc (length ms) = omega arith in
    ap (λ b. (bit t c && s k) || b) (column_pushed s t (suc c) ms m)
    ∙ regroup (bit t c && s k) (column s t (suc c) ms) (bit t (suc c + length ms) && s m)
    ∙ ap (λ j. ((bit t c && s k) || column s t (suc c) ms) || (bit t j && s m)) e
  where
    regroup : (a b c : Bool) → (a || (b || c)) ≡ ((a || b) || c)
    regroup true b c = refl
    regroup false b c = refl

abbrev stands_in : List Wire → Row → ℕ → Bool
stands_in sources row p = value row (wire_at sources p)

pub column_more : (a b c : Circuit) (n t : ℕ) (members : List ℕ) (sources : List Wire) (d w w' : Wire) (counts : Bool)
    → n < length members → counts ≡ bit t (n + 1) → get_or members n 0 < length sources
    → Draws a b w n 0 (λ row. column (λ p. value row (wire_at sources p)) t 1 (take n members))
    → Draws b c w' 1 0 (λ row. value row w || (counts && value row (get_or sources (get_or members n 0) d)))
    → Draws a c w' (n + 1) 0 (λ row. column (λ p. value row (wire_at sources p)) t 1 (take (n + 1) members))
column_more a b c n t members sources d w w' counts low counted within first next =
    let m = get_or members n 0 in
    draws_on a b c w w' n 1 (λ row. column (stands_in sources row) t 1 (take n members))
    (λ row. value row w || (counts && value row (get_or sources m d)))
    (λ row. column (stands_in sources row) t 1 (take (n + 1) members)) first next
    (λ row ok so_far.
    let code : n + 1 ≡ 1 + length (take n members) = omega (arith, length-take n members, low) in
    ap (λ b. b || (counts && value row (get_or sources m d))) so_far
    ∙ ap (λ x. column (stands_in sources row) t 1 (take n members) || (counts && value row x))
    (any_default sources m d (wire.Const false) within)
    ∙ ap (λ x. column (stands_in sources row) t 1 (take n members) || (x && stands_in sources row m))
    (counted ∙ ap (bit t) code)
    ∙ sym (column_pushed (stands_in sources row) t 1 (take n members) m)
    ∙ ap (column (stands_in sources row) t 1) (sym (take_more members n 0 low)))

-- ---- bits

bits_more : (b c : Circuit) (ws : List Wire) (w : Wire) (k : ℕ) (f h : Row → List Bool) (g : Row → Bool)
    → ShowsBits b ws f → Draws b c w k 0 g → ((row : Row) → f row ++ g row ∷ [] ≡ h row)
    → ShowsBits c (ws ++ w ∷ []) h
bits_more b c ws w k f h g shows made same = record {
  there = has_one_more b c k 0 ws w made.grows shows.there (record { there = made.there; inner = made.inner });
  shows = λ row ok.
      map-append (value row) ws (w ∷ [])
      ∙ ap (λ l. l ++ value row w ∷ []) (shows.shows row (made.grows.extends.rows row ok))
      ∙ ap (λ x. f row ++ x ∷ []) (made.meaning row ok) ∙ same row;
}

pub bits_same : (c : Circuit) (ws : List Wire) (f h : Row → List Bool) → ShowsBits c ws f
    → ((row : Row) → f row ≡ h row) → ShowsBits c ws h
bits_same c ws f h shows same = record { there = shows.there; shows = λ row ok. shows.shows row ok ∙ same row }

abbrev pub three : List Wire → List ℕ → Row → List Bool
three sources members row =
    column (λ p. value row (wire_at sources p)) 0 1 members ∷ column (λ p. value row (wire_at sources p)) 1 1 members
    ∷ column (λ p. value row (wire_at sources p)) 2 1 members ∷ []

three_more : (sources : List Wire) (members : List ℕ) (row : Row) (t : ℕ) → t < 3
    → take t (three sources members row) ++ column (λ p. value row (wire_at sources p)) t 1 members ∷ []
    ≡ take (t + 1) (three sources members row)
three_more sources members row zero h = refl
three_more sources members row (suc zero) h = refl
three_more sources members row (suc (suc zero)) h = refl
three_more sources members row (suc (suc (suc t))) h = absurd (omega arith)

pub group_more : (a b c : Circuit) (t : ℕ) (sources : List Wire) (members : List ℕ) (before ws new : List Wire)
    (w : Wire) → t < 3 → Grows a b (t * length members) 0
    → ((bits_of : Row → List Bool) → ShowsBits a before bits_of
    → ShowsBits b ws (λ row. bits_of row ++ take t (three sources members row)))
    → Draws b c w (length members) 0 (λ row. column (λ p. value row (wire_at sources p)) t 1 members)
    → new ≡ ws ++ w ∷ []
    → Grows a c ((t + 1) * length members) 0 × ((bits_of : Row → List Bool) → ShowsBits a before bits_of
    → ShowsBits c new (λ row. bits_of row ++ take (t + 1) (three sources members row)))
group_more a b c t sources members before ws new w low grown shows made is = (
  grows_more a c (t * length members + length members) ((t + 1) * length members) 0 0
      (times t (length members) low) (omega arith)
      (grows_on a b c (t * length members) (length members) 0 0 grown made.grows),
  λ bits_of first.
      subst (λ l. ShowsBits c l (λ row. bits_of row ++ take (t + 1) (three sources members row))) (sym is)
      (bits_more b c ws w (length members) (λ row. bits_of row ++ take t (three sources members row))
      (λ row. bits_of row ++ take (t + 1) (three sources members row))
      (λ row. column (λ p. value row (wire_at sources p)) t 1 members) (shows bits_of first) made
      (λ row.
      append_assoc (bits_of row) (take t (three sources members row))
      (column (λ p. value row (wire_at sources p)) t 1 members ∷ [])
      ∙ ap (λ l. bits_of row ++ l) (three_more sources members row t low))),
)
  where
    times : (t n : ℕ) → t < 3 → t * n + n ≤ (t + 1) * n
    times zero n h = omega arith
    times (suc zero) n h = omega arith
    times (suc (suc zero)) n h = omega arith
    times (suc (suc (suc t))) n h = absurd (omega arith)

members_pushed : (gs : List (List ℕ)) (g : List ℕ) → member_count (gs ++ g ∷ []) ≡ member_count gs + length g
members_pushed [] g = omega arith
members_pushed (h ∷ gs) g = let rest = members_pushed gs g in omega (arith, rest)

code_pushed : (s : ℕ → Bool) (gs : List (List ℕ)) (g : List ℕ)
    → code_bits s gs ++ group_bits s g ≡ code_bits s (gs ++ g ∷ [])
code_pushed s [] g = sym (append_none (group_bits s g))
  where
    append_none : (xs : List Bool) → xs ++ [] ≡ xs
    append_none [] = refl
    append_none (x ∷ xs) = ap (λ l. x ∷ l) (append_none xs)
code_pushed s (h ∷ gs) g =
    append_assoc (group_bits s h) (code_bits s gs) (group_bits s g)
    ∙ ap (λ l. group_bits s h ++ l) (code_pushed s gs g)

pub groups_more : (a b c : Circuit) (n : ℕ) (sources : List Wire) (groups : List (List ℕ)) (g members : List ℕ)
    (new : List Wire) → n < length groups → g ≡ get_or groups n g → members ≡ g
    → Grows a b (3 * member_count (take n groups)) 0 → Grows b c (3 * length members) 0
    → ShowsBits c new (λ row. code_bits (λ p. value row (wire_at sources p)) (take n groups)
    ++ group_bits (λ p. value row (wire_at sources p)) members)
    → Grows a c (3 * member_count (take (n + 1) groups)) 0
    × ShowsBits c new (λ row. code_bits (λ p. value row (wire_at sources p)) (take (n + 1) groups))
groups_more a b c n sources groups g members new low is same first next shows =
    let more : take (n + 1) groups ≡ take n groups ++ members ∷ [] =
    take_more groups n g low ∙ ap (λ x. take n groups ++ x ∷ []) (sym (same ∙ is)) in
    let counted : member_count (take (n + 1) groups) ≡ member_count (take n groups) + length members =
    ap member_count more ∙ members_pushed (take n groups) members in (
      grows_more a c (3 * member_count (take n groups) + 3 * length members)
          (3 * member_count (take (n + 1) groups)) 0 0 (omega (arith, counted)) (omega arith)
          (grows_on a b c (3 * member_count (take n groups)) (3 * length members) 0 0 first next),
      bits_same c new
          (λ row. code_bits (λ p. value row (wire_at sources p)) (take n groups)
          ++ group_bits (λ p. value row (wire_at sources p)) members)
          (λ row. code_bits (λ p. value row (wire_at sources p)) (take (n + 1) groups)) shows
          (λ row.
          code_pushed (λ p. value row (wire_at sources p)) (take n groups) members
          ∙ ap (code_bits (λ p. value row (wire_at sources p))) (sym more)),
    )
