-- Standing places and firing actions are marked leaves that are reached; what reaches one was alive before.
use Rattle.std.proofs.Common.{◌≡◌, ℕ, ◌-◌, ◌<◌, ◌≤◌, Bool, true, false, not, ◌&&◌, ◌||◌, nat_eq, List, inl, inr, refl}
use Rattle.std.proofs.Common.{◌∙◌, ap, arith}
use Rattle.std.proofs.Math.Path.{fun_ext}
use Rattle.std.proofs.lemmas.Bool.{and_parts, and_from, false≢true, eqb-true, cases_lt, or_left, or_right}
use Rattle.pbs_ast.specs.Trees.{Tree, Empty, Terminal, Action, Seq, Choice, Star, Hold, Scope, is_place, is_action}
use Rattle.pbs_ast.specs.Trees.{is_plain}
use Rattle.pbs_derive.specs.Derivations.{covers, alive, stands, fires, trips, some_after, some_within, first_after}
use Rattle.pbs_derive.specs.Derivations.{all_hold, repeats}
use Rattle.pbs_derive.proofs.Positions.{split_to, split_from, or_elim, or_same, and_same, first_to, first_from, none_to}
use Rattle.pbs_derive.proofs.Positions.{none_from, all_hold_to, all_hold_from}
use Rattle.pbs_derive.proofs.Shapes.{WellFormed}
use Rattle.pbs_derive.proofs.Stretches.{lasts, star_alive, star_from}

-- a derivation of e from i has consumed the vectors from i to k and stands before a marked leaf of e;
-- a marked leaf of a trap counts while the body is alive and not aborted
abbrev pub reaches : Tree → (Tree → Bool) → List ℕ → ℕ → ℕ → Bool
reaches (Empty spot) mark v i k = false
reaches (Action spot a) mark v i k = mark (Action spot a) && nat_eq k i
reaches (Terminal spot p t) mark v i k = mark (Terminal spot p t) && nat_eq k i
reaches (Seq spot e f) mark v i k = reaches e mark v i k || some_within i k
    (λ m. covers e v i m && reaches f mark v m k)
reaches (Choice spot e f) mark v i k = reaches e mark v i k || reaches f mark v i k
reaches (Star spot e) mark v i k = some_within i k (λ m. covers (Star spot e) v i m && reaches e mark v m k)
reaches (Hold spot t e) mark v i k = reaches e mark v i k && all_hold t v i k
reaches (Scope spot s e x h) mark v i k =
    (not (some_after i k (trips e x v i)) && (reaches e mark v i k || (reaches x mark v i k && alive e v i k)))
    || first_after i k (trips e x v i) (λ m. reaches h mark v m k)

pub reaches_alive : (e : Tree) (mark : Tree → Bool) (v : List ℕ) (i k n : ℕ) → reaches e mark v i k ≡ true → i ≤ n
    → n < k → alive e v i n ≡ true
reaches_alive (Empty spot) mark v i k n h low high = absurd (false≢true h)
reaches_alive (Action spot a) mark v i k n h low high = let q : k ≡ i = eqb-true k i
    (and_parts (mark (Action spot a)) (nat_eq k i) h).1 in absurd (omega arith)
reaches_alive (Terminal spot p t) mark v i k n h low high = let q : k ≡ i = eqb-true k i
    (and_parts (mark (Terminal spot p t)) (nat_eq k i) h).1 in absurd (omega arith)
reaches_alive (Seq spot e f) mark v i k n h low high =
    or_elim _ _ h
    (λ left. or_left _ _ (reaches_alive e mark v i k n left low high))
    (λ right.
    let w = split_to i k (covers e v i) (λ m. reaches f mark v m k) right in
    elim (cases_lt n w.0) [
      | inl before ↦ or_left _ _ ((lasts e v).0 i w.0 n w.3 low before)
      | inr later ↦ or_right _ _ (split_from i n (covers e v i) (λ m. alive f v m n) w.0 w.1 later w.3
          (reaches_alive f mark v w.0 k n w.4 later high))
    ])
reaches_alive (Choice spot e f) mark v i k n h low high =
    or_elim _ _ h (λ l. or_left _ _ (reaches_alive e mark v i k n l low high))
    (λ r. or_right _ _ (reaches_alive f mark v i k n r low high))
reaches_alive (Star spot e) mark v i k n h low high =
    let w = split_to i k (covers (Star spot e) v i) (λ m. reaches e mark v m k) h in
    star_from spot e v i n (elim (cases_lt n w.0) [
      | inl before ↦ star_alive e v (lasts e v).0 (w.0 - i) i w.0 n w.3 low before
      | inr later ↦ (w.0, w.1, later, (w.0 - i, w.3), reaches_alive e mark v w.0 k n w.4 later high)
    ])
reaches_alive (Hold spot t e) mark v i k n h low high =
    let p = and_parts (reaches e mark v i k) _ h in
    and_from _ _ (reaches_alive e mark v i k n p.0 low high)
    (all_hold_from t v i n (λ m a b. all_hold_to t v i k p.1 m a (omega arith)))
reaches_alive (Scope spot s e x h) mark v i k n c low high =
    or_elim _ _ c
    (λ here.
    let p = and_parts (not (some_after i k (trips e x v i)))
    (reaches e mark v i k || (reaches x mark v i k && alive e v i k)) here in
    or_left _ _ (and_from _ _
    (none_from i n (trips e x v i) (λ m a b. none_to i k (trips e x v i) p.0 m a (omega arith)))
    (or_elim _ _ p.1
    (λ body. reaches_alive e mark v i k n body low high)
    (λ trap. (lasts e v).1 i k n (and_parts (reaches x mark v i k) _ trap).1 low (omega arith)))))
    (λ after.
    let w = first_to i k (trips e x v i) (λ m. reaches h mark v m k) after in
    let a : i < w.0 = w.1 in
    elim (cases_lt n w.0) [
      | inl before ↦ or_left _ _ (and_from _ _
          (none_from i n (trips e x v i) (λ m low' high'. w.4 m low' (omega arith)))
          ((lasts e v).1 i (w.0 - 1) n (and_parts (covers x v i w.0) (alive e v i (w.0 - 1)) w.3).1 low (omega arith)))
      | inr later ↦ or_right _ _ (first_from i n (trips e x v i) (λ m. alive h v m n) w.0 w.1 later w.3 w.4
          (reaches_alive h mark v w.0 k n w.5 later high))
    ])

pub stands_reached : (e : Tree) (v : List ℕ) (i k p : ℕ) → stands e v i k p ≡ reaches e (is_place p) v i k
stands_reached (Empty spot) v i k p = refl
stands_reached (Action spot a) v i k p = refl
stands_reached (Terminal spot q t) v i k p = refl
stands_reached (Seq spot e f) v i k p =
    or_same _ _ _ _ (stands_reached e v i k p)
    (ap (λ (g : ℕ → Bool). some_within i k (λ m. covers e v i m && g m)) (fun_ext (λ m. stands_reached f v m k p)))
stands_reached (Choice spot e f) v i k p = or_same _ _ _ _ (stands_reached e v i k p) (stands_reached f v i k p)
stands_reached (Star spot e) v i k p =
    ap (λ (g : ℕ → Bool). some_within i k (λ m. repeats (covers e v) (m - i) i m && g m))
    (fun_ext (λ m. stands_reached e v m k p))
stands_reached (Hold spot t e) v i k p = ap (λ b. b && all_hold t v i k) (stands_reached e v i k p)
stands_reached (Scope spot s e x h) v i k p =
    or_same _ _ _ _
    (and_same _ _ _ _ refl (or_same _ _ _ _ (stands_reached e v i k p)
    (ap (λ b. b && alive e v i k) (stands_reached x v i k p))))
    (ap (first_after i k (trips e x v i)) (fun_ext (λ m. stands_reached h v m k p)))

-- a plain tree has no action
plain_action : (e : Tree) (v : List ℕ) (i k a : ℕ) → is_plain e ≡ true → reaches e (is_action a) v i k ≡ true
    → false ≡ true
plain_action (Empty spot) v i k a g h = h
plain_action (Action spot b) v i k a g h = g
plain_action (Terminal spot p t) v i k a g h = h
plain_action (Seq spot e f) v i k a g h =
    let p = and_parts (is_plain e) (is_plain f) g in
    or_elim _ _ h (plain_action e v i k a p.0)
    (λ r. let w = split_to i k (covers e v i) (λ m. reaches f (is_action a) v m k) r in
    plain_action f v w.0 k a p.1 w.4)
plain_action (Choice spot e f) v i k a g h =
    let p = and_parts (is_plain e) (is_plain f) g in or_elim _ _ h (plain_action e v i k a p.0)
    (plain_action f v i k a p.1)
plain_action (Star spot e) v i k a g h =
    let w = split_to i k (covers (Star spot e) v i) (λ m. reaches e (is_action a) v m k) h in
    plain_action e v w.0 k a g
    w.4
plain_action (Hold spot t e) v i k a g h = plain_action e v i k a g (and_parts (reaches e (is_action a) v i k) _ h).0
plain_action (Scope spot n e x h) v i k a g c = g

or_and_none : (x y z : Bool) → (y ≡ true → false ≡ true) → x ≡ (x || (y && z))
or_and_none true y z f = refl
or_and_none false true z f = absurd (false≢true (f refl))
or_and_none false false z f = refl

pub fires_reached : (e : Tree) (v : List ℕ) (i k a : ℕ) → WellFormed e → fires e v i k a ≡ reaches e (is_action a) v i k
fires_reached (Empty spot) v i k a good = refl
fires_reached (Action spot b) v i k a good = refl
fires_reached (Terminal spot q t) v i k a good = refl
fires_reached (Seq spot e f) v i k a good =
    or_same _ _ _ _ (fires_reached e v i k a good.0)
    (ap (λ (g : ℕ → Bool). some_within i k (λ m. covers e v i m && g m))
    (fun_ext (λ m. fires_reached f v m k a good.1)))
fires_reached (Choice spot e f) v i k a good = or_same _ _ _ _ (fires_reached e v i k a good.0)
    (fires_reached f v i k a good.1)
fires_reached (Star spot e) v i k a good =
    ap (λ (g : ℕ → Bool). some_within i k (λ m. repeats (covers e v) (m - i) i m && g m))
    (fun_ext (λ m. fires_reached e v m k a good))
fires_reached (Hold spot t e) v i k a good = ap (λ b. b && all_hold t v i k) (fires_reached e v i k a good)
fires_reached (Scope spot s e x h) v i k a good =
    or_same _ _ _ _
    (and_same _ _ _ _ refl (fires_reached e v i k a good.0 ∙ or_and_none _ _ _ (plain_action x v i k a good.4)))
    (ap (first_after i k (trips e x v i)) (fun_ext (λ m. fires_reached h v m k a good.2)))
