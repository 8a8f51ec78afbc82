-- What a tree covers, and where it is alive, at the empty stretch.
use Rattle.std.proofs.Common.{◌≡◌, ℕ, ◌+◌, ◌-◌, ◌<◌, ◌≤◌, true, false, List, inl, inr, refl, sym, ◌∙◌, ap, arith}
use Rattle.std.proofs.lemmas.Bool.{and_parts, and_from, and_cases, or_parts, false≢true, true≢false, eqb-true, eq-eqb}
use Rattle.std.proofs.lemmas.Bool.{cases_Bool, or_left, or_right}
use Rattle.pbs_ast.specs.Trees.{Tree, Empty, Terminal, Action, Seq, Choice, Star, Hold, Scope, nullable, has_terminal}
use Rattle.pbs_derive.proofs.Shapes.{WellFormed}
use Rattle.pbs_derive.specs.Derivations.{covers, alive, trips}
use Rattle.pbs_derive.proofs.Positions.{split_to, split_from, or_elim, same_test, first_to, none_from, all_hold_from}
use Rattle.pbs_derive.proofs.Repeats.{repeats_none}

pub nullable_to_covers : (e : Tree) (v : List ℕ) (i : ℕ) → nullable e ≡ true → covers e v i i ≡ true
nullable_to_covers (Empty spot) v i h = eq-eqb i i refl
nullable_to_covers (Action spot a) v i h = eq-eqb i i refl
nullable_to_covers (Terminal spot p t) v i h = absurd (false≢true h)
nullable_to_covers (Seq spot e f) v i h =
    let p = and_parts _ _ h in
    split_from i i (covers e v i) (λ m. covers f v m i) i (omega arith) (omega arith) (nullable_to_covers e v i p.0)
    (nullable_to_covers f v i p.1)
nullable_to_covers (Choice spot e f) v i h = or_elim _ _ h (λ l. or_left _ _ (nullable_to_covers e v i l))
    (λ r. or_right _ _ (nullable_to_covers f v i r))
nullable_to_covers (Star spot e) v i h = repeats_none (covers e v) (i - i) i i refl
nullable_to_covers (Hold spot t e) v i h = and_from _ _ (nullable_to_covers e v i h)
    (all_hold_from t v i i (λ m a b. absurd (omega arith)))
nullable_to_covers (Scope spot s e x h) v i c = or_left _ _
    (and_from _ _ (none_from i i (trips e x v i) (λ m a b t. absurd (omega arith))) (nullable_to_covers e v i c))

pub covers_to_nullable : (e : Tree) (v : List ℕ) (i : ℕ) → covers e v i i ≡ true → nullable e ≡ true
covers_to_nullable (Empty spot) v i h = refl
covers_to_nullable (Action spot a) v i h = refl
covers_to_nullable (Terminal spot p t) v i h = let q : i ≡ i + 1 = eqb-true i (i + 1) (and_parts _ _ h).0 in
    absurd (omega arith)
covers_to_nullable (Seq spot e f) v i h =
    let w = split_to i i (covers e v i) (λ m. covers f v m i) h in
    let a : i ≤ w.0 = w.1 in let b : w.0 ≤ i = w.2 in
    let q : w.0 ≡ i = omega arith in
    and_from _ _ (covers_to_nullable e v i (ap (λ m. covers e v i m) (sym q) ∙ w.3))
    (covers_to_nullable f v i (ap (λ m. covers f v m i) (sym q) ∙ w.4))
covers_to_nullable (Choice spot e f) v i h = or_elim _ _ h (λ l. or_left _ _ (covers_to_nullable e v i l))
    (λ r. or_right _ _ (covers_to_nullable f v i r))
covers_to_nullable (Star spot e) v i h = refl
covers_to_nullable (Hold spot t e) v i h = covers_to_nullable e v i (and_parts _ _ h).0
covers_to_nullable (Scope spot s e x h) v i c =
    or_elim _ _ c
    (λ body. covers_to_nullable e v i (and_parts _ _ body).1)
    (λ after. let w = first_to i i (trips e x v i) (λ m. covers h v m i) after in
    let a : i < w.0 = w.1 in let b : w.0 ≤ i = w.2 in absurd (omega arith))

-- e covers the empty stretch exactly where it is nullable
pub covers_empty : (e : Tree) (v : List ℕ) (i : ℕ) → covers e v i i ≡ nullable e
covers_empty e v i = same_test _ _ (covers_to_nullable e v i) (nullable_to_covers e v i)

pub full_has_terminal : (e : Tree) → WellFormed e → nullable e ≡ false → has_terminal e ≡ true
full_has_terminal (Empty spot) g h = absurd (true≢false h)
full_has_terminal (Action spot a) g h = absurd (true≢false h)
full_has_terminal (Terminal spot p t) g h = refl
full_has_terminal (Seq spot e f) g h =
    elim (and_cases (nullable e) (nullable f) h) [
      | inl l ↦ or_left _ _ (full_has_terminal e g.0 l)
      | inr r ↦ or_right _ _ (full_has_terminal f g.1 r)
    ]
full_has_terminal (Choice spot e f) g h = or_left _ _ (full_has_terminal e g.0 (or_parts (nullable e) (nullable f) h).0)
full_has_terminal (Star spot e) g h = absurd (true≢false h)
full_has_terminal (Hold spot t e) g h = full_has_terminal e g h
full_has_terminal (Scope spot s e x h) g c = or_left _ _ g.3

pub terminal_to_alive : (e : Tree) (v : List ℕ) (i : ℕ) → WellFormed e → has_terminal e ≡ true → alive e v i i ≡ true
terminal_to_alive (Empty spot) v i g h = h
terminal_to_alive (Action spot a) v i g h = h
terminal_to_alive (Terminal spot p t) v i g h = eq-eqb i i refl
terminal_to_alive (Seq spot e f) v i g h =
    or_elim (has_terminal e) (has_terminal f) h
    (λ l. or_left _ _ (terminal_to_alive e v i g.0 l))
    (λ r. elim (cases_Bool (nullable e)) [
      | inl empty ↦ or_right _ _ (split_from i i (covers e v i) (λ m. alive f v m i) i (omega arith) (omega arith)
          (nullable_to_covers e v i empty) (terminal_to_alive f v i g.1 r))
      | inr full ↦ or_left _ _ (terminal_to_alive e v i g.0 (full_has_terminal e g.0 full))
    ])
terminal_to_alive (Choice spot e f) v i g h = or_elim (has_terminal e) (has_terminal f) h
    (λ l. or_left _ _ (terminal_to_alive e v i g.0 l)) (λ r. or_right _ _ (terminal_to_alive f v i g.1 r))
terminal_to_alive (Star spot e) v i g h =
    split_from i i (covers (Star spot e) v i) (λ m. alive e v m i) i (omega arith) (omega arith)
    (repeats_none (covers e v) (i - i) i i refl) (terminal_to_alive e v i g h)
terminal_to_alive (Hold spot t e) v i g h = and_from _ _ (terminal_to_alive e v i g h)
    (all_hold_from t v i i (λ m a b. absurd (omega arith)))
terminal_to_alive (Scope spot s e x h) v i g c = or_left _ _
    (and_from _ _ (none_from i i (trips e x v i) (λ m a b t. absurd (omega arith))) (terminal_to_alive e v i g.0 g.3))

pub alive_to_terminal : (e : Tree) (v : List ℕ) (i : ℕ) → alive e v i i ≡ true → has_terminal e ≡ true
alive_to_terminal (Empty spot) v i h = h
alive_to_terminal (Action spot a) v i h = h
alive_to_terminal (Terminal spot p t) v i h = refl
alive_to_terminal (Seq spot e f) v i h =
    or_elim _ _ h
    (λ l. or_left _ _ (alive_to_terminal e v i l))
    (λ r.
    let w = split_to i i (covers e v i) (λ m. alive f v m i) r in
    let a : i ≤ w.0 = w.1 in let b : w.0 ≤ i = w.2 in
    let q : w.0 ≡ i = omega arith in
    or_right _ _ (alive_to_terminal f v i (ap (λ m. alive f v m i) (sym q) ∙ w.4)))
alive_to_terminal (Choice spot e f) v i h = or_elim _ _ h (λ l. or_left _ _ (alive_to_terminal e v i l))
    (λ r. or_right _ _ (alive_to_terminal f v i r))
alive_to_terminal (Star spot e) v i h =
    let w = split_to i i (covers (Star spot e) v i) (λ m. alive e v m i) h in
    let a : i ≤ w.0 = w.1 in let b : w.0 ≤ i = w.2 in
    let q : w.0 ≡ i = omega arith in
    alive_to_terminal e v i (ap (λ m. alive e v m i) (sym q) ∙ w.4)
alive_to_terminal (Hold spot t e) v i h = alive_to_terminal e v i (and_parts _ _ h).0
alive_to_terminal (Scope spot s e x h) v i c =
    or_elim _ _ c
    (λ body. or_left _ _ (alive_to_terminal e v i (and_parts _ _ body).1))
    (λ after. let w = first_to i i (trips e x v i) (λ m. alive h v m i) after in
    let a : i < w.0 = w.1 in let b : w.0 ≤ i = w.2 in absurd (omega arith))

-- e is alive at its start exactly where it has a terminal
pub alive_empty : (e : Tree) (v : List ℕ) (i : ℕ) → WellFormed e → alive e v i i ≡ has_terminal e
alive_empty e v i g = same_test _ _ (alive_to_terminal e v i) (terminal_to_alive e v i g)
