-- Scopes in the machine.
use Rattle.std.proofs.Common.{◌≡◌, ℕ, zero, suc, ◌-◌, ◌<◌, ◌≤◌, Bool, true, false, not, ◌&&◌, List, inl, inr, refl, sym}
use Rattle.std.proofs.Common.{◌∙◌, ap, arith, ◌↔◌}
use Rattle.std.proofs.lemmas.Bool.{and_parts, and_from, false≢true, eq-eqb, cases_lt, or_left, or_right}
use Rattle.pbs_ast.specs.Trees.{Spot, Tree, Empty, Terminal, Action, Seq, Choice, Star, Hold, Scope, is_plain}
use Rattle.pbs_ast.specs.Trees.{has_no_scope}
use Rattle.pbs_derive.proofs.Shapes.{WellFormed}
use Rattle.pbs_derive.specs.Derivations.{covers, alive, live, trips}
use Rattle.pbs_machine.specs.Nodes.{On, From, ClearBelow}
use Rattle.pbs_machine.specs.Rows.{ends, stays}
use Rattle.pbs_derive.proofs.Positions.{split_to, or_elim, none_from, NoneAfter, not_true_from, not_false_to}
use Rattle.pbs_derive.proofs.Stretches.{lasts}
use Rattle.pbs_machine.proofs.Starts.{from_kept, from_held, on_less, from_fresh}
use Rattle.pbs_machine.proofs.Contract.{Meets, on_pred}

abbrev pub body_keep : Tree → (ℕ → ℕ → Bool) → (ℕ → ℕ) → (ℕ → Bool) → (ℕ → Bool) → ℕ → Bool
body_keep c old input outer keep k = keep k && not (ends c (old k) (input k) (outer k))

abbrev pub trap_keep : Tree → Tree → (ℕ → ℕ → Bool) → (ℕ → ℕ) → (ℕ → Bool) → (ℕ → Bool) → ℕ → Bool
trap_keep e c old input outer keep k = (keep k && not (ends c (old k) (input k) (outer k))) && stays e (old k)
    (input k) (outer k)

abbrev pub after_start : Tree → (ℕ → ℕ → Bool) → (ℕ → ℕ) → (ℕ → Bool) → (ℕ → Bool) → ℕ → Bool
after_start c old input outer keep k = ends c (old k) (input k) (outer k) && keep k

-- a scope in the machine, whose parts keep their contracts
pub record Setting : Type 0 where
  pub spot : Spot
  pub scope : ℕ
  pub body : Tree
  pub trap : Tree
  pub after : Tree
  pub v : List ℕ
  pub old : ℕ → ℕ → Bool
  pub input : ℕ → ℕ
  pub outer : ℕ → Bool
  pub start : ℕ → Bool
  pub keep : ℕ → Bool
  pub off : outer 0 ≡ false
  pub good : WellFormed (Scope spot scope body trap after)
  pub body_meets : Meets body v old input outer start (body_keep trap old input outer keep)
  pub trap_meets : Meets trap v old input outer start (trap_keep body trap old input outer keep)
  pub after_meets : Meets after v old input outer (after_start trap old input outer keep) keep

-- the scope, and the signals of its parts
abbrev pub whole : Setting → Tree
whole x = Scope x.spot x.scope x.body x.trap x.after

abbrev pub keeps_body : Setting → ℕ → Bool
keeps_body x = body_keep x.trap x.old x.input x.outer x.keep

abbrev pub keeps_trap : Setting → ℕ → Bool
keeps_trap x = trap_keep x.body x.trap x.old x.input x.outer x.keep

abbrev pub starts_after : Setting → ℕ → Bool
starts_after x = after_start x.trap x.old x.input x.outer x.keep

-- m ends the instance that begins at i, if no earlier position does
abbrev pub aborts : Setting → ℕ → ℕ → Bool
aborts x i m = trips x.body x.trap x.v i m

-- the premise for the rows below k
abbrev pub Clean : Setting → ℕ → Type 0
Clean x k = ClearBelow (whole x) x.v x.start x.keep x.outer k

abbrev pub NotAborted : Setting → ℕ → ℕ → Type 0
NotAborted x i k = NoneAfter i k (aborts x i)

abbrev pub IsLive : Setting → ℕ → ℕ → Type 0
IsLive x k i = NotAborted x i k × (alive x.body x.v i k ≡ true)

abbrev pub Since : Setting → ℕ → ℕ → (ℕ → Type 0) → Type 0
Since x a b R = From x.start x.keep x.outer a b R

abbrev pub KeptBody : Setting → ℕ → ℕ → Type 0
KeptBody x i k = On (keeps_body x) i k

abbrev pub KeptTrap : Setting → ℕ → ℕ → Type 0
KeptTrap x i k = On (keeps_trap x) i k

abbrev pub trap_ends : Setting → ℕ → Bool
trap_ends x k = ends x.trap (x.old k) (x.input k) (x.outer k)

-- the trap of an instance is kept exactly while the instance is live
abbrev pub Trapped : Setting → ℕ → Type 0
Trapped x k = (i : ℕ) → i ≤ k → x.start i ≡ true → On x.outer i k
    → KeptTrap x i k ↔ (On x.keep i k × NotAborted x i k × (alive x.body x.v i k ≡ true))

pub trips_to : (x : Setting) (i k : ℕ) → aborts x i (suc k) ≡ true
    → (covers x.trap x.v i (suc k) ≡ true) × (alive x.body x.v i k ≡ true)
trips_to x i k h =
    let p = and_parts (covers x.trap x.v i (suc k)) (alive x.body x.v i (suc k - 1)) h in
    let same : suc k - 1 ≡ k = omega arith in
    (p.0, ap (alive x.body x.v i) (sym same) ∙ p.1)

pub trips_from : (x : Setting) (i k : ℕ) → covers x.trap x.v i (suc k) ≡ true → alive x.body x.v i k ≡ true
    → aborts x i (suc k) ≡ true
trips_from x i k a b =
    let same : suc k - 1 ≡ k = omega arith in
    and_from _ _ a (ap (alive x.body x.v i) same ∙ b)

pub none_here : (test : ℕ → Bool) (i : ℕ) → NoneAfter i i test
none_here test i m low high t = absurd (omega arith)

pub none_less : (test : ℕ → Bool) (i k n : ℕ) → n ≤ k → NoneAfter i k test → NoneAfter i n test
none_less test i k n le none m low high t = none m low (omega arith) t

pub none_more : (test : ℕ → Bool) (i k : ℕ) → NoneAfter i k test → (test (suc k) ≡ true → ⊥) → NoneAfter i (suc k) test
none_more test i k none last m low high t =
    elim (cases_lt k m) [
      | inl above ↦ let same : m ≡ suc k = omega arith in last (ap test (sym same) ∙ t)
      | inr below ↦ none m low below t
    ]

-- a tree without scopes has no live instance, and a plain tree is one
pub scopeless_live : (e : Tree) (v : List ℕ) (i k s j : ℕ) → has_no_scope e ≡ true → live e v i k s j ≡ true → ⊥
scopeless_live (Empty spot) v i k s j g h = false≢true h
scopeless_live (Action spot a) v i k s j g h = false≢true h
scopeless_live (Terminal spot p t) v i k s j g h = false≢true h
scopeless_live (Seq spot e f) v i k s j g h =
    let p = and_parts (has_no_scope e) (has_no_scope f) g in
    or_elim _ _ h (scopeless_live e v i k s j p.0)
    (λ r. let w = split_to i k (covers e v i) (λ m. live f v m k s j) r in
    scopeless_live f v w.0 k s j p.1 w.4)
scopeless_live (Choice spot e f) v i k s j g h =
    let p = and_parts (has_no_scope e) (has_no_scope f) g in or_elim _ _ h (scopeless_live e v i k s j p.0)
    (scopeless_live f v i k s j p.1)
scopeless_live (Star spot e) v i k s j g h =
    let w = split_to i k (covers (Star spot e) v i) (λ m. live e v m k s j) h in
    scopeless_live e v w.0 k s j g w.4
scopeless_live (Hold spot t e) v i k s j g h = scopeless_live e v i k s j g
    (and_parts _ _ h).0
scopeless_live (Scope spot n e x a) v i k s j g c = false≢true g

plain_scopeless : (e : Tree) → is_plain e ≡ true → has_no_scope e ≡ true
plain_scopeless (Empty spot) g = refl
plain_scopeless (Action spot a) g = refl
plain_scopeless (Terminal spot p t) g = refl
plain_scopeless (Seq spot e f) g = let p = and_parts _ _ g in and_from _ _ (plain_scopeless e p.0)
    (plain_scopeless f p.1)
plain_scopeless (Choice spot e f) g = let p = and_parts _ _ g in and_from _ _ (plain_scopeless e p.0)
    (plain_scopeless f p.1)
plain_scopeless (Star spot e) g = plain_scopeless e g
plain_scopeless (Hold spot t e) g = plain_scopeless e g
plain_scopeless (Scope spot s e x h) g = g

pub clear_trap : (x : Setting) (k : ℕ) → ClearBelow x.trap x.v x.start
    (keeps_trap x) x.outer k
clear_trap x k t le s j lt a b = scopeless_live x.trap x.v a.at t s j (plain_scopeless x.trap x.good.4) a.reached

-- two instances that are live in one row: the later one would have begun while the earlier one was live
later_not_live : (x : Setting) (k : ℕ) → Clean x (suc k) → (u w : Since x k k (IsLive x k)) → u.at < w.at → ⊥
later_not_live x k c u w lt =
    let n = w.at in
    let i = u.at in
    let begun : (a : ℕ) → a ≤ n → NotAborted x a n → alive x.body x.v a n ≡ true
    → live (whole x) x.v a n x.scope a ≡ true =
    λ a le none is_alive. or_left _ _ (and_from _ _ (none_from a n (aborts x a) none)
    (or_right _ _ (and_from _ _ (and_from _ _ (eq-eqb x.scope x.scope refl) (eq-eqb a a refl)) is_alive))) in
    c n (let le : n ≤ k = w.early in omega arith) x.scope i lt
    (record {
      at = i;
      early = omega arith;
      begun = u.begun;
      kept = on_less x.keep i k n w.early u.kept;
      held = on_less x.outer i k n w.early u.held;
      reached = begun i (omega arith) (none_less (aborts x i) i k n w.early u.reached.0)
          ((lasts x.body x.v).1 i k n u.reached.1 (omega arith) w.early);
    })
    (from_fresh w.begun (begun n (omega arith) (none_here (aborts x n) n)
    ((lasts x.body x.v).1 n k n w.reached.1 (omega arith) w.early)))

pub one_live : (x : Setting) (k : ℕ) → Clean x (suc k) → (u w : Since x k k (IsLive x k)) → u.at ≡ w.at
one_live x k c u w =
    elim (cases_lt u.at w.at) [
      | inl lt ↦ absurd (later_not_live x k c u w lt)
      | inr ge ↦ elim (cases_lt w.at u.at) [ inl lt ↦ absurd (later_not_live x k c w u lt) | inr le ↦ omega arith ]
    ]

-- the trap ends exactly where a live instance is aborted
pub trap_ends_right : (x : Setting) (k : ℕ) → Trapped x k
    → (trap_ends x (suc k) ≡ true) ↔ Since x k (suc k)
    (λ i. NotAborted x i k × (aborts x i (suc k) ≡ true))
trap_ends_right x k trapped =
    let right = x.trap_meets.ends_right k (clear_trap x (suc k)) in (
      λ h. let u = right.0 h in
          let t = (trapped u.at u.early u.begun (on_less x.outer u.at (suc k) k (omega arith) u.held)).0 u.kept in
          from_kept u t.0 (t.1, trips_from x u.at k u.reached t.2),
      λ w. let p = trips_to x w.at k w.reached.1 in
          let t = (trapped w.at w.early w.begun (on_less x.outer w.at (suc k) k (omega arith) w.held)).1
          (w.kept, w.reached.0, p.1) in
          right.1 (from_kept w t p.0),
    )

-- where the body of an instance is kept, the instance is not aborted
pub kept_body : (x : Setting) (k : ℕ) → ((q : ℕ) → q < k → Trapped x q) → (i : ℕ) → i ≤ k → x.start i ≡ true
    → On x.outer i k
    → KeptBody x i k → On x.keep i k × NotAborted x i k
kept_body x zero trapped i le begun held kept =
    (λ q low high. absurd (omega arith), λ m low high t. absurd (omega arith))
kept_body x (suc k) trapped i le begun held kept =
    let bits : (q : ℕ) → i < q → q ≤ suc k → (x.keep q ≡ true) × (not (trap_ends x q) ≡ true) = λ q low high.
    and_parts (x.keep q) (not (trap_ends x q)) (kept q low high) in (
      λ q low high. (bits q low high).0,
      elim (cases_lt k i) [
        | inl now ↦ λ m low high t. absurd (omega arith)
        | inr before ↦
            let held' = on_less x.outer i (suc k) k (omega arith) held in
            let r = kept_body x k (λ q lt. trapped q (omega arith)) i before begun held'
            (λ q low high. kept q low (omega arith)) in
            none_more (aborts x i) i k r.1
            (λ t. not_false_to (trap_ends x (suc k)) (bits (suc k) (omega arith) (omega arith)).1
            ((trap_ends_right x k (trapped k (omega arith))).1
            (record { at = i; early = before; begun = begun; kept = r.0; held = held; reached = (r.1, t) })))
      ],
    )

-- while an instance is alive and not aborted, its body is kept
pub body_kept : (x : Setting) (k : ℕ) → ((q : ℕ) → q < k → Trapped x q) → ((q : ℕ) → q < k → Clean x (suc q))
    → (i : ℕ) → i ≤ k → x.start i ≡ true → On x.outer i k
    → On x.keep i k → NotAborted x i k → ((t : ℕ) → i ≤ t → t < k → alive x.body x.v i t ≡ true) → KeptBody x i k
body_kept x k trapped clean i le begun held kept none is_alive =
    on_pred (keeps_body x) i k (λ q low high.
    and_from _ _ (kept (suc q) (omega arith) high) (not_true_from (trap_ends x (suc q)) (λ h.
    let u = (trap_ends_right x q (trapped q high)).0 h in
    let same : u.at ≡ i = one_live x q (clean q high)
    (from_held u u.kept (on_less x.outer u.at (suc q) q (omega arith) u.held)
    (u.reached.0, (trips_to x u.at q u.reached.1).1))
    (record {
      at = i;
      early = low;
      begun = begun;
      kept = on_less x.keep i k q (omega arith) kept;
      held = on_less x.outer i k q (omega arith) held;
      reached = (none_less (aborts x i) i k q (omega arith) none, is_alive q low high);
    }) in
    none (suc q) (omega arith) high (ap (λ a. aborts x a (suc q)) (sym same) ∙ u.reached.1))))
