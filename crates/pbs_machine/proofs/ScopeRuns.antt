-- What a scope in the machine shows, by induction over the rows.
use Rattle.std.proofs.Common.{◌≡◌, ℕ, zero, suc, ◌-◌, ◌<◌, ◌≤◌, Bool, true, not, ◌&&◌, ◌||◌, inl, inr, sym, ◌∙◌, ap}
use Rattle.std.proofs.Common.{arith, subst, ◌↔◌}
use Rattle.std.proofs.lemmas.Bool.{and_parts, and_from, true≢false, cases_lt, or_left, or_right}
use Rattle.pbs_ast.specs.Trees.{Tree, nullable, has_terminal}
use Rattle.pbs_derive.specs.Derivations.{covers, alive, live, some_after, first_after}
use Rattle.pbs_derive.proofs.Reached.{reaches, reaches_alive}
use Rattle.pbs_machine.specs.Nodes.{On, From, ClearBelow}
use Rattle.pbs_machine.specs.Rows.{stays, started}
use Rattle.pbs_derive.proofs.Positions.{or_elim, first_to, first_from, none_to, none_from, NoneAfter, not_true_from}
use Rattle.pbs_derive.proofs.Positions.{not_false_to}
use Rattle.pbs_derive.proofs.Stretches.{lasts}
use Rattle.pbs_derive.proofs.EmptyStretch.{nullable_to_covers, covers_to_nullable, terminal_to_alive, alive_to_terminal}
use Rattle.pbs_machine.proofs.Starts.{from_kept, from_held, on_none, on_less, on_more, from_map, from_more, from_cases}
use Rattle.pbs_machine.proofs.Starts.{from_zero, Hands, hands_to, hands_from, clear_less, clear_handed}
use Rattle.pbs_machine.proofs.Contract.{Meets, ends_outer}
use Rattle.pbs_machine.proofs.Scopes.{Setting, whole, keeps_body, keeps_trap, starts_after, aborts, Clean, NotAborted}
use Rattle.pbs_machine.proofs.Scopes.{Since, KeptTrap, trap_ends, Trapped, trips_to, none_here, none_less, none_more}
use Rattle.pbs_machine.proofs.Scopes.{clear_trap, one_live, trap_ends_right, kept_body, body_kept}

fewer : (x : Setting) (k n : ℕ) → n ≤ k → Clean x k → Clean x n
fewer x = clear_less (whole x) x.v x.start x.keep x.outer

less : (x : Setting) (k : ℕ) → Clean x (suc k) → Clean x k
less x k = fewer x (suc k) k (omega arith)

-- the premise for the body
clear_body : (x : Setting) (k : ℕ) → Clean x k → ((q : ℕ) → q < k → Trapped x q)
    → ClearBelow x.body x.v x.start (keeps_body x) x.outer k
clear_body x k c trapped t le s j lt a b =
    let up : (n : ℕ) → From x.start (keeps_body x) x.outer t t
    (λ i. live x.body x.v i t s n ≡ true)
    → From x.start x.keep x.outer t t (λ i. live (whole x) x.v i t s n ≡ true) =
    λ n w.
    let r = kept_body x t (λ q low. trapped q (omega arith)) w.at w.early w.begun w.held w.kept in
    from_kept w r.0 (or_left _ _ (and_from _ _ (none_from w.at t (aborts x w.at) r.1) (or_left _ _ w.reached))) in
    c t le s j lt (up j a) (up t b)

-- one more row of `Trapped`
trapped_more : (x : Setting) (k : ℕ) → Clean x (suc k) → ((q : ℕ) → q ≤ k → Trapped x q) → (i : ℕ) → i ≤ k
    → x.start i ≡ true → On x.outer i (suc k)
    → KeptTrap x i (suc k) ↔ (On x.keep i (suc k) × NotAborted x i (suc k) × (alive x.body x.v i (suc k) ≡ true))
trapped_more x k c trapped i le begun held =
    let held' = on_less x.outer i (suc k) k (omega arith) held in
    let old' = trapped k (omega arith) i le begun held' in
    let ends_right = trap_ends_right x k (trapped k (omega arith)) in
    let stays_right = x.body_meets.stays_right k (clear_body x (suc k) c (λ q lt. trapped q (omega arith))) in
    let X = trap_ends x (suc k) in
    let K = x.keep (suc k) in
    let A = stays x.body (x.old (suc k)) (x.input (suc k)) (x.outer (suc k)) in (
      λ kept.
          let r = old'.0 (λ q low high. kept q low (omega arith)) in
          let p = and_parts (K && not X) A (kept (suc k) (omega arith) (omega arith)) in
          let pk = and_parts K (not X) p.0 in
          let u = stays_right.0 p.1 in
          let uheld = on_less x.outer u.at (suc k) k (omega arith) u.held in
          let ukept = kept_body x k (λ q lt. trapped q (omega arith)) u.at u.early u.begun uheld u.kept in
          let same : u.at ≡ i = one_live x k c
          (from_held u ukept.0 uheld (ukept.1, (lasts x.body x.v).1 u.at (suc k) k u.reached u.early (omega arith)))
          (record { at = i; early = le; begun = begun; kept = r.0; held = held'; reached = (r.1, r.2) }) in (
            on_more x.keep i k r.0 pk.0,
            none_more (aborts x i) i k r.1 (λ t. not_false_to X pk.1 (ends_right.1 (record {
              at = i;
              early = le;
              begun = begun;
              kept = r.0;
              held = held;
              reached = (r.1, t);
            }))),
            ap (λ a. alive x.body x.v a (suc k)) (sym same) ∙ u.reached,
          ),
      λ h.
          let low = on_less x.keep i (suc k) k (omega arith) h.0 in
          let none = none_less (aborts x i) i (suc k) k (omega arith) h.1 in
          let was_alive = (lasts x.body x.v).1 i (suc k) k h.2 le (omega arith) in
          let kept = old'.1 (low, none, was_alive) in
          let quiet : not X ≡ true = not_true_from X (λ e.
          let u = ends_right.0 e in
          let same : u.at ≡ i = one_live x k c
          (from_held u u.kept (on_less x.outer u.at (suc k) k (omega arith) u.held)
          (u.reached.0, (trips_to x u.at k u.reached.1).1))
          (record { at = i; early = le; begun = begun; kept = low; held = held'; reached = (none, was_alive) }) in
          h.1 (suc k) (omega arith) (omega arith) (ap (λ a. aborts x a (suc k)) (sym same)
          ∙ u.reached.1)) in
          on_more (keeps_trap x) i k kept
          (and_from _ _ (and_from _ _ (h.0 (suc k) (omega arith) (omega arith)) quiet)
          (stays_right.1 (record {
            at = i;
            early = le;
            begun = begun;
            kept = (λ q lo hi. (and_parts (x.keep q && not (trap_ends x q)) _ (kept q lo hi)).0);
            held = held;
            reached = h.2;
          }))),
    )

-- an instance that begins in this row
trapped_now : (x : Setting) (i : ℕ) → KeptTrap x i i
    ↔ (On x.keep i i × NotAborted x i i × (alive x.body x.v i i ≡ true))
trapped_now x i = (
  λ _. (on_none x.keep i, none_here (aborts x i) i, terminal_to_alive x.body x.v i x.good.0 x.good.3),
  λ _. on_none (keeps_trap x) i,
)

trapped_row : (x : Setting) (k : ℕ) → Clean x (suc k) → ((q : ℕ) → q ≤ k → Trapped x q) → Trapped x (suc k)
trapped_row x k c trapped i le begun held =
    elim (cases_lt i (suc k)) [
      | inl before ↦ trapped_more x k c trapped i (omega arith) begun held
      | inr now ↦
          let same : suc k ≡ i = omega arith in
          let P : ℕ → Type 0 = λ n. KeptTrap x i n
          ↔ (On x.keep i n × NotAborted x i n × (alive x.body x.v i n ≡ true)) in
          subst P (sym same) (trapped_now x i)
    ]

pub trapped_to : (x : Setting) (n : ℕ) → Clean x n → (q : ℕ) → q ≤ n → Trapped x q
trapped_to x zero c q le = λ i low begun held.
    let same : q ≡ i = omega arith in
    let P : ℕ → Type 0 = λ n. KeptTrap x i n ↔ (On x.keep i n × NotAborted x i n × (alive x.body x.v i n ≡ true)) in
    subst P (sym same) (trapped_now x i)
trapped_to x (suc n) c q le =
    let below = trapped_to x n (less x n c) in
    elim (cases_lt q (suc n)) [
      | inl before ↦ below q (omega arith)
      | inr now ↦ let same : suc n ≡ q = omega arith in subst (Trapped x) same (trapped_row x n c below)
    ]

-- the first abort position of the instance that began at i is m
abbrev pub Aborts : Setting → ℕ → ℕ → Type 0
Aborts x i m = (i < m) × (aborts x i m ≡ true) × NoneAfter i (m - 1) (aborts x i)

after_hands : (x : Setting) (m : ℕ) → Clean x m → (starts_after x m ≡ true)
    ↔ Since x m m (λ i. Aborts x i m)
after_hands x zero c = (
  λ h. absurd (true≢false (sym
      (ends_outer x.trap (x.old 0) (x.input 0) (x.outer 0) (and_parts (trap_ends x 0) (x.keep 0) h).0) ∙ x.off)),
  λ w. let p = from_zero w in let lt : 0 < 0 = p.1.0 in
      absurd (omega arith),
)
after_hands x (suc k) c =
    let right = trap_ends_right x k
    (trapped_to x k (less x k c) k (omega arith)) in (
      λ h. let p = and_parts (trap_ends x (suc k)) (x.keep (suc k)) h in
          let u = right.0 p.0 in
          from_more p.1 (from_kept u u.kept (
            let le : u.at ≤ k = u.early in omega arith,
            u.reached.1,
            λ n low high.
                u.reached.0 n low (omega arith),
          )),
      λ w. elim (from_cases w) [
        | inl now ↦ let lt : suc k < suc k = now.1.0 in absurd (omega arith)
        | inr before ↦
            let b = before.1 in
            and_from _ _ (right.1 (from_kept b b.kept (λ n low high. b.reached.2 n low (omega arith), b.reached.1)))
            before.0
      ],
    )

hands_after : (x : Setting) (k : ℕ) → Clean x k
    → Hands x.start (starts_after x) x.keep x.outer (Aborts x) k
hands_after x k c m le = after_hands x m
    (fewer x k m le c)

clear_after : (x : Setting) (k n : ℕ) → n ≤ suc k → Clean x k → Clean x n
    → ClearBelow x.after x.v (starts_after x) x.keep x.outer n
clear_after x k n row below c =
    clear_handed (whole x) x.after x.v x.start
    (starts_after x) x.keep x.outer (Aborts x) k n row (hands_after x k below)
    (λ i m t s n low high a b. or_right _ _ (first_from i t (aborts x i)
    (λ m. live x.after x.v m t s n) m a.0 high a.1 a.2 b)) c

-- a scope from its body P and its after part Q, as in the definitions
abbrev scoped : Setting → ℕ → (ℕ → Bool) → (ℕ → Bool) → ℕ → Bool
scoped x k P Q i = (not (some_after i k (aborts x i)) && P i) || first_after i k
    (aborts x i) Q

-- `ends` and `stays` of a scope
upward : (x : Setting) (k : ℕ) → Clean x (suc k) → (P Q : ℕ → Bool) (body after empty : Bool)
    → ((i t : ℕ) → P i ≡ true → i ≤ t → t < suc k → alive x.body x.v i t ≡ true)
    → ((body ≡ true) ↔ From x.start (keeps_body x) x.outer k (suc k) (λ i. P i ≡ true))
    → ((after ≡ true) ↔ From (starts_after x) x.keep x.outer k (suc k)
    (λ m. Q m ≡ true))
    → (empty ≡ true → Q (suc k) ≡ true) → (Q (suc k) ≡ true → empty ≡ true)
    → (((body && not (trap_ends x (suc k))) || (after || (trap_ends x (suc k) && empty))) ≡ true) ↔ Since x k (suc k)
    (λ i. scoped x (suc k) P Q i ≡ true)
upward x k c P Q body after empty was_alive body_right after_right empty_to empty_from =
    let X = trap_ends x (suc k) in
    let trapped = trapped_to x k (less x k c) in
    let right = trap_ends_right x k (trapped k (omega arith)) in
    let T : ℕ → ℕ → Bool = λ i. aborts x i in (
      λ h. or_elim (body && not X) (after || (X && empty)) h (λ l.
          let p = and_parts body (not X) l in
          let u = body_right.0 p.0 in
          let r = kept_body x k (λ q lt. trapped q (omega arith)) u.at u.early u.begun
          (on_less x.outer u.at (suc k) k (omega arith) u.held) u.kept in
          from_kept u r.0 (or_left _ _
          (and_from _ _ (none_from u.at (suc k) (T u.at)
          (none_more (T u.at) u.at k r.1 (λ t. not_false_to X p.1 (right.1 (from_kept u r.0 (r.1, t))))))
          u.reached)))
          (λ o. or_elim after (X && empty) o
          (λ a. from_map (hands_to (hands_after x k (less x k c)) (after_right.0 a) (omega arith))
          (λ i _ r. or_right _ _ (first_from i (suc k) (T i) Q r.0 r.3.0
          (let le : r.0 ≤ k = r.2 in omega arith) r.3.1
          r.3.2 r.4)))
          (λ b. let p = and_parts X empty b in
          let u = right.0 p.0 in
          from_kept u u.kept (or_right _ _
          (first_from u.at (suc k) (T u.at) Q (suc k) (let le : u.at ≤ k = u.early in omega arith)
          (omega arith) u.reached.1 (λ m low high. u.reached.0 m low (omega arith)) (empty_to p.1))))),
      λ w. or_elim _ _ w.reached (λ l.
          let p = and_parts (not (some_after w.at (suc k) (T w.at))) (P w.at) l in
          let none = none_to w.at (suc k) (T w.at) p.0 in
          let held' = on_less x.outer w.at (suc k) k (omega arith) w.held in
          let none' = none_less (T w.at) w.at (suc k) k (omega arith) none in
          or_left _ _ (and_from _ _
          (body_right.1 (from_kept w (body_kept x k (λ q lt. trapped q (omega arith))
          (λ q lt. fewer x (suc k) (suc q) (omega arith) c) w.at w.early w.begun held' w.kept none'
          (λ t low high. was_alive w.at t p.1 low (omega arith))) p.1))
          (not_true_from X (λ e.
          let u = right.0 e in
          let same : u.at ≡ w.at = one_live x k c
          (from_held u u.kept (on_less x.outer u.at (suc k) k (omega arith) u.held)
          (u.reached.0, (trips_to x u.at k u.reached.1).1))
          (from_held w w.kept held' (none', was_alive w.at k p.1 w.early (omega arith))) in
          none (suc k) (let le : w.at ≤ k = w.early in omega arith) (omega arith) (ap (λ a. T a (suc k)) (sym same)
          ∙ u.reached.1)))))
          (λ r.
          let f = first_to w.at (suc k) (T w.at) Q r in
          let m = f.0 in
          let high : m ≤ suc k = f.2 in
          elim (cases_lt m (suc k)) [
            | inl before ↦ or_right _ _
                (or_left _ _ (after_right.1
                (hands_from (hands_after x k (less x k c))
                (from_kept w w.kept (
                  m,
                  (let lt : w.at < m = f.1 in omega arith),
                  omega arith,
                  (f.1, f.3, f.4),
                  f.5,
                )) (omega arith))))
            | inr now ↦
                let same : m ≡ suc k = omega arith in
                or_right _ _ (or_right _ _ (and_from _ _
                (right.1 (from_kept w w.kept (λ n low hi. f.4 n low (omega arith), ap (T w.at) (sym same) ∙ f.3)))
                (empty_from (ap Q (sym same) ∙ f.5))))
          ]),
    )

-- `started` of a scope
downward : (x : Setting) (mark : Tree → Bool) (k : ℕ) → Clean x k
    → (started (whole x) mark (x.old k) (x.input k) (x.outer k) (x.start k)
    (x.keep k) ≡ true)
    ↔ Since x k k (λ i. reaches (whole x) mark x.v i k ≡ true)
downward x mark k c =
    let trapped = trapped_to x k c in
    let R : ℕ → Type 0 = λ i. reaches (whole x) mark x.v i k ≡ true in
    let Q : ℕ → Bool = λ m. reaches x.after mark x.v m k in
    let T : ℕ → ℕ → Bool = λ i. aborts x i in
    let second = starts_after x in
    let into : (i : ℕ) → (not (some_after i k (T i))
    && (reaches x.body mark x.v i k || (reaches x.trap mark x.v i k && alive x.body x.v i k))) ≡ true → R i =
    λ i. or_left (not (some_after i k (T i))
    && (reaches x.body mark x.v i k || (reaches x.trap mark x.v i k && alive x.body x.v i k)))
    (first_after i k (T i) Q) in
    let past : (i : ℕ) → first_after i k (T i) Q ≡ true → R i =
    λ i. or_right (not (some_after i k (T i))
    && (reaches x.body mark x.v i k || (reaches x.trap mark x.v i k && alive x.body x.v i k)))
    (first_after i k (T i) Q) in
    let body = started x.body mark (x.old k) (x.input k) (x.outer k) (x.start k)
    (keeps_body x k) in
    let trap = started x.trap mark (x.old k) (x.input k) (x.outer k) (x.start k)
    (keeps_trap x k) in
    let after = started x.after mark (x.old k) (x.input k) (x.outer k) (second k) (x.keep k) in
    let body_right = x.body_meets.started_right mark k (clear_body x k c (λ q lt. trapped q (omega arith))) in
    let trap_right = x.trap_meets.started_right mark k (clear_trap x k) in
    let after_right = x.after_meets.started_right mark k (clear_after x k k (omega arith) c c) in (
      λ h. or_elim (body || trap) after h (λ l. or_elim body trap l (λ b.
          let u = body_right.0 b in
          let r = kept_body x k (λ q lt. trapped q (omega arith)) u.at u.early u.begun u.held u.kept in
          from_kept u r.0 (into u.at
          (and_from _ _ (none_from u.at k (T u.at) r.1)
          (or_left (reaches x.body mark x.v u.at k) (reaches x.trap mark x.v u.at k && alive x.body x.v u.at k)
          u.reached))))
          (λ t.
          let u = trap_right.0 t in
          let r = (trapped k (omega arith) u.at u.early u.begun u.held).0 u.kept in
          from_kept u r.0 (into u.at
          (and_from _ _ (none_from u.at k (T u.at) r.1)
          (or_right (reaches x.body mark x.v u.at k) (reaches x.trap mark x.v u.at k && alive x.body x.v u.at k)
          (and_from _ _ u.reached r.2))))))
          (λ a. from_map (hands_to (hands_after x k c) (after_right.0 a) (omega arith))
          (λ i _ r. past i (first_from i k (T i) Q r.0 r.3.0 r.2 r.3.1 r.3.2 r.4))),
      λ w.
          let some_part = reaches x.body mark x.v w.at k
          || (reaches x.trap mark x.v w.at k && alive x.body x.v w.at k) in
          or_elim (not (some_after w.at k (T w.at)) && some_part) (first_after w.at k (T w.at) Q) w.reached
          (λ l.
          let p = and_parts (not (some_after w.at k (T w.at)))
          (reaches x.body mark x.v w.at k || (reaches x.trap mark x.v w.at k && alive x.body x.v w.at k)) l in
          let none = none_to w.at k (T w.at) p.0 in
          or_left (body || trap) after
          (or_elim (reaches x.body mark x.v w.at k) (reaches x.trap mark x.v w.at k && alive x.body x.v w.at k)
          p.1
          (λ b. or_left body trap (body_right.1
          (from_kept w (body_kept x k (λ q lt. trapped q (omega arith))
          (λ q lt. fewer x k (suc q) (omega arith) c) w.at w.early w.begun w.held w.kept none
          (λ t low high. reaches_alive x.body mark x.v w.at k t b low high)) b)))
          (λ t. let q = and_parts (reaches x.trap mark x.v w.at k) (alive x.body x.v w.at k) t in
          or_right body trap (trap_right.1
          (from_kept w ((trapped k (omega arith) w.at w.early w.begun w.held).1 (w.kept, none, q.1)) q.0)))))
          (λ r.
          let f = first_to w.at k (T w.at) Q r in
          let m = f.0 in
          or_right (body || trap) after
          (after_right.1 (hands_from (hands_after x k c)
          (from_kept w w.kept (m, (let lt : w.at < m = f.1 in omega arith), f.2, (f.1, f.3, f.4), f.5))
          (omega arith)))),
    )

pub meets_scope : (x : Setting) → Meets (whole x) x.v x.old x.input x.outer x.start
    x.keep
meets_scope x = record {
  ends_right = λ k c.
      upward x k c (λ i. covers x.body x.v i (suc k)) (λ m. covers x.after x.v m (suc k)) _ _ (nullable x.after)
      (λ i t h low high. (lasts x.body x.v).0 i (suc k) t h low high)
      (x.body_meets.ends_right k (clear_body x (suc k) c (λ q lt. trapped_to x k (less x k c) q (omega arith))))
      (x.after_meets.ends_right k (clear_after x k (suc k) (omega arith) (less x k c) c))
      (nullable_to_covers x.after x.v (suc k)) (covers_to_nullable x.after x.v (suc k));
  stays_right = λ k c.
      upward x k c (λ i. alive x.body x.v i (suc k)) (λ m. alive x.after x.v m (suc k)) _ _ (has_terminal x.after)
      (λ i t h low high. (lasts x.body x.v).1 i (suc k) t h low (omega arith))
      (x.body_meets.stays_right k (clear_body x (suc k) c (λ q lt. trapped_to x k (less x k c) q (omega arith))))
      (x.after_meets.stays_right k (clear_after x k (suc k) (omega arith) (less x k c) c))
      (terminal_to_alive x.after x.v (suc k) x.good.2) (alive_to_terminal x.after x.v (suc k));
  started_right = λ mark k c. downward x mark k c;
}
