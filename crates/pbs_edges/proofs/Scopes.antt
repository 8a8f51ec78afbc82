-- Where scopes are numbered, a scope's number tells its body and its trap.
use Rattle.std.proofs.Common.{◌≡◌, ℕ, ◌+◌, ◌-◌, ◌<◌, ◌≤◌, Bool, true, cond, ◌&&◌, ◌||◌, inl, inr, List, arith, sym, ◌∙◌}
use Rattle.std.proofs.Common.{subst}
use Rattle.std.specs.Prelude.{nat_eq, nat_lt}
use Rattle.std.proofs.lemmas.Bool.{false≢true, eqb-true, eq-eqb, ne_eqb, and_parts, or_cases, lt-ltb, le-ltb, cond-true}
use Rattle.std.proofs.lemmas.Bool.{cond-false}
use Rattle.pbs_ast.specs.Trees.{Tree, Spot, Empty, Terminal, Action, Seq, Choice, Star, Hold, Scope}
use Rattle.pbs_derive.specs.Derivations.{covers, alive, trips, live, all_hold, repeats, some_within}
use Rattle.pbs_ast.specs.Sound.{scope_count, scopes_from}
use Rattle.pbs_edges.proofs.Tests.{scope-gives}
use Rattle.pbs_derive.proofs.Positions.{split_to}
use Rattle.pbs_edges.proofs.Instances.{Lives, lives_here, lives_left, lives_right, lives_either, lives_or, lives_star}
use Rattle.pbs_edges.proofs.Instances.{lives_hold, lives_body, lives_trap, lives_after}

-- the body and the trap of a scope
pub record Parts : Type 0 where
  pub body : Tree
  pub trap : Tree

-- of a tree whose scopes are numbered from s, the parts of scope t
abbrev pub parts : Tree → (s t : ℕ) → Parts
parts (Empty at) s t = record { body = Empty at; trap = Empty at }
parts (Terminal at p c) s t = record { body = Empty at; trap = Empty at }
parts (Action at a) s t = record { body = Empty at; trap = Empty at }
parts (Seq at e f) s t = cond (nat_lt t (s + scope_count e)) (parts e s t) (parts f (s + scope_count e) t)
parts (Choice at e f) s t = cond (nat_lt t (s + scope_count e)) (parts e s t) (parts f (s + scope_count e) t)
parts (Star at e) s t = parts e s t
parts (Hold at c e) s t = parts e s t
parts (Scope at r e x h) s t = cond (nat_eq t s) (record { body = e; trap = x })
    (cond (nat_lt t (1 + s + scope_count e)) (parts e (1 + s) t)
    (cond (nat_lt t (1 + s + scope_count e + scope_count x)) (parts x (1 + s + scope_count e) t)
    (parts h (1 + s + scope_count e + scope_count x) t)))

-- scope t is one of the tree's, with this body and trap
pub record Found (e : Tree) (s t : ℕ) (b y : Tree) : Type 0 where
  pub low : s ≤ t
  pub high : t < s + scope_count e
  pub same : parts e s t ≡ record { body = b; trap = y }

-- the numbers of the parts
scope_numbers : (at : Spot) (r : ℕ) (e x h : Tree) (s : ℕ) → scopes_from (Scope at r e x h) s ≡ true
    → (r ≡ s) × (scopes_from e (1 + s) ≡ true) × (scopes_from x (1 + s + scope_count e) ≡ true)
    × (scopes_from h (1 + s + scope_count e + scope_count x) ≡ true)
scope_numbers at r e x h s g =
    let body : Bool = scopes_from e (1 + s) in
    let trap : Bool = scopes_from x (1 + s + scope_count e) in
    let after : Bool = scopes_from h (1 + s + scope_count e + scope_count x) in
    let a = and_parts (nat_eq r s) (body && (trap && after)) g in
    let b = and_parts body (trap && after) a.1 in
    let c = and_parts trap after b.1 in
    (eqb-true r s a.0, b.0, c.0, c.1)

pub found : {v : List ℕ} {e b y : Tree} {i k t a : ℕ} → Lives v e i k t a b y → (s : ℕ) → scopes_from e s ≡ true
    → Found e s t b y
found (lives_here {at = at} {s = r} {e = e} {x = x} {h = h} l q c) s g =
    let n = scope_numbers at r e x h s g in
    let same : r ≡ s = n.0 in
    record { low = omega arith; high = omega arith; same = cond-true (nat_eq r s) _ _ (eq-eqb r s same) }
found {t = t} (lives_left {e = e} {f = f} h) s g =
    let b = and_parts (scopes_from e s) (scopes_from f (s + scope_count e)) g in
    let r = found h s b.0 in
    record {
      low = r.low;
      high = omega arith;
      same = cond-true (nat_lt t (s + scope_count e)) _ _
          (lt-ltb t (s + scope_count e) r.high) ∙ r.same;
    }
found {t = t} (lives_right {e = e} {f = f} l l' c h) s g =
    let b = and_parts (scopes_from e s) (scopes_from f (s + scope_count e)) g in
    let r = found h (s + scope_count e) b.1 in
    record {
      low = omega arith;
      high = omega arith;
      same = cond-false (nat_lt t (s + scope_count e)) _ _
          (le-ltb t (s + scope_count e) r.low) ∙ r.same;
    }
found {t = t} (lives_either {e = e} {f = f} h) s g =
    let b = and_parts (scopes_from e s) (scopes_from f (s + scope_count e)) g in
    let r = found h s b.0 in
    record {
      low = r.low;
      high = omega arith;
      same = cond-true (nat_lt t (s + scope_count e)) _ _
          (lt-ltb t (s + scope_count e) r.high) ∙ r.same;
    }
found {t = t} (lives_or {e = e} {f = f} h) s g =
    let b = and_parts (scopes_from e s) (scopes_from f (s + scope_count e)) g in
    let r = found h (s + scope_count e) b.1 in
    record {
      low = omega arith;
      high = omega arith;
      same = cond-false (nat_lt t (s + scope_count e)) _ _
          (le-ltb t (s + scope_count e) r.low) ∙ r.same;
    }
found (lives_star l l' c h) s g = let r = found h s g in record { low = r.low; high = r.high; same = r.same }
found (lives_hold c h) s g = let r = found h s g in record { low = r.low; high = r.high; same = r.same }
found {t = t} (lives_body {at = at} {s = r} {e = e} {x = x} {h = h} q l) s g =
    let n = scope_numbers at r e x h s g in
    let f = found l (1 + s) n.1 in
    let low : 1 + s ≤ t = f.low in
    record {
      low = omega arith;
      high = let u = f.high in omega arith;
      same = cond-false (nat_eq t s) _ _ (ne_eqb t s (λ e. omega arith)) ∙
          (cond-true (nat_lt t (1 + s + scope_count e)) _ _ (lt-ltb t (1 + s + scope_count e) f.high) ∙ f.same);
    }
found {t = t} (lives_trap {at = at} {s = r} {e = e} {x = x} {h = h} q d l) s g =
    let n = scope_numbers at r e x h s g in
    let f = found l (1 + s + scope_count e) n.2 in
    let low : 1 + s + scope_count e ≤ t = f.low in
    record {
      low = omega arith;
      high = let u = f.high in omega arith;
      same = cond-false (nat_eq t s) _ _ (ne_eqb t s (λ e. omega arith)) ∙
          (cond-false (nat_lt t (1 + s + scope_count e)) _ _ (le-ltb t (1 + s + scope_count e) low)
          ∙ (cond-true (nat_lt t (1 + s + scope_count e + scope_count x)) _ _
          (lt-ltb t (1 + s + scope_count e + scope_count x) f.high) ∙ f.same));
    }
found {t = t} (lives_after {at = at} {s = r} {e = e} {x = x} {h = h} q d l) s g =
    let n = scope_numbers at r e x h s g in
    let f = found l (1 + s + scope_count e + scope_count x) n.3 in
    let low : 1 + s + scope_count e + scope_count x ≤ t = f.low in
    record {
      low = omega arith;
      high = let u = f.high in omega arith;
      same = cond-false (nat_eq t s) _ _ (ne_eqb t s (λ e. omega arith)) ∙
          (cond-false (nat_lt t (1 + s + scope_count e)) _ _ (le-ltb t (1 + s + scope_count e) (omega arith))
          ∙ (cond-false (nat_lt t (1 + s + scope_count e + scope_count x)) _ _
          (le-ltb t (1 + s + scope_count e + scope_count x) low) ∙ f.same));
    }

module _ (v : List ℕ) where
  -- a live instance of the definition is one of the relation
  pub lives_from_live : (e : Tree) (i k t a : ℕ) → i ≤ k → live e v i k t a ≡ true → (b : Tree) × (y : Tree)
      × Lives v e i k t a b y
  lives_from_live (Empty at) i k t a l h = absurd (false≢true h)
  lives_from_live (Terminal at q c) i k t a l h = absurd (false≢true h)
  lives_from_live (Action at c) i k t a l h = absurd (false≢true h)
  lives_from_live (Seq at e f) i k t a l h = elim
      (or_cases (live e v i k t a) (some_within i k (λ m. covers e v i m && live f v m k t a)) h) [
        | inl d ↦ let r = lives_from_live e i k t a l d in (r.0, r.1, lives_left r.2)
        | inr d ↦
            let c = split_to i k (λ m. covers e v i m) (λ m. live f v m k t a) d in
            let r = lives_from_live f c.0 k t a c.2 c.4 in (r.0, r.1, lives_right c.1 c.2 c.3 r.2)
      ]
  lives_from_live (Choice at e f) i k t a l h = elim (or_cases (live e v i k t a) (live f v i k t a) h) [
    | inl d ↦ let r = lives_from_live e i k t a l d in (r.0, r.1, lives_either r.2)
    | inr d ↦ let r = lives_from_live f i k t a l d in (r.0, r.1, lives_or r.2)
  ]
  lives_from_live (Star at e) i k t a l h =
      let c = split_to i k (λ m. repeats (covers e v) (m - i) i m) (λ m. live e v m k t a) h in
      let r = lives_from_live e c.0 k t a c.2 c.4 in (r.0, r.1, lives_star c.1 c.2 c.3 r.2)
  lives_from_live (Hold at c e) i k t a l h =
      let d = and_parts (live e v i k t a) (all_hold c v i k) h in
      let r = lives_from_live e i k t a l d.0 in (r.0, r.1, lives_hold d.1 r.2)
  lives_from_live (Scope at s e x h) i k t a l g =
      elim (scope-gives i k (trips e x v i) (live e v i k t a || ((nat_eq t s && nat_eq i a) && alive e v i k))
      (λ m. live h v m k t a) g) [
        | inl c ↦ elim (or_cases (live e v i k t a) ((nat_eq t s && nat_eq i a) && alive e v i k) c.1) [
          | inl d ↦ let r = lives_from_live e i k t a l d in (r.0, r.1, lives_body c.0 r.2)
          | inr d ↦
              let p = and_parts (nat_eq t s && nat_eq i a) (alive e v i k) d in
              let q = and_parts (nat_eq t s) (nat_eq i a) p.0 in (
                e,
                x,
                subst (λ w. Lives v (Scope at s e x h) i k w a e x) (sym (eqb-true t s q.0))
                    (subst (λ w. Lives v (Scope at s e x h) i k s w e x) (eqb-true i a q.1) (lives_here l c.0 p.1)),
              )
        ]
        | inr b ↦ let r = lives_from_live h b.0 k t a b.1 b.3 in (r.0, r.1, lives_after b.1 b.2 r.2)
      ]
