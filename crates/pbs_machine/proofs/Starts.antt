-- Starts that are kept and held up to a row, and how one node hands them to the next.
use Rattle.std.proofs.Common.{◌≡◌, ℕ, suc, ◌≤◌, Bool, true, false, List, ◌⊎◌, inl, inr, sym, ◌∙◌, ap, arith, subst, ◌↔◌}
use Rattle.std.proofs.lemmas.Bool.{cases_lt, false≢true}
use Rattle.pbs_ast.specs.Trees.{Tree}
use Rattle.pbs_derive.specs.Derivations.{live}
use Rattle.pbs_machine.specs.Nodes.{On, From, ClearBelow}

pub on_none : (signal : ℕ → Bool) (i : ℕ) → On signal i i
on_none signal i q low high = absurd (omega arith)

pub on_less : (signal : ℕ → Bool) (i k n : ℕ) → n ≤ k → On signal i k → On signal i n
on_less signal i k n le on q low high = on q low (omega arith)

pub on_later : (signal : ℕ → Bool) (i j k : ℕ) → i ≤ j → On signal i k → On signal j k
on_later signal i j k le on q low high = on q (omega arith) high

pub on_join : (signal : ℕ → Bool) (i j k : ℕ) → On signal i j → On signal j k → On signal i k
on_join signal i j k a b q low high =
    elim (cases_lt j q) [ inl past ↦ b q past high | inr before ↦ a q low before ]

pub on_one : (signal : ℕ → Bool) (k : ℕ) → signal (suc k) ≡ true → On signal k (suc k)
on_one signal k e q low high = let same : suc k ≡ q = omega arith in ap signal (sym same) ∙ e

pub on_more : (signal : ℕ → Bool) (i k : ℕ) → On signal i k → signal (suc k) ≡ true → On signal i (suc k)
on_more signal i k on e = on_join signal i k (suc k) on (on_one signal k e)

pub from_map : {start keep outer : ℕ → Bool} {a b : ℕ} {R S : ℕ → Type 0} → From start keep outer a b R
    → ((i : ℕ) → i ≤ a → R i → S i) → From start keep outer a b S
from_map w f = record {
  at = w.at;
  early = w.early;
  begun = w.begun;
  kept = w.kept;
  held = w.held;
  reached = f w.at
      w.early w.reached;
}

-- the same begin, by other signals
abbrev pub from_kept : {start keep keep' outer : ℕ → Bool} {a b : ℕ} {R S : ℕ → Type 0}
    → (w : From start keep outer a b R)
    → On keep' w.at a → S w.at → From start keep' outer a b S
from_kept w kept reached = record {
  at = w.at;
  early = w.early;
  begun = w.begun;
  kept = kept;
  held = w.held;
  reached = reached;
}

abbrev pub from_held : {start keep keep' outer outer' : ℕ → Bool} {a b c : ℕ} {R S : ℕ → Type 0}
    → (w : From start keep outer a b R)
    → On keep' w.at a → On outer' w.at c → S w.at → From start keep' outer' a c S
from_held w kept held reached = record {
  at = w.at;
  early = w.early;
  begun = w.begun;
  kept = kept;
  held = held;
  reached = reached;
}

-- a start in the row itself
pub from_fresh : {start keep outer : ℕ → Bool} {m : ℕ} {R : ℕ → Type 0} → start m ≡ true → R m
    → From start keep outer m m R
from_fresh {start = start} {keep = keep} {outer = outer} {m = m} begun reached =
    record {
      at = m;
      early = omega arith;
      begun = begun;
      kept = on_none keep m;
      held = on_none outer m;
      reached = reached;
    }

-- a keep bit keeps the starts of earlier rows
pub from_more : {start keep outer : ℕ → Bool} {k b : ℕ} {R : ℕ → Type 0} → keep (suc k) ≡ true
    → From start keep outer k b R
    → From start keep outer (suc k) b R
from_more {keep = keep} {k = k} e w =
    record {
      at = w.at;
      early = let le : w.at ≤ k = w.early in
          omega arith;
      begun = w.begun;
      kept = on_more keep w.at k w.kept e;
      held = w.held;
      reached = w.reached;
    }

-- a start is that of the row itself, or an earlier one that is kept
pub from_cases : {start keep outer : ℕ → Bool} {k b : ℕ} {R : ℕ → Type 0} → From start keep outer (suc k) b R
    → ((start (suc k) ≡ true) × R (suc k)) ⊎ ((keep (suc k) ≡ true) × From start keep outer k b R)
from_cases {start = start} {keep = keep} {outer = outer} {k = k} {b = b} {R = R} w =
    elim (cases_lt w.at (suc k)) [
      | inl before ↦ inr (
        w.kept (suc k) before (omega arith),
        record {
          at = w.at;
          early = omega arith;
          begun = w.begun;
          kept = on_less keep w.at (suc k) k (omega arith) w.kept;
          held = w.held;
          reached = w.reached;
        },
      )
      | inr now ↦
          let le : w.at ≤ suc k = w.early in
          let same : w.at ≡ suc k = omega arith in
          inl (ap start (sym same) ∙ w.begun, subst R same w.reached)
    ]

pub from_zero : {start keep outer : ℕ → Bool} {b : ℕ} {R : ℕ → Type 0} → From start keep outer 0 b R
    → (start 0 ≡ true) × R 0
from_zero {start = start} {R = R} w =
    let le : w.at ≤ 0 = w.early in
    let same : w.at ≡ 0 = omega arith in
    (ap start (sym same) ∙ w.begun, subst R same w.reached)

-- a start by one of two ways
pub from_or : {C : Type 0} {start keep outer : ℕ → Bool} {a b : ℕ} {R S T : ℕ → Type 0} → From start keep outer a b R
    → ((i : ℕ) → i ≤ a → R i → S i ⊎ T i) → (From start keep outer a b S → C) → (From start keep outer a b T → C) → C
from_or w f g h =
    elim (f w.at w.early w.reached) [
      | inl l ↦ g (from_kept w w.kept l)
      | inr r ↦ h (from_kept w w.kept r)
    ]

pub from_none : {C : Type 0} {start keep outer : ℕ → Bool} {a b : ℕ} → From start keep outer a b (λ i. false ≡ true) → C
from_none w = absurd (false≢true w.reached)

-- `second` has a start in each row up to a in which a start of `start` has come by C
abbrev pub Hands : (start second keep outer : ℕ → Bool) → (ℕ → ℕ → Type 0) → ℕ → Type 0
Hands start second keep outer C a = (m : ℕ) → m ≤ a → (second m ≡ true) ↔ From start keep outer m m (λ i. C i m)

-- C leads from i to some m, and R goes on from there
abbrev pub Through : (ℕ → ℕ → Type 0) → ℕ → (ℕ → Type 0) → ℕ → Type 0
Through C a R i = (m : ℕ) × (i ≤ m) × (m ≤ a) × C i m × R m

pub hands_to : {start second keep outer : ℕ → Bool} {C : ℕ → ℕ → Type 0} {a b : ℕ} {R : ℕ → Type 0}
    → Hands start second keep outer C a → From second keep outer a b R → a ≤ b
    → From start keep outer a b (Through C a R)
hands_to {keep = keep} {outer = outer} {a = a} {b = b} h w le =
    let u = (h w.at w.early).0 w.begun in
    let low : u.at ≤ w.at = u.early in let high : w.at ≤ a = w.early in
    record {
      at = u.at;
      early = omega arith;
      begun = u.begun;
      kept = on_join keep u.at w.at a u.kept w.kept;
      held = on_join outer u.at w.at b u.held w.held;
      reached = (w.at, u.early, w.early, u.reached, w.reached);
    }

pub hands_from : {start second keep outer : ℕ → Bool} {C : ℕ → ℕ → Type 0} {a b : ℕ} {R : ℕ → Type 0}
    → Hands start second keep outer C a → From start keep outer a b (Through C a R) → a ≤ b
    → From second keep outer a b R
hands_from {keep = keep} {outer = outer} {a = a} {b = b} h w le =
    let m = w.reached.0 in
    let high : m ≤ a = w.reached.2 in
    record {
      at = m;
      early = w.reached.2;
      begun = (h m w.reached.2).1 (record {
        at = w.at;
        early = w.reached.1;
        begun = w.begun;
        kept = on_less keep w.at a m w.reached.2 w.kept;
        held = on_less outer w.at b m (omega arith) w.held;
        reached = w.reached.3;
      });
      kept = on_later keep w.at m a w.reached.1 w.kept;
      held = on_later outer w.at m b w.reached.1 w.held;
      reached = w.reached.4;
    }

pub clear_less : (e : Tree) (v : List ℕ) (start keep outer : ℕ → Bool) (k n : ℕ) → n ≤ k
    → ClearBelow e v start keep outer k → ClearBelow e v start keep outer n
clear_less e v start keep outer k n le c t low = c t (omega arith)

-- the premise of a node gives that of a part with the same starts
pub clear_part : (e f : Tree) (v : List ℕ) (start keep outer : ℕ → Bool) (k : ℕ)
    → ((i t s j : ℕ) → live f v i t s j ≡ true → live e v i t s j ≡ true)
    → ClearBelow e v start keep outer k → ClearBelow f v start keep outer k
clear_part e f v start keep outer k goes c t le s j lt a b =
    c t le s j lt
    (from_map a (λ i _. goes i t s j))
    (from_map b (λ i _. goes i t s t))

-- and that of a part to which its starts are handed
pub clear_handed : (e f : Tree) (v : List ℕ) (start second keep outer : ℕ → Bool) (C : ℕ → ℕ → Type 0) (k n : ℕ)
    → n ≤ suc k
    → Hands start second keep outer C k
    → ((i m t s j : ℕ) → i ≤ m → m ≤ t → C i m → live f v m t s j ≡ true → live e v i t s j ≡ true)
    → ClearBelow e v start keep outer n → ClearBelow f v second keep outer n
clear_handed e f v start second keep outer C k n row h goes c t le s j lt a b =
    let h' : Hands start second keep outer C t = λ m low. h m (omega arith) in
    let go : (b : ℕ) → From second keep outer t t (λ m. live f v m t s b ≡ true) → From start keep outer t t
    (λ i. live e v i t s b ≡ true) =
    λ b w. from_map (hands_to h' w (omega arith)) (λ i _ r. goes i r.0 t s b r.1 r.2 r.3 r.4) in
    c t le s j lt (go j a) (go t b)
