-- Nodes that stand for wires, as the store grows.
use Rattle.std.proofs.Common.{◌≡◌, ℕ, zero, suc, ◌+◌, ◌<◌, ◌≤◌, ◌&&◌, ◌||◌, not, Bool, true, false, List, [], ◌∷◌, length, drop, get_or}
use Rattle.std.proofs.Common.{Some, refl, sym, ap, subst, ◌∙◌, arith, add-one, drop-cons}
use Rattle.std.specs.Prelude.{slice_get}
use Rattle.std.proofs.Common.{◌⊎◌, inl, inr, Option, None}
use Rattle.bool_bdd.specs.Least.{IsLeastOf}
use Rattle.std.proofs.lemmas.Bool.{cases_eq, cases_lt}
use Rattle.std.proofs.lemmas.Option.{get_or_from_slice_get, same_Some, slice_get-get_or, slice_get_within}
use Rattle.std.proofs.lemmas.List.{get_or-set_other, get_or-set_same}
use Rattle.std.proofs.Math.ListN.{set}
use Rattle.std.specs.List.Sorted.{IsNonDecreasingBy}
use Rattle.pbs_base.specs.Entries.{bit}
use Rattle.net_core.specs.declared.gate.Wire.TheVariants as wire
use Rattle.net_core.specs.declared.gate.Gate as gate
use Rattle.net_core.specs.Circuits.{IsThere}
use Rattle.net_eval.specs.Assignments.{IsOrdered}
use Rattle.net_eval.proofs.Assigning.{all_there_more}
use Rattle.net_equiv.proofs.Visiting.{at_place}
use Rattle.net_equiv.specs.declared.answer.VarName.TheVariants.{Input}
use Rattle.net_equiv.specs.inner.Walking.{name_at, AreListed, IsVisited, PinsVisited}
use Rattle.bool_bdd.specs.declared.node.Node.{Node}
use Rattle.bool_bdd.specs.declared.node.Node.TheVariants.{Leaf}
use Rattle.bool_bdd.specs.declared.node.Branch.{Branch}
use Rattle.bool_bdd.specs.Diagrams.{node_holds, IsFor, IsNode, Keeps}
use Rattle.bool_bdd.proofs.Meaning.{holds_leaf}
use Rattle.net_core.specs.declared.gate.Wire.{Wire}
use Rattle.net_core.specs.Rows.{Row, differs, gate_value, value}
use Rattle.net_equiv.specs.inner.Standing.{node_at, View, AllReady, AreKnown, AreNodes, Fits, IsLeastApart, IsReady, Tells}

pub keeps_same : (a : List Branch) → Keeps a a
keeps_same a = record { there = λ n h. h; meaning = λ n h v. refl }

pub keeps_then : (a b c : List Branch) → Keeps a b → Keeps b c → Keeps a c
keeps_then a b c p q = record {
  there = λ n h. q.there n (p.there n h);
  meaning = λ n h v. q.meaning n (p.there n h) v ∙ p.meaning n h v;
}

pub tells_kept : (old new : List Branch) (view : View) (f : Row → Bool) (n : Node) → Keeps old new
    → Tells old view f n → Tells new view f n
tells_kept old new view f n k t = record {
  there = k.there n t.there;
  meaning = λ v z fit. k.meaning n t.there v ∙ t.meaning v z fit;
}

pub ready_kept : (old new : List Branch) (view : View) (known : List Node) (w : Wire) → Keeps old new
    → IsReady old view known w → IsReady new view known w
ready_kept old new view known w k r = record {
  there = r.there;
  leaf = r.leaf;
  gate = λ n e. tells_kept old new view (λ z. z.gates n) _ k (r.gate n e);
}

pub all_ready_kept : (old new : List Branch) (view : View) (known : List Node) (pins : List Wire) → Keeps old new
    → AllReady old view known pins → AllReady new view known pins
all_ready_kept old new view known pins k r =
    record { each = λ n w e. ready_kept old new view known w k (r.each n w e) }

-- ---- or, and exclusive or, by not and and

or_by : (a b : Bool) → not (not a && not b) ≡ (a || b)
or_by true b = refl
or_by false true = refl
or_by false false = refl

differs_by : (a b : Bool) → ((a || b) && not (a && b)) ≡ differs a b
differs_by true true = refl
differs_by true false = refl
differs_by false true = refl
differs_by false false = refl

pub either_for : (s0 s1 s2 s3 s4 : List Branch) (a b na nb m n : Node) → IsNode s0 b → Keeps s0 s1
    → IsFor s1 (λ v. not (node_holds s0 a v)) na → Keeps s1 s2 → IsFor s2 (λ v. not (node_holds s1 b v)) nb
    → IsFor s3 (λ v. node_holds s2 na v && node_holds s2 nb v) m
    → IsFor s4 (λ v. not (node_holds s3 m v)) n
    → IsFor s4 (λ v. node_holds s0 a v || node_holds s0 b v) n
either_for s0 s1 s2 s3 s4 a b na nb m n hb k1 fa k2 fb fm fn = record {
  there = fn.there;
  meaning = λ v.
      let left : node_holds s2 na v ≡ not (node_holds s0 a v) = k2.meaning na fa.there v ∙ fa.meaning v in
      let right : node_holds s2 nb v ≡ not (node_holds s0 b v) =
      fb.meaning v ∙ ap (λ (x : Bool). not x) (k1.meaning b hb v) in
      fn.meaning v ∙ (ap (λ (x : Bool). not x) (fm.meaning v)
      ∙ (ap (λ (x : Bool). not (x && node_holds s2 nb v)) left
      ∙ (ap (λ (x : Bool). not (not (node_holds s0 a v) && x)) right
      ∙ or_by (node_holds s0 a v) (node_holds s0 b v))));
}

pub unlike_for : (s0 s1 s2 s3 s4 : List Branch) (a b some both not_both n : Node) → IsNode s0 a → IsNode s0 b
    → Keeps s0 s1 → IsFor s1 (λ v. node_holds s0 a v || node_holds s0 b v) some
    → Keeps s1 s2 → IsFor s2 (λ v. node_holds s1 a v && node_holds s1 b v) both
    → Keeps s2 s3 → IsFor s3 (λ v. not (node_holds s2 both v)) not_both
    → IsFor s4 (λ v. node_holds s3 some v && node_holds s3 not_both v) n
    → IsFor s4 (λ v. differs (node_holds s0 a v) (node_holds s0 b v)) n
unlike_for s0 s1 s2 s3 s4 a b some both not_both n ha hb k1 fs k2 fb k3 fnb fn = record {
  there = fn.there;
  meaning = λ v.
      let x = node_holds s0 a v in
      let y = node_holds s0 b v in
      let one : node_holds s3 some v ≡ (x || y) =
      k3.meaning some (k2.there some fs.there) v ∙ (k2.meaning some fs.there v ∙ fs.meaning v) in
      let two : node_holds s2 both v ≡ (x && y) =
      fb.meaning v ∙ (ap (λ (u : Bool). u && node_holds s1 b v) (k1.meaning a ha v)
      ∙ ap (λ (u : Bool). x && u) (k1.meaning b hb v)) in
      let three : node_holds s3 not_both v ≡ not (x && y) = fnb.meaning v ∙ ap (λ (u : Bool). not u) two in
      fn.meaning v ∙ (ap (λ (u : Bool). u && node_holds s3 not_both v) one
      ∙ (ap (λ (u : Bool). (x || y) && u) three ∙ differs_by x y));
}

-- ---- folds over pins

-- the node joined with what is left is the whole
pub record Part (nodes : List Branch) (view : View) (join : Bool → Bool → Bool) (n : Node) (rest whole : Row → Bool)
    : Type 0 where
  pub there : IsNode nodes n
  pub meaning : (v : ℕ) (z : Row) → Fits view v z → join (node_holds nodes n v) (rest z) ≡ whole z

module _ (view : View) (join : Bool → Bool → Bool) (fold : Row → List Wire → Bool) where
  pub fold_begin : (nodes : List Branch) (b : Bool) (pins : List Wire) → ((x : Bool) → join b x ≡ x)
      → Part nodes view join (Leaf b) (λ z. fold z pins) (λ z. fold z pins)
  fold_begin nodes b pins unit = record {
    there = tt;
    meaning = λ v z fit.
        ap (λ (x : Bool). join x (fold z pins)) (holds_leaf nodes b v) ∙ unit (fold z pins);
  }

  pub fold_step : (s0 s1 s2 : List Branch) (pins : List Wire) (i : ℕ) (w : Wire) (n m n' : Node)
      → ((x y z : Bool) → join (join x y) z ≡ join x (join y z))
      → ((z : Row) (u : Wire) (us : List Wire) → fold z (u ∷ us) ≡ join (value z u) (fold z us))
      → drop i pins ≡ w ∷ drop (i + 1) pins
      → Part s0 view join n (λ z. fold z (drop i pins)) (λ z. fold z pins) → Keeps s0 s1
      → Tells s1 view (λ z. value z w) m
      → IsFor s2 (λ v. join (node_holds s1 n v) (node_holds s1 m v)) n'
      → Part s2 view join n' (λ z. fold z (drop (i + 1) pins)) (λ z. fold z pins)
  fold_step s0 s1 s2 pins i w n m n' assoc cons at p k t f = record {
    there = f.there;
    meaning = λ v z fit.
        let x = node_holds s0 n v in
        let later = fold z (drop (i + 1) pins) in
        ap (λ (u : Bool). join u later) (f.meaning v)
        ∙ (ap (λ (u : Bool). join (join u (node_holds s1 m v)) later) (k.meaning n p.there v)
        ∙ (ap (λ (u : Bool). join (join x u) later) (t.meaning v z fit)
        ∙ (assoc x (value z w) later
        ∙ (ap (λ (u : Bool). join x u) (sym (cons z w (drop (i + 1) pins)))
        ∙ (ap (λ (us : List Wire). join x (fold z us)) (sym at) ∙ p.meaning v z fit)))));
  }

  pub fold_end : (nodes : List Branch) (pins rest : List Wire) (n : Node) → rest ≡ []
      → ((x : Bool) (z : Row) → join x (fold z []) ≡ x)
      → Part nodes view join n (λ z. fold z rest) (λ z. fold z pins) → Tells nodes view (λ z. fold z pins) n
  fold_end nodes pins rest n none unit p = record {
    there = p.there;
    meaning = λ v z fit.
        sym (unit (node_holds nodes n v) z)
        ∙ (ap (λ (us : List Wire). join (node_holds nodes n v) (fold z us)) (sym none) ∙ p.meaning v z fit);
  }

pub and_assoc : (x y z : Bool) → ((x && y) && z) ≡ (x && (y && z))
and_assoc true y z = refl
and_assoc false y z = refl

pub or_assoc : (x y z : Bool) → ((x || y) || z) ≡ (x || (y || z))
or_assoc true y z = refl
or_assoc false y z = refl

not_differs : (y z : Bool) → differs (not y) z ≡ not (differs y z)
not_differs true true = refl
not_differs true false = refl
not_differs false true = refl
not_differs false false = refl

pub differs_assoc : (x y z : Bool) → differs (differs x y) z ≡ differs x (differs y z)
differs_assoc true y z = not_differs y z
differs_assoc false y z = refl

pub and_end : (x : Bool) → (x && true) ≡ x
and_end true = refl
and_end false = refl

pub or_end : (x : Bool) → (x || false) ≡ x
or_end true = refl
or_end false = refl

pub differs_end : (x : Bool) → differs x false ≡ x
differs_end true = refl
differs_end false = refl

-- ---- wires

pub const_tells : (nodes : List Branch) (view : View) (w : Wire) (b : Bool) → w ≡ wire.Const b
    → Tells nodes view (λ z. value z w) (Leaf b)
const_tells nodes view w b e = record {
  there = tt;
  meaning = λ v z fit. holds_leaf nodes b v ∙ sym (ap (λ (u : Wire). value z u) e);
}

pub reset_tells : (nodes : List Branch) (view : View) (w : Wire) → w ≡ wire.Reset
    → Tells nodes view (λ z. value z w) (Leaf view.reset)
reset_tells nodes view w e = record {
  there = tt;
  meaning = λ v z fit. holds_leaf nodes view.reset v ∙ (sym fit.reset ∙ sym (ap (λ (u : Wire). value z u) e));
}

pub input_tells : (nodes : List Branch) (view : View) (count : ℕ) (w : Wire) (k t : ℕ) (n : Node) → w ≡ wire.Input k
    → IsThere 64 (length view.names) count w → slice_get view.vars t ≡ Some (Input k) → IsFor nodes (bit t) n
    → Tells nodes view (λ z. value z w) n
input_tells nodes view count w k t n e h at f =
    let there : k < 64 = subst (λ (u : Wire). IsThere 64 (length view.names) count u) e h in
    record {
      there = f.there;
      meaning = λ v z fit.
          f.meaning v
          ∙ (sym (fit.leaves t (wire.Input k) (Input k) there refl at) ∙ sym (ap (λ (u : Wire). value z u) e));
    }

pub reg_tells : (nodes : List Branch) (view : View) (count : ℕ) (w : Wire) (k t : ℕ) (n : Node) → w ≡ wire.Reg k
    → IsThere 64 (length view.names) count w → slice_get view.vars t ≡ Some (name_at view.names k)
    → IsFor nodes (bit t) n → Tells nodes view (λ z. value z w) n
reg_tells nodes view count w k t n e h at f =
    let there : k < length view.names = subst (λ (u : Wire). IsThere 64 (length view.names) count u) e h in
    record {
      there = f.there;
      meaning = λ v z fit.
          f.meaning v
          ∙ (sym (fit.leaves t (wire.Reg k) (name_at view.names k) there refl at)
          ∙ sym (ap (λ (u : Wire). value z u) e));
    }

-- ---- pins in a list

pub drop_here : (pins : List Wire) (i : ℕ) → i < length pins
    → drop i pins ≡ get_or pins i (wire.Const false) ∷ drop (i + 1) pins
drop_here pins i h = rw (add-one, drop-cons pins i (wire.Const false)) refl

pub drop_past : (pins : List Wire) (i : ℕ) → length pins ≤ i → drop i pins ≡ []
drop_past [] zero h = refl
drop_past [] (suc i) h = refl
drop_past (x ∷ xs) zero h = absurd (omega arith)
drop_past (x ∷ xs) (suc i) h = drop_past xs i (omega arith)

pub ready_at : (old new : List Branch) (view : View) (known : List Node) (pins : List Wire) (i : ℕ) → Keeps old new
    → AllReady old view known pins → i < length pins → IsReady new view known (get_or pins i (wire.Const false))
ready_at old new view known pins i k ready h =
    ready_kept old new view known (get_or pins i (wire.Const false)) k
    (ready.each i (get_or pins i (wire.Const false)) (slice_get-get_or pins i (wire.Const false) h))

-- ---- the gates of a cone

module _ (view : View) (marks : List Bool) (f : List ℕ) where
  pub pins_ready : (nodes : List Branch) (known : List Node) (i n : ℕ) (g : gate.Gate)
      → IsOrdered 64 (length view.names) view.gates
      → PinsVisited view.gates (name_at view.names) 0 marks view.vars → AreListed marks f
      → IsNonDecreasingBy (λ t. t) f → length known ≡ length view.gates → AreKnown nodes view f i known
      → slice_get f i ≡ Some n → slice_get view.gates n ≡ Some g → AllReady nodes view known g.pins
  pins_ready nodes known i n g ordered visited listed sorted long ready here at = record {
    each = λ t w e.
        let there = (ordered.earlier n g at).each t w e in
        let seen =
        (visited.each n g (omega arith) (listed.back i n here) at).each w (record { place = t; at = e }) in
        let within = slice_get_within view.gates n g at in
        record {
          there = (all_there_more 64 (length view.names) n (length known) g.pins (omega arith)
              (ordered.earlier n g at)).each t w e;
          leaf = seen.added;
          gate = λ k s.
              let earlier : k < n = subst (λ (u : Wire). IsThere 64 (length view.names) n u) s there in
              let place = listed.each k (seen.marked k s) in
              ready.each place.0 k (before k place.0 earlier place.1 (at_place f k place)) (at_place f k place);
        };
  }
    where
      before : (k j : ℕ) → k < n → j < length f → slice_get f j ≡ Some k → j < i
      before k j earlier within e =
          elim (cases_lt j i) [
            | inl lt ↦ lt
            | inr ge ↦
                let order = sorted i j 0 ge within in
                let first = get_or_from_slice_get f i n 0 here in
                let second = get_or_from_slice_get f j k 0 e in
                absurd (omega arith)
          ]

  pub known_step : (s0 s1 : List Branch) (known : List Node) (i n : ℕ) (g : gate.Gate) (node : Node)
      → AreKnown s0 view f i known → Keeps s0 s1 → slice_get f i ≡ Some n → slice_get view.gates n ≡ Some g
      → n < length known → Tells s1 view (λ z. gate_value z g) node → AreKnown s1 view f (i + 1) (set known n node)
  known_step s0 s1 known i n g node ready keeps here at within tells =
      record { each = λ j k lt e. by j k lt e (cases_eq k n) }
    where
      older : (j k : ℕ) → j < i + 1 → slice_get f j ≡ Some k → (k ≡ n → ⊥) → j < i
      older j k lt e other =
          elim (cases_eq j i) [
            | inl same ↦ absurd (other (same_Some k n (sym e ∙ (ap (λ t. slice_get f t) same ∙ here))))
            | inr less ↦ omega arith
          ]

      by : (j k : ℕ) → j < i + 1 → slice_get f j ≡ Some k → (k ≡ n) ⊎ (k ≡ n → ⊥)
          → Tells s1 view (λ z. z.gates k) (node_at (set known n node) k)
      by j k lt e (inl same) =
          let at_k : slice_get view.gates k ≡ Some g = ap (λ t. slice_get view.gates t) same ∙ at in
          let is : node_at (set known n node) k ≡ node =
          ap (λ t. node_at (set known n node) t) same ∙ get_or-set_same known n node (Leaf false) within in
          subst (λ (x : Node). Tells s1 view (λ z. z.gates k) x) (sym is)
          (record {
            there = tells.there;
            meaning = λ v z fit. tells.meaning v z fit ∙ sym (fit.row.each k g at_k);
          })
      by j k lt e (inr other) =
          subst (λ (x : Node). Tells s1 view (λ z. z.gates k) x)
          (sym (get_or-set_other known n k node (Leaf false) other))
          (tells_kept s0 s1 view (λ z. z.gates k) (node_at known k) keeps (ready.each j k (older j k lt e other) e))

  pub nodes_all : (nodes : List Branch) (known : List Node) (i : ℕ) → length known ≡ length view.gates
      → AreListed marks f → length f ≤ i → AreKnown nodes view f i known → AreNodes nodes view marks known
  nodes_all nodes known i long listed past ready = record {
    long = long;
    each = λ k h.
        let place = listed.each k h in
        ready.each place.0 k (let l = place.1 in omega arith) (at_place f k place);
  }

  pub known_begin : (nodes : List Branch) (known : List Node) → AreKnown nodes view f 0 known
  known_begin nodes known = record { each = λ j k lt e. absurd (omega arith) }

-- the root of a cone whose nodes are known
pub root_ready : (nodes : List Branch) (view : View) (marks : List Bool) (known : List Node) (root : Wire)
    → IsThere 64 (length view.names) (length view.gates) root → IsVisited (name_at view.names) marks view.vars root
    → AreNodes nodes view marks known → IsReady nodes view known root
root_ready nodes view marks known root there seen ready = record {
  there = subst (λ k. IsThere 64 (length view.names) k root) (sym ready.long) there;
  leaf = seen.added;
  gate = λ k s. ready.each k (seen.marked k s);
}

-- ---- two wires

unlike_of : (a b c d : Bool) → a ≡ c → b ≡ d → differs a b ≡ differs c d
unlike_of a b c d e f = ap (λ (x : Bool). differs x b) e ∙ ap (λ (x : Bool). differs c x) f

pub least_told : (s0 s1 : List Branch) (va vb : View) (wa wb : Wire) (na nb n : Node) (answer : Option ℕ)
    → Tells s0 va (λ z. value z wa) na → Tells s0 vb (λ z. value z wb) nb
    → IsFor s1 (λ v. differs (node_holds s0 na v) (node_holds s0 nb v)) n → IsLeastOf s1 n answer
    → IsLeastApart va vb wa wb answer
least_told s0 s1 va vb wa wb na nb n None ta tb f least = record {
  same = λ v x y p q.
      sym (unlike_of (node_holds s0 na v) (node_holds s0 nb v) (value x wa) (value y wb) (ta.meaning v x p)
      (tb.meaning v y q))
      ∙ (sym (f.meaning v) ∙ least.never v);
}
least_told s0 s1 va vb wa wb na nb n (Some u) ta tb f least = record {
  unequal = λ x y p q.
      sym (unlike_of (node_holds s0 na u) (node_holds s0 nb u) (value x wa) (value y wb) (ta.meaning u x p)
      (tb.meaning u y q))
      ∙ (sym (f.meaning u) ∙ least.holds);
  least = λ v x y p q e.
      least.least v
      (f.meaning v
      ∙ (unlike_of (node_holds s0 na v) (node_holds s0 nb v) (value x wa) (value y wb) (ta.meaning v x p)
      (tb.meaning v y q) ∙ e));
}
