-- A store with one branch more.
use Rattle.std.proofs.Common.{◌≡◌, ◌⊎◌, inl, inr, ℕ, ◌<◌, ◌≤◌, ◌+◌, Bool, true, false, if◌then◌else◌, List, [], ◌∷◌}
use Rattle.std.proofs.Common.{◌++◌, length, Option, Some, None, refl, sym, ap, subst, ◌∙◌, arith}
use Rattle.std.proofs.lemmas.Bool.{cases_eq}
use Rattle.std.specs.Prelude.{slice_get, cond}
use Rattle.std.specs.List.{list_any}
use Rattle.std.proofs.lemmas.Option.{same_Some, get_or_from_slice_get}
use Rattle.std.proofs.lemmas.List.{get_or_append_left, get_or_push, length_push}
use Rattle.indexmap.specs.IndexSet.{insert_key}
use Rattle.bool_bdd.specs.declared.node.Node.{Node}
use Rattle.bool_bdd.specs.declared.node.Node.TheVariants.{Inner}
use Rattle.bool_bdd.specs.declared.node.Branch.{Branch}
use Rattle.bool_bdd.specs.declared.node.Choice.{Choice}
use Rattle.bool_bdd.specs.Members.{branch_eq, choice_eq, node_eq}
use Rattle.bool_bdd.specs.Diagrams.{branch_at, next_of, node_holds}
use Rattle.bool_bdd.specs.Diagrams.{FitsAt, IsDiagram, Grows, IsAfter, IsMade, IsNode}
use Rattle.bool_bdd.specs.Choices.{AreLeasts, IsChosen, IsStore}
use Rattle.bool_bdd.specs.Least.{IsLeastOf}
use Rattle.bool_bdd.proofs.Alike.{same_branch, same_choice, same_node}
use Rattle.bool_bdd.proofs.Meaning.{among_more, level_grown, node_grown, holds_grown, holds_inner}

grows_same : (nodes : List Branch) → Grows nodes nodes
grows_same nodes = record { longer = omega arith; same = λ k h. refl }

length_more : (nodes : List Branch) (x : Branch) → length (nodes ++ x ∷ []) ≡ length nodes + 1
length_more nodes x = length_push nodes x

grows_more : (nodes : List Branch) (x : Branch) → Grows nodes (nodes ++ x ∷ [])
grows_more nodes x = record {
  longer = omega (arith, length_more nodes x);
  same = λ k h. get_or_append_left nodes (x ∷ []) _ k h;
}

pub grows_insert : (nodes : List Branch) (x : Branch) → Grows nodes (insert_key branch_eq nodes x)
grows_insert nodes x = by (list_any (branch_eq x) nodes)
  where
    by : (t : Bool) → Grows nodes (if t then nodes else nodes ++ x ∷ [])
    by true = grows_same nodes
    by false = grows_more nodes x

fits_grown : (old new : List Branch) (k : ℕ) (x : Branch) → Grows old new → k ≤ length old → FitsAt old k x
    → FitsAt new k x
fits_grown old new k x g h f = record {
  variable = f.variable;
  low_there = f.low_there;
  high_there = f.high_there;
  low_later =
      let e = level_grown old new x.low g (among_more k (length old) x.low h f.low_there) in
      let l = f.low_later in
      omega arith;
  high_later =
      let e = level_grown old new x.high g (among_more k (length old) x.high h f.high_there) in
      let l = f.high_later in
      omega arith;
}

diagram_more : (nodes : List Branch) (x : Branch) → IsDiagram nodes → FitsAt nodes (length nodes) x
    → IsDiagram (nodes ++ x ∷ [])
diagram_more nodes x d f = record { each = λ k h. one k h (cases_eq k (length nodes)) }
  where
    new : List Branch
    new = nodes ++ x ∷ []

    one : (k : ℕ) → k < length new → (k ≡ length nodes) ⊎ (k ≡ length nodes → ⊥) → FitsAt new k (branch_at new k)
    one k h (inl e) =
        let here : branch_at new k ≡ x = get_or_push nodes x _ k (sym e) in
        subst (λ (y : Branch). FitsAt new k y) (sym here)
        (fits_grown nodes new k x (grows_more nodes x) (omega arith) (subst (λ n. FitsAt nodes n x) (sym e) f))
    one k h (inr e) =
        let below : k < length nodes = let l = length_more nodes x in omega arith in
        subst (λ (y : Branch). FitsAt new k y) (sym ((grows_more nodes x).same k below))
        (fits_grown nodes new k (branch_at nodes k) (grows_more nodes x) (omega arith) (d.each k below))

pub diagram_insert : (nodes : List Branch) (x : Branch) → IsDiagram nodes → x.variable < 64
    → IsAfter nodes x.variable x.low
    → IsAfter nodes x.variable x.high → IsDiagram (insert_key branch_eq nodes x)
diagram_insert nodes x d v p q = by (list_any (branch_eq x) nodes)
  where
    by : (t : Bool) → IsDiagram (if t then nodes else nodes ++ x ∷ [])
    by true = d
    by false = diagram_more nodes x d (record {
      variable = v;
      low_there = p.there;
      high_there = q.there;
      low_later = p.later;
      high_later = q.later;
    })

pub chosen_grown : (old new : List Branch) (c : Choice) (n : Node) → IsDiagram old → Grows old new → IsChosen old c n
    → IsChosen new c n
chosen_grown old new c n d g h =
    let a = h.asked in
    let test = level_grown old new c.test g a.test in
    let true_level = level_grown old new c.if_true g a.if_true in
    let false_level = level_grown old new c.if_false g a.if_false in
    record {
      asked = record {
        test = node_grown old new c.test g a.test;
        if_true = node_grown old new c.if_true g a.if_true;
        if_false = node_grown old new c.if_false g a.if_false;
      };
      there = node_grown old new n g h.there;
      later = rw (test, true_level, false_level, level_grown old new n g h.there) h.later;
      meaning = λ v.
          let node = holds_grown old new n v d g h.there in
          let test_holds = holds_grown old new c.test v d g a.test in
          let true_holds = holds_grown old new c.if_true v d g a.if_true in
          let false_holds = holds_grown old new c.if_false v d g a.if_false in
          rw (node, test_holds, true_holds, false_holds) (h.meaning v);
    }

-- a least vector stays that of its node
least_grown : (old new : List Branch) (n : Node) (answer : Option ℕ) → IsDiagram old → Grows old new → IsNode old n
    → IsLeastOf old n answer → IsLeastOf new n answer
least_grown old new n None d g h is = record { never = λ v. holds_grown old new n v d g h ∙ is.never v }
least_grown old new n (Some v) d g h is = record {
  holds = holds_grown old new n v d g h ∙ is.holds;
  least = λ w e. is.least w (sym (holds_grown old new n w d g h) ∙ e);
}

leasts_grown : (old new : List Branch) (kept : Node → Option (Option ℕ)) → IsDiagram old → Grows old new
    → AreLeasts old kept → AreLeasts new kept
leasts_grown old new kept d g l = record {
  there = λ n answer e. node_grown old new n g (l.there n answer e);
  right = λ n answer e. least_grown old new n answer d g (l.there n answer e) (l.right n answer e);
}

-- what a store keeps is right after a branch more
pub store_insert : (nodes : List Branch) (x : Branch) (known : Choice → Option Node) (kept : Node → Option (Option ℕ))
    → IsStore nodes known kept → x.variable < 64
    → IsAfter nodes x.variable x.low → IsAfter nodes x.variable x.high → IsStore (insert_key branch_eq nodes x) known kept
store_insert nodes x known kept s v p q = record {
  diagram = diagram_insert nodes x s.diagram v p q;
  right =
      λ c n e. chosen_grown nodes (insert_key branch_eq nodes x) c n s.diagram (grows_insert nodes x) (s.right c n e);
  leasts = leasts_grown nodes (insert_key branch_eq nodes x) kept s.diagram (grows_insert nodes x) s.leasts;
}

-- and after an answer more
pub store_keep : (nodes : List Branch) (old new : Choice → Option Node) (kept : Node → Option (Option ℕ)) (c : Choice)
    (n : Node) → IsStore nodes old kept → IsChosen nodes c n
    → ((q : Choice) → new q ≡ cond (choice_eq c q) (Some n) (old q)) → IsStore nodes new kept
store_keep nodes old new kept c n s h more = record {
  diagram = s.diagram;
  right = λ q m e. by q m (choice_eq c q) refl (sym (more q) ∙ e);
  leasts = s.leasts;
}
  where
    by : (q : Choice) (m : Node) (t : Bool) → choice_eq c q ≡ t → cond t (Some n) (old q) ≡ Some m → IsChosen nodes q m
    by q m true same e =
        subst (λ (y : Node). IsChosen nodes q y) (same_Some n m e)
        (subst (λ (y : Choice). IsChosen nodes y n) (same_choice c q same) h)
    by q m false same e = s.right q m e

-- and after a least vector more
pub store_keep_least : (nodes : List Branch) (known : Choice → Option Node) (old new : Node → Option (Option ℕ)) (n : Node)
    (answer : Option ℕ) → IsStore nodes known old → IsNode nodes n → IsLeastOf nodes n answer
    → ((m : Node) → new m ≡ cond (node_eq n m) (Some answer) (old m)) → IsStore nodes known new
store_keep_least nodes known old new n answer s h is more = record {
  diagram = s.diagram;
  right = s.right;
  leasts = record {
    there = λ m other e. there m other (node_eq n m) refl (sym (more m) ∙ e);
    right = λ m other e. right m other (node_eq n m) refl (sym (more m) ∙ e);
  };
}
  where
    there : (m : Node) (other : Option ℕ) (t : Bool) → node_eq n m ≡ t → cond t (Some answer) (old m) ≡ Some other
        → IsNode nodes m
    there m other true same e = subst (λ (y : Node). IsNode nodes y) (same_node n m same) h
    there m other false same e = s.leasts.there m other e

    right : (m : Node) (other : Option ℕ) (t : Bool) → node_eq n m ≡ t → cond t (Some answer) (old m) ≡ Some other
        → IsLeastOf nodes m other
    right m other true same e =
        subst (λ (y : Option ℕ). IsLeastOf nodes m y) (same_Some answer other e)
        (subst (λ (y : Node). IsLeastOf nodes y answer) (same_node n m same) is)
    right m other false same e = s.leasts.right m other e

pub made_insert : (new : List Branch) (x : Branch) (n : ℕ) → IsDiagram new → n < length new
    → (y : Branch) × (slice_get new n ≡ Some y) × (branch_eq x y ≡ true) → IsMade new x (Inner n)
made_insert new x n d h stored =
    let y = stored.0 in
    let here : branch_at new n ≡ x = get_or_from_slice_get new n y _ stored.1 ∙ sym (same_branch x y stored.2) in
    record {
      there = h;
      later = let e = ap (λ (b : Branch). b.variable) here in omega arith;
      meaning = λ v. holds_inner new n v d h ∙ ap (λ (b : Branch). node_holds new (next_of b v) v) here;
    }
