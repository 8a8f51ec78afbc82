-- The table of joint terms tells which places' terms can be true in one vector.
use Rattle.std.proofs.Common.{◌≡◌, ℕ, zero, suc, ◌+◌, ◌*◌, ◌/◌, ◌%◌, ◌<◌, ◌≤◌, Bool, true, false, ◌&&◌, inl, inr, ◌↔◌}
use Rattle.std.proofs.Common.{List, []}
use Rattle.std.proofs.Common.{◌∷◌, length, get_or, Some, refl, sym, ◌∙◌, ap, subst, arith, IsTrue}
use Rattle.std.specs.Prelude.{slice_get}
use Rattle.std.proofs.lemmas.Bool.{cases_lt, cases_Bool, and_from, both_ways}
use Rattle.std.proofs.lemmas.Option.{same_Some}
use Rattle.std.proofs.lemmas.Nat.{div-mul-add, mod-mul-add, mul-add-lt}
use Rattle.bool_terms.specs.Terms.{holds, term_of, term_inputs_below}
use Rattle.bool_terms.specs.declared.Term as declared
use Rattle.bool_bdd.specs.Diagrams.{AreDisjoint, node_holds}
use Rattle.bool_bdd.specs.declared.node.Node.{Node}
use Rattle.bool_bdd.specs.declared.node.Branch.{Branch}
use Rattle.pbs_ast.specs.Trees.{Tree}
use Rattle.pbs_ast.specs.Sound.{place_count, IsCounted}
use Rattle.pbs_edges.specs.Codes.{AllMean, IsTermTable}
use Rattle.pbs_edges.specs.Found.{HasFewTerms}
use Rattle.pbs_edges.specs.Walks.{CanOpenTogether}
use Rattle.pbs_edges.specs.declared.terms.TermTable.{TermTable}
use Rattle.pbs_edges.proofs.FewTerms.{TellsTerm, term_of_place, numbers_of_places, many_terms}
use Rattle.pbs_overlap.specs.declared.joint.JointTerms.{JointTerms}
use Rattle.pbs_overlap.specs.inner.Joints.{node_at, joint_at, AllInputsBelow, AllNodes, AreNodes, AreTold, TellsJoint}
use Rattle.pbs_overlap.proofs.Pigeonhole.{not_few_and_many}
use Rattle.pbs_overlap.proofs.Vectors.{both_or_never}

pub inputs_below : (ws : List (List ℕ)) (ts : List declared.Term) → AllMean ws ts → AllInputsBelow ts
inputs_below [] [] h k t e = absurd (cc)
inputs_below [] (u ∷ ts) h k t e = absurd h
inputs_below (w ∷ ws) [] h k t e = absurd h
inputs_below (w ∷ ws) (u ∷ ts) h zero t e =
    subst (λ x. IsTrue (term_inputs_below 64 (term_of x))) (same_Some u t e) (h.0).inputs
inputs_below (w ∷ ws) (u ∷ ts) h (suc k) t e = inputs_below ws ts h.1 k t e

pub length-mean : (ws : List (List ℕ)) (ts : List declared.Term) → AllMean ws ts → length ws ≡ length ts
length-mean [] [] h = refl
length-mean [] (u ∷ ts) h = absurd h
length-mean (w ∷ ws) [] h = absurd h
length-mean (w ∷ ws) (u ∷ ts) h = ap suc (length-mean ws ts h.1)

pub few_codes : (main : Tree) (t : TermTable) → IsTermTable main t → HasFewTerms main 256 → length t.codes ≤ 256
few_codes main t h few = elim (cases_lt 256 (length t.codes)) [
  | inl l ↦ absurd (not_few_and_many main 256 few (many_terms main t h l))
  | inr g ↦ g
]

some_at : (ts : List declared.Term) (k : ℕ) → k < length ts → (t : declared.Term) × (slice_get ts k ≡ Some t)
some_at [] k l = absurd (omega arith)
some_at (t ∷ ts) zero l = (t, refl)
some_at (t ∷ ts) (suc k) l = some_at ts k (omega arith)

pub within_list : {A : Type 0} (ts : List A) (k : ℕ) (t : A) → slice_get ts k ≡ Some t → k < length ts
within_list [] k t h = absurd (cc)
within_list (u ∷ ts) zero t h = omega arith
within_list (u ∷ ts) (suc k) t h = let l = within_list ts k t h in omega arith

pub all_nodes : (store : List Branch) (ts : List declared.Term) (nodes : List Node) → AreNodes store ts nodes
    → AllNodes store nodes
all_nodes store ts nodes h k l =
    let size = h.size in
    let t = some_at ts k (omega arith) in
    (h.stand k t.0 (omega arith) t.1).there

module _ (main : Tree) (counted : IsCounted main) (t : TermTable) (store : List Branch) (nodes : List Node)
    (table : List Bool) (known : IsTermTable main t) (few : length t.codes ≤ 256) (stand : AreNodes store t.terms nodes)
    (told : AreTold store nodes (length nodes * length nodes) table) where
  number : ℕ → ℕ
  number p = get_or t.of_place p 0

  number_below : (p : ℕ) → p < place_count main → number p < length nodes
  unfolding number
  number_below p l =
      let u = term_of_place main t counted known few p l in
      let a = within_list t.terms (get_or t.of_place p 0) u.0 u.1 in
      let b = stand.size in omega arith

  -- the node of a place's term is true in the vectors that the place fits
  node_fits : (p : ℕ) → p < place_count main
      → (u : declared.Term) × TellsTerm main p u ×
      ((v : ℕ) → node_holds store (node_at nodes (number p)) v ≡ holds (term_of u) v)
  unfolding number
  node_fits p l =
      let u = term_of_place main t counted known few p l in (
        u.0,
        u.2,
        (stand.stand (get_or t.of_place p 0) u.0
            (within_list t.terms (get_or t.of_place p 0) u.0 u.1) u.1).meaning,
      )

  module _ (p q : ℕ) (in_p : p < place_count main) (in_q : q < place_count main) where
    cell : ℕ
    cell = number p * length nodes + number q

    told_here : (get_or table (number p * length nodes + number q) false ≡ false)
        ↔ AreDisjoint store (node_at nodes (number p)) (node_at nodes (number q))
    told_here =
        let a = number_below p in_p in
        let b = number_below q in_q in
        let row : (number p * length nodes + number q) / length nodes ≡ number p =
        div-mul-add (number p) (length nodes) (number q) b in
        let column : (number p * length nodes + number q) % length nodes ≡ number q =
        mod-mul-add (number p) (length nodes) (number q) b in
        let inside : number p * length nodes + number q < length nodes * length nodes =
        mul-add-lt (number p) (length nodes) (number q) (length nodes) a b in
        subst (λ k. (get_or table (number p * length nodes + number q) false ≡ false)
        ↔ AreDisjoint store (node_at nodes k) (node_at nodes (number q))) row
        (subst (λ k. (get_or table (number p * length nodes + number q) false ≡ false)
        ↔ AreDisjoint store (node_at nodes ((number p * length nodes + number q) / length nodes))
        (node_at nodes k)) column
        (told (number p * length nodes + number q) inside))

    open_from_table : get_or table (number p * length nodes + number q) false ≡ true → CanOpenTogether main p q
    open_from_table h =
        let a = node_fits p in_p in
        let b = node_fits q in_q in
        elim (both_or_never 64 (term_of a.0) (term_of b.0) (a.1).inputs (b.1).inputs) [
          | inl found ↦ (found.0, sym ((a.1).truth found.0) ∙ found.1, sym ((b.1).truth found.0) ∙ found.2)
          | inr never ↦
              let apart : AreDisjoint store (node_at nodes (number p)) (node_at nodes (number q)) = record {
                never = λ v. ap (λ x. x && node_holds store (node_at nodes (number q)) v) (a.2 v)
                    ∙ ap (λ x. holds (term_of a.0) v && x) (b.2 v) ∙ never v;
              } in
              absurd (both_ways (get_or table (number p * length nodes + number q) false) (told_here.1 apart) h)
        ]

    table_from_open : CanOpenTogether main p q → get_or table (number p * length nodes + number q) false ≡ true
    table_from_open h = elim (cases_Bool (get_or table (number p * length nodes + number q) false)) [
      | inl is_true ↦ is_true
      | inr is_false ↦
          let a = node_fits p in_p in
          let b = node_fits q in_q in
          let apart = told_here.0 is_false in
          absurd (both_ways (node_holds store (node_at nodes (number p)) h.0 && node_holds store
          (node_at nodes (number q)) h.0)
          (apart.never h.0)
          (and_from (node_holds store (node_at nodes (number p)) h.0) (node_holds store (node_at nodes (number q)) h.0)
          (a.2 h.0 ∙ ((a.1).truth h.0 ∙ h.1)) (b.2 h.0 ∙ ((b.1).truth h.0 ∙ h.2))))
    ]

  pub tells_joint : (j : JointTerms) → j.of_place ≡ t.of_place → j.count ≡ length nodes → j.joint.items ≡ table
      → length table ≡ length nodes * length nodes → TellsJoint main j
  unfolding number
  tells_joint j places count items size =
      let n : length t.of_place ≡ place_count main = numbers_of_places main t known few in
      let m : length t.codes ≡ length t.terms = length-mean t.codes t.terms known.mean in
      let o = stand.size in
      record {
        size = ap (λ xs. length xs) places ∙ n;
        count = omega arith;
        below = λ p l. subst (λ xs. get_or xs p 0 < j.count) (sym places) (let b = number_below p l in omega arith);
        table = ap (λ xs. length xs) items ∙ size ∙ sym (ap (λ k. k * k) count);
        exact = λ p q a b.
            let same : joint_at j p q ≡ get_or table
            (get_or t.of_place p 0 * length nodes + get_or t.of_place q 0) false =
            rw (places, count, items) refl in
            ((λ h. open_from_table p q a b (sym same ∙ h)), (λ h. same ∙ table_from_open p q a b h));
      }

pub few_nodes : (main : Tree) (t : TermTable) (nodes : List Node) (store : List Branch) → IsTermTable main t
    → HasFewTerms main 256 → AreNodes store t.terms nodes → length nodes ≤ 256
few_nodes main t nodes store h few stand =
    let a = few_codes main t h few in
    let b = length-mean t.codes t.terms h.mean in
    let c = stand.size in omega arith
