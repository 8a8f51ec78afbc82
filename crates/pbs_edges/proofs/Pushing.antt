-- One more place in a list of edges.
use Rattle.std.proofs.Common.{◌≡◌, ℕ, zero, suc, ◌+◌, ◌<◌, List, [], ◌∷◌, ◌++◌, length, get_or, take, refl, sym, ◌∙◌}
use Rattle.std.proofs.Common.{ap, arith, append_assoc, add-one}
use Rattle.pbs_edges.specs.Listed.{edges_to, edges_between}
use Rattle.pbs_edges.specs.declared.edge.Edge.{Edge}

to-take : (n p : ℕ) (qs : List ℕ) (i : ℕ) → i < length qs
    → edges_to n p (take (suc i) qs) ≡ edges_to n p (take i qs) ++
    (record { from = p; to = get_or qs i 0; node = n }) ∷ []
to-take n p [] i l = absurd (omega arith)
to-take n p (q ∷ qs) zero l = refl
to-take n p (q ∷ qs) (suc i) l =
    ap (λ ds. (record { from = p; to = q; node = n }) ∷ ds) (to-take n p qs i (omega arith))

append-nil : (ds : List Edge) → ds ++ [] ≡ ds
append-nil [] = refl
append-nil (d ∷ ds) = ap (λ fs. d ∷ fs) (append-nil ds)

between-take : (n : ℕ) (ps qs : List ℕ) (i : ℕ) → i < length ps
    → edges_between n (take (suc i) ps) qs ≡ edges_between n (take i ps) qs ++ edges_to n (get_or ps i 0) qs
between-take n [] qs i l = absurd (omega arith)
between-take n (p ∷ ps) qs zero l = simp append-nil
between-take n (p ∷ ps) qs (suc i) l =
    ap (λ ds. edges_to n p qs ++ ds) (between-take n ps qs i (omega arith))
    ∙ sym (append_assoc (edges_to n p qs) (edges_between n (take i ps) qs) (edges_to n (get_or ps i 0) qs))

-- an iteration that appends one edge
pub push_one : (n p : ℕ) (qs : List ℕ) (i : ℕ) (old out new : List Edge) (to : ℕ) → i < length qs → to ≡ get_or qs i 0
    → new ≡ out ++ (record { from = p; to = to; node = n }) ∷ [] → out ≡ old ++ edges_to n p (take i qs)
    → new ≡ old ++ edges_to n p (take (i + 1) qs)
push_one n p qs i old out new to l e f g =
    rw add-one (f ∙ ap (λ ds. ds ++ (record { from = p; to = to; node = n }) ∷ []) g
    ∙ append_assoc old (edges_to n p (take i qs)) ((record { from = p; to = to; node = n }) ∷ [])
    ∙ ap (λ x. old ++ (edges_to n p (take i qs) ++ (record { from = p; to = x; node = n }) ∷ [])) e
    ∙ ap (λ ds. old ++ ds) (sym (to-take n p qs i l)))

-- an iteration that appends the edges from one place
pub push_row : (n : ℕ) (ps qs : List ℕ) (i : ℕ) (old out new : List Edge) → i < length ps
    → new ≡ out ++ edges_to n (get_or ps i 0) qs → out ≡ old ++ edges_between n (take i ps) qs
    → new ≡ old ++ edges_between n (take (i + 1) ps) qs
push_row n ps qs i old out new l f g =
    rw add-one (f ∙ ap (λ ds. ds ++ edges_to n (get_or ps i 0) qs) g
    ∙ append_assoc old (edges_between n (take i ps) qs) (edges_to n (get_or ps i 0) qs)
    ∙ ap (λ ds. old ++ ds) (sym (between-take n ps qs i l)))
