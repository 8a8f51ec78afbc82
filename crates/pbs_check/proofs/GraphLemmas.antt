-- The table of uses.
use Rattle.std.proofs.Common.{◌≡◌, ◌<◌, ◌≢◌, ◌+◌, ℕ, zero, suc, ◌⊎◌, inl, inr, List, [], ◌∷◌, ◌++◌, length, drop}
use Rattle.std.proofs.Common.{get_or, set, Option, Some, refl, sym, ap, subst, ◌∙◌, arith, append_assoc}
use Rattle.std.specs.Global.{Vec}
use Rattle.std.specs.Prelude.{Contains, slice_get, Result, Ok, Err, OnOk}
use Rattle.std.proofs.lemmas.Bool.Decides.{eqb_tells}
use Rattle.std.proofs.lemmas.List.Elements.{Contains-append_cases, Contains-append_left, Contains-append_right}
use Rattle.pbs_ast.proofs.Items.{first_item, no_item, item_cases}
use Rattle.pbs_ast.specs.declared.syntax.Expr.{Expr}
use Rattle.pbs_ast.specs.declared.syntax.Kind.{Seq, Choice}
use Rattle.pbs_names.specs.Forms.{form, form_of}
use Rattle.pbs_check.specs.declared.graph.Link.{Link}
use Rattle.pbs_check.specs.inner.Links.{own_links, links_in, HasNext, By}
use Rattle.pbs_check.specs.inner.Walking.{below_kind, inside, inside_all}
use Rattle.pbs_check.proofs.WalkLemmas.{item_at, below_seq, below_choice}

pub on_ok : {X E : Type 0} {P Q : Type 0} (r : Result X E) → OnOk r P → (P → Q) → OnOk r Q
on_ok (Ok x) p step = step p
on_ok (Err e) p step = tt

pub links_append : (number : List ℕ → Option ℕ) (xs ys : List Expr)
    → links_in number (xs ++ ys) ≡ links_in number xs ++ links_in number ys
links_append number [] ys = refl
links_append number (e ∷ xs) ys =
    ap (λ ls. own_links number e.span (form e) ++ ls) (links_append number xs ys)
    ∙ sym (append_assoc (own_links number e.span (form e)) (links_in number xs) (links_in number ys))

pub seq_links : (number : List ℕ → Option ℕ) (e : Expr) (items : List Expr) → e.kind ≡ Seq items
    → links_in number (inside_all items) ≡ links_in number (inside e)
seq_links number e items is =
    sym (ap (λ ls. ls ++ links_in number (below_kind e.kind)) (ap (λ k. own_links number e.span (form_of k)) is)
    ∙ ap (links_in number) (below_seq e items is))

pub choice_links : (number : List ℕ → Option ℕ) (e : Expr) (items : List Expr) → e.kind ≡ Choice items
    → links_in number (inside_all items) ≡ links_in number (inside e)
choice_links number e items is =
    sym (ap (λ ls. ls ++ links_in number (below_kind e.kind)) (ap (λ k. own_links number e.span (form_of k)) is)
    ∙ ap (links_in number) (below_choice e items is))

pub three_links : (number : List ℕ → Option ℕ) (xs ys zs : List Expr) (old a b c : List Link)
    → a ≡ old ++ links_in number xs → b ≡ a ++ links_in number ys → c ≡ b ++ links_in number zs
    → c ≡ old ++ links_in number (xs ++ (ys ++ zs))
three_links number xs ys zs old a b c p q r =
    r ∙ ap (λ ls. ls ++ links_in number zs) (q ∙ ap (λ ls. ls ++ links_in number ys) p)
    ∙ append_assoc (old ++ links_in number xs) (links_in number ys) (links_in number zs)
    ∙ append_assoc old (links_in number xs) (links_in number ys ++ links_in number zs)
    ∙ ap (λ ls. old ++ ls) (sym (links_append number xs (ys ++ zs)
    ∙ ap (λ ls. links_in number xs ++ ls) (links_append number ys zs)))

-- one item more
pub links_step : (number : List ℕ → Option ℕ) (es : List Expr) (i : ℕ) (e : Expr) (old new all : List Link)
    → i < length es → e ≡ get_or es i e → old ++ links_in number (inside_all (drop i es)) ≡ all
    → new ≡ old ++ links_in number (inside e) → new ++ links_in number (inside_all (drop (i + 1) es)) ≡ all
links_step number es i e old new all within is so_far grown =
    ap (λ ls. ls ++ links_in number (inside_all (drop (i + 1) es))) grown
    ∙ append_assoc old (links_in number (inside e)) (links_in number (inside_all (drop (i + 1) es)))
    ∙ ap (λ ls. old ++ ls) (sym (ap (λ xs. links_in number (inside_all xs)) (item_at es i e within is)
    ∙ links_append number (inside e) (inside_all (drop (i + 1) es)))) ∙ so_far

-- ---- lists at numbers
pub get_set_same : {X : Type 0} (xs : List X) (i : ℕ) (x : X) → i < length xs → slice_get (set xs i x) i ≡ Some x
get_set_same [] i x within = absurd (omega (arith, within))
get_set_same (y ∷ xs) zero x within = refl
get_set_same (y ∷ xs) (suc i) x within = get_set_same xs i x (omega (arith, within))

pub get_set_other : {X : Type 0} (xs : List X) (i k : ℕ) (x : X) → k ≢ i → slice_get (set xs i x) k ≡ slice_get xs k
get_set_other [] i k x other = refl
get_set_other (y ∷ xs) zero zero x other = absurd (other refl)
get_set_other (y ∷ xs) zero (suc k) x other = refl
get_set_other (y ∷ xs) (suc i) zero x other = refl
get_set_other (y ∷ xs) (suc i) (suc k) x other = get_set_other xs i k x (λ e. other (ap suc e))

pub get_at : {X : Type 0} (xs : List X) (i : ℕ) (x : X) → i < length xs → x ≡ get_or xs i x → slice_get xs i ≡ Some x
get_at [] i x within is = absurd (omega (arith, within))
get_at (y ∷ xs) zero x within is = ap Some (sym is)
get_at (y ∷ xs) (suc i) x within is = get_at xs i x (omega (arith, within)) is

-- ---- one user more
pub user_kept : (users : List (Vec ℕ)) (used user : ℕ) (old new : Vec ℕ) → used < length users
    → old ≡ get_or users used old → new.items ≡ old.items ++ user ∷ []
    → (k u : ℕ) → HasNext users k u → HasNext (set users used new) k u
user_kept users used user old new within is grown k u (By {v = v} at here) = elim (eqb_tells k used) [
  | inl (_, same) ↦
      let there : Some old ≡ Some v = sym (get_at users used old within is) ∙ sym (ap (slice_get users) same) ∙ at in
      let e : old ≡ v = cc in
      let P : List ℕ → Type 0 = λ xs. Contains xs u in let Q : Vec ℕ → Type 0 = λ w. Contains w.items u in
      By (ap (slice_get (set users used new)) same ∙ get_set_same users used new within)
      (subst P (sym grown) (Contains-append_left old.items (user ∷ []) u (subst Q (sym e) here)))
  | inr (_, other) ↦ By (get_set_other users used k new other ∙ at) here
]

pub user_added : (users : List (Vec ℕ)) (used user : ℕ) (old new : Vec ℕ) → used < length users
    → new.items ≡ old.items ++ user ∷ [] → HasNext (set users used new) used user
user_added users used user old new within grown =
    let P : List ℕ → Type 0 = λ xs. Contains xs user in
    By (get_set_same users used new within) (subst P (sym grown)
    (Contains-append_right old.items (user ∷ []) user (first_item user [])))

pub user_only : (users : List (Vec ℕ)) (used user : ℕ) (old new : Vec ℕ) → used < length users
    → old ≡ get_or users used old → new.items ≡ old.items ++ user ∷ []
    → (k u : ℕ) → HasNext (set users used new) k u → HasNext users k u ⊎ ((k ≡ used) × (u ≡ user))
user_only users used user old new within is grown k u (By {v = v} at here) = elim (eqb_tells k used) [
  | inl (_, same) ↦
      let there : Some new ≡ Some v = sym (get_set_same users used new within)
      ∙ sym (ap (slice_get (set users used new)) same) ∙ at in let e : new ≡ v = cc in
      let Q : Vec ℕ → Type 0 = λ w. Contains w.items u in let P : List ℕ → Type 0 = λ xs. Contains xs u in
      elim (Contains-append_cases old.items (user ∷ []) u (subst P grown (subst Q (sym e) here))) [
        | inl before ↦ inl (By (ap (slice_get users) same ∙ get_at users used old within is) before)
        | inr last ↦ elim (item_cases user [] last) [
          | inl this ↦ inr (same, sym this)
          | inr more ↦ absurd (no_item more)
        ]
      ]
  | inr (_, other) ↦ inl (By (sym (get_set_other users used k new other) ∙ at) here)
]

-- ---- the table of uses
