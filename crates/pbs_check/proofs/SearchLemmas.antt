-- A search goes on, and ends with all that can be reached.
use Rattle.std.proofs.Common.{◌≡◌, ◌≤◌, ◌<◌, ◌≢◌, ◌+◌, ℕ, zero, suc, Bool, true, false, not, cond, ◌⊎◌, inl, inr, List}
use Rattle.std.proofs.Common.{[], ◌∷◌, ◌++◌, length, set, take, get_or, Option, Some, None, refl, sym, ap, subst, ◌∙◌}
use Rattle.std.proofs.Common.{arith, length-append, length-set}
use Rattle.std.specs.Global.{Vec}
use Rattle.std.specs.Prelude.{Contains, slice_get, nat_eq}
use Rattle.std.specs.List.{count_by}
use Rattle.std.specs.Option.{option_eq}
use Rattle.std.proofs.lemmas.Option.{slice_get_within}
use Rattle.std.proofs.lemmas.Bool.Decides.{eqb_tells}
use Rattle.std.proofs.lemmas.List.{get_or-set_same, get_or-set_other}
use Rattle.std.proofs.lemmas.List.Sums.{sum_by-cons, sum_by-set}
use Rattle.std.proofs.lemmas.List.Elements.{Contains-append_cases, Contains-append_left, Contains-append_right}
use Rattle.pbs_ast.proofs.Items.{first_item, later_item, no_item, item_cases}
use Rattle.pbs_check.specs.declared.searching.Search.{Search}
use Rattle.pbs_check.specs.inner.Links.{HasNext, By}
use Rattle.pbs_check.specs.inner.Searching.{LeadsBy, Stay, Onward, IsMarked, Spreads, is_other, IsSearch, Grows}
use Rattle.pbs_check.proofs.LeastLemmas.{below_cases}
use Rattle.pbs_check.proofs.UserLemmas.{taken_cases, take_whole}

pub get_first : {X : Type 0} (xs ys : List X) (m : ℕ) (x : X) → slice_get xs m ≡ Some x
    → slice_get (xs ++ ys) m ≡ Some x
get_first [] ys m x is = cc
get_first (y ∷ xs) ys zero x is = is
get_first (y ∷ xs) ys (suc m) x is = get_first xs ys m x is

-- ---- marks that are the same, and those of one root
pub same_mark : (a b : Option ℕ) → option_eq nat_eq a b ≡ true → a ≡ b
same_mark None None h = refl
same_mark None (Some n) h = cc
same_mark (Some m) None h = cc
same_mark (Some m) (Some n) h = elim (eqb_tells m n) [
  | inl (_, same) ↦ ap Some same
  | inr (is, _) ↦ let clash : true ≡ false = sym h ∙ is in cc
]

pub mark_same : (a : Option ℕ) → option_eq nat_eq a a ≡ true
mark_same None = refl
mark_same (Some n) = elim (eqb_tells n n) [
  | inl (is, _) ↦ is
  | inr (_, other) ↦ absurd (other refl)
]

one_less : (root : ℕ) (marks : List (Option ℕ)) (i : ℕ) → i < length marks
    → option_eq nat_eq (get_or marks i None) (Some root) ≡ false
    → count_by (is_other root) (set marks i (Some root)) + 1 ≡ count_by (is_other root) marks
one_less root marks i within other =
    let changed = sum_by-set (λ m. cond (is_other root m) 1 0) marks i (Some root) None within in
    let P : Bool → ℕ = λ b. cond (not b) 1 0 in let one = ap P other in let none = ap P (mark_same (Some root)) in
    omega (arith, changed, one, none)

none_counted : (root : ℕ) (marks : List (Option ℕ)) → ((k : ℕ) → IsMarked marks root k → ⊥)
    → count_by (is_other root) marks ≡ length marks
none_counted root [] none = refl
none_counted root (m ∷ marks) none =
    chosen (option_eq nat_eq m (Some root)) refl (none_counted root marks (λ k is. none (suc k) is))
  where
    chosen : (b : Bool) → option_eq nat_eq m (Some root) ≡ b → count_by (is_other root) marks ≡ length marks
        → count_by (is_other root) (m ∷ marks) ≡ suc (length marks)
    chosen true is rest = absurd (none zero (same_mark m (Some root) is))
    chosen false is rest =
        let step = sum_by-cons (λ x. cond (is_other root x) 1 0) m marks in
        let P : Bool → ℕ = λ b. cond (not b) 1 0 in let one = ap P is in omega (arith, step, one, rest)

-- one more
pub grows_one : (root : ℕ) (old new : Search) (n : ℕ) → n < length old.marks.items
    → option_eq nat_eq (get_or old.marks.items n None) (Some root) ≡ false
    → new.marks.items ≡ set old.marks.items n (Some root) → new.reached.items ≡ old.reached.items ++ n ∷ []
    → Grows root (λ k. k ≡ n) old new
grows_one root old new n within unmarked set_there pushed = record {
  kept = λ m k is. ap (λ xs. slice_get xs m) pushed ∙ get_first old.reached.items (n ∷ []) m k is;
  marks = λ k is. marks_kept k is;
  others = λ k. elim (eqb_tells k n) [
    | inl (_, same) ↦ let P : ℕ → Type 0 = IsMarked new.marks.items root in inr (subst P (sym same) this_marked)
    | inr (_, other) ↦ inl (other_mark k other)
  ];
  only = λ k here. let P : List ℕ → Type 0 = λ xs. Contains xs k in
      last k (Contains-append_cases old.reached.items (n ∷ []) k (subst P pushed here));
  search = λ before. record {
    marked = λ k is. back k is before;
    reached = λ k here. let P : List ℕ → Type 0 = λ xs. Contains xs k in
        forth k before (last k (Contains-append_cases old.reached.items (n ∷ []) k (subst P pushed here)));
    count =
        let counted = ap (count_by (is_other root)) set_there in
        let less = one_less root old.marks.items n within unmarked in
        let long = ap length pushed ∙ length-append old.reached.items (n ∷ []) in
        let same = ap length set_there ∙ length-set old.marks.items n (Some root) in
        omega (arith, counted, less, long, same, before.count);
  };
  size = ap length set_there ∙ length-set old.marks.items n (Some root);
}
  where
    this_marked : IsMarked new.marks.items root n
    this_marked = ap (λ xs. get_or xs n None) set_there ∙ get_or-set_same old.marks.items n (Some root) None within

    other_mark : (k : ℕ) → k ≢ n → get_or new.marks.items k None ≡ get_or old.marks.items k None
    other_mark k other = ap (λ xs. get_or xs k None) set_there
        ∙ get_or-set_other old.marks.items n k (Some root) None other

    marks_kept : (k : ℕ) → IsMarked old.marks.items root k → IsMarked new.marks.items root k
    marks_kept k is = elim (eqb_tells k n) [
      | inl (_, same) ↦ let P : ℕ → Type 0 = IsMarked new.marks.items root in subst P (sym same) this_marked
      | inr (_, other) ↦ other_mark k other ∙ is
    ]

    last : (k : ℕ) → Contains old.reached.items k ⊎ Contains (n ∷ []) k → Contains old.reached.items k ⊎ (k ≡ n)
    last k (inl before) = inl before
    last k (inr here) = elim (item_cases n [] here) [ inl this ↦ inr (sym this) | inr more ↦ absurd (no_item more) ]

    back : (k : ℕ) → IsMarked new.marks.items root k → IsSearch root old → Contains new.reached.items k
    back k is before = let P : List ℕ → Type 0 = λ xs. Contains xs k in subst P (sym pushed) (elim (eqb_tells k n) [
      | inl (_, same) ↦ let Q : ℕ → Type 0 = Contains (old.reached.items ++ n ∷ []) in
          subst Q (sym same) (Contains-append_right old.reached.items (n ∷ []) n (first_item n []))
      | inr (_, other) ↦ Contains-append_left old.reached.items (n ∷ []) k
          (before.marked k (sym (other_mark k other) ∙ is))
    ])

    forth : (k : ℕ) → IsSearch root old → Contains old.reached.items k ⊎ (k ≡ n) → IsMarked new.marks.items root k
    forth k before (inl here) = marks_kept k (before.reached k here)
    forth k before (inr same) = let P : ℕ → Type 0 = IsMarked new.marks.items root in subst P (sym same) this_marked

pub grows_same : (root : ℕ) (Q : ℕ → Type 0) (s : Search) → Grows root Q s s
grows_same root Q s = record {
  kept = λ m k is. is;
  marks = λ k is. is;
  others = λ k. inl refl;
  only = λ k here. inl here;
  search = λ is. is;
  size = refl;
}

pub grows_as : (root : ℕ) (P Q : ℕ → Type 0) (old new : Search) → ((k : ℕ) → P k → Q k) → Grows root P old new
    → Grows root Q old new
grows_as root P Q old new step g = record {
  kept = g.kept;
  marks = g.marks;
  others = g.others;
  only = λ k here. elim (g.only k here) [ inl before ↦ inl before | inr is ↦ inr (step k is) ];
  search = g.search;
  size = g.size;
}

pub grows_on : (root : ℕ) (Q : ℕ → Type 0) (a b c : Search) → Grows root Q a b → Grows root Q b c → Grows root Q a c
grows_on root Q a b c first second = record {
  kept = λ m k is. second.kept m k (first.kept m k is);
  marks = λ k is. second.marks k (first.marks k is);
  others = λ k. elim (second.others k) [
    | inl same ↦ elim (first.others k) [
      | inl before ↦ inl (same ∙ before)
      | inr is ↦ inr (second.marks k is)
    ]
    | inr is ↦ inr is
  ];
  only = λ k here. elim (second.only k here) [ inl before ↦ first.only k before | inr is ↦ inr is ];
  search = λ is. second.search (first.search is);
  size = second.size ∙ first.size;
}

-- ---- the numbers of one list, as far as they were looked at
pub record MarksTo (root : ℕ) (list : List ℕ) (labels : List (Option ℕ)) (label : Option ℕ) (n : ℕ)
    (old new : Search) : Type 0 where
  pub grows : Grows root (λ k. Contains list k × (slice_get labels k ≡ Some label)) old new
  pub marked : (k : ℕ) → Contains (take n list) k → slice_get labels k ≡ Some label → k < length old.marks.items
      → IsMarked new.marks.items root k

pub marks_none : (root : ℕ) (list : List ℕ) (labels : List (Option ℕ)) (label : Option ℕ) (s : Search)
    → MarksTo root list labels label 0 s s
marks_none root list labels label s = record {
  grows = grows_same root (λ k. Contains list k × (slice_get labels k ≡ Some label)) s;
  marked = λ k here is within. absurd (no_item here);
}

pub marks_step : (root : ℕ) (list : List ℕ) (labels : List (Option ℕ)) (label : Option ℕ) (i x : ℕ)
    (first old new : Search) → i < length list → x ≡ get_or list i x → MarksTo root list labels label i first old
    → Grows root (λ k. (k ≡ x) × (slice_get labels k ≡ Some label)) old new
    → (slice_get labels x ≡ Some label → x < length old.marks.items → IsMarked new.marks.items root x)
    → MarksTo root list labels label (i + 1) first new
marks_step root list labels label i x first old new within is so_far grows marked = record {
  grows = grows_on root (λ k. Contains list k × (slice_get labels k ≡ Some label)) first old new so_far.grows
      (grows_as root (λ k. (k ≡ x) × (slice_get labels k ≡ Some label))
      (λ k. Contains list k × (slice_get labels k ≡ Some label)) old new (λ k both. (there k both.0, both.1)) grows);
  marked = λ k here labelled few. elim (taken_cases list i x k within is here) [
    | inl before ↦ grows.marks k (so_far.marked k before labelled few)
    | inr this ↦
        let P : ℕ → Type 0 = IsMarked new.marks.items root in
        let Q : ℕ → Type 0 = λ n. slice_get labels n ≡ Some label in
        subst P this (marked (subst Q (sym this) labelled) (omega (arith, this, few, so_far.grows.size)))
  ];
}
  where
    is_at : (k : ℕ) → k ≡ x → k ≡ get_or list i k
    is_at k same = same ∙ is ∙ ap (get_or list i) (sym same)

    there : (k : ℕ) → k ≡ x → Contains list k
    there k same = (i, within, sym (is_at k same))

pub marks_all : (root : ℕ) (list : List ℕ) (labels : List (Option ℕ)) (label : Option ℕ) (n : ℕ) (old new : Search)
    → length list ≤ n → MarksTo root list labels label n old new
    → (k : ℕ) → Contains list k → slice_get labels k ≡ Some label → k < length old.marks.items
    → IsMarked new.marks.items root k
marks_all root list labels label n old new all so_far k here labelled few =
    let P : List ℕ → Type 0 = λ xs. Contains xs k in
    so_far.marked k (subst P (sym (take_whole list n all)) here) labelled few

get_item : (xs : List ℕ) (m k : ℕ) → slice_get xs m ≡ Some k → Contains xs k
get_item [] m k is = cc
get_item (x ∷ xs) zero k is = let same : x ≡ k = cc in let P : ℕ
    → Type 0 = Contains (x ∷ xs) in subst P same (first_item x xs)
get_item (x ∷ xs) (suc m) k is = later_item x xs (get_item xs m k is)

pub item_get : (xs : List ℕ) (k : ℕ) → Contains xs k → (m : ℕ) × (slice_get xs m ≡ Some k)
item_get [] k here = absurd (no_item here)
item_get (x ∷ xs) k here = elim (item_cases x xs here) [
  | inl same ↦ (0, ap Some same)
  | inr more ↦ let rest = item_get
      xs k more in (suc rest.0, rest.1)
]

some_at : (xs : List ℕ) (m : ℕ) → m < length xs → (y : ℕ) × (slice_get xs m ≡ Some y)
some_at [] m few = absurd (omega (arith, few))
some_at (x ∷ xs) zero few = (x, refl)
some_at (x ∷ xs) (suc m) few = some_at xs m (omega (arith, few))

pub next_at : (lists : List (Vec ℕ)) (n : ℕ) (v : Vec ℕ) → slice_get lists n ≡ Some v → (k : ℕ) → HasNext lists n k
    → Contains v.items k
next_at lists n v is k (By {v = w} at here) = let both : Some w ≡ Some v = sym at ∙ is in let e : w ≡ v = cc in
    let P : Vec ℕ → Type 0 = λ x. Contains x.items k in subst P e here

pub no_next_at : (lists : List (Vec ℕ)) (n : ℕ) → length lists ≤ n → (k : ℕ) → HasNext lists n k → ⊥
no_next_at lists n past k (By {v = v} at here) = let h = slice_get_within lists n v at in omega (arith, h, past)

-- ---- the search as far as what follows was marked
module _ (lists : List (Vec ℕ)) (labels : List (Option ℕ)) (label : Option ℕ) (root : ℕ) (first : List (Option ℕ)) where
  pub record SearchTo (n : ℕ) (s : Search) : Type 0 where
    pub search : IsSearch root s
    pub sizes : length labels ≡ length first
    pub size : length s.marks.items ≡ length first
    pub start : IsMarked s.marks.items root root
    pub others : (k : ℕ) → (get_or s.marks.items k None ≡ get_or first k None) ⊎ IsMarked s.marks.items root k
    pub sound : (k : ℕ) → Contains s.reached.items k → LeadsBy lists labels label root k
    pub done : (m k : ℕ) → m < n → slice_get s.reached.items m ≡ Some k → (u : ℕ) → HasNext lists k u
        → slice_get labels u ≡ Some label → IsMarked s.marks.items root u

  pub search_start : (old new : Search) → old.marks.items ≡ first → old.reached.items ≡ [] → root < length first
      → length labels ≡ length first → ((k : ℕ) → IsMarked first root k → ⊥)
      → Grows root (λ k. k ≡ root) old new
      → (root < length old.marks.items → IsMarked new.marks.items root root) → SearchTo 0 new
  search_start old new is empty within sizes none grows marked = record {
    search = grows.search (record {
      marked = λ k here. absurd (none k (ap (λ ms. get_or ms k None) (sym is) ∙ here));
      reached = λ k here. absurd (nothing k here);
      count =
          let P : List (Option ℕ) → Type 0 = λ ms. count_by (is_other root) ms + 0 ≡ length ms in
          let counted = none_counted root first none in
          let zero_long = ap length empty in
          let c = ap (count_by (is_other root)) is in let l = ap length is in
          omega (arith, counted, zero_long, c, l);
    });
    sizes = sizes;
    size = grows.size ∙ ap length is;
    start = marked (let l = ap length is in omega (arith, within, l));
    others = λ k. elim (grows.others k) [
      | inl same ↦ inl (same ∙ ap (λ ms. get_or ms k None) is)
      | inr here ↦ inr here
    ];
    sound = λ k here. elim (grows.only k here) [
      | inl before ↦ absurd (nothing k before)
      | inr same ↦ let P : ℕ → Type 0 = LeadsBy lists labels label root in subst P (sym same) Stay
    ];
    done = λ m k few at u used labelled. absurd (omega (arith, few));
  }
    where
      nothing : (k : ℕ) → Contains old.reached.items k → ⊥
      nothing k here = let P : List ℕ → Type 0 = λ xs. Contains xs k in no_item (subst P empty here)

  pub search_step : (n x : ℕ) (old new : Search) → slice_get old.reached.items n ≡ Some x → SearchTo n old
      → Grows root (λ k. HasNext lists x k × (slice_get labels k ≡ Some label)) old new
      → ((u : ℕ) → HasNext lists x u → slice_get labels u ≡ Some label → u < length old.marks.items
      → IsMarked new.marks.items root u)
      → SearchTo (n + 1) new
  search_step n x old new at so_far grows marked = record {
    search = grows.search so_far.search;
    sizes = so_far.sizes;
    size = grows.size ∙ so_far.size;
    start = grows.marks root so_far.start;
    others = λ k. elim (grows.others k) [
      | inl same ↦ elim (so_far.others k) [
        | inl before ↦ inl (same ∙ before)
        | inr is ↦ inr (grows.marks k is)
      ]
      | inr is ↦ inr is
    ];
    sound = λ k here. elim (grows.only k here) [
      | inl before ↦ so_far.sound k before
      | inr (used, labelled) ↦ Onward used labelled (so_far.sound x (get_item old.reached.items n x at))
    ];
    done = λ m k few there u used labelled. elim (below_cases m n few) [
      | inl earlier ↦ was_done m k earlier there u used labelled
      | inr same ↦ is_done m k same there u used labelled
    ];
  }
    where
      kept_within : (m k y : ℕ) → slice_get old.reached.items m ≡ Some y → slice_get new.reached.items m ≡ Some k
          → y ≡ k
      kept_within m k y before there = let both : Some y ≡ Some k = sym (grows.kept m y before) ∙ there in cc

      was_done : (m k : ℕ) → m < n → slice_get new.reached.items m ≡ Some k → (u : ℕ) → HasNext lists k u
          → slice_get labels u ≡ Some label → IsMarked new.marks.items root u
      was_done m k earlier there u used labelled =
          let h = slice_get_within old.reached.items n x at in
          let y = some_at old.reached.items m (omega (arith, h, earlier)) in
          let P : ℕ → Type 0 = λ z. HasNext lists z u in
          grows.marks u (so_far.done m y.0 earlier y.1 u (subst P (sym (kept_within m k y.0 y.1 there)) used) labelled)

      is_done : (m k : ℕ) → m ≡ n → slice_get new.reached.items m ≡ Some k → (u : ℕ) → HasNext lists k u
          → slice_get labels u ≡ Some label → IsMarked new.marks.items root u
      is_done m k same there u used labelled =
          let P : ℕ → Type 0 = λ z. HasNext lists z u in
          let h = slice_get_within labels u label labelled in
          marked u (subst P (sym (kept_within n k x at (sym (ap (slice_get new.reached.items) same) ∙ there))) used)
          labelled (omega (arith, h, so_far.size, so_far.sizes))

  pub search_end : (n : ℕ) (s : Search) → length s.reached.items ≤ n → SearchTo n s
      → Spreads lists labels label root first s.marks.items
  search_end n s all so_far = record {
    size = so_far.size;
    marked = λ k leads. complete leads;
    only = λ k. elim (so_far.others k) [
      | inl same ↦ inl same
      | inr is ↦ inr (so_far.sound k (so_far.search.marked k is), is)
    ];
  }
    where
      complete : {k : ℕ} → LeadsBy lists labels label root k → IsMarked s.marks.items root k
      complete Stay = so_far.start
      complete (Onward {via = v} {to = u} used labelled more) =
          let at = item_get s.reached.items v (so_far.search.marked v (complete more)) in
          let h = slice_get_within s.reached.items at.0 v at.1 in
          so_far.done at.0 v (omega (arith, h, all)) at.1 u used labelled
