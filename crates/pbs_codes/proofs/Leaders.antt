-- The leaders of the first n places and one more.
use Rattle.std.proofs.Common.{◌≡◌, ℕ, ◌+◌, ◌<◌, ◌↔◌, inl, inr, true, false, List, []}
use Rattle.std.proofs.Common.{◌∷◌, ◌++◌, map, length, get_or, refl, sym, ◌∙◌, ap, subst, arith}
use Rattle.std.specs.Prelude.{slice_get, Some, Contains, slice_index}
use Rattle.std.specs.List.Sorted.{IsStrictlyIncreasing}
use Rattle.std.proofs.lemmas.Bool.{cases_order, both_ways}
use Rattle.std.proofs.lemmas.List.{get_or_append_left, get_or_at, length_push, get_or-map, length-map, map-append}
use Rattle.std.proofs.lemmas.List.Elements.{Contains-push_cases, Contains-push, Contains-get_or}
use Rattle.std.proofs.lemmas.List.Elements.{Contains-append_left}
use Rattle.std.proofs.lemmas.Grind.{get_or_default_zero}
use Rattle.std.proofs.lemmas.Option.{slice_get_within, get_or_from_slice_get}
use Rattle.pbs_edges.proofs.Listed.{OneOf}
use Rattle.pbs_edges.proofs.Sorted.{contains_from, contains_to}
use Rattle.pbs_overlap.specs.declared.pairs.Pairs.{Pairs}
use Rattle.pbs_codes.specs.inner.Leading.{may_stand, signature_at, IsLowestLike, Leads, AreLed}

-- a number above all is added at the end
pub push_rises : (xs : List ℕ) (n : ℕ) → IsStrictlyIncreasing xs → ((x : ℕ) → Contains xs x → x < n)
    → IsStrictlyIncreasing (xs ++ n ∷ [])
push_rises xs n rise below k l =
    let size : length (xs ++ n ∷ []) ≡ length xs + 1 = length_push xs n in
    elim (cases_order (k + 1) (length xs)) [
      | inl e ↦
          let here : get_or (xs ++ n ∷ []) k 0 ≡ get_or xs k 0 = get_or_append_left xs (n ∷ []) 0 k (omega arith) in
          let next : get_or (xs ++ n ∷ []) (k + 1) 0 ≡ n = get_or_at xs n [] 0 (k + 1) (sym e) in
          let low = below (get_or xs k 0) (Contains-get_or xs k 0 (omega arith)) in
          omega (arith, here, next, low)
      | inr o ↦ elim o [
        | inl less ↦
            let here : get_or (xs ++ n ∷ []) k 0 ≡ get_or xs k 0 = get_or_append_left xs (n ∷ []) 0 k (omega arith) in
            let next : get_or (xs ++ n ∷ []) (k + 1) 0 ≡ get_or xs (k + 1) 0 =
            get_or_append_left xs (n ∷ []) 0 (k + 1) less in
            let low = rise k less in
            omega (arith, here, next, low)
        | inr more ↦ absurd (omega arith)
      ]
    ]

contains_map : {A B : Type 0} (f : A → B) (xs : List A) (x : A) → OneOf xs x → OneOf (map f xs) (f x)
contains_map f [] x h = absurd h
contains_map f (y ∷ xs) x h = elim h [ inl e ↦ inl (ap f e) | inr m ↦ inr (contains_map f xs x m) ]

module _ (pairs : Pairs) (all : List (List ℕ)) (n : ℕ) (never leaders firsts : List ℕ) (seen : List (List ℕ))
    (old : AreLed pairs all n never leaders firsts seen) where
  more_leaders : (l : ℕ) → Leads pairs all n l → (p : ℕ) → p < n + 1
      → Leads pairs all p (slice_index (leaders ++ l ∷ []) p)
  more_leaders l here p less = elim (cases_order p n) [
    | inl e ↦
        let at : get_or (leaders ++ l ∷ []) p 0 ≡ l = get_or_at leaders l [] 0 p (old.each ∙ sym e) in
        subst (λ x. Leads pairs all p x) (sym at) (subst (λ q. Leads pairs all q l) (sym e) here)
    | inr o ↦ elim o [
      | inl low ↦
          let at : get_or (leaders ++ l ∷ []) p 0 ≡ get_or leaders p 0 =
          get_or_append_left leaders (l ∷ []) 0 p (omega (arith, old.each)) in
          subst (λ x. Leads pairs all p x) (sym at) (old.lead p low)
      | inr high ↦ absurd (omega arith)
    ]
  ]

  one_more : (l : ℕ) → length (leaders ++ l ∷ []) ≡ n + 1
  one_more l = let e = length_push leaders l in omega (arith, old.each, e)

  -- the next place may not stand
  same_never : may_stand pairs n ≡ true → (p : ℕ) → Contains never p ↔ ((p < n + 1) × (may_stand pairs p ≡ false))
  same_never stands p = (
    λ c. let w = (old.never_are p).0 c in (let l = w.0 in omega arith, w.1),
    λ w. elim (cases_order p n) [
      | inl e ↦ absurd (both_ways (may_stand pairs n) (subst (λ q. may_stand pairs q ≡ false) e w.1) stands)
      | inr o ↦ elim o [ inl low ↦ (old.never_are p).1 (low, w.1) | inr high ↦ absurd (let l = w.0 in omega arith) ]
    ],
  )

  pub led_never : may_stand pairs n ≡ false
      → AreLed pairs all (n + 1) (never ++ n ∷ []) (leaders ++ n ∷ []) firsts seen
  led_never idle = record {
    never_are = λ p. (
      λ c. elim (Contains-push_cases never n p c) [
        | inl h ↦ let w = (old.never_are p).0 h in (let l = w.0 in omega arith, w.1)
        | inr e ↦ (omega arith, subst (λ q. may_stand pairs q ≡ false) e idle)
      ],
      λ w. elim (cases_order p n) [
        | inl e ↦ subst (λ q. Contains (never ++ n ∷ []) q) (sym e) (Contains-push never n)
        | inr o ↦ elim o [
          | inl low ↦ Contains-append_left never (n ∷ []) p ((old.never_are p).1 (low, w.1))
          | inr high ↦ absurd (let l = w.0 in omega arith)
        ]
      ],
    );
    never_rise = push_rises never n old.never_rise (λ x c. ((old.never_are x).0 c).0);
    each = one_more n;
    lead = more_leaders n (inl (idle, refl));
    firsts_are = λ p. (
      λ c. let w = (old.firsts_are p).0 c in (let l = w.0 in omega arith, w.1, w.2),
      λ w. elim (cases_order p n) [
        | inl e ↦ absurd (both_ways (may_stand pairs n) idle (subst (λ q. may_stand pairs q ≡ true) e w.1))
        | inr o ↦ elim o [
          | inl low ↦ (old.firsts_are p).1 (low, w.1, w.2)
          | inr high ↦ absurd (let l = w.0 in omega arith)
        ]
      ],
    );
    firsts_rise = old.firsts_rise;
    seen_are = old.seen_are;
  }

  -- its signature was seen
  pub led_known : may_stand pairs n ≡ true → (k : ℕ) → slice_get seen k ≡ Some (signature_at all n)
      → AreLed pairs all (n + 1) never (leaders ++ slice_index firsts k ∷ []) firsts seen
  led_known stands k at =
      let size : length seen ≡ length firsts = ap length old.seen_are ∙ length-map firsts (signature_at all) in
      let within : k < length firsts = omega (arith, size, slice_get_within seen k (signature_at all n) at) in
      let l : ℕ = get_or firsts k 0 in
      let read : signature_at all l ≡ signature_at all n =
      sym (get_or-map (signature_at all) firsts k 0 [] within)
      ∙ (ap (λ s. get_or s k []) (sym old.seen_are) ∙ get_or_from_slice_get seen k (signature_at all n) [] at) in
      let w = (old.firsts_are l).0 (Contains-get_or firsts k 0 within) in
      let lowest = w.2 in
      let like : IsLowestLike pairs all n l = record {
        stands = w.1;
        like = read;
        lowest = λ q less may same. lowest.lowest q less may (same ∙ sym read);
      } in
      record {
        never_are = same_never stands;
        never_rise = old.never_rise;
        each = one_more l;
        lead = more_leaders l (inr (stands, like));
        firsts_are = λ p. (
          λ c. let v = (old.firsts_are p).0 c in (let m = v.0 in omega arith, v.1, v.2),
          λ v. elim (cases_order p n) [
            | inl e ↦
                let own : IsLowestLike pairs all n n = subst (λ q. IsLowestLike pairs all q q) e v.2 in
                absurd (own.lowest l w.0 w.1 read)
            | inr o ↦ elim o [
              | inl low ↦ (old.firsts_are p).1 (low, v.1, v.2)
              | inr high ↦ absurd (let m = v.0 in omega arith)
            ]
          ],
        );
        firsts_rise = old.firsts_rise;
        seen_are = old.seen_are;
      }

  -- it wasn't
  pub led_fresh : may_stand pairs n ≡ true → (Contains seen (signature_at all n) → ⊥)
      → AreLed pairs all (n + 1) never (leaders ++ n ∷ []) (firsts ++ n ∷ []) (seen ++ signature_at all n ∷ [])
  led_fresh stands fresh =
      let own : IsLowestLike pairs all n n = record {
        stands = stands;
        like = refl;
        lowest = λ q less may same. elim (old.lead q less) [
          | inl idle ↦ both_ways (may_stand pairs q) idle.0 may
          | inr led ↦
              let l : ℕ = get_or leaders q 0 in
              let low = led.1 in
              let mine : IsLowestLike pairs all l l = record {
                stands = low.stands;
                like = refl;
                lowest = λ r small m s. low.lowest r small m (s ∙ low.like);
              } in
              elim (cases_order q l) [
                | inl e ↦ let first = (old.firsts_are l).1 (omega arith, low.stands, mine) in
                    let there = contains_from (map (signature_at all) firsts) (signature_at all l)
                    (contains_map (signature_at all) firsts l (contains_to firsts l first)) in
                    fresh (subst (λ s. Contains s (signature_at all n)) (sym old.seen_are)
                    (subst (λ s. Contains (map (signature_at all) firsts) s) (low.like ∙ same) there))
                | inr o ↦ elim o [
                  | inl below ↦ low.lowest q below may refl
                  | inr above ↦ let first = (old.firsts_are l).1 (omega arith, low.stands, mine) in
                      let there = contains_from (map (signature_at all) firsts) (signature_at all l)
                      (contains_map (signature_at all) firsts l (contains_to firsts l first)) in
                      fresh (subst (λ s. Contains s (signature_at all n)) (sym old.seen_are)
                      (subst (λ s. Contains (map (signature_at all) firsts) s) (low.like ∙ same) there))
                ]
              ]
        ];
      } in
      record {
        never_are = same_never stands;
        never_rise = old.never_rise;
        each = one_more n;
        lead = more_leaders n (inr (stands, own));
        firsts_are = λ p. (
          λ c. elim (Contains-push_cases firsts n p c) [
            | inl h ↦ let w = (old.firsts_are p).0 h in (let m = w.0 in omega arith, w.1, w.2)
            | inr e ↦ (
              omega arith,
              subst (λ q. may_stand pairs q ≡ true) e stands,
              subst (λ q. IsLowestLike pairs all q q) e own,
            )
          ],
          λ w. elim (cases_order p n) [
            | inl e ↦ subst (λ q. Contains (firsts ++ n ∷ []) q) (sym e) (Contains-push firsts n)
            | inr o ↦ elim o [
              | inl low ↦ Contains-append_left firsts (n ∷ []) p ((old.firsts_are p).1 (low, w.1, w.2))
              | inr high ↦ absurd (let m = w.0 in omega arith)
            ]
          ],
        );
        firsts_rise = push_rises firsts n old.firsts_rise (λ x c. ((old.firsts_are x).0 c).0);
        seen_are = ap (λ s. s ++ signature_at all n ∷ []) old.seen_are
            ∙ sym (map-append (signature_at all) firsts (n ∷ []));
      }

-- the same, as a table of leaders is read
pub led_read : (pairs : Pairs) (all : List (List ℕ)) (n : ℕ) (never leaders firsts : List ℕ) (seen : List (List ℕ))
    (own : List ℕ) (k l : ℕ) → AreLed pairs all n never leaders firsts seen → may_stand pairs n ≡ true
    → own ≡ signature_at all n → slice_get seen k ≡ Some own → l ≡ get_or firsts k l
    → AreLed pairs all (n + 1) never (leaders ++ l ∷ []) firsts seen
led_read pairs all n never leaders firsts seen own k l old stands e at read =
    let there : slice_get seen k ≡ Some (signature_at all n) = at ∙ ap Some e in
    let size : length seen ≡ length firsts = ap length old.seen_are ∙ length-map firsts (signature_at all) in
    let within : k < length firsts = omega (arith, size, slice_get_within seen k (signature_at all n) there) in
    let same : l ≡ slice_index firsts k = read ∙ get_or_default_zero firsts k l within in
    subst (λ x. AreLed pairs all (n + 1) never (leaders ++ x ∷ []) firsts seen) (sym same)
    (led_known pairs all n never leaders firsts seen old stands k there)
