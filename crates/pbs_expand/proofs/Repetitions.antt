-- The tree of a bounded repetition.
use Rattle.std.proofs.Common.{◌≡◌, ◌≤◌, ℕ, zero, suc, ◌+◌, ◌-◌, ◌/◌, Bool, true, false, ◌&&◌, nat_eq, nat_le, refl, sym}
use Rattle.std.proofs.Common.{ap, subst, ◌∙◌, arith}
use Rattle.std.specs.Prelude.{if◌then◌else◌}
use Rattle.std.proofs.lemmas.Bool.{eqb-true, and_parts}
use Rattle.std.proofs.lemmas.Bool.Decides.{nat_tests}
use Rattle.pbs_base.specs.declared.refusal.Span.{Span}
use Rattle.pbs_ast.specs.Trees as trees
use Rattle.pbs_ast.specs.Repeats as repeats
use Rattle.pbs_ast.specs.Repeats.{Copies, Copy, InTurn, Either, copies_to, exactly, at_most, repeated, blank, filled}
use Rattle.pbs_ast.specs.Repeats.{no_spot}
use Rattle.pbs_ast.specs.declared.syntax.Expr.{Expr}
use Rattle.pbs_ast.specs.declared.syntax.Spec.{Spec}
use Rattle.pbs_names.specs.Forms.{form}
use Rattle.pbs_names.specs.Forms as forms
use Rattle.pbs_expand.specs.declared.parts.Pairing.TheVariants.{Sequence, Choice}
use Rattle.pbs_expand.specs.declared.build.Counters.{Counters}
use Rattle.pbs_expand.specs.Counting.{sum_of, name_cost, node_cost, hold_cost, scope_cost}
use Rattle.pbs_expand.specs.Parts as parts
use Rattle.pbs_expand.specs.Parts.{Part, Whole, Shape, shape, copies_part, copies_shape, upto_shape, expr_shape}
use Rattle.pbs_expand.specs.Parts.{form_shape, stripped}
use Rattle.pbs_expand.specs.Written.{written}
use Rattle.pbs_expand.specs.Visits.{visits, after_visits, numbered}
use Rattle.pbs_expand.specs.Walks.{Walk, Beyond, Empty, Terminal, Action, Name, Star, Hold, Pair, Scope, walk, walked}
use Rattle.pbs_expand.specs.Walks.{complete}
use Rattle.pbs_expand.proofs.Strips.{repeat_strips}

-- ---- the counters decide numbers alone
pub same_blank : (w : Walk) (c d : Counters) → blank (numbered w c) ≡ blank (numbered w d)
same_blank (Beyond span) c d = refl
same_blank (Empty span) c d = refl
same_blank (Terminal span t) c d = refl
same_blank (Action span a) c d = refl
same_blank (Name span w) c d = same_blank w (sum_of c name_cost) (sum_of d name_cost)
same_blank (Star span w) c d = ap (trees.Star no_spot) (same_blank w (sum_of c node_cost) (sum_of d node_cost))
same_blank (Hold span t w) c d =
    ap (trees.Hold no_spot t) (same_blank w (sum_of c (hold_cost t)) (sum_of d (hold_cost t)))
same_blank (Pair span Sequence v w) c d =
    let i = sum_of c node_cost in let j = sum_of d node_cost in
    let left = same_blank v i j in
    let right = same_blank w (after_visits i (visits v)) (after_visits j (visits v)) in cc
same_blank (Pair span Choice v w) c d =
    let i = sum_of c node_cost in let j = sum_of d node_cost in
    let left = same_blank v i j in
    let right = same_blank w (after_visits i (visits v)) (after_visits j (visits v)) in cc
same_blank (Scope span v w x) c d =
    let i = sum_of c scope_cost in let j = sum_of d scope_cost in
    let k = after_visits i (visits v) in let l = after_visits j (visits v) in
    let body = same_blank v i j in
    let trap = same_blank w k l in
    let after = same_blank x (after_visits k (visits w)) (after_visits l (visits w)) in cc

-- ---- a complete walk is the same with more room
same_walked : (spec : Spec) (f g : Part → Walk) → ((p : Part) → complete (f p) ≡ true → g p ≡ f p) → (s : Shape)
    → complete (walked spec f s) ≡ true → walked spec g s ≡ walked spec f s
same_walked spec f g same (parts.Empty span) whole = refl
same_walked spec f g same (parts.Terminal span t) whole = refl
same_walked spec f g same (parts.Action span name) whole = refl
same_walked spec f g same (parts.Name span p) whole = ap (Name span) (same p whole)
same_walked spec f g same (parts.Star span p) whole = ap (Star span) (same p whole)
same_walked spec f g same (parts.Hold span t p) whole =
    ap (Hold span (written spec.inputs t)) (same p whole)
same_walked spec f g same (parts.Pair span by p q) whole =
    let two = and_parts (complete (f p)) (complete (f q)) whole in
    let left = same p two.0 in let right = same q two.1 in cc
same_walked spec f g same (parts.Scope span p q r) whole =
    let two = and_parts (complete (f p)) (complete (f q) && complete (f r)) whole in
    let rest = and_parts (complete (f q)) (complete (f r)) two.1 in
    let body = same p two.0 in let trap = same q rest.0 in let after = same r rest.1 in cc

more_room : (spec : Spec) (room : ℕ) (p : Part) → complete (walk spec room p) ≡ true
    → walk spec (suc room) p ≡ walk spec room p
unfolding walk
more_room spec zero p whole = cc
more_room spec (suc room) p whole =
    same_walked spec (walk spec room) (walk spec (suc room)) (more_room spec room) (shape spec.prods p) whole

-- what is complete has room, and is that of its node
same_node : (spec : Spec) (room : ℕ) (p q : Part) → shape spec.prods p ≡ shape spec.prods q
    → complete (walk spec room p) ≡ true → walk spec room p ≡ walk spec room q
unfolding walk
same_node spec zero p q is whole = cc
same_node spec (suc room) p q is whole = ap (walked spec (walk spec room)) is

-- ---- copies
-- the part's walk makes the tree of such copies
pub record IsMade (spec : Spec) (body : Expr) (p : Part) (copies : Copies) (room : ℕ) : Type 0 where
  pub whole : complete (walk spec room (Whole body)) ≡ true
  pub tree : (c d : Counters)
      → blank (numbered (walk spec room p) c) ≡ filled copies (blank (numbered (walk spec room (Whole body)) d))

abbrev pub Makes : Spec → Expr → Part → Copies → Type 0
Makes spec body p copies = (room : ℕ) → complete (walk spec room p) ≡ true → IsMade spec body p copies room

one_made : (spec : Spec) (body : Expr) → Makes spec body (Whole body) Copy
one_made spec body room whole = record { whole = whole; tree = same_blank (walk spec room (Whole body)) }

-- a level more
deeper : (spec : Spec) (body : Expr) (p : Part) (copies : Copies) (room : ℕ) → IsMade spec body p copies room
    → (c d : Counters)
    → blank (numbered (walk spec room p) c) ≡ filled copies (blank (numbered (walk spec (suc room) (Whole body)) d))
deeper spec body p copies room made c d =
    made.tree c d
    ∙ ap (λ w. filled copies (blank (numbered w d))) (sym (more_room spec room (Whole body) made.whole))

whole_deeper : (spec : Spec) (body : Expr) (room : ℕ) → complete (walk spec room (Whole body)) ≡ true
    → complete (walk spec (suc room) (Whole body)) ≡ true
whole_deeper spec body room whole = ap complete (more_room spec room (Whole body) whole) ∙ whole

same_made : (spec : Spec) (body : Expr) (p q : Part) (copies : Copies) → shape spec.prods p ≡ shape spec.prods q
    → Makes spec body q copies → Makes spec body p copies
same_made spec body p q copies is made room whole =
    let same = same_node spec room p q is whole in
    let m = made room (ap complete (sym same) ∙ whole) in
    record { whole = m.whole; tree = λ c d. ap (λ w. blank (numbered w c)) same ∙ m.tree c d }

pair_blank : (t u x y : trees.Tree) → t ≡ x → u ≡ y → trees.Seq no_spot t u ≡ trees.Seq no_spot x y
pair_blank t u x y left right = cc

choice_blank : (t u x y : trees.Tree) → t ≡ x → u ≡ y → trees.Choice no_spot t u ≡ trees.Choice no_spot x y
choice_blank t u x y left right = cc

nothing_blank : (spec : Spec) (span : Span) (room : ℕ) (c : Counters)
    → complete (walk spec room (parts.Nothing span)) ≡ true
    → blank (numbered (walk spec room (parts.Nothing span)) c) ≡ trees.Empty no_spot
unfolding walk
nothing_blank spec span zero c whole = cc
nothing_blank spec span (suc room) c whole = refl

pair_made : (spec : Spec) (body : Expr) (p : Part) (span : Span) (q r : Part) (left right : Copies)
    → shape spec.prods p ≡ parts.Pair span Sequence q r → Makes spec body q left → Makes spec body r right
    → Makes spec body p (InTurn left right)
unfolding walk
pair_made spec body p span q r left right is first second zero whole = cc
pair_made spec body p span q r left right is first second (suc room) whole =
    let v = walk spec room q in let w = walk spec room r in
    let node : walk spec (suc room) p ≡ Pair span Sequence v w = ap (walked spec (walk spec room)) is in
    let two = and_parts (complete v) (complete w) (ap complete (sym node) ∙ whole) in
    let a = first room two.0 in let b = second room two.1 in
    record {
      whole = whole_deeper spec body room a.whole;
      tree = λ c d.
          let inside = sum_of c node_cost in
          ap (λ x. blank (numbered x c)) node ∙ pair_blank _ _ _ _ (deeper spec body q left room a inside d)
          (deeper spec body r right room b (after_visits inside (visits v)) d);
    }

choice_made : (spec : Spec) (body : Expr) (p : Part) (span : Span) (q : Part) (some : Copies)
    → shape spec.prods p ≡ parts.Pair span Choice q (parts.Nothing span) → Makes spec body q some
    → Makes spec body p (Either some repeats.Nothing)
unfolding walk
choice_made spec body p span q some is made zero whole = cc
choice_made spec body p span q some is made (suc room) whole =
    let v = walk spec room q in let w = walk spec room (parts.Nothing span) in
    let node : walk spec (suc room) p ≡ Pair span Choice v w = ap (walked spec (walk spec room)) is in
    let two = and_parts (complete v) (complete w) (ap complete (sym node) ∙ whole) in
    let a = made room two.0 in
    record {
      whole = whole_deeper spec body room a.whole;
      tree = λ c d.
          let inside = sum_of c node_cost in
          ap (λ x. blank (numbered x c)) node ∙ choice_blank _ _ _ _ (deeper spec body q some room a inside d)
          (nothing_blank spec span room (after_visits inside (visits v)) two.1);
    }

-- F
exactly_by : (spec : Spec) (body : Expr) (span : Span) (fuel k : ℕ) (b : Bool) → nat_eq k 1 ≡ b → 1 ≤ k → k ≤ suc fuel
    → ((n : ℕ) → 1 ≤ n → n ≤ fuel → Makes spec body (copies_part span body n) (copies_to fuel n))
    → let half = (k + 1) / 2 in
    Makes spec body (if b then Whole body else parts.Copies span body k)
    (if b then Copy else InTurn (copies_to fuel half) (copies_to fuel (k - half)))
exactly_by spec body span fuel k true one some fits shorter = one_made spec body
exactly_by spec body span fuel k false more some fits shorter =
    let half = (k + 1) / 2 in
    let many : k ≡ 1 → ⊥ = grind (arith, nat_tests) in
    pair_made spec body (parts.Copies span body k) span (copies_part span body half) (copies_part span body (k - half))
    (copies_to fuel half) (copies_to fuel (k - half)) refl (shorter half (omega arith) (omega arith))
    (shorter (k - half) (omega arith) (omega arith))

exactly_made : (spec : Spec) (body : Expr) (span : Span) (fuel k : ℕ) → 1 ≤ k → k ≤ fuel
    → Makes spec body (copies_part span body k) (copies_to fuel k)
exactly_made spec body span zero k some fits = absurd (omega arith)
exactly_made spec body span (suc fuel) k some fits =
    exactly_by spec body span fuel k (nat_eq k 1) refl some fits (exactly_made spec body span fuel)

-- O
at_most_made : (spec : Spec) (body : Expr) (span : Span) (k : ℕ) → 1 ≤ k
    → Makes spec body (parts.UpTo span body k) (at_most k)
at_most_made spec body span zero some = absurd (omega arith)
at_most_made spec body span (suc zero) some =
    choice_made spec body (parts.UpTo span body 1) span (Whole body) Copy refl (one_made spec body)
at_most_made spec body span (suc (suc k)) some =
    let further = parts.Further span body (suc k) in
    let many : nat_le (suc (suc k)) 1 ≡ false = grind (arith, nat_tests) in
    let less : suc (suc k) - 1 ≡ suc k = omega arith in
    let is : upto_shape span body (suc (suc k)) ≡ parts.Pair span Choice further (parts.Nothing span) =
    rw (many, less) refl in
    choice_made spec body (parts.UpTo span body (suc (suc k))) span further (InTurn Copy (at_most (suc k))) is
    (pair_made spec body further span (Whole body) (parts.UpTo span body (suc k)) Copy (at_most (suc k)) refl
    (one_made spec body) (at_most_made spec body span (suc k) (omega arith)))

repeated_by : (spec : Spec) (body : Expr) (span : Span) (p : Part) (m n : ℕ) (b c : Bool) → nat_eq m n ≡ b
    → nat_eq m 0 ≡ c → (m ≡ 1 → n ≡ 1 → ⊥) → m ≤ n → 1 ≤ n
    → shape spec.prods p ≡ (if b then copies_shape span body m else if c then upto_shape span body n
    else parts.Pair span Sequence (copies_part span body m) (parts.UpTo span body (n - m)))
    → Makes spec body p (if b then exactly m else if c then at_most n else InTurn (exactly m) (at_most (n - m)))
repeated_by spec body span p m n true c same none more fits some is =
    let equal : m ≡ n = eqb-true m n same in
    let other : m ≡ 1 → ⊥ = λ one. more one (omega arith) in
    let many : nat_eq m 1 ≡ false = grind (arith, nat_tests, other) in
    let P : Bool → Type 0 = λ b. Makes spec body (if b then Whole body else parts.Copies span body m) (exactly m) in
    same_made spec body p (parts.Copies span body m) (exactly m) is
    (subst P many (exactly_made spec body span m m (omega arith) (omega arith)))
repeated_by spec body span p m n false true same none more fits some is =
    same_made spec body p (parts.UpTo span body n) (at_most n) is (at_most_made spec body span n some)
repeated_by spec body span p m n false false same none more fits some is =
    let many : m ≡ 0 → ⊥ = grind (arith, nat_tests) in
    let differ : m ≡ n → ⊥ = grind (arith, nat_tests) in
    pair_made spec body p span (copies_part span body m) (parts.UpTo span body (n - m)) (exactly m) (at_most (n - m)) is
    (exactly_made spec body span m m (omega arith) (omega arith)) (at_most_made spec body span (n - m) (omega arith))

repetition_by : (spec : Spec) (e body : Expr) (m n : ℕ) (b c : Bool) → nat_eq m 1 ≡ b → nat_eq n 1 ≡ c
    → stripped e ≡ (if b then (if c then stripped body else e) else e) → form e ≡ forms.Repeat body m n
    → m ≤ n → 1 ≤ n → Makes spec body (Whole e) (repeated m n)
repetition_by spec e body m n true true one also strips is fits some =
    let P : ℕ → ℕ → Type 0 = λ a b. Makes spec body (Whole e) (repeated a b) in
    let copy : P 1 1 =
    same_made spec body (Whole e) (Whole body) Copy (ap (expr_shape spec.prods) strips) (one_made spec body) in
    subst (P m) (sym (eqb-true n 1 also)) (subst (λ a. P a 1) (sym (eqb-true m 1 one)) copy)
repetition_by spec e body m n true false one also strips is fits some =
    repeated_by spec body e.span (Whole e) m n (nat_eq m n) (nat_eq m 0) refl refl
    (λ q r. grind (arith, nat_tests)) fits some
    (ap (expr_shape spec.prods) strips ∙ ap (form_shape spec.prods e.span) is)
repetition_by spec e body m n false c one also strips is fits some =
    repeated_by spec body e.span (Whole e) m n (nat_eq m n) (nat_eq m 0) refl refl
    (λ q r. grind (arith, nat_tests)) fits some
    (ap (expr_shape spec.prods) strips ∙ ap (form_shape spec.prods e.span) is)

pub repetition_made : (spec : Spec) (e body : Expr) (m n : ℕ) → form e ≡ forms.Repeat body m n → m ≤ n → 1 ≤ n
    → Makes spec body (Whole e) (repeated m n)
repetition_made spec e body m n is fits some =
    repetition_by spec e body m n (nat_eq m 1) (nat_eq n 1) refl refl (repeat_strips e body m n is) is fits some
