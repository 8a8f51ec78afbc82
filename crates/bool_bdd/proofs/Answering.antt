-- From the answers for both values of an input to the answer.
use Rattle.std.proofs.Common.{◌≡◌, ℕ, ◌&&◌, ◌||◌, not, Bool, true, false, if◌then◌else◌, List, refl, sym, subst, ◌∙◌}
use Rattle.std.proofs.Common.{arith}
use Rattle.pbs_base.specs.Entries.{bit}
use Rattle.bool_bdd.specs.declared.node.Node.{Node}
use Rattle.bool_bdd.specs.declared.node.Node.TheVariants.{Leaf}
use Rattle.bool_bdd.specs.declared.node.Branch.{Branch}
use Rattle.bool_bdd.specs.declared.node.Choice.{Choice}
use Rattle.bool_bdd.specs.Diagrams.{child_of, node_holds}
use Rattle.bool_bdd.specs.Diagrams.{IsDiagram, Grows, IsMade, IsFor}
use Rattle.bool_bdd.specs.Choices.{IsAsked, IsChosen, choice_holds, first_of, sides_of}
use Rattle.bool_bdd.proofs.Meaning.{level_grown, node_grown, side_grown, holds_grown, holds_leaf, side_holds}
use Rattle.bool_bdd.proofs.Growing.{chosen_grown}

sides_hold : (nodes : List Branch) (k v : ℕ) (b : Bool) (c : Choice) → IsDiagram nodes → IsAsked nodes c → bit k v ≡ b
    → choice_holds nodes (sides_of nodes k b c) v ≡ choice_holds nodes c v
sides_hold nodes k v b c d a e =
    let test = side_holds nodes k v b c.test d a.test e in
    let when_true = side_holds nodes k v b c.if_true d a.if_true e in
    let when_false = side_holds nodes k v b c.if_false d a.if_false e in
    rw (test, when_true, when_false) refl

pub asked_grown : (old new : List Branch) (c : Choice) → Grows old new → IsAsked old c → IsAsked new c
asked_grown old new c g a = record {
  test = node_grown old new c.test g a.test;
  if_true = node_grown old new c.if_true g a.if_true;
  if_false = node_grown old new c.if_false g a.if_false;
}

first_grown : (old new : List Branch) (c : Choice) → Grows old new → IsAsked old c → first_of new c ≡ first_of old c
first_grown old new c g a =
    let test = level_grown old new c.test g a.test in
    let when_true = level_grown old new c.if_true g a.if_true in
    let when_false = level_grown old new c.if_false g a.if_false in
    rw (test, when_true, when_false) refl

pub sides_grown : (old new : List Branch) (k : ℕ) (b : Bool) (c : Choice) → Grows old new → IsAsked old c
    → sides_of new k b c ≡ sides_of old k b c
sides_grown old new k b c g a =
    let test = side_grown old new k b c.test g a.test in
    let when_true = side_grown old new k b c.if_true g a.if_true in
    let when_false = side_grown old new k b c.if_false g a.if_false in
    rw (test, when_true, when_false) refl

choice_grown : (old new : List Branch) (c : Choice) (v : ℕ) → IsDiagram old → Grows old new → IsAsked old c
    → choice_holds new c v ≡ choice_holds old c v
choice_grown old new c v d g a =
    let test = holds_grown old new c.test v d g a.test in
    let when_true = holds_grown old new c.if_true v d g a.if_true in
    let when_false = holds_grown old new c.if_false v d g a.if_false in
    rw (test, when_true, when_false) refl

-- an answer on sides of an earlier store
pub sides_chosen_grown : (old mid new : List Branch) (k : ℕ) (b : Bool) (c : Choice) (n : Node) → IsDiagram mid
    → Grows old mid → Grows mid new
    → IsAsked old c → IsChosen mid (sides_of old k b c) n → IsChosen new (sides_of new k b c) n
sides_chosen_grown old mid new k b c n d g h a p =
    let one : sides_of mid k b c ≡ sides_of old k b c = sides_grown old mid k b c g a in
    let two : sides_of new k b c ≡ sides_of mid k b c = sides_grown mid new k b c h (asked_grown old mid c g a) in
    subst (λ (q : Choice). IsChosen new q n) (sym (two ∙ one)) (chosen_grown mid new (sides_of old k b c) n d h p)

-- the branch whose children answer for both values of its input
pub concluded : (old new : List Branch) (c : Choice) (x : Branch) (n : Node) → IsDiagram old → Grows old new
    → IsAsked old c → x.variable ≡ first_of old c
    → IsChosen old (sides_of old x.variable false c) x.low → IsChosen old (sides_of old x.variable true c) x.high
    → IsMade new x n → IsChosen new c n
concluded old new c x n d g a first low high made = record {
  asked = asked_grown old new c g a;
  there = made.there;
  later = let e = first_grown old new c g a in let l = made.later in omega arith;
  meaning = λ v. made.meaning v ∙ by v (bit x.variable v) refl;
}
  where
    by : (v : ℕ) (b : Bool) → bit x.variable v ≡ b → node_holds new (child_of x b) v ≡ choice_holds new c v
    by v true e =
        holds_grown old new x.high v d g high.there
        ∙ (high.meaning v ∙ (sides_hold old x.variable v true c d a e ∙ sym (choice_grown old new c v d g a)))
    by v false e =
        holds_grown old new x.low v d g low.there
        ∙ (low.meaning v ∙ (sides_hold old x.variable v false c d a e ∙ sym (choice_grown old new c v d g a)))

-- a constant test
pub settled : (nodes : List Branch) (c : Choice) (b : Bool) → IsAsked nodes c → c.test ≡ Leaf b
    → IsChosen nodes c (if b then c.if_true else c.if_false)
settled nodes c true a e = record {
  asked = a;
  there = a.if_true;
  later = omega arith;
  meaning = λ v. rw (e, holds_leaf nodes true v) refl;
}
settled nodes c false a e = record {
  asked = a;
  there = a.if_false;
  later = omega arith;
  meaning = λ v. rw (e, holds_leaf nodes false v) refl;
}

pub chosen_for : (old new : List Branch) (c : Choice) (n : Node) (meaning_of : ℕ → Bool) → IsDiagram old → Grows old new
    → IsAsked old c
    → ((v : ℕ) → choice_holds old c v ≡ meaning_of v) → IsChosen new c n → IsFor new meaning_of n
chosen_for old new c n meaning_of d g a is p = record {
  there = p.there;
  meaning = λ v. p.meaning v ∙ (choice_grown old new c v d g a ∙ is v);
}

not_by : (b : Bool) → (if b then false else true) ≡ not b
not_by true = refl
not_by false = refl

and_by : (a b : Bool) → (if a then b else false) ≡ (a && b)
and_by true b = refl
and_by false b = refl

or_by : (a b : Bool) → (if a then true else b) ≡ (a || b)
or_by true b = refl
or_by false b = refl

pub means_not : (nodes : List Branch) (a : Node) (v : ℕ)
    → (if node_holds nodes a v then node_holds nodes (Leaf false) v else node_holds nodes (Leaf true) v)
    ≡ not (node_holds nodes a v)
means_not nodes a v = rw (holds_leaf nodes false v, holds_leaf nodes true v) (not_by (node_holds nodes a v))

pub means_and : (nodes : List Branch) (a b : Node) (v : ℕ)
    → (if node_holds nodes a v then node_holds nodes b v else node_holds nodes (Leaf false) v)
    ≡ (node_holds nodes a v && node_holds nodes b v)
means_and nodes a b v = rw (holds_leaf nodes false v) (and_by (node_holds nodes a v) (node_holds nodes b v))

pub means_or : (nodes : List Branch) (a b : Node) (v : ℕ)
    → (if node_holds nodes a v then node_holds nodes (Leaf true) v else node_holds nodes b v)
    ≡ (node_holds nodes a v || node_holds nodes b v)
means_or nodes a b v = rw (holds_leaf nodes true v) (or_by (node_holds nodes a v) (node_holds nodes b v))

made_by : (nodes : List Branch) (b : Bool) (v : ℕ) → node_holds nodes (if b then Leaf true else Leaf false) v ≡ b
made_by nodes true v = holds_leaf nodes true v
made_by nodes false v = holds_leaf nodes false v

pub made_input : (nodes : List Branch) (k : ℕ) (n : Node)
    → IsMade nodes (record { variable = k; low = Leaf false; high = Leaf true }) n → IsFor nodes (bit k) n
made_input nodes k n p = record {
  there = p.there;
  meaning = λ v. p.meaning v ∙ made_by nodes (bit k v) v;
}
