-- A list of charts that gains those of one more part.
use Rattle.std.proofs.Common.{◌≡◌, ℕ, ◌+◌, ◌-◌, ◌<◌, ◌≤◌, ◌&&◌, List, [], ◌∷◌, ◌++◌, length, Some, IsTrue, refl, sym, ap}
use Rattle.std.proofs.Common.{◌∙◌, arith, subst, nat_eq}
use Rattle.std.specs.Prelude.{slice_get, Option, None}
use Rattle.std.proofs.lemmas.Bool.{and_parts, eqb-true}
use Rattle.std.proofs.lemmas.List.{length_push}
use Rattle.pbs_base.specs.declared.refusal.Span.{Span}
use Rattle.pbs_ast.specs.declared.tree.Tree as program
use Rattle.pbs_ast.specs.declared.tree.TreeKind as kind
use Rattle.pbs_ast.specs.Trees.{Spot, Tree, tree_of, tree_from, Empty, Terminal, Action, Seq, Choice, Star, Hold, Scope}
use Rattle.pbs_ast.specs.Sound.{inputs_below, nodes_from, visit_count}
use Rattle.pbs_covers.proofs.Grids.{slice_get-left, slice_get-seam}
use Rattle.pbs_explain.specs.declared.step.Chart.{Chart}
use Rattle.pbs_explain.specs.inner.Charts.{Tells, number_of, IsCharted, AreCharted, PartsCharted, Charts, Gains}

number_from : (span : Span) (n : ℕ) (k : kind.TreeKind) → number_of (tree_from span n k) ≡ n
number_from span n kind.Empty = refl
number_from span n (kind.Terminal p t) = refl
number_from span n (kind.Action a) = refl
number_from span n (kind.Seq' _ s k e _ s' k' f) = refl
number_from span n (kind.Choice' _ s k e _ s' k' f) = refl
number_from span n (kind.Star' _ s k e) = refl
number_from span n (kind.Hold' t _ s k e) = refl
number_from span n (kind.Scope' p _ s k e _ s' k' x _ s'' k'' h) = refl

-- the number of a node is that of the program's tree
pub number_is : (t : program.Tree) → number_of (tree_of t) ≡ t.number
number_is t = number_from t.span t.number t.kind

pub number_first : (e : Tree) (first : ℕ) → IsTrue (nodes_from e first) → number_of e ≡ first
number_first (Empty at) n h = eqb-true at.number n h
number_first (Terminal at p t) n h = eqb-true at.number n h
number_first (Action at b) n h = eqb-true at.number n h
number_first (Seq at e f) n h = eqb-true at.number n (and_parts _ _ h).0
number_first (Choice at e f) n h = eqb-true at.number n (and_parts _ _ h).0
number_first (Star at e) n h = eqb-true at.number n (and_parts _ _ h).0
number_first (Hold at t e) n h = eqb-true at.number n (and_parts _ _ h).0
number_first (Scope at s e x f) n h = eqb-true at.number n (and_parts _ _ h).0

pub head_charted : (v : List ℕ) (a top : ℕ) (charts : List Chart) (e : Tree) → AreCharted v a top charts e
    → IsCharted v a top charts e
head_charted v a top charts (Empty at) c = c
head_charted v a top charts (Terminal at p t) c = c
head_charted v a top charts (Action at b) c = c
head_charted v a top charts (Seq at e f) c = c.0
head_charted v a top charts (Choice at e f) c = c.0
head_charted v a top charts (Star at e) c = c.0
head_charted v a top charts (Hold at t e) c = c.0
head_charted v a top charts (Scope at s e x h) c = c.0

pub all_charted : (v : List ℕ) (a top : ℕ) (charts : List Chart) (e : Tree) → IsCharted v a top charts e
    → PartsCharted v a top charts e → AreCharted v a top charts e
all_charted v a top charts (Empty at) c p = c
all_charted v a top charts (Terminal at q t) c p = c
all_charted v a top charts (Action at b) c p = c
all_charted v a top charts (Seq at e f) c p = (c, p.0, p.1)
all_charted v a top charts (Choice at e f) c p = (c, p.0, p.1)
all_charted v a top charts (Star at e) c p = (c, p)
all_charted v a top charts (Hold at t e) c p = (c, p)
all_charted v a top charts (Scope at s e x h) c p = (c, p.0, p.1, p.2)

-- what stood in the list stands there still
abbrev pub Kept : List Chart → List Chart → Type 0
Kept old new = (k : ℕ) → k < length old → slice_get new k ≡ slice_get old k

module _ (v : List ℕ) (a top : ℕ) (old new : List Chart) (kept : Kept old new) (longer : length old ≤ length new) where
  one_kept : (e : Tree) → IsCharted v a top old e → IsCharted v a top new e
  one_kept e c =
      let below : number_of e < top = c.below in
      let there : top ≤ length old + number_of e = c.there in
      record {
        below = c.below;
        there = omega arith;
        tells = λ chart found. c.tells chart (sym (kept (top - (number_of e + 1)) (omega arith)) ∙ found);
      }

  pub all_kept : (e : Tree) → AreCharted v a top old e → AreCharted v a top new e
  all_kept (Empty at) c = one_kept (Empty at) c
  all_kept (Terminal at p t) c = one_kept (Terminal at p t) c
  all_kept (Action at b) c = one_kept (Action at b) c
  all_kept (Seq at e f) c = (one_kept (Seq at e f) c.0, all_kept e c.1, all_kept f c.2)
  all_kept (Choice at e f) c = (one_kept (Choice at e f) c.0, all_kept e c.1, all_kept f c.2)
  all_kept (Star at e) c = (one_kept (Star at e) c.0, all_kept e c.1)
  all_kept (Hold at t e) c = (one_kept (Hold at t e) c.0, all_kept e c.1)
  all_kept (Scope at s e x h) c = (one_kept (Scope at s e x h) c.0, all_kept e c.1, all_kept x c.2, all_kept h c.3)

  pub parts_kept : (e : Tree) → PartsCharted v a top old e → PartsCharted v a top new e
  parts_kept (Empty at) c = tt
  parts_kept (Terminal at p t) c = tt
  parts_kept (Action at b) c = tt
  parts_kept (Seq at e f) c = (all_kept e c.0, all_kept f c.1)
  parts_kept (Choice at e f) c = (all_kept e c.0, all_kept f c.1)
  parts_kept (Star at e) c = all_kept e c
  parts_kept (Hold at t e) c = all_kept e c
  parts_kept (Scope at s e x h) c = (all_kept e c.0, all_kept x c.1, all_kept h c.2)

abbrev told : Chart → Option Chart → Chart
told other None = other
told other (Some chart) = chart

-- the chart of the next number down is pushed
pub gains : (v : List ℕ) (a top : ℕ) (old new : List Chart) (e : Tree) (chart : Chart) → new ≡ old ++ chart ∷ []
    → number_of e + 1 + length old ≡ top → Tells v a e chart → Gains v a top old new e
gains v a top old new e chart pushed room tells =
    let size : length new ≡ length old + 1 = ap length pushed ∙ length_push old chart in
    let here : top - (number_of e + 1) ≡ length old = omega arith in
    let seam : slice_get new (top - (number_of e + 1)) ≡ Some chart =
    ap (slice_get new) here ∙ (ap (λ xs. slice_get xs (length old)) pushed ∙ slice_get-seam old chart []) in
    record {
      kept = λ k lt. ap (λ xs. slice_get xs k) pushed ∙ slice_get-left old (chart ∷ []) k lt;
      grown = size;
      charted = record {
        below = omega arith;
        there = omega arith;
        tells = λ other found. subst (Tells v a e) (ap (told chart) (sym seam ∙ found)) tells;
      };
    }

-- a node is added after its parts
pub node_added : (v : List ℕ) (a top parts : ℕ) (old mid new : List Chart) (e : Tree) → Kept old mid
    → length mid ≡ length old + parts → visit_count e ≡ 1 + parts → PartsCharted v a top mid e
    → Gains v a top mid new e → Charts v a top old new e
node_added v a top parts old mid new e kept size count charted g =
    let grown : length new ≡ length mid + 1 = g.grown in
    record {
      kept = λ k lt. g.kept k (omega arith) ∙ kept k lt;
      grown = omega arith;
      charted = all_charted v a top new e g.charted (parts_kept v a top mid new g.kept (omega arith) e charted);
    }

pub kept_same : (old : List Chart) → Kept old old
kept_same old k lt = refl

pub kept_twice : (old mid new : List Chart) → length old ≤ length mid → Kept old mid → Kept mid new → Kept old new
kept_twice old mid new le p q k lt = q k (omega arith) ∙ p k lt

module _ (v : List ℕ) (a top : ℕ) where
  pub leaf_added : (old new : List Chart) (e : Tree) → visit_count e ≡ 1 → PartsCharted v a top old e
      → Gains v a top old new e → Charts v a top old new e
  leaf_added old new e count charted g =
      node_added v a top 0 old old new e (kept_same old) (omega arith) (omega arith) charted g

  pub two_charted : (old one two : List Chart) (e f : Tree) → Charts v a top old one f → Charts v a top one two e
      → AreCharted v a top two e × AreCharted v a top two f
  two_charted old one two e f c d =
      let grown : length two ≡ length one + visit_count e = d.grown in
      (d.charted, all_kept v a top one two d.kept (omega arith) f c.charted)

  pub three_charted : (old one two three : List Chart) (e x h : Tree) → Charts v a top old one h
      → Charts v a top one two x → Charts v a top two three e
      → AreCharted v a top three e × AreCharted v a top three x × AreCharted v a top three h
  three_charted old one two three e x h b c d =
      let q = two_charted old one two x h b c in
      let grown : length three ≡ length two + visit_count e = d.grown in (
        d.charted,
        all_kept v a top two three d.kept (omega arith) x q.0,
        all_kept v a top two three d.kept (omega arith) h q.1,
      )

  pub two_added : (old one two new : List Chart) (node e f : Tree) → visit_count node ≡ 1 + visit_count e + visit_count f
      → PartsCharted v a top two node → Charts v a top old one f → Charts v a top one two e
      → Gains v a top two new node → Charts v a top old new node
  two_added old one two new node e f count charted c d g =
      let first : length one ≡ length old + visit_count f = c.grown in
      let second : length two ≡ length one + visit_count e = d.grown in
      node_added v a top (visit_count e + visit_count f) old two new node
      (kept_twice old one two (omega arith) c.kept d.kept) (omega arith) (omega arith) charted g

  pub one_added : (old one new : List Chart) (node e : Tree) → visit_count node ≡ 1 + visit_count e
      → PartsCharted v a top one node → Charts v a top old one e → Gains v a top one new node
      → Charts v a top old new node
  one_added old one new node e count charted c g =
      node_added v a top (visit_count e) old one new node c.kept c.grown count charted g

  pub three_added : (old one two three new : List Chart) (node e x h : Tree)
      → visit_count node ≡ 1 + visit_count e + visit_count x + visit_count h
      → PartsCharted v a top three node → Charts v a top old one h → Charts v a top one two x
      → Charts v a top two three e → Gains v a top three new node → Charts v a top old new node
  three_added old one two three new node e x h count charted b c d g =
      let first : length one ≡ length old + visit_count h = b.grown in
      let second : length two ≡ length one + visit_count x = c.grown in
      let third : length three ≡ length two + visit_count e = d.grown in
      node_added v a top (visit_count e + visit_count x + visit_count h) old three new node
      (kept_twice old two three (omega arith) (kept_twice old one two (omega arith) b.kept c.kept) d.kept)
      (omega arith) (omega arith) charted g

pub numbered_self : (e : Tree) (n : ℕ) → IsTrue (nodes_from e n) → IsTrue (nodes_from e (number_of e))
numbered_self e n h = subst (λ k. IsTrue (nodes_from e k)) (sym (number_first e n h)) h

-- the after part comes last
pub scope_last : (at : Spot) (s size top : ℕ) (e x h : Tree) → IsTrue (inputs_below 64 (Scope at s e x h))
    → IsTrue (nodes_from (Scope at s e x h) at.number) → at.number + visit_count (Scope at s e x h) + size ≡ top
    → IsTrue (inputs_below 64 h) × IsTrue (nodes_from h (number_of h)) × (number_of h + visit_count h + size ≡ top)
scope_last at s size top e x h inputs numbered room =
    let n = at.number in
    let after = n + 1 + visit_count e + visit_count x in
    let i = and_parts (inputs_below 64 x) (inputs_below 64 h)
    (and_parts (inputs_below 64 e) (inputs_below 64 x && inputs_below 64 h) inputs).1 in
    let rest = nodes_from x (n + 1 + visit_count e) && nodes_from h after in
    let c = and_parts (nodes_from e (n + 1)) rest (and_parts (nat_eq n n) (nodes_from e (n + 1) && rest) numbered).1 in
    let g = and_parts (nodes_from x (n + 1 + visit_count e)) (nodes_from h after) c.1 in
    let first : number_of h ≡ at.number + 1 + visit_count e + visit_count x =
    number_first h (at.number + 1 + visit_count e + visit_count x) g.1 in
    (i.1, numbered_self h _ g.1, omega arith)
