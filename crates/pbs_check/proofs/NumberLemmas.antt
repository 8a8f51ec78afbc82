-- Productions by their names and by their numbers.
use Rattle.std.proofs.Common.{◌≡◌, ◌+◌, ℕ, zero, suc, ◌==◌, Bool, true, false, cond, inl, inr, List, [], ◌∷◌, ◌++◌, map}
use Rattle.std.proofs.Common.{length, Option, Some, None, refl, sym, ap, subst, ◌∙◌, arith}
use Rattle.std.specs.Global.{Vec}
use Rattle.std.specs.Prelude.{Contains, slice_get, if◌then◌else◌}
use Rattle.std.specs.List.{position_from}
use Rattle.std.specs.Cmp.Lexicographic.{pointwise, same_text}
use Rattle.std.proofs.lemmas.Option.{slice_get_within}
use Rattle.std.proofs.lemmas.List.Elements.{Contains-append_cases, Contains-append_left, Contains-append_right}
use Rattle.pbs_ast.proofs.Items.{first_item, later_item, no_item, item_cases}
use Rattle.pbs_base.specs.declared.refusal.Span.{Span}
use Rattle.pbs_base.specs.Words.{AreDifferent}
use Rattle.pbs_ast.specs.declared.syntax.Expr.{Expr}
use Rattle.pbs_ast.specs.declared.syntax.Prod.{Prod}
use Rattle.pbs_ast.specs.declared.syntax.Spec.{Spec}
use Rattle.pbs_names.specs.Forms as forms
use Rattle.pbs_names.specs.Forms.{Form, form}
use Rattle.pbs_names.specs.Naming.{index_of, prod_names, body_of}
use Rattle.pbs_check.specs.declared.graph.Link.{Link}
use Rattle.pbs_check.specs.Least.{IsLeast}
use Rattle.pbs_check.specs.inner.Links as links
use Rattle.pbs_check.specs.inner.Links.{link, link_to, own_links, links_in, links_of, AreLinks, HasUse, At, IsClosed}
use Rattle.pbs_check.specs.inner.Links.{Leads, Step, IsRecursive, Round, HasRecursion}
use Rattle.pbs_check.specs.Recursion.{IsWithin, Whole, OfPart, UsesAt, Here, Reaches, Arrived, ByUse, Rule8, Recursive}
use Rattle.pbs_check.specs.inner.Truth.{AreFirst}
use Rattle.pbs_check.specs.inner.Walking.{below, inside}
use Rattle.pbs_check.proofs.LeastLemmas.{least_same}
use Rattle.pbs_check.proofs.NamedLemmas.{absent}
use Rattle.pbs_check.proofs.StandLemmas.{every, deeper, inner}

-- ---- what stands in an expression
within_inside : (d e : Expr) → IsWithin d e → Contains (inside e) d
within_inside d e Whole = first_item e (below e)
within_inside d e (OfPart {x = x} part more) = deeper e x d part (within_inside d x more)

abbrev AllWithin : Expr → Type 0
AllWithin e = (d : Expr) → Contains (inside e) d → IsWithin d e

inside_within : (e : Expr) → AllWithin e
inside_within = every AllWithin (λ e part d here. elim (inner e d here) [
  | inl same ↦ let P : Expr → Type 0 = IsWithin d in subst P (sym same) Whole
  | inr (x, in_e, there) ↦ OfPart in_e (part x in_e d there)
])

-- ---- the uses of an expression as links
own_same : (f g : List ℕ → Option ℕ) → ((name : List ℕ) → f name ≡ g name) → (s : Span) (k : Form)
    → own_links f s k ≡ own_links g s k
own_same f g same s (forms.Name name) = ap (link_to s) (same name)
own_same f g same s forms.Empty = refl
own_same f g same s (forms.Terminal t) = refl
own_same f g same s (forms.Action name at) = refl
own_same f g same s (forms.Seq es) = refl
own_same f g same s (forms.Choice es) = refl
own_same f g same s (forms.Star e) = refl
own_same f g same s (forms.Plus e) = refl
own_same f g same s (forms.Opt e) = refl
own_same f g same s (forms.Hold t e) = refl
own_same f g same s (forms.Scope e x h) = refl
own_same f g same s (forms.Repeat e m n) = refl

in_same : (f g : List ℕ → Option ℕ) → ((name : List ℕ) → f name ≡ g name) → (es : List Expr)
    → links_in f es ≡ links_in g es
in_same f g same [] = refl
in_same f g same (e ∷ es) = ap (λ ls. ls ++ links_in f es) (own_same f g same e.span (form e))
    ∙ ap (λ ls. own_links g e.span (form e) ++ ls) (in_same f g same es)

pub same_links : (f g : List ℕ → Option ℕ) → ((name : List ℕ) → f name ≡ g name) → (ps : List Prod)
    → map (links_of f) ps ≡ map (links_of g) ps
same_links f g same [] = refl
same_links f g same (p ∷ ps) = ap (λ ls. ls ∷ map (links_of f) ps) (in_same f g same (inside p.body))
    ∙ ap (λ xs. links_of g p ∷ xs) (same_links f g same ps)

-- a link among those of an expression is the use of a name
record IsNamed (f : List ℕ → Option ℕ) (e : Expr) (l : Link) : Type 0 where
  name : List ℕ
  is : form e ≡ forms.Name name
  number : f name ≡ Some l.to
  place : e.span ≡ l.span

to_link : (f : List ℕ → Option ℕ) (e : Expr) (name : List ℕ) (o : Option ℕ) (l : Link) → form e ≡ forms.Name name
    → f name ≡ o → Contains (link_to e.span o) l → IsNamed f e l
to_link f e name (Some n) l is number here = elim (item_cases (link n e.span) [] here) [
  | inl same ↦ record {
    name = name;
    is = is;
    number = number
        ∙ ap (λ (x : Link). Some x.to) same;
    place = ap (λ (x : Link). x.span) same;
  }
  | inr more ↦ absurd (no_item more)
]
to_link f e name None l is number here = absurd (no_item here)

own_named : (f : List ℕ → Option ℕ) (e : Expr) (k : Form) (l : Link) → form e ≡ k → Contains (own_links f e.span k) l
    → IsNamed f e l
own_named f e (forms.Name name) l is here = to_link f e name (f name) l is refl here
own_named f e forms.Empty l is here = absurd (no_item here)
own_named f e (forms.Terminal t) l is here = absurd (no_item here)
own_named f e (forms.Action name at) l is here = absurd (no_item here)
own_named f e (forms.Seq es) l is here = absurd (no_item here)
own_named f e (forms.Choice es) l is here = absurd (no_item here)
own_named f e (forms.Star b) l is here = absurd (no_item here)
own_named f e (forms.Plus b) l is here = absurd (no_item here)
own_named f e (forms.Opt b) l is here = absurd (no_item here)
own_named f e (forms.Hold t b) l is here = absurd (no_item here)
own_named f e (forms.Scope b x h) l is here = absurd (no_item here)
own_named f e (forms.Repeat b m n) l is here = absurd (no_item here)

list_named : (f : List ℕ → Option ℕ) (es : List Expr) (l : Link) → Contains (links_in f es) l
    → (e : Expr) × Contains es e × IsNamed f e l
list_named f [] l here = absurd (no_item here)
list_named f (e ∷ es) l here = elim (Contains-append_cases (own_links f e.span (form e)) (links_in f es) l here) [
  | inl first ↦ (e, first_item e es, own_named f e (form e) l refl first)
  | inr more ↦ let rest = list_named f es l more in (rest.0, later_item e es rest.1, rest.2)
]

named_list : (f : List ℕ → Option ℕ) (es : List Expr) (e : Expr) (name : List ℕ) (n : ℕ) → Contains es e
    → form e ≡ forms.Name name → f name ≡ Some n → Contains (links_in f es) (link n e.span)
named_list f [] e name n here is number = absurd (no_item here)
named_list f (x ∷ es) e name n here is number = elim (item_cases x es here) [
  | inl same ↦
      let P : Expr → Type 0 = λ z. Contains (own_links f z.span (form z) ++ links_in f es) (link n e.span) in
      let Q : List Link → Type 0 = λ ls. Contains ls (link n e.span) in
      let own : own_links f e.span (form e) ≡ link n e.span ∷ [] = ap (own_links f e.span) is
      ∙ ap (link_to e.span) number in
      subst P (sym same) (Contains-append_left (own_links f e.span (form e)) (links_in f es) (link n e.span)
      (subst Q (sym own) (first_item (link n e.span) [])))
  | inr more ↦ Contains-append_right (own_links f x.span (form x)) (links_in f es) (link n e.span)
      (named_list f es e name n more is number)
]

-- ---- the number of a name
record IsAt (ps : List Prod) (i n : ℕ) (name : List ℕ) : Type 0 where
  prod : Prod
  place : ℕ
  sum : n ≡ i + place
  there : slice_get ps place ≡ Some prod
  named : prod.name ≡ name

position_at : (name : List ℕ) (i n : ℕ) (ps : List Prod) → position_from (λ w. pointwise ◌==◌ w name) i
    (prod_names ps) ≡ Some n → IsAt ps i n name
position_at name i n [] is = cc
position_at name i n (p ∷ ps) is = chosen (pointwise ◌==◌ p.name name) refl (position_at name (i + 1) n ps) is
  where
    chosen : (b : Bool) → pointwise ◌==◌ p.name name ≡ b → (position_from (λ w. pointwise ◌==◌ w name) (i + 1)
        (prod_names ps) ≡ Some n → IsAt ps (i + 1) n name)
        → cond b (Some i) (position_from (λ w. pointwise ◌==◌ w name) (i + 1) (prod_names ps)) ≡ Some n
        → IsAt (p ∷ ps) i n name
    chosen true same later is = let e : i ≡ n = cc in record {
      prod = p;
      place = 0;
      sum = omega (arith, e);
      there = refl;
      named = same_text p.name name (sym same);
    }
    chosen false other later is = let at = later is in record
        { prod = at.prod; place = suc at.place; sum = omega (arith, at.sum); there = at.there; named = at.named }

pub index_at : (ps : List Prod) (name : List ℕ) (n : ℕ) → index_of (prod_names ps) name ≡ Some n
    → (q : Prod) × (slice_get ps n ≡ Some q) × (q.name ≡ name)
index_at ps name n is =
    let at = position_at name 0 n ps is in let e : at.place ≡ n = omega (arith, at.sum) in
    (at.prod, ap (slice_get ps) (sym e) ∙ at.there, at.named)

name_get : (ps : List Prod) (n : ℕ) (p : Prod) → slice_get ps n ≡ Some p → slice_get (prod_names ps) n ≡ Some p.name
name_get [] n p is = cc
name_get (q ∷ ps) zero p is = let e : q ≡ p = cc in ap (λ (z : Prod). Some z.name) e
name_get (q ∷ ps) (suc n) p is = name_get ps n p is

prod_item : (ps : List Prod) (n : ℕ) (p : Prod) → slice_get ps n ≡ Some p → Contains ps p
prod_item [] n p is = cc
prod_item (q ∷ ps) zero p is = let e : q ≡ p = cc in let P : Prod
    → Type 0 = Contains (q ∷ ps) in subst P e (first_item q ps)
prod_item (q ∷ ps) (suc n) p is = later_item q ps (prod_item ps n p is)

item_prod : (ps : List Prod) (p : Prod) → Contains ps p → (n : ℕ) × (slice_get ps n ≡ Some p)
item_prod [] p here = absurd (no_item here)
item_prod (q ∷ ps) p here = elim (item_cases q ps here) [
  | inl same ↦ (0, ap Some same)
  | inr more ↦ let rest = item_prod
      ps p more in (suc rest.0, rest.1)
]

name_item : (ps : List Prod) (p : Prod) → Contains ps p → Contains (prod_names ps) p.name
name_item [] p here = absurd (no_item here)
name_item (q ∷ ps) p here = elim (item_cases q ps here) [
  | inl same ↦ let P : Prod → Type 0 = λ z. Contains (prod_names (q ∷ ps)) z.name in
      subst P same (first_item q.name (prod_names ps))
  | inr more ↦ later_item q.name (prod_names ps) (name_item ps p more)
]

pub at_index : (ps : List Prod) (n : ℕ) (p : Prod) → AreDifferent (prod_names ps) → slice_get ps n ≡ Some p
    → index_of (prod_names ps) p.name ≡ Some n
at_index ps n p differ there = chosen (index_of (prod_names ps) p.name) refl
  where
    chosen : (o : Option ℕ) → index_of (prod_names ps) p.name ≡ o → index_of (prod_names ps) p.name ≡ Some n
    chosen None is = absurd (absent p.name 0 (prod_names ps) is (name_item ps p (prod_item ps n p there)))
    chosen (Some k) is =
        let at = index_at ps p.name k is in
        is ∙ ap Some (differ.once k n p.name (name_get ps k at.0 at.1 ∙ ap Some at.2) (name_get ps n p there))

body_at : (ps : List Prod) (name : List ℕ) (b : Expr) → body_of ps name ≡ Some b
    → (n : ℕ) × (q : Prod) × (slice_get ps n ≡ Some q) × (q.name ≡ name)
body_at [] name b is = cc
body_at (p ∷ ps) name b is = chosen (pointwise ◌==◌ p.name name) refl (body_at ps name b) is
  where
    chosen : (c : Bool) → pointwise ◌==◌ p.name name ≡ c → (body_of ps name ≡ Some b
        → (n : ℕ) × (q : Prod) × (slice_get ps n ≡ Some q) × (q.name ≡ name))
        → (if c then Some p.body else body_of ps name) ≡ Some b
        → (n : ℕ) × (q : Prod) × (slice_get (p ∷ ps) n ≡ Some q) × (q.name ≡ name)
    chosen true same later is = (0, p, refl, same_text p.name name (sym same))
    chosen false other later is = let rest = later is in (suc rest.0, rest.1, rest.2, rest.3)

-- ---- the table's uses are those of the productions
items_get : (uses : List (Vec Link)) (ls : List (List Link)) (n : ℕ) (v : Vec Link)
    → map (λ (w : Vec Link). w.items) uses ≡ ls → slice_get uses n ≡ Some v → slice_get ls n ≡ Some v.items
items_get uses ls n v same is = ap (λ xs. slice_get xs n) (sym same) ∙ mapped uses n is
  where
    mapped : (xs : List (Vec Link)) (n : ℕ) → slice_get xs n ≡ Some v
        → slice_get (map (λ (w : Vec Link). w.items) xs) n ≡ Some v.items
    mapped [] n is = cc
    mapped (x ∷ xs) zero is = let e : x ≡ v = cc in ap (λ (w : Vec Link). Some w.items) e
    mapped (x ∷ xs) (suc n) is = mapped xs n is

links_prod : (f : List ℕ → Option ℕ) (ps : List Prod) (n : ℕ) (ls : List Link)
    → slice_get (map (links_of f) ps) n ≡ Some ls → (p : Prod) × (slice_get ps n ≡ Some p) × (ls ≡ links_of f p)
links_prod f [] n ls is = cc
links_prod f (p ∷ ps) zero ls is = (p, refl, cc)
links_prod f (p ∷ ps) (suc n) ls is = links_prod f ps n ls is

prod_links : (f : List ℕ → Option ℕ) (uses : List (Vec Link)) (ps : List Prod) (n : ℕ) (p : Prod) → AreLinks f ps uses
    → slice_get ps n ≡ Some p → (v : Vec Link) × (slice_get uses n ≡ Some v) × (v.items ≡ links_of f p)
prod_links f [] [] n p are is = cc
prod_links f [] (q ∷ ps) n p are is = cc
prod_links f (v ∷ uses) [] n p are is = cc
prod_links f (v ∷ uses) (q ∷ ps) zero p are is =
    let e : q ≡ p = cc in let same : v.items ≡ links_of f q = cc in (v, refl, same ∙ ap (links_of f) e)
prod_links f (v ∷ uses) (q ∷ ps) (suc n) p are is = let rest : map (λ (w : Vec Link). w.items) uses ≡ map (links_of f)
    ps = cc in prod_links f uses ps n p rest is

mapped_length : {X Y : Type 0} (f : X → Y) (xs : List X) → length (map f xs) ≡ length xs
mapped_length f [] = refl
mapped_length f (x ∷ xs) = ap suc (mapped_length f xs)

module _ (ps : List Prod) (uses : List (Vec Link)) (differ : AreDifferent (prod_names ps)) (first : AreFirst ps)
    (are : AreLinks (index_of (prod_names ps)) ps uses) where
  record IsUseOf (user used : ℕ) (span : Span) : Type 0 where
    p : Prod
    q : Prod
    here : slice_get ps user ≡ Some p
    there : slice_get ps used ≡ Some q
    uses_it : UsesAt p.body q.name span

  use_of : (user used : ℕ) (span : Span) → HasUse uses user used span → IsUseOf user used span
  use_of user used span (At {v = v} at listed) =
      let p = links_prod (index_of (prod_names ps)) ps user v.items
      (items_get uses (map (links_of (index_of (prod_names ps))) ps) user v are at) in
      let P : List Link → Type 0 = λ ls. Contains ls (link used span) in
      let e = list_named (index_of (prod_names ps)) (inside p.0.body) (link used span) (subst P p.2 listed) in
      let q = index_at ps e.2.name used e.2.number in let Q : Span → Type 0 = UsesAt p.0.body q.0.name in
      record {
        p = p.0;
        q = q.0;
        here = p.1;
        there = q.1;
        uses_it = subst Q e.2.place (Here (inside_within p.0.body e.0 e.1) (e.2.is ∙ ap forms.Name (sym q.2)));
      }

  of_use : (user used : ℕ) (span : Span) (p q : Prod) → slice_get ps user ≡ Some p → slice_get ps used ≡ Some q
      → UsesAt p.body q.name span → HasUse uses user used span
  of_use user used span p q here there (Here {d = d} within is) =
      let v = prod_links (index_of (prod_names ps)) uses ps user p are here in let P : List Link
      → Type 0 = λ ls. Contains ls (link used d.span) in
      At v.1 (subst P (sym v.2) (named_list (index_of (prod_names ps)) (inside p.body) d q.name used
      (within_inside d p.body within) is (at_index ps used q differ there)))

  body_first : (n : ℕ) (p : Prod) → slice_get ps n ≡ Some p → body_of ps p.name ≡ Some p.body
  body_first n p is = first.first p (prod_item ps n p is)

  same_prod : (n : ℕ) (p q : Prod) → slice_get ps n ≡ Some p → slice_get ps n ≡ Some q → p ≡ q
  same_prod n p q a b = let both : Some p ≡ Some q = sym a ∙ b in cc

  leads_reach : (to from : ℕ) (p q : Prod) → slice_get ps to ≡ Some p → slice_get ps from ≡ Some q → Leads uses to from
      → Reaches ps p.name q.name
  leads_reach to from p q at there links.Stay = let P : Prod → Type 0 = λ z. Reaches ps p.name z.name in
      subst P (same_prod to p q at there) Arrived
  leads_reach to from p q at there (Step {via = via} {span = s} uses_it more) =
      let is = use_of from via s uses_it in let same = same_prod from is.p q is.here there in let P : Prod
      → Type 0 = λ z. UsesAt z.body is.q.name s in
      ByUse (body_first from q there) (subst P same is.uses_it) (leads_reach to via p is.q at is.there more)

  via_at : (to : ℕ) (p : Prod) (name : List ℕ) → slice_get ps to ≡ Some p → Reaches ps p.name name
      → (n : ℕ) × (q : Prod) × (slice_get ps n ≡ Some q) × (q.name ≡ name)
  via_at to p name at Arrived = (to, p, at, refl)
  via_at to p name at (ByUse {body = b} is uses_it more) = body_at ps name b is

  same_number : (m n : ℕ) (p q : Prod) → slice_get ps m ≡ Some p → slice_get ps n ≡ Some q → p.name ≡ q.name → m ≡ n
  same_number m n p q a b same = differ.once m n q.name (name_get ps m p a ∙ ap Some same) (name_get ps n q b)

  reach_leads : (to : ℕ) (p : Prod) → slice_get ps to ≡ Some p → (from : ℕ) (q : Prod) (name : List ℕ)
      → slice_get ps from ≡ Some q → q.name ≡ name → Reaches ps p.name name → Leads uses to from
  reach_leads to p at from q name there named Arrived = let P : ℕ
      → Type 0 = Leads uses to in subst P (same_number to from p q at there (sym named)) links.Stay
  reach_leads to p at from q name there named (ByUse {via = via} {body = b} {span = s} is uses_it more) =
      let v = via_at to p via at more in
      let body : Some b ≡ Some q.body = sym is ∙ sym (ap (body_of ps) named) ∙ body_first from q there in
      let e : b ≡ q.body = cc in
      let P : Expr → Type 0 = λ z. UsesAt z via s in let Q : List ℕ → Type 0 = λ n. UsesAt q.body n s in
      Step (of_use from v.0 s q v.1 there v.2 (subst Q (sym v.3) (subst P e uses_it)))
      (reach_leads to p at v.0 v.1 via v.2 v.3 more)

  pub uses_size : length uses ≡ length ps
  uses_size =
      let both = ap length are in let a = mapped_length (λ (v : Vec Link). v.items) uses in
      let b = mapped_length (links_of (index_of (prod_names ps))) ps in
      sym a ∙ both ∙ b

  pub closed_uses : IsClosed uses
  closed_uses user used span uses_it = let is = use_of user used span uses_it in
      let h = slice_get_within ps used is.q is.there in omega (arith, h, uses_size)

  -- a production that is part of a recursion
  record IsRoundOf (user : ℕ) (span : Span) : Type 0 where
    p : Prod
    name : List ℕ
    here : slice_get ps user ≡ Some p
    uses_it : UsesAt p.body name span
    reaches : Reaches ps p.name name

  round_of : (user : ℕ) (span : Span) → IsRecursive uses user span → IsRoundOf user span
  round_of user span (Round {used = used} uses_it leads) =
      let is = use_of user used span uses_it in
      record {
        p = is.p;
        name = is.q.name;
        here = is.here;
        uses_it = is.uses_it;
        reaches = leads_reach user used is.p
            is.q is.here is.there leads;
      }

  of_round : (user : ℕ) (span : Span) (p : Prod) (name : List ℕ) → slice_get ps user ≡ Some p → UsesAt p.body name span
      → Reaches ps p.name name → IsRecursive uses user span
  of_round user span p name here uses_it reaches =
      let v = via_at user p name here reaches in let P : List ℕ → Type 0 = λ n. UsesAt p.body n span in
      Round (of_use user v.0 span p v.1 here v.2 (subst P (sym v.3) uses_it))
      (reach_leads user p here v.0 v.1 name v.2 v.3 reaches)

pub rule_8_is : (spec : Spec) (uses : List (Vec Link)) (found : Option Span) → AreDifferent (prod_names spec.prods)
    → AreFirst spec.prods → AreLinks (index_of (prod_names spec.prods)) spec.prods uses
    → IsLeast (HasRecursion uses) found → IsLeast (Rule8 spec) found
rule_8_is spec uses found differ first are = least_same (HasRecursion uses) (Rule8 spec) found (λ s p. to p)
    (λ s p. from p)
  where
    to : {s : Span} → HasRecursion uses s → Rule8 spec s
    to {s = s} (links.Of {user = u} round) =
        let r = round_of spec.prods uses differ first are u s round in
        Recursive (prod_item spec.prods u r.p r.here) r.uses_it r.reaches

    from : {s : Span} → Rule8 spec s → HasRecursion uses s
    from {s = s} (Recursive {p = p} {name = name} here uses_it reaches) =
        let at = item_prod spec.prods p here in links.Of (of_round spec.prods uses differ first are at.0 s p name at.1
        uses_it reaches)
