use Rattle.std.proofs.Common.{◌≡◌, ℕ, List, Option, Some, None, refl, subst, arith}
use Rattle.std.specs.Prelude.{slice_get}
use Rattle.std.proofs.lemmas.Option.{slice_get_within}
use Rattle.std.proofs.lemmas.Bool.{iff_false}
use Rattle.pbs_check.specs.inner.Searching.{Spreads}
use Rattle.pbs_check.proofs.CircleLemmas.{rooted_at, no_circle, not_searched, circles_more, keeps_roots, has_root}
use Rattle.pbs_check.proofs.circles.Circles.find.Goals as goal

pub returns-then-not-has_label-clause-found : goal.returns-then-not-has_label-clause-found
returns-then-not-has_label-clause-found c within =
    let roots = c.args.self.roots.items in
    let P : List (Option ℕ) → Type 0 = λ rs. slice_get rs c.args.root ≡ Some None → ⊥ in
    rooted_at roots c.args.root (omega (arith, within, c.requires.circles.roots.size))
    (subst P c.as_slice.ensures.value (iff_false c.has_label.ensures c.if-not-has_label.true))

pub spread-requires-clause-there : goal.spread-requires-clause-there
spread-requires-clause-there c =
    let P : List (Option ℕ) → Type 0 = λ rs. slice_get rs c.args.root ≡ Some None in
    let none = subst P c.as_slice.ensures.value (c.has_label.ensures.0 c.if-not-has_label.false) in
    let h = slice_get_within c.args.self.roots.items c.args.root None none in
    omega (arith, h, c.requires.circles.roots.size, c.requires.circles.size)

pub spread-requires-clause-none : goal.spread-requires-clause-none
spread-requires-clause-none c =
    let P : List (Option ℕ) → Type 0 = λ rs. slice_get rs c.args.root ≡ Some None in
    let none = subst P c.as_slice.ensures.value (c.has_label.ensures.0 c.if-not-has_label.false) in
    not_searched c.args.graph.now.uses.items c.args.self c.args.root c.requires.circles none

pub spread-requires-2-clause-there : goal.spread-requires-2-clause-there
spread-requires-2-clause-there c =
    let P : List (Option ℕ) → Type 0 = λ rs. slice_get rs c.args.root ≡ Some None in
    let none = subst P c.as_slice.ensures.value (c.has_label.ensures.0 c.if-not-has_label.false) in
    slice_get_within c.args.self.roots.items c.args.root None none

pub spread-requires-2-clause-none : goal.spread-requires-2-clause-none
spread-requires-2-clause-none c =
    let P : List (Option ℕ) → Type 0 = λ rs. slice_get rs c.args.root ≡ Some None in
    let none = subst P c.as_slice.ensures.value (c.has_label.ensures.0 c.if-not-has_label.false) in
    no_circle c.args.graph.now.uses.items c.args.self.roots.items c.args.root c.requires.circles.roots none

pub returns : goal.returns
returns c =
    let graph = c.args.graph.now in let uses = graph.uses.items in let root = c.args.root in
    let old = c.args.self in let back = c.in_ok-back.back.items in let roots = c.in_ok-roots.roots.items in
    let P : List (Option ℕ) → Type 0 = λ rs. slice_get rs root ≡ Some None in
    let none = subst P c.as_slice.ensures.value (c.has_label.ensures.0 c.if-not-has_label.false) in
    let U : List _ → Type 0 = λ us. Spreads us c.as_slice-2.result.now None root old.back.items back in
    let L : List (Option ℕ) → Type 0 = λ ls. Spreads graph.users.items ls None root old.back.items back in
    let went = subst L c.as_slice-2.ensures.value (subst U c.as_slice-users.ensures.value c.in_ok-back.ensures) in
    let T : List _ → Type 0 = λ ts. Spreads ts c.as_slice-3.result.now (Some root) root old.roots.items roots in
    let B : List (Option ℕ) → Type 0 = λ bs. Spreads graph.targets.items bs (Some root) root old.roots.items roots in
    let found = subst B c.as_slice-3.ensures.value (subst T c.as_slice-targets.ensures.value c.in_ok-roots.ensures) in
    record {
      circles = circles_more uses graph.users.items graph.targets.items c.requires.closed c.requires.users
          c.requires.targets root old back roots c.requires.circles none went found _ refl refl;
      kept = keeps_roots uses graph.users.items graph.targets.items c.requires.closed c.requires.users
          c.requires.targets root old back roots c.requires.circles none went found;
      found = λ within. has_root uses graph.users.items graph.targets.items c.requires.closed c.requires.users
          c.requires.targets root old back roots c.requires.circles none went found;
    }
