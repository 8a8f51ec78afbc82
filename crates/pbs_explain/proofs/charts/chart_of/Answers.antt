use Rattle.std.proofs.Common.{◌≡◌, ◌+◌, ◌-◌, ◌<◌, ◌≤◌, ◌∙◌, ap, arith, length, Some, refl, sym}
use Rattle.std.proofs.lemmas.Option.{slice_get_read}
use Rattle.std.specs.Prelude.{slice_get}
use Rattle.pbs_ast.specs.Trees.{tree_of}
use Rattle.pbs_explain.specs.inner.Charts.{number_of}
use Rattle.pbs_explain.proofs.Listing.{head_charted, number_is}
use Rattle.pbs_explain.proofs.charts.chart_of.Goals as goal

pub overflow_sub-result : goal.overflow_sub-result
overflow_sub-result c =
    let a = c.args in
    let h = head_charted a.run.now a.action a.top a.charts.now (tree_of a.tree.now) c.requires in
    let below : number_of (tree_of a.tree.now) < a.top = h.below in
    let same : number_of (tree_of a.tree.now) ≡ a.tree.now.number = number_is a.tree.now in
    omega arith

pub bounds-as_slice-top : goal.bounds-as_slice-top
bounds-as_slice-top c =
    let a = c.args in
    let h = head_charted a.run.now a.action a.top a.charts.now (tree_of a.tree.now) c.requires in
    let below : number_of (tree_of a.tree.now) < a.top = h.below in
    let there : a.top ≤ length a.charts.now + number_of (tree_of a.tree.now) = h.there in
    let same : number_of (tree_of a.tree.now) ≡ a.tree.now.number = number_is a.tree.now in
    let size : length c.as_slice.result.now ≡ length a.charts.now = ap length c.as_slice.ensures in
    omega arith

pub offset_bounds-as_slice-top : goal.offset_bounds-as_slice-top
offset_bounds-as_slice-top c =
    let a = c.args in
    let h = head_charted a.run.now a.action a.top a.charts.now (tree_of a.tree.now) c.requires in
    let below : number_of (tree_of a.tree.now) < a.top = h.below in
    let there : a.top ≤ length a.charts.now + number_of (tree_of a.tree.now) = h.there in
    let same : number_of (tree_of a.tree.now) ≡ a.tree.now.number = number_is a.tree.now in
    let size : length c.as_slice.result.now ≡ length a.charts.now = ap length c.as_slice.ensures in
    let inside : a.top - (a.tree.now.number + 1) < length c.as_slice.result.now = omega arith in
    record { fits = omega (arith, c.as_slice.type_inv) }

pub returns : goal.returns
returns c =
    let a = c.args in
    let h = head_charted a.run.now a.action a.top a.charts.now (tree_of a.tree.now) c.requires in
    let below : number_of (tree_of a.tree.now) < a.top = h.below in
    let there : a.top ≤ length a.charts.now + number_of (tree_of a.tree.now) = h.there in
    let same : number_of (tree_of a.tree.now) ≡ a.tree.now.number = number_is a.tree.now in
    let size : length c.as_slice.result.now ≡ length a.charts.now = ap length c.as_slice.ensures in
    let chart = c.index-as_slice-top.result in
    let read : slice_get c.as_slice.result.now (a.top - (a.tree.now.number + 1)) ≡ Some chart =
    slice_get_read c.as_slice.result.now (length c.as_slice.result.now) (a.top - (a.tree.now.number + 1)) chart refl
    (omega arith) c.index-as_slice-top.is in
    h.tells chart
    (ap (λ n. slice_get a.charts.now (a.top - (n + 1))) same
    ∙ (ap (λ xs. slice_get xs (a.top - (a.tree.now.number + 1))) (sym c.as_slice.ensures) ∙ read))
