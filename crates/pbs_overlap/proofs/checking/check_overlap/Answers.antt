use Rattle.std.proofs.Common.{◌≡◌, ◌<◌, ◌∙◌, ◌++◌, Some, true, get_or, arith, length, ap, rules, sym}
use Rattle.pbs_ast.specs.Trees.{Tree, tree_of}
use Rattle.pbs_ast.specs.Sound.{scopes_right}
use Rattle.pbs_edges.proofs.Numbering.{IsNumbered, is_numbered}
use Rattle.pbs_overlap.specs.declared.ranges.ScopeRange.{ScopeRange}
use Rattle.pbs_overlap.specs.Ranges.{ranges}
use Rattle.pbs_overlap.proofs.JointLemmas.{within_list}
use Rattle.pbs_overlap.proofs.Spans.{span_at}
use Rattle.std.proofs.lemmas.Option.{get_or_from_slice_get}
use Rattle.pbs_overlap.proofs.Verdict.{none_refused, lowest_is, range_of_refused, starts_below, few_starts, told}
use Rattle.pbs_overlap.proofs.checking.check_overlap.Goals as goal

pub search-requires-clause-few : goal.search-requires-clause-few
search-requires-clause-few c =
    let m = c.args.main.now in
    rw c.as_slice.ensures
    (few_starts (tree_of m.tree) (is_numbered (tree_of m.tree) (m.sound).counted) ((m.sound).proper).scopes
    c.args.edges.now c.requires c.in_ok-plan.plan c.in_ok-plan.ensures)

pub search-requires-clause-starts : goal.search-requires-clause-starts
search-requires-clause-starts c =
    let m = c.args.main.now in
    rw c.as_slice.ensures
    (starts_below (tree_of m.tree) (is_numbered (tree_of m.tree) (m.sound).counted) ((m.sound).proper).scopes
    c.args.edges.now c.requires c.in_ok-plan.plan c.in_ok-plan.ensures)

pub index-requires : goal.index-requires
index-requires c =
    let m = c.args.main.now in
    let main : Tree = tree_of m.tree in
    let number : IsNumbered main = is_numbered main (m.sound).counted in
    let right : scopes_right main ≡ true = ((m.sound).proper).scopes in
    let searched = rw c.as_slice.ensures at c.in_ok-reached.ensures in
    let scopes : c.push_ranges.new.out.items ≡ ranges main =
    c.in_ok-push_ranges.ensures ∙ ap (λ xs. xs ++ ranges main) c.new-ranges.ensures.items in
    let low = lowest_is main number right c.args.edges.now c.requires c.in_ok-plan.plan c.in_ok-plan.ensures
    c.in_ok-reached.reached searched c.in-Some.s c.in-Some.ensures in
    let r = range_of_refused main number right c.args.edges.now c.requires c.in_ok-plan.plan c.in_ok-plan.ensures
    c.in-Some.s low.0 in
    let there : c.in-Some.s < length (ranges main) = within_list (ranges main) c.in-Some.s r.0 r.1 in
    let size : length c.push_ranges.new.out.items ≡ length (ranges main) = ap length scopes in
    let inside : c.in-Some.s < length c.push_ranges.new.out.items = omega arith in
    search rules

pub returns-in-Some-clause-cause : goal.returns-in-Some-clause-cause
returns-in-Some-clause-cause c =
    let m = c.args.main.now in
    let main : Tree = tree_of m.tree in
    let number : IsNumbered main = is_numbered main (m.sound).counted in
    let right : scopes_right main ≡ true = ((m.sound).proper).scopes in
    let searched = rw c.as_slice.ensures at c.in_ok-reached.ensures in
    let scopes : c.push_ranges.new.out.items ≡ ranges main =
    c.in_ok-push_ranges.ensures ∙ ap (λ xs. xs ++ ranges main) c.new-ranges.ensures.items in
    let low = lowest_is main number right c.args.edges.now c.requires c.in_ok-plan.plan c.in_ok-plan.ensures
    c.in_ok-reached.reached searched c.in-Some.s c.in-Some.ensures in
    let r = range_of_refused main number right c.args.edges.now c.requires c.in_ok-plan.plan c.in_ok-plan.ensures
    c.in-Some.s low.0 in
    let read : c.index.result.now ≡ r.0 =
    c.index.ensures ∙ (ap (λ xs. get_or xs c.in-Some.s c.index.result.now) scopes
    ∙ get_or_from_slice_get (ranges main) c.in-Some.s r.0 c.index.result.now r.1) in (
      low.0,
      low.1,
      span_at main 0 0 0 c.in-Some.s c.in-Some.s r.0 number (omega arith) r.1
          ∙ ap (λ (x : ScopeRange). Some x.span) (sym read),
    )

pub returns-clause-accepted : goal.returns-clause-accepted
returns-clause-accepted c =
    let m = c.args.main.now in
    let main : Tree = tree_of m.tree in
    let number : IsNumbered main = is_numbered main (m.sound).counted in
    let right : scopes_right main ≡ true = ((m.sound).proper).scopes in
    let searched = rw c.as_slice.ensures at c.in_ok-reached.ensures in
    none_refused main number right c.args.edges.now c.requires c.in_ok-plan.plan c.in_ok-plan.ensures
    c.in_ok-reached.reached searched c.in-None.ensures

pub returns-clause-together : goal.returns-clause-together
returns-clause-together c =
    let m = c.args.main.now in
    let main : Tree = tree_of m.tree in
    let number : IsNumbered main = is_numbered main (m.sound).counted in
    let right : scopes_right main ≡ true = ((m.sound).proper).scopes in
    let searched = rw c.as_slice.ensures at c.in_ok-reached.ensures in
    told main number right c.args.edges.now c.requires c.in_ok-plan.plan c.in_ok-plan.ensures c.in_ok-reached.reached
    searched c.new.result c.new.ensures.places (ap (λ v. v.items) c.new.ensures.table)
