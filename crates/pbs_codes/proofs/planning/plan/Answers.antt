use Rattle.std.proofs.Common.{◌≡◌, ◌∙◌, arith, sym, subst, length}
use Rattle.pbs_ast.specs.Trees.{Tree, tree_of}
use Rattle.pbs_ast.specs.Sound.{place_count}
use Rattle.pbs_codes.specs.inner.Signatures.{AreSignatures}
use Rattle.pbs_codes.specs.inner.Leading.{AreLed}
use Rattle.pbs_codes.proofs.Planned.{starts_within, follows_within, is_code_plan}
use Rattle.pbs_codes.proofs.Wholes.{fits_runs, is_whole}
use Rattle.pbs_codes.proofs.planning.plan.Goals as goal

pub signatures-requires-clause-starts : goal.signatures-requires-clause-starts
signatures-requires-clause-starts c =
    rw (c.as_slice-starts.ensures, c.count_places-places.ensures)
    (starts_within (tree_of c.args.main.now.tree) c.args.edges.now c.requires.edges (c.args.main.now.sound).counted)

pub signatures-requires-clause-follows : goal.signatures-requires-clause-follows
signatures-requires-clause-follows c =
    rw (c.as_slice.ensures, c.count_places-places.ensures)
    (follows_within (tree_of c.args.main.now.tree) c.args.edges.now c.requires.edges (c.args.main.now.sound).counted)

pub group_all-requires : goal.group_all-requires
group_all-requires c =
    let size : length c.deref.result.now ≡ c.args.pairs.now.places =
    rw c.deref.ensures.value (c.in_ok-signatures.ensures.size ∙ (c.count_places-places.ensures
    ∙ sym c.requires.pairs.places)) in
    rw c.deref-2.ensures.value
    (λ q h. let l = ((c.in_ok-leading.ensures).firsts_are q).0 h in let low = l.0 in omega arith)

pub returns-clause-plan : goal.returns-clause-plan
returns-clause-plan c =
    let main : Tree = tree_of c.args.main.now.tree in
    let signs : AreSignatures c.args.edges.now.starts c.args.edges.now.follows (place_count main)
    c.deref.result.now =
    rw (
      c.deref.ensures.value,
      ← c.as_slice-starts.ensures,
      ← c.as_slice.ensures,
      ← c.count_places-places.ensures,
    ) c.in_ok-signatures.ensures in
    let l = c.in_ok-leading.leading in
    let led : AreLed c.args.pairs.now c.deref.result.now (place_count main) l.never.items l.leaders.items
    l.firsts.items l.seen =
    subst (λ n. AreLed c.args.pairs.now c.deref.result.now n l.never.items l.leaders.items l.firsts.items l.seen)
    signs.size c.in_ok-leading.ensures in
    is_code_plan main c.args.edges.now c.requires.edges c.args.pairs.now c.requires.pairs c.deref.result.now signs
    l.never.items l.leaders.items l.firsts.items l.seen _ led (c.in_ok-listed.ensures ∙ c.deref-3.ensures.value)
    (c.in_ok-listed-2.ensures ∙ c.deref-4.ensures.value)
    (rw c.deref-2.ensures.value at (c.in_ok-groups.ensures main c.requires.pairs))

pub returns-clause-runs : goal.returns-clause-runs
returns-clause-runs c = fits_runs (tree_of c.args.main.now.tree) _ (returns-clause-plan c) c.args.main.now.sound
    c.requires.accepted

pub returns-clause-whole : goal.returns-clause-whole
returns-clause-whole c = is_whole (tree_of c.args.main.now.tree) _ (returns-clause-plan c)
