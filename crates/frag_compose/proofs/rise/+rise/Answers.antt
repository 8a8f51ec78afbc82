use Rattle.std.proofs.Common.{◌≡◌, ℕ, ◌+◌, ap, sym, subst}
use Rattle.pbs_ast.specs.declared.tree.Tree.{Tree}
use Rattle.pbs_ast.specs.declared.tree.TreeKind.{TreeKind}
use Rattle.pbs_ast.specs.Trees.{tree_of, tree_from, nullable, has_terminal}
use Rattle.net_core.specs.declared.gate.Wire.{Wire}
use Rattle.net_core.specs.Circuits.{Circuit}
use Rattle.net_core.specs.Building.{Extends}
use Rattle.frag_compose.specs.declared.nodes.Risen.{Risen}
use Rattle.frag_compose.specs.inner.Plans.{RisesTo, signals_of}
use Rattle.frag_compose.proofs.Rising.{rises_later, seq_rises, choice_rises, star_rises, scope_rises}
use Rattle.frag_compose.proofs.rise.+rise.Goals as goal

-- what a call on a part of the tree gives, of the part as the tree has it
at_part : (b : Circuit) (n m : ℕ) (o : Wire) (risen : Risen) (lent part : Tree) → lent ≡ part
    → RisesTo b n m (tree_of lent) o risen → RisesTo b n m (tree_of part) o risen
at_part b n m o risen lent part e r = subst (λ (tree : Tree). RisesTo b n m (tree_of tree) o risen) e r

-- and after a later call
part_later : (a b : Circuit) (k i n m : ℕ) (o : Wire) (risen : Risen) (lent part : Tree) → lent ≡ part
    → RisesTo a n m (tree_of lent) o risen → Extends a b k i → RisesTo b n m (tree_of part) o risen
part_later a b k i n m o risen lent part e r x =
    rises_later a b k i (n + m) risen (signals_of n (tree_of part) o) (at_part a n m o risen lent part e r) x

may_be_empty : (lent part : Tree) → lent ≡ part → nullable (tree_of lent) ≡ nullable (tree_of part)
may_be_empty lent part e = ap (λ (tree : Tree). nullable (tree_of tree)) e

may_stay : (lent part : Tree) → lent ≡ part → has_terminal (tree_of lent) ≡ has_terminal (tree_of part)
may_stay lent part e = ap (λ (tree : Tree). has_terminal (tree_of tree)) e

pub returns-in_ok-risen-in-Seq-clause-risen : goal.returns-in_ok-risen-in-Seq-clause-risen
returns-in_ok-risen-in-Seq-clause-risen t c =
    let n = c.args.places in
    let m = c.args.actions in
    let o = c.args.outer in
    let span = c.args.tree.now.span in
    let number = c.args.tree.now.number in
    let first = c.in_ok-first-in-Seq.first in
    let second = c.in_ok-second-in-Seq.second in
    let risen = c.in_ok-risen-in-Seq.risen in
    let made = c.in_ok-risen-in-Seq.ensures in
    let mid = c.rise-in-Seq.new.b in
    let p = part_later _ mid _ _ n m o first _ _ c.deref.ensures c.in_ok-first-in-Seq.ensures.risen
    c.in_ok-second-in-Seq.ensures.extends in
    let q = at_part mid n m o second _ _ c.deref-in-Seq.ensures c.in_ok-second-in-Seq.ensures.risen in
    subst (λ (kind : TreeKind). RisesTo c.sequence.new.b n m (tree_from span number kind) o risen) (sym c.in-Seq.is)
    (seq_rises mid c.sequence.new.b _ _ (n + m) made.extends first second risen _ _ _ _ _ _ _ _
    (may_be_empty _ _ c.deref-in-Seq-2.ensures) (may_be_empty _ _ c.deref-in-Seq-3.ensures)
    (may_stay _ _ c.deref-in-Seq-3.ensures) p q made.ends made.stays made.plan)

pub returns-in_ok-risen-in-Choice-clause-risen : goal.returns-in_ok-risen-in-Choice-clause-risen
returns-in_ok-risen-in-Choice-clause-risen t c =
    let n = c.args.places in
    let m = c.args.actions in
    let o = c.args.outer in
    let span = c.args.tree.now.span in
    let number = c.args.tree.now.number in
    let first = c.in_ok-first-in-Choice.first in
    let second = c.in_ok-second-in-Choice.second in
    let risen = c.in_ok-risen-in-Choice.risen in
    let made = c.in_ok-risen-in-Choice.ensures in
    let mid = c.rise-in-Choice-2.new.b in
    let p = part_later _ mid _ _ n m o first _ _ c.deref-in-Choice.ensures c.in_ok-first-in-Choice.ensures.risen
    c.in_ok-second-in-Choice.ensures.extends in
    let q = at_part mid n m o second _ _ c.deref-in-Choice-2.ensures c.in_ok-second-in-Choice.ensures.risen in
    subst (λ (kind : TreeKind). RisesTo c.choice.new.b n m (tree_from span number kind) o risen) (sym c.in-Choice.is)
    (choice_rises mid c.choice.new.b _ _ (n + m) made.extends first second risen _ _ p q made.ends made.stays made.plan)

pub returns-in_ok-risen-in-Star-clause-risen : goal.returns-in_ok-risen-in-Star-clause-risen
returns-in_ok-risen-in-Star-clause-risen t c =
    let n = c.args.places in
    let m = c.args.actions in
    let o = c.args.outer in
    let span = c.args.tree.now.span in
    let number = c.args.tree.now.number in
    let body = c.in_ok-body-in-Star.body in
    let risen = c.in_ok-risen-in-Star.risen in
    let made = c.in_ok-risen-in-Star.ensures in
    let mid = c.rise-in-Star.new.b in
    let p = at_part mid n m o body _ _ c.deref-in-Star.ensures c.in_ok-body-in-Star.ensures.risen in
    subst (λ (kind : TreeKind). RisesTo c.star.new.b n m (tree_from span number kind) o risen) (sym c.in-Star.is)
    (star_rises mid c.star.new.b _ _ (n + m) made.extends body risen _ _ _
    (may_stay _ _ c.deref-in-Star-2.ensures) p made.ends made.stays made.plan)

pub returns-in_ok-risen-in-Scope-clause-risen : goal.returns-in_ok-risen-in-Scope-clause-risen
returns-in_ok-risen-in-Scope-clause-risen t c =
    let n = c.args.places in
    let m = c.args.actions in
    let o = c.args.outer in
    let span = c.args.tree.now.span in
    let number = c.args.tree.now.number in
    let body = c.in_ok-body-in-Scope.body in
    let trap = c.in_ok-trap-in-Scope.trap in
    let after = c.in_ok-after-in-Scope.after in
    let risen = c.in_ok-risen-in-Scope.risen in
    let made = c.in_ok-risen-in-Scope.ensures in
    let mid = c.rise-in-Scope-2.new.b in
    let end = c.rise-in-Scope-3.new.b in
    let later = c.in_ok-after-in-Scope.ensures.extends in
    let p = part_later _ mid _ _ n m o body _ _ c.deref-in-Scope.ensures c.in_ok-body-in-Scope.ensures.risen
    c.in_ok-trap-in-Scope.ensures.extends in
    let p' = rises_later mid end _ _ (n + m) body _ p later in
    let q = part_later mid end _ _ n m o trap _ _ c.deref-in-Scope-2.ensures c.in_ok-trap-in-Scope.ensures.risen
    later in
    let r = at_part end n m o after _ _ c.deref-in-Scope-3.ensures c.in_ok-after-in-Scope.ensures.risen in
    subst (λ (kind : TreeKind). RisesTo c.scope.new.b n m (tree_from span number kind) o risen) (sym c.in-Scope.is)
    (scope_rises end c.scope.new.b _ _ (n + m) made.extends body trap after risen _ _ _ _ _ _ _
    (may_be_empty _ _ c.deref-in-Scope-4.ensures) (may_stay _ _ c.deref-in-Scope-4.ensures)
    p' q r made.ends made.stays made.plan)
