use Rattle.std.proofs.Common.{◌≡◌, ◌<◌, List, sym, subst}
use Rattle.indexmap.specs.IndexSet.{insert_key}
use Rattle.bool_bdd.specs.declared.node.Branch.{Branch}
use Rattle.bool_bdd.specs.Members.{branch_eq}
use Rattle.bool_bdd.specs.Diagrams.{IsAfter, IsDiagram}
use Rattle.bool_bdd.proofs.Growing.{store_insert, diagram_insert, grows_insert, made_insert}
use Rattle.bool_bdd.proofs.store.Store.place.Goals as goal

pub invariant_of-self : goal.invariant_of-self
invariant_of-self c = rw c.in_err-number.ensures.err c.self.invariant

pub invariant_of-self-2 : goal.invariant_of-self-2
invariant_of-self-2 c =
    rw c.in_ok-number.ensures.keys (store_insert c.self.inside.branches.keys c.args.branch _ _ c.self.invariant
    c.requires.variable (rw c.self.view_is c.requires.low) (rw c.self.view_is c.requires.high))

pub returns-clause-grows : goal.returns-clause-grows
returns-clause-grows c =
    rw (c.in_ok-number.ensures.keys, ← c.self.view_is) (grows_insert c.self.inside.branches.keys c.args.branch)

grown : (nodes new : List Branch) (x : Branch) → new ≡ insert_key branch_eq nodes x → IsDiagram nodes → x.variable < 64
    → IsAfter nodes x.variable x.low → IsAfter nodes x.variable x.high → IsDiagram new
grown nodes new x e d v p q = subst (λ (l : List Branch). IsDiagram l) (sym e) (diagram_insert nodes x d v p q)

pub returns-clause-diagram : goal.returns-clause-diagram
returns-clause-diagram c =
    grown c.self.inside.branches.keys _ c.args.branch c.in_ok-number.ensures.keys c.self.invariant.diagram
    c.requires.variable
    (rw c.self.view_is c.requires.low) (rw c.self.view_is c.requires.high)

pub returns-clause-made : goal.returns-clause-made
returns-clause-made c =
    let d =
    grown c.self.inside.branches.keys _ c.args.branch c.in_ok-number.ensures.keys c.self.invariant.diagram
    c.requires.variable
    (rw c.self.view_is c.requires.low) (rw c.self.view_is c.requires.high) in
    made_insert _ c.args.branch c.in_ok-number.number d c.in_ok-number.ensures.within c.in_ok-number.ensures.stored
