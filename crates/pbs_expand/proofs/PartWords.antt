-- What may be empty, what stands in a part and what is right, for parts and nodes.
use Rattle.std.proofs.Common.{◌⊎◌, List}
use Rattle.std.specs.Prelude.{Contains}
use Rattle.pbs_ast.specs.declared.syntax.Expr.{Expr}
use Rattle.pbs_ast.specs.declared.syntax.Prod.{Prod}
use Rattle.pbs_ast.specs.declared.syntax.Spec.{Spec}
use Rattle.pbs_names.specs.Forms.{Form, form, Stands}
use Rattle.pbs_names.specs.Reach.{MayBeEmpty, HasTerminal, HasAction, HasScope}
use Rattle.pbs_expand.specs.declared.parts.Pairing.TheVariants.{Sequence, Choice}
use Rattle.pbs_expand.specs.Parts.{Part, Whole, Run, Nothing, Starred, Copies, UpTo, Further, Shape, Empty, Terminal}
use Rattle.pbs_expand.specs.Parts.{Action, Name, Star, Hold, Pair, Scope}

-- the part may be empty
abbrev pub PartMay : List Prod → Part → Type 0
PartMay prods (Whole e) = MayBeEmpty prods (form e)
PartMay prods (Run Sequence items) = (e : Expr) → Contains items e → MayBeEmpty prods (form e)
PartMay prods (Run Choice items) = (e : Expr) × Contains items e × MayBeEmpty prods (form e)
PartMay prods (Nothing span) = Unit {0}
PartMay prods (Starred span e) = Unit {0}
PartMay prods (Copies span e k) = MayBeEmpty prods (form e)
PartMay prods (UpTo span e k) = Unit {0}
PartMay prods (Further span e k) = MayBeEmpty prods (form e)

abbrev pub ShapeMay : List Prod → Shape → Type 0
ShapeMay prods (Empty span) = Unit {0}
ShapeMay prods (Terminal span t) = ⊥
ShapeMay prods (Action span name) = Unit {0}
ShapeMay prods (Name span p) = PartMay prods p
ShapeMay prods (Star span p) = Unit {0}
ShapeMay prods (Hold span t p) = PartMay prods p
ShapeMay prods (Pair span Sequence p q) = PartMay prods p × PartMay prods q
ShapeMay prods (Pair span Choice p q) = PartMay prods p ⊎ PartMay prods q
ShapeMay prods (Scope span p q r) = PartMay prods p

-- an action or a scope lies in the form
abbrev pub IsBusy : List Prod → Form → Type 0
IsBusy prods f = HasAction prods f ⊎ HasScope prods f

abbrev pub PartBusy : List Prod → Part → Type 0
PartBusy prods (Whole e) = IsBusy prods (form e)
PartBusy prods (Run by items) = (e : Expr) × Contains items e × IsBusy prods (form e)
PartBusy prods (Nothing span) = ⊥
PartBusy prods (Starred span e) = IsBusy prods (form e)
PartBusy prods (Copies span e k) = IsBusy prods (form e)
PartBusy prods (UpTo span e k) = IsBusy prods (form e)
PartBusy prods (Further span e k) = IsBusy prods (form e)

abbrev pub ShapeBusy : List Prod → Shape → Type 0
ShapeBusy prods (Empty span) = ⊥
ShapeBusy prods (Terminal span t) = ⊥
ShapeBusy prods (Action span name) = Unit {0}
ShapeBusy prods (Name span p) = PartBusy prods p
ShapeBusy prods (Star span p) = PartBusy prods p
ShapeBusy prods (Hold span t p) = PartBusy prods p
ShapeBusy prods (Pair span by p q) = PartBusy prods p ⊎ PartBusy prods q
ShapeBusy prods (Scope span p q r) = Unit {0}

-- a terminal lies in the part
abbrev pub PartHas : List Prod → Part → Type 0
PartHas prods (Whole e) = HasTerminal prods (form e)
PartHas prods (Run by items) = (e : Expr) × Contains items e × HasTerminal prods (form e)
PartHas prods (Nothing span) = ⊥
PartHas prods (Starred span e) = HasTerminal prods (form e)
PartHas prods (Copies span e k) = HasTerminal prods (form e)
PartHas prods (UpTo span e k) = HasTerminal prods (form e)
PartHas prods (Further span e k) = HasTerminal prods (form e)

abbrev pub ShapeHas : List Prod → Shape → Type 0
ShapeHas prods (Empty span) = ⊥
ShapeHas prods (Terminal span t) = Unit {0}
ShapeHas prods (Action span name) = ⊥
ShapeHas prods (Name span p) = PartHas prods p
ShapeHas prods (Star span p) = PartHas prods p
ShapeHas prods (Hold span t p) = PartHas prods p
ShapeHas prods (Pair span by p q) = PartHas prods p ⊎ PartHas prods q
ShapeHas prods (Scope span p q r) = PartHas prods p ⊎ (PartHas prods q ⊎ PartHas prods r)

-- the part's expressions stand in the specification, and a star that a plus makes moves
abbrev pub PartStands : Spec → Part → Type 0
PartStands spec (Whole e) = Stands spec e
PartStands spec (Run by items) = (e : Expr) → Contains items e → Stands spec e
PartStands spec (Nothing span) = Unit {0}
PartStands spec (Starred span e) = Stands spec e × (MayBeEmpty spec.prods (form e) → ⊥)
PartStands spec (Copies span e k) = Stands spec e
PartStands spec (UpTo span e k) = Stands spec e
PartStands spec (Further span e k) = Stands spec e

pub record ScopeIsRight (spec : Spec) (p q r : Part) : Type 0 where
  pub body : PartStands spec p
  pub trap : PartStands spec q
  pub after : PartStands spec r
  pub has : (PartHas spec.prods p → ⊥) → ⊥
  pub moves : PartMay spec.prods q → ⊥
  pub plain : PartBusy spec.prods q → ⊥

-- the node breaks neither rule 9 nor rule 10
abbrev pub ShapeIsRight : Spec → Shape → Type 0
ShapeIsRight spec (Empty span) = Unit {0}
ShapeIsRight spec (Terminal span t) = Unit {0}
ShapeIsRight spec (Action span name) = Unit {0}
ShapeIsRight spec (Name span p) = PartStands spec p
ShapeIsRight spec (Star span p) = PartStands spec p × (PartMay spec.prods p → ⊥)
ShapeIsRight spec (Hold span t p) = PartStands spec p
ShapeIsRight spec (Pair span by p q) = PartStands spec p × PartStands spec q
ShapeIsRight spec (Scope span p q r) = ScopeIsRight spec p q r
