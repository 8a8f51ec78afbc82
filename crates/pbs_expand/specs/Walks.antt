-- The visits of an expansion, as a tree.
use Rattle.std.specs.Prelude.{ℕ, zero, suc, Bool, true, false, ◌&&◌, Option, Some, None}
use Rattle.pbs_base.specs.declared.refusal.Span.{Span}
use Rattle.bool_terms.specs.Terms.{Term}
use Rattle.pbs_ast.specs.declared.syntax.Spec.{Spec}
use Rattle.pbs_expand.specs.declared.parts.Pairing.{Pairing}
use Rattle.pbs_expand.specs.Parts as parts
use Rattle.pbs_expand.specs.Parts.{Part, Shape, shape, span_of}
use Rattle.pbs_names.specs.Naming.{action_names, index_of}
use Rattle.pbs_expand.specs.Written.{written}

-- a node for each visit; what is deeper than the limit is beyond
pub data Walk : Type 0 where
  Beyond : (span : Span) → Walk
  Empty : (span : Span) → Walk
  Terminal : (span : Span) (term : Term) → Walk
  Action : (span : Span) (action : ℕ) → Walk
  Name : (span : Span) (body : Walk) → Walk
  Star : (span : Span) (body : Walk) → Walk
  Hold : (span : Span) (term : Term) (body : Walk) → Walk
  Pair : (span : Span) (by : Pairing) (first second : Walk) → Walk
  Scope : (span : Span) (body trap after : Walk) → Walk

-- an unknown action stands for `()`
abbrev pub action_walk : Span → Option ℕ → Walk
action_walk span (Some n) = Action span n
action_walk span None = Empty span

-- the walk of a node whose parts are walked so
abbrev pub walked : Spec → (Part → Walk) → Shape → Walk
walked spec walk (parts.Empty span) = Empty span
walked spec walk (parts.Terminal span t) = Terminal span (written spec.inputs t)
walked spec walk (parts.Action span name) = action_walk span (index_of (action_names spec.actions) name)
walked spec walk (parts.Name span body) = Name span (walk body)
walked spec walk (parts.Star span body) = Star span (walk body)
walked spec walk (parts.Hold span t body) = Hold span (written spec.inputs t) (walk body)
walked spec walk (parts.Pair span by first second) = Pair span by (walk first) (walk second)
walked spec walk (parts.Scope span body trap after) = Scope span (walk body) (walk trap) (walk after)

-- the walk of a part, to so many levels
unfoldable pub walk : Spec → ℕ → Part → Walk
walk spec zero p = Beyond (span_of p)
walk spec (suc room) p = walked spec (walk spec room) (shape spec.prods p)

-- no visit is too deep
abbrev pub complete : Walk → Bool
complete (Beyond span) = false
complete (Empty span) = true
complete (Terminal span t) = true
complete (Action span a) = true
complete (Name span w) = complete w
complete (Star span w) = complete w
complete (Hold span b w) = complete w
complete (Pair span by v w) = complete v && complete w
complete (Scope span v w x) = complete v && (complete w && complete x)
