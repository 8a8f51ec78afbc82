-- The circles in which productions use each other.
use Rattle.std.specs.Prelude.{◌≡◌, ◌<◌, ℕ, nat_eq, if◌then◌else◌, Option, Some, None, List, length, slice_index_or}
use Rattle.std.specs.Option.{option_eq}
use Rattle.std.specs.Global.{Vec}
use Rattle.pbs_base.specs.declared.refusal.Span.{Span}
use Rattle.pbs_check.specs.declared.circles.Circles.{Circles}
use Rattle.pbs_check.specs.declared.graph.Link.{Link}
use Rattle.pbs_check.specs.inner.Links.{Leads}
use Rattle.pbs_check.specs.inner.Searching.{IsMarked}

-- each of the two productions can be reached from the other by uses
pub record AreRound (uses : List (Vec Link)) (j k : ℕ) : Type 0 where
  pub forth : Leads uses k j
  pub back : Leads uses j k

-- the production is in a circle that is known
pub data HasRoot (roots : List (Option ℕ)) (k : ℕ) : Type 0 where
  Rooted : {root : ℕ} → IsMarked roots root k → HasRoot roots k

-- each circle that is known is known whole, by one of its productions
pub record AreRoots (uses : List (Vec Link)) (roots : List (Option ℕ)) : Type 0 where
  pub size : length roots ≡ length uses
  pub sound : (root k : ℕ) → IsMarked roots root k → AreRound uses root k
  pub whole : (root j k : ℕ) → IsMarked roots root j → AreRound uses root k → IsMarked roots root k

-- and each production's circle is known
pub record AreAllRoots (uses : List (Vec Link)) (roots : List (Option ℕ)) : Type 0 where
  pub known : AreRoots uses roots
  pub all : (k : ℕ) → k < length uses → HasRoot roots k

-- a search went back only from productions whose circles are known
pub record AreCircles (uses : List (Vec Link)) (circles : Circles) : Type 0 where
  pub roots : AreRoots uses circles.roots.items
  pub size : length circles.back.items ≡ length uses
  pub searched : (root k : ℕ) → IsMarked circles.back.items root k → HasRoot circles.roots.items root

abbrev pub KeepsRoots : List (Option ℕ) → List (Option ℕ) → Type 0
KeepsRoots old new = (k : ℕ) → HasRoot old k → HasRoot new k

-- the place of a use whose production is in the circle of that root
abbrev pub round_span : List (Option ℕ) → Option ℕ → Link → Option Span
round_span roots root l = if option_eq nat_eq (slice_index_or roots l.to None) root then Some l.span else None
