-- The lowest scope that a joint step refuses.
use Rattle.std.specs.Prelude.{◌≡◌, ℕ, ◌≤◌, ◌&&◌, min, length, Option, Some, None, if◌then◌else◌}
use Rattle.pbs_overlap.specs.declared.search.Plan.{Plan}
use Rattle.pbs_overlap.specs.declared.search.Reached.{Reached}
use Rattle.pbs_overlap.specs.inner.Joints.{joint_at}
use Rattle.pbs_overlap.specs.inner.Steps.{refused_scope}
use Rattle.pbs_overlap.specs.inner.Search.{Between, marked_at, fit_at, step_at}

abbrev pub lower_of : Option ℕ → Option ℕ → Option ℕ
lower_of None b = b
lower_of (Some a) None = Some a
lower_of (Some a) (Some b) = Some (min a b)

-- the least number with the property P, if there is one
pub record IsLowest (P : ℕ → Type 0) (o : Option ℕ) : Type 0 where
  pub found : (t : ℕ) → o ≡ Some t → P t
  pub least : (s : ℕ) → P s → (t : ℕ) × (o ≡ Some t) × (t ≤ s)

-- the scope that steps i and j refuse, where they are a joint step from a pair that was reached
abbrev pub refused_at : Plan → Reached → ℕ → ℕ → Option ℕ
refused_at plan reached i j =
    if (marked_at plan reached (step_at plan.steps.items i).from (step_at plan.steps.items j).from
    && joint_at plan.terms (step_at plan.steps.items i).from (step_at plan.steps.items j).from)
    && fit_at plan.steps.items i j
    then refused_scope (step_at plan.steps.items i) (step_at plan.steps.items j) else None

abbrev pub Refuses : Plan → Reached → (j i s : ℕ) → Type 0
Refuses plan reached j i s = refused_at plan reached i j ≡ Some s

-- some step i does with j
abbrev pub RefusesWith : Plan → Reached → ℕ → ℕ → Type 0
RefusesWith plan reached j s = Between 0 (length plan.steps.items) (Refuses plan reached j) s
