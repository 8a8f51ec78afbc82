-- What a follow edge aborts and enters, by ranges of node numbers.
use Rattle.std.specs.Prelude.{◌≡◌, ℕ, ◌<◌, Bool, true, false, not, ◌&&◌, nat_eq, nat_lt, nat_le, List, Option, Some}
use Rattle.std.specs.Prelude.{None}
use Rattle.std.specs.Prelude.{slice_get, if◌then◌else◌}
use Rattle.pbs_overlap.specs.declared.ranges.ScopeRange.{ScopeRange}
use Rattle.pbs_overlap.specs.declared.steps.Region.{Region}
use Rattle.pbs_overlap.specs.declared.steps.Step.{Step}

abbrev pub is_within : ℕ → ℕ → ℕ → Bool
is_within m first end = nat_le first m && nat_lt m end

-- the terminal lies in the scope's trap, and the node doesn't
abbrev pub aborts_range : ℕ → ℕ → ScopeRange → Bool
aborts_range leaf node r = is_within leaf r.trap r.after && not (is_within node r.trap r.after)

-- the terminal lies in the scope's body or trap, and the node doesn't
abbrev pub enters_range : ℕ → ℕ → ScopeRange → Bool
enters_range leaf node r = is_within leaf r.body r.after && not (is_within node r.body r.after)

-- the range is the first one that passes the test
pub record IsFirstRange (test : ScopeRange → Bool) (rs : List ScopeRange) (k : ℕ) (r : ScopeRange) : Type 0 where
  pub found : slice_get rs k ≡ Some r
  pub passes : test r ≡ true
  pub earlier : (j : ℕ) (t : ScopeRange) → j < k → slice_get rs j ≡ Some t → test t ≡ true → ⊥

-- none passes
abbrev pub NoRange : (ScopeRange → Bool) → List ScopeRange → Type 0
NoRange test rs = (j : ℕ) (t : ScopeRange) → slice_get rs j ≡ Some t → test t ≡ true → ⊥

abbrev pub IsAborted : List ScopeRange → ℕ → ℕ → Option Region → Type 0
IsAborted rs leaf node None = NoRange (aborts_range leaf node) rs
IsAborted rs leaf node (Some x) =
    (r : ScopeRange) × IsFirstRange (aborts_range leaf node) rs x.scope r × (x.first ≡ r.body) × (x.end ≡ r.after)

abbrev pub IsEntered : List ScopeRange → ℕ → ℕ → Option Region → Type 0
IsEntered rs leaf node None = NoRange (enters_range leaf node) rs
IsEntered rs leaf node (Some x) =
    (r : ScopeRange) × IsFirstRange (enters_range leaf node) rs x.scope r × (x.first ≡ r.body) × (x.end ≡ r.trap)

abbrev pub is_region : Option Region → ℕ → Bool
is_region (Some x) s = nat_eq x.scope s
is_region None s = false

abbrev pub aborts_scope : Step → ℕ → Bool
aborts_scope e s = is_region e.aborts s

abbrev pub region_clash : Option Region → Step → Bool
region_clash (Some x) e = is_within e.leaf x.first x.end && not (aborts_scope e x.scope)
region_clash None e = false

-- d aborts a scope that e leaves without aborting it
abbrev pub clash : Step → Step → Bool
clash d e = region_clash d.aborts e

abbrev pub region_refused : ℕ → Option Region → Option ℕ
region_refused node (Some x) = if is_within node x.first x.end then Some x.scope else None
region_refused node None = None

-- the lowest scope that e enters, and inside whose body d lies
abbrev pub refused_scope : Step → Step → Option ℕ
refused_scope d e = region_refused d.node e.enters
