-- The search for pairs of places that double walks end in.
use Rattle.std.specs.Prelude.{◌≡◌, ℕ, ◌+◌, ◌*◌, ◌/◌, ◌%◌, ◌<◌, ◌≤◌, ◌⊎◌, Bool, true, false, not, ◌&&◌, List, length}
use Rattle.std.specs.Prelude.{slice_index}
use Rattle.std.specs.Prelude.{slice_index_or, count_by, None}
use Rattle.pbs_overlap.specs.declared.steps.Step.{Step}
use Rattle.pbs_overlap.specs.declared.search.Plan.{Plan}
use Rattle.pbs_overlap.specs.declared.search.Reached.{Reached}
use Rattle.pbs_overlap.specs.inner.Steps.{clash}
use Rattle.pbs_overlap.specs.inner.Joints.{joint_at}

abbrev pub no_step : Step
no_step = record { from = 0; to = 0; node = 0; leaf = 0; aborts = None; enters = None }

abbrev pub step_at : List Step → ℕ → Step
step_at steps k = slice_index_or steps k no_step

-- neither aborts a scope that the other one leaves without aborting it
abbrev pub fit_at : List Step → ℕ → ℕ → Bool
fit_at steps i j = not (clash (step_at steps i) (step_at steps j)) && not (clash (step_at steps j) (step_at steps i))

-- the number of the first step from a place
abbrev pub first_at : Plan → ℕ → ℕ
first_at plan p = slice_index plan.firsts.items p

-- the numbers in the plan name what is there
pub record IsShaped (plan : Plan) : Type 0 where
  pub few : plan.places ≤ 4096
  pub firsts : length plan.firsts.items ≡ plan.places + 1
  pub within : (p : ℕ) → p ≤ plan.places → first_at plan p ≤ length plan.steps.items
  pub rising : (p : ℕ) → p < plan.places → first_at plan p ≤ first_at plan (p + 1)
  pub tos : (k : ℕ) → k < length plan.steps.items → (step_at plan.steps.items k).to < plan.places
  pub of_place : length (plan.terms).of_place ≡ plan.places
  pub count : (plan.terms).count ≤ 256
  pub below : (p : ℕ) → p < plan.places → slice_index (plan.terms).of_place p < (plan.terms).count
  pub table : length (plan.terms).joint.items ≡ (plan.terms).count * (plan.terms).count

abbrev pub EachBelow : ℕ → List ℕ → Type 0
EachBelow n xs = (k : ℕ) → k < length xs → slice_index xs k < n

-- P holds for some number from low up to high
abbrev pub Between : ℕ → ℕ → (ℕ → ℕ → Type 0) → ℕ → Type 0
Between low high P j = (b : ℕ) × (low ≤ b) × (b < high) × P b j

abbrev pub Marked : List Bool → ℕ → Type 0
Marked marks i = slice_index_or marks i false ≡ true

-- the queue has exactly the marked cells, each once
pub record IsWork (marks : List Bool) (queue : List ℕ) : Type 0 where
  pub listed : (i : ℕ) → Marked marks i → (k : ℕ) × (k < length queue) × (slice_index queue k ≡ i)
  pub marked : (k : ℕ) → k < length queue → Marked marks (slice_index queue k)
  pub inside : (k : ℕ) → k < length queue → slice_index queue k < length marks
  pub counted : length queue ≡ count_by (λ b. b) marks

-- exactly the cells with the property T were marked besides, and nothing was taken off the queue
pub record Visits (T : ℕ → Type 0) (old new : Reached) : Type 0 where
  pub work : IsWork new.marks.items new.queue.items
  pub kept : (i : ℕ) → Marked old.marks.items i → Marked new.marks.items i
  pub reached : (i : ℕ) → T i → Marked new.marks.items i
  pub only : (i : ℕ) → Marked new.marks.items i → Marked old.marks.items i ⊎ T i
  pub same_size : length new.marks.items ≡ length old.marks.items
  pub longer : length old.queue.items ≤ length new.queue.items
  pub same_front : (k : ℕ) → k < length old.queue.items → slice_index new.queue.items k ≡ slice_index old.queue.items k

-- steps i and j lead together to the cell
pub record Taken (plan : Plan) (i j cell : ℕ) : Type 0 where
  pub fit : fit_at plan.steps.items i j ≡ true
  pub reached : cell ≡ (step_at plan.steps.items i).to * plan.places + (step_at plan.steps.items j).to

-- step i and some step from q lead to the cell
abbrev pub TakenWith : Plan → (q i cell : ℕ) → Type 0
TakenWith plan q i cell = Between (first_at plan q) (first_at plan (q + 1)) (Taken plan i) cell

-- some steps from p and q do
abbrev pub TakenFrom : Plan → (p q cell : ℕ) → Type 0
TakenFrom plan p q cell = Between (first_at plan p) (first_at plan (p + 1)) (TakenWith plan q) cell

-- a joint step leads from a cell to another one
pub record Leads (plan : Plan) (from cell : ℕ) : Type 0 where
  pub joint : joint_at plan.terms (from / plan.places) (from % plan.places) ≡ true
  pub taken : TakenFrom plan (from / plan.places) (from % plan.places) cell

-- the cell of two first places
pub record IsStart (places : ℕ) (starts : List ℕ) (k cell : ℕ) : Type 0 where
  pub reached : cell ≡ slice_index starts (k / length starts) * places + slice_index starts (k % length starts)

-- a cell that a search comes to
pub data Reach (plan : Plan) (starts : List ℕ) : ℕ → Type 0 where
  reach_start : {cell : ℕ} → Between 0 (length starts * length starts) (IsStart plan.places starts) cell
      → Reach plan starts cell
  reach_next : {from cell : ℕ} → Reach plan starts from → Leads plan from cell → Reach plan starts cell

-- how far a search is: what was marked at first, what leads on from the cells before the next one
pub record Searching (plan : Plan) (starts : List ℕ) (next : ℕ) (reached : Reached) : Type 0 where
  pub work : IsWork reached.marks.items reached.queue.items
  pub size : length reached.marks.items ≡ plan.places * plan.places
  pub within : next ≤ length reached.queue.items
  pub begun : (cell : ℕ) → Between 0 (length starts * length starts) (IsStart plan.places starts) cell
      → Marked reached.marks.items cell
  pub done : (k cell : ℕ) → k < next → Leads plan (slice_index reached.queue.items k) cell
      → Marked reached.marks.items cell
  pub sound : (cell : ℕ) → Marked reached.marks.items cell → Reach plan starts cell

-- exactly the cells are marked that a search comes to
pub record Searched (plan : Plan) (starts : List ℕ) (reached : Reached) : Type 0 where
  pub size : length reached.marks.items ≡ plan.places * plan.places
  pub begun : (cell : ℕ) → Between 0 (length starts * length starts) (IsStart plan.places starts) cell
      → Marked reached.marks.items cell
  pub closed : (from cell : ℕ) → Marked reached.marks.items from → Leads plan from cell
      → Marked reached.marks.items cell
  pub sound : (cell : ℕ) → Marked reached.marks.items cell → Reach plan starts cell

-- each step leaves one of the places
abbrev pub EachFromBelow : Plan → Type 0
EachFromBelow plan = (k : ℕ) → k < length plan.steps.items → (step_at plan.steps.items k).from < plan.places

-- the cell of two places is marked
abbrev pub marked_at : Plan → Reached → ℕ → ℕ → Bool
marked_at plan reached p q = slice_index_or reached.marks.items (p * plan.places + q) false
