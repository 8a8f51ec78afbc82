-- What `soak` runs for a number.
use Rattle.std.specs.Prelude.{◌≡◌, ℕ, zero, suc, ◌+◌, ◌*◌, ◌%◌, Bool, true, false, ◌&&◌, nat_eq, nat_lt, List, [], ◌∷◌, ◌++◌}
use Rattle.std.specs.Prelude.{length, codes, decimal, if◌then◌else◌}
use Rattle.pbs_base.specs.declared.entry.Entry.{Entry}
use Rattle.pbs_base.specs.declared.entry.Entry.TheVariants.{Vector}
use Rattle.net_core.specs.Rows.{Row}
use Rattle.net_core.specs.Circuits.{Circuit}
use Rattle.net_core.specs.Runs.{output_value}
use Rattle.net_eval.specs.Simulated.{IsZeroRun}
use Rattle.soak_run.specs.declared.counting.Counts.{Counts}

-- ---- the specification

-- an even production waits for a and fires `hit`, an odd one waits for b
abbrev pub body_text : ℕ → List ℕ
body_text i = if nat_eq (i % 2) 0 then codes " = [~a]*, [a], {hit}; " else codes " = [~b]*, [b]; "

abbrev pub prod_text : ℕ → List ℕ
prod_text i = codes "prod p" ++ (decimal i ++ body_text i)

abbrev pub prods_text : ℕ → List ℕ
prods_text zero = []
prods_text (suc n) = prods_text n ++ prod_text n

abbrev pub names_text : ℕ → List ℕ
names_text zero = []
names_text (suc n) = names_text n ++ (codes "p" ++ (decimal n ++ codes ", "))

-- n productions, one behind the other in the body of a scope that c aborts
abbrev pub spec_text : ℕ → List ℕ
spec_text n =
    codes "spec 1; input a, b, c; action hit, pass, lost; level busy = 0 { hit: 1; pass: 0; } "
    ++ (prods_text n ++ (codes "main = (try ("
    ++ (names_text n ++ codes "{pass}) abort ([~c]*, [c]) then ({lost}))*;")))

-- ---- the run

abbrev pub one_if : Bool → ℕ
one_if true = 1
one_if false = 0

-- vector t: a, b and c are its lowest bits
abbrev pub vector : ℕ → ℕ → ℕ
vector n t =
    one_if (nat_lt ((7 * t + n) % 10) 3) + 2 * one_if (nat_lt ((t * t + n) % 7) 3) + 4 * one_if (nat_eq (t % 97) 96)

-- the first t vectors
abbrev pub entries : ℕ → ℕ → List Entry
entries n zero = []
entries n (suc t) = entries n t ++ Vector (vector n t) ∷ []

-- in how many of the first k rows the test is passed
abbrev pub row_count : (ℕ → Bool) → ℕ → ℕ
row_count test zero = 0
row_count test (suc k) = row_count test k + one_if (test k)

-- the netlist has output n, and it is 1 in the row
abbrev pub is_shown : Circuit → Row → ℕ → Bool
is_shown net row n = nat_lt n (length net.outputs) && output_value net row n

-- in how many rows of its run on the entries the first three outputs of the netlist are 1
pub record CountsRows (net : Circuit) (v : List Entry) (counts : Counts) : Type 0 where
  pub hit : (rows : ℕ → Row) → IsZeroRun net v rows
      → counts.hit ≡ row_count (λ k. is_shown net (rows k) 0) (suc (length v))
  pub pass : (rows : ℕ → Row) → IsZeroRun net v rows
      → counts.pass ≡ row_count (λ k. is_shown net (rows k) 1) (suc (length v))
  pub lost : (rows : ℕ → Row) → IsZeroRun net v rows
      → counts.lost ≡ row_count (λ k. is_shown net (rows k) 2) (suc (length v))

-- ---- the line

abbrev pub labelled : List ℕ → ℕ → List ℕ
labelled label number = label ++ decimal number

abbrev pub soak_line : ℕ → Counts → List ℕ
soak_line n counts =
    labelled (codes "soak ") n ++ (labelled (codes " vectors ") (10 * n) ++ (labelled (codes " hit ") counts.hit
    ++ (labelled (codes " pass ") counts.pass ++ (labelled (codes " lost ") counts.lost ++ codes "\n"))))
