-- Names and their numbers.
use Rattle.std.proofs.Common.{◌≡◌, ◌≤◌, ◌<◌, ◌==◌, ◌+◌, ◌-◌, ℕ, zero, suc, Bool, true, false, cond, not, ◌&&◌, List, []}
use Rattle.std.proofs.Common.{◌∷◌, ◌++◌, length, Option, Some, None, refl, sym, ap, subst, ◌∙◌, arith, append_assoc}
use Rattle.std.proofs.Common.{nat_eq, length-append}
use Rattle.std.specs.Prelude.{slice_get, if◌then◌else◌}
use Rattle.std.specs.List.{position_from}
use Rattle.std.specs.Option.{option_map}
use Rattle.std.specs.Cmp.Lexicographic.{pointwise}
use Rattle.std.proofs.lemmas.Bool.Decides.{nat_tests}
use Rattle.pbs_ast.specs.declared.syntax.Decl.{Decl}
use Rattle.pbs_ast.specs.declared.syntax.Expr.{Expr}
use Rattle.pbs_ast.specs.declared.syntax.Prod.{Prod}
use Rattle.pbs_names.specs.Naming.{bit_name, bit_names, inputs_of, input_names, index_of, prod_names, body_of, bus_from}
use Rattle.pbs_names.specs.declared.buses.Bus.{Bus}
use Rattle.pbs_names.specs.declared.index.Numbers.{Numbers}
use Rattle.pbs_names.specs.Numbers.{number_in, IsNumbering}

-- one bit more, where some are left
pub bits_step : (name : List ℕ) (k n : ℕ) → k < n → bit_names name k (n - k) ≡ bit_name name k ∷ bit_names name
    (k + 1) (n - (k + 1))
bits_step name k n more = ap (bit_names name k) (one_less k n more)
  where
    one_less : (k n : ℕ) → k < n → n - k ≡ suc (n - (k + 1))
    one_less k n more = omega (arith, more)

-- the front of a list of names was written, and one word or more came to it
pub moved_on : (old new front rest all : List (List ℕ)) → old ++ (front ++ rest) ≡ all → new ≡ old ++ front
    → new ++ rest ≡ all
moved_on old new front rest all so_far grown = ap (λ xs. xs ++ rest) grown ∙ append_assoc old front rest ∙ so_far

pub length-bit_names : (name : List ℕ) (k n : ℕ) → length (bit_names name k n) ≡ n
length-bit_names name k zero = refl
length-bit_names name k (suc n) = ap suc (length-bit_names name (k + 1) n)

-- the words from some index on have their numbers
pub record IsNumberedTo (all left : List (List ℕ)) (number : List ℕ → Option ℕ) : Type 0 where
  pub rest : List (List ℕ)
  pub whole : left ++ rest ≡ all
  pub numbers : (name : List ℕ) → number name ≡ position_from (λ w. pointwise ◌==◌ w name) (length left) rest

-- a number is one of the list's
pub number_within : (test : List ℕ → Bool) (i k : ℕ) (names : List (List ℕ)) → position_from test i names ≡ Some k
    → (i ≤ k) × (k < i + length names)
number_within test i k [] found = cc
number_within test i k (w ∷ ws) found = within (test w) (number_within test (i + 1) k ws) found
  where
    within : (b : Bool) → (position_from test (i + 1) ws ≡ Some k → (i + 1 ≤ k) × (k < i + 1 + length ws))
        → cond b (Some i) (position_from test (i + 1) ws) ≡ Some k → (i ≤ k) × (k < i + length (w ∷ ws))
    within true later found = let same : i ≡ k = cc in (omega (arith, same), omega (arith, same))
    within false later found = let two = later found in (omega (arith, two.0), omega (arith, two.1))

-- the number that an index gives
pub number_is : (names : List (List ℕ)) (numbers : Numbers) (name : List ℕ) (r o : Option ℕ)
    → IsNumbering names numbers → r ≡ number_in numbers name → r ≡ o → index_of names name ≡ o
number_is names numbers name r o index is same = sym (index.finds name) ∙ sym is ∙ same

pub number_below : (names : List (List ℕ)) (numbers : Numbers) (name : List ℕ) (r : Option ℕ) (n bound : ℕ)
    → IsNumbering names numbers → r ≡ number_in numbers name → r ≡ Some n → length names ≤ bound → n < bound
number_below names numbers name r n bound index is found few =
    let within = number_within (λ w. pointwise ◌==◌ w name) 0 n names
    (number_is names numbers name r (Some n) index is found) in omega (arith, within.1, few)

-- how many inputs a declaration stands for
pub plain_count : (d : Decl) → d.width ≡ 0 → length (inputs_of d) ≡ 1
plain_count d plain =
    let P : ℕ → Type 0 = λ w. length (if nat_eq w 0 then d.name ∷ [] else bit_names d.name 0 w) ≡ 1 in subst P
    (sym plain) refl

pub bus_count : (d : Decl) → (d.width ≡ 0 → ⊥) → length (inputs_of d) ≡ d.width
bus_count d is_bus = counted d.width (nat_eq d.width 0) (is_bit d.width is_bus)
  where
    is_bit : (w : ℕ) → (w ≡ 0 → ⊥) → nat_eq w 0 ≡ false
    is_bit w not_zero = grind (arith, nat_tests)

    counted : (w : ℕ) (b : Bool) → b ≡ false → length (if b then d.name ∷ [] else bit_names d.name 0 w) ≡ w
    counted w true h = cc
    counted w false h = length-bit_names d.name 0 w

-- the search for a bus came so far
pub record IsAtBus (all rest : List Decl) (start : ℕ) (name : List ℕ) : Type 0 where
  pub found : bus_from start rest name ≡ bus_from 0 all name
  pub before : start + length (input_names rest) ≡ length (input_names all)

-- a bus ends before the inputs do
pub bus_within : (n : ℕ) (ds : List Decl) (name : List ℕ) (bus : Bus) → bus_from n ds name ≡ Some bus
    → bus.start + bus.width ≤ n + length (input_names ds)
bus_within n [] name bus found = cc
bus_within n (d ∷ ds) name bus found =
    within (nat_eq d.width 0) (pointwise ◌==◌ d.name name) refl (bus_within (n + length (inputs_of d)) ds name bus)
    found
  where
    all : length (input_names (d ∷ ds)) ≡ length (inputs_of d) + length (input_names ds)
    all = length-append (inputs_of d) (input_names ds)

    bits : nat_eq d.width 0 ≡ false → length (inputs_of d) ≡ d.width
    bits is_bus = rw is_bus (length-bit_names d.name 0 d.width)

    within : (one same : Bool) → nat_eq d.width 0 ≡ one
        → (bus_from (n + length (inputs_of d)) ds name ≡ Some bus
        → bus.start + bus.width ≤ n + length (inputs_of d) + length (input_names ds))
        → (if not one && same then Some (record { start = n; width = d.width }) else bus_from
        (n + length (inputs_of d)) ds name) ≡ Some bus → bus.start + bus.width ≤ n + length (input_names (d ∷ ds))
    within true same is later h = omega (arith, later h, all)
    within false true is later h =
        let start : n ≡ bus.start = cc in let width : d.width ≡ bus.width = cc in omega
        (arith, start, width, bits is, all)
    within false false is later h = omega (arith, later h, all)

-- the production of a name by its number
abbrev pub body_at : List Prod → ℕ → Option Expr
body_at ps n = option_map (λ (p : Prod). p.body) (slice_get ps n)

abbrev body_by : List Prod → ℕ → Option ℕ → Option Expr
body_by ps i None = None
body_by ps i (Some n) = body_at ps (n - i)

body_here : (p : Prod) (ps : List Prod) (i : ℕ) → Some p.body ≡ body_at (p ∷ ps) (i - i)
body_here p ps i = let none : i - i ≡ 0 = omega arith in ap (body_at (p ∷ ps)) (sym none)

body_later : (p : Prod) (ps : List Prod) (i : ℕ) (o : Option ℕ) → ((n : ℕ) → o ≡ Some n → i + 1 ≤ n)
    → body_by ps (i + 1) o ≡ body_by (p ∷ ps) i o
body_later p ps i None above = refl
body_later p ps i (Some n) above =
    let past = above n refl in let more : n - i ≡ suc (n - (i + 1)) = omega (arith, past) in ap (body_at (p ∷ ps))
    (sym more)

body_number : (ps : List Prod) (i : ℕ) (name : List ℕ)
    → body_of ps name ≡ body_by ps i (position_from (λ w. pointwise ◌==◌ w name) i (prod_names ps))
body_number [] i name = refl
body_number (p ∷ ps) i name =
    let test = λ (w : List ℕ). pointwise ◌==◌ w name in
    let rest = position_from test (i + 1) (prod_names ps) in
    let later : body_of ps name ≡ body_by (p ∷ ps) i rest =
    body_number ps (i + 1) name ∙ body_later p ps i rest
    (λ n found. (number_within test (i + 1) n (prod_names ps) found).0) in
    elim (pointwise ◌==◌ p.name name) as (λ b. (if b then Some p.body else body_of ps name) ≡ body_by (p ∷ ps) i
    (cond b (Some i) rest))
    [ true ↦ body_here p ps i | false ↦ later ]

pub body_found : (ps : List Prod) (name : List ℕ) (n : ℕ) → index_of (prod_names ps) name ≡ Some n
    → body_of ps name ≡ body_at ps n
body_found ps name n found =
    let same : n - 0 ≡ n = omega arith in body_number ps 0 name ∙ ap (body_by ps 0) found ∙ ap (body_at ps) same

pub body_absent : (ps : List Prod) (name : List ℕ) → index_of (prod_names ps) name ≡ None → body_of ps name ≡ None
body_absent ps name absent = body_number ps 0 name ∙ ap (body_by ps 0) absent
