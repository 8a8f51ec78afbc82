-- What a comparison's two wires tell of the comparison.
use Rattle.std.proofs.Common.{◌≡◌, ◌≢◌, inl, inr, ℕ, ◌≤◌, Bool, true, false, if◌then◌else◌, List, length, Option, Some, None}
use Rattle.std.proofs.Common.{refl, sym, ap, subst, ◌∙◌}
use Rattle.std.specs.Prelude.{map}
use Rattle.std.specs.List.{range_with_len}
use Rattle.std.proofs.lemmas.Option.{get_or_from_slice_get, slice_get_within}
use Rattle.std.proofs.lemmas.List.FromFn.{length-map-range_with_len}
use Rattle.net_core.specs.Rows.{Row, differs, value}
use Rattle.net_core.specs.declared.gate.Gate as gate
use Rattle.net_core.specs.declared.gate.Wire.{Wire}
use Rattle.net_core.specs.Circuits.{Circuit, IsCircuit, IsThere}
use Rattle.net_eval.specs.Assignments.{IsOrdered}
use Rattle.net_eval.proofs.Assigning.{ordered_gates}
use Rattle.net_equiv.specs.declared.fail.CompareFail.{CompareFail}
use Rattle.net_equiv.specs.declared.fail.CompareFail.TheVariants as fail
use Rattle.net_equiv.specs.declared.answer.RegPair.{RegPair}
use Rattle.net_equiv.specs.declared.answer.VarName.{VarName}
use Rattle.net_equiv.specs.declared.answer.VarName.TheVariants.{Input}
use Rattle.net_equiv.specs.declared.answer.Comparison.{Comparison}
use Rattle.net_equiv.specs.declared.answer.Difference.{Difference}
use Rattle.net_equiv.specs.declared.halves.Half.{Half}
use Rattle.net_equiv.specs.Pairing.{ArePairs, SamePorts}
use Rattle.net_equiv.specs.Comparing.{a_wire, b_wire, Agrees, AreRows}
use Rattle.net_equiv.specs.Cones.{a_name, b_name, AreSome, AreVariables, InCone, IsLeafOf, IsVariable, LiesIn}
use Rattle.net_equiv.specs.inner.Walking.{name_at}
use Rattle.net_equiv.specs.inner.Standing.{View, Fits, LeastApart, NeverApart}
use Rattle.net_equiv.specs.inner.Halves.{half_view, IsHalf, IsHalfOutcome, IsHalfWide, IsDifferenceAt, IsToldBy, LiesInEither, LiesInHalf}
use Rattle.net_equiv.specs.inner.Naming.{IsMade}
use Rattle.net_equiv.specs.Told.{variable_value, DiffersAt, IsComparisonCause, IsDifferenceOf, IsNarrow, IsOutcome, IsWide, TakesValues}
use Rattle.net_equiv.proofs.Assembling.{a_made, b_made, inputs_below, made_rows, made_takes}
use Rattle.net_equiv.proofs.Encoding.{encode, bit_encode}
use Rattle.net_equiv.proofs.Ranging.{b_in_range, made_right, ordered_in, root_in, root_there}
use Rattle.net_equiv.proofs.Translating.{a_fits, b_fits, lies_by_name, name_by_lies}

not_differs : (p q : Bool) → differs p q ≡ false → p ≡ q
not_differs true true e = refl
not_differs true false e = absurd (cc)
not_differs false true e = absurd (cc)
not_differs false false e = refl

differs_unequal : (p q : Bool) → differs p q ≡ true → p ≢ q
differs_unequal true true e same = cc
differs_unequal true false e same = cc
differs_unequal false true e same = cc
differs_unequal false false e same = cc

unequal_differs : (p q : Bool) → p ≢ q → differs p q ≡ true
unequal_differs true true h = absurd (h refl)
unequal_differs true false h = refl
unequal_differs false true h = refl
unequal_differs false false h = absurd (h refl)

-- ---- what registers count as, in lists

abbrev pub a_listed : Circuit → List VarName
a_listed a = map a_name (range_with_len 0 (length a.registers))

abbrev pub b_listed : Circuit → List RegPair → Bool → List VarName
b_listed b pairs reset = map (b_name pairs reset) (range_with_len 0 (length b.registers))

abbrev pub a_view : Circuit → Bool → List VarName → View
a_view a reset vars = record { gates = a.gates; names = a_listed a; vars = vars; reset = reset }

abbrev pub b_view : Circuit → List RegPair → Bool → List VarName → View
b_view b pairs reset vars = record { gates = b.gates; names = b_listed b pairs reset; vars = vars; reset = reset }

half_is : (h : Half) (gates : List gate.Gate) (names : List VarName) (root : Wire) (r : ℕ) → h.gates.now ≡ gates
    → h.names.now ≡ names → h.root ≡ root → length names ≡ r → IsOrdered 64 r gates
    → IsThere 64 r (length gates) root → IsHalf h
half_is h gates names root r gates_is names_is root_is long ordered there =
    let count : r ≡ length h.names.now = sym (ap (λ (xs : List VarName). length xs) names_is ∙ long) in
    record {
      ordered =
          subst (λ (gs : List gate.Gate). IsOrdered 64 (length h.names.now) gs) (sym gates_is)
          (subst (λ n. IsOrdered 64 n gates) count ordered);
      root =
          subst (λ (gs : List gate.Gate). IsThere 64 (length h.names.now) (length gs) h.root) (sym gates_is)
          (subst (λ w. IsThere 64 (length h.names.now) (length gates) w) (sym root_is)
          (subst (λ n. IsThere 64 n (length gates) root) count there));
    }

pub case_names : (b : Circuit) (pairs : List RegPair) (reset : Bool) (in_reset in_run : List VarName)
    → in_reset ≡ b_listed b pairs true → in_run ≡ b_listed b pairs false
    → (if reset then in_reset else in_run) ≡ b_listed b pairs reset
case_names b pairs true in_reset in_run r s = r
case_names b pairs false in_reset in_run r s = s

-- ---- from vectors to rows and back

module _ (a b : Circuit) (pairs : List RegPair) (c : Comparison) (a_ok : IsCircuit a) (b_ok : IsCircuit b)
    (ports : SamePorts a b) (paired : ArePairs a b pairs) (made : IsMade a pairs c) where
  a_there : IsThere (length a.inputs) (length a.registers) (length a.gates) (a_wire a c)
  a_there = root_there a a_ok c.register c.number (made_right a pairs c made).range

  b_there : IsThere (length b.inputs) (length b.registers) (length b.gates) (b_wire b pairs c)
  b_there = root_there b b_ok c.register _ (b_in_range a b pairs ports paired c made)

  same_inputs : length a.inputs ≡ length b.inputs
  same_inputs = ap (λ (xs : List (List ℕ)). length xs) ports.inputs

  module _ (vars : List VarName) (variables : AreVariables a b pairs c vars) where
    both_fit : (v : ℕ) (x y : Row) → AreRows a b pairs c.reset x y → TakesValues vars v x y
        → Fits (a_view a c.reset vars) v x × Fits (b_view b pairs c.reset vars) v y
    both_fit v x y rows takes = (
      a_fits a b pairs c.reset vars v x y rows takes same_inputs,
      b_fits a b pairs c.reset vars v x y rows takes same_inputs
          (inputs_below a b pairs c a_ok b_ok ports a_there b_there vars variables),
    )

    -- the bits of the values that the variables have in two rows
    abbrev value_at : Row → Row → ℕ → Bool
    value_at x y t = variable_value x y (name_at vars t)

    takes_bits : (x y : Row) → TakesValues vars (encode (value_at x y) (length vars)) x y
    takes_bits x y = record {
      takes = λ t n at.
          sym (bit_encode (value_at x y) (length vars) t (slice_get_within vars t n at)
          ∙ ap (λ m. variable_value x y m) (get_or_from_slice_get vars t n (Input 0) at));
    }

    agrees : NeverApart (a_view a c.reset vars) (b_view b pairs c.reset vars) (a_wire a c) (b_wire b pairs c)
        → Agrees a b pairs c
    agrees never = record {
      same = λ x y rows.
          let v = encode (value_at x y) (length vars) in
          let fit = both_fit v x y rows (takes_bits x y) in
          not_differs (value x (a_wire a c)) (value y (b_wire b pairs c)) (never.same v x y fit.0 fit.1);
    }

    module _ (v : ℕ) (apart : LeastApart (a_view a c.reset vars) (b_view b pairs c.reset vars) (a_wire a c)
        (b_wire b pairs c) v) where
      differs_there : DiffersAt a b pairs c vars v
      differs_there =
          let x = a_made a b pairs c a_ok b_ok ports a_there b_there vars variables paired v in
          let y = b_made a b pairs c a_ok b_ok ports a_there b_there vars variables paired v in
          let rows = made_rows a b pairs c a_ok b_ok ports a_there b_there vars variables paired v in
          let takes = made_takes a b pairs c a_ok b_ok ports a_there b_there vars variables paired v in
          let fit = both_fit v x y rows takes in
          record {
            a_values = x;
            b_values = y;
            rows = rows;
            takes = takes;
            unequal = differs_unequal (value x (a_wire a c)) (value y (b_wire b pairs c))
                (apart.unequal x y fit.0 fit.1);
          }

      least_there : (w : ℕ) → DiffersAt a b pairs c vars w → v ≤ w
      least_there w d =
          let x = d.a_values in
          let y = d.b_values in
          let fit = both_fit w x y d.rows d.takes in
          apart.least w x y fit.0 fit.1 (unequal_differs (value x (a_wire a c)) (value y (b_wire b pairs c)) d.unequal)

  -- ---- from halves

  module _ (ha hb : Half) (a_gates : ha.gates.now ≡ a.gates) (b_gates : hb.gates.now ≡ b.gates)
      (a_names : ha.names.now ≡ a_listed a) (b_names : hb.names.now ≡ b_listed b pairs c.reset)
      (a_root : ha.root ≡ a_wire a c) (b_root : hb.root ≡ b_wire b pairs c) where
    a_lies : (x : VarName) → LiesInHalf ha x → LiesIn a.gates (a_wire a c) a_name x
    a_lies x l =
        lies_by_name a_name (length a.inputs) (length a.registers) a.gates (a_wire a c) (ordered_gates a a_ok) a_there x
        (subst (λ names. IsLeafOf (name_at names) (InCone a.gates (a_wire a c)) x) a_names
        (subst (λ root. IsLeafOf (name_at ha.names.now) (InCone a.gates root) x) a_root
        (subst (λ (gates : List gate.Gate). IsLeafOf (name_at ha.names.now) (InCone gates ha.root) x) a_gates l)))

    b_lies : (x : VarName) → LiesInHalf hb x → LiesIn b.gates (b_wire b pairs c) (b_name pairs c.reset) x
    b_lies x l =
        lies_by_name (b_name pairs c.reset) (length b.inputs) (length b.registers) b.gates (b_wire b pairs c)
        (ordered_gates b b_ok) b_there x
        (subst (λ names. IsLeafOf (name_at names) (InCone b.gates (b_wire b pairs c)) x) b_names
        (subst (λ root. IsLeafOf (name_at hb.names.now) (InCone b.gates root) x) b_root
        (subst (λ (gates : List gate.Gate). IsLeafOf (name_at hb.names.now) (InCone gates hb.root) x) b_gates l)))

    lies_a : (x : VarName) → LiesIn a.gates (a_wire a c) a_name x → LiesInHalf ha x
    lies_a x l =
        subst (λ (gates : List gate.Gate). IsLeafOf (name_at ha.names.now) (InCone gates ha.root) x) (sym a_gates)
        (subst (λ root. IsLeafOf (name_at ha.names.now) (InCone a.gates root) x) (sym a_root)
        (subst (λ names. IsLeafOf (name_at names) (InCone a.gates (a_wire a c)) x) (sym a_names)
        (name_by_lies a_name (length a.inputs) (length a.registers) a.gates (a_wire a c) (ordered_gates a a_ok) a_there
        x l)))

    lies_b : (x : VarName) → LiesIn b.gates (b_wire b pairs c) (b_name pairs c.reset) x → LiesInHalf hb x
    lies_b x l =
        subst (λ (gates : List gate.Gate). IsLeafOf (name_at hb.names.now) (InCone gates hb.root) x) (sym b_gates)
        (subst (λ root. IsLeafOf (name_at hb.names.now) (InCone b.gates root) x) (sym b_root)
        (subst (λ names. IsLeafOf (name_at names) (InCone b.gates (b_wire b pairs c)) x) (sym b_names)
        (name_by_lies (b_name pairs c.reset) (length b.inputs) (length b.registers) b.gates (b_wire b pairs c)
        (ordered_gates b b_ok) b_there x l)))

    either_lies : (x : VarName) → LiesInEither ha hb x → IsVariable a b pairs c x
    either_lies x (inl l) = inl (a_lies x l)
    either_lies x (inr l) = inr (b_lies x l)

    lies_either : (x : VarName) → IsVariable a b pairs c x → LiesInEither ha hb x
    lies_either x (inl l) = inl (lies_a x l)
    lies_either x (inr l) = inr (lies_b x l)

    some_lie : (vars : List VarName) → AreSome (LiesInEither ha hb) vars → AreSome (IsVariable a b pairs c) vars
    some_lie vars some =
        record { rising = some.rising; each = λ t x at. either_lies x (some.each t x at) }

    pub wide_of : IsHalfWide ha hb → IsWide a b pairs c
    wide_of wide = record { vars = wide.vars; variables = some_lie wide.vars wide.variables; many = wide.many }

    variables_of : (told : Option Difference) (out : IsHalfOutcome ha hb c told) → AreVariables a b pairs c out.vars
    variables_of told out = record {
      some = some_lie out.vars out.variables.some;
      all = λ x l. out.variables.all x (lies_either x l);
    }

    pub narrow_of : (told : Option Difference) → IsHalfOutcome ha hb c told → IsNarrow a b pairs c
    narrow_of told out = record { vars = out.vars; variables = variables_of told out; few = out.few }

    a_view_is : (vars : List VarName) → half_view ha vars c.reset ≡ a_view a c.reset vars
    a_view_is vars =
        ap (λ (gates : List gate.Gate). record { gates = gates; names = ha.names.now; vars = vars; reset = c.reset })
        a_gates
        ∙ ap (λ (names : List VarName). record { gates = a.gates; names = names; vars = vars; reset = c.reset }) a_names

    b_view_is : (vars : List VarName) → half_view hb vars c.reset ≡ b_view b pairs c.reset vars
    b_view_is vars =
        ap (λ (gates : List gate.Gate). record { gates = gates; names = hb.names.now; vars = vars; reset = c.reset })
        b_gates
        ∙ ap (λ (names : List VarName). record { gates = b.gates; names = names; vars = vars; reset = c.reset }) b_names

    -- what is said of the views and roots of the halves holds of those of the netlists
    moved : (vars : List VarName) (P : View → View → Wire → Wire → Type 0)
        → P (half_view ha vars c.reset) (half_view hb vars c.reset) ha.root hb.root
        → P (a_view a c.reset vars) (b_view b pairs c.reset vars) (a_wire a c) (b_wire b pairs c)
    moved vars P p =
        subst (λ (s : View). P s (b_view b pairs c.reset vars) (a_wire a c) (b_wire b pairs c)) (a_view_is vars)
        (subst (λ (s : View). P (half_view ha vars c.reset) s (a_wire a c) (b_wire b pairs c)) (b_view_is vars)
        (subst (λ r. P (half_view ha vars c.reset) (half_view hb vars c.reset) r (b_wire b pairs c)) a_root
        (subst (λ r. P (half_view ha vars c.reset) (half_view hb vars c.reset) ha.root r) b_root p)))

    difference_of : (vars : List VarName) → AreVariables a b pairs c vars → (d : Difference)
        → IsDifferenceAt ha hb c vars d → IsDifferenceOf a b pairs c d
    difference_of vars variables d is =
        let apart = moved vars (λ s t r u. LeastApart s t r u is.vector) is.least in
        record {
          reset = is.reset;
          register = is.register;
          number = is.number;
          vars = vars;
          variables = variables;
          vector = is.vector;
          differs = differs_there vars variables is.vector apart;
          least = least_there vars variables is.vector apart;
          values = is.values;
        }

    told_of : (vars : List VarName) → AreVariables a b pairs c vars → (told : Option Difference)
        → IsToldBy ha hb c vars told → IsOutcome a b pairs c told
    told_of vars variables None never = agrees vars variables (moved vars NeverApart never)
    told_of vars variables (Some d) is = difference_of vars variables d is

    pub outcome_of : (told : Option Difference) → IsHalfOutcome ha hb c told → IsOutcome a b pairs c told
    outcome_of told out = told_of out.vars (variables_of told out) told out.is_told

    pub a_is_half : IsHalf ha
    a_is_half =
        half_is ha a.gates (a_listed a) (a_wire a c) (length a.registers) a_gates a_names a_root
        (length-map-range_with_len a_name 0 (length a.registers)) (ordered_in a a_ok)
        (root_in a a_ok c.register c.number (made_right a pairs c made).range)

    pub b_is_half : IsHalf hb
    b_is_half =
        half_is hb b.gates (b_listed b pairs c.reset) (b_wire b pairs c) (length b.registers) b_gates b_names b_root
        (length-map-range_with_len (b_name pairs c.reset) 0 (length b.registers)) (ordered_in b b_ok)
        (root_in b b_ok c.register _ (b_in_range a b pairs ports paired c made))

    pub cause_of : (e : CompareFail) → (e ≡ fail.Wide → IsHalfWide ha hb) → IsComparisonCause a b pairs c e
    cause_of fail.Wide wide = wide_of (wide refl)
    cause_of fail.Memory wide = tt
