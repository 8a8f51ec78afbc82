-- Pools that grow.
use Rattle.std.proofs.Common.{◌≡◌, ℕ, ◌⊎◌, inl, inr, Bool, true, false, not, List, [], ◌∷◌}
use Rattle.std.proofs.Common.{◌++◌, length, Option, Some, None, refl, sym, ap, ◌∙◌, subst, arith, cond}
use Rattle.std.proofs.lemmas.Option.{same_Some}
use Rattle.std.proofs.lemmas.Bool.{false≢true}
use Rattle.net_core.specs.declared.gate.Wire.{Wire}
use Rattle.net_core.specs.declared.gate.Wire.TheVariants as wire
use Rattle.net_core.specs.declared.gate.Gate as gate
use Rattle.net_core.specs.declared.gate.GateKind.{GateKind}
use Rattle.net_core.specs.declared.gate.GateKind.TheVariants as kinds
use Rattle.std.specs.Prelude.{IsTrue}
use Rattle.net_core.specs.Circuits.{is_plain_kind, IsBuilt, IsPlain}
use Rattle.net_core.proofs.Invariant.{built_with_gate}
use Rattle.net_core.specs.Rows.{Row, IsRow, value, gate_value, output_of}
use Rattle.net_core.specs.Circuits.{AllThere, FitsAfter, HasItsPins, IsThere}
use Rattle.net_core.proofs.Pushed.{get_at_end, get_in_front, get_pushed, length_pushed}
use Rattle.net_tidy.specs.declared.form.Joint.{Joint}
use Rattle.net_tidy.specs.declared.form.Joint.TheVariants.{All, Any}
use Rattle.net_tidy.specs.declared.form.Form.{Form}
use Rattle.net_tidy.specs.declared.form.Form.TheVariants.{Same, Not, Join}
use Rattle.pbs_base.specs.declared.fail.Memory.{Memory}
use Rattle.std.specs.Prelude.{IfOk, OnOk, IfSome}
use Rattle.std.proofs.Common.{Result, Ok, Err}
use Rattle.net_tidy.proofs.Joining.{joined_alike, joined_other, joined_turned}
use Rattle.net_tidy.specs.Forms.{form_of, form_of_one, form_of_two, form_pins, form_kind, form_at, gate_form}
use Rattle.net_tidy.specs.Forms.{form_value}
use Rattle.net_tidy.specs.Forms.{joined, IsTight}
use Rattle.net_tidy.specs.Keys.{form_eq}
use Rattle.net_tidy.specs.Pools.{IsPool}
use Rattle.net_tidy.specs.inner.Made.{AllFit, HasNeatForms, Makes}
use Rattle.net_tidy.proofs.Formed.{form_means, formed_gate, form_again, gate_there, pins_of_form, pins_there}
use Rattle.net_tidy.proofs.Formed.{value_at_form}
use Rattle.net_tidy.proofs.Keyed.{form_itself, same_form}

gate_at_pushed : (gates : List gate.Gate) (g : gate.Gate) (n : ℕ) (f : Form)
    → form_at (gates ++ g ∷ []) (wire.Gate n) ≡ Some f
    → (form_at gates (wire.Gate n) ≡ Some f) ⊎ ((n ≡ length gates) × (form_of g.kind g.pins ≡ Some f))
gate_at_pushed gates g n f e =
    let made = formed_gate (gates ++ g ∷ []) n f e in
    elim (get_pushed gates g n made.0 made.1) [
      | inl old ↦ inl (ap gate_form old ∙ made.2)
      | inr (at, same) ↦ inr (at, ap (λ (x : gate.Gate). form_of x.kind x.pins) (sym same) ∙ made.2)
    ]

form_kept : (gates : List gate.Gate) (g : gate.Gate) (n : ℕ) (f : Form) → form_at gates (wire.Gate n) ≡ Some f
    → form_at (gates ++ g ∷ []) (wire.Gate n) ≡ Some f
form_kept gates g n f e =
    let made = formed_gate gates n f e in
    ap gate_form (get_in_front gates (g ∷ []) n made.0 made.1) ∙ made.2

-- a gate with a new form was added and is known
pub pool_more : (gates : List gate.Gate) (g : gate.Gate) (known known' : Form → Option ℕ) (f : Form)
    → IsPool gates known → IsTight f → ((n : ℕ) → form_at gates (wire.Gate n) ≡ Some f → ⊥)
    → ((j : Joint) (a b : Wire) → f ≡ Join j a b → (n : ℕ) → form_at gates (wire.Gate n) ≡ Some (Join j b a) → ⊥)
    → form_of g.kind g.pins ≡ Some f
    → ((q : Form) → known' q ≡ cond (form_eq f q) (Some (length gates)) (known q))
    → IsPool (gates ++ g ∷ []) known'
pool_more gates g known known' f pool tight absent fresh formed updates = record {
  sound = λ q n e. sound q n (form_eq f q) refl (sym (updates q) ∙ e);
  complete = λ q n e. elim (gate_at_pushed gates g n q e) [
    | inl old ↦ updates q ∙ old_known q n old (form_eq f q) refl
    | inr (at, same) ↦
        updates q
        ∙ (new_known q (sym (same_Some f q (sym formed ∙ same))) (form_eq f q) refl ∙ ap Some (sym at))
  ];
  tight = λ q n e. elim (gate_at_pushed gates g n q e) [
    | inl old ↦ pool.tight q n old
    | inr (at, same) ↦ subst IsTight (same_Some f q (sym formed ∙ same)) tight
  ];
  turned = λ j a b m n e e'. elim (gate_at_pushed gates g m (Join j a b) e) [
    | inl old ↦ elim (gate_at_pushed gates g n (Join j b a) e') [
      | inl old' ↦ pool.turned j a b m n old old'
      | inr (at', same') ↦ absurd (fresh j b a (same_Some f (Join j b a) (sym formed ∙ same')) m old)
    ]
    | inr (at, same) ↦ elim (gate_at_pushed gates g n (Join j b a) e') [
      | inl old' ↦ absurd (fresh j a b (same_Some f (Join j a b) (sym formed ∙ same)) n old')
      | inr (at', same') ↦ at ∙ sym at'
    ]
  ];
}
  where
    sound : (q : Form) (n : ℕ) (t : Bool) → form_eq f q ≡ t → cond t (Some (length gates)) (known q) ≡ Some n
        → form_at (gates ++ g ∷ []) (wire.Gate n) ≡ Some q
    sound q n true same e =
        let at : length gates ≡ n = same_Some (length gates) n e in
        subst (λ m. form_at (gates ++ g ∷ []) (wire.Gate m) ≡ Some q) at
        (ap gate_form (get_at_end gates g) ∙ formed ∙ ap Some (same_form f q same))
    sound q n false same e = form_kept gates g n q (pool.sound q n e)

    old_known : (q : Form) (n : ℕ) → form_at gates (wire.Gate n) ≡ Some q → (t : Bool) → form_eq f q ≡ t
        → cond t (Some (length gates)) (known q) ≡ Some n
    old_known q n old true same = absurd (absent n (old ∙ ap Some (sym (same_form f q same))))
    old_known q n old false same = pool.complete q n old

    new_known : (q : Form) → q ≡ f → (t : Bool) → form_eq f q ≡ t
        → cond t (Some (length gates)) (known q) ≡ Some (length gates)
    new_known q is true same = refl
    new_known q is false same = absurd (false≢true (sym same ∙ (ap (form_eq f) is ∙ form_itself f)))

-- a gate without a form was added
pub pool_other : (gates : List gate.Gate) (g : gate.Gate) (known : Form → Option ℕ)
    → IsPool gates known → form_of g.kind g.pins ≡ None → IsPool (gates ++ g ∷ []) known
pool_other gates g known pool formless = record {
  sound = λ f n e. form_kept gates g n f (pool.sound f n e);
  complete = λ f n e. elim (gate_at_pushed gates g n f e) [
    | inl old ↦ pool.complete f n old
    | inr (at, same) ↦ absurd (cc)
  ];
  tight = λ f n e. elim (gate_at_pushed gates g n f e) [
    | inl old ↦ pool.tight f n old
    | inr (at, same) ↦ absurd (cc)
  ];
  turned = λ j a b m n e e'. elim (gate_at_pushed gates g m (Join j a b) e) [
    | inl old ↦ elim (gate_at_pushed gates g n (Join j b a) e') [
      | inl old' ↦ pool.turned j a b m n old old'
      | inr (at', same') ↦ absurd (cc)
    ]
    | inr (at, same) ↦ absurd (cc)
  ];
}

-- a gate was added
pub makes_pushed : (gates : List gate.Gate) (g : gate.Gate) → HasItsPins g.kind (length g.pins)
    → Makes gates (gates ++ g ∷ []) g.pins (wire.Gate (length gates)) (λ row. gate_value row g)
makes_pushed gates g has =
    let longer = length_pushed gates g in
    record {
      rows = λ row is. record { each = λ n x at. is.each n x (get_in_front gates (g ∷ []) n x at) };
      fewest = omega (arith, longer);
      most = omega (arith, longer);
      meaning = λ row is. is.each (length gates) g (get_at_end gates g);
      fit = λ i r fit pins. record {
        each = λ n x at. elim (get_pushed gates g n x at) [
          | inl old ↦ fit.each n x old
          | inr (end, same) ↦
              subst (λ n. FitsAfter i r n x) (sym end)
              (subst (λ x. FitsAfter i r (length gates) x) (sym same) (record { there = pins; count = has }))
        ];
      };
      there = λ i r fit pins. omega (arith, longer);
    }

-- nothing was added
pub makes_here : (gates : List gate.Gate) (pins : List Wire) (w : Wire) (meaning_of : Row → Bool)
    → ((row : Row) → IsRow gates row → value row w ≡ meaning_of row)
    → ((i r : ℕ) → AllFit i r gates → AllThere i r (length gates) pins → IsThere i r (length gates) w)
    → Makes gates gates pins w meaning_of
makes_here gates pins w meaning_of meaning there = record {
  rows = λ row is. is;
  fewest = omega arith;
  most = omega arith;
  meaning = meaning;
  fit = λ i r fit pins. fit;
  there = there;
}

-- ---- wires that are there

either_value : (row : Row) (x y b : Wire) → (x ≡ b) ⊎ (y ≡ b)
    → (value row x ≡ value row b) ⊎ (value row y ≡ value row b)
either_value row x y b (inl e) = inl (ap (value row) e)
either_value row x y b (inr e) = inr (ap (value row) e)

-- the join of a wire that is made of another
pub absorbed_alike : (gates : List gate.Gate) (j k : Joint) (a x y b : Wire) (row : Row)
    → form_at gates a ≡ Some (Join k x y) → IsRow gates row → j ≡ k → (x ≡ b) ⊎ (y ≡ b)
    → value row a ≡ joined j (value row a) (value row b)
absorbed_alike gates j k a x y b row e is alike which =
    let v = value_at_form gates a (Join k x y) row e is in
    v ∙ (joined_alike k (value row x) (value row y) (value row b) (either_value row x y b which)
    ∙ (ap (λ z. joined k z (value row b)) (sym v) ∙ ap (λ q. joined q (value row a) (value row b)) (sym alike)))

pub absorbed_other : (gates : List gate.Gate) (j k : Joint) (a x y b : Wire) (row : Row)
    → form_at gates a ≡ Some (Join k x y) → IsRow gates row → (j ≡ k → ⊥) → (x ≡ b) ⊎ (y ≡ b)
    → value row b ≡ joined j (value row a) (value row b)
absorbed_other gates j k a x y b row e is other which =
    let v = value_at_form gates a (Join k x y) row e is in
    joined_other j k other (value row x) (value row y) (value row b) (either_value row x y b which)
    ∙ ap (λ z. joined j z (value row b)) (sym v)

pub found_in : (o : Option ℕ) (gates : List gate.Gate) (known : Form → Option ℕ) (f : Form) → IsPool gates known
    → o ≡ known f → IfSome o (λ n. form_at gates (wire.Gate n) ≡ Some f)
found_in None gates known f pool e = tt
found_in (Some n) gates known f pool e = pool.sound f n (sym e)

-- the gate that has the form is there
pub makes_shared : (gates : List gate.Gate) (n : ℕ) (f : Form) → form_at gates (wire.Gate n) ≡ Some f
    → Makes gates gates (form_pins f) (wire.Gate n) (λ row. form_value row f)
makes_shared gates n f e =
    makes_here gates (form_pins f) (wire.Gate n) (λ row. form_value row f)
    (λ row is. value_at_form gates (wire.Gate n) f row e is) (λ i r fit pins. gate_there i r gates n f e)

pub makes_turned : (gates : List gate.Gate) (n : ℕ) (j : Joint) (a b : Wire)
    → form_at gates (wire.Gate n) ≡ Some (Join j b a)
    → Makes gates gates (a ∷ b ∷ []) (wire.Gate n) (λ row. joined j (value row a) (value row b))
makes_turned gates n j a b e =
    makes_here gates (a ∷ b ∷ []) (wire.Gate n) (λ row. joined j (value row a) (value row b))
    (λ row is.
    value_at_form gates (wire.Gate n) (Join j b a) row e is ∙ joined_turned j (value row b) (value row a))
    (λ i r fit pins. gate_there i r gates n (Join j b a) e)

not_twice : (a b : Bool) → a ≡ not b → b ≡ not a
not_twice true true e = e
not_twice true false e = refl
not_twice false true e = refl
not_twice false false e = e

-- what is negated twice
pub makes_twice : (gates : List gate.Gate) (a inner : Wire) → form_at gates a ≡ Some (Not inner)
    → Makes gates gates (a ∷ []) inner (λ row. not (value row a))
makes_twice gates a inner e =
    makes_here gates (a ∷ []) inner (λ row. not (value row a))
    (λ row is. not_twice (value row a) (value row inner) (value_at_form gates a (Not inner) row e is))
    (λ i r fit pins. (pins_there i r gates a (Not inner) e fit).each 0 inner refl)

pub makes_wire : (gates : List gate.Gate) (f : Form) (a : Wire) → f ≡ Same a
    → Makes gates gates (form_pins f) a (λ row. form_value row f)
makes_wire gates f a e =
    subst (λ x. Makes gates gates (form_pins x) a (λ row. form_value row x)) (sym e)
    (makes_here gates (a ∷ []) a (λ row. value row a) (λ row is. refl) (λ i r fit pins. pins.each 0 a refl))

-- ---- a gate of a form was added

has_form_pins : (f : Form) → HasItsPins (form_kind f) (length (form_pins f))
has_form_pins (Same a) = refl
has_form_pins (Not a) = refl
has_form_pins (Join All a b) = omega arith
has_form_pins (Join Any a b) = omega arith

-- the same with another meaning, that agrees in every row
pub makes_as : (old new : List gate.Gate) (pins : List Wire) (w : Wire) (before after : Row → Bool)
    → ((row : Row) → before row ≡ after row) → Makes old new pins w before → Makes old new pins w after
makes_as old new pins w before after same makes = record {
  rows = makes.rows;
  fewest = makes.fewest;
  most = makes.most;
  meaning = λ row is. makes.meaning row is ∙ same row;
  fit = makes.fit;
  there = makes.there;
}

makes_pushed_form : (gates : List gate.Gate) (f : Form)
    → Makes gates (gates ++ (record { kind = form_kind f; pins = form_pins f }) ∷ []) (form_pins f)
    (wire.Gate (length gates)) (λ row. form_value row f)
makes_pushed_form gates f =
    let g : gate.Gate = record { kind = form_kind f; pins = form_pins f } in
    makes_as gates (gates ++ g ∷ []) (form_pins f) (wire.Gate (length gates)) (λ row. gate_value row g)
    (λ row. form_value row f) (λ row. form_means row (form_kind f) (form_pins f) f (form_again f))
    (makes_pushed gates g (has_form_pins f))

pub makes_form : (r : Result Wire Memory) (old new : List gate.Gate) (f : Form)
    → IfOk r (λ w. w ≡ wire.Gate (length old))
    → OnOk r (new ≡ old ++ (record { kind = form_kind f; pins = form_pins f }) ∷ [])
    → IfOk r (λ w. Makes old new (form_pins f) w (λ row. form_value row f))
makes_form (Err x) old new f at e = tt
makes_form (Ok w) old new f at e =
    subst (λ (n : List gate.Gate). Makes old n (form_pins f) w (λ row. form_value row f)) (sym e)
    (subst (λ v. Makes old (old ++ (record { kind = form_kind f; pins = form_pins f }) ∷ []) (form_pins f) v
    (λ row. form_value row f)) (sym at) (makes_pushed_form old f))

pub makes_by_form : (r : Result Wire Memory) (old new : List gate.Gate) (kind : GateKind) (pins : List Wire) (f : Form)
    → form_of kind pins ≡ Some f
    → IfOk r (λ w. Makes old new (form_pins f) w (λ row. form_value row f))
    → IfOk r (λ w. Makes old new pins w (λ row. output_of row kind pins))
makes_by_form (Err x) old new kind pins f e makes = tt
makes_by_form (Ok w) old new kind pins f e makes =
    subst (λ ps. Makes old new ps w (λ row. output_of row kind pins)) (pins_of_form kind pins f e)
    (makes_as old new (form_pins f) w (λ row. form_value row f) (λ row. output_of row kind pins)
    (λ row. sym (form_means row kind pins f e)) makes)

-- nothing is known that wasn't
pub pool_kept : (gates gates' : List gate.Gate) (known known' : Form → Option ℕ) → IsPool gates known
    → gates' ≡ gates → ((q : Form) → known' q ≡ known q) → IsPool gates' known'
pool_kept gates gates' known known' pool e same = subst (λ gs. IsPool gs known') (sym e) (record {
  sound = λ q n at. pool.sound q n (sym (same q) ∙ at);
  complete = λ q n at. same q ∙ pool.complete q n at;
  turned = pool.turned;
  tight = pool.tight;
})

-- a form that was remembered and forgotten
pub pool_forgot : (gates gates' : List gate.Gate) (known mid known' : Form → Option ℕ) (f : Form) (m : ℕ)
    → IsPool gates known → gates' ≡ gates → ((n : ℕ) → form_at gates (wire.Gate n) ≡ Some f → ⊥)
    → ((q : Form) → mid q ≡ cond (form_eq f q) (Some m) (known q))
    → ((q : Form) → known' q ≡ cond (form_eq f q) None (mid q)) → IsPool gates' known'
pool_forgot gates gates' known mid known' f m pool e absent more fewer =
    pool_kept gates gates' known known' pool e (λ q. fewer q ∙ by q (form_eq f q) refl)
  where
    none : (q : Form) (o : Option ℕ) → known q ≡ o → f ≡ q → None ≡ known q
    none q None at same = sym at
    none q (Some n) at same = absurd (absent n (pool.sound q n at ∙ ap Some (sym same)))

    by : (q : Form) (t : Bool) → form_eq f q ≡ t → cond t None (mid q) ≡ known q
    by q true same = none q (known q) refl (same_form f q same)
    by q false same = more q ∙ ap (λ t. cond t (Some m) (known q)) same

pub pool_pushed : (gates gates' : List gate.Gate) (g : gate.Gate) (known known' : Form → Option ℕ) (f : Form) (m : ℕ)
    → IsPool gates known → gates' ≡ gates ++ g ∷ [] → IsTight f
    → ((n : ℕ) → form_at gates (wire.Gate n) ≡ Some f → ⊥)
    → ((j : Joint) (a b : Wire) → f ≡ Join j a b → (n : ℕ) → form_at gates (wire.Gate n) ≡ Some (Join j b a) → ⊥)
    → g.kind ≡ form_kind f → g.pins ≡ form_pins f
    → m ≡ length gates → ((q : Form) → known' q ≡ cond (form_eq f q) (Some m) (known q)) → IsPool gates' known'
pool_pushed gates gates' g known known' f m pool e tight absent fresh kind pins count updates =
    let formed = ap (λ k. form_of k g.pins) kind ∙ (ap (form_of (form_kind f)) pins ∙ form_again f) in
    subst (λ gs. IsPool gs known') (sym e)
    (pool_more gates g known known' f pool tight absent fresh formed
    (λ q. updates q ∙ ap (λ k. cond (form_eq f q) (Some k) (known q)) count))

pub pool_neat : (gates : List gate.Gate) (known : Form → Option ℕ) → IsPool gates known → HasNeatForms gates
pool_neat gates known pool = record {
  turned = pool.turned;
  tight = pool.tight;
  once = λ f m n e e'. same_Some m n (sym (pool.complete f m e) ∙ pool.complete f n e');
}

-- ---- plain gates

form_plain : (f : Form) → IsPlain (record { kind = form_kind f; pins = form_pins f })
form_plain (Same a) = record { kind = refl; pins = omega arith }
form_plain (Not a) = record { kind = refl; pins = omega arith }
form_plain (Join All a b) = record { kind = refl; pins = omega arith }
form_plain (Join Any a b) = record { kind = refl; pins = omega arith }

pub built_form : (r : Result Wire Memory) (old new : List gate.Gate) (f : Form)
    → OnOk r (new ≡ old ++ (record { kind = form_kind f; pins = form_pins f }) ∷ [])
    → OnOk r (IsBuilt old → IsBuilt new)
built_form (Err x) old new f e = tt
built_form (Ok w) old new f e = λ built.
    rw e (built_with_gate old (record { kind = form_kind f; pins = form_pins f }) built (form_plain f))

plain_one : (kind : GateKind) (a : Wire) → IsTrue (is_plain_kind kind) → form_of_one kind a ≡ None → ⊥
plain_one kinds.Buf a plain e = absurd (cc)
plain_one kinds.Not a plain e = absurd (cc)
plain_one kinds.And a plain e = absurd (cc)
plain_one kinds.Or a plain e = absurd (cc)
plain_one kinds.Nand a plain e = absurd (false≢true plain)
plain_one kinds.Nor a plain e = absurd (false≢true plain)
plain_one kinds.Xor a plain e = absurd (false≢true plain)
plain_one kinds.Xnor a plain e = absurd (false≢true plain)

plain_two : (kind : GateKind) (a b : Wire) → IsTrue (is_plain_kind kind) → HasItsPins kind 2
    → form_of_two kind a b ≡ None → ⊥
plain_two kinds.Buf a b plain has e = absurd (omega (arith, has))
plain_two kinds.Not a b plain has e = absurd (omega (arith, has))
plain_two kinds.And a b plain has e = absurd (cc)
plain_two kinds.Or a b plain has e = absurd (cc)
plain_two kinds.Nand a b plain has e = absurd (false≢true plain)
plain_two kinds.Nor a b plain has e = absurd (false≢true plain)
plain_two kinds.Xor a b plain has e = absurd (false≢true plain)
plain_two kinds.Xnor a b plain has e = absurd (false≢true plain)

none_has : (kind : GateKind) → HasItsPins kind 0 → ⊥
none_has kinds.Buf has = absurd (omega (arith, has))
none_has kinds.Not has = absurd (omega (arith, has))
none_has kinds.And has = absurd (omega (arith, has))
none_has kinds.Or has = absurd (omega (arith, has))
none_has kinds.Nand has = absurd (omega (arith, has))
none_has kinds.Nor has = absurd (omega (arith, has))
none_has kinds.Xor has = absurd (omega (arith, has))
none_has kinds.Xnor has = absurd (omega (arith, has))

-- a plain gate has a form
pub plain_has_form : (kind : GateKind) (pins : List Wire) → IsPlain (record { kind = kind; pins = pins })
    → HasItsPins kind (length pins) → form_of kind pins ≡ None → ⊥
plain_has_form kind [] plain has e = none_has kind has
plain_has_form kind (a ∷ []) plain has e = plain_one kind a plain.kind e
plain_has_form kind (a ∷ b ∷ []) plain has e = plain_two kind a b plain.kind has e
plain_has_form kind (a ∷ b ∷ x ∷ rest) plain has e = let few = plain.pins in absurd (omega (arith, few))

pub built_never : (r : Result Wire Memory) (old new : List gate.Gate) (kind : GateKind) (pins : List Wire)
    → HasItsPins kind (length pins) → form_of kind pins ≡ None
    → OnOk r (IsBuilt old → IsPlain (record { kind = kind; pins = pins }) → IsBuilt new)
built_never (Err x) old new kind pins has e = tt
built_never (Ok w) old new kind pins has e = λ built plain. absurd (plain_has_form kind pins plain has e)

pub fresh_join : (gates : List gate.Gate) (j k : Joint) (a b c d : Wire) (n : ℕ)
    → ((n : ℕ) → form_at gates (wire.Gate n) ≡ Some (Join j b a) → ⊥) → Join j a b ≡ Join k c d
    → form_at gates (wire.Gate n) ≡ Some (Join k d c) → ⊥
fresh_join gates j k a b c d n absent e at =
    let alike : j ≡ k = cc in
    let first : a ≡ c = cc in
    let second : b ≡ d = cc in
    absurd (absent n (at ∙ (ap (λ x. Some (Join x d c)) (sym alike)
    ∙ (ap (λ x. Some (Join j x c)) (sym second) ∙ ap (λ x. Some (Join j b x)) (sym first)))))
