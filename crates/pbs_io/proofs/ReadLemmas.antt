-- A slot that is read piece by piece.
use Rattle.std.proofs.Common.{◌≡◌, ◌+◌, ◌-◌, ◌≤◌, ◌<◌, ℕ, List, [], ◌++◌, Option, Some, None, Ok, Err, length, take}
use Rattle.std.proofs.Common.{refl, sym, ap, subst, ◌∙◌, append_assoc, append-nil, length-append, length-take, arith}
use Rattle.std.proofs.lemmas.List.{take-append-le}
use Rattle.std.specs.Option.{ForSome}
use Rattle.std.specs.Io.KnownBytes.{prepend_known, IsAtEnd}
use Rattle.std.proofs.KnownBytes.{prepend_known-nil}
use Rattle.pbs_io.specs.Outside.{ShelfState, GoesOn, Reads}
use Rattle.pbs_io.specs.ReadAll.{IsFront, MovesAtMost, ReadsAll}
use Rattle.pbs_io.specs.declared.read.ReadFail.TheVariants.{Fault, TooLong, Memory}

pub prepend_known-twice : (xs ys : List ℕ) (known : Option (List ℕ))
    → prepend_known xs (prepend_known ys known) ≡ prepend_known (xs ++ ys) known
prepend_known-twice xs ys None = refl
prepend_known-twice xs ys (Some zs) = ap Some (sym (append_assoc xs ys zs))

pub GoesOn-refl : (s : ShelfState) → GoesOn s s
GoesOn-refl s = record { files = refl; later = omega arith; sound = λ h. h }

pub GoesOn-trans : (a b c : ShelfState) → GoesOn a b → GoesOn b c → GoesOn a c
GoesOn-trans a b c p q = record { files = q.files ∙ p.files; later = omega arith; sound = λ h. q.sound (p.sound h) }

-- these bytes were read from the slot
pub record HasRead (before now : ShelfState) (slot : ℕ) (out : List ℕ) : Type 0 where
  pub goes_on : GoesOn before now
  pub other : now.slots (1 - slot) ≡ before.slots (1 - slot)
  pub stands : (now.slots slot).stands ≡ (before.slots slot).stands
  pub left : (before.slots slot).left ≡ prepend_known out (now.slots slot).left

pub nothing_read : (s : ShelfState) (slot : ℕ) (out : List ℕ) → out ≡ [] → HasRead s s slot out
nothing_read s slot out none = record {
  goes_on = GoesOn-refl s;
  other = refl;
  stands = refl;
  left = sym (ap (λ l. prepend_known l (s.slots slot).left) none ∙ prepend_known-nil (s.slots slot).left);
}

pub one_read_more : {E : Type 0} (a b c : ShelfState) (slot : ℕ) (out buffer next : List ℕ) (n : ℕ)
    → HasRead a b slot out → Reads {E = E} b c slot buffer (Ok n) → next ≡ out ++ take n buffer → HasRead a c slot next
one_read_more a b c slot out buffer next n so_far read grown = record {
  goes_on = GoesOn-trans a b c so_far.goes_on read.goes_on;
  other = read.other ∙ so_far.other;
  stands = read.stands ∙ so_far.stands;
  left = so_far.left ∙ (ap (prepend_known out) read.moved
      ∙ (prepend_known-twice out (take n buffer) (c.slots slot).left
      ∙ ap (λ l. prepend_known l (c.slots slot).left) (sym grown)));
}

pub read_failed : {E : Type 0} (a b c : ShelfState) (slot : ℕ) (out buffer : List ℕ) (e : E) → HasRead a b slot out
    → Reads b c slot buffer (Err e) → HasRead a c slot out
read_failed a b c slot out buffer e so_far read = record {
  goes_on = GoesOn-trans a b c so_far.goes_on read.goes_on;
  other = read.other ∙ so_far.other;
  stands = read.stands ∙ so_far.stands;
  left = so_far.left ∙ ap (prepend_known out) (sym read.kept);
}

pub front_of : (left now : Option (List ℕ)) (out : List ℕ) → left ≡ prepend_known out now → ForSome left (IsFront out)
front_of left None out e text told = absurd (let clash : None ≡ Some text = sym e ∙ told in cc)
front_of left (Some rest) out e text told = let same : Some (out ++ rest) ≡ Some text = sym e
    ∙ told in record { rest = rest; whole = cc }

pub whole_of : (left now : Option (List ℕ)) (out : List ℕ) → left ≡ prepend_known out now → IsAtEnd now
    → ForSome left (λ text. out ≡ text)
whole_of left None out e end text told = absurd (let clash : None ≡ Some text = sym e ∙ told in cc)
whole_of left (Some rest) out e end text told =
    let same : Some (out ++ rest) ≡ Some text = sym e ∙ told in
    let joined : out ++ rest ≡ text = cc in
    sym (append-nil out) ∙ (ap (λ l. out ++ l) (sym end) ∙ joined)

-- the bytes that were read were taken
taken_so_far : (a b : ShelfState) (slot most : ℕ) (out : List ℕ) → HasRead a b slot out → length out ≤ most
    → MovesAtMost (a.slots slot).left (b.slots slot).left most
taken_so_far a b slot most out so_far few = record { taken = out; few = few; left = so_far.left }

-- a read of no bytes leaves what was left
none_moved : {E : Type 0} (b c : ShelfState) (slot : ℕ) (buffer : List ℕ) (n : ℕ) → Reads {E = E} b c slot buffer (Ok n)
    → n ≡ 0 → (b.slots slot).left ≡ (c.slots slot).left
none_moved b c slot buffer n read none =
    read.moved ∙ (ap (λ k. prepend_known (take k buffer) (c.slots slot).left) none
    ∙ prepend_known-nil (c.slots slot).left)

pub read_whole : {T E : Type 0} (x : T) (a b c : ShelfState) (slot limit : ℕ) (out buffer : List ℕ) (n : ℕ)
    → HasRead a b slot out → Reads {E = E} b c slot buffer (Ok n) → n ≡ 0 → length out ≤ limit
    → ReadsAll {T = T} a c slot limit out (Ok x)
read_whole x a b c slot limit out buffer n so_far read none short =
    let all = whole_of _ _ out so_far.left (read.end none) in
    let done = one_read_more a b c slot out buffer out n so_far read (sym (append-nil out)
    ∙ ap (λ k. out ++ take k buffer) (sym none)) in
    record {
      goes_on = done.goes_on;
      other = done.other;
      stands = done.stands;
      takes = taken_so_far a c slot (limit + 1) out done (omega arith);
      gives = λ text told. let same = all text told in (same, subst (λ l. length l ≤ limit) same short);
      ended = subst IsAtEnd (none_moved b c slot buffer n read none) (read.end none);
      cause = λ bad. absurd (let h : Ok x ≡ Err Fault = bad in cc);
      never = λ _ _ bad. let h : Ok x ≡ Err Fault = bad in cc;
    }

pub read_too_long : {T : Type 0} (a b : ShelfState) (slot limit : ℕ) (all out : List ℕ) → HasRead a b slot all
    → limit < length all → length all ≤ limit + 1 → out ≡ take limit all
    → ReadsAll {T = T} a b slot limit out (Err TooLong)
read_too_long a b slot limit all out so_far long few cut = record {
  goes_on = so_far.goes_on;
  other = so_far.other;
  stands = so_far.stands;
  takes = taken_so_far a b slot (limit + 1) all so_far few;
  gives = λ text told.
      let f = front_of _ _ all so_far.left text told in
      let longer : length all + length f.rest ≡ length text = sym (length-append all f.rest) ∙ ap length f.whole in
      (cut ∙ (sym (take-append-le limit all f.rest (omega arith)) ∙ ap (take limit) f.whole), omega arith);
  ended = tt;
  cause = λ bad. absurd (let h : Err TooLong ≡ Err Fault = bad in cc);
  never = λ _ _ bad. let h : Err TooLong ≡ Err Fault = bad in cc;
}

pub read_fault : {T E : Type 0} (a b c : ShelfState) (slot limit : ℕ) (out buffer : List ℕ) (e : E)
    → HasRead a b slot out → length out ≤ limit → Reads b c slot buffer (Err e)
    → ReadsAll {T = T} a c slot limit out (Err Fault)
read_fault a b c slot limit out buffer e so_far short read =
    let done = read_failed a b c slot out buffer e so_far read in
    record {
      goes_on = done.goes_on;
      other = done.other;
      stands = done.stands;
      takes = taken_so_far a c slot (limit + 1) out done (omega arith);
      gives = front_of _ _ out done.left;
      ended = tt;
      cause = λ _. let rose = read.cause in let later = so_far.goes_on.later in omega arith;
      never = λ calm stood _. let bad = read.never (so_far.goes_on.sound calm) (so_far.stands ∙ stood) in cc;
    }

-- bytes that were read found no room in `out`
pub read_but_no_memory : {T E : Type 0} (a b c : ShelfState) (slot limit : ℕ) (out buffer next : List ℕ) (n : ℕ)
    → HasRead a b slot out → Reads {E = E} b c slot buffer (Ok n) → length out + n ≤ limit + 1 → next ≡ out
    → ReadsAll {T = T} a c slot limit next (Err Memory)
read_but_no_memory a b c slot limit out buffer next n so_far read few same =
    let moved = one_read_more a b c slot out buffer (out ++ take n buffer) n so_far read refl in
    record {
      goes_on = moved.goes_on;
      other = moved.other;
      stands = moved.stands;
      takes = taken_so_far a c slot (limit + 1) (out ++ take n buffer) moved
          (omega (arith, length-append out (take n buffer), length-take n buffer));
      gives = λ text told. let f = front_of _ _ out so_far.left text told in record
          { rest = f.rest; whole = ap (λ l. l ++ f.rest) same ∙ f.whole };
      ended = tt;
      cause = λ bad. absurd (let h : Err Memory ≡ Err Fault = bad in cc);
      never = λ _ _ bad. let h : Err Memory ≡ Err Fault = bad in cc;
    }

pub read_no_memory : {T : Type 0} (a b : ShelfState) (slot limit : ℕ) (out : List ℕ) → HasRead a b slot out → out ≡ []
    → ReadsAll {T = T} a b slot limit out (Err Memory)
read_no_memory a b slot limit out so_far none = record {
  goes_on = so_far.goes_on;
  other = so_far.other;
  stands = so_far.stands;
  takes = taken_so_far a b slot (limit + 1) out so_far (omega (arith, ap length none));
  gives = front_of _ _ out so_far.left;
  ended = tt;
  cause = λ bad. absurd (let h : Err Memory ≡ Err Fault = bad in cc);
  never = λ _ _ bad. let h : Err Memory ≡ Err Fault = bad in cc;
}
