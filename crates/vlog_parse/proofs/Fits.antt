-- What the machine has found is the raw netlist of a text, as far as it goes.
use Rattle.std.proofs.Common.{◌≡◌, ℕ, zero, suc, ◌<◌, ◌≤◌, List, [], ◌∷◌, ◌++◌, length, Bool, true, false}
use Rattle.std.proofs.Common.{Some}
use Rattle.std.proofs.Common.{refl, sym, ap, subst, ◌∙◌, ltb, length-append, arith}
use Rattle.std.proofs.lemmas.Bool.{false≢true}
use Rattle.std.proofs.lemmas.Bool.Decides.{nat_tests}
use Rattle.std.proofs.lemmas.Option.{slice_get_within}
use Rattle.std.specs.Prelude.{IsTrue, not, slice_get, ⊤}
use Rattle.net_core.specs.declared.gate.GateKind.{GateKind}
use Rattle.net_core.specs.declared.gate.GateKind.TheVariants as gate
use Rattle.net_core.specs.Circuits.{HasItsPins}
use Rattle.vlog_text.specs.declared.raw.RawGate.{RawGate}
use Rattle.vlog_text.specs.declared.raw.RawName.{RawName}
use Rattle.vlog_text.specs.declared.raw.RawPin.{RawPin}
use Rattle.vlog_text.specs.declared.raw.RawPin.TheVariants as pin
use Rattle.vlog_text.specs.declared.raw.Target.TheVariants as target
use Rattle.vlog_text.specs.Grammar.{OperandPhrase, Named, Constant, is_single}
use Rattle.vlog_text.specs.Raw.{IsInner, PinFits, IsOperand, GateFits}
use Rattle.vlog_text.specs.Trees.{operand_of, gate_of}
use Rattle.vlog_parse.specs.declared.state.Level.{Level}
use Rattle.vlog_parse.specs.declared.state.Frame.{Frame}
use Rattle.vlog_parse.specs.declared.state.Frame.TheVariants.{Negation, Bracket}
use Rattle.vlog_parse.specs.declared.state.Part.{Part}
use Rattle.vlog_parse.specs.declared.state.Part.TheVariants.{Pin, Made}
use Rattle.vlog_parse.specs.inner.Machine.{settled_pin, settled_gates, Held, made, joined_part, unwound, unwound_frames}
use Rattle.vlog_parse.specs.inner.Machine.{driven, with_part, and_held, xor_held, or_held}

-- ---- lists

slice_front : {A : Type 0} (xs : List A) (y : A) (k : ℕ) → k < length xs → slice_get (xs ++ y ∷ []) k ≡ slice_get xs k
slice_front [] y k h = absurd (omega arith)
slice_front (x ∷ xs) y zero h = refl
slice_front (x ∷ xs) y (suc k) h = slice_front xs y k (omega arith)

slice_last : {A : Type 0} (xs : List A) (y : A) → slice_get (xs ++ y ∷ []) (length xs) ≡ Some y
slice_last [] y = refl
slice_last (x ∷ xs) y = slice_last xs y

some_same : {A : Type 0} (x y : A) → Some x ≡ Some y → x ≡ y
some_same x y e = cc

-- an item of a longer list is one of the list, or the new one
pub each_of : {A : Type 0} (P : ℕ → A → Type 0) (xs : List A) (y : A)
    → ((n : ℕ) (x : A) → n < length xs → slice_get xs n ≡ Some x → P n x) → P (length xs) y
    → (n : ℕ) (x : A) → slice_get (xs ++ y ∷ []) n ≡ Some x → P n x
each_of P xs y old new n x e = by (ltb n (length xs)) refl
  where
    by : (b : Bool) → ltb n (length xs) ≡ b → P n x
    by true t =
        let h : n < length xs = grind (arith, nat_tests) in
        old n x h (sym (slice_front xs y n h) ∙ e)
    by false t =
        let w : n < length (xs ++ y ∷ []) = slice_get_within (xs ++ y ∷ []) n x e in
        let l = length-append xs (y ∷ []) in
        let last : length xs ≡ n = grind (arith, nat_tests) in
        let same : y ≡ x = some_same y x (sym (slice_last xs y) ∙ (ap (slice_get (xs ++ y ∷ [])) last ∙ e)) in
        subst (λ m. P m x) last (subst (P (length xs)) same new)

-- ---- pins and gates

abbrev pub PinFit : List RawGate → RawPin → Type 0
PinFit gates p = PinFits gates (length gates) p

abbrev pub PinsFit : List RawGate → List RawPin → Type 0
PinsFit gates [] = ⊤
PinsFit gates (p ∷ ps) = PinFit gates p × PinsFit gates ps

abbrev pub AllFit : List RawGate → Type 0
AllFit gates = (n : ℕ) (g : RawGate) → slice_get gates n ≡ Some g → GateFits gates n g

-- what fits over the gates fits over these
abbrev pub Wider : List RawGate → List RawGate → Type 0
Wider a b = (p : RawPin) → PinFit a p → PinFit b p

pin_grows : (gates : List RawGate) (g : RawGate) (n m : ℕ) (p : RawPin) → n ≤ length gates → n ≤ m
    → PinFits gates n p → PinFits (gates ++ g ∷ []) m p
pin_grows gates g n m (pin.Const b) h k f = tt
pin_grows gates g n m (pin.Name name) h k f = tt
pin_grows gates g n m (pin.Prior i) h k f =
    (omega (arith, f.0), λ x e. f.1 x (sym (slice_front gates g i (omega (arith, f.0))) ∙ e))

wider_by : (gates : List RawGate) (g : RawGate) → Wider gates (gates ++ g ∷ [])
wider_by gates g p f =
    pin_grows gates g (length gates) (length (gates ++ g ∷ [])) p (omega arith)
    (omega (arith, length-append gates (g ∷ []))) f

pub pins_wider : (a b : List RawGate) (ps : List RawPin) → Wider a b → PinsFit a ps → PinsFit b ps
pins_wider a b [] w f = tt
pins_wider a b (p ∷ ps) w f = (w p f.0, pins_wider a b ps w f.1)

pins_at : (gates : List RawGate) (ps : List RawPin) (k : ℕ) (p : RawPin) → PinsFit gates ps → slice_get ps k ≡ Some p
    → PinFit gates p
pins_at gates [] k p f e = absurd cc
pins_at gates (q ∷ ps) zero p f e = let same : q ≡ p = cc in subst (PinFit gates) same f.0
pins_at gates (q ∷ ps) (suc k) p f e = pins_at gates ps k p f.1 e

pub fit_more : (gates : List RawGate) (g : RawGate) → AllFit gates → HasItsPins g.kind (length g.pins)
    → PinsFit gates g.pins → AllFit (gates ++ g ∷ [])
fit_more gates g all count pins =
    each_of (GateFits (gates ++ g ∷ [])) gates g
    (λ n x h e. record {
      count = (all n x e).count;
      pins = λ k p i. pin_grows gates g n n p (omega arith) (omega arith) ((all n x e).pins k p i);
    })
    (record {
      count = count;
      pins = λ k p i. pin_grows gates g (length gates) (length gates) p (omega arith) (omega arith)
          (pins_at gates g.pins k p pins i);
    })

-- ---- parts

abbrev pub PartFit : List RawGate → Part → Type 0
PartFit gates (Pin p) = PinFit gates p
PartFit gates (Made kind ps) = HasItsPins kind (length ps) × PinsFit gates ps

pub record Settles (gates : List RawGate) (part : Part) : Type 0 where
  pub all : AllFit (settled_gates part gates)
  pub read : PinFit (settled_gates part gates) (settled_pin (length gates) part)
  pub wider : Wider gates (settled_gates part gates)

pub settle_fit : (gates : List RawGate) (part : Part) → AllFit gates → PartFit gates part → Settles gates part
settle_fit gates (Pin p) all fit = record { all = all; read = fit; wider = λ q f. f }
settle_fit gates (Made kind ps) all fit =
    let g : RawGate = gate_of kind target.Inner ps in
    record {
      all = fit_more gates g all fit.0 fit.1;
      read = (omega (arith, length-append gates (g ∷ [])), λ x e. inner g x tt (sym (slice_last gates g) ∙ e));
      wider = wider_by gates g;
    }
  where
    inner : (g x : RawGate) → IsInner g.target → Some g ≡ Some x → IsInner x.target
    inner g x i e = subst (λ y. IsInner y.target) (some_same g x e) i

pub append_fit : (gates : List RawGate) (ps : List RawPin) (p : RawPin) → PinsFit gates ps → PinFit gates p
    → PinsFit gates (ps ++ p ∷ [])
append_fit gates [] p f g = (g, tt)
append_fit gates (q ∷ ps) p f g = (f.0, append_fit gates ps p f.1 g)

-- what is held fits, and what fitted before still does
pub record HeldFit (old : List RawGate) (x : Held) : Type 0 where
  pub all : AllFit x.gates
  pub part : PartFit x.gates x.part
  pub wider : Wider old x.gates

-- the pins behind which the part is put
pub put_fit : (old : List RawGate) (before : List RawPin) (x : Held) → HeldFit old x → PinsFit x.gates before
    → PinsFit (settled_gates x.part x.gates) (with_part before x)
put_fit old before x f b =
    let s = settle_fit x.gates x.part f.all f.part in
    append_fit (settled_gates x.part x.gates) before _ (pins_wider x.gates _ before s.wider b) s.read

made_fit : (old : List RawGate) (kind : GateKind) (before : List RawPin) (x : Held) → HeldFit old x
    → PinsFit x.gates before → ((p : RawPin) → HasItsPins kind (length (before ++ p ∷ [])))
    → HeldFit old (made kind before x)
made_fit old kind before x f b count =
    let s = settle_fit x.gates x.part f.all f.part in
    record { all = s.all; part = (count _, put_fit old before x f b); wider = λ p k. s.wider p (f.wider p k) }

-- a kind of many pins
abbrev Many : GateKind → Type 0
Many kind = (n : ℕ) → HasItsPins kind (suc n)

joined_fit : (old : List RawGate) (kind : GateKind) (before : List RawPin) (x : Held) → HeldFit old x
    → PinsFit x.gates before → Many kind → HeldFit old (joined_part kind before x)
joined_fit old kind [] x f b many = f
joined_fit old kind (p ∷ ps) x f b many = made_fit old kind (p ∷ ps) x f b (λ q. many (length (ps ++ q ∷ [])))

abbrev pub LevelFit : List RawGate → Level → Type 0
LevelFit gates l = PinsFit gates l.ors × PinsFit gates l.xors × PinsFit gates l.ands

abbrev pub FramesFit : List RawGate → List Frame → Type 0
FramesFit gates [] = ⊤
FramesFit gates (Negation ∷ frames) = FramesFit gates frames
FramesFit gates (Bracket l ∷ frames) = LevelFit gates l × FramesFit gates frames

pub level_wider : (a b : List RawGate) (l : Level) → Wider a b → LevelFit a l → LevelFit b l
level_wider a b l w f = (pins_wider a b l.ors w f.0, pins_wider a b l.xors w f.1, pins_wider a b l.ands w f.2)

pub frames_wider : (a b : List RawGate) (frames : List Frame) → Wider a b → FramesFit a frames → FramesFit b frames
frames_wider a b [] w f = tt
frames_wider a b (Negation ∷ frames) w f = frames_wider a b frames w f
frames_wider a b (Bracket l ∷ frames) w f = (level_wider a b l w f.0, frames_wider a b frames w f.1)

pub and_fit : (old : List RawGate) (l : Level) (x : Held) → HeldFit old x → LevelFit old l → HeldFit old (and_held l x)
and_fit old l x f k = joined_fit old gate.And l.ands x f (pins_wider old x.gates l.ands f.wider k.2) (λ n. omega arith)

pub xor_fit : (old : List RawGate) (l : Level) (x : Held) → HeldFit old x → LevelFit old l → HeldFit old (xor_held l x)
xor_fit old l x f k =
    let a = and_fit old l x f k in
    joined_fit old gate.Xor l.xors (and_held l x) a (pins_wider old (and_held l x).gates l.xors a.wider k.1)
    (λ n. omega arith)

pub or_fit : (old : List RawGate) (l : Level) (x : Held) → HeldFit old x → LevelFit old l → HeldFit old (or_held l x)
or_fit old l x f k =
    let a = xor_fit old l x f k in
    joined_fit old gate.Or l.ors (xor_held l x) a (pins_wider old (xor_held l x).gates l.ors a.wider k.0)
    (λ n. omega arith)

pub unwound_fit : (old : List RawGate) (frames : List Frame) (x : Held) → HeldFit old x → HeldFit old (unwound frames x)
unwound_fit old [] x f = f
unwound_fit old (Negation ∷ frames) x f =
    unwound_fit old frames (made gate.Not [] x) (made_fit old gate.Not [] x f tt (λ p. refl))
unwound_fit old (Bracket l ∷ frames) x f = f

pub left_fit : (gates : List RawGate) (frames : List Frame) → FramesFit gates frames
    → FramesFit gates (unwound_frames frames)
left_fit gates [] f = tt
left_fit gates (Negation ∷ frames) f = left_fit gates frames f
left_fit gates (Bracket l ∷ frames) f = f

-- ---- the last gate

abbrev pub LastDriven : List RawGate → Type 0
LastDriven gates = (n : ℕ) (g : RawGate) → slice_get gates n ≡ Some g → length gates ≡ suc n → IsInner g.target → ⊥

pub last_more : (gates : List RawGate) (g : RawGate) → (IsInner g.target → ⊥) → LastDriven (gates ++ g ∷ [])
last_more gates g outer =
    each_of (λ n x. length (gates ++ g ∷ []) ≡ suc n → IsInner x.target → ⊥) gates g
    (λ n x h e l i. let k = length-append gates (g ∷ []) in omega arith) (λ l i. outer i)

abbrev pub Driven : List RawGate → Type 0
Driven gates = AllFit gates × LastDriven gates

pub driven_fit : (name : RawName) (old : List RawGate) (x : Held) → HeldFit old x
    → Driven (x.gates ++ driven name x.part ∷ [])
driven_fit name old x f = by x.part f.part
  where
    by : (part : Part) → PartFit x.gates part → Driven (x.gates ++ driven name part ∷ [])
    by (Pin p) k = (fit_more x.gates (driven name (Pin p)) f.all refl (k, tt), last_more x.gates _ (λ i. i))
    by (Made kind ps) k = (fit_more x.gates (driven name (Made kind ps)) f.all k.0 k.1, last_more x.gates _ (λ i. i))

-- ---- operands

pub operand_is : (bytes : List ℕ) (p : OperandPhrase) → IsOperand (operand_of bytes p)
operand_is bytes (Named n) = tt
operand_is bytes (Constant b at) = tt

pub operand_fit : (bytes : List ℕ) (gates : List RawGate) (p : OperandPhrase) → PinFit gates (operand_of bytes p)
operand_fit bytes gates (Named n) = tt
operand_fit bytes gates (Constant b at) = tt

pub many_pins : (kind : GateKind) (n : ℕ) → IsTrue (not (is_single kind)) → 0 < n → HasItsPins kind n
many_pins gate.Buf n many h = absurd (false≢true many)
many_pins gate.Not n many h = absurd (false≢true many)
many_pins gate.And n many h = h
many_pins gate.Or n many h = h
many_pins gate.Nand n many h = h
many_pins gate.Nor n many h = h
many_pins gate.Xor n many h = h
many_pins gate.Xnor n many h = h

pub one_pin : (kind : GateKind) → HasItsPins kind 1
one_pin gate.Buf = refl
one_pin gate.Not = refl
one_pin gate.And = omega arith
one_pin gate.Or = omega arith
one_pin gate.Nand = omega arith
one_pin gate.Nor = omega arith
one_pin gate.Xor = omega arith
one_pin gate.Xnor = omega arith
