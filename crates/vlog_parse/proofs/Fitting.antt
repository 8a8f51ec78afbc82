-- Each step of the machine keeps what holds of raw netlists.
use Rattle.std.proofs.Common.{◌≡◌, ℕ, ◌<◌, List, [], ◌∷◌, ◌++◌, length, Bool, true, false, Option, Some, None}
use Rattle.std.proofs.Common.{refl}
use Rattle.std.proofs.Common.{sym, subst, ltb, length-append, arith}
use Rattle.std.proofs.lemmas.Bool.{false≢true}
use Rattle.std.specs.Prelude.{IfSome, IsTrue, not, option_map, slice_get, if◌then◌else◌}
use Rattle.pbs_base.specs.declared.refusal.Span.{Span}
use Rattle.net_core.specs.declared.gate.GateKind.{GateKind}
use Rattle.net_core.specs.Circuits.{HasItsPins}
use Rattle.vlog_text.specs.declared.raw.RawGate.{RawGate}
use Rattle.vlog_text.specs.declared.raw.RawName.{RawName}
use Rattle.vlog_text.specs.declared.raw.RawNetlist.{RawNetlist}
use Rattle.vlog_text.specs.declared.raw.RawPin.{RawPin}
use Rattle.vlog_text.specs.declared.raw.RawReg.{RawReg}
use Rattle.vlog_text.specs.declared.raw.Target.TheVariants as target
use Rattle.vlog_text.specs.declared.token.TokenKind.{TokenKind}
use Rattle.vlog_text.specs.declared.token.TokenKind.TheVariants.{Name, Clock, DeclWord, GateWord, ModuleWord}
use Rattle.vlog_text.specs.declared.token.TokenKind.TheVariants.{EndmoduleWord, AssignWord, AlwaysWord, PosedgeWord}
use Rattle.vlog_text.specs.declared.token.TokenKind.TheVariants.{OpenRound, CloseRound, Comma, Semicolon, Equals, Tilde}
use Rattle.vlog_text.specs.declared.token.TokenKind.TheVariants.{Ampersand, Caret, Bar, At, Arrow}
use Rattle.vlog_text.specs.Grammar.{OperandPhrase, is_single}
use Rattle.vlog_text.specs.Raw.{IsOperand, IsRaw}
use Rattle.vlog_text.specs.Trees.{operand_of, gate_of}
use Rattle.vlog_parse.specs.declared.state.Found.{Found}
use Rattle.vlog_parse.specs.declared.state.Frame.{Frame}
use Rattle.vlog_parse.specs.declared.state.Frame.TheVariants.{Negation, Bracket}
use Rattle.vlog_parse.specs.declared.state.Part.{Part}
use Rattle.vlog_parse.specs.declared.state.Part.TheVariants.{Pin}
use Rattle.vlog_parse.specs.declared.state.Assigned.{Assigned}
use Rattle.vlog_parse.specs.declared.state.Fixed.{Fixed}
use Rattle.vlog_parse.specs.declared.state.Fixed.TheVariants as fixed
use Rattle.vlog_parse.specs.declared.state.GateState.TheVariants as of_gate
use Rattle.vlog_parse.specs.declared.state.AssignState.TheVariants as of_assign
use Rattle.vlog_parse.specs.declared.state.RegState.TheVariants as of_reg
use Rattle.vlog_parse.specs.declared.state.State.{State}
use Rattle.vlog_parse.specs.declared.state.State.TheVariants as state
use Rattle.vlog_parse.specs.inner.Steps.{name_at, operand_at}
use Rattle.vlog_parse.specs.inner.Machine.{Held, held, next, keeping, fixed_next, item_next, port_next}
use Rattle.vlog_parse.specs.inner.Machine.{first_pin, after_unit, closed_in, ended_in, lone_pin}
use Rattle.vlog_parse.specs.inner.Machine.{or_held}
use Rattle.vlog_parse.specs.inner.Machine.{and_held, xor_held, unwound, unit_next, part_next, IsFound, nothing}
use Rattle.vlog_parse.specs.inner.Machine.{is_whole}
use Rattle.vlog_parse.proofs.Fits.{each_of, AllFit, Driven, PinsFit, PartFit, LevelFit, FramesFit, HeldFit, settle_fit}
use Rattle.vlog_parse.proofs.Fits.{put_fit, pins_wider, level_wider, frames_wider, and_fit, xor_fit, or_fit}
use Rattle.vlog_parse.proofs.Fits.{unwound_fit}
use Rattle.vlog_parse.proofs.Fits.{left_fit, last_more, fit_more, driven_fit, operand_is, operand_fit, many_pins}
use Rattle.vlog_parse.proofs.Fits.{one_pin}
use Rattle.vlog_parse.proofs.Fits.{append_fit}

abbrev RegsFit : List RawReg → Type 0
RegsFit regs = (n : ℕ) (r : RawReg) → slice_get regs n ≡ Some r → IsOperand r.wire

-- operands and constants alone, which fit over every gates
abbrev Plain : List RawPin → Type 0
Plain ps = (gates : List RawGate) → PinsFit gates ps

abbrev AssignedFit : List RawGate → Assigned → Type 0
AssignedFit gates x = AllFit gates × LevelFit gates x.level × FramesFit gates x.frames

abbrev StateFit : List RawGate → State → Type 0
StateFit gates (state.OfAssign (of_assign.WantsUnit x)) = AssignedFit gates x
StateFit gates (state.OfAssign (of_assign.AfterUnit x part)) = AssignedFit gates x × PartFit gates part
StateFit gates (state.OfGate (of_gate.WantsNextPin kind name pins)) =
    Driven gates × IsTrue (not (is_single kind)) × Plain pins
StateFit gates (state.OfGate (of_gate.AfterPins kind name pins)) =
    Driven gates × IsTrue (not (is_single kind)) × (0 < length pins) × Plain pins
StateFit gates (state.OfGate (of_gate.AfterPin kind name pins)) = Driven gates × (length pins ≡ 1) × Plain pins
StateFit gates _ = Driven gates

-- what was found is of a raw netlist
abbrev pub Fitting : Found → State → Type 0
Fitting f s = RegsFit f.regs × StateFit f.gates s

abbrev Fit : State × Found → Type 0
Fit x = Fitting x.1 x.0

optional : {A : Type 0} (o : Option A) (m : A → State × Found) → ((x : A) → Fit (m x)) → IfSome (option_map m o) Fit
optional None m h = tt
optional (Some x) m h = h x

-- ---- states outside an assign

fit-fixed : (f : Found) (x : Fixed) (k : TokenKind) → RegsFit f.regs → Driven f.gates
    → IfSome (keeping f (fixed_next x k)) Fit
fit-fixed f fixed.WantsModule ModuleWord r d = (r, d)
fit-fixed f fixed.AfterTitle OpenRound r d = (r, d)
fit-fixed f fixed.AfterPorts Semicolon r d = (r, d)
fit-fixed f fixed.AfterAlways At r d = (r, d)
fit-fixed f fixed.AfterAt OpenRound r d = (r, d)
fit-fixed f fixed.AfterClockOpen PosedgeWord r d = (r, d)
fit-fixed f fixed.AfterPosedge Clock r d = (r, d)
fit-fixed f fixed.AfterClock CloseRound r d = (r, d)
fit-fixed f fixed.WantsEnd Semicolon r d = (r, d)
fit-fixed f _ _ r d = tt

fit-port : (f : Found) (k : TokenKind) → RegsFit f.regs → Driven f.gates → IfSome (keeping f (port_next k)) Fit
fit-port f Comma r d = (r, d)
fit-port f CloseRound r d = (r, d)
fit-port f _ r d = tt

fit-item : (f : Found) (k : TokenKind) → RegsFit f.regs → Driven f.gates → IfSome (keeping f (item_next k)) Fit
fit-item f (DeclWord kind) r d = (r, d)
fit-item f (GateWord kind) r d = (r, d)
fit-item f AssignWord r d = (r, d)
fit-item f AlwaysWord r d = (r, d)
fit-item f EndmoduleWord r d = (r, d)
fit-item f _ r d = tt

-- a gate that is whole
fit-gate : (f : Found) (kind : GateKind) (name : RawName) (pins : List RawPin) → RegsFit f.regs → Driven f.gates
    → HasItsPins kind (length pins) → Plain pins
    → Fitting (record f { gates = f.gates ++ gate_of kind (target.Name name) pins ∷ [] }) (state.OfFixed fixed.WantsEnd)
fit-gate f kind name pins r d count plain =
    let g : RawGate = gate_of kind (target.Name name) pins in
    (r, (fit_more f.gates g d.0 count (plain f.gates), last_more f.gates g (λ i. i)))

plain_one : (bytes : List ℕ) (p : OperandPhrase) → Plain (operand_of bytes p ∷ [])
plain_one bytes p gates = (operand_fit bytes gates p, tt)

fit-first : (bytes : List ℕ) (f : Found) (kind : GateKind) (name : RawName) (p : OperandPhrase) → RegsFit f.regs
    → Driven f.gates → Fitting f (first_pin kind name (operand_of bytes p))
fit-first bytes f kind name p r d = by (is_single kind) refl
  where
    by : (b : Bool) → is_single kind ≡ b → Fitting f (if b
        then state.OfGate (of_gate.AfterPin kind name (operand_of bytes p ∷ []))
        else state.OfGate (of_gate.AfterPins kind name (operand_of bytes p ∷ [])))
    by true e = (r, (d, refl, plain_one bytes p))
    by false e = (r, (d, rw e refl, omega arith, plain_one bytes p))

more_pins : (ps : List RawPin) (p : RawPin) → 0 < length (ps ++ p ∷ [])
more_pins ps p = omega (arith, length-append ps (p ∷ []))

-- ---- inside an assign

-- from a held part
held_first : (gates : List RawGate) (part : Part) → AllFit gates → PartFit gates part → HeldFit gates (held part gates)
held_first gates part all fit = record { all = all; part = fit; wider = λ p k. k }

fit-unit : (f : Found) (x : Assigned) (frames : List Frame) (h : Held) (old : List RawGate) → RegsFit f.regs
    → HeldFit old h → LevelFit old x.level → FramesFit old frames → IfSome (after_unit x frames h f) Fit
fit-unit f x frames h old r k level frame =
    let u = unwound_fit old frames h k in
    let gates : List RawGate = (unwound frames h).gates in (
      r,
      (
        (
          u.all,
          level_wider old gates x.level u.wider level,
          left_fit gates frames (frames_wider old gates frames u.wider frame),
        ),
        u.part,
      ),
    )

fit-lone : (bytes : List ℕ) (f : Found) (x : Assigned) (o : Option OperandPhrase) → RegsFit f.regs
    → AssignedFit f.gates x → IfSome (lone_pin bytes x f o) Fit
fit-lone bytes f x None r a = tt
fit-lone bytes f x (Some p) r a =
    fit-unit f x x.frames (held (Pin (operand_of bytes p)) f.gates) f.gates r
    (held_first f.gates (Pin (operand_of bytes p)) a.0 (operand_fit bytes f.gates p)) a.1 a.2

fit-deeper : (f : Found) (n : ℕ) (s : State) → Fitting f s → IfSome (keeping f (if ltb n 64 then Some s else None)) Fit
fit-deeper f n s h = by (ltb n 64)
  where
    by : (b : Bool) → IfSome (keeping f (if b then Some s else None)) Fit
    by true = h
    by false = tt

fit-wanted : (bytes : List ℕ) (f : Found) (x : Assigned) (k : TokenKind) (at : Span) → RegsFit f.regs
    → AssignedFit f.gates x → IfSome (unit_next bytes x f k at) Fit
fit-wanted bytes f x Tilde at r a = fit-deeper f (length x.frames) _ (r, a)
fit-wanted bytes f x OpenRound at r a = fit-deeper f (length x.frames) _ (r, (a.0, (tt, tt, tt), (a.1, a.2)))
fit-wanted bytes f x k at r a = fit-lone bytes f x (operand_at k at) r a

fit-close : (f : Found) (frames : List Frame) (x : Assigned) (h : Held) (old : List RawGate) → RegsFit f.regs
    → HeldFit old h → FramesFit old frames → IfSome (closed_in frames x h f) Fit
fit-close f [] x h old r k frame = tt
fit-close f (Negation ∷ frames) x h old r k frame = tt
fit-close f (Bracket l ∷ frames) x h old r k frame =
    fit-unit f (record x { level = l }) frames h old r k frame.0 frame.1

fit-end : (f : Found) (frames : List Frame) (x : Assigned) (h : Held) (old : List RawGate) → RegsFit f.regs
    → HeldFit old h → IfSome (ended_in frames x h f) Fit
fit-end f [] x h old r k = (r, driven_fit x.target old h k)
fit-end f (frame ∷ frames) x h old r k = tt

fit-behind : (f : Found) (x : Assigned) (part : Part) (k : TokenKind) → RegsFit f.regs → AssignedFit f.gates x
    → PartFit f.gates part → IfSome (part_next x part f k) Fit
fit-behind f x part Ampersand r a p =
    let h = held_first f.gates part a.0 p in
    let s = settle_fit f.gates part a.0 p in (
      r,
      (
        s.all,
        (
          pins_wider f.gates _ x.level.ors s.wider a.1.0,
          pins_wider f.gates _ x.level.xors s.wider a.1.1,
          put_fit f.gates x.level.ands (held part f.gates) h a.1.2,
        ),
        frames_wider f.gates _ x.frames s.wider a.2,
      ),
    )
fit-behind f x part Caret r a p =
    let h = and_fit f.gates x.level (held part f.gates) (held_first f.gates part a.0 p) a.1 in
    let y : Held = and_held x.level (held part f.gates) in
    let s = settle_fit y.gates y.part h.all h.part in (
      r,
      (
        s.all,
        (
          pins_wider y.gates _ x.level.ors s.wider (pins_wider f.gates y.gates x.level.ors h.wider a.1.0),
          put_fit f.gates x.level.xors y h (pins_wider f.gates y.gates x.level.xors h.wider a.1.1),
          tt,
        ),
        frames_wider y.gates _ x.frames s.wider (frames_wider f.gates y.gates x.frames h.wider a.2),
      ),
    )
fit-behind f x part Bar r a p =
    let h = xor_fit f.gates x.level (held part f.gates) (held_first f.gates part a.0 p) a.1 in
    let y : Held = xor_held x.level (held part f.gates) in
    let s = settle_fit y.gates y.part h.all h.part in (
      r,
      (
        s.all,
        (put_fit f.gates x.level.ors y h (pins_wider f.gates y.gates x.level.ors h.wider a.1.0), tt, tt),
        frames_wider y.gates _ x.frames s.wider (frames_wider f.gates y.gates x.frames h.wider a.2),
      ),
    )
fit-behind f x part CloseRound r a p =
    fit-close f x.frames x (or_held x.level (held part f.gates)) f.gates r
    (or_fit f.gates x.level (held part f.gates) (held_first f.gates part a.0 p) a.1) a.2
fit-behind f x part Semicolon r a p =
    fit-end f x.frames x (or_held x.level (held part f.gates)) f.gates r
    (or_fit f.gates x.level (held part f.gates) (held_first f.gates part a.0 p) a.1)
fit-behind f x part _ r a p = tt

-- ---- every state

fit-reg : (bytes : List ℕ) (f : Found) (name : RawName) (p : OperandPhrase) → RegsFit f.regs
    → RegsFit (f.regs ++ (record { target = name; wire = operand_of bytes p }) ∷ [])
fit-reg bytes f name p r =
    each_of (λ n x. IsOperand x.wire) f.regs (record { target = name; wire = operand_of bytes p })
    (λ n x h e. r n x e) (operand_is bytes p)

pub fit_next : (bytes : List ℕ) (s : State) (f : Found) (k : TokenKind) (at : Span) → Fitting f s
    → IfSome (next bytes s f k at) Fit
fit_next bytes (state.OfFixed x) f k at h = fit-fixed f x k h.0 h.1
fit_next bytes state.WantsTitle f k at h = optional (name_at k at) _ (λ n. h)
fit_next bytes state.WantsPort f k at h = optional (name_at k at) _ (λ n. h)
fit_next bytes state.AfterPort f k at h = fit-port f k h.0 h.1
fit_next bytes state.InItems f k at h = fit-item f k h.0 h.1
fit_next bytes (state.WantsName kind) f k at h = optional (name_at k at) _ (λ n. h)
fit_next bytes (state.AfterName kind) f Comma at h = h
fit_next bytes (state.AfterName kind) f Semicolon at h = h
fit_next bytes (state.AfterName kind) f _ at h = tt
fit_next bytes (state.OfGate (of_gate.AfterWord kind)) f OpenRound at h = h
fit_next bytes (state.OfGate (of_gate.AfterWord kind)) f Name at h = h
fit_next bytes (state.OfGate (of_gate.AfterWord kind)) f Clock at h = h
fit_next bytes (state.OfGate (of_gate.AfterWord kind)) f _ at h = tt
fit_next bytes (state.OfGate (of_gate.AfterInstance kind)) f OpenRound at h = h
fit_next bytes (state.OfGate (of_gate.AfterInstance kind)) f _ at h = tt
fit_next bytes (state.OfGate (of_gate.WantsTarget kind)) f k at h = optional (name_at k at) _ (λ n. h)
fit_next bytes (state.OfGate (of_gate.AfterTarget kind name)) f Comma at h = h
fit_next bytes (state.OfGate (of_gate.AfterTarget kind name)) f _ at h = tt
fit_next bytes (state.OfGate (of_gate.WantsPin kind name)) f k at h =
    optional (operand_at k at) _ (λ p. fit-first bytes f kind name p h.0 h.1)
fit_next bytes (state.OfGate (of_gate.WantsNextPin kind name pins)) f k at h =
    optional (operand_at k at) _ (λ p. (
      h.0,
      (
        h.1.0,
        h.1.1,
        more_pins pins (operand_of bytes p),
        λ gates. append_fit gates pins _ (h.1.2 gates) (operand_fit bytes gates p),
      ),
    ))
fit_next bytes (state.OfGate (of_gate.AfterPins kind name pins)) f Comma at h = (h.0, (h.1.0, h.1.1, h.1.3))
fit_next bytes (state.OfGate (of_gate.AfterPins kind name pins)) f CloseRound at h =
    fit-gate f kind name pins h.0 h.1.0 (many_pins kind (length pins) h.1.1 h.1.2) h.1.3
fit_next bytes (state.OfGate (of_gate.AfterPins kind name pins)) f _ at h = tt
fit_next bytes (state.OfGate (of_gate.AfterPin kind name pins)) f CloseRound at h =
    fit-gate f kind name pins h.0 h.1.0 (subst (HasItsPins kind) (sym h.1.1) (one_pin kind)) h.1.2
fit_next bytes (state.OfGate (of_gate.AfterPin kind name pins)) f _ at h = tt
fit_next bytes (state.OfAssign of_assign.AfterAssign) f k at h = optional (name_at k at) _ (λ n. h)
fit_next bytes (state.OfAssign (of_assign.AfterAssigned name)) f Equals at h = (h.0, (h.1.0, (tt, tt, tt), tt))
fit_next bytes (state.OfAssign (of_assign.AfterAssigned name)) f _ at h = tt
fit_next bytes (state.OfAssign (of_assign.WantsUnit x)) f k at h = fit-wanted bytes f x k at h.0 h.1
fit_next bytes (state.OfAssign (of_assign.AfterUnit x part)) f k at h = fit-behind f x part k h.0 h.1.0 h.1.1
fit_next bytes (state.OfReg of_reg.AfterEdge) f k at h = optional (name_at k at) _ (λ n. h)
fit_next bytes (state.OfReg (of_reg.AfterRegister name)) f Arrow at h = h
fit_next bytes (state.OfReg (of_reg.AfterRegister name)) f _ at h = tt
fit_next bytes (state.OfReg (of_reg.AfterArrow name)) f k at h =
    optional (operand_at k at) _ (λ p. (fit-reg bytes f name p h.0, h.1))
fit_next bytes state.Whole f k at h = tt

pub fit_start : Fitting nothing (state.OfFixed fixed.WantsModule)
fit_start = (λ n r e. absurd cc, (λ n g e. absurd cc, λ n g e. absurd cc))

-- what was found at the end is a raw netlist
pub fit_whole : (f : Found) (s : State) (raw : RawNetlist) → Fitting f s → is_whole s ≡ true → IsFound f raw
    → length raw.gates < 4294967295 → length raw.regs < 4294967295 → IsRaw raw
fit_whole f s raw h e found few_gates few_regs =
    let d = at_end s f.gates h.1 e in
    let g : f.gates ≡ raw.gates = sym found.gates in
    let q = subst Driven g d in
    record {
      gates_few = few_gates;
      regs_few = few_regs;
      gates_fit = q.0;
      last = q.1;
      operands = subst RegsFit (sym found.regs) h.0;
    }
  where
    at_end : (t : State) (gates : List RawGate) → StateFit gates t → is_whole t ≡ true → Driven gates
    at_end state.Whole gates k i = k
    at_end _ gates k i = absurd (false≢true i)
