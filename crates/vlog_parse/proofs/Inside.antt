-- The machine follows the grammar inside an assign.
use Rattle.std.proofs.Common.{◌≡◌, ℕ, suc, List, [], ◌∷◌, ◌++◌, length, Bool, true, false, Option, Some, None, refl}
use Rattle.std.proofs.Common.{sym, ap}
use Rattle.std.proofs.Common.{subst, ◌∙◌, append-nil, ltb, length-append}
use Rattle.std.specs.Prelude.{if◌then◌else◌, option_map}
use Rattle.pbs_base.specs.declared.refusal.Span.{Span}
use Rattle.net_core.specs.declared.gate.GateKind.TheVariants as gate
use Rattle.vlog_text.specs.declared.raw.RawGate.{RawGate}
use Rattle.vlog_text.specs.declared.raw.RawPin.{RawPin}
use Rattle.vlog_text.specs.declared.token.TokenKind.{TokenKind}
use Rattle.vlog_text.specs.declared.token.TokenKind.TheVariants.{OpenRound, CloseRound, Semicolon, Tilde, Ampersand}
use Rattle.vlog_text.specs.declared.token.TokenKind.TheVariants.{Caret, Bar}
use Rattle.vlog_text.specs.Grammar.{UnitPhrase, Negated, Bracketed, Lone, AndPhrase, XorPhrase, OrPhrase, OperandPhrase}
use Rattle.vlog_text.specs.Grammar.{Assign}
use Rattle.vlog_text.specs.Trees.{Parts, name_of, operand_of, joined, unit_part, and_parts, xor_parts, or_parts}
use Rattle.vlog_parse.specs.declared.state.Found.{Found}
use Rattle.vlog_parse.specs.declared.state.Level.{Level}
use Rattle.vlog_parse.specs.declared.state.Frame.{Frame}
use Rattle.vlog_parse.specs.declared.state.Part.{Part}
use Rattle.vlog_parse.specs.declared.state.Part.TheVariants.{Pin}
use Rattle.vlog_parse.specs.declared.state.AssignState.TheVariants as of_assign
use Rattle.vlog_parse.specs.declared.state.State.{State}
use Rattle.vlog_parse.specs.declared.state.State.TheVariants as state
use Rattle.vlog_parse.specs.inner.Places.{OrHole, OfAssign, InRound, XorHole, FirstXor, NextXor, AndHole, FirstAnd}
use Rattle.vlog_parse.specs.inner.Places.{NextAnd, UnitHole, FirstUnit, NextUnit, UnderNot, InItems, WantsUnit}
use Rattle.vlog_parse.specs.inner.Places.{unit_nesting}
use Rattle.vlog_parse.specs.inner.Steps.{operand_at, with_unit, unit_hole, unit_and, and_hole, with_and, xor_hole}
use Rattle.vlog_parse.specs.inner.Steps.{with_xor}
use Rattle.vlog_parse.specs.inner.Steps.{with_item, deeper, start_unit, close_round, end_assign, end_unit}
use Rattle.vlog_parse.specs.inner.Machine.{settled_pin, settled_gates, Held, held, made, joined_part, with_part}
use Rattle.vlog_parse.specs.inner.Machine.{unwound}
use Rattle.vlog_parse.specs.inner.Machine.{unwound_frames, after_unit, with_gates, lone_pin, unit_next, keeping}
use Rattle.vlog_parse.specs.inner.Machine.{closed_in, ended_in, part_next}
use Rattle.vlog_parse.proofs.Standing.{Aim, or_aim, xor_aim, and_aim, unit_aim, or_gates, xor_gates, and_gates}
use Rattle.vlog_parse.proofs.Standing.{unit_gates, xor_ors, and_xors, unit_ands, and_level, unit_level, or_frames}
use Rattle.vlog_parse.proofs.Standing.{xor_frames, and_frames, unit_frames, found_at, aim_found, aimed, IsHeld, AndHeld}
use Rattle.vlog_parse.proofs.Standing.{StandsAt, AtItems, AtUnit, BehindUnit, Follows}
use Rattle.vlog_parse.proofs.Parts.{made_at, joined_at, beside_at, and_some, xor_some, or_some, driven_at}
use Rattle.vlog_parse.proofs.Parts.{settled-append}

-- ---- what holds of the holes around

aim_xor : (h : XorHole) → or_aim (xor_hole h) ≡ xor_aim h
aim_xor (FirstXor h) = refl
aim_xor (NextXor o at h) = refl

aim_and : (h : AndHole) → or_aim (xor_hole (and_hole h)) ≡ and_aim h
aim_and (FirstAnd h) = aim_xor h
aim_and (NextAnd x at h) = aim_xor h

aim_unit : (h : UnitHole) → unit_aim h ≡ or_aim (xor_hole (and_hole (unit_hole h)))
aim_unit (FirstUnit h) = sym (aim_and h)
aim_unit (NextUnit a at h) = sym (aim_and h)
aim_unit (UnderNot at h) = aim_unit h

frames_xor : (bytes : List ℕ) (h : XorHole) → or_frames bytes (xor_hole h) ≡ xor_frames bytes h
frames_xor bytes (FirstXor h) = refl
frames_xor bytes (NextXor o at h) = refl

frames_and : (bytes : List ℕ) (h : AndHole) → or_frames bytes (xor_hole (and_hole h)) ≡ and_frames bytes h
frames_and bytes (FirstAnd h) = frames_xor bytes h
frames_and bytes (NextAnd x at h) = frames_xor bytes h

unwound_or : (bytes : List ℕ) (h : OrHole) (x : Held) → unwound (or_frames bytes h) x ≡ x
unwound_or bytes (OfAssign f at t q) x = refl
unwound_or bytes (InRound at h) x = refl

unwound_and : (bytes : List ℕ) (h : AndHole) (x : Held) → unwound (and_frames bytes h) x ≡ x
unwound_and bytes h x =
    ap (λ l. unwound l x) (sym (frames_and bytes h)) ∙ unwound_or bytes (xor_hole (and_hole h)) x

left_or : (bytes : List ℕ) (h : OrHole) → unwound_frames (or_frames bytes h) ≡ or_frames bytes h
left_or bytes (OfAssign f at t q) = refl
left_or bytes (InRound at h) = refl

left_and : (bytes : List ℕ) (h : AndHole)
    → unwound_frames (and_frames bytes h) ≡ or_frames bytes (xor_hole (and_hole h))
left_and bytes h = ap unwound_frames (sym (frames_and bytes h)) ∙ left_or bytes (xor_hole (and_hole h))

left_unit : (bytes : List ℕ) (h : UnitHole)
    → unwound_frames (unit_frames bytes h) ≡ or_frames bytes (xor_hole (and_hole (unit_hole h)))
left_unit bytes (FirstUnit h) = left_and bytes h
left_unit bytes (NextUnit a at h) = left_and bytes h
left_unit bytes (UnderNot at h) = left_unit bytes h

or_count : (bytes : List ℕ) (h : UnitHole) → length (unit_frames bytes h) ≡ unit_nesting h
or_count bytes (FirstUnit (FirstAnd (FirstXor (OfAssign f a t q)))) = refl
or_count bytes (FirstUnit (FirstAnd (FirstXor (InRound b h)))) = ap suc (or_count bytes h)
or_count bytes (FirstUnit (FirstAnd (NextXor o c (OfAssign f a t q)))) = refl
or_count bytes (FirstUnit (FirstAnd (NextXor o c (InRound b h)))) = ap suc (or_count bytes h)
or_count bytes (FirstUnit (NextAnd x d (FirstXor (OfAssign f a t q)))) = refl
or_count bytes (FirstUnit (NextAnd x d (FirstXor (InRound b h)))) = ap suc (or_count bytes h)
or_count bytes (FirstUnit (NextAnd x d (NextXor o c (OfAssign f a t q)))) = refl
or_count bytes (FirstUnit (NextAnd x d (NextXor o c (InRound b h)))) = ap suc (or_count bytes h)
or_count bytes (NextUnit y e (FirstAnd (FirstXor (OfAssign f a t q)))) = refl
or_count bytes (NextUnit y e (FirstAnd (FirstXor (InRound b h)))) = ap suc (or_count bytes h)
or_count bytes (NextUnit y e (FirstAnd (NextXor o c (OfAssign f a t q)))) = refl
or_count bytes (NextUnit y e (FirstAnd (NextXor o c (InRound b h)))) = ap suc (or_count bytes h)
or_count bytes (NextUnit y e (NextAnd x d (FirstXor (OfAssign f a t q)))) = refl
or_count bytes (NextUnit y e (NextAnd x d (FirstXor (InRound b h)))) = ap suc (or_count bytes h)
or_count bytes (NextUnit y e (NextAnd x d (NextXor o c (OfAssign f a t q)))) = refl
or_count bytes (NextUnit y e (NextAnd x d (NextXor o c (InRound b h)))) = ap suc (or_count bytes h)
or_count bytes (UnderNot at h) = ap suc (or_count bytes h)

-- ---- behind a unit

abbrev UnitHeld : List ℕ → UnitHole → UnitPhrase → Part → List RawGate → Type 0
UnitHeld bytes h u part gates = IsHeld (unit_gates bytes h) (λ n. unit_part bytes n u) [] part gates

-- what is held once each `~` around has taken the unit
record Unwinds (bytes : List ℕ) (h : UnitHole) (u : UnitPhrase) (x : Held) : Type 0 where
  to : Held
  to_is : unwound (unit_frames bytes h) x ≡ to
  holds : AndHeld bytes (unit_hole h) (unit_and h u) (unit_ands bytes h) to.part to.gates

unwinds : (bytes : List ℕ) (h : UnitHole) (u : UnitPhrase) (part : Part) (gates : List RawGate)
    → UnitHeld bytes h u part gates → Unwinds bytes h u (held part gates)
unwinds bytes (FirstUnit h) u part gates k =
    record { to = held part gates; to_is = unwound_and bytes h (held part gates); holds = k }
unwinds bytes (NextUnit a at h) u part gates k = record {
  to = held part gates;
  to_is = unwound_and bytes h (held part gates);
  holds = beside_at (and_gates bytes h) (λ n. and_parts bytes n a) (λ n. unit_part bytes n u) part gates
      (and_some bytes (length (and_gates bytes h)) a) k;
}
unwinds bytes (UnderNot at h) u part gates k =
    let m : Held = made gate.Not [] (held part gates) in
    let x = unwinds bytes h (Negated at u) m.part m.gates
    (made_at (unit_gates bytes h) (λ n. unit_part bytes n u) [] part gates gate.Not k) in
    record { to = x.to; to_is = x.to_is; holds = x.holds }

sim-unit : (bytes : List ℕ) (h : UnitHole) (u : UnitPhrase) (part : Part) (gates front : List RawGate)
    (frames : List Frame) → UnitHeld bytes h u part gates
    → Follows bytes (Some (with_unit h u)) (after_unit (aimed bytes (unit_aim h) (unit_level bytes h) frames)
    (unit_frames bytes h) (held part gates) (aim_found bytes (unit_aim h) front))
sim-unit bytes h u part gates front frames k =
    let x = unwinds bytes h u part gates k in
    let At : Aim → List Frame → Held → Type 0 = λ aim fs r. StandsAt bytes (aim_found bytes aim r.gates)
    (state.OfAssign (of_assign.AfterUnit (aimed bytes aim (unit_level bytes h) fs) r.part)) (with_unit h u) in
    let there : At (or_aim (xor_hole (and_hole (unit_hole h))))
    (or_frames bytes (xor_hole (and_hole (unit_hole h)))) x.to
    = BehindUnit (unit_and h u) (unit_hole h) (unit_ands bytes h) x.to.part x.to.gates x.holds in
    subst (λ r. At (unit_aim h) (unwound_frames (unit_frames bytes h)) r) (sym x.to_is)
    (subst (λ fs. At (unit_aim h) fs x.to) (sym (left_unit bytes h))
    (subst (λ aim. At aim (or_frames bytes (xor_hole (and_hole (unit_hole h)))) x.to) (sym (aim_unit h)) there))

sim-lone : (bytes : List ℕ) (h : UnitHole) (o : Option OperandPhrase)
    → Follows bytes (option_map (λ p. with_unit h (Lone p)) o)
    (lone_pin bytes (aimed bytes (unit_aim h) (unit_level bytes h) (unit_frames bytes h))
    (aim_found bytes (unit_aim h) (unit_gates bytes h)) o)
sim-lone bytes h None = tt
sim-lone bytes h (Some p) =
    sim-unit bytes h (Lone p) (Pin (operand_of bytes p)) (unit_gates bytes h) (unit_gates bytes h) (unit_frames bytes h)
    (record { own = []; gates_are = sym (append-nil (unit_gates bytes h)); all_is = refl; lone = λ e. refl })

sim-deeper : (bytes : List ℕ) (h inner : UnitHole) (f : Found) (s : State) → StandsAt bytes f s (WantsUnit inner)
    → Follows bytes (deeper h inner) (keeping f (if ltb (length (unit_frames bytes h)) 64 then Some s else None))
sim-deeper bytes h inner f s k = rw (or_count bytes h) (by (ltb (unit_nesting h) 64))
  where
    by : (b : Bool) → Follows bytes (if b then Some (WantsUnit inner) else None)
        (keeping f (if b then Some s else None))
    by true = k
    by false = tt

pub sim-wanted : (bytes : List ℕ) (h : UnitHole) (k : TokenKind) (at : Span) → Follows bytes (start_unit h k at)
    (unit_next bytes (aimed bytes (unit_aim h) (unit_level bytes h) (unit_frames bytes h))
    (aim_found bytes (unit_aim h) (unit_gates bytes h)) k at)
sim-wanted bytes h Tilde at = sim-deeper bytes h (UnderNot at h) _ _ (AtUnit (UnderNot at h))
sim-wanted bytes h OpenRound at =
    sim-deeper bytes h (FirstUnit (FirstAnd (FirstXor (InRound at h)))) _ _
    (AtUnit (FirstUnit (FirstAnd (FirstXor (InRound at h)))))
sim-wanted bytes h k at = sim-lone bytes h (operand_at k at)

-- ---- behind an operator

-- the part as a pin behind the others
settled_gates_at : (front : List RawGate) (all : ℕ → Parts) (before : List RawPin) (part : Part) (gates : List RawGate)
    → IsHeld front all before part gates → settled_gates part gates ≡ front ++ (all (length front)).gates
settled_gates_at front all before part gates k =
    ap (settled_gates part) k.gates_are
    ∙ (settled-append part front k.own ∙ ap (λ q. front ++ q.gates) (sym k.all_is))

settled_pins_at : (front : List RawGate) (all : ℕ → Parts) (before : List RawPin) (part : Part) (gates : List RawGate)
    → IsHeld front all before part gates → with_part before (held part gates) ≡ (all (length front)).pins
settled_pins_at front all before part gates k =
    ap (λ n. before ++ settled_pin n part ∷ []) (ap length k.gates_are ∙ length-append front k.own)
    ∙ ap (λ q. q.pins) (sym k.all_is)

at_unit : (bytes : List ℕ) (h : UnitHole) (aim : Aim) (gates : List RawGate) (level : Level) (frames : List Frame)
    → aim ≡ unit_aim h → gates ≡ unit_gates bytes h → level ≡ unit_level bytes h → frames ≡ unit_frames bytes h
    → StandsAt bytes (aim_found bytes aim gates) (state.OfAssign (of_assign.WantsUnit (aimed bytes aim level frames)))
    (WantsUnit h)
at_unit bytes h aim gates level frames a g l f =
    let At : Aim → List RawGate → Level → List Frame → Type 0 = λ a' g' l' f'.
    StandsAt bytes (aim_found bytes a' g') (state.OfAssign (of_assign.WantsUnit (aimed bytes a' l' f')))
    (WantsUnit h) in
    subst (λ a'. At a' gates level frames) (sym a) (subst (λ g'. At (unit_aim h) g' level frames) (sym g)
    (subst (λ l'. At (unit_aim h) (unit_gates bytes h) l' frames) (sym l)
    (subst (λ f'. At (unit_aim h) (unit_gates bytes h) (unit_level bytes h) f') (sym f) (AtUnit h))))

abbrev and_all : AndHole → List RawPin → Part → List RawGate → Held
and_all h ands part gates = joined_part gate.And ands (held part gates)

abbrev xor_all : List ℕ → AndHole → List RawPin → Part → List RawGate → Held
xor_all bytes h ands part gates = joined_part gate.Xor (and_xors bytes h) (and_all h ands part gates)

abbrev or_all : List ℕ → AndHole → List RawPin → Part → List RawGate → Held
or_all bytes h ands part gates = joined_part gate.Or (xor_ors bytes (and_hole h)) (xor_all bytes h ands part gates)

-- an `and` has ended
and_ends : (bytes : List ℕ) (h : AndHole) (a : AndPhrase) (ands : List RawPin) (part : Part) (gates : List RawGate)
    → AndHeld bytes h a ands part gates
    → IsHeld (xor_gates bytes (and_hole h)) (λ n. xor_parts bytes n (with_and h a)) (and_xors bytes h)
    (and_all h ands part gates).part (and_all h ands part gates).gates
and_ends bytes (FirstAnd h) a ands part gates k =
    joined_at (xor_gates bytes h) (λ n. and_parts bytes n a) ands part gates gate.And k
and_ends bytes (NextAnd x at h) a ands part gates k =
    beside_at (xor_gates bytes h) (λ n. xor_parts bytes n x) (λ n. joined n gate.And (and_parts bytes n a)) _ _
    (xor_some bytes (length (xor_gates bytes h)) x)
    (joined_at (and_gates bytes (NextAnd x at h)) (λ n. and_parts bytes n a) ands part gates gate.And k)

-- an `xor` has ended
xor_ends : (bytes : List ℕ) (h : XorHole) (x : XorPhrase) (xors : List RawPin) (part : Part) (gates : List RawGate)
    → IsHeld (xor_gates bytes h) (λ n. xor_parts bytes n x) xors part gates
    → IsHeld (or_gates bytes (xor_hole h)) (λ n. or_parts bytes n (with_xor h x)) (xor_ors bytes h)
    (joined_part gate.Xor xors (held part gates)).part (joined_part gate.Xor xors (held part gates)).gates
xor_ends bytes (FirstXor h) x xors part gates k =
    joined_at (or_gates bytes h) (λ n. xor_parts bytes n x) xors part gates gate.Xor k
xor_ends bytes (NextXor o at h) x xors part gates k =
    beside_at (or_gates bytes h) (λ n. or_parts bytes n o) (λ n. joined n gate.Xor (xor_parts bytes n x)) _ _
    (or_some bytes (length (or_gates bytes h)) o)
    (joined_at (xor_gates bytes (NextXor o at h)) (λ n. xor_parts bytes n x) xors part gates gate.Xor k)

-- both have ended
both_end : (bytes : List ℕ) (h : AndHole) (a : AndPhrase) (ands : List RawPin) (part : Part) (gates : List RawGate)
    → AndHeld bytes h a ands part gates
    → IsHeld (or_gates bytes (xor_hole (and_hole h))) (λ n. or_parts bytes n (with_xor (and_hole h) (with_and h a)))
    (xor_ors bytes (and_hole h)) (xor_all bytes h ands part gates).part (xor_all bytes h ands part gates).gates
both_end bytes h a ands part gates k =
    xor_ends bytes (and_hole h) (with_and h a) (and_xors bytes h) _ _ (and_ends bytes h a ands part gates k)

all_end : (bytes : List ℕ) (h : AndHole) (a : AndPhrase) (ands : List RawPin) (part : Part) (gates : List RawGate)
    → AndHeld bytes h a ands part gates
    → IsHeld (or_gates bytes (xor_hole (and_hole h)))
    (λ n. joined n gate.Or (or_parts bytes n (with_xor (and_hole h) (with_and h a)))) []
    (or_all bytes h ands part gates).part (or_all bytes h ands part gates).gates
all_end bytes h a ands part gates k =
    joined_at (or_gates bytes (xor_hole (and_hole h))) (λ n. or_parts bytes n (with_xor (and_hole h) (with_and h a)))
    (xor_ors bytes (and_hole h)) _ _ gate.Or (both_end bytes h a ands part gates k)

sim-close : (bytes : List ℕ) (h : OrHole) (o : OrPhrase) (at : Span) (x : Held) (level : Level) (front : List RawGate)
    → IsHeld (or_gates bytes h) (λ n. joined n gate.Or (or_parts bytes n o)) [] x.part x.gates
    → Follows bytes (close_round h o at) (closed_in (or_frames bytes h)
    (aimed bytes (or_aim h) level (or_frames bytes h)) x (aim_found bytes (or_aim h) front))
sim-close bytes (OfAssign f a t q) o at x level front k = tt
sim-close bytes (InRound b h) o at x level front k =
    sim-unit bytes h (Bracketed b o at) x.part x.gates front (or_frames bytes (InRound b h)) k

sim-end : (bytes : List ℕ) (h : OrHole) (o : OrPhrase) (at : Span) (x : Held) (level : Level) (front : List RawGate)
    → IsHeld (or_gates bytes h) (λ n. joined n gate.Or (or_parts bytes n o)) [] x.part x.gates
    → Follows bytes (end_assign h o at) (ended_in (or_frames bytes h) (aimed bytes (or_aim h) level (or_frames bytes h))
    x (aim_found bytes (or_aim h) front))
sim-end bytes (OfAssign f a t q) o at x level front k =
    let e = driven_at (or_gates bytes (OfAssign f a t q)) (λ n. joined n gate.Or (or_parts bytes n o)) x.part x.gates
    (name_of bytes t) k in
    subst (λ g. StandsAt bytes (with_gates (found_at bytes f) g) state.InItems
    (InItems (with_item f (Assign a t q o at)))) (sym e)
    (AtItems (with_item f (Assign a t q o at)))
sim-end bytes (InRound b h) o at x level front k = tt

pub sim-behind : (bytes : List ℕ) (a : AndPhrase) (h : AndHole) (ands : List RawPin) (part : Part)
    (gates : List RawGate) (k : TokenKind) (at : Span) → AndHeld bytes h a ands part gates
    → Follows bytes (end_unit a h k at) (part_next (aimed bytes (or_aim (xor_hole (and_hole h)))
    (and_level bytes h ands) (or_frames bytes (xor_hole (and_hole h)))) part
    (aim_found bytes (or_aim (xor_hole (and_hole h))) gates) k)
sim-behind bytes a h ands part gates Ampersand at k =
    at_unit bytes (NextUnit a at h) _ _ _ _ (aim_and h)
    (settled_gates_at (and_gates bytes h) (λ n. and_parts bytes n a) ands part gates k)
    (ap (and_level bytes h) (settled_pins_at (and_gates bytes h) (λ n. and_parts bytes n a) ands part gates k))
    (frames_and bytes h)
sim-behind bytes a h ands part gates Caret at k =
    let e = and_ends bytes h a ands part gates k in
    at_unit bytes (FirstUnit (NextAnd (with_and h a) at (and_hole h))) _ _ _ _ (aim_xor (and_hole h))
    (settled_gates_at (xor_gates bytes (and_hole h)) (λ n. xor_parts bytes n (with_and h a)) (and_xors bytes h) _ _ e)
    (ap (λ xs. record { ors = xor_ors bytes (and_hole h); xors = xs; ands = [] })
    (settled_pins_at (xor_gates bytes (and_hole h)) (λ n. xor_parts bytes n (with_and h a)) (and_xors bytes h) _ _ e))
    (frames_xor bytes (and_hole h))
sim-behind bytes a h ands part gates Bar at k =
    let e = both_end bytes h a ands part gates k in
    let o : OrPhrase = with_xor (and_hole h) (with_and h a) in
    let g : OrHole = xor_hole (and_hole h) in
    at_unit bytes (FirstUnit (FirstAnd (NextXor o at g))) _ _ _ _ refl
    (settled_gates_at (or_gates bytes g) (λ n. or_parts bytes n o) (xor_ors bytes (and_hole h)) _ _ e)
    (ap (λ xs. record { ors = xs; xors = []; ands = [] })
    (settled_pins_at (or_gates bytes g) (λ n. or_parts bytes n o) (xor_ors bytes (and_hole h)) _ _ e))
    refl
sim-behind bytes a h ands part gates CloseRound at k =
    sim-close bytes (xor_hole (and_hole h)) (with_xor (and_hole h) (with_and h a)) at
    (or_all bytes h ands part gates) (and_level bytes h ands) gates (all_end bytes h a ands part gates k)
sim-behind bytes a h ands part gates Semicolon at k =
    sim-end bytes (xor_hole (and_hole h)) (with_xor (and_hole h) (with_and h a)) at
    (or_all bytes h ands part gates) (and_level bytes h ands) gates (all_end bytes h a ands part gates k)
sim-behind bytes a h ands part gates _ at k = tt
