-- The machine follows the grammar.
use Rattle.std.proofs.Common.{◌≡◌, ℕ, List, [], ◌∷◌, ◌++◌, Bool, true, false, Option, Some, None, refl, sym, ap, subst}
use Rattle.std.proofs.Common.{◌∙◌, inl, inr, ◌⊎◌, append_assoc}
use Rattle.std.proofs.lemmas.Bool.{false≢true}
use Rattle.std.specs.Prelude.{if◌then◌else◌, option_map, IsTrue, not}
use Rattle.pbs_base.specs.declared.refusal.Span.{Span}
use Rattle.vlog_text.specs.declared.raw.DeclKind.{DeclKind}
use Rattle.vlog_text.specs.declared.raw.RawDecl.{RawDecl}
use Rattle.vlog_text.specs.declared.raw.RawName.{RawName}
use Rattle.vlog_text.specs.declared.token.TokenKind.{TokenKind}
use Rattle.vlog_text.specs.declared.token.TokenKind.TheVariants.{Name, Clock, DeclWord, GateWord, ModuleWord}
use Rattle.vlog_text.specs.declared.token.TokenKind.TheVariants.{EndmoduleWord, AssignWord, AlwaysWord, PosedgeWord}
use Rattle.vlog_text.specs.declared.token.TokenKind.TheVariants.{OpenRound, CloseRound, Comma, Semicolon, Equals}
use Rattle.vlog_text.specs.declared.token.TokenKind.TheVariants.{At, Arrow}
use Rattle.vlog_text.specs.Grammar.{NamePhrase, OperandPhrase, OneOperand, MoreOperands, OneName}
use Rattle.vlog_text.specs.Grammar.{MoreNames}
use Rattle.vlog_text.specs.Grammar.{Unnamed, Instance, is_single}
use Rattle.vlog_text.specs.Trees.{name_of, operand_of, names_of, declare}
use Rattle.vlog_parse.specs.declared.state.Found.{Found}
use Rattle.vlog_parse.specs.declared.state.State.{State}
use Rattle.vlog_parse.specs.declared.state.State.TheVariants as state
use Rattle.vlog_parse.specs.inner.Places.{OfAssign, FirstXor, FirstAnd, FirstUnit, PortHole, FirstPort, NextPort}
use Rattle.vlog_parse.specs.inner.Places.{DeclHole, FirstDecl, NextDecl, PinFront, Place}
use Rattle.vlog_parse.specs.inner.Places.{AfterName}
use Rattle.vlog_parse.specs.inner.Places.{AfterPins, AfterPin}
use Rattle.vlog_parse.specs.inner.Steps.{name_at, operand_at, single_or_many, with_port, with_name, with_item}
use Rattle.vlog_parse.specs.inner.Steps.{titled, first_head, whole, gate_front, pin_front, edge, with_arity, step}
use Rattle.vlog_parse.specs.inner.Steps.{many_gate, single_gate, always}
use Rattle.vlog_text.specs.Grammar.{Declare}
use Rattle.vlog_parse.specs.inner.Machine.{next, first_pin}
use Rattle.vlog_parse.proofs.Standing.{StandsAt, AtStart, AtModule, AtTitle, AtPort, BehindPort, BehindPorts, AtItems}
use Rattle.vlog_parse.proofs.Standing.{AtName, BehindName, AtGateWord, AtInstance, AtTarget, BehindTarget, AtPin}
use Rattle.vlog_parse.proofs.Standing.{AtNextPin, BehindPins, BehindPin, BehindManyGate, BehindSingleGate, AtAssign}
use Rattle.vlog_parse.proofs.Standing.{AtAssigned, AtUnit, BehindUnit, AtAlways, AtAt, AtClockOpen, AtPosedge, AtClock}
use Rattle.vlog_parse.proofs.Standing.{AtEdge, AtRegister, AtArrow, BehindTaken, AtEnd, Follows, found_at}
use Rattle.vlog_parse.proofs.Standing.{decl_found, decl_kind, port_found}
use Rattle.vlog_parse.proofs.Inside.{sim-wanted, sim-behind}

-- a step over a name or an operand
optional : {A : Type 0} (bytes : List ℕ) (o : Option A) (p : A → Place) (m : A → State × Found)
    → ((x : A) → StandsAt bytes (m x).1 (m x).0 (p x)) → Follows bytes (option_map p o) (option_map m o)
optional bytes None p m h = tt
optional bytes (Some x) p m h = h x

declare-append : (k : DeclKind) (a b : List RawName) → declare k (a ++ b) ≡ declare k a ++ declare k b
declare-append k [] b = refl
declare-append k (n ∷ a) b = ap (λ l. (record { kind = k; name = n }) ∷ l) (declare-append k a b)

more_declared : (k : DeclKind) (old : List RawDecl) (ns : List RawName) (n : RawName)
    → old ++ declare k (ns ++ n ∷ []) ≡ (old ++ declare k ns) ++ (record { kind = k; name = n }) ∷ []
more_declared k old ns n = ap (λ l. old ++ l) (declare-append k ns (n ∷ [])) ∙ sym (append_assoc old _ _)

sim-port : (bytes : List ℕ) (h : PortHole) (n : NamePhrase)
    → StandsAt bytes (let f = port_found bytes h in record f { ports = f.ports ++ name_of bytes n ∷ [] })
    state.AfterPort (with_port h n)
sim-port bytes (FirstPort t) n = BehindPort t (OneName n)
sim-port bytes (NextPort t ns c) n = BehindPort t (MoreNames ns c n)

sim-name : (bytes : List ℕ) (h : DeclHole) (n : NamePhrase)
    → StandsAt bytes (let f = decl_found bytes h in record f {
      decls = f.decls ++ (record { kind = decl_kind h; name = name_of bytes n }) ∷ [];
    }) (state.AfterName (decl_kind h)) (with_name h n)
sim-name bytes (FirstDecl f k at) n = BehindName f k at (OneName n)
sim-name bytes (NextDecl f k at ns c) n =
    subst (λ l. StandsAt bytes (let x = found_at bytes f in record x { decls = l }) (state.AfterName k)
    (AfterName f k at (MoreNames ns c n)))
    (more_declared k (found_at bytes f).decls (names_of bytes ns) (name_of bytes n))
    (BehindName f k at (MoreNames ns c n))

first_of : (b : Bool) (x y : State) → IsTrue b → x ≡ (if b then x else y)
first_of true x y e = refl
first_of false x y e = absurd (false≢true e)

second_of : (b : Bool) (x y : State) → IsTrue (not b) → y ≡ (if b then x else y)
second_of true x y e = absurd (false≢true e)
second_of false x y e = refl

sim-arity : (bytes : List ℕ) (g : PinFront) (p : OperandPhrase)
    (e : IsTrue (is_single g.gate.kind) ⊎ IsTrue (not (is_single g.gate.kind)))
    → StandsAt bytes (found_at bytes g.gate.head) (first_pin g.gate.kind (name_of bytes g.target) (operand_of bytes p))
    (with_arity g p e)
sim-arity bytes g p (inl single) =
    subst (λ s. StandsAt bytes (found_at bytes g.gate.head) s (AfterPin g single p))
    (first_of (is_single g.gate.kind) _ _ single) (BehindPin g single p)
sim-arity bytes g p (inr many) =
    subst (λ s. StandsAt bytes (found_at bytes g.gate.head) s (AfterPins g many (OneOperand p)))
    (second_of (is_single g.gate.kind) _ _ many) (BehindPins g many (OneOperand p))

-- ---- every place

pub sim : (bytes : List ℕ) (f : Found) (s : State) (p : Place) → StandsAt bytes f s p → (k : TokenKind) (at : Span)
    → Follows bytes (step p k at) (next bytes s f k at)
sim bytes f s p AtStart ModuleWord at = AtModule at
sim bytes f s p AtStart _ at = tt
sim bytes f s p (AtModule m) k at = optional bytes (name_at k at) _ _ (λ n. AtTitle m n)
sim bytes f s p (AtTitle m n) OpenRound at = AtPort (FirstPort (titled m n at))
sim bytes f s p (AtTitle m n) _ at = tt
sim bytes f s p (AtPort h) k at = optional bytes (name_at k at) _ _ (λ n. sim-port bytes h n)
sim bytes f s p (BehindPort t ns) Comma at = AtPort (NextPort t ns at)
sim bytes f s p (BehindPort t ns) CloseRound at = BehindPorts t ns at
sim bytes f s p (BehindPort t ns) _ at = tt
sim bytes f s p (BehindPorts t ns c) Semicolon at = AtItems (first_head t ns c at)
sim bytes f s p (BehindPorts t ns c) _ at = tt
sim bytes f s p (AtItems h) (DeclWord d) at = AtName (FirstDecl h d at)
sim bytes f s p (AtItems h) (GateWord g) at = AtGateWord h g at
sim bytes f s p (AtItems h) AssignWord at = AtAssign h at
sim bytes f s p (AtItems h) AlwaysWord at = AtAlways h at
sim bytes f s p (AtItems h) EndmoduleWord at = AtEnd (whole h at)
sim bytes f s p (AtItems h) _ at = tt
sim bytes f s p (AtName h) k at = optional bytes (name_at k at) _ _ (λ n. sim-name bytes h n)
sim bytes f s p (BehindName h d a ns) Comma at = AtName (NextDecl h d a ns at)
sim bytes f s p (BehindName h d a ns) Semicolon at = AtItems (with_item h (Declare d a ns at))
sim bytes f s p (BehindName h d a ns) _ at = tt
sim bytes f s p (AtGateWord h g a) OpenRound at = AtTarget (gate_front h g a Unnamed at)
sim bytes f s p (AtGateWord h g a) Name at = AtInstance h g a _
sim bytes f s p (AtGateWord h g a) Clock at = AtInstance h g a _
sim bytes f s p (AtGateWord h g a) _ at = tt
sim bytes f s p (AtInstance h g a n) OpenRound at = AtTarget (gate_front h g a (Instance n) at)
sim bytes f s p (AtInstance h g a n) _ at = tt
sim bytes f s p (AtTarget g) k at = optional bytes (name_at k at) _ _ (λ n. BehindTarget g n)
sim bytes f s p (BehindTarget g t) Comma at = AtPin (pin_front g t at)
sim bytes f s p (BehindTarget g t) _ at = tt
sim bytes f s p (AtPin g) k at = optional bytes (operand_at k at) _ _
    (λ x. sim-arity bytes g x (single_or_many g.gate.kind))
sim bytes f s p (AtNextPin g many ps c) k at = optional bytes (operand_at k at) _ _
    (λ x. BehindPins g many (MoreOperands ps c x))
sim bytes f s p (BehindPins g many ps) Comma at = AtNextPin g many ps at
sim bytes f s p (BehindPins g many ps) CloseRound at = BehindManyGate g many ps at
sim bytes f s p (BehindPins g many ps) _ at = tt
sim bytes f s p (BehindPin g single x) CloseRound at = BehindSingleGate g single x at
sim bytes f s p (BehindPin g single x) _ at = tt
sim bytes f s p (BehindManyGate g many ps c) Semicolon at =
    AtItems (with_item g.gate.head (many_gate g many ps c at))
sim bytes f s p (BehindManyGate g many ps c) _ at = tt
sim bytes f s p (BehindSingleGate g single x c) Semicolon at =
    AtItems (with_item g.gate.head (single_gate g single x c at))
sim bytes f s p (BehindSingleGate g single x c) _ at = tt
sim bytes f s p (AtAssign h a) k at = optional bytes (name_at k at) _ _ (λ n. AtAssigned h a n)
sim bytes f s p (AtAssigned h a t) Equals at = AtUnit (FirstUnit (FirstAnd (FirstXor (OfAssign h a t at))))
sim bytes f s p (AtAssigned h a t) _ at = tt
sim bytes f s p (AtUnit h) k at = sim-wanted bytes h k at
sim bytes f s p (BehindUnit a h ands part gates held) k at = sim-behind bytes a h ands part gates k at held
sim bytes f s p (AtAlways h a) At at = AtAt h a at
sim bytes f s p (AtAlways h a) _ at = tt
sim bytes f s p (AtAt h a b) OpenRound at = AtClockOpen h a b at
sim bytes f s p (AtAt h a b) _ at = tt
sim bytes f s p (AtClockOpen h a b c) PosedgeWord at = AtPosedge h a b c at
sim bytes f s p (AtClockOpen h a b c) _ at = tt
sim bytes f s p (AtPosedge h a b c d) Clock at = AtClock h a b c d at
sim bytes f s p (AtPosedge h a b c d) _ at = tt
sim bytes f s p (AtClock h a b c d e) CloseRound at = AtEdge (edge h a b c d e at)
sim bytes f s p (AtClock h a b c d e) _ at = tt
sim bytes f s p (AtEdge e) k at = optional bytes (name_at k at) _ _ (λ n. AtRegister e n)
sim bytes f s p (AtRegister e t) Arrow at = AtArrow e t at
sim bytes f s p (AtRegister e t) _ at = tt
sim bytes f s p (AtArrow e t r) k at = optional bytes (operand_at k at) _ _ (λ x. BehindTaken e t r x)
sim bytes f s p (BehindTaken e t r x) Semicolon at = AtItems (with_item e.head (always e t r x at))
sim bytes f s p (BehindTaken e t r x) _ at = tt
sim bytes f s p (AtEnd w) k at = tt
