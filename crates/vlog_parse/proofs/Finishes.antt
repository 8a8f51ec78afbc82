-- Every place can be completed to a whole text, by a completion that is written out.
use Rattle.std.proofs.Common.{◌≡◌, List, [], ◌∷◌, Some, refl, ap, ◌∙◌, inl, inr, ◌⊎◌}
use Rattle.std.specs.Prelude.{option_and_then, IsTrue, not}
use Rattle.pbs_base.specs.declared.refusal.Span.{Span}
use Rattle.vlog_text.specs.declared.token.Token.{Token}
use Rattle.vlog_text.specs.declared.token.TokenKind.{TokenKind}
use Rattle.vlog_text.specs.declared.token.TokenKind.TheVariants.{Name, Clock, ModuleWord, EndmoduleWord}
use Rattle.vlog_text.specs.declared.token.TokenKind.TheVariants.{PosedgeWord, OpenRound, CloseRound, Comma, Semicolon}
use Rattle.vlog_text.specs.declared.token.TokenKind.TheVariants.{Equals, At, Arrow}
use Rattle.vlog_text.specs.Grammar.{token, UnitPhrase, Negated, Bracketed, AndPhrase, is_single}
use Rattle.vlog_text.specs.Grammar.{OperandPhrase, NamePhrase, TextPhrase}
use Rattle.vlog_parse.specs.inner.Places.{Head, OfAssign, InRound, FirstXor, NextXor, AndHole, FirstAnd, NextAnd}
use Rattle.vlog_parse.specs.inner.Places.{UnitHole}
use Rattle.vlog_parse.specs.inner.Places.{FirstUnit, NextUnit, UnderNot, PortHole, FirstPort, NextPort, DeclHole}
use Rattle.vlog_parse.specs.inner.Places.{FirstDecl}
use Rattle.vlog_parse.specs.inner.Places.{NextDecl, GateFront, PinFront, Edge, Place, Start, AfterModule, AfterTitle}
use Rattle.vlog_parse.specs.inner.Places.{WantsPort, AfterPort, AfterPorts, InItems, WantsName, AfterName}
use Rattle.vlog_parse.specs.inner.Places.{AfterGateWord}
use Rattle.vlog_parse.specs.inner.Places.{AfterInstance, WantsTarget, AfterTarget, WantsPin, WantsNextPin, AfterPins}
use Rattle.vlog_parse.specs.inner.Places.{AfterPin}
use Rattle.vlog_parse.specs.inner.Places.{AfterManyGate, AfterSingleGate, AfterAssign, AfterAssigned, WantsUnit}
use Rattle.vlog_parse.specs.inner.Places.{AfterUnit}
use Rattle.vlog_parse.specs.inner.Places.{AfterAlways, AfterAt, AfterClockOpen, AfterPosedge, AfterClock, AfterEdge}
use Rattle.vlog_parse.specs.inner.Places.{AfterRegister, AfterArrow, AfterTaken, Whole}
use Rattle.vlog_parse.specs.inner.Steps.{with_port, with_name, unit_hole, unit_and, with_arity, single_or_many, step}
use Rattle.vlog_parse.specs.inner.Steps.{walk}

-- the place can be completed to a whole text
abbrev pub Finishes : Place → Type 0
Finishes p = (more : List Token) × (w : TextPhrase) × (walk p more ≡ Some (Whole w))

-- a token that stands nowhere yet
nowhere : Span
nowhere = record { start = 0; end = 0 }

onward : (p q : Place) (k : TokenKind) → step p k nowhere ≡ Some q → Finishes q → Finishes p
onward p q k e f = (token k nowhere ∷ f.0, f.1, ap (option_and_then (λ r. walk r f.0)) e ∙ f.2)

finish_items : (f : Head) → Finishes (InItems f)
finish_items f = onward _ _ EndmoduleWord refl ([], _, refl)

mutual
  finish_unit : (h : UnitHole) (u : UnitPhrase) → Finishes (AfterUnit (unit_and h u) (unit_hole h))
  finish_unit (UnderNot at h) u = finish_unit h (Negated at u)
  finish_unit (FirstUnit h) u = finish_and h _
  finish_unit (NextUnit a at h) u = finish_and h _

  finish_and : (h : AndHole) (a : AndPhrase) → Finishes (AfterUnit a h)
  finish_and (FirstAnd (FirstXor (InRound o h))) a = onward _ _ CloseRound refl (finish_unit h (Bracketed o _ nowhere))
  finish_and (FirstAnd (NextXor x b (InRound o h))) a =
      onward _ _ CloseRound refl (finish_unit h (Bracketed o _ nowhere))
  finish_and (NextAnd y c (FirstXor (InRound o h))) a =
      onward _ _ CloseRound refl (finish_unit h (Bracketed o _ nowhere))
  finish_and (NextAnd y c (NextXor x b (InRound o h))) a =
      onward _ _ CloseRound refl (finish_unit h (Bracketed o _ nowhere))
  finish_and (FirstAnd (FirstXor (OfAssign f at t q))) a = onward _ _ Semicolon refl (finish_items _)
  finish_and (FirstAnd (NextXor x b (OfAssign f at t q))) a = onward _ _ Semicolon refl (finish_items _)
  finish_and (NextAnd y c (FirstXor (OfAssign f at t q))) a = onward _ _ Semicolon refl (finish_items _)
  finish_and (NextAnd y c (NextXor x b (OfAssign f at t q))) a = onward _ _ Semicolon refl (finish_items _)

finish_wanted : (h : UnitHole) → Finishes (WantsUnit h)
finish_wanted h = onward _ _ Name refl (finish_unit h _)

finish_ports : (h : PortHole) (n : NamePhrase) → Finishes (with_port h n)
finish_ports (FirstPort t) n = onward _ _ CloseRound refl (onward _ _ Semicolon refl (finish_items _))
finish_ports (NextPort t ns c) n = onward _ _ CloseRound refl (onward _ _ Semicolon refl (finish_items _))

finish_names : (h : DeclHole) (n : NamePhrase) → Finishes (with_name h n)
finish_names (FirstDecl f k at) n = onward _ _ Semicolon refl (finish_items _)
finish_names (NextDecl f k at ns c) n = onward _ _ Semicolon refl (finish_items _)

finish_arity : (g : PinFront) (p : OperandPhrase)
    (e : IsTrue (is_single g.gate.kind) ⊎ IsTrue (not (is_single g.gate.kind)))
    → Finishes (with_arity g p e)
finish_arity g p (inl single) = onward _ _ CloseRound refl (onward _ _ Semicolon refl (finish_items _))
finish_arity g p (inr many) = onward _ _ CloseRound refl (onward _ _ Semicolon refl (finish_items _))

finish_pin : (g : PinFront) → Finishes (WantsPin g)
finish_pin g = onward _ _ Name refl (finish_arity g _ (single_or_many g.gate.kind))

finish_target : (g : GateFront) → Finishes (WantsTarget g)
finish_target g = onward _ _ Name refl (onward _ _ Comma refl (finish_pin _))

finish_edge : (e : Edge) → Finishes (AfterEdge e)
finish_edge e = onward _ _ Name refl (onward _ _ Arrow refl (onward _ _ Name refl
    (onward _ _ Semicolon refl (finish_items _))))

finish_posedge : (f : Head) (a b c d : Span) → Finishes (AfterPosedge f a b c d)
finish_posedge f a b c d = onward _ _ Clock refl (onward _ _ CloseRound refl (finish_edge _))

-- every place can be completed
pub finish : (p : Place) → Finishes p
finish Start = onward _ _ ModuleWord refl (onward _ _ Name refl (onward _ _ OpenRound refl (onward _ _ Name refl
    (finish_ports (FirstPort _) _))))
finish (AfterModule m) = onward _ _ Name refl (onward _ _ OpenRound refl (onward _ _ Name refl
    (finish_ports (FirstPort _) _)))
finish (AfterTitle m n) = onward _ _ OpenRound refl (onward _ _ Name refl (finish_ports (FirstPort _) _))
finish (WantsPort h) = onward _ _ Name refl (finish_ports h _)
finish (AfterPort t ns) = onward _ _ CloseRound refl (onward _ _ Semicolon refl (finish_items _))
finish (AfterPorts t ns c) = onward _ _ Semicolon refl (finish_items _)
finish (InItems f) = finish_items f
finish (WantsName h) = onward _ _ Name refl (finish_names h _)
finish (AfterName f k at ns) = onward _ _ Semicolon refl (finish_items _)
finish (AfterGateWord f k at) = onward _ _ OpenRound refl (finish_target _)
finish (AfterInstance f k at n) = onward _ _ OpenRound refl (finish_target _)
finish (WantsTarget g) = finish_target g
finish (AfterTarget g t) = onward _ _ Comma refl (finish_pin _)
finish (WantsPin g) = finish_pin g
finish (WantsNextPin g many ps c) = onward _ _ Name refl (onward _ _ CloseRound refl
    (onward _ _ Semicolon refl (finish_items _)))
finish (AfterPins g many ps) = onward _ _ CloseRound refl (onward _ _ Semicolon refl (finish_items _))
finish (AfterPin g single p) = onward _ _ CloseRound refl (onward _ _ Semicolon refl (finish_items _))
finish (AfterManyGate g many ps c) = onward _ _ Semicolon refl (finish_items _)
finish (AfterSingleGate g single p c) = onward _ _ Semicolon refl (finish_items _)
finish (AfterAssign f a) = onward _ _ Name refl (onward _ _ Equals refl (finish_wanted _))
finish (AfterAssigned f a t) = onward _ _ Equals refl (finish_wanted _)
finish (WantsUnit h) = finish_wanted h
finish (AfterUnit a h) = finish_and h a
finish (AfterAlways f a) = onward _ _ At refl (onward _ _ OpenRound refl (onward _ _ PosedgeWord refl
    (finish_posedge _ _ _ _ _)))
finish (AfterAt f a b) = onward _ _ OpenRound refl (onward _ _ PosedgeWord refl (finish_posedge _ _ _ _ _))
finish (AfterClockOpen f a b c) = onward _ _ PosedgeWord refl (finish_posedge _ _ _ _ _)
finish (AfterPosedge f a b c d) = finish_posedge f a b c d
finish (AfterClock f a b c d e) = onward _ _ CloseRound refl (finish_edge _)
finish (AfterEdge e) = finish_edge e
finish (AfterRegister e t) = onward _ _ Arrow refl (onward _ _ Name refl (onward _ _ Semicolon refl (finish_items _)))
finish (AfterArrow e t r) = onward _ _ Name refl (onward _ _ Semicolon refl (finish_items _))
finish (AfterTaken e t r p) = onward _ _ Semicolon refl (finish_items _)
finish (Whole w) = ([], w, refl)
