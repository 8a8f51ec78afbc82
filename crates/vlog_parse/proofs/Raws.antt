-- What a text is read as is a raw netlist: the machine goes wherever the grammar goes, and keeps what holds of those.
use Rattle.std.proofs.Common.{◌≡◌, ℕ, List, [], ◌∷◌, true, Option, Some, None, refl, sym}
use Rattle.std.proofs.Common.{ap, subst, arith}
use Rattle.std.specs.Prelude.{IfSome, ⊤}
use Rattle.vlog_text.specs.declared.token.Token.{Token}
use Rattle.vlog_text.specs.Grammar.{TextPhrase}
use Rattle.vlog_text.specs.Raw.{IsRaw}
use Rattle.vlog_text.specs.Reading.{IsRead}
use Rattle.vlog_text.specs.Trees.{raw_of}
use Rattle.vlog_parse.specs.declared.state.Found.{Found}
use Rattle.vlog_parse.specs.declared.state.Fixed.TheVariants as fixed
use Rattle.vlog_parse.specs.declared.state.State.{State}
use Rattle.vlog_parse.specs.declared.state.State.TheVariants as state
use Rattle.vlog_parse.specs.inner.Places.{Place, Start, Whole}
use Rattle.vlog_parse.specs.inner.Steps.{step, walk}
use Rattle.vlog_parse.specs.inner.Machine.{Next, next, IsFound, is_whole, nothing}
use Rattle.vlog_parse.proofs.Walks.{at_some, any}
use Rattle.vlog_parse.proofs.Exact.{text_walked}
use Rattle.vlog_parse.proofs.Standing.{StandsAt, AtStart, AtEnd, Follows, whole_found}
use Rattle.vlog_parse.proofs.Simulates.{sim}
use Rattle.vlog_parse.proofs.Fitting.{Fitting, fit_start, fit_next, fit_whole}
use Rattle.vlog_parse.proofs.Counts.{raw_few}

-- the machine at a place, with what it has found
record Comes (bytes : List ℕ) (place : Place) : Type 0 where
  found : Found
  state : State
  stands : StandsAt bytes found state place
  fitting : Fitting found state

comes_on : (bytes : List ℕ) (o : Option Place) (n : Next) (q : Place) → Follows bytes o n
    → IfSome n (λ x. Fitting x.1 x.0) → o ≡ Some q → Comes bytes q
comes_on bytes None n q follows fit e = absurd cc
comes_on bytes (Some p) None q follows fit e = absurd follows
comes_on bytes (Some p) (Some x) q follows fit e =
    let same : p ≡ q = cc in
    record { found = x.1; state = x.0; stands = subst (StandsAt bytes x.1 x.0) same follows; fitting = fit }

comes : (bytes : List ℕ) (ts : List Token) (p q : Place) → Comes bytes p → walk p ts ≡ Some q → Comes bytes q
comes bytes [] p q at e = let same : p ≡ q = cc in subst (Comes bytes) same at
comes bytes (t ∷ ts) p q at e =
    let over : Option Place = step p t.kind t.span in
    let x = at_some over (λ z. walk z ts) (λ _. ⊤) q (any over) e in
    let behind = comes_on bytes over (next bytes at.state at.found t.kind t.span) x.0
    (sim bytes at.found at.state p at.stands t.kind t.span)
    (fit_next bytes at.state at.found t.kind t.span at.fitting) x.1 in
    comes bytes ts x.0 q behind x.2

at_start : (bytes : List ℕ) → Comes bytes Start
at_start bytes =
    record { found = nothing; state = state.OfFixed fixed.WantsModule; stands = AtStart; fitting = fit_start }

stands_whole : (bytes : List ℕ) (f : Found) (s : State) (p : Place) (w : TextPhrase) → StandsAt bytes f s p
    → p ≡ Whole w → (is_whole s ≡ true) × (f ≡ whole_found bytes w)
stands_whole bytes f s p w (AtEnd v) e = let same : v ≡ w = cc in (refl, ap (whole_found bytes) same)
stands_whole bytes f s p w _ e = absurd cc

found_raw : (bytes : List ℕ) (w : TextPhrase) → IsFound (whole_found bytes w) (raw_of bytes w)
found_raw bytes w = record { title = refl; ports = refl; decls = refl; gates = refl; regs = refl }

pub read_is_raw : (bytes : List ℕ) (p : TextPhrase) → IsRead bytes p → IsRaw (raw_of bytes p)
read_is_raw bytes p read =
    let end = comes bytes read.found Start (Whole p) (at_start bytes) (text_walked read.found p read.text) in
    let whole = stands_whole bytes end.found end.state (Whole p) p end.stands refl in
    let few = raw_few bytes p read in
    fit_whole end.found end.state (raw_of bytes p) end.fitting whole.0
    (subst (λ f. IsFound f (raw_of bytes p)) (sym whole.1) (found_raw bytes p)) (omega (arith, few.0))
    (omega (arith, few.1))
