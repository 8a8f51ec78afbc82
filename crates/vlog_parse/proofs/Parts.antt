-- What the machine holds of a phrase, as the phrase grows.
use Rattle.std.proofs.Common.{◌≡◌, ℕ, ◌+◌, List, [], ◌∷◌, ◌++◌, length, refl, sym, ap, subst, ◌∙◌, append_assoc}
use Rattle.std.proofs.Common.{length-append, arith}
use Rattle.net_core.specs.declared.gate.GateKind.{GateKind}
use Rattle.net_core.specs.declared.gate.GateKind.TheVariants as gate
use Rattle.vlog_text.specs.declared.raw.RawGate.{RawGate}
use Rattle.vlog_text.specs.declared.raw.RawName.{RawName}
use Rattle.vlog_text.specs.declared.raw.RawPin.{RawPin}
use Rattle.vlog_text.specs.declared.raw.Target.TheVariants as target
use Rattle.vlog_text.specs.Grammar.{UnitPhrase, Negated, Bracketed, Lone, AndPhrase, OneUnit, MoreUnits, XorPhrase}
use Rattle.vlog_text.specs.Grammar.{OneAnd, MoreAnds, OrPhrase, OneXor, MoreXors}
use Rattle.vlog_text.specs.Trees.{Parts, parts, gate_of, with_gate, joined, beside, unit_part, and_parts, xor_parts}
use Rattle.vlog_text.specs.Trees.{or_parts, driving}
use Rattle.vlog_parse.specs.declared.state.Part.{Part}
use Rattle.vlog_parse.specs.declared.state.Part.TheVariants.{Pin, Made}
use Rattle.vlog_parse.specs.inner.Machine.{settled_pin, settled_gates, held, made, joined_part, driven}
use Rattle.vlog_parse.proofs.Standing.{IsLone, shown, IsHeld}

pub settled-append : (part : Part) (a b : List RawGate) → settled_gates part (a ++ b) ≡ a ++ settled_gates part b
settled-append (Pin p) a b = refl
settled-append (Made kind pins) a b = append_assoc a b _

-- ---- several parts of one level

joined_more : (n : ℕ) (kind : GateKind) (p : RawPin) (pins : List RawPin) (x : RawPin) (gates : List RawGate)
    → joined n kind (parts gates ((p ∷ pins) ++ x ∷ [])) ≡ with_gate n kind (parts gates ((p ∷ pins) ++ x ∷ []))
joined_more n kind p [] x gates = refl
joined_more n kind p (q ∷ pins) x gates = refl

-- a gate over the pins and the part
pub made_at : (front : List RawGate) (all : ℕ → Parts) (before : List RawPin) (part : Part) (gates : List RawGate)
    (kind : GateKind) → IsHeld front all before part gates
    → IsHeld front (λ n. with_gate n kind (all n)) [] (made kind before (held part gates)).part
    (made kind before (held part gates)).gates
made_at front all before part gates kind h =
    let n : length gates ≡ length front + length h.own = ap length h.gates_are ∙ length-append front h.own in
    record {
      own = settled_gates part h.own;
      gates_are = ap (settled_gates part) h.gates_are ∙ settled-append part front h.own;
      all_is = ap (with_gate (length front) kind) h.all_is
          ∙ ap (λ m. shown (length front) [] (Made kind (before ++ settled_pin m part ∷ [])) (settled_gates part h.own))
          (sym n);
      lone = λ e. tt;
    }

pub joined_at : (front : List RawGate) (all : ℕ → Parts) (before : List RawPin) (part : Part) (gates : List RawGate)
    (kind : GateKind) → IsHeld front all before part gates
    → IsHeld front (λ n. joined n kind (all n)) [] (joined_part kind before (held part gates)).part
    (joined_part kind before (held part gates)).gates
joined_at front all [] part gates kind h = record {
  own = h.own;
  gates_are = h.gates_are;
  all_is = ap (joined (length front) kind) h.all_is;
  lone = h.lone;
}
joined_at front all (p ∷ pins) part gates kind h =
    let m = made_at front all (p ∷ pins) part gates kind h in
    record {
      own = m.own;
      gates_are = m.gates_are;
      all_is = ap (joined (length front) kind) h.all_is
          ∙ (joined_more (length front) kind p pins _ _
          ∙ (ap (with_gate (length front) kind) (sym h.all_is) ∙ m.all_is));
      lone = m.lone;
    }

-- a part behind others
pub beside_at : (front : List RawGate) (all more : ℕ → Parts) (part : Part) (gates : List RawGate)
    → ((all (length front)).pins ≡ [] → ⊥)
    → IsHeld (front ++ (all (length front)).gates) more [] part gates
    → IsHeld front (λ n. beside n (all n) more) (all (length front)).pins part gates
beside_at front all more part gates some h =
    let a : Parts = all (length front) in
    let n : length (front ++ a.gates) ≡ length front + length a.gates = length-append front a.gates in
    let there : more (length front + length a.gates) ≡ shown (length front + length a.gates) [] part h.own
    = subst (λ m. more m ≡ shown m [] part h.own) n h.all_is in
    let k : (length front + length a.gates) + length h.own ≡ length front + length (a.gates ++ h.own)
    = omega (arith, length-append a.gates h.own) in
    record {
      own = a.gates ++ h.own;
      gates_are = h.gates_are ∙ append_assoc front a.gates h.own;
      all_is = ap (λ q. parts (a.gates ++ q.gates) (a.pins ++ q.pins)) there
          ∙ (ap (λ g. parts g (a.pins ++ settled_pin ((length front + length a.gates) + length h.own) part ∷ []))
          (sym (settled-append part a.gates h.own))
          ∙ ap (λ m. parts (settled_gates part (a.gates ++ h.own)) (a.pins ++ settled_pin m part ∷ [])) k);
      lone = λ e. absurd (some e);
    }

-- ---- a phrase has a part at least

joined_some : (n : ℕ) (kind : GateKind) (gates : List RawGate) (pins : List RawPin) → (pins ≡ [] → ⊥)
    → (joined n kind (parts gates pins)).pins ≡ [] → ⊥
joined_some n kind gates [] some e = some refl
joined_some n kind gates (p ∷ []) some e = cc
joined_some n kind gates (p ∷ q ∷ pins) some e = cc

append_some : (a b : List RawPin) → (a ≡ [] → ⊥) → a ++ b ≡ [] → ⊥
append_some [] b some e = some refl
append_some (x ∷ a) b some e = cc

mutual
  pub unit_some : (bytes : List ℕ) (n : ℕ) (u : UnitPhrase) → (unit_part bytes n u).pins ≡ [] → ⊥
  unit_some bytes n (Negated at u) e = cc
  unit_some bytes n (Bracketed a o c) e = joined_some n gate.Or _ _ (or_some bytes n o) e
  unit_some bytes n (Lone p) e = cc

  pub and_some : (bytes : List ℕ) (n : ℕ) (a : AndPhrase) → (and_parts bytes n a).pins ≡ [] → ⊥
  and_some bytes n (OneUnit u) e = unit_some bytes n u e
  and_some bytes n (MoreUnits a at u) e = append_some (and_parts bytes n a).pins _ (and_some bytes n a) e

  pub xor_some : (bytes : List ℕ) (n : ℕ) (x : XorPhrase) → (xor_parts bytes n x).pins ≡ [] → ⊥
  xor_some bytes n (OneAnd a) e = joined_some n gate.And _ _ (and_some bytes n a) e
  xor_some bytes n (MoreAnds x at a) e = append_some (xor_parts bytes n x).pins _ (xor_some bytes n x) e

  pub or_some : (bytes : List ℕ) (n : ℕ) (o : OrPhrase) → (or_parts bytes n o).pins ≡ [] → ⊥
  or_some bytes n (OneXor x) e = joined_some n gate.Xor _ _ (xor_some bytes n x) e
  or_some bytes n (MoreXors o at x) e = append_some (or_parts bytes n o).pins _ (or_some bytes n o) e

-- ---- the target of an assign

driving_last : (name : RawName) (pins ps : List RawPin) (kind : GateKind) (own : List RawGate)
    → driving name pins (own ++ gate_of kind target.Inner ps ∷ []) ≡ own ++ gate_of kind (target.Name name) ps ∷ []
driving_last name pins ps kind [] = refl
driving_last name pins ps kind (g ∷ []) = refl
driving_last name pins ps kind (g ∷ h ∷ own) = ap (λ l. g ∷ l) (driving_last name pins ps kind (h ∷ own))

driving_shown : (name : RawName) (n : ℕ) (part : Part) (own : List RawGate) → IsLone part own
    → driving name (shown n [] part own).pins (shown n [] part own).gates ≡ own ++ driven name part ∷ []
driving_shown name n (Pin p) own lone = rw lone refl
driving_shown name n (Made kind pins) own lone = driving_last name _ pins kind own

pub driven_at : (front : List RawGate) (all : ℕ → Parts) (part : Part) (gates : List RawGate) (name : RawName)
    → IsHeld front all [] part gates
    → gates ++ driven name part ∷ [] ≡ front ++ driving name (all (length front)).pins (all (length front)).gates
driven_at front all part gates name h =
    ap (λ g. g ++ driven name part ∷ []) h.gates_are
    ∙ (append_assoc front h.own _
    ∙ ap (λ l. front ++ l) (sym (ap (λ q. driving name q.pins q.gates) h.all_is
    ∙ driving_shown name (length front) part h.own (h.lone refl))))
