-- How far the machine has come over the tokens.
use Rattle.std.proofs.Common.{◌≡◌, ℕ, ◌<◌, ◌≤◌, List, [], ◌∷◌, ◌++◌, length, true, false, Option, Some, None}
use Rattle.std.proofs.Common.{refl, sym}
use Rattle.std.proofs.Common.{ap, subst, ◌∙◌, ◌+◌, take, drop, get_or, append_assoc}
use Rattle.std.proofs.lemmas.List.{take_more, take_all, take-append-drop}
use Rattle.std.proofs.Common.{Result, Ok, Err}
use Rattle.std.specs.Prelude.{IfOk}
use Rattle.std.proofs.lemmas.Bool.{false≢true}
use Rattle.vlog_text.specs.declared.raw.RawNetlist.{RawNetlist}
use Rattle.vlog_text.specs.declared.token.Token.{Token}
use Rattle.vlog_text.specs.Grammar.{TextPhrase}
use Rattle.vlog_text.specs.Reading.{LeavesGrammar}
use Rattle.vlog_text.specs.Trees.{raw_of}
use Rattle.vlog_parse.specs.declared.state.Found.{Found}
use Rattle.vlog_parse.specs.declared.state.Fixed.TheVariants as fixed
use Rattle.vlog_parse.specs.declared.state.State.{State}
use Rattle.vlog_parse.specs.declared.state.State.TheVariants as state
use Rattle.vlog_parse.specs.inner.Places.{Place, Start, Whole}
use Rattle.vlog_parse.specs.inner.Steps.{step, walk}
use Rattle.vlog_parse.specs.inner.Machine.{Next, next, IsNext, IsFound, is_whole, nothing}
use Rattle.vlog_parse.specs.Parsed.{IsReadAs}
use Rattle.vlog_text.specs.declared.fail.VlogFail.{VlogFail}
use Rattle.vlog_parse.proofs.Walks.{walk-then}
use Rattle.vlog_parse.proofs.Exact.{walked_text, leaves_at, leaves_end}
use Rattle.vlog_parse.proofs.Standing.{StandsAt, AtStart, AtEnd, Follows, whole_found}
use Rattle.vlog_parse.proofs.Simulates.{sim}

-- the machine has taken these tokens
pub record Reached (bytes : List ℕ) (taken : List Token) (f : Found) (s : State) : Type 0 where
  pub place : Place
  pub walked : walk Start taken ≡ Some place
  pub stands : StandsAt bytes f s place

pub reached_start : (bytes : List ℕ) (f : Found) → f ≡ nothing
    → Reached bytes [] f (state.OfFixed fixed.WantsModule)
reached_start bytes f e = record {
  place = Start;
  walked = refl;
  stands = subst (λ x. StandsAt bytes x (state.OfFixed fixed.WantsModule) Start) (sym e) AtStart;
}

stepped : (bytes : List ℕ) (o : Option Place) (n : Next) (s : State) (f : Found) → Follows bytes o n
    → IsNext n (Some s) f → (q : Place) × (o ≡ Some q) × StandsAt bytes f s q
stepped bytes None None s f h i = absurd i
stepped bytes None (Some x) s f h i = absurd h
stepped bytes (Some q) None s f h i = absurd h
stepped bytes (Some q) (Some x) s f h i =
    (q, refl, subst (λ g. StandsAt bytes g s q) (sym i.1) (subst (λ t. StandsAt bytes x.1 t q) (sym i.0) h))

stopped : (bytes : List ℕ) (o : Option Place) (n : Next) (f : Found) → Follows bytes o n → IsNext n None f → o ≡ None
stopped bytes None None f h i = refl
stopped bytes None (Some x) f h i = absurd h
stopped bytes (Some q) None f h i = absurd h
stopped bytes (Some q) (Some x) f h i = absurd i

pub reached_more : (bytes : List ℕ) (taken : List Token) (f : Found) (s : State) (t : Token) (g : Found) (r : State)
    → Reached bytes taken f s → IsNext (next bytes s f t.kind t.span) (Some r) g
    → Reached bytes (taken ++ t ∷ []) g r
reached_more bytes taken f s t g r h i =
    let x = stepped bytes (step h.place t.kind t.span) (next bytes s f t.kind t.span) r g
    (sim bytes f s h.place h.stands t.kind t.span) i in
    record {
      place = x.0;
      walked = walk-then taken t h.place x.0 Start h.walked x.1;
      stands = x.2;
    }

pub reached_stop : (bytes : List ℕ) (end : ℕ) (taken rest : List Token) (f : Found) (s : State) (t : Token) (g : Found)
    → Reached bytes taken f s → IsNext (next bytes s f t.kind t.span) None g
    → LeavesGrammar end (taken ++ t ∷ rest) t.span
reached_stop bytes end taken rest f s t g h i =
    leaves_at end taken rest t h.place h.walked (stopped bytes (step h.place t.kind t.span) _ g
    (sim bytes f s h.place h.stands t.kind t.span) i)

whole_there : (bytes : List ℕ) (f : Found) (s : State) (p : Place) → StandsAt bytes f s p → is_whole s ≡ true
    → (w : TextPhrase) × (p ≡ Whole w) × (f ≡ whole_found bytes w)
whole_there bytes f s p (AtEnd w) e = (w, refl, refl)
whole_there bytes f s p _ e = absurd (false≢true e)

not_whole : (bytes : List ℕ) (f : Found) (s : State) (p : Place) → StandsAt bytes f s p → is_whole s ≡ false
    → (w : TextPhrase) → p ≡ Whole w → ⊥
not_whole bytes f s p (AtEnd w) e v q = false≢true (sym e)
not_whole bytes f s p _ e v q = cc

pub reached_end : (bytes : List ℕ) (end : ℕ) (ts : List Token) (f : Found) (s : State) → Reached bytes ts f s
    → is_whole s ≡ false → LeavesGrammar end ts (record { start = end; end = end })
reached_end bytes end ts f s h e = leaves_end end ts h.place h.walked (not_whole bytes f s h.place h.stands e)

some_same : {A : Type 0} (x y : A) → Some x ≡ Some y → x ≡ y
some_same x y e = cc

pub reached_whole : (bytes : List ℕ) (ts : List Token) (f : Found) (s : State) (raw : RawNetlist)
    → Reached bytes ts f s → is_whole s ≡ true → IsFound f raw → IsReadAs bytes ts raw
reached_whole bytes ts f s raw h e found =
    let w = whole_there bytes f s h.place h.stands e in
    let walked : walk Start ts ≡ Some (Whole w.0) = h.walked ∙ ap Some w.1 in
    let name : raw.name ≡ (raw_of bytes w.0).name
    = some_same raw.name (raw_of bytes w.0).name (sym found.title ∙ ap (λ x. x.title) w.2) in
    record {
      phrase = w.0;
      text = walked_text ts w.0 walked;
      raw_is = same raw (raw_of bytes w.0) name (found.ports ∙ ap (λ x. x.ports) w.2)
          (found.decls ∙ ap (λ x. x.decls) w.2) (found.gates ∙ ap (λ x. x.gates) w.2)
          (found.regs ∙ ap (λ x. x.regs) w.2);
    }
  where
    same : (a b : RawNetlist) → a.name ≡ b.name → a.ports ≡ b.ports → a.decls ≡ b.decls → a.gates ≡ b.gates
        → a.regs ≡ b.regs → a ≡ b
    same a b n p d g r =
        ap (λ x. record a { name = x }) n ∙ (ap (λ x. record a { name = b.name; ports = x }) p
        ∙ (ap (λ x. record a { name = b.name; ports = b.ports; decls = x }) d
        ∙ (ap (λ x. record b { gates = x; regs = a.regs }) g ∙ ap (λ x. record b { regs = x }) r)))

pub split_at : (ts : List Token) (i : ℕ) (d : Token) → i < length ts
    → take i ts ++ get_or ts i d ∷ drop (i + 1) ts ≡ ts
split_at ts i d h =
    sym (append_assoc (take i ts) (get_or ts i d ∷ []) (drop (i + 1) ts))
    ∙ (ap (λ l. l ++ drop (i + 1) ts) (sym (take_more ts i d h)) ∙ take-append-drop (i + 1) ts)

-- ---- the loop over the tokens

pub loop_more : (bytes : List ℕ) (ts : List Token) (i : ℕ) (d : Token) (f : Found) (s : State) (n : Option State)
    (r : State) (g : Found) → Reached bytes (take i ts) f s → i < length ts → n ≡ Some r
    → IsNext (next bytes s f (get_or ts i d).kind (get_or ts i d).span) n g → Reached bytes (take (i + 1) ts) g r
loop_more bytes ts i d f s n r g h lt e is =
    let t : Token = get_or ts i d in
    subst (λ l. Reached bytes l g r) (sym (take_more ts i d lt))
    (reached_more bytes (take i ts) f s t g r h (subst (λ m. IsNext (next bytes s f t.kind t.span) m g) e is))

pub loop_stop : (bytes : List ℕ) (end : ℕ) (ts : List Token) (i : ℕ) (d : Token) (f : Found) (s : State)
    (n : Option State) (g : Found) → Reached bytes (take i ts) f s → i < length ts → n ≡ None
    → IsNext (next bytes s f (get_or ts i d).kind (get_or ts i d).span) n g
    → LeavesGrammar end ts (get_or ts i d).span
loop_stop bytes end ts i d f s n g h lt e is =
    let t : Token = get_or ts i d in
    subst (λ l. LeavesGrammar end l t.span) (split_at ts i d lt)
    (reached_stop bytes end (take i ts) (drop (i + 1) ts) f s t g h
    (subst (λ m. IsNext (next bytes s f t.kind t.span) m g) e is))

pub loop_over : (bytes : List ℕ) (ts : List Token) (i : ℕ) (f : Found) (s : State) → Reached bytes (take i ts) f s
    → length ts ≤ i → Reached bytes ts f s
loop_over bytes ts i f s h le = subst (λ l. Reached bytes l f s) (take_all i ts le) h

pub found_whole : (bytes : List ℕ) (ts : List Token) (f : Found) (s : State) (r : Result RawNetlist VlogFail)
    → Reached bytes ts f s → is_whole s ≡ true → IfOk r (λ raw. IsFound f raw) → IfOk r (λ raw. IsReadAs bytes ts raw)
found_whole bytes ts f s (Ok raw) h e found = reached_whole bytes ts f s raw h e found
found_whole bytes ts f s (Err x) h e found = tt
