-- The earliest refusal, name by name.
use Rattle.std.proofs.Common.{◌≡◌, ℕ, suc, ◌+◌, ◌<◌, Bool, true, false, cond, List, [], ◌∷◌, ◌++◌, length, map}
use Rattle.std.proofs.Common.{drop, Option, Some, None, get_or, refl, sym, ap, ◌∙◌, drop-cons, add-one}
use Rattle.std.specs.List.{cons_option, filter_map, flat_map}
use Rattle.pbs_base.specs.declared.refusal.Refusal.{Refusal}
use Rattle.vlog_text.specs.declared.raw.RawName.{RawName}
use Rattle.vlog_text.specs.declared.raw.RawGate.{RawGate}
use Rattle.vlog_text.specs.declared.raw.RawReg.{RawReg}
use Rattle.vlog_text.specs.declared.raw.RawPin.{RawPin}
use Rattle.vlog_text.specs.Words.{pin_name, target_name}
use Rattle.vlog_text.specs.Refusing.{earliest, earlier_of, refusals, refusal}
use Rattle.vlog_names.specs.declared.kinds.Kinds.{Kinds}
use Rattle.vlog_names.specs.declared.rows.Fault.{Fault}
use Rattle.vlog_names.specs.inner.Steps.{has_fault, when}
use Rattle.vlog_names.specs.inner.Rows.{faulty, one_or_none, named_pin, named_target}

pub earliest_both : (found : Option Refusal) (xs ys : List Refusal)
    → earliest found (xs ++ ys) ≡ earliest (earliest found xs) ys
earliest_both found [] ys = refl
earliest_both found (x ∷ xs) ys = earliest_both (Some (earlier_of found x)) xs ys

pub refusals_both : (rule : ℕ) (xs ys : List RawName) → refusals rule (xs ++ ys) ≡ refusals rule xs ++ refusals rule ys
refusals_both rule [] ys = refl
refusals_both rule (x ∷ xs) ys = ap (λ rs. refusal rule x.span ∷ rs) (refusals_both rule xs ys)

-- two lists of names, one after the other
pub noted_both : (found : Option Refusal) (rule : ℕ) (xs ys : List RawName)
    → earliest found (refusals rule (xs ++ ys)) ≡ earliest (earliest found (refusals rule xs)) (refusals rule ys)
noted_both found rule xs ys =
    ap (λ rs. earliest found rs) (refusals_both rule xs ys) ∙ earliest_both found (refusals rule xs) (refusals rule ys)

-- one item more of a list, each item of which gives some names
pub noted_more : {X : Type 0} (f : List X → List RawName) (row : X → List RawName)
    → ((x : X) (rest : List X) → f (x ∷ rest) ≡ row x ++ f rest)
    → (rule : ℕ) (xs : List X) (i : ℕ) (x : X) (found found' : Option Refusal) → i < length xs → x ≡ get_or xs i x
    → found' ≡ earliest found (refusals rule (row x))
    → earliest found' (refusals rule (f (drop (i + 1) xs))) ≡ earliest found (refusals rule (f (drop i xs)))
noted_more f row opens rule xs i x found found' within at e =
    ap (λ o. earliest o (refusals rule (f (drop (i + 1) xs)))) e
    ∙ ap (λ n. earliest (earliest found (refusals rule (row x))) (refusals rule (f (drop n xs)))) (add-one i)
    ∙ sym (noted_both found rule (row x) (f (drop (suc i) xs)))
    ∙ ap (λ ns. earliest found (refusals rule ns)) (sym (opens x (drop (suc i) xs)))
    ∙ ap (λ y. earliest found (refusals rule (f (y ∷ drop (suc i) xs)))) at
    ∙ ap (λ ys. earliest found (refusals rule (f ys))) (sym (drop-cons xs i x within))

pub when_opens : (b : Bool) (x : RawName) (rest : List RawName) → cond b (x ∷ rest) rest ≡ when b x ++ rest
when_opens true x rest = refl
when_opens false x rest = refl

module _ (fault : Fault) (kinds : List ℕ → Kinds) where
  pub name_opens : (x : RawName) (rest : List RawName)
      → faulty fault kinds (x ∷ rest) ≡ when (has_fault fault kinds x.word) x ++ faulty fault kinds rest
  name_opens x rest = when_opens (has_fault fault kinds x.word) x (faulty fault kinds rest)

  option_opens : (o : Option RawName) (rest : List RawName)
      → faulty fault kinds (cons_option o rest) ≡ faulty fault kinds (one_or_none o) ++ faulty fault kinds rest
  option_opens None rest = refl
  option_opens (Some x) rest =
      when_opens (has_fault fault kinds x.word) x (faulty fault kinds rest)

  pub target_opens : (g : RawGate) (rest : List RawGate)
      → faulty fault kinds (filter_map (λ (g : RawGate). target_name g.target) (g ∷ rest))
      ≡ faulty fault kinds (named_target g.target)
      ++ faulty fault kinds (filter_map (λ (g : RawGate). target_name g.target) rest)
  target_opens g rest =
      option_opens (target_name g.target) (filter_map (λ (g : RawGate). target_name g.target) rest)

  pub reg_opens : (r : RawReg) (rest : List RawReg)
      → faulty fault kinds (map (λ (r : RawReg). r.target) (r ∷ rest))
      ≡ when (has_fault fault kinds r.target.word) r.target
      ++ faulty fault kinds (map (λ (r : RawReg). r.target) rest)
  reg_opens r rest = name_opens r.target (map (λ (r : RawReg). r.target) rest)

  pub pin_opens : (p : RawPin) (rest : List RawPin)
      → faulty fault kinds (filter_map pin_name (p ∷ rest))
      ≡ faulty fault kinds (named_pin p) ++ faulty fault kinds (filter_map pin_name rest)
  pin_opens p rest = option_opens (pin_name p) (filter_map pin_name rest)

  pub data_opens : (r : RawReg) (rest : List RawReg)
      → faulty fault kinds (filter_map (λ (r : RawReg). pin_name r.wire) (r ∷ rest))
      ≡ faulty fault kinds (named_pin r.wire)
      ++ faulty fault kinds (filter_map (λ (r : RawReg). pin_name r.wire) rest)
  data_opens r rest = option_opens (pin_name r.wire) (filter_map (λ (r : RawReg). pin_name r.wire) rest)

  pub faulty_both : (xs ys : List RawName)
      → faulty fault kinds (xs ++ ys) ≡ faulty fault kinds xs ++ faulty fault kinds ys
  faulty_both [] ys = refl
  faulty_both (x ∷ xs) ys = go (has_fault fault kinds x.word) (faulty_both xs ys)
    where
      go : (b : Bool) → faulty fault kinds (xs ++ ys) ≡ faulty fault kinds xs ++ faulty fault kinds ys
          → cond b (x ∷ faulty fault kinds (xs ++ ys)) (faulty fault kinds (xs ++ ys))
          ≡ cond b (x ∷ faulty fault kinds xs) (faulty fault kinds xs) ++ faulty fault kinds ys
      go true e = ap (λ ns. x ∷ ns) e
      go false e = e

  pub gate_opens : (g : RawGate) (rest : List RawGate)
      → faulty fault kinds (flat_map (λ (g : RawGate). filter_map pin_name g.pins) (g ∷ rest))
      ≡ faulty fault kinds (filter_map pin_name g.pins)
      ++ faulty fault kinds (flat_map (λ (g : RawGate). filter_map pin_name g.pins) rest)
  gate_opens g rest =
      faulty_both (filter_map pin_name g.pins) (flat_map (λ (g : RawGate). filter_map pin_name g.pins) rest)
