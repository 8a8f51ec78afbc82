-- A text has one answer.
use Rattle.std.proofs.Common.{◌≡◌, ℕ, List, Some, None, Result, Ok, Err, sym, ap, subst, ◌∙◌}
use Rattle.pbs_base.specs.declared.refusal.Refusal.{Refusal}
use Rattle.net_core.specs.Circuits.{Circuit}
use Rattle.vlog_text.specs.declared.raw.RawNetlist.{RawNetlist}
use Rattle.vlog_text.specs.Grammar.{TextPhrase}
use Rattle.vlog_text.specs.Reading as reading
use Rattle.vlog_text.specs.Reading.{IsRead, IsRefusedVerilog, ElaboratesTo}
use Rattle.vlog_text.specs.Refusing.{first_broken}
use Rattle.vlog_text.specs.Standing.{net_of}
use Rattle.vlog_text.specs.Trees.{raw_of}
use Rattle.vlog_parse.specs.Parsed.{ByLength, ByToken, ByGrammar, IsUnreadable}
use Rattle.vlog_read.specs.Parsed.{IsParsed, Parses}
use Rattle.vlog_elaborate.specs.Elaborated.{Elaborates}
use Rattle.vlog_text.specs.declared.fail.VlogFail.{VlogFail}
use Rattle.vlog_text.specs.declared.fail.VlogFail.TheVariants as fail
use Rattle.vlog_read.specs.Read.{Reads}

-- one way of parsing
pub record ParsesOnce (bytes : List ℕ) : Type 0 where
  pub phrase : (p q : TextPhrase) → IsRead bytes p → IsRead bytes q → p ≡ q
  pub refusal : (r s : Refusal) → IsUnreadable bytes r → IsUnreadable bytes s → r ≡ s
  pub apart : (p : TextPhrase) (r : Refusal) → IsRead bytes p → IsUnreadable bytes r → ⊥

pub one_net : (bytes : List ℕ) (a b : Circuit) → ParsesOnce bytes → ElaboratesTo bytes a → ElaboratesTo bytes b → a ≡ b
one_net bytes a b once s t =
    s.net_is ∙ (ap (λ p. net_of (raw_of bytes p)) (once.phrase s.phrase t.phrase s.is_read t.is_read) ∙ sym t.net_is)

-- a refusal by the names of what was parsed, or by an earlier rule
pub data Refusals (bytes : List ℕ) (r : Refusal) : Type 0 where
  Early : IsUnreadable bytes r → Refusals bytes r
  Late : (p : TextPhrase) → IsRead bytes p → first_broken (raw_of bytes p) ≡ Some r → Refusals bytes r

refusals_of : (bytes : List ℕ) (r : Refusal) → IsRefusedVerilog bytes r → Refusals bytes r
refusals_of bytes _ (reading.ByLength long) = Early (ByLength long)
refusals_of bytes _ (reading.ByToken short at is) = Early (ByToken short at is)
refusals_of bytes _ (reading.ByGrammar short found is at leaves) = Early (ByGrammar short found is at leaves)
refusals_of bytes _ (reading.ByNames p read r broken) = Late p read broken

early : (bytes : List ℕ) (r : Refusal) → IsUnreadable bytes r → IsRefusedVerilog bytes r
early bytes _ (ByLength long) = reading.ByLength long
early bytes _ (ByToken short at is) = reading.ByToken short at is
early bytes _ (ByGrammar short found is at leaves) = reading.ByGrammar short found is at leaves

pub unparsed : (bytes : List ℕ) (e : VlogFail) → Parses bytes (Err e) → Reads bytes (Err e)
unparsed bytes (fail.Refused r) stops = early bytes r stops
unparsed bytes fail.Memory stops = tt

same_some : (r s : Refusal) → Some r ≡ Some s → r ≡ s
same_some r s e = cc

same_refusal : (bytes : List ℕ) (r s : Refusal) → ParsesOnce bytes → Refusals bytes r → Refusals bytes s → r ≡ s
same_refusal bytes r s once (Early a) (Early b) = once.refusal r s a b
same_refusal bytes r s once (Early a) (Late p read broken) = absurd (once.apart p r read a)
same_refusal bytes r s once (Late p read broken) (Early b) = absurd (once.apart p s read b)
same_refusal bytes r s once (Late p read broken) (Late q read2 broken2) =
    same_some r s
    (sym broken ∙ (ap (λ t. first_broken (raw_of bytes t)) (once.phrase p q read read2) ∙ broken2))

pub one_refusal : (bytes : List ℕ) (r s : Refusal) → ParsesOnce bytes → IsRefusedVerilog bytes r
    → IsRefusedVerilog bytes s
    → r ≡ s
one_refusal bytes r s once a b = same_refusal bytes r s once (refusals_of bytes r a) (refusals_of bytes s b)

no_both : (r : Refusal) → None ≡ Some r → ⊥
no_both r e = cc

never_both : (bytes : List ℕ) (a : Circuit) (r : Refusal) → ParsesOnce bytes → ElaboratesTo bytes a → Refusals bytes r
    → ⊥
never_both bytes a r once s (Early b) = once.apart s.phrase r s.is_read b
never_both bytes a r once s (Late p read broken) =
    no_both r
    (sym s.unbroken ∙ (ap (λ t. first_broken (raw_of bytes t)) (once.phrase s.phrase p s.is_read read) ∙ broken))

pub apart : (bytes : List ℕ) (a : Circuit) (r : Refusal) → ParsesOnce bytes → ElaboratesTo bytes a
    → IsRefusedVerilog bytes r
    → ⊥
apart bytes a r once s b = never_both bytes a r once s (refusals_of bytes r b)

-- ---- what was parsed is put together

pub assembled : (bytes : List ℕ) (raw : RawNetlist) (answer : Result Circuit VlogFail) → IsParsed bytes raw
    → Elaborates raw answer → Reads bytes answer
assembled bytes raw (Ok net) parsed is = record {
  phrase = parsed.phrase;
  is_read = parsed.is_read;
  unbroken = subst (λ x. first_broken x ≡ None) parsed.raw_is is.0;
  net_is = is.1 ∙ ap net_of parsed.raw_is;
}
assembled bytes raw (Err (fail.Refused r)) parsed is =
    reading.ByNames parsed.phrase parsed.is_read r (subst (λ x. first_broken x ≡ Some r) parsed.raw_is is)
assembled bytes raw (Err fail.Memory) parsed is = tt
