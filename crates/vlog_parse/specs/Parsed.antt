-- What the bytes of a netlist are parsed as.
use Rattle.std.specs.Prelude.{ℕ, ◌≡◌, ◌<◌, List, length, Ok, Err}
use Rattle.pbs_base.specs.declared.refusal.Span.{Span}
use Rattle.pbs_base.specs.declared.refusal.Refusal.{Refusal}
use Rattle.vlog_text.specs.declared.raw.RawNetlist.{RawNetlist}
use Rattle.vlog_text.specs.declared.token.Token.{Token}
use Rattle.vlog_text.specs.Grammar.{TextPhrase, IsText}
use Rattle.vlog_text.specs.Lexing.{tokens}
use Rattle.vlog_text.specs.Reading.{IsShortVerilog, LeavesGrammar}
use Rattle.vlog_text.specs.Refusing.{refusal}
use Rattle.vlog_text.specs.Trees.{raw_of}
use Rattle.vlog_text.specs.declared.fail.VlogFail.{VlogFail}
use Rattle.vlog_text.specs.declared.fail.VlogFail.TheVariants.{Refused, Memory}

-- this is the first rule of 1 to 3 that the text breaks, and its place
pub data IsUnreadable (bytes : List ℕ) : Refusal → Type 0 where
  ByLength : 67108864 < length bytes → IsUnreadable bytes (refusal 1 (record { start = 67108864; end = 67108865 }))
  ByToken : IsShortVerilog bytes → (at : Span) → tokens bytes ≡ Err at → IsUnreadable bytes (refusal 2 at)
  ByGrammar : IsShortVerilog bytes → (found : List Token) → tokens bytes ≡ Ok found → (at : Span)
      → LeavesGrammar (length bytes) found at → IsUnreadable bytes (refusal 3 at)

-- the tokens are read as a phrase, and this is the raw netlist that it stands for
pub record IsReadAs (bytes : List ℕ) (ts : List Token) (raw : RawNetlist) : Type 0 where
  pub phrase : TextPhrase
  pub text : IsText ts phrase
  pub raw_is : raw ≡ raw_of bytes phrase

-- rule 3 is broken first at this span, unless memory ran out
abbrev pub StopsReading : ℕ → List Token → VlogFail → Type 0
StopsReading end ts Memory = Unit {0}
StopsReading end ts (Refused r) = (at : Span) × (r ≡ refusal 3 at) × LeavesGrammar end ts at
