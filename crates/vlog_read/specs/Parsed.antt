-- What the bytes of a netlist are parsed as.
use Rattle.std.specs.Prelude.{ℕ, ◌≡◌, List, Result, Ok, Err}
use Rattle.vlog_text.specs.declared.raw.RawNetlist.{RawNetlist}
use Rattle.vlog_text.specs.Grammar.{TextPhrase}
use Rattle.vlog_text.specs.Raw.{IsRaw}
use Rattle.vlog_text.specs.Reading.{IsRead}
use Rattle.vlog_text.specs.Trees.{raw_of}
use Rattle.vlog_text.specs.declared.fail.VlogFail.{VlogFail}
use Rattle.vlog_text.specs.declared.fail.VlogFail.TheVariants.{Refused, Memory}
use Rattle.vlog_parse.specs.Parsed.{IsUnreadable}

-- the text is read as a phrase, and this is the raw netlist that it stands for
pub record IsParsed (bytes : List ℕ) (raw : RawNetlist) : Type 0 where
  pub phrase : TextPhrase
  pub is_read : IsRead bytes phrase
  pub raw_is : raw ≡ raw_of bytes phrase
  pub is_raw : IsRaw raw

-- what is said of a text, unless memory ran out
abbrev pub Parses : List ℕ → Result RawNetlist VlogFail → Type 0
Parses bytes (Ok raw) = IsParsed bytes raw
Parses bytes (Err (Refused r)) = IsUnreadable bytes r
Parses bytes (Err Memory) = Unit {0}
