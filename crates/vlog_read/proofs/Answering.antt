-- What the code answers of a text.
use Rattle.std.proofs.Common.{◌≡◌, ℕ, List, length, Result, Ok, Err, sym, ap, subst, ◌∙◌}
use Rattle.std.specs.Prelude.{IfOk, IfErr}
use Rattle.vlog_text.specs.declared.raw.RawNetlist.{RawNetlist}
use Rattle.vlog_text.specs.declared.token.Token.{Token}
use Rattle.vlog_text.specs.Lexing.{tokens}
use Rattle.vlog_text.specs.Raw.{IsRaw}
use Rattle.vlog_text.specs.Reading.{IsShortVerilog, IsRead}
use Rattle.vlog_text.specs.declared.fail.VlogFail.{VlogFail}
use Rattle.vlog_text.specs.declared.fail.VlogFail.TheVariants.{Refused, Memory}
use Rattle.vlog_text.specs.Grammar.{TextPhrase}
use Rattle.vlog_text.specs.Trees.{raw_of}
use Rattle.vlog_lex.specs.Lexed.{StopsLexing}
use Rattle.vlog_parse.specs.Parsed.{IsUnreadable, ByToken, ByGrammar, IsReadAs, StopsReading}
use Rattle.vlog_read.specs.Parsed.{Parses}

-- what the bytes are read as is a raw netlist
abbrev pub ReadsRaw : List ℕ → Type 0
ReadsRaw bytes = (p : TextPhrase) → IsRead bytes p → IsRaw (raw_of bytes p)

pub stopped_lexing : (bytes : List ℕ) (e : VlogFail) → IsShortVerilog bytes → StopsLexing bytes e
    → Parses bytes (Err e)
stopped_lexing bytes Memory short h = tt
stopped_lexing bytes (Refused r) short h = subst (IsUnreadable bytes) (sym h.1) (ByToken short h.0 h.2)

found_all : (bytes : List ℕ) (ts : List Token) (r : Result RawNetlist VlogFail) → ReadsRaw bytes
    → IsShortVerilog bytes → tokens bytes ≡ Ok ts
    → IfOk r (λ raw. IsReadAs bytes ts raw) → IfErr r (λ e. StopsReading (length bytes) ts e) → Parses bytes r
found_all bytes ts (Ok raw) law short lexed h k =
    let read : IsRead bytes h.phrase = record { short = short; found = ts; found_is = lexed; text = h.text } in
    record {
      phrase = h.phrase;
      is_read = read;
      raw_is = h.raw_is;
      is_raw = subst IsRaw (sym h.raw_is) (law h.phrase read);
    }
found_all bytes ts (Err Memory) law short lexed h k = tt
found_all bytes ts (Err (Refused r)) law short lexed h k =
    subst (IsUnreadable bytes) (sym k.1) (ByGrammar short ts lexed k.0 k.2)

pub answered : (bytes : List ℕ) (ts us : List Token) (end : ℕ) (r : Result RawNetlist VlogFail) → ReadsRaw bytes
    → IsShortVerilog bytes → tokens bytes ≡ Ok ts → us ≡ ts → end ≡ length bytes → IfOk r (λ raw. IsReadAs bytes us raw)
    → IfErr r (λ e. StopsReading end us e) → Parses bytes r
answered bytes ts us end r law short lexed same e h k =
    found_all bytes us r law short (lexed ∙ ap Ok (sym same)) h
    (subst (λ n. IfErr r (λ x. StopsReading n us x)) e k)
