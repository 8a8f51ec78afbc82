-- The canonical text reads back.
use Rattle.std.proofs.Common.{◌≡◌, ℕ, ◌≤◌, List, [], length, Bool, true, Some, Ok, refl, sym, ap, subst, ◌∙◌}
use Rattle.pbs_ast.specs.declared.syntax.Spec.{Spec}
use Rattle.pbs_text.specs.declared.token.Token.{Token}
use Rattle.pbs_text.specs.Grammar.{TextPhrase, OfVersion, text_tokens}
use Rattle.pbs_text.specs.Trees.{text_spec}
use Rattle.pbs_text.specs.places.Places.{Start, Whole}
use Rattle.pbs_text.specs.places.Steps.{walk}
use Rattle.pbs_text.specs.Refusals.{IsRead, Says}
use Rattle.pbs_text.specs.Lexing.{tokens}
use Rattle.pbs_text.specs.Answers.{StandsFor}
use Rattle.pbs_ast.specs.Bare.{bare}
use Rattle.pbs_grammar.proofs.Phrases.{walk-text}
use Rattle.pbs_grammar.proofs.Exact.{reading_says, reading_is}
use Rattle.pbs_print.specs.Canonical.{canonical}
use Rattle.pbs_print.specs.Written.{IsWritten, ReadsBack, of_version_2}
use Rattle.pbs_grammar.proofs.Nesting.{Shallow, text_shallow, shallow_text}
use Rattle.pbs_print.proofs.TextPieces.{text, placed, lex-text, Stands, stands, flat_shallow}
use Rattle.pbs_lex.proofs.Found.{tokens_found}
use Rattle.pbs_print.proofs.Proper.{Proper, are_proper}
use Rattle.pbs_print.proofs.LinePieces.{spec_pieces, text-spec, SpecIs, spec-reads, spec-flat}
use Rattle.pbs_print.proofs.LinesRead.{spec_is_read}
use Rattle.pbs_print.proofs.LinePhrases.{finds_spec}
use Rattle.pbs_print.proofs.SecondVersion.{spec_second}
use Rattle.pbs_print.proofs.Plain.{bare-plain, canonical-bare}

-- what is written can be written so
written_is : (text : List ℕ) (found : List Token) (phrase : TextPhrase) → tokens text ≡ Ok found → IsRead found phrase
    → (two : Bool) × SpecIs two (text_spec text phrase)
written_is text found (OfVersion two p) e is =
    let s = text_shallow (length text) found (OfVersion two p)
    (reading_is (length text) found (Ok (OfVersion two p)) is) in
    let proper = are_proper text found [] s (tokens_found text found e) in
    (two, spec_is_read two text p (subst (Proper text []) (sym is.text) proper))

-- tokens that are a shallow text are read as it
shallow_is_read : (end : ℕ) (ts : List Token) (w : TextPhrase) → text_tokens w ≡ ts → Shallow [] ts → IsRead ts w
shallow_is_read end ts w e s =
    let walked : walk Start ts ≡ Some (Whole w) = ap (walk Start) (sym e) ∙ walk-text w in
    subst (Says end ts) (shallow_text end ts w walked s) (reading_says end ts)

reads_back : (two : Bool) (spec : Spec) → SpecIs two spec → length (canonical spec) ≤ 1048576 → ReadsBack spec
reads_back two spec is short =
    let bytes : List ℕ = canonical spec in
    let ts : List Token = placed 0 (spec_pieces spec) in
    let same : text (spec_pieces spec) ≡ bytes = text-spec spec in
    let readable = spec-reads two spec is in
    let found : tokens bytes ≡ Ok ts = ap tokens (sym same) ∙ lex-text (spec_pieces spec) 0 readable in
    let there : Stands bytes (spec_pieces spec) ts = stands bytes (spec_pieces spec) 0 readable (sym same) in
    let x = finds_spec two bytes spec is ts there in
    let w : TextPhrase = OfVersion two x.phrase in
    let shallow = flat_shallow bytes (spec_pieces spec) ts [] there (spec-flat two spec is) in (
      text_spec bytes w,
      record {
        short = short;
        found = ts;
        found_is = found;
        phrase = w;
        is_read = shallow_is_read (length bytes) ts w x.tokens_are shallow;
        spec_is = refl;
      },
      x.same,
    )

pub written_reads_back : (spec : Spec) → IsWritten spec → length (canonical spec) ≤ 1048576 → ReadsBack spec
written_reads_back spec w short =
    let x = written_is w.text w.found w.phrase w.found_is w.is_read in
    reads_back x.0 spec (subst (SpecIs x.0) (sym w.spec_is) x.1) short

-- what the reader gives is written
pub read_reads_back : (bytes : List ℕ) (spec : Spec) → StandsFor bytes (bare spec) → length (canonical spec) ≤ 1048576
    → ReadsBack spec
read_reads_back bytes spec s short =
    let w : IsWritten (bare spec) = record {
      text = bytes;
      found = s.found;
      found_is = s.found_is;
      phrase = s.phrase;
      is_read = s.is_read;
      spec_is = s.spec_is;
    } in
    let same : canonical (bare spec) ≡ canonical spec = canonical-bare spec in
    let x = written_reads_back (bare spec) w (subst (λ t. length t ≤ 1048576) (sym same) short) in
    (x.0, subst (λ t. StandsFor t x.0) same x.1, x.2 ∙ bare-plain spec)

-- and can be written in version 2
pub second_reads_back : (bytes : List ℕ) (spec : Spec) → StandsFor bytes (bare spec)
    → length (canonical (of_version_2 spec)) ≤ 1048576 → ReadsBack (of_version_2 spec)
second_reads_back bytes spec s short =
    let next : Spec = of_version_2 spec in
    let x = written_is bytes s.found s.phrase s.found_is s.is_read in
    let is : SpecIs true (bare next) = spec_second x.0 (bare spec) (subst (SpecIs x.0) (sym s.spec_is) x.1) in
    let same : canonical (bare next) ≡ canonical next = canonical-bare next in
    let y = reads_back true (bare next) is (subst (λ t. length t ≤ 1048576) (sym same) short) in
    (y.0, subst (λ t. StandsFor t y.0) same y.1, y.2 ∙ bare-plain next)
