-- What netlist a text elaborates to, and the refusals by rules 1 to 8.
use Rattle.std.specs.Prelude.{ℕ, ◌≤◌, ◌<◌, ◌≡◌, List, [], ◌∷◌, ◌++◌, length, Some, None, Ok, Err}
use Rattle.pbs_base.specs.declared.refusal.Span.{Span}
use Rattle.pbs_base.specs.declared.refusal.Refusal.{Refusal}
use Rattle.net_core.specs.Circuits.{Circuit}
use Rattle.vlog_text.specs.declared.token.Token.{Token}
use Rattle.vlog_text.specs.Lexing.{tokens}
use Rattle.vlog_text.specs.Grammar.{TextPhrase, IsText, Begins}
use Rattle.vlog_text.specs.Trees.{raw_of}
use Rattle.vlog_text.specs.Standing.{net_of}
use Rattle.vlog_text.specs.Refusing.{refusal, first_broken}

abbrev pub IsShortVerilog : List ℕ → Type 0
IsShortVerilog bytes = length bytes ≤ 67108864

-- the tokens break rule 3 at this span; the text has `end` bytes
pub data LeavesGrammar (end : ℕ) (ts : List Token) : Span → Type 0 where
  -- the first token that can't stand: no text begins with the tokens up to and including it
  AtToken : (taken rest : List Token) (t : Token) → ts ≡ taken ++ t ∷ rest → Begins taken → ¬ Begins (taken ++ t ∷ [])
      → LeavesGrammar end ts t.span
  -- all tokens begin some text, which isn't whole
  AtEnd : Begins ts → ((p : TextPhrase) → ¬ IsText ts p) → LeavesGrammar end ts (record { start = end; end = end })

-- the bytes are this text of the grammar
pub record IsRead (bytes : List ℕ) (p : TextPhrase) : Type 0 where
  pub short : IsShortVerilog bytes
  pub found : List Token
  pub found_is : tokens bytes ≡ Ok found
  pub text : IsText found p

-- the text elaborates to this netlist
pub record ElaboratesTo (bytes : List ℕ) (net : Circuit) : Type 0 where
  pub phrase : TextPhrase
  pub is_read : IsRead bytes phrase
  pub unbroken : first_broken (raw_of bytes phrase) ≡ None
  pub net_is : net ≡ net_of (raw_of bytes phrase)

-- this is the first rule that the text breaks, and its place
pub data IsRefusedVerilog (bytes : List ℕ) : Refusal → Type 0 where
  ByLength : 67108864 < length bytes → IsRefusedVerilog bytes (refusal 1 (record { start = 67108864; end = 67108865 }))
  ByToken : IsShortVerilog bytes → (at : Span) → tokens bytes ≡ Err at → IsRefusedVerilog bytes (refusal 2 at)
  ByGrammar : IsShortVerilog bytes → (found : List Token) → tokens bytes ≡ Ok found → (at : Span)
      → LeavesGrammar (length bytes) found at → IsRefusedVerilog bytes (refusal 3 at)
  ByNames : (p : TextPhrase) → IsRead bytes p → (r : Refusal) → first_broken (raw_of bytes p) ≡ Some r
      → IsRefusedVerilog bytes r
