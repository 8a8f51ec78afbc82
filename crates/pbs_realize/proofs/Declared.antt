-- The inputs, actions and levels that a text declares have words for names.
use Rattle.std.proofs.Common.{◌≡◌, ℕ, zero, suc, ◌+◌, ◌<◌, List, [], ◌∷◌, ◌++◌, Bool, true, refl, sym, subst, ◌∙◌}
use Rattle.std.proofs.Common.{arith, length-append, nat_eq}
use Rattle.std.specs.Prelude.{codes, decimal}
use Rattle.std.proofs.lemmas.Fmt.{decimal_digit}
use Rattle.std.proofs.lemmas.List.Folds.{list_all-append}
use Rattle.std.proofs.lemmas.Bool.Decides.{nat_tests}
use Rattle.pbs_ast.specs.declared.syntax.Decl.{Decl}
use Rattle.pbs_ast.specs.declared.syntax.Level.{Level}
use Rattle.pbs_ast.specs.declared.syntax.Spec.{Spec}
use Rattle.pbs_text.specs.declared.token.Token.{Token}
use Rattle.pbs_text.specs.Grammar.{token, OneBit, TwoBits, MoreBits, InputPhrase, OneWire, Bus, InputsPhrase}
use Rattle.pbs_text.specs.Grammar.{OneInput, MoreInputs, NamesPhrase, OneName, MoreNames, DeclPhrase, InputDecl}
use Rattle.pbs_text.specs.Grammar.{ActionDecl, LevelDecl, ProdDecl, DeclsPhrase, NoDecls, MoreDecls, input_tokens}
use Rattle.pbs_text.specs.Grammar.{inputs_tokens, names_tokens, decl_tokens, decls_tokens, head_tokens, expr_tokens}
use Rattle.pbs_text.specs.Grammar.{text_tokens, TextPhrase, OfVersion}
use Rattle.pbs_text.specs.Trees.{word_at, declared, input_of, inputs_of, names_of, sets_of, Declared, with_decl}
use Rattle.pbs_text.specs.Trees.{declared_by}
use Rattle.pbs_text.specs.Trees.{text_spec}
use Rattle.pbs_text.specs.Lexing.{is_word_byte}
use Rattle.pbs_text.specs.Answers.{StandsFor}
use Rattle.pbs_names.specs.Naming.{bit_name, bit_names, input_names, action_names, level_names}
use Rattle.pbs_realize.specs.inner.NameWords.{begins_word, IsWord, AreWords}
use Rattle.pbs_lex.proofs.Found.{pick, word_byte, FoundAs, AreFound, found_parts, tokens_found}
use Rattle.pbs_realize.proofs.Lists.{Each, each-append, each_at}
use Rattle.pbs_text.specs.declared.token.TokenKind.TheVariants as kind
use Rattle.pbs_names.specs.Naming as naming

-- ---- declarations

abbrev InputIs : Decl → Type 0
InputIs d = IsWord 64 d.name × (d.width < 9)

abbrev ActionIs : Decl → Type 0
ActionIs d = IsWord 64 d.name

abbrev LevelIs : Level → Type 0
LevelIs l = IsWord 64 l.name

named : (w : List ℕ) → FoundAs w kind.Name → IsWord 64 w
named [] h = absurd h
named (b ∷ w) h = record {
  begins = h.0;
  bytes = rw (word_byte b h.0) h.1;
  short = let few = h.2 in omega arith;
}

input_found : (two : Bool) (bytes : List ℕ) (i : InputPhrase two) → AreFound bytes (input_tokens i)
    → InputIs (input_of bytes i)
input_found two bytes (OneWire at) h = (named (word_at bytes at) h.0, omega arith)
input_found two bytes (Bus second at c OneBit to) h = (named (word_at bytes at) h.0, omega arith)
input_found two bytes (Bus second at c TwoBits to) h = (named (word_at bytes at) h.0, omega arith)
input_found two bytes (Bus second at c (MoreBits n) to) h = (named (word_at bytes at) h.0, h.1.1.0.1)

inputs_found : (two : Bool) (bytes : List ℕ) (is : InputsPhrase two) → AreFound bytes (inputs_tokens is)
    → Each InputIs (inputs_of bytes is)
inputs_found two bytes (OneInput i) h = (input_found two bytes i h, tt)
inputs_found two bytes (MoreInputs is at i) h =
    let parts = found_parts bytes (inputs_tokens is) (token kind.Comma at ∷ input_tokens i) h in
    each-append InputIs (inputs_of bytes is) (input_of bytes i ∷ []) (inputs_found two bytes is parts.0)
    (input_found two bytes i parts.1.1, tt)

names_found : (bytes : List ℕ) (ns : NamesPhrase) → AreFound bytes (names_tokens ns) → Each ActionIs (names_of bytes ns)
names_found bytes (OneName at) h = (named (word_at bytes at) h.0, tt)
names_found bytes (MoreNames ns c at) h =
    let parts = found_parts bytes (names_tokens ns) (token kind.Comma c ∷ token kind.Name at ∷ []) h in
    each-append ActionIs (names_of bytes ns) (declared bytes at 0 ∷ []) (names_found bytes ns parts.0)
    (named (word_at bytes at) parts.1.1.0, tt)

record AreDeclared (d : Declared) : Type 0 where
  inputs : Each InputIs d.inputs
  actions : Each ActionIs d.actions
  levels : Each LevelIs d.levels

decl_found : (two : Bool) (bytes : List ℕ) (d : DeclPhrase two) (x : Declared) → AreDeclared x
    → AreFound bytes (decl_tokens d) → AreDeclared (with_decl bytes x d)
decl_found two bytes (InputDecl at is e) x a h =
    let parts = found_parts bytes (inputs_tokens is) (token kind.Semicolon e ∷ []) h.1 in
    record {
      inputs = each-append InputIs x.inputs (inputs_of bytes is) a.inputs (inputs_found two bytes is parts.0);
      actions = a.actions;
      levels = a.levels;
    }
decl_found two bytes (ActionDecl at ns e) x a h =
    let parts = found_parts bytes (names_tokens ns) (token kind.Semicolon e ∷ []) h.1 in
    record {
      inputs = a.inputs;
      actions = each-append ActionIs x.actions (names_of bytes ns) a.actions (names_found bytes ns parts.0);
      levels = a.levels;
    }
decl_found two bytes (LevelDecl at n q b to o ss c) x a h =
    let level : Level = record { name = word_at bytes n; span = n; start = b; sets = sets_of bytes ss } in
    record {
      inputs = a.inputs;
      actions = a.actions;
      levels = each-append LevelIs x.levels (level ∷ []) a.levels (named (word_at bytes n) h.1.0, tt);
    }
decl_found two bytes (ProdDecl at n q e end) x a h =
    record { inputs = a.inputs; actions = a.actions; levels = a.levels }

decls_found : (two : Bool) (bytes : List ℕ) (ds : DeclsPhrase two) → AreFound bytes (decls_tokens ds)
    → AreDeclared (declared_by bytes ds)
decls_found two bytes NoDecls h = record { inputs = tt; actions = tt; levels = tt }
decls_found two bytes (MoreDecls ds d) h =
    let parts = found_parts bytes (decls_tokens ds) (decl_tokens d) h in
    decl_found two bytes d (declared_by bytes ds) (decls_found two bytes ds parts.0) parts.1

record DeclaresWords (spec : Spec) : Type 0 where
  inputs : Each InputIs spec.inputs
  actions : Each ActionIs spec.actions
  levels : Each LevelIs spec.levels

text_found : (bytes : List ℕ) (p : TextPhrase) (ts : List Token) → text_tokens p ≡ ts → AreFound bytes ts
    → DeclaresWords (text_spec bytes p)
text_found bytes (OfVersion two p) ts e h =
    let all = subst (AreFound bytes) (sym e) h in
    let main : List Token =
    token kind.MainWord p.main_at ∷ token kind.Equals p.equals_at ∷
    (expr_tokens p.expr ++ token kind.Semicolon p.end_at ∷ []) in
    let parts = found_parts bytes (head_tokens two p.spec_at p.version_at p.start_at) (decls_tokens p.decls ++ main)
    all in
    let decls = found_parts bytes (decls_tokens p.decls) main parts.1 in
    let d = decls_found two bytes p.decls decls.0 in
    record { inputs = d.inputs; actions = d.actions; levels = d.levels }

-- ---- the bits of buses

begins-append : (w v : List ℕ) → begins_word w ≡ true → begins_word (w ++ v) ≡ true
begins-append [] v h = absurd cc
begins-append (b ∷ w) v h = h

digit_byte : (k : ℕ) → k < 10 → is_word_byte (48 + k) ≡ true
digit_byte k h = grind (arith, nat_tests)

bit_word : (name : List ℕ) (k : ℕ) → k < 10 → IsWord 64 name → IsWord 66 (bit_name name k)
bit_word name k low w =
    let digit : decimal k ≡ (48 + k) ∷ [] = decimal_digit k low in
    subst (λ ds. IsWord 66 (name ++ (codes "_" ++ ds))) (sym digit) (record {
      begins = begins-append name (95 ∷ (48 + k) ∷ []) w.begins;
      bytes = list_all-append is_word_byte name (95 ∷ (48 + k) ∷ []) ∙ rw (w.bytes, digit_byte k low) refl;
      short = let len = length-append name (95 ∷ (48 + k) ∷ []) in let few = w.short in omega arith;
    })

bit_words : (name : List ℕ) (k n : ℕ) → k + n < 10 → IsWord 64 name → Each (IsWord 66) (bit_names name k n)
bit_words name k zero low w = tt
bit_words name k (suc n) low w =
    (bit_word name k (omega arith) w, bit_words name (k + 1) n (omega arith) w)

wider : (w : List ℕ) → IsWord 64 w → IsWord 66 w
wider w h = let few = h.short in record { begins = h.begins; bytes = h.bytes; short = omega arith }

input_words : (d : Decl) → InputIs d → Each (IsWord 66) (naming.inputs_of d)
input_words d h =
    pick (Each (IsWord 66)) (nat_eq d.width 0) (d.name ∷ []) (bit_names d.name 0 d.width) (wider d.name h.0, tt)
    (let low = h.1 in bit_words d.name 0 d.width (omega arith) h.0)

all_inputs : (ds : List Decl) → Each InputIs ds → Each (IsWord 66) (input_names ds)
all_inputs [] h = tt
all_inputs (d ∷ ds) h =
    each-append (IsWord 66) (naming.inputs_of d) (input_names ds) (input_words d h.0) (all_inputs ds h.1)

all_actions : (ds : List Decl) → Each ActionIs ds → Each (IsWord 64) (action_names ds)
all_actions [] h = tt
all_actions (d ∷ ds) h = (h.0, all_actions ds h.1)

all_levels : (ls : List Level) → Each LevelIs ls → Each (IsWord 64) (level_names ls)
all_levels [] h = tt
all_levels (l ∷ ls) h = (h.0, all_levels ls h.1)

words : (most : ℕ) (ws : List (List ℕ)) → Each (IsWord most) ws → AreWords most ws
words most ws h = record { each = λ n w at. each_at (IsWord most) ws n w h at }

declares : (text : List ℕ) (spec : Spec) → StandsFor text spec → DeclaresWords spec
declares text spec s =
    subst DeclaresWords (sym s.spec_is)
    (text_found text s.phrase s.found s.is_read.text (tokens_found text s.found s.found_is))

pub inputs_are_words : (text : List ℕ) (spec : Spec) → StandsFor text spec → AreWords 66 (input_names spec.inputs)
inputs_are_words text spec s = words 66 (input_names spec.inputs) (all_inputs spec.inputs (declares text spec s).inputs)

pub actions_are_words : (text : List ℕ) (spec : Spec) → StandsFor text spec → AreWords 64 (action_names spec.actions)
actions_are_words text spec s =
    words 64 (action_names spec.actions) (all_actions spec.actions (declares text spec s).actions)

pub levels_are_words : (text : List ℕ) (spec : Spec) → StandsFor text spec → AreWords 64 (level_names spec.levels)
levels_are_words text spec s = words 64 (level_names spec.levels) (all_levels spec.levels (declares text spec s).levels)
