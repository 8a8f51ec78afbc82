-- Small specifications, their canonical texts, and what these read as: written out by hand, and computed.
use Rattle.std.proofs.Common.{◌≡◌, ℕ, List, [], ◌∷◌, ◌++◌, length, map, true, false, Ok, refl, sym, ap, ◌∙◌}
use Rattle.std.specs.Prelude.{codes}
use Rattle.std.specs.Fmt.{digits}
use Rattle.pbs_base.specs.declared.refusal.Span.{Span}
use Rattle.pbs_ast.specs.declared.syntax.Kind.{Kind}
use Rattle.pbs_ast.specs.declared.syntax.SpecTerm.{SpecTerm}
use Rattle.pbs_ast.specs.declared.syntax.Expr.{Expr}
use Rattle.pbs_ast.specs.declared.syntax.Spec.{Spec}
use Rattle.pbs_ast.specs.Bare.{no_place, expr}
use Rattle.pbs_text.specs.Grammar.{TwoNumeral, DigitNumeral, Negated, Bracketed, Named, OneUnit, MoreUnits, OneAll}
use Rattle.pbs_text.specs.Grammar.{OneSeq, MoreSeqs, OneItem, Plain, Counted, Terminal, Action, Call, Grouped}
use Rattle.pbs_text.specs.Grammar.{FullGroup, OneName, NoSets, MoreSets, ActionDecl, LevelDecl, NoDecls, MoreDecls}
use Rattle.pbs_text.specs.Grammar.{TextPhrase, OfVersion, text_tokens}
use Rattle.pbs_text.specs.Trees.{text_spec}
use Rattle.pbs_text.specs.places.Places.{Start}
use Rattle.pbs_text.specs.places.Reading.{read}
use Rattle.pbs_text.specs.Lexing.{tokens, lex}
use Rattle.pbs_print.specs.Canonical.{canonical}
use Rattle.pbs_print.proofs.JoinedPieces.{text-all, text-choice}
use Rattle.pbs_print.specs.Unspanned.{unspanned, unspanned_term, unspanned_kind, unspanned_expr, no_span}
use Rattle.pbs_ast.specs.declared.syntax.SpecTerm as term
use Rattle.pbs_ast.specs.declared.syntax.Kind as kind
use Rattle.pbs_print.proofs.TermPhrases as terms
use Rattle.pbs_print.proofs.ExprPhrases as exprs

-- the specification has this canonical text, and this is the text's phrase and stands for the specification
record ReadsAs (spec : Spec) (text : List ℕ) (phrase : TextPhrase) : Type 0 where
  text_is : canonical spec ≡ text
  tokens_are : tokens text ≡ Ok (text_tokens phrase)
  phrase_is : read (length text) Start (text_tokens phrase) ≡ Ok phrase
  same : unspanned (text_spec text phrase) ≡ unspanned spec

abbrev span : ℕ → ℕ → Span
span m n = record { start = m; end = n }

abbrev with_main : ℕ → Kind → Spec
with_main version e = record {
  version = version;
  inputs = [];
  actions = [];
  levels = [];
  prods = [];
  main = expr no_span e;
}

-- a list of items doesn't compute by itself
choice_apart : (items : List Expr) → unspanned_kind (kind.Choice items) ≡ kind.Choice (map unspanned_expr items)
choice_apart items = ap kind.Choice (exprs.unspanned-row items)

all_apart : (items : List SpecTerm) → unspanned_term (term.All items) ≡ term.All (map unspanned_term items)
all_apart items = ap term.All (terms.unspanned-row items)

abbrev names : Span → Span → List Expr
names a b = expr a (kind.Name (codes "a")) ∷ expr b (kind.Name (codes "b")) ∷ []

abbrev inputs : Span → Span → List SpecTerm
inputs a b = term.Name (codes "a") a ∷ term.Name (codes "b") b ∷ []

-- a repetition of a choice: spec 2; main = (a | b){2,3};
abbrev repeated_choice : Spec
repeated_choice = with_main 2 (kind.Repeat' no_place no_span (kind.Choice (names no_span no_span)) 2 3)

abbrev repeated_choice_phrase : TextPhrase
repeated_choice_phrase = OfVersion true (record {
  spec_at = span 0 4;
  version_at = span 5 6;
  start_at = span 6 7;
  decls = NoDecls;
  main_at = span 8 12;
  equals_at = span 13 14;
  expr = OneSeq (OneItem (Counted tt (Grouped (FullGroup (span 15 16)
      (MoreSeqs (OneSeq (OneItem (Plain (Call (span 16 17))))) (span 18 19) (OneItem (Plain (Call (span 20 21)))))
      (span 21 22))) (span 22 23) TwoNumeral (span 23 24) (span 24 25) (DigitNumeral 3) (span 25 26) (span 26 27)));
  end_at = span 27 28;
})

repeated_choice_reads : ReadsAs repeated_choice (codes "spec 2;\nmain = (a | b){2,3};\n") repeated_choice_phrase
unfolding lex digits
repeated_choice_reads = record {
  text_is = ap (λ t. codes "spec 2;\nmain = " ++ (((codes "(" ++ (t ++ codes ")")) ++ codes "{2,3}") ++ codes ";\n"))
      (text-choice (names no_span no_span));
  tokens_are = refl;
  phrase_is = refl;
  same = ap (λ k. with_main 2 (kind.Repeat' no_place no_span k 2 3))
      (choice_apart (names (span 16 17) (span 20 21)) ∙ sym (choice_apart (names no_span no_span)));
}

-- an `&` under `~`: spec 1; main = [~(a & b)];
abbrev negated_all : Spec
negated_all = with_main 1 (kind.Terminal (term.Not' no_place (term.All (inputs no_span no_span))))

abbrev negated_all_phrase : TextPhrase
negated_all_phrase = OfVersion false (record {
  spec_at = span 0 4;
  version_at = span 5 6;
  start_at = span 6 7;
  decls = NoDecls;
  main_at = span 8 12;
  equals_at = span 13 14;
  expr = OneSeq (OneItem (Plain (Terminal (span 15 16) (OneAll (OneUnit (Negated (span 16 17)
      (Bracketed (span 17 18)
      (OneAll (MoreUnits (OneUnit (Named (span 18 19))) (span 20 21) (Named (span 22 23)))) (span 23 24)))))
      (span 24 25))));
  end_at = span 25 26;
})

negated_all_reads : ReadsAs negated_all (codes "spec 1;\nmain = [~(a & b)];\n") negated_all_phrase
unfolding lex digits
negated_all_reads = record {
  text_is = ap (λ t. codes "spec 1;\nmain = " ++ ((codes "[" ++ ((codes "~(" ++ (t ++ codes ")")) ++ codes "]"))
      ++ codes ";\n"))
      (text-all (inputs no_span no_span));
  tokens_are = refl;
  phrase_is = refl;
  same = ap (λ t. with_main 1 (kind.Terminal (term.Not' no_place t)))
      (all_apart (inputs (span 18 19) (span 22 23)) ∙ sym (all_apart (inputs no_span no_span)));
}

-- a level: spec 1; action go; level busy = 0 { go: 1; } main = {go};
abbrev one_level : Spec
one_level = record {
  version = 1;
  inputs = [];
  actions = record { name = codes "go"; span = no_span; width = 0 } ∷ [];
  levels = record {
    name = codes "busy";
    span = no_span;
    start = false;
    sets = record { action = codes "go"; span = no_span; value = true } ∷ [];
  } ∷ [];
  prods = [];
  main = expr no_span (kind.Action (codes "go") no_span);
}

abbrev one_level_phrase : TextPhrase
one_level_phrase = OfVersion false (record {
  spec_at = span 0 4;
  version_at = span 5 6;
  start_at = span 6 7;
  decls = MoreDecls (MoreDecls NoDecls (ActionDecl (span 8 14) (OneName (span 15 17)) (span 17 18)))
      (LevelDecl (span 19 24) (span 25 29) (span 30 31) false (span 32 33) (span 34 35)
      (MoreSets NoSets (span 36 38) (span 38 39) true (span 40 41) (span 41 42)) (span 43 44));
  main_at = span 45 49;
  equals_at = span 50 51;
  expr = OneSeq (OneItem (Plain (Action (span 52 53) (span 53 55) (span 55 56))));
  end_at = span 56 57;
})

one_level_reads : ReadsAs one_level
    (codes "spec 1;\naction go;\nlevel busy = 0 { go: 1; }\nmain = {go};\n") one_level_phrase
unfolding lex digits
one_level_reads = record { text_is = refl; tokens_are = refl; phrase_is = refl; same = refl }
