-- The phrase of a specification's canonical text.
use Rattle.std.proofs.Common.{◌≡◌, ℕ, zero, suc, ◌<◌, List, [], ◌∷◌, ◌++◌, map, Bool, true, false, nat_lt, refl, sym}
use Rattle.std.proofs.Common.{ap, subst, ◌∙◌, append_assoc, append-nil, arith}
use Rattle.std.specs.Prelude.{◌==◌, decimal}
use Rattle.std.proofs.lemmas.Bool.Decides.{nat_tests}
use Rattle.pbs_ast.specs.declared.syntax.Kind.{Kind}
use Rattle.pbs_ast.specs.declared.syntax.Decl.{Decl}
use Rattle.pbs_ast.specs.declared.syntax.Set.{Set}
use Rattle.pbs_ast.specs.declared.syntax.Level.{Level}
use Rattle.pbs_ast.specs.declared.syntax.Prod.{Prod}
use Rattle.pbs_ast.specs.declared.syntax.Spec.{Spec}
use Rattle.pbs_text.specs.declared.token.Token.{Token}
use Rattle.pbs_text.specs.declared.token.TokenKind.{TokenKind}
use Rattle.pbs_ast.specs.Bare.{expr}
use Rattle.pbs_text.specs.Grammar.{token, bit_kind, version_kind, numeral_kind, width_kind, Width, OneBit, TwoBits}
use Rattle.pbs_text.specs.Grammar.{MoreBits, InputPhrase, OneWire, Bus, InputsPhrase, OneInput, MoreInputs, NamesPhrase}
use Rattle.pbs_text.specs.Grammar.{OneName, MoreNames, SetsPhrase, NoSets, MoreSets, DeclPhrase, InputDecl, ActionDecl}
use Rattle.pbs_text.specs.Grammar.{LevelDecl, ProdDecl, DeclsPhrase, NoDecls, MoreDecls, SpecPhrase, input_tokens}
use Rattle.pbs_text.specs.Grammar.{inputs_tokens, names_tokens, sets_tokens, decl_tokens, decls_tokens, spec_tokens}
use Rattle.pbs_text.specs.Grammar.{expr_tokens}
use Rattle.pbs_text.specs.Trees.{width_value, word_at, declared, input_of, inputs_of, names_of, sets_of, declared_by}
use Rattle.pbs_text.specs.Trees.{version_number, spec_of}
use Rattle.pbs_text.specs.Lexing.{digit_kind, number_kind}
use Rattle.pbs_print.specs.Unspanned.{no_span, unspanned_kind, unspanned_decl, unspanned_set, unspanned_level}
use Rattle.pbs_print.specs.Unspanned.{unspanned_prod, unspanned}
use Rattle.pbs_print.proofs.TextPieces.{Piece, Blank, Sign, Word, Stands, Written, one_digit}
use Rattle.pbs_print.proofs.TermPieces.{bit_pieces}
use Rattle.pbs_ast.proofs.Items.{Each}
use Rattle.pbs_print.proofs.TermPhrases.{map-end, bit-token}
use Rattle.pbs_print.proofs.ExprPieces.{kind_pieces}
use Rattle.pbs_print.proofs.ExprPhrases.{finds_expr}
use Rattle.pbs_print.proofs.LinePieces.{end_pieces, width_pieces, decl_pieces, more_decls, decls_pieces, input_word}
use Rattle.pbs_print.proofs.LinePieces.{action_word, set_pieces, sets_pieces, close_pieces, level_pieces, levels_pieces}
use Rattle.pbs_print.proofs.LinePieces.{prod_pieces, prods_pieces, main_pieces, block_pieces, spec_pieces, WidthIs}
use Rattle.pbs_print.proofs.LinePieces.{DeclIs, ActionIs, ProdIs, SpecIs}
use Rattle.pbs_lex.proofs.Found.{chosen}
use Rattle.pbs_text.specs.declared.token.TokenKind.TheVariants as kind

-- ---- inputs

-- the width that a number is
record WidthOf (n : ℕ) (w : Written n) : Type 0 where
  width : Width
  kind_is : numeral_kind w.numeral ≡ width_kind width
  value_is : width_value width ≡ n

-- a width of this kind has this value
abbrev HasWidth : ℕ → TokenKind → Type 0
HasWidth d k = (w : Width) × (k ≡ width_kind w) × (width_value w ≡ d)

digit_width : (d : ℕ) → 0 < d → d < 9 → HasWidth d (digit_kind d)
digit_width d some few =
    chosen (HasWidth d) (d == 0) _ _ (λ e. absurd (not_none e))
    (λ _. chosen (HasWidth d) (d == 1) _ _ (λ e. (OneBit, refl, same 1 e))
    (λ _. chosen (HasWidth d) (d == 2) _ _ (λ e. (TwoBits, refl, same 2 e))
    (λ _. chosen (HasWidth d) (nat_lt d 9) _ _ (λ _. (MoreBits d, refl, refl)) (λ e. absurd (not_many e)))))
  where
    same : (n : ℕ) → (d == n) ≡ true → n ≡ d
    same n e = grind (arith, nat_tests)

    not_none : (d == 0) ≡ true → ⊥
    not_none e = grind (arith, nat_tests)

    not_many : nat_lt d 9 ≡ false → ⊥
    not_many e = grind (arith, nat_tests)

width_of : (n : ℕ) → n < 8 → (w : Written (suc n)) → WidthOf (suc n) w
width_of n h w =
    let x = digit_width (suc n) (omega arith) (omega arith) in
    record { width = x.0; kind_is = w.kind_is ∙ (one_digit (suc n) (omega arith) ∙ x.1); value_is = x.2 }

abbrev plain : List ℕ → ℕ → Decl
plain name width = record { name = name; span = no_span; width = width }

record InputFound (two : Bool) (bytes : List ℕ) (d : Decl) (z : List Piece) (ts : List Token) : Type 0 where
  phrase : InputPhrase two
  rest : List Token
  tokens_are : ts ≡ input_tokens phrase ++ rest
  behind : Stands bytes z rest
  same : unspanned_decl (input_of bytes phrase) ≡ d

finds_input : (two : Bool) (bytes : List ℕ) (name : List ℕ) (width : ℕ) → WidthIs two width → (z : List Piece)
    (ts : List Token) → Stands bytes (Word name kind.Name ∷ (width_pieces width ++ z)) ts
    → InputFound two bytes (plain name width) z ts
finds_input two bytes name zero is z ts h =
    record { phrase = OneWire h.0; rest = h.1; tokens_are = h.2; behind = h.4; same = ap (λ w. plain w 0) h.3 }
finds_input two bytes name (suc n) is z ts h =
    let c = h.4 in
    let d = c.3 in
    let w = width_of n is.1 d.2 in
    record {
      phrase = Bus is.0 h.0 c.0 w.width d.0;
      rest = d.1;
      tokens_are = h.2 ∙ ap (λ l. token kind.Name h.0 ∷ l) (c.2 ∙ ap (λ l. token kind.Colon c.0 ∷ l)
          (d.3 ∙ ap (λ k. token k d.0 ∷ d.1) w.kind_is));
      behind = d.4;
      same = ap (λ x. plain x (width_value w.width)) h.3 ∙ ap (λ x. plain name x) w.value_is;
    }

record InputsMore (two : Bool) (bytes : List ℕ) (a : InputsPhrase two) (us : List Decl) (z : List Piece)
    (ts : List Token) : Type 0 where
  phrase : InputsPhrase two
  rest : List Token
  tokens_are : inputs_tokens a ++ ts ≡ inputs_tokens phrase ++ rest
  behind : Stands bytes z rest
  same : map unspanned_decl (inputs_of bytes phrase) ≡ map unspanned_decl (inputs_of bytes a) ++ us

more_inputs : (two : Bool) (bytes : List ℕ) (ds : List Decl) → Each (DeclIs two) ds → (z : List Piece)
    (a : InputsPhrase two) (ts : List Token) → Stands bytes (more_decls ds ++ z) ts
    → InputsMore two bytes a (map unspanned_decl ds) z ts
more_inputs two bytes [] is z a ts h =
    record {
      phrase = a;
      rest = ts;
      tokens_are = refl;
      behind = h;
      same = sym (append-nil (map unspanned_decl (inputs_of bytes a)));
    }
more_inputs two bytes (d ∷ ds) is z a ts h =
    let x = finds_input two bytes d.name d.width is.0.1 (more_decls ds ++ z) h.1
    (subst (λ l. Stands bytes l h.1) (append_assoc (decl_pieces d) (more_decls ds) z) h.3) in
    let r = more_inputs two bytes ds is.1 z (MoreInputs a h.0 x.phrase) x.rest x.behind in
    record {
      phrase = r.phrase;
      rest = r.rest;
      tokens_are = ap (λ l. inputs_tokens a ++ l) (h.2 ∙ ap (λ l. token kind.Comma h.0 ∷ l) x.tokens_are)
          ∙ (sym (append_assoc (inputs_tokens a) (token kind.Comma h.0 ∷ input_tokens x.phrase) x.rest) ∙ r.tokens_are);
      behind = r.behind;
      same = r.same ∙ map-end unspanned_decl (inputs_of bytes a) (input_of bytes x.phrase) (plain d.name d.width)
          (map unspanned_decl ds) x.same;
    }

-- ---- names

record NamesMore (bytes : List ℕ) (a : NamesPhrase) (us : List Decl) (z : List Piece) (ts : List Token) : Type 0 where
  phrase : NamesPhrase
  rest : List Token
  tokens_are : names_tokens a ++ ts ≡ names_tokens phrase ++ rest
  behind : Stands bytes z rest
  same : map unspanned_decl (names_of bytes phrase) ≡ map unspanned_decl (names_of bytes a) ++ us

plain_name : (w name : List ℕ) (width : ℕ) → w ≡ name → width ≡ 0 → plain w 0 ≡ plain name width
plain_name w name width e f = ap (λ x. plain x 0) e ∙ ap (λ x. plain name x) (sym f)

-- a name has no width behind it
no_width : (bytes : List ℕ) (d : Decl) (z : List Piece) (ts : List Token) → d.width ≡ 0
    → Stands bytes (decl_pieces d ++ z) ts → Stands bytes (Word d.name kind.Name ∷ z) ts
no_width bytes d z ts e h = subst (λ n. Stands bytes (Word d.name kind.Name ∷ (width_pieces n ++ z)) ts) e h

more_names : (bytes : List ℕ) (ds : List Decl) → Each ActionIs ds → (z : List Piece) (a : NamesPhrase)
    (ts : List Token) → Stands bytes (more_decls ds ++ z) ts → NamesMore bytes a (map unspanned_decl ds) z ts
more_names bytes [] is z a ts h =
    record {
      phrase = a;
      rest = ts;
      tokens_are = refl;
      behind = h;
      same = sym (append-nil (map unspanned_decl (names_of bytes a)));
    }
more_names bytes (d ∷ ds) is z a ts h =
    let x = no_width bytes d (more_decls ds ++ z) h.1 is.0.1
    (subst (λ l. Stands bytes l h.1) (append_assoc (decl_pieces d) (more_decls ds) z) h.3) in
    let r = more_names bytes ds is.1 z (MoreNames a h.0 x.0) x.1 x.4 in
    record {
      phrase = r.phrase;
      rest = r.rest;
      tokens_are = ap (λ l. names_tokens a ++ l) (h.2 ∙ ap (λ l. token kind.Comma h.0 ∷ l) x.2)
          ∙ (sym (append_assoc (names_tokens a) (token kind.Comma h.0 ∷ token kind.Name x.0 ∷ []) x.1) ∙ r.tokens_are);
      behind = r.behind;
      same = r.same ∙ map-end unspanned_decl (names_of bytes a) (declared bytes x.0 0) (plain d.name d.width)
          (map unspanned_decl ds) (plain_name (word_at bytes x.0) d.name d.width x.3 is.0.1);
    }

-- ---- sets

record SetsMore (bytes : List ℕ) (a : SetsPhrase) (us : List Set) (z : List Piece) (ts : List Token) : Type 0 where
  phrase : SetsPhrase
  rest : List Token
  tokens_are : sets_tokens a ++ ts ≡ sets_tokens phrase ++ rest
  behind : Stands bytes z rest
  same : map unspanned_set (sets_of bytes phrase) ≡ map unspanned_set (sets_of bytes a) ++ us

more_sets : (bytes : List ℕ) (ss : List Set) (z : List Piece) (a : SetsPhrase) (ts : List Token)
    → Stands bytes (sets_pieces ss ++ z) ts → SetsMore bytes a (map unspanned_set ss) z ts
more_sets bytes [] z a ts h =
    record {
      phrase = a;
      rest = ts;
      tokens_are = refl;
      behind = h;
      same = sym (append-nil (map unspanned_set (sets_of bytes a)));
    }
more_sets bytes (s ∷ ss) z a ts h =
    let n = subst (λ l. Stands bytes l ts) (append_assoc (set_pieces s) (sets_pieces ss) z) h in
    let c = n.4 in
    let b = bit-token s.value bytes (Sign 59 kind.Semicolon ∷ (sets_pieces ss ++ z)) c.1
    (subst (λ l. Stands bytes l c.1) (append_assoc (bit_pieces s.value) (Sign 59 kind.Semicolon ∷ [])
    (sets_pieces ss ++ z)) c.3) in
    let e = b.3 in
    let r = more_sets bytes ss z (MoreSets a n.0 c.0 s.value b.0 e.0) e.1 e.3 in
    record {
      phrase = r.phrase;
      rest = r.rest;
      tokens_are = ap (λ l. sets_tokens a ++ l) (n.2 ∙ ap (λ l. token kind.Name n.0 ∷ l)
          (c.2 ∙ ap (λ l. token kind.Colon c.0 ∷ l) (b.2 ∙ ap (λ l. token (bit_kind s.value) b.0 ∷ l) e.2)))
          ∙ (sym (append_assoc (sets_tokens a) (token kind.Name n.0 ∷ token kind.Colon c.0 ∷
          token (bit_kind s.value) b.0 ∷ token kind.Semicolon e.0 ∷ []) e.1) ∙ r.tokens_are);
      behind = r.behind;
      same = r.same ∙ map-end unspanned_set (sets_of bytes a)
          (record { action = word_at bytes n.0; span = n.0; value = s.value }) (unspanned_set s) (map unspanned_set ss)
          (ap (λ w. record { action = w; span = no_span; value = s.value }) n.3);
    }

-- ---- declarations

-- some declarations behind others
record Adds (two : Bool) (bytes : List ℕ) (a : DeclsPhrase two) (inputs actions : List Decl) (levels : List Level)
    (prods : List Prod) (z : List Piece) (ts : List Token) : Type 0 where
  phrase : DeclsPhrase two
  rest : List Token
  tokens_are : decls_tokens a ++ ts ≡ decls_tokens phrase ++ rest
  behind : Stands bytes z rest
  inputs_are : map unspanned_decl (declared_by bytes phrase).inputs
      ≡ map unspanned_decl (declared_by bytes a).inputs ++ inputs
  actions_are : map unspanned_decl (declared_by bytes phrase).actions
      ≡ map unspanned_decl (declared_by bytes a).actions ++ actions
  levels_are : map unspanned_level (declared_by bytes phrase).levels
      ≡ map unspanned_level (declared_by bytes a).levels ++ levels
  prods_are : map unspanned_prod (declared_by bytes phrase).prods
      ≡ map unspanned_prod (declared_by bytes a).prods ++ prods

abbrev FindsDecls : Bool → List ℕ → List Piece → List Decl → List Decl → List Level → List Prod → Type 0
FindsDecls two bytes ps i a l p = (z : List Piece) (before : DeclsPhrase two) (ts : List Token)
    → Stands bytes (ps ++ z) ts → Adds two bytes before i a l p z ts

nothing : (two : Bool) (bytes : List ℕ) → FindsDecls two bytes [] [] [] [] []
nothing two bytes z before ts h =
    record {
      phrase = before;
      rest = ts;
      tokens_are = refl;
      behind = h;
      inputs_are = sym (append-nil _);
      actions_are = sym (append-nil _);
      levels_are = sym (append-nil _);
      prods_are = sym (append-nil _);
    }

joined : {A : Type 0} (x y z u v : List A) → z ≡ y ++ v → y ≡ x ++ u → z ≡ x ++ (u ++ v)
joined x y z u v e f = e ∙ (ap (λ l. l ++ v) f ∙ append_assoc x u v)

in_turn : (two : Bool) (bytes : List ℕ) (ps qs : List Piece) (i j a b : List Decl) (l m : List Level) (p q : List Prod)
    → FindsDecls two bytes ps i a l p → FindsDecls two bytes qs j b m q
    → FindsDecls two bytes (ps ++ qs) (i ++ j) (a ++ b) (l ++ m) (p ++ q)
in_turn two bytes ps qs i j a b l m p q f g z before ts h =
    let x = f (qs ++ z) before ts (subst (λ r. Stands bytes r ts) (append_assoc ps qs z) h) in
    let y = g z x.phrase x.rest x.behind in
    record {
      phrase = y.phrase;
      rest = y.rest;
      tokens_are = x.tokens_are ∙ y.tokens_are;
      behind = y.behind;
      inputs_are = joined _ _ _ i j y.inputs_are x.inputs_are;
      actions_are = joined _ _ _ a b y.actions_are x.actions_are;
      levels_are = joined _ _ _ l m y.levels_are x.levels_are;
      prods_are = joined _ _ _ p q y.prods_are x.prods_are;
    }

map-append : {A B : Type 0} (f : A → B) (xs ys : List A) (us : List B) → map f ys ≡ us
    → map f (xs ++ ys) ≡ map f xs ++ us
map-append f [] ys us e = e
map-append f (x ∷ xs) ys us e = ap (λ l. f x ∷ l) (map-append f xs ys us e)

-- one more declaration
one_more : {two : Bool} (before : DeclsPhrase two) (d : DeclPhrase two) (ts rest : List Token)
    → ts ≡ decl_tokens d ++ rest → decls_tokens before ++ ts ≡ decls_tokens (MoreDecls before d) ++ rest
one_more before d ts rest e = ap (λ l. decls_tokens before ++ l) e
    ∙ sym (append_assoc (decls_tokens before) (decl_tokens d) rest)

inputs_found : (two : Bool) (bytes : List ℕ) (ds : List Decl) → Each (DeclIs two) ds
    → FindsDecls two bytes (decls_pieces input_word ds) (map unspanned_decl ds) [] [] []
inputs_found two bytes [] is z before ts h = nothing two bytes z before ts h
inputs_found two bytes (d ∷ ds) is z before ts h =
    let behind : List Piece = (more_decls ds ++ end_pieces) ++ z in
    let x = finds_input two bytes d.name d.width is.0.1 behind h.1
    (subst (λ l. Stands bytes l h.1) (append_assoc (decl_pieces d) (more_decls ds ++ end_pieces) z) h.4) in
    let r = more_inputs two bytes ds is.1 (end_pieces ++ z) (OneInput x.phrase) x.rest
    (subst (λ l. Stands bytes l x.rest) (append_assoc (more_decls ds) end_pieces z) x.behind) in
    let e = r.behind in
    let all : map unspanned_decl (inputs_of bytes r.phrase) ≡ map unspanned_decl (d ∷ ds) =
    r.same ∙ ap (λ y. y ∷ map unspanned_decl ds) x.same in
    record {
      phrase = MoreDecls before (InputDecl h.0 r.phrase e.0);
      rest = e.1;
      tokens_are = one_more before (InputDecl h.0 r.phrase e.0) ts e.1
          (h.2 ∙ ap (λ l. token kind.InputWord h.0 ∷ l) (x.tokens_are ∙ (r.tokens_are
          ∙ (ap (λ l. inputs_tokens r.phrase ++ l) e.2
          ∙ sym (append_assoc (inputs_tokens r.phrase) (token kind.Semicolon e.0 ∷ []) e.1)))));
      behind = e.3;
      inputs_are = map-append unspanned_decl (declared_by bytes before).inputs (inputs_of bytes r.phrase) _ all;
      actions_are = sym (append-nil _);
      levels_are = sym (append-nil _);
      prods_are = sym (append-nil _);
    }

actions_found : (two : Bool) (bytes : List ℕ) (ds : List Decl) → Each ActionIs ds
    → FindsDecls two bytes (decls_pieces action_word ds) [] (map unspanned_decl ds) [] []
actions_found two bytes [] is z before ts h = nothing two bytes z before ts h
actions_found two bytes (d ∷ ds) is z before ts h =
    let behind : List Piece = (more_decls ds ++ end_pieces) ++ z in
    let x = no_width bytes d behind h.1 is.0.1
    (subst (λ l. Stands bytes l h.1) (append_assoc (decl_pieces d) (more_decls ds ++ end_pieces) z) h.4) in
    let r = more_names bytes ds is.1 (end_pieces ++ z) (OneName x.0) x.1
    (subst (λ l. Stands bytes l x.1) (append_assoc (more_decls ds) end_pieces z) x.4) in
    let e = r.behind in
    let all : map unspanned_decl (names_of bytes r.phrase) ≡ map unspanned_decl (d ∷ ds) =
    r.same ∙ ap (λ y. y ∷ map unspanned_decl ds) (plain_name (word_at bytes x.0) d.name d.width x.3 is.0.1) in
    record {
      phrase = MoreDecls before (ActionDecl h.0 r.phrase e.0);
      rest = e.1;
      tokens_are = one_more before (ActionDecl h.0 r.phrase e.0) ts e.1
          (h.2 ∙ ap (λ l. token kind.ActionWord h.0 ∷ l) (x.2 ∙ (r.tokens_are
          ∙ (ap (λ l. names_tokens r.phrase ++ l) e.2
          ∙ sym (append_assoc (names_tokens r.phrase) (token kind.Semicolon e.0 ∷ []) e.1)))));
      behind = e.3;
      inputs_are = sym (append-nil _);
      actions_are = map-append unspanned_decl (declared_by bytes before).actions (names_of bytes r.phrase) _ all;
      levels_are = sym (append-nil _);
      prods_are = sym (append-nil _);
    }

abbrev plain_level : List ℕ → Bool → List Set → Level
plain_level name b ss = record { name = name; span = no_span; start = b; sets = ss }

level_same : (w name : List ℕ) (b : Bool) (ss us : List Set) → w ≡ name → ss ≡ us
    → plain_level w b ss ≡ plain_level name b us
level_same w name b ss us e f = ap (λ x. plain_level x b ss) e ∙ ap (λ x. plain_level name b x) f

level_found : (two : Bool) (bytes : List ℕ) (l : Level)
    → FindsDecls two bytes (level_pieces l) [] [] (unspanned_level l ∷ []) []
level_found two bytes l z before ts h =
    let n = h.4 in
    let q = n.4 in
    let tail : List Piece = Blank 32 ∷ Sign 123 kind.OpenCurly ∷ (sets_pieces l.sets ++ close_pieces) in
    let b = bit-token l.start bytes (tail ++ z) q.1
    (subst (λ r. Stands bytes r q.1) (append_assoc (bit_pieces l.start) tail z) q.3) in
    let o = b.3 in
    let r = more_sets bytes l.sets (close_pieces ++ z) NoSets o.1
    (subst (λ r. Stands bytes r o.1) (append_assoc (sets_pieces l.sets) close_pieces z) o.3) in
    let c = r.behind in
    let d : DeclPhrase two = LevelDecl h.0 n.0 q.0 l.start b.0 o.0 r.phrase c.0 in
    record {
      phrase = MoreDecls before d;
      rest = c.1;
      tokens_are = one_more before d ts c.1
          (h.2 ∙ ap (λ x. token kind.LevelWord h.0 ∷ x) (n.2 ∙ ap (λ x. token kind.Name n.0 ∷ x)
          (q.2 ∙ ap (λ x. token kind.Equals q.0 ∷ x) (b.2 ∙ ap (λ x. token (bit_kind l.start) b.0 ∷ x)
          (o.2 ∙ ap (λ x. token kind.OpenCurly o.0 ∷ x) (r.tokens_are
          ∙ (ap (λ x. sets_tokens r.phrase ++ x) c.2
          ∙ sym (append_assoc (sets_tokens r.phrase) (token kind.CloseCurly c.0 ∷ []) c.1))))))));
      behind = c.3;
      inputs_are = sym (append-nil _);
      actions_are = sym (append-nil _);
      levels_are = map-append unspanned_level (declared_by bytes before).levels _ _
          (ap (λ x. x ∷ []) (level_same (word_at bytes n.0) l.name l.start _ _ n.3 r.same));
      prods_are = sym (append-nil _);
    }

levels_found : (two : Bool) (bytes : List ℕ) (ls : List Level)
    → FindsDecls two bytes (levels_pieces ls) [] [] (map unspanned_level ls) []
levels_found two bytes [] = nothing two bytes
levels_found two bytes (l ∷ ls) =
    in_turn two bytes (level_pieces l) (levels_pieces ls) [] [] [] [] (unspanned_level l ∷ []) (map unspanned_level ls)
    [] [] (level_found two bytes l) (levels_found two bytes ls)

abbrev plain_prod : List ℕ → Kind → Prod
plain_prod name k = record { name = name; span = no_span; body = expr no_span k }

prod_same : (w name : List ℕ) (k u : Kind) → w ≡ name → k ≡ u → plain_prod w k ≡ plain_prod name u
prod_same w name k u e f = ap (λ x. plain_prod x k) e ∙ ap (λ x. plain_prod name x) f

prod_found : (two : Bool) (bytes : List ℕ) (p : Prod) → ProdIs two p
    → FindsDecls two bytes (prod_pieces p) [] [] [] (unspanned_prod p ∷ [])
prod_found two bytes p is z before ts h =
    let n = h.4 in
    let q = n.4 in
    let x = finds_expr two bytes 0 p.body.kind is.1 (end_pieces ++ z) q.1
    (subst (λ r. Stands bytes r q.1) (append_assoc (kind_pieces p.body.kind) end_pieces z) q.3) in
    let e = x.behind in
    let d : DeclPhrase two = ProdDecl h.0 n.0 q.0 x.phrase e.0 in
    record {
      phrase = MoreDecls before d;
      rest = e.1;
      tokens_are = one_more before d ts e.1
          (h.2 ∙ ap (λ y. token kind.ProdWord h.0 ∷ y) (n.2 ∙ ap (λ y. token kind.Name n.0 ∷ y)
          (q.2 ∙ ap (λ y. token kind.Equals q.0 ∷ y) (x.tokens_are
          ∙ (ap (λ y. expr_tokens x.phrase ++ y) e.2
          ∙ sym (append_assoc (expr_tokens x.phrase) (token kind.Semicolon e.0 ∷ []) e.1))))));
      behind = e.3;
      inputs_are = sym (append-nil _);
      actions_are = sym (append-nil _);
      levels_are = sym (append-nil _);
      prods_are = map-append unspanned_prod (declared_by bytes before).prods _ _
          (ap (λ y. y ∷ []) (prod_same (word_at bytes n.0) p.name _ (unspanned_kind p.body.kind) n.3 x.same));
    }

prods_found : (two : Bool) (bytes : List ℕ) (ps : List Prod) → Each (ProdIs two) ps
    → FindsDecls two bytes (prods_pieces ps) [] [] [] (map unspanned_prod ps)
prods_found two bytes [] is = nothing two bytes
prods_found two bytes (p ∷ ps) is =
    in_turn two bytes (prod_pieces p) (prods_pieces ps) [] [] [] [] [] [] (unspanned_prod p ∷ [])
    (map unspanned_prod ps) (prod_found two bytes p is.0) (prods_found two bytes ps is.1)

-- ---- the whole

version_token : (two : Bool) (n : ℕ) (w : Written n) → n ≡ version_number two
    → numeral_kind w.numeral ≡ version_kind two
version_token false n w e = w.kind_is ∙ (ap (λ m. number_kind (decimal m)) e ∙ one_digit 1 (omega arith))
version_token true n w e = w.kind_is ∙ (ap (λ m. number_kind (decimal m)) e ∙ one_digit 2 (omega arith))

block_found : (two : Bool) (bytes : List ℕ) (spec : Spec) → SpecIs two spec
    → FindsDecls two bytes (block_pieces spec) (map unspanned_decl spec.inputs ++ [])
    (map unspanned_decl spec.actions ++ []) (map unspanned_level spec.levels ++ []) (map unspanned_prod spec.prods)
block_found two bytes spec is =
    let i : List Decl = map unspanned_decl spec.inputs in
    let a : List Decl = map unspanned_decl spec.actions in
    let l : List Level = map unspanned_level spec.levels in
    let p : List Prod = map unspanned_prod spec.prods in
    in_turn two bytes (decls_pieces input_word spec.inputs) (decls_pieces action_word spec.actions ++
    (levels_pieces spec.levels ++ prods_pieces spec.prods)) i [] [] (a ++ []) [] (l ++ []) [] p
    (inputs_found two bytes spec.inputs is.inputs)
    (in_turn two bytes (decls_pieces action_word spec.actions) (levels_pieces spec.levels ++ prods_pieces spec.prods)
    [] [] a [] [] (l ++ []) [] p (actions_found two bytes spec.actions is.actions)
    (in_turn two bytes (levels_pieces spec.levels) (prods_pieces spec.prods) [] [] [] [] l [] [] p
    (levels_found two bytes spec.levels) (prods_found two bytes spec.prods is.prods)))

abbrev plain_spec : ℕ → List Decl → List Decl → List Level → List Prod → Kind → Spec
plain_spec v i a l p k = record { version = v; inputs = i; actions = a; levels = l; prods = p; main = expr no_span k }

pub spec_same : (v w : ℕ) (i j a b : List Decl) (l m : List Level) (p q : List Prod) (k u : Kind) → v ≡ w → i ≡ j
    → a ≡ b
    → l ≡ m → p ≡ q → k ≡ u → plain_spec v i a l p k ≡ plain_spec w j b m q u
spec_same v w i j a b l m p q k u e f g h x y = cc

pub record SpecFound (two : Bool) (bytes : List ℕ) (spec : Spec) (ts : List Token) : Type 0 where
  pub phrase : SpecPhrase two
  pub tokens_are : spec_tokens phrase ≡ ts
  pub same : unspanned (spec_of bytes phrase) ≡ unspanned spec

-- the canonical text of a specification is a text of the grammar, and stands for it
pub finds_spec : (two : Bool) (bytes : List ℕ) (spec : Spec) → SpecIs two spec → (ts : List Token)
    → Stands bytes (spec_pieces spec) ts → SpecFound two bytes spec ts
finds_spec two bytes spec is ts h =
    let v = h.4 in
    let c = v.4 in
    let b = block_found two bytes spec is (main_pieces spec.main.kind) NoDecls c.1 c.3 in
    let m = b.behind in
    let q = m.4 in
    let x = finds_expr two bytes 0 spec.main.kind is.main end_pieces q.1 q.3 in
    let e = x.behind in
    let p : SpecPhrase two = record {
      spec_at = h.0;
      version_at = v.0;
      start_at = c.0;
      decls = b.phrase;
      main_at = m.0;
      equals_at = q.0;
      expr = x.phrase;
      end_at = e.0;
    } in
    record {
      phrase = p;
      tokens_are = sym (h.2 ∙ ap (λ l. token kind.SpecWord h.0 ∷ l)
          (v.3 ∙ (ap (λ k. token k v.0 ∷ v.1) (version_token two spec.version v.2 is.version)
          ∙ ap (λ l. token (version_kind two) v.0 ∷ l)
          (c.2 ∙ ap (λ l. token kind.Semicolon c.0 ∷ l) (b.tokens_are ∙ ap (λ l. decls_tokens b.phrase ++ l)
          (m.2 ∙ ap (λ l. token kind.MainWord m.0 ∷ l) (q.2 ∙ ap (λ l. token kind.Equals q.0 ∷ l)
          (x.tokens_are ∙ ap (λ l. expr_tokens x.phrase ++ l)
          (e.2 ∙ ap (λ l. token kind.Semicolon e.0 ∷ l) e.3)))))))));
      same = spec_same _ _ _ _ _ _ _ _ _ _ _ _ (sym is.version)
          (b.inputs_are ∙ append-nil (map unspanned_decl spec.inputs))
          (b.actions_are ∙ append-nil (map unspanned_decl spec.actions))
          (b.levels_are ∙ append-nil (map unspanned_level spec.levels)) b.prods_are x.same;
    }
