-- A specification that is read can be written.
use Rattle.std.proofs.Common.{ℕ, zero, suc, List, [], ◌∷◌, ◌++◌, Bool, true, false, refl, subst, append_assoc, arith}
use Rattle.pbs_base.specs.declared.refusal.Span.{Span}
use Rattle.pbs_ast.proofs.Items.{Each, each-end, each-append}
use Rattle.pbs_text.specs.declared.token.Token.{Token}
use Rattle.pbs_text.specs.declared.token.TokenKind.TheVariants as kind
use Rattle.pbs_text.specs.Grammar.{token, bit_kind, OneBit, TwoBits, MoreBits, InputPhrase, OneWire, Bus, InputsPhrase}
use Rattle.pbs_text.specs.Grammar.{OneInput, MoreInputs, NamesPhrase, OneName, MoreNames, SetsPhrase, NoSets, MoreSets}
use Rattle.pbs_text.specs.Grammar.{DeclPhrase, InputDecl, ActionDecl, LevelDecl, ProdDecl, DeclsPhrase, NoDecls}
use Rattle.pbs_text.specs.Grammar.{MoreDecls, SpecPhrase, version_kind, input_tokens, inputs_tokens, names_tokens}
use Rattle.pbs_text.specs.Grammar.{sets_tokens, decl_tokens, decls_tokens, spec_tokens, expr_tokens}
use Rattle.pbs_text.specs.Trees.{declared, input_of, inputs_of, names_of, sets_of, Declared, with_decl, declared_by}
use Rattle.pbs_text.specs.Trees.{spec_of, expr_tree, word_at}
use Rattle.pbs_print.proofs.Proper.{Proper}
use Rattle.pbs_print.proofs.ExprsRead.{expr_is_read}
use Rattle.pbs_print.proofs.LinePieces.{DeclIs, ActionIs, SetIs, LevelIs, ProdIs, SpecIs}

-- a token that says nothing by itself
bit-read : (bytes : List ℕ) (b : Bool) (at : Span) (z : List Token) → Proper bytes [] (token (bit_kind b) at ∷ z)
    → Proper bytes [] z
bit-read bytes false at z h = h.2
bit-read bytes true at z h = h.2

input_read : (two : Bool) (bytes : List ℕ) (i : InputPhrase two) (z : List Token)
    → Proper bytes [] (input_tokens i ++ z)
    → DeclIs two (input_of bytes i) × Proper bytes [] z
input_read two bytes (OneWire at) z h = ((h.1, tt), h.2)
input_read two bytes (Bus second at c OneBit to) z h = ((h.1, (second, omega arith)), h.2.2.2)
input_read two bytes (Bus second at c TwoBits to) z h = ((h.1, (second, omega arith)), h.2.2.2)
input_read two bytes (Bus second at c (MoreBits zero) to) z h = let n = h.2.2.1 in absurd (omega arith)
input_read two bytes (Bus second at c (MoreBits (suc n)) to) z h =
    let m = h.2.2.1 in ((h.1, (second, omega arith)), h.2.2.2)

inputs_read : (two : Bool) (bytes : List ℕ) (is : InputsPhrase two) (z : List Token)
    → Proper bytes [] (inputs_tokens is ++ z) → Each (DeclIs two) (inputs_of bytes is) × Proper bytes [] z
inputs_read two bytes (OneInput i) z h = let r = input_read two bytes i z h in ((r.0, tt), r.1)
inputs_read two bytes (MoreInputs is at i) z h =
    let r = inputs_read two bytes is (token kind.Comma at ∷ (input_tokens i ++ z))
    (subst (Proper bytes []) (append_assoc (inputs_tokens is) (token kind.Comma at ∷ input_tokens i) z) h) in
    let x = input_read two bytes i z r.1.2 in
    (each-end (DeclIs two) (inputs_of bytes is) (input_of bytes i) r.0 x.0, x.1)

names_read : (bytes : List ℕ) (ns : NamesPhrase) (z : List Token) → Proper bytes [] (names_tokens ns ++ z)
    → Each ActionIs (names_of bytes ns) × Proper bytes [] z
names_read bytes (OneName at) z h = (((h.1, refl), tt), h.2)
names_read bytes (MoreNames ns c at) z h =
    let r = names_read bytes ns (token kind.Comma c ∷ token kind.Name at ∷ z)
    (subst (Proper bytes []) (append_assoc (names_tokens ns) (token kind.Comma c ∷ token kind.Name at ∷ []) z) h) in
    (each-end ActionIs (names_of bytes ns) (declared bytes at 0) r.0 (r.1.2.1, refl), r.1.2.2)

sets_read : (bytes : List ℕ) (ss : SetsPhrase) (z : List Token) → Proper bytes [] (sets_tokens ss ++ z)
    → Each SetIs (sets_of bytes ss) × Proper bytes [] z
sets_read bytes NoSets z h = (tt, h)
sets_read bytes (MoreSets ss at c b to e) z h =
    let end : List Token = token kind.Semicolon e ∷ z in
    let r = sets_read bytes ss (token kind.Name at ∷ token kind.Colon c ∷ token (bit_kind b) to ∷ end)
    (subst (Proper bytes []) (append_assoc (sets_tokens ss)
    (token kind.Name at ∷ token kind.Colon c ∷ token (bit_kind b) to ∷ token kind.Semicolon e ∷ []) z) h) in (
      each-end SetIs (sets_of bytes ss) (record { action = word_at bytes at; span = at; value = b }) r.0 r.1.1,
      (bit-read bytes b to end r.1.2.2).2,
    )

-- what is declared can be written
record AreDeclared (two : Bool) (d : Declared) : Type 0 where
  inputs : Each (DeclIs two) d.inputs
  actions : Each ActionIs d.actions
  levels : Each LevelIs d.levels
  prods : Each (ProdIs two) d.prods

decl_read : (two : Bool) (bytes : List ℕ) (d : DeclPhrase two) (x : Declared) (z : List Token) → AreDeclared two x
    → Proper bytes [] (decl_tokens d ++ z) → AreDeclared two (with_decl bytes x d) × Proper bytes [] z
decl_read two bytes (InputDecl at is e) x z a h =
    let r = inputs_read two bytes is (token kind.Semicolon e ∷ z)
    (subst (Proper bytes []) (append_assoc (inputs_tokens is) (token kind.Semicolon e ∷ []) z) h.2) in (
      record {
        inputs = each-append (DeclIs two) x.inputs (inputs_of bytes is) a.inputs r.0;
        actions = a.actions;
        levels = a.levels;
        prods = a.prods;
      },
      r.1.2,
    )
decl_read two bytes (ActionDecl at ns e) x z a h =
    let r = names_read bytes ns (token kind.Semicolon e ∷ z)
    (subst (Proper bytes []) (append_assoc (names_tokens ns) (token kind.Semicolon e ∷ []) z) h.2) in (
      record {
        inputs = a.inputs;
        actions = each-append ActionIs x.actions (names_of bytes ns) a.actions r.0;
        levels = a.levels;
        prods = a.prods;
      },
      r.1.2,
    )
decl_read two bytes (LevelDecl at n q b to o ss c) x z a h =
    let tail : List Token = token kind.OpenCurly o ∷ ((sets_tokens ss ++ token kind.CloseCurly c ∷ []) ++ z) in
    let y = bit-read bytes b to tail h.2.2.2 in
    let r = sets_read bytes ss (token kind.CloseCurly c ∷ z)
    (subst (Proper bytes []) (append_assoc (sets_tokens ss) (token kind.CloseCurly c ∷ []) z) y.2) in (
      record {
        inputs = a.inputs;
        actions = a.actions;
        levels = each-end LevelIs x.levels
            (record { name = word_at bytes n; span = n; start = b; sets = sets_of bytes ss }) a.levels (h.2.1, r.0);
        prods = a.prods;
      },
      r.1.2,
    )
decl_read two bytes (ProdDecl at n q e end) x z a h =
    let r = expr_is_read two bytes e [] (token kind.Semicolon end ∷ z) refl
    (subst (Proper bytes []) (append_assoc (expr_tokens e) (token kind.Semicolon end ∷ []) z) h.2.2.2) in (
      record {
        inputs = a.inputs;
        actions = a.actions;
        levels = a.levels;
        prods = each-end (ProdIs two) x.prods
            (record { name = word_at bytes n; span = n; body = expr_tree bytes e }) a.prods (h.2.1, r.0);
      },
      r.1.2,
    )

decls_read : (two : Bool) (bytes : List ℕ) (ds : DeclsPhrase two) (z : List Token)
    → Proper bytes [] (decls_tokens ds ++ z) → AreDeclared two (declared_by bytes ds) × Proper bytes [] z
decls_read two bytes NoDecls z h = (record { inputs = tt; actions = tt; levels = tt; prods = tt }, h)
decls_read two bytes (MoreDecls ds d) z h =
    let r = decls_read two bytes ds (decl_tokens d ++ z)
    (subst (Proper bytes []) (append_assoc (decls_tokens ds) (decl_tokens d) z) h) in
    decl_read two bytes d (declared_by bytes ds) z r.0 r.1

version-read : (two : Bool) (bytes : List ℕ) (at : Span) (z : List Token)
    → Proper bytes [] (token (version_kind two) at ∷ z) → Proper bytes [] z
version-read false bytes at z h = h.2
version-read true bytes at z h = h.2

-- a specification that is read can be written
pub spec_is_read : (two : Bool) (bytes : List ℕ) (p : SpecPhrase two) → Proper bytes [] (spec_tokens p)
    → SpecIs two (spec_of bytes p)
spec_is_read two bytes p h =
    let end : List Token = token kind.Semicolon p.end_at ∷ [] in
    let main : List Token =
    token kind.MainWord p.main_at ∷ token kind.Equals p.equals_at ∷ (expr_tokens p.expr ++ end) in
    let v = version-read two bytes p.version_at
    (token kind.Semicolon p.start_at ∷ (decls_tokens p.decls ++ main)) h.2 in
    let r = decls_read two bytes p.decls main v.2 in
    let x = expr_is_read two bytes p.expr [] end refl r.1.2.2 in
    record {
      version = refl;
      inputs = r.0.inputs;
      actions = r.0.actions;
      levels = r.0.levels;
      prods = r.0.prods;
      main = x.0;
    }
