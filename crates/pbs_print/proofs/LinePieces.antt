-- The canonical text of a specification in pieces, and that it can be read.
use Rattle.std.proofs.Common.{◌≡◌, ℕ, zero, suc, ◌<◌, List, [], ◌∷◌, ◌++◌, map, Bool, true, false, refl, sym, ap, subst}
use Rattle.std.proofs.Common.{◌∙◌, append_assoc, append-nil, arith, lit<}
use Rattle.std.specs.Prelude.{codes, decimal}
use Rattle.std.specs.List.{concat}
use Rattle.pbs_ast.specs.declared.syntax.Kind.{Kind}
use Rattle.pbs_ast.specs.declared.syntax.Decl.{Decl}
use Rattle.pbs_ast.specs.declared.syntax.Set.{Set}
use Rattle.pbs_ast.specs.declared.syntax.Level.{Level}
use Rattle.pbs_ast.specs.declared.syntax.Prod.{Prod}
use Rattle.pbs_ast.specs.declared.syntax.Spec.{Spec}
use Rattle.pbs_text.specs.Grammar.{Second}
use Rattle.pbs_text.specs.Trees.{version_number}
use Rattle.pbs_print.specs.Canonical.{followed, joined, bit_text, kind_text, width_text, decl_text, decls_line}
use Rattle.pbs_print.specs.Canonical.{set_text, level_line, prod_line, canonical}
use Rattle.pbs_print.proofs.TextPieces.{Piece, Blank, Sign, Word, Digits, text, text-append, IsParted, IsReadable, Flat}
use Rattle.pbs_print.proofs.TextPieces.{ReadsOn}
use Rattle.pbs_print.proofs.TermPieces.{bit_pieces, text-bit, bit-reads, bit-flat}
use Rattle.pbs_ast.proofs.Items.{Each}
use Rattle.pbs_print.proofs.ExprPieces.{kind_pieces, text-kind, KindIs, kind-reads, kind-flat}
use Rattle.pbs_lex.proofs.Found.{IsWord, IsSmall}
use Rattle.pbs_text.specs.declared.token.TokenKind.TheVariants as kind

-- ---- pieces

abbrev pub end_pieces : List Piece
end_pieces = Sign 59 kind.Semicolon ∷ Blank 10 ∷ []

abbrev pub width_pieces : ℕ → List Piece
width_pieces zero = []
width_pieces (suc n) = Blank 32 ∷ Sign 58 kind.Colon ∷ Blank 32 ∷ Digits (suc n) ∷ []

abbrev pub decl_pieces : Decl → List Piece
decl_pieces d = Word d.name kind.Name ∷ width_pieces d.width

abbrev pub more_decls : List Decl → List Piece
more_decls [] = []
more_decls (d ∷ ds) = Sign 44 kind.Comma ∷ Blank 32 ∷ (decl_pieces d ++ more_decls ds)

abbrev pub decls_pieces : Piece → List Decl → List Piece
decls_pieces word [] = []
decls_pieces word (d ∷ ds) = word ∷ Blank 32 ∷ (decl_pieces d ++ (more_decls ds ++ end_pieces))

abbrev pub input_word : Piece
input_word = Word (codes "input") kind.InputWord

abbrev pub action_word : Piece
action_word = Word (codes "action") kind.ActionWord

abbrev pub set_pieces : Set → List Piece
set_pieces s = Blank 32 ∷ Word s.action kind.Name ∷ Sign 58 kind.Colon ∷ Blank 32 ∷
    (bit_pieces s.value ++ Sign 59 kind.Semicolon ∷ [])

abbrev pub sets_pieces : List Set → List Piece
sets_pieces [] = []
sets_pieces (s ∷ ss) = set_pieces s ++ sets_pieces ss

abbrev pub close_pieces : List Piece
close_pieces = Blank 32 ∷ Sign 125 kind.CloseCurly ∷ Blank 10 ∷ []

abbrev pub level_pieces : Level → List Piece
level_pieces l =
    Word (codes "level") kind.LevelWord ∷ Blank 32 ∷ Word l.name kind.Name ∷ Blank 32 ∷ Sign 61 kind.Equals ∷
    Blank 32 ∷ (bit_pieces l.start ++ Blank 32 ∷ Sign 123 kind.OpenCurly ∷ (sets_pieces l.sets ++ close_pieces))

abbrev pub levels_pieces : List Level → List Piece
levels_pieces [] = []
levels_pieces (l ∷ ls) = level_pieces l ++ levels_pieces ls

abbrev pub prod_pieces : Prod → List Piece
prod_pieces p =
    Word (codes "prod") kind.ProdWord ∷ Blank 32 ∷ Word p.name kind.Name ∷ Blank 32 ∷ Sign 61 kind.Equals ∷
    Blank 32 ∷ (kind_pieces p.body.kind ++ end_pieces)

abbrev pub prods_pieces : List Prod → List Piece
prods_pieces [] = []
prods_pieces (p ∷ ps) = prod_pieces p ++ prods_pieces ps

abbrev pub main_pieces : Kind → List Piece
main_pieces e =
    Word (codes "main") kind.MainWord ∷ Blank 32 ∷ Sign 61 kind.Equals ∷ Blank 32 ∷ (kind_pieces e ++ end_pieces)

-- all declarations
abbrev pub block_pieces : Spec → List Piece
block_pieces spec =
    decls_pieces input_word spec.inputs ++ (decls_pieces action_word spec.actions ++
    (levels_pieces spec.levels ++ prods_pieces spec.prods))

abbrev pub spec_pieces : Spec → List Piece
spec_pieces spec =
    Word (codes "spec") kind.SpecWord ∷ Blank 32 ∷ Digits spec.version ∷ Sign 59 kind.Semicolon ∷ Blank 10 ∷
    (block_pieces spec ++ main_pieces spec.main.kind)

-- ---- they make the text

text-width : (n : ℕ) → text (width_pieces n) ≡ width_text n
text-width zero = refl
text-width (suc n) = ap (λ l. 32 ∷ 58 ∷ 32 ∷ l) (append-nil (decimal (suc n)))

text-decl : (d : Decl) → text (decl_pieces d) ≡ decl_text d
text-decl d = ap (λ l. d.name ++ l) (text-width d.width)

text-more : (ds : List Decl) → text (more_decls ds) ≡ followed (codes ", ") (map decl_text ds)
text-more [] = refl
text-more (d ∷ ds) =
    ap (λ l. 44 ∷ 32 ∷ l) (text-append (decl_pieces d) (more_decls ds)
    ∙ (ap (λ l. l ++ text (more_decls ds)) (text-decl d) ∙ ap (λ l. decl_text d ++ l) (text-more ds)))

-- a declared line behind its word
text-joined : (d : Decl) (ds : List Decl)
    → text (decl_pieces d ++ (more_decls ds ++ end_pieces))
    ≡ joined (codes ", ") (map decl_text (d ∷ ds)) ++ codes ";\n"
text-joined d ds =
    text-append (decl_pieces d) (more_decls ds ++ end_pieces)
    ∙ (ap (λ l. l ++ text (more_decls ds ++ end_pieces)) (text-decl d)
    ∙ (ap (λ l. decl_text d ++ l) (text-append (more_decls ds) end_pieces ∙ ap (λ l. l ++ codes ";\n") (text-more ds))
    ∙ sym (append_assoc (decl_text d) (followed (codes ", ") (map decl_text ds)) (codes ";\n"))))

text-inputs : (ds : List Decl) → text (decls_pieces input_word ds) ≡ decls_line (codes "input ") ds
text-inputs [] = refl
text-inputs (d ∷ ds) = ap (λ l. codes "input " ++ l) (text-joined d ds)

text-actions : (ds : List Decl) → text (decls_pieces action_word ds) ≡ decls_line (codes "action ") ds
text-actions [] = refl
text-actions (d ∷ ds) = ap (λ l. codes "action " ++ l) (text-joined d ds)

text-set : (s : Set) → text (set_pieces s) ≡ set_text s
text-set s =
    ap (λ l. 32 ∷ (s.action ++ 58 ∷ 32 ∷ l)) (text-append (bit_pieces s.value) (Sign 59 kind.Semicolon ∷ [])
    ∙ ap (λ l. l ++ 59 ∷ []) (text-bit s.value))

text-sets : (ss : List Set) → text (sets_pieces ss) ≡ concat (map set_text ss)
text-sets [] = refl
text-sets (s ∷ ss) =
    text-append (set_pieces s) (sets_pieces ss)
    ∙ (ap (λ l. l ++ text (sets_pieces ss)) (text-set s) ∙ ap (λ l. set_text s ++ l) (text-sets ss))

text-level : (l : Level) → text (level_pieces l) ≡ level_line l
text-level l =
    ap (λ x. codes "level " ++ (l.name ++ 32 ∷ 61 ∷ 32 ∷ x))
    (text-append (bit_pieces l.start) (Blank 32 ∷ Sign 123 kind.OpenCurly ∷ (sets_pieces l.sets ++ close_pieces))
    ∙ (ap (λ x. x ++ 32 ∷ 123 ∷ text (sets_pieces l.sets ++ close_pieces)) (text-bit l.start)
    ∙ ap (λ x. bit_text l.start ++ 32 ∷ 123 ∷ x) (text-append (sets_pieces l.sets) close_pieces
    ∙ ap (λ x. x ++ codes " }\n") (text-sets l.sets))))

text-levels : (ls : List Level) → text (levels_pieces ls) ≡ concat (map level_line ls)
text-levels [] = refl
text-levels (l ∷ ls) =
    text-append (level_pieces l) (levels_pieces ls)
    ∙ (ap (λ x. x ++ text (levels_pieces ls)) (text-level l) ∙ ap (λ x. level_line l ++ x) (text-levels ls))

text-end : (e : Kind) → text (kind_pieces e ++ end_pieces) ≡ kind_text e ++ codes ";\n"
text-end e = text-append (kind_pieces e) end_pieces ∙ ap (λ l. l ++ codes ";\n") (text-kind e)

text-prod : (p : Prod) → text (prod_pieces p) ≡ prod_line p
text-prod p = ap (λ x. codes "prod " ++ (p.name ++ 32 ∷ 61 ∷ 32 ∷ x)) (text-end p.body.kind)

text-prods : (ps : List Prod) → text (prods_pieces ps) ≡ concat (map prod_line ps)
text-prods [] = refl
text-prods (p ∷ ps) =
    text-append (prod_pieces p) (prods_pieces ps)
    ∙ (ap (λ x. x ++ text (prods_pieces ps)) (text-prod p) ∙ ap (λ x. prod_line p ++ x) (text-prods ps))

text-block : (spec : Spec) → text (block_pieces spec) ≡ decls_line (codes "input ") spec.inputs
    ++ (decls_line (codes "action ") spec.actions
    ++ (concat (map level_line spec.levels) ++ concat (map prod_line spec.prods)))
text-block spec =
    text-append (decls_pieces input_word spec.inputs) _
    ∙ (ap (λ x. x ++ text (decls_pieces action_word spec.actions
    ++ (levels_pieces spec.levels ++ prods_pieces spec.prods)))
    (text-inputs spec.inputs)
    ∙ ap (λ x. decls_line (codes "input ") spec.inputs ++ x)
    (text-append (decls_pieces action_word spec.actions) _
    ∙ (ap (λ x. x ++ text (levels_pieces spec.levels ++ prods_pieces spec.prods)) (text-actions spec.actions)
    ∙ ap (λ x. decls_line (codes "action ") spec.actions ++ x)
    (text-append (levels_pieces spec.levels) _
    ∙ (ap (λ x. x ++ text (prods_pieces spec.prods)) (text-levels spec.levels)
    ∙ ap (λ x. concat (map level_line spec.levels) ++ x) (text-prods spec.prods))))))

four : (a b c d m : List ℕ) → (a ++ (b ++ (c ++ d))) ++ m ≡ a ++ (b ++ (c ++ (d ++ m)))
four a b c d m = simp append_assoc

pub text-spec : (spec : Spec) → text (spec_pieces spec) ≡ canonical spec
text-spec spec =
    ap (λ x. codes "spec " ++ (decimal spec.version ++ 59 ∷ 10 ∷ x))
    (text-append (block_pieces spec) (main_pieces spec.main.kind)
    ∙ (ap (λ x. x ++ text (main_pieces spec.main.kind)) (text-block spec)
    ∙ (four (decls_line (codes "input ") spec.inputs) (decls_line (codes "action ") spec.actions)
    (concat (map level_line spec.levels)) (concat (map prod_line spec.prods)) (text (main_pieces spec.main.kind))
    ∙ ap (λ x. decls_line (codes "input ") spec.inputs ++ (decls_line (codes "action ") spec.actions
    ++ (concat (map level_line spec.levels) ++ (concat (map prod_line spec.prods) ++ (codes "main = " ++ x)))))
    (text-end spec.main.kind))))

-- ---- what can be written

abbrev pub WidthIs : Bool → ℕ → Type 0
WidthIs two zero = Unit {0}
WidthIs two (suc n) = Second two × (n < 8)

abbrev pub DeclIs : Bool → Decl → Type 0
DeclIs two d = IsWord d.name kind.Name × WidthIs two d.width

abbrev pub ActionIs : Decl → Type 0
ActionIs d = IsWord d.name kind.Name × (d.width ≡ 0)

abbrev pub SetIs : Set → Type 0
SetIs s = IsWord s.action kind.Name

abbrev pub LevelIs : Level → Type 0
LevelIs l = IsWord l.name kind.Name × Each SetIs l.sets

abbrev pub ProdIs : Bool → Prod → Type 0
ProdIs two p = IsWord p.name kind.Name × KindIs two 0 p.body.kind

pub record SpecIs (two : Bool) (spec : Spec) : Type 0 where
  pub version : spec.version ≡ version_number two
  pub inputs : Each (DeclIs two) spec.inputs
  pub actions : Each ActionIs spec.actions
  pub levels : Each LevelIs spec.levels
  pub prods : Each (ProdIs two) spec.prods
  pub main : KindIs two 0 spec.main.kind

-- ---- it can be read, and keeps to the nesting

-- pieces that can be read whatever follows them, where nothing is open
record Stand (ps : List Piece) : Type 0 where
  reads : (z : List Piece) → IsReadable z → IsReadable (ps ++ z)
  flat : (z : List Piece) → Flat [] z → Flat [] (ps ++ z)

-- pieces that can be read before what is parted from them
record Lean (ps : List Piece) : Type 0 where
  reads : ReadsOn ps
  flat : (z : List Piece) → Flat [] z → Flat [] (ps ++ z)

none_stands : Stand []
none_stands = record { reads = λ z h. h; flat = λ z h. h }

both_stand : (ps qs : List Piece) → Stand ps → Stand qs → Stand (ps ++ qs)
both_stand ps qs a b = record {
  reads = λ z h. rw (append_assoc ps qs z) (a.reads (qs ++ z) (b.reads z h));
  flat = λ z h. rw (append_assoc ps qs z) (a.flat (qs ++ z) (b.flat z h));
}

decl-leans : (two : Bool) (name : List ℕ) (width : ℕ) → IsWord name kind.Name → WidthIs two width
    → Lean (Word name kind.Name ∷ width_pieces width)
decl-leans two name zero h w = record { reads = λ z parted more. (h, parted, more); flat = λ z more. (refl, more) }
decl-leans two name (suc n) h w = record {
  reads = λ z parted more. (h, refl, (refl, ((λ rest. refl), (refl, (small n w.1, parted, more)))));
  flat = λ z more. (refl, (refl, more));
}
  where
    small : (n : ℕ) → n < 8 → IsSmall (suc n)
    small n h = omega arith

-- the rest of a line of declarations
more-stands : (two : Bool) (ds : List Decl) → Each (DeclIs two) ds
    → Stand (more_decls ds ++ end_pieces) × ((z : List Piece) → IsParted ((more_decls ds ++ end_pieces) ++ z))
more-stands two [] h =
    (record { reads = λ z more. ((λ rest. refl), (refl, more)); flat = λ z more. (refl, more) }, λ z. refl)
more-stands two (d ∷ ds) h =
    let on = more-stands two ds h.1 in
    let first = decl-leans two d.name d.width h.0.0 h.0.1 in (
      record {
        reads = λ z more. (
          (λ rest. refl),
          (
            refl,
            subst IsReadable (apart z)
                (first.reads ((more_decls ds ++ end_pieces) ++ z) (on.1 z) (on.0.reads z more)),
          ),
        );
        flat = λ z more. (
          refl,
          subst (Flat []) (apart z)
              (first.flat ((more_decls ds ++ end_pieces) ++ z) (on.0.flat z more)),
        );
      },
      λ z. refl,
    )
  where
    apart : (z : List Piece) → decl_pieces d ++ ((more_decls ds ++ end_pieces) ++ z)
        ≡ ((decl_pieces d ++ more_decls ds) ++ end_pieces) ++ z
    apart z = sym (ap (λ l. l ++ z) (append_assoc (decl_pieces d) (more_decls ds) end_pieces)
        ∙ append_assoc (decl_pieces d) (more_decls ds ++ end_pieces) z)

joined-stands : (two : Bool) (d : Decl) (ds : List Decl) → Each (DeclIs two) (d ∷ ds)
    → Stand (decl_pieces d ++ (more_decls ds ++ end_pieces))
joined-stands two d ds h =
    let on = more-stands two ds h.1 in
    let first = decl-leans two d.name d.width h.0.0 h.0.1 in
    record {
      reads = λ z more. subst IsReadable (sym (append_assoc (decl_pieces d) (more_decls ds ++ end_pieces) z))
          (first.reads ((more_decls ds ++ end_pieces) ++ z) (on.1 z) (on.0.reads z more));
      flat = λ z more. subst (Flat []) (sym (append_assoc (decl_pieces d) (more_decls ds ++ end_pieces) z))
          (first.flat ((more_decls ds ++ end_pieces) ++ z) (on.0.flat z more));
    }

inputs-stand : (two : Bool) (ds : List Decl) → Each (DeclIs two) ds → Stand (decls_pieces input_word ds)
inputs-stand two [] h = none_stands
inputs-stand two (d ∷ ds) h =
    let x = joined-stands two d ds h in
    record {
      reads = λ z more. ((refl, refl, lit< tt, refl), refl, (refl, x.reads z more));
      flat = λ z more. (refl, x.flat z more);
    }

plain_decls : (two : Bool) (ds : List Decl) → Each ActionIs ds → Each (DeclIs two) ds
plain_decls two [] h = tt
plain_decls two (d ∷ ds) h = ((h.0.0, subst (WidthIs two) (sym h.0.1) tt), plain_decls two ds h.1)

actions-stand : (two : Bool) (ds : List Decl) → Each (DeclIs two) ds → Stand (decls_pieces action_word ds)
actions-stand two [] h = none_stands
actions-stand two (d ∷ ds) h =
    let x = joined-stands two d ds h in
    record {
      reads = λ z more. ((refl, refl, lit< tt, refl), refl, (refl, x.reads z more));
      flat = λ z more. (refl, x.flat z more);
    }

set-stands : (s : Set) → SetIs s → Stand (set_pieces s)
set-stands s h = record {
  reads = λ z more. (
    refl,
    (
      h,
      refl,
      (
        (λ rest. refl),
        (
          refl,
          rw (append_assoc (bit_pieces s.value) (Sign 59 kind.Semicolon ∷ []) z)
              (bit-reads s.value (Sign 59 kind.Semicolon ∷ z) refl ((λ rest. refl), more)),
        ),
      ),
    ),
  );
  flat = λ z more. (
    refl,
    (
      refl,
      rw (append_assoc (bit_pieces s.value) (Sign 59 kind.Semicolon ∷ []) z)
          (bit-flat 0 s.value [] (Sign 59 kind.Semicolon ∷ z) (omega arith) (refl, more)),
    ),
  );
}

sets-stand : (ss : List Set) → Each SetIs ss → Stand (sets_pieces ss)
sets-stand [] h = none_stands
sets-stand (s ∷ ss) h = both_stand (set_pieces s) (sets_pieces ss) (set-stands s h.0) (sets-stand ss h.1)

level-stands : (l : Level) → LevelIs l → Stand (level_pieces l)
level-stands l h =
    let x = sets-stand l.sets h.1 in
    let tail : List Piece = Blank 32 ∷ Sign 123 kind.OpenCurly ∷ (sets_pieces l.sets ++ close_pieces) in
    record {
      reads = λ z more. (
        (refl, refl, lit< tt, refl),
        refl,
        (
          refl,
          (
            h.0,
            refl,
            (
              refl,
              (
                (λ rest. refl),
                (
                  refl,
                  rw (append_assoc (bit_pieces l.start) tail z, append_assoc (sets_pieces l.sets) close_pieces z)
                      (bit-reads l.start _ refl (
                        refl,
                        (
                          (λ rest. refl),
                          x.reads (close_pieces ++ z) (refl, ((λ rest. refl), (refl, more))),
                        ),
                      )),
                ),
              ),
            ),
          ),
        ),
      );
      flat = λ z more. (
        refl,
        (
          refl,
          (
            refl,
            rw (append_assoc (bit_pieces l.start) tail z, append_assoc (sets_pieces l.sets) close_pieces z)
                (bit-flat 0 l.start [] _ (omega arith) (refl, x.flat (close_pieces ++ z) (refl, more))),
          ),
        ),
      );
    }

levels-stand : (ls : List Level) → Each LevelIs ls → Stand (levels_pieces ls)
levels-stand [] h = none_stands
levels-stand (l ∷ ls) h = both_stand (level_pieces l) (levels_pieces ls) (level-stands l h.0) (levels-stand ls h.1)

ends-stand : (two : Bool) (e : Kind) → KindIs two 0 e → Stand (kind_pieces e ++ end_pieces)
ends-stand two e h = record {
  reads = λ z more. rw (append_assoc (kind_pieces e) end_pieces z)
      (kind-reads two 0 e h (end_pieces ++ z) refl ((λ rest. refl), (refl, more)));
  flat = λ z more. rw (append_assoc (kind_pieces e) end_pieces z)
      (kind-flat two 0 e h [] (end_pieces ++ z) (omega arith) (refl, more));
}

prod-stands : (two : Bool) (p : Prod) → ProdIs two p → Stand (prod_pieces p)
prod-stands two p h =
    let x = ends-stand two p.body.kind h.1 in
    record {
      reads = λ z more. (
        (refl, refl, lit< tt, refl),
        refl,
        (refl, (h.0, refl, (refl, ((λ rest. refl), (refl, x.reads z more))))),
      );
      flat = λ z more. (refl, (refl, (refl, x.flat z more)));
    }

prods-stand : (two : Bool) (ps : List Prod) → Each (ProdIs two) ps → Stand (prods_pieces ps)
prods-stand two [] h = none_stands
prods-stand two (p ∷ ps) h = both_stand (prod_pieces p) (prods_pieces ps)
    (prod-stands two p h.0) (prods-stand two ps h.1)

main-stands : (two : Bool) (e : Kind) → KindIs two 0 e → Stand (main_pieces e)
main-stands two e h =
    let x = ends-stand two e h in
    record {
      reads = λ z more. ((refl, refl, lit< tt, refl), refl, (refl, ((λ rest. refl), (refl, x.reads z more))));
      flat = λ z more. (refl, (refl, x.flat z more));
    }

block-stands : (two : Bool) (spec : Spec) → SpecIs two spec → Stand (block_pieces spec ++ main_pieces spec.main.kind)
block-stands two spec is =
    both_stand (block_pieces spec) (main_pieces spec.main.kind)
    (both_stand (decls_pieces input_word spec.inputs) _ (inputs-stand two spec.inputs is.inputs)
    (both_stand (decls_pieces action_word spec.actions) _
    (actions-stand two spec.actions (plain_decls two spec.actions is.actions))
    (both_stand (levels_pieces spec.levels) (prods_pieces spec.prods) (levels-stand spec.levels is.levels)
    (prods-stand two spec.prods is.prods))))
    (main-stands two spec.main.kind is.main)

version-small : (two : Bool) (n : ℕ) → n ≡ version_number two → IsSmall n
version-small false n e = omega arith
version-small true n e = omega arith

pub spec-reads : (two : Bool) (spec : Spec) → SpecIs two spec → IsReadable (spec_pieces spec)
spec-reads two spec is =
    let x = (block-stands two spec is).reads [] tt in (
      (refl, refl, lit< tt, refl),
      refl,
      (
        refl,
        (
          version-small two spec.version is.version,
          refl,
          (
            (λ rest. refl),
            (
              refl,
              subst IsReadable (append-nil (block_pieces spec ++ main_pieces spec.main.kind)) x,
            ),
          ),
        ),
      ),
    )

pub spec-flat : (two : Bool) (spec : Spec) → SpecIs two spec → Flat [] (spec_pieces spec)
spec-flat two spec is =
    let x = (block-stands two spec is).flat [] tt in
    (refl, (refl, subst (Flat []) (append-nil (block_pieces spec ++ main_pieces spec.main.kind)) x))
