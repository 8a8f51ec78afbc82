-- Joined pieces, one after the other.
use Rattle.std.proofs.Common.{◌≡◌, ℕ, zero, suc, ◌+◌, List, [], ◌∷◌, ◌++◌, map, drop, Some, refl, sym, ap, ◌∙◌}
use Rattle.std.proofs.Common.{append_assoc, add-one}
use Rattle.std.specs.Prelude.{slice_get, codes, Result, Ok, Err, OnOk}
use Rattle.pbs_base.specs.declared.fail.Memory.{Memory}
use Rattle.std.specs.List.{concat}
use Rattle.pbs_ast.specs.declared.syntax.SpecTerm.{SpecTerm, Row_of-SpecTerm, end_of-SpecTerm, more_of-SpecTerm}
use Rattle.pbs_ast.specs.declared.syntax.SpecTerm.{items-the_row-SpecTerm, items_hidden-the_row-SpecTerm-0}
use Rattle.pbs_ast.specs.declared.syntax.SpecTerm.TheBlock.{hidden-the_row-SpecTerm-0}
use Rattle.pbs_ast.specs.declared.syntax.SpecTerm as node
use Rattle.pbs_ast.specs.declared.syntax.Expr.{Expr}
use Rattle.pbs_ast.specs.declared.syntax.Kind as kind
use Rattle.pbs_ast.specs.declared.syntax.Kind.{Kind, Row_of-Expr, end_of-Expr, more_of-Expr, items-the_row-Expr}
use Rattle.pbs_ast.specs.declared.syntax.Kind.{items_hidden-the_row-Expr-0}
use Rattle.pbs_ast.specs.declared.syntax.Kind.TheBlock.{hidden-the_row-Expr-0}
use Rattle.pbs_print.specs.Canonical.{followed, joined, lead, joined_from, bracketed, is_any, is_joined, is_list}
use Rattle.pbs_print.specs.Canonical.{is_choice, term_text, all_members, any_members, kind_text, expr_text, seq_members}
use Rattle.pbs_print.specs.Canonical.{choice_members}

-- ---- the items of a node as a list

abbrev pub all_member : SpecTerm → List ℕ
all_member t = bracketed (is_joined t) (term_text t)

abbrev pub any_member : SpecTerm → List ℕ
any_member t = bracketed (is_any t) (term_text t)

abbrev pub seq_member : Expr → List ℕ
seq_member e = bracketed (is_list e.kind) (expr_text e)

abbrev pub choice_member : Expr → List ℕ
choice_member e = bracketed (is_choice e.kind) (expr_text e)

row-all : (n : _) (row : Row_of-SpecTerm n) → all_members row ≡ map all_member (items-the_row-SpecTerm n row)
row-all n end_of-SpecTerm = refl
row-all n (more_of-SpecTerm t rest) = ap (λ ts. all_member t ∷ ts) (row-all _ rest)

row-any : (n : _) (row : Row_of-SpecTerm n) → any_members row ≡ map any_member (items-the_row-SpecTerm n row)
row-any n end_of-SpecTerm = refl
row-any n (more_of-SpecTerm t rest) = ap (λ ts. any_member t ∷ ts) (row-any _ rest)

row-seq : (n : _) (row : Row_of-Expr n) → seq_members row ≡ map seq_member (items-the_row-Expr n row)
row-seq n end_of-Expr = refl
row-seq n (more_of-Expr at e rest) = ap (λ es. bracketed (is_list e) (kind_text e) ∷ es) (row-seq _ rest)

row-choice : (n : _) (row : Row_of-Expr n) → choice_members row ≡ map choice_member (items-the_row-Expr n row)
row-choice n end_of-Expr = refl
row-choice n (more_of-Expr at e rest) = ap (λ es. bracketed (is_choice e) (kind_text e) ∷ es) (row-choice _ rest)

pub text-all : (items : List SpecTerm) → term_text (node.All items) ≡ joined (codes " & ") (map all_member items)
text-all items =
    ap (joined (codes " & ")) (row-all _ (hidden-the_row-SpecTerm-0 items)
    ∙ ap (map all_member) (items_hidden-the_row-SpecTerm-0 items))

pub text-any : (items : List SpecTerm) → term_text (node.Any items) ≡ joined (codes " | ") (map any_member items)
text-any items =
    ap (joined (codes " | ")) (row-any _ (hidden-the_row-SpecTerm-0 items)
    ∙ ap (map any_member) (items_hidden-the_row-SpecTerm-0 items))

pub text-seq : (items : List Expr) → kind_text (kind.Seq items) ≡ joined (codes ", ") (map seq_member items)
text-seq items =
    ap (joined (codes ", ")) (row-seq _ (hidden-the_row-Expr-0 items)
    ∙ ap (map seq_member) (items_hidden-the_row-Expr-0 items))

pub text-choice : (items : List Expr) → kind_text (kind.Choice items) ≡ joined (codes " | ") (map choice_member items)
text-choice items =
    ap (joined (codes " | ")) (row-choice _ (hidden-the_row-Expr-0 items)
    ∙ ap (map choice_member) (items_hidden-the_row-Expr-0 items))

-- a node whose items were written
pub wrote_all : (t : SpecTerm) (items : List SpecTerm) (r : Result (Unit {0}) Memory) (old new : List ℕ)
    → t ≡ node.All items
    → OnOk r (new ≡ old ++ joined (codes " & ") (map all_member items)) → OnOk r (new ≡ old ++ term_text t)
wrote_all t items (Ok x) old new e h = h ∙ ap (λ l. old ++ l) (sym (ap term_text e ∙ text-all items))
wrote_all t items (Err x) old new e h = h

pub wrote_any : (t : SpecTerm) (items : List SpecTerm) (r : Result (Unit {0}) Memory) (old new : List ℕ)
    → t ≡ node.Any items
    → OnOk r (new ≡ old ++ joined (codes " | ") (map any_member items)) → OnOk r (new ≡ old ++ term_text t)
wrote_any t items (Ok x) old new e h = h ∙ ap (λ l. old ++ l) (sym (ap term_text e ∙ text-any items))
wrote_any t items (Err x) old new e h = h

pub wrote_seq : (k : Kind) (items : List Expr) (r : Result (Unit {0}) Memory) (old new : List ℕ) → k ≡ kind.Seq items
    → OnOk r (new ≡ old ++ joined (codes ", ") (map seq_member items)) → OnOk r (new ≡ old ++ kind_text k)
wrote_seq k items (Ok x) old new e h = h ∙ ap (λ l. old ++ l) (sym (ap kind_text e ∙ text-seq items))
wrote_seq k items (Err x) old new e h = h

pub wrote_choice : (k : Kind) (items : List Expr) (r : Result (Unit {0}) Memory) (old new : List ℕ)
    → k ≡ kind.Choice items
    → OnOk r (new ≡ old ++ joined (codes " | ") (map choice_member items)) → OnOk r (new ≡ old ++ kind_text k)
wrote_choice k items (Ok x) old new e h = h ∙ ap (λ l. old ++ l) (sym (ap kind_text e ∙ text-choice items))
wrote_choice k items (Err x) old new e h = h

-- ---- loops

drop-at : {A : Type 0} (items : List A) (n : ℕ) (x : A) → Some x ≡ slice_get items n
    → drop n items ≡ x ∷ drop (suc n) items
drop-at [] n x e = absurd cc
drop-at (y ∷ ys) zero x e = let same : x ≡ y = cc in ap (λ z. z ∷ ys) (sym same)
drop-at (y ∷ ys) (suc n) x e = drop-at ys n x e

joined-next : {A : Type 0} (f : A → List ℕ) (items : List A) (n : ℕ) (x : A) (separator : List ℕ)
    → Some x ≡ slice_get items n
    → joined_from n separator (map f (drop n items)) ≡ lead n separator ++
    (f x ++ joined_from (suc n) separator (map f (drop (suc n) items)))
joined-next f items zero x separator e = ap (λ l. joined separator (map f l)) (drop-at items zero x e)
joined-next f items (suc n) x separator e = ap (λ l. followed separator (map f l)) (drop-at items (suc n) x e)

-- the text so far, and the items that are left
pub record Writing {A : Type 0} (f : A → List ℕ) (separator : List ℕ) (items : List A) (start text : List ℕ)
    (n : ℕ) : Type 0 where
  pub whole : text ++ joined_from n separator (map f (drop n items)) ≡ start ++ joined separator (map f items)

pub writing_next : {A : Type 0} (f : A → List ℕ) (separator : List ℕ) (items : List A) (start text one next : List ℕ)
    (n : ℕ) (x : A) → Some x ≡ slice_get items n
    → one ≡ text ++ lead n separator → next ≡ one ++ f x → Writing f separator items start text n
    → Writing f separator items start next (n + 1)
writing_next f separator items start text one next n x e p q w =
    let tail : List ℕ = joined_from (suc n) separator (map f (drop (suc n) items)) in
    rw add-one (record {
      whole = ap (λ l. l ++ tail) (q ∙ ap (λ l. l ++ f x) p)
          ∙ (append_assoc (text ++ lead n separator) (f x) tail ∙ (append_assoc text (lead n separator) (f x ++ tail)
          ∙ (ap (λ l. text ++ l) (sym (joined-next f items n x separator e)) ∙ w.whole)));
    })

-- lines, one after the other
pub record Listing {A : Type 0} (f : A → List ℕ) (items : List A) (start text : List ℕ) (n : ℕ) : Type 0 where
  pub whole : text ++ concat (map f (drop n items)) ≡ start ++ concat (map f items)

pub listing_next : {A : Type 0} (f : A → List ℕ) (items : List A) (start text next : List ℕ) (n : ℕ) (x : A)
    → Some x ≡ slice_get items n → next ≡ text ++ f x → Listing f items start text n
    → Listing f items start next (n + 1)
listing_next f items start text next n x e q w =
    let tail : List ℕ = concat (map f (drop (suc n) items)) in
    rw add-one (record {
      whole = ap (λ l. l ++ tail) q ∙ (append_assoc text (f x) tail
          ∙ (ap (λ l. text ++ concat (map f l)) (sym (drop-at items n x e)) ∙ w.whole));
    })
