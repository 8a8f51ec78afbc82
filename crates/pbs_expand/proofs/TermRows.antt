-- The terms of a list of written terms.
use Rattle.std.proofs.Common.{◌≡◌, ◌<◌, ℕ, ◌+◌, List, [], ◌∷◌, length, map, refl, sym, ap, subst, ◌∙◌, arith}
use Rattle.std.specs.Prelude.{IfOk, Result, MatchOption, Option, Some}
use Rattle.pbs_base.specs.declared.fail.Memory.{Memory}
use Rattle.bool_terms.specs.Terms.{Term, term_of, term_nodes}
use Rattle.pbs_ast.specs.declared.syntax.Decl.{Decl}
use Rattle.pbs_ast.specs.declared.syntax.SpecTerm.{SpecTerm, All, Any, Row_of-SpecTerm, end_of-SpecTerm}
use Rattle.pbs_ast.specs.declared.syntax.SpecTerm.{more_of-SpecTerm, items-the_row-SpecTerm}
use Rattle.pbs_ast.specs.declared.syntax.SpecTerm.{items_hidden-the_row-SpecTerm-0}
use Rattle.pbs_ast.specs.declared.syntax.SpecTerm.TheBlock.{hidden-the_row-SpecTerm-0}
use Rattle.pbs_expand.specs.declared.terms.Connective.{Connective}
use Rattle.pbs_expand.specs.declared.terms.Connective.TheVariants.{AndOf, OrOf}
use Rattle.pbs_expand.specs.declared.terms.Written.{Written}
use Rattle.pbs_expand.specs.declared.terms.Many.{Many}
use Rattle.pbs_names.specs.Naming.{bus_of}
use Rattle.pbs_names.specs.declared.buses.Bus.{Bus}
use Rattle.pbs_expand.specs.Written.{joined, written, written_row, literals, equal_term}
use Rattle.pbs_expand.specs.inner.WrittenTerms.{IsWritten, AreWritten, AreLiterals, weight}
use Rattle.pbs_expand.proofs.Joins.{joined_nodes}

row_items : (inputs : List Decl) (n : _) (row : Row_of-SpecTerm n)
    → written_row inputs row ≡ map (written inputs) (items-the_row-SpecTerm n row)
row_items inputs n end_of-SpecTerm = refl
row_items inputs n (more_of-SpecTerm t rest) = ap (λ ts. written inputs t ∷ ts) (row_items inputs _ rest)

pub row_list : (inputs : List Decl) (items : List SpecTerm)
    → written_row inputs (hidden-the_row-SpecTerm-0 items) ≡ map (written inputs) items
row_list inputs items = row_items inputs _ (hidden-the_row-SpecTerm-0 items)
    ∙ ap (map (written inputs)) (items_hidden-the_row-SpecTerm-0 items)

abbrev pub joint : Connective → List Term → Term
joint by ts = joined (length ts) by ts

pub written_all : (inputs : List Decl) (items : List SpecTerm)
    → written inputs (All items) ≡ joint AndOf (map (written inputs) items)
written_all inputs items = ap (joint AndOf) (row_list inputs items)

pub written_any : (inputs : List Decl) (items : List SpecTerm)
    → written inputs (Any items) ≡ joint OrOf (map (written inputs) items)
written_any inputs items = ap (joint OrOf) (row_list inputs items)

-- what the code answers for a term
abbrev pub Answers : Term → ℕ → Result (Option Written) Memory → Type 0
Answers t room r = IfOk r (λ some. MatchOption some (room < term_nodes t) (IsWritten t room))

too_many : (by : Connective) (ts : List Term) (room : ℕ) → room + 1 < weight ts → room < term_nodes (joint by ts)
too_many by [] room over = absurd (omega (arith, over))
too_many by (t ∷ ts) room over =
    let e = joined_nodes (length (t ∷ ts)) by (t ∷ ts) (omega arith) (omega arith) in omega (arith, over, e)

pub all_over : (inputs : List Decl) (t : SpecTerm) (items : List SpecTerm) (room : ℕ) → t ≡ All items
    → room + 1 < weight (map (written inputs) items) → room < term_nodes (written inputs t)
all_over inputs t items room is over =
    let P : Term → Type 0 = λ z. room < term_nodes z in
    subst P (sym (ap (written inputs) is ∙ written_all inputs items))
    (too_many AndOf (map (written inputs) items) room over)

pub any_over : (inputs : List Decl) (t : SpecTerm) (items : List SpecTerm) (room : ℕ) → t ≡ Any items
    → room + 1 < weight (map (written inputs) items) → room < term_nodes (written inputs t)
any_over inputs t items room is over =
    let P : Term → Type 0 = λ z. room < term_nodes z in
    subst P (sym (ap (written inputs) is ∙ written_any inputs items))
    (too_many OrOf (map (written inputs) items) room over)

pub all_written : (inputs : List Decl) (t : SpecTerm) (items : List SpecTerm) (room : ℕ) (m : Many)
    (r : Result (Option Written) Memory) → t ≡ All items → AreWritten (map (written inputs) items) room m
    → Answers (joint AndOf (map term_of m.terms.items)) room r → Answers (written inputs t) room r
all_written inputs t items room m r is many made =
    let P : Term → Type 0 = λ z. Answers z room r in
    subst P (ap (joint AndOf) many.terms ∙ sym (ap (written inputs) is ∙ written_all inputs items)) made

pub any_written : (inputs : List Decl) (t : SpecTerm) (items : List SpecTerm) (room : ℕ) (m : Many)
    (r : Result (Option Written) Memory) → t ≡ Any items → AreWritten (map (written inputs) items) room m
    → Answers (joint OrOf (map term_of m.terms.items)) room r → Answers (written inputs t) room r
any_written inputs t items room m r is many made =
    let P : Term → Type 0 = λ z. Answers z room r in
    subst P (ap (joint OrOf) many.terms ∙ sym (ap (written inputs) is ∙ written_any inputs items)) made

-- a bus whose literals are too many
pub equal_over : (inputs : List Decl) (name : List ℕ) (bus : Bus) (number room : ℕ) (m : Many)
    → bus_of inputs name ≡ Some bus → AreLiterals (literals bus.start number 0 bus.width) m → room + 1 < m.nodes
    → room < term_nodes (equal_term (bus_of inputs name) number)
equal_over inputs name bus number room m is all over =
    let ts = literals bus.start number 0 bus.width in
    let P : Option Bus → Type 0 = λ o. room < term_nodes (equal_term o number) in
    subst P (sym is) (too_many AndOf ts room (omega (arith, over, all.nodes)))
