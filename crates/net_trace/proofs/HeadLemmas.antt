-- How the header of a trace is read.
use Rattle.std.proofs.Common.{◌≡◌, ◌≤◌, ◌+◌, ◌-◌, ℕ, Bool, true, false, nat_eq, ◌||◌, List, [], ◌∷◌, ◌++◌, length}
use Rattle.std.proofs.Common.{drop, take, Some, Ok, refl, sym, ap, subst, ◌∙◌, append_assoc}
use Rattle.std.proofs.Common.{append-nil, length-append, arith}
use Rattle.std.proofs.lemmas.Bool.Decides.{nat_tests}
use Rattle.std.proofs.lemmas.List.{drop_all, length-take}
use Rattle.std.specs.Io.KnownBytes.{IsAtEnd, prepend_known}
use Rattle.pbs_io.specs.Outside.{Reads, ShelfState}
use Rattle.pbs_base.specs.declared.refusal.Refusal.{Refusal}
use Rattle.trace_text.specs.Traces.{Rows, lines, rows}
use Rattle.trace_text.specs.Headers.{Header, NoHeader, Order, Refusing, Traced, header, headed, trace, trace_of}
use Rattle.trace_text.specs.States.{IsInHeader, ReaderState, ReadsHead, has_newline, rows_from, trace_from}
use Rattle.trace_text.specs.declared.answers.Phase.TheVariants as phase
use Rattle.trace_text.specs.declared.answers.Head.TheVariants as head
use Rattle.trace_text.proofs.LineLemmas.{first_open, lines_ended}
use Rattle.net_trace.specs.inner.Steps.{Read}
use Rattle.net_trace.proofs.TextLemmas.{cut, drop_line, open_append, traced_same}
use Rattle.net_trace.proofs.StandLemmas.{at_end}

-- these bytes of the header's line were read
pub record HeaderRead (ports : List (List ℕ)) (s : ReaderState) (done : List ℕ) : Type 0 where
  pub phase : s.phase ≡ phase.Header
  pub ports_are : s.ports ≡ ports
  pub open_line : has_newline done ≡ false
  pub used : s.used ≡ length done
  pub follows : (rest : List ℕ) → trace ports (done ++ rest) ≡ trace_from s rest

-- ---- no newline yet

on_rest : (last : Bool) → last ≡ false → (rest : List ℕ) → last ≡ true → rest ≡ []
on_rest last goes_on rest h = absurd (let e = sym goes_on ∙ h in cc)

pub header_more : (ports : List (List ℕ)) (s t : ReaderState) (done piece : List ℕ) (last : Bool) (used : ℕ)
    → HeaderRead ports s done → ReadsHead s t piece last used head.More → HeaderRead ports t (done ++ piece)
header_more ports s t done piece last used r reads =
    let more = reads.bytes.1 in
    let count = reads.bytes.0.count in
    let line = reads.bytes.0.line in
    let long = first_open piece more.open_line in
    let none : drop used piece ≡ [] = drop_all used piece (omega arith) in
    let before = r.used in
    let longer = length-append done piece in
    record {
      phase = reads.phase;
      ports_are = reads.ports ∙ r.ports_are;
      open_line = open_append done piece r.open_line more.open_line;
      used = omega arith;
      follows = λ rest.
          ap (trace ports) (append_assoc done piece rest)
          ∙ (r.follows (piece ++ rest)
          ∙ (reads.gives rest (on_rest last more.goes_on rest)
          ∙ ap (λ l. trace_from t (l ++ rest)) none));
    }

-- ---- the header's newline

-- a header with this order
record HasOrder (h : Header) (at : ℕ) (ls : List (List ℕ)) (r : Rows) : Type 0 where
  pub order : List ℕ
  pub is : h ≡ Order order
  pub rows_are : rows order at ls ≡ r

has_order : (h : Header) (at : ℕ) (ls : List (List ℕ)) (r : Rows) → headed h at ls ≡ Traced r → HasOrder h at ls r
has_order (Refusing x) at ls r e = absurd (cc)
has_order (Order order) at ls r e =
    record { order = order; is = refl; rows_are = traced_same (rows order at ls) r e }

abbrev order_of : Header → List ℕ
order_of (Refusing x) = []
order_of (Order order) = order

-- a text as the line of its header and the lines behind it
with_header : (ports : List (List ℕ)) (done line behind rest : List ℕ) → has_newline done ≡ false
    → has_newline line ≡ false → trace ports (done ++ ((line ++ 10 ∷ behind) ++ rest))
    ≡ headed (header ports ((done ++ line) ++ 10 ∷ [])) (length ((done ++ line) ++ 10 ∷ [])) (lines (behind ++ rest))
with_header ports done line behind rest p q =
    ap (trace ports)
    (ap (λ l. done ++ l) (append_assoc line (10 ∷ behind) rest) ∙ sym (append_assoc done line (10 ∷ (behind ++ rest))))
    ∙ ap (trace_of ports) (lines_ended (done ++ line) (behind ++ rest) (open_append done line p q))

-- what is known once the header's newline was read
pub record HeaderEnds (ports : List (List ℕ)) (t : ReaderState) (whole behind : List ℕ) : Type 0 where
  pub done : List ℕ
  pub read : Read ports t done behind []
  pub whole_is : done ++ behind ≡ whole

pub header_ends : (ports : List (List ℕ)) (s t : ReaderState) (done piece : List ℕ) (last : Bool) (used : ℕ)
    → HeaderRead ports s done → ReadsHead s t piece last used head.Ready → last ≡ false
    → HeaderEnds ports t (done ++ piece) (drop used piece)
header_ends ports s t done piece last used r reads goes_on =
    let end = reads.line refl in
    let c = cut piece (end.newline goes_on) in
    let line = (done ++ c.line) ++ 10 ∷ [] in
    let behind : drop used piece ≡ c.behind =
    ap (drop used) c.is ∙ drop_line c.line c.behind used (reads.bytes.line ∙ c.long) in
    let found : (rest : List ℕ)
    → headed (header ports line) (length line) (lines (c.behind ++ rest))
    ≡ Traced (rows_from t (drop used piece ++ rest)) =
    λ rest.
    sym (with_header ports done c.line c.behind rest r.open_line c.open_line)
    ∙ (ap (λ p. trace ports (done ++ (p ++ rest))) (sym c.is)
    ∙ (r.follows (piece ++ rest) ∙ reads.gives rest (on_rest last goes_on rest))) in
    let first = has_order (header ports line) (length line) (lines (c.behind ++ [])) _ (found []) in
    record {
      done = line;
      read = record {
        front = done ++ c.line;
        begun = [];
        order = first.order;
        split = sym (append-nil line);
        open_line = refl;
        runs = λ x.
            ap (trace ports) (append_assoc (done ++ c.line) (10 ∷ []) x)
            ∙ (ap (trace_of ports) (lines_ended (done ++ c.line) x (open_append done c.line r.open_line c.open_line))
            ∙ ap (λ h. headed h (length line) (lines x)) first.is);
        same = λ x.
            let at = has_order (header ports line) (length line) (lines (c.behind ++ x)) _ (found x) in
            sym at.rows_are
            ∙ (ap (λ o. rows o (length line) (lines (c.behind ++ x))) (order_same (sym at.is ∙ first.is))
            ∙ ap (λ l. rows first.order (length line) (lines (l ++ x))) (sym behind));
        used =
            let a = r.used in let b = length-append (done ++ c.line) (10 ∷ []) in let d = length-append done c.line in
            let l = reads.bytes.line in let m = c.long in let k = reads.bytes.count in
            omega arith;
      };
      whole_is =
          ap (λ l. line ++ l) behind
          ∙ (append_assoc (done ++ c.line) (10 ∷ []) c.behind
          ∙ (append_assoc done c.line (10 ∷ c.behind) ∙ ap (λ l. done ++ l) (sym c.is)));
    }
  where
    order_same : {a b : List ℕ} → Order a ≡ Order b → a ≡ b
    order_same e = ap order_of e

-- the header is refused, whatever follows
pub header_refused : (ports : List (List ℕ)) (s t : ReaderState) (done piece : List ℕ) (last : Bool) (used : ℕ)
    (refusal : Refusal) → HeaderRead ports s done → ReadsHead s t piece last used (head.Refused refusal)
    → (rest : List ℕ) → (last ≡ true → rest ≡ []) → trace ports ((done ++ piece) ++ rest) ≡ NoHeader refusal
header_refused ports s t done piece last used refusal r reads rest none =
    ap (trace ports) (append_assoc done piece rest) ∙ (r.follows (piece ++ rest) ∙ reads.gives rest none)

-- ---- no memory for the header

pub little_behind : (done piece line behind : List ℕ) → has_newline done ≡ false → done ++ piece ≡ line ++ 10 ∷ behind
    → length behind ≤ length piece
little_behind [] piece line behind open_line e =
    let l = ap length e in let m = length-append line (10 ∷ behind) in omega arith
little_behind (x ∷ done) piece [] behind open_line e = absurd (newline x (ap first e) (has_newline done) open_line)
  where
    first : List ℕ → ℕ
    first [] = 0
    first (c ∷ l) = c

    newline : (x : ℕ) → x ≡ 10 → (b : Bool) → (nat_eq x 10 || b) ≡ false → ⊥
    newline x e b h =
        let n : nat_eq x 10 ≡ true = grind (arith, nat_tests) in
        absurd (let k = ap (λ m. m || b) (sym n) ∙ h in cc)
little_behind (x ∷ done) piece (y ∷ line) behind open_line e =
    little_behind done piece line behind (tail_open (nat_eq x 10) (has_newline done) open_line) (ap tail e)
  where
    tail : List ℕ → List ℕ
    tail [] = []
    tail (c ∷ l) = l

    tail_open : (a b : Bool) → (a || b) ≡ false → b ≡ false
    tail_open true b h = absurd (cc)
    tail_open false b h = h

pub piece_short : (n : ℕ) (buffer : List ℕ) → length buffer ≡ 65536 → length (take n buffer) ≤ 65536
piece_short n buffer long = let l = length-take n buffer in omega arith

pub head_room : (ports : List (List ℕ)) (s : ReaderState) (done buffer : List ℕ) (n used : ℕ) → HeaderRead ports s done
    → IsInHeader s → used ≡ s.used → n ≤ 67108865 - used → length (done ++ take n buffer) ≤ 67108865
head_room ports s done buffer n used read is same room =
    let a = read.used in
    let b = is.within in
    let long = length-append done (take n buffer) in
    let part = length-take n buffer in
    omega arith

-- nothing follows the end of the text
pub none_follows : {E : Type 0} (a b : ShelfState) (buffer rest : List ℕ) (n : ℕ) → Reads {E = E} a b 1 buffer (Ok n)
    → n ≡ 0 → (b.slots 1).left ≡ Some rest → rest ≡ []
none_follows a b buffer rest n reads none left =
    subst IsAtEnd left (at_end (a.slots 1).left (b.slots 1).left
    (subst (λ m. (a.slots 1).left ≡ prepend_known (take m buffer) (b.slots 1).left) none reads.moved)
    (reads.end none))
