-- Texts that are written by way of bytes that are held.
use Rattle.std.proofs.Common.{◌≡◌, ◌≤◌, ℕ, List, [], ◌++◌, Result, Ok, Err, refl, sym, ap, subst, ◌∙◌, append_assoc}
use Rattle.std.proofs.Common.{append-nil, arith, codes, decimal}
use Rattle.std.specs.Io.KnownBytes.{append_known}
use Rattle.pbs_io.specs.Outside.{SinkState, Writes, WritesFront}
use Rattle.pbs_io.proofs.WrittenLemmas.{append_known-nil, append_known-twice}
use Rattle.trace_text.specs.Reports.{end_line}
use Rattle.trace_text.specs.Held.{PassesOn, Holds}

-- all that was held was written, and then the piece
pub written_through : {T U E : Type 0} (a b c : SinkState) (held none piece : List ℕ) (x : U) (result : Result T E)
    → Writes {E = E} a b held (Ok x) → none ≡ [] → Writes b c piece result → Holds a c held none piece result
written_through a b c held none piece x (Ok y) flushed empty put = record {
  passed = record {
    front = held ++ piece;
    whole = ap (λ l. (held ++ piece) ++ l) empty ∙ append-nil (held ++ piece);
    written = put.whole ∙ (ap (λ w. append_known w piece) flushed.whole ∙ append_known-twice a.written held piece);
  };
  front = tt;
  later = let one = flushed.later in let two = put.later in omega arith;
  cause = tt;
}
written_through a b c held none piece x (Err e) flushed empty put = record {
  passed = tt;
  front = let cut = put.front in record {
    front = held ++ cut.front;
    rest = cut.rest;
    whole = append_assoc held cut.front cut.rest ∙ ap (λ l. held ++ l) cut.whole;
    written = cut.written ∙ (ap (λ w. append_known w cut.front) flushed.whole
        ∙ append_known-twice a.written held cut.front);
  };
  later = let one = flushed.later in let two = put.later in omega arith;
  cause = let one = flushed.later in let rose = put.cause in omega arith;
}

-- ---- a whole text

-- all of the text but this rest was written or is held
pub record HeldUpTo (before now : SinkState) (text rest held : List ℕ) : Type 0 where
  pub done : List ℕ
  pub joined : done ++ rest ≡ text
  pub passed : PassesOn before.written now.written done held
  pub later : before.faults ≤ now.faults

-- one piece more
pub piece_held : {T E : Type 0} (a b c : SinkState) (text piece rest held held_now : List ℕ) (x : T)
    → HeldUpTo a b text (piece ++ rest) held → Holds {E = E} b c held held_now piece (Ok x)
    → HeldUpTo a c text rest held_now
piece_held a b c text piece rest held held_now x so_far more = record {
  done = so_far.done ++ piece;
  joined = append_assoc so_far.done piece rest ∙ so_far.joined;
  passed = record {
    front = so_far.passed.front ++ more.passed.front;
    whole = append_assoc so_far.passed.front more.passed.front held_now
        ∙ (ap (λ l. so_far.passed.front ++ l) more.passed.whole
        ∙ (sym (append_assoc so_far.passed.front held piece) ∙ ap (λ l. l ++ piece) so_far.passed.whole));
    written = more.passed.written
        ∙ (ap (λ w. append_known w more.passed.front) so_far.passed.written
        ∙ append_known-twice a.written so_far.passed.front more.passed.front);
  };
  later = let one = so_far.later in let two = more.later in omega arith;
}

-- a prefix of what is held and of the rest was written after what was written before
front_of_all : (a b c : SinkState) (text piece rest held : List ℕ) → HeldUpTo a b text (piece ++ rest) held
    → WritesFront b.written c.written (held ++ piece) → WritesFront a.written c.written text
front_of_all a b c text piece rest held so_far cut =
    let before = so_far.passed.front in
    let all : before ++ (cut.front ++ (cut.rest ++ rest)) ≡ text =
    ap (λ l. before ++ l) (sym (append_assoc cut.front cut.rest rest)
    ∙ (ap (λ l. l ++ rest) cut.whole ∙ append_assoc held piece rest))
    ∙ (sym (append_assoc before held (piece ++ rest))
    ∙ (ap (λ l. l ++ (piece ++ rest)) so_far.passed.whole ∙ so_far.joined)) in
    record {
      front = before ++ cut.front;
      rest = cut.rest ++ rest;
      whole = append_assoc before cut.front (cut.rest ++ rest) ∙ all;
      written = cut.written ∙ (ap (λ w. append_known w cut.front) so_far.passed.written
          ∙ append_known-twice a.written before cut.front);
    }

-- a fault within one piece
pub piece_unheld : {T U E F : Type 0} (a b c : SinkState) (text piece rest held held_now : List ℕ) (e : E) (f : F)
    → HeldUpTo a b text (piece ++ rest) held → Holds {T = T} b c held held_now piece (Err e)
    → Writes {T = U} a c text (Err f)
piece_unheld a b c text piece rest held held_now e f so_far more = record {
  whole = tt;
  front = front_of_all a b c text piece rest held so_far more.front;
  later = let one = so_far.later in let two = more.later in omega arith;
  cause = let one = so_far.later in let rose = more.cause in omega arith;
}

-- the end: all that is held is written
pub all_flushed : {T U E : Type 0} (a b c : SinkState) (text held : List ℕ) (x : U) (result : Result T E)
    → HeldUpTo a b text [] held → Writes b c held result → Writes a c text result
all_flushed a b c text held x (Ok y) so_far put = record {
  whole = put.whole
      ∙ (ap (λ w. append_known w held) so_far.passed.written
      ∙ (append_known-twice a.written so_far.passed.front held
      ∙ ap (append_known a.written) (so_far.passed.whole ∙ (sym (append-nil so_far.done) ∙ so_far.joined))));
  front = tt;
  later = let one = so_far.later in let two = put.later in omega arith;
  cause = tt;
}
all_flushed a b c text held x (Err e) so_far put = record {
  whole = tt;
  front =
      let cut = put.front in
      let padded : WritesFront b.written c.written (held ++ []) = record
      { front = cut.front; rest = cut.rest; whole = cut.whole ∙ sym (append-nil held); written = cut.written } in
      front_of_all a b c text [] [] held so_far padded;
  later = let one = so_far.later in let two = put.later in omega arith;
  cause = let one = so_far.later in let rose = put.cause in omega arith;
}

-- ---- a text behind bytes that are held already

pub held_before : (sink : SinkState) (text held : List ℕ) → HeldUpTo sink sink (held ++ text) text held
held_before sink text held = record {
  done = held;
  joined = refl;
  passed = record { front = []; whole = refl; written = sym (append_known-nil sink.written) };
  later = omega arith;
}

pub text_held : {T E : Type 0} (a b : SinkState) (text rest held held_now : List ℕ) (x : T)
    → HeldUpTo a b (held ++ text) rest held_now → rest ≡ [] → Holds {E = E} a b held held_now text (Ok x)
text_held a b text rest held held_now x so_far none = record {
  passed = record {
    front = so_far.passed.front;
    whole = so_far.passed.whole ∙ (sym (append-nil so_far.done)
        ∙ (ap (λ l. so_far.done ++ l) (sym none) ∙ so_far.joined));
    written = so_far.passed.written;
  };
  front = tt;
  later = so_far.later;
  cause = tt;
}

pub text_unheld : {T U E F : Type 0} (a b c : SinkState) (text piece rest held held_now held_then : List ℕ) (e : E)
    (f : F) → HeldUpTo a b (held ++ text) (piece ++ rest) held_now → Holds {T = T} b c held_now held_then piece (Err e)
    → Holds {T = U} a c held held_then text (Err f)
text_unheld {T} {U} a b c text piece rest held held_now held_then e f so_far more =
    let cut = piece_unheld {T = T} {U = U} a b c (held ++ text) piece rest held_now held_then e f so_far more in
    record { passed = tt; front = cut.front; later = cut.later; cause = cut.cause }

-- the last piece of a text
pub last_held : {T E : Type 0} (a b c : SinkState) (text piece held held_now held_then : List ℕ) (result : Result T E)
    → HeldUpTo a b (held ++ text) piece held_now → Holds b c held_now held_then piece result
    → Holds a c held held_then text result
last_held a b c text piece held held_now held_then (Ok x) so_far more =
    text_held a c text [] held held_then x (piece_held a b c (held ++ text) piece [] held_now held_then x
    (subst (λ l. HeldUpTo a b (held ++ text) l held_now) (sym (append-nil piece)) so_far) more) refl
last_held a b c text piece held held_now held_then (Err e) so_far more =
    text_unheld a b c text piece [] held held_now held_then e e
    (subst (λ l. HeldUpTo a b (held ++ text) l held_now) (sym (append-nil piece)) so_far) more

-- a text in two parts, the first of which is given as it was written
pub two_parts : {T U E : Type 0} (a b c : SinkState) (first written second held held_now held_then : List ℕ) (x : U)
    (result : Result T E) → written ≡ first → Holds {E = E} a b held held_now written (Ok x)
    → Holds b c held_now held_then second result
    → Holds a c held held_then (first ++ second) result
two_parts a b c first written second held held_now held_then x result is one two =
    subst (λ l. Holds a c held held_then (l ++ second) result) is
    (last_held a b c (written ++ second) second held held_now held_then result
    (piece_held a a b (held ++ (written ++ second)) written second held held_now x
    (held_before a (written ++ second) held) one) two)

pub first_part_cut : {T U E F : Type 0} (a b : SinkState) (first written second held held_now : List ℕ) (e : E)
    (f : F) → written ≡ first → Holds {T = T} a b held held_now written (Err e)
    → Holds {T = U} a b held held_now (first ++ second) (Err f)
first_part_cut {T} {U} a b first written second held held_now e f is one =
    subst (λ l. Holds {T = U} a b held held_now (l ++ second) (Err f)) is
    (text_unheld a a b (written ++ second) written second held held held_now e f
    (held_before a (written ++ second) held) one)

-- ---- the last line

last_text : (count : ℕ) → (codes "end " ++ decimal count) ++ codes "\n" ≡ end_line count
last_text count = append_assoc (codes "end ") (decimal count) (codes "\n")

pub end_held : {T U E : Type 0} (a b c : SinkState) (count : ℕ) (digits held held_now held_then : List ℕ) (x : U)
    (result : Result T E) → digits ≡ decimal count → Holds {E = E} a b held held_now (codes "end " ++ digits) (Ok x)
    → Holds b c held_now held_then (codes "\n") result → Holds a c held held_then (end_line count) result
end_held a b c count digits held held_now held_then x result is one two =
    subst (λ l. Holds a c held held_then l result) (last_text count)
    (two_parts a b c (codes "end " ++ decimal count) (codes "end " ++ digits) (codes "\n") held held_now held_then
    x result (ap (λ d. codes "end " ++ d) is) one two)

pub end_cut : {T U E F : Type 0} (a b : SinkState) (count : ℕ) (digits held held_now : List ℕ) (e : E) (f : F)
    → digits ≡ decimal count → Holds {T = T} a b held held_now (codes "end " ++ digits) (Err e)
    → Holds {T = U} a b held held_now (end_line count) (Err f)
end_cut {T} {U} a b count digits held held_now e f is one =
    subst (λ l. Holds {T = U} a b held held_now l (Err f)) (last_text count)
    (first_part_cut a b (codes "end " ++ decimal count) (codes "end " ++ digits) (codes "\n") held held_now e f
    (ap (λ d. codes "end " ++ d) is) one)
