-- A text that is written piece by piece.
use Rattle.std.proofs.Common.{◌≡◌, ℕ, List, [], ◌++◌, Option, Some, None, length, take, drop, refl, sym, ap, ◌∙◌}
use Rattle.std.proofs.Common.{append_assoc, append-nil, take-append-drop, length-drop, arith, ◌-◌, ◌+◌, ◌<◌, ◌≤◌, Err}
use Rattle.std.proofs.Common.{Bor, get_or, add-one, drop-cons}
use Rattle.std.specs.List.{concat}
use Rattle.std.proofs.lemmas.List.{take_all}
use Rattle.std.specs.Io.KnownBytes.{append_known}
use Rattle.pbs_io.specs.Outside.{SinkState, Writes, WritesFront}
use Rattle.pbs_io.specs.Written.{texts_of}

pub append_known-nil : (known : Option (List ℕ)) → append_known known [] ≡ known
append_known-nil None = refl
append_known-nil (Some xs) = ap Some (append-nil xs)

pub append_known-twice : (known : Option (List ℕ)) (xs ys : List ℕ)
    → append_known (append_known known xs) ys ≡ append_known known (xs ++ ys)
append_known-twice None xs ys = refl
append_known-twice (Some zs) xs ys = ap Some (append_assoc zs xs ys)

-- the text was written but for this rest
pub record WritesUpTo (before now : Option (List ℕ)) (text rest : List ℕ) : Type 0 where
  pub front : List ℕ
  pub whole : front ++ rest ≡ text
  pub written : now ≡ append_known before front

all_of_drop : (n : ℕ) (rest : List ℕ) → take (length rest - n) (drop n rest) ≡ drop n rest
all_of_drop n rest = take_all (length rest - n) (drop n rest) (omega (arith, length-drop n rest))

pub one_piece_more : (before now next : Option (List ℕ)) (text rest : List ℕ) (n : ℕ)
    → WritesUpTo before now text rest → next ≡ append_known now (take n rest)
    → WritesUpTo before next text (take (length rest - n) (drop n rest))
one_piece_more before now next text rest n so_far put = record {
  front = so_far.front ++ take n rest;
  whole = append_assoc so_far.front (take n rest) (take (length rest - n) (drop n rest))
      ∙ (ap (λ l. so_far.front ++ l) (ap (λ l. take n rest ++ l) (all_of_drop n rest) ∙ take-append-drop n rest)
      ∙ so_far.whole);
  written = put ∙ (ap (λ w. append_known w (take n rest)) so_far.written
      ∙ append_known-twice before so_far.front (take n rest));
}

-- one piece of many was written
pub piece_written : (before now next : Option (List ℕ)) (text piece rest : List ℕ)
    → WritesUpTo before now text (piece ++ rest) → next ≡ append_known now piece → WritesUpTo before next text rest
piece_written before now next text piece rest so_far put = record {
  front = so_far.front ++ piece;
  whole = append_assoc so_far.front piece rest ∙ so_far.whole;
  written = put ∙ (ap (λ w. append_known w piece) so_far.written ∙ append_known-twice before so_far.front piece);
}

-- the front of one piece of many was written
pub piece_cut : (before now next : Option (List ℕ)) (text piece rest : List ℕ)
    → WritesUpTo before now text (piece ++ rest) → WritesFront now next piece → WritesFront before next text
piece_cut before now next text piece rest so_far cut = record {
  front = so_far.front ++ cut.front;
  rest = cut.rest ++ rest;
  whole = append_assoc so_far.front cut.front (cut.rest ++ rest)
      ∙ (ap (λ l. so_far.front ++ l) (sym (append_assoc cut.front cut.rest rest) ∙ ap (λ l. l ++ rest) cut.whole)
      ∙ so_far.whole);
  written = cut.written ∙ (ap (λ w. append_known w cut.front) so_far.written
      ∙ append_known-twice before so_far.front cut.front);
}

-- a fault while one piece of many was written
pub pieces_cut : {T U E F : Type 0} (before now next : SinkState) (text piece rest : List ℕ) (e : E) (f : F)
    → WritesUpTo before.written now.written text (piece ++ rest) → before.faults ≤ now.faults
    → Writes {T = T} now next piece (Err e) → Writes {T = U} before next text (Err f)
pieces_cut before now next text piece rest e f so_far later cut = record {
  whole = tt;
  front = piece_cut _ _ _ _ _ _ so_far cut.front;
  later = let more = cut.later in omega arith;
  cause = let rose = cut.cause in omega arith;
}

pub pieces_from : (pieces : List (Bor (List ℕ))) (n : ℕ) (d : Bor (List ℕ)) → n < length pieces
    → concat (texts_of (drop n pieces)) ≡ (get_or pieces n d).now ++ concat (texts_of (drop (n + 1) pieces))
pieces_from pieces n d within = rw (add-one, drop-cons pieces n d within)
