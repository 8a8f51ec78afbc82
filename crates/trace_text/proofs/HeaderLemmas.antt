-- A reader reads the header.
use Rattle.std.proofs.Common.{◌≡◌, ℕ, ◌+◌, ◌-◌, ◌<◌, ◌≤◌, Bool, true, false, nat_eq, ◌||◌, List, [], ◌∷◌, ◌++◌}
use Rattle.std.proofs.Common.{length, length-append, length-take, take, drop, append_assoc, append-nil, refl, sym}
use Rattle.std.proofs.Common.{ap, ◌∙◌, arith, add-zero}
use Rattle.std.proofs.lemmas.Bool.{le-ltb, lt-ltb}
use Rattle.std.proofs.lemmas.List.{drop_all}
use Rattle.std.proofs.lemmas.List.Folds.{list_any-append}
use Rattle.trace_text.specs.Traces.{bare, first_line, lines, onto_first, refused, rows}
use Rattle.trace_text.specs.Headers.{NoHeader, Refusing, Traced, headed, header, header_order, trace, trace_of}
use Rattle.trace_text.specs.inner.Names.{IsFront}
use Rattle.trace_text.specs.States.{IsInHeader, ReaderState, ReadsHead, UsedByHead, has_newline, head_then, state_of}
use Rattle.trace_text.specs.inner.Calls.{EndsHeader, IsVerdict, line_then}
use Rattle.trace_text.specs.declared.answers.Phase.TheVariants as phase
use Rattle.trace_text.specs.declared.answers.Head.{Head}
use Rattle.trace_text.specs.declared.answers.Head.TheVariants as head
use Rattle.trace_text.proofs.LineLemmas.{BeginsWith, bare_ended, bare_open, first_ended, first_open, lines_begun}
use Rattle.trace_text.proofs.LineLemmas.{lines_ended, lines_open, open_head, open_tail}
use Rattle.trace_text.proofs.NameLemmas.{front_split}

-- ---- rule 1

header_long : (ports : List (List ℕ)) (line : List ℕ) → 67108864 < length line
    → header ports line ≡ Refusing (refused 1 67108864 67108865)
header_long ports line long =
    let more : 67108864 < 0 + length line = omega arith in
    rw (lt-ltb 67108864 (0 + length line) more) refl

header_short : (ports : List (List ℕ)) (line : List ℕ) → length line ≤ 67108864
    → header ports line ≡ header_order ports (bare line)
header_short ports line short =
    let few : 0 + length line ≤ 67108864 = omega arith in
    rw (le-ltb 67108864 (0 + length line) few) refl

trace_long : (ports : List (List ℕ)) (text front : List ℕ) → BeginsWith text front → 67108864 < length front
    → trace ports text ≡ NoHeader (refused 1 67108864 67108865)
trace_long ports text front begins long =
    let more : 67108864 < length (front ++ begins.more) = omega (arith, length-append front begins.more) in
    ap (trace_of ports) begins.is ∙ ap (λ h. headed h (length (front ++ begins.more)) begins.others)
    (header_long ports (front ++ begins.more) more)

onto_some : (c : ℕ) (ls : List (List ℕ))
    → (more : List ℕ) × (others : List (List ℕ)) × (onto_first c ls ≡ (c ∷ more) ∷ others)
onto_some c [] = ([], [], refl)
onto_some c (l ∷ ls) = (l, ls, refl)

-- the first line begins with bytes that have no newline
lines_front : (x : ℕ) (b text : List ℕ) → has_newline (x ∷ b) ≡ false → BeginsWith (x ∷ b ++ text) (x ∷ b)
lines_front x [] text h =
    let other : nat_eq x 10 ≡ false = open_head x [] h in
    let o = onto_some x (lines text) in
    record { more = o.0; others = o.1; is = rw other o.2 }
lines_front x (y ∷ b) text h =
    let other : nat_eq x 10 ≡ false = open_head x (y ∷ b) h in
    let rest = lines_front y b text (open_tail x (y ∷ b) h) in
    record { more = rest.more; others = rest.others; is = rw other (ap (onto_first x) rest.is) }

front_begins : (b text : List ℕ) → 67108864 < length b → has_newline b ≡ false → BeginsWith (b ++ text) b
front_begins [] text long h = absurd (omega arith)
front_begins (x ∷ b) text long h = lines_front x b text h

either_none : (a b : Bool) → a ≡ false → b ≡ false → (a || b) ≡ false
either_none a b p q = rw (p, q) refl

either_true : (a : Bool) → (a || true) ≡ true
either_true true = refl
either_true false = refl

both_open : (a b : List ℕ) → has_newline a ≡ false → has_newline b ≡ false → has_newline (a ++ b) ≡ false
both_open a b p q = list_any-append (λ c. nat_eq c 10) a b ∙ either_none (has_newline a) (has_newline b) p q

pub long_front : (t now : ReaderState) (piece : List ℕ) (last : Bool) (room : ℕ) (found : Head) → IsInHeader t
    → room + length t.begun ≡ 67108864 → room < length piece → has_newline piece ≡ false
    → found ≡ head.Refused (refused 1 67108864 67108865) → now ≡ state_of t.ports phase.Done t.used t.begun t.order
    → ReadsHead t now piece last (length piece) found
long_front t now piece last room found begun left less none is new =
    let long : 67108864 < length (t.begun ++ piece) = omega (arith, length-append t.begun piece) in
    rw (is, new) (record {
      gives = λ rest end. ap (trace t.ports) (sym (append_assoc t.begun piece rest))
          ∙ trace_long t.ports ((t.begun ++ piece) ++ rest) (t.begun ++ piece)
          (front_begins (t.begun ++ piece) rest long (both_open t.begun piece begun.open_line none)) long;
      ports = refl;
      phase = refl;
      within = omega arith;
      bytes = tt;
      line = λ e. absurd (cc);
    })

-- the text with the newline of the piece
split_text : (b piece rest : List ℕ) (n : ℕ) → IsFront 10 piece n → (n ≡ length piece → ⊥)
    → b ++ (piece ++ rest) ≡ (b ++ take n piece) ++ 10 ∷ (drop (n + 1) piece ++ rest)
split_text b piece rest n front some =
    ap (λ p. b ++ (p ++ rest)) (front_split 10 n piece front some)
    ∙ (ap (λ l. b ++ l) (append_assoc (take n piece) (10 ∷ drop (n + 1) piece) rest)
    ∙ sym (append_assoc b (take n piece) (10 ∷ (drop (n + 1) piece ++ rest))))

pub long_line : (t now : ReaderState) (piece : List ℕ) (last : Bool) (room n : ℕ) (found : Head) → IsInHeader t
    → room + length t.begun ≡ 67108864 → room ≤ n → IsFront 10 piece n → (n ≡ length piece → ⊥)
    → found ≡ head.Refused (refused 1 67108864 67108865) → now ≡ state_of t.ports phase.Done t.used t.begun t.order
    → ReadsHead t now piece last n found
long_line t now piece last room n found begun left less front some is new =
    let most : n ≤ length piece = front.within in
    let taken : length (take n piece) ≡ n = omega (arith, length-take n piece, most) in
    let open_line : has_newline (t.begun ++ take n piece) ≡ false = both_open t.begun (take n piece) begun.open_line
    front.none in
    let long : 67108864 < length ((t.begun ++ take n piece) ++ 10 ∷ []) = omega (
      arith,
      length-append t.begun (take n piece),
      length-append (t.begun ++ take n piece) (10 ∷ []),
      taken,
      left,
      less,
    ) in
    rw (is, new) (record {
      gives = λ rest end. ap (trace t.ports) (split_text t.begun piece rest n front some)
          ∙ trace_long t.ports ((t.begun ++ take n piece) ++ 10 ∷ (drop (n + 1) piece ++ rest))
          ((t.begun ++ take n piece) ++ 10 ∷ []) (lines_begun (t.begun ++ take n piece) 10
          (drop (n + 1) piece ++ rest) open_line) long;
      ports = refl;
      phase = refl;
      within = most;
      bytes = tt;
      line = λ e. absurd (cc);
    })

-- ---- a piece without a newline

all_dropped : (piece : List ℕ) → drop (length piece) piece ≡ []
all_dropped piece = drop_all (length piece) piece (omega arith)

pub header_more : (t now : ReaderState) (piece : List ℕ) (last : Bool) (room : ℕ) → IsInHeader t
    → room + length t.begun ≡ 67108864 → length piece ≤ room → has_newline piece ≡ false → last ≡ false
    → now ≡ state_of t.ports phase.Header (t.used + length piece) (t.begun ++ piece) t.order
    → ReadsHead t now piece last (length piece) head.More
header_more t now piece last room begun left fits none goes_on new = rw new (record {
  gives = λ rest end. ap (trace t.ports) (sym (append_assoc t.begun piece rest) ∙ ap
      (λ l. (t.begun ++ piece) ++ (l ++ rest)) (sym (all_dropped piece)));
  ports = refl;
  phase = refl;
  within = omega arith;
  bytes = (
    record { line = sym (first_open piece none); count = refl },
    record {
      open_line = none;
      goes_on = goes_on;
      within = omega (arith, begun.used);
      row = λ h. absurd (cc);
    },
  );
  line = λ e. absurd (cc);
})

-- ---- the end of the header's line

rows_behind : (found : Head) (s : ReaderState) (text : List ℕ) → IsVerdict found → (found ≡ head.Ready → s.begun ≡ [])
    → line_then found s (lines text) ≡ head_then found s text
rows_behind head.More s text verdict none = absurd verdict
rows_behind head.Ready s text verdict none =
    let whole : s.used ≡ s.used - 0 = omega arith in
    ap Traced (ap (λ u. rows s.order u (lines text)) whole ∙ ap
    (λ b. rows s.order (s.used - length b) (lines (b ++ text))) (sym (none refl)))
rows_behind (head.Refused refusal) s text verdict none = refl

used_by : (found : Head) (before now : ReaderState) (piece : List ℕ) (used : ℕ) (last : Bool) → IsVerdict found
    → used ≡ length (first_line piece) → (found ≡ head.Ready → now.used ≡ before.used + used)
    → UsedByHead found before now piece used last
used_by head.More before now piece used last verdict line count = absurd verdict
used_by head.Ready before now piece used last verdict line count = record { line = line; count = count refl }
used_by (head.Refused refusal) before now piece used last verdict line count = tt

trace_ended : (ports : List (List ℕ)) (b text : List ℕ) → has_newline b ≡ false → length b + 1 ≤ 67108864
    → trace ports (b ++ 10 ∷ text) ≡ headed (header_order ports b) (length b + 1) (lines text)
trace_ended ports b text none short =
    let long : length (b ++ 10 ∷ []) ≡ length b + 1 = length-append b (10 ∷ []) in
    let fits : length (b ++ 10 ∷ []) ≤ 67108864 = omega (arith, long) in
    ap (trace_of ports) (lines_ended b text none)
    ∙ (ap (λ h. headed h (length (b ++ 10 ∷ [])) (lines text))
    (header_short ports (b ++ 10 ∷ []) fits ∙ ap (header_order ports) (bare_ended b [] none))
    ∙ ap (λ k. headed (header_order ports b) k (lines text)) long)

trace_last : (ports : List (List ℕ)) (b : List ℕ) → has_newline b ≡ false → length b ≤ 67108864
    → trace ports b ≡ headed (header_order ports b) (length b + 0) []
trace_last ports [] none short = refl
trace_last ports (x ∷ b) none short =
    ap (trace_of ports) (lines_open x b none)
    ∙ (ap (λ h. headed h (length (x ∷ b)) []) (header_short ports (x ∷ b) short ∙ ap (header_order ports)
    (bare_open (x ∷ b) none))
    ∙ ap (λ k. headed (header_order ports (x ∷ b)) k []) (sym (add-zero (length (x ∷ b)))))

has_front : (piece : List ℕ) (n : ℕ) → IsFront 10 piece n → (n ≡ length piece → ⊥) → has_newline piece ≡ true
has_front piece n front some =
    ap has_newline (front_split 10 n piece front some)
    ∙ (list_any-append (λ c. nat_eq c 10) (take n piece) (10 ∷ drop (n + 1) piece)
    ∙ either_true (has_newline (take n piece)))

pub header_ended : (t mid now : ReaderState) (piece : List ℕ) (last : Bool) (room n : ℕ) (found : Head) → IsInHeader t
    → room + length t.begun ≡ 67108864 → n < room → IsFront 10 piece n → (n ≡ length piece → ⊥)
    → mid ≡ state_of t.ports phase.Header (t.used + length (take n piece)) (t.begun ++ take n piece) t.order
    → EndsHeader mid now 1 found → ReadsHead t now piece last (n + 1) found
header_ended t mid now piece last room n found begun left fits front some made ends =
    let most : n ≤ length piece = front.within in
    let taken : length (take n piece) ≡ n = omega (arith, length-take n piece, most) in
    let below : n + 1 ≤ length piece = omega (arith, most, some) in
    let open_line : has_newline (t.begun ++ take n piece) ≡ false = both_open t.begun (take n piece) begun.open_line
    front.none in
    let short : length (t.begun ++ take n piece) + 1 ≤ 67108864 = omega
    (arith, length-append t.begun (take n piece), taken, left, fits) in
    let same_ports : mid.ports ≡ t.ports = ap (λ s. s.ports) made in
    let same_begun : mid.begun ≡ t.begun ++ take n piece = ap (λ s. s.begun) made in
    let same_used : mid.used ≡ t.used + length (take n piece) = ap (λ s. s.used) made in
    let line : n + 1 ≡ length (first_line piece) = sym (ap (λ p. length (first_line p))
    (front_split 10 n piece front some) ∙ (first_ended (take n piece) (drop (n + 1) piece) front.none ∙ ap
    (λ k. k + 1) taken)) in
    record {
      gives = λ rest end. ap (trace t.ports) (split_text t.begun piece rest n front some)
          ∙ (trace_ended t.ports (t.begun ++ take n piece) (drop (n + 1) piece ++ rest) open_line short
          ∙ (sym (ap (λ b. headed (header_order mid.ports b) (length b + 1) (lines (drop (n + 1) piece ++ rest)))
          same_begun ∙ ap (λ p. headed (header_order p (t.begun ++ take n piece))
          (length (t.begun ++ take n piece) + 1) (lines (drop (n + 1) piece ++ rest))) same_ports)
          ∙ (ends.gives (lines (drop (n + 1) piece ++ rest)) ∙ rows_behind found now (drop (n + 1) piece ++ rest)
          ends.ended ends.begun)));
      ports = ends.ports ∙ same_ports;
      phase = ends.phase;
      within = below;
      bytes = used_by found t now piece (n + 1) last ends.ended line
          (λ e. let count = ends.used e in omega (arith, count, same_used, taken));
      line = λ e. record { begun = ends.begun e; newline = λ more. has_front piece n front some };
    }

pub header_last : (t mid now : ReaderState) (piece : List ℕ) (last : Bool) (room : ℕ) (found : Head) → IsInHeader t
    → room + length t.begun ≡ 67108864 → length piece ≤ room → has_newline piece ≡ false → last ≡ true
    → mid ≡ state_of t.ports phase.Header (t.used + length piece) (t.begun ++ piece) t.order
    → EndsHeader mid now 0 found → ReadsHead t now piece last (length piece) found
header_last t mid now piece last room found begun left fits none end made ends =
    let open_line : has_newline (t.begun ++ piece) ≡ false = both_open t.begun piece begun.open_line none in
    let short : length (t.begun ++ piece) ≤ 67108864 = omega (arith, length-append t.begun piece, left, fits) in
    let same_ports : mid.ports ≡ t.ports = ap (λ s. s.ports) made in
    let same_begun : mid.begun ≡ t.begun ++ piece = ap (λ s. s.begun) made in
    let same_used : mid.used ≡ t.used + length piece = ap (λ s. s.used) made in
    record {
      gives = λ rest is.
          let behind : drop (length piece) piece ++ rest ≡ [] = ap (λ l. l ++ rest) (all_dropped piece) ∙ is end in
          ap (λ l. trace t.ports (t.begun ++ (piece ++ l))) (is end)
          ∙ (ap (λ l. trace t.ports (t.begun ++ l)) (append-nil piece)
          ∙ (trace_last t.ports (t.begun ++ piece) open_line short
          ∙ (sym (ap (λ b. headed (header_order mid.ports b) (length b + 0) []) same_begun ∙ ap
          (λ p. headed (header_order p (t.begun ++ piece)) (length (t.begun ++ piece) + 0) []) same_ports)
          ∙ (ends.gives [] ∙ (rows_behind found now [] ends.ended ends.begun ∙ ap (head_then found now)
          (sym behind))))));
      ports = ends.ports ∙ same_ports;
      phase = ends.phase;
      within = omega arith;
      bytes = used_by found t now piece (length piece) last ends.ended (sym (first_open piece none))
          (λ e. let count = ends.used e in omega (arith, count, same_used));
      line = λ e. record { begun = ends.begun e; newline = λ more. absurd (let h = sym end ∙ more in cc) };
    }
