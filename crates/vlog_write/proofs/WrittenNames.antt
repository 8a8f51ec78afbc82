-- The names in a text that is written: each is a word that isn't reserved, and they are all different.
use Rattle.std.proofs.Common.{◌≡◌, ℕ, ◌+◌, ◌%◌, ◌<◌, ◌≤◌, ◌^◌, ◌⊎◌, inl, inr, List, [], ◌∷◌, ◌++◌}
use Rattle.std.proofs.Common.{length, Bool, true, false, refl, sym, ap, subst, ◌∙◌, arith}
use Rattle.std.specs.Prelude.{◌&&◌, ◌||◌, ◌==◌, nat_eq, nat_le, if◌then◌else◌, decimal, codes}
use Rattle.std.specs.List.{list_all}
use Rattle.std.specs.Str.{bytes_eq}
use Rattle.std.proofs.lemmas.Bool.{eqb-true, eq-eqb, false_from_ne_true, or_cases, and_parts}
use Rattle.std.proofs.lemmas.Bool.Decides.{nat_tests}
use Rattle.std.proofs.lemmas.Fmt.{decimal_by_steps, length-decimal-le, decimal_injective}
use Rattle.vlog_text.specs.declared.token.TokenKind.TheVariants as kind
use Rattle.vlog_text.specs.Emitted.{reg_name}
use Rattle.vlog_text.specs.Lexing.{is_letter, is_name_byte, words, kind_in}
use Rattle.vlog_text.specs.PortNames.{begins_with, IsPortName}
use Rattle.vlog_write.proofs.Lists.{}
use Rattle.vlog_write.proofs.Pieces.{IsWord}

-- ---- equal bytes

pub bytes_same : (a b : List ℕ) → bytes_eq a b ≡ true → a ≡ b
bytes_same [] [] e = refl
bytes_same [] (y ∷ ys) e = absurd cc
bytes_same (x ∷ xs) [] e = absurd cc
bytes_same (x ∷ xs) (y ∷ ys) e =
    let parts = and_parts (nat_eq x y) (bytes_eq xs ys) e in
    ap (λ z. z ∷ xs) (eqb-true x y parts.0) ∙ ap (λ l. y ∷ l) (bytes_same xs ys parts.1)

pub bytes_itself : (a : List ℕ) → bytes_eq a a ≡ true
bytes_itself [] = refl
bytes_itself (x ∷ xs) = rw (eq-eqb x x refl, bytes_itself xs) refl

pub bytes_apart : (a b : List ℕ) → (a ≡ b → ⊥) → bytes_eq a b ≡ false
bytes_apart a b ne = false_from_ne_true (bytes_eq a b) (λ e. ne (bytes_same a b e))

pub not_same : (a b : List ℕ) → bytes_eq a b ≡ false → a ≡ b → ⊥
not_same a b h e = differ (bytes_eq a b) (subst (λ x. bytes_eq a x ≡ true) e (bytes_itself a)) h
  where
    differ : (t : Bool) → t ≡ true → t ≡ false → ⊥
    differ t p q = cc

pub apart_back : (a b : List ℕ) → bytes_eq a b ≡ false → bytes_eq b a ≡ false
apart_back a b h = bytes_apart b a (λ e. not_same a b h (sym e))

-- ---- numbers

abbrev is_digit : ℕ → Bool
is_digit b = nat_le 48 b && nat_le b 57

all-append : (p : ℕ → Bool) (a b : List ℕ) → list_all p a ≡ true → list_all p b ≡ true → list_all p (a ++ b) ≡ true
all-append p [] b h k = k
all-append p (x ∷ a) b h k =
    let parts = and_parts (p x) (list_all p a) h in
    rw (parts.0, all-append p a b parts.1 k) refl

one_digit : (n : ℕ) → n < 10 → is_digit (48 + n) ≡ true
one_digit n h = grind (arith, nat_tests)

last_digit : (n : ℕ) → is_digit (48 + n % 10) ≡ true
last_digit n = one_digit (n % 10) (omega arith)

are_digits : (n : ℕ) → n < 2 ^ 64 → list_all is_digit (decimal n) ≡ true
are_digits = decimal_by_steps (λ n ds. list_all is_digit ds ≡ true) (λ n h. rw (one_digit n h) refl)
    (λ n ds h k. all-append is_digit ds ((48 + n % 10) ∷ []) k (rw (last_digit n) refl))

digit_byte : (b : ℕ) → is_digit b ≡ true → is_name_byte b ≡ true
digit_byte b e = by (is_letter b) e
  where
    by : (x : Bool) → is_digit b ≡ true → ((x || is_digit b) || b == 36) ≡ true
    by true e = refl
    by false e = rw e refl

digit_bytes : (ds : List ℕ) → list_all is_digit ds ≡ true → list_all is_name_byte ds ≡ true
digit_bytes [] h = refl
digit_bytes (d ∷ ds) h =
    let parts = and_parts (is_digit d) (list_all is_digit ds) h in
    rw (digit_byte d parts.0, digit_bytes ds parts.1) refl

-- fewer gates or registers than any netlist may have
abbrev pub IsFew : ℕ → Type 0
IsFew n = n < 4294967295

pub machine : (n : ℕ) → IsFew n → n < 2 ^ 64
machine n h = omega arith

decimal_short : (n : ℕ) → IsFew n → length (decimal n) < 255
decimal_short n h =
    let ten = length-decimal-le 10 n (omega arith) (omega arith) (machine n h) in omega arith

pub reg_word : (n : ℕ) → IsFew n → IsWord (reg_name n) kind.Name
reg_word n h = (refl, digit_bytes (decimal n) (are_digits n (machine n h)), decimal_short n h, refl)

abbrev pub wire_name : ℕ → List ℕ
wire_name g = codes "w" ++ decimal g

not_i : (d : ℕ) → is_digit d ≡ true → nat_eq d 105 ≡ false
not_i d e = grind (arith, nat_tests)

wire_kind : (ds : List ℕ) → list_all is_digit ds ≡ true → kind_in words (119 ∷ ds) ≡ kind.Name
wire_kind [] h = refl
wire_kind (d ∷ ds) h = rw (not_i d (and_parts (is_digit d) (list_all is_digit ds) h).0) refl

pub wire_word : (n : ℕ) → IsFew n → IsWord (wire_name n) kind.Name
wire_word n h =
    let all = are_digits n (machine n h) in
    (refl, digit_bytes (decimal n) all, decimal_short n h, wire_kind (decimal n) all)

tails : (x : ℕ) (a b : List ℕ) → x ∷ a ≡ x ∷ b → a ≡ b
tails x a b e = cc

pub reg_once : (m n : ℕ) → IsFew m → IsFew n → reg_name m ≡ reg_name n → m ≡ n
reg_once m n h k e = decimal_injective m n (machine m h) (machine n k) (tails 113 (decimal m) (decimal n) e)

pub wire_once : (m n : ℕ) → IsFew m → IsFew n → wire_name m ≡ wire_name n → m ≡ n
wire_once m n h k e = decimal_injective m n (machine m h) (machine n k) (tails 119 (decimal m) (decimal n) e)

-- ---- names of ports

record PortForm (w : List ℕ) : Type 0 where
  first : ℕ
  rest : List ℕ
  is : w ≡ first ∷ 95 ∷ rest
  which : (first ≡ 105) ⊎ ((first ≡ 97) ⊎ (first ≡ 111))

record Front (x : ℕ) (w : List ℕ) : Type 0 where
  rest : List ℕ
  is : w ≡ x ∷ 95 ∷ rest

front : (x : ℕ) (w : List ℕ) → begins_with (x ∷ 95 ∷ []) w ≡ true → Front x w
front x [] h = absurd cc
front x (a ∷ []) h = let parts = and_parts (nat_eq a x) false h in absurd (wrong parts.1)
  where
    wrong : false ≡ true → ⊥
    wrong e = cc
front x (a ∷ b ∷ w) h =
    let parts = and_parts (nat_eq a x) (nat_eq b 95 && true) h in
    let more = and_parts (nat_eq b 95) true parts.1 in
    record {
      rest = w;
      is = ap (λ z. z ∷ b ∷ w) (eqb-true a x parts.0) ∙ ap (λ z. x ∷ z ∷ w) (eqb-true b 95 more.0);
    }

port_form : (w : List ℕ) → IsPortName w → PortForm w
port_form w p =
    elim (or_cases (begins_with (codes "i_") w || begins_with (codes "a_") w) (begins_with (codes "o_") w) p.prefix) [
      | inl h ↦ elim (or_cases (begins_with (codes "i_") w) (begins_with (codes "a_") w) h) [
        | inl i ↦ let f = front 105 w i in record { first = 105; rest = f.rest; is = f.is; which = inl refl }
        | inr a ↦ let f = front 97 w a in record { first = 97; rest = f.rest; is = f.is; which = inr (inl refl) }
      ]
      | inr o ↦ let f = front 111 w o in record { first = 111; rest = f.rest; is = f.is; which = inr (inr refl) }
    ]

port_there : (a : ℕ) (w rest : List ℕ) → w ≡ a ∷ 95 ∷ rest → IsPortName w → is_letter a ≡ true
    → kind_in words (a ∷ 95 ∷ rest) ≡ kind.Name → IsWord w kind.Name
port_there a w rest e p letter is =
    let short : length (a ∷ 95 ∷ rest) ≤ 255 = subst (λ x. length x ≤ 255) e p.short in
    let bytes : list_all is_name_byte (a ∷ 95 ∷ rest) ≡ true =
    subst (λ x. list_all is_name_byte x ≡ true) e p.bytes in
    subst (λ x. IsWord x kind.Name) (sym e)
    (letter, (and_parts (is_name_byte a) (list_all is_name_byte (95 ∷ rest)) bytes).1, omega arith, is)

pub port_word : (w : List ℕ) → IsPortName w → IsWord w kind.Name
port_word w p =
    let f = port_form w p in
    elim f.which [
      | inl e ↦ port_there 105 w f.rest (f.is ∙ ap (λ x. x ∷ 95 ∷ f.rest) e) p refl refl
      | inr h ↦ elim h [
        | inl e ↦ port_there 97 w f.rest (f.is ∙ ap (λ x. x ∷ 95 ∷ f.rest) e) p refl refl
        | inr e ↦ port_there 111 w f.rest (f.is ∙ ap (λ x. x ∷ 95 ∷ f.rest) e) p refl refl
      ]
    ]

-- ---- groups of names: ports, `clk`, `rst`, registers and wires

abbrev group_at : ℕ → ℕ
group_at b = if b == 99 then 1 else if b == 114 then 2 else if b == 113 then 3 else if b == 119 then 4 else 0

abbrev pub group : List ℕ → ℕ
group [] = 0
group (b ∷ w) = group_at b

pub port_group : (w : List ℕ) → IsPortName w → group w ≡ 0
port_group w p =
    let f = port_form w p in
    elim f.which [
      | inl e ↦ ap group f.is ∙ ap group_at e
      | inr h ↦ elim h [ inl e ↦ ap group f.is ∙ ap group_at e | inr e ↦ ap group f.is ∙ ap group_at e ]
    ]

pub groups_apart : (a b : List ℕ) (g h : ℕ) → group a ≡ g → group b ≡ h → nat_eq g h ≡ false → bytes_eq a b ≡ false
groups_apart a b g h p q ne = bytes_apart a b (λ e. differ (sym p ∙ (ap group e ∙ q)))
  where
    differ : g ≡ h → ⊥
    differ e = wrong (nat_eq g h) (eq-eqb g h e) ne
      where
        wrong : (t : Bool) → t ≡ true → t ≡ false → ⊥
        wrong t p q = cc
