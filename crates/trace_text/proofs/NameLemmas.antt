-- The words of a header, and the ports that they name.
use Rattle.std.proofs.Common.{◌≡◌, ℕ, suc, ◌+◌, ◌<◌, ◌≤◌, Bool, true, false, nat_eq, ◌||◌, List, [], ◌∷◌, ◌++◌}
use Rattle.std.proofs.Common.{length, take, drop, drop-cons, get_or, add-one, take-append-drop, Option, Some}
use Rattle.std.proofs.Common.{Bor, refl, sym, ap, ◌∙◌, arith}
use Rattle.std.specs.List.{list_any}
use Rattle.std.specs.Prelude.{if◌then◌else◌}
use Rattle.trace_text.specs.Traces.{onto_first, refused}
use Rattle.trace_text.specs.Headers.{Refusing, is_known, names_order, port_of, with_port, words}
use Rattle.trace_text.specs.inner.Names.{FindsPort, IsFront, has_byte, length_behind, words_behind}
use Rattle.trace_text.specs.Steps.{ArePorts}

either_first : (a b : Bool) → (a || b) ≡ false → a ≡ false
either_first true b h = absurd (cc)
either_first false b h = refl

either_second : (a b : Bool) → (a || b) ≡ false → b ≡ false
either_second true b h = absurd (cc)
either_second false b h = h

words_split : (w text : List ℕ) → has_byte 32 w ≡ false → words (w ++ 32 ∷ text) ≡ w ∷ words text
words_split [] text h = refl
words_split (x ∷ w) text h =
    let other : nat_eq x 32 ≡ false = either_first (nat_eq x 32) (has_byte 32 w) h in
    rw other (ap (onto_first x) (words_split w text (either_second (nat_eq x 32) (has_byte 32 w) h)))

words_alone : (w : List ℕ) → has_byte 32 w ≡ false → words w ≡ w ∷ []
words_alone [] h = refl
words_alone (x ∷ w) h =
    let other : nat_eq x 32 ≡ false = either_first (nat_eq x 32) (has_byte 32 w) h in
    rw other (ap (onto_first x) (words_alone w (either_second (nat_eq x 32) (has_byte 32 w) h)))

take_whole : (text : List ℕ) → take (length text) text ≡ text
take_whole [] = refl
take_whole (x ∷ text) = ap (λ l. x ∷ l) (take_whole text)

pub front_all : (byte n : ℕ) (text : List ℕ) → IsFront byte text n → n ≡ length text → has_byte byte text ≡ false
front_all byte n text front all = ap (has_byte byte) (sym (take_whole text)) ∙
    (ap (λ k. has_byte byte (take k text)) (sym all) ∙ front.none)

pub front_split : (byte n : ℕ) (text : List ℕ) → IsFront byte text n → (n ≡ length text → ⊥)
    → text ≡ take n text ++ byte ∷ drop (n + 1) text
front_split byte n text front some =
    let most : n ≤ length text = front.within in
    let below : n < length text = omega (arith, some, most) in
    let at : get_or text n 0 ≡ byte = front.there below in
    sym (take-append-drop n text) ∙ (ap (λ l. take n text ++ l) (drop-cons text n 0 below)
    ∙ (ap (λ c. take n text ++ c ∷ drop (suc n) text) at ∙ ap (λ k. take n text ++ byte ∷ drop k text)
    (sym (add-one n))))

pub one_word : (n : ℕ) (text : List ℕ) → IsFront 32 text n → n ≡ length text → words text ≡ text ∷ []
one_word n text front all = words_alone text (front_all 32 n text front all)

pub first_word : (n : ℕ) (text : List ℕ) → IsFront 32 text n → (n ≡ length text → ⊥)
    → words text ≡ take n text ∷ words (drop (n + 1) text)
first_word n text front some = ap words (front_split 32 n text front some) ∙ words_split (take n text)
    (drop (n + 1) text) front.none

-- ---- the names

-- the names up to here were known, and none stood twice
pub record NamesTo (ports first : List (List ℕ)) (order : List ℕ) (at : ℕ) (behind : Option (Bor (List ℕ))) : Type 0
  where
    pub same : names_order ports [] 5 first ≡ names_order ports order at (words_behind behind)
    pub known : ArePorts order
    pub short : at + length_behind behind ≤ 67108864

ports_more : (order : List ℕ) (port : ℕ) → ArePorts order → port < 64 → ArePorts (order ++ port ∷ [])
ports_more [] port h p = (p, tt)
ports_more (x ∷ order) port h p = (h.0, ports_more order port h.1 p)

known_name : (ports : List (List ℕ)) (order : List ℕ) (at : ℕ) (name : List ℕ) (names : List (List ℕ)) (port : ℕ)
    → port_of ports name ≡ Some port → list_any (λ known. nat_eq known port) order ≡ false
    → names_order ports order at (name ∷ names) ≡ names_order ports (order ++ port ∷ []) (at + 1 + length name) names
known_name ports order at name names port found fresh = by (port_of ports name) found
  where
    by : (o : Option ℕ) → o ≡ Some port
        → (if is_known order o then names_order ports (with_port order o) (at + 1 + length name) names else Refusing
        (refused 2 (at + 1) (at + 1 + length name))) ≡ names_order ports (order ++ port ∷ []) (at + 1 + length name)
        names
    by o e = rw (e, fresh) refl

pub name_passed : (ports first : List (List ℕ)) (order now : List ℕ) (at next : ℕ) (text : Bor (List ℕ))
    (name : List ℕ) (more : Option (Bor (List ℕ))) (port : ℕ) → NamesTo ports first order at (Some text) → words
    text.now ≡ name ∷ words_behind more → length text.now ≡ length name + length_behind more
    → FindsPort ports name order (Some port) → now ≡ order ++ port ∷ [] → next ≡ at + (1 + length name)
    → NamesTo ports first now next more
name_passed ports first order now at next text name more port so_far split long found is count =
    let place : at + 1 + length name ≡ next = omega (arith, count) in
    let short : at + (1 + length text.now) ≤ 67108864 = so_far.short in
    rw is (record {
      same = so_far.same ∙ (ap (names_order ports order at) split ∙
          (known_name ports order at name (words_behind more) port found.0 found.1 ∙ ap
          (λ k. names_order ports (order ++ port ∷ []) k (words_behind more)) place));
      known = ports_more order port so_far.known found.2;
      short = omega (arith, short, long, count);
    })
