-- A text has no more gates and registers than bytes.
use Rattle.std.proofs.Common.{◌≡◌, ℕ, zero, suc, ◌+◌, ◌-◌, ◌≤◌, List, [], ◌∷◌, ◌++◌, length, Result, Ok, Err, refl, sym}
use Rattle.std.proofs.Common.{ap, length-append, arith}
use Rattle.pbs_base.specs.declared.refusal.Span.{Span}
use Rattle.net_core.specs.declared.gate.GateKind.{GateKind}
use Rattle.net_core.specs.declared.gate.GateKind.TheVariants as gate
use Rattle.vlog_text.specs.declared.raw.RawGate.{RawGate}
use Rattle.vlog_text.specs.declared.raw.RawName.{RawName}
use Rattle.vlog_text.specs.declared.raw.RawPin.{RawPin}
use Rattle.vlog_text.specs.declared.raw.RawReg.{RawReg}
use Rattle.vlog_text.specs.declared.raw.Target.TheVariants as target
use Rattle.vlog_text.specs.declared.token.Token.{Token}
use Rattle.vlog_text.specs.declared.token.TokenKind.TheVariants.{CloseRound, Semicolon, Ampersand, Caret, Bar}
use Rattle.vlog_text.specs.declared.token.TokenKind.TheVariants.{EndmoduleWord}
use Rattle.vlog_text.specs.declared.token.Piece.{Piece}
use Rattle.vlog_text.specs.declared.token.Piece.TheVariants.{Gap, Whole, Fault}
use Rattle.vlog_text.specs.Grammar.{UnitPhrase, Negated, Bracketed, Lone, AndPhrase, OneUnit, MoreUnits, XorPhrase}
use Rattle.vlog_text.specs.Grammar.{OneAnd, MoreAnds, OrPhrase, OneXor, MoreXors, unit_tokens, and_tokens, xor_tokens}
use Rattle.vlog_text.specs.Grammar.{or_tokens, ItemPhrase, Declare, ManyGate, SingleGate, Assign, Always, item_tokens}
use Rattle.vlog_text.specs.Grammar.{ItemsPhrase, NoItems, MoreItems, items_tokens, TextPhrase, names_tokens}
use Rattle.vlog_text.specs.Grammar.{text_tokens}
use Rattle.vlog_text.specs.Grammar.{token}
use Rattle.vlog_text.specs.Lexing.{first_piece, lex, with_token, with_piece}
use Rattle.vlog_text.specs.Reading.{IsRead}
use Rattle.vlog_text.specs.Trees.{Parts, parts, joined, unit_part, and_parts, xor_parts, or_parts, driving}
use Rattle.vlog_text.specs.Trees.{assign_gates}
use Rattle.vlog_text.specs.Trees.{Found, with_item, found_in, raw_of, gate_of, name_of, operand_of, operands_of}

-- ---- tokens

few_behind : (t : Token) (r : Result (List Token) Span) (ts : List Token) (most : ℕ)
    → ((us : List Token) → r ≡ Ok us → length us ≤ most) → with_token t r ≡ Ok ts → length ts ≤ suc most
few_behind t (Ok us) ts most few e =
    let rest = few us refl in
    let same : t ∷ us ≡ ts = cc in
    rw (sym same) (omega arith)
few_behind t (Err at) ts most few e = absurd cc

few_in_piece : (at : ℕ) (p : Piece) (behind : ℕ → Result (List Token) Span) (ts : List Token) (most : ℕ)
    → ((n : ℕ) (us : List Token) → behind n ≡ Ok us → length us ≤ most) → with_piece at p behind ≡ Ok ts
    → length ts ≤ suc most
few_in_piece at (Gap n) behind ts most few e = let rest = few n ts e in omega arith
few_in_piece at (Whole k n) behind ts most few e = few_behind _ (behind n) ts most (few n) e
few_in_piece at (Fault n) behind ts most few e = absurd cc

few_lexed : (skip at : ℕ) (bytes : List ℕ) (ts : List Token) → lex skip at bytes ≡ Ok ts → length ts ≤ length bytes
unfolding lex
few_lexed skip at [] ts e = let same : ts ≡ [] = cc in rw same (omega arith)
few_lexed zero at (b ∷ bs) ts e =
    few_in_piece at (first_piece (b ∷ bs)) (λ n. lex (n - 1) (at + 1) bs) ts (length bs)
    (λ n us i. few_lexed (n - 1) (at + 1) bs us i) e
few_lexed (suc skip) at (b ∷ bs) ts e = let rest = few_lexed skip (at + 1) bs ts e in omega arith

-- ---- the gates of an assign

-- the parts have no more gates and pins than this
abbrev Counted : Parts → ℕ → Type 0
Counted p most = length p.gates + length p.pins ≤ most

joined_few : (n : ℕ) (kind : GateKind) (gates : List RawGate) (pins : List RawPin) (most : ℕ)
    → Counted (parts gates pins) most
    → Counted (joined n kind (parts gates pins)) most × (length (joined n kind (parts gates pins)).pins ≤ 1)
joined_few n kind gates [] most h = (h, omega arith)
joined_few n kind gates (p ∷ []) most h = (h, omega arith)
joined_few n kind gates (p ∷ q ∷ pins) most h =
    let g : RawGate = gate_of kind target.Inner (p ∷ q ∷ pins) in
    (omega (arith, h, length-append gates (g ∷ [])), omega arith)

few_joined : (n : ℕ) (kind : GateKind) (p : Parts) (most : ℕ) → Counted p most → Counted (joined n kind p) most
few_joined n kind p most h = (joined_few n kind p.gates p.pins most h).0

beside_few : (p q : Parts) (a b : ℕ) → Counted p a → Counted q b
    → Counted (parts (p.gates ++ q.gates) (p.pins ++ q.pins)) (a + suc b)
beside_few p q a b h i =
    let g = length-append p.gates q.gates in let l = length-append p.pins q.pins in omega arith

-- the tokens of two phrases with a sign between them
between : (a b : List Token) (sign : Token) → length (a ++ sign ∷ b) ≡ length a + suc (length b)
between a b sign = length-append a (sign ∷ b)

mutual
  unit_few : (bytes : List ℕ) (n : ℕ) (u : UnitPhrase)
      → (length (unit_part bytes n u).gates + 1 ≤ length (unit_tokens u)) × (length (unit_part bytes n u).pins ≤ 1)
  unit_few bytes n (Negated at u) =
      let p : Parts = unit_part bytes n u in
      let g : RawGate = gate_of gate.Not target.Inner p.pins in
      (omega (arith, (unit_few bytes n u).0, length-append p.gates (g ∷ [])), omega arith)
  unit_few bytes n (Bracketed open_at o close_at) =
      let p : Parts = or_parts bytes n o in
      let few = joined_few n gate.Or p.gates p.pins (length (or_tokens o)) (or_few bytes n o) in
      (omega (arith, few.0, length-append (or_tokens o) (token CloseRound close_at ∷ [])), few.1)
  unit_few bytes n (Lone p) = (omega arith, omega arith)

  and_few : (bytes : List ℕ) (n : ℕ) (a : AndPhrase) → Counted (and_parts bytes n a) (length (and_tokens a))
  and_few bytes n (OneUnit u) = let few = unit_few bytes n u in omega (arith, few.0, few.1)
  and_few bytes n (MoreUnits a at u) =
      let k : ℕ = n + length (and_parts bytes n a).gates in
      let few = unit_few bytes k u in
      let one : Counted (unit_part bytes k u) (length (unit_tokens u)) = omega (arith, few.0, few.1) in
      rw (between (and_tokens a) (unit_tokens u) (token Ampersand at))
      (beside_few (and_parts bytes n a) (unit_part bytes k u) _ _ (and_few bytes n a) one)

  xor_few : (bytes : List ℕ) (n : ℕ) (x : XorPhrase) → Counted (xor_parts bytes n x) (length (xor_tokens x))
  xor_few bytes n (OneAnd a) = few_joined n gate.And (and_parts bytes n a) (length (and_tokens a)) (and_few bytes n a)
  xor_few bytes n (MoreAnds x at a) =
      let k : ℕ = n + length (xor_parts bytes n x).gates in
      rw (between (xor_tokens x) (and_tokens a) (token Caret at))
      (beside_few (xor_parts bytes n x) (joined k gate.And (and_parts bytes k a)) _ _ (xor_few bytes n x)
      (few_joined k gate.And (and_parts bytes k a) (length (and_tokens a)) (and_few bytes k a)))

  or_few : (bytes : List ℕ) (n : ℕ) (o : OrPhrase) → Counted (or_parts bytes n o) (length (or_tokens o))
  or_few bytes n (OneXor x) = few_joined n gate.Xor (xor_parts bytes n x) (length (xor_tokens x)) (xor_few bytes n x)
  or_few bytes n (MoreXors o at x) =
      let k : ℕ = n + length (or_parts bytes n o).gates in
      rw (between (or_tokens o) (xor_tokens x) (token Bar at))
      (beside_few (or_parts bytes n o) (joined k gate.Xor (xor_parts bytes k x)) _ _ (or_few bytes n o)
      (few_joined k gate.Xor (xor_parts bytes k x) (length (xor_tokens x)) (xor_few bytes k x)))

driving_few : (name : RawName) (pins : List RawPin) (gates : List RawGate)
    → length (driving name pins gates) ≤ suc (length gates)
driving_few name pins [] = omega arith
driving_few name pins (g ∷ []) = omega arith
driving_few name pins (g ∷ h ∷ gates) = let rest = driving_few name pins (h ∷ gates) in omega arith

-- ---- items

item_few : (bytes : List ℕ) (f : Found) (i : ItemPhrase)
    → (length (with_item bytes f i).gates ≤ length f.gates + length (item_tokens i))
    × (length (with_item bytes f i).regs ≤ length f.regs + length (item_tokens i))
item_few bytes f (Declare k at ns end) = (omega arith, omega arith)
item_few bytes f (ManyGate k many at i o t c ps close end) =
    let g : RawGate = gate_of k (target.Name (name_of bytes t)) (operands_of bytes ps) in
    (omega (arith, length-append f.gates (g ∷ [])), omega arith)
item_few bytes f (SingleGate k single at i o t c p close end) =
    let g : RawGate = gate_of k (target.Name (name_of bytes t)) (operand_of bytes p ∷ []) in
    (omega (arith, length-append f.gates (g ∷ [])), omega arith)
item_few bytes f (Assign at t q o end) =
    let n : ℕ = length f.gates in
    let a : Parts = or_parts bytes n o in
    let p : Parts = joined n gate.Or a in
    let few = (joined_few n gate.Or a.gates a.pins (length (or_tokens o)) (or_few bytes n o)).0 in
    let driving = driving_few (name_of bytes t) p.pins p.gates in
    let all = length-append f.gates (assign_gates bytes n t o) in
    let signs = length-append (or_tokens o) (token Semicolon end ∷ []) in
    (omega (arith, few, driving, all, signs), omega arith)
item_few bytes f (Always at a o p ck c t arrow pin end) =
    let r : RawReg = record { target = name_of bytes t; wire = operand_of bytes pin } in
    (omega arith, omega (arith, length-append f.regs (r ∷ [])))

items_few : (bytes : List ℕ) (is : ItemsPhrase)
    → (length (found_in bytes is).gates ≤ length (items_tokens is))
    × (length (found_in bytes is).regs ≤ length (items_tokens is))
items_few bytes NoItems = (omega arith, omega arith)
items_few bytes (MoreItems is i) =
    let rest = items_few bytes is in
    let last = item_few bytes (found_in bytes is) i in
    let all = length-append (items_tokens is) (item_tokens i) in
    (omega (arith, all, rest.0, last.0), omega (arith, all, rest.1, last.1))

items_within : (p : TextPhrase) → length (items_tokens p.items) ≤ length (text_tokens p)
items_within p =
    let end : List Token = token EndmoduleWord p.end_at ∷ [] in
    let body : List Token =
    token CloseRound p.close_at ∷ token Semicolon p.start_at ∷ (items_tokens p.items ++ end) in
    omega (arith, length-append (names_tokens p.ports) body, length-append (items_tokens p.items) end)

-- ---- whole texts

-- no more gates and registers than a text may have bytes
pub raw_few : (bytes : List ℕ) (p : TextPhrase) → IsRead bytes p
    → (length (raw_of bytes p).gates ≤ 67108864) × (length (raw_of bytes p).regs ≤ 67108864)
raw_few bytes p read =
    let of_items = items_few bytes p.items in
    let of_tokens = few_lexed 0 0 bytes read.found read.found_is in
    let same = ap length read.text.tokens in (
      omega (arith, of_items.0, items_within p, same, of_tokens, read.short),
      omega (arith, of_items.1, items_within p, same, of_tokens, read.short),
    )
