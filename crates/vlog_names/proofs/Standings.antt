-- What words stand for.
use Rattle.std.proofs.Common.{◌≡◌, ℕ, suc, ◌+◌, ◌<◌, Bool, true, false, cond, List, [], ◌∷◌, length}
use Rattle.std.proofs.Common.{map}
use Rattle.std.proofs.Common.{filter, Option, Some, None, refl, sym, ap, ◌∙◌, arith}
use Rattle.std.specs.Prelude.{unwrap_or, min}
use Rattle.std.proofs.lemmas.List.{length-map}
use Rattle.std.proofs.lemmas.Option.{same_Some}
use Rattle.std.specs.List.{cons_option, filter_map, position_from}
use Rattle.net_core.specs.declared.gate.Wire.TheVariants as wire
use Rattle.vlog_text.specs.declared.raw.RawName.{RawName}
use Rattle.vlog_text.specs.declared.raw.RawDecl.{RawDecl}
use Rattle.vlog_text.specs.declared.raw.RawGate.{RawGate}
use Rattle.vlog_text.specs.declared.raw.RawReg.{RawReg}
use Rattle.vlog_text.specs.declared.raw.RawNetlist.{RawNetlist}
use Rattle.vlog_text.specs.Words.{has_word, target_name}
use Rattle.vlog_text.specs.Standing.{drives, is_input, is_output, is_reg, is_declared, is_plain_input, inputs}
use Rattle.vlog_text.specs.Standing.{registers, driver}
use Rattle.vlog_text.specs.Standing.{number_of, word_wire}
use Rattle.vlog_names.specs.declared.firsts.Firsts.{Firsts}
use Rattle.vlog_names.specs.declared.kinds.Kinds.{Kinds}
use Rattle.vlog_names.specs.declared.wires.Numbers.{Numbers}
use Rattle.vlog_names.specs.Names.{first_in, kinds_in, kinds_of, is_plain, IsFirsts}
use Rattle.vlog_names.specs.Numbers.{AreNumbers, capped, names_input, names_output}
use Rattle.vlog_names.specs.Numbers.{driver_in, always_in}
use Rattle.vlog_names.specs.inner.Steps.{plain_name, reg_name}

pub map_position : {X : Type 0} (f : X → Option RawName) (w : List ℕ) (k : ℕ) (xs : List X)
    → position_from (drives w) k (map f xs) ≡ position_from (λ x. drives w (f x)) k xs
map_position f w k [] = refl
map_position f w k (x ∷ xs) = ap (λ o. cond (drives w (f x)) (Some k) o) (map_position f w (k + 1) xs)

pub plain_names : (raw : RawNetlist) (kinds : List ℕ → Kinds) → ((w : List ℕ) → kinds w ≡ kinds_of raw.decls w)
    → (ports : List RawName)
    → filter_map (plain_name kinds) ports ≡ filter (λ (n : RawName). is_plain_input raw n.word) ports
plain_names raw kinds knows [] = refl
plain_names raw kinds knows (n ∷ ns) =
    ap (λ (k : Kinds). cons_option (cond (is_plain k n.word) (Some n) None) (filter_map (plain_name kinds) ns))
    (knows n.word)
    ∙ go (is_plain_input raw n.word) (plain_names raw kinds knows ns)
  where
    go : (b : Bool) → filter_map (plain_name kinds) ns ≡ filter (λ (n : RawName). is_plain_input raw n.word) ns
        → cons_option (cond b (Some n) None) (filter_map (plain_name kinds) ns)
        ≡ cond b (n ∷ filter (λ (n : RawName). is_plain_input raw n.word) ns)
        (filter (λ (n : RawName). is_plain_input raw n.word) ns)
    go true e = ap (λ xs. n ∷ xs) e
    go false e = e

pub reg_names : (decls : List RawDecl) → filter_map reg_name decls
    ≡ map (λ (d : RawDecl). d.name) (filter (λ (d : RawDecl). is_reg d.kind) decls)
reg_names [] = refl
reg_names (d ∷ ds) = go (is_reg d.kind) (reg_names ds)
  where
    go : (b : Bool)
        → filter_map reg_name ds ≡ map (λ (d : RawDecl). d.name) (filter (λ (d : RawDecl). is_reg d.kind) ds)
        → cons_option (cond b (Some d.name) None) (filter_map reg_name ds)
        ≡ map (λ (d : RawDecl). d.name)
        (cond b (d ∷ filter (λ (d : RawDecl). is_reg d.kind) ds) (filter (λ (d : RawDecl). is_reg d.kind) ds))
    go true e = ap (λ xs. d.name ∷ xs) e
    go false e = e

pub position_within : {X : Type 0} (p : X → Bool) (k : ℕ) (xs : List X) (n : ℕ) → position_from p k xs ≡ Some n
    → n < k + length xs
position_within p k [] n e = cc
position_within p k (x ∷ xs) n e = go (p x) (λ h. position_within p (k + 1) xs n h) e
  where
    go : (b : Bool) → (position_from p (k + 1) xs ≡ Some n → n < k + 1 + length xs)
        → cond b (Some k) (position_from p (k + 1) xs) ≡ Some n → n < k + suc (length xs)
    go true more e = let same = same_Some k n e in omega arith
    go false more e = omega (arith, more e)

pub firsts_within : {X : Type 0} (f : X → Option RawName) (xs : List X) (firsts : Firsts) → IsFirsts (map f xs) firsts
    → (w : List ℕ) (n : ℕ) → first_in firsts w ≡ Some n → n < length xs
firsts_within f xs firsts are w n e =
    omega (arith, position_within (drives w) 0 (map f xs) n (sym (are.finds w) ∙ e), length-map xs f)

module _ (raw : RawNetlist) (numbers : Numbers) (are : AreNumbers raw numbers) (w : List ℕ) where
  some_number : (names : List RawName)
      → unwrap_or (position_from (drives w) 0 (map (λ (n : RawName). Some n) names)) 0 ≡ number_of names w
  some_number names = ap (λ o. unwrap_or o 0) (map_position (λ (n : RawName). Some n) w 0 names)

  pub plain_wire : (k : Kinds) (b : Bool) (n : ℕ) → k ≡ kinds_in numbers.kinds w → b ≡ is_plain k w → b ≡ true
      → n ≡ min (unwrap_or (first_in numbers.inputs w) 0) 255 → wire.Input n ≡ capped (word_wire raw w)
  plain_wire k b n e p t q =
      ap (λ m. wire.Input m) (q ∙ ap (λ o. min (unwrap_or o 0) 255) (are.inputs_are.finds w)
      ∙ ap (λ m. min m 255) (some_number (inputs raw)))
      ∙ ap (λ c. capped (cond c (wire.Input (number_of (inputs raw) w)) (cond (is_declared raw is_input w) wire.Reset
      (cond (is_declared raw is_reg w) (wire.Reg (number_of (registers raw) w)) (wire.Gate (driver raw w))))))
      (sym (sym (p ∙ ap (λ (k : Kinds). is_plain k w) (e ∙ are.kinds.knows w)) ∙ t))

  not_plain : (k : Kinds) (b : Bool) → k ≡ kinds_in numbers.kinds w → b ≡ is_plain k w → b ≡ false
      → capped (word_wire raw w) ≡ capped (cond (is_declared raw is_input w) wire.Reset
      (cond (is_declared raw is_reg w) (wire.Reg (number_of (registers raw) w)) (wire.Gate (driver raw w))))
  not_plain k b e p t =
      ap (λ c. capped (cond c (wire.Input (number_of (inputs raw) w)) (cond (is_declared raw is_input w) wire.Reset
      (cond (is_declared raw is_reg w) (wire.Reg (number_of (registers raw) w)) (wire.Gate (driver raw w))))))
      (sym (p ∙ ap (λ (k : Kinds). is_plain k w) (e ∙ are.kinds.knows w)) ∙ t)

  not_input : (k : Kinds) (b : Bool) → k ≡ kinds_in numbers.kinds w → b ≡ is_plain k w → b ≡ false → k.input ≡ false
      → capped (word_wire raw w) ≡ capped (cond (is_declared raw is_reg w) (wire.Reg (number_of (registers raw) w))
      (wire.Gate (driver raw w)))
  not_input k b e p t i =
      not_plain k b e p t
      ∙ ap (λ c. capped (cond c wire.Reset (cond (is_declared raw is_reg w) (wire.Reg (number_of (registers raw) w))
      (wire.Gate (driver raw w))))) (sym (ap (λ (k : Kinds). k.input) (e ∙ are.kinds.knows w)) ∙ i)

  pub reg_wire : (k : Kinds) (b : Bool) (n : ℕ) → k ≡ kinds_in numbers.kinds w → b ≡ is_plain k w → b ≡ false
      → k.input ≡ false → k.reg ≡ true → n ≡ unwrap_or (first_in numbers.registers w) 0
      → wire.Reg n ≡ capped (word_wire raw w)
  reg_wire k b n e p t i r q =
      ap (λ m. wire.Reg m) (q ∙ ap (λ o. unwrap_or o 0) (are.registers_are.finds w) ∙ some_number (registers raw))
      ∙ sym (not_input k b e p t i
      ∙ ap (λ c. capped (cond c (wire.Reg (number_of (registers raw) w)) (wire.Gate (driver raw w))))
      (sym (ap (λ (k : Kinds). k.reg) (e ∙ are.kinds.knows w)) ∙ r))

  pub gate_wire : (k : Kinds) (b : Bool) (n : ℕ) → k ≡ kinds_in numbers.kinds w → b ≡ is_plain k w → b ≡ false
      → k.input ≡ false → k.reg ≡ false → n ≡ unwrap_or (first_in numbers.gates w) 0
      → wire.Gate n ≡ capped (word_wire raw w)
  gate_wire k b n e p t i r q =
      ap (λ m. wire.Gate m) (q ∙ ap (λ o. unwrap_or o 0) (are.gates_are.finds w
      ∙ map_position (λ (g : RawGate). target_name g.target) w 0 raw.gates))
      ∙ sym (not_input k b e p t i
      ∙ ap (λ c. capped (cond c (wire.Reg (number_of (registers raw) w)) (wire.Gate (driver raw w))))
      (sym (ap (λ (k : Kinds). k.reg) (e ∙ are.kinds.knows w)) ∙ r))

-- ---- what the tables say of a word

module _ (raw : RawNetlist) (numbers : Numbers) (are : AreNumbers raw numbers) (w : List ℕ) where
  pub input_is : names_input numbers w ≡ is_plain_input raw w
  input_is = ap (λ (k : Kinds). is_plain k w) (are.kinds.knows w)

  pub output_is : names_output numbers w ≡ is_declared raw is_output w
  output_is = ap (λ (k : Kinds). k.output) (are.kinds.knows w)

  pub driver_is : driver_in numbers w ≡ driver raw w
  driver_is =
      ap (λ o. unwrap_or o 0)
      (are.gates_are.finds w ∙ map_position (λ (g : RawGate). target_name g.target) w 0 raw.gates)

  -- and of the `always` that drives it
  pub always_is : always_in numbers w ≡ position_from (λ (r : RawReg). has_word w r.target) 0 raw.regs
  always_is = are.regs_are.finds w ∙ map_position (λ (r : RawReg). Some r.target) w 0 raw.regs

  pub always_within : (n : ℕ) → Some n ≡ always_in numbers w → n < length raw.regs
  always_within n e = firsts_within (λ (r : RawReg). Some r.target) raw.regs numbers.regs are.regs_are w n (sym e)
