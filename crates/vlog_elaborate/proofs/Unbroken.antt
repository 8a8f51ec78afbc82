-- What an unbroken raw netlist has: each rule, said of its names.
use Rattle.std.proofs.Common.{◌≡◌, ℕ, zero, suc, ◌≤◌, Bool, true, false, not, ◌&&◌}
use Rattle.std.proofs.Common.{List, [], ◌∷◌, ◌++◌, length, map, filter, None, refl, sym, ap, ◌∙◌, subst, arith}
use Rattle.std.specs.Prelude.{◌||◌}
use Rattle.std.proofs.lemmas.List.Folds.{list_any-append}
use Rattle.std.proofs.lemmas.Bool.{and_from, and_parts, both_ways, or_left, or_right}
use Rattle.vlog_text.specs.declared.raw.DeclKind.{DeclKind}
use Rattle.vlog_text.specs.declared.raw.DeclKind.TheVariants as kind
use Rattle.vlog_text.specs.declared.raw.RawName.{RawName}
use Rattle.vlog_text.specs.declared.raw.RawDecl.{RawDecl}
use Rattle.vlog_text.specs.declared.raw.RawNetlist.{RawNetlist}
use Rattle.vlog_text.specs.Words.{has_word, is_named, repeated, decl_names, gate_targets, reg_targets, uses}
use Rattle.vlog_text.specs.Standing.{is_input, is_output, is_reg, is_port, is_clock, is_reset, is_declared}
use Rattle.vlog_text.specs.Standing.{is_plain_input}
use Rattle.vlog_text.specs.Standing.{inputs, registers, the_order}
use Rattle.vlog_text.specs.Refusing.{refusals, first_broken, rule_4, rule_5, rule_6, rule_7, rule_8, declared, at_place}
use Rattle.vlog_text.specs.Refusing.{left_out}
use Rattle.vlog_elaborate.proofs.NameLists.{Has}
use Rattle.vlog_elaborate.proofs.Earliest.{unrefused_is}
use Rattle.vlog_elaborate.proofs.NameLists.{same_word, word_is, left_empty, right_empty, any_has, has_any, has_filter}
use Rattle.vlog_elaborate.proofs.NameLists.{has_map, filter_none}
use Rattle.vlog_elaborate.proofs.NameLists.{named_has, has_named, Differ, once_differ}

pub record Unbroken (raw : RawNetlist) : Type 0 where
  pub decls_once : Differ (λ (n : RawName). n.word) (decl_names raw)
  pub ports_once : Differ (λ (n : RawName). n.word) raw.ports
  pub uses_declared : (n : RawName) → Has (uses raw) n → is_named (decl_names raw) n.word ≡ true
  pub ports_are : (n : RawName) → Has raw.ports n → is_declared raw (λ k. not (is_port k)) n.word ≡ false
  pub ports_listed : (d : RawDecl) → Has raw.decls d → is_port d.kind ≡ true → is_named raw.ports d.name.word ≡ true
  pub gates_drive : (n : RawName) → Has (gate_targets raw) n
      → is_declared raw (λ k. is_input k || is_reg k) n.word ≡ false
  pub regs_drive : (n : RawName) → Has (reg_targets raw) n → is_declared raw is_reg n.word ≡ true
  pub driven : (d : RawDecl) → Has raw.decls d → is_input d.kind ≡ false
      → is_named (gate_targets raw ++ reg_targets raw) d.name.word ≡ true
  pub ordered : left_out (the_order raw) 0 raw.gates ≡ []
  pub inputs_few : length
      (declared raw (λ d. is_input d.kind && not (is_clock d.name.word || is_reset d.name.word))) ≤ 64
  pub outputs_few : length (declared raw (λ d. is_output d.kind)) ≤ 128

no_refusals : (rule : ℕ) (names : List RawName) → refusals rule names ≡ [] → names ≡ []
no_refusals rule [] h = refl
no_refusals rule (x ∷ xs) h = cc

is_true : (b : Bool) → not b ≡ false → b ≡ true
is_true true h = refl
is_true false h = sym h

second_false : (a b : Bool) → a ≡ true → (a && b) ≡ false → b ≡ false
second_false true b e h = h
second_false false b e h = cc

none_declared : (raw : RawNetlist) (such : RawDecl → Bool) → declared raw such ≡ [] → (d : RawDecl) → Has raw.decls d
    → such d ≡ false
none_declared raw such h = filter_none such raw.decls (empty (filter such raw.decls) h)
  where
    empty : (ds : List RawDecl) → map (λ (d : RawDecl). d.name) ds ≡ [] → ds ≡ []
    empty [] h = refl
    empty (d ∷ ds) h = cc

place_past : (n : ℕ) (names : List RawName) → at_place n names ≡ [] → length names ≤ n
place_past n [] h = omega arith
place_past zero (x ∷ xs) h = cc
place_past (suc n) (x ∷ xs) h = let rest = place_past n xs h in omega arith

-- five lists that are empty
record AllEmpty {X : Type 0} (a b c d e : List X) : Type 0 where
  pub first : a ≡ []
  pub second : b ≡ []
  pub third : c ≡ []
  pub fourth : d ≡ []
  pub fifth : e ≡ []

all_empty : {X : Type 0} (a b c d e : List X) → a ++ b ++ c ++ d ++ e ≡ [] → AllEmpty a b c d e
all_empty a b c d e h =
    let to_d = left_empty (a ++ b ++ c ++ d) e h in
    let to_c = left_empty (a ++ b ++ c) d to_d in
    let to_b = left_empty (a ++ b) c to_c in
    record {
      first = left_empty a b to_b;
      second = right_empty a b to_b;
      third = right_empty (a ++ b) c to_c;
      fourth = right_empty (a ++ b ++ c) d to_d;
      fifth = right_empty (a ++ b ++ c ++ d) e h;
    }

abbrev undeclared : RawNetlist → List RawName
undeclared raw = filter (λ (n : RawName). not (is_named (decl_names raw) n.word)) (uses raw)

abbrev no_ports : RawNetlist → List RawName
no_ports raw = filter (λ (n : RawName). is_declared raw (λ k. not (is_port k)) n.word) raw.ports

abbrev is_unlisted : RawNetlist → RawDecl → Bool
is_unlisted raw d = is_port d.kind && not (is_named raw.ports d.name.word)

abbrev held : RawNetlist → List RawName
held raw = filter (λ (n : RawName). is_declared raw (λ k. is_input k || is_reg k) n.word) (gate_targets raw)

abbrev no_regs : RawNetlist → List RawName
no_regs raw = filter (λ (n : RawName). not (is_declared raw is_reg n.word)) (reg_targets raw)

abbrev is_undriven : RawNetlist → RawDecl → Bool
is_undriven raw d = not (is_input d.kind) && not (is_named (gate_targets raw ++ reg_targets raw) d.name.word)

abbrev plain_inputs : RawNetlist → List RawName
plain_inputs raw = declared raw (λ d. is_input d.kind && not (is_clock d.name.word || is_reset d.name.word))

abbrev all_outputs : RawNetlist → List RawName
all_outputs raw = declared raw (λ d. is_output d.kind)

pub unbroken_has : (raw : RawNetlist) → first_broken raw ≡ None → Unbroken raw
unbroken_has raw h =
    let all = all_empty (refusals 4 (rule_4 raw)) (refusals 5 (rule_5 raw)) (refusals 6 (rule_6 raw))
    (refusals 7 (rule_7 raw))
    (refusals 8 (rule_8 raw)) (unrefused_is raw h) in
    let r4 = all_empty (repeated [] (decl_names raw)) (repeated [] raw.ports) (undeclared raw) (no_ports raw)
    (declared raw (is_unlisted raw)) (no_refusals 4 (rule_4 raw) all.first) in
    let r5 = all_empty (repeated [] (gate_targets raw)) (repeated [] (reg_targets raw)) (held raw) (no_regs raw)
    (declared raw (is_undriven raw)) (no_refusals 5 (rule_5 raw) all.second) in
    let r8 = no_refusals 8 (rule_8 raw) all.fifth in
    record {
      decls_once = once_differ [] (decl_names raw) r4.first;
      ports_once = once_differ [] raw.ports r4.second;
      uses_declared = λ n has. is_true (is_named (decl_names raw) n.word)
          (filter_none (λ (n : RawName). not (is_named (decl_names raw) n.word)) (uses raw) r4.third n has);
      ports_are = filter_none (λ (n : RawName). is_declared raw (λ k. not (is_port k)) n.word) raw.ports r4.fourth;
      ports_listed = λ d has port. is_true (is_named raw.ports d.name.word)
          (second_false (is_port d.kind) (not (is_named raw.ports d.name.word)) port
          (none_declared raw (is_unlisted raw) r4.fifth d has));
      gates_drive =
          filter_none (λ (n : RawName). is_declared raw (λ k. is_input k || is_reg k) n.word) (gate_targets raw)
          r5.third;
      regs_drive = λ n has. is_true (is_declared raw is_reg n.word)
          (filter_none (λ (n : RawName). not (is_declared raw is_reg n.word)) (reg_targets raw) r5.fourth n has);
      driven = λ d has other. is_true (is_named (gate_targets raw ++ reg_targets raw) d.name.word)
          (second_false (not (is_input d.kind)) (not (is_named (gate_targets raw ++ reg_targets raw) d.name.word))
          (ap not other)
          (none_declared raw (is_undriven raw) r5.fifth d has));
      ordered = no_refusals 6 (rule_6 raw) all.third;
      inputs_few = place_past 64 (plain_inputs raw)
          (left_empty (at_place 64 (plain_inputs raw)) (at_place 128 (all_outputs raw)) r8);
      outputs_few = place_past 128 (all_outputs raw)
          (right_empty (at_place 64 (plain_inputs raw)) (at_place 128 (all_outputs raw)) r8);
    }

-- ---- declarations

pub declared_has : (raw : RawNetlist) (such : DeclKind → Bool) (w : List ℕ) → is_declared raw such w ≡ true
    → (d : RawDecl) × Has raw.decls d × (such d.kind ≡ true) × (d.name.word ≡ w)
declared_has raw such w h =
    let r = any_has (λ (d : RawDecl). such d.kind && has_word w d.name) raw.decls h in (
      r.0,
      r.1,
      (and_parts (such r.0.kind) (has_word w r.0.name) r.2).0,
      sym (same_word w r.0.name.word ((and_parts (such r.0.kind) (has_word w r.0.name) r.2).1)),
    )

pub has_declared : (raw : RawNetlist) (such : DeclKind → Bool) (w : List ℕ) (d : RawDecl) → Has raw.decls d
    → such d.kind ≡ true
    → d.name.word ≡ w → is_declared raw such w ≡ true
has_declared raw such w d has s e =
    has_any (λ (d : RawDecl). such d.kind && has_word w d.name) raw.decls d has
    (and_from (such d.kind) (has_word w d.name) s (word_is w d.name.word (sym e)))

pub other_declared : (raw : RawNetlist) (such other : DeclKind → Bool)
    → ((k : DeclKind) → such k ≡ true → other k ≡ true) → (w : List ℕ)
    → is_declared raw such w ≡ true → is_declared raw other w ≡ true
other_declared raw such other implies w h =
    let d = declared_has raw such w h in has_declared raw other w d.0 d.1 (implies d.0.kind d.2) d.3

module _ (raw : RawNetlist) (u : Unbroken raw) where
  -- what isn't an input nor a register is driven by a gate
  pub gate_driven : (w : List ℕ) (d : RawDecl) → Has raw.decls d → d.name.word ≡ w → is_input d.kind ≡ false
      → is_declared raw is_reg w ≡ false → is_named (gate_targets raw) w ≡ true
  gate_driven w d has e other unreg =
      either (is_named (gate_targets raw) w) refl
      (sym (list_any-append (has_word w) (gate_targets raw) (reg_targets raw))
      ∙ subst (λ v. is_named (gate_targets raw ++ reg_targets raw) v ≡ true) e (u.driven d has other))
    where
      either : (b : Bool) → is_named (gate_targets raw) w ≡ b → (b || is_named (reg_targets raw) w) ≡ true
          → is_named (gate_targets raw) w ≡ true
      either true s h = s
      either false s h =
          let n = named_has (reg_targets raw) w h in
          absurd (both_ways (is_declared raw is_reg w) unreg
          (subst (λ v. is_declared raw is_reg v ≡ true) n.2 (u.regs_drive n.0 n.1)))

  pub register_driven : (w : List ℕ) → is_declared raw is_reg w ≡ true → is_named (reg_targets raw) w ≡ true
  register_driven w reg =
      let d = declared_has raw is_reg w reg in
      either (is_named (gate_targets raw) w) refl
      (sym (list_any-append (has_word w) (gate_targets raw) (reg_targets raw))
      ∙ subst (λ v. is_named (gate_targets raw ++ reg_targets raw) v ≡ true) d.3
      (u.driven d.0 d.1 (no_input d.0.kind d.2)))
    where
      no_input : (k : DeclKind) → is_reg k ≡ true → is_input k ≡ false
      no_input kind.Input h = sym h
      no_input kind.Output h = refl
      no_input kind.Wire h = refl
      no_input kind.Reg h = refl

      either : (b : Bool) → is_named (gate_targets raw) w ≡ b → (b || is_named (reg_targets raw) w) ≡ true
          → is_named (reg_targets raw) w ≡ true
      either true s h =
          let n = named_has (gate_targets raw) w s in
          absurd (both_ways (is_declared raw (λ k. is_input k || is_reg k) w)
          (subst (λ v. is_declared raw (λ k. is_input k || is_reg k) v ≡ false) n.2 (u.gates_drive n.0 n.1))
          (other_declared raw is_reg (λ k. is_input k || is_reg k) (λ k r. or_right (is_input k) (is_reg k) r) w reg))
      either false s h = h

  pub input_listed : (w : List ℕ) → is_plain_input raw w ≡ true → is_named (inputs raw) w ≡ true
  input_listed w h =
      let d = declared_has raw is_input w
      (and_parts (is_declared raw is_input w) (not (is_clock w || is_reset w)) h).0 in
      let n = named_has raw.ports d.0.name.word
      (u.ports_listed d.0 d.1 (or_left (is_input d.0.kind) (is_output d.0.kind) d.2)) in
      has_named (inputs raw) w n.0
      (has_filter (λ (n : RawName). is_plain_input raw n.word) raw.ports n.0 n.1
      (subst (λ v. is_plain_input raw v ≡ true) (sym (n.2 ∙ d.3)) h)) (n.2 ∙ d.3)

  pub register_listed : (w : List ℕ) → is_declared raw is_reg w ≡ true → is_named (registers raw) w ≡ true
  register_listed w h =
      let d = declared_has raw is_reg w h in
      has_named (registers raw) w d.0.name
      (has_map (λ (d : RawDecl). d.name) (filter (λ (d : RawDecl). is_reg d.kind) raw.decls) d.0
      (has_filter (λ (d : RawDecl). is_reg d.kind) raw.decls d.0 d.1 d.2)) d.3
