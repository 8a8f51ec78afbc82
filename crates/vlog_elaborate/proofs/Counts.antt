-- How many inputs, outputs and registers an unbroken raw netlist has.
use Rattle.std.proofs.Common.{◌≡◌, ℕ, ◌≤◌, Bool, true, not, ◌&&◌, List, length, map, filter}
use Rattle.std.proofs.Common.{sym, ◌∙◌, subst, arith}
use Rattle.std.specs.Prelude.{◌||◌}
use Rattle.std.specs.List.{list_any}
use Rattle.std.specs.Str.{bytes_eq}
use Rattle.std.proofs.lemmas.Cmp.{nat_list_eq_equiv}
use Rattle.std.proofs.lemmas.List.{length-map}
use Rattle.std.proofs.lemmas.Map.Made.{length-le_from_is_member}
use Rattle.std.proofs.lemmas.Bool.{and_from, and_parts}
use Rattle.vlog_text.specs.declared.raw.DeclKind.{DeclKind}
use Rattle.vlog_text.specs.declared.raw.RawName.{RawName}
use Rattle.vlog_text.specs.declared.raw.RawDecl.{RawDecl}
use Rattle.vlog_text.specs.declared.raw.RawReg.{RawReg}
use Rattle.vlog_text.specs.declared.raw.RawNetlist.{RawNetlist}
use Rattle.vlog_text.specs.Words.{reg_targets}
use Rattle.vlog_text.specs.Standing.{is_input, is_output, is_reg, is_clock, is_reset, is_declared, is_plain_input}
use Rattle.vlog_text.specs.Standing.{inputs, outputs}
use Rattle.vlog_text.specs.Standing.{registers}
use Rattle.vlog_text.specs.Refusing.{declared}
use Rattle.vlog_elaborate.proofs.NameLists.{Has}
use Rattle.vlog_elaborate.proofs.NameLists.{same_word, word_is, any_has, has_any, has_filter, filter_has, has_map}
use Rattle.vlog_elaborate.proofs.NameLists.{map_at}
use Rattle.vlog_elaborate.proofs.NameLists.{named_has}
use Rattle.vlog_elaborate.proofs.NameLists.{differ_filter, differ_map, differ_distinct}
use Rattle.vlog_elaborate.proofs.Unbroken.{Unbroken, declared_has, has_declared, register_driven}

-- an item of the list has the word
map_any : {X : Type 0} (f : X → List ℕ) (xs : List X) (q : List ℕ) → list_any (bytes_eq q) (map f xs) ≡ true
    → (x : X) × Has xs x × (q ≡ f x)
map_any f xs q h =
    let y = any_has (bytes_eq q) (map f xs) h in
    let x = map_at f xs y.1.place y.0 y.1.is in
    (x.0, record { place = y.1.place; is = x.1 }, same_word q y.0 y.2 ∙ x.2)

any_map : {X : Type 0} (f : X → List ℕ) (xs : List X) (q : List ℕ) (x : X) → Has xs x → q ≡ f x
    → list_any (bytes_eq q) (map f xs) ≡ true
any_map f xs q x has e = has_any (bytes_eq q) (map f xs) (f x) (has_map f xs x has) (word_is q (f x) e)

module _ (raw : RawNetlist) (u : Unbroken raw) where
  -- ports of one kind are no more than such declarations
  few_ports : (such : DeclKind → Bool) (p : List ℕ → Bool) (test : RawDecl → Bool)
      → ((w : List ℕ) → p w ≡ true → is_declared raw such w ≡ true)
      → ((d : RawDecl) → such d.kind ≡ true → p d.name.word ≡ true → test d ≡ true)
      → length (filter (λ (n : RawName). p n.word) raw.ports) ≤ length (declared raw test)
  few_ports such p test is tests =
      let ports = filter (λ (n : RawName). p n.word) raw.ports in
      let few = length-le_from_is_member nat_list_eq_equiv (map (λ (n : RawName). n.word) ports)
      (map (λ (n : RawName). n.word) (declared raw test))
      (differ_distinct (λ (n : RawName). n.word) ports
      (differ_filter (λ (n : RawName). n.word) (λ (n : RawName). p n.word) raw.ports u.ports_once))
      (λ q h. member q h) in
      omega
      (arith, few, length-map ports (λ (n : RawName). n.word), length-map (declared raw test) (λ (n : RawName). n.word))
    where
      member : (q : List ℕ)
          → list_any (bytes_eq q) (map (λ (n : RawName). n.word) (filter (λ (n : RawName). p n.word) raw.ports)) ≡ true
          → list_any (bytes_eq q) (map (λ (n : RawName). n.word) (declared raw test)) ≡ true
      member q h =
          let n = map_any (λ (n : RawName). n.word) (filter (λ (n : RawName). p n.word) raw.ports) q h in
          let passes = (filter_has (λ (n : RawName). p n.word) raw.ports n.0 n.1).1 in
          let d = declared_has raw such n.0.word (is n.0.word passes) in
          let kept = has_filter test raw.decls d.0 d.1 (tests d.0 d.2 (subst (λ w. p w ≡ true) (sym d.3) passes)) in
          any_map (λ (n : RawName). n.word) (declared raw test) q d.0.name
          (has_map (λ (d : RawDecl). d.name) (filter test raw.decls) d.0 kept) (n.2 ∙ sym d.3)

  pub few_inputs : length (inputs raw) ≤ 64
  few_inputs =
      let few = few_ports is_input (is_plain_input raw)
      (λ (d : RawDecl). is_input d.kind && not (is_clock d.name.word || is_reset d.name.word))
      (λ w h. (and_parts (is_declared raw is_input w) (not (is_clock w || is_reset w)) h).0)
      (λ d s h. and_from (is_input d.kind) (not (is_clock d.name.word || is_reset d.name.word)) s
      ((and_parts (is_declared raw is_input d.name.word) (not (is_clock d.name.word || is_reset d.name.word)) h).1)) in
      omega (arith, few, u.inputs_few)

  pub few_outputs : length (outputs raw) ≤ 128
  few_outputs =
      let few = few_ports is_output (λ w. is_declared raw is_output w) (λ (d : RawDecl). is_output d.kind) (λ w h. h)
      (λ d s h. s) in
      omega (arith, few, u.outputs_few)

  pub few_registers : length (registers raw) ≤ length raw.regs
  few_registers =
      let few = length-le_from_is_member nat_list_eq_equiv (map (λ (d : RawDecl). d.name.word) regs)
      (map (λ (n : RawName). n.word) (reg_targets raw))
      (differ_distinct (λ (d : RawDecl). d.name.word) regs
      (differ_filter (λ (d : RawDecl). d.name.word) (λ (d : RawDecl). is_reg d.kind) raw.decls
      (differ_map (λ (n : RawName). n.word) (λ (d : RawDecl). d.name) raw.decls u.decls_once)))
      (λ q h. member q h) in
      omega (
        arith,
        few,
        length-map regs (λ (d : RawDecl). d.name.word),
        length-map (reg_targets raw) (λ (n : RawName). n.word),
        length-map regs (λ (d : RawDecl). d.name),
        length-map raw.regs (λ (r : RawReg). r.target),
      )
    where
      regs : List RawDecl
      regs = filter (λ (d : RawDecl). is_reg d.kind) raw.decls

      member : (q : List ℕ) → list_any (bytes_eq q) (map (λ (d : RawDecl). d.name.word) regs) ≡ true
          → list_any (bytes_eq q) (map (λ (n : RawName). n.word) (reg_targets raw)) ≡ true
      member q h =
          let d = map_any (λ (d : RawDecl). d.name.word) regs q h in
          let has = filter_has (λ (d : RawDecl). is_reg d.kind) raw.decls d.0 d.1 in
          let n = named_has (reg_targets raw) q
          (register_driven raw u q (has_declared raw is_reg q d.0 has.0 has.1 (sym d.2))) in
          any_map (λ (n : RawName). n.word) (reg_targets raw) q n.0 n.1 (sym n.2)
