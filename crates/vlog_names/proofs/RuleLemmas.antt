-- The lists of rules 4 and 5, part by part.
use Rattle.std.proofs.Common.{◌≡◌, ℕ, Bool, not, ◌&&◌, List, [], ◌++◌, map, filter}
use Rattle.std.proofs.Common.{Option, Some, None, sym, ap, ◌∙◌}
use Rattle.std.specs.Prelude.{◌||◌, is_some}
use Rattle.std.specs.List.{filter_map, flat_map, position_from}
use Rattle.std.proofs.lemmas.List.Folds.{list_any-append}
use Rattle.pbs_base.specs.declared.refusal.Refusal.{Refusal}
use Rattle.vlog_text.specs.declared.raw.RawName.{RawName}
use Rattle.vlog_text.specs.declared.raw.RawDecl.{RawDecl}
use Rattle.vlog_text.specs.declared.raw.RawGate.{RawGate}
use Rattle.vlog_text.specs.declared.raw.RawReg.{RawReg}
use Rattle.vlog_text.specs.declared.raw.RawNetlist.{RawNetlist}
use Rattle.vlog_text.specs.Words.{has_word, is_named, repeated, uses, decl_names, gate_targets, reg_targets}
use Rattle.vlog_text.specs.Words.{pin_name, target_name}
use Rattle.vlog_text.specs.Standing.{drives, is_input, is_reg, is_port, is_declared}
use Rattle.vlog_text.specs.Refusing.{earliest, refusals, rule_4, rule_5, declared}
use Rattle.vlog_names.specs.declared.kinds.Kinds.{Kinds}
use Rattle.vlog_names.specs.declared.firsts.Firsts.{Firsts}
use Rattle.vlog_names.specs.declared.rows.Fault.{Fault}
use Rattle.vlog_names.specs.declared.rows.Fault.TheVariants as fault
use Rattle.vlog_names.specs.Names.{kinds_of, first_in, IsFirsts}
use Rattle.vlog_names.specs.inner.Steps.{is_any}
use Rattle.vlog_names.specs.inner.Rows.{faulty}
use Rattle.vlog_names.proofs.Noting.{noted_both, faulty_both}
use Rattle.vlog_names.proofs.KindLemmas.{any_is, inner_is, held_is}
use Rattle.vlog_names.proofs.Entries.{found_of, all_present, mapped_present}

pub then_noted : (rule : ℕ) (found mid last : Option Refusal) (xs ys : List RawName)
    → mid ≡ earliest found (refusals rule xs) → last ≡ earliest mid (refusals rule ys)
    → last ≡ earliest found (refusals rule (xs ++ ys))
then_noted rule found mid last xs ys e f =
    f ∙ ap (λ o. earliest o (refusals rule ys)) e ∙ sym (noted_both found rule xs ys)

then_faulty : (fault : Fault) (kinds : List ℕ → Kinds) (rule : ℕ) (found mid last : Option Refusal)
    (xs ys : List RawName) → mid ≡ earliest found (refusals rule (faulty fault kinds xs))
    → last ≡ earliest mid (refusals rule (faulty fault kinds ys))
    → last ≡ earliest found (refusals rule (faulty fault kinds (xs ++ ys)))
then_faulty fault kinds rule found mid last xs ys e f =
    then_noted rule found mid last (faulty fault kinds xs) (faulty fault kinds ys) e f
    ∙ ap (λ ns. earliest found (refusals rule ns)) (sym (faulty_both fault kinds xs ys))

-- the operands that have a fault
pub operands_noted : (fault : Fault) (kinds : List ℕ → Kinds) (rule : ℕ) (found f g : Option Refusal)
    (gates gates' : List RawGate) (regs regs' : List RawReg) → gates' ≡ gates → regs' ≡ regs
    → f ≡ earliest found (refusals rule (faulty fault kinds
    (flat_map (λ (g : RawGate). filter_map pin_name g.pins) gates')))
    → g ≡ earliest f (refusals rule (faulty fault kinds (filter_map (λ (r : RawReg). pin_name r.wire) regs')))
    → g ≡ earliest found (refusals rule (faulty fault kinds
    (flat_map (λ (g : RawGate). filter_map pin_name g.pins) gates
    ++ filter_map (λ (r : RawReg). pin_name r.wire) regs)))
operands_noted fault kinds rule found f g gates gates' regs regs' p q e h =
    then_faulty fault kinds rule found f g _ _
    (e ∙ ap (λ gs. earliest found (refusals rule (faulty fault kinds
    (flat_map (λ (g : RawGate). filter_map pin_name g.pins) gs)))) p)
    (h ∙ ap (λ rs. earliest f (refusals rule (faulty fault kinds
    (filter_map (λ (r : RawReg). pin_name r.wire) rs)))) q)

pub uses_noted : (fault : Fault) (kinds : List ℕ → Kinds) (rule : ℕ) (raw : RawNetlist)
    (found f1 f2 f3 f4 f5 : Option Refusal) (ports : List RawName) (gates gates' : List RawGate)
    (regs regs' : List RawReg) → ports ≡ raw.ports → gates ≡ raw.gates → regs ≡ raw.regs
    → gates' ≡ raw.gates → regs' ≡ raw.regs
    → f1 ≡ earliest found (refusals rule (faulty fault kinds ports))
    → f2 ≡ earliest f1 (refusals rule (faulty fault kinds
    (filter_map (λ (g : RawGate). target_name g.target) gates)))
    → f3 ≡ earliest f2 (refusals rule (faulty fault kinds (map (λ (r : RawReg). r.target) regs)))
    → f4 ≡ earliest f3 (refusals rule (faulty fault kinds
    (flat_map (λ (g : RawGate). filter_map pin_name g.pins) gates')))
    → f5 ≡ earliest f4 (refusals rule (faulty fault kinds (filter_map (λ (r : RawReg). pin_name r.wire) regs')))
    → f5 ≡ earliest found (refusals rule (faulty fault kinds (uses raw)))
uses_noted fault kinds rule raw found f1 f2 f3 f4 f5 ports gates gates' regs regs' p q r s t e1 e2 e3 e4 e5 =
    then_faulty fault kinds rule found f3 f5 (raw.ports ++ gate_targets raw ++ reg_targets raw) _
    (then_faulty fault kinds rule found f2 f3 (raw.ports ++ gate_targets raw) (reg_targets raw)
    (then_faulty fault kinds rule found f1 f2 raw.ports (gate_targets raw)
    (e1 ∙ ap (λ ns. earliest found (refusals rule (faulty fault kinds ns))) p)
    (e2 ∙ ap (λ gs. earliest f1 (refusals rule (faulty fault kinds
    (filter_map (λ (g : RawGate). target_name g.target) gs)))) q))
    (e3 ∙ ap (λ rs. earliest f2 (refusals rule (faulty fault kinds (map (λ (r : RawReg). r.target) rs)))) r))
    (operands_noted fault kinds rule f3 f4 f5 raw.gates gates' raw.regs regs' s t e4 e5)

-- ---- what the faults are

filtered : (f g : List ℕ → Bool) (names : List RawName) → ((w : List ℕ) → f w ≡ g w)
    → filter (λ (n : RawName). f n.word) names ≡ filter (λ (n : RawName). g n.word) names
filtered f g names h = ap (λ (t : List ℕ → Bool). filter (λ (n : RawName). t n.word) names) (λ i w. h w i)

picked : (f g : List ℕ → Bool) (k : RawDecl → Bool → Bool) (decls : List RawDecl) → ((w : List ℕ) → f w ≡ g w)
    → map (λ (d : RawDecl). d.name) (filter (λ (d : RawDecl). k d (f d.name.word)) decls)
    ≡ map (λ (d : RawDecl). d.name) (filter (λ (d : RawDecl). k d (g d.name.word)) decls)
picked f g k decls h =
    ap (λ (t : List ℕ → Bool). map (λ (d : RawDecl). d.name) (filter (λ (d : RawDecl). k d (t d.name.word)) decls))
    (λ i w. h w i)

module _ (raw : RawNetlist) (kinds : List ℕ → Kinds) (knows : (w : List ℕ) → kinds w ≡ kinds_of raw.decls w) where
  undeclared_is : (names : List RawName) → faulty fault.Undeclared kinds names
      ≡ filter (λ (n : RawName). not (is_named (decl_names raw) n.word)) names
  undeclared_is names = filtered _ _ names (λ w. ap (λ k. not (is_any k)) (knows w) ∙ ap not (any_is raw.decls w))

  not_port_is : (names : List RawName) → faulty fault.NotPort kinds names
      ≡ filter (λ (n : RawName). is_declared raw (λ k. not (is_port k)) n.word) names
  not_port_is names = filtered _ _ names (λ w. ap (λ (k : Kinds). k.wire || k.reg) (knows w) ∙ inner_is raw.decls w)

  held_names : (names : List RawName) → faulty fault.InputOrReg kinds names
      ≡ filter (λ (n : RawName). is_declared raw (λ k. is_input k || is_reg k) n.word) names
  held_names names = filtered _ _ names (λ w. ap (λ (k : Kinds). k.input || k.reg) (knows w) ∙ held_is raw.decls w)

  not_reg_is : (names : List RawName) → faulty fault.NotReg kinds names
      ≡ filter (λ (n : RawName). not (is_declared raw is_reg n.word)) names
  not_reg_is names = filtered _ _ names (λ w. ap (λ (k : Kinds). not k.reg) (knows w))

  pub rule_4_noted : (listed : Firsts) → IsFirsts (map (λ (n : RawName). Some n) raw.ports) listed
      → (decls decls' : List RawDecl) (ports ports' : List RawName) → decls ≡ raw.decls → ports ≡ raw.ports
      → ports' ≡ raw.ports → decls' ≡ raw.decls → (f1 f2 f3 f4 f5 : Option Refusal)
      → f1 ≡ earliest None (refusals 4 (repeated [] (map (λ (d : RawDecl). d.name) decls)))
      → f2 ≡ earliest f1 (refusals 4 (repeated [] ports))
      → f3 ≡ earliest f2 (refusals 4 (faulty fault.Undeclared kinds (uses raw)))
      → f4 ≡ earliest f3 (refusals 4 (faulty fault.NotPort kinds ports'))
      → f5 ≡ earliest f4 (refusals 4 (map (λ (d : RawDecl). d.name) (filter
      (λ (d : RawDecl). is_port d.kind && not (is_some (first_in listed d.name.word))) decls')))
      → f5 ≡ earliest None (refusals 4 (rule_4 raw))
  rule_4_noted listed firsts decls decls' ports ports' p q r s f1 f2 f3 f4 f5 e1 e2 e3 e4 e5 =
      then_noted 4 None f4 f5 (repeated [] (decl_names raw) ++ repeated [] raw.ports ++ unknown ++ inner) unlisted
      (then_noted 4 None f3 f4 (repeated [] (decl_names raw) ++ repeated [] raw.ports ++ unknown) inner
      (then_noted 4 None f2 f3 (repeated [] (decl_names raw) ++ repeated [] raw.ports) unknown
      (then_noted 4 None f1 f2 (repeated [] (decl_names raw)) (repeated [] raw.ports)
      (e1 ∙ ap (λ ds. earliest None (refusals 4 (repeated [] (map (λ (d : RawDecl). d.name) ds)))) p)
      (e2 ∙ ap (λ ns. earliest f1 (refusals 4 (repeated [] ns))) q))
      (e3 ∙ ap (λ ns. earliest f2 (refusals 4 ns)) (undeclared_is (uses raw))))
      (e4 ∙ ap (λ ns. earliest f3 (refusals 4 (faulty fault.NotPort kinds ns))) r
      ∙ ap (λ ns. earliest f3 (refusals 4 ns)) (not_port_is raw.ports)))
      (e5 ∙ ap (λ ds. earliest f4 (refusals 4 (map (λ (d : RawDecl). d.name) (filter
      (λ (d : RawDecl). is_port d.kind && not (is_some (first_in listed d.name.word))) ds)))) s
      ∙ ap (λ ns. earliest f4 (refusals 4 ns))
      (picked (λ w. is_some (first_in listed w)) (is_named raw.ports)
      (λ (d : RawDecl) b. is_port d.kind && not b) raw.decls is_listed))
    where
      unknown : List RawName
      unknown = filter (λ (n : RawName). not (is_named (decl_names raw) n.word)) (uses raw)

      inner : List RawName
      inner = filter (λ (n : RawName). is_declared raw (λ k. not (is_port k)) n.word) raw.ports

      unlisted : List RawName
      unlisted = declared raw (λ d. is_port d.kind && not (is_named raw.ports d.name.word))

      is_listed : (w : List ℕ) → is_some (first_in listed w) ≡ is_named raw.ports w
      is_listed w = ap (λ o. is_some o) (firsts.finds w) ∙ found_of (λ (n : RawName). Some n) w 0 raw.ports
          ∙ ap (λ ns. is_named ns w) (all_present raw.ports)

  pub rule_5_noted : (gates regs : Firsts) → IsFirsts (map (λ (g : RawGate). target_name g.target) raw.gates) gates
      → IsFirsts (map (λ (r : RawReg). Some r.target) raw.regs) regs
      → (gs gs' : List RawGate) (rs rs' : List RawReg) (ds : List RawDecl) → gs ≡ raw.gates → rs ≡ raw.regs
      → gs' ≡ raw.gates → rs' ≡ raw.regs → ds ≡ raw.decls → (f1 f2 f3 f4 f5 : Option Refusal)
      → f1 ≡ earliest None (refusals 5 (repeated [] (filter_map (λ (g : RawGate). target_name g.target) gs)))
      → f2 ≡ earliest f1 (refusals 5 (repeated [] (map (λ (r : RawReg). r.target) rs)))
      → f3 ≡ earliest f2 (refusals 5 (faulty fault.InputOrReg kinds
      (filter_map (λ (g : RawGate). target_name g.target) gs')))
      → f4 ≡ earliest f3 (refusals 5 (faulty fault.NotReg kinds (map (λ (r : RawReg). r.target) rs')))
      → f5 ≡ earliest f4 (refusals 5 (map (λ (d : RawDecl). d.name) (filter
      (λ (d : RawDecl). not (is_input d.kind) && not (is_some (first_in gates d.name.word)
      || is_some (first_in regs d.name.word))) ds)))
      → f5 ≡ earliest None (refusals 5 (rule_5 raw))
  rule_5_noted gates regs by_gate by_reg gs gs' rs rs' ds p q r s t f1 f2 f3 f4 f5 e1 e2 e3 e4 e5 =
      then_noted 5 None f4 f5 (repeated [] (gate_targets raw) ++ repeated [] (reg_targets raw) ++ held ++ others) left
      (then_noted 5 None f3 f4 (repeated [] (gate_targets raw) ++ repeated [] (reg_targets raw) ++ held) others
      (then_noted 5 None f2 f3 (repeated [] (gate_targets raw) ++ repeated [] (reg_targets raw)) held
      (then_noted 5 None f1 f2 (repeated [] (gate_targets raw)) (repeated [] (reg_targets raw))
      (e1 ∙ ap (λ xs. earliest None (refusals 5 (repeated []
      (filter_map (λ (g : RawGate). target_name g.target) xs)))) p)
      (e2 ∙ ap (λ xs. earliest f1 (refusals 5 (repeated [] (map (λ (r : RawReg). r.target) xs)))) q))
      (e3 ∙ ap (λ xs. earliest f2 (refusals 5 (faulty fault.InputOrReg kinds
      (filter_map (λ (g : RawGate). target_name g.target) xs)))) r
      ∙ ap (λ ns. earliest f2 (refusals 5 ns)) (held_names (gate_targets raw))))
      (e4 ∙ ap (λ xs. earliest f3 (refusals 5 (faulty fault.NotReg kinds (map (λ (r : RawReg). r.target) xs)))) s
      ∙ ap (λ ns. earliest f3 (refusals 5 ns)) (not_reg_is (reg_targets raw))))
      (e5 ∙ ap (λ xs. earliest f4 (refusals 5 (map (λ (d : RawDecl). d.name) (filter
      (λ (d : RawDecl). not (is_input d.kind) && not (is_some (first_in gates d.name.word)
      || is_some (first_in regs d.name.word))) xs)))) t
      ∙ ap (λ ns. earliest f4 (refusals 5 ns))
      (picked (λ w. is_some (first_in gates w) || is_some (first_in regs w))
      (is_named (gate_targets raw ++ reg_targets raw))
      (λ (d : RawDecl) b. not (is_input d.kind) && not b) raw.decls is_driven))
    where
      held : List RawName
      held = filter (λ (n : RawName). is_declared raw (λ k. is_input k || is_reg k) n.word) (gate_targets raw)

      others : List RawName
      others = filter (λ (n : RawName). not (is_declared raw is_reg n.word)) (reg_targets raw)

      left : List RawName
      left = declared raw
          (λ d. not (is_input d.kind) && not (is_named (gate_targets raw ++ reg_targets raw) d.name.word))

      is_driven : (w : List ℕ) → (is_some (first_in gates w) || is_some (first_in regs w))
          ≡ is_named (gate_targets raw ++ reg_targets raw) w
      is_driven w =
          ap (λ o. is_some o || is_some (first_in regs w)) (by_gate.finds w)
          ∙ ap (λ o. is_some (position_from (drives w) 0 (map (λ (g : RawGate). target_name g.target) raw.gates))
          || is_some o) (by_reg.finds w)
          ∙ ap (λ b. b || is_some (position_from (drives w) 0 (map (λ (r : RawReg). Some r.target) raw.regs)))
          (found_of (λ (g : RawGate). target_name g.target) w 0 raw.gates)
          ∙ ap (λ b. is_named (gate_targets raw) w || b)
          (found_of (λ (r : RawReg). Some r.target) w 0 raw.regs
          ∙ ap (λ ns. is_named ns w) (mapped_present (λ (r : RawReg). r.target) raw.regs))
          ∙ sym (list_any-append (has_word w) (gate_targets raw) (reg_targets raw))
