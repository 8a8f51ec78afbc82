-- The names of the ports of a controller.
use Rattle.std.proofs.Common.{◌≡◌, ℕ, ◌≤◌, List, [], ◌∷◌, ◌++◌, length, true, Some, inl, inr, refl, sym}
use Rattle.std.proofs.Common.{subst, ap, ◌∙◌, arith}
use Rattle.std.specs.Prelude.{codes, slice_get}
use Rattle.std.proofs.lemmas.Bool.Decides.{nat_tests}
use Rattle.pbs_base.specs.Words.{AreDifferent}
use Rattle.net_core.specs.Circuits.{Circuit, output_names}
use Rattle.pbs_text.specs.Lexing.{is_word_byte}
use Rattle.pbs_controller.specs.Ports.{ports_of, output_ports}
use Rattle.pbs_controller.proofs.PortLemmas.{both_differ, outputs_differ, ports_differ}
use Rattle.vlog_text.specs.Lexing.{is_name_byte}
use Rattle.vlog_text.specs.PortNames.{IsPortName, port_names, HasPortNames}
use Rattle.vlog_write.specs.NamedPins.{HasShortNames}
use Rattle.pbs_realize.specs.inner.NameWords.{IsWord, AreWords}
use Rattle.pbs_realize.proofs.Lists.{get-append, get-map, all_so}

name_byte : (b : ℕ) → is_word_byte b ≡ true → is_name_byte b ≡ true
name_byte b h = grind (arith, nat_tests)

abbrev in_port : List ℕ → List ℕ
in_port name = codes "i_" ++ name

abbrev action_port : List ℕ → List ℕ
action_port name = codes "a_" ++ name

abbrev level_port : List ℕ → List ℕ
level_port name = codes "o_" ++ name

-- a short name of a port
record IsPort (word : List ℕ) : Type 0 where
  port : IsPortName word
  short : length word ≤ 68

in_is : (name : List ℕ) → IsWord 66 name → IsPort (in_port name)
in_is name w = let few = w.short in record {
  port = record {
    short = omega arith;
    bytes = all_so is_word_byte is_name_byte name name_byte w.bytes;
    prefix = refl;
  };
  short = omega arith;
}

action_is : (name : List ℕ) → IsWord 64 name → IsPort (action_port name)
action_is name w = let few = w.short in record {
  port = record {
    short = omega arith;
    bytes = all_so is_word_byte is_name_byte name name_byte w.bytes;
    prefix = refl;
  };
  short = omega arith;
}

level_is : (name : List ℕ) → IsWord 64 name → IsPort (level_port name)
level_is name w = let few = w.short in record {
  port = record {
    short = omega arith;
    bytes = all_so is_word_byte is_name_byte name name_byte w.bytes;
    prefix = refl;
  };
  short = omega arith;
}

-- names of two bytes more are ports
each_of : (prefix : List ℕ) (most : ℕ) (names : List (List ℕ)) → AreWords most names
    → ((name : List ℕ) → IsWord most name → IsPort (prefix ++ name)) → (n : ℕ) (word : List ℕ)
    → slice_get (ports_of prefix names) n ≡ Some word → IsPort word
each_of prefix most names words is n word at =
    let x = get-map (λ name. prefix ++ name) names n word at in subst IsPort x.2 (is x.0 (words.each n x.0 x.1))

abbrev first_letter : List ℕ → ℕ
first_letter [] = 0
first_letter (b ∷ bs) = b

-- a port begins as its prefix
begins_as : (letter : ℕ) (rest : List ℕ) (names : List (List ℕ)) (n : ℕ) (word : List ℕ)
    → slice_get (ports_of (letter ∷ rest) names) n ≡ Some word → first_letter word ≡ letter
begins_as letter rest names n word at =
    let x = get-map (λ name. (letter ∷ rest) ++ name) names n word at in ap first_letter (sym x.2)

-- the ports of a netlist are those of these inputs, actions and levels
pub record HasPorts (net : Circuit) (ins actions levels : List (List ℕ)) : Type 0 where
  pub inputs : net.inputs ≡ ports_of (codes "i_") ins
  pub outputs : output_names net ≡ output_ports actions levels
  pub in_words : AreWords 66 ins
  pub action_words : AreWords 64 actions
  pub level_words : AreWords 64 levels
  pub ins_differ : AreDifferent ins
  pub actions_differ : AreDifferent actions
  pub levels_differ : AreDifferent levels

module _ (net : Circuit) (ins actions levels : List (List ℕ)) (h : HasPorts net ins actions levels) where
  abbrev in_ports : List (List ℕ)
  in_ports = ports_of (codes "i_") ins

  abbrev action_ports : List (List ℕ)
  action_ports = ports_of (codes "a_") actions

  abbrev level_ports : List (List ℕ)
  level_ports = ports_of (codes "o_") levels

  each_output : (n : ℕ) (word : List ℕ) → slice_get (output_ports actions levels) n ≡ Some word → IsPort word
  each_output n word at = elim (get-append action_ports level_ports n word at) [
    | inl p ↦ each_of (codes "a_") 64 actions h.action_words action_is n word p
    | inr p ↦ each_of (codes "o_") 64 levels h.level_words level_is p.0 word p.2
  ]

  each_port : (n : ℕ) (word : List ℕ) → slice_get (in_ports ++ output_ports actions levels) n ≡ Some word → IsPort word
  each_port n word at = elim (get-append in_ports (output_ports actions levels) n word at) [
    | inl p ↦ each_of (codes "i_") 66 ins h.in_words in_is n word p
    | inr p ↦ each_output p.0 word p.2
  ]

  no_input : (n : ℕ) (word : List ℕ) → first_letter word ≡ 105
      → slice_get (output_ports actions levels) n ≡ Some word → ⊥
  no_input n word begins at = elim (get-append action_ports level_ports n word at) [
    | inl p ↦ let other = begins_as 97 (95 ∷ []) actions n word p in omega (arith, begins, other)
    | inr p ↦ let other = begins_as 111 (95 ∷ []) levels p.0 word p.2 in omega (arith, begins, other)
  ]

  all_differ : AreDifferent (in_ports ++ output_ports actions levels)
  all_differ = both_differ in_ports (output_ports actions levels) (ports_differ (codes "i_") ins h.ins_differ)
      (outputs_differ actions levels h.actions_differ h.levels_differ)
      (λ m n word p q. no_input n word (begins_as 105 (95 ∷ []) ins m word p) q)

  ports_are : port_names net ≡ in_ports ++ output_ports actions levels
  ports_are = ap (λ l. l ++ output_names net) h.inputs ∙ ap (λ l. in_ports ++ l) h.outputs

  moved : (n : ℕ) (word : List ℕ) → slice_get (port_names net) n ≡ Some word
      → slice_get (in_ports ++ output_ports actions levels) n ≡ Some word
  moved n word at = ap (λ l. slice_get l n) (sym ports_are) ∙ at

  pub ports_named : HasPortNames net × HasShortNames net
  ports_named = (
    record {
      each = λ n word at. (each_port n word (moved n word at)).port;
      once = λ m n word p q. all_differ.once m n word (moved m word p) (moved n word q);
    },
    record { each = λ n word at. (each_port n word (moved n word at)).short },
  )
