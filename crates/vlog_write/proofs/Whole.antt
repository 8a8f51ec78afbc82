-- What is written for a netlist is read as the same netlist.
use Rattle.std.proofs.Common.{◌≡◌, ℕ, ◌≤◌, List, length, Ok, sym, ap, ◌∙◌, arith}
use Rattle.net_core.specs.declared.gate.Gate as gate
use Rattle.net_core.specs.Circuits.{Circuit, IsCircuit, HasItsPins}
use Rattle.vlog_text.specs.declared.token.Token.{Token}
use Rattle.vlog_text.specs.Emitted.{emitted}
use Rattle.vlog_text.specs.Grammar.{items_depth}
use Rattle.vlog_text.specs.Lexing.{tokens}
use Rattle.vlog_text.specs.PortNames.{HasPortNames}
use Rattle.vlog_text.specs.Reading.{IsShortVerilog, ElaboratesTo}
use Rattle.vlog_text.specs.Trees.{raw_of}
use Rattle.vlog_write.proofs.Lists.{Each, each_from}
use Rattle.vlog_write.proofs.Pieces.{text, placed, lex-text, Stands, stands}
use Rattle.vlog_write.proofs.LinePieces.{all_pieces, text-all}
use Rattle.vlog_write.proofs.Readable.{can-be-written, all-read}
use Rattle.vlog_write.proofs.Phrases.{finds_text}
use Rattle.vlog_write.proofs.Nets.{are-earlier, order-is, net-is}
use Rattle.vlog_write.proofs.Ordered.{keeps_order, keeps_gates}
use Rattle.vlog_write.proofs.Rules.{unbroken}

shallow : (n : ℕ) → n ≡ 0 → n ≤ 64
shallow n e = omega arith

pub written_is_read : (c : Circuit) → IsCircuit c → HasPortNames c → IsShortVerilog (emitted c)
    → ElaboratesTo (emitted c) c
written_is_read c good names short =
    let bytes : List ℕ = emitted c in
    let ts : List Token = placed 0 (all_pieces c) in
    let same : text (all_pieces c) ≡ bytes = text-all c in
    let found : tokens bytes ≡ Ok ts =
    ap tokens (sym same) ∙ lex-text (all_pieces c) 0 (all-read c (can-be-written c good names)) in
    let there : Stands bytes (all_pieces c) ts = stands bytes (all_pieces c) 0 (sym same) in
    let pins : Each (λ (g : gate.Gate). HasItsPins g.kind (length g.pins)) c.gates =
    each_from (λ (g : gate.Gate). HasItsPins g.kind (length g.pins)) c.gates
    (λ n g at. (good.gates_fit n g at).count) in
    let x = finds_text bytes c pins ts there in
    let earlier = are-earlier c (raw_of bytes x.phrase) x.raw_is good names in
    let order = keeps_order c.gates earlier in
    let gates = keeps_gates c.gates earlier in
    record {
      phrase = x.phrase;
      is_read = record {
        short = short;
        found = ts;
        found_is = found;
        text = record { tokens = x.tokens_are; shallow = shallow (items_depth x.phrase.items) x.depth_is };
      };
      unbroken = unbroken c (raw_of bytes x.phrase) x.raw_is good names
          (order-is c (raw_of bytes x.phrase) x.raw_is good names order gates);
      net_is = sym (net-is c (raw_of bytes x.phrase) x.raw_is good names order gates);
    }
