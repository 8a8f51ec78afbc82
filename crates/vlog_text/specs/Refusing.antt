-- Where a raw netlist breaks rules 4 to 8. Each rule gives the names at which it is broken.
use Rattle.std.specs.Prelude.{ℕ, suc, Bool, not, ◌&&◌, ◌||◌, nat_eq, nat_lt, List, [], ◌∷◌, ◌++◌, map, codes, Option}
use Rattle.std.specs.Prelude.{Some, None, slice_get, if◌then◌else◌, filter}
use Rattle.pbs_base.specs.declared.refusal.Span.{Span}
use Rattle.pbs_base.specs.declared.refusal.Refusal.{Refusal}
use Rattle.pbs_base.specs.declared.refusal.Subject.TheVariants.{Netlist}
use Rattle.vlog_text.specs.declared.raw.RawName.{RawName}
use Rattle.vlog_text.specs.declared.raw.RawDecl.{RawDecl}
use Rattle.vlog_text.specs.declared.raw.RawGate.{RawGate}
use Rattle.vlog_text.specs.declared.raw.RawNetlist.{RawNetlist}
use Rattle.vlog_text.specs.declared.raw.Target.{Target}
use Rattle.vlog_text.specs.declared.raw.Target.TheVariants as target
use Rattle.vlog_text.specs.Words.{is_named, repeated, decl_names, gate_targets, reg_targets, operands, uses}
use Rattle.vlog_text.specs.Orders.{is_among}
use Rattle.vlog_text.specs.Standing.{is_input, is_output, is_reg, is_port, is_clock, is_reset, is_declared, the_order}

-- the declared names of such declarations
abbrev pub declared : RawNetlist → (RawDecl → Bool) → List RawName
declared raw such = map (λ (d : RawDecl). d.name) (filter such raw.decls)

-- 4: declared twice; listed twice; used or listed and not declared; listed and declared as wire or reg; an input or
-- output that isn't listed
abbrev pub rule_4 : RawNetlist → List RawName
rule_4 raw =
    repeated [] (decl_names raw)
    ++ repeated [] raw.ports
    ++ filter (λ (n : RawName). not (is_named (decl_names raw) n.word)) (uses raw)
    ++ filter (λ (n : RawName). is_declared raw (λ k. not (is_port k)) n.word) raw.ports
    ++ declared raw (λ d. is_port d.kind && not (is_named raw.ports d.name.word))

-- 5: a second driver; a gate that drives an input or a reg; an `always` that drives what isn't a reg; a wire, output or
-- reg without a driver
abbrev pub rule_5 : RawNetlist → List RawName
rule_5 raw =
    repeated [] (gate_targets raw)
    ++ repeated [] (reg_targets raw)
    ++ filter (λ (n : RawName). is_declared raw (λ k. is_input k || is_reg k) n.word) (gate_targets raw)
    ++ filter (λ (n : RawName). not (is_declared raw is_reg n.word)) (reg_targets raw)
    ++ declared raw (λ d. not (is_input d.kind) && not (is_named (gate_targets raw ++ reg_targets raw) d.name.word))

abbrev pub target_or : Target → List RawName → List RawName
target_or (target.Name name) later = name ∷ []
target_or target.Inner later = later

-- the target of the item that has the first of these gates
abbrev pub item_target : List RawGate → List RawName
item_target [] = []
item_target (g ∷ gs) = target_or g.target (item_target gs)

-- the first gate that the order leaves out, of those from number n on
abbrev pub left_out : List ℕ → ℕ → List RawGate → List RawName
left_out order n [] = []
left_out order n (g ∷ gs) = if is_among order n then left_out order (suc n) gs else item_target (g ∷ gs)

-- 6: a gate that the order never takes
abbrev pub rule_6 : RawNetlist → List RawName
rule_6 raw = left_out (the_order raw) 0 raw.gates

-- 7: no input `clk`, or no input `rst`; `clk` as an operand
abbrev pub rule_7 : RawNetlist → List RawName
rule_7 raw =
    (if is_declared raw is_input (codes "clk") && is_declared raw is_input (codes "rst") then [] else raw.name ∷ [])
    ++ filter (λ (n : RawName). is_clock n.word) (operands raw)

abbrev pub at_place : ℕ → List RawName → List RawName
at_place n names = list_of (slice_get names n)
  where
    list_of : Option RawName → List RawName
    list_of None = []
    list_of (Some name) = name ∷ []

-- 8: the 65th input besides `clk` and `rst`, the 129th output
abbrev pub rule_8 : RawNetlist → List RawName
rule_8 raw =
    at_place 64 (declared raw (λ d. is_input d.kind && not (is_clock d.name.word || is_reset d.name.word)))
    ++ at_place 128 (declared raw (λ d. is_output d.kind))

abbrev pub refusal : ℕ → Span → Refusal
refusal rule span = record { subject = Netlist; rule = rule; span = span }

abbrev pub refusals : ℕ → List RawName → List Refusal
refusals rule names = map (λ (n : RawName). refusal rule n.span) names

-- each place where a rule from 4 to 8 is broken
abbrev pub broken : RawNetlist → List Refusal
broken raw =
    refusals 4 (rule_4 raw) ++ refusals 5 (rule_5 raw) ++ refusals 6 (rule_6 raw) ++ refusals 7 (rule_7 raw)
    ++ refusals 8 (rule_8 raw)

abbrev pub starts_before : Span → Span → Bool
starts_before a b = nat_lt a.start b.start || nat_eq a.start b.start && nat_lt a.end b.end

-- the lower rule, then the smaller start, then the smaller end
abbrev pub is_before : Refusal → Refusal → Bool
is_before a b = nat_lt a.rule b.rule || nat_eq a.rule b.rule && starts_before a.span b.span

abbrev pub earlier_of : Option Refusal → Refusal → Refusal
earlier_of None r = r
earlier_of (Some a) r = if is_before r a then r else a

-- the earliest of these, and of the one found before
abbrev pub earliest : Option Refusal → List Refusal → Option Refusal
earliest found [] = found
earliest found (r ∷ rs) = earliest (Some (earlier_of found r)) rs

-- what the raw netlist is refused for, if for anything
abbrev pub first_broken : RawNetlist → Option Refusal
first_broken raw = earliest None (broken raw)
