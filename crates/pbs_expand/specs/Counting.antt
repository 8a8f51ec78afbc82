-- What is counted, and the limits.
use Rattle.std.specs.Prelude.{Bool, ◌+◌, nat_le, ◌&&◌}
use Rattle.bool_terms.specs.Terms.{Term, term_nodes}
use Rattle.pbs_expand.specs.declared.build.Counters.{Counters}

abbrev pub name_cost : Counters
name_cost = record { counts = 1; nodes = 0; places = 0; scopes = 0 }

abbrev pub node_cost : Counters
node_cost = record { counts = 1; nodes = 1; places = 0; scopes = 0 }

-- a terminal counts the nodes of its term, and is a place
abbrev pub terminal_cost : Term → Counters
terminal_cost t = record { counts = 1 + term_nodes t; nodes = 1; places = 1; scopes = 0 }

-- a hold counts the nodes of its term
abbrev pub hold_cost : Term → Counters
hold_cost t = record { counts = 1 + term_nodes t; nodes = 1; places = 0; scopes = 0 }

abbrev pub scope_cost : Counters
scope_cost = record { counts = 1; nodes = 1; places = 0; scopes = 1 }

abbrev pub sum_of : Counters → Counters → Counters
sum_of a b = record {
  counts = a.counts + b.counts;
  nodes = a.nodes + b.nodes;
  places = a.places + b.places;
  scopes = a.scopes + b.scopes;
}

-- no limit is passed with the visit
abbrev pub fits : Counters → Counters → Bool
fits before cost = nat_le (before.counts + cost.counts) 32768 && nat_le (before.places + cost.places) 4096
