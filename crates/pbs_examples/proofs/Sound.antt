-- The example trees, numbered, are those of accepted specifications.
use Rattle.std.proofs.Common.{◌≡◌, ℕ, ◌+◌, refl, sym, subst, arith}
use Rattle.pbs_ast.specs.Trees.{Tree, Empty, Terminal, Action, Seq, Choice, Star, Hold, Scope}
use Rattle.pbs_ast.specs.Sound.{IsSound, visit_count}
use Rattle.pbs_examples.specs.inner.Spots.{at}
use Rattle.pbs_examples.proofs.Examples.{short_or_long, repeated_step, held_steps, three_rows_and_one}

-- the nodes are numbered from n on, in the order of visits
abbrev pub numbered : ℕ → Tree → Tree
numbered n (Empty spot) = Empty (at n)
numbered n (Terminal spot p t) = Terminal (at n) p t
numbered n (Action spot a) = Action (at n) a
numbered n (Seq spot e f) = Seq (at n) (numbered (n + 1) e) (numbered (n + 1 + visit_count e) f)
numbered n (Choice spot e f) = Choice (at n) (numbered (n + 1) e) (numbered (n + 1 + visit_count e) f)
numbered n (Star spot e) = Star (at n) (numbered (n + 1) e)
numbered n (Hold spot t e) = Hold (at n) t (numbered (n + 1) e)
numbered n (Scope spot s e x h) = Scope (at n) s (numbered (n + 1) e) (numbered (n + 1 + visit_count e) x)
    (numbered (n + 1 + visit_count e + visit_count x) h)

short_or_long_proper : IsSound (numbered 0 short_or_long)
unfolding lib.Count.ones
short_or_long_proper = record {
  counted = record {
    inputs = refl;
    nodes = omega arith;
    depth = omega arith;
    places = omega arith;
    nodes_numbered = refl;
    places_numbered = refl;
    scopes_numbered = refl;
  };
  proper = record { stars = refl; scopes = refl };
  narrow = refl;
}

pub short_or_long_sound : (t : Tree) → t ≡ numbered 0 short_or_long → IsSound t
short_or_long_sound t q = subst (λ e. IsSound e) (sym q) short_or_long_proper

repeated_step_proper : IsSound (numbered 0 repeated_step)
unfolding lib.Count.ones
repeated_step_proper = record {
  counted = record {
    inputs = refl;
    nodes = omega arith;
    depth = omega arith;
    places = omega arith;
    nodes_numbered = refl;
    places_numbered = refl;
    scopes_numbered = refl;
  };
  proper = record { stars = refl; scopes = refl };
  narrow = refl;
}

pub repeated_step_sound : (t : Tree) → t ≡ numbered 0 repeated_step → IsSound t
repeated_step_sound t q = subst (λ e. IsSound e) (sym q) repeated_step_proper

held_steps_proper : IsSound (numbered 0 held_steps)
unfolding lib.Count.ones
held_steps_proper = record {
  counted = record {
    inputs = refl;
    nodes = omega arith;
    depth = omega arith;
    places = omega arith;
    nodes_numbered = refl;
    places_numbered = refl;
    scopes_numbered = refl;
  };
  proper = record { stars = refl; scopes = refl };
  narrow = refl;
}

pub held_steps_sound : (t : Tree) → t ≡ numbered 0 held_steps → IsSound t
held_steps_sound t q = subst (λ e. IsSound e) (sym q) held_steps_proper

three_rows_and_one_proper : IsSound (numbered 0 three_rows_and_one)
unfolding lib.Count.ones
three_rows_and_one_proper = record {
  counted = record {
    inputs = refl;
    nodes = omega arith;
    depth = omega arith;
    places = omega arith;
    nodes_numbered = refl;
    places_numbered = refl;
    scopes_numbered = refl;
  };
  proper = record { stars = refl; scopes = refl };
  narrow = refl;
}

pub three_rows_and_one_sound : (t : Tree) → t ≡ numbered 0 three_rows_and_one → IsSound t
three_rows_and_one_sound t q = subst (λ e. IsSound e) (sym q) three_rows_and_one_proper
