-- Changed rules of the controller's row, each with an example in which another action fires.
use Rattle.std.proofs.Common.{◌≡◌, ℕ, Bool, true, false, not, ◌&&◌, ◌||◌, [], ◌∷◌, refl}
use Rattle.bool_terms.specs.Terms.{holds, Input}
use Rattle.pbs_ast.specs.Trees.{Tree, Empty, Terminal, Action, Seq, Choice, Star, Hold, Scope, nullable, has_terminal}
use Rattle.pbs_machine.specs.Rows.{right_start, body_start}
use Rattle.pbs_examples.proofs.Tables.{step, act, both, either, many, Gives, shown_by}
use Rattle.pbs_examples.proofs.Examples.{short_or_long, guarded_handshake, three_rows, restarted}

pub data Change : Type 0 where
  Unchanged : Change
  -- the right part of a sequence begins where the left one is alive
  BeginsEarly : Change
  -- a star that begins again drops its body's older places
  StarForgets : Change
  -- an abort drops what begins in its own row
  DropsFresh : Change
  -- a trap goes on after its body has ended
  TrapGoesOn : Change
  -- the body's end wins a tie
  EndWins : Change

abbrev begins_early : Change → Bool
begins_early BeginsEarly = true
begins_early _ = false

abbrev star_forgets : Change → Bool
star_forgets StarForgets = true
star_forgets _ = false

abbrev drops_fresh : Change → Bool
drops_fresh DropsFresh = true
drops_fresh _ = false

abbrev trap_goes_on : Change → Bool
trap_goes_on TrapGoesOn = true
trap_goes_on _ = false

abbrev end_wins : Change → Bool
end_wins EndWins = true
end_wins _ = false

-- the trap's end counts
abbrev trapped : Change → Bool → Bool → Bool
trapped c body trap = trap && not (end_wins c && body)

abbrev ends : Change → Tree → (ℕ → Bool) → ℕ → Bool → Bool
ends c (Empty spot) old x outer = false
ends c (Action spot a) old x outer = false
ends c (Terminal spot p t) old x outer = old p && (outer && holds t x)
ends c (Seq spot e f) old x outer = ends c f old x outer || (ends c e old x outer && nullable f)
ends c (Choice spot e f) old x outer = ends c e old x outer || ends c f old x outer
ends c (Star spot e) old x outer = ends c e old x outer
ends c (Hold spot t e) old x outer = ends c e old x (outer && holds t x)
ends c (Scope spot s e y h) old x outer =
    (ends c e old x outer && not (trapped c (ends c e old x outer) (ends c y old x outer)))
    || (ends c h old x outer || (trapped c (ends c e old x outer) (ends c y old x outer) && nullable h))

abbrev stays : Change → Tree → (ℕ → Bool) → ℕ → Bool → Bool
stays c (Empty spot) old x outer = false
stays c (Action spot a) old x outer = false
stays c (Terminal spot p t) old x outer = false
stays c (Seq spot e f) old x outer =
    stays c e old x outer || (stays c f old x outer || (ends c e old x outer && has_terminal f))
stays c (Choice spot e f) old x outer = stays c e old x outer || stays c f old x outer
stays c (Star spot e) old x outer = stays c e old x outer || (ends c e old x outer && has_terminal e)
stays c (Hold spot t e) old x outer = stays c e old x (outer && holds t x)
stays c (Scope spot s e y h) old x outer =
    (stays c e old x outer && not (trapped c (ends c e old x outer) (ends c y old x outer)))
    || (stays c h old x outer || (trapped c (ends c e old x outer) (ends c y old x outer) && has_terminal h))

abbrev started : Change → Tree → (Tree → Bool) → (ℕ → Bool) → ℕ → Bool → Bool → Bool → Bool
started c (Empty spot) mark old x outer start keep = false
started c (Action spot a) mark old x outer start keep = mark (Action spot a) && start
started c (Terminal spot p t) mark old x outer start keep = mark (Terminal spot p t) && start
started c (Seq spot e f) mark old x outer start keep =
    started c e mark old x outer start keep
    || started c f mark old x outer (right_start start keep
    (ends c e old x outer || (begins_early c && stays c e old x outer)) (nullable e)) keep
started c (Choice spot e f) mark old x outer start keep =
    started c e mark old x outer start keep || started c f mark old x outer start keep
started c (Star spot e) mark old x outer start keep = started c e mark old x outer
    (body_start start keep (ends c e old x outer))
    (keep && not (star_forgets c && body_start start keep (ends c e old x outer)))
started c (Hold spot t e) mark old x outer start keep = started c e mark old x (outer && holds t x) start keep
started c (Scope spot s e y h) mark old x outer start keep =
    (started c e mark old x outer
    (start && not (drops_fresh c && trapped c (ends c e old x outer) (ends c y old x outer)))
    (keep && not (trapped c (ends c e old x outer) (ends c y old x outer)))
    || started c y mark old x outer start
    ((keep && not (trapped c (ends c e old x outer) (ends c y old x outer)))
    && (trap_goes_on c || stays c e old x outer)))
    || started c h mark old x outer (trapped c (ends c e old x outer) (ends c y old x outer) && keep) keep

abbrev starts : Change → Tree → (Tree → Bool) → (ℕ → Bool) → ℕ → Bool → Bool
starts c main mark old x reset = started c main mark old x (not reset) reset true

-- ([a] | [a], [b], {x})*
abbrev short_beside_long : Tree
short_beside_long = many (either (step 0 (Input 0)) (both (both (step 1 (Input 0)) (step 2 (Input 1))) (act 0)))

short_beside_long_rows : Gives short_beside_long (1 ∷ 2 ∷ []) ([] ∷ [] ∷ (0 ∷ []) ∷ [])
short_beside_long_rows = (refl, refl)

begins_early_rows : shown_by (starts BeginsEarly) short_or_long (1 ∷ 2 ∷ []) ≡ [] ∷ (0 ∷ 1 ∷ []) ∷ (1 ∷ []) ∷ []
begins_early_rows = refl

star_forgets_rows : shown_by (starts StarForgets) short_beside_long (1 ∷ 2 ∷ []) ≡ [] ∷ [] ∷ [] ∷ []
star_forgets_rows = refl

drops_fresh_rows : shown_by (starts DropsFresh) restarted (0 ∷ 2 ∷ 1 ∷ []) ≡ (0 ∷ []) ∷ [] ∷ [] ∷ [] ∷ []
drops_fresh_rows = refl

trap_goes_on_rows : shown_by (starts TrapGoesOn) (many three_rows) (1 ∷ 0 ∷ 0 ∷ 0 ∷ [])
    ≡ [] ∷ (0 ∷ []) ∷ [] ∷ (1 ∷ []) ∷ [] ∷ []
trap_goes_on_rows = refl

end_wins_rows : shown_by (starts EndWins) guarded_handshake (1 ∷ 0 ∷ 6 ∷ [])
    ≡ [] ∷ (0 ∷ []) ∷ [] ∷ (1 ∷ []) ∷ []
end_wins_rows = refl

-- without a change the same trees give the right rows
unchanged_short_or_long : shown_by (starts Unchanged) short_or_long (1 ∷ 2 ∷ []) ≡ [] ∷ (0 ∷ []) ∷ (1 ∷ []) ∷ []
unchanged_short_or_long = refl

unchanged_short_beside_long : shown_by (starts Unchanged) short_beside_long (1 ∷ 2 ∷ []) ≡ [] ∷ [] ∷ (0 ∷ []) ∷ []
unchanged_short_beside_long = refl

unchanged_restarted : shown_by (starts Unchanged) restarted (0 ∷ 2 ∷ 1 ∷ [])
    ≡ (0 ∷ []) ∷ [] ∷ (0 ∷ []) ∷ (0 ∷ 1 ∷ []) ∷ []
unchanged_restarted = refl

unchanged_three_rows : shown_by (starts Unchanged) (many three_rows) (1 ∷ 0 ∷ 0 ∷ 0 ∷ [])
    ≡ [] ∷ (0 ∷ []) ∷ [] ∷ [] ∷ (1 ∷ []) ∷ []
unchanged_three_rows = refl

unchanged_guarded_handshake : shown_by (starts Unchanged) guarded_handshake (1 ∷ 0 ∷ 6 ∷ [])
    ≡ [] ∷ (0 ∷ []) ∷ [] ∷ (2 ∷ []) ∷ []
unchanged_guarded_handshake = refl
