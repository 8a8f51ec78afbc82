-- Trees and the rows in which their actions fire, worked out by hand.
use Rattle.std.proofs.Common.{◌≡◌, ℕ, zero, suc, ◌<◌, true, false, [], ◌∷◌, refl, arith}
use Rattle.std.proofs.lemmas.Bool.{false≢true}
use Rattle.bool_terms.specs.Terms.{Const, Input, Not}
use Rattle.pbs_ast.specs.Trees.{Tree}
use Rattle.pbs_derive.specs.Derivations.{covers, alive, trips, IsAbort}
use Rattle.pbs_examples.proofs.Tables.{none, step, act, both, either, many, during, guarded, Gives, Stands}

-- {x}, [a], {y}
abbrev pub act_step_act : Tree
act_step_act = both (both (act 0) (step 0 (Input 0))) (act 1)

act_step_act_rows : Gives act_step_act (1 ∷ []) ((0 ∷ []) ∷ (1 ∷ []) ∷ [])
act_step_act_rows = (refl, refl)

-- [a], {x} | [a], [b], {y}
abbrev pub short_or_long : Tree
short_or_long = either (both (step 0 (Input 0)) (act 0))
    (both (both (step 1 (Input 0)) (step 2 (Input 1))) (act 1))

short_or_long_rows : Gives short_or_long (1 ∷ 2 ∷ []) ([] ∷ (0 ∷ []) ∷ (1 ∷ []) ∷ [])
short_or_long_rows = (refl, refl)

short_or_long_places : Stands short_or_long (1 ∷ 2 ∷ []) 3 ((0 ∷ 1 ∷ []) ∷ (2 ∷ []) ∷ [] ∷ [])
short_or_long_places = (refl, refl)

short_covers : covers short_or_long (1 ∷ 2 ∷ []) 0 1 ≡ true
short_covers = refl

long_covers : covers short_or_long (1 ∷ 2 ∷ []) 0 2 ≡ true
long_covers = refl

late_covers_none : covers short_or_long (1 ∷ 2 ∷ []) 1 2 ≡ false
late_covers_none = refl

-- [a]*, [a], {x}
abbrev pub some_steps : Tree
some_steps = both (both (many (step 0 (Input 0))) (step 1 (Input 0))) (act 0)

some_steps_rows : Gives some_steps (1 ∷ 1 ∷ 1 ∷ []) ([] ∷ (0 ∷ []) ∷ (0 ∷ []) ∷ (0 ∷ []) ∷ [])
some_steps_rows = (refl, refl)

-- hold [~c] : ([a], [b]), {x}
abbrev pub held_steps : Tree
held_steps = both (during (Not (Input 2)) (both (step 0 (Input 0)) (step 1 (Input 1)))) (act 0)

held_steps_broken : Gives held_steps (1 ∷ 6 ∷ []) ([] ∷ [] ∷ [] ∷ [])
held_steps_broken = (refl, refl)

held_steps_kept : Gives held_steps (1 ∷ 2 ∷ []) ([] ∷ [] ∷ (0 ∷ []) ∷ [])
held_steps_kept = (refl, refl)

-- [~req]*, [req], {start}, [~ack]*, [ack], {done}
abbrev pub handshake : Tree
handshake = both (both (both (many (step 0 (Not (Input 0)))) (step 1 (Input 0))) (act 0))
    (both (both (many (step 2 (Not (Input 1)))) (step 3 (Input 1))) (act 1))

handshake_rows : Gives (many handshake) (0 ∷ 1 ∷ 0 ∷ 2 ∷ []) ([] ∷ [] ∷ (0 ∷ []) ∷ [] ∷ (1 ∷ []) ∷ [])
handshake_rows = (refl, refl)

-- (try (handshake) abort ([~rst]*, [rst]) then ({lost}))*
abbrev pub guarded_handshake : Tree
guarded_handshake = many
    (guarded handshake (both (many (step 4 (Not (Input 2)))) (step 5 (Input 2))) (act 2))

guarded_handshake_aborted : Gives guarded_handshake (1 ∷ 0 ∷ 4 ∷ 2 ∷ []) ([] ∷ (0 ∷ []) ∷ [] ∷ (2 ∷ []) ∷ [] ∷ [])
guarded_handshake_aborted = (refl, refl)

-- the body would end in the abort's row
guarded_handshake_tied : Gives guarded_handshake (1 ∷ 0 ∷ 6 ∷ []) ([] ∷ (0 ∷ []) ∷ [] ∷ (2 ∷ []) ∷ [])
guarded_handshake_tied = (refl, refl)

-- try ([~b]*, [b], {done}) abort ([1], [1], [1]) then ({lost})
abbrev pub three_rows_body : Tree
three_rows_body = both (both (many (step 0 (Not (Input 0)))) (step 1 (Input 0))) (act 0)

abbrev pub three_rows_trap : Tree
three_rows_trap = both (both (step 2 (Const true)) (step 3 (Const true))) (step 4 (Const true))

abbrev pub three_rows : Tree
three_rows = guarded three_rows_body three_rows_trap (act 1)

three_rows_in_time : Gives three_rows (1 ∷ 0 ∷ 0 ∷ 0 ∷ []) ([] ∷ (0 ∷ []) ∷ [] ∷ [] ∷ [] ∷ [])
three_rows_in_time = (refl, refl)

three_rows_too_late : Gives three_rows (0 ∷ 0 ∷ 0 ∷ 1 ∷ []) ([] ∷ [] ∷ [] ∷ (1 ∷ []) ∷ [] ∷ [])
three_rows_too_late = (refl, refl)

three_rows_tied : Gives three_rows (0 ∷ 0 ∷ 1 ∷ []) ([] ∷ [] ∷ [] ∷ (1 ∷ []) ∷ [])
three_rows_tied = (refl, refl)

none_before : (n : ℕ) → 0 < n → n < 3 → trips three_rows_body three_rows_trap (0 ∷ 0 ∷ 1 ∷ []) 0 n ≡ true → ⊥
none_before zero a b t = absurd (omega arith)
none_before (suc zero) a b t = absurd (false≢true t)
none_before (suc (suc zero)) a b t = absurd (false≢true t)
none_before (suc (suc (suc n))) a b t = absurd (omega arith)

-- the body is alive in row 2 and the trap covers the three vectors up to row 3
three_rows_abort : IsAbort three_rows_body three_rows_trap (0 ∷ 0 ∷ 1 ∷ []) 0 3
three_rows_abort = (omega arith, refl, none_before)

-- the body has ended in row 1
three_rows_body_ended : alive three_rows_body (1 ∷ 0 ∷ 0 ∷ 0 ∷ []) 0 2 ≡ false
three_rows_body_ended = refl

three_rows_stale : trips three_rows_body three_rows_trap (1 ∷ 0 ∷ 0 ∷ 0 ∷ []) 0 3 ≡ false
three_rows_stale = refl

-- the trap of the first instance reaches its end in row 3, after its body ended in row 1
three_rows_again : Gives (many three_rows) (1 ∷ 0 ∷ 0 ∷ 0 ∷ []) ([] ∷ (0 ∷ []) ∷ [] ∷ [] ∷ (1 ∷ []) ∷ [])
three_rows_again = (refl, refl)

-- (try ({start}, [~ack]*, [ack], {done}) abort ([~rst]*, [rst]) then ())*
abbrev pub restarted : Tree
restarted = many (guarded
    (both (both (act 0) (many (step 0 (Not (Input 0))))) (both (step 1 (Input 0)) (act 1)))
    (both (many (step 2 (Not (Input 1)))) (step 3 (Input 1))) none)

restarted_rows : Gives restarted (0 ∷ 2 ∷ 1 ∷ []) ((0 ∷ []) ∷ [] ∷ (0 ∷ []) ∷ (0 ∷ 1 ∷ []) ∷ [])
restarted_rows = (refl, refl)

-- [a]*
abbrev pub repeated_step : Tree
repeated_step = many (step 0 (Input 0))

repeated_step_covers : covers repeated_step (1 ∷ 1 ∷ 0 ∷ []) 0 2 ≡ true
repeated_step_covers = refl

repeated_step_covers_empty : covers repeated_step (1 ∷ 1 ∷ 0 ∷ []) 2 2 ≡ true
repeated_step_covers_empty = refl

repeated_step_stops : covers repeated_step (1 ∷ 1 ∷ 0 ∷ []) 0 3 ≡ false
repeated_step_stops = refl

held_steps_covers : covers held_steps (1 ∷ 2 ∷ []) 0 2 ≡ true
held_steps_covers = refl

held_steps_broken_covers : covers held_steps (1 ∷ 6 ∷ []) 0 2 ≡ false
held_steps_broken_covers = refl

three_rows_covers_in_time : covers three_rows (1 ∷ 0 ∷ 0 ∷ 0 ∷ []) 0 1 ≡ true
three_rows_covers_in_time = refl

-- the body and the trap both end in row 3, and only the after part covers what it covers from there
three_rows_covers_tied : covers three_rows (0 ∷ 0 ∷ 1 ∷ []) 0 3 ≡ true
three_rows_covers_tied = refl

-- try ([~b]*, [b], {done}) abort ([1], [1], [1]) then ([1])
abbrev pub three_rows_and_one : Tree
three_rows_and_one = guarded three_rows_body three_rows_trap (step 5 (Const true))

three_rows_and_one_tied : covers three_rows_and_one (0 ∷ 0 ∷ 1 ∷ 0 ∷ []) 0 3 ≡ false
three_rows_and_one_tied = refl

three_rows_and_one_aborted : covers three_rows_and_one (0 ∷ 0 ∷ 1 ∷ 0 ∷ []) 0 4 ≡ true
three_rows_and_one_aborted = refl

three_rows_and_one_in_time : covers three_rows_and_one (0 ∷ 1 ∷ 0 ∷ 0 ∷ []) 0 2 ≡ true
three_rows_and_one_in_time = refl
