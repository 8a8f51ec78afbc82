-- One row of the controller, over the tree: its ends and stays, which go up, and its start bits, which go down.
use Rattle.std.specs.Prelude.{ℕ, Bool, true, false, not, ◌&&◌, ◌||◌}
use Rattle.bool_terms.specs.Terms.{holds}
use Rattle.pbs_ast.specs.Trees.{Tree, Empty, Terminal, Action, Seq, Choice, Star, Hold, Scope, nullable, has_terminal}

-- some derivation of e that was begun in an earlier row ends in this row;
-- `old` are the registers before the row, `x` is the row's vector, `outer` says that the holds round e are true
abbrev pub ends : Tree → (ℕ → Bool) → ℕ → Bool → Bool
ends (Empty spot) old x outer = false
ends (Action spot a) old x outer = false
ends (Terminal spot p t) old x outer = old p && (outer && holds t x)
ends (Seq spot e f) old x outer = ends f old x outer || (ends e old x outer && nullable f)
ends (Choice spot e f) old x outer = ends e old x outer || ends f old x outer
ends (Star spot e) old x outer = ends e old x outer
ends (Hold spot t e) old x outer = ends e old x (outer && holds t x)
ends (Scope spot s e c h) old x outer =
    (ends e old x outer && not (ends c old x outer)) || (ends h old x outer || (ends c old x outer && nullable h))

-- some derivation of e that was begun in an earlier row stands before a terminal in this row
abbrev pub stays : Tree → (ℕ → Bool) → ℕ → Bool → Bool
stays (Empty spot) old x outer = false
stays (Action spot a) old x outer = false
stays (Terminal spot p t) old x outer = false
stays (Seq spot e f) old x outer =
    stays e old x outer || (stays f old x outer || (ends e old x outer && has_terminal f))
stays (Choice spot e f) old x outer = stays e old x outer || stays f old x outer
stays (Star spot e) old x outer = stays e old x outer || (ends e old x outer && has_terminal e)
stays (Hold spot t e) old x outer = stays e old x (outer && holds t x)
stays (Scope spot s e c h) old x outer =
    (stays e old x outer && not (ends c old x outer)) || (stays h old x outer || (ends c old x outer && has_terminal h))

-- the start bit of the right part of a sequence
abbrev pub right_start : Bool → Bool → Bool → Bool → Bool
right_start start keep left_ends left_nullable = (left_ends && keep) || (start && left_nullable)

-- the start bit of the body of a star
abbrev pub body_start : Bool → Bool → Bool → Bool
body_start start keep body_ends = start || (body_ends && keep)

-- a marked leaf of e has start bit 1 in this row
abbrev pub started : Tree → (Tree → Bool) → (ℕ → Bool) → ℕ → Bool → Bool → Bool → Bool
started (Empty spot) mark old x outer start keep = false
started (Action spot a) mark old x outer start keep = mark (Action spot a) && start
started (Terminal spot p t) mark old x outer start keep = mark (Terminal spot p t) && start
started (Seq spot e f) mark old x outer start keep =
    started e mark old x outer start keep
    || started f mark old x outer (right_start start keep (ends e old x outer) (nullable e)) keep
started (Choice spot e f) mark old x outer start keep =
    started e mark old x outer start keep || started f mark old x outer start keep
started (Star spot e) mark old x outer start keep = started e mark old x outer
    (body_start start keep (ends e old x outer)) keep
started (Hold spot t e) mark old x outer start keep = started e mark old x (outer && holds t x) start keep
started (Scope spot s e c h) mark old x outer start keep =
    (started e mark old x outer start (keep && not (ends c old x outer))
    || started c mark old x outer start ((keep && not (ends c old x outer)) && stays e old x outer))
    || started h mark old x outer (ends c old x outer && keep) keep

-- a marked leaf of main has start bit 1 in this row: main is begun in each reset row, where nothing older counts
abbrev pub main_starts : Tree → (Tree → Bool) → (ℕ → Bool) → ℕ → Bool → Bool
main_starts main mark old x reset = started main mark old x (not reset) reset true
