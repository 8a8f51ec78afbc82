-- Reading as a function on tokens: the phrase, or the first refusal by rule 3 or 4.
use Rattle.std.specs.Prelude.{ℕ, suc, Bool, false, List, [], ◌∷◌, Option, Some, None, Result, Ok, Err, nat_lt}
use Rattle.std.specs.Prelude.{if◌then◌else◌}
use Rattle.pbs_base.specs.declared.refusal.Span.{Span}
use Rattle.pbs_base.specs.declared.refusal.Refusal.{Refusal}
use Rattle.pbs_text.specs.declared.token.Token.{Token}
use Rattle.pbs_text.specs.declared.token.TokenKind.{TokenKind}
use Rattle.pbs_text.specs.declared.token.TokenKind.TheVariants.{OpenRound, Tilde}
use Rattle.pbs_text.specs.Grammar.{TextPhrase}
use Rattle.pbs_text.specs.places.Holes.{item_nesting, group_nesting, unit_nesting}
use Rattle.pbs_text.specs.places.Places.{Place, WantsItem, WantsGroup, InGroup, WantsUnit, Whole}
use Rattle.pbs_text.specs.places.Steps.{step}
use Rattle.pbs_text.specs.Refusals.{refusal, point}

-- the token opens a 65th construct
abbrev pub is_too_deep : Place → TokenKind → Bool
is_too_deep (WantsUnit h) Tilde = nat_lt 63 (unit_nesting h)
is_too_deep (WantsUnit h) OpenRound = nat_lt 63 (unit_nesting h)
is_too_deep (WantsItem h) OpenRound = nat_lt 63 (item_nesting h)
is_too_deep (WantsGroup g) OpenRound = nat_lt 63 (group_nesting g)
is_too_deep (InGroup at g) OpenRound = nat_lt 63 (suc (group_nesting g))
is_too_deep _ _ = false

abbrev pub stepped : Option Place → Span → Result Place Refusal
stepped (Some q) at = Ok q
stepped None at = Err (refusal 3 at)

abbrev pub move : Place → Token → Result Place Refusal
move p t = if is_too_deep p t.kind then Err (refusal 4 t.span) else stepped (step p t.kind t.span) t.span

abbrev pub bind : {A B : Type 0} → (A → Result B Refusal) → Result A Refusal → Result B Refusal
bind f (Ok x) = f x
bind f (Err e) = Err e

abbrev pub ended : Place → ℕ → Result TextPhrase Refusal
ended (Whole p) end = Ok p
ended _ end = Err (refusal 3 (point end))

-- reading goes on from a place with these tokens; the text has `end` bytes
abbrev pub read : ℕ → Place → List Token → Result TextPhrase Refusal
read end p [] = ended p end
read end p (t ∷ ts) = bind (λ q. read end q ts) (move p t)
