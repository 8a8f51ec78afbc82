-- The text that says which registers tell each place.
use Rattle.std.specs.Prelude.{ℕ, ◌+◌, List, [], ◌∷◌, ◌++◌, codes, decimal, if◌then◌else◌}
use Rattle.pbs_base.specs.declared.refusal.Span.{Span}
use Rattle.pbs_ast.specs.Trees.{Tree, Empty, Terminal, Action, Seq, Choice, Star, Hold, Scope}
use Rattle.net_core.specs.declared.codes.Literal.{Literal}
use Rattle.net_core.specs.declared.codes.Code.{Code}
use Rattle.net_core.specs.declared.codes.Code.TheVariants.{Never, Bits}

-- the spans of the terminals, in order of places
abbrev pub place_spans : Tree → List Span
place_spans (Empty at) = []
place_spans (Terminal at p t) = at.span ∷ []
place_spans (Action at a) = []
place_spans (Seq at e f) = place_spans e ++ place_spans f
place_spans (Choice at e f) = place_spans e ++ place_spans f
place_spans (Star at e) = place_spans e
place_spans (Hold at t e) = place_spans e
place_spans (Scope at s e x h) = place_spans e ++ (place_spans x ++ place_spans h)

-- the register's name, behind `~` where its value in the code is 0
abbrev pub literal_text : Literal → List ℕ
literal_text l = (if l.value then codes " q" else codes " ~q") ++ decimal l.reg

abbrev pub literals_text : List Literal → List ℕ
literals_text [] = []
literals_text (l ∷ ls) = literal_text l ++ literals_text ls

abbrev pub code_text : Code → List ℕ
code_text Never = codes " never"
code_text (Bits literals) = literals_text literals

-- place p, the span of its terminal, and its code
abbrev pub place_line : ℕ → Span → Code → List ℕ
place_line p span code =
    decimal p ++ (codes " " ++ (decimal span.start ++ (codes ".." ++ (decimal span.end ++ (code_text code
    ++ codes "\n")))))

-- the lines of the places from p on
abbrev pub place_lines : ℕ → List Span → List Code → List ℕ
place_lines p [] place_codes = []
place_lines p (span ∷ spans) [] = []
place_lines p (span ∷ spans) (code ∷ place_codes) =
    place_line p span code ++ place_lines (p + 1) spans place_codes

-- a line for each place, in order of numbers
abbrev pub map_text : Tree → List Code → List ℕ
map_text main place_codes = place_lines 0 (place_spans main) place_codes
