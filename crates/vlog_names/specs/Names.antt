-- What the tables of names tell.
use Rattle.std.specs.Prelude.{◌≡◌, ℕ, Bool, true, false, not, ◌&&◌, ◌||◌, ◌==◌, List, Option}
use Rattle.std.specs.Prelude.{unwrap_or}
use Rattle.std.specs.List.{list_any, position_from}
use Rattle.std.specs.HashMap.{get}
use Rattle.std.specs.Cmp.Lexicographic.{pointwise}
use Rattle.vlog_text.specs.declared.raw.DeclKind.{DeclKind}
use Rattle.vlog_text.specs.declared.raw.DeclKind.TheVariants as kind
use Rattle.vlog_text.specs.declared.raw.RawName.{RawName}
use Rattle.vlog_text.specs.declared.raw.RawDecl.{RawDecl}
use Rattle.vlog_text.specs.Words.{has_word}
use Rattle.vlog_text.specs.Standing.{drives, is_input, is_output, is_reg, is_clock, is_reset}
use Rattle.vlog_names.specs.declared.firsts.Firsts.{Firsts}
use Rattle.vlog_names.specs.declared.kinds.Kinds.{Kinds}
use Rattle.vlog_names.specs.declared.kinds.KindTable.{KindTable}

-- ---- first places

-- the first place of the word, as the table has it
abbrev pub first_in : Firsts → List ℕ → Option ℕ
first_in firsts w = get (pointwise ◌==◌) firsts.places w

-- the table has the first place of each name of the list, in which some places have no name
pub record IsFirsts (names : List (Option RawName)) (firsts : Firsts) : Type 0 where
  pub finds : (w : List ℕ) → first_in firsts w ≡ position_from (drives w) 0 names

-- ---- kinds

abbrev pub no_kinds : Kinds
no_kinds = record { input = false; output = false; wire = false; reg = false }

abbrev pub is_wire : DeclKind → Bool
is_wire kind.Wire = true
is_wire _ = false

-- the word is declared as such a thing
abbrev pub is_declared_in : List RawDecl → (DeclKind → Bool) → List ℕ → Bool
is_declared_in decls such w = list_any (λ (d : RawDecl). such d.kind && has_word w d.name) decls

-- as what the word is declared
abbrev pub kinds_of : List RawDecl → List ℕ → Kinds
kinds_of decls w = record {
  input = is_declared_in decls is_input w;
  output = is_declared_in decls is_output w;
  wire = is_declared_in decls is_wire w;
  reg = is_declared_in decls is_reg w;
}

abbrev pub kinds_in : KindTable → List ℕ → Kinds
kinds_in table w = unwrap_or (get (pointwise ◌==◌) table.kinds w) no_kinds

-- the table has as what each word is declared
pub record KnowsKinds (decls : List RawDecl) (table : KindTable) : Type 0 where
  pub knows : (w : List ℕ) → kinds_in table w ≡ kinds_of decls w

-- an input other than `clk` and `rst`
abbrev pub is_plain : Kinds → List ℕ → Bool
is_plain kinds w = kinds.input && not (is_clock w || is_reset w)
