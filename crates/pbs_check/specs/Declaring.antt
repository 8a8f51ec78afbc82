-- Rules 5 and 11: what is declared twice, and what is declared too often.
use Rattle.std.specs.Prelude.{◌≡◌, ◌≤◌, ◌<◌, ◌+◌, ℕ, Some, List, [], ◌∷◌, ◌++◌, map, length, take, slice_get, Contains}
use Rattle.pbs_base.specs.declared.refusal.Span.{Span}
use Rattle.pbs_ast.specs.declared.syntax.Decl.{Decl}
use Rattle.pbs_ast.specs.declared.syntax.Level.{Level}
use Rattle.pbs_ast.specs.declared.syntax.Prod.{Prod}
use Rattle.pbs_ast.specs.declared.syntax.Set.{Set}
use Rattle.pbs_ast.specs.declared.syntax.Spec.{Spec}
use Rattle.pbs_names.specs.Naming.{bit_names, input_names}
use Rattle.pbs_check.specs.declared.named.Named.{Named}
use Rattle.pbs_check.specs.Least.{later_span}

abbrev pub named : Span → List ℕ → Named
named span name = record { name = name; span = span }

-- an input declares its name, and a bus its own and those of its bits
abbrev pub declared_by : Decl → List Named
declared_by d = named d.span d.name ∷ map (named d.span) (bit_names d.name 0 d.width)

abbrev pub declared_inputs : List Decl → List Named
declared_inputs [] = []
declared_inputs (d ∷ ds) = declared_by d ++ declared_inputs ds

abbrev pub declared_actions : List Decl → List Named
declared_actions ds = map (λ d. named d.span d.name) ds

abbrev pub declared_levels : List Level → List Named
declared_levels ls = map (λ l. named l.span l.name) ls

abbrev pub declared_prods : List Prod → List Named
declared_prods ps = map (λ p. named p.span p.name) ps

-- every declared name
abbrev pub declared_names : Spec → List Named
declared_names spec =
    declared_inputs spec.inputs
    ++ (declared_actions spec.actions ++ (declared_levels spec.levels ++ declared_prods spec.prods))

-- the actions that a level lists
abbrev pub listed : List Set → List Named
listed sets = map (λ s. named s.span s.action) sets

-- a name stands twice in the list: the later of the two places
pub data Twice : List Named → Span → Type 0 where
  First : {x y : Named} {xs : List Named} → Contains xs y → y.name ≡ x.name → Twice (x ∷ xs) (later_span y.span x.span)
  Further : {x : Named} {xs : List Named} {span : Span} → Twice xs span → Twice (x ∷ xs) span

-- a name declared twice, of whatever kinds, or an action listed twice in one level
pub data Rule5 (spec : Spec) : Span → Type 0 where
  DeclaredTwice : {span : Span} → Twice (declared_names spec) span → Rule5 spec span
  ListedTwice : {l : Level} {span : Span} → Contains spec.levels l → Twice (listed l.sets) span → Rule5 spec span

-- the declaration with which the count of input bits, actions or levels passes 64
pub data Rule11 (spec : Spec) : Span → Type 0 where
  TooManyInputs : (i : ℕ) {d : Decl} → slice_get spec.inputs i ≡ Some d → length (input_names (take i spec.inputs)) ≤ 64
      → 64 < length (input_names (take (i + 1) spec.inputs)) → Rule11 spec d.span
  TooManyActions : {d : Decl} → slice_get spec.actions 64 ≡ Some d → Rule11 spec d.span
  TooManyLevels : {l : Level} → slice_get spec.levels 64 ≡ Some l → Rule11 spec l.span
