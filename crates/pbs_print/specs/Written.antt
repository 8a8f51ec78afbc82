-- Specifications that texts stand for, and those whose canonical text reads back.
use Rattle.std.specs.Prelude.{ℕ, ◌≡◌, List, Ok}
use Rattle.pbs_ast.specs.declared.syntax.Spec.{Spec}
use Rattle.pbs_text.specs.declared.token.Token.{Token}
use Rattle.pbs_text.specs.Grammar.{TextPhrase}
use Rattle.pbs_text.specs.Lexing.{tokens}
use Rattle.pbs_text.specs.Refusals.{IsRead}
use Rattle.pbs_text.specs.Trees.{text_spec}
use Rattle.pbs_text.specs.Answers.{StandsFor}
use Rattle.pbs_print.specs.Canonical.{canonical}
use Rattle.pbs_print.specs.Unspanned.{unspanned}

-- some text, however long, that breaks none of the rules 2 to 4 stands for the specification
pub record IsWritten (spec : Spec) : Type 0 where
  pub text : List ℕ
  pub found : List Token
  pub found_is : tokens text ≡ Ok found
  pub phrase : TextPhrase
  pub is_read : IsRead found phrase
  pub spec_is : spec ≡ text_spec text phrase

-- the specification as one of version 2
abbrev pub of_version_2 : Spec → Spec
of_version_2 spec = record spec { version = 2 }

-- the canonical text stands for the same specification apart from spans
abbrev pub ReadsBack : Spec → Type 0
ReadsBack spec = (again : Spec) × StandsFor (canonical spec) again × (unspanned again ≡ unspanned spec)
