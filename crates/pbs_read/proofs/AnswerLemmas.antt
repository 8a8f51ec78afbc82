-- The code gives the answer of the definition.
use Rattle.std.proofs.Common.{◌≡◌, ℕ, List, length, Result, Ok, Err, refl, sym, ap, subst, ◌∙◌}
use Rattle.std.specs.Prelude.{IfOk, IfErr}
use Rattle.pbs_base.specs.declared.refusal.Refusal.{Refusal}
use Rattle.pbs_ast.specs.declared.syntax.Spec.{Spec}
use Rattle.pbs_text.specs.declared.fail.ReadSpec.{ReadSpec}
use Rattle.pbs_text.specs.declared.fail.ReadSpec.TheVariants.{Memory, Refused}
use Rattle.pbs_text.specs.declared.token.Token.{Token}
use Rattle.pbs_ast.specs.Bare.{bare}
use Rattle.pbs_text.specs.Lexing.{tokens}
use Rattle.pbs_text.specs.Refusals.{Says}
use Rattle.pbs_lex.specs.Stops.{StopsLexing}
use Rattle.pbs_read.specs.inner.TextDescent.{ReadsText, StopsText}
use Rattle.pbs_text.specs.Answers.{IsShort, StandsFor, IsRefusedBy, ByToken, ByGrammar, Refuses, IsThe}
use Rattle.pbs_grammar.proofs.Exact.{reading_says}
use Rattle.pbs_grammar.proofs.OneAnswer.{one_spec, never_both, one_refusal}

-- what a text stands for, from its tokens
pub found_spec : (bytes : List ℕ) (ts : List Token) (r : Result Spec ReadSpec) → IsShort bytes → tokens bytes ≡ Ok ts
    → IfOk r (λ spec. ReadsText bytes (length bytes) ts (bare spec)) → IfOk r (λ spec. StandsFor bytes (bare spec))
found_spec bytes ts (Ok spec) short lexed h =
    record {
      short = short;
      found = ts;
      found_is = lexed;
      phrase = h.phrase;
      is_read = subst (λ x. Says (length bytes) ts x) h.is_read (reading_says (length bytes) ts);
      spec_is = h.value_is;
    }
found_spec bytes ts (Err e) short lexed h = tt

pub refused_text : (bytes : List ℕ) (ts : List Token) (r : Result Spec ReadSpec) → IsShort bytes → tokens bytes ≡ Ok ts
    → IfErr r (λ e. StopsText (length bytes) ts e) → IfErr r (λ e. Refuses bytes e)
refused_text bytes ts (Ok spec) short lexed h = tt
refused_text bytes ts (Err Memory) short lexed h = tt
refused_text bytes ts (Err (Refused r)) short lexed h = ByGrammar short ts lexed r
    (subst (λ x. Says (length bytes) ts x) h (reading_says (length bytes) ts))

pub found_from : (bytes : List ℕ) (ts us : List Token) (end : ℕ) (r : Result Spec ReadSpec) → IsShort bytes
    → tokens bytes ≡ Ok ts → us ≡ ts → end ≡ length bytes
    → IfOk r (λ spec. ReadsText bytes end us (bare spec)) → IfOk r (λ spec. StandsFor bytes (bare spec))
found_from bytes ts us end r short lexed same e h =
    found_spec bytes us r short (lexed ∙ ap Ok (sym same)) (subst
    (λ n. IfOk r (λ spec. ReadsText bytes n us (bare spec))) e h)

pub refused_from : (bytes : List ℕ) (ts us : List Token) (end : ℕ) (r : Result Spec ReadSpec) → IsShort bytes
    → tokens bytes ≡ Ok ts → us ≡ ts → end ≡ length bytes
    → IfErr r (λ x. StopsText end us x) → IfErr r (λ x. Refuses bytes x)
refused_from bytes ts us end r short lexed same e h =
    refused_text bytes us r short (lexed ∙ ap Ok (sym same)) (subst (λ n. IfErr r (λ x. StopsText n us x)) e h)

pub refused_token : (bytes : List ℕ) (e : ReadSpec) → IsShort bytes → StopsLexing bytes e → Refuses bytes e
refused_token bytes Memory short h = tt
refused_token bytes (Refused r) short h = subst (λ x. IsRefusedBy bytes x) (sym h.1) (ByToken short h.0 h.2)

-- ---- what the definition says, the code answers

pub only_spec : (bytes : List ℕ) (r : Result Spec ReadSpec) (spec : Spec) → IfOk r (λ read. StandsFor bytes (bare read))
    → StandsFor bytes spec → IfOk r (λ read. bare read ≡ spec)
only_spec bytes (Ok read) spec h s = one_spec bytes (bare read) spec h s
only_spec bytes (Err e) spec h s = tt

pub only_memory : (bytes : List ℕ) (r : Result Spec ReadSpec) (spec : Spec) → IfErr r (λ e. Refuses bytes e)
    → StandsFor bytes spec → IfErr r (λ e. e ≡ Memory)
only_memory bytes (Ok read) spec h s = tt
only_memory bytes (Err Memory) spec h s = refl
only_memory bytes (Err (Refused q)) spec h s = absurd (never_both bytes spec q s h)

pub never_read : (bytes : List ℕ) (r : Result Spec ReadSpec) (q : Refusal)
    → IfOk r (λ read. StandsFor bytes (bare read)) → IsRefusedBy bytes q → IfOk r (λ _. ⊥)
never_read bytes (Ok read) q h s = never_both bytes (bare read) q h s
never_read bytes (Err e) q h s = tt

pub only_refused : (bytes : List ℕ) (r : Result Spec ReadSpec) (q : Refusal) → IfErr r (λ e. Refuses bytes e)
    → IsRefusedBy bytes q → IfErr r (λ e. IsThe q e)
only_refused bytes (Ok read) q h s = tt
only_refused bytes (Err Memory) q h s = tt
only_refused bytes (Err (Refused x)) q h s = one_refusal bytes x q h s
