-- A tree has one coding.
use Rattle.std.proofs.Common.{◌≡◌, ℕ, List, refl, ap, arith}
use Rattle.pbs_ast.specs.Trees.{Tree}
use Rattle.net_core.specs.declared.codes.Code.{Code}
use Rattle.net_core.specs.declared.codes.CodePlan.{CodePlan}
use Rattle.net_encode.specs.Codes.{codes_of}
use Rattle.pbs_overlap.proofs.Pigeonhole.{not_few_and_many}
use Rattle.pbs_codes.specs.Plans.{IsCodePlan}
use Rattle.pbs_codes.specs.Sharing.{IsSharedBy, KeepsRegisters, OfManyEdges, OfManyTerms}
use Rattle.pbs_realize.specs.Codes.{AreCodes, Own, Shared}

abbrev pub OnePlan : Type 0
OnePlan = (main : Tree) (plan other : CodePlan) → IsCodePlan main plan → IsCodePlan main other → plan ≡ other

-- a tree that is past a limit isn't within both
not_both : (main : Tree) (plan : CodePlan) → IsSharedBy main plan → KeepsRegisters main → ⊥
not_both main plan shared (OfManyEdges many) = let few = shared.few_edges in omega arith
not_both main plan shared (OfManyTerms few many) = not_few_and_many main 256 shared.few_terms many

pub one_coding : OnePlan → (main : Tree) (m n : ℕ) (cs ds : List Code) → AreCodes main m cs → AreCodes main n ds
    → cs ≡ ds
one_coding one main m n cs ds (Shared plan shared) (Shared other shared_too) =
    ap codes_of (one main plan other shared.planned shared_too.planned)
one_coding one main m n cs ds (Shared plan shared) (Own keeps) = absurd (not_both main plan shared keeps)
one_coding one main m n cs ds (Own keeps) (Shared plan shared) = absurd (not_both main plan shared keeps)
one_coding one main m n cs ds (Own keeps) (Own keeps_too) = refl
