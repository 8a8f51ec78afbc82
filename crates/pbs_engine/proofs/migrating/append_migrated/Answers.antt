use Rattle.std.proofs.Common.{refl, arith}
use Rattle.pbs_engine.specs.Migrated.{By20}
use Rattle.pbs_engine.proofs.migrating.append_migrated.Goals as goal

pub returns-then-migrated-gt-SPEC_BYTES : goal.returns-then-migrated-gt-SPEC_BYTES
returns-then-migrated-gt-SPEC_BYTES c =
    rw c.too_long.ensures (By20 c.requires (omega (arith, c.if-migrated-gt-SPEC_BYTES.true)), refl)
