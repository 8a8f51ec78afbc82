use Rattle.std.proofs.Common.{ap, ◌∙◌}
use Rattle.pbs_io.specs.Cabinet.{entries}
use Rattle.pbs_io.proofs.CabinetLemmas.{entries_more}
use Rattle.pbs_io.proofs.cabinet.Cabinet.add.Goals as goal

pub returns-in-Ok-store-clause-files : goal.returns-in-Ok-store-clause-files
returns-in-Ok-store-clause-files c =
    ap entries c.in-Ok-store.ensures.files
    ∙ entries_more c.args.self.now.files.items c.args.name.now c.args.bytes.now
    (record { name = c.in-Ok-from_str.name; bytes = c.in-Ok.bytes }) c.in-None.ensures.value c.in-Ok.ensures.items
    c.in-Ok-from_str.ensures.ok
