use Rattle.std.proofs.Common.{◌/◌, length}
use Rattle.hgs_loading.proofs.GrownLemmas.{entries-stay}
use Rattle.hgs_loading.proofs.grown.log_on.Goals as goal

pub returns-in-Ok-clause-entries : goal.returns-in-Ok-clause-entries
returns-in-Ok-clause-entries c =
    entries-stay c.pushed_entries.ensures.entries (length c.args.behind.now / 64) c.args.log c.in-Ok.log c.args.behind.now c.in-Ok.ensures c.requires
