use Rattle.std.proofs.Common.{length, ◌∙◌, ap}
use Rattle.std.proofs.lemmas.List.FromFn.{length-map-range_with_len}
use Rattle.hgs_phases.specs.Phases.{phase_by}
use Rattle.hgs_loading.proofs.store.history_of.Goals as goal

pub returns-clause-phases : goal.returns-clause-phases
returns-clause-phases c =
    ap length c.in_ok-phases.ensures ∙ length-map-range_with_len (phase_by c.args.small.roots.roots c.args.logs.changelog.entries) 0 (length c.args.logs.changelog.entries)
