use Rattle.std.proofs.Common.{length, ◌∙◌, ap}
use Rattle.std.proofs.lemmas.List.FromFn.{length-map-range_with_len}
use Rattle.hgs_phases.specs.Phases.{phase_by}
use Rattle.hgs_load.proofs.load.loaded_of.Goals as goal

pub of-requires-clause-phases : goal.of-requires-clause-phases
of-requires-clause-phases c =
    ap length c.in_ok-phases.ensures ∙ length-map-range_with_len (phase_by c.args.roots.now c.args.log.entries) 0 (length c.args.log.entries)
