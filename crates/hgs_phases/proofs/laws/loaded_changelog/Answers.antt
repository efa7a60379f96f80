use Rattle.hgs_phases.proofs.laws.loaded_changelog.Goals as goal

pub returns-clause-loaded : goal.returns-clause-loaded
returns-clause-loaded c tail index log is =
    let are = c.loaded_entries.ensures.entries tail index log is in
    record { earlier = are.earlier; own = are.own }

pub returns-clause-nodes : goal.returns-clause-nodes
returns-clause-nodes c = c.loaded_entries.ensures.nodes

pub returns-clause-pushed_earlier : goal.returns-clause-pushed_earlier
returns-clause-pushed_earlier c = c.pushed_entries.ensures.earlier

pub returns-clause-pushed_own : goal.returns-clause-pushed_own
returns-clause-pushed_own c = c.pushed_entries.ensures.own

pub returns-clause-pushed_nodes : goal.returns-clause-pushed_nodes
returns-clause-pushed_nodes c = c.pushed_entries.ensures.nodes
