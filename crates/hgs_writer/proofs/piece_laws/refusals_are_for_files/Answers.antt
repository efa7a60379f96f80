use Rattle.hgs_writer.proofs.LockLemmas.{abandoned-free, abandoned-nowhere, held-nowhere, locked-free, locked-no-journal}
use Rattle.hgs_writer.proofs.piece_laws.refusals_are_for_files.Goals as goal

pub returns : goal.returns
returns c = record { held = held-nowhere; abandoned = abandoned-nowhere; abandoned_free = abandoned-free; free = locked-free; no_journal = locked-no-journal }
