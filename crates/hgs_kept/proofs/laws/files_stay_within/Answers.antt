use Rattle.std.proofs.Common.{◌≤◌, length, refl, subst}
use Rattle.hgs_files.specs.Tree.{Tree, bytes_at}
use Rattle.hgs_legal.specs.LegalLog.{start_of}
use Rattle.hgs_ops.specs.Theorems.Apart.{among-part}
use Rattle.hgs_ops.specs.Theorems.CommitTree.{quiet}
use Rattle.hgs_bytes.specs.Bytes.{same}
use Rattle.hgs_stands.specs.Places.{changelog_index}
use Rattle.hgs_ops.specs.Theorems.Touch.{or-left, same-sym}
use Rattle.hgs_kept.specs.Within.{EndsWithin, written_whole}
use Rattle.hgs_kept.proofs.LengthLemmas.{run-short}
use Rattle.hgs_kept.proofs.WithinLemmas.{plain-run}
use Rattle.hgs_kept.proofs.laws.files_stay_within.Goals as goal

pub returns : goal.returns
returns c = λ path most t r log s loud short run.
    subst (λ (u : Tree). length (bytes_at u path) ≤ most) (c.numbers_rise.ensures.files t r log s (plain-run (EndsWithin path most) (start_of t r) log s run))
    (run-short path (among-part quiet written_whole path refl loud) (same-sym path changelog_index (or-left (same path changelog_index) _ loud)) most t r log s short run)
