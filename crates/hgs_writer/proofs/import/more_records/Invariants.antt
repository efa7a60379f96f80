use Rattle.std.proofs.Common.{◌≡◌, ◌≤◌, true, length}
use Rattle.std.specs.List.{AllByRecursion}
use Rattle.hgs_commit.specs.Commit.{AtRest}
use Rattle.hgs_commit.specs.Known.{AreKept}
use Rattle.hgs_files.specs.Tree.{after_all}
use Rattle.hgs_loading.specs.Store.{HaveGrown, view_logs}
use Rattle.hgs_model.specs.Valid.{IsNewChange}
use Rattle.hgs_overlay.specs.Layers.{laid_ops}
use Rattle.hgs_revlog.specs.Loaded.{AreEntries}
use Rattle.hgs_writer.proofs.RecordsLaid.{Goes}
use Rattle.hgs_writer.proofs.import.more_records.Given as goal

abbrev pub invariant-loop-change : goal.invariant-loop-change
invariant-loop-change g l = record {
  valid : AllByRecursion IsNewChange l.rest;
  goes : AtRest g.R.Reads.alone (g.R.Reads.seen l.overlay.files) (g.R.Reads.start l.overlay.files) (λ t. Goes t l.changes l.fn.first l.rest l.last l.fn.overlay.layers l.overlay.layers);
  changelog : AreEntries l.logs.changelog.entries;
  manifest : AreEntries l.logs.manifest.entries;
  grown : AtRest g.R.Reads.alone (g.R.Reads.seen l.overlay.files) (g.R.Reads.start l.overlay.files) (λ t. HaveGrown (view_logs l.logs) (after_all (laid_ops l.overlay.layers) t));
  known : AtRest g.R.Reads.alone (g.R.Reads.seen l.overlay.files) (g.R.Reads.start l.overlay.files) (λ t. AreKept (after_all (laid_ops l.overlay.layers) t) l.known);
  same_start : g.R.Reads.start l.overlay.files ≡ g.R.Reads.start l.fn.overlay.files;
  still : g.R.Reads.alone ≡ true → g.R.Reads.seen l.overlay.files ≡ g.R.Reads.seen l.fn.overlay.files;
  later : g.R.Reads.faults l.fn.overlay.files ≤ g.R.Reads.faults l.overlay.files;
}

abbrev pub decreases-loop-change : goal.decreases-loop-change
decreases-loop-change g l = length l.rest
