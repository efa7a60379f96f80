use Rattle.std.proofs.Common.{◌≡◌, ◌≤◌, ◌++◌, [], ℕ, true, List, length}
use Rattle.std.specs.Prelude.{Bool}
use Rattle.hgs_bytes.specs.Bytes.{among}
use Rattle.hgs_files.specs.Reads.{Grows}
use Rattle.hgs_findings.specs.Findings.{Finding}
use Rattle.hgs_judge.specs.Report.{findings_in}
use Rattle.hgs_report.specs.Store.{IsStoreOf}
use Rattle.hgs_verify.specs.Looked.{OfTree}
use Rattle.hgs_verify.specs.Refusal.{PathsKeepLimits}
use Rattle.hgs_verify.specs.Task.{AreReadOf, paths_of}
use Rattle.hgs_verify.specs.Walk.{AddPaths}
use Rattle.hgs_verify.proofs.walk.judge_paths.Given as goal

abbrev pub invariant-loop-alloc : goal.invariant-loop-alloc
invariant-loop-alloc g l = record {
  added : OfTree g.R.Reads.alone (g.R.Reads.seen l.files) (g.R.Reads.start l.files) (λ t. IsStoreOf l.store t → (new : List Finding) (marked : List Bool)
      → AddPaths (paths_of l.tasks.items ++ l.paths.keys) (findings_in l.into.items) new l.marks marked t → AddPaths l.fn.paths.keys (findings_in l.initial.into.items) new l.initial.marks marked t);
  read : OfTree g.R.Reads.alone (g.R.Reads.seen l.files) (g.R.Reads.start l.files) (AreReadOf l.tasks.items);
  limits : OfTree g.R.Reads.alone (g.R.Reads.seen l.files) (g.R.Reads.start l.files) (λ t. PathsKeepLimits (paths_of l.tasks.items ++ l.paths.keys) t → PathsKeepLimits l.fn.paths.keys t);
  some : l.tasks.items ≡ [] → l.paths.keys ≡ [];
  front : (path : List ℕ) → among path (paths_of l.tasks.items ++ l.paths.keys) ≡ true → among path l.fn.paths.keys ≡ true;
  grown : Grows (g.R.Reads.seen l.fn.files) (g.R.Reads.seen l.files);
  same_start : g.R.Reads.start l.files ≡ g.R.Reads.start l.fn.files;
  still : g.R.Reads.alone ≡ true → g.R.Reads.seen l.files ≡ g.R.Reads.seen l.fn.files;
  later : g.R.Reads.faults l.fn.files ≤ g.R.Reads.faults l.files;
  refused : g.R.Reads.denied l.fn.files ≤ g.R.Reads.denied l.files;
}

abbrev pub decreases-loop-alloc : goal.decreases-loop-alloc
decreases-loop-alloc g l = length (paths_of l.tasks.items ++ l.paths.keys)
