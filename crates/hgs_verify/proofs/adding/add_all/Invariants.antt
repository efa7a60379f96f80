use Rattle.std.proofs.Common.{◌≡◌, ℕ, true, List}
use Rattle.std.specs.Prelude.{Bool}
use Rattle.hgs_bytes.specs.Bytes.{among}
use Rattle.hgs_files.specs.Tree.{Tree}
use Rattle.hgs_findings.specs.Findings.{Finding}
use Rattle.hgs_judge.specs.Report.{findings_in}
use Rattle.hgs_report.specs.Store.{IsStoreOf}
use Rattle.hgs_report.specs.declared.store.Store.{Store}
use Rattle.hgs_verify.specs.Refusal.{PathsKeepLimits}
use Rattle.hgs_verify.specs.Task.{AreRefusedIn, AreRightIn, AreWithinIn, paths_of}
use Rattle.hgs_verify.specs.Walk.{AddPaths}
use Rattle.hgs_verify.proofs.adding.add_all.Given as goal

abbrev pub invariant-loop-task : goal.invariant-loop-task
invariant-loop-task l = record {
  added : (s : Store) (t : Tree) → IsStoreOf s t → AreRightIn s t l.fn.tasks.items
      → AreRightIn s t l.task-iterator.rest.items
      × ((new : List Finding) (marked : List Bool) → AddPaths (paths_of l.task-iterator.rest.items) (findings_in l.into.items) new l.marks marked t → AddPaths (paths_of l.fn.tasks.items) (findings_in l.initial.into.items) new l.initial.marks marked t);
  read : (t : Tree) → AreRefusedIn t l.fn.tasks.items → AreRefusedIn t l.task-iterator.rest.items;
  within : (t : Tree) → AreWithinIn t l.fn.tasks.items → AreWithinIn t l.task-iterator.rest.items × (PathsKeepLimits (paths_of l.task-iterator.rest.items) t → PathsKeepLimits (paths_of l.fn.tasks.items) t);
  front : (path : List ℕ) → among path (paths_of l.task-iterator.rest.items) ≡ true → among path (paths_of l.fn.tasks.items) ≡ true;
}
