use Rattle.std.proofs.Common.{◌≡◌, drop}
use Rattle.std.specs.Option.{ForSome}
use Rattle.hgs_files.specs.Files.{GoesOn}
use Rattle.hgs_files.specs.Log.{IsDone}
use Rattle.hgs_files.specs.Tree.{after_all}
use Rattle.hgs_machine.specs.Locks.{NeverFall}
use Rattle.hgs_machine.specs.Planned.{SourcesStand}
use Rattle.hgs_recover.proofs.Undone.{IsEnd}
use Rattle.hgs_recover.proofs.undo.undo.Given as goal

abbrev pub invariant-loop-op : goal.invariant-loop-op
invariant-loop-op g l = record {
  log : GoesOn (g.F.Files.log l.fn.files) (g.F.Files.log l.files) (λ done. IsDone l.ops done (drop l.op-index l.ops));
  sources : ForSome (g.F.Files.log l.files) (λ log. SourcesStand (drop l.op-index l.ops) (after_all log (g.F.Reads.start l.files)));
  ends : IsEnd (drop l.op-index l.ops);
  same_start : g.F.Reads.start l.files ≡ g.F.Reads.start l.fn.files;
  counts : NeverFall (g.F.Reads.faults l.fn.files) (g.F.Reads.faults l.files) (g.F.Reads.denied l.fn.files) (g.F.Reads.denied l.files);
}
