use Rattle.std.proofs.Common.{◌≡◌, ◌≤◌, ◌-◌, ◌+◌, [], length}
use Rattle.hgs_input.specs.Read.{files_from}
use Rattle.hgs_input.specs.View.{IsTree}
use Rattle.hgs_input.proofs.input.Input.files.Given as goal

abbrev pub invariant-loop-files : goal.invariant-loop-files
invariant-loop-files l = record {
  read : files_from (length l.fn.self.bytes - length l.files) l.files l.self ≡ files_from (length l.fn.self.bytes) [] l.fn.self;
  room : length l.files + length l.self.bytes ≤ length l.fn.self.bytes;
  tree : IsTree l.files;
}

abbrev pub decreases-loop-files : goal.decreases-loop-files
decreases-loop-files l = length l.self.bytes
