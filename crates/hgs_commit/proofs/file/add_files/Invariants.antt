use Rattle.std.proofs.Common.{◌≡◌, ◌+◌, ◌≤◌, ℕ, List, Option, true, length}
use Rattle.std.specs.Prelude.{IfSome}
use Rattle.hgs_files.specs.Tree.{after_all}
use Rattle.hgs_index.specs.Manifest.{last_path}
use Rattle.hgs_path.specs.Fncache.{listing}
use Rattle.hgs_commit.specs.Files.{can_follow}
use Rattle.hgs_commit.specs.Known.{KnowsAt}
use Rattle.hgs_commit.specs.NewTree.{tree_of}
use Rattle.hgs_commit.specs.Obstacles.{either_list, met_of}
use Rattle.hgs_commit.specs.Tree.{ClashIn, files_in}
use Rattle.hgs_commit.proofs.TreeLemmas.{given}
use Rattle.hgs_commit.proofs.file.add_files.Given as goal

abbrev pub invariant-loop-file : goal.invariant-loop-file
invariant-loop-file g l = record {
  found : g.R.Reads.alone ≡ true → IfSome (g.R.Reads.seen l.files) (λ log. given (listing l.fncache) l.link l.sources (tree_of l.tree) (met_of l.met) l.rest (after_all log (g.R.Reads.start l.files)) ≡ given (listing l.fncache) l.link l.sources (tree_of l.fn.tree) (met_of l.fn.met) l.fn.new_files (after_all log (g.R.Reads.start l.files)));
  clash : g.R.Reads.alone ≡ true → IfSome (g.R.Reads.seen l.files) (λ log. (clash : Option (List ℕ)) → ClashIn (either_list (listing l.fncache) (listing l.new_paths)) (files_in (listing l.fncache) l.link l.sources l.rest l.tree.first l.tree.second (after_all log (g.R.Reads.start l.files))) l.met.clash clash → ClashIn (listing l.fncache) (files_in (listing l.fncache) l.link l.sources l.fn.new_files l.fn.tree.first l.fn.tree.second (after_all log (g.R.Reads.start l.files))) l.fn.met.clash clash);
  known : KnowsAt g.R.Reads.alone (g.R.Reads.seen l.files) (g.R.Reads.start l.files) l.known;
  order : can_follow (last_path l.tree.rows) l.rest ≡ true;
  count : length l.tree.rows + length l.rest ≡ length l.fn.new_files;
  few : length l.fn.new_files ≤ 20000;
  same_start : g.R.Reads.start l.files ≡ g.R.Reads.start l.fn.files;
  still : g.R.Reads.alone ≡ true → g.R.Reads.seen l.files ≡ g.R.Reads.seen l.fn.files;
  later : g.R.Reads.faults l.fn.files ≤ g.R.Reads.faults l.files;
  refused : g.R.Reads.denied l.fn.files ≤ g.R.Reads.denied l.files;
}

abbrev pub decreases-loop-file : goal.decreases-loop-file
decreases-loop-file g l = length l.rest
