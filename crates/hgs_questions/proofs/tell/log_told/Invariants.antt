use Rattle.std.proofs.Common.{◌≡◌, ℕ, ◌+◌, ◌≤◌, length, true}
use Rattle.hgs_files.specs.Reads.{Grows}
use Rattle.hgs_load.specs.Asks.{MayAnswerWhereTold}
use Rattle.hgs_load.specs.Beyond.{IsShown}
use Rattle.hgs_questions.specs.Questions.{log_asks}
use Rattle.hgs_questions.specs.Said.{said}
use Rattle.hgs_questions.proofs.tell.log_told.Given as goal

abbrev pub invariant-loop-left : goal.invariant-loop-left
invariant-loop-left g l = record {
  lines : (count : ℕ) × (count + l.left ≡ length l.fn.session.changelog.entries) × MayAnswerWhereTold (g.R.Reads.seen l.fn.files) (g.R.Reads.start l.fn.files) (g.R.Reads.seen l.files) (log_asks l.fn.session count) (said l.text.items);
  kept : l.session ≡ l.fn.session;
  grown : Grows (g.R.Reads.seen l.fn.files) (g.R.Reads.seen l.files);
  same_start : g.R.Reads.start l.files ≡ g.R.Reads.start l.fn.files;
  still : g.R.Reads.alone ≡ true → g.R.Reads.seen l.files ≡ g.R.Reads.seen l.fn.files;
  same_ties : g.R.Reads.ties l.files ≡ g.R.Reads.ties l.fn.files;
  shown : IsShown g.R.Reads.shows (g.R.Reads.start l.fn.files) (g.R.Reads.seen l.fn.files) → IsShown g.R.Reads.shows (g.R.Reads.start l.files) (g.R.Reads.seen l.files);
  later : g.R.Reads.faults l.fn.files ≤ g.R.Reads.faults l.files;
  later_denied : g.R.Reads.denied l.fn.files ≤ g.R.Reads.denied l.files;
}

abbrev pub decreases-loop-left : goal.decreases-loop-left
decreases-loop-left g l = l.left
