-- The transaction of a command, so that a loss of power does no harm.
use Rattle.std.specs.Prelude.{ℕ, Bool, List, [], ◌∷◌, ◌++◌, map, is_some}
use Rattle.hgs_files.specs.declared.op.Op.{Op}
use Rattle.hgs_files.specs.declared.op.Op.TheVariants.{Append, Create}
use Rattle.hgs_files.specs.Tree.{Tree}
use Rattle.hgs_journal.specs.Covers.{journal_paths}
use Rattle.hgs_model.specs.Repo.{Repo}
use Rattle.hgs_model.specs.Step.{sets_bookmark}
use Rattle.hgs_model.specs.declared.command.Command.{Command}
use Rattle.hgs_model.specs.declared.command.Command.TheVariants.{Commit, Import, Move, Mark, Unmark}
use Rattle.hgs_power.specs.Course.{Place}
use Rattle.hgs_power.specs.Course.Phase.{rest}
use Rattle.hgs_power.specs.Shape.{New, Onward, Shape, onward_steps, steps_of}
use Rattle.hgs_power.specs.Transaction.{Steps}
use Rattle.hgs_stands.specs.Places.{changelog_index}
use Rattle.hgs_ops.specs.Growth.{growth, new_changelog_entry}
use Rattle.hgs_ops.specs.Operations.{appending, journal_lines, lock_path, new_changelog_path, removals, wlock_path}
use Rattle.hgs_ops.specs.Replaced.{Replacement, new_bookmarks, new_dirstate, new_roots, only_if, roots_change}

abbrev pub as_new : Replacement → New
as_new x = record { plain = x.plain; file = x.file; text = x.text }

abbrev pub power_locks : List ℕ → List Op
power_locks who = Create wlock_path who ∷ Create lock_path who ∷ []

-- the new texts of a commit or an import, which sets a bookmark or does not: those that get their names before it is published, and those behind that
abbrev pub texts_before : Repo → Repo → List New
texts_before r next = map as_new (only_if (roots_change r next) (new_roots next))

abbrev pub texts_behind : Bool → Repo → List New
texts_behind marks next = map as_new (new_dirstate next ∷ only_if marks (new_bookmarks next))

-- a commit is published by its append to the changelog's index
abbrev pub commit_shape : Tree → Repo → Bool → List ℕ → Repo → Shape
commit_shape t r marks who next = record {
  locks = power_locks who;
  journal = journal_lines t (appending t r next);
  files = map as_new (only_if (roots_change r next) (new_roots next) ++ new_dirstate next ∷ only_if marks (new_bookmarks next));
  appends = growth t r next;
  syncs = journal_paths (journal_lines t (growth t r next));
  first = texts_before r next;
  entries = Append changelog_index (new_changelog_entry t r next) ∷ [];
  second = texts_behind marks next;
  last = changelog_index ∷ [];
  removals = removals;
}

-- an import by the rename of a new index, which goes on from the one that stands
abbrev pub new_index : Tree → Repo → Repo → Onward
new_index t r next = record { from = new_changelog_path; to = changelog_index; more = new_changelog_entry t r next }

-- another command by the rename of its one new text
abbrev pub rename_shape : List ℕ → Replacement → Shape
rename_shape who x = record {
  locks = power_locks who;
  journal = [];
  files = as_new x ∷ [];
  appends = [];
  syncs = [];
  first = as_new x ∷ [];
  entries = [];
  second = [];
  last = [];
  removals = removals;
}

-- the parts of the transaction of a command over a tree with the writer's locks
abbrev pub power_steps : Tree → Repo → Command → List ℕ → Repo → Steps
power_steps t r (Commit n) who next = steps_of t (commit_shape t r (is_some n.bookmark) who next)
power_steps t r (Import changes) who next = onward_steps t (commit_shape t r (sets_bookmark changes) who next) (new_index t r next)
power_steps t r (Move rev phase force) who next = steps_of t (rename_shape who (new_roots next))
power_steps t r (Mark name rev) who next = steps_of t (rename_shape who (new_bookmarks next))
power_steps t r (Unmark name) who next = steps_of t (rename_shape who (new_bookmarks next))

-- nothing goes on, after so many transactions
abbrev pub resting_at : ℕ → Place
resting_at a = record { phase = rest; acknowledged = a; published = a }
