-- Which files a transaction writes before its journal and behind its publishing operation.
use Rattle.std.proofs.Common.{◌≡◌, ℕ, List, [], ◌∷◌, ◌++◌, Bool, true, false, ◌||◌, refl}
use Rattle.std.specs.Prelude.{is_some}
use Rattle.std.specs.List.{list_all}
use Rattle.hgs_bytes.specs.Bytes.{same, among}
use Rattle.hgs_files.specs.declared.op.Op.{Op}
use Rattle.hgs_files.specs.declared.op.Op.TheVariants.{Remove}
use Rattle.hgs_files.specs.Log.{IsDone}
use Rattle.hgs_files.specs.Tree.{Tree, after_all}
use Rattle.hgs_journal.specs.Covers.{is_loose}
use Rattle.hgs_journal.specs.Names.{journal_path}
use Rattle.hgs_model.specs.declared.command.Command.{Command}
use Rattle.hgs_model.specs.declared.command.Command.TheVariants.{Commit, Import, Move, Mark, Unmark}
use Rattle.hgs_model.specs.Repo.{Repo}
use Rattle.hgs_model.specs.Step.{sets_bookmark}
use Rattle.hgs_ops.specs.Operations.{renames_after, strays, transaction_of}
use Rattle.hgs_ops.specs.Replaced.{new_bookmarks, new_dirstate}
use Rattle.hgs_ops.specs.Theorems.CommitTree.{second_of}
use Rattle.hgs_ops.proofs.JournalLemmas.{small_paths}
use Rattle.hgs_ops.proofs.Parts.{done-within}
use Rattle.hgs_ops.specs.Theorems.Touch.{or-both, touched-within, untouched, within}
use Rattle.hgs_ops.proofs.TransactionLemmas.{before-loose}

pub before-stays : (t u : Tree) (r next : Repo) (command : Command) (who : List ℕ) (done left : List Op) (path : List ℕ) → IsDone (transaction_of t r command who next).before done left → is_loose strays path ≡ false → after_all done u path ≡ u path
before-stays t u r next command who done left path h free = untouched done u path (touched-within (is_loose strays) done path (done-within (is_loose strays) _ done left h (before-loose t r next command who)) free)

-- what is written behind the publishing operation
abbrev is_late : List ℕ → Bool
is_late path = is_loose strays path || (same path journal_path || among path small_paths)

second-late : (bk : Bool) (dirstate marks : List ℕ) → list_all (within is_late) (second_of bk dirstate marks ++ Remove journal_path ∷ []) ≡ true
second-late true dirstate marks = refl
second-late false dirstate marks = refl

behind-late : (command : Command) (next : Repo) → list_all (within is_late) (renames_after command next ++ Remove journal_path ∷ []) ≡ true
behind-late (Commit n) next = second-late (is_some n.bookmark) (new_dirstate next).text (new_bookmarks next).text
behind-late (Import changes) next = second-late (sets_bookmark changes) (new_dirstate next).text (new_bookmarks next).text
behind-late (Move rev phase force) next = refl
behind-late (Mark name rev) next = refl
behind-late (Unmark name) next = refl

pub behind-stays : (t u : Tree) (r next : Repo) (command : Command) (who : List ℕ) (done left : List Op) (path : List ℕ) → IsDone ((transaction_of t r command who next).renames ++ Remove journal_path ∷ []) done left
    → is_loose strays path ≡ false → same path journal_path ≡ false → among path small_paths ≡ false → after_all done u path ≡ u path
behind-stays t u r next command who done left path h free off small = untouched done u path (touched-within is_late done path (done-within is_late _ done left h (behind-late command next)) (or-both _ _ free (or-both _ _ off small)))
