-- What holds of every repository.
use Rattle.std.specs.Prelude.{◌≡◌, ℕ, ◌<◌, ◌≤◌, List, true, length, map, slice_get, slice_index, Option, Some, None, IfSome}
use Rattle.std.specs.List.{AllByRecursion, list_all}
use Rattle.hgs_bytes.specs.Text.{ascends}
use Rattle.hgs_index.specs.FileText.{prefix_of, unpacked}
use Rattle.hgs_index.specs.TrackedPath.{is_tracked}
use Rattle.hgs_index.specs.ChangeText.{IsChange}
use Rattle.hgs_index.specs.Revision.{Parents, ParentsBefore, standing}
use Rattle.hgs_model.specs.Repo.{TreeFile, Changeset, Repo, Bookmark, file_text, tree_paths, all_parents}
use Rattle.hgs_model.specs.History.{History, no_history, EachChangeset, kept, text_at, changeset_text_value, changeset_revision}

-- a file has the prefix of the revision that is kept
abbrev pub HasKeptPrefix : History → Changeset → TreeFile → Type 0
HasKeptPrefix h c f = IfSome (kept h c.parents f.path f.body) (λ rev. f.prefix ≡ prefix_of (text_at (h.filelog f.path) rev))

-- A changeset after this history. Its paths are tracked and ascend, the text of each file splits into its prefix and its body, a kept file has the prefix of its revision, its own text is in its grammar, and no changeset before it is equal.
pub record IsNextChangeset (h : History) (c : Changeset) : Type 0 where
  pub paths : list_all is_tracked (tree_paths c.tree) ≡ true
  pub ordered : ascends (tree_paths c.tree) ≡ true
  pub texts : AllByRecursion (λ (f : TreeFile). unpacked (file_text f) ≡ (f.prefix, f.body)) c.tree
  pub prefixes : AllByRecursion (HasKeptPrefix h c) c.tree
  pub spelled : IsChange (changeset_text_value h c)
  pub other : standing h.changelog (changeset_revision h c).text c.parents ≡ None

abbrev pub phase_at : List ℕ → Option ℕ → ℕ
phase_at phases None = 0
phase_at phases (Some rev) = slice_index phases rev

-- the phase of a changeset is 0, 1 or 2, and at least each parent's
pub record IsPhase (phases : List ℕ) (parents : Parents) (phase : ℕ) : Type 0 where
  pub most : phase ≤ 2
  pub first : phase_at phases parents.0 ≤ phase
  pub second : phase_at phases parents.1 ≤ phase

-- A repository. Parents stand before their children, each changeset may come after those before it, each has a phase, bookmarks ascend by name, and bookmarks and working parents are changesets that there are.
pub record IsRepo (r : Repo) : Type 0 where
  pub parents : ParentsBefore 0 (all_parents r.changesets)
  pub changesets : EachChangeset IsNextChangeset no_history r.changesets
  pub phase_count : length r.phases ≡ length r.changesets
  pub phases : (rev : ℕ) (p : Parents) → slice_get (all_parents r.changesets) rev ≡ Some p → IsPhase r.phases p (slice_index r.phases rev)
  pub marks_ordered : ascends (map (λ (m : Bookmark). m.name) r.bookmarks) ≡ true
  pub marks : AllByRecursion (λ (m : Bookmark). m.rev < length r.changesets) r.bookmarks
  pub first_working : IfSome r.working.0 (λ rev. rev < length r.changesets)
  pub second_working : IfSome r.working.1 (λ rev. rev < length r.changesets)
