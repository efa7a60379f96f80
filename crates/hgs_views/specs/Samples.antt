-- Courses on which numbers rise.
use Rattle.std.specs.Prelude.{ℕ, zero, suc, List, [], ◌∷◌, ◌++◌, None, Some, codes, length, map, pos}
use Rattle.hgs_files.specs.Tree.{Tree, bytes_at, with_file}
use Rattle.hgs_index.specs.Revision.{Parents}
use Rattle.hgs_index.specs.declared.kinds.Flag.TheVariants.{Plain}
use Rattle.hgs_model.specs.Repo.{Changeset, Repo}
use Rattle.hgs_stands.specs.Places.{bookmarks_path, dirstate_path, changelog_index}
use Rattle.hgs_stands.specs.Samples.{two_drafts_files}
use Rattle.hgs_views.specs.Course.{Course}

-- the repository, and from the number 1 on the same with all changesets public
abbrev pub publicly : Repo → ℕ → Repo
publicly r zero = r
publicly r (suc i) = record { changesets = r.changesets; phases = map (λ phase. 0) r.phases; bookmarks = r.bookmarks; working = r.working }

-- the course on which an operation makes them public
abbrev pub publishing : Tree → Repo → Course
publishing t r = record { start = t; repo = publicly r; store = λ i. t; marked = λ log. length log; worked = λ log. length log; published = λ log. length log }

-- one repository, and from the number 1 on another
abbrev pub then_repo : Repo → Repo → ℕ → Repo
then_repo r s zero = r
then_repo r s (suc i) = s

abbrev pub then_tree : Tree → Tree → ℕ → Tree
then_tree t u zero = t
then_tree t u (suc i) = u

-- the course on which the last append of a commit publishes it: every other file is already as it is behind that, and
-- bookmarks and working parents are still those before
abbrev pub committing : Tree → Tree → Repo → Repo → Course
committing t u r s = record {
  start = with_file u changelog_index (Some (bytes_at t changelog_index));
  repo = then_repo r s;
  store = then_tree t u;
  marked = λ log. 0;
  worked = λ log. 0;
  published = λ log. length log;
}

abbrev pub no_files : Tree
no_files path = None

-- the files of two drafts, without a bookmark and without working parents
abbrev pub unmarked_files : Tree
unmarked_files = with_file (with_file two_drafts_files bookmarks_path None) dirstate_path None

-- ---- a file that is changed and changed back

-- a changeset with one file `a` of one letter
abbrev with_letter : Parents → List ℕ → Changeset
with_letter parents letter = record { parents = parents; tree = record { path = codes "a"; flag = Plain; prefix = []; body = letter ++ 10 ∷ [] } ∷ []; user = codes "test"; seconds = pos 0; offset = pos 0; extras = []; description = letter }

abbrev pub changed_back : Repo
changed_back = record { changesets = with_letter (None, None) (codes "a") ∷ with_letter (Some 0, None) (codes "b") ∷ with_letter (Some 1, None) (codes "a") ∷ []; phases = 1 ∷ 1 ∷ 1 ∷ []; bookmarks = []; working = (None, None) }
