-- The parts of the findings of a tree.
use Rattle.std.specs.Prelude.{◌≡◌, ◌==◌, ℕ, List, [], true, false, Option, Some, None, is_some}
use Rattle.hgs_bytes.specs.Bytes.{among}
use Rattle.hgs_files.specs.Tree.{Tree}
use Rattle.hgs_journal.specs.Names.{journal_path, locks}
use Rattle.hgs_stands.specs.Places.{changelog_index}
use Rattle.hgs_findings.specs.Reading.{sight_of}
use Rattle.hgs_findings.specs.Regular.{is_used}
use Rattle.hgs_findings.specs.Findings.{Finding}
use Rattle.hgs_judge.specs.Found.{IsFoundOf}
use Rattle.hgs_report.specs.Adds.{Adds}
use Rattle.hgs_report.specs.Lists.{ListsWrongly}
use Rattle.hgs_report.specs.Names.{IsOfNames, IsOfUnused}
use Rattle.hgs_report.specs.Store.{IsOfStore}
use Rattle.hgs_report.specs.Texts.{IsOfRoots, IsOfBookmarks, IsOfDirstate}

-- what an unfinished call left behind
pub data IsOfCalls (t : Tree) : List ℕ → Option ℕ → ℕ → Type 0 where
  journal : is_some (t journal_path) ≡ true → IsOfCalls t journal_path None 1
  lock : (path : List ℕ) → among path locks ≡ true → is_some (t path) ≡ true → IsOfCalls t path None 2

-- what is found of the used paths, the lists of changed files aside
pub data IsOfPaths (t : Tree) : List ℕ → Option ℕ → ℕ → Type 0 where
  found : (path file : List ℕ) (rev : Option ℕ) (kind : ℕ) → is_used (sight_of t) path ≡ true → IsFoundOf t path file rev kind → (kind == 9) ≡ false → IsOfPaths t file rev kind

pub data IsOfLists (t : Tree) : List ℕ → Option ℕ → ℕ → Type 0 where
  wrong : (rev : ℕ) → ListsWrongly t rev → IsOfLists t changelog_index (Some rev) 9

-- all of them
pub data IsOfAny (t : Tree) (file : List ℕ) (rev : Option ℕ) (kind : ℕ) : Type 0 where
  of_calls : IsOfCalls t file rev kind → IsOfAny t file rev kind
  of_store : IsOfStore t file rev kind → IsOfAny t file rev kind
  of_roots : IsOfRoots t file rev kind → IsOfAny t file rev kind
  of_bookmarks : IsOfBookmarks t file rev kind → IsOfAny t file rev kind
  of_dirstate : IsOfDirstate t file rev kind → IsOfAny t file rev kind
  of_names : IsOfNames t file rev kind → IsOfAny t file rev kind
  of_unused : IsOfUnused t file rev kind → IsOfAny t file rev kind
  of_paths : IsOfPaths t file rev kind → IsOfAny t file rev kind
  of_lists : IsOfLists t file rev kind → IsOfAny t file rev kind

-- These are all parts, one after another.
pub record AreParts (t : Tree) (all : List Finding) : Type 0 where
  pub called : List Finding
  pub read : List Finding
  pub rooted : List Finding
  pub marked : List Finding
  pub tracked : List Finding
  pub named : List Finding
  pub used : List Finding
  pub judged : List Finding
  pub calls : Adds t (IsOfCalls t) [] called
  pub store : Adds t (IsOfStore t) called read
  pub roots : Adds t (IsOfRoots t) read rooted
  pub bookmarks : Adds t (IsOfBookmarks t) rooted marked
  pub dirstate : Adds t (IsOfDirstate t) marked tracked
  pub names : Adds t (IsOfNames t) tracked named
  pub unused : Adds t (IsOfUnused t) named used
  pub paths : Adds t (IsOfPaths t) used judged
  pub lists : Adds t (IsOfLists t) judged all
