-- What files that stand beside a store add to its findings, and the report.
use Rattle.std.specs.Prelude.{◌==◌, ℕ, List, not, length, flat_map, is_some}
use Rattle.hgs_files.specs.Tree.{Tree, bytes_at}
use Rattle.hgs_findings.specs.Findings.{Finding, IsReport}
use Rattle.hgs_judge.specs.Report.{findings_in}
use Rattle.hgs_report.specs.Adds.{Adds}
use Rattle.hgs_report.specs.Lines.{file_if}
use Rattle.hgs_report.specs.Names.{IsOfNames, IsOfUnused}
use Rattle.hgs_report.specs.Parts.{IsOfLists, IsOfPaths}
use Rattle.hgs_report.specs.Texts.{IsOfBookmarks, IsOfDirstate, IsOfRoots}
use Rattle.hgs_verify.specs.declared.report.Report.{Report}

-- a file that stands
abbrev pub of_standing : Tree → List ℕ → ℕ → List Finding
of_standing t path kind = file_if (is_some (t path)) path kind

-- a file that has bytes and that no path uses
abbrev pub of_unused : Tree → List ℕ → List Finding
of_unused t path = file_if (not (length (bytes_at t path) == 0)) path 12

abbrev pub of_all_unused : Tree → List (List ℕ) → List Finding
of_all_unused t paths = flat_map (of_unused t) paths

-- It is the report of a tree.
abbrev pub IsReportOf : Report → Tree → Type 0
IsReportOf r t = IsReport t (findings_in r.findings.items) r.changesets r.filelogs

-- the phase roots, the bookmarks and the dirstate, one after another
pub record AddsSmall (t : Tree) (old new : List Finding) : Type 0 where
  pub rooted : List Finding
  pub marked : List Finding
  pub roots : Adds t (IsOfRoots t) old rooted
  pub bookmarks : Adds t (IsOfBookmarks t) rooted marked
  pub dirstate : Adds t (IsOfDirstate t) marked new

-- the names of files, and the unused files
pub record AddsBeside (t : Tree) (old new : List Finding) : Type 0 where
  pub named : List Finding
  pub names : Adds t (IsOfNames t) old named
  pub unused : Adds t (IsOfUnused t) named new

-- the used paths, and the lists of changed files
pub record AddsPaths (t : Tree) (old new : List Finding) : Type 0 where
  pub judged : List Finding
  pub paths : Adds t (IsOfPaths t) old judged
  pub lists : Adds t (IsOfLists t) judged new
