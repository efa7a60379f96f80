-- Bookmarks and dirstates that are read again as they are written.
use Rattle.std.specs.Prelude.{◌≡◌, ◌<◌, ◌^◌, ℕ, true, List, length, map}
use Rattle.std.specs.List.{AllByRecursion}
use Rattle.hgs_bytes.specs.Text.{Lacks, ascends}
use Rattle.hgs_index.specs.MarkName.{is_mark_name}
use Rattle.hgs_index.specs.Node.{IsNode}
use Rattle.hgs_marks.specs.Bookmarks.{Mark}
use Rattle.hgs_marks.specs.Dirstate.{Dirstate}

-- a name that a bookmark can have, and a node
pub record IsMark (m : Mark) : Type 0 where
  pub named : is_mark_name m.name ≡ true
  pub node : IsNode m.node

-- bookmarks in byte order of their names, none of which stands twice
pub record AreBookmarks (marks : List Mark) : Type 0 where
  pub each : AllByRecursion IsMark marks
  pub in_order : ascends (map (λ m. m.name) marks) ≡ true

-- a path that an entry can hold: behind a NUL a copy's source would stand, and the length has 32 bits
pub record IsTracked (path : List ℕ) : Type 0 where
  pub no_nul : Lacks 0 path
  pub size : length path < 2 ^ 32

-- two parents of 20 bytes, and such paths
pub record IsDirstate (d : Dirstate) : Type 0 where
  pub p1 : length d.p1 ≡ 20
  pub p2 : length d.p2 ≡ 20
  pub paths : AllByRecursion IsTracked d.paths
