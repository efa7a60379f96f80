-- The text of the bookmarks, beside its reader.
use Rattle.std.specs.Prelude.{◌≡◌, ℕ, List, []}
use Rattle.std.specs.List.{AllByRecursion}
use Rattle.hgs_bytes.specs.Text.{MayLackLastLf}
use Rattle.hgs_marks.specs.Bookmarks.{Mark, bookmarks_text, with_marks}
use Rattle.hgs_marks.specs.Texts.{IsMark}

-- a line for each of these bookmarks, the last of which may lack its LF; names may stand twice, in any order
pub record AreLinesOf (marks : List Mark) (text : List ℕ) : Type 0 where
  pub each : AllByRecursion IsMark marks
  pub text_is : MayLackLastLf (bookmarks_text marks) text

-- The text has a line for each of some bookmarks, and these are the ones that are left where of two with one name the later
-- stays.
pub record IsTextOf (marks : List Mark) (text : List ℕ) : Type 0 where
  pub written : List Mark
  pub lines_are : AreLinesOf written text
  pub left : with_marks [] written ≡ marks
