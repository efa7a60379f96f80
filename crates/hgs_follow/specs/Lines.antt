-- The text of a followed history. (Mercurial, `hg log --follow`, whose revisions it has.)
use Rattle.std.specs.Prelude.{◌≡◌, ◌≤◌, ◌↔◌, ℕ, ◌+◌, Bool, false, ◌&&◌, ◌||◌, ◌==◌, nat_lt, List, [], ◌∷◌, ◌++◌, decimal, slice_get, flat_map, count_by, Some}
use Rattle.hgs_bytes.specs.Bytes.{same, is_below}
use Rattle.hgs_index.specs.Hex.{hex}
use Rattle.hgs_follow.specs.declared.line.Line.{Line}
use Rattle.hgs_follow.specs.Asked.{same_at}
use Rattle.hgs_follow.specs.Followed.{At, Filelogs, FileRevision, IsFollowed}

-- the file revision of a line
abbrev pub at_line : Line → At
at_line l = record { path = l.path; rev = l.rev }

-- the changeset, a space, the node, a space, the path
abbrev pub line_text : Line → List ℕ
line_text l = decimal l.link.0 ++ 32 ∷ hex l.node.0 ++ 32 ∷ l.path ++ 10 ∷ []

abbrev pub lines_text : List Line → List ℕ
lines_text lines = flat_map line_text lines

-- a line says of its file revision what the filelog has
pub record IsLineOf (files : Filelogs) (l : Line) : Type 0 where
  pub revision : FileRevision
  pub there : slice_get (files l.path) l.rev ≡ Some revision
  pub link : revision.link ≡ l.link.0
  pub node : revision.node ≡ l.node.0

-- Whether a line comes before another: the later changeset first, then by path in the order of bytes. (A filelog has one revision of a
-- changeset; where one has more, these stand in its own order.)
abbrev pub comes_before : Line → Line → Bool
comes_before a b = nat_lt b.link.0 a.link.0 || (b.link.0 == a.link.0 && (is_below a.path b.path || (same a.path b.path && nat_lt a.rev b.rev)))

-- none comes before the one that stands ahead of it
abbrev pub StandInOrder : List Line → Type 0
StandInOrder lines = (i : ℕ) (a b : Line) → slice_get lines i ≡ Some a → slice_get lines (i + 1) ≡ Some b → comes_before b a ≡ false

-- how many lines a file revision has
abbrev pub times_listed : At → List Line → ℕ
times_listed a lines = count_by (λ l. same_at a (at_line l)) lines

-- The text of a followed history: one line for each of its file revisions and no other line, in their order.
pub record IsFollowText (files : Filelogs) (start : At) (text : List ℕ) : Type 0 where
  pub lines : List Line
  pub say : (i : ℕ) (l : Line) → slice_get lines i ≡ Some l → IsLineOf files l
  pub each : (a : At) → IsFollowed files start a ↔ (times_listed a lines ≡ 1)
  pub once : (a : At) → times_listed a lines ≤ 1
  pub ordered : StandInOrder lines
  pub whole : text ≡ lines_text lines
