-- What following a file's history gives.
use Rattle.std.specs.Prelude.{◌≡◌, ◌≤◌, ◌↔◌, ℕ, List, Some}
use Rattle.hgs_follow.specs.Asked.{Asked, times_loaded, times_told, AllOf}
use Rattle.hgs_follow.specs.Followed.{At, Filelogs, IsFollowed, number_of}
use Rattle.hgs_follow.specs.Lines.{IsFollowText}
use Rattle.hgs_follow.specs.Source.{CopySource}

-- The text is that of the followed history of the file revision that a path and a node name, of whose file revisions alone the texts were asked for.
pub record IsHistory (files : Filelogs) (begin : CopySource) (asked : List Asked) (text : List ℕ) : Type 0 where
  pub rev : ℕ
  pub named : number_of files begin ≡ Some rev
  pub is : IsFollowText files (record { path = begin.path; rev = rev }) text
  pub told : (a : At) → IsFollowed files (record { path = begin.path; rev = rev }) a ↔ (times_told a asked ≡ 1)

-- The same in whatever filelogs have these answers. No text was asked for twice, and no filelog.
pub record Follows (begin : CopySource) (asked : List Asked) (text : List ℕ) : Type 0 where
  pub is : (files : Filelogs) → AllOf files asked → IsHistory files begin asked text
  pub told_once : (a : At) → times_told a asked ≤ 1
  pub loaded_once : (path : List ℕ) → times_loaded path asked ≤ 1
