-- The history of a file through copies and merges. (Mercurial, `hg help log`, `--follow`, and the copy metadata of filelogs.)
use Rattle.std.specs.Prelude.{◌≡◌, ℕ, List, map, zip, slice_get, position, Option, Some, None}
use Rattle.hgs_bytes.specs.Bytes.{same}
use Rattle.hgs_index.specs.Ancestor.{IsParent}
use Rattle.hgs_index.specs.Revision.{Parents, Revision, nodes}
use Rattle.hgs_follow.specs.Source.{CopySource, copied_from}

-- a revision of a filelog: its node, the numbers of its parents, the changeset that made it, and what it was copied from
pub record FileRevision : Type 0 where
  pub node : List ℕ
  pub parents : Parents
  pub link : ℕ
  pub source : Option CopySource

-- the filelog of each path
abbrev pub Filelogs : Type 0
Filelogs = List ℕ → List FileRevision

-- the filelog whose revisions are these
abbrev pub file_revision : Revision × List ℕ → FileRevision
file_revision r = record { node = r.1; parents = r.0.parents; link = r.0.link; source = copied_from r.0.text }

abbrev pub filelog_of : List Revision → List FileRevision
filelog_of revs = map file_revision (zip revs (nodes revs))

-- a file revision: the path of the file, and the number in its filelog
pub record At : Type 0 where
  pub path : List ℕ
  pub rev : ℕ

abbrev pub source_of_revision : Option FileRevision → Option CopySource
source_of_revision None = None
source_of_revision (Some r) = r.source

-- what a file revision was copied from
abbrev pub source_at : Filelogs → At → Option CopySource
source_at files a = source_of_revision (slice_get (files a.path) a.rev)

abbrev pub parents_of : List FileRevision → List Parents
parents_of revs = map (λ r. r.parents) revs

-- the number of the revision with a source's node in the filelog of its path
abbrev pub number_of : Filelogs → CopySource → Option ℕ
number_of files s = position (λ r. same s.node r.node) (files s.path)

-- A predecessor of a file revision: a parent in its filelog, or the revision that it was copied from.
pub data IsBefore (files : Filelogs) (a b : At) : Type 0 where
  parent : a.path ≡ b.path → IsParent (parents_of (files b.path)) a.rev b.rev → IsBefore files a b
  copied : (s : CopySource) → source_at files b ≡ Some s → a.path ≡ s.path → number_of files s ≡ Some a.rev → IsBefore files a b

-- The followed history of a file revision has it, and the predecessors of what it has.
pub data IsFollowed (files : Filelogs) (a : At) : At → Type 0 where
  start : IsFollowed files a a
  further : {b c : At} → IsFollowed files a b → IsBefore files c b → IsFollowed files a c

-- no revision of the file is a copy
abbrev pub IsNeverCopied : Filelogs → List ℕ → Type 0
IsNeverCopied files path = (rev : ℕ) → source_at files (record { path = path; rev = rev }) ≡ None
