-- Parts of the files.
use Rattle.std.specs.Prelude.{ℕ, zero, suc, ◌+◌, ◌*◌, ◌%◌, List, [], ◌∷◌, None, fold}
use Rattle.std.specs.Arc.{arc_value}
use Rattle.std.specs.BTreeMap.{BTreeMap, get}
use Rattle.std.specs.Cmp.Lexicographic.{slice_cmp}
use Rattle.std.specs.Ordering.{nat_cmp}
use Rattle.hgs_files.specs.Tree.{Tree}
use Rattle.hgs_mem.specs.declared.shard.Shard.{Shard}

-- the files of a map from paths to bytes, and of a part
abbrev pub files_of : BTreeMap (List ℕ) (List ℕ) → Tree
files_of m path = get (slice_cmp nat_cmp) m path

abbrev pub files_in : Shard → Tree
files_in s = files_of (arc_value s.files)

abbrev pub no_files : Tree
no_files path = None

-- the part in which a path is looked for
abbrev pub shard_of : List ℕ → ℕ
shard_of path = fold (λ h b. h % 256 * 31 + b) 0 path % 256

-- what stands at a path in the part of this number
abbrev pub found : List Shard → ℕ → Tree
found [] k path = None
found (s ∷ ss) zero path = files_in s path
found (s ∷ ss) (suc k) path = found ss k path
