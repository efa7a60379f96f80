-- A repository that was made and in which nothing was done yet.
use Rattle.std.specs.Prelude.{ℕ, List, [], ◌∷◌, ◌++◌, Some, None, codes}
use Rattle.hgs_files.specs.Tree.{Tree, with_file}
use Rattle.hgs_load.specs.Open.{requires_path}

-- the words of a new repository, one on each line
abbrev pub new_requires : List ℕ
new_requires = codes "dotencode" ++ 10 ∷ codes "fncache" ++ 10 ∷ codes "revlogv1" ++ 10 ∷ codes "store" ++ 10 ∷ []

-- `requires` stands with these words, and no other file
abbrev pub new_tree : Tree
new_tree = with_file (λ path. None) requires_path (Some new_requires)
