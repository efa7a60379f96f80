-- The files of a disk, laid back one by one as a loss of power leaves them.
use Rattle.std.specs.Prelude.{ℕ, List, [], ◌∷◌, get_or, Some, None}
use Rattle.hgs_files.specs.Tree.{Tree, renamed, with_file}
use Rattle.hgs_power.specs.Disk.{File, firm}
use Rattle.hgs_power.specs.Power.{filled}
use Rattle.hgs_power_loss.specs.declared.names.NameChange.{NameChange}
use Rattle.hgs_power_loss.specs.declared.names.NameChange.TheVariants.{Stands, Moves, Goes}

-- the tree with what is left of these files at these paths
abbrev pub with_left : ℕ → ℕ → List (List ℕ × File) → Tree → Tree
with_left keep fill [] t = t
with_left keep fill (file ∷ files) t = with_left keep fill files (with_file t file.0 (Some (filled keep fill file.1)))

-- the tree after a change of names, where a made file has what is left of it
abbrev pub tree_after : ℕ → ℕ → List File → NameChange → Tree → Tree
tree_after keep fill made (Stands path number) t = with_file t path (Some (filled keep fill (get_or made number (firm []))))
tree_after keep fill made (Moves from to) t = renamed t from to (t from)
tree_after keep fill made (Goes path) t = with_file t path None

abbrev pub tree_after_all : ℕ → ℕ → List File → List NameChange → Tree → Tree
tree_after_all keep fill made [] t = t
tree_after_all keep fill made (change ∷ changes) t = tree_after_all keep fill made changes (tree_after keep fill made change t)
