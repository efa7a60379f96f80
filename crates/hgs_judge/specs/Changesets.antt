-- What can be read of the changesets, and which manifests they name.
use Rattle.std.specs.Prelude.{ℕ, List, Option, Some, None, option_map, if◌then◌else◌}
use Rattle.hgs_bytes.specs.Bytes.{same}
use Rattle.hgs_index.specs.ChangeText.{Change}
use Rattle.hgs_index.specs.Node.{null_node}
use Rattle.hgs_findings.specs.Sight.{Seen, manifest_of_seen}
use Rattle.hgs_judge.specs.declared.changesets.Changeset.{Changeset}
use Rattle.hgs_judge.specs.declared.changesets.Tree.{Tree}
use Rattle.hgs_judge.specs.declared.changesets.Tree.TheVariants.{Unknown, Empty, Manifest}

-- the manifest of a tree: none where it is empty; or it can't be told
abbrev pub tree_as : Option (Option ℕ) → Tree
tree_as None = Unknown
tree_as (Some None) = Empty
tree_as (Some (Some rev)) = Manifest rev

abbrev pub manifest_in : Tree → Option (Option ℕ)
manifest_in Unknown = None
manifest_in Empty = Some None
manifest_in (Manifest rev) = Some (Some rev)

abbrev pub files_of : Option Change → Option (List (List ℕ))
files_of change = option_map (λ (v : Change). v.files) change

-- what is kept of a changeset that was seen
abbrev pub changeset_as : Seen → Changeset
changeset_as c = record { parents = c.revision.parents; files = files_of c.change; tree = tree_as (manifest_of_seen (Some c)) }

-- the tree with this node
abbrev pub tree_at : Option ℕ → List ℕ → Tree
tree_at (Some rev) node = Manifest rev
tree_at None node = if same node null_node then Empty else Unknown
