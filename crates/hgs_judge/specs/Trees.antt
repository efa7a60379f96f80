-- The trees of the changesets, and what they say of a path.
use Rattle.std.specs.Prelude.{ℕ, List, [], Bool, Option, Some, None, slice_get, find, if◌then◌else◌}
use Rattle.hgs_bytes.specs.Bytes.{same}
use Rattle.hgs_index.specs.Manifest.{Row, read_manifest}
use Rattle.hgs_index.specs.Revision.{Revision}
use Rattle.hgs_findings.specs.Sight.{value}
use Rattle.hgs_judge.specs.declared.changesets.Tree.{Tree}
use Rattle.hgs_judge.specs.declared.changesets.Tree.TheVariants.{Unknown, Empty, Manifest}

-- the rows of a manifest's revision, if its text can be read
abbrev pub rows_read : Revision → Option (List Row)
rows_read r = value (read_manifest r.text)

-- the rows of a tree, among those of all manifests
abbrev pub rows_or_none : Option (Option (List Row)) → Option (List Row)
rows_or_none None = Some []
rows_or_none (Some rows) = rows

abbrev pub rows_in_tree : List (Option (List Row)) → Tree → Option (List Row)
rows_in_tree trees Unknown = None
rows_in_tree trees Empty = Some []
rows_in_tree trees (Manifest rev) = rows_or_none (slice_get trees rev)

-- the path of a row
abbrev pub path_of : Row → List ℕ
path_of r = r.path

-- the row of a path, which only a tracked one has
abbrev pub row_for : Bool → List ℕ → List Row → Option Row
row_for tracked path rows = if tracked then find (λ (r : Row). same r.path path) rows else None
