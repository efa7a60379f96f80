-- What a name of a revision names.
use Rattle.std.specs.Prelude.{ℕ, zero, suc, List, Bool, ◌&&◌, ◌||◌, length, Option, Some, None, is_none, option_map, if◌then◌else◌, codes, decimal, find, position}
use Rattle.std.specs.List.{range_with_len}
use Rattle.hgs_bytes.specs.Bytes.{same}
use Rattle.hgs_index.specs.Hex.{node_at}
use Rattle.hgs_model.specs.Repo.{Repo, Bookmark}
use Rattle.hgs_model.specs.History.{first_of, changeset_nodes}

-- a decimal number below the count
abbrev pub number_named : ℕ → List ℕ → Option ℕ
number_named count name = position (λ n. same (decimal n) name) (range_with_len 0 count)

-- where a node stands, if there is one
abbrev pub place_in : List (List ℕ) → Option (List ℕ) → Option ℕ
place_in nodes None = None
place_in nodes (Some node) = position (λ n. same n node) nodes

-- the 40 lower-case hex digits of a known node
abbrev pub node_named : List (List ℕ) → List ℕ → Option ℕ
node_named nodes name = place_in nodes (node_at name)

abbrev pub bookmark_named : List Bookmark → List ℕ → Option ℕ
bookmark_named marks name = option_map (λ m. m.rev) (find (λ m. same m.name name) marks)

abbrev pub last_of : ℕ → Option ℕ
last_of zero = None
last_of (suc count) = Some count

-- Among so many changesets with these nodes `null` names nothing, `.` the first working parent, `tip` the last changeset;
-- then a number, a node, a bookmark.
abbrev pub named_by : ℕ → List (List ℕ) → (List ℕ → Option ℕ) → Option ℕ → List ℕ → Option ℕ
named_by count nodes bookmark first name =
    if same name (codes "null") then None
    else (if same name (codes ".") then first
    else (if same name (codes "tip") then last_of count
    else first_of (number_named count name) (first_of (node_named nodes name) (bookmark name))))

abbrev pub named : Repo → List ℕ → Option ℕ
named r name = named_by (length r.changesets) (changeset_nodes r.changesets) (bookmark_named r.bookmarks) r.working.0 name

-- in a commit, `null`, and `.` without a working parent, mean no parent
abbrev pub means_no_parent : Repo → List ℕ → Bool
means_no_parent r name = same name (codes "null") || (same name (codes ".") && is_none r.working.0)
