-- What is said of a repository: the text of each answer, without files.
use Rattle.std.specs.Prelude.{ℕ, zero, suc, List, [], ◌∷◌, ◌++◌, Bool, false, ◌||◌, ◌==◌, take, flat_map, find, slice_get, slice_index, slice_index_or, Option, Some, None, Result, Ok, Err, codes, decimal, if◌then◌else◌}
use Rattle.std.specs.Fmt.{signed_decimal}
use Rattle.std.specs.List.{list_any}
use Rattle.std.specs.Option.{option_map}
use Rattle.hgs_bytes.specs.Bytes.{same}
use Rattle.hgs_files.specs.Tree.{Tree}
use Rattle.hgs_index.specs.Hex.{hex}
use Rattle.hgs_index.specs.Node.{null_node}
use Rattle.hgs_index.specs.Revision.{Parents}
use Rattle.hgs_model.specs.History.{changeset_nodes, history, rows_of}
use Rattle.hgs_model.specs.Repo.{Repo, Changeset, Bookmark, TreeFile, all_parents, tree_at}
use Rattle.hgs_load.specs.declared.answer.ReadAnswer.{ReadAnswer}
use Rattle.hgs_load.specs.declared.answer.ReadAnswer.TheVariants.{UnknownPath}
use Rattle.hgs_reader.specs.Contents.{files_text}
use Rattle.hgs_reader.specs.Line.{field, first_line, parent_text}
use Rattle.hgs_shown.specs.Limits.{OpensWithin, ReadsWithin}
use Rattle.hgs_stands.specs.Stands.{Stands}

-- the files stand for the repository, within the limits of a reader
pub record IsReadable (t : Tree) (r : Repo) : Type 0 where
  pub stands : Stands t r
  pub opens : OpensWithin t r r
  pub reads : ReadsWithin t r

-- the node of a changeset
abbrev pub node_in : Repo → ℕ → List ℕ
node_in r rev = slice_index_or (changeset_nodes r.changesets) rev null_node

-- ---- log

-- number, node, parents, seconds, offset, user and the description's first line, with tabs between
abbrev pub log_line : Repo → ℕ → Changeset → List ℕ
log_line r rev c =
    (decimal rev ++ field (hex (node_in r rev)) ++ field (parent_text c.parents.0) ++ field (parent_text c.parents.1))
    ++ (field (signed_decimal c.seconds) ++ field (signed_decimal c.offset) ++ field c.user ++ field (first_line c.description)) ++ 10 ∷ []

-- the lines of changesets, newest first, the oldest of which has this number
abbrev pub log_lines : Repo → ℕ → List Changeset → List ℕ
log_lines r rev [] = []
log_lines r rev (c ∷ newer) = log_lines r (suc rev) newer ++ log_line r rev c

abbrev pub log_text : Repo → List ℕ
log_text r = log_lines r 0 r.changesets

-- ---- heads and working parents

-- number, a space, node
abbrev pub changeset_line : Repo → ℕ → List ℕ
changeset_line r rev = decimal rev ++ 32 ∷ [] ++ hex (node_in r rev) ++ 10 ∷ []

abbrev pub is_number : ℕ → Option ℕ → Bool
is_number rev None = false
is_number rev (Some p) = p == rev

abbrev pub is_one_of : ℕ → Parents → Bool
is_one_of rev parents = is_number rev parents.0 || is_number rev parents.1

-- whether a changeset is a parent of another
abbrev pub has_child : Repo → ℕ → Bool
has_child r rev = list_any (is_one_of rev) (all_parents r.changesets)

abbrev pub head_lines : Repo → ℕ → List Changeset → List ℕ
head_lines r rev [] = []
head_lines r rev (c ∷ more) = (if has_child r rev then [] else changeset_line r rev) ++ head_lines r (suc rev) more

-- a line for each changeset without a child, ascending
abbrev pub heads_text : Repo → List ℕ
heads_text r = head_lines r 0 r.changesets

abbrev pub working_line : Repo → Option ℕ → List ℕ
working_line r None = []
working_line r (Some rev) = changeset_line r rev

-- a line for each working parent, the first before the second
abbrev pub parents_text : Repo → List ℕ
parents_text r = working_line r r.working.0 ++ working_line r r.working.1

-- ---- bookmarks

-- name, number and node, with tabs between
abbrev pub bookmark_line : Repo → Bookmark → List ℕ
bookmark_line r m = m.name ++ 9 ∷ [] ++ decimal m.rev ++ 9 ∷ [] ++ hex (node_in r m.rev) ++ 10 ∷ []

abbrev pub bookmarks_text : Repo → List ℕ
bookmarks_text r = flat_map (bookmark_line r) r.bookmarks

-- ---- one changeset

abbrev pub phase_word : ℕ → List ℕ
phase_word zero = codes "public"
phase_word (suc zero) = codes "draft"
phase_word (suc (suc n)) = codes "secret"

abbrev pub phase_text : Repo → ℕ → List ℕ
phase_text r rev = phase_word (slice_index r.phases rev) ++ 10 ∷ []

-- the lines of a changeset's files: for each its node behind the changesets before, its flag and its path
abbrev pub tree_text : Repo → ℕ → Option Changeset → List ℕ
tree_text r rev None = []
tree_text r rev (Some c) = files_text (rows_of (history (take rev r.changesets)) c)

abbrev pub files_text_of : Repo → ℕ → List ℕ
files_text_of r rev = tree_text r rev (slice_get r.changesets rev)

-- the body of the file with this path, where the changeset has one
abbrev pub body_at : Repo → ℕ → List ℕ → Option (List ℕ)
body_at r rev path = option_map (λ (f : TreeFile). f.body) (find (λ (f : TreeFile). same f.path path) (tree_at r.changesets rev))

-- a path that the changeset lacks is unknown
abbrev pub body_answer : Option (List ℕ) → Result (List ℕ) ReadAnswer
body_answer None = Err UnknownPath
body_answer (Some body) = Ok body
