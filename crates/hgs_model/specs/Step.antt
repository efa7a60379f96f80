-- What a command makes of a repository.
use Rattle.std.specs.Prelude.{ℕ, suc, min, max, List, [], ◌∷◌, ◌++◌, Bool, true, false, ◌&&◌, not, ◌==◌, nat_lt, length, map, slice_index, Option, Some, None, is_some, is_none, Result, Ok, Err, if◌then◌else◌, filter, find, codes}
use Rattle.std.specs.List.{list_any}
use Rattle.std.specs.Cmp.Lexicographic.{pointwise}
use Rattle.hgs_bytes.specs.Bytes.{same, is_below}
use Rattle.hgs_bytes.specs.Text.{line}
use Rattle.hgs_index.specs.FileText.{marker, plain_prefix, prefix_of}
use Rattle.hgs_index.specs.Hex.{hex}
use Rattle.hgs_index.specs.Node.{null_node}
use Rattle.hgs_index.specs.Revision.{Parents, Revision, standing}
use Rattle.hgs_index.specs.Ancestor.{is_ancestor}
use Rattle.hgs_model.specs.Phase.{phase_number}
use Rattle.hgs_model.specs.declared.command.NewChange.{NewChange}
use Rattle.hgs_model.specs.declared.files.NewFile.{NewFile}
use Rattle.hgs_model.specs.declared.command.Command.{Command}
use Rattle.hgs_model.specs.declared.command.Command.TheVariants.{Commit, Import, Move, Mark, Unmark}
use Rattle.hgs_model.specs.declared.command.Refusal.{Refusal}
use Rattle.hgs_model.specs.declared.command.Refusal.TheVariants.{UnknownRevision, UnknownPath, CopyOver, NeedsForce, NothingChanged}
use Rattle.hgs_model.specs.Repo.{TreeFile, Changeset, Repo, Bookmark, tree_at, all_parents}
use Rattle.hgs_model.specs.History.{History, Placed, history, kept, text_at, same_flag, first_of, changeset_revision, node_at, placed_at, placed_file, parent_file}
use Rattle.hgs_model.specs.IsRepo.{phase_at}
use Rattle.hgs_model.specs.Names.{named, means_no_parent, bookmark_named}

-- ---- answers one after another: the first refusal decides

infixl 10 ◌>>=◌
abbrev pub ◌>>=◌ : {A B : Type 0} → Result A Refusal → (A → Result B Refusal) → Result B Refusal
(Ok x) >>= f = f x
(Err e) >>= f = Err e

abbrev pub guard : Bool → Refusal → Result (Unit {0}) Refusal
guard true e = Err e
guard false e = Ok tt

-- the changeset that a name names
abbrev pub or_unknown : {A : Type 0} → Option A → Result A Refusal
or_unknown None = Err UnknownRevision
or_unknown (Some rev) = Ok rev

-- ---- a commit

-- the changesets that the names name, without those that mean no parent
abbrev pub named_all : Repo → List (List ℕ) → Result (List ℕ) Refusal
named_all r [] = Ok []
named_all r (name ∷ names) =
    if means_no_parent r name then named_all r names
    else (or_unknown (named r name) >>= λ rev. named_all r names >>= λ revs. Ok (rev ∷ revs))

-- a second parent that equals the first is dropped
abbrev pub as_parents : List ℕ → Parents
as_parents [] = (None, None)
as_parents (a ∷ []) = (Some a, None)
as_parents (a ∷ b ∷ revs) = if a == b then (Some a, None) else (Some a, Some b)

-- ---- copies

-- the file in the first parent
abbrev pub source_file : History → Parents → List ℕ → Option Placed
source_file h parents path = placed_file (placed_at h parents.0) path

-- the node of a file, and no node where there is none
abbrev pub placed_node : List Revision → Option Placed → List ℕ
placed_node log None = null_node
placed_node log (Some p) = node_at log p.rev

-- what stands in the block of a copy: its source, and the source's node
abbrev pub copy_lines : List ℕ → List ℕ → List ℕ
copy_lines path node = line (codes "copy: " ++ path) ++ line (codes "copyrev: " ++ hex node)

abbrev pub copy_block : List ℕ → List ℕ → List ℕ
copy_block path node = marker ++ copy_lines path node ++ marker

-- the block of a copy of that file in the first parent; without a source the prefix that the body asks for
abbrev pub fresh_prefix : History → Parents → Option (List ℕ) → List ℕ → List ℕ
fresh_prefix h parents None body = plain_prefix body
fresh_prefix h parents (Some path) body = copy_block path (placed_node (h.filelog path) (source_file h parents path))

-- whether a file has a source that the first parent's tree lacks
abbrev pub lacks : History → Parents → Option (List ℕ) → Bool
lacks h parents None = false
lacks h parents (Some path) = is_none (source_file h parents path)

abbrev pub lacks_source : History → Parents → NewFile → Bool
lacks_source h parents f = lacks h parents f.from

-- whether a file has a source, and a parent's tree has its path
abbrev pub is_over : History → Parents → NewFile → Bool
is_over h parents f = is_some f.from && is_some (parent_file h parents f.path)

abbrev pub over_where : Option NewFile → Result (Unit {0}) Refusal
over_where None = Ok tt
over_where (Some f) = Err (CopyOver f.path)

-- each source is a file of the first parent, and then no copy stands over a file of a parent
abbrev pub copies_hold : History → Parents → List NewFile → Result (Unit {0}) Refusal
copies_hold h parents files = guard (list_any (lacks_source h parents) files) UnknownPath >>= λ known. over_where (find (is_over h parents) files)

-- ---- the new changeset

-- the prefix of the kept revision, else that of a copy, or the one that the body asks for
abbrev pub new_prefix : History → Parents → NewFile → Option ℕ → List ℕ
new_prefix h parents f None = fresh_prefix h parents f.from f.body
new_prefix h parents f (Some rev) = prefix_of (text_at (h.filelog f.path) rev)

abbrev pub new_file : History → Parents → NewFile → TreeFile
new_file h parents f = record { path = f.path; flag = f.flag; prefix = new_prefix h parents f (kept h parents f.path f.body); body = f.body }

-- the branch, as extras have it
abbrev pub branch_extras : Option (List ℕ) → List ℕ
branch_extras None = []
branch_extras (Some name) = codes "branch:" ++ name

-- the changeset that a commit on these parents would add
abbrev pub new_changeset : History → Parents → NewChange → Changeset
new_changeset h parents c = record {
  parents = parents;
  tree = map (new_file h parents) c.files;
  user = c.user;
  seconds = c.seconds;
  offset = c.offset;
  extras = branch_extras c.branch;
  description = c.description;
}

abbrev pub same_file : TreeFile → TreeFile → Bool
same_file f g = same f.path g.path && same_flag f.flag g.flag && same f.prefix g.prefix && same f.body g.body

-- the two trees have the same files
abbrev pub same_tree : List TreeFile → List TreeFile → Bool
same_tree = pointwise same_file

abbrev pub some_where : Bool → ℕ → Option ℕ
some_where b rev = if b then Some rev else None

-- the one parent whose tree this is; without a parent the empty tree's, as 0
abbrev pub unchanged_from : List Changeset → Option ℕ → Option ℕ → List TreeFile → Option ℕ
unchanged_from changesets None None tree = some_where (same_tree [] tree) 0
unchanged_from changesets (Some rev) None tree = some_where (same_tree (tree_at changesets rev) tree) rev
unchanged_from changesets _ (Some b) tree = None

-- the changeset because of which a commit changes nothing: that parent, or else an equal one that stands
abbrev pub nothing_changed : Repo → Changeset → Option ℕ
nothing_changed r c =
    first_of (unchanged_from r.changesets c.parents.0 c.parents.1 c.tree)
    (standing (history r.changesets).changelog (changeset_revision (history r.changesets) c).text c.parents)

abbrev pub refused_where : Option ℕ → Result (Unit {0}) Refusal
refused_where None = Ok tt
refused_where (Some rev) = Err (NothingChanged rev)

-- the bookmarks with this one set
abbrev pub with_mark : List Bookmark → List ℕ → ℕ → List Bookmark
with_mark [] name rev = record { name = name; rev = rev } ∷ []
with_mark (m ∷ marks) name rev =
    if same name m.name then record { name = name; rev = rev } ∷ marks
    else (if is_below name m.name then record { name = name; rev = rev } ∷ m ∷ marks else m ∷ with_mark marks name rev)

abbrev pub without_mark : List Bookmark → List ℕ → List Bookmark
without_mark marks name = filter (λ m. not (same m.name name)) marks

abbrev pub with_optional_mark : List Bookmark → Option (List ℕ) → ℕ → List Bookmark
with_optional_mark marks None rev = marks
with_optional_mark marks (Some name) rev = with_mark marks name rev

-- the repository with one more changeset: the greatest of its parents' phases and the one asked for, its bookmark, and it alone as the working parent
abbrev pub with_new : Repo → Changeset → NewChange → Repo
with_new r c n = record {
  changesets = r.changesets ++ c ∷ [];
  phases = r.phases ++ max (phase_number n.phase) (max (phase_at r.phases c.parents.0) (phase_at r.phases c.parents.1)) ∷ [];
  bookmarks = with_optional_mark r.bookmarks n.bookmark (length r.changesets);
  working = (Some (length r.changesets), None);
}

-- ---- phases

-- f of each number and item, from a number on
abbrev pub map_from : ℕ → (ℕ → ℕ → ℕ) → List ℕ → List ℕ
map_from n f [] = []
map_from n f (x ∷ xs) = f n x ∷ map_from (suc n) f xs

-- to a lesser phase the ancestors go along, to a greater one the descendants
abbrev pub advanced : List Parents → ℕ → ℕ → List ℕ → List ℕ
advanced history rev to phases = map_from 0 (λ other phase. if is_ancestor history other rev then min to phase else phase) phases

abbrev pub retracted : List Parents → ℕ → ℕ → List ℕ → List ℕ
retracted history rev to phases = map_from 0 (λ other phase. if is_ancestor history rev other then max to phase else phase) phases

-- the phases after a command that names this changeset and this phase
abbrev pub moved_phases : Repo → ℕ → ℕ → List ℕ
moved_phases r rev to =
    if nat_lt to (slice_index r.phases rev) then advanced (all_parents r.changesets) rev to r.phases
    else retracted (all_parents r.changesets) rev to r.phases

-- ---- what a command makes

-- a changeset's number and node
pub record Answer : Type 0 where
  pub rev : ℕ
  pub node : List ℕ

abbrev pub answer_at : Repo → ℕ → Answer
answer_at r rev = record { rev = rev; node = node_at (history r.changesets).changelog rev }

-- the next repository and the answer
abbrev pub Next : Type 0
Next = Repo × Answer

abbrev pub done_at : Repo → ℕ → Next
done_at r rev = (r, answer_at r rev)

-- a commit is refused where a parent's name names nothing, then where a copy has no source or stands over a file, then where it changes nothing
abbrev pub step_commit : Repo → NewChange → Result Next Refusal
step_commit r n = do
  revs ← named_all r n.parents
  copied ← copies_hold (history r.changesets) (as_parents revs) n.files
  let c = new_changeset (history r.changesets) (as_parents revs) n
  unchanged ← refused_where (nothing_changed r c)
  Ok (done_at (with_new r c n) (length r.changesets))

-- whether one of the changesets sets a bookmark
abbrev pub sets_bookmark : List NewChange → Bool
sets_bookmark changes = list_any (λ (n : NewChange). is_some n.bookmark) changes

-- the steps of commits, one after another, each on the repository that the one before gave
abbrev pub steps_from : Next → List NewChange → Result Next Refusal
steps_from next [] = Ok next
steps_from next (n ∷ changes) = step_commit next.0 n >>= λ after. steps_from after changes

-- an import is the steps of its records, and answers as the last one; where one is refused, so is the import, and one without a record changes nothing
abbrev pub step_import : Repo → List NewChange → Result Next Refusal
step_import r [] = Err (NothingChanged 0)
step_import r (n ∷ changes) = step_commit r n >>= λ next. steps_from next changes

-- a phase command is refused where the name names nothing, where the phase would rise without force, then where it is the phase already
abbrev pub step_move : Repo → List ℕ → ℕ → Bool → Result Next Refusal
step_move r name to force = do
  rev ← or_unknown (named r name)
  forced ← guard (nat_lt (slice_index r.phases rev) to && not force) (NeedsForce rev)
  changed ← guard (to == slice_index r.phases rev) (NothingChanged rev)
  Ok (done_at (record r { phases = moved_phases r rev to }) rev)

abbrev pub points_at : Option ℕ → ℕ → Bool
points_at None rev = false
points_at (Some other) rev = other == rev

-- setting a bookmark is refused where the name names nothing, then where the bookmark points there already
abbrev pub step_mark : Repo → List ℕ → List ℕ → Result Next Refusal
step_mark r mark name = do
  rev ← or_unknown (named r name)
  changed ← guard (points_at (bookmark_named r.bookmarks mark) rev) (NothingChanged rev)
  Ok (done_at (record r { bookmarks = with_mark r.bookmarks mark rev }) rev)

-- deleting a bookmark answers the changeset that it had, and is refused where it is not there
abbrev pub step_unmark : Repo → List ℕ → Result Next Refusal
step_unmark r mark = do
  rev ← or_unknown (bookmark_named r.bookmarks mark)
  Ok (done_at (record r { bookmarks = without_mark r.bookmarks mark }) rev)

-- the next repository with the answer, or the first refusal that holds
abbrev pub step : Repo → Command → Result Next Refusal
step r (Commit n) = step_commit r n
step r (Import changes) = step_import r changes
step r (Move rev phase force) = step_move r rev (phase_number phase) force
step r (Mark name rev) = step_mark r name rev
step r (Unmark name) = step_unmark r name
