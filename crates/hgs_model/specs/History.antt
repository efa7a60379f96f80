-- The revisions that a list of changesets gives, changeset by changeset.
use Rattle.std.specs.Prelude.{ℕ, zero, suc, List, [], ◌∷◌, ◌++◌, Bool, true, false, ◌||◌, not, ◌==◌, length, map, slice_get, slice_index_or, Option, Some, None, is_some, is_none, unwrap_or, option_map, if◌then◌else◌, filter, find}
use Rattle.std.specs.List.{list_any}
use Rattle.hgs_index.specs.declared.kinds.Flag.{Flag}
use Rattle.hgs_index.specs.declared.kinds.Flag.TheVariants.{Plain, Exec, Link}
use Rattle.hgs_bytes.specs.Bytes.{same, among, is_below}
use Rattle.hgs_index.specs.Node.{null_node}
use Rattle.hgs_index.specs.FileText.{body_of}
use Rattle.hgs_index.specs.Manifest.{Row, manifest_text}
use Rattle.hgs_index.specs.ChangeText.{Change, change_text}
use Rattle.hgs_index.specs.Revision.{Parents, Revision, nodes, with_revision, number_of}
use Rattle.hgs_index.specs.Ancestor.{is_ancestor}
use Rattle.hgs_model.specs.Repo.{TreeFile, Changeset, file_text, tree_paths}

-- a file of a manifest: the number of its revision in the filelog of its path
pub record Placed : Type 0 where
  pub path : List ℕ
  pub flag : Flag
  pub rev : ℕ

-- The revisions of the filelog of each path, of the manifest and of the changelog; and for each changeset its files and its manifest.
pub record History : Type 0 where
  pub filelog : List ℕ → List Revision
  pub manifest : List Revision
  pub changelog : List Revision
  pub placed : List (List Placed)
  pub manifest_of : List ℕ

abbrev pub no_history : History
no_history = record { filelog = λ path. []; manifest = []; changelog = []; placed = []; manifest_of = [] }

abbrev pub node_at : List Revision → ℕ → List ℕ
node_at revs rev = slice_index_or (nodes revs) rev null_node

abbrev pub text_at : List Revision → ℕ → List ℕ
text_at [] rev = []
text_at (r ∷ revs) zero = r.text
text_at (r ∷ revs) (suc rev) = text_at revs rev

abbrev pub parents_in : List Revision → List Parents
parents_in revs = map (λ r. r.parents) revs

-- the files of a changeset, none where there is no changeset
abbrev pub placed_at : History → Option ℕ → List Placed
placed_at h None = []
placed_at h (Some rev) = slice_index_or h.placed rev []

abbrev pub placed_file : List Placed → List ℕ → Option Placed
placed_file files path = find (λ p. same p.path path) files

-- The parents of a file revision. A missing first takes the second's place; of two equal ones one stays; of one and its ancestor the descendant.
abbrev pub file_parents_of : List Parents → Option ℕ → Option ℕ → Parents
file_parents_of log None b = (b, None)
file_parents_of log (Some a) None = (Some a, None)
file_parents_of log (Some a) (Some b) =
    if a == b then (Some a, None)
    else (if is_ancestor log a b then (Some b, None)
    else (if is_ancestor log b a then (Some a, None) else (Some a, Some b)))

abbrev pub file_parents : History → Parents → List ℕ → Parents
file_parents h parents path = file_parents_of (parents_in (h.filelog path))
    (option_map (λ p. p.rev) (placed_file (placed_at h parents.0) path)) (option_map (λ p. p.rev) (placed_file (placed_at h parents.1) path))

-- the revision that is kept: where one parent is left and has the same body, that one
abbrev pub kept_of : List Revision → Option ℕ → Option ℕ → List ℕ → Option ℕ
kept_of log (Some a) None body = if same (body_of (text_at log a)) body then Some a else None
kept_of log _ _ body = None

abbrev pub kept : History → Parents → List ℕ → List ℕ → Option ℕ
kept h parents path body = kept_of (h.filelog path) (file_parents h parents path).0 (file_parents h parents path).1 body

-- the revision of a file that isn't kept, linked to this changeset
abbrev pub file_revision : History → Changeset → TreeFile → Revision
file_revision h c f = record { text = file_text f; parents = file_parents h c.parents f.path; link = length h.placed }

abbrev pub rev_of_file : History → Changeset → TreeFile → ℕ
rev_of_file h c f = unwrap_or (kept h c.parents f.path f.body) (number_of (h.filelog f.path) (file_text f) (file_parents h c.parents f.path))

abbrev pub log_with_file : History → Changeset → Option TreeFile → List Revision → List Revision
log_with_file h c None log = log
log_with_file h c (Some f) log = if is_some (kept h c.parents f.path f.body) then log else with_revision log (file_revision h c f)

-- the filelogs with this changeset
abbrev pub filelog_with : History → Changeset → List ℕ → List Revision
filelog_with h c path = log_with_file h c (find (λ f. same f.path path) c.tree) (h.filelog path)

-- the files of this changeset
abbrev pub placed_of : History → Changeset → List Placed
placed_of h c = map (λ f. record { path = f.path; flag = f.flag; rev = rev_of_file h c f }) c.tree

abbrev pub row_of : (List ℕ → List Revision) → Placed → Row
row_of log p = record { path = p.path; node = node_at (log p.path) p.rev; flag = p.flag }

abbrev pub rows_of : History → Changeset → List Row
rows_of h c = map (row_of (filelog_with h c)) (placed_of h c)

-- the parents' manifests; where both are equal the second is none
abbrev pub manifest_parents_of : Option ℕ → Option ℕ → Parents
manifest_parents_of (Some a) (Some b) = if a == b then (Some a, None) else (Some a, Some b)
manifest_parents_of a b = (a, b)

abbrev pub manifest_at : History → Option ℕ → Option ℕ
manifest_at h None = None
manifest_at h (Some rev) = slice_get h.manifest_of rev

abbrev pub manifest_revision : History → Changeset → Revision
manifest_revision h c = record {
  text = manifest_text (rows_of h c);
  parents = manifest_parents_of (manifest_at h c.parents.0) (manifest_at h c.parents.1);
  link = length h.placed;
}

abbrev pub manifest_with : History → Changeset → List Revision
manifest_with h c = with_revision h.manifest (manifest_revision h c)

abbrev pub manifest_number : History → Changeset → ℕ
manifest_number h c = number_of h.manifest (manifest_revision h c).text (manifest_revision h c).parents

-- the list with one more text in its place, once
abbrev pub inserted : List ℕ → List (List ℕ) → List (List ℕ)
inserted x [] = x ∷ []
inserted x (y ∷ ys) = if same x y then y ∷ ys else (if is_below x y then x ∷ y ∷ ys else y ∷ inserted x ys)

abbrev pub in_order : List (List ℕ) → List (List ℕ)
in_order [] = []
in_order (x ∷ xs) = inserted x (in_order xs)

abbrev pub same_flag : Flag → Flag → Bool
same_flag Plain Plain = true
same_flag Exec Exec = true
same_flag Link Link = true
same_flag _ _ = false

-- the file in the first parent that has it
abbrev pub first_of : {A : Type 0} → Option A → Option A → Option A
first_of None b = b
first_of (Some a) b = Some a

abbrev pub parent_file : History → Parents → List ℕ → Option Placed
parent_file h parents path = first_of (placed_file (placed_at h parents.0) path) (placed_file (placed_at h parents.1) path)

abbrev pub has_other_flag : Flag → Option Placed → Bool
has_other_flag flag None = false
has_other_flag flag (Some p) = not (same_flag flag p.flag)

-- its node isn't kept, or its flag differs from its flag in the first parent that has it
abbrev pub is_changed : History → Changeset → TreeFile → Bool
is_changed h c f = is_none (kept h c.parents f.path f.body) || has_other_flag f.flag (parent_file h c.parents f.path)

-- the paths of the parents' trees that the tree lacks
abbrev pub removed_paths : History → Changeset → List (List ℕ)
removed_paths h c = filter (λ path. not (among path (tree_paths c.tree))) (map (λ p. p.path) (placed_at h c.parents.0 ++ placed_at h c.parents.1))

abbrev pub changed_paths : History → Changeset → List (List ℕ)
changed_paths h c = in_order (tree_paths (filter (is_changed h c) c.tree) ++ removed_paths h c)

-- what the changeset's text says
abbrev pub changeset_text_value : History → Changeset → Change
changeset_text_value h c = record {
  manifest = node_at (manifest_with h c) (manifest_number h c);
  user = c.user;
  seconds = c.seconds;
  offset = c.offset;
  extras = c.extras;
  files = changed_paths h c;
  description = c.description;
}

abbrev pub changeset_revision : History → Changeset → Revision
changeset_revision h c = record { text = change_text (changeset_text_value h c); parents = c.parents; link = length h.placed }

-- the history with one more changeset
abbrev pub with_changeset : History → Changeset → History
with_changeset h c = record {
  filelog = filelog_with h c;
  manifest = manifest_with h c;
  changelog = with_revision h.changelog (changeset_revision h c);
  placed = h.placed ++ placed_of h c ∷ [];
  manifest_of = h.manifest_of ++ manifest_number h c ∷ [];
}

abbrev pub history_from : History → List Changeset → History
history_from h [] = h
history_from h (c ∷ changesets) = history_from (with_changeset h c) changesets

-- the revisions of a list of changesets
abbrev pub history : List Changeset → History
history changesets = history_from no_history changesets

-- a fact of each changeset and the history before it
abbrev pub EachChangeset : (History → Changeset → Type 0) → History → List Changeset → Type 0
EachChangeset P h [] = Unit {0}
EachChangeset P h (c ∷ changesets) = P h c × EachChangeset P (with_changeset h c) changesets

-- the paths that the changesets use
abbrev pub uses : List Changeset → List ℕ → Bool
uses changesets path = list_any (λ c. among path (tree_paths c.tree)) changesets

-- the nodes of the changesets
abbrev pub changeset_nodes : List Changeset → List (List ℕ)
changeset_nodes changesets = nodes (history changesets).changelog
