-- The small files, as they are written.
use Rattle.std.proofs.Common.{◌≡◌, ℕ, ◌<◌, List, [], ◌∷◌, Bool, true, false, ◌&&◌, ◌||◌, not, length, map, refl, sym, ◌∙◌, ap, subst, arith}
use Rattle.std.specs.Prelude.{◌==◌, ◌^◌, Option, Some, None, Ok, nat_le}
use Rattle.std.specs.List.{AllByRecursion, list_all, list_any}
use Rattle.std.proofs.lemmas.Bool.Decides.{nat_tests}
use Rattle.hgs_bytes.specs.Bytes.{among}
use Rattle.hgs_bytes.specs.Path.{components, is_line_byte}
use Rattle.hgs_bytes.specs.Text.{Lacks, ascends}
use Rattle.hgs_files.specs.Tree.{Tree, bytes_at}
use Rattle.hgs_files.specs.Theorems.TreeLemmas.{bytes_at-is}
use Rattle.hgs_index.specs.Node.{null_node}
use Rattle.hgs_index.specs.MarkName.{is_mark_name}
use Rattle.hgs_index.specs.Revision.{Revision, nodes, parent_node}
use Rattle.hgs_index.specs.TrackedPath.{is_tracked, is_forbidden}
use Rattle.hgs_marks.specs.Bookmarks.{Mark, mark_lines, read_bookmarks, all_with}
use Rattle.hgs_marks.specs.Dirstate.{Dirstate, read_dirstate}
use Rattle.hgs_marks.specs.Texts.{IsMark, IsTracked}
use Rattle.hgs_marks.specs.Theorems.MarkOrder.{placed_so}
use Rattle.hgs_marks.specs.Theorems.MarkText.{bookmarks_found, marks_back}
use Rattle.hgs_marks.specs.Theorems.DirstateText.{dirstate_back}
use Rattle.hgs_model.specs.History.{history, changeset_nodes}
use Rattle.hgs_model.specs.IsRepo.{IsRepo}
use Rattle.hgs_model.specs.Repo.{Repo, Bookmark, tracked_paths}
use Rattle.hgs_model.specs.Theorems.NodeLemmas.{node_at-node}
use Rattle.hgs_model.specs.Theorems.StepLemmas.{length-changeset_nodes}
use Rattle.hgs_stands.specs.Places.{bookmarks_path, dirstate_path}
use Rattle.hgs_stands.specs.Stands.{HasBookmarks, HasDirstate, Stands, mark_of}
use Rattle.hgs_stands.specs.Theorems.ListedLemmas.{among-at}
use Rattle.hgs_ops.specs.Replaced.{new_bookmarks, new_dirstate}
use Rattle.hgs_ops.specs.Theorems.Touch.{never, and-left, and-right, and-both}

-- ---- bookmarks

abbrev pub HasName : Bookmark → Type 0
HasName m = is_mark_name m.name ≡ true

marks-names : (known : List (List ℕ)) (marks : List Bookmark) → AllByRecursion IsMark (map (mark_of known) marks) → AllByRecursion HasName marks
marks-names known [] all = tt
marks-names known (m ∷ marks) all = (all.0.named, marks-names known marks all.1)

-- the names of the bookmarks of a repository that a tree stands for are names that a bookmark can have
pub mark-names : (t : Tree) (r : Repo) → Stands t r → AllByRecursion HasName r.bookmarks
mark-names t r s =
    let read : read_bookmarks (bytes_at t bookmarks_path) ≡ Ok (map (mark_of (changeset_nodes r.changesets)) r.bookmarks) = ap (all_with []) s.bookmarks.text ∙ ap (λ l. Ok l) s.bookmarks.marks in
    marks-names (changeset_nodes r.changesets) r.bookmarks (bookmarks_found (bytes_at t bookmarks_path) (map (mark_of (changeset_nodes r.changesets)) r.bookmarks) read).each

are-marks : (revisions : List Revision) (marks : List Bookmark) → AllByRecursion HasName marks → AllByRecursion IsMark (map (mark_of (nodes revisions)) marks)
are-marks revisions [] all = tt
are-marks revisions (m ∷ marks) all =
    let node = node_at-node revisions m.rev in
    (record { named = all.0; node = record { size = node.size; bytes = node.bytes } }, are-marks revisions marks all.1)

names-same : (known : List (List ℕ)) (marks : List Bookmark) → map (λ (m : Mark). m.name) (map (mark_of known) marks) ≡ map (λ (m : Bookmark). m.name) marks
names-same known [] = refl
names-same known (m ∷ marks) = ap (λ l. m.name ∷ l) (names-same known marks)

marks-known : (known : List (List ℕ)) (marks : List Bookmark) → AllByRecursion (λ (m : Bookmark). m.rev < length known) marks → list_all (λ (m : Mark). among m.node known) (map (mark_of known) marks) ≡ true
marks-known known [] all = refl
marks-known known (m ∷ marks) all = and-both _ _ (among-at known m.rev null_node all.0) (marks-known known marks all.1)

pub written-bookmarks : (u : Tree) (next : Repo) → IsRepo next → AllByRecursion HasName next.bookmarks → u bookmarks_path ≡ Some (new_bookmarks next).text → HasBookmarks u next
written-bookmarks u next is names e = record {
  lines = map (mark_of (changeset_nodes next.changesets)) next.bookmarks;
  text = ap mark_lines (bytes_at-is u bookmarks_path (new_bookmarks next).text e) ∙ marks_back 0 (map (mark_of (changeset_nodes next.changesets)) next.bookmarks) (are-marks (history next.changesets).changelog next.bookmarks names);
  known = marks-known (changeset_nodes next.changesets) next.bookmarks (subst (λ n. AllByRecursion (λ (m : Bookmark). m.rev < n) next.bookmarks) (sym (length-changeset_nodes next is)) is.marks);
  marks = placed_so (map (mark_of (changeset_nodes next.changesets)) next.bookmarks) (ap ascends (names-same (changeset_nodes next.changesets) next.bookmarks) ∙ is.marks_ordered);
}

-- ---- the dirstate

no-nul : (path : List ℕ) → list_any is_line_byte path ≡ false → Lacks 0 path
no-nul [] e = tt
no-nul (b ∷ path) e = by (b == 0) refl (b == 10) (b == 13) e (no-nul path)
  where
    by : (x : Bool) → (b == 0) ≡ x → (y z : Bool) → ((x || y || z) || list_any is_line_byte path) ≡ false → (list_any is_line_byte path ≡ false → Lacks 0 path) → ((b == 0) ≡ false) × Lacks 0 path
    by true g y z h rec = never h
    by false g true z h rec = never h
    by false g false true h rec = never h
    by false g false false h rec = (g, rec h)

tracked-held : (path : List ℕ) → is_tracked path ≡ true → IsTracked path
tracked-held path e = by (nat_le 1 (length path)) (nat_le (length path) 1024) refl (list_any is_line_byte path) refl (list_any is_forbidden (components path)) e
  where
    by : (a b : Bool) → nat_le (length path) 1024 ≡ b → (c : Bool) → list_any is_line_byte path ≡ c → (d : Bool) → (a && b && not c && not d) ≡ true → IsTracked path
    by true true g false v d h = record { no_nul = no-nul path v; size = short (length path) g }
      where
        short : (n : ℕ) → nat_le n 1024 ≡ true → n < 2 ^ 32
        short n k = grind (arith, nat_tests, k)
    by true true g true v d h = never (sym h)
    by true false g c v d h = never (sym h)
    by false b g c v d h = never (sym h)

all-held : (paths : List (List ℕ)) → list_all is_tracked paths ≡ true → AllByRecursion IsTracked paths
all-held [] e = tt
all-held (p ∷ paths) e = (tracked-held p (and-left _ _ e), all-held paths (and-right (is_tracked p) _ e))

parent-size : (revisions : List Revision) (o : Option ℕ) → length (parent_node (nodes revisions) o) ≡ 20
parent-size revisions None = refl
parent-size revisions (Some rev) = (node_at-node revisions rev).size

abbrev written_dirstate : Repo → Dirstate
written_dirstate next = record { p1 = parent_node (changeset_nodes next.changesets) next.working.0; p2 = parent_node (changeset_nodes next.changesets) next.working.1; paths = tracked_paths next }

-- the dirstate that is written has the working parents and the tracked paths
pub written-dirstate : (u : Tree) (next : Repo) → list_all is_tracked (tracked_paths next) ≡ true → u dirstate_path ≡ Some (new_dirstate next).text → HasDirstate u next
written-dirstate u next e at = record {
  dirstate = written_dirstate next;
  text = ap read_dirstate (bytes_at-is u dirstate_path (new_dirstate next).text at) ∙ dirstate_back (written_dirstate next) (record {
    p1 = parent-size (history next.changesets).changelog next.working.0;
    p2 = parent-size (history next.changesets).changelog next.working.1;
    paths = all-held (tracked_paths next) e;
  });
  first = refl;
  second = refl;
  paths = λ path. refl;
}
