-- The bookmarks are read as they are written.
use Rattle.std.proofs.Common.{◌≡◌, ℕ, ◌<◌, List, [], ◌∷◌, true, length, map, refl, sym, ◌∙◌, ap, subst}
use Rattle.std.specs.Prelude.{Result, Ok, Err}
use Rattle.std.specs.List.{AllByRecursion, list_all}
use Rattle.hgs_bytes.specs.Bytes.{among}
use Rattle.hgs_bytes.specs.Text.{ascends}
use Rattle.hgs_files.specs.Tree.{Tree, bytes_at}
use Rattle.hgs_index.specs.MarkName.{is_mark_name}
use Rattle.hgs_index.specs.Revision.{Revision, nodes}
use Rattle.hgs_marks.specs.declared.fault.MarkFault.{MarkFault}
use Rattle.hgs_marks.specs.Bookmarks.{Mark, all_with, bookmarks_text, mark_lines, read_bookmarks, with_marks}
use Rattle.hgs_marks.specs.Texts.{IsMark}
use Rattle.hgs_model.specs.History.{changeset_nodes, history}
use Rattle.hgs_model.specs.IsRepo.{IsRepo}
use Rattle.hgs_model.specs.Repo.{Bookmark, Repo}
use Rattle.hgs_stands.specs.Places.{bookmarks_path}
use Rattle.hgs_stands.specs.Stands.{HasBookmarks, mark_of}
use Rattle.hgs_built.specs.Built.{tree_of}
use Rattle.hgs_built.proofs.Basics.{and-both}
use Rattle.hgs_built.proofs.Below.{RevisionLaws, SmallLaws}

abbrev pub HasName : Bookmark → Type 0
HasName m = is_mark_name m.name ≡ true

are-marks : (laws : RevisionLaws) (revisions : List Revision) (marks : List Bookmark) → AllByRecursion HasName marks → AllByRecursion IsMark (map (mark_of (nodes revisions)) marks)
are-marks laws revisions [] all = tt
are-marks laws revisions (m ∷ marks) all = (record { named = all.0; node = laws.node revisions m.rev }, are-marks laws revisions marks all.1)

names-same : (known : List (List ℕ)) (marks : List Bookmark) → map (λ (m : Mark). m.name) (map (mark_of known) marks) ≡ map (λ (m : Bookmark). m.name) marks
names-same known [] = refl
names-same known (m ∷ marks) = ap (λ l. m.name ∷ l) (names-same known marks)

marks-known : (laws : RevisionLaws) (known : List (List ℕ)) (marks : List Bookmark) → AllByRecursion (λ (m : Bookmark). m.rev < length known) marks → list_all (λ (m : Mark). among m.node known) (map (mark_of known) marks) ≡ true
marks-known laws known [] all = refl
marks-known laws known (m ∷ marks) all = and-both _ _ (laws.among_known known m.rev all.0) (marks-known laws known marks all.1)

pub node-count : (laws : RevisionLaws) (r : Repo) → IsRepo r → length (changeset_nodes r.changesets) ≡ length r.changesets
node-count laws r is = laws.counted (history r.changesets).changelog ∙ laws.count r is

abbrev got : Result (List Mark) MarkFault → List Mark
got (Ok marks) = marks
got (Err f) = []

pub bookmarks-built : (laws : RevisionLaws) (small : SmallLaws) (r : Repo) → IsRepo r → AllByRecursion HasName r.bookmarks → HasBookmarks (tree_of r) r
bookmarks-built laws small r is names = record { lines = marks; text = back; known = known; marks = order }
  where
    marks : List Mark
    marks = map (mark_of (changeset_nodes r.changesets)) r.bookmarks

    each : AllByRecursion IsMark marks
    each = are-marks laws (history r.changesets).changelog r.bookmarks names

    back : mark_lines (bookmarks_text marks) ≡ Ok marks
    back = small.lines_back marks each

    known : list_all (λ (m : Mark). among m.node (changeset_nodes r.changesets)) marks ≡ true
    known = marks-known laws (changeset_nodes r.changesets) r.bookmarks (subst (λ n. AllByRecursion (λ (m : Bookmark). m.rev < n) r.bookmarks) (sym (node-count laws r is)) is.marks)

    order : with_marks [] marks ≡ marks
    order = ap got (sym (ap (all_with []) back) ∙ small.marks_back marks (record { each = each; in_order = ap ascends (names-same (changeset_nodes r.changesets) r.bookmarks) ∙ is.marks_ordered }))

-- ---- the names of bookmarks that a tree has

marks-names : (known : List (List ℕ)) (marks : List Bookmark) → AllByRecursion IsMark (map (mark_of known) marks) → AllByRecursion HasName marks
marks-names known [] all = tt
marks-names known (m ∷ marks) all = (all.0.named, marks-names known marks all.1)

pub names-had : (small : SmallLaws) (t : Tree) (r : Repo) → HasBookmarks t r → AllByRecursion HasName r.bookmarks
names-had small t r has =
    let read : read_bookmarks (bytes_at t bookmarks_path) ≡ Ok (map (mark_of (changeset_nodes r.changesets)) r.bookmarks) = ap (all_with []) has.text ∙ ap (λ l. Ok l) has.marks in
    marks-names (changeset_nodes r.changesets) r.bookmarks (small.marks_in_order (bytes_at t bookmarks_path) (map (mark_of (changeset_nodes r.changesets)) r.bookmarks) read).each
