-- The changeset of a bookmark.
use Rattle.std.proofs.Common.{◌≡◌, ℕ, List, [], ◌∷◌, Bool, true, false, cond, length, map, refl, sym, ◌∙◌, ap, subst}
use Rattle.std.specs.Prelude.{◌<◌, Some, find, option_map, slice_index_or}
use Rattle.std.specs.Cmp.Lexicographic.{bytes_decides}
use Rattle.std.specs.List.{AllByRecursion}
use Rattle.hgs_bytes.specs.Bytes.{same}
use Rattle.hgs_files.specs.Tree.{Tree}
use Rattle.hgs_index.specs.Node.{null_node}
use Rattle.hgs_marks.specs.Bookmarks.{Mark, node_of}
use Rattle.hgs_model.specs.History.{changeset_nodes}
use Rattle.hgs_model.specs.Names.{bookmark_named}
use Rattle.hgs_model.specs.Repo.{Bookmark, Repo}
use Rattle.hgs_reader.specs.Names.{mark_named, place_of_some}
use Rattle.hgs_stands.specs.Stands.{Stands, mark_of}
use Rattle.hgs_steps.specs.declared.loaded.Loaded.{Loaded}
use Rattle.hgs_steps.specs.Below.{Below}
use Rattle.hgs_steps.specs.Planned.{HoldsRepository}
use Rattle.hgs_steps.proofs.Basics.{never}
use Rattle.hgs_steps.proofs.ViewLemmas.{place-is, room}

same-refl : (x : List ℕ) → same x x ≡ true
same-refl x = (bytes_decides x x).1 refl

same-eq : (x y : List ℕ) → same x y ≡ true → x ≡ y
same-eq x y e = (bytes_decides x y).0 e

same-swap : (x y : List ℕ) → same x y ≡ same y x
same-swap x y = by (same x y) refl (same y x) refl
  where
    by : (a : Bool) → same x y ≡ a → (b : Bool) → same y x ≡ b → same x y ≡ same y x
    by true e true f = e ∙ sym f
    by false e false f = e ∙ sym f
    by true e false f = never (sym (ap (same y) (same-eq x y e) ∙ same-refl y) ∙ f)
    by false e true f = never (sym (ap (same x) (same-eq y x f) ∙ same-refl x) ∙ e)

-- a bookmark of a changeset that there is has the place of its node
place-of-mark : (laws : Below) (t : Tree) (r : Repo) (l : Loaded) (name : List ℕ) (marks : List Bookmark) → Stands t r → HoldsRepository l r → AllByRecursion (λ (m : Bookmark). m.rev < length (changeset_nodes r.changesets)) marks → mark_named l.changelog.entries (map (mark_of (changeset_nodes r.changesets)) marks) name ≡ bookmark_named marks name
place-of-mark laws t r l name [] s is low = refl
place-of-mark laws t r l name (m ∷ marks) s is low =
    ap (λ (b : Bool). place_of_some l.changelog.entries (cond b (Some (slice_index_or (changeset_nodes r.changesets) m.rev null_node)) (node_of name (map (mark_of (changeset_nodes r.changesets)) marks)))) (same-swap name m.name)
    ∙ by (same m.name name) (place-of-mark laws t r l name marks s is low.1)
  where
    by : (b : Bool) → place_of_some l.changelog.entries (node_of name (map (mark_of (changeset_nodes r.changesets)) marks)) ≡ bookmark_named marks name
        → place_of_some l.changelog.entries (cond b (Some (slice_index_or (changeset_nodes r.changesets) m.rev null_node)) (node_of name (map (mark_of (changeset_nodes r.changesets)) marks))) ≡ option_map (λ (x : Bookmark). x.rev) (cond b (Some m) (find (λ (x : Bookmark). same x.name name) marks))
    by true rec = place-is laws t r l m.rev s is.nodes low.0
    by false rec = rec

pub target-same : (laws : Below) (t : Tree) (r : Repo) (l : Loaded) (mark : List ℕ) → Stands t r → HoldsRepository l r → mark_named l.changelog.entries l.bookmarks mark ≡ bookmark_named r.bookmarks mark
target-same laws t r l mark s is =
    ap (λ (marks : List Mark). mark_named l.changelog.entries marks mark) is.bookmarks
    ∙ place-of-mark laws t r l mark r.bookmarks s is (subst (λ (n : ℕ). AllByRecursion (λ (m : Bookmark). m.rev < n) r.bookmarks) (room laws r s.repository) s.repository.marks)
