-- A name names the same in a view and in its repository.
use Rattle.std.proofs.Common.{◌≡◌, ℕ, ◌<◌, List, [], ◌∷◌, Bool, true, false, cond, length, map, Option, Some, None, refl, sym, ◌∙◌, ap, subst}
use Rattle.std.specs.Prelude.{codes, find, option_map, position, slice_index_or}
use Rattle.std.specs.List.{AllByRecursion}
use Rattle.hgs_bytes.specs.Bytes.{same}
use Rattle.hgs_files.specs.Tree.{Tree}
use Rattle.hgs_index.specs.declared.entry.Entry.{Entry}
use Rattle.hgs_index.specs.Node.{null_node}
use Rattle.hgs_index.specs.Revlog.{all_different}
use Rattle.hgs_marks.specs.Bookmarks.{node_of}
use Rattle.hgs_model.specs.History.{first_of, history, changeset_nodes}
use Rattle.hgs_model.specs.Names.{number_named, node_named, last_of, bookmark_named, named as model_named}
use Rattle.hgs_model.specs.Repo.{Repo, Bookmark}
use Rattle.hgs_revlog.specs.Log.{nodes_of, place_of}
use Rattle.hgs_reader.specs.Names.{place_of_some, named}
use Rattle.hgs_load.specs.View.{View}
use Rattle.hgs_stands.specs.Stands.{Stands, mark_of}
use Rattle.hgs_shown.specs.Shown.{IsViewOf, IsViewOver, chunks_of_changelog, index_of_changelog, shown_repo}
use Rattle.hgs_shown.proofs.OpenLemmas.{parent-goes-on, below-all}
use Rattle.hgs_bytes.specs.Bytes.{IsPrefixOf}
use Rattle.hgs_model.specs.IsRepo.{IsRepo}
use Rattle.hgs_shown.proofs.Basics.{never, same-eq, same-refl}
use Rattle.hgs_shown.specs.Below.{Below}

-- ---- nodes

node-same : (entries : List Entry) (known : List (List ℕ)) (name : List ℕ) → nodes_of entries ≡ known → node_named (nodes_of entries) name ≡ node_named known name
node-same entries known name is = ap (λ l. node_named l name) is

-- ---- bookmarks

same-swap : (x y : List ℕ) → same x y ≡ same y x
same-swap x y = by (same x y) refl (same y x) refl
  where
    by : (a : Bool) → same x y ≡ a → (b : Bool) → same y x ≡ b → same x y ≡ same y x
    by true e true f = e ∙ sym f
    by false e false f = e ∙ sym f
    by true e false f = never (sym (ap (same y) (same-eq x y e) ∙ same-refl y) ∙ f)
    by false e true f = never (sym (ap (same x) (same-eq y x f) ∙ same-refl x) ∙ e)

bookmark-same : (laws : Below) (entries : List Entry) (known : List (List ℕ)) (name : List ℕ) (marks : List Bookmark) → nodes_of entries ≡ known → all_different known ≡ true → AllByRecursion (λ (m : Bookmark). m.rev < length known) marks
    → place_of_some entries (node_of name (map (mark_of known) marks)) ≡ bookmark_named marks name
bookmark-same laws entries known name [] is different all = refl
bookmark-same laws entries known name (m ∷ marks) is different all =
    ap (λ b. place_of_some entries (cond b (Some (slice_index_or known m.rev null_node)) (node_of name (map (mark_of known) marks)))) (same-swap name m.name)
    ∙ by (same m.name name) (bookmark-same laws entries known name marks is different all.1)
  where
    place : place_of entries (slice_index_or known m.rev null_node) ≡ Some m.rev
    place = laws.place entries (slice_index_or known m.rev null_node) ∙ ap (position (λ x. same x (slice_index_or known m.rev null_node))) is ∙ laws.first_place known m.rev different all.0

    by : (b : Bool) → place_of_some entries (node_of name (map (mark_of known) marks)) ≡ bookmark_named marks name
        → place_of_some entries (cond b (Some (slice_index_or known m.rev null_node)) (node_of name (map (mark_of known) marks))) ≡ option_map (λ (x : Bookmark). x.rev) (cond b (Some m) (find (λ (x : Bookmark). same x.name name) marks))
    by true rec = place
    by false rec = rec

-- ---- names

abbrev name_form : List ℕ → Option ℕ → ℕ → Option ℕ → Option ℕ → Option ℕ
name_form name first count node mark =
    cond (same name (codes "null")) None (cond (same name (codes ".")) first (cond (same name (codes "tip")) (last_of count) (first_of (number_named count name) (first_of node mark))))

-- where nodes, bookmarks and the first working parent are those of a repository
names-by : (laws : Below) (r : Repo) (view : View) (name : List ℕ) → nodes_of view.changelog.entries ≡ changeset_nodes r.changesets → length view.changelog.entries ≡ length r.changesets → all_different (changeset_nodes r.changesets) ≡ true
    → view.bookmarks ≡ map (mark_of (changeset_nodes r.changesets)) r.bookmarks → AllByRecursion (λ (m : Bookmark). m.rev < length (changeset_nodes r.changesets)) r.bookmarks → view.working ≡ r.working → named view name ≡ model_named r name
names-by laws r view name nodes_are counts different marks low working =
    let known = changeset_nodes r.changesets in
    let entries = view.changelog.entries in
    let node = node-same entries known name nodes_are in
    let mark : place_of_some entries (node_of name view.bookmarks) ≡ bookmark_named r.bookmarks name =
    ap (λ l. place_of_some entries (node_of name l)) marks ∙ bookmark-same laws entries known name r.bookmarks nodes_are different low in
    λ i. name_form name ((working i).0) (counts i) (node i) (mark i)

room : (laws : Below) (r : Repo) → IsRepo r → length r.changesets ≡ length (changeset_nodes r.changesets)
room laws r is = sym (laws.counted (history r.changesets).changelog ∙ laws.count r is)

pub same-names : (laws : Below) (t : Tree) (r : Repo) (view : View) (name : List ℕ) → Stands t r → IsViewOf view t r → named view name ≡ model_named r name
same-names laws t r view name s v =
    let revisions = (history r.changesets).changelog in
    names-by laws r view name (laws.entry_nodes (index_of_changelog t) (chunks_of_changelog t) view.changelog.entries revisions v.entries)
    (laws.entry_count (index_of_changelog t) (chunks_of_changelog t) view.changelog.entries revisions v.entries ∙ laws.count r s.repository) s.revlogs.changelog.different v.bookmarks
    (subst (λ n. AllByRecursion (λ (m : Bookmark). m.rev < n) r.bookmarks) (room laws r s.repository) s.repository.marks) v.working

-- ---- bookmarks of a front of the history

marks-go-on : (known all : List (List ℕ)) (marks : List Bookmark) → IsPrefixOf known all → AllByRecursion (λ (m : Bookmark). m.rev < length known) marks → map (mark_of known) marks ≡ map (mark_of all) marks
marks-go-on known all [] p low = refl
marks-go-on known all (m ∷ marks) p low =
    let node : slice_index_or known m.rev null_node ≡ slice_index_or all m.rev null_node = parent-goes-on known all (Some m.rev) p low.0 in
    λ i. record { name = m.name; node = node i } ∷ marks-go-on known all marks p low.1 i

low-go-on : (known all : List (List ℕ)) (marks : List Bookmark) → IsPrefixOf known all → AllByRecursion (λ (m : Bookmark). m.rev < length known) marks → AllByRecursion (λ (m : Bookmark). m.rev < length all) marks
low-go-on known all [] p low = tt
low-go-on known all (m ∷ marks) p low = (below-all known all (Some m.rev) p low.0, low-go-on known all marks p low.1)

pub marks-stay : (laws : Below) (marked r : Repo) → IsRepo marked → IsPrefixOf marked.changesets r.changesets → map (mark_of (changeset_nodes marked.changesets)) marked.bookmarks ≡ map (mark_of (changeset_nodes r.changesets)) marked.bookmarks
marks-stay laws marked r is goes_on =
    marks-go-on (changeset_nodes marked.changesets) (changeset_nodes r.changesets) marked.bookmarks (laws.nodes_go_on marked.changesets r.changesets goes_on)
    (subst (λ n. AllByRecursion (λ (m : Bookmark). m.rev < n) marked.bookmarks) (room laws marked is) is.marks)

pub names-over : (laws : Below) (t : Tree) (marked worked r : Repo) (view : View) (name : List ℕ) → IsRepo marked → IsRepo r → IsPrefixOf marked.changesets r.changesets → IsViewOver view t marked worked r → named view name ≡ model_named (shown_repo marked worked r) name
names-over laws t marked worked r view name marked_is is goes_on v =
    let revisions = (history r.changesets).changelog in
    let old = changeset_nodes marked.changesets in
    let known = changeset_nodes r.changesets in
    let front = laws.nodes_go_on marked.changesets r.changesets goes_on in
    let low = subst (λ n. AllByRecursion (λ (m : Bookmark). m.rev < n) marked.bookmarks) (room laws marked marked_is) marked_is.marks in
    names-by laws (shown_repo marked worked r) view name (laws.entry_nodes v.begins.index_front v.begins.data_front view.changelog.entries revisions v.entries)
    (laws.entry_count v.begins.index_front v.begins.data_front view.changelog.entries revisions v.entries ∙ laws.count r is) v.begins.held.different
    (v.bookmarks ∙ marks-stay laws marked r marked_is goes_on) (low-go-on old known marked.bookmarks front low) v.working
