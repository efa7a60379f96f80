-- What a view tells is what its repository tells.
use Rattle.std.proofs.Common.{◌≡◌, ℕ, ◌<◌, List, [], ◌∷◌, Bool, true, false, cond, length, map, Some, Result, Ok, refl, sym, ◌∙◌, ap, subst}
use Rattle.std.specs.Prelude.{find, option_map, position, slice_index_or}
use Rattle.std.specs.Cmp.Lexicographic.{bytes_decides}
use Rattle.std.specs.List.{AllByRecursion}
use Rattle.hgs_bytes.specs.Bytes.{same}
use Rattle.hgs_files.specs.Tree.{Tree}
use Rattle.hgs_index.specs.declared.entry.Entry.{Entry}
use Rattle.hgs_index.specs.Node.{null_node}
use Rattle.hgs_index.specs.Revision.{Revision, nodes}
use Rattle.hgs_index.specs.Revlog.{all_different}
use Rattle.hgs_load.specs.declared.answer.ReadAnswer.{ReadAnswer}
use Rattle.hgs_load.specs.Asks.{at_rest}
use Rattle.hgs_load.specs.Open.{open_asks}
use Rattle.hgs_load.specs.View.{View}
use Rattle.hgs_marks.specs.Bookmarks.{node_of}
use Rattle.hgs_members.specs.Story.{story_of}
use Rattle.hgs_model.specs.History.{changeset_nodes, history, parents_in}
use Rattle.hgs_model.specs.IsRepo.{IsRepo}
use Rattle.hgs_model.specs.Names.{bookmark_named, named as model_named}
use Rattle.hgs_model.specs.Repo.{Bookmark, Repo, all_parents}
use Rattle.hgs_phases.specs.Phases.{history_of}
use Rattle.hgs_reader.specs.Names.{mark_named, named, place_of_some}
use Rattle.hgs_revlog.specs.Held.{Agrees}
use Rattle.hgs_revlog.specs.Log.{nodes_of, place_of}
use Rattle.hgs_revset.specs.Members.{story_of_repo, AreAlike}
use Rattle.hgs_shown.specs.Answers.{IsReadable}
use Rattle.hgs_shown.specs.Limits.{OpensWithin}
use Rattle.hgs_shown.specs.Shown.{IsViewOf, chunks_of_changelog, index_of_changelog}
use Rattle.hgs_stands.specs.Stands.{Stands, mark_of}

-- what the crates below say
pub record Laws : Type 0 where
  pub counted : (revisions : List Revision) → length (nodes revisions) ≡ length revisions
  pub first_place : (known : List (List ℕ)) (rev : ℕ) → all_different known ≡ true → rev < length known → position (λ n. same n (slice_index_or known rev null_node)) known ≡ Some rev
  pub count : (r : Repo) → IsRepo r → length (history r.changesets).changelog ≡ length r.changesets
  pub parents : (r : Repo) → IsRepo r → parents_in (history r.changesets).changelog ≡ all_parents r.changesets
  pub place : (entries : List Entry) (node : List ℕ) → place_of entries node ≡ position (λ n. same n node) (nodes_of entries)
  pub entry_nodes : (index data_bytes : List ℕ) (entries : List Entry) (revisions : List Revision) → Agrees index data_bytes entries revisions → nodes_of entries ≡ nodes revisions
  pub entry_parents : (index data_bytes : List ℕ) (entries : List Entry) (revisions : List Revision) → Agrees index data_bytes entries revisions → history_of entries ≡ parents_in revisions
  pub loads : (t : Tree) (r : Repo) → Stands t r → OpensWithin t r r → (view : View) × (at_rest t open_asks ≡ Ok view) × IsViewOf view t r
  pub names : (t : Tree) (r : Repo) (view : View) (name : List ℕ) → Stands t r → IsViewOf view t r → named view name ≡ model_named r name

never : {A : Type 0} → true ≡ false → A
never e = absurd (no e)
  where
    no : true ≡ false → ⊥
    no x = cc

same_swap : (x y : List ℕ) → same x y ≡ same y x
same_swap x y = by (same x y) refl (same y x) refl
  where
    by : (a : Bool) → same x y ≡ a → (b : Bool) → same y x ≡ b → same x y ≡ same y x
    by true e true f = e ∙ sym f
    by false e false f = e ∙ sym f
    by true e false f = never (sym (ap (same y) ((bytes_decides x y).0 e) ∙ (bytes_decides y y).1 refl) ∙ f)
    by false e true f = never (sym (ap (same x) ((bytes_decides y x).0 f) ∙ (bytes_decides x x).1 refl) ∙ e)

-- the bookmarks of a repository, by their nodes, name what they name in it
marked_same : (laws : Laws) (entries : List Entry) (known : List (List ℕ)) (name : List ℕ) (marks : List Bookmark) → nodes_of entries ≡ known → all_different known ≡ true → AllByRecursion (λ (m : Bookmark). m.rev < length known) marks
    → place_of_some entries (node_of name (map (mark_of known) marks)) ≡ bookmark_named marks name
marked_same laws entries known name [] is different all = refl
marked_same laws entries known name (m ∷ marks) is different all =
    ap (λ b. place_of_some entries (cond b (Some (slice_index_or known m.rev null_node)) (node_of name (map (mark_of known) marks)))) (same_swap name m.name)
    ∙ by (same m.name name) (marked_same laws entries known name marks is different all.1)
  where
    place : place_of entries (slice_index_or known m.rev null_node) ≡ Some m.rev
    place = laws.place entries (slice_index_or known m.rev null_node) ∙ ap (position (λ x. same x (slice_index_or known m.rev null_node))) is ∙ laws.first_place known m.rev different all.0

    by : (b : Bool) → place_of_some entries (node_of name (map (mark_of known) marks)) ≡ bookmark_named marks name
        → place_of_some entries (cond b (Some (slice_index_or known m.rev null_node)) (node_of name (map (mark_of known) marks))) ≡ option_map (λ (x : Bookmark). x.rev) (cond b (Some m) (find (λ (x : Bookmark). same x.name name) marks))
    by true rec = place
    by false rec = rec

pub alike : (laws : Laws) (t : Tree) (r : Repo) (view : View) → IsRepo r → IsViewOf view t r → ((name : List ℕ) → named view name ≡ model_named r name) → AreAlike (story_of view) (story_of_repo r)
alike laws t r view is v names =
    let revisions = (history r.changesets).changelog in
    let known = changeset_nodes r.changesets in
    let entries = view.changelog.entries in
    let nodes_are : nodes_of entries ≡ known = laws.entry_nodes (index_of_changelog t) (chunks_of_changelog t) entries revisions v.entries in
    let room : length r.changesets ≡ length known = sym (laws.counted revisions ∙ laws.count r is) in
    record {
      parents = laws.entry_parents (index_of_changelog t) (chunks_of_changelog t) entries revisions v.entries ∙ laws.parents r is;
      phases = v.phases;
      named = names;
      marked = λ name. ap (λ marks. mark_named entries marks name) v.bookmarks
          ∙ marked_same laws entries known name r.bookmarks nodes_are v.entries.held.different (subst (λ n. AllByRecursion (λ (m : Bookmark). m.rev < n) r.bookmarks) room is.marks);
      nodes = nodes_are;
    }

same_view : (x y : View) → (let a : Result View ReadAnswer = Ok x in a) ≡ Ok y → x ≡ y
same_view x y e = cc

pub alike_at_rest : (laws : Laws) (t : Tree) (r : Repo) (view : View) → IsReadable t r → at_rest t open_asks ≡ Ok view → AreAlike (story_of view) (story_of_repo r)
alike_at_rest laws t r view h is =
    let loaded = laws.loads t r h.stands h.opens in
    let same : loaded.0 ≡ view = same_view loaded.0 view (sym loaded.1 ∙ is) in
    let shown : IsViewOf view t r = subst (λ v. IsViewOf v t r) same loaded.2 in
    alike laws t r view h.stands.repository shown (λ name. laws.names t r view name h.stands shown)
