-- The texts of a view of a repository are the repository's.
use Rattle.std.proofs.Common.{◌≡◌, ℕ, zero, suc, ◌+◌, ◌<◌, List, [], ◌∷◌, ◌++◌, Bool, true, ◌||◌, cond, length, map, Option, Some, None, refl, sym, ◌∙◌, ap, arith, append-nil}
use Rattle.std.specs.Prelude.{IfSome, decimal, flat_map, position, slice_get, slice_index, slice_index_or}
use Rattle.std.specs.List.{AllByRecursion, list_any}
use Rattle.std.proofs.lemmas.List.{length-map}
use Rattle.hgs_bytes.specs.Bytes.{same}
use Rattle.hgs_files.specs.Tree.{Tree}
use Rattle.hgs_index.specs.Hex.{hex}
use Rattle.hgs_index.specs.Node.{null_node}
use Rattle.hgs_index.specs.Revision.{Parents}
use Rattle.hgs_index.specs.Revlog.{all_different}
use Rattle.hgs_index.specs.declared.entry.Entry.{Entry}
use Rattle.hgs_load.specs.View.{View}
use Rattle.hgs_model.specs.History.{changeset_nodes, history, parents_in}
use Rattle.hgs_model.specs.IsRepo.{IsRepo}
use Rattle.hgs_model.specs.Phase.{phase_name, phase_number}
use Rattle.hgs_model.specs.Repo.{Bookmark, Changeset, Repo, all_parents}
use Rattle.hgs_model.specs.declared.phase.Phase.{Phase}
use Rattle.hgs_model.specs.declared.phase.Phase.TheVariants.{Draft, Public, Secret}
use Rattle.hgs_reader.specs.Heads as reader_heads
use Rattle.hgs_reader.specs.Shown as reader_shown
use Rattle.hgs_revlog.specs.Log.{nodes_of, place_of}
use Rattle.hgs_shown.specs.Answers.{bookmark_line, changeset_line, has_child, head_lines, heads_text, is_number, is_one_of, node_in, parents_text, phase_word, working_line}
use Rattle.hgs_shown.specs.Shown.{IsViewOf, IsViewOver, chunks_of_changelog, index_of_changelog}
use Rattle.hgs_stands.specs.Stands.{mark_of}
use Rattle.hgs_views.specs.Says.{SaysOf}
use Rattle.hgs_views.proofs.Below.{NodesLaw, ParentsLaw, PlaceLaw}
use Rattle.hgs_views.proofs.SeenLemmas.{NamesLaw}

-- what the texts of a view need
pub record SaysLaws : Type 0 where
  pub names : NamesLaw
  pub nodes : NodesLaw
  pub parents : ParentsLaw
  pub place : PlaceLaw
  pub all : (r : Repo) → IsRepo r → parents_in (history r.changesets).changelog ≡ all_parents r.changesets
  pub first_place : (known : List (List ℕ)) (rev : ℕ) → all_different known ≡ true → rev < length known → position (λ n. same n (slice_index_or known rev null_node)) known ≡ Some rev

-- ---- lists

get-of-map : {A B : Type 0} (f : A → B) (xs : List A) (rev : ℕ) (y : B) → slice_get (map f xs) rev ≡ Some y → (x : A) × (slice_get xs rev ≡ Some x) × (f x ≡ y)
get-of-map f [] rev y e = absurd (no e)
  where
    no : None ≡ Some y → ⊥
    no x = cc
get-of-map f (x ∷ xs) zero y e = (x, refl, ap (λ o. elim o [ None ↦ f x | Some z ↦ z ]) e)
get-of-map f (x ∷ xs) (suc rev) y e = get-of-map f xs rev y e

get-below : {A : Type 0} (xs : List A) (rev : ℕ) → rev < length xs → (x : A) × (slice_get xs rev ≡ Some x)
get-below [] rev h = absurd (omega (arith, h))
get-below (x ∷ xs) zero h = (x, refl)
get-below (x ∷ xs) (suc rev) h = get-below xs rev (omega (arith, h))

index-map : (entries : List Entry) (rev : ℕ) (e : Entry) → slice_get entries rev ≡ Some e → slice_index_or (nodes_of entries) rev null_node ≡ e.node.0
index-map [] rev e at = cc
index-map (d ∷ entries) zero e at = ap (λ (o : Option Entry). elim o [ None ↦ d.node.0 | Some z ↦ z.node.0 ]) at
index-map (d ∷ entries) (suc rev) e at = index-map entries rev e at

any-map : {A B : Type 0} (g : B → Bool) (f : A → B) (xs : List A) → list_any (λ x. g (f x)) xs ≡ list_any g (map f xs)
any-map g f [] = refl
any-map g f (x ∷ xs) = ap (λ b. g (f x) || b) (any-map g f xs)

any-same : {A : Type 0} (f g : A → Bool) (xs : List A) → ((x : A) → f x ≡ g x) → list_any f xs ≡ list_any g xs
any-same f g [] e = refl
any-same f g (x ∷ xs) e = (λ i. e x i || list_any f xs) ∙ ap (λ b. g x || b) (any-same f g xs e)

-- ---- phases

word-of : (p : Phase) → phase_name p ≡ phase_word (phase_number p)
word-of Public = refl
word-of Draft = refl
word-of Secret = refl

phase-of : (view : View) (r : Repo) (rev : ℕ) → map phase_number view.phases ≡ r.phases → rev < length r.phases → (p : Phase) × (slice_get view.phases rev ≡ Some p) × (phase_name p ≡ phase_word (slice_index r.phases rev))
phase-of view r rev e low =
    let y = get-below r.phases rev low in
    let p = get-of-map phase_number view.phases rev y.0 (ap (λ l. slice_get l rev) e ∙ y.1) in
    (p.0, p.1, word-of p.0 ∙ ap phase_word (p.2 ∙ sym (index-there r.phases rev y.0 y.1)))
  where
    index-there : (xs : List ℕ) (rev x : ℕ) → slice_get xs rev ≡ Some x → slice_index xs rev ≡ x
    index-there [] rev x e = cc
    index-there (y ∷ xs) zero x e = ap (λ o. elim o [ None ↦ y | Some z ↦ z ]) e
    index-there (y ∷ xs) (suc rev) x e = index-there xs rev x e

-- ---- what the entries of a view have of the changesets

abbrev both : Entry → Parents
both e = (e.p1, e.p2)

number-same : (rev : ℕ) (o : Option ℕ) → reader_heads.is_parent rev o ≡ is_number rev o
number-same rev None = refl
number-same rev (Some p) = refl

-- these entries are those of these changesets, the first of which has this number
abbrev AreEntries : Repo → ℕ → List Entry → List Changeset → Type 0
AreEntries r rev [] [] = Unit {0}
AreEntries r rev [] (c ∷ more) = ⊥
AreEntries r rev (e ∷ entries) [] = ⊥
AreEntries r rev (e ∷ entries) (c ∷ more) = (e.node.0 ≡ node_in r rev) × AreEntries r (suc rev) entries more

are-entries : (r : Repo) (rev : ℕ) (entries : List Entry) (changesets : List Changeset) → ((i : ℕ) → i < length entries → slice_index_or (nodes_of entries) i null_node ≡ node_in r (rev + i)) → length entries ≡ length changesets → AreEntries r rev entries changesets
are-entries r rev [] [] at size = tt
are-entries r rev [] (c ∷ more) at size = absurd (omega (arith, size))
are-entries r rev (e ∷ entries) [] at size = absurd (omega (arith, size))
are-entries r rev (e ∷ entries) (c ∷ more) at size = (
  at 0 (omega arith) ∙ ap (node_in r) (omega arith),
  are-entries r (suc rev) entries more (λ i low. at (suc i) (omega (arith, low)) ∙ ap (node_in r) (omega arith)) (omega (arith, size)),
)

module _ (laws : SaysLaws) (t : Tree) (r : Repo) (view : View) (is : IsRepo r) (v : IsViewOf view t r) where
  nodes-are : nodes_of view.changelog.entries ≡ changeset_nodes r.changesets
  nodes-are = laws.nodes (index_of_changelog t) (chunks_of_changelog t) view.changelog.entries (history r.changesets).changelog v.entries

  parents-are : map both view.changelog.entries ≡ all_parents r.changesets
  parents-are = laws.parents (index_of_changelog t) (chunks_of_changelog t) view.changelog.entries (history r.changesets).changelog v.entries ∙ laws.all r is

  count-is : length view.changelog.entries ≡ length r.changesets
  count-is = sym (length-map view.changelog.entries both) ∙ ap length parents-are ∙ length-map r.changesets (λ (c : Changeset). c.parents)

  -- the node of the entry at a place
  node-at : (rev : ℕ) (e : Entry) → slice_get view.changelog.entries rev ≡ Some e → e.node.0 ≡ node_in r rev
  node-at rev e at = sym (index-map view.changelog.entries rev e at) ∙ ap (λ l. slice_index_or l rev null_node) nodes-are

  -- ---- heads

  child-same : (rev : ℕ) → list_any (reader_heads.has_parent rev) view.changelog.entries ≡ has_child r rev
  child-same rev =
      any-same (reader_heads.has_parent rev) (λ (e : Entry). is_one_of rev (both e)) view.changelog.entries (λ e i. number-same rev e.p1 i || number-same rev e.p2 i)
      ∙ any-map (is_one_of rev) both view.changelog.entries ∙ ap (list_any (is_one_of rev)) parents-are

  heads-from : (rev : ℕ) (some : List Entry) (changesets : List Changeset) → AreEntries r rev some changesets → reader_heads.heads_from view.changelog.entries rev some ≡ head_lines r rev changesets
  heads-from rev [] [] a = refl
  heads-from rev [] (c ∷ more) a = absurd a
  heads-from rev (e ∷ some) [] a = absurd a
  heads-from rev (e ∷ some) (c ∷ more) a =
      (λ i. cond (child-same rev i) [] (decimal rev ++ 32 ∷ [] ++ hex (a.0 i) ++ 10 ∷ []) ++ reader_heads.heads_from view.changelog.entries (suc rev) some)
      ∙ ap (λ l. cond (has_child r rev) [] (changeset_line r rev) ++ l) (heads-from (suc rev) some more a.1)

  heads-are : reader_heads.heads_text view ≡ heads_text r
  heads-are = heads-from 0 view.changelog.entries r.changesets (are-entries r 0 view.changelog.entries r.changesets (λ i low. ap (λ l. slice_index_or l i null_node) nodes-are ∙ ap (node_in r) (from_first i)) count-is)
    where
      from_first : (i : ℕ) → i ≡ 0 + i
      from_first i = omega arith

  -- ---- working parents

  working-same : (o : Option ℕ) → IfSome o (λ rev. rev < length r.changesets) → reader_shown.parent_shown view.changelog.entries o ≡ working_line r o
  working-same None low = refl
  working-same (Some rev) low =
      let e = get-below view.changelog.entries rev (let n = count-is in omega (arith, low, n)) in
      ap (reader_shown.line_of_entry rev) e.1 ∙ ap (λ node. decimal rev ++ 32 ∷ [] ++ hex node ++ 10 ∷ []) (node-at rev e.0 e.1)

  working-are : reader_shown.parents_text view ≡ parents_text r
  working-are =
      (λ i. reader_shown.parent_shown view.changelog.entries ((v.working i).0) ++ reader_shown.parent_shown view.changelog.entries ((v.working i).1))
      ∙ ap (λ l. l ++ reader_shown.parent_shown view.changelog.entries r.working.1) (working-same r.working.0 is.first_working)
      ∙ ap (λ l. working_line r r.working.0 ++ l) (working-same r.working.1 is.second_working)

  -- ---- bookmarks

  marks-from : (marks : List Bookmark) → AllByRecursion (λ (m : Bookmark). m.rev < length r.changesets) marks → reader_shown.marks_shown view.changelog.entries (map (mark_of (changeset_nodes r.changesets)) marks) ≡ flat_map (bookmark_line r) marks
  marks-from [] low = refl
  marks-from (m ∷ marks) low =
      let node = slice_index_or (changeset_nodes r.changesets) m.rev null_node in
      let size : length (changeset_nodes r.changesets) ≡ length r.changesets = sym (ap length nodes-are) ∙ length-map view.changelog.entries (λ (e : Entry). e.node.0) ∙ count-is in
      let few = low.0 in
      let place : place_of view.changelog.entries node ≡ Some m.rev =
      laws.place view.changelog.entries node ∙ ap (position (λ n. same n node)) nodes-are ∙ laws.first_place (changeset_nodes r.changesets) m.rev v.entries.held.different (omega (arith, few, size)) in
      ap (λ o. reader_shown.shown_mark (mark_of (changeset_nodes r.changesets) m) o ++ reader_shown.marks_shown view.changelog.entries (map (mark_of (changeset_nodes r.changesets)) marks)) place
      ∙ ap (λ l. bookmark_line r m ++ l) (marks-from marks low.1)

  -- ---- names

  over : IsViewOver view t r r r
  over =
      let index = index_of_changelog t in
      let chunks = chunks_of_changelog t in
      record {
        begins = record { index_front = index; data_front = chunks; held = v.entries.held; index_begins = ([], sym (append-nil index)); data_begins = ([], sym (append-nil chunks)) };
        entries = v.entries;
        bookmarks = v.bookmarks;
        working = v.working;
        phases = v.phases;
      }

  pub says : SaysOf view r
  says = record {
    count = count-is;
    names = λ name. laws.names t r r r view name is is ([], sym (append-nil r.changesets)) over;
    heads = heads-are;
    bookmarks = ap (reader_shown.marks_shown view.changelog.entries) v.bookmarks ∙ marks-from r.bookmarks is.marks;
    parents = working-are;
    phases = v.phases;
    phase = λ rev low. phase-of view r rev v.phases (let n = is.phase_count in omega (arith, low, n));
  }
