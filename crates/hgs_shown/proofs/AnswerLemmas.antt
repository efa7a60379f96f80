-- The answers of a view of a repository are those of the repository.
use Rattle.std.proofs.Common.{◌≡◌, ℕ, zero, suc, ◌+◌, ◌<◌, List, [], ◌∷◌, ◌++◌, Bool, true, false, ◌||◌, cond, length, map, Option, Some, None, Result, Ok, Err, refl, sym, ◌∙◌, ap, subst, arith, append-nil}
use Rattle.std.specs.Prelude.{IfSome, decimal, find, flat_map, position, slice_get, slice_index, slice_index_or, unwrap_or}
use Rattle.std.specs.Fmt.{signed_decimal}
use Rattle.std.specs.List.{AllByRecursion, AllZip, list_any}
use Rattle.std.specs.Option.{option_map}
use Rattle.hgs_bytes.specs.Bytes.{among, same}
use Rattle.hgs_files.specs.Tree.{Tree}
use Rattle.hgs_index.specs.ChangeText.{Change}
use Rattle.hgs_index.specs.declared.entry.Entry.{Entry}
use Rattle.hgs_index.specs.Hex.{hex}
use Rattle.hgs_index.specs.Manifest.{Row}
use Rattle.hgs_index.specs.Node.{null_node}
use Rattle.hgs_index.specs.Revision.{Parents}
use Rattle.hgs_index.specs.Revlog.{all_different}
use Rattle.hgs_model.specs.Held.{Tells}
use Rattle.hgs_model.specs.History.{changeset_nodes, history}
use Rattle.hgs_model.specs.IsRepo.{IsRepo}
use Rattle.hgs_model.specs.Phase.{phase_name, phase_number}
use Rattle.hgs_model.specs.declared.phase.Phase.{Phase}
use Rattle.hgs_model.specs.declared.phase.Phase.TheVariants.{Public, Draft, Secret}
use Rattle.hgs_model.specs.Repo.{Repo, Changeset, Bookmark, TreeFile, all_parents, tree_at, tree_paths}
use Rattle.hgs_revlog.specs.Log.{nodes_of, place_of}
use Rattle.hgs_revlog.specs.Text.{span_in}
use Rattle.hgs_load.specs.declared.answer.ReadAnswer.{ReadAnswer}
use Rattle.hgs_load.specs.declared.answer.ReadAnswer.TheVariants.{UnknownPath}
use Rattle.hgs_load.specs.Asks.{at_rest, part_of}
use Rattle.hgs_reader.specs.Contents.{cat_asks, files_asks}
use Rattle.hgs_reader.specs.Heads as reader_heads
use Rattle.hgs_reader.specs.Line.{change_asks, change_at, changeset_asks, first_line, field, line_asks, line_at, line_of_change, line_of_entry, line_text, parent_text}
use Rattle.hgs_reader.specs.Names.{named}
use Rattle.hgs_load.specs.Open.{open_asks}
use Rattle.hgs_reader.specs.Shown as reader_shown
use Rattle.hgs_load.specs.View.{View, changelog_data, changelog_index}
use Rattle.hgs_stands.specs.Stands.{mark_of}
use Rattle.hgs_model.specs.Names.{named as model_named}
use Rattle.hgs_shown.specs.Answers.{IsReadable, tree_text, node_in, log_line, changeset_line, is_number, is_one_of, has_child, head_lines, heads_text, working_line, parents_text, bookmark_line, bookmarks_text, phase_word, body_answer, body_at}
use Rattle.hgs_shown.specs.Shown.{IsFileShown, IsShown, IsViewOf, chunks_of_changelog, index_of_changelog}
use Rattle.hgs_shown.proofs.ContentLemmas.{contents, lines-of, loaded-view}
use Rattle.hgs_shown.proofs.NameLemmas.{same-names}
use Rattle.hgs_shown.proofs.OpenLemmas.{Loads, shown}
use Rattle.hgs_shown.specs.Below.{Below}
use Rattle.hgs_shown.proofs.Basics.{same-eq, same-refl}

-- ---- lists

pub get-of-map : {A B : Type 0} (f : A → B) (xs : List A) (rev : ℕ) (y : B) → slice_get (map f xs) rev ≡ Some y → (x : A) × (slice_get xs rev ≡ Some x) × (f x ≡ y)
get-of-map f [] rev y e = absurd (no e)
  where
    no : None ≡ Some y → ⊥
    no x = cc
get-of-map f (x ∷ xs) zero y e = (x, refl, ap (λ o. elim o [ None ↦ f x | Some z ↦ z ]) e)
get-of-map f (x ∷ xs) (suc rev) y e = get-of-map f xs rev y e

pub get-map : {A B : Type 0} (f : A → B) (xs : List A) (rev : ℕ) (x : A) → slice_get xs rev ≡ Some x → slice_get (map f xs) rev ≡ Some (f x)
get-map f [] rev x e = cc
get-map {A} {B} f (y ∷ xs) zero x e = ap (λ (o : Option A). option_map f o) e
get-map f (y ∷ xs) (suc rev) x e = get-map f xs rev x e

index-map : {A : Type 0} (f : A → List ℕ) (xs : List A) (rev : ℕ) (x : A) → slice_get xs rev ≡ Some x → slice_index_or (map f xs) rev null_node ≡ f x
index-map f [] rev x e = cc
index-map {A} f (y ∷ xs) zero x e = ap (λ (o : Option A). elim o [ None ↦ f y | Some z ↦ f z ]) e
index-map f (y ∷ xs) (suc rev) x e = index-map f xs rev x e

any-map : {A B : Type 0} (g : B → Bool) (f : A → B) (xs : List A) → list_any (λ x. g (f x)) xs ≡ list_any g (map f xs)
any-map g f [] = refl
any-map g f (x ∷ xs) = ap (λ b. g (f x) || b) (any-map g f xs)

get-below : {A : Type 0} (xs : List A) (rev : ℕ) → rev < length xs → (x : A) × (slice_get xs rev ≡ Some x)
get-below [] rev h = absurd (omega (arith, h))
get-below (x ∷ xs) zero h = (x, refl)
get-below (x ∷ xs) (suc rev) h = get-below xs rev (omega (arith, h))

-- ---- what the entries of a view have of the changesets

abbrev both : Entry → Parents
both e = (e.p1, e.p2)

pub record Has (view : View) (r : Repo) : Type 0 where
  pub nodes_are : nodes_of view.changelog.entries ≡ changeset_nodes r.changesets
  pub parents_are : map both view.changelog.entries ≡ all_parents r.changesets
  pub different : all_different (changeset_nodes r.changesets) ≡ true
  pub count : length view.changelog.entries ≡ length r.changesets

pub has : (laws : Below) (t : Tree) (r : Repo) (view : View) → IsRepo r → IsViewOf view t r → Has view r
has laws t r view is v =
    let parents : map both view.changelog.entries ≡ all_parents r.changesets =
    laws.entry_parents (index_of_changelog t) (chunks_of_changelog t) view.changelog.entries (history r.changesets).changelog v.entries ∙ laws.parents r is in
    record {
      nodes_are = laws.entry_nodes (index_of_changelog t) (chunks_of_changelog t) view.changelog.entries (history r.changesets).changelog v.entries;
      parents_are = parents;
      different = v.entries.held.different;
      count = sym (length-map-of both view.changelog.entries) ∙ ap length parents ∙ length-map-of (λ (c : Changeset). c.parents) r.changesets;
    }
  where
    length-map-of : {A B : Type 0} (f : A → B) (xs : List A) → length (map f xs) ≡ length xs
    length-map-of f [] = refl
    length-map-of f (x ∷ xs) = ap suc (length-map-of f xs)

-- the entry of a changeset
pub record IsEntryOf (view : View) (r : Repo) (rev : ℕ) (c : Changeset) : Type 0 where
  pub entry : Entry
  pub there : slice_get view.changelog.entries rev ≡ Some entry
  pub node_is : entry.node.0 ≡ node_in r rev
  pub parents_is : both entry ≡ c.parents

pub entry-of : (view : View) (r : Repo) (rev : ℕ) (c : Changeset) → Has view r → slice_get r.changesets rev ≡ Some c → IsEntryOf view r rev c
entry-of view r rev c h found =
    let entries = view.changelog.entries in
    let p = get-of-map both entries rev c.parents (ap (λ l. slice_get l rev) h.parents_are ∙ get-map (λ (d : Changeset). d.parents) r.changesets rev c found) in
    record {
      entry = p.0;
      there = p.1;
      node_is = sym (index-map (λ (e : Entry). e.node.0) entries rev p.0 p.1) ∙ ap (λ l. slice_index_or l rev null_node) h.nodes_are;
      parents_is = p.2;
    }

-- ---- log

-- the line of a changeset
pub line-of : (t : Tree) (r : Repo) (view : View) (rev : ℕ) (c : Changeset) (change : Change) → Has view r → slice_get r.changesets rev ≡ Some c → Tells change c → (e : IsEntryOf view r rev c) → line_text rev e.entry change ≡ log_line r rev c
line-of t r view rev c change h found tells e =
    let user = tells.user in
    let seconds = tells.seconds in
    let offset = tells.offset in
    let description = tells.description in
    let node = e.node_is in
    let parents = e.parents_is in
    λ i. (decimal rev ++ field (hex (node i)) ++ field (parent_text ((parents i).0)) ++ field (parent_text ((parents i).1)))
    ++ (field (signed_decimal (seconds i)) ++ field (signed_decimal (offset i)) ++ field (user i) ++ field (first_line (description i))) ++ 10 ∷ []

-- ---- heads

-- these entries are those of these changesets, the first of which has this number
abbrev AreEntries : Repo → ℕ → List Entry → List Changeset → Type 0
AreEntries r rev [] [] = Unit {0}
AreEntries r rev [] (c ∷ more) = ⊥
AreEntries r rev (e ∷ entries) [] = ⊥
AreEntries r rev (e ∷ entries) (c ∷ more) = (e.node.0 ≡ node_in r rev) × AreEntries r (suc rev) entries more

are-entries : (r : Repo) (known : List (List ℕ)) (rev : ℕ) (entries : List Entry) (changesets : List Changeset) → ((i : ℕ) → i < length entries → slice_index_or (nodes_of entries) i null_node ≡ node_in r (rev + i)) → length entries ≡ length changesets → AreEntries r rev entries changesets
are-entries r known rev [] [] at size = tt
are-entries r known rev [] (c ∷ more) at size = absurd (omega (arith, size))
are-entries r known rev (e ∷ entries) [] at size = absurd (omega (arith, size))
are-entries r known rev (e ∷ entries) (c ∷ more) at size = (
  at 0 (omega arith) ∙ ap (node_in r) (omega arith),
  are-entries r known (suc rev) entries more (λ i low. at (suc i) (omega (arith, low)) ∙ ap (node_in r) (omega arith)) (omega (arith, size)),
)

number-same : (rev : ℕ) (o : Option ℕ) → reader_heads.is_parent rev o ≡ is_number rev o
number-same rev None = refl
number-same rev (Some p) = refl

any-same : {A : Type 0} (f g : A → Bool) (xs : List A) → ((x : A) → f x ≡ g x) → list_any f xs ≡ list_any g xs
any-same f g [] e = refl
any-same f g (x ∷ xs) e = (λ i. e x i || list_any f xs) ∙ ap (λ b. g x || b) (any-same f g xs e)

child-same : (view : View) (r : Repo) (rev : ℕ) → Has view r → list_any (reader_heads.has_parent rev) view.changelog.entries ≡ has_child r rev
child-same view r rev h =
    any-same (reader_heads.has_parent rev) (λ (e : Entry). is_one_of rev (both e)) view.changelog.entries (λ e i. number-same rev e.p1 i || number-same rev e.p2 i)
    ∙ any-map (is_one_of rev) both view.changelog.entries ∙ ap (list_any (is_one_of rev)) h.parents_are

heads-from : (view : View) (r : Repo) (h : Has view r) (rev : ℕ) (entries : List Entry) (changesets : List Changeset) → AreEntries r rev entries changesets → reader_heads.heads_from view.changelog.entries rev entries ≡ head_lines r rev changesets
heads-from view r h rev [] [] a = refl
heads-from view r h rev [] (c ∷ more) a = absurd a
heads-from view r h rev (e ∷ entries) [] a = absurd a
heads-from view r h rev (e ∷ entries) (c ∷ more) a =
    (λ i. cond (child-same view r rev h i) [] (decimal rev ++ 32 ∷ [] ++ hex (a.0 i) ++ 10 ∷ []) ++ reader_heads.heads_from view.changelog.entries (suc rev) entries)
    ∙ ap (λ l. cond (has_child r rev) [] (changeset_line r rev) ++ l) (heads-from view r h (suc rev) entries more a.1)

pub heads-same : (view : View) (r : Repo) → Has view r → reader_heads.heads_text view ≡ heads_text r
heads-same view r h =
    heads-from view r h 0 view.changelog.entries r.changesets
    (are-entries r (changeset_nodes r.changesets) 0 view.changelog.entries r.changesets (λ i low. ap (λ l. slice_index_or l i null_node) h.nodes_are ∙ ap (node_in r) (from_first i)) h.count)
  where
    from_first : (i : ℕ) → i ≡ 0 + i
    from_first i = omega arith

-- ---- working parents

pub working-same : (view : View) (r : Repo) (o : Option ℕ) → Has view r → IfSome o (λ rev. rev < length r.changesets) → reader_shown.parent_shown view.changelog.entries o ≡ working_line r o
working-same view r None h low = refl
working-same view r (Some rev) h low =
    let c = get-below r.changesets rev low in
    let e = entry-of view r rev c.0 h c.1 in
    ap (reader_shown.line_of_entry rev) e.there ∙ ap (λ node. decimal rev ++ 32 ∷ [] ++ hex node ++ 10 ∷ []) e.node_is

pub parents-same : (t : Tree) (view : View) (r : Repo) → IsRepo r → IsViewOf view t r → Has view r → reader_shown.parents_text view ≡ parents_text r
parents-same t view r is v h =
    let entries = view.changelog.entries in
    (λ i. reader_shown.parent_shown entries ((v.working i).0) ++ reader_shown.parent_shown entries ((v.working i).1))
    ∙ ap (λ l. l ++ reader_shown.parent_shown entries r.working.1) (working-same view r r.working.0 h is.first_working)
    ∙ ap (λ l. working_line r r.working.0 ++ l) (working-same view r r.working.1 h is.second_working)

-- ---- bookmarks

marks-from : (laws : Below) (view : View) (r : Repo) (h : Has view r) (marks : List Bookmark) → AllByRecursion (λ (m : Bookmark). m.rev < length r.changesets) marks
    → reader_shown.marks_shown view.changelog.entries (map (mark_of (changeset_nodes r.changesets)) marks) ≡ flat_map (bookmark_line r) marks
marks-from laws view r h [] low = refl
marks-from laws view r h (m ∷ marks) low =
    let known = changeset_nodes r.changesets in
    let entries = view.changelog.entries in
    let node = slice_index_or known m.rev null_node in
    let count : length known ≡ length r.changesets = sym (ap length h.nodes_are) ∙ length-nodes_of entries ∙ h.count in
    let few = low.0 in
    let place : place_of entries node ≡ Some m.rev = laws.place entries node ∙ ap (position (λ n. same n node)) h.nodes_are ∙ laws.first_place known m.rev h.different (omega (arith, few, count)) in
    ap (λ o. reader_shown.shown_mark (mark_of known m) o ++ reader_shown.marks_shown entries (map (mark_of known) marks)) place
    ∙ ap (λ l. bookmark_line r m ++ l) (marks-from laws view r h marks low.1)
  where
    length-nodes_of : (entries : List Entry) → length (nodes_of entries) ≡ length entries
    length-nodes_of [] = refl
    length-nodes_of (e ∷ entries) = ap suc (length-nodes_of entries)

pub bookmarks-same : (laws : Below) (t : Tree) (view : View) (r : Repo) → IsRepo r → IsViewOf view t r → Has view r → reader_shown.marks_text view ≡ bookmarks_text r
bookmarks-same laws t view r is v h = ap (reader_shown.marks_shown view.changelog.entries) v.bookmarks ∙ marks-from laws view r h r.bookmarks is.marks

-- ---- phases

word-of : (p : Phase) → phase_name p ≡ phase_word (phase_number p)
word-of Public = refl
word-of Draft = refl
word-of Secret = refl

pub phase-of : (view : View) (r : Repo) (rev : ℕ) → map phase_number view.phases ≡ r.phases → rev < length r.phases → (p : Phase) × (slice_get view.phases rev ≡ Some p) × (phase_name p ≡ phase_word (slice_index r.phases rev))
phase-of view r rev e low =
    let y = get-below r.phases rev low in
    let p = get-of-map phase_number view.phases rev y.0 (ap (λ l. slice_get l rev) e ∙ y.1) in
    (p.0, p.1, word-of p.0 ∙ ap phase_word (p.2 ∙ sym (index-there r.phases rev y.0 y.1)))
  where
    index-there : (xs : List ℕ) (rev x : ℕ) → slice_get xs rev ≡ Some x → slice_index xs rev ≡ x
    index-there [] rev x e = cc
    index-there (y ∷ xs) zero x e = ap (λ o. elim o [ None ↦ y | Some z ↦ z ]) e
    index-there (y ∷ xs) (suc rev) x e = index-there xs rev x e

-- ---- the line of a changeset whose text was read

-- the bytes that are read for it
abbrev chunk-read : Bool → Tree → ℕ → Entry → List ℕ
chunk-read false t rev e = unwrap_or (part_of t changelog_data e.offset e.stored) []
chunk-read true t rev e = unwrap_or (part_of t changelog_index (span_in true rev e).from e.stored) []

chunk-given : {A : Type 0} (inline : Bool) (t : Tree) (rev : ℕ) (o : Option Entry) (e : Entry) (given : List ℕ → Result A ReadAnswer) → o ≡ Some e → at_rest t (changeset_asks inline rev o given) ≡ given (chunk-read inline t rev e)
chunk-given false t rev o e given at = ap (λ x. at_rest t (changeset_asks false rev x given)) at
chunk-given true t rev o e given at = ap (λ x. at_rest t (changeset_asks true rev x given)) at

pub line-asked : (t : Tree) (view : View) (rev : ℕ) (e : Entry) (change : Change) → slice_get view.changelog.entries rev ≡ Some e → at_rest t (change_asks view rev) ≡ Ok change → at_rest t (line_asks view rev) ≡ Ok (line_text rev e change)
line-asked t view rev e change at reads =
    let inline = view.changelog.inline in
    let entry = slice_get view.changelog.entries rev in
    let chunk = chunk-read inline t rev e in
    chunk-given inline t rev entry e (line_at view rev) at
    ∙ ap (line_of_entry view rev chunk) at
    ∙ ap (line_of_change rev e) (sym (chunk-given inline t rev entry e (change_at view rev) at) ∙ reads)

tree-there : (changesets : List Changeset) (rev : ℕ) (c : Changeset) → slice_get changesets rev ≡ Some c → tree_at changesets rev ≡ c.tree
tree-there [] rev c e = cc
tree-there (d ∷ changesets) zero c e = ap (λ o. elim o [ None ↦ d.tree | Some z ↦ z.tree ]) e
tree-there (d ∷ changesets) (suc rev) c e = tree-there changesets rev c e

-- ---- bodies

found-in : (t : Tree) (view : View) (rev : ℕ) (path : List ℕ) (tree : List TreeFile) (rows : List Row) → AllZip (IsFileShown t view rev) tree rows → (among path (tree_paths tree) ≡ false → at_rest t (cat_asks view rev path) ≡ Err UnknownPath)
    → at_rest t (cat_asks view rev path) ≡ body_answer (option_map (λ (f : TreeFile). f.body) (find (λ (f : TreeFile). same f.path path) tree))
found-in t view rev path [] [] z other = other refl
found-in t view rev path [] (row ∷ rows) z other = absurd z
found-in t view rev path (f ∷ tree) [] z other = absurd z
found-in t view rev path (f ∷ tree) (row ∷ rows) z other = by (same f.path path) refl (λ o. found-in t view rev path tree rows z.1 o)
  where
    by : (b : Bool) → same f.path path ≡ b → ((among path (tree_paths tree) ≡ false → at_rest t (cat_asks view rev path) ≡ Err UnknownPath) → at_rest t (cat_asks view rev path) ≡ body_answer (option_map (λ (f : TreeFile). f.body) (find (λ (f : TreeFile). same f.path path) tree)))
        → at_rest t (cat_asks view rev path) ≡ body_answer (option_map (λ (f : TreeFile). f.body) (cond b (Some f) (find (λ (f : TreeFile). same f.path path) tree)))
    by true e rec = ap (λ p. at_rest t (cat_asks view rev p)) (sym (same-eq f.path path e)) ∙ z.0.body
    by false e rec = rec (λ none. other (ap (λ b. b || among path (tree_paths tree)) (flip e) ∙ none))
      where
        flip : same f.path path ≡ false → same path f.path ≡ false
        flip h = turn (same path f.path) refl
          where
            turn : (b : Bool) → same path f.path ≡ b → b ≡ false
            turn true g = sym (ap (λ p. same p path) (sym (same-eq path f.path g)) ∙ same-refl path) ∙ h
            turn false g = refl

pub opens : (laws : Below) (t : Tree) (r : Repo) → IsReadable t r → (view : View) × (at_rest t open_asks ≡ Ok view)
opens laws t r s = let o = shown laws t r s.stands s.opens in (o.0, o.1)

-- ---- the answers over files that stand for a repository

module _ (laws : Below) (t : Tree) (r : Repo) (view : View) (s : IsReadable t r) (answered : at_rest t open_asks ≡ Ok view) where
  view-of : IsViewOf view t r
  view-of =
      let o = shown laws t r s.stands s.opens in
      subst (λ v. IsViewOf v t r) (ok-is o.0 view (sym o.1 ∙ answered)) o.2
    where
      ok-is : (x y : View) → (let a : Result View ReadAnswer = Ok x in a) ≡ Ok y → x ≡ y
      ok-is x y e = cc

  is : IsRepo r
  is = s.stands.repository

  all : Has view r
  all = has laws t r view is view-of

  pub count-is : length view.changelog.entries ≡ length r.changesets
  count-is = all.count

  pub heads-are : reader_heads.heads_text view ≡ heads_text r
  heads-are = heads-same view r all

  pub parents-are : reader_shown.parents_text view ≡ parents_text r
  parents-are = parents-same t view r is view-of all

  pub bookmarks-are : reader_shown.marks_text view ≡ bookmarks_text r
  bookmarks-are = bookmarks-same laws t view r is view-of all

  pub names-are : (name : List ℕ) → named view name ≡ model_named r name
  names-are name = same-names laws t r view name s.stands view-of

  pub phase-is : (rev : ℕ) → rev < length r.changesets → (p : Phase) × (slice_get view.phases rev ≡ Some p) × (phase_name p ≡ phase_word (slice_index r.phases rev))
  phase-is rev low = phase-of view r rev view-of.phases (let n = is.phase_count in omega (arith, low, n))

  module _ (rev : ℕ) (c : Changeset) (found : slice_get r.changesets rev ≡ Some c) where
    contents-are : IsShown t view rev c
    contents-are = contents laws t r view rev c s.stands s.opens s.reads answered found

    loads-are : Loads t (history r.changesets).changelog view.changelog
    loads-are = loaded-view laws t r r r view (laws.shows t r s.stands) is is ([], sym (append-nil r.changesets)) s.opens answered

    pub line-is : at_rest t (line_asks view rev) ≡ Ok (log_line r rev c)
    line-is =
        let i = contents-are in
        let e = entry-of view r rev c all found in
        line-asked t view rev e.entry i.change e.there i.text
        ∙ ap (λ l. let a : Result (List ℕ) ReadAnswer = Ok l in a) (line-of t r view rev c i.change all found i.tells e)

    pub files-are : at_rest t (files_asks view rev) ≡ Ok (tree_text r rev (Some c))
    files-are = lines-of laws t r view rev c is (laws.shows t r s.stands).revlogs s.reads loads-are found

    pub body-is : (path : List ℕ) → at_rest t (cat_asks view rev path) ≡ body_answer (body_at r rev path)
    body-is path =
        let i = contents-are in
        found-in t view rev path c.tree i.rows i.files (i.others path)
        ∙ ap (λ tree. body_answer (option_map (λ (f : TreeFile). f.body) (find (λ (f : TreeFile). same f.path path) tree))) (sym (tree-there r.changesets rev c found))
