-- Files that differ from the sample's in one place.
use Rattle.std.proofs.Common.{◌≡◌, ◌⊎◌, ℕ, zero, suc, ◌<◌, List, [], ◌∷◌, Bool, true, false, ◌||◌, refl, sym, ◌∙◌, ap, subst, inl, inr}
use Rattle.std.specs.Prelude.{Option, Some, None, Result, Ok, Err, codes, replicate, slice_index}
use Rattle.std.specs.List.{AllByRecursion, list_all}
use Rattle.hex.specs.Hex.{encode_with}
use Rattle.sha1.specs.Sha1.{sha1, first_words, schedule, rounds, compress, hash_after, digest_bytes}
use Rattle.std.specs.Fmt.{digits}
use Rattle.hgs_bytes.specs.Bytes.{same, among}
use Rattle.hgs_bytes.specs.Text.{lines}
use Rattle.hgs_files.specs.Tree.{Tree}
use Rattle.hgs_index.specs.Node.{IsNode, null_node}
use Rattle.hgs_journal.specs.Names.{journal_path}
use Rattle.hgs_marks.specs.Bookmarks.{Mark, bookmarks_text, mark_lines}
use Rattle.hgs_marks.specs.Dirstate.{Dirstate, dirstate_text, read_dirstate}
use Rattle.hgs_marks.specs.declared.fault.MarkFault.{MarkFault}
use Rattle.hgs_model.specs.declared.phase.Phase.TheVariants.{Draft, Public}
use Rattle.hgs_model.specs.History.{changeset_nodes, uses}
use Rattle.hgs_path.specs.declared.fncache.FncacheFault.{FncacheFault}
use Rattle.hgs_path.specs.declared.name.Ext.{Ext}
use Rattle.hgs_path.specs.declared.name.Ext.TheVariants.{I, D}
use Rattle.hgs_path.specs.Fncache.{lists}
use Rattle.hgs_path.specs.StoreName.{listed_name, store_name}
use Rattle.hgs_phases.specs.declared.fault.RootsFault.{RootsFault}
use Rattle.hgs_phases.specs.declared.roots.Root.{Root}
use Rattle.hgs_phases.specs.Roots.{roots_text}
use Rattle.hgs_stands.specs.Places.{bookmarks_path, fncache_path, requires_path, roots_path}
use Rattle.hgs_stands.specs.Requires.{needed, profile, words_of}
use Rattle.hgs_stands.specs.Same.{SameAt}
use Rattle.hgs_stands.specs.Samples.{other_node, sample_names, sample_node, sample_words, tracking, two_drafts, two_drafts_files, with_bytes}
use Rattle.hgs_stands.specs.Stands.{IsClean, IsUsedName, Stands}
use Rattle.hgs_stands.proofs.SampleLemmas.{ascii, first-bytes, first_node, lines-read, listed-in, roots-read, sample-stands, sample_roots, small, used-path}
use Rattle.hgs_stands.specs.Theorems.StayLemmas.{revlogs-stay}
use Rattle.hgs_stands.specs.Theorems.Basics.{never, some-same}
use Rattle.hgs_stands.specs.Theorems.Below.{SampleLaws}

-- ---- what may differ

abbrev SameAtFour : Tree → Type 0
SameAtFour t = SameAt two_drafts_files t (store_name (codes "a") I) × SameAt two_drafts_files t (store_name (codes "a") D) × SameAt two_drafts_files t (store_name (codes "b") I) × SameAt two_drafts_files t (store_name (codes "b") D)

filelogs-same : (t : Tree) → SameAtFour t → (path : List ℕ) (ext : Ext) → uses two_drafts.changesets path ≡ true → SameAt two_drafts_files t (store_name path ext)
filelogs-same t four path ext used = by (used-path path used) ext
  where
    by : (path ≡ codes "a") ⊎ (path ≡ codes "b") → (x : Ext) → SameAt two_drafts_files t (store_name path x)
    by (inl e) I = subst (λ p. SameAt two_drafts_files t (store_name p I)) (sym e) four.0
    by (inl e) D = subst (λ p. SameAt two_drafts_files t (store_name p D)) (sym e) four.1
    by (inr e) I = subst (λ p. SameAt two_drafts_files t (store_name p I)) (sym e) four.2
    by (inr e) D = subst (λ p. SameAt two_drafts_files t (store_name p D)) (sym e) four.3

either-order : (path : List ℕ) → among path (codes "b" ∷ codes "a" ∷ codes "b" ∷ []) ≡ among path (codes "a" ∷ codes "b" ∷ [])
either-order path = by (same path (codes "a")) (same path (codes "b"))
  where
    by : (a b : Bool) → (b || (a || (b || false))) ≡ (a || (b || false))
    by true true = refl
    by true false = refl
    by false true = refl
    by false false = refl

pub tracked-stands : (laws : SampleLaws) → Stands (tracking (codes "b" ∷ codes "a" ∷ codes "b" ∷ [])) two_drafts
unfolding encode_with sha1 first_words schedule rounds compress hash_after digest_bytes digits
tracked-stands laws =
    let t = tracking (codes "b" ∷ codes "a" ∷ codes "b" ∷ []) in
    record {
      repository = (sample-stands laws).repository;
      requires = record { text = _; there = refl; known = refl; whole = refl };
      revlogs = revlogs-stay two_drafts_files t two_drafts.changesets (record { changelog = refl; changelog_chunks = refl; manifest = refl; manifest_chunks = refl; filelogs = filelogs-same t (refl, refl, refl, refl) }) (sample-stands laws).revlogs;
      fncache = record { names = sample_names; text = refl; listed = λ path ext used has. listed-in path ext used; used = (inr (codes "a", I, refl, refl), (inr (codes "a", D, refl, refl), (inr (codes "b", I, refl, refl), (inr (codes "b", D, refl, refl), tt)))) };
      phases = record { roots = sample_roots; text = roots-read laws; known = refl; phases = refl };
      bookmarks = record { lines = record { name = codes "main"; node = first_node } ∷ []; text = lines-read laws; known = refl; marks = refl };
      dirstate = record { dirstate = record { p1 = sample_node 1; p2 = null_node; paths = codes "b" ∷ codes "a" ∷ codes "b" ∷ [] }; text = refl; first = refl; second = refl; paths = either-order };
      no_journal = refl;
    }

abbrev longer_names : List (List ℕ)
longer_names = codes "data/c.i" ∷ sample_names

longer-lists : (path : List ℕ) (ext : Ext) → uses two_drafts.changesets path ≡ true → lists longer_names path ext ≡ true
longer-lists path ext used = by (same (listed_name path ext) (codes "data/c.i")) (listed-in path ext used)
  where
    by : (b : Bool) → lists sample_names path ext ≡ true → (b || lists sample_names path ext) ≡ true
    by true e = refl
    by false e = e

pub listed-stands : (laws : SampleLaws) → Stands (with_bytes (with_bytes two_drafts_files fncache_path (lines longer_names)) (codes "store/data/c.i") []) two_drafts
unfolding encode_with sha1 first_words schedule rounds compress hash_after digest_bytes digits
listed-stands laws =
    let t = with_bytes (with_bytes two_drafts_files fncache_path (lines longer_names)) (codes "store/data/c.i") [] in
    record {
      repository = (sample-stands laws).repository;
      requires = record { text = _; there = refl; known = refl; whole = refl };
      revlogs = revlogs-stay two_drafts_files t two_drafts.changesets (record { changelog = refl; changelog_chunks = refl; manifest = refl; manifest_chunks = refl; filelogs = filelogs-same t (refl, refl, refl, refl) }) (sample-stands laws).revlogs;
      fncache = record { names = longer_names; text = refl; listed = λ path ext used has. longer-lists path ext used; used = (inl refl, (inr (codes "a", I, refl, refl), (inr (codes "a", D, refl, refl), (inr (codes "b", I, refl, refl), (inr (codes "b", D, refl, refl), tt))))) };
      phases = record { roots = sample_roots; text = roots-read laws; known = refl; phases = refl };
      bookmarks = record { lines = record { name = codes "main"; node = first_node } ∷ []; text = lines-read laws; known = refl; marks = refl };
      dirstate = record { dirstate = record { p1 = sample_node 1; p2 = null_node; paths = codes "a" ∷ codes "b" ∷ [] }; text = refl; first = refl; second = refl; paths = λ path. refl };
      no_journal = refl;
    }

-- ---- what may not

pub journal-is-none : Stands (with_bytes two_drafts_files journal_path []) two_drafts → ⊥
journal-is-none s = no s.no_journal
  where
    no : (let file : Option (List ℕ) = Some [] in file) ≡ None → ⊥
    no h = cc

pub locked : IsClean (with_bytes two_drafts_files (codes "store/lock") []) two_drafts → ⊥
locked s = no s.no_locks.1.0
  where
    no : (let file : Option (List ℕ) = Some [] in file) ≡ None → ⊥
    no h = cc

pub foreign-word : Stands (with_bytes two_drafts_files requires_path (lines (codes "treemanifest" ∷ sample_words))) two_drafts → ⊥
foreign-word s =
    let text : lines (codes "treemanifest" ∷ sample_words) ≡ s.requires.text = some-same [] (lines (codes "treemanifest" ∷ sample_words)) s.requires.text s.requires.there in
    never (sym (ap (λ x. list_all (λ word. among word profile) (words_of x)) text ∙ s.requires.known))

pub lacking-word : Stands (with_bytes two_drafts_files requires_path (codes "fncache\nrevlogv1\nstore\n")) two_drafts → ⊥
lacking-word s =
    let text : codes "fncache\nrevlogv1\nstore\n" ≡ s.requires.text = some-same [] (codes "fncache\nrevlogv1\nstore\n") s.requires.text s.requires.there in
    never (sym (ap (λ x. list_all (λ word. among word (words_of x)) needed) text ∙ s.requires.whole))

names-are : (x y : List (List ℕ)) → ◌≡◌ {A = Result (List (List ℕ)) FncacheFault} (Ok x) (Ok y) → x ≡ y
names-are x y e = ap (elim [ Ok z ↦ z | Err f ↦ x ]) e

pub unlisted : Stands (with_bytes two_drafts_files fncache_path (codes "data/a.i\ndata/a.d\ndata/b.i\n")) two_drafts → ⊥
unlisted s =
    let names : codes "data/a.i" ∷ codes "data/a.d" ∷ codes "data/b.i" ∷ [] ≡ s.fncache.names = names-are (codes "data/a.i" ∷ codes "data/a.d" ∷ codes "data/b.i" ∷ []) s.fncache.names s.fncache.text in
    never (sym (ap (λ x. lists x (codes "b") D) names ∙ s.fncache.listed (codes "b") D refl refl))

pub foreign-file : Stands (with_bytes (with_bytes two_drafts_files fncache_path (lines longer_names)) (codes "store/data/c.i") (zero ∷ [])) two_drafts → ⊥
foreign-file s = by (subst (AllByRecursion (IsUsedName t two_drafts.changesets)) (sym (names-are longer_names s.fncache.names s.fncache.text)) s.fncache.used).0
  where
    t : Tree
    t = with_bytes (with_bytes two_drafts_files fncache_path (lines longer_names)) (codes "store/data/c.i") (zero ∷ [])

    some-byte : zero ∷ [] ≡ [] → ⊥
    some-byte h = cc

    other : (path : List ℕ) (x : Ext) → (path ≡ codes "a") ⊎ (path ≡ codes "b") → listed_name path x ≡ codes "data/c.i" → ⊥
    other path I (inl e) h = never (sym (ap (λ p. same (listed_name p I) (codes "data/c.i")) (sym e) ∙ ap (λ l. same l (codes "data/c.i")) h))
    other path D (inl e) h = never (sym (ap (λ p. same (listed_name p D) (codes "data/c.i")) (sym e) ∙ ap (λ l. same l (codes "data/c.i")) h))
    other path I (inr e) h = never (sym (ap (λ p. same (listed_name p I) (codes "data/c.i")) (sym e) ∙ ap (λ l. same l (codes "data/c.i")) h))
    other path D (inr e) h = never (sym (ap (λ p. same (listed_name p D) (codes "data/c.i")) (sym e) ∙ ap (λ l. same l (codes "data/c.i")) h))

    by : IsUsedName t two_drafts.changesets (codes "data/c.i") → ⊥
    by (inl e) = some-byte e
    by (inr u) = other u.0 u.1 (used-path u.0 u.2) u.3

dirstate-is : (x y : Dirstate) → ◌≡◌ {A = Result Dirstate MarkFault} (Ok x) (Ok y) → x ≡ y
dirstate-is x y e = ap (elim [ Ok z ↦ z | Err f ↦ x ]) e

abbrev sample_dirstate : List (List ℕ) → Dirstate
sample_dirstate paths = record { p1 = sample_node 1; p2 = null_node; paths = paths }

one-read : read_dirstate (dirstate_text (sample_dirstate (codes "a" ∷ []))) ≡ Ok (sample_dirstate (codes "a" ∷ []))
unfolding encode_with sha1 first_words schedule rounds compress hash_after digest_bytes digits
one-read = refl

three-read : read_dirstate (dirstate_text (sample_dirstate (codes "a" ∷ codes "b" ∷ codes "c" ∷ []))) ≡ Ok (sample_dirstate (codes "a" ∷ codes "b" ∷ codes "c" ∷ []))
unfolding encode_with sha1 first_words schedule rounds compress hash_after digest_bytes digits
three-read = refl

pub untracked : Stands (tracking (codes "a" ∷ [])) two_drafts → ⊥
untracked s =
    let is : sample_dirstate (codes "a" ∷ []) ≡ s.dirstate.dirstate = dirstate-is (sample_dirstate (codes "a" ∷ [])) s.dirstate.dirstate (sym one-read ∙ s.dirstate.text) in
    never (sym (ap (λ (d : Dirstate). among (codes "b") d.paths) is ∙ s.dirstate.paths (codes "b")))

pub tracked-too-many : Stands (tracking (codes "a" ∷ codes "b" ∷ codes "c" ∷ [])) two_drafts → ⊥
tracked-too-many s =
    let is : sample_dirstate (codes "a" ∷ codes "b" ∷ codes "c" ∷ []) ≡ s.dirstate.dirstate = dirstate-is (sample_dirstate (codes "a" ∷ codes "b" ∷ codes "c" ∷ [])) s.dirstate.dirstate (sym three-read ∙ s.dirstate.text) in
    never (ap (λ (d : Dirstate). among (codes "c") d.paths) is ∙ s.dirstate.paths (codes "c"))

-- ---- nodes that are not known

other-node : IsNode other_node
other-node = record { size = refl; bytes = λ i. at 20 i }
  where
    at : (n i : ℕ) → slice_index (replicate n 17) i < 256
    at zero i = small 0 256 refl
    at (suc n) zero = small 17 256 refl
    at (suc n) (suc i) = at n i

abbrev two_roots : List Root
two_roots = record { phase = Draft; node = record { 0 = sample_node 0 } } ∷ record { phase = Public; node = record { 0 = other_node } } ∷ []

roots-are : (x y : List Root) → ◌≡◌ {A = Result (List Root) RootsFault} (Ok x) (Ok y) → x ≡ y
roots-are x y e = ap (elim [ Ok z ↦ z | Err f ↦ x ]) e

not-known : list_all (λ (root : Root). among root.node.0 (changeset_nodes two_drafts.changesets)) two_roots ≡ false
unfolding encode_with sha1 first_words schedule rounds compress hash_after digest_bytes digits
not-known = refl

pub unknown-root : (laws : SampleLaws) → Stands (with_bytes two_drafts_files roots_path (roots_text two_roots)) two_drafts → ⊥
unknown-root laws s =
    let is : two_roots ≡ s.phases.roots = roots-are two_roots s.phases.roots (sym ((laws.roots two_roots (roots_text two_roots)).1 ((first-bytes laws, (other-node, tt)), inl refl)) ∙ s.phases.text) in
    never (sym s.phases.known ∙ sym (ap (λ x. list_all (λ (root : Root). among root.node.0 (changeset_nodes two_drafts.changesets)) x) is) ∙ not-known)

abbrev two_lines : List Mark
two_lines = record { name = codes "main"; node = other_node } ∷ record { name = codes "main"; node = sample_node 0 } ∷ []

lines-are : (x y : List Mark) → ◌≡◌ {A = Result (List Mark) MarkFault} (Ok x) (Ok y) → x ≡ y
lines-are x y e = ap (elim [ Ok z ↦ z | Err f ↦ x ]) e

line-not-known : list_all (λ (m : Mark). among m.node (changeset_nodes two_drafts.changesets)) two_lines ≡ false
unfolding encode_with sha1 first_words schedule rounds compress hash_after digest_bytes digits
line-not-known = refl

pub unknown-mark : (laws : SampleLaws) → Stands (with_bytes two_drafts_files bookmarks_path (bookmarks_text two_lines)) two_drafts → ⊥
unknown-mark laws s =
    let read : mark_lines (bookmarks_text two_lines) ≡ Ok two_lines = laws.lines two_lines (record { named = ascii (codes "main") refl; node = other-node }, (record { named = ascii (codes "main") refl; node = first-bytes laws }, tt)) in
    let is : two_lines ≡ s.bookmarks.lines = lines-are two_lines s.bookmarks.lines (sym read ∙ s.bookmarks.text) in
    never (sym s.bookmarks.known ∙ sym (ap (λ x. list_all (λ (m : Mark). among m.node (changeset_nodes two_drafts.changesets)) x) is) ∙ line-not-known)
