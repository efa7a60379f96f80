-- One transaction that does what two do one after another.
use Rattle.std.proofs.Common.{◌≡◌, ◌⊎◌, ℕ, ◌+◌, List, [], ◌∷◌, ◌++◌, Bool, true, false, ◌||◌, length, drop, refl, sym, ◌∙◌, ap, subst, inl, inr, append-nil, append_assoc}
use Rattle.std.specs.Prelude.{Result, Ok, Err, flat_map}
use Rattle.hgs_bytes.specs.Bytes.{IsPrefixOf, among}
use Rattle.hgs_files.specs.declared.op.Op.TheVariants.{Append}
use Rattle.hgs_files.specs.Tree.{Tree, bytes_at}
use Rattle.hgs_index.specs.Either.{chunk_bytes}
use Rattle.hgs_index.specs.Inline.{is_inline}
use Rattle.hgs_index.specs.Revision.{Revision}
use Rattle.hgs_index.specs.Revlog.{Holds}
use Rattle.hgs_index.specs.Theorems.EitherLemmas.{held-form, separate-holds}
use Rattle.hgs_model.specs.History.{History, history, in_order, no_history, uses}
use Rattle.hgs_model.specs.Repo.{Changeset, Repo, tree_paths}
use Rattle.hgs_model.specs.Theorems.CountLemmas.{unused-from}
use Rattle.hgs_model.specs.Theorems.HistoryLemmas.{Extends, history_from-append, history_from-extends}
use Rattle.hgs_path.specs.declared.name.Ext.{Ext}
use Rattle.hgs_path.specs.declared.name.Ext.TheVariants.{I, D}
use Rattle.hgs_path.specs.Fncache.{clashes}
use Rattle.hgs_path.specs.ListedNames.{names_of}
use Rattle.hgs_path.specs.StoreName.{listed_name, store_name}
use Rattle.hgs_stands.specs.Places.{changelog_data, changelog_index, fncache_path, manifest_data, manifest_index}
use Rattle.hgs_stands.specs.Stands.{HoldsAt, listed_file}
use Rattle.hgs_ops.specs.Growth.{begins_inline, growing_chunks, growth, grows_inline, is_part, new_changelog_entry, new_data, new_entries, new_items, new_names, new_paths}
use Rattle.hgs_ops.specs.Replaced.{roots_of}
use Rattle.hgs_ops.specs.Unhindered.{HavePlaces, IsUnhindered}
use Rattle.hgs_ops.specs.Theorems.CommitTree.{CommitLeaves}
use Rattle.hgs_ops.specs.Theorems.FileGrowth.{AreOthers, added, form}
use Rattle.hgs_ops.specs.Theorems.GrowLemmas.{drop-front, none-held}
use Rattle.hgs_ops.specs.Theorems.NameLines.{among-left}
use Rattle.hgs_ops.specs.Theorems.StandsCommit.{GrowthFacts, among-in_order, among-trees, changelog-data-bytes, changelog-fits, changelog-index-bytes, changelog-separate, clashes-flip, extends, file-data-bytes, file-fits, file-index-bytes, file-old, file-stays, filelog-stands, fncache-text, grown-held, manifest-data-bytes, manifest-fits, manifest-index-bytes, manifest-separate, old-held, others-from, paths-used, uses-joined, uses-next}
use Rattle.hgs_ops.specs.Theorems.StepwiseLemmas.{SameBehind, behind-at, chunk_sum, fresh-two, places-two, same-behind}
use Rattle.hgs_ops.specs.Theorems.Touch.{bool, never, or-left, or-right}

-- ---- two repositories of which one goes on from the other

among-new : (r next : Repo) (more : IsPrefixOf r.changesets next.changesets) (p : List ℕ) → among p (new_paths r next) ≡ uses more.0 p
among-new r next more p =
    ap (λ (l : List Changeset). among p (in_order (flat_map (λ x. tree_paths x.tree) l))) (ap (drop (length r.changesets)) more.1 ∙ drop-front r.changesets more.0)
    ∙ among-in_order p (flat_map (λ x. tree_paths x.tree) more.0) ∙ among-trees p more.0

goes-extends : (r next : Repo) → IsPrefixOf r.changesets next.changesets → Extends (history r.changesets) (history next.changesets)
goes-extends r next more = subst (Extends (history r.changesets)) (sym (ap history more.1 ∙ history_from-append no_history r.changesets more.0)) (history_from-extends (history r.changesets) more.0)

or-cases : (a b : Bool) → (a || b) ≡ true → (a ≡ true) ⊎ ((a ≡ false) × (b ≡ true))
or-cases true b e = inl refl
or-cases false b e = inr (refl, e)

no-front : (xs : List Revision) (ys : List Revision) → IsPrefixOf xs ys → ys ≡ [] → xs ≡ []
no-front [] ys p e = refl
no-front (x ∷ xs) ys p e = no (sym e ∙ p.1)
  where
    no : {A : Type 0} → [] ≡ (x ∷ xs) ++ p.0 → A
    no h = cc

-- a filelog that has revisions keeps the form in which it began
forms-same : (index : List ℕ) (old mid all : List Revision) (x : Revision) (log : List Revision) → mid ≡ x ∷ log → IsPrefixOf mid all → grows_inline index old all ≡ grows_inline index old mid
forms-same index [] mid all x log e p = ap begins_inline (p.1 ∙ ap (λ l. l ++ p.0) e) ∙ ap begins_inline (sym e)
forms-same index (y ∷ old) mid all x log e p = refl

form-of-held : (inline : Bool) (index data_bytes : List ℕ) (mid all : List Revision) (x : Revision) (log : List Revision) → mid ≡ x ∷ log → Holds inline index data_bytes mid → grows_inline index mid all ≡ inline
form-of-held inline index data_bytes mid all x log e held =
    ap (λ l. grows_inline index l all) e ∙ ap is_inline (sym (append-nil index)) ∙ held-form inline index data_bytes [] x log (subst (Holds inline index data_bytes) e held)

ok-same : (a b : List (List ℕ)) {E : Type 0} (o : Result (List (List ℕ)) E) → o ≡ Ok a → o ≡ Ok b → a ≡ b
ok-same a b o e g = ap (λ x. elim x [ Ok z ↦ z | Err w ↦ a ]) (sym e ∙ g)

-- ---- two transactions

module _ (t : Tree) (r mid next : Repo) (a : GrowthFacts t r mid) (u : Tree) (rc bk : Bool) (dirstate marks : List ℕ)
    (leaves : CommitLeaves t u rc bk (roots_of mid) dirstate marks (growth t r mid) (Append changelog_index (new_changelog_entry t r mid))) (b : GrowthFacts u mid next) where
  abbrev h : History
  h = history r.changesets

  abbrev m : History
  m = history mid.changesets

  abbrev k : History
  k = history next.changesets

  -- the paths of the first and of the second
  abbrev paths : List (List ℕ)
  paths = new_paths r mid

  abbrev more_paths : List (List ℕ)
  more_paths = new_paths mid next

  abbrev pub whole : IsPrefixOf r.changesets next.changesets
  whole = (a.goes_on.0 ++ b.goes_on.0, b.goes_on.1 ∙ ap (λ l. l ++ b.goes_on.0) a.goes_on.1 ∙ append_assoc r.changesets a.goes_on.0 b.goes_on.0)

  abbrev first : Extends h m
  first = extends t r mid a u rc bk dirstate marks leaves

  abbrev second : Extends m k
  second = goes-extends mid next b.goes_on

  among-whole : (p : List ℕ) → among p (new_paths r next) ≡ (among p paths || among p more_paths)
  among-whole p = among-new r next whole p ∙ uses-joined a.goes_on.0 b.goes_on.0 p ∙ (λ i. sym (among-new r mid a.goes_on p) i || sym (among-new mid next b.goes_on p) i)

  pub in-one : (p : List ℕ) → among p (new_paths r next) ≡ true → (among p paths ≡ true) ⊎ ((among p paths ≡ false) × (among p more_paths ≡ true))
  in-one p e = or-cases (among p paths) (among p more_paths) (sym (among-whole p) ∙ e)

  uses-mid : (p : List ℕ) → uses mid.changesets p ≡ (uses r.changesets p || among p paths)
  uses-mid = uses-next t r mid a u rc bk dirstate marks leaves

  uses-last : (p : List ℕ) → uses next.changesets p ≡ (uses mid.changesets p || among p more_paths)
  uses-last p = ap (λ (l : List Changeset). uses l p) b.goes_on.1 ∙ uses-joined mid.changesets b.goes_on.0 p ∙ ap (λ z. uses mid.changesets p || z) (sym (among-new mid next b.goes_on p))

  used-first : (p : List ℕ) → among p paths ≡ true → uses mid.changesets p ≡ true
  used-first = paths-used t r mid a u rc bk dirstate marks leaves

  used-second : (p : List ℕ) → among p more_paths ≡ true → uses next.changesets p ≡ true
  used-second p e = uses-last p ∙ ap (λ z. uses mid.changesets p || z) e ∙ or-true (uses mid.changesets p)
    where
      or-true : (x : Bool) → (x || true) ≡ true
      or-true true = refl
      or-true false = refl

  used-later : (p : List ℕ) → uses mid.changesets p ≡ true → uses next.changesets p ≡ true
  used-later p e = uses-last p ∙ ap (λ z. z || among p more_paths) e

  -- a path of the second has store names of its own
  pub apart : (q : List ℕ) → among q more_paths ≡ true → AreOthers q paths
  apart q e = others-from q paths (λ o g. clashes-flip q o (b.un.names q o e (used-later o (used-first o g))))

  -- ---- names

  pub names-two : (p other : List ℕ) → among p (new_paths r next) ≡ true → uses next.changesets other ≡ true → clashes p other ≡ false
  names-two p other e used = elim (in-one p e) [
    | inr g ↦ b.un.names p other g.1 used
    | inl g ↦ elim (bool (among other more_paths)) [
      | inl w ↦ clashes-flip other p (b.un.names other p w (used-later p (used-first p g)))
      | inr w ↦ a.un.names p other g (or-out (uses mid.changesets other) (among other more_paths) w (sym (uses-last other) ∙ used))
    ]
  ]
    where
      or-out : (x y : Bool) → y ≡ false → (x || y) ≡ true → x ≡ true
      or-out true y z w = refl
      or-out false y z w = never (sym w ∙ z)

  pub listed-two : (names : List (List ℕ)) → names_of (bytes_at t fncache_path) ≡ Ok names → (name path : List ℕ) (ext : Ext) → among name names ≡ true → among path (new_paths r next) ≡ true → listed_file name ≡ store_name path ext → listed_name path ext ≡ name
  listed-two names e name path ext has of is = elim (in-one path of) [
    | inl g ↦ a.un.listed names e name path ext has g is
    | inr g ↦ b.un.listed (a.stands.fncache.names ++ new_names h.filelog m.filelog paths) (fncache-text t r mid a u rc bk dirstate marks leaves) name path ext
        (among-left name a.stands.fncache.names (new_names h.filelog m.filelog paths) (ap (among name) (ok-same a.stands.fncache.names names (names_of (bytes_at t fncache_path)) a.stands.fncache.text e) ∙ has)) g.1 is
  ]

  -- ---- the two revlogs that are always there

  changelog-at : length (bytes_at u changelog_data) ≡ length (bytes_at t changelog_data) + chunk_sum first.changelog.0
  changelog-at =
      ap length (changelog-data-bytes t r mid a u rc bk dirstate marks leaves)
      ∙ behind-at false (bytes_at t changelog_index) (bytes_at t changelog_data) h.changelog m.changelog first.changelog.0 first.changelog.1 (changelog-separate t r mid a u rc bk dirstate marks leaves)
      (changelog-fits t r mid a u rc bk dirstate marks leaves) a.un.changelog.different a.un.changelog.not_null

  manifest-at : length (bytes_at u manifest_data) ≡ length (bytes_at t manifest_data) + chunk_sum first.manifest.0
  manifest-at =
      ap length (manifest-data-bytes t r mid a u rc bk dirstate marks leaves)
      ∙ behind-at false (bytes_at t manifest_index) (bytes_at t manifest_data) h.manifest m.manifest first.manifest.0 first.manifest.1 (manifest-separate t r mid a u rc bk dirstate marks leaves)
      (manifest-fits t r mid a u rc bk dirstate marks leaves) a.un.manifest.different a.un.manifest.not_null

  -- ---- a filelog

  -- What the second finds of a filelog: what the first found, or what it left.
  abbrev SameFound : List ℕ → Type 0
  SameFound q = (m.filelog q ≡ h.filelog q) × (bytes_at u (store_name q I) ≡ bytes_at t (store_name q I)) × (bytes_at u (store_name q D) ≡ bytes_at t (store_name q D))

  not-first : (q : List ℕ) → among q more_paths ≡ true → among q paths ≡ false → SameFound q
  not-first q e g = (
    file-old t r mid a u rc bk dirstate marks leaves q g,
    file-stays t r mid a u rc bk dirstate marks leaves q (apart q e) g I,
    file-stays t r mid a u rc bk dirstate marks leaves q (apart q e) g D,
  )

  -- a filelog that the first left without a revision has no bytes before and behind
  no-bytes : (q : List ℕ) → among q paths ≡ true → m.filelog q ≡ [] → (bytes_at t (store_name q I) ≡ []) × (bytes_at t (store_name q D) ≡ []) × (bytes_at u (store_name q I) ≡ []) × (bytes_at u (store_name q D) ≡ [])
  no-bytes q e none =
      let old = no-front (h.filelog q) (m.filelog q) (first.filelogs q) none in
      let plain : form t h.filelog m.filelog q ≡ false = ap (λ l. grows_inline (bytes_at t (store_name q I)) l (m.filelog q)) old ∙ ap begins_inline none in
      let held : Holds false (bytes_at t (store_name q I)) (bytes_at t (store_name q D)) [] =
      subst (λ f. Holds f (bytes_at t (store_name q I)) (bytes_at t (store_name q D)) []) plain
      (subst (Holds (form t h.filelog m.filelog q) (bytes_at t (store_name q I)) (bytes_at t (store_name q D))) old (old-held t r mid a u rc bk dirstate marks leaves q e)) in
      let before = none-held (bytes_at t (store_name q I)) (bytes_at t (store_name q D)) (separate-holds _ _ [] held) in
      let behind = none-held (bytes_at u (store_name q I)) (bytes_at u (store_name q D)) (subst (HoldsAt u (store_name q I) (store_name q D)) none (filelog-stands t r mid a u rc bk dirstate marks leaves q (used-first q e))) in
      (before.0, before.1, behind.0, behind.1)

  -- so the second finds it as the first did
  left-empty : (q : List ℕ) → among q paths ≡ true → m.filelog q ≡ [] → SameFound q
  left-empty q e none =
      let n = no-bytes q e none in
      (none ∙ sym (no-front (h.filelog q) (m.filelog q) (first.filelogs q) none), n.2 ∙ sym n.0, n.3 ∙ sym n.1)

  places-found : (q : List ℕ) → among q more_paths ≡ true → SameFound q → HavePlaces (length (growing_chunks t q (h.filelog q) (k.filelog q))) (h.filelog q) (k.filelog q)
  places-found q e s =
      subst (λ (l : List Revision). HavePlaces (length (growing_chunks t q l (k.filelog q))) l (k.filelog q)) s.0
      (subst (λ n. HavePlaces n (m.filelog q) (k.filelog q)) (λ i. length (chunk_bytes (grows_inline (s.1 i) (m.filelog q) (k.filelog q)) (s.1 i) (s.2 i))) (b.un.room.filelogs q e))

  places-grown : (q : List ℕ) → among q paths ≡ true → among q more_paths ≡ true → (x : Revision) (log : List Revision) → m.filelog q ≡ x ∷ log → HavePlaces (length (growing_chunks t q (h.filelog q) (k.filelog q))) (h.filelog q) (k.filelog q)
  places-grown q e g x log some =
      let shape = forms-same (bytes_at t (store_name q I)) (h.filelog q) (m.filelog q) (k.filelog q) x log some (second.filelogs q) in
      let kept = form-of-held (form t h.filelog m.filelog q) (bytes_at u (store_name q I)) (bytes_at u (store_name q D)) (m.filelog q) (k.filelog q) x log some (grown-held t r mid a u rc bk dirstate marks leaves q (used-first q e) e) in
      let at = behind-at (form t h.filelog m.filelog q) (bytes_at t (store_name q I)) (bytes_at t (store_name q D)) (h.filelog q) (m.filelog q) (first.filelogs q).0 (first.filelogs q).1 (old-held t r mid a u rc bk dirstate marks leaves q e)
      (file-fits t r mid a u rc bk dirstate marks leaves q e) (a.un.filelogs q).different (a.un.filelogs q).not_null in
      subst (λ f. HavePlaces (length (chunk_bytes f (bytes_at t (store_name q I)) (bytes_at t (store_name q D)))) (h.filelog q) (k.filelog q)) (sym shape)
      (places-two (h.filelog q) (m.filelog q) (k.filelog q) (first.filelogs q).0 (second.filelogs q).0 (first.filelogs q).1 (second.filelogs q).1
      (length (chunk_bytes (form t h.filelog m.filelog q) (bytes_at t (store_name q I)) (bytes_at t (store_name q D)))) (length (growing_chunks u q (m.filelog q) (k.filelog q)))
      ((λ i. length (chunk_bytes (kept i) (file-index-bytes t r mid a u rc bk dirstate marks leaves q (used-first q e) e i) (file-data-bytes t r mid a u rc bk dirstate marks leaves q (used-first q e) e i))) ∙ at)
      (a.un.room.filelogs q e) (b.un.room.filelogs q g))

  -- the filelog of a path that the second does not use
  file-last : (q : List ℕ) → among q more_paths ≡ false → m.filelog q ≡ k.filelog q
  file-last q e = sym (ap (λ (x : History). x.filelog q) (ap history b.goes_on.1 ∙ history_from-append no_history mid.changesets b.goes_on.0) ∙ unused-from m b.goes_on.0 q (sym (among-new mid next b.goes_on q) ∙ e))

  some-or : (log : List Revision) → (log ≡ []) ⊎ ((x : Revision) × (more : List Revision) × (log ≡ x ∷ more))
  some-or [] = inl refl
  some-or (x ∷ more) = inr (x, more, refl)

  pub places-file : (q : List ℕ) → among q (new_paths r next) ≡ true → HavePlaces (length (growing_chunks t q (h.filelog q) (k.filelog q))) (h.filelog q) (k.filelog q)
  places-file q e = elim (in-one q e) [
    | inr g ↦ places-found q g.1 (not-first q g.1 g.0)
    | inl g ↦ elim (bool (among q more_paths)) [
      | inr w ↦ subst (λ l. HavePlaces (length (growing_chunks t q (h.filelog q) l)) (h.filelog q) l) (file-last q w) (a.un.room.filelogs q g)
      | inl w ↦ elim (some-or (m.filelog q)) [
        | inl none ↦ places-found q w (left-empty q g none)
        | inr (x, log, some) ↦ places-grown q g w x log some
      ]
    ]
  ]

  -- ---- the files of a filelog that is new

  pub free-two : (q : List ℕ) (ext : Ext) → among q (new_paths r next) ≡ true → uses r.changesets q ≡ false → is_part (begins_inline (k.filelog q)) ext ≡ true → bytes_at t (store_name q ext) ≡ []
  free-two q ext e unused is = elim (in-one q e) [
    | inr g ↦ sym (found ext (not-first q g.1 g.0)) ∙ b.un.free q ext g.1 (uses-mid q ∙ (λ i. unused i || g.0 i)) is
    | inl g ↦ elim (some-or (m.filelog q)) [
      | inl none ↦ no-file ext (no-bytes q g none)
      | inr (x, log, some) ↦ a.un.free q ext g unused (ap (λ z. is_part z ext) (ap begins_inline some ∙ sym (ap begins_inline ((second.filelogs q).1 ∙ ap (λ l. l ++ (second.filelogs q).0) some))) ∙ is)
    ]
  ]
    where
      found : (y : Ext) → SameFound q → bytes_at u (store_name q y) ≡ bytes_at t (store_name q y)
      found I s = s.1
      found D s = s.2

      no-file : (y : Ext) → (bytes_at t (store_name q I) ≡ []) × (bytes_at t (store_name q D) ≡ []) × (bytes_at u (store_name q I) ≡ []) × (bytes_at u (store_name q D) ≡ []) → bytes_at t (store_name q y) ≡ []
      no-file I n = n.0
      no-file D n = n.1

  -- ---- the whole

  -- what keeps neither of two transactions from being done does not keep one that does both
  pub unhindered-two : IsUnhindered t r next
  unhindered-two = record {
    room = record {
      changesets = b.un.room.changesets;
      changelog = places-two h.changelog m.changelog k.changelog first.changelog.0 second.changelog.0 first.changelog.1 second.changelog.1 (length (bytes_at t changelog_data)) (length (bytes_at u changelog_data)) changelog-at a.un.room.changelog b.un.room.changelog;
      manifest = places-two h.manifest m.manifest k.manifest first.manifest.0 second.manifest.0 first.manifest.1 second.manifest.1 (length (bytes_at t manifest_data)) (length (bytes_at u manifest_data)) manifest-at a.un.room.manifest b.un.room.manifest;
      filelogs = places-file;
    };
    separate = a.un.separate;
    changelog = fresh-two h.changelog m.changelog k.changelog first.changelog.0 second.changelog.0 first.changelog.1 second.changelog.1 a.un.changelog b.un.changelog;
    manifest = fresh-two h.manifest m.manifest k.manifest first.manifest.0 second.manifest.0 first.manifest.1 second.manifest.1 a.un.manifest b.un.manifest;
    filelogs = λ q. fresh-two (h.filelog q) (m.filelog q) (k.filelog q) (first.filelogs q).0 (second.filelogs q).0 (first.filelogs q).1 (second.filelogs q).1 (a.un.filelogs q) (b.un.filelogs q);
    names = names-two;
    listed = listed-two;
    free = free-two;
  }

  -- ---- what is written

  pub both-facts : GrowthFacts t r next
  both-facts = record { stands = a.stands; repository = b.repository; goes_on = whole; un = unhindered-two }

  module _ (w : Tree) (rc2 bk2 : Bool) (dirstate2 marks2 : List ℕ) (after : CommitLeaves u w rc2 bk2 (roots_of next) dirstate2 marks2 (growth u mid next) (Append changelog_index (new_changelog_entry u mid next)))
      (v : Tree) (rc3 bk3 : Bool) (dirstate3 marks3 : List ℕ) (at_once : CommitLeaves t v rc3 bk3 (roots_of next) dirstate3 marks3 (growth t r next) (Append changelog_index (new_changelog_entry t r next))) where
    changelog-behind : SameBehind false (bytes_at t changelog_index) (bytes_at t changelog_data) (bytes_at u changelog_index) (bytes_at u changelog_data) h.changelog m.changelog k.changelog
    changelog-behind =
        same-behind false (bytes_at t changelog_index) (bytes_at t changelog_data) (bytes_at u changelog_index) (bytes_at u changelog_data) h.changelog m.changelog k.changelog first.changelog.0 second.changelog.0 first.changelog.1 second.changelog.1
        (changelog-separate t r mid a u rc bk dirstate marks leaves) (changelog-fits t r mid a u rc bk dirstate marks leaves) a.un.changelog.different a.un.changelog.not_null
        (changelog-index-bytes t r mid a u rc bk dirstate marks leaves) (changelog-data-bytes t r mid a u rc bk dirstate marks leaves)

    pub changelog-index-same : bytes_at v changelog_index ≡ bytes_at w changelog_index
    changelog-index-same = changelog-index-bytes t r next both-facts v rc3 bk3 dirstate3 marks3 at_once ∙ changelog-behind.index_is ∙ sym (changelog-index-bytes u mid next b w rc2 bk2 dirstate2 marks2 after)

    pub changelog-data-same : bytes_at v changelog_data ≡ bytes_at w changelog_data
    changelog-data-same = changelog-data-bytes t r next both-facts v rc3 bk3 dirstate3 marks3 at_once ∙ changelog-behind.data_is ∙ sym (changelog-data-bytes u mid next b w rc2 bk2 dirstate2 marks2 after)

    manifest-behind : SameBehind false (bytes_at t manifest_index) (bytes_at t manifest_data) (bytes_at u manifest_index) (bytes_at u manifest_data) h.manifest m.manifest k.manifest
    manifest-behind =
        same-behind false (bytes_at t manifest_index) (bytes_at t manifest_data) (bytes_at u manifest_index) (bytes_at u manifest_data) h.manifest m.manifest k.manifest first.manifest.0 second.manifest.0 first.manifest.1 second.manifest.1
        (manifest-separate t r mid a u rc bk dirstate marks leaves) (manifest-fits t r mid a u rc bk dirstate marks leaves) a.un.manifest.different a.un.manifest.not_null
        (manifest-index-bytes t r mid a u rc bk dirstate marks leaves) (manifest-data-bytes t r mid a u rc bk dirstate marks leaves)

    pub manifest-index-same : bytes_at v manifest_index ≡ bytes_at w manifest_index
    manifest-index-same = manifest-index-bytes t r next both-facts v rc3 bk3 dirstate3 marks3 at_once ∙ manifest-behind.index_is ∙ sym (manifest-index-bytes u mid next b w rc2 bk2 dirstate2 marks2 after)

    pub manifest-data-same : bytes_at v manifest_data ≡ bytes_at w manifest_data
    manifest-data-same = manifest-data-bytes t r next both-facts v rc3 bk3 dirstate3 marks3 at_once ∙ manifest-behind.data_is ∙ sym (manifest-data-bytes u mid next b w rc2 bk2 dirstate2 marks2 after)

    -- the two files of a filelog
    abbrev FileSame : List ℕ → Type 0
    FileSame q = (bytes_at v (store_name q I) ≡ bytes_at w (store_name q I)) × (bytes_at v (store_name q D) ≡ bytes_at w (store_name q D))

    in-both : (q : List ℕ) → uses next.changesets q ≡ true → among q (new_paths r next) ≡ true
        → (bytes_at v (store_name q I) ≡ bytes_at t (store_name q I) ++ new_entries (form t h.filelog k.filelog q) (h.filelog q) (added (form t h.filelog k.filelog q) t (store_name q I) (store_name q D) (h.filelog q) (k.filelog q)))
        × (bytes_at v (store_name q D) ≡ bytes_at t (store_name q D) ++ new_data (form t h.filelog k.filelog q) (added (form t h.filelog k.filelog q) t (store_name q I) (store_name q D) (h.filelog q) (k.filelog q)))
    in-both q used e = (file-index-bytes t r next both-facts v rc3 bk3 dirstate3 marks3 at_once q used e, file-data-bytes t r next both-facts v rc3 bk3 dirstate3 marks3 at_once q used e)

    in-second : (q : List ℕ) → uses next.changesets q ≡ true → among q more_paths ≡ true
        → (bytes_at w (store_name q I) ≡ bytes_at u (store_name q I) ++ new_entries (form u m.filelog k.filelog q) (m.filelog q) (added (form u m.filelog k.filelog q) u (store_name q I) (store_name q D) (m.filelog q) (k.filelog q)))
        × (bytes_at w (store_name q D) ≡ bytes_at u (store_name q D) ++ new_data (form u m.filelog k.filelog q) (added (form u m.filelog k.filelog q) u (store_name q I) (store_name q D) (m.filelog q) (k.filelog q)))
    in-second q used e = (file-index-bytes u mid next b w rc2 bk2 dirstate2 marks2 after q used e, file-data-bytes u mid next b w rc2 bk2 dirstate2 marks2 after q used e)

    -- where the second finds what the first found
    same-found : (q : List ℕ) → uses next.changesets q ≡ true → among q (new_paths r next) ≡ true → among q more_paths ≡ true → SameFound q → FileSame q
    same-found q used e g s =
        let x = in-both q used e in
        let y = in-second q used g in (
          x.0 ∙ (λ i. sym s.1 i ++ new_entries (grows_inline (sym s.1 i) (sym s.0 i) (k.filelog q)) (sym s.0 i) (new_items (length (chunk_bytes (grows_inline (sym s.1 i) (sym s.0 i) (k.filelog q)) (sym s.1 i) (sym s.2 i))) (sym s.0 i) (drop (length (sym s.0 i)) (k.filelog q)))) ∙ sym y.0,
          x.1 ∙ (λ i. sym s.2 i ++ new_data (grows_inline (sym s.1 i) (sym s.0 i) (k.filelog q)) (new_items (length (chunk_bytes (grows_inline (sym s.1 i) (sym s.0 i) (k.filelog q)) (sym s.1 i) (sym s.2 i))) (sym s.0 i) (drop (length (sym s.0 i)) (k.filelog q)))) ∙ sym y.1,
        )

    -- where it goes on from what the first left
    same-grown : (q : List ℕ) → uses next.changesets q ≡ true → among q (new_paths r next) ≡ true → among q paths ≡ true → among q more_paths ≡ true → (x : Revision) (log : List Revision) → m.filelog q ≡ x ∷ log → FileSame q
    same-grown q used e g l x log some =
        let shape = forms-same (bytes_at t (store_name q I)) (h.filelog q) (m.filelog q) (k.filelog q) x log some (second.filelogs q) in
        let kept = form-of-held (form t h.filelog m.filelog q) (bytes_at u (store_name q I)) (bytes_at u (store_name q D)) (m.filelog q) (k.filelog q) x log some (grown-held t r mid a u rc bk dirstate marks leaves q (used-first q g) g) in
        let s = same-behind (form t h.filelog m.filelog q) (bytes_at t (store_name q I)) (bytes_at t (store_name q D)) (bytes_at u (store_name q I)) (bytes_at u (store_name q D)) (h.filelog q) (m.filelog q) (k.filelog q) (first.filelogs q).0 (second.filelogs q).0 (first.filelogs q).1 (second.filelogs q).1
        (old-held t r mid a u rc bk dirstate marks leaves q g) (file-fits t r mid a u rc bk dirstate marks leaves q g) (a.un.filelogs q).different (a.un.filelogs q).not_null
        (file-index-bytes t r mid a u rc bk dirstate marks leaves q (used-first q g) g) (file-data-bytes t r mid a u rc bk dirstate marks leaves q (used-first q g) g) in
        let y = in-both q used e in
        let z = in-second q used l in (
          y.0 ∙ ap (λ f. bytes_at t (store_name q I) ++ new_entries f (h.filelog q) (added f t (store_name q I) (store_name q D) (h.filelog q) (k.filelog q))) shape ∙ s.index_is
              ∙ ap (λ f. bytes_at u (store_name q I) ++ new_entries f (m.filelog q) (added f u (store_name q I) (store_name q D) (m.filelog q) (k.filelog q))) (sym kept) ∙ sym z.0,
          y.1 ∙ ap (λ f. bytes_at t (store_name q D) ++ new_data f (added f t (store_name q I) (store_name q D) (h.filelog q) (k.filelog q))) shape ∙ s.data_is
              ∙ ap (λ f. bytes_at u (store_name q D) ++ new_data f (added f u (store_name q I) (store_name q D) (m.filelog q) (k.filelog q))) (sym kept) ∙ sym z.1,
        )

    -- where the second does not come to it
    second-stays : (q : List ℕ) → uses next.changesets q ≡ true → among q more_paths ≡ false → (ext : Ext) → bytes_at w (store_name q ext) ≡ bytes_at u (store_name q ext)
    second-stays q used e ext = file-stays u mid next b w rc2 bk2 dirstate2 marks2 after q (others-from q more_paths (λ o g. b.un.names o q g used)) e ext

    same-first : (q : List ℕ) → uses next.changesets q ≡ true → among q (new_paths r next) ≡ true → among q paths ≡ true → among q more_paths ≡ false → FileSame q
    same-first q used e g l =
        let y = in-both q used e in
        let same-log = sym (file-last q l) in (
          y.0 ∙ ap (λ z. bytes_at t (store_name q I) ++ new_entries (grows_inline (bytes_at t (store_name q I)) (h.filelog q) z) (h.filelog q) (added (grows_inline (bytes_at t (store_name q I)) (h.filelog q) z) t (store_name q I) (store_name q D) (h.filelog q) z)) same-log
              ∙ sym (file-index-bytes t r mid a u rc bk dirstate marks leaves q (used-first q g) g) ∙ sym (second-stays q used l I),
          y.1 ∙ ap (λ z. bytes_at t (store_name q D) ++ new_data (grows_inline (bytes_at t (store_name q I)) (h.filelog q) z) (added (grows_inline (bytes_at t (store_name q I)) (h.filelog q) z) t (store_name q I) (store_name q D) (h.filelog q) z)) same-log
              ∙ sym (file-data-bytes t r mid a u rc bk dirstate marks leaves q (used-first q g) g) ∙ sym (second-stays q used l D),
        )

    same-neither : (q : List ℕ) → uses next.changesets q ≡ true → among q (new_paths r next) ≡ false → (ext : Ext) → bytes_at v (store_name q ext) ≡ bytes_at w (store_name q ext)
    same-neither q used e ext =
        let none = sym (among-whole q) ∙ e in
        file-stays t r next both-facts v rc3 bk3 dirstate3 marks3 at_once q (others-from q (new_paths r next) (λ o g. names-two o q g used)) e ext
        ∙ sym (file-stays t r mid a u rc bk dirstate marks leaves q (others-from q paths (λ o g. names-two o q (among-whole o ∙ ap (λ z. z || among o more_paths) g) used)) (or-left (among q paths) (among q more_paths) none) ext)
        ∙ sym (second-stays q used (or-right (among q paths) (among q more_paths) none) ext)

    pub files-same : (q : List ℕ) (ext : Ext) → uses next.changesets q ≡ true → bytes_at v (store_name q ext) ≡ bytes_at w (store_name q ext)
    files-same q ext used = elim (bool (among q (new_paths r next))) [
      | inr e ↦ same-neither q used e ext
      | inl e ↦ pick ext (elim (in-one q e) [
        | inr g ↦ same-found q used e g.1 (not-first q g.1 g.0)
        | inl g ↦ elim (bool (among q more_paths)) [
          | inr l ↦ same-first q used e g l
          | inl l ↦ elim (some-or (m.filelog q)) [
            | inl none ↦ same-found q used e l (left-empty q g none)
            | inr (x, log, some) ↦ same-grown q used e g l x log some
          ]
        ]
      ])
    ]
      where
        pick : (y : Ext) → FileSame q → bytes_at v (store_name q y) ≡ bytes_at w (store_name q y)
        pick I s = s.0
        pick D s = s.1
