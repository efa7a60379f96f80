-- Nothing is found in a tree that is clean for a repository.
use Rattle.std.proofs.Common.{◌≡◌, ◌⊎◌, ℕ, zero, suc, ◌<◌, List, [], ◌∷◌, Bool, true, false, cond, ◌&&◌, ◌||◌, not, length, map, refl, sym, ◌∙◌, ap, subst, inl, inr, arith}
use Rattle.std.specs.Prelude.{Option, Some, None, Result, Ok, IfSome, option_map, option_and_then, unwrap_or, is_some, is_none, slice_get, slice_index_or, ◌==◌}
use Rattle.std.specs.List.{AllByRecursion, list_all, list_any}
use Rattle.std.proofs.lemmas.List.Quantifiers.{position-Some}
use Rattle.hgs_bytes.specs.Bytes.{same, among}
use Rattle.hgs_files.specs.Tree.{Tree, bytes_at}
use Rattle.hgs_index.specs.Node.{null_node}
use Rattle.hgs_index.specs.Revision.{Revision, nodes, parent_node}
use Rattle.hgs_index.specs.Revlog.{HoldsRevisions}
use Rattle.hgs_journal.specs.Names.{locks}
use Rattle.hgs_marks.specs.Bookmarks.{Mark, mark_lines}
use Rattle.hgs_marks.specs.Dirstate.{Dirstate, no_dirstate, read_dirstate}
use Rattle.hgs_model.specs.Repo.{Repo, Changeset, tree_at, tree_paths, paths_at}
use Rattle.hgs_model.specs.History.{History, history, uses, changeset_nodes}
use Rattle.hgs_model.specs.Theorems.HistoryLemmas.{length-changelog}
use Rattle.hgs_path.specs.declared.name.Ext.{Ext}
use Rattle.hgs_path.specs.declared.name.Ext.TheVariants.{I, D}
use Rattle.hgs_path.specs.Fncache.{lists}
use Rattle.hgs_path.specs.ListedNames.{names_of}
use Rattle.hgs_path.specs.StoreName.{listed_name, store_name}
use Rattle.hgs_phases.specs.declared.roots.Root.{Root}
use Rattle.hgs_phases.specs.Roots.{read_roots}
use Rattle.hgs_stands.specs.Places.{bookmarks_path, dirstate_path, roots_path, fncache_path}
use Rattle.hgs_stands.specs.Stands.{IsUsedName, Stands, IsClean}
use Rattle.hgs_stands.specs.Theorems.FormLemmas.{apart-held}
use Rattle.hgs_stands.specs.Theorems.ListedLemmas.{among-at}
use Rattle.hgs_findings.specs.Namings.{FollowsRules}
use Rattle.hgs_findings.specs.Sight.{Sight, Seen, value, place, row_paths, seen}
use Rattle.hgs_findings.specs.Regular.{rows_of_seen, used_paths, is_used, has_file, IsRegular}
use Rattle.hgs_findings.specs.Reading.{Log, the_changelog, the_manifest, the_filelog, index_in, data_in, sight_of, IsWholeReading}
use Rattle.hgs_findings.specs.Findings.{IsFinding, is_looked_at, revisions_in, namings_in, roots_in, mark_lines_in, names_in, dirstate_in, known, is_unknown_parent, paths_of_seen, paths_at_node, have_same, tracks_others, AreWithin}
use Rattle.hgs_findings.specs.Findings as found
use Rattle.hgs_findings.proofs.Basics.{same-eq, same-refl, bool, never, none-some, some-same, and-left, and-right}
use Rattle.hgs_findings.proofs.LogLemmas.{IsLog, position-none}
use Rattle.hgs_findings.proofs.SightLemmas.{IsRead}
use Rattle.hgs_findings.proofs.HeldLemmas.{held-reading}
use Rattle.hgs_findings.proofs.MadeLemmas.{AreOf, place-at}
use Rattle.hgs_findings.proofs.BackLemmas.{back-regular, uses-same, all-are-read, trees-are}

-- ---- lists

all-at : {A : Type 0} (f : A → Bool) (xs : List A) (i : ℕ) (x : A) → list_all f xs ≡ true → slice_get xs i ≡ Some x → f x ≡ true
all-at f [] i x all e = none-some x e
all-at f (y ∷ xs) zero x all e = ap f (sym (some-same y y x e)) ∙ and-left (f y) (list_all f xs) all
all-at f (y ∷ xs) (suc i) x all e = all-at f xs i x (and-right (f y) (list_all f xs) all) e

fact-among : (P : List ℕ → Type 0) (xs : List (List ℕ)) (x : List ℕ) → AllByRecursion P xs → among x xs ≡ true → P x
fact-among P [] x all e = never (sym e)
fact-among P (y ∷ xs) x all e = by (bool (same x y)) (fact-among P xs x all.1)
  where
    by : (same x y ≡ true) ⊎ (same x y ≡ false) → (among x xs ≡ true → P x) → P x
    by (inl t) rec = subst P (sym (same-eq x y t)) all.0
    by (inr t) rec = rec (sym (ap (λ b. b || among x xs) t) ∙ e)

any-true : (f : List ℕ → Bool) (xs : List (List ℕ)) (x : List ℕ) → among x xs ≡ true → f x ≡ true → list_any f xs ≡ true
any-true f [] x e g = never (sym e)
any-true f (y ∷ xs) x e g = by (bool (same x y)) (any-true f xs x)
  where
    right : (a b : Bool) → b ≡ true → (a || b) ≡ true
    right true b h = refl
    right false b h = h

    by : (same x y ≡ true) ⊎ (same x y ≡ false) → (among x xs ≡ true → f x ≡ true → list_any f xs ≡ true) → (f y || list_any f xs) ≡ true
    by (inl t) rec = ap (λ z. f z || list_any f xs) (sym (same-eq x y t)) ∙ ap (λ b. b || list_any f xs) g
    by (inr t) rec = right (f y) (list_any f xs) (rec (sym (ap (λ b. b || among x xs) t) ∙ e) g)

among-place : (log : List Revision) (node : List ℕ) → among node (nodes log) ≡ true → is_some (place log node) ≡ true
among-place log node e = by (place log node) refl
  where
    none : (xs : List (List ℕ)) → among node xs ≡ true → ((k : ℕ) → k < length xs → same node (slice_index_or xs k null_node) ≡ false) → ⊥
    none [] m h = never (sym m)
    none (x ∷ xs) m h = none xs (sym (ap (λ b. b || among node xs) (h 0 (omega arith))) ∙ m) (λ k lt. h (suc k) (omega (arith, lt)))

    by : (o : Option ℕ) → place log node ≡ o → is_some o ≡ true
    by None g = absurd (none (nodes log) e (λ k lt. position-none (same node) (nodes log) k null_node g lt))
    by (Some v) g = refl

sets-same : (xs ys : List (List ℕ)) → ((p : List ℕ) → among p xs ≡ among p ys) → have_same xs ys ≡ true
sets-same xs ys h = ap (λ b. b && list_all (λ y. among y xs) ys) (all-in xs ys (λ p e. sym (h p) ∙ e)) ∙ all-in ys xs (λ p e. h p ∙ e)
  where
    right : (a b : Bool) → b ≡ true → (a || b) ≡ true
    right true b g = refl
    right false b g = g

    all-in : (us vs : List (List ℕ)) → ((p : List ℕ) → among p us ≡ true → among p vs ≡ true) → list_all (λ u. among u vs) us ≡ true
    all-in [] vs g = refl
    all-in (u ∷ us) vs g = ap (λ b. b && list_all (λ w. among w vs) us) (g u (ap (λ b. b || among u us) (same-refl u))) ∙ all-in us vs (λ p e. g p (right (same p u) (among p us) e))

ok-value : {A F : Type 0} (r : Result A F) (x : A) → r ≡ Ok x → value r ≡ Some x
ok-value r x e = ap value e

-- ---- the tree

module _ (t : Tree) (r : Repo) (clean : IsClean t r) (within : AreWithin t r) where
  abbrev s : Sight
  s = sight_of t

  abbrev cs : List Changeset
  cs = r.changesets

  abbrev H : History
  H = history r.changesets

  abbrev st : Stands t r
  st = clean.stands

  changelog-read : IsWholeReading (index_in t the_changelog) (data_in t the_changelog) H.changelog
  changelog-read = held-reading _ _ H.changelog (apart-held _ _ H.changelog st.revlogs.changelog) within.changelog

  manifest-read : IsWholeReading (index_in t the_manifest) (data_in t the_manifest) H.manifest
  manifest-read = held-reading _ _ H.manifest (apart-held _ _ H.manifest st.revlogs.manifest) within.manifest

  filelog-read : (path : List ℕ) → uses cs path ≡ true → IsWholeReading (index_in t (the_filelog path)) (data_in t (the_filelog path)) (H.filelog path)
  filelog-read path u = held-reading _ _ (H.filelog path) (apart-held _ _ (H.filelog path) (st.revlogs.filelogs path u)) (within.filelogs path u)

  log-of : (index data_bytes : List ℕ) (log read : List Revision) → read ≡ log → HoldsRevisions index data_bytes log → IsLog read
  log-of index data_bytes log read e h = subst IsLog (sym e) (record { different = h.different; before = h.earlier })

  of : AreOf s (uses cs) H
  of = record {
    changelog = changelog-read.are;
    manifest = manifest-read.are;
    filelogs = λ path u. (filelog-read path u).are;
    changelog_log = log-of _ _ H.changelog s.changelog changelog-read.are (apart-held _ _ H.changelog st.revlogs.changelog);
    manifest_log = log-of _ _ H.manifest s.manifest manifest-read.are (apart-held _ _ H.manifest st.revlogs.manifest);
    filelog_logs = λ path u. log-of _ _ (H.filelog path) (s.filelog path) (filelog-read path u).are (apart-held _ _ (H.filelog path) (st.revlogs.filelogs path u));
  }

  regular : IsRegular s
  regular = back-regular s (uses cs) H of cs refl st.repository.changesets (λ path u. u)

  used-same : (path : List ℕ) → is_used s path ≡ uses cs path
  used-same = uses-same s (uses cs) H of cs refl st.repository.changesets (λ path u. u)

  uses-it : (path : List ℕ) → is_used s path ≡ true → uses cs path ≡ true
  uses-it path e = sym (used-same path) ∙ e

  log-read : (log : Log) → is_looked_at s log ≡ true → (revisions : List Revision) × IsWholeReading (index_in t log) (data_in t log) revisions
  log-read the_changelog looked = (H.changelog, changelog-read)
  log-read the_manifest looked = (H.manifest, manifest-read)
  log-read (the_filelog path) looked = (H.filelog path, filelog-read path (uses-it path looked))

  rules : (log : Log) → is_looked_at s log ≡ true → FollowsRules (revisions_in s log) (namings_in s log)
  rules the_changelog looked = record { needed = λ rev x e. none-some x e; placed = λ rev x e. none-some x e; made = λ rev x e. none-some x e }
  rules the_manifest looked = regular.manifest_rules
  rules (the_filelog path) looked = regular.filelog_rules path looked

  known-node : (node : List ℕ) → among node (changeset_nodes cs) ≡ true → is_some (known s node) ≡ true
  known-node node e = among-place s.changelog node (ap (λ l. among node (nodes l)) changelog-read.are ∙ e)

  roots-are : roots_in t ≡ st.phases.roots
  roots-are = ap (λ o. unwrap_or o []) (ok-value (read_roots (bytes_at t roots_path)) st.phases.roots st.phases.text)

  lines-are : mark_lines_in t ≡ st.bookmarks.lines
  lines-are = ap (λ o. unwrap_or o []) (ok-value (mark_lines (bytes_at t bookmarks_path)) st.bookmarks.lines st.bookmarks.text)

  dirstate-is : dirstate_in t ≡ st.dirstate.dirstate
  dirstate-is = ap (λ o. unwrap_or o no_dirstate) (ok-value (read_dirstate (bytes_at t dirstate_path)) st.dirstate.dirstate st.dirstate.text)

  names-are : names_in t ≡ st.fncache.names
  names-are = ap (λ o. unwrap_or o []) (ok-value (names_of (bytes_at t fncache_path)) st.fncache.names st.fncache.text)

  count : length cs ≡ length s.changelog
  count = sym (length-changelog r st.repository) ∙ ap length (sym changelog-read.are)

  -- a working parent is known, or none
  parent-known : (o : Option ℕ) → IfSome o (λ rev. rev < length cs) → known s (parent_node (changeset_nodes cs) o) ≡ o
  parent-known None lt = by (known s null_node) refl
    where
      by : (k : Option ℕ) → known s null_node ≡ k → known s null_node ≡ None
      by None e = e
      by (Some v) e = never (sym (null-among v e) ∙ ap (λ l. among null_node (nodes l)) changelog-read.are ∙ st.revlogs.changelog.not_null)
        where
          null-among : (v : ℕ) → place s.changelog null_node ≡ Some v → among null_node (nodes s.changelog) ≡ true
          null-among v e =
              let p = position-Some (same null_node) (nodes s.changelog) v null_node e in
              ap (λ x. among x (nodes s.changelog)) (same-eq null_node (slice_index_or (nodes s.changelog) v null_node) p.1) ∙ among-at (nodes s.changelog) v null_node p.0
  parent-known (Some rev) lt =
      ap (λ l. known s (slice_index_or (nodes l) rev null_node)) (sym changelog-read.are) ∙ place-at s.changelog of.changelog_log.different rev (omega (arith, lt, count))

  null-or-some : (o : Option ℕ) (node : List ℕ) → node ≡ parent_node (changeset_nodes cs) o → IfSome o (λ rev. rev < length cs) → is_unknown_parent s node ≡ false
  null-or-some None node e lt = ap (λ n. not (same n null_node) && is_none (known s n)) e ∙ ap (λ b. not b && is_none (known s null_node)) (same-refl null_node)
  null-or-some (Some rev) node e lt = ap (λ n. not (same n null_node) && is_none (known s n)) e ∙ ap (λ o. not (same (parent_node (changeset_nodes cs) (Some rev)) null_node) && is_none o) (parent-known (Some rev) lt) ∙ and-false (not (same (parent_node (changeset_nodes cs) (Some rev)) null_node))
    where
      and-false : (b : Bool) → (b && false) ≡ false
      and-false true = refl
      and-false false = refl

  -- the tree of a changeset as it is read
  seen-paths : (xs : List Seen) (ys : List Changeset) (rev : ℕ) → map (λ c. row_paths (rows_of_seen c)) xs ≡ map (λ (c : Changeset). tree_paths c.tree) ys → AllByRecursion (IsRead s) xs → rev < length ys
      → paths_of_seen (slice_get xs rev) ≡ Some (tree_paths (tree_at ys rev))
  seen-paths [] [] rev e all lt = absurd (omega (arith, lt))
  seen-paths [] (y ∷ ys) rev e all lt = absurd (omega (arith, ap length e))
  seen-paths (x ∷ xs) [] rev e all lt = absurd (omega (arith, lt))
  seen-paths (x ∷ xs) (y ∷ ys) zero e all lt = ap (option_map row_paths) all.0.rows_are ∙ sym (ap (λ o. Some (row_paths (unwrap_or o []))) all.0.rows_are) ∙ ap Some (ap (λ l. elim l [ [] ↦ tree_paths y.tree | z ∷ zs ↦ z ]) e)
  seen-paths (x ∷ xs) (y ∷ ys) (suc rev) e all lt = seen-paths xs ys rev (ap (λ l. elim l [ [] ↦ map (λ (c : Changeset). tree_paths c.tree) ys | z ∷ zs ↦ zs ]) e) all.1 (omega (arith, lt))

  paths-there : (o : Option ℕ) (node : List ℕ) → node ≡ parent_node (changeset_nodes cs) o → IfSome o (λ rev. rev < length cs) → paths_at_node s node ≡ Some (paths_at cs o)
  paths-there None node e lt = ap (λ b. cond b (Some []) (option_and_then (λ rev. paths_of_seen (slice_get (seen s) rev)) (known s node))) (ap (λ n. same n null_node) e ∙ same-refl null_node)
  paths-there (Some rev) node e lt =
      let is : known s node ≡ Some rev = ap (known s) e ∙ parent-known (Some rev) lt in
      ap (λ b. cond b (Some []) (option_and_then (λ k. paths_of_seen (slice_get (seen s) k)) (known s node))) (differs (bool (same node null_node)) is)
      ∙ ap (option_and_then (λ k. paths_of_seen (slice_get (seen s) k))) is
      ∙ seen-paths (seen s) cs rev (trees-are s (uses cs) H of cs refl st.repository.changesets (λ path u. u)) (all-are-read s (uses cs) H of cs refl st.repository.changesets (λ path u. u)) lt
    where
      differs : (same node null_node ≡ true) ⊎ (same node null_node ≡ false) → known s node ≡ Some rev → same node null_node ≡ false
      differs (inr d) k = d
      differs (inl d) k = none-some rev (sym (parent-known None tt) ∙ ap (known s) (sym (same-eq node null_node d)) ∙ k)

  -- ---- each finding is absent

  no : {A : Type 0} → true ≡ false → A
  no e = never e

  pub absent : (path : List ℕ) (rev : Option ℕ) (kind : ℕ) → IsFinding t path rev kind → ⊥
  absent _ _ _ (found.journal e) = no (sym e ∙ ap is_some st.no_journal)
  absent _ _ _ (found.lock path a e) = no (sym e ∙ ap is_some (fact-among (λ l. t l ≡ None) locks path clean.no_locks a))
  absent _ _ _ (found.fault log looked e) = no (sym e ∙ (log-read log looked).1.whole)
  absent _ _ _ (found.bad_roots e) = no (sym (ap is_some (ok-value (read_roots (bytes_at t roots_path)) st.phases.roots st.phases.text)) ∙ e)
  absent _ _ _ (found.bad_bookmarks e) = no (sym (ap is_some (ok-value (mark_lines (bytes_at t bookmarks_path)) st.bookmarks.lines st.bookmarks.text)) ∙ e)
  absent _ _ _ (found.bad_dirstate e) = no (sym (ap is_some (ok-value (read_dirstate (bytes_at t dirstate_path)) st.dirstate.dirstate st.dirstate.text)) ∙ e)
  absent _ _ _ (found.bad_fncache e) = no (sym (ap is_some (ok-value (names_of (bytes_at t fncache_path)) st.fncache.names st.fncache.text)) ∙ e)
  absent _ _ _ (found.bad_changeset rev x at e) = no (sym (regular.changes rev x at) ∙ e)
  absent _ _ _ (found.bad_manifest rev x at e) = no (sym (regular.manifests rev x at) ∙ e)
  absent _ _ _ (found.no_manifest rev c at e f) = no (sym (regular.named rev c at) ∙ f)
  absent _ _ _ (found.no_file rev c row i at g e) = no (sym (all-at (has_file s) (rows_of_seen c) i row (regular.files rev c at) g) ∙ e)
  absent _ _ _ (found.unneeded log rev x looked at e) = no (sym e ∙ (rules log looked).needed rev x at)
  absent _ _ _ (found.other_link rev x at e) = no (sym (regular.links rev x at) ∙ e)
  absent _ _ _ (found.misplaced log rev x looked at e) = no (sym e ∙ (rules log looked).placed rev x at)
  absent _ _ _ (found.wrongly_made log rev x looked at e) = no (sym e ∙ (rules log looked).made rev x at)
  absent _ _ _ (found.wrongly_listed rev c v path at g e) = no (sym e ∙ regular.listed rev c v path at g)
  absent _ _ _ (found.not_listed path ext names u has e l) =
      let same_names : names ≡ st.fncache.names = some-same names names st.fncache.names (sym (ap value e) ∙ ap value st.fncache.text) in
      no (sym (st.fncache.listed path ext (uses-it path u) has) ∙ ap (λ x. lists x path ext) (sym same_names) ∙ l)
  absent _ _ _ (found.one_name path other ext u v d e) = clash ext e
    where
      apart : (same (store_name other I) (store_name path I) || same (store_name other D) (store_name path D)) ≡ false
      apart = sym (ap (λ b. not b && (same (store_name other I) (store_name path I) || same (store_name other D) (store_name path D))) d) ∙ st.revlogs.names path other (uses-it path u) (uses-it other v)

      clash : (x : Ext) → same (store_name other x) (store_name path x) ≡ true → ⊥
      clash I h = no (sym (ap (λ b. b || same (store_name other D) (store_name path D)) h) ∙ apart)
      clash D h = no (sym (right (same (store_name other I) (store_name path I)) (same (store_name other D) (store_name path D)) h) ∙ apart)
        where
          right : (a b : Bool) → b ≡ true → (a || b) ≡ true
          right true b g = refl
          right false b g = g
  absent _ _ _ (found.not_used name a full e) = by (fact-among (IsUsedName t cs) st.fncache.names name st.fncache.used (ap (among name) (sym names-are) ∙ a))
    where
      named : (path : List ℕ) (ext : Ext) → listed_name path ext ≡ name → (same (listed_name path I) name || same (listed_name path D) name) ≡ true
      named path I h = ap (λ x. same x name || same (listed_name path D) name) h ∙ ap (λ b. b || same (listed_name path D) name) (same-refl name)
      named path D h = ap (λ x. same (listed_name path I) name || same x name) h ∙ ap (λ b. same (listed_name path I) name || b) (same-refl name) ∙ or-true (same (listed_name path I) name)
        where
          or-true : (b : Bool) → (b || true) ≡ true
          or-true true = refl
          or-true false = refl

      by : IsUsedName t cs name → ⊥
      by (inl empty) = no (sym (ap (λ l. length l == 0) empty) ∙ full)
      by (inr u) = no (sym (any-true (λ path. same (listed_name path I) name || same (listed_name path D) name) (used_paths s) u.0 (used-same u.0 ∙ u.2) (named u.0 u.1 u.3)) ∙ e)
  absent _ _ _ (found.unknown_root n root at e) =
      no (sym (known-node root.node.0 (all-at (λ (x : Root). among x.node.0 (changeset_nodes cs)) st.phases.roots n root st.phases.known (ap (λ l. slice_get l n) (sym roots-are) ∙ at))) ∙ e)
  absent _ _ _ (found.unknown_mark n mark at e) =
      no (sym (known-node mark.node (all-at (λ (x : Mark). among x.node (changeset_nodes cs)) st.bookmarks.lines n mark st.bookmarks.known (ap (λ l. slice_get l n) (sym lines-are) ∙ at))) ∙ e)
  absent _ _ _ (found.unknown_parent e) =
      no (sym e ∙ ap (λ b. b || is_unknown_parent s (dirstate_in t).p2) (null-or-some r.working.0 (dirstate_in t).p1 (ap (λ (d : Dirstate). d.p1) dirstate-is ∙ st.dirstate.first) st.repository.first_working)
      ∙ null-or-some r.working.1 (dirstate_in t).p2 (ap (λ (d : Dirstate). d.p2) dirstate-is ∙ st.dirstate.second) st.repository.second_working)
  absent _ _ _ (found.other_paths d g e) =
      let is : d ≡ st.dirstate.dirstate = some-same d d st.dirstate.dirstate (sym (ap value g) ∙ ap value st.dirstate.text) in
      let wanted : paths_at_node s d.p1 ≡ Some (paths_at cs r.working.0) = paths-there r.working.0 d.p1 (ap (λ (x : Dirstate). x.p1) is ∙ st.dirstate.first) st.repository.first_working in
      no (sym e ∙ ap (tracks_others d.paths) wanted ∙ ap not (sets-same d.paths (paths_at cs r.working.0) (λ p. ap (λ (x : Dirstate). among p x.paths) is ∙ st.dirstate.paths p)))
  absent _ _ _ (found.index_rest log looked e) = no (sym e ∙ (log-read log looked).1.no_index_rest)
  absent _ _ _ (found.data_rest log looked e) = no (sym e ∙ (log-read log looked).1.no_data_rest)
