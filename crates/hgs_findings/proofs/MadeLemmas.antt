-- The lists of a repository: what can be read of each changeset, and that nothing is wrong with it.
use Rattle.std.proofs.Common.{◌≡◌, ◌⊎◌, ℕ, suc, ◌<◌, ◌≤◌, List, [], ◌∷◌, ◌++◌, Bool, true, false, cond, ◌&&◌, ◌||◌, not, length, take, map, get_or, refl, sym, ◌∙◌, ap, subst, inl, inr, arith, length-append, append_assoc}
use Rattle.std.specs.Prelude.{Option, Some, None, Ok, IfSome, option_map, option_and_then, unwrap_or, is_some, is_none, slice_get, find, filter, max}
use Rattle.std.specs.List.{AllByRecursion, list_all}
use Rattle.std.proofs.lemmas.List.{map-append, length-map, length-take-le, take_at, append_cancel_left}
use Rattle.std.proofs.lemmas.List.Quantifiers.{position-Some}
use Rattle.std.proofs.lemmas.Option.{slice_get-get_or}
use Rattle.hgs_bytes.specs.Bytes.{same, among, IsPrefixOf}
use Rattle.hgs_index.specs.declared.kinds.Flag.{Flag}
use Rattle.hgs_index.specs.ChangeText.{Change, read_change}
use Rattle.hgs_index.specs.Theorems.ChangeTextLemmas.{change_back}
use Rattle.hgs_index.specs.FileText.{body_of, prefix_of, unpacked}
use Rattle.hgs_index.specs.Theorems.FileTextLemmas.{unpacked-joins}
use Rattle.hgs_index.specs.Manifest.{Row, read_manifest}
use Rattle.hgs_index.specs.Theorems.ManifestText.{manifest_back}
use Rattle.hgs_index.specs.Node.{null_node}
use Rattle.hgs_index.specs.Revision.{Parents, Revision, nodes, standing, is_as, same_parents, with_revision, with_revision_at, number_of}
use Rattle.hgs_index.specs.Revlog.{all_different}
use Rattle.hgs_index.specs.TrackedPath.{is_tracked}
use Rattle.hgs_model.specs.Repo.{Changeset, TreeFile, file_text, tree_paths}
use Rattle.hgs_model.specs.History.{History, Placed, placed_at, placed_file, placed_of, text_at, node_at, parents_in, kept, kept_of, file_parents, file_parents_of, file_revision, rev_of_file, log_with_file, filelog_with, row_of, rows_of, manifest_at, manifest_parents_of, manifest_revision, manifest_with, manifest_number, first_of, parent_file, has_other_flag, is_changed, removed_paths, changed_paths, changeset_text_value, changeset_revision, with_changeset}
use Rattle.hgs_model.specs.IsRepo.{IsNextChangeset, HasKeptPrefix}
use Rattle.hgs_model.specs.Theorems.HistoryLemmas.{Extends}
use Rattle.hgs_model.specs.Theorems.CountLemmas.{IsSound, IsBelow, AreTwoBelow, number-below, file-revision-below, sound-more, changelog-one}
use Rattle.hgs_stands.specs.Theorems.ListedLemmas.{rev-same, length-nodes, node_at-front, text_at-front, front-below, number-text}
use Rattle.hgs_stands.specs.Theorems.ManifestLemmas.{rows-good}
use Rattle.hgs_findings.specs.Built.{above, IsOld, IsNew, IsGood, IsBuilt}
use Rattle.hgs_findings.specs.Namings.{makes, untold, Naming}
use Rattle.hgs_findings.specs.Sight.{Sight, Seen, Use, absent, at, value, place, row_paths, tracked_rows, seen_of, rows_of as sight_rows, use_of, use_at, kept_or_made, rule_with, file_rule, file_naming, naming_of, manifest_rule, manifest_naming, manifest_parent, told, flag_in, is_other_flag, is_made, differ, is_wrongly_listed}
use Rattle.hgs_findings.specs.Sight as sight
use Rattle.hgs_findings.proofs.Basics.{same-eq, same-refl, never, none-some, some-same, and-left, and-right, all-push, found-has, slice_get-front, slice_get-last}
use Rattle.hgs_findings.proofs.NamingLemmas.{above-push, above-none}
use Rattle.hgs_findings.proofs.LogLemmas.{IsLog, are-before, position-none}
use Rattle.hgs_findings.proofs.OrderLemmas.{among-join, among-in_order, among-filter, among-found, among-filtered, is_so}
use Rattle.hgs_findings.proofs.SightLemmas.{IsRead, placed_row, placed_seen, use_placed, use-read, parent-use, rev_of, told-placed, file-parents-front, text-take, kept-front, placed-some, parent-manifest, manifest_number_of}

-- ---- places

-- a node stands where it is
pub place-at : (log : List Revision) → all_different (nodes log) ≡ true → (v : ℕ) → v < length log → place log (node_at log v) ≡ Some v
place-at log different v lt = by (place log (node_at log v)) refl
  where
    by : (o : Option ℕ) → place log (node_at log v) ≡ o → o ≡ Some v
    by None e = never (sym (same-refl (node_at log v)) ∙ position-none (same (node_at log v)) (nodes log) v null_node e (omega (arith, lt, length-nodes log)))
    by (Some w) e =
        let p = position-Some (same (node_at log v)) (nodes log) w null_node e in
        ap Some (rev-same log w v different (omega (arith, p.0, length-nodes log)) lt (sym (same-eq (node_at log v) (node_at log w) p.1)))

all-last : {A : Type 0} (P : A → Type 0) (xs : List A) (x : A) → AllByRecursion P (xs ++ x ∷ []) → P x
all-last P [] x all = all.0
all-last P (y ∷ xs) x all = all-last P xs x all.1

rows-path : (log : List ℕ → List Revision) (xs : List Placed) → row_paths (map (row_of log) xs) ≡ map (λ (p : Placed). p.path) xs
rows-path log [] = refl
rows-path log (p ∷ xs) = ap (λ l. p.path ∷ l) (rows-path log xs)

kept-rows : (rows : List Row) → list_all is_tracked (row_paths rows) ≡ true → tracked_rows rows ≡ rows
kept-rows [] e = refl
kept-rows (row ∷ rows) e =
    ap (λ b. cond b (row ∷ tracked_rows rows) (tracked_rows rows)) (and-left (is_tracked row.path) (list_all is_tracked (row_paths rows)) e)
    ∙ ap (λ l. row ∷ l) (kept-rows rows (and-right (is_tracked row.path) (list_all is_tracked (row_paths rows)) e))

placed-paths : (h : History) (c : Changeset) (tree : List TreeFile) → map (λ (p : Placed). p.path) (map (λ (f : TreeFile). record { path = f.path; flag = f.flag; rev = rev_of_file h c f }) tree) ≡ tree_paths tree
placed-paths h c [] = refl
placed-paths h c (f ∷ tree) = ap (λ l. f.path ∷ l) (placed-paths h c tree)

-- the file of a tree and what is placed of it are found together
find-placed : (h : History) (c : Changeset) (path : List ℕ) (tree : List TreeFile)
    → placed_file (map (λ (f : TreeFile). record { path = f.path; flag = f.flag; rev = rev_of_file h c f }) tree) path ≡ option_map (λ (f : TreeFile). record { path = f.path; flag = f.flag; rev = rev_of_file h c f }) (find (λ (f : TreeFile). same f.path path) tree)
find-placed h c path [] = refl
find-placed h c path (f ∷ tree) = by (same f.path path) (find-placed h c path tree)
  where
    one : TreeFile → Placed
    one g = record { path = g.path; flag = g.flag; rev = rev_of_file h c g }

    by : (b : Bool) → placed_file (map one tree) path ≡ option_map one (find (λ (g : TreeFile). same g.path path) tree) → cond b (Some (one f)) (placed_file (map one tree) path) ≡ option_map one (cond b (Some f) (find (λ (g : TreeFile). same g.path path) tree))
    by true rec = refl
    by false rec = rec

-- a file's text is unpacked, and a kept one has the text of its revision
kept-found : (log : List Revision) (a b : Option ℕ) (body : List ℕ) (rev : ℕ) → IsBelow a (length log) → kept_of log a b body ≡ Some rev → (rev < length log) × (body_of (text_at log rev) ≡ body)
kept-found log None b body rev p e = none-some rev e
kept-found log (Some a) (Some b) body rev p e = none-some rev e
kept-found log (Some a) None body rev p e = by (same (body_of (text_at log a)) body) refl e
  where
    by : (z : Bool) → same (body_of (text_at log a)) body ≡ z → cond z (Some a) None ≡ Some rev → (rev < length log) × (body_of (text_at log rev) ≡ body)
    by true s h = subst (λ k. (k < length log) × (body_of (text_at log k) ≡ body)) (some-same 0 a rev h) (p, same-eq (body_of (text_at log a)) body s)
    by false s h = none-some rev h

-- ---- one more revision, as a naming has it

-- a revision that is made after these stands already or is the next
pub made-good : (log old : List Revision) (front : List (Option Naming)) (r : Revision) → old ≡ take (above front) log → above front ≤ length log → length old ≡ above front → IsPrefixOf (with_revision old r) log → r.link ≡ length front
    → (n : Naming) → n.rev ≡ number_of old r.text r.parents → (IsOld log front n r.parents ⊎ IsNew log front n r.parents) × (with_revision old r ≡ take (above (front ++ Some n ∷ [])) log)
made-good log old front r is le count begins link n number = by (standing old r.text r.parents) refl
  where
    grown : above (front ++ Some n ∷ []) ≡ max (above front) (suc n.rev)
    grown = above-push front n

    by : (o : Option ℕ) → standing old r.text r.parents ≡ o → (IsOld log front n r.parents ⊎ IsNew log front n r.parents) × (with_revision old r ≡ take (above (front ++ Some n ∷ [])) log)
    by (Some v) e =
        let p = position-Some (is_as r.text r.parents) old v r e in
        let x : Revision = get_or old v r in
        let rev : n.rev ≡ v = number ∙ ap (λ o. unwrap_or o (length old)) e in
        let there_old : slice_get old v ≡ Some x = slice_get-get_or old v r p.0 in
        let same_list : with_revision old r ≡ old = ap (λ o. with_revision_at o old r) e in
        let same_above : above front ≡ above (front ++ Some n ∷ []) = omega (arith, grown, rev, p.0, count) in (
          inl (record {
            r = x;
            there = ap (slice_get log) rev ∙ slice_get-front old log (subst (λ l. IsPrefixOf l log) same_list begins) v x there_old;
            below = omega (arith, rev, p.0, count);
            parents = and-right (same r.text x.text) (same_parents r.parents x.parents) p.1;
          }),
          same_list ∙ is ∙ ap (λ k. take k log) same_above,
        )
    by None e =
        let rev : n.rev ≡ length old = number ∙ ap (λ o. unwrap_or o (length old)) e in
        let longer : with_revision old r ≡ old ++ r ∷ [] = ap (λ o. with_revision_at o old r) e in
        let begins_so : IsPrefixOf (old ++ r ∷ []) log = subst (λ l. IsPrefixOf l log) longer begins in
        let len : length (old ++ r ∷ []) ≡ above (front ++ Some n ∷ []) = omega (arith, length-append old (r ∷ []), grown, rev, count) in (
          inr (record {
            r = r;
            there = ap (slice_get log) rev ∙ slice_get-front (old ++ r ∷ []) log begins_so (length old) r (slice_get-last old r);
            is = rev ∙ count;
            parents = refl;
            link = link;
          }),
          longer ∙ sym (take_at (old ++ r ∷ []) begins_so.0 (above (front ++ Some n ∷ [])) len) ∙ ap (take (above (front ++ Some n ∷ []))) (sym begins_so.1),
        )

-- ---- one changeset of a repository

-- lists that those of a history are, where paths are used
pub record AreOf (s : Sight) (used : List ℕ → Bool) (h : History) : Type 0 where
  pub changelog : s.changelog ≡ h.changelog
  pub manifest : s.manifest ≡ h.manifest
  pub filelogs : (path : List ℕ) → used path ≡ true → s.filelog path ≡ h.filelog path
  pub changelog_log : IsLog s.changelog
  pub manifest_log : IsLog s.manifest
  pub filelog_logs : (path : List ℕ) → used path ≡ true → IsLog (s.filelog path)

-- after the first changesets, the rest of the changelog being this
pub record IsMade (s : Sight) (used : List ℕ → Bool) (all front : List Seen) (rest : List Revision) (h : History) : Type 0 where
  pub whole : all ≡ front ++ map (seen_of s) rest
  pub lists : s.changelog ≡ h.changelog ++ rest
  pub counted : length h.changelog ≡ length front
  pub read : AllByRecursion (IsRead s) front
  pub manifest : h.manifest ≡ take (above (map (manifest_naming all) front)) s.manifest
  pub manifest_fits : above (map (manifest_naming all) front) ≤ length s.manifest
  pub filelogs : (path : List ℕ) → used path ≡ true → h.filelog path ≡ take (above (map (file_naming s path all) front)) (s.filelog path)
  pub filelog_fits : (path : List ℕ) → used path ≡ true → above (map (file_naming s path all) front) ≤ length (s.filelog path)
  pub placed : h.placed ≡ map (placed_seen s) front
  pub manifest_of : h.manifest_of ≡ map manifest_number_of front
  pub sound : IsSound h

module _ (s : Sight) (used : List ℕ → Bool) (all front : List Seen) (rest : List Revision) (h H : History) (c : Changeset) (of : AreOf s used H) (state : IsMade s used all front rest h) (is : IsNextChangeset h c)
    (extends : Extends (with_changeset h c) H) (uses_all : (path : List ℕ) → among path (tree_paths c.tree) ≡ true → used path ≡ true) where
  abbrev pub r : Revision
  r = changeset_revision h c

  abbrev pub x : Seen
  x = seen_of s (changeset_revision h c)

  -- the lists of the files begin with those after this changeset
  changelog-begins : IsPrefixOf (h.changelog ++ r ∷ []) s.changelog
  changelog-begins = (extends.changelog.0, of.changelog ∙ extends.changelog.1 ∙ ap (λ l. l ++ extends.changelog.0) (changelog-one h c is))

  pub rest-is : rest ≡ r ∷ extends.changelog.0
  unfolding changelog-begins
  rest-is = append_cancel_left h.changelog rest (r ∷ extends.changelog.0) (sym state.lists ∙ changelog-begins.1 ∙ append_assoc h.changelog (r ∷ []) extends.changelog.0)

  manifest-begins : IsPrefixOf (manifest_with h c) s.manifest
  manifest-begins = (extends.manifest.0, of.manifest ∙ extends.manifest.1)

  filelog-begins : (path : List ℕ) → used path ≡ true → IsPrefixOf (filelog_with h c path) (s.filelog path)
  filelog-begins path u = ((extends.filelogs path).0, of.filelogs path u ∙ (extends.filelogs path).1)

  there-is : slice_get s.changelog (length front) ≡ Some r
  there-is = ap (slice_get s.changelog) (sym state.counted) ∙ slice_get-front (h.changelog ++ r ∷ []) s.changelog changelog-begins (length h.changelog) r (slice_get-last h.changelog r)

  first : IfSome c.parents.0 (λ q. q < length front)
  first = (are-before s.changelog (length front) r of.changelog_log.before there-is).first

  second : IfSome c.parents.1 (λ q. q < length front)
  second = (are-before s.changelog (length front) r of.changelog_log.before there-is).second

  -- ---- what is read

  abbrev v : Change
  v = changeset_text_value h c

  change-read : read_change r.text ≡ Ok v
  change-read = change_back v is.spelled

  change-is : x.change ≡ Some v
  change-is = ap value change-read

  number-below-all : manifest_number h c < length (manifest_with h c)
  number-below-all = number-below h.manifest (manifest_revision h c)

  manifest-placed : place s.manifest v.manifest ≡ Some (manifest_number h c)
  manifest-placed =
      ap (place s.manifest) (sym (node_at-front (manifest_with h c) s.manifest manifest-begins (manifest_number h c) number-below-all))
      ∙ place-at s.manifest of.manifest_log.different (manifest_number h c) (front-below (manifest_with h c) s.manifest manifest-begins (manifest_number h c) number-below-all)

  manifest-is : x.manifest ≡ Some (manifest_number h c)
  manifest-is = ap (option_and_then (λ (w : Change). place s.manifest w.manifest)) change-is ∙ manifest-placed

  manifest-read : read_manifest (text_at s.manifest (manifest_number h c)) ≡ Ok (rows_of h c)
  manifest-read =
      ap read_manifest (text_at-front (manifest_with h c) s.manifest manifest-begins (manifest_number h c) number-below-all ∙ number-text h.manifest (manifest_revision h c)) ∙ manifest_back (rows_of h c) (rows-good h c is)

  row-paths-are : row_paths (rows_of h c) ≡ tree_paths c.tree
  row-paths-are = rows-path (filelog_with h c) (placed_of h c) ∙ placed-paths h c c.tree

  tracked-are : list_all is_tracked (row_paths (rows_of h c)) ≡ true
  tracked-are = ap (list_all is_tracked) row-paths-are ∙ is.paths

  rows-are : x.rows ≡ Some (rows_of h c)
  rows-are = ap (sight_rows s x.change) manifest-is ∙ ap (λ o. option_map tracked_rows (value o)) manifest-read ∙ ap Some (kept-rows (rows_of h c) tracked-are)

  pub own-paths : row_paths (unwrap_or x.rows []) ≡ tree_paths c.tree
  own-paths = ap (λ o. row_paths (unwrap_or o [])) rows-are ∙ row-paths-are

  sound-then : IsSound (with_changeset h c)
  sound-then = sound-more h c state.sound is.ordered

  placed-below : AllByRecursion (λ (p : Placed). p.rev < length (filelog_with h c p.path)) (placed_of h c)
  placed-below = all-last (λ files. AllByRecursion (λ (p : Placed). p.rev < length (filelog_with h c p.path)) files) h.placed (placed_of h c) sound-then.files

  -- the node of a placed file stands at its number
  node-placed : (p : Placed) → used p.path ≡ true → p.rev < length (filelog_with h c p.path) → place (s.filelog p.path) (node_at (filelog_with h c p.path) p.rev) ≡ Some p.rev
  node-placed p u lt =
      ap (place (s.filelog p.path)) (sym (node_at-front (filelog_with h c p.path) (s.filelog p.path) (filelog-begins p.path u) p.rev lt))
      ∙ place-at (s.filelog p.path) (of.filelog_logs p.path u).different p.rev (front-below (filelog_with h c p.path) (s.filelog p.path) (filelog-begins p.path u) p.rev lt)

  -- the rows of some placed files
  record AreRowsOf (xs : List Placed) : Type 0 where
    files : AllByRecursion (λ (row : Row). (rev : ℕ) × (place (s.filelog row.path) row.node ≡ Some rev)) (map (row_of (filelog_with h c)) xs)
    back : map (placed_row s) (map (row_of (filelog_with h c)) xs) ≡ xs

  rows-of-placed : (xs : List Placed) → AllByRecursion (λ (p : Placed). p.rev < length (filelog_with h c p.path)) xs → ((path : List ℕ) → among path (map (λ (p : Placed). p.path) xs) ≡ true → used path ≡ true) → AreRowsOf xs
  rows-of-placed [] lt u = record { files = tt; back = refl }
  rows-of-placed (p ∷ xs) lt u =
      let one = node-placed p (u p.path (ap (λ b. b || among p.path (map (λ (q : Placed). q.path) xs)) (same-refl p.path))) lt.0 in
      let more = rows-of-placed xs lt.1 (λ path e. u path (right (same path p.path) (among path (map (λ (q : Placed). q.path) xs)) e)) in
      let rev : unwrap_or (place (s.filelog p.path) (node_at (filelog_with h c p.path) p.rev)) 0 ≡ p.rev = ap (λ o. unwrap_or o 0) one in
      let back = more.back in
      record { files = ((p.rev, one), more.files); back = λ i. record { path = p.path; flag = p.flag; rev = rev i } ∷ back i }
    where
      right : (a b : Bool) → b ≡ true → (a || b) ≡ true
      right true b e = refl
      right false b e = e

  all-rows : AreRowsOf (placed_of h c)
  all-rows = rows-of-placed (placed_of h c) placed-below (λ path e. uses_all path (ap (among path) (sym (placed-paths h c c.tree)) ∙ e))

  pub is-read : IsRead s x
  is-read = record {
    v = v;
    change = change-is;
    text = change-read;
    m = manifest_number h c;
    manifest = manifest-is;
    placed = manifest-placed;
    rows = rows_of h c;
    rows_are = rows-are;
    manifest_read = manifest-read;
    tracked = tracked-are;
    files = all-rows.files;
  }

  placed-is : placed_seen s x ≡ placed_of h c
  placed-is = ap (λ o. map (placed_row s) (unwrap_or o [])) rows-are ∙ all-rows.back

  -- ---- what it uses

  own-use : (path : List ℕ) → use_of s path x ≡ use_placed (option_map (λ (f : TreeFile). record { path = f.path; flag = f.flag; rev = rev_of_file h c f }) (find (λ (f : TreeFile). same f.path path) c.tree))
  own-use path =
      use-read s path x is-read ∙ ap (λ l. use_placed (placed_file l path)) placed-is ∙ ap use_placed (find-placed h c path c.tree)

  parent-uses : (path : List ℕ) (o : Option ℕ) → IfSome o (λ q. q < length front) → use_at s path all o ≡ use_placed (placed_file (placed_at h o) path)
  parent-uses path o lt = ap (λ l. use_at s path l o) state.whole ∙ parent-use s h path front (map (seen_of s) rest) o lt state.read state.placed

  -- what the filelog of a path has, and the naming, with this changeset
  pub record IsFileMade (path : List ℕ) : Type 0 where
    pub list : filelog_with h c path ≡ take (above (map (file_naming s path all) (front ++ x ∷ []))) (s.filelog path)
    pub fits : above (map (file_naming s path all) (front ++ x ∷ [])) ≤ length (s.filelog path)
    pub built : (more : List (Option Naming)) → IsBuilt (s.filelog path) (map (file_naming s path all) (front ++ x ∷ [])) more → IsBuilt (s.filelog path) (map (file_naming s path all) front) (file_naming s path all x ∷ more)

  pushed : (path : List ℕ) → map (file_naming s path all) (front ++ x ∷ []) ≡ map (file_naming s path all) front ++ file_naming s path all x ∷ []
  pushed path = map-append (file_naming s path all) front (x ∷ [])

  no-file : (path : List ℕ) → used path ≡ true → find (λ (f : TreeFile). same f.path path) c.tree ≡ None → IsFileMade path
  no-file path u e =
      let none : file_naming s path all x ≡ None = ap (λ w. naming_of w (file_rule (s.filelog path) (use_at s path all c.parents.0) (use_at s path all c.parents.1))) (own-use path ∙ ap (λ o. use_placed (option_map (λ (f : TreeFile). record { path = f.path; flag = f.flag; rev = rev_of_file h c f }) o)) e) in
      let namings : map (file_naming s path all) (front ++ x ∷ []) ≡ map (file_naming s path all) front ++ None ∷ [] = pushed path ∙ ap (λ n. map (file_naming s path all) front ++ n ∷ []) none in
      let same_above : above (map (file_naming s path all) (front ++ x ∷ [])) ≡ above (map (file_naming s path all) front) = ap above namings ∙ above-none (map (file_naming s path all) front) in
      record {
        list = ap (λ o. log_with_file h c o (h.filelog path)) e ∙ state.filelogs path u ∙ ap (λ k. take k (s.filelog path)) (sym same_above);
        fits = omega (arith, same_above, state.filelog_fits path u);
        built = λ more b. subst (λ n. IsBuilt (s.filelog path) (map (file_naming s path all) front) (n ∷ more)) (sym none) (subst (λ l. IsBuilt (s.filelog path) l more) namings b);
      }

  -- a file of the changeset that is found by its path
  module _ (f : TreeFile) (found : find (λ (g : TreeFile). same g.path f.path) c.tree ≡ Some f) (unpacks : unpacked (file_text f) ≡ (f.prefix, f.body)) (prefix : HasKeptPrefix h c f) (u : used f.path ≡ true) where
    abbrev L : List Revision
    L = s.filelog f.path

    abbrev N : ℕ
    N = above (map (file_naming s f.path all) front)

    abbrev a : Option ℕ
    a = rev_of (placed_file (placed_at h c.parents.0) f.path)

    abbrev b : Option ℕ
    b = rev_of (placed_file (placed_at h c.parents.1) f.path)

    abbrev p : Parents
    p = file_parents h c.parents f.path

    log-is : h.filelog f.path ≡ take N L
    log-is = state.filelogs f.path u

    shorter : length (h.filelog f.path) ≡ N
    shorter = ap length log-is ∙ length-take-le N L (state.filelog_fits f.path u)

    parents-are : file_parents_of (parents_in L) a b ≡ p
    parents-are =
        sym (file-parents-front L N a b (subst (IsBelow a) shorter (placed-some h c.parents.0 f.path state.sound)) (subst (IsBelow b) shorter (placed-some h c.parents.1 f.path state.sound)))
        ∙ ap (λ l. file_parents_of (parents_in l) a b) (sym log-is)

    p-below : AreTwoBelow p (length (h.filelog f.path))
    p-below = file-revision-below h c.parents f.path state.sound

    with-file : filelog_with h c f.path ≡ cond (is_some (kept h c.parents f.path f.body)) (h.filelog f.path) (with_revision (h.filelog f.path) (file_revision h c f))
    with-file = ap (λ o. log_with_file h c o (h.filelog f.path)) found

    begins-so : IsPrefixOf (cond (is_some (kept h c.parents f.path f.body)) (h.filelog f.path) (with_revision (h.filelog f.path) (file_revision h c f))) L
    begins-so = subst (λ l. IsPrefixOf l L) with-file (filelog-begins f.path u)

    -- the file's text stands with its number
    text-is : (o : Option ℕ) → kept h c.parents f.path f.body ≡ o → text_at L (rev_of_file h c f) ≡ file_text f
    text-is (Some k) e =
        let q = kept-found (h.filelog f.path) p.0 p.1 f.body k p-below.first e in
        let pre : f.prefix ≡ prefix_of (text_at (h.filelog f.path) k) = subst (λ o. IfSome o (λ rev. f.prefix ≡ prefix_of (text_at (h.filelog f.path) rev))) e prefix in
        ap (λ o. text_at L (unwrap_or o (number_of (h.filelog f.path) (file_text f) p))) e
        ∙ sym (text-take L N k (omega (arith, q.0, shorter))) ∙ ap (λ l. text_at l k) (sym log-is)
        ∙ sym (unpacked-joins (text_at (h.filelog f.path) k)) ∙ ap (λ t. t ++ body_of (text_at (h.filelog f.path) k)) (sym pre) ∙ ap (λ t. f.prefix ++ t) q.1
    text-is None e =
        let begins : IsPrefixOf (with_revision (h.filelog f.path) (file_revision h c f)) L = subst (λ o. IsPrefixOf (cond (is_some o) (h.filelog f.path) (with_revision (h.filelog f.path) (file_revision h c f))) L) e begins-so in
        ap (λ o. text_at L (unwrap_or o (number_of (h.filelog f.path) (file_text f) p))) e
        ∙ text_at-front (with_revision (h.filelog f.path) (file_revision h c f)) L begins (number_of (h.filelog f.path) (file_text f) p) (number-below (h.filelog f.path) (file_revision h c f))
        ∙ number-text (h.filelog f.path) (file_revision h c f)

    body-is : body_of (text_at L (rev_of_file h c f)) ≡ f.body
    body-is = ap body_of (text-is (kept h c.parents f.path f.body) refl) ∙ ap (λ q. q.1) unpacks

    kept-is : kept_of L p.0 p.1 (body_of (text_at L (rev_of_file h c f))) ≡ kept h c.parents f.path f.body
    kept-is =
        ap (kept_of L p.0 p.1) body-is ∙ sym (kept-front L N p.0 p.1 f.body (subst (IsBelow p.0) shorter p-below.first)) ∙ ap (λ l. kept_of l p.0 p.1 f.body) (sym log-is)

    pub rule-is : file_rule L (use_at s f.path all c.parents.0) (use_at s f.path all c.parents.1) (rev_of_file h c f) ≡ kept_or_made (kept h c.parents f.path f.body) p
    rule-is =
        ap (λ w. file_rule L w (use_at s f.path all c.parents.1) (rev_of_file h c f)) (parent-uses f.path c.parents.0 first)
        ∙ ap (λ w. file_rule L (use_placed (placed_file (placed_at h c.parents.0) f.path)) w (rev_of_file h c f)) (parent-uses f.path c.parents.1 second)
        ∙ told-placed (placed_file (placed_at h c.parents.0) f.path) (placed_file (placed_at h c.parents.1) f.path) (λ y z. rule_with L (file_parents_of (parents_in L) y z) (rev_of_file h c f))
        ∙ ap (λ (q : Parents). rule_with L q (rev_of_file h c f)) parents-are ∙ ap (λ o. kept_or_made o p) kept-is

    pub use-is : use_of s f.path x ≡ at (rev_of_file h c f) f.flag
    use-is = own-use f.path ∙ ap (λ o. use_placed (option_map (λ (g : TreeFile). record { path = g.path; flag = g.flag; rev = rev_of_file h c g }) o)) found

    abbrev n : Naming
    n = record { rev = rev_of_file h c f; rule = kept_or_made (kept h c.parents f.path f.body) p }

    naming-is : file_naming s f.path all x ≡ Some n
    naming-is = ap (λ w. naming_of w (file_rule L (use_at s f.path all c.parents.0) (use_at s f.path all c.parents.1))) use-is ∙ ap (λ q. Some (record { rev = rev_of_file h c f; rule = q })) rule-is

    namings-are : map (file_naming s f.path all) (front ++ x ∷ []) ≡ map (file_naming s f.path all) front ++ Some n ∷ []
    namings-are = pushed f.path ∙ ap (λ y. map (file_naming s f.path all) front ++ y ∷ []) naming-is

    grown : above (map (file_naming s f.path all) (front ++ x ∷ [])) ≡ max N (suc (rev_of_file h c f))
    grown = ap above namings-are ∙ above-push (map (file_naming s f.path all) front) n

    links-are : length h.placed ≡ length (map (file_naming s f.path all) front)
    links-are = ap length state.placed ∙ length-map front (placed_seen s) ∙ sym (length-map front (file_naming s f.path all))

    -- the naming is good, and the filelog is the front that is named
    record IsGoodFile : Type 0 where
      good : IsGood L (map (file_naming s f.path all) front) n n.rule
      list : filelog_with h c f.path ≡ take (above (map (file_naming s f.path all) (front ++ x ∷ []))) L

    good-file : IsGoodFile
    good-file = by (kept h c.parents f.path f.body) refl
      where
        by : (o : Option ℕ) → kept h c.parents f.path f.body ≡ o → IsGoodFile
        by (Some k) e =
            let q = kept-found (h.filelog f.path) p.0 p.1 f.body k p-below.first e in
            let number : rev_of_file h c f ≡ k = ap (λ o. unwrap_or o (number_of (h.filelog f.path) (file_text f) p)) e in
            let same_above : N ≡ above (map (file_naming s f.path all) (front ++ x ∷ [])) = omega (arith, grown, number, q.0, shorter) in
            record {
              good = subst (λ o. IsGood L (map (file_naming s f.path all) front) n (kept_or_made o p)) (sym e) (sym number, omega (arith, number, q.0, shorter));
              list = with-file ∙ ap (λ o. cond (is_some o) (h.filelog f.path) (with_revision (h.filelog f.path) (file_revision h c f))) e ∙ log-is ∙ ap (λ j. take j L) same_above;
            }
        by None e =
            let number : rev_of_file h c f ≡ number_of (h.filelog f.path) (file_text f) p = ap (λ o. unwrap_or o (number_of (h.filelog f.path) (file_text f) p)) e in
            let begins : IsPrefixOf (with_revision (h.filelog f.path) (file_revision h c f)) L = subst (λ o. IsPrefixOf (cond (is_some o) (h.filelog f.path) (with_revision (h.filelog f.path) (file_revision h c f))) L) e begins-so in
            let g = made-good L (h.filelog f.path) (map (file_naming s f.path all) front) (file_revision h c f) log-is (state.filelog_fits f.path u) shorter begins links-are n number in
            record {
              good = subst (λ o. IsGood L (map (file_naming s f.path all) front) n (kept_or_made o p)) (sym e) g.0;
              list = with-file ∙ ap (λ o. cond (is_some o) (h.filelog f.path) (with_revision (h.filelog f.path) (file_revision h c f))) e ∙ g.1 ∙ ap (λ l. take (above l) L) (sym namings-are);
            }

    fits-then : above (map (file_naming s f.path all) (front ++ x ∷ [])) ≤ length L
    fits-then =
        let placed_here : rev_of_file h c f < length L = below_all (placed-below-file c.tree placed-below found) in
        omega (arith, grown, state.filelog_fits f.path u, placed_here)
      where
        placed-below-file : (tree : List TreeFile) → AllByRecursion (λ (q : Placed). q.rev < length (filelog_with h c q.path)) (map (λ (g : TreeFile). record { path = g.path; flag = g.flag; rev = rev_of_file h c g }) tree)
            → find (λ (g : TreeFile). same g.path f.path) tree ≡ Some f → rev_of_file h c f < length (filelog_with h c f.path)
        placed-below-file [] lt e = none-some f e
        placed-below-file (g ∷ tree) lt e = step_on (same g.path f.path) (placed-below-file tree lt.1) e
          where
            step_on : (z : Bool) → (find (λ (k : TreeFile). same k.path f.path) tree ≡ Some f → rev_of_file h c f < length (filelog_with h c f.path)) → cond z (Some g) (find (λ (k : TreeFile). same k.path f.path) tree) ≡ Some f → rev_of_file h c f < length (filelog_with h c f.path)
            step_on true rec k = subst (λ (j : TreeFile). rev_of_file h c j < length (filelog_with h c j.path)) (some-same g g f k) lt.0
            step_on false rec k = rec k

        below_all : rev_of_file h c f < length (filelog_with h c f.path) → rev_of_file h c f < length L
        below_all lt = front-below (filelog_with h c f.path) L (filelog-begins f.path u) (rev_of_file h c f) lt

    pub file-made : IsFileMade f.path
    file-made = record {
      list = good-file.list;
      fits = fits-then;
      built = λ more bs. subst (λ y. IsBuilt L (map (file_naming s f.path all) front) (y ∷ more)) (sym naming-is) (good-file.good, subst (λ l. IsBuilt L l more) namings-are bs);
    }

  -- what is known of a file that is found by its path
  pub record IsFoundFile (path : List ℕ) (f : TreeFile) : Type 0 where
    pub here : f.path ≡ path
    pub found : find (λ (g : TreeFile). same g.path f.path) c.tree ≡ Some f
    pub unpacks : unpacked (file_text f) ≡ (f.prefix, f.body)
    pub prefix : HasKeptPrefix h c f
    pub uses_it : used f.path ≡ true

  found-file : (path : List ℕ) (f : TreeFile) → find (λ (g : TreeFile). same g.path path) c.tree ≡ Some f → IsFoundFile path f
  found-file path f e =
      let t = found-has (λ (g : TreeFile). unpacked (file_text g) ≡ (g.prefix, g.body)) (λ (g : TreeFile). same g.path path) c.tree f is.texts e in
      let p = found-has (HasKeptPrefix h c) (λ (g : TreeFile). same g.path path) c.tree f is.prefixes e in
      let here : f.path ≡ path = same-eq f.path path t.1 in
      let found : find (λ (g : TreeFile). same g.path f.path) c.tree ≡ Some f = ap (λ q. find (λ (g : TreeFile). same g.path q) c.tree) here ∙ e in
      record { here = here; found = found; unpacks = t.0; prefix = p.0; uses_it = uses_all f.path (among-found (λ (g : TreeFile). g.path) f.path c.tree ∙ ap is_some found) }

  pub made-at : (path : List ℕ) → used path ≡ true → IsFileMade path
  made-at path u = by (find (λ (g : TreeFile). same g.path path) c.tree) refl
    where
      by : (o : Option TreeFile) → find (λ (g : TreeFile). same g.path path) c.tree ≡ o → IsFileMade path
      by None e = no-file path u e
      by (Some f) e = let k = found-file path f e in subst IsFileMade k.here (file-made f k.found k.unpacks k.prefix k.uses_it)

  -- ---- the manifest

  abbrev mp : Parents
  mp = (manifest_revision h c).parents

  manifest-rule-is : manifest_rule all c.parents ≡ makes mp
  manifest-rule-is =
      ap (λ y. told y (manifest_parent all c.parents.1) (λ a b. makes (manifest_parents_of a b))) (ap (λ l. manifest_parent l c.parents.0) state.whole ∙ parent-manifest s h front (map (seen_of s) rest) c.parents.0 first state.read state.manifest_of)
      ∙ ap (λ y. told (Some (manifest_at h c.parents.0)) y (λ a b. makes (manifest_parents_of a b))) (ap (λ l. manifest_parent l c.parents.1) state.whole ∙ parent-manifest s h front (map (seen_of s) rest) c.parents.1 second state.read state.manifest_of)

  abbrev mn : Naming
  mn = record { rev = manifest_number h c; rule = makes mp }

  manifest-naming-is : manifest_naming all x ≡ Some mn
  manifest-naming-is = ap (λ o. option_map (λ m. record { rev = m; rule = manifest_rule all c.parents }) o) manifest-is ∙ ap (λ q. Some (record { rev = manifest_number h c; rule = q })) manifest-rule-is

  manifest-namings-are : map (manifest_naming all) (front ++ x ∷ []) ≡ map (manifest_naming all) front ++ Some mn ∷ []
  manifest-namings-are = map-append (manifest_naming all) front (x ∷ []) ∙ ap (λ y. map (manifest_naming all) front ++ y ∷ []) manifest-naming-is

  manifest-made : (IsOld s.manifest (map (manifest_naming all) front) mn mp ⊎ IsNew s.manifest (map (manifest_naming all) front) mn mp) × (manifest_with h c ≡ take (above (map (manifest_naming all) front ++ Some mn ∷ [])) s.manifest)
  manifest-made =
      made-good s.manifest h.manifest (map (manifest_naming all) front) (manifest_revision h c) state.manifest state.manifest_fits (ap length state.manifest ∙ length-take-le (above (map (manifest_naming all) front)) s.manifest state.manifest_fits) manifest-begins
      (ap length state.placed ∙ length-map front (placed_seen s) ∙ sym (length-map front (manifest_naming all))) mn refl

  pub manifest-built : (more : List (Option Naming)) → IsBuilt s.manifest (map (manifest_naming all) (front ++ x ∷ [])) more → IsBuilt s.manifest (map (manifest_naming all) front) (manifest_naming all x ∷ more)
  manifest-built more bs = subst (λ y. IsBuilt s.manifest (map (manifest_naming all) front) (y ∷ more)) (sym manifest-naming-is) (manifest-made.0, subst (λ l. IsBuilt s.manifest l more) manifest-namings-are bs)

  -- ---- the changed files

  abbrev pa : List ℕ → Option Placed
  pa path = placed_file (placed_at h c.parents.0) path

  abbrev pb : List ℕ → Option Placed
  pb path = placed_file (placed_at h c.parents.1) path

  changed-at : (path : List ℕ) → among path (changed_paths h c) ≡ (is_so (λ (f : TreeFile). f.path) (is_changed h c) (find (λ (f : TreeFile). same f.path path) c.tree)
      || (not (is_some (find (λ (f : TreeFile). same f.path path) c.tree)) && (is_some (pa path) || is_some (pb path))))
  changed-at path =
      among-in_order path (tree_paths (filter (is_changed h c) c.tree) ++ removed_paths h c)
      ∙ among-join path (tree_paths (filter (is_changed h c) c.tree)) (removed_paths h c)
      ∙ ap (λ z. z || among path (removed_paths h c)) (among-filtered (λ (f : TreeFile). f.path) (is_changed h c) path c.tree is.ordered)
      ∙ ap (λ z. is_so (λ (f : TreeFile). f.path) (is_changed h c) (find (λ (f : TreeFile). same f.path path) c.tree) || z) removed
    where
      removed : among path (removed_paths h c) ≡ (not (is_some (find (λ (f : TreeFile). same f.path path) c.tree)) && (is_some (pa path) || is_some (pb path)))
      removed =
          among-filter (λ q. not (among q (tree_paths c.tree))) path (map (λ (y : Placed). y.path) (placed_at h c.parents.0 ++ placed_at h c.parents.1))
          ∙ ap (λ z. not z && among path (map (λ (y : Placed). y.path) (placed_at h c.parents.0 ++ placed_at h c.parents.1))) (among-found (λ (f : TreeFile). f.path) path c.tree)
          ∙ ap (λ z. not (is_some (find (λ (f : TreeFile). same f.path path) c.tree)) && z)
          (ap (among path) (map-append (λ (y : Placed). y.path) (placed_at h c.parents.0) (placed_at h c.parents.1))
          ∙ among-join path (map (λ (y : Placed). y.path) (placed_at h c.parents.0)) (map (λ (y : Placed). y.path) (placed_at h c.parents.1))
          ∙ ap (λ z. z || among path (map (λ (y : Placed). y.path) (placed_at h c.parents.1))) (among-found (λ (y : Placed). y.path) path (placed_at h c.parents.0))
          ∙ ap (λ z. is_some (pa path) || z) (among-found (λ (y : Placed). y.path) path (placed_at h c.parents.1)))

  or-false : (y : Bool) → (y || false) ≡ y
  or-false true = refl
  or-false false = refl

  -- what the sight's rules give for a path, the parents' uses being those of the history
  abbrev rules-give : List ℕ → Use → Bool
  rules-give path w = sight.is_changed w (first_of (flag_in (use_placed (pa path))) (flag_in (use_placed (pb path)))) (sight.rule_of w (file_rule (s.filelog path) (use_at s path all c.parents.0) (use_at s path all c.parents.1)))

  gives-same : (path : List ℕ) → among path (changed_paths h c) ≡ rules-give path (use_of s path x)
  gives-same path = changed-at path ∙ by (find (λ (f : TreeFile). same f.path path) c.tree) refl
    where
      gone : (y z : Option Placed) → (is_some y || is_some z) ≡ sight.is_changed absent (first_of (flag_in (use_placed y)) (flag_in (use_placed z))) untold
      gone None None = refl
      gone None (Some z) = refl
      gone (Some y) None = refl
      gone (Some y) (Some z) = refl

      flags : (flag : Flag) (y z : Option Placed) → has_other_flag flag (first_of y z) ≡ is_other_flag flag (first_of (flag_in (use_placed y)) (flag_in (use_placed z)))
      flags flag None None = refl
      flags flag None (Some z) = refl
      flags flag (Some y) None = refl
      flags flag (Some y) (Some z) = refl

      made : (o : Option ℕ) (q : Parents) → is_none o ≡ is_made (kept_or_made o q)
      made None q = refl
      made (Some k) q = refl

      at_file : (f : TreeFile) → IsFoundFile path f → (is_changed h c f || (false && (is_some (pa f.path) || is_some (pb f.path)))) ≡ rules-give f.path (use_of s f.path x)
      at_file f k =
          or-false (is_changed h c f)
          ∙ ap (λ z. z || has_other_flag f.flag (parent_file h c.parents f.path)) (made (kept h c.parents f.path f.body) (file_parents h c.parents f.path) ∙ ap is_made (sym (rule-is f k.found k.unpacks k.prefix k.uses_it)))
          ∙ ap (λ z. is_made (file_rule (s.filelog f.path) (use_at s f.path all c.parents.0) (use_at s f.path all c.parents.1) (rev_of_file h c f)) || z) (flags f.flag (pa f.path) (pb f.path))
          ∙ ap (rules-give f.path) (sym (use-is f k.found k.unpacks k.prefix k.uses_it))

      by : (o : Option TreeFile) → find (λ (f : TreeFile). same f.path path) c.tree ≡ o → (is_so (λ (f : TreeFile). f.path) (is_changed h c) o || (not (is_some o) && (is_some (pa path) || is_some (pb path)))) ≡ rules-give path (use_of s path x)
      by None e =
          gone (pa path) (pb path) ∙ ap (rules-give path) (sym (own-use path ∙ ap (λ o. use_placed (option_map (λ (f : TreeFile). record { path = f.path; flag = f.flag; rev = rev_of_file h c f }) o)) e))
      by (Some f) e =
          let k = found-file path f e in
          subst (λ q. (is_changed h c f || (false && (is_some (pa q) || is_some (pb q)))) ≡ rules-give q (use_of s q x)) k.here (at_file f k)

  agree : (y z : Bool) → y ≡ z → differ y z ≡ false
  agree true true e = refl
  agree true false e = e
  agree false true e = sym e
  agree false false e = refl

  and-last : (y z : Bool) → z ≡ false → (y && z) ≡ false
  and-last true z e = e
  and-last false z e = refl

  pub right-list : (path : List ℕ) → is_wrongly_listed s path all x v ≡ false
  right-list path =
      ap (λ w. sight.is_known (use_of s path x) && sight.is_known w && sight.is_known (use_at s path all c.parents.1) && differ (among path v.files) (sight.is_changed (use_of s path x) (first_of (flag_in w) (flag_in (use_at s path all c.parents.1))) (sight.rule_of (use_of s path x) (file_rule (s.filelog path) (use_at s path all c.parents.0) (use_at s path all c.parents.1))))) (parent-uses path c.parents.0 first)
      ∙ ap (λ w. sight.is_known (use_of s path x) && sight.is_known (use_placed (pa path)) && sight.is_known w && differ (among path v.files) (sight.is_changed (use_of s path x) (first_of (flag_in (use_placed (pa path))) (flag_in w)) (sight.rule_of (use_of s path x) (file_rule (s.filelog path) (use_at s path all c.parents.0) (use_at s path all c.parents.1))))) (parent-uses path c.parents.1 second)
      ∙ and-last (sight.is_known (use_of s path x) && sight.is_known (use_placed (pa path)) && sight.is_known (use_placed (pb path))) _ (agree (among path (changed_paths h c)) (rules-give path (use_of s path x)) (gives-same path))

  pub right-any : (w : Change) (path : List ℕ) → x.change ≡ Some w → is_wrongly_listed s path all x w ≡ false
  right-any w path e = subst (λ q. is_wrongly_listed s path all x q ≡ false) (some-same v v w (sym change-is ∙ e)) (right-list path)

  -- ---- on to the next

  pub made-next : IsMade s used all (front ++ x ∷ []) extends.changelog.0 (with_changeset h c)
  made-next =
      record {
        whole = state.whole ∙ ap (λ l. front ++ map (seen_of s) l) rest-is ∙ sym (append_assoc front (x ∷ []) (map (seen_of s) extends.changelog.0));
        lists = of.changelog ∙ extends.changelog.1;
        counted = ap length (changelog-one h c is) ∙ length-append h.changelog (r ∷ []) ∙ (let l = length-append front (x ∷ []) in omega (arith, l, state.counted));
        read = all-push (IsRead s) front x state.read is-read;
        manifest = manifest-made.1 ∙ ap (λ l. take (above l) s.manifest) (sym manifest-namings-are);
        manifest_fits = omega (arith, ap above manifest-namings-are, above-push (map (manifest_naming all) front) mn, state.manifest_fits, front-below (manifest_with h c) s.manifest manifest-begins (manifest_number h c) number-below-all);
        filelogs = λ path u. (made-at path u).list;
        filelog_fits = λ path u. (made-at path u).fits;
        placed = ap (λ l. l ++ placed_of h c ∷ []) state.placed ∙ ap (λ y. map (placed_seen s) front ++ y ∷ []) (sym placed-is) ∙ sym (map-append (placed_seen s) front (x ∷ []));
        manifest_of = ap (λ l. l ++ manifest_number h c ∷ []) state.manifest_of ∙ ap (λ y. map manifest_number_of front ++ y ∷ []) (sym (ap (λ o. unwrap_or o 0) manifest-is)) ∙ sym (map-append manifest_number_of front (x ∷ []));
        sound = sound-then;
      }
