-- The next changeset as a whole: it may come after those before it, and the history with it has what the files have.
use Rattle.std.proofs.Common.{◌≡◌, ℕ, suc, ◌<◌, ◌≤◌, List, [], ◌∷◌, ◌++◌, Bool, true, false, cond, ◌&&◌, ◌||◌, not, length, take, drop, map, refl, sym, ◌∙◌, ap, subst, arith, length-append}
use Rattle.std.specs.Prelude.{Option, Some, None, IfSome, option_map, unwrap_or, is_some, is_none, slice_get, find, filter}
use Rattle.std.specs.List.{AllByRecursion, list_all}
use Rattle.std.proofs.lemmas.List.{map-append, length-map, length-take-le, take-append-drop}
use Rattle.hgs_bytes.specs.Bytes.{same, among, IsPrefixOf}
use Rattle.hgs_bytes.specs.Text.{ascends}
use Rattle.hgs_index.specs.declared.kinds.Flag.{Flag}
use Rattle.hgs_index.specs.ChangeText.{IsChange, change_text}
use Rattle.hgs_index.specs.Theorems.ChangeTextLemmas.{change_found}
use Rattle.hgs_index.specs.FileText.{unpacked}
use Rattle.hgs_index.specs.Theorems.FileTextLemmas.{unpacked-joins}
use Rattle.hgs_index.specs.Manifest.{Row, AscendFrom, AreRows, manifest_text}
use Rattle.hgs_index.specs.Theorems.ManifestText.{manifest_found}
use Rattle.hgs_index.specs.Revision.{Parents, Revision, standing, with_revision, number_of}
use Rattle.hgs_index.specs.TrackedPath.{is_tracked}
use Rattle.hgs_model.specs.Repo.{Changeset, TreeFile, file_text, tree_paths}
use Rattle.hgs_model.specs.History.{History, Placed, placed_at, placed_file, placed_of, text_at, node_at, kept, file_parents, rev_of_file, log_with_file, filelog_with, row_of, rows_of, manifest_at, manifest_parents_of, manifest_revision, manifest_with, manifest_number, first_of, parent_file, has_other_flag, is_changed, removed_paths, changed_paths, changeset_text_value, changeset_revision, with_changeset}
use Rattle.hgs_model.specs.IsRepo.{IsNextChangeset, HasKeptPrefix}
use Rattle.hgs_model.specs.Theorems.NewChangesetLemmas.{in_order-ordered}
use Rattle.hgs_model.specs.Theorems.CountLemmas.{sound-more, changelog-one}
use Rattle.hgs_stands.specs.Theorems.ListedLemmas.{node_at-front}
use Rattle.hgs_findings.specs.Built.{above}
use Rattle.hgs_findings.specs.Namings.{makes, untold, Naming, FollowsRules}
use Rattle.hgs_findings.specs.Sight.{Sight, Seen, Use, absent, at, place, row_paths, use_of_place, use_of_row, use_in, use_of, use_at, kept_or_made, file_rule, file_naming, naming_of, manifest_rule, manifest_naming, manifest_parent, told, tree_file, flag_in, is_other_flag, is_made, differ, is_wrongly_listed}
use Rattle.hgs_findings.specs.Sight as sight
use Rattle.hgs_findings.proofs.Basics.{same-eq, never, found-has}
use Rattle.hgs_findings.proofs.NamingLemmas.{above-push, above-none, made-step}
use Rattle.hgs_findings.proofs.LogLemmas.{IsLog, fresh, one-more}
use Rattle.hgs_findings.proofs.OrderLemmas.{ascend-same, among-join, among-in_order, among-filter, among-found, among-filtered, found-itself, is_so}
use Rattle.hgs_findings.proofs.SightLemmas.{IsRead, placed_row, placed_seen, use_placed, parent-manifest, manifest_number_of}
use Rattle.hgs_findings.proofs.StepLemmas.{IsStep, log-step, place-below, place-node, file-inside, manifest-inside, IsReplayed, IsFileStep, next, parent-uses, file-step}

-- ---- rows

ascends-from : (last : List ℕ) (rows : List Row) → AscendFrom last rows → ascends (row_paths rows) ≡ true
ascends-from last [] a = refl
ascends-from last (x ∷ []) a = refl
ascends-from last (x ∷ y ∷ rows) a = ap (λ b. b && ascends (row_paths (y ∷ rows))) a.2.1 ∙ ascends-from x.path (y ∷ rows) a.2

find-mapped : (s : Sight) (path : List ℕ) (rows : List Row) → find (λ (f : TreeFile). same f.path path) (map (tree_file s) rows) ≡ option_map (tree_file s) (find (λ (r : Row). same r.path path) rows)
find-mapped s path [] = refl
find-mapped s path (row ∷ rows) = by (same row.path path) (find-mapped s path rows)
  where
    by : (b : Bool) → find (λ (f : TreeFile). same f.path path) (map (tree_file s) rows) ≡ option_map (tree_file s) (find (λ (r : Row). same r.path path) rows)
        → cond b (Some (tree_file s row)) (find (λ (f : TreeFile). same f.path path) (map (tree_file s) rows)) ≡ option_map (tree_file s) (cond b (Some row) (find (λ (r : Row). same r.path path) rows))
    by true rec = refl
    by false rec = rec

tree-paths : (s : Sight) (rows : List Row) → tree_paths (map (tree_file s) rows) ≡ row_paths rows
tree-paths s [] = refl
tree-paths s (row ∷ rows) = ap (λ l. row.path ∷ l) (tree-paths s rows)

all-texts : (s : Sight) (rows : List Row) → AllByRecursion (λ (f : TreeFile). unpacked (file_text f) ≡ (f.prefix, f.body)) (map (tree_file s) rows)
all-texts s [] = tt
all-texts s (row ∷ rows) = (ap unpacked (unpacked-joins (text_at (s.filelog row.path) (unwrap_or (place (s.filelog row.path) row.node) 0))), all-texts s rows)

take-front : {A : Type 0} (k : ℕ) (xs : List A) → IsPrefixOf (take k xs) xs
take-front k xs = (drop k xs, sym (take-append-drop k xs))

node-take : (log : List Revision) (k v : ℕ) → k ≤ length log → v < k → node_at (take k log) v ≡ node_at log v
node-take log k v le lt = sym (node_at-front (take k log) log (take-front k log) v (omega (arith, lt, length-take-le k log le)))

-- ---- one changeset

-- what the lists say beside what is read of the changeset
pub record IsNext (s : Sight) (all front : List Seen) (c : Seen) (is : IsRead s c) : Type 0 where
  pub there : slice_get s.changelog (length front) ≡ Some c.revision
  pub link : c.revision.link ≡ length front
  pub first : IfSome c.revision.parents.0 (λ q. q < length front)
  pub second : IfSome c.revision.parents.1 (λ q. q < length front)
  pub logs : (path : List ℕ) → among path (row_paths is.rows) ≡ true → IsLog (s.filelog path)
  pub rules : (path : List ℕ) → among path (row_paths is.rows) ≡ true → FollowsRules (s.filelog path) (map (file_naming s path all) all)
  pub listed : (path : List ℕ) → is_wrongly_listed s path all c is.v ≡ false

pub record AreLists (s : Sight) (all : List Seen) : Type 0 where
  pub changelog : IsLog s.changelog
  pub manifest : IsLog s.manifest
  pub rules : FollowsRules s.manifest (map (manifest_naming all) all)
  pub read : AllByRecursion (IsRead s) all

module _ (s : Sight) (all front more : List Seen) (c : Seen) (whole : all ≡ front ++ c ∷ more) (before : AllByRecursion (IsRead s) front) (is : IsRead s c) (h : History) (state : IsReplayed s all front h)
    (lists : AreLists s all) (n : IsNext s all front c is) where
  abbrev d : Changeset
  d = next s all front more c whole before is h state n.first n.second

  good : (text_at s.manifest is.m ≡ manifest_text is.rows) × AreRows is.rows
  good = manifest_found (text_at s.manifest is.m) is.rows is.manifest_read

  ordered : ascends (row_paths is.rows) ≡ true
  ordered = ascends-from [] is.rows good.1

  -- each row's file
  abbrev IsRowStep : Row → Type 0
  IsRowStep row = (v : ℕ) × (place (s.filelog row.path) row.node ≡ Some v) × IsFileStep s all front c h d row.path (tree_file s row) v

  row-step : (row : Row) → find (λ (r : Row). same r.path row.path) is.rows ≡ Some row → ((v : ℕ) × (place (s.filelog row.path) row.node ≡ Some v)) → IsRowStep row
  row-step row found placed =
      let used : among row.path (row_paths is.rows) ≡ true = among-found (λ (r : Row). r.path) row.path is.rows ∙ ap is_some found in
      (placed.0, placed.1, file-step s all front more c whole before is h state n.first n.second row found placed.0 placed.1 (n.logs row.path used) (n.rules row.path used))

  row-steps : (xs : List Row) → AllByRecursion (λ (row : Row). find (λ (r : Row). same r.path row.path) is.rows ≡ Some row) xs → AllByRecursion (λ (row : Row). (v : ℕ) × (place (s.filelog row.path) row.node ≡ Some v)) xs → AllByRecursion IsRowStep xs
  row-steps [] found placed = tt
  row-steps (row ∷ xs) found placed = (row-step row found.0 placed.0, row-steps xs found.1 placed.1)

  steps : AllByRecursion IsRowStep is.rows
  steps = row-steps is.rows (found-itself (λ (r : Row). r.path) is.rows ordered) is.files

  -- ---- files

  placed-rows : (xs : List Row) → AllByRecursion IsRowStep xs → map (λ (f : TreeFile). record { path = f.path; flag = f.flag; rev = rev_of_file h d f }) (map (tree_file s) xs) ≡ map (placed_row s) xs
  placed-rows [] all_steps = refl
  placed-rows (row ∷ xs) all_steps =
      let one : rev_of_file h d (tree_file s row) ≡ unwrap_or (place (s.filelog row.path) row.node) 0 = all_steps.0.2.number ∙ sym (ap (λ o. unwrap_or o 0) all_steps.0.1) in
      let rest = placed-rows xs all_steps.1 in
      λ i. record { path = row.path; flag = row.flag; rev = one i } ∷ rest i

  placed-is : placed_of h d ≡ placed_seen s c
  placed-is = placed-rows is.rows steps ∙ ap (λ o. map (placed_row s) (unwrap_or o [])) (sym is.rows_are)

  log-is : (path : List ℕ) → filelog_with h d path ≡ take (above (map (file_naming s path all) (front ++ c ∷ []))) (s.filelog path)
  log-is path = ap (λ o. log_with_file h d o (h.filelog path)) (find-mapped s path is.rows) ∙ by (find (λ (r : Row). same r.path path) is.rows) refl
    where
      by : (o : Option Row) → find (λ (r : Row). same r.path path) is.rows ≡ o → log_with_file h d (option_map (tree_file s) o) (h.filelog path) ≡ take (above (map (file_naming s path all) (front ++ c ∷ []))) (s.filelog path)
      by None e =
          let none : file_naming s path all c ≡ None = ap (λ u. naming_of u (file_rule (s.filelog path) (use_at s path all c.revision.parents.0) (use_at s path all c.revision.parents.1))) (ap (use_in (s.filelog path) path) is.rows_are ∙ ap (use_of_row (s.filelog path)) e) in
          let same_count : above (map (file_naming s path all) front) ≡ above (map (file_naming s path all) (front ++ c ∷ [])) =
          sym (ap above (map-append (file_naming s path all) front (c ∷ []) ∙ ap (λ x. map (file_naming s path all) front ++ x ∷ []) none) ∙ above-none (map (file_naming s path all) front)) in
          state.filelogs path ∙ ap (λ k. take k (s.filelog path)) same_count
      by (Some row) e =
          let f = found-has IsRowStep (λ (r : Row). same r.path path) is.rows row steps e in
          subst (λ q. log_with_file h d (Some (tree_file s row)) (h.filelog q) ≡ take (above (map (file_naming s q all) (front ++ c ∷ []))) (s.filelog q)) (same-eq row.path path f.1) f.0.2.list

  row-again : (row : Row) → IsRowStep row → row_of (filelog_with h d) (record { path = row.path; flag = row.flag; rev = rev_of_file h d (tree_file s row) }) ≡ row
  row-again row step =
      let node : node_at (filelog_with h d row.path) (rev_of_file h d (tree_file s row)) ≡ row.node =
      ap (λ l. node_at l (rev_of_file h d (tree_file s row))) (log-is row.path) ∙ ap (node_at (take (above (map (file_naming s row.path all) (front ++ c ∷ []))) (s.filelog row.path))) step.2.number
      ∙ node-take (s.filelog row.path) (above (map (file_naming s row.path all) (front ++ c ∷ []))) step.0 (file-inside s row.path all (front ++ c ∷ [])) step.2.below ∙ place-node (s.filelog row.path) row.node step.0 step.1 in
      λ i. record { path = row.path; node = node i; flag = row.flag }

  rows-again : (xs : List Row) → AllByRecursion IsRowStep xs → map (row_of (filelog_with h d)) (map (λ (f : TreeFile). record { path = f.path; flag = f.flag; rev = rev_of_file h d f }) (map (tree_file s) xs)) ≡ xs
  rows-again [] all_steps = refl
  rows-again (row ∷ xs) all_steps = let one = row-again row all_steps.0 in let rest = rows-again xs all_steps.1 in λ i. one i ∷ rest i

  -- ---- the manifest

  text-is : manifest_text (rows_of h d) ≡ text_at s.manifest is.m
  text-is = ap manifest_text (rows-again is.rows steps) ∙ sym good.0

  abbrev p : Parents
  p = (manifest_revision h d).parents

  rule-is : manifest_rule all c.revision.parents ≡ makes p
  rule-is =
      ap (λ x. told x (manifest_parent all c.revision.parents.1) (λ a b. makes (manifest_parents_of a b))) (ap (λ l. manifest_parent l c.revision.parents.0) whole ∙ parent-manifest s h front (c ∷ more) c.revision.parents.0 n.first before state.manifest_of)
      ∙ ap (λ x. told (Some (manifest_at h c.revision.parents.0)) x (λ a b. makes (manifest_parents_of a b))) (ap (λ l. manifest_parent l c.revision.parents.1) whole ∙ parent-manifest s h front (c ∷ more) c.revision.parents.1 n.second before state.manifest_of)

  abbrev named : Naming
  named = record { rev = is.m; rule = makes p }

  naming-is : manifest_naming all c ≡ Some named
  naming-is = ap (λ o. option_map (λ m. record { rev = m; rule = manifest_rule all c.revision.parents }) o) is.manifest ∙ ap (λ r. Some (record { rev = is.m; rule = r })) rule-is

  namings-are : map (manifest_naming all) all ≡ map (manifest_naming all) front ++ Some named ∷ map (manifest_naming all) more
  namings-are = ap (map (manifest_naming all)) whole ∙ map-append (manifest_naming all) front (c ∷ more) ∙ ap (λ x. map (manifest_naming all) front ++ x ∷ map (manifest_naming all) more) naming-is

  with-it : map (manifest_naming all) (front ++ c ∷ []) ≡ map (manifest_naming all) front ++ Some named ∷ []
  with-it = map-append (manifest_naming all) front (c ∷ []) ∙ ap (λ x. map (manifest_naming all) front ++ x ∷ []) naming-is

  manifest-step : IsStep s.manifest (map (manifest_naming all) front) named (manifest_revision h d)
  manifest-step =
      log-step s.manifest lists.manifest (map (manifest_naming all) front) named (manifest_revision h d)
      (made-step s.manifest (map (manifest_naming all) all) lists.rules (λ rev lt. omega (arith, lt, manifest-inside s all all lists.read)) (map (manifest_naming all) front) (map (manifest_naming all) more) named p namings-are refl)
      (manifest-inside s all front before) text-is (ap length state.placed ∙ length-map front (placed_seen s) ∙ sym (length-map front (manifest_naming all)))

  number-is : manifest_number h d ≡ is.m
  number-is = ap (λ l. number_of l (manifest_revision h d).text p) state.manifest ∙ manifest-step.number

  manifest-is : manifest_with h d ≡ take (above (map (manifest_naming all) (front ++ c ∷ []))) s.manifest
  manifest-is = ap (λ l. with_revision l (manifest_revision h d)) state.manifest ∙ manifest-step.list ∙ ap (λ l. take (above l) s.manifest) (sym with-it)

  node-is : node_at (manifest_with h d) (manifest_number h d) ≡ is.v.manifest
  node-is =
      let fits : above (map (manifest_naming all) (front ++ c ∷ [])) ≤ length s.manifest = omega (arith, ap above with-it, above-push (map (manifest_naming all) front) named, manifest-inside s all front before, place-below s.manifest is.v.manifest is.m is.placed) in
      ap (λ l. node_at l (manifest_number h d)) manifest-is ∙ ap (node_at (take (above (map (manifest_naming all) (front ++ c ∷ []))) s.manifest)) number-is
      ∙ node-take s.manifest (above (map (manifest_naming all) (front ++ c ∷ []))) is.m fits (omega (arith, ap above with-it, above-push (map (manifest_naming all) front) named)) ∙ place-node s.manifest is.v.manifest is.m is.placed

  -- ---- the changed files

  abbrev a : List ℕ → Option Placed
  a path = placed_file (placed_at h c.revision.parents.0) path

  abbrev b : List ℕ → Option Placed
  b path = placed_file (placed_at h c.revision.parents.1) path

  not-differ : (x y : Bool) → differ x y ≡ false → x ≡ y
  not-differ true true e = refl
  not-differ true false e = never e
  not-differ false true e = never e
  not-differ false false e = refl

  four : (w x y z : Bool) → w ≡ true → x ≡ true → y ≡ true → (w && x && y && z) ≡ false → z ≡ false
  four true true true z p q r e = e
  four true true false z p q r e = never (sym r)
  four true false y z p q r e = never (sym q)
  four false x y z p q r e = never (sym p)

  known-placed : (o : Option Placed) → sight.is_known (use_placed o) ≡ true
  known-placed None = refl
  known-placed (Some x) = refl

  abbrev result : List ℕ → Use → Option Placed → Option Placed → Bool
  result path u x y = sight.is_changed u (first_of (flag_in (use_placed x)) (flag_in (use_placed y))) (sight.rule_of u (file_rule (s.filelog path) (use_at s path all c.revision.parents.0) (use_at s path all c.revision.parents.1)))

  -- what the files list at a path is what the rules give there
  listed-is : (path : List ℕ) (u : Use) → use_of s path c ≡ u → sight.is_known u ≡ true → among path is.v.files ≡ sight.is_changed u (first_of (flag_in (use_placed (a path))) (flag_in (use_placed (b path)))) (sight.rule_of u (file_rule (s.filelog path) (use_at s path all c.revision.parents.0) (use_at s path all c.revision.parents.1)))
  listed-is path u own known = not-differ _ _ (by known (a path) (b path) test)
    where
      test : (sight.is_known u && sight.is_known (use_placed (a path)) && sight.is_known (use_placed (b path)) && differ (among path is.v.files) (result path u (a path) (b path))) ≡ false
      test =
          sym (ap (λ w. sight.is_known w && sight.is_known (use_at s path all c.revision.parents.0) && sight.is_known (use_at s path all c.revision.parents.1) && differ (among path is.v.files) (sight.is_changed w (first_of (flag_in (use_at s path all c.revision.parents.0)) (flag_in (use_at s path all c.revision.parents.1))) (sight.rule_of w (file_rule (s.filelog path) (use_at s path all c.revision.parents.0) (use_at s path all c.revision.parents.1))))) own
          ∙ ap (λ w. sight.is_known u && sight.is_known w && sight.is_known (use_at s path all c.revision.parents.1) && differ (among path is.v.files) (sight.is_changed u (first_of (flag_in w) (flag_in (use_at s path all c.revision.parents.1))) (sight.rule_of u (file_rule (s.filelog path) (use_at s path all c.revision.parents.0) (use_at s path all c.revision.parents.1))))) (parent-uses s all front more c whole before is h state n.first n.second path c.revision.parents.0 n.first)
          ∙ ap (λ w. sight.is_known u && sight.is_known (use_placed (a path)) && sight.is_known w && differ (among path is.v.files) (sight.is_changed u (first_of (flag_in (use_placed (a path))) (flag_in w)) (sight.rule_of u (file_rule (s.filelog path) (use_at s path all c.revision.parents.0) (use_at s path all c.revision.parents.1))))) (parent-uses s all front more c whole before is h state n.first n.second path c.revision.parents.1 n.second))
          ∙ n.listed path

      by : sight.is_known u ≡ true → (x y : Option Placed) → (sight.is_known u && sight.is_known (use_placed x) && sight.is_known (use_placed y) && differ (among path is.v.files) (result path u x y)) ≡ false → differ (among path is.v.files) (result path u x y) ≡ false
      by k x y e = four (sight.is_known u) (sight.is_known (use_placed x)) (sight.is_known (use_placed y)) (differ (among path is.v.files) (result path u x y)) k (known-placed x) (known-placed y) e

  paths-of-tree : (path : List ℕ) → find (λ (f : TreeFile). same f.path path) d.tree ≡ option_map (tree_file s) (find (λ (r : Row). same r.path path) is.rows)
  paths-of-tree path = find-mapped s path is.rows

  some-mapped : (o : Option Row) → is_some (option_map (tree_file s) o) ≡ is_some o
  some-mapped None = refl
  some-mapped (Some row) = refl

  -- which paths the history lists
  changed-at : (path : List ℕ) → among path (changed_paths h d) ≡ (is_so (λ (f : TreeFile). f.path) (is_changed h d) (option_map (tree_file s) (find (λ (r : Row). same r.path path) is.rows))
      || (not (is_some (find (λ (r : Row). same r.path path) is.rows)) && (is_some (a path) || is_some (b path))))
  changed-at path =
      among-in_order path (tree_paths (filter (is_changed h d) d.tree) ++ removed_paths h d)
      ∙ among-join path (tree_paths (filter (is_changed h d) d.tree)) (removed_paths h d)
      ∙ ap (λ z. z || among path (removed_paths h d)) (among-filtered (λ (f : TreeFile). f.path) (is_changed h d) path d.tree (ap ascends (tree-paths s is.rows) ∙ ordered) ∙ ap (is_so (λ (f : TreeFile). f.path) (is_changed h d)) (paths-of-tree path))
      ∙ ap (λ z. is_so (λ (f : TreeFile). f.path) (is_changed h d) (option_map (tree_file s) (find (λ (r : Row). same r.path path) is.rows)) || z) removed
    where
      removed : among path (removed_paths h d) ≡ (not (is_some (find (λ (r : Row). same r.path path) is.rows)) && (is_some (a path) || is_some (b path)))
      removed =
          among-filter (λ q. not (among q (tree_paths d.tree))) path (map (λ (x : Placed). x.path) (placed_at h c.revision.parents.0 ++ placed_at h c.revision.parents.1))
          ∙ ap (λ z. not z && among path (map (λ (x : Placed). x.path) (placed_at h c.revision.parents.0 ++ placed_at h c.revision.parents.1))) (among-found (λ (f : TreeFile). f.path) path d.tree ∙ ap is_some (paths-of-tree path) ∙ some-mapped (find (λ (r : Row). same r.path path) is.rows))
          ∙ ap (λ z. not (is_some (find (λ (r : Row). same r.path path) is.rows)) && z)
          (ap (among path) (map-append (λ (x : Placed). x.path) (placed_at h c.revision.parents.0) (placed_at h c.revision.parents.1))
          ∙ among-join path (map (λ (x : Placed). x.path) (placed_at h c.revision.parents.0)) (map (λ (x : Placed). x.path) (placed_at h c.revision.parents.1))
          ∙ ap (λ z. z || among path (map (λ (x : Placed). x.path) (placed_at h c.revision.parents.1))) (among-found (λ (x : Placed). x.path) path (placed_at h c.revision.parents.0))
          ∙ ap (λ z. is_some (a path) || z) (among-found (λ (x : Placed). x.path) path (placed_at h c.revision.parents.1)))

  or-false : (x : Bool) → (x || false) ≡ x
  or-false true = refl
  or-false false = refl

  same-listed : (path : List ℕ) → among path (changed_paths h d) ≡ among path is.v.files
  same-listed path = changed-at path ∙ by (find (λ (r : Row). same r.path path) is.rows) refl
    where
      -- only parents have the path
      gone : (x y : Option Placed) → (is_some x || is_some y) ≡ sight.is_changed absent (first_of (flag_in (use_placed x)) (flag_in (use_placed y))) untold
      gone None None = refl
      gone None (Some y) = refl
      gone (Some x) None = refl
      gone (Some x) (Some y) = refl

      flags : (flag : Flag) (x y : Option Placed) → has_other_flag flag (first_of x y) ≡ is_other_flag flag (first_of (flag_in (use_placed x)) (flag_in (use_placed y)))
      flags flag None None = refl
      flags flag None (Some y) = refl
      flags flag (Some x) None = refl
      flags flag (Some x) (Some y) = refl

      made : (o : Option ℕ) (q : Parents) → is_none o ≡ is_made (kept_or_made o q)
      made None q = refl
      made (Some k) q = refl

      at_row : (row : Row) → IsRowStep row → find (λ (r : Row). same r.path row.path) is.rows ≡ Some row → (is_changed h d (tree_file s row) || (false && (is_some (a row.path) || is_some (b row.path)))) ≡ among row.path is.v.files
      at_row row step found =
          let own : use_of s row.path c ≡ at step.0 row.flag = ap (use_in (s.filelog row.path) row.path) is.rows_are ∙ ap (use_of_row (s.filelog row.path)) found ∙ ap (use_of_place row.flag) step.1 in
          or-false (is_changed h d (tree_file s row))
          ∙ ap (λ z. z || has_other_flag row.flag (parent_file h c.revision.parents row.path)) (made (kept h c.revision.parents row.path (tree_file s row).body) (file_parents h c.revision.parents row.path) ∙ ap is_made (sym step.2.rule))
          ∙ ap (λ z. is_made (file_rule (s.filelog row.path) (use_at s row.path all c.revision.parents.0) (use_at s row.path all c.revision.parents.1) step.0) || z) (flags row.flag (a row.path) (b row.path))
          ∙ sym (listed-is row.path (at step.0 row.flag) own refl)

      by : (o : Option Row) → find (λ (r : Row). same r.path path) is.rows ≡ o → (is_so (λ (f : TreeFile). f.path) (is_changed h d) (option_map (tree_file s) o) || (not (is_some o) && (is_some (a path) || is_some (b path)))) ≡ among path is.v.files
      by None e =
          let own : use_of s path c ≡ absent = ap (use_in (s.filelog path) path) is.rows_are ∙ ap (use_of_row (s.filelog path)) e in
          gone (a path) (b path) ∙ sym (listed-is path absent own refl)
      by (Some row) e =
          let f = found-has IsRowStep (λ (r : Row). same r.path path) is.rows row steps e in
          let here : row.path ≡ path = same-eq row.path path f.1 in
          subst (λ q. (is_changed h d (tree_file s row) || (false && (is_some (a q) || is_some (b q)))) ≡ among q is.v.files) here
          (at_row row f.0 (ap (λ q. find (λ (r : Row). same r.path q) is.rows) here ∙ e))

  -- ---- the changeset's text

  spelled : (c.revision.text ≡ change_text is.v) × IsChange is.v
  spelled = change_found c.revision.text is.v is.text

  files-are : changed_paths h d ≡ is.v.files
  files-are = ascend-same (changed_paths h d) is.v.files (in_order-ordered (tree_paths (filter (is_changed h d) d.tree) ++ removed_paths h d)) spelled.1.ordered same-listed

  value-is : changeset_text_value h d ≡ is.v
  value-is = λ i. record { manifest = node-is i; user = is.v.user; seconds = is.v.seconds; offset = is.v.offset; extras = is.v.extras; files = files-are i; description = is.v.description }

  revision-is : changeset_revision h d ≡ c.revision
  revision-is =
      let text : change_text (changeset_text_value h d) ≡ c.revision.text = ap change_text value-is ∙ sym spelled.0 in
      let link : length h.placed ≡ c.revision.link = ap length state.placed ∙ length-map front (placed_seen s) ∙ sym n.link in
      λ i. record { text = text i; parents = c.revision.parents; link = link i }

  prefixes : (xs : List Row) → AllByRecursion IsRowStep xs → AllByRecursion (HasKeptPrefix h d) (map (tree_file s) xs)
  prefixes [] all_steps = tt
  prefixes (row ∷ xs) all_steps = (all_steps.0.2.prefix, prefixes xs all_steps.1)

  pub is-next : IsNextChangeset h d
  is-next = record {
    paths = ap (list_all is_tracked) (tree-paths s is.rows) ∙ is.tracked;
    ordered = ap ascends (tree-paths s is.rows) ∙ ordered;
    texts = all-texts s is.rows;
    prefixes = prefixes is.rows steps;
    spelled = subst IsChange (sym value-is) spelled.1;
    other = ap (λ l. standing l (changeset_revision h d).text c.revision.parents) state.changelog ∙ ap (λ (x : Revision). standing (take (length front) s.changelog) x.text x.parents) revision-is ∙ fresh s.changelog lists.changelog (length front) c.revision n.there;
  }

  pub replayed-next : IsReplayed s all (front ++ c ∷ []) (with_changeset h d)
  replayed-next =
      let count : suc (length front) ≡ length (front ++ c ∷ []) = omega (arith, length-append front (c ∷ [])) in
      record {
        changelog = changelog-one h d is-next ∙ ap (λ l. l ++ changeset_revision h d ∷ []) state.changelog ∙ ap (λ x. take (length front) s.changelog ++ x ∷ []) revision-is ∙ one-more s.changelog (length front) c.revision n.there ∙ ap (λ k. take k s.changelog) count;
        manifest = manifest-is;
        filelogs = log-is;
        placed = ap (λ l. l ++ placed_of h d ∷ []) state.placed ∙ ap (λ x. map (placed_seen s) front ++ x ∷ []) placed-is ∙ sym (map-append (placed_seen s) front (c ∷ []));
        manifest_of = ap (λ l. l ++ manifest_number h d ∷ []) state.manifest_of ∙ ap (λ x. map manifest_number_of front ++ x ∷ []) (number-is ∙ ap (λ o. unwrap_or o 0) (sym is.manifest)) ∙ sym (map-append manifest_number_of front (c ∷ []));
        sound = sound-more h d state.sound (ap ascends (tree-paths s is.rows) ∙ ordered);
      }
