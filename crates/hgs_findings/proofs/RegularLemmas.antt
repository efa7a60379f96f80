-- Where nothing is found in the lists, the changesets that they make have just these lists.
use Rattle.std.proofs.Common.{◌≡◌, ℕ, List, [], ◌∷◌, ◌++◌, Bool, true, false, cond, ◌||◌, length, map, refl, sym, ◌∙◌, ap, subst, arith, append_assoc, append-nil}
use Rattle.std.specs.Prelude.{Option, Some, None, Result, Ok, Err, option_map, option_and_then, unwrap_or, is_some, slice_get, flat_map}
use Rattle.std.specs.List.{AllByRecursion, list_all}
use Rattle.std.proofs.lemmas.List.{length-map, take_all}
use Rattle.std.proofs.lemmas.Option.{slice_get-map}
use Rattle.hgs_bytes.specs.Bytes.{among}
use Rattle.hgs_index.specs.ChangeText.{Change, read_change}
use Rattle.hgs_index.specs.Manifest.{Row, read_manifest}
use Rattle.hgs_index.specs.Revision.{Revision}
use Rattle.hgs_index.specs.TrackedPath.{is_tracked}
use Rattle.hgs_model.specs.Repo.{Changeset}
use Rattle.hgs_model.specs.History.{History, no_history, history, history_from, with_changeset, EachChangeset, text_at}
use Rattle.hgs_model.specs.IsRepo.{IsNextChangeset}
use Rattle.hgs_findings.specs.Built.{above}
use Rattle.hgs_findings.specs.Sight.{Sight, Seen, value, place, row_paths, tracked_rows, seen, seen_of, rows_of, no_change, changeset_with, changeset_of, changesets_of, manifest_naming, file_naming}
use Rattle.hgs_findings.specs.Regular.{rows_of_seen, is_used, are_tracked, is_manifest, is_change, has_file, IsRegular}
use Rattle.hgs_findings.proofs.Basics.{never, none-some, some-same, and-left, and-right, all-push, there}
use Rattle.hgs_findings.proofs.NamingLemmas.{all-named, eq-test}
use Rattle.hgs_findings.proofs.LogLemmas.{IsLog, are-before}
use Rattle.hgs_findings.proofs.OrderLemmas.{among-in_order, among-join}
use Rattle.hgs_findings.proofs.SightLemmas.{IsRead}
use Rattle.hgs_findings.proofs.StepLemmas.{IsReplayed, place-below, text-got, file-inside, manifest-inside}
use Rattle.hgs_findings.proofs.ChangesetLemmas.{AreLists, IsNext, is-next, replayed-next}

-- ---- what can be read

is-value : {A F : Type 0} (r : Result A F) → is_some (value r) ≡ true → (x : A) × (r ≡ Ok x)
is-value (Ok x) e = (x, refl)
is-value (Err fault) e = never (sym e)

is-there : {A : Type 0} (o : Option A) → is_some o ≡ true → (x : A) × (o ≡ Some x)
is-there None e = never (sym e)
is-there (Some x) e = (x, refl)

kept-rows : (rows : List Row) → list_all is_tracked (row_paths rows) ≡ true → tracked_rows rows ≡ rows
kept-rows [] e = refl
kept-rows (row ∷ rows) e =
    ap (λ b. cond b (row ∷ tracked_rows rows) (tracked_rows rows)) (and-left (is_tracked row.path) (list_all is_tracked (row_paths rows)) e)
    ∙ ap (λ l. row ∷ l) (kept-rows rows (and-right (is_tracked row.path) (list_all is_tracked (row_paths rows)) e))

all-files : (s : Sight) (rows : List Row) → list_all (has_file s) rows ≡ true → AllByRecursion (λ (row : Row). (rev : ℕ) × (place (s.filelog row.path) row.node ≡ Some rev)) rows
all-files s [] e = tt
all-files s (row ∷ rows) e = (is-there (place (s.filelog row.path) row.node) (and-left (has_file s row) (list_all (has_file s) rows) e), all-files s rows (and-right (has_file s row) (list_all (has_file s) rows) e))

-- what is looked at of one changeset
record IsReadable (s : Sight) (r : Revision) : Type 0 where
  change : is_change r.text ≡ true
  named : is_some (seen_of s r).manifest ≡ true
  manifest : (m : ℕ) → (seen_of s r).manifest ≡ Some m → is_manifest (text_at s.manifest m) ≡ true
  files : list_all (has_file s) (rows_of_seen (seen_of s r)) ≡ true

read-one : (s : Sight) (r : Revision) → IsReadable s r → IsRead s (seen_of s r)
read-one s r is =
    let v = is-value (read_change r.text) is.change in
    let change : value (read_change r.text) ≡ Some v.0 = ap value v.1 in
    let m = is-there (seen_of s r).manifest is.named in
    let rows = with_rows (value (read_manifest (text_at s.manifest m.0))) (is.manifest m.0 m.1) in
    let read = is-value (read_manifest (text_at s.manifest m.0)) (ap is_some rows.1) in
    let same_rows : read.0 ≡ rows.0 = some-same [] read.0 rows.0 (sym (ap value read.1) ∙ rows.1) in
    let rows_are : (seen_of s r).rows ≡ Some rows.0 = ap (rows_of s (value (read_change r.text))) m.1 ∙ ap (option_map tracked_rows) rows.1 ∙ ap Some (kept-rows rows.0 rows.2) in
    record {
      v = v.0;
      change = change;
      text = v.1;
      m = m.0;
      manifest = m.1;
      placed = sym (ap (option_and_then (λ (w : Change). place s.manifest w.manifest)) change) ∙ m.1;
      rows = rows.0;
      rows_are = rows_are;
      manifest_read = read.1 ∙ ap Ok same_rows;
      tracked = rows.2;
      files = all-files s rows.0 (ap (λ o. list_all (has_file s) (unwrap_or o [])) (sym rows_are) ∙ is.files);
    }
  where
    with_rows : (o : Option (List Row)) → are_tracked o ≡ true → (rows : List Row) × (o ≡ Some rows) × (list_all is_tracked (row_paths rows) ≡ true)
    with_rows None e = never (sym e)
    with_rows (Some rows) e = (rows, refl, e)

-- ---- all changesets

-- lists that bytes hold: no node twice, parents before
pub record AreLogs (s : Sight) : Type 0 where
  pub changelog : IsLog s.changelog
  pub manifest : IsLog s.manifest
  pub filelogs : (path : List ℕ) → is_used s path ≡ true → IsLog (s.filelog path)

module _ (s : Sight) (logs : AreLogs s) (regular : IsRegular s) where
  readable : (rev : ℕ) (r : Revision) → slice_get s.changelog rev ≡ Some r → IsReadable s r
  readable rev r e =
      let seen_is : slice_get (seen s) rev ≡ Some (seen_of s r) = slice_get-map (seen_of s) s.changelog rev ∙ ap (option_map (seen_of s)) e in
      record {
        change = regular.changes rev r e;
        named = regular.named rev (seen_of s r) seen_is;
        manifest = manifest;
        files = regular.files rev (seen_of s r) seen_is;
      }
    where
      manifest : (m : ℕ) → (seen_of s r).manifest ≡ Some m → is_manifest (text_at s.manifest m) ≡ true
      manifest m is =
          let v = is-value (read_change r.text) (regular.changes rev r e) in
          let placed : place s.manifest v.0.manifest ≡ Some m = sym (ap (option_and_then (λ (w : Change). place s.manifest w.manifest)) (ap value v.1)) ∙ is in
          let x = there s.manifest m (place-below s.manifest v.0.manifest m placed) in
          ap is_manifest (sym (text-got s.manifest m x.0 x.1)) ∙ regular.manifests m x.0 x.1

  reads-from : (front more : List Revision) → s.changelog ≡ front ++ more → AllByRecursion (IsRead s) (map (seen_of s) more)
  reads-from front [] e = tt
  reads-from front (r ∷ more) e = (
    read-one s r (readable (length front) r (ap (λ l. slice_get l (length front)) e ∙ at_seam front)),
    reads-from (front ++ r ∷ []) more (e ∙ sym (append_assoc front (r ∷ []) more)),
  )
    where
      at_seam : (xs : List Revision) → slice_get (xs ++ r ∷ more) (length xs) ≡ Some r
      at_seam [] = refl
      at_seam (x ∷ xs) = at_seam xs

  pub all-read : AllByRecursion (IsRead s) (seen s)
  all-read = reads-from [] s.changelog refl

  lists : AreLists s (seen s)
  lists = record { changelog = logs.changelog; manifest = logs.manifest; rules = regular.manifest_rules; read = all-read }

  used-among : (front : List Seen) (c : Seen) (more : List Seen) (path : List ℕ) → among path (row_paths (rows_of_seen c)) ≡ true → among path (flat_map (λ x. row_paths (rows_of_seen x)) (front ++ c ∷ more)) ≡ true
  used-among [] c more path e = among-join path (row_paths (rows_of_seen c)) (flat_map (λ x. row_paths (rows_of_seen x)) more) ∙ ap (λ b. b || among path (flat_map (λ x. row_paths (rows_of_seen x)) more)) e
  used-among (x ∷ front) c more path e =
      among-join path (row_paths (rows_of_seen x)) (flat_map (λ y. row_paths (rows_of_seen y)) (front ++ c ∷ more))
      ∙ ap (λ b. among path (row_paths (rows_of_seen x)) || b) (used-among front c more path e) ∙ or-true (among path (row_paths (rows_of_seen x)))
    where
      or-true : (b : Bool) → (b || true) ≡ true
      or-true true = refl
      or-true false = refl

  changeset-is : (c : Seen) (is : IsRead s c) → changeset_of s c ≡ changeset_with s c.revision.parents is.v is.rows
  changeset-is c is = ap (λ o. changeset_with s c.revision.parents (unwrap_or o no_change) (unwrap_or c.rows [])) is.change ∙ ap (λ o. changeset_with s c.revision.parents is.v (unwrap_or o [])) is.rows_are

  -- the changesets that are left, after those before them
  record AreReplayed (rest : List Seen) (h : History) : Type 0 where
    each : EachChangeset IsNextChangeset h (map (changeset_of s) rest)
    whole : IsReplayed s (seen s) (seen s) (history_from h (map (changeset_of s) rest))

  replay : (front rest : List Seen) (h : History) → seen s ≡ front ++ rest → AllByRecursion (IsRead s) front → AllByRecursion (IsRead s) rest → IsReplayed s (seen s) front h → AreReplayed rest h
  replay front [] h e before after state = record { each = tt; whole = subst (λ l. IsReplayed s (seen s) l h) (sym (e ∙ append-nil front)) state }
  replay front (c ∷ rest) h e before after state =
      let r = replay (front ++ c ∷ []) rest (with_changeset h d) (e ∙ sym (append_assoc front (c ∷ []) rest)) (all-push (IsRead s) front c before after.0) after.1 (replayed-next s (seen s) front rest c e before after.0 h state lists n) in
      let is : d ≡ changeset_of s c = sym (changeset-is c after.0) in
      record {
        each = (subst (IsNextChangeset h) is (is-next s (seen s) front rest c e before after.0 h state lists n), subst (λ x. EachChangeset IsNextChangeset (with_changeset h x) (map (changeset_of s) rest)) is r.each);
        whole = subst (λ x. IsReplayed s (seen s) (seen s) (history_from (with_changeset h x) (map (changeset_of s) rest))) is r.whole;
      }
    where
      d : Changeset
      d = changeset_with s c.revision.parents after.0.v after.0.rows

      seen_here : slice_get (seen s) (length front) ≡ Some c
      seen_here = ap (λ l. slice_get l (length front)) e ∙ at_seam front
        where
          at_seam : (xs : List Seen) → slice_get (xs ++ c ∷ rest) (length xs) ≡ Some c
          at_seam [] = refl
          at_seam (x ∷ xs) = at_seam xs

      revision_here : slice_get s.changelog (length front) ≡ Some c.revision
      revision_here = by (slice_get s.changelog (length front)) refl (sym (slice_get-map (seen_of s) s.changelog (length front)) ∙ seen_here)
        where
          by : (o : Option Revision) → slice_get s.changelog (length front) ≡ o → option_map (seen_of s) o ≡ Some c → slice_get s.changelog (length front) ≡ Some c.revision
          by None g x = none-some c x
          by (Some r) g x = g ∙ ap (λ (y : Seen). Some y.revision) (some-same c (seen_of s r) c x)

      used : (path : List ℕ) → among path (row_paths after.0.rows) ≡ true → is_used s path ≡ true
      used path u =
          among-in_order path (flat_map (λ x. row_paths (rows_of_seen x)) (seen s))
          ∙ ap (λ l. among path (flat_map (λ x. row_paths (rows_of_seen x)) l)) e
          ∙ used-among front c rest path (ap (λ o. among path (row_paths (unwrap_or o []))) after.0.rows_are ∙ u)

      n : IsNext s (seen s) front c after.0
      n =
          let b = are-before s.changelog (length front) c.revision logs.changelog.before revision_here in
          record {
            there = revision_here;
            link = eq-test c.revision.link (length front) (regular.links (length front) c.revision revision_here);
            first = b.first;
            second = b.second;
            logs = λ path u. logs.filelogs path (used path u);
            rules = λ path u. regular.filelog_rules path (used path u);
            listed = λ path. regular.listed (length front) c after.0.v path seen_here after.0.change;
          }

  nothing : IsReplayed s (seen s) [] no_history
  nothing = record { changelog = refl; manifest = refl; filelogs = λ path. refl; placed = refl; manifest_of = refl; sound = record { files = tt; manifests = tt; filelog_count = λ path. omega arith; manifest_count = omega arith } }

  replayed : AreReplayed (seen s) no_history
  replayed = replay [] (seen s) no_history refl tt all-read nothing

  pub each-next : EachChangeset IsNextChangeset no_history (changesets_of s)
  each-next = replayed.each

  pub changelog-whole : (history (changesets_of s)).changelog ≡ s.changelog
  changelog-whole = replayed.whole.changelog ∙ take_all (length (seen s)) s.changelog (let l : length (seen s) ≡ length s.changelog = length-map s.changelog (seen_of s) in omega (arith, l))

  pub manifest-whole : (history (changesets_of s)).manifest ≡ s.manifest
  manifest-whole =
      replayed.whole.manifest
      ∙ take_all (above (map (manifest_naming (seen s)) (seen s))) s.manifest (omega (arith, all-named s.manifest (map (manifest_naming (seen s)) (seen s)) regular.manifest_rules (λ rev lt. omega (arith, lt, manifest-inside s (seen s) (seen s) all-read))))

  pub filelog-whole : (path : List ℕ) → is_used s path ≡ true → (history (changesets_of s)).filelog path ≡ s.filelog path
  filelog-whole path used =
      replayed.whole.filelogs path
      ∙ take_all (above (map (file_naming s path (seen s)) (seen s))) (s.filelog path) (omega (arith, all-named (s.filelog path) (map (file_naming s path (seen s)) (seen s)) (regular.filelog_rules path used) (λ rev lt. omega (arith, lt, file-inside s path (seen s) (seen s)))))
