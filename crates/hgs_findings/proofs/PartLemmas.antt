-- The lists of a tree in which nothing is found are regular, and its files hold them.
use Rattle.std.proofs.Common.{◌≡◌, ◌⊎◌, ℕ, suc, List, [], ◌∷◌, Bool, true, false, ◌&&◌, ◌||◌, not, length, map, refl, sym, ◌∙◌, ap, subst, inl, inr, arith}
use Rattle.std.specs.Prelude.{Option, Some, None, Result, Ok, Err, option_map, unwrap_or, is_some, slice_get, ◌==◌, flat_map}
use Rattle.std.specs.List.{AllByRecursion, list_all, list_any}
use Rattle.std.proofs.lemmas.Option.{slice_get-map}
use Rattle.hex.specs.Hex.{IsBytes}
use Rattle.hgs_bytes.specs.Bytes.{same, among}
use Rattle.hgs_path.specs.declared.fncache.FncacheFault.{FncacheFault}
use Rattle.hgs_files.specs.Tree.{Tree, bytes_at}
use Rattle.hgs_index.specs.Manifest.{Row}
use Rattle.hgs_index.specs.Revision.{Revision}
use Rattle.hgs_index.specs.Revlog.{HoldsRevisions}
use Rattle.hgs_model.specs.Repo.{tree_paths}
use Rattle.hgs_model.specs.History.{uses}
use Rattle.hgs_path.specs.declared.name.Ext.{Ext}
use Rattle.hgs_path.specs.declared.name.Ext.TheVariants.{I, D}
use Rattle.hgs_path.specs.Fncache.{clashes, lists}
use Rattle.hgs_path.specs.ListedNames.{names_of}
use Rattle.hgs_path.specs.StoreName.{listed_name, store_name}
use Rattle.hgs_stands.specs.Places.{fncache_path}
use Rattle.hgs_stands.specs.Stands.{HoldsChangesets, ListsFilelogs, IsUsedName, listed_file}
use Rattle.hgs_findings.specs.Namings.{FollowsRules, is_unneeded, is_misplaced, is_wrongly_made}
use Rattle.hgs_findings.specs.Sight.{Sight, Seen, value, row_paths, seen, seen_of, tree_file, changeset_of, changesets_of, is_wrongly_listed}
use Rattle.hgs_findings.specs.Regular.{rows_of_seen, used_paths, is_used, is_manifest, is_change, has_file, IsRegular}
use Rattle.hgs_findings.specs.Reading.{Log, the_changelog, the_manifest, the_filelog, index_in, data_in, reading, sight_of, has_index_rest, has_data_rest}
use Rattle.hgs_findings.specs.Findings.{IsFinding, fault, bad_changeset, bad_manifest, bad_fncache, no_manifest, no_file, unneeded, other_link, misplaced, wrongly_made, wrongly_listed, not_listed, one_name, not_used, index_rest, data_rest, is_looked_at, revisions_in, namings_in, names_in, is_name_used}
use Rattle.hgs_findings.proofs.Basics.{same-eq, same-refl, bool, never, none-some, some-same}
use Rattle.hgs_findings.proofs.EitherLemmas.{either-back, read-bytes}
use Rattle.hgs_findings.proofs.LogLemmas.{IsLog}
use Rattle.hgs_findings.proofs.NamingLemmas.{eq-test}
use Rattle.hgs_findings.proofs.OrderLemmas.{among-join, among-in_order}
use Rattle.hgs_findings.proofs.ReadingLemmas.{reading-held}
use Rattle.hgs_findings.proofs.RegularLemmas.{AreLogs, changelog-whole, manifest-whole, filelog-whole}

pub must-fail : (b : Bool) → (b ≡ true → ⊥) → b ≡ false
must-fail true h = absurd (h refl)
must-fail false h = refl

pub must-hold : (b : Bool) → (b ≡ false → ⊥) → b ≡ true
must-hold true h = refl
must-hold false h = absurd (h refl)

all-items : {A : Type 0} (f : A → Bool) (xs : List A) → ((i : ℕ) (x : A) → slice_get xs i ≡ Some x → f x ≡ true) → list_all f xs ≡ true
all-items f [] h = refl
all-items f (x ∷ xs) h = ap (λ b. b && list_all f xs) (h 0 x refl) ∙ all-items f xs (λ i y e. h (suc i) y e)

seen-is : (s : Sight) (rev : ℕ) (c : Seen) → slice_get (seen s) rev ≡ Some c → (r : Revision) × (slice_get s.changelog rev ≡ Some r) × (seen_of s r ≡ c)
seen-is s rev c e = by (slice_get s.changelog rev) refl (sym (slice_get-map (seen_of s) s.changelog rev) ∙ e)
  where
    by : (o : Option Revision) → slice_get s.changelog rev ≡ o → option_map (seen_of s) o ≡ Some c → (r : Revision) × (slice_get s.changelog rev ≡ Some r) × (seen_of s r ≡ c)
    by None g x = none-some c x
    by (Some r) g x = (r, g, some-same c (seen_of s r) c x)

-- the paths that the changesets of the lists use
paths-of : (s : Sight) (rows : List Row) → tree_paths (map (tree_file s) rows) ≡ row_paths rows
paths-of s [] = refl
paths-of s (row ∷ rows) = ap (λ l. row.path ∷ l) (paths-of s rows)

uses-from : (s : Sight) (path : List ℕ) (cs : List Seen) → uses (map (changeset_of s) cs) path ≡ among path (flat_map (λ c. row_paths (rows_of_seen c)) cs)
uses-from s path [] = refl
uses-from s path (c ∷ cs) =
    ap (λ l. among path l || uses (map (changeset_of s) cs) path) (paths-of s (rows_of_seen c)) ∙ ap (λ b. among path (row_paths (rows_of_seen c)) || b) (uses-from s path cs)
    ∙ sym (among-join path (row_paths (rows_of_seen c)) (flat_map (λ x. row_paths (rows_of_seen x)) cs))

pub uses-are : (s : Sight) (path : List ℕ) → uses (changesets_of s) path ≡ is_used s path
uses-are s path = uses-from s path (seen s) ∙ sym (among-in_order path (flat_map (λ c. row_paths (rows_of_seen c)) (seen s)))

any-among : (f : List ℕ → Bool) (xs : List (List ℕ)) → list_any f xs ≡ true → (x : List ℕ) × (among x xs ≡ true) × (f x ≡ true)
any-among f [] e = never (sym e)
any-among f (x ∷ xs) e = by (bool (f x)) (any-among f xs)
  where
    right : (a b : Bool) → b ≡ true → (a || b) ≡ true
    right true b h = refl
    right false b h = h

    by : (f x ≡ true) ⊎ (f x ≡ false) → (list_any f xs ≡ true → (y : List ℕ) × (among y xs ≡ true) × (f y ≡ true)) → (y : List ℕ) × (among y (x ∷ xs) ≡ true) × (f y ≡ true)
    by (inl t) rec = (x, ap (λ b. b || among x xs) (same-refl x), t)
    by (inr t) rec = let r = rec (sym (ap (λ b. b || list_any f xs) t) ∙ e) in (r.0, right (same r.0 x) (among r.0 xs) r.1, r.2)

-- nothing is found in a tree of bytes
pub record FindsNothing (t : Tree) : Type 0 where
  pub bytes : (path : List ℕ) → IsBytes (bytes_at t path)
  pub none : (path : List ℕ) (rev : Option ℕ) (kind : ℕ) → IsFinding t path rev kind → ⊥

module _ (t : Tree) (n : FindsNothing t) where
  -- ---- the revlogs

  pub holds : (log : Log) → is_looked_at (sight_of t) log ≡ true → HoldsRevisions (index_in t log) (data_in t log) (reading t log).revisions
  holds log looked =
      reading-held (index_in t log) (data_in t log) (read-bytes t log n.bytes)
      (must-fail (reading t log).broken (λ e. n.none _ _ _ (fault log looked e)))
      (must-fail (has_index_rest (index_in t log) (data_in t log)) (λ e. n.none _ _ _ (index_rest log looked e)))
      (must-fail (has_data_rest (index_in t log) (data_in t log)) (λ e. n.none _ _ _ (data_rest log looked e)))

  is-log : (log : Log) → is_looked_at (sight_of t) log ≡ true → IsLog (reading t log).revisions
  is-log log looked = let h = holds log looked in record { different = h.different; before = h.earlier }

  pub logs : AreLogs (sight_of t)
  logs = record { changelog = is-log the_changelog refl; manifest = is-log the_manifest refl; filelogs = λ path used. is-log (the_filelog path) used }

  follows : (log : Log) → is_looked_at (sight_of t) log ≡ true → FollowsRules (revisions_in (sight_of t) log) (namings_in (sight_of t) log)
  follows log looked = record {
    needed = λ rev r e. must-fail (is_unneeded (namings_in (sight_of t) log) rev) (λ h. n.none _ _ _ (unneeded log rev r looked e h));
    placed = λ rev r e. must-fail (is_misplaced (namings_in (sight_of t) log) rev r.link) (λ h. n.none _ _ _ (misplaced log rev r looked e h));
    made = λ rev r e. must-fail (is_wrongly_made (namings_in (sight_of t) log) rev r.parents) (λ h. n.none _ _ _ (wrongly_made log rev r looked e h));
  }

  changes : (rev : ℕ) (r : Revision) → slice_get (sight_of t).changelog rev ≡ Some r → is_change r.text ≡ true
  changes rev r e = must-hold (is_change r.text) (λ h. n.none _ _ _ (bad_changeset rev r e h))

  pub regular : IsRegular (sight_of t)
  regular = record {
    changes = changes;
    manifests = λ rev r e. must-hold (is_manifest r.text) (λ h. n.none _ _ _ (bad_manifest rev r e h));
    named = λ rev c e. must-hold (is_some c.manifest) (λ h. n.none _ _ _ (no_manifest rev c e (read rev c e) h));
    files = λ rev c e. all-items (has_file (sight_of t)) (rows_of_seen c) (λ i row g. must-hold (has_file (sight_of t) row) (λ h. n.none _ _ _ (no_file rev c row i e g h)));
    links = λ rev r e. must-hold (r.link == rev) (λ h. n.none _ _ _ (other_link rev r e h));
    manifest_rules = follows the_manifest refl;
    filelog_rules = λ path used. follows (the_filelog path) used;
    listed = λ rev c v path e g. must-fail (is_wrongly_listed (sight_of t) path (seen (sight_of t)) c v) (λ h. n.none _ _ _ (wrongly_listed rev c v path e g h));
  }
    where
      read : (rev : ℕ) (c : Seen) → slice_get (seen (sight_of t)) rev ≡ Some c → is_some c.change ≡ true
      read rev c e = let s = seen-is (sight_of t) rev c e in ap (λ (x : Seen). is_some x.change) (sym s.2) ∙ changes rev s.0 s.1

  used-is : (path : List ℕ) → uses (changesets_of (sight_of t)) path ≡ true → is_used (sight_of t) path ≡ true
  used-is path u = sym (uses-are (sight_of t) path) ∙ u

  pub revlogs : HoldsChangesets t (changesets_of (sight_of t))
  revlogs = record {
    changelog = either-back _ _ _ (subst (HoldsRevisions (index_in t the_changelog) (data_in t the_changelog)) (sym (changelog-whole (sight_of t) logs regular)) (holds the_changelog refl));
    manifest = either-back _ _ _ (subst (HoldsRevisions (index_in t the_manifest) (data_in t the_manifest)) (sym (manifest-whole (sight_of t) logs regular)) (holds the_manifest refl));
    filelogs = λ path u. either-back _ _ _ (subst (HoldsRevisions (index_in t (the_filelog path)) (data_in t (the_filelog path))) (sym (filelog-whole (sight_of t) logs regular path (used-is path u))) (holds (the_filelog path) (used-is path u)));
    names = λ path other u v. apart path other (used-is path u) (used-is other v);
  }
    where
      apart : (path other : List ℕ) → is_used (sight_of t) path ≡ true → is_used (sight_of t) other ≡ true → clashes path other ≡ false
      apart path other u v = by (bool (same other path))
        where
          one : (ext : Ext) → same other path ≡ false → same (store_name other ext) (store_name path ext) ≡ false
          one ext e = must-fail (same (store_name other ext) (store_name path ext)) (λ h. n.none _ _ _ (one_name path other ext u v e h))

          by : (same other path ≡ true) ⊎ (same other path ≡ false) → clashes path other ≡ false
          by (inl e) = ap (λ b. not b && (same (store_name other I) (store_name path I) || same (store_name other D) (store_name path D))) e
          by (inr e) =
              ap (λ b. not b && (same (store_name other I) (store_name path I) || same (store_name other D) (store_name path D))) e
              ∙ ap (λ b. b || same (store_name other D) (store_name path D)) (one I e) ∙ one D e

  -- ---- the list of filelogs

  listed : (names : List (List ℕ)) → names_of (bytes_at t fncache_path) ≡ Ok names → ListsFilelogs t (changesets_of (sight_of t))
  listed names e = record {
    names = names;
    text = e;
    listed = λ path ext u has. must-hold (lists names path ext) (λ h. n.none _ _ _ (not_listed path ext names (used-is path u) has e h));
    used = all_used names (λ name h. ap (λ o. among name (unwrap_or o [])) (ap value e) ∙ h);
  }
    where
      one : (name : List ℕ) → among name (names_in t) ≡ true → IsUsedName t (changesets_of (sight_of t)) name
      one name h = by (bool (length (bytes_at t (listed_file name)) == 0)) (bool (is_name_used (sight_of t) name))
        where
          empty : (bytes : List ℕ) → (length bytes == 0) ≡ true → bytes ≡ []
          empty [] g = refl
          empty (b ∷ bytes) g = absurd (omega (arith, eq-test (suc (length bytes)) 0 g))

          which : (path : List ℕ) → is_used (sight_of t) path ≡ true → (same (listed_name path I) name || same (listed_name path D) name) ≡ true → IsUsedName t (changesets_of (sight_of t)) name
          which path u g = ext (bool (same (listed_name path I) name))
            where
              ext : (same (listed_name path I) name ≡ true) ⊎ (same (listed_name path I) name ≡ false) → IsUsedName t (changesets_of (sight_of t)) name
              ext (inl k) = inr (path, I, uses-are (sight_of t) path ∙ u, same-eq (listed_name path I) name k)
              ext (inr k) = inr (path, D, uses-are (sight_of t) path ∙ u, same-eq (listed_name path D) name (sym (ap (λ b. b || same (listed_name path D) name) k) ∙ g))

          by : ((length (bytes_at t (listed_file name)) == 0) ≡ true) ⊎ ((length (bytes_at t (listed_file name)) == 0) ≡ false) → (is_name_used (sight_of t) name ≡ true) ⊎ (is_name_used (sight_of t) name ≡ false) → IsUsedName t (changesets_of (sight_of t)) name
          by (inl z) u = inl (empty (bytes_at t (listed_file name)) z)
          by (inr z) (inl u) = let a = any-among (λ path. same (listed_name path I) name || same (listed_name path D) name) (used_paths (sight_of t)) u in which a.0 a.1 a.2
          by (inr z) (inr u) = absurd (n.none _ _ _ (not_used name h z u))

      all_used : (xs : List (List ℕ)) → ((name : List ℕ) → among name xs ≡ true → among name (names_in t) ≡ true) → AllByRecursion (IsUsedName t (changesets_of (sight_of t))) xs
      all_used [] h = tt
      all_used (x ∷ xs) h = (one x (h x (ap (λ b. b || among x xs) (same-refl x))), all_used xs (λ name g. h name (right (same name x) (among name xs) g)))
        where
          right : (a b : Bool) → b ≡ true → (a || b) ≡ true
          right true b g = refl
          right false b g = g

  pub fncache : ListsFilelogs t (changesets_of (sight_of t))
  fncache = by (names_of (bytes_at t fncache_path)) refl (must-hold (is_some (value (names_of (bytes_at t fncache_path)))) (λ h. n.none _ _ _ (bad_fncache h)))
    where
      by : (o : Result (List (List ℕ)) FncacheFault) → names_of (bytes_at t fncache_path) ≡ o → is_some (value o) ≡ true → ListsFilelogs t (changesets_of (sight_of t))
      by (Ok names) e h = listed names e
      by (Err f) e h = never (sym h)
