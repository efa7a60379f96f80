-- The lists of a repository are regular.
use Rattle.std.proofs.Common.{◌≡◌, ℕ, zero, suc, ◌+◌, List, [], ◌∷◌, ◌++◌, Bool, true, false, cond, ◌&&◌, ◌||◌, length, map, refl, sym, ◌∙◌, ap, subst, arith, length-append}
use Rattle.std.specs.Prelude.{Option, Some, None, option_map, unwrap_or, is_some, is_none, slice_get, ◌==◌, flat_map}
use Rattle.std.specs.List.{AllByRecursion, list_all}
use Rattle.std.proofs.lemmas.List.{length-map, length-take-le}
use Rattle.std.proofs.lemmas.Option.{slice_get-map}
use Rattle.hgs_bytes.specs.Bytes.{among}
use Rattle.hgs_index.specs.ChangeText.{Change}
use Rattle.hgs_index.specs.Manifest.{Row}
use Rattle.hgs_index.specs.Revision.{Revision}
use Rattle.hgs_model.specs.Repo.{Changeset, tree_paths}
use Rattle.hgs_model.specs.History.{History, no_history, history, history_from, with_changeset, EachChangeset, changeset_revision, text_at, uses}
use Rattle.hgs_model.specs.IsRepo.{IsNextChangeset}
use Rattle.hgs_model.specs.Theorems.HistoryLemmas.{history_from-extends, Extends}
use Rattle.hgs_findings.specs.Built.{IsBuilt, above}
use Rattle.hgs_findings.specs.Namings.{FollowsRules, first_use}
use Rattle.hgs_findings.specs.Sight.{Sight, Seen, value, place, row_paths, seen, seen_of, manifest_rule, manifest_naming, file_naming, is_wrongly_listed}
use Rattle.hgs_findings.specs.Regular.{rows_of_seen, is_used, is_manifest, has_file, are_tracked, IsRegular}
use Rattle.hgs_findings.proofs.Basics.{never, none-some, some-same}
use Rattle.hgs_findings.proofs.BuiltLemmas.{built-follows}
use Rattle.hgs_findings.proofs.NamingLemmas.{eq-itself, eq-test}
use Rattle.hgs_findings.proofs.OrderLemmas.{among-join, among-in_order}
use Rattle.hgs_findings.proofs.SightLemmas.{IsRead, placed_seen}
use Rattle.hgs_findings.proofs.StepLemmas.{text-got}
use Rattle.hgs_findings.proofs.MadeLemmas.{AreOf, IsMade, own-paths, rest-is, is-read, made-at, manifest-built, right-any, made-next}

-- the rest of the changesets, from one on
record AreMade (s : Sight) (used : List ℕ → Bool) (all front : List Seen) (rest : List Revision) (more : List Changeset) : Type 0 where
  read : AllByRecursion (IsRead s) (map (seen_of s) rest)
  listed : AllByRecursion (λ (x : Seen). (v : Change) (path : List ℕ) → x.change ≡ Some v → is_wrongly_listed s path all x v ≡ false) (map (seen_of s) rest)
  filelogs : (path : List ℕ) → used path ≡ true → IsBuilt (s.filelog path) (map (file_naming s path all) front) (map (file_naming s path all) (map (seen_of s) rest))
  manifest : IsBuilt s.manifest (map (manifest_naming all) front) (map (manifest_naming all) (map (seen_of s) rest))
  links : (i : ℕ) (r : Revision) → slice_get rest i ≡ Some r → r.link ≡ length front + i
  trees : map (λ c. row_paths (rows_of_seen c)) (map (seen_of s) rest) ≡ map (λ (c : Changeset). tree_paths c.tree) more
  paths : (path : List ℕ) → among path (flat_map (λ c. row_paths (rows_of_seen c)) (map (seen_of s) rest)) ≡ uses more path

module _ (s : Sight) (used : List ℕ → Bool) (H : History) (of : AreOf s used H) where
  made-from : (all front : List Seen) (rest : List Revision) (h : History) (more : List Changeset) → H ≡ history_from h more → EachChangeset IsNextChangeset h more → ((path : List ℕ) → uses more path ≡ true → used path ≡ true)
      → IsMade s used all front rest h → AreMade s used all front rest more
  made-from all front rest h [] whole each u state =
      let none : rest ≡ [] = empty rest (let l = ap length (sym state.lists ∙ of.changelog ∙ ap (λ (k : History). k.changelog) whole) in omega (arith, l, length-append h.changelog rest)) in
      subst (λ l. AreMade s used all front l []) (sym none) (record {
        read = tt;
        listed = tt;
        filelogs = λ path p. sym (let f = ap length (state.filelogs path p) in let w : length (h.filelog path) ≡ length (s.filelog path) = ap length (sym (of.filelogs path p ∙ ap (λ (k : History). k.filelog path) whole)) in omega (arith, f, w, length-take-le (above (map (file_naming s path all) front)) (s.filelog path) (state.filelog_fits path p)));
        manifest = (let f = ap length state.manifest in let w : length h.manifest ≡ length s.manifest = ap length (sym (of.manifest ∙ ap (λ (k : History). k.manifest) whole)) in omega (arith, f, w, length-take-le (above (map (manifest_naming all) front)) s.manifest state.manifest_fits));
        links = λ i r e. none-some r e;
        trees = refl;
        paths = λ path. refl;
      })
    where
      empty : (xs : List Revision) → length xs ≡ 0 → xs ≡ []
      empty [] e = refl
      empty (x ∷ xs) e = absurd (omega (arith, e))
  made-from all front rest h (c ∷ more) whole each u state =
      let extends : Extends (with_changeset h c) H = subst (Extends (with_changeset h c)) (sym whole) (history_from-extends (with_changeset h c) more) in
      step_on extends (made-from all (front ++ seen_of s (changeset_revision h c) ∷ []) extends.changelog.0 (with_changeset h c) more whole each.1 (λ path e. u path (right (among path (tree_paths c.tree)) (uses more path) e))
      (made-next s used all front rest h H c of state each.0 extends (λ path e. u path (left (among path (tree_paths c.tree)) (uses more path) e))))
    where
      right : (a b : Bool) → b ≡ true → (a || b) ≡ true
      right true b e = refl
      right false b e = e

      left : (a b : Bool) → a ≡ true → (a || b) ≡ true
      left true b e = refl
      left false b e = never (sym e)

      uses-own : (path : List ℕ) → among path (tree_paths c.tree) ≡ true → used path ≡ true
      uses-own path e = u path (left (among path (tree_paths c.tree)) (uses more path) e)

      step_on : (extends : Extends (with_changeset h c) H) → AreMade s used all (front ++ seen_of s (changeset_revision h c) ∷ []) extends.changelog.0 more → AreMade s used all front rest (c ∷ more)
      step_on extends rec = subst (λ l. AreMade s used all front l (c ∷ more)) (sym (rest-is s used all front rest h H c of state each.0 extends uses-own)) (record {
        read = (x-read, rec.read);
        listed = (right-any s used all front rest h H c of state each.0 extends uses-own, rec.listed);
        filelogs = λ path p. (made-at s used all front rest h H c of state each.0 extends uses-own path p).built (map (file_naming s path all) (map (seen_of s) extends.changelog.0)) (rec.filelogs path p);
        manifest = manifest-built s used all front rest h H c of state each.0 extends uses-own (map (manifest_naming all) (map (seen_of s) extends.changelog.0)) rec.manifest;
        links = links;
        trees = (let one = own in let more_trees = rec.trees in λ i. one i ∷ more_trees i);
        paths = λ path. among-join path (row_paths (rows_of_seen (seen_of s (changeset_revision h c)))) (flat_map (λ d. row_paths (rows_of_seen d)) (map (seen_of s) extends.changelog.0)) ∙ ap (λ b. among path (row_paths (rows_of_seen (seen_of s (changeset_revision h c)))) || b) (rec.paths path) ∙ ap (λ l. among path l || uses more path) own;
      })
        where
          x-read : IsRead s (seen_of s (changeset_revision h c))
          x-read = is-read s used all front rest h H c of state each.0 extends uses-own

          own : row_paths (rows_of_seen (seen_of s (changeset_revision h c))) ≡ tree_paths c.tree
          own = own-paths s used all front rest h H c of state each.0 extends uses-own

          links : (i : ℕ) (r : Revision) → slice_get (changeset_revision h c ∷ extends.changelog.0) i ≡ Some r → r.link ≡ length front + i
          links zero r e = ap (λ (y : Revision). y.link) (sym (some-same r (changeset_revision h c) r e)) ∙ ap length state.placed ∙ length-map front (placed_seen s) ∙ omega arith
          links (suc i) r e = (let l : r.link ≡ length (front ++ seen_of s (changeset_revision h c) ∷ []) + i = rec.links i r e in omega (arith, l, length-append front (seen_of s (changeset_revision h c) ∷ [])))

  -- ---- the whole

  module _ (cs : List Changeset) (is : H ≡ history cs) (each : EachChangeset IsNextChangeset no_history cs) (u : (path : List ℕ) → uses cs path ≡ true → used path ≡ true) where
    all-made : AreMade s used (seen s) [] s.changelog cs
    all-made = made-from (seen s) [] s.changelog no_history cs is each u (record {
      whole = refl;
      lists = refl;
      counted = refl;
      read = tt;
      manifest = refl;
      manifest_fits = omega arith;
      filelogs = λ path p. refl;
      filelog_fits = λ path p. omega arith;
      placed = refl;
      manifest_of = refl;
      sound = record { files = tt; manifests = tt; filelog_count = λ path. omega arith; manifest_count = omega arith };
    })

    pub uses-same : (path : List ℕ) → is_used s path ≡ uses cs path
    uses-same path = among-in_order path (flat_map (λ c. row_paths (rows_of_seen c)) (seen s)) ∙ all-made.paths path

    at-place : {A : Type 0} (P : A → Type 0) (xs : List A) (i : ℕ) (x : A) → AllByRecursion P xs → slice_get xs i ≡ Some x → P x
    at-place P [] i x all e = none-some x e
    at-place P (y ∷ xs) zero x all e = subst P (some-same y y x e) all.0
    at-place P (y ∷ xs) (suc i) x all e = at-place P xs i x all.1 e

    pub trees-are : map (λ c. row_paths (rows_of_seen c)) (seen s) ≡ map (λ (c : Changeset). tree_paths c.tree) cs
    trees-are = all-made.trees

    pub all-are-read : AllByRecursion (IsRead s) (seen s)
    all-are-read = all-made.read

    has-files : (rows : List Row) → AllByRecursion (λ (row : Row). (rev : ℕ) × (place (s.filelog row.path) row.node ≡ Some rev)) rows → list_all (has_file s) rows ≡ true
    has-files [] all = refl
    has-files (row ∷ rows) all = ap (λ o. is_some o && list_all (has_file s) rows) all.0.1 ∙ has-files rows all.1

    manifest-rules : FollowsRules s.manifest (map (manifest_naming (seen s)) (seen s))
    manifest-rules = built-follows s.manifest (map (manifest_naming (seen s)) (seen s)) all-made.manifest

    -- the manifest of a naming is one that was read
    is-manifest : (xs : List Seen) → AllByRecursion (IsRead s) xs → (at rev c : ℕ) → first_use at (map (manifest_naming (seen s)) xs) rev ≡ Some c → is_manifest (text_at s.manifest rev) ≡ true
    is-manifest [] all at rev c e = none-some c e
    is-manifest (x ∷ xs) all at rev c e = by (x.manifest) refl (is-manifest xs all.1 (suc at) rev c) e
      where
        by : (o : Option ℕ) → x.manifest ≡ o → (first_use (suc at) (map (manifest_naming (seen s)) xs) rev ≡ Some c → is_manifest (text_at s.manifest rev) ≡ true)
            → first_use at (option_map (λ m. record { rev = m; rule = manifest_rule (seen s) x.revision.parents }) o ∷ map (manifest_naming (seen s)) xs) rev ≡ Some c → is_manifest (text_at s.manifest rev) ≡ true
        by None g rec h = rec h
        by (Some m) g rec h = test (m == rev) refl h
          where
            same_m : m ≡ all.0.m
            same_m = some-same m m all.0.m (sym g ∙ all.0.manifest)

            test : (b : Bool) → (m == rev) ≡ b → cond b (Some at) (first_use (suc at) (map (manifest_naming (seen s)) xs) rev) ≡ Some c → is_manifest (text_at s.manifest rev) ≡ true
            test false t k = rec k
            test true t k = ap (λ j. is_manifest (text_at s.manifest j)) (sym (eq-test m rev t) ∙ same_m) ∙ ap (λ o. are_tracked (value o)) all.0.manifest_read ∙ all.0.tracked

    pub back-regular : IsRegular s
    back-regular = record {
      changes = λ rev r e. (let x = read-at rev r e in ap (λ o. is_some (value o)) x.text);
      manifests = manifests;
      named = λ rev c e. (let x = at-place (IsRead s) (seen s) rev c all-made.read e in ap is_some x.manifest);
      files = λ rev c e. (let x = at-place (IsRead s) (seen s) rev c all-made.read e in ap (λ o. list_all (has_file s) (unwrap_or o [])) x.rows_are ∙ has-files x.rows x.files);
      links = λ rev r e. (let l : r.link ≡ length {A = Seen} [] + rev = all-made.links rev r e in let k : r.link ≡ rev = omega (arith, l) in ap (λ n. n == rev) k ∙ eq-itself rev);
      manifest_rules = manifest-rules;
      filelog_rules = λ path p. built-follows (s.filelog path) (map (file_naming s path (seen s)) (seen s)) (all-made.filelogs path (u path (sym (uses-same path) ∙ p)));
      listed = λ rev c v path e g. at-place (λ (x : Seen). (w : Change) (q : List ℕ) → x.change ≡ Some w → is_wrongly_listed s q (seen s) x w ≡ false) (seen s) rev c all-made.listed e v path g;
    }
      where
        read-at : (rev : ℕ) (r : Revision) → slice_get s.changelog rev ≡ Some r → IsRead s (seen_of s r)
        read-at rev r e = at-place (IsRead s) (seen s) rev (seen_of s r) all-made.read (slice_get-map (seen_of s) s.changelog rev ∙ ap (option_map (seen_of s)) e)

        manifests : (rev : ℕ) (r : Revision) → slice_get s.manifest rev ≡ Some r → is_manifest r.text ≡ true
        manifests rev r e = by (first_use 0 (map (manifest_naming (seen s)) (seen s)) rev) refl (manifest-rules.needed rev r e)
          where
            by : (o : Option ℕ) → first_use 0 (map (manifest_naming (seen s)) (seen s)) rev ≡ o → is_none o ≡ false → is_manifest r.text ≡ true
            by None g h = never h
            by (Some c) g h = ap is_manifest (text-got s.manifest rev r e) ∙ is-manifest (seen s) all-made.read 0 rev c g
