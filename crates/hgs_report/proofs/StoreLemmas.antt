-- What is added of the changelog and of the manifest is what is found of them.
use Rattle.std.proofs.Common.{◌≡◌, ◌⊎◌, ℕ, zero, suc, ◌+◌, ◌<◌, List, [], ◌∷◌, ◌++◌, Bool, true, false, cond, ◌&&◌, ◌||◌, not, map, length, refl, sym, ◌∙◌, ap, subst, inl, inr, arith}
use Rattle.std.specs.Prelude.{Option, Some, None, is_some, is_none, option_map, slice_get, ◌==◌}
use Rattle.std.specs.List.{list_any}
use Rattle.std.proofs.lemmas.List.{length-map}
use Rattle.std.proofs.lemmas.Option.{slice_get-map, slice_get_within}
use Rattle.hgs_files.specs.Tree.{Tree}
use Rattle.hgs_index.specs.declared.entry.Entry.{Entry}
use Rattle.hgs_index.specs.ChangeText.{Change}
use Rattle.hgs_index.specs.Revision.{Revision}
use Rattle.hgs_model.specs.History as history
use Rattle.hgs_revlog.specs.Loaded.{parents_in}
use Rattle.hgs_stands.specs.Places.{changelog_index, changelog_data, manifest_index, manifest_data}
use Rattle.hgs_findings.specs.Findings as findings
use Rattle.hgs_findings.specs.Findings.{Finding, IsFinding, is_finding, is_looked_at}
use Rattle.hgs_findings.specs.Reading.{Log, the_changelog, the_manifest, index_path, data_path, reading, sight_of}
use Rattle.hgs_findings.specs.Regular.{are_tracked}
use Rattle.hgs_findings.specs.Sight.{Seen, seen, seen_of, manifest_namings}
use Rattle.hgs_judge.specs.declared.changesets.Changeset.{Changeset}
use Rattle.hgs_judge.specs.declared.kinds.Kinds.{Kinds}
use Rattle.hgs_judge.specs.Changesets.{changeset_as, files_of, tree_as}
use Rattle.hgs_judge.specs.Kinds.{AreKinds, kinds_of}
use Rattle.hgs_judge.specs.Read.{links_in, links_of}
use Rattle.hgs_judge.specs.Report.{one_if, each_from, of_kinds}
use Rattle.hgs_judge.specs.Trees.{rows_read}
use Rattle.hgs_report.specs.declared.store.ReadLog.{ReadLog}
use Rattle.hgs_report.specs.declared.store.Store.{Store}
use Rattle.hgs_report.specs.Adds.{Adds}
use Rattle.hgs_report.specs.Logs.{of_read_log, names_manifest, lacks_manifest, of_changeset, of_link, of_tree, of_store}
use Rattle.hgs_report.specs.Store.{IsLogOf, IsStoreOf, IsOfStore, changelog_fault, manifest_fault, bad_changeset, bad_manifest, no_manifest, other_link, unneeded, misplaced, wrongly_made, changelog_index_rest, changelog_data_rest, manifest_index_rest, manifest_data_rest}
use Rattle.hgs_report.proofs.EachLemmas.{never, both, either, any-append, in-front, in-back, split-any, IsOne, one-is, is-one, IsOf, is-of, of-is}

-- a list of findings that is added at the end
pub list-added : (t : Tree) (IsPart : List ℕ → Option ℕ → ℕ → Type 0) (old new more : List Finding) → new ≡ old ++ more → ((file : List ℕ) (rev : Option ℕ) (kind : ℕ) → list_any (is_finding file rev kind) more ≡ true → IsFinding t file rev kind)
    → ((file : List ℕ) (rev : Option ℕ) (kind : ℕ) → IsPart file rev kind → list_any (is_finding file rev kind) more ≡ true) → Adds t IsPart old new
list-added t IsPart old new more e are all = record {
  are = λ file rev kind h. by file rev kind (either (list_any (is_finding file rev kind) old) (list_any (is_finding file rev kind) more) (sym (joined (is_finding file rev kind)) ∙ h));
  kept = λ file rev kind h. ap (list_any (is_finding file rev kind)) e ∙ in-front (is_finding file rev kind) old more h;
  all = λ file rev kind h. ap (list_any (is_finding file rev kind)) e ∙ in-back (is_finding file rev kind) old more (all file rev kind h);
}
  where
    joined : (p : Finding → Bool) → list_any p new ≡ (list_any p old || list_any p more)
    joined p = ap (list_any p) e ∙ any-append p old more

    by : (file : List ℕ) (rev : Option ℕ) (kind : ℕ) → (list_any (is_finding file rev kind) old ≡ true) ⊎ (list_any (is_finding file rev kind) more ≡ true) → (list_any (is_finding file rev kind) old ≡ true) ⊎ IsFinding t file rev kind
    by file rev kind (inl h) = inl h
    by file rev kind (inr h) = inr (are file rev kind h)

pub moved : (t : Tree) (path : List ℕ) (at : Option ℕ) (kd : ℕ) (file : List ℕ) (rev : Option ℕ) (k : ℕ) → IsOne path at kd file rev k → IsFinding t path at kd → IsFinding t file rev k
moved t path at kd file rev k o found = subst (λ x. IsFinding t file rev x) o.kind_is (subst (λ x. IsFinding t file x kd) o.rev_is (subst (λ x. IsFinding t x at kd) o.file_is found))

not-so : (b : Bool) → not b ≡ true → b ≡ false
not-so true e = never (sym e)
not-so false e = refl

so-not : (b : Bool) → b ≡ false → not b ≡ true
so-not true e = never e
so-not false e = refl

-- an element of a list that was made of another
pub mapped-at : {A B : Type 0} (f : A → B) (xs : List A) (i : ℕ) (y : B) → slice_get (map f xs) i ≡ Some y → (x : A) × (slice_get xs i ≡ Some x) × (y ≡ f x)
mapped-at {A = A} f [] i y e = absurd (no e)
  where
    no : None ≡ Some y → ⊥
    no h = cc
mapped-at {A = A} {B = B} f (x ∷ xs) zero y e = (x, refl, sym (some-same (f x) y e))
  where
    some-same : (a b : B) → Some a ≡ Some b → a ≡ b
    some-same a b h = ap (elim [ None ↦ a | Some z ↦ z ]) h
mapped-at f (x ∷ xs) (suc i) y e = mapped-at f xs i y e

pub at-mapped : {A B : Type 0} (f : A → B) (xs : List A) (i : ℕ) (x : A) → slice_get xs i ≡ Some x → slice_get (map f xs) i ≡ Some (f x)
at-mapped f xs i x e = slice_get-map f xs i ∙ ap (option_map f) e

pub stands-at : {A : Type 0} (xs : List A) (i : ℕ) → i < length xs → (x : A) × (slice_get xs i ≡ Some x)
stands-at [] i lt = absurd (omega (arith, lt))
stands-at (x ∷ xs) zero lt = (x, refl)
stands-at (x ∷ xs) (suc i) lt = stands-at xs i (omega (arith, lt))

zero-plus : (n : ℕ) → n ≡ 0 + n
zero-plus n = omega arith

-- ---- a revlog that was read

abbrev revs_of : Tree → Log → List Revision
revs_of t log = (reading t log).revisions

-- the parents and the links of its entries are those of its revisions
abbrev IsParents : List Entry → List Revision → Type 0
IsParents entries revs = parents_in entries ≡ history.parents_in revs

abbrev IsLinks : List Entry → List Revision → Type 0
IsLinks entries revs = links_in entries ≡ links_of revs

log-parents : (t : Tree) (log : Log) (r : ReadLog) → IsLogOf log r t → IsParents r.reading.log.entries (revs_of t log)
log-parents t log r is = is.read.are.parents ∙ ap history.parents_in is.read.revisions

log-links : (t : Tree) (log : Log) (r : ReadLog) → IsLogOf log r t → IsLinks r.reading.log.entries (revs_of t log)
log-links t log r is = is.read.are.links ∙ ap links_of is.read.revisions

log-count : (t : Tree) (log : Log) (r : ReadLog) → IsLogOf log r t → length r.reading.log.entries ≡ length (revs_of t log)
log-count t log r is = sym (length-map r.reading.log.entries (λ (e : Entry). e.link)) ∙ ap length (log-links t log r is) ∙ length-map (revs_of t log) (λ (x : Revision). x.link)

abbrev Found : Tree → List Finding → Type 0
Found t list = (file : List ℕ) (rev : Option ℕ) (kind : ℕ) → list_any (is_finding file rev kind) list ≡ true → IsFinding t file rev kind

log-are : (t : Tree) (log : Log) (r : ReadLog) → is_looked_at (sight_of t) log ≡ true → IsLogOf log r t → Found t (of_read_log (index_path log) (data_path log) r)
log-are t log r looked is file rev kind h = by (split-any p (one_if r.reading.broken index count 3) rests h)
  where
    p : Finding → Bool
    p = is_finding file rev kind

    index : List ℕ
    index = index_path log

    chunks : List ℕ
    chunks = data_path log

    count : ℕ
    count = length r.reading.log.entries

    rests : List Finding
    rests = one_if r.index_rest index count 17 ++ one_if r.data_rest chunks count 17

    counted : (path : List ℕ) (k : ℕ) → IsFinding t path (Some (length (revs_of t log))) k → IsFinding t path (Some count) k
    counted path k = subst (λ n. IsFinding t path (Some n) k) (sym (log-count t log r is))

    behind : (list_any p (one_if r.index_rest index count 17) ≡ true) ⊎ (list_any p (one_if r.data_rest chunks count 17) ≡ true) → IsFinding t file rev kind
    behind (inl e) = let o = one-is r.index_rest index count 17 file rev kind e in moved t index (Some count) 17 file rev kind o.1 (counted index 17 (findings.index_rest log looked (sym is.index_rest ∙ o.0)))
    behind (inr e) = let o = one-is r.data_rest chunks count 17 file rev kind e in moved t chunks (Some count) 17 file rev kind o.1 (counted chunks 17 (findings.data_rest log looked (sym is.data_rest ∙ o.0)))

    by : (list_any p (one_if r.reading.broken index count 3) ≡ true) ⊎ (list_any p rests ≡ true) → IsFinding t file rev kind
    by (inl e) = let o = one-is r.reading.broken index count 3 file rev kind e in moved t index (Some count) 3 file rev kind o.1 (counted index 3 (findings.fault log looked (sym is.read.broken_is ∙ o.0)))
    by (inr e) = behind (split-any p (one_if r.index_rest index count 17) (one_if r.data_rest chunks count 17) e)

-- the three of a revlog
one-counted : (t : Tree) (log : Log) (r : ReadLog) → IsLogOf log r t → (is : Bool) (path : List ℕ) (kind : ℕ) → is ≡ true
    → list_any (is_finding path (Some (length (revs_of t log))) kind) (one_if is path (length r.reading.log.entries) kind) ≡ true
one-counted t log r of is path kind h =
    ap (λ n. list_any (is_finding path (Some n) kind) (one_if is path (length r.reading.log.entries) kind)) (sym (log-count t log r of)) ∙ is-one is path (length r.reading.log.entries) kind h

-- ---- changesets

tree-named : (manifest : Option ℕ) (null : Bool) → names_manifest (tree_as (cond (is_some manifest) (Some manifest) (cond null (Some None) None))) ≡ is_some manifest
tree-named None true = refl
tree-named None false = refl
tree-named (Some m) null = refl

files-read : (change : Option Change) → is_some (files_of change) ≡ is_some change
files-read None = refl
files-read (Some v) = refl

unread : {A : Type 0} (o : Option A) → is_none o ≡ true → is_some o ≡ false
unread None e = refl
unread (Some x) e = never (sym e)

read-not : {A : Type 0} (o : Option A) → is_some o ≡ false → is_none o ≡ true
read-not None e = refl
read-not (Some x) e = never e

-- ---- all that is added is found

module _ (s : Store) (t : Tree) (is : IsStoreOf s t) where
  -- the changeset at a place
  changeset-at : (i : ℕ) (x : Changeset) → slice_get s.changesets.items i ≡ Some x → (r : Revision) × (slice_get (sight_of t).changelog i ≡ Some r) × (slice_get (seen (sight_of t)) i ≡ Some (seen_of (sight_of t) r)) × (x ≡ changeset_as (seen_of (sight_of t) r))
  changeset-at i x at =
      let c = mapped-at changeset_as (seen (sight_of t)) i x (ap (λ l. slice_get l i) (sym is.changesets) ∙ at) in
      let r = mapped-at (seen_of (sight_of t)) (sight_of t).changelog i c.0 c.1 in
      (r.0, r.1, at-mapped (seen_of (sight_of t)) (sight_of t).changelog i r.0 r.1, c.2 ∙ ap changeset_as r.2)

  lacks-seen : (r : Revision) → lacks_manifest (changeset_as (seen_of (sight_of t) r)) ≡ (is_some (seen_of (sight_of t) r).change && not (is_some (seen_of (sight_of t) r).manifest))
  lacks-seen r =
      ap (λ b. is_some (files_of (seen_of (sight_of t) r).change) && not b) (tree-named (seen_of (sight_of t) r).manifest _)
      ∙ ap (λ b. b && not (is_some (seen_of (sight_of t) r).manifest)) (files-read (seen_of (sight_of t) r).change)

  changesets-are : Found t (each_from (of_changeset changelog_index manifest_index) 0 s.changesets.items)
  changesets-are file rev kind h = by (split-any p (one_if (is_none o.x.files) changelog_index (0 + o.i) 4) (one_if (lacks_manifest o.x) manifest_index (0 + o.i) 5) o.is)
    where
      p : Finding → Bool
      p = is_finding file rev kind

      o : IsOf p (of_changeset changelog_index manifest_index) 0 s.changesets.items
      o = is-of p (of_changeset changelog_index manifest_index) 0 s.changesets.items h

      r : (r : Revision) × (slice_get (sight_of t).changelog o.i ≡ Some r) × (slice_get (seen (sight_of t)) o.i ≡ Some (seen_of (sight_of t) r)) × (o.x ≡ changeset_as (seen_of (sight_of t) r))
      r = changeset-at o.i o.x o.at

      numbered : (path : List ℕ) (k : ℕ) → IsFinding t path (Some o.i) k → IsFinding t path (Some (0 + o.i)) k
      numbered path k = subst (λ n. IsFinding t path (Some n) k) (zero-plus o.i)

      by : (list_any p (one_if (is_none o.x.files) changelog_index (0 + o.i) 4) ≡ true) ⊎ (list_any p (one_if (lacks_manifest o.x) manifest_index (0 + o.i) 5) ≡ true) → IsFinding t file rev kind
      by (inl e) =
          let one = one-is (is_none o.x.files) changelog_index (0 + o.i) 4 file rev kind e in
          moved t changelog_index (Some (0 + o.i)) 4 file rev kind one.1
          (numbered changelog_index 4 (findings.bad_changeset o.i r.0 r.1 (sym (files-read (seen_of (sight_of t) r.0).change) ∙ unread (files_of (seen_of (sight_of t) r.0).change) (ap (λ (x : Changeset). is_none x.files) (sym r.3) ∙ one.0))))
      by (inr e) =
          let one = one-is (lacks_manifest o.x) manifest_index (0 + o.i) 5 file rev kind e in
          let two = both (is_some (seen_of (sight_of t) r.0).change) (not (is_some (seen_of (sight_of t) r.0).manifest)) (sym (lacks-seen r.0) ∙ ap lacks_manifest (sym r.3) ∙ one.0) in
          moved t manifest_index (Some (0 + o.i)) 5 file rev kind one.1
          (numbered manifest_index 5 (findings.no_manifest o.i (seen_of (sight_of t) r.0) r.2 two.0 (not-so (is_some (seen_of (sight_of t) r.0).manifest) two.1)))

  -- the revision of an entry of the changelog
  link-at : (i : ℕ) (e : Entry) → slice_get s.changelog.reading.log.entries i ≡ Some e → (r : Revision) × (slice_get (sight_of t).changelog i ≡ Some r) × (e.link ≡ r.link)
  link-at i e at = by (stands-at (sight_of t).changelog i (let w = slice_get_within s.changelog.reading.log.entries i e at in let n = log-count t the_changelog s.changelog is.changelog in omega (arith, w, n)))
    where
      some-same : (a b : ℕ) → Some a ≡ Some b → a ≡ b
      some-same a b g = ap (elim [ None ↦ a | Some z ↦ z ]) g

      by : (r : Revision) × (slice_get (sight_of t).changelog i ≡ Some r) → (r : Revision) × (slice_get (sight_of t).changelog i ≡ Some r) × (e.link ≡ r.link)
      by f = (
        f.0,
        f.1,
        some-same e.link f.0.link
            (sym (at-mapped (λ (x : Entry). x.link) s.changelog.reading.log.entries i e at) ∙ ap (λ l. slice_get l i) (log-links t the_changelog s.changelog is.changelog) ∙ at-mapped (λ (x : Revision). x.link) (sight_of t).changelog i f.0 f.1),
      )

  links-are : Found t (each_from (of_link changelog_index) 0 s.changelog.reading.log.entries)
  links-are file rev kind h =
      let o = is-of (is_finding file rev kind) (of_link changelog_index) 0 s.changelog.reading.log.entries h in
      let one = one-is (not (o.x.link == 0 + o.i)) changelog_index (0 + o.i) 7 file rev kind o.is in
      let r = link-at o.i o.x o.at in
      moved t changelog_index (Some (0 + o.i)) 7 file rev kind one.1
      (subst (λ n. IsFinding t changelog_index (Some n) 7) (zero-plus o.i) (findings.other_link o.i r.0 r.1 (ap (λ n. n == o.i) (sym r.2) ∙ ap (λ n. o.x.link == n) (zero-plus o.i) ∙ not-so (o.x.link == 0 + o.i) one.0)))

  trees-are : Found t (each_from (of_tree manifest_index) 0 s.trees.items)
  trees-are file rev kind h =
      let o = is-of (is_finding file rev kind) (of_tree manifest_index) 0 s.trees.items h in
      let one = one-is (not (are_tracked o.x)) manifest_index (0 + o.i) 4 file rev kind o.is in
      let r = mapped-at rows_read (sight_of t).manifest o.i o.x (ap (λ l. slice_get l o.i) (sym is.trees) ∙ o.at) in
      moved t manifest_index (Some (0 + o.i)) 4 file rev kind one.1
      (subst (λ n. IsFinding t manifest_index (Some n) 4) (zero-plus o.i) (findings.bad_manifest o.i r.0 r.1 (ap are_tracked (sym r.2) ∙ not-so (are_tracked o.x) one.0)))

  module _ (kinds : List Kinds) (judged : AreKinds (manifest_namings (sight_of t)) (parents_in s.manifest.reading.log.entries) (links_in s.manifest.reading.log.entries) kinds) where
    kinds-of : (i : ℕ) (r : Revision) → slice_get (sight_of t).manifest i ≡ Some r → slice_get kinds i ≡ Some (kinds_of (manifest_namings (sight_of t)) i r.parents r.link)
    kinds-of i r at = judged.each i r.parents r.link
        (ap (λ l. slice_get l i) (log-parents t the_manifest s.manifest is.manifest) ∙ at-mapped (λ (x : Revision). x.parents) (sight_of t).manifest i r at)
        (ap (λ l. slice_get l i) (log-links t the_manifest s.manifest is.manifest) ∙ at-mapped (λ (x : Revision). x.link) (sight_of t).manifest i r at)

    kinds-at : (i : ℕ) (k : Kinds) → slice_get kinds i ≡ Some k → (r : Revision) × (slice_get (sight_of t).manifest i ≡ Some r) × (k ≡ kinds_of (manifest_namings (sight_of t)) i r.parents r.link)
    kinds-at i k at = by (stands-at (sight_of t).manifest i
        (let w = slice_get_within kinds i k at in
        let c = judged.count in
        let n = ap length (log-parents t the_manifest s.manifest is.manifest) in
        let m = length-map (sight_of t).manifest (λ (x : Revision). x.parents) in
        omega (arith, w, c, n, m)))
      where
        some-same : (a b : Kinds) → Some a ≡ Some b → a ≡ b
        some-same a b g = ap (elim [ None ↦ a | Some z ↦ z ]) g

        by : (r : Revision) × (slice_get (sight_of t).manifest i ≡ Some r) → (r : Revision) × (slice_get (sight_of t).manifest i ≡ Some r) × (k ≡ kinds_of (manifest_namings (sight_of t)) i r.parents r.link)
        by f = (f.0, f.1, some-same k (kinds_of (manifest_namings (sight_of t)) i f.0.parents f.0.link) (sym at ∙ kinds-of i f.0 f.1))

    kinds-are : Found t (each_from (of_kinds manifest_index) 0 kinds)
    kinds-are file rev kind h = by (split-any p (one_if o.x.is_unneeded manifest_index (0 + o.i) 6) (one_if o.x.is_misplaced manifest_index (0 + o.i) 7 ++ one_if o.x.is_wrongly_made manifest_index (0 + o.i) 8) o.is)
      where
        p : Finding → Bool
        p = is_finding file rev kind

        o : IsOf p (of_kinds manifest_index) 0 kinds
        o = is-of p (of_kinds manifest_index) 0 kinds h

        r : (r : Revision) × (slice_get (sight_of t).manifest o.i ≡ Some r) × (o.x ≡ kinds_of (manifest_namings (sight_of t)) o.i r.parents r.link)
        r = kinds-at o.i o.x o.at

        numbered : (k : ℕ) → IsFinding t manifest_index (Some o.i) k → IsFinding t manifest_index (Some (0 + o.i)) k
        numbered k = subst (λ n. IsFinding t manifest_index (Some n) k) (zero-plus o.i)

        later : (list_any p (one_if o.x.is_misplaced manifest_index (0 + o.i) 7) ≡ true) ⊎ (list_any p (one_if o.x.is_wrongly_made manifest_index (0 + o.i) 8) ≡ true) → IsFinding t file rev kind
        later (inl e) =
            let one = one-is o.x.is_misplaced manifest_index (0 + o.i) 7 file rev kind e in
            moved t manifest_index (Some (0 + o.i)) 7 file rev kind one.1 (numbered 7 (findings.misplaced the_manifest o.i r.0 refl r.1 (ap (λ (k : Kinds). k.is_misplaced) (sym r.2) ∙ one.0)))
        later (inr e) =
            let one = one-is o.x.is_wrongly_made manifest_index (0 + o.i) 8 file rev kind e in
            moved t manifest_index (Some (0 + o.i)) 8 file rev kind one.1 (numbered 8 (findings.wrongly_made the_manifest o.i r.0 refl r.1 (ap (λ (k : Kinds). k.is_wrongly_made) (sym r.2) ∙ one.0)))

        by : (list_any p (one_if o.x.is_unneeded manifest_index (0 + o.i) 6) ≡ true) ⊎ (list_any p (one_if o.x.is_misplaced manifest_index (0 + o.i) 7 ++ one_if o.x.is_wrongly_made manifest_index (0 + o.i) 8) ≡ true) → IsFinding t file rev kind
        by (inl e) =
            let one = one-is o.x.is_unneeded manifest_index (0 + o.i) 6 file rev kind e in
            moved t manifest_index (Some (0 + o.i)) 6 file rev kind one.1 (numbered 6 (findings.unneeded the_manifest o.i r.0 refl r.1 (ap (λ (k : Kinds). k.is_unneeded) (sym r.2) ∙ one.0)))
        by (inr e) = later (split-any p (one_if o.x.is_misplaced manifest_index (0 + o.i) 7) (one_if o.x.is_wrongly_made manifest_index (0 + o.i) 8) e)

    -- the parts
    abbrev log_part : List Finding
    log_part = of_read_log changelog_index changelog_data s.changelog

    abbrev rows_part : List Finding
    rows_part = of_read_log manifest_index manifest_data s.manifest

    abbrev changes_part : List Finding
    changes_part = each_from (of_changeset changelog_index manifest_index) 0 s.changesets.items

    abbrev links_part : List Finding
    links_part = each_from (of_link changelog_index) 0 s.changelog.reading.log.entries

    abbrev trees_part : List Finding
    trees_part = each_from (of_tree manifest_index) 0 s.trees.items

    abbrev kinds_part : List Finding
    kinds_part = each_from (of_kinds manifest_index) 0 kinds

    two-are : (a b : List Finding) → Found t a → Found t b → Found t (a ++ b)
    two-are a b f g file rev kind h = by (split-any (is_finding file rev kind) a b h)
      where
        by : (list_any (is_finding file rev kind) a ≡ true) ⊎ (list_any (is_finding file rev kind) b ≡ true) → IsFinding t file rev kind
        by (inl e) = f file rev kind e
        by (inr e) = g file rev kind e

    store-are : Found t (of_store s kinds)
    store-are =
        two-are log_part (rows_part ++ (changes_part ++ (links_part ++ (trees_part ++ kinds_part)))) (log-are t the_changelog s.changelog refl is.changelog)
        (two-are rows_part (changes_part ++ (links_part ++ (trees_part ++ kinds_part))) (log-are t the_manifest s.manifest refl is.manifest)
        (two-are changes_part (links_part ++ (trees_part ++ kinds_part)) changesets-are
        (two-are links_part (trees_part ++ kinds_part) links-are (two-are trees_part kinds_part trees-are kinds-are))))

    in-log : (p : Finding → Bool) → list_any p log_part ≡ true → list_any p (of_store s kinds) ≡ true
    in-log p h = in-front p log_part (rows_part ++ (changes_part ++ (links_part ++ (trees_part ++ kinds_part)))) h

    behind-log : (p : Finding → Bool) → list_any p (rows_part ++ (changes_part ++ (links_part ++ (trees_part ++ kinds_part)))) ≡ true → list_any p (of_store s kinds) ≡ true
    behind-log p h = in-back p log_part (rows_part ++ (changes_part ++ (links_part ++ (trees_part ++ kinds_part)))) h

    in-rows : (p : Finding → Bool) → list_any p rows_part ≡ true → list_any p (of_store s kinds) ≡ true
    in-rows p h = behind-log p (in-front p rows_part (changes_part ++ (links_part ++ (trees_part ++ kinds_part))) h)

    behind-rows : (p : Finding → Bool) → list_any p (changes_part ++ (links_part ++ (trees_part ++ kinds_part))) ≡ true → list_any p (of_store s kinds) ≡ true
    behind-rows p h = behind-log p (in-back p rows_part (changes_part ++ (links_part ++ (trees_part ++ kinds_part))) h)

    in-changes : (p : Finding → Bool) → list_any p changes_part ≡ true → list_any p (of_store s kinds) ≡ true
    in-changes p h = behind-rows p (in-front p changes_part (links_part ++ (trees_part ++ kinds_part)) h)

    behind-changes : (p : Finding → Bool) → list_any p (links_part ++ (trees_part ++ kinds_part)) ≡ true → list_any p (of_store s kinds) ≡ true
    behind-changes p h = behind-rows p (in-back p changes_part (links_part ++ (trees_part ++ kinds_part)) h)

    in-links : (p : Finding → Bool) → list_any p links_part ≡ true → list_any p (of_store s kinds) ≡ true
    in-links p h = behind-changes p (in-front p links_part (trees_part ++ kinds_part) h)

    in-trees : (p : Finding → Bool) → list_any p trees_part ≡ true → list_any p (of_store s kinds) ≡ true
    in-trees p h = behind-changes p (in-back p links_part (trees_part ++ kinds_part) (in-front p trees_part kinds_part h))

    in-kinds : (p : Finding → Bool) → list_any p kinds_part ≡ true → list_any p (of_store s kinds) ≡ true
    in-kinds p h = behind-changes p (in-back p links_part (trees_part ++ kinds_part) (in-back p trees_part kinds_part h))

    shown : (is : Bool) (path : List ℕ) (i kind : ℕ) → is ≡ true → list_any (is_finding path (Some i) kind) (one_if is path (0 + i) kind) ≡ true
    shown is path i kind h = ap (λ n. list_any (is_finding path (Some n) kind) (one_if is path (0 + i) kind)) (zero-plus i) ∙ is-one is path (0 + i) kind h

    store-all : (file : List ℕ) (rev : Option ℕ) (kind : ℕ) → IsOfStore t file rev kind → list_any (is_finding file rev kind) (of_store s kinds) ≡ true
    store-all _ _ _ (changelog_fault h) =
        let p = is_finding changelog_index (Some (length (revs_of t the_changelog))) 3 in
        in-log p (in-front p (one_if s.changelog.reading.broken changelog_index (length s.changelog.reading.log.entries) 3) _ (one-counted t the_changelog s.changelog is.changelog s.changelog.reading.broken changelog_index 3 (is.changelog.read.broken_is ∙ h)))
    store-all _ _ _ (manifest_fault h) =
        let p = is_finding manifest_index (Some (length (revs_of t the_manifest))) 3 in
        in-rows p (in-front p (one_if s.manifest.reading.broken manifest_index (length s.manifest.reading.log.entries) 3) _ (one-counted t the_manifest s.manifest is.manifest s.manifest.reading.broken manifest_index 3 (is.manifest.read.broken_is ∙ h)))
    store-all _ _ _ (bad_changeset i r at h) =
        let p = is_finding changelog_index (Some i) 4 in
        let x = changeset_as (seen_of (sight_of t) r) in
        in-changes p (of-is p (of_changeset changelog_index manifest_index) 0 s.changesets.items i x
        (ap (λ l. slice_get l i) is.changesets ∙ at-mapped changeset_as (seen (sight_of t)) i (seen_of (sight_of t) r) (at-mapped (seen_of (sight_of t)) (sight_of t).changelog i r at))
        (in-front p (one_if (is_none x.files) changelog_index (0 + i) 4) _ (shown (is_none x.files) changelog_index i 4 (read-not x.files (files-read (seen_of (sight_of t) r).change ∙ h)))))
    store-all _ _ _ (bad_manifest i r at h) =
        let p = is_finding manifest_index (Some i) 4 in
        in-trees p (of-is p (of_tree manifest_index) 0 s.trees.items i (rows_read r) (ap (λ l. slice_get l i) is.trees ∙ at-mapped rows_read (sight_of t).manifest i r at)
        (shown (not (are_tracked (rows_read r))) manifest_index i 4 (so-not (are_tracked (rows_read r)) h)))
    store-all _ _ _ (no_manifest i c at change manifest) =
        let p = is_finding manifest_index (Some i) 5 in
        let r = mapped-at (seen_of (sight_of t)) (sight_of t).changelog i c at in
        let x = changeset_as (seen_of (sight_of t) r.0) in
        in-changes p (of-is p (of_changeset changelog_index manifest_index) 0 s.changesets.items i x
        (ap (λ l. slice_get l i) is.changesets ∙ at-mapped changeset_as (seen (sight_of t)) i (seen_of (sight_of t) r.0) (at-mapped (seen_of (sight_of t)) (sight_of t).changelog i r.0 r.1))
        (in-back p (one_if (is_none x.files) changelog_index (0 + i) 4) _ (shown (lacks_manifest x) manifest_index i 5
        (lacks-seen r.0 ∙ ap (λ (y : Seen). is_some y.change && not (is_some y.manifest)) (sym r.2) ∙ ap (λ b. b && not (is_some c.manifest)) change ∙ so-not (is_some c.manifest) manifest))))
    store-all _ _ _ (other_link i r at h) =
        let p = is_finding changelog_index (Some i) 7 in
        let entries = s.changelog.reading.log.entries in
        let e = stands-at entries i (let w = slice_get_within (sight_of t).changelog i r at in let n = log-count t the_changelog s.changelog is.changelog in omega (arith, w, n)) in
        let back = link-at i e.0 e.1 in
        let same : back.0 ≡ r = some-revision back.0 r (sym back.1 ∙ at) in
        in-links p (of-is p (of_link changelog_index) 0 entries i e.0 e.1
        (shown (not (e.0.link == 0 + i)) changelog_index i 7 (ap (λ n. not (e.0.link == n)) (sym (zero-plus i)) ∙ ap (λ n. not (n == i)) (back.2 ∙ ap (λ (x : Revision). x.link) same) ∙ so-not (r.link == i) h)))
      where
        some-revision : (a b : Revision) → Some a ≡ Some b → a ≡ b
        some-revision a b g = ap (elim [ None ↦ a | Some z ↦ z ]) g
    store-all _ _ _ (unneeded i r at h) =
        let p = is_finding manifest_index (Some i) 6 in
        let k = kinds_of (manifest_namings (sight_of t)) i r.parents r.link in
        in-kinds p (of-is p (of_kinds manifest_index) 0 kinds i k (kinds-of i r at) (in-front p (one_if k.is_unneeded manifest_index (0 + i) 6) _ (shown k.is_unneeded manifest_index i 6 h)))
    store-all _ _ _ (misplaced i r at h) =
        let p = is_finding manifest_index (Some i) 7 in
        let k = kinds_of (manifest_namings (sight_of t)) i r.parents r.link in
        in-kinds p (of-is p (of_kinds manifest_index) 0 kinds i k (kinds-of i r at) (in-back p (one_if k.is_unneeded manifest_index (0 + i) 6) _ (in-front p (one_if k.is_misplaced manifest_index (0 + i) 7) _ (shown k.is_misplaced manifest_index i 7 h))))
    store-all _ _ _ (wrongly_made i r at h) =
        let p = is_finding manifest_index (Some i) 8 in
        let k = kinds_of (manifest_namings (sight_of t)) i r.parents r.link in
        in-kinds p (of-is p (of_kinds manifest_index) 0 kinds i k (kinds-of i r at) (in-back p (one_if k.is_unneeded manifest_index (0 + i) 6) _ (in-back p (one_if k.is_misplaced manifest_index (0 + i) 7) _ (shown k.is_wrongly_made manifest_index i 8 h))))
    store-all _ _ _ (changelog_index_rest h) =
        let p = is_finding changelog_index (Some (length (revs_of t the_changelog))) 17 in
        in-log p (in-back p (one_if s.changelog.reading.broken changelog_index (length s.changelog.reading.log.entries) 3) _
        (in-front p (one_if s.changelog.index_rest changelog_index (length s.changelog.reading.log.entries) 17) _ (one-counted t the_changelog s.changelog is.changelog s.changelog.index_rest changelog_index 17 (is.changelog.index_rest ∙ h))))
    store-all _ _ _ (changelog_data_rest h) =
        let p = is_finding changelog_data (Some (length (revs_of t the_changelog))) 17 in
        in-log p (in-back p (one_if s.changelog.reading.broken changelog_index (length s.changelog.reading.log.entries) 3) _
        (in-back p (one_if s.changelog.index_rest changelog_index (length s.changelog.reading.log.entries) 17) _ (one-counted t the_changelog s.changelog is.changelog s.changelog.data_rest changelog_data 17 (is.changelog.data_rest ∙ h))))
    store-all _ _ _ (manifest_index_rest h) =
        let p = is_finding manifest_index (Some (length (revs_of t the_manifest))) 17 in
        in-rows p (in-back p (one_if s.manifest.reading.broken manifest_index (length s.manifest.reading.log.entries) 3) _
        (in-front p (one_if s.manifest.index_rest manifest_index (length s.manifest.reading.log.entries) 17) _ (one-counted t the_manifest s.manifest is.manifest s.manifest.index_rest manifest_index 17 (is.manifest.index_rest ∙ h))))
    store-all _ _ _ (manifest_data_rest h) =
        let p = is_finding manifest_data (Some (length (revs_of t the_manifest))) 17 in
        in-rows p (in-back p (one_if s.manifest.reading.broken manifest_index (length s.manifest.reading.log.entries) 3) _
        (in-back p (one_if s.manifest.index_rest manifest_index (length s.manifest.reading.log.entries) 17) _ (one-counted t the_manifest s.manifest is.manifest s.manifest.data_rest manifest_data 17 (is.manifest.data_rest ∙ h))))

    pub store-added : (old new : List Finding) → new ≡ old ++ of_store s kinds → Adds t (IsOfStore t) old new
    store-added old new e = list-added t (IsOfStore t) old new (of_store s kinds) e store-are store-all
