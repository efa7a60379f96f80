-- A course on which a number rises: the phase roots are removed.
use Rattle.std.proofs.Common.{◌≡◌, ℕ, zero, suc, ◌+◌, List, [], ◌∷◌, length, map, Some, None, Option, refl, sym, ◌∙◌, ap, subst, arith, append-nil}
use Rattle.std.specs.Prelude.{slice_index}
use Rattle.std.specs.List.{range_with_len}
use Rattle.std.proofs.lemmas.List.{length-map}
use Rattle.hgs_bytes.specs.Bytes.{IsPrefixOf}
use Rattle.hgs_files.specs.declared.op.Op.TheVariants.{Remove}
use Rattle.hgs_files.specs.Tree.{Tree, bytes_at, with_file}
use Rattle.hgs_index.specs.declared.entry.Entry.{Entry}
use Rattle.hgs_index.specs.Revision.{Revision, nodes}
use Rattle.hgs_model.specs.History.{history}
use Rattle.hgs_model.specs.IsRepo.{IsRepo, phase_at}
use Rattle.hgs_model.specs.Phase.{phase_number}
use Rattle.hgs_model.specs.Repo.{Repo}
use Rattle.hgs_path.specs.declared.name.Ext.{Ext}
use Rattle.hgs_path.specs.declared.name.Ext.TheVariants.{I, D}
use Rattle.hgs_path.specs.StoreName.{store_name}
use Rattle.hgs_phases.specs.Phases.{phase_by}
use Rattle.hgs_stands.specs.Places.{roots_path, changelog_index, changelog_data, manifest_index, manifest_data}
use Rattle.hgs_stands.specs.Shows.{BeginsAt, Shows}
use Rattle.hgs_revlog.specs.Log.{nodes_of}
use Rattle.hgs_stands.specs.Stands.{HoldsChangesets, Stands, changeset_entries, entries_of}
use Rattle.hgs_views.specs.Course.{IsCourse, KeepsFronts, tree_after}
use Rattle.hgs_views.specs.Samples.{publicly, publishing}
use Rattle.hgs_views.proofs.Basics.{begins-same, prefix-refl}
use Rattle.hgs_views.proofs.CourseLemmas.{nothing-between, stepped}
use Rattle.hgs_views.proofs.Below.{ApartLaw, CountLaw, ShowsLaw}
use Rattle.hgs_views.proofs.GrowLemmas.{log-bytes}
use Rattle.hgs_views.proofs.SeenLemmas.{longer}

-- what the law needs
pub record PublicLaws : Type 0 where
  pub apart : ApartLaw
  pub shows : ShowsLaw
  pub entries : (revisions : List Revision) → nodes_of (entries_of revisions) ≡ nodes revisions
  pub counted : (revisions : List Revision) → length (nodes revisions) ≡ length revisions
  pub count : CountLaw

-- ---- phases that are all 0

zero-at : (xs : List ℕ) (i : ℕ) → slice_index (map (λ p. 0) xs) i ≡ 0
zero-at [] i = refl
zero-at (x ∷ xs) zero = refl
zero-at (x ∷ xs) (suc i) = zero-at xs i

zero-parent : (xs : List ℕ) (o : Option ℕ) → phase_at (map (λ p. 0) xs) o ≡ 0
zero-parent xs None = refl
zero-parent xs (Some i) = zero-at xs i

public-repo : (r : Repo) → IsRepo r → IsRepo (publicly r 1)
public-repo r is = record {
  parents = is.parents;
  changesets = is.changesets;
  phase_count = length-map r.phases (λ p. 0) ∙ is.phase_count;
  phases = λ rev p e.
      let a = zero-at r.phases rev in
      let b = zero-parent r.phases p.0 in
      let c = zero-parent r.phases p.1 in
      record { most = omega (arith, a); first = omega (arith, a, b); second = omega (arith, a, c) };
  marks_ordered = is.marks_ordered;
  marks = is.marks;
  first_working = is.first_working;
  second_working = is.second_working;
}

all-zero : (entries : List Entry) (a n : ℕ) (xs : List ℕ) → n ≡ length xs → map phase_number (map (phase_by [] entries) (range_with_len a n)) ≡ map (λ p. 0) xs
all-zero entries a zero [] e = refl
all-zero entries a zero (x ∷ xs) e = absurd (omega (arith, e))
all-zero entries a (suc n) [] e = absurd (omega (arith, e))
all-zero entries a (suc n) (x ∷ xs) e = ap (λ l. 0 ∷ l) (all-zero entries (a + 1) n xs (omega (arith, e)))

count : PublicLaws → (r : Repo) → IsRepo r → length (changeset_entries r.changesets) ≡ length r.phases
count law r is =
    let revisions = (history r.changesets).changelog in
    sym (length-map (changeset_entries r.changesets) (λ (e : Entry). e.node.0)) ∙ ap length (law.entries revisions) ∙ law.counted revisions ∙ law.count r is ∙ sym is.phase_count

-- ---- the tree without its phase roots

bytes-log : ApartLaw → (t : Tree) (path : List ℕ) (ext : Ext) → bytes_at (with_file t roots_path None) (store_name path ext) ≡ bytes_at t (store_name path ext)
bytes-log apart t path ext = log-bytes apart t roots_path None path ext refl

public-shows : PublicLaws → (t : Tree) (r : Repo) → Stands t r → Shows (with_file t roots_path None) (publicly r 1) (publicly r 1) (publicly r 1)
public-shows law t r stands =
    let s = law.shows t r stands in
    record {
      requires = record { text = s.requires.text; there = s.requires.there; known = s.requires.known; whole = s.requires.whole };
      revlogs = record {
        whole = s.revlogs.whole;
        changelog = s.revlogs.changelog;
        manifest = s.revlogs.manifest;
        filelogs = λ path used. log path (s.revlogs.filelogs path used);
      };
      phases = record { roots = []; text = refl; phases = all-zero (changeset_entries r.changesets) 0 (length (changeset_entries r.changesets)) r.phases (count law r stands.repository) };
      bookmarks = s.bookmarks;
      working = record { dirstate = s.working.dirstate; text = s.working.text; first = s.working.first; second = s.working.second };
    }
  where
    log : (path : List ℕ) → BeginsAt t (store_name path I) (store_name path D) ((history r.changesets).filelog path) → BeginsAt (with_file t roots_path None) (store_name path I) (store_name path D) ((history r.changesets).filelog path)
    log path b =
        begins-same (bytes_at t (store_name path I)) (bytes_at t (store_name path D)) (bytes_at (with_file t roots_path None) (store_name path I)) (bytes_at (with_file t roots_path None) (store_name path D)) ((history r.changesets).filelog path)
        (bytes-log law.apart t path I) (bytes-log law.apart t path D) b

public-keeps : PublicLaws → (t : Tree) (r : Repo) → KeepsFronts t (with_file t roots_path None) r.changesets
public-keeps law t r = record {
  changelog = prefix-refl (bytes_at t changelog_index);
  changelog_chunks = prefix-refl (bytes_at t changelog_data);
  manifest = prefix-refl (bytes_at t manifest_index);
  manifest_chunks = prefix-refl (bytes_at t manifest_data);
  filelogs = λ path ext used. subst (IsPrefixOf (bytes_at t (store_name path ext))) (sym (bytes-log law.apart t path ext)) (prefix-refl (bytes_at t (store_name path ext)));
}

-- ---- the course

repo-is : (r : Repo) (i : ℕ) → IsRepo r → IsRepo (publicly r i)
repo-is r zero is = is
repo-is r (suc i) is = public-repo r is

changesets-are : (r : Repo) (i : ℕ) → (publicly r i).changesets ≡ r.changesets
changesets-are r zero = refl
changesets-are r (suc i) = refl

goes : (r : Repo) (i j : ℕ) → IsPrefixOf (publicly r i).changesets (publicly r j).changesets
goes r i j = ([], changesets-are r j ∙ sym (changesets-are r i) ∙ sym (append-nil (publicly r i).changesets))

none-yet : PublicLaws → (t : Tree) (r : Repo) → Stands t r → IsCourse (publishing t r) [] []
none-yet law t r s = record {
  repository = λ i le. repo-is r i s.repository;
  goes_on = λ i j le top. goes r i j;
  holds = λ i le. subst (λ cs. HoldsChangesets t cs) (sym (changesets-are r i)) s.revlogs;
  ordered = λ log at. record { marked = omega arith; worked = omega arith };
  rises = λ log more at next. let e = longer log more next.begins in record { marked = e; worked = e; published = e };
  shows = λ log at. subst (λ l. Shows (tree_after (publishing t r) l) (publicly r (length l)) (publicly r (length l)) (publicly r (length l))) (sym (nothing-between log at)) (law.shows t r s);
  stays = λ log i at le. subst (λ l. KeepsFronts t (tree_after (publishing t r) l) (publicly r i).changesets) (sym (nothing-between log at))
      (subst (λ cs. KeepsFronts t t cs) (sym (changesets-are r i)) (itself t r));
}
  where
    itself : (t : Tree) (r : Repo) → KeepsFronts t t r.changesets
    itself t r = record {
      changelog = prefix-refl (bytes_at t changelog_index);
      changelog_chunks = prefix-refl (bytes_at t changelog_data);
      manifest = prefix-refl (bytes_at t manifest_index);
      manifest_chunks = prefix-refl (bytes_at t manifest_data);
      filelogs = λ path ext used. prefix-refl (bytes_at t (store_name path ext));
    }

pub public-course : PublicLaws → (t : Tree) (r : Repo) → Stands t r → IsCourse (publishing t r) [] (Remove roots_path ∷ [])
public-course law t r s = stepped (publishing t r) [] [] (Remove roots_path) (none-yet law t r s) (record {
  repository = λ i le. repo-is r i s.repository;
  goes_on = λ i j le top. goes r i j;
  holds = λ i le. subst (λ cs. HoldsChangesets t cs) (sym (changesets-are r i)) s.revlogs;
  ordered = record { marked = omega arith; worked = omega arith };
  rises = record { marked = omega arith; worked = omega arith; published = omega arith };
  shows = public-shows law t r s;
  stays = λ i le. subst (λ cs. KeepsFronts t (with_file t roots_path None) cs) (sym (changesets-are r i)) (public-keeps law t r);
}) (prefix-refl [])
