-- Fronts of indexes, told by links.
use Rattle.std.proofs.Common.{cond, ◌≡◌, ℕ, ◌≤◌, ◌*◌, List, [], ◌∷◌, ◌++◌, Bool, true, false, ◌||◌, length, take, refl, sym, ◌∙◌, ap, subst, arith, append_assoc}
use Rattle.std.proofs.lemmas.List.{take_at}
use Rattle.hgs_bytes.specs.Bytes.{IsPrefixOf, among}
use Rattle.hgs_files.specs.declared.op.Op.{Op}
use Rattle.hgs_files.specs.Tree.{Tree, after_all, bytes_at}
use Rattle.hgs_index.specs.Either.{HoldsEither}
use Rattle.hgs_index.specs.Inline.{entries_in, index_apart, is_inline, without_inline}
use Rattle.hgs_index.specs.Revision.{Revision}
use Rattle.hgs_index.specs.Revlog.{Holds, HoldsRevisions}
use Rattle.hgs_index.specs.Theorems.InlineLemmas.{fronts-separate}
use Rattle.hgs_index.specs.Theorems.RevlogLemmas.{length-held}
use Rattle.hgs_cut.specs.Cut.{AreEntriesAlong, CutsAlong, EndsAlong, TellsFronts}
use Rattle.hgs_later.specs.Later.{AreCutByLinks, EndByLinks}
use Rattle.hgs_links.specs.Fronts.{IsCutByLinks, IsOfMoments, linked_front}
use Rattle.hgs_model.specs.History.{history, uses}
use Rattle.hgs_model.specs.Repo.{Changeset, Repo, tree_paths}
use Rattle.hgs_path.specs.declared.name.Ext.TheVariants.{I, D}
use Rattle.hgs_path.specs.StoreName.{store_name}
use Rattle.hgs_stands.specs.Places.{manifest_data, manifest_index}
use Rattle.hgs_legal.specs.LegalLog.{IsRun, Run, State}
use Rattle.hgs_legal.specs.Numbers.{n_of, repo_at}
use Rattle.hgs_stands.specs.Stands.{HoldsChangesets, Stands}
use Rattle.hgs_views.specs.Course.{Course, IsBetween, IsCourse, KeepsFronts, tree_after}
use Rattle.hgs_headline.specs.WritersLog.{WritersLog, course_of, state_after}

never : {A : Type 0} → true ≡ false → A
never e = absurd (no e)
  where
    no : true ≡ false → ⊥
    no h = cc

-- ---- bytes

-- what stands at the front of a separate index is separate
front-separate : (front more : List ℕ) → is_inline (front ++ more) ≡ false → is_inline front ≡ false
front-separate front more e = ap is_inline (sym (take_at front more (length front) refl)) ∙ fronts-separate (length front) (front ++ more) e

front-bytes : (store index data_bytes : List ℕ) (revisions : List Revision) → HoldsEither store data_bytes revisions → IsPrefixOf store index → is_inline index ≡ false → take (64 * length revisions) index ≡ store
front-bytes store index data_bytes revisions h p e =
    let apart = front-separate store p.0 (sym (ap is_inline p.1) ∙ e) in
    let held : HoldsRevisions store data_bytes revisions = subst (λ b. Holds b store data_bytes revisions) apart h in
    ap (take (64 * length revisions)) p.1 ∙ take_at store p.0 (64 * length revisions) (length-held store data_bytes revisions held)

abbrev pub Counts : Type 0
Counts = (index : List ℕ) (changesets first : ℕ) → IsCutByLinks index changesets first → linked_front (length index) changesets index ≡ first

uses-more : (changesets more : List Changeset) (path : List ℕ) → uses changesets path ≡ true → uses (changesets ++ more) path ≡ true
uses-more [] more path e = never (sym e)
uses-more (c ∷ changesets) more path e = by (among path (tree_paths c.tree)) (uses-more changesets more path) e
  where
    by : (b : Bool) → (uses changesets path ≡ true → uses (changesets ++ more) path ≡ true) → (b || uses changesets path) ≡ true → (b || uses (changesets ++ more) path) ≡ true
    by true rec h = refl
    by false rec h = rec h

prefix-then : (xs ys zs : List Op) → IsPrefixOf xs ys → IsPrefixOf ys zs → IsPrefixOf xs zs
prefix-then xs ys zs a b = (a.0 ++ b.0, b.1 ∙ ap (λ l. l ++ b.0) a.1 ∙ append_assoc xs a.0 b.0)

pub fronts : Counts → (x : Course) (first last log : List Op) (i : ℕ) → IsCourse x first last → CutsAlong x first last → IsBetween first last log → i ≤ x.published log → TellsFronts (tree_after x log) (x.store i) (x.repo i).changesets
fronts counts x first last log i course cuts between le = record {
  manifest = record {
    counted = counts (index_apart (bytes_at t manifest_index)) (length (x.repo i).changesets) (length (history (x.repo i).changesets).manifest) is.manifest;
    bytes = front-bytes (bytes_at (x.store i) manifest_index) (bytes_at t manifest_index) (bytes_at (x.store i) manifest_data) (history (x.repo i).changesets).manifest held.manifest kept.manifest;
  };
  filelogs = λ path used. record {
    counted = counts (index_apart (bytes_at t (store_name path I))) (length (x.repo i).changesets) (length ((history (x.repo i).changesets).filelog path)) (is.filelogs path (subst (λ l. uses l path ≡ true) (sym on.1) (uses-more (x.repo i).changesets on.0 path used)));
    bytes = front-bytes (bytes_at (x.store i) (store_name path I)) (bytes_at t (store_name path I)) (bytes_at (x.store i) (store_name path D)) ((history (x.repo i).changesets).filelog path) (held.filelogs path used) (kept.filelogs path I used);
  };
}
  where
    t : Tree
    t = tree_after x log

    up : x.published log ≤ x.published last
    up = (course.rises log last between (record { begins = between.ends; ends = ([], sym (nothing last)) })).published
      where
        nothing : (xs : List Op) → xs ++ [] ≡ xs
        nothing [] = refl
        nothing (o ∷ xs) = ap (λ l. o ∷ l) (nothing xs)

    is : AreCutByLinks t (x.repo i).changesets (x.repo (x.published log)).changesets
    is = cuts log i between le

    on : IsPrefixOf (x.repo i).changesets (x.repo (x.published log)).changesets
    on = course.goes_on i (x.published log) le up

    held : HoldsChangesets (x.store i) (x.repo i).changesets
    held = course.holds i (omega (arith, le, up))

    kept : KeepsFronts (x.store i) t (x.repo i).changesets
    kept = course.stays log i between le

-- ---- the log that writers make

pub record Below : Type 1 where
  pub fronts : (h : WritersLog) (front rest : List Op) → h.log ≡ front ++ rest → IsRun h.start h.first front (state_after h front) × Run (state_after h front) rest h.last
  pub cut : (t : Tree) (r : Repo) (log : List Op) (s : State) (i : ℕ) → Stands t r → IsRun t r log s → i ≤ n_of s → AreCutByLinks (after_all log t) (repo_at s i).changesets (repo_at s (n_of s)).changesets
  pub stay : (s : State) (log : List Op) (s' : State) (i : ℕ) → Run s log s' → i ≤ n_of s → repo_at s' i ≡ repo_at s i

pub cuts-along : (b : Below) (h : WritersLog) (first last : List Op) → IsPrefixOf last h.log → CutsAlong (course_of h) first last
cuts-along b h first last to log i between le =
    let p = prefix-then log last h.log between.ends to in
    let runs = b.fronts h log p.0 p.1 in
    let s = state_after h log in
    subst (λ (q : Repo). AreCutByLinks (tree_after (course_of h) log) q.changesets (repo_at h.last (n_of s)).changesets) (sym (b.stay s p.0 h.last i runs.1 le))
    (subst (λ (q : Repo). AreCutByLinks (tree_after (course_of h) log) (repo_at s i).changesets q.changesets) (sym (b.stay s p.0 h.last (n_of s) runs.1 (omega arith)))
    (b.cut h.start h.first log s i h.stands runs.0 le))

pub record Ends : Type 1 where
  pub fronts : (h : WritersLog) (front rest : List Op) → h.log ≡ front ++ rest → IsRun h.start h.first front (state_after h front) × Run (state_after h front) rest h.last
  pub course : (h : WritersLog) (first last : List Op) → IsPrefixOf last h.log → IsCourse (course_of h) first last
  pub stay : (s : State) (log : List Op) (s' : State) (i : ℕ) → Run s log s' → i ≤ n_of s → repo_at s' i ≡ repo_at s i
  pub ends : (t store : Tree) (r : Repo) (log : List Op) (s : State) (i : ℕ) → Stands t r → IsRun t r log s → i ≤ n_of s → HoldsChangesets store (repo_at s i).changesets → IsPrefixOf (bytes_at store manifest_index) (bytes_at (after_all log t) manifest_index)
      → ((path : List ℕ) → uses (repo_at s i).changesets path ≡ true → IsPrefixOf (bytes_at store (store_name path I)) (bytes_at (after_all log t) (store_name path I))) → EndByLinks (after_all log t) store (repo_at s i).changesets

pub ends-along : (b : Ends) (h : WritersLog) (first last : List Op) → IsPrefixOf last h.log → EndsAlong (course_of h) first last
ends-along b h first last to log i between le = subst (λ (q : Repo). EndByLinks t (x.store i) q.changesets) (sym same) ends
  where
    x : Course
    x = course_of h

    t : Tree
    t = tree_after x log

    s : State
    s = state_after h log

    p : IsPrefixOf log h.log
    p = prefix-then log last h.log between.ends to

    runs : IsRun h.start h.first log s × Run s p.0 h.last
    runs = b.fronts h log p.0 p.1

    same : repo_at h.last i ≡ repo_at s i
    same = b.stay s p.0 h.last i runs.1 le

    course : IsCourse x first log
    course = b.course h first log p

    here : IsBetween first log log
    here = record { begins = between.begins; ends = ([], sym (nothing log)) }
      where
        nothing : (xs : List Op) → xs ++ [] ≡ xs
        nothing [] = refl
        nothing (o ∷ xs) = ap (λ l. o ∷ l) (nothing xs)

    held : HoldsChangesets (x.store i) (repo_at s i).changesets
    held = subst (λ (q : Repo). HoldsChangesets (x.store i) q.changesets) same (course.holds i le)

    kept : KeepsFronts (x.store i) t (repo_at s i).changesets
    kept = subst (λ (q : Repo). KeepsFronts (x.store i) t q.changesets) same (course.stays log i here le)

    ends : EndByLinks t (x.store i) (repo_at s i).changesets
    ends = b.ends h.start (x.store i) h.first log s i h.stands runs.0 le held kept.manifest (λ path used. kept.filelogs path I used)

-- ---- reads of several moments

abbrev pub OfMoments : Type 0
OfMoments = (bytes : List ℕ) (changesets first : ℕ) → IsOfMoments bytes changesets first → IsCutByLinks bytes changesets first

apart-separate : (index : List ℕ) → is_inline index ≡ false → index_apart index ≡ index
apart-separate index e = ap (λ b. cond b (without_inline (entries_in (length index) index)) index) e

nothing-more : (xs : List Op) → xs ++ [] ≡ xs
nothing-more [] = refl
nothing-more (o ∷ xs) = ap (λ l. o ∷ l) (nothing-more xs)

-- after each list on the way at least as many are published as after the first
still-published : (x : Course) (first last log : List Op) (i : ℕ) → IsCourse x first last → IsBetween first last log → i ≤ x.published first → i ≤ x.published log
still-published x first last log i course between le =
    let at : IsBetween first last first = record { begins = ([], sym (nothing-more first)); ends = prefix-then first log last between.begins between.ends } in
    let up = (course.rises first log at between).published in
    omega (arith, up, le)

pub of-pieces : Counts → OfMoments → (x : Course) (first last : List Op) (index bytes : List ℕ) (changesets count : ℕ) → ((log : List Op) → IsBetween first last log → IsCutByLinks (index_apart (bytes_at (tree_after x log) index)) changesets count) → AreEntriesAlong x first last index bytes → 64 * count ≤ length bytes
    → linked_front (length bytes) changesets bytes ≡ count
of-pieces counts moments x first last index bytes changesets count cuts entries there = counts bytes changesets count (moments bytes changesets count (record {
  there = there;
  each = λ rev le.
      let e = entries rev le in
      (bytes_at (tree_after x e.0) index, subst (λ l. IsCutByLinks l changesets count) (apart-separate (bytes_at (tree_after x e.0) index) e.2) (cuts e.0 e.1), e.3, e.4);
}))

pub manifest-pieces : Counts → OfMoments → (x : Course) (first last : List Op) (i : ℕ) (bytes : List ℕ) → IsCourse x first last → CutsAlong x first last → i ≤ x.published first → AreEntriesAlong x first last manifest_index bytes → 64 * length (history (x.repo i).changesets).manifest ≤ length bytes
    → linked_front (length bytes) (length (x.repo i).changesets) bytes ≡ length (history (x.repo i).changesets).manifest
manifest-pieces counts moments x first last i bytes course cuts le entries there =
    of-pieces counts moments x first last manifest_index bytes (length (x.repo i).changesets) (length (history (x.repo i).changesets).manifest) (λ log between. (cuts log i between (still-published x first last log i course between le)).manifest) entries there

pub filelog-pieces : Counts → OfMoments → (x : Course) (first last : List Op) (i : ℕ) (path bytes : List ℕ) → IsCourse x first last → CutsAlong x first last → i ≤ x.published first → uses (x.repo i).changesets path ≡ true → AreEntriesAlong x first last (store_name path I) bytes → 64 * length ((history (x.repo i).changesets).filelog path) ≤ length bytes
    → linked_front (length bytes) (length (x.repo i).changesets) bytes ≡ length ((history (x.repo i).changesets).filelog path)
filelog-pieces counts moments x first last i path bytes course cuts le used entries there =
    of-pieces counts moments x first last (store_name path I) bytes (length (x.repo i).changesets) (length ((history (x.repo i).changesets).filelog path)) (λ log between. (cut-of log between (still-published x first last log i course between le))) entries there
  where
    cut-of : (log : List Op) → IsBetween first last log → i ≤ x.published log → IsCutByLinks (index_apart (bytes_at (tree_after x log) (store_name path I))) (length (x.repo i).changesets) (length ((history (x.repo i).changesets).filelog path))
    cut-of log between low =
        let whole : IsBetween log last last = record { begins = between.ends; ends = ([], sym (nothing-more last)) } in
        let up = (course.rises log last between whole).published in
        let on = course.goes_on i (x.published log) low up in
        (cuts log i between low).filelogs path (subst (λ l. uses l path ≡ true) (sym on.1) (uses-more (x.repo i).changesets on.0 path used))
