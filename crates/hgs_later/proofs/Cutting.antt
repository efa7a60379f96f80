-- At each moment the links of a store's entries tell the fronts of its revlogs.
use Rattle.std.proofs.Common.{◌≡◌, ℕ, ◌*◌, ◌≤◌, List, [], ◌∷◌, ◌++◌, Bool, true, false, ◌||◌, length, refl, sym, ◌∙◌, ap, subst, arith, append_assoc, length-append}
use Rattle.hgs_bytes.specs.Bytes.{IsPrefixOf, among}
use Rattle.hgs_files.specs.Tree.{Tree, bytes_at}
use Rattle.hgs_index.specs.Either.{BeginsEither, HoldsEither}
use Rattle.hgs_index.specs.Inline.{index_apart}
use Rattle.hgs_index.specs.Revision.{Revision}
use Rattle.hgs_links.specs.Links.{IsParted}
use Rattle.hgs_model.specs.History.{history, uses}
use Rattle.hgs_model.specs.Repo.{Changeset, tree_paths}
use Rattle.hgs_ops.specs.Operations.{strays}
use Rattle.hgs_ops.specs.Theorems.Apart.{among-part, fixed, stores-fixed}
use Rattle.hgs_ops.specs.Theorems.Touch.{or-both, or-left}
use Rattle.hgs_path.specs.declared.name.Ext.TheVariants.{I, D}
use Rattle.hgs_path.specs.StoreName.{store_name}
use Rattle.hgs_stands.specs.Places.{manifest_data, manifest_index, bookmarks_path, dirstate_path, roots_path}
use Rattle.hgs_journal.specs.Names.{journal_path, locks}
use Rattle.hgs_stands.specs.Shows.{BeginsChangesets}
use Rattle.hgs_stands.specs.Stands.{HoldsChangesets}
use Rattle.hgs_later.specs.Later.{AreCutByLinks, EndByLinks, IsAddedTo, IsUnder}
use Rattle.hgs_links.specs.Fronts.{EndsByLink, IsCutByLinks}

pub manifest-added : IsAddedTo manifest_index
manifest-added = record { free = refl; off = refl; other = refl }

not-passing : (path : List ℕ) → among path fixed ≡ false → IsAddedTo path
not-passing path e = record {
  free = or-both (among path locks) (among path strays) (among-part locks fixed path refl e) (among-part strays fixed path refl e);
  off = or-left _ _ (among-part (journal_path ∷ []) fixed path refl e);
  other = among-part (roots_path ∷ dirstate_path ∷ bookmarks_path ∷ []) fixed path refl e;
}

pub filelog-added : (path : List ℕ) → IsAddedTo (store_name path I)
filelog-added path = not-passing (store_name path I) (stores-fixed path I)

pub uses-more : (changesets more : List Changeset) (path : List ℕ) → uses changesets path ≡ true → uses (changesets ++ more) path ≡ true
uses-more [] more path e = absurd (no e)
  where
    no : false ≡ true → ⊥
    no h = cc
uses-more (c ∷ changesets) more path e = by (among path (tree_paths c.tree)) (uses-more changesets more path) e
  where
    by : (b : Bool) → (uses changesets path ≡ true → uses (changesets ++ more) path ≡ true) → (b || uses changesets path) ≡ true → (b || uses (changesets ++ more) path) ≡ true
    by true rec h = refl
    by false rec h = rec h

pub then : (xs ys zs : List Changeset) → IsPrefixOf xs ys → IsPrefixOf ys zs → IsPrefixOf xs zs
then xs ys zs a b = (a.0 ++ b.0, b.1 ∙ ap (λ l. l ++ b.0) a.1 ∙ append_assoc xs a.0 b.0)

no-longer : (front all : List Revision) → IsPrefixOf front all → length front ≤ length all
no-longer front all p = omega (arith, ap length p.1, length-append front p.0)

-- the laws of histories and of indexes
pub record Links : Type 0 where
  pub manifest : (front all : List Changeset) → IsPrefixOf front all → IsParted (history all).manifest (length front) (length (history front).manifest)
  pub filelogs : (front all : List Changeset) (path : List ℕ) → IsPrefixOf front all → IsParted ((history all).filelog path) (length front) (length ((history front).filelog path))
  pub manifest_goes_on : (front all : List Changeset) → IsPrefixOf front all → IsPrefixOf (history front).manifest (history all).manifest
  pub filelogs_go_on : (front all : List Changeset) (path : List ℕ) → IsPrefixOf front all → IsPrefixOf ((history front).filelog path) ((history all).filelog path)
  pub cut : (front index data_bytes : List ℕ) (revisions : List Revision) (changesets first : ℕ) → HoldsEither index data_bytes revisions → IsPrefixOf front index → IsParted revisions changesets first → 64 * first ≤ length (index_apart front) → IsCutByLinks (index_apart front) changesets first
  pub there : (index data_bytes : List ℕ) (revisions : List Revision) → BeginsEither index data_bytes revisions → 64 * length revisions ≤ length (index_apart index)
  pub ends : (front index whole data_bytes other_data : List ℕ) (changesets : ℕ) (some all : List Revision) → HoldsEither front data_bytes some → IsPrefixOf front index → IsPrefixOf index whole → HoldsEither whole other_data all → IsParted all changesets (length some) → EndsByLink front index changesets

pub cut-by-links : (k : Links) (u : Tree) (changesets later : List Changeset) → IsPrefixOf changesets later → BeginsChangesets u later → ((path : List ℕ) → IsAddedTo path → IsUnder u path later) → AreCutByLinks u changesets later
cut-by-links k u changesets later p begins under = record {
  manifest =
      let h = under manifest_index manifest-added in
      k.cut (bytes_at u manifest_index) (bytes_at h.tree manifest_index) (bytes_at h.tree manifest_data) (history h.all).manifest (length changesets) (length (history changesets).manifest) h.holds.manifest h.under
      (k.manifest changesets h.all (then changesets later h.all p h.goes_on))
      (omega (arith, no-longer (history changesets).manifest (history later).manifest (k.manifest_goes_on changesets later p), k.there (bytes_at u manifest_index) (bytes_at u manifest_data) (history later).manifest begins.manifest));
  filelogs = λ path used.
      let h = under (store_name path I) (filelog-added path) in
      k.cut (bytes_at u (store_name path I)) (bytes_at h.tree (store_name path I)) (bytes_at h.tree (store_name path D)) ((history h.all).filelog path) (length changesets) (length ((history changesets).filelog path))
      (h.holds.filelogs path (subst (λ l. uses l path ≡ true) (sym h.goes_on.1) (uses-more later h.goes_on.0 path used))) h.under
      (k.filelogs changesets h.all path (then changesets later h.all p h.goes_on))
      (omega (arith, no-longer ((history changesets).filelog path) ((history later).filelog path) (k.filelogs_go_on changesets later path p), k.there (bytes_at u (store_name path I)) (bytes_at u (store_name path D)) ((history later).filelog path) (begins.filelogs path used)));
}

-- what stands right behind a front
pub end-by-links : (k : Links) (u store : Tree) (changesets later : List Changeset) → IsPrefixOf changesets later → HoldsChangesets store changesets → ((path : List ℕ) → IsAddedTo path → IsUnder u path later)
    → IsPrefixOf (bytes_at store manifest_index) (bytes_at u manifest_index) → ((path : List ℕ) → uses changesets path ≡ true → IsPrefixOf (bytes_at store (store_name path I)) (bytes_at u (store_name path I))) → EndByLinks u store changesets
end-by-links k u store changesets later p held under manifest filelogs = record {
  manifest =
      let h = under manifest_index manifest-added in
      k.ends (bytes_at store manifest_index) (bytes_at u manifest_index) (bytes_at h.tree manifest_index) (bytes_at store manifest_data) (bytes_at h.tree manifest_data) (length changesets) (history changesets).manifest (history h.all).manifest
      held.manifest manifest h.under h.holds.manifest (k.manifest changesets h.all (then changesets later h.all p h.goes_on));
  filelogs = λ path used.
      let h = under (store_name path I) (filelog-added path) in
      let on = then changesets later h.all p h.goes_on in
      k.ends (bytes_at store (store_name path I)) (bytes_at u (store_name path I)) (bytes_at h.tree (store_name path I)) (bytes_at store (store_name path D)) (bytes_at h.tree (store_name path D)) (length changesets) ((history changesets).filelog path) ((history h.all).filelog path)
      (held.filelogs path used) (filelogs path used) h.under (h.holds.filelogs path (subst (λ l. uses l path ≡ true) (sym on.1) (uses-more changesets on.0 path used))) (k.filelogs changesets h.all path on);
}
