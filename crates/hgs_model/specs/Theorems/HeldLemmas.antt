-- What the revisions of a repository say of each changeset.
use Rattle.std.proofs.Common.{◌≡◌, ℕ, zero, suc, ◌+◌, List, [], ◌∷◌, length, take, refl, sym, ◌∙◌, ap, subst, arith, length-append}
use Rattle.std.specs.Prelude.{Some, None, slice_get}
use Rattle.hgs_model.specs.Held.{IsHeld}
use Rattle.hgs_model.specs.Repo.{Changeset}
use Rattle.hgs_model.specs.History.{History, EachChangeset, no_history, history, history_from, with_changeset, changeset_revision, changeset_text_value, manifest_revision, manifest_number, rows_of}
use Rattle.hgs_model.specs.IsRepo.{IsNextChangeset}
use Rattle.hgs_model.specs.Theorems.CountLemmas.{IsSound, number-below, sound-more, changelog-one}
use Rattle.hgs_model.specs.Theorems.HistoryLemmas.{Extends, history_from-extends, length-changelog_from}
use Rattle.hgs_model.specs.Theorems.ListedLemmas.{front-below, text_at-front, node_at-front, slice_get-front, slice_get-last, number-text}
use Rattle.hgs_model.specs.Theorems.PlacedLemmas.{files-placed, all-placed-front}
use Rattle.hgs_model.specs.Theorems.RowLemmas.{rows-good}

-- of the changeset that comes after a history
new-held : (h : History) (c : Changeset) → IsSound h → IsNextChangeset h c → IsHeld h (with_changeset h c) (length h.changelog) c
new-held h c s is = record {
  change = changeset_text_value h c;
  in_form = is.spelled;
  tells = record { user = refl; seconds = refl; offset = refl; extras = refl; description = refl };
  revision = changeset_revision h c;
  there = ap (λ l. slice_get l (length h.changelog)) (changelog-one h c is) ∙ slice_get-last h.changelog (changeset_revision h c);
  text_is = refl;
  parents_are = refl;
  rows = rows_of h c;
  rows_are = refl;
  ascend = rows-good h c is;
  manifest_rev = manifest_number h c;
  below = number-below h.manifest (manifest_revision h c);
  manifest_text_is = number-text h.manifest (manifest_revision h c);
  node_is = refl;
  files = files-placed h c s is;
  unpacks = is.texts;
}

-- what is held stays
held-stays : (before h k : History) (rev : ℕ) (c : Changeset) → Extends h k → IsHeld before h rev c → IsHeld before k rev c
held-stays before h k rev c e is = record {
  change = is.change;
  in_form = is.in_form;
  tells = is.tells;
  revision = is.revision;
  there = slice_get-front h.changelog k.changelog e.changelog rev is.revision is.there;
  text_is = is.text_is;
  parents_are = is.parents_are;
  rows = is.rows;
  rows_are = is.rows_are;
  ascend = is.ascend;
  manifest_rev = is.manifest_rev;
  below = front-below h.manifest k.manifest e.manifest is.manifest_rev is.below;
  manifest_text_is = text_at-front h.manifest k.manifest e.manifest is.manifest_rev is.below ∙ is.manifest_text_is;
  node_is = is.node_is ∙ sym (node_at-front h.manifest k.manifest e.manifest is.manifest_rev is.below);
  files = all-placed-front h.filelog k.filelog e.filelogs c.tree is.rows is.files;
  unpacks = is.unpacks;
}

held-from : (h : History) (changesets : List Changeset) → IsSound h → EachChangeset IsNextChangeset h changesets → (i rev : ℕ) (c : Changeset) → rev ≡ length h.changelog + i → slice_get changesets i ≡ Some c
    → IsHeld (history_from h (take i changesets)) (history_from h changesets) rev c
held-from h [] s each i rev c e found = absurd (no found)
  where
    no : None ≡ Some c → ⊥
    no x = cc
held-from h (d ∷ changesets) s each zero rev c e found =
    let is : d ≡ c = ap (λ o. elim o [ None ↦ d | Some z ↦ z ]) found in
    let at : length h.changelog ≡ rev = omega (arith, e) in
    held-stays h (with_changeset h d) (history_from h (d ∷ changesets)) rev c (history_from-extends (with_changeset h d) changesets)
    (subst (λ n. IsHeld h (with_changeset h d) n c) at (subst (IsHeld h (with_changeset h d) (length h.changelog)) is (new-held h d s each.0)))
held-from h (d ∷ changesets) s each (suc i) rev c e found =
    held-from (with_changeset h d) changesets (sound-more h d s each.0.ordered) each.1 i rev c
    (omega (arith, e, ap length (changelog-one h d each.0), length-append h.changelog (changeset_revision h d ∷ []))) found

-- of each changeset of a list in which each may come after those before it
pub held : (changesets : List Changeset) → EachChangeset IsNextChangeset no_history changesets → (rev : ℕ) (c : Changeset) → slice_get changesets rev ≡ Some c → IsHeld (history (take rev changesets)) (history changesets) rev c
held changesets each rev c found = held-from no_history changesets (record { files = tt; manifests = tt; filelog_count = λ path. omega arith; manifest_count = omega arith }) each rev rev c (omega arith) found

-- the changelog has a revision for each changeset
pub count : (changesets : List Changeset) → EachChangeset IsNextChangeset no_history changesets → length (history changesets).changelog ≡ length changesets
count changesets each = length-changelog_from no_history changesets each ∙ omega arith
