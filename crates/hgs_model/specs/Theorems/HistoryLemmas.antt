-- Histories that grow.
use Rattle.std.proofs.Common.{◌≡◌, ℕ, ◌+◌, ◌≤◌, List, [], ◌∷◌, ◌++◌, Bool, true, false, cond, length, refl, sym, ◌∙◌, ap, arith, append_assoc, append-nil, length-append}
use Rattle.std.specs.Prelude.{Option, Some, None, is_some, find}
use Rattle.hgs_bytes.specs.Bytes.{same, IsPrefixOf}
use Rattle.hgs_index.specs.Revision.{Revision, standing, with_revision_at}
use Rattle.hgs_index.specs.Theorems.RevisionLemmas.{with_revision-prefix}
use Rattle.hgs_model.specs.Repo.{TreeFile, Changeset, Repo}
use Rattle.hgs_model.specs.IsRepo.{IsNextChangeset, IsRepo}
use Rattle.hgs_model.specs.History.{History, no_history, kept, file_revision, log_with_file, changeset_revision, with_changeset, history_from, history, EachChangeset}

pub history_from-append : (h : History) (xs ys : List Changeset) → history_from h (xs ++ ys) ≡ history_from (history_from h xs) ys
history_from-append h [] ys = refl
history_from-append h (x ∷ xs) ys = history_from-append (with_changeset h x) xs ys

-- the history of a list with one more changeset is that of the list, with it
pub history-push : (changesets : List Changeset) (c : Changeset) → history (changesets ++ c ∷ []) ≡ with_changeset (history changesets) c
history-push changesets c = history_from-append no_history changesets (c ∷ [])

kept-prefix : (b : Bool) (log : List Revision) (r : Revision) (more : List Revision) → IsPrefixOf log more → IsPrefixOf log (cond b log more)
kept-prefix true log r more p = ([], sym (append-nil log))
kept-prefix false log r more p = p

log-prefix : (h : History) (c : Changeset) (f : Option TreeFile) (log : List Revision) → IsPrefixOf log (log_with_file h c f log)
log-prefix h c None log = ([], sym (append-nil log))
log-prefix h c (Some f) log = kept-prefix (is_some (kept h c.parents f.path f.body)) log (file_revision h c f) _ (with_revision-prefix log (file_revision h c f))

-- With one more changeset each list of revisions begins with the one before, links and all.
pub record Extends (h k : History) : Type 0 where
  pub filelogs : (path : List ℕ) → IsPrefixOf (h.filelog path) (k.filelog path)
  pub manifest : IsPrefixOf h.manifest k.manifest
  pub changelog : IsPrefixOf h.changelog k.changelog
  pub changesets : length h.placed ≤ length k.placed

pub with_changeset-extends : (h : History) (c : Changeset) → Extends h (with_changeset h c)
with_changeset-extends h c = record {
  filelogs = λ path. log-prefix h c (find (λ f. same f.path path) c.tree) (h.filelog path);
  manifest = with_revision-prefix h.manifest _;
  changelog = with_revision-prefix h.changelog _;
  changesets = omega (arith, length-append h.placed);
}

prefix-trans : {A : Type 0} (xs ys zs : List A) → IsPrefixOf xs ys → IsPrefixOf ys zs → IsPrefixOf xs zs
prefix-trans xs ys zs p q = (p.0 ++ q.0, q.1 ∙ ap (λ l. l ++ q.0) p.1 ∙ append_assoc xs p.0 q.0)

extends-refl : (h : History) → Extends h h
extends-refl h = record { filelogs = λ path. ([], sym (append-nil (h.filelog path))); manifest = ([], sym (append-nil h.manifest)); changelog = ([], sym (append-nil h.changelog)); changesets = omega arith }

extends-trans : (h k l : History) → Extends h k → Extends k l → Extends h l
extends-trans h k l p q = record {
  filelogs = λ path. prefix-trans _ _ _ (p.filelogs path) (q.filelogs path);
  manifest = prefix-trans _ _ _ p.manifest q.manifest;
  changelog = prefix-trans _ _ _ p.changelog q.changelog;
  changesets = omega (arith, p.changesets, q.changesets);
}

-- more changesets extend the history
pub history_from-extends : (h : History) (changesets : List Changeset) → Extends h (history_from h changesets)
history_from-extends h [] = extends-refl h
history_from-extends h (c ∷ changesets) = extends-trans h (with_changeset h c) (history_from h (c ∷ changesets)) (with_changeset-extends h c) (history_from-extends (with_changeset h c) changesets)

-- ---- in a repository each changeset has a revision of its own

new-length : (found : Option ℕ) (revs : List Revision) (r : Revision) → found ≡ None → length (with_revision_at found revs r) ≡ length revs + 1
new-length None revs r e = length-append revs (r ∷ [])
new-length (Some rev) revs r e = absurd (no e)
  where
    no : Some rev ≡ None → ⊥
    no h = cc

pub length-changelog_from : (h : History) (changesets : List Changeset) → EachChangeset IsNextChangeset h changesets → length (history_from h changesets).changelog ≡ length h.changelog + length changesets
length-changelog_from h [] each = omega arith
length-changelog_from h (c ∷ changesets) each =
    omega (arith, length-changelog_from (with_changeset h c) changesets each.1, new-length (standing h.changelog (changeset_revision h c).text c.parents) h.changelog (changeset_revision h c) each.0.other)

pub length-changelog : (r : Repo) → IsRepo r → length (history r.changesets).changelog ≡ length r.changesets
length-changelog r is = length-changelog_from no_history r.changesets is.changesets ∙ omega arith
