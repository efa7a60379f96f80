-- The sample with an inline changelog stands for the same repository.
use Rattle.std.proofs.Common.{◌≡◌, ◌⊎◌, ℕ, List, [], ◌++◌, true, refl, sym, ap, subst, inl, inr, append-nil}
use Rattle.std.specs.Prelude.{codes}
use Rattle.hgs_files.specs.Tree.{bytes_at}
use Rattle.hgs_index.specs.Inline.{chunks_apart, index_apart, is_inline}
use Rattle.hgs_index.specs.Revision.{Revision}
use Rattle.hgs_index.specs.Revlog.{Holds, HoldsRevisions}
use Rattle.hgs_model.specs.History.{history, uses}
use Rattle.hgs_path.specs.declared.name.Ext.{Ext}
use Rattle.hgs_path.specs.declared.name.Ext.TheVariants.{I, D}
use Rattle.hgs_path.specs.Fncache.{lists}
use Rattle.hgs_path.specs.StoreName.{store_name}
use Rattle.hgs_stands.specs.Places.{changelog_index, changelog_data}
use Rattle.hgs_stands.specs.Samples.{sample_names, two_drafts, two_drafts_files}
use Rattle.hgs_stands.specs.Stands.{HoldsAt, ListsFilelogs, Stands}
use Rattle.hgs_shown.specs.Samples.{inline_drafts_files}
use Rattle.hgs_shown.proofs.SmallLemmas.{used-path}

-- what an index is taken apart into it holds
abbrev pub BackLaw : Type 0
BackLaw = (index data_bytes used left : List ℕ) (revisions : List Revision) → is_inline index ≡ true → HoldsRevisions (index_apart index) used revisions → chunks_apart index ≡ used ++ left → Holds true index data_bytes revisions

changelog-held : BackLaw → Stands two_drafts_files two_drafts → HoldsAt inline_drafts_files changelog_index changelog_data (history two_drafts.changesets).changelog
changelog-held back s =
    back (bytes_at inline_drafts_files changelog_index) (bytes_at inline_drafts_files changelog_data) (bytes_at two_drafts_files changelog_data) [] (history two_drafts.changesets).changelog refl s.revlogs.changelog (sym (append-nil (bytes_at two_drafts_files changelog_data)))

filelog-held : Stands two_drafts_files two_drafts → (path : List ℕ) → uses two_drafts.changesets path ≡ true → HoldsAt inline_drafts_files (store_name path I) (store_name path D) ((history two_drafts.changesets).filelog path)
filelog-held s path used = elim (used-path path used) [
  | inl e ↦ subst (λ p. HoldsAt inline_drafts_files (store_name p I) (store_name p D) ((history two_drafts.changesets).filelog p)) (sym e) (s.revlogs.filelogs (codes "a") refl)
  | inr e ↦ subst (λ p. HoldsAt inline_drafts_files (store_name p I) (store_name p D) ((history two_drafts.changesets).filelog p)) (sym e) (s.revlogs.filelogs (codes "b") refl)
]

listed-in : (path : List ℕ) (ext : Ext) → uses two_drafts.changesets path ≡ true → lists sample_names path ext ≡ true
listed-in path ext used = by (used-path path used) ext
  where
    by : (path ≡ codes "a") ⊎ (path ≡ codes "b") → (x : Ext) → lists sample_names path x ≡ true
    by (inl e) I = ap (λ p. lists sample_names p I) e
    by (inl e) D = ap (λ p. lists sample_names p D) e
    by (inr e) I = ap (λ p. lists sample_names p I) e
    by (inr e) D = ap (λ p. lists sample_names p D) e

names-listed : ListsFilelogs inline_drafts_files two_drafts.changesets
names-listed = record {
  names = sample_names;
  text = refl;
  listed = λ path ext used has. listed-in path ext used;
  used = (inr (codes "a", I, refl, refl), (inr (codes "a", D, refl, refl), (inr (codes "b", I, refl, refl), (inr (codes "b", D, refl, refl), tt))));
}

pub inline-stands : BackLaw → Stands two_drafts_files two_drafts → Stands inline_drafts_files two_drafts
inline-stands back s = record {
  repository = s.repository;
  requires = record { text = s.requires.text; there = s.requires.there; known = s.requires.known; whole = s.requires.whole };
  revlogs = record { changelog = changelog-held back s; manifest = s.revlogs.manifest; filelogs = filelog-held s; names = s.revlogs.names };
  fncache = names-listed;
  phases = record { roots = s.phases.roots; text = s.phases.text; known = s.phases.known; phases = s.phases.phases };
  bookmarks = record { lines = s.bookmarks.lines; text = s.bookmarks.text; known = s.bookmarks.known; marks = s.bookmarks.marks };
  dirstate = record { dirstate = s.dirstate.dirstate; text = s.dirstate.text; first = s.dirstate.first; second = s.dirstate.second; paths = s.dirstate.paths };
  no_journal = s.no_journal;
}
