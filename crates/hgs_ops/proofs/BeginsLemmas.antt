-- What a tree shows while a transaction is open: the repository before it.
use Rattle.std.proofs.Common.{◌≡◌, ◌⊎◌, ℕ, List, [], ◌∷◌, ◌++◌, Bool, true, false, ◌||◌, length, drop, map, refl, sym, ◌∙◌, ap, subst, inl, inr, append-nil}
use Rattle.std.specs.Prelude.{◌/◌, Option, Ok, unwrap_or}
use Rattle.std.specs.List.{AllByRecursion, list_all}
use Rattle.std.proofs.lemmas.List.{take-append-drop}
use Rattle.hgs_bytes.specs.Bytes.{same, among}
use Rattle.hgs_bytes.specs.Theorems.ByteLemmas.{same-eq}
use Rattle.hgs_files.specs.Tree.{Tree, bytes_at}
use Rattle.hgs_files.specs.Theorems.TreeLemmas.{bytes_at-is}
use Rattle.hgs_index.specs.Revision.{Revision}
use Rattle.hgs_index.specs.Either.{BeginsEither}
use Rattle.hgs_index.specs.Inline.{index_apart}
use Rattle.hgs_index.specs.Theorems.EitherLemmas.{either-more}
use Rattle.hgs_journal.specs.declared.backups.BackupLine.{BackupLine}
use Rattle.hgs_journal.specs.declared.journal.JournalLine.{JournalLine}
use Rattle.hgs_journal.specs.Covers.{Covers, KeepsFront, backup_places, is_loose, journal_paths}
use Rattle.hgs_journal.specs.Names.{in_store, is_replaced, journal_path, place}
use Rattle.hgs_marks.specs.Bookmarks.{read_bookmarks}
use Rattle.hgs_marks.specs.Dirstate.{read_dirstate}
use Rattle.hgs_model.specs.History.{history, uses}
use Rattle.hgs_model.specs.Phase.{phase_number}
use Rattle.hgs_model.specs.Repo.{Repo}
use Rattle.hgs_path.specs.declared.name.Ext.{Ext}
use Rattle.hgs_path.specs.declared.name.Ext.TheVariants.{I, D}
use Rattle.hgs_path.specs.StoreName.{store_name}
use Rattle.hgs_phases.specs.declared.roots.Root.{Root}
use Rattle.hgs_phases.specs.Phases.{phases_by}
use Rattle.hgs_phases.specs.Roots.{read_roots}
use Rattle.hgs_stands.specs.Places.{bookmarks_path, changelog_index, changelog_data, dirstate_path, manifest_index, manifest_data, requires_path, roots_path}
use Rattle.hgs_stands.specs.Shows.{BeginsAt, Shows}
use Rattle.hgs_stands.specs.Stands.{Stands, changeset_entries}
use Rattle.hgs_stands.specs.Theorems.LooseLemmas.{store-not-loose}
use Rattle.hgs_stands.specs.Theorems.ShowsLemmas.{stands-shows}
use Rattle.hgs_ops.specs.Operations.{strays}
use Rattle.hgs_ops.specs.Theorems.Apart.{fixed, among-part, stores-fixed}
use Rattle.hgs_ops.proofs.JournalLemmas.{small_paths}
use Rattle.hgs_ops.proofs.SmallFiles.{IsOne, is-one}
use Rattle.hgs_ops.proofs.SmallFiles.IsOne.{phaseroots, dirstate, bookmarks}
use Rattle.hgs_ops.specs.Theorems.StandsCommit.{not-fixed}
use Rattle.hgs_ops.specs.Theorems.Touch.{and-left, and-right, bool, bytes-same, never, or-both}

abbrev pub Grown : Tree → Tree → List ℕ → Type 0
Grown u q p = (rest : List ℕ) × (bytes_at u p ≡ bytes_at q p ++ rest)

front-prefix : (u q : Tree) (l : JournalLine) → KeepsFront u q l → Grown u q (in_store l.name)
front-prefix u q l (inl (le, f)) =
    (drop l.offset (bytes_at u (in_store l.name)), sym (take-append-drop l.offset (bytes_at u (in_store l.name))) ∙ ap (λ b. b ++ drop l.offset (bytes_at u (in_store l.name))) (sym (bytes_at-is q (in_store l.name) _ f)))
front-prefix u q l (inr (z, f)) = (bytes_at u (in_store l.name), ap (λ b. b ++ bytes_at u (in_store l.name)) (sym (ap (λ (o : Option (List ℕ)). unwrap_or o []) f)))

fronts-prefix : (u q : Tree) (ls : List JournalLine) (p : List ℕ) → AllByRecursion (KeepsFront u q) ls → among p (journal_paths ls) ≡ true → Grown u q p
fronts-prefix u q [] p all named = never (sym named)
fronts-prefix u q (l ∷ ls) p all named = by (bool (same p (in_store l.name))) (λ n. fronts-prefix u q ls p all.1 n)
  where
    by : (same p (in_store l.name) ≡ true) ⊎ (same p (in_store l.name) ≡ false) → (among p (journal_paths ls) ≡ true → Grown u q p) → Grown u q p
    by (inl h) rec = subst (Grown u q) (sym (same-eq p (in_store l.name) h)) (front-prefix u q l all.0)
    by (inr h) rec = rec (sym (ap (λ b. b || among p (journal_paths ls)) h) ∙ named)

small-one : (p : Bool) (x : List ℕ) → IsOne p x → among (place p x) small_paths ≡ true
small-one p x phaseroots = refl
small-one p x dirstate = refl
small-one p x bookmarks = refl

abbrev AllOnes : List BackupLine → Type 0
AllOnes ls = AllByRecursion (λ (l : BackupLine). IsOne l.plain l.file) ls

all-ones : (ls : List BackupLine) → list_all (λ (l : BackupLine). is_replaced l.plain l.file) ls ≡ true → AllOnes ls
all-ones [] h = tt
all-ones (l ∷ ls) h = (is-one l.plain l.file (and-left _ _ h), all-ones ls (and-right (is_replaced l.plain l.file) _ h))

places-small : (ls : List BackupLine) → AllOnes ls → (p : List ℕ) → among p small_paths ≡ false → among p (backup_places ls) ≡ false
places-small [] ones p e = refl
places-small (l ∷ ls) ones p e = or-both (same p (place l.plain l.file)) (among p (backup_places ls)) (by (bool (same p (place l.plain l.file)))) (places-small ls ones.1 p e)
  where
    by : (same p (place l.plain l.file) ≡ true) ⊎ (same p (place l.plain l.file) ≡ false) → same p (place l.plain l.file) ≡ false
    by (inl h) = never (sym (ap (λ z. among z small_paths) (same-eq p (place l.plain l.file) h) ∙ small-one l.plain l.file ones.0) ∙ e)
    by (inr h) = h

requires-unnamed : (ls : List JournalLine) → among requires_path (journal_paths ls) ≡ false
requires-unnamed [] = refl
requires-unnamed (l ∷ ls) = requires-unnamed ls

module _ (u q : Tree) (c : Covers strays u q) where
  pub grown : (p : List ℕ) → is_loose strays p ≡ false → same p journal_path ≡ false → among p small_paths ≡ false → Grown u q p
  grown p free off small = elim (bool (among p (journal_paths c.journal))) [
    | inl named ↦ fronts-prefix u q c.journal p c.fronts named
    | inr none ↦ ([], bytes-same q u p (c.others p (or-both _ _ (or-both _ _ (or-both _ _ free off) none) (places-small c.backups (all-ones c.backups c.replaced) p small))) ∙ sym (append-nil (bytes_at q p)))
  ]

  store-grown : (path : List ℕ) (ext : Ext) → Grown u q (store_name path ext)
  store-grown path ext = grown (store_name path ext) (store-not-loose strays path ext refl) (not-fixed (store_name path ext) journal_path refl (stores-fixed path ext)) (among-part small_paths fixed (store_name path ext) refl (stores-fixed path ext))

  requires-same : u requires_path ≡ q requires_path
  requires-same = c.others requires_path (or-both _ _ (or-both _ _ refl (requires-unnamed c.journal)) (places-small c.backups (all-ones c.backups c.replaced) requires_path refl))

  begins : (index chunks : List ℕ) (revisions : List Revision) → Grown u q index → Grown u q chunks → BeginsAt q index chunks revisions → BeginsAt u index chunks revisions
  begins index chunks revisions gi gd b =
      subst (λ x. BeginsEither x (bytes_at u chunks) revisions) (sym gi.1)
      (subst (λ y. BeginsEither (bytes_at q index ++ gi.0) y revisions) (sym gd.1) (either-more (bytes_at q index) (bytes_at q chunks) gi.0 gd.0 revisions b))

  revision-files : (r : Repo) (stands : Stands q r) → (path : List ℕ) → uses r.changesets path ≡ true → BeginsAt u (store_name path I) (store_name path D) ((history r.changesets).filelog path)
  revision-files r stands path used = begins (store_name path I) (store_name path D) _ (store-grown path I) (store-grown path D) ((stands-shows q r stands).revlogs.filelogs path used)

-- ---- the files that tell

-- phase roots that give the phases of a repository
abbrev pub GivesPhases : Repo → List ℕ → Type 0
GivesPhases r bytes = (roots : List Root) × (read_roots bytes ≡ Ok roots) × (map phase_number (phases_by roots (changeset_entries r.changesets)) ≡ r.phases)

-- Of the files that tell what is shown, the tree v has those of a tree q that stands, but for part of an entry, so that there
-- are as many whole ones, and the phase roots, which give the same phases.
pub record IsStill (r : Repo) (q v : Tree) : Type 0 where
  pub index : length (index_apart (bytes_at v changelog_index)) / 64 ≡ length (index_apart (bytes_at q changelog_index)) / 64
  pub roots : GivesPhases r (bytes_at v roots_path)
  pub marks : bytes_at v bookmarks_path ≡ bytes_at q bookmarks_path
  pub working : bytes_at v dirstate_path ≡ bytes_at q dirstate_path

pub gives-own : (q : Tree) (r : Repo) → Stands q r → GivesPhases r (bytes_at q roots_path)
gives-own q r s = (s.phases.roots, s.phases.text, s.phases.phases)

pub still-own : (r : Repo) (q v : Tree) → Stands q r → bytes_at v changelog_index ≡ bytes_at q changelog_index → bytes_at v roots_path ≡ bytes_at q roots_path → bytes_at v bookmarks_path ≡ bytes_at q bookmarks_path → bytes_at v dirstate_path ≡ bytes_at q dirstate_path → IsStill r q v
still-own r q v s a b c d = record { index = ap (λ l. length (index_apart l) / 64) a; roots = subst (GivesPhases r) (sym b) (gives-own q r s); marks = c; working = d }

-- each of the files has the bytes of w, for which this is known, or those of q
pub still-either : (r : Repo) (q w v : Tree) → Stands q r → IsStill r q w → (bytes_at v changelog_index ≡ bytes_at w changelog_index) ⊎ (bytes_at v changelog_index ≡ bytes_at q changelog_index) → (bytes_at v roots_path ≡ bytes_at w roots_path) ⊎ (bytes_at v roots_path ≡ bytes_at q roots_path)
    → (bytes_at v bookmarks_path ≡ bytes_at w bookmarks_path) ⊎ (bytes_at v bookmarks_path ≡ bytes_at q bookmarks_path) → (bytes_at v dirstate_path ≡ bytes_at w dirstate_path) ⊎ (bytes_at v dirstate_path ≡ bytes_at q dirstate_path) → IsStill r q v
still-either r q w v s i a b c d = record { index = index a; roots = roots b; marks = text i.marks c; working = text i.working d }
  where
    index : (bytes_at v changelog_index ≡ bytes_at w changelog_index) ⊎ (bytes_at v changelog_index ≡ bytes_at q changelog_index) → length (index_apart (bytes_at v changelog_index)) / 64 ≡ length (index_apart (bytes_at q changelog_index)) / 64
    index (inl e) = ap (λ l. length (index_apart l) / 64) e ∙ i.index
    index (inr e) = ap (λ l. length (index_apart l) / 64) e

    roots : (bytes_at v roots_path ≡ bytes_at w roots_path) ⊎ (bytes_at v roots_path ≡ bytes_at q roots_path) → GivesPhases r (bytes_at v roots_path)
    roots (inl e) = subst (GivesPhases r) (sym e) i.roots
    roots (inr e) = subst (GivesPhases r) (sym e) (gives-own q r s)

    text : {x y z : List ℕ} → y ≡ z → (x ≡ y) ⊎ (x ≡ z) → x ≡ z
    text e (inl f) = f ∙ e
    text e (inr f) = f

pub still-shows : (q v : Tree) (r : Repo) → Stands q r → Covers strays v q → IsStill r q v → Shows v r r r
still-shows q v r s c i = record {
  requires = record { text = s.requires.text; there = requires-same v q c ∙ s.requires.there; known = s.requires.known; whole = s.requires.whole };
  revlogs = record {
    whole = shown.revlogs.whole ∙ sym i.index;
    changelog = begins v q c changelog_index changelog_data _ (grown v q c changelog_index refl refl refl) (grown v q c changelog_data refl refl refl) shown.revlogs.changelog;
    manifest = begins v q c manifest_index manifest_data _ (grown v q c manifest_index refl refl refl) (grown v q c manifest_data refl refl refl) shown.revlogs.manifest;
    filelogs = revision-files v q c r s;
  };
  phases = record { roots = i.roots.0; text = i.roots.1; phases = i.roots.2 };
  bookmarks = ap read_bookmarks i.marks ∙ shown.bookmarks;
  working = record { dirstate = shown.working.dirstate; text = ap read_dirstate i.working ∙ shown.working.text; first = shown.working.first; second = shown.working.second };
}
  where
    shown : Shows q r r r
    shown = stands-shows q r s

-- ---- locks and strays do not matter

pub loose-shows : (t u : Tree) (a b r : Repo) → ((path : List ℕ) → is_loose strays path ≡ false → u path ≡ t path) → Shows t a b r → Shows u a b r
loose-shows t u a b r same_file shown = record {
  requires = record { text = shown.requires.text; there = same_file requires_path refl ∙ shown.requires.there; known = shown.requires.known; whole = shown.requires.whole };
  revlogs = record {
    whole = shown.revlogs.whole ∙ ap (λ l. length (index_apart l) / 64) (sym (text changelog_index refl));
    changelog = moved changelog_index changelog_data _ refl refl shown.revlogs.changelog;
    manifest = moved manifest_index manifest_data _ refl refl shown.revlogs.manifest;
    filelogs = λ path used. moved (store_name path I) (store_name path D) _ (store-not-loose strays path I refl) (store-not-loose strays path D refl) (shown.revlogs.filelogs path used);
  };
  phases = record { roots = shown.phases.roots; text = ap read_roots (text roots_path refl) ∙ shown.phases.text; phases = shown.phases.phases };
  bookmarks = ap read_bookmarks (text bookmarks_path refl) ∙ shown.bookmarks;
  working = record { dirstate = shown.working.dirstate; text = ap read_dirstate (text dirstate_path refl) ∙ shown.working.text; first = shown.working.first; second = shown.working.second };
}
  where
    text : (p : List ℕ) → is_loose strays p ≡ false → bytes_at u p ≡ bytes_at t p
    text p e = bytes-same t u p (same_file p e)

    moved : (index chunks : List ℕ) (revisions : List Revision) → is_loose strays index ≡ false → is_loose strays chunks ≡ false → BeginsAt t index chunks revisions → BeginsAt u index chunks revisions
    moved index chunks revisions x y h = subst (λ z. BeginsEither z (bytes_at u chunks) revisions) (sym (text index x)) (subst (λ z. BeginsEither (bytes_at t index) z revisions) (sym (text chunks y)) h)
