-- A course on which the history grows.
use Rattle.std.proofs.Common.{◌≡◌, ℕ, zero, suc, ◌/◌, ◌≤◌, List, [], ◌∷◌, ◌++◌, Bool, true, false, length, take, Some, None, Option, refl, sym, ◌∙◌, ap, subst, arith}
use Rattle.std.specs.Prelude.{unwrap_or}
use Rattle.hgs_bytes.specs.Bytes.{IsPrefixOf, among}
use Rattle.hgs_files.specs.declared.op.Op.TheVariants.{Append}
use Rattle.hgs_files.specs.Tree.{Tree, bytes_at, same_path, with_file}
use Rattle.hgs_index.specs.Either.{HoldsEither}
use Rattle.hgs_index.specs.Inline.{index_apart}
use Rattle.hgs_index.specs.Revlog.{HoldsRevisions}
use Rattle.hgs_index.specs.Theorems.EitherLemmas.{either-begins}
use Rattle.hgs_model.specs.History.{history, uses}
use Rattle.hgs_model.specs.IsRepo.{IsRepo}
use Rattle.hgs_model.specs.Repo.{Repo, empty_repo}
use Rattle.hgs_path.specs.declared.name.Ext.{Ext}
use Rattle.hgs_path.specs.declared.name.Ext.TheVariants.{I, D}
use Rattle.hgs_path.specs.StoreName.{store_name}
use Rattle.hgs_stands.specs.Places.{own_files, changelog_index, changelog_data, manifest_index, manifest_data, bookmarks_path, dirstate_path}
use Rattle.hgs_stands.specs.Samples.{two_drafts, two_drafts_files}
use Rattle.hgs_stands.specs.Shows.{BeginsAt, Shows}
use Rattle.hgs_stands.specs.Stands.{HoldsAt, HoldsChangesets, IsClean}
use Rattle.hgs_stands.specs.Theorems.FormLemmas.{apart-held}
use Rattle.hgs_shown.specs.Shown.{chunks_of_changelog, index_of_changelog}
use Rattle.hgs_views.specs.Course.{IsCourse, KeepsFronts, tree_after}
use Rattle.hgs_views.specs.Samples.{then_repo, then_tree, committing, no_files, unmarked_files}
use Rattle.hgs_views.proofs.Below.{ApartLaw, CountLaw, RootsLaw, ShowsLaw, SizeLaw}
use Rattle.hgs_views.proofs.Basics.{begins-on, begins-same, same_path-eq, with_file-other, never, prefix-refl}
use Rattle.hgs_views.proofs.CourseLemmas.{nothing-between, stepped}
use Rattle.hgs_views.proofs.SeenLemmas.{longer}

-- what a last append needs
pub record GrowLaws : Type 0 where
  pub apart : ApartLaw
  pub size : SizeLaw
  pub count : CountLaw
  pub roots_before : RootsLaw

-- ---- a file beside the filelogs

pub log-apart : ApartLaw → (t : Tree) (file : List ℕ) (content : Option (List ℕ)) (path : List ℕ) (ext : Ext) → among file own_files ≡ true → with_file t file content (store_name path ext) ≡ t (store_name path ext)
log-apart apart t file content path ext own = by (same_path file (store_name path ext)) refl
  where
    by : (b : Bool) → same_path file (store_name path ext) ≡ b → with_file t file content (store_name path ext) ≡ t (store_name path ext)
    by true e = never (sym own ∙ ap (λ p. among p own_files) (same_path-eq file (store_name path ext) e) ∙ apart path ext)
    by false e = with_file-other t file (store_name path ext) content e

pub log-bytes : ApartLaw → (t : Tree) (file : List ℕ) (content : Option (List ℕ)) (path : List ℕ) (ext : Ext) → among file own_files ≡ true → bytes_at (with_file t file content) (store_name path ext) ≡ bytes_at t (store_name path ext)
log-bytes apart t file content path ext own = ap (λ (o : Option (List ℕ)). unwrap_or o []) (log-apart apart t file content path ext own)

module _ (law : GrowLaws) (t u : Tree) (r s : Repo) (entries : List ℕ) (r_is : IsRepo r) (s_is : IsRepo s) (goes : IsPrefixOf r.changesets s.changesets) (phases : r.phases ≡ take (length r.changesets) s.phases) (old : HoldsChangesets t r.changesets) (new : HoldsChangesets u s.changesets)
    (keeps : KeepsFronts t u r.changesets) (joined : bytes_at u changelog_index ≡ bytes_at t changelog_index ++ entries) (shows : Shows u r r s) where
  abbrev before : Tree
  before = with_file u changelog_index (Some (bytes_at t changelog_index))

  abbrev behind : Tree
  behind = with_file before changelog_index (Some (bytes_at before changelog_index ++ entries))

  before-log : (path : List ℕ) (ext : Ext) → bytes_at before (store_name path ext) ≡ bytes_at u (store_name path ext)
  before-log path ext = log-bytes law.apart u changelog_index (Some (bytes_at t changelog_index)) path ext refl

  behind-log : (path : List ℕ) (ext : Ext) → bytes_at behind (store_name path ext) ≡ bytes_at u (store_name path ext)
  behind-log path ext = log-bytes law.apart before changelog_index (Some (bytes_at before changelog_index ++ entries)) path ext refl ∙ before-log path ext

  whole : length r.changesets ≡ length (index_of_changelog t) / 64
  whole =
      let held = apart-held (bytes_at t changelog_index) (bytes_at t changelog_data) (history r.changesets).changelog old.changelog in
      let size = law.size (index_of_changelog t) (chunks_of_changelog t) (history r.changesets).changelog held in
      let count = law.count r r_is in
      omega (arith, size, count)

  old-log : (path : List ℕ) → uses r.changesets path ≡ true → BeginsAt before (store_name path I) (store_name path D) ((history r.changesets).filelog path)
  old-log path used =
      begins-on (bytes_at t (store_name path I)) (bytes_at t (store_name path D)) (bytes_at before (store_name path I)) (bytes_at before (store_name path D)) ((history r.changesets).filelog path)
      (subst (IsPrefixOf (bytes_at t (store_name path I))) (sym (before-log path I)) (keeps.filelogs path I used))
      (subst (IsPrefixOf (bytes_at t (store_name path D))) (sym (before-log path D)) (keeps.filelogs path D used))
      (either-begins (bytes_at t (store_name path I)) (bytes_at t (store_name path D)) ((history r.changesets).filelog path) (old.filelogs path used))

  new-log : (path : List ℕ) → uses s.changesets path ≡ true → BeginsAt behind (store_name path I) (store_name path D) ((history s.changesets).filelog path)
  new-log path used =
      begins-same (bytes_at u (store_name path I)) (bytes_at u (store_name path D)) (bytes_at behind (store_name path I)) (bytes_at behind (store_name path D)) ((history s.changesets).filelog path)
      (behind-log path I) (behind-log path D) (shows.revlogs.filelogs path used)

  shown-before : Shows before r r r
  shown-before = record {
    requires = record { text = shows.requires.text; there = shows.requires.there; known = shows.requires.known; whole = shows.requires.whole };
    revlogs = record {
      whole = whole;
      changelog = record {
        index_front = bytes_at t changelog_index;
        data_front = bytes_at t changelog_data;
        held = old.changelog;
        index_begins = prefix-refl (bytes_at t changelog_index);
        data_begins = keeps.changelog_chunks;
      };
      manifest = begins-on (bytes_at t manifest_index) (bytes_at t manifest_data) (bytes_at u manifest_index) (bytes_at u manifest_data) (history r.changesets).manifest keeps.manifest keeps.manifest_chunks
          (either-begins (bytes_at t manifest_index) (bytes_at t manifest_data) (history r.changesets).manifest old.manifest);
      filelogs = old-log;
    };
    phases = record { roots = shows.phases.roots; text = shows.phases.text; phases = law.roots_before shows.phases.roots r s r_is s_is goes shows.phases.phases ∙ sym phases };
    bookmarks = shows.bookmarks;
    working = record { dirstate = shows.working.dirstate; text = shows.working.text; first = shows.working.first; second = shows.working.second };
  }

  shown-behind : Shows behind r r s
  shown-behind = record {
    requires = record { text = shows.requires.text; there = shows.requires.there; known = shows.requires.known; whole = shows.requires.whole };
    revlogs = record {
      whole = shows.revlogs.whole ∙ ap (λ l. length (index_apart l) / 64) joined;
      changelog = begins-same (bytes_at u changelog_index) (bytes_at u changelog_data) (bytes_at t changelog_index ++ entries) (bytes_at u changelog_data) (history s.changesets).changelog (sym joined) refl shows.revlogs.changelog;
      manifest = shows.revlogs.manifest;
      filelogs = new-log;
    };
    phases = record { roots = shows.phases.roots; text = shows.phases.text; phases = shows.phases.phases };
    bookmarks = shows.bookmarks;
    working = record { dirstate = shows.working.dirstate; text = shows.working.text; first = shows.working.first; second = shows.working.second };
  }

  kept-before : KeepsFronts t before r.changesets
  kept-before = record {
    changelog = prefix-refl (bytes_at t changelog_index);
    changelog_chunks = keeps.changelog_chunks;
    manifest = keeps.manifest;
    manifest_chunks = keeps.manifest_chunks;
    filelogs = λ path ext used. subst (IsPrefixOf (bytes_at t (store_name path ext))) (sym (before-log path ext)) (keeps.filelogs path ext used);
  }

  kept-behind : KeepsFronts t behind r.changesets
  kept-behind = record {
    changelog = (entries, refl);
    changelog_chunks = keeps.changelog_chunks;
    manifest = keeps.manifest;
    manifest_chunks = keeps.manifest_chunks;
    filelogs = λ path ext used. subst (IsPrefixOf (bytes_at t (store_name path ext))) (sym (behind-log path ext)) (keeps.filelogs path ext used);
  }

  new-behind : KeepsFronts u behind s.changesets
  new-behind = record {
    changelog = subst (IsPrefixOf (bytes_at u changelog_index)) joined (prefix-refl (bytes_at u changelog_index));
    changelog_chunks = prefix-refl (bytes_at u changelog_data);
    manifest = prefix-refl (bytes_at u manifest_index);
    manifest_chunks = prefix-refl (bytes_at u manifest_data);
    filelogs = λ path ext used. subst (IsPrefixOf (bytes_at u (store_name path ext))) (sym (behind-log path ext)) (prefix-refl (bytes_at u (store_name path ext)));
  }

  -- ---- by number

  repo-is : (i : ℕ) → IsRepo (then_repo r s i)
  repo-is zero = r_is
  repo-is (suc i) = s_is

  goes-on : (i j : ℕ) → i ≤ j → IsPrefixOf (then_repo r s i).changesets (then_repo r s j).changesets
  goes-on zero zero le = prefix-refl r.changesets
  goes-on zero (suc j) le = goes
  goes-on (suc i) zero le = absurd (omega (arith, le))
  goes-on (suc i) (suc j) le = prefix-refl s.changesets

  holds-at : (i : ℕ) → HoldsChangesets (then_tree t u i) (then_repo r s i).changesets
  holds-at zero = old
  holds-at (suc i) = new

  first-stays : (i : ℕ) → i ≤ 0 → KeepsFronts (then_tree t u i) before (then_repo r s i).changesets
  first-stays zero le = kept-before
  first-stays (suc i) le = absurd (omega (arith, le))

  both-stay : (i : ℕ) → KeepsFronts (then_tree t u i) behind (then_repo r s i).changesets
  both-stay zero = kept-behind
  both-stay (suc i) = new-behind

  none-yet : IsCourse (committing t u r s) [] []
  none-yet = record {
    repository = λ i le. repo-is i;
    goes_on = λ i j le top. goes-on i j le;
    holds = λ i le. holds-at i;
    ordered = λ log at. record { marked = omega arith; worked = omega arith };
    rises = λ log more at next. record { marked = omega arith; worked = omega arith; published = longer log more next.begins };
    shows = λ log at. subst (λ l. Shows (tree_after (committing t u r s) l) r r (then_repo r s (length l))) (sym (nothing-between log at)) shown-before;
    stays = λ log i at le. subst (λ l. i ≤ length l → KeepsFronts (then_tree t u i) (tree_after (committing t u r s) l) (then_repo r s i).changesets) (sym (nothing-between log at)) (first-stays i) le;
  }

  pub grown-course : IsCourse (committing t u r s) [] (Append changelog_index entries ∷ [])
  grown-course = stepped (committing t u r s) [] [] (Append changelog_index entries) none-yet (record {
    repository = λ i le. repo-is i;
    goes_on = λ i j le top. goes-on i j le;
    holds = λ i le. holds-at i;
    ordered = record { marked = omega arith; worked = omega arith };
    rises = record { marked = omega arith; worked = omega arith; published = omega arith };
    shows = shown-behind;
    stays = λ i le. both-stay i;
  }) (prefix-refl [])

-- ---- from nothing to two changesets

nothing-held : HoldsRevisions [] [] []
nothing-held = record {
  header = record { inline = false; generaldelta = false };
  stored = [];
  these = refl;
  texts = tt;
  earlier = tt;
  fits = tt;
  different = refl;
  not_null = refl;
  form = refl;
  index_is = refl;
  data_is = refl;
}

no-changesets : HoldsChangesets no_files []
no-changesets = record { changelog = nothing-held; manifest = nothing-held; filelogs = λ path used. never (sym used); names = λ path other used more. never (sym used) }

unmarked-log : ApartLaw → (path : List ℕ) (ext : Ext) → bytes_at unmarked_files (store_name path ext) ≡ bytes_at two_drafts_files (store_name path ext)
unmarked-log apart path ext = log-bytes apart (with_file two_drafts_files bookmarks_path None) dirstate_path None path ext refl ∙ log-bytes apart two_drafts_files bookmarks_path None path ext refl

unmarked-holds : ApartLaw → IsClean two_drafts_files two_drafts → HoldsChangesets unmarked_files two_drafts.changesets
unmarked-holds apart clean =
    let h = clean.stands.revlogs in
    record { changelog = h.changelog; manifest = h.manifest; filelogs = λ path used. log path (h.filelogs path used); names = h.names }
  where
    log : (path : List ℕ) → HoldsAt two_drafts_files (store_name path I) (store_name path D) ((history two_drafts.changesets).filelog path) → HoldsAt unmarked_files (store_name path I) (store_name path D) ((history two_drafts.changesets).filelog path)
    log path h = subst (λ i. HoldsEither i (bytes_at unmarked_files (store_name path D)) ((history two_drafts.changesets).filelog path)) (sym (unmarked-log apart path I))
        (subst (λ d. HoldsEither (bytes_at two_drafts_files (store_name path I)) d ((history two_drafts.changesets).filelog path)) (sym (unmarked-log apart path D)) h)

unmarked-shows : ApartLaw → ShowsLaw → IsClean two_drafts_files two_drafts → Shows unmarked_files empty_repo empty_repo two_drafts
unmarked-shows apart shows_law clean =
    let s = shows_law two_drafts_files two_drafts clean.stands in
    record {
      requires = record { text = s.requires.text; there = s.requires.there; known = s.requires.known; whole = s.requires.whole };
      revlogs = record { whole = s.revlogs.whole; changelog = s.revlogs.changelog; manifest = s.revlogs.manifest; filelogs = λ path used. log path (s.revlogs.filelogs path used) };
      phases = record { roots = s.phases.roots; text = s.phases.text; phases = s.phases.phases };
      bookmarks = refl;
      working = record { dirstate = _; text = refl; first = refl; second = refl };
    }
  where
    log : (path : List ℕ) → BeginsAt two_drafts_files (store_name path I) (store_name path D) ((history two_drafts.changesets).filelog path) → BeginsAt unmarked_files (store_name path I) (store_name path D) ((history two_drafts.changesets).filelog path)
    log path b =
        begins-same (bytes_at two_drafts_files (store_name path I)) (bytes_at two_drafts_files (store_name path D)) (bytes_at unmarked_files (store_name path I)) (bytes_at unmarked_files (store_name path D)) ((history two_drafts.changesets).filelog path)
        (unmarked-log apart path I) (unmarked-log apart path D) b

nothing-kept : KeepsFronts no_files unmarked_files []
nothing-kept = record {
  changelog = (bytes_at unmarked_files changelog_index, refl);
  changelog_chunks = (bytes_at unmarked_files changelog_data, refl);
  manifest = (bytes_at unmarked_files manifest_index, refl);
  manifest_chunks = (bytes_at unmarked_files manifest_data, refl);
  filelogs = λ path ext used. never (sym used);
}

pub sample-grows : GrowLaws → ShowsLaw → IsRepo empty_repo → IsClean two_drafts_files two_drafts → IsCourse (committing no_files unmarked_files empty_repo two_drafts) [] (Append changelog_index (bytes_at unmarked_files changelog_index) ∷ [])
sample-grows law shows_law empty clean =
    grown-course law no_files unmarked_files empty_repo two_drafts (bytes_at unmarked_files changelog_index) empty clean.stands.repository (two_drafts.changesets, refl) refl no-changesets (unmarked-holds law.apart clean) nothing-kept refl (unmarked-shows law.apart shows_law clean)
