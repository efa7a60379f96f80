-- What is read for a commit is there, within the limits of reading.
use Rattle.std.proofs.Common.{◌≡◌, ℕ, zero, suc, ◌/◌, List, [], ◌∷◌, ◌++◌, Bool, true, false, ◌==◌, cond, inl, inr, length, nat_lt, take, refl, sym, ◌∙◌, ap, subst, arith}
use Rattle.std.specs.Prelude.{◌<◌, ◌≤◌, Option, Some, None, IfSome, Result, Ok, Err, slice_get}
use Rattle.std.specs.List.{AllByRecursion}
use Rattle.std.proofs.lemmas.Bool.Decides.{nat_tests}
use Rattle.std.proofs.lemmas.List.{length-map}
use Rattle.hgs_files.specs.Tree.{Tree, bytes_at}
use Rattle.hgs_index.specs.Either.{chunks_either}
use Rattle.hgs_index.specs.Inline.{index_apart, is_inline}
use Rattle.hgs_index.specs.Revision.{Parents, Revision}
use Rattle.hgs_index.specs.Revlog.{Holds}
use Rattle.hgs_loading.specs.Found.{and_then}
use Rattle.hgs_loading.specs.Logs.{data_in, either_data_in, either_index_in, either_log_in}
use Rattle.hgs_manifest.specs.Held.{found_in}
use Rattle.hgs_model.specs.History.{History, Placed, file_parents, filelog_with as log_with, first_of, history, kept, placed_of, rev_of_file, row_of, rows_of, uses}
use Rattle.hgs_model.specs.Repo.{Changeset, Repo, TreeFile}
use Rattle.hgs_model.specs.declared.command.NewChange.{NewChange}
use Rattle.hgs_model.specs.declared.files.NewFile.{NewFile}
use Rattle.hgs_model.specs.Theorems.CountLemmas.{file-revision-below, sound}
use Rattle.hgs_model.specs.Theorems.ListLemmas.{none-some, some-same}
use Rattle.hgs_path.specs.declared.name.Ext.{Ext}
use Rattle.hgs_path.specs.declared.name.Ext.TheVariants.{I, D}
use Rattle.hgs_path.specs.Fncache.{listing, lists}
use Rattle.hgs_path.specs.StoreName.{listed_name, store_name}
use Rattle.hgs_reader.specs.Contents.{most_files}
use Rattle.hgs_load.specs.View.{log_answer, revlog_refusal}
use Rattle.hgs_load.specs.declared.answer.ReadAnswer.{ReadAnswer}
use Rattle.hgs_revlog.specs.declared.fault.RevFault.TheVariants as faults
use Rattle.hgs_revlog.specs.declared.fault.Tail.TheVariants.{Refuse}
use Rattle.hgs_revlog.specs.Load.{in_form, loaded_either, most_revisions}
use Rattle.hgs_revlog.specs.Log.{Log, stored_sum}
use Rattle.hgs_stands.specs.Stands.{IsUsedName, Stands}
use Rattle.hgs_stands.specs.Theorems.FilesLemmas.{name-used}
use Rattle.hgs_loading.specs.Theorems.IndexLemmas.{inline-index, separate-index}
use Rattle.hgs_steps.specs.Planned.{IsLoadedOf}
use Rattle.hgs_steps.specs.declared.loaded.Loaded.{Loaded}
use Rattle.hgs_stands.specs.Theorems.FormLemmas.{apart-held}
use Rattle.hgs_commit.specs.Changeset.{of_changelog, of_manifest}
use Rattle.hgs_commit.specs.Commit.{both_parents, grown_in, manifests_of, parent_files, trees_in}
use Rattle.hgs_commit.specs.Files.{OfFile, empty_log, file_in, file_on, file_with, filelog_in, filelog_with, formed, fresh_text, kept_file, kept_in, parents_by, place_in, row_with, source_node, standing_at}
use Rattle.hgs_commit.specs.Obstacles.{Obstacle}
use Rattle.hgs_commit.specs.Texts.{OfLog, OfText, new_text_in}
use Rattle.hgs_commit.specs.Tree.{with_first}
use Rattle.hgs_commit.specs.Trees.{OfGrown, all_files_in, grown_of}
use Rattle.hgs_commit.specs.Walk.{Told}
use Rattle.hgs_writer.specs.CommitsBelow.{Below}
use Rattle.hgs_writer.specs.Commits.{CanBeRead}
use Rattle.hgs_writer.specs.Files.{files_at, told_at}
use Rattle.hgs_writer.specs.Growth.{IsWhole}
use Rattle.hgs_writer.specs.Logs.{IsLogOf}
use Rattle.hgs_writer.specs.StepsBelow.{StepsBelow}
use Rattle.hgs_writer.specs.Trees.{AreBelow}
use Rattle.hgs_writer.proofs.Basics.{never}
use Rattle.hgs_writer.proofs.FileLemmas.{kept-is, parents-of, told-of}
use Rattle.hgs_writer.proofs.FilelogLemmas.{filelog-of, listing-is}
use Rattle.hgs_writer.proofs.FormLemmas.{formed-log, place-formed, separate-chunks}
use Rattle.hgs_writer.proofs.HistoryLemmas.{added, got}
use Rattle.hgs_writer.proofs.LogLemmas.{whole-of}
use Rattle.hgs_writer.proofs.NewTextLemmas.{text-of}
use Rattle.hgs_writer.proofs.ParentLemmas.{files-there, parent-files}

-- an answer that is there
abbrev IsThere : {A : Type 0} → Result A ReadAnswer → Type 0
IsThere {A} r = (x : A) × (r ≡ Ok x)

then-there : {A B : Type 0} (r : Result A ReadAnswer) (more : A → Result B ReadAnswer) (x : A) → r ≡ Ok x → IsThere (more x) → IsThere (and_then r more)
then-there r more x e there = (there.0, ap (λ z. and_then z more) e ∙ there.1)

-- ---- the parents

at-rev : {A : Type 0} (P : A → Type 0) (xs : List A) (i : ℕ) (x : A) → AllByRecursion P xs → slice_get xs i ≡ Some x → P x
at-rev P [] i x all e = none-some x e
at-rev P (y ∷ xs) zero x all e = subst P (some-same y y x e) all.0
at-rev P (y ∷ xs) (suc i) x all e = at-rev P xs i x all.1 e

few-rows : (h : History) (c : Changeset) → length c.tree ≤ most_files → nat_lt most_files (length (rows_of h c)) ≡ false
few-rows h c few = at (length (rows_of h c)) (omega (arith, length-map (placed_of h c) (row_of (log_with h c)), length-map c.tree (λ (f : TreeFile). let p : Placed = record { path = f.path; flag = f.flag; rev = rev_of_file h c f } in p), few))
  where
    at : (n : ℕ) → n ≤ most_files → nat_lt most_files n ≡ false
    at n le = grind (arith, nat_tests)

parent-there : (t : Tree) (r : Repo) (l : Loaded) (o : Option ℕ) → Stands t r → IsLogOf t (of_changelog l.changelog) (history r.changesets).changelog → IsLogOf t (of_manifest l.manifest) (history r.changesets).manifest → CanBeRead t r → IfSome o (λ rev. rev < length r.changesets) → IsThere (parent_files l o t)
parent-there t r l None s changelog manifests read low = ((None, []), refl)
parent-there t r l (Some rev) s changelog manifests read low =
    let c = got r.changesets rev low in
    files-there t l (history (take rev r.changesets)) (history r.changesets) rev c.0 (added r.changesets s.repository.changesets rev c.0 c.1) changelog manifests (few-rows (history (take rev r.changesets)) c.0 (at-rev (λ (x : Changeset). length x.tree ≤ most_files) r.changesets rev c.0 read.trees c.1))

pub parents-there : (t : Tree) (r : Repo) (l : Loaded) (parents : Parents) → Stands t r → IsLogOf t (of_changelog l.changelog) (history r.changesets).changelog → IsLogOf t (of_manifest l.manifest) (history r.changesets).manifest → CanBeRead t r → AreBelow (length r.changesets) parents → IsThere (both_parents l parents t)
parents-there t r l parents s changelog manifest read below =
    let a = parent-there t r l parents.0 s changelog manifest read below.first in
    let b = parent-there t r l parents.1 s changelog manifest read below.second in
    then-there (parent_files l parents.0 t) (λ first. and_then (parent_files l parents.1 t) (λ second. Ok (first, second))) a.0 a.1
    (then-there (parent_files l parents.1 t) (λ second. Ok (a.0, second)) b.0 b.1 ((a.0, b.0), refl))

-- ---- a filelog

-- a filelog that is there, and whose data file ends where its chunks do
record HasFilelog (t : Tree) (l : Loaded) (path : List ℕ) : Type 0 where
  log : OfLog
  there : filelog_in (listing l.fncache) path t ≡ Ok log
  place : IsThere (place_in log t)

-- an index that is inline, or has no more entries than a revlog may have
pub log-there : (more : StepsBelow) (t : Tree) (index : List ℕ) (log : Log) → (is_inline (bytes_at t index) ≡ false → length (bytes_at t index) / 64 ≤ most_revisions) → loaded_either Refuse (bytes_at t index) ≡ Ok log → either_log_in index t ≡ Ok log
log-there more t index log short e = ap (λ bytes. log_answer index (loaded_either Refuse bytes)) (by (is_inline (bytes_at t index)) refl) ∙ ap (log_answer index) e
  where
    by : (b : Bool) → is_inline (bytes_at t index) ≡ b → either_index_in index t ≡ bytes_at t index
    by true is = inline-index index t is
    by false is = separate-index index t is ∙ more.short index t (short is)

pub place-there : (t : Tree) (f : OfLog) → IsWhole t f → IsThere (place_in f t)
place-there t f whole = by (length f.log.entries == 0)
  where
    ends : (a b : ℕ) → a ≡ b → (a == b) ≡ true
    ends a b e = grind (arith, nat_tests)

    whole_data : (b : Bool) → f.log.inline ≡ b → cond b (Ok tt) (data_in f.index f.chunks f.log t) ≡ Ok tt
    whole_data true is = refl
    whole_data false is = ap (λ b. cond b (Ok tt) (Err (revlog_refusal f.index (faults.Tail (length f.log.entries))))) (ends (length (bytes_at t f.chunks)) (stored_sum f.log.entries) (separate-chunks t f is whole))

    by : (b : Bool) → IsThere (cond b (Ok (standing_at f.index t ++ cond f.log.inline [] (standing_at f.chunks t))) (and_then (either_data_in f.index f.chunks f.log t) (λ x. Ok [])))
    by true = (standing_at f.index t ++ cond f.log.inline [] (standing_at f.chunks t), refl)
    by false = ([], ap (λ z. and_then z (λ x. Ok [])) (whole_data f.log.inline refl))

-- a name that is listed without a used path has a file without bytes
pub unused-bytes : (laws : Below) (t : Tree) (r : Repo) (path : List ℕ) (s : Stands t r) → uses r.changesets path ≡ false → lists s.fncache.names path I ≡ true → bytes_at t (store_name path I) ≡ []
unused-bytes laws t r path s unused listed = by (name-used t r s.fncache.names (listed_name path I) s s.fncache.text listed)
  where
    by : IsUsedName t r.changesets (listed_name path I) → bytes_at t (store_name path I) ≡ []
    by (inl none) = ap (bytes_at t) (sym (laws.file path I)) ∙ none
    by (inr there) = never (sym there.2 ∙ ap (uses r.changesets) (laws.names there.0 path there.1 I there.3) ∙ unused)

filelog-there : (laws : Below) (more : StepsBelow) (t : Tree) (r : Repo) (l : Loaded) (path : List ℕ) → Stands t r → IsLoadedOf t l → CanBeRead t r → HasFilelog t l path
filelog-there laws more t r l path s h read = by (uses r.changesets path) (lists s.fncache.names path I) refl refl
  where
    index : List ℕ
    index = store_name path I

    asked : (b : Bool) → lists s.fncache.names path I ≡ b → (f : OfLog) → (let x : Result OfLog ReadAnswer = cond b (and_then (either_log_in index t) (λ log. Ok (filelog_with path log))) (Ok (filelog_with path empty_log)) in x) ≡ Ok f → filelog_in (listing l.fncache) path t ≡ Ok f
    asked b listed f e =
        ap (λ (list : List ℕ → Ext → Bool). filelog_in list path t) (listing-is t r l s h)
        ∙ ap (λ z. cond z (and_then (either_log_in (store_name path I) t) (λ log. Ok (filelog_with path log))) (Ok (filelog_with path empty_log))) listed ∙ e

    empty-place : IsThere (place_in (filelog_with path empty_log) t)
    empty-place = (standing_at (store_name path I) t ++ standing_at (store_name path D) t, refl)

    from-index : (log : Log) → either_log_in index t ≡ Ok log → (let x : Result OfLog ReadAnswer = and_then (either_log_in index t) (λ z. Ok (filelog_with path z)) in x) ≡ Ok (filelog_with path log)
    from-index log e = ap (λ z. and_then z (λ y. Ok (filelog_with path y))) e

    by : (used listed : Bool) → uses r.changesets path ≡ used → lists s.fncache.names path I ≡ listed → HasFilelog t l path
    by used false is listed = record { log = filelog_with path empty_log; there = asked false listed (filelog_with path empty_log) refl; place = empty-place }
    by false true is listed =
        let none = unused-bytes laws t r path s is listed in
        let log = log-there more t index empty_log (λ plain. subst (λ bytes. length bytes / 64 ≤ most_revisions) (sym none) (omega arith)) (ap (loaded_either Refuse) none) in
        record { log = filelog_with path empty_log; there = asked true listed (filelog_with path empty_log) (from-index empty_log log); place = empty-place }
    by true true is listed =
        let revisions = (history r.changesets).filelog path in
        let held = s.revlogs.filelogs path is in
        let within = read.filelogs path is in
        let bytes = bytes_at t index in
        let data_bytes = bytes_at t (store_name path D) in
        let loads = laws.loads (index_apart bytes) (chunks_either bytes data_bytes) [] revisions (apart-held bytes data_bytes revisions held) within in
        let found : Log = record { inline = is_inline bytes; entries = loads.0.entries } in
        let whole_index : loaded_either Refuse bytes ≡ Ok found = ap (in_form (is_inline bytes)) loads.1 in
        let few : length revisions ≤ most_revisions = within.few in
        let log = log-there more t index found (λ plain. omega (arith, laws.index_length bytes data_bytes revisions (subst (λ b. Holds b bytes data_bytes revisions) plain held), few)) whole_index in
        record {
          log = filelog_with path found;
          there = asked true listed (filelog_with path found) (from-index found log);
          place = place-there t (filelog_with path found) (whole-of laws t (filelog_with path found) revisions held whole_index);
        }

-- ---- the files

module _ (laws : Below) (more : StepsBelow) (t : Tree) (r : Repo) (l : Loaded) (s : Stands t r) (loads : IsLoadedOf t l) (read : CanBeRead t r) (parents : Parents) (link : ℕ) where
  abbrev h : History
  h = history r.changesets

  changed-there : (f : OfLog) (file : NewFile) (source : List ℕ) (old : Option Told) (ps : Parents) (o : Option ℕ) → IsLogOf t f (h.filelog file.path) → IsThere (place_in f t) → IsThere (file_with f file source old ps link o t)
  changed-there f file source old ps (Some rev) is place = ((kept_file f file old rev, []), refl)
  changed-there f file source old ps None is place =
      let revision : Revision = record { text = fresh_text file source; parents = ps; link = link } in
      let now = formed f (fresh_text file source) in
      let text = text-of t now (h.filelog file.path) revision (formed-log t f (h.filelog file.path) (fresh_text file source) is) in
      let made : OfText × List Obstacle → List Obstacle → OfFile × List Obstacle = λ x obstacles. (record { row = row_with file x.0.node; changed = true; growth = x.0.growth; new = length f.log.entries == 0; inline = now.log.inline }, obstacles ++ x.1) in
      let placed : IsThere (place_in now t) = place-formed (λ (x : Result (List Obstacle) ReadAnswer). IsThere x) t f (fresh_text file source) (λ obstacles. (obstacles, refl)) place in
      then-there (new_text_in now revision t) (λ x. and_then (place_in now t) (λ obstacles. Ok (made x obstacles))) text.0 text.1
      (then-there (place_in now t) (λ obstacles. Ok (made text.0 obstacles)) placed.0 placed.1 (made text.0 placed.0, refl))

  file-there : (file : NewFile) (source : List ℕ) → IsThere (file_in (listing l.fncache) link file source (told_at h parents.0 file.path) (told_at h parents.1 file.path) t)
  file-there file source =
      let first = told_at h parents.0 file.path in
      let second = told_at h parents.1 file.path in
      let f = filelog-there laws more t r l file.path s loads read in
      let is = filelog-of laws t r l file.path f.log s loads f.there in
      let sound_is = sound r s.repository in
      let ps = file_parents h parents file.path in
      let low = (file-revision-below h parents file.path sound_is).first in
      then-there (filelog_in (listing l.fncache) file.path t) (λ z. and_then (parents_by z first second) (λ p. file_on z file source (first_of first second) p link t)) f.log f.there
      (then-there (parents_by f.log first second) (λ p. file_on f.log file source (first_of first second) p link t) ps (parents-of t h f.log parents file.path sound_is is)
      (then-there (kept_in f.log ps.0 ps.1 file.body t) (λ rev. file_with f.log file source (first_of first second) ps link rev t) (kept h parents file.path file.body) (kept-is t f.log (h.filelog file.path) ps.0 ps.1 file.body is low)
      (changed-there f.log file source (first_of first second) ps (kept h parents file.path file.body) is f.place)))

  all-there : (files : List NewFile) → IsThere (all_files_in (listing l.fncache) link (files_at h parents.0).1 (files_at h parents.1).1 files t)
  all-there [] = (([], []), refl)
  all-there (f ∷ files) =
      let first = (files_at h parents.0).1 in
      let second = (files_at h parents.1).1 in
      let one = told-of h parents.0 f.path in
      let two = told-of h parents.1 f.path in
      let x = file-there f (source_node first f.from) in
      let rest = all-there files in
      then-there (file_in (listing l.fncache) link f (source_node first f.from) (found_in f.path first) (found_in f.path second) t) (λ y. and_then (all_files_in (listing l.fncache) link first second files t) (λ ys. Ok (with_first y ys))) x.0 ((λ i. file_in (listing l.fncache) link f (source_node first f.from) (one i) (two i) t) ∙ x.1)
      (then-there (all_files_in (listing l.fncache) link first second files t) (λ ys. Ok (with_first x.0 ys)) rest.0 rest.1 (with_first x.0 rest.0, refl))

-- ---- the tree of a commit

pub grown-there : (laws : Below) (more : StepsBelow) (t : Tree) (r : Repo) (l : Loaded) (n : NewChange) (parents : Parents) → Stands t r → IsLoadedOf t l → IsLogOf t (of_changelog l.changelog) (history r.changesets).changelog → IsLogOf t (of_manifest l.manifest) (history r.changesets).manifest → CanBeRead t r → AreBelow (length r.changesets) parents
    → (y : (OfGrown × Parents) × List Obstacle) × (grown_in l n parents t ≡ Ok y)
grown-there laws more t r l n parents s loads changelog manifest read below =
    let h = history r.changesets in
    let lists = listing l.fncache in
    let link = length l.changelog.entries in
    let a = parent-there t r l parents.0 s changelog manifest read below.first in
    let b = parent-there t r l parents.1 s changelog manifest read below.second in
    let one = parent-files t r l parents.0 a.0 s changelog manifest below.first a.1 in
    let two = parent-files t r l parents.1 b.0 s changelog manifest below.second b.1 in
    let files = all-there laws more t r l s loads read parents link n.files in
    let there : IsThere (all_files_in lists link a.0.1 b.0.1 n.files t) = (files.0, (λ i. all_files_in lists link (one i).1 (two i).1 n.files t) ∙ files.1) in
    let trees = then-there (parent_files l parents.0 t) (λ first. and_then (parent_files l parents.1 t) (λ second. and_then (all_files_in lists link first.1 second.1 n.files t) (λ z. Ok (record { first = first; second = second; files = z })))) a.0 a.1
    (then-there (parent_files l parents.1 t) (λ second. and_then (all_files_in lists link a.0.1 second.1 n.files t) (λ z. Ok (record { first = a.0; second = second; files = z }))) b.0 b.1
    (then-there (all_files_in lists link a.0.1 b.0.1 n.files t) (λ z. Ok (record { first = a.0; second = b.0; files = z })) there.0 there.1 (record { first = a.0; second = b.0; files = there.0 }, refl))) in
    then-there (trees_in l n parents t) (λ z. Ok ((grown_of z.first.1 z.second.1 z.files.0, manifests_of z), z.files.1)) trees.0 trees.1 (((grown_of trees.0.first.1 trees.0.second.1 trees.0.files.0, manifests_of trees.0), trees.0.files.1), refl)
