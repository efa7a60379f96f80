-- What is read for a commit is refused only for a limit.
use Rattle.std.proofs.Common.{◌≡◌, ℕ, List, [], ◌∷◌, ◌++◌, Bool, true, false, ◌==◌, cond, length, take, refl, sym, ◌∙◌, ap, subst, arith}
use Rattle.std.specs.Prelude.{◌<◌, ◌≤◌, ◌*◌, ◌/◌, Option, Some, None, IfSome, Result, Ok, Err}
use Rattle.std.proofs.lemmas.List.{take_all}
use Rattle.hgs_files.specs.Tree.{Tree, bytes_at}
use Rattle.hgs_index.specs.Either.{HoldsEither, chunks_either}
use Rattle.hgs_index.specs.Inline.{index_apart, is_inline}
use Rattle.hgs_index.specs.Revision.{Parents, Revision}
use Rattle.hgs_index.specs.Revlog.{Holds}
use Rattle.hgs_index.specs.Theorems.InlineLemmas.{fronts-separate}
use Rattle.hgs_loading.specs.Found.{and_then}
use Rattle.hgs_loading.specs.Logs.{either_index_in, either_log_in, index_in}
use Rattle.hgs_manifest.specs.Held.{found_in}
use Rattle.hgs_model.specs.History.{History, file_parents, first_of, history, kept, uses}
use Rattle.hgs_model.specs.Repo.{Repo}
use Rattle.hgs_model.specs.declared.command.NewChange.{NewChange}
use Rattle.hgs_model.specs.declared.files.NewFile.{NewFile}
use Rattle.hgs_model.specs.Theorems.CountLemmas.{file-revision-below, sound}
use Rattle.hgs_path.specs.declared.name.Ext.{Ext}
use Rattle.hgs_path.specs.declared.name.Ext.TheVariants.{I, D}
use Rattle.hgs_path.specs.Fncache.{listing, lists}
use Rattle.hgs_path.specs.StoreName.{store_name}
use Rattle.hgs_load.specs.View.{log_answer, revlog_refusal}
use Rattle.hgs_load.specs.declared.answer.ReadAnswer.{ReadAnswer}
use Rattle.hgs_revlog.specs.declared.fault.RevFault.{RevFault}
use Rattle.hgs_revlog.specs.declared.fault.Tail.TheVariants.{Refuse}
use Rattle.hgs_revlog.specs.Load.{in_form, loaded, loaded_either, most_revisions}
use Rattle.hgs_revlog.specs.Log.{Log}
use Rattle.hgs_stands.specs.Stands.{Stands}
use Rattle.hgs_loading.specs.Theorems.IndexLemmas.{inline-index, separate-index}
use Rattle.hgs_steps.specs.Planned.{IsLoadedOf}
use Rattle.hgs_steps.specs.declared.loaded.Loaded.{Loaded}
use Rattle.hgs_stands.specs.Theorems.FormLemmas.{apart-held}
use Rattle.hgs_commit.specs.Changeset.{of_changelog, of_manifest}
use Rattle.hgs_commit.specs.Commit.{both_parents, grown_in, manifests_of, parent_files, trees_in}
use Rattle.hgs_commit.specs.Files.{OfFile, empty_log, file_in, file_on, file_with, filelog_in, filelog_with, formed, fresh_text, parents_by, place_in, row_with, source_node}
use Rattle.hgs_commit.specs.Obstacles.{Obstacle}
use Rattle.hgs_commit.specs.Texts.{OfLog, OfText, new_text_in}
use Rattle.hgs_commit.specs.Tree.{OfFiles, with_first}
use Rattle.hgs_commit.specs.Trees.{all_files_in, grown_of}
use Rattle.hgs_commit.specs.Walk.{Told}
use Rattle.hgs_writer.specs.CommitsBelow.{Below}
use Rattle.hgs_writer.specs.Files.{files_at, told_at}
use Rattle.hgs_writer.specs.Logs.{IsLogOf}
use Rattle.hgs_writer.specs.StepsBelow.{StepsBelow}
use Rattle.hgs_writer.specs.Trees.{AreBelow}
use Rattle.hgs_writer.proofs.Basics.{IsLimited, both, given-limited, ok-is, then-limited}
use Rattle.hgs_writer.proofs.FileLemmas.{kept-is, parents-of, told-of}
use Rattle.hgs_writer.proofs.FilelogLemmas.{filelog-of, listing-is}
use Rattle.hgs_writer.proofs.FormLemmas.{formed-log, place-formed}
use Rattle.hgs_writer.proofs.HistoryLemmas.{added, got}
use Rattle.hgs_writer.proofs.LimitLemmas.{HasOnlyLimits, held-limited}
use Rattle.hgs_writer.proofs.LogLemmas.{whole-of}
use Rattle.hgs_writer.proofs.NewTextLemmas.{text-of}
use Rattle.hgs_writer.proofs.ParentLemmas.{files-limited, parent-files}
use Rattle.hgs_writer.proofs.ReadLemmas.{log-there, place-there, unused-bytes}

-- ---- the parents

parent-limited : (t : Tree) (r : Repo) (l : Loaded) (o : Option ℕ) → Stands t r → IsLogOf t (of_changelog l.changelog) (history r.changesets).changelog → IsLogOf t (of_manifest l.manifest) (history r.changesets).manifest → IfSome o (λ rev. rev < length r.changesets) → IsLimited (parent_files l o t)
parent-limited t r l None s changelog manifests low = tt
parent-limited t r l (Some rev) s changelog manifests low =
    let c = got r.changesets rev low in
    files-limited t l (history (take rev r.changesets)) (history r.changesets) rev c.0 (added r.changesets s.repository.changesets rev c.0 c.1) changelog manifests

pub parents-limited : (t : Tree) (r : Repo) (l : Loaded) (parents : Parents) → Stands t r → IsLogOf t (of_changelog l.changelog) (history r.changesets).changelog → IsLogOf t (of_manifest l.manifest) (history r.changesets).manifest → AreBelow (length r.changesets) parents → IsLimited (both_parents l parents t)
parents-limited t r l parents s changelog manifest below =
    then-limited (parent_files l parents.0 t) (λ first. and_then (parent_files l parents.1 t) (λ second. Ok (first, second))) (parent-limited t r l parents.0 s changelog manifest below.first) (λ first e.
    then-limited (parent_files l parents.1 t) (λ second. Ok (first, second)) (parent-limited t r l parents.1 s changelog manifest below.second) (λ second g. tt))

-- ---- a filelog

answer-limited : (index : List ℕ) (r : Result Log RevFault) → HasOnlyLimits r → IsLimited (log_answer index r)
answer-limited index (Ok log) only = tt
answer-limited index (Err fault) only = (only.0, ap (revlog_refusal index) only.1)

module _ (laws : Below) (more : StepsBelow) (t : Tree) (r : Repo) (l : Loaded) (s : Stands t r) (loads : IsLoadedOf t l) (path : List ℕ) where
  abbrev index : List ℕ
  index = store_name path I

  abbrev bytes : List ℕ
  bytes = bytes_at t (store_name path I)

  -- the index of a used path's filelog
  either-limited : uses r.changesets path ≡ true → HasOnlyLimits (loaded_either Refuse (either_index_in index t))
  either-limited used = by (is_inline bytes) refl
    where
      held : HoldsEither bytes (bytes_at t (store_name path D)) ((history r.changesets).filelog path)
      held = s.revlogs.filelogs path used

      formed-limited : (b : Bool) (x : Result Log RevFault) → HasOnlyLimits x → HasOnlyLimits (in_form b x)
      formed-limited b (Ok log) only = tt
      formed-limited b (Err fault) only = only

      all : take (64 * length (index_apart bytes)) (index_apart bytes) ≡ index_apart bytes
      all = take_all (64 * length (index_apart bytes)) (index_apart bytes) (omega arith)

      by : (b : Bool) → is_inline bytes ≡ b → HasOnlyLimits (loaded_either Refuse (either_index_in index t))
      by true is =
          subst (λ x. HasOnlyLimits (loaded_either Refuse x)) (sym (inline-index index t is))
          (formed-limited (is_inline bytes) (loaded Refuse (index_apart bytes))
          (subst (λ x. HasOnlyLimits (loaded Refuse x)) all
          (held-limited (index_apart bytes) (chunks_either bytes (bytes_at t (store_name path D))) ((history r.changesets).filelog path) (length (index_apart bytes)) (apart-held bytes (bytes_at t (store_name path D)) ((history r.changesets).filelog path) held))))
      by false is =
          subst (λ x. HasOnlyLimits (loaded_either Refuse x)) (sym (separate-index index t is))
          (subst HasOnlyLimits (sym (laws.plain Refuse (index_in index t) (fronts-separate (64 * 1000448) bytes is)))
          (held-limited bytes (bytes_at t (store_name path D)) ((history r.changesets).filelog path) 1000448 (subst (λ b. Holds b bytes (bytes_at t (store_name path D)) ((history r.changesets).filelog path)) is held)))

  log-limited : (used : Bool) → uses r.changesets path ≡ used → lists s.fncache.names path I ≡ true → IsLimited (either_log_in index t)
  log-limited true is listed = answer-limited index (loaded_either Refuse (either_index_in index t)) (either-limited is)
  log-limited false is listed =
      let none = unused-bytes laws t r path s is listed in
      given-limited (either_log_in index t) empty_log (log-there more t index empty_log (λ plain. subst (λ x. length x / 64 ≤ most_revisions) (sym none) (omega arith)) (ap (loaded_either Refuse) none))

  by-list : filelog_in (listing l.fncache) path t ≡ filelog_in (lists s.fncache.names) path t
  by-list = ap (λ (list : List ℕ → Ext → Bool). filelog_in list path t) (listing-is t r l s loads)

  filelog-limited : IsLimited (filelog_in (listing l.fncache) path t)
  filelog-limited = subst (λ (x : Result OfLog ReadAnswer). IsLimited x) (sym by-list) (by (lists s.fncache.names path I) refl)
    where
      by : (listed : Bool) → lists s.fncache.names path I ≡ listed → IsLimited (let x : Result OfLog ReadAnswer = cond listed (and_then (either_log_in index t) (λ log. Ok (filelog_with path log))) (Ok (filelog_with path empty_log)) in x)
      by false listed = tt
      by true listed = then-limited (either_log_in index t) (λ log. Ok (filelog_with path log)) (log-limited (uses r.changesets path) refl listed) (λ log e. tt)

  -- where a new revision stands behind those of the filelog
  place-limited : (f : OfLog) → filelog_in (listing l.fncache) path t ≡ Ok f → IsLimited (place_in f t)
  place-limited f e = by (lists s.fncache.names path I) (uses r.changesets path) refl refl (sym by-list ∙ e)
    where
      empty-place : (g : OfLog) → filelog_with path empty_log ≡ g → IsLimited (place_in g t)
      empty-place g is = subst (λ (x : OfLog). IsLimited (place_in x t)) is tt

      by : (listed used : Bool) → uses r.changesets path ≡ used → lists s.fncache.names path I ≡ listed → (let x : Result OfLog ReadAnswer = cond listed (and_then (either_log_in index t) (λ log. Ok (filelog_with path log))) (Ok (filelog_with path empty_log)) in x) ≡ Ok f → IsLimited (place_in f t)
      by false used is listed g = empty-place f (ok-is {E = ReadAnswer} (filelog_with path empty_log) f g)
      by true true is listed g =
          let a = both (either_log_in index t) (λ log. Ok (filelog_with path log)) f g in
          let whole = whole-of laws t (filelog_with path a.0) ((history r.changesets).filelog path) (s.revlogs.filelogs path is) (laws.whole index t a.0 a.1) in
          let place = place-there t (filelog_with path a.0) whole in
          subst (λ (x : OfLog). IsLimited (place_in x t)) (ok-is {E = ReadAnswer} (filelog_with path a.0) f a.2) (given-limited (place_in (filelog_with path a.0) t) place.0 place.1)
      by true false is listed g =
          let a = both (either_log_in index t) (λ log. Ok (filelog_with path log)) f g in
          let none = unused-bytes laws t r path s is listed in
          let empty = ok-is {E = RevFault} empty_log a.0 (ap (loaded_either Refuse) (sym none) ∙ laws.whole index t a.0 a.1) in
          empty-place f (ap (filelog_with path) empty ∙ ok-is {E = ReadAnswer} (filelog_with path a.0) f a.2)

-- ---- the files

module _ (laws : Below) (more : StepsBelow) (t : Tree) (r : Repo) (l : Loaded) (s : Stands t r) (loads : IsLoadedOf t l) (parents : Parents) (link : ℕ) where
  abbrev h : History
  h = history r.changesets

  changed-limited : (f : OfLog) (file : NewFile) (source : List ℕ) (old : Option Told) (ps : Parents) (o : Option ℕ) → IsLogOf t f (h.filelog file.path) → IsLimited (place_in f t) → IsLimited (file_with f file source old ps link o t)
  changed-limited f file source old ps (Some rev) is place = tt
  changed-limited f file source old ps None is place =
      let revision : Revision = record { text = fresh_text file source; parents = ps; link = link } in
      let now = formed f (fresh_text file source) in
      let text = text-of t now (h.filelog file.path) revision (formed-log t f (h.filelog file.path) (fresh_text file source) is) in
      let made : OfText × List Obstacle → List Obstacle → OfFile × List Obstacle = λ x obstacles. (record { row = row_with file x.0.node; changed = true; growth = x.0.growth; new = length f.log.entries == 0; inline = now.log.inline }, obstacles ++ x.1) in
      let placed : IsLimited (place_in now t) = place-formed (λ (x : Result (List Obstacle) ReadAnswer). IsLimited x) t f (fresh_text file source) (λ obstacles. tt) place in
      then-limited (new_text_in now revision t) (λ x. and_then (place_in now t) (λ obstacles. Ok (made x obstacles))) (given-limited (new_text_in now revision t) text.0 text.1)
      (λ x e. then-limited (place_in now t) (λ obstacles. Ok (made x obstacles)) placed (λ obstacles g. tt))

  file-limited : (file : NewFile) (source : List ℕ) → IsLimited (file_in (listing l.fncache) link file source (told_at h parents.0 file.path) (told_at h parents.1 file.path) t)
  file-limited file source =
      let first = told_at h parents.0 file.path in
      let second = told_at h parents.1 file.path in
      let sound_is = sound r s.repository in
      let given = file_parents h parents file.path in
      let low = (file-revision-below h parents file.path sound_is).first in
      then-limited (filelog_in (listing l.fncache) file.path t) (λ z. and_then (parents_by z first second) (λ p. file_on z file source (first_of first second) p link t)) (filelog-limited laws more t r l s loads file.path) (λ f e.
      let is = filelog-of laws t r l file.path f s loads e in
      let ps = parents-of t h f parents file.path sound_is is in
      let stays = kept-is t f (h.filelog file.path) given.0 given.1 file.body is low in
      subst (λ (x : Result Parents ReadAnswer). IsLimited (and_then x (λ p. file_on f file source (first_of first second) p link t))) (sym ps)
      (subst (λ (x : Result (Option ℕ) ReadAnswer). IsLimited (and_then x (λ rev. file_with f file source (first_of first second) given link rev t))) (sym stays)
      (changed-limited f file source (first_of first second) given (kept h parents file.path file.body) is (place-limited laws more t r l s loads file.path f e))))

  all-limited : (files : List NewFile) → IsLimited (all_files_in (listing l.fncache) link (files_at h parents.0).1 (files_at h parents.1).1 files t)
  all-limited [] = tt
  all-limited (f ∷ files) =
      let first = (files_at h parents.0).1 in
      let second = (files_at h parents.1).1 in
      let one = told-of h parents.0 f.path in
      let two = told-of h parents.1 f.path in
      let rest = all-limited files in
      then-limited (file_in (listing l.fncache) link f (source_node first f.from) (found_in f.path first) (found_in f.path second) t) (λ y. and_then (all_files_in (listing l.fncache) link first second files t) (λ ys. Ok (with_first y ys)))
      (subst (λ (x : Result (OfFile × List Obstacle) ReadAnswer). IsLimited x) (sym (λ i. file_in (listing l.fncache) link f (source_node first f.from) (one i) (two i) t)) (file-limited f (source_node first f.from)))
      (λ x e. then-limited (all_files_in (listing l.fncache) link first second files t) (λ ys. Ok (with_first x ys)) rest (λ ys g. tt))

-- ---- the tree of a commit

pub grown-limited : (laws : Below) (more : StepsBelow) (t : Tree) (r : Repo) (l : Loaded) (n : NewChange) (parents : Parents) → Stands t r → IsLoadedOf t l → IsLogOf t (of_changelog l.changelog) (history r.changesets).changelog → IsLogOf t (of_manifest l.manifest) (history r.changesets).manifest → AreBelow (length r.changesets) parents → IsLimited (grown_in l n parents t)
grown-limited laws more t r l n parents s loads changelog manifest below =
    let h = history r.changesets in
    let lists_of = listing l.fncache in
    let link = length l.changelog.entries in
    then-limited (trees_in l n parents t) (λ z. Ok ((grown_of z.first.1 z.second.1 z.files.0, manifests_of z), z.files.1))
    (then-limited (parent_files l parents.0 t) (λ first. and_then (parent_files l parents.1 t) (λ second. and_then (all_files_in lists_of link first.1 second.1 n.files t) (λ z. Ok (record { first = first; second = second; files = z })))) (parent-limited t r l parents.0 s changelog manifest below.first) (λ first e.
    then-limited (parent_files l parents.1 t) (λ second. and_then (all_files_in lists_of link first.1 second.1 n.files t) (λ z. Ok (record { first = first; second = second; files = z }))) (parent-limited t r l parents.1 s changelog manifest below.second) (λ second g.
    let one = parent-files t r l parents.0 first s changelog manifest below.first e in
    let two = parent-files t r l parents.1 second s changelog manifest below.second g in
    then-limited (all_files_in lists_of link first.1 second.1 n.files t) (λ z. Ok (record { first = first; second = second; files = z }))
    (subst (λ (x : Result OfFiles ReadAnswer). IsLimited x) (sym (λ i. all_files_in lists_of link (one i).1 (two i).1 n.files t)) (all-limited laws more t r l s loads parents link n.files)) (λ z k. tt)))) (λ z e. tt)
