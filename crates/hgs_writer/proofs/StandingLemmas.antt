-- A tree that stands for a repository is read.
use Rattle.std.proofs.Common.{◌≡◌, ℕ, ◌*◌, ◌/◌, ◌≤◌, ◌==◌, List, [], ◌++◌, length, Bool, true, false, Option, Some, None, Result, Ok, Err, refl, sym, ◌∙◌, ap, subst, arith, append-nil}
use Rattle.std.specs.Prelude.{unwrap_or, if◌then◌else◌}
use Rattle.std.proofs.lemmas.Bool.Decides.{nat_tests}
use Rattle.std.specs.Result.{result_map_both}
use Rattle.hgs_bytes.specs.Bytes.{IsPrefixOf, among}
use Rattle.hgs_files.specs.Tree.{Tree, bytes_at}
use Rattle.hgs_index.specs.declared.entry.Entry.{Entry}
use Rattle.hgs_index.specs.declared.kinds.Which.TheVariants.{Part}
use Rattle.hgs_index.specs.Either.{HoldsEither, chunk_bytes, chunks_either}
use Rattle.hgs_index.specs.Inline.{index_apart, is_inline}
use Rattle.hgs_index.specs.Node.{null_node}
use Rattle.hgs_index.specs.Revision.{Revision, nodes}
use Rattle.hgs_index.specs.Revlog.{Holds, HoldsRevisions, all_different}
use Rattle.hgs_loading.specs.Found.{and_then}
use Rattle.hgs_loading.specs.Logs.{data_in, either_data_in, either_index_in, either_log_in, index_in, whole_log_in}
use Rattle.hgs_loading.specs.Theorems.IndexLemmas.{inline-index, separate-index}
use Rattle.hgs_loading.specs.Small.{Listing, Small, dirstate_in, dirstate_said, file_in, fncache_in, fncache_path, fncache_refusal, fncache_said, marks_said, most_fncache, roots_in, small_in, with_bytes}
use Rattle.hgs_loading.specs.Store.{Loaded as Read, loaded_in, loaded_with, logs_in}
use Rattle.hgs_marks.specs.Bookmarks.{all_with, read_bookmarks, with_marks}
use Rattle.hgs_marks.specs.Dirstate.{read_dirstate}
use Rattle.hgs_model.specs.History.{changeset_nodes, history}
use Rattle.hgs_model.specs.IsRepo.{IsRepo}
use Rattle.hgs_model.specs.Repo.{Repo}
use Rattle.hgs_path.specs.Fncache.{as_files, files_of, lists}
use Rattle.hgs_phases.specs.Phases.{phases_by}
use Rattle.hgs_plan.specs.declared.damage.Part.TheVariants as parts
use Rattle.hgs_reader.specs.Contents.{manifest_data, manifest_index}
use Rattle.hgs_load.specs.Marks.{bookmarks_path, dirstate_path, mark_refusal, roots_answer, roots_of, roots_path, working_answer}
use Rattle.hgs_load.specs.Open.{most_bookmarks_text, most_dirstate, most_roots}
use Rattle.hgs_load.specs.View.{changelog_data, changelog_index, log_answer, revlog_refusal}
use Rattle.hgs_load.specs.Whole.{is_above}
use Rattle.hgs_load.specs.declared.answer.ReadAnswer.{ReadAnswer}
use Rattle.hgs_load.specs.declared.answer.ReadAnswer.TheVariants.{Limit}
use Rattle.hgs_revlog.specs.Held.{Agrees, AreWithinLimits, read_all}
use Rattle.hgs_revlog.specs.Load.{in_form, loaded, loaded_either, most_revisions}
use Rattle.hgs_revlog.specs.Log.{Log, nodes_of, stored_sum}
use Rattle.hgs_revlog.specs.declared.fault.RevFault.TheVariants as faults
use Rattle.hgs_revlog.specs.declared.fault.Tail.TheVariants.{Refuse}
use Rattle.hgs_revlog.specs.Theorems.HeldLemmas.{stored_sum-agrees}
use Rattle.hgs_shown.specs.Shown.{working_nodes}
use Rattle.hgs_stands.specs.Stands.{Stands}
use Rattle.hgs_stands.specs.Theorems.FormLemmas.{apart-held}
use Rattle.hgs_writer.specs.Limits.{LoadsWithin}

-- what the crates below say of indexes, and of working parents
pub record ReadLaws : Type 0 where
  pub index_length : (index data_bytes : List ℕ) (revisions : List Revision) → HoldsRevisions index data_bytes revisions → length index ≡ 64 * length revisions
  pub short : (index : List ℕ) (t : Tree) → length (bytes_at t index) / 64 ≤ most_revisions → index_in index t ≡ bytes_at t index
  pub loads : (index data_bytes rest : List ℕ) (revisions : List Revision) → HoldsRevisions index data_bytes revisions → AreWithinLimits revisions data_bytes → (log : Log) × (loaded Refuse index ≡ Ok log) × (read_all log.entries (data_bytes ++ rest) ≡ Ok revisions) × Agrees index data_bytes log.entries revisions
  pub entry_nodes : (index data_bytes : List ℕ) (entries : List Entry) (revisions : List Revision) → Agrees index data_bytes entries revisions → nodes_of entries ≡ nodes revisions
  pub working : (entries : List Entry) (worked r : Repo) → IsRepo worked → IsPrefixOf worked.changesets r.changesets → nodes_of entries ≡ changeset_nodes r.changesets → all_different (changeset_nodes r.changesets) ≡ true → among null_node (changeset_nodes r.changesets) ≡ false → working_answer entries (working_nodes worked) ≡ Ok worked.working

-- ---- a file

not-above : (most : ℕ) (part : Option (List ℕ)) → length (unwrap_or part []) ≤ most → is_above most part ≡ false
not-above most None few = refl
not-above most (Some bytes) few = grind (arith, nat_tests, few)

file-read : {A : Type 0} (most : ℕ) (path : List ℕ) (said : Option (List ℕ) → Result A ReadAnswer) (t : Tree) (x : A) → length (bytes_at t path) ≤ most → said (t path) ≡ Ok x → file_in most path said t ≡ Ok (t path, x)
file-read {A} most path said t x few is =
    ap (λ (b : Bool). and_then (let a : Result (Option (List ℕ)) ReadAnswer = if b then Err (Limit Part) else Ok (t path) in a) (with_bytes said)) (not-above most (t path) few)
    ∙ ap (λ (r : Result A ReadAnswer). and_then r (λ y. Ok (t path, y))) is

mapped : {A E : Type 0} (f : E → ReadAnswer) (r : Result A E) (x : A) → r ≡ Ok x → result_map_both (λ y. y) f r ≡ Ok x
mapped f r x e = ap (result_map_both (λ y. y) f) e

-- ---- a revlog

-- what was read of a revlog
pub record IsRead (t : Tree) (index chunks : List ℕ) (revisions : List Revision) : Type 0 where
  pub log : Log
  pub read : whole_log_in index chunks t ≡ Ok log
  pub agrees : Agrees (index_apart (bytes_at t index)) (chunks_either (bytes_at t index) (bytes_at t chunks)) log.entries revisions

same-number : (n m : ℕ) → n ≡ m → n == m ≡ true
same-number n m e = grind (arith, nat_tests, e)

log-read : (laws : ReadLaws) (t : Tree) (index chunks : List ℕ) (revisions : List Revision) → HoldsEither (bytes_at t index) (bytes_at t chunks) revisions → AreWithinLimits revisions (chunks_either (bytes_at t index) (bytes_at t chunks)) → IsRead t index chunks revisions
log-read laws t index chunks revisions held within = record {
  log = found;
  read = ap (λ r. and_then r (λ log. and_then (either_data_in index chunks log t) (λ x. Ok log))) of_index ∙ ap (λ r. and_then r (λ x. Ok found)) ends;
  agrees = l.3;
}
  where
    l : (log : Log) × (loaded Refuse (index_apart (bytes_at t index)) ≡ Ok log) × (read_all log.entries (chunks_either (bytes_at t index) (bytes_at t chunks) ++ []) ≡ Ok revisions) × Agrees (index_apart (bytes_at t index)) (chunks_either (bytes_at t index) (bytes_at t chunks)) log.entries revisions
    l = laws.loads (index_apart (bytes_at t index)) (chunks_either (bytes_at t index) (bytes_at t chunks)) [] revisions (apart-held (bytes_at t index) (bytes_at t chunks) revisions held) within

    found : Log
    found = record { inline = is_inline (bytes_at t index); entries = l.0.entries }

    whole : (b : Bool) → is_inline (bytes_at t index) ≡ b → either_index_in index t ≡ bytes_at t index
    whole true is = inline-index index t is
    whole false is =
        let len = laws.index_length (bytes_at t index) (bytes_at t chunks) revisions (subst (λ b. Holds b (bytes_at t index) (bytes_at t chunks) revisions) is held) in
        let few = within.few in
        separate-index index t is ∙ laws.short index t (omega (arith, len, few))

    of_index : either_log_in index t ≡ Ok found
    of_index = ap (λ (b : List ℕ). log_answer index (loaded_either Refuse b)) (whole (is_inline (bytes_at t index)) refl) ∙ ap (λ r. log_answer index (in_form (is_inline (bytes_at t index)) r)) l.1

    ends-in : (b : Bool) → is_inline (bytes_at t index) ≡ b → (let a : Result Unit ReadAnswer = if b then Ok tt else data_in index chunks found t in a) ≡ Ok tt
    ends-in true is = refl
    ends-in false is =
        let sum = ap (λ b. length (chunk_bytes b (bytes_at t index) (bytes_at t chunks))) (sym is) ∙ sym (stored_sum-agrees (index_apart (bytes_at t index)) (chunks_either (bytes_at t index) (bytes_at t chunks)) l.0.entries revisions l.3) in
        ap (λ (b : Bool). let a : Result Unit ReadAnswer = if b then Ok tt else Err (revlog_refusal index (faults.Tail (length l.0.entries))) in a) (same-number (length (bytes_at t chunks)) (stored_sum l.0.entries) sum)

    ends : either_data_in index chunks found t ≡ Ok tt
    ends = ends-in (is_inline (bytes_at t index)) refl

-- ---- the whole

pub tree-read : (laws : ReadLaws) (t : Tree) (r : Repo) → Stands t r → LoadsWithin t r → (read : Read) × (loaded_in t ≡ Ok read)
tree-read laws t r s within =
    let marks = with_marks [] s.bookmarks.lines in
    let m = file-read most_bookmarks_text bookmarks_path marks_said t marks within.bookmarks (mapped (mark_refusal bookmarks_path parts.Bookmarks) (read_bookmarks (bytes_at t bookmarks_path)) marks (ap (all_with []) s.bookmarks.text)) in
    let d = file-read most_dirstate dirstate_path dirstate_said t s.dirstate.dirstate within.dirstate (mapped (mark_refusal dirstate_path parts.Dirstate) (read_dirstate (bytes_at t dirstate_path)) s.dirstate.dirstate s.dirstate.text) in
    let p = file-read most_roots roots_path roots_answer t s.phases.roots within.roots (ap roots_of s.phases.text) in
    let listed : Listing = lists s.fncache.names in
    let f = file-read most_fncache fncache_path fncache_said t listed within.fncache (mapped fncache_refusal (files_of (bytes_at t fncache_path)) listed (ap as_files s.fncache.text)) in
    let small : Small = record { bookmarks = (t bookmarks_path, marks); dirstate = (t dirstate_path, s.dirstate.dirstate); roots = (t roots_path, s.phases.roots); fncache = (t fncache_path, listed) } in
    let c = log-read laws t changelog_index changelog_data (history r.changesets).changelog s.revlogs.changelog within.changelog in
    let n = log-read laws t manifest_index manifest_data (history r.changesets).manifest s.revlogs.manifest within.manifest in
    let known = laws.entry_nodes (index_apart (bytes_at t changelog_index)) (chunks_either (bytes_at t changelog_index) (bytes_at t changelog_data)) c.log.entries (history r.changesets).changelog c.agrees in
    let working = laws.working c.log.entries r r s.repository ([], sym (append-nil r.changesets)) known s.revlogs.changelog.different s.revlogs.changelog.not_null in
    let nodes_are : working_answer c.log.entries (s.dirstate.dirstate.p1, s.dirstate.dirstate.p2) ≡ Ok r.working = (λ i. working_answer c.log.entries (s.dirstate.first i, s.dirstate.second i)) ∙ working in
    let read : Read = record { files = small; changelog = c.log; manifest = n.log; working = r.working; phases = phases_by s.phases.roots c.log.entries } in
    let of_small : small_in t ≡ Ok small =
    ap (λ x. and_then x (λ marks. and_then (dirstate_in t) (λ dirstate. and_then (roots_in t) (λ roots. and_then (fncache_in t) (λ files. Ok (record { bookmarks = marks; dirstate = dirstate; roots = roots; fncache = files })))))) m
    ∙ ap (λ x. and_then x (λ dirstate. and_then (roots_in t) (λ roots. and_then (fncache_in t) (λ files. Ok (record { bookmarks = (t bookmarks_path, marks); dirstate = dirstate; roots = roots; fncache = files }))))) d
    ∙ ap (λ x. and_then x (λ roots. and_then (fncache_in t) (λ files. Ok (record { bookmarks = (t bookmarks_path, marks); dirstate = (t dirstate_path, s.dirstate.dirstate); roots = roots; fncache = files })))) p
    ∙ ap (λ x. and_then x (λ files. Ok (record { bookmarks = (t bookmarks_path, marks); dirstate = (t dirstate_path, s.dirstate.dirstate); roots = (t roots_path, s.phases.roots); fncache = files }))) f in
    let of_logs : logs_in t ≡ Ok (c.log, n.log) =
    ap (λ x. and_then x (λ changelog. and_then (whole_log_in manifest_index manifest_data t) (λ manifest. Ok (changelog, manifest)))) c.read ∙ ap (λ x. and_then x (λ manifest. Ok (c.log, manifest))) n.read in (
      read,
      ap (λ x. and_then x (λ files. and_then (logs_in t) (λ logs. loaded_with files logs.0 logs.1))) of_small
          ∙ ap (λ x. and_then x (λ (logs : Log × Log). loaded_with small logs.0 logs.1)) of_logs
          ∙ ap (λ x. and_then x (λ working. Ok (record { files = small; changelog = c.log; manifest = n.log; working = working; phases = phases_by s.phases.roots c.log.entries }))) nodes_are,
    )
