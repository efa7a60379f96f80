-- What a commit becomes, by what was loaded and by the files of a tree at rest.
use Rattle.std.specs.Prelude.{◌≡◌, ◌+◌, ◌==◌, ◌&&◌, ℕ, nat_lt, List, [], ◌∷◌, ◌++◌, Bool, false, length, Option, Some, None, is_none, is_some, unwrap_or, slice_index_or, find, Result, Ok, Err, if◌then◌else◌, OnOk, ⊤}
use Rattle.std.specs.Bool.{MatchBool}
use Rattle.std.specs.List.{list_any}
use Rattle.std.specs.Option.{option_map}
use Rattle.hgs_files.specs.Tree.{Tree}
use Rattle.hgs_index.specs.Manifest.{Row}
use Rattle.hgs_index.specs.declared.entry.Entry.{Entry}
use Rattle.hgs_index.specs.declared.kinds.Which.TheVariants as limits
use Rattle.hgs_index.specs.Revision.{Parents}
use Rattle.hgs_loading.specs.Found.{and_then}
pub use Rattle.hgs_loading.specs.Found.{AtRest}
use Rattle.hgs_loading.specs.Parent.{Files, parent_in}
use Rattle.hgs_loading.specs.Small.{fncache_path, most_fncache}
use Rattle.hgs_marks.specs.Bookmarks.{node_of}
use Rattle.hgs_manifest.specs.Held.{found_in}
use Rattle.hgs_model.specs.History.{first_of, manifest_parents_of}
use Rattle.hgs_model.specs.Phase.{greater}
use Rattle.hgs_model.specs.Valid.{new_paths as paths_of_files}
use Rattle.hgs_model.specs.declared.files.NewFile.{NewFile}
use Rattle.hgs_model.specs.declared.command.NewChange.{NewChange}
use Rattle.hgs_model.specs.declared.command.Refusal.TheVariants.{CopyOver, NothingChanged, UnknownPath}
use Rattle.hgs_model.specs.declared.phase.Phase.{Phase}
use Rattle.hgs_model.specs.declared.phase.Phase.TheVariants.{Public}
use Rattle.hgs_path.specs.Fncache.{listing}
use Rattle.hgs_load.specs.Answer.{is_of_outside}
use Rattle.hgs_reader.specs.Contents.{manifest_data}
use Rattle.hgs_load.specs.Marks.{most_bookmarks}
use Rattle.hgs_load.specs.View.{changelog_data}
use Rattle.hgs_load.specs.declared.answer.ReadAnswer.{ReadAnswer}
use Rattle.hgs_revlog.specs.Load.{entry_behind}
use Rattle.hgs_revlog.specs.declared.fault.RevFault.{RevFault}
use Rattle.hgs_steps.specs.Fault.{is_memory}
use Rattle.hgs_steps.specs.Loaded.{has_inline}
use Rattle.hgs_steps.specs.Parents.{named_all, parents_answer}
use Rattle.hgs_steps.specs.Steps.{dirstate_replacing, marked, marks_replacing, phases_text, roots_replaced, within}
use Rattle.hgs_steps.specs.declared.fault.PlanFault.{PlanFault}
use Rattle.hgs_steps.specs.declared.fault.PlanFault.TheVariants.{Refused as refused_for, Memory}
use Rattle.hgs_steps.specs.declared.loaded.Loaded.{Loaded}
use Rattle.hgs_steps.specs.declared.step.Step.{Step}
use Rattle.hgs_transaction.specs.declared.parts.Change.{Change}
use Rattle.hgs_transaction.specs.declared.parts.Change.TheVariants.{Append}
use Rattle.hgs_transaction.specs.declared.parts.Replacing.{Replacing}
use Rattle.hgs_commit.specs.Appended.{append_some}
use Rattle.hgs_commit.specs.Changeset.{changeset_in, manifest_in}
use Rattle.hgs_commit.specs.declared.fault.CommitFault.{CommitFault}
use Rattle.hgs_commit.specs.declared.fault.CommitFault.TheVariants.{Unread, Refused}
use Rattle.hgs_commit.specs.Hindered.{refusal_of}
use Rattle.hgs_commit.specs.Obstacles.{Met, Obstacle, noted, nothing_met, passes}
use Rattle.hgs_commit.specs.OfCommit.{optional_replace}
use Rattle.hgs_commit.specs.Texts.{OfGrowth, OfText, changes_of, view_growth, view_text}
use Rattle.hgs_commit.specs.Tree.{ClashIn, OfFiles}
use Rattle.hgs_commit.specs.Trees.{OfGrown, all_files_in, grown_of}
use Rattle.hgs_commit.specs.declared.tree.Grown.{Grown}
use Rattle.hgs_commit.specs.declared.written.Texts.{Texts}
use Rattle.hgs_commit.specs.declared.written.Written.{Written}

-- ---- the parents

-- the files of a parent and the revision of its manifest, none where there is no parent
abbrev pub parent_files : Loaded → Option ℕ → Tree → Result Files ReadAnswer
parent_files l None t = Ok (None, [])
parent_files l (Some rev) t = parent_in changelog_data l.changelog manifest_data l.manifest rev t

abbrev pub both_parents : Loaded → Parents → Tree → Result (Files × Files) ReadAnswer
both_parents l parents t = and_then (parent_files l parents.0 t) (λ first. and_then (parent_files l parents.1 t) (λ second. Ok (first, second)))

-- ---- copies

-- whether this is a source that is none of these rows
abbrev pub lacks : List Row → Option (List ℕ) → Bool
lacks first None = false
lacks first (Some path) = is_none (found_in path first)

abbrev pub lacks_source : List Row → NewFile → Bool
lacks_source first f = lacks first f.from

-- whether a file has a source, and a parent has its path
abbrev pub is_over : List Row → List Row → NewFile → Bool
is_over first second f = is_some f.from && is_some (first_of (found_in f.path first) (found_in f.path second))

abbrev pub over_where : Option NewFile → Result (Unit {0}) PlanFault
over_where None = Ok tt
over_where (Some f) = Err (refused_for (CopyOver f.path))

-- a source that the first parent lacks refuses the commit, and then the first copy whose path a parent has
abbrev pub copies_tested : List Row → List Row → List NewFile → Result (Unit {0}) PlanFault
copies_tested first second files = if list_any (lacks_source first) files then Err (refused_for UnknownPath) else over_where (find (is_over first second) files)

-- ---- the tree

-- the files of the two parents, and those of the commit
pub record OfTrees : Type 0 where
  pub first : Files
  pub second : Files
  pub files : OfFiles

abbrev pub trees_in : Loaded → NewChange → Parents → Tree → Result OfTrees ReadAnswer
trees_in l c parents t =
    and_then (parent_files l parents.0 t) (λ first.
    and_then (parent_files l parents.1 t) (λ second.
    and_then (all_files_in (listing l.fncache) (length l.changelog.entries) first.1 second.1 c.files t) (λ files.
    Ok (record { first = first; second = second; files = files }))))

abbrev pub manifests_of : OfTrees → Parents
manifests_of x = manifest_parents_of x.first.0 x.second.0

-- the tree of the commit, its manifest's parents, and what keeps its files from being written
abbrev pub grown_in : Loaded → NewChange → Parents → Tree → Result ((OfGrown × Parents) × List Obstacle) ReadAnswer
grown_in l c parents t = and_then (trees_in l c parents t) (λ x. Ok ((grown_of x.first.1 x.second.1 x.files.0, manifests_of x), x.files.1))

-- the same of the files of the parents
abbrev pub grown_on : Loaded → NewChange → Files → Files → Tree → Result ((OfGrown × Parents) × List Obstacle) ReadAnswer
grown_on l c first second t = and_then (all_files_in (listing l.fncache) (length l.changelog.entries) first.1 second.1 c.files t) (λ files. Ok ((grown_of first.1 second.1 files.0, manifest_parents_of first.0 second.0), files.1))

-- that of the one parent, or the empty one without a parent, changes nothing
abbrev pub tested : Parents → OfGrown → Result (Unit {0}) PlanFault
tested parents x = if is_none parents.1 && length x.changed == 0 then Err (refused_for (NothingChanged (unwrap_or parents.0 0))) else Ok tt

-- ---- the texts

-- what is appended to the filelogs, to their list and to the manifest, and what the changeset becomes
pub record OfTexts : Type 0 where
  pub filelogs : List Change
  pub lines : List ℕ
  pub manifest : Option OfGrowth
  pub changeset : OfText

abbrev pub texts_in : Loaded → NewChange → Parents → OfGrown → Parents → Tree → Result (OfTexts × List Obstacle) ReadAnswer
texts_in l c parents x manifests t =
    and_then (manifest_in l.manifest x.rows manifests (length l.changelog.entries) t) (λ m.
    and_then (changeset_in l.changelog c parents m.0.node x.changed t) (λ s.
    Ok (record { filelogs = x.growth; lines = x.lines; manifest = m.0.growth; changeset = s.0 }, m.1 ++ s.1)))

-- ---- the step

abbrev pub phase_after : Loaded → Option ℕ → Phase → Phase
phase_after l None asked = asked
phase_after l (Some rev) asked = greater asked (slice_index_or l.phases rev Public)

-- the greatest of the parents' phases and the one asked for
abbrev pub new_phase : Loaded → Parents → Phase → Phase
new_phase l parents asked = phase_after l parents.1 (phase_after l parents.0 asked)

abbrev pub with_parsed : List Entry → Result Entry RevFault → List Entry
with_parsed entries (Ok e) = entries ++ e ∷ []
with_parsed entries (Err fault) = entries

-- the changelog's entries with the one that these bytes are
abbrev pub entries_with : List Entry → List ℕ → List Entry
entries_with entries bytes = with_parsed entries (entry_behind entries bytes)

-- the phase roots with the new changeset of this phase and this entry
abbrev pub new_roots : Loaded → Phase → List ℕ → Option Replacing
new_roots l phase entry = roots_replaced l (phases_text (l.phases ++ phase ∷ []) (entries_with l.changelog.entries entry))

abbrev pub and_plan : {A B : Type 0} → Result A PlanFault → (A → Result B PlanFault) → Result B PlanFault
and_plan (Ok x) more = more x
and_plan (Err e) more = Err e

-- the bookmarks, where one is set on the changeset with this node
abbrev pub marks_after : Loaded → Option (List ℕ) → List ℕ → Result (List Replacing) PlanFault
marks_after l None node = Ok []
marks_after l (Some name) node = and_plan (within l (marked l name node) (marks_replacing l (marked l name node))) (λ x. Ok (x ∷ []))

-- the dirstate, which gets the new changeset and its paths, and the bookmarks
abbrev pub replaced_after : Loaded → NewChange → List ℕ → Result (List Replacing) PlanFault
replaced_after l c node = and_plan (marks_after l c.bookmark node) (λ marks. Ok (dirstate_replacing l node (paths_of_files c.files) ∷ marks))

-- what is appended, and the node of the changeset
pub record OfWritten : Type 0 where
  pub filelogs : List Change
  pub lines : List ℕ
  pub manifest : Option OfGrowth
  pub changeset : OfGrowth
  pub node : List ℕ

abbrev pub written_with : OfTexts → OfGrowth → OfWritten
written_with x g = record { filelogs = x.filelogs; lines = x.lines; manifest = x.manifest; changeset = g; node = x.changeset.node }

-- a changeset that neither stands nor is appended has met what keeps it from being written, so the second case does not come
abbrev pub written_new : OfTexts → Option OfGrowth → Result OfWritten PlanFault
written_new x (Some g) = Ok (written_with x g)
written_new x None = Err Memory

abbrev pub refusal_with : Met → Option (List ℕ) → Result (Unit {0}) PlanFault
refusal_with m clash = refusal_of (record { limit = m.limit; clash = clash; in_the_way = m.in_the_way; collision = m.collision })

-- a changeset that stands already changes nothing, whatever was met; else what was met refuses the commit
abbrev pub written_unless : OfTexts → Met → Option (List ℕ) → Option ℕ → Result OfWritten PlanFault
written_unless x m clash (Some rev) = Err (refused_for (NothingChanged rev))
written_unless x m clash None = and_plan (refusal_with m clash) (λ free. written_new x x.changeset.growth)

abbrev pub written_of : OfTexts → Met → Option (List ℕ) → Result OfWritten PlanFault
written_of x m clash = written_unless x m clash x.changeset.standing

-- all appends but that to the changelog's index
abbrev pub appends_of : Loaded → OfWritten → List Change
appends_of l w = w.filelogs ++ (append_some fncache_path l.fncache_length w.lines ++ (changes_of w.manifest ++ w.changeset.chunk))

abbrev pub step_with : Loaded → NewChange → Parents → OfWritten → List Replacing → Step
step_with l c parents w after = record {
  parts = record {
    before = appends_of l w ++ optional_replace (new_roots l (new_phase l parents c.phase) w.changeset.entry.bytes);
    publishing = Append w.changeset.entry;
    after = after;
  };
  rev = length l.changelog.entries;
  node = record { 0 = w.node };
}

abbrev pub step_of : Loaded → NewChange → Parents → OfWritten → Result Step PlanFault
step_of l c parents w = and_plan (replaced_after l c w.node) (λ after. Ok (step_with l c parents w after))

-- ---- a commit

-- whether a bookmark is set that was not there
abbrev pub is_new_mark : Loaded → Option (List ℕ) → Bool
is_new_mark l None = false
is_new_mark l (Some name) = is_none (node_of name l.bookmarks)

abbrev pub mark_count : Loaded → NewChange → ℕ
mark_count l c = if is_new_mark l c.bookmark then length l.bookmarks + 1 else length l.bookmarks

-- too many bookmarks, or as many with the one that is set
abbrev pub too_many_marks : Loaded → NewChange → List Obstacle
too_many_marks l c = if nat_lt most_bookmarks (mark_count l c) then passes limits.Bookmarks ∷ [] else []

abbrev pub or_unread : {A : Type 0} → Result A ReadAnswer → (A → Result Step CommitFault) → Result Step CommitFault
or_unread (Ok x) more = more x
or_unread (Err e) more = Err (Unread e)

abbrev pub or_refused : {A : Type 0} → Result A PlanFault → (A → Result Step CommitFault) → Result Step CommitFault
or_refused (Ok x) more = more x
or_refused (Err e) more = Err (Refused e)

abbrev pub accepted : Step → Result Step CommitFault
accepted step = Ok step

-- the limit that is passed where the changelog or the manifest is inline
abbrev pub inline_logs : Loaded → List Obstacle
inline_logs l = if has_inline l then passes limits.Inline ∷ [] else []

-- the limit that is passed where the list of filelogs would be too long with as many bytes more
abbrev pub long_list : Loaded → ℕ → List Obstacle
long_list l more = if nat_lt most_fncache (l.fncache_length + more) then passes limits.Part ∷ [] else []

-- the step of these texts, or why there is none
abbrev pub planned : Loaded → NewChange → Parents → OfTexts → Met → Option (List ℕ) → Result Step PlanFault
planned l c parents x m clash = and_plan (written_of x (noted (noted m (long_list l (length x.lines))) (inline_logs l)) clash) (λ w. step_of l c parents w)

-- the step of a commit on these parents whose copies are not refused, where this is told of names that clash
abbrev pub step_copied : Option (List ℕ) → Loaded → NewChange → Parents → Tree → Result Step CommitFault
step_copied clash l c parents t =
    or_unread (grown_in l c parents t) (λ grown.
    or_refused (tested parents grown.0.0) (λ changed.
    or_unread (texts_in l c parents grown.0.0 grown.0.1 t) (λ texts.
    or_refused (planned l c parents texts.0 (noted (noted (noted nothing_met (too_many_marks l c)) grown.1) texts.1) clash) accepted)))

-- the step of a commit on these parents
abbrev pub step_on : Option (List ℕ) → Loaded → NewChange → Parents → Tree → Result Step CommitFault
step_on clash l c parents t =
    or_unread (both_parents l parents t) (λ trees.
    or_refused (copies_tested trees.0.1 trees.1.1 c.files) (λ copied. step_copied clash l c parents t))

-- the step of a commit
abbrev pub commit_in : Option (List ℕ) → Loaded → NewChange → Tree → Result Step CommitFault
commit_in clash l c t = or_refused (parents_answer (named_all l c.parents)) (λ parents. step_on clash l c parents t)

-- ---- names that clash

-- a clash is looked for where the copies are not refused
abbrev pub ClashOn : Loaded → NewChange → Result OfTrees ReadAnswer → Option (List ℕ) → Option (List ℕ) → Type 0
ClashOn l c (Ok x) old new = OnOk (copies_tested x.first.1 x.second.1 c.files) (ClashIn (listing l.fncache) (Ok x.files) old new)
ClashOn l c (Err e) old new = Unit {0}

abbrev pub ClashBy : Loaded → NewChange → Tree → Result Parents PlanFault → Option (List ℕ) → Type 0
ClashBy l c t (Ok parents) clash = ClashOn l c (trees_in l c parents t) None clash
ClashBy l c t (Err e) clash = Unit {0}

-- ---- what a call answers

-- a fault of the outside says nothing of the repository
abbrev pub is_free : CommitFault → Bool
is_free (Unread e) = is_of_outside e
is_free (Refused e) = is_memory e

-- The call answered as is given where this is told of names that clash, or it met a fault of the files or found no memory.
abbrev pub GivesWith : (Option (List ℕ) → Type 0) → (Option (List ℕ) → Result Step CommitFault) → Result Step CommitFault → Type 0
GivesWith IsTold given (Ok step) = (clash : Option (List ℕ)) × IsTold clash × (given clash ≡ Ok step)
GivesWith IsTold given (Err e) = MatchBool (is_free e) ⊤ ((clash : Option (List ℕ)) × IsTold clash × (given clash ≡ Err e))

-- the answer of a commit on these parents
abbrev pub StepsOn : Loaded → NewChange → Parents → Tree → Result Step CommitFault → Type 0
StepsOn l c parents t result = GivesWith (ClashOn l c (trees_in l c parents t) None) (λ clash. step_on clash l c parents t) result

-- the answer of a commit: told is of the first new path that clashes, with a listed one or a new one before it with which it does
abbrev pub Steps : Loaded → NewChange → Tree → Result Step CommitFault → Type 0
Steps l c t result = GivesWith (ClashBy l c t (parents_answer (named_all l c.parents))) (λ clash. commit_in clash l c t) result

-- ---- what contracts see of the code's values

abbrev pub view_texts : Texts → OfTexts
view_texts x = record { filelogs = x.filelogs.items; lines = x.lines.items; manifest = option_map view_growth x.manifest; changeset = view_text x.changeset }

abbrev pub view_written : Written → OfWritten
view_written w = record {
  filelogs = w.filelogs.items;
  lines = w.lines.items;
  manifest = option_map view_growth w.manifest;
  changeset = view_growth w.changeset;
  node = w.node.0;
}

abbrev pub view_grown : Grown → OfGrown
view_grown g = record { rows = g.rows; changed = g.changed; growth = g.growth.items; lines = g.lines.items }
