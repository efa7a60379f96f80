-- What a writer has read of a repository before it plans.
use Rattle.std.specs.Prelude.{List, Result, Ok}
use Rattle.hgs_files.specs.Tree.{Tree}
use Rattle.hgs_model.specs.declared.phase.Phase.{Phase}
use Rattle.hgs_phases.specs.Phases.{phases_by}
use Rattle.hgs_revlog.specs.Log.{Log}
use Rattle.hgs_load.specs.declared.answer.ReadAnswer.{ReadAnswer}
use Rattle.hgs_reader.specs.Contents.{manifest_index, manifest_data}
use Rattle.hgs_load.specs.Marks.{Working, working_of, working_answer}
use Rattle.hgs_load.specs.View.{changelog_index, changelog_data}
use Rattle.hgs_loading.specs.declared.store.LoadedStore.{LoadedStore}
use Rattle.hgs_loading.specs.declared.store.Logs.{Logs}
use Rattle.hgs_loading.specs.Found.{and_then}
use Rattle.hgs_loading.specs.Logs.{HasGrown, whole_log_in}
use Rattle.hgs_loading.specs.Small.{Small, small_in, view_small}

-- the small files, the two revlogs, the changesets that are the working parents, and the phase of each changeset
pub record Loaded : Type 0 where
  pub files : Small
  pub changelog : Log
  pub manifest : Log
  pub working : Working
  pub phases : List Phase

abbrev pub loaded_with : Small → Log → Log → Result Loaded ReadAnswer
loaded_with files changelog manifest =
    and_then (working_answer changelog.entries (files.dirstate.1.p1, files.dirstate.1.p2)) (λ working.
    Ok (record { files = files; changelog = changelog; manifest = manifest; working = working; phases = phases_by files.roots.1 changelog.entries }))

-- the changelog, and the manifest's revlog
abbrev pub logs_in : Tree → Result (Log × Log) ReadAnswer
logs_in t =
    and_then (whole_log_in changelog_index changelog_data t) (λ changelog.
    and_then (whole_log_in manifest_index manifest_data t) (λ manifest.
    Ok (changelog, manifest)))

-- in the order in which they are read; that the working parents are in the history is tested last
abbrev pub loaded_in : Tree → Result Loaded ReadAnswer
loaded_in t = and_then (small_in t) (λ files. and_then (logs_in t) (λ logs. loaded_with files logs.0 logs.1))

abbrev pub view_store : LoadedStore → Loaded
view_store h = record { files = view_small h.files; changelog = h.changelog; manifest = h.manifest; working = working_of h.working; phases = h.phases }

abbrev pub view_logs : Logs → Log × Log
view_logs l = (l.changelog, l.manifest)

-- both indexes were loaded as these, and only appended to since
abbrev pub HaveGrown : Log × Log → Tree → Type 0
HaveGrown logs t = HasGrown changelog_index logs.0 t × HasGrown manifest_index logs.1 t
