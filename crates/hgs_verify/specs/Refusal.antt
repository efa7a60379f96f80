-- What a verification answers when it is refused, and why: damage is no refusal.
use Rattle.std.specs.Prelude.{◌≡◌, ◌||◌, ◌⊎◌, ⊤, ℕ, List, Bool, true, false, Result, Ok, Err}
use Rattle.hgs_bytes.specs.Bytes.{among}
use Rattle.hgs_files.specs.Tree.{Tree, bytes_at}
use Rattle.hgs_findings.specs.Reading.{Log, index_in, index_path, sight_of, the_changelog, the_filelog, the_manifest}
use Rattle.hgs_findings.specs.Regular.{is_used, used_paths}
use Rattle.hgs_index.specs.declared.kinds.Which.{Which}
use Rattle.hgs_index.specs.declared.kinds.Which.TheVariants.{Part}
use Rattle.hgs_judge.specs.Read.{KeepsLimits}
use Rattle.hgs_load.specs.declared.answer.ReadAnswer.{ReadAnswer}
use Rattle.hgs_load.specs.declared.answer.ReadAnswer.TheVariants.{Damaged, Fault, Limit, UnknownPath, NotARepository, Requirement, Memory}
use Rattle.hgs_load.specs.Form.{most_inline_index}
use Rattle.hgs_load.specs.Open.{most_bookmarks_text, most_dirstate, most_requires, most_roots, requires_path}
use Rattle.hgs_load.specs.Requirements.{requires_answer}
use Rattle.hgs_load.specs.Whole.{is_above, within}
use Rattle.hgs_revlog.specs.declared.fault.RevFault.TheVariants as faults
use Rattle.hgs_revlog.specs.declared.fault.Tail.TheVariants.{Ignore}
use Rattle.hgs_revlog.specs.Load.{loaded}
use Rattle.hgs_stands.specs.Places.{bookmarks_path, changelog_index, dirstate_path, fncache_path, manifest_index, roots_path}
use Rattle.hgs_verify.specs.Parts.{is_long_inline}

abbrev pub is_refusal : ReadAnswer → Bool
is_refusal (Damaged d) = false
is_refusal Fault = true
is_refusal (Limit w) = true
is_refusal UnknownPath = false
is_refusal NotARepository = true
is_refusal (Requirement w) = true
is_refusal Memory = true

-- what `requires` says is in the profile; it is refused where it has more bytes than may be
abbrev pub required_in : Tree → Result Unit ReadAnswer
required_in t = within most_requires requires_answer (t requires_path)

-- the bytes above which the list of filelogs' files is refused
abbrev pub most_fncache : ℕ
most_fncache = 268435456

-- another small file has more bytes than may be
abbrev pub has_long_text : Tree → Bool
has_long_text t = is_above most_roots (t roots_path) || is_above most_bookmarks_text (t bookmarks_path) || is_above most_dirstate (t dirstate_path) || is_above most_fncache (t fncache_path)

-- the changelog or the manifest is inline and has more bytes than may be
abbrev pub has_long_log : Tree → Bool
has_long_log t = is_long_inline most_inline_index (bytes_at t changelog_index) || is_long_inline most_inline_index (bytes_at t manifest_index)

-- the revlogs that are read
abbrev pub is_read : Tree → Log → Bool
is_read t the_changelog = true
is_read t the_manifest = true
is_read t (the_filelog path) = is_used (sight_of t) path

-- A part of the tree passes this limit: a file for its length, or the first fault of a revlog's index is that limit.
pub data Passes (t : Tree) (which : Which) : Type 0 where
  long_text : has_long_text t ≡ true → which ≡ Part → Passes t which
  long_log : has_long_log t ≡ true → which ≡ Part → Passes t which
  long_index : (log : Log) → is_read t log ≡ true → loaded Ignore (index_in t log) ≡ Err (faults.Limit which) → Passes t which

-- No part of the tree passes a limit.
abbrev pub PassesNone : Tree → Type 0
PassesNone t = (which : Which) → Passes t which → ⊥

-- why a verification is refused behind `requires`: want of memory and a fault of the files say nothing of the tree
abbrev pub IsLimited : ReadAnswer → Tree → Type 0
IsLimited (Damaged d) t = ⊥
IsLimited Fault t = ⊤
IsLimited (Limit w) t = Passes t w
IsLimited UnknownPath t = ⊥
IsLimited NotARepository t = ⊥
IsLimited (Requirement w) t = ⊥
IsLimited Memory t = ⊤

-- Why a verification is refused.
abbrev pub IsWhy : ReadAnswer → Tree → Type 0
IsWhy (Damaged d) t = ⊥
IsWhy Fault t = ⊤
IsWhy (Limit w) t = (required_in t ≡ Err (Limit w)) ⊎ ((required_in t ≡ Ok tt) × Passes t w)
IsWhy UnknownPath t = ⊥
IsWhy NotARepository t = required_in t ≡ Err NotARepository
IsWhy (Requirement w) t = required_in t ≡ Err (Requirement w)
IsWhy Memory t = ⊤

-- the refusal of an index, where it is not of the outside
abbrev pub IsOfIndex : List ℕ → ReadAnswer → Type 0
IsOfIndex index (Damaged d) = ⊥
IsOfIndex index Fault = ⊤
IsOfIndex index (Limit w) = loaded Ignore index ≡ Err (faults.Limit w)
IsOfIndex index UnknownPath = ⊥
IsOfIndex index NotARepository = ⊥
IsOfIndex index (Requirement w) = ⊥
IsOfIndex index Memory = ⊤

-- the refusal of the changelog or the manifest: it is too long as it stands, or its index is refused
abbrev pub IsOfLog : Log → ReadAnswer → Tree → Type 0
IsOfLog which e t = ((e ≡ Limit Part) × (is_long_inline most_inline_index (bytes_at t (index_path which)) ≡ true)) ⊎ IsOfIndex (index_in t which) e

-- the refusal of the filelog of one of these paths
abbrev pub IsOfPaths : List (List ℕ) → ReadAnswer → Tree → Type 0
IsOfPaths paths e t = (path : List ℕ) × (among path paths ≡ true) × IsOfIndex (index_in t (the_filelog path)) e

-- the roots, the bookmarks and the dirstate have no more bytes than may be
pub record HaveShortTexts (t : Tree) : Type 0 where
  pub roots : is_above most_roots (t roots_path) ≡ false
  pub bookmarks : is_above most_bookmarks_text (t bookmarks_path) ≡ false
  pub dirstate : is_above most_dirstate (t dirstate_path) ≡ false

-- the indexes of the changelog and the manifest pass no limit
abbrev pub LogsKeepLimits : Tree → Type 0
LogsKeepLimits t = KeepsLimits (index_in t the_changelog) × KeepsLimits (index_in t the_manifest)

-- nor does that of the filelog of one of these paths
abbrev pub PathsKeepLimits : List (List ℕ) → Tree → Type 0
PathsKeepLimits paths t = (path : List ℕ) → among path paths ≡ true → KeepsLimits (index_in t (the_filelog path))

-- no small file but `requires` passes a limit, nor does the filelog of a used path
pub record PartsKeepLimits (t : Tree) : Type 0 where
  pub texts : HaveShortTexts t
  pub names : is_above most_fncache (t fncache_path) ≡ false
  pub paths : PathsKeepLimits (used_paths (sight_of t)) t
