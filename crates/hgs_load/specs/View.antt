-- What a session holds of a repository.
use Rattle.std.specs.Prelude.{ℕ, suc, zero, ◌+◌, List, [], ◌++◌, length, nat_lt, codes, unwrap_or, Option, Result, Ok, Err, if◌then◌else◌}
use Rattle.hgs_marks.specs.Bookmarks.{Mark}
use Rattle.hgs_model.specs.declared.phase.Phase.{Phase}
use Rattle.hgs_plan.specs.declared.damage.Part.{Part}
use Rattle.hgs_plan.specs.declared.damage.Part.TheVariants as parts
use Rattle.hgs_revlog.specs.declared.fault.RevFault.{RevFault}
use Rattle.hgs_revlog.specs.declared.fault.RevFault.TheVariants as faults
use Rattle.hgs_revlog.specs.Log.{Log}
use Rattle.hgs_load.specs.declared.answer.ReadAnswer.{ReadAnswer}
use Rattle.hgs_load.specs.declared.answer.ReadAnswer.TheVariants.{Damaged, Limit, Memory}
use Rattle.hgs_load.specs.Asks.{Asks, read}

abbrev pub changelog_index : List ℕ
changelog_index = codes "store/00changelog.i"

abbrev pub changelog_data : List ℕ
changelog_data = codes "store/00changelog.d"

-- what was loaded: the history, the bookmarks, the changesets that are the two working parents, and the phase of each changeset
pub record View : Type 0 where
  pub changelog : Log
  pub bookmarks : List Mark
  pub working : Option ℕ × Option ℕ
  pub phases : List Phase

abbrev pub damaged : List ℕ → Part → ℕ → ℕ → ReadAnswer
damaged path part number place = Damaged (record { path = path; what = record { part = part; number = number; place = place } })

-- the refusal of a revlog's fault: a passed limit, want of memory, or damage of its index
abbrev pub revlog_refusal : List ℕ → RevFault → ReadAnswer
revlog_refusal path (faults.Limit which) = Limit which
revlog_refusal path faults.Memory = Memory
revlog_refusal path (faults.Entry rev f) = damaged path parts.Revlog 1 rev
revlog_refusal path (faults.Compressed rev) = damaged path parts.Revlog 2 rev
revlog_refusal path (faults.Delta rev) = damaged path parts.Revlog 3 rev
revlog_refusal path (faults.Flagged rev) = damaged path parts.Revlog 4 rev
revlog_refusal path (faults.Short rev) = damaged path parts.Revlog 5 rev
revlog_refusal path (faults.Length rev) = damaged path parts.Revlog 6 rev
revlog_refusal path (faults.Hash rev) = damaged path parts.Revlog 7 rev
revlog_refusal path (faults.Parent rev) = damaged path parts.Revlog 8 rev
revlog_refusal path (faults.Collision rev) = damaged path parts.Revlog 9 rev
revlog_refusal path (faults.Offset rev) = damaged path parts.Revlog 12 rev
revlog_refusal path (faults.Twice rev) = damaged path parts.Revlog 13 rev
revlog_refusal path (faults.Tail rev) = damaged path parts.Revlog 14 rev
revlog_refusal path faults.Missing = damaged path parts.Revlog 15 0

-- An index is read in pieces, each from the place where the one before ended, until one is shorter, or as many were read as hold more revisions than a revlog may have.
abbrev pub piece_length : ℕ
piece_length = 65536

abbrev pub most_pieces : ℕ
most_pieces = 977

-- in pieces whose places are those behind the bytes that were read before
abbrev pub pieces_by : {A : Type 0} → List ℕ → (List ℕ → ℕ) → ℕ → List ℕ → (List ℕ → Asks A) → Asks A
pieces_by path place zero bytes more = more bytes
pieces_by path place (suc left) bytes more =
    read path (place bytes) piece_length (λ piece.
    if nat_lt (length (unwrap_or piece [])) piece_length then more (bytes ++ unwrap_or piece []) else pieces_by path place left (bytes ++ unwrap_or piece []) more)

-- from the first byte on
abbrev pub pieces_then : {A : Type 0} → List ℕ → ℕ → List ℕ → (List ℕ → Asks A) → Asks A
pieces_then path left bytes more = pieces_by path length left bytes more

-- from this byte on
abbrev pub pieces_from : {A : Type 0} → List ℕ → ℕ → ℕ → List ℕ → (List ℕ → Asks A) → Asks A
pieces_from path first left bytes more = pieces_by path (λ bytes. first + length bytes) left bytes more

abbrev pub log_answer : List ℕ → Result Log RevFault → Result Log ReadAnswer
log_answer index (Ok log) = Ok log
log_answer index (Err f) = Err (revlog_refusal index f)
