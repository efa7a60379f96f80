-- What a call that was alone leaves of a tree that stands for a repository, by its answer.
use Rattle.std.specs.Prelude.{◌≡◌, ◌⊎◌, ℕ, List, [], Bool, true, false, Result, Ok, Err, IsOk}
use Rattle.hgs_answers.specs.declared.outcome.Outcome.{Outcome}
use Rattle.hgs_answers.specs.declared.outcome.Outcome.TheVariants.{Done, LockHeld, Abandoned, UnknownRevision, UnknownPath, CopyOver, NothingChanged, Fault, Unfinished, Limit, NameClash, InTheWay, Collision, NeedsForce, Memory, Unsettled}
use Rattle.hgs_files.specs.declared.op.Op.{Op}
use Rattle.hgs_files.specs.Tree.{Tree, after_all}
use Rattle.hgs_index.specs.declared.kinds.Which.{Which}
use Rattle.hgs_index.specs.declared.kinds.Which.TheVariants.{Bookmarks, Inline}
use Rattle.hgs_index.specs.declared.node.Node.{Node}
use Rattle.hgs_legal.specs.ListsPaths.{ListsPaths}
use Rattle.hgs_legal.specs.Pieces.{LeavesJournal, Piece}
use Rattle.hgs_model.specs.Repo.{Repo}
use Rattle.hgs_model.specs.Step.{Next, step}
use Rattle.hgs_model.specs.Valid.{AreNewChanges, IsNewChange}
use Rattle.hgs_model.specs.declared.command.Command.{Command}
use Rattle.hgs_model.specs.declared.command.Command.TheVariants.{Commit, Import}
use Rattle.hgs_model.specs.declared.command.NewChange.{NewChange}
use Rattle.hgs_model.specs.declared.command.Refusal.{Refusal}
use Rattle.hgs_model.specs.declared.command.Refusal.TheVariants as refusals
use Rattle.hgs_ops.specs.Operations.{strays}
use Rattle.hgs_stands.specs.Open.{IsOpen}
use Rattle.hgs_stands.specs.Stands.{Stands, has_inline_log}
use Rattle.hgs_steps.specs.Planned.{passes_limit}
use Rattle.hgs_writer.specs.Commits.{CanBeRead}
use Rattle.hgs_writer.specs.Free.{IsFree}
use Rattle.hgs_writer.specs.Imports.{AreReadWithin, SomeRecord}

-- A record can hold the commit, or records the changesets of the import, and the trees and the filelogs that it reads are within the
-- limits, of an import for each record, where the list of filelogs has only names of paths. Another command reads no more than what is loaded
-- for each.
abbrev pub ReadsWithin : Tree → Repo → Command → Type 0
ReadsWithin t r (Commit n) = IsNewChange n × CanBeRead t r
ReadsWithin t r (Import changes) = AreNewChanges changes × ListsPaths t r × AreReadWithin t r changes
ReadsWithin t r command = Unit {0}

-- The command was accepted, the tree stands for the next repository, and its changeset is answered.
abbrev pub IsDoneAs : Result Next Refusal → ℕ → Node → Tree → Type 0
IsDoneAs (Ok next) rev node u = Stands u next.0 × (rev ≡ next.1.rev) × (node.0 ≡ next.1.node)
IsDoneAs (Err e) rev node u = ⊥

-- What the tree stands for, by what the repository makes of the command and by what the call answers: its refusals are the
-- repository's, and every refusal and each failure that was taken back leaves the repository as before. No journal stood.
abbrev pub IsAnswered : Repo → Result Next Refusal → Outcome → Tree → Type 0
IsAnswered r stepped (Done rev node) u = IsDoneAs stepped rev node u
IsAnswered r stepped UnknownRevision u = (stepped ≡ Err refusals.UnknownRevision) × Stands u r
IsAnswered r stepped UnknownPath u = (stepped ≡ Err refusals.UnknownPath) × Stands u r
IsAnswered r stepped (CopyOver path) u = (stepped ≡ Err (refusals.CopyOver path)) × Stands u r
IsAnswered r stepped (NeedsForce rev) u = (stepped ≡ Err (refusals.NeedsForce rev)) × Stands u r
IsAnswered r stepped (NothingChanged rev) u = (stepped ≡ Err (refusals.NothingChanged rev)) × Stands u r
IsAnswered r stepped (Unfinished published) u = IsOk stepped × IsOpen strays u r
IsAnswered r stepped Abandoned u = ⊥
IsAnswered r stepped (Unsettled rev node) u = ⊥
IsAnswered r stepped _ u = Stands u r

-- What a stop within the call leaves, by what was done until then: where that is nothing or a piece that leads back, the
-- repository before; where it leaves its journal, a tree that is open for that; and where it leads on, the next repository.
abbrev pub IsStopOf : Tree → Repo → Result Next Refusal → List Op → Type 0
IsStopOf t r stepped d =
    (((d ≡ []) ⊎ Piece t r d r) × Stands (after_all d t) r)
    ⊎ ((LeavesJournal t r d × IsOpen strays (after_all d t) r) ⊎ ((next : Next) × (stepped ≡ Ok next) × Piece t r d next.0 × Stands (after_all d t) next.0))

-- no transaction is left unfinished
abbrev pub IsFinished : Outcome → Type 0
IsFinished (Unfinished published) = ⊥
IsFinished outcome = Unit {0}

-- a lock that is held, or a failure before that is known
abbrev pub IsHeld : Outcome → Type 0
IsHeld (LockHeld holder) = Unit {0}
IsHeld Fault = Unit {0}
IsHeld Memory = Unit {0}
IsHeld _ = ⊥

-- the same, or a transaction that was left unfinished
abbrev pub IsBarred : Outcome → Type 0
IsBarred Abandoned = Unit {0}
IsBarred outcome = IsHeld outcome

-- The repository accepts the command, and with it the bookmarks before or behind it pass their limit or not.
abbrev pub IsAccepted : Repo → Bool → Result Next Refusal → Type 0
IsAccepted r passes stepped = (next : Next) × (stepped ≡ Ok next) × (passes_limit r next.0 ≡ passes)

-- It does, neither is past it, and changelog and manifest are separate.
abbrev pub MayBeWritten : Tree → Repo → Result Next Refusal → Type 0
MayBeWritten t r stepped = IsAccepted r false stepped × (has_inline_log t ≡ false)

-- The repository accepts the commit, or a record of the import behind those before it.
abbrev pub IsAcceptedCommit : Tree → Repo → Command → Result Next Refusal → Type 0
IsAcceptedCommit t r (Commit n) stepped = IsOk stepped
IsAcceptedCommit t r (Import changes) stepped = SomeRecord (λ u now n. IsOk (step now (Commit n))) t r changes
IsAcceptedCommit t r command stepped = ⊥

-- It does, and there is no room for it: a limit would be passed, a file stands in the way, or a node stands already.
abbrev pub LacksRoom : Tree → Repo → Result Next Refusal → Type 0
LacksRoom t r (Err e) = ⊥
LacksRoom t r (Ok next) = IsFree t r next.0 → ⊥

-- Of an import that is so of one of its records.
abbrev pub SomeLacksRoom : Tree → Repo → List NewChange → Type 0
SomeLacksRoom t r changes = SomeRecord (λ u now n. LacksRoom u now (step now (Commit n))) t r changes

abbrev pub IsCommitWithoutRoom : Tree → Repo → Command → Result Next Refusal → Type 0
IsCommitWithoutRoom t r (Commit n) stepped = LacksRoom t r stepped
IsCommitWithoutRoom t r (Import changes) stepped = SomeLacksRoom t r changes
IsCommitWithoutRoom t r command stepped = ⊥

-- The limit is passed: by the bookmarks, or by a changelog or manifest that is inline, to which no writer appends.
abbrev pub IsPassed : Tree → Repo → Which → Result Next Refusal → Type 0
IsPassed t r which stepped =
    ((which ≡ Bookmarks) × IsAccepted r true stepped)
    ⊎ ((which ≡ Inline) × IsAccepted r false stepped × (has_inline_log t ≡ true))

-- It is passed for want of room for a commit or an import, or so by another command.
abbrev pub PassesLimit : Tree → Repo → Command → Which → Result Next Refusal → Type 0
PassesLimit t r (Commit n) which stepped = LacksRoom t r stepped
PassesLimit t r (Import changes) which stepped = SomeLacksRoom t r changes
PassesLimit t r command which stepped = IsPassed t r which stepped

-- What a command comes to where the files are within the limits: where the repository accepts it, it is done, or left
-- unfinished, or passes a limit, or if it is a commit or an import there is no room for it, or it is told of a clash of names; else it is
-- refused as the repository refuses it. A lock that is held, a fault and want of memory may stand in place of each.
abbrev pub IsOutcomeOf : Tree → Repo → Command → Result Next Refusal → Outcome → Type 0
IsOutcomeOf t r command stepped (LockHeld holder) = Unit {0}
IsOutcomeOf t r command stepped Fault = Unit {0}
IsOutcomeOf t r command stepped Memory = Unit {0}
IsOutcomeOf t r command stepped (Done rev node) = MayBeWritten t r stepped
IsOutcomeOf t r command stepped (Unfinished published) = MayBeWritten t r stepped
IsOutcomeOf t r command stepped (Limit which) = PassesLimit t r command which stepped
IsOutcomeOf t r command stepped (NameClash path) = IsAcceptedCommit t r command stepped
IsOutcomeOf t r command stepped (InTheWay path) = IsCommitWithoutRoom t r command stepped
IsOutcomeOf t r command stepped (Collision path rev) = IsCommitWithoutRoom t r command stepped
IsOutcomeOf t r command stepped UnknownRevision = stepped ≡ Err refusals.UnknownRevision
IsOutcomeOf t r command stepped UnknownPath = stepped ≡ Err refusals.UnknownPath
IsOutcomeOf t r command stepped (CopyOver path) = stepped ≡ Err (refusals.CopyOver path)
IsOutcomeOf t r command stepped (NeedsForce rev) = stepped ≡ Err (refusals.NeedsForce rev)
IsOutcomeOf t r command stepped (NothingChanged rev) = stepped ≡ Err (refusals.NothingChanged rev)
IsOutcomeOf t r command stepped _ = ⊥
