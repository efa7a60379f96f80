-- What a writer answers to a command, and the text of that.
use Rattle.std.specs.Prelude.{ℕ, Bool, true, false, List, [], ◌∷◌, ◌++◌, Option, Some, None, codes, decimal}
use Rattle.hgs_index.specs.Hex.{hex}
use Rattle.hgs_index.specs.Limit.{limit_number}
use Rattle.hgs_index.specs.declared.node.Node.{Node}
use Rattle.hgs_model.specs.Phase.{phase_name}
use Rattle.hgs_model.specs.declared.command.Command.{Command}
use Rattle.hgs_model.specs.declared.command.Command.TheVariants.{Commit, Import, Move, Mark, Unmark}
use Rattle.hgs_plan.specs.Damage.{damage_text}
use Rattle.hgs_answers.specs.declared.answer.Answer.{Answer}
use Rattle.hgs_answers.specs.declared.outcome.Outcome.{Outcome}
use Rattle.hgs_answers.specs.declared.outcome.Outcome.TheVariants.{Done, LockHeld, Abandoned, UnknownRevision, NothingChanged, Damaged, Fault, Unfinished, Limit, Collision, NameClash, NeedsForce, Memory, InTheWay, UnknownPath, Unsettled, CopyOver}
use Rattle.hgs_answers.specs.declared.outcome.Published.{Published}
use Rattle.hgs_answers.specs.declared.outcome.Published.TheVariants.{No, Yes, Unknown}

-- the exit status of a command that ends so
abbrev pub status_of : Outcome → ℕ
status_of (Done rev node) = 0
status_of (LockHeld holder) = 10
status_of Abandoned = 11
status_of UnknownRevision = 12
status_of (NothingChanged rev) = 13
status_of (Damaged d) = 15
status_of Fault = 16
status_of (Unfinished p) = 17
status_of (Limit w) = 20
status_of (Collision path rev) = 21
status_of (NameClash path) = 22
status_of (NeedsForce rev) = 26
status_of Memory = 30
status_of (InTheWay path) = 34
status_of UnknownPath = 23
status_of (Unsettled rev node) = 31
status_of (CopyOver path) = 32

abbrev pub published_word : Published → List ℕ
published_word No = codes "no"
published_word Yes = codes "yes"
published_word Unknown = codes "unknown"

-- whose lock is held, where its file could be read
abbrev pub held_text : Option (List ℕ) → List ℕ
held_text None = codes "lock held"
held_text (Some holder) = codes "lock held by " ++ holder

abbrev pub nothing_changed_text : ℕ → List ℕ
nothing_changed_text rev = codes "nothing changed (" ++ decimal rev ++ codes ")"

abbrev pub unfinished_text : Published → List ℕ
unfinished_text p = codes "transaction unfinished (published " ++ published_word p ++ codes ")"

abbrev pub collision_text : List ℕ → ℕ → List ℕ
collision_text path rev = codes "collision in " ++ path ++ codes " at " ++ decimal rev

abbrev pub needs_force_text : ℕ → List ℕ
needs_force_text rev = codes "phase of " ++ decimal rev ++ codes " needs --force"

-- what a refusal says behind `abort: `
abbrev pub refusal_text : Outcome → List ℕ
refusal_text (Done rev node) = []
refusal_text (LockHeld holder) = held_text holder
refusal_text Abandoned = codes "abandoned transaction found"
refusal_text UnknownRevision = codes "unknown revision"
refusal_text (NothingChanged rev) = nothing_changed_text rev
refusal_text (Damaged d) = codes "damaged " ++ damage_text d
refusal_text Fault = codes "file operation failed"
refusal_text (Unfinished p) = unfinished_text p
refusal_text (Limit w) = codes "limit " ++ decimal (limit_number w)
refusal_text (Collision path rev) = collision_text path rev
refusal_text (NameClash path) = codes "name clash with " ++ path
refusal_text (NeedsForce rev) = needs_force_text rev
refusal_text Memory = codes "out of memory"
refusal_text (InTheWay path) = codes "file in the way " ++ path
refusal_text UnknownPath = codes "unknown path"
refusal_text (Unsettled rev node) = codes "transaction not settled"
refusal_text (CopyOver path) = codes "copy over " ++ path

-- What is said of a command that was done: number and node of the new changeset, of an import of the last one; the number of a changeset and the phase that it was given; the bookmark, with its
-- changeset's number where it was set.
abbrev pub done_text : Command → ℕ → Node → List ℕ
done_text (Commit change) rev node = decimal rev ++ 58 ∷ hex node.0
done_text (Import changes) rev node = decimal rev ++ 58 ∷ hex node.0
done_text (Move name phase force) rev node = decimal rev ++ 32 ∷ phase_name phase
done_text (Mark name at) rev node = name ++ 32 ∷ decimal rev
done_text (Unmark name) rev node = name ++ codes " removed"

abbrev pub said_text : Command → Outcome → List ℕ
said_text command (Done rev node) = done_text command rev node
said_text command outcome = codes "abort: " ++ refusal_text outcome

-- the line that says what the command came to
abbrev pub outcome_text : Command → Outcome → List ℕ
outcome_text command outcome = said_text command outcome ++ 10 ∷ []

-- said where not all is gone that the writer had left beside the repository
abbrev pub leftover_text : Bool → List ℕ
leftover_text true = []
leftover_text false = codes "leftover files remain" ++ 10 ∷ []

-- the whole text of an answer
abbrev pub answer_text : Command → Answer → List ℕ
answer_text command answer = outcome_text command answer.outcome ++ leftover_text answer.swept
