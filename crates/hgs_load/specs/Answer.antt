-- What a reader answers when it refuses.
use Rattle.std.specs.Prelude.{◌≡◌, ℕ, ◌≤◌, Bool, true, false, List, [], ◌∷◌, ◌++◌, Result, Ok, Err, IsErrOf, codes, decimal}
use Rattle.std.specs.Prelude.{⊤}
use Rattle.std.specs.Bool.{MatchBool}
use Rattle.hgs_files.specs.Reads.{Rose}
use Rattle.hgs_files.specs.declared.files.FileFault.{FileFault}
use Rattle.hgs_files.specs.declared.files.FileFault.TheVariants.{Failed, Memory as NoMemory}
use Rattle.hgs_index.specs.Limit.{limit_number}
use Rattle.hgs_plan.specs.Damage.{damage_text}
use Rattle.hgs_load.specs.declared.answer.ReadAnswer.{ReadAnswer}
use Rattle.hgs_load.specs.declared.answer.ReadAnswer.TheVariants.{Damaged, Fault, Limit, UnknownPath, NotARepository, Requirement, Memory}

-- the exit status of a refusal
abbrev pub status_of : ReadAnswer → ℕ
status_of (Damaged d) = 15
status_of Fault = 16
status_of (Limit w) = 20
status_of UnknownPath = 23
status_of NotARepository = 24
status_of (Requirement w) = 27
status_of Memory = 30

-- what it says after `abort: `
abbrev pub refusal_text : ReadAnswer → List ℕ
refusal_text (Damaged d) = codes "damaged " ++ damage_text d
refusal_text Fault = codes "file operation failed"
refusal_text (Limit w) = codes "limit " ++ decimal (limit_number w)
refusal_text UnknownPath = codes "unknown path"
refusal_text NotARepository = codes "not a repository"
refusal_text (Requirement w) = codes "requirement " ++ w
refusal_text Memory = codes "out of memory"

abbrev pub refusal_line : ReadAnswer → List ℕ
refusal_line e = codes "abort: " ++ refusal_text e ++ 10 ∷ []

-- a fault of the files and want of memory say nothing of the repository
abbrev pub is_of_outside : ReadAnswer → Bool
is_of_outside (Damaged d) = false
is_of_outside Fault = true
is_of_outside (Limit w) = false
is_of_outside UnknownPath = false
is_of_outside NotARepository = false
is_of_outside (Requirement w) = false
is_of_outside Memory = true

-- a fault is answered only where the files counted one, and neither count of theirs falls
pub record HasFaultCause {T : Type 0} (faults_old faults_new denied_old denied_new : ℕ) (result : Result T ReadAnswer) : Type 0 where
  pub later : faults_old ≤ faults_new
  pub refused : denied_old ≤ denied_new
  pub fault : IsErrOf result Fault → Rose faults_old faults_new

-- what a fault of the files is to a reader
abbrev pub read_fault : FileFault → ReadAnswer
read_fault Failed = Fault
read_fault NoMemory = Memory

-- the refusal is this one, or it is of the outside
abbrev pub IsRefusal : ReadAnswer → ReadAnswer → Type 0
IsRefusal e refusal = MatchBool (is_of_outside e) ⊤ (refusal ≡ e)

-- a fault of the files
abbrev pub is_fault : ReadAnswer → Bool
is_fault (Damaged d) = false
is_fault Fault = true
is_fault (Limit w) = false
is_fault UnknownPath = false
is_fault NotARepository = false
is_fault (Requirement w) = false
is_fault Memory = false

-- what never answers a fault of the files
abbrev pub NeverFaults : {T : Type 0} → Result T ReadAnswer → Type 0
NeverFaults (Ok x) = ⊤
NeverFaults (Err e) = is_fault e ≡ false
