-- What recovering comes to, and the text of that.
use Rattle.std.specs.Prelude.{ℕ, List, [], ◌∷◌, ◌++◌, codes}
use Rattle.hgs_answers.specs.Answer.{leftover_text}
use Rattle.hgs_plan.specs.Damage.{damage_text}
use Rattle.hgs_load.specs.declared.answer.ReadAnswer.{ReadAnswer}
use Rattle.hgs_load.specs.declared.answer.ReadAnswer.TheVariants as reads
use Rattle.hgs_recover.specs.declared.answer.RecoverAnswer.{RecoverAnswer}
use Rattle.hgs_recover.specs.declared.answer.RecoverAnswer.TheVariants.{Restored, NothingToDo, Damaged, Fault, Unfinished, Memory}
use Rattle.hgs_recover.specs.declared.answer.Recovered.{Recovered}

-- the exit status of a recovery that ends so
abbrev pub status_of : RecoverAnswer → ℕ
status_of Restored = 0
status_of NothingToDo = 1
status_of (Damaged d) = 15
status_of Fault = 16
status_of Unfinished = 17
status_of Memory = 30

-- what is said of it
abbrev pub said_text : RecoverAnswer → List ℕ
said_text Restored = codes "transaction undone"
said_text NothingToDo = codes "no interrupted transaction available"
said_text (Damaged d) = codes "abort: damaged " ++ damage_text d
said_text Fault = codes "abort: file operation failed"
said_text Unfinished = codes "abort: recovery unfinished"
said_text Memory = codes "abort: out of memory"

-- the whole text, with a line more where not all is gone that is left over
abbrev pub recovered_text : Recovered → List ℕ
recovered_text r = (said_text r.outcome ++ 10 ∷ []) ++ leftover_text r.swept

-- by what could not be read: damage, a fault, or want of memory
abbrev pub outcome_of_read : ReadAnswer → RecoverAnswer
outcome_of_read (reads.Damaged damage) = Damaged damage
outcome_of_read reads.Fault = Fault
outcome_of_read _ = Memory
