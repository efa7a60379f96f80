-- The lines that events write.
use Rattle.std.specs.Prelude.{ℕ, List, [], ◌∷◌, ◌++◌, codes, decimal}
use Rattle.hgs_answers.specs.Answer.{status_of}
use Rattle.hgs_answers.specs.declared.outcome.Outcome.{Outcome}
use Rattle.hgs_index.specs.Hex.{hex}
use Rattle.hgs_index.specs.declared.node.Node.{Node}
use Rattle.hgs_machine.specs.declared.ended.Short.{Short}
use Rattle.hgs_machine.specs.declared.ended.Short.TheVariants.{Done}
use Rattle.hgs_recover.specs.Answer.{status_of as recovered_status}
use Rattle.hgs_recover.specs.declared.answer.RecoverAnswer.{RecoverAnswer}
use Rattle.hgs_writer.specs.Outcomes.{outcome_of_ended}

abbrev pub word_line : List ℕ → List ℕ
word_line words = words ++ 10 ∷ []

abbrev pub number_line : List ℕ → ℕ → List ℕ
number_line words number = words ++ decimal number ++ 10 ∷ []

abbrev pub loaded_line : ℕ → List ℕ
loaded_line count = number_line (codes "loaded ") count

-- a writer that is refused
abbrev pub begun_line : Outcome → List ℕ
begun_line outcome = number_line (codes "begin ") (status_of outcome)

abbrev pub recovered_line : RecoverAnswer → List ℕ
recovered_line answer = number_line (codes "recover ") (recovered_status answer)

-- the changeset that is answered, where the transaction was done
abbrev pub changeset_text : Short → ℕ → Node → List ℕ
changeset_text Done rev node = 32 ∷ (decimal rev ++ 58 ∷ hex node.0)
changeset_text outcome rev node = []

-- what a writer answers whose transaction ended so
abbrev pub answer_line : Short → ℕ → Node → List ℕ
answer_line outcome rev node = codes "answer " ++ decimal (status_of (outcome_of_ended outcome rev node)) ++ changeset_text outcome rev node ++ 10 ∷ []
