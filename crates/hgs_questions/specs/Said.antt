-- What a question of a session is answered with.
use Rattle.std.specs.Prelude.{◌≡◌, ◌⊎◌, ℕ, List, [], ◌∷◌, ◌++◌, Option, Some, None, Result, Ok, Err, codes}
use Rattle.hgs_bytes.specs.Text.{line}
use Rattle.hgs_load.specs.Answer.{refusal_line, status_of}
use Rattle.hgs_load.specs.declared.answer.ReadAnswer.{ReadAnswer}
use Rattle.hgs_load.specs.declared.answer.ReadAnswer.TheVariants.{Damaged, Fault, Limit, UnknownPath, NotARepository, Requirement, Memory}
use Rattle.hgs_model.specs.Phase.{phase_name}
use Rattle.hgs_model.specs.declared.phase.Phase.{Phase}
use Rattle.hgs_script.specs.declared.result.Answered.{Answered}

-- the whole text of a question
abbrev pub said : List ℕ → Answered
said text = record { status = 0; text = text }

-- the name names no revision
abbrev pub unknown : Answered
unknown = record { status = 12; text = line (codes "abort: unknown revision") }

-- the line of a refusal, with its status
abbrev pub refused : ReadAnswer → Answered
refused e = record { status = status_of e; text = refusal_line e }

-- there was no memory, for the line of that neither
abbrev pub lost : Answered
lost = record { status = 30; text = [] }

-- a text, and what is said behind it
abbrev pub behind : List ℕ → Answered → Answered
behind text rest = record { status = rest.status; text = text ++ rest.text }

-- a text, or the refusal of it
abbrev pub said_of : Result (List ℕ) ReadAnswer → Answered
said_of (Ok text) = said text
said_of (Err e) = refused e

abbrev pub phase_line : Option Phase → List ℕ
phase_line None = []
phase_line (Some phase) = line (phase_name phase)

-- one of these
abbrev pub IsOneOf : List ℕ → ℕ → Type 0
IsOneOf [] n = ⊥
IsOneOf (x ∷ xs) n = (n ≡ x) ⊎ IsOneOf xs n

-- a status that a question may have
abbrev pub IsStatus : ℕ → Type 0
IsStatus status = IsOneOf (0 ∷ 12 ∷ 15 ∷ 16 ∷ 20 ∷ 23 ∷ 24 ∷ 27 ∷ 30 ∷ []) status

-- this was said, unless there was no memory
abbrev pub Says : Answered → Answered → Type 0
Says what answered = (answered ≡ what) ⊎ (answered ≡ lost)

-- this refusal was said behind a text; want of memory says nothing
abbrev pub Refuses : List ℕ → ReadAnswer → Answered → Type 0
Refuses text (Damaged d) answered = Says (behind text (refused (Damaged d))) answered
Refuses text Fault answered = Says (behind text (refused Fault)) answered
Refuses text (Limit w) answered = Says (behind text (refused (Limit w))) answered
Refuses text UnknownPath answered = Says (behind text (refused UnknownPath)) answered
Refuses text NotARepository answered = Says (behind text (refused NotARepository)) answered
Refuses text (Requirement w) answered = Says (behind text (refused (Requirement w))) answered
Refuses text Memory answered = answered ≡ lost
