-- What a repository requires of its readers.
use Rattle.std.specs.Prelude.{ℕ, List, [], ◌∷◌, not, map, find, codes, Option, Some, None, Result, Ok, Err}
use Rattle.hgs_bytes.specs.Bytes.{among}
use Rattle.hgs_bytes.specs.Text.{lines_of}
use Rattle.hgs_model.specs.History.{first_of}
use Rattle.hgs_load.specs.declared.answer.ReadAnswer.{ReadAnswer}
use Rattle.hgs_load.specs.declared.answer.ReadAnswer.TheVariants.{NotARepository, Requirement}

-- the requirements that this reader knows
abbrev pub known_requirements : List (List ℕ)
known_requirements = codes "revlogv1" ∷ codes "store" ∷ codes "fncache" ∷ codes "dotencode" ∷ codes "generaldelta" ∷ []

-- those that each repository has
abbrev pub needed_requirements : List (List ℕ)
needed_requirements = codes "dotencode" ∷ codes "fncache" ∷ codes "revlogv1" ∷ codes "store" ∷ []

-- a word on each line; the last LF may be missing
abbrev pub words_of : List ℕ → List (List ℕ)
words_of text = map (λ l. l.0) (lines_of text)

abbrev pub first_unknown : List (List ℕ) → Option (List ℕ)
first_unknown words = find (λ word. not (among word known_requirements)) words

abbrev pub first_lacking : List (List ℕ) → Option (List ℕ)
first_lacking words = find (λ word. not (among word words)) needed_requirements

abbrev pub requirement_answer : Option (List ℕ) → Result Unit ReadAnswer
requirement_answer None = Ok tt
requirement_answer (Some word) = Err (Requirement word)

-- refused by the first word that is unknown, else by the first that is lacking
abbrev pub requirements_answer : List (List ℕ) → Result Unit ReadAnswer
requirements_answer words = requirement_answer (first_of (first_unknown words) (first_lacking words))

-- without the file there is no repository
abbrev pub requires_answer : Option (List ℕ) → Result Unit ReadAnswer
requires_answer None = Err NotARepository
requires_answer (Some text) = requirements_answer (words_of text)
