-- What a reader asks of files that others may change meanwhile.
use Rattle.std.specs.Prelude.{◌≡◌, ◌++◌, ℕ, List, Option, Result, Ok, Err, take, drop, IfSome, IsTrue, ⊤}
use Rattle.std.specs.Option.{option_map}
use Rattle.std.specs.Bool.{MatchBool}
use Rattle.hgs_bytes.specs.Bytes.{IsPrefixOf}
use Rattle.hgs_files.specs.declared.op.Op.{Op}
use Rattle.hgs_files.specs.Tree.{Tree, after_all}
use Rattle.hgs_load.specs.declared.answer.ReadAnswer.{ReadAnswer}
use Rattle.hgs_load.specs.Answer.{is_of_outside}

-- A question to files: its answer, or a read of at most so many bytes of a file from a place, and the question that is left once it is answered.
pub data Asks (A : Type 0) : Type 0 where
  answer : A → Asks A
  read : List ℕ → ℕ → ℕ → (Option (List ℕ) → Asks A) → Asks A

-- what a read gives in a tree; none where the file isn't there
abbrev pub part_of : Tree → List ℕ → ℕ → ℕ → Option (List ℕ)
part_of t path from most = option_map (λ bytes. take most (drop from bytes)) (t path)

-- the answer where all reads are answered from one tree
abbrev pub at_rest : {A : Type 0} → Tree → Asks A → A
at_rest t (answer x) = x
at_rest t (read path from most rest) = at_rest t (rest (part_of t path from most))

-- The answer may be this where each read is answered from the tree after a list of operations, and these lists grow from the first to the last.
abbrev pub MayAnswer : {A : Type 0} → Tree → List Op → Asks A → List Op → A → Type 0
MayAnswer start first (answer x) last y = IsPrefixOf first last × (y ≡ x)
MayAnswer start first (read path from most rest) last y =
    (log : List Op) × IsPrefixOf first log × MayAnswer start log (rest (part_of (after_all log start) path from most)) last y

-- the same where the lists are told
abbrev pub MayAnswerWhereTold : {A : Type 0} → Option (List Op) → Tree → Option (List Op) → Asks A → A → Type 0
MayAnswerWhereTold before start after question y = IfSome before (λ first. IfSome after (λ last. MayAnswer start first question last y))

-- A call answered a question: with its answer, or with its refusal, or it met a fault of the files or found no memory. `view` is what contracts see of the value.
abbrev pub Answers : {V B : Type 0} → (V → B) → Option (List Op) → Tree → Option (List Op) → Asks (Result B ReadAnswer) → Result V ReadAnswer → Type 0
Answers view before start after question (Ok x) = MayAnswerWhereTold before start after question (Ok (view x))
Answers view before start after question (Err e) = MatchBool (is_of_outside e) ⊤ (MayAnswerWhereTold before start after question (Err e))

-- a read answered from the last list that was looked at, where that is told
abbrev pub IsPart : Option (List Op) → Tree → List ℕ → ℕ → ℕ → Result (Option (List ℕ)) ReadAnswer → Type 0
IsPart seen start path from most (Ok part) = IfSome seen (λ log. part ≡ part_of (after_all log start) path from most)
IsPart seen start path from most (Err e) = IsTrue (is_of_outside e)

-- A call answered a question by adding a text, or was refused and added nothing.
abbrev pub AddsAnswer : Option (List Op) → Tree → Option (List Op) → Asks (Result (List ℕ) ReadAnswer) → List ℕ → List ℕ → Result Unit ReadAnswer → Type 0
AddsAnswer before start after question old new (Ok x) = (text : List ℕ) × (new ≡ old ++ text) × MayAnswerWhereTold before start after question (Ok text)
AddsAnswer before start after question old new (Err e) = (new ≡ old) × MatchBool (is_of_outside e) ⊤ (MayAnswerWhereTold before start after question (Err e))

-- A call added this text, or was refused so and added nothing; or it found no memory.
abbrev pub AddsGiven : Result (List ℕ) ReadAnswer → List ℕ → List ℕ → Result Unit ReadAnswer → Type 0
AddsGiven given old new (Ok x) = (text : List ℕ) × (new ≡ old ++ text) × (given ≡ Ok text)
AddsGiven given old new (Err e) = (new ≡ old) × MatchBool (is_of_outside e) ⊤ (given ≡ Err e)

-- from the first question and where it began to what is left of it now: each answer of what is left is one of the whole
abbrev pub Continues : {A : Type 0} → Option (List Op) → Tree → Option (List Op) → Asks A → Asks A → Type 0
Continues {A} before start now whole left = IfSome before (λ first. IfSome now (λ seen. (last : List Op) (y : A) → MayAnswer start seen left last y → MayAnswer start first whole last y))

-- one question, and the next one with its answer; a refusal ends both
abbrev pub then_asks : {A B : Type 0} → Asks (Result A ReadAnswer) → (A → Asks (Result B ReadAnswer)) → Asks (Result B ReadAnswer)
then_asks (answer (Ok x)) more = more x
then_asks (answer (Err e)) more = answer (Err e)
then_asks (read path from most rest) more = read path from most (λ part. then_asks (rest part) more)
