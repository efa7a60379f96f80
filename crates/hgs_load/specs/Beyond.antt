-- What an end that was told of others' work looks at: nothing older than what it was told.
use Rattle.std.specs.Prelude.{List, Bool, true, false, Option, Result, Ok, Err, IfSome, ⊤}
use Rattle.std.specs.Bool.{MatchBool}
use Rattle.hgs_bytes.specs.Bytes.{IsPrefixOf}
use Rattle.hgs_files.specs.declared.op.Op.{Op}
use Rattle.hgs_files.specs.Reads.{Covers}
use Rattle.hgs_files.specs.Tree.{Tree}
use Rattle.hgs_load.specs.declared.answer.ReadAnswer.{ReadAnswer}
use Rattle.hgs_load.specs.Answer.{is_of_outside}
use Rattle.hgs_load.specs.Asks.{Asks, Continues, MayAnswer, MayAnswerWhereTold}
use Rattle.hgs_load.specs.View.{View}

-- the list that was looked at last goes on from each list told, where it is told
abbrev pub IsBeyond : List (List Op) → Option (List Op) → Type 0
IsBeyond told seen = IfSome seen (λ log. Covers told log)

-- this holds of the list that was looked at last, where it is told
abbrev pub IsShown : (Tree → List Op → Type 0) → Tree → Option (List Op) → Type 0
IsShown Shows start seen = IfSome seen (λ log. Shows start log)

-- a read that was answered looked at such a list
abbrev pub LooksThere : {T : Type 0} → List (List Op) → Option (List Op) → Result T ReadAnswer → Type 0
LooksThere told seen (Ok x) = IsBeyond told seen
LooksThere told seen (Err e) = ⊤

-- One step of a load that made a read: it looked at such a list, and its answer is that of this list.
abbrev pub StepsBeyond : {A : Type 0} → List (List Op) → Tree → Option (List Op) → Asks (Result A ReadAnswer) → Asks (Result A ReadAnswer) → Result Bool ReadAnswer → Type 0
StepsBeyond told start after question left (Ok true) = IsBeyond told after × Continues after start after question left
StepsBeyond told start after question left (Ok false) = ⊤
StepsBeyond told start after question left (Err e) = MatchBool (is_of_outside e) ⊤ (IsBeyond told after × MayAnswerWhereTold after start after question (Err e))

-- The answer may be this where the first read is answered from a list that goes on from each list told.
abbrev pub MayAnswerBeyond : {A : Type 0} → List (List Op) → Option (List Op) → Tree → Option (List Op) → Asks A → A → Type 0
MayAnswerBeyond told before start after question y =
    IfSome before (λ first. IfSome after (λ last. (from : List Op) × IsPrefixOf first from × Covers told from × MayAnswer start from question last y))

-- A call answered a question so, or met a fault of the files or found no memory.
abbrev pub AnswersBeyond : {V B : Type 0} → (V → B) → List (List Op) → Option (List Op) → Tree → Option (List Op) → Asks (Result B ReadAnswer) → Result V ReadAnswer → Type 0
AnswersBeyond view told before start after question (Ok x) = MayAnswerBeyond told before start after question (Ok (view x))
AnswersBeyond view told before start after question (Err e) = MatchBool (is_of_outside e) ⊤ (MayAnswerBeyond told before start after question (Err e))

-- so did a refresh, with the new view
abbrev pub RefreshesBeyond : List (List Op) → Option (List Op) → Tree → Option (List Op) → Asks (Result View ReadAnswer) → View → Result Unit ReadAnswer → Type 0
RefreshesBeyond told before start after question new (Ok x) = MayAnswerBeyond told before start after question (Ok new)
RefreshesBeyond told before start after question new (Err e) = MatchBool (is_of_outside e) ⊤ (MayAnswerBeyond told before start after question (Err e))
