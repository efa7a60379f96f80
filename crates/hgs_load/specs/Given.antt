-- How many bytes a question was given.
use Rattle.std.specs.Prelude.{◌≡◌, ◌⊎◌, ℕ, ◌+◌, ◌<◌, ◌≤◌, Bool, true, false, List, [], ◌++◌, length, unwrap_or, Option, IfSome, Result, Ok, Err}
use Rattle.std.specs.Bool.{MatchBool}
use Rattle.hgs_files.specs.declared.op.Op.{Op}
use Rattle.hgs_files.specs.Reads.{greatest, Grows}
use Rattle.hgs_files.specs.Tree.{Tree, after_all}
use Rattle.hgs_load.specs.declared.answer.ReadAnswer.{ReadAnswer}
use Rattle.hgs_load.specs.Answer.{is_of_outside}
use Rattle.hgs_load.specs.Asks.{Asks, answer, read, part_of}
use Rattle.hgs_load.specs.View.{View}

-- a count rises by so many, and by fewer only where it then stands at its greatest value
pub record RisesBy (old new more : ℕ) : Type 0 where
  pub later : old ≤ new
  pub at_most : new ≤ old + more
  pub exact : new < greatest → new ≡ old + more

-- how many bytes a part of a file has, none where the file isn't there
abbrev pub size_of : Option (List ℕ) → ℕ
size_of part = length (unwrap_or part [])

-- how many bytes a question is given where all its reads are answered from one tree
abbrev pub given_at_rest : {A : Type 0} → Tree → Asks A → ℕ
given_at_rest t (answer x) = 0
given_at_rest t (read path from most rest) = size_of (part_of t path from most) + given_at_rest t (rest (part_of t path from most))

-- a read of one part counts its bytes, and none where it is refused
abbrev pub CountsPart : ℕ → ℕ → Result (Option (List ℕ)) ReadAnswer → Type 0
CountsPart given_old given_new (Ok part) = RisesBy given_old given_new (size_of part)
CountsPart given_old given_new (Err e) = given_new ≡ given_old

-- this part answers a read: it has at most as many bytes as were asked for, and is that of the last list that was looked at, where this is told
abbrev pub IsAnswer : Option (List Op) → Tree → List ℕ → ℕ → ℕ → Option (List ℕ) → Type 0
IsAnswer seen start path from most part = IfSome part (λ bytes. length bytes ≤ most) × IfSome seen (λ log. part ≡ part_of (after_all log start) path from most)

-- From what was seen and a question to what is seen now and what is left of it: some of its reads were answered, from the first on, by parts that have so many bytes in all.
abbrev pub GoesTo : {A : Type 0} → Tree → Option (List Op) → Asks A → ℕ → Option (List Op) → Asks A → Type 0
GoesTo start before (answer x) bytes after left = Grows before after × (bytes ≡ 0) × (left ≡ answer x)
GoesTo start before (read path from most rest) bytes after left =
    (Grows before after × (bytes ≡ 0) × (left ≡ read path from most rest))
    ⊎ ((seen : Option (List Op)) × (part : Option (List ℕ)) × (more : ℕ) × Grows before seen × IsAnswer seen start path from most part × (bytes ≡ size_of part + more) × GoesTo start seen (rest part) more after left)

-- the count of bytes given rose by what those parts have
abbrev pub Gave : {A : Type 0} → ℕ → ℕ → Option (List Op) → Tree → Option (List Op) → Asks A → Asks A → Type 0
Gave given_old given_new before start after question left = (bytes : ℕ) × RisesBy given_old given_new bytes × GoesTo start before question bytes after left

-- A call was refused so: the whole question was asked, up to this refusal, or the outside refused on the way.
abbrev pub GaveRefused : {B : Type 0} → ℕ → ℕ → Option (List Op) → Tree → Option (List Op) → Asks (Result B ReadAnswer) → ReadAnswer → Type 0
GaveRefused {B} given_old given_new before start after question e =
    MatchBool (is_of_outside e) ((left : Asks (Result B ReadAnswer)) × Gave given_old given_new before start after question left) (Gave given_old given_new before start after question (answer (Err e)))

-- A call asked this question and read nothing else. `view` is what contracts see of its value.
abbrev pub Takes : {V B : Type 0} → (V → B) → ℕ → ℕ → Option (List Op) → Tree → Option (List Op) → Asks (Result B ReadAnswer) → Result V ReadAnswer → Type 0
Takes view given_old given_new before start after question (Ok x) = Gave given_old given_new before start after question (answer (Ok (view x)))
Takes view given_old given_new before start after question (Err e) = GaveRefused given_old given_new before start after question e

-- so did a call that adds a text
abbrev pub TakesText : ℕ → ℕ → Option (List Op) → Tree → Option (List Op) → Asks (Result (List ℕ) ReadAnswer) → List ℕ → List ℕ → Result Unit ReadAnswer → Type 0
TakesText given_old given_new before start after question old new (Ok x) = (text : List ℕ) × (new ≡ old ++ text) × Gave given_old given_new before start after question (answer (Ok text))
TakesText given_old given_new before start after question old new (Err e) = GaveRefused given_old given_new before start after question e

-- so did one step of a load
abbrev pub TakesStep : {B : Type 0} → ℕ → ℕ → Option (List Op) → Tree → Option (List Op) → Asks (Result B ReadAnswer) → Asks (Result B ReadAnswer) → Result Bool ReadAnswer → Type 0
TakesStep given_old given_new before start after question left (Ok true) = Gave given_old given_new before start after question left
TakesStep given_old given_new before start after question left (Ok false) = given_new ≡ given_old
TakesStep given_old given_new before start after question left (Err e) = GaveRefused given_old given_new before start after question e

-- so did a call that takes the answer as its new view
abbrev pub TakesView : ℕ → ℕ → Option (List Op) → Tree → Option (List Op) → Asks (Result View ReadAnswer) → View → Result Unit ReadAnswer → Type 0
TakesView given_old given_new before start after question new (Ok x) = Gave given_old given_new before start after question (answer (Ok new))
TakesView given_old given_new before start after question new (Err e) = GaveRefused given_old given_new before start after question e
