-- Bytes that are taken from an input, read after read.
use Rattle.std.proofs.Common.{◌≡◌, ℕ, ◌+◌, ◌<◌, ◌≤◌, List, [], ◌∷◌, ◌++◌, length, take, Option, Some, None, IfSome, Result, refl, sym, ◌∙◌, ap, subst, arith, append_assoc, length-append}
use Rattle.std.proofs.lemmas.List.{take_all, take_at}
use Rattle.hgs_files.specs.Streams.{IsTaken}
use Rattle.hgs_input.specs.Record.{most_input}
use Rattle.hgs_bytes.specs.Answer.{Gives}
use Rattle.hgs_input.specs.Import.{read_import}
use Rattle.hgs_input.specs.Read.{is_memory, read_record}
use Rattle.hgs_input.specs.declared.fault.InputFault.{InputFault}
use Rattle.hgs_model.specs.declared.command.NewChange.{NewChange}
use Rattle.hgs_schedule.specs.Read.{read_schedule}
use Rattle.hgs_schedule.specs.declared.event.Schedule.{Schedule}
use Rattle.hgs_top.specs.Orders.{Gave, GaveImport, IsAtEnd}
use Rattle.hgs_top.specs.Play.{GaveSchedule}
use Rattle.hgs_top.specs.Theorems.Inputs.{looked_at_decides}

-- all of these bytes were taken from what was left at first
abbrev pub AreTaken : Option (List ℕ) → Option (List ℕ) → List ℕ → Type 0
AreTaken None now bytes = now ≡ None
AreTaken (Some all) now bytes = (rest : List ℕ) × (now ≡ Some rest) × (all ≡ bytes ++ rest)

pub none_taken : (left : Option (List ℕ)) → AreTaken left left []
none_taken None = refl
none_taken (Some all) = (all, refl, refl)

pub taken_on : (left now next : Option (List ℕ)) (bytes front more : List ℕ) (most : ℕ) → AreTaken left now bytes → IsTaken now next most front → more ≡ bytes ++ front → AreTaken left next more
taken_on None now next bytes front more most h t e = let P : Option (List ℕ) → Type 0 = λ n. IsTaken n next most front in subst P h t
taken_on (Some all) now next bytes front more most h t e =
    let P : Option (List ℕ) → Type 0 = λ n. IsTaken n next most front in
    let u : IsTaken (Some h.0) next most front = subst P h.1 t in
    (u.0, u.1, h.2 ∙ ap (λ l. bytes ++ l) u.2 ∙ sym (append_assoc bytes front u.0) ∙ ap (λ l. l ++ u.0) (sym e))

-- as many as are looked at
pub most_taken : (left now : Option (List ℕ)) (bytes : List ℕ) → AreTaken left now bytes → length bytes ≡ most_input + 1 → IfSome left (λ all. bytes ≡ take (most_input + 1) all)
most_taken None now bytes h e = tt
most_taken (Some all) now bytes h e = sym (ap (take (most_input + 1)) h.2 ∙ take_at bytes h.0 (most_input + 1) e)

no_bytes : (front : List ℕ) → length front ≡ 0 → front ≡ []
no_bytes [] e = refl
no_bytes (b ∷ front) e = absurd (omega (arith, e))

-- all that there are
pub all_taken : (left now next : Option (List ℕ)) (bytes front more : List ℕ) (most : ℕ) → AreTaken left now bytes → IsTaken now next most front → more ≡ bytes ++ front → length front ≡ 0 → 0 < most → length bytes ≤ most_input + 1 → IfSome left (λ all. more ≡ take (most_input + 1) all)
all_taken None now next bytes front more most h t e z some few = tt
all_taken (Some all) now next bytes front more most h t e z some few =
    let P : Option (List ℕ) → Type 0 = λ n. IsTaken n next most front in
    let u : IsTaken (Some h.0) next most front = subst P h.1 t in
    let f = no_bytes front z in
    let whole : all ≡ more = h.2 ∙ ap (λ l. bytes ++ l) (u.3 some f ∙ sym f) ∙ sym e in
    let size = ap length e ∙ length-append bytes front in
    sym (ap (take (most_input + 1)) whole ∙ take_all (most_input + 1) more (omega (arith, size, z, few)))

-- none were taken, though some were asked for
pub at_end : (now next : Option (List ℕ)) (front : List ℕ) (most : ℕ) → IsTaken now next most front → length front ≡ 0 → 0 < most → IsAtEnd next
at_end None next front most t z some = subst IsAtEnd (sym t) tt
at_end (Some all) next front most t z some =
    let f = no_bytes front z in
    let none : [] ≡ t.0 = sym (t.3 some f) ∙ (t.2 ∙ ap (λ l. l ++ t.0) f) in
    subst IsAtEnd (sym t.1) (sym none)

pub gave : ((front more : List ℕ) → most_input < length front → read_record (front ++ more) ≡ read_record front) → (left : Option (List ℕ)) (bytes : List ℕ) (given : Result NewChange InputFault) → IfSome left (λ all. bytes ≡ take (most_input + 1) all) → Gives is_memory (λ change. change) given (read_record bytes) → Gave left given
gave long None bytes given e h = tt
gave long (Some all) bytes given e h =
    let P : Result NewChange InputFault → Type 0 = λ r. Gives is_memory (λ change. change) given r in
    subst P (ap read_record e ∙ looked_at_decides read_record long all) h

pub gave_import : ((front more : List ℕ) → most_input < length front → read_import (front ++ more) ≡ read_import front) → (left : Option (List ℕ)) (bytes : List ℕ) (given : Result (List NewChange) InputFault) → IfSome left (λ all. bytes ≡ take (most_input + 1) all)
    → Gives is_memory (λ changes. changes) given (read_import bytes) → GaveImport left given
gave_import long None bytes given e h = tt
gave_import long (Some all) bytes given e h =
    let P : Result (List NewChange) InputFault → Type 0 = λ r. Gives is_memory (λ changes. changes) given r in
    subst P (ap read_import e ∙ looked_at_decides read_import long all) h

pub gave_schedule : ((front more : List ℕ) → most_input < length front → read_schedule (front ++ more) ≡ read_schedule front) → (left : Option (List ℕ)) (bytes : List ℕ) (given : Result Schedule InputFault) → IfSome left (λ all. bytes ≡ take (most_input + 1) all)
    → Gives is_memory (λ s. s) given (read_schedule bytes) → GaveSchedule left given
gave_schedule long None bytes given e h = tt
gave_schedule long (Some all) bytes given e h =
    let P : Result Schedule InputFault → Type 0 = λ r. Gives is_memory (λ s. s) given r in
    subst P (ap read_schedule e ∙ looked_at_decides read_schedule long all) h
