-- A record and the end of the input in one, and what is looked at of an input.
use Rattle.std.proofs.Common.{◌≡◌, ℕ, zero, suc, ◌+◌, ◌-◌, ◌≤◌, List, [], ◌∷◌, ◌++◌, length, take, Result, Ok, Err, refl, sym, ◌∙◌, ap, arith, append_assoc}
use Rattle.std.specs.Prelude.{codes, flat_map}
use Rattle.std.proofs.lemmas.List.{take_all, take-append-le, length-take}
use Rattle.hgs_model.specs.declared.command.NewChange.{NewChange}
use Rattle.hgs_model.specs.declared.files.NewFile.{NewFile}
use Rattle.hgs_input.specs.declared.fault.InputFault.{InputFault}
use Rattle.hgs_bytes.specs.Text.{line}
use Rattle.hgs_index.specs.ChangeText.{date_text}
use Rattle.hgs_input.specs.Record.{most_input, parent_text, phase_text, bookmark_text, branch_text, description_text, file_text, Wording, record_text}
use Rattle.hgs_input.specs.Read.{Rest, Reading, ◌>>=◌, required, word_of, Head, head_from, description_from, files_from, nothing_behind, change_with, record_from, looked_at, start_of, read_record}

-- the last line, and nothing behind it
abbrev pub end_from : Rest → Result Unit InputFault
end_from r = required (word_of (codes "end")) r >>= λ e. nothing_behind e.1

abbrev pub change_from : Rest → Result NewChange InputFault
change_from r = do
  head ← head_from r
  description ← description_from head.1
  files ← files_from (length description.1.bytes) [] description.1
  end ← end_from files.1
  Ok (change_with head.0 description.0 files.0)

bind_assoc : {A B C : Type 0} (x : Result A InputFault) (f : A → Result B InputFault) (g : B → Result C InputFault) → ((x >>= f) >>= g) ≡ (x >>= λ a. f a >>= g)
bind_assoc (Ok a) f g = refl
bind_assoc (Err e) f g = refl

abbrev alone : NewChange × Rest → Result NewChange InputFault
alone p = nothing_behind p.1 >>= λ _. Ok p.0

-- the last line, with what stands before it
last_is : (c : NewChange) (r : Rest) → ((required (word_of (codes "end")) r >>= λ e. Ok (c, e.1)) >>= alone) ≡ (end_from r >>= λ _. Ok c)
last_is c r =
    bind_assoc (required (word_of (codes "end")) r) (λ e. Ok (c, e.1)) alone
    ∙ sym (bind_assoc (required (word_of (codes "end")) r) (λ e. nothing_behind e.1) (λ _. Ok c))

-- what is read behind the files, behind the description, and behind the head
abbrev behind_files : Head → List ℕ → List NewFile × Rest → Reading NewChange
behind_files head description files = required (word_of (codes "end")) files.1 >>= λ e. Ok (change_with head description files.0, e.1)

abbrev behind_text : Head → List ℕ × Rest → Reading NewChange
behind_text head description = files_from (length description.1.bytes) [] description.1 >>= behind_files head description.0

abbrev behind_head : Head × Rest → Reading NewChange
behind_head head = description_from head.1 >>= behind_text head.0

pub change-is : (r : Rest) → (record_from r >>= alone) ≡ change_from r
change-is r =
    bind_assoc (head_from r) behind_head alone
    ∙ (λ i. head_from r >>= λ head.
    (bind_assoc (description_from head.1) (behind_text head.0) alone
    ∙ (λ j. description_from head.1 >>= λ description.
    (bind_assoc (files_from (length description.1.bytes) [] description.1) (behind_files head.0 description.0) alone
    ∙ (λ k. files_from (length description.1.bytes) [] description.1 >>= λ files. last_is (change_with head.0 description.0 files.0) files.1 k)) j)) i)

-- ---- what is looked at

pub looked-whole : (bytes : List ℕ) → length bytes ≤ most_input + 1 → looked_at bytes ≡ bytes
looked-whole bytes h = take_all (most_input + 1) bytes h

pub looked-length : (bytes : List ℕ) → length (looked_at bytes) ≤ most_input → length bytes ≤ most_input
looked-length bytes h = let size = length-take (most_input + 1) bytes in omega (arith, h, size)

take_past : (n : ℕ) (xs ys : List ℕ) → length xs ≤ n → take n (xs ++ ys) ≡ xs ++ take (n - length xs) ys
take_past n [] ys h = let z : n ≡ n - 0 = omega arith in ap (λ m. take m ys) z
take_past zero (x ∷ xs) ys h = absurd (omega (arith, h))
take_past (suc n) (x ∷ xs) ys h = let z : n - length xs ≡ suc n - suc (length xs) = omega arith in ap (λ l. x ∷ l) (take_past n xs ys (omega (arith, h)) ∙ ap (λ m. xs ++ take m ys) z)

-- a front that is all looked at, and some of what goes on
pub looked-on : (front more : List ℕ) → length front ≤ most_input + 1 → looked_at (front ++ more) ≡ front ++ take (most_input + 1 - length front) more
looked-on front more h = take_past (most_input + 1) front more h

-- what stands behind the first byte past the limit is not looked at
pub looked-front : (front more : List ℕ) → most_input + 1 ≤ length front → looked_at (front ++ more) ≡ looked_at front
looked-front front more h = take-append-le (most_input + 1) front more h

pub read-looked : (bytes : List ℕ) → read_record bytes ≡ change_from (start_of bytes)
read-looked bytes = change-is (start_of bytes)

-- an input is read as what is looked at of it
pub read-all : (bytes all : List ℕ) → looked_at bytes ≡ all → read_record bytes ≡ change_from (record { whole = length all; bytes = all })
read-all bytes all e = read-looked bytes ∙ ap (λ b. change_from (record { whole = length b; bytes = b })) e

-- ---- a record with something behind it

pub record_then : (says : Wording) (c : NewChange) (behind : List ℕ) → record_text says c ++ behind ≡
    line (codes "commit") ++ (flat_map parent_text c.parents ++ (line (codes "user " ++ c.user) ++ (line (codes "date " ++ date_text c.seconds c.offset [])
    ++ (phase_text says.draft c.phase ++ (bookmark_text c.bookmark ++ (branch_text says.default c.branch ++ (description_text c.description ++ (flat_map file_text c.files ++ (line (codes "end") ++ behind)))))))))
record_then says c behind =
    let end = line (codes "end") in
    let files = flat_map file_text c.files in
    let description = description_text c.description in
    let bookmark = bookmark_text c.bookmark in
    let branch = branch_text says.default c.branch in
    let phase = phase_text says.draft c.phase in
    let date = line (codes "date " ++ date_text c.seconds c.offset []) in
    let user = line (codes "user " ++ c.user) in
    let names = flat_map parent_text c.parents in
    let from_description : (description ++ (files ++ end)) ++ behind ≡ description ++ (files ++ (end ++ behind)) =
    append_assoc description (files ++ end) behind ∙ ap (λ t. description ++ t) (append_assoc files end behind) in
    let from_bookmark : (bookmark ++ (branch ++ (description ++ (files ++ end)))) ++ behind ≡ bookmark ++ (branch ++ (description ++ (files ++ (end ++ behind)))) =
    append_assoc bookmark (branch ++ (description ++ (files ++ end))) behind
    ∙ ap (λ t. bookmark ++ t) (append_assoc branch (description ++ (files ++ end)) behind ∙ ap (λ t. branch ++ t) from_description) in
    let from_phase : (phase ++ (bookmark ++ (branch ++ (description ++ (files ++ end))))) ++ behind ≡ phase ++ (bookmark ++ (branch ++ (description ++ (files ++ (end ++ behind))))) =
    append_assoc phase (bookmark ++ (branch ++ (description ++ (files ++ end)))) behind ∙ ap (λ t. phase ++ t) from_bookmark in
    append_assoc (line (codes "commit")) (names ++ (user ++ (date ++ (phase ++ (bookmark ++ (branch ++ (description ++ (files ++ end)))))))) behind
    ∙ ap (λ t. line (codes "commit") ++ t) (append_assoc names (user ++ (date ++ (phase ++ (bookmark ++ (branch ++ (description ++ (files ++ end))))))) behind
    ∙ ap (λ t. names ++ t) (append_assoc user (date ++ (phase ++ (bookmark ++ (branch ++ (description ++ (files ++ end)))))) behind
    ∙ ap (λ t. user ++ t) (append_assoc date (phase ++ (bookmark ++ (branch ++ (description ++ (files ++ end))))) behind
    ∙ ap (λ t. date ++ t) from_phase)))
