-- What an input is read as: the changeset of a record, or the first fault.
use Rattle.std.specs.Prelude.{ℕ, zero, suc, ◌+◌, ◌-◌, Bool, true, false, ◌&&◌, ◌||◌, ◌==◌, not, nat_le, nat_lt, List, [], ◌∷◌, ◌++◌, length, take, drop, slice_index, min, Option, Some, None, is_some, Result, Ok, Err, codes, if◌then◌else◌, unwrap_or}
use Rattle.std.specs.List.{list_any, list_all}
use Rattle.std.specs.Str.{is_utf8}
use Rattle.std.specs.Str.Parse.{digits_value}
use Rattle.hgs_bytes.specs.Bytes.{same, begins_with}
use Rattle.hgs_bytes.specs.Text.{split, ascends}
use Rattle.hgs_index.specs.declared.kinds.Flag.{Flag}
use Rattle.hgs_index.specs.declared.kinds.Flag.TheVariants.{Plain, Exec, Link}
use Rattle.hgs_index.specs.declared.kinds.Which.TheVariants.{FileText, Tree, Record}
use Rattle.hgs_index.specs.ChangeText.{When, when_at}
use Rattle.hgs_index.specs.MarkName.{is_digit, is_mark_name}
use Rattle.hgs_index.specs.TrackedPath.{is_tracked}
use Rattle.hgs_model.specs.declared.command.NewChange.{NewChange}
use Rattle.hgs_model.specs.declared.files.NewFile.{NewFile}
use Rattle.hgs_model.specs.declared.phase.Phase.{Phase}
use Rattle.hgs_model.specs.declared.phase.Phase.TheVariants.{Draft}
use Rattle.hgs_model.specs.Phase.{phase_named}
use Rattle.hgs_model.specs.Valid.{has_directory, is_branch_name, is_source, new_paths}
use Rattle.hgs_input.specs.declared.fault.InputFault.{InputFault}
use Rattle.hgs_input.specs.declared.fault.InputFault.TheVariants.{BadInput, Limit, Memory}
use Rattle.hgs_input.specs.Record.{most_input}

abbrev pub most_user : ℕ
most_user = 1024

abbrev pub most_description : ℕ
most_description = 65536

abbrev pub most_file : ℕ
most_file = 16777216

abbrev pub most_files : ℕ
most_files = 20000

-- ---- faults and their places

-- a fault at a place; the first byte past the limit of an input comes before what stands behind it
abbrev pub fault_at : ℕ → InputFault → InputFault
fault_at place fault = if nat_le place most_input then fault else Limit Record

abbrev pub bad_at : ℕ → InputFault
bad_at place = fault_at place (BadInput place)

-- what is left to read of an input of this length
pub record Rest : Type 0 where
  pub whole : ℕ
  pub bytes : List ℕ

-- the place in the input at which the rest begins
abbrev pub place : Rest → ℕ
place r = r.whole - length r.bytes

-- what is read, and what is left behind it
abbrev pub Reading : Type 0 → Type 0
Reading A = Result (A × Rest) InputFault

infixl 10 ◌>>=◌
abbrev pub ◌>>=◌ : {A B : Type 0} → Result A InputFault → (A → Result B InputFault) → Result B InputFault
(Ok x) >>= f = f x
(Err e) >>= f = Err e

-- ---- lines and counted texts

abbrev pub line_or_cut : Rest → Option (List ℕ × List ℕ) → Reading (List ℕ)
line_or_cut r None = Err (bad_at r.whole)
line_or_cut r (Some p) = Ok (p.0, record r { bytes = p.1 })

-- the next line without its LF; where there is no LF the input is cut, and that is told by its length
abbrev pub next_line : Rest → Reading (List ℕ)
next_line r = line_or_cut r (split 10 r.bytes)

abbrev pub required_at : {A : Type 0} → ℕ → Option A → Rest → Reading A
required_at at None behind = Err (bad_at at)
required_at at (Some x) behind = Ok (x, behind)

-- a line of this form, and what it says
abbrev pub required : {A : Type 0} → (List ℕ → Option A) → Rest → Reading A
required form r = next_line r >>= λ l. required_at (place r) (form l.0) l.1

abbrev pub optional_at : {A : Type 0} → Rest → Option A → Rest → Reading (Option A)
optional_at r None behind = Ok (None, r)
optional_at r (Some x) behind = Ok (Some x, behind)

-- a line of this form where the next line is one
abbrev pub optional : {A : Type 0} → (List ℕ → Option A) → Rest → Reading (Option A)
optional form r = next_line r >>= λ l. optional_at r (form l.0) l.1

-- so many bytes that have an LF behind them; where the input ends before that LF, it is cut
abbrev pub counted : ℕ → Rest → Reading (List ℕ)
counted n r =
    if nat_le (length r.bytes) n then Err (bad_at r.whole)
    else if slice_index r.bytes n == 10 then Ok (take n r.bytes, record r { bytes = drop (n + 1) r.bytes })
    else Err (bad_at (place r))

-- ---- what a line says

-- what stands behind a front
abbrev pub behind : List ℕ → List ℕ → Option (List ℕ)
behind front text = if begins_with text front then Some (drop (length front) text) else None

-- f of a value that is there
abbrev pub and_then : {A B : Type 0} → Option A → (A → Option B) → Option B
and_then None f = None
and_then (Some x) f = f x

abbrev pub where_true : {A : Type 0} → Bool → A → Option A
where_true b x = if b then Some x else None

-- the line that says just this
abbrev pub word_of : List ℕ → List ℕ → Option Unit
word_of word line = where_true (same line word) tt

abbrev pub parent_of : List ℕ → Option (List ℕ)
parent_of line = behind (codes "parent ") line

-- 1 to 1,024 bytes of UTF-8 without NUL
abbrev pub is_user : List ℕ → Bool
is_user user = nat_le 1 (length user) && nat_le (length user) most_user && not (list_any (λ b. b == 0) user) && is_utf8 user

abbrev pub user_of : List ℕ → Option (List ℕ)
user_of line = and_then (behind (codes "user ") line) (λ user. where_true (is_user user) user)

-- seconds and offset, without extras
abbrev pub date_of : List ℕ → Option When
date_of line = and_then (behind (codes "date ") line) (λ text. and_then (when_at text) (λ w. where_true (length w.extras == 0) w))

abbrev pub phase_of : List ℕ → Option Phase
phase_of line = and_then (behind (codes "phase ") line) phase_named

abbrev pub bookmark_of : List ℕ → Option (List ℕ)
bookmark_of line = and_then (behind (codes "bookmark ") line) (λ name. where_true (is_mark_name name) name)

-- the branch that a line names; `default` is that of a changeset that names none
abbrev pub branch_of : List ℕ → Option (Option (List ℕ))
branch_of line = and_then (behind (codes "branch ") line) (λ name. if same name (codes "default") then Some None else where_true (is_branch_name name) (Some name))

abbrev pub copyfrom_of : List ℕ → Option (List ℕ)
copyfrom_of line = and_then (behind (codes "copyfrom ") line) (λ path. where_true (is_source path) path)

-- decimal digits without a needless zero
abbrev pub is_number : List ℕ → Bool
is_number text = not (length text == 0) && list_all is_digit text && (length text == 1 || not (slice_index text 0 == 48))

-- the number of these digits; each number above the most that is asked for counts as the next one
abbrev pub number_up_to : ℕ → List ℕ → Option ℕ
number_up_to most text = where_true (is_number text) (min (digits_value 10 text) (most + 1))

-- the length of a description, which is bounded
abbrev pub length_of : List ℕ → Option ℕ
length_of line = and_then (behind (codes "desc ") line) (λ text. and_then (number_up_to most_description text) (λ n. where_true (nat_le n most_description) n))

-- the flag, the length of the body and the path that the line of a file says
pub record FileLine : Type 0 where
  pub flag : Flag
  pub size : ℕ
  pub path : List ℕ

abbrev pub flag_of : List ℕ → Option Flag
flag_of text =
    if same text (codes "-") then Some Plain
    else if same text (codes "x") then Some Exec
    else where_true (same text (codes "l")) Link

abbrev pub file_of_parts : List ℕ → List ℕ → List ℕ → Option FileLine
file_of_parts flag size path = and_then (flag_of flag) (λ f. and_then (number_up_to most_file size) (λ n. where_true (is_tracked path) (record { flag = f; size = n; path = path })))

abbrev pub file_of : List ℕ → Option FileLine
file_of line = and_then (behind (codes "file ") line) (λ text. and_then (split 32 text) (λ p. and_then (split 32 p.1) (λ q. file_of_parts p.0 q.0 q.1)))

-- ---- the parts of a record

-- the items with one more and what is read behind it, or the items alone where there is none
abbrev pub more : {A : Type 0} → List A → Option A → Rest → (List A → Rest → Reading (List A)) → Reading (List A)
more items None r next = Ok (items, r)
more items (Some x) r next = next (items ++ x ∷ []) r

-- these names, and at most n parents more
abbrev pub parents_from : ℕ → List (List ℕ) → Rest → Reading (List (List ℕ))
parents_from zero names r = Ok (names, r)
parents_from (suc n) names r = optional parent_of r >>= λ p. more names p.0 p.1 (λ all rest. parents_from n all rest)

abbrev pub text_at : ℕ → List ℕ → Rest → Reading (List ℕ)
text_at at text behind = if is_utf8 text then Ok (text, behind) else Err (bad_at at)

-- the description, whose length a line says
abbrev pub description_from : Rest → Reading (List ℕ)
description_from r = required length_of r >>= λ n. counted n.0 n.1 >>= λ text. text_at (place n.1) text.0 text.1

-- whether a path may come behind these: with it they ascend, and none is a directory of another
abbrev pub fits_behind : List (List ℕ) → List ℕ → Bool
fits_behind paths path = ascends (paths ++ path ∷ []) && not (has_directory (paths ++ path ∷ []))

-- a file's line behind these files, or why it may not stand there: its path, the limit of a body, the limit of files
abbrev pub allowed : ℕ → List NewFile → FileLine → Result FileLine InputFault
allowed at files f =
    if not (fits_behind (new_paths files) f.path) then Err (bad_at at)
    else if nat_lt most_file f.size then Err (fault_at at (Limit FileText))
    else if nat_le most_files (length files) then Err (fault_at at (Limit Tree))
    else Ok f

abbrev pub file_with : FileLine → Option (List ℕ) → List ℕ → NewFile
file_with f from body = record { path = f.path; flag = f.flag; from = from; body = body }

-- the line of a file where it is next, and it has to be behind the line of a source
abbrev pub file_line_from : Bool → Rest → Reading (Option FileLine)
file_line_from true r = required file_of r >>= λ f. Ok (Some f.0, f.1)
file_line_from false r = optional file_of r

abbrev pub file_behind : ℕ → List NewFile → Option (List ℕ) → Option FileLine → Rest → Reading (Option NewFile)
file_behind at files from None r = Ok (None, r)
file_behind at files from (Some line) r = allowed at files line >>= λ f. counted f.size r >>= λ body. Ok (Some (file_with f from body.0), body.1)

-- the next file behind these, where the line of a source or that of a file is next
abbrev pub next_file : List NewFile → Rest → Reading (Option NewFile)
next_file files r = do
  from ← optional copyfrom_of r
  line ← file_line_from (is_some from.0) from.1
  file_behind (place from.1) files from.0 line.0 line.1

-- these files and those behind them; n is no less than the number of bytes that are left
abbrev pub files_from : ℕ → List NewFile → Rest → Reading (List NewFile)
files_from zero files r = Err (bad_at r.whole)
files_from (suc n) files r = next_file files r >>= λ p. more files p.0 p.1 (λ all rest. files_from n all rest)

-- the end of an input that is no longer than an input may be
abbrev pub nothing_behind : Rest → Result Unit InputFault
nothing_behind r = if length r.bytes == 0 then (if nat_le r.whole most_input then Ok tt else Err (Limit Record)) else Err (bad_at (place r))

-- what stands before the description
pub record Head : Type 0 where
  pub parents : List (List ℕ)
  pub user : List ℕ
  pub date : When
  pub phase : Option Phase
  pub bookmark : Option (List ℕ)
  pub branch : Option (List ℕ)

-- the branch, where a line names one
abbrev pub branch_from : Rest → Reading (Option (List ℕ))
branch_from r = optional branch_of r >>= λ b. Ok (unwrap_or b.0 None, b.1)

abbrev pub head_from : Rest → Reading Head
head_from r = do
  begin ← required (word_of (codes "commit")) r
  parents ← parents_from 2 [] begin.1
  user ← required user_of parents.1
  date ← required date_of user.1
  phase ← optional phase_of date.1
  bookmark ← optional bookmark_of phase.1
  branch ← branch_from bookmark.1
  Ok (record { parents = parents.0; user = user.0; date = date.0; phase = phase.0; bookmark = bookmark.0; branch = branch.0 }, branch.1)

-- a changeset is a draft where its record does not say a phase
abbrev pub change_with : Head → List ℕ → List NewFile → NewChange
change_with h description files = record {
  parents = h.parents;
  user = h.user;
  seconds = h.date.seconds;
  offset = h.date.offset;
  phase = unwrap_or h.phase Draft;
  bookmark = h.bookmark;
  branch = h.branch;
  description = description;
  files = files;
}

-- the changeset of a record up to its last line, and what is left behind it
abbrev pub record_from : Rest → Reading NewChange
record_from r = do
  head ← head_from r
  description ← description_from head.1
  files ← files_from (length description.1.bytes) [] description.1
  end ← required (word_of (codes "end")) files.1
  Ok (change_with head.0 description.0 files.0, end.1)

-- An input that is too long is decided by its bytes up to the first past the limit.
abbrev pub looked_at : List ℕ → List ℕ
looked_at bytes = take (most_input + 1) bytes

abbrev pub start_of : List ℕ → Rest
start_of bytes = record { whole = length (looked_at bytes); bytes = looked_at bytes }

-- the changeset of a record with nothing behind it, or the first fault of the input
abbrev pub read_record : List ℕ → Result NewChange InputFault
read_record bytes = do
  change ← record_from (start_of bytes)
  end ← nothing_behind change.1
  Ok change.0

-- the fault that stands for want of memory
abbrev pub is_memory : InputFault → Bool
is_memory Memory = true
is_memory (BadInput at) = false
is_memory (Limit which) = false
