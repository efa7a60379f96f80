-- What a text is read as: its tokens, one byte after another, and the machine that takes them.
use Rattle.std.specs.Prelude.{ℕ, ◌+◌, nat_le, ◌==◌, Bool, not, ◌&&◌, ◌||◌, List, [], ◌∷◌, ◌++◌, length, min, Result, Ok, Err, if◌then◌else◌, codes}
use Rattle.hgs_bytes.specs.Bytes.{same}
use Rattle.hgs_revset.specs.declared.fault.SetFault.{SetFault}
use Rattle.hgs_revset.specs.declared.fault.SetFault.TheVariants.{Bad, Memory}
use Rattle.hgs_revset.specs.declared.step.Step.{Step}
use Rattle.hgs_revset.specs.declared.step.Call.TheVariants.{Group}
use Rattle.hgs_revset.specs.declared.read.Mode.{Mode}
use Rattle.hgs_revset.specs.declared.read.Mode.TheVariants.{Between, Word, Colon, Quote}
use Rattle.hgs_revset.specs.Members.{Set}
use Rattle.hgs_revset.specs.Postfix.{set_of}
use Rattle.hgs_revset.specs.Grammar.{Parse, is_name_byte, start, take_and, take_call, take_close, take_end, take_name, take_not, take_open, take_or, take_range, wants_name}

-- the bytes of the word or the quoted name that is being read, whose place the mode has
pub record Reading : Type 0 where
  pub parse : Parse
  pub mode : Mode
  pub word : List ℕ

abbrev pub onward : {A B : Type 0} → Result A SetFault → (A → Result B SetFault) → Result B SetFault
onward (Err f) g = Err f
onward (Ok x) g = g x

abbrev pub at_mode : Mode → List ℕ → Parse → Reading
at_mode mode word p = record { parse = p; mode = mode; word = word }

abbrev pub between : Result Parse SetFault → Result Reading SetFault
between (Err f) = Err f
between (Ok p) = Ok (at_mode Between [] p)

abbrev pub is_operator : List ℕ → Bool
is_operator word = same word (codes "and") || same word (codes "or") || same word (codes "not")

-- a word that is no function's
abbrev pub take_word : ℕ → List ℕ → Parse → Result Parse SetFault
take_word from word p =
    if same word (codes "and") then take_and from p
    else if same word (codes "or") then take_or from p
    else if same word (codes "not") then take_not from p
    else take_name from word p

-- a byte behind a whole token
abbrev pub take_first : ℕ → ℕ → Parse → Result Reading SetFault
take_first place b p =
    if b == 32 then Ok (at_mode Between [] p)
    else if b == 40 then between (take_open place Group p)
    else if b == 41 then between (take_close place p)
    else if b == 58 then Ok (at_mode (Colon place) [] p)
    else if b == 34 then (if wants_name p.level.at then Ok (at_mode (Quote place) [] p) else Err (Bad place))
    else if is_name_byte b then Ok (at_mode (Word place) (b ∷ []) p)
    else Err (Bad place)

-- a byte behind a word: a `(` makes it a function's, unless it is an operator
abbrev pub take_behind : ℕ → ℕ → ℕ → List ℕ → Parse → Result Reading SetFault
take_behind from place b word p =
    if b == 40 && not (is_operator word) then between (take_call from place word p)
    else onward (take_word from word p) (take_first place b)

-- a byte behind some of a word
abbrev pub take_more : ℕ → ℕ → ℕ → List ℕ → Parse → Result Reading SetFault
take_more from place b word p = if is_name_byte b then Ok (at_mode (Word from) (word ++ b ∷ []) p) else take_behind from place b word p

-- a byte behind the first `:`
abbrev pub take_colon : ℕ → ℕ → Parse → Result Reading SetFault
take_colon from b p = if b == 58 then between (take_range from p) else Err (Bad from)

-- a byte behind an open quote
abbrev pub take_quoted : ℕ → ℕ → List ℕ → Parse → Result Reading SetFault
take_quoted from b word p = if b == 34 then between (take_name from word p) else Ok (at_mode (Quote from) (word ++ b ∷ []) p)

abbrev pub take_byte_at : Mode → ℕ → ℕ → List ℕ → Parse → Result Reading SetFault
take_byte_at Between place b word p = take_first place b p
take_byte_at (Word from) place b word p = take_more from place b word p
take_byte_at (Colon from) place b word p = take_colon from b p
take_byte_at (Quote from) place b word p = take_quoted from b word p

abbrev pub take_byte : ℕ → ℕ → Reading → Result Reading SetFault
take_byte place b r = take_byte_at r.mode place b r.word r.parse

-- bytes from a place on
abbrev pub take_bytes : ℕ → List ℕ → Reading → Result Reading SetFault
take_bytes place [] r = Ok r
take_bytes place (b ∷ bytes) r = onward (take_byte place b r) (take_bytes (place + 1) bytes)

abbrev pub finish_at : Mode → ℕ → List ℕ → Parse → Result (List Step) SetFault
finish_at Between place word p = take_end place p
finish_at (Word from) place word p = onward (take_word from word p) (take_end place)
finish_at (Colon from) place word p = Err (Bad from)
finish_at (Quote from) place word p = Err (Bad place)

abbrev pub finish : ℕ → Reading → Result (List Step) SetFault
finish place r = finish_at r.mode place r.word r.parse

abbrev pub steps_of_text : List ℕ → Result (List Step) SetFault
steps_of_text text = onward (take_bytes 0 text (at_mode Between [] start)) (finish (length text))

-- more bytes are refused where they begin, unless a token before them is
abbrev pub longest : ℕ
longest = 4096

abbrev pub limited : ℕ → Result (List Step) SetFault → Result (List Step) SetFault
limited count (Ok steps) = if nat_le count longest then Ok steps else Err (Bad longest)
limited count (Err (Bad place)) = Err (Bad (min place longest))
limited count (Err Memory) = Err Memory

-- the steps of a text, or the place of the first token that does not fit
abbrev pub read_steps : List ℕ → Result (List Step) SetFault
read_steps text = limited (length text) (steps_of_text text)

abbrev pub set_from : Result (List Step) SetFault → Result Set SetFault
set_from (Ok steps) = Ok (set_of steps)
set_from (Err fault) = Err fault

-- the set of a text, or the place of the first token that does not fit
abbrev pub read_set : List ℕ → Result Set SetFault
read_set text = set_from (read_steps text)
