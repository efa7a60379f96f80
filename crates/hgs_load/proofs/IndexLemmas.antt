-- The changelog's index over files at rest, in either form.
use Rattle.std.proofs.Common.{◌≡◌, ℕ, zero, suc, ◌*◌, ◌<◌, ◌≤◌, Bool, true, false, cond, ◌&&◌, not, List, [], ◌++◌, length, take, Option, Some, None, Result, Ok, Err, refl, sym, ◌∙◌, ap, subst, arith}
use Rattle.std.specs.Prelude.{nat_lt, unwrap_or}
use Rattle.std.specs.Option.{option_map}
use Rattle.std.proofs.lemmas.Bool.Decides.{nat_tests}
use Rattle.std.proofs.lemmas.List.{take_all, length-take}
use Rattle.hgs_bytes.specs.Bytes.{IsPrefixOf}
use Rattle.hgs_files.specs.declared.op.Op.{Op}
use Rattle.hgs_files.specs.Tree.{Tree, after_all, bytes_at}
use Rattle.hgs_index.specs.declared.kinds.Which.TheVariants.{Part}
use Rattle.hgs_index.specs.Inline.{is_inline, entries_in, without_inline}
use Rattle.hgs_revlog.specs.declared.fault.RevFault.{RevFault}
use Rattle.hgs_revlog.specs.declared.fault.Tail.TheVariants.{Ignore}
use Rattle.hgs_revlog.specs.Load.{in_form, loaded, loaded_either}
use Rattle.hgs_revlog.specs.Log.{Log}
use Rattle.hgs_revlog.specs.Theorems.BehindLemmas.{loaded-count}
use Rattle.hgs_load.specs.declared.answer.ReadAnswer.{ReadAnswer}
use Rattle.hgs_load.specs.declared.answer.ReadAnswer.TheVariants.{Limit}
use Rattle.hgs_load.specs.Asks.{Asks, MayAnswer, answer, part_of, at_rest}
use Rattle.hgs_load.specs.Form.{either_log_of, in_one_read, is_long_apart, most_inline_index, unless_inline}
use Rattle.hgs_load.specs.Given.{given_at_rest}
use Rattle.hgs_load.specs.Open.{log_of}
use Rattle.hgs_load.specs.View.{changelog_index, log_answer, most_pieces, piece_length, pieces_then}
use Rattle.hgs_load.specs.Whole.{is_above, within}
use Rattle.hgs_load.specs.Theorems.FormLemmas.{first_says, given-apart, may-inline, part-form, rest-apart, rest-inline}
use Rattle.hgs_load.specs.Theorems.AskLemmas.{prefix-trans}
use Rattle.hgs_load.specs.Theorems.RestLemmas.{may-front}
use Rattle.hgs_load.specs.Theorems.PartLemmas.{part_is}
use Rattle.hgs_load.proofs.WholeLemmas.{log-loads, pieces_front, whole-place}

-- ---- what is loaded

-- a separate index loads as one in either form does
either-separate : (index : List ℕ) → is_inline index ≡ false → loaded_either Ignore index ≡ loaded Ignore index
either-separate index plain =
    ap (λ b. in_form b (loaded Ignore (cond b (without_inline (entries_in (length index) index)) index))) plain
    ∙ by (loaded Ignore index) (λ log h. (loaded-count index log h).2)
  where
    by : (r : Result Log RevFault) → ((log : Log) → r ≡ Ok log → log.inline ≡ false) → in_form false r ≡ r
    by (Err f) form = refl
    by (Ok log) form = ap (λ b. Ok (record { inline = b; entries = log.entries })) (sym (form log refl))

form-is : (b : Bool) (r : Result Log RevFault) (log : Log) → in_form b r ≡ Ok log → log.inline ≡ b
form-is b (Err f) log h = cc
form-is b (Ok l) log h = ap (λ (x : Log). x.inline) (sym (log_is (record { inline = b; entries = l.entries }) log h))
  where
    log_is : (x y : Log) → (let a : Result Log RevFault = Ok x in a) ≡ Ok y → x ≡ y
    log_is x y e = cc

-- what loads has the form that its index says
either-form : (index : List ℕ) (log : Log) → either_log_of index ≡ Ok log → log.inline ≡ is_inline index
either-form index log h = form-is (is_inline index) _ log (log-loads (loaded_either Ignore index) log h)

-- ---- one read

above-is : (most n : ℕ) → most < n → nat_lt most n ≡ true
above-is most n h = grind arith

not-above : (most n : ℕ) → n ≤ most → nat_lt most n ≡ false
not-above most n h = grind (arith, nat_tests, h)

more-is : (most n : ℕ) → nat_lt most n ≡ true → most < n
more-is most n h = grind arith

few-is : (most n : ℕ) → nat_lt most n ≡ false → n ≤ most
few-is most n h = grind (arith, nat_tests, h)

-- whether a part is longer than its file may be
part-above : (file : Option (List ℕ)) (most : ℕ) → is_above most (option_map (λ bytes. take (suc most) bytes) file) ≡ nat_lt most (length (unwrap_or file []))
part-above None most = sym (not-above most 0 (omega arith))
part-above (Some bytes) most = by (nat_lt most (length bytes)) refl
  where
    by : (b : Bool) → nat_lt most (length bytes) ≡ b → nat_lt most (length (take (suc most) bytes)) ≡ nat_lt most (length bytes)
    by true e =
        let cut = length-take (suc most) bytes in
        let long = more-is most (length bytes) e in
        above-is most (length (take (suc most) bytes)) (omega (arith, cut, long)) ∙ sym e
    by false e = ap (λ l. nat_lt most (length l)) (take_all (suc most) bytes (let few = few-is most (length bytes) e in omega (arith, few)))

-- The index, of which something is made once it loads: so it is read by a load, and by a refresh.
module _ (t : Tree) (test : Result Log ReadAnswer → Result Log ReadAnswer) where
  abbrev index : List ℕ
  index = bytes_at t changelog_index

  abbrev pub in_pieces : Asks (Result Log ReadAnswer)
  in_pieces = pieces_then changelog_index most_pieces [] (λ index. answer (test (log_of index)))

  abbrev pub at_once : Asks (Result Log ReadAnswer)
  at_once = in_one_read in_pieces (λ index. test (either_log_of index))

  abbrev pub in_form_said : Asks (Result Log ReadAnswer)
  in_form_said = unless_inline at_once in_pieces

  abbrev part : Option (List ℕ)
  part = part_of t changelog_index 0 (suc most_inline_index)

  says : first_says t in_pieces ≡ is_inline index
  says = part-form t changelog_index piece_length (omega arith)

  part-says : is_inline (unwrap_or part []) ≡ is_inline index
  part-says = part-form t changelog_index (suc most_inline_index) (omega arith)

  is-above : is_above most_inline_index part ≡ nat_lt most_inline_index (length index)
  is-above = part-above (t changelog_index) most_inline_index

  -- a separate index is read in pieces
  pub apart-rest : is_inline index ≡ false → at_rest t in_form_said ≡ at_rest t in_pieces
  apart-rest plain = rest-apart t at_once in_pieces (says ∙ plain)

  pub apart-given : is_inline index ≡ false → given_at_rest t in_form_said ≡ given_at_rest t in_pieces
  apart-given plain = given-apart t at_once in_pieces (says ∙ plain)

  pub inline-rest : is_inline index ≡ true → at_rest t in_form_said ≡ at_rest t at_once
  inline-rest inline = rest-inline t at_once in_pieces (says ∙ inline)

  pub pieces-rest : at_rest t in_pieces ≡ test (log_of (take (most_pieces * piece_length) index))
  pieces-rest = pieces_front t changelog_index 0 length whole-place most_pieces [] index (λ index. answer (test (log_of index))) refl

  -- what one read gives
  once-by : (long above : Bool) → is_long_apart part ≡ long → is_above most_inline_index part ≡ above → at_rest t at_once ≡ cond long (at_rest t in_pieces) (cond above (Err (Limit Part)) (test (either_log_of (unwrap_or part []))))
  once-by long above l a =
      ap (λ b. at_rest t (cond b in_pieces (answer (within most_inline_index (λ whole. test (either_log_of (unwrap_or whole []))) part)))) l
      ∙ by long
    where
      by : (b : Bool) → at_rest t (cond b in_pieces (answer (within most_inline_index (λ whole. test (either_log_of (unwrap_or whole []))) part))) ≡ cond b (at_rest t in_pieces) (cond above (Err (Limit Part)) (test (either_log_of (unwrap_or part []))))
      by true = refl
      by false = ap (λ b. cond b (Err (Limit Part)) (test (either_log_of (unwrap_or part [])))) a

  -- an index within the limit is read whole
  pub once-whole : length index ≤ most_inline_index → at_rest t at_once ≡ test (either_log_of index)
  once-whole few =
      let above : is_above most_inline_index part ≡ false = is-above ∙ not-above most_inline_index (length index) few in
      once-by false false (ap (λ b. b && not (is_inline (unwrap_or part []))) above) above
      ∙ ap (λ l. test (either_log_of l)) (part_is (t changelog_index) 0 (suc most_inline_index) ∙ take_all (suc most_inline_index) index (omega (arith, few)))

  -- an inline one above it is refused
  pub once-long : is_inline index ≡ true → most_inline_index < length index → at_rest t at_once ≡ Err (Limit Part)
  once-long inline many =
      let above : is_above most_inline_index part ≡ true = is-above ∙ above-is most_inline_index (length index) many in
      once-by false true (ap (λ b. b && not (is_inline (unwrap_or part []))) above ∙ ap not (part-says ∙ inline)) above

  -- a separate one gives what its pieces give
  pub once-apart : is_inline index ≡ false → at_rest t at_once ≡ at_rest t in_pieces
  once-apart plain = by (nat_lt most_inline_index (length index)) refl
    where
      by : (b : Bool) → nat_lt most_inline_index (length index) ≡ b → at_rest t at_once ≡ at_rest t in_pieces
      by true e =
          let above : is_above most_inline_index part ≡ true = is-above ∙ e in
          once-by true true (ap (λ b. b && not (is_inline (unwrap_or part []))) above ∙ ap not (part-says ∙ plain)) above
      by false e =
          let few = few-is most_inline_index (length index) e in
          once-whole few
          ∙ ap (λ r. test (log_answer changelog_index r)) (either-separate index plain)
          ∙ ap (λ l. test (log_of l)) (sym (take_all (most_pieces * piece_length) index (omega (arith, few))))
          ∙ sym pieces-rest

  -- one read gives what the first piece says
  pub once-is : at_rest t at_once ≡ at_rest t in_form_said
  once-is = by (is_inline index) refl
    where
      by : (b : Bool) → is_inline index ≡ b → at_rest t at_once ≡ at_rest t in_form_said
      by true e = sym (inline-rest e)
      by false e = once-apart e ∙ sym (apart-rest e)

  -- what is read has the form of the index
  module _ (passes : (r : Result Log ReadAnswer) (log : Log) → test r ≡ Ok log → r ≡ Ok log) where
    once-form : (log : Log) → is_inline index ≡ true → at_rest t at_once ≡ Ok log → log.inline ≡ true
    once-form log inline h = by (nat_lt most_inline_index (length index)) refl
      where
        no_ok : (e : ReadAnswer) → (let a : Result Log ReadAnswer = Err e in a) ≡ Ok log → log.inline ≡ true
        no_ok e h = cc

        by : (b : Bool) → nat_lt most_inline_index (length index) ≡ b → log.inline ≡ true
        by true e = no_ok (Limit Part) (sym (once-long inline (more-is most_inline_index (length index) e)) ∙ h)
        by false e = either-form index log (passes (either_log_of index) log (sym (once-whole (few-is most_inline_index (length index) e)) ∙ h)) ∙ inline

    pieces-form : (log : Log) → at_rest t in_pieces ≡ Ok log → log.inline ≡ false
    pieces-form log h =
        let front = take (most_pieces * piece_length) index in
        (loaded-count front log (log-loads (loaded Ignore front) log (passes (log_of front) log (sym pieces-rest ∙ h)))).2

    pub said-form : (log : Log) → at_rest t in_form_said ≡ Ok log → log.inline ≡ is_inline index
    said-form log h = by (is_inline index) refl
      where
        by : (b : Bool) → is_inline index ≡ b → log.inline ≡ is_inline index
        by true e = once-form log e (sym (inline-rest e) ∙ h) ∙ sym e
        by false e = pieces-form log (sym (apart-rest e) ∙ h) ∙ sym e

-- ---- what is made of an index is made of its history

-- in pieces
pub through : {A B : Type 0} (t : Tree) (path : List ℕ) (left : ℕ) (bytes : List ℕ) (first : List ℕ → A) (then : A → B) → at_rest t (pieces_then path left bytes (λ index. answer (then (first index)))) ≡ then (at_rest t (pieces_then path left bytes (λ index. answer (first index))))
through t path zero bytes first then = refl
through t path (suc left) bytes first then = by (nat_lt (length piece) piece_length) (through t path left (bytes ++ piece) first then)
  where
    piece : List ℕ
    piece = unwrap_or (part_of t path (length bytes) piece_length) []

    by : (b : Bool) → at_rest t (pieces_then path left (bytes ++ piece) (λ index. answer (then (first index)))) ≡ then (at_rest t (pieces_then path left (bytes ++ piece) (λ index. answer (first index))))
        → at_rest t (cond b (answer (then (first (bytes ++ piece)))) (pieces_then path left (bytes ++ piece) (λ index. answer (then (first index)))))
        ≡ then (at_rest t (cond b (answer (first (bytes ++ piece))) (pieces_then path left (bytes ++ piece) (λ index. answer (first index)))))
    by true more = refl
    by false more = more

-- and as the first piece says
pub said-through : (t : Tree) (test : Result Log ReadAnswer → Result Log ReadAnswer) → ((e : ReadAnswer) → test (Err e) ≡ Err e) → at_rest t (in_form_said t test) ≡ test (at_rest t (in_form_said t (λ r. r)))
said-through t test strict = by (is_inline (bytes_at t changelog_index)) refl
  where
    once : (b : Bool) → nat_lt most_inline_index (length (bytes_at t changelog_index)) ≡ b → is_inline (bytes_at t changelog_index) ≡ true → at_rest t (at_once t test) ≡ test (at_rest t (at_once t (λ r. r)))
    once true e inline =
        let many = more-is most_inline_index (length (bytes_at t changelog_index)) e in
        once-long t test inline many ∙ sym (strict (Limit Part)) ∙ ap test (sym (once-long t (λ r. r) inline many))
    once false e inline =
        let few = few-is most_inline_index (length (bytes_at t changelog_index)) e in
        once-whole t test few ∙ ap test (sym (once-whole t (λ r. r) few))

    by : (b : Bool) → is_inline (bytes_at t changelog_index) ≡ b → at_rest t (in_form_said t test) ≡ test (at_rest t (in_form_said t (λ r. r)))
    by true e = inline-rest t test e ∙ once (nat_lt most_inline_index (length (bytes_at t changelog_index))) refl e ∙ ap test (sym (inline-rest t (λ r. r) e))
    by false e = apart-rest t test e ∙ through t changelog_index most_pieces [] log_of test ∙ ap test (sym (apart-rest t (λ r. r) e))

-- ---- the moments of a load

-- an inline index at each moment
abbrev pub StaysInline : Tree → List Op → List Op → Type 0
StaysInline start from last = (now : List Op) → IsPrefixOf from now → IsPrefixOf now last → is_inline (bytes_at (after_all now start) changelog_index) ≡ true

-- one read is that of one moment
pub once-moment : (start : Tree) (from last : List Op) (test : Result Log ReadAnswer → Result Log ReadAnswer) (t : Tree) (y : Result Log ReadAnswer) → StaysInline start from last → MayAnswer start from (at_once t test) last y
    → (now : List Op) × IsPrefixOf from now × IsPrefixOf now last × (y ≡ at_rest (after_all now start) (at_once t test))
once-moment start from last test t y inline m =
    let now = after_all m.0 start in
    let part = part_of now changelog_index 0 (suc most_inline_index) in
    let given = answer (within most_inline_index (λ whole. test (either_log_of (unwrap_or whole []))) part) in
    let goes = may-front (cond (is_long_apart part) (in_pieces t test) given) start m.0 last y m.2 in
    let long : is_long_apart part ≡ false = ap (λ b. is_above most_inline_index part && not b) (part-form now changelog_index (suc most_inline_index) (omega arith) ∙ inline m.0 m.1 goes) ∙ none (is_above most_inline_index part) in
    let ended : IsPrefixOf m.0 last × (y ≡ within most_inline_index (λ whole. test (either_log_of (unwrap_or whole []))) part) = subst (λ b. MayAnswer start m.0 (cond b (in_pieces t test) given) last y) long m.2 in
    (m.0, m.1, ended.0, ended.1 ∙ sym (ap (λ b. at_rest now (cond b (in_pieces t test) given)) long))
  where
    none : (b : Bool) → (b && false) ≡ false
    none true = refl
    none false = refl

-- so is a load whose first piece says that the index is inline
pub said-moment : (start : Tree) (from last : List Op) (test : Result Log ReadAnswer → Result Log ReadAnswer) (t : Tree) (y : Result Log ReadAnswer) → StaysInline start from last → MayAnswer start from (in_form_said t test) last y
    → (now : List Op) × IsPrefixOf from now × IsPrefixOf now last × (y ≡ at_rest (after_all now start) (in_form_said t test))
said-moment start from last test t y inline m =
    let a = may-inline start from last (at_once t test) (in_pieces t test) y (λ now f g. part-form (after_all now start) changelog_index piece_length (omega arith) ∙ inline now f g) m in
    let b = once-moment start a.0 last test t y (λ now f g. inline now (prefix-trans from a.0 now a.1 f) g) a.2 in
    let begun = prefix-trans from a.0 b.0 a.1 b.1 in
    (b.0, begun, b.2, b.3 ∙ sym (inline-rest (after_all b.0 start) test (inline b.0 begun b.2)))
