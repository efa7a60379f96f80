-- Files that are read whole, and the index piece by piece.
use Rattle.std.proofs.Common.{◌≡◌, ℕ, zero, suc, ◌+◌, ◌*◌, ◌/◌, ◌<◌, ◌≤◌, List, [], ◌∷◌, ◌++◌, length, take, drop, Bool, true, false, cond, nat_lt, Option, Some, None, Result, Ok, Err, refl, sym, ◌∙◌, ap, arith, min, append_assoc, append-nil, length-append}
use Rattle.std.specs.Prelude.{unwrap_or}
use Rattle.std.specs.Option.{option_map}
use Rattle.std.proofs.lemmas.Bool.Decides.{nat_tests}
use Rattle.std.proofs.Math.Seq.{drop-nil, take-add}
use Rattle.std.proofs.Math.Nat.{lt-mul-div-succ}
use Rattle.std.proofs.lemmas.List.{take_all, length-take}
use Rattle.hgs_files.specs.Tree.{Tree, bytes_at}
use Rattle.hgs_revlog.specs.declared.fault.RevFault.{RevFault}
use Rattle.hgs_revlog.specs.declared.fault.Tail.TheVariants.{Ignore}
use Rattle.hgs_revlog.specs.Load.{loaded}
use Rattle.hgs_revlog.specs.Log.{Log}
use Rattle.hgs_revlog.specs.Theorems.BehindLemmas.{loaded-count}
use Rattle.hgs_index.specs.declared.kinds.Which.TheVariants.{Part}
use Rattle.hgs_load.specs.declared.answer.ReadAnswer.{ReadAnswer}
use Rattle.hgs_load.specs.declared.answer.ReadAnswer.TheVariants.{Limit}
use Rattle.hgs_load.specs.Asks.{Asks, answer, part_of, at_rest}
use Rattle.hgs_load.specs.Given.{given_at_rest}
use Rattle.hgs_load.specs.Open.{log_of, separate_log_asks}
use Rattle.hgs_load.specs.View.{changelog_index, pieces_by, piece_length, most_pieces, log_answer}
use Rattle.hgs_load.specs.Whole.{within, whole_asks}
use Rattle.hgs_load.specs.Theorems.PartLemmas.{part_is}

-- ---- a file that is read whole

not_above : (most n : ℕ) → n ≤ most → nat_lt most n ≡ false
not_above most n h = grind (arith, nat_tests, h)

pub whole-read : {A : Type 0} (t : Tree) (path : List ℕ) (most : ℕ) (given : Option (List ℕ) → Result A ReadAnswer) → length (bytes_at t path) ≤ most → at_rest t (whole_asks path most given) ≡ given (t path)
whole-read {A = A} t path most given few = by (t path) few
  where
    by : (o : Option (List ℕ)) → length (unwrap_or o []) ≤ most → within most given (option_map (λ bytes. take (suc most) (drop 0 bytes)) o) ≡ given o
    by None h = refl
    by (Some bytes) h =
        let all : take (suc most) bytes ≡ bytes = take_all (suc most) bytes (omega (arith, h)) in
        ap (λ x. within most given (Some x)) all ∙ ap (λ b. cond b (Err (Limit Part)) (given (Some bytes))) (not_above most (length bytes) h)

-- ---- the index, piece by piece

short_piece : (n : ℕ) (rest : List ℕ) → nat_lt (length (take n rest)) n ≡ true → take n rest ≡ rest
short_piece n rest h = let e = length-take n rest in take_all n rest (grind (arith, h, e))

short_rest : (n left : ℕ) (rest : List ℕ) → nat_lt (length (take n rest)) n ≡ true → take (n + left) rest ≡ rest
short_rest n left rest h = let e = length-take n rest in take_all (n + left) rest (grind (arith, h, e))

one_more : (n : ℕ) → piece_length + n * piece_length ≡ suc n * piece_length
one_more n = omega arith

pub long_piece : (n : ℕ) (rest : List ℕ) → nat_lt (length (take n rest)) n ≡ false → length (take n rest) ≡ n
long_piece n rest h = let e = length-take n rest in grind (arith, nat_tests, h, e)

pub drop-drop : (n m : ℕ) (xs : List ℕ) → drop m (drop n xs) ≡ drop (n + m) xs
drop-drop zero m xs = ap (λ k. drop k xs) (omega arith)
drop-drop (suc n) m [] = drop-nil m ∙ sym (drop-nil (suc n + m))
drop-drop (suc n) m (x ∷ xs) = drop-drop n m xs ∙ ap (λ k. drop k (x ∷ xs)) (let e : suc (n + m) ≡ suc n + m = omega arith in e)

-- The pieces of a file from a place on.
module _ (t : Tree) (path : List ℕ) (first : ℕ) (place : List ℕ → ℕ) (at : (b : List ℕ) → place b ≡ first + length b) where
  piece-is : (bytes rest : List ℕ) → drop (place bytes) (bytes_at t path) ≡ rest → unwrap_or (part_of t path (place bytes) piece_length) [] ≡ take piece_length rest
  piece-is bytes rest e = part_is (t path) (place bytes) piece_length ∙ ap (take piece_length) e

  piece-behind : (bytes rest : List ℕ) → drop (place bytes) (bytes_at t path) ≡ rest → length (take piece_length rest) ≡ piece_length → drop (place (bytes ++ take piece_length rest)) (bytes_at t path) ≡ drop piece_length rest
  piece-behind bytes rest e long =
      let here = at bytes in
      let behind = at (bytes ++ take piece_length rest) in
      let both = length-append bytes (take piece_length rest) in
      let next : place (bytes ++ take piece_length rest) ≡ place bytes + piece_length = omega (arith, here, behind, both, long) in
      ap (λ n. drop n (bytes_at t path)) next ∙ sym (drop-drop (place bytes) piece_length (bytes_at t path)) ∙ ap (drop piece_length) e

  -- as many pieces as are left give the bytes of the file from their place on
  pub pieces_front : {A : Type 0} (left : ℕ) (bytes rest : List ℕ) (more : List ℕ → Asks A) → drop (place bytes) (bytes_at t path) ≡ rest → at_rest t (pieces_by path place left bytes more) ≡ at_rest t (more (bytes ++ take (left * piece_length) rest))
  pieces_front zero bytes rest more e = ap (λ l. at_rest t (more l)) (sym (append-nil bytes))
  pieces_front {A} (suc left) bytes rest more e =
      ap (λ p. at_rest t (cond (nat_lt (length p) piece_length) (more (bytes ++ p)) (pieces_by path place left (bytes ++ p) more))) (piece-is bytes rest e)
      ∙ by (nat_lt (length (take piece_length rest)) piece_length) refl (λ long. pieces_front left (bytes ++ take piece_length rest) (drop piece_length rest) more (piece-behind bytes rest e long))
      ∙ ap (λ n. at_rest t (more (bytes ++ take n rest))) (one_more left)
    where
      by : (b : Bool) → nat_lt (length (take piece_length rest)) piece_length ≡ b
          → (length (take piece_length rest) ≡ piece_length → at_rest t (pieces_by path place left (bytes ++ take piece_length rest) more) ≡ at_rest t (more (bytes ++ take piece_length rest ++ take (left * piece_length) (drop piece_length rest))))
          → at_rest t (cond b (more (bytes ++ take piece_length rest)) (pieces_by path place left (bytes ++ take piece_length rest) more)) ≡ at_rest t (more (bytes ++ take (piece_length + left * piece_length) rest))
      by true h on = ap (λ l. at_rest t (more (bytes ++ l))) (short_piece piece_length rest h ∙ sym (short_rest piece_length (left * piece_length) rest h))
      by false h on =
          on (long_piece piece_length rest h)
          ∙ ap (λ l. at_rest t (more l)) (append_assoc bytes (take piece_length rest) (take (left * piece_length) (drop piece_length rest)) ∙ ap (λ l. bytes ++ l) (sym (take-add piece_length (left * piece_length) rest)))

  -- and these bytes are given
  pub pieces_given : {A : Type 0} (left : ℕ) (bytes rest : List ℕ) (more : List ℕ → Asks A) → drop (place bytes) (bytes_at t path) ≡ rest
      → given_at_rest t (pieces_by path place left bytes more) ≡ length (take (left * piece_length) rest) + given_at_rest t (more (bytes ++ take (left * piece_length) rest))
  pieces_given zero bytes rest more e = ap (λ l. given_at_rest t (more l)) (sym (append-nil bytes)) ∙ omega arith
  pieces_given {A} (suc left) bytes rest more e =
      ap (λ p. length p + given_at_rest t (cond (nat_lt (length p) piece_length) (more (bytes ++ p)) (pieces_by path place left (bytes ++ p) more))) (piece-is bytes rest e)
      ∙ by (nat_lt (length (take piece_length rest)) piece_length) refl (λ long. pieces_given left (bytes ++ take piece_length rest) (drop piece_length rest) more (piece-behind bytes rest e long))
      ∙ ap (λ n. length (take n rest) + given_at_rest t (more (bytes ++ take n rest))) (one_more left)
    where
      now : List ℕ
      now = take piece_length rest

      later : List ℕ
      later = take (left * piece_length) (drop piece_length rest)

      by : (b : Bool) → nat_lt (length (take piece_length rest)) piece_length ≡ b
          → (length (take piece_length rest) ≡ piece_length → given_at_rest t (pieces_by path place left (bytes ++ now) more) ≡ length later + given_at_rest t (more (bytes ++ now ++ later)))
          → length now + given_at_rest t (cond b (more (bytes ++ now)) (pieces_by path place left (bytes ++ now) more)) ≡ length (take (piece_length + left * piece_length) rest) + given_at_rest t (more (bytes ++ take (piece_length + left * piece_length) rest))
      by true h on = ap (λ l. length l + given_at_rest t (more (bytes ++ l))) (short_piece piece_length rest h ∙ sym (short_rest piece_length (left * piece_length) rest h))
      by false h on =
          let all = take-add piece_length (left * piece_length) rest in
          let both = length-append now later in
          ap (λ n. length now + n) (on (long_piece piece_length rest h))
          ∙ sums (length now) (length later) (length (now ++ later)) (given_at_rest t (more (bytes ++ now ++ later))) both
          ∙ ap (λ l. length (now ++ later) + given_at_rest t (more l)) (append_assoc bytes now later)
          ∙ ap (λ l. length l + given_at_rest t (more (bytes ++ l))) (sym all)
        where
          sums : (a b c n : ℕ) → c ≡ a + b → a + (b + n) ≡ c + n
          sums a b c n e = omega (arith, e)

pub whole-place : (b : List ℕ) → length b ≡ 0 + length b
whole-place b = omega arith

few_pieces : (n : ℕ) → n / 64 ≤ 1000000 → n ≤ most_pieces * piece_length
few_pieces n h = let e : n < 64 * (n / 64 + 1) = lt-mul-div-succ n (omega arith) in omega (arith, e, h)

-- the front of a separate index that is read
pub index-front : (t : Tree) → at_rest t separate_log_asks ≡ log_of (take (most_pieces * piece_length) (bytes_at t changelog_index))
index-front t = pieces_front t changelog_index 0 length whole-place most_pieces [] (bytes_at t changelog_index) (λ index. answer (log_of index)) refl

-- one of no more entries than a revlog may have is read whole
pub index-read : (t : Tree) → length (bytes_at t changelog_index) / 64 ≤ 1000000 → at_rest t separate_log_asks ≡ log_of (bytes_at t changelog_index)
index-read t few = index-front t ∙ ap log_of (take_all (most_pieces * piece_length) (bytes_at t changelog_index) (few_pieces (length (bytes_at t changelog_index)) few))

pub log-loads : (r : Result Log RevFault) (log : Log) → log_answer changelog_index r ≡ Ok log → r ≡ Ok log
log-loads (Ok x) log h = cc
log-loads (Err f) log h = cc

-- an index that was read and loads was read whole
pub whole-index : (t : Tree) (log : Log) → log_of (take (most_pieces * piece_length) (bytes_at t changelog_index)) ≡ Ok log → (length (bytes_at t changelog_index) < most_pieces * piece_length) × (loaded Ignore (bytes_at t changelog_index) ≡ Ok log)
whole-index t log h =
    let index = bytes_at t changelog_index in
    let loads = log-loads (loaded Ignore (take (most_pieces * piece_length) index)) log h in
    let all = loaded-count (take (most_pieces * piece_length) index) log loads in
    let count = all.0 in
    let few = all.1 in
    let room : length index < most_pieces * piece_length = (let cut = length-take (most_pieces * piece_length) index in room_is (length index) (length (take (most_pieces * piece_length) index)) (length log.entries) cut count few) in
    (room, ap (loaded Ignore) (sym (take_all (most_pieces * piece_length) index (omega (arith, room)))) ∙ loads)
  where
    room_is : (n cut entries : ℕ) → cut ≡ min (most_pieces * piece_length) n → entries ≡ cut / 64 → entries ≤ 1000000 → n < most_pieces * piece_length
    room_is n cut entries c e few = omega (arith, c, e, few)
