-- What is read as an import of a front of an input: the same as of the whole, or that it is cut.
use Rattle.std.proofs.Common.{◌≡◌, ℕ, zero, suc, ◌+◌, ◌-◌, ◌<◌, ◌≤◌, Bool, true, false, ◌&&◌, List, [], ◌∷◌, ◌++◌, length, take, Option, Some, None, Ok, Err, refl, sym, ◌∙◌, ap, inl, arith, length-append}
use Rattle.std.specs.Prelude.{◌==◌, not, nat_le, nat_lt, if◌then◌else◌}
use Rattle.std.proofs.lemmas.Bool.{le-leb, leb-false, leb-true}
use Rattle.hgs_bytes.specs.Bytes.{same}
use Rattle.hgs_index.specs.declared.kinds.Which.TheVariants.{FileText, Record, Tree}
use Rattle.hgs_model.specs.declared.command.NewChange.{NewChange}
use Rattle.hgs_input.specs.Front.{Alike, left}
use Rattle.hgs_input.specs.Import.{end_line, import_from, most_records, next_record, read_import, record_at, records_from}
use Rattle.hgs_input.specs.Read.{◌>>=◌, bad_at, looked_at, more, next_line, nothing_behind, place, record_from}
use Rattle.hgs_input.specs.Record.{most_input}
use Rattle.hgs_input.specs.declared.fault.InputFault.{InputFault}
use Rattle.hgs_input.specs.declared.fault.InputFault.TheVariants.{BadInput, Limit}
use Rattle.hgs_input.proofs.FoundLemmas.{bound}
use Rattle.hgs_input.proofs.FrontLemmas.{IsBefore, alike_fault, alike_read, bad_is, bind_alike, bind_cut, bind_stay, line_alike, not_at_end, nothing_stays, other_limit, place_alike, record_alike, then_err}
use Rattle.hgs_input.proofs.ImportLemmas.{alone_behind, import_found, record_at_end, record_fewer}
use Rattle.hgs_input.proofs.ReadLemmas.{nil_from_length}
use Rattle.hgs_input.proofs.WholeLemmas.{looked-front, looked-on, looked-whole}

next_alike : (count w : ℕ) (tail bytes : List ℕ) → Alike w tail (next_record count (left w bytes)) (next_record count (left (w + length tail) (bytes ++ tail)))
next_alike count w tail bytes =
    let r = left w bytes in
    let s = left (w + length tail) (bytes ++ tail) in
    bind_alike w tail (next_line r) (next_line s) (λ l. record_at count r l.0 l.1) (λ l. record_at count s l.0 l.1) (line_alike w tail bytes) (λ x rest e. by (same x end_line && not (count == 0)) (nat_lt count most_records) rest)
  where
    by : (s t : Bool) (rest : List ℕ) →
        Alike {A = Option NewChange} w tail (if s then Ok (None, left w rest) else if t then (record_from (left w bytes) >>= λ c. Ok (Some c.0, c.1)) else Err (bad_at (place (left w bytes))))
        (if s then Ok (None, left (w + length tail) (rest ++ tail)) else if t then (record_from (left (w + length tail) (bytes ++ tail)) >>= λ c. Ok (Some c.0, c.1)) else Err (bad_at (place (left (w + length tail) (bytes ++ tail)))))
    by true t rest = alike_read w tail rest None
    by false true rest =
        bind_alike w tail (record_from (left w bytes)) (record_from (left (w + length tail) (bytes ++ tail))) (λ c. Ok (Some c.0, c.1)) (λ c. Ok (Some c.0, c.1)) (record_alike w tail bytes) (λ c last e. alike_read w tail last (Some c))
    by false false rest = alike_fault w tail (bad_at (place (left w bytes))) (bad_at (place (left (w + length tail) (bytes ++ tail)))) (ap bad_at (place_alike w tail bytes))

records_alike : (n m : ℕ) (changes : List NewChange) (w : ℕ) (tail bytes : List ℕ) → length bytes ≤ n → length (bytes ++ tail) ≤ m → Alike w tail (records_from n changes (left w bytes)) (records_from m changes (left (w + length tail) (bytes ++ tail)))
records_alike zero m changes w tail bytes a b = inl refl
records_alike (suc n) zero changes w tail bytes a b =
    let size = length-append bytes tail in
    let none : bytes ≡ [] = nil_from_length bytes (omega (arith, size, b)) in
    inl (ap (λ x. x >>= λ c. more changes c.0 c.1 (λ all rest. records_from n all rest)) (record_at_end (length changes) (left w bytes) none))
records_alike (suc n) (suc m) changes w tail bytes a b =
    bind_alike w tail (next_record (length changes) (left w bytes)) (next_record (length changes) (left (w + length tail) (bytes ++ tail))) (λ c. more changes c.0 c.1 (λ all rest. records_from n all rest)) (λ c. more changes c.0 c.1 (λ all rest. records_from m all rest))
    (next_alike (length changes) w tail bytes) (λ o rest e. by o rest e (λ c. records_alike n m (changes ++ c ∷ []) w tail rest))
  where
    by : (o : Option NewChange) (rest : List ℕ) → next_record (length changes) (left w bytes) ≡ Ok (o, left w rest) →
        ((c : NewChange) → length rest ≤ n → length (rest ++ tail) ≤ m → Alike w tail (records_from n (changes ++ c ∷ []) (left w rest)) (records_from m (changes ++ c ∷ []) (left (w + length tail) (rest ++ tail)))) →
        Alike w tail (more changes o (left w rest) (λ all rest. records_from n all rest)) (more changes o (left (w + length tail) (rest ++ tail)) (λ all rest. records_from m all rest))
    by None rest e k = alike_read w tail rest changes
    by (Some c) rest e k =
        let fewer = record_fewer (length changes) (left w bytes) (left w rest) c e in
        let x = length-append bytes tail in
        let y = length-append rest tail in
        k c (omega (arith, fewer, a)) (omega (arith, fewer, b, x, y))

pub import_alike : (w : ℕ) (tail bytes : List ℕ) → Alike w tail (import_from (left w bytes)) (import_from (left (w + length tail) (bytes ++ tail)))
import_alike w tail bytes = records_alike (length bytes) (length (bytes ++ tail)) [] w tail bytes (omega arith) (omega arith)

-- an input is read as what is looked at of it
read-all : (bytes all : List ℕ) → looked_at bytes ≡ all → read_import bytes ≡ (import_from (left (length all) all) >>= alone_behind)
read-all bytes all e = ap (λ b. import_from (left (length b) b) >>= alone_behind) e

pub import_cut : (front more : List ℕ) (b : ℕ) (changes : List NewChange) → read_import (front ++ b ∷ more) ≡ Ok changes → read_import front ≡ Err (BadInput (length front))
import_cut front more b changes e =
    let tail = b ∷ more in
    let w = length front in
    let size = length-append front tail in
    let room = (import_found (front ++ tail) changes e).size in
    let all : looked_at (front ++ tail) ≡ front ++ tail = looked-whole (front ++ tail) (omega (arith, room)) in
    let whole : (import_from (left (w + length tail) (front ++ tail)) >>= alone_behind) ≡ Ok changes = ap (λ n. import_from (left n (front ++ tail)) >>= alone_behind) (sym size) ∙ sym (read-all (front ++ tail) (front ++ tail) all) ∙ e in
    read-all front front (looked-whole front (omega (arith, room, size)))
    ∙ bind_cut w tail (import_from (left w front)) (import_from (left (w + length tail) (front ++ tail))) alone_behind alone_behind changes (import_alike w tail front) whole
    (λ x rest k. let last = bound (nothing_behind (left (w + length tail) (rest ++ tail))) (λ _. Ok x) changes k in absurd (not_at_end (w + length tail) b more rest last.is))
    ∙ ap (λ t. Err (if t then BadInput w else Limit Record)) (le-leb w most_input (omega (arith, room, size)))

-- ---- what stands behind a fault

pub import_decided : (front more : List ℕ) → most_input < length front → read_import (front ++ more) ≡ read_import front
import_decided front more long = ap (λ b. import_from (left (length b) b) >>= alone_behind) (looked-front front more (omega (arith, long)))

stays : (front more : List ℕ) (e : InputFault) → IsBefore (length front) e → read_import front ≡ Err e → read_import (front ++ more) ≡ Err e
stays front more e other is = by (nat_le (length front) most_input) refl
  where
    by : (b : Bool) → nat_le (length front) most_input ≡ b → read_import (front ++ more) ≡ Err e
    by true h =
        let w = length front in
        let room = leb-true w most_input h in
        let rest = take (most_input + 1 - w) more in
        read-all (front ++ more) (front ++ rest) (looked-on front more (omega (arith, room)))
        ∙ ap (λ n. import_from (left n (front ++ rest)) >>= alone_behind) (length-append front rest)
        ∙ bind_stay w rest (import_from (left w front)) (import_from (left (w + length rest) (front ++ rest))) alone_behind alone_behind e (import_alike w rest front) other (sym (read-all front front (looked-whole front (omega (arith, room)))) ∙ is)
        (λ x last k. ap (λ z. z >>= λ _. Ok x) (nothing_stays w e rest last other (then_err (nothing_behind (left w last)) (λ _. x) e k)))
    by false h = import_decided front more (leb-false (length front) most_input h) ∙ is

pub import_fault_stays : (front more : List ℕ) (at : ℕ) → at < length front → read_import front ≡ Err (BadInput at) → read_import (front ++ more) ≡ Err (BadInput at)
import_fault_stays front more at lt is = stays front more (BadInput at) (record { cut = λ h. (let same_place = bad_is (length front) at h in absurd (omega (arith, same_place, lt))); long = no }) is
  where
    no : ◌≡◌ {A = InputFault} (Limit Record) (BadInput at) → ⊥
    no h = cc

pub import_body_stays : (front more : List ℕ) → read_import front ≡ Err (Limit FileText) → read_import (front ++ more) ≡ Err (Limit FileText)
import_body_stays front more is = stays front more (Limit FileText) (other_limit (length front) FileText no) is
  where
    no : ◌≡◌ {A = InputFault} (Limit Record) (Limit FileText) → ⊥
    no h = cc

pub import_files_stay : (front more : List ℕ) → read_import front ≡ Err (Limit Tree) → read_import (front ++ more) ≡ Err (Limit Tree)
import_files_stay front more is = stays front more (Limit Tree) (other_limit (length front) Tree no) is
  where
    no : ◌≡◌ {A = InputFault} (Limit Record) (Limit Tree) → ⊥
    no h = cc
