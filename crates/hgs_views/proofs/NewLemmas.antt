-- How many bytes a refresh is given while writers are at work.
use Rattle.std.proofs.Common.{◌≡◌, inl, inr, ℕ, zero, suc, ◌+◌, ◌-◌, ◌*◌, ◌/◌, ◌≤◌, min, Bool, true, false, cond, ◌&&◌, List, [], ◌++◌, length, take, drop, Option, Some, None, Result, Ok, Err, refl, sym, ◌∙◌, ap, subst, arith, append-nil, length-append}
use Rattle.std.specs.Prelude.{nat_le, nat_lt, slice_get, unwrap_or}
use Rattle.std.proofs.lemmas.List.{length-take, length-drop}
use Rattle.hgs_bytes.specs.Bytes.{IsPrefixOf}
use Rattle.hgs_files.specs.declared.op.Op.{Op}
use Rattle.hgs_files.specs.Reads.{Grows}
use Rattle.hgs_files.specs.Tree.{Tree, bytes_at, after_all}
use Rattle.hgs_load.specs.declared.answer.ReadAnswer.{ReadAnswer}
use Rattle.hgs_load.specs.Asks.{Asks, answer, read, part_of, then_asks, MayAnswer}
use Rattle.hgs_load.specs.Given.{GoesTo, IsAnswer, size_of}
use Rattle.hgs_index.specs.declared.entry.Entry.{Entry}
use Rattle.hgs_index.specs.Inline.{is_inline}
use Rattle.hgs_revlog.specs.declared.fault.RevFault.{RevFault}
use Rattle.hgs_revlog.specs.declared.fault.Tail.TheVariants.{Ignore}
use Rattle.hgs_revlog.specs.Load.{load_from, loaded, separate_at}
use Rattle.hgs_revlog.specs.Log.{Log}
use Rattle.hgs_revlog.specs.Theorems.BehindLemmas.{load-grows, loaded-count}
use Rattle.hgs_load.specs.Open.{log_of}
use Rattle.hgs_load.specs.Refresh.{behind_asks, behind_last, first_changed, is_this, log_after, log_on, separate_whole_asks, unless_changed, whole_log_asks}
use Rattle.hgs_load.specs.View.{changelog_index, log_answer, most_pieces, pieces_by, piece_length}
use Rattle.hgs_load.specs.Whole.{whole_asks, within}
use Rattle.hgs_load.specs.Form.{unless_inline}
use Rattle.hgs_load.specs.Theorems.FormLemmas.{IsApart}
use Rattle.hgs_views.proofs.Basics.{part_is, prefix-refl, prefix-trans}

abbrev answer_of : {A : Type 0} → Asks A → Option A
answer_of (answer x) = Some x
answer_of (read path from most rest) = None

pub answer-is : {A : Type 0} (x y : A) → (let q : Asks A = answer x in q) ≡ answer y → x ≡ y
answer-is {A} x y h = some_is (ap answer_of h)
  where
    some_is : Some x ≡ Some y → x ≡ y
    some_is e = cc

no-read : {A : Type 0} (x : A) (path : List ℕ) (from most : ℕ) (rest : Option (List ℕ) → Asks A) → (let q : Asks A = answer x in q) ≡ read path from most rest → ⊥
no-read x path from most rest h = none (ap answer_of h)
  where
    none : Some x ≡ None → ⊥
    none e = cc

no-ok : {A : Type 0} (x : A) (e : ReadAnswer) → (let a : Result A ReadAnswer = Ok x in a) ≡ Err e → ⊥
no-ok x e h = cc

-- what is told goes on
grown : (k l : List Op) → Grows (Some k) (Some l) → IsPrefixOf k l
grown k l g = (g.0, inside l (k ++ g.0) g.1)
  where
    inside : (a b : List Op) → Some a ≡ Some b → a ≡ b
    inside a b e = cc

untold : (k : List Op) → Grows (Some k) None → ⊥
untold k g = none (k ++ g.0) g.1
  where
    none : (l : List Op) → None ≡ Some l → ⊥
    none l e = cc

-- A read was answered at this list, and the rest behind it.
record OneRead {A : Type 0} (start : Tree) (k l : List Op) (path : List ℕ) (from most : ℕ) (rest : Option (List ℕ) → Asks A) (n : ℕ) (y : A) : Type 0 where
  pub log : List Op
  pub more : ℕ
  pub begins : IsPrefixOf k log
  pub sum : n ≡ size_of (part_of (after_all log start) path from most) + more
  pub goes_on : GoesTo start (Some log) (rest (part_of (after_all log start) path from most)) more (Some l) (answer y)

one-read : {A : Type 0} (start : Tree) (k l : List Op) (path : List ℕ) (from most : ℕ) (rest : Option (List ℕ) → Asks A) (n : ℕ) (y : A) → GoesTo start (Some k) (read path from most rest) n (Some l) (answer y) → OneRead start k l path from most rest n y
one-read start k l path from most rest n y (inl h) = absurd (no-read y path from most rest h.2)
one-read {A} start k l path from most rest n y (inr h) = by h.0 h.3 h.4 h.6
  where
    by : (seen : Option (List Op)) → Grows (Some k) seen → IsAnswer seen start path from most h.1 → GoesTo start seen (rest h.1) h.2 (Some l) (answer y) → OneRead start k l path from most rest n y
    by None g a m = absurd (untold k g)
    by (Some log) g a m = record {
      log = log;
      more = h.2;
      begins = grown k log g;
      sum = h.5 ∙ ap (λ part. size_of part + h.2) a.1;
      goes_on = subst (λ part. GoesTo start (Some log) (rest part) h.2 (Some l) (answer y)) a.1 m;
    }

-- The first question was answered, and then the next one.
pub record BothAsked {A B : Type 0} (start : Tree) (k l : List Op) (q : Asks (Result A ReadAnswer)) (more : A → Asks (Result B ReadAnswer)) (n : ℕ) (y : B) : Type 0 where
  pub value : A
  pub log : List Op
  pub first : ℕ
  pub second : ℕ
  pub sum : n ≡ first + second
  pub to_first : GoesTo start (Some k) q first (Some log) (answer (Ok value))
  pub to_second : GoesTo start (Some log) (more value) second (Some l) (answer (Ok y))

pub both-asked : {A B : Type 0} (start : Tree) (k l : List Op) (q : Asks (Result A ReadAnswer)) (more : A → Asks (Result B ReadAnswer)) (n : ℕ) (y : B) → GoesTo start (Some k) (then_asks q more) n (Some l) (answer (Ok y)) → BothAsked start k l q more n y
both-asked start k l (answer (Ok x)) more n y h = record { value = x; log = k; first = 0; second = n; sum = omega arith; to_first = (([], ap (λ a. Some a) (sym (append-nil k))), refl, refl); to_second = h }
both-asked start k l (answer (Err e)) more n y h = absurd (no-ok y e (answer-is (Ok y) (Err e) h.2))
both-asked {A} {B} start k l (read path from most rest) more n y (inl h) = absurd (no-read (Ok y) path from most (λ part. then_asks (rest part) more) h.2)
both-asked {A} {B} start k l (read path from most rest) more n y (inr h) = by h.0 h.3 h.6 h.4 (λ log m. both-asked start log l (rest h.1) more h.2 y m)
  where
    by : (seen : Option (List Op)) → Grows (Some k) seen → GoesTo start seen (then_asks (rest h.1) more) h.2 (Some l) (answer (Ok y)) → IsAnswer seen start path from most h.1
        → ((log : List Op) → GoesTo start (Some log) (then_asks (rest h.1) more) h.2 (Some l) (answer (Ok y)) → BothAsked start log l (rest h.1) more h.2 y) → BothAsked start k l (read path from most rest) more n y
    by None g m a next = absurd (untold k g)
    by (Some log) g m a next =
        let r = next log m in
        let sum = h.5 in
        let on = r.sum in
        record { value = r.value; log = r.log; first = size_of h.1 + r.first; second = r.second; sum = omega (arith, sum, on); to_first = inr (Some log, h.1, r.first, g, a, refl, r.to_first); to_second = r.to_second }

-- a file that was read whole had no fewer bytes at that moment than were given
pub whole-few : {A : Type 0} (start : Tree) (k l : List Op) (path : List ℕ) (most : ℕ) (given : Option (List ℕ) → Result A ReadAnswer) (n : ℕ) (y : Result A ReadAnswer) → GoesTo start (Some k) (whole_asks path most given) n (Some l) (answer y)
    → (log : List Op) × IsPrefixOf k log × IsPrefixOf log l × (n ≤ length (bytes_at (after_all log start) path))
whole-few start k l path most given n y h =
    let r = one-read start k l path 0 (suc most) (λ part. answer (within most given part)) n y h in
    let file = bytes_at (after_all r.log start) path in
    let size = ap length (part_is (after_all r.log start path) 0 (suc most)) in
    let cut = length-take (suc most) file in
    (r.log, r.begins, grown r.log l r.goes_on.0, least n (size_of (part_of (after_all r.log start) path 0 (suc most))) r.more (length (take (suc most) file)) (suc most) (length file) r.sum r.goes_on.1 size cut)
  where
    least : (n a m b c d : ℕ) → n ≡ a + m → m ≡ 0 → a ≡ b → b ≡ min c d → n ≤ d
    least n a m b c d e z f g = omega (arith, e, z, f, g)

-- what is read in pieces, and nothing more
abbrev pub all_bytes : List ℕ → Asks (Result (List ℕ) ReadAnswer)
all_bytes b = answer (Ok b)

-- The pieces of a file were read, and what is asked behind them.
pub record PiecesAsked {A : Type 0} (start : Tree) (k l : List Op) (path : List ℕ) (place : List ℕ → ℕ) (left : ℕ) (bytes : List ℕ) (f : List ℕ → Asks (Result A ReadAnswer)) (n : ℕ) (y : A) : Type 0 where
  pub log : List Op
  pub all : List ℕ
  pub own : ℕ
  pub rest : ℕ
  pub sum : n ≡ own + rest
  pub size : length all ≡ length bytes + own
  pub goes_on : GoesTo start (Some log) (f all) rest (Some l) (answer (Ok y))
  pub may : MayAnswer start k (pieces_by path place left bytes all_bytes) log (Ok all)

-- one piece more
module _ {A : Type 0} (start : Tree) (k l log : List Op) (path : List ℕ) (place : List ℕ → ℕ) (left : ℕ) (bytes : List ℕ) (f : List ℕ → Asks (Result A ReadAnswer)) (n more : ℕ) (y : A) (begins : IsPrefixOf k log) where
  abbrev piece : List ℕ
  piece = unwrap_or (part_of (after_all log start) path (place bytes) piece_length) []

  abbrev is_last : Bool
  is_last = nat_lt (length piece) piece_length

  abbrev MayGo : List Op → List ℕ → Bool → Type 0
  MayGo m all b = MayAnswer start log (cond b (all_bytes (bytes ++ piece)) (pieces_by path place left (bytes ++ piece) all_bytes)) m (Ok all)

  piece-asked : (b : Bool) → is_last ≡ b → n ≡ length piece + more → GoesTo start (Some log) (cond b (f (bytes ++ piece)) (pieces_by path place left (bytes ++ piece) f)) more (Some l) (answer (Ok y))
      → (GoesTo start (Some log) (pieces_by path place left (bytes ++ piece) f) more (Some l) (answer (Ok y)) → PiecesAsked start log l path place left (bytes ++ piece) f more y)
      → PiecesAsked start k l path place (suc left) bytes f n y
  piece-asked true is sum m next =
      let both = length-append bytes piece in
      record { log = log; all = bytes ++ piece; own = length piece; rest = more; sum = sum; size = both; goes_on = m; may = (log, begins, subst (MayGo log (bytes ++ piece)) (sym is) (prefix-refl log, refl)) }
  piece-asked false is sum m next =
      let r = next m in
      let both = length-append bytes piece in
      let on = r.sum in
      let size = r.size in
      record { log = r.log; all = r.all; own = length piece + r.own; rest = r.rest; sum = omega (arith, sum, on); size = omega (arith, size, both); goes_on = r.goes_on; may = (log, begins, subst (MayGo r.log r.all) (sym is) r.may) }

pub pieces-asked : {A : Type 0} (start : Tree) (k l : List Op) (path : List ℕ) (place : List ℕ → ℕ) (left : ℕ) (bytes : List ℕ) (f : List ℕ → Asks (Result A ReadAnswer)) (n : ℕ) (y : A) → GoesTo start (Some k) (pieces_by path place left bytes f) n (Some l) (answer (Ok y)) → PiecesAsked start k l path place left bytes f n y
pieces-asked start k l path place zero bytes f n y h = record { log = k; all = bytes; own = 0; rest = n; sum = omega arith; size = omega arith; goes_on = h; may = (prefix-refl k, refl) }
pieces-asked {A} start k l path place (suc left) bytes f n y h =
    let r = one-read start k l path (place bytes) piece_length (λ part. cond (nat_lt (length (unwrap_or part [])) piece_length) (f (bytes ++ unwrap_or part [])) (pieces_by path place left (bytes ++ unwrap_or part []) f)) n (Ok y) h in
    let p = unwrap_or (part_of (after_all r.log start) path (place bytes) piece_length) [] in
    piece-asked start k l r.log path place left bytes f n r.more y r.begins (nat_lt (length p) piece_length) refl r.sum r.goes_on (λ m. pieces-asked start r.log l path place left (bytes ++ p) f r.more y m)

-- ---- the index

no-answer : (old : List Entry) (r : Result Log ReadAnswer) → whole_log_asks old ≡ answer r → ⊥
no-answer old r h = none (ap answer_of h)
  where
    none : None ≡ Some r → ⊥
    none e = cc

log-loads : (r : Result Log RevFault) (log : Log) → log_answer changelog_index r ≡ Ok log → r ≡ Ok log
log-loads (Ok x) log h = cc
log-loads (Err f) log h = cc

after-is : (old : List Entry) (r : Result Log ReadAnswer) (log : Log) → log_after old r ≡ Ok log → r ≡ Ok log
after-is old (Err e) log h = cc
after-is old (Ok found) log h = by (first_changed 0 old found.entries) h
  where
    by : (o : Option ℕ) → unless_changed o found ≡ Ok log → (let a : Result Log ReadAnswer = Ok found in a) ≡ Ok log
    by None u = u
    by (Some rev) u = absurd (no-ok log _ (sym u))

-- what stands behind the last of the old entries, and how long it is
behind-size : (old : List Entry) (tail behind : List ℕ) → behind_last old tail ≡ Some behind → (length behind ≡ length tail - 64) × (64 ≤ length tail)
behind-size old tail behind h = by (nat_le 64 (length tail)) (is_this (slice_get old (length old - 1)) (separate_at (take 64 tail) (length old - 1))) refl h
  where
    same : (x y : List ℕ) → Some x ≡ Some y → y ≡ x
    same x y e = cc

    long : (n : ℕ) → nat_le 64 n ≡ true → 64 ≤ n
    long n h = grind arith

    by : (a b : Bool) → nat_le 64 (length tail) ≡ a → cond (a && b) (Some (drop 64 tail)) None ≡ Some behind → (length behind ≡ length tail - 64) × (64 ≤ length tail)
    by false b e h = cc
    by true false e h = cc
    by true true e h = (ap length (same (drop 64 tail) behind h) ∙ length-drop 64 tail, long (length tail) e)

-- where the last of the old entries begins the tail, the tail is not long
pub tail-few : (old log : Log) (tail : List ℕ) → behind_asks old (behind_last old.entries tail) ≡ answer (Ok log) → length tail ≤ 64 * (length log.entries - length old.entries + 2)
tail-few old log tail h = by (behind_last old.entries tail) refl h
  where
    few : (n behind entries before : ℕ) → 64 ≤ n → behind ≡ n - 64 → entries ≡ before + behind / 64 → n ≤ 64 * (entries - before + 2)
    few n behind entries before l e c = omega (arith, l, e, c)

    by : (found : Option (List ℕ)) → behind_last old.entries tail ≡ found → behind_asks old found ≡ answer (Ok log) → length tail ≤ 64 * (length log.entries - length old.entries + 2)
    by None is m = absurd (no-answer old.entries (Ok log) m)
    by (Some behind) is m =
        let b = behind-size old.entries tail behind is in
        let count = (load-grows (length behind / 64) old log behind (log-loads (load_from Ignore (length behind / 64) old behind) log (answer-is (log_on old behind) (Ok log) m))).count in
        few (length tail) (length behind) (length log.entries) (length old.entries) b.1 b.0 count

-- and neither is an index of which none was loaded
pub whole-log-few : (start : Tree) (k l : List Op) (old : List Entry) (n : ℕ) (log : Log) → length old ≡ 0 → GoesTo start (Some k) (separate_whole_asks old) n (Some l) (answer (Ok log)) → n ≤ 64 * (length log.entries - length old + 2)
whole-log-few start k l old n log none h =
    let p = pieces-asked start k l changelog_index length most_pieces [] (λ index. answer (log_after old (log_of index))) n log h in
    let count = (loaded-count p.all log (log-loads (loaded Ignore p.all) log (after-is old (log_of p.all) log (sym (answer-is (Ok log) (log_after old (log_of p.all)) p.goes_on.2))))).0 in
    few n p.own p.rest (length p.all) (length log.entries) (length old) p.sum p.goes_on.1 p.size count none
  where
    few : (n own rest all entries before : ℕ) → n ≡ own + rest → rest ≡ 0 → all ≡ 0 + own → entries ≡ all / 64 → before ≡ 0 → n ≤ 64 * (entries - before + 2)
    few n own rest all entries before e z a c b = omega (arith, e, z, a, c, b)

-- ---- a question goes on

pub go-front : {A : Type 0} (start : Tree) (k l : List Op) (q left : Asks A) (n : ℕ) → GoesTo start (Some k) q n (Some l) left → IsPrefixOf k l
go-front start k l (answer x) left n h = grown k l h.0
go-front start k l (read path from most rest) left n (inl h) = grown k l h.0
go-front start k l (read path from most rest) left n (inr h) = by h.0 h.3 h.6 (λ log m. go-front start log l (rest h.1) left h.2 m)
  where
    by : (seen : Option (List Op)) → Grows (Some k) seen → GoesTo start seen (rest h.1) h.2 (Some l) left → ((log : List Op) → GoesTo start (Some log) (rest h.1) h.2 (Some l) left → IsPrefixOf log l) → IsPrefixOf k l
    by None g m next = absurd (untold k g)
    by (Some log) g m next = prefix-trans k log l (grown k log g) (next log m)

-- where the first read says that the index is separate, it is asked for as such
pub go-apart : {A : Type 0} (start : Tree) (k l : List Op) (inline q : Asks A) (n : ℕ) (y : A) → IsApart start k l q → GoesTo start (Some k) (unless_inline inline q) n (Some l) (answer y) → GoesTo start (Some k) q n (Some l) (answer y)
go-apart start k l inline (answer x) n y plain h = h
go-apart start k l inline (read path from most rest) n y plain (inl h) = absurd (no-read y path from most _ h.2)
go-apart {A} start k l inline (read path from most rest) n y plain (inr h) = by h.0 h.3 h.4 h.6
  where
    by : (seen : Option (List Op)) → Grows (Some k) seen → IsAnswer seen start path from most h.1 → GoesTo start seen (cond (is_inline (unwrap_or h.1 [])) inline (rest h.1)) h.2 (Some l) (answer y) → GoesTo start (Some k) (read path from most rest) n (Some l) (answer y)
    by None g a m = absurd (untold k g)
    by (Some log) g a m =
        let ends = go-front start log l (cond (is_inline (unwrap_or h.1 [])) inline (rest h.1)) (answer y) h.2 m in
        let says : is_inline (unwrap_or h.1 []) ≡ false = ap (λ part. is_inline (unwrap_or part [])) a.1 ∙ plain log (grown k log g) ends in
        inr (Some log, h.1, h.2, g, a, h.5, subst (λ b. GoesTo start (Some log) (cond b inline (rest h.1)) h.2 (Some l) (answer y)) says m)

-- what is read may be answered once more
pub read-again : (start : Tree) (k l : List Op) (q : Asks (Result (List ℕ) ReadAnswer)) (y : Result (List ℕ) ReadAnswer) → MayAnswer start k q l y → MayAnswer start k (then_asks q all_bytes) l y
read-again start k l (answer (Ok x)) y h = h
read-again start k l (answer (Err e)) y h = h
read-again start k l (read path from most rest) y h = (h.0, h.1, read-again start h.0 l (rest (part_of (after_all h.0 start) path from most)) y h.2)
