-- A revlog whose index was appended to since it was loaded.
use Rattle.std.proofs.Common.{◌≡◌, ℕ, zero, suc, ◌+◌, ◌*◌, ◌/◌, ◌==◌, ◌≤◌, ◌<◌, List, [], ◌∷◌, ◌++◌, length, take, drop, Bool, true, false, cond, Option, Result, Ok, Err, refl, sym, ◌∙◌, ap, subst, arith, length-append}
use Rattle.std.specs.Prelude.{unwrap_or}
use Rattle.std.proofs.lemmas.Bool.Decides.{nat_tests}
use Rattle.std.proofs.lemmas.List.{take_all, take-append-le, drop-append-le, drop_all, length-take, length-drop}
use Rattle.hgs_files.specs.Tree.{Tree, bytes_at}
use Rattle.hgs_index.specs.declared.entry.Entry.{Entry}
use Rattle.hgs_index.specs.Inline.{entries_in, is_inline, without_inline}
use Rattle.hgs_index.specs.Theorems.EitherLemmas.{form-more}
use Rattle.hgs_revlog.specs.declared.fault.RevFault.{RevFault}
use Rattle.hgs_revlog.specs.declared.fault.RevFault.TheVariants.{Tail}
use Rattle.hgs_revlog.specs.declared.fault.Tail.TheVariants.{Refuse}
use Rattle.hgs_revlog.specs.Load.{after, entry_behind, in_form, load_from, loaded, loaded_either, pushed}
use Rattle.hgs_revlog.specs.Loaded.{AreEntries}
use Rattle.hgs_revlog.specs.Log.{Log, with_entry}
use Rattle.hgs_load.specs.Asks.{part_of}
use Rattle.hgs_load.specs.View.{log_answer, piece_length}
use Rattle.hgs_loading.specs.Logs.{HasGrown, either_log_in, most_index}
use Rattle.hgs_loading.specs.Theorems.IndexLemmas.{separate-index}
use Rattle.hgs_loading.proofs.LengthLemmas.{all-of-it, load-length}
use Rattle.hgs_loading.proofs.PartLemmas.{part-bytes}

after_ok : (r : Result Entry RevFault) (f : Entry → Result Log RevFault) (log : Log) → after r f ≡ Ok log → (e : Entry) × (r ≡ Ok e) × (f e ≡ Ok log)
after_ok (Err fault) f log h = cc
after_ok (Ok e) f log h = (e, refl, h)

log_is : (x y : Log) → (let a : Result Log RevFault = Ok x in a) ≡ Ok y → x ≡ y
log_is x y e = cc

no_log : (f : RevFault) (x : Log) → (let a : Result Log RevFault = Err f in a) ≡ Ok x → ⊥
no_log f x e = cc

-- at the end of the bytes there is none left
ended : (log out : Log) (bytes : List ℕ) → load_from Refuse zero log bytes ≡ Ok out → (bytes ≡ []) × (log ≡ out)
ended log out bytes h = by (length bytes == 0) refl h
  where
    none : (l : List ℕ) → (length l == 0) ≡ true → l ≡ []
    none [] e = refl
    none (x ∷ l) e = absurd (more (length l) e)
      where
        more : (n : ℕ) → (suc n == 0) ≡ true → ⊥
        more n k = grind (arith, nat_tests, k)

    by : (b : Bool) → (length bytes == 0) ≡ b → (let a : Result Log RevFault = cond b (Ok log) (Err (Tail (length log.entries))) in a) ≡ Ok out → (bytes ≡ []) × (log ≡ out)
    by true e k = (none bytes e, log_is log out k)
    by false e k = absurd (no_log (Tail (length log.entries)) out k)

-- ---- what holds of the log holds behind the entries too

module _ (P : Log → Type 0) (one : (log : Log) (e : Entry) (bytes : List ℕ) → entry_behind log.entries bytes ≡ Ok e → P log → P (with_entry log e)) where
  stays : (n : ℕ) (log out : Log) (bytes : List ℕ) → load_from Refuse n log bytes ≡ Ok out → P log → P out
  stays zero log out bytes h p = subst P (ended log out bytes h).1 p
  stays (suc n) log out bytes h p =
      let s = after_ok (entry_behind log.entries (take 64 bytes)) (λ e. load_from Refuse n (with_entry log e) (drop 64 bytes)) out h in
      stays n (with_entry log s.0) out (drop 64 bytes) s.2 (one log s.0 (take 64 bytes) s.1 p)

-- the form
form-stays : (n : ℕ) (log out : Log) (bytes : List ℕ) → load_from Refuse n log bytes ≡ Ok out → log.inline ≡ false → out.inline ≡ false
form-stays = stays (λ log. log.inline ≡ false) (λ log e bytes h p. p)

-- what a law says of one entry more
abbrev pub PushKeeps : Type 0
PushKeeps = (log new : Log) (entry : List ℕ) → AreEntries log.entries → pushed log entry ≡ Ok new → AreEntries new.entries

pub entries-stay : PushKeeps → (n : ℕ) (log out : Log) (bytes : List ℕ) → load_from Refuse n log bytes ≡ Ok out → AreEntries log.entries → AreEntries out.entries
entries-stay keeps = stays (λ log. AreEntries log.entries) (λ log e bytes h p. keeps log (with_entry log e) bytes p (ap (λ r. after r (λ x. Ok (with_entry log x))) h))

-- ---- one load behind another

load-more : (n m k : ℕ) (log out : Log) (front more : List ℕ) → n ≡ length front / 64 → k ≡ n + m → load_from Refuse n log front ≡ Ok out → load_from Refuse k log (front ++ more) ≡ load_from Refuse m out more
load-more zero m k log out front more e is h =
    let end = ended log out front h in
    ap (λ l. load_from Refuse k log (l ++ more)) end.0 ∙ ap (λ x. load_from Refuse x log more) (let z : k ≡ m = omega (arith, is) in z) ∙ ap (λ l. load_from Refuse m l more) end.1
load-more (suc n) m k log out front more e is h =
    let s = after_ok (entry_behind log.entries (take 64 front)) (λ x. load_from Refuse n (with_entry log x) (drop 64 front)) out h in
    let long : 64 ≤ length front = omega (arith, e) in
    let rest : n ≡ length (drop 64 front) / 64 = (let d = length-drop 64 front in omega (arith, d, e)) in
    ap (λ x. load_from Refuse x log (front ++ more)) (let t : k ≡ suc (n + m) = omega (arith, is) in t)
    ∙ ap (λ r. after r (λ x. load_from Refuse (n + m) (with_entry log x) (drop 64 (front ++ more)))) (ap (entry_behind log.entries) (take-append-le 64 front more long) ∙ s.1)
    ∙ ap (load_from Refuse (n + m) (with_entry log s.0)) (drop-append-le 64 front more long)
    ∙ load-more n m (n + m) (with_entry log s.0) out (drop 64 front) more rest refl s.2

-- ---- a separate index

own-form : (r : Result Log RevFault) → ((log : Log) → r ≡ Ok log → log.inline ≡ false) → in_form false r ≡ r
own-form (Err f) h = refl
own-form (Ok log) h = λ i. Ok (record { inline = sym (h log refl) i; entries = log.entries })

form-is : (b : Bool) (r : Result Log RevFault) (log : Log) → in_form b r ≡ Ok log → log.inline ≡ b
form-is b (Err f) log e = absurd (no_log f log e)
form-is b (Ok l) log e = ap (λ (x : Log). x.inline) (sym (log_is (record { inline = b; entries = l.entries }) log e))

abbrev nothing : Log
nothing = record { inline = false; entries = [] }

separate : (index : List ℕ) → is_inline index ≡ false → loaded_either Refuse index ≡ loaded Refuse index
separate index e =
    ap (λ b. in_form b (loaded Refuse (cond b (without_inline (entries_in (length index) index)) index))) e
    ∙ own-form (loaded Refuse index) (λ log h. form-stays (length index / 64) nothing log index h refl)

module _ (front more : List ℕ) (log : Log) (is : loaded_either Refuse front ≡ Ok log) (apart : log.inline ≡ false) (some : 1 ≤ length log.entries) where
  plain : is_inline front ≡ false
  plain = sym (form-is (is_inline front) (loaded Refuse (cond (is_inline front) (without_inline (entries_in (length front) front)) front)) log is) ∙ apart

  loads : loaded Refuse front ≡ Ok log
  loads = sym (separate front plain) ∙ is

  size : length front ≡ 64 * length log.entries
  size = let n = load-length (length front / 64) nothing log front refl loads in omega (arith, n)

  all-plain : is_inline (front ++ more) ≡ false
  all-plain = form-more front more (let n = size in omega (arith, n, some)) ∙ plain

  more-loads : loaded_either Refuse (front ++ more) ≡ load_from Refuse (length more / 64) log more
  more-loads =
      separate (front ++ more) all-plain
      ∙ load-more (length front / 64) (length more / 64) (length (front ++ more) / 64) nothing log front more refl (let n = length-append front more in let s = size in omega (arith, n, s)) loads

behind-front : (front more : List ℕ) → drop (length front) (front ++ more) ≡ more
behind-front front more = drop-append-le (length front) front more (omega arith) ∙ ap (λ l. l ++ more) (drop_all (length front) front (omega arith))

-- Where less than a piece was read behind the entries, it is all that stands behind them.
pub grown-log : (index : List ℕ) (t : Tree) (log : Log) (from : ℕ) (part : Option (List ℕ)) (piece : List ℕ) → HasGrown index log t → log.inline ≡ false → 1 ≤ length log.entries → 64 * length log.entries + piece_length ≤ most_index
    → from ≡ 64 * length log.entries → part ≡ part_of t index from piece_length → piece ≡ unwrap_or part [] → length piece < piece_length → either_log_in index t ≡ log_answer index (load_from Refuse (length piece / 64) log piece)
grown-log index t log from part piece grown apart some few behind read is short =
    ap (log_answer index)
    (ap (loaded_either Refuse) (separate-index index t (ap is_inline bytes ∙ all-plain front more log grown.2 apart some) ∙ all-of-it index t fits ∙ bytes)
    ∙ more-loads front more log grown.2 apart some
    ∙ ap (λ l. load_from Refuse (length l / 64) log l) (sym piece-is))
  where
    front : List ℕ
    front = grown.0

    more : List ℕ
    more = grown.1.0

    bytes : bytes_at t index ≡ front ++ more
    bytes = grown.1.1

    long : length front ≡ 64 * length log.entries
    long = size front more log grown.2 apart some

    taken : piece ≡ take piece_length more
    taken =
        is ∙ ap (λ o. unwrap_or o []) read ∙ part-bytes (t index) from piece_length
        ∙ ap (λ n. take piece_length (drop n (bytes_at t index))) (behind ∙ sym long)
        ∙ ap (λ l. take piece_length (drop (length front) l)) bytes
        ∙ ap (take piece_length) (behind-front front more)

    less : length more < piece_length
    less = let n = ap length taken in let m = length-take piece_length more in omega (arith, n, m, short)

    piece-is : piece ≡ more
    piece-is = taken ∙ take_all piece_length more (omega (arith, less))

    fits : length (bytes_at t index) ≤ most_index
    fits = let n = ap length bytes in let m = length-append front more in let s = long in let l = less in omega (arith, n, m, s, l, few)

-- of no entries anything may have grown
pub none-grown : (index : List ℕ) (t : Tree) → HasGrown index nothing t
none-grown index t = ([], (bytes_at t index, refl), refl)
