-- The laws of loading an index of either form.
use Rattle.std.proofs.Common.{◌≡◌, ℕ, zero, suc, ◌+◌, ◌*◌, ◌/◌, ◌≤◌, Bool, true, false, cond, ◌&&◌, ◌||◌, not, List, [], ◌∷◌, ◌++◌, length, take, drop, Some, Result, Ok, Err, refl, sym, ◌∙◌, ap, subst, arith, append-nil, length-append}
use Rattle.std.specs.Prelude.{nat_lt, slice_get}
use Rattle.std.specs.Int.{w32, from_be_bytes}
use Rattle.std.proofs.lemmas.List.{length-take, length-drop, length_push, take-take, drop-take, drop-drop, take_at, drop_at}
use Rattle.hex.specs.Hex.{IsBytes}
use Rattle.hgs_index.specs.declared.entry.Entry as index_entry
use Rattle.hgs_index.specs.declared.entry.EntryFault.TheVariants.{Version, HeaderFlags, Negative, Padding}
use Rattle.hgs_index.specs.Entry.{part, number_at, is_negative, has_negative}
use Rattle.hgs_index.specs.Inline.{is_inline, is_cut, entries_in, chunks_in, without_inline, index_apart, chunks_apart}
use Rattle.hgs_index.specs.Revision.{Revision}
use Rattle.hgs_index.specs.Revlog.{Holds, HoldsRevisions}
use Rattle.hgs_revlog.specs.declared.fault.RevFault.{RevFault}
use Rattle.hgs_revlog.specs.declared.fault.Tail.TheVariants.{Refuse}
use Rattle.hgs_revlog.specs.declared.fault.Tail as tails
use Rattle.hgs_revlog.specs.Held.{Agrees, AreWithinLimits, chunk_in, read_all}
use Rattle.hgs_revlog.specs.Load.{entry_behind, ends_at, after, load_from, loaded_either, loaded, in_form}
use Rattle.hgs_revlog.specs.Loaded.{AreEntries, HaveNodes}
use Rattle.hgs_revlog.specs.Log.{Log, with_entry, stored_sum}
use Rattle.hgs_revlog.proofs.FormLemmas.{loads-apart, marked-first, marked-length, marked-number, marked-rest}
use Rattle.hgs_revlog.specs.Theorems.ApartBytes.{apart-bytes}
use Rattle.hgs_revlog.specs.Theorems.LoadLemmas.{taken_entry, faultless}
use Rattle.hgs_revlog.proofs.LoadedLemmas.{end_is, entry-read, get-kept, load_holds, loaded-entries, loaded-nodes}
use Rattle.hgs_revlog.specs.Theorems.LogLemmas.{sum_push}
use Rattle.hgs_revlog.specs.Theorems.ReadLemmas.{loaded-front, read_entry, slice_get_seam}
use Rattle.hgs_revlog.specs.Theorems.StandingLemmas.{held-loaded}

-- ---- for either form

pub form-entries : (tail : tails.Tail) (index : List ℕ) (log : Log) → loaded_either tail index ≡ Ok log → AreEntries log.entries
form-entries tail index log load = loaded-entries tail (index_apart index) (record { inline = false; entries = log.entries }) (loads-apart tail index log load).1

pub form-is : (tail : tails.Tail) (index : List ℕ) (log : Log) → loaded_either tail index ≡ Ok log → log.inline ≡ is_inline index
form-is tail index log load = (loads-apart tail index log load).0

pub form-nodes : (tail : tails.Tail) (index : List ℕ) (log : Log) → IsBytes index → loaded_either tail index ≡ Ok log → HaveNodes log.entries
form-nodes tail index log are load = loaded-nodes tail (index_apart index) (record { inline = false; entries = log.entries }) (apart-bytes index are) (loads-apart tail index log load).1

-- ---- inline

abbrev pub IsTakenApart : Type 0
IsTakenApart = (index data_bytes : List ℕ) (revisions : List Revision) → Holds true index data_bytes revisions → HoldsRevisions (index_apart index) (chunks_apart index) revisions

abbrev pub IsPutBack : Type 0
IsPutBack = (index data_bytes used left : List ℕ) (revisions : List Revision) → is_inline index ≡ true → HoldsRevisions (index_apart index) used revisions → chunks_apart index ≡ used ++ left → Holds true index data_bytes revisions

pub inline-holds : IsPutBack → (index data_bytes : List ℕ) (log : Log) (revisions : List Revision) → IsBytes index → loaded_either Refuse index ≡ Ok log → log.inline ≡ true → read_all log.entries (chunks_apart index) ≡ Ok revisions → Holds true index data_bytes revisions
inline-holds back index data_bytes log revisions are load form read =
    let a = loads-apart Refuse index log load in
    let inline : is_inline index ≡ true = sym a.0 ∙ form in
    let h = loaded-front (index_apart index) (chunks_apart index) (record { inline = false; entries = log.entries }) revisions (apart-bytes index are) a.1 read in
    back index data_bytes h.used h.left revisions inline h.agrees.held h.split

pub inline-loads : IsTakenApart → (index data_bytes : List ℕ) (revisions : List Revision) → Holds true index data_bytes revisions → AreWithinLimits revisions (chunks_apart index)
    → (log : Log) × (loaded_either Refuse index ≡ Ok log) × (read_all log.entries (chunks_apart index) ≡ Ok revisions) × Agrees (index_apart index) (chunks_apart index) log.entries revisions
inline-loads apart index data_bytes revisions held limits =
    let h = held-loaded (index_apart index) (chunks_apart index) [] revisions (apart index data_bytes revisions held) limits in
    (record { inline = is_inline index; entries = h.0.entries }, ap (in_form (is_inline index)) h.1, ap (read_all h.0.entries) (sym (append-nil (chunks_apart index))) ∙ h.2, h.3)

-- ---- the places of chunks

reached : (n len : ℕ) → nat_lt len n ≡ false → n ≤ len
reached n len h = grind arith

first-false : (a b : Bool) → (a || b) ≡ false → a ≡ false
first-false true b h = cc
first-false false b h = refl

last-false : (a b c : Bool) → (a || (b && c)) ≡ false → b ≡ true → c ≡ false
last-false true b c h k = cc
last-false false true c h k = h
last-false false false c h k = cc

-- where the chunk of an entry stands among bytes that follow these entries, as among the chunks
pub record IsPlaced (log : Log) (bytes chunks : List ℕ) (j : ℕ) (e : index_entry.Entry) : Type 0 where
  pub from : ℕ
  pub offset : e.offset ≡ stored_sum log.entries + from
  pub there : take e.stored (drop (from + 64 * suc j) bytes) ≡ take e.stored (drop from chunks)

past : (entries : List index_entry.Entry) (j : ℕ) (e : index_entry.Entry) → slice_get entries (length entries + j) ≡ Some e → ⊥
past [] j e h = cc
past (x ∷ entries) j e h = let more : suc (length entries + j) ≡ suc (length entries) + j = omega arith in past entries j e (ap (slice_get (x ∷ entries)) more ∙ h)

some_is : (x y : index_entry.Entry) → Some x ≡ Some y → x ≡ y
some_is x y h = cc

negative-test : (a b c d : Bool) (x e : index_entry.Entry) → cond a (Err Version) (cond b (Err HeaderFlags) (cond c (Err Negative) (cond d (Err Padding) (Ok x)))) ≡ Ok e → c ≡ false
negative-test true b c d x e h = cc
negative-test false true c d x e h = cc
negative-test false false true d x e h = cc
negative-test false false false d x e h = refl

first-of-six : (a b c d e f : Bool) → (a || b || c || d || e || f) ≡ false → a ≡ false
first-of-six true b c d e f h = cc
first-of-six false b c d e f h = refl

ok_is : (x y : Log) → (let a : Result Log RevFault = Ok x in a) ≡ Ok y → x ≡ y
ok_is x y e = cc

number-in-cell : (bytes : List ℕ) → number_at 8 (take 64 bytes) ≡ number_at 8 bytes
number-in-cell bytes = ap (λ l. from_be_bytes w32 (take 4 l)) (drop-take 8 56 bytes) ∙ ap (from_be_bytes w32) (take-take 4 56 (drop 8 bytes) (omega arith))

-- the entries of an inline index, the first one without the flag of its header
abbrev cells : Bool → ℕ → List ℕ → List ℕ
cells first n bytes = cond first (without_inline (entries_in n bytes)) (entries_in n bytes)

abbrev Placing : tails.Tail → ℕ → Type 0
Placing tail n = (first : Bool) (log end : Log) (bytes : List ℕ) → load_from tail (length (cells first n bytes) / 64) log (cells first n bytes) ≡ Ok end
    → (j : ℕ) (e : index_entry.Entry) → slice_get end.entries (length log.entries + j) ≡ Some e → IsPlaced log bytes (chunks_in n bytes) j e

-- an entry that was taken, the load that went on behind it, and the entry at a place from it on
module _ (tail : tails.Tail) (n : ℕ) (next : Placing tail n) (log end : Log) (bytes cell : List ℕ) (x : index_entry.Entry)
    (number : number_at 8 cell ≡ number_at 8 bytes) (taken : entry_behind log.entries cell ≡ Ok x) (whole : is_cut bytes ≡ false)
    (behind : cond (ends_at tail x) (Ok (with_entry log x)) (load_from tail (length (entries_in n (drop (64 + number_at 8 bytes) bytes)) / 64) (with_entry log x) (entries_in n (drop (64 + number_at 8 bytes) bytes))) ≡ Ok end) where
  abbrev k : ℕ
  k = number_at 8 bytes

  abbrev rest : List ℕ
  rest = drop (64 + number_at 8 bytes) bytes

  is-stored : x.stored ≡ k
  is-stored = ap (λ (y : index_entry.Entry). y.stored) (sym (entry-read log.entries cell x taken)) ∙ number

  not-negative : not (is_negative k) ≡ true
  not-negative =
      let tests = negative-test _ _ (has_negative cell) _ _ x (read_entry log.entries cell x taken) in
      ap (λ n. not (is_negative n)) (sym number) ∙ ap not (first-of-six _ _ _ _ _ _ tests)

  room : 64 + k ≤ length bytes
  room = reached (64 + k) (length bytes) (last-false (nat_lt (length bytes) 64) (not (is_negative k)) (nat_lt (length bytes) (64 + k)) whole not-negative)

  chunk-length : length (part 64 k bytes) ≡ k
  chunk-length = let fits = room in omega (arith, length-take k (drop 64 bytes), length-drop 64 bytes, fits)

  stands : slice_get end.entries (length log.entries) ≡ Some x
  stands = by (ends_at tail x) behind
    where
      seam : slice_get (log.entries ++ x ∷ []) (length log.entries) ≡ Some x
      seam = slice_get_seam log.entries x []

      by : (b : Bool) → cond b (Ok (with_entry log x)) (load_from tail (length (entries_in n rest) / 64) (with_entry log x) (entries_in n rest)) ≡ Ok end → slice_get end.entries (length log.entries) ≡ Some x
      by true h = ap (λ (l : Log). slice_get l.entries (length log.entries)) (sym (ok_is (with_entry log x) end h)) ∙ seam
      by false h = load_holds (λ l. slice_get l.entries (length log.entries) ≡ Some x) (λ bytes. Unit {0}) (λ l cell e any is at. get-kept l.entries (e ∷ []) (length log.entries) x at)
          tail (length (entries_in n rest) / 64) (with_entry log x) end (entries_in n rest) (λ k lt. tt) seam h

  placed-here : IsPlaced log bytes (part 64 k bytes ++ chunks_in n rest) 0 x
  placed-here = record {
    from = 0;
    offset = (let o = (faultless log.entries x (taken_entry log.entries cell x taken).1).offset in omega (arith, o));
    there = ap (λ m. take m (drop 64 bytes)) is-stored ∙ sym (take_at (part 64 k bytes) (chunks_in n rest) k chunk-length) ∙ ap (λ m. take m (part 64 k bytes ++ chunks_in n rest)) (sym is-stored);
  }

  placed-behind : (j : ℕ) (e : index_entry.Entry) → IsPlaced (with_entry log x) rest (chunks_in n rest) j e → IsPlaced log bytes (part 64 k bytes ++ chunks_in n rest) (suc j) e
  placed-behind j e p =
      let d = p.from in
      let offset = p.offset in
      let stored = is-stored in
      let at : (k + d) + 64 * suc (suc j) ≡ (64 + k) + (d + 64 * suc j) = omega arith in
      record {
        from = k + d;
        offset = omega (arith, offset, stored, sum_push log.entries x);
        there = ap (λ m. take e.stored (drop m bytes)) at ∙ ap (take e.stored) (sym (drop-drop (d + 64 * suc j) (64 + k) bytes)) ∙ p.there
            ∙ ap (take e.stored) (ap (drop d) (sym (drop_at (part 64 k bytes) (chunks_in n rest) k chunk-length)) ∙ drop-drop d k (part 64 k bytes ++ chunks_in n rest));
      }

  placed : (j : ℕ) (e : index_entry.Entry) → slice_get end.entries (length log.entries + j) ≡ Some e → IsPlaced log bytes (part 64 k bytes ++ chunks_in n rest) j e
  placed zero e at =
      let here : length log.entries ≡ length log.entries + 0 = omega arith in
      let is : x ≡ e = some_is x e (sym stands ∙ ap (slice_get end.entries) here ∙ at) in
      subst (IsPlaced log bytes (part 64 k bytes ++ chunks_in n rest) 0) is placed-here
  placed (suc j) e at = by (ends_at tail x) behind
    where
      moved : slice_get end.entries (length (log.entries ++ x ∷ []) + j) ≡ Some e
      moved = let more = length_push log.entries x in let there : length (log.entries ++ x ∷ []) + j ≡ length log.entries + suc j = omega (arith, more) in ap (slice_get end.entries) there ∙ at

      by : (b : Bool) → cond b (Ok (with_entry log x)) (load_from tail (length (entries_in n rest) / 64) (with_entry log x) (entries_in n rest)) ≡ Ok end → IsPlaced log bytes (part 64 k bytes ++ chunks_in n rest) (suc j) e
      by true h = absurd (past (log.entries ++ x ∷ []) j e (ap (λ (l : Log). slice_get l.entries (length (log.entries ++ x ∷ []) + j)) (ok_is (with_entry log x) end h) ∙ moved))
      by false h = placed-behind j e (next false (with_entry log x) end rest h j e moved)

places : (tail : tails.Tail) (n : ℕ) → Placing tail n
places tail zero first log end bytes load j e at = absurd (past log.entries j e (ap (λ (l : Log). slice_get l.entries (length log.entries + j)) (none first load) ∙ at))
  where
    none : (first : Bool) → load_from tail (length (cells first zero bytes) / 64) log (cells first zero bytes) ≡ Ok end → log ≡ end
    none true h = end_is tail log end [] h
    none false h = end_is tail log end [] h
places tail (suc n) first log end bytes load j e at = by (is_cut bytes) refl load (places tail n)
  where
    k : ℕ
    k = number_at 8 bytes

    more : List ℕ
    more = entries_in n (drop (64 + number_at 8 bytes) bytes)

    marked : List ℕ → List ℕ
    marked xs = cond first (without_inline xs) xs

    cell : List ℕ
    cell = cond first (without_inline (take 64 bytes)) (take 64 bytes)

    on : index_entry.Entry → List ℕ → Result Log RevFault
    on x left = cond (ends_at tail x) (Ok (with_entry log x)) (load_from tail (length more / 64) (with_entry log x) left)

    step : Placing tail n → is_cut bytes ≡ false → (r : Result index_entry.Entry RevFault) → entry_behind log.entries cell ≡ r → after r (λ x. on x more) ≡ Ok end
        → IsPlaced log bytes (part 64 k bytes ++ chunks_in n (drop (64 + k) bytes)) j e
    step next whole (Err f) taken h = cc
    step next whole (Ok x) taken h = placed tail n next log end bytes cell x (marked-number first (take 64 bytes) ∙ number-in-cell bytes) taken whole h j e at

    by : (b : Bool) → is_cut bytes ≡ b
        → load_from tail (length (cond first (without_inline (cond b (take 63 bytes) (take 64 bytes ++ more))) (cond b (take 63 bytes) (take 64 bytes ++ more))) / 64) log (cond first (without_inline (cond b (take 63 bytes) (take 64 bytes ++ more))) (cond b (take 63 bytes) (take 64 bytes ++ more))) ≡ Ok end
        → Placing tail n → IsPlaced log bytes (cond b [] (part 64 k bytes ++ chunks_in n (drop (64 + k) bytes))) j e
    by true t h next =
        let rest = cond first (without_inline (take 63 bytes)) (take 63 bytes) in
        let size = marked-length first (take 63 bytes) in
        let few : 0 ≡ length rest / 64 = omega (arith, size, length-take 63 bytes) in
        absurd (past log.entries j e (ap (λ (l : Log). slice_get l.entries (length log.entries + j)) (end_is tail log end rest (ap (λ m. load_from tail m log rest) few ∙ h)) ∙ at))
    by false t h next =
        let low = reached 64 (length bytes) (first-false (nat_lt (length bytes) 64) (not (is_negative k) && nat_lt (length bytes) (64 + k)) t) in
        let size : length (take 64 bytes) ≡ 64 = omega (arith, length-take 64 bytes, low) in
        let all = cond first (without_inline (take 64 bytes ++ more)) (take 64 bytes ++ more) in
        let count = marked-length first (take 64 bytes ++ more) in
        let steps : suc (length more / 64) ≡ length all / 64 = omega (arith, count, length-append (take 64 bytes) more, size) in
        let front : take 64 all ≡ cell = marked-first first (take 64 bytes ++ more) ∙ ap (λ l. cond first (without_inline l) l) (take_at (take 64 bytes) more 64 size) in
        let back : drop 64 all ≡ more = marked-rest first (take 64 bytes ++ more) ∙ drop_at (take 64 bytes) more 64 size in
        step next t (entry_behind log.entries cell) refl
        (sym (λ i. after (entry_behind log.entries (front i)) (λ x. on x (back i))) ∙ ap (λ m. load_from tail m log all) steps ∙ h)

-- in the index a chunk stands behind its entry, and so behind all entries and chunks before it
pub inline-places : (tail : tails.Tail) (index : List ℕ) (log : Log) (rev : ℕ) (e : index_entry.Entry) → loaded_either tail index ≡ Ok log → log.inline ≡ true → slice_get log.entries rev ≡ Some e
    → take e.stored (drop (e.offset + 64 * suc rev) index) ≡ chunk_in (chunks_apart index) e
inline-places tail index log rev e load form at =
    let a = loads-apart tail index log load in
    let inline : is_inline index ≡ true = sym a.0 ∙ form in
    let n = length index in
    let raw = sym (ap (λ b. loaded tail (cond b (without_inline (entries_in n index)) index)) inline) ∙ a.1 in
    let none : 0 + rev ≡ rev = omega arith in
    let p = places tail n true (record { inline = false; entries = [] }) (record { inline = false; entries = log.entries }) index raw rev e (ap (slice_get log.entries) none ∙ at) in
    let from : e.offset ≡ p.from = (let o = p.offset in omega (arith, o)) in
    ap (λ d. take e.stored (drop (d + 64 * suc rev) index)) from ∙ p.there ∙ ap (λ d. take e.stored (drop d (chunks_apart index))) (sym from)
