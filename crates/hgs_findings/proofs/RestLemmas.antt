-- Where there is no fault, the chunks of an inline index are as long as its entries say: no data is left over.
use Rattle.std.proofs.Common.{◌≡◌, ℕ, zero, suc, ◌+◌, ◌/◌, ◌≤◌, List, [], ◌∷◌, ◌++◌, Bool, true, false, cond, ◌&&◌, ◌||◌, not, length, take, drop, refl, sym, ◌∙◌, ap, arith, length-append}
use Rattle.std.specs.Prelude.{Result, Ok, Err, nat_lt, ◌==◌}
use Rattle.std.specs.Int.{w16, w32, from_be_bytes}
use Rattle.std.proofs.lemmas.Bool.Decides.{nat_tests}
use Rattle.std.proofs.lemmas.List.{length-take, length-drop, take_at, drop_at, take-take, drop-take}
use Rattle.hgs_index.specs.declared.entry.Entry.{Entry}
use Rattle.hgs_index.specs.declared.entry.EntryFault.TheVariants.{Version, HeaderFlags, Negative, Padding}
use Rattle.hgs_index.specs.Entry.{fields_of, has_bad_header, has_negative, has_padding, is_negative, is_no_parent, number_at, part}
use Rattle.hgs_index.specs.Inline.{chunks_apart, chunks_in, entries_in, index_apart, is_cut, is_inline, without_inline}
use Rattle.hgs_revlog.specs.declared.fault.RevFault.{RevFault}
use Rattle.hgs_revlog.specs.Load.{entry_behind}
use Rattle.hgs_revlog.specs.Log.{stored_sum}
use Rattle.hgs_revlog.specs.Theorems.LogLemmas.{sum_push}
use Rattle.hgs_revlog.specs.Theorems.ReadLemmas.{read_entry}
use Rattle.hgs_findings.specs.Reading.{has_data_rest, on_entry, on_text, read_on, reading_of, text_behind}
use Rattle.hgs_findings.proofs.Basics.{never}

-- ---- the stored length of an entry that is taken

first-false : (a b : Bool) → (a || b) ≡ false → a ≡ false
first-false true b e = never e
first-false false b e = refl

left-false : (a b c d e f : Bool) → (((((a || b) || c) || d) || e) || f) ≡ false → a ≡ false
left-false true b c d e f h = never h
left-false false b c d e f h = refl

last-false : (a b c : Bool) → (a || (b && c)) ≡ false → b ≡ true → c ≡ false
last-false true b c h k = never h
last-false false true c h k = h
last-false false false c h k = never (sym k)

fields-are : (a b c d : Bool) (x e : Entry) → cond a (Err Version) (cond b (Err HeaderFlags) (cond c (Err Negative) (cond d (Err Padding) (Ok x)))) ≡ Ok e → (c ≡ false) × (x ≡ e)
fields-are true b c d x e h = cc
fields-are false true c d x e h = cc
fields-are false false true d x e h = cc
fields-are false false false true x e h = cc
fields-are false false false false x e h = (refl, cc)

taken-stored : (before : List Entry) (bytes : List ℕ) (e : Entry) → entry_behind before bytes ≡ Ok e → (is_negative (number_at 8 bytes) ≡ false) × (number_at 8 bytes ≡ e.stored)
taken-stored before bytes e h =
    let rev = length before in
    let f = fields-are (rev == 0 && not (from_be_bytes w16 (part 2 2 bytes) == 1)) (rev == 0 && has_bad_header (from_be_bytes w16 (part 0 2 bytes))) (has_negative bytes) (has_padding bytes rev) (fields_of bytes rev) e (read_entry before bytes e h) in (
      left-false (is_negative (number_at 8 bytes)) (is_negative (number_at 12 bytes)) (is_negative (number_at 16 bytes)) (is_negative (number_at 20 bytes)) (is_no_parent (number_at 24 bytes)) (is_no_parent (number_at 28 bytes)) f.0,
      ap (λ (x : Entry). x.stored) f.1,
    )

-- ---- the first entry, without the flag of the header

abbrev marked : Bool → List ℕ → List ℕ
marked b bytes = cond b (without_inline bytes) bytes

marked-length : (b : Bool) (xs : List ℕ) → length (marked b xs) ≡ length xs
marked-length false xs = refl
marked-length true [] = refl
marked-length true (x ∷ []) = refl
marked-length true (x ∷ y ∷ xs) = refl

marked-first : (b : Bool) (xs : List ℕ) → number_at 8 (take 64 (marked b xs)) ≡ number_at 8 (take 64 xs)
marked-first false xs = refl
marked-first true [] = refl
marked-first true (x ∷ []) = refl
marked-first true (x ∷ y ∷ xs) = refl

marked-rest : (b : Bool) (xs : List ℕ) → drop 64 (marked b xs) ≡ drop 64 xs
marked-rest false xs = refl
marked-rest true [] = refl
marked-rest true (x ∷ []) = refl
marked-rest true (x ∷ y ∷ xs) = refl

number-first : (bytes : List ℕ) → number_at 8 (take 64 bytes) ≡ number_at 8 bytes
number-first bytes = ap (λ l. from_be_bytes w32 (take 4 l)) (drop-take 8 56 bytes) ∙ ap (from_be_bytes w32) (take-take 4 56 (drop 8 bytes) (omega arith))

-- ---- one entry after another

one-more : (m : ℕ) (before : List Entry) (index data_bytes : List ℕ) (chunk more : ℕ) → ((e : Entry) → entry_behind before (take 64 index) ≡ Ok e → e.stored ≡ chunk)
    → ((e : Entry) → (read_on m (before ++ e ∷ []) (drop 64 index) data_bytes).broken ≡ false → (read_on m (before ++ e ∷ []) (drop 64 index) data_bytes).stored ≡ stored_sum (before ++ e ∷ []) + more)
    → (read_on (suc m) before index data_bytes).broken ≡ false → (read_on (suc m) before index data_bytes).stored ≡ stored_sum before + (chunk + more)
one-more m before index data_bytes chunk more long rest = by (entry_behind before (take 64 index)) refl
  where
    by : (o : Result Entry RevFault) → entry_behind before (take 64 index) ≡ o → (on_entry before data_bytes o (λ e. read_on m (before ++ e ∷ []) (drop 64 index) data_bytes)).broken ≡ false
        → (on_entry before data_bytes o (λ e. read_on m (before ++ e ∷ []) (drop 64 index) data_bytes)).stored ≡ stored_sum before + (chunk + more)
    by (Err fault) is w = never w
    by (Ok e) is w = with_text (text_behind before e data_bytes) w
      where
        with_text : (t : Result (List ℕ) RevFault) → (on_text before e t (read_on m (before ++ e ∷ []) (drop 64 index) data_bytes)).broken ≡ false → (on_text before e t (read_on m (before ++ e ∷ []) (drop 64 index) data_bytes)).stored ≡ stored_sum before + (chunk + more)
        with_text (Err fault) w = never w
        with_text (Ok text) w = rest e w ∙ (let s = sum_push before e in let l = long e is in omega (arith, s, l))

none-more : (k : ℕ) (before : List Entry) (index data_bytes : List ℕ) → k ≡ 0 → (read_on k before index data_bytes).stored ≡ stored_sum before + 0
none-more k before index data_bytes e = ap (λ n. (read_on n before index data_bytes).stored) e ∙ (omega arith)

reached : (n len : ℕ) → nat_lt len n ≡ false → n ≤ len
reached n len h = grind (arith, nat_tests)

stored-chunks : (first : Bool) (n : ℕ) (before : List Entry) (bytes data_bytes : List ℕ) → (read_on (length (marked first (entries_in n bytes)) / 64) before (marked first (entries_in n bytes)) data_bytes).broken ≡ false
    → (read_on (length (marked first (entries_in n bytes)) / 64) before (marked first (entries_in n bytes)) data_bytes).stored ≡ stored_sum before + length (chunks_in n bytes)
stored-chunks first zero before bytes data_bytes = λ whole. none-more (length (marked first []) / 64) before (marked first []) data_bytes (ap (λ k. k / 64) (marked-length first []))
stored-chunks first (suc n) before bytes data_bytes = by (is_cut bytes) refl (λ e. stored-chunks false n (before ++ e ∷ []) (drop (64 + number_at 8 bytes) bytes) data_bytes)
  where
    k : ℕ
    k = number_at 8 bytes

    rest : List ℕ
    rest = entries_in n (drop (64 + k) bytes)

    by : (b : Bool) → is_cut bytes ≡ b
        → ((e : Entry) → (read_on (length rest / 64) (before ++ e ∷ []) rest data_bytes).broken ≡ false → (read_on (length rest / 64) (before ++ e ∷ []) rest data_bytes).stored ≡ stored_sum (before ++ e ∷ []) + length (chunks_in n (drop (64 + k) bytes)))
        → (read_on (length (marked first (cond b (take 63 bytes) (take 64 bytes ++ rest))) / 64) before (marked first (cond b (take 63 bytes) (take 64 bytes ++ rest))) data_bytes).broken ≡ false
        → (read_on (length (marked first (cond b (take 63 bytes) (take 64 bytes ++ rest))) / 64) before (marked first (cond b (take 63 bytes) (take 64 bytes ++ rest))) data_bytes).stored
        ≡ stored_sum before + length (cond b [] (part 64 k bytes ++ chunks_in n (drop (64 + k) bytes)))
    by true cut next = λ whole. none-more (length (marked first (take 63 bytes)) / 64) before (marked first (take 63 bytes)) data_bytes (omega (arith, marked-length first (take 63 bytes), length-take 63 bytes))
    by false cut next = found (length whole / 64) (let l = marked-length first (take 64 bytes ++ rest) in omega (arith, l, length-append (take 64 bytes) rest, length-take 64 bytes, long))
      where
        whole : List ℕ
        whole = marked first (take 64 bytes ++ rest)

        long : 64 ≤ length bytes
        long = reached 64 (length bytes) (first-false (nat_lt (length bytes) 64) (not (is_negative k) && nat_lt (length bytes) (64 + k)) cut)

        sized : length (take 64 bytes) ≡ 64
        sized = omega (arith, length-take 64 bytes, long)

        behind : drop 64 whole ≡ rest
        behind = marked-rest first (take 64 bytes ++ rest) ∙ drop_at (take 64 bytes) rest 64 sized

        stored : number_at 8 (take 64 whole) ≡ k
        stored = marked-first first (take 64 bytes ++ rest) ∙ ap (number_at 8) (take_at (take 64 bytes) rest 64 sized) ∙ number-first bytes

        as-long : (e : Entry) → entry_behind before (take 64 whole) ≡ Ok e → e.stored ≡ length (part 64 k bytes)
        as-long e is =
            let t = taken-stored before (take 64 whole) e is in
            let room : 64 + k ≤ length bytes = reached (64 + k) (length bytes) (last-false (nat_lt (length bytes) 64) (not (is_negative k)) (nat_lt (length bytes) (64 + k)) cut (ap not (ap is_negative (sym stored) ∙ t.0))) in
            omega (arith, t.1, stored, room, length-take k (drop 64 bytes), length-drop 64 bytes)

        found : (m : ℕ) → m ≡ suc (length rest / 64) → (read_on m before whole data_bytes).broken ≡ false → (read_on m before whole data_bytes).stored ≡ stored_sum before + length (part 64 k bytes ++ chunks_in n (drop (64 + k) bytes))
        found m e w =
            ap (λ j. (read_on j before whole data_bytes).stored) e
            ∙ one-more (length rest / 64) before whole data_bytes (length (part 64 k bytes)) (length (chunks_in n (drop (64 + k) bytes))) as-long
            (λ x v. ap (λ l. (read_on (length rest / 64) (before ++ x ∷ []) l data_bytes).stored) behind ∙ next x (sym (ap (λ l. (read_on (length rest / 64) (before ++ x ∷ []) l data_bytes).broken) behind) ∙ v))
            (sym (ap (λ j. (read_on j before whole data_bytes).broken) e) ∙ w)
            ∙ ap (λ j. stored_sum before + j) (sym (length-append (part 64 k bytes) (chunks_in n (drop (64 + k) bytes))))

pub no-rest : (index : List ℕ) → is_inline index ≡ true → has_data_rest (index_apart index) (chunks_apart index) ≡ false
no-rest index inline = by (reading_of (index_apart index) (chunks_apart index)).broken refl
  where
    apart : index_apart index ≡ without_inline (entries_in (length index) index)
    apart = ap (λ b. cond b (without_inline (entries_in (length index) index)) index) inline

    equal : (a b : ℕ) → a ≡ b → nat_lt a b ≡ false
    equal a b e = grind (arith, nat_tests)

    by : (b : Bool) → (reading_of (index_apart index) (chunks_apart index)).broken ≡ b → has_data_rest (index_apart index) (chunks_apart index) ≡ false
    by true w = ap (λ b. not b && nat_lt (reading_of (index_apart index) (chunks_apart index)).stored (length (chunks_apart index))) w
    by false w =
        let s = stored-chunks true (length index) [] index (chunks_apart index) (sym (ap (λ l. (reading_of l (chunks_apart index)).broken) apart) ∙ w) in
        ap (λ b. not b && nat_lt (reading_of (index_apart index) (chunks_apart index)).stored (length (chunks_apart index))) w
        ∙ equal (reading_of (index_apart index) (chunks_apart index)).stored (length (chunks_apart index)) (ap (λ l. (reading_of l (chunks_apart index)).stored) apart ∙ s ∙ (omega arith))
