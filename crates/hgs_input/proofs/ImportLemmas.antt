-- The records of an import, one after another: the loop that reads them, that what is read stands in the bytes, and that it is read again.
use Rattle.std.proofs.Common.{◌≡◌, ℕ, zero, suc, ◌+◌, ◌-◌, ◌<◌, ◌≤◌, Bool, true, false, ◌&&◌, List, [], ◌∷◌, ◌++◌, length, Option, Some, None, Result, Ok, Err, refl, sym, ◌∙◌, ap, subst, arith, append_assoc, length-append, codes, map}
use Rattle.std.specs.Prelude.{◌==◌, not, nat_lt, if◌then◌else◌, flat_map}
use Rattle.std.specs.List.{AllByRecursion, concat}
use Rattle.std.proofs.lemmas.Bool.{le-leb, leb-true, false_from_ne_true}
use Rattle.std.proofs.lemmas.List.{append-nil, length_push}
use Rattle.hgs_bytes.specs.Bytes.{same}
use Rattle.hgs_bytes.specs.Text.{line, split}
use Rattle.hgs_bytes.specs.Theorems.ByteLemmas.{same-eq}
use Rattle.hgs_bytes.specs.Theorems.TextLemmas.{number_is}
use Rattle.hgs_index.specs.ChangeText.{date_text}
use Rattle.hgs_index.specs.declared.kinds.Which.TheVariants.{Record}
use Rattle.hgs_model.specs.Valid.{AreNewChanges, IsNewChange}
use Rattle.hgs_model.specs.declared.command.NewChange.{NewChange}
use Rattle.hgs_input.specs.Front.{IsImportBefore, left}
use Rattle.hgs_input.specs.Import.{AreRecordTexts, IsImport, IsImportText, end_line, import_from, import_text, most_records, next_record, read_import, record_at, records_from}
use Rattle.hgs_input.specs.Read.{Rest, Reading, ◌>>=◌, bad_at, line_or_cut, looked_at, more, next_line, nothing_behind, place, record_from, start_of}
use Rattle.hgs_input.specs.Record.{Wording, bookmark_text, branch_text, description_text, file_text, most_input, parent_text, phase_text, record_text}
use Rattle.hgs_input.specs.declared.fault.InputFault.{InputFault}
use Rattle.hgs_input.specs.declared.fault.InputFault.TheVariants.{Limit}
use Rattle.hgs_input.proofs.FoundLemmas.{LineFound, apart, both, bound, line_found, ok_is, some_is}
use Rattle.hgs_input.proofs.ReadLemmas.{Refused, bound_refused, nil_from_length}
use Rattle.hgs_input.proofs.RecordBack.{lacks_none, line_back, record_front_back, then_ok}
use Rattle.hgs_input.proofs.RecordFound.{Before, before_both, before_line, before_same, none_behind, record_before}
use Rattle.hgs_input.proofs.WholeLemmas.{looked-length, looked-whole, record_then}

-- ---- what comes next

some_count : (n : ℕ) → not (n == 0) ≡ true → 0 < n
some_count zero h = cc
some_count (suc n) h = omega arith

-- at a record, where one more may come
pub next_some : (count : ℕ) (r rest : Rest) (c : NewChange) → next_record count r ≡ Ok (Some c, rest) → (record_from r ≡ Ok (c, rest)) × (count < most_records)
next_some count r rest c e =
    let l = bound (next_line r) (λ l. record_at count r l.0 l.1) (Some c, rest) e in
    by l.value.1 (same l.value.0 end_line && not (count == 0)) (nat_lt count most_records) refl l.gives
  where
    by : (behind : Rest) (s t : Bool) → nat_lt count most_records ≡ t → ◌≡◌ {A = Reading (Option NewChange)} (if s then Ok (None, behind) else if t then (record_from r >>= λ c. Ok (Some c.0, c.1)) else Err (bad_at (place r))) (Ok (Some c, rest)) →
        (record_from r ≡ Ok (c, rest)) × (count < most_records)
    by behind true t b k = let d : ◌≡◌ {A = Option NewChange} None (Some c) = ap (λ q. q.0) (ok_is {A = Option NewChange × Rest} (None, behind) (Some c, rest) k) in absurd (apart c d)
    by behind false false b k = cc
    by behind false true b k =
        let x = bound (record_from r) (λ c. Ok (Some c.0, c.1)) (Some c, rest) k in
        let same_read = ok_is {A = Option NewChange × Rest} (Some x.value.0, x.value.1) (Some c, rest) x.gives in
        let is : x.value.0 ≡ c = some_is x.value.0 c (ap (λ q. q.0) same_read) in
        let low = leb-true (suc count) most_records b in
        (x.is ∙ ap (λ d. Ok (d, x.value.1)) is ∙ ap (λ q. Ok (c, q)) (ap (λ q. q.1) same_read), omega (arith, low))

-- at the last line, behind a record
next_none : (count : ℕ) (r rest : Rest) → next_record count r ≡ Ok (None, rest) → Before r (line end_line) rest × (0 < count)
next_none count r rest e =
    let l = bound (next_line r) (λ l. record_at count r l.0 l.1) (None, rest) e in
    by l.value (line_found r l.value l.is) (same l.value.0 end_line && not (count == 0)) (nat_lt count most_records) refl l.gives
  where
    by : (l : List ℕ × Rest) → LineFound r l.0 l.1 → (s t : Bool) → (same l.0 end_line && not (count == 0)) ≡ s →
        ◌≡◌ {A = Reading (Option NewChange)} (if s then Ok (None, l.1) else if t then (record_from r >>= λ c. Ok (Some c.0, c.1)) else Err (bad_at (place r))) (Ok (None, rest)) → Before r (line end_line) rest × (0 < count)
    by l f true t a k =
        let b = both (same l.0 end_line) (not (count == 0)) a in
        let is : l.1 ≡ rest = ap (λ q. q.1) (ok_is {A = Option NewChange × Rest} (None, l.1) (None, rest) k) in
        let here = before_same r l.1 (line l.0) (line end_line) (ap line (same-eq l.0 end_line b.0)) (before_line r l.0 l.1 f) in
        (subst (Before r (line end_line)) is here, some_count count b.1)
    by l f false false a k = cc
    by l f false true a k =
        let x = bound (record_from r) (λ c. Ok (Some c.0, c.1)) (None, rest) k in
        let d : ◌≡◌ {A = Option NewChange} (Some x.value.0) None = ap (λ q. q.0) (ok_is {A = Option NewChange × Rest} (Some x.value.0, x.value.1) (None, rest) x.gives) in
        absurd (apart x.value.0 (sym d))

record_some : (says : Wording) (c : NewChange) → 0 < length (record_text says c)
record_some says c = omega arith

pub record_fewer : (count : ℕ) (r rest : Rest) (c : NewChange) → next_record count r ≡ Ok (Some c, rest) → length rest.bytes < length r.bytes
record_fewer count r rest c e =
    let h = record_before r (c, rest) (next_some count r rest c e).0 in
    let size = ap length h.text ∙ length-append (record_text h.says c) rest.bytes in
    let some = record_some h.says c in
    omega (arith, size, some)

-- ---- the loop

abbrev with_record : ℕ → List NewChange → Rest → Reading (List NewChange)
with_record n changes r = next_record (length changes) r >>= λ c. more changes c.0 c.1 (λ all rest. records_from n all rest)

pub record_at_end : (count : ℕ) (r : Rest) → r.bytes ≡ [] → next_record count r ≡ Err (bad_at r.whole)
record_at_end count r h = ap (λ s. line_or_cut r s >>= λ l. record_at count r l.0 l.1) (ap (split 10) h)

records_step : (n m : ℕ) (changes : List NewChange) (r : Rest) → length r.bytes ≤ n → m ≡ n - 1 → records_from n changes r ≡ with_record m changes r
records_step zero m changes r room e = sym (ap (λ x. x >>= λ c. more changes c.0 c.1 (λ all rest. records_from m all rest)) (record_at_end (length changes) r (nil_from_length r.bytes room)))
records_step (suc n) m changes r room e = let k : n ≡ m = omega (arith, e) in ap (λ j. with_record j changes r) k

pub record_refused : (n count : ℕ) (changes : List NewChange) (r : Rest) (e : InputFault) (all : Reading (List NewChange)) → count ≡ length changes → length r.bytes ≤ n → records_from n changes r ≡ all → Refused e (next_record count r) → Refused e all
record_refused n count changes r e all same_count room is h =
    bound_refused e (next_record count r) (λ c. more changes c.0 c.1 (λ all rest. records_from (n - 1) all rest)) all
    (ap (λ k. next_record k r >>= λ c. more changes c.0 c.1 (λ all rest. records_from (n - 1) all rest)) same_count ∙ sym (records_step n (n - 1) changes r room refl) ∙ is) h

pub records_end : (n count : ℕ) (changes : List NewChange) (r rest : Rest) (all : Reading (List NewChange)) → count ≡ length changes → length r.bytes ≤ n → records_from n changes r ≡ all → next_record count r ≡ Ok (None, rest) → all ≡ Ok (changes, rest)
records_end n count changes r rest all same_count room is e =
    sym is ∙ records_step n (n - 1) changes r room refl
    ∙ ap (λ x. x >>= λ c. more changes c.0 c.1 (λ all rest. records_from (n - 1) all rest)) (ap (λ k. next_record k r) (sym same_count) ∙ e)

pub record_more : (n m count : ℕ) (changes new : List NewChange) (c : NewChange) (r rest : Rest) (all : Reading (List NewChange)) → count ≡ length changes → length r.bytes ≤ n → m ≡ n - 1 → records_from n changes r ≡ all
    → next_record count r ≡ Ok (Some c, rest) → new ≡ changes ++ c ∷ [] → records_from m new rest ≡ all
record_more n m count changes new c r rest all same_count room k is e new_is =
    ap (λ cs. records_from m cs rest) new_is
    ∙ sym (ap (λ x. x >>= λ c. more changes c.0 c.1 (λ all rest. records_from m all rest)) (ap (λ k. next_record k r) (sym same_count) ∙ e)) ∙ sym (records_step n m changes r room k) ∙ is

-- ---- what is read stands in the bytes

-- changesets that are read behind others
record RecordsFound (changes : List NewChange) (r : Rest) (all : List NewChange) (rest : Rest) : Type 0 where
  new : List NewChange
  texts : List (List ℕ)
  is : all ≡ changes ++ new
  before : Before r (concat texts ++ line end_line) rest
  records : AreRecordTexts texts new
  least : 0 < length all
  most : length all ≤ most_records

records_found : (n : ℕ) (changes : List NewChange) (r : Rest) (p : List NewChange × Rest) → length changes ≤ most_records → records_from n changes r ≡ Ok p → RecordsFound changes r p.0 p.1
records_found zero changes r p few e = cc
records_found (suc n) changes r p few e =
    let b = bound (next_record (length changes) r) (λ c. more changes c.0 c.1 (λ all rest. records_from n all rest)) p e in
    by b.value.0 b.value.1 b.is b.gives (λ c. records_found n (changes ++ c ∷ []))
  where
    by : (o : Option NewChange) (mid : Rest) → next_record (length changes) r ≡ Ok (o, mid) → more changes o mid (λ all rest. records_from n all rest) ≡ Ok p →
        ((c : NewChange) (r : Rest) (p : List NewChange × Rest) → length (changes ++ c ∷ []) ≤ most_records → records_from n (changes ++ c ∷ []) r ≡ Ok p → RecordsFound (changes ++ c ∷ []) r p.0 p.1) → RecordsFound changes r p.0 p.1
    by None mid k e next =
        let h = next_none (length changes) r mid k in
        let P : List NewChange × Rest → Type 0 = λ q. RecordsFound changes r q.0 q.1 in
        let here : RecordsFound changes r changes mid = record { new = []; texts = []; is = sym (append-nil changes); before = h.0; records = tt; least = h.1; most = few } in
        subst P (ok_is (changes, mid) p e) here
    by (Some c) mid k e next =
        let h = next_some (length changes) r mid c k in
        let s = record_before r (c, mid) h.0 in
        let count = length_push changes c in
        let low = h.1 in
        let g = next c mid p (omega (arith, count, low)) e in
        let text = record_text s.says c in
        let first : Before r text mid = record { is = s.text; whole = s.whole } in
        record {
          new = c ∷ g.new;
          texts = text ∷ g.texts;
          is = g.is ∙ append_assoc changes (c ∷ []) g.new;
          before = before_same r p.1 (text ++ (concat g.texts ++ line end_line)) (concat (text ∷ g.texts) ++ line end_line) (sym (append_assoc text (concat g.texts) (line end_line))) (before_both r mid p.1 text (concat g.texts ++ line end_line) first g.before);
          records = (record { says = s.says; is = refl; valid = s.valid }, g.records);
          least = g.least;
          most = g.most;
        }

abbrev pub alone_behind : List NewChange × Rest → Result (List NewChange) InputFault
alone_behind p = nothing_behind p.1 >>= λ _. Ok p.0

-- they are the texts of an import where there were none before them
found_text : (r rest : Rest) (all : List NewChange) (h : RecordsFound [] r all rest) → IsImportText (concat h.texts ++ line end_line) all
found_text r rest all h = record { texts = h.texts; is = refl; records = subst (AreRecordTexts h.texts) (sym h.is) h.records; least = h.least; most = h.most }

pub import_before : (r rest : Rest) (changes : List NewChange) → import_from r ≡ Ok (changes, rest) → IsImportBefore r changes rest
import_before r rest changes e =
    let found = records_found (length r.bytes) [] r (changes, rest) (omega arith) e in
    record { text = concat found.texts ++ line end_line; is = found.before.is; records = found_text r rest changes found; whole = found.before.whole }

pub import_found : (bytes : List ℕ) (changes : List NewChange) → read_import bytes ≡ Ok changes → IsImport bytes changes
import_found bytes changes e =
    let a = bound (import_from (start_of bytes)) alone_behind changes e in
    let b = bound (nothing_behind a.value.1) (λ _. Ok a.value.0) changes a.gives in
    let before = import_before (start_of bytes) a.value.1 a.value.0 a.is in
    let none = none_behind a.value.1 b.is in
    let is : looked_at bytes ≡ before.text = before.is ∙ ap (λ t. before.text ++ t) none.0 ∙ append-nil before.text in
    let room : length (looked_at bytes) ≤ most_input = subst (λ n. n ≤ most_input) before.whole none.1 in
    let few = looked-length bytes room in
    let whole : IsImport (looked_at bytes) a.value.0 = record { text = subst (λ t. IsImportText t a.value.0) (sym is) before.records; size = room } in
    subst (IsImport bytes) (ok_is a.value.0 changes b.gives) (subst (λ b. IsImport b a.value.0) (looked-whole bytes (omega (arith, few))) whole)

-- ---- records are read

abbrev behind_commit : Wording → NewChange → List ℕ → List ℕ
behind_commit says c behind =
    flat_map parent_text c.parents ++ (line (codes "user " ++ c.user) ++ (line (codes "date " ++ date_text c.seconds c.offset [])
    ++ (phase_text says.draft c.phase ++ (bookmark_text c.bookmark ++ (branch_text says.default c.branch ++ (description_text c.description ++ (flat_map file_text c.files ++ (line (codes "end") ++ behind))))))))

one_back : (says : Wording) (count w : ℕ) (c : NewChange) (behind : List ℕ) → count < most_records → IsNewChange c → next_record count (left w (record_text says c ++ behind)) ≡ Ok (Some c, left w behind)
one_back says count w c behind few valid =
    let r = left w (record_text says c ++ behind) in
    let low : nat_lt count most_records ≡ true = le-leb (suc count) most_records (omega (arith, few)) in
    then_ok (next_line r) (codes "commit", left w (behind_commit says c behind)) (λ l. record_at count r l.0 l.1) (Ok (Some c, left w behind))
    (ap (λ b. next_line (left w b)) (record_then says c behind) ∙ line_back w (codes "commit") (behind_commit says c behind) (lacks_none (codes "commit") refl))
    (ap (λ t. if t then (record_from r >>= λ c. Ok (Some c.0, c.1)) else Err (bad_at (place r))) low
    ∙ then_ok (record_from r) (c, left w behind) (λ c. Ok (Some c.0, c.1)) (Ok (Some c, left w behind)) (record_front_back says c w behind valid) refl)

end_back : (count w : ℕ) (rest : List ℕ) → 0 < count → next_record count (left w (line end_line ++ rest)) ≡ Ok (None, left w rest)
end_back count w rest some =
    let r = left w (line end_line ++ rest) in
    let other : (count == 0) ≡ false = false_from_ne_true (count == 0) (λ t. let e = number_is count 0 t in absurd (omega (arith, e, some))) in
    then_ok (next_line r) (end_line, left w rest) (λ l. record_at count r l.0 l.1) (Ok (None, left w rest)) (line_back w end_line rest (lacks_none end_line refl))
    (ap (λ t. if not t then Ok (None, left w rest) else if nat_lt count most_records then (record_from r >>= λ c. Ok (Some c.0, c.1)) else Err (bad_at (place r))) other)

records_back : (n : ℕ) (changes new : List NewChange) (texts : List (List ℕ)) (w : ℕ) (rest : List ℕ) → length new < n → length changes + length new ≤ most_records → 0 < length changes + length new → AreRecordTexts texts new
    → records_from n changes (left w (concat texts ++ (line end_line ++ rest))) ≡ Ok (changes ++ new, left w rest)
records_back zero changes new texts w rest room few some are = absurd (omega (arith, room))
records_back (suc n) changes [] [] w rest room few some are =
    then_ok (next_record (length changes) (left w (line end_line ++ rest))) (None, left w rest) (λ c. more changes c.0 c.1 (λ all rest. records_from n all rest)) (Ok (changes ++ [], left w rest))
    (end_back (length changes) w rest (omega (arith, some))) (ap (λ t. Ok (t, left w rest)) (sym (append-nil changes)))
records_back (suc n) changes [] (text ∷ texts) w rest room few some are = absurd are
records_back (suc n) changes (c ∷ new) [] w rest room few some are = absurd are
records_back (suc n) changes (c ∷ new) (text ∷ texts) w rest room few some are =
    let behind = concat texts ++ (line end_line ++ rest) in
    let says = are.0.says in
    let count = length_push changes c in
    ap (λ b. records_from (suc n) changes (left w b)) (append_assoc text (concat texts) (line end_line ++ rest) ∙ ap (λ t. t ++ behind) are.0.is)
    ∙ then_ok (next_record (length changes) (left w (record_text says c ++ behind))) (Some c, left w behind) (λ c. more changes c.0 c.1 (λ all rest. records_from n all rest)) (Ok (changes ++ c ∷ new, left w rest))
    (one_back says (length changes) w c behind (omega (arith, few)) are.0.valid)
    (records_back n (changes ++ c ∷ []) new texts w rest (omega (arith, room)) (omega (arith, few, count)) (omega (arith, count)) are.1 ∙ ap (λ t. Ok (t, left w rest)) (append_assoc changes (c ∷ []) new))

texts_longer : (texts : List (List ℕ)) (changes : List NewChange) → AreRecordTexts texts changes → length changes ≤ length (concat texts)
texts_longer [] [] are = omega arith
texts_longer [] (c ∷ changes) are = absurd are
texts_longer (text ∷ texts) [] are = absurd are
texts_longer (text ∷ texts) (c ∷ changes) are =
    let rest = texts_longer texts changes are.1 in
    let size = length-append text (concat texts) in
    let is = ap length are.0.is in
    let some = record_some are.0.says c in
    omega (arith, rest, size, is, some)

pub import_front_back : (text : List ℕ) (changes : List NewChange) (w : ℕ) (behind : List ℕ) → IsImportText text changes → import_from (left w (text ++ behind)) ≡ Ok (changes, left w behind)
import_front_back text changes w behind h =
    let least = h.least in
    let most = h.most in
    let all = concat h.texts ++ (line end_line ++ behind) in
    let is : text ++ behind ≡ all = ap (λ t. t ++ behind) h.is ∙ append_assoc (concat h.texts) (line end_line) behind in
    let longer = texts_longer h.texts changes h.records in
    let size = length-append (concat h.texts) (line end_line ++ behind) in
    ap (λ b. records_from (length b) [] (left w b)) is ∙ records_back (length all) [] changes h.texts w behind (omega (arith, longer, size)) (omega (arith, most)) (omega (arith, least)) h.records

pub import_back : (bytes : List ℕ) (changes : List NewChange) → IsImport bytes changes → read_import bytes ≡ Ok changes
import_back bytes changes h =
    let w = length bytes in
    let small = h.size in
    ap (λ b. import_from (left (length b) b) >>= alone_behind) (looked-whole bytes (omega (arith, small)))
    ∙ then_ok (import_from (left w bytes)) (changes, left w []) alone_behind (Ok changes)
    (ap (λ b. import_from (left w b)) (sym (append-nil bytes)) ∙ import_front_back bytes changes w [] h.text)
    (ap (λ t. (if t then Ok tt else Err (Limit Record)) >>= λ _. Ok changes) (le-leb w most_input small))

-- ---- an import that is written

texts_of : (says : Wording) (changes : List NewChange) → AllByRecursion IsNewChange changes → AreRecordTexts (map (record_text says) changes) changes
texts_of says [] each = tt
texts_of says (c ∷ changes) each = (record { says = says; is = refl; valid = each.0 }, texts_of says changes each.1)

pub text_written : (says : Wording) (changes : List NewChange) → AreNewChanges changes → IsImportText (import_text says changes) changes
text_written says changes h = record { texts = map (record_text says) changes; is = refl; records = texts_of says changes h.each; least = h.least; most = h.most }

pub import_written : (says : Wording) (changes : List NewChange) → AreNewChanges changes → length (import_text says changes) ≤ most_input → read_import (import_text says changes) ≡ Ok changes
import_written says changes h small = import_back (import_text says changes) changes (record { text = text_written says changes h; size = small })

each_valid : (texts : List (List ℕ)) (changes : List NewChange) → AreRecordTexts texts changes → AllByRecursion IsNewChange changes
each_valid [] [] are = tt
each_valid [] (c ∷ changes) are = absurd are
each_valid (text ∷ texts) [] are = absurd are
each_valid (text ∷ texts) (c ∷ changes) are = (are.0.valid, each_valid texts changes are.1)

pub text_valid : (text : List ℕ) (changes : List NewChange) → IsImportText text changes → AreNewChanges changes
text_valid text changes h = record { least = h.least; most = h.most; each = each_valid h.texts changes h.records }
