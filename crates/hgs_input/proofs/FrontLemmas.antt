-- What is read of a front of an input: the same as of the whole, or that it is cut.
use Rattle.std.proofs.Common.{◌≡◌, inl, inr, ℕ, zero, suc, ◌+◌, ◌-◌, ◌<◌, ◌≤◌, Bool, true, false, List, [], ◌∷◌, ◌++◌, length, take, drop, Option, Some, None, Result, Ok, Err, refl, sym, ◌∙◌, ap, subst, arith, append_assoc, length-append, codes}
use Rattle.std.specs.Prelude.{◌==◌, nat_le, slice_index, is_some, unwrap_or, if◌then◌else◌}
use Rattle.std.specs.Str.{is_utf8}
use Rattle.std.proofs.Math.ListN.{get_or-append}
use Rattle.std.proofs.lemmas.Bool.{le-leb, leb-true, leb-false, false_from_ne_true}
use Rattle.std.proofs.lemmas.List.{nil_from_length, take-append-le, drop-append-le}
use Rattle.hgs_bytes.specs.Text.{split}
use Rattle.hgs_bytes.specs.Theorems.TextLemmas.{split_over, split_parts, number_is}
use Rattle.hgs_model.specs.declared.command.NewChange.{NewChange}
use Rattle.hgs_model.specs.declared.files.NewFile.{NewFile}
use Rattle.hgs_input.specs.declared.fault.InputFault.{InputFault}
use Rattle.hgs_input.specs.declared.fault.InputFault.TheVariants.{BadInput, Limit}
use Rattle.hgs_index.specs.declared.kinds.Which.{Which}
use Rattle.hgs_index.specs.declared.kinds.Which.TheVariants.{FileText, Tree, Record}
use Rattle.hgs_input.specs.Record.{most_input}
use Rattle.hgs_input.specs.Front.{Alike}
use Rattle.hgs_input.specs.Read.{Rest, Reading, ◌>>=◌, place, bad_at, line_or_cut, next_line, required_at, required, optional_at, optional, counted, word_of, parent_of, user_of, date_of, phase_of, bookmark_of, branch_of, branch_from, copyfrom_of, length_of, FileLine, file_of, more, parents_from, text_at, description_from, allowed, file_with, file_line_from, file_behind, next_file, files_from, nothing_behind, head_from, change_with, record_from, looked_at, read_record}
use Rattle.hgs_input.proofs.WholeLemmas.{end_from, change_from, looked-whole, looked-on, looked-front, read-looked, read-all}
use Rattle.hgs_input.proofs.FoundLemmas.{bound, contradiction, file_more_found, line_behind}
use Rattle.hgs_input.proofs.ReadLemmas.{at_end}
use Rattle.hgs_input.specs.Front.{left}
use Rattle.hgs_input.proofs.RecordFound.{none_behind, record_found}

-- ---- the front of an input, and the whole

pub alike_read : {A : Type 0} (w : ℕ) (tail rest : List ℕ) (x : A) → Alike w tail (Ok (x, left w rest)) (Ok (x, left (w + length tail) (rest ++ tail)))
alike_read w tail rest x = inr (inr (record { value = x; rest = rest; front = refl; all = refl }))

pub alike_fault : {A : Type 0} (w : ℕ) (tail : List ℕ) (e f : InputFault) → e ≡ f → Alike {A = A} w tail (Err e) (Err f)
alike_fault w tail e f h = inr (inl (record { fault = e; front = refl; all = ap (λ x. Err x) (sym h) }))

along : {A : Type 0} (w : ℕ) (tail : List ℕ) (a x b y : Reading A) → a ≡ x → b ≡ y → Alike w tail x y → Alike w tail a b
along w tail a x b y e f h = subst (λ r. Alike w tail r b) (sym e) (subst (λ r. Alike w tail x r) (sym f) h)

pub bind_alike : {A B : Type 0} (w : ℕ) (tail : List ℕ) (a b : Reading A) (f g : A × Rest → Reading B) → Alike w tail a b →
    ((x : A) (rest : List ℕ) → a ≡ Ok (x, left w rest) → Alike w tail (f (x, left w rest)) (g (x, left (w + length tail) (rest ++ tail)))) → Alike w tail (a >>= f) (b >>= g)
bind_alike w tail a b f g (inl h) k = inl (ap (λ r. r >>= f) h)
bind_alike w tail a b f g (inr (inl s)) k = inr (inl (record { fault = s.fault; front = ap (λ r. r >>= f) s.front; all = ap (λ r. r >>= g) s.all }))
bind_alike w tail a b f g (inr (inr s)) k =
    along w tail (a >>= f) (f (s.value, left w s.rest)) (b >>= g) (g (s.value, left (w + length tail) (s.rest ++ tail))) (ap (λ r. r >>= f) s.front) (ap (λ r. r >>= g) s.all) (k s.value s.rest s.front)

pub place_alike : (w : ℕ) (tail bytes : List ℕ) → place (left w bytes) ≡ place (left (w + length tail) (bytes ++ tail))
place_alike w tail bytes = let k = length-append bytes tail in omega (arith, k)

-- ---- lines and counted texts

pub line_alike : (w : ℕ) (tail bytes : List ℕ) → Alike w tail (next_line (left w bytes)) (next_line (left (w + length tail) (bytes ++ tail)))
line_alike w tail bytes = by (split 10 bytes) refl
  where
    by : (s : Option (List ℕ × List ℕ)) → split 10 bytes ≡ s → Alike w tail (line_or_cut (left w bytes) s) (next_line (left (w + length tail) (bytes ++ tail)))
    by None e = inl refl
    by (Some p) e =
        let parts = split_parts 10 bytes p e in
        let all : split 10 (bytes ++ tail) ≡ Some (p.0, p.1 ++ tail) =
        ap (λ t. split 10 (t ++ tail)) parts.0 ∙ ap (split 10) (append_assoc p.0 (10 ∷ p.1) tail) ∙ split_over 10 p.0 (p.1 ++ tail) parts.1 in
        inr (inr (record { value = p.0; rest = p.1; front = refl; all = ap (line_or_cut (left (w + length tail) (bytes ++ tail))) all }))

required_alike : {A : Type 0} (form : List ℕ → Option A) (w : ℕ) (tail bytes : List ℕ) → Alike w tail (required form (left w bytes)) (required form (left (w + length tail) (bytes ++ tail)))
required_alike {A} form w tail bytes =
    let r = left w bytes in
    let s = left (w + length tail) (bytes ++ tail) in
    bind_alike w tail (next_line r) (next_line s) (λ l. required_at (place r) (form l.0) l.1) (λ l. required_at (place s) (form l.0) l.1) (line_alike w tail bytes) (λ x rest e. by (form x) rest)
  where
    by : (o : Option A) (rest : List ℕ) → Alike w tail (required_at (place (left w bytes)) o (left w rest)) (required_at (place (left (w + length tail) (bytes ++ tail))) o (left (w + length tail) (rest ++ tail)))
    by None rest = alike_fault w tail (bad_at (place (left w bytes))) (bad_at (place (left (w + length tail) (bytes ++ tail)))) (ap bad_at (place_alike w tail bytes))
    by (Some y) rest = alike_read w tail rest y

optional_alike : {A : Type 0} (form : List ℕ → Option A) (w : ℕ) (tail bytes : List ℕ) → Alike w tail (optional form (left w bytes)) (optional form (left (w + length tail) (bytes ++ tail)))
optional_alike {A} form w tail bytes =
    let r = left w bytes in
    let s = left (w + length tail) (bytes ++ tail) in
    bind_alike w tail (next_line r) (next_line s) (λ l. optional_at r (form l.0) l.1) (λ l. optional_at s (form l.0) l.1) (line_alike w tail bytes) (λ x rest e. by (form x) rest)
  where
    by : (o : Option A) (rest : List ℕ) → Alike w tail (optional_at (left w bytes) o (left w rest)) (optional_at (left (w + length tail) (bytes ++ tail)) o (left (w + length tail) (rest ++ tail)))
    by None rest = alike_read w tail bytes None
    by (Some y) rest = alike_read w tail rest (Some y)

counted_alike : (n w : ℕ) (tail bytes : List ℕ) → Alike w tail (counted n (left w bytes)) (counted n (left (w + length tail) (bytes ++ tail)))
counted_alike n w tail bytes = by (nat_le (length bytes) n) refl
  where
    seam : (t : Bool) → Alike w tail (if t then Ok (take n bytes, left w (drop (n + 1) bytes)) else Err (bad_at (place (left w bytes))))
        (if t then Ok (take n bytes, left (w + length tail) (drop (n + 1) bytes ++ tail)) else Err (bad_at (place (left w bytes))))
    seam true = alike_read w tail (drop (n + 1) bytes) (take n bytes)
    seam false = alike_fault w tail (bad_at (place (left w bytes))) (bad_at (place (left w bytes))) refl

    by : (t : Bool) → nat_le (length bytes) n ≡ t → Alike w tail (counted n (left w bytes)) (counted n (left (w + length tail) (bytes ++ tail)))
    by true e = inl (ap (λ t. if t then Err (bad_at w) else if slice_index bytes n == 10 then Ok (take n bytes, left w (drop (n + 1) bytes)) else Err (bad_at (place (left w bytes)))) e)
    by false e =
        let all = bytes ++ tail in
        let v = w + length tail in
        let room = leb-false (length bytes) n e in
        let size = length-append bytes tail in
        let high : nat_le (length all) n ≡ false = false_from_ne_true (nat_le (length all) n) (λ t. let k = leb-true (length all) n t in absurd (omega (arith, k, size, room))) in
        let front : counted n (left w bytes) ≡ (if slice_index bytes n == 10 then Ok (take n bytes, left w (drop (n + 1) bytes)) else Err (bad_at (place (left w bytes)))) =
        ap (λ t. if t then Err (bad_at w) else if slice_index bytes n == 10 then Ok (take n bytes, left w (drop (n + 1) bytes)) else Err (bad_at (place (left w bytes)))) e in
        let whole : counted n (left v all) ≡ (if slice_index bytes n == 10 then Ok (take n bytes, left v (drop (n + 1) bytes ++ tail)) else Err (bad_at (place (left w bytes)))) =
        ap (λ t. if t then Err (bad_at v) else if slice_index all n == 10 then Ok (take n all, left v (drop (n + 1) all)) else Err (bad_at (place (left v all)))) high
        ∙ ap (λ x. if x == 10 then Ok (take n all, left v (drop (n + 1) all)) else Err (bad_at (place (left v all)))) (get_or-append bytes tail 0 n room)
        ∙ ap (λ t. if slice_index bytes n == 10 then Ok (t, left v (drop (n + 1) all)) else Err (bad_at (place (left v all)))) (take-append-le n bytes tail (omega (arith, room)))
        ∙ ap (λ t. if slice_index bytes n == 10 then Ok (take n bytes, left v t) else Err (bad_at (place (left v all)))) (drop-append-le (n + 1) bytes tail (omega (arith, room)))
        ∙ ap (λ p. if slice_index bytes n == 10 then Ok (take n bytes, left v (drop (n + 1) bytes ++ tail)) else Err (bad_at p)) (sym (place_alike w tail bytes)) in
        along w tail _ _ _ _ front whole (seam (slice_index bytes n == 10))

-- ---- the parts of a record

parents_alike : (n : ℕ) (names : List (List ℕ)) (w : ℕ) (tail bytes : List ℕ) → Alike w tail (parents_from n names (left w bytes)) (parents_from n names (left (w + length tail) (bytes ++ tail)))
parents_alike zero names w tail bytes = alike_read w tail bytes names
parents_alike (suc n) names w tail bytes =
    bind_alike w tail (optional parent_of (left w bytes)) (optional parent_of (left (w + length tail) (bytes ++ tail))) (λ p. more names p.0 p.1 (λ all rest. parents_from n all rest)) (λ p. more names p.0 p.1 (λ all rest. parents_from n all rest))
    (optional_alike parent_of w tail bytes) (λ o rest e. by o rest (λ x. parents_alike n (names ++ x ∷ []) w tail rest))
  where
    by : (o : Option (List ℕ)) (rest : List ℕ) → ((x : List ℕ) → Alike w tail (parents_from n (names ++ x ∷ []) (left w rest)) (parents_from n (names ++ x ∷ []) (left (w + length tail) (rest ++ tail)))) →
        Alike w tail (more names o (left w rest) (λ all rest. parents_from n all rest)) (more names o (left (w + length tail) (rest ++ tail)) (λ all rest. parents_from n all rest))
    by None rest k = alike_read w tail rest names
    by (Some x) rest k = k x

text_alike : (at other : ℕ) (text : List ℕ) (w : ℕ) (tail rest : List ℕ) → at ≡ other → Alike w tail (text_at at text (left w rest)) (text_at other text (left (w + length tail) (rest ++ tail)))
text_alike at other text w tail rest e = by (is_utf8 text)
  where
    by : (t : Bool) → Alike w tail (if t then Ok (text, left w rest) else Err (bad_at at)) (if t then Ok (text, left (w + length tail) (rest ++ tail)) else Err (bad_at other))
    by true = alike_read w tail rest text
    by false = alike_fault w tail (bad_at at) (bad_at other) (ap bad_at e)

description_alike : (w : ℕ) (tail bytes : List ℕ) → Alike w tail (description_from (left w bytes)) (description_from (left (w + length tail) (bytes ++ tail)))
description_alike w tail bytes =
    let v = w + length tail in
    let after = λ (n : ℕ × Rest). counted n.0 n.1 >>= λ text. text_at (place n.1) text.0 text.1 in
    bind_alike w tail (required length_of (left w bytes)) (required length_of (left v (bytes ++ tail))) after after (required_alike length_of w tail bytes)
    (λ n rest e. bind_alike w tail (counted n (left w rest)) (counted n (left v (rest ++ tail))) (λ text. text_at (place (left w rest)) text.0 text.1) (λ text. text_at (place (left v (rest ++ tail))) text.0 text.1) (counted_alike n w tail rest)
    (λ text last e. text_alike (place (left w rest)) (place (left v (rest ++ tail))) text w tail last (place_alike w tail rest)))

-- the body behind the line of a file
abbrev body : Option (List ℕ) → List ℕ → ℕ → FileLine → Reading (Option NewFile)
body from rest v f = counted f.size (left v rest) >>= λ text. Ok (Some (file_with f from text.0), text.1)

file_line_alike : (wanted : Bool) (w : ℕ) (tail bytes : List ℕ) → Alike w tail (file_line_from wanted (left w bytes)) (file_line_from wanted (left (w + length tail) (bytes ++ tail)))
file_line_alike false w tail bytes = optional_alike file_of w tail bytes
file_line_alike true w tail bytes = bind_alike w tail _ _ _ _ (required_alike file_of w tail bytes) (λ line rest e. alike_read w tail rest (Some line))

file_alike : (files : List NewFile) (w : ℕ) (tail bytes : List ℕ) → Alike w tail (next_file files (left w bytes)) (next_file files (left (w + length tail) (bytes ++ tail)))
file_alike files w tail bytes =
    bind_alike w tail (optional copyfrom_of (left w bytes)) (optional copyfrom_of (left (w + length tail) (bytes ++ tail))) (λ from. line_behind files from.0 from.1) (λ from. line_behind files from.0 from.1) (optional_alike copyfrom_of w tail bytes)
    (λ from at e. behind_source from at)
  where
    allowed_alike : (from : Option (List ℕ)) (x : Result FileLine InputFault) (rest : List ℕ) → Alike w tail (x >>= body from rest w) (x >>= body from (rest ++ tail) (w + length tail))
    allowed_alike from (Err e) rest = alike_fault w tail e e refl
    allowed_alike from (Ok f) rest =
        bind_alike w tail (counted f.size (left w rest)) (counted f.size (left (w + length tail) (rest ++ tail))) (λ text. Ok (Some (file_with f from text.0), text.1)) (λ text. Ok (Some (file_with f from text.0), text.1)) (counted_alike f.size w tail rest)
        (λ text last e. alike_read w tail last (Some (file_with f from text)))

    by : (from : Option (List ℕ)) (at : List ℕ) (o : Option FileLine) (rest : List ℕ) →
        Alike w tail (file_behind (place (left w at)) files from o (left w rest)) (file_behind (place (left (w + length tail) (at ++ tail))) files from o (left (w + length tail) (rest ++ tail)))
    by from at None rest = alike_read w tail rest None
    by from at (Some line) rest =
        subst (λ p. Alike w tail (file_behind (place (left w at)) files from (Some line) (left w rest)) (file_behind p files from (Some line) (left (w + length tail) (rest ++ tail)))) (place_alike w tail at)
        (allowed_alike from (allowed (place (left w at)) files line) rest)

    behind_source : (from : Option (List ℕ)) (at : List ℕ) → Alike w tail (line_behind files from (left w at)) (line_behind files from (left (w + length tail) (at ++ tail)))
    behind_source from at =
        let r = left w at in
        let s = left (w + length tail) (at ++ tail) in
        bind_alike w tail (file_line_from (is_some from) r) (file_line_from (is_some from) s) (λ p. file_behind (place r) files from p.0 p.1) (λ p. file_behind (place s) files from p.0 p.1) (file_line_alike (is_some from) w tail at)
        (λ o rest e. by from at o rest)

files_alike : (n m : ℕ) (files : List NewFile) (w : ℕ) (tail bytes : List ℕ) → length bytes ≤ n → length (bytes ++ tail) ≤ m → Alike w tail (files_from n files (left w bytes)) (files_from m files (left (w + length tail) (bytes ++ tail)))
files_alike zero m files w tail bytes a b = inl refl
files_alike (suc n) zero files w tail bytes a b =
    let size = length-append bytes tail in
    let none : bytes ≡ [] = nil_from_length bytes (omega (arith, size, b)) in
    inl (ap (λ x. x >>= λ p. more files p.0 p.1 (λ all rest. files_from n all rest)) (at_end files (left w bytes) none))
files_alike (suc n) (suc m) files w tail bytes a b =
    bind_alike w tail (next_file files (left w bytes)) (next_file files (left (w + length tail) (bytes ++ tail))) (λ p. more files p.0 p.1 (λ all rest. files_from n all rest)) (λ p. more files p.0 p.1 (λ all rest. files_from m all rest))
    (file_alike files w tail bytes) (λ o rest e. by o rest e (λ f. files_alike n m (files ++ f ∷ []) w tail rest))
  where
    by : (o : Option NewFile) (rest : List ℕ) → next_file files (left w bytes) ≡ Ok (o, left w rest) →
        ((f : NewFile) → length rest ≤ n → length (rest ++ tail) ≤ m → Alike w tail (files_from n (files ++ f ∷ []) (left w rest)) (files_from m (files ++ f ∷ []) (left (w + length tail) (rest ++ tail)))) →
        Alike w tail (more files o (left w rest) (λ all rest. files_from n all rest)) (more files o (left (w + length tail) (rest ++ tail)) (λ all rest. files_from m all rest))
    by None rest e k = alike_read w tail rest files
    by (Some f) rest e k =
        let fewer = (file_more_found files (left w bytes) (left w rest) f e).fewer in
        let x = length-append bytes tail in
        let y = length-append rest tail in
        k f (omega (arith, fewer, a)) (omega (arith, fewer, b, x, y))

branch_alike : (w : ℕ) (tail bytes : List ℕ) → Alike w tail (branch_from (left w bytes)) (branch_from (left (w + length tail) (bytes ++ tail)))
branch_alike w tail bytes = bind_alike w tail _ _ _ _ (optional_alike branch_of w tail bytes) (λ o rest e. alike_read w tail rest (unwrap_or o None))

head_alike : (w : ℕ) (tail bytes : List ℕ) → Alike w tail (head_from (left w bytes)) (head_from (left (w + length tail) (bytes ++ tail)))
head_alike w tail bytes =
    bind_alike w tail _ _ _ _ (required_alike (word_of (codes "commit")) w tail bytes)
    (λ _ r1 e1. bind_alike w tail _ _ _ _ (parents_alike 2 [] w tail r1)
    (λ parents r2 e2. bind_alike w tail _ _ _ _ (required_alike user_of w tail r2)
    (λ user r3 e3. bind_alike w tail _ _ _ _ (required_alike date_of w tail r3)
    (λ date r4 e4. bind_alike w tail _ _ _ _ (optional_alike phase_of w tail r4)
    (λ phase r5 e5. bind_alike w tail _ _ _ _ (optional_alike bookmark_of w tail r5)
    (λ bookmark r6 e6. bind_alike w tail _ _ _ _ (branch_alike w tail r6)
    (λ branch r7 e7. alike_read w tail r7 (record { parents = parents; user = user; date = date; phase = phase; bookmark = bookmark; branch = branch }))))))))

pub record_alike : (w : ℕ) (tail bytes : List ℕ) → Alike w tail (record_from (left w bytes)) (record_from (left (w + length tail) (bytes ++ tail)))
record_alike w tail bytes =
    bind_alike w tail _ _ _ _ (head_alike w tail bytes)
    (λ head r1 e1. bind_alike w tail _ _ _ _ (description_alike w tail r1)
    (λ text r2 e2. bind_alike w tail _ _ _ _ (files_alike (length r2) (length (r2 ++ tail)) [] w tail r2 (omega arith) (omega arith))
    (λ files r3 e3. bind_alike w tail _ _ _ _ (required_alike (word_of (codes "end")) w tail r3)
    (λ _ r4 e4. alike_read w tail r4 (change_with head text files)))))

-- ---- a front of a record

err_ok : {B : Type 0} (e : InputFault) (y : B) → ◌≡◌ {A = Result B InputFault} (Err e) (Ok y) → ⊥
err_ok e y h = cc

-- where the whole is read to its end, the front is cut at once or further on
pub bind_cut : {A B : Type 0} (w : ℕ) (tail : List ℕ) (a b : Reading A) (f g : A × Rest → Result B InputFault) (y : B) → Alike w tail a b → (b >>= g) ≡ Ok y →
    ((x : A) (rest : List ℕ) → g (x, left (w + length tail) (rest ++ tail)) ≡ Ok y → f (x, left w rest) ≡ Err (bad_at w)) → (a >>= f) ≡ Err (bad_at w)
bind_cut w tail a b f g y (inl h) e k = ap (λ r. r >>= f) h
bind_cut w tail a b f g y (inr (inl s)) e k = absurd (err_ok s.fault y (sym (ap (λ r. r >>= g) s.all) ∙ e))
bind_cut w tail a b f g y (inr (inr s)) e k = ap (λ r. r >>= f) s.front ∙ k s.value s.rest (sym (ap (λ r. r >>= g) s.all) ∙ e)

pub not_at_end : (w b : ℕ) (more rest : List ℕ) → nothing_behind (left w (rest ++ b ∷ more)) ≡ Ok tt → ⊥
not_at_end w b more rest e =
    let none = ap length (none_behind (left w (rest ++ b ∷ more)) e).0 in
    let size = length-append rest (b ∷ more) in
    absurd (omega (arith, none, size))

end_cut : (w b : ℕ) (more bytes : List ℕ) → end_from (left (w + length (b ∷ more)) (bytes ++ b ∷ more)) ≡ Ok tt → end_from (left w bytes) ≡ Err (bad_at w)
end_cut w b more bytes e =
    let tail = b ∷ more in
    bind_cut w tail (required (word_of (codes "end")) (left w bytes)) (required (word_of (codes "end")) (left (w + length tail) (bytes ++ tail))) (λ x. nothing_behind x.1) (λ x. nothing_behind x.1) tt (required_alike (word_of (codes "end")) w tail bytes) e
    (λ _ rest k. absurd (not_at_end (w + length tail) b more rest k))

change_cut : (w b : ℕ) (more bytes : List ℕ) (c : NewChange) → change_from (left (w + length (b ∷ more)) (bytes ++ b ∷ more)) ≡ Ok c → change_from (left w bytes) ≡ Err (bad_at w)
change_cut w b more bytes c e =
    let tail = b ∷ more in
    bind_cut w tail _ _ _ _ c (head_alike w tail bytes) e
    (λ head r1 k1. bind_cut w tail _ _ _ _ c (description_alike w tail r1) k1
    (λ text r2 k2. bind_cut w tail _ _ _ _ c (files_alike (length r2) (length (r2 ++ tail)) [] w tail r2 (omega arith) (omega arith)) k2
    (λ files r3 k3. let last = bound (end_from (left (w + length tail) (r3 ++ tail))) _ c k3 in ap (λ x. x >>= λ _. Ok (change_with head text files)) (end_cut w b more r3 last.is))))

pub front_cut : (front more : List ℕ) (b : ℕ) (c : NewChange) → read_record (front ++ b ∷ more) ≡ Ok c → read_record front ≡ Err (BadInput (length front))
front_cut front more b c e =
    let tail = b ∷ more in
    let size = length-append front tail in
    let room = (record_found (front ++ tail) c e).size in
    let all : looked_at (front ++ tail) ≡ front ++ tail = looked-whole (front ++ tail) (omega (arith, room)) in
    let whole : change_from (left (length front + length tail) (front ++ tail)) ≡ Ok c = ap (λ n. change_from (left n (front ++ tail))) (sym size) ∙ sym (read-all (front ++ tail) (front ++ tail) all) ∙ e in
    read-all front front (looked-whole front (omega (arith, room, size)))
    ∙ change_cut (length front) b more front c whole ∙ ap (λ t. Err (if t then BadInput (length front) else Limit Record)) (le-leb (length front) most_input (omega (arith, room, size)))

-- ---- what stands behind a fault

pub bad_is : (w at : ℕ) → ◌≡◌ {A = InputFault} (bad_at w) (BadInput at) → w ≡ at
bad_is w at e = by (nat_le w most_input) refl e
  where
    by : (t : Bool) → nat_le w most_input ≡ t → ◌≡◌ {A = InputFault} (if t then BadInput w else Limit Record) (BadInput at) → w ≡ at
    by true h k = cc
    by false h k = cc

err_is : {B : Type 0} (e f : InputFault) → ◌≡◌ {A = Result B InputFault} (Err e) (Err f) → e ≡ f
err_is e f h = cc

-- a fault other than that of an input that is cut, or longer than the limit
pub record IsBefore (w : ℕ) (f : InputFault) : Type 0 where
  pub cut : ◌≡◌ {A = InputFault} (bad_at w) f → ⊥
  pub long : ◌≡◌ {A = InputFault} (Limit Record) f → ⊥

pub bind_stay : {A B : Type 0} (w : ℕ) (tail : List ℕ) (a b : Reading A) (f g : A × Rest → Result B InputFault) (e : InputFault) → Alike w tail a b → IsBefore w e → (a >>= f) ≡ Err e →
    ((x : A) (rest : List ℕ) → f (x, left w rest) ≡ Err e → g (x, left (w + length tail) (rest ++ tail)) ≡ Err e) → (b >>= g) ≡ Err e
bind_stay {A} {B} w tail a b f g e (inl h) other is k = absurd (other.cut (err_is {B = B} (bad_at w) e (sym (ap (λ r. r >>= f) h) ∙ is)))
bind_stay w tail a b f g e (inr (inl s)) other is k = ap (λ r. r >>= g) s.all ∙ sym (ap (λ r. r >>= f) s.front) ∙ is
bind_stay w tail a b f g e (inr (inr s)) other is k = ap (λ r. r >>= g) s.all ∙ k s.value s.rest (sym (ap (λ r. r >>= f) s.front) ∙ is)

pub nothing_stays : (w : ℕ) (e : InputFault) (tail rest : List ℕ) → IsBefore w e → nothing_behind (left w rest) ≡ Err e → nothing_behind (left (w + length tail) (rest ++ tail)) ≡ Err e
nothing_stays w e tail rest other is = by (length rest == 0) (nat_le w most_input) refl is
  where
    by : (s t : Bool) → (length rest == 0) ≡ s → ◌≡◌ {A = Result (Unit {0}) InputFault} (if s then (if t then Ok tt else Err (Limit Record)) else Err (bad_at (place (left w rest)))) (Err e) →
        nothing_behind (left (w + length tail) (rest ++ tail)) ≡ Err e
    by true true h k = cc
    by true false h k = absurd (other.long (err_is {B = Unit {0}} (Limit Record) e k))
    by false t h k =
        let size = length-append rest tail in
        let some : (length (rest ++ tail) == 0) ≡ false = false_from_ne_true (length (rest ++ tail) == 0) (λ t. let n = number_is (length (rest ++ tail)) 0 t in let z : (length rest == 0) ≡ true = ap (λ m. m == 0) (zero_of rest (omega (arith, n, size))) in absurd (contradiction (length rest == 0) h z)) in
        ap (λ t. if t then (if nat_le (w + length tail) most_input then Ok tt else Err (Limit Record)) else Err (bad_at (place (left (w + length tail) (rest ++ tail))))) some
        ∙ ap (λ p. Err (bad_at p)) (sym (place_alike w tail rest)) ∙ k
      where
        zero_of : (xs : List ℕ) → length xs ≤ 0 → length xs ≡ 0
        zero_of xs h = omega (arith, h)

end_stays : (w : ℕ) (e : InputFault) (tail bytes : List ℕ) → IsBefore w e → end_from (left w bytes) ≡ Err e → end_from (left (w + length tail) (bytes ++ tail)) ≡ Err e
end_stays w e tail bytes other is =
    bind_stay w tail (required (word_of (codes "end")) (left w bytes)) (required (word_of (codes "end")) (left (w + length tail) (bytes ++ tail))) (λ x. nothing_behind x.1) (λ x. nothing_behind x.1) e (required_alike (word_of (codes "end")) w tail bytes) other is
    (λ _ rest k. nothing_stays w e tail rest other k)

pub then_err : {A B : Type 0} (x : Result A InputFault) (f : A → B) (e : InputFault) → (x >>= λ a. Ok (f a)) ≡ Err e → x ≡ Err e
then_err (Ok a) f e h = absurd (err_ok e (f a) (sym h))
then_err {A} {B} (Err d) f e h = ap (λ z. Err z) (err_is {B = B} d e h)

change_stays : (w : ℕ) (e : InputFault) (tail bytes : List ℕ) → IsBefore w e → change_from (left w bytes) ≡ Err e → change_from (left (w + length tail) (bytes ++ tail)) ≡ Err e
change_stays w e tail bytes other is =
    bind_stay w tail _ _ _ _ e (head_alike w tail bytes) other is
    (λ head r1 k1. bind_stay w tail _ _ _ _ e (description_alike w tail r1) other k1
    (λ text r2 k2. bind_stay w tail _ _ _ _ e (files_alike (length r2) (length (r2 ++ tail)) [] w tail r2 (omega arith) (omega arith)) other k2
    (λ files r3 k3. ap (λ x. x >>= λ _. Ok (change_with head text files)) (end_stays w e tail r3 other (then_err (end_from (left w r3)) _ e k3)))))

-- what stands behind the first byte past the limit decides nothing
pub decided : (front more : List ℕ) → most_input < length front → read_record (front ++ more) ≡ read_record front
decided front more long = read-looked (front ++ more) ∙ ap (λ b. change_from (left (length b) b)) (looked-front front more (omega (arith, long))) ∙ sym (read-looked front)

stays : (front more : List ℕ) (e : InputFault) → IsBefore (length front) e → read_record front ≡ Err e → read_record (front ++ more) ≡ Err e
stays front more e other is = by (nat_le (length front) most_input) refl
  where
    by : (b : Bool) → nat_le (length front) most_input ≡ b → read_record (front ++ more) ≡ Err e
    by true h =
        let room = leb-true (length front) most_input h in
        let rest = take (most_input + 1 - length front) more in
        read-all (front ++ more) (front ++ rest) (looked-on front more (omega (arith, room)))
        ∙ ap (λ n. change_from (left n (front ++ rest))) (length-append front rest)
        ∙ change_stays (length front) e rest front other (sym (read-all front front (looked-whole front (omega (arith, room)))) ∙ is)
    by false h = decided front more (leb-false (length front) most_input h) ∙ is

pub fault_stays : (front more : List ℕ) (at : ℕ) → at < length front → read_record front ≡ Err (BadInput at) → read_record (front ++ more) ≡ Err (BadInput at)
fault_stays front more at lt is = stays front more (BadInput at) (record { cut = λ h. (let same = bad_is (length front) at h in absurd (omega (arith, same, lt))); long = no }) is
  where
    no : ◌≡◌ {A = InputFault} (Limit Record) (BadInput at) → ⊥
    no h = cc

-- the limit of one thing in a record is not that of the input
pub other_limit : (w : ℕ) (which : Which) → (◌≡◌ {A = InputFault} (Limit Record) (Limit which) → ⊥) → IsBefore w (Limit which)
other_limit w which other = record { cut = by (nat_le w most_input); long = other }
  where
    by : (t : Bool) → ◌≡◌ {A = InputFault} (if t then BadInput w else Limit Record) (Limit which) → ⊥
    by true k = cc
    by false k = other k

pub body_stays : (front more : List ℕ) → read_record front ≡ Err (Limit FileText) → read_record (front ++ more) ≡ Err (Limit FileText)
body_stays front more is = stays front more (Limit FileText) (other_limit (length front) FileText no) is
  where
    no : ◌≡◌ {A = InputFault} (Limit Record) (Limit FileText) → ⊥
    no h = cc

pub files_stay : (front more : List ℕ) → read_record front ≡ Err (Limit Tree) → read_record (front ++ more) ≡ Err (Limit Tree)
files_stay front more is = stays front more (Limit Tree) (other_limit (length front) Tree no) is
  where
    no : ◌≡◌ {A = InputFault} (Limit Record) (Limit Tree) → ⊥
    no h = cc
