-- The text of a record is read as its changeset.
use Rattle.std.proofs.Common.{◌≡◌, ℕ, zero, suc, ◌+◌, ◌<◌, ◌≤◌, ◌^◌, Bool, true, false, ◌&&◌, ◌||◌, List, [], ◌∷◌, ◌++◌, length, take, drop, get_or, Option, Some, None, Result, Ok, Err, ℤ, refl, sym, ◌∙◌, ap, subst, arith, append_assoc, length-append, codes, unsigned_abs, min, lit<}
use Rattle.std.specs.Prelude.{◌==◌, not, nat_le, nat_lt, slice_index, decimal, flat_map, unwrap_or, is_some, if◌then◌else◌, IfSome, IsUtf8}
use Rattle.std.specs.List.{AllByRecursion, list_any, list_all}
use Rattle.std.specs.Fmt.{signed_decimal}
use Rattle.std.specs.Str.{is_utf8}
use Rattle.std.specs.Str.Parse.{AllDigits, digits_value}
use Rattle.std.proofs.lemmas.Bool.{le-leb, leb-true, false_from_ne_true}
use Rattle.std.proofs.lemmas.Fmt.{decimal_is_IsNumeral, first_decimal, decimal_digit}
use Rattle.std.proofs.lemmas.List.{append-nil, length_push}
use Rattle.std.proofs.lemmas.Str.{is_utf8-from_IsUtf8}
use Rattle.std.proofs.lemmas.Str.Parse.{digit_from_value}
use Rattle.hgs_bytes.specs.Bytes.{same, among, is_below, begins_with}
use Rattle.hgs_bytes.specs.Path.{components, is_line_byte}
use Rattle.hgs_bytes.specs.Text.{Lacks, line, split, ascends}
use Rattle.hgs_bytes.specs.Theorems.ByteLemmas.{same-refl}
use Rattle.hgs_bytes.specs.Theorems.TextLemmas.{split_over, lacks-append, number_is}
use Rattle.hgs_index.specs.Theorems.HeaderText.{line_then, split_lacks}
use Rattle.hgs_index.specs.Theorems.NumberText.{number_lacks, number_back}
use Rattle.hgs_index.specs.declared.kinds.Flag.{Flag}
use Rattle.hgs_index.specs.declared.kinds.Flag.TheVariants.{Plain, Exec, Link}
use Rattle.hgs_index.specs.ChangeText.{When, date_text, most_seconds, most_offset, number_within, when_of, when_behind, when_parts, offset_and_extras, when_at}
use Rattle.hgs_index.specs.MarkName.{reserved_names, is_name_end, is_digit, ends_in_space, is_mark_name}
use Rattle.hgs_index.specs.TrackedPath.{is_forbidden, is_tracked}
use Rattle.hgs_model.specs.declared.command.NewChange.{NewChange}
use Rattle.hgs_model.specs.declared.files.NewFile.{NewFile}
use Rattle.hgs_model.specs.declared.phase.Phase.{Phase}
use Rattle.hgs_model.specs.declared.phase.Phase.TheVariants.{Public, Draft, Secret}
use Rattle.hgs_model.specs.Phase.{phase_name}
use Rattle.hgs_model.specs.Valid.{ends_in, has_directory, is_branch_name, is_source, new_paths, IsNewChange}
use Rattle.hgs_input.specs.declared.fault.InputFault.{InputFault}
use Rattle.hgs_input.specs.declared.fault.InputFault.TheVariants.{Limit}
use Rattle.hgs_index.specs.declared.kinds.Which.TheVariants.{FileText, Tree, Record}
use Rattle.hgs_input.specs.Record.{most_input, parent_text, phase_text, bookmark_text, branch_text, description_text, flag_sign, copyfrom_text, file_text, Wording, record_text}
use Rattle.hgs_input.specs.Read.{Rest, ◌>>=◌, place, bad_at, fault_at, line_or_cut, next_line, required_at, required, optional_at, optional, counted, behind, and_then, where_true, word_of, parent_of, is_user, most_user, user_of, date_of, phase_of, bookmark_of, branch_of, branch_from, copyfrom_of, is_number, number_up_to, most_description, length_of, FileLine, flag_of, file_of_parts, file_of, more, parents_from, text_at, description_from, fits_behind, allowed, file_with, file_line_from, file_behind, most_file, most_files, next_file, files_from, nothing_behind, Head, head_from, change_with, record_from, read_record}
use Rattle.hgs_input.specs.Front.{left}
use Rattle.hgs_input.proofs.WholeLemmas.{record_then, looked-whole}
use Rattle.hgs_input.proofs.PathLemmas.{begins_front, drop_front, take_front, any_there, any_found, or_true, both, contradiction, any-append}
use Rattle.hgs_input.proofs.FoundLemmas.{not_true, paths-push, line_behind, file_text_some}

pub then_ok : {A B : Type 0} (x : Result A InputFault) (a : A) (f : A → Result B InputFault) (y : Result B InputFault) → x ≡ Ok a → f a ≡ y → (x >>= f) ≡ y
then_ok x a f y e h = ap (λ r. r >>= f) e ∙ h

-- ---- lines and counted texts

pub line_back : (w : ℕ) (text rest : List ℕ) → Lacks 10 text → next_line (left w (line text ++ rest)) ≡ Ok (text, left w rest)
line_back w text rest l = ap (line_or_cut (left w (line text ++ rest))) (ap (split 10) (line_then text rest) ∙ split_over 10 text rest l)

required_back : {A : Type 0} (form : List ℕ → Option A) (w : ℕ) (text rest : List ℕ) (x : A) → Lacks 10 text → form text ≡ Some x → required form (left w (line text ++ rest)) ≡ Ok (x, left w rest)
required_back form w text rest x l e =
    let r = left w (line text ++ rest) in
    then_ok (next_line r) (text, left w rest) (λ l. required_at (place r) (form l.0) l.1) (Ok (x, left w rest)) (line_back w text rest l) (ap (λ o. required_at (place r) o (left w rest)) e)

optional_back : {A : Type 0} (form : List ℕ → Option A) (w : ℕ) (text rest : List ℕ) (x : A) → Lacks 10 text → form text ≡ Some x → optional form (left w (line text ++ rest)) ≡ Ok (Some x, left w rest)
optional_back form w text rest x l e =
    let r = left w (line text ++ rest) in
    then_ok (next_line r) (text, left w rest) (λ l. optional_at r (form l.0) l.1) (Ok (Some x, left w rest)) (line_back w text rest l) (ap (λ o. optional_at r o (left w rest)) e)

-- a line of another form stays
optional_other : {A : Type 0} (form : List ℕ → Option A) (w : ℕ) (text rest : List ℕ) → Lacks 10 text → form text ≡ None → optional form (left w (line text ++ rest)) ≡ Ok (None, left w (line text ++ rest))
optional_other form w text rest l e =
    let r = left w (line text ++ rest) in
    then_ok (next_line r) (text, left w rest) (λ l. optional_at r (form l.0) l.1) (Ok (None, r)) (line_back w text rest l) (ap (λ o. optional_at r o (left w rest)) e)

at_seam : (xs : List ℕ) (y : ℕ) (ys : List ℕ) → get_or (xs ++ y ∷ ys) (length xs) 0 ≡ y
at_seam [] y ys = refl
at_seam (x ∷ xs) y ys = at_seam xs y ys

past_seam : (xs : List ℕ) (y : ℕ) (ys : List ℕ) → drop (length xs + 1) (xs ++ y ∷ ys) ≡ ys
past_seam xs y ys = let n : length xs + 1 ≡ suc (length xs) = omega arith in ap (λ k. drop k (xs ++ y ∷ ys)) n ∙ behind_seam xs
  where
    behind_seam : (xs : List ℕ) → drop (suc (length xs)) (xs ++ y ∷ ys) ≡ ys
    behind_seam [] = refl
    behind_seam (x ∷ xs) = behind_seam xs

counted_back : (w : ℕ) (text rest : List ℕ) → counted (length text) (left w (line text ++ rest)) ≡ Ok (text, left w rest)
counted_back w text rest =
    let n = length text in
    let is = line_then text rest in
    let all = text ++ 10 ∷ rest in
    let size : length all ≡ length text + suc (length rest) = length-append text (10 ∷ rest) in
    let room : nat_le (length all) n ≡ false = false_from_ne_true (nat_le (length all) n) (λ t. let k = leb-true (length all) n t in absurd (omega (arith, k, size))) in
    let lf : (slice_index all n == 10) ≡ true = ap (λ x. x == 10) (at_seam text 10 rest) in
    ap (λ b. counted n (left w b)) is
    ∙ ap (λ t. if t then Err (bad_at w) else if slice_index all n == 10 then Ok (take n all, left w (drop (n + 1) all)) else Err (bad_at (place (left w all)))) room
    ∙ ap (λ t. if t then Ok (take n all, left w (drop (n + 1) all)) else Err (bad_at (place (left w all)))) lf
    ∙ ap (λ t. Ok (t, left w (drop (n + 1) all))) (take_front text (10 ∷ rest))
    ∙ ap (λ t. Ok (text, left w t)) (past_seam text 10 rest)

-- ---- what lines say

behind_back : (front text : List ℕ) → behind front (front ++ text) ≡ Some text
behind_back front text = ap (λ b. if b then Some (drop (length front) (front ++ text)) else None) (begins_front front text) ∙ ap (λ t. Some t) (drop_front front text)

and_then_back : {A B : Type 0} (o : Option A) (x : A) (f : A → Option B) (y : Option B) → o ≡ Some x → f x ≡ y → and_then o f ≡ y
and_then_back o x f y e h = ap (λ p. and_then p f) e ∙ h

where_back : {A : Type 0} (b : Bool) (x : A) → b ≡ true → where_true b x ≡ Some x
where_back b x e = ap (λ t. where_true t x) e

pub lacks_none : (xs : List ℕ) → list_any (λ b. b == 10) xs ≡ false → Lacks 10 xs
lacks_none [] h = tt
lacks_none (x ∷ xs) h = by (x == 10) refl h (lacks_none xs)
  where
    by : (t : Bool) → (x == 10) ≡ t → (t || list_any (λ b. b == 10) xs) ≡ false → (list_any (λ b. b == 10) xs ≡ false → Lacks 10 xs) → Lacks 10 (x ∷ xs)
    by true a k more = cc
    by false a k more = (a, more k)

word_back : (word : List ℕ) → word_of word word ≡ Some tt
word_back word = where_back (same word word) tt (same-refl word)

parent_back : (name : List ℕ) → parent_of (codes "parent " ++ name) ≡ Some name
parent_back name = behind_back (codes "parent ") name

parents_back : (n : ℕ) (names new : List (List ℕ)) (w : ℕ) (rest : List ℕ) → length new ≤ n → AllByRecursion (Lacks 10) new → optional parent_of (left w rest) ≡ Ok (None, left w rest) →
    parents_from n names (left w (flat_map parent_text new ++ rest)) ≡ Ok (names ++ new, left w rest)
parents_back zero names [] w rest few l other = ap (λ t. Ok (t, left w rest)) (sym (append-nil names))
parents_back zero names (x ∷ new) w rest few l other = absurd (omega (arith, few))
parents_back (suc n) names [] w rest few l other =
    then_ok (optional parent_of (left w rest)) (None, left w rest) (λ p. more names p.0 p.1 (λ all rest. parents_from n all rest)) (Ok (names ++ [], left w rest)) other
    (ap (λ t. Ok (t, left w rest)) (sym (append-nil names)))
parents_back (suc n) names (x ∷ new) w rest few l other =
    let behind_x = flat_map parent_text new ++ rest in
    ap (λ t. parents_from (suc n) names (left w t)) (append_assoc (parent_text x) (flat_map parent_text new) rest)
    ∙ then_ok (optional parent_of (left w (parent_text x ++ behind_x))) (Some x, left w behind_x) (λ p. more names p.0 p.1 (λ all rest. parents_from n all rest)) (Ok (names ++ x ∷ new, left w rest))
    (optional_back parent_of w (codes "parent " ++ x) behind_x x (lacks-append 10 (codes "parent ") x (lacks_none (codes "parent ") refl) l.0) (parent_back x))
    (parents_back n (names ++ x ∷ []) new w rest (omega (arith, few)) l.1 other ∙ ap (λ t. Ok (t, left w rest)) (append_assoc names (x ∷ []) new))

-- ---- user and date

user_clean : (xs : List ℕ) → list_any (λ b. b == 0 || b == 10) xs ≡ false → (list_any (λ b. b == 0) xs ≡ false) × Lacks 10 xs
user_clean [] h = (refl, tt)
user_clean (x ∷ xs) h = by (x == 0) (x == 10) refl refl h (user_clean xs)
  where
    by : (s t : Bool) → (x == 0) ≡ s → (x == 10) ≡ t → ((s || t) || list_any (λ b. b == 0 || b == 10) xs) ≡ false →
        (list_any (λ b. b == 0 || b == 10) xs ≡ false → (list_any (λ b. b == 0) xs ≡ false) × Lacks 10 xs) → (list_any (λ b. b == 0) (x ∷ xs) ≡ false) × Lacks 10 (x ∷ xs)
    by true t a b k more = cc
    by false true a b k more = cc
    by false false a b k more = let m = more k in (ap (λ t. t || list_any (λ b. b == 0) xs) a ∙ m.0, (b, m.1))

user_back : (w : ℕ) (user rest : List ℕ) → IsUtf8 user → 1 ≤ length user → length user ≤ 1024 → list_any (λ b. b == 0 || b == 10) user ≡ false →
    required user_of (left w (line (codes "user " ++ user) ++ rest)) ≡ Ok (user, left w rest)
user_back w user rest utf8 least most clean =
    let k = user_clean user clean in
    let a : nat_le 1 (length user) ≡ true = le-leb 1 (length user) least in
    let b : nat_le (length user) most_user ≡ true = le-leb (length user) most_user most in
    let c : not (list_any (λ b. b == 0) user) ≡ true = ap not k.0 in
    let d : is_utf8 user ≡ true = is_utf8-from_IsUtf8 user utf8 in
    let is : is_user user ≡ true = ap (λ t. t && nat_le (length user) most_user && not (list_any (λ b. b == 0) user) && is_utf8 user) a ∙ ap (λ t. t && not (list_any (λ b. b == 0) user) && is_utf8 user) b ∙ ap (λ t. t && is_utf8 user) c ∙ d in
    required_back user_of w (codes "user " ++ user) rest user (lacks-append 10 (codes "user ") user (lacks_none (codes "user ") refl) k.1)
    (and_then_back (behind (codes "user ") (codes "user " ++ user)) user (λ u. where_true (is_user u) u) (Some user) (behind_back (codes "user ") user) (where_back (is_user user) user is))

near_seconds : (z : ℤ) → unsigned_abs z ≤ most_seconds → unsigned_abs z < 2 ^ 62
near_seconds z h = omega (arith, h)

near_offset : (z : ℤ) → unsigned_abs z ≤ most_offset → unsigned_abs z < 2 ^ 62
near_offset z h = omega (arith, h)

when_back : (seconds offset : ℤ) → unsigned_abs seconds ≤ most_seconds → unsigned_abs offset ≤ most_offset → when_at (date_text seconds offset []) ≡ Some (record { seconds = seconds; offset = offset; extras = [] })
unfolding when_at
when_back seconds offset h k =
    let s = signed_decimal seconds in
    let o = signed_decimal offset in
    ap when_parts (split_over 32 s (o ++ []) (number_lacks 32 seconds (lit< tt) (near_seconds seconds h)))
    ∙ ap (λ t. when_behind (number_within most_seconds s) (offset_and_extras t (split 32 t))) (append-nil o)
    ∙ ap (λ z. when_behind (number_within most_seconds s) (offset_and_extras o z)) (split_lacks 32 o (number_lacks 32 offset (lit< tt) (near_offset offset k)))
    ∙ ap (λ n. when_of n (number_within most_offset o) []) (number_back most_seconds seconds (lit< tt) h)
    ∙ ap (λ n. when_of (Some seconds) n []) (number_back most_offset offset (lit< tt) k)

date_lacks : (seconds offset : ℤ) → unsigned_abs seconds ≤ most_seconds → unsigned_abs offset ≤ most_offset → Lacks 10 (date_text seconds offset [])
date_lacks seconds offset h k =
    lacks-append 10 (signed_decimal seconds) (32 ∷ (signed_decimal offset ++ [])) (number_lacks 10 seconds (lit< tt) (near_seconds seconds h))
    (refl, lacks-append 10 (signed_decimal offset) [] (number_lacks 10 offset (lit< tt) (near_offset offset k)) tt)

date_back : (w : ℕ) (seconds offset : ℤ) (rest : List ℕ) → unsigned_abs seconds ≤ most_seconds → unsigned_abs offset ≤ most_offset →
    required date_of (left w (line (codes "date " ++ date_text seconds offset []) ++ rest)) ≡ Ok (record { seconds = seconds; offset = offset; extras = [] }, left w rest)
date_back w seconds offset rest h k =
    let text = date_text seconds offset [] in
    let when : When = record { seconds = seconds; offset = offset; extras = [] } in
    required_back date_of w (codes "date " ++ text) rest when (lacks-append 10 (codes "date ") text (lacks_none (codes "date ") refl) (date_lacks seconds offset h k))
    (and_then_back (behind (codes "date ") (codes "date " ++ text)) text (λ t. and_then (when_at t) (λ w. where_true (length w.extras == 0) w)) (Some when) (behind_back (codes "date ") text)
    (and_then_back (when_at text) when (λ w. where_true (length w.extras == 0) w) (Some when) (when_back seconds offset h k) refl))

-- ---- phase and bookmark

phase_option : Bool → Phase → Option Phase
phase_option true p = Some p
phase_option false Public = Some Public
phase_option false Draft = None
phase_option false Secret = Some Secret

phase_line_back : (p : Phase) (w : ℕ) (rest : List ℕ) → optional phase_of (left w (line (codes "phase " ++ phase_name p) ++ rest)) ≡ Ok (Some p, left w rest)
phase_line_back Public w rest = optional_back phase_of w (codes "phase public") rest Public (lacks_none (codes "phase public") refl) refl
phase_line_back Draft w rest = optional_back phase_of w (codes "phase draft") rest Draft (lacks_none (codes "phase draft") refl) refl
phase_line_back Secret w rest = optional_back phase_of w (codes "phase secret") rest Secret (lacks_none (codes "phase secret") refl) refl

phase_back : (says : Bool) (p : Phase) (w : ℕ) (rest : List ℕ) → optional phase_of (left w rest) ≡ Ok (None, left w rest) → optional phase_of (left w (phase_text says p ++ rest)) ≡ Ok (phase_option says p, left w rest)
unfolding phase_option
phase_back true p w rest other = phase_line_back p w rest
phase_back false Public w rest other = phase_line_back Public w rest
phase_back false Draft w rest other = other
phase_back false Secret w rest other = phase_line_back Secret w rest

phase_is : (says : Bool) (p : Phase) → unwrap_or (phase_option says p) Draft ≡ p
unfolding phase_option
phase_is true p = refl
phase_is false Public = refl
phase_is false Draft = refl
phase_is false Secret = refl

-- a bookmark's name has no LF
no_end : (name : List ℕ) → list_any is_name_end name ≡ false → Lacks 10 name
no_end [] h = tt
no_end (b ∷ name) h = by (b == 58) (b == 0) (b == 10) (b == 13) refl h (no_end name)
  where
    by : (a z t r : Bool) → (b == 10) ≡ t → ((a || z || t || r) || list_any is_name_end name) ≡ false → (list_any is_name_end name ≡ false → Lacks 10 name) → Lacks 10 (b ∷ name)
    by true z t r e k more = cc
    by false true t r e k more = cc
    by false false true r e k more = cc
    by false false false true e k more = cc
    by false false false false e k more = (e, more k)

pub name_lacks : (name : List ℕ) → is_mark_name name ≡ true → Lacks 10 name
name_lacks name h =
    let a = both (not (length name == 0) && nat_le (length name) 255 && not (among name reserved_names) && not (list_any is_name_end name) && not (list_all is_digit name) && not (ends_in_space name)) (is_utf8 name) h in
    let b = both (not (length name == 0) && nat_le (length name) 255 && not (among name reserved_names) && not (list_any is_name_end name) && not (list_all is_digit name)) (not (ends_in_space name)) a.0 in
    let c = both (not (length name == 0) && nat_le (length name) 255 && not (among name reserved_names) && not (list_any is_name_end name)) (not (list_all is_digit name)) b.0 in
    let d = both (not (length name == 0) && nat_le (length name) 255 && not (among name reserved_names)) (not (list_any is_name_end name)) c.0 in
    no_end name (not_true (list_any is_name_end name) d.1)

bookmark_back : (o : Option (List ℕ)) (w : ℕ) (rest : List ℕ) → IfSome o (λ name. is_mark_name name ≡ true) → optional bookmark_of (left w rest) ≡ Ok (None, left w rest) → optional bookmark_of (left w (bookmark_text o ++ rest)) ≡ Ok (o, left w rest)
bookmark_back None w rest valid other = other
bookmark_back (Some name) w rest valid other =
    optional_back bookmark_of w (codes "bookmark " ++ name) rest name (lacks-append 10 (codes "bookmark ") name (lacks_none (codes "bookmark ") refl) (name_lacks name valid))
    (and_then_back (behind (codes "bookmark ") (codes "bookmark " ++ name)) name (λ n. where_true (is_mark_name n) n) (Some name) (behind_back (codes "bookmark ") name) (where_back (is_mark_name name) name valid))

branch_lacks : (name : List ℕ) → is_branch_name name ≡ true → Lacks 10 name
branch_lacks name h =
    let a = both (is_mark_name name && not (list_any (λ b. b == 92) name)) (not (same name (codes "default"))) h in
    name_lacks name (both (is_mark_name name) (not (list_any (λ b. b == 92) name)) a.0).0

branch_said : (name : List ℕ) → is_branch_name name ≡ true → (if same name (codes "default") then Some None else where_true (is_branch_name name) (Some name)) ≡ Some (Some name)
branch_said name h =
    let a = both (is_mark_name name && not (list_any (λ b. b == 92) name)) (not (same name (codes "default"))) h in
    ap (λ t. if t then Some None else where_true (is_branch_name name) (Some name)) (not_true (same name (codes "default")) a.1) ∙ where_back (is_branch_name name) (Some name) h

branch_back : (says : Bool) (o : Option (List ℕ)) (w : ℕ) (rest : List ℕ) → IfSome o (λ name. is_branch_name name ≡ true) → optional branch_of (left w rest) ≡ Ok (None, left w rest) → branch_from (left w (branch_text says o ++ rest)) ≡ Ok (o, left w rest)
branch_back false None w rest valid other = then_ok (optional branch_of (left w rest)) (None, left w rest) (λ b. Ok (unwrap_or b.0 None, b.1)) (Ok (None, left w rest)) other refl
branch_back true None w rest valid other =
    then_ok (optional branch_of (left w (line (codes "branch default") ++ rest))) (Some None, left w rest) (λ b. Ok (unwrap_or b.0 None, b.1)) (Ok (None, left w rest))
    (optional_back branch_of w (codes "branch default") rest None (lacks_none (codes "branch default") refl) refl) refl
branch_back says (Some name) w rest valid other =
    then_ok (optional branch_of (left w (line (codes "branch " ++ name) ++ rest))) (Some (Some name), left w rest) (λ b. Ok (unwrap_or b.0 None, b.1)) (Ok (Some name, left w rest))
    (optional_back branch_of w (codes "branch " ++ name) rest (Some name) (lacks-append 10 (codes "branch ") name (lacks_none (codes "branch ") refl) (branch_lacks name valid))
    (and_then_back (behind (codes "branch ") (codes "branch " ++ name)) name (λ n. if same n (codes "default") then Some None else where_true (is_branch_name n) (Some n)) (Some (Some name)) (behind_back (codes "branch ") name) (branch_said name valid))) refl

-- ---- lengths

digits_pass : (ds : List ℕ) → AllDigits 10 ds → list_all is_digit ds ≡ true
digits_pass [] h = refl
digits_pass (c ∷ cs) h =
    let d = digit_from_value c h.0 in
    ap (λ t. t && nat_le c 57 && list_all is_digit cs) (le-leb 48 c d.0) ∙ ap (λ t. t && list_all is_digit cs) (le-leb c 57 d.1) ∙ digits_pass cs h.1

not_empty : (ds : List ℕ) → 0 < length ds → not (length ds == 0) ≡ true
not_empty [] h = absurd (omega (arith, h))
not_empty (x ∷ ds) h = grind arith

leads : (n : ℕ) → n < 2 ^ 64 → (length (decimal n) == 1 || not (slice_index (decimal n) 0 == 48)) ≡ true
leads zero h = ap (λ ds. length ds == 1 || not (slice_index ds 0 == 48)) (decimal_digit 0 (omega arith))
leads (suc n) h =
    let high = first_decimal (suc n) (omega arith) h in
    let other : (slice_index (decimal (suc n)) 0 == 48) ≡ false = false_from_ne_true (slice_index (decimal (suc n)) 0 == 48) (λ t. let e = number_is (slice_index (decimal (suc n)) 0) 48 t in absurd (omega (arith, e, high))) in
    or_true (length (decimal (suc n)) == 1) (not (slice_index (decimal (suc n)) 0 == 48)) (ap not other)

pub count_back : (most n : ℕ) → n ≤ most + 1 → most + 1 < 2 ^ 64 → number_up_to most (decimal n) ≡ Some n
count_back most n h small =
    let k = decimal_is_IsNumeral n (omega (arith, h, small)) in
    let is : is_number (decimal n) ≡ true =
    ap (λ t. t && list_all is_digit (decimal n) && (length (decimal n) == 1 || not (slice_index (decimal n) 0 == 48))) (not_empty (decimal n) k.0.0)
    ∙ ap (λ t. t && (length (decimal n) == 1 || not (slice_index (decimal n) 0 == 48))) (digits_pass (decimal n) k.0.1) ∙ leads n (omega (arith, h, small)) in
    let value : min (digits_value 10 (decimal n)) (most + 1) ≡ n = let v = k.1 in omega (arith, v, h) in
    where_back (is_number (decimal n)) (min (digits_value 10 (decimal n)) (most + 1)) is ∙ ap (λ m. Some m) value

other_number : (x byte : ℕ) → byte < x → (x == byte) ≡ false
other_number x byte h = false_from_ne_true (x == byte) (λ t. let e = number_is x byte t in absurd (omega (arith, e, h)))

digits_lack : (byte : ℕ) (ds : List ℕ) → byte < 45 → AllDigits 10 ds → Lacks byte ds
digits_lack byte [] h d = tt
digits_lack byte (c ∷ cs) h d = let low = (digit_from_value c d.0).0 in (other_number c byte (omega (arith, h, low)), digits_lack byte cs h d.1)

pub decimal_lacks : (byte n : ℕ) → byte < 45 → n < 2 ^ 64 → Lacks byte (decimal n)
decimal_lacks byte n h small = digits_lack byte (decimal n) h (decimal_is_IsNumeral n small).0.1

-- ---- the description

length_back : (n : ℕ) → n ≤ most_description → length_of (codes "desc " ++ decimal n) ≡ Some n
length_back n h =
    and_then_back (behind (codes "desc ") (codes "desc " ++ decimal n)) (decimal n) (λ t. and_then (number_up_to most_description t) (λ n. where_true (nat_le n most_description) n)) (Some n) (behind_back (codes "desc ") (decimal n))
    (and_then_back (number_up_to most_description (decimal n)) n (λ n. where_true (nat_le n most_description) n) (Some n) (count_back most_description n (omega (arith, h)) (omega arith)) (where_back (nat_le n most_description) n (le-leb n most_description h)))

text_back : (at : ℕ) (text : List ℕ) (r : Rest) → IsUtf8 text → text_at at text r ≡ Ok (text, r)
text_back at text r h = ap (λ t. if t then Ok (text, r) else Err (bad_at at)) (is_utf8-from_IsUtf8 text h)

description_back : (w : ℕ) (text rest : List ℕ) → IsUtf8 text → length text ≤ 65536 → description_from (left w (description_text text ++ rest)) ≡ Ok (text, left w rest)
description_back w text rest utf8 most =
    let head = codes "desc " ++ decimal (length text) in
    let behind_line = line text ++ rest in
    let n = length text in
    ap (λ b. description_from (left w b)) (append_assoc (line head) (line text) rest)
    ∙ then_ok (required length_of (left w (line head ++ behind_line))) (n, left w behind_line) (λ n. counted n.0 n.1 >>= λ text. text_at (place n.1) text.0 text.1) (Ok (text, left w rest))
    (required_back length_of w head behind_line n (lacks-append 10 (codes "desc ") (decimal n) (lacks_none (codes "desc ") refl) (decimal_lacks 10 n (lit< tt) (omega (arith, most)))) (length_back n most))
    (then_ok (counted n (left w behind_line)) (text, left w rest) (λ t. text_at (place (left w behind_line)) t.0 t.1) (Ok (text, left w rest)) (counted_back w text rest) (text_back (place (left w behind_line)) text (left w rest) utf8))

-- ---- a file

flag_back : (f : Flag) → flag_of (flag_sign f) ≡ Some f
flag_back Plain = refl
flag_back Exec = refl
flag_back Link = refl

flag_lacks : (byte : ℕ) (f : Flag) → byte < 45 → Lacks byte (flag_sign f)
flag_lacks byte Plain h = (other_number 45 byte (omega (arith, h)), tt)
flag_lacks byte Exec h = (other_number 120 byte (omega (arith, h)), tt)
flag_lacks byte Link h = (other_number 108 byte (omega (arith, h)), tt)

path_lacks : (path : List ℕ) → list_any is_line_byte path ≡ false → Lacks 10 path
path_lacks [] h = tt
path_lacks (b ∷ path) h = by (b == 0) (b == 10) (b == 13) refl h (path_lacks path)
  where
    by : (z t r : Bool) → (b == 10) ≡ t → ((z || t || r) || list_any is_line_byte path) ≡ false → (list_any is_line_byte path ≡ false → Lacks 10 path) → Lacks 10 (b ∷ path)
    by true t r e k more = cc
    by false true r e k more = cc
    by false false true e k more = cc
    by false false false e k more = (e, more k)

tracked_lacks : (path : List ℕ) → is_tracked path ≡ true → Lacks 10 path
tracked_lacks path h =
    let a = both (nat_le 1 (length path) && nat_le (length path) 1024 && not (list_any is_line_byte path)) (not (list_any is_forbidden (components path))) h in
    let b = both (nat_le 1 (length path) && nat_le (length path) 1024) (not (list_any is_line_byte path)) a.0 in
    path_lacks path (not_true (list_any is_line_byte path) b.1)

-- what the line of a file says, without its LF
abbrev file_line : FileLine → List ℕ
file_line f = codes "file " ++ (flag_sign f.flag ++ 32 ∷ (decimal f.size ++ 32 ∷ f.path))

line_lacks : (f : FileLine) → f.size ≤ most_file → is_tracked f.path ≡ true → Lacks 10 (file_line f)
line_lacks f small tracked =
    lacks-append 10 (codes "file ") (flag_sign f.flag ++ 32 ∷ (decimal f.size ++ 32 ∷ f.path)) (lacks_none (codes "file ") refl)
    (lacks-append 10 (flag_sign f.flag) (32 ∷ (decimal f.size ++ 32 ∷ f.path)) (flag_lacks 10 f.flag (lit< tt))
    (refl, lacks-append 10 (decimal f.size) (32 ∷ f.path) (decimal_lacks 10 f.size (lit< tt) (omega (arith, small))) (refl, tracked_lacks f.path tracked)))

file_line_back : (f : FileLine) → f.size ≤ most_file → is_tracked f.path ≡ true → file_of (file_line f) ≡ Some f
file_line_back f small tracked =
    let sizes = decimal f.size in
    let rest = sizes ++ 32 ∷ f.path in
    let all = flag_sign f.flag ++ 32 ∷ rest in
    and_then_back (behind (codes "file ") (file_line f)) all (λ t. and_then (split 32 t) (λ p. and_then (split 32 p.1) (λ q. file_of_parts p.0 q.0 q.1))) (Some f) (behind_back (codes "file ") all)
    (and_then_back (split 32 all) (flag_sign f.flag, rest) (λ p. and_then (split 32 p.1) (λ q. file_of_parts p.0 q.0 q.1)) (Some f) (split_over 32 (flag_sign f.flag) rest (flag_lacks 32 f.flag (lit< tt)))
    (and_then_back (split 32 rest) (sizes, f.path) (λ q. file_of_parts (flag_sign f.flag) q.0 q.1) (Some f) (split_over 32 sizes f.path (decimal_lacks 32 f.size (lit< tt) (omega (arith, small))))
    (and_then_back (flag_of (flag_sign f.flag)) f.flag (λ g. and_then (number_up_to most_file sizes) (λ n. where_true (is_tracked f.path) (record { flag = g; size = n; path = f.path }))) (Some f) (flag_back f.flag)
    (and_then_back (number_up_to most_file sizes) f.size (λ n. where_true (is_tracked f.path) (record { flag = f.flag; size = n; path = f.path })) (Some f) (count_back most_file f.size (omega (arith, small)) (omega arith))
    (where_back (is_tracked f.path) f tracked)))))

allowed_back : (at : ℕ) (files : List NewFile) (f : FileLine) → fits_behind (new_paths files) f.path ≡ true → f.size ≤ most_file → length files < most_files → allowed at files f ≡ Ok f
allowed_back at files f fits small few =
    let a : nat_lt most_file f.size ≡ false = false_from_ne_true (nat_lt most_file f.size) (λ t. let k = leb-true (suc most_file) f.size t in absurd (omega (arith, k, small))) in
    let b : nat_le most_files (length files) ≡ false = false_from_ne_true (nat_le most_files (length files)) (λ t. let k = leb-true most_files (length files) t in absurd (omega (arith, k, few))) in
    ap (λ t. if not t then Err (bad_at at) else if nat_lt most_file f.size then Err (fault_at at (Limit FileText)) else if nat_le most_files (length files) then Err (fault_at at (Limit Tree)) else Ok f) fits
    ∙ ap (λ t. if t then Err (fault_at at (Limit FileText)) else if nat_le most_files (length files) then Err (fault_at at (Limit Tree)) else Ok f) a
    ∙ ap (λ t. if t then Err (fault_at at (Limit Tree)) else Ok f) b

source_back : (from : Option (List ℕ)) (w : ℕ) (rest : List ℕ) → IfSome from (λ path. is_source path ≡ true) → optional copyfrom_of (left w rest) ≡ Ok (None, left w rest) → optional copyfrom_of (left w (copyfrom_text from ++ rest)) ≡ Ok (from, left w rest)
source_back None w rest valid other = other
source_back (Some path) w rest valid other =
    let tracked = (both (is_tracked path) (not (ends_in 1 path)) valid).0 in
    optional_back copyfrom_of w (codes "copyfrom " ++ path) rest path (lacks-append 10 (codes "copyfrom ") path (lacks_none (codes "copyfrom ") refl) (tracked_lacks path tracked))
    (and_then_back (behind (codes "copyfrom ") (codes "copyfrom " ++ path)) path (λ n. where_true (is_source n) n) (Some path) (behind_back (codes "copyfrom ") path) (where_back (is_source path) path valid))

line_from_back : (wanted : Bool) (w : ℕ) (f : FileLine) (rest : List ℕ) → f.size ≤ most_file → is_tracked f.path ≡ true → file_line_from wanted (left w (line (file_line f) ++ rest)) ≡ Ok (Some f, left w rest)
line_from_back false w f rest small tracked = optional_back file_of w (file_line f) rest f (line_lacks f small tracked) (file_line_back f small tracked)
line_from_back true w f rest small tracked =
    then_ok (required file_of (left w (line (file_line f) ++ rest))) (f, left w rest) (λ f. Ok (Some f.0, f.1)) (Ok (Some f, left w rest))
    (required_back file_of w (file_line f) rest f (line_lacks f small tracked) (file_line_back f small tracked)) refl

file_back : (files : List NewFile) (f : NewFile) (w : ℕ) (rest : List ℕ) → IfSome f.from (λ path. is_source path ≡ true) → is_tracked f.path ≡ true → fits_behind (new_paths files) f.path ≡ true → length f.body ≤ most_file → length files < most_files →
    next_file files (left w (file_text f ++ rest)) ≡ Ok (Some f, left w rest)
file_back files f w rest source tracked fits small few =
    let said : FileLine = record { flag = f.flag; size = length f.body; path = f.path } in
    let behind_line = line f.body ++ rest in
    let lines = line (file_line said) ++ behind_line in
    let r = left w lines in
    let other = optional_other copyfrom_of w (file_line said) behind_line (line_lacks said small tracked) refl in
    ap (λ b. next_file files (left w b)) (append_assoc (copyfrom_text f.from) (line (file_line said) ++ line f.body) rest ∙ ap (λ t. copyfrom_text f.from ++ t) (append_assoc (line (file_line said)) (line f.body) rest))
    ∙ then_ok (optional copyfrom_of (left w (copyfrom_text f.from ++ lines))) (f.from, r) (λ from. line_behind files from.0 from.1) (Ok (Some f, left w rest)) (source_back f.from w lines source other)
    (then_ok (file_line_from (is_some f.from) r) (Some said, left w behind_line) (λ p. file_behind (place r) files f.from p.0 p.1) (Ok (Some f, left w rest)) (line_from_back (is_some f.from) w said behind_line small tracked)
    (then_ok (allowed (place r) files said) said (λ g. counted g.size (left w behind_line) >>= λ body. Ok (Some (file_with g f.from body.0), body.1)) (Ok (Some f, left w rest)) (allowed_back (place r) files said fits small few)
    (then_ok (counted (length f.body) (left w behind_line)) (f.body, left w rest) (λ body. Ok (Some (file_with said f.from body.0), body.1)) (Ok (Some f, left w rest)) (counted_back w f.body rest) refl)))

-- ---- the files

ascends_front : (xs ys : List (List ℕ)) → ascends (xs ++ ys) ≡ true → ascends xs ≡ true
ascends_front [] ys h = refl
ascends_front (x ∷ []) ys h = refl
ascends_front (x ∷ z ∷ xs) ys h =
    let b = both (is_below x z) (ascends (z ∷ xs ++ ys)) h in
    ap (λ t. t && ascends (z ∷ xs)) b.0 ∙ ascends_front (z ∷ xs) ys b.1

any_front : (p : List ℕ → Bool) (xs ys : List (List ℕ)) → list_any p xs ≡ true → list_any p (xs ++ ys) ≡ true
any_front p xs ys h = any-append p xs ys ∙ ap (λ t. t || list_any p ys) h

directory_front : (xs ys : List (List ℕ)) → has_directory (xs ++ ys) ≡ false → has_directory xs ≡ false
directory_front xs ys h = false_from_ne_true (has_directory xs) (λ e.
    let k = any_found (λ p. list_any (λ q. begins_with q (p ++ codes "/")) xs) xs e in
    let inner = any_front (λ q. begins_with q (k.0 ++ codes "/")) xs ys k.2 in
    contradiction (has_directory (xs ++ ys)) h (any_there (λ p. list_any (λ q. begins_with q (p ++ codes "/")) (xs ++ ys)) (xs ++ ys) k.0 (any_front (same k.0) xs ys k.1) inner))

fits_so : (paths : List (List ℕ)) (path : List ℕ) (more : List (List ℕ)) → ascends (paths ++ path ∷ more) ≡ true → has_directory (paths ++ path ∷ more) ≡ false → fits_behind paths path ≡ true
fits_so paths path more a d =
    let is = append_assoc paths (path ∷ []) more in
    let ordered = ascends_front (paths ++ path ∷ []) more (ap ascends is ∙ a) in
    let apart = directory_front (paths ++ path ∷ []) more (ap has_directory is ∙ d) in
    ap (λ t. t && not (has_directory (paths ++ path ∷ []))) ordered ∙ ap not apart

-- what stands here is no file's
record NoFile (w : ℕ) (rest : List ℕ) : Type 0 where
  source : optional copyfrom_of (left w rest) ≡ Ok (None, left w rest)
  line : optional file_of (left w rest) ≡ Ok (None, left w rest)

none_next : (files : List NewFile) (w : ℕ) (rest : List ℕ) → NoFile w rest → next_file files (left w rest) ≡ Ok (None, left w rest)
none_next files w rest other =
    then_ok (optional copyfrom_of (left w rest)) (None, left w rest) (λ from. line_behind files from.0 from.1) (Ok (None, left w rest)) other.source
    (then_ok (optional file_of (left w rest)) (None, left w rest) (λ p. file_behind (place (left w rest)) files None p.0 p.1) (Ok (None, left w rest)) other.line refl)

files_back : (n : ℕ) (files new : List NewFile) (w : ℕ) (rest : List ℕ) → length new < n → length files + length new ≤ 20000 → list_all is_tracked (new_paths new) ≡ true →
    ascends (new_paths files ++ new_paths new) ≡ true → has_directory (new_paths files ++ new_paths new) ≡ false → AllByRecursion (λ (f : NewFile). IfSome f.from (λ path. is_source path ≡ true)) new →
    AllByRecursion (λ (f : NewFile). length f.body ≤ 16777216) new → NoFile w rest → files_from n files (left w (flat_map file_text new ++ rest)) ≡ Ok (files ++ new, left w rest)
files_back zero files new w rest room few tracked a d sources small other = absurd (omega (arith, room))
files_back (suc n) files [] w rest room few tracked a d sources small other =
    then_ok (next_file files (left w rest)) (None, left w rest) (λ p. more files p.0 p.1 (λ all rest. files_from n all rest)) (Ok (files ++ [], left w rest))
    (none_next files w rest other)
    (ap (λ t. Ok (t, left w rest)) (sym (append-nil files)))
files_back (suc n) files (f ∷ new) w rest room few tracked a d sources small other =
    let behind_f = flat_map file_text new ++ rest in
    let t = both (is_tracked f.path) (list_all is_tracked (new_paths new)) tracked in
    let paths = ap (λ ps. ps ++ new_paths new) (paths-push files f) ∙ append_assoc (new_paths files) (f.path ∷ []) (new_paths new) in
    let count = length_push files f in
    ap (λ b. files_from (suc n) files (left w b)) (append_assoc (file_text f) (flat_map file_text new) rest)
    ∙ then_ok (next_file files (left w (file_text f ++ behind_f))) (Some f, left w behind_f) (λ p. more files p.0 p.1 (λ all rest. files_from n all rest)) (Ok (files ++ f ∷ new, left w rest))
    (file_back files f w behind_f sources.0 t.0 (fits_so (new_paths files) f.path (new_paths new) a d) small.0 (omega (arith, few)))
    (files_back n (files ++ f ∷ []) new w rest (omega (arith, room)) (omega (arith, few, count)) t.1 (ap ascends paths ∙ a) (ap has_directory paths ∙ d) sources.1 small.1 other
    ∙ ap (λ t. Ok (t, left w rest)) (append_assoc files (f ∷ []) new))

-- ---- the whole

-- the line of a description stays where another line is looked for
before_description : {A : Type 0} (form : List ℕ → Option A) (w : ℕ) (text rest : List ℕ) → length text ≤ 65536 → form (codes "desc " ++ decimal (length text)) ≡ None →
    optional form (left w (description_text text ++ rest)) ≡ Ok (None, left w (description_text text ++ rest))
before_description form w text rest most e =
    let head = codes "desc " ++ decimal (length text) in
    let lacks = lacks-append 10 (codes "desc ") (decimal (length text)) (lacks_none (codes "desc ") refl) (decimal_lacks 10 (length text) (lit< tt) (omega (arith, most))) in
    subst (λ b. optional form (left w b) ≡ Ok (None, left w b)) (sym (append_assoc (line head) (line text) rest)) (optional_other form w head (line text ++ rest) lacks e)

-- and so does that of a branch
before_branch : {A : Type 0} (form : List ℕ → Option A) (says : Bool) (o : Option (List ℕ)) (w : ℕ) (text rest : List ℕ) → IfSome o (λ name. is_branch_name name ≡ true) → length text ≤ 65536 →
    ((name : List ℕ) → form (codes "branch " ++ name) ≡ None) → form (codes "desc " ++ decimal (length text)) ≡ None →
    optional form (left w (branch_text says o ++ (description_text text ++ rest))) ≡ Ok (None, left w (branch_text says o ++ (description_text text ++ rest)))
before_branch form false None w text rest valid most other none = before_description form w text rest most none
before_branch form true None w text rest valid most other none = optional_other form w (codes "branch default") (description_text text ++ rest) (lacks_none (codes "branch default") refl) (other (codes "default"))
before_branch form says (Some name) w text rest valid most other none =
    optional_other form w (codes "branch " ++ name) (description_text text ++ rest) (lacks-append 10 (codes "branch ") name (lacks_none (codes "branch ") refl) (branch_lacks name valid)) (other name)

before_bookmark : (says : Bool) (o branch : Option (List ℕ)) (w : ℕ) (text rest : List ℕ) → IfSome o (λ name. is_mark_name name ≡ true) → IfSome branch (λ name. is_branch_name name ≡ true) → length text ≤ 65536 →
    optional phase_of (left w (bookmark_text o ++ (branch_text says branch ++ (description_text text ++ rest)))) ≡ Ok (None, left w (bookmark_text o ++ (branch_text says branch ++ (description_text text ++ rest))))
before_bookmark says None branch w text rest valid named most = before_branch phase_of says branch w text rest named most (λ name. refl) refl
before_bookmark says (Some name) branch w text rest valid named most =
    optional_other phase_of w (codes "bookmark " ++ name) (branch_text says branch ++ (description_text text ++ rest)) (lacks-append 10 (codes "bookmark ") name (lacks_none (codes "bookmark ") refl) (name_lacks name valid)) refl

-- what the head of a changeset's record is read as
abbrev head_of : Wording → NewChange → Head
head_of says c = record { parents = c.parents; user = c.user; date = record { seconds = c.seconds; offset = c.offset; extras = [] }; phase = phase_option says.draft c.phase; bookmark = c.bookmark; branch = c.branch }

head_back : (says : Wording) (c : NewChange) (w : ℕ) (rest : List ℕ) → IsNewChange c →
    head_from (left w (line (codes "commit") ++ (flat_map parent_text c.parents ++ (line (codes "user " ++ c.user) ++ (line (codes "date " ++ date_text c.seconds c.offset [])
    ++ (phase_text says.draft c.phase ++ (bookmark_text c.bookmark ++ (branch_text says.default c.branch ++ (description_text c.description ++ rest)))))))))
    ≡ Ok (head_of says c, left w (description_text c.description ++ rest))
head_back says c w rest h =
    let r7 = description_text c.description ++ rest in
    let r6 = branch_text says.default c.branch ++ r7 in
    let r5 = bookmark_text c.bookmark ++ r6 in
    let r4 = phase_text says.draft c.phase ++ r5 in
    let r3 = line (codes "date " ++ date_text c.seconds c.offset []) ++ r4 in
    let r2 = line (codes "user " ++ c.user) ++ r3 in
    let r1 = flat_map parent_text c.parents ++ r2 in
    let user = user_clean c.user h.user_line in
    let no_parent = optional_other parent_of w (codes "user " ++ c.user) r3 (lacks-append 10 (codes "user ") c.user (lacks_none (codes "user ") refl) user.1) refl in
    then_ok (parents_from 2 [] (left w r1)) (c.parents, left w r2) _ _ (parents_back 2 [] c.parents w r2 h.parents h.names no_parent)
    (then_ok (required user_of (left w r2)) (c.user, left w r3) _ _ (user_back w c.user r3 h.user_utf8 h.user_least h.user_most h.user_line)
    (then_ok (required date_of (left w r3)) (record { seconds = c.seconds; offset = c.offset; extras = [] }, left w r4) _ _ (date_back w c.seconds c.offset r4 h.seconds h.offset)
    (then_ok (optional phase_of (left w r4)) (phase_option says.draft c.phase, left w r5) _ _ (phase_back says.draft c.phase w r5 (before_bookmark says.default c.bookmark c.branch w c.description rest h.bookmark h.branch h.description_most))
    (then_ok (optional bookmark_of (left w r5)) (c.bookmark, left w r6) _ _ (bookmark_back c.bookmark w r6 h.bookmark (before_branch bookmark_of says.default c.branch w c.description rest h.branch h.description_most (λ name. refl) refl))
    (then_ok (branch_from (left w r6)) (c.branch, left w r7) _ _ (branch_back says.default c.branch w r7 h.branch (before_description branch_of w c.description rest h.description_most refl)) refl)))))

more_bytes : (files : List NewFile) (rest : List ℕ) → 0 < length rest → length files < length (flat_map file_text files ++ rest)
more_bytes [] rest h = h
more_bytes (f ∷ files) rest h =
    let k = more_bytes files rest h in
    let a = ap length (append_assoc (file_text f) (flat_map file_text files) rest) ∙ length-append (file_text f) (flat_map file_text files ++ rest) in
    let b = file_text_some f in
    omega (arith, k, a, b)

pub record_front_back : (says : Wording) (c : NewChange) (w : ℕ) (behind : List ℕ) → IsNewChange c → record_from (left w (record_text says c ++ behind)) ≡ Ok (c, left w behind)
record_front_back says c w behind h =
    let r3 = line (codes "end") ++ behind in
    let r2 = flat_map file_text c.files ++ r3 in
    let r1 = description_text c.description ++ r2 in
    let count = h.count in
    let size = length-append (line (codes "end")) behind in
    let no_file : NoFile w r3 = record { source = optional_other copyfrom_of w (codes "end") behind (lacks_none (codes "end") refl) refl; line = optional_other file_of w (codes "end") behind (lacks_none (codes "end") refl) refl } in
    ap (λ b. record_from (left w b)) (record_then says c behind)
    ∙ then_ok (head_from (left w (record_lines says c r1))) (head_of says c, left w r1) _ _ (head_back says c w r2 h)
    (then_ok (description_from (left w r1)) (c.description, left w r2) _ _ (description_back w c.description r2 h.description h.description_most)
    (then_ok (files_from (length r2) [] (left w r2)) (c.files, left w r3) _ _ (files_back (length r2) [] c.files w r3 (more_bytes c.files r3 (omega (arith, size))) (omega (arith, count)) h.paths h.ordered h.apart h.sources h.bodies no_file)
    (then_ok (required (word_of (codes "end")) (left w r3)) (tt, left w behind) (λ x. Ok (change_with (head_of says c) c.description c.files, x.1)) _ (required_back (word_of (codes "end")) w (codes "end") behind tt (lacks_none (codes "end") refl) (word_back (codes "end")))
    (ap (λ p. Ok (record c { phase = p }, left w behind)) (phase_is says.draft c.phase)))))
  where
    record_lines : Wording → NewChange → List ℕ → List ℕ
    record_lines says c rest =
        line (codes "commit") ++ (flat_map parent_text c.parents ++ (line (codes "user " ++ c.user) ++ (line (codes "date " ++ date_text c.seconds c.offset [])
        ++ (phase_text says.draft c.phase ++ (bookmark_text c.bookmark ++ (branch_text says.default c.branch ++ rest))))))

pub record_back : (says : Wording) (c : NewChange) → IsNewChange c → length (record_text says c) ≤ most_input → read_record (record_text says c) ≡ Ok c
record_back says c h small =
    let text = record_text says c in
    let w = length text in
    ap (λ b. record_from (left (length b) b) >>= λ p. nothing_behind p.1 >>= λ _. Ok p.0) (looked-whole text (omega (arith, small)))
    ∙ then_ok (record_from (left w text)) (c, left w []) _ _ (ap (λ b. record_from (left w b)) (sym (append-nil text)) ∙ record_front_back says c w [] h)
    (ap (λ t. (if t then Ok tt else Err (Limit Record)) >>= λ _. Ok c) (le-leb w most_input small))
