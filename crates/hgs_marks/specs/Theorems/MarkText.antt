-- Bookmarks and their text.
use Rattle.std.proofs.Common.{◌≡◌, ℕ, ◌+◌, Bool, true, false, ◌&&◌, ◌||◌, List, [], ◌∷◌, ◌++◌, length, take, drop, Option, Some, None, Result, Ok, Err, refl, sym, ◌∙◌, ap, subst, append_assoc}
use Rattle.std.specs.Prelude.{◌==◌, not, nat_le, if◌then◌else◌}
use Rattle.std.specs.List.{AllByRecursion, list_any, list_all}
use Rattle.std.specs.Str.{is_utf8}
use Rattle.std.proofs.lemmas.List.{take_at, drop_at, drop-drop}
use Rattle.hgs_bytes.specs.Bytes.{among, begins_with}
use Rattle.hgs_bytes.specs.Text.{Line as TextLine, Lacks, lines_of}
use Rattle.hgs_bytes.specs.Theorems.TextLemmas.{lines_split, split_over, lacks-append}
use Rattle.hgs_index.specs.Hex.{hex, node_at}
use Rattle.hgs_index.specs.MarkName.{reserved_names, is_name_end, is_digit, ends_in_space, is_mark_name}
use Rattle.hgs_index.specs.Theorems.HexText.{hex_lacks, hex_length, node_back, node_found}
use Rattle.hgs_marks.specs.declared.fault.MarkFault.{MarkFault}
use Rattle.hgs_marks.specs.declared.fault.MarkFault.TheVariants.{Line, Name}
use Rattle.hgs_marks.specs.Bookmarks.{Mark, bookmarks_text, mark_with, mark_of, mark_then, marks_from, all_with, read_bookmarks, with_marks}
use Rattle.hgs_index.specs.Node.{IsNode}
use Rattle.hgs_marks.specs.Texts.{IsMark, AreBookmarks}
use Rattle.hgs_marks.specs.Theorems.MarkOrder.{placed_so, all_kept}

-- ---- what is written is read again

-- a bookmark's line without its LF
abbrev pub item : Mark → List ℕ
item m = hex m.node ++ 32 ∷ m.name

end-step : (a b c d r : Bool) → ((a || b || c || d) || r) ≡ false → (c ≡ false) × (r ≡ false)
end-step true b c d r e = cc
end-step false true c d r e = cc
end-step false false true d r e = cc
end-step false false false true r e = cc
end-step false false false false r e = (refl, e)

no_end : (name : List ℕ) → list_any is_name_end name ≡ false → Lacks 10 name
no_end [] e = tt
no_end (b ∷ name) e = let s = end-step (b == 58) (b == 0) (b == 10) (b == 13) (list_any is_name_end name) e in (s.0, no_end name s.1)

name-step : (a b c d e f g : Bool) → (a && b && c && not d && e && f && g) ≡ true → d ≡ false
name-step false b c d e f g h = cc
name-step true false c d e f g h = cc
name-step true true false d e f g h = cc
name-step true true true true e f g h = cc
name-step true true true false e f g h = refl

name_lacks : (name : List ℕ) → is_mark_name name ≡ true → Lacks 10 name
name_lacks name e =
    no_end name (name-step (not (length name == 0)) (nat_le (length name) 255) (not (among name reserved_names)) (list_any is_name_end name) (not (list_all is_digit name)) (not (ends_in_space name)) (is_utf8 name) e)

pub item_lacks : (m : Mark) → IsMark m → Lacks 10 (item m)
item_lacks m h = lacks-append 10 (hex m.node) (32 ∷ m.name) (hex_lacks m.node) (refl, name_lacks m.name h.named)

pub mark_back : (n : ℕ) (m : Mark) → IsMark m → mark_of n (item m) ≡ Ok m
mark_back n m h =
    let forty = hex_length m.node h.node.size in
    let rest : drop 40 (item m) ≡ 32 ∷ m.name = drop_at (hex m.node) (32 ∷ m.name) 40 forty in
    let name : drop 41 (item m) ≡ m.name = sym (drop-drop 1 40 (item m)) ∙ ap (drop 1) rest in
    ap (λ t. if begins_with t (32 ∷ []) then mark_with n (node_at (take 40 (item m))) (drop 41 (item m)) else Err (Line n)) rest
    ∙ ap (λ o. mark_with n o (drop 41 (item m))) (ap node_at (take_at (hex m.node) (32 ∷ m.name) 40 forty) ∙ node_back m.node h.node.size h.node.bytes)
    ∙ ap (mark_with n (Some m.node)) name
    ∙ ap (λ b. if b then Ok m else Err (Name n)) h.named

pub marks_back : (n : ℕ) (marks : List Mark) → AllByRecursion IsMark marks → marks_from n (lines_of (bookmarks_text marks)) ≡ Ok marks
marks_back n [] h = refl
marks_back n (m ∷ marks) h =
    let rest = bookmarks_text marks in
    ap (λ t. marks_from n (lines_of t)) (append_assoc (item m) (10 ∷ []) rest)
    ∙ ap (marks_from n) (lines_split (item m ++ 10 ∷ rest) (item m, rest) (split_over 10 (item m) rest (item_lacks m h.0)))
    ∙ ap (λ r. mark_then r (marks_from (n + 1) (lines_of rest))) (mark_back (n + 1) m h.0)
    ∙ ap (mark_then (Ok m)) (marks_back (n + 1) marks h.1)

pub bookmarks_back : (marks : List Mark) → AreBookmarks marks → read_bookmarks (bookmarks_text marks) ≡ Ok marks
bookmarks_back marks h = ap (all_with []) (marks_back 0 marks h.each) ∙ ap (λ l. Ok l) (placed_so marks h.in_order)

-- ---- what is read are bookmarks

named-step : (t : Bool) (n : ℕ) (name node : List ℕ) (m : Mark) → is_mark_name name ≡ t → IsNode node → (if t then Ok (record { name = name; node = node }) else Err (Name n)) ≡ Ok m → IsMark m
named-step true n name node m t k e =
    let is : ◌≡◌ {A = Mark} (record { name = name; node = node }) m = cc in
    subst IsMark is (record { named = t; node = k })
named-step false n name node m t k e = cc

with-step : (n : ℕ) (o : Option (List ℕ)) (digits name : List ℕ) (m : Mark) → node_at digits ≡ o → mark_with n o name ≡ Ok m → IsMark m
with-step n None digits name m s e = cc
with-step n (Some node) digits name m s e = let d = node_found digits node s in named-step (is_mark_name name) n name node m refl (record { size = d.len; bytes = d.bytes }) e

begin-step : (t : Bool) (n : ℕ) (text : List ℕ) (m : Mark) → (if t then mark_with n (node_at (take 40 text)) (drop 41 text) else Err (Line n)) ≡ Ok m → IsMark m
begin-step true n text m e = with-step n (node_at (take 40 text)) (take 40 text) (drop 41 text) m refl e
begin-step false n text m e = cc

pub mark_found : (n : ℕ) (text : List ℕ) (m : Mark) → mark_of n text ≡ Ok m → IsMark m
mark_found n text m e = begin-step (begins_with (drop 40 text) (32 ∷ [])) n text m e

then-step : (r : Result Mark MarkFault) (x : Result (List Mark) MarkFault) (marks : List Mark) → mark_then r x ≡ Ok marks → ((m : Mark) → r ≡ Ok m → IsMark m) → ((ms : List Mark) → x ≡ Ok ms → AllByRecursion IsMark ms) →
    AllByRecursion IsMark marks
then-step (Err f) x marks e h k = cc
then-step (Ok m) (Err f) marks e h k = cc
then-step (Ok m) (Ok ms) marks e h k = let is : m ∷ ms ≡ marks = cc in subst (AllByRecursion IsMark) is (h m refl, k ms refl)

marks_found : (n : ℕ) (ls : List TextLine) (marks : List Mark) → marks_from n ls ≡ Ok marks → AllByRecursion IsMark marks
marks_found n [] marks e = let is : [] ≡ marks = cc in subst (AllByRecursion IsMark) is tt
marks_found n (l ∷ ls) marks e = then-step (mark_of (n + 1) l.0) (marks_from (n + 1) ls) marks e (mark_found (n + 1) l.0) (marks_found (n + 1) ls)

all-step : (r : Result (List Mark) MarkFault) (marks : List Mark) → all_with [] r ≡ Ok marks → ((ms : List Mark) → r ≡ Ok ms → AllByRecursion IsMark ms) → AreBookmarks marks
all-step (Err f) marks e h = cc
all-step (Ok ms) marks e h =
    let is : with_marks [] ms ≡ marks = cc in
    subst AreBookmarks is (all_kept [] ms (record { each = tt; in_order = refl }) (h ms refl))

pub bookmarks_found : (text : List ℕ) (marks : List Mark) → read_bookmarks text ≡ Ok marks → AreBookmarks marks
bookmarks_found text marks e = all-step (marks_from 0 (lines_of text)) marks e (marks_found 0 (lines_of text))
