-- Heads are the revisions without a mark once all parents were marked.
use Rattle.std.proofs.Common.{◌≡◌, ◌≢◌, ℕ, zero, suc, ◌+◌, ◌<◌, ◌≤◌, List, [], ◌∷◌, ◌++◌, length, drop, replicate, Bool, true, false, ◌||◌, Option, Some, None, slice_set, slice_index_or, refl, sym, ◌∙◌, ap, arith, append_assoc, append-nil}
use Rattle.std.specs.Prelude.{◌==◌, nat_lt, slice_get, if◌then◌else◌}
use Rattle.std.specs.List.{list_any}
use Rattle.std.proofs.lemmas.List.{drop_all, get_or-set_same, get_or-set_other, length-set}
use Rattle.hgs_index.specs.declared.entry.Entry.{Entry}
use Rattle.hgs_reader.specs.Heads.{is_parent, has_parent, line_unless, heads_from, marked, marked_by, unmarked_from}

drop_here : (xs : List Entry) (i : ℕ) (x : Entry) → slice_get xs i ≡ Some x → drop i xs ≡ x ∷ drop (i + 1) xs
drop_here [] i x h = cc
drop_here (y ∷ xs) zero x h = ap (λ z. z ∷ xs) (entry_is y x h)
  where
    entry_is : (a b : Entry) → (let o : Option Entry = Some a in o) ≡ Some b → a ≡ b
    entry_is a b h = cc
drop_here (y ∷ xs) (suc i) x h = drop_here xs i x h ∙ ap (λ n. x ∷ drop n (y ∷ xs)) (turned i)
  where
    turned : (n : ℕ) → suc (n + 1) ≡ suc n + 1
    turned n = omega arith

-- the pass that marks: one entry more
pub marks_on : (entries : List Entry) (rev : ℕ) (e : Entry) (all marks mid new : List Bool) → slice_get entries rev ≡ Some e → marked_by (drop rev entries) marks ≡ all
    → mid ≡ marked e.p1 marks → new ≡ marked e.p2 mid → marked_by (drop (rev + 1) entries) new ≡ all
marks_on entries rev e all marks mid new at so first second =
    ap (marked_by (drop (rev + 1) entries)) (second ∙ ap (marked e.p2) first) ∙ ap (λ es. marked_by es marks) (sym (drop_here entries rev e at)) ∙ so

pub marks_end : (entries : List Entry) (rev : ℕ) (all marks : List Bool) → length entries ≤ rev → marked_by (drop rev entries) marks ≡ all → marks ≡ all
marks_end entries rev all marks past so = ap (λ es. marked_by es marks) (sym (drop_all rev entries past)) ∙ so

-- the pass that writes: one line more
pub lines_on : (entries : List Entry) (rev : ℕ) (e : Entry) (marks : List Bool) (lines new all : List ℕ) → slice_get entries rev ≡ Some e → lines ++ unmarked_from marks rev (drop rev entries) ≡ all
    → new ≡ lines ++ line_unless (slice_index_or marks rev false) rev e → new ++ unmarked_from marks (rev + 1) (drop (rev + 1) entries) ≡ all
lines_on entries rev e marks lines new all at so add =
    let next : suc rev ≡ rev + 1 = omega arith in
    let rest = unmarked_from marks (rev + 1) (drop (rev + 1) entries) in
    ap (λ l. l ++ rest) add ∙ append_assoc lines (line_unless (slice_index_or marks rev false) rev e) rest
    ∙ ap (λ n. lines ++ (line_unless (slice_index_or marks rev false) rev e ++ unmarked_from marks n (drop (rev + 1) entries))) (sym next)
    ∙ ap (λ es. lines ++ unmarked_from marks rev es) (sym (drop_here entries rev e at)) ∙ so

pub lines_end : (entries : List Entry) (rev : ℕ) (marks : List Bool) (lines all : List ℕ) → length entries ≤ rev → lines ++ unmarked_from marks rev (drop rev entries) ≡ all → lines ≡ all
lines_end entries rev marks lines all past so = sym (append-nil lines) ∙ ap (λ es. lines ++ unmarked_from marks rev es) (sym (drop_all rev entries past)) ∙ so

-- ---- what the marks say

length-marked : (p : Option ℕ) (marks : List Bool) → length (marked p marks) ≡ length marks
length-marked None marks = refl
length-marked (Some q) marks = by (nat_lt q (length marks))
  where
    by : (b : Bool) → length (if b then slice_set marks q true else marks) ≡ length marks
    by true = length-set marks q true
    by false = refl

marked_at : (p : Option ℕ) (marks : List Bool) (rev : ℕ) → rev < length marks → slice_index_or (marked p marks) rev false ≡ (is_parent rev p || slice_index_or marks rev false)
marked_at None marks rev there = refl
marked_at (Some q) marks rev there = by (q == rev) refl
  where
    is_same : (q == rev) ≡ true → q ≡ rev
    is_same h = grind (arith, h)

    is_other : (q == rev) ≡ false → rev ≢ q
    is_other h = grind (arith, h)

    inside : q ≡ rev → nat_lt q (length marks) ≡ true
    inside h = grind (arith, h, there)

    other : (b : Bool) → rev ≢ q → slice_index_or (if b then slice_set marks q true else marks) rev false ≡ slice_index_or marks rev false
    other true h = get_or-set_other marks q rev true false h
    other false h = refl

    by : (b : Bool) → (q == rev) ≡ b → slice_index_or (marked (Some q) marks) rev false ≡ (b || slice_index_or marks rev false)
    by true h =
        ap (λ b. slice_index_or (if b then slice_set marks q true else marks) rev false) (inside (is_same h))
        ∙ ap (λ n. slice_index_or (slice_set marks n true) rev false) (is_same h)
        ∙ get_or-set_same marks rev true false there
    by false h = other (nat_lt q (length marks)) (is_other h)

or_turned : (a b m : Bool) → (b || (a || m)) ≡ (m || (a || b))
or_turned true true true = refl
or_turned true true false = refl
or_turned true false true = refl
or_turned true false false = refl
or_turned false true true = refl
or_turned false true false = refl
or_turned false false true = refl
or_turned false false false = refl

or_assoc : (a b c : Bool) → ((a || b) || c) ≡ (a || (b || c))
or_assoc true b c = refl
or_assoc false b c = refl

or_none : (a : Bool) → (a || false) ≡ a
or_none true = refl
or_none false = refl

marks_at : (entries : List Entry) (marks : List Bool) (rev : ℕ) → rev < length marks → slice_index_or (marked_by entries marks) rev false ≡ (slice_index_or marks rev false || list_any (has_parent rev) entries)
marks_at [] marks rev there = sym (or_none (slice_index_or marks rev false))
marks_at (e ∷ more) marks rev there =
    let one = length-marked e.p1 marks in
    let two = length-marked e.p2 (marked e.p1 marks) in
    let old = slice_index_or marks rev false in
    let rest = list_any (has_parent rev) more in
    marks_at more (marked e.p2 (marked e.p1 marks)) rev (omega (arith, one, two, there))
    ∙ ap (λ b. b || rest) (marked_at e.p2 (marked e.p1 marks) rev (omega (arith, one, there)) ∙ ap (λ b. is_parent rev e.p2 || b) (marked_at e.p1 marks rev there) ∙ or_turned (is_parent rev e.p1) (is_parent rev e.p2) old)
    ∙ or_assoc old (has_parent rev e) rest

none_marked : (n rev : ℕ) → slice_index_or (replicate n false) rev false ≡ false
none_marked zero rev = refl
none_marked (suc n) zero = refl
none_marked (suc n) (suc rev) = none_marked n rev

length-none : (n : ℕ) → length (replicate n false) ≡ n
length-none zero = refl
length-none (suc n) = ap suc (length-none n)

-- the lines without a mark are those of heads
same_lines : (all : List Entry) (rev : ℕ) (entries : List Entry) → rev + length entries ≤ length all
    → unmarked_from (marked_by all (replicate (length all) false)) rev entries ≡ heads_from all rev entries
same_lines all rev [] few = refl
same_lines all rev (e ∷ more) few =
    let size = length-none (length all) in
    let is : slice_index_or (marked_by all (replicate (length all) false)) rev false ≡ list_any (has_parent rev) all =
    marks_at all (replicate (length all) false) rev (omega (arith, few, size)) ∙ ap (λ b. b || list_any (has_parent rev) all) (none_marked (length all) rev) in
    ap (λ b. line_unless b rev e ++ unmarked_from (marked_by all (replicate (length all) false)) (suc rev) more) is
    ∙ ap (λ l. line_unless (list_any (has_parent rev) all) rev e ++ l) (same_lines all (suc rev) more (omega (arith, few)))

pub heads_are : (all : List Entry) → unmarked_from (marked_by all (replicate (length all) false)) 0 all ≡ heads_from all 0 all
heads_are all = same_lines all 0 all (omega arith)
