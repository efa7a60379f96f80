-- Lines of members, one after another.
use Rattle.std.proofs.Common.{◌≡◌, ◌<◌, ◌≤◌, ℕ, zero, suc, ◌+◌, Bool, true, false, List, [], ◌∷◌, ◌++◌, length, drop, Some, refl, sym, ◌∙◌, ap, append_assoc, append-nil, arith}
use Rattle.std.specs.Prelude.{◌↔◌, slice_get, slice_index_or, if◌then◌else◌}
use Rattle.hgs_index.specs.declared.entry.Entry.{Entry}
use Rattle.hgs_index.specs.Revision.{ParentsBefore}
use Rattle.hgs_phases.specs.Theorems.PhaseLemmas.{some_is}
use Rattle.hgs_revlog.specs.Log.{nodes_of}
use Rattle.hgs_revset.specs.Members.{Set, Story, Has}
use Rattle.hgs_revset.specs.Text.{holds, member_line, member_lines, set_text}
use Rattle.hgs_members.specs.Members.{Shows}
use Rattle.hgs_members.proofs.EvalLemmas.{drop_all}
use Rattle.hgs_members.proofs.PassLemmas.{false_is_not}

drop-there : (entries : List Entry) (i : ℕ) (e : Entry) → slice_get entries i ≡ Some e → drop i (nodes_of entries) ≡ e.node.0 ∷ drop (suc i) (nodes_of entries)
drop-there [] i e h = cc
drop-there (x ∷ entries) zero e h = ap (λ (y : Entry). y.node.0 ∷ nodes_of entries) (some_is x e h)
drop-there (x ∷ entries) (suc i) e h = drop-there entries i e h

pub lines_next : (entries : List Entry) (rev : ℕ) (e : Entry) (test : ℕ → Bool) (lines new whole : List ℕ) → slice_get entries rev ≡ Some e → lines ++ member_lines test rev (drop rev (nodes_of entries)) ≡ whole →
    new ≡ lines ++ (if test rev then member_line rev e.node.0 else []) → new ++ member_lines test (rev + 1) (drop (rev + 1) (nodes_of entries)) ≡ whole
lines_next entries rev e test lines new whole there so is =
    let n : rev + 1 ≡ suc rev = omega arith in
    let line = if test rev then member_line rev e.node.0 else [] in
    ap (λ k. new ++ member_lines test k (drop k (nodes_of entries))) n
    ∙ ap (λ xs. xs ++ member_lines test (suc rev) (drop (suc rev) (nodes_of entries))) is
    ∙ append_assoc lines line (member_lines test (suc rev) (drop (suc rev) (nodes_of entries)))
    ∙ ap (λ nodes. lines ++ member_lines test rev nodes) (sym (drop-there entries rev e there)) ∙ so

length-nodes : (entries : List Entry) → length (nodes_of entries) ≡ length entries
length-nodes [] = refl
length-nodes (e ∷ entries) = ap suc (length-nodes entries)

pub lines_end : (entries : List Entry) (rev : ℕ) (test : ℕ → Bool) (lines whole : List ℕ) → length entries ≤ rev → lines ++ member_lines test rev (drop rev (nodes_of entries)) ≡ whole → lines ≡ whole
lines_end entries rev test lines whole past so =
    let n = length-nodes entries in
    sym (ap (λ nodes. lines ++ member_lines test rev nodes) (drop_all (nodes_of entries) rev (omega (arith, past, n))) ∙ append-nil lines) ∙ so

-- ---- the same lines by the marks and by the test

same-test : (a b : Bool) → (a ≡ true → b ≡ true) → (b ≡ true → a ≡ true) → a ≡ b
same-test true true f g = refl
same-test true false f g = false_is_not (f refl)
same-test false true f g = false_is_not (g refl)
same-test false false f g = refl

same-lines : (f g : ℕ → Bool) (rev : ℕ) (nodes : List (List ℕ)) → ((i : ℕ) → rev ≤ i → i < rev + length nodes → f i ≡ g i) → member_lines f rev nodes ≡ member_lines g rev nodes
same-lines f g rev [] same = refl
same-lines f g rev (node ∷ nodes) same =
    ap (λ b. (if b then member_line rev node else []) ++ member_lines f (suc rev) nodes) (same rev (omega arith) (omega arith))
    ∙ ap (λ ls. (if g rev then member_line rev node else []) ++ ls) (same-lines f g (suc rev) nodes (λ i low high. same i (omega (arith, low)) (omega (arith, high))))

pub text_of_marks : (s : Story) (a : Set) (marks : List Bool) (text : List ℕ) → ((s : Story) (a : Set) (rev : ℕ) → ParentsBefore 0 s.parents → rev < length s.parents → (holds s a rev ≡ true ↔ Has s a rev)) →
    length s.nodes ≡ length s.parents → Shows s a marks → text ≡ member_lines (λ rev. slice_index_or marks rev false) 0 s.nodes → ParentsBefore 0 s.parents → text ≡ set_text s a
text_of_marks s a marks text exact counted shows is before =
    is ∙ same-lines (λ rev. slice_index_or marks rev false) (holds s a) 0 s.nodes (λ i low high.
    let lt : i < length s.parents = omega (arith, high, counted) in
    let e = shows.each before i lt in
    let x = exact s a i before lt in
    same-test (slice_index_or marks i false) (holds s a i) (λ m. x.1 (e.0 m)) (λ h. e.1 (x.0 h)))

pub nodes_counted : (entries : List Entry) (count : ℕ) → count ≡ length entries → length (nodes_of entries) ≡ count
nodes_counted entries count is = length-nodes entries ∙ sym is
