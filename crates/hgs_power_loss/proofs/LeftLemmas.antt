-- What is laid back is what a loss of power leaves.
use Rattle.std.proofs.Common.{◌≡◌, ℕ, zero, suc, ◌+◌, ◌-◌, ◌<◌, Bool, true, false, cond, ◌&&◌, is_some, List, [], ◌∷◌, ◌++◌, length, take, drop, get_or, min, refl, sym, ◌∙◌, ap, arith, Option, Some, None, unwrap_or, append-nil, true≢false, Result, Ok, Err, OnOk, OnErr}
use Rattle.std.specs.BTreeMap.{BTreeMap, IsOrdered, is_at}
use Rattle.std.specs.Cmp.Lexicographic.{slice_cmp}
use Rattle.std.specs.List.{AllByRecursion, list_all}
use Rattle.std.specs.List.Sorted.{IsStrictlySortedBy}
use Rattle.std.specs.Map.{keys_of, lookup}
use Rattle.std.specs.Option.{option_map}
use Rattle.std.specs.Ordering.{nat_cmp}
use Rattle.std.specs.declared.cmp.Ordering.TheVariants.{Less}
use Rattle.std.proofs.lemmas.Bool.Decides.{nat_tests}
use Rattle.std.proofs.lemmas.Map.Keys.{sorted_head, sorted_tail}
use Rattle.hgs_files.specs.declared.op.Op.{Op}
use Rattle.hgs_files.specs.Tree.{Tree, after_all, apply, bytes_at, renamed, same_path, with_file}
use Rattle.hgs_files.specs.Theorems.TreeLemmas.{after_all-append, same_path-eq, same_path-refl, with_file-other, with_file-same}
use Rattle.hgs_power.specs.Disk.{File, Names, firm, made_as, stood, tree_of}
use Rattle.hgs_power.specs.Power.{filled, names_after, names_back, powered, times}
use Rattle.hgs_power.specs.Theorems.Now.{tree-with}
use Rattle.hgs_power_loss.specs.declared.names.Mark.{Mark}
use Rattle.hgs_power_loss.specs.declared.names.NameChange.{NameChange}
use Rattle.hgs_power_loss.specs.declared.names.NameChange.TheVariants.{Stands, Moves, Goes}
use Rattle.hgs_power_loss.specs.Kept.{Fits, disk_of, file_of, first_names, is_change, name_after, names_after_all, names_before, stood_file}
use Rattle.hgs_power_loss.specs.Left.{tree_after, tree_after_all, with_left}
use Rattle.hgs_power_loss.proofs.DiskLemmas.{after-rest, got}

-- ---- names so many changes ago

back-all : (cs : List NameChange) (j : ℕ) (names : Names) (since : List Names) (k : ℕ) → k ≡ length cs + j → names_back k (names_after_all cs names) (names_before cs names since) ≡ names_back j names since
back-all [] j names since k e = ap (λ n. names_back n names since) (e ∙ omega arith)
back-all (c ∷ cs) j names since k e = back-all cs (suc j) (name_after c names) (names ∷ since) k (omega (arith, e))

length-before : (cs : List NameChange) (names : Names) (since : List Names) → length (names_before cs names since) ≡ length cs + length since
length-before [] names since = omega arith
length-before (c ∷ cs) names since = omega (arith, length-before cs (name_after c names) (names ∷ since))

back : (cs : List NameChange) (n k : ℕ) (names : Names) (since : List Names) → k ≡ length cs - n → names_back k (names_after_all cs names) (names_before cs names since) ≡ names_after_all (take n cs) names
back cs zero k names since e = back-all cs zero names since k (omega (arith, e))
back [] (suc n) k names since e = let none : k ≡ zero = omega (arith, e) in ap (λ m. names_back m names since) none
back (c ∷ cs) (suc n) k names since e = back cs n k (name_after c names) (names ∷ since) (omega (arith, e))

-- the names after the first so many pending changes
pub names-kept : (start : Tree) (cs : List NameChange) (settled : ℕ) (kept : BTreeMap (List ℕ) File) (made : List File) (names : ℕ)
    → names_after names (disk_of start cs settled kept made) ≡ names_after_all (take names (drop settled cs)) (names_after_all (take settled cs) (first_names start))
names-kept start cs settled kept made names =
    let first = names_after_all (take settled cs) (first_names start) in
    let since = names_before (drop settled cs) first [] in
    ap (λ now. names_back (length since - names) now since) (sym (after-rest settled cs (first_names start)))
    ∙ back (drop settled cs) names (length since - names) first [] (omega (arith, length-before (drop settled cs) first []))

-- ---- files as they are laid back

not-behind : (k : List ℕ) (es : List (List ℕ × File)) → AllByRecursion (λ y. slice_cmp nat_cmp k y ≡ Less) (keys_of es) → lookup (is_at (slice_cmp nat_cmp k)) es ≡ None
not-behind k [] h = refl
not-behind k (e ∷ es) h = rw h.0 (not-behind k es h.1)

abbrev left_or : ℕ → ℕ → Option File → Option (List ℕ) → Option (List ℕ)
left_or keep fill None file = file
left_or keep fill (Some f) file = Some (filled keep fill f)

flipped : (p q : List ℕ) (b : Bool) → same_path q p ≡ b → same_path p q ≡ false → same_path q p ≡ false
flipped p q false e h = e
flipped p q true e h = absurd (true≢false (sym (ap (same_path p) (same_path-eq q p e) ∙ same_path-refl p) ∙ h))

module _ (keep fill : ℕ) where
  left-at : (es : List (List ℕ × File)) (t : Tree) (p : List ℕ) → IsStrictlySortedBy (slice_cmp nat_cmp) (keys_of es) → with_left keep fill es t p ≡ left_or keep fill (lookup (is_at (slice_cmp nat_cmp p)) es) (t p)
  left-at [] t p s = refl
  left-at (e ∷ es) t p s =
      left-at es (with_file t e.0 (Some (filled keep fill e.1))) p (sorted_tail (slice_cmp nat_cmp) e.0 (keys_of es) s) ∙ by-head (same_path p e.0) refl
    where
      by-head : (b : Bool) → same_path p e.0 ≡ b → left_or keep fill (lookup (is_at (slice_cmp nat_cmp p)) es) (with_file t e.0 (Some (filled keep fill e.1)) p) ≡ left_or keep fill (cond (same_path p e.0) (Some e.1) (lookup (is_at (slice_cmp nat_cmp p)) es)) (t p)
      by-head true is = rw is (
          let here = same_path-eq p e.0 is in
          let none = ap (λ k. lookup (is_at (slice_cmp nat_cmp k)) es) here ∙ not-behind e.0 es (sorted_head (slice_cmp nat_cmp) e.0 (keys_of es) s) in
          ap (λ o. left_or keep fill o (with_file t e.0 (Some (filled keep fill e.1)) p)) none ∙ ap (with_file t e.0 (Some (filled keep fill e.1))) here ∙ with_file-same t e.0 (Some (filled keep fill e.1)))
      by-head false is = rw is (ap (left_or keep fill (lookup (is_at (slice_cmp nat_cmp p)) es)) (with_file-other t e.0 p (Some (filled keep fill e.1)) (flipped p e.0 (same_path e.0 p) refl is)))

  -- of a firm file all is left
  firm-left : (bytes : List ℕ) → filled keep fill (firm bytes) ≡ bytes
  firm-left bytes =
      let none : min keep (length bytes - length bytes) ≡ zero = omega arith in
      ap (λ n. take (length bytes) bytes ++ times n fill) none ∙ append-nil (take (length bytes) bytes) ∙ take-all bytes
    where
      take-all : (bs : List ℕ) → take (length bs) bs ≡ bs
      take-all [] = refl
      take-all (b ∷ bs) = ap (λ l. b ∷ l) (take-all bs)

  module _ (start : Tree) (kept : BTreeMap (List ℕ) File) (made : List File) where
    -- what is left of the file of a mark
    abbrev pub left_of : List ℕ → List ℕ
    left_of mark = filled keep fill (file_of start kept made mark)

    fused : (mark : List ℕ) (o : Option (List ℕ)) → option_map left_of (option_map (λ bytes. mark) o) ≡ option_map (λ bytes. left_of mark) o
    fused mark None = refl
    fused mark (Some b) = refl

    left-here : (o : Option (List ℕ)) (k : Option File) → ((f : File) → k ≡ Some f → is_some o ≡ true) → left_or keep fill k o ≡ option_map (λ bytes. filled keep fill (unwrap_or k (firm (unwrap_or o [])))) o
    left-here None None h = refl
    left-here None (Some f) h = absurd (true≢false (sym (h f refl)))
    left-here (Some b) None h = ap Some (sym (firm-left b))
    left-here (Some b) (Some f) h = refl

    -- the files that stood at the start, under the names that they had
    pub kept-left : ((path : List ℕ) (f : File) → stood_file kept path ≡ Some f → is_some (start path) ≡ true) → IsOrdered (slice_cmp nat_cmp) kept → with_left keep fill kept.entries start ≡ tree_of (first_names start) left_of
    kept-left stand ordered = λ i p. (left-at kept.entries start p ordered ∙ left-here (start p) (stood_file kept p) (stand p) ∙ sym (fused (stood p) (start p))) i

    -- a change of names
    one-change : (c : NameChange) (names : Names) → is_change (length made) c ≡ true → tree_after keep fill made c (tree_of names left_of) ≡ tree_of (name_after c names) left_of
    one-change (Stands path n) names known =
        let lt : n < length made = grind (arith, nat_tests) in
        ap (λ x. with_file (tree_of names left_of) path (Some (filled keep fill (unwrap_or x (firm (bytes_at start (n ∷ []))))))) (sym (got made n (get_or made n (firm [])) lt (got-again made n lt)))
        ∙ sym (tree-with names left_of path (Some (made_as n)))
      where
        got-again : (xs : List File) (k : ℕ) → k < length xs → get_or xs k (firm []) ≡ get_or xs k (get_or xs k (firm []))
        got-again [] k less = absurd (omega (arith, less))
        got-again (x ∷ xs) zero less = refl
        got-again (x ∷ xs) (suc k) less = got-again xs k (omega (arith, less))
    one-change (Moves from to) names known = by-file (names from)
      where
        by-file : (o : Option (List ℕ)) → renamed (tree_of names left_of) from to (option_map left_of o) ≡ tree_of (renamed names from to o) left_of
        by-file None = refl
        by-file (Some mark) =
            ap (λ (t : Tree). with_file t to (Some (left_of mark))) (sym (tree-with names left_of from None))
            ∙ sym (tree-with (with_file names from None) left_of to (Some mark))
    one-change (Goes path) names known = sym (tree-with names left_of path None)

    first-of : (b c : Bool) → (b && c) ≡ true → (b ≡ true) × (c ≡ true)
    first-of true c e = (refl, e)
    first-of false c e = cc

    pub all-changes : (cs : List NameChange) (names : Names) → list_all (is_change (length made)) cs ≡ true → tree_after_all keep fill made cs (tree_of names left_of) ≡ tree_of (names_after_all cs names) left_of
    all-changes [] names known = refl
    all-changes (c ∷ cs) names known =
        let two = first-of (is_change (length made) c) (list_all (is_change (length made)) cs) known in
        ap (tree_after_all keep fill made cs) (one-change c names two.0) ∙ all-changes cs (name_after c names) two.1

-- a part of the changes
pub known-front : (p : NameChange → Bool) (n : ℕ) (cs : List NameChange) → list_all p cs ≡ true → list_all p (take n cs) ≡ true
known-front p zero cs e = refl
known-front p (suc n) [] e = refl
known-front p (suc n) (c ∷ cs) e = by-head (p c) (known-front p n cs) e
  where
    by-head : (b : Bool) → (list_all p cs ≡ true → list_all p (take n cs) ≡ true) → (b && list_all p cs) ≡ true → (b && list_all p (take n cs)) ≡ true
    by-head true more h = more h
    by-head false more h = h

pub known-rest : (p : NameChange → Bool) (n : ℕ) (cs : List NameChange) → list_all p cs ≡ true → list_all p (drop n cs) ≡ true
known-rest p zero cs e = e
known-rest p (suc n) [] e = refl
known-rest p (suc n) (c ∷ cs) e = known-rest p n cs (by-head (p c) e)
  where
    by-head : (b : Bool) → (b && list_all p cs) ≡ true → list_all p cs ≡ true
    by-head true h = h
    by-head false h = cc

-- what is laid back in all
pub laid-back : (start : Tree) (table : BTreeMap (List ℕ) (Option Mark)) (cs : List NameChange) (settled : ℕ) (kept : BTreeMap (List ℕ) File) (made : List File) (names keep fill : ℕ) → Fits start table cs settled kept (length made)
    → tree_after_all keep fill made (take names (drop settled cs)) (tree_after_all keep fill made (take settled cs) (with_left keep fill kept.entries start)) ≡ powered names keep fill (disk_of start cs settled kept made)
laid-back start table cs settled kept made names keep fill fits =
    let known = fits.made_names in
    ap (λ t. tree_after_all keep fill made (take names (drop settled cs)) (tree_after_all keep fill made (take settled cs) t)) (kept-left keep fill start kept made fits.stand fits.ordered)
    ∙ ap (tree_after_all keep fill made (take names (drop settled cs))) (all-changes keep fill start kept made (take settled cs) (first_names start) (known-front (is_change (length made)) settled cs known))
    ∙ all-changes keep fill start kept made (take names (drop settled cs)) (names_after_all (take settled cs) (first_names start)) (known-front (is_change (length made)) names (drop settled cs) (known-rest (is_change (length made)) settled cs known))
    ∙ ap (λ t. tree_of t (left_of keep fill start kept made)) (sym (names-kept start cs settled kept made names))

-- ---- files and the operations done on them

-- after a call that does an operation or nothing
pub still-done : {E : Type 0} (op : Op) (r : Result Unit E) (t u s : Tree) (log new : List Op) → OnOk r (new ≡ log ++ op ∷ []) → OnOk r (u ≡ apply op t) → OnErr r ((new ≡ log) × (u ≡ t)) → t ≡ after_all log s → u ≡ after_all new s
still-done op (Ok x) t u s log new o a e k = a ∙ ap (apply op) k ∙ sym (after_all-append log (op ∷ []) s) ∙ ap (λ l. after_all l s) (sym o)
still-done op (Err x) t u s log new o a e k = e.1 ∙ k ∙ ap (λ l. after_all l s) (sym e.0)

pub take-most : (n : ℕ) (xs : List NameChange) → take (min (length xs) n) xs ≡ take n xs
take-most zero xs = let none : min (length xs) zero ≡ zero = omega arith in ap (λ k. take k xs) none
take-most (suc n) [] = let none : min (length {A = NameChange} []) (suc n) ≡ zero = omega arith in ap (λ k. take {A = NameChange} k []) none
take-most (suc n) (x ∷ xs) =
    let more : min (suc (length xs)) (suc n) ≡ suc (min (length xs) n) = omega arith in
    ap (λ k. take k (x ∷ xs)) more ∙ ap (λ l. x ∷ l) (take-most n xs)
