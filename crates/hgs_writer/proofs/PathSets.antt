-- The paths of records, in order.
use Rattle.std.proofs.Common.{◌≡◌, ℕ, zero, suc, ◌+◌, ◌-◌, ◌<◌, Bool, true, false, cond, List, [], ◌∷◌, ◌++◌, length, drop, map, refl, sym, ◌∙◌, ap, arith}
use Rattle.std.specs.Prelude.{Option, Some, None, slice_get, flat_map}
use Rattle.std.specs.BTreeSet.{insert_key}
use Rattle.std.specs.declared.cmp.Ordering.{Ordering}
use Rattle.std.specs.declared.cmp.Ordering.TheVariants.{Less, Equal, Greater}
use Rattle.std.specs.Ordering.{match_ordering, nat_cmp, is_eq, is_lt}
use Rattle.std.specs.Cmp.Lexicographic.{slice_cmp, texts_ties}
use Rattle.hgs_bytes.specs.Bytes.{same, is_below}
use Rattle.hgs_model.specs.History.{in_order, inserted}
use Rattle.hgs_model.specs.Valid.{new_paths}
use Rattle.hgs_model.specs.declared.command.NewChange.{NewChange}
use Rattle.hgs_model.specs.declared.files.NewFile.{NewFile}
use Rattle.hgs_writer.specs.Layered.{entered}

-- a set takes a path as the list in order does
insert-is : (keys : List (List ℕ)) (path : List ℕ) → insert_key (slice_cmp nat_cmp) keys path ≡ inserted path keys
insert-is [] path = refl
insert-is (x ∷ keys) path = by (slice_cmp nat_cmp path x) refl (insert-is keys path)
  where
    by : (o : Ordering) → slice_cmp nat_cmp path x ≡ o → insert_key (slice_cmp nat_cmp) keys path ≡ inserted path keys
        → match_ordering o (path ∷ x ∷ keys) (x ∷ keys) (x ∷ insert_key (slice_cmp nat_cmp) keys path)
        ≡ cond (same path x) (x ∷ keys) (cond (is_below path x) (path ∷ x ∷ keys) (x ∷ inserted path keys))
    by Less e rec = sym (ap (λ b. cond b (x ∷ keys) (cond (is_below path x) (path ∷ x ∷ keys) (x ∷ inserted path keys))) (texts_ties path x ∙ ap is_eq e) ∙ ap (λ o. cond (is_lt o) (path ∷ x ∷ keys) (x ∷ inserted path keys)) e)
    by Equal e rec = sym (ap (λ b. cond b (x ∷ keys) (cond (is_below path x) (path ∷ x ∷ keys) (x ∷ inserted path keys))) (texts_ties path x ∙ ap is_eq e))
    by Greater e rec = ap (λ l. x ∷ l) rec ∙ sym (ap (λ b. cond b (x ∷ keys) (cond (is_below path x) (path ∷ x ∷ keys) (x ∷ inserted path keys))) (texts_ties path x ∙ ap is_eq e) ∙ ap (λ o. cond (is_lt o) (path ∷ x ∷ keys) (x ∷ inserted path keys)) e)

entered-joined : (xs ys keys : List (List ℕ)) → entered (xs ++ ys) keys ≡ entered xs (entered ys keys)
entered-joined [] ys keys = refl
entered-joined (x ∷ xs) ys keys = ap (inserted x) (entered-joined xs ys keys)

entered-all : (xs : List (List ℕ)) → entered xs [] ≡ in_order xs
entered-all [] = refl
entered-all (x ∷ xs) = ap (inserted x) (entered-all xs)

-- the list from one element before
drop-before : {A : Type 0} (xs : List A) (i : ℕ) (x : A) → slice_get xs i ≡ Some x → drop i xs ≡ x ∷ drop (i + 1) xs
drop-before [] i x e = absurd (no_x e)
  where
    no_x : None ≡ Some x → ⊥
    no_x h = cc
drop-before {A = A} (y ∷ xs) zero x e = ap (λ z. z ∷ xs) (some-same y x e)
  where
    some-same : (a b : A) → Some a ≡ Some b → a ≡ b
    some-same a b h = ap (elim [ None ↦ a | Some z ↦ z ]) h
drop-before (y ∷ xs) (suc i) x e = drop-before xs i x e ∙ ap (λ n. x ∷ drop n (y ∷ xs)) (let n : suc (i + 1) ≡ suc i + 1 = omega arith in n)

one-before : {A : Type 0} (xs : List A) (left : ℕ) (x : A) → 0 < left → slice_get xs (left - 1) ≡ Some x → drop (left - 1) xs ≡ x ∷ drop left xs
one-before xs left x lt at = drop-before xs (left - 1) x at ∙ ap (λ n. x ∷ drop n xs) (let e : left - 1 + 1 ≡ left = omega (arith, lt) in e)

-- one more path, before those that were entered
pub path-entered : (files : List NewFile) (left : ℕ) (f : NewFile) (start old new : List (List ℕ)) (key : List ℕ) → 0 < left → slice_get files (left - 1) ≡ Some f → key ≡ f.path
    → old ≡ entered (new_paths (drop left files)) start → new ≡ insert_key (slice_cmp nat_cmp) old key → new ≡ entered (new_paths (drop (left - 1) files)) start
path-entered files left f start old new key lt at is before one =
    one ∙ insert-is old key ∙ ap (λ k. inserted k old) is ∙ ap (inserted f.path) before ∙ ap (λ l. entered (new_paths l) start) (sym (one-before files left f lt at))

abbrev pub paths_of_change : NewChange → List (List ℕ)
paths_of_change n = new_paths n.files

-- one more record
pub record-entered : (changes : List NewChange) (left : ℕ) (n : NewChange) (old new : List (List ℕ)) → 0 < left → slice_get changes (left - 1) ≡ Some n
    → old ≡ in_order (flat_map paths_of_change (drop left changes)) → new ≡ entered (new_paths n.files) old → new ≡ in_order (flat_map paths_of_change (drop (left - 1) changes))
record-entered changes left n old new lt at before one =
    one
    ∙ ap (entered (new_paths n.files)) (before ∙ sym (entered-all (flat_map paths_of_change (drop left changes))))
    ∙ sym (entered-joined (new_paths n.files) (flat_map paths_of_change (drop left changes)) [])
    ∙ entered-all (new_paths n.files ++ flat_map paths_of_change (drop left changes))
    ∙ ap (λ l. in_order (flat_map paths_of_change l)) (sym (one-before changes left n lt at))
