-- What is added of a path is what is found of it.
use Rattle.std.proofs.Common.{◌≡◌, ◌⊎◌, ℕ, zero, suc, ◌+◌, List, [], ◌∷◌, ◌++◌, Bool, true, false, ◌&&◌, ◌||◌, length, refl, sym, ◌∙◌, ap, subst, inl, inr, arith}
use Rattle.std.specs.Prelude.{Option, Some, None, slice_get, ◌==◌}
use Rattle.std.specs.List.{list_any}
use Rattle.std.specs.Cmp.Lexicographic.{bytes_decides}
use Rattle.std.proofs.lemmas.List.{length-map}
use Rattle.std.proofs.lemmas.Option.{slice_get-map, slice_get_within}
use Rattle.hgs_bytes.specs.Bytes.{same}
use Rattle.hgs_index.specs.Revision.{Revision}
use Rattle.hgs_findings.specs.Findings as findings
use Rattle.hgs_findings.specs.Findings.{is_finding, is_same_rev}
use Rattle.hgs_findings.specs.OnePath.{Word, namings_of_words}
use Rattle.hgs_findings.specs.Reading.{reading_of}
use Rattle.hgs_judge.specs.declared.kinds.Kinds.{Kinds}
use Rattle.hgs_judge.specs.declared.path.PathFindings.{PathFindings}
use Rattle.hgs_judge.specs.Found.{IsFoundAt, fault, lacking, unneeded, misplaced, wrongly_made, listed_wrongly, index_rest, data_rest}
use Rattle.hgs_judge.specs.Kinds.{kinds_of}
use Rattle.hgs_judge.specs.Path.{IsJudged}
use Rattle.hgs_judge.specs.Report.{one_if, each_from, of_lacking, of_kinds, of_path}
use Rattle.hgs_judge.specs.Words.{lacks_file}
use Rattle.hgs_judge.proofs.Basics.{never, eq-test, eq-itself}
use Rattle.hgs_judge.proofs.ChangesetLemmas.{mapped-at, there}

any-append : (p : findings.Finding → Bool) (xs ys : List findings.Finding) → list_any p (xs ++ ys) ≡ (list_any p xs || list_any p ys)
any-append p [] ys = refl
any-append p (x ∷ xs) ys = by (p x) (any-append p xs ys)
  where
    by : (b : Bool) → list_any p (xs ++ ys) ≡ (list_any p xs || list_any p ys) → (b || list_any p (xs ++ ys)) ≡ ((b || list_any p xs) || list_any p ys)
    by true rec = refl
    by false rec = rec

either : (a b : Bool) → (a || b) ≡ true → (a ≡ true) ⊎ (b ≡ true)
either true b e = inl refl
either false b e = inr e

in-front : (p : findings.Finding → Bool) (xs ys : List findings.Finding) → list_any p xs ≡ true → list_any p (xs ++ ys) ≡ true
in-front p xs ys e = any-append p xs ys ∙ ap (λ b. b || list_any p ys) e

in-back : (p : findings.Finding → Bool) (xs ys : List findings.Finding) → list_any p ys ≡ true → list_any p (xs ++ ys) ≡ true
in-back p xs ys e = any-append p xs ys ∙ ap (λ b. list_any p xs || b) e ∙ by (list_any p xs)
  where
    by : (b : Bool) → (b || true) ≡ true
    by true = refl
    by false = refl

split-any : (p : findings.Finding → Bool) (xs ys : List findings.Finding) → list_any p (xs ++ ys) ≡ true → (list_any p xs ≡ true) ⊎ (list_any p ys ≡ true)
split-any p xs ys e = either (list_any p xs) (list_any p ys) (sym (any-append p xs ys) ∙ e)

-- ---- one finding

record IsOne (is : Bool) (path : List ℕ) (rev kind : ℕ) (file : List ℕ) (at : Option ℕ) (k : ℕ) : Type 0 where
  holds : is ≡ true
  file_is : path ≡ file
  at_is : Some rev ≡ at
  kind_is : kind ≡ k

both : (a b : Bool) → (a && b) ≡ true → (a ≡ true) × (b ≡ true)
both true b e = (refl, e)
both false b e = never (sym e)

or-nothing : (a : Bool) → (a || false) ≡ true → a ≡ true
or-nothing true e = refl
or-nothing false e = e

one-is : (is : Bool) (path : List ℕ) (rev kind : ℕ) (file : List ℕ) (at : Option ℕ) (k : ℕ) → list_any (is_finding file at k) (one_if is path rev kind) ≡ true → IsOne is path rev kind file at k
one-is false path rev kind file at k e = never (sym e)
one-is true path rev kind file at k e = record { holds = refl; file_is = (bytes_decides path file).0 a.0; at_is = rev_is at b.0; kind_is = eq-test kind k b.1 }
  where
    tests : ((same path file && is_same_rev (Some rev) at) && (kind == k)) ≡ true
    tests = or-nothing ((same path file && is_same_rev (Some rev) at) && (kind == k)) e

    b0 : ((same path file && is_same_rev (Some rev) at) ≡ true) × ((kind == k) ≡ true)
    b0 = both (same path file && is_same_rev (Some rev) at) (kind == k) tests

    a : (same path file ≡ true) × (is_same_rev (Some rev) at ≡ true)
    a = both (same path file) (is_same_rev (Some rev) at) b0.0

    b : (is_same_rev (Some rev) at ≡ true) × ((kind == k) ≡ true)
    b = (a.1, b0.1)

    rev_is : (o : Option ℕ) → is_same_rev (Some rev) o ≡ true → Some rev ≡ o
    rev_is None h = never (sym h)
    rev_is (Some n) h = ap Some (eq-test rev n h)

is-one : (is : Bool) (path : List ℕ) (rev kind : ℕ) → is ≡ true → list_any (is_finding path (Some rev) kind) (one_if is path rev kind) ≡ true
is-one false path rev kind e = never (sym e)
is-one true path rev kind e =
    ap (λ b. ((b && (rev == rev)) && (kind == kind)) || false) ((bytes_decides path path).1 refl)
    ∙ ap (λ b. ((true && b) && (kind == kind)) || false) (eq-itself rev)
    ∙ ap (λ b. ((true && true) && b) || false) (eq-itself kind)

-- ---- those of a list

record IsOf {A : Type 0} (p : findings.Finding → Bool) (f : ℕ → A → List findings.Finding) (k : ℕ) (xs : List A) : Type 0 where
  i : ℕ
  x : A
  at : slice_get xs i ≡ Some x
  is : list_any p (f (k + i) x) ≡ true

is-of : {A : Type 0} (p : findings.Finding → Bool) (f : ℕ → A → List findings.Finding) (k : ℕ) (xs : List A) → list_any p (each_from f k xs) ≡ true → IsOf p f k xs
is-of p f k [] e = never (sym e)
is-of {A = A} p f k (x ∷ xs) e = by (split-any p (f k x) (each_from f (suc k) xs) e) (is-of p f (suc k) xs)
  where
    by : (list_any p (f k x) ≡ true) ⊎ (list_any p (each_from f (suc k) xs) ≡ true) → (list_any p (each_from f (suc k) xs) ≡ true → IsOf p f (suc k) xs) → IsOf p f k (x ∷ xs)
    by (inl h) rec = record { i = 0; x = x; at = refl; is = ap (λ n. list_any p (f n x)) (let z : k + 0 ≡ k = omega arith in z) ∙ h }
    by (inr h) rec = let r = rec h in record { i = suc r.i; x = r.x; at = r.at; is = ap (λ n. list_any p (f n r.x)) (let z : k + suc r.i ≡ suc k + r.i = omega arith in z) ∙ r.is }

of-is : {A : Type 0} (p : findings.Finding → Bool) (f : ℕ → A → List findings.Finding) (k : ℕ) (xs : List A) (i : ℕ) (x : A) → slice_get xs i ≡ Some x → list_any p (f (k + i) x) ≡ true → list_any p (each_from f k xs) ≡ true
of-is p f k [] i x at h = absurd (no_x at)
  where
    no_x : None ≡ Some x → ⊥
    no_x g = cc
of-is {A = A} p f k (y ∷ xs) zero x at h = in-front p (f k y) (each_from f (suc k) xs) (ap (λ z. list_any p (f k z)) (some-same y x at) ∙ ap (λ n. list_any p (f n x)) (let z : k ≡ k + 0 = omega arith in z) ∙ h)
  where
    some-same : (a b : A) → Some a ≡ Some b → a ≡ b
    some-same a b g = ap (elim [ None ↦ a | Some z ↦ z ]) g
of-is p f k (y ∷ xs) (suc i) x at h = in-back p (f k y) (each_from f (suc k) xs) (of-is p f (suc k) xs i x at (ap (λ n. list_any p (f n x)) (let z : suc k + i ≡ k + suc i = omega arith in z) ∙ h))

-- ---- a path

abbrev log_of : List ℕ → List ℕ → List Revision
log_of index data_bytes = (reading_of index data_bytes).revisions

some-kinds : (a b : Kinds) → Some a ≡ Some b → a ≡ b
some-kinds a b h = ap (elim [ None ↦ a | Some z ↦ z ]) h

-- the revision of kinds that were found
record KindsAt (index data_bytes : List ℕ) (all : List Word) (i : ℕ) (k : Kinds) : Type 0 where
  r : Revision
  at : slice_get (log_of index data_bytes) i ≡ Some r
  is : k ≡ kinds_of (namings_of_words (log_of index data_bytes) all) i r.parents r.link

kinds-at : (index data_bytes : List ℕ) (all : List Word) (f : PathFindings) (i : ℕ) (k : Kinds) → IsJudged index data_bytes all f → slice_get f.kinds.items i ≡ Some k → KindsAt index data_bytes all i k
kinds-at index data_bytes all f i k j at = record { r = found.0; at = found.1; is = some-kinds k (kinds_of (namings_of_words (log_of index data_bytes) all) i found.0.parents found.0.link) (sym at ∙ stands) }
  where
    log : List Revision
    log = log_of index data_bytes

    found : (r : Revision) × (slice_get log i ≡ Some r) × (r.text ≡ r.text)
    found = let t = there log i (let w = slice_get_within f.kinds.items i k at in let c = j.kinds.count in let n = length-map log (λ (r : Revision). r.parents) in omega (arith, w, c, n)) in (t.0, t.1, refl)

    stands : slice_get f.kinds.items i ≡ Some (kinds_of (namings_of_words log all) i found.0.parents found.0.link)
    stands = j.kinds.each i found.0.parents found.0.link
        (slice_get-map (λ (r : Revision). r.parents) log i ∙ ap (λ o. elim o [ None ↦ None | Some r ↦ Some r.parents ]) found.1)
        (slice_get-map (λ (r : Revision). r.link) log i ∙ ap (λ o. elim o [ None ↦ None | Some r ↦ Some r.link ]) found.1)

moved : (index_file data_file index data_bytes : List ℕ) (all : List Word) (path : List ℕ) (rev kind : ℕ) (file : List ℕ) (at : Option ℕ) (k : ℕ) → path ≡ file → Some rev ≡ at → kind ≡ k
    → IsFoundAt index_file data_file index data_bytes all path (Some rev) kind → IsFoundAt index_file data_file index data_bytes all file at k
moved index_file data_file index data_bytes all path rev kind file at k p r e found =
    subst (λ x. IsFoundAt index_file data_file index data_bytes all file at x) e (subst (λ x. IsFoundAt index_file data_file index data_bytes all file x kind) r (subst (λ x. IsFoundAt index_file data_file index data_bytes all x (Some rev) kind) p found))

-- each finding that is added is one of the path
pub added-are : (index_file data_file index data_bytes : List ℕ) (all : List Word) (f : PathFindings) → IsJudged index data_bytes all f → (file : List ℕ) (at : Option ℕ) (kind : ℕ) → list_any (is_finding file at kind) (of_path index_file data_file f) ≡ true → IsFoundAt index_file data_file index data_bytes all file at kind
added-are index_file data_file index data_bytes all f j file at kind e = parts (split-any p (one_if f.broken index_file f.count 3) _ e)
  where
    p : findings.Finding → Bool
    p = is_finding file at kind

    log : List Revision
    log = log_of index data_bytes

    zero-plus : (n : ℕ) → n ≡ 0 + n
    zero-plus n = omega arith

    move : (path : List ℕ) (rev k : ℕ) → path ≡ file → Some rev ≡ at → k ≡ kind → IsFoundAt index_file data_file index data_bytes all path (Some rev) k → IsFoundAt index_file data_file index data_bytes all file at kind
    move path rev k = moved index_file data_file index data_bytes all path rev k file at kind

    of_broken : list_any p (one_if f.broken index_file f.count 3) ≡ true → IsFoundAt index_file data_file index data_bytes all file at kind
    of_broken h = let o = one-is f.broken index_file f.count 3 file at kind h in move index_file (length log) 3 o.file_is (ap Some (sym j.count) ∙ o.at_is) o.kind_is (fault (sym j.broken ∙ o.holds))

    of_rest : list_any p (one_if f.index_rest index_file f.count 17) ≡ true → IsFoundAt index_file data_file index data_bytes all file at kind
    of_rest h = let o = one-is f.index_rest index_file f.count 17 file at kind h in move index_file (length log) 17 o.file_is (ap Some (sym j.count) ∙ o.at_is) o.kind_is (index_rest (sym j.index_rest ∙ o.holds))

    of_data : list_any p (one_if f.data_rest data_file f.count 17) ≡ true → IsFoundAt index_file data_file index data_bytes all file at kind
    of_data h = let o = one-is f.data_rest data_file f.count 17 file at kind h in move data_file (length log) 17 o.file_is (ap Some (sym j.count) ∙ o.at_is) o.kind_is (data_rest (sym j.data_rest ∙ o.holds))

    of_lost : list_any p (each_from (of_lacking index_file) 0 f.lacking.items) ≡ true → IsFoundAt index_file data_file index data_bytes all file at kind
    of_lost h =
        let r = is-of p (of_lacking index_file) 0 f.lacking.items h in
        let o = one-is r.x index_file (0 + r.i) 5 file at kind r.is in
        let w = mapped-at (lacks_file log) all r.i r.x (ap (λ l. slice_get l r.i) (sym j.lacking) ∙ r.at) in
        move index_file r.i 5 o.file_is (ap Some (zero-plus r.i) ∙ o.at_is) o.kind_is (lacking r.i w.0 w.1 (sym w.2 ∙ o.holds))

    of_one : (i : ℕ) (k : Kinds) → KindsAt index data_bytes all i k → list_any p (of_kinds index_file (0 + i) k) ≡ true → IsFoundAt index_file data_file index data_bytes all file at kind
    of_one i k a h = by (split-any p (one_if k.is_unneeded index_file (0 + i) 6) _ h)
      where
        by_last : (list_any p (one_if k.is_misplaced index_file (0 + i) 7) ≡ true) ⊎ (list_any p (one_if k.is_wrongly_made index_file (0 + i) 8) ≡ true) → IsFoundAt index_file data_file index data_bytes all file at kind
        by_last (inl g) = let o = one-is k.is_misplaced index_file (0 + i) 7 file at kind g in move index_file i 7 o.file_is (ap Some (zero-plus i) ∙ o.at_is) o.kind_is (misplaced i a.r a.at (sym (ap (λ (x : Kinds). x.is_misplaced) a.is) ∙ o.holds))
        by_last (inr g) = let o = one-is k.is_wrongly_made index_file (0 + i) 8 file at kind g in move index_file i 8 o.file_is (ap Some (zero-plus i) ∙ o.at_is) o.kind_is (wrongly_made i a.r a.at (sym (ap (λ (x : Kinds). x.is_wrongly_made) a.is) ∙ o.holds))

        by : (list_any p (one_if k.is_unneeded index_file (0 + i) 6) ≡ true) ⊎ (list_any p (one_if k.is_misplaced index_file (0 + i) 7 ++ one_if k.is_wrongly_made index_file (0 + i) 8) ≡ true) → IsFoundAt index_file data_file index data_bytes all file at kind
        by (inl g) = let o = one-is k.is_unneeded index_file (0 + i) 6 file at kind g in move index_file i 6 o.file_is (ap Some (zero-plus i) ∙ o.at_is) o.kind_is (unneeded i a.r a.at (sym (ap (λ (x : Kinds). x.is_unneeded) a.is) ∙ o.holds))
        by (inr g) = by_last (split-any p (one_if k.is_misplaced index_file (0 + i) 7) (one_if k.is_wrongly_made index_file (0 + i) 8) g)

    of_wrong : list_any p (each_from (of_kinds index_file) 0 f.kinds.items) ≡ true → IsFoundAt index_file data_file index data_bytes all file at kind
    of_wrong h = let r = is-of p (of_kinds index_file) 0 f.kinds.items h in of_one r.i r.x (kinds-at index data_bytes all f r.i r.x j r.at) r.is

    rests : (list_any p (one_if f.index_rest index_file f.count 17) ≡ true) ⊎ (list_any p (one_if f.data_rest data_file f.count 17) ≡ true) → IsFoundAt index_file data_file index data_bytes all file at kind
    rests (inl h) = of_rest h
    rests (inr h) = of_data h

    later : (list_any p (each_from (of_kinds index_file) 0 f.kinds.items) ≡ true) ⊎ (list_any p (one_if f.index_rest index_file f.count 17 ++ one_if f.data_rest data_file f.count 17) ≡ true) → IsFoundAt index_file data_file index data_bytes all file at kind
    later (inl h) = of_wrong h
    later (inr h) = rests (split-any p (one_if f.index_rest index_file f.count 17) (one_if f.data_rest data_file f.count 17) h)

    next : (list_any p (each_from (of_lacking index_file) 0 f.lacking.items) ≡ true) ⊎ (list_any p (each_from (of_kinds index_file) 0 f.kinds.items ++ (one_if f.index_rest index_file f.count 17 ++ one_if f.data_rest data_file f.count 17)) ≡ true) → IsFoundAt index_file data_file index data_bytes all file at kind
    next (inl h) = of_lost h
    next (inr h) = later (split-any p (each_from (of_kinds index_file) 0 f.kinds.items) (one_if f.index_rest index_file f.count 17 ++ one_if f.data_rest data_file f.count 17) h)

    parts : (list_any p (one_if f.broken index_file f.count 3) ≡ true) ⊎ (list_any p (each_from (of_lacking index_file) 0 f.lacking.items ++ (each_from (of_kinds index_file) 0 f.kinds.items ++ (one_if f.index_rest index_file f.count 17 ++ one_if f.data_rest data_file f.count 17))) ≡ true) → IsFoundAt index_file data_file index data_bytes all file at kind
    parts (inl h) = of_broken h
    parts (inr h) = next (split-any p (each_from (of_lacking index_file) 0 f.lacking.items) _ h)

-- and each finding of the path is added, but those of lists of changed files
pub are-added : (index_file data_file index data_bytes : List ℕ) (all : List Word) (f : PathFindings) → IsJudged index data_bytes all f → (file : List ℕ) (at : Option ℕ) (kind : ℕ) → IsFoundAt index_file data_file index data_bytes all file at kind → (kind == 9) ≡ false → list_any (is_finding file at kind) (of_path index_file data_file f) ≡ true
are-added index_file data_file index data_bytes all f j = by
  where
    zero-plus : (n : ℕ) → n ≡ 0 + n
    zero-plus n = omega arith

    in_rest : (p : findings.Finding → Bool) → list_any p (one_if f.index_rest index_file f.count 17 ++ one_if f.data_rest data_file f.count 17) ≡ true → list_any p (of_path index_file data_file f) ≡ true
    in_rest p h = in-back p (one_if f.broken index_file f.count 3) _ (in-back p (each_from (of_lacking index_file) 0 f.lacking.items) _ (in-back p (each_from (of_kinds index_file) 0 f.kinds.items) _ h))

    in_kinds : (p : findings.Finding → Bool) → list_any p (each_from (of_kinds index_file) 0 f.kinds.items) ≡ true → list_any p (of_path index_file data_file f) ≡ true
    in_kinds p h = in-back p (one_if f.broken index_file f.count 3) _ (in-back p (each_from (of_lacking index_file) 0 f.lacking.items) _ (in-front p (each_from (of_kinds index_file) 0 f.kinds.items) (one_if f.index_rest index_file f.count 17 ++ one_if f.data_rest data_file f.count 17) h))

    of_kinds_at : (i : ℕ) (r : Revision) → slice_get (log_of index data_bytes) i ≡ Some r → slice_get f.kinds.items i ≡ Some (kinds_of (namings_of_words (log_of index data_bytes) all) i r.parents r.link)
    of_kinds_at i r at = j.kinds.each i r.parents r.link
        (slice_get-map (λ (x : Revision). x.parents) (log_of index data_bytes) i ∙ ap (λ o. elim o [ None ↦ None | Some x ↦ Some x.parents ]) at)
        (slice_get-map (λ (x : Revision). x.link) (log_of index data_bytes) i ∙ ap (λ o. elim o [ None ↦ None | Some x ↦ Some x.link ]) at)

    numbered : (is : Bool) (path : List ℕ) (kind : ℕ) → is ≡ true → list_any (is_finding path (Some (length (log_of index data_bytes))) kind) (one_if is path f.count kind) ≡ true
    numbered is path kind h = ap (λ n. list_any (is_finding path (Some n) kind) (one_if is path f.count kind)) (sym j.count) ∙ is-one is path f.count kind h

    shown : (is : Bool) (i kind : ℕ) → is ≡ true → list_any (is_finding index_file (Some i) kind) (one_if is index_file (0 + i) kind) ≡ true
    shown is i kind h = ap (λ n. list_any (is_finding index_file (Some n) kind) (one_if is index_file (0 + i) kind)) (zero-plus i) ∙ is-one is index_file (0 + i) kind h

    by : (file : List ℕ) (at : Option ℕ) (kind : ℕ) → IsFoundAt index_file data_file index data_bytes all file at kind → (kind == 9) ≡ false → list_any (is_finding file at kind) (of_path index_file data_file f) ≡ true
    by _ _ _ (fault broken) other = in-front (is_finding index_file (Some (length (log_of index data_bytes))) 3) (one_if f.broken index_file f.count 3) _ (numbered f.broken index_file 3 (j.broken ∙ broken))
    by _ _ _ (lacking i w at h) other =
        let p = is_finding index_file (Some i) 5 in
        let stands : slice_get f.lacking.items i ≡ Some (lacks_file (log_of index data_bytes) w) = ap (λ l. slice_get l i) j.lacking ∙ slice_get-map (lacks_file (log_of index data_bytes)) all i ∙ ap (λ o. elim o [ None ↦ None | Some x ↦ Some (lacks_file (log_of index data_bytes) x) ]) at in
        in-back p (one_if f.broken index_file f.count 3) _ (in-front p (each_from (of_lacking index_file) 0 f.lacking.items) _ (of-is p (of_lacking index_file) 0 f.lacking.items i (lacks_file (log_of index data_bytes) w) stands (shown (lacks_file (log_of index data_bytes) w) i 5 h)))
    by _ _ _ (unneeded i r at h) other =
        let p = is_finding index_file (Some i) 6 in
        let k = kinds_of (namings_of_words (log_of index data_bytes) all) i r.parents r.link in
        in_kinds p (of-is p (of_kinds index_file) 0 f.kinds.items i k (of_kinds_at i r at) (in-front p (one_if k.is_unneeded index_file (0 + i) 6) _ (shown k.is_unneeded i 6 h)))
    by _ _ _ (misplaced i r at h) other =
        let p = is_finding index_file (Some i) 7 in
        let k = kinds_of (namings_of_words (log_of index data_bytes) all) i r.parents r.link in
        in_kinds p (of-is p (of_kinds index_file) 0 f.kinds.items i k (of_kinds_at i r at) (in-back p (one_if k.is_unneeded index_file (0 + i) 6) _ (in-front p (one_if k.is_misplaced index_file (0 + i) 7) _ (shown k.is_misplaced i 7 h))))
    by _ _ _ (wrongly_made i r at h) other =
        let p = is_finding index_file (Some i) 8 in
        let k = kinds_of (namings_of_words (log_of index data_bytes) all) i r.parents r.link in
        in_kinds p (of-is p (of_kinds index_file) 0 f.kinds.items i k (of_kinds_at i r at) (in-back p (one_if k.is_unneeded index_file (0 + i) 6) _ (in-back p (one_if k.is_misplaced index_file (0 + i) 7) _ (shown k.is_wrongly_made i 8 h))))
    by _ _ _ (listed_wrongly i w at h) other = never other
    by _ _ _ (index_rest h) other = in_rest (is_finding index_file (Some (length (log_of index data_bytes))) 17) (in-front (is_finding index_file (Some (length (log_of index data_bytes))) 17) (one_if f.index_rest index_file f.count 17) _ (numbered f.index_rest index_file 17 (j.index_rest ∙ h)))
    by _ _ _ (data_rest h) other = in_rest (is_finding data_file (Some (length (log_of index data_bytes))) 17) (in-back (is_finding data_file (Some (length (log_of index data_bytes))) 17) (one_if f.index_rest index_file f.count 17) _ (numbered f.data_rest data_file 17 (j.data_rest ∙ h)))
