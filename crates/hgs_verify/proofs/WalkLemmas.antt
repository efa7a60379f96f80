-- What many paths add is what is found of them.
use Rattle.std.proofs.Common.{◌≡◌, ◌⊎◌, ℕ, zero, suc, ◌<◌, List, [], ◌∷◌, ◌++◌, Bool, true, false, ◌||◌, map, take, length, refl, sym, ◌∙◌, ap, subst, inl, inr, arith}
use Rattle.std.specs.Prelude.{Option, Some, None, option_map, slice_get, slice_index_or, ◌==◌}
use Rattle.std.specs.List.{AllByRecursion, list_any}
use Rattle.std.specs.Cmp.Lexicographic.{bytes_decides}
use Rattle.std.proofs.lemmas.Option.{slice_get-map, slice_get_within}
use Rattle.hgs_bytes.specs.Bytes.{same, among}
use Rattle.hgs_files.specs.Tree.{Tree}
use Rattle.hgs_index.specs.ChangeText.{Change}
use Rattle.hgs_findings.specs.Findings.{Finding, IsFinding, is_finding}
use Rattle.hgs_findings.specs.OnePath.{words, word_of, lists_word_wrongly}
use Rattle.hgs_findings.specs.Reading.{sight_of}
use Rattle.hgs_findings.specs.Regular.{used_paths, is_used}
use Rattle.hgs_findings.specs.Sight.{Sight, Seen, seen, is_wrongly_listed}
use Rattle.hgs_judge.specs.Found.{IsFoundOf}
use Rattle.hgs_judge.specs.Words.{is_listed_wrongly, where_listed}
use Rattle.hgs_report.specs.Adds.{Adds}
use Rattle.hgs_report.specs.Lists.{AreLists, AreUnusedLists, ListsWrongly}
use Rattle.hgs_report.specs.Parts.{IsOfPaths, found}
use Rattle.hgs_verify.specs.Walk.{AddPaths}

pub never : {A : Type 0} → true ≡ false → A
never e = absurd (no_case e)
  where
    no_case : true ≡ false → ⊥
    no_case h = cc

abbrev pub PathLaw : Type 0
PathLaw = (t : Tree) (path : List ℕ) → is_used (sight_of t) path ≡ true → (file : List ℕ) (rev : Option ℕ) (kind : ℕ) → IsFoundOf t path file rev kind → IsFinding t file rev kind

abbrev pub ListLaw : Type 0
ListLaw = (s : Sight) (path : List ℕ) (c : Seen) (v : Change) → is_wrongly_listed s path (seen s) c v ≡ lists_word_wrongly (s.filelog path) (words s path) (word_of path c) (among path v.files)

same-itself : (x : List ℕ) → same x x ≡ true
same-itself x = (bytes_decides x x).1 refl

-- ---- findings

module _ (law : PathLaw) (t : Tree) where
  walk-are : (paths : List (List ℕ)) (old new : List Finding) (marks marked : List Bool) → AllByRecursion (λ p. is_used (sight_of t) p ≡ true) paths → AddPaths paths old new marks marked t
      → (file : List ℕ) (rev : Option ℕ) (kind : ℕ) → list_any (is_finding file rev kind) new ≡ true → (list_any (is_finding file rev kind) old ≡ true) ⊎ IsFinding t file rev kind
  walk-are [] old new marks marked u a file rev kind h = inl (ap (list_any (is_finding file rev kind)) a.0 ∙ h)
  walk-are (path ∷ paths) old new marks marked u a file rev kind h = by (walk-are paths a.0 new a.2 marked u.1 a.5 file rev kind h)
    where
      first : (list_any (is_finding file rev kind) old ≡ true) ⊎ IsFoundOf t path file rev kind → (list_any (is_finding file rev kind) old ≡ true) ⊎ IsFinding t file rev kind
      first (inl g) = inl g
      first (inr g) = inr (law t path u.0 file rev kind g)

      by : (list_any (is_finding file rev kind) a.0 ≡ true) ⊎ IsFinding t file rev kind → (list_any (is_finding file rev kind) old ≡ true) ⊎ IsFinding t file rev kind
      by (inl g) = first (a.3.are file rev kind g)
      by (inr g) = inr g

  walk-kept : (paths : List (List ℕ)) (old new : List Finding) (marks marked : List Bool) → AddPaths paths old new marks marked t → (file : List ℕ) (rev : Option ℕ) (kind : ℕ) → list_any (is_finding file rev kind) old ≡ true → list_any (is_finding file rev kind) new ≡ true
  walk-kept [] old new marks marked a file rev kind h = ap (list_any (is_finding file rev kind)) (sym a.0) ∙ h
  walk-kept (path ∷ paths) old new marks marked a file rev kind h = walk-kept paths a.0 new a.2 marked a.5 file rev kind (a.3.kept file rev kind h)

  walk-all : (paths : List (List ℕ)) (old new : List Finding) (marks marked : List Bool) → AddPaths paths old new marks marked t → (path : List ℕ) → among path paths ≡ true → (file : List ℕ) (rev : Option ℕ) (kind : ℕ) → IsFoundOf t path file rev kind → (kind == 9) ≡ false
      → list_any (is_finding file rev kind) new ≡ true
  walk-all [] old new marks marked a path there file rev kind f other = never (sym there)
  walk-all (x ∷ paths) old new marks marked a path there file rev kind f other = by (same path x) refl there (λ g. walk-all paths a.0 new a.2 marked a.5 path g file rev kind f other)
    where
      here : path ≡ x → list_any (is_finding file rev kind) new ≡ true
      here e = walk-kept paths a.0 new a.2 marked a.5 file rev kind (a.3.all file rev kind (subst (λ p. IsFoundOf t p file rev kind) e f) other)

      by : (b : Bool) → same path x ≡ b → (b || among path paths) ≡ true → (among path paths ≡ true → list_any (is_finding file rev kind) new ≡ true) → list_any (is_finding file rev kind) new ≡ true
      by true s g rec = here ((bytes_decides path x).0 s)
      by false s g rec = rec g

  all-among : (xs ys : List (List ℕ)) → ((y : List ℕ) → among y ys ≡ true → among y xs ≡ true) → AllByRecursion (λ y. among y xs ≡ true) ys
  all-among xs [] f = tt
  all-among xs (y ∷ ys) f = (f y (ap (λ b. b || among y ys) (same-itself y)), all-among xs ys (λ z e. f z (or-true (same z y) (among z ys) e)))
    where
      or-true : (a b : Bool) → b ≡ true → (a || b) ≡ true
      or-true true b e = refl
      or-true false b e = e

  pub paths-added : (paths : List (List ℕ)) (old new : List Finding) (marks marked : List Bool) → paths ≡ used_paths (sight_of t) → AddPaths paths old new marks marked t → Adds t (IsOfPaths t) old new
  paths-added paths old new marks marked is a = record {
    are = walk-are paths old new marks marked (subst (λ l. AllByRecursion (λ y. among y l ≡ true) paths) is (all-among paths paths (λ y e. e))) a;
    kept = walk-kept paths old new marks marked a;
    all = every;
  }
    where
      every : (file : List ℕ) (rev : Option ℕ) (kind : ℕ) → IsOfPaths t file rev kind → list_any (is_finding file rev kind) new ≡ true
      every _ _ _ (found path file rev kind used f other) = walk-all paths old new marks marked a path (ap (among path) is ∙ used) file rev kind f other

-- ---- marks

at-or : (xs : List Bool) (k : ℕ) → slice_get xs k ≡ Some true → slice_index_or xs k false ≡ true
at-or [] k e = absurd (clash e)
  where
    clash : None ≡ Some true → ⊥
    clash h = cc
at-or (x ∷ xs) zero e = ap (elim [ None ↦ x | Some z ↦ z ]) e
at-or (x ∷ xs) (suc k) e = at-or xs k e

or-at : (xs : List Bool) (k : ℕ) → slice_index_or xs k false ≡ true → slice_get xs k ≡ Some true
or-at [] k e = never (sym e)
or-at (x ∷ xs) zero e = ap Some e
or-at (x ∷ xs) (suc k) e = or-at xs k e

either : (a b : Bool) → (a || b) ≡ true → (a ≡ true) ⊎ (b ≡ true)
either true b e = inl refl
either false b e = inr e

or-left : (a b : Bool) → a ≡ true → (a || b) ≡ true
or-left true b e = refl
or-left false b e = never (sym e)

or-right : (a b : Bool) → b ≡ true → (a || b) ≡ true
or-right true b e = refl
or-right false b e = e

mapped-at : {A B : Type 0} (f : A → B) (xs : List A) (i : ℕ) (y : B) → slice_get (map f xs) i ≡ Some y → (x : A) × (slice_get xs i ≡ Some x) × (y ≡ f x)
mapped-at {A = A} f [] i y e = absurd (clash e)
  where
    clash : None ≡ Some y → ⊥
    clash h = cc
mapped-at {A = A} {B = B} f (x ∷ xs) zero y e = (x, refl, sym (some-same (f x) y e))
  where
    some-same : (a b : B) → Some a ≡ Some b → a ≡ b
    some-same a b h = ap (elim [ None ↦ a | Some z ↦ z ]) h
mapped-at f (x ∷ xs) (suc i) y e = mapped-at f xs i y e

at-mapped : {A B : Type 0} (f : A → B) (xs : List A) (i : ℕ) (x : A) → slice_get xs i ≡ Some x → slice_get (map f xs) i ≡ Some (f x)
at-mapped f xs i x e = slice_get-map f xs i ∙ ap (option_map f) e

abbrev wrong_at : Tree → List ℕ → List Bool
wrong_at t path = map (is_listed_wrongly ((sight_of t).filelog path) (words (sight_of t) path)) (words (sight_of t) path)

record MarkedAt (t : Tree) (paths : List (List ℕ)) (k : ℕ) : Type 0 where
  path : List ℕ
  there : among path paths ≡ true
  marked : slice_index_or (wrong_at t path) k false ≡ true

module _ (t : Tree) where
  marks-count : (paths : List (List ℕ)) (old new : List Finding) (marks marked : List Bool) → AddPaths paths old new marks marked t → length marked ≡ length marks
  marks-count [] old new marks marked a = ap length (sym a.1)
  marks-count (path ∷ paths) old new marks marked a = marks-count paths a.0 new a.2 marked a.5 ∙ a.4.count

  marks-kept : (paths : List (List ℕ)) (old new : List Finding) (marks marked : List Bool) → AddPaths paths old new marks marked t → (k : ℕ) → k < length marks → slice_index_or marks k false ≡ true → slice_index_or marked k false ≡ true
  marks-kept [] old new marks marked a k lt h = ap (λ l. slice_index_or l k false) (sym a.1) ∙ h
  marks-kept (path ∷ paths) old new marks marked a k lt h =
      marks-kept paths a.0 new a.2 marked a.5 k (let c = a.4.count in omega (arith, lt, c)) (a.4.each k lt ∙ or-left (slice_index_or marks k false) (slice_index_or a.1 k false) h)

  marks-are : (paths : List (List ℕ)) (old new : List Finding) (marks marked : List Bool) → AddPaths paths old new marks marked t → (k : ℕ) → k < length marks → slice_index_or marked k false ≡ true → (slice_index_or marks k false ≡ true) ⊎ MarkedAt t paths k
  marks-are [] old new marks marked a k lt h = inl (ap (λ l. slice_index_or l k false) a.1 ∙ h)
  marks-are (path ∷ paths) old new marks marked a k lt h = by (marks-are paths a.0 new a.2 marked a.5 k (let c = a.4.count in omega (arith, lt, c)) h)
    where
      first : (slice_index_or marks k false ≡ true) ⊎ (slice_index_or a.1 k false ≡ true) → (slice_index_or marks k false ≡ true) ⊎ MarkedAt t (path ∷ paths) k
      first (inl g) = inl g
      first (inr g) = inr (record { path = path; there = ap (λ b. b || among path paths) (same-itself path); marked = ap (λ l. slice_index_or l k false) (sym a.3.lists) ∙ g })

      by : (slice_index_or a.2 k false ≡ true) ⊎ MarkedAt t paths k → (slice_index_or marks k false ≡ true) ⊎ MarkedAt t (path ∷ paths) k
      by (inl g) = first (either (slice_index_or marks k false) (slice_index_or a.1 k false) (sym (a.4.each k lt) ∙ g))
      by (inr m) = inr (record { path = m.path; there = or-right (same m.path path) (among m.path paths) m.there; marked = m.marked })

  marks-all : (paths : List (List ℕ)) (old new : List Finding) (marks marked : List Bool) → AddPaths paths old new marks marked t → (k : ℕ) → k < length marks → (path : List ℕ) → among path paths ≡ true → slice_index_or (wrong_at t path) k false ≡ true → slice_index_or marked k false ≡ true
  marks-all [] old new marks marked a k lt path there h = never (sym there)
  marks-all (x ∷ paths) old new marks marked a k lt path there h = by (same path x) refl there (λ g. marks-all paths a.0 new a.2 marked a.5 k (let c = a.4.count in omega (arith, lt, c)) path g h)
    where
      here : path ≡ x → slice_index_or marked k false ≡ true
      here e =
          marks-kept paths a.0 new a.2 marked a.5 k (let c = a.4.count in omega (arith, lt, c))
          (a.4.each k lt ∙ or-right (slice_index_or marks k false) (slice_index_or a.1 k false) (ap (λ l. slice_index_or l k false) (a.3.lists ∙ ap (wrong_at t) (sym e)) ∙ h))

      by : (b : Bool) → same path x ≡ b → (b || among path paths) ≡ true → (among path paths ≡ true → slice_index_or marked k false ≡ true) → slice_index_or marked k false ≡ true
      by true s g rec = here ((bytes_decides path x).0 s)
      by false s g rec = rec g

  module _ (law : ListLaw) where
    wrong-is : (path : List ℕ) (k : ℕ) → slice_index_or (wrong_at t path) k false ≡ true → ListsWrongly t k
    wrong-is path k h =
        let w = mapped-at (is_listed_wrongly ((sight_of t).filelog path) (words (sight_of t) path)) (words (sight_of t) path) k true (or-at (wrong_at t path) k h) in
        let c = mapped-at (word_of path) (seen (sight_of t)) k w.0 w.1 in
        by c.0 c.1 c.0.change refl (ap (is_listed_wrongly ((sight_of t).filelog path) (words (sight_of t) path)) (sym c.2) ∙ sym w.2)
      where
        by : (c : Seen) → slice_get (seen (sight_of t)) k ≡ Some c → (o : Option Change) → c.change ≡ o → where_listed (option_map (λ (v : Change). among path v.files) o) (lists_word_wrongly ((sight_of t).filelog path) (words (sight_of t) path) (word_of path c)) ≡ true → ListsWrongly t k
        by c at None e g = never (sym g)
        by c at (Some v) e g = record { c = c; v = v; path = path; at = at; change = e; wrong = law (sight_of t) path c v ∙ g }

    is-wrong : (k : ℕ) (w : ListsWrongly t k) → slice_index_or (wrong_at t w.path) k false ≡ true
    is-wrong k w = at-or (wrong_at t w.path) k
        (at-mapped (is_listed_wrongly ((sight_of t).filelog w.path) (words (sight_of t) w.path)) (words (sight_of t) w.path) k (word_of w.path w.c) (at-mapped (word_of w.path) (seen (sight_of t)) k w.c w.at)
        ∙ ap Some (ap (λ o. where_listed (option_map (λ (v : Change). among w.path v.files) o) (lists_word_wrongly ((sight_of t).filelog w.path) (words (sight_of t) w.path) (word_of w.path w.c))) w.change ∙ sym (law (sight_of t) w.path w.c w.v) ∙ w.wrong))

    pub lists-marked : (paths : List (List ℕ)) (old new : List Finding) (marks marked : List Bool) → paths ≡ used_paths (sight_of t) → AreUnusedLists t marks → AddPaths paths old new marks marked t → AreLists t marked
    lists-marked paths old new marks marked is u a = record {
      count = marks-count paths old new marks marked a ∙ u.count;
      are = are;
      all = all;
    }
      where
        are : (rev : ℕ) → slice_get marked rev ≡ Some true → ListsWrongly t rev
        are rev h = by (marks-are paths old new marks marked a rev (let w = slice_get_within marked rev true h in let c = marks-count paths old new marks marked a in omega (arith, w, c)) (at-or marked rev h))
          where
            by : (slice_index_or marks rev false ≡ true) ⊎ MarkedAt t paths rev → ListsWrongly t rev
            by (inl g) = u.are rev (or-at marks rev g)
            by (inr m) = wrong-is m.path rev m.marked

        all : (rev : ℕ) → ListsWrongly t rev → slice_get marked rev ≡ Some true
        all rev w = by (is_used (sight_of t) w.path) refl
          where
            below : rev < length marks
            below = let x = slice_get_within (seen (sight_of t)) rev w.c w.at in let c = u.count in omega (arith, x, c)

            by : (b : Bool) → is_used (sight_of t) w.path ≡ b → slice_get marked rev ≡ Some true
            by true e = or-at marked rev (marks-all paths old new marks marked a rev below w.path (ap (among w.path) is ∙ e) (is-wrong rev w))
            by false e = or-at marked rev (marks-kept paths old new marks marked a rev below (at-or marks rev (u.all rev w e)))

pub take-front : {A : Type 0} (n : ℕ) (xs ys : List A) → n ≡ length xs → take n (xs ++ ys) ≡ xs
take-front zero [] ys e = refl
take-front (suc n) [] ys e = absurd (omega (arith, e))
take-front zero (x ∷ xs) ys e = absurd (omega (arith, e))
take-front (suc n) (x ∷ xs) ys e = ap (λ l. x ∷ l) (take-front n xs ys (omega (arith, e)))
