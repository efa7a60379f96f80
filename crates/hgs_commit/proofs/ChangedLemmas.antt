-- The changed paths of a tree whose files were added one after another.
use Rattle.std.proofs.Common.{◌≡◌, ◌⊎◌, ℕ, List, [], ◌∷◌, ◌++◌, Bool, true, false, cond, ◌&&◌, ◌||◌, map, refl, sym, ◌∙◌, ap, append_assoc, inl, inr}
use Rattle.std.specs.Prelude.{filter, flat_map, not}
use Rattle.hgs_bytes.specs.Bytes.{same, among, is_below}
use Rattle.hgs_bytes.specs.Text.{ascends}
use Rattle.hgs_index.specs.Manifest.{Row, AscendFrom}
use Rattle.hgs_model.specs.History.{in_order}
use Rattle.hgs_model.specs.Theorems.ListLemmas.{ascends-head, ascends-tail, below-or, below-trans}
use Rattle.hgs_model.specs.Theorems.NewChangesetLemmas.{in_order-ordered}
use Rattle.hgs_ops.specs.Theorems.StandsCommit.{among-in_order}
use Rattle.hgs_commit.specs.Files.{OfFile, new_path}
use Rattle.hgs_commit.specs.Texts.{changes_of}
use Rattle.hgs_commit.specs.Tree.{OfTree, new_lines, passed_at, paths_of, rest_at, with_file, with_files}
use Rattle.hgs_commit.specs.Trees.{file_paths, grown_of, removed_paths}
use Rattle.hgs_commit.specs.Walk.{before, behind_row, from_path}
use Rattle.hgs_commit.proofs.RowLemmas.{below-other, rest-above, same-eq, same-refl}

-- ---- a tree with files behind it

nil : {A : Type 0} (l : List A) → l ++ [] ≡ l
nil [] = refl
nil (x ∷ l) = ap (λ r. x ∷ r) (nil l)

pub rows-with : (tree : OfTree) (xs : List OfFile) → (with_files tree xs).rows ≡ tree.rows ++ map (λ x. x.row) xs
rows-with tree [] = sym (nil tree.rows)
rows-with tree (x ∷ xs) = rows-with (with_file tree x) xs ∙ append_assoc tree.rows (x.row ∷ []) (map (λ x. x.row) xs)

pub growth-with : (tree : OfTree) (xs : List OfFile) → (with_files tree xs).growth ≡ tree.growth ++ flat_map (λ x. changes_of x.growth) xs
growth-with tree [] = sym (nil tree.growth)
growth-with tree (x ∷ xs) = growth-with (with_file tree x) xs ∙ append_assoc tree.growth (changes_of x.growth) (flat_map (λ x. changes_of x.growth) xs)

pub lines-with : (tree : OfTree) (xs : List OfFile) → (with_files tree xs).lines ≡ tree.lines ++ flat_map (λ x. new_lines x.new x.inline x.row.path) xs
lines-with tree [] = sym (nil tree.lines)
lines-with tree (x ∷ xs) = lines-with (with_file tree x) xs ∙ append_assoc tree.lines (new_lines x.new x.inline x.row.path) (flat_map (λ x. new_lines x.new x.inline x.row.path) xs)

-- the changed paths in the order in which they are met
abbrev pub met_paths : List OfFile → List Row → List Row → List (List ℕ)
met_paths [] first second = paths_of first ++ paths_of second
met_paths (x ∷ xs) first second = (passed_at x.row.path first second ++ new_path x.changed x.row.path) ++ met_paths xs (rest_at x.row.path first) (rest_at x.row.path second)

pub changed-with : (tree : OfTree) (xs : List OfFile) → (with_files tree xs).changed ++ (paths_of (with_files tree xs).first ++ paths_of (with_files tree xs).second) ≡ tree.changed ++ met_paths xs tree.first tree.second
changed-with tree [] = refl
changed-with tree (x ∷ xs) =
    changed-with (with_file tree x) xs
    ∙ append_assoc tree.changed (passed_at x.row.path tree.first tree.second ++ new_path x.changed x.row.path) (met_paths xs (rest_at x.row.path tree.first) (rest_at x.row.path tree.second))

-- ---- which paths these are

is-bool : (b : Bool) → (b ≡ true) ⊎ (b ≡ false)
is-bool true = inl refl
is-bool false = inr refl

never : {A : Type 0} → true ≡ false → A
never e = absurd (no e)
  where
    no : true ≡ false → ⊥
    no h = cc

or-assoc : (a b c : Bool) → (a || (b || c)) ≡ ((a || b) || c)
or-assoc true b c = refl
or-assoc false b c = refl

among-join : (p : List ℕ) (xs ys : List (List ℕ)) → among p (xs ++ ys) ≡ (among p xs || among p ys)
among-join p [] ys = refl
among-join p (x ∷ xs) ys = ap (λ b. same p x || b) (among-join p xs ys) ∙ or-assoc (same p x) (among p xs) (among p ys)

among-filter : (g : List ℕ → Bool) (p : List ℕ) (xs : List (List ℕ)) → among p (filter g xs) ≡ (g p && among p xs)
among-filter g p [] = and-false (g p)
  where
    and-false : (b : Bool) → false ≡ (b && false)
    and-false true = refl
    and-false false = refl
among-filter g p (x ∷ xs) = by (is-bool (same p x)) (g x) refl (among-filter g p xs)
  where
    and-true : (b : Bool) → b ≡ (b && true)
    and-true true = refl
    and-true false = refl

    by : (same p x ≡ true) ⊎ (same p x ≡ false) → (b : Bool) → g x ≡ b → among p (filter g xs) ≡ (g p && among p xs) → among p (cond b (x ∷ filter g xs) (filter g xs)) ≡ (g p && (same p x || among p xs))
    by (inl t) true e rec = ap (λ z. z || among p (filter g xs)) t ∙ sym (ap g (same-eq p x t) ∙ e) ∙ and-true (g p) ∙ ap (λ z. g p && (z || among p xs)) (sym t)
    by (inl t) false e rec = rec ∙ ap (λ z. z && among p xs) (ap g (same-eq p x t) ∙ e) ∙ sym (ap (λ z. z && (same p x || among p xs)) (ap g (same-eq p x t) ∙ e))
    by (inr t) true e rec = ap (λ z. z || among p (filter g xs)) t ∙ rec ∙ ap (λ z. g p && (z || among p xs)) (sym t)
    by (inr t) false e rec = rec ∙ ap (λ z. g p && (z || among p xs)) (sym t)

-- a path that is another than this one is passed, or it is left
split-other : (p path : List ℕ) (rows : List Row) → same p path ≡ false → among p (paths_of rows) ≡ (among p (paths_of (before path rows)) || among p (paths_of (rest_at path rows)))
split-other p path [] e = refl
split-other p path (r ∷ rows) e = by (is_below r.path path) (split-other p path rows e)
  where
    here : (s : Bool) → same r.path path ≡ s → (same p r.path || among p (paths_of rows)) ≡ among p (paths_of (cond s rows (r ∷ rows)))
    here true h = ap (λ z. z || among p (paths_of rows)) (ap (same p) (same-eq r.path path h) ∙ e)
    here false h = refl

    by : (b : Bool) → among p (paths_of rows) ≡ (among p (paths_of (before path rows)) || among p (paths_of (rest_at path rows)))
        → (same p r.path || among p (paths_of rows)) ≡ (among p (paths_of (cond b (r ∷ before path rows) [])) || among p (paths_of (behind_row path (cond b (from_path path rows) (r ∷ rows)))))
    by true rec = ap (λ z. same p r.path || z) rec ∙ or-assoc (same p r.path) (among p (paths_of (before path rows))) (among p (paths_of (rest_at path rows)))
    by false rec = here (same r.path path) refl

-- what is passed comes before the path
passed-below : (p path : List ℕ) (rows : List Row) → among p (paths_of (before path rows)) ≡ true → is_below p path ≡ true
passed-below p path [] h = never (sym h)
passed-below p path (r ∷ rows) h = by (is_below r.path path) refl h (passed-below p path rows)
  where
    by : (b : Bool) → is_below r.path path ≡ b → among p (paths_of (cond b (r ∷ before path rows) [])) ≡ true → (among p (paths_of (before path rows)) ≡ true → is_below p path ≡ true) → is_below p path ≡ true
    by false e h rec = never (sym h)
    by true e h rec = here (same p r.path) refl h
      where
        here : (s : Bool) → same p r.path ≡ s → (s || among p (paths_of (before path rows))) ≡ true → is_below p path ≡ true
        here true s h = ap (λ q. is_below q path) (same-eq p r.path s) ∙ e
        here false s h = rec h

-- rows above a path do not have it
not-above : (path last : List ℕ) (rows : List Row) → ((q : List ℕ) → is_below last q ≡ true → same path q ≡ false) → AscendFrom last rows → among path (paths_of rows) ≡ false
not-above path last [] u a = refl
not-above path last (r ∷ rows) u a =
    ap (λ z. z || among path (paths_of rows)) (u r.path a.1) ∙ not-above path r.path rows (λ q b. u q (below-trans last r.path q a.1 b)) a.2

-- a path at or below the first of paths that ascend is in none of the later ones
not-later : (p x : List ℕ) (ys : List (List ℕ)) → ((q : List ℕ) → is_below x q ≡ true → same p q ≡ false) → ascends (x ∷ ys) ≡ true → among p ys ≡ false
not-later p x [] u a = refl
not-later p x (y ∷ ys) u a =
    ap (λ z. z || among p ys) (u y (ascends-head x (y ∷ ys) a)) ∙ not-later p y ys (λ q b. u q (below-trans x y q (ascends-head x (y ∷ ys) a) b)) (ascends-tail x (y ∷ ys) a)

-- a changed path is one of all
not-changed : (p : List ℕ) (xs : List OfFile) → among p (file_paths xs) ≡ false → among p (file_paths (filter (λ x. x.changed) xs)) ≡ false
not-changed p [] h = refl
not-changed p (x ∷ xs) h = by (same p x.row.path) refl h x.changed (not-changed p xs)
  where
    by : (s : Bool) → same p x.row.path ≡ s → (s || among p (file_paths xs)) ≡ false → (b : Bool) → (among p (file_paths xs) ≡ false → among p (file_paths (filter (λ x. x.changed) xs)) ≡ false) → among p (file_paths (cond b (x ∷ filter (λ x. x.changed) xs) (filter (λ x. x.changed) xs))) ≡ false
    by true e h b rec = never h
    by false e h false rec = rec h
    by false e h true rec = ap (λ z. z || among p (file_paths (filter (λ x. x.changed) xs))) e ∙ rec h

abbrev all_changed : List OfFile → List Row → List Row → List ℕ → Bool
all_changed xs first second p = among p (file_paths (filter (λ x. x.changed) xs)) || (not (among p (file_paths xs)) && (among p (paths_of first) || among p (paths_of second)))

module _ (p : List ℕ) where
  among-filtered : (x : OfFile) (xs : List OfFile) → same p x.row.path ≡ false → among p (file_paths (filter (λ x. x.changed) (x ∷ xs))) ≡ among p (file_paths (filter (λ x. x.changed) xs))
  among-filtered x xs e = by x.changed
    where
      by : (b : Bool) → among p (file_paths (cond b (x ∷ filter (λ x. x.changed) xs) (filter (λ x. x.changed) xs))) ≡ among p (file_paths (filter (λ x. x.changed) xs))
      by true = ap (λ z. z || among p (file_paths (filter (λ x. x.changed) xs))) e
      by false = refl

  among-new : (x : OfFile) → same p x.row.path ≡ false → among p (new_path x.changed x.row.path) ≡ false
  among-new x e = by x.changed
    where
      by : (b : Bool) → among p (cond b (x.row.path ∷ []) []) ≡ false
      by true = ap (λ z. z || false) e
      by false = refl

  logic : (a b c d f n : Bool) → (a ≡ true → n ≡ false) → (b ≡ true → n ≡ false) → (((a || b) || false) || (f || (not n && (c || d)))) ≡ (f || (not n && ((a || c) || (b || d))))
  logic true b c d f true u v = never (u refl)
  logic false true c d f true u v = never (v refl)
  logic false false c d f n u v = refl
  logic true b c d true false u v = refl
  logic true b c d false false u v = refl
  logic false true true d true false u v = refl
  logic false true true d false false u v = refl
  logic false true false d true false u v = refl
  logic false true false d false false u v = refl

  among-met : (xs : List OfFile) (la lb : List ℕ) (first second : List Row) → ascends (file_paths xs) ≡ true → AscendFrom la first → AscendFrom lb second → among p (met_paths xs first second) ≡ all_changed xs first second p
  among-met [] la lb first second up a b = among-join p (paths_of first) (paths_of second)
  among-met (x ∷ xs) la lb first second up a b = by (is-bool (same p x.row.path)) (among-met xs x.row.path x.row.path (rest_at x.row.path first) (rest_at x.row.path second) (ascends-tail x.row.path (file_paths xs) up) (rest-above x.row.path la first a) (rest-above x.row.path lb second b))
    where
      path : List ℕ
      path = x.row.path

      passed : List (List ℕ)
      passed = passed_at path first second

      joined : among p (met_paths (x ∷ xs) first second) ≡ (((among p (paths_of (before path first)) || among p (paths_of (before path second))) || among p (new_path x.changed path)) || among p (met_paths xs (rest_at path first) (rest_at path second)))
      joined =
          among-join p (passed ++ new_path x.changed path) (met_paths xs (rest_at path first) (rest_at path second))
          ∙ ap (λ z. z || among p (met_paths xs (rest_at path first) (rest_at path second))) (among-join p passed (new_path x.changed path) ∙ ap (λ z. z || among p (new_path x.changed path)) (among-join p (paths_of (before path first)) (paths_of (before path second))))

      later : is_below p path ≡ true → among p (file_paths xs) ≡ false
      later h = not-later p path (file_paths xs) (λ q k. below-other p q (below-trans p path q h k)) up

      not-passed : same p path ≡ true → (rows : List Row) → among p (paths_of (before path rows)) ≡ false
      not-passed e rows = one (is-bool (among p (paths_of (before path rows))))
        where
          one : (among p (paths_of (before path rows)) ≡ true) ⊎ (among p (paths_of (before path rows)) ≡ false) → among p (paths_of (before path rows)) ≡ false
          one (inr h) = h
          one (inl h) = never (sym e ∙ below-other p path (passed-below p path rows h))

      here : same p path ≡ true → (rows : List Row) (last : List ℕ) → AscendFrom last rows → among p (paths_of (rest_at path rows)) ≡ false
      here e rows last k = not-above p path (rest_at path rows) (λ q h. ap (λ o. same o q) (same-eq p path e) ∙ below-other path q h) (rest-above path last rows k)

      none-later : same p path ≡ true → among p (file_paths xs) ≡ false
      none-later e = not-later p path (file_paths xs) (λ q h. ap (λ o. same o q) (same-eq p path e) ∙ below-other path q h) up

      at-path : same p path ≡ true → (b : Bool) → among p (cond b (path ∷ []) []) ≡ among p (file_paths (cond b (x ∷ filter (λ x. x.changed) xs) (filter (λ x. x.changed) xs)))
      at-path e true = ap (λ z. z || false) e ∙ sym (ap (λ z. z || among p (file_paths (filter (λ x. x.changed) xs))) e)
      at-path e false = sym (not-changed p xs (none-later e))

      alone : (n f : Bool) → n ≡ true → ((false || false) || f) ≡ (f || (not n && (among p (paths_of first) || among p (paths_of second))))
      alone true true e = refl
      alone true false e = refl
      alone false f e = never (sym e)

      or-none : (b : Bool) → (b || false) ≡ b
      or-none true = refl
      or-none false = refl

      by : (same p path ≡ true) ⊎ (same p path ≡ false) → among p (met_paths xs (rest_at path first) (rest_at path second)) ≡ all_changed xs (rest_at path first) (rest_at path second) p → among p (met_paths (x ∷ xs) first second) ≡ all_changed (x ∷ xs) first second p
      by (inr e) rec =
          joined
          ∙ ap (λ z. ((among p (paths_of (before path first)) || among p (paths_of (before path second))) || z) || among p (met_paths xs (rest_at path first) (rest_at path second))) (among-new x e)
          ∙ ap (λ z. ((among p (paths_of (before path first)) || among p (paths_of (before path second))) || false) || z) rec
          ∙ logic (among p (paths_of (before path first))) (among p (paths_of (before path second))) (among p (paths_of (rest_at path first))) (among p (paths_of (rest_at path second))) (among p (file_paths (filter (λ x. x.changed) xs))) (among p (file_paths xs))
          (λ h. later (passed-below p path first h)) (λ h. later (passed-below p path second h))
          ∙ ap (λ z. among p (file_paths (filter (λ x. x.changed) xs)) || (not (among p (file_paths xs)) && (z || (among p (paths_of (before path second)) || among p (paths_of (rest_at path second)))))) (sym (split-other p path first e))
          ∙ ap (λ z. among p (file_paths (filter (λ x. x.changed) xs)) || (not (among p (file_paths xs)) && (among p (paths_of first) || z))) (sym (split-other p path second e))
          ∙ ap (λ z. z || (not (among p (file_paths xs)) && (among p (paths_of first) || among p (paths_of second)))) (sym (among-filtered x xs e))
          ∙ ap (λ z. among p (file_paths (filter (λ x. x.changed) (x ∷ xs))) || (not (z || among p (file_paths xs)) && (among p (paths_of first) || among p (paths_of second)))) (sym e)
      by (inl e) rec =
          let rest : among p (met_paths xs (rest_at path first) (rest_at path second)) ≡ false =
          rec
          ∙ ap (λ z. z || (not (among p (file_paths xs)) && (among p (paths_of (rest_at path first)) || among p (paths_of (rest_at path second))))) (not-changed p xs (none-later e))
          ∙ ap (λ z. not z && (among p (paths_of (rest_at path first)) || among p (paths_of (rest_at path second)))) (none-later e)
          ∙ ap (λ z. z || among p (paths_of (rest_at path second))) (here e first la a)
          ∙ here e second lb b in
          joined
          ∙ ap (λ z. ((among p (paths_of (before path first)) || among p (paths_of (before path second))) || among p (new_path x.changed path)) || z) rest
          ∙ or-none ((among p (paths_of (before path first)) || among p (paths_of (before path second))) || among p (new_path x.changed path))
          ∙ ap (λ z. (z || among p (paths_of (before path second))) || among p (new_path x.changed path)) (not-passed e first)
          ∙ ap (λ z. (false || z) || among p (new_path x.changed path)) (not-passed e second)
          ∙ ap (λ z. (false || false) || z) (at-path e x.changed)
          ∙ alone (same p path || among p (file_paths xs)) (among p (file_paths (filter (λ x. x.changed) (x ∷ xs)))) (ap (λ z. z || among p (file_paths xs)) e)

-- ---- ascending lists with the same texts are one

below-all : (x : List ℕ) (y : List ℕ) (ys : List (List ℕ)) → is_below x y ≡ true → ascends (y ∷ ys) ≡ true → among x (y ∷ ys) ≡ false
below-all x y ys b a = ap (λ z. z || among x ys) (below-other x y b) ∙ not-later x y ys (λ q k. below-other x q (below-trans x y q b k)) a

not-behind : (x : List ℕ) (ys : List (List ℕ)) → ascends (x ∷ ys) ≡ true → among x ys ≡ false
not-behind x ys a = not-later x x ys (λ q k. below-other x q k) a

ascend-same : (xs ys : List (List ℕ)) → ascends xs ≡ true → ascends ys ≡ true → ((p : List ℕ) → among p xs ≡ among p ys) → xs ≡ ys
ascend-same [] [] a b m = refl
ascend-same [] (y ∷ ys) a b m = never (sym (m y ∙ ap (λ z. z || among y ys) (same-refl y)))
ascend-same (x ∷ xs) [] a b m = never (sym (sym (m x) ∙ ap (λ z. z || among x xs) (same-refl x)))
ascend-same (x ∷ xs) (y ∷ ys) a b m = by (is-bool (same x y)) (is-bool (is_below x y)) (ascend-same xs ys (ascends-tail x xs a) (ascends-tail y ys b))
  where
    here : among x (y ∷ ys) ≡ true
    here = sym (m x) ∙ ap (λ z. z || among x xs) (same-refl x)

    there : among y (x ∷ xs) ≡ true
    there = m y ∙ ap (λ z. z || among y ys) (same-refl y)

    by : (same x y ≡ true) ⊎ (same x y ≡ false) → (is_below x y ≡ true) ⊎ (is_below x y ≡ false) → (((p : List ℕ) → among p xs ≡ among p ys) → xs ≡ ys) → x ∷ xs ≡ y ∷ ys
    by (inr e) (inl l) rec = never (sym here ∙ below-all x y ys l b)
    by (inr e) (inr l) rec = never (sym there ∙ below-all y x xs (below-or x y e l) a)
    by (inl e) l rec = let s = same-eq x y e in let t = rec (λ p. rest p s) in λ i. s i ∷ t i
      where
        rest : (p : List ℕ) → x ≡ y → among p xs ≡ among p ys
        rest p s = step_on (is-bool (same p x))
          where
            step_on : (same p x ≡ true) ⊎ (same p x ≡ false) → among p xs ≡ among p ys
            step_on (inl t) =
                let is : p ≡ x = same-eq p x t in
                ap (λ q. among q xs) is ∙ not-behind x xs a ∙ sym (ap (λ q. among q ys) (is ∙ s) ∙ not-behind y ys b)
            step_on (inr t) = sym (ap (λ z. z || among p xs) t) ∙ m p ∙ ap (λ z. z || among p ys) (ap (same p) (sym s) ∙ t)

-- the changed paths in order are those of the changed files and the removed ones
pub changed-is : (xs : List OfFile) (la lb : List ℕ) (first second : List Row) → ascends (file_paths xs) ≡ true → AscendFrom la first → AscendFrom lb second → in_order (met_paths xs first second) ≡ (grown_of first second xs).changed
changed-is xs la lb first second up a b =
    ascend-same (in_order (met_paths xs first second)) (in_order (file_paths (filter (λ x. x.changed) xs) ++ removed_paths xs first second))
    (in_order-ordered (met_paths xs first second)) (in_order-ordered (file_paths (filter (λ x. x.changed) xs) ++ removed_paths xs first second))
    (λ p. among-in_order p (met_paths xs first second) ∙ among-met p xs la lb first second up a b
    ∙ sym (
    among-in_order p (file_paths (filter (λ x. x.changed) xs) ++ removed_paths xs first second)
    ∙ among-join p (file_paths (filter (λ x. x.changed) xs)) (removed_paths xs first second)
    ∙ ap (λ z. among p (file_paths (filter (λ x. x.changed) xs)) || z) (among-filter (λ q. not (among q (file_paths xs))) p (paths_of first ++ paths_of second) ∙ ap (λ z. not (among p (file_paths xs)) && z) (among-join p (paths_of first) (paths_of second)))
    ))
