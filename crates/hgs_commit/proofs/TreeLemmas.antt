-- The files of a tree one after another.
use Rattle.std.proofs.Common.{◌≡◌, ℕ, List, [], ◌∷◌, ◌++◌, Bool, Option, Result, Ok, Err, refl, sym, ◌∙◌, ap, subst, append_assoc}
use Rattle.hgs_files.specs.Tree.{Tree}
use Rattle.hgs_index.specs.Manifest.{Row}
use Rattle.hgs_loading.specs.Found.{and_then}
use Rattle.hgs_model.specs.declared.files.NewFile.{NewFile}
use Rattle.hgs_path.specs.Fncache.{with_both}
use Rattle.hgs_path.specs.declared.name.Ext.{Ext}
use Rattle.hgs_load.specs.declared.answer.ReadAnswer.{ReadAnswer}
use Rattle.hgs_commit.specs.Files.{OfFile, file_in, new_path, source_node}
use Rattle.hgs_commit.specs.Obstacles.{ClashBehind, Met, Obstacle, noted, noted_one, noting, with_all}
use Rattle.hgs_commit.specs.Tree.{ClashIn, OfFiles, OfTree, adding, files_in, new_lines, new_paths, passed_at, rest_at, row_at, with_file, with_files, with_first}
use Rattle.hgs_commit.specs.Texts.{changes_of}
use Rattle.hgs_commit.specs.Walk.{Told}

pub noted-append : (m : Met) (a b : List Obstacle) → noted m (a ++ b) ≡ noted (noted m a) b
noted-append m [] b = refl
noted-append m (o ∷ a) b = noted-append (noted_one m o) a b

-- what is noted of an answer is behind what was met before
abbrev pub IsNoted : {A : Type 0} → Met → Met → A → Result (A × List Obstacle) ReadAnswer → Type 0
IsNoted {A} m new x r = (obstacles : List Obstacle) × (r ≡ Ok (x, obstacles)) × (new ≡ noted m obstacles)

pub noting-ok : {A : Type 0} (m new : Met) (x : A) (r : Result (A × List Obstacle) ReadAnswer) → noting m r ≡ Ok (x, new) → IsNoted m new x r
noting-ok m new x (Err e) h = cc
noting-ok {A} m new x (Ok y) h =
    let pair : (y.0, noted m y.1) ≡ (x, new) = ok-is (y.0, noted m y.1) (x, new) h in
    (y.1, ap (λ q. Ok (q, y.1)) (ap (λ p. p.0) pair), sym (ap (λ p. p.1) pair))
  where
    ok-is : (a b : A × Met) → (let r : Result (A × Met) ReadAnswer = Ok a in r ≡ Ok b) → a ≡ b
    ok-is a b e = cc

pub noting-err : {A : Type 0} (m : Met) (e : ReadAnswer) (r : Result (A × List Obstacle) ReadAnswer) → noting m r ≡ Err e → r ≡ Err e
noting-err m e (Ok y) h = cc
noting-err m e (Err f) h = cc

-- ---- one file more

-- a tree with one file more
pub grown-is : (old between new : OfTree) (x : OfFile) (path : List ℕ) → path ≡ x.row.path → between.first ≡ rest_at path old.first → between.second ≡ rest_at path old.second → between.rows ≡ old.rows → between.changed ≡ old.changed ++ passed_at path old.first old.second → between.growth ≡ old.growth → between.lines ≡ old.lines →
    new.first ≡ between.first → new.second ≡ between.second → new.rows ≡ between.rows ++ x.row ∷ [] → new.changed ≡ between.changed ++ new_path x.changed x.row.path → new.growth ≡ between.growth ++ changes_of x.growth → new.lines ≡ between.lines ++ new_lines x.new x.inline x.row.path → new ≡ with_file old x
grown-is old between new x path at bf bs br bc bg bl nf ns nr nc ng nl =
    let first : new.first ≡ rest_at x.row.path old.first = nf ∙ bf ∙ ap (λ p. rest_at p old.first) at in
    let second : new.second ≡ rest_at x.row.path old.second = ns ∙ bs ∙ ap (λ p. rest_at p old.second) at in
    let rows : new.rows ≡ old.rows ++ x.row ∷ [] = nr ∙ ap (λ l. l ++ x.row ∷ []) br in
    let changed : new.changed ≡ old.changed ++ (passed_at x.row.path old.first old.second ++ new_path x.changed x.row.path) =
    nc ∙ ap (λ l. l ++ new_path x.changed x.row.path) (bc ∙ ap (λ p. old.changed ++ passed_at p old.first old.second) at) ∙ append_assoc old.changed (passed_at x.row.path old.first old.second) (new_path x.changed x.row.path) in
    let growth : new.growth ≡ old.growth ++ changes_of x.growth = ng ∙ ap (λ l. l ++ changes_of x.growth) bg in
    let lines : new.lines ≡ old.lines ++ new_lines x.new x.inline x.row.path = nl ∙ ap (λ l. l ++ new_lines x.new x.inline x.row.path) bl in
    λ i. record { first = first i; second = second i; rows = rows i; changed = changed i; growth = growth i; lines = lines i }

abbrev pub given : (List ℕ → Ext → Bool) → ℕ → List Row → OfTree → Met → List NewFile → Tree → Result (OfTree × Met) ReadAnswer
given lists link sources tree m files t = adding tree m (files_in lists link sources files tree.first tree.second t)

module _ (lists : List ℕ → Ext → Bool) (link : ℕ) (sources : List Row) (f : NewFile) (rest : List NewFile) (tree : OfTree) (first second : Option Told) (t : Tree) (is_first : first ≡ row_at f.path tree.first) (is_second : second ≡ row_at f.path tree.second) where
  abbrev source : List ℕ
  source = source_node sources f.from

  abbrev behind : Result OfFiles ReadAnswer
  behind = files_in lists link sources rest (rest_at f.path tree.first) (rest_at f.path tree.second) t

  split : (r : Result (OfFile × List Obstacle) ReadAnswer) → file_in lists link f source first second t ≡ r → files_in lists link sources (f ∷ rest) tree.first tree.second t ≡ and_then r (λ x. and_then behind (λ xs. Ok (with_first x xs)))
  split r e =
      ap (λ q. and_then q (λ x. and_then behind (λ xs. Ok (with_first x xs))))
      (ap (λ q. file_in lists link f source q (row_at f.path tree.second) t) (sym is_first) ∙ ap (λ q. file_in lists link f source first q t) (sym is_second) ∙ e)

  module _ (x : OfFile) (obstacles : List Obstacle) (m : Met) where
    one : (xs : Result OfFiles ReadAnswer) → adding tree m (and_then xs (λ xs. Ok (with_first (x, obstacles) xs))) ≡ adding (with_file tree x) (noted m obstacles) xs
    one (Ok xs) = ap (λ n. Ok (with_files (with_file tree x) xs.0, n)) (noted-append m obstacles xs.1)
    one (Err e) = refl

  pub next : (x : OfFile) (m new : Met) (grown : OfTree) → x.row.path ≡ f.path → grown ≡ with_file tree x → noting m (file_in lists link f source first second t) ≡ Ok (x, new) → given lists link sources tree m (f ∷ rest) t ≡ given lists link sources grown new rest t
  next x m new grown path is h =
      let n = noting-ok m new x (file_in lists link f source first second t) h in
      ap (adding tree m) (split (Ok (x, n.0)) n.1)
      ∙ one x n.0 m behind
      ∙ ap (λ p. adding (with_file tree x) (noted m n.0) (files_in lists link sources rest (rest_at p tree.first) (rest_at p tree.second) t)) (sym path)
      ∙ ap (λ g. given lists link sources g (noted m n.0) rest t) (sym is)
      ∙ ap (λ k. given lists link sources grown k rest t) (sym n.2)

  pub none : (m : Met) (e : ReadAnswer) → noting m (file_in lists link f source first second t) ≡ Err e → given lists link sources tree m (f ∷ rest) t ≡ Err e
  none m e h = ap (adding tree m) (split (Err e) (noting-err m e (file_in lists link f source first second t) h))

  -- ---- names that clash

  clash-more : (base : List ℕ → Ext → Bool) (paths more : List (List ℕ)) (a b c : Option (List ℕ)) → ClashBehind base paths a b → ClashBehind (with_all base paths) more b c → ClashBehind base (paths ++ more) a c
  clash-more base [] more a b c h k = let P : Option (List ℕ) → Type 0 = λ o. ClashBehind base more o c in subst P h k
  clash-more base (p ∷ paths) more a b c h k = (h.0, h.1, clash-more (with_both base p) paths more h.0 b c h.2 k)

  clash-next : (base : List ℕ → Ext → Bool) (x : OfFile) (obstacles : List Obstacle) (xs : Result OfFiles ReadAnswer) (a b c : Option (List ℕ)) → ClashBehind base (new_path x.new x.row.path) a b → ClashIn (with_all base (new_path x.new x.row.path)) xs b c → ClashIn base (and_then xs (λ xs. Ok (with_first (x, obstacles) xs))) a c
  clash-next base x obstacles (Ok xs) a b c h k = clash-more base (new_path x.new x.row.path) (new_paths xs.0) a b c h k
  clash-next base x obstacles (Err e) a b c h k = tt

  -- `base` has the listed paths and the new ones before this file, `after` its path too where it is new
  pub next-clash : (base after : List ℕ → Ext → Bool) (x : OfFile) (m new : Met) (grown : OfTree) → x.row.path ≡ f.path → grown ≡ with_file tree x → noting m (file_in lists link f source first second t) ≡ Ok (x, new) → after ≡ with_all base (new_path x.new x.row.path) → (a b d : Option (List ℕ)) → ClashBehind base (new_path x.new x.row.path) a b →
      ClashIn after (files_in lists link sources rest grown.first grown.second t) b d → ClashIn base (files_in lists link sources (f ∷ rest) tree.first tree.second t) a d
  next-clash base after x m new grown path is h listed a b d once k =
      let n = noting-ok m new x (file_in lists link f source first second t) h in
      let P : Result OfFiles ReadAnswer → Type 0 = λ r. ClashIn base r a d in
      let Q : (List ℕ → Ext → Bool) → Type 0 = λ l. ClashIn l behind b d in
      let R : OfTree → Type 0 = λ g. ClashIn after (files_in lists link sources rest g.first g.second t) b d in
      let S : List ℕ → Type 0 = λ p. ClashIn after (files_in lists link sources rest (rest_at p tree.first) (rest_at p tree.second) t) b d in
      subst P (sym (split (Ok (x, n.0)) n.1)) (clash-next base x n.0 behind a b d once (subst Q listed (subst S path (subst R is k))))
