-- Paths that are judged batch by batch.
use Rattle.std.proofs.Common.{◌≡◌, ℕ, suc, List, [], ◌∷◌, ◌++◌, Bool, length, refl, sym, ◌∙◌, ap, subst, arith}
use Rattle.std.specs.Prelude.{Result, Ok, Err, OnOk}
use Rattle.hgs_files.specs.Tree.{Tree}
use Rattle.hgs_findings.specs.Findings.{Finding}
use Rattle.hgs_findings.specs.Reading.{data_in, index_in, the_filelog}
use Rattle.hgs_report.specs.declared.store.Store.{Store}
use Rattle.hgs_verify.specs.declared.task.Task.{Task}
use Rattle.hgs_verify.specs.Parts.{AreBytes}
use Rattle.hgs_verify.specs.Task.{AreJudged, AreReadOf, AreRefusedIn, AreRightIn, AreWithinIn, IsJudgedAs, IsReadOf, paths_of}
use Rattle.hgs_verify.specs.Walk.{AddPaths}

-- some paths after others
pub add-both : (t : Tree) (xs ys : List (List ℕ)) (old mid new : List Finding) (a b c : List Bool) → AddPaths xs old mid a b t → AddPaths ys mid new b c t → AddPaths (xs ++ ys) old new a c t
add-both t [] ys old mid new a b c p q = subst (λ x. AddPaths ys x new a c t) (sym p.0) (subst (λ m. AddPaths ys mid new m c t) (sym p.1) q)
add-both t (x ∷ xs) ys old mid new a b c p q = (p.0, p.1, p.2, p.3, p.4, add-both t xs ys p.0 mid new p.2 b c p.5 q)

rest : (s : Store) (x y : Task) (xs ys : List Task) → AreJudged s (x ∷ xs) (y ∷ ys) → AreJudged s xs ys
rest s x y xs ys j = record { count = (let c = j.count in omega (arith, c)); each = λ k d lt. j.each (suc k) d (omega (arith, lt)) }

first : (s : Store) (x y : Task) (xs ys : List Task) → AreJudged s (x ∷ xs) (y ∷ ys) → IsJudgedAs s x y
first s x y xs ys j = j.each 0 x (omega arith)

read-still : (s : Store) (t : Tree) (x y : Task) → IsJudgedAs s x y → IsReadOf x t → IsReadOf y t
read-still s t x y j read =
    subst (λ parts. AreBytes parts (index_in t (the_filelog y.path)) (data_in t (the_filelog y.path))) (sym j.parts)
    (subst (λ path. AreBytes x.parts (index_in t (the_filelog path)) (data_in t (the_filelog path))) (sym j.path) read)

-- what is found of each is right for the tree that they were read of
pub tasks-right : (s : Store) (t : Tree) (tasks judged : List Task) → AreJudged s tasks judged → AreReadOf tasks t → AreRightIn s t judged
tasks-right s t [] [] j read = tt
tasks-right s t [] (y ∷ ys) j read = absurd (let c = j.count in omega (arith, c))
tasks-right s t (x ∷ xs) [] j read = absurd (let c = j.count in omega (arith, c))
tasks-right s t (x ∷ xs) (y ∷ ys) j read = ((read-still s t x y (first s x y xs ys j) read.0, (first s x y xs ys j).right), tasks-right s t xs ys (rest s x y xs ys j) read.1)

-- each refusal has its cause in the tree that they were read of
pub tasks-caused : (s : Store) (t : Tree) (tasks judged : List Task) → AreJudged s tasks judged → AreReadOf tasks t → AreRefusedIn t judged
tasks-caused s t [] [] j read = tt
tasks-caused s t [] (y ∷ ys) j read = absurd (let c = j.count in omega (arith, c))
tasks-caused s t (x ∷ xs) [] j read = absurd (let c = j.count in omega (arith, c))
tasks-caused s t (x ∷ xs) (y ∷ ys) j read = ((read-still s t x y (first s x y xs ys j) read.0, (first s x y xs ys j).cause), tasks-caused s t xs ys (rest s x y xs ys j) read.1)

-- and where something is found, the index passes no limit
pub tasks-within : (s : Store) (t : Tree) (tasks judged : List Task) → AreJudged s tasks judged → AreReadOf tasks t → AreWithinIn t judged
tasks-within s t [] [] j read = tt
tasks-within s t [] (y ∷ ys) j read = absurd (let c = j.count in omega (arith, c))
tasks-within s t (x ∷ xs) [] j read = absurd (let c = j.count in omega (arith, c))
tasks-within s t (x ∷ xs) (y ∷ ys) j read = ((read-still s t x y (first s x y xs ys j) read.0, (first s x y xs ys j).within), tasks-within s t xs ys (rest s x y xs ys j) read.1)

pub same-paths : (s : Store) (tasks judged : List Task) → AreJudged s tasks judged → paths_of judged ≡ paths_of tasks
same-paths s [] [] j = refl
same-paths s [] (y ∷ ys) j = absurd (let c = j.count in omega (arith, c))
same-paths s (x ∷ xs) [] j = absurd (let c = j.count in omega (arith, c))
same-paths s (x ∷ xs) (y ∷ ys) j = ap (λ p. p ∷ paths_of ys) (first s x y xs ys j).path ∙ ap (λ l. x.path ∷ l) (same-paths s xs ys (rest s x y xs ys j))

with-one : (t : Tree) (tasks : List Task) (task : Task) → AreReadOf tasks t → IsReadOf task t → AreReadOf (tasks ++ task ∷ []) t
with-one t [] task read one = (one, tt)
with-one t (x ∷ xs) task read one = (read.0, with-one t xs task read.1 one)

-- one more that was read
pub one-more : (t : Tree) (tasks more : List Task) (task : Task) → more ≡ tasks ++ task ∷ [] → AreReadOf tasks t → IsReadOf task t → AreReadOf more t
one-more t tasks more task e read one = subst (λ l. AreReadOf l t) (sym e) (with-one t tasks task read one)

-- the path of the next one is the first of those that are left
pub next-path : (tasks : List Task) (task : Task) (paths : List (List ℕ)) → paths_of (tasks ++ task ∷ []) ++ paths ≡ paths_of tasks ++ task.path ∷ paths
next-path [] task paths = refl
next-path (x ∷ xs) task paths = ap (λ l. x.path ∷ l) (next-path xs task paths)

pub on-ok : {A E : Type 0} (r : Result A E) (P Q : Type 0) → OnOk r P → (P → Q) → OnOk r Q
on-ok (Ok x) P Q p f = f p
on-ok (Err e) P Q p f = tt

pub no-tasks : (tasks : List Task) → length tasks ≡ 0 → tasks ≡ []
no-tasks [] e = refl
no-tasks (x ∷ xs) e = absurd (omega (arith, e))
