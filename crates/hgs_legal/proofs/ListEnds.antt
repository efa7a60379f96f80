-- Behind a run, a stop in one, and what undoes it.
use Rattle.std.proofs.Common.{◌≡◌, ◌⊎◌, ◌≤◌, ◌||◌, ℕ, ◌+◌, List, [], ◌∷◌, ◌++◌, Bool, true, false, length, refl, sym, ap, subst, inl, inr, take_all, arith}
use Rattle.std.specs.Prelude.{Some, None}
use Rattle.hgs_bytes.specs.Bytes.{IsPrefixOf, among}
use Rattle.hgs_files.specs.declared.op.Op.{Op}
use Rattle.hgs_files.specs.Stop.{StopLeaves}
use Rattle.hgs_files.specs.Tree.{Tree, after_all}
use Rattle.hgs_model.specs.History.{uses}
use Rattle.hgs_model.specs.IsRepo.{IsRepo}
use Rattle.hgs_model.specs.Repo.{Changeset, Repo, tree_paths}
use Rattle.hgs_ops.specs.Operations.{strays}
use Rattle.hgs_stands.specs.Open.{IsOpen}
use Rattle.hgs_stands.specs.Stands.{Stands}
use Rattle.hgs_legal.specs.LegalLog.{Doing, Idle, IsRun, Preparing, Published, Refused, State, Undoing, Working, current, last_repo}
use Rattle.hgs_legal.specs.Numbers.{StopsAt, acknowledged_of, n_of, repo_at}
use Rattle.hgs_legal.specs.ListsPaths.{AreKeptLines, ListsPaths}
use Rattle.hgs_legal.proofs.ListOps.{list_of}
use Rattle.hgs_legal.specs.Theorems.Idle.{Safe}
use Rattle.hgs_legal.proofs.ListRuns.{UsesMore, kept-fewer, kept-front, run-lines}

pub uses-front : (front more : List Changeset) → UsesMore front (front ++ more)
uses-front [] more path e = absurd (no e)
  where
    no : false ≡ true → ⊥
    no h = cc
uses-front (c ∷ front) more path e = by (among path (tree_paths c.tree)) (uses-front front more path) e
  where
    by : (b : Bool) → (uses front path ≡ true → uses (front ++ more) path ≡ true) → (b || uses front path) ≡ true → (b || uses (front ++ more) path) ≡ true
    by true rec h = refl
    by false rec h = rec h

pub prefix-uses : (front all : List Changeset) → IsPrefixOf front all → UsesMore front all
prefix-uses front all p = subst (UsesMore front) (sym p.1) (uses-front front p.0)

pub earlier-lists : (t : Tree) (r earlier : Repo) → IsPrefixOf earlier.changesets r.changesets → ListsPaths t r → ListsPaths t earlier
earlier-lists t r earlier p l = record { lines = kept-fewer earlier.changesets r.changesets (list_of t) (prefix-uses earlier.changesets r.changesets p) l.lines }

pub front-lists : (t u : Tree) (r : Repo) → IsPrefixOf (list_of u) (list_of t) → ListsPaths t r → ListsPaths u r
front-lists t u r p l = record { lines = kept-front r.changesets (list_of u) (list_of t) p l.lines }

-- ---- behind a run

-- what the laws below say
pub record Laws : Type 0 where
  pub safe : Safe
  pub stops : (t : Tree) (r : Repo) (log : List Op) (s : State) → Stands t r → IsRun t r log s → (u : Tree) → StopLeaves t log u → (done : List Op) × (s' : State) × IsRun t r done s' × (u ≡ after_all done t) × StopsAt s'.doing u (repo_at s' (acknowledged_of s'))
  pub files : (t : Tree) (r : Repo) (log : List Op) (s : State) → IsRun t r log s → s.files ≡ after_all log t
  pub go_on : (t : Tree) (r : Repo) (log : List Op) (s : State) (i j : ℕ) → Stands t r → IsRun t r log s → i ≤ j → IsRepo (repo_at s j) × IsPrefixOf (repo_at s i).changesets (repo_at s j).changesets
  pub one : (t : Tree) (r s : Repo) → Stands t r → Stands t s → r ≡ s
  pub not_open : (t : Tree) (r s : Repo) → Stands t r → IsOpen strays t s → ⊥
  pub open_one : (t : Tree) (r s : Repo) → IsOpen strays t r → IsOpen strays t s → r ≡ s

module _ (b : Laws) (t : Tree) (r : Repo) (stands : Stands t r) (lists : ListsPaths t r) where
  all-of : (s : State) (i : ℕ) → repo_at s (i + n_of s) ≡ current s
  all-of s i = ap (last_repo s.first) (take_all (i + length s.published) s.published (omega arith))

  pub run-lists : (log : List Op) (s : State) (i : ℕ) → IsRun t r log s → ListsPaths (after_all log t) (repo_at s i)
  run-lists log s i run =
      let p = b.go_on t r log s i (i + n_of s) stands run (omega arith) in
      earlier-lists (after_all log t) (repo_at s (i + n_of s)) (repo_at s i) p.1
      (record { lines = subst (λ (q : Repo). AreKeptLines q.changesets (list_of (after_all log t))) (sym (all-of s i)) (run-lines b.safe b.files t r stands log s run lists) })

  -- the tree stands for it or is open for it
  abbrev IsOf : Tree → Repo → Type 0
  IsOf u q = Stands u q ⊎ IsOpen strays u q

  one-of : (u : Tree) (q p : Repo) → IsOf u q → IsOf u p → q ≡ p
  one-of u q p (inl x) (inl y) = b.one u q p x y
  one-of u q p (inl x) (inr y) = absurd (b.not_open u q p x y)
  one-of u q p (inr x) (inl y) = absurd (b.not_open u p q y x)
  one-of u q p (inr x) (inr y) = b.open_one u q p x y

  stop-of : (d : Doing) (u : Tree) (q : Repo) → StopsAt d u q → IsOf u q
  stop-of (Idle None rest) u q s = inl s
  stop-of (Idle (Some left) rest) u q s = inr s
  stop-of (Refused None creation rest) u q s = inl s
  stop-of (Refused (Some left) creation rest) u q s = inr s
  stop-of (Preparing x left) u q s = inl s
  stop-of (Working x left) u q s = inr s
  stop-of (Published x left) u q s = inr s
  stop-of (Undoing left) u q s = inr s

  pub run-any : (log : List Op) (s : State) → IsRun t r log s → (q : Repo) → IsOf (after_all log t) q → ListsPaths (after_all log t) q
  run-any log s run q is =
      let now = stop-of s.doing (after_all log t) (repo_at s (acknowledged_of s)) (b.safe t r log s stands run) in
      subst (ListsPaths (after_all log t)) (one-of (after_all log t) (repo_at s (acknowledged_of s)) q now is) (run-lists log s (acknowledged_of s) run)

  pub stop-any : (log : List Op) (s : State) → IsRun t r log s → (u : Tree) → StopLeaves t log u → (q : Repo) → IsOf u q → ListsPaths u q
  stop-any log s run u stop q is =
      let p = b.stops t r log s stands run u stop in
      subst (λ (v : Tree). ListsPaths v q) (sym p.3) (run-any p.0 p.1 p.2 q (subst (λ (v : Tree). IsOf v q) p.3 is))
