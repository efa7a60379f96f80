-- What holds of every legal log, and of every stop in one.
use Rattle.std.proofs.Common.{◌≡◌, ◌⊎◌, ℕ, ◌<◌, ◌≤◌, List, [], ◌∷◌, Bool, true, false, length, refl, sym, ◌∙◌, ap, subst, inl, inr, arith, length-append}
use Rattle.std.specs.Prelude.{Some, None}
use Rattle.hgs_files.specs.declared.op.Op.{Op}
use Rattle.hgs_files.specs.Log.{Does}
use Rattle.hgs_files.specs.Stop.{StopLeaves}
use Rattle.hgs_files.specs.Tree.{Tree, after_all}
use Rattle.hgs_model.specs.Repo.{Repo}
use Rattle.hgs_stands.specs.Open.{IsOpen}
use Rattle.hgs_stands.specs.Shows.{Shows}
use Rattle.hgs_stands.specs.Stands.{Stands}
use Rattle.hgs_ops.specs.Operations.{strays}
use Rattle.hgs_legal.specs.LegalLog.{Acts, Doing, Goes, Idle, IsRun, Preparing, Published, Refused, Run, State, Turn, Undoing, Working, begins, current, finishes, goes_on_knocking, goes_on_undoing, journals, knocks, knocks_again, last_repo, newly, prepares, removes, start_of, undoes, undone, worked, works}
use Rattle.hgs_legal.specs.Numbers.{StopsAt, acknowledged_of, b_of, w_of, is_some_op, left_of, less_one, n_of, repo_at}
use Rattle.hgs_legal.proofs.Below.{Below}
use Rattle.hgs_legal.proofs.Invariant.{Inv, Invariant, IsShown, kept_at, less-last, less-none}
use Rattle.hgs_legal.proofs.LegalLemmas.{leaves-left, less_one-mono, run-files}
use Rattle.hgs_legal.specs.Theorems.Runs.{run-keeps}
use Rattle.hgs_legal.proofs.StayLemmas.{run-repo_at}
use Rattle.hgs_legal.proofs.Step.{at-work-open, at-work-shown, goes-keeps, preparing-stands, published-shown, settling-open, undone-open, undone-shown}
use Rattle.hgs_legal.specs.Theorems.StopLemmas.{run-stopped}
use Rattle.hgs_legal.specs.Theorems.TreeFacts.{never}

module _ (b : Below) where
  pub run-invariant : (t : Tree) (r : Repo) (log : List Op) (s : State) → Stands t r → IsRun t r log s → Invariant s
  run-invariant t r log s stands run = run-keeps Goes Invariant (goes-keeps b) (start_of t r) log s run (stands, refl)

  -- ---- stops

  pub stops-at : (d : Doing) (u : Tree) (f : Repo) (ps : List Turn) → Inv d u f ps → StopsAt d u (kept_at (left_of d) f ps)
  stops-at (Idle None rest) u f ps i = subst (Stands u) (sym (less-none f ps)) i.0
  stops-at (Idle (Some left) rest) u f ps i = i.0
  stops-at (Refused None creation rest) u f ps i = subst (Stands u) (sym (less-none f ps)) i.0
  stops-at (Refused (Some left) creation rest) u f ps i = i.0
  stops-at (Preparing x left) u f ps i = subst (Stands u) (sym (less-none f ps)) (preparing-stands b x left u (last_repo f ps) i)
  stops-at (Working x left) u f ps i = subst (IsOpen strays u) (sym (less-none f ps)) (at-work-open b x left u (last_repo f ps) i.0)
  stops-at (Published x []) u f ps i = never (sym i.1)
  stops-at (Published x (op ∷ left)) u f ps i = subst (IsOpen strays u) (sym (less-last f ps x true i.0.last)) (settling-open b x op left u f ps i.0)
  stops-at (Undoing []) u f ps i = never (sym i.1)
  stops-at (Undoing (op ∷ left)) u f ps i = subst (IsOpen strays u) (sym (less-none f ps)) (undone-open b op left u (last_repo f ps) i.0)

  -- the end of each run
  pub run-stops : (t : Tree) (r : Repo) (log : List Op) (s : State) → Stands t r → IsRun t r log s → StopsAt s.doing (after_all log t) (repo_at s (acknowledged_of s))
  run-stops t r log s stands run =
      subst (λ (v : Tree). StopsAt s.doing v (repo_at s (acknowledged_of s))) (run-files (start_of t r) log s run) (stops-at s.doing s.files s.first s.published (run-invariant t r log s stands run))

  -- a stop in a run leaves what another run leaves
  pub stop-safe : (t : Tree) (r : Repo) (log : List Op) (s : State) → Stands t r → IsRun t r log s → (u : Tree) → StopLeaves t log u
      → (done : List Op) × (s' : State) × IsRun t r done s' × (u ≡ after_all done t) × StopsAt s'.doing u (repo_at s' (acknowledged_of s'))
  stop-safe t r log s stands run u stop =
      let p = run-stopped (start_of t r) log stop.0 s run stop.1 in
      (stop.0, p.0, p.1, stop.2, subst (λ (v : Tree). StopsAt p.0.doing v (repo_at p.0 (acknowledged_of p.0))) (sym stop.2) (run-stops t r stop.0 p.0 stands p.1))

  -- ---- what is shown

  pub shows-at : (d : Doing) (u : Tree) (f : Repo) (ps : List Turn) → Inv d u f ps → IsShown (left_of d) u f ps
  shows-at (Idle None rest) u f ps i = b.shows u _ (stops-at (Idle None rest) u f ps i)
  shows-at (Idle (Some left) rest) u f ps i = i.2
  shows-at (Refused None creation rest) u f ps i = b.shows u _ (stops-at (Refused None creation rest) u f ps i)
  shows-at (Refused (Some left) creation rest) u f ps i = i.3
  shows-at (Preparing x left) u f ps i = b.shows u _ (stops-at (Preparing x left) u f ps i)
  shows-at (Working x []) u f ps i = never (sym i.1)
  shows-at (Working x (o ∷ l)) u f ps i = at-work-shown b x o l u f ps i.0
  shows-at (Published x []) u f ps i = never (sym i.1)
  shows-at (Published x (o ∷ l)) u f ps i = published-shown b x o l u f ps i.0
  shows-at (Undoing left) u f ps i = undone-shown b left u f ps i.0

  pub run-shows : (t : Tree) (r : Repo) (log : List Op) (s : State) → Stands t r → IsRun t r log s → Shows (after_all log t) (repo_at s (b_of s)) (repo_at s (w_of s)) (repo_at s (n_of s))
  run-shows t r log s stands run =
      subst (λ (v : Tree). Shows v (repo_at s (b_of s)) (repo_at s (w_of s)) (repo_at s (n_of s))) (run-files (start_of t r) log s run) (shows-at s.doing s.files s.first s.published (run-invariant t r log s stands run))

-- ---- what is acknowledged stays

acknowledged-lag : (t : Tree) (r : Repo) (d : Doing) (op : Op) (news : List Turn) (d' : Doing) → Acts t r d op news d' → is_some_op (left_of d') ≡ true → (is_some_op (left_of d) ≡ true) ⊎ (0 < length news)
acknowledged-lag t r _ _ _ _ (begins it does) h = never (sym h)
acknowledged-lag t r _ _ _ _ (prepares does) h = never (sym h)
acknowledged-lag t r _ _ _ _ (journals does) h = never (sym h)
acknowledged-lag t r _ _ _ _ (works {x = x} {to_do = to_do} left does) h = by left h
  where
    by : (l : List Op) → is_some_op (left_of (worked x l)) ≡ true → (is_some_op (left_of (Working x to_do)) ≡ true) ⊎ (0 < length (newly x l))
    by [] h = inr (omega arith)
    by (o ∷ l) h = never (sym h)
acknowledged-lag t r _ op _ _ (finishes {x = x} {to_do = to_do} left does) h = by to_do does
  where
    by : (l : List Op) → Does l op left → (is_some_op l ≡ true) ⊎ (0 < 0)
    by [] d = elim d [ ]
    by (o ∷ l) d = inl refl
acknowledged-lag t r _ _ _ _ (undoes left does) h = by left h
  where
    by : (l : List Op) → is_some_op (left_of (undone l)) ≡ true → (false ≡ true) ⊎ (0 < 0)
    by [] h = never (sym h)
    by (o ∷ l) h = never (sym h)
acknowledged-lag t r _ _ _ _ (goes_on_undoing left does) h = by left h
  where
    by : (l : List Op) → is_some_op (left_of (undone l)) ≡ true → (false ≡ true) ⊎ (0 < 0)
    by [] h = never (sym h)
    by (o ∷ l) h = never (sym h)
acknowledged-lag t r _ _ _ _ (removes {left = None} skipped e) h = never (sym h)
acknowledged-lag t r _ _ _ _ (removes {left = Some left} skipped e) h = inl h
acknowledged-lag t r _ _ _ _ (knocks {left = None} who does) h = never (sym h)
acknowledged-lag t r _ _ _ _ (knocks {left = Some left} who does) h = inl h
acknowledged-lag t r _ _ _ _ (knocks_again {left = None} who does) h = never (sym h)
acknowledged-lag t r _ _ _ _ (knocks_again {left = Some left} who does) h = inl h
acknowledged-lag t r _ _ _ _ (goes_on_knocking {left = None} does) h = never (sym h)
acknowledged-lag t r _ _ _ _ (goes_on_knocking {left = Some left} does) h = inl h

goes-acknowledged : (s : State) (op : Op) (s' : State) → Goes s op s' → acknowledged_of s ≤ acknowledged_of s'
goes-acknowledged s op s' g = less_one-mono (is_some_op (left_of s.doing)) (is_some_op (left_of s'.doing)) (n_of s) (n_of s') (omega (arith, ap length g.published, length-append s.published g.news))
    (λ h. elim (acknowledged-lag s.files (current s) g.there op g.news s'.doing g.acts h) [
      | inl e ↦ inl (ap is_some_op (sym (leaves-left s.doing g.there g.leaves)) ∙ e)
      | inr lt ↦ inr (omega (arith, lt, ap length g.published, length-append s.published g.news))
    ])

-- the number of acknowledged transactions never falls, and the repository after each of them stays
pub acknowledged-stays : (s : State) (log : List Op) (s' : State) → Run s log s' → (acknowledged_of s ≤ acknowledged_of s') × (repo_at s' (acknowledged_of s) ≡ repo_at s (acknowledged_of s))
acknowledged-stays s log s' run = (
  run-keeps Goes (λ q. acknowledged_of s ≤ acknowledged_of q) (λ p op q g i. omega (arith, i, goes-acknowledged p op q g)) s log s' run (omega arith),
  run-repo_at s log s' (acknowledged_of s) run (less (is_some_op (left_of s.doing)) (n_of s)),
)
  where
    less : (b : Bool) (n : ℕ) → less_one b n ≤ n
    less true n = omega arith
    less false n = omega arith
