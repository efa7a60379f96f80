-- What the crates below say of runs and of the names of files, as their laws say it.
use Rattle.std.specs.Prelude.{◌≡◌, ◌<◌, ◌≤◌, ℕ, suc, List, [], ◌∷◌, false}
use Rattle.hgs_bytes.specs.Bytes.{IsPrefixOf, among, same}
use Rattle.hgs_files.specs.declared.op.Op.{Op}
use Rattle.hgs_files.specs.Tree.{Tree, after_all, bytes_at}
use Rattle.hgs_journal.specs.Covers.{is_loose}
use Rattle.hgs_journal.specs.Names.{journal_path}
use Rattle.hgs_model.specs.IsRepo.{IsRepo}
use Rattle.hgs_model.specs.Repo.{Repo}
use Rattle.hgs_path.specs.declared.name.Ext.{Ext}
use Rattle.hgs_path.specs.StoreName.{store_name}
use Rattle.hgs_stands.specs.Places.{bookmarks_path, dirstate_path, own_files, roots_path}
use Rattle.hgs_stands.specs.Same.{AreStrays}
use Rattle.hgs_stands.specs.Shows.{Shows}
use Rattle.hgs_stands.specs.Stands.{HoldsChangesets, Stands}
use Rattle.hgs_ops.specs.Operations.{strays}
use Rattle.hgs_legal.specs.LegalLog.{Goes, IsRun, Run, State}
use Rattle.hgs_legal.specs.Numbers.{b_of, n_of, repo_at, w_of}

pub record Below : Type 0 where
  pub shows : (t : Tree) (r : Repo) (log : List Op) (s : State) → Stands t r → IsRun t r log s → Shows (after_all log t) (repo_at s (b_of s)) (repo_at s (w_of s)) (repo_at s (n_of s))
  pub files : (t : Tree) (r : Repo) (log : List Op) (s : State) → IsRun t r log s → s.files ≡ after_all log t
  pub order : (s : State) → (b_of s ≤ w_of s) × (w_of s ≤ n_of s)
  pub rise : (s : State) (log : List Op) (s' : State) → Run s log s' → (b_of s ≤ b_of s') × (w_of s ≤ w_of s') × (n_of s ≤ n_of s')
  pub stay : (s : State) (log : List Op) (s' : State) (i : ℕ) → Run s log s' → i ≤ n_of s → repo_at s' i ≡ repo_at s i
  pub go_on : (t : Tree) (r : Repo) (log : List Op) (s : State) (i j : ℕ) → Stands t r → IsRun t r log s → i ≤ j → IsRepo (repo_at s j) × IsPrefixOf (repo_at s i).changesets (repo_at s j).changesets
  pub one : (s : State) (op : Op) (s' : State) → Goes s op s' → n_of s' ≤ suc (n_of s)
  pub holds : (t : Tree) (r : Repo) (log : List Op) (s : State) (op : Op) (s' : State) → Stands t r → IsRun t r log s → Goes s op s' → n_of s < n_of s' → HoldsChangesets s'.files (repo_at s' (n_of s')).changesets
  pub first : (t : Tree) (r : Repo) (log : List Op) (s : State) (path : List ℕ) → Stands t r → IsRun t r log s → is_loose strays path ≡ false → same path journal_path ≡ false → among path (roots_path ∷ dirstate_path ∷ bookmarks_path ∷ []) ≡ false → IsPrefixOf (bytes_at t path) (bytes_at (after_all log t) path)
  pub later : (t : Tree) (r : Repo) (log : List Op) (s : State) (op : Op) (s' : State) (more : List Op) (s'' : State) (path : List ℕ) → Stands t r → IsRun t r log s → Goes s op s' → n_of s < n_of s' → Run s' more s'' → is_loose strays path ≡ false → same path journal_path ≡ false → among path (roots_path ∷ dirstate_path ∷ bookmarks_path ∷ []) ≡ false → IsPrefixOf (bytes_at s'.files path) (bytes_at s''.files path)
  pub free : (strays : List (List ℕ)) (path : List ℕ) (ext : Ext) → AreStrays strays → is_loose strays (store_name path ext) ≡ false
  pub own : (path : List ℕ) (ext : Ext) → among (store_name path ext) own_files ≡ false
