-- The removal of what transactions leave behind.
use Rattle.std.specs.Prelude.{◌≡◌, ℕ, List, [], ◌∷◌, ◌++◌, Bool, true, None, map}
use Rattle.std.specs.List.{AllByRecursion}
use Rattle.hgs_files.specs.declared.op.Op.{Op}
use Rattle.hgs_files.specs.declared.op.Op.TheVariants.{Remove}
use Rattle.hgs_files.specs.Tree.{Tree, after_all}
use Rattle.hgs_machine.specs.Course.{AreSome}
use Rattle.hgs_machine.specs.Refusals.{WereRefused, how_many_stand}
use Rattle.hgs_ops.specs.Operations.{lock_path, strays, wlock_path}

-- the strays, and the two locks, in the order in which they are removed
abbrev pub leftover_paths : List (List ℕ)
leftover_paths = strays ++ lock_path ∷ wlock_path ∷ []

-- Some of these files are removed, in their order. Where all went well none of them stands.
pub record Clears (paths : List (List ℕ)) (t : Tree) (swept : Bool) (log : List Op) : Type 0 where
  pub some : AreSome (map (λ path. Remove path) paths) log
  pub gone : swept ≡ true → AllByRecursion (λ path. after_all log t path ≡ None) paths

-- Each is tried, whether or not the others could be removed: as many calls were refused since these counts as of the files stand.
pub record ClearsEach (paths : List (List ℕ)) (t : Tree) (swept : Bool) (faults_old faults_new denied_old denied_new : ℕ) (log : List Op) : Type 0 where
  pub clears : Clears paths t swept log
  pub left : WereRefused (how_many_stand paths (after_all log t)) faults_old faults_new denied_old denied_new

-- as many calls were refused as leftovers stand behind what was done
abbrev pub IsLeft : Tree → ℕ → ℕ → ℕ → ℕ → List Op → Type 0
IsLeft t faults_old faults_new denied_old denied_new log = WereRefused (how_many_stand leftover_paths (after_all log t)) faults_old faults_new denied_old denied_new
