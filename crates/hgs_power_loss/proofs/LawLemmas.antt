-- What a told loss of power leaves.
use Rattle.std.proofs.Common.{◌≡◌, ℕ, zero, ◌-◌, ◌≤◌, List, [], ◌++◌, length, take, min, refl, ◌∙◌, ap, arith, Option, Some, None, append-nil, ◌∷◌, inr}
use Rattle.std.specs.Option.{option_map}
use Rattle.hgs_files.specs.declared.op.Op.{Op}
use Rattle.hgs_files.specs.Stop.{IsStopped}
use Rattle.hgs_files.specs.Tree.{Tree, after_all}
use Rattle.hgs_power.specs.Disk.{Disk, File, PowerLeaves, at_rest, run, tree_now, tree_of}
use Rattle.hgs_power.specs.Held.{FirmAt, IsFirm}
use Rattle.hgs_power.specs.Power.{filled, names_back, powered, times}
use Rattle.hgs_power.specs.Theorems.Now.{log-tree}
use Rattle.hgs_power.specs.Theorems.Orderly.{run-whole, start-whole}
use Rattle.hgs_power.specs.Theorems.Powers.{powered-leaves}

pub told-loss : (start : Tree) (log done : List Op) (names keep fill : ℕ) → IsStopped log done → PowerLeaves start log (powered names keep fill (run done (at_rest start)))
told-loss start log done names keep fill stopped = (done, stopped, powered-leaves names keep fill (run done (at_rest start)) (run-whole done (at_rest start) (start-whole start)))

-- a log that was done whole
pub all-done : (log : List Op) → IsStopped log log
all-done [] = refl
all-done (op ∷ log) = inr (inr (log, all-done log, refl))

take-all : (bytes : List ℕ) → take (length bytes) bytes ≡ bytes
take-all [] = refl
take-all (b ∷ bytes) = ap (λ l. b ∷ l) (take-all bytes)

all-left : (keep fill : ℕ) (f : File) → IsFirm f → filled keep fill f ≡ f.bytes
all-left keep fill f firm =
    let none : min keep (f.most - f.safe) ≡ zero = omega (arith, firm.safe, firm.most) in
    ap (λ n. take f.safe f.bytes ++ times n fill) none
    ∙ append-nil (take f.safe f.bytes)
    ∙ ap (λ n. take n f.bytes) firm.safe
    ∙ take-all f.bytes

module _ (names keep fill : ℕ) (d : Disk) (firm : (path : List ℕ) → FirmAt d d.now path) (all : length d.since ≤ names) where
  names-now : names_back (length d.since - names) d.now d.since ≡ d.now
  names-now = let none : length d.since - names ≡ zero = omega (arith, all) in ap (λ n. names_back n d.now d.since) none

  kept-at : (path : List ℕ) (o : Option (List ℕ)) → d.now path ≡ o → option_map (λ mark. filled keep fill (d.files mark)) o ≡ option_map (λ mark. (d.files mark).bytes) o
  kept-at path None is = refl
  kept-at path (Some mark) is = ap Some (all-left keep fill (d.files mark) (firm path mark is))

  all-kept : powered names keep fill d ≡ tree_now d
  all-kept =
      ap (λ (t : Tree). tree_of t (λ mark. filled keep fill (d.files mark))) names-now
      ∙ (λ i path. kept-at path (d.now path) refl i)

pub synced-kept : (start : Tree) (log : List Op) (names keep fill : ℕ) → ((path : List ℕ) → FirmAt (run log (at_rest start)) (run log (at_rest start)).now path) → length (run log (at_rest start)).since ≤ names → powered names keep fill (run log (at_rest start)) ≡ after_all log start
synced-kept start log names keep fill firm all = all-kept names keep fill (run log (at_rest start)) firm all ∙ log-tree log start
