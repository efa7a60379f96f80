use Rattle.std.proofs.Common.{◌∷◌, [], ◌++◌, ◌&&◌, ap, ◌∙◌, List, ℕ}
use Rattle.hgs_machine.specs.Carry.{tree_now}
use Rattle.hgs_ops.specs.Operations.{lock_path, wlock_path}
use Rattle.hgs_recover.specs.Clearing.{Clears, ClearsEach, IsLeft, leftover_paths}
use Rattle.hgs_recover.proofs.Left.{as-well, cleared}
use Rattle.hgs_recover.proofs.leftovers.Leftovers.sweep.Goals as goal

pub returns-clause-log : goal.returns-clause-log
returns-clause-log g c =
    let l = c.args.self.now in
    let old = c.args.files.now in
    let mid = c.clear_all-strays.new.files in
    let new = c.release-locks.new.files in
    let t = tree_now (g.F.Files.log old) (g.F.Reads.start old) in
    let swept = c.clear_all-strays.result && c.release-locks.result in
    as-well (g.F.Files.log old) (g.F.Files.log new) (ClearsEach leftover_paths t swept (g.F.Reads.faults old) (g.F.Reads.faults new) (g.F.Reads.denied old) (g.F.Reads.denied new)) (Clears leftover_paths t swept) (λ log x. x.clears)
    (cleared (g.F.Files.log old) (g.F.Files.log mid) (g.F.Files.log new) (g.F.Reads.start old) (g.F.Reads.start mid) c.deref.result.now (lock_path ∷ wlock_path ∷ []) leftover_paths c.clear_all-strays.result c.release-locks.result
    (g.F.Reads.faults old) (g.F.Reads.faults mid) (g.F.Reads.faults new) (g.F.Reads.denied old) (g.F.Reads.denied mid) (g.F.Reads.denied new)
    (ap (λ (p : List (List ℕ)). p ++ lock_path ∷ wlock_path ∷ []) (c.deref.ensures.value ∙ l.paths_are)) c.clear_all-strays.ensures.same_start c.clear_all-strays.ensures.log c.release-locks.ensures.log)

pub returns-clause-left : goal.returns-clause-left
returns-clause-left g c =
    let l = c.args.self.now in
    let old = c.args.files.now in
    let mid = c.clear_all-strays.new.files in
    let new = c.release-locks.new.files in
    let t = tree_now (g.F.Files.log old) (g.F.Reads.start old) in
    let swept = c.clear_all-strays.result && c.release-locks.result in
    as-well (g.F.Files.log old) (g.F.Files.log new) (ClearsEach leftover_paths t swept (g.F.Reads.faults old) (g.F.Reads.faults new) (g.F.Reads.denied old) (g.F.Reads.denied new)) (IsLeft t (g.F.Reads.faults old) (g.F.Reads.faults new) (g.F.Reads.denied old) (g.F.Reads.denied new)) (λ log x. x.left)
    (cleared (g.F.Files.log old) (g.F.Files.log mid) (g.F.Files.log new) (g.F.Reads.start old) (g.F.Reads.start mid) c.deref.result.now (lock_path ∷ wlock_path ∷ []) leftover_paths c.clear_all-strays.result c.release-locks.result
    (g.F.Reads.faults old) (g.F.Reads.faults mid) (g.F.Reads.faults new) (g.F.Reads.denied old) (g.F.Reads.denied mid) (g.F.Reads.denied new)
    (ap (λ (p : List (List ℕ)). p ++ lock_path ∷ wlock_path ∷ []) (c.deref.ensures.value ∙ l.paths_are)) c.clear_all-strays.ensures.same_start c.clear_all-strays.ensures.log c.release-locks.ensures.log)
