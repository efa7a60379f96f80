use Rattle.std.proofs.Common.{◌∷◌, [], ap, ◌∙◌, List, ℕ}
use Rattle.hgs_ops.specs.Operations.{lock_path, wlock_path}
use Rattle.hgs_recover.proofs.Left.{cleared}
use Rattle.hgs_recover.proofs.leftovers.Leftovers.release.Goals as goal

pub returns-clause-log : goal.returns-clause-log
returns-clause-log g c =
    let l = c.args.self.now in
    let old = c.args.files.now in
    let mid = c.remove-lock.new.files in
    let new = c.remove-wlock.new.files in
    cleared (g.F.Files.log old) (g.F.Files.log mid) (g.F.Files.log new) (g.F.Reads.start old) (g.F.Reads.start mid) (l.lock ∷ []) (l.wlock ∷ []) (lock_path ∷ wlock_path ∷ []) c.remove-lock.result c.remove-wlock.result
    (g.F.Reads.faults old) (g.F.Reads.faults mid) (g.F.Reads.faults new) (g.F.Reads.denied old) (g.F.Reads.denied mid) (g.F.Reads.denied new)
    (ap (λ (p : List ℕ). p ∷ l.wlock ∷ []) l.lock_is ∙ ap (λ (p : List ℕ). lock_path ∷ p ∷ []) l.wlock_is) c.remove-lock.ensures.same_start c.remove-lock.ensures.log c.remove-wlock.ensures.log
