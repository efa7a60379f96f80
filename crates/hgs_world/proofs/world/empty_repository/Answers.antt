use Rattle.std.proofs.Common.{◌≡◌, ℕ, List, Some, None, ◌∙◌, ap, subst}
use Rattle.hgs_files.specs.Files.{GoesOn, LeavesPieces}
use Rattle.hgs_files.specs.Tree.{Tree}
use Rattle.hgs_files.specs.declared.op.Op.TheVariants.{Create}
use Rattle.hgs_load.specs.Open.{requires_path}
use Rattle.hgs_mem.specs.Steady.{steady_log, steady_start}
use Rattle.hgs_world.specs.Start.{new_requires}
use Rattle.hgs_world.proofs.StartLemmas.{made}
use Rattle.hgs_world.proofs.world.empty_repository.Goals as goal

pub returns-in-Ok-clause-start : goal.returns-in-Ok-clause-start
returns-in-Ok-clause-start c = λ path.
    let old = c.new-files.result in
    let new = c.put.new.self in
    let P : List ℕ → Type 0 = λ p. GoesOn (Some (steady_log old)) (Some (steady_log new)) (LeavesPieces (Create p new_requires) c.put.result) in
    let named : c.in_ok-path.path ≡ requires_path = c.in_ok-path.ensures in
    let start : (q : List ℕ) → steady_start new q ≡ None = λ q. ap (λ (t : Tree). t q) c.put.ensures.same_start ∙ c.new-files.ensures.start q in
    ap (λ (t : Tree). t path) c.restart.ensures.start
    ∙ made (steady_log old) (steady_log new) (steady_start new) c.put.result c.new-files.ensures.log c.in-Ok.is (subst P named c.put.ensures.done) start path
