use Rattle.std.proofs.Common.{◌≡◌, IfOk, Result, Ok, Err, ap, ◌∙◌, subst, sym}
use Rattle.hgs_files.specs.Tree.{Tree}
use Rattle.hgs_mem.specs.MemFiles.{start_of, tree_now}
use Rattle.hgs_mem.specs.declared.mem.MemFiles.{MemFiles}
use Rattle.hgs_power.specs.Disk as power
use Rattle.hgs_power.specs.Disk.{PowerLeaves, at_rest, run}
use Rattle.hgs_power.specs.Power.{powered}
use Rattle.hgs_power_loss.proofs.LawLemmas.{all-done, told-loss}
use Rattle.hgs_power_loss.proofs.left.after_power_loss.Goals as goal

-- where an answer has this tree, it has one that a loss of power may leave
may-be : {E : Type 0} (r : Result MemFiles E) (t : Tree) (P : Tree → Type 0) → IfOk r (λ m. start_of m ≡ t) → P t → IfOk r (λ m. P (start_of m))
may-be (Ok m) t P is p = subst P (sym is) p
may-be (Err e) t P is p = tt

pub returns-clause-tree : goal.returns-clause-tree
returns-clause-tree c =
    subst (λ (d : power.Disk). IfOk c.power.result (λ (m : MemFiles). start_of m ≡ powered c.args.names c.args.keep c.args.fill d))
    (c.in_ok-run.ensures ∙ ap (run c.args.log.now) c.at_rest.ensures) c.power.ensures.tree

pub returns-clause-may : goal.returns-clause-may
returns-clause-may c =
    let start = tree_now c.args.files in
    let log = c.args.log.now in
    may-be c.power.result (powered c.args.names c.args.keep c.args.fill (run log (at_rest start))) (PowerLeaves start log)
    (subst (λ (d : power.Disk). IfOk c.power.result (λ (m : MemFiles). start_of m ≡ powered c.args.names c.args.keep c.args.fill d)) (c.in_ok-run.ensures ∙ ap (run log) c.at_rest.ensures) c.power.ensures.tree)
    (told-loss start log log c.args.names c.args.keep c.args.fill (all-done log))
