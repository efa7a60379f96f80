use Rattle.std.proofs.Common.{ℕ, List, ◌∷◌, [], ◌++◌, IsSome, subst, sym}
use Rattle.hgs_files.specs.Files.{GoesOn, LeavesPieces, LeavesWhole}
use Rattle.hgs_files.specs.Tree.{Tree, after_all}
use Rattle.hgs_files.specs.declared.op.Op.{Op}
use Rattle.hgs_files.specs.declared.op.Op.TheVariants.{Create, Rename}
use Rattle.hgs_top.specs.Orders.{new_requires, new_requires_path}
use Rattle.hgs_top.proofs.InitLemmas.{put_refused, stands_written, renamed_behind}
use Rattle.hgs_top.proofs.init.make.Goals as goal

pub rename-requires : goal.rename-requires
rename-requires g c =
    let start = g.F.Reads.start c.args.files.now in
    let old = g.F.Files.log c.args.files.now in
    let new = g.F.Files.log c.put.new.self in
    let P : List ℕ → Type 0 = λ p. GoesOn old new (LeavesPieces (Create p new_requires) c.put.result) in
    let A : Tree → List Op → Type 0 = λ t log. g.F.Files.allows t log in
    λ log h. (
      subst (λ t. A t (log ++ Rename c.args.new.now c.args.named.now ∷ [])) (sym c.put.ensures.same_start) (c.requires.allows (log ++ Rename c.args.new.now c.args.named.now ∷ [])),
      subst (λ p. IsSome (after_all log (g.F.Reads.start c.put.new.self) p)) (sym c.requires.new) (stands_written old new (g.F.Reads.start c.put.new.self) c.put.result log c.in-Ok.is (subst P c.requires.new c.put.ensures.done) h),
    )

pub returns-in-Ok-clause-done : goal.returns-in-Ok-clause-done
returns-in-Ok-clause-done g c =
    let old = g.F.Files.log c.args.files.now in
    let mid = g.F.Files.log c.put.new.self in
    let new = g.F.Files.log c.rename.new.self in
    let P : List ℕ → Type 0 = λ p. GoesOn old mid (LeavesPieces (Create p new_requires) c.put.result) in
    let Q : List ℕ → List ℕ → Type 0 = λ from to. GoesOn mid new (LeavesWhole (Rename from to) c.rename.result) in
    renamed_behind old mid new c.put.result c.rename.result c.in-Ok.is (subst P c.requires.new c.put.ensures.done)
    (subst (λ to. Q new_requires_path to) c.requires.named (subst (λ from. Q from c.args.named.now) c.requires.new c.rename.ensures.done))

pub returns-in-Err-clause-done : goal.returns-in-Err-clause-done
returns-in-Err-clause-done g c =
    let old = g.F.Files.log c.args.files.now in
    let new = g.F.Files.log c.put.new.self in
    let P : List ℕ → Type 0 = λ p. GoesOn old new (LeavesPieces (Create p new_requires) c.put.result) in
    put_refused old new c.in-Err.fault c.put.result c.in-Err.is (subst P c.requires.new c.put.ensures.done)
