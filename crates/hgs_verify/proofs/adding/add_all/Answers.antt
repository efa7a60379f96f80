use Rattle.std.proofs.Common.{◌≡◌, [], ◌∷◌, true, sym, subst, arith}
use Rattle.std.proofs.lemmas.Bool.Decides.{nat_tests}
use Rattle.hgs_bytes.specs.Bytes.{among, same}
use Rattle.hgs_files.specs.Tree.{Tree}
use Rattle.hgs_judge.specs.Report.{findings_in}
use Rattle.hgs_verify.specs.Refusal.{IsOfPaths, PathsKeepLimits}
use Rattle.hgs_verify.specs.Task.{AreRefusedIn, AreRightIn, AreWithinIn, paths_of}
use Rattle.hgs_verify.specs.Walk.{AddPaths, AreMarked}
use Rattle.hgs_verify.proofs.BatchLemmas.{no-tasks}
use Rattle.hgs_verify.proofs.RefusalLemmas.{at-err, first-among, one-of-paths, on-right}
use Rattle.hgs_verify.proofs.WithinLemmas.{no-paths, one-path}
use Rattle.hgs_verify.proofs.adding.add_all.Goals as goal

pub loop-task-preserved : goal.loop-task-preserved
loop-task-preserved c = record {
  added = λ s t is right.
      let at = c.loop-task in
      let task = c.in-Some.task in
      let wrong = c.in_ok-wrong.wrong.items in
      let steps : at.task-iterator.rest.items ≡ task ∷ c.next.new.self.rest.items = c.in-Some.ensures.steps.0 in
      let before = at.invariant.added s t is right in
      let here = subst (AreRightIn s t) steps before.0 in
      let adds = c.in_ok-wrong.ensures.added s t is here.0.0 here.0.1 in
      let marks = subst (λ l. AreMarked at.marks l c.mark.new.marks) c.deref.ensures.value c.mark.ensures in (
        here.1,
        λ new marked more. before.1 new marked (subst (λ l. AddPaths (paths_of l) (findings_in at.into.items) new at.marks marked t) (sym steps) (findings_in c.add_task.new.into.items, wrong, c.mark.new.marks, adds, marks, more)),
      );
  read = λ t are. (subst (AreRefusedIn t) c.in-Some.ensures.steps.0 (c.loop-task.invariant.read t are)).1;
  within = λ t are.
      let task = c.in-Some.task in
      let rest = c.next.new.self.rest.items in
      let steps : c.loop-task.task-iterator.rest.items ≡ task ∷ rest = c.in-Some.ensures.steps.0 in
      let before = c.loop-task.invariant.within t are in
      let here = subst (AreWithinIn t) steps before.0 in (
        here.1,
        λ more. before.1 (subst (λ l. PathsKeepLimits (paths_of l) t) (sym steps) (one-path t task (paths_of rest) here.0.0 (c.in_ok-wrong.ensures.limits here.0.1) more)),
      );
  front = λ path h. c.loop-task.invariant.front path (subst (λ l. among path (paths_of l) ≡ true) (sym c.in-Some.ensures.steps.0) (on-right (same path c.in-Some.task.path) (among path (paths_of c.next.new.self.rest.items)) h));
}

pub returns-in_err-wrong-clause-index : goal.returns-in_err-wrong-clause-index
returns-in_err-wrong-clause-index c =
    let at = c.loop-task in
    let task = c.in-Some.task in
    let rest = c.next.new.self.rest.items in
    let steps : at.task-iterator.rest.items ≡ task ∷ rest = c.in-Some.ensures.steps.0 in
    at-err c.from_residual.result c.in_err-wrong.field-0.0 (λ e. (t : Tree) → AreRefusedIn t c.args.tasks.items → IsOfPaths (paths_of c.args.tasks.items) e t) c.from_residual.ensures.0 c.from_residual.ensures.1
    (λ t are.
    let here = subst (AreRefusedIn t) steps (at.invariant.read t are) in
    one-of-paths (paths_of c.args.tasks.items) task c.in_err-wrong.field-0.0 t here.0.0
    (at.invariant.front task.path (subst (λ l. among task.path (paths_of l) ≡ true) (sym steps) (first-among task.path (paths_of rest))))
    (c.in_err-wrong.ensures.index here.0.1))

pub loop-task-init : goal.loop-task-init
loop-task-init c =
    let same : c.into_iter-task-iterator.result.rest.items ≡ c.args.tasks.items = c.into_iter-task-iterator.ensures.into_iter_gives.0 in
    record {
      added = λ s t is right. (subst (AreRightIn s t) (sym same) right, λ new marked more. subst (λ l. AddPaths (paths_of l) (findings_in c.args.into.now.items) new c.args.marks.now marked t) same more);
      read = λ t are. subst (AreRefusedIn t) (sym same) are;
      within = λ t are. (subst (AreWithinIn t) (sym same) are, λ more. subst (λ l. PathsKeepLimits (paths_of l) t) same more);
      front = λ path h. subst (λ l. among path (paths_of l) ≡ true) same h;
    }

pub returns-clause-limits : goal.returns-clause-limits
returns-clause-limits c = λ t are.
    let rest = c.loop-task.task-iterator.rest in
    let none : rest.items ≡ [] = no-tasks rest.items (let empty = c.in-None.ensures.steps.0 in let count = rest.ok.0 in grind (arith, nat_tests, empty, count)) in
    (c.loop-task.invariant.within t are).1 (subst (λ l. PathsKeepLimits (paths_of l) t) (sym none) (no-paths t))
