use Rattle.std.proofs.Common.{◌∷◌, ◌++◌, sym, ◌∙◌, ap, arith}
use Rattle.hgs_verify.specs.Task.{AreReadOf, IsReadOf, paths_of}
use Rattle.hgs_verify.proofs.BatchLemmas.{next-path, one-more}
use Rattle.hgs_verify.proofs.FileLemmas.{grows-on, two-looks}
use Rattle.hgs_verify.proofs.batch.read_batch.Goals as goal

pub returns-in_err-add-clause-seen : goal.returns-in_err-add-clause-seen
returns-in_err-add-clause-seen g c = grows-on (g.R.Reads.seen c.args.files.now) (g.R.Reads.seen c.loop-path.files) (g.R.Reads.seen c.read_task.new.files) c.loop-path.invariant.grown c.in_ok-task.ensures.seen

pub returns-then-is_full-clause-read : goal.returns-then-is_full-clause-read
returns-then-is_full-clause-read g c =
    let one = c.in_ok-task.ensures in
    let tasks = c.loop-path.batch.tasks.items in
    let task = c.in_ok-task.task in
    λ alone.
    two-looks (g.R.Reads.seen c.loop-path.files) (g.R.Reads.seen c.read_task.new.files) (g.R.Reads.start c.loop-path.files) (g.R.Reads.start c.read_task.new.files) (AreReadOf tasks) (IsReadOf task) (AreReadOf c.add.new.self.tasks.items) (one.still alone) one.same_start
    (λ t. one-more t tasks c.add.new.self.tasks.items task c.in_ok-add.ensures.added)
    (c.loop-path.invariant.read alone) (one.read alone)

pub returns-then-is_full-clause-seen : goal.returns-then-is_full-clause-seen
returns-then-is_full-clause-seen g c = grows-on (g.R.Reads.seen c.args.files.now) (g.R.Reads.seen c.loop-path.files) (g.R.Reads.seen c.read_task.new.files) c.loop-path.invariant.grown c.in_ok-task.ensures.seen

pub loop-path-preserved : goal.loop-path-preserved
loop-path-preserved g c =
    let i = c.loop-path.invariant in
    let one = c.in_ok-task.ensures in
    let task = c.in_ok-task.task in
    let tasks = c.loop-path.batch.tasks.items in
    let left = c.pop_first.new.self.keys in
    record {
      order = ap (λ l. paths_of l ++ left) c.in_ok-add.ensures.added ∙ next-path tasks task left ∙ ap (λ p. paths_of tasks ++ p ∷ left) one.path ∙ ap (λ l. paths_of tasks ++ l) (sym c.in-Some.ensures.removal) ∙ i.order;
      read = λ alone.
          two-looks (g.R.Reads.seen c.loop-path.files) (g.R.Reads.seen c.read_task.new.files) (g.R.Reads.start c.loop-path.files) (g.R.Reads.start c.read_task.new.files) (AreReadOf tasks) (IsReadOf task) (AreReadOf c.add.new.self.tasks.items) (one.still alone) one.same_start
          (λ t. one-more t tasks c.add.new.self.tasks.items task c.in_ok-add.ensures.added)
          (i.read alone) (one.read alone);
      grown = grows-on (g.R.Reads.seen c.args.files.now) (g.R.Reads.seen c.loop-path.files) (g.R.Reads.seen c.read_task.new.files) i.grown one.seen;
      same_start = one.same_start ∙ i.same_start;
      still = λ alone. one.still alone ∙ i.still alone;
      later = (let a = i.later in let b = one.cause.later in omega (arith, a, b));
      refused = (let a = i.refused in let b = one.cause.refused in omega (arith, a, b));
    }
