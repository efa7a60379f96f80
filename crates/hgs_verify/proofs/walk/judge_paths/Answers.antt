use Rattle.std.proofs.Common.{◌≡◌, [], ◌++◌, Bool, true, List, refl, sym, ◌∙◌, ap, subst, arith}
use Rattle.std.specs.Prelude.{⊤}
use Rattle.std.proofs.lemmas.Bool.Decides.{nat_tests}
use Rattle.hgs_bytes.specs.Bytes.{among}
use Rattle.hgs_files.specs.Tree.{Tree, after_all}
use Rattle.hgs_findings.specs.Findings.{Finding}
use Rattle.hgs_findings.specs.Reading.{sight_of}
use Rattle.hgs_findings.specs.Regular.{used_paths}
use Rattle.hgs_judge.specs.Report.{findings_in}
use Rattle.hgs_report.specs.Store.{IsStoreOf}
use Rattle.hgs_verify.specs.Looked.{OfTree}
use Rattle.hgs_verify.specs.Refusal.{IsLimited, IsOfPaths, PathsKeepLimits}
use Rattle.hgs_verify.specs.Task.{AreJudged, AreReadOf, AreRefusedIn, AreRightIn, AreWithinIn, paths_of}
use Rattle.hgs_verify.specs.Walk.{AddPaths}
use Rattle.hgs_verify.proofs.BatchLemmas.{add-both, no-tasks, same-paths, tasks-caused, tasks-right, tasks-within}
use Rattle.hgs_verify.proofs.FileLemmas.{grows-on, two-looks}
use Rattle.hgs_verify.proofs.RefusalLemmas.{among-before, among-behind, at-err, of-all, paths-limited}
use Rattle.hgs_verify.proofs.PathAdded.{if-each}
use Rattle.hgs_verify.proofs.WalkLemmas.{take-front}
use Rattle.hgs_verify.proofs.WithinLemmas.{both-paths, no-paths}
use Rattle.hgs_verify.proofs.walk.judge_paths.Goals as goal

pub returns-in_err-add_all-clause-seen : goal.returns-in_err-add_all-clause-seen
returns-in_err-add_all-clause-seen g c = grows-on (g.R.Reads.seen c.args.files.now) (g.R.Reads.seen c.loop-alloc.files) (g.R.Reads.seen c.judge_and_read-next.new.files) c.loop-alloc.invariant.grown c.judge_and_read-next.ensures.seen

pub returns-in_err-tasks-2-clause-seen : goal.returns-in_err-tasks-2-clause-seen
returns-in_err-tasks-2-clause-seen g c = grows-on (g.R.Reads.seen c.args.files.now) (g.R.Reads.seen c.loop-alloc.files) (g.R.Reads.seen c.judge_and_read-next.new.files) c.loop-alloc.invariant.grown c.judge_and_read-next.ensures.seen

pub returns-in_err-add_all-clause-why : goal.returns-in_err-add_all-clause-why
returns-in_err-add_all-clause-why g c =
    let i = c.loop-alloc.invariant in
    let both = c.judge_and_read-next.ensures in
    let store = c.args.store.now in
    let tasks = c.loop-alloc.tasks.items in
    let keys = c.loop-alloc.paths.keys in
    let judged = c.judge_and_read-next.new.tasks in
    let e = c.in_err-add_all.field-0.0 in
    let seen = g.R.Reads.seen c.judge_and_read-next.new.files in
    let start = g.R.Reads.start c.judge_and_read-next.new.files in
    let are : AreJudged store tasks judged = subst (λ l. AreJudged store l judged) c.deref_mut.ensures.value both.judged in
    let same = take-front c.loop-alloc.tasks.len judged _ (c.loop-alloc.tasks.ok.0 ∙ sym are.count) in
    let of : (t : Tree) → AreReadOf tasks t → IsOfPaths (paths_of tasks) e t =
    λ t read.
    subst (λ l. IsOfPaths l e t) (ap paths_of same ∙ same-paths store tasks judged are)
    (c.in_err-add_all.ensures.index t (subst (AreRefusedIn t) (sym same) (tasks-caused store t tasks judged are read))) in
    at-err c.from_residual-in_err-add_all.result e (λ x. OfTree g.R.Reads.alone seen start (λ t. c.args.paths.keys ≡ used_paths (sight_of t) → IsLimited x t)) c.from_residual-in_err-add_all.ensures.0 c.from_residual-in_err-add_all.ensures.1
    (λ alone.
    two-looks (g.R.Reads.seen c.loop-alloc.files) seen (g.R.Reads.start c.loop-alloc.files) start (AreReadOf tasks) (λ t. ⊤) (λ t. c.args.paths.keys ≡ used_paths (sight_of t) → IsLimited e t)
    (both.still alone) both.same_start
    (λ t read u used. paths-limited (paths_of tasks) e t (λ path h. ap (among path) (sym used) ∙ i.front path (among-before path (paths_of tasks) keys h)) (of t read))
    (i.read alone) (of-all seen (λ log. ⊤) (λ log. tt)))

pub loop-alloc-init : goal.loop-alloc-init
loop-alloc-init g c =
    let read = c.in_ok-tasks.ensures in
    let store = c.args.store.now in
    let tasks = c.in_ok-tasks.field-0.tasks.items in
    let keys = c.read_batch.new.paths.keys in
    let old = findings_in c.args.into.now.items in
    let marks = c.args.marks.now in
    let seen = g.R.Reads.seen c.read_batch.new.files in
    let start = g.R.Reads.start c.read_batch.new.files in
    record {
      added = λ alone.
          of-all seen
          (λ log. IsStoreOf store (after_all log start) → (new : List Finding) (marked : List Bool) → AddPaths (paths_of tasks ++ keys) old new marks marked (after_all log start) → AddPaths c.args.paths.keys old new marks marked (after_all log start))
          (λ log is new marked more. subst (λ l. AddPaths l old new marks marked (after_all log start)) read.next.order more);
      read = read.read;
      limits = λ alone.
          of-all seen
          (λ log. PathsKeepLimits (paths_of tasks ++ keys) (after_all log start) → PathsKeepLimits c.args.paths.keys (after_all log start))
          (λ log more. subst (λ l. PathsKeepLimits l (after_all log start)) read.next.order more);
      some = read.next.some;
      front = λ path h. subst (λ l. among path l ≡ true) read.next.order h;
      grown = read.seen;
      same_start = read.same_start;
      still = read.still;
      later = read.cause.later;
      refused = read.cause.refused;
    }

pub loop-alloc-preserved : goal.loop-alloc-preserved
loop-alloc-preserved g c =
    let i = c.loop-alloc.invariant in
    let both = c.in_ok-tasks-2.ensures in
    let store = c.args.store.now in
    let tasks = c.loop-alloc.tasks.items in
    let keys = c.loop-alloc.paths.keys in
    let judged = c.judge_and_read-next.new.tasks in
    let next = c.in_ok-tasks-2.field-0.tasks.items in
    let left = c.judge_and_read-next.new.paths.keys in
    let first = findings_in c.args.into.now.items in
    let before = findings_in c.loop-alloc.into.items in
    let after = findings_in c.add_all.new.into.items in
    let marks = c.loop-alloc.marks in
    let marked = c.add_all.new.marks in
    let seen = g.R.Reads.seen c.judge_and_read-next.new.files in
    let start = g.R.Reads.start c.judge_and_read-next.new.files in
    let are : AreJudged store tasks judged = subst (λ l. AreJudged store l judged) c.deref_mut.ensures.value both.judged in
    let same = take-front c.loop-alloc.tasks.len judged _ (c.loop-alloc.tasks.ok.0 ∙ sym are.count) in
    let right : (t : Tree) → IsStoreOf store t → AreReadOf tasks t → AddPaths (paths_of tasks) before after marks marked t =
    λ t is read.
    subst (λ l. AddPaths l before after marks marked t) (ap paths_of same ∙ same-paths store tasks judged are)
    (c.in_ok-add_all.ensures.added store t is (subst (AreRightIn store t) (sym same) (tasks-right store t tasks judged are read))) in
    let kept : (t : Tree) → AreReadOf tasks t → PathsKeepLimits (paths_of tasks) t =
    λ t read.
    subst (λ l. PathsKeepLimits l t) (ap paths_of same ∙ same-paths store tasks judged are)
    (c.in_ok-add_all.ensures.limits t (subst (AreWithinIn t) (sym same) (tasks-within store t tasks judged are read))) in
    record {
      added = λ alone.
          two-looks (g.R.Reads.seen c.loop-alloc.files) seen (g.R.Reads.start c.loop-alloc.files) start
          (λ t. IsStoreOf store t → (new : List Finding) (end : List Bool) → AddPaths (paths_of tasks ++ keys) before new marks end t → AddPaths c.args.paths.keys first new c.args.marks.now end t)
          (AreReadOf tasks)
          (λ t. IsStoreOf store t → (new : List Finding) (end : List Bool) → AddPaths (paths_of next ++ left) after new marked end t → AddPaths c.args.paths.keys first new c.args.marks.now end t)
          (both.still alone) both.same_start
          (λ t p q is new end rest. p is new end (add-both t (paths_of tasks) keys before after new marks marked end (right t is q) (subst (λ l. AddPaths l after new marked end t) both.next.order rest)))
          (i.added alone)
          (two-looks (g.R.Reads.seen c.loop-alloc.files) seen (g.R.Reads.start c.loop-alloc.files) start (AreReadOf tasks) (AreReadOf next) (AreReadOf tasks) (both.still alone) both.same_start (λ t p q. p) (i.read alone) (both.read alone));
      limits = λ alone.
          two-looks (g.R.Reads.seen c.loop-alloc.files) seen (g.R.Reads.start c.loop-alloc.files) start
          (λ t. AreReadOf tasks t × (PathsKeepLimits (paths_of tasks ++ keys) t → PathsKeepLimits c.args.paths.keys t)) (λ t. ⊤)
          (λ t. PathsKeepLimits (paths_of next ++ left) t → PathsKeepLimits c.args.paths.keys t)
          (both.still alone) both.same_start
          (λ t p q rest. p.1 (both-paths t (paths_of tasks) keys (kept t p.0) (subst (λ l. PathsKeepLimits l t) both.next.order rest)))
          (two-looks (g.R.Reads.seen c.loop-alloc.files) (g.R.Reads.seen c.loop-alloc.files) (g.R.Reads.start c.loop-alloc.files) (g.R.Reads.start c.loop-alloc.files)
          (AreReadOf tasks) (λ t. PathsKeepLimits (paths_of tasks ++ keys) t → PathsKeepLimits c.args.paths.keys t) (λ t. AreReadOf tasks t × (PathsKeepLimits (paths_of tasks ++ keys) t → PathsKeepLimits c.args.paths.keys t))
          refl refl (λ t p q. (p, q)) (i.read alone) (i.limits alone))
          (of-all seen (λ log. ⊤) (λ log. tt));
      read = both.read;
      some = both.next.some;
      front = λ path h. i.front path (among-behind path (paths_of tasks) keys (subst (λ l. among path l ≡ true) both.next.order h));
      grown = grows-on (g.R.Reads.seen c.args.files.now) (g.R.Reads.seen c.loop-alloc.files) seen i.grown both.seen;
      same_start = both.same_start ∙ i.same_start;
      still = λ alone. both.still alone ∙ i.still alone;
      later = (let a = i.later in let b = both.cause.later in omega (arith, a, b));
      refused = (let a = i.refused in let b = both.cause.refused in omega (arith, a, b));
    }

pub returns-clause-added : goal.returns-clause-added
returns-clause-added g c =
    let i = c.loop-alloc.invariant in
    let store = c.args.store.now in
    let tasks = c.loop-alloc.tasks.items in
    let keys = c.loop-alloc.paths.keys in
    let first = findings_in c.args.into.now.items in
    let after = findings_in c.loop-alloc.into.items in
    let marked = c.loop-alloc.marks in
    let seen = g.R.Reads.seen c.loop-alloc.files in
    let start = g.R.Reads.start c.loop-alloc.files in
    let none : tasks ≡ [] = no-tasks tasks (let empty = c.is_empty.ensures in let test = c.loop-alloc-test.false in let count = c.loop-alloc.tasks.ok.0 in grind (arith, nat_tests, empty, test, count)) in
    let nothing : paths_of tasks ++ keys ≡ [] = ap (λ l. paths_of l ++ keys) none ∙ i.some none in
    λ alone.
    two-looks seen seen start start
    (λ t. IsStoreOf store t → (new : List Finding) (end : List Bool) → AddPaths (paths_of tasks ++ keys) after new marked end t → AddPaths c.args.paths.keys first new c.args.marks.now end t)
    (AreReadOf tasks)
    (λ t. IsStoreOf store t → AddPaths c.args.paths.keys first after c.args.marks.now marked t)
    refl refl
    (λ t p q is. p is after marked (subst (λ l. AddPaths l after after marked marked t) (sym nothing) (refl, refl)))
    (i.added alone) (i.read alone)

pub returns-clause-limits : goal.returns-clause-limits
returns-clause-limits g c =
    let i = c.loop-alloc.invariant in
    let tasks = c.loop-alloc.tasks.items in
    let keys = c.loop-alloc.paths.keys in
    let none : tasks ≡ [] = no-tasks tasks (let empty = c.is_empty.ensures in let test = c.loop-alloc-test.false in let count = c.loop-alloc.tasks.ok.0 in grind (arith, nat_tests, empty, test, count)) in
    let nothing : paths_of tasks ++ keys ≡ [] = ap (λ l. paths_of l ++ keys) none ∙ i.some none in
    λ alone.
    if-each (g.R.Reads.seen c.loop-alloc.files) (g.R.Reads.start c.loop-alloc.files)
    (λ t. PathsKeepLimits (paths_of tasks ++ keys) t → PathsKeepLimits c.args.paths.keys t) (PathsKeepLimits c.args.paths.keys)
    (λ t p. p (subst (λ l. PathsKeepLimits l t) (sym nothing) (no-paths t)))
    (i.limits alone)
