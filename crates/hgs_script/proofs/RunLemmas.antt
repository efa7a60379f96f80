-- The jobs of a script that is read can be run.
use Rattle.std.proofs.Common.{◌≡◌, ◌⊎◌, inl, inr, ℕ, zero, suc, Bool, true, false, ◌&&◌, List, [], ◌∷◌, length, Some, sym, ap, subst, arith, codes}
use Rattle.std.specs.Prelude.{nat_le, ◌==◌, if◌then◌else◌}
use Rattle.std.specs.List.{AllByRecursion}
use Rattle.std.specs.Option.{option_map, option_or}
use Rattle.std.proofs.lemmas.Bool.{leb-true}
use Rattle.hgs_bytes.specs.Text.{split}
use Rattle.hgs_index.specs.MarkName.{is_mark_name}
use Rattle.hgs_model.specs.declared.command.Command.{Command}
use Rattle.hgs_model.specs.declared.command.Command.TheVariants.{Move, Mark, Unmark}
use Rattle.hgs_input.specs.Read.{behind, and_then, where_true, number_up_to}
use Rattle.hgs_schedule.specs.Read.{target_of}
use Rattle.hgs_script.specs.declared.job.Job.{Job}
use Rattle.hgs_script.specs.declared.job.Job.TheVariants.{Change, Ask}
use Rattle.hgs_script.specs.declared.script.Script.{Script}
use Rattle.hgs_script.specs.Read.{Task, most_workers, question_of, move_of, mark_of, unmark_of, change_of, job_of}
use Rattle.hgs_script.specs.Script.{IsTaskText, AreTaskTexts, IsScript, HaveRoom, IsShare, CanBeDone, CanBeRun, jobs_of, jobs_of_each}
use Rattle.hgs_script.proofs.TaskLemmas.{each_length}
use Rattle.hgs_schedule.specs.Theorems.ReadLemmas.{some_is, or_some, map_some, then_some, where_some, both}

-- ---- one job

change_can : (said : List ℕ) (command : Command) → change_of said ≡ Some command → CanBeDone (Change command)
change_can said command e = by_move (or_some _ _ command e)
  where
    CanBe : Command → Type 0
    CanBe command = CanBeDone (Change command)

    by_mark : (mark_of said ≡ Some command) ⊎ (unmark_of said ≡ Some command) → CanBeDone (Change command)
    by_mark (inl h) =
        let a = then_some (behind (codes "bookmark ") said) _ command h in
        let b = then_some (split 32 a.0) _ command a.2 in
        let w = where_some (is_mark_name b.0.1) (Mark b.0.1 b.0.0) command b.2 in
        subst CanBe w.1 (w.0, tt)
    by_mark (inr h) =
        let a = then_some (behind (codes "unbookmark ") said) _ command h in
        let w = where_some (is_mark_name a.0) (Unmark a.0) command a.2 in
        subst CanBe w.1 (tt, tt)

    by_move : (move_of said ≡ Some command) ⊎ (option_or (mark_of said) (unmark_of said) ≡ Some command) → CanBeDone (Change command)
    by_move (inl h) =
        let a = then_some (behind (codes "phase ") said) _ command h in
        let b = then_some (split 32 a.0) _ command a.2 in
        let c = then_some (target_of b.0.1) _ command b.2 in
        subst CanBe (some_is (Move b.0.0 c.0.0 c.0.1) command c.2) (tt, tt)
    by_move (inr h) = by_mark (or_some _ _ command h)

job_can : (said : List ℕ) (job : Job) → job_of said ≡ Some job → CanBeDone job
job_can said job e = by (or_some _ _ job e)
  where
    by : (option_map (λ c. Change c) (change_of said) ≡ Some job) ⊎ (option_map (λ q. Ask q) (question_of said) ≡ Some job) → CanBeDone job
    by (inl h) = let a = map_some (λ c. Change c) (change_of said) job h in subst CanBeDone a.2 (change_can said a.0 a.1)
    by (inr h) = let a = map_some (λ q. Ask q) (question_of said) job h in subst CanBeDone a.2 tt

text_can : (n : ℕ) (text : List ℕ) (task : Task) → IsTaskText n text task → CanBeDone task.1
text_can n text task (inl h) = job_can h.said task.1 h.says
text_can n text task (inr h) = subst CanBeDone h.commits (h.valid, tt)

-- ---- all jobs

jobs_can : (n worker : ℕ) (texts : List (List ℕ)) (tasks : List Task) → AreTaskTexts n texts tasks → AllByRecursion CanBeDone (jobs_of worker tasks)
jobs_can n worker [] [] h = tt
jobs_can n worker [] (task ∷ tasks) h = absurd h
jobs_can n worker (text ∷ texts) [] h = absurd h
jobs_can n worker (text ∷ texts) (task ∷ tasks) h = by (task.0 == worker) (text_can n text task h.0) (jobs_can n worker texts tasks h.1)
  where
    by : (t : Bool) → CanBeDone task.1 → AllByRecursion CanBeDone (jobs_of worker tasks) → AllByRecursion CanBeDone (if t then task.1 ∷ jobs_of worker tasks else jobs_of worker tasks)
    by true first rest = (first, rest)
    by false first rest = rest

shares_can : (first k n : ℕ) (texts : List (List ℕ)) (tasks : List Task) → HaveRoom tasks → AreTaskTexts n texts tasks → AllByRecursion IsShare (jobs_of_each first k tasks)
shares_can first zero n texts tasks room are = tt
shares_can first (suc k) n texts tasks room are = (record { most = room first; each = jobs_can n first texts tasks are }, shares_can (suc first) k n texts tasks room are)

pub script_can : (bytes : List ℕ) (s : Script) → IsScript bytes s → CanBeRun s
script_can bytes s h =
    let a = then_some (behind (codes "session ") h.first) (λ text. and_then (number_up_to most_workers text) (λ n. where_true (nat_le 1 n && nat_le n most_workers) n)) h.count h.counted in
    let b = then_some (number_up_to most_workers a.0) (λ n. where_true (nat_le 1 n && nat_le n most_workers) n) h.count a.2 in
    let w = where_some (nat_le 1 b.0 && nat_le b.0 most_workers) b.0 h.count b.2 in
    let t = both (nat_le 1 b.0) (nat_le b.0 most_workers) w.0 in
    let least = leb-true 1 b.0 t.0 in
    let most = leb-true b.0 most_workers t.1 in
    let is = w.1 in
    let size = ap length h.workers in
    let each = each_length 0 h.count h.tasks in
    record {
      least = omega (arith, least, is, size, each);
      most = omega (arith, most, is, size, each);
      shares = subst (AllByRecursion IsShare) (sym h.workers) (shares_can 0 h.count h.count h.texts h.tasks h.room h.are);
    }
