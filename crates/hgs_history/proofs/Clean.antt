-- Where no call on the files was refused, nothing is left behind.
use Rattle.std.proofs.Common.{inl, ◌≡◌, ◌≤◌, ◌<◌, ℕ, Bool, true, false, List, [], ◌∷◌, ◌++◌, refl, sym, ◌∙◌, subst, arith}
use Rattle.std.specs.Prelude.{Option, Result, Ok, Err, is_some}
use Rattle.std.specs.List.{AllByRecursion, FoldsTo}
use Rattle.hgs_answers.specs.declared.answer.Answer.{Answer}
use Rattle.hgs_answers.specs.declared.outcome.Outcome.{Outcome}
use Rattle.hgs_answers.specs.declared.outcome.Outcome.TheVariants as outcomes
use Rattle.hgs_answers.specs.declared.outcome.Published.TheVariants.{No, Yes, Unknown}
use Rattle.hgs_files.specs.Files.{GoesOn}
use Rattle.hgs_files.specs.Reads.{greatest}
use Rattle.hgs_files.specs.Theorems.TreeLemmas.{after_all-append}
use Rattle.hgs_files.specs.Tree.{Tree, after_all}
use Rattle.hgs_files.specs.declared.op.Op.{Op}
use Rattle.hgs_machine.specs.Carry.{tree_now}
use Rattle.hgs_machine.specs.Refusals.{refusals_of_left}
use Rattle.hgs_model.specs.Repo.{Repo}
use Rattle.hgs_model.specs.Step.{Next, step}
use Rattle.hgs_model.specs.Valid.{IsValid}
use Rattle.hgs_model.specs.declared.command.Command.{Command}
use Rattle.hgs_model.specs.declared.command.Refusal.{Refusal}
use Rattle.hgs_writer.specs.Made.{HasNoLocks}
use Rattle.hgs_script.specs.Script.{IsShare}
use Rattle.hgs_session.specs.Calls.{Beginning, Call, IsCall, Stage, name_of}
use Rattle.hgs_legal.specs.ListsPaths.{ListsOnlyPaths, ListsPaths}
use Rattle.hgs_stands.specs.Stands.{Stands}
use Rattle.hgs_writer.specs.Alone.{IsAnswered}
use Rattle.hgs_writer.specs.Refusals.{refusals_of, refusals_of_outcome}
use Rattle.hgs_writer.specs.Written.{IsWritten, IsWrittenFor}
use Rattle.hgs_history.specs.Once.{IsCleanAt, IsUnharmed, IsUnharmedOutcome}
use Rattle.hgs_history.proofs.Counted.{rises}
use Rattle.hgs_history.proofs.Histories.{job-valid}
use Rattle.hgs_history.proofs.Refused.{as-written}

swept-of : (swept : Bool) → refusals_of_left swept ≤ 0 → swept ≡ true
swept-of true le = refl
swept-of false le = absurd (omega (arith, le))

-- by an answer that tells of no refusal
unharmed : (r : Repo) (stepped : Result Next Refusal) (u : Tree) (o : Outcome) → refusals_of_outcome true o ≤ 0 → ((holder : Option (List ℕ)) → o ≡ outcomes.LockHeld holder → ⊥) → IsAnswered r stepped o u → IsUnharmedOutcome o × ((now : Repo) × Stands u now)
unharmed r (Ok next) u (outcomes.Done rev node) le held a = (tt, (next.0, a.0))
unharmed r (Err e) u (outcomes.Done rev node) le held a = absurd a
unharmed r stepped u (outcomes.LockHeld holder) le held a = absurd (held holder refl)
unharmed r stepped u outcomes.Abandoned le held a = absurd a
unharmed r stepped u outcomes.UnknownRevision le held a = (tt, (r, a.1))
unharmed r stepped u (outcomes.NothingChanged rev) le held a = (tt, (r, a.1))
unharmed r stepped u (outcomes.NeedsForce rev) le held a = (tt, (r, a.1))
unharmed r stepped u (outcomes.Damaged d) le held a = (tt, (r, a))
unharmed r stepped u outcomes.Fault le held a = absurd (omega (arith, le))
unharmed r stepped u (outcomes.Unfinished No) le held a = absurd (omega (arith, le))
unharmed r stepped u (outcomes.Unfinished Yes) le held a = absurd (omega (arith, le))
unharmed r stepped u (outcomes.Unfinished Unknown) le held a = absurd (omega (arith, le))
unharmed r stepped u (outcomes.Limit w) le held a = (tt, (r, a))
unharmed r stepped u (outcomes.Collision path rev) le held a = (tt, (r, a))
unharmed r stepped u (outcomes.NameClash path) le held a = (tt, (r, a))
unharmed r stepped u outcomes.Memory le held a = (tt, (r, a))
unharmed r stepped u (outcomes.InTheWay path) le held a = (tt, (r, a))
unharmed r stepped u outcomes.UnknownPath le held a = (tt, (r, a.1))
unharmed r stepped u (outcomes.Unsettled rev node) le held a = absurd a
unharmed r stepped u (outcomes.CopyOver path) le held a = (tt, (r, a.1))

module _ (x : Beginning) (shares : AllByRecursion IsShare x.jobs)
    (answered : (t : Tree) (r : Repo) (command : Command) (who : List ℕ) (answer : Answer) (done : List Op) → Stands t r → IsValid command → ListsPaths t r → IsWritten who command t answer done → IsAnswered r (step r command) answer.outcome (after_all done t))
    (lists-behind : (t : Tree) (r : Repo) (command : Command) (who : List ℕ) (answer : Answer) (done : List Op) → Stands t r → IsValid command → ListsPaths t r → IsWritten who command t answer done → ListsOnlyPaths (after_all done t))
    (swept : (t : Tree) (command : Command) (who : List ℕ) (answer : Answer) (done : List Op) → HasNoLocks t → IsWritten who command t answer done → answer.swept ≡ true → HasNoLocks (after_all done t))
    (held : (t : Tree) (command : Command) (who : List ℕ) (answer : Answer) (done : List Op) (holder : Option (List ℕ)) → HasNoLocks t → IsWritten who command t answer done → answer.outcome ≡ outcomes.LockHeld holder → ⊥) where
  record One (c : Call) (new : Stage) : Type 0 where
    is : IsUnharmed c
    at : IsCleanAt x.start new
    lists : ListsPaths (after_all at.log x.start) at.repository

  one : (old : Stage) (c : Call) (new : Stage) (is : IsCall x old c new) (at : IsCleanAt x.start old) → ListsPaths (after_all at.log x.start) at.repository → new.faults ≡ old.faults → new.denied ≡ old.denied → old.faults < greatest → old.denied < greatest → One c new
  one old c new is at lists faults denied less fewer =
      let who = name_of c.worker c.job in
      let here = after_all at.log x.start in
      let on = subst (λ (o : Option (List Op)). GoesOn o new.log (IsWrittenFor who is.command (tree_now o x.start) c.answer c.changeset)) at.told is.log in
      let written = as-written who is.command here c.answer c.changeset on.0 on.2 in
      let k = subst (λ (o : Option (List Op)). refusals_of (is_some o) c.answer ≤ 0) at.told (let r = is.refused in let a = r.all in let f = r.faults in let d = r.denied in omega (arith, a, f, d, faults, denied, less, fewer)) in
      let clean = swept-of c.answer.swept (omega (arith, k)) in
      let fine = unharmed at.repository (step at.repository is.command) (after_all on.0 here) c.answer.outcome (omega (arith, k)) (λ holder e. held here is.command who c.answer on.0 holder at.no_locks written e)
      (answered here at.repository is.command who c.answer on.0 at.stands (job-valid x.jobs c.worker c.job is.command shares is.job) lists written) in
      let tree = sym (after_all-append at.log on.0 x.start) in
      record {
        is = (fine.0, clean);
        at = record {
          log = at.log ++ on.0;
          told = on.1;
          repository = fine.1.0;
          stands = subst (λ (t : Tree). Stands t fine.1.0) tree fine.1.1;
          no_locks = subst HasNoLocks tree (swept here is.command who c.answer on.0 at.no_locks written clean);
        };
        lists = subst (λ (t : Tree). ListsPaths t fine.1.0) tree (lists-behind here at.repository is.command who c.answer on.0 at.stands (job-valid x.jobs c.worker c.job is.command shares is.job) lists written fine.1.0 (inl fine.1.1));
      }

  pub all-clean : (old : Stage) (calls : List Call) (last : Stage) (makes : FoldsTo (IsCall x) old calls last) (at : IsCleanAt x.start old) → ListsPaths (after_all at.log x.start) at.repository → last.faults ≡ old.faults → last.denied ≡ old.denied → old.faults < greatest → old.denied < greatest
      → AllByRecursion IsUnharmed calls × (now : IsCleanAt x.start last) × ListsPaths (after_all now.log x.start) now.repository
  all-clean old [] last makes at lists faults denied less fewer = subst (λ (s : Stage). AllByRecursion IsUnharmed [] × (now : IsCleanAt x.start s) × ListsPaths (after_all now.log x.start) now.repository) makes (tt, at, lists)
  all-clean old (c ∷ calls) last makes at lists faults denied less fewer =
      let next = makes.0 in
      let r = rises x next calls last makes.2 in
      let g = r.0 in let e = r.1 in
      let f = makes.1.faults in let d = makes.1.denied in
      let same_faults : next.faults ≡ old.faults = omega (arith, f, g, faults) in
      let same_denied : next.denied ≡ old.denied = omega (arith, d, e, denied) in
      let first = one old c next makes.1 at lists same_faults same_denied less fewer in
      let rest = all-clean next calls last makes.2 first.at first.lists (faults ∙ sym same_faults) (denied ∙ sym same_denied) (omega (arith, same_faults, less)) (omega (arith, same_denied, fewer)) in
      ((first.is, rest.0), rest.1, rest.2)
