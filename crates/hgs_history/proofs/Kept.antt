-- No worker of a session falls back.
use Rattle.std.proofs.Common.{◌≡◌, ℕ, suc, List, [], ◌∷◌, sym, subst}
use Rattle.std.specs.Prelude.{IfSome, Option, Some}
use Rattle.std.specs.List.{AllByRecursion, FoldsTo}
use mathlib.Core.List.{IsPrefix}
use Rattle.hgs_bytes.specs.Bytes.{IsPrefixOf}
use Rattle.hgs_files.specs.Reads.{Grows}
use Rattle.hgs_files.specs.declared.op.Op.{Op}
use Rattle.hgs_headline.specs.WritersLog.{WritersLog}
use Rattle.hgs_script.specs.declared.result.Answered.{Answered}
use Rattle.hgs_session.specs.Calls.{Beginning, Call}
use Rattle.hgs_session.specs.Jobs.{DoesJob, IsFresh, Progress}
use Rattle.hgs_session.specs.Session.{EndState, EndedFrom, HasEnded, IsWithin, state_of}
use Rattle.hgs_views.specs.Seen.{Numbers}
use Rattle.hgs_history.specs.Kept.{NeverFallsBack, NoneFallsBack}
use Rattle.hgs_history.specs.Workers.{GoesBeside, Knows}
use Rattle.hgs_history.proofs.Working.{grown, seen-grows}

no-numbers : Numbers
no-numbers = record { marked = 0; worked = 0; read = 0; rooted = 0 }

module _ (h : WritersLog) (x : Beginning) (calls : List Call) (told : x.first.log ≡ Some [])
    (knows : (p : Progress) (v : Numbers) → IsFresh x p → Knows h p v)
    (goes : (worker : ℕ) (p : Progress) (v : Numbers) (answers : List Answered) (now : Progress) (last : List Op) → Knows h p v → now.seen ≡ Some last → IsPrefixOf last h.log → FoldsTo (DoesJob x worker calls) p answers now → (w : Numbers) × FoldsTo (GoesBeside h x.jobs worker) (p, v) answers (now, w)) where
  -- what a worker that begins with nothing has seen at last
  seen-at-last : (worker : ℕ) (answers : List Answered) (first now : Progress) → IsFresh x first → FoldsTo (DoesJob x worker calls) first answers now → (last : List Op) × (now.seen ≡ Some last)
  seen-at-last worker answers first now fresh does =
      let begins = subst (λ (o : Option (List Op)). IfSome o (λ log. (first.seen ≡ Some []) × (first.told ≡ []) × (first.start ≡ x.start))) told fresh.seen in
      let later = grown [] now.seen (subst (λ (o : Option (List Op)). Grows o now.seen) begins.0 (seen-grows x worker calls first answers now does)) in
      (later.0, later.1)

  begins-log : (now : Progress) (state : EndState) (last : List Op) → state_of now ≡ state → now.seen ≡ Some last → IsWithin (Some h.log) state → IsPrefixOf last h.log
  begins-log now state last is seen within =
      let there : IsWithin (Some h.log) (state_of now) = subst (IsWithin (Some h.log)) (sym is) within in
      let pre : IsPrefix last h.log = subst (λ (o : Option (List Op)). IfSome o (λ l. IsPrefix l h.log)) seen there.0 in
      (pre.0, sym pre.1)

  never-falls : (worker : ℕ) (state : EndState) (answers : List Answered) → HasEnded x worker calls state answers → IsWithin (Some h.log) state → NeverFallsBack h x worker calls answers
  never-falls worker state answers ended within =
      let done = ended.done in
      let last = seen-at-last worker answers done.first ended.now done.fresh done.does in
      let gone = goes worker done.first no-numbers answers ended.now last.0 (knows done.first no-numbers done.fresh) last.1 (begins-log ended.now state last.0 ended.state_is last.1 within) done.does in
      record { first = done.first; last = ended.now; before = no-numbers; after = gone.0; fresh = done.fresh; does = done.does; goes = gone.1 }

  pub none-falls : (worker : ℕ) (states : List EndState) (replies : List (List Answered)) → EndedFrom x worker calls states replies → AllByRecursion (IsWithin (Some h.log)) states → NoneFallsBack h x worker calls replies
  none-falls worker [] [] ended within = tt
  none-falls worker [] (answers ∷ replies) ended within = absurd ended
  none-falls worker (state ∷ states) [] ended within = absurd ended
  none-falls worker (state ∷ states) (answers ∷ replies) ended within = (never-falls worker state answers ended.0 within.0, none-falls (suc worker) states replies ended.1 within.1)
