-- Commits one after another may be stopped anywhere.
use Rattle.std.proofs.Common.{◌≡◌, ◌⊎◌, inl, inr, ℕ, suc, ◌<◌, ◌≤◌, ◌^◌, List, [], ◌∷◌, ◌++◌, refl, sym, ◌∙◌, ap, subst, arith}
use Rattle.std.specs.Prelude.{Option, Some, Result, Ok, Err}
use Rattle.std.specs.Option.{option_and_then}
use Rattle.hgs_answers.specs.declared.answer.Answer.{Answer}
use Rattle.hgs_files.specs.declared.op.Op.{Op}
use Rattle.hgs_files.specs.Stop.{IsStopped}
use Rattle.hgs_files.specs.Tree.{Tree, after_all}
use Rattle.hgs_files.specs.Theorems.TreeLemmas.{after_all-append}
use Rattle.hgs_gen.specs.Generated.{generated}
use Rattle.hgs_legal.specs.ListsPaths.{ListsPaths}
use Rattle.hgs_model.specs.Repo.{Repo}
use Rattle.hgs_model.specs.Step.{step}
use Rattle.hgs_model.specs.Valid.{IsNewChange}
use Rattle.hgs_model.specs.declared.command.Command.TheVariants.{Commit}
use Rattle.hgs_stands.specs.Stands.{Stands}
use Rattle.hgs_writer.specs.Alone.{IsStopOf}
use Rattle.hgs_writer.specs.Written.{IsWritten}
use Rattle.hgs_grown.proofs.GrowLemmas.{Leaves, Lists, leads}
use Rattle.hgs_grown.specs.Grown.{AreCommitted, GrowsTo, IsGrownTo, grown, next_repo, nothing, one_more}
use Rattle.hgs_grown.specs.declared.commits.Stop.{Stop}
use Rattle.hgs_grown.specs.declared.commits.Tip.{Tip}
use Rattle.hgs_grown.specs.declared.commits.Stop.TheVariants.{Memory, Answered}

-- where a call may stop that was alone
abbrev pub Stops : Type 0
Stops = (t : Tree) (r : Repo) (n : ℕ) (seed : ℕ) (who : List ℕ) (answer : Answer) (done d : List Op) → Stands t r → IsNewChange (generated seed n) → ListsPaths t r → IsWritten who (Commit (generated seed n)) t answer done → IsStopped done d
    → IsStopOf t r (step r (Commit (generated seed n))) d

-- a stop is one in the first of two lists, or in the next behind it
stopped-apart : (a b d : List Op) → IsStopped (a ++ b) d → IsStopped a d ⊎ ((e : List Op) × IsStopped b e × (d ≡ a ++ e))
stopped-apart [] b d h = inr (d, h, refl)
stopped-apart (op ∷ a) b d (inl none) = inl (inl none)
stopped-apart (op ∷ a) b d (inr (inl part)) = inl (inr (inl part))
stopped-apart (op ∷ a) b d (inr (inr more)) = elim (stopped-apart a b more.0 more.1) [
  | inl h ↦ inl (inr (inr (more.0, h, more.2)))
  | inr h ↦ inr (h.0, h.1, more.2 ∙ ap (λ l. op ∷ l) h.2)
]

module _ (law : Leaves) (list_law : Lists) (stop_law : Stops) (valid : (seed made : ℕ) → seed < 2 ^ 64 → made < 20000 → IsNewChange (generated seed made)) (who : List ℕ) (seed count : ℕ) (t : Tree) (r : Repo) (small : seed < 2 ^ 64) (few : count ≤ 5000) (stands : Stands t r) (lists : ListsPaths t r) where
  abbrev IsSafe : Tree → Type 0
  IsSafe u = IsGrownTo seed count r u

  -- a stop in the call of the next commit
  in-next : (n : ℕ) (s : Repo) (u : Tree) (e : List Op) → n < count → grown seed n r ≡ Some s → IsStopOf u s (step s (Commit (generated seed n))) e → IsSafe (after_all e u)
  in-next n s u e lt is (inl (before, same)) = (n, s, omega (arith, lt), is, inl same)
  in-next n s u e lt is (inr (inl (left, opened))) = (n, s, omega (arith, lt), is, inr opened)
  in-next n s u e lt is (inr (inr (next, accepted, piece, same))) =
      (suc n, next.0, omega (arith, lt), ap (option_and_then (λ x. next_repo (step x (Commit (generated seed n))))) is ∙ ap next_repo accepted, inl same)

  behind : (n : ℕ) (last : Option Tip) (done more e : List Op) (answer : Answer) → n < count → AreCommitted who seed t n last done → IsWritten who (Commit (generated seed n)) (after_all done t) answer more → IsStopped more e → IsSafe (after_all (done ++ e) t)
  behind n last done more e answer lt before written stop =
      let sofar = leads law list_law valid who seed count t r small few stands lists n last done (omega (arith, lt)) before in
      let good = valid seed n small (omega (arith, lt, few)) in
      subst IsSafe (sym (after_all-append done e t)) (in-next n sofar.0 (after_all done t) e lt sofar.1 (stop_law (after_all done t) sofar.0 n seed who answer more e sofar.2 good sofar.3 written stop))

  either : (n : ℕ) (last : Option Tip) (done more d : List Op) (answer : Answer) → n < count → AreCommitted who seed t n last done → IsWritten who (Commit (generated seed n)) (after_all done t) answer more → (IsStopped done d → IsSafe (after_all d t)) → IsStopped (done ++ more) d → IsSafe (after_all d t)
  either n last done more d answer lt before written earlier stop = elim (stopped-apart done more d stop) [
    | inl h ↦ earlier h
    | inr h ↦ subst (λ (l : List Op). IsSafe (after_all l t)) (sym h.2) (behind n last done more h.0 answer lt before written h.1)
  ]

  committed : (n : ℕ) (last : Option Tip) (done d : List Op) → n ≤ count → AreCommitted who seed t n last done → IsStopped done d → IsSafe (after_all d t)
  committed _ _ _ d le nothing stop = (0, r, omega (arith, le), refl, inl (subst (λ (l : List Op). Stands (after_all l t) r) (sym stop) stands))
  committed _ _ _ d le (one_more n last done more answer rev node before written is) stop = either n last done more d answer (omega (arith, le)) before written (committed n last done d (omega (arith, le)) before) stop

  pub stopped : (result : Result Tip Stop) (done d : List Op) → GrowsTo who seed count result t done → IsStopped done d → IsSafe (after_all d t)
  stopped (Ok tip) done d grows stop = let e : count ≤ count = omega arith in committed count (Some tip) done d e grows stop
  stopped (Err (Memory swept)) done d grows stop = committed grows.0 grows.1 done d (omega (arith, grows.2)) grows.3 stop
  stopped (Err (Answered command answer swept)) done d grows stop =
      let written = subst (λ x. IsWritten who x (after_all grows.done t) answer grows.more) grows.next grows.written in
      let le = committed grows.made grows.last grows.done d (omega (arith, grows.fewer)) grows.committed in
      either grows.made grows.last grows.done grows.more d answer grows.fewer grows.committed written le (subst (λ (l : List Op). IsStopped l d) grows.all stop)
