-- The changesets of a generator, committed one after another.
use Rattle.std.specs.Prelude.{◌≡◌, ◌<◌, ◌≤◌, ◌⊎◌, ℕ, zero, suc, ◌+◌, Bool, true, ◌&&◌, List, [], ◌++◌, Option, Some, None, Result, Ok, Err}
use Rattle.std.specs.Option.{option_and_then}
use Rattle.hgs_answers.specs.declared.answer.Answer.{Answer}
use Rattle.hgs_answers.specs.declared.outcome.Outcome.{Outcome}
use Rattle.hgs_answers.specs.declared.outcome.Outcome.TheVariants.{Done, Fault, Unfinished}
use Rattle.hgs_answers.specs.declared.outcome.Published.{Published}
use Rattle.hgs_files.specs.declared.op.Op.{Op}
use Rattle.hgs_files.specs.Reads.{Rose}
use Rattle.hgs_files.specs.Tree.{Tree, after_all}
use Rattle.hgs_gen.specs.Generated.{generated}
use Rattle.hgs_index.specs.declared.node.Node.{Node}
use Rattle.hgs_machine.specs.Refusals.{WereRefused, refusals_of_left}
use Rattle.hgs_model.specs.declared.command.Command.{Command}
use Rattle.hgs_model.specs.declared.command.Command.TheVariants.{Commit}
use Rattle.hgs_model.specs.Repo.{Repo}
use Rattle.hgs_model.specs.Step.{Next, step}
use Rattle.hgs_model.specs.declared.command.Refusal.{Refusal}
use Rattle.hgs_ops.specs.Operations.{strays}
use Rattle.hgs_stands.specs.Open.{IsOpen}
use Rattle.hgs_stands.specs.Stands.{Stands}
use Rattle.hgs_writer.specs.Refusals.{refusals_of}
use Rattle.hgs_writer.specs.Written.{IsWritten}
use Rattle.hgs_grown.specs.declared.commits.Stop.{Stop}
use Rattle.hgs_grown.specs.declared.commits.Tip.{Tip}
use Rattle.hgs_grown.specs.declared.commits.Stop.TheVariants.{Memory, Answered}

-- nothing is left over of the commits, where there are some
abbrev pub is_swept : Option Tip → Bool
is_swept None = true
is_swept (Some tip) = tip.swept

-- So many of the changesets are committed, each by a call that was done, and this is the last; nothing is left over where each says so.
pub data AreCommitted (who : List ℕ) (seed : ℕ) (t : Tree) : ℕ → Option Tip → List Op → Type 0 where
  nothing : AreCommitted who seed t 0 None []
  one_more : (n : ℕ) (last : Option Tip) (done more : List Op) (answer : Answer) (rev : ℕ) (node : Node) → AreCommitted who seed t n last done
      → IsWritten who (Commit (generated seed n)) (after_all done t) answer more → answer.outcome ≡ Done rev node → AreCommitted who seed t (suc n) (Some (record { node = node; swept = is_swept last && answer.swept })) (done ++ more)

-- another answer than that it is done
abbrev pub IsNotDone : Outcome → Type 0
IsNotDone outcome = (rev : ℕ) (node : Node) → outcome ≡ Done rev node → ⊥

-- One of them, behind those that are committed, was answered otherwise.
pub record StopsBehind (who : List ℕ) (seed count : ℕ) (t : Tree) (command : Command) (answer : Answer) (swept : Bool) (ops : List Op) : Type 0 where
  pub made : ℕ
  pub last : Option Tip
  pub done : List Op
  pub more : List Op
  pub fewer : made < count
  pub committed : AreCommitted who seed t made last done
  pub next : command ≡ Commit (generated seed made)
  pub written : IsWritten who command (after_all done t) answer more
  pub refused : IsNotDone answer.outcome
  pub left : swept ≡ is_swept last
  pub all : ops ≡ done ++ more

-- All of them are committed; or there was no memory for the next; or that was answered otherwise.
abbrev pub GrowsTo : List ℕ → ℕ → ℕ → Result Tip Stop → Tree → List Op → Type 0
GrowsTo who seed count (Ok tip) t ops = AreCommitted who seed t count (Some tip) ops
GrowsTo who seed count (Err (Memory swept)) t ops = (made : ℕ) × (last : Option Tip) × (made < count) × AreCommitted who seed t made last ops × (swept ≡ is_swept last)
GrowsTo who seed count (Err (Answered command answer swept)) t ops = StopsBehind who seed count t command answer swept ops

-- one more is committed, from the tree that those before left
abbrev pub CommitsNext : {G : Type 0} → List ℕ → ℕ → ℕ → Bool → Result (G × Tip) Stop → Tree → List Op → Type 0
CommitsNext who seed made swept (Ok next) t ops =
    (answer : Answer) × (rev : ℕ) × (node : Node) × IsWritten who (Commit (generated seed made)) t answer ops × (answer.outcome ≡ Done rev node) × (next.1 ≡ record { node = node; swept = swept && answer.swept })
CommitsNext who seed made swept (Err (Memory left)) t ops = (ops ≡ []) × (left ≡ swept)
CommitsNext who seed made swept (Err (Answered command answer left)) t ops = (command ≡ Commit (generated seed made)) × IsWritten who command t answer ops × IsNotDone answer.outcome × (left ≡ swept)

abbrev pub last_of : {G : Type 0} → Result (G × Tip) Stop → Result Tip Stop
last_of (Ok next) = Ok next.1
last_of (Err stop) = Err stop

-- A failure is answered only where a count rose, and as many calls were refused as the answer tells of, and one more where the commits
-- before left something over.
abbrev pub LeftHasCause : Bool → ℕ → ℕ → ℕ → ℕ → Result Tip Stop → Type 0
LeftHasCause told faults_old faults_new denied_old denied_new (Ok tip) = WereRefused (refusals_of_left tip.swept) faults_old faults_new denied_old denied_new
LeftHasCause told faults_old faults_new denied_old denied_new (Err (Memory swept)) = WereRefused (refusals_of_left swept) faults_old faults_new denied_old denied_new
LeftHasCause told faults_old faults_new denied_old denied_new (Err (Answered command answer swept)) =
    (answer.outcome ≡ Fault → Rose faults_old faults_new) × ((published : Published) → answer.outcome ≡ Unfinished published → Rose faults_old faults_new ⊎ Rose denied_old denied_new)
    × WereRefused (refusals_of told answer + refusals_of_left swept) faults_old faults_new denied_old denied_new

-- ---- the repository

abbrev pub next_repo : Result Next Refusal → Option Repo
next_repo (Ok next) = Some next.0
next_repo (Err e) = None

-- what a repository becomes by so many of the changesets, if it takes each of them
abbrev pub grown : ℕ → ℕ → Repo → Option Repo
grown seed zero r = Some r
grown seed (suc n) r = option_and_then (λ s. next_repo (step s (Commit (generated seed n)))) (grown seed n r)

-- The files stand for what the repository becomes by some of the first so many changesets, or can be taken back to that.
abbrev pub IsGrownTo : ℕ → ℕ → Repo → Tree → Type 0
IsGrownTo seed count r t = (made : ℕ) × (s : Repo) × (made ≤ count) × (grown seed made r ≡ Some s) × (Stands t s ⊎ IsOpen strays t s)
