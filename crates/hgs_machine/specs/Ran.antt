-- How a machine was run: each call that it asked for was made, and it was told what became of it.
use Rattle.std.specs.Prelude.{◌≡◌, ℕ, zero, suc, ◌+◌, List, [], ◌++◌}
use Rattle.hgs_files.specs.declared.op.Op.{Op}
use Rattle.hgs_files.specs.Reads.{Rises}
use Rattle.hgs_files.specs.Tree.{Tree, after_all}
use Rattle.hgs_machine.specs.declared.ended.Ended.{Ended}
use Rattle.hgs_machine.specs.declared.machine.Machine.{Machine}
use Rattle.hgs_machine.specs.declared.machine.Reply.{Reply}
use Rattle.hgs_machine.specs.declared.machine.Reply.TheVariants.{Failed, Memory, SizeFailed, SizeMemory}
use Rattle.hgs_machine.specs.Asked.{Ending, asked}
use Rattle.hgs_machine.specs.Fed.{fed, new_machine}
use Rattle.hgs_machine.specs.SoFar.{Replies}
use Rattle.hgs_transaction.specs.declared.assemble.Plan.{Plan}

-- the call failed
abbrev pub failures_in : Reply → ℕ
failures_in Failed = 1
failures_in SizeFailed = 1
failures_in _ = 0

-- it found no memory
abbrev pub wants_in : Reply → ℕ
wants_in Memory = 1
wants_in SizeMemory = 1
wants_in _ = 0

-- From the first machine to this one, with so many calls that failed and so many that found no memory.
pub data HasRun (t : Tree) (first : Machine) : Machine → ℕ → ℕ → List Op → Type 0 where
  not_yet : HasRun t first first 0 0 []
  once_more : (m : Machine) (failed wanting : ℕ) (log more : List Op) (reply : Reply) → HasRun t first m failed wanting log → Replies (after_all log t) (asked m) reply more
      → HasRun t first (fed m reply) (failed + failures_in reply) (wanting + wants_in reply) (log ++ more)

-- a count rises by so many, and stays where there is none
abbrev pub RoseBy : ℕ → ℕ → ℕ → Type 0
RoseBy old new zero = new ≡ old
RoseBy old new (suc n) = Rises old new (suc n)

-- the same, where the counts rise by these calls and by no other
pub record HasCome (t : Tree) (first last : Machine) (faults_old faults_new denied_old denied_new : ℕ) (log : List Op) : Type 0 where
  pub failed : ℕ
  pub wanting : ℕ
  pub run : HasRun t first last failed wanting log
  pub faults : RoseBy faults_old faults_new failed
  pub denied : RoseBy denied_old denied_new wanting

-- What was done more is done by this machine, from whatever tree it began at that has become the tree now, whatever was counted before.
abbrev pub ComesOn : Tree → Machine → Machine → ℕ → ℕ → ℕ → ℕ → List Op → Type 0
ComesOn now old new faults_old faults_new denied_old denied_new more =
    (t : Tree) (first : Machine) (faults denied : ℕ) (log : List Op) → after_all log t ≡ now → HasCome t first old faults faults_old denied denied_old log → HasCome t first new faults faults_new denied denied_new (log ++ more)

-- A plan is carried out by running its machine to its end, which says how it ended.
pub record IsRunOut (t : Tree) (plan : Plan) (ended : Ended) (faults_old faults_new denied_old denied_new : ℕ) (log : List Op) : Type 0 where
  pub last : Machine
  pub come : HasCome t (new_machine plan) last faults_old faults_new denied_old denied_new log
  pub no_more : asked last ≡ Ending
  pub is_ended : ended ≡ record { outcome = last.outcome; swept = last.swept }
