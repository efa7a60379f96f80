-- A plan that is made of what was read can be carried out.
use Rattle.std.proofs.Common.{◌≡◌, ◌*◌, ℕ, List, Bool, false, length, Option, Some, None, Result, Ok, Err, IfOk, IfSome, sym, subst}
use Rattle.hgs_bytes.specs.Answer.{Gives}
use Rattle.hgs_commit.specs.Commit.{AtRest, Steps}
use Rattle.hgs_commit.specs.OfCommit.{ArePartsOfCommit}
use Rattle.hgs_commit.specs.declared.fault.CommitFault.TheVariants.{Unread}
use Rattle.hgs_loading.specs.Store.{loaded_in, view_store}
use Rattle.hgs_model.specs.declared.command.Command.{Command}
use Rattle.hgs_model.specs.declared.command.Command.TheVariants.{Commit, Import, Mark, Move, Unmark}
use Rattle.hgs_model.specs.declared.command.NewChange.{NewChange}
use Rattle.hgs_model.specs.declared.phase.Phase.{Phase}
use Rattle.hgs_load.specs.Answer.{is_of_outside}
use Rattle.hgs_load.specs.declared.answer.ReadAnswer.{ReadAnswer}
use Rattle.hgs_writer.specs.Planning.{ComesTo, GivesStep, Plans, is_unread}
use Rattle.hgs_writer.specs.Records.{ImportComesTo}
use Rattle.hgs_commit.specs.declared.fault.CommitFault.{CommitFault}
use Rattle.hgs_files.specs.declared.op.Op.{Op}
use Rattle.hgs_files.specs.Tree.{Tree, after_all, bytes_at}
use Rattle.hgs_machine.specs.Sound.{AreSound}
use Rattle.hgs_load.specs.View.{changelog_index}
use Rattle.hgs_steps.specs.Steps.{mark_of, move_of, planned, unmark_of}
use Rattle.hgs_steps.specs.declared.loaded.Loaded.{Loaded}
use Rattle.hgs_steps.specs.declared.step.Step.{Step}

pub weaker : (l : Loaded) (r : Result Step CommitFault) → IfOk r (λ step. (t : Tree) → AreSound t step.parts) → IfOk r (λ step. (t : Tree) → (l.changelog.inline ≡ false → length (bytes_at t changelog_index) ≡ 64 * length l.changelog.entries) → AreSound t step.parts)
weaker l (Ok step) h = λ t e. h t
weaker l (Err fault) h = tt

-- what follows of a tree follows of the one that is told
pub told : (P Q : Tree → Type 0) (seen now : Option (List Op)) (start later : Tree) → now ≡ seen → later ≡ start → ((t : Tree) → P t → Q t) → IfSome seen (λ log. P (after_all log start)) → IfSome now (λ log. Q (after_all log later))
told P Q seen now start later same_log same_start follows h =
    subst (λ u. IfSome now (λ log. Q (after_all log u))) (sym same_start) (subst (λ o. IfSome o (λ log. Q (after_all log start))) (sym same_log) (by seen h))
  where
    by : (o : Option (List Op)) → IfSome o (λ log. P (after_all log start)) → IfSome o (λ log. Q (after_all log start))
    by None k = tt
    by (Some log) k = follows (after_all log start) k

-- so does what follows of two facts, one of the later tree
pub told-both : (P S Q : Tree → Type 0) (seen now : Option (List Op)) (start later : Tree) → now ≡ seen → later ≡ start → ((t : Tree) → P t → S t → Q t) → IfSome seen (λ log. P (after_all log start)) → IfSome now (λ log. S (after_all log later)) → IfSome now (λ log. Q (after_all log later))
told-both P S Q seen now start later same_log same_start follows h k = by now (told P P seen now start later same_log same_start (λ t p. p) h) k
  where
    by : (o : Option (List Op)) → IfSome o (λ log. P (after_all log later)) → IfSome o (λ log. S (after_all log later)) → IfSome o (λ log. Q (after_all log later))
    by None p s = tt
    by (Some log) p s = follows (after_all log later) p s

-- what holds of every tree holds at rest, and what follows of what does
pub always-at-rest : (alone : Bool) (seen : Option (List Op)) (start : Tree) (Q : Tree → Type 0) → ((t : Tree) → Q t) → AtRest alone seen start Q
always-at-rest alone seen start Q holds = λ is. by seen
  where
    by : (o : Option (List Op)) → IfSome o (λ log. Q (after_all log start))
    by None = tt
    by (Some log) = holds (after_all log start)

pub at-rest : (alone : Bool) (seen : Option (List Op)) (start : Tree) (P Q : Tree → Type 0) → ((t : Tree) → P t → Q t) → AtRest alone seen start P → AtRest alone seen start Q
at-rest alone seen start P Q follows h = λ is. by seen (h is)
  where
    by : (o : Option (List Op)) → IfSome o (λ log. P (after_all log start)) → IfSome o (λ log. Q (after_all log start))
    by None p = tt
    by (Some log) p = follows (after_all log start) p

-- ---- what a command comes to

pub commit-comes : (t : Tree) (l : Loaded) (command : Command) (n : NewChange) (result : Result Step CommitFault) → command ≡ Commit n → IfOk result (λ step. ArePartsOfCommit l.changelog step.parts) → Steps l n t result → ComesTo t l command result
commit-comes t l command n result is parts comes = subst (λ (x : Command). ComesTo t l x result) (sym is) (comes, parts)

pub import-comes : (t : Tree) (l : Loaded) (command : Command) (changes given : List NewChange) (result : Result Step CommitFault) → command ≡ Import changes → given ≡ changes → ImportComesTo t l given result → ComesTo t l command result
import-comes t l command changes given result is same_changes comes = subst (λ (x : Command). ComesTo t l x result) (sym is) (subst (λ x. ImportComesTo t l x result) same_changes comes)

pub move-comes : (t : Tree) (l : Loaded) (command : Command) (name given : List ℕ) (to : Phase) (force : Bool) (result : Result Step CommitFault) → command ≡ Move name to force → given ≡ name → GivesStep result (planned l (move_of l given to force)) → ComesTo t l command result
move-comes t l command name given to force result is same_name comes = subst (λ (x : Command). ComesTo t l x result) (sym is) (subst (λ (x : List ℕ). GivesStep result (planned l (move_of l x to force))) same_name comes)

pub mark-comes : (t : Tree) (l : Loaded) (command : Command) (mark name given_mark given : List ℕ) (result : Result Step CommitFault) → command ≡ Mark mark name → given_mark ≡ mark → given ≡ name → GivesStep result (planned l (mark_of l given_mark given)) → ComesTo t l command result
mark-comes t l command mark name given_mark given result is same_mark same_name comes =
    subst (λ (x : Command). ComesTo t l x result) (sym is) (subst (λ (x : List ℕ). GivesStep result (planned l (mark_of l mark x))) same_name (subst (λ (x : List ℕ). GivesStep result (planned l (mark_of l x given))) same_mark comes))

pub unmark-comes : (t : Tree) (l : Loaded) (command : Command) (mark given : List ℕ) (result : Result Step CommitFault) → command ≡ Unmark mark → given ≡ mark → GivesStep result (planned l (unmark_of l given)) → ComesTo t l command result
unmark-comes t l command mark given result is same_mark comes = subst (λ (x : Command). ComesTo t l x result) (sym is) (subst (λ (x : List ℕ). GivesStep result (planned l (unmark_of l x))) same_mark comes)

-- what was read is refused
pub refusal-told : (seen : Option (List Op)) (start : Tree) (command : Command) (refusal : ReadAnswer) → IfSome seen (λ log. Gives is_of_outside view_store (Err refusal) (loaded_in (after_all log start))) → IfSome seen (λ log. Plans command (after_all log start) (Err (Unread refusal)))
refusal-told None start command refusal h = tt
refusal-told (Some log) start command refusal h = is_unread refusal h
