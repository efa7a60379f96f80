-- A command that words and input give is valid.
use Rattle.std.proofs.Common.{◌≡◌, ℕ, List, Option, Some, None, Result, Ok, subst, sym}
use Rattle.std.specs.Prelude.{IfOk}
use Rattle.hgs_input.specs.Import.{read_import}
use Rattle.hgs_input.specs.Read.{read_record}
use Rattle.hgs_model.specs.Valid.{AreNewChanges, IsNewChange, IsValid}
use Rattle.hgs_model.specs.declared.command.Command.{Command}
use Rattle.hgs_model.specs.declared.command.NewChange.{NewChange}
use Rattle.hgs_top.specs.Histories.{IsTold}
use Rattle.hgs_top.specs.Orders.{IsCommandOf}
use Rattle.hgs_top.specs.Words.{Job, do_init, do_commit, do_import, do_recover, do_move, do_mark, do_unmark, Request, to_do, request_of_words}
use Rattle.hgs_top.proofs.FitLemmas.{IsFitJob, IsFitRequest, request-fits}

fit-job : (r : Result Request ℕ) (job : Job) → IfOk r IsFitRequest → r ≡ Ok (to_do job) → IsFitJob job
fit-job r job h e = subst (λ (x : Result Request ℕ). IfOk x IsFitRequest) e h

-- what is read as a record, or as those of an import, can be asked for
pub record AreValid : Type 0 where
  pub records : (bytes : List ℕ) (c : NewChange) → read_record bytes ≡ Ok c → IsNewChange c
  pub imports : (bytes : List ℕ) (changes : List NewChange) → read_import bytes ≡ Ok changes → AreNewChanges changes

valid-job : AreValid → (job : Job) (left : Option (List ℕ)) (command : Command) → IsFitJob job → IsTold job left → IsCommandOf job left command → IsValid command
valid-job valid do_init left command fit told is = absurd is
valid-job valid do_commit None command fit told is = absurd (cc told)
valid-job valid do_commit (Some bytes) command fit told is = subst IsValid (sym is.1) (valid.records bytes is.0 is.2)
valid-job valid do_import None command fit told is = absurd (cc told)
valid-job valid do_import (Some bytes) command fit told is = subst IsValid (sym is.1) (valid.imports bytes is.0 is.2)
valid-job valid do_recover left command fit told is = absurd is
valid-job valid (do_move rev phase force) left command fit told is = subst IsValid (sym is) tt
valid-job valid (do_mark name rev) left command fit told is = subst IsValid (sym is) fit
valid-job valid (do_unmark name) left command fit told is = subst IsValid (sym is) tt

pub command-valid : AreValid → (words : List (List ℕ)) (job : Job) (left : Option (List ℕ)) (command : Command) → request_of_words words ≡ Ok (to_do job) → IsTold job left → IsCommandOf job left command → IsValid command
command-valid valid words job left command e told is = valid-job valid job left command (fit-job (request_of_words words) job (request-fits words) e) told is
