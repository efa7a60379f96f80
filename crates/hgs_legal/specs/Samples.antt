-- Writers that make a first changeset, by a commit and by an import.
use Rattle.std.specs.Prelude.{ℕ, List, [], ◌∷◌}
use Rattle.hgs_model.specs.declared.command.Command.TheVariants.{Commit, Import}
use Rattle.hgs_model.specs.Repo.{empty_repo}
use Rattle.hgs_model.specs.Step.{answer_at}
use Rattle.hgs_ops.specs.Operations.{transaction_of}
use Rattle.hgs_ops.specs.Samples.{bare, first_change, one_draft}
use Rattle.hgs_legal.specs.LegalLog.{Turn}

abbrev pub first_turn : List ℕ → Turn
first_turn who = record {
  who = who;
  command = Commit first_change;
  first = empty_repo;
  next = one_draft;
  answer = answer_at one_draft 0;
  ops = transaction_of bare empty_repo (Commit first_change) who one_draft;
}

abbrev pub import_turn : List ℕ → Turn
import_turn who = record {
  who = who;
  command = Import (first_change ∷ []);
  first = empty_repo;
  next = one_draft;
  answer = answer_at one_draft 0;
  ops = transaction_of bare empty_repo (Import (first_change ∷ [])) who one_draft;
}
