use Rattle.std.proofs.Common.{ℕ, List, refl, subst}
use Rattle.hgs_model.specs.Repo.{Repo, empty_repo}
use Rattle.hgs_ops.specs.Operations.{operations}
use Rattle.hgs_ops.specs.Samples.{bare}
use Rattle.hgs_legal.specs.LegalLog.{IsRun, IsTurn, State}
use Rattle.hgs_legal.specs.Samples.{import_turn}
use Rattle.hgs_legal.proofs.SampleLemmas.{broken, undone, whole}
use Rattle.hgs_legal.proofs.examples.first_import_as_a_log.Goals as goal

pub returns : goal.returns
returns c = record {
  turn = turn;
  legal = λ who r clean. subst (λ (q : Repo). (s : State) × IsRun bare q (operations (import_turn who).ops) s) (c.stands_for_one.ensures bare empty_repo r c.first_commit.ensures.stands clean.stands) (let p = whole (import_turn who) (turn who) in (p.0, p.1));
  whole = λ who. whole (import_turn who) (turn who);
  undone = λ who. undone (import_turn who) (turn who) _ refl;
  broken = λ who. broken (import_turn who) (turn who);
}
  where
    turn : (who : List ℕ) → IsTurn bare empty_repo (import_turn who)
    turn who = record { valid = c.first_import.ensures.valid; accepted = c.first_import.ensures.accepted; from = refl; listed = refl; ready = c.first_import.ensures.ready }
