-- An accepted command keeps the changesets, and a commit or an import adds some.
use Rattle.std.proofs.Common.{◌≡◌, [], ◌∷◌, sym, ◌∙◌, ap, append-nil}
use Rattle.std.specs.Prelude.{Ok}
use Rattle.hgs_bytes.specs.Bytes.{IsPrefixOf}
use Rattle.hgs_model.specs.declared.command.Command.{Command}
use Rattle.hgs_model.specs.declared.command.Command.TheVariants.{Commit, Import, Move, Mark, Unmark}
use Rattle.hgs_model.specs.History.{history}
use Rattle.hgs_model.specs.IsRepo.{IsRepo}
use Rattle.hgs_model.specs.Phase.{phase_number}
use Rattle.hgs_model.specs.Repo.{Repo}
use Rattle.hgs_model.specs.Step.{Answer, new_changeset, step}
use Rattle.hgs_model.specs.Valid.{IsValid}
use Rattle.hgs_model.specs.Theorems.ImportLemmas.{import-gone}
use Rattle.hgs_model.specs.Theorems.NewChangesetLemmas.{step_commit-did}
use Rattle.hgs_model.specs.Theorems.StepLemmas.{step_mark-did, step_move-did, step_unmark-did}

pub goes-on : (r next : Repo) (command : Command) (answer : Answer) → IsRepo r → IsValid command → step r command ≡ Ok (next, answer) → IsPrefixOf r.changesets next.changesets
goes-on r next (Commit n) answer is valid e = let d = step_commit-did r n next answer is e in (new_changeset (history r.changesets) d.parents n ∷ [], ap (λ (q : Repo). q.changesets) d.is)
goes-on r next (Import changes) answer is valid e = (import-gone r changes (next, answer) valid.each e).changesets
goes-on r next (Move rev phase force) answer is valid e = ([], ap (λ (q : Repo). q.changesets) (step_move-did r rev (phase_number phase) force next answer is e).is ∙ sym (append-nil r.changesets))
goes-on r next (Mark name rev) answer is valid e = ([], ap (λ (q : Repo). q.changesets) (step_mark-did r name rev next answer is e).is ∙ sym (append-nil r.changesets))
goes-on r next (Unmark name) answer is valid e = ([], ap (λ (q : Repo). q.changesets) (step_unmark-did r name next answer e) ∙ sym (append-nil r.changesets))
