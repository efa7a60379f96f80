-- From wherever a legal log stops recovering leads back.
use Rattle.std.proofs.Common.{◌⊎◌, List, refl, inl, inr}
use Rattle.std.specs.Prelude.{Some, None}
use Rattle.hgs_files.specs.declared.op.Op.{Op}
use Rattle.hgs_files.specs.Tree.{Tree, after_all}
use Rattle.hgs_model.specs.Repo.{Repo}
use Rattle.hgs_stands.specs.Open.{IsOpen}
use Rattle.hgs_stands.specs.Stands.{Stands}
use Rattle.hgs_ops.specs.Operations.{strays}
use Rattle.hgs_legal.specs.LegalLog.{Doing, Idle, IsRun, Preparing, Published, Refused, State, Undoing, Working}
use Rattle.hgs_legal.specs.Numbers.{StopsAt, acknowledged_of, repo_at}
use Rattle.hgs_legal.specs.Recovers.{Recovers}
use Rattle.hgs_legal.proofs.Below.{Below}
use Rattle.hgs_legal.proofs.RunLemmas.{run-stops}

module _ (b : Below) where
  open-recovers : (u : Tree) (r : Repo) → IsOpen strays u r → Recovers u r
  open-recovers u r (q, c, s) =
      let lead = b.read strays u q c in
      record {
        journal = lead.0;
        backups = lead.1;
        reads = lead.2.reads;
        leads = b.restored strays _ q r refl (b.leads strays u q lead.0 lead.1 refl lead.2) s;
        parts = λ done left h. elim (b.parts strays u q lead.0 lead.1 done left refl lead.2 h) [
          | inl more ↦ inl (q, more.covers, s)
          | inr ends ↦ inr (ends.0, b.restored strays (after_all done u) q r refl ends.1 s)
        ];
      }

  stop-recovers : (d : Doing) (u : Tree) (r : Repo) → StopsAt d u r → Stands u r ⊎ Recovers u r
  stop-recovers (Idle None rest) u r s = inl s
  stop-recovers (Idle (Some left) rest) u r o = inr (open-recovers u r o)
  stop-recovers (Refused None creation rest) u r s = inl s
  stop-recovers (Refused (Some left) creation rest) u r o = inr (open-recovers u r o)
  stop-recovers (Preparing x left) u r s = inl s
  stop-recovers (Working x left) u r o = inr (open-recovers u r o)
  stop-recovers (Published x left) u r o = inr (open-recovers u r o)
  stop-recovers (Undoing left) u r o = inr (open-recovers u r o)

  pub run-recovers : (t : Tree) (r : Repo) (log : List Op) (s : State) → Stands t r → IsRun t r log s → Stands (after_all log t) (repo_at s (acknowledged_of s)) ⊎ Recovers (after_all log t) (repo_at s (acknowledged_of s))
  run-recovers t r log s stands run = stop-recovers s.doing (after_all log t) (repo_at s (acknowledged_of s)) (run-stops b t r log s stands run)
