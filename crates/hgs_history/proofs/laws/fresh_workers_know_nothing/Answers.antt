use Rattle.std.proofs.Common.{List, [], ◌∙◌, sym, subst}
use Rattle.std.specs.Prelude.{IfSome, Option, ◌≡◌, Some}
use Rattle.hgs_history.specs.Beside.{IsKnown}
use Rattle.hgs_files.specs.declared.op.Op.{Op}
use Rattle.hgs_load.specs.View.{View}
use Rattle.hgs_history.proofs.laws.fresh_workers_know_nothing.Goals as goal

pub returns : goal.returns
returns c = λ h x p v begins told fresh.
    let seen = subst (λ (o : Option (List Op)). IfSome o (λ log. (p.seen ≡ Some []) × (p.told ≡ []) × (p.start ≡ x.start))) told fresh.seen in
    record {
      seen = [];
      seen_is = seen.0;
      start = seen.2 ∙ sym begins;
      view = subst (λ (o : Option View). IfSome o (IsKnown h [] v)) (sym fresh.view) tt;
    }
