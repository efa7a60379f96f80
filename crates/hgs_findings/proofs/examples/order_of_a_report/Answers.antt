use Rattle.std.proofs.Common.{refl}
use Rattle.hgs_findings.proofs.examples.order_of_a_report.Goals as goal

pub returns-clause-rises : goal.returns-clause-rises
returns-clause-rises c = refl

pub returns-clause-by_path : goal.returns-clause-by_path
returns-clause-by_path c = refl

pub returns-clause-by_revision : goal.returns-clause-by_revision
returns-clause-by_revision c = refl

pub returns-clause-none_first : goal.returns-clause-none_first
returns-clause-none_first c = refl

pub returns-clause-by_kind : goal.returns-clause-by_kind
returns-clause-by_kind c = refl

pub returns-clause-once : goal.returns-clause-once
returns-clause-once c = refl
