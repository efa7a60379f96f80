use Rattle.hgs_ops.proofs.LaidBytes.{laid-appends, records-append}
use Rattle.hgs_ops.proofs.RecordLemmas.{Laws, records-import}
use Rattle.hgs_ops.proofs.SmallBehind.{records-roots}
use Rattle.hgs_ops.proofs.laws.records_laid_append_and_change_roots.Goals as goal

pub returns : goal.returns
returns c = record {
  laid = λ t r next n path. laid-appends path t r next n;
  bytes = λ t r records path apart. records-append path apart t r records;
  appends = λ t r x records path s valid all. (records-import laws t r x records s valid all).appends path;
  roots = λ t r records s all. records-roots laws t r records s all;
}
  where
    laws : Laws
    laws = record { loose = c.other_files_do_not_matter.ensures.loose; one = c.imports_are_commits.ensures.one; more = c.imports_are_commits.ensures.more }
