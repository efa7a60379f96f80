use Rattle.std.proofs.Common.{sym}
use Rattle.hgs_ops.proofs.RecordLemmas.{Laws, records-import}
use Rattle.hgs_ops.proofs.RecordNames.{records-names, records-paths}
use Rattle.hgs_ops.proofs.laws.records_laid_name_new_filelogs.Goals as goal

pub returns : goal.returns
returns c = record {
  paths = λ t r records is all. records-paths t r records is all;
  names = λ t r x records path s valid all e. sym (records-names t r x records s valid (records-import laws t r x records s valid all) path e);
}
  where
    laws : Laws
    laws = record { loose = c.other_files_do_not_matter.ensures.loose; one = c.imports_are_commits.ensures.one; more = c.imports_are_commits.ensures.more }
