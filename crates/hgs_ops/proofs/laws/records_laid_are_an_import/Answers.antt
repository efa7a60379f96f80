use Rattle.hgs_ops.proofs.RecordLemmas.{Laws, records-entries, records-growth, records-import}
use Rattle.hgs_ops.proofs.SmallBehind.{records-small}
use Rattle.hgs_ops.proofs.laws.records_laid_are_an_import.Goals as goal

pub returns : goal.returns
returns c = record {
  accepted = λ t r x records s valid all. let is = records-import laws t r x records s valid all in (is.answer, is.accepted);
  ready = λ t r x records s valid all. (records-import laws t r x records s valid all).ready;
  growth = λ t r x records s valid all. records-growth laws t r x records s valid (records-import laws t r x records s valid all);
  entries = λ t r x records s valid all. records-entries laws t r x records (records-import laws t r x records s valid all);
  roots = λ t r x records s valid all. (records-small laws t r x records s valid all).roots;
  dirstate = λ t r x records s valid all. (records-small laws t r x records s valid all).dirstate;
  bookmarks = λ t r x records s valid all. (records-small laws t r x records s valid all).bookmarks;
  stands = λ t r x records s valid all. (records-import laws t r x records s valid all).stands;
}
  where
    laws : Laws
    laws = record { loose = c.other_files_do_not_matter.ensures.loose; one = c.imports_are_commits.ensures.one; more = c.imports_are_commits.ensures.more }
