use Rattle.hgs_writer.proofs.FollowLemmas.{Laws, refused-import}
use Rattle.hgs_writer.proofs.ImportsAgree.{import-answers}
use Rattle.hgs_writer.proofs.ImportPartsLemmas.{LaidLaws}
use Rattle.hgs_writer.proofs.import_laws.imports_agree.Goals as goal

pub returns : goal.returns
returns c = record {
  agree = λ t r l changes result s h valid bytes lists comes. import-answers laws laid_laws c.records_laid_are_an_import.ensures.ready t r l changes result s h valid bytes lists comes;
  refused = λ t r changes e why. refused-import laws t r changes e why;
}
  where
    laws : Laws
    laws = record {
      committed = c.commits_agree.ensures;
      stands = c.records_laid_are_an_import.ensures.stands;
      lists = c.laid_commits_keep_lists.ensures;
      loads = c.standing_trees_are_read.ensures;
      one = c.imports_are_commits.ensures.one;
      more = c.imports_are_commits.ensures.more;
      refused = c.imports_are_commits.ensures.refused;
    }

    laid_laws : LaidLaws
    laid_laws = record {
      appends = c.records_laid_append_and_change_roots.ensures.laid;
      growth_is = c.records_laid_are_an_import.ensures.growth;
      entries = c.records_laid_are_an_import.ensures.entries;
      roots = c.records_laid_are_an_import.ensures.roots;
      dirstate = c.records_laid_are_an_import.ensures.dirstate;
      bookmarks = c.records_laid_are_an_import.ensures.bookmarks;
      changing = c.records_laid_append_and_change_roots.ensures.roots;
      paths = c.records_laid_name_new_filelogs.ensures.paths;
      names = c.records_laid_name_new_filelogs.ensures.names;
    }
