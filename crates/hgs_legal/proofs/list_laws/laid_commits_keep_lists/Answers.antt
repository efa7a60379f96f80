use Rattle.hgs_legal.proofs.ListLaid.{laid-lists}
use Rattle.hgs_legal.proofs.list_laws.laid_commits_keep_lists.Goals as goal

pub returns : goal.returns
returns c = laid-lists c.records_laid_append_and_change_roots.ensures.bytes
