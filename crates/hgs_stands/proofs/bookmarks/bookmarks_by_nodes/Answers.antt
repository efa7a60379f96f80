use Rattle.hgs_stands.proofs.BookmarkLemmas.{set-by-nodes, deleted-by-nodes}
use Rattle.hgs_stands.proofs.bookmarks.bookmarks_by_nodes.Goals as goal

pub returns-clause-set : goal.returns-clause-set
returns-clause-set c = set-by-nodes

pub returns-clause-deleted : goal.returns-clause-deleted
returns-clause-deleted c = deleted-by-nodes
