use Rattle.std.proofs.Common.{rules}
use Rattle.std.proofs.lemmas.Iterator.{YieldsList-from_slice}
use Rattle.std.proofs.lemmas.Iterator.Search.{find_from_yields_List}
use Rattle.hgs_commit.specs.Commit.{is_over}
use Rattle.hgs_commit.proofs.commit.first_over.Goals as goal

pub returns : goal.returns
returns c = find_from_yields_List (is_over c.args.first.now c.args.second.now) _ _ _ c.find.ensures.ran (YieldsList-from_slice c.args.files.now cc) (λ x b q k. search rules)
