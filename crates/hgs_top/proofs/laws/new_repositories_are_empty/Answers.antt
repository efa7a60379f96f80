use Rattle.hgs_top.proofs.NewLemmas.{new-made, new-stops}
use Rattle.hgs_top.proofs.laws.new_repositories_are_empty.Goals as goal

pub returns : goal.returns
returns c = record {
  made = new-made c.requires_alone.ensures c.new_repositories_list_paths.ensures.empty;
  stops = new-stops c.requires_alone.ensures c.new_repositories_list_paths.ensures.empty;
}
