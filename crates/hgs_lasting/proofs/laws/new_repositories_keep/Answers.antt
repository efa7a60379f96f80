use Rattle.std.proofs.Common.{inl}
use Rattle.hgs_model.specs.Repo.{empty_repo}
use Rattle.hgs_lasting.proofs.laws.new_repositories_keep.Goals as goal

pub returns : goal.returns
returns c = λ t profile files journal. (inl (c.requires_alone.ensures t profile files journal), c.new_repositories_list_paths.ensures.empty t empty_repo files.1.1.1.0)
