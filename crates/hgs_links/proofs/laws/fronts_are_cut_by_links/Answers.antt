use Rattle.hgs_index.specs.Inline.{index_apart}
use Rattle.hgs_links.proofs.Cells.{begun-whole, cut, told}
use Rattle.hgs_links.proofs.laws.fronts_are_cut_by_links.Goals as goal

pub returns-clause-cut : goal.returns-clause-cut
returns-clause-cut c front index data_bytes revisions changesets first held begins parted there = cut (index_apart front) revisions changesets first (told front index data_bytes revisions begins held) parted there

pub returns-clause-there : goal.returns-clause-there
returns-clause-there c = begun-whole
