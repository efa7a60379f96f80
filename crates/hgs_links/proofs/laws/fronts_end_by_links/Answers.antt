use Rattle.hgs_links.proofs.Ending.{ends-by-link}
use Rattle.hgs_links.proofs.laws.fronts_end_by_links.Goals as goal

pub returns : goal.returns
returns c = ends-by-link
