use Rattle.hgs_shown.proofs.NameLemmas.{same-names}
use Rattle.hgs_shown.proofs.laws.names_name_the_same.Goals as goal

pub returns : goal.returns
returns c = same-names c.laws_below.ensures
