use Rattle.hgs_recalled.proofs.AlikeLemmas.{Contents, alike, answered}
use Rattle.hgs_recalled.proofs.laws.kept_texts_answer_alike.Goals as goal

pub returns : goal.returns
returns c x zero began ended first last v view rev change texts is opens reads loaded begins then_first on there were =
    let contents : Contents x last = λ began ended first v view rev change. c.contents_of_views.ensures x began ended first last v view rev change in
    alike x zero last is opens reads contents first view rev (x.repo v.read).changesets change on (answered x zero last is opens reads contents began ended first v view rev change begins loaded then_first on there) texts were
