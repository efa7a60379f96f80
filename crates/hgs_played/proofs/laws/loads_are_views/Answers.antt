use Rattle.hgs_played.proofs.Viewing.{Beside, rise, views}
use Rattle.hgs_played.proofs.laws.loads_are_views.Goals as goal

pub returns : goal.returns
returns c =
    let l : Beside = record { opened = c.loads_beside_writers.ensures.opened; refreshed = c.loads_beside_writers.ensures.refreshed } in
    record {
      views = λ h first last view within. views l h within first last view;
      rise = λ h began ended first last old y within. rise l h within began ended first last old y;
    }
