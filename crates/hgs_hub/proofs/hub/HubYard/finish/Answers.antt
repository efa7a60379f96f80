use Rattle.std.proofs.Common.{◌≡◌, Some, ap, ◌∙◌}
use Rattle.hgs_hub.specs.Home.{home_of}
use Rattle.hgs_hub.specs.New.{Mark, mark_of}
use Rattle.hgs_hub.specs.Reader.{seen_by, tally_by, ties_by, ties_of}
use Rattle.hgs_hub.proofs.CloseLemmas.{all_zip, mark_there, still_there}
use Rattle.hgs_hub.proofs.HomeLemmas.{same_book}
use Rattle.hgs_hub.proofs.hub.HubYard.finish.Goals as goal

pub close-requires : goal.close-requires
close-requires g c k d lt = same_book _ _ (c.requires k d lt)

pub returns-in-Err-clause-same_readers : goal.returns-in-Err-clause-same_readers
returns-in-Err-clause-same_readers g c =
    all_zip mark_of (λ r s. (ties_by s ≡ ties_by r) × (Some (seen_by s) ≡ Some (seen_by r)) × ((tally_by s).faults ≡ (tally_by r).faults) × ((tally_by s).denied ≡ (tally_by r).denied))
    (λ r s e. (
      ap (λ (m : Mark). ties_of m.best.sure.book m.told) e,
      ap (λ (m : Mark). Some m.last.log.value.items) e,
      ap (λ (m : Mark). m.tally.faults) e,
      ap (λ (m : Mark). m.tally.denied) e,
    ))
    c.args.rs.items c.in-Err.ends.1.items c.in-Err.ensures.same_readers

pub returns-in-Err-clause-same_home : goal.returns-in-Err-clause-same_home
returns-in-Err-clause-same_home g c k d lt =
    let same = c.in-Err.ensures.same_readers in
    ap (λ (m : Mark). home_of m.best.sure.book) (mark_there c.args.rs.items c.in-Err.ends.1.items k same lt d)
    ∙ c.requires k d (still_there c.args.rs.items c.in-Err.ends.1.items k same lt)
