use Rattle.std.proofs.Common.{[], ◌∙◌, ap}
use Rattle.std.specs.Prelude.{unwrap_or, option_map}
use Rattle.hgs_bytes.specs.Bytes.{among}
use Rattle.hgs_findings.specs.Sight.{row_paths}
use Rattle.hgs_judge.proofs.SearchLemmas.{row-among}
use Rattle.hgs_judge.proofs.paths.is_in.Goals as goal

pub returns-in-Some-place_near : goal.returns-in-Some-place_near
returns-in-Some-place_near c = λ e.
    ap (λ o. among c.args.path.now (row_paths (unwrap_or (option_map (λ m. m.now) o) []))) c.in-Some.is
    ∙ row-among c.in-Some.rows.now c.args.path.now c.in-Some-place_near.at c.in-Some-place_near.ensures.stands
