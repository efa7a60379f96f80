use Rattle.std.proofs.Common.{◌≡◌, [], length, ap, arith}
use Rattle.hgs_judge.specs.Read.{revisions_in}
use Rattle.hgs_judge.proofs.WordLemmas.{heard-count}
use Rattle.hgs_judge.proofs.path.judge_reading.Goals as goal

pub judge-requires-clause-few : goal.judge-requires-clause-few
judge-requires-clause-few c =
    let is : length c.deref-3.result.now ≡ length c.in_ok-namings.field-0.namings.items = ap length c.deref-3.ensures.value in
    let count = heard-count (revisions_in c.args.reading.now.log.entries c.args.data_bytes.now) c.args.words.now c.in_ok-namings.field-0 (c.in_ok-namings.ensures []) in
    let few = c.requires.few in
    omega (arith, is, count, few)
