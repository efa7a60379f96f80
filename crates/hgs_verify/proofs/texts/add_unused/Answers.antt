use Rattle.std.proofs.Common.{◌≡◌, ◌++◌, ◌+◌, take, sym, ◌∙◌, ap, arith}
use Rattle.std.specs.Prelude.{Some, slice_get}
use Rattle.std.proofs.lemmas.Option.{slice_get-get_or}
use Rattle.hgs_judge.specs.Report.{findings_in}
use Rattle.hgs_verify.specs.Report.{of_all_unused, of_unused}
use Rattle.hgs_verify.proofs.FileLemmas.{two-looks}
use Rattle.hgs_verify.proofs.TextLemmas.{unused-on}
use Rattle.hgs_verify.proofs.texts.add_unused.Goals as goal

pub loop-path-preserved : goal.loop-path-preserved
loop-path-preserved g c =
    let i = c.loop-path.invariant in
    let one = c.in_ok-add_unused_file.ensures in
    let n = c.loop-path.path-index in
    let item = c.path-item.result in
    let old = findings_in c.args.into.now.items in
    let now = findings_in c.loop-path.into.items in
    let new = findings_in c.add_unused_file.new.into.items in
    let at : slice_get c.args.unused.now n ≡ Some item = slice_get-get_or c.args.unused.now n item c.loop-path-test.true ∙ ap Some (sym c.path-item.is) in
    record {
      added = λ alone.
          two-looks (g.R.Reads.seen c.loop-path.files) (g.R.Reads.seen c.add_unused_file.new.files) (g.R.Reads.start c.loop-path.files) (g.R.Reads.start c.add_unused_file.new.files)
          (λ t. now ≡ old ++ of_all_unused t (take n c.args.unused.now)) (λ t. new ≡ now ++ of_unused t item) (λ t. new ≡ old ++ of_all_unused t (take (n + 1) c.args.unused.now))
          (one.still alone) one.same_start (λ t p q. unused-on t c.args.unused.now n item old now new at p q) (i.added alone) (one.added alone);
      same_start = one.same_start ∙ i.same_start;
      still = λ alone. one.still alone ∙ i.still alone;
      later = (let a = i.later in let b = one.cause.later in omega (arith, a, b));
      refused = (let a = i.refused in let b = one.cause.refused in omega (arith, a, b));
    }
