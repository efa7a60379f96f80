use Rattle.std.proofs.Common.{◌≡◌, ◌∷◌, Ok, Err, refl, ◌∙◌, subst, arith}
use Rattle.std.specs.List.{AllByRecursion}
use Rattle.hgs_files.specs.Tree.{after_all}
use Rattle.hgs_loading.specs.Store.{HaveGrown, view_logs}
use Rattle.hgs_model.specs.Valid.{IsNewChange}
use Rattle.hgs_overlay.specs.Layers.{laid_ops}
use Rattle.hgs_writer.specs.Layered.{LaysMore, LaysNext}
use Rattle.hgs_writer.proofs.OwnedLoops.{nothing-left}
use Rattle.hgs_writer.proofs.OverLemmas.{both-at-rest}
use Rattle.hgs_writer.proofs.PlanLemmas.{always-at-rest, at-rest}
use Rattle.hgs_writer.proofs.RecordsLaid.{Goes, goes-begin, goes-end, goes-on, goes-out}
use Rattle.hgs_writer.proofs.import.more_records.Goals as goal

pub loop-change-init : goal.loop-change-init
loop-change-init g c =
    let old = c.args.overlay.now.layers in
    record {
      valid = c.requires.valid;
      goes = always-at-rest g.R.Reads.alone (g.R.Reads.seen c.args.overlay.now.files) (g.R.Reads.start c.args.overlay.now.files) (λ t. Goes t c.args.changes.now c.args.first c.args.changes.now c.args.first old old) (λ t. goes-begin t c.args.changes.now c.args.first old);
      changelog = c.none-logs.ensures.entries.0;
      manifest = c.none-logs.ensures.entries.1;
      grown = always-at-rest g.R.Reads.alone (g.R.Reads.seen c.args.overlay.now.files) (g.R.Reads.start c.args.overlay.now.files) (λ t. HaveGrown (view_logs c.none-logs.result) (after_all (laid_ops old) t)) (λ t. c.none-logs.ensures.grown (after_all (laid_ops old) t));
      known = c.requires.known;
      same_start = refl;
      still = λ alone. refl;
      later = omega arith;
    }

pub loop-change-preserved : goal.loop-change-preserved
loop-change-preserved g c =
    let i = c.loop-change.invariant in
    let split : c.loop-change.rest.now ≡ c.in-Some.change.now ∷ c.in-Some.behind.now = c.in-Some.ensures.cases.0 in
    let one = c.in-Ok.ensures in
    let old = c.args.overlay.now.layers in
    let now = c.loop-change.overlay.layers in
    let new = c.next_record.new.overlay.layers in
    let before = i.later in
    let later = one.later in
    record {
      valid = (subst (AllByRecursion IsNewChange) split i.valid).1;
      goes =
          both-at-rest g.R.Reads.alone (g.R.Reads.seen c.loop-change.overlay.files) (g.R.Reads.seen c.next_record.new.overlay.files) (g.R.Reads.start c.loop-change.overlay.files) (g.R.Reads.start c.next_record.new.overlay.files)
          (λ t. Goes t c.args.changes.now c.args.first c.loop-change.rest.now c.loop-change.last old now) (λ t. LaysNext (after_all (laid_ops now) t) c.in-Some.change.now now new (Ok c.in-Ok.last)) (λ t. Goes t c.args.changes.now c.args.first c.in-Some.behind.now c.in-Ok.last old new)
          one.still one.same_start
          (λ t goes next. goes-on t c.args.changes.now c.loop-change.rest.now c.in-Some.behind.now c.in-Some.change.now c.args.first c.loop-change.last c.in-Ok.last old now new split goes next)
          i.goes one.comes;
      changelog = one.changelog;
      manifest = one.manifest;
      grown = one.grown;
      known = one.known;
      same_start = one.same_start ∙ i.same_start;
      still = λ alone. one.still alone ∙ i.still alone;
      later = omega arith;
    }

pub returns-in-Err-clause-comes : goal.returns-in-Err-clause-comes
returns-in-Err-clause-comes g c =
    let i = c.loop-change.invariant in
    let split : c.loop-change.rest.now ≡ c.in-Some.change.now ∷ c.in-Some.behind.now = c.in-Some.ensures.cases.0 in
    let one = c.in-Err.ensures in
    let old = c.args.overlay.now.layers in
    let now = c.loop-change.overlay.layers in
    let new = c.next_record.new.overlay.layers in
    both-at-rest g.R.Reads.alone (g.R.Reads.seen c.loop-change.overlay.files) (g.R.Reads.seen c.next_record.new.overlay.files) (g.R.Reads.start c.loop-change.overlay.files) (g.R.Reads.start c.next_record.new.overlay.files)
    (λ t. Goes t c.args.changes.now c.args.first c.loop-change.rest.now c.loop-change.last old now) (λ t. LaysNext (after_all (laid_ops now) t) c.in-Some.change.now now new (Err c.in-Err.fault)) (λ t. LaysMore (after_all (laid_ops old) t) c.args.changes.now c.args.first old new (Err c.in-Err.fault))
    one.still one.same_start
    (λ t goes next. goes-out t c.args.changes.now c.loop-change.rest.now c.in-Some.behind.now c.in-Some.change.now c.args.first c.loop-change.last old now new c.in-Err.fault split goes next)
    i.goes one.comes

pub returns-clause-comes : goal.returns-clause-comes
returns-clause-comes g c =
    let i = c.loop-change.invariant in
    let now = c.loop-change.overlay.layers in
    let old = c.args.overlay.now.layers in
    at-rest g.R.Reads.alone (g.R.Reads.seen c.loop-change.overlay.files) (g.R.Reads.start c.loop-change.overlay.files)
    (λ t. Goes t c.args.changes.now c.args.first c.loop-change.rest.now c.loop-change.last old now) (λ t. LaysMore (after_all (laid_ops old) t) c.args.changes.now c.args.first old now (Ok c.loop-change.last))
    (λ t goes. goes-end t c.args.changes.now c.loop-change.rest.now c.args.first c.loop-change.last old now (nothing-left c.loop-change.rest.now c.in_default.ensures.cases) goes)
    i.goes
