use Rattle.std.proofs.Common.{◌≡◌, ◌∷◌, [], Ok, Err, refl, sym, ◌∙◌, ap, subst}
use Rattle.hgs_commit.specs.Known.{AreKept}
use Rattle.hgs_files.specs.Tree.{Tree, after_all}
use Rattle.hgs_overlay.specs.Layers.{laid_ops}
use Rattle.hgs_writer.specs.Layered.{LaysAll, LaysMore, LaysRecord}
use Rattle.hgs_writer.proofs.OverLemmas.{both-at-rest}
use Rattle.hgs_writer.proofs.PlanLemmas.{always-at-rest, at-rest}
use Rattle.hgs_writer.proofs.RecordsLaid.{all-laid, first-refused}
use Rattle.hgs_writer.proofs.import.records.Goals as goal

pub returns-clause-comes : goal.returns-clause-comes
returns-clause-comes g c =
    let split : c.args.changes.now ≡ c.in-Some.first.now ∷ c.in-Some.rest.now = c.in-Some.ensures.cases.0 in
    let was = c.args.overlay.now in
    let now = c.record.new.overlay in
    at-rest g.R.Reads.alone (g.R.Reads.seen now.files) (g.R.Reads.start now.files)
    (λ t. LaysRecord (after_all (laid_ops was.layers) t) c.args.loaded c.in-Some.first.now was.layers now.layers (Err c.in-Err.fault)) (λ t. LaysAll (after_all (laid_ops was.layers) t) c.args.loaded c.args.changes.now was.layers now.layers (Err c.in-Err.fault))
    (λ t h. first-refused t c.args.loaded c.args.changes.now c.in-Some.rest.now c.in-Some.first.now was.layers now.layers c.in-Err.fault split h)
    c.in-Err.ensures.comes

pub returns-in-Ok-clause-comes : goal.returns-in-Ok-clause-comes
returns-in-Ok-clause-comes g c =
    let split : c.args.changes.now ≡ c.in-Some.first.now ∷ c.in-Some.rest.now = c.in-Some.ensures.cases.0 in
    let was = c.args.overlay.now in
    let now = c.record.new.overlay in
    let last = c.more_records.new.overlay in
    both-at-rest g.R.Reads.alone (g.R.Reads.seen now.files) (g.R.Reads.seen last.files) (g.R.Reads.start now.files) (g.R.Reads.start last.files)
    (λ t. LaysRecord (after_all (laid_ops was.layers) t) c.args.loaded c.in-Some.first.now was.layers now.layers (Ok c.in-Ok.last)) (λ t. LaysMore (after_all (laid_ops now.layers) t) c.in-Some.rest.now c.in-Ok.last now.layers last.layers c.more_records.result) (λ t. LaysAll (after_all (laid_ops was.layers) t) c.args.loaded c.args.changes.now was.layers last.layers c.more_records.result)
    c.more_records.ensures.still c.more_records.ensures.same_start
    (λ t h k. all-laid t c.args.loaded c.args.changes.now c.in-Some.rest.now c.in-Some.first.now c.in-Ok.last was.layers now.layers last.layers c.more_records.result split h k)
    c.in-Ok.ensures.comes c.more_records.ensures.comes

pub record-requires-clause-known : goal.record-requires-clause-known
record-requires-clause-known g c =
    let was = c.args.overlay.now in
    always-at-rest g.R.Reads.alone (g.R.Reads.seen was.files) (g.R.Reads.start was.files) (λ t. AreKept (after_all (laid_ops was.layers) t) c.none-known.result) (λ t. c.none-known.ensures (after_all (laid_ops was.layers) t))
