use Rattle.std.proofs.Common.{◌≡◌, Ok, Err, sym, ap, ◌∙◌}
use Rattle.hgs_files.specs.Tree.{Tree, after_all}
use Rattle.hgs_overlay.specs.Layers.{laid_ops}
use Rattle.hgs_writer.specs.Joined.{joined_paths}
use Rattle.hgs_writer.specs.Layered.{IsOr, LaysAll, parts_over}
use Rattle.hgs_writer.specs.Records.{ImportComesTo}
use Rattle.hgs_writer.proofs.ImportLemmas.{import-is, import-refused}
use Rattle.hgs_writer.proofs.OverLemmas.{both-at-rest}
use Rattle.hgs_writer.proofs.PlanLemmas.{at-rest}
use Rattle.hgs_writer.proofs.RecordsLaid.{rest-same}
use Rattle.hgs_writer.proofs.import.import_over.Goals as goal

pub returns-in-Ok-clause-comes : goal.returns-in-Ok-clause-comes
returns-in-Ok-clause-comes g c =
    let asked = c.args.asked in
    let old = c.new-overlay.result.layers in
    let was = c.records-planned.new.overlay in
    let layers = c.into_parts-files.result.1 in
    let now = c.joined_step-step.new.files in
    let result = c.joined_step-step.result in
    let one = c.joined_step-step.ensures in
    both-at-rest g.R.Reads.alone (g.R.Reads.seen was.files) (g.R.Reads.seen now) (g.R.Reads.start was.files) (g.R.Reads.start now)
    (λ t. LaysAll (after_all (laid_ops old) t) asked.loaded asked.changes.now old was.layers (Ok c.in-Ok.last)) (λ t. IsOr (λ step. step.parts ≡ parts_over t asked.standing (joined_paths asked.changes.now) layers) result) (λ t. ImportComesTo t asked.loaded asked.changes.now result)
    (λ alone. one.still alone ∙ ap g.R.Reads.seen c.into_parts-files.ensures.files) (one.same_start ∙ ap g.R.Reads.start c.into_parts-files.ensures.files)
    (λ t laid joined. import-is c.layers_cover_files.ensures t asked.loaded asked.standing asked.changes.now old was.layers layers c.in-Ok.last result c.new-overlay.ensures.ops c.new-overlay.ensures.at c.requires.standing c.into_parts-files.ensures.layers laid joined one.rev one.node)
    c.in-Ok.ensures.comes one.found

pub returns-in-Err-clause-comes : goal.returns-in-Err-clause-comes
returns-in-Err-clause-comes g c =
    let asked = c.args.asked in
    let old = c.new-overlay.result.layers in
    let was = c.records-planned.new.overlay in
    let files = c.into_parts-files.result.0 in
    let fault = c.in-Err.fault in
    rest-same g.R.Reads.alone (g.R.Reads.seen was.files) (g.R.Reads.seen files) (g.R.Reads.start was.files) (g.R.Reads.start files) (λ t. ImportComesTo t asked.loaded asked.changes.now (Err fault))
    (ap g.R.Reads.seen c.into_parts-files.ensures.files) (ap g.R.Reads.start c.into_parts-files.ensures.files)
    (at-rest g.R.Reads.alone (g.R.Reads.seen was.files) (g.R.Reads.start was.files)
    (λ t. LaysAll (after_all (laid_ops old) t) asked.loaded asked.changes.now old was.layers (Err fault)) (λ t. ImportComesTo t asked.loaded asked.changes.now (Err fault))
    (λ t h. import-refused t asked.loaded asked.changes.now old was.layers fault c.new-overlay.ensures.ops h) c.in-Err.ensures.comes)
