use Rattle.std.proofs.Common.{Err, refl, sym, ◌∙◌, ap, subst}
use Rattle.hgs_commit.specs.Known.{AreKept}
use Rattle.hgs_files.specs.Tree.{after_all}
use Rattle.hgs_overlay.specs.Layers.{laid_ops}
use Rattle.hgs_steps.specs.declared.fault.PlanFault.TheVariants.{Memory}
use Rattle.hgs_commit.specs.declared.fault.CommitFault.TheVariants.{Refused}
use Rattle.hgs_writer.specs.Joined.{lays}
use Rattle.hgs_writer.specs.Layered.{Lays, LaysRecord}
use Rattle.hgs_writer.proofs.KnownLemmas.{record-known}
use Rattle.hgs_writer.proofs.OverLemmas.{under-layers}
use Rattle.hgs_writer.proofs.PlanLemmas.{always-at-rest}
use Rattle.hgs_writer.proofs.RecordsLaid.{record-laid, record-refused}
use Rattle.hgs_writer.proofs.import.record.Goals as goal

pub returns-in-Err-clause-comes : goal.returns-in-Err-clause-comes
returns-in-Err-clause-comes g c =
    let was = c.args.overlay.now in
    let now = c.commit_knowing.new.files in
    record-refused g.R.Reads.alone (g.R.Reads.seen was.files) (g.R.Reads.seen now.files) was.layers now.layers now.layers (g.R.Reads.start now.files) c.args.loaded.now c.args.change.now c.in-Err.fault
    (λ alone. now.same_seen alone ∙ sym (was.same_seen alone)) c.in-Err.ensures.still c.in-Err.ensures.found

pub returns-in-Err-lay_all-clause-comes : goal.returns-in-Err-lay_all-clause-comes
returns-in-Err-lay_all-clause-comes g c =
    let last = c.lay_all.new.overlay in
    always-at-rest g.R.Reads.alone (g.R.Reads.seen last.files) (g.R.Reads.start last.files) (λ t. LaysRecord (after_all (laid_ops c.args.overlay.now.layers) t) c.args.loaded.now c.args.change.now c.args.overlay.now.layers last.layers (Err (Refused Memory))) (λ t. tt)

pub returns-in-Ok-lay_all-clause-comes : goal.returns-in-Ok-lay_all-clause-comes
returns-in-Ok-lay_all-clause-comes g c =
    let was = c.args.overlay.now in
    let now = c.commit_knowing.new.files in
    let last = c.lay_all.new.overlay in
    record-laid g.R.Reads.alone (g.R.Reads.seen was.files) (g.R.Reads.seen now.files) (g.R.Reads.seen last.files) was.layers now.layers last.layers (g.R.Reads.start now.files) (g.R.Reads.start last.files) c.args.loaded.now c.args.change.now c.in-Ok.step (record { rev = c.in-Ok.step.rev; node = c.in-Ok.step.node })
    c.operations_tell_layers.ensures
    (λ alone. now.same_seen alone ∙ sym (was.same_seen alone)) c.in-Ok.ensures.still c.in-Ok.ensures.found c.in-Ok.ensures.parts (subst (λ p. Lays now.layers last.layers (lays p)) c.in_ok-parts.ensures.same c.in-Ok-lay_all.ensures.lays) refl
    (ap g.R.Reads.seen c.in-Ok-lay_all.ensures.files) (ap g.R.Reads.start c.in-Ok-lay_all.ensures.files)

pub commit_knowing-requires-clause-known : goal.commit_knowing-requires-clause-known
commit_knowing-requires-clause-known g c =
    let was = c.args.overlay.now in
    under-layers g.R.Reads.alone (g.R.Reads.seen was.files) (laid_ops was.layers) (g.R.Reads.start was.files) (λ t. AreKept t c.args.known.now) c.requires.known

pub returns-in-Ok-lay_all-clause-known : goal.returns-in-Ok-lay_all-clause-known
returns-in-Ok-lay_all-clause-known g c =
    let was = c.args.overlay.now in
    let now = c.commit_knowing.new.files in
    let last = c.lay_all.new.overlay in
    record-known c.filelogs_have_their_own_names.ensures.file g.R.Reads.alone (g.R.Reads.seen was.files) (g.R.Reads.seen now.files) (g.R.Reads.seen last.files) was.layers now.layers last.layers (g.R.Reads.start now.files) (g.R.Reads.start last.files)
    c.args.loaded.now.changelog c.in-Ok.step.parts c.commit_knowing.new.known c.turned.new.known
    (λ alone. now.same_seen alone ∙ sym (was.same_seen alone)) c.in-Ok.ensures.still c.in-Ok.ensures.known c.in-Ok.ensures.parts c.in_ok-parts.ensures.known
    (subst (λ p. Lays now.layers last.layers (lays p)) c.in_ok-parts.ensures.same c.in-Ok-lay_all.ensures.lays)
    (ap g.R.Reads.seen c.in-Ok-lay_all.ensures.files) (ap g.R.Reads.start c.in-Ok-lay_all.ensures.files)
