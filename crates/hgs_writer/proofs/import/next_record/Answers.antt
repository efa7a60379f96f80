use Rattle.std.proofs.Common.{◌≡◌, Ok, Err, sym, ◌∙◌, subst}
use Rattle.std.specs.Prelude.{⊤}
use Rattle.std.specs.Bool.{MatchBool}
use Rattle.hgs_files.specs.Tree.{after_all}
use Rattle.hgs_commit.specs.Commit.{AtRest}
use Rattle.hgs_commit.specs.declared.fault.CommitFault.TheVariants.{Unread}
use Rattle.hgs_load.specs.Answer.{is_of_outside}
use Rattle.hgs_loading.specs.Store.{HaveGrown, loaded_in, view_logs, view_store}
use Rattle.hgs_loading.specs.declared.store.Logs.{Logs}
use Rattle.hgs_overlay.specs.Layers.{laid_ops}
use Rattle.hgs_writer.specs.Layered.{LaysNext, LaysRecord}
use Rattle.hgs_writer.proofs.GrownLogs.{next-grown}
use Rattle.hgs_writer.proofs.KnownLemmas.{known-still}
use Rattle.hgs_writer.proofs.OverLemmas.{both-at-rest, found-over, under-layers}
use Rattle.hgs_writer.proofs.PlanLemmas.{at-rest}
use Rattle.hgs_writer.proofs.RecordsLaid.{next-laid, next-unread}
use Rattle.hgs_writer.proofs.import.next_record.Goals as goal

pub returns-in-Err-clause-comes : goal.returns-in-Err-clause-comes
returns-in-Err-clause-comes g c =
    let was = c.args.overlay.now in
    let now = c.history_on.new.files in
    let e = c.in-Err.refusal in
    at-rest g.R.Reads.alone (g.R.Reads.seen now.files) (g.R.Reads.start now.files)
    (λ t. MatchBool (is_of_outside e) ⊤ (loaded_in (after_all (laid_ops was.layers) t) ≡ Err e) × (laid_ops now.layers ≡ laid_ops was.layers)) (λ t. LaysNext (after_all (laid_ops was.layers) t) c.args.change.now was.layers now.layers (Err (Unread e)))
    (λ t h. next-unread (after_all (laid_ops was.layers) t) c.args.change.now was.layers now.layers e h.0)
    (found-over g.R.Reads.alone (g.R.Reads.seen was.files) (g.R.Reads.seen now.files) (laid_ops was.layers) (laid_ops now.layers) (g.R.Reads.start now.files) (λ t. MatchBool (is_of_outside e) ⊤ (loaded_in t ≡ Err e))
    (λ alone. now.same_seen alone ∙ sym (was.same_seen alone)) c.in-Err.ensures.still c.in-Err.ensures.found)

pub returns-in-Ok-record-clause-comes : goal.returns-in-Ok-record-clause-comes
returns-in-Ok-record-clause-comes g c =
    let was = c.args.overlay.now in
    let now = c.history_on.new.files in
    let last = c.record.new.overlay in
    let read = view_store c.in-Ok.store in
    let loaded = c.loaded_of-loaded.result in
    let n = c.args.change.now in
    both-at-rest g.R.Reads.alone (g.R.Reads.seen now.files) (g.R.Reads.seen last.files) (g.R.Reads.start now.files) (g.R.Reads.start last.files)
    (λ t. (loaded_in (after_all (laid_ops was.layers) t) ≡ Ok read) × (laid_ops now.layers ≡ laid_ops was.layers)) (λ t. LaysRecord (after_all (laid_ops now.layers) t) loaded n now.layers last.layers (Ok c.in-Ok-record.last)) (λ t. LaysNext (after_all (laid_ops was.layers) t) n was.layers last.layers (Ok c.in-Ok-record.last))
    c.in-Ok-record.ensures.still c.in-Ok-record.ensures.same_start
    (λ t h k. next-laid t read loaded n was.layers now.layers last.layers (Ok c.in-Ok-record.last) c.operations_tell_layers.ensures (λ u is. c.stores_are_loaded.ensures u read loaded is c.loaded_of-loaded.ensures) h k)
    (found-over g.R.Reads.alone (g.R.Reads.seen was.files) (g.R.Reads.seen now.files) (laid_ops was.layers) (laid_ops now.layers) (g.R.Reads.start now.files) (λ t. loaded_in t ≡ Ok read)
    (λ alone. now.same_seen alone ∙ sym (was.same_seen alone)) c.in-Ok.ensures.still c.in-Ok.ensures.found)
    c.in-Ok-record.ensures.comes

pub returns-in-Err-record-clause-comes : goal.returns-in-Err-record-clause-comes
returns-in-Err-record-clause-comes g c =
    let was = c.args.overlay.now in
    let now = c.history_on.new.files in
    let last = c.record.new.overlay in
    let read = view_store c.in-Ok.store in
    let loaded = c.loaded_of-loaded.result in
    let n = c.args.change.now in
    both-at-rest g.R.Reads.alone (g.R.Reads.seen now.files) (g.R.Reads.seen last.files) (g.R.Reads.start now.files) (g.R.Reads.start last.files)
    (λ t. (loaded_in (after_all (laid_ops was.layers) t) ≡ Ok read) × (laid_ops now.layers ≡ laid_ops was.layers)) (λ t. LaysRecord (after_all (laid_ops now.layers) t) loaded n now.layers last.layers (Err c.in-Err-record.fault)) (λ t. LaysNext (after_all (laid_ops was.layers) t) n was.layers last.layers (Err c.in-Err-record.fault))
    c.in-Err-record.ensures.still c.in-Err-record.ensures.same_start
    (λ t h k. next-laid t read loaded n was.layers now.layers last.layers (Err c.in-Err-record.fault) c.operations_tell_layers.ensures (λ u is. c.stores_are_loaded.ensures u read loaded is c.loaded_of-loaded.ensures) h k)
    (found-over g.R.Reads.alone (g.R.Reads.seen was.files) (g.R.Reads.seen now.files) (laid_ops was.layers) (laid_ops now.layers) (g.R.Reads.start now.files) (λ t. loaded_in t ≡ Ok read)
    (λ alone. now.same_seen alone ∙ sym (was.same_seen alone)) c.in-Ok.ensures.still c.in-Ok.ensures.found)
    c.in-Err-record.ensures.comes

pub record-requires-clause-known : goal.record-requires-clause-known
record-requires-clause-known g c =
    let was = c.args.overlay.now in
    let now = c.history_on.new.files in
    known-still g.R.Reads.alone (g.R.Reads.seen was.files) (g.R.Reads.seen now.files) was.layers now.layers (g.R.Reads.start was.files) (g.R.Reads.start now.files) c.args.known.now
    (λ alone. now.same_seen alone ∙ sym (was.same_seen alone)) c.in-Ok.ensures.still c.in-Ok.ensures.same_start c.requires.known

pub history_on-requires-clause-grown : goal.history_on-requires-clause-grown
history_on-requires-clause-grown g c =
    let was = c.args.overlay.now in
    under-layers g.R.Reads.alone (g.R.Reads.seen was.files) (laid_ops was.layers) (g.R.Reads.start was.files) (HaveGrown (view_logs c.replace-before.result))
    (subst (λ (l : Logs). AtRest g.R.Reads.alone (g.R.Reads.seen was.files) (g.R.Reads.start was.files) (λ t. HaveGrown (view_logs l) (after_all (laid_ops was.layers) t))) (sym c.replace-before.ensures.value) c.requires.grown)

pub returns-in-Ok-record-clause-grown : goal.returns-in-Ok-record-clause-grown
returns-in-Ok-record-clause-grown g c =
    let was = c.args.overlay.now in
    let now = c.history_on.new.files in
    let last = c.record.new.overlay in
    let read = view_store c.in-Ok.store in
    let loaded = c.loaded_of-loaded.result in
    let n = c.args.change.now in
    let logs = c.logs_of.result in
    both-at-rest g.R.Reads.alone (g.R.Reads.seen now.files) (g.R.Reads.seen last.files) (g.R.Reads.start now.files) (g.R.Reads.start last.files)
    (λ t. (loaded_in (after_all (laid_ops was.layers) t) ≡ Ok read) × (laid_ops now.layers ≡ laid_ops was.layers)) (λ t. LaysRecord (after_all (laid_ops now.layers) t) loaded n now.layers last.layers (Ok c.in-Ok-record.last)) (λ t. HaveGrown (view_logs logs) (after_all (laid_ops last.layers) t))
    c.in-Ok-record.ensures.still c.in-Ok-record.ensures.same_start
    (λ t h k. next-grown t read loaded n was.layers now.layers last.layers c.in-Ok-record.last logs.changelog logs.manifest (λ u is. c.stores_are_loaded.ensures u read loaded is c.loaded_of-loaded.ensures) c.logs_of.ensures.changelog c.logs_of.ensures.manifest h k)
    (found-over g.R.Reads.alone (g.R.Reads.seen was.files) (g.R.Reads.seen now.files) (laid_ops was.layers) (laid_ops now.layers) (g.R.Reads.start now.files) (λ t. loaded_in t ≡ Ok read)
    (λ alone. now.same_seen alone ∙ sym (was.same_seen alone)) c.in-Ok.ensures.still c.in-Ok.ensures.found)
    c.in-Ok-record.ensures.comes
