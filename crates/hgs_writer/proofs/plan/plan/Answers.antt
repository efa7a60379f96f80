use Rattle.std.proofs.Common.{◌≡◌, ◌*◌, false, length, Ok, Err, refl, sym, ◌∙◌, ap}
use Rattle.hgs_commit.specs.declared.fault.CommitFault.TheVariants.{Refused}
use Rattle.hgs_files.specs.Tree.{Tree}
use Rattle.hgs_revlog.specs.Log.{Log}
use Rattle.hgs_loading.specs.Store.{loaded_in, view_store}
use Rattle.hgs_machine.specs.Planned.{IsPlanned}
use Rattle.hgs_steps.specs.declared.fault.PlanFault.TheVariants.{Memory}
use Rattle.hgs_writer.specs.Planning.{ComesTo, Plans, has_no_memory, is_refused}
use Rattle.hgs_writer.specs.declared.plan.Planned.{Planned}
use Rattle.hgs_writer.proofs.PlanLemmas.{refusal-told, told, told-both}
use Rattle.hgs_writer.proofs.plan.plan.Goals as goal

pub returns-in-Err-clause-found : goal.returns-in-Err-clause-found
returns-in-Err-clause-found g c = λ alone.
    refusal-told (g.R.Reads.seen c.history.new.files) (g.R.Reads.start c.history.new.files) c.args.command.now c.in-Err.refusal (c.in-Err.ensures.found alone)

pub returns-in-Err-step_of-clause-found : goal.returns-in-Err-step_of-clause-found
returns-in-Err-step_of-clause-found g c = λ alone.
    let store = c.in-Ok.store in
    let loaded = c.loaded_of-loaded.result in
    let fault = c.in-Err-step_of.fault in
    told-both (λ t. loaded_in t ≡ Ok (view_store store)) (λ t. ComesTo t loaded c.args.command.now (Err fault)) (λ t. Plans c.args.command.now t (Err fault)) (g.R.Reads.seen c.history.new.files) (g.R.Reads.seen c.step_of.new.files) (g.R.Reads.start c.history.new.files) (g.R.Reads.start c.step_of.new.files)
    (c.in-Err-step_of.ensures.still alone) c.in-Err-step_of.ensures.same_start
    (λ t is comes. is_refused (view_store store) loaded fault is c.loaded_of-loaded.ensures (c.stores_are_loaded.ensures t (view_store store) loaded is c.loaded_of-loaded.ensures) comes c.command_names_bytes.ensures) (c.in-Ok.ensures.found alone) (c.in-Err-step_of.ensures.comes alone)

pub returns-in-Ok-assemble-clause-found : goal.returns-in-Ok-assemble-clause-found
returns-in-Ok-assemble-clause-found g c = λ alone.
    let store = c.in-Ok.store in
    let loaded = c.loaded_of-loaded.result in
    let step = c.in-Ok-step_of.step in
    let planned : Planned = record { plan = c.in-Ok-assemble.plan; rev = step.rev; node = step.node } in
    told-both (λ t. loaded_in t ≡ Ok (view_store store)) (λ t. ComesTo t loaded c.args.command.now (Ok step)) (λ t. Plans c.args.command.now t (Ok planned)) (g.R.Reads.seen c.history.new.files) (g.R.Reads.seen c.step_of.new.files) (g.R.Reads.start c.history.new.files) (g.R.Reads.start c.step_of.new.files)
    (c.in-Ok-step_of.ensures.still alone) c.in-Ok-step_of.ensures.same_start
    (λ t is comes. record {
      read = view_store store;
      is_read = is;
      loaded = loaded;
      is_loaded_from = c.loaded_of-loaded.ensures;
      is_loaded = c.stores_are_loaded.ensures t (view_store store) loaded is c.loaded_of-loaded.ensures;
      step = step;
      comes = comes;
      bytes = c.command_names_bytes.ensures;
      plan = c.in-Ok-assemble.ensures;
      rev = refl;
      node = refl;
    }) (c.in-Ok.ensures.found alone) (c.in-Ok-step_of.ensures.comes alone)

pub returns-in-Err-assemble-clause-found : goal.returns-in-Err-assemble-clause-found
returns-in-Err-assemble-clause-found g c = λ alone.
    told (λ t. loaded_in t ≡ Ok (view_store c.in-Ok.store)) (λ t. Plans c.args.command.now t (Err (Refused Memory))) (g.R.Reads.seen c.history.new.files) (g.R.Reads.seen c.step_of.new.files) (g.R.Reads.start c.history.new.files) (g.R.Reads.start c.step_of.new.files)
    (c.in-Ok-step_of.ensures.still alone) c.in-Ok-step_of.ensures.same_start (λ t is. has_no_memory) (c.in-Ok.ensures.found alone)

pub returns-in-Ok-assemble-clause-planned : goal.returns-in-Ok-assemble-clause-planned
returns-in-Ok-assemble-clause-planned g c = λ alone.
    let follows : (t : Tree) → loaded_in t ≡ Ok (view_store c.in-Ok.store) → IsPlanned t c.in-Ok-assemble.plan = λ t is.
    let counted = λ (separate : c.in-Ok.store.changelog.inline ≡ false). c.changelogs_are_counted.ensures t (view_store c.in-Ok.store) c.in-Ok.ensures.changelog separate is in
    let same_log = ap (λ log. 64 * length log.entries) (sym c.loaded_of-loaded.ensures.changelog) in
    c.plans_can_be_carried_out.ensures t c.in-Ok-step_of.step.parts c.in-Ok-assemble.plan (c.in-Ok-step_of.ensures.sound t (λ separate. counted (ap (λ (log : Log). log.inline) (sym c.loaded_of-loaded.ensures.changelog) ∙ separate) ∙ same_log)) c.in-Ok-assemble.ensures in
    told (λ t. loaded_in t ≡ Ok (view_store c.in-Ok.store)) (λ t. IsPlanned t c.in-Ok-assemble.plan) (g.R.Reads.seen c.history.new.files) (g.R.Reads.seen c.step_of.new.files) (g.R.Reads.start c.history.new.files) (g.R.Reads.start c.step_of.new.files)
    (c.in-Ok-step_of.ensures.still alone) c.in-Ok-step_of.ensures.same_start follows (c.in-Ok.ensures.found alone)
