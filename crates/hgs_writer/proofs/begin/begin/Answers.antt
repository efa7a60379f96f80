use Rattle.std.proofs.Common.{◌+◌, Ok, Err, ap, sym, ◌∙◌, refl, subst}
use Rattle.std.specs.Prelude.{IfSome, is_some}
use Rattle.hgs_answers.specs.declared.answer.Answer.{Answer}
use Rattle.hgs_commit.specs.declared.fault.CommitFault.{CommitFault}
use Rattle.hgs_files.specs.Tree.{after_all}
use Rattle.hgs_machine.specs.Carry.{tree_now}
use Rattle.hgs_machine.specs.Course.{lock_removals}
use Rattle.hgs_machine.specs.Locks.{AreLocked, AreRemoved, IsTurnedAway}
use Rattle.hgs_machine.specs.Refusals.{WereRefused, how_many_made, how_many_stand, lock_paths, refusals_of_made}
use Rattle.hgs_writer.specs.Begun.{Begins, IsRefused, has_no_locks, has_no_plan}
use Rattle.hgs_writer.specs.declared.begin.Begun.TheVariants.{Ready}
use Rattle.hgs_writer.specs.Planning.{Plans}
use Rattle.hgs_writer.specs.Refusals.{refusals_of_outcome}
use Rattle.hgs_writer.proofs.AllowedLemmas.{may-lock, may-release}
use Rattle.hgs_writer.proofs.RefusalLemmas.{not-planned, not-planned-left, turned-away, turned-away-left}
use Rattle.hgs_writer.proofs.WrittenLemmas.{and_told, as_well, in_turn}
use Rattle.hgs_writer.proofs.begin.begin.Goals as goal

pub take_locks-requires : goal.take_locks-requires
take_locks-requires g c = record {
  allowed = may-lock c.args.who.now c.args.command.now (g.F.Files.log c.args.files.now) (g.F.Files.allows (g.F.Reads.start c.args.files.now)) (g.F.Reads.start c.args.files.now) c.requires.allows;
}

pub release-swept-requires : goal.release-swept-requires
release-swept-requires g c =
    let fault = c.in-Err-plan.fault in
    let command = c.args.command.now in
    let latest = g.met.F.Files.latest in
    let locked_files = c.take_locks.new.files in
    let planned_files = c.plan.new.files in
    let told = subst (λ s. IfSome s (λ l. Plans command (after_all l (g.F.Reads.start planned_files)) (Err fault))) (latest planned_files) (c.in-Err-plan.ensures.found g.met.F.Files.only_writer) in
    may-release g.F.Files.allows c.args.who.now command fault (g.F.Files.log c.args.files.now) (g.F.Files.log locked_files) (g.F.Files.log planned_files) (g.F.Reads.start c.args.files.now) (g.F.Reads.start planned_files)
    (sym (latest planned_files) ∙ (c.plan.ensures.still g.met.F.Files.only_writer ∙ latest locked_files)) (c.plan.ensures.same_start ∙ c.take_locks.ensures.same_start) c.requires.allows c.in-Ok.ensures.log told

pub returns-in-Err-clause-log : goal.returns-in-Err-clause-log
returns-in-Err-clause-log g c =
    let who = c.args.who.now in
    let command = c.args.command.now in
    let t = tree_now (g.F.Files.log c.args.files.now) (g.F.Reads.start c.args.files.now) in
    let why = c.in-Err.refusal.why in
    let answer = c.of_locks.result in
    as_well (g.F.Files.log c.args.files.now) (g.F.Files.log c.take_locks.new.files) (IsTurnedAway who t why c.in-Err.refusal.swept) (IsRefused who command t answer)
    (λ done h. has_no_locks why (subst (λ b. IsTurnedAway who t why b done) (sym c.of_locks.ensures.swept) h) c.of_locks.ensures.outcome) c.in-Err.ensures.log

pub returns-in-Ok-plan-clause-log : goal.returns-in-Ok-plan-clause-log
returns-in-Ok-plan-clause-log g c =
    let who = c.args.who.now in
    let command = c.args.command.now in
    let planned = c.in-Ok-plan.planned in
    let latest = g.met.F.Files.latest in
    let locked_files = c.take_locks.new.files in
    let planned_files = c.plan.new.files in
    let told = subst (λ s. IfSome s (λ l. Plans command (after_all l (g.F.Reads.start planned_files)) (Ok planned))) (latest planned_files) (c.in-Ok-plan.ensures.found g.met.F.Files.only_writer) in
    and_told (g.F.Files.log c.args.files.now) (g.F.Files.log locked_files) (g.F.Files.log planned_files) (g.F.Reads.start c.args.files.now) (g.F.Reads.start planned_files)
    (λ t. AreLocked who t) (λ t. Begins who command t (Ready planned)) (λ t. Plans command t (Ok planned))
    (sym (latest planned_files) ∙ (c.plan.ensures.still g.met.F.Files.only_writer ∙ latest locked_files)) (c.plan.ensures.same_start ∙ c.take_locks.ensures.same_start)
    (λ t a locked plans. (locked, plans)) c.in-Ok.ensures.log told

pub returns-clause-log : goal.returns-clause-log
returns-clause-log g c =
    let who = c.args.who.now in
    let command = c.args.command.now in
    let fault = c.in-Err-plan.fault in
    let swept = c.release-swept.result in
    let answer : Answer = record { outcome = c.of_commit-outcome.result; swept = swept } in
    let latest = g.met.F.Files.latest in
    let locked_files = c.take_locks.new.files in
    let planned_files = c.plan.new.files in
    let told = subst (λ s. IfSome s (λ l. Plans command (after_all l (g.F.Reads.start planned_files)) (Err fault))) (latest planned_files) (c.in-Err-plan.ensures.found g.met.F.Files.only_writer) in
    in_turn (g.F.Files.log c.args.files.now) (g.F.Files.log locked_files) (g.F.Files.log planned_files) (g.F.Files.log c.release-swept.new.files) (g.F.Reads.start c.args.files.now) (g.F.Reads.start planned_files)
    (λ t. AreLocked who t) (λ t. AreRemoved lock_removals swept) (λ t. IsRefused who command t answer) (λ t. Plans command t (Err fault))
    (sym (latest planned_files) ∙ (c.plan.ensures.still g.met.F.Files.only_writer ∙ latest locked_files)) (c.plan.ensures.same_start ∙ c.take_locks.ensures.same_start)
    (λ t a b locked plans removed. has_no_plan fault a b locked plans removed c.of_commit-outcome.ensures refl) c.in-Ok.ensures.log told c.release-swept.ensures.log

pub returns-in-Err-clause-calls : goal.returns-in-Err-clause-calls
returns-in-Err-clause-calls g c =
    let before = c.args.files.now in
    let after = c.take_locks.new.files in
    let refusal = c.in-Err.refusal in
    turned-away (g.F.Reads.faults before) (g.F.Reads.faults after) (g.F.Reads.denied before) (g.F.Reads.denied after) (is_some (g.F.Files.log before)) refusal.why refusal.swept c.of_locks.result c.of_locks.ensures.outcome c.of_locks.ensures.swept
    c.in-Err.ensures.calls

pub returns-clause-calls : goal.returns-clause-calls
returns-clause-calls g c =
    let before = c.args.files.now in
    let locked = c.take_locks.new.files in
    let planned = c.plan.new.files in
    let after = c.release-swept.new.files in
    let fault = c.in-Err-plan.fault in
    let swept = c.release-swept.result in
    let answer : Answer = record { outcome = c.of_commit-outcome.result; swept = swept } in
    not-planned (g.F.Reads.faults before) (g.F.Reads.faults locked) (g.F.Reads.faults planned) (g.F.Reads.faults after) (g.F.Reads.denied before) (g.F.Reads.denied locked) (g.F.Reads.denied planned) (g.F.Reads.denied after)
    (is_some (g.F.Files.log before)) fault swept answer c.of_commit-outcome.ensures refl c.take_locks.ensures.counts c.plan.ensures.later c.plan.ensures.refused
    (λ e. c.in-Err-plan.ensures.cause.rose (ap (λ (x : CommitFault). Err x) e)) c.release-swept.ensures.counts c.release-swept.ensures.causes

pub returns-in-Err-clause-left : goal.returns-in-Err-clause-left
returns-in-Err-clause-left g c =
    let before = c.args.files.now in
    let after = c.take_locks.new.files in
    let why = c.in-Err.refusal.why in
    let told = is_some (g.F.Files.log before) in
    let outcome = c.of_locks.result.outcome in
    let t = tree_now (g.F.Files.log before) (g.F.Reads.start before) in
    as_well (g.F.Files.log before) (g.F.Files.log after)
    (λ done. WereRefused (refusals_of_made told why (how_many_made lock_paths t (after_all done t))) (g.F.Reads.faults before) (g.F.Reads.faults after) (g.F.Reads.denied before) (g.F.Reads.denied after))
    (λ done. WereRefused (refusals_of_outcome told outcome + how_many_made lock_paths t (after_all done t)) (g.F.Reads.faults before) (g.F.Reads.faults after) (g.F.Reads.denied before) (g.F.Reads.denied after))
    (λ done h. turned-away-left (g.F.Reads.faults before) (g.F.Reads.faults after) (g.F.Reads.denied before) (g.F.Reads.denied after) (how_many_made lock_paths t (after_all done t)) told why outcome c.of_locks.ensures.outcome h) c.in-Err.ensures.left

pub returns-clause-left : goal.returns-clause-left
returns-clause-left g c =
    let before = c.args.files.now in
    let locked = c.take_locks.new.files in
    let planned = c.plan.new.files in
    let after = c.release-swept.new.files in
    let fault = c.in-Err-plan.fault in
    let told = is_some (g.F.Files.log before) in
    let outcome = c.of_commit-outcome.result in
    let latest = g.met.F.Files.latest in
    let shown = subst (λ s. IfSome s (λ l. Plans c.args.command.now (after_all l (g.F.Reads.start planned)) (Err fault))) (latest planned) (c.in-Err-plan.ensures.found g.met.F.Files.only_writer) in
    in_turn (g.F.Files.log before) (g.F.Files.log locked) (g.F.Files.log planned) (g.F.Files.log after) (g.F.Reads.start before) (g.F.Reads.start planned)
    (λ t. AreLocked c.args.who.now t)
    (λ t done. WereRefused (how_many_stand lock_paths (after_all done t)) (g.F.Reads.faults planned) (g.F.Reads.faults after) (g.F.Reads.denied planned) (g.F.Reads.denied after))
    (λ t done. WereRefused (refusals_of_outcome told outcome + how_many_made lock_paths t (after_all done t)) (g.F.Reads.faults before) (g.F.Reads.faults after) (g.F.Reads.denied before) (g.F.Reads.denied after))
    (λ t. Plans c.args.command.now t (Err fault))
    (sym (latest planned) ∙ (c.plan.ensures.still g.met.F.Files.only_writer ∙ latest locked)) (c.plan.ensures.same_start ∙ c.take_locks.ensures.same_start)
    (λ t a b are_locked plans left.
    not-planned-left (g.F.Reads.faults before) (g.F.Reads.faults locked) (g.F.Reads.faults planned) (g.F.Reads.faults after) (g.F.Reads.denied before) (g.F.Reads.denied locked) (g.F.Reads.denied planned) (g.F.Reads.denied after) told fault outcome t a b
    c.of_commit-outcome.ensures c.take_locks.ensures.counts c.plan.ensures.later c.plan.ensures.refused (λ e. c.in-Err-plan.ensures.cause.rose (ap (λ (x : CommitFault). Err x) e)) left)
    c.in-Ok.ensures.log shown c.release-swept.ensures.left
