use Rattle.std.proofs.Common.{Result, refl, subst, sym}
use Rattle.std.specs.Prelude.{⊤}
use Rattle.hgs_bytes.specs.Answer.{Gives}
use Rattle.hgs_load.specs.Answer.{is_of_outside}
use Rattle.hgs_load.specs.declared.answer.ReadAnswer.{ReadAnswer}
use Rattle.hgs_loading.specs.Found.{required_in}
use Rattle.hgs_session.specs.Session.{AreCounted, AreOfOneStart, IsAt, IsWhole, LeftAs, MayRun, RestsOn}
use Rattle.hgs_top.specs.Run.{OfTree}
use Rattle.hgs_run.specs.Session.{no_profile, no_script, ran}
use Rattle.hgs_run.proofs.Given.{ran_over}
use Rattle.hgs_run.proofs.session.run_session.Goals as goal
use Rattle.hgs_session.specs.Theorems.PartsLemmas.{if_parts}

pub run_script-requires-clause-allows : goal.run_script-requires-clause-allows
run_script-requires-clause-allows g c κs within =
    let t = c.test-yard in
    let workers = c.in-Ok.script.workers in
    let takes = c.requires.allows c.in-Ok.script c.in-Ok.ensures.can c.in-Ok.ensures.script in
    subst (λ l. MayRun workers l (g.Y.A.Reads.start (g.Y.Yard.files t.result.0)) g.Y.W.Files.allows) (sym t.ensures.stays.0)
    (subst (λ s. MayRun workers (g.Y.A.Files.log (g.Y.Yard.files c.args.yard)) s g.Y.W.Files.allows) (sym t.ensures.stays.1) takes)

pub returns-in-Err-clause-session : goal.returns-in-Err-clause-session
returns-in-Err-clause-session g c = no_script c.in-Err.ended c.in-Err.ensures.refused c.say.ensures.line (refl, refl)

pub returns-in-Ok-tested-clause-session : goal.returns-in-Ok-tested-clause-session
returns-in-Ok-tested-clause-session g c =
    let t = c.test-yard in
    let yard = t.result.0 in
    let log = g.Y.A.Files.log (g.Y.Yard.files c.args.yard) in
    let start = g.Y.A.Reads.start (g.Y.Yard.files c.args.yard) in
    let P : Result Unit ReadAnswer → Type 0 = λ r. OfTree log start (λ u. Gives is_of_outside (λ x. x) r (required_in u)) in
    let faults = g.Y.A.Reads.faults (g.Y.Yard.files yard) in
    let denied = g.Y.A.Reads.denied (g.Y.Yard.files yard) in
    ran c.in-Ok.script faults denied c.in-Ok.ensures.script (subst P c.in-Ok-tested.is t.ensures.found) t.ensures.faults t.ensures.denied
    (ran_over
    (λ l s last. LeftAs c.run_script.result.left (λ y. RestsOn l s last.log (g.Y.A.Files.log (g.Y.Yard.files y)) (g.Y.A.Reads.start (g.Y.Yard.files y))) (λ w. IsAt last (g.Y.W.Files.log w) (g.Y.W.Reads.faults w) (g.Y.W.Reads.denied w)))
    (λ last states. LeftAs c.run_script.result.left (λ y. AreCounted last states (g.Y.A.Reads.faults (g.Y.Yard.files y)) (g.Y.A.Reads.denied (g.Y.Yard.files y))) (λ w. ⊤)) (IsWhole c.run_script.result.left)
    c.in-Ok.script.workers log (g.Y.A.Files.log (g.Y.Yard.files yard)) start (g.Y.A.Reads.start (g.Y.Yard.files yard)) faults denied c.run_script.result.status (g.K.Sink.written c.args.out.now) (g.K.Sink.written c.run_script.new.out)
    t.ensures.stays.0 t.ensures.stays.1 c.run_script.ensures.runs)

pub returns-clause-session : goal.returns-clause-session
returns-clause-session g c =
    let t = c.test-yard in
    let log = g.Y.A.Files.log (g.Y.Yard.files c.args.yard) in
    let start = g.Y.A.Reads.start (g.Y.Yard.files c.args.yard) in
    let P : Result Unit ReadAnswer → Type 0 = λ r. OfTree log start (λ u. Gives is_of_outside (λ x. x) r (required_in u)) in
    no_profile c.in-Ok.script c.in-Err-tested.refusal c.in-Ok.ensures.script (subst P c.in-Err-tested.is t.ensures.found) c.refuse.ensures.line t.ensures.stays

pub returns-in-Ok-tested-clause-parts : goal.returns-in-Ok-tested-clause-parts
returns-in-Ok-tested-clause-parts g c =
    let t = c.test-yard in
    let log = g.Y.A.Files.log (g.Y.Yard.files c.args.yard) in
    let parts = c.run_script.ensures.parts in
    if_parts c.run_script.result.left
    (λ w rs h. subst (λ l. AreOfOneStart l (g.Y.A.Reads.start (g.Y.Yard.files c.args.yard)) (g.Y.W.Reads.ties w) (λ r. g.Y.R.Reads.ties r) rs) t.ensures.stays.0
    (subst (λ s. AreOfOneStart (g.Y.A.Files.log (g.Y.Yard.files t.result.0)) s (g.Y.W.Reads.ties w) (λ r. g.Y.R.Reads.ties r) rs) t.ensures.stays.1 h))
    parts
