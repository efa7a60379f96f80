use Rattle.std.proofs.Common.{◌≡◌, suc, List, [], ◌∷◌, ◌++◌, length, refl, ap, sym, ◌∙◌, subst, arith, length-append}
use Rattle.std.proofs.Math.Logic.{∥∥₁_map}
use Rattle.hgs_script.specs.declared.result.Answered.{Answered}
use Rattle.hgs_session.specs.Jobs.{DoesJob, HasDone, Progress, asks}
use Rattle.hgs_session.proofs.JobLemmas.{done_more}
use Rattle.hgs_session.proofs.worker.Worker.answer.Goals as goal

pub invariant_of-self : goal.invariant_of-self
invariant_of-self g c =
    let me = c.args.self.now in
    let x = g.N.Naming.begins in
    let a = c.ask-answered in
    let now : Progress = record {
      done = length me.replies.items;
      place = length me.history;
      told = (g.R.Reads.ties me.follower.end).told;
      seen = g.R.Reads.seen me.follower.end;
      start = g.R.Reads.start me.follower.end;
      view = me.session;
      faults = g.R.Reads.faults me.follower.end;
      denied = g.R.Reads.denied me.follower.end;
    } in
    let next : Progress = record {
      done = length c.push.new.self.items;
      place = length me.history;
      told = (g.R.Reads.ties a.new.files.end).told;
      seen = g.R.Reads.seen a.new.files.end;
      start = g.R.Reads.start a.new.files.end;
      view = a.new.session;
      faults = g.R.Reads.faults a.new.files.end;
      denied = g.R.Reads.denied a.new.files.end;
    } in
    let items : c.push.new.self.items ≡ me.replies.items ++ a.result ∷ [] = c.in-Ok.ensures.items in
    let more : next.done ≡ suc now.done = ap length items ∙ omega (arith, length-append me.replies.items (a.result ∷ [])) in
    let job : DoesJob x me.number me.history now a.result next = asks c.args.question.now next c.requires.job a.ensures.asked a.ensures.seen more refl (ap (λ t. t.told) a.ensures.same_ties) a.ensures.same_start a.ensures.later a.ensures.later_denied a.ensures.statuses a.ensures.fault in
    let P : List Answered → Type 0 = λ l. HasDone x me.number me.history next l in
    record { done = ∥∥₁_map me.done (λ h. λ sound. subst P (sym items) (done_more x me.number me.history now next me.replies.items a.result (h c.requires.sound) job)) }
