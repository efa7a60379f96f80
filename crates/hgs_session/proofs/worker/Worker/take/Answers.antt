use Rattle.std.proofs.Common.{rules, ◌≡◌, ◌-◌, ◌<◌, List, [], ◌∷◌, ◌++◌, length, refl, sym, ap, ◌∙◌, subst, arith, length-append}
use Rattle.std.proofs.Math.Logic.{∥∥₁_elim, ∥∥₁_map, ∥∥₁_prop}
use mathlib.Core.List.{IsPrefix}
use Rattle.hgs_script.specs.declared.result.Answered.{Answered}
use Rattle.hgs_session.specs.Jobs.{HasDone, Progress, changed}
use Rattle.hgs_session.proofs.JobLemmas.{progress_is, taken, told_is}
use Rattle.hgs_session.proofs.worker.Worker.take.Goals as goal

pub invariant_of-self-in-Ok : goal.invariant_of-self-in-Ok
invariant_of-self-in-Ok g c =
    let me = c.args.self.now in
    let x = g.N.Naming.begins in
    let now : Progress = record {
      done = length me.replies.items;
      place = length me.history;
      told = (g.R.Reads.ties me.follower.end).told;
      seen = g.R.Reads.seen me.follower.end;
      start = g.R.Reads.start me.follower.end;
      view = me.session;
      faults = g.R.Reads.faults me.follower.end;
      denied = g.R.Reads.denied me.follower.end;
    } in
    let next : Progress = record {
      done = length c.push.new.self.items;
      place = length c.args.done.history;
      told = (g.R.Reads.ties c.learn.new.self.end).told;
      seen = g.R.Reads.seen c.learn.new.self.end;
      start = g.R.Reads.start c.learn.new.self.end;
      view = me.session;
      faults = g.R.Reads.faults c.learn.new.self.end;
      denied = g.R.Reads.denied c.learn.new.self.end;
    } in
    let all = c.args.done.history in
    let log = g.R.Front.Told.log c.args.done.front in
    let longer : length me.history < length all = search rules in
    let pre : IsPrefix me.history all = search rules in
    let items : c.push.new.self.items ≡ me.replies.items ++ c.args.done.answered ∷ [] = c.in-Ok.ensures.items in
    let l = c.learn.ensures in
    let is : next ≡ changed now (length all - 1) log =
    progress_is next (changed now (length all - 1) log) (ap length items ∙ omega (arith, length-append me.replies.items (c.args.done.answered ∷ []))) (omega (arith, longer)) (ap (λ t. t.told) l.told ∙ told_is log (g.R.Reads.ties me.follower.end))
    l.same_seen l.same_start refl l.same_faults l.same_denied in
    let P : List Answered → Type 0 = λ l. HasDone x me.number all next l in
    record {
      done = ∥∥₁_elim me.done ∥∥₁_prop (λ h. ∥∥₁_map c.requires.done (λ d. λ sound. subst P (sym items)
          (taken x me.number me.history all now next me.replies.items c.args.done.answered c.args.command.now log c.requires.job refl pre longer d is (h c.requires.sound))));
    }
