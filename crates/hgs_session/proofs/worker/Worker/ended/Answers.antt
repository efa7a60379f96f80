use Rattle.std.proofs.Common.{rules, ◌≡◌, ◌<◌, Some, slice_get, length, refl}
use Rattle.std.proofs.Math.Logic.{∥∥₁_map}
use Rattle.std.proofs.lemmas.Option.{slice_get_read}
use mathlib.Core.List.{IsPrefix}
use Rattle.hgs_session.specs.Jobs.{Progress}
use Rattle.hgs_session.proofs.EndLemmas.{ended_of}
use Rattle.hgs_session.proofs.worker.Worker.ended.Goals as goal

pub returns-clause-answers : goal.returns-clause-answers
returns-clause-answers g c =
    let me = c.args.self in
    let x = g.N.Naming.begins in
    let now : Progress = record {
      done = length me.replies.items;
      place = length me.history;
      told = (g.R.Reads.ties me.follower.end).told;
      seen = g.R.Reads.seen me.follower.end;
      start = g.R.Reads.start me.follower.end;
      view = me.session;
      faults = g.R.Reads.faults me.follower.end;
      denied = g.R.Reads.denied me.follower.end;
    } in
    let pre : IsPrefix me.history c.args.history.now = search rules in
    let own : me.number ≡ c.args.number = search rules in
    let its = c.index-jobs-number.result in
    let all : length me.replies.items ≡ length its = search rules in
    let within : c.args.number < length c.args.jobs.now = search rules in
    let there : slice_get c.args.jobs.now c.args.number ≡ Some its = slice_get_read c.args.jobs.now (length c.args.jobs.now) c.args.number its refl within c.index-jobs-number.is in
    rw (c.into_end-end.ensures.end, c.from_vec.ensures) (∥∥₁_map me.done (λ h. ended_of x c.args.jobs.now me.number c.args.number me.history c.args.history.now now me.replies.items its c.requires own pre (h c.if-broken.false) all there))
