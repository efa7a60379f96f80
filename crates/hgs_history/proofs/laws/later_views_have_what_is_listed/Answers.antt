use Rattle.std.proofs.Common.{arith}
use Rattle.hgs_headline.specs.WritersLog.{state_after}
use Rattle.hgs_session.specs.Calls.{published_of, unsure_of}
use Rattle.hgs_history.proofs.laws.later_views_have_what_is_listed.Goals as goal

pub returns : goal.returns
returns c = record {
  read = λ h jobs calls log v is older.
      (let many = c.as_many_are_published_as_listed.ensures jobs (published_of calls) (unsure_of calls) (state_after h log).published is.published in
      let n = older.read in
      let m = older.rooted in
      (omega (arith, many, n), omega (arith, many, m)));
  marked = λ h jobs calls log v is older done.
      (let many = c.as_many_are_published_as_listed.ensures jobs (published_of calls) (unsure_of calls) (state_after h log).published is.published in
      let b = is.marked done in
      let w = is.worked done in
      let n = older.marked in
      let m = older.worked in
      (omega (arith, many, b, n), omega (arith, many, w, m)));
}
