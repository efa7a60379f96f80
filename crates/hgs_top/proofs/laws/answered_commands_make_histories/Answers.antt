use Rattle.std.proofs.Common.{inl}
use Rattle.hgs_files.specs.Tree.{after_all}
use Rattle.hgs_top.proofs.laws.answered_commands_make_histories.Goals as goal

pub returns : goal.returns
returns c = λ job left log new start r command answer stands valid lists comes.
    let laws = c.calls_leave_what_they_answer.ensures in
    let done = comes.2.0 in
    let written = comes.2.2 in
    let t = after_all log start in
    let own = lists r (inl stands) in (
      done,
      comes.2.1,
      record {
        pieces = laws.pieces t r command _ answer done stands valid own written;
        answered = laws.answered t r command _ answer done stands valid own written;
        lists = laws.lists t r command _ answer done stands valid own written;
        stops = λ d stop. laws.stops t r command _ answer done d stands valid own written stop;
      },
    )
