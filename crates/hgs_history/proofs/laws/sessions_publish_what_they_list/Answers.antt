use Rattle.std.proofs.Common.{◌∷◌, [], refl}
use Rattle.hgs_headline.specs.WritersLog.{WritersLog}
use Rattle.hgs_legal.specs.LegalLog.{start_of}
use Rattle.hgs_session.specs.Calls.{published_of, unsure_of}
use Rattle.hgs_history.proofs.Histories.{Below, at-first, behind, come, next-at}
use Rattle.hgs_history.proofs.Published.{published}
use Rattle.hgs_history.proofs.laws.sessions_publish_what_they_list.Goals as goal

pub returns : goal.returns
returns c = λ x r calls last makes stands first shares lists.
    let below : Below = record {
      files = c.numbers_rise.ensures.files;
      stands = c.states_at_rest_stand.ensures.stands;
      journal = c.states_at_rest_stand.ensures.journal;
      keeps = c.writers_keep_lists.ensures.ends;
      leads = c.calls_publish_their_own_turns.ensures;
      answered = c.calls_leave_what_they_answer.ensures.answered;
      comes = c.calls_come_to_steps.ensures;
      held = c.calls_clean_up.ensures.held;
      barred = c.calls_beside_a_journal_publish_nothing.ensures;
    } in
    let came = come below x r stands lists shares [] x.first calls last makes [] (start_of x.start r) (at-first below x r stands lists shares first) in
    let h : WritersLog = record { start = x.start; first = r; log = came.more; last = came.state; stands = stands; run = came.goes } in (
      h,
      refl,
      refl,
      came.stood.told,
      published x.jobs (published_of calls) (unsure_of calls) came.stood.left came.state.published came.stood.are,
      λ front back e. (
          let f = came.fronts front back e in
          (f.done, f.stood.told, (f.rest, f.whole), behind below x r stands lists shares c.states_at_rest_have_one_number.ensures front _ f.done _ f.stood)
          ),
      λ front back call e. (
          let f = came.fronts front (call ∷ back) e in
          (f.done, f.stood.told, (f.rest, f.whole), next-at below x r stands lists shares calls last makes front back call f.done _ e f.stood)
          ),
    )
