use Rattle.hgs_played.proofs.laws.laws_below.Goals as goal

pub returns : goal.returns
returns c = record {
  going = record {
    begins = c.machines_go_on.ensures.begins;
    sized = c.machines_go_on.ensures.sized;
    stop = c.machines_may_stop_anywhere.ensures;
    published_done = c.progress_stays.ensures.published_done;
    published_failed = c.progress_stays.ensures.published_failed;
    published_sized = c.progress_stays.ensures.published_sized;
    acts = c.writers_go_on.ensures.acts;
    runs = c.writers_go_on.ensures.runs;
  };
  calling = record {
    files = c.numbers_rise.ensures.files;
    stands = c.states_at_rest_stand.ensures.stands;
    journal = c.states_at_rest_stand.ensures.journal;
    own = c.calls_publish_their_own_turns.ensures;
    beside = c.calls_beside_a_journal_publish_nothing.ensures;
    no_journal = c.refusals_are_for_files.ensures.no_journal;
    lists = c.writers_keep_lists.ensures.ends;
    found_open = c.recovering_leads_back.ensures.found;
    cleans_open = c.recovering_leads_back.ensures.swept;
    found_standing = c.nothing_but_leftovers_is_removed.ensures.found;
    cleans = c.nothing_but_leftovers_is_removed.ensures.swept;
    first_keeps = c.events_keep_their_commands.ensures.first;
    happens_keep = c.events_keep_their_commands.ensures.keeps;
  };
}
