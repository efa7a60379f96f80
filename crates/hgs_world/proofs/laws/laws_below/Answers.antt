use Rattle.hgs_world.proofs.laws.laws_below.Goals as goal

pub returns : goal.returns
returns c = record {
  going = record { done = c.machines_go_on.ensures.done; failed = c.machines_go_on.ensures.failed; sized = c.machines_go_on.ensures.sized };
  progress = record {
    published_done = c.progress_stays.ensures.published_done;
    published_failed = c.progress_stays.ensures.published_failed;
    published_sized = c.progress_stays.ensures.published_sized;
    acknowledged_done = c.progress_stays.ensures.acknowledged_done;
    acknowledged_failed = c.progress_stays.ensures.acknowledged_failed;
    acknowledged_sized = c.progress_stays.ensures.acknowledged_sized;
    acknowledged_published = c.progress_stays.ensures.acknowledged_published;
  };
  begins = c.machines_go_on.ensures.begins;
  stop = c.machines_may_stop_anywhere.ensures;
  answered = c.calls_leave_what_they_answer.ensures.answered;
  lists = c.calls_leave_what_they_answer.ensures.lists;
  piece_lists = c.pieces_keep_lists.ensures.piece;
  same_list = c.fronts_list_paths.ensures.same;
  covered_list = c.recoveries_keep_lists.ensures.covered;
  restored_list = c.recoveries_keep_lists.ensures.restored;
  no_list = c.new_repositories_list_paths.ensures.empty;
  turned_away_others = c.locks_do_not_matter.ensures.turned_away;
  recovered_others = c.nothing_but_leftovers_is_removed.ensures.others;
  restores = c.recovering_leads_back.ensures.restores;
  turned_away = c.refusals_are_pieces.ensures.turned_away;
  released = c.refusals_are_pieces.ensures.released;
  piece_stands = c.pieces_end.ensures.stands;
  stays_open = c.turned_away_writers_keep_open_trees.ensures;
  no_journal = c.refusals_are_for_files.ensures.no_journal;
  found_open = c.recovering_leads_back.ensures.found;
  leads_back = c.recovering_leads_back.ensures.leads;
  found_standing = c.nothing_but_leftovers_is_removed.ensures.found;
  cleans = c.nothing_but_leftovers_is_removed.ensures.swept;
  first_stands = c.requires_alone.ensures;
}
