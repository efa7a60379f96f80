use Rattle.hgs_lasting.proofs.laws.laws_below.Goals as goal

pub returns : goal.returns
returns c = record {
  answered = c.calls_leave_what_they_answer.ensures.answered;
  lists = c.calls_leave_what_they_answer.ensures.lists;
  stops = c.calls_leave_what_they_answer.ensures.stops;
  barred = c.locks_and_journals_bar.ensures.barred;
  no_journal = c.refusals_are_for_files.ensures.no_journal;
  stays_open = c.turned_away_writers_keep_open_trees.ensures;
  others = c.locks_do_not_matter.ensures.turned_away;
  piece_stands = c.pieces_end.ensures.stands;
  piece_lists = c.pieces_keep_lists.ensures.piece;
  left_open = c.pieces_end.ensures.left_open;
  left_lists = c.pieces_keep_lists.ensures.left;
  same_list = c.fronts_list_paths.ensures.same;
  covered_list = c.recoveries_keep_lists.ensures.covered;
  found_open = c.recovering_leads_back.ensures.found;
  leads_back = c.recovering_leads_back.ensures.leads;
  recovered_open = c.recovering_leads_back.ensures.stops;
  recovered_files = c.recovering_leads_back.ensures.files;
  recovered_standing = c.nothing_but_leftovers_is_removed.ensures.stops;
  recovered_others = c.nothing_but_leftovers_is_removed.ensures.others;
}
