use Rattle.hgs_writer.proofs.laws.laws_below.Goals as goal

pub returns : goal.returns
returns c = record {
  transaction = c.transactions_are_pieces.ensures;
  turned_away = c.refusals_are_pieces.ensures.turned_away;
  released = c.refusals_are_pieces.ensures.released;
  abandoned = c.refusals_are_for_files.ensures.abandoned;
  ends = c.pieces_end.ensures.stands;
  left_open = c.pieces_end.ensures.left_open;
  stands = c.locks_do_not_matter.ensures.stands;
  parts = c.locks_do_not_matter.ensures.parts;
  ready = c.locks_do_not_matter.ensures.ready;
  moved = c.phase_commands_agree.ensures;
  marked = c.bookmark_commands_agree.ensures.set;
  unmarked = c.bookmark_commands_agree.ensures.deleted;
  committed = c.commits_agree.ensures;
  imported = c.imports_agree.ensures.agree;
  refused = c.imports_agree.ensures.refused;
  laid_alike = c.strays_hinder_nothing.ensures.laid;
  others = c.locks_do_not_matter.ensures.others;
  filelog_names = c.filelogs_have_their_own_names.ensures.file;
}
