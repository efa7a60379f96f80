use Rattle.hgs_writer.proofs.commit_laws.laws_of_steps.Goals as goal

pub returns : goal.returns
returns c = record {
  holds = c.loaded_holds_repository.ensures.holds;
  form = c.loaded_holds_repository.ensures.form;
  roots = c.files_of_commits_agree.ensures.roots;
  bookmarks = c.files_of_commits_agree.ensures.bookmarks;
  limit = c.files_of_commits_agree.ensures.limit;
  dirstate = c.files_of_commits_agree.ensures.dirstate;
  keeps = c.step_keeps_repositories.ensures;
  taken = c.new_revision.ensures.taken;
  named = λ log r standing entry chunk node e. (c.new_revision.ensures.named log r standing entry chunk node e).1;
  short = c.indexes_are_read_whole.ensures.short;
}
