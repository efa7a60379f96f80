use Rattle.hgs_views.proofs.Basics.{front-limits}
use Rattle.hgs_views.proofs.Below.{LoadLaws}
use Rattle.hgs_views.proofs.RefreshLemmas.{refreshed-along}
use Rattle.hgs_views.proofs.laws.refreshes_answer_views.Goals as goal

pub returns : goal.returns
returns c x began ended first last v old y is opens seen then m =
    let law : LoadLaws = record {
      requirements = c.whole_files_are_read.ensures.requirements;
      bookmarks = c.whole_files_are_read.ensures.bookmarks;
      dirstate = c.whole_files_are_read.ensures.dirstate;
      roots = c.whole_files_are_read.ensures.roots;
      working = c.older_parts_stay.ensures.working;
      parents = c.parents_of_entries.ensures;
      size = c.held_index_length.ensures;
      count = c.changelog_is_whole.ensures.count;
      all_parents_are = c.changelog_is_whole.ensures.parents;
      nodes = c.entries_of_revisions.ensures.nodes;
      entries = c.entries_of_revisions.ensures.count;
      separate = c.either_form.ensures.separate;
      loads = λ index data_bytes revisions begins whole within. c.ignored_rest.ensures.loads index data_bytes revisions begins whole (front-limits index data_bytes revisions begins within);
      whole = c.ignored_rest.ensures.front;
      phases = c.entries_of_changesets.ensures.phases;
      roots_before = c.roots_of_later_repository.ensures;
      changelog = c.histories_go_on.ensures.changelog;
    } in
    refreshed-along x began last is law ended first v old y seen then opens m
