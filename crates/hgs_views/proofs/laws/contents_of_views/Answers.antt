use Rattle.hgs_views.proofs.Basics.{front-limits}
use Rattle.hgs_views.specs.Course.{IsBetween}
use Rattle.hgs_views.proofs.Below.{ContentLaws}
use Rattle.hgs_views.proofs.ContentLemmas.{contents-along}
use Rattle.hgs_views.proofs.CourseLemmas.{course-later, itself-between}
use Rattle.hgs_views.proofs.RefreshLemmas.{began-by, loaded-below}
use Rattle.hgs_views.proofs.laws.contents_of_views.Goals as goal

pub returns : goal.returns
returns c x began ended first last v view rev d is opens reads loaded then on found =
    let law : ContentLaws = record {
      texts = c.text_of_node_at_moments.ensures;
      entry = c.revisions_have_entries.ensures;
      held = c.changesets_are_held.ensures.each;
      used = c.used_paths_have_revisions.ensures.files;
      change_text = c.change_prints_then_reads.ensures;
      rows_text = c.manifest_prints_then_reads.ensures;
      kinds = c.filelogs_stand_apart.ensures.kinds;
      size = c.held_index_length.ensures;
      loads = λ index data_bytes revisions begins whole within. c.ignored_rest.ensures.loads index data_bytes revisions begins whole (front-limits index data_bytes revisions begins within);
      changelog = c.histories_go_on.ensures.changelog;
      manifest = c.histories_go_on.ensures.manifest;
      filelogs = c.histories_go_on.ensures.filelogs;
      not_null = c.texts_are_found.ensures.not_null;
      change = c.changeset_is_read.ensures.chunk;
      placed = c.changeset_is_read.ensures.placed;
      places = c.inline_index.ensures.places;
      line = c.lines_of_changesets.ensures;
      rows = c.files_are_found.ensures.rows;
      others = c.files_are_found.ensures.others;
      tracked = c.files_are_found.ensures.tracked;
      pass = c.files_are_found.ensures.pass;
      small = c.files_are_found.ensures.small;
      parents = c.parents_of_entries.ensures;
      nodes = c.entries_of_revisions.ensures.nodes;
    } in
    let at : IsBetween began last first = record { begins = began-by x began last is ended first v loaded.reads then; ends = on } in
    contents-along x first last (course-later x began first last at is) opens reads law v view first rev d loaded.is_view (itself-between first last on) (loaded-below x began last is ended first v loaded.reads then on) found
