use Rattle.hgs_views.proofs.SeenLemmas.{SeenLaws, seen-by}
use Rattle.hgs_views.proofs.laws.views_show_repositories.Goals as goal

pub returns : goal.returns
returns c x first last v view is loaded =
    let law : SeenLaws = record {
      names = c.names_of_what_is_shown.ensures;
      marks = c.older_parts_stay.ensures.bookmarks;
      nodes = c.entries_of_revisions.ensures.nodes;
      entries = c.entries_of_revisions.ensures.count;
      count = c.changelog_is_whole.ensures.count;
      before = c.ancestors_of_a_front.ensures.before;
    } in
    let s = seen-by law x first last v view is loaded.order loaded.is_view in
    (s.repository, s.is_view, s.names, s.count, s.nodes)
