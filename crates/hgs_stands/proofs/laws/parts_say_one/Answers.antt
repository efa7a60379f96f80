use Rattle.hgs_stands.proofs.SameLemmas.{changesets-same, phases-same, bookmarks-same, working-parents-same}
use Rattle.hgs_stands.specs.Theorems.FormLemmas.{either-length}
use Rattle.hgs_stands.specs.Theorems.Below.{HistoryLaws, TextLaws}
use Rattle.hgs_stands.proofs.laws.parts_say_one.Goals as goal

pub returns : goal.returns
returns c = record { changesets = changesets-same texts histories; phases = phases-same; bookmarks = bookmarks-same texts histories; working = working-parents-same texts histories }
  where
    texts : TextLaws
    texts = record {
      either_once = c.either_form_holds.ensures.once;
      either_begins = c.either_form_holds.ensures.begins;
      either_length = either-length;
      counted = c.nodes_are_counted.ensures;
      among_known = c.nodes_have_places.ensures.among;
      one_place = c.nodes_have_places.ensures.one;
      change = c.change_prints_then_reads.ensures;
      rows = c.manifest_prints_then_reads.ensures;
    }

    histories : HistoryLaws
    histories = record {
      held = c.changesets_are_held.ensures.each;
      count = c.changesets_are_held.ensures.count;
      there = c.revisions_stay.ensures.there;
      one = c.nodes_name_revisions.ensures.one;
      used = c.used_paths_have_revisions.ensures.files;
      parents = c.changelog_is_whole.ensures.parents;
    }
