use Rattle.std.proofs.Common.{refl}
use Rattle.hgs_stands.proofs.OpenLemmas.{open-same, restored-is, undone-is}
use Rattle.hgs_stands.specs.Theorems.FormLemmas.{either-length}
use Rattle.hgs_stands.specs.Theorems.Below.{HistoryLaws, NameLaws, TextLaws}
use Rattle.hgs_stands.proofs.laws.open_trees_lead_back.Goals as goal

pub returns : goal.returns
returns c = record { restored = restored-is names; undone = undone-is names; one = open-same texts histories names; own = refl }
  where
    texts : TextLaws
    texts = record {
      either_once = c.either_form_holds.ensures.once;
      either_begins = c.either_form_holds.ensures.begins;
      either_length = either-length;
      counted = c.nodes_are_counted.ensures;
      among_known = c.nodes_have_places.ensures.among;
      one_place = c.nodes_have_places.ensures.one;
      change = c.change_prints_then_reads.ensures;
      rows = c.manifest_prints_then_reads.ensures;
    }

    histories : HistoryLaws
    histories = record {
      held = c.changesets_are_held.ensures.each;
      count = c.changesets_are_held.ensures.count;
      there = c.revisions_stay.ensures.there;
      one = c.nodes_name_revisions.ensures.one;
      used = c.used_paths_have_revisions.ensures.files;
      parents = c.changelog_is_whole.ensures.parents;
    }

    names : NameLaws
    names = record {
      file = c.filelogs_have_their_own_names.ensures.file;
      listed = c.filelogs_have_their_own_names.ensures.listed;
      read = c.listed_names_name_files.ensures.read;
    }
