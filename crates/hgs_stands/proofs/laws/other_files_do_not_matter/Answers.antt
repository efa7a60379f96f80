use Rattle.hgs_stands.specs.Theorems.LooseLemmas.{stands-beside}
use Rattle.hgs_stands.specs.Theorems.StayLemmas.{list-goes-on, revlogs-stay, stands-on}
use Rattle.hgs_stands.specs.Theorems.Below.{NameLaws}
use Rattle.hgs_stands.proofs.laws.other_files_do_not_matter.Goals as goal

pub returns : goal.returns
returns c = record { revlogs = revlogs-stay; list = list-goes-on names; whole = stands-on names; loose = stands-beside names }
  where
    names : NameLaws
    names = record {
      file = c.filelogs_have_their_own_names.ensures.file;
      listed = c.filelogs_have_their_own_names.ensures.listed;
      read = c.listed_names_name_files.ensures.read;
    }
