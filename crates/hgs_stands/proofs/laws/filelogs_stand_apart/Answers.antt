use Rattle.hgs_stands.specs.Theorems.ApartLemmas.{file-apart, line-apart}
use Rattle.hgs_stands.specs.Theorems.Below.{NameLaws}
use Rattle.hgs_stands.proofs.laws.filelogs_stand_apart.Goals as goal

pub returns : goal.returns
returns c = record { own = file-apart names; listed = line-apart names; kinds = c.filelogs_have_their_own_names.ensures.kinds; name = c.listed_names_name_files.ensures.name; file = c.listed_names_name_files.ensures.file }
  where
    names : NameLaws
    names = record {
      file = c.filelogs_have_their_own_names.ensures.file;
      listed = c.filelogs_have_their_own_names.ensures.listed;
      read = c.listed_names_name_files.ensures.read;
    }
