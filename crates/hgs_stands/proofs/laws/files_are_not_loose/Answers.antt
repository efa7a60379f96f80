use Rattle.hgs_stands.specs.Theorems.Below.{NameLaws}
use Rattle.hgs_stands.specs.Theorems.LooseLemmas.{filelog-not-loose, line-not-loose, not-loose, same-beside}
use Rattle.hgs_stands.proofs.laws.files_are_not_loose.Goals as goal

pub returns : goal.returns
returns c = record { own = not-loose; filelogs = filelog-not-loose names; listed = line-not-loose names; agree = same-beside names }
  where
    names : NameLaws
    names = record {
      file = c.filelogs_have_their_own_names.ensures.file;
      listed = c.filelogs_have_their_own_names.ensures.listed;
      read = c.listed_names_name_files.ensures.read;
    }
