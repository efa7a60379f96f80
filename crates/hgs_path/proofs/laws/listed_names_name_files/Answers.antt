use Rattle.hgs_bytes.specs.Text.{lines_of}
use Rattle.hgs_path.specs.Theorems.AddedLemmas.{name-listed}
use Rattle.hgs_path.specs.Theorems.ApartLemmas.{listed-file}
use Rattle.hgs_path.specs.Theorems.ReadNamesLemmas.{names-listed}
use Rattle.hgs_path.proofs.laws.listed_names_name_files.Goals as goal

pub returns-clause-name : goal.returns-clause-name
returns-clause-name c = name-listed

pub returns-clause-file : goal.returns-clause-file
returns-clause-file c = listed-file

pub returns-clause-read : goal.returns-clause-read
returns-clause-read c text names e = names-listed 1 (lines_of text) names e
