-- Which commands name files by bytes: each that the code is given, by its type.
use Rattle.std.specs.Prelude.{List}
use Rattle.std.specs.List.{AllByRecursion}
use Rattle.hex.specs.Hex.{IsBytes}
use Rattle.hgs_model.specs.Valid.{new_paths}
use Rattle.hgs_model.specs.declared.command.Command.{Command}
use Rattle.hgs_model.specs.declared.command.Command.TheVariants.{Commit, Import}
use Rattle.hgs_model.specs.declared.command.NewChange.{NewChange}

-- each path of its tree is bytes
abbrev pub HasBytePaths : NewChange → Type 0
HasBytePaths n = AllByRecursion IsBytes (new_paths n.files)

abbrev pub AreOfBytes : List NewChange → Type 0
AreOfBytes changes = AllByRecursion HasBytePaths changes

-- A phase or bookmark command names no file.
abbrev pub NamesBytes : Command → Type 0
NamesBytes (Commit n) = HasBytePaths n
NamesBytes (Import changes) = AreOfBytes changes
NamesBytes command = Unit {0}
