use Rattle.std.proofs.Common.{take}
use Rattle.std.specs.List.{AllByRecursion}
use Rattle.hex.specs.Hex.{IsBytes}
use Rattle.hgs_model.specs.Valid.{new_paths}
use Rattle.hgs_writer.proofs.paths.change_has_byte_paths.Given as goal

abbrev pub invariant-loop-file : goal.invariant-loop-file
invariant-loop-file l = AllByRecursion IsBytes (new_paths (take l.file-index l.change.files))
