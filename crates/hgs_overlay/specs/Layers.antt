-- What is to be written to files, and the operations that write it.
use Rattle.std.specs.Prelude.{ℕ, Bool, false, true, List, [], ◌++◌, map, Option, Some, None, unwrap_or, if◌then◌else◌}
use Rattle.std.specs.BTreeMap.{get}
use Rattle.std.specs.Cmp.Lexicographic.{slice_cmp}
use Rattle.std.specs.Ordering.{nat_cmp}
use Rattle.hgs_files.specs.declared.op.Op.{Op}
use Rattle.hgs_files.specs.declared.op.Op.TheVariants.{Append, Create}
use Rattle.hgs_files.specs.Tree.{same_path}
use Rattle.hgs_overlay.specs.declared.layers.Layer.{Layer}
use Rattle.hgs_overlay.specs.declared.layers.Layers.{Layers}

-- bytes are put behind those of a file, or take its place
abbrev pub laid_op : List ℕ → Bool → List ℕ → Op
laid_op path false bytes = Append path bytes
laid_op path true bytes = Create path bytes

-- the operations that write all that is to be written, in the order of the paths
abbrev pub laid_ops : Layers → List Op
laid_ops l = map (λ e. laid_op e.0 e.1.in_place e.1.bytes) l.laid.entries

-- what is to be written to the file of a path
abbrev pub layer_at : Layers → List ℕ → Option Layer
layer_at l path = get (slice_cmp nat_cmp) l.laid path

-- the layers with this one at a path, and without the one that is there
abbrev pub with_layer : (List ℕ → Option Layer) → List ℕ → Layer → List ℕ → Option Layer
with_layer layers path layer other = if same_path path other then Some layer else layers other

abbrev pub without_layer : (List ℕ → Option Layer) → List ℕ → List ℕ → Option Layer
without_layer layers path other = if same_path path other then None else layers other

-- more bytes behind a file, or behind those of its layer
abbrev pub appended_to : Option Layer → List ℕ → Layer
appended_to None bytes = record { in_place = false; bytes = bytes }
appended_to (Some layer) bytes = record layer { bytes = layer.bytes ++ bytes }

-- a file with this to be written to it
abbrev pub laid_on : Bool → List ℕ → Option (List ℕ) → Option (List ℕ)
laid_on false bytes file = Some (unwrap_or file [] ++ bytes)
laid_on true bytes file = Some bytes

abbrev pub covered : Option Layer → Option (List ℕ) → Option (List ℕ)
covered None file = file
covered (Some layer) file = laid_on layer.in_place layer.bytes file
