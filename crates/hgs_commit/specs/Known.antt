-- What is known of files before they are read.
use Rattle.std.specs.Prelude.{◌≡◌, ℕ, List, [], Bool, true, false, ◌&&◌, ◌||◌, Option, Some, None, Ok, IfSome, is_none}
use Rattle.std.specs.List.{AllByRecursion, list_any}
use Rattle.hgs_bytes.specs.Bytes.{same}
use Rattle.hgs_files.specs.declared.op.Op.{Op}
use Rattle.hgs_files.specs.Tree.{Tree, after_all}
use Rattle.hgs_loading.specs.Logs.{either_log_in}
use Rattle.hgs_path.specs.declared.name.Ext.{Ext}
use Rattle.hgs_path.specs.declared.name.Ext.TheVariants.{I, D}
use Rattle.hgs_path.specs.StoreName.{store_name}
use Rattle.hgs_reader.specs.declared.find.RevlogPaths.{RevlogPaths}
use Rattle.hgs_revlog.specs.Log.{Log, place_of}
use Rattle.hgs_transaction.specs.declared.parts.Change.{Change}
use Rattle.hgs_transaction.specs.declared.parts.Change.TheVariants.{Append, MakeIndex, RenameIndex, Replace}
use Rattle.hgs_model.specs.declared.files.NewFile.{NewFile}
use Rattle.hgs_commit.specs.Files.{OfFile, filelog_with, has_other_flag, kept_at, node_in, row_with}
use Rattle.hgs_commit.specs.Walk.{Told}
use Rattle.hgs_commit.specs.Texts.{OfLog}
use Rattle.hgs_commit.specs.declared.known.Known.{Known}
use Rattle.hgs_commit.specs.declared.known.KnownFile.{KnownFile}

-- the files of the filelog of a path, and its entries where it has some
pub record IsReadOf (path : List ℕ) (f : OfLog) (t : Tree) : Type 0 where
  pub index : f.index ≡ store_name path I
  pub chunks : f.chunks ≡ store_name path D
  pub entries : (node : List ℕ) (rev : ℕ) → place_of f.log.entries node ≡ Some rev → either_log_in (store_name path I) t ≡ Ok f.log

-- In the tree a filelog of this form has the node, and its revision has the body of the file.
pub record IsKept (t : Tree) (k : KnownFile) : Type 0 where
  pub index : k.paths.index ≡ store_name k.file.now.path I
  pub chunks : k.paths.chunks ≡ store_name k.file.now.path D
  pub log : Log
  pub is_log : either_log_in (store_name k.file.now.path I) t ≡ Ok log
  pub inline : k.inline ≡ log.inline
  pub rev : ℕ
  pub place : place_of log.entries k.node.0 ≡ Some rev
  pub kept : kept_at (filelog_with k.file.now.path log) rev k.file.now.body t ≡ Ok (Some rev)

abbrev pub AreKept : Tree → Known → Type 0
AreKept t k = AllByRecursion (IsKept t) k.before.items × AllByRecursion (IsKept t) k.now.items

-- where nobody else writes and the list of operations is told, this is known of the tree
abbrev pub KnowsAt : Bool → Option (List Op) → Tree → Known → Type 0
KnowsAt alone seen start k = alone ≡ true → IfSome seen (λ log. AreKept (after_all log start) k)

-- ---- a file that is known

abbrev pub has_node : Option (List ℕ) → List ℕ → Bool
has_node None node = false
has_node (Some other) node = same other node

-- its filelog is listed, and one parent has its path, with the node that is known of the same body
abbrev pub is_recalled : (List ℕ → Ext → Bool) → NewFile → Option Told → Option Told → KnownFile → Bool
is_recalled lists file first second k = is_none second && (has_node (node_in first) k.node.0 && (same k.file.now.body file.body && lists file.path I))

-- its revision, which has this node, is kept
abbrev pub recalled_file : NewFile → Option Told → List ℕ → Bool → OfFile
recalled_file file old node inline = record { row = row_with file node; changed = has_other_flag file.flag old; growth = None; new = false; inline = inline }

-- ---- what is appended to

-- a change appends to one of the two files of a filelog
abbrev pub touches : RevlogPaths → Change → Bool
touches paths (Append a) = same a.path paths.index || same a.path paths.chunks
touches paths (Replace x) = false
touches paths (MakeIndex bytes) = false
touches paths (RenameIndex before) = false

abbrev pub is_touched : List Change → RevlogPaths → Bool
is_touched changes paths = list_any (touches paths) changes

-- what is known of the tree of files to whose filelogs no change appends
abbrev pub AreFreeOf : Tree → List Change → List KnownFile → Type 0
AreFreeOf t changes ks = AllByRecursion (λ (x : KnownFile). IsKept t x × (is_touched changes x.paths ≡ false)) ks

-- all that is known is that, of the commit before
abbrev pub AreUntouched : Tree → List Change → Known → Type 0
AreUntouched t changes k = AreFreeOf t changes k.before.items × (k.now.items ≡ [])
