-- A file of a commit: its filelog, the revision that is kept, and what else its text becomes.
use Rattle.std.specs.Prelude.{ℕ, ◌==◌, nat_le, nat_lt, List, [], ◌∷◌, ◌++◌, Bool, true, false, ◌&&◌, not, Option, Some, None, Result, Ok, Err, slice_get, length, if◌then◌else◌}
use Rattle.std.specs.Option.{option_map}
use Rattle.hgs_bytes.specs.Bytes.{same, is_below}
use Rattle.hgs_files.specs.Tree.{Tree, bytes_at}
use Rattle.hgs_index.specs.declared.entry.Entry.{Entry}
use Rattle.hgs_index.specs.declared.kinds.Flag.{Flag}
use Rattle.hgs_index.specs.FileText.{body_of, plain_prefix}
use Rattle.hgs_index.specs.Manifest.{Row}
use Rattle.hgs_index.specs.Revision.{Parents, parent_node}
use Rattle.hgs_loading.specs.Found.{and_then}
use Rattle.hgs_loading.specs.Logs.{chunk_in_form, either_data_in, either_log_in}
use Rattle.hgs_index.specs.Node.{null_node}
use Rattle.hgs_manifest.specs.Held.{found_in, is_row_path}
use Rattle.hgs_model.specs.History.{file_parents_of, first_of, same_flag}
use Rattle.hgs_model.specs.Step.{copy_block}
use Rattle.hgs_model.specs.declared.files.NewFile.{NewFile}
use Rattle.hgs_path.specs.declared.name.Ext.{Ext}
use Rattle.hgs_path.specs.declared.name.Ext.TheVariants.{I, D}
use Rattle.hgs_path.specs.StoreName.{store_name}
use Rattle.hgs_load.specs.declared.answer.ReadAnswer.{ReadAnswer}
use Rattle.hgs_load.specs.View.{revlog_refusal}
use Rattle.hgs_revlog.specs.declared.fault.RevFault.{RevFault}
use Rattle.hgs_revlog.specs.declared.fault.RevFault.TheVariants as faults
use Rattle.hgs_revlog.specs.Text.{text_of}
use Rattle.hgs_revlog.specs.Loaded.{parents_in}
use Rattle.hgs_revlog.specs.Log.{Log, nodes_of, place_of}
use Rattle.hgs_commit.specs.declared.filelog.Filelog.{Filelog}
use Rattle.hgs_commit.specs.declared.tree_file.TreeFile.{TreeFile}
use Rattle.hgs_commit.specs.Obstacles.{Obstacle, stands}
use Rattle.hgs_commit.specs.Texts.{OfGrowth, OfLog, new_text_in, view_growth}
use Rattle.hgs_commit.specs.Walk.{Told}

abbrev pub view_filelog : Filelog → OfLog
view_filelog f = record { index = f.paths.index; chunks = f.paths.chunks; log = f.log }

abbrev pub empty_log : Log
empty_log = record { inline = false; entries = [] }

abbrev pub filelog_with : List ℕ → Log → OfLog
filelog_with path log = record { index = store_name path I; chunks = store_name path D; log = log }

-- the filelog of a path, which has no revisions where its index is not listed
abbrev pub filelog_in : (List ℕ → Ext → Bool) → List ℕ → Tree → Result OfLog ReadAnswer
filelog_in lists path t =
    if lists path I then and_then (either_log_in (store_name path I) t) (λ log. Ok (filelog_with path log))
    else Ok (filelog_with path empty_log)

-- the revision of a node that a manifest names
abbrev pub known_rev : List ℕ → Option ℕ → Result (Option ℕ) ReadAnswer
known_rev index None = Err (revlog_refusal index faults.Missing)
known_rev index (Some rev) = Ok (Some rev)

abbrev pub rev_of_node : List ℕ → List Entry → Option (List ℕ) → Result (Option ℕ) ReadAnswer
rev_of_node index entries None = Ok None
rev_of_node index entries (Some node) = known_rev index (place_of entries node)

-- ---- the text of a file that is not kept

-- the node of a row, and no node where there is none
abbrev pub told_node : Option Told → List ℕ
told_node None = null_node
told_node (Some told) = told.0

-- the node that the source of a copy has in these rows
abbrev pub source_node : List Row → Option (List ℕ) → List ℕ
source_node rows None = null_node
source_node rows (Some path) = told_node (found_in path rows)

-- the block of a copy of a file with this node; without a source the prefix that the body asks for
abbrev pub fresh_block : Option (List ℕ) → List ℕ → List ℕ → List ℕ
fresh_block None node body = plain_prefix body
fresh_block (Some path) node body = copy_block path node

abbrev pub fresh_text : NewFile → List ℕ → List ℕ
fresh_text file node = fresh_block file.from node file.body ++ file.body

-- ---- the revision that is kept

-- a text with fewer bytes than a body does not have it, and is not read
abbrev pub is_shorter : Option Entry → List ℕ → Bool
is_shorter None body = true
is_shorter (Some e) body = nat_lt e.size (length body)

abbrev pub kept_by : OfLog → ℕ → List ℕ → Result (List ℕ) RevFault → Result (Option ℕ) ReadAnswer
kept_by f rev body (Ok text) = Ok (if same (body_of text) body then Some rev else None)
kept_by f rev body (Err fault) = Err (revlog_refusal f.index fault)

abbrev pub kept_at : OfLog → ℕ → List ℕ → Tree → Result (Option ℕ) ReadAnswer
kept_at f rev body t =
    if is_shorter (slice_get f.log.entries rev) body then Ok None
    else kept_by f rev body (text_of f.log.entries rev (chunk_in_form f.index f.chunks f.log rev t))

-- where one parent is left and has the same body, that one
abbrev pub kept_in : OfLog → Option ℕ → Option ℕ → List ℕ → Tree → Result (Option ℕ) ReadAnswer
kept_in f None b body t = Ok None
kept_in f (Some a) None body t = kept_at f a body t
kept_in f (Some a) (Some b) body t = Ok None

-- ---- a file of the new tree

-- a file with bytes that stands where a new filelog's would be made; an inline one has no data file
abbrev pub standing_at : List ℕ → Tree → List Obstacle
standing_at path t = if length (bytes_at t path) == 0 then [] else stands path ∷ []

-- what keeps a new revision from standing behind those of a filelog
abbrev pub place_in : OfLog → Tree → Result (List Obstacle) ReadAnswer
place_in f t =
    if length f.log.entries == 0 then Ok (standing_at f.index t ++ (if f.log.inline then [] else standing_at f.chunks t))
    else and_then (either_data_in f.index f.chunks f.log t) (λ x. Ok [])

-- its row, whether the changeset lists it, what is appended to its filelog, and whether that is a new one and inline
pub record OfFile : Type 0 where
  pub row : Row
  pub changed : Bool
  pub growth : Option OfGrowth
  pub new : Bool
  pub inline : Bool

abbrev pub view_file : TreeFile → OfFile
view_file f = record { row = record { path = f.path; node = f.node.0; flag = f.flag }; changed = f.changed; growth = option_map view_growth f.growth; new = f.listed; inline = f.inline }

-- the path of a file whose filelog is new
abbrev pub new_path : Bool → List ℕ → List (List ℕ)
new_path new path = if new then path ∷ [] else []

abbrev pub row_with : NewFile → List ℕ → Row
row_with file node = record { path = file.path; node = node; flag = file.flag }

-- a file whose revision is not kept, where its source has this node
abbrev pub changed_in : OfLog → NewFile → List ℕ → Parents → ℕ → Tree → Result (OfFile × List Obstacle) ReadAnswer
changed_in f file source parents link t =
    and_then (new_text_in f (record { text = fresh_text file source; parents = parents; link = link }) t) (λ text.
    and_then (place_in f t) (λ obstacles.
    Ok (record { row = row_with file text.0.node; changed = true; growth = text.0.growth; new = length f.log.entries == 0; inline = f.log.inline }, obstacles ++ text.1)))

-- the greatest length of the first text of a filelog that begins as an inline one
abbrev pub most_inline : ℕ
most_inline = 4096

-- a filelog to which this text is added: where it is the first one, it says the form
abbrev pub formed : OfLog → List ℕ → OfLog
formed f text = record {
  index = f.index;
  chunks = f.chunks;
  log = record { inline = if length f.log.entries == 0 then nat_le (length text) most_inline else f.log.inline; entries = f.log.entries };
}

-- its flag differs from that in the first parent that has it
abbrev pub has_other_flag : Flag → Option Told → Bool
has_other_flag flag None = false
has_other_flag flag (Some old) = not (same_flag flag old.1)

abbrev pub kept_file : OfLog → NewFile → Option Told → ℕ → OfFile
kept_file f file old rev = record { row = row_with file (parent_node (nodes_of f.log.entries) (Some rev)); changed = has_other_flag file.flag old; growth = None; new = false; inline = f.log.inline }

abbrev pub file_with : OfLog → NewFile → List ℕ → Option Told → Parents → ℕ → Option ℕ → Tree → Result (OfFile × List Obstacle) ReadAnswer
file_with f file source old parents link None t = changed_in (formed f (fresh_text file source)) file source parents link t
file_with f file source old parents link (Some rev) t = Ok (kept_file f file old rev, [])

-- the file on these revisions of its filelog
abbrev pub file_on : OfLog → NewFile → List ℕ → Option Told → Parents → ℕ → Tree → Result (OfFile × List Obstacle) ReadAnswer
file_on f file source old parents link t = and_then (kept_in f parents.0 parents.1 file.body t) (λ rev. file_with f file source old parents link rev t)

abbrev pub node_in : Option Told → Option (List ℕ)
node_in told = option_map (λ x. x.0) told

-- the parents of its revision, by the rows with its path in the trees of the two parents
abbrev pub parents_by : OfLog → Option Told → Option Told → Result Parents ReadAnswer
parents_by f first second =
    and_then (rev_of_node f.index f.log.entries (node_in first)) (λ a.
    and_then (rev_of_node f.index f.log.entries (node_in second)) (λ b.
    Ok (file_parents_of (parents_in f.log.entries) a b)))

-- a file of the new tree, where its source has this node
abbrev pub file_in : (List ℕ → Ext → Bool) → ℕ → NewFile → List ℕ → Option Told → Option Told → Tree → Result (OfFile × List Obstacle) ReadAnswer
file_in lists link file source first second t =
    and_then (filelog_in lists file.path t) (λ f.
    and_then (parents_by f first second) (λ parents.
    file_on f file source (first_of first second) parents link t))

-- ---- the order of files

-- each path may stand in a row, and comes behind the one before it
abbrev pub can_follow : List ℕ → List NewFile → Bool
can_follow last [] = true
can_follow last (f ∷ files) = is_row_path f.path && is_below last f.path && can_follow f.path files
