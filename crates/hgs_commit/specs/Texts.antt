-- What the text of a new revision becomes in a revlog, as its files are at rest, and what is appended of it.
use Rattle.std.specs.Prelude.{◌+◌, ◌*◌, ℕ, Bool, true, false, List, [], ◌∷◌, ◌++◌, length, Option, Some, None, Result, Ok, Err, if◌then◌else◌}
use Rattle.std.specs.Option.{option_map}
use Rattle.hgs_bytes.specs.Bytes.{same}
use Rattle.hgs_files.specs.Tree.{Tree}
use Rattle.hgs_index.specs.declared.node.Node.{Node}
use Rattle.hgs_index.specs.Node.{null_node}
use Rattle.hgs_index.specs.Revision.{Revision}
use Rattle.hgs_loading.specs.Found.{and_then}
use Rattle.hgs_loading.specs.Logs.{chunk_in_form}
use Rattle.hgs_load.specs.declared.answer.ReadAnswer.{ReadAnswer}
use Rattle.hgs_reader.specs.declared.find.RevlogPaths.{RevlogPaths}
use Rattle.hgs_load.specs.View.{revlog_refusal}
use Rattle.hgs_revlog.specs.Add.{added, next_entry}
use Rattle.hgs_revlog.specs.declared.fault.RevFault.{RevFault}
use Rattle.hgs_revlog.specs.Log.{Log, place_of, stored_sum}
use Rattle.hgs_transaction.specs.declared.parts.Appending.{Appending}
use Rattle.hgs_transaction.specs.declared.parts.Change.{Change}
use Rattle.hgs_transaction.specs.declared.parts.Change.TheVariants.{Append}
use Rattle.hgs_commit.specs.Appended.{append_some, optional_append}
use Rattle.hgs_commit.specs.Obstacles.{Obstacle, passes, collides}
use Rattle.hgs_commit.specs.Revised.{revised}
use Rattle.hgs_commit.specs.declared.appended.Growth.{Growth}
use Rattle.hgs_commit.specs.declared.growth.Became.{Became}
use Rattle.hgs_commit.specs.declared.growth.Became.TheVariants.{Standing, New, Hindered}
use Rattle.hgs_commit.specs.declared.growth.Revised.{Revised}
use Rattle.hgs_commit.specs.declared.new_text.NewText.{NewText}
use Rattle.hgs_commit.specs.declared.hindrance_kind.Hindrance.TheVariants.{Collision, Limit}

-- a revlog: the paths of its index and of its data file, and its entries
pub record OfLog : Type 0 where
  pub index : List ℕ
  pub chunks : List ℕ
  pub log : Log

abbrev pub log_at : RevlogPaths → Log → OfLog
log_at paths log = record { index = paths.index; chunks = paths.chunks; log = log }

-- ---- what is appended

-- its chunk to the data file, if it has bytes, and its entry to the index, where that is inline with the chunk behind it
pub record OfGrowth : Type 0 where
  pub chunk : List Change
  pub entry : Appending

abbrev pub growth_as : Bool → OfLog → List ℕ → List ℕ → OfGrowth
growth_as true f entry chunk = record {
  chunk = [];
  entry = record { path = f.index; before = 64 * length f.log.entries + stored_sum f.log.entries; bytes = entry ++ chunk };
}
growth_as false f entry chunk = record {
  chunk = append_some f.chunks (stored_sum f.log.entries) chunk;
  entry = record { path = f.index; before = 64 * length f.log.entries; bytes = entry };
}

abbrev pub growth_of : OfLog → List ℕ → List ℕ → OfGrowth
growth_of f entry chunk = growth_as f.log.inline f entry chunk

abbrev pub view_growth : Growth → OfGrowth
view_growth g = record { chunk = optional_append g.chunk; entry = g.entry }

abbrev pub changes_of : Option OfGrowth → List Change
changes_of None = []
changes_of (Some g) = g.chunk ++ Append g.entry ∷ []

-- ---- what a text becomes

abbrev pub revlog_answer : {A : Type 0} → List ℕ → Result A RevFault → Result A ReadAnswer
revlog_answer index (Ok x) = Ok x
revlog_answer index (Err fault) = Err (revlog_refusal index fault)

-- where a revision has its node, that one's chunk decides whether it is that revision
abbrev pub revised_in : OfLog → Revision → Tree → Result Revised ReadAnswer
revised_in f r t =
    revlog_answer f.index (revised f.log r (added f.log r (option_map (λ rev. chunk_in_form f.index f.chunks f.log rev t) (place_of f.log.entries (next_entry f.log.entries r).node.0))))

-- a text in a revlog: its node, the revision that it is already, and what is appended of a new one
pub record OfText : Type 0 where
  pub node : List ℕ
  pub standing : Option ℕ
  pub growth : Option OfGrowth

abbrev pub standing_of : Became → Option ℕ
standing_of (Standing rev) = Some rev
standing_of (New entry chunk) = None
standing_of (Hindered why) = None

-- a text whose node is the null node collides with the revision that is none
abbrev pub growth_with : OfLog → Node → Became → Option OfGrowth
growth_with f node (Standing rev) = None
growth_with f node (New entry chunk) = if same null_node node.0 then None else Some (growth_of f entry chunk)
growth_with f node (Hindered why) = None

abbrev pub obstacles_with : OfLog → Node → Became → List Obstacle
obstacles_with f node (Standing rev) = []
obstacles_with f node (New entry chunk) = if same null_node node.0 then collides f.index (length f.log.entries) ∷ [] else []
obstacles_with f node (Hindered (Limit which)) = passes which ∷ []
obstacles_with f node (Hindered (Collision rev)) = collides f.index rev ∷ []

abbrev pub new_text_of : OfLog → Revised → OfText × List Obstacle
new_text_of f r = (record { node = r.node.0; standing = standing_of r.became; growth = growth_with f r.node r.became }, obstacles_with f r.node r.became)

-- the text, and what keeps it from being written
abbrev pub new_text_in : OfLog → Revision → Tree → Result (OfText × List Obstacle) ReadAnswer
new_text_in f r t = and_then (revised_in f r t) (λ became. Ok (new_text_of f became))

-- ---- what contracts see of the code's values

abbrev pub view_text : NewText → OfText
view_text text = record { node = text.node.0; standing = text.standing; growth = option_map view_growth text.growth }
