-- What a text becomes in a revlog, as the list of its revisions has it.
use Rattle.std.specs.Prelude.{◌≡◌, ◌≤◌, ℕ, List, [], length, Option, Some, None}
use Rattle.hgs_index.specs.Entry.{entry_bytes}
use Rattle.hgs_index.specs.Revision.{Revision, number_of, standing as standing_in, with_revision}
use Rattle.hgs_index.specs.Revlog.{chunk_of}
use Rattle.hgs_model.specs.History.{node_at}
use Rattle.hgs_ops.specs.Unhindered.{AreNewRevisions}
use Rattle.hgs_revlog.specs.Add.{next_entry}
use Rattle.hgs_revlog.specs.Load.{most_revisions}
use Rattle.hgs_revlog.specs.Log.{new_header}
use Rattle.hgs_commit.specs.Obstacles.{Obstacle}
use Rattle.hgs_commit.specs.Texts.{OfGrowth, OfLog, OfText, growth_of}

-- nothing is appended of a revision that stands, and of another its entry and its chunk
abbrev pub growth_by : OfLog → Revision → Option ℕ → Option OfGrowth
growth_by f r (Some rev) = None
growth_by f r None = Some (growth_of f (entry_bytes (next_entry f.log.entries r) (new_header f.log)) (chunk_of r.text))

-- The text has the node that the revision has in the list with it, and is the revision that the list has of it already, if it
-- has one; and where nothing keeps it from being written, what is appended is the revision if it is new, and the list has no more than may be.
pub record IsTextOf (f : OfLog) (revisions : List Revision) (r : Revision) (x : OfText × List Obstacle) : Type 0 where
  pub node : x.0.node ≡ node_at (with_revision revisions r) (number_of revisions r.text r.parents)
  pub standing : x.0.standing ≡ standing_in revisions r.text r.parents
  pub growth : x.1 ≡ [] → x.0.growth ≡ growth_by f r (standing_in revisions r.text r.parents)
  pub fresh : x.1 ≡ [] → AreNewRevisions revisions (with_revision revisions r)
  pub few : x.1 ≡ [] → length (with_revision revisions r) ≤ most_revisions
