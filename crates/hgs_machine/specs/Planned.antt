-- Which plans can be carried out from a tree.
use Rattle.std.specs.Prelude.{◌≡◌, ℕ, ◌<◌, List, [], ◌∷◌, ◌++◌, take, drop, length, IsSome, slice_get, Some}
use Rattle.hgs_files.specs.declared.op.Op.{Op}
use Rattle.hgs_files.specs.declared.op.Op.TheVariants.{Append, Rename, Remove}
use Rattle.hgs_files.specs.Tree.{Tree, after_all, apply, bytes_at}
use Rattle.hgs_journal.specs.Names.{journal_path, new_journal_path}
use Rattle.hgs_ops.specs.Operations.{removals}
use Rattle.hgs_transaction.specs.declared.assemble.Plan.{Plan}

-- the file that a rename takes stands
abbrev pub HasSource : Op → Tree → Type 0
HasSource (Rename from to) t = IsSome (t from)
HasSource _ t = Unit {0}

-- the file that each rename takes stands when it comes
abbrev pub SourcesStand : List Op → Tree → Type 0
SourcesStand [] t = Unit {0}
SourcesStand (op ∷ ops) t = HasSource op t × SourcesStand ops (apply op t)

-- an operation that publishes: an append of some bytes to a file that is so long, or a rename
abbrev pub Publishes : Tree → ℕ → Op → Type 0
Publishes t before (Append path bytes) = (0 < length bytes) × (length (bytes_at t path) ≡ before)
Publishes t before (Rename from to) = Unit {0}
Publishes t before _ = ⊥

-- A plan that can be carried out from this tree: its places are in order, at the journal's place it gets its name, the journal's removal and the removals behind it stand
-- at its end, and in its list of undoing the journal's removal; the files that it renames stand when they come, also where it is
-- undone from anywhere; and the file that its publishing operation appends to is as long as it says.
pub record IsPlanned (t : Tree) (p : Plan) : Type 0 where
  pub begins : 0 < p.journal
  pub journal : p.journal < p.publish
  pub publish : p.publish < p.commit
  pub named : slice_get p.ops.items p.journal ≡ Some (Rename new_journal_path journal_path)
  pub commit : drop p.commit p.ops.items ≡ Remove journal_path ∷ removals
  pub undo : (front : List Op) × (p.undo.items ≡ front ++ Remove journal_path ∷ [])
  pub publishing : Op
  pub at_publish : slice_get p.ops.items p.publish ≡ Some publishing
  pub publishes : Publishes (after_all (take p.publish p.ops.items) t) p.before publishing
  pub sources : SourcesStand p.ops.items t
  pub undo_sources : (u : Tree) → SourcesStand p.undo.items u
