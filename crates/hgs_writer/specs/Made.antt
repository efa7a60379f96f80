-- Which pieces of a legal log a writer makes.
use Rattle.std.specs.Prelude.{◌≡◌, List, None}
use Rattle.std.specs.List.{AllByRecursion}
use Rattle.hgs_files.specs.declared.op.Op.{Op}
use Rattle.hgs_files.specs.Tree.{Tree}
use Rattle.hgs_journal.specs.Names.{locks}
use Rattle.hgs_legal.specs.Pieces.{LeavesJournal, Piece}
use Rattle.hgs_machine.specs.declared.ended.Short.{Short}
use Rattle.hgs_machine.specs.declared.ended.Short.TheVariants.{Done, Fault, Unfinished, Memory}
use Rattle.hgs_model.specs.Repo.{Repo}
use Rattle.hgs_ops.specs.Operations.{strays}

-- By how it ends, a transaction leads to the next repository, or is taken back, or leaves its journal.
abbrev pub IsPieceOf : Tree → Repo → Repo → Short → List Op → Type 0
IsPieceOf t r next Done log = Piece t r log next
IsPieceOf t r next Fault log = Piece t r log r
IsPieceOf t r next Memory log = Piece t r log r
IsPieceOf t r next (Unfinished published) log = LeavesJournal t r log

-- neither lock stands
abbrev pub HasNoLocks : Tree → Type 0
HasNoLocks t = AllByRecursion (λ lock. t lock ≡ None) locks

-- nothing stands that a transaction may leave behind
abbrev pub HasNoStrays : Tree → Type 0
HasNoStrays t = AllByRecursion (λ stray. t stray ≡ None) strays

-- the transaction is done, or taken back
abbrev pub IsOver : Short → Type 0
IsOver (Unfinished published) = ⊥
IsOver outcome = Unit {0}
