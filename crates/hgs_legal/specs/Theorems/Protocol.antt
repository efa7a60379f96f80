-- Of a list of operations it is known that it is legal, and not to which state it leads.
use Rattle.std.specs.Prelude.{List, [], ◌∷◌, ◌++◌}
use Rattle.std.proofs.Math.Logic.{∥∥₁_map}
use Rattle.hgs_files.specs.declared.op.Op.{Op}
use Rattle.hgs_files.specs.Log.{IsPiece}
use Rattle.hgs_files.specs.Tree.{Tree}
use Rattle.hgs_legal.specs.LegalLog.{IsLegal}
use Rattle.hgs_legal.specs.Theorems.Prefixes.{empty-legal, prefix-legal}
use Rattle.hgs_legal.specs.Theorems.StopLemmas.{front-legal}

pub nothing-legal : (start : Tree) → ∥ IsLegal start [] ∥₁
nothing-legal start = ∣ empty-legal start ∣₁

pub front-of-legal : (start : Tree) (log more : List Op) → ∥ IsLegal start (log ++ more) ∥₁ → ∥ IsLegal start log ∥₁
front-of-legal start log more h = ∥∥₁_map h (λ l. prefix-legal start log more l)

pub piece-of-legal : (start : Tree) (log : List Op) (op piece : Op) (left : List Op) → ∥ IsLegal start (log ++ op ∷ []) ∥₁ → IsPiece op piece left → ∥ IsLegal start (log ++ piece ∷ []) ∥₁
piece-of-legal start log op piece left h part = ∥∥₁_map h (λ l. front-legal start log op piece left l part)
