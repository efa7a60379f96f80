-- The file that makes a repository.
use Rattle.std.proofs.Common.{◌≡◌, ℕ, List, [], ◌∷◌, ◌++◌, Some, None, Result, Ok, unwrap_or, ◌∙◌, ap, subst}
use Rattle.std.specs.Prelude.{if◌then◌else◌}
use Rattle.hgs_files.specs.Theorems.LogLemmas.{after-done}
use Rattle.hgs_files.specs.Files.{GoesOn, LeavesPieces}
use Rattle.hgs_files.specs.Log.{IsDone}
use Rattle.hgs_files.specs.Tree.{Tree, after_all, same_path}
use Rattle.hgs_files.specs.declared.files.FileFault.{FileFault}
use Rattle.hgs_files.specs.declared.op.Op.{Op}
use Rattle.hgs_files.specs.declared.op.Op.TheVariants.{Create}
use Rattle.hgs_load.specs.Open.{requires_path}
use Rattle.hgs_world.specs.Start.{new_requires, new_tree}

abbrev pub written : Op
written = Create requires_path new_requires

pub made : (old new : List Op) (start : Tree) (put : Result Unit FileFault) → old ≡ [] → put ≡ Ok tt → GoesOn (Some old) (Some new) (LeavesPieces written put) → ((path : List ℕ) → start path ≡ None) → (path : List ℕ) → after_all new start path ≡ new_tree path
made old new start put o p h empty path =
    let P : Result Unit FileFault → Type 0 = λ r. LeavesPieces written r h.0 in
    let done : IsDone (written ∷ []) h.0 [] = subst P p h.2 in
    let is : new ≡ h.0 = ap (λ l. unwrap_or l (let none : List Op = [] in none)) h.1 ∙ ap (λ l. l ++ h.0) o in
    ap (λ l. after_all l start path) is ∙ ap (λ (u : Tree). u path) (after-done (written ∷ []) h.0 [] start done)
    ∙ ap (λ r. if same_path requires_path path then Some new_requires else r) (empty path)
