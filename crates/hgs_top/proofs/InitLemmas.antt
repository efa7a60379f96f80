-- Making a repository, call after call.
use Rattle.std.proofs.Common.{◌≡◌, ℕ, List, [], ◌∷◌, ◌++◌, Option, Some, None, Result, Ok, Err, IsSome, unwrap_or, refl, sym, ◌∙◌, ap, subst, append-nil, append_assoc}
use Rattle.std.proofs.lemmas.Option.{none-some}
use Rattle.hgs_files.specs.Theorems.LogLemmas.{after-done, done-append, done-behind, done-whole}
use Rattle.hgs_files.specs.Theorems.TreeLemmas.{after_all-append, with_file-same}
use Rattle.hgs_files.specs.Files.{GoesOn, LeavesPieces, LeavesWhole}
use Rattle.hgs_files.specs.Log.{IsDone}
use Rattle.hgs_files.specs.Tree.{Tree, after_all}
use Rattle.hgs_files.specs.declared.files.FileFault.{FileFault}
use Rattle.hgs_files.specs.declared.files.FileFault.TheVariants.{Failed, Memory}
use Rattle.hgs_files.specs.declared.op.Op.{Op}
use Rattle.hgs_files.specs.declared.op.Op.TheVariants.{Create, Rename}
use Rattle.hgs_load.specs.Open.{requires_path}
use Rattle.hgs_top.specs.Orders.{LeavesInit, init_operations, new_requires, new_requires_path}

abbrev pub written : Op
written = Create new_requires_path new_requires

abbrev pub named : Op
named = Rename new_requires_path requires_path

begun : (done left : List Op) → IsDone (written ∷ []) done left → IsDone init_operations done (left ++ named ∷ [])
begun done left h = done-behind (written ∷ []) (named ∷ []) done left h

-- of what is left and the last operation behind it one is the next
one_left : (done left : List Op) → IsDone init_operations done (left ++ named ∷ []) → (next : Op) × (rest : List Op) × IsDone init_operations done (next ∷ rest)
one_left done [] h = (named, [], h)
one_left done (next ∷ left) h = (next, left ++ named ∷ [], h)

-- its first call was refused
not_written : (fault : FileFault) (done : List Op) → LeavesPieces written (Err fault) done → LeavesInit (Err fault) done
not_written Failed done h = one_left done h.0 (begun done h.0 h.1)
not_written Memory done h = let P : List Op → Type 0 = λ d. LeavesInit (Err Memory) d in subst P (sym h) (written, named ∷ [], refl)

pub put_refused : (old new : Option (List Op)) (fault : FileFault) (put : Result Unit FileFault) → put ≡ Err fault → GoesOn old new (LeavesPieces written put) → GoesOn old new (LeavesInit (Err fault))
put_refused None new fault put p h = h
put_refused (Some old) new fault put p h = let P : Result Unit FileFault → Type 0 = λ r. LeavesPieces written r h.0 in (h.0, h.1, not_written fault h.0 (subst P p h.2))

-- the file that is to be renamed stands
pub stands_written : (old new : Option (List Op)) (start : Tree) (put : Result Unit FileFault) (log : List Op) → put ≡ Ok tt → GoesOn old new (LeavesPieces written put) → new ≡ Some log → IsSome (after_all log start new_requires_path)
stands_written None new start put log p h n = absurd (none-some log (sym h ∙ n))
stands_written (Some old) new start put log p h n =
    let P : Result Unit FileFault → Type 0 = λ r. LeavesPieces written r h.0 in
    let done : IsDone (written ∷ []) h.0 [] = subst P p h.2 in
    let t = after_all old start in
    let log_is : log ≡ old ++ h.0 = ap (λ o. unwrap_or o (let l : List Op = [] in l)) (sym n ∙ h.1) in
    let there : after_all log start new_requires_path ≡ Some new_requires =
    ap (λ l. after_all l start new_requires_path) log_is ∙ ap (λ (u : Tree). u new_requires_path) (after_all-append old h.0 start ∙ after-done (written ∷ []) h.0 [] t done)
    ∙ with_file-same t new_requires_path (Some new_requires) in
    let Q : Option (List ℕ) → Type 0 = λ o. IsSome o in
    subst Q (sym there) refl

ends : (put : List Op) (renamed : Result Unit FileFault) (done : List Op) → IsDone (written ∷ []) put [] → LeavesWhole named renamed done → LeavesInit renamed (put ++ done)
ends put (Ok x) done h w =
    let P : List Op → Type 0 = λ d. IsDone init_operations (put ++ d) [] in
    subst P (sym w) (done-append init_operations put (named ∷ []) (named ∷ []) [] (begun put [] h) (done-whole named))
ends put (Err e) done h w =
    let P : List Op → Type 0 = λ d. LeavesInit (Err e) d in
    subst P (sym (ap (λ d. put ++ d) w ∙ append-nil put)) (named, [], begun put [] h)

pub renamed_behind : (old mid new : Option (List Op)) (put renamed : Result Unit FileFault) → put ≡ Ok tt → GoesOn old mid (LeavesPieces written put) → GoesOn mid new (LeavesWhole named renamed) → GoesOn old new (LeavesInit renamed)
renamed_behind None mid new put renamed p h w = let P : Option (List Op) → Type 0 = λ m. GoesOn m new (LeavesWhole named renamed) in subst P h w
renamed_behind (Some old) mid new put renamed p h w =
    let P : Option (List Op) → Type 0 = λ m. GoesOn m new (LeavesWhole named renamed) in
    let v : GoesOn (Some (old ++ h.0)) new (LeavesWhole named renamed) = subst P h.1 w in
    let Q : Result Unit FileFault → Type 0 = λ r. LeavesPieces written r h.0 in
    (h.0 ++ v.0, v.1 ∙ ap (λ l. Some l) (append_assoc old h.0 v.0), ends h.0 renamed v.0 (subst Q p h.2) v.2)
