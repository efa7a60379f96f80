-- What is left of an operation that was done in pieces, in part: what a stop in it may leave.
use Rattle.std.proofs.Common.{◌≡◌, ℕ, List, [], ◌∷◌, ◌++◌, refl, sym, ◌∙◌, ap, subst, inl, inr, append_assoc, append-nil}
use Rattle.std.specs.Prelude.{Some, ◌⊎◌}
use Rattle.hgs_files.specs.declared.op.Op.{Op}
use Rattle.hgs_files.specs.declared.op.Op.TheVariants.{Append, Cut, Rename, Remove, Create, Sync, Settle}
use Rattle.hgs_files.specs.Tree.{Tree, bytes_at, with_file, apply, after_all}
use Rattle.hgs_files.specs.Log.{append_of_rest, IsPiece, IsDone}
use Rattle.hgs_files.specs.Stop.{StopLeaves}
use Rattle.hgs_files.specs.Theorems.TreeLemmas.{with_file-twice, bytes_at-with_file, after_all-append}
use Rattle.hgs_files.specs.Theorems.LogLemmas.{stopped-in, stopped-before}

-- an append after a write of the same file
pub write-append : (path b more : List ℕ) (t : Tree) → apply (Append path more) (with_file t path (Some b)) ≡ with_file t path (Some (b ++ more))
write-append path b more t =
    ap (λ (c : List ℕ). with_file (with_file t path (Some b)) path (Some (c ++ more))) (bytes_at-with_file t path b)
    ∙ with_file-twice t path (Some b) (Some (b ++ more))

append-append : (path f g : List ℕ) (t : Tree) → apply (Append path g) (apply (Append path f) t) ≡ apply (Append path (f ++ g)) t
append-append path f g t =
    write-append path (bytes_at t path ++ f) g t ∙ ap (λ (b : List ℕ). with_file t path (Some b)) (append_assoc (bytes_at t path) f g)

nothing-to-do : (more left : List Op) → IsDone [] more left → more ≡ []
nothing-to-do [] left h = refl
nothing-to-do (op ∷ more) left h = elim h.1 [ ]

-- nothing was done, or what comes to the append of a front
abbrev Fronts : List ℕ → List ℕ → List Op → Type 0
Fronts path bytes done = (done ≡ []) ⊎ ((front : List ℕ) × (back : List ℕ) × (bytes ≡ front ++ back) × ((t : Tree) → after_all done t ≡ apply (Append path front) t))

fronts-rest : (path b : List ℕ) (more left : List Op) → (IsDone (Append path b ∷ []) more left → Fronts path b more) → IsDone (append_of_rest path b) more left → Fronts path b more
fronts-rest path [] more left go h = inl (nothing-to-do more left h)
fronts-rest path (x ∷ b) more left go h = go h

-- a first piece, and what was done after it
module _ (path : List ℕ) (write : List ℕ → Op) (joins : (f g : List ℕ) (t : Tree) → apply (Append path g) (apply (write f) t) ≡ apply (write (f ++ g)) t) where
  join-fronts : (bytes f b : List ℕ) (op : Op) (more : List Op) → bytes ≡ f ++ b → op ≡ write f → Fronts path b more →
      (front : List ℕ) × (back : List ℕ) × (bytes ≡ front ++ back) × ((t : Tree) → after_all (op ∷ more) t ≡ apply (write front) t)
  join-fronts bytes f b op more e o (inl none) =
      (f, b, e, λ t. ap (λ (l : List Op). after_all l (apply op t)) none ∙ ap (λ (x : Op). apply x t) o)
  join-fronts bytes f b op more e o (inr h) = (
    f ++ h.0,
    h.1,
    e ∙ ap (λ (r : List ℕ). f ++ r) h.2 ∙ sym (append_assoc f h.0 h.1),
    λ t. h.3 (apply op t) ∙ ap (λ (x : Op). apply (Append path h.0) (apply x t)) o ∙ joins f h.0 t,
  )

fronts : (path bytes : List ℕ) (done left : List Op) → IsDone (Append path bytes ∷ []) done left → Fronts path bytes done
fronts path bytes [] left h = inl refl
fronts path bytes (op ∷ more) left h =
    let p = h.1.1 in
    inr (join-fronts path (Append path) (append-append path) bytes p.0 p.1 op more p.2 p.3
    (fronts-rest path p.1 more left (fronts path p.1 more left)
    (subst (λ (l : List Op). IsDone l more left) (h.1.2 ∙ ap (λ (l : List Op). l ++ []) p.4 ∙ append-nil (append_of_rest path p.1)) h.2)))

-- nothing was done of an operation, or what comes to a piece of it
abbrev pub IsInPart : Op → List Op → Type 0
IsInPart op done = (done ≡ []) ⊎ ((piece : Op) × (left : List Op) × IsPiece op piece left × ((t : Tree) → after_all done t ≡ apply piece t))

whole-part : (op : Op) (done left : List Op) → ((piece : Op) (rest : List Op) → IsPiece op piece rest → (piece ≡ op) × (rest ≡ [])) → IsPiece op op [] → IsDone (op ∷ []) done left → IsInPart op done
whole-part op [] left only itself h = inl refl
whole-part op (o ∷ more) left only itself h =
    let p = only o h.1.0 h.1.1 in
    let none = nothing-to-do more left (subst (λ (l : List Op). IsDone l more left) (h.1.2 ∙ ap (λ (l : List Op). l ++ []) p.1) h.2) in
    inr (op, [], itself, λ t. ap (λ (l : List Op). after_all l (apply o t)) none ∙ ap (λ (x : Op). apply x t) p.0)

pub done-in-part : (op : Op) (done left : List Op) → IsDone (op ∷ []) done left → IsInPart op done
done-in-part (Append path bytes) [] left h = inl refl
done-in-part (Append path bytes) (op ∷ more) left h =
    let p = h.1.1 in
    let f = join-fronts path (Append path) (append-append path) bytes p.0 p.1 op more p.2 p.3
    (fronts-rest path p.1 more left (fronts path p.1 more left)
    (subst (λ (l : List Op). IsDone l more left) (h.1.2 ∙ ap (λ (l : List Op). l ++ []) p.4 ∙ append-nil (append_of_rest path p.1)) h.2)) in
    inr (Append path f.0, append_of_rest path f.1, (f.0, f.1, f.2, refl, refl), f.3)
done-in-part (Create path bytes) [] left h = inl refl
done-in-part (Create path bytes) (op ∷ more) left h =
    let p = h.1.1 in
    let f = join-fronts path (Create path) (write-append path) bytes p.0 p.1 op more p.2 p.3
    (fronts-rest path p.1 more left (fronts path p.1 more left)
    (subst (λ (l : List Op). IsDone l more left) (h.1.2 ∙ ap (λ (l : List Op). l ++ []) p.4 ∙ append-nil (append_of_rest path p.1)) h.2)) in
    inr (Create path f.0, append_of_rest path f.1, (f.0, f.1, f.2, refl, refl), f.3)
done-in-part (Cut path len) done left h = whole-part (Cut path len) done left (λ piece rest p. p) (refl, refl) h
done-in-part (Rename from to) done left h = whole-part (Rename from to) done left (λ piece rest p. p) (refl, refl) h
done-in-part (Remove path) done left h = whole-part (Remove path) done left (λ piece rest p. p) (refl, refl) h
done-in-part (Sync path) done left h = whole-part (Sync path) done left (λ piece rest p. p) (refl, refl) h
done-in-part Settle done left h = whole-part Settle done left (λ piece rest p. p) (refl, refl) h

in-part-stops : (start : Tree) (log done : List Op) (op : Op) → IsInPart op done → StopLeaves start (log ++ op ∷ []) (after_all (log ++ done) start)
in-part-stops start log done op (inl none) =
    (log, stopped-before log (op ∷ []), ap (λ (l : List Op). after_all (log ++ l) start) none ∙ ap (λ (l : List Op). after_all l start) (append-nil log))
in-part-stops start log done op (inr h) = (
  log ++ h.0 ∷ [],
  stopped-in log [] op h.0 h.1 h.2,
  after_all-append log done start ∙ h.3 (after_all log start) ∙ sym (after_all-append log (h.0 ∷ []) start),
)

-- A call that did its operation in part leaves what a stop in the log with that operation may leave.
pub done-stops : (start : Tree) (log done left : List Op) (op : Op) → IsDone (op ∷ []) done left → StopLeaves start (log ++ op ∷ []) (after_all (log ++ done) start)
done-stops start log done left op h = in-part-stops start log done op (done-in-part op done left h)
