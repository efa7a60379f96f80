-- What pieces and stops leave.
use Rattle.std.proofs.lemmas.Fn.{FoldsTo-push}
use Rattle.std.proofs.Common.{◌≡◌, ℕ, List, [], ◌∷◌, ◌++◌, refl, sym, ◌∙◌, ap, subst, inl, inr, length, arith, append_assoc, append-nil}
use Rattle.std.specs.Prelude.{Some}
use Rattle.hgs_files.specs.declared.op.Op.{Op}
use Rattle.hgs_files.specs.declared.op.Op.TheVariants.{Append, Cut, Rename, Remove, Create, Sync, Settle}
use Rattle.hgs_files.specs.Tree.{Tree, bytes_at, with_file, apply, after_all}
use Rattle.hgs_files.specs.Log.{append_of_rest, IsPiece, Does, IsDone}
use Rattle.hgs_files.specs.Stop.{IsStopped, StopLeaves}
use Rattle.hgs_files.specs.Theorems.TreeLemmas.{with_file-twice, bytes_at-with_file, after_all-append}

-- an append of nothing more
after_rest : (path front back : List ℕ) (t : Tree) → after_all (append_of_rest path back) (with_file t path (Some front)) ≡ with_file t path (Some (front ++ back))
after_rest path front [] t = ap (λ b. with_file t path (Some b)) (sym (append-nil front))
after_rest path front (b ∷ back) t =
    ap (λ f. with_file (with_file t path (Some front)) path (Some (f ++ b ∷ back))) (bytes_at-with_file t path front)
    ∙ with_file-twice t path (Some front) (Some (front ++ b ∷ back))

-- a piece and then what is left of it do what the operation does
pub after-piece : (op piece : Op) (left : List Op) (t : Tree) → IsPiece op piece left → after_all left (apply piece t) ≡ apply op t
after-piece (Append path bytes) piece left t h =
    ap (λ l. after_all l (apply piece t)) h.4 ∙ ap (λ p. after_all (append_of_rest path h.1) (apply p t)) h.3
    ∙ after_rest path (bytes_at t path ++ h.0) h.1 t
    ∙ ap (λ b. with_file t path (Some b)) (append_assoc (bytes_at t path) h.0 h.1 ∙ ap (λ b. bytes_at t path ++ b) (sym h.2))
after-piece (Create path bytes) piece left t h =
    ap (λ l. after_all l (apply piece t)) h.4 ∙ ap (λ p. after_all (append_of_rest path h.1) (apply p t)) h.3
    ∙ after_rest path h.0 h.1 t
    ∙ ap (λ b. with_file t path (Some b)) (sym h.2)
after-piece (Cut path len) piece left t h = ap (λ l. after_all l (apply piece t)) h.1 ∙ ap (λ p. apply p t) h.0
after-piece (Rename from to) piece left t h = ap (λ l. after_all l (apply piece t)) h.1 ∙ ap (λ p. apply p t) h.0
after-piece (Remove path) piece left t h = ap (λ l. after_all l (apply piece t)) h.1 ∙ ap (λ p. apply p t) h.0
after-piece (Sync path) piece left t h = ap (λ l. after_all l (apply piece t)) h.1 ∙ ap (λ p. apply p t) h.0
after-piece Settle piece left t h = ap (λ l. after_all l (apply piece t)) h.1 ∙ ap (λ p. apply p t) h.0

pub after-does : (ops left : List Op) (piece : Op) (t : Tree) → Does ops piece left → after_all left (apply piece t) ≡ after_all ops t
after-does [] left piece t h = elim h [ ]
after-does (op ∷ ops) left piece t h =
    ap (λ l. after_all l (apply piece t)) h.2 ∙ after_all-append h.0 ops (apply piece t) ∙ ap (after_all ops) (after-piece op piece h.0 t h.1)

-- what was done, and then what is left, do what the list does
pub after-done : (ops log left : List Op) (t : Tree) → IsDone ops log left → after_all left (after_all log t) ≡ after_all ops t
after-done ops [] left t h = ap (λ l. after_all l t) (sym h)
after-done ops (op ∷ log) left t h = after-done h.0 log left (apply op t) h.2 ∙ after-does ops h.0 op t h.1

-- ---- pieces, one after another

-- one more piece was done
pub done-more : (ops log mid left : List Op) (piece : Op) → IsDone ops log mid → Does mid piece left → IsDone ops (log ++ piece ∷ []) left
done-more ops log mid left piece h d = FoldsTo-push Does ops log mid piece left h d

-- what was done, and then some of what was left
pub done-append : (ops a mid b left : List Op) → IsDone ops a mid → IsDone mid b left → IsDone ops (a ++ b) left
done-append ops [] mid b left e d = subst (λ (l : List Op). IsDone l b left) (sym e) d
done-append ops (op ∷ a) mid b left h d = (h.0, h.1, done-append h.0 a mid b left h.2 d)

does-behind : (ops more left : List Op) (piece : Op) → Does ops piece left → Does (ops ++ more) piece (left ++ more)
does-behind [] more left piece h = elim h [ ]
does-behind (op ∷ ops) more left piece h = (h.0, h.1, ap (λ l. l ++ more) h.2 ∙ append_assoc h.0 ops more)

-- what is to do behind stays to do
pub done-behind : (ops more log left : List Op) → IsDone ops log left → IsDone (ops ++ more) log (left ++ more)
done-behind ops more [] left e = ap (λ l. l ++ more) e
done-behind ops more (op ∷ log) left h = (h.0 ++ more, does-behind ops more h.0 op h.1, done-behind h.0 more log left h.2)

-- an operation done whole is one piece of itself
pub piece-whole : (op : Op) → IsPiece op op []
piece-whole (Append path bytes) = (bytes, [], sym (append-nil bytes), refl, refl)
piece-whole (Create path bytes) = (bytes, [], sym (append-nil bytes), refl, refl)
piece-whole (Cut path len) = (refl, refl)
piece-whole (Rename from to) = (refl, refl)
piece-whole (Remove path) = (refl, refl)
piece-whole (Sync path) = (refl, refl)
piece-whole Settle = (refl, refl)

pub done-whole : (op : Op) → IsDone (op ∷ []) (op ∷ []) []
done-whole op = ([], ([], piece-whole op, refl), refl)

-- a front of an append, and the append of the rest to do
pub done-front : (path front back : List ℕ) → IsDone (Append path (front ++ back) ∷ []) (Append path front ∷ []) (append_of_rest path back)
done-front path front back = (append_of_rest path back, (append_of_rest path back, (front, back, refl, refl, refl), sym (append-nil (append_of_rest path back))), refl)

-- ---- pieces of pieces

-- a piece of a piece is a piece
pub piece-piece : (op piece part : Op) (left rest : List Op) → IsPiece op piece left → IsPiece piece part rest → (l : List Op) × IsPiece op part l
piece-piece (Append path bytes) piece part left rest h k =
    let q = subst (λ (x : Op). IsPiece x part rest) h.3 k in
    (append_of_rest path (q.1 ++ h.1), (q.0, q.1 ++ h.1, h.2 ∙ ap (λ f. f ++ h.1) q.2 ∙ append_assoc q.0 q.1 h.1, q.3, refl))
piece-piece (Create path bytes) piece part left rest h k =
    let q = subst (λ (x : Op). IsPiece x part rest) h.3 k in
    (append_of_rest path (q.1 ++ h.1), (q.0, q.1 ++ h.1, h.2 ∙ ap (λ f. f ++ h.1) q.2 ∙ append_assoc q.0 q.1 h.1, q.3, refl))
piece-piece (Cut path len) piece part left rest h k = let q = subst (λ (x : Op). IsPiece x part rest) h.0 k in ([], (q.0, refl))
piece-piece (Rename from to) piece part left rest h k = let q = subst (λ (x : Op). IsPiece x part rest) h.0 k in ([], (q.0, refl))
piece-piece (Remove path) piece part left rest h k = let q = subst (λ (x : Op). IsPiece x part rest) h.0 k in ([], (q.0, refl))
piece-piece (Sync path) piece part left rest h k = let q = subst (λ (x : Op). IsPiece x part rest) h.0 k in ([], (q.0, refl))
piece-piece Settle piece part left rest h k = let q = subst (λ (x : Op). IsPiece x part rest) h.0 k in ([], (q.0, refl))

-- what may be done next may be done in part
pub does-piece : (ops left rest : List Op) (piece part : Op) → Does ops piece left → IsPiece piece part rest → (l : List Op) × Does ops part l
does-piece [] left rest piece part h k = elim h [ ]
does-piece (op ∷ ops) left rest piece part h k = let p = piece-piece op piece part h.0 rest h.1 k in (p.0 ++ ops, (p.0, p.1, refl))

-- ---- stops

-- a log that was stopped was done in part
pub stopped-done : (log done : List Op) → IsStopped log done → (left : List Op) × IsDone log done left
stopped-done [] done e = ([], subst (λ (l : List Op). IsDone [] l []) (sym e) refl)
stopped-done (op ∷ log) done (inl e) = (op ∷ log, subst (λ (l : List Op). IsDone (op ∷ log) l (op ∷ log)) (sym e) refl)
stopped-done (op ∷ log) done (inr (inl h)) =
    (h.1 ++ log, subst (λ (l : List Op). IsDone (op ∷ log) l (h.1 ++ log)) (sym h.3) (h.1 ++ log, (h.1, h.2, refl), refl))
stopped-done (op ∷ log) done (inr (inr h)) =
    let more = stopped-done log h.0 h.1 in
    (more.0, subst (λ (l : List Op). IsDone (op ∷ log) l more.0) (sym h.2) (log, ([], piece-whole op, refl), more.1))

-- what a stop leaves is the tree after the log as it was done in part
pub stop-leaves-done : (start t : Tree) (log : List Op) → StopLeaves start log t → (done : List Op) × (left : List Op) × IsDone log done left × (t ≡ after_all done start)
stop-leaves-done start t log h = let d = stopped-done log h.0 h.1 in (h.0, d.0, d.1, h.2)

-- a stop may come right before an operation, or in it
pub stopped-in : (log more : List Op) (op piece : Op) (left : List Op) → IsPiece op piece left → IsStopped (log ++ op ∷ more) (log ++ piece ∷ [])
stopped-in [] more op piece left p = inr (inl (piece, left, p, refl))
stopped-in (o ∷ log) more op piece left p = inr (inr (log ++ piece ∷ [], stopped-in log more op piece left p, refl))

pub stopped-before : (log more : List Op) → IsStopped (log ++ more) log
stopped-before [] [] = refl
stopped-before [] (op ∷ more) = inl refl
stopped-before (o ∷ log) more = inr (inr (log, stopped-before log more, refl))

-- ---- fronts

none_left : (more : List Op) → IsDone [] more [] → more ≡ []
none_left [] h = refl
none_left (op ∷ more) h = elim h.1 [ ]

longer-rest : (path back : List ℕ) (b : List ℕ) (more : List Op) → ((x : ℕ) (bs : List ℕ) → b ≡ x ∷ bs → IsDone (Append path b ∷ []) more [] → IsDone (Append path (b ++ back) ∷ []) more (append_of_rest path back)) →
    IsDone (append_of_rest path b) more [] → IsDone (append_of_rest path (b ++ back)) more (append_of_rest path back)
longer-rest path back [] more go h = subst (λ (l : List Op). IsDone (append_of_rest path back) l (append_of_rest path back)) (sym (none_left more h)) refl
longer-rest path back (x ∷ b) more go h = go x b refl h

-- What was done of an append in pieces was done of an append of more bytes, and the rest is left.
pub done-longer : (path front back : List ℕ) (done : List Op) → IsDone (Append path front ∷ []) done [] → IsDone (Append path (front ++ back) ∷ []) done (append_of_rest path back)
done-longer path front back [] h = absurd (omega (arith, ap length h))
done-longer path front back (op ∷ done) h =
    let p = h.1.1 in
    let mid : List Op = append_of_rest path (p.1 ++ back) in (
      mid,
      (mid, (p.0, p.1 ++ back, ap (λ b. b ++ back) p.2 ∙ append_assoc p.0 p.1 back, p.3, refl), sym (append-nil mid)),
      longer-rest path back p.1 done (λ x bs e d. done-longer path p.1 back done d)
          (subst (λ (l : List Op). IsDone l done []) (h.1.2 ∙ ap (λ l. l ++ []) p.4 ∙ append-nil (append_of_rest path p.1)) h.2),
    )

-- a creation of a front, with the append of the rest to do
pub create-front : (path front back : List ℕ) → IsDone (Create path (front ++ back) ∷ []) (Create path front ∷ []) (append_of_rest path back)
create-front path front back = (append_of_rest path back, (append_of_rest path back, (front, back, refl, refl, refl), sym (append-nil (append_of_rest path back))), refl)
