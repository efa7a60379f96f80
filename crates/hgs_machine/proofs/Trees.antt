-- The tree after what was done in pieces.
use Rattle.std.proofs.Common.{◌≡◌, ℕ, ◌<◌, ◌≤◌, Bool, true, false, cond, List, [], ◌∷◌, ◌++◌, length, take, refl, sym, ◌∙◌, ap, subst, arith, append_assoc, append-nil}
use Rattle.std.specs.Prelude.{Option, Some}
use Rattle.std.specs.Cmp.{eq_by_cmp_equiv}
use Rattle.std.specs.Cmp.Lexicographic.{nat_list_cmp_total}
use Rattle.hgs_files.specs.declared.op.Op.{Op}
use Rattle.hgs_files.specs.declared.op.Op.TheVariants.{Append, Cut, Rename, Remove, Create, Sync, Settle}
use Rattle.hgs_files.specs.Log.{append_of_rest, IsPiece, Does, IsDone}
use Rattle.hgs_files.specs.Tree.{Tree, same_path, bytes_at, with_file, apply, after_all}
use Rattle.hgs_transaction.specs.declared.assemble.Plan.{Plan}
use Rattle.hgs_machine.specs.Course.{before_journal, between}
use Rattle.hgs_machine.specs.SoFar.{WorksTo}
use Rattle.hgs_machine.proofs.Lists.{between-split}

pub same_path-refl : (p : List ℕ) → same_path p p ≡ true
same_path-refl p = (eq_by_cmp_equiv nat_list_cmp_total).refl p

twice : {A : Type 0} (b : Bool) (x y z : A) → cond b y (cond b x z) ≡ cond b y z
twice true x y z = refl
twice false x y z = refl

with_file-twice : (t : Tree) (p : List ℕ) (x y : Option (List ℕ)) → with_file (with_file t p x) p y ≡ with_file t p y
with_file-twice t p x y = λ i q. twice (same_path p q) x y (t q) i

bytes_at-with_file : (t : Tree) (p b : List ℕ) → bytes_at (with_file t p (Some b)) p ≡ b
bytes_at-with_file t p b = rw (same_path-refl p)

pub after_all-append : (xs ys : List Op) (t : Tree) → after_all (xs ++ ys) t ≡ after_all ys (after_all xs t)
after_all-append [] ys t = refl
after_all-append (x ∷ xs) ys t = after_all-append xs ys (apply x t)

-- ---- pieces

after_rest : (path front back : List ℕ) (t : Tree) → after_all (append_of_rest path back) (with_file t path (Some front)) ≡ with_file t path (Some (front ++ back))
after_rest path front [] t = ap (λ b. with_file t path (Some b)) (sym (append-nil front))
after_rest path front (b ∷ back) t =
    ap (λ f. with_file (with_file t path (Some front)) path (Some (f ++ b ∷ back))) (bytes_at-with_file t path front)
    ∙ with_file-twice t path (Some front) (Some (front ++ b ∷ back))

after-piece : (op piece : Op) (left : List Op) (t : Tree) → IsPiece op piece left → after_all left (apply piece t) ≡ apply op t
after-piece (Append path bytes) piece left t h =
    ap (λ l. after_all l (apply piece t)) h.4 ∙ ap (λ p. after_all (append_of_rest path h.1) (apply p t)) h.3
    ∙ after_rest path (bytes_at t path ++ h.0) h.1 t
    ∙ ap (λ b. with_file t path (Some b)) (append_assoc (bytes_at t path) h.0 h.1 ∙ ap (λ b. bytes_at t path ++ b) (sym h.2))
after-piece (Create path bytes) piece left t h =
    ap (λ l. after_all l (apply piece t)) h.4 ∙ ap (λ p. after_all (append_of_rest path h.1) (apply p t)) h.3
    ∙ after_rest path h.0 h.1 t
    ∙ ap (λ b. with_file t path (Some b)) (sym h.2)
after-piece (Cut path len) piece left t h = ap (λ l. after_all l (apply piece t)) h.1 ∙ ap (λ p. apply p t) h.0
after-piece (Rename from to) piece left t h = ap (λ l. after_all l (apply piece t)) h.1 ∙ ap (λ p. apply p t) h.0
after-piece (Remove path) piece left t h = ap (λ l. after_all l (apply piece t)) h.1 ∙ ap (λ p. apply p t) h.0
after-piece (Sync path) piece left t h = ap (λ l. after_all l (apply piece t)) h.1 ∙ ap (λ p. apply p t) h.0
after-piece Settle piece left t h = ap (λ l. after_all l (apply piece t)) h.1 ∙ ap (λ p. apply p t) h.0

after-does : (ops left : List Op) (piece : Op) (t : Tree) → Does ops piece left → after_all left (apply piece t) ≡ after_all ops t
after-does [] left piece t h = elim h [ ]
after-does (op ∷ ops) left piece t h =
    ap (λ l. after_all l (apply piece t)) h.2 ∙ after_all-append h.0 ops (apply piece t) ∙ ap (after_all ops) (after-piece op piece h.0 t h.1)

-- what was done, and then what is left, do what the list does
pub after-done : (ops log left : List Op) (t : Tree) → IsDone ops log left → after_all left (after_all log t) ≡ after_all ops t
after-done ops [] left t h = ap (λ l. after_all l t) (sym h)
after-done ops (op ∷ log) left t h = after-done h.0 log left (apply op t) h.2 ∙ after-does ops h.0 op t h.1

-- the tree of a transaction up to a place
pub after-working : (p : Plan) (done : ℕ) (log : List Op) (t : Tree) → p.journal ≤ done → WorksTo p done log → after_all log t ≡ after_all (take done p.ops.items) t
after-working p done log t within h =
    ap (λ (l : List Op). after_all l t) h.whole ∙ after_all-append h.prepared (h.first ∷ h.more) t
    ∙ ap (after_all (h.first ∷ h.more)) (after-done (before_journal p) h.prepared [] t h.all_prepared)
    ∙ after-done (between p.journal done p.ops.items) (h.first ∷ h.more) [] (after_all (before_journal p) t) h.done
    ∙ sym (after_all-append (before_journal p) (between p.journal done p.ops.items) t)
    ∙ ap (λ (l : List Op). after_all l t) (sym (between-split p.ops.items 0 p.journal done (omega arith) within))

-- ---- an append in part

nothing-more : (more left : List Op) → IsDone [] more left → more ≡ []
nothing-more [] left h = refl
nothing-more (op ∷ more) left h = elim h.1 [ ]

nothing-left : (left : List Op) → IsDone [] [] left → left ≡ []
nothing-left left h = sym h

pub record AppendedInPart (path bytes : List ℕ) (log left : List Op) (t : Tree) : Type 0 where
  pub front : List ℕ
  pub back : List ℕ
  pub whole : bytes ≡ front ++ back
  pub rest : left ≡ append_of_rest path back
  pub now : bytes_at (after_all log t) path ≡ bytes_at t path ++ front

appended : (path front : List ℕ) (op : Op) (t : Tree) → op ≡ Append path front → bytes_at (apply op t) path ≡ bytes_at t path ++ front
appended path front op t e = ap (λ (o : Op). bytes_at (apply o t) path) e ∙ bytes_at-with_file t path (bytes_at t path ++ front)

join : (path bytes : List ℕ) (op : Op) (log left : List Op) (t : Tree) (front back : List ℕ) → bytes ≡ front ++ back → op ≡ Append path front → IsDone (append_of_rest path back) log left
    → ((x : ℕ) (bs : List ℕ) → IsDone (Append path (x ∷ bs) ∷ []) log left → AppendedInPart path (x ∷ bs) log left (apply op t)) → AppendedInPart path bytes (op ∷ log) left t
join path bytes op log left t front [] whole is d more =
    let none = nothing-more log left d in
    record {
      front = front;
      back = [];
      whole = whole;
      rest = nothing-left left (subst (λ (l : List Op). IsDone [] l left) none d);
      now = ap (λ (l : List Op). bytes_at (after_all l (apply op t)) path) none ∙ appended path front op t is;
    }
join path bytes op log left t front (x ∷ bs) whole is d more =
    let rest = more x bs d in
    record {
      front = front ++ rest.front;
      back = rest.back;
      whole = whole ∙ ap (λ (l : List ℕ). front ++ l) rest.whole ∙ sym (append_assoc front rest.front rest.back);
      rest = rest.rest;
      now = rest.now ∙ ap (λ (l : List ℕ). l ++ rest.front) (appended path front op t is) ∙ append_assoc (bytes_at t path) front rest.front;
    }

pub in-part : (path bytes : List ℕ) (log left : List Op) (t : Tree) → 0 < length bytes → IsDone (Append path bytes ∷ []) log left → AppendedInPart path bytes log left t
in-part path [] [] left t some h = absurd (omega arith)
in-part path (b ∷ bytes) [] left t some h = record { front = []; back = b ∷ bytes; whole = refl; rest = sym h; now = sym (append-nil (bytes_at t path)) }
in-part path bytes (op ∷ log) left t some h =
    let piece = h.1.1 in
    join path bytes op log left t piece.0 piece.1 piece.2 piece.3 (subst (λ (l : List Op). IsDone l log left) (h.1.2 ∙ append-nil h.1.0 ∙ piece.4) h.2) (λ x bs d. in-part path (x ∷ bs) log left (apply op t) (omega arith) d)
