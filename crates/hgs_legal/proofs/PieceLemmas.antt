-- A log that is made of whole pieces is legal.
use Rattle.std.proofs.Common.{◌≡◌, ℕ, ◌-◌, List, [], ◌∷◌, ◌++◌, length, map, take, take_at, refl, sym, ◌∙◌, ap, subst, inl, inr, arith, append_assoc, append-nil, length-append}
use Rattle.std.specs.Prelude.{Option, Some, None}
use Rattle.hgs_files.specs.declared.op.Op.{Op}
use Rattle.hgs_files.specs.declared.op.Op.TheVariants.{Create, Remove}
use Rattle.hgs_files.specs.Tree.{Tree, apply, after_all}
use Rattle.hgs_files.specs.Log.{Does, IsDone}
use Rattle.hgs_files.specs.Theorems.TreeLemmas.{after_all-append}
use Rattle.hgs_model.specs.Repo.{Repo}
use Rattle.hgs_journal.specs.Names.{journal_path}
use Rattle.hgs_ops.specs.Operations.{lock_path, removals, strays, wlock_path}
use Rattle.hgs_stands.specs.Stands.{IsClean}
use Rattle.hgs_legal.specs.LegalLog.{Acts, Doing, Goes, Idle, IsLegal, IsTurn, Leaves, Preparing, Published, Refused, Run, State, Turn, Undoing, Working, begins, breaks, breaks_after, breaks_undo, finished, finishes, gives_up, goes_on_knocking, goes_on_undoing, is_refused, journals, knocks, knocks_again, last_repo, lock_removals, prepares, removes, start_of, stays, through_publishing, through_removal, to_publishing, undoes, undone, works}
use Rattle.hgs_legal.specs.Pieces.{AreSome, HasBegun, LeavesJournal, Piece, Pieces, Refusal, Refusals, and_then, at_last, before, behind, given_up, no_more, no_pieces, once, one_more, refused, twice, was_undone, whole_list, within}
use Rattle.hgs_legal.proofs.Invariant.{kept_at, less-none}
use Rattle.hgs_legal.specs.Theorems.Runs.{run-join, run-split}

-- a state, field by field
abbrev at : Tree → Repo → List Turn → Doing → State
at t f done_so d = record { files = t; first = f; published = done_so; doing = d }

-- one step that publishes nothing
step : (t : Tree) (f : Repo) (done_so : List Turn) (d there e : Doing) (op : Op) → Leaves d there → Acts t (last_repo f done_so) there op [] e → Goes (at t f done_so d) op (at (apply op t) f done_so e)
step t f done_so d there e op l a = record { there = there; leaves = l; news = []; acts = a; files = refl; first = refl; published = sym (append-nil done_so) }

not_done : {A : Type 0} (log : List Op) (op : Op) (left : List Op) → IsDone [] (op ∷ log) left → A
not_done log op left h = elim h.1 [ ]

-- A list of operations is done piece by piece, from a doing K of what is left to the doing N of what is left then.
module _ (f : Repo) (done_so : List Turn) (K N : List Op → Doing)
    (acts : (t : Tree) (ops left : List Op) (op : Op) → Does ops op left → Acts t (last_repo f done_so) (K ops) op [] (N left))
    (same : (o : Op) (left : List Op) → N (o ∷ left) ≡ K (o ∷ left)) where
  -- after one step: where something is to do, it goes on from K
  go_on : (t : Tree) (mid left : List Op) (next : Op) (log : List Op)
      → ((o : Op) (rest : List Op) → IsDone (o ∷ rest) (next ∷ log) left → Run (at t f done_so (K (o ∷ rest))) (next ∷ log) (at (after_all (next ∷ log) t) f done_so (N left)))
      → IsDone mid (next ∷ log) left → Run (at t f done_so (N mid)) (next ∷ log) (at (after_all (next ∷ log) t) f done_so (N left))
  go_on t [] left next log more d = not_done log next left d
  go_on t (o ∷ mid) left next log more d =
      subst (λ k. Run (at t f done_so k) (next ∷ log) (at (after_all (next ∷ log) t) f done_so (N left))) (sym (same o mid)) (more o mid d)

  -- from a doing S that begins with the first of the list
  pub loop : (t : Tree) (S there : Doing) (ops left : List Op) (op : Op) (log : List Op) → Leaves S there → ((mid : List Op) → Does ops op mid → Acts t (last_repo f done_so) there op [] (N mid))
      → IsDone ops (op ∷ log) left → Run (at t f done_so S) (op ∷ log) (at (after_all (op ∷ log) t) f done_so (N left))
  loop t S there ops left op [] l first h =
      (at (apply op t) f done_so (N h.0), step t f done_so S there (N h.0) op l (first h.0 h.1), ap (λ k. at (apply op t) f done_so (N k)) h.2)
  loop t S there ops left op (next ∷ log) l first h = (
    at (apply op t) f done_so (N h.0),
    step t f done_so S there (N h.0) op l (first h.0 h.1),
    go_on (apply op t) h.0 left next log
        (λ o mid d. loop (apply op t) (K (o ∷ mid)) (K (o ∷ mid)) (o ∷ mid) left next log stays (λ k does. acts (apply op t) (o ∷ mid) k next does) d) h.2,
  )

no_cons : {A B : Type 0} {x : A} {xs : List A} → ◌≡◌ {A = List A} (x ∷ xs) [] → B
no_cons {A} e = absurd (omega (arith, ap length e))

-- ---- the working part

module _ (f : Repo) (done_so : List Turn) (x : Turn) where
  -- one step that publishes nothing, where something is left
  works-step : (t : Tree) (ops : List Op) (o : Op) (mid : List Op) (op : Op) → Does ops op (o ∷ mid) → Goes (at t f done_so (Working x ops)) op (at (apply op t) f done_so (Working x (o ∷ mid)))
  works-step t ops o mid op h = step t f done_so (Working x ops) (Working x ops) (Working x (o ∷ mid)) op stays (works (o ∷ mid) h)

  work-left : (t : Tree) (ops : List Op) (log : List Op) (o : Op) (left : List Op) → IsDone ops log (o ∷ left) → Run (at t f done_so (Working x ops)) log (at (after_all log t) f done_so (Working x (o ∷ left)))
  work-left t ops [] o left h = ap (λ k. at t f done_so (Working x k)) h
  work-left t ops (op ∷ log) o left h = by h.0 h.1 h.2 (λ mid d. work-left (apply op t) mid log o left d)
    where
      by : (mid : List Op) → Does ops op mid → IsDone mid log (o ∷ left) → ((m : List Op) → IsDone m log (o ∷ left) → Run (at (apply op t) f done_so (Working x m)) log (at (after_all log (apply op t)) f done_so (Working x (o ∷ left))))
          → Run (at t f done_so (Working x ops)) (op ∷ log) (at (after_all (op ∷ log) t) f done_so (Working x (o ∷ left)))
      by [] does d rec = none log d
        where
          none : {B : Type 0} (l : List Op) → IsDone [] l (o ∷ left) → B
          none [] e = no_cons (sym e)
          none (p ∷ l) e = not_done l p (o ∷ left) e
      by (m ∷ mid) does d rec = (at (apply op t) f done_so (Working x (m ∷ mid)), works-step t ops m mid op does, rec (m ∷ mid) d)

  -- the last step publishes
  work-all : (t : Tree) (ops : List Op) (op : Op) (log : List Op) → IsDone ops (op ∷ log) [] → Run (at t f done_so (Working x ops)) (op ∷ log) (at (after_all (op ∷ log) t) f (done_so ++ x ∷ []) (Published x (through_removal x.ops)))
  work-all t ops op [] h = (
    at (apply op t) f (done_so ++ x ∷ []) (Published x (through_removal x.ops)),
    record { there = Working x ops; leaves = stays; news = x ∷ []; acts = works [] (subst (Does ops op) h.2 h.1); files = refl; first = refl; published = refl },
    refl,
  )
  work-all t ops op (next ∷ log) h = by h.0 h.1 h.2 (λ mid d. work-all (apply op t) mid next log d)
    where
      by : (mid : List Op) → Does ops op mid → IsDone mid (next ∷ log) [] → ((m : List Op) → IsDone m (next ∷ log) [] → Run (at (apply op t) f done_so (Working x m)) (next ∷ log) (at (after_all (next ∷ log) (apply op t)) f (done_so ++ x ∷ []) (Published x (through_removal x.ops))))
          → Run (at t f done_so (Working x ops)) (op ∷ next ∷ log) (at (after_all (op ∷ next ∷ log) t) f (done_so ++ x ∷ []) (Published x (through_removal x.ops)))
      by [] does d rec = not_done log next [] d
      by (m ∷ mid) does d rec = (at (apply op t) f done_so (Working x (m ∷ mid)), works-step t ops m mid op does, rec (m ∷ mid) d)

  -- a transaction from its first operation to the beginning of its journal
  prepare : (t : Tree) (rest : List Op) (op : Op) (log left : List Op) → IsTurn t (last_repo f done_so) x → IsDone x.ops.before (op ∷ log) left
      → Run (at t f done_so (Idle None rest)) (op ∷ log) (at (after_all (op ∷ log) t) f done_so (Preparing x left))
  prepare t rest op log left it h =
      loop f done_so (λ k. Preparing x k) (λ k. Preparing x k) (λ u ops k o does. prepares does) (λ o k. refl) t (Idle None rest) (Idle None rest) x.ops.before left op log stays (λ mid does. begins it does) h

  journal-step : (t : Tree) (op : Op) (mid : List Op) → Does (through_publishing x.ops) op mid → Goes (at t f done_so (Preparing x [])) op (at (apply op t) f done_so (Working x mid))
  journal-step t op mid h = step t f done_so (Preparing x []) (Preparing x []) (Working x mid) op stays (journals h)

  -- from there to within or to the end of the publishing operation
  begun-left : (t : Tree) (op : Op) (log : List Op) (o : Op) (left : List Op) → IsDone (through_publishing x.ops) (op ∷ log) (o ∷ left) → Run (at t f done_so (Preparing x [])) (op ∷ log) (at (after_all (op ∷ log) t) f done_so (Working x (o ∷ left)))
  begun-left t op log o left h = (at (apply op t) f done_so (Working x h.0), journal-step t op h.0 h.1, work-left (apply op t) h.0 log o left h.2)

  begun-all : (t : Tree) (op : Op) (log : List Op) → IsDone (through_publishing x.ops) (op ∷ log) [] → Run (at t f done_so (Preparing x [])) (op ∷ log) (at (after_all (op ∷ log) t) f (done_so ++ x ∷ []) (Published x (through_removal x.ops)))
  begun-all t op [] h = absurd (omega (arith, ap length (sym h.2 ∙ h.1.2), length-append h.1.0 (to_publishing x.ops), length-append x.ops.changes (x.ops.publish ∷ [])))
  begun-all t op (next ∷ log) h = (at (apply op t) f done_so (Working x h.0), journal-step t op h.0 h.1, work-all (apply op t) h.0 next log h.2)

  -- the whole beginning, through to within the publishing operation, or through it
  begun-run : (t : Tree) (rest log : List Op) (o : Op) (left : List Op) → HasBegun t (last_repo f done_so) x log (o ∷ left) → Run (at t f done_so (Idle None rest)) log (at (after_all log t) f done_so (Working x (o ∷ left)))
  begun-run t rest log o left b =
      subst (λ l. Run (at t f done_so (Idle None rest)) l (at (after_all l t) f done_so (Working x (o ∷ left)))) (sym b.whole)
      (subst (λ u. Run (at t f done_so (Idle None rest)) ((b.start ∷ b.prepared) ++ b.first ∷ b.more) (at u f done_so (Working x (o ∷ left)))) (sym (after_all-append (b.start ∷ b.prepared) (b.first ∷ b.more) t))
      (run-join Goes _ (b.start ∷ b.prepared) (b.first ∷ b.more) (at (after_all (b.start ∷ b.prepared) t) f done_so (Preparing x [])) _
      (prepare t rest b.start b.prepared [] b.it b.all_prepared) (begun-left (after_all (b.start ∷ b.prepared) t) b.first b.more o left b.done)))

  published-run : (t : Tree) (rest log : List Op) → HasBegun t (last_repo f done_so) x log [] → Run (at t f done_so (Idle None rest)) log (at (after_all log t) f (done_so ++ x ∷ []) (Published x (through_removal x.ops)))
  published-run t rest log b =
      subst (λ l. Run (at t f done_so (Idle None rest)) l (at (after_all l t) f (done_so ++ x ∷ []) (Published x (through_removal x.ops)))) (sym b.whole)
      (subst (λ u. Run (at t f done_so (Idle None rest)) ((b.start ∷ b.prepared) ++ b.first ∷ b.more) (at u f (done_so ++ x ∷ []) (Published x (through_removal x.ops)))) (sym (after_all-append (b.start ∷ b.prepared) (b.first ∷ b.more) t))
      (run-join Goes _ (b.start ∷ b.prepared) (b.first ∷ b.more) (at (after_all (b.start ∷ b.prepared) t) f done_so (Preparing x [])) _
      (prepare t rest b.start b.prepared [] b.it b.all_prepared) (begun-all (after_all (b.start ∷ b.prepared) t) b.first b.more b.done)))

-- ---- the removals

-- a writer that is gone goes nowhere else
idle-stays : (l : Option (List Op)) (rest : List Op) (d : Doing) → Leaves (Idle l rest) d → d ≡ Idle l rest
idle-stays l rest _ stays = refl

-- what a writer that is gone may do, one that may leave so may do
from-idle : (t : Tree) (f : Repo) (done_so : List Turn) (S : Doing) (l : Option (List Op)) (rest : List Op) (op : Op) (log : List Op) (s : State) → Leaves S (Idle l rest)
    → Run (at t f done_so (Idle l rest)) (op ∷ log) s → Run (at t f done_so S) (op ∷ log) s
from-idle t f done_so S l rest op log s leaves run =
    let g = run.1 in
    (run.0, record { there = g.there; leaves = subst (Leaves S) (sym (idle-stays l rest g.there g.leaves)) leaves; news = g.news; acts = g.acts; files = g.files; first = g.first; published = g.published }, run.2)

some-run : (t : Tree) (f : Repo) (done_so : List Turn) (l : Option (List Op)) (skipped : List Op) (paths : List (List ℕ)) (log : List Op) → AreSome (map (λ p. Remove p) paths) log
    → (rest : List Op) × Run (at t f done_so (Idle l (skipped ++ map (λ p. Remove p) paths))) log (at (after_all log t) f done_so (Idle l rest))
some-run t f done_so l skipped [] log e =
    (skipped ++ [], subst (λ k. Run (at t f done_so (Idle l (skipped ++ []))) k (at (after_all k t) f done_so (Idle l (skipped ++ [])))) (sym e) refl)
some-run t f done_so l skipped (p ∷ paths) log (inl some) =
    let more = some-run t f done_so l (skipped ++ Remove p ∷ []) paths log some in
    (more.0, subst (λ k. Run (at t f done_so (Idle l k)) log (at (after_all log t) f done_so (Idle l more.0))) (append_assoc skipped (Remove p ∷ []) (map (λ q. Remove q) paths)) more.1)
some-run t f done_so l skipped (p ∷ paths) log (inr (more, e, some)) =
    let rest = some-run (apply (Remove p) t) f done_so l [] paths more some in (
      rest.0,
      subst (λ k. Run (at t f done_so (Idle l (skipped ++ Remove p ∷ map (λ q. Remove q) paths))) k (at (after_all k t) f done_so (Idle l rest.0))) (sym e) (
        at (apply (Remove p) t) f done_so (Idle l (map (λ q. Remove q) paths)),
        step t f done_so (Idle l (skipped ++ Remove p ∷ map (λ q. Remove q) paths)) (Idle l (skipped ++ Remove p ∷ map (λ q. Remove q) paths)) (Idle l (map (λ q. Remove q) paths)) (Remove p) stays (removes skipped refl),
        rest.1,
      ),
    )

-- where a piece has ended: its doing, which may leave, and what was published
pub record Ends (t : Tree) (f : Repo) (from : State) (log : List Op) (l : Option (List Op)) (r : Repo) : Type 0 where
  pub so : List Turn
  pub doing : Doing
  pub rest : List Op
  pub run : Run from log (at (after_all log t) f so doing)
  pub leaves : Leaves doing (Idle l rest)
  pub repo : last_repo f so ≡ r

-- a run, and then removals
end : (t u : Tree) (f : Repo) (from : State) (done_so : List Turn) (S : Doing) (l : Option (List Op)) (paths : List (List ℕ)) (log c : List Op)
    → u ≡ after_all log t → Run from log (at u f done_so S) → Leaves S (Idle l (map (λ p. Remove p) paths)) → AreSome (map (λ p. Remove p) paths) c
    → (ends : Ends t f from (log ++ c) l (last_repo f done_so)) × (ends.so ≡ done_so)
end t u f from done_so S l paths log [] e run leaves some = (
  record {
    so = done_so;
    doing = S;
    rest = map (λ p. Remove p) paths;
    leaves = leaves;
    repo = refl;
    run = subst (λ k. Run from k (at (after_all k t) f done_so S)) (sym (append-nil log)) (subst (λ v. Run from log (at v f done_so S)) e run);
  },
  refl,
)
end t u f from done_so S l paths log (op ∷ c) e run leaves some =
    let more = some-run u f done_so l [] paths (op ∷ c) some in (
      record {
        so = done_so;
        doing = Idle l more.0;
        rest = more.0;
        leaves = stays;
        repo = refl;
        run = subst (λ v. Run from (log ++ op ∷ c) (at v f done_so (Idle l more.0))) (ap (after_all (op ∷ c)) e ∙ sym (after_all-append log (op ∷ c) t))
            (run-join Goes from log (op ∷ c) (at u f done_so S) (at (after_all (op ∷ c) u) f done_so (Idle l more.0)) run
            (from-idle u f done_so S l (map (λ p. Remove p) paths) op c _ leaves more.1));
      },
      refl,
    )

abbrev all_paths : List (List ℕ)
all_paths = strays ++ lock_path ∷ wlock_path ∷ []

-- ---- the other parts

undo-run : (t : Tree) (f : Repo) (done_so : List Turn) (x : Turn) (o : Op) (rest : List Op) (op : Op) (log left : List Op) → IsDone x.ops.undo (op ∷ log) left
    → Run (at t f done_so (Working x (o ∷ rest))) (op ∷ log) (at (after_all (op ∷ log) t) f done_so (undone left))
undo-run t f done_so x o rest op log left h =
    loop f done_so Undoing undone (λ u ops k p does. goes_on_undoing k does) (λ p k. refl) t (Working x (o ∷ rest)) (Working x (o ∷ rest)) x.ops.undo left op log stays (λ mid does. undoes mid does) h

finish-run : (t : Tree) (f : Repo) (done_so : List Turn) (x : Turn) (op : Op) (log left : List Op) → IsDone (through_removal x.ops) (op ∷ log) left
    → Run (at t f done_so (Published x (through_removal x.ops))) (op ∷ log) (at (after_all (op ∷ log) t) f done_so (finished x left))
finish-run t f done_so x op log left h =
    loop f done_so (λ k. Published x k) (finished x) (λ u ops k p does. finishes k does) (λ p k. refl) t (Published x (through_removal x.ops)) (Published x (through_removal x.ops)) (through_removal x.ops) left op log stays (λ mid does. finishes mid does) h

pub last_repo-push : (f : Repo) (done_so : List Turn) (x : Turn) → last_repo f (done_so ++ x ∷ []) ≡ x.next
last_repo-push f [] x = refl
last_repo-push f (y ∷ done_so) x = last_repo-push y.next done_so x

knock-run : (t : Tree) (f : Repo) (done_so : List Turn) (l : Option (List Op)) (rest : List Op) (who : List ℕ) (op : Op) (log left : List Op) → IsDone (Create wlock_path who ∷ []) (op ∷ log) left
    → Run (at t f done_so (Idle l rest)) (op ∷ log) (at (after_all (op ∷ log) t) f done_so (Refused l left (Remove wlock_path ∷ [])))
knock-run t f done_so l rest who op log left h =
    loop f done_so (λ k. Refused l k (Remove wlock_path ∷ [])) (λ k. Refused l k (Remove wlock_path ∷ [])) (λ u ops k p does. goes_on_knocking does) (λ p k. refl)
    t (Idle l rest) (Idle l rest) (Create wlock_path who ∷ []) left op log stays (λ mid does. knocks who does) h

knock-again-run : (t : Tree) (f : Repo) (done_so : List Turn) (l : Option (List Op)) (who : List ℕ) (op : Op) (log left : List Op) → IsDone (Create lock_path who ∷ []) (op ∷ log) left
    → Run (at t f done_so (Refused l [] (Remove wlock_path ∷ []))) (op ∷ log) (at (after_all (op ∷ log) t) f done_so (Refused l left lock_removals))
knock-again-run t f done_so l who op log left h =
    loop f done_so (λ k. Refused l k lock_removals) (λ k. Refused l k lock_removals) (λ u ops k p does. goes_on_knocking does) (λ p k. refl)
    t (Refused l [] (Remove wlock_path ∷ [])) (Refused l [] (Remove wlock_path ∷ [])) (Create lock_path who ∷ []) left op log stays (λ mid does. knocks_again who does) h

-- ---- whole pieces

refusal-run : (t : Tree) (f : Repo) (done_so : List Turn) (l : Option (List Op)) (rest : List Op) (a : List Op) → Refusal a → Ends t f (at t f done_so (Idle l rest)) a l (last_repo f done_so)
refusal-run t f done_so l rest _ (once who c op more left d some) =
    (end t (after_all (op ∷ more) t) f _ done_so (Refused l left (Remove wlock_path ∷ [])) l (wlock_path ∷ []) (op ∷ more) c refl (knock-run t f done_so l rest who op more left d) is_refused some).0
refusal-run t f done_so l rest _ (twice who other c o first op more left d e some) =
    let a = o ∷ first in
    let b = op ∷ more in
    let both = run-join Goes (at t f done_so (Idle l rest)) a b (at (after_all a t) f done_so (Refused l [] (Remove wlock_path ∷ []))) (at (after_all b (after_all a t)) f done_so (Refused l left lock_removals))
    (knock-run t f done_so l rest who o first [] d) (knock-again-run (after_all a t) f done_so l other op more left e) in
    (end t (after_all b (after_all a t)) f _ done_so (Refused l left lock_removals) l (lock_path ∷ wlock_path ∷ []) (a ++ b) c (sym (after_all-append a b t)) both is_refused some).0

two : (t : Tree) (f : Repo) (from : State) (d e : List Turn) (S M : Doing) (l : Option (List Op)) (paths : List (List ℕ)) (a b c : List Op)
    → Run from a (at (after_all a t) f d S) → Run (at (after_all a t) f d S) b (at (after_all b (after_all a t)) f e M) → Leaves M (Idle l (map (λ p. Remove p) paths)) → AreSome (map (λ p. Remove p) paths) c
    → (ends : Ends t f from (a ++ b ++ c) l (last_repo f e)) × (ends.so ≡ e)
two t f from d e S M l paths a b c first second leaves some =
    end t (after_all b (after_all a t)) f from e M l paths (a ++ b) c (sym (after_all-append a b t)) (run-join Goes from a b _ _ first second) leaves some

one_remove : (t : Tree) (f : Repo) (done_so : List Turn) (S : Doing) → Acts t (last_repo f done_so) S (Remove journal_path) [] (Idle None removals)
    → Run (at t f done_so S) (Remove journal_path ∷ []) (at (apply (Remove journal_path) t) f done_so (Idle None removals))
one_remove t f done_so S a = (at (apply (Remove journal_path) t) f done_so (Idle None removals), step t f done_so S S (Idle None removals) (Remove journal_path) stays a, refl)

pub piece-run : (t : Tree) (f : Repo) (done_so : List Turn) (rest : List Op) (a : List Op) (r' : Repo) → Piece t (last_repo f done_so) a r' → Ends t f (at t f done_so (Idle None rest)) a None r'
piece-run t f done_so rest _ _ (whole_list x a c o b begun d some) =
    subst (Ends t f (at t f done_so (Idle None rest)) (a ++ (o ∷ b) ++ c) None) (last_repo-push f done_so x)
    (two t f _ (done_so ++ x ∷ []) (done_so ++ x ∷ []) (Published x (through_removal x.ops)) (Idle None removals) None all_paths a (o ∷ b) c
    (published-run f done_so x t rest a begun) (finish-run (after_all a t) f (done_so ++ x ∷ []) x o b [] d) stays some).0
piece-run t f done_so rest _ _ (was_undone x a c op left o b begun d some) =
    (two t f _ done_so done_so (Working x (op ∷ left)) (Idle None removals) None all_paths a (o ∷ b) c
    (begun-run f done_so x t rest a op left begun) (undo-run (after_all a t) f done_so x op left o b [] d) stays some).0
piece-run t f done_so rest _ _ (given_up x c op left more it d some) =
    (end t (after_all (op ∷ more) t) f _ done_so (Preparing x left) None all_paths (op ∷ more) c refl (prepare f done_so x t rest op more left it d) gives_up some).0
piece-run t f done_so rest _ _ (refused a h) = refusal-run t f done_so None rest a h

-- where one ends that leaves the journal: the repository before it is kept
pub record Breaks (t : Tree) (f : Repo) (from : State) (log : List Op) (kept : Repo) : Type 0 where
  pub left : List Op
  pub next : Repo
  pub ends : Ends t f from log (Some left) next
  pub is_kept : kept_at left f ends.so ≡ kept

kept-none : (f : Repo) (so done_so : List Turn) → so ≡ done_so → kept_at [] f so ≡ last_repo f done_so
kept-none f so done_so e = less-none f so ∙ ap (last_repo f) e

kept-last : (f : Repo) (so done_so : List Turn) (x : Turn) (o : Op) (more : List Op) → so ≡ done_so ++ x ∷ [] → kept_at (o ∷ more) f so ≡ last_repo f done_so
kept-last f so done_so x o more e =
    ap (λ p. last_repo f (take (length p - 1) p)) e
    ∙ ap (last_repo f) (take_at done_so (x ∷ []) (length (done_so ++ x ∷ []) - 1) (omega (arith, length-append done_so (x ∷ []))))

-- after a piece that leaves the journal
pub leaves-run : (t : Tree) (f : Repo) (done_so : List Turn) (rest : List Op) (a : List Op) → LeavesJournal t (last_repo f done_so) a → Breaks t f (at t f done_so (Idle None rest)) a (last_repo f done_so)
leaves-run t f done_so rest _ (before x a c op left begun some) =
    let e = end t (after_all a t) f (at t f done_so (Idle None rest)) done_so (Working x (op ∷ left)) (Some []) (lock_path ∷ wlock_path ∷ []) a c refl (begun-run f done_so x t rest a op left begun) breaks some in
    record { left = []; next = last_repo f done_so; ends = e.0; is_kept = kept-none f e.0.so done_so e.1 }
leaves-run t f done_so rest _ (within x a c op left o more u b begun d some) =
    let e = two t f (at t f done_so (Idle None rest)) done_so done_so (Working x (op ∷ left)) (Undoing (o ∷ more)) (Some []) (lock_path ∷ wlock_path ∷ []) a (u ∷ b) c
    (begun-run f done_so x t rest a op left begun) (undo-run (after_all a t) f done_so x op left u b (o ∷ more) d) breaks_undo some in
    record { left = []; next = last_repo f done_so; ends = e.0; is_kept = kept-none f e.0.so done_so e.1 }
leaves-run t f done_so rest _ (behind x a [] c o more begun d some) =
    let so = done_so ++ x ∷ [] in
    let e = end t (after_all a t) f (at t f done_so (Idle None rest)) so (Published x (o ∷ more)) (Some (o ∷ more)) (lock_path ∷ wlock_path ∷ []) (a ++ []) c (ap (λ k. after_all k t) (sym (append-nil a)))
    (subst (λ k. Run (at t f done_so (Idle None rest)) k (at (after_all a t) f so (Published x (o ∷ more)))) (sym (append-nil a))
    (subst (λ k. Run (at t f done_so (Idle None rest)) a (at (after_all a t) f so (Published x k))) d (published-run f done_so x t rest a begun))) breaks_after some in
    record { left = o ∷ more; next = last_repo f so; ends = e.0; is_kept = kept-last f e.0.so done_so x o more e.1 }
leaves-run t f done_so rest _ (behind x a (u ∷ b) c o more begun d some) =
    let so = done_so ++ x ∷ [] in
    let e = two t f (at t f done_so (Idle None rest)) so so (Published x (through_removal x.ops)) (Published x (o ∷ more)) (Some (o ∷ more)) (lock_path ∷ wlock_path ∷ []) a (u ∷ b) c
    (published-run f done_so x t rest a begun) (finish-run (after_all a t) f so x u b (o ∷ more) d) breaks_after some in
    record { left = o ∷ more; next = last_repo f so; ends = e.0; is_kept = kept-last f e.0.so done_so x o more e.1 }

-- from a doing that may leave
from-leaves : (t : Tree) (f : Repo) (done_so : List Turn) (S : Doing) (l : Option (List Op)) (rest : List Op) (log : List Op) → Leaves S (Idle l rest)
    → (s : State) × Run (at t f done_so (Idle l rest)) log s → (s : State) × Run (at t f done_so S) log s
from-leaves t f done_so S l rest [] leaves run = (at t f done_so S, refl)
from-leaves t f done_so S l rest (op ∷ log) leaves run = (run.0, from-idle t f done_so S l rest op log run.0 leaves run.1)

refusals-run : (t : Tree) (f : Repo) (done_so : List Turn) (S : Doing) (l : Option (List Op)) (rest : List Op) (b : List Op) → Leaves S (Idle l rest) → Refusals b → (s : State) × Run (at t f done_so S) b s
refusals-run t f done_so S l rest _ leaves no_more = (at t f done_so S, refl)
refusals-run t f done_so S l rest _ leaves (one_more a b h more) =
    from-leaves t f done_so S l rest (a ++ b) leaves
    (let e = refusal-run t f done_so l rest a h in
    let k = refusals-run (after_all a t) f e.so e.doing l e.rest b e.leaves more in
    (k.0, run-join Goes (at t f done_so (Idle l rest)) a b (at (after_all a t) f e.so e.doing) k.0 e.run k.1))

pub pieces-run : (t : Tree) (f : Repo) (done_so : List Turn) (S : Doing) (rest : List Op) (r : Repo) (log : List Op) → Leaves S (Idle None rest) → last_repo f done_so ≡ r → Pieces t r log → (s : State) × Run (at t f done_so S) log s
pieces-run t f done_so S rest r _ leaves is no_pieces = (at t f done_so S, refl)
pieces-run t f done_so S rest r _ leaves is (and_then a b r' piece more) =
    from-leaves t f done_so S None rest (a ++ b) leaves
    (let e = piece-run t f done_so rest a r' (subst (λ q. Piece t q a r') (sym is) piece) in
    let k = pieces-run (after_all a t) f e.so e.doing e.rest r' b e.leaves e.repo more in
    (k.0, run-join Goes (at t f done_so (Idle None rest)) a b (at (after_all a t) f e.so e.doing) k.0 e.run k.1))
pieces-run t f done_so S rest r _ leaves is (at_last a b left more) =
    from-leaves t f done_so S None rest (a ++ b) leaves
    (let e = leaves-run t f done_so rest a (subst (λ q. LeavesJournal t q a) (sym is) left) in
    let k = refusals-run (after_all a t) f e.ends.so e.ends.doing (Some e.left) e.ends.rest b e.ends.leaves more in
    (k.0, run-join Goes (at t f done_so (Idle None rest)) a b (at (after_all a t) f e.ends.so e.ends.doing) k.0 e.ends.run k.1))

-- A prefix of whole pieces is legal.
pub pieces-legal : (t : Tree) (log rest : List Op) → ((r : Repo) → IsClean t r → Pieces t r (log ++ rest)) → IsLegal t log
pieces-legal t log rest pieces r clean =
    let run = pieces-run t r [] (Idle None []) [] r (log ++ rest) stays refl (pieces r clean) in
    let parts = run-split Goes (start_of t r) log rest run.0 run.1 in
    (parts.0, parts.1)

-- What is made of whole pieces is legal.
pub all-pieces-legal : (t : Tree) (log : List Op) → ((r : Repo) → IsClean t r → Pieces t r log) → IsLegal t log
all-pieces-legal t log pieces r clean = pieces-run t r [] (Idle None []) [] r log stays refl (pieces r clean)
