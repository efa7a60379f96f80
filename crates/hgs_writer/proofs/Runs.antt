-- The parts of a log that a writer makes are runs, with the transactions that they publish.
use Rattle.std.proofs.Common.{◌≡◌, ℕ, List, [], ◌∷◌, ◌++◌, length, map, refl, sym, ◌∙◌, ap, subst, inl, inr, arith, append_assoc, append-nil, length-append}
use Rattle.std.specs.Prelude.{Option, Some, None}
use Rattle.hgs_files.specs.declared.op.Op.{Op}
use Rattle.hgs_files.specs.declared.op.Op.TheVariants.{Create, Remove}
use Rattle.hgs_files.specs.Tree.{Tree, apply, after_all}
use Rattle.hgs_files.specs.Log.{Does, IsDone}
use Rattle.hgs_files.specs.Theorems.TreeLemmas.{after_all-append}
use Rattle.hgs_model.specs.Repo.{Repo}
use Rattle.hgs_journal.specs.Names.{journal_path}
use Rattle.hgs_ops.specs.Operations.{lock_path, removals, strays, wlock_path}
use Rattle.hgs_legal.specs.LegalLog.{Acts, Doing, Goes, Idle, IsTurn, Leaves, Preparing, Published, Refused, Run, State, Turn, Undoing, Working, begins, breaks, breaks_after, breaks_undo, finished, finishes, gives_up, goes_on_knocking, goes_on_undoing, is_refused, journals, knocks, knocks_again, last_repo, lock_removals, prepares, removes, stays, through_publishing, through_removal, to_publishing, undoes, undone, works}
use Rattle.hgs_legal.specs.Pieces.{AreSome, HasBegun, Refusal, once, twice}
use Rattle.hgs_legal.specs.Theorems.Runs.{run-join}
use Rattle.hgs_writer.specs.Turns.{LeadsOn}

-- a state, field by field
abbrev pub at : Tree → Repo → List Turn → Doing → State
at t f done_so d = record { files = t; first = f; published = done_so; doing = d }

-- one step that publishes nothing
step : (t : Tree) (f : Repo) (done_so : List Turn) (d there e : Doing) (op : Op) → Leaves d there → Acts t (last_repo f done_so) there op [] e → Goes (at t f done_so d) op (at (apply op t) f done_so e)
step t f done_so d there e op l a = record { there = there; leaves = l; news = []; acts = a; files = refl; first = refl; published = sym (append-nil done_so) }

not_done : {A : Type 0} (log : List Op) (op : Op) (left : List Op) → IsDone [] (op ∷ log) left → A
not_done log op left h = elim h.1 [ ]

-- A list of operations is done piece by piece, from a doing K of what is left to the doing N of what is left then.
module _ (f : Repo) (done_so : List Turn) (K N : List Op → Doing)
    (acts : (t : Tree) (ops left : List Op) (op : Op) → Does ops op left → Acts t (last_repo f done_so) (K ops) op [] (N left))
    (same : (o : Op) (left : List Op) → N (o ∷ left) ≡ K (o ∷ left)) where
  -- after one step: where something is to do, it goes on from K
  go_on : (t : Tree) (mid left : List Op) (next : Op) (log : List Op)
      → ((o : Op) (rest : List Op) → IsDone (o ∷ rest) (next ∷ log) left → Run (at t f done_so (K (o ∷ rest))) (next ∷ log) (at (after_all (next ∷ log) t) f done_so (N left)))
      → IsDone mid (next ∷ log) left → Run (at t f done_so (N mid)) (next ∷ log) (at (after_all (next ∷ log) t) f done_so (N left))
  go_on t [] left next log more d = not_done log next left d
  go_on t (o ∷ mid) left next log more d =
      subst (λ k. Run (at t f done_so k) (next ∷ log) (at (after_all (next ∷ log) t) f done_so (N left))) (sym (same o mid)) (more o mid d)

  -- from a doing S that begins with the first of the list
  loop : (t : Tree) (S there : Doing) (ops left : List Op) (op : Op) (log : List Op) → Leaves S there → ((mid : List Op) → Does ops op mid → Acts t (last_repo f done_so) there op [] (N mid))
      → IsDone ops (op ∷ log) left → Run (at t f done_so S) (op ∷ log) (at (after_all (op ∷ log) t) f done_so (N left))
  loop t S there ops left op [] l first h =
      (at (apply op t) f done_so (N h.0), step t f done_so S there (N h.0) op l (first h.0 h.1), ap (λ k. at (apply op t) f done_so (N k)) h.2)
  loop t S there ops left op (next ∷ log) l first h = (
    at (apply op t) f done_so (N h.0),
    step t f done_so S there (N h.0) op l (first h.0 h.1),
    go_on (apply op t) h.0 left next log
        (λ o mid d. loop (apply op t) (K (o ∷ mid)) (K (o ∷ mid)) (o ∷ mid) left next log stays (λ k does. acts (apply op t) (o ∷ mid) k next does) d) h.2,
  )

no_cons : {A B : Type 0} {x : A} {xs : List A} → ◌≡◌ {A = List A} (x ∷ xs) [] → B
no_cons {A} e = absurd (omega (arith, ap length e))

-- ---- the working part

module _ (f : Repo) (done_so : List Turn) (x : Turn) where
  -- one step that publishes nothing, where something is left
  works-step : (t : Tree) (ops : List Op) (o : Op) (mid : List Op) (op : Op) → Does ops op (o ∷ mid) → Goes (at t f done_so (Working x ops)) op (at (apply op t) f done_so (Working x (o ∷ mid)))
  works-step t ops o mid op h = step t f done_so (Working x ops) (Working x ops) (Working x (o ∷ mid)) op stays (works (o ∷ mid) h)

  work-left : (t : Tree) (ops : List Op) (log : List Op) (o : Op) (left : List Op) → IsDone ops log (o ∷ left) → Run (at t f done_so (Working x ops)) log (at (after_all log t) f done_so (Working x (o ∷ left)))
  work-left t ops [] o left h = ap (λ k. at t f done_so (Working x k)) h
  work-left t ops (op ∷ log) o left h = by h.0 h.1 h.2 (λ mid d. work-left (apply op t) mid log o left d)
    where
      by : (mid : List Op) → Does ops op mid → IsDone mid log (o ∷ left) → ((m : List Op) → IsDone m log (o ∷ left) → Run (at (apply op t) f done_so (Working x m)) log (at (after_all log (apply op t)) f done_so (Working x (o ∷ left))))
          → Run (at t f done_so (Working x ops)) (op ∷ log) (at (after_all (op ∷ log) t) f done_so (Working x (o ∷ left)))
      by [] does d rec = none log d
        where
          none : {B : Type 0} (l : List Op) → IsDone [] l (o ∷ left) → B
          none [] e = no_cons (sym e)
          none (p ∷ l) e = not_done l p (o ∷ left) e
      by (m ∷ mid) does d rec = (at (apply op t) f done_so (Working x (m ∷ mid)), works-step t ops m mid op does, rec (m ∷ mid) d)

  -- the last step publishes
  work-all : (t : Tree) (ops : List Op) (op : Op) (log : List Op) → IsDone ops (op ∷ log) [] → Run (at t f done_so (Working x ops)) (op ∷ log) (at (after_all (op ∷ log) t) f (done_so ++ x ∷ []) (Published x (through_removal x.ops)))
  work-all t ops op [] h = (
    at (apply op t) f (done_so ++ x ∷ []) (Published x (through_removal x.ops)),
    record { there = Working x ops; leaves = stays; news = x ∷ []; acts = works [] (subst (Does ops op) h.2 h.1); files = refl; first = refl; published = refl },
    refl,
  )
  work-all t ops op (next ∷ log) h = by h.0 h.1 h.2 (λ mid d. work-all (apply op t) mid next log d)
    where
      by : (mid : List Op) → Does ops op mid → IsDone mid (next ∷ log) [] → ((m : List Op) → IsDone m (next ∷ log) [] → Run (at (apply op t) f done_so (Working x m)) (next ∷ log) (at (after_all (next ∷ log) (apply op t)) f (done_so ++ x ∷ []) (Published x (through_removal x.ops))))
          → Run (at t f done_so (Working x ops)) (op ∷ next ∷ log) (at (after_all (op ∷ next ∷ log) t) f (done_so ++ x ∷ []) (Published x (through_removal x.ops)))
      by [] does d rec = not_done log next [] d
      by (m ∷ mid) does d rec = (at (apply op t) f done_so (Working x (m ∷ mid)), works-step t ops m mid op does, rec (m ∷ mid) d)

  -- a transaction from its first operation to the beginning of its journal
  prepare : (t : Tree) (rest : List Op) (op : Op) (log left : List Op) → IsTurn t (last_repo f done_so) x → IsDone x.ops.before (op ∷ log) left
      → Run (at t f done_so (Idle None rest)) (op ∷ log) (at (after_all (op ∷ log) t) f done_so (Preparing x left))
  prepare t rest op log left it h =
      loop f done_so (λ k. Preparing x k) (λ k. Preparing x k) (λ u ops k o does. prepares does) (λ o k. refl) t (Idle None rest) (Idle None rest) x.ops.before left op log stays (λ mid does. begins it does) h

  journal-step : (t : Tree) (op : Op) (mid : List Op) → Does (through_publishing x.ops) op mid → Goes (at t f done_so (Preparing x [])) op (at (apply op t) f done_so (Working x mid))
  journal-step t op mid h = step t f done_so (Preparing x []) (Preparing x []) (Working x mid) op stays (journals h)

  -- from there to within or to the end of the publishing operation
  begun-left : (t : Tree) (op : Op) (log : List Op) (o : Op) (left : List Op) → IsDone (through_publishing x.ops) (op ∷ log) (o ∷ left) → Run (at t f done_so (Preparing x [])) (op ∷ log) (at (after_all (op ∷ log) t) f done_so (Working x (o ∷ left)))
  begun-left t op log o left h = (at (apply op t) f done_so (Working x h.0), journal-step t op h.0 h.1, work-left (apply op t) h.0 log o left h.2)

  begun-all : (t : Tree) (op : Op) (log : List Op) → IsDone (through_publishing x.ops) (op ∷ log) [] → Run (at t f done_so (Preparing x [])) (op ∷ log) (at (after_all (op ∷ log) t) f (done_so ++ x ∷ []) (Published x (through_removal x.ops)))
  begun-all t op [] h = absurd (omega (arith, ap length (sym h.2 ∙ h.1.2), length-append h.1.0 (to_publishing x.ops), length-append x.ops.changes (x.ops.publish ∷ [])))
  begun-all t op (next ∷ log) h = (at (apply op t) f done_so (Working x h.0), journal-step t op h.0 h.1, work-all (apply op t) h.0 next log h.2)

  -- the whole beginning, through to within the publishing operation, or through it
  begun-run : (t : Tree) (rest log : List Op) (o : Op) (left : List Op) → HasBegun t (last_repo f done_so) x log (o ∷ left) → Run (at t f done_so (Idle None rest)) log (at (after_all log t) f done_so (Working x (o ∷ left)))
  begun-run t rest log o left b =
      subst (λ l. Run (at t f done_so (Idle None rest)) l (at (after_all l t) f done_so (Working x (o ∷ left)))) (sym b.whole)
      (subst (λ u. Run (at t f done_so (Idle None rest)) ((b.start ∷ b.prepared) ++ b.first ∷ b.more) (at u f done_so (Working x (o ∷ left)))) (sym (after_all-append (b.start ∷ b.prepared) (b.first ∷ b.more) t))
      (run-join Goes _ (b.start ∷ b.prepared) (b.first ∷ b.more) (at (after_all (b.start ∷ b.prepared) t) f done_so (Preparing x [])) _
      (prepare t rest b.start b.prepared [] b.it b.all_prepared) (begun-left (after_all (b.start ∷ b.prepared) t) b.first b.more o left b.done)))

  published-run : (t : Tree) (rest log : List Op) → HasBegun t (last_repo f done_so) x log [] → Run (at t f done_so (Idle None rest)) log (at (after_all log t) f (done_so ++ x ∷ []) (Published x (through_removal x.ops)))
  published-run t rest log b =
      subst (λ l. Run (at t f done_so (Idle None rest)) l (at (after_all l t) f (done_so ++ x ∷ []) (Published x (through_removal x.ops)))) (sym b.whole)
      (subst (λ u. Run (at t f done_so (Idle None rest)) ((b.start ∷ b.prepared) ++ b.first ∷ b.more) (at u f (done_so ++ x ∷ []) (Published x (through_removal x.ops)))) (sym (after_all-append (b.start ∷ b.prepared) (b.first ∷ b.more) t))
      (run-join Goes _ (b.start ∷ b.prepared) (b.first ∷ b.more) (at (after_all (b.start ∷ b.prepared) t) f done_so (Preparing x [])) _
      (prepare t rest b.start b.prepared [] b.it b.all_prepared) (begun-all (after_all (b.start ∷ b.prepared) t) b.first b.more b.done)))

-- ---- the removals

-- a writer that is gone goes nowhere else
idle-stays : (l : Option (List Op)) (rest : List Op) (d : Doing) → Leaves (Idle l rest) d → d ≡ Idle l rest
idle-stays l rest _ stays = refl

-- what a writer that is gone may do, one that may leave so may do
from-idle : (t : Tree) (f : Repo) (done_so : List Turn) (S : Doing) (l : Option (List Op)) (rest : List Op) (op : Op) (log : List Op) (s : State) → Leaves S (Idle l rest)
    → Run (at t f done_so (Idle l rest)) (op ∷ log) s → Run (at t f done_so S) (op ∷ log) s
from-idle t f done_so S l rest op log s leaves run =
    let g = run.1 in
    (run.0, record { there = g.there; leaves = subst (Leaves S) (sym (idle-stays l rest g.there g.leaves)) leaves; news = g.news; acts = g.acts; files = g.files; first = g.first; published = g.published }, run.2)

some-run : (t : Tree) (f : Repo) (done_so : List Turn) (l : Option (List Op)) (skipped : List Op) (paths : List (List ℕ)) (log : List Op) → AreSome (map (λ p. Remove p) paths) log
    → (rest : List Op) × Run (at t f done_so (Idle l (skipped ++ map (λ p. Remove p) paths))) log (at (after_all log t) f done_so (Idle l rest))
some-run t f done_so l skipped [] log e =
    (skipped ++ [], subst (λ k. Run (at t f done_so (Idle l (skipped ++ []))) k (at (after_all k t) f done_so (Idle l (skipped ++ [])))) (sym e) refl)
some-run t f done_so l skipped (p ∷ paths) log (inl some) =
    let more = some-run t f done_so l (skipped ++ Remove p ∷ []) paths log some in
    (more.0, subst (λ k. Run (at t f done_so (Idle l k)) log (at (after_all log t) f done_so (Idle l more.0))) (append_assoc skipped (Remove p ∷ []) (map (λ q. Remove q) paths)) more.1)
some-run t f done_so l skipped (p ∷ paths) log (inr (more, e, some)) =
    let rest = some-run (apply (Remove p) t) f done_so l [] paths more some in (
      rest.0,
      subst (λ k. Run (at t f done_so (Idle l (skipped ++ Remove p ∷ map (λ q. Remove q) paths))) k (at (after_all k t) f done_so (Idle l rest.0))) (sym e) (
        at (apply (Remove p) t) f done_so (Idle l (map (λ q. Remove q) paths)),
        step t f done_so (Idle l (skipped ++ Remove p ∷ map (λ q. Remove q) paths)) (Idle l (skipped ++ Remove p ∷ map (λ q. Remove q) paths)) (Idle l (map (λ q. Remove q) paths)) (Remove p) stays (removes skipped refl),
        rest.1,
      ),
    )

-- a run, and then removals
end : (u : Tree) (f : Repo) (from : State) (so turns : List Turn) (S : Doing) (l : Option (List Op)) (paths : List (List ℕ)) (log c : List Op)
    → f ≡ from.first → so ≡ from.published ++ turns → Run from log (at u f so S) → Leaves S (Idle l (map (λ p. Remove p) paths)) → AreSome (map (λ p. Remove p) paths) c → LeadsOn from (log ++ c) turns l
end u f from so turns S l paths log [] first published run leaves some = record {
  state = at u f so S;
  run = subst (λ k. Run from k (at u f so S)) (sym (append-nil log)) run;
  first = first;
  published = published;
  at_rest = (map (λ p. Remove p) paths, leaves);
}
end u f from so turns S l paths log (op ∷ c) first published run leaves some =
    let more = some-run u f so l [] paths (op ∷ c) some in
    record {
      state = at (after_all (op ∷ c) u) f so (Idle l more.0);
      run = run-join Goes from log (op ∷ c) (at u f so S) (at (after_all (op ∷ c) u) f so (Idle l more.0)) run (from-idle u f so S l (map (λ p. Remove p) paths) op c _ leaves more.1);
      first = first;
      published = published;
      at_rest = (more.0, stays);
    }

abbrev all_paths : List (List ℕ)
all_paths = strays ++ lock_path ∷ wlock_path ∷ []

-- ---- the other parts

undo-run : (t : Tree) (f : Repo) (done_so : List Turn) (x : Turn) (o : Op) (rest : List Op) (op : Op) (log left : List Op) → IsDone x.ops.undo (op ∷ log) left
    → Run (at t f done_so (Working x (o ∷ rest))) (op ∷ log) (at (after_all (op ∷ log) t) f done_so (undone left))
undo-run t f done_so x o rest op log left h =
    loop f done_so Undoing undone (λ u ops k p does. goes_on_undoing k does) (λ p k. refl) t (Working x (o ∷ rest)) (Working x (o ∷ rest)) x.ops.undo left op log stays (λ mid does. undoes mid does) h

finish-run : (t : Tree) (f : Repo) (done_so : List Turn) (x : Turn) (op : Op) (log left : List Op) → IsDone (through_removal x.ops) (op ∷ log) left
    → Run (at t f done_so (Published x (through_removal x.ops))) (op ∷ log) (at (after_all (op ∷ log) t) f done_so (finished x left))
finish-run t f done_so x op log left h =
    loop f done_so (λ k. Published x k) (finished x) (λ u ops k p does. finishes k does) (λ p k. refl) t (Published x (through_removal x.ops)) (Published x (through_removal x.ops)) (through_removal x.ops) left op log stays (λ mid does. finishes mid does) h

knock-run : (t : Tree) (f : Repo) (done_so : List Turn) (l : Option (List Op)) (rest : List Op) (who : List ℕ) (op : Op) (log left : List Op) → IsDone (Create wlock_path who ∷ []) (op ∷ log) left
    → Run (at t f done_so (Idle l rest)) (op ∷ log) (at (after_all (op ∷ log) t) f done_so (Refused l left (Remove wlock_path ∷ [])))
knock-run t f done_so l rest who op log left h =
    loop f done_so (λ k. Refused l k (Remove wlock_path ∷ [])) (λ k. Refused l k (Remove wlock_path ∷ [])) (λ u ops k p does. goes_on_knocking does) (λ p k. refl)
    t (Idle l rest) (Idle l rest) (Create wlock_path who ∷ []) left op log stays (λ mid does. knocks who does) h

knock-again-run : (t : Tree) (f : Repo) (done_so : List Turn) (l : Option (List Op)) (who : List ℕ) (op : Op) (log left : List Op) → IsDone (Create lock_path who ∷ []) (op ∷ log) left
    → Run (at t f done_so (Refused l [] (Remove wlock_path ∷ []))) (op ∷ log) (at (after_all (op ∷ log) t) f done_so (Refused l left lock_removals))
knock-again-run t f done_so l who op log left h =
    loop f done_so (λ k. Refused l k lock_removals) (λ k. Refused l k lock_removals) (λ u ops k p does. goes_on_knocking does) (λ p k. refl)
    t (Refused l [] (Remove wlock_path ∷ [])) (Refused l [] (Remove wlock_path ∷ [])) (Create lock_path who ∷ []) left op log stays (λ mid does. knocks_again who does) h

-- ---- whole pieces

-- from a state at rest
pub from-rest : (s : State) (l : Option (List Op)) (rest : List Op) (log : List Op) (turns : List Turn) (left : Option (List Op)) → Leaves s.doing (Idle l rest)
    → LeadsOn (at s.files s.first s.published (Idle l rest)) log turns left → LeadsOn s log turns left
from-rest s l rest [] turns left leaves leads =
    let at_once = at s.files s.first s.published (Idle l rest) in
    let rested : Leaves (Idle l rest) (Idle left leads.at_rest.0) = subst (λ (q : State). Leaves q.doing (Idle left leads.at_rest.0)) (sym leads.run) leads.at_rest.1 in
    record {
      state = s;
      run = refl;
      first = refl;
      published = ap (λ (q : State). q.published) leads.run ∙ leads.published;
      at_rest = (leads.at_rest.0, subst (Leaves s.doing) (sym (idle-stays l rest (Idle left leads.at_rest.0) rested)) leaves);
    }
from-rest s l rest (op ∷ log) turns left leaves leads = record {
  state = leads.state;
  run = from-idle s.files s.first s.published s.doing l rest op log leads.state leaves leads.run;
  first = leads.first;
  published = leads.published;
  at_rest = leads.at_rest;
}

-- the locks of a writer that is refused
pub refusal-leads : (t : Tree) (f : Repo) (so : List Turn) (l : Option (List Op)) (rest : List Op) (a : List Op) → Refusal a → LeadsOn (at t f so (Idle l rest)) a [] l
refusal-leads t f so l rest _ (once who c op more left d some) =
    end (after_all (op ∷ more) t) f _ so [] (Refused l left (Remove wlock_path ∷ [])) l (wlock_path ∷ []) (op ∷ more) c refl (sym (append-nil so)) (knock-run t f so l rest who op more left d) is_refused some
refusal-leads t f so l rest _ (twice who other c o first op more left d e some) =
    let a = o ∷ first in
    let b = op ∷ more in
    let both = run-join Goes (at t f so (Idle l rest)) a b (at (after_all a t) f so (Refused l [] (Remove wlock_path ∷ []))) (at (after_all b (after_all a t)) f so (Refused l left lock_removals))
    (knock-run t f so l rest who o first [] d) (knock-again-run (after_all a t) f so l other op more left e) in
    end (after_all b (after_all a t)) f _ so [] (Refused l left lock_removals) l (lock_path ∷ wlock_path ∷ []) (a ++ b) c refl (sym (append-nil so)) both is_refused some

-- a writer that makes no lock
pub nothing-leads : (t : Tree) (f : Repo) (so : List Turn) (l : Option (List Op)) (rest : List Op) → LeadsOn (at t f so (Idle l rest)) [] [] l
nothing-leads t f so l rest = record { state = at t f so (Idle l rest); run = refl; first = refl; published = sym (append-nil so); at_rest = (rest, stays) }

module _ (t : Tree) (f : Repo) (so : List Turn) (rest : List Op) (x : Turn) where
  -- two runs, and then removals, where nothing is published
  two : (u v : Tree) (S M : Doing) (l : Option (List Op)) (paths : List (List ℕ)) (a b c : List Op)
      → Run (at t f so (Idle None rest)) a (at u f so S) → Run (at u f so S) b (at v f so M) → Leaves M (Idle l (map (λ p. Remove p) paths)) → AreSome (map (λ p. Remove p) paths) c → LeadsOn (at t f so (Idle None rest)) (a ++ b ++ c) [] l
  two u v S M l paths a b c first second leaves some =
      end v f (at t f so (Idle None rest)) so [] M l paths (a ++ b) c refl (sym (append-nil so)) (run-join Goes (at t f so (Idle None rest)) a b _ _ first second) leaves some

  -- the same, where the transaction is
  two-published : (u v : Tree) (S M : Doing) (l : Option (List Op)) (paths : List (List ℕ)) (a b c : List Op)
      → Run (at t f so (Idle None rest)) a (at u f (so ++ x ∷ []) S) → Run (at u f (so ++ x ∷ []) S) b (at v f (so ++ x ∷ []) M) → Leaves M (Idle l (map (λ p. Remove p) paths)) → AreSome (map (λ p. Remove p) paths) c → LeadsOn (at t f so (Idle None rest)) (a ++ b ++ c) (x ∷ []) l
  two-published u v S M l paths a b c first second leaves some =
      end v f (at t f so (Idle None rest)) (so ++ x ∷ []) (x ∷ []) M l paths (a ++ b) c refl refl (run-join Goes (at t f so (Idle None rest)) a b _ _ first second) leaves some

  pub whole-leads : (a c : List Op) (o : Op) (b : List Op) → HasBegun t (last_repo f so) x a [] → IsDone (through_removal x.ops) (o ∷ b) [] → AreSome removals c → LeadsOn (at t f so (Idle None rest)) (a ++ (o ∷ b) ++ c) (x ∷ []) None
  whole-leads a c o b begun d some =
      two-published (after_all a t) (after_all (o ∷ b) (after_all a t)) (Published x (through_removal x.ops)) (Idle None removals) None all_paths a (o ∷ b) c
      (published-run f so x t rest a begun) (finish-run (after_all a t) f (so ++ x ∷ []) x o b [] d) stays some

  pub undone-leads : (a c : List Op) (op : Op) (left : List Op) (o : Op) (b : List Op) → HasBegun t (last_repo f so) x a (op ∷ left) → IsDone x.ops.undo (o ∷ b) [] → AreSome removals c → LeadsOn (at t f so (Idle None rest)) (a ++ (o ∷ b) ++ c) [] None
  undone-leads a c op left o b begun d some =
      two (after_all a t) (after_all (o ∷ b) (after_all a t)) (Working x (op ∷ left)) (Idle None removals) None all_paths a (o ∷ b) c
      (begun-run f so x t rest a op left begun) (undo-run (after_all a t) f so x op left o b [] d) stays some

  pub given-up-leads : (c : List Op) (op : Op) (left more : List Op) → IsTurn t (last_repo f so) x → IsDone x.ops.before (op ∷ more) left → AreSome removals c → LeadsOn (at t f so (Idle None rest)) ((op ∷ more) ++ c) [] None
  given-up-leads c op left more it d some =
      end (after_all (op ∷ more) t) f (at t f so (Idle None rest)) so [] (Preparing x left) None all_paths (op ∷ more) c refl (sym (append-nil so)) (prepare f so x t rest op more left it d) gives_up some

  -- ---- pieces that leave the journal

  pub before-leads : (a c : List Op) (op : Op) (left : List Op) → HasBegun t (last_repo f so) x a (op ∷ left) → AreSome lock_removals c → LeadsOn (at t f so (Idle None rest)) (a ++ c) [] (Some [])
  before-leads a c op left begun some =
      end (after_all a t) f (at t f so (Idle None rest)) so [] (Working x (op ∷ left)) (Some []) (lock_path ∷ wlock_path ∷ []) a c refl (sym (append-nil so)) (begun-run f so x t rest a op left begun) breaks some

  pub within-leads : (a c : List Op) (op : Op) (left : List Op) (o : Op) (more : List Op) (u : Op) (b : List Op) → HasBegun t (last_repo f so) x a (op ∷ left) → IsDone x.ops.undo (u ∷ b) (o ∷ more) → AreSome lock_removals c → LeadsOn (at t f so (Idle None rest)) (a ++ (u ∷ b) ++ c) [] (Some [])
  within-leads a c op left o more u b begun d some =
      two (after_all a t) (after_all (u ∷ b) (after_all a t)) (Working x (op ∷ left)) (Undoing (o ∷ more)) (Some []) (lock_path ∷ wlock_path ∷ []) a (u ∷ b) c
      (begun-run f so x t rest a op left begun) (undo-run (after_all a t) f so x op left u b (o ∷ more) d) breaks_undo some

  pub behind-leads : (a b c : List Op) (o : Op) (more : List Op) → HasBegun t (last_repo f so) x a [] → IsDone (through_removal x.ops) b (o ∷ more) → AreSome lock_removals c → LeadsOn (at t f so (Idle None rest)) (a ++ b ++ c) (x ∷ []) (Some (o ∷ more))
  behind-leads a [] c o more begun d some =
      subst (λ k. LeadsOn (at t f so (Idle None rest)) (k ++ c) (x ∷ []) (Some (o ∷ more))) (sym (append-nil a))
      (end (after_all a t) f (at t f so (Idle None rest)) (so ++ x ∷ []) (x ∷ []) (Published x (o ∷ more)) (Some (o ∷ more)) (lock_path ∷ wlock_path ∷ []) a c refl refl
      (subst (λ k. Run (at t f so (Idle None rest)) a (at (after_all a t) f (so ++ x ∷ []) (Published x k))) d (published-run f so x t rest a begun)) breaks_after some)
  behind-leads a (u ∷ b) c o more begun d some =
      two-published (after_all a t) (after_all (u ∷ b) (after_all a t)) (Published x (through_removal x.ops)) (Published x (o ∷ more)) (Some (o ∷ more)) (lock_path ∷ wlock_path ∷ []) a (u ∷ b) c
      (published-run f so x t rest a begun) (finish-run (after_all a t) f (so ++ x ∷ []) x u b (o ∷ more) d) breaks_after some
