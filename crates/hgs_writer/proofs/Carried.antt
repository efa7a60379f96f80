-- Carrying a plan out publishes its transaction, by how it ends.
use Rattle.std.proofs.Common.{◌≡◌, ◌⊎◌, ℕ, ◌+◌, Bool, List, [], ◌∷◌, ◌++◌, length, map, refl, sym, ◌∙◌, ap, subst, inl, inr, arith, append_assoc, append-nil, length-append}
use Rattle.hgs_files.specs.declared.op.Op.{Op}
use Rattle.hgs_files.specs.declared.op.Op.TheVariants.{Append, Create, Remove}
use Rattle.hgs_files.specs.Log.{IsDone, append_of_rest}
use Rattle.hgs_files.specs.Tree.{Tree, after_all}
use Rattle.hgs_journal.specs.Names.{journal_path}
use Rattle.hgs_legal.specs.LegalLog as turns
use Rattle.hgs_legal.specs.Pieces as legal
use Rattle.hgs_machine.specs.Course.{AreSome, BreaksOff, CarriedOut, Ends, HasBegun, IsCarried, IsTakenBack, before_journal, behind, given_up, lock_removals, removals_after, through_publishing, through_removal, undone, unsure, while_undone}
use Rattle.hgs_machine.specs.Locks.{AreLocked}
use Rattle.hgs_machine.specs.declared.ended.Published.{Published}
use Rattle.hgs_machine.specs.declared.ended.Published.TheVariants.{No, Yes, Unknown}
use Rattle.std.specs.Prelude.{Option, Some, None}
use Rattle.hgs_machine.specs.declared.ended.Short.{Short}
use Rattle.hgs_machine.specs.declared.ended.Short.TheVariants.{Done, Fault, Unfinished, Memory}
use Rattle.hgs_model.specs.Repo.{Repo}
use Rattle.hgs_ops.specs.Operations.{lock_path, removals, strays, wlock_path}
use Rattle.hgs_transaction.specs.declared.assemble.Plan.{Plan}
use Rattle.hgs_writer.specs.Turns.{LeadsOn}
use Rattle.hgs_writer.proofs.ListLemmas.{done-both, first-of, same-some, some-done}
use Rattle.hgs_writer.proofs.PiecePlanLemmas.{AreListsOf}
use Rattle.hgs_writer.proofs.Runs.{at, before-leads, behind-leads, given-up-leads, undone-leads, whole-leads, within-leads}

-- a log in four parts
halves : (a b c d : List Op) → (a ++ b) ++ (c ++ d) ≡ a ++ ((b ++ c) ++ d)
halves a b c d = append_assoc a b (c ++ d) ∙ ap (λ l. a ++ l) (sym (append_assoc b c d))

regroup : (a b c d : List Op) → ((a ++ b) ++ c) ++ d ≡ a ++ ((b ++ c) ++ d)
regroup a b c d = append_assoc (a ++ b) c d ∙ halves a b c d

-- by how it ends, from this state
abbrev pub Breaks : turns.State → turns.Turn → Published → List Op → Type 0
Breaks from x No log = (left : List Op) × LeadsOn from log [] (Some left)
Breaks from x Yes log = (left : List Op) × LeadsOn from log (x ∷ []) (Some left)
Breaks from x Unknown log = (left : List Op) × (LeadsOn from log [] (Some left) ⊎ LeadsOn from log (x ∷ []) (Some left))

abbrev pub Comes : turns.State → turns.Turn → Short → List Op → Type 0
Comes from x Done log = LeadsOn from log (x ∷ []) None
Comes from x Fault log = LeadsOn from log [] None
Comes from x Memory log = LeadsOn from log [] None
Comes from x (Unfinished published) log = Breaks from x published log

module _ (t : Tree) (f : Repo) (so : List turns.Turn) (idle : List Op) (x : turns.Turn) (plan : Plan) (it : turns.IsTurn t (turns.last_repo f so) x) (lists : AreListsOf plan x.who x.ops)
    (locking : List Op) (locked : AreLocked x.who t locking) where
  abbrev locks_made : List Op
  locks_made = Create wlock_path x.who ∷ Create lock_path x.who ∷ []

  -- the locks and what follows them are done of what precedes the journal
  before-done : (log left : List Op) → IsDone (before_journal plan) log left → IsDone x.ops.before (locking ++ log) left
  before-done log left d = subst (λ l. IsDone l (locking ++ log) left) lists.before (done-both locks_made locking (before_journal plan) log left locked.made d)

  -- something of the locks is done
  locks-some : (op : Op) × (more : List Op) × (locking ≡ op ∷ more)
  locks-some = some-done locks_made locking [] locked.made (omega arith)

  -- and so of what is done with them
  with-locks : (log : List Op) → (op : Op) × (more : List Op) × (locking ++ log ≡ op ∷ more)
  with-locks log = let l = locks-some in (l.0, l.1 ++ log, ap (λ k. k ++ log) l.2)

  begun : (log left : List Op) → HasBegun plan (through_publishing plan) log left → legal.HasBegun t (turns.last_repo f so) x (locking ++ log) left
  begun log left h =
      let l = with-locks h.prepared in
      record {
        it = it;
        start = l.0;
        prepared = l.1;
        all_prepared = subst (λ k. IsDone x.ops.before k []) l.2 (before-done h.prepared [] h.all_prepared);
        first = h.first;
        more = h.more;
        done = subst (λ k. IsDone k (h.first ∷ h.more) left) lists.through h.done;
        whole = ap (λ k. locking ++ k) h.whole ∙ sym (append_assoc locking h.prepared (h.first ∷ h.more)) ∙ ap (λ k. k ++ h.first ∷ h.more) l.2;
      }

  begun-with : (log left others : List Op) → left ≡ others → HasBegun plan (through_publishing plan) log left → legal.HasBegun t (turns.last_repo f so) x (locking ++ log) others
  begun-with log left others e h = subst (legal.HasBegun t (turns.last_repo f so) x (locking ++ log)) e (begun log left h)

  -- ---- it is carried out

  removal-some : (finishing : List Op) → IsDone (through_removal plan) finishing [] → (op : Op) × (more : List Op) × (finishing ≡ op ∷ more) × IsDone (turns.through_removal x.ops) (op ∷ more) []
  removal-some finishing d =
      let done = subst (λ k. IsDone k finishing []) lists.removal d in
      let len = length-append x.ops.renames (Remove journal_path ∷ []) in
      let some = some-done (turns.through_removal x.ops) finishing [] done (omega (arith, len)) in
      (some.0, some.1, some.2, subst (λ k. IsDone (turns.through_removal x.ops) k []) some.2 done)

  carried : (own removed : List Op) → IsCarried plan own → AreSome removals removed → LeadsOn (at t f so (turns.Idle None idle)) (locking ++ (own ++ removed)) (x ∷ []) None
  carried own removed c some =
      let last = removal-some c.finishing c.done in
      let whole : ((locking ++ c.working) ++ (last.0 ∷ last.1)) ++ removed ≡ locking ++ (own ++ removed) =
      ap (λ k. ((locking ++ c.working) ++ k) ++ removed) (sym last.2) ∙ regroup locking c.working c.finishing removed ∙ ap (λ k. locking ++ (k ++ removed)) (sym c.whole) in
      subst (λ k. LeadsOn (at t f so (turns.Idle None idle)) k (x ∷ []) None) whole
      (whole-leads t f so idle x (locking ++ c.working) removed last.0 last.1 (begun c.working [] c.has_begun) last.3 (same-some removals removed some))

  -- ---- it is taken back

  undo-some : (log left : List Op) → IsDone plan.undo.items log left → IsDone x.ops.undo log left
  undo-some log left d = subst (λ k. IsDone k log left) lists.undo d

  -- it was given up before its journal
  gives-up : (log left removed : List Op) → IsDone (before_journal plan) log left → legal.AreSome removals removed → LeadsOn (at t f so (turns.Idle None idle)) (locking ++ (log ++ removed)) [] None
  gives-up log left removed d some =
      let l = with-locks log in
      let whole : (l.0 ∷ l.1) ++ removed ≡ locking ++ (log ++ removed) = ap (λ k. k ++ removed) (sym l.2) ∙ append_assoc locking log removed in
      subst (λ k. LeadsOn (at t f so (turns.Idle None idle)) k [] None) whole (given-up-leads t f so idle x removed l.0 left l.1 it (subst (λ k. IsDone x.ops.before k left) l.2 (before-done log left d)) some)

  -- some operation undoes it
  undo-first : (log : List Op) → IsDone plan.undo.items log [] → (front : List Op) → x.ops.undo ≡ front ++ Remove journal_path ∷ [] → (op : Op) × (more : List Op) × (log ≡ op ∷ more) × IsDone x.ops.undo (op ∷ more) []
  undo-first log d front e =
      let done = undo-some log [] d in
      let len : length x.ops.undo ≡ length front + 1 = ap (λ l. length l) e ∙ length-append front (Remove journal_path ∷ []) in
      let some = some-done x.ops.undo log [] done (omega (arith, len)) in
      (some.0, some.1, some.2, subst (λ k. IsDone x.ops.undo k []) some.2 done)

  undoes : (a b removed : List Op) (op : Op) (left : List Op) (front : List Op) → x.ops.undo ≡ front ++ Remove journal_path ∷ [] → HasBegun plan (through_publishing plan) a (op ∷ left) → IsDone plan.undo.items b [] → legal.AreSome removals removed
      → LeadsOn (at t f so (turns.Idle None idle)) (locking ++ ((a ++ b) ++ removed)) [] None
  undoes a b removed op left front e h d some =
      let u = undo-first b d front e in
      let whole : ((locking ++ a) ++ (u.0 ∷ u.1)) ++ removed ≡ locking ++ ((a ++ b) ++ removed) = ap (λ k. ((locking ++ a) ++ k) ++ removed) (sym u.2) ∙ regroup locking a b removed in
      subst (λ k. LeadsOn (at t f so (turns.Idle None idle)) k [] None) whole (undone-leads t f so idle x (locking ++ a) removed op left u.0 u.1 (begun a (op ∷ left) h) u.3 some)

  taken-back : (front : List Op) → x.ops.undo ≡ front ++ Remove journal_path ∷ [] → (own removed : List Op) → IsTakenBack plan own → legal.AreSome removals removed → LeadsOn (at t f so (turns.Idle None idle)) (locking ++ (own ++ removed)) [] None
  taken-back front e _ removed (given_up a left d) some = gives-up a left removed d some
  taken-back front e _ removed (undone a b op left h d) some = undoes a b removed op left front e h d some

  -- ---- it breaks off

  breaks-before : (own removed : List Op) (op : Op) (left : List Op) → HasBegun plan (through_publishing plan) own (op ∷ left) → legal.AreSome lock_removals removed → LeadsOn (at t f so (turns.Idle None idle)) (locking ++ (own ++ removed)) [] (Some [])
  breaks-before own removed op left h some =
      subst (λ k. LeadsOn (at t f so (turns.Idle None idle)) k [] (Some [])) (append_assoc locking own removed) (before-leads t f so idle x (locking ++ own) removed op left (begun own (op ∷ left) h) some)

  breaks-within : (a b removed : List Op) (op : Op) (left : List Op) (o : Op) (rest : List Op) → HasBegun plan (through_publishing plan) a (op ∷ left) → IsDone plan.undo.items b (o ∷ rest) → legal.AreSome lock_removals removed
      → LeadsOn (at t f so (turns.Idle None idle)) (locking ++ ((a ++ b) ++ removed)) [] (Some [])
  breaks-within a [] removed op left o rest h d some =
      subst (λ k. LeadsOn (at t f so (turns.Idle None idle)) (locking ++ (k ++ removed)) [] (Some [])) (sym (append-nil a)) (breaks-before a removed op left h some)
  breaks-within a (u ∷ b) removed op left o rest h d some =
      subst (λ k. LeadsOn (at t f so (turns.Idle None idle)) k [] (Some [])) (regroup locking a (u ∷ b) removed) (within-leads t f so idle x (locking ++ a) removed op left o rest u b (begun a (op ∷ left) h) (undo-some (u ∷ b) (o ∷ rest) d) some)

  breaks-behind : (a b removed : List Op) (o : Op) (rest : List Op) → HasBegun plan (through_publishing plan) a [] → IsDone (turns.through_removal x.ops) b (o ∷ rest) → legal.AreSome lock_removals removed → LeadsOn (at t f so (turns.Idle None idle)) (locking ++ ((a ++ b) ++ removed)) (x ∷ []) (Some (o ∷ rest))
  breaks-behind a b removed o rest h d some =
      subst (λ k. LeadsOn (at t f so (turns.Idle None idle)) k (x ∷ []) (Some (o ∷ rest))) (regroup locking a b removed) (behind-leads t f so idle x (locking ++ a) b removed o rest (begun a [] h) d some)

  -- in the publishing append, whole or not
  unsure-left : (path back : List ℕ) (own removed : List Op) → HasBegun plan (through_publishing plan) own (append_of_rest path back) → legal.AreSome lock_removals removed → Breaks (at t f so (turns.Idle None idle)) x Unknown (locking ++ (own ++ removed))
  unsure-left path [] own removed h some =
      let l = first-of x.ops.renames [] (Remove journal_path) in
      (l.0 ∷ l.1, inr (subst (λ k. LeadsOn (at t f so (turns.Idle None idle)) (locking ++ (k ++ removed)) (x ∷ []) (Some (l.0 ∷ l.1))) (append-nil own) (breaks-behind own [] removed l.0 l.1 h l.2 some)))
  unsure-left path (b ∷ back) own removed h some = ([], inl (breaks-before own removed (Append path (b ∷ back)) [] h some))

  broken : (published : Published) (own removed : List Op) → BreaksOff plan published own → legal.AreSome lock_removals removed → Breaks (at t f so (turns.Idle None idle)) x published (locking ++ (own ++ removed))
  broken _ _ removed (while_undone a b op left o rest h d) some = ([], breaks-within a b removed op left o rest h d some)
  broken _ _ removed (behind a b o rest h d) some = (o ∷ rest, breaks-behind a b removed o rest h (subst (λ k. IsDone k b (o ∷ rest)) lists.removal d) some)
  broken _ own removed (unsure path front back _ place h) some = unsure-left path back own removed h some

  -- ---- any end

  ended : (front : List Op) → x.ops.undo ≡ front ++ Remove journal_path ∷ [] → (outcome : Short) (own removed : List Op) → Ends plan outcome own → AreSome (removals_after outcome) removed → Comes (at t f so (turns.Idle None idle)) x outcome (locking ++ (own ++ removed))
  ended front e Done own removed ends some = carried own removed ends some
  ended front e Fault own removed ends some = taken-back front e own removed ends (same-some removals removed some)
  ended front e Memory own removed ends some = taken-back front e own removed ends (same-some removals removed some)
  ended front e (Unfinished published) own removed ends some = broken published own removed ends (same-some lock_removals removed some)

  pub comes : (front : List Op) → x.ops.undo ≡ front ++ Remove journal_path ∷ [] → (outcome : Short) (swept : Bool) (carrying : List Op) → CarriedOut (after_all locking t) plan outcome swept carrying → Comes (at t f so (turns.Idle None idle)) x outcome (locking ++ carrying)
  comes front e outcome swept carrying c =
      subst (λ k. Comes (at t f so (turns.Idle None idle)) x outcome (locking ++ k)) (sym c.whole) (ended front e outcome c.own c.removed c.ends c.some)
