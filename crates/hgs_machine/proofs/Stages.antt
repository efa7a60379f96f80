-- What stands in the log at the next stage.
use Rattle.std.proofs.Common.{◌≡◌, ℕ, zero, suc, ◌+◌, ◌<◌, ◌≤◌, List, [], ◌∷◌, ◌++◌, length, take, drop, refl, sym, ◌∙◌, ap, subst, arith, append_assoc, append-nil, add-one, length-drop, Bool, true, false, cond}
use Rattle.std.specs.Prelude.{Option, Some, None, slice_get}
use Rattle.std.proofs.lemmas.Option.{slice_get_within}
use Rattle.std.proofs.lemmas.List.{drop_all, take-append-drop}
use Rattle.hgs_files.specs.declared.op.Op.{Op}
use Rattle.hgs_files.specs.declared.op.Op.TheVariants.{Append, Cut, Rename, Remove, Create, Sync, Settle}
use Rattle.hgs_files.specs.Log.{IsDone}
use Rattle.hgs_files.specs.Tree.{Tree, after_all, apply, same_path}
use Rattle.hgs_machine.proofs.Trees.{after_all-append, same_path-refl}
use Rattle.hgs_journal.specs.Names.{journal_path}
use Rattle.hgs_ops.specs.Operations.{removals}
use Rattle.hgs_transaction.specs.declared.assemble.Plan.{Plan}
use Rattle.hgs_machine.specs.declared.ended.Published.TheVariants.{No, Yes}
use Rattle.hgs_machine.specs.declared.ended.Short.{Short}
use Rattle.hgs_machine.specs.declared.ended.Short.TheVariants.{Done as AllDone, Fault, Unfinished, Memory as OutOfMemory}
use Rattle.hgs_machine.specs.declared.machine.Reply.TheVariants.{Failed}
use Rattle.hgs_machine.specs.Asked.{stray_end}
use Rattle.hgs_machine.specs.Course.{AreGone, IsGone, AreSome, BreaksOff, CarriedOut, Ends, HasBegun, IsCarried, IsTakenBack, before_journal, behind, between, lock_removals, removals_after, through_publishing, through_removal, undone, while_undone}
use Rattle.hgs_machine.specs.Planned.{IsPlanned}
use Rattle.hgs_machine.specs.SoFar.{FinishesTo, Leaves, SweepsAllTo, SweepsTo, UndoesTo, WorksTo, sweep_from}
use Rattle.hgs_machine.proofs.Lists.{at-place, between-more, between-none, between-rest, between-split, drop-add, get-take, some-done, some-skipped, take-more}
use Rattle.hgs_machine.proofs.Pieces.{done-behind, done-both, left-before-end, some-behind}

-- ---- facts of a plan

-- a front, the journal's removal, and the removals behind it
pub ends-with : (t : Tree) (p : Plan) → IsPlanned t p → take p.commit p.ops.items ++ Remove journal_path ∷ removals ≡ p.ops.items
ends-with t p h = ap (λ (l : List Op). take p.commit p.ops.items ++ l) (sym h.commit) ∙ take-append-drop p.commit p.ops.items

pub at-commit : (t : Tree) (p : Plan) → IsPlanned t p → slice_get p.ops.items p.commit ≡ Some (Remove journal_path)
at-commit t p h = at-place p.ops.items removals p.commit (Remove journal_path) h.commit

pub commit-within : (t : Tree) (p : Plan) → IsPlanned t p → p.commit < length p.ops.items
commit-within t p h = slice_get_within p.ops.items p.commit (Remove journal_path) (at-commit t p h)

-- how many operations a plan has
pub so-many : (t : Tree) (p : Plan) → IsPlanned t p → length p.ops.items ≡ p.commit + 13
so-many t p h =
    let rest : length (drop p.commit p.ops.items) ≡ 13 = ap (λ (l : List Op). length l) h.commit in
    let size = length-drop p.commit p.ops.items in
    let within = commit-within t p h in
    omega arith

pub removals-behind : (t : Tree) (p : Plan) → IsPlanned t p → drop (p.commit + 1) p.ops.items ≡ removals
removals-behind t p h = drop-add p.ops.items p.commit 1 ∙ ap (λ (l : List Op). drop 1 l) h.commit

pub locks-behind : (t : Tree) (p : Plan) → IsPlanned t p → drop (stray_end p) p.ops.items ≡ lock_removals
locks-behind t p h =
    let many = so-many t p h in
    let place : stray_end p ≡ p.commit + 11 = omega arith in
    ap (λ n. drop n p.ops.items) place ∙ drop-add p.ops.items p.commit 11 ∙ ap (λ (l : List Op). drop 11 l) h.commit

pub to-commit : (t : Tree) (p : Plan) → IsPlanned t p → take (p.commit + 1) p.ops.items ≡ take p.commit p.ops.items ++ Remove journal_path ∷ []
to-commit t p h = take-more p.ops.items p.commit (Remove journal_path) (at-commit t p h)

-- ---- before the journal

-- an operation before the journal was refused or done in part
pub prepared-in-part : (p : Plan) (done : ℕ) (op : Op) (log more left : List Op) → done < p.journal → slice_get p.ops.items done ≡ Some op → IsDone (take done p.ops.items) log [] → IsDone (op ∷ []) more left
    → (rest : List Op) × IsDone (before_journal p) (log ++ more) rest
prepared-in-part p done op log more left within at h part =
    let rest = between (suc done) p.journal p.ops.items in (
      left ++ rest,
      subst (λ (l : List Op). IsDone l (log ++ more) (left ++ rest)) (sym (between-rest p.ops.items 0 done p.journal op (omega arith) within at))
          (done-both (take done p.ops.items) log (op ∷ rest) more (left ++ rest) h (done-behind (op ∷ []) rest more left part)),
    )

pub prepared-more : (p : Plan) (done : ℕ) (op : Op) (log more : List Op) → slice_get p.ops.items done ≡ Some op → IsDone (take done p.ops.items) log [] → IsDone (op ∷ []) more []
    → IsDone (take (done + 1) p.ops.items) (log ++ more) []
prepared-more p done op log more at h one =
    subst (λ (l : List Op). IsDone l (log ++ more) []) (sym (take-more p.ops.items done op at)) (done-both (take done p.ops.items) log (op ∷ []) more [] h one)

-- ---- from the journal on

-- the first of a list was done in part, and something of it stands
begun-with : (p : Plan) (working log more left : List Op) → IsDone (before_journal p) log [] → IsDone working more left → (more ≡ [] → ⊥) → HasBegun p working (log ++ more) left
begun-with p working log [] left h d some = absurd (some refl)
begun-with p working log (first ∷ more) left h d some = record { prepared = log; all_prepared = h; first = first; more = more; done = d; whole = refl }

not-none : (op : Op) (more : List Op) → IsDone (op ∷ []) more [] → more ≡ [] → ⊥
not-none op more d e = let same : ◌≡◌ {A = List Op} (op ∷ []) [] = subst (λ (l : List Op). IsDone (op ∷ []) l []) e d in absurd (omega (arith, ap length same))

pub works-first : (p : Plan) (op : Op) (log more : List Op) → slice_get p.ops.items p.journal ≡ Some op → IsDone (before_journal p) log [] → IsDone (op ∷ []) more [] → WorksTo p (p.journal + 1) (log ++ more)
works-first p op log more at h one =
    begun-with p (between p.journal (p.journal + 1) p.ops.items) log more [] h
    (subst (λ (l : List Op). IsDone l more []) (sym (between-more p.ops.items p.journal p.journal op (omega arith) at ∙ ap (λ (l : List Op). l ++ op ∷ []) (between-none p.journal p.ops.items))) one)
    (not-none op more one)

-- and then some of what follows
begun-both : (p : Plan) (working next log more left : List Op) → HasBegun p working log [] → IsDone next more left → HasBegun p (working ++ next) (log ++ more) left
begun-both p working next log more left h d = record {
  prepared = h.prepared;
  all_prepared = h.all_prepared;
  first = h.first;
  more = h.more ++ more;
  done = done-both working (h.first ∷ h.more) next more left h.done d;
  whole = ap (λ (l : List Op). l ++ more) h.whole ∙ append_assoc h.prepared (h.first ∷ h.more) more;
}

pub works-more : (p : Plan) (done : ℕ) (op : Op) (log more : List Op) → p.journal ≤ done → slice_get p.ops.items done ≡ Some op → WorksTo p done log → IsDone (op ∷ []) more [] → WorksTo p (done + 1) (log ++ more)
works-more p done op log more within at h one =
    subst (λ (w : List Op). HasBegun p w (log ++ more) []) (sym (between-more p.ops.items p.journal done op within at)) (begun-both p (between p.journal done p.ops.items) (op ∷ []) log more [] h one)

-- an operation was refused or done in part
pub works-in-part : (p : Plan) (done : ℕ) (op : Op) (log more left : List Op) → p.journal ≤ done → done ≤ p.publish → slice_get p.ops.items done ≡ Some op → WorksTo p done log → IsDone (op ∷ []) more left
    → HasBegun p (through_publishing p) (log ++ more) (left ++ between (suc done) (p.publish + 1) p.ops.items)
works-in-part p done op log more left within before at h part =
    let rest = between (suc done) (p.publish + 1) p.ops.items in
    subst (λ (w : List Op). HasBegun p w (log ++ more) (left ++ rest)) (sym (between-rest p.ops.items p.journal done (p.publish + 1) op within (omega arith) at))
    (begun-both p (between p.journal done p.ops.items) (op ∷ rest) log more (left ++ rest) h (done-behind (op ∷ []) rest more left part))

-- before the publishing operation something is left then
pub left-to-publish : (t : Tree) (p : Plan) (done : ℕ) (left : List Op) → IsPlanned t p → done < p.publish → (op : Op) × (rest : List Op) × (left ++ between (suc done) (p.publish + 1) p.ops.items ≡ op ∷ rest)
left-to-publish t p done left h before =
    let some = some-behind left (between (suc done) p.publish p.ops.items) (between (suc p.publish) (p.publish + 1) p.ops.items) h.publishing in
    (some.0, some.1, ap (λ (l : List Op). left ++ l) (between-rest p.ops.items (suc done) p.publish (p.publish + 1) h.publishing before (omega arith) h.at_publish) ∙ some.2)

-- where the publishing operation was refused, it alone is left
pub left-at-publish : (p : Plan) (left : List Op) → left ++ between (suc p.publish) (p.publish + 1) p.ops.items ≡ left
left-at-publish p left = ap (λ n. left ++ between (suc p.publish) n p.ops.items) (add-one p.publish) ∙ ap (λ (l : List Op). left ++ l) (between-none (suc p.publish) p.ops.items) ∙ append-nil left

-- ---- behind the publishing operation

pub finishes-first : (p : Plan) (log : List Op) → HasBegun p (through_publishing p) log [] → FinishesTo p (p.publish + 1) log
finishes-first p log h = record { working = log; finishing = []; has_begun = h; finished = between-none (p.publish + 1) p.ops.items; whole = sym (append-nil log) }

pub finishes-more : (p : Plan) (done : ℕ) (op : Op) (log more : List Op) → p.publish < done → slice_get p.ops.items done ≡ Some op → FinishesTo p done log → IsDone (op ∷ []) more [] → FinishesTo p (done + 1) (log ++ more)
finishes-more p done op log more later at h one = record {
  working = h.working;
  finishing = h.finishing ++ more;
  has_begun = h.has_begun;
  finished =
      subst (λ (l : List Op). IsDone l (h.finishing ++ more) []) (sym (between-more p.ops.items (p.publish + 1) done op (omega arith) at))
      (done-both (between (p.publish + 1) done p.ops.items) h.finishing (op ∷ []) more [] h.finished one);
  whole = ap (λ (l : List Op). l ++ more) h.whole ∙ append_assoc h.working h.finishing more;
}

pub is-carried : (p : Plan) (log : List Op) → FinishesTo p (p.commit + 1) log → IsCarried p log
is-carried p log h = record { working = h.working; finishing = h.finishing; has_begun = h.has_begun; done = h.finished; whole = h.whole }

-- an operation was refused
pub breaks-behind : (t : Tree) (p : Plan) (done : ℕ) (op : Op) (log more : List Op) → IsPlanned t p → p.publish < done → done ≤ p.commit → slice_get p.ops.items done ≡ Some op → FinishesTo p done log → Leaves op Failed more → BreaksOff p Yes (log ++ more)
breaks-behind t p done op log more planned later within at h failed =
    let ops = p.ops.items in
    let last : take (p.commit + 1) ops ≡ take p.commit ops ++ Remove journal_path ∷ [] = to-commit t p planned in
    let at-last : slice_get (take p.commit ops ++ Remove journal_path ∷ []) done ≡ Some op = subst (λ (l : List Op). slice_get l done ≡ Some op) last (get-take ops (p.commit + 1) done (omega arith) ∙ at) in
    let left = left-before-end (take p.commit ops) journal_path done op more at-last failed in
    let split : through_removal p ≡ between (p.publish + 1) done ops ++ drop done (take (p.commit + 1) ops) = between-split ops (p.publish + 1) done (p.commit + 1) (omega arith) (omega arith) in
    let whole : IsDone (through_removal p) (h.finishing ++ more) (left.0 ∷ left.1) =
    subst (λ (l : List Op). IsDone l (h.finishing ++ more) (left.0 ∷ left.1)) (sym split)
    (done-both (between (p.publish + 1) done ops) h.finishing (drop done (take (p.commit + 1) ops)) more (left.0 ∷ left.1) h.finished (subst (λ (l : List Op). IsDone (drop done l) more (left.0 ∷ left.1)) (sym last) left.2)) in
    subst (BreaksOff p Yes) (sym (ap (λ (l : List Op). l ++ more) h.whole ∙ append_assoc h.working h.finishing more)) (behind h.working (h.finishing ++ more) left.0 left.1 h.has_begun whole)

-- ---- undoing

pub undoes-first : (p : Plan) (log : List Op) (op : Op) (left : List Op) → HasBegun p (through_publishing p) log (op ∷ left) → UndoesTo p 0 log
undoes-first p log op left h = record { working = log; undoing = []; op = op; left = left; has_begun = h; undone = refl; whole = sym (append-nil log) }

pub undoes-more : (p : Plan) (place : ℕ) (op : Op) (log more : List Op) → slice_get p.undo.items place ≡ Some op → UndoesTo p place log → IsDone (op ∷ []) more [] → UndoesTo p (place + 1) (log ++ more)
undoes-more p place op log more at h one = record {
  working = h.working;
  undoing = h.undoing ++ more;
  op = h.op;
  left = h.left;
  has_begun = h.has_begun;
  undone = subst (λ (l : List Op). IsDone l (h.undoing ++ more) []) (sym (take-more p.undo.items place op at)) (done-both (take place p.undo.items) h.undoing (op ∷ []) more [] h.undone one);
  whole = ap (λ (l : List Op). l ++ more) h.whole ∙ append_assoc h.working h.undoing more;
}

pub take-all : (xs : List Op) (n : ℕ) → length xs ≤ n → take n xs ≡ xs
take-all xs n h = sym (append-nil (take n xs)) ∙ ap (λ (l : List Op). take n xs ++ l) (sym (drop_all n xs h)) ∙ take-append-drop n xs

pub is-undone : (p : Plan) (place : ℕ) (log : List Op) → length p.undo.items ≤ place → UndoesTo p place log → IsTakenBack p log
is-undone p place log all h =
    subst (IsTakenBack p) (sym h.whole) (undone h.working h.undoing h.op h.left h.has_begun (subst (λ (l : List Op). IsDone l h.undoing []) (take-all p.undo.items place all) h.undone))

pub breaks-undoing : (t : Tree) (p : Plan) (place : ℕ) (op : Op) (log more : List Op) → IsPlanned t p → slice_get p.undo.items place ≡ Some op → UndoesTo p place log → Leaves op Failed more → BreaksOff p No (log ++ more)
breaks-undoing t p place op log more planned at h failed =
    let front = planned.undo.0 in
    let ends = planned.undo.1 in
    let left = left-before-end front journal_path place op more (subst (λ (l : List Op). slice_get l place ≡ Some op) ends at) failed in
    let whole : IsDone p.undo.items (h.undoing ++ more) (left.0 ∷ left.1) =
    subst (λ (l : List Op). IsDone l (h.undoing ++ more) (left.0 ∷ left.1)) (take-append-drop place p.undo.items)
    (done-both (take place p.undo.items) h.undoing (drop place p.undo.items) more (left.0 ∷ left.1) h.undone (subst (λ (l : List Op). IsDone (drop place l) more (left.0 ∷ left.1)) (sym ends) left.2)) in
    subst (BreaksOff p No) (sym (ap (λ (l : List Op). l ++ more) h.whole ∙ append_assoc h.working h.undoing more)) (while_undone h.working (h.undoing ++ more) h.op h.left left.0 left.1 h.has_begun whole)

-- ---- a journal whose creation failed

-- ---- the removals

pub sweeps-first : (p : Plan) (outcome : Short) (log : List Op) → Ends p outcome log → sweep_from p outcome ≤ length p.ops.items → SweepsTo p (sweep_from p outcome) outcome log
sweeps-first p outcome log h within = record {
  own = log;
  removed = [];
  ends = h;
  from = omega arith;
  to = within;
  some = subst (λ (l : List Op). AreSome l []) (sym (between-none (sweep_from p outcome) p.ops.items)) refl;
  whole = sym (append-nil log);
}

pub sweeps-done : (p : Plan) (place : ℕ) (outcome : Short) (op : Op) (log more : List Op) → slice_get p.ops.items place ≡ Some op → SweepsTo p place outcome log → more ≡ op ∷ [] → SweepsTo p (place + 1) outcome (log ++ more)
sweeps-done p place outcome op log more at h e =
    let within = slice_get_within p.ops.items place op at in
    record {
      own = h.own;
      removed = h.removed ++ more;
      ends = h.ends;
      from = (let f = h.from in omega arith);
      to = omega arith;
      some =
          subst (λ (l : List Op). AreSome l (h.removed ++ more)) (sym (between-more p.ops.items (sweep_from p outcome) place op h.from at))
          (subst (λ (l : List Op). AreSome (between (sweep_from p outcome) place p.ops.items ++ op ∷ []) (h.removed ++ l)) (sym e) (some-done (between (sweep_from p outcome) place p.ops.items) h.removed op h.some));
      whole = ap (λ (l : List Op). l ++ more) h.whole ∙ append_assoc h.own h.removed more;
    }

pub sweeps-past : (p : Plan) (place : ℕ) (outcome : Short) (op : Op) (log more : List Op) → slice_get p.ops.items place ≡ Some op → SweepsTo p place outcome log → more ≡ [] → SweepsTo p (place + 1) outcome (log ++ more)
sweeps-past p place outcome op log more at h e =
    let within = slice_get_within p.ops.items place op at in
    record {
      own = h.own;
      removed = h.removed;
      ends = h.ends;
      from = (let f = h.from in omega arith);
      to = omega arith;
      some =
          subst (λ (l : List Op). AreSome l h.removed) (sym (between-more p.ops.items (sweep_from p outcome) place op h.from at))
          (some-skipped (between (sweep_from p outcome) place p.ops.items) h.removed op h.some);
      whole = ap (λ (l : List Op). log ++ l) e ∙ append-nil log ∙ h.whole;
    }

pub removals-left : (t : Tree) (p : Plan) (outcome : Short) → IsPlanned t p → drop (sweep_from p outcome) p.ops.items ≡ removals_after outcome
removals-left t p AllDone h = removals-behind t p h
removals-left t p Fault h = removals-behind t p h
removals-left t p OutOfMemory h = removals-behind t p h
removals-left t p (Unfinished published) h = locks-behind t p h

pub none-there : (xs : List Op) (k : ℕ) → slice_get xs k ≡ None → length xs ≤ k
none-there [] k e = omega arith
none-there (x ∷ xs) zero e = absurd (let no : ⊥ = cc in no)
none-there (x ∷ xs) (suc k) e = let more = none-there xs k e in omega arith

pub carried-out : (t : Tree) (p : Plan) (place : ℕ) (outcome : Short) (swept : Bool) (log : List Op) → IsPlanned t p → slice_get p.ops.items place ≡ None → SweepsTo p place outcome log → SweepsAllTo t p place outcome swept log → CarriedOut t p outcome swept log
carried-out t p place outcome swept log planned none h gone =
    let all : between (sweep_from p outcome) place p.ops.items ≡ removals_after outcome = ap (λ (l : List Op). drop (sweep_from p outcome) l) (take-all p.ops.items place (none-there p.ops.items place none)) ∙ removals-left t p outcome planned in
    record {
      own = h.own;
      removed = h.removed;
      ends = h.ends;
      some = subst (λ (l : List Op). AreSome l h.removed) all h.some;
      whole = h.whole;
      gone = λ s. subst (AreGone (after_all log t)) all (gone s);
    }

-- ---- files that do not stand

gone-append : (t : Tree) (xs ys : List Op) → AreGone t xs → AreGone t ys → AreGone t (xs ++ ys)
gone-append t [] ys h k = k
gone-append t (x ∷ xs) ys h k = (h.0, gone-append t xs ys h.1 k)

none-stays : (b : Bool) (file : Option (List ℕ)) → file ≡ None → cond b None file ≡ None
none-stays true file e = refl
none-stays false file e = e

one-stays : (t : Tree) (path : List ℕ) (op : Op) → IsGone t op → IsGone (apply (Remove path) t) op
one-stays t path (Remove other) h = none-stays (same_path path other) (t other) h
one-stays t path (Append other bytes) h = tt
one-stays t path (Cut other len) h = tt
one-stays t path (Rename from to) h = tt
one-stays t path (Create other bytes) h = tt
one-stays t path (Sync other) h = tt
one-stays t path Settle h = tt

-- what does not stand stays away where another file is removed
gone-stays : (t : Tree) (path : List ℕ) (ops : List Op) → AreGone t ops → AreGone (apply (Remove path) t) ops
gone-stays t path [] h = tt
gone-stays t path (op ∷ ops) h = (one-stays t path op h.0, gone-stays t path ops h.1)

pub removed-gone : (t : Tree) (path : List ℕ) → apply (Remove path) t path ≡ None
removed-gone t path = rw (same_path-refl path) refl

pub none-yet : (t : Tree) (p : Plan) (outcome : Short) (swept : Bool) (log : List Op) → SweepsAllTo t p (sweep_from p outcome) outcome swept log
none-yet t p outcome swept log = λ s. subst (AreGone (after_all log t)) (sym (between-none (sweep_from p outcome) p.ops.items)) tt

-- a file was removed
pub gone-more : (t : Tree) (p : Plan) (place : ℕ) (outcome : Short) (swept after : Bool) (path : List ℕ) (log more : List Op) → sweep_from p outcome ≤ place → slice_get p.ops.items place ≡ Some (Remove path) → more ≡ Remove path ∷ [] → (after ≡ true → swept ≡ true)
    → SweepsAllTo t p place outcome swept log → SweepsAllTo t p (place + 1) outcome after (log ++ more)
gone-more t p place outcome swept after path log more from at e same gone = λ s.
    let old = after_all log t in
    let tree : after_all (log ++ more) t ≡ apply (Remove path) old = ap (λ (l : List Op). after_all (log ++ l) t) e ∙ after_all-append log (Remove path ∷ []) t in
    subst (λ (u : Tree). AreGone u (between (sweep_from p outcome) (place + 1) p.ops.items)) (sym tree)
    (subst (AreGone (apply (Remove path) old)) (sym (between-more p.ops.items (sweep_from p outcome) place (Remove path) from at))
    (gone-append (apply (Remove path) old) (between (sweep_from p outcome) place p.ops.items) (Remove path ∷ []) (gone-stays old path (between (sweep_from p outcome) place p.ops.items) (gone (same s))) (removed-gone old path, tt)))

-- a file does not stand
pub gone-already : (t : Tree) (p : Plan) (place : ℕ) (outcome : Short) (swept after : Bool) (path : List ℕ) (log more : List Op) → sweep_from p outcome ≤ place → slice_get p.ops.items place ≡ Some (Remove path) → more ≡ [] → (after ≡ true → (swept ≡ true) × (after_all log t path ≡ None))
    → SweepsAllTo t p place outcome swept log → SweepsAllTo t p (place + 1) outcome after (log ++ more)
gone-already t p place outcome swept after path log more from at e same gone = λ s.
    let old = after_all log t in
    let tree : after_all (log ++ more) t ≡ old = ap (λ (l : List Op). after_all (log ++ l) t) e ∙ ap (λ (l : List Op). after_all l t) (append-nil log) in
    subst (λ (u : Tree). AreGone u (between (sweep_from p outcome) (place + 1) p.ops.items)) (sym tree)
    (subst (AreGone old) (sym (between-more p.ops.items (sweep_from p outcome) place (Remove path) from at))
    (gone-append old (between (sweep_from p outcome) place p.ops.items) (Remove path ∷ []) (gone (same s).0) ((same s).1, tt)))
