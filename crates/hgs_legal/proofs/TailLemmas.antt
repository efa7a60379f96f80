-- A legal log is made of whole pieces.
use Rattle.std.proofs.Common.{◌≡◌, ◌⊎◌, ℕ, List, [], ◌∷◌, ◌++◌, length, refl, sym, ◌∙◌, ap, subst, inl, inr, arith, append_assoc, append-nil, length-append}
use Rattle.std.specs.Prelude.{Option, Some, None}
use Rattle.hgs_files.specs.declared.op.Op.{Op}
use Rattle.hgs_files.specs.declared.op.Op.TheVariants.{Create, Remove}
use Rattle.hgs_files.specs.Tree.{Tree, apply, after_all}
use Rattle.hgs_files.specs.Log.{Does, IsDone}
use Rattle.hgs_files.specs.Theorems.TreeLemmas.{after_all-append}
use Rattle.hgs_model.specs.Repo.{Repo}
use Rattle.hgs_journal.specs.Names.{journal_path}
use Rattle.hgs_ops.specs.Operations.{Transaction, lock_path, removals, wlock_path}
use Rattle.hgs_stands.specs.Stands.{IsClean}
use Rattle.hgs_legal.specs.LegalLog.{Acts, Doing, Goes, Idle, IsLegal, IsTurn, Leaves, Preparing, Published, Refused, Run, State, Turn, Undoing, Working, begins, breaks, breaks_after, breaks_undo, current, finished, finishes, gives_up, goes_on_knocking, goes_on_undoing, is_refused, journals, knocks, knocks_again, last_repo, lock_removals, newly, prepares, removes, start_of, stays, through_publishing, through_removal, undoes, undone, worked, works}
use Rattle.hgs_legal.specs.Pieces.{AreSome, HasBegun, LeavesJournal, Piece, Pieces, Refusals, and_then, at_last, before, behind, given_up, no_more, no_pieces, once, one_more, refused, twice, was_undone, whole_list, within}
use Rattle.hgs_legal.proofs.PieceLemmas.{last_repo-push}

-- removals and then whole pieces, or refused writers
abbrev Clear : Tree → Repo → List Op → List Op → Type 0
Clear t r rest log = (c : List Op) × (d : List Op) × (log ≡ c ++ d) × AreSome rest c × Pieces (after_all c t) r d

abbrev Gone : List Op → List Op → Type 0
Gone rest log = (c : List Op) × (d : List Op) × (log ≡ c ++ d) × AreSome rest c × Refusals d

-- after a writer that is gone
abbrev Over : Tree → Repo → Option (List Op) → List Op → List Op → Type 0
Over t r None rest log = Clear t r rest log
Over t r (Some l) rest log = Gone rest log

-- the rest of an undo list; of what follows publication
pub record UndoTail (t : Tree) (r : Repo) (left log : List Op) : Type 0 where
  pub a : List Op
  pub b : List Op
  pub is : log ≡ a ++ b
  pub then : (IsDone left a [] × Clear (after_all a t) r removals b) ⊎ ((o : Op) × (l : List Op) × IsDone left a (o ∷ l) × Gone lock_removals b)

-- the rest of what leads through the publishing operation
pub data WorkEnd (t : Tree) (r : Repo) (x : Turn) : List Op → List Op → Type 0 where
  is_published : {b : List Op} → UndoTail t x.next (through_removal x.ops) b → WorkEnd t r x [] b
  is_undone : {o : Op} {l b : List Op} → UndoTail t r x.ops.undo b → WorkEnd t r x (o ∷ l) b
  is_broken : {o : Op} {l b : List Op} → Gone lock_removals b → WorkEnd t r x (o ∷ l) b

pub record WorkTail (t : Tree) (r : Repo) (x : Turn) (left log : List Op) : Type 0 where
  pub a : List Op
  pub b : List Op
  pub is : log ≡ a ++ b
  pub then_left : List Op
  pub done : IsDone left a then_left
  pub then : WorkEnd (after_all a t) r x then_left b

pub data PrepareEnd (t : Tree) (r : Repo) (x : Turn) : List Op → List Op → Type 0 where
  is_given_up : {left b : List Op} → Clear t r removals b → PrepareEnd t r x left b
  goes_on : (op : Op) (mid log : List Op) → Does (through_publishing x.ops) op mid → WorkTail (apply op t) r x mid log → PrepareEnd t r x [] (op ∷ log)

pub record PrepareTail (t : Tree) (r : Repo) (x : Turn) (left log : List Op) : Type 0 where
  pub a : List Op
  pub b : List Op
  pub is : log ≡ a ++ b
  pub then_left : List Op
  pub done : IsDone left a then_left
  pub then : PrepareEnd (after_all a t) r x then_left b

pub data RefusedEnd (t : Tree) (r : Repo) (l : Option (List Op)) : List Op → List Op → List Op → Type 0 where
  is_out : {left rest b : List Op} → Over t r l rest b → RefusedEnd t r l left rest b
  again : (who : List ℕ) (op : Op) (more left b : List Op) → IsDone (Create lock_path who ∷ []) (op ∷ more) left → Over (after_all (op ∷ more) t) r l lock_removals b → RefusedEnd t r l [] (Remove wlock_path ∷ []) ((op ∷ more) ++ b)

pub record RefusedTail (t : Tree) (r : Repo) (l : Option (List Op)) (creation rest log : List Op) : Type 0 where
  pub a : List Op
  pub b : List Op
  pub is : log ≡ a ++ b
  pub then_left : List Op
  pub done : IsDone creation a then_left
  pub then : RefusedEnd (after_all a t) r l then_left rest b

-- the log is the rest of the piece that stands, and then whole pieces
abbrev Tail : Tree → Repo → Doing → List Op → Type 0
Tail t r (Idle l rest) log = Over t r l rest log
Tail t r (Refused l creation rest) log = RefusedTail t r l creation rest log
Tail t r (Preparing x left) log = PrepareTail t r x left log
Tail t r (Working x left) log = WorkTail t r x left log
Tail t r (Published x left) log = UndoTail t r left log
Tail t r (Undoing left) log = UndoTail t r left log

-- ---- a writer that leaves

none-some : (rest : List Op) → AreSome rest []
none-some [] = refl
none-some (op ∷ rest) = inl (none-some rest)

leaves-tail : (t : Tree) (r : Repo) (d e : Doing) (log : List Op) → Leaves d e → Tail t r e log → Tail t r d log
leaves-tail t r d _ log stays h = h
leaves-tail t r _ _ log (gives_up {left = left}) h = record { a = []; b = log; is = refl; then_left = left; done = refl; then = is_given_up h }
leaves-tail t r _ _ log (breaks {op = op} {left = left}) h = record { a = []; b = log; is = refl; then_left = op ∷ left; done = refl; then = is_broken h }
leaves-tail t r _ _ log (breaks_after {op = op} {left = left}) h = record { a = []; b = log; is = refl; then = inr (op, left, refl, h) }
leaves-tail t r _ _ log (breaks_undo {op = op} {left = left}) h = record { a = []; b = log; is = refl; then = inr (op, left, refl, h) }
leaves-tail t r _ _ log (is_refused {creation = creation}) h = record { a = []; b = log; is = refl; then_left = creation; done = refl; then = is_out h }

-- ---- one more operation before a tail

undo-cons : (t : Tree) (r : Repo) (to_do left : List Op) (op : Op) (log : List Op) → Does to_do op left → UndoTail (apply op t) r left log → UndoTail t r to_do (op ∷ log)
undo-cons t r to_do left op log does h = record {
  a = op ∷ h.a;
  b = h.b;
  is = ap (λ k. op ∷ k) h.is;
  then = elim h.then [ inl (done, clear) ↦ inl ((left, does, done), clear) | inr (o, l, done, gone) ↦ inr (o, l, (left, does, done), gone) ];
}

undone-cons : (t : Tree) (r : Repo) (to_do left : List Op) (op : Op) (log : List Op) → Does to_do op left → Tail (apply op t) r (undone left) log → UndoTail t r to_do (op ∷ log)
undone-cons t r to_do [] op log does h = record { a = op ∷ []; b = log; is = refl; then = inl (([], does, refl), h) }
undone-cons t r to_do (o ∷ left) op log does h = undo-cons t r to_do (o ∷ left) op log does h

finished-cons : (t : Tree) (r : Repo) (x : Turn) (to_do left : List Op) (op : Op) (log : List Op) → Does to_do op left → Tail (apply op t) r (finished x left) log → UndoTail t r to_do (op ∷ log)
finished-cons t r x to_do [] op log does h = record { a = op ∷ []; b = log; is = refl; then = inl (([], does, refl), h) }
finished-cons t r x to_do (o ∷ left) op log does h = undo-cons t r to_do (o ∷ left) op log does h

work-cons : (t : Tree) (r : Repo) (x : Turn) (to_do left : List Op) (op : Op) (log : List Op) → Does to_do op left → WorkTail (apply op t) r x left log → WorkTail t r x to_do (op ∷ log)
work-cons t r x to_do left op log does h = record { a = op ∷ h.a; b = h.b; is = ap (λ k. op ∷ k) h.is; then_left = h.then_left; done = (left, does, h.done); then = h.then }

worked-cons : (t : Tree) (f : Repo) (so : List Turn) (x : Turn) (to_do left : List Op) (op : Op) (log : List Op) → Does to_do op left → Tail (apply op t) (last_repo f (so ++ newly x left)) (worked x left) log → WorkTail t (last_repo f so) x to_do (op ∷ log)
worked-cons t f so x to_do [] op log does h =
    record { a = op ∷ []; b = log; is = refl; then_left = []; done = ([], does, refl); then = is_published (subst (λ q. UndoTail (apply op t) q (through_removal x.ops) log) (last_repo-push f so x) h) }
worked-cons t f so x to_do (o ∷ left) op log does h =
    work-cons t (last_repo f so) x to_do (o ∷ left) op log does (subst (λ q. WorkTail (apply op t) (last_repo f q) x (o ∷ left) log) (append-nil so) h)

some-skip : (skipped rest c : List Op) (op : Op) → AreSome rest c → AreSome (skipped ++ op ∷ rest) (op ∷ c)
some-skip [] rest c op h = inr (c, refl, h)
some-skip (o ∷ skipped) rest c op h = inl (some-skip skipped rest c op h)

removes-cons : (t : Tree) (r : Repo) (l : Option (List Op)) (all rest skipped log : List Op) (path : List ℕ) → all ≡ skipped ++ Remove path ∷ rest → Over (apply (Remove path) t) r l rest log → Over t r l all (Remove path ∷ log)
removes-cons t r None all rest skipped log path e (c, d, is, some, pieces) =
    (Remove path ∷ c, d, ap (λ k. Remove path ∷ k) is, subst (λ k. AreSome k (Remove path ∷ c)) (sym e) (some-skip skipped rest c (Remove path) some), pieces)
removes-cons t r (Some l) all rest skipped log path e (c, d, is, some, more) =
    (Remove path ∷ c, d, ap (λ k. Remove path ∷ k) is, subst (λ k. AreSome k (Remove path ∷ c)) (sym e) (some-skip skipped rest c (Remove path) some), more)

-- ---- pieces put together

and_more : (t u : Tree) (r r' : Repo) (l d log : List Op) → Piece t r l r' → Pieces u r' d → after_all l t ≡ u → log ≡ l ++ d → Pieces t r log
and_more t u r r' l d log piece pieces tree is = subst (Pieces t r) (sym is) (and_then l d r' piece (subst (λ v. Pieces v r' d) (sym tree) pieces))

and_gone : (t : Tree) (r : Repo) (l d log : List Op) → LeavesJournal t r l → Refusals d → log ≡ l ++ d → Pieces t r log
and_gone t r l d log left more is = subst (Pieces t r) (sym is) (at_last l d left more)

after2 : (a b : List Op) (t : Tree) → after_all (a ++ b) t ≡ after_all b (after_all a t)
after2 = after_all-append

after3 : (a b c : List Op) (t : Tree) → after_all (a ++ b ++ c) t ≡ after_all c (after_all b (after_all a t))
after3 a b c t = after_all-append (a ++ b) c t ∙ ap (after_all c) (after_all-append a b t)

log2 : (log a b c d : List Op) → log ≡ a ++ b → b ≡ c ++ d → log ≡ (a ++ c) ++ d
log2 log a b c d e f = e ∙ ap (λ k. a ++ k) f ∙ sym (append_assoc a c d)

log3 : (log a b u v c d : List Op) → log ≡ a ++ b → b ≡ u ++ v → v ≡ c ++ d → log ≡ (a ++ u ++ c) ++ d
log3 log a b u v c d e f g = e ∙ ap (λ k. a ++ k) (log2 b u v c d f g) ∙ sym (append_assoc a (u ++ c) d) ∙ ap (λ k. k ++ d) (sym (append_assoc a u c))

no_list : {A B : Type 0} (x : A) (xs : List A) → x ∷ xs ≡ [] → B
no_list x xs e = absurd (omega (arith, ap length e))

no_end : {A B : Type 0} (xs : List A) (x : A) → xs ++ x ∷ [] ≡ [] → B
no_end xs x e = absurd (omega (arith, ap length e, length-append xs (x ∷ [])))

-- the undo list of a transaction has the journal's removal at least
undo-some : {B : Type 0} (t : Tree) (r : Repo) (x : Turn) → IsTurn t r x → x.ops.undo ≡ [] → B
undo-some t r x it e = no_end _ (Remove journal_path) (sym (ap (λ (y : Transaction). y.undo) it.listed) ∙ e)

-- ---- what begins

refusal-tail : (t : Tree) (r : Repo) (l : Option (List Op)) (rest : List Op) (who : List ℕ) (op : Op) (creation log : List Op) → Does (Create wlock_path who ∷ []) op creation
    → RefusedTail (apply op t) r l creation (Remove wlock_path ∷ []) log → Over t r l rest (op ∷ log)
refusal-tail t r l rest who op creation log does h = by l h.then_left h.b h.done h.is h.then
  where
    by : (k : Option (List Op)) (left b : List Op) → IsDone creation h.a left → log ≡ h.a ++ b → RefusedEnd (after_all h.a (apply op t)) r k left (Remove wlock_path ∷ []) b → Over t r k rest (op ∷ log)
    by None left b done is (is_out (c, d, e, some, pieces)) =
        ([], op ∷ log, refl, none-some rest, and_more t _ r r ((op ∷ h.a) ++ c) d (op ∷ log) (refused _ (once who c op h.a left (creation, does, done) some)) pieces (after2 (op ∷ h.a) c t) (log2 (op ∷ log) (op ∷ h.a) b c d (ap (λ k. op ∷ k) is) e))
    by (Some k) left b done is (is_out (c, d, e, some, more)) =
        ([], op ∷ log, refl, none-some rest, subst Refusals (sym (log2 (op ∷ log) (op ∷ h.a) b c d (ap (λ q. op ∷ q) is) e)) (one_more ((op ∷ h.a) ++ c) d (once who c op h.a left (creation, does, done) some) more))
    by None _ _ done is (again other o more left b second (c, d, e, some, pieces)) = (
      [],
      op ∷ log,
      refl,
      none-some rest,
      and_more t _ r r ((op ∷ h.a) ++ (o ∷ more) ++ c) d (op ∷ log) (refused _ (twice who other c op h.a o more left (creation, does, done) second some)) pieces (after3 (op ∷ h.a) (o ∷ more) c t)
          (log3 (op ∷ log) (op ∷ h.a) ((o ∷ more) ++ b) (o ∷ more) b c d (ap (λ k. op ∷ k) is) refl e),
    )
    by (Some k) _ _ done is (again other o more left b second (c, d, e, some, rest')) = (
      [],
      op ∷ log,
      refl,
      none-some rest,
      subst Refusals (sym (log3 (op ∷ log) (op ∷ h.a) ((o ∷ more) ++ b) (o ∷ more) b c d (ap (λ q. op ∷ q) is) refl e))
          (one_more ((op ∷ h.a) ++ (o ∷ more) ++ c) d (twice who other c op h.a o more left (creation, does, done) second some) rest'),
    )

-- from the beginning of the journal on
module _ (t : Tree) (r : Repo) (x : Turn) (log A b : List Op) (is : log ≡ A ++ b) where
  published-end : HasBegun t r x A [] → UndoTail (after_all A t) x.next (through_removal x.ops) b → Pieces t r log
  published-end begun u = by u.a u.is u.then
    where
      by : (a : List Op) → b ≡ a ++ u.b → (IsDone (through_removal x.ops) a [] × Clear (after_all a (after_all A t)) x.next removals u.b) ⊎ ((o : Op) × (l : List Op) × IsDone (through_removal x.ops) a (o ∷ l) × Gone lock_removals u.b) → Pieces t r log
      by [] e (inl (done, clear)) = no_end x.ops.renames (Remove journal_path) done
      by (o ∷ a) e (inl (done, (c, d, f, some, pieces))) =
          and_more t _ r x.next (A ++ (o ∷ a) ++ c) d log (whole_list x A c o a begun done some) pieces (after3 A (o ∷ a) c t) (log3 log A b (o ∷ a) u.b c d is e f)
      by a e (inr (o, l, done, (c, d, f, some, more))) =
          and_gone t r (A ++ a ++ c) d log (behind x A a c o l begun done some) more (log3 log A b a u.b c d is e f)

  undone-end : (p : Op) (q : List Op) → HasBegun t r x A (p ∷ q) → UndoTail (after_all A t) r x.ops.undo b → Pieces t r log
  undone-end p q begun u = by u.a u.is u.then
    where
      by : (a : List Op) → b ≡ a ++ u.b → (IsDone x.ops.undo a [] × Clear (after_all a (after_all A t)) r removals u.b) ⊎ ((o : Op) × (l : List Op) × IsDone x.ops.undo a (o ∷ l) × Gone lock_removals u.b) → Pieces t r log
      by [] e (inl (done, clear)) = undo-some t r x begun.it done
      by (o ∷ a) e (inl (done, (c, d, f, some, pieces))) =
          and_more t _ r r (A ++ (o ∷ a) ++ c) d log (was_undone x A c p q o a begun done some) pieces (after3 A (o ∷ a) c t) (log3 log A b (o ∷ a) u.b c d is e f)
      by [] e (inr (o, l, done, (c, d, f, some, more))) =
          and_gone t r (A ++ c) d log (before x A c p q begun some) more (log2 log A b c d is (e ∙ f))
      by (v ∷ a) e (inr (o, l, done, (c, d, f, some, more))) =
          and_gone t r (A ++ (v ∷ a) ++ c) d log (within x A c p q o l v a begun done some) more (log3 log A b (v ∷ a) u.b c d is e f)

work-end : (t : Tree) (r : Repo) (x : Turn) (log A left b : List Op) → log ≡ A ++ b → HasBegun t r x A left → WorkEnd (after_all A t) r x left b → Pieces t r log
work-end t r x log A _ b is begun (is_published u) = published-end t r x log A b is begun u
work-end t r x log A _ b is begun (is_undone {o = o} {l = l} u) = undone-end t r x log A b is o l begun u
work-end t r x log A _ b is begun (is_broken {o = o} {l = l} (c, d, f, some, more)) = and_gone t r (A ++ c) d log (before x A c o l begun some) more (log2 log A b c d is f)

prepare-end : (t : Tree) (r : Repo) (x : Turn) (op : Op) (a log left b : List Op) → IsTurn t r x → IsDone x.ops.before (op ∷ a) left → log ≡ (op ∷ a) ++ b → PrepareEnd (after_all (op ∷ a) t) r x left b → Pieces t r log
prepare-end t r x op a log left b it done is (is_given_up (c, d, f, some, pieces)) =
    and_more t _ r r ((op ∷ a) ++ c) d log (given_up x c op left a it done some) pieces (after2 (op ∷ a) c t) (log2 log (op ∷ a) b c d is f)
prepare-end t r x op a log _ _ it done is (goes_on p mid log2' does w) =
    let A = (op ∷ a) ++ p ∷ w.a in
    work-end t r x log A w.then_left w.b
    (is ∙ ap (λ k. (op ∷ a) ++ p ∷ k) w.is ∙ sym (append_assoc (op ∷ a) (p ∷ w.a) w.b))
    (record { it = it; start = op; prepared = a; all_prepared = done; first = p; more = w.a; done = (mid, does, w.done); whole = refl })
    (subst (λ u. WorkEnd u r x w.then_left w.b) (sym (after_all-append (op ∷ a) (p ∷ w.a) t)) w.then)

-- the second lock of a writer that is refused
knock-end : (t : Tree) (r : Repo) (l : Option (List Op)) (who : List ℕ) (op : Op) (creation a left b log : List Op) → Does (Create lock_path who ∷ []) op creation → IsDone creation a left → log ≡ a ++ b
    → RefusedEnd (after_all a (apply op t)) r l left lock_removals b → RefusedEnd t r l [] (Remove wlock_path ∷ []) (op ∷ log)
knock-end t r l who op creation a left b log does done is (is_out over) =
    subst (λ k. RefusedEnd t r l [] (Remove wlock_path ∷ []) (op ∷ k)) (sym is) (again who op a left b (creation, does, done) over)

-- ---- each rule

acts-tail : (t : Tree) (f : Repo) (so : List Turn) (d : Doing) (op : Op) (news : List Turn) (e : Doing) (log : List Op) → Acts t (last_repo f so) d op news e
    → Tail (apply op t) (last_repo f (so ++ news)) e log → Tail t (last_repo f so) d (op ∷ log)
acts-tail t f so _ op _ _ log (begins {rest = rest} {x = x} {left = left} it does) h =
    let k = subst (λ q. PrepareTail (apply op t) (last_repo f q) x left log) (append-nil so) h in
    ([], op ∷ log, refl, none-some rest, prepare-end t (last_repo f so) x op k.a (op ∷ log) k.then_left k.b it (left, does, k.done) (ap (λ q. op ∷ q) k.is) k.then)
acts-tail t f so _ op _ _ log (prepares {x = x} {left = left} does) h =
    let k = subst (λ q. PrepareTail (apply op t) (last_repo f q) x left log) (append-nil so) h in
    record { a = op ∷ k.a; b = k.b; is = ap (λ q. op ∷ q) k.is; then_left = k.then_left; done = (left, does, k.done); then = k.then }
acts-tail t f so _ op _ _ log (journals {x = x} {left = left} does) h =
    let k = subst (λ q. WorkTail (apply op t) (last_repo f q) x left log) (append-nil so) h in
    record { a = []; b = op ∷ log; is = refl; then_left = []; done = refl; then = goes_on op left log does k }
acts-tail t f so _ op _ _ log (works {x = x} {to_do = to_do} left does) h = worked-cons t f so x to_do left op log does h
acts-tail t f so _ op _ _ log (finishes {x = x} {to_do = to_do} left does) h =
    finished-cons t (last_repo f so) x to_do left op log does (subst (λ q. Tail (apply op t) (last_repo f q) (finished x left) log) (append-nil so) h)
acts-tail t f so _ op _ _ log (undoes {x = x} {o = o} {rest = rest} left does) h =
    let k = undone-cons t (last_repo f so) x.ops.undo left op log does (subst (λ q. Tail (apply op t) (last_repo f q) (undone left) log) (append-nil so) h) in
    record { a = []; b = op ∷ log; is = refl; then_left = o ∷ rest; done = refl; then = is_undone k }
acts-tail t f so _ op _ _ log (goes_on_undoing {to_do = to_do} left does) h =
    undone-cons t (last_repo f so) to_do left op log does (subst (λ q. Tail (apply op t) (last_repo f q) (undone left) log) (append-nil so) h)
acts-tail t f so _ _ _ _ log (removes {left = left} {all = all} {rest = rest} {path = path} skipped e) h =
    removes-cons t (last_repo f so) left all rest skipped log path e (subst (λ q. Over (apply (Remove path) t) (last_repo f q) left rest log) (append-nil so) h)
acts-tail t f so _ op _ _ log (knocks {left = left} {rest = rest} {creation = creation} who does) h =
    refusal-tail t (last_repo f so) left rest who op creation log does (subst (λ q. RefusedTail (apply op t) (last_repo f q) left creation (Remove wlock_path ∷ []) log) (append-nil so) h)
acts-tail t f so _ op _ _ log (knocks_again {left = left} {creation = creation} who does) h =
    let k = subst (λ q. RefusedTail (apply op t) (last_repo f q) left creation lock_removals log) (append-nil so) h in
    record { a = []; b = op ∷ log; is = refl; then_left = []; done = refl; then = knock-end t (last_repo f so) left who op creation k.a k.then_left k.b log does k.done k.is k.then }
acts-tail t f so _ op _ _ log (goes_on_knocking {left = left} {creation = creation} {rest = rest} does) h =
    let k = subst (λ q. RefusedTail (apply op t) (last_repo f q) left creation rest log) (append-nil so) h in
    record { a = op ∷ k.a; b = k.b; is = ap (λ q. op ∷ q) k.is; then_left = k.then_left; done = (creation, does, k.done); then = k.then }

goes-tail : (s : State) (op : Op) (s' : State) (log : List Op) → Goes s op s' → Tail s'.files (current s') s'.doing log → Tail s.files (current s) s.doing (op ∷ log)
goes-tail s op s' log g h =
    leaves-tail s.files (current s) s.doing g.there (op ∷ log) g.leaves
    (acts-tail s.files s.first s.published g.there op g.news s'.doing log g.acts
    (subst (λ u. Tail u (last_repo s.first (s.published ++ g.news)) s'.doing log) g.files
    (subst (λ f. Tail s'.files (last_repo f (s.published ++ g.news)) s'.doing log) g.first
    (subst (λ p. Tail s'.files (last_repo s'.first p) s'.doing log) g.published h))))

-- every state is at the end of a piece, or can be left there
over-none : (t : Tree) (r : Repo) (l : Option (List Op)) (rest : List Op) → Over t r l rest []
over-none t r None rest = ([], [], refl, none-some rest, no_pieces)
over-none t r (Some l) rest = ([], [], refl, none-some rest, no_more)

gone-none : Gone lock_removals []
gone-none = ([], [], refl, none-some lock_removals, no_more)

undo-none : (t : Tree) (r : Repo) (left : List Op) → UndoTail t r left []
undo-none t r [] = record { a = []; b = []; is = refl; then = inl (refl, over-none t r None removals) }
undo-none t r (o ∷ left) = record { a = []; b = []; is = refl; then = inr (o, left, refl, gone-none) }

tail-none : (t : Tree) (r : Repo) (d : Doing) → Tail t r d []
tail-none t r (Idle l rest) = over-none t r l rest
tail-none t r (Refused l creation rest) = record { a = []; b = []; is = refl; then_left = creation; done = refl; then = is_out (over-none t r l rest) }
tail-none t r (Preparing x left) = record { a = []; b = []; is = refl; then_left = left; done = refl; then = is_given_up (over-none t r None removals) }
tail-none t r (Working x []) = record { a = []; b = []; is = refl; then_left = []; done = refl; then = is_published (undo-none t x.next (through_removal x.ops)) }
tail-none t r (Working x (o ∷ left)) = record { a = []; b = []; is = refl; then_left = o ∷ left; done = refl; then = is_broken gone-none }
tail-none t r (Published x left) = undo-none t r left
tail-none t r (Undoing left) = undo-none t r left

run-tail : (s : State) (log : List Op) (s' : State) → Run s log s' → Tail s.files (current s) s.doing log
run-tail s [] s' run = tail-none s.files (current s) s.doing
run-tail s (op ∷ log) s' run = goes-tail s op run.0 log run.1 (run-tail run.0 log s' run.2)

-- A legal log is made of whole pieces.
pub legal-pieces : (t : Tree) (r : Repo) (log : List Op) → IsClean t r → IsLegal t log → Pieces t r log
legal-pieces t r log clean legal =
    let run = legal r clean in
    let tail = run-tail (start_of t r) log run.0 run.1 in
    subst (Pieces t r) (sym (tail.2 ∙ ap (λ c. c ++ tail.1) tail.3)) (subst (λ c. Pieces (after_all c t) r tail.1) tail.3 tail.4)
