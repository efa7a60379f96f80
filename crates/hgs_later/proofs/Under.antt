-- What stands at a path that transactions only add to, in each state of a run.
use Rattle.std.proofs.Common.{◌≡◌, ◌⊎◌, ℕ, List, [], ◌∷◌, ◌++◌, true, false, length, take, refl, sym, ◌∙◌, ap, subst, inl, inr, arith, append_assoc, append-nil, take_all}
use Rattle.std.proofs.lemmas.Fn.{FoldsTo-push}
use Rattle.std.specs.Prelude.{Some, None, Ok}
use Rattle.std.specs.List.{list_all}
use Rattle.hgs_bytes.specs.Bytes.{IsPrefixOf, among, same}
use Rattle.hgs_files.specs.declared.op.Op.{Op}
use Rattle.hgs_files.specs.declared.op.Op.TheVariants.{Create, Remove, Rename}
use Rattle.hgs_files.specs.Log.{Does, IsDone}
use Rattle.hgs_files.specs.Tree.{Tree, after_all, apply, bytes_at}
use Rattle.hgs_files.specs.Theorems.LogLemmas.{after-does, piece-whole}
use Rattle.hgs_files.specs.Theorems.TreeLemmas.{after_all-append}
use Rattle.hgs_journal.specs.Covers.{Covers, is_loose}
use Rattle.hgs_journal.specs.Names.{journal_path}
use Rattle.hgs_model.specs.declared.command.Command.{Command}
use Rattle.hgs_model.specs.IsRepo.{IsRepo}
use Rattle.hgs_model.specs.Repo.{Changeset, Repo}
use Rattle.hgs_model.specs.Step.{Answer, step}
use Rattle.hgs_model.specs.Valid.{IsValid}
use Rattle.hgs_stands.specs.Places.{bookmarks_path, dirstate_path, roots_path}
use Rattle.hgs_stands.specs.Stands.{HoldsChangesets, IsClean, Stands}
use Rattle.hgs_ops.specs.Growth.{appended}
use Rattle.hgs_ops.specs.Operations.{Transaction, lock_path, operations, removals, strays, transaction_of, wlock_path}
use Rattle.hgs_ops.specs.Theorems.Touch.{all-append, and-both, appended-at, only_appends}
use Rattle.hgs_ops.specs.Unhindered.{IsReady}
use Rattle.hgs_legal.specs.LegalLog.{Acts, Doing, Goes, Idle, IsRun, IsTurn, Leaves, Preparing, Published, Refused, State, Turn, Undoing, Working, begins, breaks, breaks_after, breaks_undo, finished, finishes, gives_up, goes_on_knocking, goes_on_undoing, is_refused, journals, knocks, knocks_again, last_repo, lock_removals, newly, prepares, removes, start_of, stays, through_publishing, through_removal, undoes, undone, worked, works}
use Rattle.hgs_legal.specs.Numbers.{StopsAt, acknowledged_of, is_some_op, left_of, less_one, n_of, repo_at}
use Rattle.hgs_legal.specs.Theorems.Runs.{run-keeps}
use Rattle.hgs_later.specs.Later.{IsAddedTo, IsUnder}
use Rattle.hgs_later.proofs.Passing.{EndsInRename, all-still-bytes, appends-parts, behind, does-has, ends-does, prefix-same, shrink-bytes, shrinks, shrinks-parts, still, still-bytes, still-parts}
use Rattle.hgs_later.proofs.Shapes.{GoesThrough, HasShape, free-of, has-shape, journal-still, lock-still, passing, removals-still, still-appends, unlock-still, unlocks-still, wlock-still}

-- the laws below
pub record Below : Type 1 where
  pub files : (t : Tree) (r : Repo) (log : List Op) (s : State) → IsRun t r log s → s.files ≡ after_all log t
  pub ends : (t : Tree) (r : Repo) (log : List Op) (s : State) → Stands t r → IsRun t r log s → StopsAt s.doing (after_all log t) (repo_at s (acknowledged_of s))
  pub goes_on : (r next : Repo) (command : Command) (answer : Answer) → IsRepo r → IsValid command → step r command ≡ Ok (next, answer) → IsPrefixOf r.changesets next.changesets
  pub leads : (t : Tree) (r next : Repo) (command : Command) (who : List ℕ) (answer : Answer) → Stands t r → IsValid command → step r command ≡ Ok (next, answer) → IsReady t r command next → IsClean (after_all (operations (transaction_of t r command who next)) t) next
  pub covers : (t : Tree) (r next : Repo) (command : Command) (who : List ℕ) → Stands t r → IsReady t r command next → (done left : List Op) → IsDone ((transaction_of t r command who next).changes ++ (transaction_of t r command who next).publish ∷ (transaction_of t r command who next).renames) done left
      → Covers strays (after_all done (apply (transaction_of t r command who next).journal (after_all (transaction_of t r command who next).before t))) t
  pub covered : (u q : Tree) (path : List ℕ) → Covers strays u q → is_loose strays path ≡ false → same path journal_path ≡ false → among path (roots_path ∷ dirstate_path ∷ bookmarks_path ∷ []) ≡ false → IsPrefixOf (bytes_at q path) (bytes_at u path)

last-more : (f : Repo) (ps : List Turn) (x : Turn) → last_repo f (ps ++ x ∷ []) ≡ x.next
last-more f [] x = refl
last-more f (p ∷ ps) x = last-more p.next ps x

pub all-taken : (f : Repo) (ps : List Turn) → last_repo f (take (length ps) ps) ≡ last_repo f ps
all-taken f ps = ap (last_repo f) (take_all (length ps) ps (omega arith))

prefix-then : (xs ys zs : List ℕ) → IsPrefixOf xs ys → IsPrefixOf ys zs → IsPrefixOf xs zs
prefix-then xs ys zs a b = (a.0 ++ b.0, b.1 ∙ ap (λ l. l ++ b.0) a.1 ∙ append_assoc xs a.0 b.0)

pub under-more : (u v : Tree) (p : List ℕ) (changesets : List Changeset) → IsPrefixOf (bytes_at v p) (bytes_at u p) → IsUnder u p changesets → IsUnder v p changesets
under-more u v p changesets a h = record { all = h.all; goes_on = h.goes_on; tree = h.tree; holds = h.holds; under = prefix-then (bytes_at v p) (bytes_at u p) (bytes_at h.tree p) a h.under }

pub under-held : (u : Tree) (p : List ℕ) (changesets : List Changeset) → HoldsChangesets u changesets → IsUnder u p changesets
under-held u p changesets h = record { all = changesets; goes_on = ([], sym (append-nil changesets)); tree = u; holds = h; under = prefix-same (bytes_at u p) (bytes_at u p) refl }

done-all : (ops : List Op) → IsDone ops ops []
done-all [] = refl
done-all (op ∷ ops) = (ops, ([], piece-whole op, refl), done-all ops)

module _ (b : Below) (p : List ℕ) (is : IsAddedTo p) where
  free : among p passing ≡ false
  free = free-of p is

  -- What a transaction has still to do up to its publishing operation leads at the path to a tree that holds its next repository, and what stands there is a front of what that tree has.
  pub record IsAhead (x : Turn) (left : List Op) (u : Tree) (r : Repo) : Type 0 where
    pub tree : Tree
    pub holds : HoldsChangesets tree x.next.changesets
    pub goes_on : IsPrefixOf r.changesets x.next.changesets
    pub leads : bytes_at (after_all left u) p ≡ bytes_at tree p
    pub under : IsPrefixOf (bytes_at u p) (bytes_at tree p)
    pub through : (list_all (only_appends p) left ≡ true) ⊎ EndsInRename p left
    pub renames : list_all (still p) (through_removal x.ops) ≡ true
    pub undo : list_all (shrinks p) x.ops.undo ≡ true

  ahead-under : (x : Turn) (left : List Op) (u : Tree) (r : Repo) → IsAhead x left u r → IsUnder u p r.changesets
  ahead-under x left u r a = record { all = x.next.changesets; goes_on = a.goes_on; tree = a.tree; holds = a.holds; under = a.under }

  ahead-more : (x : Turn) (ops left : List Op) (op : Op) (u : Tree) (r : Repo) → Does ops op left → IsAhead x ops u r → IsAhead x left (apply op u) r
  ahead-more x ops left op u r does a = record {
    tree = a.tree;
    holds = a.holds;
    goes_on = a.goes_on;
    leads = leads;
    under = next.0;
    through = next.1;
    renames = a.renames;
    undo = a.undo;
  }
    where
      leads : bytes_at (after_all left (apply op u)) p ≡ bytes_at a.tree p
      leads = ap (λ (v : Tree). bytes_at v p) (after-does ops left op u does) ∙ a.leads

      renamed : ((still p op ≡ true) × EndsInRename p left) ⊎ (left ≡ []) → IsPrefixOf (bytes_at (apply op u) p) (bytes_at a.tree p) × ((list_all (only_appends p) left ≡ true) ⊎ EndsInRename p left)
      renamed (inl (calm, w)) = (prefix-then (bytes_at (apply op u) p) (bytes_at u p) (bytes_at a.tree p) (prefix-same (bytes_at (apply op u) p) (bytes_at u p) (still-bytes p op u calm)) a.under, inr w)
      renamed (inr e) = (prefix-same (bytes_at (apply op u) p) (bytes_at a.tree p) (sym (ap (λ (l : List Op). bytes_at (after_all l (apply op u)) p) e) ∙ leads), inl (ap (list_all (only_appends p)) e))

      next : IsPrefixOf (bytes_at (apply op u) p) (bytes_at a.tree p) × ((list_all (only_appends p) left ≡ true) ⊎ EndsInRename p left)
      next = elim a.through [
        | inl w ↦ let more = (does-has (only_appends p) (appends-parts p) ops left op does w).1 in ((appended p left, sym leads ∙ appended-at left (apply op u) p more), inl more)
        | inr w ↦ renamed (ends-does p ops left op w does)
      ]

  shaped : (t : Tree) (r : Repo) (x : Turn) → IsTurn t r x → HasShape p free x.ops
  shaped t r x turn = subst (λ (o : Transaction). HasShape p free o) (sym turn.listed) (has-shape p free t r x.command x.who x.next)

  -- a whole transaction only adds to what stands at the path
  turn-under : (t : Tree) (r : Repo) (x : Turn) → Stands t r → IsTurn t r x → IsPrefixOf (bytes_at t p) (bytes_at (after_all (operations x.ops) t) p)
  turn-under t r x stands turn = subst (IsPrefixOf (bytes_at t p)) (sym spelled) (b.covered worked t p covers is.free is.off is.other)
    where
      through : List Op
      through = x.ops.changes ++ x.ops.publish ∷ x.ops.renames

      worked : Tree
      worked = after_all through (apply x.ops.journal (after_all x.ops.before t))

      covers : Covers strays worked t
      covers = subst (λ (o : Transaction). Covers strays (after_all (o.changes ++ o.publish ∷ o.renames) (apply o.journal (after_all o.before t))) t) (sym turn.listed)
          (b.covers t r x.next x.command x.who stands turn.ready _ [] (done-all ((transaction_of t r x.command x.who x.next).changes ++ (transaction_of t r x.command x.who x.next).publish ∷ (transaction_of t r x.command x.who x.next).renames)))

      spelled : bytes_at (after_all (operations x.ops) t) p ≡ bytes_at worked p
      spelled =
          ap (λ (v : Tree). bytes_at v p) (after_all-append ((x.ops.before ++ x.ops.journal ∷ x.ops.changes) ++ x.ops.publish ∷ x.ops.renames) (Remove journal_path ∷ removals) t)
          ∙ all-still-bytes p (Remove journal_path ∷ removals) (after_all ((x.ops.before ++ x.ops.journal ∷ x.ops.changes) ++ x.ops.publish ∷ x.ops.renames) t) (and-both _ _ (journal-still p free) (removals-still p free))
          ∙ ap (λ (l : List Op). bytes_at (after_all l t) p) (append_assoc x.ops.before (x.ops.journal ∷ x.ops.changes) (x.ops.publish ∷ x.ops.renames))
          ∙ ap (λ (v : Tree). bytes_at v p) (after_all-append x.ops.before (x.ops.journal ∷ through) t)

  -- of the operations before the journal none is at the path
  through-whole : (before through : List Op) → list_all (still p) before ≡ true → GoesThrough p free through → (list_all (only_appends p) (before ++ through) ≡ true) ⊎ EndsInRename p (before ++ through)
  through-whole before through calm (inl e) = inl (all-append (only_appends p) before through (still-appends p free before calm) e)
  through-whole before through calm (inr w) = inr (record {
    front = before ++ w.front;
    from = w.from;
    to = w.to;
    is = ap (λ l. before ++ l) w.is ∙ sym (append_assoc before w.front (Rename w.from w.to ∷ []));
    calm = all-append (still p) before w.front calm w.calm;
  })

  turn-ahead : (t : Tree) (r : Repo) (x : Turn) → Stands t r → IsTurn t r x → IsAhead x (x.ops.before ++ through_publishing x.ops) t r
  turn-ahead t r x stands turn =
      let shape = shaped t r x turn in record {
        tree = after_all (operations x.ops) t;
        holds = subst (λ (o : Transaction). HoldsChangesets (after_all (operations o) t) x.next.changesets) (sym turn.listed) (b.leads t r x.next x.command x.who x.answer stands turn.valid turn.accepted turn.ready).stands.revlogs;
        goes_on = b.goes_on r x.next x.command x.answer stands.repository turn.valid turn.accepted;
        leads = sym (ap (λ (l : List Op). bytes_at (after_all l t) p) split ∙ ap (λ (v : Tree). bytes_at v p) (after_all-append (x.ops.before ++ through_publishing x.ops) (through_removal x.ops ++ removals) t)
            ∙ all-still-bytes p (through_removal x.ops ++ removals) (after_all (x.ops.before ++ through_publishing x.ops) t) (all-append (still p) (through_removal x.ops) removals shape.renames (removals-still p free)));
        under = turn-under t r x stands turn;
        through = through-whole x.ops.before (through_publishing x.ops) shape.before shape.through;
        renames = shape.renames;
        undo = shape.undo;
      }
    where
      split : operations x.ops ≡ (x.ops.before ++ through_publishing x.ops) ++ (through_removal x.ops ++ removals)
      split =
          ap (λ l. l ++ Remove journal_path ∷ removals) (sym (append_assoc (x.ops.before ++ x.ops.journal ∷ x.ops.changes) (x.ops.publish ∷ []) x.ops.renames))
          ∙ append_assoc ((x.ops.before ++ x.ops.journal ∷ x.ops.changes) ++ x.ops.publish ∷ []) x.ops.renames (Remove journal_path ∷ removals)
          ∙ ap (λ l. l ++ (x.ops.renames ++ Remove journal_path ∷ removals)) (append_assoc x.ops.before (x.ops.journal ∷ x.ops.changes) (x.ops.publish ∷ []))
          ∙ ap (λ l. (x.ops.before ++ through_publishing x.ops) ++ l) (sym (append_assoc x.ops.renames (Remove journal_path ∷ []) removals))

  abbrev pub AllStill : List Op → Type 0
  AllStill ops = list_all (still p) ops ≡ true

  abbrev pub Over : Doing → Tree → Repo → List Turn → Type 0
  Over (Idle left rest) u f ps = IsUnder u p (last_repo f ps).changesets × AllStill rest
  Over (Refused left creation rest) u f ps = IsUnder u p (last_repo f ps).changesets × AllStill creation × AllStill rest
  Over (Preparing x left) u f ps = IsAhead x (left ++ through_publishing x.ops) u (last_repo f ps)
  Over (Working x left) u f ps = IsAhead x left u (last_repo f ps)
  Over (Published x left) u f ps = IsUnder u p (last_repo f ps).changesets × AllStill left
  Over (Undoing left) u f ps = IsUnder u p (last_repo f ps).changesets × (list_all (shrinks p) left ≡ true)

  pub over-under : (d : Doing) (u : Tree) (f : Repo) (ps : List Turn) → Over d u f ps → IsUnder u p (last_repo f ps).changesets
  over-under (Idle left rest) u f ps o = o.0
  over-under (Refused left creation rest) u f ps o = o.0
  over-under (Preparing x left) u f ps o = ahead-under x (left ++ through_publishing x.ops) u (last_repo f ps) o
  over-under (Working x left) u f ps o = ahead-under x left u (last_repo f ps) o
  over-under (Published x left) u f ps o = o.0
  over-under (Undoing left) u f ps o = o.0

  leaves-over : (d d' : Doing) (u : Tree) (f : Repo) (ps : List Turn) → Leaves d d' → Over d u f ps → Over d' u f ps
  leaves-over d _ u f ps stays o = o
  leaves-over _ _ u f ps (gives_up {x = x} {left = left}) o = (over-under (Preparing x left) u f ps o, removals-still p free)
  leaves-over _ _ u f ps (breaks {x = x} {op = op} {left = left}) o = (over-under (Working x (op ∷ left)) u f ps o, unlocks-still p free)
  leaves-over _ _ u f ps breaks_after o = (o.0, unlocks-still p free)
  leaves-over _ _ u f ps breaks_undo o = (o.0, unlocks-still p free)
  leaves-over _ _ u f ps is_refused o = (o.0, o.2)

  -- where no writer is at work and no journal was left the tree stands for the last repository
  abbrev pub Standing : Doing → Tree → Repo → Type 0
  Standing (Idle None rest) u r = Stands u r
  Standing _ u r = Unit {0}

  abbrev pub Stopped : Doing → Tree → Repo → List Turn → Type 0
  Stopped d u f ps = StopsAt d u (last_repo f (take (less_one (is_some_op (left_of d)) (length ps)) ps))

  own-standing : (d : Doing) (u : Tree) (f : Repo) (ps : List Turn) → Stopped d u f ps → Standing d u (last_repo f ps)
  own-standing (Idle None rest) u f ps h = subst (Stands u) (all-taken f ps) h
  own-standing (Idle (Some left) rest) u f ps h = tt
  own-standing (Refused left creation rest) u f ps h = tt
  own-standing (Preparing x left) u f ps h = tt
  own-standing (Working x left) u f ps h = tt
  own-standing (Published x left) u f ps h = tt
  own-standing (Undoing left) u f ps h = tt

  leaves-standing : (d d' : Doing) (u : Tree) (f : Repo) (ps : List Turn) → Leaves d d' → Stopped d u f ps → Standing d' u (last_repo f ps)
  leaves-standing d _ u f ps stays h = own-standing d u f ps h
  leaves-standing _ _ u f ps gives_up h = subst (Stands u) (all-taken f ps) h
  leaves-standing _ _ u f ps breaks h = tt
  leaves-standing _ _ u f ps breaks_after h = tt
  leaves-standing _ _ u f ps breaks_undo h = tt
  leaves-standing _ _ u f ps (is_refused {left = None}) h = subst (Stands u) (all-taken f ps) h
  leaves-standing _ _ u f ps (is_refused {left = Some left}) h = tt

  -- ---- one operation

  none-new : (d : Doing) (u : Tree) (f : Repo) (ps : List Turn) → Over d u f ps → Over d u f (ps ++ [])
  none-new d u f ps o = subst (Over d u f) (sym (append-nil ps)) o

  under-still : (u : Tree) (op : Op) (changesets : List Changeset) → still p op ≡ true → IsUnder u p changesets → IsUnder (apply op u) p changesets
  under-still u op changesets w h = under-more u (apply op u) p changesets (prefix-same (bytes_at (apply op u) p) (bytes_at u p) (still-bytes p op u w)) h

  works-over : (x : Turn) (u : Tree) (f : Repo) (ps : List Turn) (ops : List Op) (op : Op) (left : List Op) → Does ops op left → IsAhead x ops u (last_repo f ps) → Over (worked x left) (apply op u) f (ps ++ newly x left)
  works-over x u f ps ops op (o ∷ l) does a = none-new (Working x (o ∷ l)) (apply op u) f ps (ahead-more x ops (o ∷ l) op u (last_repo f ps) does a)
  works-over x u f ps ops op [] does a =
      let m = ahead-more x ops [] op u (last_repo f ps) does a in
      (subst (λ (r : Repo). IsUnder (apply op u) p r.changesets) (sym (last-more f ps x)) (under-more m.tree (apply op u) p x.next.changesets (prefix-same (bytes_at (apply op u) p) (bytes_at m.tree p) m.leads) (under-held m.tree p x.next.changesets m.holds)), a.renames)

  finishes-over : (x : Turn) (u : Tree) (f : Repo) (ps : List Turn) (ops : List Op) (op : Op) (left : List Op) → Does ops op left → IsUnder u p (last_repo f ps).changesets → AllStill ops → Over (finished x left) (apply op u) f (ps ++ [])
  finishes-over x u f ps ops op left does h w =
      let one = does-has (still p) (still-parts p) ops left op does w in
      none-new (finished x left) (apply op u) f ps (by left one.1 (under-still u op (last_repo f ps).changesets one.0 h))
    where
      by : (l : List Op) → AllStill l → IsUnder (apply op u) p (last_repo f ps).changesets → Over (finished x l) (apply op u) f ps
      by [] e k = (k, removals-still p free)
      by (o ∷ l) e k = (k, e)

  undoes-over : (u : Tree) (f : Repo) (ps : List Turn) (ops : List Op) (op : Op) (left : List Op) → Does ops op left → IsUnder u p (last_repo f ps).changesets → list_all (shrinks p) ops ≡ true → Over (undone left) (apply op u) f (ps ++ [])
  undoes-over u f ps ops op left does h w =
      let one = does-has (shrinks p) (shrinks-parts p) ops left op does w in
      none-new (undone left) (apply op u) f ps (by left one.1 (under-more u (apply op u) p (last_repo f ps).changesets (shrink-bytes p op u one.0) h))
    where
      by : (l : List Op) → list_all (shrinks p) l ≡ true → IsUnder (apply op u) p (last_repo f ps).changesets → Over (undone l) (apply op u) f ps
      by [] e k = (k, removals-still p free)
      by (o ∷ l) e k = (k, e)

  does-before : (ops more left : List Op) (op : Op) → Does ops op left → Does (ops ++ more) op (left ++ more)
  does-before [] more left op h = elim h [ ]
  does-before (o ∷ ops) more left op h = (h.0, h.1, ap (λ l. l ++ more) h.2 ∙ append_assoc h.0 ops more)

  acts-over : (d : Doing) (u : Tree) (f : Repo) (ps : List Turn) (op : Op) (news : List Turn) (d' : Doing) → Acts u (last_repo f ps) d op news d' → Standing d u (last_repo f ps) → Over d u f ps → Over d' (apply op u) f (ps ++ news)
  acts-over _ u f ps op _ _ (begins {x = x} {left = left} it does) s o =
      none-new (Preparing x left) (apply op u) f ps (ahead-more x (x.ops.before ++ through_publishing x.ops) (left ++ through_publishing x.ops) op u (last_repo f ps) (does-before x.ops.before (through_publishing x.ops) left op does) (turn-ahead u (last_repo f ps) x s it))
  acts-over _ u f ps op _ _ (prepares {x = x} {to_do = to_do} {left = left} does) s o =
      none-new (Preparing x left) (apply op u) f ps (ahead-more x (to_do ++ through_publishing x.ops) (left ++ through_publishing x.ops) op u (last_repo f ps) (does-before to_do (through_publishing x.ops) left op does) o)
  acts-over _ u f ps op _ _ (journals {x = x} {left = left} does) s o = none-new (Working x left) (apply op u) f ps (ahead-more x (through_publishing x.ops) left op u (last_repo f ps) does o)
  acts-over _ u f ps op _ _ (works {x = x} {to_do = to_do} left does) s o = works-over x u f ps to_do op left does o
  acts-over _ u f ps op _ _ (finishes {x = x} {to_do = to_do} left does) s o = finishes-over x u f ps to_do op left does o.0 o.1
  acts-over _ u f ps op _ _ (undoes {x = x} {o = first} {rest = rest} left does) s o = undoes-over u f ps x.ops.undo op left does (ahead-under x (first ∷ rest) u (last_repo f ps) o) o.undo
  acts-over _ u f ps op _ _ (goes_on_undoing {to_do = to_do} left does) s o = undoes-over u f ps to_do op left does o.0 o.1
  acts-over _ u f ps _ _ _ (removes {left = left} {all = all} {rest = rest} {path = path} skipped e) s o =
      let one = behind (still p) skipped rest (Remove path) (subst AllStill e o.1) in
      none-new (Idle left rest) (apply (Remove path) u) f ps (under-still u (Remove path) (last_repo f ps).changesets one.0 o.0, one.1)
  acts-over _ u f ps op _ _ (knocks {left = left} {rest = rest} {creation = creation} who does) s o =
      let one = does-has (still p) (still-parts p) (Create wlock_path who ∷ []) creation op does (wlock-still p free who) in
      none-new (Refused left creation (Remove wlock_path ∷ [])) (apply op u) f ps (under-still u op (last_repo f ps).changesets one.0 o.0, one.1, unlock-still p free)
  acts-over _ u f ps op _ _ (knocks_again {left = left} {creation = creation} who does) s o =
      let one = does-has (still p) (still-parts p) (Create lock_path who ∷ []) creation op does (lock-still p free who) in
      none-new (Refused left creation lock_removals) (apply op u) f ps (under-still u op (last_repo f ps).changesets one.0 o.0, one.1, unlocks-still p free)
  acts-over _ u f ps op _ _ (goes_on_knocking {left = left} {to_do = to_do} {creation = creation} {rest = rest} does) s o =
      let one = does-has (still p) (still-parts p) to_do creation op does o.1 in
      none-new (Refused left creation rest) (apply op u) f ps (under-still u op (last_repo f ps).changesets one.0 o.0, one.1, o.2)

  -- ---- runs

  module _ (t : Tree) (r : Repo) (stands : Stands t r) where
    abbrev pub Kept : State → Type 0
    Kept s = ((log : List Op) × IsRun t r log s) × Over s.doing s.files s.first s.published

    goes-kept : (s : State) (op : Op) (s' : State) → Goes s op s' → Kept s → Kept s'
    goes-kept s op s' go ((log, run), o) =
        let stopped = subst (λ (v : Tree). Stopped s.doing v s.first s.published) (sym (b.files t r log s run)) (b.ends t r log s stands run) in
        let next = acts-over go.there s.files s.first s.published op go.news s'.doing go.acts (leaves-standing s.doing go.there s.files s.first s.published go.leaves stopped) (leaves-over s.doing go.there s.files s.first s.published go.leaves o) in (
          (log ++ op ∷ [], FoldsTo-push Goes (start_of t r) log s op s' run go),
          subst (λ (ps : List Turn). Over s'.doing s'.files s'.first ps) (sym go.published)
              (subst (λ (f : Repo). Over s'.doing s'.files f (s.published ++ go.news)) (sym go.first)
              (subst (λ (u : Tree). Over s'.doing u s.first (s.published ++ go.news)) (sym go.files) next)),
        )

    pub run-under : (log : List Op) (s : State) → IsRun t r log s → IsUnder (after_all log t) p (repo_at s (n_of s)).changesets
    run-under log s run =
        let kept = run-keeps Goes Kept goes-kept (start_of t r) log s run (([], refl), (under-held t p r.changesets stands.revlogs, refl)) in
        subst (λ (q : Repo). IsUnder (after_all log t) p q.changesets) (sym (all-taken s.first s.published))
        (subst (λ (v : Tree). IsUnder v p (last_repo s.first s.published).changesets) (b.files t r log s run) (over-under s.doing s.files s.first s.published kept.1))

-- at each moment of a run
pub stays-under : (b : Below) (t : Tree) (r : Repo) (log : List Op) (s : State) (path : List ℕ) → Stands t r → IsRun t r log s → IsAddedTo path → IsUnder (after_all log t) path (repo_at s (n_of s)).changesets
stays-under b t r log s path stands run is = run-under b path is t r stands log s run
