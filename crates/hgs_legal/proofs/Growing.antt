-- The files that a run only appends to: what they were at its start, or behind a publishing operation, stays at their front.
use Rattle.std.proofs.Common.{◌≡◌, ◌⊎◌, ℕ, ◌<◌, ◌≤◌, suc, List, [], ◌∷◌, ◌++◌, true, false, length, refl, sym, ◌∙◌, ap, subst, inl, inr, arith, append-nil, append_assoc, length-append}
use Rattle.std.specs.Prelude.{Option, Some, None, unwrap_or}
use Rattle.std.specs.List.{list_all}
use Rattle.hgs_bytes.specs.Bytes.{IsPrefixOf, among, same}
use Rattle.hgs_bytes.specs.Theorems.ByteLemmas.{same-eq}
use Rattle.hgs_files.specs.declared.op.Op.{Op}
use Rattle.hgs_files.specs.declared.op.Op.TheVariants.{Create, Remove}
use Rattle.hgs_files.specs.Log.{Does, IsDone}
use Rattle.hgs_files.specs.Tree.{Tree, after_all, apply, bytes_at}
use Rattle.hgs_files.specs.Theorems.LogLemmas.{after-done, done-behind, done-more}
use Rattle.hgs_files.specs.Theorems.TreeLemmas.{after_all-append}
use Rattle.hgs_journal.specs.Covers.{Covers, IsRestored, Restores, is_loose}
use Rattle.hgs_journal.specs.Names.{journal_path}
use Rattle.hgs_model.specs.declared.command.Command.{Command}
use Rattle.hgs_model.specs.Repo.{Changeset, Repo}
use Rattle.hgs_path.specs.declared.name.Ext.{Ext}
use Rattle.hgs_path.specs.StoreName.{store_name}
use Rattle.hgs_stands.specs.Places.{bookmarks_path, changelog_data, changelog_index, dirstate_path, manifest_data, manifest_index, own_files, roots_path}
use Rattle.hgs_stands.specs.Same.{AreStrays, SameAt, SameRevlogs}
use Rattle.hgs_stands.specs.Stands.{HoldsChangesets, Stands}
use Rattle.hgs_ops.specs.Operations.{Transaction, lock_path, strays, transaction_of, wlock_path}
use Rattle.hgs_ops.specs.Unhindered.{IsReady}
use Rattle.hgs_legal.specs.LegalLog.{Acts, Doing, Goes, Idle, IsRun, IsTurn, Leaves, Preparing, Published, Refused, Run, State, Turn, Undoing, Working, begins, breaks, breaks_after, breaks_undo, finished, finishes, gives_up, goes_on_knocking, goes_on_undoing, is_refused, journals, knocks, knocks_again, last_repo, newly, prepares, removes, start_of, stays, through_publishing, through_removal, to_publishing, undoes, undone, worked, works}
use Rattle.hgs_legal.specs.Numbers.{n_of, repo_at}
use Rattle.hgs_legal.proofs.Below.{Below}
use Rattle.hgs_legal.proofs.Invariant.{AreAside, AreLocks, Inv, Invariant, IsPreparing, IsPublished, IsWorking, is_aside, is_lock, last-more, less-none}
use Rattle.hgs_legal.proofs.LegalLemmas.{run-files}
use Rattle.hgs_legal.proofs.LockLemmas.{behind, lock-aside, locks-aside}
use Rattle.hgs_legal.specs.Theorems.Runs.{run-keeps}
use Rattle.hgs_legal.proofs.Step.{goes-keeps, leaves-keeps}
use Rattle.hgs_legal.proofs.Touched.{and-both, and-left, and-right, does-within, or-both, or-left, touched-within, untouched, within}
use Rattle.hgs_legal.specs.Theorems.TreeFacts.{bool, bytes-same, never}
use Rattle.hgs_legal.proofs.TurnLemmas.{all-done, next-stands, onward, since}

-- what the crates below say of the files that grow
pub record Grown : Type 0 where
  pub kept : (t : Tree) (r next : Repo) (command : Command) (who : List ℕ) → Stands t r → IsReady t r command next → (done left : List Op) → IsDone ((transaction_of t r command who next).changes ++ (transaction_of t r command who next).publish ∷ (transaction_of t r command who next).renames) done left → Covers strays (after_all done (apply (transaction_of t r command who next).journal (after_all (transaction_of t r command who next).before t))) t
  pub undone : (t : Tree) (r next : Repo) (command : Command) (who : List ℕ) → Stands t r → IsReady t r command next → (done left : List Op) → IsDone ((transaction_of t r command who next).changes ++ (transaction_of t r command who next).publish ∷ (transaction_of t r command who next).renames) done left → (undone rest : List Op) → IsDone (transaction_of t r command who next).undo undone rest → Covers strays (after_all undone (after_all done (apply (transaction_of t r command who next).journal (after_all (transaction_of t r command who next).before t)))) t ⊎ ((rest ≡ []) × Restores strays (after_all undone (after_all done (apply (transaction_of t r command who next).journal (after_all (transaction_of t r command who next).before t)))) t)
  pub covered : (u q : Tree) (path : List ℕ) → Covers strays u q → is_loose strays path ≡ false → same path journal_path ≡ false → among path (roots_path ∷ dirstate_path ∷ bookmarks_path ∷ []) ≡ false → IsPrefixOf (bytes_at q path) (bytes_at u path)
  pub before : (t u : Tree) (r next : Repo) (command : Command) (who : List ℕ) (done left : List Op) (path : List ℕ) → IsDone (transaction_of t r command who next).before done left → is_loose strays path ≡ false → after_all done u path ≡ u path
  pub behind : (t u : Tree) (r next : Repo) (command : Command) (who : List ℕ) (done left : List Op) (path : List ℕ) → IsDone ((transaction_of t r command who next).renames ++ Remove journal_path ∷ []) done left → is_loose strays path ≡ false → same path journal_path ≡ false → among path (roots_path ∷ dirstate_path ∷ bookmarks_path ∷ []) ≡ false → after_all done u path ≡ u path
  pub revlogs : (t u : Tree) (changesets : List Changeset) → SameRevlogs t u changesets → HoldsChangesets t changesets → HoldsChangesets u changesets
  pub free : (strays : List (List ℕ)) (path : List ℕ) (ext : Ext) → AreStrays strays → is_loose strays (store_name path ext) ≡ false
  pub own : (path : List ℕ) (ext : Ext) → among (store_name path ext) own_files ≡ false

-- a path of a file that is neither replaced nor loose, and no journal
pub record IsKept (p : List ℕ) : Type 0 where
  pub free : is_loose strays p ≡ false
  pub off : same p journal_path ≡ false
  pub other : among p (roots_path ∷ dirstate_path ∷ bookmarks_path ∷ []) ≡ false

-- what each such file has in q stands at its front in u
abbrev pub Grows : Tree → Tree → Type 0
Grows u q = (p : List ℕ) → IsKept p → IsPrefixOf (bytes_at q p) (bytes_at u p)

grows-as : (u q : Tree) → ((p : List ℕ) → IsKept p → u p ≡ q p) → Grows u q
grows-as u q f p k = ([], bytes-same q u p (f p k) ∙ sym (append-nil (bytes_at q p)))

grows-refl : (u : Tree) → Grows u u
grows-refl u = grows-as u u (λ p k. refl)

grows-on : (u v q : Tree) → Grows u v → Grows v q → Grows u q
grows-on u v q f g p k =
    let a = g p k in
    let b = f p k in
    (a.0 ++ b.0, b.1 ∙ ap (λ l. l ++ b.0) a.1 ∙ append_assoc (bytes_at q p) a.0 b.0)

restored-grows : (u q : Tree) → Restores strays u q → Grows u q
restored-grows u q h p k = by (h p k.free)
  where
    by : IsRestored (u p) (q p) → IsPrefixOf (bytes_at q p) (bytes_at u p)
    by (inl e) = ([], bytes-same q u p e ∙ sym (append-nil (bytes_at q p)))
    by (inr (none, empty)) = (bytes_at u p, ap (λ l. l ++ bytes_at u p) (sym (ap (λ (o : Option (List ℕ)). unwrap_or o []) empty)))

-- operations at locks and strays
aside-grows : (op : Op) (u : Tree) → within is_aside op ≡ true → Grows (apply op u) u
aside-grows op u w = grows-as (apply op u) u (λ p k. untouched (op ∷ []) u p (touched-within is_aside (op ∷ []) p (and-both _ _ w refl) k.free))

-- the removal of the journal

-- what is not in a list is not in a part of it
among-part : (xs ys : List (List ℕ)) (p : List ℕ) → list_all (λ x. among x ys) xs ≡ true → among p ys ≡ false → among p xs ≡ false
among-part [] ys p a b = refl
among-part (x ∷ xs) ys p a b = or-both (same p x) (among p xs) (by (bool (same p x))) (among-part xs ys p (and-right (among x ys) _ a) b)
  where
    by : (same p x ≡ true) ⊎ (same p x ≡ false) → same p x ≡ false
    by (inl h) = never (sym (and-left (among x ys) _ a) ∙ ap (λ q. among q ys) (sym (same-eq p x h)) ∙ b)
    by (inr h) = h

store-kept : Grown → (path : List ℕ) (ext : Ext) → IsKept (store_name path ext)
store-kept g path ext = record {
  free = g.free strays path ext refl;
  off = or-left _ _ (among-part (journal_path ∷ []) own_files (store_name path ext) refl (g.own path ext));
  other = among-part (roots_path ∷ dirstate_path ∷ bookmarks_path ∷ []) own_files (store_name path ext) refl (g.own path ext);
}

-- ---- one transaction

-- the tree right behind the publishing operation
abbrev published_tree : Turn → Tree → Tree
published_tree x t = after_all (through_publishing x.ops) (after_all x.ops.before t)

module _ (b : Below) (g : Grown) where
  covers-grows : (u q : Tree) → Covers strays u q → Grows u q
  covers-grows u q c p k = g.covered u q p c k.free k.off k.other

  module _ (t : Tree) (r : Repo) (x : Turn) (s : Stands t r) (turn : IsTurn t r x) where
    abbrev laid : Tree
    laid = after_all x.ops.before t

    abbrev opened : Tree
    opened = apply x.ops.journal laid

    before-grows : (done left : List Op) → IsDone x.ops.before done left → Grows (after_all done t) t
    before-grows done left h = grows-as (after_all done t) t (λ p k. subst (λ (o : Transaction). IsDone o.before done left → after_all done t p ≡ t p) (sym turn.listed) (λ d. g.before t t r x.next x.command x.who done left p d k.free) h)

    behind-as : (v : Tree) (done left : List Op) → IsDone (through_removal x.ops) done left → (p : List ℕ) → IsKept p → after_all done v p ≡ v p
    behind-as v done left h p k = subst (λ (o : Transaction). IsDone (o.renames ++ Remove journal_path ∷ []) done left → after_all done v p ≡ v p) (sym turn.listed) (λ d. g.behind t v r x.next x.command x.who done left p d k.free k.off k.other) h

    behind-grows : (v : Tree) (done left : List Op) → IsDone (through_removal x.ops) done left → Grows (after_all done v) v
    behind-grows v done left h = grows-as (after_all done v) v (behind-as v done left h)

    kept-grows : (done left : List Op) → IsDone (x.ops.changes ++ x.ops.publish ∷ x.ops.renames) done left → Grows (after_all done opened) t
    kept-grows done left h = covers-grows _ t (subst (λ (o : Transaction). IsDone (o.changes ++ o.publish ∷ o.renames) done left → Covers strays (after_all done (apply o.journal (after_all o.before t))) t) (sym turn.listed) (g.kept t r x.next x.command x.who s turn.ready done left) h)

    abbrev GrowsUndoing : List Op → Tree → Type 0
    GrowsUndoing ops v = (log left : List Op) → IsDone ops log left → Grows (after_all log v) t

    undone-grows : (done left : List Op) → IsDone (x.ops.changes ++ x.ops.publish ∷ x.ops.renames) done left → GrowsUndoing x.ops.undo (after_all done opened)
    undone-grows = subst (λ (o : Transaction). (done left : List Op) → IsDone (o.changes ++ o.publish ∷ o.renames) done left → GrowsUndoing o.undo (after_all done (apply o.journal (after_all o.before t)))) (sym turn.listed)
        (λ done left h log rest k. elim (g.undone t r x.next x.command x.who s turn.ready done left h log rest k) [
          | inl c ↦ covers-grows _ t c
          | inr (e, back) ↦ restored-grows _ t back
        ])

    working-grows : (op : Op) (more left : List Op) → IsDone (through_publishing x.ops) (op ∷ more) left → Grows (after_all (op ∷ more) laid) t
    working-grows op more left h = subst (λ (w : Tree). Grows w t) (sym (since b t r x s turn op more left h)) (kept-grows more (left ++ x.ops.renames) (onward b t r x s turn op more left h))

    working-undone : (op : Op) (more left : List Op) → IsDone (through_publishing x.ops) (op ∷ more) left → GrowsUndoing x.ops.undo (after_all (op ∷ more) laid)
    working-undone op more left h = subst (GrowsUndoing x.ops.undo) (sym (since b t r x s turn op more left h)) (undone-grows more (left ++ x.ops.renames) (onward b t r x s turn op more left h))

    published-grows : Grows (published_tree x t) t
    published-grows = kept-grows (to_publishing x.ops) x.ops.renames (subst (λ (l : List Op). IsDone l (to_publishing x.ops) x.ops.renames) (append_assoc x.ops.changes (x.ops.publish ∷ []) x.ops.renames) (done-behind (to_publishing x.ops) x.ops.renames (to_publishing x.ops) [] (all-done (to_publishing x.ops))))

    published-holds : HoldsChangesets (published_tree x t) x.next.changesets
    published-holds = g.revlogs (after_all (through_removal x.ops) (published_tree x t)) (published_tree x t) x.next.changesets (record {
      changelog = at changelog_index (record { free = refl; off = refl; other = refl });
      changelog_chunks = at changelog_data (record { free = refl; off = refl; other = refl });
      manifest = at manifest_index (record { free = refl; off = refl; other = refl });
      manifest_chunks = at manifest_data (record { free = refl; off = refl; other = refl });
      filelogs = λ path ext used. at (store_name path ext) (store-kept g path ext);
    }) (next-stands b t r x s turn).revlogs
      where
        at : (p : List ℕ) → IsKept p → SameAt (after_all (through_removal x.ops) (published_tree x t)) (published_tree x t) p
        at p k = sym (bytes-same (published_tree x t) (after_all (through_removal x.ops) (published_tree x t)) p (behind-as (published_tree x t) (through_removal x.ops) [] (all-done (through_removal x.ops)) p k))

  -- ---- what stands at the front of the tree in each state

  -- an undo list was begun
  pub record IsUndoneOver (q : Tree) (left : List Op) (u : Tree) : Type 0 where
    pub ops : List Op
    pub base : Tree
    pub grows : (log left : List Op) → IsDone ops log left → Grows (after_all log base) q
    pub log : List Op
    pub done : IsDone ops log left
    pub tree : u ≡ after_all log base

  -- The files of q stand at the front of those of the tree to which all that is open leads back.
  abbrev pub Over : Tree → Doing → Tree → Repo → List Turn → Type 0
  Over q (Idle left rest) u f ps = Grows u q
  Over q (Refused left creation rest) u f ps = Grows u q
  Over q (Preparing x left) u f ps = (i : IsPreparing x left u (last_repo f ps)) × Grows i.t q
  Over q (Working x left) u f ps = (i : IsWorking x left u (last_repo f ps)) × Grows i.t q
  Over q (Published x left) u f ps = (i : IsPublished x left u f ps) × Grows (published_tree x i.t) q
  Over q (Undoing left) u f ps = IsUndoneOver q left u

  module _ (q : Tree) where
    at-work-grows : (x : Turn) (left : List Op) (u : Tree) (r : Repo) (i : IsWorking x left u r) → Grows i.t q → Grows u q
    at-work-grows x left u r i h = grows-on u i.t q (subst (λ (v : Tree). Grows v i.t) (sym i.tree) (working-grows i.t r x i.stands i.turn i.op i.more left i.done)) h

    preparing-grows : (x : Turn) (left : List Op) (u : Tree) (r : Repo) (i : IsPreparing x left u r) → Grows i.t q → Grows u q
    preparing-grows x left u r i h = grows-on u i.t q (subst (λ (v : Tree). Grows v i.t) (sym i.tree) (before-grows i.t r x i.stands i.turn i.log left i.done)) h

    settling-grows : (x : Turn) (left : List Op) (u : Tree) (f : Repo) (ps : List Turn) (i : IsPublished x left u f ps) → Grows (published_tree x i.t) q → Grows u q
    settling-grows x left u f ps i h = grows-on u (published_tree x i.t) q (subst (λ (v : Tree). Grows v (published_tree x i.t)) (sym i.tree) (behind-grows i.t x.first x i.stands i.turn (published_tree x i.t) i.log left i.done)) h

    undoing-grows : (left : List Op) (u : Tree) → IsUndoneOver q left u → Grows u q
    undoing-grows left u i = subst (λ (v : Tree). Grows v q) (sym i.tree) (i.grows i.log left i.done)

    pub over-grows : (d : Doing) (u : Tree) (f : Repo) (ps : List Turn) → Over q d u f ps → Grows u q
    over-grows (Idle left rest) u f ps o = o
    over-grows (Refused left creation rest) u f ps o = o
    over-grows (Preparing x left) u f ps o = preparing-grows x left u (last_repo f ps) o.0 o.1
    over-grows (Working x left) u f ps o = at-work-grows x left u (last_repo f ps) o.0 o.1
    over-grows (Published x left) u f ps o = settling-grows x left u f ps o.0 o.1
    over-grows (Undoing left) u f ps o = undoing-grows left u o

    leaves-over : (d d' : Doing) (u : Tree) (f : Repo) (ps : List Turn) → Leaves d d' → Over q d u f ps → Over q d' u f ps
    leaves-over d _ u f ps stays o = o
    leaves-over d _ u f ps (gives_up {x = x} {left = left}) o = over-grows (Preparing x left) u f ps o
    leaves-over d _ u f ps (breaks {x = x} {op = op} {left = left}) o = over-grows (Working x (op ∷ left)) u f ps o
    leaves-over d _ u f ps (breaks_after {x = x} {op = op} {left = left}) o = over-grows (Published x (op ∷ left)) u f ps o
    leaves-over d _ u f ps (breaks_undo {op = op} {left = left}) o = over-grows (Undoing (op ∷ left)) u f ps o
    leaves-over d _ u f ps (is_refused {left = left} {creation = creation} {rest = rest}) o = o

    -- ---- one operation

    none-new : (d : Doing) (u : Tree) (f : Repo) (ps : List Turn) → Over q d u f ps → Over q d u f (ps ++ [])
    none-new d u f ps o = subst (Over q d u f) (sym (append-nil ps)) o

    more-tree : (u base : Tree) (log : List Op) (op : Op) → u ≡ after_all log base → apply op u ≡ after_all (log ++ op ∷ []) base
    more-tree u base log op e = ap (apply op) e ∙ sym (after_all-append log (op ∷ []) base)

    -- the publishing operation is done
    published-by : (x : Turn) (u : Tree) (f : Repo) (ps : List Turn) (ops : List Op) (op : Op) (i : IsWorking x ops u (last_repo f ps)) → Does ops op [] → (k : IsPublished x (through_removal x.ops) (apply op u) f (ps ++ x ∷ [])) × (apply op u ≡ published_tree x k.t) × Grows (published_tree x k.t) i.t × HoldsChangesets (published_tree x k.t) x.next.changesets
    published-by x u f ps ops op i does =
        let d = done-more (through_publishing x.ops) (i.op ∷ i.more) ops [] op i.done does in
        let e = more-tree u (after_all x.ops.before i.t) (i.op ∷ i.more) op i.tree ∙ after-done (through_publishing x.ops) ((i.op ∷ i.more) ++ op ∷ []) [] (after_all x.ops.before i.t) d in (
          record {
            last = record { earlier = ps; all = refl; from = sym i.turn.from };
            t = i.t;
            stands = subst (Stands i.t) (sym i.turn.from) i.stands;
            turn = subst (λ (r : Repo). IsTurn i.t r x) (sym i.turn.from) i.turn;
            log = [];
            done = refl;
            tree = e;
          },
          e,
          published-grows i.t (last_repo f ps) x i.stands i.turn,
          published-holds i.t (last_repo f ps) x i.stands i.turn,
        )

    works-over : (x : Turn) (u : Tree) (f : Repo) (ps : List Turn) (ops : List Op) (op : Op) (left : List Op) (i : IsWorking x ops u (last_repo f ps)) → Grows i.t q → Does ops op left → Over q (worked x left) (apply op u) f (ps ++ newly x left)
    works-over x u f ps ops op [] i h does = let p = published-by x u f ps ops op i does in (p.0, grows-on (published_tree x p.0.t) i.t q p.2 h)
    works-over x u f ps ops op (o ∷ l) i h does = none-new (Working x (o ∷ l)) (apply op u) f ps (
      record { t = i.t; stands = i.stands; turn = i.turn; op = i.op; more = i.more ++ op ∷ []; done = done-more (through_publishing x.ops) (i.op ∷ i.more) ops (o ∷ l) op i.done does; tree = more-tree u (after_all x.ops.before i.t) (i.op ∷ i.more) op i.tree },
      h,
    )

    finishes-over : (x : Turn) (u : Tree) (f : Repo) (ps : List Turn) (ops : List Op) (op : Op) (left : List Op) (i : IsPublished x ops u f ps) → Grows (published_tree x i.t) q → Does ops op left → Over q (finished x left) (apply op u) f (ps ++ [])
    finishes-over x u f ps ops op left i h does = none-new (finished x left) (apply op u) f ps (by left (record { last = i.last; t = i.t; stands = i.stands; turn = i.turn; log = i.log ++ op ∷ []; done = done-more (through_removal x.ops) i.log ops left op i.done does; tree = more-tree u (published_tree x i.t) i.log op i.tree }) h)
      where
        by : (k : List Op) (n : IsPublished x k (apply op u) f ps) → Grows (published_tree x n.t) q → Over q (finished x k) (apply op u) f ps
        by [] n h = settling-grows x [] (apply op u) f ps n h
        by (o ∷ l) n h = (n, h)

    undone-over : (u : Tree) (f : Repo) (ps : List Turn) (ops : List Op) (op : Op) (left : List Op) → IsUndoneOver q ops u → Does ops op left → Over q (undone left) (apply op u) f (ps ++ [])
    undone-over u f ps ops op left i does = none-new (undone left) (apply op u) f ps (by left (record { ops = i.ops; base = i.base; grows = i.grows; log = i.log ++ op ∷ []; done = done-more i.ops i.log ops left op i.done does; tree = more-tree u i.base i.log op i.tree }))
      where
        by : (k : List Op) → IsUndoneOver q k (apply op u) → Over q (undone k) (apply op u) f ps
        by [] n = undoing-grows [] (apply op u) n
        by (o ∷ l) n = n

    undo-over : (x : Turn) (o : Op) (l : List Op) (u : Tree) (r : Repo) (i : IsWorking x (o ∷ l) u r) → Grows i.t q → IsUndoneOver q x.ops.undo u
    undo-over x o l u r i h = record {
      ops = x.ops.undo;
      base = u;
      grows = λ log left d. grows-on (after_all log u) i.t q (subst (λ (v : Tree). Grows (after_all log v) i.t) (sym i.tree) (working-undone i.t r x i.stands i.turn i.op i.more (o ∷ l) i.done log left d)) h;
      log = [];
      done = refl;
      tree = refl;
    }

    aside-over : (u : Tree) (op : Op) → within is_aside op ≡ true → Grows u q → Grows (apply op u) q
    aside-over u op w h = grows-on (apply op u) u q (aside-grows op u w) h

    removals-aside : (left : Option (List Op)) (rest : List Op) (u : Tree) (f : Repo) (ps : List Turn) → Inv (Idle left rest) u f ps → AreAside rest
    removals-aside None rest u f ps i = i.1
    removals-aside (Some left) rest u f ps i = locks-aside rest i.1

    creation-locks : (left : Option (List Op)) (creation rest : List Op) (u : Tree) (f : Repo) (ps : List Turn) → Inv (Refused left creation rest) u f ps → AreLocks creation
    creation-locks None creation rest u f ps i = i.1
    creation-locks (Some left) creation rest u f ps i = i.1

    acts-over : (d : Doing) (u : Tree) (f : Repo) (ps : List Turn) (op : Op) (news : List Turn) (d' : Doing) → Acts u (last_repo f ps) d op news d' → Inv d u f ps → Over q d u f ps → Over q d' (apply op u) f (ps ++ news)
    acts-over _ u f ps op _ _ (begins {x = x} {left = left} it does) i h = none-new (Preparing x left) (apply op u) f ps (record { t = u; stands = i.0; turn = it; log = op ∷ []; done = (left, does, refl); tree = refl }, h)
    acts-over _ u f ps op _ _ (prepares {x = x} {to_do = to_do} {left = left} does) i h = none-new (Preparing x left) (apply op u) f ps (
      record { t = h.0.t; stands = h.0.stands; turn = h.0.turn; log = h.0.log ++ op ∷ []; done = done-more x.ops.before h.0.log to_do left op h.0.done does; tree = more-tree u h.0.t h.0.log op h.0.tree },
      h.1,
    )
    acts-over _ u f ps op _ _ (journals {x = x} {left = left} does) i h = none-new (Working x left) (apply op u) f ps (
      record { t = h.0.t; stands = h.0.stands; turn = h.0.turn; op = op; more = []; done = (left, does, refl); tree = ap (apply op) (h.0.tree ∙ after-done x.ops.before h.0.log [] h.0.t h.0.done) },
      h.1,
    )
    acts-over _ u f ps op _ _ (works {x = x} {to_do = to_do} left does) i h = works-over x u f ps to_do op left h.0 h.1 does
    acts-over _ u f ps op _ _ (finishes {x = x} {to_do = to_do} left does) i h = finishes-over x u f ps to_do op left h.0 h.1 does
    acts-over _ u f ps op _ _ (undoes {x = x} {o = o} {rest = rest} left does) i h = undone-over u f ps x.ops.undo op left (undo-over x o rest u (last_repo f ps) h.0 h.1) does
    acts-over _ u f ps op _ _ (goes_on_undoing {to_do = to_do} left does) i h = undone-over u f ps to_do op left h does
    acts-over _ u f ps _ _ _ (removes {left = left} {all = all} {rest = rest} {path = path} skipped e) i h = aside-over u (Remove path) (behind is_aside skipped rest (Remove path) (subst AreAside e (removals-aside left all u f ps i))).0 h
    acts-over _ u f ps op _ _ (knocks {left = left} {rest = rest} {creation = creation} who does) i h = aside-over u op (lock-aside op (does-within is_lock (Create wlock_path who ∷ []) creation op does refl).0) h
    acts-over _ u f ps op _ _ (knocks_again {left = left} {creation = creation} who does) i h = aside-over u op (lock-aside op (does-within is_lock (Create lock_path who ∷ []) creation op does refl).0) h
    acts-over _ u f ps op _ _ (goes_on_knocking {left = left} {to_do = to_do} {creation = creation} {rest = rest} does) i h = aside-over u op (lock-aside op (does-within is_lock to_do creation op does (creation-locks left to_do rest u f ps i)).0) h

    abbrev pub IsOver : State → Type 0
    IsOver s = Over q s.doing s.files s.first s.published

    goes-over : (s : State) (op : Op) (s' : State) → Goes s op s' → Invariant s × IsOver s → Invariant s' × IsOver s'
    goes-over s op s' go (i, h) =
        let there = leaves-over s.doing go.there s.files s.first s.published go.leaves h in
        let next = acts-over go.there s.files s.first s.published op go.news s'.doing go.acts (leaves-keeps b s.doing go.there s.files s.first s.published go.leaves i) there in (
          goes-keeps b s op s' go i,
          subst (λ (p : List Turn). Over q s'.doing s'.files s'.first p) (sym go.published)
              (subst (λ (f : Repo). Over q s'.doing s'.files f (s.published ++ go.news)) (sym go.first)
              (subst (λ (u : Tree). Over q s'.doing u s.first (s.published ++ go.news)) (sym go.files) next)),
        )

    -- what stands at the front stays there
    run-over : (s : State) (log : List Op) (s' : State) → Run s log s' → Invariant s → IsOver s → Grows s'.files q
    run-over s log s' run i h = over-grows s'.doing s'.files s'.first s'.published (run-keeps Goes (λ p. Invariant p × IsOver p) goes-over s log s' run (i, h)).1

  -- ---- the start, and each publishing operation

  pub from-start : (t : Tree) (r : Repo) (log : List Op) (s : State) → Stands t r → IsRun t r log s → Grows (after_all log t) t
  from-start t r log s stands run = subst (λ (v : Tree). Grows v t) (run-files (start_of t r) log s run) (run-over t (start_of t r) log s run (stands, refl) (grows-refl t))

  abbrev Newly : Doing → Tree → Repo → List Turn → Type 0
  Newly d u f ps = Over u d u f ps × HoldsChangesets u (last_repo f ps).changesets

  no-news : {A : Type 0} → 0 < 0 → A
  no-news lt = absurd (omega (arith, lt))

  works-newly : (x : Turn) (u : Tree) (f : Repo) (ps : List Turn) (ops : List Op) (op : Op) (left : List Op) → IsWorking x ops u (last_repo f ps) → Does ops op left → 0 < length (newly x left) → Newly (worked x left) (apply op u) f (ps ++ newly x left)
  works-newly x u f ps ops op (o ∷ l) i does lt = no-news lt
  works-newly x u f ps ops op [] i does lt =
      let p = published-by u x u f ps ops op i does in (
        (p.0, subst (Grows (published_tree x p.0.t)) (sym p.1) (grows-refl (published_tree x p.0.t))),
        subst (λ (r : Repo). HoldsChangesets (apply op u) r.changesets) (sym (last-more f ps x)) (subst (λ (v : Tree). HoldsChangesets v x.next.changesets) (sym p.1) p.3),
      )

  acts-newly : (d : Doing) (u : Tree) (f : Repo) (ps : List Turn) (op : Op) (news : List Turn) (d' : Doing) → Acts u (last_repo f ps) d op news d' → Inv d u f ps → 0 < length news → Newly d' (apply op u) f (ps ++ news)
  acts-newly _ u f ps op _ _ (works {x = x} {to_do = to_do} left does) i lt = works-newly x u f ps to_do op left i.0 does lt
  acts-newly _ u f ps op _ _ (begins it does) i lt = no-news lt
  acts-newly _ u f ps op _ _ (prepares does) i lt = no-news lt
  acts-newly _ u f ps op _ _ (journals does) i lt = no-news lt
  acts-newly _ u f ps op _ _ (finishes left does) i lt = no-news lt
  acts-newly _ u f ps op _ _ (undoes left does) i lt = no-news lt
  acts-newly _ u f ps op _ _ (goes_on_undoing left does) i lt = no-news lt
  acts-newly _ u f ps _ _ _ (removes skipped e) i lt = no-news lt
  acts-newly _ u f ps op _ _ (knocks who does) i lt = no-news lt
  acts-newly _ u f ps op _ _ (knocks_again who does) i lt = no-news lt
  acts-newly _ u f ps op _ _ (goes_on_knocking does) i lt = no-news lt

  goes-newly : (s : State) (op : Op) (s' : State) → Goes s op s' → Invariant s → n_of s < n_of s' → Newly s'.doing s'.files s'.first s'.published
  goes-newly s op s' go i lt =
      let more = ap length go.published in
      let sum = length-append s.published go.news in
      let next = acts-newly go.there s.files s.first s.published op go.news s'.doing go.acts (leaves-keeps b s.doing go.there s.files s.first s.published go.leaves i) (omega (arith, lt, more, sum)) in
      subst (λ (p : List Turn). Newly s'.doing s'.files s'.first p) (sym go.published)
      (subst (λ (f : Repo). Newly s'.doing s'.files f (s.published ++ go.news)) (sym go.first)
      (subst (λ (u : Tree). Newly s'.doing u s.first (s.published ++ go.news)) (sym go.files) next))

  run-invariant : (t : Tree) (r : Repo) (log : List Op) (s : State) → Stands t r → IsRun t r log s → Invariant s
  run-invariant t r log s stands run = run-keeps Goes Invariant (goes-keeps b) (start_of t r) log s run (stands, refl)

  pub from-publishing : (t : Tree) (r : Repo) (log : List Op) (s : State) (op : Op) (s' : State) (more : List Op) (s'' : State) → Stands t r → IsRun t r log s → Goes s op s' → n_of s < n_of s' → Run s' more s'' → Grows s''.files s'.files
  from-publishing t r log s op s' more s'' stands run go lt on =
      let i = run-invariant t r log s stands run in
      run-over s'.files s' more s'' on (goes-keeps b s op s' go i) (goes-newly s op s' go i lt).0

  pub publishing-holds : (t : Tree) (r : Repo) (log : List Op) (s : State) (op : Op) (s' : State) → Stands t r → IsRun t r log s → Goes s op s' → n_of s < n_of s' → HoldsChangesets s'.files (repo_at s' (n_of s')).changesets
  publishing-holds t r log s op s' stands run go lt =
      subst (λ (a : Repo). HoldsChangesets s'.files a.changesets) (sym (less-none s'.first s'.published)) (goes-newly s op s' go (run-invariant t r log s stands run) lt).1

-- an operation publishes one transaction, or none
acts-one : (t : Tree) (r : Repo) (d : Doing) (op : Op) (news : List Turn) (d' : Doing) → Acts t r d op news d' → length news ≤ 1
acts-one t r _ _ _ _ (works {x = x} left does) = by left
  where
    by : (l : List Op) → length (newly x l) ≤ 1
    by [] = omega arith
    by (o ∷ l) = omega arith
acts-one t r _ _ _ _ (begins it does) = omega arith
acts-one t r _ _ _ _ (prepares does) = omega arith
acts-one t r _ _ _ _ (journals does) = omega arith
acts-one t r _ _ _ _ (finishes left does) = omega arith
acts-one t r _ _ _ _ (undoes left does) = omega arith
acts-one t r _ _ _ _ (goes_on_undoing left does) = omega arith
acts-one t r _ _ _ _ (removes skipped e) = omega arith
acts-one t r _ _ _ _ (knocks who does) = omega arith
acts-one t r _ _ _ _ (knocks_again who does) = omega arith
acts-one t r _ _ _ _ (goes_on_knocking does) = omega arith

pub goes-one : (s : State) (op : Op) (s' : State) → Goes s op s' → n_of s' ≤ suc (n_of s)
goes-one s op s' go =
    let more = ap length go.published in
    let sum = length-append s.published go.news in
    let one = acts-one s.files (last_repo s.first s.published) go.there op go.news s'.doing go.acts in
    omega (arith, more, sum, one)
