-- Each operation of a legal log keeps what holds of the tree.
use Rattle.std.proofs.Common.{◌≡◌, ℕ, suc, List, [], ◌∷◌, ◌++◌, true, false, cond, length, take, refl, sym, ◌∙◌, ap, subst, inl, inr, arith, append-nil, append_assoc}
use Rattle.std.specs.Prelude.{Option, Some, None}
use Rattle.hgs_files.specs.declared.op.Op.{Op}
use Rattle.hgs_files.specs.declared.op.Op.TheVariants.{Create, Remove}
use Rattle.hgs_files.specs.Log.{Does, IsDone}
use Rattle.hgs_files.specs.Tree.{Tree, after_all, apply}
use Rattle.hgs_files.specs.Theorems.LogLemmas.{after-done, done-more}
use Rattle.hgs_files.specs.Theorems.TreeLemmas.{after_all-append, with_file-same}
use Rattle.hgs_journal.specs.Names.{journal_path}
use Rattle.hgs_model.specs.Repo.{Repo}
use Rattle.hgs_stands.specs.Open.{IsOpen}
use Rattle.hgs_stands.specs.Shows.{Shows}
use Rattle.hgs_stands.specs.Stands.{Stands}
use Rattle.hgs_ops.specs.Operations.{lock_path, removals, strays, wlock_path}
use Rattle.hgs_ops.specs.Shown.{lacks_bookmarks, lacks_dirstate}
use Rattle.hgs_legal.specs.LegalLog.{Acts, Doing, Goes, Idle, IsTurn, Leaves, Refused, State, Turn, begins, breaks, breaks_after, breaks_undo, finished, finishes, gives_up, goes_on_knocking, goes_on_undoing, is_refused, journals, knocks, knocks_again, last_repo, lock_removals, newly, prepares, removes, stays, through_publishing, through_removal, undoes, undone, worked, works}
use Rattle.hgs_legal.specs.Numbers.{is_some_op, less_one}
use Rattle.hgs_legal.proofs.Below.{Below}
use Rattle.hgs_legal.proofs.Invariant.{AreAside, AreLocks, Inv, Invariant, IsPreparing, IsPublished, IsShown, IsUndone, IsWorking, is_aside, is_lock, kept_at, last-more, less-last, less-none}
use Rattle.hgs_legal.proofs.LockLemmas.{aside-stands, behind, lock-aside, lock-open, lock-shown, locks-aside}
use Rattle.hgs_legal.proofs.Touched.{does-within, within}
use Rattle.hgs_legal.proofs.TurnLemmas.{KeepsUndoing, ShowsUndoing, laying, next-stands, no-file, published-open, settling-shown, undo-is, undoing-shown, working-open, working-shown, working-undoing}

module _ (b : Below) where
  nothing : (op : Op) (ops : List Op) → op ∷ ops ≡ [] → ⊥
  nothing op ops e = let n : suc (length ops) ≡ 0 = ap length e in omega (arith, n)

  more-tree : (u base : Tree) (log : List Op) (op : Op) → u ≡ after_all log base → apply op u ≡ after_all (log ++ op ∷ []) base
  more-tree u base log op e = ap (apply op) e ∙ sym (after_all-append log (op ∷ []) base)

  -- ---- what the states give

  pub preparing-stands : (x : Turn) (left : List Op) (u : Tree) (r : Repo) → IsPreparing x left u r → Stands u r
  preparing-stands x left u r i = subst (λ (v : Tree). Stands v r) (sym i.tree) (laying b i.t r x i.stands i.turn i.log left i.done)

  pub at-work-open : (x : Turn) (left : List Op) (u : Tree) (r : Repo) → IsWorking x left u r → IsOpen strays u r
  at-work-open x left u r i = subst (λ (v : Tree). IsOpen strays v r) (sym i.tree) (working-open b i.t r x i.stands i.turn i.op i.more left i.done)

  pub settling-open : (x : Turn) (op : Op) (left : List Op) (u : Tree) (f : Repo) (ps : List Turn) → IsPublished x (op ∷ left) u f ps → IsOpen strays u x.first
  settling-open x op left u f ps i = subst (λ (v : Tree). IsOpen strays v x.first) (sym i.tree) (published-open b i.t x.first x i.stands i.turn i.log op left i.done)

  pub undone-open : (op : Op) (left : List Op) (u : Tree) (r : Repo) → IsUndone (op ∷ left) u r → IsOpen strays u r
  undone-open op left u r i = elim (i.keeps i.log (op ∷ left) i.done) [
    | inl o ↦ subst (λ (v : Tree). IsOpen strays v r) (sym i.tree) o
    | inr s ↦ absurd (nothing op left s.0)
  ]

  -- where the whole undo list is done no journal stands
  pub undone-stands : (u : Tree) (r : Repo) → IsUndone [] u r → Stands u r
  undone-stands u r i = elim (i.keeps i.log [] i.done) [
    | inl o ↦ absurd (no-file o.1.journal_bytes (sym (none ∙ refl) ∙ o.1.journal_stands))
    | inr s ↦ subst (λ (v : Tree). Stands v r) (sym i.tree) s.1
  ]
    where
      none : after_all i.log i.base journal_path ≡ None
      none = ap (λ (v : Tree). v journal_path) (after-done (i.front ++ Remove journal_path ∷ []) i.log [] i.base i.done ∙ after_all-append i.front (Remove journal_path ∷ []) i.base) ∙ with_file-same (after_all i.front i.base) journal_path None

  -- ---- what is shown

  -- the three repositories are one where nothing was left
  shown-one : (u : Tree) (f : Repo) (ps : List Turn) → Shows u (last_repo f ps) (last_repo f ps) (last_repo f ps) → IsShown [] u f ps
  shown-one u f ps shown = subst (λ (q : Repo). Shows u q q q) (sym (less-none f ps)) shown

  pub at-work-shown : (x : Turn) (o : Op) (l : List Op) (u : Tree) (f : Repo) (ps : List Turn) → IsWorking x (o ∷ l) u (last_repo f ps) → IsShown [] u f ps
  at-work-shown x o l u f ps i = shown-one u f ps (subst (λ (v : Tree). Shows v (last_repo f ps) (last_repo f ps) (last_repo f ps)) (sym i.tree) (working-shown b i.t (last_repo f ps) x i.stands i.turn i.op i.more (o ∷ l) i.done o l refl))

  pub undone-shown : (left : List Op) (u : Tree) (f : Repo) (ps : List Turn) → IsUndone left u (last_repo f ps) → IsShown [] u f ps
  undone-shown left u f ps i = shown-one u f ps (subst (λ (v : Tree). Shows v (last_repo f ps) (last_repo f ps) (last_repo f ps)) (sym i.tree) (i.shows i.log left i.done))

  pub published-shown : (x : Turn) (o : Op) (l : List Op) (u : Tree) (f : Repo) (ps : List Turn) → IsPublished x (o ∷ l) u f ps → IsShown (o ∷ l) u f ps
  published-shown x o l u f ps p =
      let shown = subst (λ (v : Tree). Shows v (cond (lacks_bookmarks (o ∷ l)) x.first x.next) (cond (lacks_dirstate (o ∷ l)) x.first x.next) x.next) (sym p.tree) (settling-shown b p.t x.first x p.stands p.turn p.log o l p.done) in
      let now : last_repo f (take (length ps) ps) ≡ x.next = less-last f ps x false p.last in
      subst (λ (q : Repo). Shows u (last_repo f (take (less_one (lacks_bookmarks (o ∷ l)) (length ps)) ps)) (last_repo f (take (less_one (lacks_dirstate (o ∷ l)) (length ps)) ps)) q) (sym now)
      (subst (λ (q : Repo). Shows u (last_repo f (take (less_one (lacks_bookmarks (o ∷ l)) (length ps)) ps)) q x.next) (sym (less-last f ps x (lacks_dirstate (o ∷ l)) p.last))
      (subst (λ (q : Repo). Shows u q (cond (lacks_dirstate (o ∷ l)) x.first x.next) x.next) (sym (less-last f ps x (lacks_bookmarks (o ∷ l)) p.last)) shown))

  -- ---- a writer leaves

  some-op : (left : List Op) → is_some_op left ≡ true → (op : Op) × (more : List Op) × (left ≡ op ∷ more)
  some-op [] e = absurd (no e)
    where
      no : false ≡ true → ⊥
      no h = cc
  some-op (op ∷ more) e = (op, more, refl)

  pub leaves-keeps : (d d' : Doing) (u : Tree) (f : Repo) (ps : List Turn) → Leaves d d' → Inv d u f ps → Inv d' u f ps
  leaves-keeps d _ u f ps stays i = i
  leaves-keeps _ _ u f ps (gives_up {x = x} {left = left}) i = (preparing-stands x left u (last_repo f ps) i, refl)
  leaves-keeps _ _ u f ps (breaks {x = x} {op = op} {left = left}) i = (subst (IsOpen strays u) (sym (less-none f ps)) (at-work-open x (op ∷ left) u (last_repo f ps) i.0), refl, at-work-shown x op left u f ps i.0)
  leaves-keeps _ _ u f ps (breaks_after {x = x} {op = op} {left = left}) i = (subst (IsOpen strays u) (sym (less-last f ps x true i.0.last)) (settling-open x op left u f ps i.0), refl, published-shown x op left u f ps i.0)
  leaves-keeps _ _ u f ps (breaks_undo {op = op} {left = left}) i = (subst (IsOpen strays u) (sym (less-none f ps)) (undone-open op left u (last_repo f ps) i.0), refl, undone-shown (op ∷ left) u f ps i.0)
  leaves-keeps _ _ u f ps (is_refused {left = None} {creation = creation} {rest = rest}) i = (i.0, locks-aside rest i.2)
  leaves-keeps _ _ u f ps (is_refused {left = Some left}) i = (i.0, i.2, i.3)

  -- ---- one operation

  idle-keeps : (u : Tree) (f : Repo) (ps : List Turn) (rest : List Op) → Stands u (last_repo f ps) → AreAside rest → Inv (Idle None rest) u f (ps ++ [])
  idle-keeps u f ps rest s all = (subst (λ q. Stands u (last_repo f q)) (sym (append-nil ps)) s, all)

  works-keeps : (x : Turn) (u : Tree) (f : Repo) (ps : List Turn) (ops : List Op) (op : Op) (left : List Op) → IsWorking x ops u (last_repo f ps) → Does ops op left → Inv (worked x left) (apply op u) f (ps ++ newly x left)
  works-keeps x u f ps ops op left i does = by left (done-more (through_publishing x.ops) (i.op ∷ i.more) ops left op i.done does) (more-tree u (after_all x.ops.before i.t) (i.op ∷ i.more) op i.tree)
    where
      by : (k : List Op) → IsDone (through_publishing x.ops) ((i.op ∷ i.more) ++ op ∷ []) k → apply op u ≡ after_all ((i.op ∷ i.more) ++ op ∷ []) (after_all x.ops.before i.t) → Inv (worked x k) (apply op u) f (ps ++ newly x k)
      by [] d e = (
        record {
          last = record { earlier = ps; all = refl; from = sym i.turn.from };
          t = i.t;
          stands = subst (Stands i.t) (sym i.turn.from) i.stands;
          turn = subst (λ (q : Repo). IsTurn i.t q x) (sym i.turn.from) i.turn;
          log = [];
          done = refl;
          tree = e ∙ after-done (through_publishing x.ops) ((i.op ∷ i.more) ++ op ∷ []) [] (after_all x.ops.before i.t) d;
        },
        some x.ops.renames,
      )
        where
          some : (xs : List Op) → is_some_op (xs ++ Remove journal_path ∷ []) ≡ true
          some [] = refl
          some (y ∷ ys) = refl
      by (o ∷ l) d e = subst (λ q. IsWorking x (o ∷ l) (apply op u) (last_repo f q) × (true ≡ true)) (sym (append-nil ps)) (record { t = i.t; stands = i.stands; turn = i.turn; op = i.op; more = i.more ++ op ∷ []; done = d; tree = e }, refl)

  finishes-keeps : (x : Turn) (u : Tree) (f : Repo) (ps : List Turn) (ops : List Op) (op : Op) (left : List Op) → IsPublished x ops u f ps → Does ops op left → Inv (finished x left) (apply op u) f (ps ++ [])
  finishes-keeps x u f ps ops op left i does = by left (done-more (through_removal x.ops) i.log ops left op i.done does) (more-tree u (after_all (through_publishing x.ops) (after_all x.ops.before i.t)) i.log op i.tree)
    where
      now : last_repo f ps ≡ x.next
      now = ap (last_repo f) i.last.all ∙ last-more f i.last.earlier x

      by : (k : List Op) → IsDone (through_removal x.ops) (i.log ++ op ∷ []) k → apply op u ≡ after_all (i.log ++ op ∷ []) (after_all (through_publishing x.ops) (after_all x.ops.before i.t)) → Inv (finished x k) (apply op u) f (ps ++ [])
      by [] d e = idle-keeps (apply op u) f ps removals (subst (Stands (apply op u)) (sym now) (subst (λ (v : Tree). Stands v x.next) (sym (e ∙ after-done (through_removal x.ops) (i.log ++ op ∷ []) [] (after_all (through_publishing x.ops) (after_all x.ops.before i.t)) d)) (next-stands b i.t x.first x i.stands i.turn))) refl
      by (o ∷ l) d e = subst (λ q. IsPublished x (o ∷ l) (apply op u) f q × (true ≡ true)) (sym (append-nil ps)) (record { last = i.last; t = i.t; stands = i.stands; turn = i.turn; log = i.log ++ op ∷ []; done = d; tree = e }, refl)

  undone-keeps : (u : Tree) (f : Repo) (ps : List Turn) (ops : List Op) (op : Op) (left : List Op) → IsUndone ops u (last_repo f ps) → Does ops op left → Inv (undone left) (apply op u) f (ps ++ [])
  undone-keeps u f ps ops op left i does = by left (record { front = i.front; base = i.base; keeps = i.keeps; shows = i.shows; log = i.log ++ op ∷ []; done = done-more (i.front ++ Remove journal_path ∷ []) i.log ops left op i.done does; tree = more-tree u i.base i.log op i.tree })
    where
      by : (k : List Op) → IsUndone k (apply op u) (last_repo f ps) → Inv (undone k) (apply op u) f (ps ++ [])
      by [] n = idle-keeps (apply op u) f ps removals (undone-stands (apply op u) (last_repo f ps) n) refl
      by (o ∷ l) n = subst (λ q. IsUndone (o ∷ l) (apply op u) (last_repo f q) × (true ≡ true)) (sym (append-nil ps)) (n, refl)

  undo-begins : (x : Turn) (o : Op) (l : List Op) (u : Tree) (r : Repo) → IsWorking x (o ∷ l) u r → IsUndone x.ops.undo u r
  undo-begins x o l u r i =
      let last = undo-is b i.t r x i.stands i.turn in
      record {
        front = last.0;
        base = u;
        keeps = subst (λ (ops : List Op). KeepsUndoing b i.t r x i.stands i.turn ops u) last.1 (subst (KeepsUndoing b i.t r x i.stands i.turn x.ops.undo) (sym i.tree) (working-undoing b i.t r x i.stands i.turn i.op i.more (o ∷ l) i.done));
        shows = subst (λ (ops : List Op). ShowsUndoing b i.t r x i.stands i.turn ops u) last.1 (subst (ShowsUndoing b i.t r x i.stands i.turn x.ops.undo) (sym i.tree) (undoing-shown b i.t r x i.stands i.turn i.op i.more (o ∷ l) i.done o l refl));
        log = [];
        done = sym last.1;
        tree = refl;
      }

  -- ---- while no transaction is open, or one was left

  abbrev AtRest : Option (List Op) → Tree → Repo → List Turn → Type 0
  AtRest None u f ps = Stands u (last_repo f ps)
  AtRest (Some left) u f ps = IsOpen strays u (kept_at left f ps) × IsShown left u f ps

  rest-locks : (left : Option (List Op)) (op : Op) (u : Tree) (f : Repo) (ps : List Turn) → within is_lock op ≡ true → AtRest left u f ps → AtRest left (apply op u) f (ps ++ [])
  rest-locks None op u f ps w s = subst (λ q. Stands (apply op u) (last_repo f q)) (sym (append-nil ps)) (aside-stands b op u (last_repo f ps) (lock-aside op w) s)
  rest-locks (Some left) op u f ps w s = subst (λ q. IsOpen strays (apply op u) (kept_at left f q) × IsShown left (apply op u) f q) (sym (append-nil ps)) (lock-open b op u (kept_at left f ps) w s.0, lock-shown b op u _ _ _ w s.1)

  idle-state : (left : Option (List Op)) (rest : List Op) (u : Tree) (f : Repo) (ps : List Turn) → Inv (Idle left rest) u f ps → AtRest left u f ps
  idle-state None rest u f ps i = i.0
  idle-state (Some left) rest u f ps i = (i.0, i.2)

  refused-state : (left : Option (List Op)) (creation rest : List Op) (u : Tree) (f : Repo) (ps : List Turn) → Inv (Refused left creation rest) u f ps → AtRest left u f ps × AreLocks creation × AreLocks rest
  refused-state None creation rest u f ps i = i
  refused-state (Some left) creation rest u f ps i = ((i.0, i.3), i.1, i.2)

  knocks-keeps : (left : Option (List Op)) (creation rest : List Op) (op : Op) (u : Tree) (f : Repo) (ps : List Turn) → (within is_lock op ≡ true) × AreLocks creation → AreLocks rest → AtRest left u f ps → Inv (Refused left creation rest) (apply op u) f (ps ++ [])
  knocks-keeps None creation rest op u f ps a all s = (rest-locks None op u f ps a.0 s, a.1, all)
  knocks-keeps (Some left) creation rest op u f ps a all s = let k = rest-locks (Some left) op u f ps a.0 s in (k.0, a.1, all, k.1)

  removes-keeps : (left : Option (List Op)) (all rest : List Op) (path : List ℕ) (skipped : List Op) (u : Tree) (f : Repo) (ps : List Turn) → all ≡ skipped ++ Remove path ∷ rest → Inv (Idle left all) u f ps → Inv (Idle left rest) (apply (Remove path) u) f (ps ++ [])
  removes-keeps None all rest path skipped u f ps e i =
      let a = behind is_aside skipped rest (Remove path) (subst AreAside e i.1) in
      idle-keeps (apply (Remove path) u) f ps rest (aside-stands b (Remove path) u (last_repo f ps) a.0 i.0) a.1
  removes-keeps (Some left) all rest path skipped u f ps e i =
      let a = behind is_lock skipped rest (Remove path) (subst AreLocks e i.1) in
      (let k = rest-locks (Some left) (Remove path) u f ps a.0 (i.0, i.2) in (k.0, a.1, k.1))

  some-last : (xs : List Op) (op : Op) → is_some_op (xs ++ op ∷ []) ≡ true
  some-last [] op = refl
  some-last (x ∷ xs) op = refl

  -- one operation keeps what holds
  pub acts-keeps : (d : Doing) (u : Tree) (f : Repo) (ps : List Turn) (op : Op) (news : List Turn) (d' : Doing) → Acts u (last_repo f ps) d op news d' → Inv d u f ps → Inv d' (apply op u) f (ps ++ news)
  acts-keeps _ u f ps op _ _ (begins {x = x} {left = left} it does) i =
      subst (λ q. IsPreparing x left (apply op u) (last_repo f q)) (sym (append-nil ps)) (record { t = u; stands = i.0; turn = it; log = op ∷ []; done = (left, does, refl); tree = refl })
  acts-keeps _ u f ps op _ _ (prepares {x = x} {to_do = to_do} {left = left} does) i =
      subst (λ q. IsPreparing x left (apply op u) (last_repo f q)) (sym (append-nil ps)) (record { t = i.t; stands = i.stands; turn = i.turn; log = i.log ++ op ∷ []; done = done-more x.ops.before i.log to_do left op i.done does; tree = more-tree u i.t i.log op i.tree })
  acts-keeps _ u f ps op _ _ (journals {x = x} {left = left} does) i =
      subst (λ q. IsWorking x left (apply op u) (last_repo f q) × (is_some_op left ≡ true)) (sym (append-nil ps)) (
        record {
          t = i.t;
          stands = i.stands;
          turn = i.turn;
          op = op;
          more = [];
          done = (left, does, refl);
          tree = ap (apply op) (i.tree ∙ after-done x.ops.before i.log [] i.t i.done);
        },
        ap is_some_op does.2 ∙ ap is_some_op (sym (append_assoc does.0 x.ops.changes (x.ops.publish ∷ []))) ∙ some-last (does.0 ++ x.ops.changes) x.ops.publish,
      )
  acts-keeps _ u f ps op _ _ (works {x = x} {to_do = to_do} left does) i = works-keeps x u f ps to_do op left i.0 does
  acts-keeps _ u f ps op _ _ (finishes {x = x} {to_do = to_do} left does) i = finishes-keeps x u f ps to_do op left i.0 does
  acts-keeps _ u f ps op _ _ (undoes {x = x} {o = o} {rest = rest} left does) i = undone-keeps u f ps x.ops.undo op left (undo-begins x o rest u (last_repo f ps) i.0) does
  acts-keeps _ u f ps op _ _ (goes_on_undoing {to_do = to_do} left does) i = undone-keeps u f ps to_do op left i.0 does
  acts-keeps _ u f ps _ _ _ (removes {left = left} {all = all} {rest = rest} {path = path} skipped e) i = removes-keeps left all rest path skipped u f ps e i
  acts-keeps _ u f ps op _ _ (knocks {left = left} {rest = rest} {creation = creation} who does) i =
      knocks-keeps left creation (Remove wlock_path ∷ []) op u f ps (does-within is_lock (Create wlock_path who ∷ []) creation op does refl) refl (idle-state left rest u f ps i)
  acts-keeps _ u f ps op _ _ (knocks_again {left = left} {creation = creation} who does) i =
      knocks-keeps left creation lock_removals op u f ps (does-within is_lock (Create lock_path who ∷ []) creation op does refl) refl (refused-state left [] (Remove wlock_path ∷ []) u f ps i).0
  acts-keeps _ u f ps op _ _ (goes_on_knocking {left = left} {to_do = to_do} {creation = creation} {rest = rest} does) i =
      let k = refused-state left to_do rest u f ps i in
      knocks-keeps left creation rest op u f ps (does-within is_lock to_do creation op does k.1) k.2 k.0

  pub goes-keeps : (s : State) (op : Op) (s' : State) → Goes s op s' → Invariant s → Invariant s'
  goes-keeps s op s' go i =
      let there = leaves-keeps s.doing go.there s.files s.first s.published go.leaves i in
      let next = acts-keeps go.there s.files s.first s.published op go.news s'.doing go.acts there in
      subst (λ (p : List Turn). Inv s'.doing s'.files s'.first p) (sym go.published)
      (subst (λ (f : Repo). Inv s'.doing s'.files f (s.published ++ go.news)) (sym go.first)
      (subst (λ (u : Tree). Inv s'.doing u s.first (s.published ++ go.news)) (sym go.files) next))
