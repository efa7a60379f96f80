-- Whole transactions, those that are undone or broken off, and the locks of refused writers are runs.
use Rattle.std.proofs.Common.{◌≡◌, ℕ, List, [], ◌∷◌, ◌++◌, map, refl, sym, ◌∙◌, ap, subst, append-nil, append_assoc}
use Rattle.std.specs.Prelude.{Option, Some, None}
use Rattle.hgs_files.specs.declared.op.Op.{Op}
use Rattle.hgs_files.specs.declared.op.Op.TheVariants.{Create, Remove}
use Rattle.hgs_files.specs.Log.{Does, IsDone}
use Rattle.hgs_files.specs.Tree.{Tree, after_all, apply}
use Rattle.hgs_files.specs.Theorems.LogLemmas.{piece-whole}
use Rattle.hgs_journal.specs.Names.{journal_path}
use Rattle.hgs_model.specs.Repo.{Repo}
use Rattle.hgs_ops.specs.Operations.{Transaction, lock_path, operations, removals, strays, wlock_path}
use Rattle.hgs_legal.specs.LegalLog.{Acts, Doing, Goes, Idle, IsTurn, Leaves, Preparing, Published, Refused, Run, State, Turn, Undoing, Working, begins, breaks, finishes, goes_on_undoing, is_refused, journals, knocks, knocks_again, last_repo, lock_removals, prepares, removes, state_at, stays, through_publishing, through_removal, to_publishing, undoes, works}

run-join : (a b c : State) (xs ys : List Op) → Run a xs b → Run b ys c → Run a (xs ++ ys) c
run-join a b c [] ys x y = subst (λ (s : State). Run s ys c) (sym x) y
run-join a b c (op ∷ xs) ys x y = (x.0, x.1, run-join x.0 b c xs ys x.2 y)

whole : (op : Op) (ops : List Op) → Does (op ∷ ops) op ops
whole op ops = ([], piece-whole op, refl)

-- one operation that publishes nothing
quiet : (t : Tree) (r : Repo) (ps : List Turn) (d there d' : Doing) (op : Op) → Leaves d there → Acts t (last_repo r ps) there op [] d' → Goes (state_at t r ps d) op (state_at (apply op t) r ps d')
quiet t r ps d there d' op leaves acts = record { there = there; leaves = leaves; news = []; acts = acts; files = refl; first = refl; published = sym (append-nil ps) }

nothing : (op : Op) (ops : List Op) → [] ≡ op ∷ ops → ⊥
nothing op ops e = cc

nothing-left : (more : List Op) (o : Op) (l : List Op) → IsDone [] more (o ∷ l) → ⊥
nothing-left [] o l h = nothing o l h
nothing-left (x ∷ more) o l (j, d, k) = d

-- ---- before the journal

preparing : (x : Turn) (ops : List Op) (t : Tree) (r : Repo) (ps : List Turn) → Run (state_at t r ps (Preparing x ops)) ops (state_at (after_all ops t) r ps (Preparing x []))
preparing x [] t r ps = refl
preparing x (op ∷ ops) t r ps = (state_at (apply op t) r ps (Preparing x ops), quiet t r ps (Preparing x (op ∷ ops)) (Preparing x (op ∷ ops)) (Preparing x ops) op stays (prepares (whole op ops)), preparing x ops (apply op t) r ps)

-- ---- the journal and what follows it

working : (x : Turn) (ops done : List Op) (o : Op) (left : List Op) (t : Tree) (r : Repo) (ps : List Turn) → IsDone ops done (o ∷ left) → Run (state_at t r ps (Working x ops)) done (state_at (after_all done t) r ps (Working x (o ∷ left)))
working x ops [] o left t r ps h = ap (λ l. state_at t r ps (Working x l)) h
working x ops (op ∷ done) o left t r ps (j, d, k) = by j d k (λ y h. working x y done o left (apply op t) r ps h)
  where
    by : (j : List Op) → Does ops op j → IsDone j done (o ∷ left) → ((y : List Op) → IsDone y done (o ∷ left) → Run (state_at (apply op t) r ps (Working x y)) done (state_at (after_all done (apply op t)) r ps (Working x (o ∷ left)))) → Run (state_at t r ps (Working x ops)) (op ∷ done) (state_at (after_all done (apply op t)) r ps (Working x (o ∷ left)))
    by [] d k rec = absurd (nothing-left done o left k)
    by (p ∷ q) d k rec = (state_at (apply op t) r ps (Working x (p ∷ q)), quiet t r ps (Working x ops) (Working x ops) (Working x (p ∷ q)) op stays (works (p ∷ q) d), rec (p ∷ q) k)

-- all of it is done, and the transaction is published
publishing-run : (x : Turn) (ops : List Op) (last : Op) (t : Tree) (r : Repo) (ps : List Turn) → Run (state_at t r ps (Working x (ops ++ last ∷ []))) (ops ++ last ∷ []) (state_at (after_all (ops ++ last ∷ []) t) r (ps ++ x ∷ []) (Published x (through_removal x.ops)))
publishing-run x [] last t r ps = (state_at (apply last t) r (ps ++ x ∷ []) (Published x (through_removal x.ops)), record { there = Working x (last ∷ []); leaves = stays; news = x ∷ []; acts = works [] (whole last []); files = refl; first = refl; published = refl }, refl)
publishing-run x (a ∷ []) last t r ps = (state_at (apply a t) r ps (Working x (last ∷ [])), quiet t r ps (Working x (a ∷ last ∷ [])) (Working x (a ∷ last ∷ [])) (Working x (last ∷ [])) a stays (works (last ∷ []) (whole a (last ∷ []))), publishing-run x [] last (apply a t) r ps)
publishing-run x (a ∷ b ∷ ops) last t r ps =
    (state_at (apply a t) r ps (Working x (b ∷ (ops ++ last ∷ []))), quiet t r ps (Working x (a ∷ b ∷ (ops ++ last ∷ []))) (Working x (a ∷ b ∷ (ops ++ last ∷ []))) (Working x (b ∷ (ops ++ last ∷ []))) a stays (works (b ∷ (ops ++ last ∷ [])) (whole a (b ∷ (ops ++ last ∷ [])))), publishing-run x (b ∷ ops) last (apply a t) r ps)

-- ---- behind the publishing operation

finishing : (x : Turn) (ops : List Op) (last : Op) (t : Tree) (r : Repo) (ps : List Turn) → Run (state_at t r ps (Published x (ops ++ last ∷ []))) (ops ++ last ∷ []) (state_at (after_all (ops ++ last ∷ []) t) r ps (Idle None removals))
finishing x [] last t r ps = (state_at (apply last t) r ps (Idle None removals), quiet t r ps (Published x (last ∷ [])) (Published x (last ∷ [])) (Idle None removals) last stays (finishes [] (whole last [])), refl)
finishing x (a ∷ []) last t r ps = (state_at (apply a t) r ps (Published x (last ∷ [])), quiet t r ps (Published x (a ∷ last ∷ [])) (Published x (a ∷ last ∷ [])) (Published x (last ∷ [])) a stays (finishes (last ∷ []) (whole a (last ∷ []))), finishing x [] last (apply a t) r ps)
finishing x (a ∷ b ∷ ops) last t r ps =
    (state_at (apply a t) r ps (Published x (b ∷ (ops ++ last ∷ []))), quiet t r ps (Published x (a ∷ b ∷ (ops ++ last ∷ []))) (Published x (a ∷ b ∷ (ops ++ last ∷ []))) (Published x (b ∷ (ops ++ last ∷ []))) a stays (finishes (b ∷ (ops ++ last ∷ [])) (whole a (b ∷ (ops ++ last ∷ [])))), finishing x (b ∷ ops) last (apply a t) r ps)

removing : (left : Option (List Op)) (paths : List (List ℕ)) (t : Tree) (r : Repo) (ps : List Turn) → Run (state_at t r ps (Idle left (map (λ p. Remove p) paths))) (map (λ p. Remove p) paths) (state_at (after_all (map (λ p. Remove p) paths) t) r ps (Idle left []))
removing left [] t r ps = refl
removing left (p ∷ paths) t r ps = (state_at (apply (Remove p) t) r ps (Idle left (map (λ p. Remove p) paths)), quiet t r ps (Idle left (Remove p ∷ map (λ p. Remove p) paths)) (Idle left (Remove p ∷ map (λ p. Remove p) paths)) (Idle left (map (λ p. Remove p) paths)) (Remove p) stays (removes [] refl), removing left paths (apply (Remove p) t) r ps)

-- ---- undoing

undoing-on : (ops log : List Op) (op : Op) (t : Tree) (r : Repo) (ps : List Turn) → IsDone ops (op ∷ log) [] → Run (state_at t r ps (Undoing ops)) (op ∷ log) (state_at (after_all (op ∷ log) t) r ps (Idle None removals))
undoing-on ops [] op t r ps (j, d, k) = (state_at (apply op t) r ps (Idle None removals), quiet t r ps (Undoing ops) (Undoing ops) (Idle None removals) op stays (goes_on_undoing [] (subst (Does ops op) k d)), refl)
undoing-on ops (y ∷ m) op t r ps (j, d, k) = by j d k (λ z h. undoing-on z m y (apply op t) r ps h)
  where
    by : (j : List Op) → Does ops op j → IsDone j (y ∷ m) [] → ((z : List Op) → IsDone z (y ∷ m) [] → Run (state_at (apply op t) r ps (Undoing z)) (y ∷ m) (state_at (after_all (y ∷ m) (apply op t)) r ps (Idle None removals))) → Run (state_at t r ps (Undoing ops)) (op ∷ y ∷ m) (state_at (after_all (op ∷ y ∷ m) t) r ps (Idle None removals))
    by [] d k rec = absurd k.1
    by (p ∷ q) d k rec = (state_at (apply op t) r ps (Undoing (p ∷ q)), quiet t r ps (Undoing ops) (Undoing ops) (Undoing (p ∷ q)) op stays (goes_on_undoing (p ∷ q) d), rec (p ∷ q) k)

undoing : (x : Turn) (o : Op) (rest log : List Op) (op : Op) (t : Tree) (r : Repo) (ps : List Turn) → IsDone x.ops.undo (op ∷ log) [] → Run (state_at t r ps (Working x (o ∷ rest))) (op ∷ log) (state_at (after_all (op ∷ log) t) r ps (Idle None removals))
undoing x o rest [] op t r ps (j, d, k) = (state_at (apply op t) r ps (Idle None removals), quiet t r ps (Working x (o ∷ rest)) (Working x (o ∷ rest)) (Idle None removals) op stays (undoes [] (subst (Does x.ops.undo op) k d)), refl)
undoing x o rest (y ∷ m) op t r ps (j, d, k) = by j d k
  where
    by : (j : List Op) → Does x.ops.undo op j → IsDone j (y ∷ m) [] → Run (state_at t r ps (Working x (o ∷ rest))) (op ∷ y ∷ m) (state_at (after_all (op ∷ y ∷ m) t) r ps (Idle None removals))
    by [] d k = absurd k.1
    by (p ∷ q) d k = (state_at (apply op t) r ps (Undoing (p ∷ q)), quiet t r ps (Working x (o ∷ rest)) (Working x (o ∷ rest)) (Undoing (p ∷ q)) op stays (undoes (p ∷ q) d), undoing-on (p ∷ q) m y (apply op t) r ps k)

-- ---- pieces of a legal log

module _ (t : Tree) (r : Repo) (ps : List Turn) (rest : List Op) (x : Turn) (turn : IsTurn t (last_repo r ps) x) where
  abbrev from : State
  from = state_at t r ps (Idle None rest)

  abbrev laid : Tree
  laid = after_all x.ops.before t

  begun : Run (state_at t r ps (Idle None rest)) x.ops.before (state_at laid r ps (Preparing x []))
  begun = go x.ops.before (ap (λ (o : Transaction). o.before) turn.listed) refl
    where
      go : (ops : List Op) {op : Op} {more : List Op} → ops ≡ op ∷ more → x.ops.before ≡ ops → Run (state_at t r ps (Idle None rest)) x.ops.before (state_at laid r ps (Preparing x []))
      go ops {op} {more} e f =
          let is : x.ops.before ≡ op ∷ more = f ∙ e in
          subst (λ (l : List Op). Run (state_at t r ps (Idle None rest)) l (state_at (after_all l t) r ps (Preparing x []))) (sym is)
          (state_at (apply op t) r ps (Preparing x more), quiet t r ps (Idle None rest) (Idle None rest) (Preparing x more) op stays (begins turn (subst (λ (l : List Op). Does l op more) (sym is) (whole op more))), preparing x more (apply op t) r ps)

  -- the journal's creation, and a part of what follows
  part : (op : Op) (done : List Op) (o : Op) (left : List Op) → IsDone (through_publishing x.ops) (op ∷ done) (o ∷ left) → Run (state_at laid r ps (Preparing x [])) (op ∷ done) (state_at (after_all (op ∷ done) laid) r ps (Working x (o ∷ left)))
  part op done o left (j, d, k) = (state_at (apply op laid) r ps (Working x j), quiet laid r ps (Preparing x []) (Preparing x []) (Working x j) op stays (journals d), working x j done o left (apply op laid) r ps k)

  abbrev changed : Tree
  changed = after_all (to_publishing x.ops) (apply x.ops.journal laid)

  published-run : Run (state_at laid r ps (Preparing x [])) (through_publishing x.ops) (state_at changed r (ps ++ x ∷ []) (Published x (through_removal x.ops)))
  published-run = (state_at (apply x.ops.journal laid) r ps (Working x (to_publishing x.ops)), quiet laid r ps (Preparing x []) (Preparing x []) (Working x (to_publishing x.ops)) x.ops.journal stays (journals (whole x.ops.journal (to_publishing x.ops))), publishing-run x x.ops.changes x.ops.publish (apply x.ops.journal laid) r ps)

  abbrev ended : Tree
  ended = after_all (through_removal x.ops) changed

  -- the parts of the whole list
  parts : x.ops.before ++ (through_publishing x.ops ++ (through_removal x.ops ++ removals)) ≡ operations x.ops
  parts =
      ap (λ l. x.ops.before ++ x.ops.journal ∷ (to_publishing x.ops ++ l)) (append_assoc x.ops.renames (Remove journal_path ∷ []) removals)
      ∙ ap (λ l. x.ops.before ++ x.ops.journal ∷ l) (append_assoc x.ops.changes (x.ops.publish ∷ []) (x.ops.renames ++ Remove journal_path ∷ removals))
      ∙ sym (append_assoc x.ops.before (x.ops.journal ∷ x.ops.changes) ((x.ops.publish ∷ x.ops.renames) ++ (Remove journal_path ∷ removals)))
      ∙ sym (append_assoc (x.ops.before ++ (x.ops.journal ∷ x.ops.changes)) (x.ops.publish ∷ x.ops.renames) (Remove journal_path ∷ removals))

  pub whole-run : (s : State) × Run (state_at t r ps (Idle None rest)) (operations x.ops) s × (s.published ≡ ps ++ x ∷ []) × (s.doing ≡ Idle None []) × (s.first ≡ r)
  whole-run = (
    _,
    subst (λ (l : List Op). Run (state_at t r ps (Idle None rest)) l (state_at (after_all removals ended) r (ps ++ x ∷ []) (Idle None []))) parts
        (run-join _ _ _ x.ops.before _ begun (run-join _ _ _ (through_publishing x.ops) _ published-run (run-join _ _ _ (through_removal x.ops) _ (finishing x x.ops.renames (Remove journal_path) changed r (ps ++ x ∷ [])) (removing None (strays ++ lock_path ∷ wlock_path ∷ []) ended r (ps ++ x ∷ []))))),
    refl,
    refl,
    refl,
  )

  module _ (op : Op) (done : List Op) (o : Op) (left : List Op) (h : IsDone (through_publishing x.ops) (op ∷ done) (o ∷ left)) where
    pub undone-run : (u : Op) (log : List Op) → IsDone x.ops.undo (u ∷ log) [] → (s : State) × Run (state_at t r ps (Idle None rest)) (x.ops.before ++ ((op ∷ done) ++ ((u ∷ log) ++ removals))) s × (s.published ≡ ps) × (s.doing ≡ Idle None [])
    undone-run u log k =
        (_, run-join _ _ _ x.ops.before _ begun (run-join _ _ _ (op ∷ done) _ (part op done o left h) (run-join _ _ _ (u ∷ log) _ (undoing x o left log u (after_all (op ∷ done) laid) r ps k) (removing None (strays ++ lock_path ∷ wlock_path ∷ []) (after_all (u ∷ log) (after_all (op ∷ done) laid)) r ps))), refl, refl)

    pub broken-run : (s : State) × Run (state_at t r ps (Idle None rest)) (x.ops.before ++ ((op ∷ done) ++ lock_removals)) s × (s.published ≡ ps) × (s.doing ≡ Idle (Some []) [])
    broken-run = (_, run-join _ _ _ x.ops.before _ begun (run-join _ _ _ (op ∷ done) _ (part op done o left h) broke), refl, refl)
      where
        v : Tree
        v = after_all (op ∷ done) laid

        broke : Run (state_at (after_all (op ∷ done) laid) r ps (Working x (o ∷ left))) lock_removals (state_at (after_all lock_removals (after_all (op ∷ done) laid)) r ps (Idle (Some []) []))
        broke = (state_at (apply (Remove lock_path) (after_all (op ∷ done) laid)) r ps (Idle (Some []) (Remove wlock_path ∷ [])), quiet (after_all (op ∷ done) laid) r ps (Working x (o ∷ left)) (Idle (Some []) lock_removals) (Idle (Some []) (Remove wlock_path ∷ [])) (Remove lock_path) breaks (removes [] refl), removing (Some []) (wlock_path ∷ []) (apply (Remove lock_path) (after_all (op ∷ done) laid)) r ps)

-- ---- a writer that is refused

pub refused-run : (t : Tree) (r : Repo) (ps : List Turn) (left : Option (List Op)) (rest : List Op) (who : List ℕ) → (s : State) × Run (state_at t r ps (Idle left rest)) (Create wlock_path who ∷ Create lock_path who ∷ lock_removals) s × (s.published ≡ ps) × (s.doing ≡ Idle left [])
refused-run t r ps left rest who =
    let u : Tree = apply (Create lock_path who) (apply (Create wlock_path who) t) in (
      _,
      (
        state_at (apply (Create wlock_path who) t) r ps (Refused left [] (Remove wlock_path ∷ [])),
        quiet t r ps (Idle left rest) (Idle left rest) (Refused left [] (Remove wlock_path ∷ [])) (Create wlock_path who) stays (knocks who (whole (Create wlock_path who) [])),
        (
          state_at u r ps (Refused left [] lock_removals),
          quiet (apply (Create wlock_path who) t) r ps (Refused left [] (Remove wlock_path ∷ [])) (Refused left [] (Remove wlock_path ∷ [])) (Refused left [] lock_removals) (Create lock_path who) stays (knocks_again who (whole (Create lock_path who) [])),
          (state_at (apply (Remove lock_path) u) r ps (Idle left (Remove wlock_path ∷ [])), quiet u r ps (Refused left [] lock_removals) (Idle left lock_removals) (Idle left (Remove wlock_path ∷ [])) (Remove lock_path) is_refused (removes [] refl), removing left (wlock_path ∷ []) (apply (Remove lock_path) u) r ps),
        ),
      ),
      refl,
      refl,
    )
