-- What the operations of one transaction keep, however far they are done.
use Rattle.std.proofs.Common.{◌≡◌, ◌⊎◌, ℕ, List, [], ◌∷◌, ◌++◌, cond, refl, sym, ◌∙◌, ap, subst, inl, inr, length, suc, arith, append_assoc, append-nil}
use Rattle.std.specs.Prelude.{Option, Some, None}
use Rattle.hgs_files.specs.declared.op.Op.{Op}
use Rattle.hgs_files.specs.declared.op.Op.TheVariants.{Remove, Rename}
use Rattle.hgs_files.specs.Log.{IsDone}
use Rattle.hgs_files.specs.Tree.{Tree, after_all, apply}
use Rattle.hgs_files.specs.Theorems.LogLemmas.{done-append, done-behind, piece-whole}
use Rattle.hgs_files.specs.Theorems.TreeLemmas.{after_all-append}
use Rattle.hgs_journal.specs.Names.{journal_path, new_journal_path}
use Rattle.hgs_model.specs.Repo.{Repo}
use Rattle.hgs_stands.specs.Open.{IsOpen}
use Rattle.hgs_stands.specs.Shows.{Shows}
use Rattle.hgs_stands.specs.Stands.{Stands}
use Rattle.hgs_ops.specs.Operations.{Transaction, removals, strays}
use Rattle.hgs_ops.specs.Shown.{lacks_bookmarks, lacks_dirstate}
use Rattle.hgs_legal.specs.LegalLog.{Turn, IsTurn, through_publishing, through_removal, to_publishing}
use Rattle.hgs_legal.proofs.Below.{Below}
use Rattle.hgs_legal.proofs.Touched.{done-split, remove-done}

-- ---- lists that are done

pub all-done : (ops : List Op) → IsDone ops ops []
all-done [] = refl
all-done (op ∷ ops) = (ops, ([], piece-whole op, refl), all-done ops)

not-empty : (op : Op) (ops : List Op) → op ∷ ops ≡ [] → ⊥
not-empty op ops e = let n : suc (length ops) ≡ 0 = ap length e in omega (arith, n)

pub no-file : (b : List ℕ) → ◌≡◌ {A = Option (List ℕ)} None (Some b) → ⊥
no-file b e = cc

-- a rename is done whole
head-done : (from to : List ℕ) (ops more left : List Op) (op : Op) → IsDone (Rename from to ∷ ops) (op ∷ more) left → (op ≡ Rename from to) × IsDone ops more left
head-done from to ops more left op (mid, (rest, (e, f), g), k) = (e, subst (λ (l : List Op). IsDone l more left) (g ∙ ap (λ l. l ++ ops) f) k)

-- ---- one transaction

module _ (b : Below) (t : Tree) (r : Repo) (x : Turn) (s : Stands t r) (turn : IsTurn t r x) where
  -- the tree before that
  abbrev pub laid : Tree
  laid = after_all x.ops.before t

  -- the tree in which the journal has its name
  abbrev pub opened : Tree
  opened = apply x.ops.journal laid

  pub laying : (done left : List Op) → IsDone x.ops.before done left → Stands (after_all done t) r
  laying = subst (λ (o : Transaction). (done left : List Op) → IsDone o.before done left → Stands (after_all done t) r) (sym turn.listed) (b.before t r x.next x.command x.who s turn.ready)

  pub laid-stands : Stands laid r
  laid-stands = laying x.ops.before [] (all-done x.ops.before)

  keeping : (done left : List Op) → IsDone (x.ops.changes ++ x.ops.publish ∷ x.ops.renames) done left → IsOpen strays (after_all done opened) r
  keeping = subst (λ (o : Transaction). (done left : List Op) → IsDone (o.changes ++ o.publish ∷ o.renames) done left → IsOpen strays (after_all done (apply o.journal (after_all o.before t))) r) (sym turn.listed) (b.kept t r x.next x.command x.who s turn.ready)

  abbrev pub KeepsUndoing : List Op → Tree → Type 0
  KeepsUndoing ops v = (log left : List Op) → IsDone ops log left → IsOpen strays (after_all log v) r ⊎ ((left ≡ []) × Stands (after_all log v) r)

  undoing : (done left : List Op) → IsDone (x.ops.changes ++ x.ops.publish ∷ x.ops.renames) done left → KeepsUndoing x.ops.undo (after_all done opened)
  undoing = subst (λ (o : Transaction). (done left : List Op) → IsDone (o.changes ++ o.publish ∷ o.renames) done left → KeepsUndoing o.undo (after_all done (apply o.journal (after_all o.before t)))) (sym turn.listed) (b.stops t r x.next x.command x.who s turn.ready)

  -- what is shown

  keeping-shows : (done : List Op) (op : Op) (left : List Op) → IsDone (x.ops.changes ++ x.ops.publish ∷ []) done (op ∷ left) → Shows (after_all done opened) r r r
  keeping-shows = subst (λ (o : Transaction). (done : List Op) (op : Op) (left : List Op) → IsDone (o.changes ++ o.publish ∷ []) done (op ∷ left) → Shows (after_all done (apply o.journal (after_all o.before t))) r r r) (sym turn.listed) (b.working_shows t r x.next x.command x.who x.answer s turn.valid turn.accepted turn.ready)

  abbrev pub ShowsUndoing : List Op → Tree → Type 0
  ShowsUndoing ops v = (log left : List Op) → IsDone ops log left → Shows (after_all log v) r r r

  undoing-shows : (done : List Op) (op : Op) (left : List Op) → IsDone (x.ops.changes ++ x.ops.publish ∷ []) done (op ∷ left) → ShowsUndoing x.ops.undo (after_all done opened)
  undoing-shows = subst (λ (o : Transaction). (done : List Op) (op : Op) (left : List Op) → IsDone (o.changes ++ o.publish ∷ []) done (op ∷ left) → ShowsUndoing o.undo (after_all done (apply o.journal (after_all o.before t)))) (sym turn.listed) (b.undone_shows t r x.next x.command x.who x.answer s turn.valid turn.accepted turn.ready)

  journal-is : x.ops.journal ≡ Rename new_journal_path journal_path
  journal-is = subst (λ (o : Transaction). o.journal ≡ Rename new_journal_path journal_path) (sym turn.listed) refl

  pub undo-is : (ops : List Op) × (x.ops.undo ≡ ops ++ Remove journal_path ∷ [])
  undo-is = subst (λ (o : Transaction). (ops : List Op) × (o.undo ≡ ops ++ Remove journal_path ∷ [])) (sym turn.listed) (_, refl)

  -- what was done from the journal on: it got its name, and a part of the rest
  module _ (op : Op) (more left : List Op) (h : IsDone (through_publishing x.ops) (op ∷ more) left) where
    abbrev pub u : Tree
    u = after_all (op ∷ more) laid

    named : (op ≡ x.ops.journal) × IsDone (to_publishing x.ops) more left
    named =
        let k = head-done new_journal_path journal_path (to_publishing x.ops) more left op (subst (λ (o : Op). IsDone (o ∷ to_publishing x.ops) (op ∷ more) left) journal-is h) in
        (k.0 ∙ sym journal-is, k.1)

    pub since : u ≡ after_all more opened
    since = ap (λ (o : Op). after_all more (apply o laid)) named.0

    pub onward : IsDone (x.ops.changes ++ x.ops.publish ∷ x.ops.renames) more (left ++ x.ops.renames)
    onward = subst (λ (l : List Op). IsDone l more (left ++ x.ops.renames)) (append_assoc x.ops.changes (x.ops.publish ∷ []) x.ops.renames) (done-behind (to_publishing x.ops) x.ops.renames more left named.1)

    pub working-open : IsOpen strays u r
    working-open = subst (λ (w : Tree). IsOpen strays w r) (sym since) (keeping more (left ++ x.ops.renames) onward)

    pub working-undoing : KeepsUndoing x.ops.undo u
    working-undoing = subst (KeepsUndoing x.ops.undo) (sym since) (undoing more (left ++ x.ops.renames) onward)

    -- where something is left up to the publishing operation
    module _ (o : Op) (l : List Op) (is : left ≡ o ∷ l) where
      pub working-shown : Shows u r r r
      working-shown = subst (λ (w : Tree). Shows w r r r) (sym since) (keeping-shows more o l (subst (IsDone (to_publishing x.ops) more) is named.1))

      pub undoing-shown : ShowsUndoing x.ops.undo u
      undoing-shown = subst (ShowsUndoing x.ops.undo) (sym since) (undoing-shows more o l (subst (IsDone (to_publishing x.ops) more) is named.1))

  -- ---- behind the publishing operation

  abbrev pub published : Tree
  published = after_all (through_publishing x.ops) laid

  pub next-stands : Stands (after_all (through_removal x.ops) published) x.next
  next-stands =
      let leads = subst (λ (o : Transaction). Stands (apply (Remove journal_path) (after_all (o.changes ++ o.publish ∷ o.renames) (apply o.journal (after_all o.before t)))) x.next) (sym turn.listed) (b.removed t r x.next x.command x.who x.answer s turn.valid turn.accepted turn.ready [] removals refl) in
      subst (λ (v : Tree). Stands v x.next) (sym (after_all-append x.ops.renames (Remove journal_path ∷ []) published ∙ ap (apply (Remove journal_path)) (sym (ap (λ l. after_all l opened) (sym (append_assoc x.ops.changes (x.ops.publish ∷ []) x.ops.renames)) ∙ after_all-append (to_publishing x.ops) x.ops.renames opened)))) leads

  pub published-open : (log : List Op) (o : Op) (l : List Op) → IsDone (through_removal x.ops) log (o ∷ l) → IsOpen strays (after_all log published) r
  published-open log o l h = elim (done-split x.ops.renames (Remove journal_path ∷ []) log (o ∷ l) h) [
    | inl (m, k) ↦ renaming log m k
    | inr (a, b, e, k, m) ↦ elim (remove-done journal_path b (o ∷ l) m) [
      | inl (none, f) ↦ subst (λ (w : List Op). IsOpen strays (after_all w published) r) (sym (e ∙ ap (λ w. a ++ w) none ∙ append-nil a)) (renaming a [] k)
      | inr (all, f) ↦ absurd (not-empty o l f)
    ]
  ]
    where
      renaming : (log left : List Op) → IsDone x.ops.renames log left → IsOpen strays (after_all log published) r
      renaming log left h =
          subst (λ (v : Tree). IsOpen strays v r) (after_all-append (to_publishing x.ops) log opened)
          (keeping (to_publishing x.ops ++ log) left (subst (λ (w : List Op). IsDone w (to_publishing x.ops ++ log) left) (append_assoc x.ops.changes (x.ops.publish ∷ []) x.ops.renames)
          (done-append (to_publishing x.ops ++ x.ops.renames) (to_publishing x.ops) x.ops.renames log left (done-behind (to_publishing x.ops) x.ops.renames (to_publishing x.ops) [] (all-done (to_publishing x.ops))) h)))

  -- from there to the removal of the journal
  pub settling-shown : (log : List Op) (o : Op) (l : List Op) → IsDone (through_removal x.ops) log (o ∷ l) → Shows (after_all log published) (cond (lacks_bookmarks (o ∷ l)) r x.next) (cond (lacks_dirstate (o ∷ l)) r x.next) x.next
  settling-shown = subst (λ (y : Transaction). (log : List Op) (o : Op) (l : List Op) → IsDone (through_removal y) log (o ∷ l) → Shows (after_all log (after_all (through_publishing y) (after_all y.before t))) (cond (lacks_bookmarks (o ∷ l)) r x.next) (cond (lacks_dirstate (o ∷ l)) r x.next) x.next) (sym turn.listed)
      (b.settled_shows t r x.next x.command x.who x.answer s turn.valid turn.accepted turn.ready)
