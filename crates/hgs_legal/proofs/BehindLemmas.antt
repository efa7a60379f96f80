-- What a transaction has still to do right behind its publishing operation.
use Rattle.std.proofs.Common.{◌≡◌, ◌+◌, ◌<◌, List, [], ◌∷◌, ◌++◌, Bool, true, false, length, refl, sym, ◌∙◌, ap, subst, arith, length-append}
use Rattle.std.specs.Prelude.{is_some}
use Rattle.hgs_files.specs.declared.op.Op.{Op}
use Rattle.hgs_files.specs.declared.op.Op.TheVariants.{Remove}
use Rattle.hgs_files.specs.Tree.{Tree}
use Rattle.hgs_journal.specs.Names.{journal_path}
use Rattle.hgs_model.specs.declared.command.Command.{Command}
use Rattle.hgs_model.specs.declared.command.Command.TheVariants.{Commit, Import, Mark, Move, Unmark}
use Rattle.hgs_model.specs.Repo.{Repo}
use Rattle.hgs_model.specs.Step.{sets_bookmark}
use Rattle.hgs_ops.specs.Operations.{Transaction, renames_after}
use Rattle.hgs_ops.specs.Replaced.{new_bookmarks, new_dirstate, new_rename, only_if}
use Rattle.hgs_ops.specs.Shown.{lacks_bookmarks, lacks_dirstate}
use Rattle.hgs_legal.specs.LegalLog.{Acts, Doing, Goes, IsTurn, Published, State, Turn, begins, finishes, goes_on_knocking, goes_on_undoing, journals, knocks, knocks_again, newly, prepares, removes, through_removal, undoes, worked, works}
use Rattle.hgs_legal.specs.Numbers.{adds_changesets, n_of}

-- an operation that publishes leaves the transaction's last operations to do
abbrev IsNewly : List Turn → Doing → Type 0
IsNewly news d = (x : Turn) × (news ≡ x ∷ []) × (d ≡ Published x (through_removal x.ops))

none : {A : Type 0} → 0 < 0 → A
none lt = absurd (omega (arith, lt))

newly-worked : (x : Turn) (left : List Op) → 0 < length (newly x left) → IsNewly (newly x left) (worked x left)
newly-worked x [] lt = (x, refl, refl)
newly-worked x (op ∷ left) lt = none lt

acts-newly : (t : Tree) (r : Repo) (d : Doing) (op : Op) (news : List Turn) (d' : Doing) → Acts t r d op news d' → 0 < length news → IsNewly news d'
acts-newly t r _ op _ _ (begins it does) lt = none lt
acts-newly t r _ op _ _ (prepares does) lt = none lt
acts-newly t r _ op _ _ (journals does) lt = none lt
acts-newly t r _ op _ _ (works {x = x} left does) lt = newly-worked x left lt
acts-newly t r _ op _ _ (finishes left does) lt = none lt
acts-newly t r _ op _ _ (undoes left does) lt = none lt
acts-newly t r _ op _ _ (goes_on_undoing left does) lt = none lt
acts-newly t r _ _ _ _ (removes skipped e) lt = none lt
acts-newly t r _ op _ _ (knocks who does) lt = none lt
acts-newly t r _ op _ _ (knocks_again who does) lt = none lt
acts-newly t r _ op _ _ (goes_on_knocking does) lt = none lt

pub newly-published : (s : State) (op : Op) (s' : State) → Goes s op s' → n_of s < n_of s' → (x : Turn) × (s'.published ≡ s.published ++ x ∷ []) × (s'.doing ≡ Published x (through_removal x.ops))
newly-published s op s' g lt =
    let more : length s'.published ≡ length s.published + length g.news = ap length g.published ∙ length-append s.published g.news in
    let d = acts-newly s.files _ g.there op g.news s'.doing g.acts (omega (arith, lt, more)) in
    (d.0, g.published ∙ ap (λ l. s.published ++ l) d.1, d.2)

-- ---- the renames

abbrev to_do : Command → Repo → List Op
to_do command next = renames_after command next ++ Remove journal_path ∷ []

abbrev IsBehind : Command → Repo → Type 0
IsBehind command next = (lacks_dirstate (to_do command next) ≡ adds_changesets command) × (lacks_bookmarks (to_do command next) ≡ adds_changesets command)

second : (bk : Bool) (next : Repo) → (lacks_dirstate ((new_rename (new_dirstate next) ∷ only_if bk (new_rename (new_bookmarks next))) ++ Remove journal_path ∷ []) ≡ true) × (lacks_bookmarks ((new_rename (new_dirstate next) ∷ only_if bk (new_rename (new_bookmarks next))) ++ Remove journal_path ∷ []) ≡ true)
second true next = (refl, refl)
second false next = (refl, refl)

behind : (command : Command) (next : Repo) → IsBehind command next
behind (Commit n) next = second (is_some n.bookmark) next
behind (Import changes) next = second (sets_bookmark changes) next
behind (Move rev phase force) next = (refl, refl)
behind (Mark name rev) next = (refl, refl)
behind (Unmark name) next = (refl, refl)

pub turn-behind : (t : Tree) (r : Repo) (x : Turn) → IsTurn t r x → (lacks_dirstate (through_removal x.ops) ≡ adds_changesets x.command) × (lacks_bookmarks (through_removal x.ops) ≡ adds_changesets x.command)
turn-behind t r x is = subst (λ (ops : Transaction). (lacks_dirstate (through_removal ops) ≡ adds_changesets x.command) × (lacks_bookmarks (through_removal ops) ≡ adds_changesets x.command)) (sym is.listed) (behind x.command x.next)
