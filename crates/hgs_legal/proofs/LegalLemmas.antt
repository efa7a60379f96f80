-- The numbers of legal logs.
use Rattle.std.proofs.Common.{◌≡◌, ◌⊎◌, ℕ, ◌<◌, ◌≤◌, List, [], ◌∷◌, ◌++◌, Bool, true, false, ◌||◌, length, refl, sym, ◌∙◌, ap, inl, inr, arith, length-append}
use Rattle.std.specs.Prelude.{Option, Some, None}
use Rattle.std.specs.List.{list_any}
use Rattle.hgs_files.specs.declared.op.Op.{Op}
use Rattle.hgs_files.specs.declared.op.Op.TheVariants.{Append, Cut, Rename, Remove, Create, Sync, Settle}
use Rattle.hgs_files.specs.Tree.{Tree, after_all}
use Rattle.hgs_files.specs.Log.{append_of_rest, IsPiece, Does}
use Rattle.hgs_model.specs.Repo.{Repo}
use Rattle.hgs_stands.specs.Places.{bookmarks_path, dirstate_path}
use Rattle.hgs_legal.specs.LegalLog.{Turn, Doing, Idle, Refused, Working, Published, worked, newly, finished, undone, Leaves, stays, gives_up, breaks, breaks_after, breaks_undo, is_refused, Acts, begins, prepares, journals, works, finishes, undoes, goes_on_undoing, removes, knocks, knocks_again, goes_on_knocking, State, current, Goes, Run}
use Rattle.hgs_ops.specs.Shown.{is_rename_to, lacks_dirstate, lacks_bookmarks}
use Rattle.hgs_legal.specs.Numbers.{left_of, less_one, n_of, w_of, b_of}
use Rattle.hgs_legal.specs.Theorems.Runs.{run-keeps}

-- the files of a run are those after its log
pub run-files : (s : State) (log : List Op) (s' : State) → Run s log s' → s'.files ≡ after_all log s.files
run-files s [] s' run = ap (λ x. x.files) (sym run)
run-files s (op ∷ log) s' run = run-files run.0 log s' run.2 ∙ ap (after_all log) run.1.files

-- b is at most w, and w at most n
less_one-le : (b : Bool) (n : ℕ) → less_one b n ≤ n
less_one-le true n = omega arith
less_one-le false n = omega arith

less_one-or : (a b : Bool) (n : ℕ) → less_one (a || b) n ≤ less_one a n
less_one-or true b n = omega arith
less_one-or false b n = less_one-le b n

pub w_of-le : (s : State) → w_of s ≤ n_of s
w_of-le s = less_one-le (lacks_dirstate (left_of s.doing)) (n_of s)

pub b_of-le : (s : State) → b_of s ≤ w_of s
b_of-le s = less_one-or (lacks_dirstate (left_of s.doing)) (list_any (is_rename_to bookmarks_path) (left_of s.doing)) (n_of s)

-- the published transactions are never taken back
pub goes-published : (s : State) (op : Op) (s' : State) → Goes s op s' → n_of s ≤ n_of s'
goes-published s op s' g = omega (arith, ap length g.published, length-append s.published g.news)

-- a writer that stops leaves to do what it had to do
pub leaves-left : (d d' : Doing) → Leaves d d' → left_of d' ≡ left_of d
leaves-left d _ stays = refl
leaves-left _ _ gives_up = refl
leaves-left _ _ breaks = refl
leaves-left _ _ breaks_after = refl
leaves-left _ _ breaks_undo = refl
leaves-left _ _ (is_refused {left = None}) = refl
leaves-left _ _ (is_refused {left = Some left}) = refl

any_after-rest : (path from : List ℕ) (bytes : List ℕ) (ops : List Op) → list_any (is_rename_to path) (append_of_rest from bytes ++ ops) ≡ list_any (is_rename_to path) ops
any_after-rest path from [] ops = refl
any_after-rest path from (b ∷ bytes) ops = refl

or-right : (a b : Bool) → b ≡ true → (a || b) ≡ true
or-right true b h = refl
or-right false b h = h

piece-any : (path : List ℕ) (op piece : Op) (rest ops : List Op) → IsPiece op piece rest → list_any (is_rename_to path) (rest ++ ops) ≡ list_any (is_rename_to path) ops
piece-any path (Append p bytes) piece rest ops h = ap (λ l. list_any (is_rename_to path) (l ++ ops)) h.4 ∙ any_after-rest path p h.1 ops
piece-any path (Create p bytes) piece rest ops h = ap (λ l. list_any (is_rename_to path) (l ++ ops)) h.4 ∙ any_after-rest path p h.1 ops
piece-any path (Cut p len) piece rest ops h = ap (λ l. list_any (is_rename_to path) (l ++ ops)) h.1
piece-any path (Rename from to) piece rest ops h = ap (λ l. list_any (is_rename_to path) (l ++ ops)) h.1
piece-any path (Remove p) piece rest ops h = ap (λ l. list_any (is_rename_to path) (l ++ ops)) h.1
piece-any path (Sync p) piece rest ops h = ap (λ l. list_any (is_rename_to path) (l ++ ops)) h.1
piece-any path Settle piece rest ops h = ap (λ l. list_any (is_rename_to path) (l ++ ops)) h.1

-- no rename comes to what is to do
pub does-any : (path : List ℕ) (ops left : List Op) (piece : Op) → Does ops piece left → list_any (is_rename_to path) left ≡ true → list_any (is_rename_to path) ops ≡ true
does-any path [] left piece d h = elim d [ ]
does-any path (op ∷ ops) left piece d h =
    or-right (is_rename_to path op) (list_any (is_rename_to path) ops) (sym (piece-any path op piece d.0 ops d.1) ∙ ap (list_any (is_rename_to path)) (sym d.2) ∙ h)

-- what a rename has still to do after an operation it had to do before, or a transaction was published
abbrev Lag : (List ℕ) → Doing → List Turn → Doing → Type 0
Lag path d news d' = list_any (is_rename_to path) (left_of d') ≡ true → (list_any (is_rename_to path) (left_of d) ≡ true) ⊎ (0 < length news)

no_lag : {A : Type 0} → false ≡ true → A
no_lag h = absurd (elim_false h)
  where
    elim_false : false ≡ true → ⊥
    elim_false e = cc

worked-lag : (path : List ℕ) (x : Turn) (to_do left : List Op) → Lag path (Working x to_do) (newly x left) (worked x left)
worked-lag path x to_do [] h = inr (omega arith)
worked-lag path x to_do (op ∷ left) h = no_lag h

undone-lag : (path : List ℕ) (d : Doing) (left : List Op) → Lag path d [] (undone left)
undone-lag path d [] h = no_lag h
undone-lag path d (op ∷ left) h = no_lag h

finished-lag : (path : List ℕ) (x : Turn) (to_do left : List Op) (op : Op) → Does to_do op left → Lag path (Published x to_do) [] (finished x left)
finished-lag path x to_do [] op d h = no_lag h
finished-lag path x to_do (o ∷ left) op d h = inl (does-any path to_do (o ∷ left) op d h)

idle-lag : (path : List ℕ) (left : Option (List Op)) (rest creation rest' : List Op) → Lag path (Idle left rest) [] (Refused left creation rest')
idle-lag path None rest creation rest' h = no_lag h
idle-lag path (Some left) rest creation rest' h = inl h

removes-lag : (path : List ℕ) (left : Option (List Op)) (rest rest' : List Op) → Lag path (Idle left rest) [] (Idle left rest')
removes-lag path None rest rest' h = no_lag h
removes-lag path (Some left) rest rest' h = inl h

refused-lag : (path : List ℕ) (left : Option (List Op)) (creation rest creation' rest' : List Op) → Lag path (Refused left creation rest) [] (Refused left creation' rest')
refused-lag path None creation rest creation' rest' h = no_lag h
refused-lag path (Some left) creation rest creation' rest' h = inl h

pub acts-lag : (path : List ℕ) (t : Tree) (r : Repo) (d : Doing) (op : Op) (news : List Turn) (d' : Doing) → Acts t r d op news d' → Lag path d news d'
acts-lag path t r _ _ _ _ (begins it does) h = no_lag h
acts-lag path t r _ _ _ _ (prepares does) h = no_lag h
acts-lag path t r _ _ _ _ (journals does) h = no_lag h
acts-lag path t r _ _ _ _ (works {x = x} {to_do = to_do} left does) h = worked-lag path x to_do left h
acts-lag path t r _ op _ _ (finishes {x = x} {to_do = to_do} left does) h = finished-lag path x to_do left op does h
acts-lag path t r d _ _ _ (undoes left does) h = undone-lag path d left h
acts-lag path t r d _ _ _ (goes_on_undoing left does) h = undone-lag path d left h
acts-lag path t r _ _ _ _ (removes {left = left} {all = all} {rest = rest} skipped e) h = removes-lag path left all rest h
acts-lag path t r _ _ _ _ (knocks {left = left} {rest = rest} {creation = creation} who does) h = idle-lag path left rest creation _ h
acts-lag path t r _ _ _ _ (knocks_again {left = left} who does) h = refused-lag path left _ _ _ _ h
acts-lag path t r _ _ _ _ (goes_on_knocking {left = left} does) h = refused-lag path left _ _ _ _ h

pub less_one-mono : (a b : Bool) (m n : ℕ) → m ≤ n → (b ≡ true → (a ≡ true) ⊎ (m < n)) → less_one a m ≤ less_one b n
less_one-mono a false m n le h = omega (arith, less_one-le a m)
less_one-mono true true m n le h = omega arith
less_one-mono false true m n le h = elim (h refl) [
  | inl e ↦ no_lag e
  | inr lt ↦ omega arith
]

goes-lag : (path : List ℕ) (s : State) (op : Op) (s' : State) → Goes s op s' → list_any (is_rename_to path) (left_of s'.doing) ≡ true → (list_any (is_rename_to path) (left_of s.doing) ≡ true) ⊎ (n_of s < n_of s')
goes-lag path s op s' g h = elim (acts-lag path s.files (current s) g.there op g.news s'.doing g.acts h) [
  | inl e ↦ inl (ap (list_any (is_rename_to path)) (sym (leaves-left s.doing g.there g.leaves)) ∙ e)
  | inr lt ↦ inr (omega (arith, ap length g.published, length-append s.published g.news))
]

-- none of the numbers falls
pub goes-w : (s : State) (op : Op) (s' : State) → Goes s op s' → w_of s ≤ w_of s'
goes-w s op s' g = less_one-mono (lacks_dirstate (left_of s.doing)) (lacks_dirstate (left_of s'.doing)) (n_of s) (n_of s') (goes-published s op s' g) (goes-lag dirstate_path s op s' g)

or-cases : (a b : Bool) → (a || b) ≡ true → (a ≡ true) ⊎ (b ≡ true)
or-cases true b h = inl refl
or-cases false b h = inr h

or-left : (a b : Bool) → a ≡ true → (a || b) ≡ true
or-left true b h = refl
or-left false b h = no_lag h

pub goes-b : (s : State) (op : Op) (s' : State) → Goes s op s' → b_of s ≤ b_of s'
goes-b s op s' g = less_one-mono (lacks_bookmarks (left_of s.doing)) (lacks_bookmarks (left_of s'.doing)) (n_of s) (n_of s') (goes-published s op s' g)
    (λ h. elim (or-cases (lacks_dirstate (left_of s'.doing)) (list_any (is_rename_to bookmarks_path) (left_of s'.doing)) h) [
      | inl e ↦ elim (goes-lag dirstate_path s op s' g e) [
        | inl k ↦ inl (or-left (lacks_dirstate (left_of s.doing)) (list_any (is_rename_to bookmarks_path) (left_of s.doing)) k)
        | inr lt ↦ inr lt
      ]
      | inr e ↦ elim (goes-lag bookmarks_path s op s' g e) [
        | inl k ↦ inl (or-right (lacks_dirstate (left_of s.doing)) (list_any (is_rename_to bookmarks_path) (left_of s.doing)) k)
        | inr lt ↦ inr lt
      ]
    ])

pub run-n : (s : State) (log : List Op) (s' : State) → Run s log s' → n_of s ≤ n_of s'
run-n s log s' run = run-keeps Goes (λ q. n_of s ≤ n_of q) (λ p op q g i. omega (arith, i, goes-published p op q g)) s log s' run (omega arith)

pub run-w : (s : State) (log : List Op) (s' : State) → Run s log s' → w_of s ≤ w_of s'
run-w s log s' run = run-keeps Goes (λ q. w_of s ≤ w_of q) (λ p op q g i. omega (arith, i, goes-w p op q g)) s log s' run (omega arith)

pub run-b : (s : State) (log : List Op) (s' : State) → Run s log s' → b_of s ≤ b_of s'
run-b s log s' run = run-keeps Goes (λ q. b_of s ≤ b_of q) (λ p op q g i. omega (arith, i, goes-b p op q g)) s log s' run (omega arith)
