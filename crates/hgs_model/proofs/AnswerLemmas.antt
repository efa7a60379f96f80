-- What an accepted command answers.
use Rattle.std.proofs.Common.{◌≡◌, ℕ, zero, suc, ◌<◌, List, [], ◌∷◌, ◌++◌, Bool, true, false, ◌&&◌, not, length, refl, sym, ◌∙◌, ap, subst, arith, length-append}
use Rattle.std.specs.Prelude.{Option, Some, None, Result, Ok, Err, slice_get, slice_index, slice_index_or, nat_lt, ◌==◌}
use Rattle.hgs_index.specs.Node.{null_node}
use Rattle.hgs_index.specs.Revision.{nodes, node_after, standing, with_revision_at}
use Rattle.hgs_index.specs.Theorems.RevisionLemmas.{nodes_from-append}
use Rattle.hgs_model.specs.Repo.{Repo, Changeset}
use Rattle.hgs_model.specs.History.{History, history, changeset_nodes, changeset_revision, first_of}
use Rattle.hgs_model.specs.IsRepo.{IsRepo}
use Rattle.hgs_model.specs.Names.{named, bookmark_named}
use Rattle.hgs_model.specs.Phase.{phase_number}
use Rattle.hgs_model.specs.Step.{Next, Answer, or_unknown, guard, done_at, with_mark, without_mark, points_at, moved_phases, step, step_move, step_mark, step_unmark, step_commit, named_all, as_parents, copies_hold, new_changeset, nothing_changed, unchanged_from, refused_where, step_import, steps_from, with_new, ◌>>=◌}
use Rattle.hgs_model.specs.declared.command.Command.{Command}
use Rattle.hgs_model.specs.declared.command.Command.TheVariants.{Commit, Import, Move, Mark, Unmark}
use Rattle.hgs_model.specs.declared.command.NewChange.{NewChange}
use Rattle.hgs_model.specs.declared.command.Refusal.{Refusal}
use Rattle.hgs_model.specs.declared.command.Refusal.TheVariants.{NeedsForce, NothingChanged}
use Rattle.hgs_model.specs.declared.phase.Phase.{Phase}
use Rattle.hgs_model.specs.Theorems.HistoryLemmas.{history-push}
use Rattle.hgs_model.specs.Theorems.StepLemmas.{ok-next, err-next, length-changeset_nodes, named-below, mark-below}

done-is : (b : Bool) (w : Refusal) (d next : Next) → (guard b w >>= λ changed. Ok d) ≡ Ok next → next ≡ d
done-is true w d next e = err-next w next e
done-is false w d next e = sym (ok-next next d next e)

two-is : (a b : Bool) (v w : Refusal) (d next : Next) → (guard a v >>= λ forced. guard b w >>= λ changed. Ok d) ≡ Ok next → next ≡ d
two-is true b v w d next e = err-next v next e
two-is false b v w d next e = done-is b w d next e

-- ---- commands that name a changeset

-- what such a command did
record Told (found : Option ℕ) (made : ℕ → Repo) (next : Next) : Type 0 where
  rev : ℕ
  named_is : found ≡ Some rev
  is : next ≡ done_at (made rev) rev

move-told : (r : Repo) (name : List ℕ) (to : ℕ) (force : Bool) (next : Next) → step_move r name to force ≡ Ok next → Told (named r name) (λ rev. record r { phases = moved_phases r rev to }) next
move-told r name to force next e = by (named r name) refl e
  where
    by : (o : Option ℕ) → named r name ≡ o
        → (or_unknown o >>= λ rev. guard (nat_lt (slice_index r.phases rev) to && not force) (NeedsForce rev) >>= λ forced. guard (to == slice_index r.phases rev) (NothingChanged rev) >>= λ changed. Ok (done_at (record r { phases = moved_phases r rev to }) rev)) ≡ Ok next
        → Told (named r name) (λ rev. record r { phases = moved_phases r rev to }) next
    by None n h = err-next _ next h
    by (Some rev) n h = record { rev = rev; named_is = n; is = two-is (nat_lt (slice_index r.phases rev) to && not force) (to == slice_index r.phases rev) (NeedsForce rev) (NothingChanged rev) (done_at (record r { phases = moved_phases r rev to }) rev) next h }

mark-told : (r : Repo) (mark name : List ℕ) (next : Next) → step_mark r mark name ≡ Ok next → Told (named r name) (λ rev. record r { bookmarks = with_mark r.bookmarks mark rev }) next
mark-told r mark name next e = by (named r name) refl e
  where
    by : (o : Option ℕ) → named r name ≡ o
        → (or_unknown o >>= λ rev. guard (points_at (bookmark_named r.bookmarks mark) rev) (NothingChanged rev) >>= λ changed. Ok (done_at (record r { bookmarks = with_mark r.bookmarks mark rev }) rev)) ≡ Ok next
        → Told (named r name) (λ rev. record r { bookmarks = with_mark r.bookmarks mark rev }) next
    by None n h = err-next _ next h
    by (Some rev) n h = record { rev = rev; named_is = n; is = done-is (points_at (bookmark_named r.bookmarks mark) rev) (NothingChanged rev) (done_at (record r { bookmarks = with_mark r.bookmarks mark rev }) rev) next h }

unmark-told : (r : Repo) (mark : List ℕ) (next : Next) → step_unmark r mark ≡ Ok next → Told (bookmark_named r.bookmarks mark) (λ rev. record r { bookmarks = without_mark r.bookmarks mark }) next
unmark-told r mark next e = by (bookmark_named r.bookmarks mark) refl e
  where
    by : (o : Option ℕ) → bookmark_named r.bookmarks mark ≡ o → (or_unknown o >>= λ rev. Ok (done_at (record r { bookmarks = without_mark r.bookmarks mark }) rev)) ≡ Ok next
        → Told (bookmark_named r.bookmarks mark) (λ rev. record r { bookmarks = without_mark r.bookmarks mark }) next
    by None n h = err-next _ next h
    by (Some rev) n h = record { rev = rev; named_is = n; is = sym (ok-next next (done_at (record r { bookmarks = without_mark r.bookmarks mark }) rev) next h) }

-- the number that is answered is that of the changeset that was found, and the changesets stay
told-answers : (found : Option ℕ) (made : ℕ → Repo) (changesets : List Changeset) (next : Repo) (answer : Answer) → ((rev : ℕ) → (made rev).changesets ≡ changesets) → Told found made (next, answer) → (found ≡ Some answer.rev) × (next.changesets ≡ changesets)
told-answers found made changesets next answer same t =
    let rev : answer.rev ≡ t.rev = ap (λ (p : Next). p.1.rev) t.is in
    (t.named_is ∙ ap (λ n. Some n) (sym rev), ap (λ (p : Next). p.0.changesets) t.is ∙ same t.rev)

pub move-answers : (r next : Repo) (name : List ℕ) (phase : Phase) (force : Bool) (answer : Answer) → step r (Move name phase force) ≡ Ok (next, answer) → (named r name ≡ Some answer.rev) × (next.changesets ≡ r.changesets)
move-answers r next name phase force answer e = told-answers (named r name) (λ rev. record r { phases = moved_phases r rev (phase_number phase) }) r.changesets next answer (λ rev. refl) (move-told r name (phase_number phase) force (next, answer) e)

pub mark-answers : (r next : Repo) (mark name : List ℕ) (answer : Answer) → step r (Mark mark name) ≡ Ok (next, answer) → (named r name ≡ Some answer.rev) × (next.changesets ≡ r.changesets)
mark-answers r next mark name answer e = told-answers (named r name) (λ rev. record r { bookmarks = with_mark r.bookmarks mark rev }) r.changesets next answer (λ rev. refl) (mark-told r mark name (next, answer) e)

pub unmark-answers : (r next : Repo) (mark : List ℕ) (answer : Answer) → step r (Unmark mark) ≡ Ok (next, answer) → (bookmark_named r.bookmarks mark ≡ Some answer.rev) × (next.changesets ≡ r.changesets)
unmark-answers r next mark answer e = told-answers (bookmark_named r.bookmarks mark) (λ rev. record r { bookmarks = without_mark r.bookmarks mark }) r.changesets next answer (λ rev. refl) (unmark-told r mark (next, answer) e)

-- ---- a commit

first-none : (a b : Option ℕ) → first_of a b ≡ None → b ≡ None
first-none None b e = e
first-none (Some x) b e = absurd (no e)
  where
    no : Some x ≡ None → ⊥
    no h = cc

-- the changeset that a commit adds
abbrev added : Repo → NewChange → List ℕ → Changeset
added r n revs = new_changeset (history r.changesets) (as_parents revs) n

record Committed (r : Repo) (n : NewChange) (next : Next) : Type 0 where
  revs : List ℕ
  named_are : named_all r n.parents ≡ Ok revs
  changed : nothing_changed r (added r n revs) ≡ None
  is : next ≡ done_at (with_new r (added r n revs) n) (length r.changesets)

commit-did : (r : Repo) (n : NewChange) (next : Next) → step_commit r n ≡ Ok next → Committed r n next
commit-did r n next e = by (named_all r n.parents) refl e
  where
    behind : (revs : List ℕ) → named_all r n.parents ≡ Ok revs → (o : Option ℕ) → nothing_changed r (added r n revs) ≡ o
        → (refused_where o >>= λ unchanged. Ok (done_at (with_new r (added r n revs) n) (length r.changesets))) ≡ Ok next → Committed r n next
    behind revs a None c h = record { revs = revs; named_are = a; changed = c; is = sym (ok-next next (done_at (with_new r (added r n revs) n) (length r.changesets)) next h) }
    behind revs a (Some rev) c h = err-next (NothingChanged rev) next h

    copied : (revs : List ℕ) → named_all r n.parents ≡ Ok revs → (held : Result (Unit {0}) Refusal)
        → (held >>= λ copied. refused_where (nothing_changed r (added r n revs)) >>= λ unchanged. Ok (done_at (with_new r (added r n revs) n) (length r.changesets))) ≡ Ok next → Committed r n next
    copied revs a (Err w) h = err-next w next h
    copied revs a (Ok it) h = behind revs a (nothing_changed r (added r n revs)) refl h

    by : (all : Result (List ℕ) Refusal) → named_all r n.parents ≡ all
        → (all >>= λ revs. copies_hold (history r.changesets) (as_parents revs) n.files >>= λ copied. refused_where (nothing_changed r (added r n revs)) >>= λ unchanged. Ok (done_at (with_new r (added r n revs) n) (length r.changesets))) ≡ Ok next → Committed r n next
    by (Err w) a h = err-next w next h
    by (Ok revs) a h = copied revs a (copies_hold (history r.changesets) (as_parents revs) n.files) h

-- a changeset that no other equals gives one more node, that of its text and parents
pub new-nodes : (changesets : List Changeset) (c : Changeset) → standing (history changesets).changelog (changeset_revision (history changesets) c).text c.parents ≡ None
    → changeset_nodes (changesets ++ c ∷ []) ≡ changeset_nodes changesets ++ node_after (changeset_nodes changesets) (changeset_revision (history changesets) c) ∷ []
new-nodes changesets c other =
    let h = history changesets in
    let r = changeset_revision h c in
    ap (λ (k : History). nodes k.changelog) (history-push changesets c)
    ∙ ap (λ o. nodes (with_revision_at o h.changelog r)) other
    ∙ nodes_from-append [] h.changelog (r ∷ [])

last-index : (xs : List (List ℕ)) (x : List ℕ) (n : ℕ) → n ≡ length xs → slice_index_or (xs ++ x ∷ []) n null_node ≡ x
last-index [] x zero e = refl
last-index [] x (suc n) e = absurd (no e)
  where
    no : suc n ≡ 0 → ⊥
    no h = omega (arith, h)
last-index (y ∷ xs) x zero e = absurd (no e)
  where
    no : 0 ≡ suc (length xs) → ⊥
    no h = omega (arith, h)
last-index (y ∷ xs) x (suc n) e = last-index xs x n (omega (arith, e))

pub commit-answers : (r next : Repo) (n : NewChange) (answer : Answer) → IsRepo r → step r (Commit n) ≡ Ok (next, answer)
    → (revs : List ℕ) × (named_all r n.parents ≡ Ok revs) × (next.changesets ≡ r.changesets ++ new_changeset (history r.changesets) (as_parents revs) n ∷ [])
    × (answer.rev ≡ length r.changesets) × (answer.node ≡ node_after (changeset_nodes r.changesets) (changeset_revision (history r.changesets) (new_changeset (history r.changesets) (as_parents revs) n)))
commit-answers r next n answer is e =
    let d = commit-did r n (next, answer) e in
    let c = added r n d.revs in
    let other = first-none (unchanged_from r.changesets c.parents.0 c.parents.1 c.tree) _ d.changed in
    let node = node_after (changeset_nodes r.changesets) (changeset_revision (history r.changesets) c) in (
      d.revs,
      d.named_are,
      ap (λ (p : Next). p.0.changesets) d.is,
      ap (λ (p : Next). p.1.rev) d.is,
      ap (λ (p : Next). p.1.node) d.is ∙ ap (λ l. slice_index_or l (length r.changesets) null_node) (new-nodes r.changesets c other)
          ∙ last-index (changeset_nodes r.changesets) node (length r.changesets) (sym (length-changeset_nodes r is)),
    )

-- ---- the node that is answered

at-index : (xs : List (List ℕ)) (n : ℕ) → n < length xs → slice_get xs n ≡ Some (slice_index_or xs n null_node)
at-index [] n lt = absurd (omega (arith, lt))
at-index (x ∷ xs) zero lt = refl
at-index (x ∷ xs) (suc n) lt = at-index xs n (omega (arith, lt))

last-get : (xs : List (List ℕ)) (x : List ℕ) (n : ℕ) → n ≡ length xs → slice_get (xs ++ x ∷ []) n ≡ Some x
last-get [] x zero e = refl
last-get [] x (suc n) e = absurd (no e)
  where
    no : suc n ≡ 0 → ⊥
    no h = omega (arith, h)
last-get (y ∷ xs) x zero e = absurd (no e)
  where
    no : 0 ≡ suc (length xs) → ⊥
    no h = omega (arith, h)
last-get (y ∷ xs) x (suc n) e = last-get xs x n (omega (arith, e))

told-there : (r : Repo) (found : Option ℕ) (made : ℕ → Repo) (next : Repo) (answer : Answer) → IsRepo r → ((rev : ℕ) → (made rev).changesets ≡ r.changesets) → ((rev : ℕ) → found ≡ Some rev → rev < length r.changesets) → Told found made (next, answer)
    → slice_get (changeset_nodes next.changesets) answer.rev ≡ Some answer.node
told-there r found made next answer is same below t =
    let lt = below t.rev t.named_is in
    let long = length-changeset_nodes r is in
    ap (λ (p : Next). slice_get (changeset_nodes p.0.changesets) p.1.rev) t.is
    ∙ ap (λ l. slice_get (changeset_nodes l) t.rev) (same t.rev)
    ∙ at-index (changeset_nodes r.changesets) t.rev (omega (arith, lt, long))
    ∙ ap (λ l. Some (slice_index_or (changeset_nodes l) t.rev null_node)) (sym (same t.rev))
    ∙ ap (λ (p : Next). Some p.1.node) (sym t.is)

-- each changeset has a node of its own
abbrev HaveNodes : Repo → Type 0
HaveNodes r = length (changeset_nodes r.changesets) ≡ length r.changesets

-- the node that a commit answers is there, and each changeset has a node again
commit-there : (r : Repo) (n : NewChange) (next : Repo) (answer : Answer) → HaveNodes r → step_commit r n ≡ Ok (next, answer) → (slice_get (changeset_nodes next.changesets) answer.rev ≡ Some answer.node) × HaveNodes next
commit-there r n next answer long e =
    let d = commit-did r n (next, answer) e in
    let c = added r n d.revs in
    let other = first-none (unchanged_from r.changesets c.parents.0 c.parents.1 c.tree) _ d.changed in
    let node = node_after (changeset_nodes r.changesets) (changeset_revision (history r.changesets) c) in (
      ap (λ (p : Next). slice_get (changeset_nodes p.0.changesets) p.1.rev) d.is
          ∙ ap (λ l. slice_get l (length r.changesets)) (new-nodes r.changesets c other)
          ∙ last-get (changeset_nodes r.changesets) node (length r.changesets) (sym long)
          ∙ ap (λ x. Some x) (sym (last-index (changeset_nodes r.changesets) node (length r.changesets) (sym long)))
          ∙ ap (λ l. Some (slice_index_or l (length r.changesets) null_node)) (sym (new-nodes r.changesets c other))
          ∙ ap (λ (p : Next). Some p.1.node) (sym d.is),
      subst HaveNodes (sym (ap (λ (p : Next). p.0) d.is))
          (omega (arith, long, ap length (new-nodes r.changesets c other), length-append (changeset_nodes r.changesets) (node ∷ []), length-append r.changesets (c ∷ []))),
    )

-- so do the steps of an import
steps-there : (next : Next) (changes : List NewChange) (done : Next) → slice_get (changeset_nodes next.0.changesets) next.1.rev ≡ Some next.1.node → HaveNodes next.0 → steps_from next changes ≡ Ok done → slice_get (changeset_nodes done.0.changesets) done.1.rev ≡ Some done.1.node
steps-there next [] done there long e = subst (λ (p : Next). slice_get (changeset_nodes p.0.changesets) p.1.rev ≡ Some p.1.node) (ok-next next next done e) there
steps-there next (n ∷ changes) done there long e = by (λ after now more h. steps-there after changes done now more h) (step_commit next.0 n) refl e
  where
    by : ((after : Next) → slice_get (changeset_nodes after.0.changesets) after.1.rev ≡ Some after.1.node → HaveNodes after.0 → steps_from after changes ≡ Ok done → slice_get (changeset_nodes done.0.changesets) done.1.rev ≡ Some done.1.node)
        → (o : Result Next Refusal) → step_commit next.0 n ≡ o → (o >>= λ after. steps_from after changes) ≡ Ok done → slice_get (changeset_nodes done.0.changesets) done.1.rev ≡ Some done.1.node
    by rec (Err w) c h = err-next w done h
    by rec (Ok after) c h = let d = commit-there next.0 n after.0 after.1 long c in rec after d.0 d.1 h

import-there : (r : Repo) (changes : List NewChange) (done : Next) → HaveNodes r → step_import r changes ≡ Ok done → slice_get (changeset_nodes done.0.changesets) done.1.rev ≡ Some done.1.node
import-there r [] done long e = err-next (NothingChanged 0) done e
import-there r (n ∷ changes) done long e = by (step_commit r n) refl e
  where
    by : (o : Result Next Refusal) → step_commit r n ≡ o → (o >>= λ next. steps_from next changes) ≡ Ok done → slice_get (changeset_nodes done.0.changesets) done.1.rev ≡ Some done.1.node
    by (Err w) c h = err-next w done h
    by (Ok next) c h = let d = commit-there r n next.0 next.1 long c in steps-there next changes done d.0 d.1 h

pub answers-there : (r next : Repo) (command : Command) (answer : Answer) → IsRepo r → step r command ≡ Ok (next, answer) → slice_get (changeset_nodes next.changesets) answer.rev ≡ Some answer.node
answers-there r next (Commit n) answer is e = (commit-there r n next answer (length-changeset_nodes r is) e).0
answers-there r next (Import changes) answer is e = import-there r changes (next, answer) (length-changeset_nodes r is) e
answers-there r next (Move name phase force) answer is e =
    told-there r (named r name) (λ rev. record r { phases = moved_phases r rev (phase_number phase) }) next answer is (λ rev. refl) (λ rev n. named-below r name rev is n) (move-told r name (phase_number phase) force (next, answer) e)
answers-there r next (Mark mark name) answer is e =
    told-there r (named r name) (λ rev. record r { bookmarks = with_mark r.bookmarks mark rev }) next answer is (λ rev. refl) (λ rev n. named-below r name rev is n) (mark-told r mark name (next, answer) e)
answers-there r next (Unmark mark) answer is e =
    told-there r (bookmark_named r.bookmarks mark) (λ rev. record r { bookmarks = without_mark r.bookmarks mark }) next answer is (λ rev. refl) (λ rev n. mark-below r.bookmarks mark (length r.changesets) rev is.marks n) (unmark-told r mark (next, answer) e)
