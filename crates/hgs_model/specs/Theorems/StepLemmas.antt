-- What accepted bookmark and phase commands make of a repository is one again.
use Rattle.std.proofs.Common.{◌≡◌, ℕ, zero, suc, ◌+◌, ◌<◌, ◌≤◌, List, [], ◌∷◌, Bool, true, false, cond, ◌&&◌, not, length, map, refl, sym, ◌∙◌, ap, subst, inl, inr, arith}
use Rattle.std.specs.Prelude.{Option, Some, None, Result, Ok, Err, IfSome, slice_get, slice_index, ◌==◌, find, option_map, codes, nat_lt}
use Rattle.std.specs.List.{AllByRecursion, range_with_len}
use Rattle.std.proofs.lemmas.List.Quantifiers.{position-Some}
use Rattle.std.proofs.lemmas.List.FromFn.{length-range_with_len}
use Rattle.std.proofs.lemmas.List.{length-map}
use Rattle.hgs_index.specs.Ancestor.{IsParent}
use Rattle.hgs_index.specs.Revision.{ParentsBefore}
use Rattle.hgs_bytes.specs.Bytes.{same}
use Rattle.hgs_bytes.specs.Text.{ascends}
use Rattle.hgs_index.specs.Revision.{Parents, nodes}
use Rattle.hgs_index.specs.Theorems.RevisionLemmas.{length-nodes_from}
use Rattle.hgs_model.specs.Repo.{Repo, Bookmark, Changeset, all_parents}
use Rattle.hgs_model.specs.History.{history, changeset_nodes, first_of}
use Rattle.hgs_model.specs.IsRepo.{IsRepo, IsPhase}
use Rattle.hgs_index.specs.Hex.{node_at}
use Rattle.hgs_model.specs.Names.{named, number_named, place_in, node_named, bookmark_named, last_of}
use Rattle.hgs_model.specs.Step.{Next, Answer, or_unknown, guard, done_at, with_mark, without_mark, points_at, moved_phases, advanced, retracted, step_move, step_mark, step_unmark, ◌>>=◌}
use Rattle.hgs_model.specs.declared.command.Refusal.{Refusal}
use Rattle.hgs_model.specs.declared.command.Refusal.TheVariants.{NeedsForce, NothingChanged}
use Rattle.hgs_model.specs.Theorems.HistoryLemmas.{length-changelog}
use Rattle.hgs_model.specs.Theorems.PhaseLemmas.{advanced-phases, retracted-phases, length-map_from}
use Rattle.hgs_model.specs.Theorems.BookmarkLemmas.{with_mark-ordered, with_mark-all, filter-ordered}
use Rattle.hgs_model.specs.Theorems.ListLemmas.{some-same, none-some, filter-all}

-- ---- names name changesets that there are

pub number-below : (count : ℕ) (name : List ℕ) (rev : ℕ) → number_named count name ≡ Some rev → rev < count
number-below count name rev e = omega (arith, (position-Some _ (range_with_len 0 count) rev 0 e).0, length-range_with_len 0 count)

pub node-below : (nodes : List (List ℕ)) (name : List ℕ) (rev : ℕ) → node_named nodes name ≡ Some rev → rev < length nodes
node-below nodes name rev e = by (node_at name) e
  where
    by : (o : Option (List ℕ)) → place_in nodes o ≡ Some rev → rev < length nodes
    by None h = none-some _ h
    by (Some node) h = (position-Some _ nodes rev [] h).0

pub mark-below : (marks : List Bookmark) (name : List ℕ) (n rev : ℕ) → AllByRecursion (λ (m : Bookmark). m.rev < n) marks → bookmark_named marks name ≡ Some rev → rev < n
mark-below [] name n rev all e = none-some _ e
mark-below (m ∷ marks) name n rev all e = by (mark-below marks name n rev all.1) (same m.name name) e
  where
    by : (bookmark_named marks name ≡ Some rev → rev < n) → (b : Bool) → option_map (λ (k : Bookmark). k.rev) (cond b (Some m) (find (λ k. same k.name name) marks)) ≡ Some rev → rev < n
    by rec true h = subst (λ k. k < n) (some-same 0 m.rev rev h) all.0
    by rec false h = rec h

pub length-changeset_nodes : (r : Repo) → IsRepo r → length (changeset_nodes r.changesets) ≡ length r.changesets
length-changeset_nodes r is = length-nodes_from [] (history r.changesets).changelog ∙ omega (arith, length-changelog r is)

first-below : (n : ℕ) (a b : Option ℕ) → ((rev : ℕ) → a ≡ Some rev → rev < n) → ((rev : ℕ) → b ≡ Some rev → rev < n) → (rev : ℕ) → first_of a b ≡ Some rev → rev < n
first-below n None b f g rev e = g rev e
first-below n (Some a) b f g rev e = f rev e

last-below : (n rev : ℕ) → last_of n ≡ Some rev → rev < n
last-below zero rev e = none-some _ e
last-below (suc n) rev e = let h : n ≡ rev = some-same 0 n rev e in omega arith

if-below : (n : ℕ) (o : Option ℕ) → IfSome o (λ rev. rev < n) → (rev : ℕ) → o ≡ Some rev → rev < n
if-below n None h rev e = none-some _ e
if-below n (Some x) h rev e = subst (λ k. k < n) (some-same 0 x rev e) h

pub named-below : (r : Repo) (name : List ℕ) (rev : ℕ) → IsRepo r → named r name ≡ Some rev → rev < length r.changesets
named-below r name rev is e = by (same name (codes "null")) (same name (codes ".")) (same name (codes "tip")) e
  where
    last_case : (q : ℕ) → first_of (number_named (length r.changesets) name) (first_of (node_named (changeset_nodes r.changesets) name) (bookmark_named r.bookmarks name)) ≡ Some q → q < length r.changesets
    last_case q h = first-below (length r.changesets) _ _ (number-below (length r.changesets) name)
        (first-below (length r.changesets) _ _ (λ k u. omega (arith, node-below (changeset_nodes r.changesets) name k u, length-changeset_nodes r is)) (λ k u. mark-below r.bookmarks name (length r.changesets) k is.marks u)) q h

    by : (a b c : Bool) → cond a None (cond b r.working.0 (cond c (last_of (length r.changesets)) (first_of (number_named (length r.changesets) name) (first_of (node_named (changeset_nodes r.changesets) name) (bookmark_named r.bookmarks name))))) ≡ Some rev → rev < length r.changesets
    by true b c h = none-some _ h
    by false true c h = if-below (length r.changesets) r.working.0 is.first_working rev h
    by false false true h = last-below (length r.changesets) rev h
    by false false false h = last_case rev h

-- ---- what an accepted command did

pub ok-next : (d : Next) (x y : Next) → ◌≡◌ {A = Result Next Refusal} (Ok x) (Ok y) → x ≡ y
ok-next d x y e = ap (elim [ Ok z ↦ z | Err w ↦ d ]) e

pub err-next : {B : Type 0} (w : Refusal) (y : Next) → ◌≡◌ {A = Result Next Refusal} (Err w) (Ok y) → B
err-next w y e = absurd (no e)
  where
    no : ◌≡◌ {A = Result Next Refusal} (Err w) (Ok y) → ⊥
    no h = cc

done-at : (b : Bool) (w : Refusal) (q next : Repo) (rev : ℕ) (answer : Answer) → (guard b w >>= λ changed. Ok (done_at q rev)) ≡ Ok (next, answer) → next ≡ q
done-at true w q next rev answer e = err-next w (next, answer) e
done-at false w q next rev answer e = sym (ap (λ (p : Next). p.0) (ok-next (next, answer) (done_at q rev) (next, answer) e))

two-at : (a b : Bool) (v w : Refusal) (q next : Repo) (rev : ℕ) (answer : Answer) → (guard a v >>= λ forced. guard b w >>= λ changed. Ok (done_at q rev)) ≡ Ok (next, answer) → next ≡ q
two-at true b v w q next rev answer e = err-next v (next, answer) e
two-at false b v w q next rev answer e = done-at b w q next rev answer e

-- an accepted bookmark command set this bookmark
pub record Marked (r : Repo) (mark : List ℕ) (next : Repo) : Type 0 where
  pub rev : ℕ
  pub there : rev < length r.changesets
  pub is : next ≡ record r { bookmarks = with_mark r.bookmarks mark rev }

pub step_mark-did : (r : Repo) (mark name : List ℕ) (next : Repo) (answer : Answer) → IsRepo r → step_mark r mark name ≡ Ok (next, answer) → Marked r mark next
step_mark-did r mark name next answer is e =
    by (named r name) refl e
  where
    by : (o : Option ℕ) → named r name ≡ o
        → (or_unknown o >>= λ rev. guard (points_at (bookmark_named r.bookmarks mark) rev) (NothingChanged rev) >>= λ changed. Ok (done_at (record r { bookmarks = with_mark r.bookmarks mark rev }) rev)) ≡ Ok (next, answer) → Marked r mark next
    by None n h = err-next _ (next, answer) h
    by (Some rev) n h = record { rev = rev; there = named-below r name rev is n; is = done-at (points_at (bookmark_named r.bookmarks mark) rev) (NothingChanged rev) (record r { bookmarks = with_mark r.bookmarks mark rev }) next rev answer h }

pub step_unmark-did : (r : Repo) (mark : List ℕ) (next : Repo) (answer : Answer) → step_unmark r mark ≡ Ok (next, answer) → next ≡ record r { bookmarks = without_mark r.bookmarks mark }
step_unmark-did r mark next answer e =
    by (bookmark_named r.bookmarks mark) e
  where
    by : (o : Option ℕ) → (or_unknown o >>= λ rev. Ok (done_at (record r { bookmarks = without_mark r.bookmarks mark }) rev)) ≡ Ok (next, answer) → next ≡ record r { bookmarks = without_mark r.bookmarks mark }
    by None h = err-next _ (next, answer) h
    by (Some rev) h = sym (ap (λ (p : Next). p.0) (ok-next (next, answer) (done_at (record r { bookmarks = without_mark r.bookmarks mark }) rev) (next, answer) h))

pub record Moved (r : Repo) (to : ℕ) (next : Repo) : Type 0 where
  pub rev : ℕ
  pub there : rev < length r.changesets
  pub is : next ≡ record r { phases = moved_phases r rev to }

pub step_move-did : (r : Repo) (name : List ℕ) (to : ℕ) (force : Bool) (next : Repo) (answer : Answer) → IsRepo r → step_move r name to force ≡ Ok (next, answer) → Moved r to next
step_move-did r name to force next answer is e =
    by (named r name) refl e
  where
    by : (o : Option ℕ) → named r name ≡ o
        → (or_unknown o >>= λ rev. guard (nat_lt (slice_index r.phases rev) to && not force) (NeedsForce rev) >>= λ forced. guard (to == slice_index r.phases rev) (NothingChanged rev) >>= λ changed. Ok (done_at (record r { phases = moved_phases r rev to }) rev)) ≡ Ok (next, answer) → Moved r to next
    by None n h = err-next _ (next, answer) h
    by (Some rev) n h = record { rev = rev; there = named-below r name rev is n; is = two-at (nat_lt (slice_index r.phases rev) to && not force) (to == slice_index r.phases rev) (NeedsForce rev) (NothingChanged rev) (record r { phases = moved_phases r rev to }) next rev answer h }

-- ---- and it is a repository

pub marks-repo : (r : Repo) (marks : List Bookmark) → IsRepo r → ascends (map (λ (m : Bookmark). m.name) marks) ≡ true → AllByRecursion (λ (m : Bookmark). m.rev < length r.changesets) marks → IsRepo (record r { bookmarks = marks })
marks-repo r marks is a all = record {
  parents = is.parents;
  changesets = is.changesets;
  phase_count = is.phase_count;
  phases = is.phases;
  marks_ordered = a;
  marks = all;
  first_working = is.first_working;
  second_working = is.second_working;
}

pub mark-keeps : (r : Repo) (mark name : List ℕ) (next : Repo) (answer : Answer) → IsRepo r → step_mark r mark name ≡ Ok (next, answer) → IsRepo next
mark-keeps r mark name next answer is e =
    let d = step_mark-did r mark name next answer is e in
    subst IsRepo (sym d.is) (marks-repo r _ is (with_mark-ordered r.bookmarks mark d.rev is.marks_ordered) (with_mark-all _ r.bookmarks mark d.rev is.marks d.there))

pub unmark-keeps : (r : Repo) (mark : List ℕ) (next : Repo) (answer : Answer) → IsRepo r → step_unmark r mark ≡ Ok (next, answer) → IsRepo next
unmark-keeps r mark next answer is e =
    subst IsRepo (sym (step_unmark-did r mark next answer e)) (marks-repo r _ is (filter-ordered _ r.bookmarks is.marks_ordered) (filter-all _ _ r.bookmarks is.marks))

pub phases-repo : (r : Repo) (phases : List ℕ) → IsRepo r → length phases ≡ length r.changesets → ((rev : ℕ) (p : Parents) → slice_get (all_parents r.changesets) rev ≡ Some p → IsPhase phases p (slice_index phases rev)) → IsRepo (record r { phases = phases })
phases-repo r phases is n good = record {
  parents = is.parents;
  changesets = is.changesets;
  phase_count = n;
  phases = good;
  marks_ordered = is.marks_ordered;
  marks = is.marks;
  first_working = is.first_working;
  second_working = is.second_working;
}

parents-at : (n : ℕ) (ps : List Parents) → ParentsBefore n ps → (i : ℕ) (p : Parents) → slice_get ps i ≡ Some p → IfSome p.0 (λ a. a < n + i) × IfSome p.1 (λ b. b < n + i)
parents-at n [] before i p e = none-some _ e
parents-at n (x ∷ ps) before zero p e =
    let h : x ≡ p = some-same x x p e in
    subst (λ (z : Parents). IfSome z.0 (λ a. a < n + 0) × IfSome z.1 (λ b. b < n + 0)) h (wide x.0 before.0, wide x.1 before.1)
  where
    wide : (o : Option ℕ) → IfSome o (λ a. a < n) → IfSome o (λ a. a < n + 0)
    wide None h = tt
    wide (Some a) h = omega arith
parents-at n (x ∷ ps) before (suc i) p e =
    let h = parents-at (suc n) ps before.2 i p e in
    (wide p.0 h.0, wide p.1 h.1)
  where
    wide : (o : Option ℕ) → IfSome o (λ a. a < suc n + i) → IfSome o (λ a. a < n + suc i)
    wide None h = tt
    wide (Some a) h = omega arith

-- a parent comes before its child
pub parent-before : (history : List Parents) → ParentsBefore 0 history → (b q : ℕ) → IsParent history q b → q < b
parent-before history before b q is =
    let h = parents-at 0 history before b is.0 is.1 in
    elim is.2 [
      | inl e ↦ at is.0.0 h.0 e
      | inr e ↦ at is.0.1 h.1 e
    ]
  where
    at : (o : Option ℕ) → IfSome o (λ a. a < 0 + b) → o ≡ Some q → q < b
    at None h e = none-some _ e
    at (Some a) h e = let g : a ≡ q = some-same 0 a q e in omega arith

pub move-keeps : (r : Repo) (name : List ℕ) (to : ℕ) (force : Bool) (next : Repo) (answer : Answer) → to ≤ 2 → IsRepo r → step_move r name to force ≡ Ok (next, answer) → IsRepo next
move-keeps r name to force next answer most is e =
    let d = step_move-did r name to force next answer is e in
    subst IsRepo (sym d.is) (by d.rev d.there (nat_lt to (slice_index r.phases d.rev)))
  where
    count : length r.phases ≡ length (all_parents r.changesets)
    count = is.phase_count ∙ sym (length-map r.changesets (λ (c : Changeset). c.parents))

    by : (rev : ℕ) → rev < length r.changesets → (b : Bool) → IsRepo (record r { phases = cond b (advanced (all_parents r.changesets) rev to r.phases) (retracted (all_parents r.changesets) rev to r.phases) })
    by rev lt true = phases-repo r _ is (length-map_from 0 _ r.phases ∙ is.phase_count)
        (advanced-phases (all_parents r.changesets) r.phases rev to is.parents count (omega (arith, length-map r.changesets (λ (c : Changeset). c.parents))) most is.phases (parent-before (all_parents r.changesets) is.parents))
    by rev lt false = phases-repo r _ is (length-map_from 0 _ r.phases ∙ is.phase_count)
        (retracted-phases (all_parents r.changesets) r.phases rev to is.parents count (omega (arith, length-map r.changesets (λ (c : Changeset). c.parents))) most is.phases (parent-before (all_parents r.changesets) is.parents))
