-- What accepted commits, one after another, made of a repository.
use Rattle.std.proofs.Common.{◌≡◌, ℕ, suc, ◌+◌, List, [], ◌∷◌, ◌++◌, Bool, true, false, ◌||◌, length, refl, sym, ◌∙◌, ap, subst, arith, append_assoc, append-nil, length-append}
use Rattle.std.specs.Prelude.{Option, Some, None, Result, Ok, Err, IfSome, is_some}
use Rattle.std.specs.List.{AllByRecursion}
use Rattle.hgs_bytes.specs.Bytes.{IsPrefixOf}
use Rattle.hgs_index.specs.MarkName.{is_mark_name}
use Rattle.hgs_model.specs.declared.command.NewChange.{NewChange}
use Rattle.hgs_model.specs.declared.command.Refusal.{Refusal}
use Rattle.hgs_model.specs.declared.command.Refusal.TheVariants.{NothingChanged}
use Rattle.hgs_model.specs.History.{history}
use Rattle.hgs_model.specs.Repo.{Bookmark, Changeset, Repo}
use Rattle.hgs_model.specs.Step.{Next, Answer, as_parents, copies_hold, done_at, named_all, new_changeset, nothing_changed, refused_where, sets_bookmark, step_commit, step_import, steps_from, with_new, with_optional_mark, ◌>>=◌}
use Rattle.hgs_model.specs.Valid.{IsNewChange}
use Rattle.hgs_model.specs.Theorems.BookmarkLemmas.{with_mark-all}
use Rattle.hgs_model.specs.Theorems.ListLemmas.{never}
use Rattle.hgs_model.specs.Theorems.StepLemmas.{err-next, ok-next}

-- ---- one commit

-- a commit added this changeset, and answers its number
pub record Added (r : Repo) (n : NewChange) (next : Next) : Type 0 where
  pub c : Changeset
  pub is : next ≡ done_at (with_new r c n) (length r.changesets)

pub commit-added : (r : Repo) (n : NewChange) (next : Next) → step_commit r n ≡ Ok next → Added r n next
commit-added r n next e = by (named_all r n.parents) e
  where
    added : List ℕ → Changeset
    added revs = new_changeset (history r.changesets) (as_parents revs) n

    behind : (revs : List ℕ) (o : Option ℕ) → (refused_where o >>= λ unchanged. Ok (done_at (with_new r (new_changeset (history r.changesets) (as_parents revs) n) n) (length r.changesets))) ≡ Ok next → Added r n next
    behind revs None h = record { c = new_changeset (history r.changesets) (as_parents revs) n; is = sym (ok-next next (done_at (with_new r (new_changeset (history r.changesets) (as_parents revs) n) n) (length r.changesets)) next h) }
    behind revs (Some rev) h = err-next (NothingChanged rev) next h

    copied : (revs : List ℕ) (held : Result (Unit {0}) Refusal)
        → (held >>= λ copied. refused_where (nothing_changed r (new_changeset (history r.changesets) (as_parents revs) n)) >>= λ unchanged. Ok (done_at (with_new r (new_changeset (history r.changesets) (as_parents revs) n) n) (length r.changesets))) ≡ Ok next → Added r n next
    copied revs (Err w) h = err-next w next h
    copied revs (Ok it) h = behind revs (nothing_changed r (new_changeset (history r.changesets) (as_parents revs) n)) h

    by : (all : Result (List ℕ) Refusal)
        → (all >>= λ revs. copies_hold (history r.changesets) (as_parents revs) n.files >>= λ copied. refused_where (nothing_changed r (new_changeset (history r.changesets) (as_parents revs) n)) >>= λ unchanged. Ok (done_at (with_new r (new_changeset (history r.changesets) (as_parents revs) n) n) (length r.changesets))) ≡ Ok next → Added r n next
    by (Err w) h = err-next w next h
    by (Ok revs) h = copied revs (copies_hold (history r.changesets) (as_parents revs) n.files) h

-- ---- commits, one after another

-- the names of all bookmarks are names that a bookmark can have
abbrev pub AreNamed : List Bookmark → Type 0
AreNamed marks = AllByRecursion (λ (m : Bookmark). is_mark_name m.name ≡ true) marks

-- Each changeset and each phase stays, there is one more for each record, and bookmarks stay where no record sets one.
pub record Gone (r : Repo) (changes : List NewChange) (next : Repo) : Type 0 where
  pub changesets : IsPrefixOf r.changesets next.changesets
  pub count : length next.changesets ≡ length r.changesets + length changes
  pub phases : IsPrefixOf r.phases next.phases
  pub named : AreNamed r.bookmarks → AreNamed next.bookmarks
  pub marks : sets_bookmark changes ≡ false → next.bookmarks ≡ r.bookmarks

prefix-trans : {A : Type 0} (xs ys zs : List A) → IsPrefixOf xs ys → IsPrefixOf ys zs → IsPrefixOf xs zs
prefix-trans xs ys zs p q = (p.0 ++ q.0, q.1 ∙ ap (λ l. l ++ q.0) p.1 ∙ append_assoc xs p.0 q.0)

or-left : (a b : Bool) → (a || b) ≡ false → a ≡ false
or-left true b e = e
or-left false b e = refl

or-right : (a b : Bool) → (a || b) ≡ false → b ≡ false
or-right true b e = never e
or-right false b e = e

pub gone-none : (r : Repo) → Gone r [] r
gone-none r = record { changesets = ([], sym (append-nil r.changesets)); count = omega arith; phases = ([], sym (append-nil r.phases)); named = λ a. a; marks = λ e. refl }

pub gone-one : (r : Repo) (n : NewChange) (c : Changeset) → IsNewChange n → Gone r (n ∷ []) (with_new r c n)
gone-one r n c good = record {
  changesets = (c ∷ [], refl);
  count = omega (arith, length-append r.changesets (c ∷ []));
  phases = (_, refl);
  named = named n.bookmark good.bookmark;
  marks = λ e. kept n.bookmark (or-left (is_some n.bookmark) false e);
}
  where
    named : (o : Option (List ℕ)) → IfSome o (λ name. is_mark_name name ≡ true) → AreNamed r.bookmarks → AreNamed (with_optional_mark r.bookmarks o (length r.changesets))
    named None e all = all
    named (Some name) e all = with_mark-all (λ (m : Bookmark). is_mark_name m.name ≡ true) r.bookmarks name (length r.changesets) all e

    kept : (o : Option (List ℕ)) → is_some o ≡ false → with_optional_mark r.bookmarks o (length r.changesets) ≡ r.bookmarks
    kept None e = refl
    kept (Some name) e = never e

pub gone-then : (r mid next : Repo) (n : NewChange) (changes : List NewChange) → Gone r (n ∷ []) mid → Gone mid changes next → Gone r (n ∷ changes) next
gone-then r mid next n changes a b = record {
  changesets = prefix-trans r.changesets mid.changesets next.changesets a.changesets b.changesets;
  count = omega (arith, a.count, b.count);
  phases = prefix-trans r.phases mid.phases next.phases a.phases b.phases;
  named = λ all. b.named (a.named all);
  marks = λ e. b.marks (or-right (is_some n.bookmark) (sets_bookmark changes) e) ∙ a.marks (ap (λ z. z || false) (or-left (is_some n.bookmark) (sets_bookmark changes) e));
}

pub commit-gone : (r : Repo) (n : NewChange) (next : Next) → IsNewChange n → step_commit r n ≡ Ok next → Gone r (n ∷ []) next.0
commit-gone r n next good e = let d = commit-added r n next e in subst (Gone r (n ∷ [])) (sym (ap (λ (p : Next). p.0) d.is)) (gone-one r n d.c good)

pub steps-gone : (next : Next) (changes : List NewChange) (done : Next) → AllByRecursion IsNewChange changes → steps_from next changes ≡ Ok done → Gone next.0 changes done.0
steps-gone next [] done good e = subst (λ (p : Next). Gone next.0 [] p.0) (ok-next next next done e) (gone-none next.0)
steps-gone next (n ∷ changes) done good e = by (λ after h. steps-gone after changes done good.1 h) (step_commit next.0 n) refl e
  where
    by : ((after : Next) → steps_from after changes ≡ Ok done → Gone after.0 changes done.0) → (o : Result Next Refusal) → step_commit next.0 n ≡ o → (o >>= λ after. steps_from after changes) ≡ Ok done → Gone next.0 (n ∷ changes) done.0
    by rec (Err w) c h = err-next w done h
    by rec (Ok after) c h = gone-then next.0 after.0 done.0 n changes (commit-gone next.0 n after good.0 c) (rec after h)

-- an import does not look at an answer before it
import-steps : (r : Repo) (n : NewChange) (changes : List NewChange) (answer : Answer) → step_import r (n ∷ changes) ≡ steps_from (r, answer) (n ∷ changes)
import-steps r n changes answer = refl

pub import-gone : (r : Repo) (changes : List NewChange) (done : Next) → AllByRecursion IsNewChange changes → step_import r changes ≡ Ok done → Gone r changes done.0
import-gone r [] done good e = err-next (NothingChanged 0) done e
import-gone r (n ∷ changes) done good e = steps-gone (r, record { rev = 0; node = [] }) (n ∷ changes) done good e

-- ---- the answer

-- the last changeset is the one that is answered
abbrev pub AnswersLast : Next → Type 0
AnswersLast next = suc next.1.rev ≡ length next.0.changesets

commit-last : (r : Repo) (n : NewChange) (next : Next) → step_commit r n ≡ Ok next → AnswersLast next
commit-last r n next e = let d = commit-added r n next e in subst AnswersLast (sym d.is) (omega (arith, length-append r.changesets (d.c ∷ [])))

steps-last : (next : Next) (changes : List NewChange) (done : Next) → AnswersLast next → steps_from next changes ≡ Ok done → AnswersLast done
steps-last next [] done last e = subst AnswersLast (ok-next next next done e) last
steps-last next (n ∷ changes) done last e = by (λ after it h. steps-last after changes done it h) (step_commit next.0 n) refl e
  where
    by : ((after : Next) → AnswersLast after → steps_from after changes ≡ Ok done → AnswersLast done) → (o : Result Next Refusal) → step_commit next.0 n ≡ o → (o >>= λ after. steps_from after changes) ≡ Ok done → AnswersLast done
    by rec (Err w) c h = err-next w done h
    by rec (Ok after) c h = rec after (commit-last next.0 n after c) h

pub import-last : (r : Repo) (changes : List NewChange) (done : Next) → step_import r changes ≡ Ok done → AnswersLast done
import-last r [] done e = err-next (NothingChanged 0) done e
import-last r (n ∷ changes) done e = by (step_commit r n) refl e
  where
    by : (o : Result Next Refusal) → step_commit r n ≡ o → (o >>= λ next. steps_from next changes) ≡ Ok done → AnswersLast done
    by (Err w) c h = err-next w done h
    by (Ok next) c h = steps-last next changes done (commit-last r n next c) h
