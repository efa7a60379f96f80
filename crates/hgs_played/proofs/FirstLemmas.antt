-- The beginning of a play.
use Rattle.std.proofs.Common.{◌≡◌, ◌≤◌, ℕ, zero, suc, List, [], ◌∷◌, ◌++◌, length, take, refl, sym, ◌∙◌, ap, subst, arith, zero-le}
use Rattle.std.specs.Prelude.{None, unwrap_or}
use Rattle.hgs_files.specs.declared.op.Op.{Op}
use Rattle.hgs_files.specs.Tree.{Tree, after_all, bytes_at}
use Rattle.hgs_headline.specs.WritersLog.{WritersLog, course_of}
use Rattle.hgs_index.specs.Either.{chunks_either}
use Rattle.hgs_legal.specs.LegalLog.{Turn, last_repo}
use Rattle.hgs_legal.specs.Numbers.{repo_at}
use Rattle.hgs_load.specs.Form.{most_inline_index}
use Rattle.hgs_load.specs.Open.{most_bookmarks_text, most_dirstate, most_requires, most_roots}
use Rattle.hgs_model.specs.Repo.{empty_repo}
use Rattle.hgs_model.specs.declared.command.Command.{Command}
use Rattle.hgs_revlog.specs.Load.{most_data}
use Rattle.hgs_shown.specs.Limits.{OpensWithin}
use Rattle.hgs_shown.specs.Shown.{chunks_of_changelog}
use Rattle.hgs_stands.specs.Places.{bookmarks_path, changelog_data, changelog_index, dirstate_path, requires_path, roots_path}
use Rattle.hgs_views.specs.Course.{OpensAlong, tree_after}
use Rattle.hgs_world.specs.Book.{Commands}
use Rattle.hgs_world.specs.Follows.{Replays}
use Rattle.hgs_world.specs.Start.{new_requires, new_tree}
use Rattle.hgs_world.specs.World.{IsFirst, Scene}
use Rattle.hgs_played.specs.Since.{Beginning, Begins, IsPlayed, commands_of}
use Rattle.hgs_played.proofs.Showing.{run_accepted}

-- a new repository is within the limits of a load
small : (t : Tree) → ((path : List ℕ) → t path ≡ new_tree path) → OpensWithin t empty_repo empty_repo
small t is =
    let none : (path : List ℕ) → new_tree path ≡ None → bytes_at t path ≡ [] = λ path e. ap (λ file. unwrap_or file []) (is path ∙ e) in
    let words : bytes_at t requires_path ≡ new_requires = ap (λ file. unwrap_or file []) (is requires_path) in
    let few : length new_requires ≡ 33 = refl in
    let chunks : chunks_of_changelog t ≡ [] = ap (λ l. chunks_either l (bytes_at t changelog_data)) (none changelog_index refl) ∙ ap (λ l. chunks_either [] l) (none changelog_data refl) in
    record {
      requires = subst (λ l. length l ≤ most_requires) (sym words) (subst (λ n. n ≤ most_requires) (sym few) (omega arith));
      bookmarks_text = subst (λ l. length l ≤ most_bookmarks_text) (sym (none bookmarks_path refl)) zero-le;
      bookmarks = zero-le;
      dirstate = subst (λ l. length l ≤ most_dirstate) (sym (none dirstate_path refl)) zero-le;
      roots = subst (λ l. length l ≤ most_roots) (sym (none roots_path refl)) zero-le;
      inline_index = λ inline. subst (λ l. length l ≤ most_inline_index) (sym (none changelog_index refl)) zero-le;
      changelog = record { few = zero-le; texts = tt; data_end = subst (λ l. length l ≤ most_data) (sym chunks) zero-le };
    }

none_done : (a b : List Op) → a ++ b ≡ [] → (a ≡ []) × (b ≡ [])
none_done [] b e = (refl, e)
none_done (x ∷ a) b e = absurd (let never : ⊥ = cc in never)

none_published : (older : List Command) (turns : List Turn) → older ++ commands_of turns ≡ [] → (older ≡ []) × (turns ≡ [])
none_published [] [] e = (refl, refl)
none_published [] (x ∷ turns) e = absurd (let never : ⊥ = cc in never)
none_published (x ∷ older) turns e = absurd (let never : ⊥ = cc in never)

take_none : (i : ℕ) → take i (let l : List Turn = [] in l) ≡ []
take_none zero = refl
take_none (suc i) = refl

module _ (readers : ℕ) (s : Scene) (b : Beginning) (h : WritersLog) (first : IsFirst readers s) (begins : Begins s.start b) (p : IsPlayed s b h) where
  logs : (b.earlier ≡ []) × (h.log ≡ [])
  logs = none_done b.earlier h.log (sym p.whole ∙ first.log)

  lists : (b.older ≡ []) × (h.last.published ≡ [])
  lists = none_published b.older h.last.published (sym p.published ∙ ap (λ (x : Commands). x.published) first.book)

  -- each of its repositories is the empty one
  pub empty_at : (i : ℕ) → repo_at h.last i ≡ empty_repo
  empty_at i =
      let one : b.first ≡ empty_repo = subst (λ l. Replays empty_repo l b.first) lists.0 begins.leads in
      let start : h.last.first ≡ empty_repo = (run_accepted h.start h.first h.log h.last h.run).0 ∙ p.first ∙ one in
      ap (λ l. last_repo h.last.first (take i l)) lists.1 ∙ ap (last_repo h.last.first) (take_none i) ∙ start

  pub within : OpensAlong (course_of h) [] h.log
  within = λ log is.
      let none : log ≡ [] = (none_done log is.ends.0 (sym is.ends.1 ∙ logs.1)).0 in
      let start : h.start ≡ s.start = p.start ∙ ap (λ l. after_all l s.start) logs.0 in
      let tree : tree_after (course_of h) log ≡ s.start = ap (λ l. after_all l h.start) none ∙ start in
      let x = course_of h in
      subst (λ (t : Tree). OpensWithin t (x.repo (x.marked log)) (x.repo (x.published log))) (sym tree)
      (subst (λ r. OpensWithin s.start r (x.repo (x.published log))) (sym (empty_at (x.marked log))) (subst (λ r. OpensWithin s.start empty_repo r) (sym (empty_at (x.published log))) (small s.start first.start)))
