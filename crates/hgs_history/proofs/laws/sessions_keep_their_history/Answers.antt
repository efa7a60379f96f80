use Rattle.std.proofs.Common.{◌≡◌, ◌⊎◌, inl, inr, List, ℕ, sym, subst}
use Rattle.std.specs.Prelude.{Option}
use Rattle.std.specs.List.{AllByRecursion}
use Rattle.hgs_files.specs.Tree.{Tree, after_all}
use Rattle.hgs_files.specs.declared.op.Op.{Op}
use Rattle.hgs_legal.specs.ListsPaths.{ListsOnlyPaths, ListsPaths}
use Rattle.hgs_model.specs.Repo.{Repo}
use Rattle.hgs_ops.specs.Operations.{strays}
use Rattle.hgs_stands.specs.Open.{IsOpen}
use Rattle.hgs_stands.specs.Stands.{Stands}
use Rattle.hgs_script.specs.declared.result.PublishedJob.{PublishedJob}
use Rattle.hgs_session.specs.Calls.{published_of}
use Rattle.hgs_session.specs.Session.{IsWithin}
use Rattle.hgs_history.specs.History.{ArePublished}
use Rattle.hgs_history.proofs.Kept.{none-falls}
use Rattle.hgs_history.proofs.laws.sessions_keep_their_history.Goals as goal

by : ((t : Tree) (r s : Repo) → Stands t r → Stands t s → r ≡ s) → ((strays : List (List ℕ)) (t : Tree) (r s : Repo) → Stands t r → IsOpen strays t s → ⊥) → (t : Tree) (r q : Repo) → Stands t r → ListsPaths t r → Stands t q ⊎ IsOpen strays t q → ListsPaths t q
by one not_open t r q stands lists (inl other) = subst (ListsPaths t) (one t r q stands other) lists
by one not_open t r q stands lists (inr left) = absurd (not_open strays t r q stands left)

pub returns : goal.returns
returns c = λ x r calls last states result makes is stands first shares lists.
    let found = c.sessions_publish_what_they_list.ensures x r calls last makes stands first shares lists in
    let h = found.0 in
    let only : ListsOnlyPaths x.start = λ q is. by c.stands_for_one.ensures c.files_of_standing_trees.ensures.not_open x.start r q stands lists is in
    record {
      log = h;
      start = found.1;
      first = found.2;
      told = found.3;
      legal = c.sessions_make_legal_logs.ensures.legal x calls last h.log makes first shares only found.3;
      published = subst (λ (l : List PublishedJob). ArePublished x.jobs l result.unsure h.last.published) (sym is.published)
          (subst (λ u. ArePublished x.jobs (published_of calls) u h.last.published) (sym is.unsure) found.4);
      once = c.sessions_do_each_job_once.ensures.once x calls last states result is;
      listed = c.sessions_do_each_job_once.ensures.listed x calls last makes first;
      behind = found.5;
      made = found.6;
      lists = subst (λ (t : Tree). ListsOnlyPaths (after_all h.log t)) found.1
          (λ now is. c.writers_keep_lists.ensures.ends h.start h.first now h.log h.last h.stands (subst (λ (t : Tree). ListsPaths t h.first) (sym found.1) (subst (ListsPaths x.start) (sym found.2) lists)) h.run is);
      asked = λ opens reads.
          none-falls h x calls first (λ p v fresh. c.fresh_workers_know_nothing.ensures h x p v found.1 first fresh)
          (λ worker p v answers now seen knows is_seen on does. c.workers_never_fall_back.ensures h x worker calls p v answers now seen opens reads knows is_seen on does)
          0 states result.replies is.replies (subst (λ (o : Option (List Op)). AllByRecursion (IsWithin o) states) found.3 is.within);
    }
